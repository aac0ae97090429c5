-- What a good header says, in plain numbers.
-- Each part of the test is read off in turn; the slot count of agent i is byte 7 + i.
use Rattle.std.proofs.Common.{◌≡◌, ap, ◌∙◌, true, List, ℕ, zero, suc, ◌+◌, ◌≤◌, arith, drop, get_or-take, get_or-drop}
use Rattle.model_base.proofs.Tests.{within-true}
use Rattle.model_sheet.specs.Problem.{max_agents, domain, count_in_range}
use Rattle.model_sheet.specs.Sheet.{max_records, byte_at, agents_in, first_in, records_in, domains_in, without_bans, header_good}
use Rattle.model_sheet.proofs.Fields.{header-fits}

pub domain_byte : (s : List ℕ) (i : ℕ) → 1 ≤ i → i ≤ 12 → domain (without_bans s) i ≡ byte_at s (7 + i)
unfolding max_agents domain byte_at domains_in without_bans
domain_byte s zero l h = absurd (omega arith)
domain_byte s (suc i) l h =
    let e : 8 + i ≡ 7 + suc i = omega arith in
    get_or-take 12 (drop 8 s) i 0 h ∙ get_or-drop 8 s i 0 ∙ ap (byte_at s) e

pub record Header (s : List ℕ) : Type 0 where
  pub agents : agents_in s ≤ 12
  pub records : records_in s ≤ 4224
  pub first : first_in s ≤ records_in s

pub header : (s : List ℕ) → header_good s ≡ true → Header s
unfolding max_agents max_records count_in_range without_bans
header s h =
    let f = header-fits s h in
    record { agents = (within-true 12 (agents_in s) f.count).1; records = f.records; first = f.first }
