-- The table of bans as bytes: by lower, then higher agent, while the code's table is by higher agent.
use Rattle.std.proofs.Common.{ℕ, suc, ◌+◌, ◌-◌, ◌*◌, ◌≤◌, ◌<◌, ◌≡◌, List, [], arith, length, get_or, length-append}
use Rattle.model_base.specs.Finite.{gather}
use Rattle.model_base.proofs.Lists.{gather-last}
use Rattle.model_sheet.specs.Problem.{Problem, max_agents, word_at}
use Rattle.model_image.specs.Bytes.{bytes_of}
use Rattle.model_image.specs.Image.{ban_bytes}
use Rattle.model_image.specs.Reading.{bans_length}
use Rattle.model_image.proofs.Bytes.{bytes-length}
use Rattle.model_image.proofs.Stretches.{same-lengths}
use Rattle.model_image.proofs.Lengths.{bans-length}
use Rattle.support_buffer.proofs.Puts.{room-left}

-- those of one lower agent
abbrev pub word_bytes : List ℕ → ℕ → ℕ → List ℕ
word_bytes bans lower j = bytes_of 8 (get_or bans (word_at lower j) 0)

abbrev pub row_bytes : List ℕ → ℕ → List ℕ
row_bytes bans lower = gather (max_agents - lower) (suc lower) (word_bytes bans lower)

row-length : (bans : List ℕ) (lower : ℕ) → length (row_bytes bans lower) ≡ 8 * (12 - lower)
unfolding max_agents
row-length bans lower = same-lengths (12 - lower) (suc lower) 8 (word_bytes bans lower) (λ j _ _. bytes-length 8 (get_or bans (word_at lower j) 0))

pub rows-length : (bans : List ℕ) → length (gather 12 1 (row_bytes bans)) ≡ 528
unfolding ban_bytes bans_length max_agents
rows-length bans = let p : Problem = record { count = 0; domains = []; bans = bans } in bans-length p

-- there is as much left as the next lower agent has
pub row_room : (bans : List ℕ) (k : ℕ) → k < 12 → length (gather k 1 (row_bytes bans)) + 8 * (12 - (1 + k)) ≤ 528
row_room bans k h = omega (arith, room-left (row_bytes bans) 12 1 k (omega arith), row-length bans (1 + k), rows-length bans)

pub more-rows : (bans : List ℕ) (lower k : ℕ) → 1 ≤ lower → k ≡ lower
    → length (gather k 1 (row_bytes bans)) ≡ length (gather (lower - 1) 1 (row_bytes bans)) + 8 * (12 - lower)
more-rows bans lower k h e =
    let m = lower - 1 in
    let s : k ≡ suc m = omega arith in
    let here : 1 + m ≡ lower = omega arith in
    rw (s, gather-last m 1 (row_bytes bans), length-append, here) (omega (arith, row-length bans lower))
