-- Slot counts that pass their tests make a problem in range.
-- Below n stand the counts that were said, and from there on zeros.
use Rattle.std.proofs.Common.{ℕ, zero, suc, ◌+◌, ◌-◌, ◌≤◌, ◌<◌, ◌≡◌, ◌∙◌, true, List, [], ◌∷◌, not-suc-le-zero, le_of_suc-le-suc, arith, length, get_or, replicate, length-append, get_or-append-add}
use lib.ListN.{length-replicate, get_or-append}
use Rattle.model_base.specs.Finite.{within, every}
use Rattle.model_base.specs.Lists.{All}
use Rattle.model_base.proofs.Tests.{within-true}
use Rattle.model_base.proofs.Lists.{every-all}
use Rattle.model_base.proofs.Arrays.{get_or-same}
use Rattle.model_sheet.specs.Problem.{Problem, max_agents, max_domain, domain}
use Rattle.model_sheet.proofs.Range.{Ranged, no_words, none-long}
use Rattle.model_text.specs.Drafts.{no_draft, with_slots}

-- the problem with these slot counts and no ban
abbrev pub bare : List ℕ → Problem
bare domains = (with_slots no_draft domains).problem

-- what stands behind them
abbrev zeros : List ℕ → List ℕ
zeros domains = replicate (max_agents - length domains) 0

pub all-at : {A : Type 0} (P : A → Type 0) (l : List A) (k : ℕ) (x : A) → All P l → k < length l → P (get_or l k x)
all-at P [] k x h u = absurd (not-suc-le-zero u)
all-at P (y ∷ l) zero x h u = h.0
all-at P (y ∷ l) (suc k) x h u = all-at P l k x h.1 (le_of_suc-le-suc u)

module _ (domains : List ℕ) (count : within max_agents (length domains) ≡ true) (sizes : every (within max_domain) domains ≡ true) where
  said : (i : ℕ) → 1 ≤ i → i ≤ length domains → within max_domain (domain (bare domains) i) ≡ true
  unfolding domain with_slots
  said zero l h = absurd (omega arith)
  said (suc i) l h =
      rw (get_or-append domains (zeros domains) 0 i h)
      (all-at (λ k. within max_domain k ≡ true) domains i 0 (every-all (within max_domain) domains sizes) h)

  unsaid : (i : ℕ) → length domains < i → domain (bare domains) i ≡ 0
  unfolding domain with_slots
  unsaid zero h = absurd (omega arith)
  unsaid (suc i) h =
      let there : length domains + (i - length domains) ≡ i = omega arith in
      rw (← there)
      (get_or-append-add domains (zeros domains) (i - length domains) 0 ∙ get_or-same {A = ℕ} (max_agents - length domains) 0 (i - length domains))

  pub slots-ranged : Ranged (bare domains)
  unfolding with_slots
  slots-ranged =
      let c = within-true max_agents (length domains) count in
      record {
        domains_long = rw (length-append domains (zeros domains), length-replicate {A = ℕ} (max_agents - length domains) 0) (omega arith);
        bans_long = none-long;
        low = c.0;
        high = c.1;
        domained = λ i l h. within-true _ _ (said i l h);
        beyond = λ i l h. unsaid i l;
        words = no_words (domain (bare domains));
      }
