-- The slot counts of a problem in range, as they are told, pass their tests and give its slot counts again.
-- They are the first n of the twelve, and the others are zero.
use Rattle.std.proofs.Common.{ℕ, zero, suc, pred, ◌+◌, ◌-◌, ◌≤◌, ◌<◌, ◌≡◌, refl, sym, ap, ◌∙◌, true, List, [], ◌∷◌, ◌++◌, arith, length, get_or, replicate}
use Rattle.model_base.specs.Finite.{within, every, gather}
use Rattle.model_base.specs.Lists.{All}
use Rattle.model_base.proofs.Tests.{to-within}
use Rattle.model_base.proofs.Lists.{All-map, gather-all, to-every}
use Rattle.model_base.proofs.Gathers.{gather-same, gather-split, gather-list}
use Rattle.model_sheet.specs.Problem.{Problem, max_agents, max_domain, domain, with_table, no_bans}
use Rattle.model_sheet.proofs.Range.{Ranged}
use Rattle.model_text.specs.Drafts.{with_slots}
use Rattle.theorems_text.proofs.Slots.{bare}
use Rattle.theorems_text.proofs.Told.{listed, slots_of}

listed-length : (m k : ℕ) (f : ℕ → ℕ) → length (listed m k f) ≡ m
unfolding gather
listed-length zero k f = refl
listed-length (suc m) k f = ap suc (listed-length m (suc k) f)

listed-zeros : (m k : ℕ) (f : ℕ → ℕ) → ((j : ℕ) → k ≤ j → j < k + m → f j ≡ 0) → listed m k f ≡ replicate m 0
unfolding gather
listed-zeros zero k f h = refl
listed-zeros (suc m) k f h =
    rw (h k (omega arith) (omega arith), listed-zeros m (suc k) f (λ j l u. h j (omega arith) (omega arith)))

module _ (p : Problem) (r : Ranged p) where
  pub counts_some : within max_agents (length (slots_of p)) ≡ true
  counts_some = rw (listed-length p.count 1 (domain p)) (to-within max_agents p.count r.low r.high)

  counts-within : All (λ k. (1 ≤ k) × (k ≤ max_domain)) (slots_of p)
  counts-within =
      gather-all (λ k. (1 ≤ k) × (k ≤ max_domain)) (λ i. domain p i ∷ []) p.count 1 (λ i l u. (r.domained i l (omega arith), tt))

  pub counts-good : every (within max_domain) (slots_of p) ≡ true
  counts-good =
      to-every (within max_domain) (slots_of p)
      (All-map (λ k. (1 ≤ k) × (k ≤ max_domain)) (λ k. within max_domain k ≡ true)
      (λ k h. to-within max_domain k h.0 h.1) (slots_of p) counts-within)

  pub counts-small : All (λ k. k ≤ 255) (slots_of p)
  unfolding max_domain
  counts-small = All-map (λ k. (1 ≤ k) × (k ≤ 8)) (λ k. k ≤ 255) (λ k h. omega arith) (slots_of p) counts-within

  -- all twelve
  twelve : listed max_agents 1 (domain p) ≡ p.domains
  unfolding domain
  twelve =
      gather-same max_agents 1 (λ i. domain p i ∷ []) (λ i. get_or p.domains (pred i) 0 ∷ []) (λ i l u. ap (λ (k : ℕ). k ∷ []) (one i l))
      ∙ gather-list max_agents p.domains 0 r.domains_long
    where
      one : (i : ℕ) → 1 ≤ i → domain p i ≡ get_or p.domains (pred i) 0
      one zero l = absurd (omega arith)
      one (suc i) l = refl

  counts-padded : slots_of p ++ replicate (max_agents - p.count) 0 ≡ p.domains
  counts-padded =
      let n = p.count in
      let all : n + (max_agents - n) ≡ max_agents = omega (arith, r.high) in
      let over = listed-zeros (max_agents - n) (1 + n) (domain p) (λ j l u. r.beyond j (omega arith) (omega arith)) in
      sym (ap (λ (l : List ℕ). slots_of p ++ l) over)
      ∙ sym (gather-split n (max_agents - n) 1 (λ i. domain p i ∷ []))
      ∙ ap (λ (m : ℕ). listed m 1 (domain p)) all
      ∙ twelve

  pub counts-back : bare (slots_of p) ≡ with_table p no_bans
  unfolding with_slots with_table
  counts-back = rw (listed-length p.count 1 (domain p), counts-padded)
