-- An agent's bans stand together in the ban table: the part lent to the agent says what the table says of it.
use Rattle.std.proofs.Common.{ℕ, pred, ◌+◌, ◌-◌, ◌≤◌, ◌<◌, ◌≡◌, ap, ◌∙◌, List, arith, length, get_or, take, drop, length-drop, ltb, length-take-le, get_or-take, get_or-drop, le-leb, ltb-true, ltb-false}
use mathlib.Core.Path.{fun_ext}
use borrow.Author.Tests.{lt-leb}
use Rattle.model_base.specs.Finite.{within}
use Rattle.model_base.proofs.Tests.{test, within-true}
use Rattle.model_sheet.specs.Problem.{Problem, max_agents, pairs_before, word_at, is_pair, banned}
use Rattle.abt_choosing.specs.Conflicts.{bans_in}
use Rattle.model_network.specs.Network.{bans_of}
use Rattle.abt_shape.proofs.Pairs.{words-fit}

abbrev pub part : List ℕ → ℕ → ℕ → List ℕ
part bans a j = take (a + (j - 1) - a) (drop a bans)

module _ (p : Problem) (a j : ℕ) (wide : length p.bans ≡ 66) (lo : 1 ≤ j) (hi : j ≤ 12) (e : a ≡ pairs_before (pred j)) where
  room : a + (j - 1) ≤ 66
  room =
      let d : pred j ≤ 11 = omega arith in
      rw e (omega (arith, words-fit (pred j) d))

  pub part_length : length (part p.bans a j) ≡ j - 1
  part_length =
      let d : a + (j - 1) - a ≡ j - 1 = omega arith in
      rw d (length-take-le (j - 1) (drop a p.bans) (rw (length-drop, wide) (omega (arith, room))))

  part_at : (k : ℕ) → 1 ≤ k → k < j → get_or (part p.bans a j) (pred k) 0 ≡ get_or p.bans (word_at k j) 0
  unfolding word_at
  part_at k l h =
      get_or-take (a + (j - 1) - a) (drop a p.bans) (pred k) 0 (omega arith)
      ∙ get_or-drop a p.bans (pred k) 0
      ∙ ap (λ (b : ℕ). get_or p.bans (b + pred k) 0) e

  -- the agents above j, by the part's length and by the table
  pair_is : (k : ℕ) → within (length (part p.bans a j)) k ≡ is_pair k j
  unfolding within is_pair max_agents
  pair_is k =
      rw (part_length, le-leb j 12 hi)
      (test (ltb 0 k)
      (λ s. test (ltb k j)
      (λ t. rw (s, t, le-leb k (j - 1) (omega (arith, ltb-true k j t))))
      (λ t. rw (s, t, lt-leb k (j - 1) (omega (arith, ltb-false k j t)))))
      (λ s. rw s))

  pub part-bans : bans_in (part p.bans a j) ≡ bans_of p j
  unfolding bans_in bans_of banned
  part-bans =
      fun_ext (λ k. fun_ext (λ v. fun_ext (λ w. test (is_pair k j)
      (λ t.
      let h = within-true (length (part p.bans a j)) k (pair_is k ∙ t) in
      rw (pair_is k, part_at k h.0 (omega (arith, h.1, part_length))))
      (λ t. rw (pair_is k, t)))))
