-- The visits of a network in shape, and whether nothing waits, by the rows of counts: channels to agents beyond n hold nothing.
use Rattle.std.proofs.Common.{ℕ, ◌≤◌, ◌<◌, Bool, true, not, ◌≡◌, refl, sym, ap, ◌∙◌, List, [], ◌∷◌, arith, eqb, leb, length, replicate, eq-eqb, ne_eqb, leb-true, leb-false}
use Rattle.model_base.specs.Finite.{all_to}
use Rattle.model_base.proofs.Tests.{test, not-not}
use Rattle.model_base.proofs.Lists.{All}
use Rattle.model_base.proofs.Peeling.{same_test}
use Rattle.model_base.proofs.Search.{all_to-at, to-all_to}
use Rattle.model_sheet.specs.Problem.{max_agents}
use Rattle.model_agent.specs.Message.{Message as Message', Info as Info', Back as Back', AddLink as AddLink'}
use Rattle.model_agent.specs.Shape.{max_named}
use Rattle.model_network.specs.Network.{Network as Network'}
use Rattle.model_network.specs.Shape.{in_shape}
use Rattle.model_network.specs.Run.{is_empty, idle, visits}
use Rattle.theorems_shape.proofs.ShapeClauses.{MessageShaped, Shaped, shaped}
use Rattle.model_base.proofs.Gathers.{gather-same, gather-low}
use Rattle.abt_record.specs.declared.Network.{Network}
use Rattle.abt_record.specs.Abstract.{is_channel, row_of, problem_of, network_of}
use Rattle.abt_shape.proofs.Numbering.{ends}
use Rattle.abt_record_laws.specs.Held.{held_at, Clean}
use Rattle.abt_record_laws.proofs.Changes.{channel-held}
use Rattle.abt_engine.specs.Lines.{line, cell, row, rows}

-- an agent beyond n listens to nobody
empty-beyond : (w : Network') → Shaped w → (i j : ℕ) → 1 ≤ i → i ≤ w.problem.count → w.problem.count < j → j ≤ 12 → w.channel i j ≡ []
unfolding max_agents max_named
empty-beyond w s i j li hi lj hj =
    none (w.channel i j) (s.channels i j li (omega (arith, s.range.high)) (omega arith) hj).messages
  where
    never : (m : Message') → MessageShaped w i j m → ⊥
    never (Info' v) h = (s.beyond j lj hj).deaf i li (omega (arith, s.range.high)) h.2
    never (Back' lhs v) h = omega (arith, h.0)
    never AddLink' h = omega (arith, h.0)

    none : (ms : List Message') → All (MessageShaped w i j) ms → ms ≡ []
    none [] h = refl
    none (m ∷ ms) h = absurd (never m h.0)

module _ (o : Network) (s : in_shape (network_of o) ≡ true) (clean : Clean o.counts) where
  few : o.count ≤ 12
  unfolding network_of problem_of max_agents
  few = (shaped (network_of o) s).range.high

  held-beyond : (i j : ℕ) → 1 ≤ i → i ≤ o.count → o.count < j → held_at o.counts i j ≡ 0
  unfolding held_at network_of problem_of
  held-beyond i j li hi lj =
      test (is_channel i j)
      (λ t. sym (channel-held o i j) ∙ ap length (empty-beyond (network_of o) (shaped (network_of o) s) i j li hi lj (ends i j t).to_high))
      (λ t. rw (t, held_at))

  pub visits-are : visits (network_of o) ≡ rows o.counts o.count 1
  unfolding visits network_of problem_of max_named
  visits-are =
      gather-same o.count 1 _ (λ i. row (row_of o.counts i) i) (λ i li hi.
      gather-same o.count 1 _ (cell (row_of o.counts i) i) (λ j lj hj. ap (λ (k : ℕ). replicate k (line i j)) (channel-held o i j ∙ sym (clean i j)))
      ∙ sym (gather-low o.count 16 (cell (row_of o.counts i) i) (omega (arith, few))
      (λ j lj hj. ap (λ (k : ℕ). replicate k (line i j)) (clean i j ∙ held-beyond i j li (omega arith) lj))))

  empty-is : (ms : List Message') → is_empty ms ≡ eqb (length ms) 0
  unfolding is_empty
  empty-is [] = refl
  empty-is (m ∷ ms) = sym (ne_eqb (length (m ∷ ms)) 0 (λ e. absurd (omega arith)))

  idle-is : idle (network_of o) ≡ all_to o.count (λ i. all_to max_agents (λ j. eqb (held_at o.counts i j) 0))
  unfolding idle network_of problem_of max_agents
  idle-is =
      same_test _ _
      (λ a. to-all_to o.count _ (λ i li hi. to-all_to 12 _ (λ j lj hj.
      test (leb j o.count)
      (λ t. rw (← empty-at i j) (all_to-at o.count _ (all_to-at o.count _ a i li hi) j lj (leb-true j o.count t)))
      (λ t. eq-eqb _ 0 (held-beyond i j li hi (leb-false j o.count t))))))
      (λ a. to-all_to o.count _ (λ i li hi. to-all_to o.count _ (λ j lj hj.
      rw (empty-at i j) (all_to-at 12 _ (all_to-at o.count _ a i li hi) j lj (omega (arith, few))))))
    where
      empty-at : (i j : ℕ) → is_empty ((network_of o).channel i j) ≡ eqb (held_at o.counts i j) 0
      empty-at i j = empty-is ((network_of o).channel i j) ∙ ap (λ (k : ℕ). eqb k 0) (channel-held o i j)

-- whether something waits, as the code tests it
abbrev pub Waits : Network → ℕ → Bool → Type 0
Waits o n w = Clean o.counts → w ≡ not (all_to n (λ i. all_to max_agents (λ j. eqb (held_at o.counts i j) 0)))

pub idle-by : (o : Network) → in_shape (network_of o) ≡ true → Clean o.counts → (n : ℕ) → n ≡ o.count → (w : Bool) → Waits o n w
    → not w ≡ idle (network_of o)
idle-by o s clean n e w f =
    ap not (f clean) ∙ not-not _
    ∙ ap (λ (k : ℕ). all_to k (λ i. all_to max_agents (λ j. eqb (held_at o.counts i j) 0))) e
    ∙ sym (idle-is o s clean)
