-- A round's own steps: its accepted tries lie within its visits, and it counts exactly if as many are accepted as it visits lines.
use Rattle.std.proofs.Common.{◌≡◌, refl, sym, ◌∙◌, subst, true, List, [], ◌∷◌, ◌++◌, map, append-nil, append_assoc, ℕ, length, length-append, eqb-true, eq-eqb}
use mathlib.Core.List.{map-append}
use Rattle.model_base.proofs.Tests.{test}
use Rattle.model_base.proofs.Counting.{count_if, Sublist, empty, kept, omitted, sublist-append}
use Rattle.model_network.specs.Network.{Network}
use Rattle.model_network.specs.Delivery.{Answer, Accepted, Rejected, is_accepted, deliver}
use Rattle.model_network.specs.Run.{Line, is_line, Try, visits, Sweep, begin_round, counts, tally, skipped, attempt, sweep, round, is_full}
use Rattle.theorems_shape.proofs.Runs.{round_of}
use Rattle.theorems_network.specs.Calls.{line_of, answer_of, attempt_of, accepted_on}
use Rattle.theorems_network.proofs.Tries.{
  Follows,
  follows-none,
  follows-one,
  follows-append,
  accepted_in,
  accepted-append,
  accepted-count,
}

-- ---- a round

-- a round begun at w, with these lines visited
pub record Swept (w : Network) (ls : List Line) (s : Sweep) : Type 0 where
  pub follows : Follows w (map line_of s.tried) (map answer_of s.tried) s.network
  pub delivered : s.delivered ≡ length (accepted_in s.tried)
  pub within : Sublist (accepted_in s.tried) ls

one_more : (l : Line) (a : Answer)
    → (counts a ≡ length (accepted_in (record { line = l; answer = a } ∷ [])))
    × Sublist (accepted_in (record { line = l; answer = a } ∷ [])) (l ∷ [])
unfolding counts accepted_in is_accepted
one_more l Accepted = (refl, kept empty)
one_more l (Rejected r) = (refl, omitted empty)

swept-attempt : (w : Network) (ls : List Line) (s : Sweep) (l : Line) → Swept w ls s → Swept w (ls ++ (l ∷ [])) (attempt s l)
unfolding attempt tally line_of answer_of attempt_of
swept-attempt w ls s l S =
    test (skipped s l)
    (λ h. rw (h, attempt) (record {
      follows = S.follows;
      delivered = S.delivered;
      within = subst (λ (xs : List Line). Sublist xs (ls ++ (l ∷ []))) (append-nil (accepted_in s.tried))
          (sublist-append S.within (omitted empty));
    }))
    (λ h. let a = (deliver s.network l.from l.to).answer in
    let o = one_more l a in
    let t : Try = record { line = l; answer = a } in
    rw (h, attempt) (record {
      follows = rw (map-append line_of s.tried (t ∷ []), map-append answer_of s.tried (t ∷ []))
          (follows-append S.follows (follows-one s.network l));
      delivered = rw (accepted-append s.tried (t ∷ []), length-append (accepted_in s.tried) (accepted_in (t ∷ [])), S.delivered, o.0);
      within = rw (accepted-append s.tried (t ∷ [])) (sublist-append S.within o.1);
    }))

swept : (w : Network) (done ls : List Line) (s : Sweep) → Swept w done s → Swept w (done ++ ls) (sweep s ls)
unfolding sweep
swept w done [] s S = rw (append-nil done) S
swept w done (l ∷ ls) s S =
    rw (← append_assoc done (l ∷ []) ls) (swept w (done ++ (l ∷ [])) ls (attempt s l) (swept-attempt w done s l S))

pub round-swept : (w : Network) → Swept w (visits w) (round w)
unfolding round begin_round accepted_in
round-swept w =
    swept w [] (visits w) (begin_round w) (record { follows = follows-none w; delivered = refl; within = empty })

-- the accepted deliveries of one line
pub accepted-on : (w : Network) (i j : ℕ)
    → accepted_on i j (map line_of (round_of w).tried) w ≡ count_if (is_line i j) (accepted_in (round_of w).tried)
unfolding round_of
accepted-on w i j = accepted-count i j (round w).tried w (round-swept w).follows.sees

-- ---- whether it counts

-- it counts exactly if as many tries are accepted as it visits lines
pub counts-if : (w : Network) → length (accepted_in (round_of w).tried) ≡ length (visits w) → (round_of w).full ≡ true
unfolding round_of is_full
counts-if w e = eq-eqb _ _ ((round-swept w).delivered ∙ e)

pub counts-only-if : (w : Network) → (round_of w).full ≡ true → length (accepted_in (round_of w).tried) ≡ length (visits w)
unfolding round_of is_full
counts-only-if w e = sym (round-swept w).delivered ∙ eqb-true _ _ e
