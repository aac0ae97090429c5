-- Tries one after the other: what they leave, what they are answered, and how many deliveries of one line are accepted. Each by induction along
-- the list.
use Rattle.std.proofs.Common.{◌≡◌, refl, ap, ◌∙◌, cond, List, [], ◌∷◌, ◌++◌, map, ℕ, arith}
use mathlib.Core.List.{head-eq_of_cons-eq, tail-eq_of_cons-eq}
use Rattle.model_base.proofs.Tests.{test}
use Rattle.model_base.proofs.Counting.{count_if}
use Rattle.model_network.specs.Network.{Network, with_step, with_channel, handed}
use Rattle.model_network.specs.Delivery.{Answer, is_accepted, rejecting, deliver}
use Rattle.model_network.specs.Run.{Line, Try, one_if, is_line}
use Rattle.theorems_shape.proofs.Outcome.{Outcome, refused, accepted, outcome}
use Rattle.theorems_network.specs.Calls.{line_of, answer_of, attempt_of, replay, answers, accepted_now, accepted_on}

pub replay-append : (a b : List Line) (w : Network) → replay (a ++ b) w ≡ replay b (replay a w)
unfolding replay
replay-append [] b w = refl
replay-append (l ∷ a) b w = replay-append a b (attempt_of l w).network

-- the problem and the rule stay what they are
pub given_stays : (l : Line) (w : Network) → ((attempt_of l w).network.problem ≡ w.problem) × ((attempt_of l w).network.rule ≡ w.rule)
unfolding attempt_of rejecting handed with_step with_channel
given_stays l w = go (outcome w l.from l.to)
  where
    go : Outcome w l.from l.to (deliver w l.from l.to)
        → ((deliver w l.from l.to).network.problem ≡ w.problem) × ((deliver w l.from l.to).network.rule ≡ w.rule)
    go (refused r _ e) = rw e (refl, refl)
    go (accepted m others T e) = rw e (refl, refl)

pub replay-rule : (ls : List Line) (w : Network) → (replay ls w).rule ≡ w.rule
unfolding replay
replay-rule [] w = refl
replay-rule (l ∷ ls) w = replay-rule ls (attempt_of l w).network ∙ (given_stays l w).1

pub replay-problem : (ls : List Line) (w : Network) → (replay ls w).problem ≡ w.problem
unfolding replay
replay-problem [] w = refl
replay-problem (l ∷ ls) w = replay-problem ls (attempt_of l w).network ∙ (given_stays l w).0

answers-append : (a b : List Line) (w : Network) → answers (a ++ b) w ≡ answers a w ++ answers b (replay a w)
unfolding answers replay
answers-append [] b w = refl
answers-append (l ∷ a) b w = ap (λ seen. (attempt_of l w).answer ∷ seen) (answers-append a b (attempt_of l w).network)

-- tried from w one by one, the lines are answered so and leave w'
pub record Follows (w : Network) (ls : List Line) (seen : List Answer) (w' : Network) : Type 0 where
  pub leaves : replay ls w ≡ w'
  pub sees : answers ls w ≡ seen

pub follows-none : (w : Network) → Follows w [] [] w
unfolding replay answers
follows-none w = record { leaves = refl; sees = refl }

pub follows-one : (w : Network) (l : Line) → Follows w (l ∷ []) ((attempt_of l w).answer ∷ []) (attempt_of l w).network
unfolding replay answers
follows-one w l = record { leaves = refl; sees = refl }

pub follows-append : {w w' w'' : Network} {a b : List Line} {s t : List Answer}
    → Follows w a s w' → Follows w' b t w'' → Follows w (a ++ b) (s ++ t) w''
follows-append {w = w} {a = a} {b = b} F G =
    record {
      leaves = rw (replay-append a b w, F.leaves) G.leaves;
      sees = rw (answers-append a b w, F.sees, F.leaves, G.sees);
    }

-- ---- what is accepted

unfoldable pub accepted_in : List Try → List Line
accepted_in [] = []
accepted_in (t ∷ ts) = cond (is_accepted t.answer) (t.line ∷ accepted_in ts) (accepted_in ts)

pub accepted-append : (ts us : List Try) → accepted_in (ts ++ us) ≡ accepted_in ts ++ accepted_in us
unfolding accepted_in
accepted-append [] us = refl
accepted-append (t ∷ ts) us =
    test (is_accepted t.answer) (λ h. rw (h, accepted-append ts us)) (λ h. rw h (accepted-append ts us))

-- the accepted deliveries of one line
pub accepted-count : (i j : ℕ) (ts : List Try) (w : Network) → answers (map line_of ts) w ≡ map answer_of ts
    → accepted_on i j (map line_of ts) w ≡ count_if (is_line i j) (accepted_in ts)
unfolding accepted_in accepted_on accepted_now answers count_if line_of answer_of one_if
accepted-count i j [] w e = refl
accepted-count i j (t ∷ ts) w e =
    let h = head-eq_of_cons-eq e in
    let r = accepted-count i j ts (attempt_of t.line w).network (tail-eq_of_cons-eq e) in
    test (is_accepted t.answer)
    (λ a. test (is_line i j t.line) (λ b. rw (accepted_now, h, a, b, r)) (λ b. rw (accepted_now, h, a, b, r)))
    (λ a. rw (accepted_now, h, a, r) (omega arith))
