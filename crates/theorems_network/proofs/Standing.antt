-- One round, visit by visit. If no verdict stopped it, it was whole: each line's visits were all accepted, or one of them met a 10. And one that
-- delivered nothing leaves the network as it was.
use Rattle.std.proofs.Common.{◌≡◌, refl, sym, ap, ◌∙◌, ◌⊎◌, inl, inr, true, false, List, [], ◌∷◌, ◌++◌, map, ℕ, ◌+◌, ◌≤◌, arith, length}
use mathlib.Core.List.{head-eq_of_cons-eq, tail-eq_of_cons-eq}
use Rattle.model_base.proofs.Tests.{test, or_left, or-false-both}
use Rattle.model_base.proofs.Lists.{All}
use Rattle.model_base.proofs.Counting.{count_if, count-append}
use Rattle.model_network.specs.Network.{Network}
use Rattle.model_network.specs.Shape.{in_shape}
use Rattle.model_network.specs.Delivery.{rejection_number, Accepted, is_accepted, Delivery}
use Rattle.model_network.specs.Run.{Line, Try, visits, Sweep, stopped, is_no_room, passed_over, tally, skipped, round, is_line}
use Rattle.theorems_shape.proofs.Lines.{line-ends}
use Rattle.theorems_shape.proofs.Outcome.{numbers}
use Rattle.theorems_shape.proofs.Visits.{visits-least}
use Rattle.theorems_shape.proofs.Runs.{round_of}
use Rattle.theorems_shape.proofs.Passing.{passed-tally, passed-now}
use Rattle.theorems_shape.proofs.RunFaults.{Tried, turned, taken, VisitsKeep, kept-by-visits}
use Rattle.theorems_network.specs.Calls.{line_of, answer_of, replay, answers, VisitedThrough, Whole, DeliveredNothing}
use Rattle.theorems_network.proofs.Shut.{rejected-stays}
use Rattle.theorems_network.proofs.Tries.{accepted_in, accepted-append}
use Rattle.theorems_network.proofs.Swept.{round-swept, accepted-on}

-- ---- not stopped: each line was visited to its end

abbrev line : ℕ → ℕ → Line
line i j = record { from = i; to = j }

-- all visits of the line were accepted, or one met a 10
abbrev Visited : List Line → Sweep → ℕ → ℕ → Type 0
Visited done s i j = (count_if (is_line i j) done ≤ count_if (is_line i j) (accepted_in s.tried)) ⊎ (passed_over s (line i j) ≡ true)

passed-same : (s : Sweep) (i j : ℕ) (l : Line) → is_line i j l ≡ true → passed_over s l ≡ true → passed_over s (line i j) ≡ true
passed-same s i j l e h = let q = line-ends i j l e in rw (q.0, q.1) h

visited-tally : (done : List Line) (s : Sweep) (l : Line) (d : Delivery) → Tried s.network l.from l.to d → (i j : ℕ) → Visited done s i j
    → Visited (done ++ (l ∷ [])) (tally s l d) i j
unfolding tally count_if accepted_in is_accepted is_no_room rejection_number
visited-tally done s l d e i j seen = go seen e
  where
    t : Try
    t = record { line = l; answer = d.answer }

    here : count_if (is_line i j) (done ++ (l ∷ [])) ≡ count_if (is_line i j) done + count_if (is_line i j) (l ∷ [])
    here = count-append (is_line i j) done (l ∷ [])

    accepted : count_if (is_line i j) (accepted_in (tally s l d).tried)
        ≡ count_if (is_line i j) (accepted_in s.tried) + count_if (is_line i j) (accepted_in (t ∷ []))
    accepted = rw (accepted-append s.tried (t ∷ [])) (count-append (is_line i j) (accepted_in s.tried) (accepted_in (t ∷ [])))

    gains : d.answer ≡ Accepted → count_if (is_line i j) (accepted_in (t ∷ [])) ≡ count_if (is_line i j) (l ∷ [])
    gains a = rw a

    now : is_no_room d.answer ≡ true → is_line i j l ≡ true → passed_over (tally s l d) (line i j) ≡ true
    now r h = passed-same (tally s l d) i j l h (passed-now s l d r)

    go : Visited done s i j → Tried s.network l.from l.to d → Visited (done ++ (l ∷ [])) (tally s l d) i j
    go (inr h) _ = inr (passed-tally s l d (line i j) ∙ or_left (passed_over s (line i j)) _ h)
    go (inl h) (taken _ _ _ a _) = inl (omega (arith, here, accepted, gains a))
    go (inl h) (turned a _) =
        test (is_line i j l)
        (λ q. inr (now (rw a) q))
        (λ q. inl (omega (arith, rw q at here, accepted)))

visited-past : (done : List Line) (s : Sweep) (l : Line) → passed_over s l ≡ true → (i j : ℕ) → Visited done s i j
    → Visited (done ++ (l ∷ [])) s i j
unfolding count_if
visited-past done s l p i j (inr h) = inr h
visited-past done s l p i j (inl h) =
    test (is_line i j l)
    (λ q. inr (passed-same s i j l q p))
    (λ q. inl (omega (arith, rw q at (count-append (is_line i j) done (l ∷ [])))))

visited : VisitsKeep (λ done s. stopped s ≡ false → (i j : ℕ) → Visited done s i j)
unfolding skipped
visited =
    record {
      skips = λ done s l e seen still i j. visited-past done s l (rw (still, skipped) at e) i j (seen still i j);
      tries = λ done s l d e t seen _ i j. visited-tally done s l d t i j (seen (or-false-both (stopped s) _ e).0 i j);
    }

-- a round that nothing stopped was whole
pub not_stopped : (w : Network) → in_shape w ≡ true → stopped (round w) ≡ false → Whole w (round_of w)
unfolding round_of count_if passed_over
not_stopped w s e i j g =
    let n = numbers w i j g in
    go (visits-least w i j n.0 n.1 n.2 n.3) (kept-by-visits _ visited w s (λ _ i j. inl (omega arith)) e i j)
  where
    go : length (w.channel i j) ≤ count_if (is_line i j) (visits w) → Visited (visits w) (round w) i j
        → VisitedThrough w (round_of w) i j
    go least (inl h) = inl (rw (accepted-on w i j) (omega arith))
    go least (inr h) = inr h

-- ---- nothing delivered: the network is as it was

all-rejected : (ts : List Try) (w : Network) → answers (map line_of ts) w ≡ map answer_of ts → All (λ t. is_accepted t.answer ≡ false) ts
    → replay (map line_of ts) w ≡ w
unfolding replay answers line_of answer_of
all-rejected [] w e h = refl
all-rejected (t ∷ ts) w e h =
    let same = rejected-stays t.line w (rw (head-eq_of_cons-eq e) h.0) in
    ap (replay (map line_of ts)) same ∙ all-rejected ts w (ap (answers (map line_of ts)) (sym same) ∙ tail-eq_of_cons-eq e) h.1

pub nothing-moves : (w : Network) → DeliveredNothing (round_of w) → (round w).network ≡ w
unfolding round_of
nothing-moves w h =
    sym (round-swept w).follows.leaves ∙ all-rejected (round w).tried w (round-swept w).follows.sees h

rejects-all : (ts : List Try) → All (λ t. is_accepted t.answer ≡ false) ts → accepted_in ts ≡ []
unfolding accepted_in
rejects-all [] h = refl
rejects-all (t ∷ ts) h = rw h.0 (rejects-all ts h.1)

all-rejects : (ts : List Try) → length (accepted_in ts) ≡ 0 → All (λ t. is_accepted t.answer ≡ false) ts
unfolding accepted_in
all-rejects [] e = tt
all-rejects (t ∷ ts) e =
    test (is_accepted t.answer)
    (λ a. absurd (omega (arith, rw a at e)))
    (λ a. (a, all-rejects ts (rw a at e)))

pub nothing-delivered : (w : Network) → DeliveredNothing (round_of w) → (round w).delivered ≡ 0
unfolding round_of
nothing-delivered w h = rw ((round-swept w).delivered, rejects-all (round w).tried h)

pub delivered-nothing : (w : Network) → (round w).delivered ≡ 0 → DeliveredNothing (round_of w)
unfolding round_of
delivered-nothing w e = all-rejects (round w).tried (sym (round-swept w).delivered ∙ e)
