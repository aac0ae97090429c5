-- A search along the lines ahead: what it finds here, or further on; and the turn as two such searches, behind the place and up to it.
use Rattle.std.proofs.Common.{ℕ, suc, ◌-◌, ◌≤◌, ◌≡◌, refl, sym, ap, ap₂, subst, ◌∙◌, ◌≢◌, true, false, ◌&&◌, None, Option, Some, List, [], ◌∷◌, ◌++◌, arith, eqb, eq-eqb, ne_eqb}
use mathlib.Core.Bool.{and-false}
use Rattle.model_base.specs.Lists.{All}
use Rattle.model_base.specs.Finite.{gather}
use Rattle.model_base.proofs.Tests.{test, eq_test, no-some}
use Rattle.model_base.proofs.Lists.{All-append, gather-all}
use Rattle.model_network.specs.Network.{Network}
use Rattle.model_network.specs.Delivery.{numbers_good}
use Rattle.model_network.specs.Run.{Line, is_line}
use Rattle.model_dispatch.specs.Dispatch.{lines_from, lines, behind, up_to, turn, deliverable, first_of}
use Rattle.model_dispatch.proofs.Turns.{Once, behind-at, new}
use Rattle.model_dispatch.proofs.AllLines.{lines-once}
use Rattle.abt_engine.proofs.Testing.{Good, good}
use Rattle.abt_dispatch.specs.Abstract.{line}
use Rattle.abt_dispatch.specs.Walking.{line_if, ahead, ahead_of}
use Rattle.abt_dispatch.proofs.Ahead.{ahead-line, line-none, line-one, before, lines_split}

-- ---- one step of a search

module _ (w : Network) (p : Line) (n i j : ℕ) (h : j ≤ n) where
  -- the search from here on
  abbrev Left : ℕ → Option Line
  Left k = first_of w (up_to p (ahead n i k))

  here : i ≢ j → Left j ≡ first_of w (up_to p (line i j ∷ ahead n i (suc j)))
  here d = ap (λ (l : List Line). first_of w (up_to p l)) (ahead-line n i j h ∙ ap (λ (l : List Line). l ++ ahead n i (suc j)) (line-one i j d))

  pub finds : i ≢ j → deliverable w (line i j) ≡ true → first_of w (up_to p (ahead n i j)) ≡ Some (line i j)
  unfolding first_of up_to is_line
  finds d y = here d ∙ rw (y, first_of)

  -- the last line is here
  pub ends : line i j ≡ p → i ≢ j → deliverable w (line i j) ≡ false → first_of w (up_to p (ahead n i j)) ≡ None
  unfolding first_of up_to is_line
  ends e d y = here d ∙ rw (y, first_of, ← e, eq-eqb i i refl, eq-eqb j j refl)

  elsewhere : (line i j ≡ p → ⊥) → eqb p.from i && eqb p.to j ≡ false
  elsewhere q =
      eq_test p.from i
      (λ a. eq_test p.to j (λ b. absurd (q (ap₂ (λ (x y : ℕ). line x y) (sym a) (sym b)))) (λ b. rw (ne_eqb p.to j b, and-false)))
      (λ a. rw (ne_eqb p.from i a))

  -- it is elsewhere
  goes_on : (line i j ≡ p → ⊥) → deliverable w (line i j) ≡ false → first_of w (up_to p (ahead n i j)) ≡ first_of w (up_to p (ahead n i (suc j)))
  unfolding first_of up_to is_line
  goes_on t y =
      eq_test i j
      (λ q. ap (λ (l : List Line). first_of w (up_to p l)) (ahead-line n i j h ∙ ap (λ (l : List Line). l ++ ahead n i (suc j)) (nothing q)))
      (λ d. here d ∙ rw (y, first_of, elsewhere t))
    where
      nothing : i ≡ j → line_if i j ≡ []
      nothing q = rw q (line-none j)

  pub further : (ls : List Line) → (line i j ≡ p → ⊥) → deliverable w (line i j) ≡ false → ahead n i (suc j) ≡ ls
      → first_of w (up_to p (ahead n i j)) ≡ first_of w (up_to p ls)
  further ls t y e = goes_on t y ∙ ap (λ (l : List Line). first_of w (up_to p l)) e

-- behind the last line
pub over : (w : Network) (p : Line) (n : ℕ) → first_of w (up_to p (ahead_of n None)) ≡ None
unfolding first_of up_to ahead_of
over w p n = refl

-- ---- nowhere to end

-- a line from an agent to itself is none
abbrev Not : ℕ → Line → Type 0
Not k l = is_line k k l ≡ false

apart : (k n i j : ℕ) → All (Not k) (ahead n i j)
unfolding ahead lines_from line_if is_line
apart k n i j =
    All-append (Not k) (gather (suc n - j) j (line_if i)) (gather (n - i) (suc i) (lines_from n))
    (gather-all (Not k) (line_if i) (suc n - j) j (λ y l u. one i y))
    (gather-all (Not k) (lines_from n) (n - i) (suc i) (λ x l u. gather-all (Not k) (line_if x) n 1 (λ y l u. one x y)))
  where
    one : (x y : ℕ) → All (Not k) (line_if x y)
    one x y =
        eq_test x y
        (λ q. rw (q, eq-eqb y y refl) tt)
        (λ d. rw (ne_eqb x y d) (eq_test k x (λ q. rw (ne_eqb k y (λ e. d (sym q ∙ e)), and-false)) (λ e. rw (ne_eqb k x e)), tt))

up_to-all : (p : Line) (ls : List Line) → All (λ (l : Line). is_line p.from p.to l ≡ false) ls → up_to p ls ≡ ls
unfolding up_to
up_to-all p [] h = refl
up_to-all p (l ∷ ls) h = rw (h.0, up_to) (ap (λ (r : List Line). l ∷ r) (up_to-all p ls h.1))

up_to-nowhere : (n i j : ℕ) → up_to (line 0 0) (ahead n i j) ≡ ahead n i j
up_to-nowhere n i j = up_to-all (line 0 0) (ahead n i j) (apart 0 n i j)

-- ---- the turn

lines-ahead : (n : ℕ) → 1 ≤ n → lines n ≡ ahead n 1 1
unfolding before gather
lines-ahead n h = lines_split n 1 1 (omega arith) h (omega arith) h

module _ (w : Network) (i j : ℕ) where
  abbrev n : ℕ
  n = w.problem.count

  pub turn-start : 1 ≤ n → numbers_good w i j ≡ false → turn w (line i j) ≡ up_to (line 0 0) (ahead n 1 1)
  unfolding turn
  turn-start h g = rw (g, turn, up_to-nowhere n 1 1) (lines-ahead n h)

  pub turn-parts : numbers_good w i j ≡ true
      → turn w (line i j) ≡ up_to (line 0 0) (ahead n i (suc j)) ++ up_to (line i j) (ahead n 1 1)
  unfolding turn numbers_good
  turn-parts g = rw (g, turn, up_to-nowhere n i (suc j)) (ap₂ (λ (a b : List Line). a ++ b) late early)
    where
      ok : Good n i j
      ok = good n i j g

      whole : lines n ≡ before n i j ++ (line i j ∷ ahead n i (suc j))
      whole =
          lines_split n i j ok.from_low ok.from-high ok.to_low ok.to_high
          ∙ ap (λ (l : List Line). before n i j ++ l) (ahead-line n i j ok.to_high ∙ ap (λ (l : List Line). l ++ ahead n i (suc j)) (line-one i j ok.apart))

      late : behind (line i j) (lines n) ≡ ahead n i (suc j)
      late = rw whole (behind-at (line i j) (before n i j) (ahead n i (suc j)) (new (line i j) (before n i j) (ahead n i (suc j)) (subst Once whole (lines-once n))))

      early : up_to (line i j) (lines n) ≡ up_to (line i j) (ahead n 1 1)
      early = ap (up_to (line i j)) (lines-ahead n (omega (arith, ok.from_low, ok.from-high)))

-- ---- the first of two lists

pub first-early : (w : Network) (xs ys : List Line) (l : Line) → first_of w xs ≡ Some l → first_of w (xs ++ ys) ≡ Some l
unfolding first_of
first-early w [] ys l e = no-some e
first-early w (x ∷ xs) ys l e =
    test (deliverable w x) (λ t. rw (t, first_of) (rw (t, first_of) at e)) (λ t. rw (t, first_of) (first-early w xs ys l (rw (t, first_of) at e)))

pub first-late : (w : Network) (xs ys : List Line) → first_of w xs ≡ None → first_of w (xs ++ ys) ≡ first_of w ys
unfolding first_of
first-late w [] ys e = refl
first-late w (x ∷ xs) ys e =
    test (deliverable w x) (λ t. absurd (no-some (sym (rw (t, first_of) at e)))) (λ t. rw (t, first_of) (first-late w xs ys (rw (t, first_of) at e)))
