-- What a search over the turn finds, by the searches that it is made of: behind the place, then up to it. A primed name is the definitions'.
use Rattle.std.proofs.Common.{ℕ, suc, ◌≤◌, ◌≡◌, refl, sym, ap, ap₂, subst, ◌∙◌, Bool, true, false, not, ◌&&◌, List, ◌++◌, arith, eqb, eq-eqb, eqb-true, Option, Some, None, is_some}
use mathlib.Core.Bool.{false≢true}
use Rattle.std.specs.Option.{option_eq}
use Rattle.model_base.specs.Finite.{within}
use Rattle.model_base.proofs.Tests.{opt, both}
use Rattle.model_network.specs.Delivery.{numbers_good, deliver}
use Rattle.model_network.specs.Run.{Line as Line'}
use Rattle.model_dispatch.specs.Dispatch.{up_to, turn, first_of}
use Rattle.abt_record.specs.declared.Network.{Network}
use Rattle.abt_record.specs.Abstract.{problem_of, network_of}
use Rattle.abt_dispatch.specs.declared.Line.{Line}
use Rattle.abt_dispatch.specs.Abstract.{line, line_of}
use Rattle.abt_dispatch.specs.Walking.{ahead, ahead_of, last_line, SearchedAs, Found, found_in}
use Rattle.abt_dispatch.proofs.Searching.{turn-start, turn-parts, first-early, first-late}

-- ---- what a search answers

module _ (r : Network) (o : Option Line') where
  pub found_as : (l : Line) (w : Network) → o ≡ Some (line_of l) → network_of w ≡ (deliver (network_of r) l.from l.to).network
      → SearchedAs r o (Some (record { line = l; network = w }))
  found_as l w e a = rw e (refl, a)

  pub none-as : o ≡ None → SearchedAs r o None
  none-as e = rw e refl

  -- what is found is some line's
  pub found_is : {X : Type 0} (f : Found) → SearchedAs r o (Some f) → ((l : Line') → o ≡ Some l → X) → X
  found_is f x k =
      opt o
      (λ e. let y : SearchedAs r None (Some f) = subst (λ (p : Option Line'). SearchedAs r p (Some f)) e x in let z : ◌≡◌ {A = ℕ} 0 1 = cc in absurd (omega arith))
      k

  pub none-is : SearchedAs r o None → o ≡ None
  none-is x = opt o (λ e. e) (λ l e. absurd (subst (λ (p : Option Line'). SearchedAs r p None) e x))

-- ---- the last line

module _ (same : Line → Line → Bool) (by-ends : (a b : Line) → same a b ≡ eqb a.from b.from && eqb a.to b.to) where
  pub at-last : (last : Option Line) (l : Line) → option_eq same last (Some l) ≡ true → last ≡ Some l
  at-last None l t = absurd (false≢true t)
  at-last (Some m) l t =
      let h = both (eqb m.from l.from) (eqb m.to l.to) (sym (by-ends m l) ∙ t) in
      ap₂ (λ (x y : ℕ). Some (record { from = x; to = y })) (eqb-true m.from l.from h.0) (eqb-true m.to l.to h.1)

  pub not-last : (last : Option Line) (l : Line) → option_eq same last (Some l) ≡ false → last ≡ Some l → ⊥
  not-last last l t e =
      let yes : option_eq same (Some l) (Some l) ≡ true = by-ends l l ∙ rw (eq-eqb l.from l.from refl, eq-eqb l.to l.to refl) in
      false≢true (sym t ∙ ap (λ (o : Option Line). option_eq same o (Some l)) e ∙ yes)

-- the last line of a walk is elsewhere
pub elsewhere : (last : Option Line) (l : Line) → 1 ≤ l.from → (last ≡ Some l → ⊥) → line_of l ≡ last_line last → ⊥
unfolding last_line
elsewhere None l h n e = let z : l.from ≡ 0 = ap (λ (x : Line'). x.from) e in omega arith
elsewhere (Some m) l h n e =
    n (ap₂ (λ (x y : ℕ). Some (record { from = x; to = y })) (ap (λ (x : Line'). x.from) (sym e)) (ap (λ (x : Line'). x.to) (sym e)))

-- ---- the turn

module _ (r : Network) (i j : ℕ) where
  abbrev n : ℕ
  n = r.count

  abbrev is_good : Bool
  is_good = within n i && within n j && not (eqb i j)

  numbers : (b : Bool) → is_good ≡ b → numbers_good (network_of r) i j ≡ b
  unfolding numbers_good network_of problem_of
  numbers b e = e

  -- the first line in turn
  abbrev InTurn : Option Line'
  InTurn = first_of (network_of r) (turn (network_of r) (line i j))

  -- the first of those ahead, up to a last one
  abbrev Ahead : Option Line → Option Line → Option Line'
  Ahead last o = first_of (network_of r) (up_to (last_line last) (ahead_of n o))

  abbrev start : Option Line
  start = Some (record { from = 1; to = 1 })

  pub from_start : (s : Option Found) → 1 ≤ n → is_good ≡ false → SearchedAs r (Ahead None start) s → SearchedAs r InTurn s
  unfolding network_of problem_of ahead_of last_line
  from_start s h g x =
      subst (λ (o : Option Line'). SearchedAs r o s) (ap (first_of (network_of r)) (sym (turn-start (network_of r) i j h (numbers false g)))) x

  module _ (g : is_good ≡ true) (o : Option Line) (next : ahead n i (suc j) ≡ ahead_of n o) where
    late : List Line'
    late = up_to (line 0 0) (ahead n i (suc j))

    early : List Line'
    early = up_to (line i j) (ahead n 1 1)

    parts : InTurn ≡ first_of (network_of r) (late ++ early)
    unfolding network_of problem_of late early
    parts = ap (first_of (network_of r)) (turn-parts (network_of r) i j (numbers true g))

    first : first_of (network_of r) late ≡ Ahead None o
    unfolding late last_line
    first = ap (λ (l : List Line'). first_of (network_of r) (up_to (line 0 0) l)) next

    pub behind : (s : Option Found) → is_some s ≡ true → SearchedAs r (Ahead None o) s → SearchedAs r InTurn s
    behind None t x = absurd (false≢true t)
    behind (Some f) t x =
        found_is r (Ahead None o) f x
        (λ l e. subst (λ (p : Option Line'). SearchedAs r p (Some f)) (e ∙ sym (parts ∙ first-early (network_of r) late early l (first ∙ e))) x)

    pub before : (s : Option Found) → is_some s ≡ false → SearchedAs r (Ahead None o) s
        → (t : Option Found) → SearchedAs r (Ahead (Some (record { from = i; to = j })) start) t → SearchedAs r InTurn t
    unfolding early last_line ahead_of
    before None n x t y =
        let e = none-is r (Ahead None o) x in
        subst (λ (p : Option Line'). SearchedAs r p t) (sym (parts ∙ first-late (network_of r) late early (first ∙ e))) y
    before (Some f) n x t y = absurd (false≢true (sym n))

-- something is found where a line is
pub found-some : (o : Option Line) (left : Network) → is_some (found_in o left) ≡ is_some o
found-some None left = refl
found-some (Some l) left = refl
