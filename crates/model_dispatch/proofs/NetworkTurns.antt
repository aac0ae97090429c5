-- The turn of a network: it goes round all its lines once, so that each line has its place there, and a delivery leaves it.
use Rattle.std.proofs.Common.{◌≡◌, refl, sym, ap, ◌∙◌, Bool, true, not, ◌&&◌, List, [], ◌∷◌, ◌++◌, append-nil, ℕ, ◌*◌, ◌-◌, ◌≤◌, ◌<◌, arith, eqb, length, length-append}
use Rattle.model_base.specs.Finite.{within}
use Rattle.model_base.proofs.Tests.{test, both, not-true}
use Rattle.model_base.proofs.Counting.{count_if}
use Rattle.model_base.proofs.Splits.{SplitAt, split_at}
use Rattle.model_network.specs.Network.{Network}
use Rattle.model_network.specs.Delivery.{numbers_good}
use Rattle.model_network.specs.Run.{Line, is_line}
use Rattle.model_dispatch.specs.Dispatch.{lines, behind, up_to, turn}
use Rattle.model_dispatch.proofs.Turns.{this-same, both-parts, Round, round-length, round-count, next-round}
use Rattle.model_dispatch.proofs.AllLines.{lines-once, lines-has, lines-length}

turn-round : (w : Network) (p : Line) → Round (lines w.problem.count) (turn w p)
unfolding turn
turn-round w p =
    test (numbers_good w p.from p.to)
    (λ g. record { late = behind p ls; early = up_to p ls; whole = sym (both-parts p ls); turned = rw (g, turn) })
    (λ g. record { late = ls; early = []; whole = refl; turned = rw (g, turn) (sym (append-nil ls)) })
  where
    ls : List Line
    ls = lines w.problem.count

-- the turn from a line of the turn on
pub turn-behind : (w : Network) (p : Line) (before : List Line) (l : Line) (after : List Line) → numbers_good w l.from l.to ≡ true
    → turn w p ≡ before ++ (l ∷ after) → turn w l ≡ after ++ (before ++ (l ∷ []))
unfolding turn
turn-behind w p before l after g e =
    let n = w.problem.count in
    rw (g, turn) (next-round (lines n) (turn w p) before l after (lines-once n) (turn-round w p) e)

pub turn-stays : (w v : Network) (p : Line) → v.problem ≡ w.problem → turn v p ≡ turn w p
unfolding turn numbers_good
turn-stays w v p e = rw e

-- ---- where a line stands in the turn

pub record Stands (w : Network) (p l : Line) : Type 0 where
  pub before : List Line
  pub after : List Line
  pub whole : turn w p ≡ before ++ (l ∷ after)
  pub near : length before < w.problem.count * (w.problem.count - 1)

pub stands : (w : Network) (p l : Line) → numbers_good w l.from l.to ≡ true → Stands w p l
unfolding numbers_good
stands w p l g = go (split_at this (turn w p) (omega (arith, round-count this (turn-round w p), has)))
  where
    this : Line → Bool
    this = is_line l.from l.to

    n : ℕ
    n = w.problem.count

    has : 1 ≤ count_if this (lines n)
    has =
        let a = both (within n l.from && within n l.to) (not (eqb l.from l.to)) g in
        let b = both (within n l.from) (within n l.to) a.0 in
        lines-has n l b.0 b.1 (not-true (eqb l.from l.to) a.1)

    go : SplitAt this (turn w p) → Stands w p l
    go s =
        record {
          before = s.before;
          after = s.after;
          whole = s.whole ∙ rw (this-same l s.here s.passes);
          near =
              omega (
                arith,
                lines-length n,
                round-length (turn-round w p),
                ap length s.whole,
                length-append s.before (s.here ∷ s.after),
              );
        }
