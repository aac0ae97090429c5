-- The first of some lines that can be delivered: it can be, and it stands no further than any other that can be.
use Rattle.std.proofs.Common.{None, Some, ◌≡◌, refl, ap, true, false, List, [], ◌∷◌, ◌++◌}
use Rattle.model_base.proofs.Tests.{test, no-some}
use Rattle.model_network.specs.Network.{Network}
use Rattle.model_network.specs.Run.{Line}
use Rattle.model_dispatch.specs.Dispatch.{deliverable, first_of}

pub first-can : (w : Network) (ls : List Line) (l : Line) → first_of w ls ≡ Some l → deliverable w l ≡ true
unfolding first_of
first-can w [] l e = no-some e
first-can w (m ∷ ls) l e =
    test (deliverable w m)
    (λ h. let q : Some m ≡ Some l = rw (h, first_of) at e in let z : m ≡ l = cc in rw (← z) h)
    (λ h. first-can w ls l (rw (h, first_of) at e))

pub first-none : (w : Network) → ((l : Line) → deliverable w l ≡ false) → (ls : List Line) → first_of w ls ≡ None
unfolding first_of
first-none w h [] = refl
first-none w h (l ∷ ls) = rw (h l, first_of) (first-none w h ls)

-- where a line can be delivered, it is the first of the lines that can be, or the first stands among those before it
pub data Found (w : Network) (ls before : List Line) (l : Line) : Type 0 where
  itself : first_of w ls ≡ Some l → Found w ls before l
  earlier : (first between : List Line) (m : Line) → before ≡ first ++ (m ∷ between) → first_of w ls ≡ Some m → Found w ls before l

found_at : (w : Network) (before : List Line) (l : Line) (after : List Line) → deliverable w l ≡ true → Found w (before ++ (l ∷ after)) before l
unfolding first_of
found_at w [] l after h = itself (rw (h, first_of))
found_at w (m ∷ before) l after h =
    test (deliverable w m) (λ e. earlier [] before m refl (rw (e, first_of))) (λ e. go e (found_at w before l after h))
  where
    go : deliverable w m ≡ false → Found w (before ++ (l ∷ after)) before l → Found w (m ∷ before ++ (l ∷ after)) (m ∷ before) l
    go e (itself f) = itself (rw (e, first_of) f)
    go e (earlier first between k b f) = earlier (m ∷ first) between k (ap (λ (r : List Line). m ∷ r) b) (rw (e, first_of) f)

pub found : (w : Network) (ls before : List Line) (l : Line) (after : List Line) → ls ≡ before ++ (l ∷ after) → deliverable w l ≡ true
    → Found w ls before l
found w ls before l after e h = rw e (found_at w before l after h)
