-- What is put in parts is put as a whole: where no part fails all of it stands there, and else a beginning of it does.
use Rattle.std.proofs.Common.{ℕ, ◌+◌, ◌≡◌, Bool, true, false, List, [], ◌++◌, length, take, drop, refl, sym, ap, ◌∙◌, subst, append_assoc, take-append-drop}
use Rattle.std.proofs.Math.Seq.{take-append_seam, take-append-add}
use Rattle.std.specs.Io.KnownBytes.{Appends}
use Rattle.std.proofs.KnownBytes.{Appends-nil, Appends-trans, Appends-kept, Keeps-refl, Keeps-trans}
use Rattle.support_cli.specs.Streams.{OutputState, Puts}

-- a beginning of a is one of a and more
beginning_of : (n : ℕ) (a b : List ℕ) → (m : ℕ) × (take m (a ++ b) ≡ take n a)
beginning_of n a b =
    let whole : a ++ b ≡ take n a ++ (drop n a ++ b) = ap (λ l. l ++ b) (sym (take-append-drop n a)) ∙ append_assoc (take n a) (drop n a) b in
    (length (take n a), ap (take (length (take n a))) whole ∙ take-append_seam (take n a) (drop n a ++ b))

-- ---- one part behind another

some_then : (f : Bool) (a b : List ℕ) (x y z : OutputState) → y.failed ≡ f → Puts a x y → Puts b y z → (n : ℕ) × Appends x.known z.known (take n (a ++ b))
some_then true a b x y z e p q =
    let (n, put) = p.some in
    let (m, same) = beginning_of n a b in
    (m, subst (Appends x.known z.known) (sym same) (Appends-kept _ _ _ _ put (q.kept e).1))
some_then false a b x y z e p q =
    let (n, put) = q.some in
    (length a + n, subst (Appends x.known z.known) (sym (take-append-add a b n)) (Appends-trans _ _ _ _ _ (p.all e) put))

all_then : (f : Bool) (a b : List ℕ) (x y z : OutputState) → y.failed ≡ f → Puts a x y → Puts b y z → z.failed ≡ false → Appends x.known z.known (a ++ b)
all_then true a b x y z e p q good = absurd (let bad : z.failed ≡ true = (q.kept e).0 in cc)
all_then false a b x y z e p q good = Appends-trans _ _ _ _ _ (p.all e) (q.all good)

pub puts_then : (a b : List ℕ) (x y z : OutputState) → Puts a x y → Puts b y z → Puts (a ++ b) x z
puts_then a b x y z p q = record {
  some = some_then y.failed a b x y z refl p q;
  all = all_then y.failed a b x y z refl p q;
  kept = λ e. ((q.kept (p.kept e).0).0, Keeps-trans _ _ _ (p.kept e).1 (q.kept (p.kept e).0).1);
}

-- .. and a third
pub puts_three : (a b c : List ℕ) (w x y z : OutputState) → Puts a w x → Puts b x y → Puts c y z → Puts (a ++ (b ++ c)) w z
puts_three a b c w x y z p q r = puts_then a (b ++ c) w x z p (puts_then b c x y z q r)

-- nothing is put where nothing is to be
pub puts_nothing : (x : OutputState) → Puts [] x x
puts_nothing x = record { some = (0, Appends-nil x.known); all = λ e. Appends-nil x.known; kept = λ e. (e, Keeps-refl x.known) }
