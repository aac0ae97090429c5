-- The channels as the code goes through them: sender by sender, the digits of its row of counts from the lowest up.
use Rattle.std.proofs.Common.{ℕ, ◌+◌, ◌≤◌, ◌<◌, ◌≡◌, refl, sym, ◌∙◌, true, false, arith, add-one, get_or}
use mathlib.Core.Bool.{false≢true}
use Rattle.model_base.specs.Finite.{at, from_one, within, all_to}
use Rattle.model_base.proofs.Tests.{test, eq_test}
use Rattle.model_base.proofs.Search.{at_same, at_other, all_to-at, to-all_to}
use Rattle.model_sheet.specs.Problem.{max_agents}
use Rattle.model_agent.specs.Message.{nobody}
use Rattle.model_network.specs.Shape.{channel_in_shape}
use Rattle.abt_packed.specs.Packed.{assignment}
use Rattle.abt_packed.proofs.Digits.{nobody-assigned}
use Rattle.abt_record.specs.Abstract.{is_channel, row_of, network_of}
use Rattle.abt_record.specs.declared.Network.{Network}
use Rattle.abt_shape.proofs.Numbering.{ends}
use Rattle.abt_record.specs.Looking.{channels_in_shape}
use Rattle.abt_record.proofs.Rings.{no-channel-fits, empty-fits}

-- the lines of senders 1 to i are in shape
abbrev pub Passed : Network → ℕ → Type 0
Passed r i = (x y : ℕ) → x ≤ i → channel_in_shape (network_of r) x y ≡ true

-- so are those of sender i that `rest` does not have, and those of the senders before it
pub record Passing (r : Network) (i rest : ℕ) : Type 0 where
  pub before : (x y : ℕ) → x < i → channel_in_shape (network_of r) x y ≡ true
  pub passed : (y : ℕ) → assignment rest y ≡ 0 → channel_in_shape (network_of r) i y ≡ true

-- where `rest` has something, there is a line, and it is what the line holds
abbrev pub Ahead : Network → ℕ → ℕ → Type 0
Ahead r i rest = (y : ℕ) → 1 ≤ assignment rest y → (is_channel i y ≡ true) × (assignment rest y ≡ row_of r.counts i y)

pub none_yet : (r : Network) → Passed r 0
unfolding is_channel within
none_yet r x y h = let e : x ≡ 0 = omega arith in rw e (no-channel-fits r 0 y refl)

-- all channels, if one does not fit
pub one-unfit : (r : Network) (i j : ℕ) → is_channel i j ≡ true → channel_in_shape (network_of r) i j ≡ false
    → channels_in_shape r ≡ false
unfolding channels_in_shape max_agents
one-unfit r i j c e =
    let b = ends i j c in
    test (all_to 12 (λ x. all_to 12 (λ y. channel_in_shape (network_of r) x y)))
    (λ t. absurd (false≢true (sym e ∙ all_to-at 12 _ (all_to-at 12 (λ x. all_to 12 (λ y. channel_in_shape (network_of r) x y)) t i b.from_low b.from-high) j b.to_low b.to_high)))
    (λ t. t)

-- ---- a sender's row

module _ (r : Network) (k rest : ℕ)
    (is : (y : ℕ) → assignment rest y ≡ elim (is_channel (k + 1) y) [ true ↦ assignment (get_or r.counts k 0) y | false ↦ 0 ]) where
  row-digit : (y : ℕ) → is_channel (k + 1) y ≡ true → assignment rest y ≡ row_of r.counts (k + 1) y
  unfolding row_of from_one
  row-digit y t = is y ∙ rw (t, add-one k)

  pub row-ahead : Ahead r (k + 1) rest
  row-ahead y h =
      test (is_channel (k + 1) y)
      (λ t. (t, row-digit y t))
      (λ t. let z : assignment rest y ≡ 0 = is y ∙ rw t in absurd (omega arith))

  pub row-begun : Passed r k → Passing r (k + 1) rest
  row-begun p =
      record {
        before = λ x y h. p x y (omega arith);
        passed = λ y z. test (is_channel (k + 1) y)
            (λ t. empty-fits r (k + 1) y t (sym (row-digit y t) ∙ z))
            (λ t. no-channel-fits r (k + 1) y t);
      }

-- ---- a line of it

module _ (i rest k rest' : ℕ) (e : assignment rest' ≡ at (assignment rest) k 0) where
  pub line-ahead : (r : Network) → Ahead r i rest → Ahead r i rest'
  line-ahead r a y u =
      eq_test y k
      (λ q. let z : assignment rest' y ≡ 0 = rw (q, e) (at_same (assignment rest) k 0) in absurd (omega arith))
      (λ n. let same : assignment rest' y ≡ assignment rest y = rw e (at_other (assignment rest) k 0 y n) in rw same (a y (rw (← same) u)))

  pub line-passed : (r : Network) → Passing r i rest → channel_in_shape (network_of r) i k ≡ true → Passing r i rest'
  line-passed r p f =
      record {
        before = p.before;
        passed = λ y z. eq_test y k (λ q. rw q f) (λ n. p.passed y (sym (at_other (assignment rest) k 0 y n) ∙ rw (← e) z));
      }

no-digits : (rest y : ℕ) → rest ≡ 0 → assignment rest y ≡ 0
unfolding nobody
no-digits rest y e = rw (e, nobody-assigned)

-- ---- all of it, and all senders

pub row-passed : (r : Network) (i rest : ℕ) → rest ≡ 0 → Passing r i rest → Passed r i
row-passed r i rest e p x y h = eq_test x i (λ q. rw q (p.passed y (no-digits rest y e))) (λ n. p.before x y (omega (arith, n)))

pub all-passed : (r : Network) (i : ℕ) → 12 ≤ i → Passed r i → channels_in_shape r ≡ true
unfolding channels_in_shape max_agents
all-passed r i h p = to-all_to 12 _ (λ x a b. to-all_to 12 _ (λ y c d. p x y (omega arith)))
