-- A channel's number tells its two ends.
use Rattle.std.proofs.Common.{ℕ, pred, ◌+◌, ◌*◌, ◌<◌, true, ◌≡◌, sym, ap, ◌∙◌, ◌≢◌, arith, ltb, ltb-true, ltb-false}
use Rattle.model_base.proofs.Tests.{test}
use Rattle.model_network.specs.Lines.{is_channel, channel_at}
use Rattle.abt_shape.proofs.Numbering.{Ends, ends}

-- a channel's number is its sender's row of eleven and its receiver's place in the row, which leaves the sender out
record Column (i j l : ℕ) : Type 0 where
  column : ℕ
  few : column < 11
  row : l + 11 ≡ 11 * i + column
  before : j < i → column + 1 ≡ j
  beyond : i < j → column + 2 ≡ j

column-of : (i j : ℕ) → Ends i j → Column i j (channel_at i j)
unfolding channel_at
column-of i j b =
    test (ltb j i)
    (λ s. let k = ltb-true j i s in let d = b.from_low in let e = b.from-high in let f = b.to_low in
    rw s record { column = pred j; few = omega arith; row = omega arith; before = λ z. omega arith; beyond = λ z. absurd (omega arith) })
    (λ s. let k = ltb-false j i s in let n : i < j = omega (arith, b.apart) in let d = b.from_low in let e = b.to_high in
    rw s record { column = pred (pred j); few = omega arith; row = omega arith; before = λ z. absurd (omega arith); beyond = λ z. omega arith })

pub channel-one : (i j x y : ℕ) → is_channel i j ≡ true → is_channel x y ≡ true → channel_at i j ≡ channel_at x y → (i ≡ x) × (j ≡ y)
channel-one i j x y s t e =
    let b = ends i j s in
    let d = ends x y t in
    let k = column-of i j b in
    let m = column-of x y d in
    let r = same i x k.column m.column k.few m.few (sym k.row ∙ ap (λ l. l + 11) e ∙ m.row) in
    (r.0, receiver b.apart d.apart k.before k.beyond m.before m.beyond r.0 r.1)
  where
    same : (i x k m : ℕ) → k < 11 → m < 11 → 11 * i + k ≡ 11 * x + m → (i ≡ x) × (k ≡ m)
    same i x k m a b e = (omega arith, omega arith)

    receiver : {k m : ℕ} → i ≢ j → x ≢ y → (j < i → k + 1 ≡ j) → (i < j → k + 2 ≡ j) → (y < x → m + 1 ≡ y) → (x < y → m + 2 ≡ y)
        → i ≡ x → k ≡ m → j ≡ y
    receiver n o a b c d e f =
        test (ltb j i)
        (λ s. let p = a (ltb-true j i s) in let q = ltb-true j i s in test (ltb y x)
        (λ t. omega (arith, c (ltb-true y x t)))
        (λ t. let r = ltb-false y x t in omega (arith, d (omega arith))))
        (λ s. let q = ltb-false j i s in let p = b (omega arith) in test (ltb y x)
        (λ t. omega (arith, c (ltb-true y x t), ltb-true y x t))
        (λ t. let r = ltb-false y x t in omega (arith, d (omega arith))))
