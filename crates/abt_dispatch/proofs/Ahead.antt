-- The lines ahead of a walk: one step further leaves them less the line stepped over; and all lines of n agents are those before a line and those
-- ahead of it.
use Rattle.std.proofs.Common.{ℕ, suc, ◌+◌, ◌-◌, ◌≤◌, ◌<◌, ◌≡◌, refl, sym, ap, ◌∙◌, ◌≢◌, List, [], ◌∷◌, ◌++◌, append_assoc, arith, eq-eqb, ne_eqb}
use Rattle.model_base.specs.Finite.{gather}
use Rattle.model_base.proofs.Gathers.{gather-split}
use Rattle.model_network.specs.Run.{Line}
use Rattle.model_dispatch.specs.Dispatch.{lines_from, lines}
use Rattle.abt_dispatch.specs.Abstract.{line}
use Rattle.abt_dispatch.specs.Walking.{line_if, ahead}

-- ---- one step

pub ahead-line : (n i j : ℕ) → j ≤ n → ahead n i j ≡ line_if i j ++ ahead n i (suc j)
unfolding ahead gather
ahead-line n i j h =
    let e : suc n - j ≡ suc (n - j) = omega arith in
    let f : suc n - suc j ≡ n - j = omega arith in
    rw (e, f) (append_assoc (line_if i j) (gather (n - j) (suc j) (line_if i)) (gather (n - i) (suc i) (lines_from n)))

-- the last line of a sender, and the first of the next
pub ahead-row : (n i j : ℕ) → n < j → i < n → ahead n i j ≡ ahead n (suc i) 1
unfolding ahead gather lines_from line_if
ahead-row n i j h l =
    let e : suc n - j ≡ 0 = omega arith in
    let f : n - i ≡ suc (n - suc i) = omega arith in
    let g : suc n - 1 ≡ n = omega arith in
    rw (e, f, g)

pub ahead-end : (n i j : ℕ) → n < j → n ≤ i → ahead n i j ≡ []
unfolding ahead gather
ahead-end n i j h l =
    let e : suc n - j ≡ 0 = omega arith in
    let f : n - i ≡ 0 = omega arith in
    rw (e, f)

pub line-none : (i : ℕ) → line_if i i ≡ []
unfolding line_if
line-none i = rw (eq-eqb i i refl)

pub line-one : (i j : ℕ) → i ≢ j → line_if i j ≡ line i j ∷ []
unfolding line_if
line-one i j h = rw (ne_eqb i j h)

-- ---- all lines

-- the lines before the one from i to j
unfoldable pub before : ℕ → ℕ → ℕ → List Line
before n i j = gather (i - 1) 1 (lines_from n) ++ gather (j - 1) 1 (line_if i)

pub lines_split : (n i j : ℕ) → 1 ≤ i → i ≤ n → 1 ≤ j → j ≤ n → lines n ≡ before n i j ++ ahead n i j
unfolding lines before ahead gather lines_from line_if
lines_split n i j li hi lj hj =
    let m : n ≡ (i - 1) + suc (n - i) = omega arith in
    let s : 1 + (i - 1) ≡ i = omega arith in
    ap (λ (k : ℕ). gather k 1 (lines_from n)) m
    ∙ gather-split (i - 1) (suc (n - i)) 1 (lines_from n)
    ∙ ap (λ (k : ℕ). gather (i - 1) 1 (lines_from n) ++ gather (suc (n - i)) k (lines_from n)) s
    ∙ ap (λ (l : List Line). gather (i - 1) 1 (lines_from n) ++ l) rows
    ∙ sym (append_assoc (gather (i - 1) 1 (lines_from n)) (gather (j - 1) 1 (line_if i)) (ahead n i j))
  where
    row : lines_from n i ≡ gather (j - 1) 1 (line_if i) ++ gather (suc n - j) j (line_if i)
    row =
        let m : n ≡ (j - 1) + (suc n - j) = omega arith in
        let s : 1 + (j - 1) ≡ j = omega arith in
        ap (λ (k : ℕ). gather k 1 (line_if i)) m
        ∙ gather-split (j - 1) (suc n - j) 1 (line_if i)
        ∙ ap (λ (k : ℕ). gather (j - 1) 1 (line_if i) ++ gather (suc n - j) k (line_if i)) s

    rows : gather (suc (n - i)) i (lines_from n) ≡ gather (j - 1) 1 (line_if i) ++ ahead n i j
    rows =
        ap (λ (l : List Line). l ++ gather (n - i) (suc i) (lines_from n)) row
        ∙ append_assoc (gather (j - 1) 1 (line_if i)) (gather (suc n - j) j (line_if i)) (gather (n - i) (suc i) (lines_from n))
