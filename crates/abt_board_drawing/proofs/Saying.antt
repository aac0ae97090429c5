-- A text that is put part by part: what stands there, with what is left to be put, stays the same.
use Rattle.std.proofs.Common.{◌≡◌, ℕ, List, [], ◌++◌, refl, sym, ap, ◌∙◌, append_assoc, append-nil}

-- `now` stands there, and `left` is to come, so that all stands behind the start in the end
pub record Says (start all now left : List ℕ) : Type 0 where
  pub same : now ++ left ≡ start ++ all

pub none-said : {start all : List ℕ} → Says start all start all
none-said = record { same = refl }

-- the first of what is left is put
pub one-said : {start all now left rest next : List ℕ} (first : List ℕ) → Says start all now left → left ≡ first ++ rest → next ≡ now ++ first
    → Says start all next rest
one-said {start} {all} {now} {left} {rest} first s e p =
    record { same = ap (λ (t : List ℕ). t ++ rest) p ∙ append_assoc now first rest ∙ ap (λ (t : List ℕ). now ++ t) (sym e) ∙ s.same }

-- nothing is left
pub all-said : {start all now left : List ℕ} → Says start all now left → left ≡ [] → now ≡ start ++ all
all-said {start} {all} {now} {left} s e = sym (append-nil now) ∙ ap (λ (t : List ℕ). now ++ t) (sym e) ∙ s.same
