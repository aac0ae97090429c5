-- Bytes over a part of a buffer: none, and some behind others.
-- What is put first ends where the next begins, so the second does not touch it.
use Rattle.std.proofs.Common.{ℕ, ◌+◌, ◌≤◌, ◌≡◌, sym, ap, ◌∙◌, List, [], ◌++◌, append-nil, append_assoc, add-zero, arith, length, take, drop, length-append, take-append-drop, length-take-le, take_at, drop_at, drop-drop}
use Rattle.support_buffer.specs.Abstract.{over}

pub over_nothing : (at : ℕ) (old : List ℕ) → over at [] old ≡ old
over_nothing at old = rw (add-zero, append-nil) (take-append-drop at old)

-- bytes put behind others, where those end
pub over-over : (at n : ℕ) (xs ys old : List ℕ) → at ≤ length old → n ≡ at + length xs → over n ys (over at xs old) ≡ over at (xs ++ ys) old
over-over at n xs ys old low e =
    let front = take at old ++ xs in
    let long : length front ≡ n = length-append (take at old) xs ∙ rw (length-take-le at old low) (sym e) in
    let far : at + length (xs ++ ys) ≡ n + length ys = omega (arith, length-append xs ys) in
    let rest : drop (n + length ys) (front ++ drop n old) ≡ drop (n + length ys) old =
    sym (drop-drop (length ys) n (front ++ drop n old)) ∙ ap (drop (length ys)) (drop_at front (drop n old) n long) ∙ drop-drop (length ys) n old in
    rw (far, ← e, rest, take_at front (drop n old) n long)
    (ap (λ (l : List ℕ). l ++ drop (n + length ys) old) (append_assoc (take at old) xs ys))
