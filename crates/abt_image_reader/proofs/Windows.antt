-- Stretches of a list of bytes: what stands in one, a stretch of a stretch, and the number that one holds.
-- A byte that is not there is zero, so that no law asks how long the list is.
use Rattle.std.proofs.Common.{ℕ, zero, suc, ◌+◌, ◌*◌, ◌-◌, ◌≤◌, ◌<◌, ◌≡◌, refl, sym, ap, ◌∙◌, List, [], ◌∷◌, arith, get_or, take, drop, take-take, drop-drop, get_or-take, get_or-drop}
use lib.Seq.{take-nil}
use Rattle.model_image.specs.Bytes.{number_in, stretch}

pub stretch-at : (a n : ℕ) (s : List ℕ) (k : ℕ) → k < n → get_or (stretch a n s) k 0 ≡ get_or s (a + k) 0
unfolding stretch
stretch-at a n s k h = get_or-take n (drop a s) k 0 h ∙ get_or-drop a s k 0

drop-take : (a n : ℕ) (l : List ℕ) → drop a (take n l) ≡ take (n - a) (drop a l)
drop-take zero n l = let e : n - 0 ≡ n = omega arith in rw e
drop-take (suc a) zero l = let e : 0 - suc a ≡ 0 = omega arith in rw e
drop-take (suc a) (suc n) [] = sym (take-nil (suc n - suc a))
drop-take (suc a) (suc n) (x ∷ xs) = let e : suc n - suc a ≡ n - a = omega arith in rw e (drop-take a n xs)

pub stretch-stretch : (a m b n : ℕ) (s : List ℕ) → a + m ≤ n → stretch a m (stretch b n s) ≡ stretch (b + a) m s
unfolding stretch
stretch-stretch a m b n s h =
    ap (take m) (drop-take a n (drop b s)) ∙ take-take m (n - a) (drop a (drop b s)) (omega arith) ∙ ap (take m) (drop-drop a b s)

-- ---- numbers

-- the low byte, and the others
number-next : (s : List ℕ) (a m : ℕ) → number_in (stretch a (suc m) s) ≡ get_or s a 0 + 256 * number_in (stretch (suc a) m s)
unfolding number_in stretch
number-next [] zero m = rw take-nil
number-next [] (suc a) m = rw take-nil
number-next (x ∷ xs) zero m = refl
number-next (x ∷ xs) (suc a) m = number-next xs a m

number-none : (s : List ℕ) (a : ℕ) → number_in (stretch a 0 s) ≡ 0
unfolding number_in stretch
number-none s a = refl

module _ (s : List ℕ) (a : ℕ) where
  pub number-two : number_in (stretch a 2 s) ≡ get_or s a 0 + 256 * get_or s (a + 1) 0
  number-two =
      let e : a + 1 ≡ suc a = omega arith in
      rw e (omega (arith, number-next s a 1, number-next s (suc a) 0, number-none s (suc (suc a))))

  pub number-eight : number_in (stretch a 8 s)
      ≡ get_or s a 0 + 256 * get_or s (a + 1) 0 + 65536 * get_or s (a + 2) 0 + 16777216 * get_or s (a + 3) 0 + 4294967296 * get_or s (a + 4) 0
      + 1099511627776 * get_or s (a + 5) 0 + 281474976710656 * get_or s (a + 6) 0 + 72057594037927936 * get_or s (a + 7) 0
  number-eight =
      let e1 : a + 1 ≡ suc a = omega arith in
      let e2 : a + 2 ≡ suc (suc a) = omega arith in
      let e3 : a + 3 ≡ suc (suc (suc a)) = omega arith in
      let e4 : a + 4 ≡ suc (suc (suc (suc a))) = omega arith in
      let e5 : a + 5 ≡ suc (suc (suc (suc (suc a)))) = omega arith in
      let e6 : a + 6 ≡ suc (suc (suc (suc (suc (suc a))))) = omega arith in
      let e7 : a + 7 ≡ suc (suc (suc (suc (suc (suc (suc a)))))) = omega arith in
      rw (e1, e2, e3, e4, e5, e6, e7)
      (omega (
        arith,
        number-next s a 7,
        number-next s (suc a) 6,
        number-next s (suc (suc a)) 5,
        number-next s (suc (suc (suc a))) 4,
        number-next s (suc (suc (suc (suc a)))) 3,
        number-next s (suc (suc (suc (suc (suc a))))) 2,
        number-next s (suc (suc (suc (suc (suc (suc a)))))) 1,
        number-next s (suc (suc (suc (suc (suc (suc (suc a))))))) 0,
        number-none s (suc (suc (suc (suc (suc (suc (suc (suc a)))))))),
      ))
