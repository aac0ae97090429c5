-- Laws of counting: a raised count stays at most at the top, never falls, and is exact below the top; and counting is counting up.
use Rattle.std.proofs.Common.{◌≡◌, Bool, true, ◌&&◌, List, [], ◌∷◌, ◌++◌, ℕ, ◌+◌, ◌≤◌, ◌<◌, arith, leb, leb-true, leb-false}
use mathlib.Core.List.{map-append}
use Rattle.model_base.proofs.Tests.{test, both}
use Rattle.model_agent.specs.Message.{Message, Post}
use Rattle.model_agent.specs.Traffic.{Sort, Infos, Backs, AddLinks, Traffic, each_sort, each_count, number, message_in, messages_in, top, raised}

-- ---- a count raised

-- raised, it is the sum or the top, whichever is less
pub data Raised (c k : ℕ) : Type 0 where
  exact : c + k ≤ top → raised c k ≡ c + k → Raised c k
  full : top < c + k → raised c k ≡ top → Raised c k

pub raises : (c k : ℕ) → Raised c k
unfolding raised
raises c k =
    test (leb (c + k) top) (λ e. exact (leb-true _ _ e) (rw e)) (λ e. full (leb-false _ _ e) (rw e))

pub raised-top : (c k : ℕ) → raised c k ≤ top
raised-top c k = go (raises c k)
  where
    go : Raised c k → raised c k ≤ top
    go (exact l e) = omega arith
    go (full l e) = omega arith

pub raised-grows : (c k : ℕ) → c ≤ top → c ≤ raised c k
raised-grows c k h = go (raises c k)
  where
    go : Raised c k → c ≤ raised c k
    go (exact l e) = omega arith
    go (full l e) = omega arith

pub raised_below : (c k : ℕ) → raised c k < top → raised c k ≡ c + k
raised_below c k h = go (raises c k)
  where
    go : Raised c k → raised c k ≡ c + k
    go (exact l e) = e
    go (full l e) = absurd (omega arith)

pub raised-twice : (c k l : ℕ) → raised (raised c k) l ≡ raised c (k + l)
raised-twice c k l = go (raises c k) (raises (raised c k) l) (raises c (k + l))
  where
    go : Raised c k → Raised (raised c k) l → Raised c (k + l) → raised (raised c k) l ≡ raised c (k + l)
    go (exact u e) (exact v f) (exact w g) = omega arith
    go (exact u e) (exact v f) (full w g) = omega arith
    go (exact u e) (full v f) (exact w g) = omega arith
    go (exact u e) (full v f) (full w g) = omega arith
    go (full u e) (exact v f) (exact w g) = omega arith
    go (full u e) (exact v f) (full w g) = omega arith
    go (full u e) (full v f) (exact w g) = omega arith
    go (full u e) (full v f) (full w g) = omega arith

pub raised-none : (c : ℕ) → c ≤ top → raised c 0 ≡ c
raised-none c h = go (raises c 0)
  where
    go : Raised c 0 → raised c 0 ≡ c
    go (exact l e) = omega arith
    go (full l e) = omega arith

-- ---- messages of a sort

pub number_append : (x : Sort) (l r : List Message) → number x (l ++ r) ≡ number x l + number x r
unfolding number
number_append x [] r = omega arith
number_append x (m ∷ ms) r = omega (arith, number_append x ms r)

pub messages-append : (l r : List Post) → messages_in (l ++ r) ≡ messages_in l ++ messages_in r
unfolding messages_in
messages-append l r = map-append message_in l r

-- ---- each of the six

each-sort : (f : Sort → ℕ) (p : ℕ → Bool) → each_sort f p ≡ true → (x : Sort) → p (f x) ≡ true
unfolding each_sort
each-sort f p e x = pick x
  where
    two : (p (f Infos) && p (f Backs) ≡ true) × (p (f AddLinks) ≡ true)
    two = both (p (f Infos) && p (f Backs)) (p (f AddLinks)) e

    pick : (x : Sort) → p (f x) ≡ true
    pick Infos = (both (p (f Infos)) (p (f Backs)) two.0).0
    pick Backs = (both (p (f Infos)) (p (f Backs)) two.0).1
    pick AddLinks = two.1

pub each-count : (c : Traffic) (p : ℕ → Bool) → each_count c p ≡ true → (x : Sort) → (p (c.sent x) ≡ true) × (p (c.received x) ≡ true)
unfolding each_count
each-count c p e x = let b = both (each_sort c.sent p) (each_sort c.received p) e in (each-sort c.sent p b.0 x, each-sort c.received p b.1 x)

pub to-each-count : (c : Traffic) (p : ℕ → Bool) → ((x : Sort) → (p (c.sent x) ≡ true) × (p (c.received x) ≡ true)) → each_count c p ≡ true
unfolding each_count each_sort
to-each-count c p h =
    rw ((h Infos).0, (h Backs).0, (h AddLinks).0, (h Infos).1, (h Backs).1, (h AddLinks).1)
