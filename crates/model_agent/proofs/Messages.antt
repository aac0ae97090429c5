-- Laws of messages: what is sent to whom, what a view comes to once the Infos of a channel are in, and at most one link request.
use Rattle.std.proofs.Common.{◌≡◌, refl, ◌⊎◌, inl, inr, List, [], ◌∷◌, ◌++◌, ℕ, ◌≤◌, arith, eqb}
use Rattle.model_base.proofs.Tests.{test}
use Rattle.model_base.proofs.Lists.{All, All-append}
use Rattle.model_agent.specs.Message.{Message, Info, Back, AddLink, Post, sent_to}
use Rattle.model_agent.specs.Traffic.{AddLinks, of_sort, number}
use Rattle.model_agent.specs.Sorts.{IsInfo, IsBack, IsAddLink, Not, Tells, after_one, seen, OneLink}

-- ---- sorts

pub addlink-not-info : (m : Message) → IsAddLink m → IsInfo m → ⊥
addlink-not-info (Info v) a b = a
addlink-not-info (Back lhs v) a b = a
addlink-not-info AddLink a b = b

pub back-not-info : (m : Message) → IsBack m → IsInfo m → ⊥
back-not-info (Info v) a b = a
back-not-info (Back lhs v) a b = b
back-not-info AddLink a b = a

-- ---- what a list of posts puts on a channel

pub sent_to-append : (y : ℕ) (ps qs : List Post) → sent_to y (ps ++ qs) ≡ sent_to y ps ++ sent_to y qs
unfolding sent_to
sent_to-append y [] qs = refl
sent_to-append y (p ∷ ps) qs =
    test (eqb y p.to) (λ e. rw (e, sent_to, sent_to-append y ps qs)) (λ e. rw (e, sent_to) (sent_to-append y ps qs))

-- ---- what a view comes to

pub seen-append : (v : ℕ) (l r : List Message) → seen v (l ++ r) ≡ seen (seen v l) r
unfolding seen
seen-append v [] r = refl
seen-append v (m ∷ ms) r = seen-append (after_one v m) ms r

-- a channel with no Info, or one whose last Info alone counts
pub seen-fixed : (l : List Message) → ((u : ℕ) → seen u l ≡ u) ⊎ ((u v : ℕ) → seen v l ≡ seen u l)
unfolding seen after_one
seen-fixed [] = inl (λ u. refl)
seen-fixed (Info w ∷ ms) = inr (λ u v. refl)
seen-fixed (Back lhs w ∷ ms) = seen-fixed ms
seen-fixed (AddLink ∷ ms) = seen-fixed ms

-- Infos of w only: none, or the view comes to w
pub seen-tells : (w : ℕ) (l : List Message) → All (Tells w) l → (l ≡ []) ⊎ ((v : ℕ) → seen v l ≡ w)
unfolding seen after_one
seen-tells w [] h = inl refl
seen-tells w (m ∷ ms) h = inr (λ v. go m ms v h.0 h.1)
  where
    keep : (l : List Message) → All (Tells w) l → seen w l ≡ w
    keep [] h = refl
    keep (Info t ∷ ms) h = rw h.0 (keep ms h.1)
    keep (Back lhs t ∷ ms) h = absurd h.0
    keep (AddLink ∷ ms) h = absurd h.0

    go : (m : Message) (ms : List Message) (v : ℕ) → Tells w m → All (Tells w) ms → seen v (m ∷ ms) ≡ w
    go (Info t) ms v a h = rw a (keep ms h)
    go (Back lhs t) ms v a h = absurd a
    go AddLink ms v a h = absurd a

-- ---- at most one link request

pub one-put : (l q : List Message) → OneLink l → All (Not IsAddLink) q → OneLink (l ++ q)
one-put [] [] h g = tt
one-put [] (Info v ∷ ms) h g = one-put [] ms tt g.1
one-put [] (Back r v ∷ ms) h g = one-put [] ms tt g.1
one-put [] (AddLink ∷ ms) h g = absurd (g.0 tt)
one-put (Info v ∷ l) q h g = one-put l q h g
one-put (Back r v ∷ l) q h g = one-put l q h g
one-put (AddLink ∷ l) q h g = All-append (Not IsAddLink) l q h g

pub one-new : (l q : List Message) → All (Not IsAddLink) l → OneLink q → OneLink (l ++ q)
one-new [] q h g = g
one-new (Info v ∷ l) q h g = one-new l q h.1 g
one-new (Back r v ∷ l) q h g = one-new l q h.1 g
one-new (AddLink ∷ l) q h g = absurd (h.0 tt)

pub one-tail : (m : Message) (ms : List Message) → OneLink (m ∷ ms) → OneLink ms × (IsAddLink m → All (Not IsAddLink) ms)
one-tail (Info v) ms h = (h, λ q. absurd q)
one-tail (Back lhs v) ms h = (h, λ q. absurd q)
one-tail AddLink ms h = (one-put [] ms tt h, λ _. h)

-- .. and counted

none-counted : (l : List Message) → All (Not IsAddLink) l → number AddLinks l ≡ 0
unfolding number of_sort
none-counted [] h = refl
none-counted (Info v ∷ l) h = omega (arith, none-counted l h.1)
none-counted (Back r v ∷ l) h = omega (arith, none-counted l h.1)
none-counted (AddLink ∷ l) h = absurd (h.0 tt)

pub one-counted : (l : List Message) → OneLink l → number AddLinks l ≤ 1
unfolding number of_sort
one-counted [] h = omega arith
one-counted (Info v ∷ l) h = omega (arith, one-counted l h)
one-counted (Back r v ∷ l) h = omega (arith, one-counted l h)
one-counted (AddLink ∷ l) h = omega (arith, none-counted l h)

counted_none : (l : List Message) → number AddLinks l ≡ 0 → All (Not IsAddLink) l
unfolding number of_sort
counted_none [] h = tt
counted_none (Info v ∷ l) h = (λ q. q, counted_none l (omega arith))
counted_none (Back r v ∷ l) h = (λ q. q, counted_none l (omega arith))
counted_none (AddLink ∷ l) h = absurd (omega arith)

pub counted-one : (l : List Message) → number AddLinks l ≤ 1 → OneLink l
unfolding number of_sort
counted-one [] h = tt
counted-one (Info v ∷ l) h = counted-one l (omega arith)
counted-one (Back r v ∷ l) h = counted-one l (omega arith)
counted-one (AddLink ∷ l) h = counted_none l (omega arith)
