-- How many messages of each sort a step takes in and sends, as the code has them: one, and the agents of two sets with the Backs between two places.
-- A set is gone through bit by bit.
use Rattle.std.proofs.Common.{ℕ, zero, suc, ◌+◌, ◌*◌, ◌-◌, ◌/◌, ◌%◌, ◌^◌, ◌≤◌, ◌<◌, min, ◌≡◌, refl, sym, ap, ◌∙◌, List, [], ◌∷◌, ◌++◌, map, div-one, arith, length, take, drop, length-drop, length-take-le, eqb-true}
use lib.Count.{ones, ones_step}
use borrow.Author.Tests.{eqb-false}
use Rattle.model_base.specs.Bits.{bit}
use Rattle.model_base.specs.Finite.{from_one, gather}
use Rattle.model_base.proofs.Bits.{half}
use Rattle.model_base.proofs.Gathers.{gather-low}
use Rattle.model_base.proofs.Tests.{test}
use Rattle.model_sheet.specs.Problem.{max_agents}
use Rattle.model_agent.specs.Message.{
  Assignment,
  nobody,
  Message as Message',
  Info as Info',
  Back as Back',
  AddLink as AddLink',
  Post as Post',
}
use Rattle.model_agent.specs.Traffic.{Sort, Infos, Backs, AddLinks, of_sort, number, message_in, messages_in, top, raised}
use Rattle.model_agent.specs.Choosing.{refusing}
use Rattle.model_agent.specs.Shape.{max_named, EachIn}
use Rattle.model_agent.proofs.Traffic.{Raised, exact, full, raises, raised-none, number_append, messages-append}
use Rattle.model_base.specs.Sets.{members}
use Rattle.abt_agent.specs.Abstract.{count_of}
use Rattle.abt_agent.specs.Posting.{post_if, posts_to, links_to, news_to, back_of, backs_from, posts_left, Ready}
use Rattle.abt_agent.specs.declared.Traffic.{Traffic}
use Rattle.abt_agent.specs.declared.Outbox.{Outbox}

-- ---- to a set

pub ones_none : ones 0 ≡ 0
unfolding ones
ones_none = refl

-- the agents beyond k, of which there are at most d
beyond : (x : Sort) (m : Message') (s d k : ℕ) → s / 2 ^ k < 2 ^ d
    → number x (messages_in (gather d (suc k) (λ j. post_if (members s j) m j))) ≡ of_sort x m * ones (s / 2 ^ k)
unfolding gather number messages_in message_in post_if members from_one bit
beyond x m s zero k h = let z : s / 2 ^ k ≡ 0 = omega arith in rw (z, ones_none) (omega arith)
beyond x m s (suc d) k h =
    let q = s / 2 ^ k in
    let rest = beyond x m s d (suc k) (rw half (omega arith)) in
    let step : of_sort x m * ones q ≡ of_sort x m * (q % 2 + ones (q / 2)) = rw (ones_step q) in
    test (bit s k)
    (λ t. let odd : q % 2 ≡ 1 = eqb-true (q % 2) 1 t in rw (t, step, odd, rest, half) (omega arith))
    (λ t. let even : q % 2 ≡ 0 = omega (arith, eqb-false (q % 2) 1 t) in rw (t, step, even, rest, half) (omega arith))

to_set : (x : Sort) (m : Message') (s : ℕ) → s < 2 ^ 16 → EachIn (members s) (λ k. k ≤ max_agents)
    → number x (messages_in (posts_to m (members s))) ≡ of_sort x m * ones s
unfolding posts_to post_if max_agents max_named
to_set x m s h few =
    ap (λ (l : List Post'). number x (messages_in l)) (sym (gather-low 12 16 _ (omega arith) (λ j lo hi. nothing j lo hi)))
    ∙ (rw div-one at (beyond x m s 16 0 (rw div-one h)))
  where
    nothing : (j : ℕ) → 12 < j → j ≤ 16 → post_if (members s j) m j ≡ []
    nothing j lo hi = test (members s j) (λ t. absurd (omega (arith, few j (omega arith) hi t))) (λ t. rw t)

-- ---- Backs

a_back : (x : Sort) (lhs : Assignment) (v : ℕ) → of_sort x (Back' lhs v) ≡ of_sort x (Back' nobody 0)
unfolding of_sort
a_back Infos lhs v = refl
a_back Backs lhs v = refl
a_back AddLinks lhs v = refl

all-backs : (x : Sort) (l : List ℕ) → number x (messages_in (map back_of l)) ≡ of_sort x (Back' nobody 0) * length l
unfolding number messages_in message_in back_of refusing
all-backs x [] = omega arith
all-backs x (y ∷ ys) = rw (a_back x _ _, all-backs x ys) (omega arith)

-- ---- all of them

pub left_of : Outbox → Sort → ℕ
left_of p Infos = ones p.told
left_of p Backs = p.count - p.next
left_of p AddLinks = ones p.links

sum : (p : Outbox) (x : Sort)
    → of_sort x AddLink' * ones p.links + of_sort x (Back' nobody 0) * (p.count - p.next) + of_sort x (Info' p.value) * ones p.told ≡ left_of p x
unfolding of_sort left_of
sum p Infos = omega arith
sum p Backs = omega arith
sum p AddLinks = omega arith

pub tally : (p : Outbox) (backs : List ℕ) → p.links < 2 ^ 16 → p.told < 2 ^ 16 → Ready p backs → (x : Sort)
    → number x (messages_in (posts_left p backs)) ≡ left_of p x
unfolding posts_left links_to news_to backs_from
tally p backs small narrow r x =
    ap (number x) (messages-append (links_to p.links ++ backs_from p.next p.count backs) (news_to p.value p.told))
    ∙ number_append x (messages_in (links_to p.links ++ backs_from p.next p.count backs)) (messages_in (news_to p.value p.told))
    ∙ rw (
      messages-append (links_to p.links) (backs_from p.next p.count backs),
      number_append x (messages_in (links_to p.links)) (messages_in (backs_from p.next p.count backs)),
      to_set x AddLink' p.links small r.links,
      all-backs x (drop p.next (take p.count backs)),
      to_set x (Info' p.value) p.told narrow r.told,
      length-drop p.next (take p.count backs),
      length-take-le p.count backs (omega (arith, r.few, r.places)),
    ) (sum p x)

-- ---- counts raised

-- as the code raises one
pub as-raised : (c k r : ℕ) → r ≡ min (c + k) 18446744073709551615 → r ≡ raised c k
unfolding top
as-raised c k r e = go (raises c k)
  where
    go : Raised c k → r ≡ raised c k
    go (exact u f) = omega (arith, e, u, f)
    go (full u f) = omega (arith, e, u, f)

-- numbers of 64 bits
abbrev pub Small : Traffic → Type 0
Small c = (c.infos ≤ top) × (c.backs ≤ top) × (c.links ≤ top)

module _ (c : Traffic) (r : ℕ) (small : Small c) where
  pub got-info : (v : ℕ) → r ≡ raised c.infos 1 → (x : Sort)
      → count_of record { infos = r; backs = c.backs; links = c.links } x ≡ raised (count_of c x) (number x (Info' v ∷ []))
  unfolding count_of number of_sort
  got-info v e Infos = e
  got-info v e Backs = sym (raised-none c.backs small.1)
  got-info v e AddLinks = sym (raised-none c.links small.2)

  pub got-back : (lhs : Assignment) (v : ℕ) → r ≡ raised c.backs 1 → (x : Sort)
      → count_of record { infos = c.infos; backs = r; links = c.links } x ≡ raised (count_of c x) (number x (Back' lhs v ∷ []))
  unfolding count_of number of_sort
  got-back lhs v e Infos = sym (raised-none c.infos small.0)
  got-back lhs v e Backs = e
  got-back lhs v e AddLinks = sym (raised-none c.links small.2)

  pub got-link : r ≡ raised c.links 1 → (x : Sort)
      → count_of record { infos = c.infos; backs = c.backs; links = r } x ≡ raised (count_of c x) (number x (AddLink' ∷ []))
  unfolding count_of number of_sort
  got-link e Infos = sym (raised-none c.infos small.0)
  got-link e Backs = sym (raised-none c.backs small.1)
  got-link e AddLinks = e

pub left-raised : (c r : Traffic) (p : Outbox) → r.infos ≡ raised c.infos (ones p.told) → r.backs ≡ raised c.backs (p.count - p.next)
    → r.links ≡ raised c.links (ones p.links) → (x : Sort) → count_of r x ≡ raised (count_of c x) (left_of p x)
unfolding count_of left_of
left-raised c r p i b l Infos = i
left-raised c r p i b l Backs = b
left-raised c r p i b l AddLinks = l
