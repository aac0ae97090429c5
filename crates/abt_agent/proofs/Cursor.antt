-- Reading the posts of a step: the first of those left, and those left after it.
-- The first agent of a set is its lowest; a Back is what its whole nogood stands for.
use Rattle.std.proofs.Common.{ℕ, zero, suc, ◌+◌, ◌≤◌, ◌<◌, Bool, true, false, ◌&&◌, Option, Some, None, IsSome, ◌≡◌, refl, sym, ap, ap₂, ◌∙◌, ◌≢◌, List, [], ◌∷◌, ◌++◌, map, arith, add-one, eqb, length, get_or, take, drop, length-take-le, drop-cons, get_or-take, eqb-true, eq-eqb}
use mathlib.Core.Bool.{false≢true}
use lib.Seq.{drop-length}
use Rattle.model_base.specs.Finite.{at, lowest, highest, gather}
use Rattle.model_base.proofs.Tests.{test, eq_test, no-some, both}
use Rattle.model_base.proofs.Search.{lowest-range, at_same, at_other}
use Rattle.model_base.proofs.Gathers.{gather-same}
use Rattle.model_sheet.specs.Problem.{max_agents}
use Rattle.model_agent.specs.Message.{Assignment, known, Message as Message', Info as Info', Back as Back', AddLink as AddLink', Post as Post'}
use Rattle.model_agent.specs.Choosing.{refusing}
use Rattle.model_agent.specs.Shape.{max_named, EachIn}
use Rattle.model_base.specs.Sets.{members}
use Rattle.abt_packed.specs.Packed.{assignment, number_of}
use Rattle.abt_choosing.proofs.Named.{highest-named}
use Rattle.abt_agent.specs.Abstract.{unpacked, message_of, post_of}
use Rattle.abt_agent.specs.Posting.{post_if, posts_to, links_to, news_to, back_of, backs_from, posts_left, none_left, tail_of, Sendable, Ready}
use Rattle.abt_agent.specs.declared.PackedAssignment.{PackedAssignment}
use Rattle.abt_agent.specs.declared.Message.TheVariants.{Back}
use Rattle.abt_agent.specs.declared.Outbox.{Outbox}
use Rattle.abt_agent.proofs.ToSet.{links-none, news-none}

abbrev post : ℕ → Message' → Post'
post k m = record { to = k; message = m }

-- ---- to a set

-- a set with k in it, and the same without k
module _ (m : Message') (f : ℕ → Bool) (k : ℕ) where
  -- as gathered
  abbrev posts : (ℕ → Bool) → ℕ → List Post'
  posts g j = post_if (g j) m j

  kept : (j : ℕ) → j ≢ k → posts f j ≡ posts (at f k false) j
  kept j n = rw (at_other f k false j n)

  lowest-first : (n p a : ℕ) → lowest p a f ≡ Some k → k < a + n
      → gather n a (posts f) ≡ post k m ∷ gather n a (posts (at f k false))
  unfolding lowest gather post_if
  lowest-first n zero a e h = no-some e
  lowest-first zero (suc p) a e h = let r = lowest-range (suc p) a f k e in absurd (omega arith)
  lowest-first (suc n) (suc p) a e h =
      test (f a)
      (λ t.
      let q : Some a ≡ Some k = rw (t, lowest) at e in
      let w : a ≡ k = cc in
      rw (t, w, at_same f k false)
      (ap (λ (l : List Post'). post k m ∷ l) (gather-same n (suc k) (posts f) (posts (at f k false)) (λ j l u. kept j (λ z. omega arith)))))
      (λ t.
      let d : lowest p (suc a) f ≡ Some k = rw (t, lowest) at e in
      let r = lowest-range p (suc a) f k d in
      rw (t, at_other f k false a (λ z. omega arith), t)
      (lowest-first n p (suc a) d (omega arith)))

posts-first : (m : Message') (f g : ℕ → Bool) (k : ℕ) → lowest max_named 1 f ≡ Some k → k ≤ 12 → g ≡ at f k false
    → posts_to m f ≡ post k m ∷ posts_to m g
unfolding posts_to max_agents
posts-first m f g k e h r = rw r (lowest-first m f k 12 max_named 1 e (omega arith))

-- a set of agents
abbrev Few : ℕ → Type 0
Few set = EachIn (members set) (λ k. k ≤ max_agents)

fewer : (set rest k : ℕ) → Few set → members rest ≡ at (members set) k false → Few rest
fewer set rest k a r y lo hi t =
    eq_test y k
    (λ e. absurd (false≢true (sym (ap (λ (f : ℕ → Bool). f y) r ∙ rw e (at_same (members set) k false)) ∙ t)))
    (λ n. a y lo hi (sym (ap (λ (f : ℕ → Bool). f y) r ∙ at_other (members set) k false y n) ∙ t))

-- ---- Backs

backs-next : (i count : ℕ) (backs : List ℕ) → i < count → count ≤ length backs
    → backs_from i count backs ≡ back_of (get_or backs i 0) ∷ backs_from (i + 1) count backs
unfolding backs_from
backs-next i count backs h l =
    let n : i < length (take count backs) = rw (length-take-le count backs l) h in
    rw (add-one, drop-cons (take count backs) i 0 n, get_or-take count backs i 0 h)

backs-over : (i count : ℕ) (backs : List ℕ) → i ≡ count → count ≤ length backs → backs_from i count backs ≡ []
unfolding backs_from
backs-over i count backs e l =
    ap (λ (k : ℕ). map back_of (drop k (take count backs))) (e ∙ sym (length-take-le count backs l)) ∙ ap (map back_of) (drop-length (take count backs))

-- somebody gets it
pub back-named : (x : ℕ) (k : Option ℕ) → Sendable x → k ≡ highest max_named (λ k. known (assignment x k)) → IsSome k
unfolding number_of
back-named x None s e =
    let none_named : number_of (highest max_named (λ k. known (assignment x k))) ≡ 0 = rw (← e) in
    absurd (omega (arith, (highest-named x s.some (omega (arith, s.short))).0, none_named))
back-named x (Some k) s e = refl

pub back_read : (x k v y : ℕ) (p : PackedAssignment) → Some k ≡ highest max_named (λ k. known (assignment x k)) → v ≡ assignment x k
    → unpacked p ≡ y → assignment y ≡ at (assignment x) k 0 → post_of record { to = k; message = Back v p } ≡ back_of x
unfolding post_of message_of back_of refusing number_of
back_read x k v y p top value packed rest =
    ap₂ (λ (l : Assignment) (u : ℕ). post k (Back' l u)) (ap assignment packed ∙ rest) value ∙ ap (λ (o : Option ℕ). refusing (number_of o) (assignment x)) top

-- ---- the posts left

-- the first of them
pub first-is : (l : List Post') (p q : Post') (ps : List Post') → p ≡ q → l ≡ q ∷ ps → l ≡ p ∷ tail_of l
unfolding tail_of
first-is l p q ps f e = rw (f, e)

-- those after it
after_is : (l : List Post') (p : Post') (ps : List Post') → l ≡ p ∷ ps → ps ≡ tail_of l
unfolding tail_of
after_is l p ps e = rw e

abbrev with_links : Outbox → ℕ → Outbox
with_links p set = record p { links = set }

abbrev with_next : Outbox → ℕ → Outbox
with_next p next = record p { next = next }

abbrev with_told : Outbox → ℕ → Outbox
with_told p set = record p { told = set }

module _ (p : Outbox) (backs : List ℕ) (r : Ready p backs) where
  long : p.count ≤ length backs
  long = omega (arith, r.few, r.places)

  -- a set's lowest agent is one of twelve
  few : (set k : ℕ) → Few set → 1 ≤ k → k ≤ 16 → members set k ≡ true → k ≤ 12
  unfolding max_agents max_named
  few set k a lo hi e = a k lo hi e

  -- ---- link requests are left

  module _ (k : ℕ) (low : lowest max_named 1 (members p.links) ≡ Some k) (here : members p.links k ≡ true) (lo : 1 ≤ k) (hi : k ≤ 16) where
    pub link-first : (g : ℕ → Bool) → g ≡ at (members p.links) k false
        → posts_left p backs ≡ post k AddLink' ∷ (posts_to AddLink' g ++ backs_from p.next p.count backs ++ news_to p.value p.told)
    unfolding posts_left links_to
    link-first g e =
        ap (λ (l : List Post'). l ++ backs_from p.next p.count backs ++ news_to p.value p.told)
        (posts-first AddLink' (members p.links) g k low (few p.links k r.links lo hi here) e)

    pub link-rest : (set : ℕ) → members set ≡ at (members p.links) k false
        → Ready (with_links p set) backs × (posts_left (with_links p set) backs ≡ tail_of (posts_left p backs))
    unfolding posts_left links_to
    link-rest set e = (
      record {
        links = fewer p.links set k r.links e;
        told = r.told;
        next = r.next;
        few = r.few;
        places = r.places;
        wholes = r.wholes;
      },
      after_is (posts_left p backs) _ (posts_left (with_links p set) backs) (link-first (members set) e),
    )

  -- ---- none is, but Backs are

  pub back-sendable : p.next < p.count → Sendable (get_or backs p.next 0)
  back-sendable more = r.wholes p.next more

  module _ (none : p.links ≡ 0) where
    without-links : posts_left p backs ≡ backs_from p.next p.count backs ++ news_to p.value p.told
    unfolding posts_left
    without-links =
        ap (λ (l : List Post'). l ++ backs_from p.next p.count backs ++ news_to p.value p.told) (ap links_to none ∙ links-none)

    module _ (more : p.next < p.count) where
      pub back-first : posts_left p backs
          ≡ back_of (get_or backs p.next 0) ∷ (backs_from (p.next + 1) p.count backs ++ news_to p.value p.told)
      back-first =
          without-links ∙ ap (λ (l : List Post'). l ++ news_to p.value p.told) (backs-next p.next p.count backs more long)

      pub back-rest : Ready (with_next p (p.next + 1)) backs × (posts_left (with_next p (p.next + 1)) backs ≡ tail_of (posts_left p backs))
      unfolding posts_left
      back-rest = (
        record {
          links = r.links;
          told = r.told;
          next = omega arith;
          few = r.few;
          places = r.places;
          wholes = r.wholes;
        },
        ap (λ (l : List Post'). l ++ backs_from (p.next + 1) p.count backs ++ news_to p.value p.told) (ap links_to none ∙ links-none)
            ∙ after_is (posts_left p backs) _ _ back-first,
      )

    -- ---- Infos at the most

    module _ (over : p.next ≡ p.count) where
      only-news : posts_left p backs ≡ news_to p.value p.told
      only-news =
          without-links ∙ ap (λ (l : List Post'). l ++ news_to p.value p.told) (backs-over p.next p.count backs over long)

      pub nothing : p.told ≡ 0 → posts_left p backs ≡ []
      nothing e = only-news ∙ ap (news_to p.value) e ∙ news-none p.value

      module _ (k : ℕ) (low : lowest max_named 1 (members p.told) ≡ Some k) (here : members p.told k ≡ true) (lo : 1 ≤ k) (hi : k ≤ 16) where
        pub news-first : (g : ℕ → Bool) → g ≡ at (members p.told) k false
            → posts_left p backs ≡ post k (Info' p.value) ∷ posts_to (Info' p.value) g
        unfolding news_to
        news-first g e =
            only-news ∙ posts-first (Info' p.value) (members p.told) g k low (few p.told k r.told lo hi here) e

        pub news-rest : (set : ℕ) → members set ≡ at (members p.told) k false
            → Ready (with_told p set) backs × (posts_left (with_told p set) backs ≡ tail_of (posts_left p backs))
        unfolding posts_left news_to
        news-rest set e = (
          record {
            links = r.links;
            told = fewer p.told set k r.told e;
            next = r.next;
            few = r.few;
            places = r.places;
            wholes = r.wholes;
          },
          ap₂ (λ (l m : List Post'). l ++ m ++ news_to p.value set) (ap links_to none ∙ links-none) (backs-over p.next p.count backs over long)
              ∙ after_is (posts_left p backs) _ (posts_to (Info' p.value) (members set)) (news-first (members set) e),
        )

-- none is left
pub none_left_lem : (p : Outbox) → none_left p ≡ true → (p.links ≡ 0) × (p.told ≡ 0) × (p.next ≡ p.count)
unfolding none_left
none_left_lem p e =
    let f = both (eqb p.links 0 && eqb p.told 0) (eqb p.next p.count) e in
    let g = both (eqb p.links 0) (eqb p.told 0) f.0 in
    (eqb-true p.links 0 g.0, eqb-true p.told 0 g.1, eqb-true p.next p.count f.1)

-- some are, and no link request, no Back
pub news-left : (p : Outbox) → none_left p ≡ false → p.links ≡ 0 → p.next ≡ p.count → p.told ≢ 0
unfolding none_left
news-left p e none over z = false≢true (sym e ∙ rw (eq-eqb p.links 0 none, eq-eqb p.told 0 z, eq-eqb p.next p.count over))
