-- The Infos of agent i, stored one by one: each stands first on its channel, and i's row of counts, set at the end, counts it.
-- No other channel changes. The channels of i were empty before.
use Rattle.std.proofs.Common.{◌≡◌, refl, sym, ap, ◌∙◌, ◌≢◌, true, false, cond, List, ℕ, ◌+◌, ◌*◌, ◌%◌, arith, length, get_or, set, length-set, get_or-set_same, get_or-set_other}
use mathlib.Core.Bool.{false≢true}
use Rattle.model_base.specs.Finite.{at}
use Rattle.model_base.proofs.Tests.{test, eq_test}
use Rattle.model_base.proofs.Search.{at_same, at_other}
use Rattle.model_agent.specs.Message.{Info, nobody}
use Rattle.model_base.specs.Sets.{members}
use Rattle.abt_packed.specs.Packed.{assignment}
use Rattle.abt_packed.proofs.Digits.{nobody-assigned}
use Rattle.abt_record.specs.declared.Place.{Place}
use Rattle.abt_record.specs.declared.Network.{Network}
use Rattle.abt_record.specs.Abstract.{is_channel, channel_at, place_of, no_place}
use Rattle.abt_shape.proofs.Numbering.{channel-below}
use Rattle.abt_shape.proofs.Columns.{channel-one}

-- the network with these places
abbrev pub with_places : Network → List Place → Network
with_places o places =
    record {
      count = o.count;
      rule = o.rule;
      domains = o.domains;
      bans = o.bans;
      unsolvable = o.unsolvable;
      agents = o.agents;
      heads = o.heads;
      counts = o.counts;
      places = places;
    }

-- o is the network before, all the set to be told, r, row and told how far the telling has come
pub record Telling (i value all : ℕ) (o r : Network) (row told : ℕ) : Type 0 where
  pub same : r ≡ with_places o r.places
  pub size : length r.places ≡ 1056
  pub left : (j : ℕ) → members told j ≡ true → members all j ≡ true
  pub digits : (j : ℕ) → assignment row j ≡ cond (members told j) 0 (cond (members all j) 1 0)
  pub told-first : (j : ℕ) → is_channel i j ≡ true → members all j ≡ true → members told j ≡ false
      → place_of (get_or r.places (8 * channel_at i j) no_place) ≡ Info value
  pub others : (x j h : ℕ) → is_channel x j ≡ true → x ≢ i
      → get_or r.places (8 * channel_at x j + h % 8) no_place ≡ get_or o.places (8 * channel_at x j + h % 8) no_place

module _ (i value all : ℕ) (o : Network) where
  pub telling-begins : length o.places ≡ 1056 → Telling i value all o o 0 all
  unfolding nobody
  telling-begins n =
      record {
        same = refl;
        size = n;
        left = λ j e. e;
        digits = λ j. rw nobody-assigned (test (members all j) (λ e. rw e) (λ e. rw e));
        told-first = λ j c e f. absurd (false≢true (sym f ∙ e));
        others = λ x j h c n. refl;
      }

  module _ (r : Network) (row told k row' told' x : ℕ) (v : Place) (T : Telling i value all o r row told)
      (c : is_channel i k ≡ true) (here : members told k ≡ true)
      (more : assignment row' ≡ at (assignment row) k 1) (fewer : members told' ≡ at (members told) k false)
      (place : x ≡ 8 * channel_at i k) (message : place_of v ≡ Info value) where
    after : List Place
    after = set r.places x v

    fewer-left : (j : ℕ) → members told' j ≡ true → members all j ≡ true
    fewer-left j =
        rw fewer
        (eq_test j k
        (λ q. rw (q, at_same (members told) k false) (λ f. absurd (false≢true f)))
        (λ q. rw (at_other (members told) k false j q) (T.left j)))

    more-digits : (j : ℕ) → assignment row' j ≡ cond (members told' j) 0 (cond (members all j) 1 0)
    more-digits j =
        rw (more, fewer)
        (eq_test j k
        (λ q. rw (q, at_same (assignment row) k 1, at_same (members told) k false, T.left k here))
        (λ q. rw (at_other (assignment row) k 1 j q, at_other (members told) k false j q) (T.digits j)))

    one_more : (j : ℕ) → is_channel i j ≡ true → members all j ≡ true → members told' j ≡ false
        → place_of (get_or after (8 * channel_at i j) no_place) ≡ Info value
    unfolding after
    one_more j d e =
        rw fewer
        (eq_test j k
        (λ q f. rw (q, ← place, get_or-set_same r.places x v no_place (omega (arith, T.size, channel-below i k c))) message)
        (λ q f. rw (get_or-set_other r.places x (8 * channel_at i j) v no_place (λ s. q (channel-one i j i k d c (omega arith)).1))
        (T.told-first j d e (sym (at_other (members told) k false j q) ∙ f))))

    others_same : (y j h : ℕ) → is_channel y j ≡ true → y ≢ i
        → get_or after (8 * channel_at y j + h % 8) no_place ≡ get_or o.places (8 * channel_at y j + h % 8) no_place
    unfolding after
    others_same y j h d n =
        get_or-set_other r.places x (8 * channel_at y j + h % 8) v no_place (λ s. n (channel-one y j i k d c (omega arith)).0)
        ∙ T.others y j h d n

    pub telling-goes : Telling i value all o (with_places r (set r.places x v)) row' told'
    unfolding after
    telling-goes =
        record {
          same = ap (λ (q : Network). with_places q (set r.places x v)) T.same;
          size = simp length-set T.size;
          left = fewer-left;
          digits = more-digits;
          told-first = one_more;
          others = others_same;
        }
