-- The posts of a step, put onto the receiver's channels one by one. Each goes to an unused place and is counted in a row of its own, so that the network
-- stays what it was; once all have found room, the network with that row has them at the ends of its channels. A full channel is met exactly if one
-- would come to hold more than eight.
use Rattle.std.proofs.Common.{ℕ, suc, ◌+◌, ◌*◌, ◌%◌, ◌≤◌, ◌<◌, true, false, ◌≡◌, refl, sym, ap, ◌∙◌, subst, ◌≢◌, List, [], ◌∷◌, ◌++◌, append_assoc, append-nil, arith, length, eq-eqb, ne_eqb, leb-true, le-leb}
use mathlib.Core.Bool.{false≢true}
use mathlib.Core.Path.{fun_ext}
use Rattle.model_base.specs.Finite.{at}
use Rattle.model_base.proofs.Tests.{test, eq_test}
use Rattle.model_base.proofs.Search.{all_to-at, to-all_to, at_same, at_other}
use Rattle.model_base.proofs.Lists.{All}
use Rattle.model_sheet.specs.Problem.{max_agents}
use Rattle.model_agent.specs.Message.{Message as Message', Post as Post', sent_to}
use Rattle.abt_packed.specs.Packed.{assignment}
use Rattle.model_network.specs.Network.{posted}
use Rattle.model_network.specs.Shape.{capacity}
use Rattle.abt_record.specs.declared.Place.{Place}
use Rattle.abt_record.specs.declared.Network.{Network}
use Rattle.abt_record.specs.Abstract.{is_channel, channel_at, place_of, network_of}
use Rattle.abt_shape.proofs.Numbering.{Ends, ends}
use Rattle.abt_record_laws.specs.Held.{held_at, row_fits}
use Rattle.abt_record_laws.proofs.Changes.{
  FullArrays,
  word_at,
  placed,
  rowed,
  placed-sized,
  held-is,
  stored-channel,
  placed-network,
  rowed-channel,
}

-- ---- what goes to one receiver

pub sent-to-same : (y : ℕ) (p : Post') (ps : List Post') → y ≡ p.to → sent_to y (p ∷ ps) ≡ p.message ∷ sent_to y ps
unfolding sent_to
sent-to-same y p ps e = rw (eq-eqb y p.to e, sent_to)

pub sent-to-other : (y : ℕ) (p : Post') (ps : List Post') → y ≢ p.to → sent_to y (p ∷ ps) ≡ sent_to y ps
unfolding sent_to
sent-to-other y p ps n = rw (ne_eqb y p.to n, sent_to)

-- where something goes to y, y is somebody's
sent-some : (P : ℕ → Type 0) (y : ℕ) (posts : List Post') → All (λ p. P p.to) posts → sent_to y posts ≢ [] → P y
unfolding sent_to
sent-some P y [] a n = absurd (n refl)
sent-some P y (p ∷ ps) a n =
    eq_test y p.to (λ e. rw e a.0) (λ d. sent-some P y ps a.1 (λ q. n (sent-to-other y p ps d ∙ q)))

-- ---- posts at the ends of the sender's channels

pub posted-same : (j : ℕ) (posts : List Post') (ch : ℕ → ℕ → List Message') (x y : ℕ) → x ≡ j → posted j posts ch x y ≡ ch x y ++ sent_to y posts
unfolding posted
posted-same j posts ch x y e = rw (eq-eqb x j e, posted)

pub posted-other : (j : ℕ) (posts : List Post') (ch : ℕ → ℕ → List Message') (x y : ℕ) → x ≢ j → posted j posts ch x y ≡ ch x y
unfolding posted
posted-other j posts ch x y n = rw (ne_eqb x j n, posted)

-- one message more from j to k
abbrev put : ℕ → ℕ → Message' → (ℕ → ℕ → List Message') → ℕ → ℕ → List Message'
put j k m ch = at ch j (at (ch j) k (ch j k ++ (m ∷ [])))

module _ (j : ℕ) (p : Post') (ps : List Post') (ch : ℕ → ℕ → List Message') where
  put-sender : (y : ℕ) → put j p.to p.message ch j y ++ sent_to y ps ≡ ch j y ++ sent_to y (p ∷ ps)
  put-sender y =
      rw (at_same ch j (at (ch j) p.to (ch j p.to ++ (p.message ∷ []))))
      (eq_test y p.to
      (λ e.
      rw (sent-to-same y p ps e, e, at_same (ch j) p.to (ch j p.to ++ (p.message ∷ []))) (append_assoc (ch j p.to) (p.message ∷ []) (sent_to p.to ps)))
      (λ n.
      rw (sent-to-other y p ps n, at_other (ch j) p.to (ch j p.to ++ (p.message ∷ [])) y n)))

  posted-next : posted j ps (put j p.to p.message ch) ≡ posted j (p ∷ ps) ch
  posted-next =
      fun_ext (λ x. fun_ext (λ y. eq_test x j
      (λ e.
      posted-same j ps (put j p.to p.message ch) x y e
      ∙ ap (λ (z : ℕ). put j p.to p.message ch z y ++ sent_to y ps) e ∙ put-sender y ∙ ap (λ (z : ℕ). ch z y ++ sent_to y (p ∷ ps)) (sym e)
      ∙ sym (posted-same j (p ∷ ps) ch x y e))
      (λ n.
      posted-other j ps (put j p.to p.message ch) x y n
      ∙ ap (λ (f : ℕ → List Message'). f y) (at_other ch j (at (ch j) p.to (ch j p.to ++ (p.message ∷ []))) x n)
      ∙ sym (posted-other j (p ∷ ps) ch x y n))))

posted-none : (j : ℕ) (ch : ℕ → ℕ → List Message') → posted j [] ch ≡ ch
unfolding sent_to
posted-none j ch =
    fun_ext (λ x. fun_ext (λ y. eq_test x j
    (λ e. posted-same j [] ch x y e ∙ append-nil (ch x y))
    (λ n. posted-other j [] ch x y n)))

-- ---- counting

-- `now` is what is held with those posts counted that are not left
pub record Counting (held : ℕ → ℕ) (all left : List Post') (now : ℕ → ℕ) : Type 0 where
  pub part : (y : ℕ) → sent_to y all ≡ [] → sent_to y left ≡ []
  pub few : (y : ℕ) → 1 ≤ y → y ≤ 12 → sent_to y all ≢ [] → now y ≤ 8
  pub same : (y : ℕ) → 1 ≤ y → y ≤ 12 → sent_to y all ≢ [] → now y + length (sent_to y left) ≡ held y + length (sent_to y all)

cons-some : {A : Type 0} {x : A} {xs l : List A} → l ≡ x ∷ xs → l ≢ []
cons-some e n = let z = sym (ap length e) ∙ ap length n in absurd (omega arith)

-- the next post goes to k
module _ {held : ℕ → ℕ} {all left : List Post'} {now : ℕ → ℕ} (h : Counting held all left now) (p : Post') (rest : List Post') (e : left ≡ p ∷ rest) where
  goes-there : sent_to p.to left ≡ p.message ∷ sent_to p.to rest
  goes-there = ap (sent_to p.to) e ∙ sent-to-same p.to p rest refl

  goes-nowhere-else : (y : ℕ) → y ≢ p.to → sent_to y left ≡ sent_to y rest
  goes-nowhere-else y n = ap (sent_to y) e ∙ sent-to-other y p rest n

  somebody : sent_to p.to all ≢ []
  somebody n = cons-some goes-there (h.part p.to n)

  counts_up : now p.to < 8 → Counting held all rest (at now p.to (now p.to + 1))
  counts_up l =
      let k = p.to in
      record {
        part = λ y n. eq_test y k
            (λ q. absurd (somebody (rw q at n)))
            (λ q. sym (goes-nowhere-else y q) ∙ h.part y n);
        few = λ y a b n. eq_test y k
            (λ q. rw (q, at_same now k (now k + 1)) (omega arith))
            (λ q. rw (at_other now k (now k + 1) y q) (h.few y a b n));
        same = λ y a b n. eq_test y k
            (λ q.
            let new : at now k (now k + 1) y ≡ now y + 1 = rw q (at_same now k (now k + 1)) in
            let one : length (sent_to y left) ≡ suc (length (sent_to y rest)) = rw q (ap length goes-there) in
            omega (arith, new, one, h.same y a b n))
            (λ q. rw (at_other now k (now k + 1) y q, ← goes-nowhere-else y q) (h.same y a b n));
      }

  finds-full : 1 ≤ p.to → p.to ≤ 12 → 8 ≤ now p.to → row_fits held all ≡ false
  unfolding row_fits capacity max_agents
  finds-full a b l =
      let k = p.to in
      test (row_fits held all)
      (λ t.
      let r : held k + length (sent_to k all) ≤ 8 = leb-true _ _ (all_to-at 12 _ t k a b) in
      absurd (omega (arith, h.same k a b somebody, ap length goes-there)))
      (λ t. t)

finds-room : {held : ℕ → ℕ} {all left : List Post'} {now : ℕ → ℕ} → Counting held all left now → left ≡ []
    → ((y : ℕ) → held y ≤ 8) → row_fits held all ≡ true
unfolding row_fits capacity max_agents sent_to
finds-room {held} {all} {left} {now} h e few =
    to-all_to 12 _ (λ y a b. le-leb (held y + length (sent_to y all)) 8
    (go y (sent_to y all) refl a b))
  where
    go : (y : ℕ) (l : List Message') → sent_to y all ≡ l → 1 ≤ y → y ≤ 12 → held y + length (sent_to y all) ≤ 8
    go y [] q a b = rw q (omega (arith, few y))
    go y (m ∷ ms) q a b =
        omega (arith, h.few y a b (cons-some q), h.same y a b (cons-some q), ap (λ (ps : List Post'). length (sent_to y ps)) e)

-- ---- posting

-- all is the same but what stands in the places
pub record Kept (o p : Network) : Type 0 where
  pub count : p.count ≡ o.count
  pub domains : p.domains ≡ o.domains
  pub bans : p.bans ≡ o.bans
  pub unsolvable : p.unsolvable ≡ o.unsolvable
  pub agents : p.agents ≡ o.agents
  pub heads : p.heads ≡ o.heads
  pub counts : p.counts ≡ o.counts

-- of the posts `all` of agent j on the network o₀, those that are not `left` stand in places of o and are counted in the row `now`
pub record Posting (o₀ : Network) (j : ℕ) (all left : List Post') (o : Network) (now : ℕ) : Type 0 where
  pub sized : FullArrays o
  pub kept : Kept o₀ o
  pub network : network_of o ≡ network_of o₀
  pub lines : All (λ p. is_channel j p.to ≡ true) left
  pub grown : (y : ℕ) → assignment (word_at o₀.counts j) y ≤ assignment now y
  pub outside : (y : ℕ) → is_channel j y ≡ false → assignment now y ≡ assignment (word_at o₀.counts j) y
  pub counting : Counting (held_at o₀.counts j) all left (assignment now)
  pub channels : posted j left (network_of (rowed o j now)).channel ≡ posted j all (network_of o₀).channel

pub posting-starts : (o : Network) (j : ℕ) (all : List Post') → FullArrays o → 1 ≤ j → j ≤ 12 → All (λ p. is_channel j p.to ≡ true) all
    → ((y : ℕ) → held_at o.counts j y ≤ 8) → Posting o j all all o (word_at o.counts j)
posting-starts o j all z lo hi lines few =
    record {
      sized = z;
      kept = record { count = refl; domains = refl; bans = refl; unsolvable = refl; agents = refl; heads = refl; counts = refl };
      network = refl;
      lines = lines;
      grown = λ y. omega arith;
      outside = λ y b. refl;
      counting = record {
        part = λ y n. n;
        few = λ y a b n. rw (← held y n) (few y);
        same = λ y a b n. rw (held y n);
      };
      channels = ap (posted j all) (rowed-channel o j z lo hi);
    }
  where
    held : (y : ℕ) → sent_to y all ≢ [] → held_at o.counts j y ≡ assignment (word_at o.counts j) y
    held y n = held-is o.counts j y (sent-some (λ k. is_channel j k ≡ true) y all lines n)

-- what a turn computes for its receiver k: the channel, its head, how many wait there, the place, and the row with one more
pub record Turn (j ends now k c h t x now' : ℕ) : Type 0 where
  pub channel : c ≡ channel_at j k
  pub head : h ≡ assignment ends k
  pub waiting : t ≡ assignment now k
  pub place : x ≡ 8 * c + (h + t) % 8
  pub next : assignment now' ≡ at (assignment now) k (assignment now k + 1)

-- the next post
module _ {o₀ : Network} {j : ℕ} {all left : List Post'} {o : Network} {now : ℕ} (s : Posting o₀ j all left o now)
    (p : Post') (rest : List Post') (e : left ≡ p ∷ rest) where
  abbrev k : ℕ
  k = p.to

  here : All (λ p. is_channel j p.to ≡ true) (p ∷ rest)
  here = subst (λ l. All (λ p. is_channel j p.to ≡ true) l) e s.lines

  pub post-line : is_channel j p.to ≡ true
  post-line = here.0

  pub post-ends : Ends j p.to
  post-ends = ends j k post-line

  -- a full channel
  pub post-full : (t : ℕ) → t ≡ assignment now p.to → 8 ≤ t → row_fits (held_at o₀.counts j) all ≡ false
  post-full t d l = finds-full s.counting p rest e post-ends.to_low post-ends.to_high (rw (← d) l)

  -- or one more
  pub post-put : {c h t x now' : ℕ} → Turn j (word_at o₀.heads j) now p.to c h t x now' → t < 8 → (v : Place) → place_of v ≡ p.message
      → Posting o₀ j all rest (placed o x v) now'
  post-put {t = t} {x = x} {now' = now'} q l v m =
      let room : assignment now k < 8 = rw q.waiting at l in
      let heads : word_at o.heads j ≡ word_at o₀.heads j = ap (λ (h : List ℕ). word_at h j) s.kept.heads in
      let counts : word_at o.counts j ≡ word_at o₀.counts j = ap (λ (h : List ℕ). word_at h j) s.kept.counts in
      let place : x ≡ 8 * channel_at j k + (assignment (word_at o.heads j) k + assignment now k) % 8 =
      rw (heads, ← q.head, ← q.waiting, ← q.channel) q.place in
      record {
        sized = placed-sized o x v s.sized;
        kept =
            record {
              count = s.kept.count;
              domains = s.kept.domains;
              bans = s.kept.bans;
              unsolvable = s.kept.unsolvable;
              agents = s.kept.agents;
              heads = s.kept.heads;
              counts = s.kept.counts;
            };
        network = placed-network o j k x (assignment now k) v post-line place (rw counts (s.grown k)) room ∙ s.network;
        lines = here.1;
        grown = λ y. rw q.next (eq_test y k
            (λ d. rw (d, at_same (assignment now) k (assignment now k + 1)) (omega (arith, s.grown k)))
            (λ n. rw (at_other (assignment now) k (assignment now k + 1) y n) (s.grown y)));
        outside = λ y b. rw q.next (eq_test y k
            (λ d. absurd (false≢true (sym b ∙ rw d post-line)))
            (λ n. rw (at_other (assignment now) k (assignment now k + 1) y n) (s.outside y b)));
        counting = rw q.next (counts_up s.counting p rest e room);
        channels =
            ap (posted j rest) (stored-channel o s.sized j k post-line now now' x v place room q.next
            ∙ ap (λ (n : Message'). put j k n (network_of (rowed o j now)).channel) m)
            ∙ posted-next j p rest (network_of (rowed o j now)).channel
            ∙ ap (λ (l : List Post'). posted j l (network_of (rowed o j now)).channel) (sym e)
            ∙ s.channels;
      }

-- none is left
module _ {o₀ : Network} {j : ℕ} {all left : List Post'} {o : Network} {now : ℕ} (s : Posting o₀ j all left o now) (e : left ≡ []) where
  pub posting-fits : ((y : ℕ) → held_at o₀.counts j y ≤ 8) → row_fits (held_at o₀.counts j) all ≡ true
  posting-fits few = finds-room s.counting e few

  pub posting-ends : (network_of (rowed o j now)).channel ≡ posted j all (network_of o₀).channel
  posting-ends =
      sym (posted-none j (network_of (rowed o j now)).channel)
      ∙ ap (λ (l : List Post'). posted j l (network_of (rowed o j now)).channel) (sym e)
      ∙ s.channels
