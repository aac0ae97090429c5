-- What a change of the arrays does to the network: a head moved on takes a message off one channel, a store and one more in the sender's row put one
-- at the end of one channel, an agent stored is that agent changed, and a store into an unused place changes nothing.
use Rattle.std.proofs.Common.{ℕ, zero, suc, ◌+◌, ◌-◌, ◌*◌, ◌%◌, ◌≤◌, ◌<◌, Bool, true, ◌≡◌, refl, sym, ap, ◌∙◌, ◌≢◌, List, [], ◌∷◌, ◌++◌, map, arith, eqb, get_or, set, length, length-set, get_or-set_same, get_or-set_other, eqb-true}
use mathlib.Core.Path.{fun_ext}
use lib.ListN.{length-map}
use Rattle.model_base.proofs.Arrays.{map-set}
use borrow.Author.Tests.{eqb-false}
use Rattle.model_base.specs.Finite.{at, from_one}
use Rattle.model_base.proofs.Tests.{test, eq_test}
use Rattle.model_base.proofs.Search.{at_same, at_other}
use Rattle.model_agent.specs.Message.{Message as Message'}
use Rattle.model_agent.specs.Agent.{Agent as Agent', unused_agent}
use Rattle.abt_packed.specs.Packed.{assignment}
use Rattle.abt_agent.specs.declared.Agent.{Agent}
use Rattle.abt_agent.specs.Abstract.{agent_of}
use Rattle.abt_record.specs.declared.Place.{Place}
use Rattle.abt_record.specs.declared.Network.{Network}
use Rattle.abt_record.specs.Abstract.{is_channel, channel_at, place_of, ring, row_of, channel_of, problem_of, agents_of, network_of}
use Rattle.abt_shape.proofs.Numbering.{Ends, ends, channel-below}
use Rattle.abt_record_laws.specs.Held.{held_at}
use Rattle.abt_shape.proofs.Columns.{channel-one}
use Rattle.abt_record.proofs.Agents.{agent-at}
use Rattle.abt_record.proofs.Rings.{ring-length, channel-is}
use Rattle.abt_record_laws.proofs.Rings.{ring-head, ring-moved, ring-put, ring-spared, ring-apart}

-- the arrays have their lengths
pub record FullArrays (o : Network) : Type 0 where
  pub domains : length o.domains ≡ 12
  pub bans : length o.bans ≡ 66
  pub agents : length o.agents ≡ 12
  pub heads : length o.heads ≡ 12
  pub counts : length o.counts ≡ 12
  pub places : length o.places ≡ 1056

-- ---- rows

pub row_here : (rows : List ℕ) (i x : ℕ) → i < length rows → row_of (set rows i x) (suc i) ≡ assignment x
unfolding row_of from_one
row_here rows i x h = rw (get_or-set_same rows i x 0 h)

pub row-elsewhere : (rows : List ℕ) (i x y : ℕ) → y ≢ suc i → row_of (set rows i x) y ≡ row_of rows y
unfolding row_of from_one
row-elsewhere rows i x zero n = refl
row-elsewhere rows i x (suc y) n = rw (get_or-set_other rows i y x 0 (λ q. n (ap suc q)))

-- the row of sender i, as the code reads it
abbrev pub word_at : List ℕ → ℕ → ℕ
word_at rows i = get_or rows (i - 1) 0

pub row_is : (rows : List ℕ) (i : ℕ) → 1 ≤ i → row_of rows i ≡ assignment (word_at rows i)
unfolding row_of from_one
row_is rows zero h = absurd (omega arith)
row_is rows (suc i) h = let e : suc i - 1 ≡ i = omega arith in rw e

module _ (rows : List ℕ) (i x : ℕ) (lo : 1 ≤ i) where
  pub row_same : i ≤ length rows → row_of (set rows (i - 1) x) i ≡ assignment x
  row_same h = let e : suc (i - 1) ≡ i = omega arith in rw e at (row_here rows (i - 1) x (omega arith))

  pub row_other : (y : ℕ) → y ≢ i → row_of (set rows (i - 1) x) y ≡ row_of rows y
  row_other y n = row-elsewhere rows (i - 1) x y (λ e. n (omega arith))

-- ---- changed networks

-- a message taken off and its receiver's step taken: heads and counts of sender i, agent j and the verdict are new
abbrev pub arrived : Network → ℕ → ℕ → ℕ → ℕ → Agent → Bool → Network
arrived o i j heads counts a v =
    record {
      count = o.count;
      rule = o.rule;
      domains = o.domains;
      bans = o.bans;
      unsolvable = v;
      agents = set o.agents (j - 1) a;
      heads = set o.heads (i - 1) heads;
      counts = set o.counts (i - 1) counts;
      places = o.places;
    }

-- one place stored
abbrev pub placed : Network → ℕ → Place → Network
placed o x p =
    record {
      count = o.count;
      rule = o.rule;
      domains = o.domains;
      bans = o.bans;
      unsolvable = o.unsolvable;
      agents = o.agents;
      heads = o.heads;
      counts = o.counts;
      places = set o.places x p;
    }

-- other counts
abbrev pub counted : Network → List ℕ → Network
counted o counts =
    record {
      count = o.count;
      rule = o.rule;
      domains = o.domains;
      bans = o.bans;
      unsolvable = o.unsolvable;
      agents = o.agents;
      heads = o.heads;
      counts = counts;
      places = o.places;
    }

-- sender j's row of counts stored
abbrev pub rowed : Network → ℕ → ℕ → Network
rowed o j row = counted o (set o.counts (j - 1) row)

pub counted-sized : (o : Network) (counts : List ℕ) → FullArrays o → length counts ≡ 12 → FullArrays (counted o counts)
counted-sized o counts z l =
    record {
      domains = z.domains;
      bans = z.bans;
      agents = z.agents;
      heads = z.heads;
      counts = l;
      places = z.places;
    }

pub arrived-sized : (o : Network) (i j heads counts : ℕ) (a : Agent) (v : Bool) → FullArrays o → FullArrays (arrived o i j heads counts a v)
arrived-sized o i j heads counts a v z =
    record {
      domains = z.domains;
      bans = z.bans;
      agents = rw length-set z.agents;
      heads = rw length-set z.heads;
      counts = rw length-set z.counts;
      places = z.places;
    }

pub placed-sized : (o : Network) (x : ℕ) (p : Place) → FullArrays o → FullArrays (placed o x p)
placed-sized o x p z =
    record {
      domains = z.domains;
      bans = z.bans;
      agents = z.agents;
      heads = z.heads;
      counts = z.counts;
      places = rw length-set z.places;
    }

-- ---- channels

pub channel-held : (o : Network) (i j : ℕ) → length ((network_of o).channel i j) ≡ held_at o.counts i j
unfolding network_of channel_of held_at
channel-held o i j =
    test (is_channel i j)
    (λ t. rw (t, network_of, held_at) (ring-length o.places (8 * channel_at i j) (row_of o.heads i j) (row_of o.counts i j)))
    (λ t. rw (t, network_of, held_at))

-- what sender i holds for j, by its row
pub held-is : (counts : List ℕ) (i j : ℕ) → is_channel i j ≡ true → held_at counts i j ≡ assignment (word_at counts i) j
unfolding held_at
held-is counts i j b = rw (b, held_at) (ap (λ (f : ℕ → ℕ). f j) (row_is counts i (ends i j b).from_low))

-- two networks that agree on all channels but one
module _ (o o' : Network) (i j : ℕ) (b : is_channel i j ≡ true) (ms : List Message') (e : channel_of o' i j ≡ ms)
    (f : (x y : ℕ) → is_channel x y ≡ true → (x ≡ i → y ≢ j) → channel_of o' x y ≡ channel_of o x y) where
  channel-kept : (x y : ℕ) → (x ≡ i → y ≢ j) → (network_of o').channel x y ≡ (network_of o).channel x y
  unfolding network_of
  channel-kept x y n = test (is_channel x y) (λ t. rw (t, network_of) (f x y t n)) (λ t. rw (t, network_of))

  changed-at : (x y : ℕ) → (network_of o').channel x y ≡ at (network_of o).channel i (at ((network_of o).channel i) j ms) x y
  changed-at x y =
      test (eqb x i)
      (λ s.
      let p = eqb-true x i s in
      rw (p, at_same (network_of o).channel i (at ((network_of o).channel i) j ms))
      (test (eqb y j)
      (λ t. let q = eqb-true y j t in rw (q, at_same ((network_of o).channel i) j ms) (channel-is o' i j b ∙ e))
      (λ t. let q = eqb-false y j t in rw (at_other ((network_of o).channel i) j ms y q) (channel-kept i y (λ _. q)))))
      (λ s.
      let p = eqb-false x i s in
      rw (at_other (network_of o).channel i (at ((network_of o).channel i) j ms) x p) (channel-kept x y (λ q. absurd (p q))))

  channel-changed : (network_of o').channel ≡ at (network_of o).channel i (at ((network_of o).channel i) j ms)
  channel-changed = fun_ext (λ x. fun_ext (λ y. changed-at x y))

-- ---- a message taken off

-- what is left behind the head
abbrev pub rest : Network → ℕ → ℕ → List Message'
rest o i j = ring o.places (8 * channel_at i j) (suc (assignment (word_at o.heads i) j)) (assignment (word_at o.counts i) j - 1)

-- sender i's rows with the message for j taken off
pub record Taken (o : Network) (i j heads counts : ℕ) : Type 0 where
  pub head : assignment heads ≡ at (assignment (word_at o.heads i)) j ((assignment (word_at o.heads i) j + 1) % 8)
  pub count : assignment counts ≡ at (assignment (word_at o.counts i)) j (assignment (word_at o.counts i) j - 1)

module _ (o : Network) (z : FullArrays o) (i j : ℕ) (b : is_channel i j ≡ true) where
  E : Ends i j
  E = ends i j b

  -- the message at the head
  pub head-is : (x : ℕ) (d : Place) → x ≡ 8 * channel_at i j + (assignment (word_at o.heads i) j + 0) % 8
      → 0 < assignment (word_at o.counts i) j
      → (network_of o).channel i j ≡ place_of (get_or o.places x d) ∷ rest o i j
  unfolding channel_of
  head-is x d e k =
      let c : channel_at i j < 132 = channel-below i j b in
      channel-is o i j b
      ∙ rw (row_is o.heads i E.from_low, row_is o.counts i E.from_low)
      (ring-head o.places (channel_at i j) (assignment (word_at o.heads i) j) (assignment (word_at o.counts i) j) d x e
      (rw z.places (omega arith)) k)

  -- and taken off
  pub arrived-channel : (heads counts : ℕ) (a : Agent) (v : Bool) → Taken o i j heads counts
      → (network_of (arrived o i j heads counts a v)).channel ≡ at (network_of o).channel i (at ((network_of o).channel i) j (rest o i j))
  unfolding channel_of
  arrived-channel heads counts a v t =
      channel-changed o (arrived o i j heads counts a v) i j b (rest o i j)
      (rw (row_same o.heads i heads E.from_low (rw z.heads E.from-high), row_same o.counts i counts E.from_low (rw z.counts E.from-high), t.head, t.count, at_same (assignment (word_at o.heads i)) j ((assignment (word_at o.heads i) j + 1) % 8), at_same (assignment (word_at o.counts i)) j (assignment (word_at o.counts i) j - 1))
      (ring-moved o.places (channel_at i j) (assignment (word_at o.heads i) j) (assignment (word_at o.counts i) j)))
      (λ x y s n.
      rw (row_kept o.heads heads ((assignment (word_at o.heads i) j + 1) % 8) (rw z.heads E.from-high) t.head x y n, row_kept o.counts counts (assignment (word_at o.counts i) j - 1) (rw z.counts E.from-high) t.count x y n))
    where
      row_kept : (rows : List ℕ) (row v : ℕ) → i ≤ length rows → assignment row ≡ at (assignment (word_at rows i)) j v → (x y : ℕ)
          → (x ≡ i → y ≢ j) → row_of (set rows (i - 1) row) x y ≡ row_of rows x y
      row_kept rows row v h e x y n =
          eq_test x i
          (λ q. rw (q, row_same rows i row E.from_low h, e, row_is rows i E.from_low) (at_other (assignment (word_at rows i)) j v y (n q)))
          (λ q. ap (λ (f : ℕ → ℕ). f y) (row_other rows i row E.from_low x q))

-- ---- a message put at the end

module _ (o : Network) (z : FullArrays o) (j k : ℕ) (b : is_channel j k ≡ true) where
  D : Ends j k
  D = ends j k b

  pub stored-channel : (now now' x : ℕ) (p : Place)
      → x ≡ 8 * channel_at j k + (assignment (word_at o.heads j) k + assignment now k) % 8
      → assignment now k < 8
      → assignment now' ≡ at (assignment now) k (assignment now k + 1)
      → (network_of (rowed (placed o x p) j now')).channel
      ≡ at (network_of (rowed o j now)).channel j (at ((network_of (rowed o j now)).channel j) k ((network_of (rowed o j now)).channel j k ++ (place_of p ∷ [])))
  unfolding channel_of
  stored-channel now now' x p e h n =
      channel-changed (rowed o j now) (rowed (placed o x p) j now') j k b ((network_of (rowed o j now)).channel j k ++ (place_of p ∷ []))
      (rw (channel-is (rowed o j now) j k b, row_now now, row_now now', n, at_same (assignment now) k (assignment now k + 1), row_is o.heads j D.from_low)
      (ring-put o.places (channel_at j k) (assignment (word_at o.heads j) k) (assignment now k) p x e
      (let c : channel_at j k < 132 = channel-below j k b in rw z.places (omega arith)) h))
      (λ y u s m.
      rw (kept y u m)
      (ring-apart o.places (channel_at j k) (assignment (word_at o.heads j) k) (assignment now k) (channel_at y u) (row_of o.heads y u) (row_of (set o.counts (j - 1) now) y u) p x e
      (λ q. let r = channel-one y u j k s b q in m r.0 r.1)))
    where
      row_now : (row : ℕ) → row_of (set o.counts (j - 1) row) j ≡ assignment row
      row_now row = row_same o.counts j row D.from_low (rw z.counts D.from-high)

      kept : (y u : ℕ) → (y ≡ j → u ≢ k) → row_of (set o.counts (j - 1) now') y u ≡ row_of (set o.counts (j - 1) now) y u
      kept y u m =
          eq_test y j
          (λ q. rw (q, row_now now, row_now now', n) (at_other (assignment now) k (assignment now k + 1) u (m q)))
          (λ q. rw (row_other o.counts j now D.from_low y q, row_other o.counts j now' D.from_low y q))

-- ---- what changes nothing

-- a store into a place that no message of its channel stands in
pub placed-network : (o : Network) (j k x t : ℕ) (p : Place) → is_channel j k ≡ true
    → x ≡ 8 * channel_at j k + (assignment (word_at o.heads j) k + t) % 8 → assignment (word_at o.counts j) k ≤ t → t < 8
    → network_of (placed o x p) ≡ network_of o
unfolding network_of problem_of channel_of
placed-network o j k x t p b e l h =
    λ q. record { problem = problem_of o; rule = o.rule; unsolvable = o.unsolvable; agents = agents_of (map agent_of o.agents); channel = same q }
  where
    D : Ends j k
    D = ends j k b

    kept : (y u : ℕ) → is_channel y u ≡ true → channel_of (placed o x p) y u ≡ channel_of o y u
    kept y u s =
        test (eqb (channel_at y u) (channel_at j k))
        (λ q.
        let r = channel-one y u j k s b (eqb-true (channel_at y u) (channel_at j k) q) in
        rw (r.0, r.1, row_is o.heads j D.from_low, row_is o.counts j D.from_low)
        (ring-spared o.places (channel_at j k) (assignment (word_at o.heads j) k) (assignment (word_at o.counts j) k) t p x e l h))
        (λ q. ring-apart o.places (channel_at j k) (assignment (word_at o.heads j) k) t (channel_at y u) (row_of o.heads y u) (row_of o.counts y u) p x e
        (eqb-false (channel_at y u) (channel_at j k) q))

    same : (network_of (placed o x p)).channel ≡ (network_of o).channel
    same = fun_ext (λ y. fun_ext (λ u. test (is_channel y u) (λ s. rw (s, network_of) (kept y u s)) (λ s. rw (s, network_of))))

-- counts that hold the same for every channel
pub counted-channel : (o : Network) (counts : List ℕ) → ((i j : ℕ) → is_channel i j ≡ true → row_of counts i j ≡ row_of o.counts i j)
    → (network_of (counted o counts)).channel ≡ (network_of o).channel
unfolding network_of channel_of
counted-channel o counts f =
    fun_ext (λ i. fun_ext (λ j. test (is_channel i j) (λ s. rw (s, network_of, f i j s)) (λ s. rw (s, network_of))))

-- a row stored as it is
pub rowed-channel : (o : Network) (j : ℕ) → FullArrays o → 1 ≤ j → j ≤ 12 → (network_of (rowed o j (word_at o.counts j))).channel ≡ (network_of o).channel
rowed-channel o j z lo hi =
    counted-channel o (set o.counts (j - 1) (word_at o.counts j)) (λ x y b. ap (λ (f : ℕ → ℕ). f y) (eq_test x j
    (λ e. rw (e, row_same o.counts j (word_at o.counts j) lo (rw z.counts hi)) (sym (row_is o.counts j lo)))
    (λ n. row_other o.counts j (word_at o.counts j) lo x n)))

-- ---- agents

pub agent-is : (o : Network) (d : Agent) (j : ℕ) → FullArrays o → 1 ≤ j → j ≤ 12 → (network_of o).agents j ≡ agent_of (get_or o.agents (j - 1) d)
agent-is o d j z lo hi = let e : j - 1 + 1 ≡ j = omega arith in rw e at (agent-at o (j - 1) d z.agents (omega arith))

agents-set : (l : List Agent') (k : ℕ) (b : Agent') → k < length l → agents_of (set l k b) ≡ at (agents_of l) (suc k) b
unfolding agents_of from_one
agents-set l k b h = fun_ext (λ x. go x)
  where
    go : (x : ℕ) → agents_of (set l k b) x ≡ at (agents_of l) (suc k) b x
    go zero = sym (at_other (agents_of l) (suc k) b 0 (λ e. absurd (omega arith)))
    go (suc x) =
        test (eqb x k)
        (λ t. let e = eqb-true x k t in rw e (get_or-set_same l k b unused_agent h ∙ sym (at_same (agents_of l) (suc k) b)))
        (λ t.
        let n = eqb-false x k t in
        get_or-set_other l k x b unused_agent n ∙ sym (at_other (agents_of l) (suc k) b (suc x) (λ e. n (omega arith))))

pub agents-put : (l : List Agent) (k : ℕ) (a : Agent) → k < length l
    → agents_of (map agent_of (set l k a)) ≡ at (agents_of (map agent_of l)) (suc k) (agent_of a)
agents-put l k a h = ap agents_of (map-set agent_of l k a) ∙ agents-set (map agent_of l) k (agent_of a) (rw (length-map l agent_of) h)

pub agents-changed : (o : Network) (j : ℕ) (a : Agent) → FullArrays o → 1 ≤ j → j ≤ 12
    → agents_of (map agent_of (set o.agents (j - 1) a)) ≡ at (agents_of (map agent_of o.agents)) j (agent_of a)
agents-changed o j a z lo hi =
    agents-put o.agents (j - 1) a (rw z.agents (omega arith))
    ∙ ap (λ (k : ℕ). at (agents_of (map agent_of o.agents)) k (agent_of a)) (let e : suc (j - 1) ≡ j = omega arith in e)
