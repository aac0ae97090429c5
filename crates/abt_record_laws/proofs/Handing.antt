-- One delivery as the code makes it, from the message at the head on: it finds the message (`Found`), hands it to its receiver (`Stepped`), and
-- then the definitions' delivery is rejected or accepted as the code's is, with the network that the code has stored.
use Rattle.std.proofs.Common.{ℕ, suc, pred, ◌+◌, ◌-◌, ◌*◌, ◌%◌, ◌≤◌, Bool, true, false, ◌&&◌, ◌||◌, ◌≡◌, sym, ap, ◌∙◌, subst, ◌≢◌, List, [], ◌∷◌, arith, get_or, length-set, get_or-set_other, eqb}
use mathlib.Core.Path.{fun_ext}
use borrow.Author.Tests.{eqb-false}
use Rattle.model_base.specs.Finite.{at, within, every}
use Rattle.model_base.proofs.Tests.{test, eq_test, not-true, within-true, both}
use Rattle.model_base.proofs.Search.{at_same, at_other}
use Rattle.model_base.proofs.Lists.{All, All-map, every-all}
use Rattle.model_sheet.specs.Problem.{max_agents, pairs_before}
use Rattle.model_agent.specs.Message.{Message as Message', Post as Post'}
use Rattle.model_agent.specs.Agent.{Step as Step'}
use Rattle.model_agent.specs.Receiving.{receive}
use Rattle.model_agent.specs.Shape.{any_value, RecordFits, MessageFits}
use Rattle.abt_packed.specs.Packed.{assignment}
use Rattle.abt_choosing.specs.Conflicts.{self_of as self_of', Able, ViewFits, bans_in}
use Rattle.abt_agent.specs.declared.Agent.{Agent}
use Rattle.abt_agent.specs.declared.Message.{Message}
use Rattle.abt_agent.specs.declared.Message.TheVariants.{Info}
use Rattle.abt_agent.specs.declared.Step.{Step}
use Rattle.abt_agent.specs.Entries.{is_other, StepsAs}
use Rattle.abt_agent.specs.Abstract.{assigned, message_of, agent_of}
use Rattle.abt_agent.specs.Posting.{posts_left, step_of}
use Rattle.model_network.specs.Network.{Network as Network', posted, with_step, with_channel, step_on, handed}
use Rattle.model_network.specs.Shape.{capacity, in_shape}
use Rattle.model_network.specs.Delivery.{
  NoRoom,
  Accepted,
  rejecting,
  numbers_good,
  fits,
  deliver_head,
  deliver,
}
use Rattle.theorems_shape.proofs.ShapeClauses.{shaped}
use Rattle.theorems_shape.proofs.DeliverShape.{Head, at_head}
use Rattle.abt_record.specs.declared.Place.{Place}
use Rattle.abt_record.specs.declared.Network.{Network}
use Rattle.abt_record.specs.Abstract.{is_channel, channel_at, place_of, ring, problem_of, network_of}
use Rattle.abt_shape.proofs.Numbering.{Ends, ends, to-channel}
use Rattle.abt_record_laws.specs.Held.{held_at, row_fits}
use Rattle.abt_record_laws.proofs.Changes.{
  FullArrays,
  word_at,
  arrived,
  rowed,
  counted-sized,
  rest,
  Taken,
  channel-held,
  head-is,
  arrived-channel,
  agents-changed,
}
use Rattle.abt_record_laws.proofs.Posting.{posted-same, posted-other, Posting, posting-starts, posting-fits, posting-ends}
use Rattle.abt_record_laws.proofs.Words.{part}
use Rattle.abt_record_laws.proofs.Stepping.{own, step_is, able, receiver-fits, message-received, view-fits}
use Rattle.abt_record_laws.proofs.Finding.{room-is}
use Rattle.abt_record_laws.proofs.Rejecting.{tries, jams, goes}

-- ---- the message is found

-- the numbers of a delivery
pub numbers-line : (w : Network') (i j : ℕ) → in_shape w ≡ true → numbers_good w i j ≡ true → is_channel i j ≡ true
unfolding numbers_good max_agents
numbers-line w i j s n =
    let r = (shaped w s).range.high in
    let b = both (within w.problem.count i && within w.problem.count j) _ n in
    let c = both (within w.problem.count i) (within w.problem.count j) b.0 in
    let ri = within-true _ i c.0 in
    let rj = within-true _ j c.1 in
    to-channel i j ri.0 (omega arith) rj.0 (omega arith) (eqb-false i j (not-true (eqb i j) b.1))

-- a delivery from i to j that finds a message at place x
pub record Found (o : Network) (i j x : ℕ) : Type 0 where
  pub sized : FullArrays o
  pub shape : in_shape (network_of o) ≡ true
  pub numbers : numbers_good (network_of o) i j ≡ true
  pub running : o.unsolvable ≡ false
  pub waits : assignment (word_at o.counts i) j ≢ 0
  pub place : x ≡ 8 * channel_at i j + (assignment (word_at o.heads i) j + 0) % 8

found-line : {o : Network} {i j x : ℕ} → Found o i j x → is_channel i j ≡ true
found-line {o} {i} {j} f = numbers-line (network_of o) i j f.shape f.numbers

pub found-ends : {o : Network} {i j x : ℕ} → Found o i j x → Ends i j
found-ends {i = i} {j = j} f = ends i j (found-line f)

-- what an array past its end has
abbrev pub zero_place : Place
zero_place = record { message = Info 0 }

abbrev pub head_at : Network → ℕ → Message'
head_at o x = message_of (get_or o.places x zero_place).message

-- ---- and handed to its receiver

-- a delivery that has found its message, and whose receiver has made the step t of it
pub record Stepped (o : Network) (i j x : ℕ) (t : Step) : Type 0 where
  pub found : Found o i j x
  pub step : step_of t ≡ step_on (network_of o) i j (head_at o x)
  pub others : every (λ p. is_other (own o.rule o.domains j) p.to) (step_on (network_of o) i j (head_at o x)).sent ≡ true

module _ {o : Network} {i j x : ℕ} (f : Found o i j x) where
  abbrev w : Network'
  w = network_of o

  found-head : w.channel i j ≡ head_at o x ∷ rest o i j
  unfolding place_of
  found-head = head-is o f.sized i j (found-line f) x zero_place f.place (omega (arith, f.waits))

  found_at : Head w i j (head_at o x) (rest o i j)
  unfolding network_of
  found_at = at_head w i j (head_at o x) (rest o i j) f.shape f.numbers f.running found-head

  found-tries : deliver w i j ≡ deliver_head w i j (head_at o x ∷ rest o i j)
  unfolding network_of
  found-tries = tries w i j f.shape f.numbers f.running (head_at o x ∷ rest o i j) found-head

  module _ (d : Agent) (domains bans : List ℕ) (a : ℕ) (p : domains ≡ o.domains) (k : bans ≡ o.bans) (e : a ≡ pairs_before (pred j)) where
    abbrev m : Message
    m = (get_or o.places x zero_place).message

    -- what the receiver's bars ask
    pub bars-ask : Able (own o.rule domains j) (part bans a j) × ViewFits (own o.rule domains j) (assigned (get_or o.agents (j - 1) d).view)
    bars-ask = (able o i j m (rest o i j) f.sized found_at domains bans a p k e, view-fits o i j m (rest o i j) f.sized found_at d domains p)

    -- what its step asks, but for its bars
    pub step-asks :
        Able (own o.rule domains j) (part bans a j)
        × (RecordFits any_value (self_of' (own o.rule domains j)) (agent_of (get_or o.agents (j - 1) d))
        × MessageFits any_value (self_of' (own o.rule domains j)) (agent_of (get_or o.agents (j - 1) d)) i (head_at o x))
    step-asks = (
      able o i j m (rest o i j) f.sized found_at domains bans a p k e,
      (receiver-fits o i j m (rest o i j) f.sized found_at d domains p, message-received o i j m (rest o i j) f.sized found_at d domains p),
    )

    pub steps : (t : Step)
        → StepsAs (own o.rule domains j) (bans_in (part bans a j)) t
        (receive (self_of' (own o.rule domains j)) (bans_in (part bans a j)) (agent_of (get_or o.agents (j - 1) d)) i (head_at o x))
        → Stepped o i j x t
    steps t q =
        let c = found-ends f in
        let s = step_is o domains bans i j a d m f.sized p k c.to_low c.to_high e in
        record {
          found = f;
          step = q.step ∙ s;
          others =
              subst (λ (l : List Post'). every (λ p. is_other (own o.rule o.domains j) p.to) l ≡ true) (ap (λ (y : Step'). y.sent) s) (rw (← p) q.others);
        }

-- ---- the step, put into the network

-- no channel holds more than eight
held-few : (o : Network) → in_shape (network_of o) ≡ true → (i : ℕ) → 1 ≤ i → i ≤ 12 → (y : ℕ) → held_at o.counts i y ≤ 8
unfolding held_at capacity max_agents
held-few o s i lo hi y =
    test (is_channel i y)
    (λ t. let b = ends i y t in rw (← channel-held o i y) ((shaped (network_of o) s).channels i y lo hi b.to_low b.to_high).room)
    (λ t. rw (t, held_at) (omega arith))

-- what agent j sends, and what is taken off a channel to it, do not meet
apart-posted : (i j : ℕ) (posts : List Post') (ch : ℕ → ℕ → List Message') (others : List Message') → i ≢ j
    → at (posted j posts ch) i (at (posted j posts ch i) j others) ≡ posted j posts (at ch i (at (ch i) j others))
apart-posted i j posts ch others n = fun_ext (λ x. fun_ext (λ y. eq_test x i (λ e. rw e (here y)) (λ d. there x y d)))
  where
    off : ℕ → ℕ → List Message'
    off = at ch i (at (ch i) j others)

    here : (y : ℕ) → at (posted j posts ch) i (at (posted j posts ch i) j others) i y ≡ posted j posts off i y
    here y =
        rw (at_same (posted j posts ch) i (at (posted j posts ch i) j others), posted-other j posts off i y n, at_same ch i (at (ch i) j others))
        (eq_test y j
        (λ e. rw (e, at_same (posted j posts ch i) j others, at_same (ch i) j others))
        (λ d. rw (at_other (posted j posts ch i) j others y d, at_other (ch i) j others y d) (posted-other j posts ch i y n)))

    there : (x y : ℕ) → x ≢ i → at (posted j posts ch) i (at (posted j posts ch i) j others) x y ≡ posted j posts off x y
    there x y d =
        rw (at_other (posted j posts ch) i (at (posted j posts ch i) j others) x d)
        (eq_test x j
        (λ e. rw (posted-same j posts ch x y e, posted-same j posts off x y e, at_other ch i (at (ch i) j others) x d))
        (λ q. rw (posted-other j posts ch x y q, posted-other j posts off x y q, at_other ch i (at (ch i) j others) x d)))

tails : {m n : Message'} {xs ys : List Message'} → m ∷ xs ≡ n ∷ ys → xs ≡ ys
tails e = cc

module _ {o : Network} {i j x : ℕ} {t : Step} (s : Stepped o i j x t) where
  abbrev f : Found o i j x
  f = s.found

  abbrev v : Network'
  v = network_of o

  E : Ends i j
  E = found-ends f

  abbrev sent : List Post'
  sent = posts_left t.outbox t.backs

  sent_is : posts_left t.outbox t.backs ≡ (step_on (network_of o) i j (head_at o x)).sent
  unfolding step_of
  sent_is = ap (λ (y : Step'). y.sent) s.step

  -- the receiver's posts go along its channels
  lines : All (λ p. is_channel j p.to ≡ true) sent
  unfolding is_other max_agents
  lines =
      rw sent_is
      (All-map {A = Post'} _ _
      (λ p h.
      let b = both (within 12 p.to) _ h in
      let r = within-true 12 p.to b.0 in
      to-channel j p.to E.to_low E.to_high r.0 r.1 (λ e. eqb-false p.to j (not-true (eqb p.to j) b.1) (sym e)))
      (step_on (network_of o) i j (head_at o x)).sent (every-all _ (step_on (network_of o) i j (head_at o x)).sent s.others))

  -- the posts begin to be stored
  pub storing : Posting o j (posts_left t.outbox t.backs) (posts_left t.outbox t.backs) o (word_at o.counts j)
  storing = posting-starts o j sent f.sized E.to_low E.to_high lines (held-few o f.shape j E.to_low E.to_high)

  room-is-found : fits (handed v i j (head_at o x) (rest o i j)) ≡ row_fits (held_at o.counts j) sent
  room-is-found =
      room-is o i j (head_at o x) (rest o i j) (shaped v f.shape) (found-head f) E.apart E.to_low E.to_high
      ∙ ap (row_fits (held_at o.counts j)) (sym sent_is)

  -- 10
  pub finds-no-room : row_fits (held_at o.counts j) (posts_left t.outbox t.backs) ≡ false
      → deliver (network_of o) i j ≡ rejecting NoRoom (network_of o)
  finds-no-room n = found-tries f ∙ jams v i j (head_at o x) (rest o i j) (room-is-found ∙ n)

  -- all are stored
  module _ {left : List Post'} {p : Network} {now : ℕ} (h : Posting o j (posts_left t.outbox t.backs) left p now) (e : left ≡ [])
      {heads counts : ℕ} (q : Taken (rowed p j now) i j heads counts) where
    -- sender i's row is not the receiver's
    row_kept : word_at (rowed p j now).counts i ≡ word_at p.counts i
    row_kept = get_or-set_other p.counts (j - 1) (i - 1) now 0 (λ d. E.apart (omega (arith, E.from_low, E.to_low)))

    stored-found : Found p i j x
    stored-found =
        record {
          sized = h.sized;
          shape = rw h.network f.shape;
          numbers = rw h.network f.numbers;
          running = h.kept.unsolvable ∙ f.running;
          waits = rw h.kept.counts f.waits;
          place = rw h.kept.heads f.place;
        }

    rest-kept : rest (rowed p j now) i j ≡ rest o i j
    rest-kept =
        ap (λ (c : ℕ). ring p.places (8 * channel_at i j) (suc (assignment (word_at p.heads i) j)) (assignment c j - 1)) row_kept
        ∙ tails (sym (found-head stored-found) ∙ ap (λ (y : Network'). y.channel i j) h.network ∙ found-head f)

    -- the channels with the posts at their ends, and the message taken off
    channels-are : (network_of (arrived (rowed p j now) i j heads counts t.agent t.unsolvable)).channel
        ≡ posted j sent (at v.channel i (at (v.channel i) j (rest o i j)))
    channels-are =
        arrived-channel (rowed p j now) (counted-sized p _ h.sized (rw length-set h.sized.counts)) i j (found-line f) heads counts t.agent t.unsolvable q
        ∙ rw (posting-ends h e, rest-kept) (apart-posted i j sent v.channel (rest o i j) E.apart)

    handed-is : network_of (arrived (rowed p j now) i j heads counts t.agent t.unsolvable) ≡ handed v i j (head_at o x) (rest o i j)
    unfolding handed with_step with_channel network_of problem_of step_of
    handed-is =
        let falls : t.unsolvable ≡ v.unsolvable || t.unsolvable = sym (ap (λ (b : Bool). b || t.unsolvable) f.running) in
        let agents = agents-changed p j t.agent h.sized E.to_low E.to_high ∙ ap (λ (y : Network'). at y.agents j (agent_of t.agent)) h.network in
        let done : network_of (arrived (rowed p j now) i j heads counts t.agent t.unsolvable) ≡ with_step (with_channel v i j (rest o i j)) j (step_of t) =
        λ k. record { problem = (h.network k).problem; rule = (h.network k).rule; unsolvable = falls k; agents = agents k; channel = channels-are k } in
        done ∙ ap (with_step (with_channel v i j (rest o i j)) j) s.step

    -- accepted, with the network that is stored
    pub delivers : deliver (network_of o) i j
        ≡ record { network = network_of (arrived (rowed p j now) i j heads counts t.agent t.unsolvable); answer = Accepted; sent = (step_on (network_of o) i j (head_at o x)).sent }
    delivers =
        found-tries f
        ∙ goes v i j (head_at o x) (rest o i j) (room-is-found ∙ posting-fits h e (held-few o f.shape j E.to_low E.to_high))
        ∙ ap (λ (y : Network'). record { network = y; answer = Accepted; sent = (step_on v i j (head_at o x)).sent }) (sym handed-is)
