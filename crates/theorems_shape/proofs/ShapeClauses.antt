-- The shape of a network, as facts (`Shaped`), and the test's clauses, both ways. A clause tests the agents 1 to 12, the names 1 to 16 and the
-- values 1 to 8; where it passes, the fact holds of those, and where the fact holds of those, it passes.
use Rattle.std.proofs.Common.{None, Some, ◌≡◌, ◌⊎◌, inl, inr, ⊎_elim, Bool, true, false, not, ◌&&◌, ℕ, pred, ◌≤◌, ◌<◌, arith, length, eqb, ltb, leb, eqb-true, eq-eqb, ltb-true, lt-ltb, leb-true, leb-false, le-leb}
use mathlib.Core.Bool.{false≢true}
use borrow.Author.Tests.{lt-leb}
use Rattle.model_base.specs.Finite.{all_to, every, is_some}
use Rattle.model_base.proofs.Tests.{test, opt, or_left, or_cases, not-true, is_some-false, both, to_both, implied, to-implied, or_right}
use Rattle.model_base.proofs.Search.{all_to-at, to-all_to}
use Rattle.model_base.proofs.Lists.{All, All-map, every-all, to-every}
use Rattle.model_sheet.specs.Problem.{max_agents, max_domain, owns, linked, in_range}
use Rattle.model_sheet.proofs.Range.{Ranged, ranged, to-range}
use Rattle.model_agent.specs.Message.{Assignment, known, Message, Info, Back, AddLink}
use Rattle.model_agent.specs.Traffic.{Sort, Traffic, each_count, top}
use Rattle.model_agent.specs.Agent.{Agent}
use Rattle.model_agent.specs.Shape.{max_named, EachNamed, EachIn}
use Rattle.model_agent.specs.Sorts.{OneLink}
use Rattle.model_agent.proofs.Traffic.{each-count, to-each-count}
use Rattle.model_agent.proofs.Messages.{one-counted, counted-one}
use Rattle.model_network.specs.Network.{Network, is_rule}
use Rattle.model_network.specs.Shape.{
  capacity,
  each_named,
  each_in,
  holds_value,
  last_fits,
  listens_upward,
  informs_downward,
  linked_listen,
  informed_listen,
  view_listened,
  nogood_fits,
  nogoods_fit,
  counts_fit,
  unused,
  agent_in_shape,
  lhs_fits,
  message_fits,
  has_room,
  one_request,
  channel_in_shape,
  in_shape,
}

-- ---- names

pub each_in_lem : (s p : ℕ → Bool) → each_in s p ≡ true → EachIn s (λ k. p k ≡ true)
unfolding each_in
each_in_lem s p e k lo hi h = let one = all_to-at max_named _ e k lo hi in implied (s k) (p k) one h

pub to-each-in : (s p : ℕ → Bool) → EachIn s (λ k. p k ≡ true) → each_in s p ≡ true
unfolding each_in
to-each-in s p f = to-all_to max_named _ (λ k lo hi. to-implied (s k) (p k) (f k lo hi))

pub each-named : (l : Assignment) (p : ℕ → ℕ → Bool) → each_named l p ≡ true → EachNamed l (λ k v. p k v ≡ true)
unfolding each_named
each-named l p e k lo hi h = let one = all_to-at max_named _ e k lo hi in implied (known (l k)) (p k (l k)) one h

pub to-each-named : (l : Assignment) (p : ℕ → ℕ → Bool) → EachNamed l (λ k v. p k v ≡ true) → each_named l p ≡ true
unfolding each_named
to-each-named l p f = to-all_to max_named _ (λ k lo hi. to-implied (known (l k)) (p k (l k)) (f k lo hi))

-- ---- counts

abbrev pub EachCount : Traffic → (ℕ → Type 0) → Type 0
EachCount c P = (x : Sort) → P (c.sent x) × P (c.received x)

-- ---- one agent

pub record AgentShaped (w : Network) (i : ℕ) : Type 0 where
  pub valued : (owns w.problem i (w.agents i).value ≡ true) ⊎ ((w.unsolvable ≡ true) × ((w.agents i).value ≡ 0))
  pub lasting : (owns w.problem i (w.agents i).last ≡ true) × (((w.agents i).value ≡ 0) ⊎ ((w.agents i).value ≡ (w.agents i).last))
  pub upward : EachIn (w.agents i).listens (λ k. k < i)
  pub downward : EachIn (w.agents i).informs (λ k. (i < k) × (k ≤ w.problem.count))
  pub linking : (k : ℕ) → 1 ≤ k → k < i → linked w.problem k i ≡ true → ((w.agents i).listens k ≡ true) × ((w.agents k).informs i ≡ true)
  pub informed : EachIn (w.agents i).informs (λ k. (w.agents k).listens i ≡ true)
  pub viewed : EachNamed (w.agents i).view (λ k v. ((w.agents i).listens k ≡ true) × (owns w.problem k v ≡ true))
  pub agreed : (v : ℕ) (lhs : Assignment) → 1 ≤ v → v ≤ max_domain → (w.agents i).nogoods v ≡ Some lhs
      → (owns w.problem i v ≡ true) × EachNamed lhs (λ k u. u ≡ (w.agents i).view k)
  pub sized : EachCount (w.agents i).counts (λ c. c ≤ top)

-- an agent beyond n
pub record Unused (a : Agent) : Type 0 where
  pub valueless : a.value ≡ 0
  pub never : a.last ≡ 0
  pub deaf : EachIn a.listens (λ k. ⊥)
  pub mute : EachIn a.informs (λ k. ⊥)
  pub blind : EachNamed a.view (λ k v. ⊥)
  pub blank : (v : ℕ) → 1 ≤ v → v ≤ max_domain → a.nogoods v ≡ None
  pub uncounted : EachCount a.counts (λ c. c ≡ 0)

module _ (w : Network) (i : ℕ) where
  pub valued-is : holds_value w i ≡ true → (owns w.problem i (w.agents i).value ≡ true) ⊎ ((w.unsolvable ≡ true) × ((w.agents i).value ≡ 0))
  unfolding holds_value
  valued-is e =
      ⊎_elim inl (λ z. let b = both w.unsolvable _ z in inr (b.0, eqb-true _ _ b.1))
      (or_cases (owns w.problem i (w.agents i).value) _ e)

  pub to-valued : (owns w.problem i (w.agents i).value ≡ true) ⊎ ((w.unsolvable ≡ true) × ((w.agents i).value ≡ 0)) → holds_value w i ≡ true
  unfolding holds_value
  to-valued (inl o) = or_left _ _ o
  to-valued (inr z) = or_right (owns w.problem i (w.agents i).value) _ (to_both w.unsolvable _ z.0 (eq-eqb _ _ z.1))

  pub lasting-is : last_fits w i ≡ true
      → (owns w.problem i (w.agents i).last ≡ true) × (((w.agents i).value ≡ 0) ⊎ ((w.agents i).value ≡ (w.agents i).last))
  unfolding last_fits
  lasting-is e =
      let b = both (owns w.problem i (w.agents i).last) _ e in
      (b.0, ⊎_elim (λ z. inl (eqb-true _ _ z)) (λ z. inr (eqb-true _ _ z)) (or_cases (eqb (w.agents i).value 0) _ b.1))

  pub to-lasting : (owns w.problem i (w.agents i).last ≡ true) × (((w.agents i).value ≡ 0) ⊎ ((w.agents i).value ≡ (w.agents i).last))
      → last_fits w i ≡ true
  unfolding last_fits
  to-lasting (o, z) =
      to_both _ _ o (⊎_elim (λ e. or_left _ _ (eq-eqb _ _ e)) (λ e. or_right (eqb (w.agents i).value 0) _ (eq-eqb _ _ e)) z)

  pub upward-is : listens_upward w i ≡ true → EachIn (w.agents i).listens (λ k. k < i)
  unfolding listens_upward
  upward-is e k lo hi h = ltb-true k i (each_in_lem _ _ e k lo hi h)

  pub to-upward : EachIn (w.agents i).listens (λ k. k < i) → listens_upward w i ≡ true
  unfolding listens_upward
  to-upward f = to-each-in _ _ (λ k lo hi h. lt-ltb k i (f k lo hi h))

  pub downward-is : informs_downward w i ≡ true → EachIn (w.agents i).informs (λ k. (i < k) × (k ≤ w.problem.count))
  unfolding informs_downward
  downward-is e k lo hi h =
      let b = both (ltb i k) (leb k w.problem.count) (each_in_lem _ _ e k lo hi h) in (ltb-true i k b.0, leb-true _ _ b.1)

  pub to-downward : EachIn (w.agents i).informs (λ k. (i < k) × (k ≤ w.problem.count)) → informs_downward w i ≡ true
  unfolding informs_downward
  to-downward f = to-each-in _ _ (λ k lo hi h. let b = f k lo hi h in to_both _ _ (lt-ltb i k b.0) (le-leb _ _ b.1))

  pub linking-is : linked_listen w i ≡ true
      → (k : ℕ) → 1 ≤ k → k < i → linked w.problem k i ≡ true → ((w.agents i).listens k ≡ true) × ((w.agents k).informs i ≡ true)
  unfolding linked_listen
  linking-is e k lo hi h =
      let one = all_to-at (pred i) _ e k lo (omega arith) in both _ _ (implied (linked w.problem k i) _ one h)

  pub to-linking : ((k : ℕ) → 1 ≤ k → k < i → linked w.problem k i ≡ true → ((w.agents i).listens k ≡ true) × ((w.agents k).informs i ≡ true))
      → linked_listen w i ≡ true
  unfolding linked_listen
  to-linking f = to-all_to (pred i) _ (λ k lo hi. to-implied _ _ (λ h. let b = f k lo (omega arith) h in to_both _ _ b.0 b.1))

  pub informed-is : informed_listen w i ≡ true → EachIn (w.agents i).informs (λ k. (w.agents k).listens i ≡ true)
  unfolding informed_listen
  informed-is e = each_in_lem _ _ e

  pub to-informed : EachIn (w.agents i).informs (λ k. (w.agents k).listens i ≡ true) → informed_listen w i ≡ true
  unfolding informed_listen
  to-informed f = to-each-in _ _ f

  pub viewed-is : view_listened w i ≡ true
      → EachNamed (w.agents i).view (λ k v. ((w.agents i).listens k ≡ true) × (owns w.problem k v ≡ true))
  unfolding view_listened
  viewed-is e k lo hi h = both _ _ (each-named _ _ e k lo hi h)

  pub to-viewed : EachNamed (w.agents i).view (λ k v. ((w.agents i).listens k ≡ true) × (owns w.problem k v ≡ true))
      → view_listened w i ≡ true
  unfolding view_listened
  to-viewed f = to-each-named _ _ (λ k lo hi h. let b = f k lo hi h in to_both _ _ b.0 b.1)

  pub agreed-is : nogoods_fit w i ≡ true → (v : ℕ) (lhs : Assignment) → 1 ≤ v → v ≤ max_domain → (w.agents i).nogoods v ≡ Some lhs
      → (owns w.problem i v ≡ true) × EachNamed lhs (λ k u. u ≡ (w.agents i).view k)
  unfolding nogoods_fit nogood_fits
  agreed-is e v lhs lo hi q =
      let one = all_to-at max_domain _ e v lo hi in
      let b = both (owns w.problem i v) _ (rw q at one) in
      (b.0, λ k lk hk h. eqb-true _ _ (each-named _ _ b.1 k lk hk h))

  pub to-agreed : ((v : ℕ) (lhs : Assignment) → 1 ≤ v → v ≤ max_domain → (w.agents i).nogoods v ≡ Some lhs
      → (owns w.problem i v ≡ true) × EachNamed lhs (λ k u. u ≡ (w.agents i).view k)) → nogoods_fit w i ≡ true
  unfolding nogoods_fit nogood_fits
  to-agreed f =
      to-all_to max_domain _ (λ v lo hi. opt ((w.agents i).nogoods v)
      (λ q. rw q)
      (λ lhs q. let b = f v lhs lo hi q in rw q (to_both _ _ b.0 (to-each-named _ _ (λ k lk hk h. eq-eqb _ _ (b.1 k lk hk h))))))

  pub sized-is : counts_fit w i ≡ true → EachCount (w.agents i).counts (λ c. c ≤ top)
  unfolding counts_fit
  sized-is e x = let b = each-count _ _ e x in (leb-true _ _ b.0, leb-true _ _ b.1)

  pub to-sized : EachCount (w.agents i).counts (λ c. c ≤ top) → counts_fit w i ≡ true
  unfolding counts_fit
  to-sized f = to-each-count _ _ (λ x. let b = f x in (le-leb _ _ b.0, le-leb _ _ b.1))

  pub agent-shaped : i ≤ w.problem.count → agent_in_shape w i ≡ true → AgentShaped w i
  unfolding agent_in_shape
  agent-shaped h e =
      let f = both _ (counts_fit w i) (rw (le-leb i w.problem.count h, agent_in_shape) at e) in
      let c = both _ (nogoods_fit w i) f.0 in
      let d = both _ (view_listened w i) c.0 in
      let l = both _ (informed_listen w i) d.0 in
      let m = both _ (linked_listen w i) l.0 in
      let n = both _ (informs_downward w i) m.0 in
      let o = both _ (listens_upward w i) n.0 in
      let v = both (holds_value w i) (last_fits w i) o.0 in
      record {
        valued = valued-is v.0;
        lasting = lasting-is v.1;
        upward = upward-is o.1;
        downward = downward-is n.1;
        linking = linking-is m.1;
        informed = informed-is l.1;
        viewed = viewed-is d.1;
        agreed = agreed-is c.1;
        sized = sized-is f.1;
      }

  pub to-agent-shaped : i ≤ w.problem.count → AgentShaped w i → agent_in_shape w i ≡ true
  unfolding agent_in_shape
  to-agent-shaped h a =
      rw (le-leb i w.problem.count h, agent_in_shape)
      (rw (
        to-valued a.valued,
        to-lasting a.lasting,
        to-upward a.upward,
        to-downward a.downward,
        to-linking a.linking,
        to-informed a.informed,
        to-viewed a.viewed,
        to-agreed a.agreed,
        to-sized a.sized,
      ))

pub unused-is : (a : Agent) → unused a ≡ true → Unused a
unfolding unused
unused-is a e =
    let f = both _ (each_count a.counts (λ c. eqb c 0)) e in
    let c = both _ (all_to max_domain (λ v. not (is_some (a.nogoods v)))) f.0 in
    let d = both _ (each_named a.view (λ k v. false)) c.0 in
    let l = both _ (each_in a.informs (λ k. false)) d.0 in
    let m = both _ (each_in a.listens (λ k. false)) l.0 in
    let n = both (eqb a.value 0) (eqb a.last 0) m.0 in
    record {
      valueless = eqb-true _ _ n.0;
      never = eqb-true _ _ n.1;
      deaf = λ k lo hi h. false≢true (each_in_lem _ _ m.1 k lo hi h);
      mute = λ k lo hi h. false≢true (each_in_lem _ _ l.1 k lo hi h);
      blind = λ k lo hi h. false≢true (each-named _ _ d.1 k lo hi h);
      blank = λ v lo hi. let one = all_to-at max_domain _ c.1 v lo hi in is_some-false _ (not-true _ one);
      uncounted = λ x. let b = each-count _ _ f.1 x in (eqb-true _ _ b.0, eqb-true _ _ b.1);
    }

pub to-unused : (a : Agent) → Unused a → unused a ≡ true
unfolding unused is_some
to-unused a u =
    rw (
      eq-eqb a.value 0 u.valueless,
      eq-eqb a.last 0 u.never,
      to-each-in a.listens (λ k. false) (λ k lo hi h. absurd (u.deaf k lo hi h)),
      to-each-in a.informs (λ k. false) (λ k lo hi h. absurd (u.mute k lo hi h)),
      to-each-named a.view (λ k v. false) (λ k lo hi h. absurd (u.blind k lo hi h)),
    )
    (to_both _ _ (to-all_to max_domain _ (λ v lo hi. rw (u.blank v lo hi)))
    (to-each-count _ _ (λ x. let b = u.uncounted x in (eq-eqb _ _ b.0, eq-eqb _ _ b.1))))

pub agent-unused : (w : Network) (i : ℕ) → w.problem.count < i → agent_in_shape w i ≡ true → Unused (w.agents i)
unfolding agent_in_shape
agent-unused w i h e = unused-is (w.agents i) (rw (lt-leb i w.problem.count h, agent_in_shape) at e)

pub to-agent-unused : (w : Network) (i : ℕ) → w.problem.count < i → Unused (w.agents i) → agent_in_shape w i ≡ true
unfolding agent_in_shape
to-agent-unused w i h u = rw (lt-leb i w.problem.count h, agent_in_shape) (to-unused (w.agents i) u)

-- ---- one channel

abbrev pub MessageShaped : Network → ℕ → ℕ → Message → Type 0
MessageShaped w i j (Info v) = (i < j) × (owns w.problem i v ≡ true) × ((w.agents j).listens i ≡ true)
MessageShaped w i j (Back lhs v) =
    (j < i) × (owns w.problem j v ≡ true) × ((w.agents i).listens j ≡ true)
    × EachNamed lhs (λ k u. (k < j) × (owns w.problem k u ≡ true))
MessageShaped w i j AddLink = (j < i) × ((w.agents i).listens j ≡ true) × ((w.agents j).informs i ≡ false)

pub message-shaped : (w : Network) (i j : ℕ) (m : Message) → message_fits w i j m ≡ true → MessageShaped w i j m
unfolding message_fits lhs_fits
message-shaped w i j (Info v) e =
    let b = both (ltb i j && owns w.problem i v) ((w.agents j).listens i) e in
    let c = both (ltb i j) (owns w.problem i v) b.0 in
    (ltb-true _ _ c.0, c.1, b.1)
message-shaped w i j (Back lhs v) e =
    let b = both (ltb j i && owns w.problem j v && (w.agents i).listens j) (lhs_fits w.problem j lhs) e in
    let c = both (ltb j i && owns w.problem j v) ((w.agents i).listens j) b.0 in
    let d = both (ltb j i) (owns w.problem j v) c.0 in (
      ltb-true _ _ d.0,
      d.1,
      c.1,
      λ k lo hi h.
          let n = both (ltb k j) _ (each-named lhs _ b.1 k lo hi h) in (ltb-true _ _ n.0, n.1),
    )
message-shaped w i j AddLink e =
    let b = both (ltb j i && (w.agents i).listens j) (not ((w.agents j).informs i)) e in
    let c = both (ltb j i) ((w.agents i).listens j) b.0 in
    (ltb-true _ _ c.0, c.1, not-true _ b.1)

pub to-message-shaped : (w : Network) (i j : ℕ) (m : Message) → MessageShaped w i j m → message_fits w i j m ≡ true
unfolding message_fits lhs_fits
to-message-shaped w i j (Info v) h = rw (lt-ltb i j h.0, h.1) h.2
to-message-shaped w i j (Back lhs v) h =
    rw (lt-ltb j i h.0, h.1, h.2)
    (to-each-named lhs _ (λ k lo hi n. let b = h.3 k lo hi n in to_both _ _ (lt-ltb k j b.0) b.1))
to-message-shaped w i j AddLink h = rw (lt-ltb j i h.0, h.1, h.2)

pub record ChannelShaped (w : Network) (i j : ℕ) : Type 0 where
  pub room : length (w.channel i j) ≤ capacity
  pub once : OneLink (w.channel i j)
  pub messages : All (MessageShaped w i j) (w.channel i j)

pub channel-shaped : (w : Network) (i j : ℕ) → channel_in_shape w i j ≡ true → ChannelShaped w i j
unfolding channel_in_shape has_room one_request
channel-shaped w i j e =
    let b = both (has_room w i j && one_request w i j) (every (message_fits w i j) (w.channel i j)) e in
    let c = both (has_room w i j) (one_request w i j) b.0 in
    record {
      room = leb-true _ _ c.0;
      once = counted-one (w.channel i j) (leb-true _ _ c.1);
      messages = All-map _ _ (message-shaped w i j) (w.channel i j) (every-all _ _ b.1);
    }

pub to-channel-shaped : (w : Network) (i j : ℕ) → ChannelShaped w i j → channel_in_shape w i j ≡ true
unfolding channel_in_shape has_room one_request
to-channel-shaped w i j c =
    to_both _ _ (to_both (has_room w i j) (one_request w i j) (le-leb _ _ c.room) (le-leb _ _ (one-counted (w.channel i j) c.once)))
    (to-every _ (w.channel i j) (All-map _ _ (to-message-shaped w i j) (w.channel i j) c.messages))

-- ---- the whole

pub record Shaped (w : Network) : Type 0 where
  pub range : Ranged w.problem
  pub ruled : is_rule w.rule ≡ true
  pub agents : (i : ℕ) → 1 ≤ i → i ≤ w.problem.count → AgentShaped w i
  pub beyond : (i : ℕ) → w.problem.count < i → i ≤ max_agents → Unused (w.agents i)
  pub channels : (i j : ℕ) → 1 ≤ i → i ≤ max_agents → 1 ≤ j → j ≤ max_agents → ChannelShaped w i j

pub shaped : (w : Network) → in_shape w ≡ true → Shaped w
unfolding in_shape
shaped w e =
    let c = both (in_range w.problem && is_rule w.rule && all_to max_agents (agent_in_shape w)) _ e in
    let d = both (in_range w.problem && is_rule w.rule) (all_to max_agents (agent_in_shape w)) c.0 in
    let g = both (in_range w.problem) (is_rule w.rule) d.0 in
    let r = ranged w.problem g.0 in
    record {
      range = r;
      ruled = g.1;
      agents = λ i lo hi. agent-shaped w i hi (all_to-at max_agents _ d.1 i lo (omega (arith, r.high)));
      beyond = λ i lo hi. agent-unused w i lo (all_to-at max_agents _ d.1 i (omega arith) hi);
      channels = λ i j li hi lj hj.
          let row = all_to-at max_agents _ c.1 i li hi in
          channel-shaped w i j (all_to-at max_agents _ row j lj hj);
    }

pub to-shape : (w : Network) → Shaped w → in_shape w ≡ true
unfolding in_shape
to-shape w s =
    to_both _ _ (to_both _ _ (to_both (in_range w.problem) _ (to-range w.problem s.range) s.ruled)
    (to-all_to max_agents (agent_in_shape w) (λ i lo hi.
    test (leb i w.problem.count)
    (λ q. to-agent-shaped w i (leb-true _ _ q) (s.agents i lo (leb-true _ _ q)))
    (λ q. to-agent-unused w i (leb-false _ _ q) (s.beyond i (leb-false _ _ q) hi)))))
    (to-all_to max_agents _ (λ i li hi. to-all_to max_agents _ (λ j lj hj. to-channel-shaped w i j (s.channels i j li hi lj hj))))
