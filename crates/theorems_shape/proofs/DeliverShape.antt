-- A delivery keeps the shape, of forged networks too. It changes one agent's record, which fits by the agent facts (`StepFits`), takes one
-- message off a channel and puts messages that fit on others; nobody stops listening or informing, so what waits elsewhere still fits.
use Rattle.std.proofs.Common.{Some, ◌≡◌, sym, ◌∙◌, ◌≢◌, ◌⊎◌, inl, inr, ⊎_elim, List, ◌∷◌, Bool, true, false, ℕ, ◌≤◌, ◌<◌, arith, leb-true}
use mathlib.Core.Bool.{false≢true}
use Rattle.model_base.proofs.Tests.{test, within-true, to-within, or_left, or_right}
use Rattle.model_base.proofs.Search.{all_to-at}
use Rattle.model_base.proofs.Lists.{All, All-append, All-both, All-map}
use Rattle.model_sheet.specs.Problem.{Problem, max_agents, max_domain, domain, owns}
use Rattle.model_sheet.proofs.Range.{Ranged, domain-small}
use Rattle.model_agent.specs.Message.{Assignment, known, Message, Info, Back, AddLink, sent_to}
use Rattle.model_agent.specs.Traffic.{top}
use Rattle.model_agent.specs.Agent.{Agent, Step}
use Rattle.model_agent.specs.Shape.{any_value, max_named, EachNamed, EachIn, RecordFits, MessageFits}
use Rattle.model_agent.specs.Sorts.{IsInfo, IsAddLink, Not}
use Rattle.model_agent.proofs.Messages.{addlink-not-info}
use Rattle.model_agent.proofs.Assignments.{unknown-zero, agents-named}
use Rattle.model_agent.proofs.Traffic.{raised-top}
use Rattle.theorems_agent.specs.Facts.{Asks, Answered, RestFits, Valued, PostFits, StepFits}
use Rattle.model_network.specs.Network.{Network, self_of, bans_of, with_step, with_channel, step_on, handed}
use Rattle.model_network.specs.Shape.{has_room, in_shape}
use Rattle.model_network.specs.Delivery.{rejecting, numbers_good, fits, deliver}
use Rattle.theorems_shape.proofs.Wall.{agent-facts}
use Rattle.theorems_shape.proofs.Handing.{Handing, OnAgent, mine, other, on-agent, OnChannel, hit, put, rest, on-channel, still-listens, handing}
use Rattle.theorems_shape.proofs.Requests.{Once, each-once, shaped-once, once-kept}
use Rattle.theorems_shape.proofs.Outcome.{Outcome, refused, accepted, outcome, numbers}
use Rattle.theorems_shape.proofs.ShapeClauses.{EachCount, AgentShaped, Unused, MessageShaped, Shaped, shaped, to-shape}

-- ---- what the receiver's step may count on

owned-bounds : (p : Problem) (i v : ℕ) → owns p i v ≡ true → (1 ≤ v) × (v ≤ domain p i)
unfolding owns
owned-bounds p i v e = within-true (domain p i) v e

-- an owned value is one of 1 to 8
pub owned-any : (p : Problem) → Ranged p → (k v : ℕ) → owns p k v ≡ true → any_value k v ≡ true
unfolding any_value
owned-any p r k v e = let b = owned-bounds p k v e in to-within max_domain v b.0 (omega (arith, domain-small p r k))

pub record-fits : (w : Network) (j : ℕ) → Shaped w → w.unsolvable ≡ false → 1 ≤ j → j ≤ w.problem.count
    → RecordFits (owns w.problem) (self_of w.rule w.problem j) (w.agents j)
unfolding self_of owns
record-fits w j S running lo hi =
    let A = S.agents j lo hi in
    let own = ⊎_elim (λ o. o) (λ z. absurd (false≢true (sym running ∙ z.0))) A.valued in
    record {
      valued = own;
      kept = ⊎_elim (λ z. absurd (omega (arith, owned-bounds w.problem j _ own))) sym A.lasting.1;
      upward = A.upward;
      downward = λ k l h e. let d = A.downward k l h e in (d.0, omega (arith, S.range.high));
      viewed = A.viewed;
      agreed = λ v lhs l h e. let g = A.agreed v lhs l h e in ((owned-bounds w.problem j v g.0).1, g.1);
    }

pub message-fits : (w : Network) (i j : ℕ) (m : Message) → 1 ≤ i → i ≤ max_agents → MessageShaped w i j m
    → MessageFits (owns w.problem) (self_of w.rule w.problem j) (w.agents j) i m
unfolding self_of owns
message-fits w i j (Info v) lo hi h = (lo, h.2, h.1)
message-fits w i j (Back lhs v) lo hi h = (h.0, hi, h.1, h.3)
message-fits w i j AddLink lo hi h = (h.0, hi)

-- the sender of a Back or of a link request listens to the receiver
asker-listens : (w : Network) (i j : ℕ) (m : Message) → Not IsInfo m → MessageShaped w i j m → (j < i) × ((w.agents i).listens j ≡ true)
asker-listens w i j (Info v) n h = absurd (n tt)
asker-listens w i j (Back lhs v) n h = (h.0, h.2)
asker-listens w i j AddLink n h = (h.0, h.1)

-- a record that fits, in the words of the network's shape
module _ (rule : ℕ) (p : Problem) (i : ℕ) where
  own-valued : (t : Step) (unsolvable : Bool) → Valued (self_of rule p i) t → (t.unsolvable ≡ true → unsolvable ≡ true)
      → (owns p i t.agent.value ≡ true) ⊎ ((unsolvable ≡ true) × (t.agent.value ≡ 0))
  unfolding self_of owns
  own-valued t unsolvable v f = ⊎_elim (λ h. inl h.1) (λ h. inr (f h.0, h.1)) v

  own-lasting : (a : Agent) (from : ℕ) (m : Message) (t : Step) → StepFits (owns p) (self_of rule p i) a from m t
      → (owns p i t.agent.last ≡ true) × ((t.agent.value ≡ 0) ⊎ (t.agent.value ≡ t.agent.last))
  unfolding self_of owns
  own-lasting a from m t F =
      let (own, same) = F.lasting in
      (own, test (known t.agent.value) (λ e. inr (sym (same e))) (λ e. inl (unknown-zero _ e)))

  own-agreed : (a : Agent) → RestFits (owns p) (self_of rule p i) a
      → (v : ℕ) (lhs : Assignment) → 1 ≤ v → v ≤ max_domain → a.nogoods v ≡ Some lhs
      → (owns p i v ≡ true) × EachNamed lhs (λ k u. u ≡ a.view k)
  unfolding self_of owns
  own-agreed a f v lhs lo hi e = let g = f.agreed v lhs lo hi e in (to-within (domain p i) v lo g.0, g.1)

-- ---- one delivery

-- a message at the head of a channel, in a network in shape with no verdict
pub record Head (w : Network) (i j : ℕ) (m : Message) (others : List Message) : Type 0 where
  pub shape : Shaped w
  pub running : w.unsolvable ≡ false
  pub from_low : 1 ≤ i
  pub from-high : i ≤ w.problem.count
  pub to_low : 1 ≤ j
  pub to_high : j ≤ w.problem.count
  pub head : w.channel i j ≡ m ∷ others

module _ (w : Network) (i j : ℕ) (m : Message) (others : List Message) (H : Head w i j m others) where
  message-here : All (MessageShaped w i j) (m ∷ others)
  message-here =
      let top = H.shape.range.high in
      let c = H.shape.channels i j H.from_low (omega (arith, H.from-high)) H.to_low (omega (arith, H.to_high)) in
      rw H.head at c.messages

  pub step_fits : StepFits (owns w.problem) (self_of w.rule w.problem j) (w.agents j) i m (step_on w i j m)
  unfolding step_on self_of
  step_fits =
      let r = H.shape.range in
      agent-facts.fits (owns w.problem) (self_of w.rule w.problem j) (bans_of w.problem j) (w.agents j) i m
      (omega (arith, H.to_high, r.high)) (r.domained j H.to_low H.to_high).1
      (record-fits w j H.shape H.running H.to_low H.to_high)
      (message-fits w i j m H.from_low (omega (arith, H.from-high, r.high)) message-here.0)

  abbrev pub handed_on : Network
  handed_on = handed w i j m others

  handing-over : Handing (record { from = i; to = j }) m (step_on w i j m) w handed_on
  handing-over = handing (record { from = i; to = j }) w m others (apart m message-here.0) H.head
    where
      apart : (n : Message) → MessageShaped w i j n → i ≢ j
      apart (Info v) h = λ e. omega (arith, h.0)
      apart (Back lhs v) h = λ e. omega (arith, h.0)
      apart AddLink h = λ e. omega (arith, h.0)

  -- an agent is the receiver, with its step's record, or stays
  by : (P : Agent → Type 0) (x : ℕ) → (x ≡ j → P (step_on w i j m).agent) → (x ≢ j → P (w.agents x)) → P (handed_on.agents x)
  by P x f g = go (on-agent handing-over x)
    where
      go : OnAgent (record { from = i; to = j }) (step_on w i j m) w handed_on x → P (handed_on.agents x)
      go (mine e h) = rw h (f e)
      go (other ne h) = rw h (g ne)

  keeps-listening : (x k : ℕ) → (w.agents x).listens k ≡ true → (handed_on.agents x).listens k ≡ true
  keeps-listening = still-listens handing-over

  keeps-informing : (x k : ℕ) → (w.agents x).informs k ≡ true → (handed_on.agents x).informs k ≡ true
  keeps-informing x k e = by (λ a. a.informs k ≡ true) x (λ q. handing-over.links.informs k (rw q at e)) (λ _. e)

  -- whom the receiver informs then
  informs-after : (k : ℕ) → 1 ≤ k → k ≤ max_named → (step_on w i j m).agent.informs k ≡ true
      → (j < k) × (k ≤ w.problem.count) × ((w.agents k).listens j ≡ true)
  informs-after k lo hi e = ⊎_elim before asked (handing-over.links.joined k e)
    where
      before : (w.agents j).informs k ≡ true → (j < k) × (k ≤ w.problem.count) × ((w.agents k).listens j ≡ true)
      before q =
          let A = H.shape.agents j H.to_low H.to_high in
          let d = A.downward k lo hi q in
          (d.0, d.1, A.informed k lo hi q)

      asked : Asks i m k → (j < k) × (k ≤ w.problem.count) × ((w.agents k).listens j ≡ true)
      asked q =
          let l = asker-listens w i j m (addlink-not-info m q.1) message-here.0 in
          rw q.0 (l.0, H.from-high, l.1)

  agent-after : (x : ℕ) → 1 ≤ x → x ≤ w.problem.count → AgentShaped handed_on x
  unfolding handed with_step with_channel self_of
  agent-after x lo hi =
      record {
        valued = by (λ a. (owns w.problem x a.value ≡ true) ⊎ ((handed_on.unsolvable ≡ true) × (a.value ≡ 0))) x
            (λ q. rw q (own-valued w.rule w.problem j t handed_on.unsolvable step_fits.valued (or_right w.unsolvable t.unsolvable)))
            (λ _. ⊎_elim inl (λ z. inr (or_left w.unsolvable t.unsolvable z.0, z.1)) A.valued);
        lasting = by (λ a. (owns w.problem x a.last ≡ true) × ((a.value ≡ 0) ⊎ (a.value ≡ a.last))) x
            (λ q. rw q (own-lasting w.rule w.problem j (w.agents j) i m t step_fits)) (λ _. A.lasting);
        upward = by (λ a. EachIn a.listens (λ k. k < x)) x (λ q. rw q step_fits.rest.upward) (λ _. A.upward);
        downward = by (λ a. EachIn a.informs (λ k. (x < k) × (k ≤ w.problem.count))) x
            (λ q. rw q (λ k l h e. let d = informs-after k l h e in (d.0, d.1))) (λ _. A.downward);
        linking = λ k l h e. let b = A.linking k l h e in (keeps-listening x k b.0, keeps-informing k x b.1);
        informed = by (λ a. EachIn a.informs (λ k. (handed_on.agents k).listens x ≡ true)) x
            (λ q. rw q (λ k l h e. keeps-listening k j (informs-after k l h e).2))
            (λ _ k l h e. keeps-listening k x (A.informed k l h e));
        viewed = by (λ a. EachNamed a.view (λ k v. (a.listens k ≡ true) × (owns w.problem k v ≡ true))) x
            (λ _. step_fits.rest.viewed) (λ _. A.viewed);
        agreed = by
            (λ a. (v : ℕ) (lhs : Assignment) → 1 ≤ v → v ≤ max_domain → a.nogoods v ≡ Some lhs
            → (owns w.problem x v ≡ true) × EachNamed lhs (λ k u. u ≡ a.view k)) x
            (λ q. rw q (own-agreed w.rule w.problem j t.agent step_fits.rest)) (λ _. A.agreed);
        sized = by (λ a. EachCount a.counts (λ c. c ≤ top)) x
            (λ _ s. let c = handing-over.counts in rw (c.sent s, c.received s) (raised-top _ _, raised-top _ _)) (λ _. A.sized);
      }
    where
      t : Step
      t = step_on w i j m

      A : AgentShaped w x
      A = H.shape.agents x lo hi

  once_after : (x y : ℕ) → 1 ≤ x → x ≤ max_agents → 1 ≤ y → y ≤ max_agents → Once handed_on y x
  once_after x y lx hx ly hy = once-kept handing-over y x (shaped-once w H.shape y x ly hy lx hx)

  -- a message fits if, where it is a request, the links are such
  abbrev Fitting : ℕ → ℕ → Message → Type 0
  Fitting x y n =
      (IsAddLink n → ((handed_on.agents x).listens y ≡ true) × ((handed_on.agents y).informs x ≡ false)) → MessageShaped handed_on x y n

  -- what waited still fits
  message-stays : (x y : ℕ) (n : Message) → MessageShaped w x y n → Fitting x y n
  unfolding handed with_step with_channel
  message-stays x y (Info v) h _ = (h.0, h.1, keeps-listening y x h.2)
  message-stays x y (Back lhs v) h _ = (h.0, h.1, keeps-listening x y h.2, h.3)
  message-stays x y AddLink h a = (h.0, (a tt).0, (a tt).1)

  -- what is sent fits
  post-shaped : (y : ℕ) → 1 ≤ y → y ≤ max_agents → (n : Message)
      → PostFits (owns w.problem) (self_of w.rule w.problem j) (step_on w i j m).agent.listens
      (λ y. ((w.agents j).informs y ≡ true) ⊎ Answered i m y) y n
      → Fitting j y n
  unfolding handed with_step with_channel self_of owns
  post-shaped y lo hi (Info v) h _ = (h.0, h.3, keeps-listening y j (⊎_elim informed answered h.2))
    where
      informed : (w.agents j).informs y ≡ true → (w.agents y).listens j ≡ true
      informed e = (H.shape.agents j H.to_low H.to_high).informed y lo (omega (arith, agents-named)) e

      answered : Answered i m y → (w.agents y).listens j ≡ true
      answered q = rw q.0 (asker-listens w i j m q.1 message-here.0).1
  post-shaped y lo hi (Back lhs v) h _ = (h.1, h.3, rw handing-over.mine h.2, h.4)
  post-shaped y lo hi AddLink h a = (h.1, (a tt).0, (a tt).1)

  sent-after : (y : ℕ) → 1 ≤ y → y ≤ max_agents → All (Fitting j y) (sent_to y (step_on w i j m).sent)
  sent-after y lo hi =
      let t = step_on w i j m in
      All-map _ _ (post-shaped y lo hi) (sent_to y t.sent) (step_fits.posts y)

  channel-after : (x y : ℕ) → 1 ≤ x → x ≤ max_agents → 1 ≤ y → y ≤ max_agents → All (MessageShaped handed_on x y) (handed_on.channel x y)
  channel-after x y lx hx ly hy =
      All-map _ _ (λ n f. f.0 f.1) (handed_on.channel x y)
      (All-both _ _ (handed_on.channel x y) (go (on-channel handing-over x y)) (each-once _ _ _ (once_after x y lx hx ly hy)))
    where
      old : All (Fitting x y) (w.channel x y)
      old = All-map _ _ (message-stays x y) (w.channel x y) (H.shape.channels x y lx hx ly hy).messages

      go : OnChannel (record { from = i; to = j }) m (step_on w i j m) w handed_on x y → All (Fitting x y) (handed_on.channel x y)
      go (hit _ _ _ e) = (rw e at old).1
      go (put _ q e) = rw e (All-append _ (w.channel x y) _ old (rw q (sent-after y ly hy)))
      go (rest _ _ e) = rw e old

  pub handed-shaped : fits handed_on ≡ true → Shaped handed_on
  unfolding handed with_step with_channel fits has_room
  handed-shaped room =
      record {
        range = H.shape.range;
        ruled = H.shape.ruled;
        agents = agent-after;
        beyond = λ x lo hi.
            by Unused x (λ q. absurd (omega (arith, H.to_high))) (λ _. H.shape.beyond x lo hi);
        channels = λ x y lx hx ly hy.
            let row = all_to-at max_agents _ room x lx hx in
            let one = all_to-at max_agents _ row y ly hy in
            record { room = leb-true _ _ one; once = (once_after x y lx hx ly hy).once; messages = channel-after x y lx hx ly hy };
      }

-- the message at the head of a channel that a delivery may take
pub at_head : (w : Network) (i j : ℕ) (m : Message) (others : List Message) → in_shape w ≡ true → numbers_good w i j ≡ true → w.unsolvable ≡ false
    → w.channel i j ≡ m ∷ others → Head w i j m others
at_head w i j m others s n v e =
    let (li, hi, lj, hj, _) = numbers w i j n in
    record { shape = shaped w s; running = v; from_low = li; from-high = hi; to_low = lj; to_high = hj; head = e }

-- a delivery keeps the shape
pub deliver-keeps : (w : Network) (i j : ℕ) → in_shape w ≡ true → in_shape (deliver w i j).network ≡ true
unfolding rejecting
deliver-keeps w i j s = go (outcome w i j)
  where
    go : Outcome w i j (deliver w i j) → in_shape (deliver w i j).network ≡ true
    go (refused r _ e) = rw e s
    go (accepted m others T e) =
        let H = at_head w i j m others s T.numbers T.running T.head in
        rw e (to-shape _ (handed-shaped w i j m others H T.room))
