-- A move keeps the invariant. Only the receiver's record, its own channels and the one it is served from change: where the receiver has a side,
-- its step's facts give the new part; elsewhere the part is as before.
use Rattle.std.proofs.Common.{◌≡◌, refl, sym, ap, ◌∙◌, ◌≢◌, ◌⊎◌, inl, inr, ⊎_elim, ◌++◌, true, false, not, ◌&&◌, ℕ, ◌≤◌, ◌<◌, arith, ltb-true}
use mathlib.Core.Bool.{and-eq-true_iff, false≢true}
use native.Mathlib.Decide.{ℕ_discrete}
use Rattle.model_base.proofs.Tests.{test}
use Rattle.model_base.proofs.Search.{at_other}
use Rattle.model_base.proofs.Lists.{All, All-append, All-both, All-map, Any, any-right, any-tail}
use Rattle.model_sheet.specs.Problem.{Problem, in_range, Obeys}
use Rattle.model_sheet.proofs.Range.{ranged}
use Rattle.model_agent.specs.Message.{Assignment, known, Message, Info, Back, AddLink, sent_to}
use Rattle.model_agent.specs.Agent.{Bans, Agent, Step}
use Rattle.model_agent.specs.Sorts.{IsInfo, IsAddLink, Not, Refuses, seen}
use Rattle.model_agent.proofs.Messages.{addlink-not-info, back-not-info, seen-tells}
use Rattle.theorems_agent.specs.Facts.{Requests, Good, busy_view, quiet_view, TellsSender, Why, Sends}
use Rattle.model_network.specs.Network.{Network, self_of, bans_of}
use Rattle.model_network.specs.Run.{Line}
use Rattle.theorems_shape.proofs.Lines.{is-line, other-to}
use Rattle.theorems_shape.proofs.Handing.{OnAgent, mine, other, on-agent, OnChannel, hit, put, rest, on-channel, still-listens, informed-by}
use Rattle.theorems_network.proofs.Moves.{Move, Waits, Linked, Links, Invariant}
use Rattle.theorems_network.proofs.Steps.{
  QuietOrBusy,
  quiet-or-busy,
  quiet-tells,
  view-sender,
  view-other,
  view-listened,
}
use Rattle.theorems_network.proofs.Pairs.{Watches, listener-moves, Speaks, informer-moves}

-- an agent that a left side names has the view's value there
named_value : (u v : ℕ) → known u ≡ true → (u ≡ 0) ⊎ (u ≡ v) → u ≡ v
unfolding known
named_value u v k (inl e) = absurd (omega (arith, ltb-true 0 u k, e))
named_value u v k (inr e) = e

-- a link request makes nobody choose
no-request : (bans : Bans) (a : Agent) (i : ℕ) (m : Message) → Why bans a i m → IsAddLink m → ⊥
no-request bans a i (Info v) h b = b
no-request bans a i (Back lhs v) h b = b
no-request bans a i AddLink h b = h

module _ (p : Problem) (r : in_range p ≡ true) (d : Line) (w w' : Network) (I : Invariant p w) (M : Move p d w w') where
  abbrev i : ℕ
  i = d.from

  -- the receiver
  abbrev j : ℕ
  j = d.to

  abbrev a : Agent
  a = w.agents d.to

  abbrev m : Message
  m = M.message

  abbrev t : Step
  t = M.step

  abbrev L : Links p w.agents w.channel
  L = I.links

  abbrev agent : (y : ℕ) → OnAgent d t w w' y
  agent = on-agent M.handing

  abbrev channel : (x y : ℕ) → OnChannel d m t w w' x y
  channel = on-channel M.handing

  handed : Waits p w.agents i j m
  handed = (rw M.handing.head at (L.waiting i j)).0

  -- ---- who listens

  grown : (y x : ℕ) → (w.agents y).listens x ≡ true → (w'.agents y).listens x ≡ true
  grown = still-listens M.handing

  lower-kept : (y x : ℕ) → (w'.agents y).listens x ≡ true → (1 ≤ x) × (x < y) × (y ≤ p.count)
  unfolding self_of
  lower-kept y x l = go (agent y)
    where
      go : OnAgent d t w w' y → (1 ≤ x) × (x < y) × (y ≤ p.count)
      go (mine e h) = let q = M.facts.good.upward x (rw h at l) in rw e (q.0, q.1, M.to_in.1)
      go (other ne h) = L.lower y x (rw h at l)

  -- the sender of what is no Info listens to the receiver
  sender : (q : Message) → Waits p w.agents i j q → Not IsInfo q → (w.agents i).listens j ≡ true
  sender (Info v) h n = absurd (n tt)
  sender (Back lhs v) h n = h.0
  sender AddLink h n = h

  informed-kept : (x y : ℕ) → (w'.agents x).informs y ≡ true → (w'.agents y).listens x ≡ true
  informed-kept x y n =
      ⊎_elim (λ q. grown y x (L.informed x y q))
      (λ q. rw (q.0, q.1.0) (grown i j (sender m handed (addlink-not-info m q.1.1))))
      (informed-by M.handing x y n)

  -- ---- what waits

  old : (x y : ℕ) (q : Message) → Waits p w.agents x y q → Waits p w'.agents x y q
  old x y (Info v) h = grown y x h
  old x y (Back lhs v) h = (grown x y h.0, h.1, h.2)
  old x y AddLink h = grown x y h

  -- the receiver sees values of agents only, also right after the message's own update
  view-low : (x : ℕ) → known (a.view x) ≡ true → 1 ≤ x
  view-low x k = (L.lower j x ((I.good j M.to_in.0 M.to_in.1).viewed x k)).0

  busy-low : (q : Message) → Waits p w.agents i j q → (x : ℕ) → known (busy_view a i q x) ≡ true → 1 ≤ x
  busy-low (Info v) h x k =
      elim (ℕ_discrete x i) [
        | yes e ↦ rw e (L.lower j i h).0
        | no ne ↦ view-low x (rw (at_other a.view i v x ne) at k)
      ]
  busy-low (Back lhs v) h x k =
      test (known (lhs x) && not (a.listens x))
      (λ u. (h.1 x ((and-eq-true_iff (known (lhs x)) (not (a.listens x))).0 u).0).0)
      (λ u. view-low x (rw u at k))
  busy-low AddLink h x k = view-low x k

  new : QuietOrBusy p d w w' M → (y : ℕ) → All (Waits p w'.agents j y) (sent_to y t.sent)
  new (inl Q) y = All-map _ _ answer (sent_to y t.sent) (Q.sent y)
    where
      answer : (q : Message) → TellsSender a i m y q → Waits p w'.agents j y q
      answer (Info v) h = rw h.1.0 (grown i j (sender m handed h.1.1))
      answer (Back lhs v) h = absurd h
      answer AddLink h = absurd h
  new (inr B) y = All-map _ _ sends (sent_to y t.sent) (All-both _ _ (sent_to y t.sent) (B.sent y) (M.handing.links.requests y))
    where
      low : (lhs : Assignment) → ((x : ℕ) → (lhs x ≡ 0) ⊎ (lhs x ≡ busy_view a i m x)) → (x : ℕ) → known (lhs x) ≡ true → 1 ≤ x
      low lhs inside x k = busy-low m handed x (rw (named_value (lhs x) (busy_view a i m x) k (inside x)) at k)

      sends : (q : Message) → Sends (Obeys p) a i m t y q × Requests a t y q → Waits p w'.agents j y q
      sends (Info v) (h, _) =
          grown y j (⊎_elim (λ n. L.informed j y n) (λ n. rw n.0 (sender m handed (back-not-info m n.1))) h)
      sends (Back lhs v) (h, _) =
          (rw M.handing.mine h.0, (λ x k. (low lhs h.1.inside x k, h.1.below x k)), h.1.implied)
      sends AddLink (_, h) = rw M.handing.mine h.0

  waiting_kept : (x y : ℕ) → All (Waits p w'.agents x y) (w'.channel x y)
  waiting_kept x y = go (channel x y)
    where
      before : All (Waits p w'.agents x y) (w.channel x y)
      before = All-map _ _ (old x y) (w.channel x y) (L.waiting x y)

      go : OnChannel d m t w w' x y → All (Waits p w'.agents x y) (w'.channel x y)
      go (hit h ex ey e) = (rw e at before).1
      go (put h ex e) = rw e (All-append _ (w.channel x y) _ before (rw ex (new (quiet-or-busy p d w w' M) y)))
      go (rest h ex e) = rw e before

  -- ---- the pairs

  -- the receiver j as listener
  listener : QuietOrBusy p d w w' M → (x : ℕ) → x ≢ j → t.agent.listens x ≡ true
      → Linked ((w.agents x).informs j) (t.agent.view x) (w.agents x).value (w'.channel x j) (w.channel j x ++ sent_to x t.sent)
  unfolding seen
  listener T x ne l' = test (a.listens x) (λ l. went l) (λ l. inl (any-right IsAddLink (w.channel j x) _ (asks l T)))
    where
      -- the message's own update is what `seen` expects of it
      arrived : OnChannel d m t w w' x j
          → Linked ((w.agents x).informs j) (a.view x) (w.agents x).value (w.channel x j) (w.channel j x)
          → Linked ((w.agents x).informs j) (quiet_view a i m x) (w.agents x).value (w'.channel x j) (w.channel j x)
      arrived (hit h ex ey e) P = rw (ap (quiet_view a i m) ex ∙ view-sender a i m) (rw (ap a.view ex) at (rw e at P))
      arrived (put h ex e) P = absurd (ne ex)
      arrived (rest h ex e) P = rw (e, view-other a i m x (λ q. false≢true (sym h ∙ is-line x j d q refl))) P

      watches : a.listens x ≡ true → QuietOrBusy p d w w' M → Watches (quiet_view a i m x) (t.agent.view x) (sent_to x t.sent)
      watches l (inl Q) = inl (Q.view x)
      watches l (inr B) = rw (view-listened a i m x l) at (B.view x)

      went : a.listens x ≡ true
          → Linked ((w.agents x).informs j) (t.agent.view x) (w.agents x).value (w'.channel x j) (w.channel j x ++ sent_to x t.sent)
      went l =
          listener-moves ((w.agents x).informs j) (quiet_view a i m x) (t.agent.view x) (w.agents x).value
          (w'.channel x j) (w.channel j x) (sent_to x t.sent) (arrived (channel x j) (L.pair x j l)) (watches l T)

      asks : a.listens x ≡ false → QuietOrBusy p d w w' M → Any IsAddLink (sent_to x t.sent)
      asks l (inl Q) = absurd (false≢true (sym l ∙ rw Q.listens at l'))
      asks l (inr B) = B.asks x l l'

  -- the receiver j as informer
  informer : QuietOrBusy p d w w' M → (y : ℕ) → y ≢ j → (w.agents y).listens j ≡ true
      → Linked (t.agent.informs y) ((w.agents y).view j) t.agent.value (w.channel j y ++ sent_to y t.sent) (w'.channel y j)
  unfolding seen self_of
  informer T y ne l =
      informer-moves (a.informs y) (t.agent.informs y) ((w.agents y).view j) a.value t.agent.value
      (w.channel j y) (w.channel y j) (w'.channel y j) (sent_to y t.sent)
      (L.pair j y l) (M.handing.links.informs y) (asked (channel y j)) (λ n. speaks n T)
    where
      asked : OnChannel d m t w w' y j → Any IsAddLink (w.channel y j) → Any IsAddLink (w'.channel y j) ⊎ (t.agent.informs y ≡ true)
      asked (hit h ex ey e) b = ⊎_elim (λ q. inr (rw ex (M.handing.links.joins q))) (λ q. inl q) (rw e at b)
      asked (put h ex e) b = absurd (ne ex)
      asked (rest h ex e) b = inl (rw e b)

      -- what is not handed over now still waits
      still : (P : Message → Type 0) → (y ≡ i → P m → ⊥) → OnChannel d m t w w' y j → Any P (w.channel y j) → Any P (w'.channel y j)
      still P n (hit h ex ey e) b = any-tail P m (w'.channel y j) (n ex) (rw e at b)
      still P n (put h ex e) b = absurd (ne ex)
      still P n (rest h ex e) b = rw e b

      -- silent, with nothing handed over that would ask for an answer
      silent : t.agent.value ≡ a.value → ((v : ℕ) → seen v (sent_to y t.sent) ≡ v)
          → (y ≡ i → IsAddLink m ⊎ Refuses a.value m → ⊥)
          → Speaks a.value t.agent.value (w.channel y j) (w'.channel y j) (sent_to y t.sent)
      silent same none n =
          let asks = still IsAddLink (λ e z. n e (inl z)) (channel y j) in
          let refuses = still (Refuses a.value) (λ e z. n e (inr z)) (channel y j) in
          inr (same, none, asks, refuses)

      speaks : t.agent.informs y ≡ true → QuietOrBusy p d w w' M
          → Speaks a.value t.agent.value (w.channel y j) (w'.channel y j) (sent_to y t.sent)
      speaks n (inl Q) =
          ⊎_elim
          (λ q. silent Q.value (λ v. rw q refl) (λ e z. Q.answers z (ap (λ (k : ℕ). sent_to k t.sent) (sym e) ∙ q)))
          (λ q. inl (λ v. q v ∙ sym Q.value))
          (seen-tells a.value (sent_to y t.sent) (quiet-tells a i m t Q y))
      speaks n (inr B) =
          let unasked = no-request (bans_of p j) a i m B.why in
          let was : a.informs y ≡ true = ⊎_elim (λ q. q) (λ q. absurd (unasked q.1)) (M.handing.links.joined y n) in
          let (one, low, high) = L.lower y j l in
          let most = (ranged p r).high in
          ⊎_elim (λ q. inl q) (λ q. silent q.0 q.1 (λ e z. q.2 e)) (B.tells y low (omega arith) was)

  pair-kept : (x y : ℕ) → (w'.agents y).listens x ≡ true
      → Linked ((w'.agents x).informs y) ((w'.agents y).view x) (w'.agents x).value (w'.channel x y) (w'.channel y x)
  pair-kept x y l = go (agent y) (agent x)
    where
      low : x < y
      low = (lower-kept y x l).1

      go : OnAgent d t w w' y → OnAgent d t w w' x
          → Linked ((w'.agents x).informs y) ((w'.agents y).view x) (w'.agents x).value (w'.channel x y) (w'.channel y x)
      go (mine ey hy) ox =
          let ne : x ≢ j = λ q. omega (arith, low, ey, q) in
          rw (ey, M.handing.mine, M.handing.sent x, M.handing.others x ne) (listener (quiet-or-busy p d w w' M) x ne (rw hy at l))
      go (other ny hy) (mine ex hx) =
          rw (hy, ex, M.handing.mine, M.handing.sent y) (informer (quiet-or-busy p d w w' M) y ny (rw (hy, ex) at l))
      go (other ny hy) (other nx hx) =
          rw (hy, hx, M.handing.same x y nx (other-to x y d ny), M.handing.same y x ny (other-to y x d nx)) (L.pair x y (rw hy at l))

  pub keeps : w'.problem ≡ p → w'.rule ≡ w.rule → w'.unsolvable ≡ false → Invariant p w'
  keeps e s v =
      record {
        problem = e;
        running = v;
        good = λ k l h. rw s (good k l h (agent k));
        links = record {
          informed = informed-kept;
          lower = lower-kept;
          linked = λ x y q. grown y x (L.linked x y q);
          waiting = waiting_kept;
          pair = pair-kept;
        };
      }
    where
      good : (k : ℕ) → 1 ≤ k → k ≤ p.count → OnAgent d t w w' k → Good (Obeys p) (self_of w.rule p k) (bans_of p k) (w'.agents k)
      good k l h (mine q s) = rw (s, q) M.facts.good
      good k l h (other ne s) = rw s (I.good k l h)
