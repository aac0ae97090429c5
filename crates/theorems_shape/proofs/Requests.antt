-- A link is asked for once, on each channel by itself: no request waits from an agent already informed, nor two on one channel. A request is sent only
-- where the sender begins to listen, and its channel holds none before that, since the sender of a request that waits listens already.
use Rattle.std.proofs.Common.{◌≡◌, sym, ◌∙◌, ⊎_elim, List, ◌++◌, Bool, true, false, ℕ, ◌≤◌, arith, leb, leb-true, leb-false}
use mathlib.Core.Bool.{false≢true}
use Rattle.model_base.proofs.Tests.{test}
use Rattle.model_base.proofs.Lists.{All, All-append, All-map}
use Rattle.model_sheet.specs.Problem.{max_agents}
use Rattle.model_agent.specs.Message.{Message, Info, Back, AddLink, sent_to}
use Rattle.model_agent.specs.Agent.{Agent, Step}
use Rattle.model_agent.specs.Sorts.{IsAddLink, Not, OneLink}
use Rattle.model_agent.proofs.Assignments.{agents-named}
use Rattle.model_agent.proofs.Messages.{one-put, one-new, one-tail}
use Rattle.theorems_agent.specs.Facts.{Requests, Asks}
use Rattle.model_network.specs.Network.{Network}
use Rattle.model_network.specs.Run.{Line}
use Rattle.theorems_shape.proofs.Lines.{is-line}
use Rattle.theorems_shape.proofs.ShapeClauses.{MessageShaped, Shaped}
use Rattle.theorems_shape.proofs.Handing.{Handing, OnChannel, hit, put, rest, on-channel, still-listens, informed-by}

-- a request's sender listens to its receiver
abbrev pub Heeds : Bool → Message → Type 0
Heeds listens m = IsAddLink m → listens ≡ true

-- of a channel: whether its receiver informs its sender, and whether the sender listens to the receiver
pub record OnceOn (informs listens : Bool) (l : List Message) : Type 0 where
  pub informed : informs ≡ true → listens ≡ true
  pub heeded : All (Heeds listens) l
  pub once : OneLink l
  pub none : informs ≡ true → All (Not IsAddLink) l

-- of the channel from y to x
abbrev pub Once : Network → ℕ → ℕ → Type 0
Once w x y = OnceOn ((w.agents x).informs y) ((w.agents y).listens x) (w.channel y x)

-- each request by itself
pub each-once : (informs listens : Bool) (l : List Message) → OnceOn informs listens l
    → All (λ m. IsAddLink m → (listens ≡ true) × (informs ≡ false)) l
each-once informs listens l O =
    test informs
    (λ t. All-map _ _ (λ m n q. absurd (n q)) l (O.none t))
    (λ f. All-map _ _ (λ m h q. (h q, f)) l O.heeded)

-- ---- a network in shape

request-shaped : (w : Network) (i j : ℕ) (m : Message) → MessageShaped w i j m → IsAddLink m
    → ((w.agents i).listens j ≡ true) × ((w.agents j).informs i ≡ false)
request-shaped w i j (Info v) h q = absurd q
request-shaped w i j (Back lhs v) h q = absurd q
request-shaped w i j AddLink h q = (h.1, h.2)

pub shaped-once : (w : Network) → Shaped w → (x y : ℕ) → 1 ≤ x → x ≤ max_agents → 1 ≤ y → y ≤ max_agents → Once w x y
shaped-once w S x y lx hx ly hy =
    let c = S.channels y x ly hy lx hx in
    record {
      informed = λ n.
          test (leb x w.problem.count)
          (λ q. (S.agents x lx (leb-true _ _ q)).informed y ly (omega (arith, agents-named)) n)
          (λ q. absurd ((S.beyond x (leb-false _ _ q) hx).mute y ly (omega (arith, agents-named)) n));
      heeded = All-map _ _ (λ m h q. (request-shaped w y x m h q).0) (w.channel y x) c.messages;
      once = c.once;
      none = λ n. All-map _ _ (λ m h q. false≢true (sym (request-shaped w y x m h q).1 ∙ n)) (w.channel y x) c.messages;
    }

-- ---- what is sent

sent-heeds : (a : Agent) (t : Step) (y : ℕ) (m : Message) → Requests a t y m → Heeds (t.agent.listens y) m
sent-heeds a t y (Info v) h q = absurd q
sent-heeds a t y (Back lhs v) h q = absurd q
sent-heeds a t y AddLink h q = h.0

-- by an agent that listens to the receiver already
listening : (a : Agent) (t : Step) (y : ℕ) → a.listens y ≡ true → (m : Message) → Requests a t y m → Not IsAddLink m
listening a t y l (Info v) h q = q
listening a t y l (Back lhs v) h q = q
listening a t y l AddLink h q = false≢true (sym h.1 ∙ l)

-- ---- one message handed over

module _ {d : Line} {m : Message} {t : Step} {w w' : Network} (H : Handing d m t w w') where
  -- the receiver
  abbrev j : ℕ
  j = d.to

  abbrev a : Agent
  a = w.agents d.to

  informed-kept : (x y : ℕ) → Once w x y → (w'.agents x).informs y ≡ true → (w'.agents y).listens x ≡ true
  informed-kept x y O n = ⊎_elim (λ q. still-listens H y x (O.informed q)) asked (informed-by H x y n)
    where
      asked : (x ≡ j) × Asks d.from m y → (w'.agents y).listens x ≡ true
      asked (e, q) =
          let l = rw (e, q.0) at O.heeded in rw (e, q.0) (still-listens H d.from j ((rw H.head at l).0 q.1))

  -- what waited before
  old : (x y : ℕ) → Once w x y → All (Heeds ((w'.agents y).listens x)) (w.channel y x)
  old x y O = All-map _ _ (λ q h z. still-listens H y x (h z)) (w.channel y x) O.heeded

  -- the receiver sends to x
  sends : (x : ℕ) → Once w x j → OneLink (w.channel j x ++ sent_to x t.sent)
      × ((w.agents x).informs j ≡ true → All (Not IsAddLink) (w.channel j x ++ sent_to x t.sent))
  sends x O = test (a.listens x) heard begins
    where
      heard : a.listens x ≡ true → OneLink (w.channel j x ++ sent_to x t.sent)
          × ((w.agents x).informs j ≡ true → All (Not IsAddLink) (w.channel j x ++ sent_to x t.sent))
      heard l =
          let g = All-map _ _ (listening a t x l) (sent_to x t.sent) (H.links.requests x) in
          (one-put (w.channel j x) _ O.once g, λ n. All-append (Not IsAddLink) (w.channel j x) _ (O.none n) g)

      -- it did not listen to x, so no request waits, and x does not inform it
      begins : a.listens x ≡ false → OneLink (w.channel j x ++ sent_to x t.sent)
          × ((w.agents x).informs j ≡ true → All (Not IsAddLink) (w.channel j x ++ sent_to x t.sent))
      begins l =
          let none : All (Not IsAddLink) (w.channel j x) =
          All-map _ _ (λ q h z. false≢true (sym l ∙ h z)) (w.channel j x) O.heeded in
          (one-new (w.channel j x) _ none (H.links.once x), λ n. absurd (false≢true (sym l ∙ O.informed n)))

  pub once-kept : (x y : ℕ) → Once w x y → Once w' x y
  once-kept x y O = go (on-channel H y x)
    where
      go : OnChannel d m t w w' y x → Once w' x y
      go (hit h ey ex e) =
          let T = one-tail m (w'.channel y x) (rw e at O.once) in
          record {
            informed = informed-kept x y O;
            heeded = (rw e at (old x y O)).1;
            once = T.0;
            none = λ n. ⊎_elim (λ q. (rw e at (O.none q)).1) (λ q. T.1 q.1.1) (informed-by H x y n);
          }
      go (put h ey e) =
          record {
            informed = informed-kept x y O;
            heeded = rw e (All-append _ (w.channel y x) _ (old x y O) (All-map _ _ new (sent_to x t.sent) (H.links.requests x)));
            once = rw (e, ey) (sends x (rw ey at O)).0;
            none = λ n. rw (e, ey) ((sends x (rw ey at O)).1 (was (rw ey at n)));
          }
        where
          new : (q : Message) → Requests a t x q → Heeds ((w'.agents y).listens x) q
          new q h = rw (ey, H.mine) (sent-heeds a t x q h)

          was : (w'.agents x).informs j ≡ true → (w.agents x).informs j ≡ true
          was n = ⊎_elim (λ q. q) (λ q. absurd (H.apart (sym q.1.0))) (informed-by H x j n)
      go (rest h ne e) =
          let missed : (x ≡ j) × Asks d.from m y → ⊥ = λ q. false≢true (sym h ∙ is-line y x d q.1.0 q.0) in
          record {
            informed = informed-kept x y O;
            heeded = rw e (old x y O);
            once = rw e O.once;
            none = λ n. rw e (⊎_elim O.none (λ q. absurd (missed q)) (informed-by H x y n));
          }
