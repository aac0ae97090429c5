-- What handing a message over does (`Handing`), with a verdict or without: the receiver's record is its step's and all others stay; the message's
-- channel loses its head, what the receiver sends goes to the ends of its own channels, and all others stay.
use Rattle.std.proofs.Common.{◌≡◌, refl, sym, ◌∙◌, ◌≢◌, ◌⊎◌, inl, inr, ⊎_elim, List, [], ◌∷◌, ◌++◌, true, false, ℕ, eq-eqb, ne_eqb}
use mathlib.Core.Bool.{false≢true}
use native.Mathlib.Decide.{ℕ_discrete}
use Rattle.model_base.specs.Finite.{at}
use Rattle.model_base.proofs.Tests.{test}
use Rattle.model_base.proofs.Search.{at_same, at_other}
use Rattle.model_agent.specs.Message.{Message, Post, sent_to}
use Rattle.model_agent.specs.Agent.{Step}
use Rattle.theorems_agent.specs.Facts.{Asks, Linking, Counted}
use Rattle.model_network.specs.Network.{Network, self_of, bans_of, posted, with_step, with_channel, step_on, handed}
use Rattle.model_network.specs.Run.{Line, is_line}
use Rattle.theorems_shape.proofs.Wall.{agent-facts}
use Rattle.theorems_shape.proofs.Lines.{line-ends, is-line}

pub record Handing (d : Line) (m : Message) (t : Step) (w w' : Network) : Type 0 where
  pub links : Linking (w.agents d.to) d.from m t
  pub counts : Counted (w.agents d.to).counts (m ∷ []) t
  pub apart : d.from ≢ d.to
  pub mine : w'.agents d.to ≡ t.agent
  pub others : (y : ℕ) → y ≢ d.to → w'.agents y ≡ w.agents y
  pub head : w.channel d.from d.to ≡ m ∷ w'.channel d.from d.to
  pub sent : (y : ℕ) → w'.channel d.to y ≡ w.channel d.to y ++ sent_to y t.sent
  pub same : (x y : ℕ) → x ≢ d.to → is_line x y d ≡ false → w'.channel x y ≡ w.channel x y

-- ---- one agent, one channel

pub data OnAgent (d : Line) (t : Step) (w w' : Network) (y : ℕ) : Type 0 where
  mine : y ≡ d.to → w'.agents y ≡ t.agent → OnAgent d t w w' y
  other : y ≢ d.to → w'.agents y ≡ w.agents y → OnAgent d t w w' y

pub on-agent : {d : Line} {m : Message} {t : Step} {w w' : Network} → Handing d m t w w' → (y : ℕ) → OnAgent d t w w' y
on-agent {d} H y = elim (ℕ_discrete y d.to) [ yes e ↦ mine e (rw e H.mine) | no ne ↦ other ne (H.others y ne) ]

pub data OnChannel (d : Line) (m : Message) (t : Step) (w w' : Network) (x y : ℕ) : Type 0 where
  hit : is_line x y d ≡ true → x ≡ d.from → y ≡ d.to → w.channel x y ≡ m ∷ w'.channel x y → OnChannel d m t w w' x y
  put : is_line x y d ≡ false → x ≡ d.to → w'.channel x y ≡ w.channel x y ++ sent_to y t.sent → OnChannel d m t w w' x y
  rest : is_line x y d ≡ false → x ≢ d.to → w'.channel x y ≡ w.channel x y → OnChannel d m t w w' x y

pub on-channel : {d : Line} {m : Message} {t : Step} {w w' : Network} → Handing d m t w w' → (x y : ℕ) → OnChannel d m t w w' x y
on-channel {d} H x y =
    test (is_line x y d)
    (λ h. let (ex, ey) = line-ends x y d h in hit h ex ey (rw (ex, ey) H.head))
    (λ h. elim (ℕ_discrete x d.to) [ yes e ↦ put h e (rw e (H.sent y)) | no ne ↦ rest h ne (H.same x y ne h) ])

-- ---- who listens, who is informed

-- nobody stops listening
pub still-listens : {d : Line} {m : Message} {t : Step} {w w' : Network} → Handing d m t w w' → (y x : ℕ)
    → (w.agents y).listens x ≡ true → (w'.agents y).listens x ≡ true
still-listens {d} {m} {t} {w} {w'} H y x l = go (on-agent H y)
  where
    go : OnAgent d t w w' y → (w'.agents y).listens x ≡ true
    go (mine e h) = rw h (H.links.keeps x (rw e at l))
    go (other ne h) = rw h l

-- informed now: informed before, or by the request handed over
pub informed-by : {d : Line} {m : Message} {t : Step} {w w' : Network} → Handing d m t w w' → (x y : ℕ)
    → (w'.agents x).informs y ≡ true → ((w.agents x).informs y ≡ true) ⊎ ((x ≡ d.to) × Asks d.from m y)
informed-by {d} {m} {t} {w} {w'} H x y n = go (on-agent H x)
  where
    go : OnAgent d t w w' x → ((w.agents x).informs y ≡ true) ⊎ ((x ≡ d.to) × Asks d.from m y)
    go (mine e h) = ⊎_elim (λ q. inl (rw e q)) (λ q. inr (e, q)) (H.links.joined y (rw h at n))
    go (other ne h) = inl (rw h at n)

-- ---- by the definition

posted-same : (j : ℕ) (posts : List Post) (channel : ℕ → ℕ → List Message) (y : ℕ)
    → posted j posts channel j y ≡ channel j y ++ sent_to y posts
unfolding posted
posted-same j posts channel y = rw (eq-eqb j j refl, posted)

posted-other : (j : ℕ) (posts : List Post) (channel : ℕ → ℕ → List Message) (x y : ℕ) → x ≢ j → posted j posts channel x y ≡ channel x y
unfolding posted
posted-other j posts channel x y ne = rw (ne_eqb x j ne, posted)

module _ (w : Network) (i j : ℕ) (m : Message) (others : List Message) where
  abbrev taken : ℕ → ℕ → List Message
  taken = at w.channel i (at (w.channel i) j others)

  taken-same : taken i j ≡ others
  taken-same = rw (at_same, at_same)

  taken-other : (x y : ℕ) → (x ≡ i → y ≢ j) → taken x y ≡ w.channel x y
  taken-other x y h =
      elim (ℕ_discrete x i) [
        | yes e ↦ rw (e, at_same) (at_other (w.channel i) j others y (h e))
        | no ne ↦ rw (at_other w.channel i (at (w.channel i) j others) x ne)
      ]

  handed-head : i ≢ j → (handed w i j m others).channel i j ≡ others
  unfolding handed with_step with_channel
  handed-head ne = posted-other j (step_on w i j m).sent taken i j ne ∙ taken-same

  handed-sent : i ≢ j → (y : ℕ) → (handed w i j m others).channel j y ≡ w.channel j y ++ sent_to y (step_on w i j m).sent
  unfolding handed with_step with_channel
  handed-sent ne y = posted-same j (step_on w i j m).sent taken y ∙ rw (taken-other j y (λ e. absurd (ne (sym e))))

  handed-same : (x y : ℕ) → x ≢ j → (x ≡ i → y ≢ j) → (handed w i j m others).channel x y ≡ w.channel x y
  unfolding handed with_step with_channel
  handed-same x y ne h = posted-other j (step_on w i j m).sent taken x y ne ∙ taken-other x y h

pub handing : (d : Line) (w : Network) (m : Message) (others : List Message) → d.from ≢ d.to → w.channel d.from d.to ≡ m ∷ others
    → Handing d m (step_on w d.from d.to m) w (handed w d.from d.to m others)
unfolding step_on handed with_step with_channel
handing d w m others ne l =
    let i = d.from in
    let j = d.to in
    record {
      links = agent-facts.links (self_of w.rule w.problem j) (bans_of w.problem j) (w.agents j) i m;
      counts = agent-facts.counts (self_of w.rule w.problem j) (bans_of w.problem j) (w.agents j) i m;
      apart = ne;
      mine = at_same w.agents j (step_on w i j m).agent;
      others = at_other w.agents j (step_on w i j m).agent;
      head = rw (handed-head w i j m others ne) l;
      sent = handed-sent w i j m others ne;
      same = λ x y nx h. handed-same w i j m others x y nx (λ ex ey. false≢true (sym h ∙ is-line x y d ex ey));
    }
