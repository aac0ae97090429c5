-- The agent facts, proved of the rules: links, shape, plainness, accuracy and the first step stand in files of their own, and so do Info and Back;
-- a link request chooses nothing.
use Rattle.std.proofs.Common.{◌≡◌, refl, sym, subst, true, false, [], ◌∷◌, ℕ}
use mathlib.Core.Bool.{false≢true}
use Rattle.model_agent.specs.Message.{Assignment, Message, Info, Back, AddLink}
use Rattle.model_agent.specs.Agent.{Self, Bans, Agent, unused_agent}
use Rattle.model_agent.specs.Receiving.{quiet, informing, on_add_link, receive, begin, react, counted, fresh}
use Rattle.model_agent.specs.Sorts.{IsBack}
use Rattle.model_agent.specs.Choosing.{no_refuser, check_view}
use Rattle.theorems_agent.specs.Facts.{Setting, Good, Handed, Facts, AgentFacts}
use Rattle.theorems_agent.proofs.Posts.{answer-sent, answer-some}
use Rattle.theorems_agent.proofs.Links.{react-links}
use Rattle.theorems_agent.proofs.Info.{info-facts, info-ends}
use Rattle.theorems_agent.proofs.Back.{back-facts, back-ends}
use Rattle.theorems_agent.proofs.Fits.{react-fits}
use Rattle.theorems_agent.proofs.Plain.{react-plain}
use Rattle.theorems_agent.proofs.Counted.{step-counted, links-counted, fits-counted, plain-counted, facts-counted, begun-counted}
use Rattle.theorems_agent.proofs.Begin.{first-facts}

add-link-facts : (S : Assignment → Type 0) (s : Self) (bans : Bans) (a : Agent) (from : ℕ) → Good S s bans a
    → Facts S s bans a from AddLink (on_add_link a from)
unfolding on_add_link quiet informing
add-link-facts S s bans a from G =
    record {
      good = record {
        low = G.low;
        high = G.high;
        kept = G.kept;
        free = G.free;
        fresh = G.fresh;
        agree = G.agree;
        implied = G.implied;
        viewed = G.viewed;
        upward = G.upward;
      };
      chooses = false;
      quiet = λ _. record {
        value = refl;
        listens = refl;
        view = λ x. refl;
        nogoods = λ _ v q. q;
        sent = answer-sent a from AddLink (λ q. q);
        answers = λ _. answer-some a from;
      };
      busy = λ q. absurd (false≢true q);
      must = λ lhs v e. absurd (subst IsBack (sym e) tt);
    }

react-facts : (S : Assignment → Type 0) (s : Self) (bans : Bans) (a : Agent) (from : ℕ) (m : Message)
    → Setting S s bans → Handed S s a from m → Good S s bans a
    → (react s bans a from m).unsolvable ≡ false → Facts S s bans a from m (react s bans a from m)
unfolding react
react-facts S s bans a from (Info v) problem heard G z = info-facts S s bans a from v problem heard G z
react-facts S s bans a from (Back lhs v) problem (implied, upward) G z = back-facts S s bans a from lhs v problem implied upward G z
react-facts S s bans a from AddLink problem _ G z = add-link-facts S s bans a from G

react-ends : (S : Assignment → Type 0) (s : Self) (bans : Bans) (a : Agent) (from : ℕ) (m : Message)
    → Setting S s bans → Handed S s a from m → Good S s bans a
    → (react s bans a from m).unsolvable ≡ true → (σ : Assignment) → S σ → ⊥
unfolding react on_add_link quiet
react-ends S s bans a from (Info v) problem heard G z = info-ends S s bans a from v problem heard G z
react-ends S s bans a from (Back lhs v) problem (implied, upward) G z = back-ends S s bans a from lhs v problem implied upward G z
react-ends S s bans a from AddLink problem _ G z = absurd (false≢true z)

-- The step with its messages counted has the facts of the step without.
pub agent-facts : AgentFacts receive begin
unfolding receive begin counted fresh unused_agent
agent-facts =
    record {
      links = λ s bans a from m. links-counted a _ _ (react-links s bans a from m);
      counts = λ s bans a from m. step-counted a (m ∷ []) (react s bans a from m);
      fits = λ owns s bans a from m high small f h. fits-counted a _ _ (react-fits owns s bans a from m high small f h);
      plain = λ s bans a from m inside small own P M. plain-counted a _ _ (react-plain s bans a from inside small P m own M);
      runs = λ S s bans a from m problem heard G z. facts-counted a _ _ (react-facts S s bans a from m problem heard G z);
      ends = λ S s bans a from m problem heard G z. react-ends S s bans a from m problem heard G z;
      begins = λ s bans listens informs l d. begun-counted (fresh listens informs) _ _ (first-facts s bans listens informs l d);
      starts = λ s bans listens informs. step-counted (fresh listens informs) [] (check_view s bans no_refuser (fresh listens informs));
    }
