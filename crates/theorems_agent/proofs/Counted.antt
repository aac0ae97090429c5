-- A step with its messages counted has every fact of the step without: the counts are in none of them. And it counts.
use Rattle.std.proofs.Common.{refl, Bool, List, ℕ}
use Rattle.model_base.proofs.Lists.{All-map}
use Rattle.model_agent.specs.Message.{Assignment, Message, Info, Back, AddLink, sent_to}
use Rattle.model_agent.specs.Traffic.{counting}
use Rattle.model_agent.specs.Agent.{Self, Bans, Agent, Step}
use Rattle.model_agent.specs.Receiving.{counted}
use Rattle.theorems_agent.specs.Facts.{
  Requests,
  Linking,
  Counted,
  StepFits,
  PlainStep,
  Good,
  Sends,
  Quiet,
  Busy,
  Facts,
  Begun,
}

module _ (a : Agent) (got : List Message) (t : Step) where
  pub step-counted : Counted a.counts got (counted a got t)
  unfolding counted counting
  step-counted = record { sent = λ x. refl; received = λ x. refl }

  -- ---- links

  requests-counted : (y : ℕ) (m : Message) → Requests a t y m → Requests a (counted a got t) y m
  unfolding counted
  requests-counted y (Info v) h = tt
  requests-counted y (Back lhs v) h = tt
  requests-counted y AddLink h = h

  pub links-counted : {from : ℕ} {m : Message} → Linking a from m t → Linking a from m (counted a got t)
  unfolding counted
  links-counted L =
      record {
        keeps = L.keeps;
        hears = L.hears;
        informs = L.informs;
        joins = L.joins;
        joined = L.joined;
        requests = λ y. All-map _ _ (requests-counted y) (sent_to y t.sent) (L.requests y);
        once = L.once;
      }

  -- ---- the shape

  pub fits-counted : {owns : ℕ → ℕ → Bool} {s : Self} {from : ℕ} {m : Message} → StepFits owns s a from m t
      → StepFits owns s a from m (counted a got t)
  unfolding counted
  fits-counted F =
      record {
        rest = record { upward = F.rest.upward; downward = F.rest.downward; viewed = F.rest.viewed; agreed = F.rest.agreed };
        valued = F.valued;
        posts = F.posts;
        twice = F.twice;
        lasting = F.lasting;
      }

  -- ---- plainness

  pub plain-counted : PlainStep t → PlainStep (counted a got t)
  unfolding counted
  plain-counted P =
      let A = P.agent in
      record {
        agent = record { listens = A.listens; informs = A.informs; view = A.view; nogoods = A.nogoods; reasons = A.reasons };
        sent = P.sent;
      }

  -- ---- accuracy

  good-counted : {S : Assignment → Type 0} {s : Self} {bans : Bans} → Good S s bans t.agent
      → Good S s bans (counted a got t).agent
  unfolding counted
  good-counted G =
      record {
        low = G.low;
        high = G.high;
        kept = G.kept;
        free = G.free;
        fresh = G.fresh;
        agree = G.agree;
        implied = G.implied;
        viewed = G.viewed;
        upward = G.upward;
      }

  quiet-counted : {from : ℕ} {m : Message} → Quiet a from m t → Quiet a from m (counted a got t)
  unfolding counted
  quiet-counted Q =
      record {
        value = Q.value;
        listens = Q.listens;
        view = Q.view;
        nogoods = Q.nogoods;
        sent = Q.sent;
        answers = Q.answers;
      }

  sends-counted : (S : Assignment → Type 0) (from : ℕ) (m : Message) (y : ℕ) (p : Message) → Sends S a from m t y p
      → Sends S a from m (counted a got t) y p
  unfolding counted
  sends-counted S from m y (Info v) h = h
  sends-counted S from m y (Back lhs v) h = h
  sends-counted S from m y AddLink h = tt

  busy-counted : {S : Assignment → Type 0} {s : Self} {bans : Bans} {from : ℕ} {m : Message} → Busy S s bans a from m t
      → Busy S s bans a from m (counted a got t)
  unfolding counted
  busy-counted {S = S} {from = from} {m = m} B =
      record {
        why = B.why;
        view = B.view;
        asks = B.asks;
        sent = λ y. All-map _ _ (sends-counted S from m y) (sent_to y t.sent) (B.sent y);
        tells = B.tells;
        grows = B.grows;
      }

  pub facts-counted : {S : Assignment → Type 0} {s : Self} {bans : Bans} {from : ℕ} {m : Message} → Facts S s bans a from m t
      → Facts S s bans a from m (counted a got t)
  facts-counted F =
      record {
        good = good-counted F.good;
        chooses = F.chooses;
        quiet = λ q. quiet-counted (F.quiet q);
        busy = λ q. busy-counted (F.busy q);
        must = F.must;
      }

  -- ---- the first step

  pub begun-counted : {s : Self} {listens informs : ℕ → Bool} → Begun s listens informs t → Begun s listens informs (counted a got t)
  unfolding counted
  begun-counted B =
      record {
        running = B.running;
        owned = B.owned;
        kept = B.kept;
        listened = B.listened;
        informed = B.informed;
        view = B.view;
        nogoods = B.nogoods;
        tells = B.tells;
        silent = B.silent;
      }
