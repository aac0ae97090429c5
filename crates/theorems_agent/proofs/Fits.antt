-- One agent's step keeps the shape, of forged records too: from a record and a message that fit, the record handed back fits, and so does every
-- message that is sent. Nothing is asked of the record but its shape: each rule only copies values out of the record and the message.
use Rattle.std.proofs.Common.{Some, ◌≡◌, refl, sym, ◌∙◌, ◌≢◌, ◌⊎◌, inl, inr, ⊎_elim, List, [], ◌++◌, Bool, true, cond, ◌||◌, ℕ, ◌≤◌, ◌<◌, arith, length, length-append, eqb}
use Rattle.model_base.specs.Finite.{at, within}
use Rattle.model_base.proofs.Tests.{test, or_left, or_right, or_cases, within-true}
use Rattle.model_base.proofs.Search.{at-cases}
use Rattle.model_base.proofs.Lists.{All, All-append, All-map}
use Rattle.model_sheet.specs.Problem.{max_agents, max_domain}
use Rattle.model_agent.specs.Message.{Assignment, known, Message, Info, Back, AddLink, Post, sent_to}
use Rattle.model_agent.specs.Agent.{Self, Bans, Agent, Step}
use Rattle.model_agent.specs.Choosing.{no_refuser, after, check_view}
use Rattle.model_agent.specs.Receiving.{
  quiet,
  answer,
  agreeing,
  updated,
  conflicts,
  on_info,
  holds,
  unheard,
  add_links,
  accepting,
  outdated,
  on_back,
  informing,
  on_add_link,
  react,
}
use Rattle.model_agent.specs.Shape.{EachNamed, EachIn, RecordFits, MessageFits}
use Rattle.model_agent.specs.Sorts.{IsInfo, Not}
use Rattle.model_agent.proofs.Messages.{sent_to-append}
use Rattle.model_agent.proofs.Assignments.{above-is, from-above}
use Rattle.theorems_agent.specs.Facts.{Answered, RestFits, PostFits, StepFits}
use Rattle.theorems_agent.proofs.Posts.{gets-all, gets-few, requests-get, answer-get}
use Rattle.theorems_agent.proofs.LeftSides.{agrees_at, agreeing-some, unheard-true, view-heard, view-named}
use Rattle.theorems_agent.proofs.Links.{SameLinks, check-same}
use Rattle.theorems_agent.proofs.ChoosingFits.{Stored, store-more, Sendable, ChoosingFits, check-fits}

-- a message of a step on m from `from`
abbrev Sent : (ℕ → ℕ → Bool) → Self → Agent → ℕ → Message → (ℕ → Bool) → ℕ → Message → Type 0
Sent owns s a from m listens y q = PostFits owns s listens (λ y. (a.informs y ≡ true) ⊎ Answered from m y) y q

rest_of : (owns : ℕ → ℕ → Bool) (s : Self) (a : Agent) → RecordFits owns s a → RestFits owns s a
rest_of owns s a f = record { upward = f.upward; downward = f.downward; viewed = f.viewed; agreed = f.agreed }

-- what choosing sends, from a record b that informs whom a informs
chosen-sent : (owns : ℕ → ℕ → Bool) (s : Self) (refuser : ℕ) (a b : Agent) (from : ℕ) (m : Message) (t : Step)
    → ((y : ℕ) → y ≡ refuser → y ≢ no_refuser → Answered from m y) → b.informs ≡ a.informs
    → ChoosingFits owns s refuser b t → SameLinks b t → (y : ℕ) → All (Sent owns s a from m t.agent.listens y) (sent_to y t.sent)
chosen-sent owns s refuser a b from m t worked i r L y = All-map _ _ one (sent_to y t.sent) (r.posts y)
  where
    one : (q : Message) → Sendable owns s refuser b y q → Sent owns s a from m t.agent.listens y q
    one (Info v) h = (h.0, h.1, ⊎_elim (λ o. inl (rw i at o)) (λ (e, n). inr (worked y e n)) h.2, h.3)
    one (Back lhs v) h = (h.0, h.1, rw L.listens h.2, h.3, h.4)
    one AddLink h = (h.0, h.1, rw L.listens h.2)

module _ (owns : ℕ → ℕ → Bool) (s : Self) (bans : Bans) (high : s.number ≤ max_agents) (small : s.domain ≤ max_domain)
    (a : Agent) (from : ℕ) (f : RecordFits owns s a) where
  last-owned : within s.domain a.last ≡ true
  last-owned = rw f.kept f.valued

  -- a step that does not choose and sends one message at most
  quiet-fits : (b : Agent) (m : Message) (posts : List Post) → RestFits owns s b → b.value ≡ a.value → b.last ≡ a.last
      → ((y : ℕ) → All (Sent owns s a from m b.listens y) (sent_to y posts)) → ((y : ℕ) → length (sent_to y posts) ≤ 1)
      → StepFits owns s a from m (quiet b posts)
  unfolding quiet
  quiet-fits b m posts g v l h n =
      let own : within s.domain b.value ≡ true = rw v f.valued in
      let kept : b.last ≡ b.value = l ∙ f.kept ∙ sym v in
      record { rest = g; valued = inl (refl, own); posts = h; twice = λ y. omega (arith, n y); lasting = (rw kept own, λ _. kept) }

  -- .. nothing
  silent-fits : (b : Agent) (m : Message) → RestFits owns s b → b.value ≡ a.value → b.last ≡ a.last
      → StepFits owns s a from m (quiet b [])
  unfolding sent_to
  silent-fits b m g v l = quiet-fits b m [] g v l (λ y. tt) (λ y. omega arith)

  -- .. the own value, told to the sender
  answer-fits : (b : Agent) (m : Message) → RestFits owns s b → b.value ≡ a.value → b.last ≡ a.last → Not IsInfo m
      → s.number < from → from ≤ max_agents → StepFits owns s a from m (quiet b (answer a from))
  answer-fits b m g v last n l h =
      quiet-fits b m (answer a from) g v last
      (λ y. gets-all (answer-get a from y) (Sent owns s a from m b.listens y) (λ e _. rw e (l, h, inr (refl, n), f.valued)))
      (λ y. gets-few (answer-get a from y))

  -- ---- Info

  updated-fits : (v : ℕ) → a.listens from ≡ true → owns from v ≡ true → RestFits owns s (updated s a from v)
  unfolding updated
  updated-fits v heard own = record { upward = f.upward; downward = f.downward; viewed = viewed; agreed = agreed }
    where
      view : Assignment
      view = at a.view from v

      viewed : EachNamed view (λ k u. (a.listens k ≡ true) × (owns k u ≡ true))
      viewed k lo hi =
          at-cases (λ u. known u ≡ true → (a.listens k ≡ true) × (owns k u ≡ true)) a.view from v k
          (λ q _. rw q (heard, own)) (λ _. f.viewed k lo hi)

      agreed : Stored s view (λ w. agreeing s view (a.nogoods w))
      agreed w lhs lo hi e =
          let (stored, agrees) = agreeing-some s view (a.nogoods w) lhs e in
          let (top, same) = f.agreed w lhs lo hi stored in (
            top,
            λ k lk hk n.
                let (l, _) = f.viewed k lk hk (rw (same k lk hk n) at n) in
                agrees_at s view lhs agrees k lk (f.upward k lk hk l) n,
          )

  info-fits : (v : ℕ) → MessageFits owns s a from (Info v) → StepFits owns s a from (Info v) (on_info s bans a from v)
  unfolding on_info updated
  info-fits v (_, heard, own) =
      let g = updated-fits v heard own in
      test (conflicts s bans (at a.view from v) a.value)
      (λ e. rw (e, on_info)
      (chooses (check-fits owns s bans no_refuser high small (updated s a from v) g last-owned) (check-same s bans no_refuser (updated s a from v))))
      (λ e. rw (e, on_info) (silent-fits (updated s a from v) (Info v) g refl refl))
    where
      chooses : ChoosingFits owns s no_refuser (updated s a from v) (check_view s bans no_refuser (updated s a from v))
          → SameLinks (updated s a from v) (check_view s bans no_refuser (updated s a from v))
          → StepFits owns s a from (Info v) (check_view s bans no_refuser (updated s a from v))
      chooses r L =
          record {
            rest = r.rest;
            valued = r.valued;
            posts = chosen-sent owns s no_refuser a (updated s a from v) from (Info v) _ (λ y e n. absurd (n e)) refl r L;
            twice = λ y. omega (arith, r.once y);
            lasting = r.lasting;
          }

  -- ---- Back

  accepting-fits : (lhs : Assignment) (v : ℕ) → MessageFits owns s a from (Back lhs v) → holds s a lhs v ≡ true
      → RestFits owns s (accepting a lhs v)
  unfolding accepting
  accepting-fits lhs v (_, _, own, named) h = record { upward = upward; downward = f.downward; viewed = viewed; agreed = agreed }
    where
      view : Assignment
      view k = cond (unheard a lhs k) (lhs k) (a.view k)

      upward : EachIn (λ k. a.listens k || known (lhs k)) (λ k. k < s.number)
      upward k lo hi e = ⊎_elim (λ l. f.upward k lo hi l) (λ n. (named k lo hi n).0) (or_cases _ _ e)

      viewed : EachNamed view (λ k u. (a.listens k || known (lhs k) ≡ true) × (owns k u ≡ true))
      viewed k lo hi e =
          test (unheard a lhs k)
          (λ q. let u = unheard-true a lhs k q in rw q (or_right (a.listens k) _ u.0, (named k lo hi u.0).1))
          (λ q. let g = f.viewed k lo hi (rw q at e) in rw q (or_left _ (known (lhs k)) g.0, g.1))

      -- what was a part of the old view is one of the new
      old : Stored s view a.nogoods
      old w r lo hi e =
          let (top, same) = f.agreed w r lo hi e in
          (top, λ k lk hk n. let is = same k lk hk n in is ∙ view-heard a lhs v k (f.viewed k lk hk (rw is at n)).0)

      agreed : Stored s view (at a.nogoods v (Some lhs))
      agreed =
          store-more s view a.nogoods v lhs (within-true s.domain v own).1
          (λ k lo hi n. view-named s a lhs v h k lo (named k lo hi n).0 n) old

  holding-fits : (lhs : Assignment) (v : ℕ) (t : Step) → ChoosingFits owns s from (accepting a lhs v) t → SameLinks (accepting a lhs v) t
      → StepFits owns s a from (Back lhs v) (after (add_links s a lhs) t)
  unfolding after accepting
  holding-fits lhs v t r L =
      record {
        rest = r.rest;
        valued = r.valued;
        posts = λ y. rw (split y) (All-append _ (sent_to y (add_links s a lhs)) (sent_to y t.sent)
            (gets-all (requests-get s a lhs y) (Sent owns s a from (Back lhs v) t.agent.listens y)
            (λ (lo, hi) u.
            let n = or_right (a.listens y) _ (unheard-true a lhs y u).0 in
            (lo, from-above s y (omega (arith, above-is s)) hi, rw L.listens n)))
            (chosen-sent owns s from a (accepting a lhs v) from (Back lhs v) t (λ y e _. (e, λ z. z)) refl r L y));
        twice = λ y.
            rw (split y, length-append (sent_to y (add_links s a lhs)) (sent_to y t.sent))
            (omega (arith, gets-few (requests-get s a lhs y), r.once y));
        lasting = r.lasting;
      }
    where
      split : (y : ℕ) → sent_to y (add_links s a lhs ++ t.sent) ≡ sent_to y (add_links s a lhs) ++ sent_to y t.sent
      split y = sent_to-append y (add_links s a lhs) t.sent

  back_fits : (lhs : Assignment) (v : ℕ) → MessageFits owns s a from (Back lhs v)
      → StepFits owns s a from (Back lhs v) (on_back s bans a from lhs v)
  unfolding on_back outdated accepting
  back_fits lhs v m =
      test (holds s a lhs v)
      (λ e. rw (e, on_back) (holding-fits lhs v _ (check-fits owns s bans from high small (accepting a lhs v) (accepting-fits lhs v m e) last-owned)
      (check-same s bans from (accepting a lhs v))))
      (λ e. rw (e, on_back) (test (eqb v a.value)
      (λ q. rw q (answer-fits a (Back lhs v) (rest_of owns s a f) refl refl (λ z. z) m.0 m.1))
      (λ q. rw q (silent-fits a (Back lhs v) (rest_of owns s a f) refl refl))))

  -- ---- AddLink

  informing-fits : s.number < from → from ≤ max_agents → RestFits owns s (informing a from)
  unfolding informing
  informing-fits l h =
      record {
        upward = f.upward;
        downward = λ k lo hi.
            at-cases (λ b. b ≡ true → (s.number < k) × (k ≤ max_agents)) a.informs from true k
            (λ q _. rw q (l, h)) (λ _. f.downward k lo hi);
        viewed = f.viewed;
        agreed = f.agreed;
      }

  add-link-fits : MessageFits owns s a from AddLink → StepFits owns s a from AddLink (on_add_link a from)
  unfolding on_add_link informing
  add-link-fits m = answer-fits (informing a from) AddLink (informing-fits m.0 m.1) refl refl (λ z. z) m.0 m.1

pub react-fits : (owns : ℕ → ℕ → Bool) (s : Self) (bans : Bans) (a : Agent) (from : ℕ) (m : Message)
    → s.number ≤ max_agents → s.domain ≤ max_domain → RecordFits owns s a → MessageFits owns s a from m
    → StepFits owns s a from m (react s bans a from m)
unfolding react
react-fits owns s bans a from (Info v) high small f h = info-fits owns s bans high small a from f v h
react-fits owns s bans a from (Back lhs v) high small f h = back_fits owns s bans high small a from f lhs v h
react-fits owns s bans a from AddLink high small f h = add-link-fits owns s bans high small a from f h
