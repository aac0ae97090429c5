-- No rule reads or changes a count: with other counts in the record, the rules make the same step, and leave those counts in it.
use Rattle.std.proofs.Common.{◌≡◌, refl, ap, [], ◌∷◌, ℕ, zero, suc}
use Rattle.model_base.specs.Finite.{at, highest}
use Rattle.model_base.proofs.Tests.{test, opt}
use Rattle.model_agent.specs.Message.{known, Message, Info, Back, AddLink}
use Rattle.model_agent.specs.Traffic.{Traffic}
use Rattle.model_agent.specs.Agent.{Self, Bans, Agent, Step, with_counts, above}
use Rattle.model_agent.specs.Choosing.{choice, no_refuser, tells, info_to, infos, chosen, took, union, failed, refusing, forget, after, settle, check_view}
use Rattle.model_agent.specs.Receiving.{
  quiet,
  answer,
  updated,
  conflicts,
  on_info,
  matches,
  holds,
  unheard,
  add_link_to,
  add_links,
  accepting,
  outdated,
  on_back,
  informing,
  on_add_link,
  react,
}

-- a step whose agent has these counts
abbrev pub holding : Traffic → Step → Step
holding c t = record { agent = with_counts t.agent c; sent = t.sent; unsolvable = t.unsolvable }

module _ (s : Self) (bans : Bans) (c : Traffic) where
  settle-uncounted : (times refuser : ℕ) (a : Agent)
      → settle times s bans refuser (with_counts a c) ≡ holding c (settle times s bans refuser a)
  unfolding settle choice took infos info_to tells failed chosen after forget
  settle-uncounted zero refuser a = refl
  settle-uncounted (suc times) refuser a =
      opt (choice s bans a).value
      (λ e. opt (highest (above s) (λ k. known (union s.domain (choice s bans a).nogoods k)))
      (λ q. rw (e, settle, q))
      (λ k q. rw (e, settle, q) (ap (after (refusing k (union s.domain (choice s bans a).nogoods) ∷ [])) (settle-uncounted times refuser (forget k a (choice s bans a).nogoods)))))
      (λ v e. rw (e, settle))

  check-uncounted : (refuser : ℕ) (a : Agent) → check_view s bans refuser (with_counts a c) ≡ holding c (check_view s bans refuser a)
  unfolding check_view
  check-uncounted refuser a = settle-uncounted s.number refuser a

  pub react-uncounted : (a : Agent) (from : ℕ) (m : Message) → react s bans (with_counts a c) from m ≡ holding c (react s bans a from m)
  unfolding react on_info updated on_back holds matches add_links add_link_to unheard accepting outdated answer quiet on_add_link informing after
  react-uncounted a from (Info v) =
      test (conflicts s bans (at a.view from v) a.value)
      (λ e. rw (e, on_info) (check-uncounted no_refuser (updated s a from v)))
      (λ e. rw (e, on_info))
  react-uncounted a from (Back lhs v) =
      test (holds s a lhs v)
      (λ e. rw (e, on_back) (ap (after (add_links s a lhs)) (check-uncounted from (accepting a lhs v))))
      (λ e. rw (e, on_back))
  react-uncounted a from AddLink = refl
