-- The same message to each agent of a set, as the rules send it: to nobody, to one agent, to those below or above that the rule names.
use Rattle.std.proofs.Common.{ℕ, suc, pred, ◌+◌, ◌-◌, ◌≤◌, ◌<◌, ◌≡◌, sym, ap, ◌∙◌, Bool, true, [], ◌∷◌, arith}
use mathlib.Core.Bool.{false≢true}
use Rattle.model_base.specs.Finite.{at}
use Rattle.model_base.proofs.Search.{at_same, at_other}
use Rattle.model_base.proofs.Tests.{test, eq_test}
use Rattle.model_sheet.specs.Problem.{max_agents}
use Rattle.model_agent.specs.Message.{Assignment, Message as Message', Info as Info', AddLink as AddLink'}
use Rattle.model_agent.specs.Agent.{Self, Agent as Agent', above}
use Rattle.model_agent.specs.Choosing.{tells, info_to, infos}
use Rattle.model_agent.specs.Receiving.{unheard, add_link_to, add_links}
use Rattle.model_agent.specs.Shape.{max_named, EachIn}
use Rattle.model_base.specs.Sets.{members}
use Rattle.abt_agent.specs.Posting.{post_if, posts_to, links_to, news_to}
use Rattle.abt_packed.proofs.Sets.{no-members}
use Rattle.model_base.proofs.Gathers.{gather-same, gather_none, gather-one, gather-low, gather-high}

-- no agent of the empty set
pub none_in : (P : ℕ → Type 0) → EachIn (members 0) P
none_in P k lo hi e = absurd (false≢true (sym (no-members k) ∙ e))

-- the one agent of a set of one
pub one_in : (P : ℕ → Type 0) (m k : ℕ) → members m ≡ at (members 0) k true → P k → EachIn (members m) P
one_in P m k e h j lo hi t =
    eq_test j k
    (λ q. rw q h)
    (λ n. absurd (false≢true (sym (no-members j) ∙ sym (at_other (members 0) k true j n) ∙ ap (λ (f : ℕ → Bool). f j) (sym e) ∙ t)))

-- ---- to nobody, to one

posts-none : (m : Message') → posts_to m (members 0) ≡ []
unfolding posts_to post_if
posts-none m = gather_none max_agents 1 _ (λ j l u. rw (no-members j))

pub links-none : links_to 0 ≡ []
unfolding links_to
links-none = posts-none AddLink'

pub news-none : (v : ℕ) → news_to v 0 ≡ []
unfolding news_to
news-none v = posts-none (Info' v)

pub news-one : (v m k : ℕ) → 1 ≤ k → k ≤ 12 → members m ≡ at (members 0) k true → news_to v m ≡ record { to = k; message = Info' v } ∷ []
unfolding news_to posts_to post_if max_agents
news-one v m k lo hi e =
    gather-one max_agents 1 k (λ j. post_if (members m j) (Info' v) j) lo (omega arith)
    (λ j n. rw (e, at_other (members 0) k true j n, no-members j))
    ∙ rw (e, at_same (members 0) k true)

-- ---- to those told

pub news-infos : (s : Self) (a : Agent') (refuser v m : ℕ) → s.number ≤ 12 → ((k : ℕ) → 1 ≤ k → members m k ≡ tells s a refuser v k)
    → EachIn (members m) (λ k. (s.number < k) × (k ≤ max_agents)) → news_to v m ≡ infos s a refuser v
unfolding news_to posts_to infos max_agents max_named info_to post_if
news-infos s a refuser v m last e below =
    gather-high s.number 12 _ last (λ j lo hi. nothing j lo hi)
    ∙ gather-same (12 - s.number) (suc s.number) _ _ (λ j l u. same j (omega arith))
  where
    nothing : (j : ℕ) → 1 ≤ j → j ≤ s.number → post_if (members m j) (Info' v) j ≡ []
    nothing j lo hi =
        test (members m j)
        (λ t. absurd (omega (arith, (below j lo (omega arith) t).0)))
        (λ t. rw t)

    same : (j : ℕ) → 1 ≤ j → post_if (members m j) (Info' v) j ≡ info_to s a refuser v j
    same j l = rw (e j l) (test (tells s a refuser v j) (λ t. rw (t, info_to)) (λ t. rw (t, info_to)))

-- ---- to those not listened to

pub links-asked : (s : Self) (a : Agent') (lhs : Assignment) (m : ℕ) → 1 ≤ s.number → s.number ≤ 12
    → EachIn (members m) (λ k. k < s.number) → ((k : ℕ) → 1 ≤ k → k ≤ 16 → members m k ≡ unheard a lhs k)
    → links_to m ≡ add_links s a lhs
unfolding links_to posts_to add_links add_link_to max_agents max_named above post_if
links-asked s a lhs m first last up h =
    gather-low (pred s.number) 12 _ (omega arith) (λ j lo hi. nothing j lo hi)
    ∙ gather-same (pred s.number) 1 _ _ (λ j l u. same j l u)
  where
    nothing : (j : ℕ) → pred s.number < j → j ≤ 12 → post_if (members m j) AddLink' j ≡ []
    nothing j lo hi =
        test (members m j)
        (λ t. absurd (omega (arith, up j (omega arith) (omega arith) t)))
        (λ t. rw t)

    same : (j : ℕ) → 1 ≤ j → j < 1 + pred s.number → post_if (members m j) AddLink' j ≡ add_link_to a lhs j
    same j l u =
        let e = h j l (omega arith) in
        test (unheard a lhs j) (λ t. rw (e, t, add_link_to)) (λ t. rw (e, t, add_link_to))
