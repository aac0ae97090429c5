-- The start: an agent that knows nothing takes the lowest value and tells those below.
use Rattle.std.proofs.Common.{None, ℕ, zero, suc, ◌≤◌, ◌≡◌, refl, ap, ap₂, ◌∙◌, Bool, List, [], ◌∷◌, not-suc-le-zero, arith}
use mathlib.Core.Path.{fun_ext}
use Rattle.model_base.specs.Finite.{from_one}
use Rattle.model_base.proofs.Bits.{bit-of-zero}
use Rattle.model_agent.specs.Message.{Assignment as Assignment'}
use Rattle.model_agent.specs.Agent.{Self, Bans, Nogoods, no_nogoods, unused_agent, with_last, with_counts}
use Rattle.model_agent.specs.Choosing.{no_refuser, chosen, took, check_view, infos}
use Rattle.model_agent.specs.Receiving.{fresh, begin, counted}
use Rattle.model_agent.specs.Traffic.{Sort, Infos, Backs, AddLinks, Traffic as Traffic', no_counts, number, messages_in, top, raised, counting}
use Rattle.model_base.specs.Sets.{members}
use Rattle.abt_choosing.specs.Conflicts.{self_of, ConfigFits}
use Rattle.abt_choosing.specs.Choosing.{nogood_at}
use Rattle.abt_choosing.specs.declared.AgentConfig.{AgentConfig}
use Rattle.abt_agent.specs.Abstract.{assigned, none_counted, count_of, counts_of, agent_of}
use Rattle.abt_agent.specs.Posting.{news_to, backs_from, posts_left, Ready}
use Rattle.abt_agent.specs.Entries.{Below, BeginsAs}
use Rattle.abt_agent.specs.declared.Agent.{Agent}
use Rattle.abt_agent.specs.declared.Traffic.{Traffic}
use Rattle.abt_agent.specs.declared.Assignment.{Assignment}
use Rattle.abt_agent.specs.declared.Outbox.{Outbox}
use Rattle.theorems_agent.proofs.Begin.{settle-first}
use Rattle.abt_packed.proofs.Digits.{nobody-assigned}
use Rattle.abt_agent.proofs.Telling.{all_told}
use Rattle.abt_agent.proofs.ToSet.{none_in, links-none, news-infos}

-- ---- the rule

begins : (s : Self) (bans : Bans) (listens informs : ℕ → Bool) → 1 ≤ s.number → 1 ≤ s.domain
    → begin s bans listens informs ≡ counted (fresh listens informs) [] (took s no_refuser (fresh listens informs) 1 no_nogoods)
unfolding begin check_view
begins s bans listens informs l h =
    ap (counted (fresh listens informs) []) (settle-first s bans listens informs s.number l h)

-- ---- the code's record

none-stored : (l : List ℕ) → from_one None (nogood_at 0 l) ≡ no_nogoods
unfolding from_one no_nogoods nogood_at
none-stored l = fun_ext λ v. go v
  where
    go : (v : ℕ) → from_one None (nogood_at 0 l) v ≡ None
    go zero = refl
    go (suc i) = rw (bit-of-zero i, nogood_at)

-- what `Traffic::default` and `Assignment::default` make
pub default-counts : (c : Traffic) → (c.infos ≡ 0) × ((c.backs ≡ 0) × (c.links ≡ 0)) → c ≡ none_counted
default-counts c (e, (f, g)) = rw (e, f, g) refl

pub default-lhs : (l : Assignment) → l.digits ≡ 0 → l ≡ record { digits = 0 }
default-lhs l e = ap (λ (n : ℕ). let k : Assignment = record { digits = n } in k) e

-- it knows nobody and stores nothing
abbrev first : ℕ → ℕ → List ℕ → Traffic → Agent
first listens informs l sent =
    record {
      value = 1;
      last = 1;
      nogood_mask = 0;
      listens = listens;
      informs = informs;
      view = record { digits = 0 };
      nogoods = l;
      sent = sent;
      received = none_counted;
    }

-- it tells those informed, and sends nothing else
abbrev news : ℕ → Outbox
news informs = record { links = 0; told = informs; value = 1; next = 0; count = 0 }

no-backs : List ℕ
no-backs = 0 ∷ 0 ∷ 0 ∷ 0 ∷ 0 ∷ 0 ∷ 0 ∷ 0 ∷ 0 ∷ 0 ∷ 0 ∷ []

news-left : (informs : ℕ) → posts_left (news informs) no-backs ≡ news_to 1 informs
unfolding posts_left backs_from
news-left informs = rw links-none

none-counted : (x : Sort) → count_of none_counted x ≡ 0
unfolding count_of
none-counted Infos = refl
none-counted Backs = refl
none-counted AddLinks = refl

none-got : 0 ≡ raised 0 0
unfolding raised top
none-got = refl

module _ (own : AgentConfig) (bans : Bans) (listens informs : ℕ) (l : List ℕ) (sent : Traffic) (fits : ConfigFits own) (below : Below own informs)
    (counted-news : (backs : List ℕ) → Ready (news informs) backs → (x : Sort)
    → count_of sent x ≡ raised (count_of none_counted x) (number x (messages_in (posts_left (news informs) backs)))) where
  told : news_to 1 informs ≡ infos (self_of own) (fresh (members listens) (members informs)) no_refuser 1
  unfolding fresh unused_agent self_of
  told =
      news-infos (self_of own) (fresh (members listens) (members informs)) no_refuser 1 informs fits.last
      (all_told (self_of own) (members listens) (members informs)) below

  ready : Ready (news informs) no-backs
  unfolding no-backs
  ready =
      record {
        links = none_in _;
        told = λ k lo hi e. (below k lo hi e).1;
        next = omega arith;
        few = omega arith;
        places = refl;
        wholes = λ i h. absurd (not-suc-le-zero h);
      }

  counts : counts_of sent none_counted ≡ counting no_counts [] (infos (self_of own) (fresh (members listens) (members informs)) no_refuser 1)
  unfolding counts_of counting no_counts number
  counts =
      ap₂ (λ (f g : Sort → ℕ). record { sent = f; received = g })
      (fun_ext λ x. rw (none-counted x, news-left informs, told) at (counted-news no-backs ready x))
      (fun_ext λ x. none-counted x ∙ none-got)

  pub begins-told : BeginsAs (first listens informs l sent) (begin (self_of own) bans (members listens) (members informs))
  unfolding agent_of took chosen counted fresh unused_agent assigned self_of
  begins-told =
      rw (begins (self_of own) bans (members listens) (members informs) fits.first fits.some)
      (record {
        agent =
            ap₂ (λ (f : Assignment') (n : Nogoods). record {
              value = 1;
              last = 1;
              listens = members listens;
              informs = members informs;
              view = f;
              nogoods = n;
              counts = counts_of sent none_counted;
            }) nobody-assigned (none-stored l)
            ∙ ap (λ (c : Traffic'). with_counts (with_last (chosen (fresh (members listens) (members informs)) 1 no_nogoods) 1) c) counts;
        sent = told;
        unsolvable = refl;
      })
