-- The posts of a step: ready to be read, and each to another agent.
-- Link requests and Backs go to agents above, Infos to agents below.
use Rattle.std.proofs.Common.{ℕ, zero, suc, ◌+◌, ◌^◌, ◌<◌, ◌≤◌, ◌≡◌, ap, ◌∙◌, ◌≢◌, true, List, [], ◌∷◌, ◌++◌, map, not-suc-le-zero, add-one, arith, length, get_or, set, take, take-suc-set, ne_eqb}
use mathlib.Core.List.{map-append}
use Rattle.model_base.specs.Finite.{from_one, every}
use Rattle.model_base.proofs.Lists.{All, All-append, gather-all, to-every}
use Rattle.model_base.proofs.Tests.{test, to-within}
use Rattle.model_sheet.specs.Problem.{max_agents}
use Rattle.model_agent.specs.Message.{known, Message as Message', Info as Info', AddLink as AddLink', Post as Post'}
use Rattle.model_agent.specs.Agent.{Bans, Step as Step'}
use Rattle.model_agent.specs.Choosing.{refusing}
use Rattle.model_agent.specs.Shape.{max_named, EachNamed, EachIn}
use Rattle.model_agent.proofs.Assignments.{unknown-zero}
use Rattle.model_base.specs.Sets.{members}
use Rattle.abt_packed.specs.Packed.{digit, assignment}
use Rattle.abt_choosing.specs.Conflicts.{ConfigFits, ConflictsOf}
use Rattle.abt_choosing.specs.declared.AgentConfig.{AgentConfig}
use Rattle.abt_agent.specs.Abstract.{assigned}
use Rattle.abt_agent.specs.Posting.{post_if, posts_to, links_to, news_to, back_of, backs_from, posts_left, Ready, step_of}
use Rattle.abt_agent.specs.Entries.{Above, Below, is_other, StepsAs}
use Rattle.abt_agent.specs.declared.Outbox.{Outbox}
use Rattle.abt_agent.specs.declared.Step.{Step}
use Rattle.abt_packed.proofs.Wordwise.{short}
use Rattle.abt_choosing.proofs.Named.{highest-named, named_some}

-- ---- a whole nogood that goes to an agent above: it names one, and none but those

pub record Refuses (own : AgentConfig) (x : ℕ) : Type 0 where
  pub some : 1 ≤ x
  pub short : x < 281474976710656
  pub above : EachNamed (assignment x) (λ k v. k < own.number)

pub refuses : (own : AgentConfig) (x k : ℕ) → x < 2 ^ 64 → own.number ≤ 12 → EachNamed (assignment x) (λ k v. k < own.number)
    → known (assignment x k) ≡ true → Refuses own x
unfolding assignment from_one max_named
refuses own x k h few above e =
    record {
      some = named_some x k e;
      short = short 12 16 x h (λ k l u. test (known (digit x k)) (λ t. absurd (omega (arith, above (suc k) (omega arith) u t))) (λ t. unknown-zero (digit x k) t));
      above = above;
    }

pub backs-more : (count : ℕ) (backs : List ℕ) (x : ℕ) → count < length backs
    → backs_from 0 (count + 1) (set backs count x) ≡ backs_from 0 count backs ++ (back_of x ∷ [])
unfolding backs_from
backs-more count backs x h = rw (add-one count, take-suc-set backs count x h) (map-append back_of (take count backs) (x ∷ []))

-- ---- link requests and Backs to agents above, Infos to agents below

pub record Addressed (own : AgentConfig) (p : Outbox) (backs : List ℕ) : Type 0 where
  pub links : Above own p.links
  pub told : Below own p.told
  pub next : p.next ≡ 0
  pub few : p.count ≤ 11
  pub places : length backs ≡ 11
  pub wholes : (i : ℕ) → i < p.count → Refuses own (get_or backs i 0)

module _ (own : AgentConfig) (fits : ConfigFits own) (p : Outbox) (backs : List ℕ) (a : Addressed own p backs) where
  ready : Ready p backs
  unfolding max_agents
  ready =
      record {
        links = λ k lo hi e. omega (arith, a.links k lo hi e, fits.last);
        told = λ k lo hi e. (a.told k lo hi e).1;
        next = omega (arith, a.next);
        few = a.few;
        places = a.places;
        wholes = λ i h. let r = a.wholes i h in record { some = r.some; short = r.short };
      }

  other : (k : ℕ) → 1 ≤ k → k ≤ 12 → k ≢ own.number → is_other own k ≡ true
  unfolding is_other max_agents
  other k lo hi n = rw (to-within 12 k lo hi, ne_eqb k own.number n)

  abbrev Other : Post' → Type 0
  Other q = is_other own q.to ≡ true

  to_set : (m : Message') (set : ℕ) → EachIn (members set) (λ k. (k ≤ 12) × (k ≢ own.number)) → All Other (posts_to m (members set))
  unfolding posts_to post_if max_agents max_named
  to_set m set f =
      gather-all Other (λ k. post_if (members set k) m k) 12 1
      (λ k l u.
      test (members set k)
      (λ t. let g = f k l (omega arith) t in rw t (other k l g.0 g.1, tt))
      (λ t. rw t tt))

  back-other : (x : ℕ) → Refuses own x → Other (back_of x)
  unfolding back_of refusing max_named
  back-other x r =
      let n = highest-named x r.some (omega (arith, r.short)) in
      let h = r.above _ n.0 n.1 n.2 in
      other _ n.0 (omega (arith, h, fits.last)) (λ e. omega (arith, h, e))

  to-backs : (count : ℕ) (l : List ℕ) → count ≤ length l → ((i : ℕ) → i < count → Refuses own (get_or l i 0)) → All Other (map back_of (take count l))
  to-backs zero l h f = tt
  to-backs (suc count) [] h f = absurd (not-suc-le-zero h)
  to-backs (suc count) (x ∷ xs) h f = (back-other x (f 0 (omega arith)), to-backs count xs (omega arith) (λ i g. f (suc i) (omega arith)))

  to-others : every (λ q. is_other own q.to) (posts_left p backs) ≡ true
  unfolding posts_left links_to news_to backs_from max_agents
  to-others =
      ap (λ (i : ℕ). every (λ q. is_other own q.to) (links_to p.links ++ backs_from i p.count backs ++ news_to p.value p.told)) a.next
      ∙ to-every (λ q. is_other own q.to) _
      (All-append Other (links_to p.links ++ backs_from 0 p.count backs) (news_to p.value p.told)
      (All-append Other (links_to p.links) (backs_from 0 p.count backs)
      (to_set AddLink' p.links (λ k lo hi e. let h = a.links k lo hi e in (omega (arith, fits.last), λ q. omega arith)))
      (to-backs p.count backs (omega (arith, a.few, a.places)) a.wholes))
      (to_set (Info' p.value) p.told (λ k lo hi e. let h = a.told k lo hi e in (h.1, λ q. omega arith))))

pub steps-as : (own : AgentConfig) (bans : Bans) (r : Step) (t : Step') → ConfigFits own → Addressed own r.outbox r.backs → step_of r ≡ t
    → ConflictsOf bans (assigned r.agent.view) r.conflicts → StepsAs own bans r t
unfolding step_of
steps-as own bans r t fits a e conflicts_of =
    record {
      step = e;
      ready = ready own fits r.outbox r.backs a;
      others = rw (← e) (to-others own fits r.outbox r.backs a);
      conflicts_of = conflicts_of;
    }
