-- Single steps of one agent, worked by hand from docs/RULES.md, 'What a scanner does': at least one for each branch of each rule and for each
-- misreading of the rules that one step can show: an outdated refusal dropped in silence, a refusal sent before the link request to the same scanner,
-- unknown taken for a match, no news sent where the slot chosen is the old one.
use Rattle.std.specs.Prelude.{ℕ, Bool, true, false, ◌&&◌, ◌||◌, List, [], ◌∷◌, get_or, eqb, None, Option, Some}
use Rattle.model_base.specs.Finite.{from_one, all_to}
use Rattle.model_base.specs.Same.{same_bool}
use Rattle.model_sheet.specs.Problem.{max_agents, max_domain}
use Rattle.model_agent.specs.Message.{Assignment, Message, Info, Back, AddLink, Post}
use Rattle.model_agent.specs.Traffic.{Sort, Infos, Backs, AddLinks, Traffic}
use Rattle.model_agent.specs.Agent.{Self, Bans, Nogoods, Agent, Step, with_last, with_counts}
use Rattle.model_agent.specs.Choosing.{quiet_rule}
use Rattle.model_agent.specs.Receiving.{receive, begin}

-- ---- values by lists

-- the values of agents 1, 2, ..
unfoldable pub values : List ℕ → Assignment
values l = from_one 0 (λ k. get_or l k 0)

unfoldable pub member : List ℕ → ℕ → Bool
member [] k = false
member (x ∷ xs) k = eqb x k || member xs k

-- the nogoods of own values 1, 2, ..
unfoldable pub nogoods : List (Option Assignment) → Nogoods
nogoods l = from_one None (λ v. get_or l v None)

-- agent k at value v bans the own value w
pub record OwnBan : Type 0 where
  pub agent : ℕ
  pub value : ℕ
  pub own : ℕ

abbrev pub own_ban : ℕ → ℕ → ℕ → OwnBan
own_ban k v w = record { agent = k; value = v; own = w }

unfoldable pub bans_from : List OwnBan → Bans
bans_from [] k v w = false
bans_from (b ∷ bs) k v w = (eqb b.agent k && eqb b.value v && eqb b.own w) || bans_from bs k v w

-- counts of the three sorts: news, refusals, requests
unfoldable pub by_sort : List ℕ → Sort → ℕ
by_sort l Infos = get_or l 0 0
by_sort l Backs = get_or l 1 0
by_sort l AddLinks = get_or l 2 0

abbrev pub counts : List ℕ → List ℕ → Traffic
counts sent received = record { sent = by_sort sent; received = by_sort received }

-- an agent whose value, if it has one, is the last that it took, and whose counts are zero
abbrev pub agent : ℕ → List ℕ → List ℕ → List ℕ → List (Option Assignment) → Agent
agent v listens informs view stored =
    record {
      value = v;
      last = v;
      listens = member listens;
      informs = member informs;
      view = values view;
      nogoods = nogoods stored;
      counts = counts [] [];
    }

abbrev pub post : ℕ → Message → Post
post k m = record { to = k; message = m }

-- ---- compared

unfoldable pub same_set : (ℕ → Bool) → (ℕ → Bool) → Bool
same_set f g = all_to max_agents (λ k. same_bool (f k) (g k))

unfoldable pub same_assignment : Assignment → Assignment → Bool
same_assignment f g = all_to max_agents (λ k. eqb (f k) (g k))

unfoldable pub same_nogood : Option Assignment → Option Assignment → Bool
same_nogood None None = true
same_nogood None (Some g) = false
same_nogood (Some f) None = false
same_nogood (Some f) (Some g) = same_assignment f g

unfoldable pub same_sorts : (Sort → ℕ) → (Sort → ℕ) → Bool
same_sorts f g = eqb (f Infos) (g Infos) && eqb (f Backs) (g Backs) && eqb (f AddLinks) (g AddLinks)

unfoldable pub same_counts : Traffic → Traffic → Bool
same_counts c d = same_sorts c.sent d.sent && same_sorts c.received d.received

unfoldable pub same_agent : Agent → Agent → Bool
same_agent a b =
    eqb a.value b.value
    && eqb a.last b.last
    && same_set a.listens b.listens
    && same_set a.informs b.informs
    && same_assignment a.view b.view
    && all_to max_domain (λ v. same_nogood (a.nogoods v) (b.nogoods v))
    && same_counts a.counts b.counts

unfoldable pub same_message : Message → Message → Bool
same_message (Info v) (Info w) = eqb v w
same_message (Info v) (Back l w) = false
same_message (Info v) AddLink = false
same_message (Back k v) (Info w) = false
same_message (Back k v) (Back l w) = same_assignment k l && eqb v w
same_message (Back k v) AddLink = false
same_message AddLink (Info w) = false
same_message AddLink (Back l w) = false
same_message AddLink AddLink = true

unfoldable pub same_posts : List Post → List Post → Bool
same_posts [] [] = true
same_posts [] (q ∷ qs) = false
same_posts (p ∷ ps) [] = false
same_posts (p ∷ ps) (q ∷ qs) = eqb p.to q.to && same_message p.message q.message && same_posts ps qs

-- ---- the cases

pub record StepCase : Type 0 where
  pub got : Step
  pub agent : Agent  -- but for its counts
  pub counts : Traffic
  pub sent : List Post
  pub unsolvable : Bool

unfoldable pub step_holds : StepCase → Bool
step_holds c =
    same_agent c.got.agent (with_counts c.agent c.counts) && same_posts c.got.sent c.sent && same_bool c.got.unsolvable c.unsolvable

unfoldable pub all_hold : List StepCase → Bool
all_hold [] = true
all_hold (c ∷ cs) = step_holds c && all_hold cs

-- under rule 1, and under rule 2
abbrev pub self : ℕ → ℕ → Self
self i d = record { number = i; domain = d; rule = 1 }

abbrev pub quiet_self : ℕ → ℕ → Self
quiet_self i d = record { number = i; domain = d; rule = quiet_rule }

-- agent 3 with two values: value 1 is banned by agent 1 at 1, value 2 by agent 2 at 1 (P9's agent 3)
abbrev pub bans3 : Bans
bans3 = bans_from (own_ban 1 1 1 ∷ own_ban 2 1 2 ∷ [])

-- agent 3 with two values, both banned by agent 1 at 1, value 1 by agent 2 at 1 too
abbrev pub bans_both : Bans
bans_both = bans_from (own_ban 1 1 1 ∷ own_ban 1 1 2 ∷ own_ban 2 1 1 ∷ [])

unfoldable pub step_cases : List StepCase
step_cases =
    -- Start: the lowest value, news to all informed; nothing known bans nothing.
    record {
      got = begin (self 3 2) bans3 (member (1 ∷ 2 ∷ [])) (member (5 ∷ 4 ∷ []));
      agent = agent 1 (1 ∷ 2 ∷ []) (4 ∷ 5 ∷ []) [] [];
      counts = counts (2 ∷ 0 ∷ 0 ∷ []) (0 ∷ 0 ∷ 0 ∷ []);
      sent = post 4 (Info 1) ∷ post 5 (Info 1) ∷ [];
      unsolvable = false;
    }
    -- News that does not ban the own value: the view only.
    ∷ record {
      got = receive (self 3 2) bans3 (agent 2 (1 ∷ 2 ∷ []) (4 ∷ []) [] []) 1 (Info 1);
      agent = agent 2 (1 ∷ 2 ∷ []) (4 ∷ []) (1 ∷ []) [];
      counts = counts (0 ∷ 0 ∷ 0 ∷ []) (1 ∷ 0 ∷ 0 ∷ []);
      sent = [];
      unsolvable = false;
    }
    -- News that disagrees with a stored reason drops it, and only it.
    ∷ record {
      got = receive (self 3 2) bans3 (agent 2 (1 ∷ 2 ∷ []) [] (1 ∷ 2 ∷ []) (Some (values (1 ∷ [])) ∷ [])) 1 (Info 2);
      agent = agent 2 (1 ∷ 2 ∷ []) [] (2 ∷ 2 ∷ []) [];
      counts = counts (0 ∷ 0 ∷ 0 ∷ []) (1 ∷ 0 ∷ 0 ∷ []);
      sent = [];
      unsolvable = false;
    }
    ∷ record {
      got = receive (self 3 2) bans3 (agent 2 (1 ∷ 2 ∷ []) [] (1 ∷ 2 ∷ []) (Some (values (1 ∷ [])) ∷ [])) 2 (Info 3);
      agent = agent 2 (1 ∷ 2 ∷ []) [] (1 ∷ 3 ∷ []) (Some (values (1 ∷ [])) ∷ []);
      counts = counts (0 ∷ 0 ∷ 0 ∷ []) (1 ∷ 0 ∷ 0 ∷ []);
      sent = [];
      unsolvable = false;
    }
    -- News that bans the own value: it gets a reason, the lowest free value is taken and told; those above get no reason.
    ∷ record {
      got = receive (self 3 3) (bans_from (own_ban 1 1 1 ∷ own_ban 1 1 3 ∷ [])) (agent 1 (1 ∷ 2 ∷ []) (4 ∷ []) [] []) 1 (Info 1);
      agent = agent 2 (1 ∷ 2 ∷ []) (4 ∷ []) (1 ∷ []) (Some (values (1 ∷ [])) ∷ []);
      counts = counts (1 ∷ 0 ∷ 0 ∷ []) (1 ∷ 0 ∷ 0 ∷ []);
      sent = post 4 (Info 2) ∷ [];
      unsolvable = false;
    }
    -- A value with a stored reason is skipped though nothing in the view bans it.
    ∷ record {
      got = receive (self 3 3) (bans_from (own_ban 1 1 3 ∷ []))
          (agent 3 (1 ∷ 2 ∷ []) (4 ∷ []) (0 ∷ 2 ∷ []) (Some (values (0 ∷ 2 ∷ [])) ∷ [])) 1 (Info 1);
      agent = agent 2 (1 ∷ 2 ∷ []) (4 ∷ []) (1 ∷ 2 ∷ []) (Some (values (0 ∷ 2 ∷ [])) ∷ []);
      counts = counts (1 ∷ 0 ∷ 0 ∷ []) (1 ∷ 0 ∷ 0 ∷ []);
      sent = post 4 (Info 2) ∷ [];
      unsolvable = false;
    }
    -- Nobody is named: the lowest-numbered is blamed. Value 1 is banned by agents 1 and 2.
    ∷ record {
      got = receive (self 3 2) (bans_from (own_ban 1 1 1 ∷ own_ban 2 1 1 ∷ [])) (agent 1 (1 ∷ 2 ∷ []) [] (1 ∷ []) []) 2 (Info 1);
      agent = agent 2 (1 ∷ 2 ∷ []) [] (1 ∷ 1 ∷ []) (Some (values (1 ∷ [])) ∷ []);
      counts = counts (0 ∷ 0 ∷ 0 ∷ []) (1 ∷ 0 ∷ 0 ∷ []);
      sent = [];
      unsolvable = false;
    }
    -- One agent bars a value: it is blamed, named or not. Agent 1 is named (value 3); agent 2 alone bars value 1, agent 1 alone value 2.
    ∷ record {
      got = receive (self 3 4) (bans_from (own_ban 2 1 1 ∷ own_ban 1 1 2 ∷ []))
          (agent 1 (1 ∷ 2 ∷ []) (4 ∷ []) (1 ∷ []) (None ∷ None ∷ Some (values (1 ∷ [])) ∷ [])) 2 (Info 1);
      agent =
          agent 4 (1 ∷ 2 ∷ []) (4 ∷ []) (1 ∷ 1 ∷ [])
          (Some (values (0 ∷ 1 ∷ [])) ∷ Some (values (1 ∷ [])) ∷ Some (values (1 ∷ [])) ∷ []);
      counts = counts (1 ∷ 0 ∷ 0 ∷ []) (1 ∷ 0 ∷ 0 ∷ []);
      sent = post 4 (Info 4) ∷ [];
      unsolvable = false;
    }
    -- Agents 1 and 2 bar value 2, and the higher one is named: by the reason of a lower value ..
    ∷ record {
      got = receive (self 3 4) (bans_from (own_ban 1 1 2 ∷ own_ban 2 1 2 ∷ own_ban 1 1 3 ∷ []))
          (agent 3 (1 ∷ 2 ∷ []) (4 ∷ []) (0 ∷ 1 ∷ []) (Some (values (0 ∷ 1 ∷ [])) ∷ [])) 1 (Info 1);
      agent =
          agent 4 (1 ∷ 2 ∷ []) (4 ∷ []) (1 ∷ 1 ∷ [])
          (Some (values (0 ∷ 1 ∷ [])) ∷ Some (values (0 ∷ 1 ∷ [])) ∷ Some (values (1 ∷ [])) ∷ []);
      counts = counts (1 ∷ 0 ∷ 0 ∷ []) (1 ∷ 0 ∷ 0 ∷ []);
      sent = post 4 (Info 4) ∷ [];
      unsolvable = false;
    }
    -- .. by that of a higher value alone (3); agent 3, whom the reason of value 1 names, does not bar it
    ∷ record {
      got = receive (self 4 4) (bans_from (own_ban 3 1 1 ∷ own_ban 1 1 2 ∷ own_ban 2 1 2 ∷ []))
          (agent 1 (1 ∷ 2 ∷ 3 ∷ []) (5 ∷ []) (1 ∷ 1 ∷ []) (None ∷ None ∷ Some (values (0 ∷ 1 ∷ [])) ∷ [])) 3 (Info 1);
      agent =
          agent 4 (1 ∷ 2 ∷ 3 ∷ []) (5 ∷ []) (1 ∷ 1 ∷ 1 ∷ [])
          (Some (values (0 ∷ 0 ∷ 1 ∷ [])) ∷ Some (values (0 ∷ 1 ∷ [])) ∷ Some (values (0 ∷ 1 ∷ [])) ∷ []);
      counts = counts (1 ∷ 0 ∷ 0 ∷ []) (1 ∷ 0 ∷ 0 ∷ []);
      sent = post 5 (Info 4) ∷ [];
      unsolvable = false;
    }
    -- .. by one given earlier in this walk alone
    ∷ record {
      got = receive (self 3 3) (bans_from (own_ban 2 1 1 ∷ own_ban 1 1 2 ∷ own_ban 2 1 2 ∷ []))
          (agent 1 (1 ∷ 2 ∷ []) (4 ∷ []) (1 ∷ []) []) 2 (Info 1);
      agent = agent 3 (1 ∷ 2 ∷ []) (4 ∷ []) (1 ∷ 1 ∷ []) (Some (values (0 ∷ 1 ∷ [])) ∷ Some (values (0 ∷ 1 ∷ [])) ∷ []);
      counts = counts (1 ∷ 0 ∷ 0 ∷ []) (1 ∷ 0 ∷ 0 ∷ []);
      sent = post 4 (Info 3) ∷ [];
      unsolvable = false;
    }
    -- .. by the one that this refusal has just stored
    ∷ record {
      got = receive (self 3 3) (bans_from (own_ban 1 1 2 ∷ own_ban 2 1 2 ∷ []))
          (agent 1 (1 ∷ 2 ∷ []) (4 ∷ []) (1 ∷ 1 ∷ []) []) 4 (Back (values (0 ∷ 1 ∷ [])) 1);
      agent = agent 3 (1 ∷ 2 ∷ []) (4 ∷ []) (1 ∷ 1 ∷ []) (Some (values (0 ∷ 1 ∷ [])) ∷ Some (values (0 ∷ 1 ∷ [])) ∷ []);
      counts = counts (1 ∷ 0 ∷ 0 ∷ []) (0 ∷ 1 ∷ 0 ∷ []);
      sent = post 4 (Info 3) ∷ [];
      unsolvable = false;
    }
    -- A reason that this very news drops (value 3's, naming agents 2 and 3) names nobody: of agents 1 and 2, who bar value 2, the lower is blamed.
    ∷ record {
      got = receive (self 4 3) (bans_from (own_ban 3 2 1 ∷ own_ban 1 1 2 ∷ own_ban 2 1 2 ∷ []))
          (agent 1 (1 ∷ 2 ∷ 3 ∷ []) (5 ∷ []) (1 ∷ 1 ∷ 1 ∷ []) (None ∷ None ∷ Some (values (0 ∷ 1 ∷ 1 ∷ [])) ∷ [])) 3 (Info 2);
      agent =
          agent 3 (1 ∷ 2 ∷ 3 ∷ []) (5 ∷ []) (1 ∷ 1 ∷ 2 ∷ [])
          (Some (values (0 ∷ 0 ∷ 2 ∷ [])) ∷ Some (values (1 ∷ [])) ∷ []);
      counts = counts (1 ∷ 0 ∷ 0 ∷ []) (1 ∷ 0 ∷ 0 ∷ []);
      sent = post 5 (Info 3) ∷ [];
      unsolvable = false;
    }
    -- Each reason changes the next blame. Value 1: agent 3 alone. Value 2: of 2 and 3, agent 3 is named. So 2 is not, and of 1 and 2, for value 3, the lower
    -- is blamed. Value 4: of 1, 2 and 3, agents 1 and 3 are named, 1 the lower.
    ∷ record {
      got = receive (self 4 5)
          (bans_from
          (own_ban 3 1 1 ∷ own_ban 2 1 2 ∷ own_ban 3 1 2 ∷ own_ban 1 1 3 ∷ own_ban 2 1 3 ∷ own_ban 1 1 4 ∷ own_ban 2 1 4 ∷ own_ban 3 1 4 ∷ []))
          (agent 1 (1 ∷ 2 ∷ 3 ∷ []) (5 ∷ []) (1 ∷ 1 ∷ []) []) 3 (Info 1);
      agent =
          agent 5 (1 ∷ 2 ∷ 3 ∷ []) (5 ∷ []) (1 ∷ 1 ∷ 1 ∷ [])
          (Some (values (0 ∷ 0 ∷ 1 ∷ [])) ∷ Some (values (0 ∷ 0 ∷ 1 ∷ [])) ∷ Some (values (1 ∷ [])) ∷ Some (values (1 ∷ [])) ∷ []);
      counts = counts (1 ∷ 0 ∷ 0 ∷ []) (1 ∷ 0 ∷ 0 ∷ []);
      sent = post 5 (Info 5) ∷ [];
      unsolvable = false;
    }
    -- Both values blame agent 2, so that nobody else is in the refusal; blamed for value 2, agent 1 would be.
    ∷ record {
      got = receive (self 3 2) (bans_from (own_ban 2 1 1 ∷ own_ban 1 1 2 ∷ own_ban 2 1 2 ∷ [])) (agent 1 (1 ∷ 2 ∷ []) (4 ∷ []) (1 ∷ []) []) 2 (Info 1);
      agent = agent 1 (1 ∷ 2 ∷ []) (4 ∷ []) (1 ∷ []) [];
      counts = counts (1 ∷ 1 ∷ 0 ∷ []) (1 ∷ 0 ∷ 0 ∷ []);
      sent = post 2 (Back (values []) 1) ∷ post 4 (Info 1) ∷ [];
      unsolvable = false;
    }
    -- Backing up: the highest-numbered is refused, forgotten, and the reasons naming it dropped; then a value is free again.
    ∷ record {
      got = receive (self 3 2) bans3 (agent 2 (1 ∷ 2 ∷ []) (4 ∷ []) (1 ∷ []) (Some (values (1 ∷ [])) ∷ [])) 2 (Info 1);
      agent = agent 2 (1 ∷ 2 ∷ []) (4 ∷ []) (1 ∷ []) (Some (values (1 ∷ [])) ∷ []);
      counts = counts (1 ∷ 1 ∷ 0 ∷ []) (1 ∷ 0 ∷ 0 ∷ []);
      sent = post 2 (Back (values (1 ∷ [])) 1) ∷ post 4 (Info 2) ∷ [];
      unsolvable = false;
    }
    -- Backing up twice: with agent 2 forgotten agent 1 still bans both values.
    ∷ record {
      got = receive (self 3 2) bans_both (agent 1 (1 ∷ 2 ∷ []) (4 ∷ []) (0 ∷ 2 ∷ []) (None ∷ Some (values (0 ∷ 2 ∷ [])) ∷ [])) 1 (Info 1);
      agent = agent 1 (1 ∷ 2 ∷ []) (4 ∷ []) [] [];
      counts = counts (1 ∷ 2 ∷ 0 ∷ []) (1 ∷ 0 ∷ 0 ∷ []);
      sent = post 2 (Back (values (1 ∷ [])) 2) ∷ post 1 (Back (values []) 1) ∷ post 4 (Info 1) ∷ [];
      unsolvable = false;
    }
    -- A refusal that holds, its left side listened to: the reason is stored and the next value taken.
    ∷ record {
      got = receive (self 2 2) (bans_from []) (agent 1 (1 ∷ []) (3 ∷ 4 ∷ []) (2 ∷ []) []) 4 (Back (values (2 ∷ [])) 1);
      agent = agent 2 (1 ∷ []) (3 ∷ 4 ∷ []) (2 ∷ []) (Some (values (2 ∷ [])) ∷ []);
      counts = counts (2 ∷ 0 ∷ 0 ∷ []) (0 ∷ 1 ∷ 0 ∷ []);
      sent = post 3 (Info 2) ∷ post 4 (Info 2) ∷ [];
      unsolvable = false;
    }
    -- A refusal that holds, its left side not listened to: link requests upward first, then (P9's agent 2, round 2) the refusal to the same
    -- agent, then the old value told again.
    ∷ record {
      got = receive (self 2 1) (bans_from []) (agent 1 [] (3 ∷ []) [] []) 3 (Back (values (1 ∷ [])) 1);
      agent = agent 1 (1 ∷ []) (3 ∷ []) [] [];
      counts = counts (1 ∷ 1 ∷ 1 ∷ []) (0 ∷ 1 ∷ 0 ∷ []);
      sent = post 1 AddLink ∷ post 1 (Back (values []) 1) ∷ post 3 (Info 1) ∷ [];
      unsolvable = false;
    }
    -- A refusal that holds, of the only value: its left side is refused in turn, and the refuser, which has forgotten the value, is told it again.
    ∷ record {
      got = receive (self 2 1) (bans_from []) (agent 1 (1 ∷ []) (3 ∷ []) (1 ∷ []) []) 3 (Back (values (1 ∷ [])) 1);
      agent = agent 1 (1 ∷ []) (3 ∷ []) [] [];
      counts = counts (1 ∷ 1 ∷ 0 ∷ []) (0 ∷ 1 ∷ 0 ∷ []);
      sent = post 1 (Back (values []) 1) ∷ post 3 (Info 1) ∷ [];
      unsolvable = false;
    }
    -- Link requests go upward.
    ∷ record {
      got = receive (self 4 2) (bans_from []) (agent 1 (2 ∷ []) (5 ∷ []) (0 ∷ 3 ∷ []) []) 5 (Back (values (1 ∷ 3 ∷ 2 ∷ [])) 1);
      agent = agent 2 (1 ∷ 2 ∷ 3 ∷ []) (5 ∷ []) (1 ∷ 3 ∷ 2 ∷ []) (Some (values (1 ∷ 3 ∷ 2 ∷ [])) ∷ []);
      counts = counts (1 ∷ 0 ∷ 2 ∷ []) (0 ∷ 1 ∷ 0 ∷ []);
      sent = post 1 AddLink ∷ post 3 AddLink ∷ post 5 (Info 2) ∷ [];
      unsolvable = false;
    }
    -- A refusal with an empty left side is a stored reason too.
    ∷ record {
      got = receive (self 1 2) (bans_from []) (agent 1 [] (2 ∷ []) [] []) 2 (Back (values []) 1);
      agent = agent 2 [] (2 ∷ []) [] (Some (values []) ∷ []);
      counts = counts (1 ∷ 0 ∷ 0 ∷ []) (0 ∷ 1 ∷ 0 ∷ []);
      sent = post 2 (Info 2) ∷ [];
      unsolvable = false;
    }
    -- .. and where every value has one, the verdict: no value, the reasons and the last value taken remain, nothing is sent.
    ∷ record {
      got = receive (self 1 2) (bans_from []) (agent 2 [] (2 ∷ []) [] (Some (values []) ∷ [])) 2 (Back (values []) 2);
      agent = with_last (agent 0 [] (2 ∷ []) [] (Some (values []) ∷ Some (values []) ∷ [])) 2;
      counts = counts (0 ∷ 0 ∷ 0 ∷ []) (0 ∷ 1 ∷ 0 ∷ []);
      sent = [];
      unsolvable = true;
    }
    -- An outdated refusal of the own value: the view has another value, and the sender is told the own value again.
    ∷ record {
      got = receive (self 2 2) (bans_from []) (agent 1 (1 ∷ []) (3 ∷ []) (1 ∷ []) []) 3 (Back (values (2 ∷ [])) 1);
      agent = agent 1 (1 ∷ []) (3 ∷ []) (1 ∷ []) [];
      counts = counts (1 ∷ 0 ∷ 0 ∷ []) (0 ∷ 1 ∷ 0 ∷ []);
      sent = post 3 (Info 1) ∷ [];
      unsolvable = false;
    }
    -- Unknown does not match.
    ∷ record {
      got = receive (self 2 2) (bans_from []) (agent 1 (1 ∷ []) (3 ∷ []) [] []) 3 (Back (values (2 ∷ [])) 1);
      agent = agent 1 (1 ∷ []) (3 ∷ []) [] [];
      counts = counts (1 ∷ 0 ∷ 0 ∷ []) (0 ∷ 1 ∷ 0 ∷ []);
      sent = post 3 (Info 1) ∷ [];
      unsolvable = false;
    }
    -- An outdated refusal of another value: nothing.
    ∷ record {
      got = receive (self 2 2) (bans_from []) (agent 2 (1 ∷ []) (3 ∷ []) (1 ∷ []) []) 3 (Back (values (1 ∷ [])) 1);
      agent = agent 2 (1 ∷ []) (3 ∷ []) (1 ∷ []) [];
      counts = counts (0 ∷ 0 ∷ 0 ∷ []) (0 ∷ 1 ∷ 0 ∷ []);
      sent = [];
      unsolvable = false;
    }
    -- A link request: the sender is informed from now on.
    ∷ record {
      got = receive (self 1 2) (bans_from []) (agent 2 [] (3 ∷ []) [] []) 2 AddLink;
      agent = agent 2 [] (2 ∷ 3 ∷ []) [] [];
      counts = counts (1 ∷ 0 ∷ 0 ∷ []) (0 ∷ 0 ∷ 1 ∷ []);
      sent = post 2 (Info 2) ∷ [];
      unsolvable = false;
    }
    -- Counts go on from what they were. One below the top, a count reaches it.
    ∷ record {
      got = receive (self 1 2) (bans_from [])
          (with_counts (agent 2 [] (3 ∷ []) [] []) (counts (18446744073709551614 ∷ 7 ∷ 6 ∷ []) (5 ∷ 4 ∷ 18446744073709551613 ∷ []))) 2 AddLink;
      agent = agent 2 [] (2 ∷ 3 ∷ []) [] [];
      counts = counts (18446744073709551615 ∷ 7 ∷ 6 ∷ []) (5 ∷ 4 ∷ 18446744073709551614 ∷ []);
      sent = post 2 (Info 2) ∷ [];
      unsolvable = false;
    }
    -- At the top it stays, what is sent and what is received alike; and two at once stop there.
    ∷ record {
      got = receive (self 2 2) (bans_from [])
          (with_counts (agent 1 (1 ∷ []) (3 ∷ 4 ∷ []) (2 ∷ []) []) (counts (18446744073709551614 ∷ 0 ∷ 1 ∷ []) (0 ∷ 18446744073709551615 ∷ 0 ∷ [])))
          4 (Back (values (2 ∷ [])) 1);
      agent = agent 2 (1 ∷ []) (3 ∷ 4 ∷ []) (2 ∷ []) (Some (values (2 ∷ [])) ∷ []);
      counts = counts (18446744073709551615 ∷ 0 ∷ 1 ∷ []) (0 ∷ 18446744073709551615 ∷ 0 ∷ []);
      sent = post 3 (Info 2) ∷ post 4 (Info 2) ∷ [];
      unsolvable = false;
    }
    ∷ record {
      got = receive (self 2 2) (bans_from [])
          (with_counts (agent 1 (1 ∷ []) (3 ∷ []) (1 ∷ []) []) (counts (18446744073709551615 ∷ 2 ∷ 0 ∷ []) (0 ∷ 18446744073709551614 ∷ 3 ∷ [])))
          3 (Back (values (2 ∷ [])) 1);
      agent = agent 1 (1 ∷ []) (3 ∷ []) (1 ∷ []) [];
      counts = counts (18446744073709551615 ∷ 2 ∷ 0 ∷ []) (0 ∷ 18446744073709551615 ∷ 3 ∷ []);
      sent = post 3 (Info 1) ∷ [];
      unsolvable = false;
    }
    -- Rule 2. The slot taken is not the last one: all informed are told, the refuser among them, once.
    ∷ record {
      got = receive (quiet_self 2 2) (bans_from []) (agent 1 (1 ∷ []) (3 ∷ 4 ∷ []) (2 ∷ []) []) 4 (Back (values (2 ∷ [])) 1);
      agent = agent 2 (1 ∷ []) (3 ∷ 4 ∷ []) (2 ∷ []) (Some (values (2 ∷ [])) ∷ []);
      counts = counts (2 ∷ 0 ∷ 0 ∷ []) (0 ∷ 1 ∷ 0 ∷ []);
      sent = post 3 (Info 2) ∷ post 4 (Info 2) ∷ [];
      unsolvable = false;
    }
    -- Rule 2. A refusal that holds, of the only value: backing up ends in the last slot taken, and of the informed the refuser alone is told.
    ∷ record {
      got = receive (quiet_self 2 1) (bans_from []) (agent 1 [] (3 ∷ 4 ∷ []) [] []) 3 (Back (values (1 ∷ [])) 1);
      agent = agent 1 (1 ∷ []) (3 ∷ 4 ∷ []) [] [];
      counts = counts (1 ∷ 1 ∷ 1 ∷ []) (0 ∷ 1 ∷ 0 ∷ []);
      sent = post 1 AddLink ∷ post 1 (Back (values []) 1) ∷ post 3 (Info 1) ∷ [];
      unsolvable = false;
    }
    -- Rule 2. A refuser that is not informed (on no rail that a start leads to) is told all the same, whether the slot is the old one or a new one.
    ∷ record {
      got = receive (quiet_self 2 1) (bans_from []) (agent 1 (1 ∷ []) (4 ∷ []) (1 ∷ []) []) 3 (Back (values (1 ∷ [])) 1);
      agent = agent 1 (1 ∷ []) (4 ∷ []) [] [];
      counts = counts (1 ∷ 1 ∷ 0 ∷ []) (0 ∷ 1 ∷ 0 ∷ []);
      sent = post 1 (Back (values []) 1) ∷ post 3 (Info 1) ∷ [];
      unsolvable = false;
    }
    ∷ record {
      got = receive (quiet_self 2 2) (bans_from []) (agent 1 (1 ∷ []) (3 ∷ 5 ∷ []) (2 ∷ []) []) 4 (Back (values (2 ∷ [])) 1);
      agent = agent 2 (1 ∷ []) (3 ∷ 5 ∷ []) (2 ∷ []) (Some (values (2 ∷ [])) ∷ []);
      counts = counts (3 ∷ 0 ∷ 0 ∷ []) (0 ∷ 1 ∷ 0 ∷ []);
      sent = post 3 (Info 2) ∷ post 4 (Info 2) ∷ post 5 (Info 2) ∷ [];
      unsolvable = false;
    }
    -- Rule 1 tells it nothing there: news goes to the informed.
    ∷ record {
      got = receive (self 2 2) (bans_from []) (agent 1 (1 ∷ []) (3 ∷ 5 ∷ []) (2 ∷ []) []) 4 (Back (values (2 ∷ [])) 1);
      agent = agent 2 (1 ∷ []) (3 ∷ 5 ∷ []) (2 ∷ []) (Some (values (2 ∷ [])) ∷ []);
      counts = counts (2 ∷ 0 ∷ 0 ∷ []) (0 ∷ 1 ∷ 0 ∷ []);
      sent = post 3 (Info 2) ∷ post 5 (Info 2) ∷ [];
      unsolvable = false;
    }
    -- News bans the own value, the only one: the agent backs up and takes it again. Rule 2 keeps silent, rule 1 tells it.
    ∷ record {
      got = receive (quiet_self 2 1) (bans_from (own_ban 1 1 1 ∷ [])) (agent 1 (1 ∷ []) (3 ∷ []) [] []) 1 (Info 1);
      agent = agent 1 (1 ∷ []) (3 ∷ []) [] [];
      counts = counts (0 ∷ 1 ∷ 0 ∷ []) (1 ∷ 0 ∷ 0 ∷ []);
      sent = post 1 (Back (values []) 1) ∷ [];
      unsolvable = false;
    }
    ∷ record {
      got = receive (self 2 1) (bans_from (own_ban 1 1 1 ∷ [])) (agent 1 (1 ∷ []) (3 ∷ []) [] []) 1 (Info 1);
      agent = agent 1 (1 ∷ []) (3 ∷ []) [] [];
      counts = counts (1 ∷ 1 ∷ 0 ∷ []) (1 ∷ 0 ∷ 0 ∷ []);
      sent = post 1 (Back (values []) 1) ∷ post 3 (Info 1) ∷ [];
      unsolvable = false;
    }
    -- Rule 2. News bans the own value, and another is free: it is not the last one taken, and is told.
    ∷ record {
      got = receive (quiet_self 2 2) (bans_from (own_ban 1 1 1 ∷ [])) (agent 1 (1 ∷ []) (3 ∷ []) [] []) 1 (Info 1);
      agent = agent 2 (1 ∷ []) (3 ∷ []) (1 ∷ []) (Some (values (1 ∷ [])) ∷ []);
      counts = counts (1 ∷ 0 ∷ 0 ∷ []) (1 ∷ 0 ∷ 0 ∷ []);
      sent = post 3 (Info 2) ∷ [];
      unsolvable = false;
    }
    -- Rule 2. Outdated refusals and link requests are answered as under rule 1.
    ∷ record {
      got = receive (quiet_self 2 2) (bans_from []) (agent 1 (1 ∷ []) (3 ∷ []) (1 ∷ []) []) 3 (Back (values (2 ∷ [])) 1);
      agent = agent 1 (1 ∷ []) (3 ∷ []) (1 ∷ []) [];
      counts = counts (1 ∷ 0 ∷ 0 ∷ []) (0 ∷ 1 ∷ 0 ∷ []);
      sent = post 3 (Info 1) ∷ [];
      unsolvable = false;
    }
    ∷ record {
      got = receive (quiet_self 1 2) (bans_from []) (agent 2 [] (3 ∷ []) [] []) 2 AddLink;
      agent = agent 2 [] (2 ∷ 3 ∷ []) [] [];
      counts = counts (1 ∷ 0 ∷ 0 ∷ []) (0 ∷ 0 ∷ 1 ∷ []);
      sent = post 2 (Info 2) ∷ [];
      unsolvable = false;
    }
    -- Rule 2. At the start nobody has taken a slot, and all informed are told.
    ∷ record {
      got = begin (quiet_self 2 2) (bans_from []) (member (1 ∷ [])) (member (3 ∷ 5 ∷ []));
      agent = agent 1 (1 ∷ []) (3 ∷ 5 ∷ []) [] [];
      counts = counts (2 ∷ 0 ∷ 0 ∷ []) (0 ∷ 0 ∷ 0 ∷ []);
      sent = post 3 (Info 1) ∷ post 5 (Info 1) ∷ [];
      unsolvable = false;
    }
    ∷ []
