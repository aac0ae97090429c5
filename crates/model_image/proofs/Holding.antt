-- A plain network in shape holds nothing that its image would lose: no agent but 1 to 12 is named, counts have 64 bits, lines at most eight messages.
-- The shape rules out the names 13 to 16, and plainness all others.
use Rattle.std.proofs.Common.{None, Some, ℕ, ◌^◌, ◌≤◌, ◌<◌, ◌≡◌, sym, subst, ◌∙◌, Bool, true, false, not, ◌&&◌, arith, eqb, ltb, leb, eqb-true, ltb-true, leb-true, le-leb}
use mathlib.Core.Path.{fun_ext}
use mathlib.Core.Bool.{false≢true}
use borrow.Author.Tests.{lt-leb}
use Rattle.model_base.specs.Finite.{within, all_to, every, is_some}
use Rattle.model_base.specs.Lists.{All}
use Rattle.model_base.proofs.Tests.{test, no-some, is_some-false, not-true, both, implied, within-true, above_within}
use Rattle.model_base.proofs.Search.{all_to-at}
use Rattle.model_base.proofs.Lists.{All-both, All-map, every-all}
use Rattle.model_sheet.specs.Problem.{max_agents, max_domain, owns}
use Rattle.model_agent.specs.Message.{Assignment, known, nobody, Message, Info, Back, AddLink}
use Rattle.model_agent.specs.Traffic.{Sort, no_counts, top, each_count}
use Rattle.model_agent.specs.Agent.{Agent, no_nogoods, unused_agent}
use Rattle.model_agent.specs.Shape.{max_named}
use Rattle.model_agent.specs.Plain.{PlainLhs, PlainReason, PlainAgent, PlainMessage}
use Rattle.model_agent.proofs.Assignments.{unknown-zero}
use Rattle.model_agent.proofs.Traffic.{each-count}
use Rattle.model_network.specs.Network.{Network}
use Rattle.model_network.specs.Shape.{
  each_named,
  each_in,
  holds_value,
  last_fits,
  listens_upward,
  informs_downward,
  linked_listen,
  informed_listen,
  view_listened,
  nogood_fits,
  nogoods_fit,
  counts_fit,
  unused,
  agent_in_shape,
  lhs_fits,
  message_fits,
  has_room,
  one_request,
  channel_in_shape,
}
use Rattle.model_image.proofs.Agents.{OnlyAgents, Held}
use Rattle.model_image.proofs.Messages.{HeldMessage, HeldLine}

-- ---- names

-- a number that cannot pass is not in the set
not_in : (s p : ℕ → Bool) (k : ℕ) → each_in s p ≡ true → (within max_named k ≡ false → s k ≡ false) → (1 ≤ k → p k ≡ true → s k ≡ false)
    → s k ≡ false
unfolding each_in
not_in s p k e plain out =
    test (within max_named k)
    (λ n. let b = within-true max_named k n in
    test (s k) (λ h. out b.0 (implied (s k) (p k) (all_to-at max_named _ e k b.0 b.1) h)) (λ h. h))
    plain

-- an agent that is named passes, and any other has the value 0
pub if-named : {C : Type 0} (l : Assignment) (p : ℕ → ℕ → Bool) (k : ℕ) → each_named l p ≡ true → PlainLhs l → (l k ≡ 0 → C)
    → (1 ≤ k → p k (l k) ≡ true → C) → C
unfolding each_named
if-named l p k e plain zero out =
    test (within max_named k)
    (λ n. let b = within-true max_named k n in
    test (known (l k))
    (λ h. out b.0 (implied (known (l k)) (p k (l k)) (all_to-at max_named _ e k b.0 b.1) h))
    (λ h. zero (unknown-zero (l k) h)))
    (λ n. zero (plain k n))

not_named : (l : Assignment) (p : ℕ → ℕ → Bool) (k : ℕ) → each_named l p ≡ true → PlainLhs l → (1 ≤ k → p k (l k) ≡ true → l k ≡ 0) → l k ≡ 0
not_named l p k e plain out = if-named l p k e plain (λ z. z) out

-- ---- an agent of 1 to n

module _ (w : Network) (i : ℕ) (low : i ≤ max_agents) (most : w.problem.count ≤ max_agents) (plain : PlainAgent (w.agents i)) where
  listens-held : listens_upward w i ≡ true → (k : ℕ) → within max_agents k ≡ false → (w.agents i).listens k ≡ false
  unfolding listens_upward
  listens-held e k o = not_in _ _ k e (plain.listens k) (λ l t. absurd (omega (arith, above_within max_agents k o l, ltb-true k i t)))

  informs-held : informs_downward w i ≡ true → (k : ℕ) → within max_agents k ≡ false → (w.agents i).informs k ≡ false
  unfolding informs_downward
  informs-held e k o =
      not_in _ _ k e (plain.informs k)
      (λ l t. absurd (omega (arith, above_within max_agents k o l, leb-true k w.problem.count (both (ltb i k) _ t).1)))

  view-held : view_listened w i ≡ true → listens_upward w i ≡ true → OnlyAgents (w.agents i).view
  unfolding view_listened
  view-held e up k o =
      not_named _ _ k e plain.view
      (λ l t. absurd (false≢true (sym (listens-held up k o) ∙ (both ((w.agents i).listens k) _ t).0)))

  reason-held : view_listened w i ≡ true → listens_upward w i ≡ true → nogoods_fit w i ≡ true
      → (v : ℕ) (lhs : Assignment) → (w.agents i).nogoods v ≡ Some lhs → OnlyAgents lhs
  unfolding nogoods_fit nogood_fits
  reason-held seen up e v lhs q k o =
      test (within max_domain v)
      (λ h.
      let b = within-true max_domain v h in
      let fits = rw q at (all_to-at max_domain _ e v b.0 b.1) in
      not_named lhs _ k (both (owns w.problem i v) _ fits).1 (subst PlainReason q (plain.reasons v))
      (λ l t. eqb-true (lhs k) _ t ∙ view-held seen up k o))
      (λ h. no-some (sym (plain.nogoods v h) ∙ q))

  count_held : counts_fit w i ≡ true → (x : Sort) → ((w.agents i).counts.sent x < 256 ^ 8) × ((w.agents i).counts.received x < 256 ^ 8)
  unfolding counts_fit top
  count_held e x =
      let c = (w.agents i).counts in
      let b = each-count c (λ y. leb y top) e x in
      (omega (arith, leb-true (c.sent x) top b.0), omega (arith, leb-true (c.received x) top b.1))

  pub agent-held : agent_in_shape w i ≡ true → i ≤ w.problem.count → Held (w.agents i)
  unfolding agent_in_shape
  agent-held e u =
      let counts = both _ (counts_fit w i) (rw (le-leb i w.problem.count u, agent_in_shape) at e) in
      let nogoods = both _ (nogoods_fit w i) counts.0 in
      let view = both _ (view_listened w i) nogoods.0 in
      let informed = both _ (informed_listen w i) view.0 in
      let linked = both _ (linked_listen w i) informed.0 in
      let down = both _ (informs_downward w i) linked.0 in
      let up = both (holds_value w i && last_fits w i) (listens_upward w i) down.0 in
      record {
        listens = listens-held up.1;
        informs = informs-held down.1;
        view = view-held view.1 up.1;
        nogoods = plain.nogoods;
        reasons = reason-held view.1 up.1 nogoods.1;
        sent = λ x. (count_held counts.1 x).0;
        received = λ x. (count_held counts.1 x).1;
      }

-- ---- an agent beyond n

pub unused-is : (a : Agent) → PlainAgent a → unused a ≡ true → a ≡ unused_agent
unfolding unused unused_agent no_nogoods no_counts nobody
unused-is a plain e =
    let counts = both _ (each_count a.counts (λ c. eqb c 0)) e in
    let nogoods = both _ (all_to max_domain (λ v. not (is_some (a.nogoods v)))) counts.0 in
    let view = both _ (each_named a.view (λ k v. false)) nogoods.0 in
    let informs = both _ (each_in a.informs (λ k. false)) view.0 in
    let listens = both _ (each_in a.listens (λ k. false)) informs.0 in
    let held = both (eqb a.value 0) (eqb a.last 0) listens.0 in
    λ i.
    record {
      value = eqb-true a.value 0 held.0 i;
      last = eqb-true a.last 0 held.1 i;
      listens = fun_ext {f = a.listens} {g = λ k. false} (λ k. not_in _ _ k listens.1 (plain.listens k) (λ l t. absurd (false≢true t))) i;
      informs = fun_ext {f = a.informs} {g = λ k. false} (λ k. not_in _ _ k informs.1 (plain.informs k) (λ l t. absurd (false≢true t))) i;
      view = fun_ext {f = a.view} {g = λ k. 0} (λ k. not_named _ _ k view.1 plain.view (λ l t. absurd (false≢true t))) i;
      nogoods = fun_ext {f = a.nogoods} {g = λ v. None} (no-reason nogoods.1) i;
      counts = record {
        sent = fun_ext {f = a.counts.sent} {g = λ x. 0} (λ x. eqb-true _ 0 (each-count a.counts _ counts.1 x).0) i;
        received = fun_ext {f = a.counts.received} {g = λ x. 0} (λ x. eqb-true _ 0 (each-count a.counts _ counts.1 x).1) i;
      };
    }
  where
    no-reason : all_to max_domain (λ v. not (is_some (a.nogoods v))) ≡ true → (v : ℕ) → a.nogoods v ≡ None
    no-reason h v =
        test (within max_domain v)
        (λ t. let b = within-true max_domain v t in is_some-false _ (not-true _ (all_to-at max_domain _ h v b.0 b.1)))
        (plain.nogoods v)

pub beyond-unused : (w : Network) (i : ℕ) → PlainAgent (w.agents i) → agent_in_shape w i ≡ true → w.problem.count < i → w.agents i ≡ unused_agent
unfolding agent_in_shape
beyond-unused w i plain e u = unused-is (w.agents i) plain (rw (lt-leb i w.problem.count u, agent_in_shape) at e)

-- ---- a line

message-held : (w : Network) (i j : ℕ) (m : Message) → j ≤ max_agents → message_fits w i j m ≡ true → PlainMessage m → HeldMessage m
unfolding message_fits lhs_fits
message-held w i j (Info v) most e plain = tt
message-held w i j (Back lhs v) most e plain =
    let b = both (ltb j i && owns w.problem j v && (w.agents i).listens j) (lhs_fits w.problem j lhs) e in
    λ k o. not_named lhs _ k b.1 plain (λ l t. absurd (omega (arith, above_within max_agents k o l, ltb-true k j (both (ltb k j) _ t).0)))
message-held w i j AddLink most e plain = tt

pub line-held : (w : Network) (i j : ℕ) → j ≤ max_agents → channel_in_shape w i j ≡ true → All PlainMessage (w.channel i j) → HeldLine (w.channel i j)
unfolding channel_in_shape has_room
line-held w i j most e plain =
    let b = both (has_room w i j && one_request w i j) (every (message_fits w i j) (w.channel i j)) e in
    let fits = every-all (message_fits w i j) (w.channel i j) b.1 in
    record {
      few = leb-true _ _ (both (has_room w i j) (one_request w i j) b.0).0;
      messages = All-map _ HeldMessage (λ m h. message-held w i j m most h.0 h.1) (w.channel i j)
          (All-both (λ m. message_fits w i j m ≡ true) PlainMessage (w.channel i j) fits plain);
    }
