-- A plain network in shape is held as it is: every slot that it names is owned, and at most 8.
use Rattle.std.proofs.Common.{None, Option, Some, ℕ, ◌%◌, ◌≤◌, ◌<◌, ◌≡◌, refl, sym, ap, ap₂, subst, ◌∙◌, Bool, true, ◌&&◌, List, [], ◌∷◌, map, arith, ltb, leb, eqb-true, leb-true, leb-false, le-leb}
use mathlib.Core.Path.{fun_ext}
use Rattle.model_base.specs.Finite.{within, every}
use Rattle.model_base.specs.Lists.{All}
use Rattle.model_base.proofs.Tests.{test, no-some, both, implied, within-true}
use Rattle.model_base.proofs.Search.{all_to-at}
use Rattle.model_base.proofs.Lists.{every-all}
use Rattle.model_sheet.specs.Problem.{Problem, max_agents, max_domain, domain, owns}
use Rattle.model_sheet.proofs.Range.{Ranged, domain-small}
use Rattle.model_agent.specs.Message.{Assignment, known, Message, Info, Back, AddLink}
use Rattle.model_agent.specs.Shape.{max_named}
use Rattle.model_agent.proofs.Assignments.{unknown-zero}
use Rattle.model_network.specs.Lines.{is_channel}
use Rattle.model_network.specs.Network.{Network}
use Rattle.model_network.specs.Shape.{
  each_named,
  holds_value,
  last_fits,
  listens_upward,
  informs_downward,
  linked_listen,
  informed_listen,
  view_listened,
  nogood_fits,
  nogoods_fit,
  counts_fit,
  agent_in_shape,
  lhs_fits,
  message_fits,
  has_room,
  one_request,
  channel_in_shape,
  in_shape,
}
use Rattle.model_agent.specs.Plain.{PlainLhs, PlainReason, PlainAgent, PlainMessage}
use Rattle.model_image.specs.Plain.{Plain}
use Rattle.model_image.proofs.Parsing.{Parts, parts}
use Rattle.model_image.proofs.Holding.{beyond-unused}
use Rattle.abt_image_reader.specs.Narrow.{narrow_lhs, narrow_reason, narrow_message, narrow_agent, narrow}
use Rattle.abt_image_reader.proofs.Filled.{narrow-unused}

-- ---- slots

small-kept : (l : Assignment) → ((k : ℕ) → l k < 16) → narrow_lhs l ≡ l
unfolding narrow_lhs
small-kept l h = fun_ext λ k. below (l k) (h k)
  where
    below : (v : ℕ) → v < 16 → v % 16 ≡ v
    below v u = omega arith

-- each slot that is named passes a test that only small ones pass
named_small : (l : Assignment) (p : ℕ → ℕ → Bool) → each_named l p ≡ true → PlainLhs l → ((k v : ℕ) → p k v ≡ true → v < 16) → (k : ℕ) → l k < 16
unfolding each_named
named_small l p e plain small k =
    test (within max_named k)
    (λ n.
    let b = within-true max_named k n in
    test (known (l k))
    (λ h. small k (l k) (implied (known (l k)) (p k (l k)) (all_to-at max_named _ e k b.0 b.1) h))
    (λ h. omega (arith, unknown-zero (l k) h)))
    (λ n. omega (arith, plain k n))

-- a slot that somebody owns
owned-small : (p : Problem) → Ranged p → (i v : ℕ) → owns p i v ≡ true → v < 16
unfolding owns max_domain
owned-small p r i v e = omega (arith, (within-true (domain p i) v e).1, domain-small p r i)

-- ---- an agent

module _ (w : Network) (r : Ranged w.problem) (i : ℕ) (plain : PlainAgent (w.agents i)) where
  view-small : view_listened w i ≡ true → (k : ℕ) → (w.agents i).view k < 16
  unfolding view_listened
  view-small e = named_small _ _ e plain.view (λ k v t. owned-small w.problem r k v (both ((w.agents i).listens k) _ t).1)

  reason_kept : view_listened w i ≡ true → nogoods_fit w i ≡ true → (v : ℕ) (o : Option Assignment) → (w.agents i).nogoods v ≡ o → narrow_reason o ≡ o
  unfolding narrow_reason nogoods_fit nogood_fits
  reason_kept seen e v None q = refl
  reason_kept seen e v (Some lhs) q =
      test (within max_domain v)
      (λ h.
      let b = within-true max_domain v h in
      let fits = rw q at (all_to-at max_domain _ e v b.0 b.1) in
      ap Some (small-kept lhs (named_small lhs _ (both (owns w.problem i v) _ fits).1 (subst PlainReason q (plain.reasons v))
      (λ k u t. omega (arith, eqb-true u _ t, view-small seen k)))))
      (λ h. no-some (sym (plain.nogoods v h) ∙ q))

  agent-kept : agent_in_shape w i ≡ true → i ≤ w.problem.count → narrow_agent (w.agents i) ≡ w.agents i
  unfolding agent_in_shape narrow_agent
  agent-kept e u =
      let counts = both _ (counts_fit w i) (rw (le-leb i w.problem.count u, agent_in_shape) at e) in
      let nogoods = both _ (nogoods_fit w i) counts.0 in
      let links = holds_value w i && last_fits w i && listens_upward w i && informs_downward w i && linked_listen w i && informed_listen w i in
      let view = both links (view_listened w i) nogoods.0 in
      let a = w.agents i in
      λ x.
      record {
        value = a.value;
        last = a.last;
        listens = a.listens;
        informs = a.informs;
        view = small-kept a.view (view-small view.1) x;
        nogoods = fun_ext (λ v. reason_kept view.1 nogoods.1 v (a.nogoods v) refl) x;
        counts = a.counts;
      }

-- ---- a line

message-kept : (w : Network) → Ranged w.problem → (i j : ℕ) (m : Message) → message_fits w i j m ≡ true → PlainMessage m → narrow_message m ≡ m
unfolding narrow_message message_fits lhs_fits
message-kept w r i j (Info v) e plain = refl
message-kept w r i j (Back lhs v) e plain =
    let b = both (ltb j i && owns w.problem j v && (w.agents i).listens j) (lhs_fits w.problem j lhs) e in
    ap (λ (l : Assignment). Back l v)
    (small-kept lhs (named_small lhs _ b.1 plain (λ k u t. owned-small w.problem r k u (both (ltb k j) _ t).1)))
message-kept w r i j AddLink e plain = refl

line_kept : (w : Network) → Ranged w.problem → (i j : ℕ) (l : List Message) → All (λ m. message_fits w i j m ≡ true) l → All PlainMessage l
    → map narrow_message l ≡ l
line_kept w r i j [] h plain = refl
line_kept w r i j (m ∷ ms) h plain =
    ap₂ (λ (x : Message) (xs : List Message). x ∷ xs) (message-kept w r i j m h.0 plain.0) (line_kept w r i j ms h.1 plain.1)

-- ---- the whole

module _ (w : Network) (plain : Plain w) (p : Parts w) where
  agents-kept : (i : ℕ) → narrow_agent (w.agents i) ≡ w.agents i
  agents-kept i =
      test (within max_agents i)
      (λ e. test (leb i w.problem.count)
      (λ t. agent-kept w p.problem i (plain.agents i) (p.agents i e) (leb-true i w.problem.count t))
      (λ t. let q = beyond-unused w i (plain.agents i) (p.agents i e) (leb-false i w.problem.count t) in ap narrow_agent q ∙ narrow-unused ∙ sym q))
      (λ e. let q = plain.others i e in ap narrow_agent q ∙ narrow-unused ∙ sym q)

  lines-kept : (i j : ℕ) → map narrow_message (w.channel i j) ≡ w.channel i j
  unfolding is_channel channel_in_shape
  lines-kept i j =
      test (is_channel i j)
      (λ e.
      let b = both (within max_agents i) (within max_agents j) (both (within max_agents i && within max_agents j) _ e).0 in
      let fits = (both (has_room w i j && one_request w i j) (every (message_fits w i j) (w.channel i j)) (p.channels i j b.0 b.1)).1 in
      line_kept w p.problem i j (w.channel i j) (every-all (message_fits w i j) (w.channel i j) fits) (plain.messages i j))
      (λ e. rw (plain.channels i j e))

pub shaped-kept : (w : Network) → Plain w → in_shape w ≡ true → narrow w ≡ w
unfolding narrow
shaped-kept w plain e =
    let p = parts w e in
    λ x.
    record {
      problem = w.problem;
      rule = w.rule;
      unsolvable = w.unsolvable;
      agents = fun_ext (agents-kept w plain p) x;
      channel = fun_ext (λ i. fun_ext (lines-kept w plain p i)) x;
    }
