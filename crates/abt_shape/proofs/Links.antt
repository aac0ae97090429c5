-- What is asked of the agents' links, asked of each agent of those above it: over all agents it comes to the same.
-- Whoever is informed listens: the definition asks the agent that informs, the code the one that is informed, which stands below it and up to n.
use Rattle.std.proofs.Common.{ℕ, pred, ◌≤◌, ◌<◌, ◌≡◌, refl, sym, ◌∙◌, Bool, true, false, not, cond, ◌&&◌, ◌||◌, arith, ltb, leb, le-leb, leb-true, leb-false, ltb-true}
use mathlib.Core.Bool.{false≢true}
use borrow.Author.Tests.{lt-leb}
use Rattle.model_base.specs.Finite.{all_to}
use Rattle.model_base.proofs.Tests.{test, both, implied, to-implied}
use Rattle.model_base.proofs.Search.{all_to-at, to-all_to}
use Rattle.model_base.proofs.Peeling.{same_test}
use Rattle.model_sheet.specs.Problem.{max_agents, linked}
use Rattle.model_agent.specs.Shape.{max_named}
use Rattle.model_network.specs.Network.{Network as Network'}
use Rattle.model_network.specs.Shape.{each_in, holds_value, last_fits, listens_upward, informs_downward, linked_listen, informed_listen, view_listened, nogoods_fit, counts_fit, unused, agent_in_shape}
use Rattle.abt_shape.specs.Parts.{heard, links_in_shape, holds_in_shape, agent_passes}

pub passes-beyond : (w : Network') (i : ℕ) → w.problem.count < i → agent_passes w i ≡ unused (w.agents i)
unfolding agent_passes
passes-beyond w i h = rw (lt-leb i w.problem.count h, agent_passes)

pub passes-within : (w : Network') (i : ℕ) → i ≤ w.problem.count → agent_passes w i ≡ links_in_shape w i && holds_in_shape w i
unfolding agent_passes
passes-within w i h = rw (le-leb i w.problem.count h, agent_passes)

beyond : (w : Network') (i : ℕ) → w.problem.count < i → agent_in_shape w i ≡ unused (w.agents i)
unfolding agent_in_shape
beyond w i h = rw (lt-leb i w.problem.count h, agent_in_shape)

-- the conjuncts of either

three : (a b c : Bool) → a && b && c ≡ true → (a ≡ true) × (b ≡ true) × (c ≡ true)
three a b c t = let (p, k) = both (a && b) c t in let (i, j) = both a b p in (i, j, k)

four : (a b c d : Bool) → a && b && c && d ≡ true → (a ≡ true) × (b ≡ true) × (c ≡ true) × (d ≡ true)
four a b c d t = let (p, j, k) = three (a && b) c d t in let (x, y) = both a b p in (x, y, j, k)

five : (a b c d e : Bool) → a && b && c && d && e ≡ true → (a ≡ true) × (b ≡ true) × (c ≡ true) × (d ≡ true) × (e ≡ true)
five a b c d e t = let (p, k) = both (a && b && c && d) e t in let (x, y, i, j) = four a b c d p in (x, y, i, j, k)

nine : (a b c d e f g h i : Bool) → a && b && c && d && e && f && g && h && i ≡ true
    → (a ≡ true) × (b ≡ true) × (c ≡ true) × (d ≡ true) × (e ≡ true) × (f ≡ true) × (g ≡ true) × (h ≡ true) × (i ≡ true)
nine a b c d e f g h i t =
    let (p, k, l, m, n) = five (a && b && c && d && e) f g h i t in
    let (x, y, z, q, j) = five a b c d e p in (x, y, z, q, j, k, l, m, n)

-- of an agent within n, either way
record AgentConfig (w : Network') (i : ℕ) : Type 0 where
  up : listens_upward w i ≡ true
  down : informs_downward w i ≡ true
  holds : holds_in_shape w i ≡ true

module _ (w : Network') (i : ℕ) (h : i ≤ w.problem.count) where
  asked : agent_in_shape w i ≡ true → AgentConfig w i × (linked_listen w i ≡ true) × (informed_listen w i ≡ true)
  unfolding agent_in_shape holds_in_shape
  asked e =
      let (value, last, up, down, linking, informed, view, nogoods, counts) =
      nine (holds_value w i) (last_fits w i) (listens_upward w i) (informs_downward w i) (linked_listen w i) (informed_listen w i) (view_listened w i)
      (nogoods_fit w i) (counts_fit w i) (rw (le-leb i w.problem.count h, agent_in_shape) at e) in
      (record { up = up; down = down; holds = rw (value, last, view, nogoods, counts) }, linking, informed)

  to-asked : AgentConfig w i → linked_listen w i ≡ true → informed_listen w i ≡ true → agent_in_shape w i ≡ true
  unfolding agent_in_shape holds_in_shape
  to-asked o l f =
      let (value, last, view, nogoods, counts) =
      five (holds_value w i) (last_fits w i) (view_listened w i) (nogoods_fit w i) (counts_fit w i) o.holds in
      rw (le-leb i w.problem.count h, agent_in_shape, value, last, o.up, o.down, l, f, view, nogoods, counts)

  passed : agent_passes w i ≡ true → AgentConfig w i × (heard w i ≡ true)
  unfolding links_in_shape
  passed e =
      let (a, holds) = both (links_in_shape w i) (holds_in_shape w i) (sym (passes-within w i h) ∙ e) in
      let (up, down, hears) = three (listens_upward w i) (informs_downward w i) (heard w i) a in
      (record { up = up; down = down; holds = holds }, hears)

  to-passed : AgentConfig w i → heard w i ≡ true → agent_passes w i ≡ true
  unfolding links_in_shape
  to-passed o e = passes-within w i h ∙ rw (o.up, o.down, e, o.holds)

-- one agent above, as either asks
hears : (informs listens linked : Bool) → (informs ≡ true → listens ≡ true) → not linked || (listens && informs) ≡ true
    → cond informs listens (not linked) ≡ true
hears true l k f e = f refl
hears false true true f e = e
hears false false true f e = e
hears false l false f e = refl

links : (informs listens linked : Bool) → cond informs listens (not linked) ≡ true → not linked || (listens && informs) ≡ true
links true l true e = rw e
links true l false e = refl
links false l true e = absurd (false≢true e)
links false l false e = refl

module _ (w : Network') (few : w.problem.count ≤ 12) where
  there : all_to 12 (agent_in_shape w) ≡ true → (i : ℕ) → 1 ≤ i → i ≤ 12 → agent_passes w i ≡ true
  unfolding heard linked_listen informed_listen each_in max_named
  there t i a b =
      test (leb i w.problem.count)
      (λ l. let (o, k, _) = asked w i (leb-true i w.problem.count l) (all_to-at 12 (agent_in_shape w) t i a b) in
      to-passed w i (leb-true i w.problem.count l) o
      (to-all_to (pred i) _ (λ x c d.
      hears ((w.agents x).informs i) ((w.agents i).listens x) (linked w.problem x i)
      (λ e. implied ((w.agents x).informs i) ((w.agents i).listens x)
      (all_to-at 16 (λ y. not ((w.agents x).informs y) || (w.agents y).listens x)
      (asked w x (omega (arith, leb-true i w.problem.count l)) (all_to-at 12 (agent_in_shape w) t x c (omega arith))).2 i a (omega arith)) e)
      (all_to-at (pred i) (λ x. not (linked w.problem x i) || ((w.agents i).listens x && (w.agents x).informs i)) k x c d))))
      (λ l. let h = leb-false i w.problem.count l in passes-beyond w i h ∙ sym (beyond w i h) ∙ all_to-at 12 (agent_in_shape w) t i a b)

  back : all_to 12 (agent_passes w) ≡ true → (i : ℕ) → 1 ≤ i → i ≤ 12 → agent_in_shape w i ≡ true
  unfolding heard linked_listen informed_listen informs_downward each_in max_named
  back t i a b =
      test (leb i w.problem.count)
      (λ l. let (o, k) = passed w i (leb-true i w.problem.count l) (all_to-at 12 (agent_passes w) t i a b) in
      to-asked w i (leb-true i w.problem.count l) o
      (to-all_to (pred i) _ (λ x c d.
      links ((w.agents x).informs i) ((w.agents i).listens x) (linked w.problem x i)
      (all_to-at (pred i) (λ x. cond ((w.agents x).informs i) ((w.agents i).listens x) (not (linked w.problem x i))) k x c d)))
      (to-all_to 16 _ (λ y c d. to-implied ((w.agents i).informs y) ((w.agents y).listens i) (λ e.
      let (p, q) = both (ltb i y) (leb y w.problem.count)
      (implied ((w.agents i).informs y) (ltb i y && leb y w.problem.count)
      (all_to-at 16 (λ y. not ((w.agents i).informs y) || (ltb i y && leb y w.problem.count)) o.down y c d) e) in
      let m = ltb-true i y p in
      let n = leb-true y w.problem.count q in
      let j = all_to-at (pred y) (λ x. cond ((w.agents x).informs y) ((w.agents y).listens x) (not (linked w.problem x y)))
      (passed w y n (all_to-at 12 (agent_passes w) t y c (omega arith))).1 i a (omega arith) in
      rw e at j))))
      (λ l. let h = leb-false i w.problem.count l in beyond w i h ∙ sym (passes-beyond w i h) ∙ all_to-at 12 (agent_passes w) t i a b)

  pub agents-pass : all_to max_agents (agent_in_shape w) ≡ all_to max_agents (agent_passes w)
  unfolding max_agents
  agents-pass = same_test _ _ (λ t. to-all_to 12 _ (there t)) (λ t. to-all_to 12 _ (back t))
