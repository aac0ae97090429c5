-- The reason of a value: there is one where its bit is set.
use Rattle.std.proofs.Common.{◌≡◌, ℕ, suc, ◌+◌, ◌/◌, ◌%◌, ◌^◌, false, true, List, [], get_or, refl, ap, ◌∙◌, eq-eqb, arith, None, Some, ne_eqb}
use Rattle.model_base.specs.Finite.{from_one}
use Rattle.model_base.specs.Bits.{bit}
use Rattle.model_agent.specs.Agent.{Agent as Agent'}
use Rattle.abt_packed.specs.Packed.{assignment}
use Rattle.abt_choosing.specs.Choosing.{nogood_at}
use Rattle.abt_agent.specs.declared.Agent.{Agent}
use Rattle.abt_agent.specs.Abstract.{agent_of}
use Rattle.abt_board_drawing.specs.Text.{reason_line}

abbrev pub reason_of : Agent' → ℕ → List ℕ
reason_of a v = reason_line v (a.nogoods v)

nogoods-at : (a : Agent) (v : ℕ) → (agent_of a).nogoods (v + 1) ≡ nogood_at a.nogood_mask a.nogoods v
unfolding agent_of from_one
nogoods-at a v = let e : v + 1 ≡ suc v = omega arith in rw e refl

set-bit : (a : Agent) (v : ℕ) → a.nogood_mask / 2 ^ v % 2 ≡ 1 → nogood_at a.nogood_mask a.nogoods v ≡ Some (assignment (get_or a.nogoods v 0))
unfolding nogood_at bit
set-bit a v e = let b : bit a.nogood_mask v ≡ true = eq-eqb (a.nogood_mask / 2 ^ v % 2) 1 e in rw (nogood_at, b) refl

clear-bit : (a : Agent) (v : ℕ) → (a.nogood_mask / 2 ^ v % 2 ≡ 1 → ⊥) → nogood_at a.nogood_mask a.nogoods v ≡ None
unfolding nogood_at bit
clear-bit a v n = let b : bit a.nogood_mask v ≡ false = ne_eqb (a.nogood_mask / 2 ^ v % 2) 1 n in rw (nogood_at, b) refl

pub reason-there : (a : Agent) (v : ℕ) → a.nogood_mask / 2 ^ v % 2 ≡ 1
    → reason_of (agent_of a) (v + 1) ≡ reason_line (v + 1) (Some (assignment (get_or a.nogoods v 0)))
reason-there a v e = ap (reason_line (v + 1)) (nogoods-at a v ∙ set-bit a v e)

pub reason-none : (a : Agent) (v : ℕ) → (a.nogood_mask / 2 ^ v % 2 ≡ 1 → ⊥) → reason_of (agent_of a) (v + 1) ≡ []
unfolding reason_line
reason-none a v n = ap (reason_line (v + 1)) (nogoods-at a v ∙ clear-bit a v n)
