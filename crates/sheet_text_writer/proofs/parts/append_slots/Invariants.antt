-- `append_slots` puts the word and the slot count of each agent.
-- The loop keeps what is still to be told: the counts from the next agent on, and the newline.
use Rattle.std.proofs.Common.{ℕ, suc, ◌-◌, List, ◌++◌}
use Rattle.model_base.specs.Finite.{gather}
use Rattle.model_sheet.specs.Problem.{domain}
use Rattle.sheet_reader.specs.Abstract.{problem_of}
use Rattle.sheet_reader.specs.declared.Problem.{Problem}
use Rattle.model_base.specs.Decimal.{newline}
use Rattle.model_text.specs.Telling.{figure}
use Rattle.support_buffer.proofs.Puts.{Left}
use Rattle.sheet_text_writer.proofs.parts.append_slots.Given as goal

-- the counts of so many agents from agent i on, and the newline
abbrev pub counts : Problem → ℕ → ℕ → List ℕ
counts p m i = gather m i (λ k. figure (domain (problem_of p) k)) ++ newline

abbrev pub invariant-loop-domain : goal.invariant-loop-domain
invariant-loop-domain l =
    Left l.initial.out (counts l.fn.p l.fn.p.count 1) l.out (counts l.fn.p (l.fn.p.count - l.domain-index) (suc l.domain-index))
