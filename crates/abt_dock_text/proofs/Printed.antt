-- Text that stands in a buffer from its first byte on is what is printed; and it is that of the whole input.
use Rattle.std.proofs.Common.{◌≡◌, sym, ap, subst, ◌∙◌, List, ℕ, ◌≤◌, arith, length, ne_eqb}
use Rattle.model_network.specs.Network.{Network, start_sheet}
use Rattle.model_network.specs.Run.{Plan, Ran}
use Rattle.abt_engine.specs.Answers.{ending_of}
use Rattle.model_base.specs.Decimal.{line_of, Appends}
use Rattle.abt_engine.specs.declared.Answer.{Answer}
use Rattle.abt_dock_text.specs.Settling.{program_rule, RunOf, settled}
use Rattle.abt_dock_text.specs.Text.{sheet_refused, answer_text, settled_text, dock_text, Prints}
use Rattle.abt_dock_text.proofs.Cut.{text-cut}
use Rattle.abt_dock_text.proofs.Plans.{plan-counted}
use Rattle.abt_dock_text.proofs.Lines.{count-is}

prints : (rounds : ℕ) (sheet s old new : List ℕ) (n : ℕ) → Appends old 0 s new n → s ≡ dock_text rounds sheet → Prints rounds sheet new n
prints rounds sheet s old new n A e =
    record {
      count = omega (arith, A.count, ap length e);
      text = A.text ∙ e;
      whole = λ input h. A.text ∙ e ∙ ap (dock_text rounds) (sym h) ∙ text-cut rounds input;
    }

text-refused : (n : ℕ) (r : Ran) → (n ≡ 0 → ⊥) → settled_text n r ≡ line_of sheet_refused n
unfolding settled_text
text-refused n r h = rw (ne_eqb n 0 h, settled_text)

module _ (rounds : ℕ) (sheet : List ℕ) (old new : List ℕ) (n : ℕ) where
  pub prints-refused : (k : ℕ) → k ≡ (start_sheet program_rule sheet).number → (k ≡ 0 → ⊥) → Appends old 0 (line_of sheet_refused k) new n
      → Prints rounds sheet new n
  unfolding dock_text
  prints-refused k e r A =
      let R : Ran = settled rounds sheet in
      prints rounds sheet (line_of sheet_refused k) old new n A (sym (ap (λ (k : ℕ). settled_text k R) (sym e) ∙ text-refused k R r))

  pub prints-ran : (ran : Answer) → 0 ≡ (start_sheet program_rule sheet).number → RunOf rounds sheet ran → Appends old 0 (answer_text ran) new n
      → Prints rounds sheet new n
  unfolding answer_text settled_text dock_text
  prints-ran ran z S A =
      prints rounds sheet (answer_text ran) old new n A
      (rw (S.ending, S.made, S.network) (sym (rw (← z, settled_text))))

-- a plan is of at most twelve agents
pub counted : (rounds : ℕ) (sheet : List ℕ) (ran : Answer) → RunOf rounds sheet ran → ending_of ran.ending ≡ Plan → ran.network.count ≤ 12
unfolding settled
counted rounds sheet ran S e =
    subst (λ (k : ℕ). k ≤ 12) (sym (ap (λ (w : Network). w.problem.count) S.network) ∙ count-is ran.network)
    (plan-counted rounds (start_sheet program_rule sheet).network (sym S.ending ∙ e))
