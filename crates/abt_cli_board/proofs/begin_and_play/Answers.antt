-- What is said of the file's bytes, and then the calls.
use Rattle.std.proofs.Common.{ℕ, List, ◌++◌, sym, ap, ◌∙◌, subst}
use Rattle.std.specs.declared.alloc.AllocError.{AllocError}
use Rattle.support_rejection.proofs.Numbers.{refusal-some}
use Rattle.support_cli.specs.Streams.{output_of, Puts}
use Rattle.abt_board_text.specs.Calling.{begun_number, begun_of}
use Rattle.abt_cli_board.specs.Answers.{began_by}
use Rattle.abt_cli_board.proofs.Beginning.{said-played, said-refused}
use Rattle.abt_cli_board.proofs.begin_and_play.Goals as goal

pub returns-in-Ok : goal.returns-in-Ok
returns-in-Ok g c =
    let b = began_by c.args.o c.args.bytes.now in
    said-played b _ c.play.result _ _ _ _
    (sym (ap begun_number c.in-Ok.is) ∙ c.in_ok-begun.ensures.number)
    (sym (ap begun_of c.in-Ok.is) ∙ c.in_ok-begun.ensures.network)
    (subst (λ (t : List ℕ). Puts t (output_of g.W.Write.contents c.args.output.now) (output_of g.W.Write.contents c.put.new.self))
    (c.deref.ensures.value ∙ c.in_ok-begun.ensures.text ∙ ap (λ (t : List ℕ). t ++ b.text) c.new-text.ensures.items)
    c.put.ensures)
    c.play.ensures

pub returns : goal.returns
returns g c =
    let b = began_by c.args.o c.args.bytes.now in
    let numbered = sym (ap begun_number c.in-Err.is) ∙ c.in_ok-begun.ensures.number in
    said-refused b _ AllocError _ _
    (λ z. refusal-some c.in-Err.field-0 (numbered ∙ z))
    (subst (λ (t : List ℕ). Puts t (output_of g.W.Write.contents c.args.output.now) (output_of g.W.Write.contents c.put.new.self))
    (c.deref.ensures.value ∙ c.in_ok-begun.ensures.text ∙ ap (λ (t : List ℕ). t ++ b.text) c.new-text.ensures.items)
    c.put.ensures)
