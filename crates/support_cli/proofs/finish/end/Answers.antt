use Rattle.std.proofs.Common.{Bool, sym, ◌∙◌, subst}
use Rattle.support_cli.specs.Streams.{output_of, Puts}
use Rattle.support_cli.specs.Answers.{failure_line}
use Rattle.support_cli.proofs.finish.end.Goals as goal

pub returns-then-has_failed-clause-said : goal.returns-then-has_failed-clause-said
returns-then-has_failed-clause-said g c =
    let P : Bool → Type 0 = λ b. Puts (failure_line b) (output_of g.E.Write.contents c.args.errors.now) (output_of g.E.Write.contents c.put.new.self) in
    subst P (sym (sym c.has_failed.ensures ∙ c.if-has_failed.true)) c.put.ensures
