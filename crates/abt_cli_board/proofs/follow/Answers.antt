-- By whether a file is opened.
use Rattle.std.proofs.Common.{◌∙◌, sym, subst}
use Rattle.support_cli.specs.Streams.{output_of}
use Rattle.support_cli.specs.Answers.{Answer}
use Rattle.abt_cli_board.specs.Saying.{Said}
use Rattle.support_cli.proofs.Files.{some-file}
use Rattle.abt_cli_board.proofs.Files.{said-as, opens-so, stays-so}
use Rattle.abt_cli_board.proofs.follow.Goals as goal

pub returns-then-opens : goal.returns-then-opens
returns-then-opens g c =
    let l = c.args.line.now in
    said-as _ _ _ c.open.result _ _ (opens-so l.options l.word.now _ (sym c.opens.ensures ∙ c.if-opens.true)) c.open.ensures

pub returns-else-opens : goal.returns-else-opens
returns-else-opens g c =
    let l = c.args.line.now in
    let (file, read) = some-file (g.S.Store.held c.args.files.now l.word.now) in
    record {
      file = file;
      read = read;
      kept = subst (λ (a : Answer). Said a c.say_unopened.result (output_of g.W.Write.contents c.args.output.now) (output_of g.W.Write.contents c.say_unopened.new.output))
          (stays-so l.options l.word.now _ file (sym c.opens.ensures ∙ c.if-opens.false))
          c.say_unopened.ensures;
    }
