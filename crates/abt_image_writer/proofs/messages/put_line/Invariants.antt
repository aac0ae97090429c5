-- `put_line` puts the messages of one line.
-- Those behind so many are left to put.
use Rattle.std.proofs.Common.{◌≡◌, ◌+◌, ◌*◌, drop}
use Rattle.abt_record.specs.Abstract.{network_of}
use Rattle.model_image.specs.Image.{chain_from}
use Rattle.abt_image_writer.specs.Lines.{line_at}
use Rattle.support_buffer.proofs.Puts.{Left}
use Rattle.abt_image_writer.proofs.messages.put_line.Given as goal

abbrev pub invariant-loop-ahead : goal.invariant-loop-ahead
invariant-loop-ahead l =
    let on_it = line_at (network_of l.r) l.line in
    record {
      at : l.out.at ≡ l.initial.out.at + 16 * l.ahead;
      left : Left l.initial.out (chain_from l.before on_it) l.out (chain_from (l.before + l.ahead) (drop l.ahead on_it));
    }
