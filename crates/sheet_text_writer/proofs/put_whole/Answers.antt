-- `put_whole` puts all of s, where there is room.
-- What is put from the first byte on is all that changes.
use Rattle.std.proofs.Common.{sym, ap, List, ◌++◌, ℕ, length, drop, arith}
use Rattle.model_base.specs.Lent.{untouched}
use Rattle.support_buffer.specs.Abstract.{written_of}
use Rattle.sheet_text_writer.proofs.Answers.{put-short, put-fits}
use Rattle.sheet_text_writer.proofs.put_whole.Goals as goal

pub returns-then-out-s : goal.returns-then-out-s
unfolding written_of untouched
returns-then-out-s c = let a = c.args in sym (put-short a.s.now a.out.now (omega arith))

pub returns : goal.returns
unfolding written_of
returns c =
    let a = c.args in
    sym (put-fits a.s.now a.out.now _ c.if-out-s.false (ap (λ (l : List ℕ). l ++ drop (length a.s.now) a.out.now) c.copy_from_slice.ensures.after))
