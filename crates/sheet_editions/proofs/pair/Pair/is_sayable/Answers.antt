-- `Pair::is_sayable` is the test of each gap.
-- The free pairs are those of the word with all bits turned round.
use Rattle.std.proofs.Common.{arith}
use Rattle.sheet_editions.specs.Pairs.{in_word, word_sayable}
use Rattle.sheet_editions.proofs.Marks.{renamed}
use Rattle.sheet_editions.proofs.Words.{none-common, has_same, not-in-word}
use Rattle.sheet_editions.proofs.pair.Pair.is_sayable.Goals as goal

pub returns : goal.returns
unfolding word_sayable in_word
returns c =
    let q = c.args.self in
    none-common _ _ _ _ c.gaps.ensures
    (renamed 0 _ _ _ c.gaps-2.ensures
    (λ k. has_same q.slots q.others _ _ k (λ v w a b d e. not-in-word q.word v w (omega arith) a (omega (arith, q.small)) d (omega (arith, q.small)))))
