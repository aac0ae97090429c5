-- `bans` reads the ban table, word by word: the words before that of lower agent i and higher agent j are read.
use Rattle.std.proofs.Common.{◌≡◌, refl, ◌∙◌, arith}
use Rattle.abt_shape.proofs.Pairs.{word-place}
use Rattle.model_image.specs.Reading.{header_length, ban_in}
use Rattle.abt_image_reader.proofs.Tables.{none-tabled, next-lower, next-higher, all-tabled}
use Rattle.abt_image_reader.proofs.table.bans.Goals as goal

pub loop-j-init : goal.loop-j-init
loop-j-init c = none-tabled c.args.s.now _ refl

pub loop-i-preserved : goal.loop-i-preserved
unfolding ban_in header_length
loop-i-preserved c =
    let i = c.loop-i.i in
    let j = c.loop-j.j in
    let at = word-place i j _ c.words_before.ensures.0 (omega arith) (omega arith) c.words_before.ensures.1 in
    let word : c.eight_bytes.result ≡ ban_in c.args.s.now i j = c.eight_bytes.ensures ∙ rw c.ban_place.ensures.0 in
    next-lower c.args.s.now c.loop-i.words i j _ _ c.loop-i.invariant (omega arith) (omega arith) (omega arith) at word

pub loop-j-preserved : goal.loop-j-preserved
loop-j-preserved c =
    let last : c.loop-i.i ≡ c.loop-j.j = omega arith in
    next-higher c.args.s.now c.loop-i.words c.loop-j.j (rw last at c.loop-i.invariant) (omega arith)

pub returns : goal.returns
returns c = let last : c.loop-j.j ≡ 13 = omega arith in all-tabled c.args.s.now c.loop-j.words (rw last at c.loop-j.invariant)
