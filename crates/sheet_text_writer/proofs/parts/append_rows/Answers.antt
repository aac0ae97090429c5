-- `append_rows` puts a line for each record on the chain.
-- The loop keeps `Ahead`; at index 0 all is told, and a good sheet's chain gets there.
use Rattle.std.proofs.Common.{ℕ, ◌+◌, ◌-◌, ◌≡◌, subst, List, get_or, arith}
use Rattle.model_sheet.specs.Row.{Row}
use Rattle.model_sheet.specs.Sheet.{byte_at, word_from, edition_in}
use Rattle.support_buffer.specs.declared.cursor.Cursor.{Cursor}
use Rattle.support_buffer.specs.Puts.{Adds}
use Rattle.model_text.specs.Telling.{row_line}
use Rattle.sheet_text_writer.proofs.Chains.{starts, not-over, ends, room-here, goes}
use Rattle.sheet_text_writer.proofs.parts.append_rows.Goals as goal

pub loop-init : goal.loop-init
loop-init c =
    let e : c.two_bytes-end.result + 1 - 0 ≡ word_from c.args.s.now 4 + 1 = omega (arith, c.two_bytes-end.ensures.0) in
    rw (e, c.two_bytes-r.ensures.0) (starts c.args.s.now c.args.out.now c.requires.0 c.requires.1)

pub append_row-requires : goal.append_row-requires
unfolding byte_at edition_in
append_row-requires c = rw c.row.ensures (room-here c.loop.invariant (omega (arith, c.loop-test.true)) c.if-r-eq0.false c.requires.1)

-- its line is put
put : (s : List ℕ) {old new : Cursor} {row row' : Row} → row ≡ row' → Adds old (row_line (get_or s 1 0) row) new → Adds old (row_line (edition_in s) row') new
unfolding byte_at edition_in
put s {old} {new} e p = subst (λ (r : Row). Adds old (row_line (get_or s 1 0) r) new) e p

pub loop-preserved : goal.loop-preserved
loop-preserved c =
    let w = c.loop.invariant in
    let e : c.two_bytes-end.result + 1 - (c.loop.counter + 1) ≡ c.two_bytes-end.result + 1 - c.loop.counter - 1 = omega arith in
    rw (e, c.two_bytes-r-in-loop.ensures.0) (goes w (omega (arith, c.loop-test.true)) c.if-r-eq0.false (put c.args.s.now c.row.ensures c.append_row.ensures))

pub returns-then-r-eq0 : goal.returns-then-r-eq0
returns-then-r-eq0 c = ends c.loop.invariant (omega (arith, c.loop-test.true)) c.if-r-eq0.true

pub returns-else-r-eq0 : goal.returns-else-r-eq0
returns-else-r-eq0 c =
    absurd (not-over (goes c.loop.invariant (omega (arith, c.loop-test.true)) c.if-r-eq0.false (put c.args.s.now c.row.ensures c.append_row.ensures)) (omega arith))
