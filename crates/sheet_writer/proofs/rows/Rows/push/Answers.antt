-- `push` appends a record.
-- It is written over the first zeros, so behind the list all stays zero.
use Rattle.std.proofs.Common.{◌≡◌, sym, ap, ◌∙◌, ℕ, ◌+◌, ◌-◌, ◌<◌, length, drop, replicate, arith, length-set, drop-set-lt, drop-drop}
use Rattle.std.proofs.lemmas.List.{drop-replicate}
use Rattle.sheet_writer.specs.Rows.{no_row}
use Rattle.sheet_writer.specs.Listed.{length-listed}
use Rattle.sheet_writer.proofs.rows.Rows.push.Goals as goal

pub invariant_of-self : goal.invariant_of-self
invariant_of-self g c =
    let n = g.row.N in
    let r = c.self.inside in
    let h = c.self.invariant in
    let room : r.count < n = omega (arith, length-listed n r.count r.rows h.0 h.2, ap length c.self.view_is, c.requires) in
    let fewer : replicate (n - r.count - 1) no_row ≡ replicate (n - (r.count + 1)) no_row = ap (λ (k : ℕ). replicate k no_row) (omega arith) in
    let zeros = sym (drop-drop 1 r.count r.rows) ∙ ap (drop 1) h.3 ∙ drop-replicate 1 (n - r.count) no_row ∙ fewer in
    (omega (arith, room), h.1, length-set r.rows _ c.args.row ∙ h.2, drop-set-lt (r.count + 1) r.rows _ c.args.row (omega arith) ∙ zeros)
