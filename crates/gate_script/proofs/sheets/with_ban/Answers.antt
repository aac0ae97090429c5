-- There is room, or not; the record is put at the end of the chain step by step.
use Rattle.std.proofs.Common.{ℕ, ◌+◌, ◌-◌, ◌/◌, ◌≡◌, sym, ap, ◌∙◌}
use Rattle.gate_script.specs.declared.sheets.Sheet.{Sheet}
use Rattle.gate_script.specs.Sheets.{two_at, index_at, link_before, linked, with_record}
use Rattle.gate_script.proofs.Building.{link-small, no_header, no_room, ban-put}
use Rattle.gate_script.proofs.sheets.with_ban.Goals as goal

pub returns-then-n-lt24 : goal.returns-then-n-lt24
returns-then-n-lt24 c = sym (no_header _ _ _ _ c.args.s c.if-n-lt24.true)

pub returns-then-n-gt33816 : goal.returns-then-n-gt33816
returns-then-n-gt33816 c = sym (no_room _ _ _ _ c.args.s c.if-n-lt24.false c.if-n-gt33816.true)

pub with_index-requires : goal.with_index-requires
with_index-requires c = rw c.link_before.ensures (link-small _ _ c.if-n-gt33816.false)

pub returns : goal.returns
unfolding with_record linked
returns c =
    let a = c.args in
    let n = a.s.length in
    let index = n / 8 - 2 in
    let one : c.with_index.result ≡ index_at (link_before index n) index a.s =
    c.with_index.ensures ∙ ap (λ (k : ℕ). index_at k index a.s) c.link_before.ensures in
    let two : c.with_index-linked.result ≡ linked index a.s = c.with_index-linked.ensures ∙ ap (index_at 4 index) one in
    let three = c.with_two.ensures ∙ ap (two_at n a.i a.j) two in
    let four = c.with_two-o.ensures ∙ ap (two_at (n + 2) a.v a.w) three in
    ap (λ (s : Sheet). record { bytes = s.bytes; length = n + 8 }) four
    ∙ sym (ban-put a.i a.v a.j a.w a.s c.if-n-lt24.false c.if-n-gt33816.false)
