-- `append_slots` puts the word and the slot count of each agent.
-- The loop keeps what is still to be told: the counts from the next agent on, and the newline.
use Rattle.std.proofs.Common.{ℕ, suc, ◌-◌, ◌≤◌, ◌<◌, ◌≡◌, refl, sym, ap, subst, ◌∙◌, ◌++◌, length, get_or, take, length-take, add-one, arith}
use Rattle.std.proofs.lemmas.List.{get_or-take}
use Rattle.model_sheet.specs.Problem.{domain}
use Rattle.sheet_reader.specs.Abstract.{problem_of}
use Rattle.sheet_reader.specs.declared.Problem.{Problem}
use Rattle.model_base.specs.Decimal.{newline}
use Rattle.support_buffer.proofs.Puts.{adds_then, all_left, left_as, less-left}
use Rattle.model_text.specs.Statements.{slots_word}
use Rattle.model_text.specs.Telling.{figure, slots_line}
use Rattle.sheet_text_writer.specs.Parts.{RoomFor}
use Rattle.sheet_text_writer.proofs.Rooms.{room-first, room-rest, room-put, room-left, last-left}
use Rattle.sheet_text_writer.proofs.Chains.{gather-first, gather-over}
use Rattle.sheet_text_writer.proofs.parts.append_slots.Invariants.{counts}
use Rattle.sheet_text_writer.proofs.parts.append_slots.Goals as goal

counts-first : (p : Problem) (i : ℕ) → suc i ≤ p.count
    → counts p (p.count - i) (suc i) ≡ figure (domain (problem_of p) (suc i)) ++ counts p (p.count - suc i) (suc (suc i))
counts-first p i h =
    let less : p.count - i - 1 ≡ p.count - suc i = omega arith in
    gather-first (p.count - i) (suc i) _ newline (omega arith) ∙ rw less

-- the next count, as it stands among those that are gone over
next-count : (p : Problem) (n i : ℕ) → n ≡ p.count → i < length (take n p.domains)
    → counts p (p.count - i) (suc i) ≡ figure (get_or (take n p.domains) i 0) ++ counts p (p.count - suc i) (suc (suc i))
unfolding problem_of domain
next-count p n i e h =
    counts-first p i (omega (arith, e, h, length-take n p.domains))
    ∙ ap (λ (k : ℕ). figure k ++ counts p (p.count - suc i) (suc (suc i))) (sym (get_or-take n p.domains i 0 (omega (arith, h, length-take n p.domains))))

pub loop-domain-init : goal.loop-domain-init
unfolding slots_line slots_word problem_of
loop-domain-init c =
    let p = c.args.p in
    let all : p.count - 0 ≡ p.count = omega arith in
    rw all (all_left _ _ refl (room-put _ (room-rest slots_word _ c.requires.1 c.put_all.ensures)))

pub append_figure-requires : goal.append_figure-requires
unfolding slots_line slots_word problem_of domain
append_figure-requires c =
    let l = c.loop-domain in
    let all = room-rest slots_word _ c.requires.1 c.put_all.ensures in
    room-first _ _ (subst (RoomFor l.out) (next-count c.args.p _ l.domain-index c.from.ensures c.loop-domain-test.true) (room-left all l.invariant))

pub loop-domain-preserved : goal.loop-domain-preserved
unfolding problem_of domain
loop-domain-preserved c =
    let p = c.args.p in
    let l = c.loop-domain in
    rw (add-one l.domain-index)
    (less-left (left_as (next-count p _ l.domain-index c.from.ensures c.loop-domain-test.true) l.invariant) c.append_figure.ensures)

pub put_all-requires-2 : goal.put_all-requires-2
unfolding slots_line slots_word newline problem_of
put_all-requires-2 c =
    let l = c.loop-domain in
    let all = room-rest slots_word _ c.requires.1 c.put_all.ensures in
    room-put newline (subst (RoomFor l.out) (gather-over _ _ _ newline (omega (arith, c.loop-domain-test.false, c.from.ensures, length-take c.args.p.count c.args.p.domains, c.requires.0))) (room-left all l.invariant))

pub returns : goal.returns
unfolding slots_line slots_word newline problem_of
returns c =
    let l = c.loop-domain in
    let none = gather-over (c.args.p.count - l.domain-index) (suc l.domain-index) _ newline (omega (arith, c.loop-domain-test.false, c.from.ensures, length-take c.args.p.count c.args.p.domains, c.requires.0)) in
    adds_then c.put_all.ensures (last-left (left_as none l.invariant) c.put_all-2.ensures)
