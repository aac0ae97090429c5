-- `message_fits` is the shape of a message, where a link request may fit no more.
-- Sort by sort: its direction, the value, who listens to whom, the left side.
use Rattle.std.proofs.Common.{ℕ, ◌≡◌, refl, ap, ◌∙◌, Bool, true, false, not, ◌&&◌, ltb, lt-ltb, le-ltb}
use mathlib.Core.Bool.{and-false, false≢true}
use Rattle.model_sheet.specs.Problem.{owns}
use Rattle.model_network.specs.Shape.{lhs_fits, message_fits}
use Rattle.abt_packed.specs.Packed.{assignment}
use Rattle.abt_agent.specs.Abstract.{assigned, message_of}
use Rattle.abt_shape.specs.Parts.{is_link, fits_now}
use Rattle.abt_shape.proofs.Words.{set_at}
use Rattle.abt_shape.proofs.frames.Frame.message_fits.Goals as goal
use Rattle.abt_shape.proofs.frames.Frame.message_fits.Goals.{then-i-j, else-i-j, then-j-i, else-j-i, then-in_domain-2, else-in_domain-2, then-j-i-2, else-j-i-2}

pub returns-then-in_domain : goal.returns-then-in_domain
unfolding fits_now is_link message_fits message_of
returns-then-in_domain c =
    λ w f k.
    let two : c.if-i-j.value ≡ ltb c.args.i c.args.j && owns w.problem c.args.i c.in-Info.v =
    elim c.if-i-j.branch [
      | then-i-j z ↦ rw (lt-ltb c.args.i c.args.j z.if-i-j.true) (z.value-is ∙ z.in_domain.ensures w.problem f.owned)
      | else-i-j z ↦ let e = le-ltb c.args.i c.args.j z.if-i-j.false in rw e (z.value-is ∙ e)
    ] in
    rw (c.in-Info.is, ← two, c.if-in_domain.true, f.listens c.args.j c.args.i, set_at _ c.args.j c.args.i c.requires.2) c.has.ensures

pub returns-else-in_domain : goal.returns-else-in_domain
unfolding fits_now is_link message_fits message_of
returns-else-in_domain c =
    λ w f k.
    let two : c.if-i-j.value ≡ ltb c.args.i c.args.j && owns w.problem c.args.i c.in-Info.v =
    elim c.if-i-j.branch [
      | then-i-j z ↦ rw (lt-ltb c.args.i c.args.j z.if-i-j.true) (z.value-is ∙ z.in_domain.ensures w.problem f.owned)
      | else-i-j z ↦ let e = le-ltb c.args.i c.args.j z.if-i-j.false in rw e (z.value-is ∙ e)
    ] in
    rw (c.in-Info.is, ← two, c.if-in_domain.false)

pub returns-then-has : goal.returns-then-has
unfolding fits_now is_link message_fits message_of assigned
returns-then-has c =
    λ w f k.
    let two : c.if-j-i.value ≡ ltb c.args.j c.args.i && owns w.problem c.args.j c.in-Back.v =
    elim c.if-j-i.branch [
      | then-j-i z ↦ rw (lt-ltb c.args.j c.args.i z.if-j-i.true) (z.value-is ∙ z.in_domain-then-j-i.ensures w.problem f.owned)
      | else-j-i z ↦ let e = le-ltb c.args.j c.args.i z.if-j-i.false in rw e (z.value-is ∙ e)
    ] in
    let three : c.if-in_domain-2.value ≡ ltb c.args.j c.args.i && owns w.problem c.args.j c.in-Back.v && (w.agents c.args.i).listens c.args.j =
    elim c.if-in_domain-2.branch [
      | then-in_domain-2 z ↦ rw (← two, z.if-in_domain-2.true, f.listens c.args.i c.args.j, set_at _ c.args.i c.args.j c.requires.0) (z.value-is ∙ z.has-then-in_domain-2.ensures)
      | else-in_domain-2 z ↦ rw (← two, z.if-in_domain-2.false) (z.value-is ∙ z.if-in_domain-2.false)
    ] in
    rw (c.in-Back.is, ← three, c.if-has.true)
    (c.lhs_fits.ensures w.problem f.owned ∙ ap (λ (x : ℕ). lhs_fits w.problem c.args.j (assignment x)) c.unpack.ensures)

pub returns-else-has : goal.returns-else-has
unfolding fits_now is_link message_fits message_of
returns-else-has c =
    λ w f k.
    let two : c.if-j-i.value ≡ ltb c.args.j c.args.i && owns w.problem c.args.j c.in-Back.v =
    elim c.if-j-i.branch [
      | then-j-i z ↦ rw (lt-ltb c.args.j c.args.i z.if-j-i.true) (z.value-is ∙ z.in_domain-then-j-i.ensures w.problem f.owned)
      | else-j-i z ↦ let e = le-ltb c.args.j c.args.i z.if-j-i.false in rw e (z.value-is ∙ e)
    ] in
    let three : c.if-in_domain-2.value ≡ ltb c.args.j c.args.i && owns w.problem c.args.j c.in-Back.v && (w.agents c.args.i).listens c.args.j =
    elim c.if-in_domain-2.branch [
      | then-in_domain-2 z ↦ rw (← two, z.if-in_domain-2.true, f.listens c.args.i c.args.j, set_at _ c.args.i c.args.j c.requires.0) (z.value-is ∙ z.has-then-in_domain-2.ensures)
      | else-in_domain-2 z ↦ rw (← two, z.if-in_domain-2.false) (z.value-is ∙ z.if-in_domain-2.false)
    ] in
    rw (c.in-Back.is, ← three, c.if-has.false)

-- no request fits where the receiver informs the sender, and one is taken as asked there
not-twice : (asked informs : Bool) → (informs ≡ true → asked ≡ true) → not asked ≡ not asked && not informs
not-twice true informs k = refl
not-twice false true k = absurd (false≢true (k refl))
not-twice false false k = refl

pub returns-then-has-2 : goal.returns-then-has-2
unfolding fits_now is_link message_fits message_of
returns-then-has-2 c =
    λ w f k.
    let two : c.if-j-i-2.value ≡ ltb c.args.j c.args.i && (w.agents c.args.i).listens c.args.j =
    elim c.if-j-i-2.branch [
      | then-j-i-2 z ↦ rw (lt-ltb c.args.j c.args.i z.if-j-i-2.true, f.listens c.args.i c.args.j, set_at _ c.args.i c.args.j c.requires.0) (z.value-is ∙ z.has-then-j-i-2.ensures)
      | else-j-i-2 z ↦ let e = le-ltb c.args.j c.args.i z.if-j-i-2.false in rw e (z.value-is ∙ e)
    ] in
    rw (c.in-AddLink.is, ← two, c.if-has-2.true) (not-twice c.args.asked ((w.agents c.args.j).informs c.args.i) k)

pub returns-else-has-2 : goal.returns-else-has-2
unfolding fits_now is_link message_fits message_of
returns-else-has-2 c =
    λ w f k.
    let two : c.if-j-i-2.value ≡ ltb c.args.j c.args.i && (w.agents c.args.i).listens c.args.j =
    elim c.if-j-i-2.branch [
      | then-j-i-2 z ↦ rw (lt-ltb c.args.j c.args.i z.if-j-i-2.true, f.listens c.args.i c.args.j, set_at _ c.args.i c.args.j c.requires.0) (z.value-is ∙ z.has-then-j-i-2.ensures)
      | else-j-i-2 z ↦ let e = le-ltb c.args.j c.args.i z.if-j-i-2.false in rw e (z.value-is ∙ e)
    ] in
    rw (c.in-AddLink.is, ← two, c.if-has-2.false, and-false (not c.args.asked))
