-- `heard` is the clause on an agent's links with those above it.
-- From agent j - 1 down. The invariant: what is asked of all is asked of those left.
use Rattle.std.proofs.Common.{ℕ, ◌+◌, ◌-◌, ◌≡◌, sym, ap, ◌∙◌, arith, sub-one, true, false, not, cond, eqb, ltb, get_or, lt-ltb, ne_eqb}
use Rattle.model_base.specs.Finite.{all_to}
use Rattle.model_base.proofs.Tests.{eq_test}
use Rattle.model_base.proofs.Loops.{all_to-goes, all_to-fails}
use Rattle.model_base.proofs.Peeling.{all_to-over}
use Rattle.model_sheet.specs.Problem.{word_at}
use Rattle.model_base.specs.Sets.{members}
use Rattle.abt_shape.specs.Parts.{heard}
use Rattle.abt_shape.proofs.Clauses.{heard_from, heard-is}
use Rattle.abt_shape.proofs.frames.Frame.heard.Goals as goal
use Rattle.abt_shape.proofs.frames.Frame.heard.Goals.{then-has, else-has}

pub loop-i-init : goal.loop-i-init
unfolding heard heard_from
loop-i-init c = λ w b f l. ap (λ (m : ℕ). all_to m (heard_from w c.args.j)) (sym (sub-one c.args.j))

-- a word of bans that is 0, or that is not
no-bans : (x : ℕ) → not (ltb 0 x) ≡ eqb x 0
no-bans x = eq_test x 0 (λ e. rw (e)) (λ n. rw (lt-ltb 0 x (omega (arith, n)), ne_eqb x 0 n))

pub returns-then-not-fits : goal.returns-then-not-fits
unfolding word_at
returns-then-not-fits c =
    let i = c.loop-i.i - 1 in
    let t : cond (members (get_or c.args.self.now.informs (i - 1) 0) c.args.j) (members c.args.listens i) (not (ltb 0 (get_or c.args.bans.now (c.words_before-words.result + i - 1) 0))) ≡ false =
    elim c.if-has.branch [
      | then-has a ↦ rw (← c.has.ensures, a.if-has.true, ← a.has-fits.ensures) (sym a.fits-is ∙ c.if-not-fits.true)
      | else-has a ↦ rw (← c.has.ensures, a.if-has.false) (no-bans _ ∙ sym a.fits-is ∙ c.if-not-fits.true)
    ] in
    λ w b f l.
    sym (c.loop-i.invariant w b f l
    ∙ all_to-fails i (heard_from w c.args.j) (omega arith)
    (heard-is w c.args.bans.now c.args.self.now.informs i c.args.j c.args.listens (c.words_before-words.result + i - 1) b f l (omega arith) (omega arith) c.requires.1 (omega (arith, c.words_before-words.ensures.0)) ∙ t))

pub loop-i-preserved : goal.loop-i-preserved
unfolding word_at
loop-i-preserved c =
    let i = c.loop-i.i - 1 in
    let t : cond (members (get_or c.args.self.now.informs (i - 1) 0) c.args.j) (members c.args.listens i) (not (ltb 0 (get_or c.args.bans.now (c.words_before-words.result + i - 1) 0))) ≡ true =
    elim c.if-has.branch [
      | then-has a ↦ rw (← c.has.ensures, a.if-has.true, ← a.has-fits.ensures) (sym a.fits-is ∙ c.if-not-fits.false)
      | else-has a ↦ rw (← c.has.ensures, a.if-has.false) (no-bans _ ∙ sym a.fits-is ∙ c.if-not-fits.false)
    ] in
    λ w b f l.
    c.loop-i.invariant w b f l
    ∙ all_to-goes i (heard_from w c.args.j) (omega arith)
    (heard-is w c.args.bans.now c.args.self.now.informs i c.args.j c.args.listens (c.words_before-words.result + i - 1) b f l (omega arith) (omega arith) c.requires.1 (omega (arith, c.words_before-words.ensures.0)) ∙ t)

pub returns : goal.returns
returns c = λ w b f l. sym (c.loop-i.invariant w b f l ∙ all_to-over (c.loop-i.i - 1) (heard_from w c.args.j) (omega arith))
