-- `on_info` is the rule of an Info.
-- The view changes at the sender, and the nogoods that disagree are those that name it at another value.
use Rattle.std.proofs.Common.{◌≡◌, sym, ◌∙◌, arith}
use Rattle.abt_packed.specs.Packed.{assignment}
use Rattle.abt_choosing.specs.Choosing.{nogoods_of}
use Rattle.model_base.proofs.Tests.{test}
use Rattle.abt_agent.specs.Parts.{keeping}
use Rattle.abt_agent.proofs.Fits.{fits-sound}
use Rattle.abt_agent.proofs.Views.{kept_same, kept_new, kept-other}
use Rattle.abt_agent.proofs.Infos.{sender, in_range, valued, takes-barred, takes-free}
use Rattle.abt_agent.proofs.State.on_info.Goals as goal
use Rattle.abt_agent.proofs.State.on_info.Goals.{
  Start,
  Joined-old-ne0,
  then-old-ne0+then-old-v,
  else-old-ne0,
  else-old-ne0-via-then-old-ne0+else-old-v,
  else-old-ne0-via-else-old-ne0,
}

pub with_digit-requires : goal.with_digit-requires
with_digit-requires c =
    let f = sender _ _ _ _ _ _ c.requires (omega arith) in let r = in_range _ _ _ _ _ _ c.requires (omega arith) in (r.0, r.1, omega (arith, f.3))

pub bounds-bans-from : goal.bounds-bans-from
bounds-bans-from c =
    let f = sender _ _ _ _ _ _ c.requires (omega arith) in omega (arith, f.0, f.1, c.requires.able.bans)

pub conflicts_at-requires : goal.conflicts_at-requires
conflicts_at-requires c =
    let f = sender _ _ _ _ _ _ c.requires (omega arith) in (f.2, f.3)

pub bans-requires : goal.bans-requires
bans-requires c =
    valued c.args.own c.args.bans.now c.args.self c.args.nogoods.now c.args.from c.args.v
    c.requires (omega arith)

-- the nogoods that are kept are those that agree with the changed view
kept : (c : Joined-old-ne0)
    → nogoods_of c.if-old-ne0.nogood_mask c.args.nogoods.now
    ≡ (λ w. keeping c.args.from c.args.v (nogoods_of c.args.self.nogood_mask c.args.nogoods.now w))
kept c =
    let self = c.args.self in
    let r = in_range _ _ _ _ _ _ c.requires (omega arith) in
    let coherent = (fits-sound c.args.own self c.args.nogoods.now c.requires.places c.requires.agent).coherent in
    elim c.if-old-ne0.branch [
      | then-old-ne0+then-old-v u ↦
          rw u.nogood_mask-is
          (kept-other c.args.own (assignment self.view) self.nogood_mask _ c.args.from c.args.v coherent (omega arith) r.0 r.1
          u.nogoods_without.result (λ e. u.if-old-v.true (c.digit-old.ensures.0 ∙ e)) u.nogoods_without.ensures)
      | else-old-ne0 u ↦
          rw u.nogood_mask-is
          (elim u.else-old-ne0.branch [
            | else-old-ne0-via-then-old-ne0+else-old-v w ↦
                kept_same c.args.own (assignment self.view) self.nogood_mask _ c.args.from c.args.v coherent (omega arith) r.0 r.1
                (sym c.digit-old.ensures.0 ∙ w.if-old-v.false)
            | else-old-ne0-via-else-old-ne0 w ↦
                kept_new c.args.own (assignment self.view) self.nogood_mask _ c.args.from c.args.v coherent (omega arith) r.0 r.1
                (sym c.digit-old.ensures.0 ∙ w.if-old-ne0.false)
          ])
    ]

pub returns-clause-takes : goal.returns-clause-takes
returns-clause-takes c =
    let nogood_mask-kept = kept (goal.at.returns-clause-takes c).Joined-old-ne0 in
    test c.bans.result
    (λ t.
    rw t
    (takes-barred c.args.own c.args.bans.now c.args.self c.args.nogoods.now c.args.from c.args.v
    c.requires (omega arith) c.if-old-ne0.nogood_mask c.with_digit.result c.with-conflicts.result (omega arith) nogood_mask-kept
    c.with_digit.ensures (λ j l h. rw (← c.conflicts_at.ensures) (c.with-conflicts.ensures j l h)) (sym c.bans.ensures ∙ t)))
    (λ t.
    rw t
    (takes-free c.args.own c.args.bans.now c.args.self c.args.nogoods.now c.args.from c.args.v
    c.requires (omega arith) c.if-old-ne0.nogood_mask c.with_digit.result c.with-conflicts.result (omega arith) nogood_mask-kept
    c.with_digit.ensures (λ j l h. rw (← c.conflicts_at.ensures) (c.with-conflicts.ensures j l h)) (sym c.bans.ensures ∙ t)))
