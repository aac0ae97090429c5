-- `links_in_shape` is what is asked of an agent's links.
-- Clause by clause.
use Rattle.std.proofs.Common.{◌≡◌, ◌∙◌, ◌&&◌}
use Rattle.model_network.specs.Shape.{listens_upward, informs_downward}
use Rattle.abt_shape.specs.Parts.{links_in_shape}
use Rattle.abt_shape.proofs.Words.{set_is}
use Rattle.abt_shape.proofs.frames.Frame.links_in_shape.Goals as goal
use Rattle.abt_shape.proofs.frames.Frame.links_in_shape.Goals.{then-listens_upward, else-listens_upward}

pub returns-then-informs_downward : goal.returns-then-informs_downward
unfolding links_in_shape
returns-then-informs_downward c =
    λ w f b l.
    let both : c.if-listens_upward.value ≡ listens_upward w c.args.i && informs_downward w c.args.i =
    elim c.if-listens_upward.branch [
      | then-listens_upward z ↦ rw (← c.listens_upward.ensures w l, z.if-listens_upward.true) (z.value-is ∙ z.informs_downward.ensures w f.count-is (set_is _ _ _ c.requires.0 (f.informs c.args.i)))
      | else-listens_upward z ↦ rw (← c.listens_upward.ensures w l, z.if-listens_upward.false) (z.value-is ∙ z.if-listens_upward.false)
    ] in
    rw (← both, c.if-informs_downward.true) (c.heard.ensures w b f.informs l)

pub returns-else-informs_downward : goal.returns-else-informs_downward
unfolding links_in_shape
returns-else-informs_downward c =
    λ w f b l.
    let both : c.if-listens_upward.value ≡ listens_upward w c.args.i && informs_downward w c.args.i =
    elim c.if-listens_upward.branch [
      | then-listens_upward z ↦ rw (← c.listens_upward.ensures w l, z.if-listens_upward.true) (z.value-is ∙ z.informs_downward.ensures w f.count-is (set_is _ _ _ c.requires.0 (f.informs c.args.i)))
      | else-listens_upward z ↦ rw (← c.listens_upward.ensures w l, z.if-listens_upward.false) (z.value-is ∙ z.if-listens_upward.false)
    ] in
    rw (← both, c.if-informs_downward.false)
