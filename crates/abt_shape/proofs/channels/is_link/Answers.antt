-- `is_link` tells a link request from the other messages.
-- Sort by sort.
use Rattle.std.proofs.Common.{◌≡◌, refl, false}
use Rattle.abt_agent.specs.Abstract.{message_of}
use Rattle.abt_agent.specs.declared.Message.{Message}
use Rattle.abt_agent.specs.declared.Message.TheVariants.{Info, Back, AddLink}
use Rattle.abt_shape.specs.Parts.{is_link}
use Rattle.abt_shape.proofs.channels.is_link.Goals as goal

pub returns-in-AddLink : goal.returns-in-AddLink
unfolding is_link message_of
returns-in-AddLink c = rw c.in-AddLink.is

other : (m : Message) → (m ≡ AddLink → ⊥) → false ≡ is_link (message_of m)
unfolding is_link message_of
other (Info v) n = refl
other (Back v lhs) n = refl
other AddLink n = absurd (n refl)

pub returns-in_default : goal.returns-in_default
returns-in_default c = other c.args.m c.in_default.not-AddLink
