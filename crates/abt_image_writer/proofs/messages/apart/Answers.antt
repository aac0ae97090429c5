-- `apart` gives the parts of which a message's bytes are made, sort by sort.
use Rattle.abt_agent.specs.Abstract.{message_of}
use Rattle.abt_image_writer.proofs.Chains.{info-bytes, back-bytes, link-bytes}
use Rattle.abt_image_writer.proofs.messages.apart.Goals as goal

pub returns-in-Info : goal.returns-in-Info
unfolding message_of
returns-in-Info c = λ next. rw c.in-Info.is (info-bytes _ next)

pub returns-in-Back : goal.returns-in-Back
unfolding message_of
returns-in-Back c = λ next. rw (c.in-Back.is, c.unpack.ensures) (back-bytes _ _ next)

pub returns-in-AddLink : goal.returns-in-AddLink
unfolding message_of
returns-in-AddLink c = λ next. rw c.in-AddLink.is (link-bytes next)
