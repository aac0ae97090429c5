-- What the code's values mean: each as the value of the definitions that it stands for. A primed name is the definitions'.
use Rattle.std.specs.Prelude.{ℕ, ◌+◌, ◌*◌, None}
use Rattle.model_base.specs.Finite.{from_one}
use Rattle.model_agent.specs.Message.{
  Assignment as Assignment',
  Message as Message',
  Info as Info',
  Back as Back',
  AddLink as AddLink',
  Post as Post',
}
use Rattle.model_agent.specs.Traffic.{Sort, Infos, Backs, AddLinks, Traffic as Traffic'}
use Rattle.model_agent.specs.Agent.{Agent as Agent'}
use Rattle.model_base.specs.Sets.{members}
use Rattle.abt_packed.specs.Packed.{assignment}
use Rattle.abt_choosing.specs.Choosing.{nogood_at}
use Rattle.abt_agent.specs.declared.Assignment.{Assignment}
use Rattle.abt_agent.specs.declared.PackedAssignment.{PackedAssignment}
use Rattle.abt_agent.specs.declared.Message.{Message}
use Rattle.abt_agent.specs.declared.Message.TheVariants.{Info, Back, AddLink}
use Rattle.abt_agent.specs.declared.Traffic.{Traffic}
use Rattle.abt_agent.specs.declared.Agent.{Agent}
use Rattle.abt_agent.specs.declared.Envelope.{Envelope}

unfoldable pub assigned : Assignment → Assignment'
assigned l = assignment l.digits

-- the word of a left side that a message carries in three
unfoldable pub unpacked : PackedAssignment → ℕ
unpacked p = p.low + 65536 * p.middle + 4294967296 * p.high

unfoldable pub message_of : Message → Message'
message_of (Info v) = Info' v
message_of (Back v p) = Back' (assignment (unpacked p)) v
message_of AddLink = AddLink'

unfoldable pub post_of : Envelope → Post'
post_of p = record { to = p.to; message = message_of p.message }

-- no messages counted
abbrev pub none_counted : Traffic
none_counted = record { infos = 0; backs = 0; links = 0 }

-- one of three counts
unfoldable pub count_of : Traffic → Sort → ℕ
count_of c Infos = c.infos
count_of c Backs = c.backs
count_of c AddLinks = c.links

unfoldable pub counts_of : Traffic → Traffic → Traffic'
counts_of sent received = record { sent = count_of sent; received = count_of received }

unfoldable pub agent_of : Agent → Agent'
agent_of a =
    record {
      value = a.value;
      last = a.last;
      listens = members a.listens;
      informs = members a.informs;
      view = assigned a.view;
      nogoods = from_one None (nogood_at a.nogood_mask a.nogoods);
      counts = counts_of a.sent a.received;
    }
