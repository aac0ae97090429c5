-- What a record of the code can hold of any network at all: views and left sides are digits of base 16, so that a slot counts modulo 16.
-- A network in shape has no slot above 8, and is held as it is.
use Rattle.std.specs.Prelude.{◌%◌, map, None, Option, Some}
use Rattle.model_agent.specs.Message.{Assignment, Message, Info, Back, AddLink}
use Rattle.model_agent.specs.Agent.{Agent}
use Rattle.model_network.specs.Network.{Network}

unfoldable pub narrow_lhs : Assignment → Assignment
narrow_lhs l k = l k % 16

unfoldable pub narrow_reason : Option Assignment → Option Assignment
narrow_reason None = None
narrow_reason (Some lhs) = Some (narrow_lhs lhs)

unfoldable pub narrow_message : Message → Message
narrow_message (Info v) = Info v
narrow_message (Back lhs v) = Back (narrow_lhs lhs) v
narrow_message AddLink = AddLink

unfoldable pub narrow_agent : Agent → Agent
narrow_agent a =
    record {
      value = a.value;
      last = a.last;
      listens = a.listens;
      informs = a.informs;
      view = narrow_lhs a.view;
      nogoods = λ v. narrow_reason (a.nogoods v);
      counts = a.counts;
    }

unfoldable pub narrow : Network → Network
narrow w =
    record {
      problem = w.problem;
      rule = w.rule;
      unsolvable = w.unsolvable;
      agents = λ i. narrow_agent (w.agents i);
      channel = λ i j. map narrow_message (w.channel i j);
    }
