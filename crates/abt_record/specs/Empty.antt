-- The record of the empty network: "the empty rail (n = 0, all else zero)". Every number in it is zero. A message is an enum and has no zero: every place
-- holds the same one.
use Rattle.std.specs.Prelude.{false, replicate}
use Rattle.abt_agent.specs.Abstract.{none_counted}
use Rattle.abt_agent.specs.declared.Agent.{Agent}
use Rattle.abt_record.specs.declared.Network.{Network}
use Rattle.abt_record.specs.Abstract.{no_place}

unfoldable pub empty_agent : Agent
empty_agent =
    record {
      value = 0;
      last = 0;
      nogood_mask = 0;
      listens = 0;
      informs = 0;
      view = record { digits = 0 };
      nogoods = replicate 8 0;
      sent = none_counted;
      received = none_counted;
    }

unfoldable pub empty_record : Network
empty_record =
    record {
      count = 0;
      rule = 0;
      domains = replicate 12 0;
      bans = replicate 66 0;
      unsolvable = false;
      agents = replicate 12 empty_agent;
      heads = replicate 12 0;
      counts = replicate 12 0;
      places = replicate 1056 no_place;
    }
