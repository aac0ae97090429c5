-- What a start hands back. A primed name is the definitions'.
use Rattle.std.specs.Prelude.{ℕ, ◌≡◌, List, Result, Ok, Err}
use Rattle.support_rejection.specs.Rejections.{rejection_number}
use Rattle.support_rejection.specs.declared.Rejection.{Rejection}
use Rattle.model_network.specs.Network.{Network as Network', empty_network, Started as Started'}
use Rattle.abt_record.specs.declared.Network.{Network}
use Rattle.abt_record.specs.Abstract.{network_of}
use Rattle.abt_record.specs.Empty.{empty_record}

-- the empty network's record with a rule and a problem in it, where nobody has begun
unfoldable pub unbegun : ℕ → ℕ → List ℕ → List ℕ → Network
unbegun rule n domains bans =
    record {
      count = n;
      rule = rule;
      domains = domains;
      bans = bans;
      unsolvable = empty_record.unsolvable;
      agents = empty_record.agents;
      heads = empty_record.heads;
      counts = empty_record.counts;
      places = empty_record.places;
    }

-- number 0 and the network, or the refusal's number and the empty network
abbrev pub started_number : Result Network Rejection → ℕ
started_number (Ok r) = 0
started_number (Err e) = rejection_number e

abbrev pub started_network : Result Network Rejection → Network'
started_network (Ok r) = network_of r
started_network (Err e) = empty_network

-- a start is answered as the definitions' start
pub record StartsAs (d : Started') (r : Result Network Rejection) : Type 0 where
  pub number : started_number r ≡ d.number
  pub network : started_network r ≡ d.network
