-- Deliveries through the public entry, one more at a time, and then the values.
use Rattle.std.proofs.Common.{ℕ, suc, ◌+◌, ◌*◌, ◌%◌, Option, Result, Ok, Err, ◌≡◌, refl, ap, ◌∙◌, List, get_or}
use Rattle.std.specs.Result.{result_err}
use Rattle.support_rejection.specs.declared.Rejection.{Rejection}
use Rattle.model_network.specs.Network.{Network as Network', Started}
use Rattle.model_network.specs.Delivery.{deliver, ask_value}
use Rattle.abt_record.specs.declared.Network.{Network}
use Rattle.abt_record.specs.Abstract.{network_of}
use Rattle.abt_start.specs.Started.{started_number}
use Rattle.abt_engine.specs.Refused.{rejected_number}
use Rattle.abt.specs.Answers.{DeliversAs}
use Rattle.bench_entry.specs.Giving.{mixed, played_one, played_to, Playing, asked_to, played_for}

-- what refuses a start is its number
refused-start : (r : Result Network Rejection) → rejected_number (result_err r) ≡ started_number r
refused-start (Ok r) = refl
refused-start (Err e) = refl

pub number-given : (r : Result Network Rejection) (e : Option Rejection) → e ≡ result_err r → rejected_number e ≡ started_number r
number-given r e q = rw q (refused-start r)

pub none-played : (s : Started) (calls : List ℕ) (r : Network) (sum : ℕ) → network_of r ≡ s.network → sum ≡ s.number → Playing s calls 0 r sum
unfolding played_to
none-played s calls r sum e n = record { network = e; sum = n }

pub one-played : (s : Started) (calls : List ℕ) (k : ℕ) (r o : Network) (sum number : ℕ) → Playing s calls k r sum
    → DeliversAs r (deliver (network_of r) (get_or calls (2 * k) 0) (get_or calls (2 * k + 1) 0)) number o
    → Playing s calls (suc k) o (sum % 4294967296 * 31 + number)
unfolding played_to played_one mixed
one-played s calls k r o sum number p d =
    record {
      network = d.network ∙ ap (λ (w : Network'). (deliver w (get_or calls (2 * k) 0) (get_or calls (2 * k + 1) 0)).network) p.network;
      sum = rw (d.number, p.sum, p.network);
    }

pub one-asked : (w : Network') (k all sum value : ℕ) → sum ≡ asked_to k w all → value ≡ (ask_value w k).value
    → sum % 4294967296 * 31 + value ≡ asked_to (suc k) w all
unfolding asked_to mixed
one-asked w k all sum value e v = rw (e, v)

pub all_asked : (s : Started) (calls : List ℕ) (n i : ℕ) (r : Network) (all sum : ℕ) → Playing s calls n r all → i ≡ 13
    → sum ≡ asked_to i (network_of r) all → sum ≡ played_for (played_to n s calls)
unfolding played_for
all_asked s calls n i r all sum p f h = rw (h, f, p.network, p.sum)
