-- What holds at the head of the engine's loop (`Here`): the work left, described at the network as it stands, is the whole work. A single delivery is a
-- round of its own with one line ahead; before its first round a run has none ahead.
use Rattle.std.proofs.Common.{ℕ, ◌+◌, ◌≤◌, Bool, true, false, not, ◌≡◌, List, [], eqb, length, Option}
use Rattle.model_base.specs.Finite.{any}
use Rattle.model_base.proofs.Lists.{All}
use Rattle.abt_choosing.specs.declared.Conflicts.{Conflicts}
use Rattle.model_network.specs.Shape.{in_shape}
use Rattle.model_network.specs.Run.{Line, Try, Sweep, passed_by, sweep, Round}
use Rattle.theorems_shape.proofs.RunFaults.{Supplied}
use Rattle.abt_record.specs.declared.Network.{Network}
use Rattle.abt_record.specs.Abstract.{network_of}
use Rattle.abt_record_laws.specs.Held.{Clean}
use Rattle.abt_record_laws.proofs.Changes.{FullArrays}
use Rattle.abt_engine.specs.Lines.{ahead}
use Rattle.abt_engine.specs.Working.{Worked, stopped_with, ran_as}
use Rattle.abt_engine.proofs.After.{round_number}
use Rattle.abt_engine.proofs.Resuming.{further}
use Rattle.abt_engine.proofs.Barrings.{Barred}

-- a round on its way, as the code has it
abbrev pub sweep_of : Network → ℕ → List Try → Sweep
sweep_of o delivered tried = record { network = network_of o; delivered = delivered; tried = tried }

-- what a single delivery comes to
abbrev pub stopped_as : Sweep → Worked
stopped_as t = stopped_with t.network (round_number t.delivered)

-- none of the lines is passed over
abbrev pub Fresh : List Try → List Line → Type 0
Fresh tried ls = All (λ l. any (passed_by l) tried ≡ false) ls

pub data Kind (once missed : Bool) (left made waited : ℕ) (end : Sweep → Worked) : Type 0 where
  -- a single delivery: no round counts
  single : once ≡ true → missed ≡ true → left ≡ 0 → made ≡ 0 → ((t : Sweep) → end t ≡ stopped_as t) → Kind once missed left made waited end
  -- a round of a run
  rounds : once ≡ false → (after : Sweep → List Round) → ((t : Sweep) → end t ≡ ran_as (further left made waited after t))
      → Kind once missed left made waited end

-- what a network in shape has
pub record Live (o : Network) (n : ℕ) (domains bans : List ℕ) (bars : List (Option Conflicts)) : Type 0 where
  pub shape : in_shape (network_of o) ≡ true
  pub count : n ≡ o.count
  pub clean : Clean o.counts
  pub owned : domains ≡ o.domains
  pub table : bans ≡ o.bans
  pub beside : length bars ≡ 12
  pub barred : Barred bans o.agents bars

-- what was delivered and what is ahead is all that waited when the round began, exactly if nothing was missed; the round is stuck if it has delivered
-- nothing; no line ahead is passed over
pub record Here (once : Bool) (whole : Worked) (o : Network) (n : ℕ) (domains bans : List ℕ) (bars : List (Option Conflicts)) (quota : List ℕ)
    (missed : Bool) (left made : ℕ) (stuck : Bool) (i rest : ℕ) : Type 0 where
  pub sized : FullArrays o
  pub agents : n ≤ 12
  pub high : i ≤ n
  pub few : made + left ≤ 1000000
  pub live : Live o n domains bans bars
  pub waited : ℕ
  pub delivered : ℕ
  pub tried : List Try
  pub stuck_is : stuck ≡ eqb delivered 0
  pub most : delivered + length (ahead quota n i rest) ≤ waited
  pub missing : missed ≡ not (eqb (delivered + length (ahead quota n i rest)) waited)
  pub supplied : Supplied (ahead quota n i rest) (network_of o)
  pub fresh : Fresh tried (ahead quota n i rest)
  pub end : Sweep → Worked
  pub kind : Kind once missed left made waited end
  pub same : whole ≡ end (sweep (sweep_of o delivered tried) (ahead quota n i rest))

-- where a verdict stands, none is ahead
abbrev pub Settled : Network → List ℕ → ℕ → ℕ → ℕ → Type 0
Settled o quota n i rest = o.unsolvable ≡ true → ahead quota n i rest ≡ []
