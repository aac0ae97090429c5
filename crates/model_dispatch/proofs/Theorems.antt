-- The claims about the dispatcher, proved.
use Rattle.std.proofs.Common.{◌-◌, mul_assoc, arith, length}
use Rattle.model_dispatch.specs.Claims.{ServedInTime, HeadsStay, PicksCounted, PicksDeliver}
use Rattle.model_dispatch.proofs.Picks.{delivers, heads, counted}
use Rattle.model_dispatch.proofs.NetworkTurns.{stands}
use Rattle.model_dispatch.proofs.InTime.{enough-most, served-soon}

pub served-in-time : ServedInTime
served-in-time d l wishes g e h =
    let n = d.network.problem.count in
    let s = stands d.network d.place l g in
    served-soon d l wishes s.before s.after s.whole
    (omega (arith, s.near, mul_assoc 2 n (n - 1), enough-most d.picks (length s.before))) h

pub heads-stay : HeadsStay
heads-stay d wish l n = heads d wish l n

pub picks-counted : PicksCounted
picks-counted d wishes = counted d wishes

pub picks-deliver : PicksDeliver
picks-deliver d wish = delivers d wish
