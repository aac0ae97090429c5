-- Two lists of calls one after the other leave, try, make, hand over and send what the first does and then the second, on the network that the first
-- left. Each by induction along the first.
use Rattle.std.proofs.Common.{◌≡◌, refl, sym, List, [], ◌∷◌, ◌++◌, append_assoc, ℕ, ◌+◌, arith}
use Rattle.model_network.specs.Network.{Network}
use Rattle.model_network.specs.Run.{Line}
use Rattle.theorems_network.specs.Calls.{Call, tried_by, left_by, left_by_all, tried_by_all, made_by_all, attempt_of, replay}
use Rattle.theorems_network.specs.Marking.{parts_of, parts_of_all}
use Rattle.theorems_network.specs.Deeds.{handed_now, handed_to, posts_now, posts_by, handed_in, posts_in}
use Rattle.theorems_network.proofs.Replay.{calls-replay}

pub left-join : (early late : List Call) (w : Network) → left_by_all (early ++ late) w ≡ left_by_all late (left_by_all early w)
unfolding left_by_all
left-join [] late w = refl
left-join (c ∷ early) late w = left-join early late (left_by c w)

pub tried-join : (early late : List Call) (w : Network)
    → tried_by_all (early ++ late) w ≡ tried_by_all early w ++ tried_by_all late (left_by_all early w)
unfolding left_by_all tried_by_all
tried-join [] late w = refl
tried-join (c ∷ early) late w = rw (tried-join early late (left_by c w)) (sym (append_assoc (tried_by c w) (tried_by_all early (left_by c w)) _))

pub made-join : (early late : List Call) (w : Network) → made_by_all (early ++ late) w ≡ made_by_all early w + made_by_all late (left_by_all early w)
unfolding left_by_all made_by_all
made-join [] late w = omega arith
made-join (c ∷ early) late w = omega (arith, made-join early late (left_by c w))

pub parts-join : (early late : List Call) (w : Network)
    → parts_of_all (early ++ late) w ≡ parts_of_all early w ++ parts_of_all late (left_by_all early w)
unfolding left_by_all parts_of_all
parts-join [] late w = refl
parts-join (c ∷ early) late w = rw (parts-join early late (left_by c w)) (sym (append_assoc (parts_of c w) (parts_of_all early (left_by c w)) _))

-- ---- what one agent is handed and sends

handed-lines : (j : ℕ) (ls ms : List Line) (w : Network) → handed_to j (ls ++ ms) w ≡ handed_to j ls w ++ handed_to j ms (replay ls w)
unfolding handed_to replay
handed-lines j [] ms w = refl
handed-lines j (l ∷ ls) ms w =
    let w' = (attempt_of l w).network in
    rw (handed-lines j ls ms w') (sym (append_assoc (handed_now j l w) (handed_to j ls w') _))

posts-lines : (j : ℕ) (ls ms : List Line) (w : Network) → posts_by j (ls ++ ms) w ≡ posts_by j ls w ++ posts_by j ms (replay ls w)
unfolding posts_by replay
posts-lines j [] ms w = refl
posts-lines j (l ∷ ls) ms w =
    let w' = (attempt_of l w).network in
    rw (posts-lines j ls ms w') (sym (append_assoc (posts_now j l w) (posts_by j ls w') _))

pub handed-join : (j : ℕ) (early late : List Call) (w : Network)
    → handed_in j (early ++ late) w ≡ handed_in j early w ++ handed_in j late (left_by_all early w)
unfolding handed_in
handed-join j early late w =
    rw (tried-join early late w, handed-lines j (tried_by_all early w) (tried_by_all late (left_by_all early w)) w, ← calls-replay early w)

pub posts-join : (j : ℕ) (early late : List Call) (w : Network) → posts_in j (early ++ late) w ≡ posts_in j early w ++ posts_in j late (left_by_all early w)
unfolding posts_in
posts-join j early late w =
    rw (tried-join early late w, posts-lines j (tried_by_all early w) (tried_by_all late (left_by_all early w)) w, ← calls-replay early w)
