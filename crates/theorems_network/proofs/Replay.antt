-- A run, and a list of calls, leave what their tries leave when they are delivered one by one, and a run saw them answered so: every round
-- follows its tries, and a run's rounds follow one another.
use Rattle.std.proofs.Common.{◌≡◌, refl, sym, ap, ◌∙◌, List, [], ◌∷◌, ◌++◌, map, append-nil, append_assoc, ℕ}
use Rattle.model_network.specs.Network.{Network}
use Rattle.model_network.specs.Run.{Round, round, run}
use Rattle.theorems_network.specs.Calls.{
  Call,
  Deliver,
  Run,
  line_of,
  tries_of,
  answer_of,
  answers_of,
  tried_by,
  left_by,
  left_by_all,
  tried_by_all,
  attempt_of,
  replay,
}
use Rattle.theorems_network.specs.Claims.{Replay}
use Rattle.theorems_network.proofs.Tries.{replay-problem, replay-append, Follows, follows-none, follows-append}
use Rattle.theorems_shape.proofs.Runs.{round_of, kept-by-rounds}
use Rattle.theorems_network.proofs.Swept.{round-swept}

-- ---- a run

tries-snoc : (rs : List Round) (r : Round) → tries_of (rs ++ (r ∷ [])) ≡ tries_of rs ++ map line_of r.tried
unfolding tries_of
tries-snoc [] r = append-nil (map line_of r.tried)
tries-snoc (s ∷ rs) r = rw (tries-snoc rs r) (sym (append_assoc (map line_of s.tried) (tries_of rs) (map line_of r.tried)))

answers-snoc : (rs : List Round) (r : Round) → answers_of (rs ++ (r ∷ [])) ≡ answers_of rs ++ map answer_of r.tried
unfolding answers_of
answers-snoc [] r = append-nil (map answer_of r.tried)
answers-snoc (s ∷ rs) r =
    rw (answers-snoc rs r) (sym (append_assoc (map answer_of s.tried) (answers_of rs) (map answer_of r.tried)))

-- the rounds made so far, from w to w'
abbrev pub FollowsRounds : Network → List Round → Network → Type 0
FollowsRounds w rs w' = Follows w (tries_of rs) (answers_of rs) w'

pub rounds-none : (w : Network) → FollowsRounds w [] w
unfolding tries_of answers_of
rounds-none w = follows-none w

pub rounds-more : (w w' : Network) (rs : List Round) → FollowsRounds w rs w'
    → FollowsRounds w (rs ++ (round_of w' ∷ [])) (round w').network
unfolding round_of
rounds-more w w' rs F =
    rw (tries-snoc rs (round_of w'), answers-snoc rs (round_of w')) (follows-append F (round-swept w').follows)

pub run-follows : (k : ℕ) (w : Network) → FollowsRounds w (run k w).rounds (run k w).network
run-follows k w =
    kept-by-rounds (λ made rs w'. FollowsRounds w rs w') (λ made rs w' v i F. rounds-more w w' rs F) k w (rounds-none w)

pub run-replays : Replay
run-replays k w = record { leaves = (run-follows k w).leaves; refuses = (run-follows k w).sees }

-- .. of the same problem
pub run-problem : (k : ℕ) (w : Network) → (run k w).network.problem ≡ w.problem
run-problem k w = ap (λ (v : Network). v.problem) (sym (run-follows k w).leaves) ∙ replay-problem (tries_of (run k w).rounds) w

-- ---- a list of calls

pub call-replay : (c : Call) (w : Network) → left_by c w ≡ replay (tried_by c w) w
unfolding left_by tried_by attempt_of replay
call-replay (Deliver i j) w = refl
call-replay (Run k) w = sym (run-follows k w).leaves

pub calls-replay : (calls : List Call) (w : Network) → left_by_all calls w ≡ replay (tried_by_all calls w) w
unfolding left_by_all tried_by_all replay
calls-replay [] w = refl
calls-replay (c ∷ cs) w =
    rw (replay-append (tried_by c w) (tried_by_all cs (left_by c w)) w, ← call-replay c w) (calls-replay cs (left_by c w))
