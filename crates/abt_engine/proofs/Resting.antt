-- The engine's loop between two rounds: the work stops, with its number and its word, or a round begins.
use Rattle.std.proofs.Common.{ℕ, zero, suc, ◌+◌, ◌-◌, ◌≤◌, Bool, true, false, not, cond, ◌&&◌, ◌||◌, Option, ◌≡◌, refl, sym, ap, ◌∙◌, ◌≢◌, List, [], ◌∷◌, ◌++◌, arith, add-zero, eqb, length, eq-eqb, ne_eqb}
use mathlib.Core.Bool.{false≢true}
use Rattle.model_base.specs.Finite.{any}
use Rattle.model_base.proofs.Tests.{test, not-not, or_left, or_right}
use Rattle.abt_choosing.specs.declared.Conflicts.{Conflicts}
use Rattle.model_network.specs.Network.{Network as Network'}
use Rattle.model_network.specs.Delivery.{rejection_number}
use Rattle.model_network.specs.Run.{Line, idle, visits, Sweep, begin_round, sweep, ending_number, ending_at, finish, one_if, is_stuck}
use Rattle.model_network.proofs.Rounds.{one_at_most}
use Rattle.theorems_shape.proofs.RunFaults.{visits-supplied}
use Rattle.abt_record.specs.declared.Network.{Network}
use Rattle.abt_record.specs.Abstract.{network_of}
use Rattle.abt_engine.specs.Lines.{rows, ahead}
use Rattle.abt_engine.specs.Working.{ends_by, Worked, stopped_with, ran_as}
use Rattle.abt_engine.specs.Answers.{ending_of, WorksAs}
use Rattle.abt_engine.specs.declared.Ending.{Ending}
use Rattle.support_rejection.specs.declared.Rejection.{Rejection}
use Rattle.abt_engine.specs.Refused.{rejected_number}
use Rattle.abt_engine.proofs.After.{round_number, round-not-five, stuck-number, word-once}
use Rattle.abt_engine.proofs.Ahead.{ahead-all}
use Rattle.abt_engine.proofs.Visits.{visits-are, Waits, idle-by}
use Rattle.abt_engine.proofs.Resuming.{onward, recorded, further, stops, goes_on}
use Rattle.abt_engine.proofs.Here.{sweep_of, Fresh, Kind, single, rounds, Here, Settled}

-- ---- numbers and words

-- a run ends with 10 where its last round was stuck, and has no number of its own
ending-number : (w : Network') (stuck : Bool) → ending_number (ending_at w stuck) ≡ 0
unfolding ending_at ending_number
ending-number w stuck =
    test w.unsolvable
    (λ v. rw (v, ending_at))
    (λ v. test (idle w)
    (λ z. rw (v, ending_at, z))
    (λ z. test stuck (λ e. rw (v, ending_at, z, e)) (λ e. rw (v, ending_at, z, e))))

run-ending : (w : Network') (d : ℕ) → ends_by false w.unsolvable (idle w) (round_number d) ≡ ending_at w (eqb d 0)
unfolding ends_by ending_at round_number rejection_number
run-ending w zero = refl
run-ending w (suc d) = rw (ne_eqb (suc d) 0 (λ e. absurd (omega arith)))

-- the rounds made, counted on if nothing was missed
pub one_more : (made m : ℕ) (missed : Bool) → not missed ≡ true → m ≡ made + 1 → m ≡ made + one_if (not missed)
unfolding one_if
one_more made m missed t e = rw t e

pub no_more : (made m : ℕ) (missed : Bool) → not missed ≡ false → m ≡ made → m ≡ made + one_if (not missed)
unfolding one_if
no_more made m missed t e = rw (t, e) (sym (add-zero made))

-- why the work stops between two rounds, as the code tests it
pub data Stop (unsolvable stuck waits : Bool) (left : ℕ) : Type 0 where
  verdict-stands : unsolvable ≡ true → Stop unsolvable stuck waits left
  round-stuck : stuck ≡ true → Stop unsolvable stuck waits left
  nothing-waits : waits ≡ false → Stop unsolvable stuck waits left
  rounds-used : left ≡ 0 → Stop unsolvable stuck waits left

stop-test : {unsolvable stuck waits : Bool} {left : ℕ} → Stop unsolvable stuck waits left → unsolvable || stuck || not waits || eqb left 0 ≡ true
stop-test {unsolvable} {stuck} {waits} {left} (verdict-stands e) = or_left (unsolvable || stuck || not waits) (eqb left 0) (or_left (unsolvable || stuck) (not waits) (or_left unsolvable stuck e))
stop-test {unsolvable} {stuck} {waits} {left} (round-stuck e) = or_left (unsolvable || stuck || not waits) (eqb left 0) (or_left (unsolvable || stuck) (not waits) (or_right unsolvable stuck e))
stop-test {unsolvable} {stuck} {waits} {left} (nothing-waits e) = or_left (unsolvable || stuck || not waits) (eqb left 0) (or_right (unsolvable || stuck) (not waits) (rw e))
stop-test {unsolvable} {stuck} {waits} {left} (rounds-used e) = or_right (unsolvable || stuck || not waits) (eqb left 0) (eq-eqb left 0 e)

module _ {once : Bool} {whole : Worked} {o : Network} {n : ℕ} {domains bans : List ℕ} {bars : List (Option Conflicts)}
    {quota : List ℕ} {missed : Bool} {left made : ℕ} {stuck : Bool} {i rest : ℕ}
    (h : Here once whole o n domains bans bars quota missed left made stuck i rest)
    (none_ahead : ahead quota n i rest ≡ []) where
  abbrev now : Sweep
  now = sweep_of o h.delivered h.tried

  at-end : whole ≡ h.end now
  unfolding sweep
  at-end = h.same ∙ ap (λ (x : List Line). h.end (sweep now x)) none_ahead

  full_is : not missed ≡ eqb h.delivered h.waited
  full_is =
      let plain : h.delivered + 0 ≡ h.delivered = omega arith in
      let e : missed ≡ not (eqb h.delivered h.waited) = rw (none_ahead, plain) at h.missing in
      ap not e ∙ not-not (eqb h.delivered h.waited)

  module _ (m : ℕ) (d : m ≡ made + one_if (not missed)) (w : Bool) (ew : Waits o n w) where
    made-is : m ≡ made + one_if (eqb h.delivered h.waited)
    made-is = d ∙ ap (λ (b : Bool). made + one_if b) full_is

    few-made : m ≤ made + 1
    few-made = omega (arith, d, one_at_most (not missed))

    idle-now : not w ≡ idle (network_of o)
    idle-now = idle-by o h.live.shape h.live.clean n h.live.count w ew

    -- the test for a stop, by the definitions
    stop_is : (network_of o).unsolvable || is_stuck now || idle (network_of o) || eqb left 0 ≡ o.unsolvable || stuck || not w || eqb left 0
    unfolding network_of is_stuck
    stop_is = rw (h.stuck_is, ← idle-now)

    module _ (stop : Stop o.unsolvable stuck w left) (x : Ending) (rejection : Option Rejection)
        (s : ending_of x ≡ ends_by false o.unsolvable (not w) (cond (not once && stuck) 10 0)) (t : rejected_number rejection ≡ cond (once && stuck) 10 0) where
      word-of : (b : Bool) → once ≡ b → ending_of x ≡ ends_by b o.unsolvable (idle (network_of o)) (round_number h.delivered)
      word-of true e =
          s ∙ rw (e, idle-now) (sym (word-once o.unsolvable (idle (network_of o)) (round_number h.delivered) (round-not-five h.delivered)))
      word-of false e = s ∙ rw (e, idle-now) (ap (ends_by false o.unsolvable (idle (network_of o))) (stuck-number h.delivered stuck h.stuck_is))

      pub work-stops : WorksAs whole (record { network = o; rounds = m; rejection = rejection; ending = x })
      unfolding finish network_of one_if stopped_with ran_as is_stuck
      work-stops = go h.kind
        where
          go : Kind once missed left made h.waited h.end → WorksAs whole (record { network = o; rounds = m; rejection = rejection; ending = x })
          go (single b y _ f q) =
              let done : whole ≡ stopped_with (network_of o) (round_number h.delivered) = at-end ∙ q now in
              record {
                network = sym (ap (λ (q : Worked). q.network) done);
                rounds = d ∙ rw (y, f) (sym (ap (λ (q : Worked). q.made) done));
                number = t ∙ rw b (stuck-number h.delivered stuck h.stuck_is) ∙ sym (ap (λ (q : Worked). q.number) done);
                ending = word-of true b ∙ sym (ap (λ (q : Worked). q.ending) done);
              }
          go (rounds b after q) =
              let w' = network_of o in
              let done : whole ≡ ran_as (finish w' m (after now) (is_stuck now)) =
              at-end
              ∙ q now
              ∙ ap ran_as (ap (λ (q : ℕ). onward (is_stuck now) left q (after now) w') (sym made-is) ∙ stops (is_stuck now) left m (after now) w' (stop_is ∙ stop-test stop)) in
              record {
                network = sym (ap (λ (q : Worked). q.network) done);
                rounds = sym (ap (λ (q : Worked). q.made) done);
                number = t ∙ rw b (sym (ending-number w' (is_stuck now)) ∙ sym (ap (λ (q : Worked). q.number) done));
                ending = word-of false b ∙ run-ending w' h.delivered ∙ sym (ap (λ (q : Worked). q.ending) done);
              }

    module _ (none : o.unsolvable ≡ false) (moved : stuck ≡ false) (some : w ≡ true) (more : left ≢ 0) where
      on : o.unsolvable || stuck || not w || eqb left 0 ≡ false
      on = rw (none, moved, some, ne_eqb left 0 more)

      pub round-settled : Settled o o.counts n 0 0
      round-settled t = absurd (false≢true (sym none ∙ t))

      all : visits (network_of o) ≡ ahead o.counts n 0 0
      all =
          visits-are o h.live.shape h.live.clean
          ∙ ap (λ (k : ℕ). rows o.counts k 1) (sym h.live.count)
          ∙ ahead-all o.counts n 0 refl

      abbrev waiting : ℕ
      waiting = length (visits (network_of o))

      unvisited : (ls : List Line) → Fresh [] ls
      unfolding any
      unvisited [] = tt
      unvisited (l ∷ ls) = (refl, unvisited ls)

      pub round-begins : Here once whole o n domains bans bars o.counts false (left - 1) m true 0 0
      unfolding begin_round
      round-begins = go h.kind
        where
          go : Kind once missed left made h.waited h.end
              → Here once whole o n domains bans bars o.counts false (left - 1) m true 0 0
          go (single b y z f q) = absurd (more z)
          go (rounds b after q) =
              record {
                sized = h.sized;
                agents = h.agents;
                high = omega arith;
                few = omega (arith, few-made, h.few, more);
                live = h.live;
                waited = waiting;
                delivered = 0;
                tried = [];
                stuck_is = refl;
                most = rw (← all) (omega arith);
                missing = rw (← all, eq-eqb (0 + waiting) waiting (omega arith));
                supplied = rw (← all) (visits-supplied (network_of o) h.live.shape);
                fresh = unvisited (ahead o.counts n 0 0);
                end = λ t. ran_as (further (left - 1) m waiting (λ u. after now ++ (recorded waiting u ∷ [])) t);
                kind = rounds b (λ u. after now ++ (recorded waiting u ∷ [])) (λ t. refl);
                same =
                    at-end
                    ∙ q now
                    ∙ ap ran_as
                    (ap (λ (q : ℕ). onward (is_stuck now) left q (after now) (network_of o)) (sym made-is)
                    ∙ goes_on (is_stuck now) left (left - 1) m (after now) (network_of o) (omega (arith, more)) (stop_is ∙ on)
                    ∙ ap (λ (ls : List Line). further (left - 1) m waiting (λ u. after now ++ (recorded waiting u ∷ [])) (sweep (begin_round (network_of o)) ls)) all);
              }
