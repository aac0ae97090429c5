-- The work as it begins: it ends at once where the shape is broken or a delivery is refused by its numbers, a verdict or an empty line; nothing is ahead before
-- a run's first round, and one line where a delivery has found a message.
use Rattle.std.proofs.Common.{ℕ, ◌+◌, ◌-◌, ◌≤◌, Bool, true, false, not, ◌&&◌, ◌≡◌, refl, sym, ap, ◌∙◌, ◌≢◌, Some, Option, None, List, [], ◌∷◌, arith, eqb, length, replicate, eqb-true, ne_eqb}
use mathlib.Core.Bool.{false≢true}
use Rattle.model_base.specs.Finite.{at, within, any}
use Rattle.model_base.proofs.Arrays.{get_or-same}
use Rattle.model_base.proofs.Gathers.{gather-one, gather_none}
use Rattle.model_base.proofs.Search.{at_same, at_other}
use Rattle.model_base.proofs.Tests.{test, to-within, both, to_both}
use Rattle.model_agent.specs.Message.{Message as Message', nobody}
use Rattle.model_agent.specs.Shape.{max_named}
use Rattle.abt_packed.specs.Packed.{assignment}
use Rattle.abt_packed.proofs.Digits.{nobody-assigned}
use Rattle.abt_choosing.specs.declared.Conflicts.{Conflicts}
use Rattle.model_network.specs.Shape.{in_shape}
use Rattle.model_network.specs.Delivery.{
  Rejection as Rejection',
  BadNumbers,
  VerdictStands,
  EmptyChannel,
  rejection_number as rejection_number',
  answer_number,
  rejecting,
  numbers_good,
  deliver_head,
  deliver,
}
use Rattle.model_network.specs.Run.{idle, stopped as stopped', passed_over, tally, sweep, one_if, is_line, is_stuck}
use Rattle.theorems_shape.proofs.RunFaults.{Tried, tried}
use Rattle.model_base.proofs.Counting.{count_if}
use Rattle.abt_record.specs.declared.Network.{Network}
use Rattle.abt_record.specs.Abstract.{is_channel, row_of, problem_of, network_of}
use Rattle.abt_record.proofs.Zeros.{zero_row}
use Rattle.abt_record_laws.specs.Held.{held_at, Clean}
use Rattle.abt_record_laws.proofs.Changes.{FullArrays, counted, counted-sized, counted-channel, channel-held}
use Rattle.abt_record_laws.proofs.Stepping.{few-agents}
use Rattle.abt_record_laws.proofs.Rejecting.{bad-shape, bad-numbers, stands, tries as finds}
use Rattle.abt_engine.specs.Lines.{line, cell, row, ahead}
use Rattle.abt_engine.specs.Working.{ends_by, tested_by, Worked, stopped_with, delivered_as, ran_as}
use Rattle.abt_engine.specs.Tasks.{allowed_of, work_by}
use Rattle.abt_engine.specs.declared.Task.{Task}
use Rattle.abt_engine.specs.declared.Task.TheVariants.{Deliver, Run}
use Rattle.support_rejection.proofs.Numbers.{refusal-some}
use Rattle.support_rejection.specs.Rejections.{rejection_number}
use Rattle.support_rejection.specs.declared.Rejection.{Rejection}
use Rattle.support_rejection.specs.declared.Rejection.TheVariants.{
  BadShape as Shapeless,
}
use Rattle.abt_engine.specs.declared.Ending.{Ending}
use Rattle.abt_engine.specs.declared.Ending.TheVariants.{Broken}
use Rattle.abt_engine.specs.Answers.{ending_of, WorksAs}
use Rattle.abt_engine.proofs.Ahead.{ahead_none}
use Rattle.abt_engine.proofs.Resuming.{onward, further, tries}
use Rattle.abt_engine.proofs.Testing.{never-five, Good, Tested, is-bad, is-over, is-empty, is_found, tests}
use Rattle.abt_engine.proofs.After.{round_number, one_number, word-once}
use Rattle.abt_engine.proofs.Visits.{Waits, idle-by}
use Rattle.abt_engine.proofs.Here.{sweep_of, stopped_as, single, rounds, Live, Here, Settled}

-- rows that hold what the counts hold, and nothing else
pub record Rows (counts rows : List ℕ) : Type 0 where
  pub width : length rows ≡ 12
  pub held : (i j : ℕ) → row_of rows i j ≡ held_at counts i j

-- how the work on a task begins on n agents: whether it is a delivery, the sender, its lines ahead and the rounds left. A run has no line ahead, a delivery the
-- one that it has found a message on
pub data Began (task : Task) (n : ℕ) (unsolvable : Bool) (rows : List ℕ) (begin : Bool × ℕ × ℕ × ℕ) : Type 0 where
  running : (allowed : ℕ) → task ≡ Run allowed → begin ≡ (false, n, 0, allowed) → Began task n unsolvable rows begin
  found : (i j rest : ℕ) → task ≡ Deliver i j → begin ≡ (true, i, rest, 0) → 0 ≡ tested_by n unsolvable rows i j
      → assignment rest ≡ at (assignment 0) j (assignment 0 j + 1) → Began task n unsolvable rows begin

-- ---- clean rows

module _ (r : Network) (rows : List ℕ) (h : Rows r.counts rows) where
  held-if : (i j : ℕ) → is_channel i j ≡ true → row_of rows i j ≡ row_of r.counts i j
  unfolding held_at
  held-if i j b = h.held i j ∙ rw (b, held_at)

  rows-clean : Clean rows
  unfolding held_at
  rows-clean i j = test (is_channel i j) (λ b. rw (b, held_at)) (λ b. h.held i j ∙ rw (b, held_at))

  rows-network : network_of (counted r rows) ≡ network_of r
  unfolding network_of problem_of
  rows-network =
      let e = counted-channel r rows (λ i j b. held-if i j b) in
      λ k. record { problem = (network_of r).problem; rule = r.rule; unsolvable = r.unsolvable; agents = (network_of r).agents; channel = e k }

-- ---- no bars are worked out, and no line has a quota

-- one line alone
one-ahead : (n i j rest : ℕ) → 1 ≤ j → j ≤ 16 → assignment rest ≡ at (assignment 0) j (assignment 0 j + 1)
    → ahead (replicate 12 0) n i rest ≡ line i j ∷ []
unfolding nobody max_named
one-ahead n i j rest lo hi e =
    let one : assignment rest j ≡ 1 = rw (e, at_same (assignment 0) j (assignment 0 j + 1), nobody-assigned) in
    let others : (k : ℕ) → k ≢ j → assignment rest k ≡ 0 = λ k d. rw (e, at_other (assignment 0) j (assignment 0 j + 1) k d, nobody-assigned) in
    rw (gather-one 16 1 j (cell (assignment rest) i) lo (omega arith) (λ k d. ap (λ (v : ℕ). replicate v (line i k)) (others k d)), one, gather_none (n - i) (i + 1) (λ x. row (row_of (replicate 12 0) x) x) (λ x l u. gather_none 16 1 (cell (row_of (replicate 12 0) x) x) (λ y a b. ap (λ (v : ℕ). replicate v (line x y)) (zero_row 12 x y))))

-- ---- the work begins, or ends at once

-- the work that ends here, with this refusal
stopped : {whole : Worked} (o : Network) (r : Rejection) (x : Ending) → whole ≡ stopped_with (network_of o) (rejection_number r)
    → ending_of x ≡ ends_by true o.unsolvable (idle (network_of o)) (rejection_number r)
    → WorksAs whole (record { network = o; rounds = 0; rejection = Some r; ending = x })
unfolding stopped_with network_of
stopped o r x e s =
    record {
      network = sym (ap (λ (q : Worked). q.network) e);
      rounds = sym (ap (λ (q : Worked). q.made) e);
      number = sym (ap (λ (q : Worked). q.number) e);
      ending = s ∙ sym (ap (λ (q : Worked). q.ending) e);
    }

-- the shape is broken
pub breaks : (task : Task) (r : Network) → in_shape (network_of r) ≡ false
    → WorksAs (work_by task (network_of r)) (record { network = r; rounds = 0; rejection = Some Shapeless; ending = Broken })
unfolding work_by delivered_as rejecting answer_number rejection_number' ending_of ends_by
breaks (Deliver i j) r s = stopped r Shapeless Broken (ap delivered_as (bad-shape (network_of r) i j s)) refl
breaks (Run allowed) r s = stopped r Shapeless Broken (rw (s, work_by)) refl

module _ (r : Network) (rows : List ℕ) (h : Rows r.counts rows) (s : in_shape (network_of r) ≡ true) where
  abbrev o : Network
  o = counted r rows

  same-network : network_of o ≡ network_of r
  same-network = rows-network r rows h

  o-shape : in_shape (network_of o) ≡ true
  o-shape = rw same-network s

  o-few : r.count ≤ 12
  o-few = few-agents r s

  o-live : Live o r.count o.domains o.bans (replicate 12 None)
  o-live =
      record {
        shape = o-shape;
        count = refl;
        clean = rows-clean r rows h;
        owned = refl;
        table = refl;
        beside = refl;
        barred = λ i l u. rw (get_or-same {A = Option Conflicts} 12 None (i - 1)) tt;
      }

  verdict-is : (b : Bool) → r.unsolvable ≡ b → (network_of o).unsolvable ≡ b
  unfolding network_of
  verdict-is b e = e

  -- what the tests of a delivery mean
  module _ (i j : ℕ) where
    numbers-bad : within r.count i && within r.count j && not (eqb i j) ≡ false → numbers_good (network_of o) i j ≡ false
    unfolding numbers_good network_of problem_of
    numbers-bad e = e

    good-numbers : Good r.count i j → numbers_good (network_of o) i j ≡ true
    unfolding numbers_good network_of problem_of
    good-numbers good =
        to_both _ _ (to_both _ _ (to-within r.count i good.from_low good.from-high) (to-within r.count j good.to_low good.to_high))
        (rw (ne_eqb i j good.apart))

    nothing : row_of rows i j ≡ 0 → (network_of o).channel i j ≡ []
    nothing e = empty ((network_of o).channel i j) (channel-held o i j ∙ sym (rows-clean r rows h i j) ∙ e)
      where
        empty : (ms : List Message') → length ms ≡ 0 → ms ≡ []
        empty [] q = refl
        empty (m ∷ ms) q = absurd (omega arith)

    finds-nothing : Good r.count i j → r.unsolvable ≡ false → row_of rows i j ≡ 0 → deliver (network_of o) i j ≡ rejecting EmptyChannel (network_of o)
    unfolding deliver_head
    finds-nothing x v y = finds (network_of o) i j o-shape (good-numbers x) (verdict-is false v) [] (nothing y)

    -- a delivery that is refused
    refuses : (x : Rejection') (number : ℕ) → number ≡ rejection_number' x → deliver (network_of o) i j ≡ rejecting x (network_of o)
        → work_by (Deliver i j) (network_of r) ≡ stopped_with (network_of o) number
    unfolding work_by delivered_as rejecting answer_number
    refuses x number e d = ap (work_by (Deliver i j)) (sym same-network) ∙ rw e (ap delivered_as d)

  pub refused : (i j : ℕ) (why : Rejection) → rejection_number why ≡ tested_by r.count r.unsolvable rows i j → (w : Bool) → Waits o r.count w
      → (x : Ending) → ending_of x ≡ ends_by false r.unsolvable (not w) 0
      → WorksAs (work_by (Deliver i j) (network_of r)) (record { network = o; rounds = 0; rejection = Some why; ending = x })
  unfolding rejection_number'
  refused i j why t w ew x e =
      stopped o why x (go (tests r.count r.unsolvable rows i j (rejection_number why) t))
      (e ∙ ap (λ (z : Bool). ends_by false r.unsolvable z 0) (idle-by o o-shape (rows-clean r rows h) r.count refl w ew)
      ∙ sym (word-once r.unsolvable (idle (network_of o)) (rejection_number why) (never-five r.count r.unsolvable rows i j (rejection_number why) t)))
    where
      go : Tested r.count r.unsolvable rows i j (rejection_number why)
          → work_by (Deliver i j) (network_of r) ≡ stopped_with (network_of o) (rejection_number why)
      go (is-bad g q) = refuses i j BadNumbers (rejection_number why) q (bad-numbers (network_of o) i j o-shape (numbers-bad i j g))
      go (is-over g v q) = refuses i j VerdictStands (rejection_number why) q (stands (network_of o) i j o-shape (good-numbers i j g) (verdict-is true v))
      go (is-empty g v y q) = refuses i j EmptyChannel (rejection_number why) q (finds-nothing i j g v y)
      go (is_found g v y q) = absurd (refusal-some why q)

  module _ (z : FullArrays r) where
    -- the head of the loop
    abbrev Head : Task → Bool → ℕ → ℕ → ℕ → Type 0
    Head task once from rest left =
        Here once (work_by task (network_of r)) o r.count o.domains o.bans (replicate 12 None) (replicate 12 0) true left 0 once from rest
        × Settled o (replicate 12 0) r.count from rest

    o-sized : FullArrays o
    o-sized = counted-sized r rows z h.width

    runs : (allowed : ℕ) → allowed ≤ 1000000 → Head (Run allowed) false r.count 0 allowed
    unfolding sweep count_if work_by onward one_if is_stuck
    runs allowed few =
        let none_ahead : ahead (replicate 12 0) r.count r.count 0 ≡ [] = ahead_none (replicate 12 0) r.count r.count 0 refl (omega arith) in (
          record {
            sized = o-sized;
            agents = o-few;
            high = omega arith;
            few = omega arith;
            live = o-live;
            waited = 2;
            delivered = 1;
            tried = [];
            stuck_is = refl;
            most = rw none_ahead (omega arith);
            missing = rw none_ahead;
            supplied = rw none_ahead (record { lines = tt; enough = λ x y. omega arith });
            fresh = rw none_ahead tt;
            end = λ t. ran_as (further allowed 0 2 (λ _. []) t);
            kind = rounds refl (λ _. []) (λ t. refl);
            same = ap (work_by (Run allowed)) (sym same-network) ∙ rw (o-shape, work_by, none_ahead);
          },
          λ _. none_ahead,
        )

    -- a delivery that has found a message
    delivers : (i j rest : ℕ) → Good r.count i j → r.unsolvable ≡ false → row_of rows i j ≢ 0
        → assignment rest ≡ at (assignment 0) j (assignment 0 j + 1) → Head (Deliver i j) true i rest 0
    unfolding sweep count_if round_number work_by delivered_as is_line one_if network_of tally stopped' passed_over any
    delivers i j rest good v some-held er =
        let one : ahead (replicate 12 0) r.count i rest ≡ line i j ∷ [] = one-ahead r.count i j rest good.to_low (omega (arith, good.to_high, o-few)) er in (
          record {
            sized = o-sized;
            agents = o-few;
            high = good.from-high;
            few = omega arith;
            live = o-live;
            waited = 2;
            delivered = 0;
            tried = [];
            stuck_is = refl;
            most = rw one (omega arith);
            missing = rw one;
            supplied = rw one (record { lines = (good-numbers i j good, tt); enough = λ x y. enough x y });
            fresh = rw one (refl, tt);
            end = stopped_as;
            kind = single refl refl refl refl (λ t. refl);
            same =
                ap (work_by (Deliver i j)) (sym same-network)
                ∙ rw one
                (ap (stopped_with (deliver (network_of o) i j).network) (sym (one_number (network_of o) i j (deliver (network_of o) i j) answered))
                ∙ ap stopped_as (sym (tries (sweep_of o 0 []) (line i j) v refl)));
          },
          λ t. absurd (false≢true (sym v ∙ t)),
        )
      where
        waits : 1 ≤ length ((network_of o).channel i j)
        waits = omega (arith, channel-held o i j, rows-clean r rows h i j, some-held)

        answered : Tried (network_of o) i j (deliver (network_of o) i j)
        answered = tried (network_of o) i j o-shape (good-numbers i j good) v waits

        enough : (x y : ℕ) → count_if (is_line x y) (line i j ∷ []) ≤ length ((network_of o).channel x y)
        enough x y =
            test (eqb x i && eqb y j)
            (λ t. let q = both (eqb x i) (eqb y j) t in rw (t, eqb-true x i q.0, eqb-true y j q.1) (omega (arith, waits)))
            (λ t. rw t (omega arith))

    pub begins : {task : Task} {b : Bool × ℕ × ℕ × ℕ} → Began task r.count r.unsolvable rows b → allowed_of task ≤ 1000000
        → Head task b.0 b.1 b.2 b.3
    unfolding allowed_of
    begins (running allowed e b) few = rw (e, b) (runs allowed (rw e at few))
    begins (found i j rest e b t d) few = rw (e, b) (go (tests r.count r.unsolvable rows i j 0 t))
      where
        go : Tested r.count r.unsolvable rows i j 0 → Head (Deliver i j) true i rest 0
        go (is-bad g x) = absurd (omega arith)
        go (is-over g v x) = absurd (omega arith)
        go (is-empty g v y x) = absurd (omega arith)
        go (is_found g v y x) = delivers i j rest g v y d
