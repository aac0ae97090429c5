-- The engine's loop within a round: a delivery is tried on a line and accepted, or rejected; after a 10 the rest of the line's visits are passed over, and
-- after a verdict all visits are.
use Rattle.std.proofs.Common.{ℕ, suc, ◌+◌, ◌*◌, ◌%◌, ◌≤◌, Bool, true, false, not, ◌||◌, ◌≡◌, refl, sym, ap, ◌∙◌, List, [], ◌∷◌, ◌++◌, arith, add-zero, eqb, length, replicate, ne_eqb, Option, Some, None, is_some, MatchOption}
use mathlib.Core.Bool.{and-false, or-false}
use Rattle.model_base.specs.Finite.{at, any}
use Rattle.model_base.proofs.Tests.{test, or_right}
use Rattle.model_base.proofs.Search.{at_same}
use Rattle.model_base.proofs.Lists.{All, All-right, All-both, All-map, any_snoc}
use Rattle.model_base.proofs.Counting.{count_if}
use Rattle.model_agent.specs.Message.{Post as Post'}
use Rattle.abt_packed.specs.Packed.{assignment}
use Rattle.abt_choosing.specs.declared.Conflicts.{Conflicts}
use Rattle.model_network.specs.Shape.{in_shape}
use Rattle.model_network.specs.Delivery.{NoRoom, rejection_number, Answer, Accepted, Rejected, Delivery, rejecting, numbers_good, deliver}
use Rattle.model_network.specs.Run.{Line, is_line, Try, Sweep, stopped, is_no_room, passed_by, passed_over, counts, tally, attempt, sweep}
use Rattle.theorems_shape.proofs.Lines.{is-line}
use Rattle.theorems_shape.proofs.Shape.{attempt-keeps}
use Rattle.theorems_shape.proofs.RunFaults.{Supplied, supplied-waits, attempt-supplied}
use Rattle.abt_record.specs.declared.Network.{Network}
use Rattle.abt_record.specs.Abstract.{is_channel, channel_at, network_of}
use Rattle.abt_shape.proofs.Numbering.{Ends, ends}
use Rattle.abt_record_laws.specs.Held.{held_at}
use Rattle.abt_record_laws.proofs.Changes.{FullArrays, word_at, channel-held, held-is}
use Rattle.abt_record_laws.proofs.Handing.{Found, numbers-line}
use Rattle.abt_engine.specs.Lines.{line, ahead, NextVisit}
use Rattle.abt_engine.specs.Working.{Worked}
use Rattle.abt_engine.proofs.Ahead.{ahead_none, ahead-passed, ahead_apart, passed-fewer}
use Rattle.abt_engine.specs.declared.lines.Visit.{Visit}
use Rattle.abt_engine.proofs.Resuming.{sweep-stopped, tries, sweep-over, supplied-over}
use Rattle.abt_engine.proofs.Here.{sweep_of, Fresh, Kind, single, rounds, Live, Here, Settled}

-- fewer are ahead: something was missed
fewer : (d k waited : ℕ) → d + suc k ≤ waited → true ≡ not (eqb (d + k) waited)
fewer d k waited h = rw (ne_eqb (d + k) waited (λ q. absurd (omega arith)))

kind-missed : {once missed : Bool} {left made waited : ℕ} {end : Sweep → Worked} (m : Bool) → (missed ≡ true → m ≡ true)
    → Kind once missed left made waited end → Kind once m left made waited end
kind-missed m f (single b y z e t) = single b (f y) z e t
kind-missed m f (rounds b k t) = rounds b k t

-- after a verdict all visits ahead are passed over, and something was missed if there was one
module _ {once : Bool} {whole : Worked} {o : Network} {n : ℕ} {domains bans : List ℕ} {bars : List (Option Conflicts)}
    {quota : List ℕ} {missed : Bool} {left made : ℕ} {stuck : Bool} {i rest : ℕ}
    (h : Here once whole o n domains bans bars quota missed left made stuck i rest)
    (r : Option Visit) (nv : MatchOption r (ahead quota n i rest ≡ []) (NextVisit quota n i rest)) (some : Bool) (e : some ≡ is_some r) (g : o.unsolvable ≡ true) where
  missed-now : missed || some ≡ not (eqb (h.delivered + 0) h.waited)
  missed-now = rw e (go r nv)
    where
      go : (r : Option Visit) → MatchOption r (ahead quota n i rest ≡ []) (NextVisit quota n i rest)
          → missed || is_some r ≡ not (eqb (h.delivered + 0) h.waited)
      go None e = or-false missed ∙ rw e at h.missing
      go (Some v) e =
          or_right missed true refl
          ∙ fewer h.delivered 0 h.waited (let z = ap length e.some in omega (arith, h.most))

  pub passes-all : Here once whole o n domains bans bars quota (missed || some) left made stuck n 0
  unfolding sweep stopped network_of count_if
  passes-all =
      let none_ahead : ahead quota n n 0 ≡ [] = ahead_none quota n n 0 refl (omega arith) in
      record {
        sized = h.sized;
        agents = h.agents;
        high = omega arith;
        few = h.few;
        live = h.live;
        waited = h.waited;
        delivered = h.delivered;
        tried = h.tried;
        stuck_is = h.stuck_is;
        most = rw none_ahead (omega (arith, h.most));
        missing = rw none_ahead missed-now;
        supplied = rw none_ahead (record { lines = tt; enough = λ x y. omega arith });
        fresh = rw none_ahead tt;
        end = h.end;
        kind = kind-missed (missed || some) (λ e. rw e) h.kind;
        same = rw none_ahead (h.same ∙ ap h.end (sweep-stopped (sweep_of o h.delivered h.tried) g (ahead quota n i rest)));
      }

module _ {once : Bool} {whole : Worked} {o : Network} {n : ℕ} {domains bans : List ℕ} {bars : List (Option Conflicts)}
    {quota : List ℕ} {missed : Bool} {left made : ℕ} {stuck : Bool} {i rest : ℕ}
    (h : Here once whole o n domains bans bars quota missed left made stuck i rest)
    (v : Visit) (nv : NextVisit quota n i rest v) where
  abbrev l : Line
  l = line v.from v.to

  abbrev ls : List Line
  ls = ahead quota n v.from v.rest

  first : ahead quota n i rest ≡ l ∷ ls
  first = nv.some

  fresh : Fresh h.tried (l ∷ ls)
  fresh = rw first at h.fresh

  supply : Supplied (l ∷ ls) (network_of o)
  supply = rw first at h.supplied

  least : h.delivered + suc (length ls) ≤ h.waited
  least = let e = ap length first in omega (arith, h.most)

  abbrev now : Sweep
  now = sweep_of o h.delivered h.tried

  same_first : whole ≡ h.end (sweep (attempt now l) ls)
  unfolding sweep
  same_first = h.same ∙ ap (λ (x : List Line). h.end (sweep now x)) first

  -- no verdict stands
  pub no-verdict : Settled o quota n i rest → o.unsolvable ≡ false
  no-verdict s = test o.unsolvable (λ t. let z = ap length (sym first ∙ s t) in absurd (omega arith)) (λ t. t)

  line-numbers : numbers_good (network_of o) v.from v.to ≡ true
  line-numbers = supply.lines.0

  pub line-channel : is_channel v.from v.to ≡ true
  line-channel = numbers-line (network_of o) v.from v.to h.live.shape line-numbers

  pub line-ends : Ends v.from v.to
  line-ends = ends v.from v.to line-channel

  line-held : 1 ≤ held_at o.counts v.from v.to
  line-held = rw (← channel-held o v.from v.to) (supplied-waits l ls (network_of o) supply)

  module _ (g : o.unsolvable ≡ false) where
    -- a delivery is tried, and finds a message
    pub finds : (c x y : ℕ) → c ≡ channel_at v.from v.to → x ≡ assignment (word_at o.heads v.from) v.to → y ≡ 8 * c + (x + 0) % 8
        → Found o v.from v.to y
    finds c x y ec eg ex =
        record {
          sized = h.sized;
          shape = h.live.shape;
          numbers = line-numbers;
          running = g;
          waits = λ k. absurd (omega (arith, line-held, held-is o.counts v.from v.to line-channel, k));
          place = rw (← ec, ← eg) ex;
        }

    tried-now : (d : Delivery) → deliver (network_of o) v.from v.to ≡ d → attempt now l ≡ tally now l d
    unfolding stopped passed_over network_of
    tried-now d e = tries now l g fresh.0 ∙ ap (tally now l) e

    -- a delivery with this answer leaves the network p
    module _ (p : Network) (bars' : List (Option Conflicts)) (m : Bool) (a : Answer) (stuck' : Bool) (d : Delivery)
        (tried : deliver (network_of o) v.from v.to ≡ d) (net : d.network ≡ network_of p) (ans : d.answer ≡ a)
        (sized : FullArrays p) (live : in_shape (network_of p) ≡ true → Live p n domains bans bars')
        (misses : missed ≡ true → m ≡ true) (still : stuck' ≡ eqb (h.delivered + counts a) 0) where
      abbrev try : Try
      try = record { line = l; answer = a }

      abbrev later : Sweep
      later = sweep_of p (h.delivered + counts a) (h.tried ++ (try ∷ []))

      after : attempt now l ≡ later
      unfolding tally
      after = tried-now d tried ∙ rw (net, ans)

      network-after : (attempt now l).network ≡ network_of p
      network-after = ap (λ (x : Sweep). x.network) after

      -- .. and these visits
      module _ (rest' : ℕ) (over : sweep later ls ≡ sweep later (ahead quota n v.from rest'))
          (supplies : Supplied ls (network_of p) → Supplied (ahead quota n v.from rest') (network_of p))
          (others : All (λ x. (any (passed_by x) h.tried ≡ false) × (passed_by x try ≡ false)) (ahead quota n v.from rest'))
          (counted : (m ≡ not (eqb (h.delivered + counts a + length (ahead quota n v.from rest')) h.waited))
          × (h.delivered + counts a + length (ahead quota n v.from rest') ≤ h.waited)) where
        tried-one : Here once whole p n domains bans bars' quota m left made stuck' v.from rest'
        tried-one =
            record {
              sized = sized;
              agents = h.agents;
              high = nv.high;
              few = h.few;
              live = live (rw network-after at (attempt-keeps now l h.live.shape));
              waited = h.waited;
              delivered = h.delivered + counts a;
              tried = h.tried ++ (try ∷ []);
              stuck_is = still;
              most = counted.1;
              missing = counted.0;
              supplied = supplies (rw network-after at (attempt-supplied now l ls h.live.shape supply));
              fresh = All-map _ _ (λ x q. any_snoc (passed_by x) h.tried try ∙ rw (q.0, q.1)) (ahead quota n v.from rest') others;
              end = h.end;
              kind = kind-missed m misses h.kind;
              same = same_first ∙ ap (λ (x : Sweep). h.end (sweep x ls)) after ∙ ap h.end over;
            }

    -- no room: the rest of the line's visits are passed over. Places beyond the channels' ends are free to have changed.
    module _ (p : Network) (bars' : List (Option Conflicts)) (rest' : ℕ) (tried : deliver (network_of o) v.from v.to ≡ rejecting NoRoom (network_of o))
        (net : network_of p ≡ network_of o) (sized : FullArrays p) (live : Live p n domains bans bars')
        (cut : assignment rest' ≡ at (assignment v.rest) v.to 0) where
      abbrev more : List Line
      more = ahead quota n v.from rest'

      visits-left : ls ≡ replicate (assignment v.rest v.to) l ++ more
      visits-left = ahead-passed quota n v.from v.rest v.to rest' line-ends.to_low (omega (arith, line-ends.to_high)) nv.least cut

      few-left : length more ≤ length ls
      few-left = passed-fewer quota n v.from v.rest v.to rest' line-ends.to_low (omega (arith, line-ends.to_high)) nv.least cut

      abbrev refused : Try
      refused = record { line = l; answer = Rejected NoRoom }

      abbrev jammed : Sweep
      jammed = sweep_of p (h.delivered + 0) (h.tried ++ (refused ∷ []))

      passed : passed_over jammed l ≡ true
      unfolding passed_over passed_by is_no_room rejection_number
      passed = any_snoc (passed_by l) h.tried refused ∙ rw (is-line v.from v.to l refl refl) (or_right (any (passed_by l) h.tried) true refl)

      apart : All (λ x. passed_by x refused ≡ false) more
      unfolding passed_by
      apart =
          All-map _ _ (λ x e. rw e) more
          (ahead_apart quota n v.from rest' v.to (rw cut (at_same (assignment v.rest) v.to 0)))

      pub jams : Here once whole p n domains bans bars' quota true left made stuck v.from rest'
      unfolding rejecting counts
      jams =
          tried-one p bars' true (Rejected NoRoom) stuck (rejecting NoRoom (network_of o)) tried (sym net) refl sized
          (λ _. live) (λ _. refl) (h.stuck_is ∙ ap (λ (k : ℕ). eqb k 0) (sym (add-zero h.delivered))) rest'
          (ap (sweep jammed) visits-left ∙ sweep-over jammed l passed (assignment v.rest v.to) more)
          (λ s. supplied-over jammed l passed (assignment v.rest v.to) more live.shape (rw visits-left at s))
          (All-both _ _ more (All-right _ (replicate (assignment v.rest v.to) l) more (rw visits-left at fresh.1)) apart)
          (rw (add-zero h.delivered) (fewer h.delivered (length more) h.waited (omega (arith, least, few-left)), omega (arith, least, few-left)))

    -- accepted
    module _ (p : Network) (bars' : List (Option Conflicts)) (posts : List Post')
        (tried : deliver (network_of o) v.from v.to ≡ record { network = network_of p; answer = Accepted; sent = posts })
        (sized : FullArrays p) (live : in_shape (network_of p) ≡ true → Live p n domains bans bars') where
      pub accepts : Here once whole p n domains bans bars' quota missed left made false v.from v.rest
      unfolding passed_by is_no_room counts
      accepts =
          tried-one p bars' missed Accepted false _ tried refl refl sized live (λ y. y) taken v.rest refl (λ s. s)
          (All-map _ _ (λ x f. (f, and-false (is_line x.from x.to l))) ls fresh.1)
          (let e : h.delivered + 1 + length ls ≡ h.delivered + suc (length ls) = omega arith in
          let q : h.delivered + length (ahead quota n i rest) ≡ h.delivered + 1 + length ls = ap (λ (x : List Line). h.delivered + length x) first ∙ sym e in
          (rw q at h.missing, omega (arith, least)))
        where
          taken : false ≡ eqb (h.delivered + 1) 0
          taken = sym (ne_eqb (h.delivered + 1) 0 (λ e. absurd (omega arith)))
