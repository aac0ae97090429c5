-- Inside a run on a network in shape every try is accepted or rejected with NoRoom. A round tries each line at most as often as it held a message when the
-- round began, and a channel loses a message only to a try of its own line, so every try finds one.
use Rattle.std.proofs.Common.{◌≡◌, refl, sym, ◌∙◌, List, [], ◌∷◌, ◌++◌, append-nil, append_assoc, true, false, not, cond, ℕ, zero, suc, ◌+◌, ◌≤◌, arith, length, replicate, length-append, eqb, eqb-true}
use mathlib.Core.Bool.{false≢true}
use Rattle.model_base.proofs.Tests.{test, to-within, or-false-both, to_both}
use Rattle.model_base.proofs.Lists.{All, All-map, gather-all}
use Rattle.model_base.proofs.Counting.{count_if}
use Rattle.model_agent.specs.Message.{Message, Info, Back, AddLink, sent_to}
use Rattle.model_agent.specs.Agent.{Step}
use Rattle.model_network.specs.Network.{Network, with_step, with_channel, handed}
use Rattle.model_network.specs.Shape.{in_shape}
use Rattle.model_network.specs.Delivery.{
  BadShape,
  BadNumbers,
  VerdictStands,
  EmptyChannel,
  NoRoom,
  Accepted,
  Rejected,
  Delivery,
  rejecting,
  numbers_good,
  deliver,
}
use Rattle.model_network.specs.Run.{Line, Sweep, begin_round, stopped, tally, skipped, attempt, sweep, round, visits, is_line}
use Rattle.theorems_shape.proofs.Handing.{Handing, OnChannel, hit, put, rest, on-channel, handing}
use Rattle.theorems_shape.proofs.Outcome.{Outcome, refused, accepted, outcome, numbers}
use Rattle.theorems_shape.proofs.ShapeClauses.{MessageShaped, Shaped, shaped}
use Rattle.theorems_shape.proofs.Shape.{attempt-keeps}
use Rattle.theorems_shape.proofs.Lines.{is-line}
use Rattle.theorems_shape.proofs.Visits.{visits-most}

-- ---- one try that finds a message

pub data Tried (w : Network) (i j : ℕ) (d : Delivery) : Type 0 where
  turned : d.answer ≡ Rejected NoRoom → d.network ≡ w → Tried w i j d
  taken : (m : Message) (others : List Message) → w.channel i j ≡ m ∷ others → d.answer ≡ Accepted → d.network ≡ handed w i j m others
      → Tried w i j d

pub tried : (w : Network) (i j : ℕ) → in_shape w ≡ true → numbers_good w i j ≡ true → w.unsolvable ≡ false → 1 ≤ length (w.channel i j)
    → Tried w i j (deliver w i j)
unfolding rejecting
tried w i j s n v h = go (outcome w i j)
  where
    go : Outcome w i j (deliver w i j) → Tried w i j (deliver w i j)
    go (refused BadShape b e) = absurd (false≢true (sym b ∙ s))
    go (refused BadNumbers b e) = absurd (false≢true (sym b ∙ n))
    go (refused VerdictStands b e) = absurd (false≢true (sym v ∙ b))
    go (refused EmptyChannel b e) = absurd (omega (arith, rw b at h))
    go (refused NoRoom _ e) = turned (rw e) (rw e)
    go (accepted m others T e) = taken m others T.head (rw e) (rw e)

-- ---- tries that all find one

-- a list of lines to try: each is one of the network's, and holds a message for each of its tries
pub record Supplied (ls : List Line) (w : Network) : Type 0 where
  pub lines : All (λ l. numbers_good w l.from l.to ≡ true) ls
  pub enough : (i j : ℕ) → count_if (is_line i j) ls ≤ length (w.channel i j)

-- the next line holds one
pub supplied-waits : (l : Line) (ls : List Line) (w : Network) → Supplied (l ∷ ls) w → 1 ≤ length (w.channel l.from l.to)
unfolding count_if
supplied-waits l ls w s =
    let n : 1 + count_if (is_line l.from l.to) ls ≤ length (w.channel l.from l.to) =
    rw (is-line l.from l.to l refl refl) at (s.enough l.from l.to) in
    omega arith

supplied-tail : (l : Line) (ls : List Line) (w : Network) → Supplied (l ∷ ls) w → Supplied ls w
unfolding count_if
supplied-tail l ls w s = record { lines = s.lines.1; enough = λ i j. omega (arith, s.enough i j) }

-- the next try finds a message
next-tried : (l : Line) (ls : List Line) (w : Network) → in_shape w ≡ true → w.unsolvable ≡ false → Supplied (l ∷ ls) w
    → Tried w l.from l.to (deliver w l.from l.to)
next-tried l ls w h v s = tried w l.from l.to h s.lines.0 v (supplied-waits l ls w s)

-- a channel loses a message only to its own line
loses-one : (l : Line) (m : Message) (t : Step) (w w' : Network) → Handing l m t w w' → (x y : ℕ)
    → length (w.channel x y) ≤ cond (is_line x y l) 1 0 + length (w'.channel x y)
loses-one l m t w w' H x y = go (on-channel H x y)
  where
    go : OnChannel l m t w w' x y → length (w.channel x y) ≤ cond (is_line x y l) 1 0 + length (w'.channel x y)
    go (hit h _ _ e) = rw (h, e) (omega arith)
    go (put h _ e) = rw (h, e, length-append (w.channel x y) (sent_to y t.sent)) (omega arith)
    go (rest h _ e) = rw (h, e) (omega arith)

-- what is left to try finds messages after the next try too
supplied-next : (l : Line) (ls : List Line) (w : Network) (d : Delivery) → Tried w l.from l.to d → Supplied (l ∷ ls) w
    → Supplied ls d.network
unfolding count_if numbers_good handed with_step with_channel
supplied-next l ls w d (turned a e) s = rw e (supplied-tail l ls w s)
supplied-next l ls w d (taken m others h a e) s =
    rw e (record {
      lines = All-map _ _ (λ k n. same k n) ls s.lines.1;
      enough = λ i j. omega (arith, s.enough i j, loses-one l m _ w _ (handing l w m others (numbers w _ _ s.lines.0).4 h) i j);
    })
  where
    same : (k : Line) → numbers_good w k.from k.to ≡ true → numbers_good (handed w l.from l.to m others) k.from k.to ≡ true
    same k n = n

-- ---- the visits of a round

-- no agent has a channel to itself
own-empty : (w : Network) → Shaped w → (i : ℕ) → 1 ≤ i → i ≤ w.problem.count → w.channel i i ≡ []
own-empty w S i lo hi = empty (w.channel i i) (S.channels i i lo (omega (arith, S.range.high)) lo (omega (arith, S.range.high))).messages
  where
    never : (m : Message) → MessageShaped w i i m → ⊥
    never (Info v) h = omega (arith, h.0)
    never (Back lhs v) h = omega (arith, h.0)
    never AddLink h = omega (arith, h.0)

    empty : (l : List Message) → All (MessageShaped w i i) l → l ≡ []
    empty [] h = refl
    empty (m ∷ ms) h = absurd (never m h.0)

pub replicate-all : (P : Line → Type 0) (n : ℕ) (l : Line) → (1 ≤ n → P l) → All P (replicate n l)
replicate-all P zero l f = tt
replicate-all P (suc n) l f = (f (omega arith), replicate-all P n l (λ _. f (omega arith)))

visits-lines : (w : Network) → Shaped w → All (λ l. numbers_good w l.from l.to ≡ true) (visits w)
unfolding visits numbers_good
visits-lines w S =
    gather-all _ _ w.problem.count 1 (λ i li hi. gather-all _ _ w.problem.count 1 (λ j lj hj.
    replicate-all _ (length (w.channel i j)) _ (λ n.
    to_both _ _ (to_both _ _ (to-within _ i li (omega arith)) (to-within _ j lj (omega arith)))
    (apart i j li (omega arith) n))))
  where
    apart : (i j : ℕ) → 1 ≤ i → i ≤ w.problem.count → 1 ≤ length (w.channel i j) → not (eqb i j) ≡ true
    apart i j lo hi n =
        test (eqb i j)
        (λ q. absurd (omega (arith, rw (← eqb-true i j q, own-empty w S i lo hi) at n)))
        (λ q. rw q)

pub visits-supplied : (w : Network) → in_shape w ≡ true → Supplied (visits w) w
visits-supplied w h = record { lines = visits-lines w (shaped w h); enough = visits-most w }

-- ---- along a round

running : (s : Sweep) (l : Line) → skipped s l ≡ false → s.network.unsolvable ≡ false
unfolding skipped stopped
running s l e = (or-false-both s.network.unsolvable _ e).0

pub attempt-supplied : (s : Sweep) (l : Line) (ls : List Line) → in_shape s.network ≡ true → Supplied (l ∷ ls) s.network
    → Supplied ls (attempt s l).network
unfolding attempt tally
attempt-supplied s l ls h f =
    test (skipped s l)
    (λ e. rw (e, attempt) (supplied-tail l ls s.network f))
    (λ e. rw (e, attempt) (supplied-next l ls s.network _ (next-tried l ls s.network h (running s l e) f) f))

-- Every visit keeps what is said of the lines visited so far and of the round on its way: one that does nothing, and one that tries its line.
pub record VisitsKeep (P : List Line → Sweep → Type 0) : Type 0 where
  pub skips : (done : List Line) (s : Sweep) (l : Line) → skipped s l ≡ true → P done s → P (done ++ (l ∷ [])) s
  pub tries : (done : List Line) (s : Sweep) (l : Line) (d : Delivery) → skipped s l ≡ false → Tried s.network l.from l.to d → P done s
      → P (done ++ (l ∷ [])) (tally s l d)

module _ (P : List Line → Sweep → Type 0) (K : VisitsKeep P) where
  kept-by-attempt : (done : List Line) (s : Sweep) (l : Line) (ls : List Line) → in_shape s.network ≡ true → Supplied (l ∷ ls) s.network
      → P done s → P (done ++ (l ∷ [])) (attempt s l)
  unfolding attempt
  kept-by-attempt done s l ls h f p =
      test (skipped s l)
      (λ e. rw (e, attempt) (K.skips done s l e p))
      (λ e. rw (e, attempt) (K.tries done s l _ e (next-tried l ls s.network h (running s l e) f) p))

  kept-by-sweep : (done ls : List Line) (s : Sweep) → in_shape s.network ≡ true → Supplied ls s.network → P done s
      → P (done ++ ls) (sweep s ls)
  unfolding sweep
  kept-by-sweep done [] s h f p = rw (append-nil done) p
  kept-by-sweep done (l ∷ ls) s h f p =
      rw (← append_assoc done (l ∷ []) ls)
      (kept-by-sweep (done ++ (l ∷ [])) ls (attempt s l) (attempt-keeps s l h) (attempt-supplied s l ls h f) (kept-by-attempt done s l ls h f p))

-- .. so it holds after the round
pub kept-by-visits : (P : List Line → Sweep → Type 0) → VisitsKeep P → (w : Network) → in_shape w ≡ true → P [] (begin_round w)
    → P (visits w) (round w)
unfolding round begin_round
kept-by-visits P K w h p = kept-by-sweep P K [] (visits w) (begin_round w) h (visits-supplied w h) p
