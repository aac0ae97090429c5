-- The line from 1 to 2 holds news from the start on, and the list never delivers it; so no stretch of it is a full round.
use Rattle.std.proofs.Common.{ℕ, zero, suc, ◌≤◌, ◌≡◌, refl, sym, Bool, false, ◌&&◌, List, [], ◌∷◌, ◌++◌, arith, length}
use mathlib.Core.Bool.{and-false}
use Rattle.model_base.specs.Finite.{at, within, lowest, highest, all_to, every, any, gather, is_some}
use Rattle.model_base.specs.Bits.{bit, with_bit}
use Rattle.model_sheet.specs.Problem.{max_agents, max_domain, max_pairs, domain, owns, pairs_before, word_at, bit_at, is_pair, banned, linked}
use Rattle.model_agent.specs.Message.{known, Info, nobody, sent_to}
use Rattle.model_agent.specs.Agent.{no_nogoods, unused_agent, above, agrees}
use Rattle.model_agent.specs.Choosing as X
use Rattle.model_agent.specs.Choosing.{bars, blame, only, blaming, reason_of, choose, choice, quiet_rule, no_refuser, tells, info_to, infos, chosen, took, join, lhs_of, union, failed, refusing, drop_if, without, forget, after, settle, check_view}
use Rattle.model_agent.specs.Receiving.{quiet, answer, keep_if, agreeing, updated, conflicts, on_info, matches, holds, unheard, add_link_to, add_links, accepting, outdated, on_back, react, counted, receive, fresh, begin}
use Rattle.model_network.specs.Network.{Network, self_of, bans_of, posted, with_step, with_channel, step_on, handed, begun, start_agent, start_channel, start}
use Rattle.model_base.specs.Lists.{All}
use Rattle.model_network.specs.Delivery.{is_accepted}
use Rattle.model_network.specs.Run.{Line, is_line, one_if}
use Rattle.theorems_network.specs.Calls.{attempt_of, replay, accepted_now, accepted_on, waits_after, FullRound}
use Rattle.theorems_spinning.specs.Spinning.{three, turns, spinning}

-- a line that is not the one from 1 to 2
abbrev Other : Line → Type 0
Other l = is_line 1 2 l ≡ false

-- what delivers other lines alone delivers nothing of that one
untouched : (ls : List Line) (w : Network) → All Other ls → accepted_on 1 2 ls w ≡ 0
unfolding accepted_on accepted_now one_if
untouched [] w h = refl
untouched (l ∷ ls) w h = rw (untouched ls (attempt_of l w).network h.1, none (is_accepted (attempt_of l w).answer) (is_line 1 2 l) h.0) refl
  where
    none : (a b : Bool) → b ≡ false → one_if (a && b) ≡ 0
    none a b e = rw (e, and-false)

-- ---- the list has other lines alone

turn-lines : (k : ℕ) → All Other (turns k)
unfolding turns is_line
turn-lines zero = tt
turn-lines (suc k) = (refl, (refl, turn-lines k))

lines : (k : ℕ) → All Other (spinning k)
unfolding spinning is_line
lines k = (refl, turn-lines k)

left : (l r : List Line) → All Other (l ++ r) → All Other l
left [] r h = tt
left (x ∷ xs) r h = (h.0, left xs r h.1)

right : (l r : List Line) → All Other (l ++ r) → All Other r
right [] r h = h
right (x ∷ xs) r h = right xs r h.1

-- ---- so news waits on that line at every place of the list

news : (start 1 three).channel 1 2 ≡ Info 1 ∷ []
unfolding at within lowest highest all_to every any gather is_some bit with_bit max_agents max_domain max_pairs domain owns pairs_before word_at bit_at is_pair banned linked known nobody sent_to no_nogoods unused_agent above agrees bars blame only blaming reason_of X.reason choose choice quiet_rule no_refuser tells info_to infos chosen took join lhs_of union failed refusing drop_if without forget after settle check_view quiet answer keep_if agreeing updated conflicts on_info matches holds unheard add_link_to add_links accepting outdated on_back react counted receive fresh begin self_of bans_of posted with_step with_channel step_on handed begun start_agent start_channel three start
news = refl

waits : (before : List Line) → All Other before → 1 ≤ length (waits_after 1 three before 1 2)
unfolding waits_after
waits before h = rw (untouched before (start 1 three) h, news) (omega arith)

pub no-full-round : (k : ℕ) (before stretch after : List Line) → before ++ stretch ++ after ≡ spinning k → FullRound 1 three before stretch → ⊥
no-full-round k before stretch behind e f =
    let all = rw (sym e) at (lines k) in
    let u = untouched stretch (replay before (start 1 three)) (right before stretch (left (before ++ stretch) behind all)) in
    let w = waits before (left before stretch (left (before ++ stretch) behind all)) in
    let d = f.delivers 1 2 in
    omega (arith, u, w, d)
