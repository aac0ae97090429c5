-- A full round of the claims, at its place in the list, is a full stretch from the network reached there; a marking of the claims marks off
-- rounds in the list of tries.
use Rattle.std.proofs.Common.{◌≡◌, refl, sym, List, [], ◌∷◌, ◌++◌, append_assoc, ℕ, suc, ◌+◌, arith}
use Rattle.model_base.proofs.Tests.{test}
use Rattle.model_sheet.specs.Problem.{Problem}
use Rattle.model_network.specs.Network.{start}
use Rattle.model_network.specs.Run.{Line, one_if}
use Rattle.theorems_network.specs.Calls.{replay, FullRound, Stretch, lines_of, marked_in, AllFull}
use Rattle.theorems_network.proofs.Rounds.{Full, Rounds, done, full, skips}
use Rattle.theorems_network.proofs.Tries.{replay-append}
use Rattle.theorems_network.proofs.Waiting.{waits-channel}

-- ---- markings one after the other

pub lines-append : (ss ts : List Stretch) → lines_of (ss ++ ts) ≡ lines_of ss ++ lines_of ts
unfolding lines_of
lines-append [] ts = refl
lines-append (s ∷ ss) ts = rw (lines-append ss ts) (sym (append_assoc s.lines (lines_of ss) (lines_of ts)))

pub marked_append : (ss ts : List Stretch) → marked_in (ss ++ ts) ≡ marked_in ss + marked_in ts
unfolding marked_in
marked_append [] ts = omega arith
marked_append (s ∷ ss) ts = omega (arith, marked_append ss ts)

-- ---- rounds

pub to-full : (rule : ℕ) (p : Problem) (before stretch : List Line) → FullRound rule p before stretch → Full stretch (replay before (start rule p))
to-full rule p before stretch F =
    let (i, j, h) = F.waits in
    record { waits = (i, j, rw (waits-channel rule p before i j) at h); delivers = λ i j. rw (waits-channel rule p before i j) at (F.delivers i j) }

pub from-full : (rule : ℕ) (p : Problem) (before stretch : List Line) → Full stretch (replay before (start rule p)) → FullRound rule p before stretch
from-full rule p before stretch F =
    let (i, j, h) = F.waits in
    record { waits = (i, j, rw (waits-channel rule p before i j) h); delivers = λ i j. rw (waits-channel rule p before i j) (F.delivers i j) }

pub marking-rounds : (rule : ℕ) (p : Problem) (before : List Line) (ss : List Stretch) → AllFull rule p before ss
    → Rounds (marked_in ss) (lines_of ss) (replay before (start rule p))
unfolding marked_in lines_of one_if
marking-rounds rule p before [] h = done
marking-rounds rule p before (s ∷ ss) h =
    let w = replay before (start rule p) in
    let R : Rounds (marked_in ss) (lines_of ss) (replay s.lines w) =
    rw (← replay-append before s.lines (start rule p)) (marking-rounds rule p (before ++ s.lines) ss h.1) in
    test s.marked
    (λ m. let e : 1 + marked_in ss ≡ suc (marked_in ss) = omega arith in
    rw (m, e) (full s.lines (lines_of ss) refl (to-full rule p before s.lines (h.0 m)) R))
    (λ m. let e : 0 + marked_in ss ≡ marked_in ss = omega arith in
    rw (m, e) (skips (marked_in ss) s.lines (lines_of ss) w R))
