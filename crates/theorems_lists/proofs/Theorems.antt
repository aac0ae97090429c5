-- The claims about mixed lists. A mixed list does what the calls that it comes to do, and of lists of calls each claim is proved: so the proofs
-- rewrite along that law.
use Rattle.std.proofs.Common.{ℕ, sym, ◌∙◌, List, []}
use Rattle.model_sheet.specs.Problem.{Problem}
use Rattle.model_network.specs.Network.{start}
use Rattle.model_network.specs.Run.{Line}
use Rattle.theorems_network.specs.Calls.{Call, left_by_all}
use Rattle.theorems_network.specs.Marking.{own_marking}
use Rattle.theorems_network.specs.Figures.{sent_from, received_by}
use Rattle.theorems_network.specs.Claims.{slots_of, EveryProblem, EverySheet}
use Rattle.theorems_network.proofs.Theorems.{
  sound-at-rest,
  complete-verdict,
  round-bound,
  run-bound,
  run-tells,
  runs-count,
  runs-mark,
  asked-once,
  counts-exact,
  counts-capped,
  sent-is-received-and-waiting,
  sent-is-received-and-waiting-of,
  counts-never-fall,
  rule-kept,
  every-sheet,
}
use Rattle.theorems_isolation.specs.Tenants.{Naming, NamingAbove}
use Rattle.theorems_isolation.specs.Claims.{ActsAlike}
use Rattle.theorems_isolation.proofs.Theorems.{acts-alike, named-acts-alike}
use Rattle.theorems_image.proofs.Theorems.{reached-plain}
use Rattle.theorems_dispatch.specs.Claims.{above}
use Rattle.theorems_lists.specs.Items.{Item, calls_in_items, sent_from_items, received_by_items}
use Rattle.theorems_lists.specs.Claims.{
  ComesToCalls,
  ComesToCallsAnywhere,
  SoundMixed,
  CompleteMixed,
  ReachedMixed,
  RoundBoundMixed,
  RunBoundMixed,
  StandsMixed,
  RunTellsMixed,
  RunsCountMixed,
  RunsMarkMixed,
  CountsExactMixed,
  CountsCappedMixed,
  SentIsReceivedAndWaitingMixed,
  SentIsReceivedAndWaitingOfMixed,
  AskedOnceMixed,
  StaysMixed,
  CountsNeverFallMixed,
  RuleKeptMixed,
  ActsAlikeMixed,
}
use Rattle.theorems_lists.proofs.Coming.{comes-to-calls as comes, stays-good}

pub comes-to-calls-anywhere : ComesToCallsAnywhere
comes-to-calls-anywhere = comes

-- ---- from a start

pub comes-to-calls : EveryProblem ComesToCalls
unfolding above left_by_all
comes-to-calls rule is-rule p r picks place =
    let S = reached-plain rule is-rule p r [] in comes (above (start rule p) picks place) S.0 S.1

-- the calls that a list comes to
abbrev calls_from : ℕ → Problem → ℕ → Line → List Item → List Call
calls_from rule p picks place items = calls_in_items items (above (start rule p) picks place)

pub sound-mixed : EveryProblem SoundMixed
unfolding above
sound-mixed rule is-rule p r picks place items =
    rw (comes-to-calls rule is-rule p r picks place items).leaves
    (sound-at-rest rule is-rule p r (calls_from rule p picks place items))

pub complete-mixed : EveryProblem CompleteMixed
unfolding above
complete-mixed rule is-rule p r picks place items =
    rw (comes-to-calls rule is-rule p r picks place items).leaves
    (complete-verdict rule is-rule p r (calls_from rule p picks place items))

pub reached-mixed : EveryProblem ReachedMixed
unfolding above
reached-mixed rule is-rule p r picks place items =
    rw (comes-to-calls rule is-rule p r picks place items).leaves
    (reached-plain rule is-rule p r (calls_from rule p picks place items))

pub round-bound-mixed : EveryProblem RoundBoundMixed
unfolding above
round-bound-mixed rule is-rule p r picks place items =
    rw (comes-to-calls rule is-rule p r picks place items).tries
    (round-bound rule is-rule p r (calls_from rule p picks place items))

pub run-bound-mixed : EveryProblem RunBoundMixed
unfolding above
run-bound-mixed rule is-rule p r picks place items =
    rw (comes-to-calls rule is-rule p r picks place items).makes
    (run-bound rule is-rule p r (calls_from rule p picks place items))

pub stands-mixed : EveryProblem StandsMixed
unfolding slots_of
stands-mixed rule is-rule p r picks place items =
    record { rest = sound-mixed rule is-rule p r picks place items; unsolvable = complete-mixed rule is-rule p r picks place items }

pub run-tells-mixed : EveryProblem RunTellsMixed
unfolding above
run-tells-mixed rule is-rule p r picks place items k =
    let C = comes-to-calls rule is-rule p r picks place items in
    rw (C.leaves, C.makes) (run-tells rule is-rule p r (calls_from rule p picks place items) k)

pub runs-count-mixed : EveryProblem RunsCountMixed
unfolding above
runs-count-mixed rule is-rule p r picks place items k =
    let C = comes-to-calls rule is-rule p r picks place items in
    let R = runs-count rule is-rule p r (calls_from rule p picks place items) k in
    record { cuts = rw C.leaves R.cuts; exact = rw (← C.leaves, ← C.tries) at R.exact; returned = rw C.leaves R.returned }

pub runs-mark-mixed : EveryProblem RunsMarkMixed
unfolding above own_marking
runs-mark-mixed rule is-rule p r picks place items =
    let C = comes-to-calls rule is-rule p r picks place items in
    let R = runs-mark rule is-rule p r (calls_from rule p picks place items) in
    record {
      lines = rw (C.parts, C.tries) R.lines;
      full = rw C.parts R.full;
      exact = rw C.parts R.exact;
      number = rw (C.parts, C.makes) R.number;
    }

pub counts-exact-mixed : EveryProblem CountsExactMixed
unfolding above sent_from_items received_by_items sent_from received_by
counts-exact-mixed rule is-rule p r picks place items below i lo hi x =
    let C = comes-to-calls rule is-rule p r picks place items in
    let calls = calls_from rule p picks place items in
    rw (C.leaves, C.sends i, C.hands i) (counts-exact rule is-rule p r calls (rw C.leaves at below) i lo hi x)

pub counts-capped-mixed : EveryProblem CountsCappedMixed
unfolding above sent_from_items received_by_items sent_from received_by
counts-capped-mixed rule is-rule p r picks place items i x =
    let C = comes-to-calls rule is-rule p r picks place items in
    rw (C.leaves, C.sends i, C.hands i) (counts-capped rule is-rule p r (calls_from rule p picks place items) i x)

pub sent-is-received-and-waiting-mixed : EveryProblem SentIsReceivedAndWaitingMixed
unfolding above
sent-is-received-and-waiting-mixed rule is-rule p r picks place items =
    rw (comes-to-calls rule is-rule p r picks place items).leaves
    (sent-is-received-and-waiting rule is-rule p r (calls_from rule p picks place items))

pub sent-is-received-and-waiting-of-mixed : EveryProblem SentIsReceivedAndWaitingOfMixed
unfolding above
sent-is-received-and-waiting-of-mixed rule is-rule p r picks place items =
    rw (comes-to-calls rule is-rule p r picks place items).leaves
    (sent-is-received-and-waiting-of rule is-rule p r (calls_from rule p picks place items))

pub asked-once-mixed : EveryProblem AskedOnceMixed
unfolding above
asked-once-mixed rule is-rule p r picks place items =
    rw (comes-to-calls rule is-rule p r picks place items).leaves
    (asked-once rule is-rule p r (calls_from rule p picks place items))

-- ---- of every plain network in shape

pub stays-mixed : StaysMixed
stays-mixed = stays-good

pub counts-never-fall-mixed : CountsNeverFallMixed
counts-never-fall-mixed d plain shape items =
    rw (comes d plain shape items).leaves (counts-never-fall d.network (calls_in_items items d))

pub rule-kept-mixed : RuleKeptMixed
rule-kept-mixed d plain shape items =
    rw (comes d plain shape items).leaves (rule-kept d.network (calls_in_items items d))

-- ---- two networks alike in one agent

alike-mixed : (Names : ℕ → ℕ → ℕ → Type 0) → ActsAlike Names → ActsAlikeMixed Names
alike-mixed Names alike j d e plain shape plain' shape' A items others h =
    let C = comes d plain shape items in
    let D = comes e plain' shape' others in
    let S = alike j d.network e.network A (calls_in_items items d) (calls_in_items others e) (sym (C.hands j) ∙ h ∙ D.hands j) in
    record { agent = rw (C.leaves, D.leaves) S.agent; sent = C.sends j ∙ S.sent ∙ sym (D.sends j) }

pub acts-alike-mixed : ActsAlikeMixed NamingAbove
acts-alike-mixed = alike-mixed NamingAbove acts-alike

pub named-acts-alike-mixed : ActsAlikeMixed Naming
named-acts-alike-mixed = alike-mixed Naming named-acts-alike

-- ---- sheets: what holds of every problem in range holds of every accepted sheet

pub sheet-comes-to-calls : EverySheet ComesToCalls
sheet-comes-to-calls = every-sheet ComesToCalls comes-to-calls

pub sheet-sound-mixed : EverySheet SoundMixed
sheet-sound-mixed = every-sheet SoundMixed sound-mixed

pub sheet-complete-mixed : EverySheet CompleteMixed
sheet-complete-mixed = every-sheet CompleteMixed complete-mixed

pub sheet-reached-mixed : EverySheet ReachedMixed
sheet-reached-mixed = every-sheet ReachedMixed reached-mixed

pub sheet-round-bound-mixed : EverySheet RoundBoundMixed
sheet-round-bound-mixed = every-sheet RoundBoundMixed round-bound-mixed

pub sheet-run-bound-mixed : EverySheet RunBoundMixed
sheet-run-bound-mixed = every-sheet RunBoundMixed run-bound-mixed

pub sheet-stands-mixed : EverySheet StandsMixed
sheet-stands-mixed = every-sheet StandsMixed stands-mixed

pub sheet-run-tells-mixed : EverySheet RunTellsMixed
sheet-run-tells-mixed = every-sheet RunTellsMixed run-tells-mixed

pub sheet-runs-count-mixed : EverySheet RunsCountMixed
sheet-runs-count-mixed = every-sheet RunsCountMixed runs-count-mixed

pub sheet-runs-mark-mixed : EverySheet RunsMarkMixed
sheet-runs-mark-mixed = every-sheet RunsMarkMixed runs-mark-mixed

pub sheet-counts-exact-mixed : EverySheet CountsExactMixed
sheet-counts-exact-mixed = every-sheet CountsExactMixed counts-exact-mixed

pub sheet-counts-capped-mixed : EverySheet CountsCappedMixed
sheet-counts-capped-mixed = every-sheet CountsCappedMixed counts-capped-mixed

pub sheet-sent-is-received-and-waiting-mixed : EverySheet SentIsReceivedAndWaitingMixed
sheet-sent-is-received-and-waiting-mixed = every-sheet SentIsReceivedAndWaitingMixed sent-is-received-and-waiting-mixed

pub sheet-sent-is-received-and-waiting-of-mixed : EverySheet SentIsReceivedAndWaitingOfMixed
sheet-sent-is-received-and-waiting-of-mixed = every-sheet SentIsReceivedAndWaitingOfMixed sent-is-received-and-waiting-of-mixed

pub sheet-asked-once-mixed : EverySheet AskedOnceMixed
sheet-asked-once-mixed = every-sheet AskedOnceMixed asked-once-mixed
