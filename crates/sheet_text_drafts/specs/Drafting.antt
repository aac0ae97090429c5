-- What the code's drafts mean, and what it does with a statement. A primed name is the definitions'.
use Rattle.std.specs.Prelude.{ℕ, ◌<◌, ◌≡◌, List, length, Result, Ok, Err, IfOk}
use Rattle.model_sheet.specs.Problem.{Problem}
use Rattle.sheet_reader.specs.Abstract.{problem_of}
use Rattle.sheet_writer.specs.declared.edition.Edition.{Edition}
use Rattle.model_text.specs.Drafts.{Draft as Draft', Test, Taken, Next, Wrong, tested, pair_tests, room_tests}
use Rattle.sheet_text_drafts.specs.declared.draft.Draft.{Draft}
use Rattle.sheet_text_drafts.specs.declared.fault.LineRejection.{LineRejection}
use Rattle.sheet_text_drafts.specs.Faults.{fault_of}
use Rattle.sheet_text_drafts.specs.Kinds.{edition_in, other_edition}

-- this draft, or the fault
unfoldable pub judged : Result (Unit {0}) LineRejection → Draft' → Taken
judged (Ok u) d = Next d
judged (Err f) d = Wrong (fault_of f)

-- a fault is that of the first test that does not hold
pub record Judges (tests : List Test) (r : Result (Unit {0}) LineRejection) : Type 0 where
  pub same : (d : Draft') → tested tests d ≡ judged r d

-- ---- drafts

unfoldable pub problem_in : Draft → Problem
problem_in d = problem_of d.problem

unfoldable pub draft_in : Draft → Draft'
draft_in d = record { problem = problem_in d; edition = edition_in d.edition; rows = d.rows }

unfoldable pub taken_of : Result (Unit {0}) LineRejection → Draft → Taken
taken_of r d = judged r (draft_in d)

-- ---- tests

pub record JudgesPair (d : Draft) (edition : Edition) (a b : ℕ) (r : Result (Unit {0}) LineRejection) : Type 0 where
  pub tests : Judges (pair_tests (draft_in d) (other_edition edition) a b) r
  pub small : IfOk r (λ _. (a < 256) × (b < 256))

pub record JudgesRoom (d : Draft) (r : Result (Unit {0}) LineRejection) : Type 0 where
  pub tests : Judges (room_tests (draft_in d)) r
  pub room : IfOk r (λ _. length d.rows < 4224)
