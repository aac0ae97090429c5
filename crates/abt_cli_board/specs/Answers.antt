-- What `board` answers, for every command line and every file: `board [--rule N] SHEET [CALL ..]`, `board --image IMAGE [CALL ..]`. All of it stands on standard
-- output.
use Rattle.std.specs.Prelude.{ℕ, true, false, List, [], ◌∷◌, ◌++◌, Option, None, Some, is_some, eqb, max, codes}
use Rattle.model_network.specs.Network.{Network, is_rule, Started, start_sheet}
use Rattle.model_dispatch.specs.Dispatch.{Dispatcher, dispatcher}
use Rattle.model_image.specs.Reading.{Loaded}
use Rattle.model_image_forms.specs.Reading.{load}
use Rattle.model_base.specs.Decimal.{newline}
use Rattle.support_cli.specs.Answers.{Answer, done, refused, not_understood, prints}
use Rattle.abt_board_text.specs.Reading.{call_in}
use Rattle.abt_board_text.specs.Calling.{after_word}
use Rattle.abt_board_text.specs.Options.{no_options, rule_of, opens_file, line_from}
use Rattle.abt_board_text.specs.Text.{start_text, image_text, unopened_text, call_text}
use Rattle.abt_board_text.specs.declared.options.Options.{Options}
use Rattle.abt_board_text.specs.declared.options.Stage.{Stage}
use Rattle.abt_board_text.specs.declared.options.Stage.TheVariants.{Words, Awaits, File, Wrong}

-- ---- the calls, each on the dispatcher that the one before left

unfoldable pub calls_text : List (List ℕ) → Dispatcher → List ℕ
calls_text [] d = []
calls_text (word ∷ words) d = call_text word d ++ calls_text words (after_word (call_in word) d)

-- a word that is no call is not understood, and the next is read
unfoldable pub call_status : List ℕ → ℕ
call_status word = elim (is_some (call_in word)) [ true ↦ done | false ↦ not_understood ]

unfoldable pub calls_status : List (List ℕ) → ℕ
calls_status [] = done
calls_status (word ∷ words) = max (call_status word) (calls_status words)

-- ---- the file

-- what the file's bytes give: 0 or the refusal's number, what is said of it, and the network
pub record Began : Type 0 where
  pub number : ℕ
  pub text : List ℕ
  pub network : Network

unfoldable pub image_began : Loaded → Began
image_began l = record { number = l.number; text = image_text l; network = l.network }

unfoldable pub sheet_began : Started → Began
sheet_began s = record { number = s.number; text = start_text s; network = s.network }

unfoldable pub began_by : Options → List ℕ → Began
began_by o bytes = elim o.image [ true ↦ image_began (load bytes) | false ↦ sheet_began (start_sheet (rule_of o) bytes) ]

-- the calls are made where nothing is refused
unfoldable pub played : Began → List (List ℕ) → Answer
played b calls =
    elim (eqb b.number 0) [
      | true ↦ prints (b.text ++ calls_text calls (dispatcher b.network)) (calls_status calls)
      | false ↦ prints b.text refused
    ]

-- "cannot read W"
unfoldable pub unread : List ℕ → Answer
unread name = prints (codes "cannot read " ++ (name ++ newline)) not_understood

-- none where the file cannot be read
unfoldable pub opened_by : Options → List ℕ → List (List ℕ) → Option (List ℕ) → Answer
opened_by o name calls None = unread name
opened_by o name calls (Some bytes) = played (began_by o bytes) calls

-- ---- no file

-- a rule that the start refuses is refused; all else is not understood
unfoldable pub unfiled_status : Options → ℕ
unfiled_status o = elim (is_rule (rule_of o)) [ true ↦ not_understood | false ↦ refused ]

unfoldable pub unopened_status : Stage → Options → ℕ
unopened_status Words o = unfiled_status o
unopened_status Awaits o = not_understood
unopened_status File o = unfiled_status o
unopened_status Wrong o = not_understood

-- by the options, the word read last, the calls behind it and the file's bytes
unfoldable pub answer_by : Options → List ℕ → List (List ℕ) → Option (List ℕ) → Answer
answer_by o word calls file =
    elim (opens_file o) [ true ↦ opened_by o word calls file | false ↦ prints (unopened_text o word) (unopened_status o.stage o) ]

-- by the words of the command line and the bytes of the file that they name
unfoldable pub board_answer : List (List ℕ) → Option (List ℕ) → Answer
board_answer words file = let l = line_from (no_options true) words in answer_by l.options l.word l.calls file

-- the name of the file, where one is opened
abbrev pub file_named : List (List ℕ) → List ℕ
file_named words = (line_from (no_options true) words).word
