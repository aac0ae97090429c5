-- What `image` answers, for every command line and every file: `image write [--rule N] [--small] SHEET [CALL ..]`, `image move IMAGE`. docs/PROGRAMS.md,
-- 'The board and the image on the command line'. Its bytes stand on standard output; what is refused or not understood is one line on standard error, and then there are no bytes.
use Rattle.std.specs.Prelude.{ℕ, Bool, true, false, List, [], ◌∷◌, Option, None, Some, map, eqb, bytes_eq, codes}
use Rattle.model_network.specs.Network.{Network, is_rule, bad_rule, Started, start_sheet}
use Rattle.model_network.specs.Shape.{in_shape}
use Rattle.model_network.specs.Delivery.{BadShape, rejection_number}
use Rattle.model_image.specs.Reading.{bad_image}
use Rattle.model_image_forms.specs.Forms.{Form, First, Second, image_in}
use Rattle.model_image_forms.specs.Reading.{load}
use Rattle.model_image_forms.specs.Moving.{moved}
use Rattle.model_dispatch.specs.Dispatch.{Dispatcher, dispatcher}
use Rattle.theorems_dispatch.specs.Steps.{left_by_steps}
use Rattle.abt_calls.specs.Abstract.{step_of}
use Rattle.support_cli.specs.Answers.{Answer, done, not_understood, prints, tells, says, says_refused}
use Rattle.abt_board_text.specs.Options.{no_options, rule_of, is_option, opens_file, line_from}
use Rattle.abt_board_text.specs.declared.options.Options.{Options}
use Rattle.abt_board_text.specs.declared.options.Stage.{Stage}
use Rattle.abt_board_text.specs.declared.options.Stage.TheVariants.{Words, Awaits, File, Wrong}
use Rattle.abt_cli_image.specs.Calls.{Calls, Understood, NoCall, calls_from}
use Rattle.abt_cli_image.specs.declared.Command.{Command}
use Rattle.abt_cli_image.specs.declared.Command.TheVariants.{Write, Move}

-- ---- the bytes

-- the image of a rail in shape, in either form
unfoldable pub stored : Form → Network → Answer
stored form w = elim (in_shape w) [ true ↦ prints (image_in form w) done | false ↦ says_refused (rejection_number BadShape) ]

-- the image of the same rail in the other form
unfoldable pub moved_answer : List ℕ → Answer
moved_answer bytes = elim (eqb (load bytes).number 0) [ true ↦ prints (moved bytes) done | false ↦ says_refused bad_image ]

-- "cannot read W"
unfoldable pub unread : List ℕ → Answer
unread name = says (codes "cannot read ") name not_understood

-- "option not understood: W"
unfoldable pub strange_option : List ℕ → Answer
strange_option word = says (codes "option not understood: ") word not_understood

-- "no file given: image move IMAGE"
unfoldable pub no_file : List ℕ → Answer
no_file usage = says (codes "no file given: ") usage not_understood

-- ---- `image write`

-- all the calls are made where each word is one, and none where a word is not
unfoldable pub played : Form → Dispatcher → Calls → Answer
played form d (Understood calls) = stored form (left_by_steps (map step_of calls) d).network
played form d (NoCall word) = says (codes "call not understood: ") word not_understood

-- where memory runs out for the list of calls, nothing is said
unfoldable pub remembered : Bool → Answer → Answer
remembered enough a = elim enough [ true ↦ a | false ↦ tells [] not_understood ]

-- by what the start gives
unfoldable pub started : Form → List (List ℕ) → Bool → Started → Answer
started form words enough s =
    elim (eqb s.number 0) [
      | true ↦ remembered enough (played form (dispatcher s.network) (calls_from words))
      | false ↦ says_refused s.number
    ]

unfoldable pub form_by : Options → Form
form_by o = elim o.small [ true ↦ Second | false ↦ First ]

-- none where the file cannot be read
unfoldable pub opened_by : Options → List ℕ → List (List ℕ) → Bool → Option (List ℕ) → Answer
opened_by o name calls enough None = unread name
opened_by o name calls enough (Some bytes) = started (form_by o) calls enough (start_sheet (rule_of o) bytes)

-- a rule that the start refuses is said before a file is missed
unfoldable pub unfiled : Options → Answer
unfiled o =
    elim (is_rule (rule_of o)) [ true ↦ no_file (codes "image write [--rule N] [--small] SHEET [CALL ..]") | false ↦ says_refused bad_rule ]

-- the one line where no file is opened, with the word read last
unfoldable pub unopened : Stage → Options → List ℕ → Answer
unopened Words o word = unfiled o
unopened Awaits o word = strange_option (codes "--rule")
unopened File o word = unfiled o
unopened Wrong o word = strange_option word

-- by the options, the word read last, the calls behind it and the file's bytes
unfoldable pub write_by : Options → List ℕ → List (List ℕ) → Bool → Option (List ℕ) → Answer
write_by o word calls enough file = elim (opens_file o) [ true ↦ opened_by o word calls enough file | false ↦ unopened o.stage o word ]

unfoldable pub write_answer : List (List ℕ) → Bool → Option (List ℕ) → Answer
write_answer words = let l = line_from (no_options false) words in write_by l.options l.word l.calls

-- the name of the sheet, where it is opened
abbrev pub sheet_named : List (List ℕ) → List ℕ
sheet_named words = (line_from (no_options false) words).word

-- ---- `image move`

unfoldable pub moved_by : List ℕ → Option (List ℕ) → Answer
moved_by name None = unread name
moved_by name (Some bytes) = moved_answer bytes

-- no word may stand behind the name
unfoldable pub move_alone : List ℕ → List (List ℕ) → Option (List ℕ) → Answer
move_alone name [] file = moved_by name file
move_alone name (word ∷ words) file = says (codes "argument not understood: ") word not_understood

unfoldable pub move_answer : List (List ℕ) → Option (List ℕ) → Answer
move_answer [] file = no_file (codes "image move IMAGE")
move_answer (name ∷ words) file = elim (is_option name) [ true ↦ strange_option name | false ↦ move_alone name words file ]

abbrev pub image_named : List (List ℕ) → List ℕ
image_named [] = []
image_named (name ∷ words) = name

-- ---- the command

-- the first word
unfoldable pub command_in : List ℕ → Option Command
command_in word =
    elim (bytes_eq word (codes "write")) [
      | true ↦ Some Write
      | false ↦ elim (bytes_eq word (codes "move")) [ true ↦ Some Move | false ↦ None ]
    ]

unfoldable pub answer_by : Option Command → List ℕ → List (List ℕ) → Bool → Option (List ℕ) → Answer
answer_by None word words enough file = says (codes "command not understood: ") word not_understood
answer_by (Some Write) word words enough file = write_answer words enough file
answer_by (Some Move) word words enough file = move_answer words file

unfoldable pub no_command : Answer
no_command =
    says (codes "no command given: ") (codes "image write [--rule N] [--small] SHEET [CALL ..], or image move IMAGE") not_understood

-- by the words of the command line, whether memory is enough for the list of calls, and the bytes of the file that the words name
unfoldable pub image_answer : List (List ℕ) → Bool → Option (List ℕ) → Answer
image_answer [] enough file = no_command
image_answer (word ∷ words) enough file = answer_by (command_in word) word words enough file

unfoldable pub file_by : Option Command → List (List ℕ) → List ℕ
file_by None words = []
file_by (Some Write) words = sheet_named words
file_by (Some Move) words = image_named words

-- the name of the file, where one is opened
unfoldable pub file_named : List (List ℕ) → List ℕ
file_named [] = []
file_named (word ∷ words) = file_by (command_in word) words
