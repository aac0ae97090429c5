-- What `board` prints, as bytes in ASCII: its first lines, and what it says of each word of its command line. Its boards are in `abt_board_drawing`.
use Rattle.std.specs.Prelude.{ℕ, ◌-◌, true, false, not, List, ◌++◌, Option, Some, None, eqb, length, position, unwrap_or, drop, codes}
use Rattle.model_network.specs.Network.{Network, is_rule, bad_rule, Started}
use Rattle.model_network.specs.Run.{Line as Line', Ending, ending_word}
use Rattle.model_dispatch.specs.Dispatch.{Dispatcher}
use Rattle.theorems_dispatch.specs.Steps.{left_by_step}
use Rattle.model_image.specs.Reading.{Loaded}
use Rattle.model_base.specs.Decimal.{decimal, newline, line_of as number_line}
use Rattle.abt_dispatch.specs.Abstract.{line_of}
use Rattle.abt_calls.specs.Outcomes.{Came, Delivered, Ran, Served, Refused, came_to}
use Rattle.abt_calls.specs.Abstract.{step_of}
use Rattle.abt_calls.specs.declared.calls.Call.{Call}
use Rattle.abt_calls.specs.declared.calls.Call.TheVariants.{Deliver, Run, Pick}
use Rattle.abt_board_drawing.specs.Text.{said_if, board_of}
use Rattle.abt_board_text.specs.Reading.{call_in}
use Rattle.abt_board_text.specs.Options.{rule_of}
use Rattle.abt_board_text.specs.declared.options.Options.{Options}
use Rattle.abt_board_text.specs.declared.options.Stage.{Stage}
use Rattle.abt_board_text.specs.declared.options.Stage.TheVariants.{Words, Awaits, File, Wrong}

-- ---- the first lines

-- rule 2 is named, rule 1 is not
unfoldable pub rule_text : ℕ → List ℕ
rule_text rule = said_if (eqb rule 2) (codes ", rule 2")

-- "start, rule 2", and the board
unfoldable pub first_text : List ℕ → Network → List ℕ
first_text word w = word ++ (rule_text w.rule ++ (newline ++ board_of w))

-- "rule refused 11"
unfoldable pub rule_refused : List ℕ
rule_refused = number_line (codes "rule refused ") bad_rule

-- "sheet refused 3"
unfoldable pub unstarted_text : ℕ → List ℕ
unstarted_text number = elim (eqb number bad_rule) [ true ↦ rule_refused | false ↦ number_line (codes "sheet refused ") number ]

-- of the start for a rule and a sheet
unfoldable pub start_text : Started → List ℕ
start_text s = elim (eqb s.number 0) [ true ↦ first_text (codes "start") s.network | false ↦ unstarted_text s.number ]

-- of an image; "image refused 13"
unfoldable pub image_text : Loaded → List ℕ
image_text l =
    elim (eqb l.number 0) [ true ↦ first_text (codes "image") l.network | false ↦ number_line (codes "image refused ") l.number ]

-- ---- what is not understood

-- "call not understood: W"
unfoldable pub not_understood : List ℕ → List ℕ → List ℕ
not_understood what word = what ++ (codes " not understood: " ++ (word ++ newline))

unfoldable pub no_file : List ℕ
no_file = codes "no file given: board [--rule N] SHEET [CALL ..], or board --image IMAGE [CALL ..]" ++ newline

-- where no file follows the options: a rule that the start refuses is said before a file is missed
unfoldable pub unfiled_text : Options → List ℕ
unfiled_text o = elim (is_rule (rule_of o)) [ true ↦ no_file | false ↦ rule_refused ]

-- the one line where no file is opened, with the word read last
unfoldable pub unopened_at : Stage → Options → List ℕ → List ℕ
unopened_at Words o word = unfiled_text o
unopened_at Awaits o word = not_understood (codes "option") (codes "--rule")
unopened_at File o word = unfiled_text o
unopened_at Wrong o word = not_understood (codes "option") word

unfoldable pub unopened_text : Options → List ℕ → List ℕ
unopened_text o word = unopened_at o.stage o word

-- ---- calls

-- "1 2"
unfoldable pub ends_text : Line' → List ℕ
ends_text l = decimal l.from ++ (codes " " ++ decimal l.to)

-- digits from the first on that is not '0'; the last one where all are
unfoldable pub significant : List ℕ → List ℕ
significant digits = drop (unwrap_or (position (λ b. not (eqb b 48)) digits) (length digits - 1)) digits

-- "deliver 1 2", "run 10", "pick 1 2"
unfoldable pub called_text : List ℕ → Call → List ℕ
called_text word (Deliver l) = codes "deliver " ++ ends_text (line_of l)
called_text word (Run rounds) = codes "run " ++ significant (drop 1 word)
called_text word (Pick wish) = codes "pick " ++ ends_text (line_of wish)

-- ": plan, 5 rounds"
unfoldable pub ran_line : Ending → ℕ → List ℕ
ran_line ending made = codes ": " ++ (ending_word ending ++ (codes ", " ++ (decimal made ++ codes " rounds")))

-- what the call came to: the end of its line, and the board that it leaves where it is not refused
unfoldable pub came_text : Came → Network → List ℕ
came_text Delivered w = newline ++ board_of w
came_text (Ran ending made) w = ran_line ending made ++ (newline ++ board_of w)
came_text (Served l) w = codes ": delivered " ++ (ends_text l ++ (newline ++ board_of w))
came_text (Refused number) w = number_line (codes ": refused ") number

-- of a word of the command line, on the dispatcher that the words before it left
unfoldable pub word_text : List ℕ → Option Call → Dispatcher → List ℕ
word_text word None d = not_understood (codes "call") word
word_text word (Some k) d = called_text word k ++ came_text (came_to (step_of k) d) (left_by_step (step_of k) d).network

unfoldable pub call_text : List ℕ → Dispatcher → List ℕ
call_text word d = word_text word (call_in word) d
