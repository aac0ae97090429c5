-- What the words of the command line in front of the calls come to, one by one: options, and behind them the file. `--rule N` gives the rule, N 0 to 255;
-- `--image` says that the file is an image, `--small` that an image is to be written in the second form.
use Rattle.std.specs.Prelude.{ℕ, Bool, true, false, not, ◌&&◌, ◌||◌, List, [], ◌∷◌, Option, Some, None, is_some, unwrap_or, eqb, get_or, map, vec_items, ◌≡◌}
use Rattle.model_base.specs.Same.{same_numbers}
use Rattle.model_network.specs.Network.{is_rule}
use Rattle.abt_board_text.specs.declared.options.Stage.{Stage}
use Rattle.abt_board_text.specs.declared.options.Stage.TheVariants.{Words, Awaits, File, Wrong}
use Rattle.abt_board_text.specs.declared.options.Kind.{Kind}
use Rattle.abt_board_text.specs.declared.options.Kind.TheVariants.{Rule, Image, Small, Unknown, File as FileName}
use Rattle.abt_board_text.specs.declared.options.Options.{Options}
use Rattle.abt_board_text.specs.declared.options.Read.{Read}
use Rattle.abt_board_text.specs.Reading.{byte_in}

-- only a program that draws is told of images, and only one that does not draw of their form
unfoldable pub no_options : Bool → Options
no_options draws = record { draws = draws; rule = None; image = false; small = false; stage = Words }

-- rule 1 where no option says another
abbrev pub rule_of : Options → ℕ
rule_of o = unwrap_or o.rule 1

abbrev pub with_stage : Options → Stage → Options
with_stage o stage = record { draws = o.draws; rule = o.rule; image = o.image; small = o.small; stage = stage }

abbrev pub with_image : Options → Options
with_image o = record { draws = o.draws; rule = o.rule; image = true; small = o.small; stage = Words }

abbrev pub with_small : Options → Options
with_small o = record { draws = o.draws; rule = o.rule; image = o.image; small = true; stage = Words }

-- the letters of `--rule`
unfoldable pub rule_option : List ℕ
rule_option = 45 ∷ 45 ∷ 114 ∷ 117 ∷ 108 ∷ 101 ∷ []

-- the letters of `--image`
unfoldable pub image_option : List ℕ
image_option = 45 ∷ 45 ∷ 105 ∷ 109 ∷ 97 ∷ 103 ∷ 101 ∷ []

-- "--small"
unfoldable pub small_option : List ℕ
small_option = 45 ∷ 45 ∷ 115 ∷ 109 ∷ 97 ∷ 108 ∷ 108 ∷ []

-- a word that begins with two dashes; any other is a file
unfoldable pub is_option : List ℕ → Bool
is_option word = eqb (get_or word 0 0) 45 && eqb (get_or word 1 0) 45

unfoldable pub kind_of : List ℕ → Kind
kind_of word =
    elim (same_numbers word rule_option) [
      | true ↦ Rule
      | false ↦ elim (same_numbers word image_option) [
        | true ↦ Image
        | false ↦ elim (same_numbers word small_option) [ true ↦ Small | false ↦ elim (is_option word) [ true ↦ Unknown | false ↦ FileName ] ]
      ]
    ]

-- the second of `--rule` and `--image` is not understood, nor is a second `--small`
unfoldable pub with_kind : Options → Kind → Options
with_kind o Rule = elim (is_some o.rule || o.image) [ true ↦ with_stage o Wrong | false ↦ with_stage o Awaits ]
with_kind o Image = elim (is_some o.rule || o.image || not o.draws) [ true ↦ with_stage o Wrong | false ↦ with_image o ]
with_kind o Small = elim (o.small || o.draws) [ true ↦ with_stage o Wrong | false ↦ with_small o ]
with_kind o Unknown = with_stage o Wrong
with_kind o FileName = with_stage o File

-- the word behind `--rule`
unfoldable pub with_rule : Options → Option ℕ → Options
with_rule o (Some n) = record { draws = o.draws; rule = Some n; image = o.image; small = o.small; stage = Words }
with_rule o None = with_stage o Wrong

unfoldable pub option_at : Stage → Options → List ℕ → Options
option_at Words o word = with_kind o (kind_of word)
option_at Awaits o word = with_rule o (byte_in word)
option_at File o word = o
option_at Wrong o word = o

-- with one word more
unfoldable pub with_option : Options → List ℕ → Options
with_option o word = option_at o.stage o word

-- an option may follow, or the number of one
unfoldable pub goes_on : Stage → Bool
goes_on Words = true
goes_on Awaits = true
goes_on File = false
goes_on Wrong = false

unfoldable pub is_file : Stage → Bool
is_file Words = false
is_file Awaits = false
is_file File = true
is_file Wrong = false

-- a file is opened only where every option is understood and the rule is none that the start refuses
unfoldable pub opens_file : Options → Bool
opens_file o = is_file o.stage && is_rule (rule_of o)

-- ---- all the words

-- the options, the word read last, and the words behind it: the calls, where it is the file
pub record CommandLine : Type 0 where
  pub options : Options
  pub word : List ℕ
  pub calls : List (List ℕ)

-- word by word, up to the file, to a word that is not understood or to the end
unfoldable pub line_from : Options → List (List ℕ) → CommandLine
line_from o [] = record { options = o; word = []; calls = [] }
line_from o (word ∷ words) =
    elim (goes_on (with_option o word).stage) [
      | true ↦ line_from (with_option o word) words
      | false ↦ record { options = with_option o word; word = word; calls = words }
    ]

-- the code's options, word and calls are these
pub record ReadsAs (l : CommandLine) (r : Read) : Type 0 where
  pub options : r.options ≡ l.options
  pub word : r.word.now ≡ l.word
  pub calls : map vec_items r.calls.now ≡ l.calls
