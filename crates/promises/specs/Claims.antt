-- Claims that stand beside those of the other crates' Claims.antt: laws of the rules, of sheets and of images, each under a name of its own.
use Rattle.std.specs.Prelude.{ℕ, suc, ◌≤◌, ◌≡◌, true, false, List, [], ◌∷◌, length, take, eqb}
use Rattle.model_base.specs.Finite.{within, every}
use Rattle.model_sheet.specs.Problem.{Problem, in_range, banned, no_bans, with_table}
use Rattle.model_sheet.specs.Row.{Row, row_good, rows_ban, with_rows}
use Rattle.model_sheet.specs.Sheet.{Valid, longest_sheet, max_records, decode}
use Rattle.model_sheet.specs.Writing.{written}
use Rattle.model_agent.specs.Message.{Assignment, Message, Info, Back}
use Rattle.model_agent.specs.Traffic.{Traffic}
use Rattle.model_agent.specs.Agent.{Self, Bans, Agent, Step, with_counts}
use Rattle.model_agent.specs.Receiving.{holds, react}
use Rattle.model_network.specs.Network.{Network, start}
use Rattle.model_network.specs.Shape.{in_shape}
use Rattle.model_network.specs.Run.{Line}
use Rattle.theorems_network.specs.Calls.{replay, waits_after}
use Rattle.model_image.specs.Image.{image}
use Rattle.model_image.specs.Reading.{load_first}
use Rattle.model_image.specs.Plain.{Plain}
use Rattle.model_image.specs.Cases as first
use Rattle.model_image_forms.specs.Forms.{small, large, other_form, form_of}
use Rattle.model_image_forms.specs.Moving.{moved}
use Rattle.model_image_forms.specs.Reading.{load}
use Rattle.model_image_forms.specs.Cases as forms

-- ---- one agent

-- "If it does not hold: where the refused slot is the own one, news goes to the sender": an outdated refusal of the own value is answered with that value, under either rule, and changes no record but its counts.
abbrev pub OutdatedAnswered : Type 0
OutdatedAnswered =
    (s : Self) (bans : Bans) (a : Agent) (from : ℕ) (lhs : Assignment) → holds s a lhs a.value ≡ false
    → react s bans a from (Back lhs a.value) ≡ record { agent = a; sent = record { to = from; message = Info a.value } ∷ []; unsolvable = false }

-- a step whose agent has these counts
abbrev pub with_step_counts : Traffic → Step → Step
with_step_counts c t = record { agent = with_counts t.agent c; sent = t.sent; unsolvable = t.unsolvable }

-- "No rule reads a count.", and none changes one: with other counts in the record the rules make the same step, and leave those counts in it.
abbrev pub CountsUnread : Type 0
CountsUnread =
    (s : Self) (bans : Bans) (c : Traffic) (a : Agent) (from : ℕ) (m : Message)
    → react s bans (with_counts a c) from m ≡ with_step_counts c (react s bans a from m)

-- ---- lists of calls

-- What waits on a line by the list's definition is what the channel holds, of every problem.
abbrev pub WaitsAsHeld : Type 0
WaitsAsHeld =
    (rule : ℕ) (p : Problem) (before : List Line) (i j : ℕ) → waits_after rule p before i j ≡ (replay before (start rule p)).channel i j

-- ---- sheets

-- "Input longer than any sheet meets the same checks in the same order": it comes out as its first 33,817 bytes do.
abbrev pub CutDecodes : Type 0
CutDecodes = (s : List ℕ) → decode (take (suc longest_sheet) s) ≡ decode s

-- what makes rows good for a sheet of an edition with a problem's slot counts
pub record GoodRows (edition : ℕ) (p : Problem) (rows : List Row) : Type 0 where
  pub known : within 2 edition ≡ true
  pub range : in_range p ≡ true
  pub good : every (row_good edition p) rows ≡ true

-- A sheet written of good rows is accepted, with the problem that they say.
abbrev pub WritingDecodes : Type 0
WritingDecodes =
    (edition : ℕ) (p : Problem) (rows : List Row) → GoodRows edition p rows → length rows ≤ max_records
    → decode (written edition p rows) ≡ Valid (with_rows edition rows (with_table p no_bans))

-- It bans exactly what one of the rows bans.
abbrev pub WritingBans : Type 0
WritingBans =
    (edition : ℕ) (p : Problem) (rows : List Row) → GoodRows edition p rows → (i j v w : ℕ)
    → banned (with_rows edition rows (with_table p no_bans)) i j v w ≡ rows_ban edition p rows i j v w

-- ---- images

-- The second form of an image, made large again, is the image.
abbrev pub LargeOfSmall : Type 0
LargeOfSmall = (w : Network) → Plain w → in_shape w ≡ true → large (small (image w)) ≡ image w

-- What is moved is in the other form, whatever it was.
abbrev pub MovedForm : Type 0
MovedForm = (s : List ℕ) → form_of (moved s) ≡ other_form (form_of s)

-- P9's image after two rounds, worked out by hand, and bytes near it that are no image.
abbrev pub FirstWorked : Type 0
FirstWorked =
    (image first.network9 ≡ first.image9)
    × (image (load_first first.image9).network ≡ image first.network9)
    × (every (λ s. eqb (load_first s).number 13) first.no_images9 ≡ true)

-- P9's image after three rounds, worked out by hand in both forms, each read, made and moved to the other, and bytes near them that are no image.
pub record FormsWorked : Type 0 where
  pub written : image forms.network9 ≡ forms.large9
  pub made_small : small forms.large9 ≡ forms.small9
  pub made_large : large forms.small9 ≡ forms.large9
  pub read_large : (load forms.large9).number ≡ 0
  pub read_small : (load forms.small9).number ≡ 0
  pub moved_large : moved forms.large9 ≡ forms.small9
  pub moved_small : moved forms.small9 ≡ forms.large9
  pub refused : every (λ s. eqb (load s).number 13) forms.no_images9 ≡ true
