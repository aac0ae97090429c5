-- What the start of a sheet by a rule and the reading of an image give, and what a call of the command line does to the network and to the dispatcher
-- above it.
use Rattle.std.specs.Prelude.{ℕ, suc, ◌≡◌, true, List, ◌∷◌, Option, Some, None, Result, Ok, Err, take}
use Rattle.support_rejection.specs.Rejections.{rejection_number}
use Rattle.support_rejection.specs.declared.Rejection.{Rejection}
use Rattle.model_base.specs.Numerals.{is_number, value_from}
use Rattle.model_sheet.specs.Sheet.{longest_sheet}
use Rattle.model_network.specs.Network.{empty_network, start_sheet}
use Rattle.model_network.specs.Run.{run}
use Rattle.model_image_forms.specs.Reading.{load}
use Rattle.model_dispatch.specs.Dispatch.{Dispatcher, with_network, dispatcher}
use Rattle.abt_dispatch.specs.declared.Dispatcher.{Dispatcher as Record}
use Rattle.abt_dispatch.specs.Abstract.{dispatcher_of}
use Rattle.theorems_dispatch.specs.Steps.{left_by_step}
use Rattle.abt_calls.specs.declared.calls.Call.{Call}
use Rattle.abt_calls.specs.Abstract.{step_of}

-- number 0 and the dispatcher; or the refusal's number and the dispatcher above the empty network
abbrev pub begun_number : Result Record Rejection → ℕ
begun_number (Ok d) = 0
begun_number (Err e) = rejection_number e

abbrev pub begun_of : Result Record Rejection → Dispatcher
begun_of (Ok d) = dispatcher_of d
begun_of (Err e) = dispatcher empty_network

-- number and network are the start's for the rule and the sheet, and the dispatcher begins with that network; and for every input that begins with the sheet where it
-- is cut behind one byte more than the longest sheet has
pub record BeginsAs (rule : ℕ) (sheet : List ℕ) (b : Result Record Rejection) : Type 0 where
  pub numbered : begun_number b ≡ (start_sheet rule sheet).number
  pub started : begun_of b ≡ dispatcher (start_sheet rule sheet).network
  pub whole : (input : List ℕ) → take (suc longest_sheet) input ≡ sheet
      → (begun_number b ≡ (start_sheet rule input).number) × (begun_of b ≡ dispatcher (start_sheet rule input).network)

-- number and network are what reading the image gives, and the dispatcher begins with that network; and for every input that begins with the image where it
-- is cut behind as many bytes
pub record LoadsAs (image : List ℕ) (b : Result Record Rejection) : Type 0 where
  pub numbered : begun_number b ≡ (load image).number
  pub loaded : begun_of b ≡ dispatcher (load image).network
  pub whole : (input : List ℕ) → take (suc longest_sheet) input ≡ image
      → (begun_number b ≡ (load input).number) × (begun_of b ≡ dispatcher (load input).network)

-- a word that is no call leaves all
unfoldable pub after_word : Option Call → Dispatcher → Dispatcher
after_word (Some k) d = left_by_step (step_of k) d
after_word None d = d

-- `rN` is a run with N rounds, however large N is, though a larger number than 64 bits can say is read as the largest that they can. 'r' is 114.
abbrev pub RunsAll : List ℕ → Dispatcher → Dispatcher → Type 0
RunsAll word d e = (digits : List ℕ) → word ≡ 114 ∷ digits → is_number digits ≡ true → e ≡ with_network d (run (value_from 0 digits) d.network).network
