-- What a file's bytes give is what their first 33,817 give, and what is read of a name is what it holds.
use Rattle.std.proofs.Common.{◌≡◌, ℕ, suc, List, true, false, length, take, refl, sym, ap, ◌∙◌, subst, arith, Option, None, Some, Result, unwrap_or, map, vec_items}
use Rattle.model_sheet.specs.Sheet.{header_length, record_length, max_records, longest_sheet}
use Rattle.model_base.proofs.Tests.{test}
use Rattle.abt_image_mover.proofs.Cut.{load_cut}
use Rattle.abt_dock_text.proofs.Cut.{start-cut}
use Rattle.support_cli.specs.Streams.{OutputState}
use Rattle.support_cli.specs.Answers.{Answer, prints}
use Rattle.support_cli.specs.Files.{Held, Unknown, Unreadable, Bytes, IsRead, ReadsFile}
use Rattle.support_cli.proofs.Files.{some-file, some-none, none-some, some-same}
use Rattle.support_cli.specs.declared.status.Status.{Status}
use Rattle.abt_board_text.specs.Options.{rule_of, opens_file, CommandLine, ReadsAs}
use Rattle.abt_board_text.specs.Text.{unopened_text}
use Rattle.abt_board_text.specs.declared.options.Read.{Read}
use Rattle.abt_board_text.specs.declared.options.Options.{Options}
use Rattle.abt_cli_board.specs.Answers.{image_began, sheet_began, began_by, played, unread, opened_by, unopened_status, answer_by}
use Rattle.abt_cli_board.specs.Saying.{Said, SaidOf}

pub began-cut : (o : Options) (bytes : List ℕ) → began_by o (take (suc longest_sheet) bytes) ≡ began_by o bytes
unfolding began_by
began-cut o bytes =
    test o.image
    (λ t. rw (t, began_by) (ap image_began (load_cut bytes)))
    (λ t. rw (t, began_by) (ap sheet_began (start-cut (rule_of o) bytes)))

module _ {E : Type 0} (o : Options) (name : List ℕ) (calls : List (List ℕ)) (r : Result Status E) (x y : OutputState) (buffer : List ℕ) where
  pub opened-none : (held : Held) → ReadsFile held None buffer → Said (unread name) r x y → SaidOf (opened_by o name calls) held r x y
  unfolding opened_by
  opened-none Unknown f s = record { file = None; read = tt; kept = s }
  opened-none Unreadable f s = record { file = None; read = refl; kept = s }
  opened-none (Bytes bytes) f s = none-some f.gives.0

  pub opened-some : (held : Held) (n : ℕ) → ReadsFile held (Some n) buffer → length buffer ≡ 33817 → Said (played (began_by o (take n buffer)) calls) r x y
      → SaidOf (opened_by o name calls) held r x y
  unfolding opened_by longest_sheet header_length record_length max_records
  opened-some Unknown n f l s = record { file = Some (take n buffer); read = tt; kept = s }
  opened-some Unreadable n f l s = some-none f.gives
  opened-some (Bytes bytes) n f l s =
      let front : take n buffer ≡ take (length buffer) bytes = ap (λ (k : ℕ). take k buffer) (some-same f.gives.0) ∙ f.gives.1 in
      let whole : began_by o (take n buffer) ≡ began_by o bytes = ap (began_by o) (front ∙ ap (λ (k : ℕ). take k bytes) l) ∙ began-cut o bytes in
      record { file = Some bytes; read = refl; kept = subst (λ b. Said (played b calls) r x y) whole s }

pub said-as : {E : Type 0} (answer other : Option (List ℕ) → Answer) (held : Held) (r : Result Status E) (x y : OutputState)
    → ((file : Option (List ℕ)) → answer file ≡ other file) → SaidOf answer held r x y → SaidOf other held r x y
said-as answer other held r x y same s =
    record { file = s.file; read = s.read; kept = subst (λ (a : Answer). Said a r x y) (same s.file) s.kept }

-- ---- whether a file is opened

pub opens-so : (o : Options) (word : List ℕ) (calls : List (List ℕ)) → opens_file o ≡ true → (file : Option (List ℕ))
    → opened_by o word calls file ≡ answer_by o word calls file
unfolding answer_by
opens-so o word calls t file = rw (answer_by, t) refl

pub stays-so : (o : Options) (word : List ℕ) (calls : List (List ℕ)) (file : Option (List ℕ)) → opens_file o ≡ false
    → prints (unopened_text o word) (unopened_status o.stage o) ≡ answer_by o word calls file
unfolding answer_by
stays-so o word calls file t = rw (answer_by, t) refl

-- by the code's options, word and calls
pub line-said : {E : Type 0} (l : CommandLine) (r : Read) → ReadsAs l r → (held : List ℕ → Held) (s : Result Status E) (x y : OutputState)
    → SaidOf (answer_by r.options r.word.now (map vec_items r.calls.now)) (held r.word.now) s x y
    → SaidOf (answer_by l.options l.word l.calls) (held l.word) s x y
line-said l r h held s x y k = rw (← h.options, ← h.word, ← h.calls) k
