-- A file's first 33,817 bytes tell what all of them tell, as a sheet and as an image.
-- No sheet and no image is as long, and the form of an image is its first byte.
use Rattle.std.proofs.Common.{◌≡◌, ℕ, Bool, true, false, List, take, refl, ap, ◌∙◌, arith, Some, eqb, get_or-take}
use Rattle.model_sheet.specs.Sheet.{header_length, record_length, max_records, longest_sheet}
use Rattle.model_image.specs.Reading.{Loaded, bad_image}
use Rattle.model_image_forms.specs.Forms.{Form, image_in, form_of, other_form}
use Rattle.model_image_forms.specs.Reading.{load}
use Rattle.model_image_forms.specs.Moving.{moved}
use Rattle.abt_image_mover.proofs.Cut.{load_cut}
use Rattle.abt_dock_text.proofs.Cut.{start-cut}
use Rattle.support_cli.specs.Answers.{done, prints, says_refused}
use Rattle.abt_board_text.specs.Options.{rule_of, opens_file}
use Rattle.abt_board_text.specs.declared.options.Options.{Options}
use Rattle.abt_cli_image.specs.Answers.{moved_answer, started, form_by, opened_by, unopened, write_by, moved_by}

pub opened-cut : (o : Options) (name : List ℕ) (calls : List (List ℕ)) (enough : Bool) (bytes : List ℕ)
    → opened_by o name calls enough (Some (take 33817 bytes)) ≡ opened_by o name calls enough (Some bytes)
unfolding opened_by longest_sheet header_length record_length max_records
opened-cut o name calls enough bytes = ap (started (form_by o) calls enough) (start-cut (rule_of o) bytes)

form-cut : (bytes : List ℕ) → form_of (take 33817 bytes) ≡ form_of bytes
unfolding form_of
form-cut bytes = rw (get_or-take 33817 bytes 0 0 (omega arith), form_of)

loaded-cut : (bytes : List ℕ) → load (take 33817 bytes) ≡ load bytes
unfolding longest_sheet header_length record_length max_records
loaded-cut bytes = load_cut bytes

moved-cut : (bytes : List ℕ) → moved_answer (take 33817 bytes) ≡ moved_answer bytes
unfolding moved_answer moved
moved-cut bytes =
    ap
    (λ (l : Loaded). elim (eqb l.number 0) [
      | true ↦ prints (image_in (other_form (form_of (take 33817 bytes))) l.network) done
      | false ↦ says_refused bad_image
    ])
    (loaded-cut bytes)
    ∙ ap
    (λ (f : Form). elim (eqb (load bytes).number 0) [
      | true ↦ prints (image_in (other_form f) (load bytes).network) done
      | false ↦ says_refused bad_image
    ])
    (form-cut bytes)

pub moved-by-cut : (name bytes : List ℕ) → moved_by name (Some (take 33817 bytes)) ≡ moved_by name (Some bytes)
unfolding moved_by
moved-by-cut name bytes = moved-cut bytes

-- ---- whether a sheet is opened

module _ (o : Options) (word : List ℕ) (calls : List (List ℕ)) where
  pub opens-so : opens_file o ≡ true → (enough : Bool) (file : _) → write_by o word calls enough file ≡ opened_by o word calls enough file
  unfolding write_by
  opens-so t enough file = rw (write_by, t) refl

  pub stays-so : opens_file o ≡ false → (enough : Bool) (file : _) → write_by o word calls enough file ≡ unopened o.stage o word
  unfolding write_by
  stays-so t enough file = rw (write_by, t) refl
