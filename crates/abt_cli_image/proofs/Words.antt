-- What a command line asks for, word by word.
-- The command is the first word; an image's name is the second, and nothing may stand behind it.
use Rattle.std.proofs.Common.{◌≡◌, ℕ, Bool, true, false, List, [], ◌∷◌, codes, refl, ap, ◌∙◌, Option, None, Some}
use Rattle.support_cli.specs.Answers.{not_understood, says}
use Rattle.abt_board_text.specs.Options.{is_option}
use Rattle.abt_cli_image.specs.declared.Command.TheVariants.{Write, Move}
use Rattle.abt_cli_image.specs.Answers.{no_file, strange_option, moved_by, move_alone, move_answer, image_named, write_answer, sheet_named, command_in, answer_by, no_command, image_answer, file_by, file_named}

-- ---- the command

pub no-command : (words : List (List ℕ)) → words ≡ [] → (enough : Bool) (file : Option (List ℕ)) → image_answer words enough file ≡ no_command
unfolding image_answer
no-command words e enough file = rw e refl

module _ (words : List (List ℕ)) (word : List ℕ) (others : List (List ℕ)) (split : words ≡ word ∷ others) where
  pub unread-command : command_in word ≡ None → (enough : Bool) (file : Option (List ℕ))
      → image_answer words enough file ≡ says (codes "command not understood: ") word not_understood
  unfolding image_answer answer_by
  unread-command e enough file = rw (split, e) refl

  pub writes : command_in word ≡ Some Write → (enough : Bool) (file : Option (List ℕ)) → image_answer words enough file ≡ write_answer others enough file
  unfolding image_answer answer_by
  writes e enough file = rw (split, e) refl

  pub writes-file : command_in word ≡ Some Write → file_named words ≡ sheet_named others
  unfolding file_named file_by
  writes-file e = rw (split, e) refl

  pub moves : command_in word ≡ Some Move → (enough : Bool) (file : Option (List ℕ)) → image_answer words enough file ≡ move_answer others file
  unfolding image_answer answer_by
  moves e enough file = rw (split, e) refl

  pub moves-file : command_in word ≡ Some Move → file_named words ≡ image_named others
  unfolding file_named file_by
  moves-file e = rw (split, e) refl

-- ---- the image's name

pub no-name : (words : List (List ℕ)) → words ≡ [] → (enough : Bool) (file : Option (List ℕ)) → move_answer words file ≡ no_file (codes "image move IMAGE")
unfolding move_answer
no-name words e enough file = rw e refl

module _ (name : List ℕ) (others : List (List ℕ)) (file : Option (List ℕ)) where
  as-option : is_option name ≡ true → move_answer (name ∷ others) file ≡ strange_option name
  unfolding move_answer
  as-option t = rw (move_answer, t) refl

  as-name : is_option name ≡ false → move_answer (name ∷ others) file ≡ move_alone name others file
  unfolding move_answer
  as-name t = rw (move_answer, t) refl

module _ (words : List (List ℕ)) (name : List ℕ) (others : List (List ℕ)) (split : words ≡ name ∷ others) where
  pub option-named : is_option name ≡ true → (enough : Bool) (file : Option (List ℕ)) → move_answer words file ≡ strange_option name
  option-named t enough file = ap (λ (ws : List (List ℕ)). move_answer ws file) split ∙ as-option name others file t

  plain : is_option name ≡ false → (file : Option (List ℕ)) → move_answer words file ≡ move_alone name others file
  plain t file = ap (λ (ws : List (List ℕ)). move_answer ws file) split ∙ as-name name others file t

  pub surplus : (word : List ℕ) (more : List (List ℕ)) → is_option name ≡ false → others ≡ word ∷ more → (enough : Bool) (file : Option (List ℕ))
      → move_answer words file ≡ says (codes "argument not understood: ") word not_understood
  unfolding move_alone
  surplus word more t e enough file = plain t file ∙ ap (λ (ws : List (List ℕ)). move_alone name ws file) e

  pub alone : is_option name ≡ false → others ≡ [] → (enough : Bool) (file : Option (List ℕ)) → move_answer words file ≡ moved_by name file
  unfolding move_alone
  alone t e enough file = plain t file ∙ ap (λ (ws : List (List ℕ)). move_alone name ws file) e

  pub name-is : image_named words ≡ name
  name-is = rw split refl
