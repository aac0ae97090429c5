-- What a command line asks for, word by word.
-- The command is the first word, and nothing may stand behind it.
use Rattle.std.proofs.Common.{ℕ, ◌≡◌, List, [], ◌∷◌, None, Some, codes, refl}
use Rattle.support_cli.specs.Answers.{Answer, not_understood, says}
use Rattle.sheet_cli_scribe.specs.declared.Command.{Command}
use Rattle.sheet_cli_scribe.specs.Answers.{command_in, answer_to, obeyed, answer_by, scribe_answer, taken_for, taken_by, bytes_taken}

-- nothing is read, and this is said
pub record Blind (words : List (List ℕ)) (a : Answer) : Type 0 where
  pub takes : bytes_taken words ≡ 0
  pub says : (s : List ℕ) → scribe_answer words s ≡ a

pub none_given : (words : List (List ℕ)) → words ≡ [] → Blind words (says (codes "no command given: scribe sheet, or scribe text") [] not_understood)
unfolding scribe_answer bytes_taken
none_given words e = record { takes = rw e refl; says = λ s. rw e refl }

module _ (words : List (List ℕ)) (word : List ℕ) (others : List (List ℕ)) (split : words ≡ word ∷ others) where
  pub unread : command_in word ≡ None → Blind words (says (codes "command not understood: ") word not_understood)
  unfolding scribe_answer bytes_taken answer_by taken_by
  unread e = record { takes = rw (split, e) refl; says = λ s. rw (split, e) refl }

  module _ (command : Command) (known : command_in word ≡ Some command) where
    pub surplus : (next : List ℕ) (more : List (List ℕ)) → others ≡ next ∷ more → Blind words (says (codes "argument not understood: ") next not_understood)
    unfolding scribe_answer bytes_taken answer_by taken_by obeyed
    surplus next more e = record { takes = rw (split, known, e) refl; says = λ s. rw (split, known, e) refl }

    pub taken_whole : others ≡ [] → bytes_taken words ≡ taken_for command
    unfolding bytes_taken taken_by
    taken_whole e = rw (split, known, e) refl

    pub answered : others ≡ [] → (s : List ℕ) → scribe_answer words s ≡ answer_to command s
    unfolding scribe_answer answer_by obeyed
    answered e s = rw (split, known, e) refl
