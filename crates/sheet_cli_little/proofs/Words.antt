-- What a command line asks for, word by word.
-- The number is the first word, and nothing may stand behind it.
use Rattle.std.proofs.Common.{ℕ, ◌≡◌, List, [], ◌∷◌, None, Some, codes, refl}
use Rattle.model_base.specs.Numerals.{number_in}
use Rattle.support_cli.specs.Answers.{not_understood, says}
use Rattle.sheet_cli_little.specs.Answers.{sheet_answer, answered, answer_by, little_answer}

pub none_given : (words : List (List ℕ)) → words ≡ [] → little_answer words ≡ says (codes "no number given: little N") [] not_understood
unfolding little_answer
none_given words e = rw e refl

module _ (words : List (List ℕ)) (word : List ℕ) (others : List (List ℕ)) (split : words ≡ word ∷ others) where
  pub unread : number_in word ≡ None → little_answer words ≡ says (codes "number not understood: ") word not_understood
  unfolding little_answer answer_by
  unread e = rw (split, e) refl

  module _ (ordinal : ℕ) (known : number_in word ≡ Some ordinal) where
    pub surplus : (next : List ℕ) (more : List (List ℕ)) → others ≡ next ∷ more
        → little_answer words ≡ says (codes "argument not understood: ") next not_understood
    unfolding little_answer answer_by answered
    surplus next more e = rw (split, known, e) refl

    pub alone : others ≡ [] → little_answer words ≡ sheet_answer ordinal
    unfolding little_answer answer_by answered
    alone e = rw (split, known, e) refl
