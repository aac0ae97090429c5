-- The words of a command line, one by one.
use Rattle.std.proofs.Common.{◌≡◌, ℕ, suc, List, [], ◌∷◌, Vec, Global, true, false, refl, sym, ap, ◌∙◌, length, ◌<◌, arith, map, vec_items}
use Rattle.std.proofs.lemmas.List.{length-map}
use Rattle.abt_board_text.specs.declared.options.Options.{Options}
use Rattle.abt_board_text.specs.Options.{with_option, goes_on, CommandLine, line_from}

goes : (o : Options) (word : List ℕ) (words : List (List ℕ)) → goes_on (with_option o word).stage ≡ true
    → line_from (with_option o word) words ≡ line_from o (word ∷ words)
unfolding line_from
goes o word words g = rw (line_from, g) refl

stops : (o : Options) (word : List ℕ) (words : List (List ℕ)) → goes_on (with_option o word).stage ≡ false
    → record { options = with_option o word; word = word; calls = words } ≡ line_from o (word ∷ words)
unfolding line_from
stops o word words g = rw (line_from, g) refl

module _ (o p : Options) (word : List ℕ) (words all : List (List ℕ)) (a : all ≡ word ∷ words) (e : p ≡ with_option o word) where
  pub line-next : goes_on p.stage ≡ true → line_from p words ≡ line_from o all
  line-next g =
      ap (λ (x : Options). line_from x words) e
      ∙ goes o word words (sym (ap (λ (x : Options). goes_on x.stage) e) ∙ g)
      ∙ ap (line_from o) (sym a)

  pub line-stops : goes_on p.stage ≡ false → record { options = p; word = word; calls = words } ≡ line_from o all
  line-stops g =
      ap (λ (x : Options). record { options = x; word = word; calls = words }) e
      ∙ stops o word words (sym (ap (λ (x : Options). goes_on x.stage) e) ∙ g)
      ∙ ap (line_from o) (sym a)

pub line-over : (o : Options) (all : List (List ℕ)) → all ≡ [] → record { options = o; word = []; calls = [] } ≡ line_from o all
unfolding line_from
line-over o all a = rw a refl

pub shorter : (all others : List (Vec ℕ Global)) (word : List ℕ) → map vec_items all ≡ word ∷ map vec_items others → length others < length all
shorter all others word e = omega (arith, sym (length-map all vec_items) ∙ ap length e ∙ ap suc (length-map others vec_items))
