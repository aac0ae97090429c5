-- Words that are read one by one, each call put behind those before: with what the words left say, that is what all of them say.
-- Calls in front of calls in front of others are both in front of the others.
use Rattle.std.proofs.Common.{◌≡◌, ℕ, List, [], ◌∷◌, ◌++◌, refl, sym, ap, ◌∙◌, append_assoc, append-nil, Option, None, Some}
use Rattle.abt_calls.specs.declared.calls.Call.{Call}
use Rattle.abt_board_text.specs.Reading.{call_in}
use Rattle.abt_cli_image.specs.Calls.{Calls, Understood, NoCall, ahead, calls_by, calls_from}

ahead-behind : (calls : List Call) (call : Call) (others : Calls) → ahead (calls ++ (call ∷ [])) others ≡ ahead calls (ahead (call ∷ []) others)
unfolding ahead
ahead-behind calls call (Understood others) = ap Understood (append_assoc calls (call ∷ []) others)
ahead-behind calls call (NoCall word) = refl

ahead-none : (others : Calls) → ahead [] others ≡ others
unfolding ahead
ahead-none (Understood others) = refl
ahead-none (NoCall word) = refl

pub calls-begin : (words : List (List ℕ)) (calls : List Call) → calls ≡ [] → ahead calls (calls_from words) ≡ calls_from words
calls-begin words calls e = ap (λ (x : List Call). ahead x (calls_from words)) e ∙ ahead-none (calls_from words)

-- some words are read, which say these calls; the words left
module _ (all words : List (List ℕ)) (calls : List Call) (so_far : ahead calls (calls_from words) ≡ calls_from all) where
  pub calls-go : (word : List ℕ) (others : List (List ℕ)) (call : Call) (more : List Call) → words ≡ word ∷ others → Some call ≡ call_in word
      → more ≡ calls ++ (call ∷ []) → ahead more (calls_from others) ≡ calls_from all
  unfolding calls_from calls_by
  calls-go word others call more split known pushed =
      let one : ahead (call ∷ []) (calls_from others) ≡ calls_from words =
      ap (λ (k : Option Call). calls_by k word (calls_from others)) known ∙ ap calls_from (sym split) in
      ap (λ (x : List Call). ahead x (calls_from others)) pushed ∙ ahead-behind calls call (calls_from others) ∙ ap (ahead calls) one ∙ so_far

  pub calls-stop : (word : List ℕ) (others : List (List ℕ)) → words ≡ word ∷ others → None ≡ call_in word → calls_from all ≡ NoCall word
  unfolding calls_from calls_by ahead
  calls-stop word others split unknown =
      let one : calls_from words ≡ NoCall word =
      ap calls_from split ∙ ap (λ (k : Option Call). calls_by k word (calls_from others)) (sym unknown) in
      sym so_far ∙ ap (ahead calls) one

  pub calls-over : words ≡ [] → calls_from all ≡ Understood calls
  unfolding calls_from ahead
  calls-over none = sym so_far ∙ ap (λ (ws : List (List ℕ)). ahead calls (calls_from ws)) none ∙ ap Understood (append-nil calls)
