-- Calls that are made one by one, what is said of each put behind what is said of those before: as far as it has come, that is the text of all of them.
use Rattle.std.proofs.Common.{◌≡◌, ℕ, List, [], ◌∷◌, ◌++◌, true, false, length, take, refl, sym, ap, ◌∙◌, append_assoc, append-nil, subst, max, arith}
use Rattle.std.proofs.Math.Seq.{take-append_seam}
use Rattle.std.proofs.KnownBytes.{Appends-nil, Keeps-refl}
use Rattle.model_dispatch.specs.Dispatch.{Dispatcher}
use Rattle.support_cli.specs.Streams.{OutputState, Puts}
use Rattle.support_cli.proofs.Putting.{puts_then, puts_nothing}
use Rattle.abt_board_text.specs.Reading.{call_in}
use Rattle.abt_board_text.specs.Calling.{after_word}
use Rattle.abt_board_text.specs.Text.{call_text}
use Rattle.abt_cli_board.specs.Answers.{calls_text, call_status, calls_status}

-- where a write has failed, nothing is put, whatever is to be
pub puts_failed : (text : List ℕ) (x : OutputState) → x.failed ≡ true → Puts text x x
puts_failed text x e = record {
  some = (0, Appends-nil x.known);
  all = λ good. absurd (let bad : true ≡ false = sym e ∙ good in cc);
  kept = λ _. (e, Keeps-refl x.known);
}

-- the calls left, the dispatcher, the status and the output, after some of these calls
pub record Playing (words : List (List ℕ)) (d : Dispatcher) (begun : OutputState) (left : List (List ℕ)) (e : Dispatcher) (status : ℕ) (now : OutputState)
    : Type 0 where
  pub text : List ℕ
  pub put : Puts text begun now
  pub same : text ++ calls_text left e ≡ calls_text words d
  pub worst : max status (calls_status left) ≡ calls_status words

pub playing-begins : (words : List (List ℕ)) (d : Dispatcher) (x : OutputState) → Playing words d x words d 0 x
playing-begins words d x = record { text = []; put = puts_nothing x; same = refl; worst = omega arith }

module _ {words : List (List ℕ)} {d : Dispatcher} {begun : OutputState} {left : List (List ℕ)} {e : Dispatcher} {status : ℕ} {now : OutputState}
    (p : Playing words d begun left e status now) where
  pub playing-goes : (word : List ℕ) (others : List (List ℕ)) (f : Dispatcher) (one worse : ℕ) (new : OutputState) → left ≡ word ∷ others
      → Puts (call_text word e) now new → f ≡ after_word (call_in word) e → one ≡ call_status word → worse ≡ max status one
      → Playing words d begun others f worse new
  unfolding calls_text calls_status
  playing-goes word others f one worse new l q a o m =
      let s : p.text ++ (call_text word e ++ calls_text others f) ≡ calls_text words d =
      rw a (ap (λ (ws : List (List ℕ)). p.text ++ calls_text ws e) (sym l) ∙ p.same) in
      let w : max status (max (call_status word) (calls_status others)) ≡ calls_status words =
      ap (λ (ws : List (List ℕ)). max status (calls_status ws)) (sym l) ∙ p.worst in
      record {
        text = p.text ++ call_text word e;
        put = puts_then p.text (call_text word e) begun now new p.put q;
        same = append_assoc p.text (call_text word e) (calls_text others f) ∙ s;
        worst = omega (arith, m, o, w);
      }

  pub playing-ends : left ≡ [] → Puts (calls_text words d) begun now × (status ≡ calls_status words)
  unfolding calls_text calls_status
  playing-ends l =
      let s : p.text ++ [] ≡ calls_text words d = ap (λ (ws : List (List ℕ)). p.text ++ calls_text ws e) (sym l) ∙ p.same in
      let w : max status 0 ≡ calls_status words = ap (λ (ws : List (List ℕ)). max status (calls_status ws)) (sym l) ∙ p.worst in
      (subst (λ (t : List ℕ). Puts t begun now) (sym (append-nil p.text) ∙ s) p.put, omega (arith, w))

  pub playing-stops : now.failed ≡ true → Puts (calls_text words d) begun now
  playing-stops failed =
      subst (λ (t : List ℕ). Puts t begun now) p.same
      (puts_then p.text (calls_text left e) begun now now p.put (puts_failed (calls_text left e) now failed))

  pub playing-short : (n : ℕ) × Puts (take n (calls_text words d)) begun now
  playing-short = (
    length p.text,
    subst (λ (t : List ℕ). Puts t begun now)
        (sym (take-append_seam p.text (calls_text left e)) ∙ ap (take (length p.text)) p.same)
        p.put,
  )
