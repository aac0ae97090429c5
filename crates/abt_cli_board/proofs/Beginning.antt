-- What is said of the file's bytes, and behind it of the calls.
use Rattle.std.proofs.Common.{◌≡◌, ◌≢◌, ℕ, ◌+◌, List, ◌++◌, true, false, length, take, refl, sym, subst, ne_eqb, Result, Ok, Err, IfOk}
use Rattle.std.proofs.Math.Seq.{take-append-add}
use Rattle.model_dispatch.specs.Dispatch.{Dispatcher, dispatcher}
use Rattle.model_image_forms.specs.Reading.{load}
use Rattle.model_network.specs.Network.{start_sheet}
use Rattle.support_cli.specs.Streams.{OutputState, Puts}
use Rattle.support_cli.specs.Answers.{Answer, prints, refused}
use Rattle.support_cli.specs.declared.status.Status.{Status}
use Rattle.support_cli.specs.declared.status.Status.TheVariants.{Refused}
use Rattle.support_cli.proofs.Putting.{puts_then}
use Rattle.abt_board_text.specs.Options.{rule_of}
use Rattle.abt_board_text.specs.declared.options.Options.{Options}
use Rattle.abt_cli_board.specs.Answers.{calls_text, calls_status, Began, image_began, sheet_began, began_by, played}
use Rattle.abt_cli_board.specs.Saying.{Said}

pub if-ok : {A E : Type 0} {P Q : A → Type 0} (r : Result A E) → ((a : A) → P a → Q a) → IfOk r P → IfOk r Q
if-ok (Ok a) f p = f a p
if-ok (Err e) f p = p

-- ---- what begins

pub began-image : (o : Options) (bytes : List ℕ) → o.image ≡ true → image_began (load bytes) ≡ began_by o bytes
unfolding began_by
began-image o bytes t = rw (began_by, t) refl

pub began-sheet : (o : Options) (bytes : List ℕ) → o.image ≡ false → sheet_began (start_sheet (rule_of o) bytes) ≡ began_by o bytes
unfolding began_by
began-sheet o bytes t = rw (began_by, t) refl

-- ---- what follows

module _ (b : Began) (calls : List (List ℕ)) where
  goes-on : 0 ≡ b.number → prints (b.text ++ calls_text calls (dispatcher b.network)) (calls_status calls) ≡ played b calls
  unfolding played
  goes-on z = rw (played, ← z) refl

  ends : b.number ≢ 0 → prints b.text refused ≡ played b calls
  unfolding played
  ends n = rw (played, ne_eqb b.number 0 n) refl

  pub said-refused : (E : Type 0) (x y : OutputState) → b.number ≢ 0 → Puts b.text x y → Said {E = E} (played b calls) (Ok Refused) x y
  unfolding prints
  said-refused E x y n p = subst (λ (a : Answer). Said {E = E} a (Ok Refused) x y) (ends n) (p, λ good. refl, refl)

  behind : {E : Type 0} (r : Result Status E) (d : Dispatcher) (x y z : OutputState) → Puts b.text x y
      → Said (prints (calls_text calls d) (calls_status calls)) r y z → Said (prints (b.text ++ calls_text calls d) (calls_status calls)) r x z
  unfolding prints
  behind (Ok s) d x y z p (q, status, quiet) = (puts_then b.text (calls_text calls d) x y z p q, status, quiet)
  behind (Err e) d x y z p (n, q) = (
    length b.text + n,
    subst (λ (t : List ℕ). Puts t x z) (sym (take-append-add b.text (calls_text calls d) n))
        (puts_then b.text (take n (calls_text calls d)) x y z p q),
  )

  pub said-played : {E : Type 0} (r : Result Status E) (d : Dispatcher) (x y z : OutputState) → 0 ≡ b.number → d ≡ dispatcher b.network → Puts b.text x y
      → Said (prints (calls_text calls d) (calls_status calls)) r y z → Said (played b calls) r x z
  said-played r d x y z n e p q =
      subst (λ (a : Answer). Said a r x z) (goes-on n)
      (behind r (dispatcher b.network) x y z p (subst (λ (d : Dispatcher). Said (prints (calls_text calls d) (calls_status calls)) r y z) e q))
