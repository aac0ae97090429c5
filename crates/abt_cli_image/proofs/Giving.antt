-- What is answered whatever the file holds, or for what is read of it, is the answer that is given.
-- Some file is one that a name may hold.
use Rattle.std.proofs.Common.{◌≡◌, ℕ, Bool, true, List, length, take, refl, sym, ap, ◌∙◌, subst, arith, Option, None, Some, unwrap_or, map, vec_items}
use Rattle.support_cli.specs.Streams.{OutputState}
use Rattle.support_cli.specs.Answers.{Answer, Answered}
use Rattle.support_cli.specs.Files.{Held, Unknown, Unreadable, Bytes, IsRead, ReadsFile}
use Rattle.support_cli.proofs.Files.{some-file, some-none, none-some, some-same}
use Rattle.abt_board_text.specs.Options.{CommandLine, ReadsAs}
use Rattle.abt_board_text.specs.declared.options.Read.{Read}
use Rattle.abt_cli_image.specs.Answers.{write_by}
use Rattle.abt_cli_image.specs.Giving.{Ends, Gives}

module _ {out out' err err' : OutputState} {code : ℕ} where
  -- ---- whatever memory there is

  pub ends-by : (answer : Bool → Answer) (enough : Bool) (a : Answer) → answer enough ≡ a → Answered a out out' err err' code
      → Ends answer out out' err err' code
  ends-by answer enough a same h = record { enough = enough; answered = rw same h }

  pub ends-so : (answer other : Bool → Answer) → ((enough : Bool) → other enough ≡ answer enough) → Ends answer out out' err err' code
      → Ends other out out' err err' code
  ends-so answer other same h = record { enough = h.enough; answered = rw (same h.enough) h.answered }

  -- ---- whatever the file holds

  pub gives-blind : (answer : Bool → Option (List ℕ) → Answer) (held : Held) (a : Answer) → ((enough : Bool) (file : Option (List ℕ)) → answer enough file ≡ a)
      → Answered a out out' err err' code → Gives answer held out out' err err' code
  gives-blind answer held a same h =
      let (file, read) = some-file held in
      record { enough = true; file = file; read = read; answered = rw (same true file) h }

  pub gives-so : (answer other : Bool → Option (List ℕ) → Answer) (held held' : Held)
      → ((enough : Bool) (file : Option (List ℕ)) → other enough file ≡ answer enough file) → held' ≡ held
      → Gives answer held out out' err err' code → Gives other held' out out' err err' code
  gives-so answer other held held' same e h =
      rw e (record { enough = h.enough; file = h.file; read = h.read; answered = rw (same h.enough h.file) h.answered })

  -- ---- by what is read

  pub gives-none : (answer : Bool → Option (List ℕ) → Answer) (held : Held) (a : Answer) (buffer : List ℕ) → ((enough : Bool) → answer enough None ≡ a)
      → ReadsFile held None buffer → Answered a out out' err err' code → Gives answer held out out' err err' code
  gives-none answer Unknown a buffer same f h = record { enough = true; file = None; read = tt; answered = rw (same true) h }
  gives-none answer Unreadable a buffer same f h = record { enough = true; file = None; read = refl; answered = rw (same true) h }
  gives-none answer (Bytes bytes) a buffer same f h = none-some f.gives.0

  -- as many bytes are read as tell the answer
  pub gives-some : (answer : Bool → Option (List ℕ) → Answer) (held : Held) (n : ℕ) (buffer : List ℕ)
      → ((enough : Bool) (bytes : List ℕ) → answer enough (Some (take 33817 bytes)) ≡ answer enough (Some bytes))
      → ReadsFile held (Some n) buffer → length buffer ≡ 33817 → Ends (λ enough. answer enough (Some (take n buffer))) out out' err err' code
      → Gives answer held out out' err err' code
  gives-some answer Unknown n buffer cut f l h = record { enough = h.enough; file = Some (take n buffer); read = tt; answered = h.answered }
  gives-some answer Unreadable n buffer cut f l h = some-none f.gives
  gives-some answer (Bytes bytes) n buffer cut f l h =
      let front : take n buffer ≡ take (length buffer) bytes = ap (λ (k : ℕ). take k buffer) (some-same f.gives.0) ∙ f.gives.1 in
      let whole : answer h.enough (Some (take n buffer)) ≡ answer h.enough (Some bytes) =
      ap (λ (s : List ℕ). answer h.enough (Some s)) (front ∙ ap (λ (k : ℕ). take k bytes) l) ∙ cut h.enough bytes in
      record {
        enough = h.enough;
        file = Some bytes;
        read = refl;
        answered = subst (λ (a : Answer). Answered a out out' err err' code) whole h.answered;
      }

  -- by the code's options, word and calls
  pub line-gives : (l : CommandLine) (r : Read) (held : List ℕ → Held) → ReadsAs l r
      → Gives (write_by r.options r.word.now (map vec_items r.calls.now)) (held r.word.now) out out' err err' code
      → Gives (write_by l.options l.word l.calls) (held l.word) out out' err err' code
  line-gives l r held h g = rw (← h.options, ← h.word, ← h.calls) g
