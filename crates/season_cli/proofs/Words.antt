-- What a command line asks for, and what is done for it.
-- The option is the first word, and nothing may stand behind it; nothing is read where a word is not understood.
use Rattle.std.proofs.Common.{ℕ, ◌≡◌, Bool, true, false, List, [], ◌∷◌, refl, arith}
use Rattle.std.proofs.KnownBytes.{Consumes-nil}
use Rattle.season_text.specs.Text.{season_text}
use Rattle.season_figures.specs.declared.stream.Season.{Season}
use Rattle.season_figures.specs.Pieces.{season_of}
use Rattle.support_cli.specs.Streams.{InputState, OutputState, Takes}
use Rattle.support_cli.specs.Answers.{done, prints, Answered}
use Rattle.support_cli.proofs.Putting.{puts_then}
use Rattle.season_cli.specs.Answers.{is_progress, Asked, Stream, Wrong, asked_behind, asked, wrong_answer, stream_answer}
use Rattle.season_cli.specs.Behaving.{Serves}
use Rattle.season_cli.specs.Pieces.{StreamRead}

-- ---- the words

pub none_given : (words : List (List ℕ)) → words ≡ [] → asked words ≡ Stream false
unfolding asked
none_given words e = rw e refl

module _ (words : List (List ℕ)) (word : List ℕ) (others : List (List ℕ)) (split : words ≡ word ∷ others) where
  pub unread : is_progress word ≡ false → asked words ≡ Wrong word
  unfolding asked
  unread e = rw (split, e, asked) refl

  pub surplus : is_progress word ≡ true → (next : List ℕ) (more : List (List ℕ)) → others ≡ next ∷ more → asked words ≡ Wrong next
  unfolding asked asked_behind
  surplus p next more e = rw (split, p, asked, e) refl

  pub alone : is_progress word ≡ true → others ≡ [] → asked words ≡ Stream true
  unfolding asked asked_behind
  alone p e = rw (split, p, asked, e) refl

-- ---- what is done

takes_nothing : (given : InputState) → Takes 0 [] given given
takes_nothing given = record { taken = Consumes-nil given.known; few = omega arith; all = λ e h. absurd (omega arith); over = λ e. (e, refl) }

pub serves_blind : {given : InputState} {out out' err err' : OutputState} {code : ℕ} (a : Asked) (word : List ℕ) → a ≡ Wrong word
    → Answered (wrong_answer word) out out' err err' code → Serves a given given out out' err err' code
serves_blind {given} {out} {out'} {err} {err'} {code} a word e h =
    let served : Serves (Wrong word) given given out out' err err' code = record { input = []; reads = takes_nothing given; answered = h } in
    rw e served

pub serves_stream : {given given' : InputState} {out out' err mid err' : OutputState} {code : ℕ} (tells : Bool) (s : Season) → StreamRead tells given given' err mid s
    → Answered (prints (season_text (season_of s)) done) out out' mid err' code → Serves (Stream tells) given given' out out' err err' code
unfolding prints stream_answer
serves_stream {given} {given'} {out} {out'} {err} {mid} {err'} {code} tells s r p =
    record {
      input = r.input;
      reads = r.reads;
      answered = record {
        output = rw (← r.figures) p.output;
        errors = puts_then _ _ _ _ _ r.says p.errors;
        status = p.status;
      };
    }

pub serves_so : {given given' : InputState} {out out' err err' : OutputState} {code : ℕ} (a b : Asked) → a ≡ b → Serves b given given' out out' err err' code
    → Serves a given given' out out' err err' code
serves_so a b e s = rw e s
