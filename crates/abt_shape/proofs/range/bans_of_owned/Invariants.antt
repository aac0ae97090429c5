-- `bans_of_owned` is whether the ban words of one higher agent are between owned values.
-- From agent j - 1 down. The invariant: what is asked of all words is asked of what is laid over each other and of those left.
use Rattle.std.proofs.Common.{ℕ, suc, pred, ◌<◌, ◌≡◌, Bool, ◌&&◌, eqb, get_or}
use Rattle.model_base.specs.Finite.{all_to}
use Rattle.model_sheet.specs.Problem.{Problem, domain, word_at, word_owned}
use Rattle.abt_shape.specs.Parts.{Columns, Beyond}
use Rattle.abt_shape.proofs.range.bans_of_owned.Given as goal

abbrev pub word : Problem → ℕ → ℕ → Bool
word p j i = word_owned (domain p i) (domain p j) (get_or p.bans (word_at i j) 0)

abbrev pub invariant-loop-k : goal.invariant-loop-k
invariant-loop-k l =
    (p : Problem) → p.bans ≡ l.bans → Columns (domain p l.j) l.columns → ((i : ℕ) → i < 12 → Beyond (domain p (suc i)) (get_or l.rows i 0))
    → all_to (pred l.j) (word p l.j) ≡ eqb l.over 0 && all_to l.k (word p l.j)
