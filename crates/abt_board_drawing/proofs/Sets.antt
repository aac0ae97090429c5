-- What is said of each scanner of a set is what is said of the lowest, and behind it what is said of each other.
-- Those below the lowest have nothing to be said, and those above it stay when it is taken off.
use Rattle.std.proofs.Common.{◌≡◌, ◌≢◌, ℕ, zero, suc, ◌+◌, ◌≤◌, ◌<◌, ◌^◌, Bool, true, false, not, List, Some, [], ◌++◌, refl, sym, ap, ◌∙◌, arith}
use Rattle.std.proofs.lemmas.Bool.{false≢true}
use Rattle.model_base.specs.Finite.{lowest, gather}
use Rattle.model_base.proofs.Tests.{test, eq_test, not-true}
use Rattle.model_base.proofs.Search.{lowest-range, lowest-before, all_to-at, to-all_to, at_same, at_other}
use Rattle.model_base.proofs.Gathers.{gather-same, gather_none}
use Rattle.model_agent.specs.Message.{known, nobody}
use Rattle.model_agent.specs.Shape.{max_named}
use Rattle.model_base.specs.Sets.{members}
use Rattle.abt_packed.specs.Packed.{assignment, Lowest, EntryTaken, MemberTaken}
use Rattle.abt_packed.proofs.Digits.{nobody-assigned}
use Rattle.abt_packed.proofs.Ends.{first_member, first-named}
use Rattle.abt_packed.proofs.Sets.{no-members}
use Rattle.abt_board_drawing.specs.Text.{said_if, of_each, is_nobody, line_about}

module _ (i : ℕ) (f g : ℕ → List ℕ) (gone : g i ≡ []) (kept : (j : ℕ) → j ≢ i → g j ≡ f j) where
  first-taken : (m k : ℕ) → k ≤ i → i < k + m → ((j : ℕ) → k ≤ j → j < i → f j ≡ []) → gather m k f ≡ f i ++ gather m k g
  unfolding gather
  first-taken zero k l u z = absurd (omega arith)
  first-taken (suc m) k l u z =
      eq_test k i
      (λ e. rw (e, gone) (ap (λ (s : List ℕ). f i ++ s) (gather-same m (suc i) f g (λ j a b. sym (kept j (λ q. omega arith))))))
      (λ n.
      let nothing : f k ≡ [] = z k (omega arith) (omega (arith, n)) in
      rw (kept k n, nothing) (first-taken m (suc k) (omega (arith, n)) (omega arith) (λ j a b. z j (omega arith) b)))

-- the lowest of a set, and the others
pub each-first : (set rest : ℕ → Bool) (text other : ℕ → List ℕ) (i : ℕ) → lowest max_named 1 set ≡ Some i → set i ≡ true → rest i ≡ false
    → ((j : ℕ) → j ≢ i → (rest j ≡ set j) × (other j ≡ text j)) → of_each set text ≡ text i ++ of_each rest other
unfolding of_each said_if
each-first set rest text other i e s r k =
    let range = lowest-range max_named 1 set i e in
    first-taken i (λ j. said_if (set j) (text j)) (λ j. said_if (rest j) (other j)) (rw r) (λ j n. rw ((k j n).0, (k j n).1))
    max_named 1 range.0 range.1 (λ j l u. rw (lowest-before max_named 1 set i j e l u))
    ∙ rw s

pub each-nobody : (set : ℕ → Bool) (text : ℕ → List ℕ) → ((j : ℕ) → set j ≡ false) → of_each set text ≡ []
unfolding of_each said_if
each-nobody set text h = gather_none max_named 1 (λ j. said_if (set j) (text j)) (λ j l u. rw (h j))

-- ---- as the code walks over a set and over a word

pub members-first : (text : ℕ → List ℕ) (x y k : ℕ) → MemberTaken x (Some k) y → of_each (members x) text ≡ text k ++ of_each (members y) text
members-first text x y k t =
    each-first (members x) (members y) text text k t.0.0 t.0.1 (rw (t.1, at_same (members x) k false))
    (λ j n. (rw (t.1, at_other (members x) k false j n), refl))

pub members-over : (text : ℕ → List ℕ) (x : ℕ) → x ≡ 0 → of_each (members x) text ≡ []
members-over text x e = rw e (each-nobody (members 0) text no-members)

abbrev named : ℕ → ℕ → Bool
named x k = known (assignment x k)

pub entries-first : (text : ℕ → ℕ → List ℕ) (x y : ℕ) (e : ℕ × ℕ) → EntryTaken x (Some e) y
    → of_each (λ k. known (assignment x k)) (λ k. text k (assignment x k))
    ≡ text e.0 e.1 ++ of_each (λ k. known (assignment y k)) (λ k. text k (assignment y k))
unfolding known
entries-first text x y e t =
    let off : assignment y e.0 ≡ 0 = rw t.2 (at_same (assignment x) e.0 0) in
    rw t.1
    (each-first (named x) (named y) (λ k. text k (assignment x k)) (λ k. text k (assignment y k)) e.0 t.0.0 t.0.1 (rw off)
    (λ j n. (rw (t.2, at_other (assignment x) e.0 0 j n), rw (t.2, at_other (assignment x) e.0 0 j n))))

pub entries-over : (text : ℕ → ℕ → List ℕ) (x : ℕ) → x ≡ 0 → of_each (λ k. known (assignment x k)) (λ k. text k (assignment x k)) ≡ []
unfolding known nobody
entries-over text x e = rw (e, nobody-assigned) (each-nobody (λ k. false) (λ k. text k 0) (λ j. refl))

-- ---- whether it is nobody

pub nobody-there : (set : ℕ → Bool) → ((k : ℕ) → set k ≡ false) → is_nobody set ≡ true
unfolding is_nobody
nobody-there set h = to-all_to max_named (λ k. not (set k)) (λ k l u. rw (h k))

pub somebody-there : (set : ℕ → Bool) (r : ℕ) → Lowest set r → is_nobody set ≡ false
unfolding is_nobody max_named
somebody-there set r l =
    test (is_nobody set)
    (λ t.
    let off : set r ≡ false = not-true (set r) (all_to-at max_named (λ k. not (set k)) t r l.2 l.3) in
    absurd (false≢true (sym off ∙ l.1)))
    (λ t. t)

pub nobody-in : (m : ℕ) → m ≡ 0 → is_nobody (members m) ≡ true
nobody-in m e = rw e (nobody-there (members 0) no-members)

pub somebody-in : (m : ℕ) → (m ≡ 0 → ⊥) → m < 2 ^ 16 → is_nobody (members m) ≡ false
somebody-in m n u = somebody-there (members m) _ (first_member m (omega (arith, n)) u)

pub nobody-named : (x : ℕ) → x ≡ 0 → is_nobody (λ k. known (assignment x k)) ≡ true
unfolding known nobody
nobody-named x e = rw (e, nobody-assigned) (nobody-there (λ k. false) (λ k. refl))

pub somebody-named : (x : ℕ) → (x ≡ 0 → ⊥) → x < 2 ^ 64 → is_nobody (λ k. known (assignment x k)) ≡ false
somebody-named x n u = somebody-there (λ k. known (assignment x k)) _ (first-named x (omega (arith, n)) u)

-- ---- a line about a set

pub line-left-out : (m : ℕ) (line : List ℕ) → m ≡ 0 → line_about (members m) line ≡ []
unfolding line_about said_if
line-left-out m line e = rw (nobody-in m e)

pub line-there : (m : ℕ) (line : List ℕ) → (m ≡ 0 → ⊥) → m < 2 ^ 16 → line_about (members m) line ≡ line
unfolding line_about said_if
line-there m line n u = rw (somebody-in m n u)
