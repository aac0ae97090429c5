-- The visits still ahead: each step of the code takes the first of them or leaves them as they are.
use Rattle.std.proofs.Common.{Some, ℕ, zero, suc, ◌+◌, ◌-◌, ◌≤◌, ◌<◌, false, ◌≡◌, refl, sym, ap, ◌∙◌, List, [], ◌∷◌, ◌++◌, append_assoc, arith, add-one, length, get_or, replicate, length-append}
use Rattle.model_base.specs.Finite.{at, lowest, gather}
use Rattle.model_base.proofs.Tests.{test, eq_test, no-some}
use Rattle.model_base.proofs.Lists.{All, All-append, gather-all}
use Rattle.model_base.proofs.Search.{lowest-range, lowest-before, at_same, at_other}
use Rattle.model_base.proofs.Gathers.{gather-same, gather_none}
use Rattle.model_agent.specs.Message.{known, nobody}
use Rattle.model_agent.specs.Shape.{max_named}
use Rattle.model_agent.proofs.Assignments.{unknown-zero}
use Rattle.abt_packed.specs.Packed.{assignment}
use Rattle.abt_packed.proofs.Known.{known-true}
use Rattle.abt_packed.proofs.Digits.{nobody-assigned}
use Rattle.model_network.specs.Run.{Line, is_line}
use Rattle.theorems_shape.proofs.Lines.{other_from, other-to}
use Rattle.theorems_shape.proofs.RunFaults.{replicate-all}
use Rattle.abt_record.specs.Abstract.{row_of}
use Rattle.abt_record_laws.proofs.Changes.{row_is}
use Rattle.abt_engine.specs.Lines.{line, cell, row, rows, ahead, NextVisit}
use Rattle.abt_engine.specs.declared.lines.Visit.{Visit}

gather-next : (m k l : ℕ) (f : ℕ → List Line) → m ≡ suc l → gather m k f ≡ f k ++ gather l (k + 1) f
unfolding gather
gather-next m k l f e = rw (e, add-one)

-- the lowest line that has a visit, and the others with one less there
first_cell : (i m k : ℕ) (f : ℕ → ℕ) (r : ℕ) → lowest m k (λ j. known (f j)) ≡ Some r
    → gather m k (cell f i) ≡ line i r ∷ gather m k (cell (at f r (f r - 1)) i)
unfolding lowest gather
first_cell i zero k f r e = no-some e
first_cell i (suc m) k f r e =
    test (known (f k))
    (λ t.
    let q : Some k ≡ Some r = rw (t, lowest) at e in
    let d : k ≡ r = cc in
    let one : f k ≡ suc (f k - 1) = omega (arith, known-true (f k) t) in
    rw (← d, at_same f k (f k - 1))
    (ap (λ (n : ℕ). replicate n (line i k) ++ gather m (suc k) (cell f i)) one
    ∙ ap (λ (ls : List Line). line i k ∷ (replicate (f k - 1) (line i k) ++ ls))
    (gather-same m (suc k) (cell f i) (cell (at f k (f k - 1)) i) (λ j l h. ap (λ (v : ℕ). replicate v (line i j)) (sym (at_other f k (f k - 1) j (λ z. absurd (omega arith))))))))
    (λ t.
    let q = rw (t, lowest) at e in
    let z = unknown-zero (f k) t in
    let b = lowest-range m (suc k) (λ j. known (f j)) r q in
    rw (at_other f r (f r - 1) k (λ s. absurd (omega arith)), z) (first_cell i m (suc k) f r q))

-- no line below it has one
pub visit-lowest : (rest r rest' : ℕ) → lowest max_named 1 (λ k. known (assignment rest k)) ≡ Some r
    → assignment rest' ≡ at (assignment rest) r (assignment rest r - 1) → (j : ℕ) → 1 ≤ j → j < r → assignment rest' j ≡ 0
visit-lowest rest r rest' e d j l h =
    rw (d, at_other (assignment rest) r (assignment rest r - 1) j (λ q. absurd (omega arith)))
    (unknown-zero (assignment rest j) (lowest-before max_named 1 (λ k. known (assignment rest k)) r j e l h))

-- the visits of the lowest line that has some, and the others with none there
passed-cell : (i m k : ℕ) (f : ℕ → ℕ) (r : ℕ) → k ≤ r → r < k + m → ((j : ℕ) → k ≤ j → j < r → f j ≡ 0)
    → gather m k (cell f i) ≡ replicate (f r) (line i r) ++ gather m k (cell (at f r 0) i)
unfolding gather
passed-cell i zero k f r l h z = absurd (omega arith)
passed-cell i (suc m) k f r l h z =
    eq_test k r
    (λ d.
    rw (← d, at_same f k 0)
    (ap (λ (ls : List Line). replicate (f k) (line i k) ++ ls)
    (gather-same m (suc k) (cell f i) (cell (at f k 0) i)
    (λ j l h. ap (λ (v : ℕ). replicate v (line i j)) (sym (at_other f k 0 j (λ z. absurd (omega arith))))))))
    (λ n.
    rw (at_other f r 0 k n, z k (omega arith) (omega (arith, n)))
    (passed-cell i m (suc k) f r (omega (arith, n)) (omega arith) (λ j a b. z j (omega arith) b)))

row-empty : (rest i : ℕ) → rest ≡ 0 → row (assignment rest) i ≡ []
unfolding nobody
row-empty rest i z = rw (z, nobody-assigned) (gather_none max_named 1 (cell nobody i) (λ j l h. refl))

module _ (quota : List ℕ) (n : ℕ) where
  -- the next visit
  pub ahead-next : (i rest r rest' : ℕ) → lowest max_named 1 (λ k. known (assignment rest k)) ≡ Some r
      → assignment rest' ≡ at (assignment rest) r (assignment rest r - 1) → ahead quota n i rest ≡ line i r ∷ ahead quota n i rest'
  ahead-next i rest r rest' e d =
      ap (λ (ls : List Line). ls ++ rows quota (n - i) (i + 1)) (first_cell i max_named 1 (assignment rest) r e)
      ∙ ap (λ (f : ℕ → ℕ). line i r ∷ (row f i ++ rows quota (n - i) (i + 1))) (sym d)

  -- the next sender
  pub ahead-down : (i rest : ℕ) → i < n → rest ≡ get_or quota i 0 → ahead quota n i 0 ≡ ahead quota n (i + 1) rest
  ahead-down i rest h e =
      let same : i + 1 - 1 ≡ i = omega arith in
      rw (row-empty 0 i refl, gather-next (n - i) (i + 1) (n - (i + 1)) (λ x. row (row_of quota x) x) (omega arith))
      (ap (λ (f : ℕ → ℕ). row f (i + 1) ++ rows quota (n - (i + 1)) (i + 1 + 1))
      (row_is quota (i + 1) (omega arith) ∙ ap (λ (x : ℕ). assignment (get_or quota x 0)) same ∙ ap assignment (sym e)))

  -- the rest of a line's visits, and those after them
  pub ahead-passed : (i rest r rest' : ℕ) → 1 ≤ r → r ≤ 16 → ((j : ℕ) → 1 ≤ j → j < r → assignment rest j ≡ 0)
      → assignment rest' ≡ at (assignment rest) r 0 → ahead quota n i rest ≡ replicate (assignment rest r) (line i r) ++ ahead quota n i rest'
  unfolding max_named
  ahead-passed i rest r rest' l h z d =
      ap (λ (ls : List Line). ls ++ rows quota (n - i) (i + 1)) (passed-cell i 16 1 (assignment rest) r l (omega arith) z)
      ∙ append_assoc (replicate (assignment rest r) (line i r)) (row (at (assignment rest) r 0) i) (rows quota (n - i) (i + 1))
      ∙ ap (λ (f : ℕ → ℕ). replicate (assignment rest r) (line i r) ++ (row f i ++ rows quota (n - i) (i + 1))) (sym d)

  -- .. are all of other lines
  pub ahead_apart : (i rest r : ℕ) → assignment rest r ≡ 0 → All (λ l. is_line l.from l.to (line i r) ≡ false) (ahead quota n i rest)
  ahead_apart i rest r z =
      All-append _ (row (assignment rest) i) _
      (gather-all _ _ max_named 1 (λ j _ _.
      replicate-all _ (assignment rest j) (line i j) (λ l. other-to i j (line i r) (λ e. absurd (omega (arith, rw (e, z) at l))))))
      (gather-all _ _ (n - i) (i + 1) (λ x l _. gather-all _ _ max_named 1 (λ j _ _.
      replicate-all _ (row_of quota x j) (line x j) (λ _. other_from x j (line i r) (λ e. omega arith)))))

  pub ahead_none : (i rest : ℕ) → rest ≡ 0 → n ≤ i → ahead quota n i rest ≡ []
  ahead_none i rest z h = rw (row-empty rest i z) (gather_none (n - i) (i + 1) (λ x. row (row_of quota x) x) (λ x l u. absurd (omega arith)))

  pub ahead-all : (rest : ℕ) → rest ≡ 0 → rows quota n 1 ≡ ahead quota n 0 rest
  ahead-all rest z = let d : n - 0 ≡ n = omega arith in rw (row-empty rest 0 z, d)

  pub passed-fewer : (i rest r rest' : ℕ) → 1 ≤ r → r ≤ 16 → ((j : ℕ) → 1 ≤ j → j < r → assignment rest j ≡ 0)
      → assignment rest' ≡ at (assignment rest) r 0 → length (ahead quota n i rest') ≤ length (ahead quota n i rest)
  passed-fewer i rest r rest' l h z d =
      let e = ap length (ahead-passed i rest r rest' l h z d) in
      let b = length-append (replicate (assignment rest r) (line i r)) (ahead quota n i rest') in
      omega arith

-- the first of these is the first of those
pub found-later : {quota : List ℕ} {n i rest i' rest' : ℕ} {v : Visit} → ahead quota n i rest ≡ ahead quota n i' rest' → NextVisit quota n i' rest' v
    → NextVisit quota n i rest v
found-later e f = record { high = f.high; some = e ∙ f.some; least = f.least }

-- ---- fewer are left

pub visit-less : (quota : List ℕ) (n : ℕ) {i rest : ℕ} {v : Visit} → NextVisit quota n i rest v
    → length (ahead quota n v.from v.rest) < length (ahead quota n i rest)
visit-less quota n h = let a = ap length h.some in omega arith

pub none-less : (quota : List ℕ) (n : ℕ) {i rest : ℕ} {v : Visit} → NextVisit quota n i rest v
    → length (ahead quota n n 0) < length (ahead quota n i rest)
none-less quota n h =
    let a = ap length h.some in
    let z = ap length (ahead_none quota n n 0 refl (omega arith)) in
    omega arith

pub passed-less : (quota : List ℕ) (n : ℕ) {i rest : ℕ} {v : Visit} → NextVisit quota n i rest v → 1 ≤ v.to → v.to ≤ 16
    → (rest' : ℕ) → assignment rest' ≡ at (assignment v.rest) v.to 0
    → length (ahead quota n v.from rest') < length (ahead quota n i rest)
passed-less quota n {v = v} h l u rest' d =
    let a = visit-less quota n h in
    let b = passed-fewer quota n v.from v.rest v.to rest' l u h.least d in
    omega arith
