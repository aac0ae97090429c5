-- A sheet is written part by part: header, records one behind the other, the whole.
-- Each part is put where the one before it ends; the index in a record leads on, or is 0 in the last.
use Rattle.std.proofs.Common.{ℕ, suc, ◌+◌, ◌*◌, ◌/◌, ◌%◌, ◌≤◌, ◌<◌, ◌≡◌, refl, sym, ap, ◌∙◌, Bool, true, false, cond, List, [], ◌∷◌, ◌++◌, arith, length, get_or, take, drop, length-append, length-drop, drop-cons, ltb, lt-ltb, le-ltb, le-leb}
use lib.Seq.{drop-length}
use mir.Val.{bool_byte}
use borrow.Author.Tests.{lt-leb}
use Rattle.model_base.proofs.Tests.{test}
use Rattle.model_base.specs.Lent.{short_buffer, untouched, put}
use Rattle.model_sheet.specs.Problem.{Problem, max_agents}
use Rattle.model_sheet.specs.Row.{Row}
use Rattle.model_sheet.specs.Sheet.{header_length, record_length}
use Rattle.model_sheet.specs.Writing.{two_bytes, header_bytes, row_bytes, index_after, chained, written}
use Rattle.model_sheet.proofs.Writing.{chained-length, writes-length}
use Rattle.support_buffer.specs.Abstract.{over}
use Rattle.support_buffer.proofs.Over.{over_nothing, over-over}
use Rattle.sheet_writer.specs.Rows.{next_index}

-- ---- the header

pub one_or_none : (b : Bool) → bool_byte b ≡ cond b 1 0
one_or_none true = refl
one_or_none false = refl

first-bytes : (b : Bool) → two_bytes (cond b 1 0) ≡ cond b 1 0 ∷ 0 ∷ []
unfolding two_bytes
first-bytes true = refl
first-bytes false = refl

two_bytes_lem : (m : ℕ) → two_bytes m ≡ m % 256 ∷ m / 256 ∷ []
unfolding two_bytes
two_bytes_lem m = refl

abbrev pub front : ℕ → ℕ → Bool → ℕ → List ℕ
front edition n b m = n ∷ edition ∷ cond b 1 0 ∷ 0 ∷ m % 256 ∷ m / 256 ∷ 0 ∷ 0 ∷ []

module _ (edition n : ℕ) (b : Bool) (m : ℕ) (domains : List ℕ) (long : length domains ≡ 12) where
  header-parts : front edition n b m ++ domains ++ (0 ∷ 0 ∷ 0 ∷ 0 ∷ []) ≡ header_bytes edition n (cond b 1 0) m domains
  unfolding header_bytes
  header-parts = rw (first-bytes b, two_bytes_lem m)

  header-long : length (header_bytes edition n (cond b 1 0) m domains) ≡ 24
  header-long =
      ap length (sym header-parts)
      ∙ length-append (front edition n b m ++ domains) (0 ∷ 0 ∷ 0 ∷ 0 ∷ [])
      ∙ omega (arith, length-append (front edition n b m) domains)

  -- its three parts, one behind the other
  pub header-put : (old one two new : List ℕ) → 24 ≤ length old → one ≡ over 0 (front edition n b m) old → two ≡ over 8 domains one
      → new ≡ over 20 (0 ∷ 0 ∷ 0 ∷ 0 ∷ []) two → new ≡ header_bytes edition n (cond b 1 0) m domains ++ drop 24 old
  header-put old one two new h e f g =
      let first : two ≡ over 0 (front edition n b m ++ domains) old = f ∙ rw e (over-over 0 8 (front edition n b m) domains old (omega arith) refl) in
      let far : 20 ≡ 0 + length (front edition n b m ++ domains) = omega (arith, length-append (front edition n b m) domains) in
      let all : new ≡ over 0 (front edition n b m ++ domains ++ (0 ∷ 0 ∷ 0 ∷ 0 ∷ [])) old =
      g ∙ rw first (over-over 0 20 (front edition n b m ++ domains) (0 ∷ 0 ∷ 0 ∷ 0 ∷ []) old (omega arith) far) in
      let named : new ≡ over 0 (header_bytes edition n (cond b 1 0) m domains) old = all ∙ ap (λ (l : List ℕ). over 0 l old) header-parts in
      let end : 0 + length (header_bytes edition n (cond b 1 0) m domains) ≡ 24 = omega (arith, header-long) in
      named ∙ ap (λ (k : ℕ). header_bytes edition n (cond b 1 0) m domains ++ drop k old) end

-- ---- a record

pub next-on : (r records : ℕ) → suc r < records → next_index r records ≡ r + 2
unfolding next_index
next-on r records h = rw (lt-ltb (suc r) records h)

pub next-none : (r records : ℕ) → records ≤ suc r → next_index r records ≡ 0
unfolding next_index
next-none r records h = rw (le-ltb (suc r) records h)

pub next_small : (r records : ℕ) → r < 4224 → next_index r records < 65536
unfolding next_index
next_small r records h = test (ltb (suc r) records) (λ e. rw e (omega arith)) (λ e. rw e (omega arith))

next-index : (r records : ℕ) (rows : List Row) → suc r + length rows ≡ records → index_after (suc r) rows ≡ next_index r records
unfolding index_after
next-index r records [] e = sym (next-none r records (omega arith))
next-index r records (row ∷ rows) e = rw (next-on r records (omega arith)) (omega arith)

-- its row, and the index that leads on
pub row-bytes : (row : Row) (next : ℕ) → row.lower ∷ row.higher ∷ row.low ∷ row.high ∷ next % 256 ∷ next / 256 ∷ 0 ∷ 0 ∷ [] ≡ row_bytes row next
unfolding row_bytes two_bytes
row-bytes row next = refl

-- ---- the records

module _ (rows : List Row) where
  -- what is left to put leaves what putting all would have left
  pub record Left (old out : List ℕ) (r : ℕ) : Type 0 where
    pub long : length out ≡ length old
    pub same : over (24 + 8 * r) (chained r (drop r rows)) out ≡ over 24 (chained 0 rows) old

  pub all_left : (old : List ℕ) → Left old old 0
  all_left old = record { long = refl; same = refl }

  pub less-left : (old out new : List ℕ) (r : ℕ) (d row : Row) → r < length rows → get_or rows r d ≡ row → 24 + 8 * length rows ≤ length old → Left old out r
      → new ≡ take (24 + 8 * r) out ++ row_bytes row (next_index r (length rows)) ++ drop (24 + 8 * suc r) out
      → length new ≡ length out → Left old new (suc r)
  unfolding chained row_bytes two_bytes
  less-left old out new r d row h here fits g e long =
      let bytes = row_bytes row (next_index r (length rows)) in
      let rest = drop (suc r) rows in
      let on : 24 + 8 * suc r ≡ 24 + 8 * r + 8 = omega arith in
      let put-here : new ≡ over (24 + 8 * r) bytes out = e ∙ rw on in
      let leads = next-index r (length rows) rest (omega (arith, length-drop (suc r) rows)) in
      let first : drop r rows ≡ row ∷ rest = drop-cons rows r d h ∙ rw here in
      let parts : chained r (drop r rows) ≡ bytes ++ chained (suc r) rest = rw first (rw leads) in
      let moved : over (24 + 8 * suc r) (chained (suc r) rest) new ≡ over (24 + 8 * r) (bytes ++ chained (suc r) rest) out =
      rw put-here (over-over (24 + 8 * r) (24 + 8 * suc r) bytes (chained (suc r) rest) out (omega (arith, g.long)) on) in
      record { long = long ∙ g.long; same = moved ∙ ap (λ (l : List ℕ). over (24 + 8 * r) l out) (sym parts) ∙ g.same }

  pub none_left : (old out : List ℕ) (r : ℕ) → r ≡ length rows → Left old out r
      → out ≡ take 24 old ++ chained 0 rows ++ drop (24 + 8 * length rows) old
  unfolding chained
  none_left old out r e g =
      let long : length (chained 0 rows) ≡ 8 * length rows = chained-length 0 rows in
      sym (over_nothing (24 + 8 * length rows) out) ∙ rw (e, drop-length rows) at g.same ∙ rw long

-- ---- the whole

first-index : (rows : List Row) → index_after 0 rows ≡ cond (ltb 0 (length rows)) 1 0
unfolding index_after
first-index [] = refl
first-index (row ∷ rows) = rw (lt-ltb 0 (suc (length rows)) (omega arith))

module _ (edition : ℕ) (p : Problem) (rows : List Row) (records : ℕ) (room : length rows ≡ records) (long : length p.domains ≡ 12) (out : List ℕ) where
  sheet-long : length (written edition p rows) ≡ 24 + 8 * records
  unfolding header_length record_length max_agents
  sheet-long = writes-length edition p rows long ∙ rw room

  pub sheet-short : length out < 24 + 8 * records → put (written edition p rows) out ≡ untouched short_buffer out
  unfolding put
  sheet-short h = rw (lt-leb (length (written edition p rows)) (length out) (omega (arith, sheet-long)), put)

  pub sheet-put : (mid new : List ℕ) → 24 + 8 * records ≤ length out
      → mid ≡ header_bytes edition p.count (cond (ltb 0 records) 1 0) records p.domains ++ drop 24 out
      → new ≡ take 24 mid ++ chained 0 rows ++ drop (24 + 8 * records) mid
      → put (written edition p rows) out ≡ record { number = 0; length = 24 + 8 * records; buffer = new }
  unfolding put written
  sheet-put mid new h e f =
      let header = header_bytes edition p.count (cond (ltb 0 records) 1 0) records p.domains in
      let s = chained 0 rows in
      let head-long : length header ≡ 24 = header-long edition p.count (ltb 0 records) records p.domains long in
      let s-long : length s ≡ 8 * records = chained-length 0 rows ∙ rw room in
      let sheet : written edition p rows ≡ header ++ s = rw (first-index rows, room) in
      let first : mid ≡ over 0 header out = e ∙ rw head-long in
      let second : new ≡ over 24 s mid = f ∙ rw s-long in
      let both : new ≡ over 0 (header ++ s) out = second ∙ rw first (over-over 0 24 header s out (omega arith) (omega (arith, head-long))) in
      let none : 0 + length (header ++ s) ≡ length (header ++ s) = omega arith in
      let whole : new ≡ (header ++ s) ++ drop (length (header ++ s)) out = both ∙ ap (λ (k : ℕ). (header ++ s) ++ drop k out) none in
      rw (le-leb (length (written edition p rows)) (length out) (omega (arith, sheet-long)), put)
      (rw (sheet, ← whole, length-append header s, head-long, s-long))
