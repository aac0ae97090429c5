-- Going round a list of lines: what stands behind a line and what stands up to it, end to end, goes round the list once, and ends in that line.
-- The round from a line of such a round on has what stood behind that line first, and then what stood before it.
use Rattle.std.proofs.Common.{◌≡◌, refl, sym, ap, subst, ◌∙◌, Bool, true, false, List, [], ◌∷◌, ◌++◌, append_assoc, ◌≤◌, add_comm, arith, length, length-append, eq-eqb, eqb-true, eqb}
use Rattle.model_base.specs.Lists.{All}
use Rattle.model_base.proofs.Tests.{test, both}
use Rattle.model_base.proofs.Counting.{count_if, count-append}
use Rattle.model_base.proofs.Splits.{Split, in_first, in_second, split, count_none}
use Rattle.model_network.specs.Run.{Line, is_line}
use Rattle.model_dispatch.specs.Dispatch.{behind, up_to}

-- ---- lines, compared

pub this-itself : (l : Line) → is_line l.from l.to l ≡ true
unfolding is_line
this-itself l = rw (eq-eqb l.from l.from refl, eq-eqb l.to l.to refl)

pub this-same : (l m : Line) → is_line l.from l.to m ≡ true → l ≡ m
unfolding is_line
this-same l m h =
    let e = both (eqb l.from m.from) (eqb l.to m.to) h in
    let a = eqb-true l.from m.from e.0 in
    let b = eqb-true l.to m.to e.1 in
    λ i. record { from = a i; to = b i }

-- no line stands there twice
abbrev pub Once : List Line → Type 0
Once ls = (l : Line) → count_if (is_line l.from l.to) ls ≤ 1

-- ---- behind a line, and up to it

pub both-parts : (p : Line) (ls : List Line) → up_to p ls ++ behind p ls ≡ ls
unfolding behind up_to
both-parts p [] = refl
both-parts p (l ∷ ls) =
    test (is_line p.from p.to l)
    (λ e. rw (e, behind, up_to))
    (λ e. rw (e, behind, up_to) (ap (λ (r : List Line). l ∷ r) (both-parts p ls)))

pub behind-at : (l : Line) (before after : List Line) → All (λ m. is_line l.from l.to m ≡ false) before
    → behind l (before ++ (l ∷ after)) ≡ after
unfolding behind
behind-at l [] after h = rw (this-itself l, behind)
behind-at l (m ∷ before) after h = rw (h.0, behind) (behind-at l before after h.1)

up_to-at : (l : Line) (before after : List Line) → All (λ m. is_line l.from l.to m ≡ false) before
    → up_to l (before ++ (l ∷ after)) ≡ before ++ (l ∷ [])
unfolding up_to
up_to-at l [] after h = rw (this-itself l, up_to)
up_to-at l (m ∷ before) after h = rw (h.0, up_to) (ap (λ (r : List Line). m ∷ r) (up_to-at l before after h.1))

-- the line does not stand before itself
pub new : (l : Line) (before after : List Line) → Once (before ++ (l ∷ after)) → All (λ m. is_line l.from l.to m ≡ false) before
unfolding count_if
new l before after h =
    count_none (is_line l.from l.to) before
    (omega (arith, h l, count-append (is_line l.from l.to) before (l ∷ after), counted))
  where
    counted : 1 ≤ count_if (is_line l.from l.to) (l ∷ after)
    counted = rw (this-itself l) (omega arith)

rest : (ls before : List Line) (l : Line) (after : List Line) → Once ls → ls ≡ before ++ (l ∷ after)
    → behind l ls ++ up_to l ls ≡ after ++ (before ++ (l ∷ []))
rest ls before l after h e =
    let u = new l before after (subst Once e h) in rw (e, behind-at l before after u, up_to-at l before after u)

-- ---- rounds

-- the second list goes round the first once, from somewhere on
pub record Round (ls turn : List Line) : Type 0 where
  pub late : List Line
  pub early : List Line
  pub whole : ls ≡ early ++ late
  pub turned : turn ≡ late ++ early

pub round-length : {ls turn : List Line} → Round ls turn → length turn ≡ length ls
round-length {ls} {turn} r =
    rw (r.whole, r.turned, length-append r.early r.late, length-append r.late r.early)
    (add_comm (length r.late) (length r.early))

pub round-count : (p : Line → Bool) {ls turn : List Line} → Round ls turn → count_if p turn ≡ count_if p ls
round-count p {ls} {turn} r =
    rw (r.whole, r.turned, count-append p r.early r.late, count-append p r.late r.early)
    (add_comm (count_if p r.late) (count_if p r.early))

-- the round behind a line of a round
pub next-round : (ls turn before : List Line) (l : Line) (after : List Line) → Once ls → Round ls turn → turn ≡ before ++ (l ∷ after)
    → behind l ls ++ up_to l ls ≡ after ++ (before ++ (l ∷ []))
next-round ls turn before l after h r e =
    go r.late r.early r.whole (split r.late r.early before l after (sym r.turned ∙ e))
  where
    go : (late early : List Line) → ls ≡ early ++ late → Split late early before l after → behind l ls ++ up_to l ls ≡ after ++ (before ++ (l ∷ []))
    go late early w (in_first zs a b) =
        rest ls (early ++ before) l zs h (w ∙ rw (a, append_assoc early before (l ∷ zs)))
        ∙ rw (b, append_assoc early before (l ∷ []), append_assoc zs early (before ++ (l ∷ [])))
    go late early w (in_second zs a b) =
        rest ls zs l (after ++ late) h (w ∙ rw (b, append_assoc zs (l ∷ after) late))
        ∙ rw (a, append_assoc late zs (l ∷ []), append_assoc after late (zs ++ (l ∷ [])))
