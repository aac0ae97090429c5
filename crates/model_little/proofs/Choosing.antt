-- A little problem has a choice that is listed, and is the problem of that choice.
-- Its slot counts with zeros behind them are its domains; its bans are among the pairs that could be banned.
use Rattle.std.proofs.Common.{ℕ, suc, ◌≤◌, ◌<◌, ◌≡◌, sym, ◌∙◌, true, ◌&&◌, List, [], ◌∷◌, arith, length, get_or, take, length-take-le, get_or-take, ext_get_or, leb, ltb, leb-true, ltb-true, ltb-false}
use lib.ListN.{get_or-append}
use Rattle.model_base.proofs.Tests.{test, both}
use Rattle.model_base.proofs.Search.{all_to-at}
use Rattle.model_base.proofs.Lists.{All}
use Rattle.model_sheet.specs.Problem.{Problem, max_agents, domain, in_range}
use Rattle.model_sheet.specs.Row.{Row}
use Rattle.model_sheet.proofs.Range.{Ranged, ranged}
use Rattle.model_sheet.proofs.Same.{problem-same}
use Rattle.model_little.specs.Little.{most_agents, most_values, sizes, bare, places, sets_of, bans_row, choice_of}
use Rattle.model_little.specs.Claims.{is_little}
use Rattle.model_little.proofs.Subsets.{to-among, number-below, chosen-number}
use Rattle.model_little.proofs.Sizes.{Small, Sized, sizes-listed, bare-beyond, bare-long}
use Rattle.model_little.proofs.Places.{places-listed}
use Rattle.model_little.proofs.Choices.{Listed}
use Rattle.model_little.proofs.Rows.{banned-good, same-places}
use Rattle.model_little.proofs.Problems.{rows_of, problem_of, problem-ranged, problem-bans, kept}

-- by its elements
to-all : (P : ℕ → Type 0) (l : List ℕ) → ((k : ℕ) → k < length l → P (get_or l k 0)) → All P l
to-all P [] h = tt
to-all P (x ∷ xs) h = (h 0 (omega arith), to-all P xs (λ k u. h (suc k) (omega arith)))

record Little (p : Problem) : Type 0 where
  range : Ranged p
  few : p.count ≤ most_agents
  small : (i : ℕ) → 1 ≤ i → i ≤ p.count → domain p i ≤ most_values

little : (p : Problem) → is_little p ≡ true → Little p
unfolding is_little
little p e =
    let d = both (in_range p && leb p.count most_agents) _ e in
    let n = both (in_range p) _ d.0 in
    record {
      range = ranged p n.0;
      few = leb-true _ _ n.1;
      small = λ i l u. leb-true _ _ (all_to-at _ _ d.1 i l u);
    }

module _ (p : Problem) (little-p : Little p) where
  r : Ranged p
  r = little-p.range

  counts-long : length (take p.count p.domains) ≡ p.count
  counts-long = length-take-le p.count p.domains (omega (arith, r.domains_long, r.high))

  sized : Sized (choice_of p).counts
  unfolding choice_of domain
  sized =
      record {
        low = rw counts-long r.low;
        high = rw counts-long little-p.few;
        small =
            to-all Small (take p.count p.domains)
            (λ k u.
            let below : k < p.count = rw counts-long at u in
            rw (get_or-take p.count p.domains k 0 below)
            ((r.domained (suc k) (omega arith) below).0, little-p.small (suc k) (omega arith) below));
      }

  count-back : (bare (choice_of p).counts).count ≡ p.count
  unfolding bare choice_of
  count-back = counts-long

  inside : (k : ℕ) → k < p.count → get_or (bare (choice_of p).counts).domains k 0 ≡ get_or p.domains k 0
  unfolding bare choice_of
  inside k h = get_or-append (take p.count p.domains) _ 0 k (rw counts-long h) ∙ get_or-take p.count p.domains k 0 h

  outside : (k : ℕ) → p.count ≤ k → k < max_agents → get_or (bare (choice_of p).counts).domains k 0 ≡ get_or p.domains k 0
  unfolding domain choice_of
  outside k h u = bare-beyond (choice_of p).counts sized (suc k) (rw counts-long (omega arith)) ∙ sym (r.beyond (suc k) (omega arith) u)

  domains-back : (bare (choice_of p).counts).domains ≡ p.domains
  domains-back =
      let long = bare-long (choice_of p).counts sized in
      ext_get_or 0 _ _ (long ∙ sym r.domains_long)
      (λ k u. test (ltb k p.count) (λ e. inside k (ltb-true k p.count e)) (λ e. outside k (ltb-false k p.count e) (rw long at u)))

  all-places : places (bare (choice_of p).counts) ≡ places p
  all-places = same-places p (bare (choice_of p).counts) count-back domains-back

  listed : Listed sizes (choice_of p)
  unfolding sets_of choice_of
  listed =
      record {
        counts = sizes-listed (choice_of p).counts sized;
        bans = rw all-places (number-below (bans_row p) (places p));
      }

  bans-back : (row : Row) → bans_row (problem_of (choice_of p)) row ≡ bans_row p row
  unfolding choice_of rows_of
  bans-back row =
      problem-bans (choice_of p) listed row
      ∙ rw all-places
      (chosen-number (bans_row p) row (places p)
      ∙ test (bans_row p row)
      (λ e. rw (e, to-among row (places p) (places-listed p row (banned-good p r row e))))
      (λ e. rw e))

  problem-again : problem_of (choice_of p) ≡ p
  unfolding bans_row
  problem-again =
      let k = kept (choice_of p) listed in
      problem-same (problem_of (choice_of p)) p (problem-ranged (choice_of p) listed) r
      (λ i j v w. bans-back (record { lower = i; higher = j; low = v; high = w }))
      (k.0 ∙ count-back) (k.1 ∙ domains-back)

-- its choice is listed, and it is the problem of that choice
pub record Chosen (p : Problem) : Type 0 where
  pub listed : Listed sizes (choice_of p)
  pub problem : problem_of (choice_of p) ≡ p

pub little-chosen : (p : Problem) → is_little p ≡ true → Chosen p
little-chosen p e = let l = little p e in record { listed = listed p l; problem = problem-again p l }
