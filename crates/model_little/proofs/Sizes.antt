-- The slot counts of the little sheets: each list of one to three numbers, each 1 or 2, is one of them, and no other; none stands twice.
-- By n, and digit by digit; and a problem with such slot counts is in range.
use Rattle.std.proofs.Common.{ℕ, zero, suc, ◌+◌, ◌-◌, ◌≤◌, ◌<◌, ◌≡◌, refl, ap, ◌∙◌, inl, inr, List, [], ◌∷◌, arith, length, get_or, replicate, length-append, get_or-append-add}
use mathlib.Core.List.{tail-eq_of_cons-eq}
use lib.ListN.{length-replicate, get_or-append}
use Rattle.model_base.proofs.Lists.{All, Any, All-map, gather-all}
use Rattle.model_base.proofs.Arrays.{get_or-same}
use Rattle.model_sheet.specs.Problem.{max_agents, max_domain, domain}
use Rattle.model_sheet.proofs.Range.{Ranged, no_words, none-long}
use Rattle.model_little.specs.Little.{most_agents, most_values, counts_of, sizes, bare}
use Rattle.model_little.proofs.Unlike.{Unlike, gather-unlike, any-gather, all_of_map, any-of-map, map-unlike}

-- ---- lists

all_of : {A : Type 0} (P : A → Type 0) → ((x : A) → P x) → (l : List A) → All P l
all_of P h [] = tt
all_of P h (x ∷ xs) = (h x, all_of P h xs)

pub all-at : {A : Type 0} (P : A → Type 0) (l : List A) (d : A) → All P l → (k : ℕ) → k < length l → P (get_or l k d)
all-at P [] d h k u = absurd (omega arith)
all-at P (x ∷ xs) d h zero u = h.0
all-at P (x ∷ xs) d h (suc k) u = all-at P xs d h.1 k (omega arith)

any-map : {A : Type 0} (P Q : A → Type 0) → ((x : A) → P x → Q x) → (l : List A) → Any P l → Any Q l
any-map P Q f [] h = absurd h
any-map P Q f (x ∷ xs) (inl h) = inl (f x h)
any-map P Q f (x ∷ xs) (inr h) = inr (any-map P Q f xs h)

-- ---- so many slot counts

-- "one or two slots"
abbrev pub Small : ℕ → Type 0
Small d = (1 ≤ d) × (d ≤ most_values)

record Fits (n : ℕ) (ds : List ℕ) : Type 0 where
  long : length ds ≡ n
  small : All Small ds

counts-fit : (n : ℕ) → All (Fits n) (counts_of n)
unfolding counts_of
counts-fit zero = (record { long = refl; small = tt }, tt)
counts-fit (suc n) =
    gather-all (Fits (suc n)) _ most_values 1
    (λ d l u. all_of_map (λ (ds : List ℕ). d ∷ ds) (Fits (suc n)) (counts_of n)
    (All-map (Fits n) _ (λ ds f. record { long = ap suc f.long; small = ((l, omega arith), f.small) }) (counts_of n) (counts-fit n)))

counts-listed : (ds : List ℕ) → All Small ds → Any (λ e. e ≡ ds) (counts_of (length ds))
unfolding counts_of
counts-listed [] h = inl refl
counts-listed (d ∷ ds) h =
    any-gather _ _ d most_values 1 h.0.0 (omega (arith, h.0.1))
    (any-of-map (λ (e : List ℕ). d ∷ e) _ (counts_of (length ds))
    (any-map (λ e. e ≡ ds) _ (λ e q. ap (λ (l : List ℕ). d ∷ l) q) (counts_of (length ds)) (counts-listed ds h.1)))

counts-unlike : (n : ℕ) → Unlike (counts_of n)
unfolding counts_of
counts-unlike zero = (tt, tt)
counts-unlike (suc n) =
    gather-unlike (λ (ds : List ℕ). get_or ds 0 0) _
    (λ d. all_of_map (λ (ds : List ℕ). d ∷ ds) _ (counts_of n) (all_of _ (λ ds. refl) (counts_of n)))
    (λ d. map-unlike (λ (ds : List ℕ). d ∷ ds) (λ a b e. tail-eq_of_cons-eq e) (counts_of n) (counts-unlike n))
    most_values 1

-- ---- all of them

pub record Sized (ds : List ℕ) : Type 0 where
  pub low : 1 ≤ length ds
  pub high : length ds ≤ most_agents
  pub small : All Small ds

pub sizes-fit : All Sized sizes
unfolding sizes
sizes-fit =
    gather-all Sized counts_of most_agents 1
    (λ n l u. All-map (Fits n) Sized (λ ds f. let q = f.long in record { low = omega arith; high = omega arith; small = f.small }) (counts_of n) (counts-fit n))

pub sizes-listed : (ds : List ℕ) → Sized ds → Any (λ e. e ≡ ds) sizes
unfolding sizes
sizes-listed ds s = any-gather _ counts_of (length ds) most_agents 1 s.low (omega (arith, s.high)) (counts-listed ds s.small)

pub sizes-unlike : Unlike sizes
unfolding sizes
sizes-unlike =
    gather-unlike length counts_of (λ n. All-map (Fits n) _ (λ ds f. f.long) (counts_of n) (counts-fit n)) counts-unlike most_agents 1

-- ---- a problem with them

module _ (ds : List ℕ) (s : Sized ds) where
  pub bare-domain : (i : ℕ) → 1 ≤ i → i ≤ length ds → Small (domain (bare ds) i)
  unfolding domain bare
  bare-domain zero l u = absurd (omega arith)
  bare-domain (suc k) l u = rw (get_or-append ds (replicate (max_agents - length ds) 0) 0 k u) (all-at Small ds 0 s.small k u)

  pub bare-beyond : (i : ℕ) → length ds < i → domain (bare ds) i ≡ 0
  unfolding domain bare
  bare-beyond zero l = absurd (omega arith)
  bare-beyond (suc k) l =
      let e : k ≡ length ds + (k - length ds) = omega arith in
      rw e (get_or-append-add ds _ (k - length ds) 0 ∙ get_or-same (max_agents - length ds) 0 (k - length ds))

  pub bare-long : length (bare ds).domains ≡ max_agents
  unfolding bare max_agents most_agents
  bare-long = rw (length-append, length-replicate) (omega (arith, s.high))

  pub bare-in-range : Ranged (bare ds)
  unfolding bare max_agents max_domain most_agents most_values
  bare-in-range =
      record {
        domains_long = bare-long;
        bans_long = none-long;
        low = s.low;
        high = omega (arith, s.high);
        domained = λ i l u. let b = bare-domain i l u in (b.0, omega (arith, b.1));
        beyond = λ i l u. bare-beyond i l;
        words = no_words (domain (bare ds));
      }
