-- The problem reads back from the image: its domains and its bans, word by word.
-- The words stand in another order than the table's; where each stands is a sum of those before it.
use Rattle.std.proofs.Common.{ℕ, zero, suc, pred, ◌+◌, ◌-◌, ◌*◌, ◌≤◌, ◌<◌, ◌≡◌, refl, ap, ◌∙◌, List, [], ◌∷◌, arith, length, get_or, length-append}
use Rattle.model_base.specs.Finite.{gather, sum}
use Rattle.model_base.proofs.Lists.{gather-last}
use Rattle.model_base.proofs.Gathers.{gather-same, gather-list}
use Rattle.model_sheet.specs.Problem.{Problem, max_agents, max_pairs, domain, pairs_before, word_at}
use Rattle.model_sheet.proofs.Range.{Ranged}
use Rattle.model_network.specs.Network.{Network}
use Rattle.model_image.specs.Bytes.{bytes_of, number_in, stretch}
use Rattle.model_image.specs.Image.{slots, header_bytes, ban_bytes, image}
use Rattle.model_image.specs.Reading.{header_length, ban_place, ban_in, bans_in, problem_in}
use Rattle.model_image.proofs.Bytes.{bytes-length, number-back}
use Rattle.model_image.proofs.Stretches.{stands-part, stands_one, stands-stretch, same-lengths}
use Rattle.model_image.proofs.Sections.{sections}

-- ---- the domains

domains-back : (p : Problem) → length p.domains ≡ max_agents → slots (domain p) ≡ p.domains
unfolding slots domain max_agents gather
domains-back p e = gather-list 12 p.domains 0 e

-- ---- the words of the ban table

-- the words of lower agent i
row : Problem → ℕ → List ℕ
row p i = gather (max_agents - i) (suc i) (λ j. bytes_of 8 (get_or p.bans (word_at i j) 0))

row-length : (p : Problem) (i : ℕ) → length (row p i) ≡ 8 * (max_agents - i)
unfolding row
row-length p i = same-lengths (max_agents - i) (suc i) 8 _ (λ j _ _. bytes-length 8 _)

-- of the lower agents 1 to m
rows-length : (p : Problem) (m : ℕ) → length (gather m 1 (row p)) ≡ 8 * sum m (λ k. max_agents - k)
unfolding gather sum
rows-length p zero = refl
rows-length p (suc m) =
    let e : 1 + m ≡ suc m = omega arith in
    rw (gather-last m 1 (row p), length-append (gather m 1 (row p)) (row p (1 + m)), e) (omega (arith, rows-length p m, row-length p (suc m)))

module _ (w : Network) (r : Ranged w.problem) where
  word_back : (i j : ℕ) → 1 ≤ i → i < j → j ≤ max_agents → ban_in (image w) i j ≡ get_or w.problem.bans (word_at i j) 0
  unfolding ban_in ban_place row ban_bytes
  word_back i j l h u =
      let before = sum (pred i) (λ k. max_agents - k) in
      let q : i - 1 ≡ pred i = omega arith in
      let long : length (gather (i - 1) 1 (row w.problem)) ≡ 8 * before = rw q (rows-length w.problem (pred i)) in
      let there = stands-part max_agents 1 i (row w.problem) (header_length + 8 * before) l (omega arith)
      (ap (λ (x : ℕ). header_length + x) long) (sections w).bans in
      let word = stands_one (max_agents - i) (suc i) j 8 _ (header_length + 8 * ban_place i j) (λ j _ _. bytes-length 8 _)
      h (omega arith) (omega arith) there in
      ap number_in (stands-stretch 8 (bytes-length 8 _) word) ∙ number-back 8 _ (r.words i j l h u).short

  bans-back : bans_in (image w) ≡ w.problem.bans
  unfolding bans_in max_agents max_pairs gather word_at pairs_before
  bans-back =
      gather-same 12 1 _ _ (λ j a b. gather-same (pred j) 1 _ _ (λ i c d. ap (λ (x : ℕ). x ∷ []) (word_back i j c (omega arith) (omega arith))))
      ∙ gather-list 66 w.problem.bans 0 r.bans_long

  pub problem-back : problem_in (image w) ≡ w.problem
  unfolding problem_in stretch image header_bytes slots gather max_agents
  problem-back =
      λ i. record { count = w.problem.count; domains = domains-back w.problem r.domains_long i; bans = bans-back i }
