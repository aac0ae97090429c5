-- Whom to blame for an own value, read off the bytes and the words of the nogoods.
-- The words stored are laid over each other; of the agents that this names, the lowest whose byte bars the value; else the lowest whose byte does.
use Rattle.std.proofs.Common.{ℕ, suc, pred, ◌+◌, ◌/◌, ◌%◌, ◌^◌, ◌≤◌, ◌≡◌, refl, sym, ap, ◌∙◌, subst, ◌≢◌, Bool, true, false, ◌&&◌, Option, Some, None, IsSome, unwrap_or, List, arith, bit_or, get_or, eq-eqb, ne_eqb}
use mathlib.Core.Path.{fun_ext}
use mathlib.Core.Bool.{and-false, or-false, false≢true}
use Rattle.model_base.specs.Bits.{bit}
use Rattle.model_base.specs.Finite.{at, from_one, lowest, is_some}
use Rattle.model_base.proofs.Tests.{eq_test, opt, both}
use Rattle.model_base.proofs.Search.{at_other, lowest-some, lowest-range, lowest-before}
use Rattle.model_base.proofs.Searches.{lowest-is, lowest-empty, is_some-last, is_some-passes}
use Rattle.model_sheet.specs.Problem.{max_domain}
use Rattle.model_agent.specs.Message.{known, nobody}
use Rattle.model_agent.specs.Agent.{Nogoods}
use Rattle.model_agent.specs.Choosing.{lhs_of, named, blame}
use Rattle.model_agent.specs.Shape.{max_named}
use Rattle.abt_packed.specs.Packed.{assignment}
use Rattle.abt_packed.proofs.Digits.{nobody-assigned, or-named}
use Rattle.abt_choosing.specs.Conflicts.{self_of, ConfigFits, byte_of}
use Rattle.abt_choosing.specs.Choosing.{nogoods_of, Blames}
use Rattle.abt_choosing.specs.declared.Conflicts.{Conflicts}
use Rattle.abt_choosing.specs.declared.AgentConfig.{AgentConfig}
use Rattle.abt_choosing.proofs.Barrings.{lowest-barring, first-barring}
use Rattle.abt_choosing.proofs.Records.{nogood-stored, nogood-none}

-- ---- whom the words stored name

-- those of the values above i, up to d, laid over each other
abbrev pub Overlaid : ℕ → List ℕ → ℕ → ℕ → Type 0
Overlaid nogood_mask words i all =
    (k : ℕ) → known (assignment all k) ≡ is_some (lowest i 1 (λ v. known (lhs_of (nogoods_of nogood_mask words v) k)))

module _ (nogood_mask : ℕ) (words : List ℕ) where
  pub overlaid-none : Overlaid nogood_mask words 0 0
  unfolding lowest is_some known nobody
  overlaid-none k = rw nobody-assigned

  pub overlaid-stored : (i all : ℕ) → nogood_mask / 2 ^ i % 2 ≡ 1 → Overlaid nogood_mask words i all
      → Overlaid nogood_mask words (suc i) (bit_or all (get_or words i 0))
  unfolding nogoods_of from_one lhs_of bit
  overlaid-stored i all has o k =
      let here = nogood-stored nogood_mask words i (eq-eqb _ 1 has) in
      let next : 1 + i ≡ suc i = omega arith in
      rw (
        is_some-last i 1 (λ v. known (lhs_of (nogoods_of nogood_mask words v) k)),
        next,
        here,
        ← o k,
        or-named all (get_or words i 0) k,
      )

  pub overlaid-other : (i all : ℕ) → nogood_mask / 2 ^ i % 2 ≢ 1 → Overlaid nogood_mask words i all → Overlaid nogood_mask words (suc i) all
  unfolding nogoods_of from_one lhs_of bit nobody known
  overlaid-other i all lacks o k =
      let here = nogood-none nogood_mask words i (ne_eqb _ 1 lacks) in
      let next : 1 + i ≡ suc i = omega arith in
      rw (is_some-last i 1 (λ v. known (lhs_of (nogoods_of nogood_mask words v) k)), next, here, or-false) (o k)

-- ---- the lowest of those that a word names whose byte has bit d

-- the rest of the word names all of them that are left
abbrev pub Sought : Conflicts → ℕ → ℕ → ℕ → Type 0
Sought b d word rest = (j : ℕ) → bit (byte_of b j) d && known (assignment word j) ≡ bit (byte_of b j) d && known (assignment rest j)

module _ (b : Conflicts) (d word rest : ℕ) (s : Sought b d word rest) where
  same-search : lowest max_named 1 (λ j. bit (byte_of b j) d && known (assignment word j)) ≡ lowest max_named 1 (λ j. bit (byte_of b j) d && known (assignment rest j))
  same-search = ap (lowest max_named 1) (fun_ext s)

  pub sought-found : (k : ℕ) → lowest max_named 1 (λ j. known (assignment rest j)) ≡ Some k → bit (byte_of b k) d ≡ true
      → Some k ≡ lowest max_named 1 (λ j. bit (byte_of b j) d && known (assignment word j))
  unfolding max_named
  sought-found k e h =
      let r = lowest-range 16 1 (λ j. known (assignment rest j)) k e in
      let found =
      lowest-is 16 1 (λ j. bit (byte_of b j) d && known (assignment rest j)) k r.0 r.1
      (rw h (lowest-some 16 1 (λ j. known (assignment rest j)) k e))
      (λ j l u. rw (lowest-before 16 1 (λ j. known (assignment rest j)) k j e l u) (and-false (bit (byte_of b j) d))) in
      rw (same-search, found)

  pub sought-passed : (k rest' : ℕ) → bit (byte_of b k) d ≡ false → assignment rest' ≡ at (assignment rest) k 0 → Sought b d word rest'
  sought-passed k rest' h e j =
      s j
      ∙ rw e (eq_test j k (λ q. rw (q, h)) (λ n. rw (at_other (assignment rest) k 0 j n)))

  pub sought-none : rest ≡ 0 → None ≡ lowest max_named 1 (λ j. bit (byte_of b j) d && known (assignment word j))
  unfolding known nobody
  sought-none z =
      let none_left = lowest-empty max_named 1 (λ j. bit (byte_of b j) d && known (assignment rest j)) (λ j l. rw (z, nobody-assigned) (and-false (bit (byte_of b j) d))) in
      rw (same-search, none_left)

-- ---- whom to blame

-- somebody is found
pub found-some : (o : Option ℕ) (found : Option ℕ) → o ≡ found → is_some found ≡ true → IsSome o
unfolding is_some
found-some None found is h = absurd (false≢true (rw (← is) at h))
found-some (Some k) found is h = refl

module _ (own : AgentConfig) (b : Conflicts) (nogoods : Nogoods) (w : ℕ) (fits : ConfigFits own) (low : 1 ≤ w) (high : w ≤ 8) where
  -- who bars the value and is named already
  known-bar : ℕ → Bool
  known-bar j = bit (byte_of b j) (pred w) && named (self_of own) nogoods j

  named-blamed : (k : ℕ) → lowest max_named 1 known-bar ≡ Some k → Blames own b nogoods w k
  unfolding blame known-bar max_named max_domain
  named-blamed k e =
      let r = lowest-range 16 1 known-bar k e in (
        r.0,
        omega (arith, r.1),
        λ bans view conflicts_of viewed.
            let found =
            sym (lowest-barring own bans view b conflicts_of fits viewed w low high (λ j t. t && named (self_of own) nogoods j) (λ j. refl)) ∙ e in
            rw (found, blame),
      )

  module _ (k : ℕ) (first : lowest max_named 1 (λ j. bit (byte_of b j) (pred w)) ≡ Some k) where
    first-blamed : lowest max_named 1 known-bar ≡ None → Blames own b nogoods w k
    unfolding blame known-bar max_named max_domain
    first-blamed e =
        let r = lowest-range 16 1 (λ j. bit (byte_of b j) (pred w)) k first in (
          r.0,
          omega (arith, r.1),
          λ bans view conflicts_of viewed.
              let none_named =
              sym (lowest-barring own bans view b conflicts_of fits viewed w low high (λ j t. t && named (self_of own) nogoods j) (λ j. refl)) ∙ e in
              rw (none_named, blame) (sym (first-barring own bans view b conflicts_of fits viewed w low high) ∙ first),
        )

    -- no other byte bars it
    pub alone-blamed : (b' : Conflicts) → ((j : ℕ) → 1 ≤ j → j ≤ 16 → byte_of b' j ≡ at (byte_of b) k 0 j)
        → is_some (lowest max_named 1 (λ j. bit (byte_of b' j) (pred w))) ≡ false → Blames own b nogoods w k
    unfolding known-bar max_named
    alone-blamed b' changed e =
        opt (lowest max_named 1 known-bar)
        (λ n. first-blamed n)
        (λ j n.
        let r = lowest-range 16 1 known-bar j n in
        let here = (both (bit (byte_of b j) (pred w)) (named (self_of own) nogoods j) (lowest-some 16 1 known-bar j n)).0 in
        eq_test j k
        (λ q. subst (λ (i : ℕ). Blames own b nogoods w i) q (named-blamed j n))
        (λ q.
        let there : bit (byte_of b' j) (pred w) ≡ true = rw (changed j r.0 (omega (arith, r.1)), at_other (byte_of b) k 0 j q) here in
        absurd (false≢true (sym e ∙ is_some-passes 16 1 (λ i. bit (byte_of b' i) (pred w)) j r.0 r.1 there))))

  -- the words stored are looked at
  module _ (words : ℕ) (names : (k : ℕ) → known (assignment words k) ≡ named (self_of own) nogoods k) where
    same-bar : lowest max_named 1 (λ j. bit (byte_of b j) (pred w) && known (assignment words j)) ≡ lowest max_named 1 known-bar
    unfolding known-bar
    same-bar = ap (lowest max_named 1) (fun_ext λ j. rw (names j))

    pub sought-blamed : (o : Option ℕ) → o ≡ lowest max_named 1 (λ j. bit (byte_of b j) (pred w) && known (assignment words j))
        → (first : ℕ) → lowest max_named 1 (λ j. bit (byte_of b j) (pred w)) ≡ Some first → Blames own b nogoods w (unwrap_or o first)
    sought-blamed None is first e = first-blamed first e (sym same-bar ∙ sym is)
    sought-blamed (Some k) is first e = named-blamed k (sym same-bar ∙ sym is)
