-- Each line stands among all lines at its number: by sender, then receiver.
-- The sender's row has a line for each receiver but the sender itself.
use Rattle.std.proofs.Common.{ℕ, zero, suc, pred, ◌+◌, ◌-◌, ◌*◌, ◌≤◌, ◌<◌, ◌≡◌, refl, sym, ◌≢◌, true, not, ◌&&◌, cond, List, [], ◌∷◌, arith, length, get_or, length-append, eqb, ltb, eq-eqb, ne_eqb, ltb-true, ltb-false}
use borrow.Author.Tests.{eqb-false}
use Rattle.model_base.specs.Finite.{gather, within}
use Rattle.model_base.proofs.Tests.{test, eq_test, both, not-true, within-true}
use Rattle.model_base.proofs.Lists.{gather-last}
use Rattle.model_sheet.specs.Problem.{max_agents}
use Rattle.model_network.specs.Lines.{is_channel, channel_at}
use Rattle.model_network.specs.Network.{Network}
use Rattle.model_image.specs.Image.{all_lines}
use Rattle.model_image.proofs.Stretches.{Stands, stands-whole, stands-part, stands_one, stands_read}

module _ {A : Type 0} (i : ℕ) (c : ℕ → A) where
  -- one for each number but i
  others : ℕ → List A
  others j = cond (eqb i j) [] (c j ∷ [])

  others-here : length (others i) ≡ 0
  unfolding others
  others-here = rw (eq-eqb i i refl)

  others-there : (j : ℕ) → j ≢ i → others j ≡ c j ∷ []
  unfolding others
  others-there j n = rw (ne_eqb i j (λ e. n (omega arith)))

  -- up to m, as long as i is not among them
  before : (m : ℕ) → m < i → length (gather m 1 others) ≡ m
  unfolding gather
  before zero h = refl
  before (suc m) h =
      let e : 1 + m ≡ suc m = omega arith in
      rw (gather-last m 1 others, length-append (gather m 1 others) (others (1 + m)), e, others-there (suc m) (λ q. omega arith))
      (omega (arith, before m (omega arith)))

  beyond : (m : ℕ) → 1 ≤ i → i ≤ m → length (gather m 1 others) ≡ pred m
  beyond zero l h = absurd (omega arith)
  beyond (suc m) l h =
      let e : 1 + m ≡ suc m = omega arith in
      rw (gather-last m 1 others, length-append (gather m 1 others) (others (1 + m)), e)
      (eq_test i (suc m)
      (λ q. rw (← q) (omega (arith, before m (omega arith), others-here)))
      (λ n. rw (others-there (suc m) (λ q. n (omega arith))) (omega (arith, beyond m l (omega (arith, n))))))

-- ---- all lines

row-length : (w : Network) (i : ℕ) → 1 ≤ i → i < 1 + max_agents → length (gather max_agents 1 (others i (w.channel i))) ≡ 11
unfolding max_agents
row-length w i l u = beyond i (w.channel i) 12 l (omega arith)

module _ (w : Network) (i j : ℕ) (low : 1 ≤ i) (high : i ≤ max_agents) (from : 1 ≤ j) (upto : j ≤ max_agents) (apart : j ≢ i) where
  -- behind the rows before it, and what its own row has before j
  there : (b : ℕ) → 11 * pred i + length (gather (j - 1) 1 (others i (w.channel i))) ≡ b → Stands (all_lines w) b (w.channel i j ∷ [])
  unfolding all_lines others
  there b p =
      let row = stands_one max_agents 1 i 11 (λ i. gather max_agents 1 (others i (w.channel i))) (11 * pred i) (row-length w)
      low (omega arith) (omega arith) (stands-whole (all_lines w)) in
      rw (others-there i (w.channel i) j apart) at (stands-part max_agents 1 j (others i (w.channel i)) b from (omega arith) p row)

  line-there : get_or (all_lines w) (channel_at i j) [] ≡ w.channel i j
  unfolding channel_at
  line-there =
      test (ltb j i)
      (λ h. rw (h, channel_at) (stands_read (w.channel i j) [] (there (11 * pred i + pred j)
      (let k = ltb-true j i h in omega (arith, before i (w.channel i) (j - 1) (omega arith))))))
      (λ h. rw (h, channel_at) (stands_read (w.channel i j) [] (there (11 * pred i + pred (pred j))
      (let k = ltb-false j i h in omega (arith, beyond i (w.channel i) (j - 1) low (omega (arith, apart)))))))

pub line_at : (w : Network) (i j : ℕ) → is_channel i j ≡ true → get_or (all_lines w) (channel_at i j) [] ≡ w.channel i j
unfolding is_channel
line_at w i j e =
    let a = both (within max_agents i && within max_agents j) (not (eqb i j)) e in
    let b = both (within max_agents i) (within max_agents j) a.0 in
    let f = within-true max_agents i b.0 in
    let t = within-true max_agents j b.1 in
    line-there w i j f.0 f.1 t.0 t.1 (λ q. eqb-false i j (not-true (eqb i j) a.1) (sym q))
