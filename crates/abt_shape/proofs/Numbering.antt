-- The 132 channels: which pairs of agents have one, and its number as the code computes it.
use Rattle.std.proofs.Common.{ℕ, ◌+◌, ◌*◌, ◌-◌, ◌/◌, ◌%◌, ◌≤◌, ◌<◌, ◌≡◌, sym, ◌∙◌, true, not, ◌&&◌, arith, eqb, ltb, ne_eqb, lt-ltb, le-ltb, ltb-true, ltb-false}
use borrow.Author.Tests.{eqb-false}
use Rattle.model_base.specs.Finite.{within}
use Rattle.model_base.proofs.Tests.{test, not-true, both, within-true, to-within}
use Rattle.model_sheet.specs.Problem.{max_agents}
use Rattle.model_network.specs.Lines.{is_channel, channel_at}

-- two different agents of 1 to 12
pub record Ends (i j : ℕ) : Type 0 where
  pub from_low : 1 ≤ i
  pub from-high : i ≤ 12
  pub to_low : 1 ≤ j
  pub to_high : j ≤ 12
  pub apart : i ≡ j → ⊥

pub ends : (i j : ℕ) → is_channel i j ≡ true → Ends i j
unfolding is_channel max_agents
ends i j e =
    let a = both (within max_agents i && within max_agents j) (not (eqb i j)) e in
    let b = both (within max_agents i) (within max_agents j) a.0 in
    let f = within-true max_agents i b.0 in
    let t = within-true max_agents j b.1 in
    record {
      from_low = f.0;
      from-high = f.1;
      to_low = t.0;
      to_high = t.1;
      apart = eqb-false i j (not-true (eqb i j) a.1);
    }

pub to-channel : (i j : ℕ) → 1 ≤ i → i ≤ 12 → 1 ≤ j → j ≤ 12 → (i ≡ j → ⊥) → is_channel i j ≡ true
unfolding is_channel max_agents
to-channel i j l h k g n = rw (to-within 12 i l h, to-within 12 j k g, ne_eqb i j n)

-- ---- its number

pub channel-up : (i j : ℕ) → 1 ≤ j → j < i → 11 * (i - 1) + j - 1 ≡ channel_at i j
unfolding channel_at
channel-up i j l h = rw (lt-ltb j i h, channel_at) (omega arith)

pub channel-down : (i j : ℕ) → 2 ≤ j → i ≤ j → 11 * (i - 1) + j - 2 ≡ channel_at i j
unfolding channel_at
channel-down i j l h = rw (le-ltb j i h, channel_at) (omega arith)

pub channel-below : (i j : ℕ) → is_channel i j ≡ true → channel_at i j < 132
unfolding channel_at
channel-below i j e =
    let b = ends i j e in
    let f = b.from-high in
    let t = b.to_high in
    let n = b.apart in
    test (ltb j i)
    (λ s. rw (s, channel_at) (omega (arith, ltb-true j i s, b.to_low)))
    (λ s. rw (s, channel_at) (omega (arith, ltb-false j i s, n, b.from_low)))

-- ---- and back: each sender has eleven, and is passed over itself

pub ends_low : (c : ℕ) → c < 132 → c % 11 + 1 < c / 11 + 1 → (is_channel (c / 11 + 1) (c % 11 + 1) ≡ true) × (channel_at (c / 11 + 1) (c % 11 + 1) ≡ c)
ends_low c l h =
    let number : 11 * (c / 11 + 1 - 1) + (c % 11 + 1) - 1 ≡ c = omega arith in
    (to-channel _ _ (omega arith) (omega arith) (omega arith) (omega arith) (λ e. omega arith), sym (channel-up (c / 11 + 1) (c % 11 + 1) (omega arith) h) ∙ number)

pub ends-high : (c : ℕ) → c < 132 → c / 11 + 1 ≤ c % 11 + 1 → (is_channel (c / 11 + 1) (c % 11 + 1 + 1) ≡ true) × (channel_at (c / 11 + 1) (c % 11 + 1 + 1) ≡ c)
ends-high c l h =
    let number : 11 * (c / 11 + 1 - 1) + (c % 11 + 1 + 1) - 2 ≡ c = omega arith in
    (to-channel _ _ (omega arith) (omega arith) (omega arith) (omega arith) (λ e. omega arith), sym (channel-down (c / 11 + 1) (c % 11 + 1 + 1) (omega arith) (omega arith)) ∙ number)
