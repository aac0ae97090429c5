-- A sender's row of counts, digit by digit; and the rows of all senders.
use Rattle.std.proofs.Common.{ℕ, ◌+◌, ◌-◌, ◌%◌, ◌≤◌, ◌<◌, ◌≡◌, true, List, arith, length, get_or, set}
use Rattle.model_base.specs.Finite.{at}
use Rattle.model_base.proofs.Search.{at_same, at_other}
use Rattle.model_base.proofs.Tests.{eq_test}
use Rattle.abt_packed.specs.Packed.{assignment}
use Rattle.abt_record.specs.Abstract.{is_channel, channel_at, row_of}
use Rattle.abt_shape.proofs.Numbering.{ends}
use Rattle.abt_image_reader.specs.declared.lines.Line.{Line}
use Rattle.abt_image_reader.specs.Layout.{empty_line}
use Rattle.abt_record_laws.proofs.Changes.{row_same, row_other}

module _ (lines : List Line) (i : ℕ) where
  -- the digits of the receivers before j
  abbrev pub Rowed : ℕ → ℕ → Type 0
  Rowed word j = (x : ℕ) → is_channel i x ≡ true → x < j → assignment word x ≡ (get_or lines (channel_at i x) empty_line).count % 16

  pub none-rowed : (word : ℕ) → Rowed word 1
  none-rowed word x e h = absurd (omega (arith, (ends i x e).to_low))

  module _ (word j new : ℕ) (r : Rowed word j) where
    pub one-rowed : (line put : ℕ) → line ≡ channel_at i j → assignment put ≡ at (assignment word) j ((get_or lines line empty_line).count % 16) → new ≡ put
        → Rowed new (j + 1)
    one-rowed line put q e f x c h =
        rw (f, e)
        (eq_test x j
        (λ g. rw (g, at_same (assignment word) j ((get_or lines line empty_line).count % 16), q))
        (λ n. rw (at_other (assignment word) j ((get_or lines line empty_line).count % 16) x n) (r x c (omega (arith, n)))))

    -- the sender itself has no line
    pub none_more : j ≡ i → new ≡ word → Rowed new (j + 1)
    none_more q e x c h = rw e (r x c (omega (arith, (ends i x c).apart)))

-- ---- all senders

module _ (lines : List Line) where
  -- the rows of the senders up to m
  abbrev pub AllRowed : List ℕ → ℕ → Type 0
  AllRowed rows m = (x y : ℕ) → is_channel x y ≡ true → x ≤ m → row_of rows x y ≡ (get_or lines (channel_at x y) empty_line).count % 16

  pub none-sent : (rows : List ℕ) → AllRowed rows 0
  none-sent rows x y e h = absurd (omega (arith, (ends x y e).from_low))

  pub one-sent : (rows : List ℕ) (m word : ℕ) → m < length rows → AllRowed rows m
      → ((y : ℕ) → is_channel (m + 1) y ≡ true → assignment word y ≡ (get_or lines (channel_at (m + 1) y) empty_line).count % 16)
      → AllRowed (set rows (m + 1 - 1) word) (m + 1)
  one-sent rows m word l r e x y c h =
      eq_test x (m + 1)
      (λ q. rw (q, row_same rows (m + 1) word (omega arith) (omega arith)) (e y (rw q at c)))
      (λ n. rw (row_other rows (m + 1) word (omega arith) x n) (r x y c (omega (arith, n))))
