-- The lines of an image, one after the other: how many messages each has, and where they stand.
-- The messages of a line stand behind those of the line before, so that one cursor serves.
use Rattle.std.proofs.Common.{ℕ, suc, ◌+◌, ◌*◌, ◌-◌, ◌≤◌, ◌<◌, ◌≡◌, sym, ap, ◌∙◌, List, [], ◌∷◌, arith, length, get_or, set, drop, length-set, drop-drop, get_or-drop, get_or-set_same, get_or-set_other}
use Rattle.model_base.proofs.Tests.{eq_test}
use Rattle.model_agent.specs.Message.{Message}
use Rattle.model_image.specs.Bytes.{number_in, stretch}
use Rattle.model_image.specs.Reading.{
  header_length,
  bans_length,
  agent_length,
  heads_length,
  message_length,
  agents_start,
  heads_start,
  messages_start,
  line_in,
  lines_in,
  line_count,
}
use Rattle.abt_image_reader.specs.declared.lines.Line.{Line}
use Rattle.abt_image_reader.specs.Layout.{lines_of, LineAt, empty_line}
use Rattle.abt_image_reader.proofs.Chains.{line_at}

module _ (s : List ℕ) (n : ℕ) where
  -- so many lines are looked at; the messages of the next stand from `at` on
  pub record Laying (lines : List Line) (at line : ℕ) : Type 0 where
    pub long : length lines ≡ 132
    pub near : at ≤ 2848 + 128 * line
    pub rest : drop line (lines_of s n) ≡ lines_in (132 - line) (drop (544 + 170 * n + 2 * line) s) (drop at s)
    pub done : (k : ℕ) → k < line → LineAt s (get_or (lines_of s n) k []) (get_or lines k empty_line).count (get_or lines k empty_line).start

  pub none-laid : (lines : List Line) → n ≤ 12 → length lines ≡ 132 → Laying lines (544 + 170 * n + 264) 0
  unfolding lines_of heads_start messages_start agents_start header_length bans_length agent_length heads_length line_count
  none-laid lines h a =
      let e : 544 + 170 * n + 2 * 0 ≡ 544 + 170 * n = omega arith in
      record { long = a; near = omega arith; rest = rw e; done = λ k l. absurd (omega arith) }

  module _ (lines : List Line) (at line head count : ℕ) (l : Laying lines at line) (h : line < 132)
      (e : head ≡ number_in (stretch (544 + 170 * n + 2 * line) 2 s)) (f : count ≡ length (line_in head (drop at s))) (few : count ≤ 8) where
    abbrev this_line : Line
    this_line = record { count = count; start = at }

    -- the next line, and the others
    here : drop line (lines_of s n)
        ≡ line_in head (drop at s) ∷ lines_in (132 - (line + 1)) (drop (544 + 170 * n + 2 * (line + 1)) s) (drop (at + 16 * count) s)
    unfolding lines_in stretch message_length
    here =
        let m : 132 - line ≡ suc (132 - (line + 1)) = omega arith in
        let i = 544 + 170 * n + 2 * line in
        let next : 544 + 170 * n + 2 * (line + 1) ≡ i + 2 = omega arith in
        l.rest ∙ rw (m, ← e, ← f, drop-drop 2 i s, drop-drop (16 * count) at s, next)

    this : get_or (lines_of s n) line [] ≡ line_in head (drop at s)
    this =
        let z : line + 0 ≡ line = omega arith in
        ap (λ (k : ℕ). get_or (lines_of s n) k []) (sym z) ∙ sym (get_or-drop line (lines_of s n) 0 []) ∙ ap (λ (r : List (List Message)). get_or r 0 []) here

    pub one-laid : Laying (set lines line (record { count = count; start = at })) (at + 16 * count) (line + 1)
    one-laid =
        record {
          long = length-set lines line this_line ∙ l.long;
          near = omega (arith, l.near);
          rest = sym (drop-drop 1 line (lines_of s n)) ∙ ap (drop 1) here;
          done = λ k u. eq_test k line (λ q. last k q) (λ n. before k (omega (arith, n)));
        }
      where
        last : (k : ℕ) → k ≡ line
            → LineAt s (get_or (lines_of s n) k []) (get_or (set lines line this_line) k empty_line).count (get_or (set lines line this_line) k empty_line).start
        last k q =
            rw (q, get_or-set_same lines line this_line empty_line (omega (arith, l.long)), this)
            (record { counted = f; few = few; near = omega (arith, l.near); messages = λ q u. line_at head s at q (rw (← f) u) })

        before : (k : ℕ) → k < line
            → LineAt s (get_or (lines_of s n) k []) (get_or (set lines line this_line) k empty_line).count (get_or (set lines line this_line) k empty_line).start
        before k u = rw (get_or-set_other lines line k this_line empty_line (λ q. omega arith)) (l.done k u)
