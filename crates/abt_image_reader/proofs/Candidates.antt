-- What is read of any bytes is the network that they would be the image of, its left sides modulo 16.
-- Each ring begins at its first place, and holds as many messages as its line has.
use Rattle.std.proofs.Common.{ℕ, suc, ◌+◌, ◌*◌, ◌%◌, ◌≤◌, ◌<◌, ◌≡◌, refl, ap, ap₂, ◌∙◌, true, List, [], ◌∷◌, map, arith, eqb, length, get_or, drop, replicate}
use mathlib.Core.Path.{fun_ext}
use Rattle.model_base.proofs.Tests.{test}
use Rattle.model_sheet.specs.Problem.{max_agents}
use Rattle.model_agent.specs.Message.{Message, AddLink}
use Rattle.abt_agent.specs.Abstract.{agent_of}
use Rattle.abt_record.specs.declared.Place.{Place}
use Rattle.abt_record.specs.declared.Network.{Network}
use Rattle.abt_record.specs.Abstract.{is_channel, channel_at, place_of, no_place, ring, row_of, channel_of, problem_of, agents_of, network_of}
use Rattle.abt_shape.proofs.Numbering.{channel-below}
use Rattle.abt_record.proofs.Zeros.{zero_row}
use Rattle.model_image.specs.Bytes.{stretch}
use Rattle.model_image.specs.Reading.{message_in, bans_in, problem_in, channel_in, agents_in, parse}
use Rattle.abt_image_reader.specs.Narrow.{narrow_message, narrow_agent, narrow}
use Rattle.abt_image_reader.specs.Layout.{lines_of, LaidOut, empty_line}
use Rattle.abt_image_reader.specs.declared.lines.Line.{Line}

-- ---- a ring

ring-is : (places : List Place) (base : ℕ) (l : List Message) (h : ℕ) → h + length l ≤ 8
    → ((q : ℕ) → q < length l → place_of (get_or places (base + (h + q)) no_place) ≡ narrow_message (get_or l q AddLink))
    → ring places base h (length l) ≡ map narrow_message l
unfolding ring
ring-is places base [] h f e = refl
ring-is places base (m ∷ ms) h f e =
    let z : h + 0 ≡ h % 8 = omega arith in
    let first : place_of (get_or places (base + h % 8) no_place) ≡ narrow_message m = rw z at (e 0 (omega arith)) in
    let rest = ring-is places base ms (suc h) (omega arith)
    (λ q u. let w : suc h + q ≡ h + suc q = omega arith in rw w (e (suc q) (omega arith))) in
    ap₂ (λ (x : Message) (xs : List Message). x ∷ xs) first rest

-- ---- the lines

module _ (r : Network) (s : List ℕ) (n : ℕ) (l : List Line) (laid : LaidOut s n l) (heads : r.heads ≡ replicate 12 0)
    (counts : (i j : ℕ) → is_channel i j ≡ true → row_of r.counts i j ≡ (get_or l (channel_at i j) empty_line).count % 16)
    (placed : (k q : ℕ) → k < 132 → q < 8 → q < (get_or l k empty_line).count
    → place_of (get_or r.places (8 * k + q) no_place) ≡ narrow_message (message_in (drop ((get_or l k empty_line).start + 16 * q) s))) where
  line_read : (i j : ℕ) → is_channel i j ≡ true → channel_of r i j ≡ map narrow_message (get_or (lines_of s n) (channel_at i j) [])
  unfolding channel_of
  line_read i j e =
      let k = channel_at i j in
      let h = channel-below i j e in
      let a = laid.lines k h in
      let c : row_of r.counts i j ≡ length (get_or (lines_of s n) k []) = omega (arith, counts i j e, a.few, a.counted) in
      rw (heads, zero_row 12 i j, c)
      (ring-is r.places (8 * k) (get_or (lines_of s n) k []) 0 (omega (arith, a.few, a.counted))
      (λ q u.
      let z : 0 + q ≡ q = omega arith in
      let v : q < (get_or l k empty_line).count = omega (arith, a.counted) in
      rw (z, a.messages q v) (placed k q h (omega (arith, a.few)) v)))

  lines-read : (i j : ℕ) → (network_of r).channel i j ≡ map narrow_message (channel_in (lines_of s n) i j)
  unfolding network_of channel_in
  lines-read i j = test (is_channel i j) (λ e. rw (e, network_of) (line_read i j e)) (λ e. rw (e, network_of))

  pub candidate-is : n ≡ get_or s 1 0 → r.count ≡ get_or s 1 0 → r.domains ≡ stretch 4 12 s → r.bans ≡ bans_in s → r.rule ≡ get_or s 2 0
      → r.unsolvable ≡ eqb (get_or s 3 0) 1 → agents_of (map agent_of r.agents) ≡ (λ i. narrow_agent (agents_in n s i))
      → network_of r ≡ narrow (parse s)
  unfolding network_of problem_of narrow parse problem_in lines_of max_agents
  candidate-is e count domains bans rule unsolvable agents =
      λ i.
      record {
        problem = record { count = count i; domains = domains i; bans = bans i };
        rule = rule i;
        unsolvable = unsolvable i;
        agents = (agents ∙ ap (λ (m : ℕ). λ (i : ℕ). narrow_agent (agents_in m s i)) e) i;
        channel = fun_ext (λ x. fun_ext (λ y. lines-read x y ∙ ap (λ (m : ℕ). map narrow_message (channel_in (lines_of s m) x y)) e)) i;
      }
