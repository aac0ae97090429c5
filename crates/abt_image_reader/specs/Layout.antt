-- Where the messages of the lines stand in an image, and how many each line has.
use Rattle.std.specs.Prelude.{ℕ, ◌+◌, ◌*◌, ◌≤◌, ◌<◌, ◌≡◌, List, [], length, get_or, drop}
use Rattle.model_agent.specs.Message.{Message, AddLink}
use Rattle.model_image.specs.Reading.{heads_start, messages_start, message_in, lines_in, line_count}
use Rattle.abt_image_reader.specs.declared.lines.Line.{Line}

-- the lines of an image with n agents
unfoldable pub lines_of : List ℕ → ℕ → List (List Message)
lines_of s n = lines_in line_count (drop (heads_start n) s) (drop (messages_start n) s)

-- line k has so many messages, from `start` on
pub record LineAt (s : List ℕ) (line : List Message) (count start : ℕ) : Type 0 where
  pub counted : count ≡ length line
  pub few : count ≤ 8
  pub near : start < 20000
  pub messages : (q : ℕ) → q < count → get_or line q AddLink ≡ message_in (drop (start + 16 * q) s)

-- one without messages
abbrev pub empty_line : Line
empty_line = record { count = 0; start = 0 }

pub record LaidOut (s : List ℕ) (n : ℕ) (laid : List Line) : Type 0 where
  pub long : length laid ≡ 132
  pub lines : (k : ℕ) → k < 132 → LineAt s (get_or (lines_of s n) k []) (get_or laid k empty_line).count (get_or laid k empty_line).start
