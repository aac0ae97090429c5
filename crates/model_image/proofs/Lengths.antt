-- How long the parts of an image are, and the whole: "808 + 170 × n + 16 × k bytes for k messages".
-- Each part has its length whatever it holds; what waits is counted line by line.
use Rattle.std.proofs.Common.{None, Option, Some, ℕ, zero, suc, ◌+◌, ◌*◌, ◌≡◌, refl, ◌∙◌, Bool, true, false, ◌&&◌, cond, List, [], ◌∷◌, ◌++◌, arith, length, length-append, eqb}
use mathlib.Core.Bool.{and-false}
use Rattle.model_base.specs.Finite.{gather, sum, within}
use Rattle.model_base.proofs.Tests.{test}
use Rattle.model_base.proofs.Lists.{gather-last}
use Rattle.model_base.proofs.Sums.{sum_same}
use Rattle.model_sheet.specs.Problem.{Problem, max_agents, max_domain}
use Rattle.model_agent.specs.Message.{Assignment, Message, Info, Back, AddLink}
use Rattle.model_agent.specs.Traffic.{Sort}
use Rattle.model_agent.specs.Agent.{Agent}
use Rattle.model_network.specs.Lines.{is_channel}
use Rattle.model_network.specs.Network.{Network}
use Rattle.model_image.specs.Bytes.{bytes_of}
use Rattle.model_image.specs.Image.{
  slots,
  header_bytes,
  ban_bytes,
  mask_bytes,
  reason_bytes,
  count_bytes,
  agent_bytes,
  all_lines,
  number_after,
  heads_from,
  no_slots,
  message_bytes,
  chain_from,
  messages_from,
  image,
}
use Rattle.model_image.specs.Reading.{
  header_length,
  bans_length,
  agent_length,
  heads_length,
  message_length,
  agents_start,
  heads_start,
  messages_start,
  line_count,
}
use Rattle.model_image.specs.Plain.{Plain}
use Rattle.model_image.specs.Claims.{waiting, ImageLength}
use Rattle.model_image.proofs.Bytes.{bytes-length}
use Rattle.model_image.proofs.Stretches.{same-lengths}

-- ---- header and bans

pub slots_length : (l : Assignment) → length (slots l) ≡ 12
unfolding slots gather max_agents
slots_length l = refl

pub header-length : (w : Network) → length (header_bytes w) ≡ header_length
unfolding header_bytes slots gather max_agents header_length
header-length w = refl

pub bans-length : (p : Problem) → length (ban_bytes p) ≡ bans_length
unfolding ban_bytes gather max_agents bytes_of bans_length
bans-length p = refl

-- ---- an agent

pub mask-length : (f : ℕ → Bool) → length (mask_bytes f) ≡ 2
unfolding mask_bytes
mask-length f = bytes-length 2 _

pub reason-length : (o : Option Assignment) → length (reason_bytes o) ≡ 13
unfolding reason_bytes slots gather max_agents
reason-length None = refl
reason-length (Some lhs) = refl

pub reasons-length : (f : ℕ → Option Assignment) → length (gather max_domain 1 (λ v. reason_bytes (f v))) ≡ 104
unfolding max_domain
reasons-length f = same-lengths 8 1 13 (λ v. reason_bytes (f v)) (λ v _ _. reason-length (f v))

pub count-length : (c : Sort → ℕ) → length (count_bytes c) ≡ 24
unfolding count_bytes bytes_of
count-length c = refl

pub agent-length : (a : Agent) → length (agent_bytes a) ≡ agent_length
unfolding agent_bytes agent_length
agent-length a =
    simp (length-append, mask-length, slots_length, reasons-length, count-length)

pub agents-length : (n : ℕ) (f : ℕ → Agent) → length (gather n 1 (λ i. agent_bytes (f i))) ≡ agent_length * n
agents-length n f = same-lengths n 1 agent_length (λ i. agent_bytes (f i)) (λ i _ _. agent-length (f i))

-- ---- messages

pub message-length : (m : Message) (next : ℕ) → length (message_bytes m next) ≡ message_length
unfolding message_bytes bytes_of no_slots slots gather max_agents message_length
message-length (Info v) next = refl
message-length (Back lhs v) next = refl
message-length AddLink next = refl

pub chain_length : (before : ℕ) (l : List Message) → length (chain_from before l) ≡ message_length * length l
unfolding chain_from message_length
chain_length before [] = refl
chain_length before (m ∷ ms) =
    let next = number_after (suc before) ms in
    omega (arith, length-append (message_bytes m next) (chain_from (suc before) ms), message-length m next, chain_length (suc before) ms)

pub heads-length : (before : ℕ) (ls : List (List Message)) → length (heads_from before ls) ≡ 2 * length ls
unfolding heads_from
heads-length before [] = refl
heads-length before (l ∷ ls) =
    let head = bytes_of 2 (number_after before l) in
    omega (arith, length-append head (heads_from (before + length l) ls), bytes-length 2 (number_after before l), heads-length (before + length l) ls)

pub lines-count : (w : Network) → length (all_lines w) ≡ line_count
unfolding all_lines gather max_agents line_count
lines-count w = refl

-- ---- what waits

-- the messages of all these lines
unfoldable pub total : List (List Message) → ℕ
total [] = 0
total (l ∷ ls) = length l + total ls

pub messages-length : (before : ℕ) (ls : List (List Message)) → length (messages_from before ls) ≡ message_length * total ls
unfolding messages_from total message_length
messages-length before [] = refl
messages-length before (l ∷ ls) =
    let after = messages_from (before + length l) ls in
    omega (arith, length-append (chain_from before l) after, chain_length before l, messages-length (before + length l) ls)

total-append : (ls rs : List (List Message)) → total (ls ++ rs) ≡ total ls + total rs
unfolding total
total-append [] rs = omega arith
total-append (l ∷ ls) rs = omega (arith, total-append ls rs)

total-gathered : (m : ℕ) (f : ℕ → List (List Message)) → total (gather m 1 f) ≡ sum m (λ k. total (f k))
unfolding total gather sum
total-gathered zero f = refl
total-gathered (suc m) f =
    let e : 1 + m ≡ suc m = omega arith in
    rw (gather-last m 1 f, total-append (gather m 1 f) (f (1 + m)), e) (omega (arith, total-gathered m f))

-- no line leads from an agent to itself
no_line : (i j : ℕ) → eqb i j ≡ true → is_channel i j ≡ false
unfolding is_channel
no_line i j e = rw e (and-false (within max_agents i && within max_agents j))

one_line : (w : Network) → Plain w → (i j : ℕ) → total (cond (eqb i j) [] (w.channel i j ∷ [])) ≡ length (w.channel i j)
unfolding total
one_line w plain i j =
    test (eqb i j)
    (λ e. rw (e, plain.channels i j (no_line i j e)))
    (λ e. rw e (omega arith))

pub total-waiting : (w : Network) → Plain w → total (all_lines w) ≡ waiting w
unfolding all_lines waiting
total-waiting w plain =
    total-gathered max_agents _ ∙ sum_same max_agents _ _ (λ i _ _. total-gathered max_agents _ ∙ sum_same max_agents _ _ (λ j _ _. one_line w plain i j))

-- ---- the whole

pub image-length : ImageLength
unfolding image messages_start heads_start agents_start heads_length line_count
image-length w plain =
    simp (
      length-append,
      header-length,
      bans-length,
      agents-length w.problem.count w.agents,
      heads-length,
      lines-count,
      messages-length,
      total-waiting w plain,
    )
