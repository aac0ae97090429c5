-- The parts of an image, each at its place: the header, the bans, the agents, the heads, the messages.
-- Each stands behind the one before it, whose length is known.
use Rattle.std.proofs.Common.{◌*◌, refl, append_assoc, ◌++◌, zero-add}
use Rattle.model_base.specs.Finite.{gather}
use Rattle.model_network.specs.Network.{Network}
use Rattle.model_image.specs.Image.{header_bytes, ban_bytes, agent_bytes, all_lines, heads_from, messages_from, image}
use Rattle.model_image.specs.Reading.{header_length, bans_length, agent_length, heads_length, agents_start, heads_start, messages_start, line_count}
use Rattle.model_image.proofs.Stretches.{Stands, stands-as, stands-left, stands-right}
use Rattle.model_image.proofs.Lengths.{header-length, bans-length, agents-length, heads-length, lines-count}

pub record Sections (w : Network) : Type 0 where
  pub bans : Stands (image w) header_length (ban_bytes w.problem)
  pub agents : Stands (image w) agents_start (gather w.problem.count 1 (λ i. agent_bytes (w.agents i)))
  pub heads : Stands (image w) (heads_start w.problem.count) (heads_from 0 (all_lines w))
  pub messages : Stands (image w) (messages_start w.problem.count) (messages_from 0 (all_lines w))

pub sections : (w : Network) → Sections w
unfolding image agents_start heads_start messages_start heads_length line_count
sections w =
    let b = ban_bytes w.problem in
    let a = gather w.problem.count 1 (λ i. agent_bytes (w.agents i)) in
    let h = heads_from 0 (all_lines w) in
    let m = messages_from 0 (all_lines w) in
    let whole : Stands (image w) 0 (header_bytes w ++ (b ++ (a ++ (h ++ m)))) = stands-as (simp append_assoc) in
    let bans = stands-right (header_bytes w) _ header_length header_length (header-length w) (zero-add header_length) whole in
    let agents = stands-right b _ bans_length agents_start (bans-length _) refl bans in
    let heads = stands-right a _ (agent_length * w.problem.count) (heads_start w.problem.count) (agents-length _ _) refl agents in
    let messages = stands-right h _ 264 (messages_start w.problem.count) (rw (heads-length, lines-count)) refl heads in
    record {
      bans = stands-left b _ bans;
      agents = stands-left a _ agents;
      heads = stands-left h _ heads;
      messages = messages;
    }
