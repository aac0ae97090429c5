-- The agent facts, as proved of the rules: the one place above the wall that cites a proof of them.
pub use Rattle.theorems_agent.proofs.Agent.{agent-facts}
