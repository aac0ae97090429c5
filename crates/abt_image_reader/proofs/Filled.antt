-- The agents of an image, put into an array of unused ones, upward from agent 1.
-- With the first m of them read it holds what the definition reads of an image with m agents.
use Rattle.std.proofs.Common.{ℕ, zero, suc, ◌+◌, ◌*◌, ◌≤◌, ◌<◌, ◌≡◌, refl, sym, ap, ◌∙◌, ◌≢◌, List, map, add-one, arith, leb, length, set, get_or-set_same, get_or-set_other, le-leb, leb-true, leb-false}
use lib.ListN.{length-map}
use borrow.Author.Tests.{lt-leb}
use Rattle.model_base.specs.Finite.{from_one, within}
use Rattle.model_base.proofs.Arrays.{map-set}
use Rattle.model_base.proofs.Tests.{test, eq_test, to-within, not_within}
use Rattle.model_agent.specs.Message.{nobody}
use Rattle.model_agent.specs.Agent.{no_nogoods, unused_agent}
use Rattle.model_network.specs.Network.{Network as Network', empty_network}
use Rattle.abt_agent.specs.declared.Agent.{Agent}
use Rattle.abt_agent.specs.Abstract.{agent_of}
use Rattle.abt_record.specs.declared.Network.{Network}
use Rattle.abt_record.specs.Abstract.{agents_of, network_of}
use Rattle.abt_record.specs.Empty.{empty_record}
use Rattle.abt_record.proofs.Zeros.{record-empty}
use Rattle.model_image.specs.Bytes.{stretch}
use Rattle.model_image.specs.Reading.{header_length, bans_length, agent_length, agents_start, agent_in, agents_in}
use Rattle.abt_image_reader.specs.Narrow.{narrow_lhs, narrow_reason, narrow_agent}

-- an unused agent has nothing above 16
pub narrow-unused : narrow_agent unused_agent ≡ unused_agent
unfolding narrow_agent narrow_lhs narrow_reason unused_agent nobody no_nogoods
narrow-unused = refl

module _ (s : List ℕ) where
  -- the first m are read
  abbrev pub Read : ℕ → List Agent → Type 0
  Read m agents = (i : ℕ) → agents_of (map agent_of agents) i ≡ narrow_agent (agents_in m s i)

  unread : (m i : ℕ) → (1 ≤ i → i ≤ m → ⊥) → narrow_agent (agents_in m s i) ≡ unused_agent
  unfolding agents_in
  unread m i n = rw (not_within m i n) narrow-unused

  pub none_read : (r : Network) → r ≡ empty_record → Read 0 r.agents
  unfolding network_of empty_network
  none_read r e i =
      ap (λ (o : Network). (network_of o).agents i) e
      ∙ ap (λ (w : Network'). w.agents i) record-empty
      ∙ sym (unread 0 i (λ l h. omega arith))

  -- ---- one more

  within_more : (m i : ℕ) → i ≢ suc m → within (suc m) i ≡ within m i
  unfolding within
  within_more m i n =
      test (leb i m)
      (λ t. rw (t, le-leb i (suc m) (omega (arith, leb-true i m t))))
      (λ t. rw (t, lt-leb i (suc m) (omega (arith, leb-false i m t, n))))

  pub one-read : (m : ℕ) (agents : List Agent) (a : Agent) → m < length agents → Read m agents
      → agent_of a ≡ narrow_agent (agent_in (stretch (544 + 170 * m) 170 s)) → Read (m + 1) (set agents m a)
  unfolding agents_of from_one agents_in agents_start agent_length header_length bans_length
  one-read m agents a h r e zero = r zero ∙ unread m zero (λ l u. omega arith) ∙ sym (unread (m + 1) zero (λ l u. omega arith))
  one-read m agents a h r e (suc k) =
      rw (add-one m, map-set agent_of agents m a)
      (eq_test k m
      (λ q. rw (
        q,
        get_or-set_same (map agent_of agents) m (agent_of a) unused_agent (rw length-map h),
        to-within (suc m) (suc m) (omega arith) (omega arith),
      ) e)
      (λ n. rw (
        get_or-set_other (map agent_of agents) m k (agent_of a) unused_agent n,
        within_more m (suc k) (λ q. n (omega arith)),
      ) (r (suc k))))
