-- All are told: with agent i's row of counts set, the network is the one before with i's Infos put on its channels.
use Rattle.std.proofs.Common.{◌≡◌, sym, ap, ◌∙◌, ◌≢◌, true, false, cond, List, ℕ, suc, ◌+◌, ◌*◌, ◌≤◌, ◌<◌, arith, length, replicate, eq-eqb, ne_eqb}
use mathlib.Core.Path.{fun_ext}
use Rattle.model_base.proofs.Tests.{test, eq_test}
use Rattle.model_agent.specs.Message.{Message, Info, sent_to}
use Rattle.model_network.specs.Network.{posted}
use Rattle.model_base.specs.Sets.{members}
use Rattle.abt_packed.specs.Packed.{assignment}
use Rattle.abt_packed.proofs.Sets.{no-members}
use Rattle.abt_agent.specs.Posting.{news_to}
use Rattle.abt_record.specs.declared.Network.{Network}
use Rattle.abt_record.specs.Abstract.{is_channel, channel_at, ring, channel_of, problem_of, network_of}
use Rattle.abt_shape.proofs.Numbering.{ends}
use Rattle.abt_record.proofs.Zeros.{zero_row}
use Rattle.abt_record_laws.proofs.Rings.{ring-same}
use Rattle.abt_record_laws.proofs.Changes.{row_here, row-elsewhere}
use Rattle.abt_start.proofs.News.{sent-none, sent-one}
use Rattle.abt_start.proofs.Posting.{with_posts, Silent, with_row}
use Rattle.abt_start.proofs.Telling.{with_places, Telling}

module _ (m value all : ℕ) (o r : Network) (row told : ℕ) (T : Telling (suc m) value all o r row told) (done : told ≡ 0)
    (within : (j : ℕ) → is_channel (suc m) j ≡ false → 1 ≤ j → j ≤ 12 → members all j ≡ false)
    (counts : m < length o.counts) (heads : o.heads ≡ replicate 12 0) (silent : Silent (network_of o) (suc m)) where
  -- the network that it comes to
  abbrev after : Network
  after = with_row (with_places o r.places) m row

  -- what its row counts
  counted : (j : ℕ) → assignment row j ≡ cond (members all j) 1 0
  counted j = T.digits j ∙ rw (done, no-members j)

  -- one of its channels
  own-ring : (j : ℕ) → is_channel (suc m) j ≡ true → ring r.places (8 * channel_at (suc m) j) 0 (assignment row j) ≡ sent_to j (news_to value all)
  unfolding ring news_to
  own-ring j e =
      let b = ends (suc m) j e in
      let z : 8 * channel_at (suc m) j + 0 ≡ 8 * channel_at (suc m) j = omega arith in
      rw (counted j)
      (test (members all j)
      (λ t. rw (t, sent-one (Info value) (members all) j b.to_low b.to_high t) (rw (z, T.told-first j e t (rw done (no-members j)))))
      (λ t. rw (t, sent-none (Info value) (members all) j (λ _ _. t))))

  own-channel : (j : ℕ) → (network_of after).channel (suc m) j ≡ sent_to j (news_to value all)
  unfolding network_of channel_of news_to
  own-channel j =
      test (is_channel (suc m) j)
      (λ e. rw (e, network_of, heads, zero_row 12 (suc m) j, row_here o.counts m row counts) (own-ring j e))
      (λ e. rw (e, network_of) (sym (sent-none (Info value) (members all) j (within j e))))

  other-channel : (x j : ℕ) → x ≢ suc m → (network_of after).channel x j ≡ (network_of o).channel x j
  unfolding network_of channel_of
  other-channel x j n =
      test (is_channel x j)
      (λ e. rw (e, network_of, row-elsewhere o.counts m row x n) (ring-same r.places o.places _ _ _ (λ h. T.others x j h e n)))
      (λ e. rw (e, network_of))

  channels : (x j : ℕ) → (network_of after).channel x j ≡ posted (suc m) (news_to value all) (network_of o).channel x j
  unfolding posted
  channels x j =
      eq_test x (suc m)
      (λ q. rw (eq-eqb x (suc m) q, posted) (rw (q, silent j) (own-channel j)))
      (λ q. rw (ne_eqb x (suc m) q, posted) (other-channel x j q))

  pub all_told : network_of (with_row r m row) ≡ with_posts (network_of o) (suc m) (news_to value all)
  unfolding network_of with_posts problem_of
  all_told =
      ap (λ (q : Network). network_of (with_row q m row)) T.same
      ∙ ap (λ (channel : ℕ → ℕ → List Message). record {
        problem = (network_of o).problem;
        rule = (network_of o).rule;
        unsolvable = (network_of o).unsolvable;
        agents = (network_of o).agents;
        channel = channel;
      }) (fun_ext (λ x. fun_ext (channels x)))
