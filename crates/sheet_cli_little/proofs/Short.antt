-- No little sheet has more than 120 bytes, so that none is refused for want of room.
-- Three scanners with two slots each have twelve pairs of slots; the slot counts are gone through.
use Rattle.std.proofs.Common.{ℕ, ◌≡◌, ◌≤◌, ◌<◌, true, ◌&&◌, List, length, refl, arith, leb, eqb, ltb, leb-true, eqb-true, ltb-true}
use Rattle.model_base.specs.Finite.{gather, every}
use Rattle.model_base.proofs.Tests.{test, both}
use Rattle.model_base.proofs.Lists.{All, All-map, every-all}
use Rattle.model_sheet.specs.Problem.{max_agents, domain}
use Rattle.model_sheet.specs.Sheet.{header_length, record_length}
use Rattle.model_sheet.proofs.Writing.{writes-length}
use Rattle.model_little.specs.Little.{little_count, most_agents, most_values, counts_of, sizes, bare, pairs_of, places, chosen, choice_from, sheet_of, little_sheet}
use Rattle.model_little.specs.Putting.{no_ordinal, put_little}
use Rattle.model_little.proofs.Problems.{of-all}
use Rattle.model_little.proofs.Subsets.{chosen-few}
use Rattle.model_little.proofs.Theorems.{listed}
use Rattle.support_cli.specs.Answers.{hands_over}
use Rattle.support_cli.proofs.Handing.{hands-put, hands-untouched}
use Rattle.sheet_cli_little.specs.Answers.{sheet_answer}

-- at most twelve pairs of slots, and twelve slot counts
record Few (ds : List ℕ) : Type 0 where
  pairs : length (places (bare ds)) ≤ 12
  counts : length (bare ds).domains ≡ 12

few-tests : every (λ ds. leb (length (places (bare ds))) 12 && eqb (length (bare ds).domains) 12) sizes ≡ true
unfolding every sizes gather most_agents counts_of most_values places bare max_agents pairs_of domain
few-tests = refl

all-few : All Few sizes
all-few =
    All-map _ _
    (λ ds e. let t = both (leb (length (places (bare ds))) 12) _ e in record { pairs = leb-true _ _ t.0; counts = eqb-true _ _ t.1 })
    sizes (every-all _ sizes few-tests)

little-short : (ordinal : ℕ) → ordinal < little_count → length (little_sheet ordinal) ≤ 120
unfolding little_sheet sheet_of header_length record_length max_agents
little-short ordinal h =
    let c = choice_from sizes ordinal in
    let few : Few c.counts = of-all Few c.counts sizes (listed ordinal h).counts all-few in
    let rows = chosen c.bans (places (bare c.counts)) in
    omega (arith, few.pairs, chosen-few c.bans (places (bare c.counts)), writes-length 1 (bare c.counts) rows few.counts)

pub hands-little : (ordinal : ℕ) (buffer : List ℕ) → 120 ≤ length buffer → hands_over (put_little ordinal buffer) ≡ sheet_answer ordinal
unfolding put_little sheet_answer no_ordinal
hands-little ordinal buffer room =
    test (ltb ordinal little_count)
    (λ t. let short = little-short ordinal (ltb-true ordinal little_count t) in
    rw (t, put_little, sheet_answer) (hands-put (little_sheet ordinal) buffer (omega arith)))
    (λ t. rw (t, put_little, sheet_answer) (hands-untouched 14 buffer (λ e. omega arith)))
