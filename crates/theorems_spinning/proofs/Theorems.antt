-- The claims on the list that spins: by computation, and by the two files before.
use Rattle.std.proofs.Common.{ℕ, zero, suc, ◌*◌, ◌≡◌, refl, arith, length}
use Rattle.model_base.specs.Finite.{at, from_one, within, all_to, every, any, gather, is_some, each, greatest}
use Rattle.model_base.specs.Bits.{bit, with_bit}
use Rattle.model_sheet.specs.Problem.{max_agents, max_domain, max_pairs, domain, owns, pairs_before, word_at, bit_at, is_pair, no_bans, with_table, with_bits, with_bans, count_in_range, domain_in_range, largest_domain}
use Rattle.model_sheet.specs.Sheet.{header_length, record_length, max_records, byte_at, word_from, agents_in, first_in, records_in, domains_in, without_bans, header_good, record_start, next_of, record_good, walk, decode, row_at, row_of, edition_in}
use Rattle.model_sheet.specs.Row.{agents_good, values_good, gaps_good, fields_good, row_good, hits, with_row}
use Rattle.model_sheet.specs.Writing.{two_bytes, header_bytes, row_bytes, index_after, chained, written}
use Rattle.model_network.specs.Nights.{padded, sheet_of, sheet}
use Rattle.theorems_network.specs.Claims.{most_rounds}
use Rattle.theorems_spinning.specs.Spinning.{sheet_spinning, three, turns, spinning}
use Rattle.theorems_spinning.specs.Claims.{OfASheet, AllAccepted, NoFullRound, PassesTheBound, DeliveriesUnbounded}
use Rattle.theorems_spinning.proofs.Turning.{rule-good, three-in-range, all-accepted}
use Rattle.theorems_spinning.proofs.Rounds.{no-full-round}

pub of-a-sheet : OfASheet
unfolding at from_one within all_to every any gather is_some each bit with_bit max_agents max_domain max_pairs domain owns pairs_before word_at bit_at is_pair no_bans with_table with_bits with_bans header_length record_length max_records byte_at word_from agents_in first_in records_in domains_in without_bans header_good record_start next_of record_good walk decode row_at row_of edition_in agents_good values_good gaps_good fields_good row_good hits with_row two_bytes header_bytes row_bytes index_after chained written padded sheet_of sheet sheet_spinning three count_in_range domain_in_range
of-a-sheet = refl

pub spins : AllAccepted
spins = all-accepted

pub never-full : NoFullRound
never-full = no-full-round

two-a-turn : (k : ℕ) → length (turns k) ≡ 2 * k
unfolding turns
two-a-turn zero = refl
two-a-turn (suc k) = let e = two-a-turn k in omega arith

pub passes-the-bound : PassesTheBound
unfolding most_rounds largest_domain greatest domain three spinning
passes-the-bound = (refl, (let e = two-a-turn 1536 in omega arith))

pub deliveries-unbounded : DeliveriesUnbounded
deliveries-unbounded b =
    let few = b 1 rule-good three three-in-range (spinning 1536) (all-accepted 1536) in
    let p = passes-the-bound in
    omega (arith, few, p.0, p.1)
