-- Every worked case of turning holds.
-- By computation, over the whole lists.
use Rattle.std.proofs.Common.{◌≡◌, refl, true}
use Rattle.model_base.specs.Finite.{at, within, lowest, from_one, all_to, each, every, gather, is_some}
use Rattle.model_base.specs.Bits.{bit, with_bit}
use Rattle.model_base.specs.Lent.{short_buffer, untouched, put}
use Rattle.model_base.specs.Same.{same_numbers, same_written}
use Rattle.model_sheet.specs.Problem.{max_agents, max_domain, max_pairs, domain, owns, pairs_before, word_at, bit_at, is_pair, banned, with_table, with_bits, with_bans, no_bans, count_in_range, domain_in_range}
use Rattle.model_sheet.specs.Row.{agents_good, values_good, signed, between, gaps_good, fields_good, row_good, gap, hits, with_row}
use Rattle.model_sheet.specs.Sheet.{fault_number, header_length, record_length, max_records, byte_at, word_from, agents_in, edition_in, first_in, records_in, domains_in, without_bans, header_good, record_start, row_at, row_of, next_of, record_good, walk, decode}
use Rattle.model_sheet.specs.Writing.{two_bytes, header_bytes, row_bytes, index_after, chained, written}
use Rattle.model_sheet.specs.Cases.{header, row, gap_header, minus, gap_row, garbage, one, twos, two_three}
use Rattle.model_editions.specs.Bans.{over_pairs, bans_with, bans_of, ban_rows}
use Rattle.model_editions.specs.Gaps.{gap_places, place_of, gap_byte, some_to, has_gap, banned_gap, free_gap, mixed_gap, sayable, begins, last_from, last_of, run_row, runs_of, gap_rows}
use Rattle.model_editions.specs.Turning.{not_sayable, decode_as, bans_from, gaps_from, ban_sheet, gap_sheet, put_turned, to_bans, to_gaps}
use Rattle.model_editions.specs.Cases.{made_as, refused_with, case_holds, threes, two_one_two, ones, six_gaps, six_bans, broken_gaps, broken_bans, low_gaps, low_bans, corner_gaps, corner_bans, empty_bans, empty_gaps, apart_bans, apart_gaps, mixed_bans, turned, refusals, cases, put_holds, sevens, rejection, puts}

pub cases-hold : every case_holds cases ≡ true
unfolding at within lowest from_one all_to each every gather is_some bit with_bit max_agents max_domain max_pairs domain owns pairs_before word_at bit_at is_pair banned with_table with_bits with_bans no_bans count_in_range domain_in_range agents_good values_good signed between gaps_good fields_good row_good gap hits with_row fault_number header_length record_length max_records byte_at word_from agents_in edition_in first_in records_in domains_in without_bans header_good record_start row_at row_of next_of record_good walk decode two_bytes header_bytes row_bytes index_after chained written same_numbers header row gap_header minus gap_row garbage one twos two_three over_pairs bans_with bans_of ban_rows gap_places place_of gap_byte some_to has_gap banned_gap free_gap mixed_gap sayable begins last_from last_of run_row runs_of gap_rows not_sayable decode_as bans_from gaps_from ban_sheet gap_sheet made_as refused_with case_holds threes two_one_two ones six_gaps six_bans broken_gaps broken_bans low_gaps low_bans corner_gaps corner_bans empty_bans empty_gaps apart_bans apart_gaps mixed_bans turned refusals cases
cases-hold = refl

pub puts-hold : every put_holds puts ≡ true
unfolding at within lowest from_one all_to each every gather is_some bit with_bit short_buffer untouched put max_agents max_domain max_pairs domain owns pairs_before word_at bit_at is_pair banned with_table with_bits with_bans no_bans count_in_range domain_in_range agents_good values_good signed between gaps_good fields_good row_good gap hits with_row fault_number header_length record_length max_records byte_at word_from agents_in edition_in first_in records_in domains_in without_bans header_good record_start row_at row_of next_of record_good walk decode two_bytes header_bytes row_bytes index_after chained written same_numbers header row gap_header minus gap_row twos two_three over_pairs bans_with bans_of ban_rows gap_places place_of gap_byte some_to has_gap banned_gap free_gap mixed_gap sayable begins last_from last_of run_row runs_of gap_rows not_sayable decode_as bans_from gaps_from ban_sheet gap_sheet put_turned to_bans to_gaps low_gaps low_bans empty_gaps mixed_bans same_written put_holds sevens rejection puts
puts-hold = refl
