-- Every worked case of the sheet's checks holds.
-- By computation, over the whole list.
use Rattle.std.proofs.Common.{◌≡◌, refl, true}
use Rattle.model_base.specs.Finite.{at, within, all_to, each, every}
use Rattle.model_base.specs.Bits.{bit, with_bit}
use Rattle.model_base.specs.Same.{same_bool, same_numbers}
use Rattle.model_sheet.specs.Problem.{max_agents, max_domain, max_pairs, domain, owns, pairs_before, word_at, bit_at, is_pair, banned, linked, with_table, with_bits, with_bans, no_bans, count_in_range, domain_in_range}
use Rattle.model_sheet.specs.Row.{agents_good, values_good, signed, between, gaps_good, fields_good, row_good, gap, hits, row_bans, with_row, rows_ban}
use Rattle.model_sheet.specs.Sheet.{fault_number, header_length, record_length, max_records, byte_at, word_from, agents_in, edition_in, first_in, records_in, domains_in, without_bans, header_good, record_start, row_at, row_of, next_of, record_good, walk, decode}
use Rattle.model_sheet.specs.Writing.{two_bytes, header_bytes, row_bytes}
use Rattle.model_sheet.specs.Cases.{bans_are, rejected_with, read_as, same_problem, same_decoded, apart, case_holds, header, row, gap_header, minus, gap_row, garbage, one, twos, eights, two_three, plain, single, chain, far, rejections, readings, gap_rejections, gap_readings, cases}

pub cases-hold : every case_holds cases ≡ true
unfolding at within all_to each every bit with_bit max_agents max_domain max_pairs domain owns pairs_before word_at bit_at is_pair banned linked with_table with_bits with_bans no_bans count_in_range domain_in_range agents_good values_good signed between gaps_good fields_good row_good gap hits row_bans with_row rows_ban fault_number header_length record_length max_records byte_at word_from agents_in edition_in first_in records_in domains_in without_bans header_good record_start row_at row_of next_of record_good walk decode two_bytes header_bytes row_bytes same_numbers same_bool bans_are rejected_with read_as same_problem same_decoded apart case_holds header row gap_header minus gap_row garbage one twos eights two_three plain single chain far rejections readings gap_rejections gap_readings cases
cases-hold = refl
