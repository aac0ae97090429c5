-- Every worked text and sheet is as the definitions have it.
-- By computation, over the whole lists.
use Rattle.std.proofs.Common.{refl}
use Rattle.model_base.specs.Finite.{at, within, all_to, each, every, gather}
use Rattle.model_base.specs.Bits.{bit, with_bit}
use Rattle.model_sheet.specs.Problem.{max_agents, max_domain, max_pairs, domain, owns, pairs_before, word_at, bit_at, with_table, with_bits, with_bans, no_bans, count_in_range, domain_in_range, empty_problem}
use Rattle.model_sheet.specs.Row.{agents_good, values_good, signed, between, gaps_good, fields_good, row_good, gap, hits, with_row}
use Rattle.model_sheet.specs.Sheet.{fault_number, header_length, record_length, max_records, byte_at, word_from, agents_in, edition_in, first_in, records_in, domains_in, without_bans, header_good, record_start, row_at, row_of, next_of, record_good, walk, decode}
use Rattle.model_sheet.specs.Chain.{chain_from, rows_in}
use Rattle.model_sheet.specs.Writing.{two_bytes, header_bytes, row_bytes, index_after, chained, written}
use Rattle.model_base.specs.Same.{same_numbers}
use Rattle.model_sheet.specs.Cases.{header, row, gap_header, minus, gap_row, garbage, one, twos, eights, two_three, plain}
use Rattle.model_base.specs.Numerals.{is_digit, value_from, top, is_number}
use Rattle.model_base.specs.Decimal.{last_decimals, decimal, newline, line_of}
use Rattle.model_text.specs.Words.{is_newline, is_return, is_blank, is_hash, is_colon, is_minus, first_at, count_of, on_first, pieces_of, filled, lines_of, whole_lines, without_return, without_comment, words_of, is_numeral, numeral, before_colon, behind_colon, is_place, has_minus, without_minus, is_signed, signed_numeral}
use Rattle.model_text.specs.Statements.{slots_word, ban_word, gap_word, argument, slots_said, ban_of, ban_said, gap_of, gap_said, words_say, line_says}
use Rattle.model_text.specs.Drafts.{no_draft, begun, with_slots, with_record, ban_record, gap_byte, gap_record, tested, is_agent, slots_tests, pair_tests, room_tests, ban_tests, is_gap, gap_tests, with_statement, with_said, with_line}
use Rattle.model_text.specs.Reading.{longest_text, edition_of, sheet_from, at_end, read_lines, read_from, sheet_of}
use Rattle.model_text.specs.Telling.{blank, colon, dash, figure, place, signed_figure, slots_line, ban_line, gap_line, row_line, row_lines, text_from, told_from, text_of}
use Rattle.model_text.specs.Faults.{line_word, colon_word, no_agent, of_agent, no_value, fault_words, rejection_text}
use Rattle.model_text.specs.Printing.{refused_word, outcome_printed, told_printed, sheet_printed, text_printed}
use Rattle.model_text.specs.Cases.{TextsRead, RecordsEnd, FaultsSaid, SheetsTold, AllPrinted, bytes, outcome_of, expected_of, sheets, unclear, faults, broken, cases, drafted, fullest, told_of, due_of, tellings, printed}

pub texts-read : TextsRead
unfolding within every max_agents max_domain max_pairs domain owns no_bans empty_problem between max_records two_bytes header_bytes row_bytes index_after chained written same_numbers header row gap_header minus gap_row one twos eights two_three plain is_digit value_from top is_number is_newline is_return is_blank is_hash is_colon is_minus first_at count_of on_first pieces_of filled lines_of whole_lines without_return without_comment words_of is_numeral numeral before_colon behind_colon is_place has_minus without_minus is_signed signed_numeral slots_word ban_word gap_word argument slots_said ban_of ban_said gap_of gap_said words_say line_says no_draft begun with_slots with_record ban_record gap_byte gap_record tested is_agent slots_tests pair_tests room_tests ban_tests is_gap gap_tests with_statement with_said with_line longest_text edition_of sheet_from at_end read_lines read_from sheet_of bytes outcome_of expected_of sheets unclear faults broken cases
texts-read = refl

pub records-end : RecordsEnd
unfolding within every max_agents max_domain max_pairs domain owns no_bans empty_problem between max_records no_draft begun with_slots with_record ban_record gap_byte gap_record tested is_agent slots_tests pair_tests room_tests ban_tests is_gap gap_tests with_statement drafted fullest
records-end = refl

pub faults-said : FaultsSaid
unfolding last_decimals decimal newline line_word colon_word no_agent of_agent no_value fault_words rejection_text bytes
faults-said = (refl, refl, refl, refl, refl, refl, refl, refl, refl, refl, refl, refl, refl, refl)

pub sheets-told : SheetsTold
unfolding at within all_to each gather bit with_bit max_agents max_domain max_pairs domain owns pairs_before word_at bit_at with_table with_bits with_bans no_bans count_in_range domain_in_range agents_good values_good signed between gaps_good fields_good row_good gap hits with_row fault_number header_length record_length max_records byte_at word_from agents_in edition_in first_in records_in domains_in without_bans header_good record_start row_at row_of next_of record_good walk decode chain_from rows_in two_bytes header_bytes row_bytes header row gap_header minus gap_row garbage one twos eights two_three plain last_decimals decimal newline slots_word ban_word gap_word blank colon dash figure place signed_figure slots_line ban_line gap_line row_line row_lines text_from told_from text_of bytes told_of due_of tellings
sheets-told = refl

pub all-printed : AllPrinted
unfolding at within all_to each every gather bit with_bit max_agents max_domain max_pairs domain owns pairs_before word_at bit_at with_table with_bits with_bans no_bans count_in_range domain_in_range empty_problem agents_good values_good signed between gaps_good fields_good row_good gap hits with_row fault_number header_length record_length max_records byte_at word_from agents_in edition_in first_in records_in domains_in without_bans header_good record_start row_at row_of next_of record_good walk decode chain_from rows_in two_bytes header_bytes row_bytes index_after chained written same_numbers header one plain is_digit value_from top is_number last_decimals decimal newline line_of is_newline is_return is_blank is_hash is_colon is_minus first_at count_of on_first pieces_of filled lines_of whole_lines without_return without_comment words_of is_numeral numeral before_colon behind_colon is_place has_minus without_minus is_signed signed_numeral slots_word ban_word gap_word argument slots_said ban_of ban_said gap_of gap_said words_say line_says no_draft begun with_slots with_record ban_record gap_byte gap_record tested is_agent slots_tests pair_tests room_tests ban_tests is_gap gap_tests with_statement with_said with_line longest_text edition_of sheet_from at_end read_lines read_from sheet_of blank colon dash figure place signed_figure slots_line ban_line gap_line row_line row_lines text_from told_from text_of line_word colon_word no_agent of_agent no_value fault_words rejection_text refused_word outcome_printed told_printed sheet_printed text_printed bytes printed
all-printed = refl
