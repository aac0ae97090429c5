-- P1 to P9, each whole, computed from the definitions. Assumes nothing.
use Rattle.std.proofs.Common.{refl}
use Rattle.model_base.specs.Finite.{at, from_one, within, lowest, highest, all_to, every, any, gather, is_some, each}
use Rattle.model_base.specs.Bits.{bit, with_bit}
use Rattle.model_sheet.specs.Problem.{max_agents, max_domain, max_pairs, domain, owns, pairs_before, word_at, bit_at, is_pair, banned, linked, no_bans, count_in_range, domain_in_range, word_owned, bans_owned, sized, in_range, empty_problem, with_table, with_bits, with_bans}
use Rattle.model_sheet.specs.Sheet.{fault_number, header_length, record_length, max_records, byte_at, word_from, agents_in, first_in, records_in, domains_in, without_bans, header_good, record_start, next_of, record_good, walk, decode, row_at, row_of, edition_in}
use Rattle.model_base.specs.Same.{same_bool, same_numbers}
use Rattle.model_agent.specs.Message.{known, nobody, sent_to}
use Rattle.model_agent.specs.Traffic.{no_counts, each_sort, each_count, of_sort, number, message_in, messages_in, top, raised, counting}
use Rattle.model_agent.specs.Agent.{no_nogoods, unused_agent, above, agrees}
use Rattle.model_agent.specs.Choosing.{bars, blame, only, blaming, reason_of, reason, choose, choice, quiet_rule, no_refuser, tells, info_to, infos, chosen, took, join, lhs_of, union, failed, refusing, drop_if, without, forget, after, settle, check_view}
use Rattle.model_agent.specs.Receiving.{quiet, answer, keep_if, agreeing, updated, conflicts, on_info, matches, holds, unheard, add_link_to, add_links, accepting, outdated, on_back, informing, on_add_link, react, counted, receive, fresh, begin}
use Rattle.model_agent.specs.Shape.{max_named}
use Rattle.model_agent.specs.Cases.{values, same_assignment, same_message, member, nogoods, same_set, same_nogood, by_sort, same_sorts, same_counts, same_agent}
use Rattle.model_network.specs.Network.{empty_network, self_of, bans_of, posted, with_step, with_channel, step_on, handed, begun, start_agent, start_channel, start, is_rule, bad_rule, started_on, start_sheet}
use Rattle.model_network.specs.Shape.{capacity, each_named, each_in, holds_value, last_fits, listens_upward, informs_downward, linked_listen, informed_listen, view_listened, nogood_fits, nogoods_fit, counts_fit, unused, agent_in_shape, lhs_fits, message_fits, has_room, one_request, channel_in_shape, in_shape}
use Rattle.model_network.specs.Delivery.{rejection_number, answer_number, is_accepted, rejecting, numbers_good, fits, deliver_head, deliver, ask_value}
use Rattle.model_network.specs.Run.{is_line, is_empty, idle, visits, begin_round, stopped, is_no_room, passed_by, passed_over, counts, tally, skipped, attempt, sweep, round, is_full, ending_number, ending_word, ending_at, finish, is_stuck, one_if, run_from, max_rounds, allowed, run}
use Rattle.model_network.specs.Nights.{padded, sheet, same_messages, asked, ran_as, tries_in, tries_of, holds_from, sheet1, sheet2, sheet3, sheet4, sheet5, sheet9, sheet_order, empty, sheet_of, sheet_shared, told1, told2, crowded}
use Rattle.model_sheet.specs.Writing.{two_bytes, header_bytes, row_bytes, index_after, chained, written}
use Rattle.model_sheet.specs.Row.{agents_good, values_good, signed, between, gaps_good, fields_good, row_good, gap, hits, with_row}
use Rattle.model_base.specs.Decimal.{last_decimals, decimal, newline, line_of}
use Rattle.abt_dock_text.specs.Settling.{program_rule, program_rounds, settled}
use Rattle.abt_dock_text.specs.Text.{sheet_refused, verdict, rounds, scanner, slot, slot_line, slot_lines, plan_lines, ran_text, settled_text, dock_text}
use Rattle.promises.specs.Nights.{marked_nights, nine_text, MarkedNights}

pub marked-nights : MarkedNights
unfolding at from_one within lowest highest all_to every any gather is_some bit with_bit max_agents max_domain max_pairs domain owns pairs_before word_at bit_at is_pair banned linked no_bans count_in_range domain_in_range word_owned bans_owned sized in_range empty_problem fault_number header_length record_length max_records byte_at word_from agents_in first_in records_in domains_in without_bans header_good record_start next_of record_good walk decode same_numbers two_bytes known nobody sent_to no_nogoods unused_agent above agrees bars blame only blaming reason_of reason choose choice quiet_rule no_refuser tells info_to infos chosen took join lhs_of union failed refusing drop_if without forget after settle check_view quiet answer keep_if agreeing updated conflicts on_info matches holds unheard add_link_to add_links accepting outdated on_back informing on_add_link receive fresh begin max_named values same_assignment same_message empty_network self_of bans_of posted with_step with_channel step_on handed begun start_agent start_channel start is_rule bad_rule started_on start_sheet capacity each_named each_in holds_value last_fits listens_upward informs_downward linked_listen informed_listen view_listened nogood_fits nogoods_fit unused agent_in_shape lhs_fits message_fits has_room one_request channel_in_shape in_shape rejection_number answer_number is_accepted rejecting numbers_good fits deliver_head deliver ask_value is_line is_empty idle visits begin_round stopped is_no_room passed_by passed_over counts tally skipped attempt sweep round is_full ending_number ending_word ending_at finish is_stuck one_if run_from max_rounds allowed run padded sheet same_messages asked ran_as tries_in tries_of holds_from sheet1 sheet2 sheet3 sheet4 sheet5 sheet9 sheet_order empty marked_nights with_table row_at row_of agents_good values_good row_good with_row header_bytes row_bytes index_after chained written each with_bits with_bans edition_in signed between gaps_good fields_good gap hits sheet_of same_bool member nogoods same_set same_nogood same_agent sheet_shared told1 told2 crowded no_counts each_sort each_count of_sort number message_in messages_in top raised counting react counted counts_fit by_sort same_sorts same_counts last_decimals decimal newline line_of program_rule program_rounds settled sheet_refused verdict rounds scanner slot slot_line slot_lines plan_lines ran_text settled_text dock_text nine_text
marked-nights = record { played = (refl, (refl, (refl, (refl, (refl, (refl, (refl, (refl, tt)))))))); printed = refl }
