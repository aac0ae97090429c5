-- Further worked nights of the dispatcher, by computation.
use Rattle.std.proofs.Common.{refl}
use Rattle.model_base.specs.Finite.{at, from_one, within, lowest, highest, all_to, every, gather, is_some, each}
use Rattle.model_base.specs.Bits.{bit, with_bit}
use Rattle.model_sheet.specs.Problem.{max_agents, max_domain, max_pairs, domain, owns, pairs_before, word_at, bit_at, is_pair, banned, linked, no_bans, count_in_range, domain_in_range, word_owned, bans_owned, sized, in_range, with_table, with_bits, with_bans}
use Rattle.model_sheet.specs.Sheet.{header_length, record_length, max_records, byte_at, word_from, agents_in, first_in, records_in, domains_in, without_bans, header_good, record_start, next_of, record_good, walk, decode, row_at, row_of, edition_in}
use Rattle.model_agent.specs.Message.{known, nobody, sent_to}
use Rattle.model_agent.specs.Traffic.{no_counts, each_sort, each_count, of_sort, number, message_in, messages_in, top, raised, counting}
use Rattle.model_agent.specs.Agent.{no_nogoods, unused_agent, above}
use Rattle.model_agent.specs.Choosing.{bars, blame, only, blaming, reason_of, reason, choose, choice, quiet_rule, tells, info_to, infos, chosen, took, join, lhs_of, union, failed, refusing, drop_if, without, forget, after, settle, check_view}
use Rattle.model_agent.specs.Receiving.{quiet, agreeing, updated, conflicts, on_info, holds, unheard, add_links, accepting, outdated, on_back, react, counted, receive, fresh, begin}
use Rattle.model_agent.specs.Shape.{max_named}
use Rattle.model_agent.specs.Cases.{values}
use Rattle.model_network.specs.Network.{self_of, bans_of, posted, with_step, with_channel, step_on, handed, begun, start_agent, start_channel, start, is_rule, started_on, start_sheet}
use Rattle.model_network.specs.Shape.{capacity, each_named, each_in, holds_value, last_fits, listens_upward, informs_downward, linked_listen, informed_listen, view_listened, nogood_fits, nogoods_fit, counts_fit, unused, agent_in_shape, lhs_fits, message_fits, has_room, one_request, channel_in_shape, in_shape}
use Rattle.model_network.specs.Delivery.{rejection_number, answer_number, is_accepted, rejecting, numbers_good, fits, deliver_head, deliver}
use Rattle.model_network.specs.Run.{is_line, is_empty, idle}
use Rattle.model_network.specs.Nights.{padded, sheet, sheet2, sheet5, empty, sheet_of, crowded}
use Rattle.model_sheet.specs.Writing.{two_bytes, header_bytes, row_bytes, index_after, chained, written}
use Rattle.model_sheet.specs.Row.{agents_good, values_good, fields_good, row_good, hits, with_row}
use Rattle.model_dispatch.specs.Dispatch.{lines_from, lines, behind, up_to, turn, deliverable, first_of, is_odd, meets, refusing as refusing', serving, evenly, chosen as chosen', pick, dispatcher}
use Rattle.model_dispatch.specs.Nights.{AllHold, is_served, holds_from, three}
use Rattle.model_cases.specs.Dispatched.{three_at, two, misshapen, dispatched_nights}

pub dispatched-nights-hold : AllHold dispatched_nights
unfolding at from_one within lowest highest all_to every gather is_some each bit with_bit max_agents max_domain max_pairs domain owns pairs_before word_at bit_at is_pair banned linked no_bans count_in_range domain_in_range word_owned bans_owned sized in_range with_table with_bits with_bans header_length record_length max_records byte_at word_from agents_in first_in records_in domains_in without_bans header_good record_start next_of record_good walk decode row_at row_of edition_in known nobody sent_to no_counts each_sort each_count of_sort number message_in messages_in top raised counting no_nogoods unused_agent above bars blame only blaming reason_of reason choose choice quiet_rule tells info_to infos chosen took join lhs_of union failed refusing drop_if without forget after settle check_view quiet agreeing updated conflicts on_info holds unheard add_links accepting outdated on_back react counted receive fresh begin max_named values self_of bans_of posted with_step with_channel step_on handed begun start_agent start_channel start is_rule started_on start_sheet capacity each_named each_in holds_value last_fits listens_upward informs_downward linked_listen informed_listen view_listened nogood_fits nogoods_fit counts_fit unused agent_in_shape lhs_fits message_fits has_room one_request channel_in_shape in_shape rejection_number answer_number is_accepted rejecting numbers_good fits deliver_head deliver is_line is_empty idle padded sheet sheet2 sheet5 empty sheet_of crowded two_bytes header_bytes row_bytes index_after chained written agents_good values_good fields_good row_good hits with_row lines_from lines behind up_to turn deliverable first_of is_odd meets refusing' serving evenly chosen' pick dispatcher is_served holds_from three three_at two misshapen dispatched_nights
dispatched-nights-hold = (refl, (refl, (refl, (refl, (refl, (refl, (refl, (refl, (refl, (refl, (refl, (refl, (refl, (refl, (refl, (refl, (refl, (refl, (refl, (refl, (refl, tt)))))))))))))))))))))
