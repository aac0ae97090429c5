-- The worked pairs of networks, by computation.
use Rattle.std.proofs.Common.{refl}
use Rattle.model_base.specs.Finite.{at, from_one, within, lowest, highest, all_to, every, any, gather, is_some, each}
use Rattle.model_base.specs.Bits.{bit, with_bit}
use Rattle.model_base.specs.Same.{same_bool}
use Rattle.model_sheet.specs.Problem.{max_agents, max_domain, max_pairs, domain, owns, pairs_before, word_at, bit_at, is_pair, banned, linked, no_bans, count_in_range, domain_in_range, word_owned, bans_owned, sized, in_range, with_table, with_bits, with_bans}
use Rattle.model_sheet.specs.Sheet.{header_length, record_length, max_records, byte_at, word_from, agents_in, first_in, records_in, domains_in, without_bans, header_good, record_start, next_of, record_good, walk, decode, row_at, row_of, edition_in}
use Rattle.model_sheet.specs.Row.{agents_good, values_good, signed, between, gaps_good, fields_good, row_good, gap, hits, with_row}
use Rattle.model_sheet.specs.Writing.{two_bytes, header_bytes, row_bytes, index_after, chained, written}
use Rattle.model_agent.specs.Message.{known, nobody, sent_to}
use Rattle.model_agent.specs.Traffic.{no_counts, each_sort, each_count, of_sort, number, message_in, messages_in, top, raised, counting}
use Rattle.model_agent.specs.Agent.{no_nogoods, unused_agent, above, agrees}
use Rattle.model_agent.specs.Choosing.{bars, blame, only, blaming, reason_of, reason, choose, choice, quiet_rule, tells, info_to, infos, chosen, took, join, lhs_of, union, failed, refusing, drop_if, without, forget, after, settle, check_view}
use Rattle.model_agent.specs.Receiving.{quiet, keep_if, agreeing, updated, conflicts, on_info, matches, holds, unheard, add_link_to, add_links, accepting, on_back, react, counted, receive, fresh, begin}
use Rattle.model_agent.specs.Shape.{max_named}
use Rattle.model_agent.specs.Cases.{values, member, nogoods, same_set, same_assignment, same_nogood, by_sort, same_sorts, same_counts, same_agent, same_message, same_posts}
use Rattle.model_network.specs.Network.{self_of, bans_of, posted, with_step, with_channel, step_on, handed, begun, start_agent, start_channel, start, is_rule, started_on, start_sheet}
use Rattle.model_network.specs.Shape.{capacity, each_named, each_in, holds_value, last_fits, listens_upward, informs_downward, linked_listen, informed_listen, view_listened, nogood_fits, nogoods_fit, counts_fit, unused, agent_in_shape, lhs_fits, message_fits, has_room, one_request, channel_in_shape, in_shape}
use Rattle.model_network.specs.Delivery.{rejection_number, answer_number, is_accepted, rejecting, numbers_good, fits, deliver_head, deliver}
use Rattle.model_network.specs.Run.{is_empty, idle, visits, begin_round, stopped, is_no_room, passed_by, passed_over, counts, tally, skipped, attempt, sweep, round, finish, is_stuck, run_from, max_rounds, allowed, run}
use Rattle.model_network.specs.Nights.{padded, sheet_of, sheet, sheet5, sheet_shared, empty}
use Rattle.theorems_network.specs.Calls.{line_of, tries_of, tried_by, left_by, left_by_all, tried_by_all, attempt_of}
use Rattle.theorems_network.specs.Deeds.{head_from, handed_now, handed_to, posts_now, posts_by, handed_in, posts_in}
use Rattle.theorems_isolation.specs.Tenants.{room_on}
use Rattle.theorems_isolation.specs.Nights.{same_handed, same_bans, alike, acts_as, same_room, agree_in, only_first, pair_holds, AllHold, reached, sheet_doomed, sheet_full, turns, forged, nights}

pub nights-hold : AllHold nights
unfolding at from_one within lowest highest all_to every any gather is_some bit with_bit max_agents max_domain max_pairs domain owns pairs_before word_at bit_at is_pair banned linked no_bans count_in_range domain_in_range word_owned bans_owned sized in_range header_length record_length max_records byte_at word_from agents_in first_in records_in domains_in without_bans header_good record_start next_of record_good walk decode same_bool known nobody sent_to no_nogoods unused_agent above agrees bars blame only blaming reason_of reason choose choice quiet_rule tells info_to infos chosen took join lhs_of union failed refusing drop_if without forget after settle check_view quiet keep_if agreeing updated conflicts on_info matches holds unheard add_link_to add_links accepting on_back receive fresh begin max_named values member nogoods same_set same_assignment same_nogood same_agent same_message same_posts self_of bans_of posted with_step with_channel step_on handed begun start_agent start_channel start is_rule started_on start_sheet capacity each_named each_in holds_value last_fits listens_upward informs_downward linked_listen informed_listen view_listened nogood_fits nogoods_fit unused agent_in_shape lhs_fits message_fits has_room one_request channel_in_shape in_shape rejection_number answer_number is_accepted rejecting numbers_good fits deliver_head deliver is_empty idle visits begin_round stopped is_no_room passed_by passed_over counts tally skipped attempt sweep round finish is_stuck run_from max_rounds allowed run padded sheet sheet5 sheet_shared empty line_of tries_of tried_by left_by left_by_all tried_by_all attempt_of head_from handed_now handed_to posts_now posts_by handed_in posts_in room_on same_handed same_bans alike acts_as same_room agree_in only_first pair_holds reached sheet_doomed sheet_full turns forged nights each with_table with_bits with_bans row_at row_of edition_in agents_good values_good signed between gaps_good fields_good row_good gap hits with_row two_bytes header_bytes row_bytes index_after chained written sheet_of no_counts each_sort each_count of_sort number message_in messages_in top raised counting react counted by_sort same_sorts same_counts counts_fit
nights-hold = (refl, (refl, (refl, (refl, tt))))
