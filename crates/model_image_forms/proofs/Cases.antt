-- P9's image after three rounds in both forms, by computation: it is the one worked out by hand, each form is made into the other, both are read, and
-- bytes close to them are refused. The lines `unfolding` name what the definitions reach.
use Rattle.std.proofs.Common.{◌≡◌, refl, ◌∙◌, true, eqb}
use Rattle.model_base.specs.Same.{same_numbers}
use Rattle.model_base.specs.Finite.{at, from_one, within, lowest, highest, all_to, every, any, gather, sum, is_some, each}
use Rattle.model_base.specs.Bits.{bit, with_bit}
use Rattle.model_sheet.specs.Problem.{max_agents, max_domain, max_pairs, domain, owns, pairs_before, word_at, bit_at, is_pair, banned, linked, no_bans, count_in_range, domain_in_range, word_owned, bans_owned, sized, in_range, empty_problem, with_table, with_bits, with_bans}
use Rattle.model_sheet.specs.Sheet.{fault_number, header_length, record_length, max_records, byte_at, word_from, agents_in, first_in, records_in, domains_in, without_bans, header_good, record_start, next_of, record_good, walk, decode, row_at, row_of, edition_in}
use Rattle.model_agent.specs.Message.{known, nobody, sent_to}
use Rattle.model_agent.specs.Traffic.{no_counts, each_sort, each_count, of_sort, number, message_in, messages_in, top, raised, counting}
use Rattle.model_agent.specs.Agent.{no_nogoods, unused_agent, above, agrees}
use Rattle.model_agent.specs.Choosing.{bars, blame, only, blaming, reason_of, reason, choose, choice, quiet_rule, no_refuser, tells, info_to, infos, chosen, took, join, lhs_of, union, failed, refusing, drop_if, without, forget, after, settle, check_view}
use Rattle.model_agent.specs.Receiving.{quiet, answer, keep_if, agreeing, updated, conflicts, on_info, matches, holds, unheard, add_link_to, add_links, accepting, outdated, on_back, informing, on_add_link, react, counted, receive, fresh, begin}
use Rattle.model_agent.specs.Shape.{max_named}
use Rattle.model_network.specs.Network.{empty_network, self_of, bans_of, posted, with_step, with_channel, step_on, handed, begun, start_agent, start_channel, start, is_rule, bad_rule, started_on, start_sheet}
use Rattle.model_network.specs.Shape.{capacity, each_named, each_in, holds_value, last_fits, listens_upward, informs_downward, linked_listen, informed_listen, view_listened, nogood_fits, nogoods_fit, counts_fit, unused, agent_in_shape, lhs_fits, message_fits, has_room, one_request, channel_in_shape, in_shape}
use Rattle.model_network.specs.Delivery.{rejection_number, rejecting, numbers_good, fits, deliver_head, deliver}
use Rattle.model_network.specs.Run.{is_line, is_empty, idle, visits, begin_round, stopped, is_no_room, passed_by, passed_over, counts, tally, skipped, attempt, sweep, round, is_full, ending_at, finish, is_stuck, one_if, run_from, max_rounds, allowed, run}
use Rattle.model_network.specs.Nights.{sheet9}
use Rattle.model_sheet.specs.Row.{agents_good, values_good, signed, between, gaps_good, fields_good, row_good, gap, hits, with_row}
use Rattle.model_base.specs.Sets.{members, mask_from}
use Rattle.model_image.specs.Bytes.{bytes_of, number_in, stretch}
use Rattle.model_image.specs.Image.{slots, byte_for, first_form, header_bytes as header_bytes', ban_bytes, mask_bytes, reason_bytes, count_bytes, agent_bytes, all_lines, number_after, heads_from, no_slots, message_bytes, chain_from, messages_from, image}
use Rattle.model_image.specs.Reading.{header_length as header_length', bans_length, agent_length, heads_length, message_length, agents_start, heads_start, messages_start, slots_in, reason_in, counts_in, reasons_in, agent_in, ban_place, ban_in, bans_in, problem_in, message_in as message_in', next_in, chain_in, line_in, lines_in, line_count, channel_in, agents_in as agents_in', parse, bad_image, is_image, load_first}
use Rattle.model_network.specs.Lines.{is_channel, channel_at}
use Rattle.model_image.specs.Cases.{zeros, small as eight, bans9}
use Rattle.model_image_forms.specs.Places.{by_place, each_record}
use Rattle.model_image_forms.specs.Packing.{front_length, packed_length, packed, unpacked}
use Rattle.model_image_forms.specs.Forms.{second_form, agents_in as agents_in'', rearranged, packed_messages, unpacked_messages, small, large, form_of}
use Rattle.model_image_forms.specs.Reading.{is_small, load_second, load_as, load}
use Rattle.model_image_forms.specs.Moving.{moved}
use Rattle.model_image_forms.specs.Cases.{network9, front9, heads9, agent1, agent2, agent3, messages9, large9, held9, views9, reasons9, counts9, packed9, small9, no_images9}
use Rattle.model_image_forms.proofs.Theorems.{moves-back, moved-from-first, moved-from-second}

pub written-nine : image network9 ≡ large9
unfolding at within lowest highest all_to every any gather is_some each bit with_bit max_agents max_domain max_pairs domain owns pairs_before word_at bit_at is_pair banned linked no_bans count_in_range domain_in_range word_owned bans_owned sized in_range empty_problem with_table with_bits with_bans fault_number header_length record_length max_records byte_at word_from agents_in first_in records_in domains_in without_bans header_good record_start next_of record_good walk decode row_at row_of edition_in known nobody sent_to no_counts each_sort each_count of_sort number message_in messages_in top raised counting no_nogoods unused_agent above agrees bars blame only blaming reason_of reason choose choice quiet_rule no_refuser tells info_to infos chosen took join lhs_of union failed refusing drop_if without forget after settle check_view quiet answer keep_if agreeing updated conflicts on_info matches holds unheard add_link_to add_links accepting outdated on_back informing on_add_link react counted receive fresh begin max_named empty_network self_of bans_of posted with_step with_channel step_on handed begun start_agent start_channel start is_rule bad_rule started_on start_sheet capacity each_named each_in holds_value last_fits listens_upward informs_downward linked_listen informed_listen view_listened nogood_fits nogoods_fit counts_fit unused agent_in_shape lhs_fits message_fits has_room one_request channel_in_shape in_shape rejection_number rejecting numbers_good fits deliver_head deliver is_line is_empty idle visits begin_round stopped is_no_room passed_by passed_over counts tally skipped attempt sweep round is_full ending_at finish is_stuck one_if run_from max_rounds allowed run sheet9 agents_good values_good signed between gaps_good fields_good row_good gap hits with_row mask_from bytes_of slots byte_for first_form header_bytes' ban_bytes mask_bytes reason_bytes count_bytes agent_bytes all_lines number_after heads_from no_slots message_bytes chain_from messages_from image zeros eight bans9 front9 heads9 agent1 agent2 agent3 messages9 large9 network9
written-nine = refl

pub small-nine : small large9 ≡ small9
unfolding by_place each_record front_length packed_length packed unpacked second_form agents_in'' rearranged packed_messages unpacked_messages small large gather stretch first_form header_length' bans_length agent_length heads_length message_length agents_start heads_start messages_start agent1 agent2 agent3 bans9 counts9 eight front9 heads9 held9 large9 messages9 packed9 reasons9 small9 views9 zeros
small-nine = refl

pub large-nine : large small9 ≡ large9
unfolding by_place each_record front_length packed_length packed unpacked second_form agents_in'' rearranged packed_messages unpacked_messages small large gather stretch first_form header_length' bans_length agent_length heads_length message_length agents_start heads_start messages_start agent1 agent2 agent3 bans9 counts9 eight front9 heads9 held9 large9 messages9 packed9 reasons9 small9 views9 zeros
large-nine = refl

pub read-large : (load large9).number ≡ 0
unfolding from_one within all_to every gather is_some bit max_agents max_domain max_pairs domain owns pairs_before word_at bit_at is_pair linked no_bans count_in_range domain_in_range word_owned bans_owned sized in_range empty_problem known nobody no_counts each_sort each_count top no_nogoods unused_agent max_named empty_network is_rule capacity each_named each_in holds_value last_fits listens_upward informs_downward linked_listen informed_listen view_listened nogood_fits nogoods_fit counts_fit unused agent_in_shape lhs_fits message_fits has_room one_request channel_in_shape in_shape mask_from bytes_of slots byte_for first_form header_bytes' ban_bytes mask_bytes reason_bytes count_bytes agent_bytes all_lines number_after heads_from no_slots message_bytes chain_from messages_from image header_length' bans_length agent_length heads_length message_length agents_start heads_start messages_start slots_in reason_in counts_in reasons_in agent_in ban_place ban_in bans_in problem_in message_in' next_in chain_in line_in lines_in line_count channel_in agents_in' parse bad_image is_image load_first number_in stretch same_numbers is_channel channel_at members sum number of_sort zeros eight bans9 front9 heads9 agent1 agent2 agent3 messages9 large9 form_of is_small load_second load_as load second_form
read-large = refl

-- each is moved to the other

moved-large : moved large9 ≡ small9
unfolding form_of second_form zeros eight bans9 front9 agent1 agent2 agent3 heads9 messages9 large9
moved-large = moved-from-first large9 refl read-large ∙ small-nine

pub read_small : (load small9).number ≡ 0
read_small = rw moved-large at (moves-back large9 read-large).0

moved-small : moved small9 ≡ large9
unfolding form_of second_form zeros eight bans9 front9 held9 views9 reasons9 counts9 heads9 packed9 small9
moved-small = moved-from-second small9 refl read_small ∙ large-nine

pub moved-nine : (moved large9 ≡ small9) × (moved small9 ≡ large9)
moved-nine = (moved-large, moved-small)

pub none_read : every (λ s. eqb (load s).number 13) no_images9 ≡ true
unfolding from_one within all_to every gather is_some bit max_agents max_domain max_pairs domain owns pairs_before word_at bit_at is_pair linked no_bans count_in_range domain_in_range word_owned bans_owned sized in_range empty_problem known nobody no_counts each_sort each_count top no_nogoods unused_agent max_named empty_network is_rule capacity each_named each_in holds_value last_fits listens_upward informs_downward linked_listen informed_listen view_listened nogood_fits nogoods_fit counts_fit unused agent_in_shape lhs_fits message_fits has_room one_request channel_in_shape in_shape mask_from bytes_of slots byte_for first_form header_bytes' ban_bytes mask_bytes reason_bytes count_bytes agent_bytes all_lines number_after heads_from no_slots message_bytes chain_from messages_from image header_length' bans_length agent_length heads_length message_length agents_start heads_start messages_start slots_in reason_in counts_in reasons_in agent_in ban_place ban_in bans_in problem_in message_in' next_in chain_in line_in lines_in line_count channel_in agents_in' parse bad_image is_image load_first number_in stretch same_numbers is_channel channel_at members sum number of_sort agent1 agent2 agent3 bans9 counts9 eight front9 heads9 held9 large9 messages9 packed9 reasons9 small9 views9 zeros form_of is_small load_second load_as load by_place each_record front_length packed_length packed unpacked second_form agents_in'' rearranged packed_messages unpacked_messages small large no_images9
none_read = refl
