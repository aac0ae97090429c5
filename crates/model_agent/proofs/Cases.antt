-- The single steps, by computation.
use Rattle.std.proofs.Common.{◌≡◌, refl, true}
use Rattle.model_base.specs.Finite.{at, from_one, lowest, highest, all_to, gather, is_some}
use Rattle.model_base.specs.Same.{same_bool}
use Rattle.model_sheet.specs.Problem.{max_agents, max_domain}
use Rattle.model_agent.specs.Message.{known, nobody}
use Rattle.model_agent.specs.Traffic.{no_counts, of_sort, number, message_in, messages_in, top, raised, counting}
use Rattle.model_agent.specs.Agent.{no_nogoods, unused_agent, above, agrees}
use Rattle.model_agent.specs.Choosing.{bars, blame, only, blaming, reason_of, reason, choose, choice, quiet_rule, no_refuser, tells, info_to, infos, chosen, took, join, lhs_of, union, failed, refusing, drop_if, without, forget, after, settle, check_view}
use Rattle.model_agent.specs.Receiving.{quiet, answer, keep_if, agreeing, updated, conflicts, on_info, matches, holds, unheard, add_link_to, add_links, accepting, outdated, on_back, informing, on_add_link, react, counted, receive, fresh, begin}
use Rattle.model_agent.specs.Cases.{values, member, nogoods, bans_from, same_set, same_assignment, same_nogood, by_sort, same_sorts, same_counts, same_agent, same_message, same_posts, step_holds, all_hold, step_cases}

pub steps-hold : all_hold step_cases ≡ true
unfolding no_counts of_sort number message_in messages_in top raised counting at from_one lowest highest all_to gather is_some max_agents max_domain same_bool known nobody no_nogoods unused_agent above agrees bars blame only blaming reason_of reason choose choice quiet_rule no_refuser tells info_to infos chosen took join lhs_of union failed refusing drop_if without forget after settle check_view quiet answer keep_if agreeing updated conflicts on_info matches holds unheard add_link_to add_links accepting outdated on_back informing on_add_link react counted receive fresh begin values member nogoods bans_from same_set same_assignment same_nogood by_sort same_sorts same_counts same_agent same_message same_posts step_holds all_hold step_cases
steps-hold = refl
