-- Every worked case of the little sheets holds.
-- By computation, over the whole lists.
use Rattle.std.proofs.Common.{◌≡◌, refl, true}
use Rattle.model_base.specs.Finite.{gather, every}
use Rattle.model_sheet.specs.Problem.{max_agents, max_pairs, domain, no_bans}
use Rattle.model_sheet.specs.Writing.{two_bytes, header_bytes, row_bytes, index_after, chained, written}
use Rattle.model_little.specs.Little.{little_count, most_agents, most_values, counts_of, sizes, bare, pairs_of, places, chosen, sets_of, choice_from, sheet_of, little_sheet}
use Rattle.model_base.specs.Lent.{short_buffer, untouched, put}
use Rattle.model_base.specs.Same.{same_numbers, same_written}
use Rattle.model_little.specs.Putting.{no_ordinal, put_little}
use Rattle.model_little.specs.Cases.{sheet0, sheet1, sheet2, sheet5, sheet6, sheet8, sheet14, sheet27, sheet28, sheet30, sheet4995, case_holds, cases, put_holds, sevens, rejection, puts}

pub cases-hold : every case_holds cases ≡ true
unfolding gather every max_agents max_pairs domain no_bans two_bytes header_bytes row_bytes index_after chained written same_numbers most_agents most_values counts_of sizes bare pairs_of places chosen sets_of choice_from sheet_of little_sheet sheet0 sheet1 sheet2 sheet5 sheet6 sheet8 sheet14 sheet27 sheet28 sheet30 sheet4995 case_holds cases
cases-hold = refl

pub puts-hold : every put_holds puts ≡ true
unfolding gather every max_agents max_pairs domain no_bans two_bytes header_bytes row_bytes index_after chained written same_numbers little_count most_agents most_values counts_of sizes bare pairs_of places chosen sets_of choice_from sheet_of little_sheet short_buffer no_ordinal untouched put put_little sheet5 same_written put_holds sevens rejection puts
puts-hold = refl
