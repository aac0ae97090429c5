-- The worked seasons print what they must.
-- Their streams are read as the sheets they are made of, and what each of these comes to is a worked outcome.
use Rattle.std.proofs.Common.{◌≡◌, refl, ap, ◌∙◌, true, false, [], ◌∷◌, arith}
use Rattle.model_sheet.specs.Problem.{no_bans}
use Rattle.model_sheet.specs.Sheet.{byte_at, word_from}
use Rattle.model_sheet.specs.Writing.{two_bytes, header_bytes, row_bytes, index_after, chained, written}
use Rattle.model_network.specs.Run.{Unsolvable, Plan, one_if}
use Rattle.model_network.specs.Nights.{padded, sheet_of, sheet, sheet1, sheet2, sheet3}
use Rattle.model_base.specs.Decimal.{last_decimals, decimal, newline, line_of}
use Rattle.model_season.specs.Season.{Refused, Ended, no_figures, place, has_rounds, one_more, with_rounds, counting, with_outcome, figures_of}
use Rattle.model_season.specs.Stream.{most_sheets, length_bytes, length_in, is_whole, ended, split, Season, season_from, season}
use Rattle.model_season.proofs.Theorems.{reads-stream}
use Rattle.model_season.proofs.Cases.{nights-end}
use Rattle.season_text.specs.Text.{sheets, refused, words, cut, fewest, most, sum, mean, blank, over, dash, figure, four_line, dash_line, mean_line, rounds_lines, season_text}
use Rattle.season_text.specs.Cases.{three_nights, three_nights_text, empty_text, broken, broken_text, AllPrint}

three-read : split most_sheets three_nights ≡ record { sheets = sheet1 ∷ sheet2 ∷ sheet3 ∷ []; cut = false }
unfolding three_nights most_sheets is_whole length_bytes length_in word_from byte_at sheet1 sheet2 sheet3 sheet sheet_of padded written header_bytes row_bytes two_bytes index_after chained no_bans
three-read =
    reads-stream (sheet1 ∷ sheet2 ∷ sheet3 ∷ []) (omega arith, (omega arith, (omega arith, tt))) most_sheets (omega arith) [] refl

broken-read : split most_sheets broken ≡ record { sheets = sheet1 ∷ [] ∷ []; cut = true }
unfolding broken most_sheets is_whole length_bytes length_in word_from byte_at sheet1 sheet sheet_of padded written header_bytes row_bytes two_bytes index_after chained no_bans
broken-read = reads-stream (sheet1 ∷ [] ∷ []) (omega arith, (omega arith, tt)) most_sheets (omega arith) (24 ∷ 0 ∷ 1 ∷ 1 ∷ []) refl

-- ---- the figures

abbrev three_season : Season
three_season = record { figures = with_outcome (Ended Plan 0) (with_outcome (Ended Unsolvable 2) (with_outcome (Ended Plan 1) no_figures)); cut = false }

three-season : season three_nights ≡ three_season
unfolding season season_from figures_of
three-season = rw (three-read, nights-end.0, nights-end.1, nights-end.2) refl

abbrev empty_season : Season
empty_season = record { figures = no_figures; cut = false }

empty-season : season [] ≡ empty_season
unfolding season season_from figures_of split ended most_sheets is_whole length_bytes length_in word_from byte_at
empty-season = refl

abbrev broken_season : Season
broken_season = record { figures = with_outcome (Ended Plan 0) (with_outcome (Refused 1) no_figures); cut = true }

broken-season : season broken ≡ broken_season
unfolding season season_from figures_of
broken-season = rw (broken-read, nights-end.0, nights-end.3) refl

-- ---- the text

pub texts : (season_text three_season ≡ three_nights_text) × (season_text empty_season ≡ empty_text) × (season_text broken_season ≡ broken_text)
unfolding season_text no_figures place has_rounds one_more one_if with_rounds counting with_outcome rounds_lines mean_line dash_line four_line figure last_decimals decimal newline line_of sheets refused words cut fewest most sum mean blank over dash three_nights_text empty_text broken_text
texts = (refl, refl, refl)

pub all-print : AllPrint
all-print =
    (ap season_text three-season ∙ texts.0, ap season_text empty-season ∙ texts.1, ap season_text broken-season ∙ texts.2)
