-- Piece by piece, what is read so far and what is left are the season of the stream. Assumes nothing.
use Rattle.std.proofs.Common.{sym, ◌∙◌, arith}
use Rattle.season_figures.proofs.Promised.{all-tell}
use Rattle.season_figures.proofs.Reading.{over_season, last_season, over_reading, last_reading, season_tells}
use Rattle.season_figures.proofs.Streams.{in-any-order, whole-sheets}
use Rattle.season_figures.proofs.stream.read_stream.Goals as goal

pub returns-after-loop : goal.returns-after-loop
returns-after-loop c =
    let H = c.loop.invariant in
    let e = last_season _ _ _ _ H (omega arith) in
    record { season = e; reading = last_reading _ _ _ _ H (omega arith); promised = all-tell _; tells = season_tells _ _ e; ordered = in-any-order _ _ e; whole = whole-sheets _ _ e }

pub returns-then-is_over : goal.returns-then-is_over
returns-then-is_over c =
    let H = c.loop.invariant in
    let t = sym c.is_over.ensures ∙ c.if-is_over.true in
    let e = over_season _ _ _ _ H t in
    record { season = e; reading = over_reading _ _ _ _ H t; promised = all-tell _; tells = season_tells _ _ e; ordered = in-any-order _ _ e; whole = whole-sheets _ _ e }
