-- The claims about sheets as text.
-- What a text gives is written of a draft that holds what its lines say.
use Rattle.model_text.specs.Claims.{SheetsAccepted, TextsReadAgain, TextsShort, BansAsWritten, SlotsAsWritten, JudgedByFront}
use Rattle.theorems_text.proofs.Front.{judged}
use Rattle.theorems_text.proofs.Reading.{text-written}
use Rattle.theorems_text.proofs.Sheets.{sheet-accepted, sheet-slots, sheet-bans}
use Rattle.theorems_text.proofs.Sources.{source}
use Rattle.theorems_text.proofs.Short.{text-short}
use Rattle.theorems_text.proofs.Again.{read_again}

pub judged-by-front : JudgedByFront
judged-by-front = judged

pub sheets-accepted : SheetsAccepted
sheets-accepted text s h = let w = text-written text s h in rw w.sheet (sheet-accepted w.draft _ w.begun)

pub slots-as-written : SlotsAsWritten
slots-as-written text s p h v =
    let w = text-written text s h in
    sheet-slots w.draft _ w.begun p (rw w.sheet at v)

pub bans-as-written : BansAsWritten
bans-as-written text s p h v =
    let w = text-written text s h in
    sheet-bans w.draft _ w.begun p (rw w.sheet at v)

pub texts-short : TextsShort
texts-short s t h =
    let o = source s t h in
    rw o.told (text-short o.problem o.range _ _ o.good o.few)

pub texts-read-again : TextsReadAgain
texts-read-again s t h = read_again s t (source s t h)
