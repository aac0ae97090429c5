-- By how many there are. Assumes nothing.
use Rattle.std.proofs.Common.{refl}
use Rattle.model_sheet.specs.Sheet.{max_records}
use Rattle.model_text.specs.Drafts.{room_tests}
use Rattle.sheet_text_drafts.specs.Drafting.{draft_in}
use Rattle.sheet_text_drafts.proofs.Testing.{not-full, room-of}
use Rattle.sheet_text_drafts.proofs.Judging.{last}
use Rattle.sheet_text_drafts.proofs.draft.Draft.check_room.Goals as goal

pub returns : goal.returns
unfolding room_tests draft_in max_records
returns c =
    let e = not-full _ _ c.is_full.ensures.full c.is_full.ensures.room in
    record {
      tests = last _ e refl c.need.result c.need.ensures;
      room = room-of _ _ _ e c.need.result c.need.ensures;
    }
