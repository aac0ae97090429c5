-- What is put into a buffer from its first byte on is what it then begins with, and behind it the buffer is as it was.
use Rattle.std.proofs.Common.{◌≡◌, ap, ◌∙◌, List, ℕ, ◌+◌, arith, drop, length, take_at, drop_at}
use Rattle.support_buffer.specs.declared.cursor.Cursor.{Cursor}
use Rattle.support_buffer.specs.Puts.{Adds}
use Rattle.model_base.specs.Decimal.{Appends}

pub from-start : {old new : Cursor} {s : List ℕ} → old.at ≡ 0 → Adds old s new → Appends old.buffer.now 0 s new.buffer.now new.at
from-start {old} {new} {s} z p =
    record {
      count = p.behind ∙ ap (λ (k : ℕ). k + length s) z;
      room = p.kept;
      text = rw (p.put, p.behind, z) (take_at s (drop (0 + length s) old.buffer.now) (0 + length s) (omega arith));
    }

pub behind-start : {old new : Cursor} {s : List ℕ} → old.at ≡ 0 → Adds old s new → drop new.at new.buffer.now ≡ drop new.at old.buffer.now
behind-start {old} {new} {s} z p = rw (p.put, p.behind, z) (drop_at s (drop (0 + length s) old.buffer.now) (0 + length s) (omega arith))
