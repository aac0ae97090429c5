-- Room for a text in parts: a part is no longer than the whole, and the next is put where the one before it ends.
use Rattle.std.proofs.Common.{ℕ, ◌+◌, ◌≤◌, ◌≡◌, refl, sym, List, [], ◌++◌, append-nil, arith, length, length-append}
use Rattle.support_buffer.specs.declared.cursor.Cursor.{Cursor}
use Rattle.support_buffer.specs.Puts.{Room, Adds}
use Rattle.support_buffer.proofs.Puts.{Left, left_as, less-left, none_left}
use Rattle.sheet_text_writer.specs.Parts.{RoomFor}

pub room-first : {c : Cursor} (s t : List ℕ) → RoomFor c (s ++ t) → RoomFor c s
room-first s t h = record { fits = omega (arith, h.fits, length-append s t) }

pub room-rest : {old new : Cursor} (s t : List ℕ) → RoomFor old (s ++ t) → Adds old s new → RoomFor new t
room-rest s t h p = record { fits = omega (arith, h.fits, length-append s t, p.behind, p.kept) }

-- room for the text alone, and for a number's digits
pub room-put : {c : Cursor} (s : List ℕ) → RoomFor c s → Room c (length s)
room-put s h = omega (arith, h.fits)

pub room-digits : {c : Cursor} (s : List ℕ) → RoomFor c s → Room c 20
room-digits s h = omega (arith, h.fits)

-- room in a buffer, from its first byte on; what was put ends inside it
pub room-start : (c : Cursor) (s : List ℕ) → c.at ≡ 0 → length s + 20 ≤ length c.buffer.now → RoomFor c s
room-start c s z h = record { fits = omega (arith, z, h) }

-- ---- a text of which all but the rest is put

pub room-left : {old now : Cursor} {all rest : List ℕ} → RoomFor old all → Left old all now rest → RoomFor now rest
room-left h l = record { fits = omega (arith, h.fits, l.end, l.kept) }

-- the last part
pub last-left : {old now new : Cursor} {all s : List ℕ} → Left old all now s → Adds now s new → Adds old all new
last-left {s = s} l p = none_left (less-left {ys = []} (left_as (sym (append-nil s)) l) p) refl
