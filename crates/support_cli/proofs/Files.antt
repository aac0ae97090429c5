-- What may be read of a name, and what is read of it once.
use Rattle.std.proofs.Common.{◌≡◌, ℕ, List, refl, sym, ap, arith, Option, None, Some, unwrap_or}
use Rattle.support_cli.specs.Files.{Held, Unknown, Unreadable, Bytes, IsRead}

-- none or some, as a name holds
pub some-file : (held : Held) → (file : Option (List ℕ)) × IsRead held file
some-file Unknown = (None, tt)
some-file Unreadable = (None, refl)
some-file (Bytes bytes) = (Some bytes, refl)

pub some-none : {A X : Type 0} {a : A} → Some a ≡ None → X
some-none e = absurd (let z : ◌≡◌ {A = ℕ} 0 1 = cc in omega arith)

pub none-some : {A X : Type 0} {a : A} → None ≡ Some a → X
none-some e = some-none (sym e)

pub some-same : {a b : ℕ} → Some a ≡ Some b → a ≡ b
some-same {a} {b} e = ap (λ (o : Option ℕ). unwrap_or o a) e
