-- Field by field, as it is written.
use Rattle.std.proofs.Common.{ℕ, ◌≡◌, refl, ap}
use Rattle.abt_agent.specs.Abstract.{none_counted}
use Rattle.abt_agent.specs.declared.Traffic.{Traffic}
use Rattle.abt_agent.specs.declared.Assignment.{Assignment}
use Rattle.abt_record.specs.Abstract.{no_place}
use Rattle.abt_record.specs.Empty.{empty_agent, empty_record}
use Rattle.abt_record.proofs.Zeros.{record-empty}
use Rattle.abt_record.proofs.empty.Goals as goal

-- what the two defaults make
default-counts : (c : Traffic) → (c.infos ≡ 0) × ((c.backs ≡ 0) × (c.links ≡ 0)) → c ≡ none_counted
default-counts c (e, (f, g)) = rw (e, f, g) refl

default-lhs : (l : Assignment) → l.digits ≡ 0 → l ≡ record { digits = 0 }
default-lhs l e = ap (λ (n : ℕ). let k : Assignment = record { digits = n } in k) e

pub returns : goal.returns
unfolding empty_record empty_agent no_place
returns c = rw (default-counts c.default-none.result c.default-none.ensures, default-lhs c.default.result c.default.ensures) (refl, record-empty)
