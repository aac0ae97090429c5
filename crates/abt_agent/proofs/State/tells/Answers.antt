-- `tells` is the rule that says who gets the news of a value.
-- Rule 1: those informed. Rule 2: they or nobody, and the refuser, if there is one.
use Rattle.std.proofs.Common.{◌≢◌, ◌⊎◌, inl, inr, ◌≡◌, refl, Some, None}
use Rattle.abt_agent.proofs.Telling.{refuser-range, tells-informed, tells-quietly}
use Rattle.abt_agent.proofs.State.tells.Goals as goal
use Rattle.abt_agent.proofs.State.tells.Goals.{Joined-value-self, else-value-self, then-value-self}

-- those informed where the value is a new one, else nobody
told : (c : Joined-value-self)
    → ((c.args.value ≢ c.args.self.last) × (c.if-value-self.told ≡ c.args.self.informs))
    ⊎ ((c.args.value ≡ c.args.self.last) × (c.if-value-self.told ≡ 0))
told c =
    elim c.if-value-self.branch [
      | then-value-self u ↦ inl (u.if-value-self.true, u.told-is)
      | else-value-self u ↦ inr (u.if-value-self.false, u.told-is)
    ]

pub returns-then-own-ne2 : goal.returns-then-own-ne2
returns-then-own-ne2 c = tells-informed c.args.own c.args.self c.args.refuser c.args.value c.if-own-ne2.true

pub add-requires : goal.add-requires
add-requires c = refuser-range c.args.own _ (rw c.in-Some.is at c.requires)

pub returns-in-Some : goal.returns-in-Some
returns-in-Some c =
    rw c.in-Some.is
    (tells-quietly c.args.own c.args.self (Some c.in-Some.k) _ c.if-own-ne2.false _ _ (told (goal.at.returns-in-Some c).Joined-value-self) c.add.ensures)

pub returns-in-None : goal.returns-in-None
returns-in-None c =
    rw c.in-None.is
    (tells-quietly c.args.own c.args.self None _ c.if-own-ne2.false _ _ (told (goal.at.returns-in-None c).Joined-value-self) refl)
