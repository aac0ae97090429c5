-- Records and messages that hold nothing outside their arrays: they name agents 1 to 16, and own values are 1 to 8. Every record and every message of
-- the code is such.
use Rattle.std.specs.Prelude.{ℕ, ◌≡◌, false, None, Option, Some}
use Rattle.model_base.specs.Finite.{within}
use Rattle.model_sheet.specs.Problem.{max_domain}
use Rattle.model_agent.specs.Message.{Assignment, Message, Info, Back, AddLink}
use Rattle.model_agent.specs.Agent.{Agent}
use Rattle.model_agent.specs.Shape.{max_named}

abbrev pub PlainLhs : Assignment → Type 0
PlainLhs l = (k : ℕ) → within max_named k ≡ false → l k ≡ 0

abbrev pub PlainReason : Option Assignment → Type 0
PlainReason None = Unit {0}
PlainReason (Some lhs) = PlainLhs lhs

pub record PlainAgent (a : Agent) : Type 0 where
  pub listens : (k : ℕ) → within max_named k ≡ false → a.listens k ≡ false
  pub informs : (k : ℕ) → within max_named k ≡ false → a.informs k ≡ false
  pub view : PlainLhs a.view
  pub nogoods : (v : ℕ) → within max_domain v ≡ false → a.nogoods v ≡ None
  pub reasons : (v : ℕ) → PlainReason (a.nogoods v)

abbrev pub PlainMessage : Message → Type 0
PlainMessage (Info v) = Unit {0}
PlainMessage (Back lhs v) = PlainLhs lhs
PlainMessage AddLink = Unit {0}
