-- The sorts of messages, what a view comes to once the Infos of a channel are in, and at most one link request on it: words to speak of a channel.
use Rattle.std.specs.Prelude.{◌≡◌, List, [], ◌∷◌, ℕ}
use Rattle.model_base.specs.Lists.{All}
use Rattle.model_agent.specs.Message.{Message, Info, Back, AddLink}

-- ---- sorts

abbrev pub IsInfo : Message → Type 0
IsInfo (Info v) = Unit {0}
IsInfo (Back lhs v) = ⊥
IsInfo AddLink = ⊥

abbrev pub IsBack : Message → Type 0
IsBack (Info v) = ⊥
IsBack (Back lhs v) = Unit {0}
IsBack AddLink = ⊥

abbrev pub IsAddLink : Message → Type 0
IsAddLink (Info v) = ⊥
IsAddLink (Back lhs v) = ⊥
IsAddLink AddLink = Unit {0}

abbrev pub Not : (Message → Type 0) → Message → Type 0
Not P m = P m → ⊥

-- an Info of value v
abbrev pub Tells : ℕ → Message → Type 0
Tells v (Info w) = w ≡ v
Tells v (Back lhs w) = ⊥
Tells v AddLink = ⊥

-- a Back that refuses value v
abbrev pub Refuses : ℕ → Message → Type 0
Refuses v (Info w) = ⊥
Refuses v (Back lhs w) = w ≡ v
Refuses v AddLink = ⊥

-- ---- what a view comes to

unfoldable pub after_one : ℕ → Message → ℕ
after_one v (Info w) = w
after_one v (Back lhs w) = v
after_one v AddLink = v

-- a view v of the sender, once all Infos of the list are in
unfoldable pub seen : ℕ → List Message → ℕ
seen v [] = v
seen v (m ∷ ms) = seen (after_one v m) ms

-- ---- at most one link request

abbrev pub OneLink : List Message → Type 0
OneLink [] = Unit {0}
OneLink (Info v ∷ ms) = OneLink ms
OneLink (Back lhs v ∷ ms) = OneLink ms
OneLink (AddLink ∷ ms) = All (Not IsAddLink) ms
