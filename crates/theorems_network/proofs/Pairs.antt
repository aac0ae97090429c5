-- A pair, y listening to x, stays linked as either side moves. The listener y makes x unknown only with a Back that refuses what it saw; the
-- informer x tells a new value, and answers a Back that refuses its value.
use Rattle.std.proofs.Common.{◌≡◌, sym, ◌∙◌, subst, ◌⊎◌, inl, inr, ⊎_elim, List, ◌++◌, Bool, true, ℕ}
use Rattle.model_base.proofs.Lists.{Any, any_left, any-right}
use Rattle.model_agent.specs.Message.{Message}
use Rattle.model_agent.specs.Sorts.{IsAddLink, Refuses, seen}
use Rattle.model_agent.proofs.Messages.{seen-append, seen-fixed}
use Rattle.theorems_network.proofs.Moves.{UpToDate, Linked}

-- ---- the listener

-- its view v of the other becomes v', and it sends these messages
abbrev pub Watches : ℕ → ℕ → List Message → Type 0
Watches v v' sent = (v' ≡ v) ⊎ ((v' ≡ 0) × Any (Refuses v) sent)

pub listener-moves : (informs : Bool) (v v' u : ℕ) (there back sent : List Message) → Linked informs v u there back → Watches v v' sent
    → Linked informs v' u there (back ++ sent)
listener-moves informs v v' u there back sent (inl a) W = inl (any_left IsAddLink back sent a)
listener-moves informs v v' u there back sent (inr r) W = inr (r.0, up r.1 W)
  where
    up : UpToDate v u there back → Watches v v' sent → UpToDate v' u there (back ++ sent)
    up (inl c) (inl e) = inl (rw e c)
    up (inl c) (inr b) =
        ⊎_elim
        (λ f. inr (f v' ∙ b.0, any-right (Refuses u) back sent (subst (λ (k : ℕ). Any (Refuses k) sent) (sym (f v) ∙ c) b.1)))
        (λ f. inl (f v v' ∙ c))
        (seen-fixed there)
    up (inr c) (inl e) = inr (rw e c.0, any_left (Refuses u) back sent c.1)
    up (inr c) (inr b) =
        inr (⊎_elim (λ f. f v' ∙ b.0) (λ f. f v v' ∙ c.0) (seen-fixed there), any_left (Refuses u) back sent c.1)

-- ---- the informer

-- its value u becomes u', it sends these messages, and what waits for it becomes back': it tells its value; or it keeps it, is silent, and
-- handles neither a link request nor a Back that refuses its value
abbrev pub Speaks : ℕ → ℕ → List Message → List Message → List Message → Type 0
Speaks u u' back back' sent =
    ((v : ℕ) → seen v sent ≡ u')
    ⊎ ((u' ≡ u)
    × ((v : ℕ) → seen v sent ≡ v)
    × (Any IsAddLink back → Any IsAddLink back')
    × (Any (Refuses u) back → Any (Refuses u) back'))

pub informer-moves : (informs informs' : Bool) (v u u' : ℕ) (there back back' sent : List Message) → Linked informs v u there back
    → (informs ≡ true → informs' ≡ true)
    → (Any IsAddLink back → Any IsAddLink back' ⊎ (informs' ≡ true))
    → (informs' ≡ true → Speaks u u' back back' sent)
    → Linked informs' v u' (there ++ sent) back'
informer-moves informs informs' v u u' there back back' sent L keeps asks speaks = go L
  where
    told : informs' ≡ true → Speaks u u' back back' sent → Any IsAddLink back ⊎ UpToDate v u there back
        → Linked informs' v u' (there ++ sent) back'
    told i (inl t) c = inr (i, inl (seen-append v there sent ∙ t (seen v there)))
    told i (inr s) (inl a) = inl (s.2 a)
    told i (inr s) (inr (inl e)) = inr (i, inl (seen-append v there sent ∙ s.1 (seen v there) ∙ e ∙ sym s.0))
    told i (inr s) (inr (inr e)) =
        inr (i, inr (seen-append v there sent ∙ s.1 (seen v there) ∙ e.0, rw s.0 (s.3 e.1)))

    go : Linked informs v u there back → Linked informs' v u' (there ++ sent) back'
    go (inl a) = ⊎_elim (λ b. inl b) (λ i. told i (speaks i) (inl a)) (asks a)
    go (inr r) = told (keeps r.0) (speaks (keeps r.0)) (inr r.1)
