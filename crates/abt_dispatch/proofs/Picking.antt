-- What a pick comes to, test by test: refused at once, the wish, the first line in turn, or none.
use Rattle.std.proofs.Common.{ℕ, ◌≡◌, refl, sym, ap, subst, ◌∙◌, Bool, true, false, Some, None, Ok, Err, Option}
use mathlib.Core.Bool.{and-false}
use Rattle.support_rejection.specs.Rejections.{rejection_number}
use Rattle.support_rejection.specs.declared.Rejection.{Rejection}
use Rattle.support_rejection.proofs.Numbers.{refusal-some}
use Rattle.model_base.proofs.Tests.{test}
use Rattle.model_agent.specs.Traffic.{raised}
use Rattle.model_network.specs.Network.{Network as Network'}
use Rattle.model_network.specs.Shape.{in_shape}
use Rattle.model_network.specs.Delivery.{VerdictStands, Rejection as Rejection', rejection_number as rejection_number', answer_number, deliver}
use Rattle.model_network.specs.Run.{Line as Line', idle}
use Rattle.model_dispatch.specs.Dispatch.{
  Dispatcher as Dispatcher',
  turn,
  deliverable,
  first_of,
  is_odd,
  meets,
  Pick,
  refusing,
  serving,
  evenly,
  chosen,
  pick,
}
use Rattle.abt_record.specs.declared.Network.{Network}
use Rattle.abt_record.specs.Abstract.{network_of}
use Rattle.abt_dispatch.specs.declared.Line.{Line}
use Rattle.abt_dispatch.specs.declared.Dispatcher.{Dispatcher}
use Rattle.abt_dispatch.specs.declared.Picked.{Picked}
use Rattle.abt_dispatch.specs.Abstract.{line_of, dispatcher_of, tested_by, nothing_by, PicksAs}
use Rattle.abt_dispatch.specs.Walking.{SearchedAs, Found}
use Rattle.abt_dispatch.proofs.Standing.{running}
use Rattle.abt_dispatch.proofs.Turning.{found_is, none-is}

-- ---- the verdict's test

unfoldable gate : Bool → Dispatcher' → Line' → Pick
gate b d wish = elim b [ true ↦ refusing VerdictStands d | false ↦ chosen d wish ]

by-verdict : (d : Dispatcher') (wish : Line') (b : Bool) → in_shape d.network ≡ true → d.network.unsolvable ≡ b → pick d wish ≡ gate b d wish
unfolding pick gate
by-verdict d wish b s v = rw (s, pick) (ap (λ (x : Bool). gate x d wish) v)

-- ---- an even pick

module _ (d : Dispatcher) where
  abbrev inside : Network'
  inside = network_of d.network

  -- the first line in turn
  abbrev first : Option Line'
  first = first_of inside (turn inside (line_of d.place))

  pub in-turn : (f : Found) → SearchedAs d.network first (Some f) → (m : ℕ) → m ≡ raised d.picks 1
      → PicksAs d (evenly (dispatcher_of d) first)
      (record { answer = Ok f.line; state = record { network = f.network; picks = m; place = f.line } })
  unfolding dispatcher_of evenly serving answer_number
  in-turn f x m e =
      found_is d.network first f x
      (λ l q.
      let y : SearchedAs d.network (Some l) (Some f) = subst (λ (o : Option Line'). SearchedAs d.network o (Some f)) q x in
      rw q
      (record {
        number = refl;
        served = ap Some y.0;
        state = λ z. record { network = y.1 z; picks = e z; place = y.0 z };
        untouched = λ n. absurd (n refl);
      }))

  pub nothing : SearchedAs d.network first None → (k : Rejection) → rejection_number k ≡ nothing_by inside
      → PicksAs d (evenly (dispatcher_of d) first) (record { answer = Err k; state = d })
  unfolding dispatcher_of evenly refusing answer_number nothing_by
  nothing x k e =
      rw (none-is d.network first x)
      (test (idle inside) (λ i. rw (i, evenly) (same (rw (i, nothing_by) at e))) (λ i. rw (i, evenly) (same (rw (i, nothing_by) at e))))
    where
      same : {t : Rejection'} → rejection_number k ≡ rejection_number' t → PicksAs d (refusing t (dispatcher_of d)) (record { answer = Err k; state = d })
      same q = record { number = q; served = refl; state = refl; untouched = λ _. refl }

-- ---- any pick

module _ (d : Dispatcher) (wish : Line) where
  abbrev w : Network'
  w = network_of d.network

  abbrev d' : Dispatcher'
  d' = dispatcher_of d

  abbrev p : Pick
  p = pick d' (line_of wish)

  -- refused at once

  pub refused : (k : Rejection) → rejection_number k ≡ tested_by w → PicksAs d p (record { answer = Err k; state = d })
  unfolding tested_by dispatcher_of refusing answer_number gate pick
  refused k e =
      test (in_shape w)
      (λ s. test w.unsolvable
      (λ v. rw (by-verdict d' (line_of wish) true s v) (record { number = e ∙ rw (s, tested_by, v); served = refl; state = refl; untouched = λ _. refl }))
      (λ v. absurd (refusal-some k (e ∙ rw (s, tested_by, v)))))
      (λ s. rw (s, pick) (record { number = e ∙ rw (s, tested_by); served = refl; state = refl; untouched = λ _. refl }))

  -- the wish

  pub even : is_odd d.picks ≡ false → meets d' (line_of wish) ≡ false
  unfolding meets dispatcher_of
  even o = rw o

  pub cannot-be : deliverable w (line_of wish) ≡ false → meets d' (line_of wish) ≡ false
  unfolding meets dispatcher_of
  cannot-be y = rw (y, and-false)

  module _ (t : tested_by w ≡ 0) where
    opens : p ≡ chosen d' (line_of wish)
    unfolding dispatcher_of gate
    opens = let h = running w t in by-verdict d' (line_of wish) false h.shape h.going

    pub wished : is_odd d.picks ≡ true → deliverable w (line_of wish) ≡ true → (m : ℕ) (left : Network)
        → network_of left ≡ (deliver w wish.from wish.to).network → m ≡ raised d.picks 1
        → PicksAs d p (record { answer = Ok wish; state = record { network = left; picks = m; place = d.place } })
    unfolding dispatcher_of chosen meets serving answer_number
    wished o y m left l e =
        rw (opens, o, chosen, y)
        (record {
          number = refl;
          served = refl;
          state = λ x. record { network = l x; picks = e x; place = line_of d.place };
          untouched = λ n. absurd (n refl);
        })

    -- or an even pick

    pub evens : meets d' (line_of wish) ≡ false → (a : Picked) → PicksAs d (evenly d' (first_of w (turn w (line_of d.place)))) a → PicksAs d p a
    unfolding dispatcher_of chosen
    evens u a x = subst (λ (q : Pick). PicksAs d q a) (sym (opens ∙ rw (u, chosen))) x
