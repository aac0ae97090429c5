-- Each delivery of a turn is accepted, and the turn leaves the network as it was but for its counts; so another one can follow.
use Rattle.std.proofs.Common.{None, Some, ◌≡◌, refl, sym, ap, ◌∙◌, ◌≢◌, Bool, true, false, List, [], ◌∷◌, ◌++◌, ℕ, zero, suc, arith, eqb, ne_eqb}
use mathlib.Core.Path.{fun_ext}
use Rattle.model_base.specs.Finite.{at, within, lowest, highest, all_to, every, any, gather, is_some}
use Rattle.model_base.specs.Bits.{bit, with_bit}
use Rattle.model_base.specs.Lists.{All}
use Rattle.model_base.proofs.Search.{at_other}
use Rattle.model_base.proofs.Tests.{test, eq_test, within-true}
use Rattle.model_sheet.specs.Problem.{max_agents, max_domain, max_pairs, domain, owns, pairs_before, word_at, bit_at, is_pair, banned, linked, count_in_range, domain_in_range, word_owned, bans_owned, sized, in_range}
use Rattle.model_agent.specs.Message.{Assignment, known, Message, Info, Back, nobody, sent_to}
use Rattle.model_agent.specs.Traffic.{Traffic}
use Rattle.model_agent.specs.Agent.{Agent, Nogoods, no_nogoods, unused_agent, with_counts, above, agrees}
use Rattle.model_agent.specs.Choosing.{bars, blame, only, blaming, reason_of, reason, choose, choice, quiet_rule, no_refuser, tells, info_to, infos, chosen, took, join, lhs_of, union, failed, refusing, drop_if, without, forget, after, settle, check_view}
use Rattle.model_agent.specs.Receiving.{quiet, answer, keep_if, agreeing, updated, conflicts, on_info, matches, holds, unheard, add_link_to, add_links, accepting, outdated, on_back, react, counted, receive, fresh, begin}
use Rattle.model_network.specs.Network.{Network, self_of, bans_of, posted, with_step, with_channel, step_on, handed, begun, start_agent, start_channel, start, is_rule}
use Rattle.model_network.specs.Shape.{capacity, has_room, in_shape}
use Rattle.model_network.specs.Delivery.{Delivery, VerdictStands, Accepted, rejecting, numbers_good, fits, deliver_head, deliver}
use Rattle.theorems_shape.proofs.StartShape.{start-in-shape}
use Rattle.theorems_network.specs.Calls.{attempt_of, answers}
use Rattle.theorems_network.proofs.Theorems.{deliver-keeps}
use Rattle.theorems_spinning.specs.Spinning.{three, turns, spinning}

-- ---- records with equal parts

same : (agents others : ℕ → Agent) (lines behind : ℕ → ℕ → List Message) → agents ≡ others → lines ≡ behind
    → ◌≡◌ {A = Network} (record { problem = three; rule = 1; unsolvable = false; agents = agents; channel = lines })
    (record { problem = three; rule = 1; unsolvable = false; agents = others; channel = behind })
same agents others lines behind e f = rw (e, f)

-- ---- maps where they are not changed: each test fails, and what stands behind it is left

module _ {A : Type 0} where
  past-one : (p x : A) (b : Bool) → b ≡ false → ◌≡◌ {A = A} (elim b [ true ↦ p | false ↦ x ]) x
  past-one p x b e = rw e refl

  past-two : (p q x : A) (b c : Bool) → b ≡ false → c ≡ false → ◌≡◌ {A = A} (elim b [ true ↦ p | false ↦ elim c [ true ↦ q | false ↦ x ] ]) x
  past-two p q x b c e f = rw (e, f) refl

  past-three : (p q r x : A) (b c d : Bool) → b ≡ false → c ≡ false → d ≡ false
      → ◌≡◌ {A = A} (elim b [ true ↦ p | false ↦ elim c [ true ↦ q | false ↦ elim d [ true ↦ r | false ↦ x ] ] ]) x
  past-three p q r x b c d e f g = rw (e, f, g) refl

  past-four : (p q r s x : A) (b c d e : Bool) → b ≡ false → c ≡ false → d ≡ false → e ≡ false
      → ◌≡◌ {A = A} (elim b [ true ↦ p | false ↦ elim c [ true ↦ q | false ↦ elim d [ true ↦ r | false ↦ elim e [ true ↦ s | false ↦ x ] ] ] ]) x
  past-four p q r s x b c d e f g h i = rw (f, g, h, i) refl

-- ---- a delivery on a network in shape

accepts : (w : Network) (i j : ℕ) (m : Message) (others : List Message) → in_shape w ≡ true → numbers_good w i j ≡ true → w.unsolvable ≡ false
    → w.channel i j ≡ m ∷ others → fits (handed w i j m others) ≡ true
    → deliver w i j ≡ record { network = handed w i j m others; answer = Accepted; sent = (step_on w i j m).sent }
unfolding deliver deliver_head
accepts w i j m others s n v c f = rw (s, deliver, n) (running w.unsolvable v (w.channel i j) c)
  where
    running : (b : Bool) → b ≡ false → (l : List Message) → l ≡ m ∷ others
        → (elim b as (λ b. Delivery) [ true ↦ rejecting VerdictStands w | false ↦ deliver_head w i j l ])
        ≡ record { network = handed w i j m others; answer = Accepted; sent = (step_on w i j m).sent }
    running b v l c = rw (v, c, deliver_head, f)

-- ---- the network before a turn

-- agents 2 and 3, with any counts: 2 is as it began; 3 has slot 2, since agent 1 has slot 1
second : Traffic → Agent
second c = with_counts (start_agent 1 three 2) c

third : Traffic → Agent
third c =
    record {
      value = 2;
      last = 2;
      listens = (start_agent 1 three 3).listens;
      informs = (start_agent 1 three 3).informs;
      view = at nobody 1 1;
      nogoods = at no_nogoods 1 (Some (only 1 1));
      counts = c;
    }

-- news waits on 1 to 2 and on 2 to 3
waiting : ℕ → ℕ → List Message
waiting x y =
    elim (eqb x 1) [
      | true ↦ elim (eqb y 2) [ true ↦ Info 1 ∷ [] | false ↦ [] ]
      | false ↦ elim (eqb x 2) [ true ↦ elim (eqb y 3) [ true ↦ Info 1 ∷ [] | false ↦ [] ] | false ↦ [] ]
    ]

spun : Traffic → Traffic → Network
spun c d =
    record {
      problem = three;
      rule = 1;
      unsolvable = false;
      agents = at (at (start_agent 1 three) 2 (second c)) 3 (third d);
      channel = waiting;
    }

-- ---- a turn

-- the network behind a delivery of news from 2 to 3
refused : Traffic → Traffic → Network
refused c d = handed (spun c d) 2 3 (Info 1) []

news-goes : (c d : Traffic) → in_shape (spun c d) ≡ true → deliver (spun c d) 2 3
    ≡ record { network = refused c d; answer = Accepted; sent = (step_on (spun c d) 2 3 (Info 1)).sent }
unfolding at within lowest highest all_to every any gather is_some bit with_bit max_agents max_domain max_pairs domain owns pairs_before word_at bit_at is_pair banned linked known nobody sent_to no_nogoods unused_agent above agrees bars blame only blaming reason_of reason choose choice quiet_rule no_refuser tells info_to infos chosen took join lhs_of union failed refusing drop_if without forget after settle check_view quiet answer keep_if agreeing updated conflicts on_info matches holds unheard add_link_to add_links accepting outdated on_back react counted receive fresh begin self_of bans_of posted with_step with_channel step_on handed begun start_agent start_channel capacity has_room numbers_good fits three second third waiting spun refused
news-goes c d s = accepts (spun c d) 2 3 (Info 1) [] s refl refl refl refl

-- the network behind the refusal, from 3 to 2, of the value that 2 has
answered : Assignment → Traffic → Traffic → Network
answered lhs c d = handed (refused c d) 3 2 (Back lhs 1) []

-- the left side of that refusal names agent 1
left_side : Assignment
left_side = at (union 2 (at (at no_nogoods 1 (Some (only 1 1))) 2 (Some (only 2 1)))) 2 0

refusal-waits : (c d : Traffic) → (refused c d).channel 3 2 ≡ Back left_side 1 ∷ []
unfolding at within lowest highest all_to every any gather is_some bit with_bit max_agents max_domain max_pairs domain owns pairs_before word_at bit_at is_pair banned linked known nobody sent_to no_nogoods unused_agent above agrees bars blame only blaming reason_of reason choose choice quiet_rule no_refuser tells info_to infos chosen took join lhs_of union failed refusing drop_if without forget after settle check_view quiet answer keep_if agreeing updated conflicts on_info matches holds unheard add_link_to add_links accepting outdated on_back react counted receive fresh begin self_of bans_of posted with_step with_channel step_on handed begun start_agent start_channel capacity has_room numbers_good fits three second third waiting spun refused left_side
refusal-waits c d = refl

refusal-goes : (c d : Traffic) → in_shape (refused c d) ≡ true → deliver (refused c d) 3 2
    ≡ record { network = answered left_side c d; answer = Accepted; sent = (step_on (refused c d) 3 2 (Back left_side 1)).sent }
unfolding at within lowest highest all_to every any gather is_some bit with_bit max_agents max_domain max_pairs domain owns pairs_before word_at bit_at is_pair banned linked known nobody sent_to no_nogoods unused_agent above agrees bars blame only blaming reason_of reason choose choice quiet_rule no_refuser tells info_to infos chosen took join lhs_of union failed refusing drop_if without forget after settle check_view quiet answer keep_if agreeing updated conflicts on_info matches holds unheard add_link_to add_links accepting outdated on_back react counted receive fresh begin self_of bans_of posted with_step with_channel step_on handed begun start_agent start_channel capacity has_room numbers_good fits three second third waiting spun refused left_side answered
refusal-goes c d s = accepts (refused c d) 3 2 (Back left_side 1) [] s refl refl refl refl

-- ---- what it leaves, but for the counts

after_two : Traffic → Traffic → Traffic
after_two c d = ((answered left_side c d).agents 2).counts

after_three : Traffic → Traffic → Traffic
after_three c d = ((answered left_side c d).agents 3).counts

third-is : (view : Assignment) (nogoods : Nogoods) (c : Traffic) → ((j : ℕ) → view j ≡ at nobody 1 1 j)
    → ((v : ℕ) → nogoods v ≡ at no_nogoods 1 (Some (only 1 1)) v)
    → record {
      value = 2;
      last = 2;
      listens = (start_agent 1 three 3).listens;
      informs = (start_agent 1 three 3).informs;
      view = view;
      nogoods = nogoods;
      counts = c;
    }
    ≡ third c
unfolding third
third-is view nogoods c e f =
    let v : view ≡ at nobody 1 1 = fun_ext e in
    let n : nogoods ≡ at no_nogoods 1 (Some (only 1 1)) = fun_ext f in
    rw (v, n)

-- a reason that is neither of value 1 nor of value 2: there is none
reasons-stay : (c d : Traffic) (v : ℕ) → v ≢ 1 → v ≢ 2 → ((answered left_side c d).agents 3).nogoods v ≡ at no_nogoods 1 (Some (only 1 1)) v
unfolding at within lowest highest all_to every any gather is_some bit with_bit max_agents max_domain max_pairs domain owns pairs_before word_at bit_at is_pair banned linked known nobody sent_to no_nogoods unused_agent above agrees bars blame only blaming reason_of reason choose choice quiet_rule no_refuser tells info_to infos chosen took join lhs_of union failed refusing drop_if without forget after settle check_view quiet answer keep_if agreeing updated conflicts on_info matches holds unheard add_link_to add_links accepting outdated on_back react counted receive fresh begin self_of bans_of posted with_step with_channel step_on handed begun start_agent start_channel capacity has_room numbers_good fits three second third waiting spun refused left_side answered
reasons-stay c d v n m =
    let e = ne_eqb v 1 n in
    past-one _ _ _ e ∙ ap (without 2) (past-two _ _ _ _ _ (ne_eqb v 2 m) e ∙ ap (agreeing (self_of 1 three 3) (at (at nobody 1 1) 2 1)) (past-one _ _ _ e)) ∙ sym (past-one _ None _ e)

third-stays : (c d : Traffic) → (answered left_side c d).agents 3 ≡ third (after_three c d)
unfolding at within lowest highest all_to every any gather is_some bit with_bit max_agents max_domain max_pairs domain owns pairs_before word_at bit_at is_pair banned linked known nobody sent_to no_nogoods unused_agent above agrees bars blame only blaming reason_of reason choose choice quiet_rule no_refuser tells info_to infos chosen took join lhs_of union failed refusing drop_if without forget after settle check_view quiet answer keep_if agreeing updated conflicts on_info matches holds unheard add_link_to add_links accepting outdated on_back react counted receive fresh begin self_of bans_of posted with_step with_channel step_on handed begun start_agent start_channel capacity has_room numbers_good fits three second third waiting spun refused left_side answered after_three
third-stays c d =
    third-is (((answered left_side c d).agents 3).view) (((answered left_side c d).agents 3).nogoods) (after_three c d)
    (λ j. eq_test j 2 (λ e. rw e refl) (λ n. at_other (at (at nobody 1 1) 2 1) 2 0 j n ∙ at_other (at nobody 1 1) 2 1 j n))
    (λ v. eq_test v 1 (λ e. rw e refl) (λ n. eq_test v 2 (λ e. rw e refl) (λ m. reasons-stay c d v n m)))

agents-stay : (c d : Traffic) (i : ℕ) → (answered left_side c d).agents i
    ≡ at (at (start_agent 1 three) 2 (second (after_two c d))) 3 (third (after_three c d)) i
unfolding at within lowest highest all_to every any gather is_some bit with_bit max_agents max_domain max_pairs domain owns pairs_before word_at bit_at is_pair banned linked known nobody sent_to no_nogoods unused_agent above agrees bars blame only blaming reason_of reason choose choice quiet_rule no_refuser tells info_to infos chosen took join lhs_of union failed refusing drop_if without forget after settle check_view quiet answer keep_if agreeing updated conflicts on_info matches holds unheard add_link_to add_links accepting outdated on_back react counted receive fresh begin self_of bans_of posted with_step with_channel step_on handed begun start_agent start_channel capacity has_room numbers_good fits three second third waiting spun refused left_side answered after_two
agents-stay c d i =
    eq_test i 2 (λ e. rw e refl)
    (λ n. eq_test i 3 (λ e. rw e (third-stays c d)) (λ m. let e = ne_eqb i 2 n in let f = ne_eqb i 3 m in past-four _ _ _ _ _ _ _ _ _ e f f e ∙ sym (past-two _ _ _ _ _ f e)))

lines-stay : (c d : Traffic) (x y : ℕ) → (answered left_side c d).channel x y ≡ waiting x y
unfolding at within lowest highest all_to every any gather is_some bit with_bit max_agents max_domain max_pairs domain owns pairs_before word_at bit_at is_pair banned linked known nobody sent_to no_nogoods unused_agent above agrees bars blame only blaming reason_of reason choose choice quiet_rule no_refuser tells info_to infos chosen took join lhs_of union failed refusing drop_if without forget after settle check_view quiet answer keep_if agreeing updated conflicts on_info matches holds unheard add_link_to add_links accepting outdated on_back react counted receive fresh begin self_of bans_of posted with_step with_channel step_on handed begun start_agent start_channel capacity has_room numbers_good fits three second third waiting spun refused left_side answered
lines-stay c d x y =
    eq_test x 2
    (λ e. rw e (eq_test y 3 (λ f. rw f refl) (λ m.
    let e = ne_eqb y 3 m in ap (λ l. l ++ sent_to y ((step_on (refused c d) 3 2 (Back left_side 1)).sent)) (past-two _ _ _ _ _ e e) ∙ past-one _ _ _ e ∙ sym (past-one _ _ _ e))))
    (λ n. eq_test x 3
    (λ e. rw e (eq_test y 2 (λ f. rw f refl) (λ m. let e = ne_eqb y 2 m in past-two _ _ _ _ _ e e)))
    (λ m.
    let e = ne_eqb x 2 n in
    let f = ne_eqb x 3 m in
    past-one _ _ _ e ∙ ap (λ (line : ℕ → List Message). line y) (past-one _ _ _ f) ∙ past-one _ _ _ f ∙ ap (λ (line : ℕ → List Message). line y) (past-one _ _ _ e)))

-- a turn leaves such a network
stays : (c d : Traffic) → answered left_side c d ≡ spun (after_two c d) (after_three c d)
unfolding at within lowest highest all_to every any gather is_some bit with_bit max_agents max_domain max_pairs domain owns pairs_before word_at bit_at is_pair banned linked known nobody sent_to no_nogoods unused_agent above agrees bars blame only blaming reason_of reason choose choice quiet_rule no_refuser tells info_to infos chosen took join lhs_of union failed refusing drop_if without forget after settle check_view quiet answer keep_if agreeing updated conflicts on_info matches holds unheard add_link_to add_links accepting outdated on_back react counted receive fresh begin self_of bans_of posted with_step with_channel step_on handed begun start_agent start_channel capacity has_room numbers_good fits three second third waiting spun refused left_side answered
stays c d =
    same _ _ _ _ (fun_ext (agents-stay c d)) (fun_ext λ x. fun_ext (lines-stay c d x))

-- ---- any number of turns

turns-go : (k : ℕ) (c d : Traffic) → in_shape (spun c d) ≡ true → All (λ a. a ≡ Accepted) (answers (turns k) (spun c d))
unfolding turns answers attempt_of
turns-go zero c d s = tt
turns-go (suc k) c d s =
    let e = news-goes c d s in
    let s₁ : in_shape (refused c d) ≡ true = rw e at (deliver-keeps (spun c d) 2 3 s) in
    let f = refusal-goes c d s₁ in
    let s₂ : in_shape (answered left_side c d) ≡ true = rw f at (deliver-keeps (refused c d) 3 2 s₁) in
    let g = stays c d in
    rw (e, f, g) (refl, (refl, turns-go k (after_two c d) (after_three c d) (rw g at s₂)))

-- ---- the start, and the delivery before the turns

pub rule-good : is_rule 1 ≡ true
unfolding is_rule within
rule-good = refl

pub three-in-range : in_range three ≡ true
unfolding within in_range sized count_in_range domain_in_range bans_owned word_owned all_to max_agents max_domain max_pairs domain word_at pairs_before bit bit_at owns three
three-in-range = refl

in-shape : in_shape (start 1 three) ≡ true
in-shape = start-in-shape 1 rule-good three three-in-range

-- the network behind it
heard : Network
heard = handed (start 1 three) 1 3 (Info 1) []

heard-goes : deliver (start 1 three) 1 3 ≡ record { network = heard; answer = Accepted; sent = (step_on (start 1 three) 1 3 (Info 1)).sent }
unfolding at within lowest highest all_to every any gather is_some bit with_bit max_agents max_domain max_pairs domain owns pairs_before word_at bit_at is_pair banned linked known nobody sent_to no_nogoods unused_agent above agrees bars blame only blaming reason_of reason choose choice quiet_rule no_refuser tells info_to infos chosen took join lhs_of union failed refusing drop_if without forget after settle check_view quiet answer keep_if agreeing updated conflicts on_info matches holds unheard add_link_to add_links accepting outdated on_back react counted receive fresh begin self_of bans_of posted with_step with_channel step_on handed begun start_agent start_channel capacity has_room numbers_good fits three second third waiting spun refused left_side answered start heard
heard-goes = accepts (start 1 three) 1 3 (Info 1) [] in-shape refl refl refl refl

heard_two : Traffic
heard_two = (heard.agents 2).counts

heard_three : Traffic
heard_three = (heard.agents 3).counts

third-hears : heard.agents 3 ≡ third heard_three
unfolding at within lowest highest all_to every any gather is_some bit with_bit max_agents max_domain max_pairs domain owns pairs_before word_at bit_at is_pair banned linked known nobody sent_to no_nogoods unused_agent above agrees bars blame only blaming reason_of reason choose choice quiet_rule no_refuser tells info_to infos chosen took join lhs_of union failed refusing drop_if without forget after settle check_view quiet answer keep_if agreeing updated conflicts on_info matches holds unheard add_link_to add_links accepting outdated on_back react counted receive fresh begin self_of bans_of posted with_step with_channel step_on handed begun start_agent start_channel capacity has_room numbers_good fits three second third waiting spun refused left_side answered start heard heard_three
third-hears =
    third-is (heard.agents 3).view (heard.agents 3).nogoods heard_three
    (λ j. refl)
    (λ v. eq_test v 1 (λ e. rw e refl) (λ n. let e = ne_eqb v 1 n in past-one _ _ _ e ∙ sym (past-one _ _ _ e)))

agents-heard : (i : ℕ) → heard.agents i ≡ at (at (start_agent 1 three) 2 (second heard_two)) 3 (third heard_three) i
unfolding at within lowest highest all_to every any gather is_some bit with_bit max_agents max_domain max_pairs domain owns pairs_before word_at bit_at is_pair banned linked known nobody sent_to no_nogoods unused_agent above agrees bars blame only blaming reason_of reason choose choice quiet_rule no_refuser tells info_to infos chosen took join lhs_of union failed refusing drop_if without forget after settle check_view quiet answer keep_if agreeing updated conflicts on_info matches holds unheard add_link_to add_links accepting outdated on_back react counted receive fresh begin self_of bans_of posted with_step with_channel step_on handed begun start_agent start_channel capacity has_room numbers_good fits three second third waiting spun refused left_side answered start heard heard_two
agents-heard i =
    eq_test i 2 (λ e. rw e refl)
    (λ n. eq_test i 3 (λ e. rw e third-hears) (λ m. let f = ne_eqb i 3 m in past-one _ _ _ f ∙ sym (past-two _ _ _ _ _ f (ne_eqb i 2 n))))

beyond : (x : ℕ) → x ≢ 1 → x ≢ 2 → x ≢ 3 → within 3 x ≡ false
beyond x n m l = test (within 3 x) (λ t. let b = within-true 3 x t in absurd (omega (arith, n, m, l, b.0, b.1))) (λ f. f)

lines-heard : (x y : ℕ) → heard.channel x y ≡ waiting x y
unfolding at within lowest highest all_to every any gather is_some bit with_bit max_agents max_domain max_pairs domain owns pairs_before word_at bit_at is_pair banned linked known nobody sent_to no_nogoods unused_agent above agrees bars blame only blaming reason_of reason choose choice quiet_rule no_refuser tells info_to infos chosen took join lhs_of union failed refusing drop_if without forget after settle check_view quiet answer keep_if agreeing updated conflicts on_info matches holds unheard add_link_to add_links accepting outdated on_back react counted receive fresh begin self_of bans_of posted with_step with_channel step_on handed begun start_agent start_channel capacity has_room numbers_good fits three second third waiting spun refused left_side answered start heard
lines-heard x y =
    eq_test x 1
    (λ e. rw e (eq_test y 2 (λ f. rw f refl) (λ m. eq_test y 3 (λ f. rw f refl) (λ l.
    let e = ne_eqb y 2 m in let f = ne_eqb y 3 l in past-three _ _ _ _ _ _ _ f e f ∙ sym (past-one _ _ _ e)))))
    (λ n. eq_test x 2
    (λ e. rw e refl)
    (λ m. eq_test x 3
    (λ e. rw e refl)
    (λ l.
    let e = ne_eqb x 1 n in
    past-one _ _ _ (ne_eqb x 3 l) ∙ ap (λ (line : ℕ → List Message). line y) (past-one _ _ _ e) ∙ past-one _ _ _ (beyond x n m l) ∙ sym (past-two _ _ _ _ _ e (ne_eqb x 2 m)))))

hears : heard ≡ spun heard_two heard_three
unfolding at within lowest highest all_to every any gather is_some bit with_bit max_agents max_domain max_pairs domain owns pairs_before word_at bit_at is_pair banned linked known nobody sent_to no_nogoods unused_agent above agrees bars blame only blaming reason_of reason choose choice quiet_rule no_refuser tells info_to infos chosen took join lhs_of union failed refusing drop_if without forget after settle check_view quiet answer keep_if agreeing updated conflicts on_info matches holds unheard add_link_to add_links accepting outdated on_back react counted receive fresh begin self_of bans_of posted with_step with_channel step_on handed begun start_agent start_channel capacity has_room numbers_good fits three second third waiting spun refused left_side answered start heard
hears =
    same _ _ _ _ (fun_ext agents-heard) (fun_ext λ x. fun_ext (lines-heard x))

pub all-accepted : (k : ℕ) → All (λ a. a ≡ Accepted) (answers (spinning k) (start 1 three))
unfolding spinning answers attempt_of
all-accepted k =
    let s : in_shape heard ≡ true = rw heard-goes at (deliver-keeps (start 1 three) 1 3 in-shape) in
    rw (heard-goes, hears) (refl, turns-go k heard_two heard_three (rw hears at s))
