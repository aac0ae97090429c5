-- A call on a network in shape is never refused with 5, since its test of the shape passes; and what is written reads back.
-- By the tests of each call, one by one.
use Rattle.std.proofs.Common.{
  ◌≡◌,
  ◌≢◌,
  refl,
  sym,
  ap,
  ◌∙◌,
  ◌||◌,
  Bool,
  true,
  false,
  List,
  [],
  ◌∷◌,
  length,
  take,
  leb,
  ℕ,
  zero,
  suc,
  arith,
  Result,
  Ok,
  Err,
  IfOk,
  IfErr,
  OnErr,
}
use Rattle.support_rejection.specs.declared.Rejection.{Rejection}
use Rattle.support_rejection.specs.declared.Rejection.TheVariants.{BadShape}
use Rattle.support_rejection.specs.Rejections.{rejection_number}
use Rattle.support_rejection.proofs.Numbers.{refusal-some}
use Rattle.model_base.specs.Finite.{within}
use Rattle.model_base.specs.Lent.{Written, short_buffer, untouched, put}
use Rattle.model_base.proofs.Tests.{test}
use Rattle.model_sheet.specs.Sheet.{SheetFault, BadLength, BadHeader, BadRecord, Cycle, fault_number, Decoded, Valid, Invalid, decode}
use Rattle.model_agent.specs.Message.{Message}
use Rattle.model_network.specs.Network.{Network, handed, is_rule, bad_rule, started_on, start_sheet}
use Rattle.model_network.specs.Shape.{in_shape}
use Rattle.model_network.specs.Delivery.{
  rejection_number as rejection_number',
  answer_number,
  rejecting,
  numbers_good,
  fits,
  deliver_head,
  deliver,
  ask_value,
}
use Rattle.model_network.specs.Run.{idle, round, is_stuck, Broken, ending_number, ending_at, finish, Round, run_from, allowed, run}
use Rattle.model_image.specs.Reading.{Loaded, bad_image, is_image, load_first}
use Rattle.model_image.specs.Plain.{Plain}
use Rattle.model_image_forms.specs.Forms.{Form, First, Second, image_in, form_of}
use Rattle.model_image_forms.specs.Reading.{is_small, load_second, load_as, load}
use Rattle.model_image_forms.specs.Writing.{store}
use Rattle.model_image_forms.specs.Claims.{bytes_of}
use Rattle.model_image_forms.proofs.Buffers.{Puts, too_short, written, puts}
use Rattle.model_image_forms.proofs.Theorems.{reads-back}
use Rattle.support_buffer.specs.Abstract.{written_of}
use Rattle.abt_record.specs.declared.Network.{Network as Record}
use Rattle.abt_record.specs.Abstract.{network_of}
use Rattle.abt_record.specs.Asked.{asked_number}
use Rattle.abt_record_laws.proofs.Rejecting.{bad-numbers, stands, tries, jams, goes}
use Rattle.abt_image_reader.specs.Loaded.{loaded_of}
use Rattle.abt_network.specs.Numbers.{answered_number}
use Rattle.abt_network.specs.Images.{ReadsAs}

-- ---- by the number

pub never-broken : {A : Type 0} (r : Result A Rejection) → (answered_number r ≡ 5 → ⊥) → IfErr r (λ e. e ≢ BadShape)
never-broken (Ok x) n = tt
never-broken (Err e) n = λ q. n (ap rejection_number q)

-- a refusal has a number that is not 0
pub on-refusal : {A P : Type 0} (r : Result A Rejection) → ((answered_number r ≡ 0 → ⊥) → P) → OnErr r P
on-refusal (Ok x) f = tt
on-refusal (Err e) f = f (refusal-some e)

-- ---- a start

-- a sheet's fault has a number from 1 to 4
fault-number : (f : SheetFault) → fault_number f ≡ 5 → ⊥
unfolding fault_number
fault-number BadLength = λ z. omega arith
fault-number BadHeader = λ z. omega arith
fault-number BadRecord = λ z. omega arith
fault-number Cycle = λ z. omega arith

decoded-number : (rule : ℕ) (d : Decoded) → (started_on rule d).number ≡ 5 → ⊥
unfolding started_on
decoded-number rule (Valid p) = λ z. omega arith
decoded-number rule (Invalid f) = fault-number f

pub start-number : (rule : ℕ) (sheet : List ℕ) → (start_sheet rule sheet).number ≡ 5 → ⊥
unfolding start_sheet bad_rule
start-number rule sheet =
    test (is_rule rule) (λ r. rw (r, start_sheet) (decoded-number rule (decode sheet))) (λ r. rw (r, start_sheet) (λ z. omega arith))

-- ---- a delivery

head-number : (w : Network) (i j : ℕ) (l : List Message) → answer_number (deliver_head w i j l).answer ≡ 5 → ⊥
unfolding deliver_head rejecting answer_number rejection_number'
head-number w i j [] = λ z. omega arith
head-number w i j (m ∷ others) =
    test (fits (handed w i j m others))
    (λ f. rw (goes w i j m others f) (λ z. omega arith))
    (λ f. rw (jams w i j m others f) (λ z. omega arith))

pub deliver-number : (w : Network) (i j : ℕ) → in_shape w ≡ true → answer_number (deliver w i j).answer ≡ 5 → ⊥
unfolding rejecting answer_number rejection_number'
deliver-number w i j s =
    test (numbers_good w i j)
    (λ n. test w.unsolvable
    (λ v. rw (stands w i j s n v) (λ z. omega arith))
    (λ v. rw (tries w i j s n v (w.channel i j) refl) (head-number w i j (w.channel i j))))
    (λ n. rw (bad-numbers w i j s n) (λ z. omega arith))

-- ---- a run

ended : (w : Network) (stuck : Bool) → ending_number (ending_at w stuck) ≡ 0
unfolding ending_at ending_number
ended w stuck =
    test w.unsolvable
    (λ v. rw (v, ending_at))
    (λ v. test (idle w)
    (λ i. rw (v, ending_at, i))
    (λ i. test stuck (λ s. rw (v, ending_at, i, s)) (λ s. rw (v, ending_at, i, s))))

ended-from : (left made : ℕ) (rounds : List Round) (w : Network) → ending_number (run_from left made rounds w).ending ≡ 0
unfolding run_from finish
ended-from zero made rounds w = ended w false
ended-from (suc left) made rounds w =
    test (w.unsolvable || idle w)
    (λ t. rw (t, run_from) (ended w false))
    (λ t. test (is_stuck (round w))
    (λ f. rw (t, run_from, f) (ended (round w).network true))
    (λ f. rw (t, run_from, f) (ended-from left _ _ (round w).network)))

-- a run on a network in shape has a word
pub run-ends : (k : ℕ) (w : Network) → in_shape w ≡ true → (run k w).ending ≢ Broken
unfolding run ending_number rejection_number'
run-ends k w s q =
    let z : ending_number (run k w).ending ≡ 0 = rw (s, run) (ended-from (allowed k) 0 [] w) in
    let five : ◌≡◌ {A = ℕ} 5 0 = rw q at z in
    omega arith

-- ---- a value

ask-number : (w : Network) (i : ℕ) → in_shape w ≡ true → answer_number (ask_value w i).answer ≡ 5 → ⊥
unfolding ask_value answer_number rejection_number'
ask-number w i s =
    rw (s, ask_value) (test (within w.problem.count i) (λ n. rw n (λ z. omega arith)) (λ n. rw n (λ z. omega arith)))

asked-is : (r : Result ℕ Rejection) → answered_number r ≡ asked_number r
asked-is (Ok v) = refl
asked-is (Err e) = refl

pub asked-unbroken : (w : Network) (i : ℕ) (r : Result ℕ Rejection) → in_shape w ≡ true → asked_number r ≡ answer_number (ask_value w i).answer
    → IfErr r (λ e. e ≢ BadShape)
asked-unbroken w i r s e = never-broken r (λ z. ask-number w i s (sym e ∙ sym (asked-is r) ∙ z))

-- ---- an image

module _ (form : Form) (w : Network) (buffer new : List ℕ) (s : in_shape w ≡ true) where
  stores : store form w buffer ≡ put (image_in form w) buffer
  unfolding store
  stores = rw (s, store)

  store-number : (store form w buffer).number ≡ 5 → ⊥
  unfolding put untouched short_buffer
  store-number =
      rw stores
      (test (leb (length (image_in form w)) (length buffer)) (λ t. rw (t, put) (λ z. omega arith)) (λ t. rw (t, put) (λ z. omega arith)))

  written-is : (r : Result ℕ Rejection) → answered_number r ≡ (written_of r new).number
  unfolding written_of untouched
  written-is (Ok n) = refl
  written-is (Err e) = refl

  pub stored-unbroken : (r : Result ℕ Rejection) → written_of r new ≡ store form w buffer → IfErr r (λ e. e ≢ BadShape)
  stored-unbroken r e =
      never-broken r (λ z. store-number (sym (ap (λ (x : Written). x.number) e) ∙ sym (written-is r) ∙ z))

  stored-bytes : (store form w buffer).number ≡ 0 → bytes_of (store form w buffer) ≡ image_in form w
  unfolding short_buffer
  stored-bytes z = rw stores (go (puts (image_in form w) buffer))
    where
      go : Puts (image_in form w) buffer → bytes_of (put (image_in form w) buffer) ≡ image_in form w
      go (too_short _ e) = absurd (let q : ◌≡◌ {A = ℕ} 12 0 = sym e ∙ (rw stores at z) in omega arith)
      go (written _ b) = b

  pub stored-reads : Plain w → (r : Result ℕ Rejection) → written_of r new ≡ store form w buffer → IfOk r (λ n. ReadsAs (take n new) w)
  unfolding written_of bytes_of
  stored-reads plain (Err e) q = tt
  stored-reads plain (Ok n) q =
      let z : (store form w buffer).number ≡ 0 = ap (λ (x : Written). x.number) (sym q) in
      let b : take n new ≡ bytes_of (store form w buffer) = ap bytes_of q in
      ap load (b ∙ stored-bytes z) ∙ reads-back form w plain s

-- bytes that are no image are refused with 13
load-number : (form : Form) (s : List ℕ) → (load_as form s).number ≡ 5 → ⊥
unfolding load_as load_first load_second bad_image
load-number First s = test (is_image s) (λ t. rw (t, load_first) (λ z. omega arith)) (λ t. rw (t, load_first) (λ z. omega arith))
load-number Second s = test (is_small s) (λ t. rw (t, load_second) (λ z. omega arith)) (λ t. rw (t, load_second) (λ z. omega arith))

pub loaded-unbroken : (s : List ℕ) (e : Rejection) → loaded_of (Err e) ≡ load s → e ≢ BadShape
unfolding loaded_of load
loaded-unbroken s e p q = load-number (form_of s) s (sym (ap (λ (l : Loaded). l.number) p) ∙ ap rejection_number q)

-- what reads as a network is not refused
pub refused-reads : (s : List ℕ) (w : Network) (e : Rejection) → loaded_of (Err e) ≡ load s → ReadsAs s w → ⊥
unfolding loaded_of
refused-reads s w e q r = refusal-some e (ap (λ (l : Loaded). l.number) (q ∙ r))

-- .. and gives that network
pub read-reads : (s : List ℕ) (w : Network) (r : Record) → loaded_of (Ok r) ≡ load s → ReadsAs s w → network_of r ≡ w
unfolding loaded_of
read-reads s w r q e = ap (λ (l : Loaded). l.network) (q ∙ e)
