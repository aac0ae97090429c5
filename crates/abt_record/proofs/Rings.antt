-- A channel's messages in its ring, looked at from the last to the first: what the shape asks of a channel is asked of the messages that are left.
-- A link request that is left fits only where none was asked for before: the receiver does not inform the sender yet, and no request was met behind it.
use Rattle.std.proofs.Common.{ℕ, zero, suc, ◌+◌, ◌*◌, ◌-◌, ◌%◌, ◌≤◌, ◌<◌, ◌≡◌, refl, sym, ap, ◌∙◌, Bool, true, false, not, ◌&&◌, ◌||◌, List, [], ◌∷◌, ◌++◌, not-suc-le-zero, arith, ltb, leb, length, get_or, le-leb}
use mathlib.Core.Bool.{and-true, and-false, and_assoc, false≢true}
use borrow.Author.Tests.{lt-leb}
use Rattle.model_base.specs.Finite.{from_one, every}
use Rattle.model_base.proofs.Tests.{test, both}
use Rattle.model_base.proofs.Arrays.{get_or-below}
use Rattle.model_base.proofs.Lists.{every-snoc}
use Rattle.model_agent.specs.Message.{Message as Message', Info, Back, AddLink}
use Rattle.model_agent.specs.Traffic.{AddLinks, of_sort, number}
use Rattle.model_agent.proofs.Traffic.{number_append}
use Rattle.model_network.specs.Network.{Network as Network'}
use Rattle.model_network.specs.Shape.{capacity, message_fits, has_room, one_request, channel_in_shape}
use Rattle.model_network.specs.Run.{one_if}
use Rattle.abt_packed.specs.Packed.{assignment}
use Rattle.abt_record.specs.Abstract.{is_channel, channel_at, place_of, no_place, ring, row_of, channel_of, network_of}
use Rattle.abt_shape.specs.Parts.{is_link, fits_now}
use Rattle.abt_record.specs.Looking.{fitting, left_fits, last_left}
use Rattle.abt_record.specs.declared.Place.{Place}
use Rattle.abt_record.specs.declared.Network.{Network}

-- ---- a ring

pub ring-length : (ps : List Place) (base head count : ℕ) → length (ring ps base head count) ≡ count
unfolding ring
ring-length ps base head zero = refl
ring-length ps base head (suc count) = ap suc (ring-length ps base (suc head) count)

-- the last of a ring
pub ring-snoc : (ps : List Place) (b h k : ℕ) → ring ps b h (suc k) ≡ ring ps b h k ++ (place_of (get_or ps (b + (h + k) % 8) no_place) ∷ [])
unfolding ring
ring-snoc ps b h zero = let e : h + 0 ≡ h = omega arith in rw e
ring-snoc ps b h (suc k) =
    let e : h + suc k ≡ suc h + k = omega arith in
    rw e (ap (λ (l : List Message'). place_of (get_or ps (b + h % 8) no_place) ∷ l) (ring-snoc ps b (suc h) k))

-- ---- the messages of a channel

link-counted : (m : Message') → number AddLinks (m ∷ []) ≡ one_if (is_link m)
unfolding number of_sort is_link one_if
link-counted (Info v) = refl
link-counted (Back lhs v) = refl
link-counted AddLink = refl

-- another request, or none
one_more : (k : ℕ) (asked link : Bool) → leb (k + one_if link + one_if asked) 1 ≡ leb (k + one_if (asked || link)) 1 && not (link && asked)
unfolding one_if
one_more k true true = rw and-false (lt-leb (k + 1 + 1) 1 (omega arith))
one_more k true false = let e : k + 0 + 1 ≡ k + 1 = omega arith in rw (e, and-true)
one_more k false true = let e : k + 1 + 0 ≡ k + 1 = omega arith in rw (e, and-true)
one_more k false false = let e : k + 0 + 0 ≡ k + 0 = omega arith in rw (e, and-true)

regroup : (a b c d : Bool) → (a && b) && (c && d) ≡ (a && c) && (b && d)
regroup false b c d = refl
regroup true true c d = refl
regroup true false c d = rw and-false

last-fitting : (w : Network') (i j : ℕ) (ms : List Message') (m : Message') (asked : Bool)
    → fitting w i j (ms ++ (m ∷ [])) asked ≡ fitting w i j ms (asked || is_link m) && fits_now w i j asked m
unfolding fitting fits_now
last-fitting w i j ms m asked =
    let more = one_more (number AddLinks ms) asked (is_link m) in
    rw (number_append AddLinks ms (m ∷ []), link-counted m, more, every-snoc (message_fits w i j) ms m)
    (regroup (leb (number AddLinks ms + one_if (asked || is_link m)) 1) (not (is_link m && asked)) (every (message_fits w i j) ms) (message_fits w i j m))

-- where the receiver informs the sender, no request fits
none-fits : (w : Network') (i j : ℕ) (ms : List Message') → (w.agents j).informs i ≡ true → every (message_fits w i j) ms ≡ true
    → number AddLinks ms ≡ 0
unfolding number of_sort every message_fits
none-fits w i j [] h e = refl
none-fits w i j (Info v ∷ ms) h e =
    omega (arith, none-fits w i j ms h (both (message_fits w i j (Info v)) (every (message_fits w i j) ms) e).1)
none-fits w i j (Back lhs v ∷ ms) h e =
    omega (arith, none-fits w i j ms h (both (message_fits w i j (Back lhs v)) (every (message_fits w i j) ms) e).1)
none-fits w i j (AddLink ∷ ms) h e =
    let f = (both (message_fits w i j AddLink) (every (message_fits w i j) ms) e).0 in
    absurd (false≢true (sym (and-false (ltb j i && (w.agents i).listens j)) ∙ (rw h at f)))

-- so `at most one request` may count that it does
all-fitting : (w : Network') (i j : ℕ) (ms : List Message')
    → leb (number AddLinks ms) 1 && every (message_fits w i j) ms ≡ fitting w i j ms ((w.agents j).informs i)
unfolding fitting one_if
all-fitting w i j ms =
    test ((w.agents j).informs i)
    (λ h. test (every (message_fits w i j) ms)
    (λ e. rw (h, e, none-fits w i j ms h e))
    (λ e. rw e (and-false (leb (number AddLinks ms) 1) ∙ sym (and-false (leb (number AddLinks ms + one_if ((w.agents j).informs i)) 1)))))
    (λ h. let z : number AddLinks ms + 0 ≡ number AddLinks ms = omega arith in rw (h, z))

-- ---- the messages of a channel that are left

pub nothing_left : (r : Network) (i j left : ℕ) (asked : Bool) → left ≡ 0 → left_fits r i j left asked ≡ true
unfolding left_fits fitting ring number every one_if
nothing_left r i j left true e = rw e
nothing_left r i j left false e = rw e

pub last_fits : (r : Network) (i j left : ℕ) (asked : Bool) → 1 ≤ left
    → left_fits r i j left asked ≡ left_fits r i j (left - 1) (asked || is_link (last_left r i j left)) && fits_now (network_of r) i j asked (last_left r i j left)
unfolding left_fits last_left
last_fits r i j left asked h =
    let e : left ≡ suc (left - 1) = omega arith in
    let start = ring r.places (8 * channel_at i j) (row_of r.heads i j) in
    ap (λ (ms : List Message'). fitting (network_of r) i j ms asked)
    (ap start e ∙ ring-snoc r.places (8 * channel_at i j) (row_of r.heads i j) (left - 1))
    ∙ last-fitting (network_of r) i j (start (left - 1)) (last_left r i j left) asked

-- where the code finds it
pub row-at : (rows : List ℕ) (i j : ℕ) → 1 ≤ i → row_of rows i j ≡ assignment (get_or rows (i - 1) 0) j
unfolding row_of from_one
row-at rows zero j h = absurd (not-suc-le-zero h)
row-at rows (suc i) j h = let n : suc i - 1 ≡ i = omega arith in rw n

pub last-read : (r : Network) (i j head channel place left : ℕ) (d : Place) → length r.places ≡ 1056 → 1 ≤ i
    → head ≡ assignment (get_or r.heads (i - 1) 0) j → channel ≡ channel_at i j → (place ≡ 8 * channel + (head + (left - 1)) % 8) × (place < 1056)
    → place_of (get_or r.places place d) ≡ last_left r i j left
unfolding last_left
last-read r i j head channel place left d l h e f g =
    let t : head ≡ row_of r.heads i j = e ∙ sym (row-at r.heads i j h) in
    rw (← t, ← f, ← g.0) (ap place_of (get_or-below r.places place d no_place (omega (arith, g.1))))

-- ---- the shape of a channel

pub no-channel-fits : (r : Network) (i j : ℕ) → is_channel i j ≡ false → channel_in_shape (network_of r) i j ≡ true
unfolding channel_in_shape has_room one_request number capacity network_of every
no-channel-fits r i j e = rw (e, network_of)

-- the messages of a channel are those of its ring
pub channel-is : (r : Network) (i j : ℕ) → is_channel i j ≡ true → (network_of r).channel i j ≡ channel_of r i j
unfolding network_of
channel-is r i j e = rw (e, network_of)

pub channel-fits : (r : Network) (i j : ℕ) → is_channel i j ≡ true
    → channel_in_shape (network_of r) i j
    ≡ leb (row_of r.counts i j) 8 && left_fits r i j (row_of r.counts i j) (((network_of r).agents j).informs i)
unfolding channel_in_shape has_room one_request capacity channel_of left_fits
channel-fits r i j e =
    let ms = ring r.places (8 * channel_at i j) (row_of r.heads i j) (row_of r.counts i j) in
    let few = leb (row_of r.counts i j) 8 in
    rw (channel-is r i j e, ring-length r.places (8 * channel_at i j) (row_of r.heads i j) (row_of r.counts i j))
    (and_assoc few (leb (number AddLinks ms) 1) (every (message_fits (network_of r) i j) ms)
    ∙ ap (λ (b : Bool). few && b) (all-fitting (network_of r) i j ms))

-- more than eight, or none
pub full-unfit : (r : Network) (i j : ℕ) → is_channel i j ≡ true → 8 < row_of r.counts i j → channel_in_shape (network_of r) i j ≡ false
full-unfit r i j e h = channel-fits r i j e ∙ rw (lt-leb (row_of r.counts i j) 8 h)

pub few-fit : (r : Network) (i j held : ℕ) → is_channel i j ≡ true → held ≡ row_of r.counts i j → held ≤ 8
    → channel_in_shape (network_of r) i j ≡ left_fits r i j held (((network_of r).agents j).informs i)
few-fit r i j held e q h = rw q (channel-fits r i j e ∙ rw (le-leb (row_of r.counts i j) 8 (rw (← q) h)))

pub empty-fits : (r : Network) (i j : ℕ) → is_channel i j ≡ true → row_of r.counts i j ≡ 0 → channel_in_shape (network_of r) i j ≡ true
empty-fits r i j e z = few-fit r i j 0 e (sym z) (omega arith) ∙ nothing_left r i j 0 _ refl
