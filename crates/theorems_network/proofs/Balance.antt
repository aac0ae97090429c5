-- What is sent is what is received and what waits. A try takes one message off its line and puts what the receiver sends on the receiver's lines, so
-- over all lines: sent + waiting before = handed over + waiting after. Of any network; from the start, where all that was sent waits.
use Rattle.std.proofs.Common.{◌≡◌, refl, sym, ap, subst, ◌∙◌, ◌⊎◌, ⊎_elim, true, cond, List, [], ◌∷◌, ◌++◌, map, ℕ, ◌+◌, ◌≤◌, arith, length, eqb, eq-eqb, ne_eqb}
use mathlib.Core.List.{map-append}
use Rattle.model_base.specs.Finite.{sum}
use Rattle.model_base.proofs.Tests.{test, to-within}
use Rattle.model_base.proofs.Lists.{All, All-map}
use Rattle.model_base.proofs.Sums.{sum_same, sum-add, sum-none, sum_one}
use Rattle.model_sheet.specs.Problem.{Problem, linked, owns, in_range}
use Rattle.model_sheet.proofs.Range.{ranged, linked-inside}
use Rattle.model_agent.specs.Message.{Message, Info, Back, AddLink, Post, sent_to}
use Rattle.model_agent.specs.Traffic.{Sort, Infos, Backs, AddLinks, of_sort, number, message_in, messages_in}
use Rattle.model_agent.specs.Agent.{Step}
use Rattle.model_agent.proofs.Traffic.{number_append, messages-append}
use Rattle.theorems_agent.specs.Facts.{Answered, PostFits}
use Rattle.model_agent.proofs.Assignments.{agents-named}
use Rattle.model_network.specs.Network.{Network, self_of, step_on, begun, start_channel, start}
use Rattle.model_network.specs.Delivery.{is_accepted, rejecting, deliver}
use Rattle.model_network.specs.Run.{Line, is_line}
use Rattle.theorems_shape.proofs.Lines.{is-line, other_from, other-to}
use Rattle.theorems_shape.proofs.Outcome.{Outcome, refused, accepted, outcome, numbers}
use Rattle.theorems_shape.proofs.Handing.{Handing, handing, OnChannel, hit, put, rest, on-channel}
use Rattle.theorems_shape.proofs.DeliverShape.{Head, at_head, step_fits}
use Rattle.theorems_shape.proofs.Start.{begins, channel-in}
use Rattle.theorems_network.specs.Calls.{left_by_all, tried_by_all, attempt_of, replay}
use Rattle.theorems_network.specs.Deeds.{Handed, head_from, handed_now, handed_to, posts_now, posts_by, handed_in, posts_in}
use Rattle.theorems_network.specs.Figures.{
  start_posts,
  sent_from,
  message_of,
  received_by,
  total_of,
  of_all_sorts,
  total_sent,
  total_received,
  on_all_lines,
  waiting_of,
  total_waiting,
}
use Rattle.theorems_network.specs.Claims.{SentIsReceivedAndWaiting, SentIsReceivedAndWaitingOf, EveryProblem}
use Rattle.theorems_network.proofs.Tries.{given_stays}
use Rattle.theorems_network.proofs.Replay.{calls-replay}
use Rattle.theorems_network.proofs.Deeds.{hands_none, hands-head}
use Rattle.theorems_network.proofs.Figures.{counts-exact}

-- ---- posts, channel by channel

-- where posts go only to agents 1 to n, what they put on the channels to these is all of them
module _ (n : ℕ) (x : Sort) where
  posts-sum : (posts : List Post) → ((y : ℕ) → All (λ m. (1 ≤ y) × (y ≤ n)) (sent_to y posts))
      → sum n (λ y. number x (sent_to y posts)) ≡ number x (messages_in posts)
  unfolding sent_to messages_in message_in number
  posts-sum [] h = sum-none n _ (λ k l u. refl)
  posts-sum (p ∷ ps) h =
      sum_same n _ _ (λ y l u. split y) ∙ sum-add n (λ y. cond (eqb y p.to) (of_sort x p.message) 0) (λ y. number x (sent_to y ps))
      ∙ omega (arith, first, posts-sum ps tail)
    where
      split : (y : ℕ) → number x (sent_to y (p ∷ ps)) ≡ cond (eqb y p.to) (of_sort x p.message) 0 + number x (sent_to y ps)
      split y = test (eqb y p.to) (λ e. rw (e, sent_to)) (λ e. rw (e, sent_to) (omega arith))

      tail : (y : ℕ) → All (λ m. (1 ≤ y) × (y ≤ n)) (sent_to y ps)
      tail y = test (eqb y p.to) (λ e. (rw (e, sent_to) at (h y)).1) (λ e. rw (e, sent_to) at (h y))

      here : (1 ≤ p.to) × (p.to ≤ n)
      here = (rw (eq-eqb p.to p.to refl, sent_to) at (h p.to)).0

      first : sum n (λ y. cond (eqb y p.to) (of_sort x p.message) 0) ≡ of_sort x p.message
      first =
          sum_one n p.to (λ y. cond (eqb y p.to) (of_sort x p.message) 0) here.0 here.1 (λ k q. rw (ne_eqb k p.to q))
          ∙ rw (eq-eqb p.to p.to refl)

-- ---- all lines between agents 1 to n

grid : ℕ → (ℕ → ℕ → ℕ) → ℕ
grid n f = sum n (λ i. sum n (f i))

grid-same : (n : ℕ) (f g : ℕ → ℕ → ℕ) → ((i j : ℕ) → f i j ≡ g i j) → grid n f ≡ grid n g
unfolding grid
grid-same n f g h = sum_same n _ _ (λ i _ _. sum_same n _ _ (λ j _ _. h i j))

grid-add : (n : ℕ) (f g : ℕ → ℕ → ℕ) → grid n (λ i j. f i j + g i j) ≡ grid n f + grid n g
unfolding grid
grid-add n f g = sum_same n _ _ (λ i _ _. sum-add n (f i) (g i)) ∙ sum-add n (λ i. sum n (f i)) (λ i. sum n (g i))

waits : Sort → Network → ℕ → ℕ → ℕ
waits x w i j = number x (w.channel i j)

-- ---- one message handed over

module _ (x : Sort) {d : Line} {m : Message} {t : Step} {w w' : Network} (H : Handing d m t w w') where
  taken : ℕ → ℕ → ℕ
  taken i j = cond (is_line i j d) (of_sort x m) 0

  given : ℕ → ℕ → ℕ
  given i j = cond (eqb i d.to) (number x (sent_to j t.sent)) 0

  cell : (i j : ℕ) → waits x w' i j + taken i j ≡ waits x w i j + given i j
  unfolding waits taken given number
  cell i j = go (on-channel H i j)
    where
      go : OnChannel d m t w w' i j → waits x w' i j + taken i j ≡ waits x w i j + given i j
      go (hit h ei _ e) = rw (h, e, ne_eqb i d.to (λ q. H.apart (sym ei ∙ q))) (omega arith)
      go (put h ei e) = rw (h, e, eq-eqb i d.to ei, number_append x (w.channel i j) (sent_to j t.sent)) (omega arith)
      go (rest h ne e) = rw (h, e, ne_eqb i d.to ne)

  module _ (n : ℕ) (from_low : 1 ≤ d.from) (from-high : d.from ≤ n) (to_low : 1 ≤ d.to) (to_high : d.to ≤ n) where
    taken-all : grid n taken ≡ of_sort x m
    unfolding grid taken
    taken-all =
        sum_one n d.from (λ i. sum n (taken i)) from_low from-high
        (λ i q. sum-none n (taken i) (λ j _ _. rw (other_from i j d q)))
        ∙ sum_one n d.to (taken d.from) to_low to_high (λ j q. rw (other-to d.from j d q))
        ∙ rw (is-line d.from d.to d refl refl)

    given-all : grid n given ≡ sum n (λ j. number x (sent_to j t.sent))
    unfolding grid given
    given-all =
        sum_one n d.to (λ i. sum n (given i)) to_low to_high
        (λ i q. sum-none n (given i) (λ j _ _. rw (ne_eqb i d.to q)))
        ∙ sum_same n _ _ (λ j _ _. rw (eq-eqb d.to d.to refl))

    handed-balance : ((y : ℕ) → All (λ _. (1 ≤ y) × (y ≤ n)) (sent_to y t.sent))
        → grid n (waits x w') + of_sort x m ≡ grid n (waits x w) + number x (messages_in t.sent)
    handed-balance inside =
        omega (
          arith,
          grid-add n (waits x w') taken,
          grid-add n (waits x w) given,
          grid-same n _ _ cell,
          taken-all,
          given-all,
          posts-sum n x t.sent inside,
        )

-- ---- one try

-- a receiver's posts go to agents 1 to n
module _ (w : Network) (i j : ℕ) (m : Message) (others : List Message) (H : Head w i j m others) where
  post-inside : (y : ℕ) (q : Message)
      → PostFits (owns w.problem) (self_of w.rule w.problem j) (step_on w i j m).agent.listens
      (λ y. ((w.agents j).informs y ≡ true) ⊎ Answered i m y) y q
      → (1 ≤ y) × (y ≤ w.problem.count)
  unfolding self_of
  post-inside y (Info v) (above, most, told, _) = (
    omega (arith, above),
    ⊎_elim
        (λ e. ((H.shape.agents j H.to_low H.to_high).downward y (omega (arith, above)) (omega (arith, most, agents-named)) e).1)
        (λ a. rw a.0 H.from-high)
        told,
  )
  post-inside y (Back lhs v) (low, below, _, _, _) = (low, omega (arith, below, H.to_high))
  post-inside y AddLink (low, below, _) = (low, omega (arith, below, H.to_high))

  posts-inside : (y : ℕ) → All (λ _. (1 ≤ y) × (y ≤ w.problem.count)) (sent_to y (step_on w i j m).sent)
  posts-inside y = All-map _ _ (post-inside y) (sent_to y (step_on w i j m).sent) ((step_fits w i j m others H).posts y)

-- the figures of agents 1 to n for one try
module _ (x : Sort) (l : Line) (w : Network) where
  abbrev count : ℕ
  count = w.problem.count

  sent_now : ℕ
  sent_now = sum count (λ i. number x (messages_in (posts_now i l w)))

  hands_now : ℕ
  hands_now = sum count (λ i. number x (map message_of (handed_now i l w)))

  try-balance : sent_now + grid count (waits x w) ≡ hands_now + grid count (waits x (attempt_of l w).network)
  unfolding sent_now hands_now posts_now attempt_of rejecting is_accepted head_from messages_in message_of number
  try-balance = go (outcome w l.from l.to)
    where
      go : Outcome w l.from l.to (deliver w l.from l.to)
          → sent_now + grid count (waits x w) ≡ hands_now + grid count (waits x (deliver w l.from l.to).network)
      go (refused r _ e) =
          rw (
            sum-none count (λ i. number x (messages_in (posts_now i l w)))
                (λ i _ _. test (eqb i l.to) (λ q. rw (q, posts_now, e)) (λ q. rw (q, posts_now))),
            sum-none count (λ i. number x (map message_of (handed_now i l w)))
                (λ i _ _. rw (hands_none i l w (test (eqb i l.to) (λ q. rw (q, e)) (λ q. rw q)))),
            e,
          )
      go (accepted m others T e) =
          let (fl, fh, tl, th, apart) = numbers w l.from l.to T.numbers in
          let H = at_head w l.from l.to m others T.shape T.numbers T.running T.head in
          let B = handed-balance x (handing l w m others apart T.head) count fl fh tl th (posts-inside w l.from l.to m others H) in
          let S : sent_now ≡ number x (messages_in (step_on w l.from l.to m).sent) =
          sum_one count l.to (λ i. number x (messages_in (posts_now i l w))) tl th (λ k q. rw (ne_eqb k l.to q, posts_now))
          ∙ rw (eq-eqb l.to l.to refl, posts_now, e) in
          let R : hands_now ≡ of_sort x m =
          sum_one count l.to (λ i. number x (map message_of (handed_now i l w))) tl th
          (λ k q. rw (hands_none k l w (rw (ne_eqb k l.to q))))
          ∙ rw (hands-head l.to l w (rw (eq-eqb l.to l.to refl, e)), T.head) (omega arith) in
          rw e (omega (arith, B, S, R))

-- ---- a list of tries

posts-number : (x : Sort) (a b : List Post) → number x (messages_in (a ++ b)) ≡ number x (messages_in a) + number x (messages_in b)
posts-number x a b = rw (messages-append a b) (number_append x (messages_in a) (messages_in b))

handed-number : (x : Sort) (a b : List Handed) → number x (map message_of (a ++ b)) ≡ number x (map message_of a) + number x (map message_of b)
handed-number x a b = rw (map-append message_of a b) (number_append x (map message_of a) (map message_of b))

replay-balance : (x : Sort) (n : ℕ) (ls : List Line) (w : Network) → w.problem.count ≡ n
    → sum n (λ i. number x (messages_in (posts_by i ls w))) + grid n (waits x w)
    ≡ sum n (λ i. number x (map message_of (handed_to i ls w))) + grid n (waits x (replay ls w))
unfolding posts_by handed_to replay messages_in number sent_now hands_now
replay-balance x n [] w e = refl
replay-balance x n (l ∷ ls) w e =
    let w' = (attempt_of l w).network in
    let now : sum n (λ i. number x (messages_in (posts_now i l w))) + grid n (waits x w)
    ≡ sum n (λ i. number x (map message_of (handed_now i l w))) + grid n (waits x w') =
    subst (λ (k : ℕ).
    sum k (λ i. number x (messages_in (posts_now i l w))) + grid k (waits x w)
    ≡ sum k (λ i. number x (map message_of (handed_now i l w))) + grid k (waits x w')) e (try-balance x l w) in
    omega (arith, sent, got, now, replay-balance x n ls w' (rw (given_stays l w).0 e))
  where
    sent : sum n (λ i. number x (messages_in (posts_now i l w ++ posts_by i ls (attempt_of l w).network)))
        ≡ sum n (λ i. number x (messages_in (posts_now i l w))) + sum n (λ i. number x (messages_in (posts_by i ls (attempt_of l w).network)))
    sent =
        sum_same n _ _ (λ i _ _. posts-number x (posts_now i l w) (posts_by i ls (attempt_of l w).network))
        ∙ sum-add n (λ i. number x (messages_in (posts_now i l w))) (λ i. number x (messages_in (posts_by i ls (attempt_of l w).network)))

    got : sum n (λ i. number x (map message_of (handed_now i l w ++ handed_to i ls (attempt_of l w).network)))
        ≡ sum n (λ i. number x (map message_of (handed_now i l w))) + sum n (λ i. number x (map message_of (handed_to i ls (attempt_of l w).network)))
    got =
        sum_same n _ _ (λ i _ _. handed-number x (handed_now i l w) (handed_to i ls (attempt_of l w).network))
        ∙ sum-add n (λ i. number x (map message_of (handed_now i l w))) (λ i. number x (map message_of (handed_to i ls (attempt_of l w).network)))

-- ---- the start: all that was sent waits

module _ (rule : ℕ) (p : Problem) (r : in_range p ≡ true) (x : Sort) where
  begun-inside : (i : ℕ) → 1 ≤ i → i ≤ p.count → (y : ℕ) → All (λ _. (1 ≤ y) × (y ≤ p.count)) (sent_to y (begun rule p i).sent)
  begun-inside i lo hi y =
      test (linked p i y)
      (λ e. let (l, h, n) = linked-inside p (ranged p r) i y e in constant (omega arith, n) (sent_to y (begun rule p i).sent))
      (λ e. rw ((begins rule p (ranged p r) i lo hi).silent y e) tt)
    where
      constant : {P : Type 0} → P → (ms : List Message) → All (λ _. P) ms
      constant h [] = tt
      constant h (m ∷ ms) = (h, constant h ms)

  start-balance : sum p.count (λ i. number x (messages_in (start_posts rule p i))) ≡ grid p.count (waits x (start rule p))
  unfolding grid waits start start_posts
  start-balance = sum_same p.count _ (λ i. sum p.count (λ j. number x (start_channel rule p i j))) row
    where
      row : (i : ℕ) → 1 ≤ i → i ≤ p.count → number x (messages_in (start_posts rule p i)) ≡ sum p.count (λ j. number x (start_channel rule p i j))
      row i lo hi =
          let posts : start_posts rule p i ≡ (begun rule p i).sent = rw (to-within p.count i lo hi, start_posts) in
          ap (λ (ps : List Post). number x (messages_in ps)) posts
          ∙ sym (posts-sum p.count x (begun rule p i).sent (begun-inside i lo hi))
          ∙ sum_same p.count (λ j. number x (sent_to j (begun rule p i).sent)) (λ j. number x (start_channel rule p i j))
          (λ j _ _. rw (channel-in rule p (ranged p r) i j lo hi))

-- ---- the claims

pub sent-is-received-and-waiting-of : EveryProblem SentIsReceivedAndWaitingOf
unfolding total_of waiting_of on_all_lines sent_from received_by posts_in handed_in grid waits start
sent-is-received-and-waiting-of rule is-rule p r calls below x =
    omega (
      arith,
      sent,
      got,
      sum-add p.count (λ i. number x (messages_in (start_posts rule p i))) (λ i. number x (messages_in (posts_by i ls (start rule p)))),
      start-balance rule p r x,
      replay-balance x p.count ls (start rule p) refl,
      left,
    )
  where
    ls : List Line
    ls = tried_by_all calls (start rule p)

    sent : sum p.count (λ i. ((left_by_all calls (start rule p)).agents i).counts.sent x)
        ≡ sum p.count (λ i. number x (messages_in (start_posts rule p i)) + number x (messages_in (posts_by i ls (start rule p))))
    sent =
        sum_same p.count _ _ (λ i lo hi.
        (counts-exact rule is-rule p r calls below i lo hi x).0 ∙ posts-number x (start_posts rule p i) (posts_by i ls (start rule p)))

    got : sum p.count (λ i. ((left_by_all calls (start rule p)).agents i).counts.received x)
        ≡ sum p.count (λ i. number x (map message_of (handed_to i ls (start rule p))))
    got = sum_same p.count _ _ (λ i lo hi. (counts-exact rule is-rule p r calls below i lo hi x).1)

    left : grid p.count (waits x (left_by_all calls (start rule p))) ≡ grid p.count (waits x (replay ls (start rule p)))
    left = rw (calls-replay calls (start rule p))

-- every message is of one sort
sorts-all : (ms : List Message) → of_all_sorts (λ x. number x ms) ≡ length ms
unfolding of_all_sorts number of_sort
sorts-all [] = refl
sorts-all (m ∷ ms) = omega (arith, one m, sorts-all ms)
  where
    one : (m : Message) → of_sort Infos m + of_sort Backs m + of_sort AddLinks m ≡ 1
    one (Info v) = refl
    one (Back lhs v) = refl
    one AddLink = refl

sum-three : (n : ℕ) (f : Sort → ℕ → ℕ) → sum n (λ i. of_all_sorts (λ x. f x i)) ≡ of_all_sorts (λ x. sum n (f x))
unfolding of_all_sorts
sum-three n f = sum-add n (λ i. f Infos i + f Backs i) (f AddLinks) ∙ rw (sum-add n (f Infos) (f Backs))

pub sent-is-received-and-waiting : EveryProblem SentIsReceivedAndWaiting
unfolding total_sent total_received total_waiting total_of waiting_of on_all_lines of_all_sorts
sent-is-received-and-waiting rule is-rule p r calls below =
    sum-three n (λ x i. (w.agents i).counts.sent x)
    ∙ omega (
      arith,
      by Infos,
      by Backs,
      by AddLinks,
      sum-three n (λ x i. (w.agents i).counts.received x),
      lines,
    )
  where
    n : ℕ
    n = p.count

    w : Network
    w = left_by_all calls (start rule p)

    by : (x : Sort) → sum n (λ i. (w.agents i).counts.sent x)
        ≡ sum n (λ i. (w.agents i).counts.received x) + sum n (λ i. sum n (λ j. number x (w.channel i j)))
    by x = sent-is-received-and-waiting-of rule is-rule p r calls below x

    lines : sum n (λ i. sum n (λ j. length (w.channel i j))) ≡ of_all_sorts (λ x. sum n (λ i. sum n (λ j. number x (w.channel i j))))
    lines =
        sum_same n _ _ (λ i _ _. sum_same n _ _ (λ j _ _. sym (sorts-all (w.channel i j))) ∙ sum-three n (λ x j. number x (w.channel i j)))
        ∙ sum-three n (λ x i. sum n (λ j. number x (w.channel i j)))
