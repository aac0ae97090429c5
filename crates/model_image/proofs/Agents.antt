-- An agent's record reads back from its bytes, where it names agents 1 to 12 alone, has reasons at values 1 to 8 alone, and its counts have 64 bits.
-- Each part stands at its own place of the 170 bytes, and reads back by itself.
use Rattle.std.proofs.Common.{None, Option, Some, ℕ, zero, suc, pred, ◌+◌, ◌*◌, ◌^◌, ◌≤◌, ◌<◌, ◌≡◌, refl, sym, ap, ◌∙◌, Bool, true, false, List, [], ◌∷◌, ◌++◌, append_assoc, not-suc-le-zero, arith, get_or}
use mathlib.Core.Path.{fun_ext}
use Rattle.model_base.specs.Finite.{within, from_one, gather}
use Rattle.model_base.proofs.Tests.{test, within-true, above_within}
use Rattle.model_base.proofs.Bits.{bit-above}
use Rattle.model_sheet.specs.Problem.{max_agents, max_domain}
use Rattle.model_agent.specs.Message.{Assignment}
use Rattle.model_agent.specs.Traffic.{Sort, Infos, Backs, AddLinks}
use Rattle.model_agent.specs.Agent.{Nogoods, Agent}
use Rattle.model_base.specs.Sets.{members, mask_from}
use Rattle.model_base.proofs.Masks.{mask-bit, mask_fits}
use Rattle.model_image.specs.Bytes.{bytes_of, number_in, stretch}
use Rattle.model_image.specs.Image.{slots, mask_bytes, reason_bytes, count_bytes, agent_bytes}
use Rattle.model_image.specs.Reading.{slots_in, reason_in, counts_in, reasons_in, agent_in}
use Rattle.model_image.proofs.Bytes.{number-back}
use Rattle.model_image.proofs.Stretches.{Stands, stands-whole, stands-as, stands-left, stands-right, stands_one, stands_read, stands-stretch}
use Rattle.model_image.proofs.Lengths.{slots_length, mask-length, reason-length, reasons-length, count-length}

-- nobody is named but agents 1 to 12
abbrev pub OnlyAgents : Assignment → Type 0
OnlyAgents l = (k : ℕ) → within max_agents k ≡ false → l k ≡ 0

abbrev pub OnlyIn : (ℕ → Bool) → Type 0
OnlyIn f = (k : ℕ) → within max_agents k ≡ false → f k ≡ false

pub record Held (a : Agent) : Type 0 where
  pub listens : OnlyIn a.listens
  pub informs : OnlyIn a.informs
  pub view : OnlyAgents a.view
  pub nogoods : (v : ℕ) → within max_domain v ≡ false → a.nogoods v ≡ None
  pub reasons : (v : ℕ) (lhs : Assignment) → a.nogoods v ≡ Some lhs → OnlyAgents lhs
  pub sent : (x : Sort) → a.counts.sent x < 256 ^ 8
  pub received : (x : Sort) → a.counts.received x < 256 ^ 8

-- ---- slots

-- whatever follows them
pub slots-back : (s : List ℕ) (l : Assignment) → Stands s 0 (slots l) → OnlyAgents l → slots_in s ≡ l
unfolding slots slots_in max_agents
slots-back s l h only = fun_ext λ k. test (within 12 k) (λ e. rw e (there k e)) (λ e. rw e (sym (only k e)))
  where
    there : (k : ℕ) → within 12 k ≡ true → get_or s (pred k) 0 ≡ l k
    there k e =
        let b = within-true 12 k e in
        stands_read (l k) 0 (stands_one 12 1 k 1 (λ k. l k ∷ []) (pred k) (λ j _ _. refl) b.0 (omega arith) (omega arith) h)

-- ---- masks

mask-number : (f : ℕ → Bool) → number_in (mask_bytes f) ≡ mask_from f 1 max_agents
unfolding mask_bytes max_agents
mask-number f = number-back 2 (mask_from f 1 12) (mask_fits f 1 12 16 (omega arith))

-- a mask has nobody but agents 1 to 12
pub mask-only : (f : ℕ → Bool) → OnlyIn (members (number_in (mask_bytes f)))
unfolding members from_one max_agents
mask-only f zero o = refl
mask-only f (suc k) o =
    rw (mask-number f) (bit-above 12 (mask_from f 1 12) k (mask_fits f 1 12 12 (omega arith)) (omega (arith, above_within 12 (suc k) o (omega arith))))

mask-member : (f : ℕ → Bool) (k : ℕ) → 1 ≤ k → k ≤ max_agents → members (mask_from f 1 max_agents) k ≡ f k
unfolding members from_one
mask-member f zero l u = absurd (not-suc-le-zero l)
mask-member f (suc k) l u = let e : 1 + k ≡ suc k = omega arith in mask-bit f 1 max_agents k u ∙ ap f e

pub mask-back : (f : ℕ → Bool) → OnlyIn f → members (number_in (mask_bytes f)) ≡ f
mask-back f only =
    fun_ext λ k. test (within max_agents k)
    (λ e. let b = within-true max_agents k e in rw (mask-number f) (mask-member f k b.0 b.1))
    (λ e. mask-only f k e ∙ sym (only k e))

-- ---- reasons

pub reason-back : (o : Option Assignment) → ((lhs : Assignment) → o ≡ Some lhs → OnlyAgents lhs) → reason_in (reason_bytes o) ≡ o
unfolding reason_in reason_bytes
reason-back None h = refl
reason-back (Some lhs) h = ap Some (slots-back (slots lhs) lhs (stands-whole (slots lhs)) (h lhs refl))

pub reasons-back : (f : Nogoods) → ((v : ℕ) → within max_domain v ≡ false → f v ≡ None)
    → ((v : ℕ) (lhs : Assignment) → f v ≡ Some lhs → OnlyAgents lhs) → reasons_in (gather max_domain 1 (λ v. reason_bytes (f v))) ≡ f
unfolding reasons_in max_domain
reasons-back f few h = fun_ext λ v. test (within 8 v) (λ e. rw e (there v e)) (λ e. rw e (sym (few v e)))
  where
    there : (v : ℕ) → within 8 v ≡ true → reason_in (stretch (13 * pred v) 13 (gather 8 1 (λ v. reason_bytes (f v)))) ≡ f v
    there v e =
        let b = within-true 8 v e in
        let at = stands_one 8 1 v 13 (λ v. reason_bytes (f v)) (13 * pred v) (λ v _ _. reason-length (f v))
        b.0 (omega arith) (omega arith) (stands-whole _) in
        rw (stands-stretch 13 (reason-length (f v)) at) (reason-back (f v) (h v))

-- ---- counts

pub counts-back : (c : Sort → ℕ) → ((x : Sort) → c x < 256 ^ 8) → counts_in (count_bytes c) ≡ c
unfolding counts_in count_bytes bytes_of stretch
counts-back c h = fun_ext λ x. go x
  where
    go : (x : Sort) → counts_in (count_bytes c) x ≡ c x
    go Infos = number-back 8 (c Infos) (h Infos)
    go Backs = number-back 8 (c Backs) (h Backs)
    go AddLinks = number-back 8 (c AddLinks) (h AddLinks)

-- ---- the record

-- the parts of the record, each at its place
pub record Placed (a : Agent) (s : List ℕ) : Type 0 where
  pub listens : stretch 2 2 s ≡ mask_bytes a.listens
  pub informs : stretch 4 2 s ≡ mask_bytes a.informs
  pub view : stretch 6 12 s ≡ slots a.view
  pub nogoods : stretch 18 104 s ≡ gather max_domain 1 (λ v. reason_bytes (a.nogoods v))
  pub sent : stretch 122 24 s ≡ count_bytes a.counts.sent
  pub received : stretch 146 24 s ≡ count_bytes a.counts.received

pub placed : (a : Agent) → Placed a (agent_bytes a)
unfolding agent_bytes
placed a =
    let l = mask_bytes a.listens in
    let i = mask_bytes a.informs in
    let v = slots a.view in
    let n = gather max_domain 1 (λ v. reason_bytes (a.nogoods v)) in
    let c = count_bytes a.counts.sent in
    let d = count_bytes a.counts.received in
    let whole : Stands (agent_bytes a) 0 ((a.value ∷ a.last ∷ []) ++ (l ++ (i ++ (v ++ (n ++ (c ++ d)))))) = stands-as (simp append_assoc) in
    let at2 = stands-right (a.value ∷ a.last ∷ []) _ 2 2 refl refl whole in
    let at4 = stands-right l _ 2 4 (mask-length _) refl at2 in
    let at6 = stands-right i _ 2 6 (mask-length _) refl at4 in
    let at18 = stands-right v _ 12 18 (slots_length _) refl at6 in
    let at122 = stands-right n _ 104 122 (reasons-length _) refl at18 in
    let at146 = stands-right c _ 24 146 (count-length _) refl at122 in
    record {
      listens = stands-stretch 2 (mask-length _) (stands-left l _ at2);
      informs = stands-stretch 2 (mask-length _) (stands-left i _ at4);
      view = stands-stretch 12 (slots_length _) (stands-left v _ at6);
      nogoods = stands-stretch 104 (reasons-length _) (stands-left n _ at18);
      sent = stands-stretch 24 (count-length _) (stands-left c _ at122);
      received = stands-stretch 24 (count-length _) at146;
    }

pub agent-back : (a : Agent) → Held a → agent_in (agent_bytes a) ≡ a
unfolding agent_in agent_bytes
agent-back a h =
    let p = placed a in
    λ i.
    record {
      value = a.value;
      last = a.last;
      listens = (ap (λ (s : List ℕ). members (number_in s)) p.listens ∙ mask-back a.listens h.listens) i;
      informs = (ap (λ (s : List ℕ). members (number_in s)) p.informs ∙ mask-back a.informs h.informs) i;
      view = (ap slots_in p.view ∙ slots-back (slots a.view) a.view (stands-whole _) h.view) i;
      nogoods = (ap reasons_in p.nogoods ∙ reasons-back a.nogoods h.nogoods h.reasons) i;
      counts = record {
        sent = (ap counts_in p.sent ∙ counts-back a.counts.sent h.sent) i;
        received = (ap counts_in p.received ∙ counts-back a.counts.received h.received) i;
      };
    }
