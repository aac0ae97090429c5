-- A delivery whose posts the engine has stored as far as they found room: rejected at the first that found none, and else made.
use Rattle.std.proofs.Common.{ℕ, pred, ◌-◌, ◌≤◌, Bool, true, false, ◌≡◌, refl, sym, ◌∙◌, subst, List, [], length, set, length-set, Option, Some}
use lib.Seq.{set-get_or}
use Rattle.model_base.specs.Finite.{at}
use Rattle.model_sheet.specs.Problem.{pairs_before}
use Rattle.model_agent.specs.Message.{Post as Post'}
use Rattle.abt_packed.specs.Packed.{assignment}
use Rattle.abt_choosing.specs.declared.Conflicts.{Conflicts}
use Rattle.abt_agent.specs.declared.Step.{Step}
use Rattle.abt_agent.specs.Posting.{posts_left}
use Rattle.abt_record.specs.declared.Network.{Network}
use Rattle.abt_record_laws.specs.Held.{held_at, row_fits}
use Rattle.abt_record_laws.proofs.Changes.{word_at, rowed, arrived, arrived-sized, counted-sized, Taken}
use Rattle.abt_record_laws.proofs.Handing.{Found, Stepped, finds-no-room, delivers}
use Rattle.abt_engine.specs.Lines.{NextVisit}
use Rattle.abt_engine.specs.Working.{Worked}
use Rattle.abt_engine.specs.declared.lines.Visit.{Visit}
use Rattle.abt_engine.proofs.Barrings.{Barred, BarsOf, bars-stored}
use Rattle.abt_engine.proofs.Here.{Live, Here}
use Rattle.abt_record_laws.proofs.Posting.{Posting}
use Rattle.abt_engine.proofs.Storing.{stays-clean, waits-still}
use Rattle.abt_engine.proofs.Visiting.{line-channel, line-ends, jams, accepts}

-- all posts have found room: the network is one in which they are stored, with the receiver's row of counts raised by them
pub record Sent (o : Network) (j : ℕ) (all : List Post') (q : Network) : Type 0 where
  pub before : Network
  pub row : ℕ
  pub posting : Posting o j all [] before row
  pub raised : q ≡ rowed before j row

-- where there are none, nothing was stored
pub none-sent : {o : Network} {j : ℕ} {all : List Post'} → Posting o j all all o (word_at o.counts j) → all ≡ [] → Sent o j all o
none-sent {o = o} {j = j} {all = all} st e =
    record {
      before = o;
      row = word_at o.counts j;
      posting = subst (λ (left : List Post'). Posting o j all left o (word_at o.counts j)) e st;
      raised = rw (set-get_or o.counts (j - 1) 0) refl;
    }

-- the sender's message waits still
pub sent-waits : {o : Network} {i j x : ℕ} {all : List Post'} {q : Network} → Found o i j x → Sent o j all q → 1 ≤ assignment (word_at q.counts i) j
sent-waits f sent = rw sent.raised (waits-still f sent.posting)

module _ {once : Bool} {whole : Worked} {o : Network} {n : ℕ} {domains bans : List ℕ} {bars : List (Option Conflicts)}
    {quota : List ℕ} {missed : Bool} {left made : ℕ} {stuck : Bool} {i rest : ℕ}
    (h : Here once whole o n domains bans bars quota missed left made stuck i rest)
    (v : Visit) (nv : NextVisit quota n i rest v) (g : o.unsolvable ≡ false) where
  abbrev L : Live o n domains bans bars
  L = h.live

  module _ (bars' : List (Option Conflicts)) (wide : length bars' ≡ 12) (barred : Barred bans o.agents bars') {x : ℕ} {step : Step}
      (s : Stepped o v.from v.to x step) {p : Network} {unsent : List Post'} {now : ℕ}
      (st : Posting o v.to (posts_left step.outbox step.backs) unsent p now) where
    -- no room
    pub stored-jams : row_fits (held_at o.counts v.to) (posts_left step.outbox step.backs) ≡ false → {rest' : ℕ} → assignment rest' ≡ at (assignment v.rest) v.to 0
        → Here once whole p n domains bans bars' quota true left made stuck v.from rest'
    stored-jams f {rest'} cut =
        let k = st.kept in
        jams h v nv g p bars' rest' (finds-no-room s f) st.network st.sized
        (record {
          shape = rw st.network L.shape;
          count = L.count ∙ sym k.count;
          clean = rw k.counts L.clean;
          owned = L.owned ∙ sym k.domains;
          table = L.table ∙ sym k.bans;
          beside = wide;
          barred = rw k.agents barred;
        })
        cut

    -- all have found room
    pub stored-goes : unsent ≡ [] → {heads counts : ℕ} → Taken (rowed p v.to now) v.from v.to heads counts
        → (a : ℕ) → a ≡ pairs_before (pred v.to) → BarsOf bans v.to a step.agent step.conflicts
        → Here once whole (arrived (rowed p v.to now) v.from v.to heads counts step.agent step.unsolvable) n domains bans
        (set bars' (v.to - 1) (Some step.conflicts)) quota missed left made false v.from v.rest
    stored-goes none {heads} {counts} t a e b =
        let P = st in
        let k = P.kept in
        let E = line-ends h v nv in
        accepts h v nv g (arrived (rowed p v.to now) v.from v.to heads counts step.agent step.unsolvable)
        (set bars' (v.to - 1) (Some step.conflicts)) _ (delivers s P none t)
        (arrived-sized (rowed p v.to now) v.from v.to heads counts step.agent step.unsolvable (counted-sized p _ P.sized (rw length-set P.sized.counts)))
        (λ shape.
        record {
          shape = shape;
          count = L.count ∙ sym k.count;
          clean = stays-clean p v.from v.to now heads counts P.sized (rw k.counts L.clean) (line-channel h v nv) (rw k.counts P.outside) t.count;
          owned = L.owned ∙ sym k.domains;
          table = L.table ∙ sym k.bans;
          beside = rw length-set wide;
          barred =
              rw k.agents
              (bars-stored bans v.to a E.to_low E.to_high e o.agents bars' wide barred step.agent step.conflicts h.sized.agents b);
        })

  -- the same, whether posts were stored or there were none
  pub sent-goes : (bars' : List (Option Conflicts)) → length bars' ≡ 12 → Barred bans o.agents bars' → {x : ℕ} {step : Step} → Stepped o v.from v.to x step
      → {q : Network} → Sent o v.to (posts_left step.outbox step.backs) q → {heads counts : ℕ} → Taken q v.from v.to heads counts
      → (a : ℕ) → a ≡ pairs_before (pred v.to) → BarsOf bans v.to a step.agent step.conflicts
      → Here once whole (arrived q v.from v.to heads counts step.agent step.unsolvable) n domains bans
      (set bars' (v.to - 1) (Some step.conflicts)) quota missed left made false v.from v.rest
  sent-goes bars' wide barred s sent t a e b = rw sent.raised (stored-goes bars' wide barred s sent.posting refl (rw sent.raised at t) a e b)
