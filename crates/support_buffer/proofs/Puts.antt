-- Bytes put one behind the other are all of them put; what is left to put shrinks by what is put.
-- What is put first ends where the next begins, so the second does not touch it.
use Rattle.std.proofs.Common.{ℕ, suc, ◌+◌, ◌-◌, ◌≤◌, ◌≡◌, refl, sym, ap, ◌∙◌, List, [], ◌++◌, add-one, arith, length, length-append}
use Rattle.model_base.specs.Finite.{gather}
use Rattle.model_base.proofs.Lists.{gather-last}
use Rattle.model_base.proofs.Gathers.{gather-split}
use Rattle.support_buffer.specs.Abstract.{over}
use Rattle.support_buffer.proofs.Over.{over_nothing, over-over}
use Rattle.support_buffer.specs.declared.cursor.Cursor.{Cursor}
use Rattle.support_buffer.specs.Puts.{Room, Puts, Adds}

-- one stretch, and another behind it
pub puts_then : {old mid new : Cursor} {a b : ℕ} {xs ys : List ℕ} → Puts old a xs mid → Puts mid b ys new → Puts old (a + b) (xs ++ ys) new
puts_then {old} {mid} {new} {a} {b} {xs} {ys} p q =
    let near : Room old a = p.room in
    let far : Room mid b = q.room in
    let e : mid.at ≡ old.at + length xs = omega (arith, p.behind, p.long) in
    record {
      same = q.same ∙ p.same;
      room = omega (arith, far, p.kept, p.behind);
      kept = q.kept ∙ p.kept;
      long = omega (arith, length-append xs ys, p.long, q.long);
      put = q.put ∙ rw p.put (over-over old.at mid.at xs ys old.buffer.now (omega (arith, near)) e);
      behind = omega (arith, p.behind, q.behind);
    }

-- the same, said otherwise
pub puts-as : {old new : Cursor} {a b : ℕ} {xs ys : List ℕ} → a ≡ b → xs ≡ ys → Puts old a xs new → Puts old b ys new
puts-as e f p = rw (← e, ← f) p

-- all of some bytes, and all of others behind them
pub adds_then : {old mid new : Cursor} {xs ys : List ℕ} → Adds old xs mid → Adds mid ys new → Adds old (xs ++ ys) new
adds_then {xs = xs} {ys = ys} p q = puts-as (sym (length-append xs ys)) refl (puts_then p q)

-- ---- what is gathered, put part by part

-- the first k of what is gathered from a number on
pub record Gathered (old : Cursor) (count : ℕ) (f : ℕ → List ℕ) (from k : ℕ) (now : Cursor) : Type 0 where
  pub put : Puts old count (gather k from f) now

pub none_gathered : (c : Cursor) (f : ℕ → List ℕ) (count from k : ℕ) → c.at ≤ length c.buffer.now → k ≡ 0 → count ≡ 0 → Gathered c count f from k c
unfolding gather
none_gathered c f count from k h e z =
    record { put = rw (e, z) (record { same = refl; room = omega (arith, h); kept = refl; long = refl; put = sym (over_nothing c.at c.buffer.now); behind = omega arith }) }

-- and the next one
pub one_more : {old now new : Cursor} {a b from k : ℕ} {xs : List ℕ} {f : ℕ → List ℕ} → Gathered old a f from k now → (d k' : ℕ) → Puts now b xs new
    → xs ≡ f (from + k) → k' ≡ k + 1 → d ≡ a + b → Gathered old d f from k' new
one_more {from = from} {k = k} {f = f} p d k' q here more e =
    record { put = puts-as (sym e) (sym (rw (more, add-one k, here) (gather-last k from f))) (puts_then p.put q) }

pub all-gathered : {old now : Cursor} {a from k : ℕ} {f : ℕ → List ℕ} → Gathered old a f from k now → (b n : ℕ) → k ≡ n → a ≡ b → Puts old b (gather n from f) now
all-gathered {from = from} {f = f} p b n e d = puts-as d (ap (λ (k : ℕ). gather k from f) e) p.put

-- there is room for it, where there is room for all
pub room-left : (f : ℕ → List ℕ) (n from k : ℕ) → k + 1 ≤ n → length (gather k from f) + length (f (from + k)) ≤ length (gather n from f)
room-left f n from k h =
    let e : n ≡ suc k + (n - suc k) = omega arith in
    rw e (rw (gather-split (suc k) (n - suc k) from f, gather-last k from f, length-append)
    (omega (arith, length-append (gather k from f) (f (from + k)))))

-- ---- what is left to put: it leaves what putting all would have left

pub record Left (old : Cursor) (all : List ℕ) (now : Cursor) (rest : List ℕ) : Type 0 where
  pub same : now.buffer.ghost_name ≡ old.buffer.ghost_name
  pub room : Room now (length rest)
  pub kept : length now.buffer.now ≡ length old.buffer.now
  pub end : now.at + length rest ≡ old.at + length all
  pub put : over now.at rest now.buffer.now ≡ over old.at all old.buffer.now

pub all_left : (old : Cursor) (all : List ℕ) {count : ℕ} → length all ≡ count → Room old count → Left old all old all
all_left old all e h = record { same = refl; room = omega (arith, e, h); kept = refl; end = refl; put = refl }

pub left_as : {old now : Cursor} {all rest rest' : List ℕ} → rest ≡ rest' → Left old all now rest → Left old all now rest'
left_as e l = rw (← e) l

pub less-left : {old now new : Cursor} {all xs ys : List ℕ} {count : ℕ} → Left old all now (xs ++ ys) → Puts now count xs new → Left old all new ys
less-left {old} {now} {new} {all} {xs} {ys} l p =
    let room : Room now (length (xs ++ ys)) = l.room in
    let e : new.at ≡ now.at + length xs = omega (arith, p.behind, p.long) in
    record {
      same = p.same ∙ l.same;
      room = omega (arith, room, length-append xs ys, p.kept);
      kept = p.kept ∙ l.kept;
      end = omega (arith, l.end, length-append xs ys);
      put = rw p.put (over-over now.at new.at xs ys now.buffer.now (omega (arith, room)) e) ∙ l.put;
    }

pub none_left : {old now : Cursor} {all : List ℕ} → Left old all now [] → {count : ℕ} → length all ≡ count → Puts old count all now
none_left {old} {now} {all} l e =
    let room : Room now 0 = l.room in
    record {
      same = l.same;
      room = omega (arith, room, l.kept, l.end);
      kept = l.kept;
      long = e;
      put = sym (over_nothing now.at now.buffer.now) ∙ l.put;
      behind = omega (arith, l.end);
    }
