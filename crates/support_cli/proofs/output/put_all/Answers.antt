use Rattle.std.proofs.Common.{ℕ, List, ◌≡◌, ◌≤◌, ◌+◌, ◌-◌, ◌++◌, length, take, drop, arith, sym, ap, ◌∙◌, subst, length-drop}
use Rattle.std.proofs.Math.Seq.{take-add}
use Rattle.std.proofs.lemmas.List.{take_rest}
use Rattle.std.specs.Io.KnownBytes.{Appends}
use Rattle.std.proofs.KnownBytes.{Appends-trans, Appends-kept}
use Rattle.support_cli.proofs.output.put_all.Goals as goal
use Rattle.support_cli.proofs.output.put_all.Goals.{in-Ok, in-Err+else-ne}

-- what a write takes of the rest lies within the whole
within : (d n : ℕ) (xs : List ℕ) → d ≤ length xs → n ≤ length (take (length xs - d) (drop d xs)) → d + n ≤ length xs
within d n xs h k =
    let P : List ℕ → Type 0 = λ l. n ≤ length l in
    let left : n ≤ length (drop d xs) = subst P (take_rest xs d) k in
    omega (arith, length-drop d xs)

-- .. and continues what was taken before
continued : (d n : ℕ) (xs : List ℕ) → take (d + n) xs ≡ take d xs ++ take n (take (length xs - d) (drop d xs))
continued d n xs = take-add d n xs ∙ ap (λ l. take d xs ++ take n l) (sym (take_rest xs d))

pub loop-preserved : goal.loop-preserved
loop-preserved g c =
    let d = c.loop.done in
    let bytes = c.args.bytes.now in
    let old = g.W.Write.contents c.args.writer.now in
    let new = g.W.Write.contents c.write.new.self in
    let P : ℕ → Type 0 = λ m. (m ≤ length bytes) × Appends old new (take m bytes) in
    elim c.match-write.branch [
      | in-Ok w ↦
          let n = w.in-Ok.n in
          let both = Appends-trans _ _ _ _ _ c.loop.invariant.1 w.in-Ok.ensures.bytes in
          subst P (sym w.done-is) (within d n bytes c.loop.invariant.0 w.in-Ok.ensures.bound, subst (Appends old new) (sym (continued d n bytes)) both)
      | in-Err+else-ne w ↦ subst P (sym w.done-is) (c.loop.invariant.0, Appends-kept _ _ _ _ c.loop.invariant.1 w.in-Err.ensures.bytes)
    ]
