-- `descent::ending::clear_low` is right since after i turns the lowest i limbs are 0 and the others as they were. Assumes nothing.
use mathlib.Core.Path.{◌≡◌, refl, ap, ◌∙◌}
use mathlib.Core.List.{List, ◌++◌}
use Prim.Native.Nat.{ℕ, ◌-◌, ◌<◌}
use native.Mathlib.Omega.{arith}
use lib.ListN.{length, drop, set, replicate, length-set}
use borrow.Author.Fill.{fill_more}
use borrow.Author.Rules.{rules}
use Rattle.descent.proofs.Finishing.{cleared}
use Rattle.descent.proofs.ending.clear_low.Goals as goal

pub loop-i-init : goal.loop-i-init
loop-i-init c = (search rules, c.requires, search rules, refl)

pub loop-i-preserved : goal.loop-i-preserved
loop-i-preserved c = (
  search rules,
  search rules,
  simp length-set (omega arith),
  let l = c.loop-i in
      let t : List ℕ = c.args.target.now in
      let h : l.i < length t = omega arith in
      ap (λ (m : List ℕ). set m l.i 0) l.invariant.3 ∙ fill_more l.i 0 t h,
)

pub returns : goal.returns
returns c =
    let l = c.loop-i in
    let t : List ℕ = c.args.target.now in
    let n : ℕ = c.args.n in
    let e : l.i ≡ n = omega arith in
    cleared n t _ l.invariant.2 (l.invariant.3 ∙ ap (λ (m : ℕ). replicate m 0 ++ drop m t) e)
