-- `reader::read_limbs`: from the top down, the limbs read so far are the first of the line. Assumes nothing.
use native.Mathlib.Omega.{arith}
use mathlib.Core.Path.{◌≡◌}
use mathlib.Core.List.{List}
use Prim.Native.Nat.{ℕ, ◌-◌}
use native.Mathlib.Nat.{sub-zero}
use lib.ListN.{length, drop, length-set}
use lib.Seq.{drop-length}
use Rattle.lines.specs.Reading.{limbs_in}
use Rattle.lines.proofs.Fields.{shortest_is, limb_more, no_limbs}
use borrow.Author.Rules.{rules}
use Rattle.reader.proofs.read_limbs.Goals as goal

finished : (line target : List ℕ) (i n : ℕ) → i ≡ 0 → drop i target ≡ limbs_in (n - i) line → target ≡ limbs_in n line
finished line target i n e h = rw (e, sub-zero n) at h

pub loop-i-init : goal.loop-i-init
loop-i-init c =
    let a = c.args in
    let t : List ℕ = a.target.now in
    let none : length t - length t ≡ 0 = omega arith in
    (search rules, search rules, rw (none, drop-length t) (no_limbs a.line.now))

pub field_at-requires : goal.field_at-requires
field_at-requires c = (c.requires.0, omega (arith, shortest_is), omega arith)

pub overflow_add-at : goal.overflow_add-at
overflow_add-at c = omega (arith, shortest_is)

pub loop-i-preserved : goal.loop-i-preserved
loop-i-preserved c =
    let l = c.loop-i in
    let a = c.args in
    let t : List ℕ = a.target.now in
    (simp length-set (omega arith), omega arith, limb_more a.line.now l.target l.i (l.i - 1) (length t - l.i) (length t - (l.i - 1)) l.at _ (omega arith) (omega arith) (omega arith) (omega arith) c.field_at.ensures.0 l.invariant.2)

pub returns : goal.returns
returns c =
    let l = c.loop-i in
    let a = c.args in
    finished a.line.now l.target l.i (length a.target.now) (omega arith) l.invariant.2
