-- A target without a digit to spare, and one column more below it. Definitions only.
use Rattle.std.specs.Prelude.{ℕ, ◌+◌, ◌*◌, ◌^◌, ◌<◌, ◌≡◌, false, ◌&&◌, List, leb, length}
use Rattle.limb.specs.Value.{value_of}
use Rattle.numbers.specs.Operand.{Operand}
use Rattle.settle.specs.declared.rows.Pair.{Pair}
use Rattle.bridge.specs.Verdict.{read_sum}
use Rattle.descent.specs.Course.{Inland}
use Rattle.wide.specs.Filling.{Holding}

-- n limbs have no digit to spare, both operands reach into the columns that fill them, and these leave some digit unread
pub record Spent (p : ℕ) (pair : Pair) (n : ℕ) : Type 0 where
  pub full : p ≡ 64 * n
  pub reached : pair.gap < 64 * n
  pub unread : (leb pair.first (64 * n) && leb (pair.gap + pair.second) (64 * n)) ≡ false

-- nothing is carried out of such a target, one column more stands below it, and no refusal is near
pub record Guards (p : ℕ) (pair : Pair) (first second target : List ℕ) (guard : ℕ) : Type 0 where
  pub spent : Spent p pair (length target)
  pub inland : Inland pair (length target)
  pub value : (x y : Operand) → Holding x y pair first second → read_sum x y (length target + 1) ≡ value_of target * 2 ^ 64 + guard
