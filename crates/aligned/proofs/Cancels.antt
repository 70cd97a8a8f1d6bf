-- Two operands of which all limbs are alike cancel: a zero, and every column is read. Assumes nothing.
use mathlib.Core.Path.{◌≡◌, refl, sym, ap, ◌∙◌, subst}
use mathlib.Core.Bool.{Bool}
use mathlib.Core.List.{List}
use Prim.Native.Nat.{ℕ, ◌-◌, ◌<◌, max}
use native.Mathlib.Omega.{arith}
use lib.IntN.{pos}
use lib.ListN.{length, drop, replicate}
use Rattle.limb.specs.Value.{value_of}
use Rattle.numbers.specs.Operand.{Operand}
use Rattle.rounding.specs.declared.Mode.{Mode}
use Rattle.rounding.specs.Answer.{Answer, zero_of}
use Rattle.rounding.specs.Sum.{zero_sign}
use Rattle.place.specs.declared.Placed.{Placed}
use Rattle.place.specs.Placed.{placed_of, limbs_after}
use Rattle.columns.specs.Column.{read_to}
use Rattle.checks.specs.Room.{Room}
use Rattle.descent.specs.Finishing.{Left}
use Rattle.descent.specs.Level.{Level}
use Rattle.descent.proofs.Cancelled.{near, depth_told, sum, first_used, second_used}
use Rattle.reports.specs.Signed.{Signed}
use Rattle.wide.specs.Attempted.{Attempted}
use Rattle.aligned.specs.Aligned.{Aligned, Alike, Cancelling}
use Rattle.aligned.proofs.Parting.{read_level}
use Rattle.aligned.proofs.AllRead.{used}

-- ---- runs of which all limbs are alike

pub all_alike : (a b : List ℕ) (n z : ℕ) → length a ≡ n → Alike a b z → z ≡ n → value_of b ≡ value_of a
all_alike a b n z e s f = subst (λ (m : ℕ). value_of (drop m b) ≡ value_of (drop m a)) none s.level
  where
    none : length a - z ≡ 0
    none = omega arith

-- the sign of a zero is that of its operands' signs
pub sign_of : (o : Mode) {a b u v : Bool} → a ≡ u → b ≡ v → zero_sign o a b ≡ zero_sign o u v
sign_of o {a} {b} {u} {v} i j = rw (i, j) refl

-- ---- their sum

-- in a target of m limbs
module _ (o : Mode) (p m n : ℕ) (x y : Operand) (room : Room p m) (some : 0 < n) (c : Cancelling x y n) where
  abbrev a : Aligned x y n
  a = c.aligned

  level : Level x y
  level = record { first = a.first; second = a.second; first_regular = a.first_regular; second_regular = a.second_regular; even = a.even; unlike = c.unlike }

  all : n ≡ max (length x.limbs) (length y.limbs)
  all = rw (a.first_limbs, a.second_limbs) (go n)
    where
      go : (m : ℕ) → m ≡ max m m
      go m = omega arith

  alike : read_to n 0 y.limbs ≡ read_to n 0 x.limbs
  alike = read_level x y n a c.level

  -- a cleared target is what a zero leaves
  zero_left : (negative : Bool) {exit : List ℕ} {placed : Placed} → placed ≡ record { rule = 0; exponent = 0; ternary = pos 0 } → exit ≡ replicate m 0 → Left p (zero_of negative) exit placed
  unfolding placed_of limbs_after
  zero_left negative e f = record { told = e; limbs = f ∙ ap (λ (j : ℕ). replicate j 0) room.count }

  -- what is told of it
  pub cancelled_told : {exit : List ℕ} {negative : Bool} {placed : Placed} → negative ≡ zero_sign o x.negative y.negative → placed ≡ record { rule = 0; exponent = 0; ternary = pos 0 } → exit ≡ replicate m 0 → Attempted o p x y exit negative placed n n n
  cancelled_told {exit} {negative} {placed} s e f =
      let zero = sum o p m room x y level n all alike in
      record {
        decides = depth_told o p m room x y level n all alike;
        bounded = near o p m room x y level n all alike;
        left = subst (λ (b : Answer). Left p b exit placed) (sym zero) (zero_left (zero_sign o x.negative y.negative) e f);
        signed = subst (Signed negative) (sym zero) (sym s);
        first_used = used x n some a.first_limbs ∙ first_used o p m room x y level n all alike;
        second_used = used y n some a.second_limbs ∙ second_used o p m room x y level n all alike;
      }
