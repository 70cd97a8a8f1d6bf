-- A sum of no more digits than are asked for is open while digits of the operands are unread. Assumes nothing.
use mathlib.Core.Path.{◌≡◌, refl, ap, ◌∙◌}
use mathlib.Core.Bool.{Bool, true, false, not, cond, ◌&&◌, ◌||◌}
use Prim.Native.Nat.{ℕ, ◌+◌, ◌-◌, ◌*◌, ◌%◌, ◌^◌, ◌≤◌, ◌<◌}
use native.Mathlib.Omega.{arith}
use borrow.Author.Tests.{le-ltb, lt-leb, ne_eqb}
use lib.Dec.{ltb, leb, eqb}
use lib.Ieee.{size}
use Rattle.limb.specs.Carry.{bit}
use Rattle.numbers.specs.Operand.{Operand}
use Rattle.numbers.proofs.Digits.{precision_two}
use Rattle.rounding.specs.Mode.{Way, near, under, over, way}
use Rattle.rounding.specs.declared.Mode.{Mode}
use Rattle.rounding.proofs.Order.{size_mono}
use Rattle.decide.specs.Class.{off, lean, enough, settled}
use Rattle.decide.specs.Decide.{decide_at}
use Rattle.settle.specs.Rows.{row_of, seen_row}
use Rattle.settle.specs.declared.rows.Pair.{Pair}
use Rattle.settle.specs.declared.rows.Row.TheVariants.{Plus, Minus}
use Rattle.bridge.specs.Verdict.{pair_of, Ordered, Leads, read_sum, settled_by, refused_by}
use Rattle.bridge.proofs.Told.{pair_second}
use Rattle.bridge.proofs.Answers.{tests_are}
use Rattle.descent.specs.Course.{Inland}
use Rattle.descent.proofs.AtOnce.{unrefused, seen_row_lem}

-- ---- the class test

second_false : (a b c : Bool) → b ≡ false → (a && (b && c)) ≡ false
second_false true b c e = rw e refl
second_false false b c e = refl

third_false : (a b c : Bool) → c ≡ false → (a && (b && c)) ≡ false
third_false true true c e = e
third_false true false c e = refl
third_false false b c e = refl

-- n has no more than p digits: a unit of the last one is a unit of n, or there are too few
module _ (p n : ℕ) (short : size n ≤ p) where
  abbrev u : ℕ
  u = 2 ^ (size n - p)

  one : u ≡ 1
  one = let z : size n - p ≡ 0 = omega arith in rw z refl

  no_rest : n % u ≡ 0
  no_rest = rw one (omega arith)

  next_open : (w : Way) (least most : Bool) → settled w p n least 1 most ≡ false
  unfolding settled
  next_open w least most = second_false (enough w p n) (ltb (n % u + 1) u) _ (le-ltb (n % u + 1) u (omega (arith, one)))

  more_open : (w : Way) → settled w p n false 0 true ≡ false
  unfolding settled enough lean off
  more_open near = rw (le-ltb p (size n) short) refl
  more_open under = third_false (leb p (size n)) (ltb (n % u + 0) u) _ (rw no_rest refl)
  more_open over = third_false (leb p (size n)) (ltb (n % u + 0) u) _ (rw no_rest refl)

seen_open : (w : Way) (p D : ℕ) → size D ≤ p → (s : Pair) (c : ℕ) → settled_by w p D (seen_row s c) ≡ false
unfolding settled_by bit
seen_open w p D short s c = go s.same (ltb c s.first && ltb c (s.gap + s.second)) (ltb c (s.gap + s.second)) (ltb c s.first) (not (eqb s.first (c + 1) && eqb (s.gap + s.second) (c + 1)))
  where
    go : (same both second first single : Bool) → settled_by w p D (cond same (cond both (Plus false true single) (Plus false false true)) (cond second (Minus first) (Plus false false true))) ≡ false
    go true true second first single = next_open p D short w false single
    go true false second first single = more_open p D short w
    go false both true first single = next_open p (D - 1) (omega (arith, size_mono (D - 1) D (omega arith))) w true first
    go false both false first single = more_open p D short w

-- ---- the decision

module _ (o : Mode) (p : ℕ) (P : 0 < p) (x y : Operand) (k : ℕ) (d : Ordered x y) (K : 1 ≤ k) (lead : Leads x y k) (regular : y.is_zero ≡ false) (above : 64 * k ≤ (pair_of x y).top) (inland : Inland (pair_of x y) k)
    (reached : (pair_of x y).gap < 64 * k) (unread : (leb (pair_of x y).first (64 * k) && leb ((pair_of x y).gap + (pair_of x y).second) (64 * k)) ≡ false) where
  abbrev s : Pair
  s = pair_of x y

  row_is : row_of s k ≡ seen_row s (64 * k)
  unfolding row_of
  row_is = rw (ne_eqb s.second 0 (λ e. omega (arith, pair_second x y regular, precision_two y d.second)), unread, lt-leb (64 * k) s.gap reached) refl

  pub short_open : size (read_sum x y k) ≤ p → decide_at o p x y k ≡ false
  short_open short =
      tests_are o p P x y k d K lead (seen_row s (64 * k)) row_is (seen_row_lem s (64 * k))
      ∙ ap (λ (b : Bool). b || refused_by (way o x.negative) p s k (read_sum x y k)) (seen_open (way o x.negative) p (read_sum x y k) short s (64 * k)) ∙ unrefused o p P x y k d K lead above inland
