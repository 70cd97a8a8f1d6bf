-- Where every test holds, nothing is refused; and what the quick tests say of the definitions. Assumes nothing.
use mathlib.Core.Path.{◌≡◌, ◌∙◌}
use mathlib.Core.Bool.{Bool, true, false, ◌&&◌}
use mathlib.Core.List.{List, [], ◌∷◌}
use Prim.Native.Nat.{ℕ, ◌+◌, ◌-◌, ◌/◌, ◌^◌, ◌≤◌, ◌<◌}
use native.Mathlib.Omega.{arith}
use lib.Dec.{eqb}
use lib.ListN.{length, get_or}
use borrow.Author.Tests.{leb-true, le-leb, lt-leb, eqb-true}
use Rattle.std.specs.Prelude.{Result}
use Rattle.limb.proofs.Tests.{both_true, true_false}
use Rattle.numbers.specs.Limits.{least_precision, limbs_for}
use Rattle.numbers.specs.Operand.{Operand}
use Rattle.checks.specs.declared.Number.{Number}
use Rattle.checks.specs.declared.Refusal.{Refusal}
use Rattle.checks.specs.Number.{is_zero_kind, operand_of}
use Rattle.checks.specs.Check.{accepted, mode_holds, precision_holds, length_holds, exponent_holds, top_bit_holds, spare_bits_hold, form_holds, pair_refusal, single_refusal, compared_refusal, converted_refusal, alone_refusal}
use Rattle.checks.specs.Passes.{TargetPasses, Passes}
use Rattle.checks.proofs.Tables.{all_accepted}

pub pair_passes : (mode : ℕ) (x y : Operand) (p n : ℕ) → mode_holds mode ≡ true → Passes x → Passes y → TargetPasses p n → pair_refusal mode x y p n ≡ accepted
unfolding pair_refusal
pair_passes mode x y p n m a b t = all_accepted _ (m, (a.precision, (b.precision, (t.precision, (a.limbs, (b.limbs, (t.limbs, (a.exponent, (b.exponent, (a.form, (b.form, tt)))))))))))

pub single_passes : (mode : ℕ) (x : Operand) (p n : ℕ) → mode_holds mode ≡ true → Passes x → TargetPasses p n → single_refusal mode x p n ≡ accepted
unfolding single_refusal
single_passes mode x p n m a t = all_accepted _ (m, (a.precision, (t.precision, (a.limbs, (t.limbs, (a.exponent, (a.form, tt)))))))

pub compared_passes : (x y : Operand) → Passes x → Passes y → compared_refusal x y ≡ accepted
unfolding compared_refusal
compared_passes x y a b = all_accepted _ (a.precision, (b.precision, (a.limbs, (b.limbs, (a.exponent, (b.exponent, (a.form, (b.form, tt))))))))

pub converted_passes : (mode : ℕ) (x : Operand) → mode_holds mode ≡ true → Passes x → converted_refusal mode x ≡ accepted
unfolding converted_refusal
converted_passes mode x m a = all_accepted _ (m, (a.precision, (a.limbs, (a.exponent, (a.form, tt)))))

pub alone_passes : (x : Operand) → Passes x → alone_refusal x ≡ accepted
unfolding alone_refusal
alone_passes x a = all_accepted _ (a.precision, (a.limbs, (a.exponent, (a.form, tt))))

-- ---- from the tests of the code

pub sized_passes : (p n : ℕ) → precision_holds p ≡ true → eqb n ((p + 63) / 64) ≡ true → TargetPasses p n
unfolding length_holds limbs_for
sized_passes p n h k = record { precision = h; limbs = k }

-- the top limb decides, or the lowest does
pub top_fails : (p : ℕ) (l : List ℕ) → get_or l (length l - 1) 0 < 2 ^ 63 → false ≡ top_bit_holds l && spare_bits_hold p l
unfolding top_bit_holds
top_fails p l h = simp (lt-leb (2 ^ 63) (get_or l (length l - 1) 0) h)

pub low_decides : (p : ℕ) (l : List ℕ) (b : Bool) → 2 ^ 63 ≤ get_or l (length l - 1) 0 → b ≡ spare_bits_hold p (get_or l 0 0 ∷ []) → b ≡ top_bit_holds l && spare_bits_hold p l
unfolding top_bit_holds spare_bits_hold
low_decides p l b h e = e ∙ simp (le-leb (2 ^ 63) (get_or l (length l - 1) 0) h)

pub some_limb : (p n : ℕ) → TargetPasses p n → 0 < n
unfolding precision_holds length_holds least_precision limbs_for
some_limb p n t = let least = leb-true 2 p (both_true _ _ t.precision).0 in let count = eqb-true n ((p + 63) / 64) t.limbs in omega arith

module _ (x : Number) (l : List ℕ) (t : TargetPasses x.precision (length l)) (e : exponent_holds (operand_of x []) ≡ true) where
  pub zero_passes : is_zero_kind x.kind ≡ true → Passes (operand_of x l)
  unfolding operand_of exponent_holds form_holds
  zero_passes z = record { precision = t.precision; limbs = t.limbs; exponent = e; form = rw z }

  pub regular_passes : is_zero_kind x.kind ≡ false → top_bit_holds l && spare_bits_hold x.precision l ≡ true → Passes (operand_of x l)
  unfolding operand_of exponent_holds form_holds
  regular_passes z f = record { precision = t.precision; limbs = t.limbs; exponent = e; form = rw z f }

-- an operand of which a test fails does not pass
module _ (x : Number) (l : List ℕ) where
  pub exponent_fails : exponent_holds (operand_of x []) ≡ false → Passes (operand_of x l) → ⊥
  unfolding operand_of exponent_holds
  exponent_fails e t = true_false t.exponent e

  pub limbs_fail : is_zero_kind x.kind ≡ false → top_bit_holds l && spare_bits_hold x.precision l ≡ false → Passes (operand_of x l) → ⊥
  unfolding operand_of form_holds
  limbs_fail z f t = true_false (rw z at t.form) f

-- a refusal of copies
pub copies_refused : {a b x y : Number} {r : Result (Unit {0}) Refusal} (mode : ℕ) (xl yl : List ℕ) (p n : ℕ) → r ≡ pair_refusal mode (operand_of a xl) (operand_of b yl) p n → a ≡ x → b ≡ y → r ≡ pair_refusal mode (operand_of x xl) (operand_of y yl) p n
copies_refused mode xl yl p n h i j = h ∙ rw (i, j)
