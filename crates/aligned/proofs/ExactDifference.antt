-- The difference of two operands that have no more digits than the target keeps, in two limbs: it is selected as it is. Assumes nothing.
use mathlib.Core.Path.{◌≡◌, refl, sym, ap, ◌∙◌, subst}
use mathlib.Core.Bool.{Bool, false}
use mathlib.Core.List.{List}
use Prim.Native.Nat.{Ordering}
use Prim.Native.Nat.{ℕ, ◌+◌, ◌-◌, ◌*◌, ◌/◌, ◌^◌, ◌≤◌, ◌<◌, ◌∣◌}
use native.Mathlib.Nat.{mul_assoc, mul-div_cancel, div-add-mod', div-lt_iff_lt-mul, mod-eq-zero_of_dvd}
use native.Mathlib.Omega.{arith}
use borrow.Author.Tests.{ltb-false}
use lib.Ieee.{size}
use lib.Ieee.Digits.{size-le}
use lib.IntN.{pos}
use lib.ListN.{length}
use lib.Pow.{pow-add, pow_pos, shl_lt}
use Rattle.limb.specs.Value.{value_of, Below}
use Rattle.limb.proofs.Value.{value_unique, value_lt, base_pow}
use Rattle.numbers.specs.Limits.{least_exponent, most_exponent, limbs_for}
use Rattle.numbers.specs.Limbs.{limbs_of}
use Rattle.numbers.specs.Operand.{Operand, spare_bits}
use Rattle.numbers.proofs.Limits.{limbs_hold}
use Rattle.numbers.proofs.Digits.{limbs_count, limbs_below, limbs_value, digits_and_spare}
use Rattle.rounding.specs.Mode.{Way, way}
use Rattle.rounding.specs.declared.Mode.{Mode}
use Rattle.rounding.specs.Answer.{number, digits}
use Rattle.rounding.specs.Paper.{Rep, Written}
use Rattle.rounding.specs.Sum.{add}
use Rattle.rounding.proofs.Range.{written, written_unique}
use Rattle.location.specs.Ternary.{ternary_of}
use Rattle.place.specs.Placed.{placed_of, limbs_after}
use Rattle.twolimbs.specs.Two.{head_in, Brought}
use Rattle.twolimbs.specs.declared.Normal.{Normal}
use Rattle.twolimbs.proofs.Exact.{size_some, exact_rounded, written_longer, brought_written}
use Rattle.bridge.specs.Verdict.{pair_of, Ordered, read_sum}
use Rattle.bridge.proofs.Told.{pair_top}
use Rattle.bridge.proofs.Answers.{exact_sum, sum_pos}
use Rattle.bridge.proofs.Covered.{columns_above}
use Rattle.descent.proofs.JudgingRange.{digits_some}
use Rattle.descent.specs.Finishing.{Left}
use Rattle.wide.specs.Attempted.{Attempted}
use Rattle.aligned.specs.Aligned.{Aligned, Covered}
use Rattle.aligned.proofs.AllRead.{row, some, near, leads_all, covered_told}
use Rattle.aligned.proofs.Parting.{difference_all}
use Rattle.aligned.proofs.Clean.{both_clean}

module _ (o : Mode) (p : ℕ) (x y : Operand) (n z top : ℕ) (c : Covered p x y n z top) (apart : (pair_of x y).same ≡ false) (few : n ≤ 2) (h : x.precision ≤ p) (k : y.precision ≤ p) where
  abbrev a : Aligned x y n
  a = c.aligned

  abbrev d : Ordered x y
  d = c.course.ordered

  abbrev w : Way
  w = way o x.negative

  abbrev D : ℕ
  D = read_sum x y n

  abbrev s : ℕ
  s = x.exponent - 64 * n

  -- the digits below those kept
  abbrev spare : ℕ
  spare = 64 * n - p

  P : 0 < p
  P = digits_some p n c.room

  held : p ≤ 64 * n
  held = rw (sym c.room.count) at (limbs_hold p)

  above : 64 * n + 1 ≤ x.exponent
  above = columns_above x a.first a.first_regular n (omega (arith, near o p x y n z top c))

  difference : D ≡ value_of x.limbs - value_of y.limbs
  difference = difference_all x y n a apart

  D_some : 0 < D
  D_some = sum_pos o p P x y n d (some o p x y n z top c) (leads_all o p x y n z top c)

  D_lt : D < 2 ^ (64 * n)
  D_lt = rw difference (less (value_of x.limbs) (value_of y.limbs) (2 ^ (64 * n)) (rw (base_pow (length x.limbs), a.first_limbs) at (value_lt (2 ^ 64) x.limbs a.first.limb)))
    where
      less : (i j m : ℕ) → i < m → i - j < m
      less i j m h = omega arith

  D_clean : D / 2 ^ spare * 2 ^ spare ≡ D
  D_clean = flat _ (mod-eq-zero_of_dvd (2 ^ spare) (subst (λ (m : ℕ). 2 ^ spare ∣ m) (sym difference) (both_clean p n x y a h k))) (div-add-mod' D (2 ^ spare))
    where
      flat : (q : ℕ) {m : ℕ} → m ≡ 0 → q + m ≡ D → q ≡ D
      flat q e f = omega arith

  rep : Rep p D
  rep = record { digits = D / 2 ^ spare; shift = spare; few = (div-lt_iff_lt-mul (pow_pos spare)).1 (subst (λ (m : ℕ). D < m) (ap (λ (m : ℕ). 2 ^ m) (let i : 64 * n ≡ p + spare = omega (arith, held) in i) ∙ pow-add 2 p spare) D_lt); is = sym D_clean }

  -- its p digits, and zeros below them as far as two limbs go
  with_zeros : Written 128 s D (digits p D * 2 ^ (128 - p)) (size D + s)
  with_zeros = written_longer p 128 s D (digits p D) (size D + s) P (omega (arith, held)) (written p s D P D_some rep)

  least : least_exponent ≤ size D + s
  least = omega (arith, size_some D D_some, above, pair_top x y, ltb-false ((pair_of x y).top + 1) (least_exponent + 64 * n) (c.inland.low apart))

  most : size D + s ≤ most_exponent
  most = omega (arith, size-le D (64 * n) D_lt, above, (a.first.regular a.first_regular).most)

  module _ (r : Normal) (head : ℕ) (head_is : head ≡ (value_of x.limbs - value_of y.limbs) * 2 ^ (64 * (2 - n))) (b : Brought head top r) (upper : r.high < 2 ^ 64) (lower : r.low < 2 ^ 64) where
    abbrev N : ℕ
    N = head_in (2 ^ 64) false r.high r.low

    told : (N ≡ digits p D * 2 ^ (128 - p)) × (r.exponent ≡ size D + s)
    told =
        written_unique 128 s D N r.exponent (digits p D * 2 ^ (128 - p)) (size D + s) (omega arith)
        (brought_written head D (64 * (2 - n)) s top r b upper lower (head_is ∙ ap (λ (m : ℕ). m * 2 ^ (64 * (2 - n))) (sym difference)) (omega (arith, c.top_is, above, few)))
        with_zeros

    exponent_some : 0 < r.exponent
    exponent_some = omega (arith, size_some D D_some, told.1)

    answer : add o p x y ≡ number x.negative r.exponent (digits p D) Ordering.eq
    answer = exact_sum o p P x y n d (some o p x y n z top c) (omega (arith, above)) (leads_all o p x y n z top c) (row x y n a) ∙ exact_rounded w p s x.negative D P rep least most ∙ ap (λ (m : ℕ). number x.negative m (digits p D) Ordering.eq) (sym told.1)

    fits : digits p D * 2 ^ spare_bits p < 2 ^ (64 * limbs_for p)
    fits = subst (λ (m : ℕ). digits p D * 2 ^ spare_bits p < 2 ^ m) (digits_and_spare p) (shl_lt p (spare_bits p) (written p s D P D_some rep).few)

    -- the digits at the top of two limbs are those of the target where there is room for one limb
    in_room : N / 2 ^ (64 * (2 - n)) ≡ digits p D * 2 ^ spare_bits p
    in_room =
        ap (λ (m : ℕ). m / 2 ^ (64 * (2 - n))) (told.0 ∙ ap (λ (m : ℕ). digits p D * m) (ap (λ (m : ℕ). 2 ^ m) (let i : 128 - p ≡ spare_bits p + 64 * (2 - n) = omega (arith, few, held, digits_and_spare p, c.room.count) in i) ∙ pow-add 2 (spare_bits p) (64 * (2 - n))) ∙ sym (mul_assoc (digits p D) (2 ^ spare_bits p) (2 ^ (64 * (2 - n)))))
        ∙ mul-div_cancel (digits p D * 2 ^ spare_bits p) (pow_pos (64 * (2 - n)))

    module _ (exit : List ℕ) (count : length exit ≡ n) (lim : Below (2 ^ 64) exit) (value : value_of exit ≡ N / 2 ^ (64 * (2 - n))) where
      limbs_are : exit ≡ limbs_of (limbs_for p) (digits p D * 2 ^ spare_bits p)
      limbs_are =
          value_unique (2 ^ 64) exit (limbs_of (limbs_for p) (digits p D * 2 ^ spare_bits p)) lim (limbs_below (limbs_for p) _) (count ∙ c.room.count ∙ sym (limbs_count (limbs_for p) _))
          (value ∙ in_room ∙ sym (limbs_value (limbs_for p) _ fits))

      left : Left p (add o p x y) exit (record { rule = 0; exponent = r.exponent; ternary = pos 0 })
      unfolding placed_of limbs_after ternary_of
      left = rw answer (record { told = refl; limbs = limbs_are })

      pub exact_told : (negative : Bool) → negative ≡ x.negative → Attempted o p x y exit negative (record { rule = 0; exponent = r.exponent; ternary = pos 0 }) n n n
      exact_told negative sign = covered_told o p x y n z top c left (rw (answer, sign) (refl, exponent_some))
