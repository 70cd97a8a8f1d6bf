-- Two limbs less than a limb apart: two columns read all of them, the sum has no more digits than the answer, and it is told as it stands. Assumes nothing.
use mathlib.Core.Path.{◌≡◌, refl, sym, ap, ◌∙◌, subst}
use mathlib.Core.Bool.{Bool, true, false, cond, ◌&&◌}
use mathlib.Core.List.{List, [], ◌∷◌}
use Prim.Native.Nat.{Ordering}
use Prim.Native.Nat.{ℕ, ◌+◌, ◌-◌, ◌*◌, ◌^◌, ◌≤◌, ◌<◌}
use native.Mathlib.Nat.{lt_of_lt_of_le, mul_assoc}
use native.Mathlib.Omega.{arith}
use borrow.Author.Tests.{le-leb, leb-true, ltb-false}
use lib.Dec.{ltb, leb}
use lib.Ieee.{size}
use lib.IntN.{pos}
use lib.ListN.{length}
use lib.Pow.{pow-add, pow_mono, shl_lt}
use Rattle.limb.specs.Value.{value_of, Below}
use Rattle.limb.proofs.Value.{value_unique, base_pow}
use Rattle.numbers.specs.Limits.{least_exponent, most_exponent, limbs_for}
use Rattle.numbers.specs.Limbs.{limbs_of}
use Rattle.numbers.specs.Operand.{Operand, spare_bits}
use Rattle.numbers.proofs.Digits.{limbs_count, limbs_below, limbs_value, digits_and_spare, precision_two}
use Rattle.rounding.specs.Mode.{Way, way}
use Rattle.rounding.specs.declared.Mode.{Mode}
use Rattle.rounding.specs.Answer.{number, digits}
use Rattle.rounding.specs.Paper.{Rep, Written}
use Rattle.rounding.specs.Sum.{add}
use Rattle.rounding.proofs.Range.{written, written_unique}
use Rattle.decide.specs.Decide.{decide_at}
use Rattle.location.specs.Ternary.{ternary_of}
use Rattle.place.specs.Placed.{placed_of, limbs_after}
use Rattle.reports.specs.Counts.{used_of}
use Rattle.reports.proofs.Counts.{used_all}
use Rattle.settle.specs.Rows.{row_of}
use Rattle.settle.specs.declared.rows.Pair.{Pair}
use Rattle.settle.specs.declared.rows.Row.TheVariants.{Exact}
use Rattle.bridge.specs.Verdict.{pair_of, Ordered, Leads, read_sum, verdict}
use Rattle.bridge.proofs.Told.{pair_second}
use Rattle.bridge.proofs.Decision.{decision}
use Rattle.bridge.proofs.Answers.{exact_sum, sum_pos}
use Rattle.bridge.proofs.Covered.{columns_above}
use Rattle.checks.specs.Room.{Room}
use Rattle.descent.specs.Course.{Inland}
use Rattle.descent.specs.Finishing.{Left}
use Rattle.descent.proofs.JudgingRange.{digits_some}
use Rattle.descent.proofs.AtOnce.{inland_sooner}
use Rattle.descent.proofs.RegularEnd.{deep_enough}
use Rattle.wide.specs.Filling.{Holding}
use Rattle.wide.specs.Attempted.{Attempted}
use Rattle.wide.proofs.Unread.{row_read}
use Rattle.wide.proofs.InOrder.{fixed_told}
use Rattle.wide.proofs.Level.{short_open}
use Rattle.wide.proofs.GuardBelow.{leads_held}
use Rattle.twolimbs.specs.Two.{head_in, Brought}
use Rattle.twolimbs.specs.declared.Normal.{Normal}
use Rattle.twolimbs.proofs.Exact.{size_some, exact_rounded, written_longer, brought_written}
use Rattle.short.proofs.Held.{first_few, second_few, top_told, sum_read, sum_lt, sum_size}

module _ (p : ℕ) (pair : Pair) (u v n : ℕ) (room : Room p n) (long : 2 < n) (near : pair.gap < 64) (high : ltb most_exponent (pair.top + 2) ≡ false) (low : ltb (pair.top + 1) (least_exponent + 64 * n) ≡ false)
    (o : Mode) (x y : Operand) (h : Holding x y pair (u ∷ []) (v ∷ [])) where
  abbrev d : Ordered x y
  d = h.course.ordered

  abbrev w : Way
  w = way o x.negative

  abbrev D : ℕ
  D = read_sum x y 2

  abbrev s : ℕ
  s = x.exponent - 64 * 2

  some_p : 0 < p
  some_p = digits_some p n room

  many : 129 ≤ p
  unfolding limbs_for
  many = omega (arith, room.count)

  above : 64 * 2 + 1 ≤ x.exponent
  above = columns_above x d.first d.regular 2 (omega (arith, deep_enough))

  at_top : pair.top ≡ x.exponent
  at_top = top_told x y pair u v h

  lead : (k : ℕ) → 1 ≤ k → Leads x y k
  lead k K = leads_held x y pair (u ∷ []) (v ∷ []) h k K

  second_some : 0 < pair.second
  second_some = rw h.pair_is (omega (arith, pair_second x y h.regular, precision_two y d.second))

  D_some : 0 < D
  D_some = sum_pos o p some_p x y 2 d (omega arith) (lead 2 (omega arith))

  -- ---- the columns that fix it

  ends : (k : ℕ) → 1 ≤ k → pair.gap + pair.second ≤ 64 * k → row_of (pair_of x y) k ≡ Exact
  ends k K e = ap (λ (q : Pair). row_of q k) (sym h.pair_is) ∙ row_read pair k second_some (rw (le-leb pair.first (64 * k) (omega (arith, first_few x y pair u v h)), le-leb (pair.gap + pair.second) (64 * k) e) refl)

  fixed_by : (k : ℕ) → 1 ≤ k → pair.gap + pair.second ≤ 64 * k → decide_at o p x y k ≡ true
  unfolding verdict
  fixed_by k K e = decision o p some_p x y k d K (lead k K) ∙ ap (verdict o p x y k) (ends k K e)

  two_end : pair.gap + pair.second ≤ 64 * 2
  two_end = omega (arith, second_few x y pair u v h)

  open_one : leb (pair.gap + pair.second) (64 * 1) ≡ false → decide_at o p x y 1 ≡ false
  open_one e =
      let unread : (leb pair.first (64 * 1) && leb (pair.gap + pair.second) (64 * 1)) ≡ false = rw (le-leb pair.first (64 * 1) (first_few x y pair u v h), e) refl in
      let calm : Inland pair 1 = inland_sooner pair n 1 (omega arith) (record { high = λ q. high; low = λ q. low }) in
      let up : 64 * 1 ≤ pair.top = omega (arith, above, at_top) in
      short_open o p some_p x y 1 d (omega arith) (lead 1 (omega arith)) h.regular (rw h.pair_is at up) (rw h.pair_is at calm) (rw h.pair_is at near) (rw h.pair_is at unread) (omega (arith, many, sum_size x y pair u v h 1))

  record Deep (k : ℕ) : Type 0 where
    some : 1 ≤ k
    fixed : decide_at o p x y k ≡ true
    first : 1 < k → decide_at o p x y (k - 1) ≡ false
    most : k ≤ 2
    larger_used : 1 ≡ used_of k 0 1
    other_used : 1 ≡ used_of k pair.gap 1

  deep : (b : Bool) → leb (pair.gap + pair.second) 64 ≡ b → Deep (cond b 1 2)
  deep true e = record { some = omega arith; fixed = fixed_by 1 (omega arith) (leb-true (pair.gap + pair.second) 64 e); first = λ l. absurd (omega arith); most = omega arith; larger_used = used_all 1 0 1 (omega arith) (omega arith); other_used = used_all 1 pair.gap 1 near (omega arith) }
  deep false e = record { some = omega arith; fixed = fixed_by 2 (omega arith) two_end; first = λ l. open_one e; most = omega arith; larger_used = used_all 2 0 1 (omega arith) (omega arith); other_used = used_all 2 pair.gap 1 (omega arith) (omega arith) }

  -- ---- the answer

  few : D < 2 ^ p
  few = lt_of_lt_of_le (sum_lt x y pair u v h 2) (pow_mono {i = 64 * 2 + 1} {j = p} (omega (arith, many)))

  rep : Rep p D
  rep = record { digits = D; shift = 0; few = few; is = omega arith }

  module _ (r : Normal) (head : ℕ) (head_is : head ≡ cond pair.same (u * 2 ^ 64 + v * 2 ^ (64 - pair.gap)) (u * 2 ^ 64 - v * 2 ^ (64 - pair.gap))) (brought : Brought head pair.top r) (upper : r.high < 2 ^ 64) (lower : r.low < 2 ^ 64) where
    b : Brought D pair.top r
    b = subst (λ (m : ℕ). Brought m pair.top r) (head_is ∙ sym (sum_read x y pair u v h near)) brought

    abbrev N : ℕ
    N = head_in (2 ^ 64) false r.high r.low

    mine : Written p s D (N * 2 ^ (p - 128)) r.exponent
    mine = written_longer 128 p s D N r.exponent (omega arith) (omega (arith, many)) (brought_written D D 0 s pair.top r b upper lower (omega arith) (omega (arith, above, at_top)))

    told : (digits p D ≡ N * 2 ^ (p - 128)) × (size D + s ≡ r.exponent)
    told = written_unique p s D (digits p D) (size D + s) (N * 2 ^ (p - 128)) r.exponent some_p (written p s D some_p D_some rep) mine

    exponent_some : 0 < r.exponent
    exponent_some = omega (arith, size_some D D_some, told.1)

    answer : add o p x y ≡ number x.negative r.exponent (N * 2 ^ (p - 128)) Ordering.eq
    answer = exact_sum o p some_p x y 2 d (omega arith) (omega (arith, above)) (lead 2 (omega arith)) (ends 2 (omega arith) two_end) ∙ exact_rounded w p s x.negative D some_p rep least most ∙ rw (told.0, told.1) refl
      where
        least : least_exponent ≤ size D + s
        least = omega (arith, size_some D D_some, above, at_top, ltb-false (pair.top + 1) (least_exponent + 64 * n) low)

        most : size D + s ≤ most_exponent
        most = omega (arith, sum_size x y pair u v h 2, above, at_top, ltb-false most_exponent (pair.top + 2) high)

    -- the digits, with zeros below them as far as the target goes
    spread : N * (2 ^ 64) ^ (n - 2) ≡ N * 2 ^ (p - 128) * 2 ^ spare_bits p
    spread =
        ap (λ (m : ℕ). N * m) (base_pow (n - 2) ∙ ap (λ (m : ℕ). 2 ^ m) (let z : 64 * (n - 2) ≡ p - 128 + spare_bits p = omega (arith, many, digits_and_spare p, room.count) in z) ∙ pow-add 2 (p - 128) (spare_bits p))
        ∙ sym (mul_assoc N (2 ^ (p - 128)) (2 ^ spare_bits p))

    fits : N * 2 ^ (p - 128) * 2 ^ spare_bits p < 2 ^ (64 * limbs_for p)
    fits = subst (λ (m : ℕ). N * 2 ^ (p - 128) * 2 ^ spare_bits p < 2 ^ m) (digits_and_spare p) (shl_lt p (spare_bits p) mine.few)

    module _ (exit : List ℕ) (count : length exit ≡ n) (lim : Below (2 ^ 64) exit) (value : value_of exit ≡ N * (2 ^ 64) ^ (n - 2)) where
      limbs_are : exit ≡ limbs_of (limbs_for p) (N * 2 ^ (p - 128) * 2 ^ spare_bits p)
      limbs_are =
          value_unique (2 ^ 64) exit (limbs_of (limbs_for p) (N * 2 ^ (p - 128) * 2 ^ spare_bits p)) lim (limbs_below (limbs_for p) _) (count ∙ room.count ∙ sym (limbs_count (limbs_for p) _))
          (value ∙ spread ∙ sym (limbs_value (limbs_for p) _ fits))

      left : Left p (add o p x y) exit (record { rule = 0; exponent = r.exponent; ternary = pos 0 })
      unfolding placed_of limbs_after ternary_of
      left = rw answer (record { told = refl; limbs = limbs_are })

      near_told : (negative : Bool) → negative ≡ x.negative → (k : ℕ) → k ≡ cond (leb (pair.gap + pair.second) 64) 1 2
          → Attempted o p x y exit negative (record { rule = 0; exponent = r.exponent; ternary = pos 0 }) k 1 1
      near_told negative sign k is =
          let t : Deep k = subst Deep (sym is) (deep (leb (pair.gap + pair.second) 64) refl) in
          fixed_told p some_p pair (u ∷ []) (v ∷ []) x y h o t.some (omega (arith, t.most, deep_enough)) t.fixed t.first left (rw (answer, sign) (refl, exponent_some)) (t.larger_used, t.other_used)

      -- in either order of the caller
      pub near_tells : (negative : Bool) → negative ≡ x.negative → (k : ℕ) → k ≡ cond (leb (pair.gap + pair.second) 64) 1 2 → (swapped : Bool)
          → Attempted o p x y exit negative (record { rule = 0; exponent = r.exponent; ternary = pos 0 }) k (cond swapped 1 1) (cond swapped 1 1)
      near_tells negative sign k is true = near_told negative sign k is
      near_tells negative sign k is false = near_told negative sign k is
