-- The depth is one number, and it exists wherever each number of columns is known to fix the answer or not to.
use mathlib.Core.Path.{◌≡◌, subst}
use mathlib.Core.Logic.{◌⊎◌, inl, inr}
use Prim.Native.Nat.{ℕ, zero, suc, ◌-◌, ◌≤◌, ◌<◌}
use native.Mathlib.Nat.{le_refl, le_trans, le_antisymm, lt_of_lt_of_le}
use native.Mathlib.Omega.{arith}
use Rattle.numbers.specs.Operand.{Operand}
use Rattle.rounding.specs.declared.Mode.{Mode}
use Rattle.rounding.proofs.Order.{le_or_lt}
use Rattle.depth.specs.Columns.{top_exponent, Agree, Like}
use Rattle.depth.specs.Depth.{Operation, Fixed, Open, Deciding}

-- ---- more columns say more

like_fewer : (t j k : ℕ) (x z : Operand) → j ≤ k → Like t k x z → Like t j x z
unfolding Agree
like_fewer t j k x z h l = record { well_formed = l.well_formed; negative = l.negative; is_zero = l.is_zero; precision = l.precision; exponent = l.exponent; columns = λ c i u v. l.columns c i (lt_of_lt_of_le u h) v }

module _ (f : Operation) (o : Mode) (p : ℕ) (x y : Operand) where
  pub fixed_more : (j k : ℕ) → j ≤ k → Fixed f o p x y j → Fixed f o p x y k
  unfolding Fixed
  fixed_more j k h u z w l m = u z w (like_fewer (top_exponent x y) j k x z h l) (like_fewer (top_exponent x y) j k y w h m)

  pub not_both : (k : ℕ) → Fixed f o p x y k → Open f o p x y k → ⊥
  unfolding Fixed Open
  not_both k u v = v.4 (u v.0 v.1 v.2 v.3)

  -- ---- the depth is one number: the least that fixes

  pub depth_least : (j k : ℕ) → Deciding f o p x y k → 1 ≤ j → Fixed f o p x y j → k ≤ j
  depth_least j k d J u = elim (le_or_lt k j) [ inl h ↦ h | inr h ↦ absurd (not_both (k - 1) (fixed_more j (k - 1) (before j k h) u) (d.fewer (more_than_one J h))) ]
    where
      before : (j k : ℕ) → j < k → j ≤ k - 1
      before j k h = omega arith

      more_than_one : {j k : ℕ} → 1 ≤ j → j < k → 1 < k
      more_than_one a b = omega arith

  pub deciding_unique : (j k : ℕ) → Deciding f o p x y j → Deciding f o p x y k → j ≡ k
  deciding_unique j k a b = le_antisymm (depth_least k j a b.one b.fixed) (depth_least j k b a.one a.fixed)

  -- ---- it exists: from a number of columns that fixes, down to the first that does

  pub find : ((k : ℕ) → 1 ≤ k → Fixed f o p x y k ⊎ Open f o p x y k) → (n : ℕ) → 1 ≤ n → Fixed f o p x y n → (k : ℕ) × (k ≤ n) × Deciding f o p x y k
  find look zero N u = absurd (omega arith)
  find look (suc zero) N u = (1, le_refl 1, record { one = le_refl 1; fixed = u; fewer = λ h. absurd (omega arith) })
  find look (suc (suc n)) N u = elim (look (suc n) (pos n)) [
    | inl v ↦ let r = find look (suc n) (pos n) v in (r.0, le_trans r.1 (more n), r.2)
    | inr v ↦ (suc (suc n), le_refl (suc (suc n)), record { one = N; fixed = u; fewer = λ h. subst (λ (k : ℕ). Open f o p x y k) (back n) v })
  ]
    where
      pos : (n : ℕ) → 1 ≤ suc n
      pos n = omega arith

      more : (n : ℕ) → suc n ≤ suc (suc n)
      more n = omega arith

      back : (n : ℕ) → suc n ≡ suc (suc n) - 1
      back n = omega arith
