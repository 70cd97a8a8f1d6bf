-- The bridge by rows, as a walk asks: when the first operand leads, what a hole decides and answers, and when the depth is found.
use mathlib.Core.Path.{◌≡◌, refl, sym, ap, ◌∙◌}
use mathlib.Core.Logic.{inl, inr}
use mathlib.Core.Bool.{Bool, true, false, true≢false}
use Prim.Native.Nat.{ℕ, zero, suc, ◌+◌, ◌-◌, ◌*◌, ◌^◌, ◌≤◌, ◌<◌}
use native.Mathlib.Omega.{arith}
use Rattle.limb.specs.Carry.{bit}
use Rattle.numbers.specs.Operand.{Operand, mantissa}
use Rattle.rounding.specs.Mode.{way}
use Rattle.rounding.specs.declared.Mode.{Mode}
use Rattle.rounding.specs.Answer.{rounded}
use Rattle.rounding.specs.Sum.{add}
use Rattle.rounding.proofs.Order.{le_or_lt}
use Rattle.decide.specs.Table.{hole_by_size}
use Rattle.decide.specs.Decide.{decide_at}
use Rattle.columns.specs.Column.{read_to}
use Rattle.settle.specs.Rows.{row_of}
use Rattle.settle.specs.declared.rows.Row.{Row}
use Rattle.settle.specs.declared.rows.Row.TheVariants.{Exact, Plus, Minus, Hole}
use Rattle.bridge.specs.Verdict.{pair_of, Ordered, Leads, read_sum, settled_by, more_of, verdict, exact?, inner?, hole_way}
use Rattle.bridge.proofs.Read.{read_later, read_more, read_some}
use Rattle.bridge.proofs.Rows.{row_seen, row_far}
use Rattle.bridge.proofs.Told.{pair_gap, row_one, row_near, row_beyond, none_read, unlike_regular}
use Rattle.bridge.proofs.Decision.{leads, decision, equal_decision}
use Rattle.bridge.proofs.Answers.{none_left, sum_pos, settled_sum, exact_sum}
use Rattle.bridge.proofs.Refine.{whole_half}
use Rattle.bridge.proofs.HoleSum.{hole_sum_same, hole_sum_unlike}

-- same signs, and one operand alone
pub leads_same : (x y : Operand) (k : ℕ) → (pair_of x y).same ≡ true → Leads x y k
leads_same x y k e f = absurd (true≢false (sym e ∙ f))

-- once it leads it stays in the lead
pub leads_later : (x y : Operand) (k j : ℕ) → Leads x y k → Leads x y (k + j)
leads_later x y k j lead f = read_later k j (pair_of x y).gap 0 y.limbs x.limbs (lead f)

is_hole : Row → Bool
is_hole Exact = false
is_hole (Plus least next most) = false
is_hole (Minus most) = false
is_hole Hole = true

seen_no_hole : (b : Bool) (u v : ℕ) → is_hole (row_seen b u v) ≡ true → ⊥
unfolding is_hole row_seen
seen_no_hole b zero zero e = true≢false (sym e)
seen_no_hole true (suc u) zero e = true≢false (sym e)
seen_no_hole true zero (suc v) e = true≢false (sym e)
seen_no_hole true (suc u) (suc v) e = true≢false (sym e)
seen_no_hole false (suc u) zero e = true≢false (sym e)
seen_no_hole false zero (suc v) e = true≢false (sym e)
seen_no_hole false (suc u) (suc v) e = true≢false (sym e)

far_hole : (b : Bool) (u f : ℕ) → is_hole (row_far b u f) ≡ true → u ≡ 0
unfolding is_hole row_far
far_hole b zero f e = refl
far_hole true (suc u) f e = absurd (true≢false (sym e))
far_hole false (suc u) f e = absurd (true≢false (sym e))

module _ (o : Mode) (p : ℕ) (P : 0 < p) (x y : Operand) (k : ℕ) (d : Ordered x y) (K : 1 ≤ k) where
  -- ---- the answer of a settled row, all read or not

  pub row_sum : Leads x y k → (row : Row) → row_of (pair_of x y) k ≡ row → 64 * k + 1 ≤ x.exponent → settled_by (way o x.negative) p (read_sum x y k) row ≡ true
      → add o p x y ≡ rounded (way o x.negative) p (x.exponent - 64 * k - 1) x.negative (2 * read_sum x y k + bit (more_of row))
  unfolding inner? more_of settled_by
  row_sum lead Exact is room h =
      exact_sum o p P x y k d K (under_it (64 * k) x.exponent room) lead is
      ∙ sym (whole_half (way o x.negative) p P x.negative (x.exponent - 64 * k) (read_sum x y k) (some (64 * k) x.exponent room) (sum_pos o p P x y k d K lead))
    where
      under_it : (m n : ℕ) → m + 1 ≤ n → m ≤ n
      under_it m n h = omega arith

      some : (m n : ℕ) → m + 1 ≤ n → 1 ≤ n - m
      some m n h = omega arith
  row_sum lead (Plus least next most) is room h = settled_sum o p P x y k d K lead (Plus least next most) is refl h
  row_sum lead (Minus most) is room h = settled_sum o p P x y k d K lead (Minus most) is refl h
  row_sum lead Hole is room h = absurd (true≢false (sym h))

  -- of unlike signs, while the read parts are equal and the next column parts them, nothing is decided
  pub level_open : (pair_of x y).same ≡ false → read_to k (pair_of x y).gap y.limbs ≡ read_to k 0 x.limbs → read_to (k + 1) (pair_of x y).gap y.limbs < read_to (k + 1) 0 x.limbs → decide_at o p x y k ≡ false
  level_open f h lt = equal_decision o p P x y k d K f h ∙ by (exact? (row_of (pair_of x y) k)) refl
    where
      read : (m n c : ℕ) → m + n - c ≡ 0 → n + m ≤ c
      read m n c e = omega arith

      first : (m c : ℕ) → m - c ≡ 0 → m + 0 ≤ c
      first m c e = omega arith

      clash : {m n i j : ℕ} → m ≡ i → n ≡ j → i ≡ j → m < n → ⊥
      clash a b c h = omega arith

      none : {n i : ℕ} → i ≡ 0 → i ≡ n → 0 < n → ⊥
      none a b h = omega arith

      row_exact : (row : Row) → exact? row ≡ true → row ≡ Exact
      row_exact Exact e = refl
      row_exact (Plus least next most) e = absurd (true≢false (sym (unfold exact? in e)))
      row_exact (Minus most) e = absurd (true≢false (sym (unfold exact? in e)))
      row_exact Hole e = absurd (true≢false (sym (unfold exact? in e)))

      never : (e : y.is_zero ≡ false) → row_of (pair_of x y) k ≡ Exact → ⊥
      never e is = elim (le_or_lt (64 * k) (x.exponent - y.exponent)) [
        | inl far ↦ none (none_read o p P x y k d K e far) (rw (pair_gap x y e) at h) (read_some x d.first d.regular k K)
        | inr reach ↦
            let n = none_left (pair_of x y).same (x.precision - 64 * k) (x.exponent - y.exponent + y.precision - 64 * k) (sym (row_near o p P x y k d K e reach) ∙ is) in
            clash (read_more y d.second e k 1 (x.exponent - y.exponent) (read (x.exponent - y.exponent) y.precision (64 * k) n.1)) (read_more x d.first d.regular k 1 0 (first x.precision (64 * k) n.0))
            (ap (λ (z : ℕ). z * 2 ^ (64 * 1)) (rw (pair_gap x y e) at h)) (rw (pair_gap x y e) at lt)
      ]

      by : (b : Bool) → exact? (row_of (pair_of x y) k) ≡ b → b ≡ false
      by false i = refl
      by true i = absurd (never (unlike_regular x y f) (row_exact (row_of (pair_of x y) k) i))

  -- ---- the hole

  module _ (is : row_of (pair_of x y) k ≡ Hole) where
    pub hole_place : (y.is_zero ≡ false) × (64 * k ≤ x.exponent - y.exponent) × (x.precision - 64 * k ≡ 0)
    hole_place = go y.is_zero refl
      where
        test : is_hole (row_of (pair_of x y) k) ≡ true
        test = ap is_hole is ∙ (unfold is_hole in refl)

        go : (z : Bool) → y.is_zero ≡ z → (y.is_zero ≡ false) × (64 * k ≤ x.exponent - y.exponent) × (x.precision - 64 * k ≡ 0)
        go true e = absurd (seen_no_hole true _ _ (ap is_hole (sym (row_one o p P x y k d K e)) ∙ test))
        go false e = elim (le_or_lt (64 * k) (x.exponent - y.exponent)) [
          | inl far ↦ (e, far, far_hole _ _ _ (ap is_hole (sym (row_beyond o p P x y k d K e far)) ∙ test))
          | inr reach ↦ absurd (seen_no_hole _ _ _ (ap is_hole (sym (row_near o p P x y k d K e reach)) ∙ test))
        ]

    pub hole_leads : Leads x y k
    hole_leads = leads x y k d K (go y.exponent x.exponent hole_place.1)
      where
        go : (m n : ℕ) → 64 * k ≤ n - m → m < n
        go m n h = omega arith

    pub hole_decision : decide_at o p x y k ≡ hole_by_size o p x.negative y.negative (mantissa x) ((pair_of x y).gap - x.precision)
    unfolding verdict
    hole_decision = decision o p P x y k d K hole_leads ∙ ap (verdict o p x y k) is

    module _ (b : ℕ) (room : 64 * b + 1 ≤ x.exponent - 64 * k) (fixed : decide_at o p x y k ≡ true) where
      test_holds : hole_by_size o p x.negative y.negative (mantissa x) ((pair_of x y).gap - x.precision) ≡ true
      test_holds = sym hole_decision ∙ fixed

      pub hole_sum : (pair_of x y).same ≡ true → p < 64 * k + 64 * b
          → add o p x y ≡ rounded (hole_way (way o x.negative) p (pair_of x y)) p (x.exponent - 64 * k - 64 * b - 1) x.negative (2 * (read_sum x y k * 2 ^ (64 * b)) + 1)
      hole_sum s h = hole_sum_same o p P x y k d K hole_place.0 hole_place.1 hole_place.2 b room s test_holds h

      pub hole_difference : (pair_of x y).same ≡ false → p + 1 < 64 * k + 64 * b
          → add o p x y ≡ rounded (hole_way (way o x.negative) p (pair_of x y)) p (x.exponent - 64 * k - 64 * b - 1) x.negative (2 * (read_sum x y k * 2 ^ (64 * b)) - 1)
      hole_difference s h = hole_sum_unlike o p P x y k d K hole_place.0 hole_place.1 hole_place.2 b room s test_holds h
