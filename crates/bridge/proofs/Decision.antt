-- The decision of the theory is the verdict on the row, for every pair that the walk takes.
use mathlib.Core.Path.{◌≡◌, refl, sym, ap, ◌∙◌, subst}
use mathlib.Core.Logic.{◌⊎◌, inl, inr}
use mathlib.Core.Bool.{Bool, true, false, not}
use Prim.Native.Nat.{ℕ, zero, suc, ◌+◌, ◌-◌, ◌*◌, ◌≤◌, ◌<◌}
use native.Mathlib.Omega.{arith}
use Rattle.numbers.specs.Operand.{Operand, mantissa}
use Rattle.rounding.specs.declared.Mode.{Mode}
use Rattle.rounding.proofs.Order.{le_or_lt, zero_or}
use Rattle.decide.specs.Table.{some?, all_read, hole_by_size}
use Rattle.decide.specs.Decide.{decide_at}
use Rattle.columns.specs.Column.{read_to}
use Rattle.settle.specs.Rows.{row_of}
use Rattle.settle.specs.declared.rows.Row.{Row}
use Rattle.settle.specs.declared.rows.Row.TheVariants.{Exact, Plus, Minus, Hole}
use Rattle.bridge.specs.Verdict.{pair_of, Ordered, Leads, verdict, exact?}
use Rattle.bridge.proofs.Read.{read_larger, read_some}
use Rattle.bridge.proofs.Rows.{row_seen, row_far}
use Rattle.bridge.proofs.Told.{Told, pair_gap, row_near, row_one, row_beyond, told_same, told_unlike, told_one, told_far_same, told_far_unlike, all_decided, all_decided_one, hole_decide, none_read, equal_parts, unlike_regular}

-- where the exponents differ, the first has the larger read part
pub leads : (x y : Operand) (k : ℕ) → Ordered x y → 1 ≤ k → y.exponent < x.exponent → Leads x y k
leads x y k d K h f = rw (pair_gap x y (unlike_regular x y f)) (read_larger x y d.first d.second d.regular k (x.exponent - y.exponent) K (less h))
  where
    less : {m n : ℕ} → m < n → 1 ≤ n - m
    less h = omega arith

module _ (o : Mode) (p : ℕ) (P : 0 < p) (x y : Operand) (k : ℕ) (d : Ordered x y) (K : 1 ≤ k) where
  abbrev u : ℕ
  u = x.precision - 64 * k

  abbrev gap : ℕ
  gap = x.exponent - y.exponent

  abbrev v : ℕ
  v = gap + y.precision - 64 * k

  -- what a row says of the pair
  abbrev pub View : Row → Type 0
  View Exact = ((y.is_zero ≡ true) × (u ≡ 0)) ⊎ ((y.is_zero ≡ false) × (gap < 64 * k) × (u ≡ 0) × (v ≡ 0))
  View (Plus least next most) = (half : Bool) × Told o p P x y k d K half (Plus least next most)
  View (Minus most) = (half : Bool) × Told o p P x y k d K half (Minus most)
  View Hole = (y.is_zero ≡ false) × (64 * k ≤ gap) × (u ≡ 0)

  view_seen : (b : Bool) (m n : ℕ) → 0 < m + n → Told o p P x y k d K false (row_seen b m n) → View (row_seen b m n)
  unfolding row_seen
  view_seen b zero zero h t = absurd (omega arith)
  view_seen true (suc m) zero h t = (false, t)
  view_seen true zero (suc n) h t = (false, t)
  view_seen true (suc m) (suc n) h t = (false, t)
  view_seen false (suc m) zero h t = (false, t)
  view_seen false zero (suc n) h t = (false, t)
  view_seen false (suc m) (suc n) h t = (false, t)

  view_all : (b : Bool) (m n : ℕ) → m ≡ 0 → n ≡ 0 → View Exact → View (row_seen b m n)
  unfolding row_seen
  view_all b zero zero e f w = w
  view_all b zero (suc n) e f w = absurd (omega arith)
  view_all b (suc m) n e f w = absurd (omega arith)

  view_hole : (b : Bool) (m f : ℕ) → m ≡ 0 → View Hole → View (row_far b m f)
  unfolding row_far
  view_hole b zero f e w = w
  view_hole b (suc m) f e w = absurd (omega arith)

  view_far : (b half : Bool) (m f : ℕ) → Told o p P x y k d K half (row_far b (suc m) f) → View (row_far b (suc m) f)
  unfolding row_far
  view_far true half m f t = (half, t)
  view_far false half m f t = (half, t)

  suc_of : (n : ℕ) → (n ≡ 0) ⊎ ((m : ℕ) × (n ≡ suc m))
  suc_of zero = inl refl
  suc_of (suc n) = inr (n, refl)

  pub view : Leads x y k → View (row_of (pair_of x y) k)
  view lead = go y.is_zero refl
    where
      both : (e : y.is_zero ≡ false) (near : gap < 64 * k) → 0 < u + v → (b : Bool) → (pair_of x y).same ≡ b → View (row_seen b u v)
      both e near h true f = view_seen true u v h (told_same o p P x y k d K e near f h)
      both e near h false f = view_seen false u v h (told_unlike o p P x y k d K e near f (rw (pair_gap x y e) at (lead f)) h)

      beyond : (e : y.is_zero ≡ false) (far : 64 * k ≤ gap) (m : ℕ) → u ≡ suc m → (b : Bool) → (pair_of x y).same ≡ b → View (row_far b (suc m) (gap - 64 * k))
      beyond e far m l true f = view_far true (not (some? (gap - 64 * k))) m (gap - 64 * k) (told_far_same o p P x y k d K e far m l f)
      beyond e far m l false f = view_far false false m (gap - 64 * k) (told_far_unlike o p P x y k d K e far m l f)

      none : (m n : ℕ) → m + n ≡ 0 → (m ≡ 0) × (n ≡ 0)
      none m n e = (omega arith, omega arith)

      flat : (n : ℕ) → 0 < n → 0 < n + 0
      flat n h = omega arith

      go : (z : Bool) → y.is_zero ≡ z → View (row_of (pair_of x y) k)
      go true e = subst View (sym (row_one o p P x y k d K e)) (elim (zero_or u) [ inl z ↦ view_all true u 0 z refl (inl (e, z)) | inr h ↦ view_seen true u 0 (flat u h) (told_one o p P x y k d K e h) ])
      go false e = elim (le_or_lt (64 * k) gap) [
        | inr near ↦ subst View (sym (row_near o p P x y k d K e near)) (elim (zero_or (u + v)) [
          | inl z ↦ view_all (pair_of x y).same u v (none u v z).0 (none u v z).1 (inr (e, near, (none u v z).0, (none u v z).1))
          | inr h ↦ both e near h (pair_of x y).same refl
        ])
        | inl far ↦ subst View (sym (row_beyond o p P x y k d K e far)) (elim (suc_of u) [
          | inl z ↦ view_hole (pair_of x y).same u (gap - 64 * k) z (e, far, z)
          | inr m ↦ subst (λ (n : ℕ). View (row_far (pair_of x y).same n (gap - 64 * k))) (sym m.1) (beyond e far m.0 m.1 (pair_of x y).same refl)
        ])
      ]

  pub decision : Leads x y k → decide_at o p x y k ≡ verdict o p x y k (row_of (pair_of x y) k)
  unfolding verdict
  decision lead = go (row_of (pair_of x y) k) (view lead)
    where
      go : (row : Row) → View row → decide_at o p x y k ≡ verdict o p x y k row
      go Exact (inl s) = all_decided_one o p P x y k d K s.0 s.1
      go Exact (inr s) = all_decided o p P x y k d K s.0 s.1 s.2 s.3
      go (Plus least next most) s = s.1.tests
      go (Minus most) s = s.1.tests
      go Hole s = hole_decide o p P x y k d K s.0 s.1 s.2 ∙ ap (λ (n : ℕ). hole_by_size o p x.negative y.negative (mantissa x) (n - x.precision)) (sym (pair_gap x y s.0))

  -- of unlike signs and equal read parts nothing is decided while a digit is unread
  pub equal_decision : (pair_of x y).same ≡ false → read_to k (pair_of x y).gap y.limbs ≡ read_to k 0 x.limbs → decide_at o p x y k ≡ exact? (row_of (pair_of x y) k)
  equal_decision f h = go (unlike_regular x y f)
    where
      all : (m n : ℕ) → all_read m n ≡ exact? (row_seen false m n)
      all zero zero = unfold row_seen exact? in refl
      all (suc m) zero = unfold row_seen exact? in refl
      all zero (suc n) = unfold row_seen exact? in refl
      all (suc m) (suc n) = unfold row_seen exact? in refl

      clash : {m n : ℕ} → m ≡ 0 → m ≡ n → 0 < n → ⊥
      clash a b c = omega arith

      go : y.is_zero ≡ false → decide_at o p x y k ≡ exact? (row_of (pair_of x y) k)
      go e =
          let same : read_to k gap y.limbs ≡ read_to k 0 x.limbs = rw (pair_gap x y e) at h in
          elim (le_or_lt (64 * k) gap) [
            | inl far ↦ absurd (clash (none_read o p P x y k d K e far) same (read_some x d.first d.regular k K))
            | inr near ↦ equal_parts o p P x y k d K e near f same ∙ all u v ∙ ap exact? (sym (row_near o p P x y k d K e near ∙ ap (λ (b : Bool). row_seen b u v) f))
          ]
