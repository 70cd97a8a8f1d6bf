-- The rows of the table where nothing of y is read.
use mathlib.Core.Path.{◌≡◌, refl, sym, ap, ◌∙◌}
use mathlib.Core.Logic.{inl, inr}
use mathlib.Core.Bool.{Bool, true, false, not, cond, ◌||◌}
use Prim.Native.Nat.{ℕ, zero, suc, ◌+◌, ◌-◌, ◌*◌, ◌^◌, ◌≤◌, ◌<◌}
use native.Mathlib.Nat.{le_trans}
use native.Mathlib.Omega.{arith}
use borrow.Author.Tests.{ne_eqb, eq-eqb, ltb-true, ltb-false}
use lib.Dec.{ltb, eqb}
use lib.Pow.{pow_pos, pow_mono}
use Rattle.rounding.proofs.Order.{size_mono}
use Rattle.decide.specs.Table.{some?}
use Rattle.decide.proofs.Settled.{Span}
use Rattle.decide.proofs.Range.{Sides}
use Rattle.decide.proofs.Rows.{Seen, Held, more, whole, last_one, last_half, last_quarter, half_pow, last_two}

-- nothing is read: the first digit 2 ^ g at least, and all ones down to the last digit 2 ^ l at most
pub record Unseen (g least most : ℕ) : Type 0 where
  pub l : ℕ
  pub two : l < g
  pub low : least ≡ 2 ^ g
  pub high : most + 2 ^ l ≡ 2 ^ g * 2

pub unseen_le : {g least most : ℕ} → Unseen g least most → least ≤ most
unseen_le {g} d = let k = half_pow d.l g d.two in omega (arith, d.low, d.high)

module _ (s j x u xl xh g f yl yh : ℕ) (p : Seen j x (suc u) xl xh) (q : Unseen g yl yh) (e : g + suc f ≡ j) where
  abbrev C : ℕ
  C = 2 ^ j

  abbrev G : ℕ
  G = 2 ^ g

  abbrev L : ℕ
  L = 2 ^ p.l

  abbrev A : ℕ
  A = 2 ^ q.l

  LC : L * 2 ≤ C
  LC = last_half p.l u j p.cut

  GC : G * 2 ≤ C
  GC = last_half g f j e

  AG : A * 2 ≤ G
  AG = half_pow q.l g q.two

  carried : f < suc u → L ≤ G
  carried h = pow_mono (go p.l p.cut)
    where
      go : (l : ℕ) → l + suc u ≡ j → l ≤ g
      go l k = omega (arith, e, h)

  stopped : suc u ≤ f → G * 2 ≤ L
  stopped h = half_pow g p.l (go p.l p.cut)
    where
      go : (l : ℕ) → l + suc u ≡ j → g < l
      go l k = omega (arith, e, h)

  pub far_same_lem : Span j x true (cond (ltb f (suc u)) 1 0) true (xl + yl) (xh + yh)
  far_same_lem = go (ltb f (suc u)) refl
    where
      go : (b : Bool) → ltb f (suc u) ≡ b → Span j x true (cond b 1 0) true (xl + yl) (xh + yh)
      go true t =
          let a1 = p.low in let a2 = p.high in let a3 = q.low in let a4 = q.high in
          let b1 = LC in let b2 = GC in let b3 = AG in let b4 = carried (ltb-true f (suc u) t) in
          let c1 = pow_pos p.l in let c2 = pow_pos q.l in let c3 = pow_pos g in
          record {
            a = G;
            b = G * 2 - A - L;
            least = omega arith;
            most = omega arith;
            part_least = (c3, omega arith);
            part_most = (omega arith, omega arith);
            carry = omega arith;
            apart = omega arith;
            wide = inr (inl refl);
          }
      go false t =
          let a1 = p.low in let a2 = p.high in let a3 = q.low in let a4 = q.high in
          let b1 = LC in let b2 = GC in let b3 = AG in let b4 = stopped (ltb-false f (suc u) t) in
          let c1 = pow_pos p.l in let c2 = pow_pos q.l in let c3 = pow_pos g in
          record {
            a = G;
            b = C - L + (G * 2 - A);
            least = omega arith;
            most = omega arith;
            part_least = (c3, omega arith);
            part_most = (omega arith, omega arith);
            carry = omega arith;
            apart = omega arith;
            wide = inr (inr (omega arith, omega arith));
          }

  pub far_unlike_lem : 0 < x → Span j (x - 1) true 1 (some? u || some? f) (xl - yh) (xh - yl)
  far_unlike_lem h =
      let a1 = p.low in let a2 = p.high in let a3 = q.low in let a4 = q.high in
      let b1 = LC in let b2 = GC in let b3 = AG in
      let c1 = pow_pos p.l in let c2 = pow_pos q.l in let c3 = pow_pos g in
      let w = gap (x - 1) (back x h) in
      record {
        a = C - G * 2 + A;
        b = C - (L + G);
        least = omega arith;
        most = omega arith;
        part_least = (omega arith, omega arith);
        part_most = last_two p.l g j u f p.cut e;
        carry = omega arith;
        apart = omega arith;
        wide = inr (inl refl);
      }
    where
      back : (x : ℕ) → 0 < x → x ≡ x - 1 + 1
      back x h = omega arith

      gap : (n : ℕ) → x ≡ n + 1 → x * C ≡ n * C + C
      gap n e = ap (λ (z : ℕ). z * C) e ∙ omega arith

  pub sides_far_same : 0 < x → Held s j x → (i tail : ℕ) → Sides s j x (not (some? f)) i tail (xl + yl) (xh + yh)
  sides_far_same h r i tail =
      let a1 = p.low in let a3 = q.low in let b2 = GC in
      record { pos = omega arith; low_side = inl (h, omega arith, half f e); high_side = inl (le_trans (r.from h) (more j s (size_mono x (x + i) (omega arith)))) }
    where
      half : (f : ℕ) → g + suc f ≡ j → not (some? f) ≡ eqb ((xl + yl) * 2) (x * 2 * C + C)
      half zero k = let a1 = p.low in let a3 = q.low in let b = last_one g j k in sym (eq-eqb ((xl + yl) * 2) (x * 2 * C + C) (omega arith))
      half (suc f) k = let a1 = p.low in let a3 = q.low in let b = last_quarter g f j k in let c = pow_pos g in sym (ne_eqb ((xl + yl) * 2) (x * 2 * C + C) (λ z. omega arith))

  pub sides_far_unlike : 0 < x → Held s j x → (tail : ℕ) → Sides s j (x - 1) false 1 tail (xl - yh) (xh - yl)
  sides_far_unlike h r tail =
      record { pos = omega arith; low_side = inr (le_trans (more j s (size_mono (suc (x - 1)) x (omega arith))) (r.to h)); high_side = inl (le_trans (r.from h) (more j s (size_mono x (x - 1 + 1) (omega arith)))) }

-- ---- the hole: x is z units of y's first digit, and more than one

module _ (s z xl g yl yh : ℕ) (x_is : xl ≡ z * 2 ^ g) (q : Unseen g yl yh) (h : 2 ≤ z) (r : Held s g z) where
  AH : 2 ^ q.l * 2 ≤ 2 ^ g
  AH = half_pow q.l g q.two

  pub hole_same_lem : Span g (z + 1) false 0 true (xl + yl) (xl + yh)
  hole_same_lem =
      let a3 = q.low in let a4 = q.high in let b = AH in let c = pow_pos q.l in
      record {
        a = 0;
        b = 2 ^ g - 2 ^ q.l;
        least = omega arith;
        most = omega arith;
        part_least = refl;
        part_most = (omega arith, omega arith);
        carry = omega arith;
        apart = omega arith;
        wide = inl refl;
      }

  pub sides_hole_same : Sides s g (z + 1) false 0 0 (xl + yl) (xl + yh)
  sides_hole_same =
      let a3 = q.low in
      record { pos = omega arith; low_side = inl (whole g (z + 1) (omega arith) (omega arith)); high_side = inl (le_trans (r.from (omega arith)) (more g s (size_mono z (z + 1 + 0) (omega arith)))) }

  two_less : z * 2 ^ g ≡ (z - 2) * 2 ^ g + 2 ^ g * 2
  two_less = ap (λ (k : ℕ). k * 2 ^ g) (back z h) ∙ spread (z - 2)
    where
      back : (z : ℕ) → 2 ≤ z → z ≡ z - 2 + 2
      back z h = omega arith

      spread : (n : ℕ) → (n + 2) * 2 ^ g ≡ n * 2 ^ g + 2 ^ g * 2
      spread n = omega arith

  pub hole_unlike_lem : Span g (z - 2) true 1 false (xl - yh) (xl - yl)
  hole_unlike_lem =
      let a3 = q.low in let a4 = q.high in let b = AH in let c = pow_pos q.l in let w = two_less in
      record {
        a = 2 ^ q.l;
        b = 0;
        least = omega arith;
        most = omega arith;
        part_least = (c, omega arith);
        part_most = refl;
        carry = omega arith;
        apart = omega arith;
        wide = inr (inl refl);
      }

  pub sides_hole_unlike : Sides s g (z - 2) false 1 0 (xl - yh) (xl - yl)
  sides_hole_unlike =
      let a3 = q.low in let w = two_less in
      record { pos = omega arith; low_side = inr (le_trans (more g s (size_mono (suc (z - 2)) z (omega arith))) (r.to (omega arith))); high_side = inr (g, omega arith, omega arith) }
