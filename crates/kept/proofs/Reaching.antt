-- How far a run reaches, and what its digits from the first on are. Assumes nothing.
use mathlib.Core.Path.{◌≡◌, sym, ap, ◌∙◌, subst}
use mathlib.Core.Bool.{Bool, true, false}
use mathlib.Core.List.{List, []}
use Prim.Native.Nat.{ℕ, suc, ◌+◌, ◌-◌, ◌*◌, ◌/◌, ◌%◌, ◌^◌, ◌≤◌, ◌<◌}
use native.Mathlib.Nat.{le_antisymm, le_trans, lt_of_lt_of_le, mul-le-mul_left, mul-le-mul_right, le_of_mul-le-mul_right, lt_of_mul-lt-mul_right, mod-eq_of_lt, mul-add-div_right, mul_assoc, add-mul-mod_self_left, pow-suc}
use native.Mathlib.Omega.{arith}
use lib.ListN.{length, get_or, take, drop, drop_of_length-le}
use lib.Pow.{pow_pos, pow-add, shr_lt, shr-shr, high}
use Rattle.limb.proofs.Tests.{true_false}
use Rattle.limb.specs.Carry.{bit}
use Rattle.limb.specs.Value.{value_in, Below}
use Rattle.limb.proofs.Value.{value_nil, value_split, value_drop, value_lt, value_take_lt, base_pow}
use Rattle.kept.specs.Walk.{headed, whole, Reaches}

pub headed_true : (b : Bool) (t : List ℕ) → b ≡ true → headed b t ≡ 2 ^ (64 * length t) + value_in (2 ^ 64) t
unfolding headed bit
headed_true b t e = rw e (omega arith)

pub headed_false : (b : Bool) (t : List ℕ) → b ≡ false → headed b t ≡ value_in (2 ^ 64) t
unfolding headed bit
headed_false b t e = rw e (omega arith)

-- ---- with a carry

module _ (X v B : ℕ) (lt : v < X) where
  carry_first : X * (2 * B) ≤ 2 * ((X + v) * B)
  carry_first = omega arith

  carry_top : (X + v + 1) * B ≤ X * (2 * B)
  carry_top = let k = mul-le-mul_right B lt in omega arith

pub reach_carried : (b : Bool) (t : List ℕ) → Below (2 ^ 64) t → b ≡ true → Reaches b t 65
reach_carried b t h e =
    let X = 2 ^ (64 * length t) in
    let lt : value_in (2 ^ 64) t < X = subst (λ (m : ℕ). value_in (2 ^ 64) t < m) (base_pow (length t)) (value_lt (2 ^ 64) t h) in
    let p : 2 ^ (64 * length t + 65) ≡ X * (2 * 2 ^ 64) = pow-add 2 (64 * length t) 65 in
    record {
      positive = omega arith;
      most = omega arith;
      carried = λ f. omega arith;
      plain = λ f. absurd (true_false e f);
      first = rw (p, headed_true b t e) (carry_first X (value_in (2 ^ 64) t) (2 ^ 64) lt);
      top = rw (p, headed_true b t e) (carry_top X (value_in (2 ^ 64) t) (2 ^ 64) lt);
    }

-- ---- with none: P is the weight of the top limb x, and D a power between x and its double

module _ (P B D v x l : ℕ) (is : v ≡ l + P * x) (lt : l < P) (over : x < D) (under : D ≤ 2 * x) where
  plain_top : (v + 1) * B ≤ P * B * D
  plain_top =
      let a = mul-le-mul_left P over in
      let b : v + 1 ≤ P * D = omega arith in
      let c = mul-le-mul_right B b in
      omega arith

  plain_first : P * B * D ≤ 2 * (v * B)
  plain_first =
      let a = mul-le-mul_left P under in
      let b : P * D ≤ 2 * v = omega arith in
      let c = mul-le-mul_right B b in
      omega arith

-- the limb under the top is below its weight
pub top_apart : (B : ℕ) (t : List ℕ) → 0 < length t → value_in B t ≡ value_in B (take (length t - 1) t) + B ^ (length t - 1) * get_or t (length t - 1) 0
top_apart B t h =
    let n = length t - 1 in
    let none : drop (suc n) t ≡ [] = drop_of_length-le t {i = suc n} (omega arith) in
    let e : value_in B (drop n t) ≡ get_or t n 0 = value_drop B n t ∙ rw (none, value_nil) (omega arith) in
    value_split B n t ∙ ap (λ (m : ℕ). value_in B (take n t) + B ^ n * m) e

module _ (b : Bool) (t : List ℕ) (z : ℕ) (h : Below (2 ^ 64) t) (some : 0 < length t) (less : z < 64) where
  abbrev x : ℕ
  x = get_or t (length t - 1) 0

  abbrev D : ℕ
  D = 2 ^ (64 - z)

  parts : 2 ^ 64 ≡ D * 2 ^ z
  parts = let e : 64 ≡ (64 - z) + z = omega arith in ap (λ (n : ℕ). 2 ^ n) e ∙ pow-add 2 (64 - z) z

  pub reach_plain : b ≡ false → 2 ^ 63 ≤ x * 2 ^ z → x * 2 ^ z < 2 ^ 64 → Reaches b t (64 - z)
  reach_plain e lo hi =
      let P = (2 ^ 64) ^ (length t - 1) in
      let over : x < D = lt_of_mul-lt-mul_right (2 ^ z) (subst (λ (m : ℕ). x * 2 ^ z < m) parts hi) in
      let under : D ≤ 2 * x = le_of_mul-le-mul_right (twice x (2 ^ z) (D * 2 ^ z) (sym parts) lo) (pow_pos z) in
      let w : length t ≡ suc (length t - 1) = omega arith in
      let p : 2 ^ (64 * length t + (64 - z)) ≡ P * 2 ^ 64 * D =
      pow-add 2 (64 * length t) (64 - z) ∙ ap (λ (m : ℕ). m * D) (sym (base_pow (length t)) ∙ ap (λ (n : ℕ). (2 ^ 64) ^ n) w ∙ pow-suc (2 ^ 64) (length t - 1)) in
      let is = top_apart (2 ^ 64) t some in
      let lt = value_take_lt (2 ^ 64) (length t - 1) t h in
      record {
        positive = omega arith;
        most = omega arith;
        carried = λ f. absurd (true_false f e);
        plain = λ f. omega arith;
        first = rw (p, headed_false b t e) (plain_first P (2 ^ 64) D (value_in (2 ^ 64) t) x (value_in (2 ^ 64) (take (length t - 1) t)) is lt over under);
        top = rw (p, headed_false b t e) (plain_top P (2 ^ 64) D (value_in (2 ^ 64) t) x (value_in (2 ^ 64) (take (length t - 1) t)) is lt over under);
      }
    where
      twice : (x Z n : ℕ) → n ≡ 2 ^ 64 → 2 ^ 63 ≤ x * Z → n ≤ 2 * x * Z
      twice x Z n e h = omega arith

-- ---- the digits from the first on

module _ (b : Bool) (t : List ℕ) (guard d : ℕ) (lt : guard < 2 ^ 64) where
  -- one bit down
  pub brought_down : Reaches b t d → b ≡ true → ((2 ^ 64) ^ length t + value_in (2 ^ 64) t) / 2 ≡ whole b t guard / 2 ^ d
  unfolding whole
  brought_down r e =
      ap (λ (m : ℕ). (m + value_in (2 ^ 64) t) / 2) (base_pow (length t)) ∙ ap (λ (m : ℕ). m / 2) (sym (high (headed b t) 64 lt ∙ headed_true b t e))
      ∙ shr-shr (headed b t * 2 ^ 64 + guard) 64 1 ∙ ap (λ (n : ℕ). (headed b t * 2 ^ 64 + guard) / 2 ^ n) (le_antisymm (r.carried e) r.most)

  -- as it stands
  pub brought_whole : b ≡ false → d ≡ 64 → value_in (2 ^ 64) t ≡ whole b t guard / 2 ^ d
  unfolding whole
  brought_whole e f = sym (ap (λ (n : ℕ). (headed b t * 2 ^ 64 + guard) / 2 ^ n) f ∙ high (headed b t) 64 lt ∙ headed_false b t e)

  -- the run has no more digits than the target and d
  pub whole_lt : Reaches b t d → whole b t guard < 2 ^ (64 * length t + d)
  unfolding whole
  whole_lt r = lt_of_lt_of_le (next (headed b t) (2 ^ 64) lt) r.top
    where
      next : (n B : ℕ) → guard < B → n * B + guard < (n + 1) * B
      next n B h = omega arith

  -- some bits up
  pub brought_up : Reaches b t d → b ≡ false → (value_in (2 ^ 64) t * 2 ^ (64 - d) + guard / 2 ^ (64 - (64 - d))) % (2 ^ 64) ^ length t ≡ whole b t guard / 2 ^ d
  unfolding whole
  brought_up r e =
      let v = value_in (2 ^ 64) t in
      let le = r.plain e in
      let back : 64 - (64 - d) ≡ d = omega arith in
      let split : 64 ≡ (64 - d) + d = omega arith in
      let n : whole b t guard ≡ v * 2 ^ (64 - d) * 2 ^ d + guard =
      ap (λ (m : ℕ). m * 2 ^ 64 + guard) (headed_false b t e) ∙ ap (λ (m : ℕ). v * m + guard) (ap (λ (m : ℕ). 2 ^ m) split ∙ pow-add 2 (64 - d) d) ∙ ap (λ (m : ℕ). m + guard) (sym (mul_assoc v (2 ^ (64 - d)) (2 ^ d))) in
      let q : whole b t guard / 2 ^ d ≡ v * 2 ^ (64 - d) + guard / 2 ^ d = ap (λ (m : ℕ). m / 2 ^ d) n ∙ mul-add-div_right (pow_pos d) (v * 2 ^ (64 - d)) guard in
      let small : v * 2 ^ (64 - d) + guard / 2 ^ d < (2 ^ 64) ^ length t =
      subst (λ (m : ℕ). m < (2 ^ 64) ^ length t) q (subst (λ (m : ℕ). whole b t guard / 2 ^ d < m) (sym (base_pow (length t))) (shr_lt (64 * length t) d (whole_lt r))) in
      ap (λ (m : ℕ). (v * 2 ^ (64 - d) + guard / 2 ^ m) % (2 ^ 64) ^ length t) back ∙ mod-eq_of_lt small ∙ sym q

-- ---- bounds

-- the first of the digits is 1
pub whole_ge : (b : Bool) (t : List ℕ) (guard d : ℕ) → Reaches b t d → 2 ^ (64 * length t + d) ≤ 2 * whole b t guard
unfolding whole
whole_ge b t guard d r = le_trans r.first (more (headed b t * 2 ^ 64) guard)
  where
    more : (a g : ℕ) → 2 * a ≤ 2 * (a + g)
    more a g = omega arith

-- no more than 128 digits stand in the guard and the limb above it
pub rest_low : (b : Bool) (t : List ℕ) (guard k : ℕ) → 0 < length t → k ≤ 128 → (get_or t 0 0 * 2 ^ 64 + guard) % 2 ^ k ≡ whole b t guard % 2 ^ k
unfolding whole headed
rest_low b t guard k some le =
    let x = get_or t 0 0 in
    let y = bit b * 2 ^ (64 * (length t - 1)) + value_in (2 ^ 64) (drop 1 t) in
    let w : 64 * length t ≡ 64 + 64 * (length t - 1) = omega arith in
    let e : headed b t ≡ x + 2 ^ 64 * y =
    apart (2 ^ 64) (bit b) (2 ^ (64 * length t)) (2 ^ (64 * (length t - 1))) (value_in (2 ^ 64) t) x (value_in (2 ^ 64) (drop 1 t)) (ap (λ (n : ℕ). 2 ^ n) w ∙ pow-add 2 64 (64 * (length t - 1))) (value_drop (2 ^ 64) 0 t) in
    let s : 128 ≡ k + (128 - k) = omega arith in
    let z : headed b t * 2 ^ 64 + guard ≡ x * 2 ^ 64 + guard + 2 ^ k * (2 ^ (128 - k) * y) =
    ap (λ (m : ℕ). m * 2 ^ 64 + guard) e ∙ spread (2 ^ 64) x y ∙ ap (λ (m : ℕ). x * 2 ^ 64 + guard + m * y) (ap (λ (n : ℕ). 2 ^ n) s ∙ pow-add 2 k (128 - k)) ∙ ap (λ (m : ℕ). x * 2 ^ 64 + guard + m) (mul_assoc (2 ^ k) (2 ^ (128 - k)) y) in
    sym (ap (λ (m : ℕ). m % 2 ^ k) z ∙ add-mul-mod_self_left (x * 2 ^ 64 + guard) (2 ^ k) (2 ^ (128 - k) * y))
  where
    apart : (B c X Y v x r : ℕ) → X ≡ B * Y → v ≡ x + B * r → c * X + v ≡ x + B * (c * Y + r)
    apart B c X Y v x r e f = omega (arith, ap (λ (m : ℕ). c * m) e)

    spread : (B x y : ℕ) → (x + B * y) * B + guard ≡ x * B + guard + B * B * y
    spread B x y = omega arith
