-- A run of one limb with its first digit brought to the top of the limb: what the moves leave, and that its answer is the same. Assumes nothing.
use mathlib.Core.Path.{◌≡◌, refl, sym, ap, ◌∙◌, subst}
use mathlib.Core.Bool.{Bool, true, false, not, ◌||◌}
use mathlib.Core.List.{List, [], ◌∷◌}
use Prim.Native.Nat.{ℕ, zero, suc, ◌+◌, ◌-◌, ◌*◌, ◌/◌, ◌%◌, ◌^◌, ◌≤◌, ◌<◌}
use native.Mathlib.Nat.{le_trans, le_of_eq, div-eq_of_lt, le_of_mul-le-mul_right, lt_of_mul-lt-mul_right}
use native.Mathlib.Omega.{arith}
use lib.Bits.{bit_or, or_zero_r}
use lib.Count.{count_leading_zeros}
use lib.Dec.{eqb}
use lib.Pow.{pow_pos, pow-add}
use borrow.Author.Tests.{lt-ltb, le-leb, eq-eqb}
use Rattle.limb.proofs.Tests.{and_both}
use Rattle.limb.specs.Carry.{bit}
use Rattle.numbers.specs.Limits.{least_precision, most_precision, most_exponent, limbs_for}
use Rattle.rounding.specs.Mode.{Way, way}
use Rattle.rounding.specs.Answer.{rounded}
use Rattle.rounding.specs.declared.Mode.{Mode}
use Rattle.place.specs.declared.Placed.{Placed}
use Rattle.place.specs.declared.one.Normal.{Normal}
use Rattle.place.specs.Normal.{Normalized}
use Rattle.place.specs.Placed.{run_number, run_answer, run_rule}
use Rattle.place.specs.Rounded.{rounded_placed, rounded_limbs}
use Rattle.kept.specs.Walk.{headed, whole, Reaches}
use Rattle.place.proofs.Answer.{same_rounds}
use Rattle.place.proofs.Finer.{finer}
use Rattle.kept.proofs.Moves.{limb_raised, top_few, limb_lowered, zeros_top}
use Rattle.kept.proofs.OneLimb.{one_value, one_reaches}
use Rattle.kept.proofs.Reaching.{headed_true, headed_false, whole_lt, whole_ge}
use Rattle.place.proofs.Rules.{Passed, passed, rule_none}

pub differ : {A : Type 0} {b : Bool} → b ≡ true → b ≡ false → A
differ e f = let z : ◌≡◌ {A = ℕ} 0 1 = cc in absurd (omega arith)

-- ---- what a run of one limb is worth

module _ (b : Bool) (x g : ℕ) where
  pub whole_carried : b ≡ true → whole b (x ∷ []) g ≡ (x + 2 ^ 64) * 2 ^ 64 + g
  unfolding whole
  whole_carried e = ap (λ (n : ℕ). n * 2 ^ 64 + g) (headed_true b (x ∷ []) e ∙ ap (λ (n : ℕ). 2 ^ 64 + n) (one_value x) ∙ swap (2 ^ 64) x)
    where
      swap : (a b : ℕ) → a + b ≡ b + a
      swap a b = omega arith

  pub whole_plain : b ≡ false → whole b (x ∷ []) g ≡ x * 2 ^ 64 + g
  unfolding whole
  whole_plain e = ap (λ (n : ℕ). n * 2 ^ 64 + g) (headed_false b (x ∷ []) e ∙ one_value x)

-- z bits up bring the first digit of x to the top
pub record ToTop (x z : ℕ) : Type 0 where
  pub few : z < 64
  pub first : 2 ^ 63 ≤ x * 2 ^ z
  pub fits : x * 2 ^ z < 2 ^ 64

pub brought_top : (x : ℕ) → 0 < x → x < 2 ^ 64 → ToTop x (count_leading_zeros 64 x)
brought_top x h lt = let t = zeros_top x h lt in record { few = t.0; first = t.1; fits = t.2 }

-- a limb without a digit at its top has zeros there
pub some_zeros : (x z : ℕ) → x < 2 ^ 63 → ToTop x z → 0 < z
some_zeros x zero lt t = let k = t.first in absurd (omega arith)
some_zeros x (suc z) lt t = omega arith

-- ---- what the moves leave

module _ (b : Bool) (x g : ℕ) (more : Bool) (u : ℕ) (lt : x < 2 ^ 64) (few : g < 2 ^ 64) where
  pub lowered : b ≡ true → Normalized b x g more u (record { limb = bit_or (x / 2) 9223372036854775808; guard = bit_or (x * 2 ^ 63 % 2 ^ 64) (g / 2); more = not (eqb (g % 2) 0) || more; unit = u + 1 })
  lowered e =
      let l = bit_or (x / 2) 9223372036854775808 in
      let a : 2 * l + x % 2 ≡ x + 2 ^ 64 = limb_lowered x 1 lt (omega arith) in
      let top : 2 ^ 63 ≤ l = omega arith in
      let m = bit_or (x * 2 ^ 63 % 2 ^ 64) (g / 2) in
      let h : g / 2 < 2 ^ 63 = omega arith in
      let d : m + 2 ^ 64 * (x / 2) ≡ x * 2 ^ 63 + g / 2 = limb_raised x (g / 2) 63 (omega arith) (omega arith) lt h in
      record {
        first = top;
        carried = λ f. (
          whole_carried b x g e ∙ down (2 ^ 63) (2 ^ 64) l m (x / 2) (x % 2) (x + 2 ^ 64) (g / 2) (g % 2) refl a (halves x) (halves g) d ∙ ap (λ (n : ℕ). n * 2 + g % 2) (sym (whole_plain false l m refl)),
          refl,
          refl,
        );
        plain = λ f. differ e f;
      }
    where
      halves : (n : ℕ) → n ≡ 2 * (n / 2) + n % 2
      halves n = omega arith

      down : (H B l m c o y q r : ℕ) → B ≡ 2 * H → 2 * l + o ≡ y → x ≡ 2 * c + o → g ≡ 2 * q + r → m + B * c ≡ x * H + q → y * B + g ≡ (l * B + m) * 2 + r
      down H B l m c o y q r e f i k d = let v = ap (λ (n : ℕ). n * B) f in let t = ap (λ (n : ℕ). n * H) i in omega (arith, ap (λ (n : ℕ). c * n) e, ap (λ (n : ℕ). o * n) e)

  pub stays : b ≡ false → 2 ^ 63 ≤ x → Normalized b x g more u (record { limb = x; guard = g; more = more; unit = u })
  stays e h =
      record {
        first = h;
        carried = λ f. differ f e;
        plain = λ f. (ap (λ (c : Bool). whole c (x ∷ []) g) (sym e) ∙ same (whole b (x ∷ []) g) u, refl, omega arith, omega arith);
      }
    where
      same : (w u : ℕ) → w ≡ w * 2 ^ (u - u)
      same w u = let z : u - u ≡ 0 = omega arith in rw z (omega arith)

  module _ (z : ℕ) (top : ToTop x z) (some : 0 < z) (room : z ≤ u) where
    abbrev up : ℕ
    up = g / 2 ^ (64 - z)

    abbrev raised_limb : ℕ
    raised_limb = bit_or (x * 2 ^ z % 2 ^ 64) up

    abbrev raised_guard : ℕ
    raised_guard = g * 2 ^ z % 2 ^ 64

    -- nothing leaves at the top
    limb_is : raised_limb ≡ x * 2 ^ z + up
    limb_is =
        let e : 64 ≡ (64 - z) + z = omega arith in
        let s : x < 2 ^ (64 - z) = lt_of_mul-lt-mul_right (2 ^ z) (subst (λ (n : ℕ). x * 2 ^ z < n) (ap (λ (n : ℕ). 2 ^ n) e ∙ pow-add 2 (64 - z) z) top.fits) in
        let n : x / 2 ^ (64 - z) ≡ 0 = div-eq_of_lt s in
        none raised_limb (2 ^ 64) (x / 2 ^ (64 - z)) (x * 2 ^ z + up) n (limb_raised x up z some top.few lt (top_few g 0 z some top.few few (pow_pos z)))
      where
        none : (l B d n : ℕ) → d ≡ 0 → l + B * d ≡ n → l ≡ n
        none l B d n e f = omega (arith, ap (λ (m : ℕ). B * m) e)

    guard_is : raised_guard + 2 ^ 64 * up ≡ g * 2 ^ z
    guard_is = ap (λ (n : ℕ). n + 2 ^ 64 * up) (sym (or_zero_r raised_guard)) ∙ limb_raised g 0 z some top.few few (pow_pos z) ∙ omega arith

    pub raised : b ≡ false → Normalized b x g more u (record { limb = raised_limb; guard = raised_guard; more = more; unit = u - z })
    raised e =
        record {
          first = le_trans top.first (le_trans (more_than (x * 2 ^ z) up) (le_of_eq (sym limb_is)));
          carried = λ f. differ f e;
          plain = λ f. (
            whole_plain false raised_limb raised_guard refl ∙ moved (2 ^ 64) (2 ^ z) raised_limb raised_guard up limb_is guard_is ∙ ap (λ (n : ℕ). n * 2 ^ z) (sym (whole_plain b x g e))
                ∙ ap (λ (n : ℕ). whole b (x ∷ []) g * 2 ^ n) back,
            refl,
            omega arith,
            omega arith,
          );
        }
      where
        more_than : (a c : ℕ) → a ≤ a + c
        more_than a c = omega arith

        moved : (B K l m c : ℕ) → l ≡ x * K + c → m + B * c ≡ g * K → l * B + m ≡ (x * B + g) * K
        moved B K l m c e f = let k = ap (λ (n : ℕ). n * B) e in omega arith

        back : z ≡ u - (u - z)
        back = omega arith

-- ---- the answer is the same

-- another limb in the place of one that the rules let pass
pub also_passes : (p : ℕ) (b : Bool) (x : ℕ) (u : ℕ) → run_rule p b (x ∷ []) u ≡ 0 → (l v : ℕ) → 2 ^ 63 ≤ l → 0 < v → v ≤ 2 * most_exponent → run_rule p false (l ∷ []) v ≡ 0
unfolding least_precision most_precision
also_passes p b x u pass l v first some most =
    let ok = passed p b (x ∷ []) u pass in
    sym (rule_none p false (l ∷ []) v (and_both (le-leb 2 p ok.least) (le-leb p 4096 ok.most)) (eq-eqb 1 (limbs_for p) ok.count) (and_both (lt-ltb 0 v some) (le-leb v (2 * most_exponent) most))
    (lt-ltb 0 l (omega (arith, first))))

module _ (mode : Mode) (p : ℕ) (negative : Bool) (u : ℕ) (b : Bool) (x g : ℕ) (more : Bool) (r : Normal) (pass : run_rule p b (x ∷ []) u ≡ 0) (over : 64 < u) (under : u < 2 * most_exponent)
    (lt : r.limb < 2 ^ 64) (few : r.guard < 2 ^ 64) (n : Normalized b x g more u r) where
  ok : Passed p b (x ∷ []) u
  ok = passed p b (x ∷ []) u pass

  abbrev W : ℕ
  W = whole b (x ∷ []) g

  abbrev N : ℕ
  N = whole false (r.limb ∷ []) r.guard

  reaches : Reaches false (r.limb ∷ []) 64
  reaches = one_reaches r.limb r.guard lt few n.first

  short : p ≤ 64
  short = ok.digits_fit

  lo : 2 ^ 128 ≤ 2 * N
  lo = whole_ge false (r.limb ∷ []) r.guard 64 reaches

  hi : N < 2 ^ 128
  hi = whole_lt false (r.limb ∷ []) r.guard 64 few reaches

  abbrev w : Way
  w = way mode negative

  -- one digit more below
  from_carried : b ≡ true → rounded w p (u - 1) negative (2 * W + bit more) ≡ rounded w p (r.unit - 1) negative (2 * N + bit r.more)
  from_carried e =
      let c = n.carried e in
      let k : p + (128 - p) ≡ 128 = omega (arith, short) in
      ap (λ (m : ℕ). rounded w p (u - 1) negative (2 * m + bit more)) c.0
      ∙ finer w p (128 - p) N 1 (g % 2) r.more more (omega (arith, ok.least)) (omega (arith, short)) (rw k lo) (rw k hi) (omega arith) c.1 (u - 1) negative
      ∙ ap (λ (m : ℕ). rounded w p m negative (2 * N + bit r.more)) (count r.unit c.2)
    where
      count : (v : ℕ) → v ≡ u + 1 → 1 + (u - 1) ≡ v - 1
      count v e = omega arith

  -- as many digits fewer as there are zeros
  from_plain : b ≡ false → rounded w p (u - 1) negative (2 * W + bit more) ≡ rounded w p (r.unit - 1) negative (2 * N + bit r.more)
  from_plain e =
      let f = n.plain e in
      let z = u - r.unit in
      let k : p + (128 - z - p) ≡ 128 - z = fill z (few_zeros r.unit f.3) short in
      let s = parts z (few_zeros r.unit f.3) in
      let F : W * 2 ^ z + 0 ≡ N = plus (W * 2 ^ z) ∙ sym f.0 in
      ap (λ (m : ℕ). rounded w p m negative (2 * W + bit more)) (count r.unit f.2 f.3)
      ∙ sym (finer w p (128 - z - p) W z 0 more more (omega (arith, ok.least)) (left z (few_zeros r.unit f.3) short) (rw k (least z s f.0)) (rw k (most z s f.0)) (pow_pos z) refl (r.unit - 1) negative)
      ∙ ap (λ (m : ℕ). rounded w p (r.unit - 1) negative (2 * m + bit more)) F ∙ ap (λ (c : Bool). rounded w p (r.unit - 1) negative (2 * N + bit c)) (sym f.1)
    where
      few_zeros : (v : ℕ) → u < v + 64 → u - v < 64
      few_zeros v h = omega arith

      fill : (z : ℕ) → z < 64 → p ≤ 64 → p + (128 - z - p) ≡ 128 - z
      fill z h k = omega arith

      left : (z : ℕ) → z < 64 → p ≤ 64 → 0 < 128 - z - p
      left z h k = omega arith

      parts : (z : ℕ) → z < 64 → 2 ^ 128 ≡ 2 ^ (128 - z) * 2 ^ z
      parts z h = let e : 128 ≡ (128 - z) + z = omega arith in ap (λ (n : ℕ). 2 ^ n) e ∙ pow-add 2 (128 - z) z

      plus : (a : ℕ) → a + 0 ≡ a
      plus a = omega arith

      twice : (a c : ℕ) → 2 * (a * c) ≡ 2 * a * c
      twice a c = omega arith

      least : (z : ℕ) → 2 ^ 128 ≡ 2 ^ (128 - z) * 2 ^ z → N ≡ W * 2 ^ z → 2 ^ (128 - z) ≤ 2 * W
      least z s d = le_of_mul-le-mul_right (le_trans (le_of_eq (sym s)) (le_trans lo (le_of_eq (ap (λ (m : ℕ). 2 * m) d ∙ twice W (2 ^ z))))) (pow_pos z)

      most : (z : ℕ) → 2 ^ 128 ≡ 2 ^ (128 - z) * 2 ^ z → N ≡ W * 2 ^ z → W < 2 ^ (128 - z)
      most z s d = lt_of_mul-lt-mul_right (2 ^ z) (subst (λ (m : ℕ). W * 2 ^ z < m) s (subst (λ (m : ℕ). m < 2 ^ 128) d hi))

      count : (v : ℕ) → v ≤ u → u < v + 64 → u - 1 ≡ u - v + (v - 1)
      count v h k = omega arith

  same_answer : run_answer mode p negative r.unit (run_number false (r.limb ∷ []) r.guard r.more) ≡ run_answer mode p negative u (run_number b (x ∷ []) g more)
  unfolding run_answer run_number whole headed
  same_answer = sym (go b refl)
    where
      go : (c : Bool) → b ≡ c → rounded w p (u - 1) negative (2 * W + bit more) ≡ rounded w p (r.unit - 1) negative (2 * N + bit r.more)
      go true e = from_carried e
      go false e = from_plain e

  unit_fits : (0 < r.unit) × (r.unit ≤ 2 * most_exponent)
  unit_fits = go b refl
    where
      go : (c : Bool) → b ≡ c → (0 < r.unit) × (r.unit ≤ 2 * most_exponent)
      go true e = let f = (n.carried e).2 in (omega arith, omega arith)
      go false e = let f = n.plain e in (omega (arith, f.3), omega (arith, f.2))

  pub normal_passes : run_rule p false (r.limb ∷ []) r.unit ≡ 0
  normal_passes = also_passes p b x u pass r.limb r.unit n.first unit_fits.0 unit_fits.1

  -- what the normal run is rounded to, the run is rounded to
  pub normal_rounds : (q : Placed) (l : List ℕ) → q ≡ rounded_placed mode p negative r.unit false (r.limb ∷ []) r.guard r.more → l ≡ rounded_limbs mode p negative r.unit false (r.limb ∷ []) r.guard r.more
      → (q ≡ rounded_placed mode p negative u b (x ∷ []) g more) × (l ≡ rounded_limbs mode p negative u b (x ∷ []) g more)
  normal_rounds = same_rounds mode p negative u b (x ∷ []) g more r.unit false (r.limb ∷ []) r.guard r.more pass normal_passes same_answer
