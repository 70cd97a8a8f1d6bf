-- What is read gives the answer: of so many units and perhaps more below them, and where the decision holds of every sum between the ends.
use mathlib.Core.Path.{◌≡◌, refl, sym, ap, ◌∙◌}
use mathlib.Core.Bool.{Bool, true, false, cond, ◌||◌}
use Prim.Native.Nat.{ℕ, zero, suc, ◌+◌, ◌-◌, ◌*◌, ◌/◌, ◌%◌, ◌^◌, ◌≤◌, ◌<◌, compare, Ordering}
use native.Mathlib.Nat.{div-add-mod', mod-lt, le_trans, le_of_eq, mul-div_cancel}
use native.Mathlib.Omega.{arith}
use borrow.Author.Tests.{eqb-true, eqb-false, ltb-true}
use lib.Dec.{eqb}
use lib.Pow.{pow_pos, pow-add}
use lib.Ieee.{size}
use Rattle.limb.proofs.Tests.{both_true}
use Rattle.rounding.specs.Mode.{Way}
use Rattle.rounding.specs.Answer.{too_large, too_small, rounded, digits}
use Rattle.numbers.specs.Limits.{least_exponent, most_exponent}
use Rattle.rounding.specs.Select.{chosen}
use Rattle.rounding.proofs.Between.{between}
use Rattle.rounding.proofs.Scale.{digits_shift}
use Rattle.decide.specs.Class.{lean, step, enough, settled}
use Rattle.decide.specs.Range.{carry, large?, small?, decided}
use Rattle.decide.specs.Answer.{settled_answer, decided_answer}
use Rattle.decide.proofs.Lean.{Part}
use Rattle.decide.proofs.Settled.{Span, Enough, enough_true, enough_le, halves, chosen_cut, tern_cut}
use Rattle.decide.proofs.Carry.{size_enough, size_quot, size_pow, size_pos, size_suc}
use Rattle.decide.proofs.Range.{Sides, large_is, small_is, large_answer, small_answer, decided_if}

-- ---- the digits of q, or of q + 1

digits_own : (p c : ℕ) → size c ≡ p → digits p c ≡ c
unfolding digits
digits_own p c e = ap (λ (z : ℕ). c * 2 ^ p / 2 ^ z) e ∙ mul-div_cancel c (pow_pos p)

digits_pow : (p : ℕ) → 0 < p → digits p (2 ^ p) ≡ 2 ^ (p - 1)
unfolding digits
digits_pow zero h = absurd (omega arith)
digits_pow (suc p) h =
    ap (λ (z : ℕ). 2 ^ suc p * 2 ^ suc p / 2 ^ z) (size_pow (suc p)) ∙ ap (λ (z : ℕ). z / 2 ^ suc (suc p)) (sym (pow-add 2 (suc p) (suc p)) ∙ ap (λ (z : ℕ). 2 ^ z) (move p) ∙ pow-add 2 p (suc (suc p)))
    ∙ mul-div_cancel (2 ^ p) (pow_pos (suc (suc p))) ∙ ap (λ (z : ℕ). 2 ^ z) (pred p)
  where
    move : (p : ℕ) → suc p + suc p ≡ p + suc (suc p)
    move p = omega arith

    pred : (p : ℕ) → p ≡ suc p - 1
    pred p = omega arith

digits_step : (o : Ordering) (p q : ℕ) → 0 < p → size q ≡ p → digits p (step o q) ≡ cond (eqb (step o q) (2 ^ p)) (2 ^ (p - 1)) (step o q)
digits_step o p q P e = go (eqb (step o q) (2 ^ p)) refl
  where
    below : (o : Ordering) → (step o q ≡ 2 ^ p → ⊥) → size (step o q) ≡ p
    below Ordering.lt n = unfold step in e
    below Ordering.eq n = unfold step in e
    below Ordering.gt n = unfold step in size_suc p q e (unfold step in n)

    go : (b : Bool) → eqb (step o q) (2 ^ p) ≡ b → digits p (step o q) ≡ cond b (2 ^ (p - 1)) (step o q)
    go true f = ap (digits p) (eqb-true (step o q) (2 ^ p) f) ∙ digits_pow p P
    go false f = digits_own p (step o q) (below o (eqb-false (step o q) (2 ^ p) f))

step_pos : (o : Ordering) (q : ℕ) → 0 < q → 0 < step o q
unfolding step
step_pos Ordering.lt q h = h
step_pos Ordering.eq q h = h
step_pos Ordering.gt q h = omega arith

-- ---- of n cut units, and perhaps some more below them: what lies below is seen only as `more`

module _ (w : Way) (p s : ℕ) (P : 0 < p) (g : Bool) (j n : ℕ) (more : Bool) (a : ℕ) (part : Part more (2 ^ j) a) (e : Enough w p n) where
  abbrev u : ℕ
  u = 2 ^ (size n - p)

  abbrev q : ℕ
  q = n / u

  abbrev d : Ordering
  d = lean w q u (n % u) more

  abbrev value : ℕ
  value = n * 2 ^ j + a

  size_q : size q ≡ p
  size_q = size_quot p n P (enough_le w p n e)

  n_pos : 0 < n
  n_pos = size_pos n (le_trans P (enough_le w p n e))

  kept : chosen w p value ≡ step d q * (u * 2 ^ j)
  kept = chosen_cut w p n j a more n_pos part (enough_le w p n e) q u (n % u) refl (sym (div-add-mod' n u)) (mod-lt n (pow_pos (size n - p))) (halves w p n e)

  ternary : compare (chosen w p value) value ≡ d
  ternary = tern_cut w p n j a more n_pos part (enough_le w p n e) q u (n % u) refl (sym (div-add-mod' n u)) (mod-lt n (pow_pos (size n - p))) (halves w p n e)

  kept_digits : digits p (chosen w p value) ≡ cond (eqb (step d q) (2 ^ p)) (2 ^ (p - 1)) (step d q)
  kept_digits =
      ap (digits p) (kept ∙ ap (λ (z : ℕ). step d q * z) (sym (pow-add 2 (size n - p) j)))
      ∙ digits_shift p (step d q) (size n - p + j) (step_pos d q (size_pos q (le_trans P (le_of_eq (sym size_q))))) ∙ digits_step d p q P size_q

  exponent : size (chosen w p value) + s ≡ size n + carry w p n more + (j + s)
  exponent = sum (size n) (carry w p n more) (size_enough w p n j a more P e part)
    where
      sum : (b c : ℕ) {v : ℕ} → v ≡ b + c + j → v + s ≡ b + c + (j + s)
      sum b c e = omega arith

  pub read_answer : rounded w p s g value ≡ settled_answer w p (j + s) g n more
  unfolding rounded settled_answer
  read_answer = let b = kept_digits in let c = exponent in let f = ternary in cc

-- ---- of the least sum, and so of every one, where the decision holds

pub settled_enough : (w : Way) (p n : ℕ) (ml : Bool) (i : ℕ) (mg : Bool) → settled w p n ml i mg ≡ true → Enough w p n
unfolding settled
settled_enough w p n ml i mg e = enough_true w p n (both_true (enough w p n) _ e).0

pub decided_answer_lem : (w : Way) (p s : ℕ) (P : 0 < p) (g : Bool) (j n : ℕ) (ml half : Bool) (i : ℕ) (mg : Bool) (tail lo hi : ℕ) (sp : Span j n ml i mg lo hi) → Sides s j n half i tail lo hi → decided w p (j + s) n ml half i mg tail ≡ true
    → (m : ℕ) → lo ≤ m → m ≤ hi → rounded w p s g m ≡ decided_answer w p (j + s) g n ml half i mg
unfolding decided decided_answer
decided_answer_lem w p s P g j n ml half i mg tail lo hi sp si ok m h k =
    between w p s g P lo m hi h k ends ∙ go (settled w p n ml i mg) (large? w p (j + s) n ml half) refl refl
  where
    ends : rounded w p s g lo ≡ rounded w p s g hi
    ends = decided_if w p s P j n ml half i mg tail lo hi sp si g ok

    third : (a b c : Bool) → (a || (b || c)) ≡ true → a ≡ false → b ≡ false → c ≡ true
    third a b c e f g = sym (rw (f, g)) ∙ e

    go : (b c : Bool) → settled w p n ml i mg ≡ b → large? w p (j + s) n ml half ≡ c → rounded w p s g lo ≡ cond b (settled_answer w p (j + s) g n ml) (cond c too_large too_small)
    go true c e f = ap (rounded w p s g) sp.least ∙ read_answer w p s P g j n ml sp.a sp.part_least (settled_enough w p n ml i mg e)
    go false true e f = large_answer w p s g P lo (ltb-true most_exponent (size (chosen w p lo) + s) (sym (large_is w p s P j n ml half i mg tail lo hi sp si) ∙ f))
    go false false e f = ends ∙ small_answer w p s g P hi (ltb-true (size (chosen w p hi) + s) least_exponent (sym (small_is w p s P j n ml half i mg tail lo hi sp si) ∙ third (settled w p n ml i mg) (large? w p (j + s) n ml half) (small? w p (j + s) (n + i) mg tail) ok e f))
