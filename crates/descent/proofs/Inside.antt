-- Where the rest of D lies inside a half, no carry and no borrow from below changes what is selected. Assumes nothing.
use mathlib.Core.Path.{◌≡◌, refl, sym, ap, ◌∙◌, subst}
use mathlib.Core.Logic.{◌⊎◌, inl, inr}
use mathlib.Core.Bool.{Bool, true, false, not, ◌&&◌, ◌||◌}
use mathlib.Core.List.{List}
use Prim.Native.Nat.{ℕ, zero, suc, ◌+◌, ◌-◌, ◌*◌, ◌/◌, ◌%◌, ◌^◌, ◌≤◌, ◌<◌, compare, Ordering}
use native.Mathlib.Nat.{mod-lt}
use native.Mathlib.Omega.{arith}
use borrow.Author.Tests.{lt-ltb, ne_eqb, ltb-true}
use lib.Dec.{ltb, leb, eqb}
use lib.ListN.{length, drop, get_or}
use lib.Pow.{pow_pos, pow-add, mod-pow-add}
use lib.Ieee.{size}
use Rattle.remnant.proofs.Resting.{word_low}
use Rattle.decide.proofs.Settled.{enough_longer}
use Rattle.limb.proofs.Tests.{both_true}
use Rattle.limb.specs.Value.{value_of}
use Rattle.limb.specs.Carry.{bit}
use Rattle.limb.proofs.Value.{value_drop}
use Rattle.rounding.specs.Mode.{Way, near, under, over}
use Rattle.rounding.proofs.Order.{compare_at}
use Rattle.decide.specs.Class.{tie, off, lean, alike, enough, settled}
use Rattle.decide.proofs.Lean.{lean_rest}
use Rattle.remnant.specs.Rest.{RestOf}
use Rattle.remnant.specs.Digits.{ShowsDigits}
use Rattle.walk.specs.Window.{Shows}
use Rattle.remnant.specs.declared.rest.Rest.{Rest}
use Rattle.walk.specs.declared.state.Window.{Window}
use Rattle.walk.proofs.Showing.{whole_shows}
use Rattle.lean.proofs.Plus.{settled_is}
use Rattle.lean.proofs.Minus.{minus_under, minus_over, minus_near}
use Rattle.descent.specs.Course.{Full, Inside}
use Rattle.descent.proofs.AtOnce.{head_is, top_power}

-- ---- both sides of a half

abbrev Side : ℕ → ℕ → Type 0
Side r u = ((1 ≤ r) × ((r + 1) * 2 < u)) ⊎ ((u < r * 2) × (r + 1 < u))

half_side : (D e : ℕ) → 1 ≤ D % 2 ^ e → D % 2 ^ e + 1 < 2 ^ e → Side (D % 2 ^ (1 + e)) (2 ^ (1 + e))
half_side D e h l = go (D / 2 ^ e % 2 ^ 1) (D % 2 ^ (1 + e)) (2 ^ (1 + e)) (D % 2 ^ e) (2 ^ e) (mod-lt (D / 2 ^ e) (pow_pos 1)) (mod-pow-add D 1 e) (pow-add 2 1 e) h l
  where
    go : (b r u t h : ℕ) → b < 2 ^ 1 → r ≡ b * h + t → u ≡ 2 ^ 1 * h → 1 ≤ t → t + 1 < h → Side r u
    go zero r u t h lt m q a c = inl (omega arith, omega arith)
    go (suc zero) r u t h lt m q a c = inr (omega arith, omega arith)
    go (suc (suc b)) r u t h lt m q a c = absurd (omega arith)

module _ (p D : ℕ) (n : Inside p D) where
  abbrev u : ℕ
  u = 2 ^ (size D - p)

  abbrev r : ℕ
  r = D % u

  side : Side r u
  side = subst (λ (m : ℕ). Side (D % 2 ^ m) (2 ^ m)) whole (half_side D (size D - p - 1) n.some n.below)
    where
      whole : 1 + (size D - p - 1) ≡ size D - p
      whole = omega (arith, n.longer)

  digits_so : (w : Way) → enough w p D ≡ true
  digits_so w = enough_longer w p D n.longer

  some_rest : 0 < r
  some_rest = go r u side
    where
      go : (r u : ℕ) → Side r u → 0 < r
      go r u (inl s) = s.0
      go r u (inr s) = omega (arith, s.0)

  off_half : r * 2 ≡ u → ⊥
  off_half = go r u side
    where
      go : (r u : ℕ) → Side r u → r * 2 ≡ u → ⊥
      go r u (inl s) e = omega (arith, s.1)
      go r u (inr s) e = omega (arith, s.0)

  next_room : (i : ℕ) → i ≤ 1 → r + i < u
  next_room i h = go r u side
    where
      go : (r u : ℕ) → Side r u → r + i < u
      go r u (inl s) = omega (arith, s.1)
      go r u (inr s) = omega (arith, s.1)

  one_side : (q i : ℕ) → i ≤ 1 → (least most : Bool) → alike (tie least q (compare (r * 2) u)) (tie most q (compare ((r + i) * 2) u)) ≡ true
  unfolding tie
  one_side q i h least most = go r u side
    where
      go : (r u : ℕ) → Side r u → alike (tie least q (compare (r * 2) u)) (tie most q (compare ((r + i) * 2) u)) ≡ true
      go r u (inl s) = rw (compare_at Ordering.lt (r * 2) u (omega (arith, s.1)), compare_at Ordering.lt ((r + i) * 2) u (omega (arith, s.1))) refl
      go r u (inr s) = rw (compare_at Ordering.gt (r * 2) u s.0, compare_at Ordering.gt ((r + i) * 2) u (omega (arith, s.0))) refl

  pub inside_plus : (w : Way) (least : Bool) (i : ℕ) → i ≤ 1 → (most : Bool) → settled w p D least i most ≡ true
  unfolding off
  inside_plus w least i h most =
      settled_is w p D least i most (digits_so w) (lt-ltb (r + i) u (next_room i h))
      ∙ ap (λ (o : Ordering). alike o (lean w (D / u) u (r + i) most)) (lean_rest w (D / u) u r some_rest least)
      ∙ ap (alike (off w (D / u) u r least)) (lean_rest w (D / u) u (r + i) (omega (arith, some_rest)) most)
      ∙ go w
    where
      go : (w : Way) → alike (off w (D / u) u r least) (off w (D / u) u (r + i) most) ≡ true
      go near = one_side (D / u) i h least most
      go under = refl
      go over = refl

  x : Rest
  x = record { enough = leb p (size D); empty = eqb (size D) p; zero = eqb r 0; ones = eqb (suc r) u; almost = eqb (suc r * 2) u; half = eqb (r * 2) u; above = ltb u (r * 2); odd = eqb (D / u % 2) 1 }

  rest : RestOf p D x
  unfolding x
  rest = record { enough = refl; empty = λ h. refl; zero = λ h. refl; ones = λ h. refl; almost = λ h. refl; half = λ h. refl; above = λ h. refl; odd = λ h. refl }

  not_zero : x.zero ≡ false
  unfolding x
  not_zero = ne_eqb r 0 (λ e. omega (arith, some_rest))

  not_half : x.half ≡ false
  unfolding x
  not_half = ne_eqb (r * 2) u off_half

  pub inside_minus : 0 < p → (w : Way) (most : Bool) → settled w p (D - 1) true 1 most ≡ true
  inside_minus P near most = sym (minus_near near p D x rest P most (digits_so near) not_zero refl) ∙ ap (λ (b : Bool). not (b && (most || x.odd))) not_half
  inside_minus P under most = sym (minus_under under p D x rest P most (digits_so under) not_zero refl)
  inside_minus P over most = sym (minus_over over p D x rest P most (digits_so over) not_zero refl)

-- ---- the last digits of a full target are those of D

spread : (c Q g v B P W : ℕ) → P ≡ B * Q → W ≡ g + B * v → c * P + W ≡ (c * Q + v) * B + g
spread c Q g v B P W a b = rw (a, b) (omega arith)

-- so they tell whether the rest of D lies inside a half
pub inside_by : (p n D low : ℕ) → size D ≡ n → p < n → D % 2 ^ (n - p - 1) ≡ low % 2 ^ (n - p - 1) → (1 ≤ low % 2 ^ (n - p - 1)) × (low % 2 ^ (n - p - 1) + 1 < 2 ^ (n - p - 1)) → Inside p D
inside_by p n D low is long same t = record {
  longer = rw is long;
  some = rw (is, same) t.0;
  below = rw (is, same) t.1;
}

module _ (w : Window) (target : List ℕ) (f : Full w target) (k D : ℕ) (s : Shows w target k D) where
  low_digits : (e : ℕ) → e ≤ 64 → D % 2 ^ e ≡ get_or target 0 0 % 2 ^ e
  low_digits e h =
      let above : ℕ = bit w.carry * 2 ^ (64 * (length target - 1)) + value_of (drop 1 target) in
      let apart : bit w.carry * 2 ^ (64 * length target) + value_of target ≡ above * 2 ^ 64 + get_or target 0 0 =
      spread (bit w.carry) (2 ^ (64 * (length target - 1))) (get_or target 0 0) (value_of (drop 1 target)) (2 ^ 64) (2 ^ (64 * length target)) (value_of target) (top_power w target f.fits.limbs) (value_drop (2 ^ 64) 0 target) in
      ap (λ (m : ℕ). m % 2 ^ e) ((whole_shows w target k D s f.unguarded).value ∙ head_is w target f.fits.limbs f.filled ∙ apart) ∙ word_low above (get_or target 0 0) e h

pub inside_told : (p n : ℕ) (w : Window) (target : List ℕ) → Full w target → ShowsDigits w target n → p < n → n - p ≤ 64
    → (1 ≤ get_or target 0 0 % 2 ^ (n - p - 1)) × (get_or target 0 0 % 2 ^ (n - p - 1) + 1 < 2 ^ (n - p - 1)) → (k D : ℕ) → Shows w target k D → Inside p D
inside_told p n w target f d long few t k D s =
    let is : size D ≡ n = omega (arith, d.exact k D s, (whole_shows w target k D s f.unguarded).below) in
    inside_by p n D (get_or target 0 0) is long (low_digits w target f k D s (n - p - 1) (omega arith)) t

-- ---- the test on a limb

pub limb_inside : (low half h : ℕ) → half ≡ h → (ltb 0 (low % half) && ltb (low % half) (half - 1)) ≡ true → (1 ≤ low % h) × (low % h + 1 < h)
limb_inside low half h e t = rw (sym e) (let u = both_true _ _ t in (ltb-true 0 (low % half) u.0, omega (arith, ltb-true (low % half) (half - 1) u.1)))
