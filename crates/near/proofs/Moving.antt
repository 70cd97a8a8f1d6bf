-- An operand moved down by less than a limb: its columns as many as its limbs are its number divided, and one more is what falls below. Assumes nothing.
use mathlib.Core.Path.{◌≡◌, refl, sym, ap, ◌∙◌}
use mathlib.Core.Bool.{Bool, true, false, true≢false}
use mathlib.Core.List.{List}
use Prim.Native.Nat.{ℕ, ◌+◌, ◌-◌, ◌*◌, ◌/◌, ◌%◌, ◌^◌, ◌≤◌, ◌<◌}
use native.Mathlib.Nat.{div-add-mod', mul-div-mul_right, mul-div_cancel, add-mul-mod_self_left}
use native.Mathlib.Omega.{arith}
use lib.ListN.{length, get_or}
use lib.Pow.{pow-add, pow_pos}
use Rattle.limb.specs.Value.{value_of, Below}
use Rattle.limb.specs.Carry.{bit}
use Rattle.limb.proofs.Value.{value_nil, value_take, value_low, value_lt, base_pow}
use Rattle.columns.specs.Column.{read_to}
use Rattle.leap.proofs.Leaping.{read_down}
use Rattle.fused.specs.Fused.{SumOf, DifferenceOf}
use Rattle.near.specs.Abreast.{Moved, Guarding}

-- ---- what is read

-- the lowest limb
lowest_limb : (l : List ℕ) → Below (2 ^ 64) l → value_of l % 2 ^ 64 ≡ get_or l 0 0
lowest_limb l lim = value_low (2 ^ 64) 1 l lim ∙ value_take (2 ^ 64) 0 l ∙ rw (value_nil (2 ^ 64)) (omega arith)

module _ (gap : ℕ) (close : gap < 64) where
  limb_power : 2 ^ 64 ≡ 2 ^ gap * 2 ^ (64 - gap)
  limb_power = ap (λ (m : ℕ). 2 ^ m) (let z : 64 ≡ gap + (64 - gap) = omega arith in z) ∙ pow-add 2 gap (64 - gap)

  -- a number moved up to where a limb more ends: what stands above that limb, and in it
  moved_apart : (v : ℕ) → v * 2 ^ (64 - gap) ≡ v / 2 ^ gap * 2 ^ 64 + v % 2 ^ 64 * 2 ^ (64 - gap) % 2 ^ 64
  moved_apart v =
      let u : ℕ = v * 2 ^ (64 - gap) in
      sym (div-add-mod' u (2 ^ 64)) ∙ ap (λ (m : ℕ). m * 2 ^ 64 + u % 2 ^ 64) high ∙ ap (λ (m : ℕ). v / 2 ^ gap * 2 ^ 64 + m) low
    where
      high : v * 2 ^ (64 - gap) / 2 ^ 64 ≡ v / 2 ^ gap
      high = ap (λ (m : ℕ). v * 2 ^ (64 - gap) / m) limb_power ∙ mul-div-mul_right v (2 ^ gap) (pow_pos (64 - gap))

      low : v * 2 ^ (64 - gap) % 2 ^ 64 ≡ v % 2 ^ 64 * 2 ^ (64 - gap) % 2 ^ 64
      low = ap (λ (m : ℕ). m % 2 ^ 64) (spread (v / 2 ^ 64) (v % 2 ^ 64) (2 ^ (64 - gap)) (div-add-mod' v (2 ^ 64))) ∙ add-mul-mod_self_left (v % 2 ^ 64 * 2 ^ (64 - gap)) (2 ^ 64) (v / 2 ^ 64 * 2 ^ (64 - gap))
        where
          spread : (q r w : ℕ) → q * 2 ^ 64 + r ≡ v → v * w ≡ r * w + 2 ^ 64 * (q * w)
          spread q r w e = ap (λ (m : ℕ). m * w) (sym e) ∙ omega arith

  module _ (l : List ℕ) (n : ℕ) (long : length l ≡ n) where
    -- as many columns as there are limbs
    pub read_moved : read_to n gap l ≡ value_of l / 2 ^ gap
    read_moved = sym (read_down n gap l (omega (arith, long))) ∙ ap (λ (m : ℕ). value_of l / 2 ^ m) (omega (arith, long))

    -- and one more
    read_past : read_to (n + 1) gap l ≡ value_of l * 2 ^ (64 - gap)
    unfolding read_to
    read_past =
        ap (λ (m : ℕ). value_of l * 2 ^ m / 2 ^ (64 * length l + gap)) places
        ∙ ap (λ (m : ℕ). m / 2 ^ (64 * length l + gap)) (turn (value_of l) (2 ^ (64 - gap)) (2 ^ (64 * length l + gap)) (2 ^ (64 - gap + (64 * length l + gap))) (pow-add 2 (64 - gap) (64 * length l + gap)))
        ∙ mul-div_cancel (value_of l * 2 ^ (64 - gap)) (pow_pos (64 * length l + gap))
      where
        places : 64 * (n + 1) ≡ 64 - gap + (64 * length l + gap)
        places = omega (arith, long)

        turn : (v a b c : ℕ) → c ≡ a * b → v * c ≡ v * a * b
        turn v a b c e = rw e (omega arith)

    pub read_below : Below (2 ^ 64) l → read_to (n + 1) gap l ≡ value_of l / 2 ^ gap * 2 ^ 64 + get_or l 0 0 * 2 ^ (64 - gap) % 2 ^ 64
    read_below lim = read_past ∙ moved_apart (value_of l) ∙ ap (λ (m : ℕ). value_of l / 2 ^ gap * 2 ^ 64 + m * 2 ^ (64 - gap) % 2 ^ 64) (lowest_limb l lim)

-- of an operand that is not moved
module _ (l : List ℕ) (n : ℕ) (long : length l ≡ n) where
  pub read_unmoved : read_to n 0 l ≡ value_of l
  read_unmoved = read_moved 0 (omega arith) l n long ∙ omega arith

  pub read_unmoved_past : read_to (n + 1) 0 l ≡ value_of l * 2 ^ 64
  read_unmoved_past = read_past 0 (omega arith) l n long

-- ---- what is left in the target

module _ (same : Bool) (a b : ℕ) (borrow : Bool) (n : ℕ) (after : List ℕ) where
  pub moved_sum : (carry : Bool) → same ≡ true → SumOf a b false n after carry → Moved same a b borrow n after carry
  moved_sum carry s u = record {
    size = u.size;
    sum = λ e. let z : bit false ≡ 0 = unfold bit in refl in omega (arith, u.value, z);
    difference = λ e. absurd (true≢false (sym s ∙ e));
  }

  pub moved_difference : (out : Bool) → same ≡ false → Below (2 ^ 64) after → DifferenceOf a b borrow n after out → Moved same a b borrow n after false
  unfolding bit
  moved_difference out s lim u = record { size = u.size; sum = λ e. absurd (true≢false (sym e ∙ s)); difference = λ e h. (refl, go out u.value h) }
    where
      small : value_of after < 2 ^ (64 * n)
      small = rw (base_pow n) at (rw u.size at (value_lt (2 ^ 64) after lim))

      go : (out : Bool) → value_of after + b + bit borrow ≡ a + 2 ^ (64 * n) * bit out → b + bit borrow ≤ a → value_of after + b + bit borrow ≡ a
      go true e h = absurd (omega (arith, small))
      go false e h = omega arith

-- ---- the guard

pub guarding_sum : (same : Bool) (below : ℕ) → same ≡ true → Guarding same below below false
guarding_sum same below s = record { sum = λ e. refl; difference = λ e. absurd (true≢false (sym s ∙ e)) }

pub guarding_difference : (same : Bool) (below guard : ℕ) (borrow : Bool) → same ≡ false → guard + below + bit false ≡ 0 + 2 ^ 64 * bit borrow → Guarding same below guard borrow
guarding_difference same below guard borrow s v = record { sum = λ e. absurd (true≢false (sym e ∙ s)); difference = λ e. let z : bit false ≡ 0 = unfold bit in refl in omega (arith, v, z) }
