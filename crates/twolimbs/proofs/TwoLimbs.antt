-- Two columns: those of a limb, a sum and a difference of two, and their digits brought to the top. Laws of limbs stand over any base B. Assumes nothing.
use mathlib.Core.Path.{◌≡◌, refl, sym, ap, ◌∙◌, subst}
use mathlib.Core.Bool.{Bool, true, false, true≢false}
use mathlib.Core.List.{[], ◌∷◌}
use Prim.Native.Nat.{ℕ, suc, ◌+◌, ◌-◌, ◌*◌, ◌/◌, ◌%◌, ◌^◌, ◌≤◌, ◌<◌}
use native.Mathlib.Decide.{dec_le}
use native.Mathlib.Nat.{div-add-mod', add-mul-mod_self_left, mul_assoc, mul-div-mul_right, mul-le-mul_right, pow-succ'}
use native.Mathlib.Omega.{arith}
use lib.Bits.{bit_or, or_zero_r}
use lib.Count.{count_leading_zeros}
use lib.Pow.{pow-add, pow_pos, shr-shr}
use Rattle.limb.specs.Carry.{bit}
use Rattle.kept.specs.Walk.{whole}
use Rattle.kept.proofs.OneLimb.{one_value}
use Rattle.kept.proofs.Reaching.{headed_true, headed_false}
use Rattle.place.proofs.Normalized.{ToTop, brought_top, lowered, raised}
use Rattle.twolimbs.specs.Two.{head_in, Brought}
use Rattle.twolimbs.specs.declared.Normal.{Normal}

-- ---- the columns of a limb

-- what is dropped of a factor is dropped of the product
mod_product : (x B k : ℕ) → x % B * k % B ≡ x * k % B
mod_product x B k = sym (ap (λ (m : ℕ). m % B) (parts (x / B) (x % B) (div-add-mod' x B)) ∙ add-mul-mod_self_left (x % B * k) B (x / B * k))
  where
    parts : (q r : ℕ) → q * B + r ≡ x → x * k ≡ r * k + B * (q * k)
    parts q r e = omega (arith, ap (λ (m : ℕ). m * k) e)

module _ (v gap : ℕ) (near : gap < 64) where
  abbrev low : ℕ
  low = v * 2 % 2 ^ 64 * 2 ^ (63 - gap) % 2 ^ 64

  low_is : low ≡ v * 2 ^ (64 - gap) % 2 ^ 64
  low_is =
      mod_product (v * 2) (2 ^ 64) (2 ^ (63 - gap))
      ∙ ap (λ (m : ℕ). m % 2 ^ 64) (mul_assoc v 2 (2 ^ (63 - gap)) ∙ ap (λ (m : ℕ). v * m) (sym (pow-succ' 2 (63 - gap)) ∙ ap (λ (m : ℕ). 2 ^ m) (let z : suc (63 - gap) ≡ 64 - gap = omega arith in z)))

  high_is : v * 2 ^ (64 - gap) / 2 ^ 64 ≡ v / 2 ^ gap
  high_is =
      ap (λ (m : ℕ). v * 2 ^ (64 - gap) / m) (ap (λ (m : ℕ). 2 ^ m) (let z : 64 ≡ gap + (64 - gap) = omega arith in z) ∙ pow-add 2 gap (64 - gap))
      ∙ mul-div-mul_right v (2 ^ gap) (pow_pos (64 - gap))

  pub columns_are : head_in (2 ^ 64) false (v / 2 ^ gap) low ≡ v * 2 ^ (64 - gap)
  unfolding head_in bit
  columns_are = rw (low_is, ← high_is) (flat (v * 2 ^ (64 - gap) / 2 ^ 64) (2 ^ 64) _ ∙ div-add-mod' (v * 2 ^ (64 - gap)) (2 ^ 64))
    where
      flat : (a B c : ℕ) → (0 * B + a) * B + c ≡ a * B + c
      flat a B c = omega arith

  pub columns_even : low % 2 ≡ 0
  columns_even = let e : v * 2 % 2 ^ 64 ≡ 2 * (v % 2 ^ 63) = omega arith in rw e (ap (λ (m : ℕ). m % 2 ^ 64 % 2) (mul_assoc 2 (v % 2 ^ 63) (2 ^ (63 - gap))) ∙ even (v % 2 ^ 63 * 2 ^ (63 - gap)))
    where
      even : (n : ℕ) → 2 * n % 2 ^ 64 % 2 ≡ 0
      even n = omega arith

-- ---- a sum and a difference

pub sum_is : (B limb high low s : ℕ) (carry : Bool) → s + B * bit carry ≡ limb + high + bit false → head_in B carry s low ≡ limb * B + head_in B false high low
unfolding head_in bit
sum_is B limb high low s carry e = go (bit carry) e
  where
    go : (k : ℕ) → s + B * k ≡ limb + high + 0 → (k * B + s) * B + low ≡ limb * B + ((0 * B + high) * B + low)
    go k e = omega (arith, ap (λ (m : ℕ). m * B) e)

pub difference_is : (B u s v t h l : ℕ) (b c : Bool) → h < B → l < B → head_in B false v t ≤ head_in B false u s → l + t + bit false ≡ s + B * bit b → h + v + bit b ≡ u + B * bit c
    → head_in B false h l ≡ head_in B false u s - head_in B false v t
unfolding head_in bit
difference_is B u s v t h l b c H L less e f = go (bit b) c less e f
  where
    go : (k : ℕ) (c : Bool) → (0 * B + v) * B + t ≤ (0 * B + u) * B + s → l + t + 0 ≡ s + B * k → h + v + k ≡ u + B * bit c → (0 * B + h) * B + l ≡ (0 * B + u) * B + s - ((0 * B + v) * B + t)
    go k true less e f = absurd (omega (arith, ap (λ (m : ℕ). m * B) f, mul-le-mul_right B H))
    go k false less e f = omega (arith, ap (λ (m : ℕ). m * B) f)

-- ---- the digits from the first on

whole_false : (x g : ℕ) → whole false (x ∷ []) g ≡ head_in (2 ^ 64) false x g
unfolding whole head_in bit
whole_false x g = ap (λ (n : ℕ). n * 2 ^ 64 + g) (headed_false false (x ∷ []) refl ∙ one_value x ∙ flat x (2 ^ 64))
  where
    flat : (x B : ℕ) → x ≡ 0 * B + x
    flat x B = omega arith

whole_true : (x g : ℕ) → whole true (x ∷ []) g ≡ head_in (2 ^ 64) true x g
unfolding whole head_in bit
whole_true x g = ap (λ (n : ℕ). n * 2 ^ 64 + g) (headed_true true (x ∷ []) refl ∙ ap (λ (n : ℕ). 2 ^ 64 + n) (one_value x) ∙ flat x (2 ^ 64))
  where
    flat : (x B : ℕ) → B + x ≡ 1 * B + x
    flat x B = omega arith

-- moved up by z digits, and the exponent down
moved_up : (N D z top : ℕ) → z ≤ top → N ≡ D * 2 ^ z → N * 2 ^ (top - z) ≡ D * 2 ^ top
moved_up N D z top h e =
    ap (λ (m : ℕ). m * 2 ^ (top - z)) e ∙ mul_assoc D (2 ^ z) (2 ^ (top - z))
    ∙ ap (λ (m : ℕ). D * m) (sym (pow-add 2 z (top - z)) ∙ ap (λ (m : ℕ). 2 ^ m) (let i : z + (top - z) ≡ top = omega arith in i))

module _ (high low top : ℕ) (some : 0 < high) (lt : high < 2 ^ 64) (few : low < 2 ^ 64) (room : 64 ≤ top) where
  abbrev z : ℕ
  z = count_leading_zeros 64 high

  pub to_top : ToTop high z
  to_top = brought_top high some lt

  abbrev entering : ℕ
  entering = low / 2 / 2 ^ (63 - z)

  pub brought_up : Brought (head_in (2 ^ 64) false high low) top (record { high = bit_or (high * 2 ^ z % 2 ^ 64) entering; low = low * 2 ^ z % 2 ^ 64; exponent = top - z })
  brought_up = elim (dec_le 1 z) [ yes h ↦ moved h | no h ↦ rests (omega arith) ]
    where
      moved : 1 ≤ z → Brought (head_in (2 ^ 64) false high low) top (record { high = bit_or (high * 2 ^ z % 2 ^ 64) entering; low = low * 2 ^ z % 2 ^ 64; exponent = top - z })
      moved h =
          let r = raised false high low false top lt few z to_top h (omega (arith, to_top.few)) refl in
          let e : low / 2 ^ (64 - z) ≡ entering = ap (λ (m : ℕ). low / 2 ^ m) (let i : 64 - z ≡ 1 + (63 - z) = omega (arith, to_top.few) in i) ∙ sym (shr-shr low 1 (63 - z)) in
          record {
            first = rw (← e) r.first;
            worth =
                moved_up _ _ z top (omega (arith, to_top.few))
                (rw (← e) (sym (whole_false (bit_or (high * 2 ^ z % 2 ^ 64) (low / 2 ^ (64 - z))) (low * 2 ^ z % 2 ^ 64)))
                ∙ (r.plain refl).0 ∙ ap (λ (m : ℕ). m * 2 ^ (top - (top - z))) (whole_false high low) ∙ ap (λ (m : ℕ). head_in (2 ^ 64) false high low * 2 ^ m) (let i : top - (top - z) ≡ z = omega (arith, to_top.few) in i));
          }

      rests : z ≡ 0 → Brought (head_in (2 ^ 64) false high low) top (record { high = bit_or (high * 2 ^ z % 2 ^ 64) entering; low = low * 2 ^ z % 2 ^ 64; exponent = top - z })
      rests h =
          let up : bit_or (high * 2 ^ z % 2 ^ 64) entering ≡ high = rw h (let i : low / 2 / 2 ^ 63 ≡ 0 = omega arith in let j : high * 2 ^ 0 % 2 ^ 64 ≡ high = omega arith in rw (i, j) (or_zero_r high)) in
          let down : low * 2 ^ z % 2 ^ 64 ≡ low = rw h (omega arith) in
          record {
            first = rw up (let k = rw h at to_top.first in omega arith);
            worth = rw (up, down, h) (ap (λ (m : ℕ). head_in (2 ^ 64) false high low * 2 ^ m) (let i : top - 0 ≡ top = omega arith in i));
          }

-- a carry: the last digit is 0, and all move down by one
pub brought_down : (high low top : ℕ) → high < 2 ^ 64 → low < 2 ^ 64 → low % 2 ≡ 0
    → Brought (head_in (2 ^ 64) true high low) top (record { high = bit_or (high / 2) 9223372036854775808; low = bit_or (high * 2 ^ 63 % 2 ^ 64) (low / 2); exponent = top + 1 })
brought_down high low top lt few even =
    let r = lowered true high low false top lt few refl in
    record {
      first = r.first;
      worth =
          ap (λ (m : ℕ). head_in (2 ^ 64) false (bit_or (high / 2) 9223372036854775808) (bit_or (high * 2 ^ 63 % 2 ^ 64) (low / 2)) * m) (pow-add 2 top 1)
          ∙ turn (head_in (2 ^ 64) false (bit_or (high / 2) 9223372036854775808) (bit_or (high * 2 ^ 63 % 2 ^ 64) (low / 2))) (head_in (2 ^ 64) true high low) (2 ^ top)
          (sym (whole_true high low) ∙ (r.carried refl).0 ∙ rw (even, whole_false) refl);
    }
  where
    turn : (N D P : ℕ) → D ≡ N * 2 + 0 → N * (P * 2 ^ 1) ≡ D * P
    turn N D P e = omega (arith, ap (λ (m : ℕ). m * P) e)

-- a column of zeros above
pub brought_over : (low top : ℕ) → 64 ≤ top → head_in (2 ^ 64) false low 0 * 2 ^ (top - 64) ≡ head_in (2 ^ 64) false 0 low * 2 ^ top
unfolding head_in bit
brought_over low top h = moved_up _ (low + 0) 64 top h (flat low (2 ^ 64)) ∙ ap (λ (m : ℕ). m * 2 ^ top) (flip low (2 ^ 64))
  where
    flat : (l B : ℕ) → (0 * B + l) * B + 0 ≡ (l + 0) * B
    flat l B = omega arith

    flip : (l B : ℕ) → l + 0 ≡ (0 * B + 0) * B + l
    flip l B = omega arith

-- as the code finds it
pub brought_carry : (carry : Bool) (high low top : ℕ) → carry ≡ true → high < 2 ^ 64 → low < 2 ^ 64 → low % 2 ≡ 0
    → Brought (head_in (2 ^ 64) carry high low) top (record { high = bit_or (high / 2) 9223372036854775808; low = bit_or (high * 2 ^ 63 % 2 ^ 64) (low / 2); exponent = top + 1 })
brought_carry true high low top e lt few even = brought_down high low top lt few even
brought_carry false high low top e lt few even = absurd (true≢false (sym e))

pub brought_plain : (carry : Bool) (high low top : ℕ) (r : Normal) → carry ≡ false → Brought (head_in (2 ^ 64) false high low) top r → Brought (head_in (2 ^ 64) carry high low) top r
brought_plain true high low top r e b = absurd (true≢false e)
brought_plain false high low top r e b = b

pub brought_zeros : (carry : Bool) (high low top : ℕ) (r : Normal) → carry ≡ false → high ≡ 0 → 64 ≤ top → Brought (head_in (2 ^ 64) false low 0) (top - 64) r → Brought (head_in (2 ^ 64) carry high low) top r
brought_zeros carry high low top r e z h b =
    brought_plain carry high low top r e (subst (λ (m : ℕ). Brought (head_in (2 ^ 64) false m low) top r) (sym z) (record { first = b.first; worth = b.worth ∙ brought_over low top h }))

pub low_some : (carry : Bool) (high low : ℕ) → carry ≡ false → high ≡ 0 → 0 < head_in (2 ^ 64) carry high low → 0 < low
unfolding head_in bit
low_some true high low e z h = absurd (true≢false e)
low_some false high low e z h = go (2 ^ 64) high z h
  where
    go : (B m : ℕ) → m ≡ 0 → 0 < (0 * B + m) * B + low → 0 < low
    go B m z h = omega (arith, ap (λ (k : ℕ). k * B) z)
