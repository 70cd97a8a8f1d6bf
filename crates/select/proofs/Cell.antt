-- Where the digits go on below those that a selection looks at, only whether something stands there counts. Assumes nothing.
use mathlib.Core.Path.{◌≡◌, sym, ap, ◌∙◌}
use mathlib.Core.Logic.{◌⊎◌, inl, inr}
use Prim.Native.Nat.{ℕ, zero, suc, ◌+◌, ◌-◌, ◌*◌, ◌/◌, ◌%◌, ◌^◌, ◌≤◌, ◌<◌, compare, Ordering}
use native.Mathlib.Nat.{le_trans, le_of_eq, lt_of_lt_of_le, mul_assoc, mul-le-mul_right, div-add-mod', mod-lt, suc-mul}
use native.Mathlib.Omega.{arith}
use lib.Dec.{eqb}
use lib.Pow.{pow_pos, pow-add}
use lib.Ieee.{size}
use lib.Ieee.Digits.{size-lt, size_reaches}
use Rattle.limb.specs.Carry.{bit}
use Rattle.rounding.specs.Mode.{Way}
use Rattle.rounding.specs.Select.{unit, chosen, on_grid}
use Rattle.rounding.proofs.Order.{le_or_lt}
use Rattle.limb.proofs.Sizes.{size_is, size_ge}
use Rattle.location.specs.declared.Location.{Location}
use Rattle.location.specs.Location.{from_middle, location_of, goes_up, side}
use Rattle.location.proofs.Locating.{at_something, selected_at, side_at}

-- a number strictly between two neighbouring multiples, T and T + 1, of G = 2 ^ g, where T has more than p digits
module _ (p T g : ℕ) (full : 2 ^ p ≤ T) where
  abbrev G : ℕ
  G = 2 ^ g

  abbrev h : ℕ
  h = 2 ^ (size T - p - 1)

  -- the unit of the last of p digits, in G
  abbrev v : ℕ
  v = 2 ^ (size T - p)

  abbrev u : ℕ
  u = v * G

  wide : p < size T
  wide = size_ge T p full

  v_is : v ≡ 2 * h
  v_is = ap (λ (k : ℕ). 2 ^ k) (count (size T) wide) ∙ pow-add 2 1 (size T - p - 1)
    where
      count : (z : ℕ) → p < z → z - p ≡ 1 + (z - p - 1)
      count z l = omega arith

  abbrev q : ℕ
  q = T / v

  abbrev z : ℕ
  z = T % v

  -- which half of the unit it lies in is the same for all of them
  pub half : Ordering
  half = elim (le_or_lt h z) [ inl l ↦ Ordering.gt | inr l ↦ Ordering.lt ]

  module _ (x : ℕ) (some : 0 < x) (below : x < G) where
    -- the number, and its part below the unit
    abbrev m : ℕ
    m = T * G + x

    abbrev r : ℕ
    r = z * G + x

    r_lt : r < u
    r_lt = go (mod-lt T (pow_pos (size T - p)))
      where
        go : z < v → r < u
        go l = let k = mul-le-mul_right G l in omega (arith, suc-mul z G)

    m_is : m ≡ q * u + r
    m_is = go (ap (λ (k : ℕ). k * G) (div-add-mod' T v))
      where
        go : (q * v + z) * G ≡ T * G → m ≡ q * u + r
        go e = omega (arith, mul_assoc q v G)

    m_size : size m ≡ size T + g
    m_size = go (size T) (size-lt T) (size_reaches T) wide
      where
        shift : (k : ℕ) → suc k + g ≡ suc (k + g)
        shift k = omega arith

        go : (s : ℕ) → T < 2 ^ s → ((i : ℕ) → i < s → 2 ^ i ≤ T) → p < s → size m ≡ s + g
        go zero a b l = absurd (omega arith)
        go (suc k) a b l =
            let lo = mul-le-mul_right G (b k (omega arith)) in
            let hi = mul-le-mul_right G a in
            size_is m (k + g) (le_trans (le_of_eq (pow-add 2 k g)) (omega arith))
            (lt_of_lt_of_le (omega (arith, suc-mul T G)) (le_trans hi (le_of_eq (sym (pow-add 2 (suc k) g) ∙ ap (λ (n : ℕ). 2 ^ n) (shift k)))))
            ∙ sym (shift k)

    unit_is : unit p m ≡ u
    unfolding unit
    unit_is = ap (λ (k : ℕ). 2 ^ (k - p)) m_size ∙ ap (λ (k : ℕ). 2 ^ k) (count (size T) wide) ∙ pow-add 2 (size T - p) g
      where
        count : (k : ℕ) → p < k → k + g - p ≡ k - p + g
        count k l = omega arith

    located : location_of r u ≡ from_middle half
    unfolding half
    located = go (le_or_lt h z)
      where
        go : (o : (h ≤ z) ⊎ (z < h)) → location_of r u ≡ from_middle (elim o [ inl l ↦ Ordering.gt | inr l ↦ Ordering.lt ])
        go (inl l) = at_something Ordering.gt r u (omega arith) (let k = mul-le-mul_right G l in omega (arith, ap (λ (n : ℕ). n * G) v_is, mul_assoc 2 h G))
        go (inr l) = at_something Ordering.lt r u (omega arith) (let k = mul-le-mul_right G l in omega (arith, ap (λ (n : ℕ). n * G) v_is, mul_assoc 2 h G, suc-mul z G))

    pub chosen_cell : (w : Way) → chosen w p m ≡ (q + bit (goes_up w (from_middle half) (eqb (q % 2) 1))) * u
    unfolding chosen on_grid
    chosen_cell w =
        ap (λ (k : ℕ). on_grid w k m) unit_is ∙ ap (on_grid w u) m_is ∙ ap (λ (k : ℕ). k * u) (selected_at q u r r_lt w)
        ∙ ap (λ (a : Location). (q + bit (goes_up w a (eqb (q % 2) 1))) * u) located

    pub side_cell : (w : Way) → compare (chosen w p m) m ≡ side (from_middle half) (goes_up w (from_middle half) (eqb (q % 2) 1))
    side_cell w =
        ap (λ (k : ℕ). compare k m) (chosen_cell w)
        ∙ ap (compare ((q + bit (goes_up w (from_middle half) (eqb (q % 2) 1))) * u)) m_is
        ∙ ap (λ (a : Location). compare ((q + bit (goes_up w a (eqb (q % 2) 1))) * u) (q * u + r)) (sym located)
        ∙ side_at q u r r_lt w (eqb (q % 2) 1)
        ∙ ap (λ (a : Location). side a (goes_up w a (eqb (q % 2) 1))) located

  -- two of them select one number, and lie on one side of it
  pub cell_one : (w : Way) (x y : ℕ) → 0 < x → x < G → 0 < y → y < G → chosen w p (T * G + x) ≡ chosen w p (T * G + y)
  cell_one w x y a b c d = chosen_cell x a b w ∙ sym (chosen_cell y c d w)

  pub cell_side : (w : Way) (x y : ℕ) → 0 < x → x < G → 0 < y → y < G → compare (chosen w p (T * G + x)) (T * G + x) ≡ compare (chosen w p (T * G + y)) (T * G + y)
  cell_side w x y a b c d = side_cell x a b w ∙ sym (side_cell y c d w)
