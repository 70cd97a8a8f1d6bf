-- In a hole: all of x is read and y begins below. Where the hole is decided, the answer is that of x and a half below, or of a half less.
use mathlib.Core.Path.{◌≡◌, refl, sym, ap, ◌∙◌, subst}
use mathlib.Core.Logic.{◌⊎◌, inl, inr}
use mathlib.Core.Bool.{Bool, true, false, not, cond, ◌&&◌, ◌||◌, beq, true≢false}
use Prim.Native.Nat.{ℕ, zero, suc, ◌+◌, ◌-◌, ◌*◌, ◌%◌, ◌^◌, ◌≤◌, ◌<◌}
use native.Mathlib.Nat.{le_refl, le_trans, le_of_eq, le_antisymm, lt_of_lt_of_le, mul_assoc, mul-pos, mul-le-mul_right, mul-lt-mul_of_pos_right, pow-succ'}
use native.Mathlib.Omega.{arith}
use borrow.Author.Tests.{ltb-true, eqb-true, eqb-false, eq-eqb, ne_eqb}
use lib.Dec.{ltb, eqb}
use lib.Pow.{pow_pos, pow_mono, pow-add}
use lib.Ieee.{size}
use Rattle.limb.proofs.Tests.{both_true}
use Rattle.numbers.specs.Operand.{Operand, mantissa, last_weight}
use Rattle.numbers.proofs.Digits.{mantissa_lt, mantissa_ge, precision_two}
use Rattle.rounding.specs.Mode.{Way, way, near, under, over}
use Rattle.rounding.specs.declared.Mode.{Mode}
use Rattle.rounding.specs.Answer.{rounded, answer}
use Rattle.rounding.specs.Sum.{scale, share, amount, zero_sign, sum_at, add}
use Rattle.rounding.proofs.Order.{le_or_lt, mul_one_one}
use Rattle.limb.proofs.Sizes.{size_is, size_ge}
use Rattle.rounding.proofs.Ends.{plus as positive, minus as negative}
use Rattle.rounding.proofs.Scale.{size_shift}
use Rattle.rounding.proofs.Zeros.{share_as, share_other, amount_is}
use Rattle.depth.proofs.Columns.{digits_counted}
use Rattle.decide.specs.Table.{some?, odd?, hole?, hole_by_size}
use Rattle.decide.proofs.Settled.{Enough}
use Rattle.columns.specs.Column.{read_to}
use Rattle.settle.specs.declared.rows.Pair.{Pair}
use Rattle.bridge.specs.Verdict.{pair_of, Ordered, read_sum, middle?, hole_way}
use Rattle.bridge.proofs.Read.{size_mantissa, read_whole}
use Rattle.bridge.proofs.Told.{pair_gap, pair_same, second_weight, sum_same, sum_unlike, none_read}
use Rattle.bridge.proofs.HoleDigits.{more_below, less_below, upper_half, lower_half, borrowed}

-- ---- the sum by amounts

module _ (o : Mode) (p : ℕ) (P : 0 < p) (x y : Operand) where
  abbrev s : ℕ
  s = scale x y

  abbrev zeroed : Bool
  zeroed = zero_sign o x.negative y.negative

  add_at : (i j : ℕ) → share false s x + share false s y ≡ i → share true s x + share true s y ≡ j → add o p x y ≡ answer zeroed o p s i j
  unfolding add sum_at
  add_at i j e f = cc

  both : {m n i j : ℕ} → m ≡ i → n ≡ j → m + n ≡ i + j
  both e f = cc

  -- with the sign of x
  under_sign : (b : Bool) (n : ℕ) → x.negative ≡ b → rounded (way o b) p s b n ≡ rounded (way o x.negative) p s x.negative n
  under_sign b n e = sym (ap (λ (v : Bool). rounded (way o v) p s v n) e)

  flat : (n : ℕ) → n - (0 + 0) ≡ n
  flat n = omega arith

  outer : (m n : ℕ) → m + 0 - (0 + n) ≡ m - n
  outer m n = omega arith

  pub same_amounts : y.negative ≡ x.negative → 0 < amount s x + amount s y → add o p x y ≡ rounded (way o x.negative) p s x.negative (amount s x + amount s y)
  same_amounts e h = go x.negative refl e
    where
      go : (a : Bool) → x.negative ≡ a → y.negative ≡ x.negative → add o p x y ≡ rounded (way o x.negative) p s x.negative (amount s x + amount s y)
      go false f i =
          add_at (amount s x + amount s y) (0 + 0) (both (share_as false s x f) (share_as false s y (i ∙ f))) (both (share_other true s x f) (share_other true s y (i ∙ f)))
          ∙ positive zeroed o p s P (amount s x + amount s y) (0 + 0) h ∙ ap (rounded (way o false) p s false) (flat (amount s x + amount s y)) ∙ under_sign false (amount s x + amount s y) f
      go true f i =
          add_at (0 + 0) (amount s x + amount s y) (both (share_other false s x f) (share_other false s y (i ∙ f))) (both (share_as true s x f) (share_as true s y (i ∙ f)))
          ∙ negative zeroed o p s P (0 + 0) (amount s x + amount s y) h ∙ ap (rounded (way o true) p s true) (flat (amount s x + amount s y)) ∙ under_sign true (amount s x + amount s y) f

  pub unlike_amounts : y.negative ≡ not x.negative → amount s y < amount s x → add o p x y ≡ rounded (way o x.negative) p s x.negative (amount s x - amount s y)
  unlike_amounts e h = go x.negative refl e
    where
      wide : (m n : ℕ) → n < m → 0 + n < m + 0
      wide m n h = omega arith

      go : (a : Bool) → x.negative ≡ a → y.negative ≡ not x.negative → add o p x y ≡ rounded (way o x.negative) p s x.negative (amount s x - amount s y)
      go false f i =
          let l : y.negative ≡ true = i ∙ ap not f in
          add_at (amount s x + 0) (0 + amount s y) (both (share_as false s x f) (share_other false s y l)) (both (share_other true s x f) (share_as true s y l))
          ∙ positive zeroed o p s P (amount s x + 0) (0 + amount s y) (wide (amount s x) (amount s y) h) ∙ ap (rounded (way o false) p s false) (outer (amount s x) (amount s y)) ∙ under_sign false (amount s x - amount s y) f
      go true f i =
          let l : y.negative ≡ false = i ∙ ap not f in
          add_at (0 + amount s y) (amount s x + 0) (both (share_other false s x f) (share_as false s y l)) (both (share_as true s x f) (share_other true s y l))
          ∙ negative zeroed o p s P (0 + amount s y) (amount s x + 0) (wide (amount s x) (amount s y) h) ∙ ap (rounded (way o true) p s true) (outer (amount s x) (amount s y)) ∙ under_sign true (amount s x - amount s y) f

-- ---- the test of the hole, read

abbrev Room : Way → ℕ → ℕ → Type 0
Room near p z = p < z
Room under p z = p ≤ z
Room over p z = p ≤ z

room_enough : (w : Way) (p z n : ℕ) → Room w p z → z ≤ size n → Enough w p n
room_enough near p z n h k = lt_of_lt_of_le h k
room_enough under p z n h k = le_trans h k
room_enough over p z n h k = le_trans h k

-- room above both
room_least : (w : Way) (p i j z : ℕ) → Room w p i → p < j → (z ≡ i) ⊎ (z ≡ j) → Room w p z
room_least near p i j z h k (inl e) = omega arith
room_least near p i j z h k (inr e) = omega arith
room_least under p i j z h k (inl e) = omega arith
room_least under p i j z h k (inr e) = omega arith
room_least over p i j z h k (inl e) = omega arith
room_least over p i j z h k (inr e) = omega arith

hole_read : (w : Way) (p digits : ℕ) (odd : Bool) → hole? w p (suc digits) odd ≡ true → Room w p digits ⊎ ((w ≡ near) × (p ≡ digits) × (odd ≡ true))
unfolding hole?
hole_read near p digits odd e = go (ltb (p + 1) (suc digits)) refl e
  where
    less : p + 1 < suc digits → p < digits
    less h = omega arith

    even : p + 1 ≡ suc digits → p ≡ digits
    even h = omega arith

    go : (b : Bool) → ltb (p + 1) (suc digits) ≡ b → (b || (eqb (p + 1) (suc digits) && odd)) ≡ true → Room near p digits ⊎ ((near ≡ near) × (p ≡ digits) × (odd ≡ true))
    go true f e = inl (less (ltb-true (p + 1) (suc digits) f))
    go false f e = let h = both_true (eqb (p + 1) (suc digits)) odd e in inr (refl, even (eqb-true (p + 1) (suc digits) h.0), h.1)
hole_read under p digits odd e = inl (le (ltb-true p (suc digits) e))
  where
    le : p < suc digits → p ≤ digits
    le h = omega arith
hole_read over p digits odd e = inl (le (ltb-true p (suc digits) e))
  where
    le : p < suc digits → p ≤ digits
    le h = omega arith

not_middle : (w : Way) (p gap z : ℕ) → Room w p z → z ≤ gap → middle? w p gap ≡ false
unfolding middle?
not_middle near p gap z h k = ne_eqb p gap (λ e. omega arith)
not_middle under p gap z h k = refl
not_middle over p gap z h k = refl

-- an odd number, whose last digit is y's neighbour
odd_read : (m f : ℕ) → (odd? m && not (some? f)) ≡ true → (m % 2 ≡ 1) × (f ≡ 0)
odd_read m f e = go (eqb (m % 2) 0) f refl e
  where
    one : (r : ℕ) → r < 2 → (r ≡ 0 → ⊥) → r ≡ 1
    one zero h n = absurd (n refl)
    one (suc zero) h n = refl
    one (suc (suc r)) h n = absurd (omega arith)

    two : (m : ℕ) → m % 2 < 2
    two m = omega arith

    go : (b : Bool) (f : ℕ) → eqb (m % 2) 0 ≡ b → (not b && not (some? f)) ≡ true → (m % 2 ≡ 1) × (f ≡ 0)
    go false zero i e = (one (m % 2) (two m) (eqb-false (m % 2) 0 i), refl)
    go false (suc f) i e = absurd (true≢false (sym e))
    go true f i e = absurd (true≢false (sym e))

-- ---- one less has as many digits, or one fewer

pred_size : (n z : ℕ) → 2 ^ suc z ≤ n → suc z ≤ size (n - 1)
pred_size n z h = size_ge (n - 1) z (go n (2 ^ z) (pow_pos z) (le_trans (le_of_eq (sym (pow-succ' 2 z))) h))
  where
    go : (n c : ℕ) → 0 < c → 2 * c ≤ n → c ≤ n - 1
    go n c h k = omega arith

not_least : (n c : ℕ) → c ≤ n → (n ≡ c → ⊥) → c ≤ n - 1
not_least n c h k = elim (le_or_lt n c) [ inl l ↦ absurd (k (le_antisymm l h)) | inr l ↦ omega arith ]

pred_size_full : (n z : ℕ) → 2 ^ z ≤ n → (n ≡ 2 ^ z → ⊥) → suc z ≤ size (n - 1)
pred_size_full n z h k = size_ge (n - 1) z (not_least n (2 ^ z) h k)

-- ---- weights, over plain variables: t is the top, m the digits of x, c the digits read, B those of the zeros below, v the exponent of y

half_weight : (t m c B : ℕ) → m ≤ c → B + 1 ≤ t - c → t - m - (t - c - B - 1) ≡ suc (c - (m + 0) + B)
half_weight t m c B h k = omega arith

half_apart : (e n : ℕ) → 1 ≤ e → e ≤ n → 1 ≤ n - (e - 1)
half_apart e n h k = omega arith

less_both : (m n r : ℕ) → m ≤ n → m - r ≤ n - r
less_both m n r h = omega arith

hole_digits : (m g : ℕ) → m ≤ g → m + (g - m) + 1 ≡ suc g
hole_digits m g h = omega arith

hole_digits_less : (m g : ℕ) → m ≤ g → 2 ≤ m → m + (g - m) + 1 - 1 ≡ suc (g - 1)
hole_digits_less m g h k = omega arith

-- m is g: the last digit of x is y's neighbour
neighbours : (t m v c B : ℕ) → t - v - m ≡ 0 → m ≤ c → c ≤ t - v → v ≤ t → 2 ≤ m → (t - v ≡ m) × (t - m ≡ v) × (t - c - B ≤ v)
neighbours t m v c B e h k i j = (omega arith, omega arith, omega arith)

even_power : (m : ℕ) → 2 ≤ m → 2 ^ (m - 1) % 2 ≡ 1 → ⊥
even_power m h e = clash (2 ^ (m - 2)) (sym (ap (λ (z : ℕ). z % 2) (ap (λ (z : ℕ). 2 ^ z) (go m h) ∙ pow-succ' 2 (m - 2))) ∙ e)
  where
    go : (m : ℕ) → 2 ≤ m → m - 1 ≡ suc (m - 2)
    go m h = omega arith

    clash : (n : ℕ) → (2 * n) % 2 ≡ 1 → ⊥
    clash n e = omega arith

rest_pos : (n c : ℕ) → n < c → 0 < c - n
rest_pos n c h = omega arith

rest_less : (n c : ℕ) → 0 < c → 0 < n → c - n < c
rest_less n c h k = omega arith

rest_half : (n c : ℕ) → c ≤ n * 2 → (c - n) * 2 ≤ c
rest_half n c h = omega arith

pred_lt : (n c : ℕ) → n < c → n - 1 < c
pred_lt n c h = omega arith

odd_pred : (n : ℕ) → n % 2 ≡ 1 → (n - 1) % 2 ≡ 0
odd_pred n e = omega arith

unread_none : (m c : ℕ) → m - c ≡ 0 → m ≤ c
unread_none m c e = omega arith

-- the coarser of two units: y's top, or the last of the columns and zeros
module _ (t m c B v : ℕ) (few : m ≤ c) (order : v ≤ t) (far : c ≤ t - v) (room : B + 1 ≤ t - c) where
  top_above : v ≤ t - m
  top_above = omega arith

  end_above : t - c - B ≤ t - m
  end_above = omega arith

  top_size : m + (t - m - v) ≡ t - v
  top_size = omega arith

  end_size : m + (t - m - (t - c - B)) ≡ c + B
  end_size = omega arith

module _ (o : Mode) (p : ℕ) (P : 0 < p) (x y : Operand) (k : ℕ) (d : Ordered x y) (K : 1 ≤ k) (e : y.is_zero ≡ false) (far : 64 * k ≤ x.exponent - y.exponent) (whole : x.precision - 64 * k ≡ 0) (b : ℕ) (room : 64 * b + 1 ≤ x.exponent - 64 * k) where
  abbrev a : Bool
  a = x.negative

  abbrev t : ℕ
  t = x.exponent

  abbrev c : ℕ
  c = 64 * k

  abbrev w : Way
  w = way o a

  abbrev q : Pair
  q = pair_of x y

  abbrev m : ℕ
  m = x.precision

  abbrev M : ℕ
  M = mantissa x

  abbrev l : ℕ
  l = t - m

  abbrev v : ℕ
  v = y.exponent

  abbrev gap : ℕ
  gap = t - v

  abbrev r : ℕ
  r = scale x y

  -- the last unit of D with its zeros, and its half
  abbrev E : ℕ
  E = t - c - 64 * b

  abbrev H : ℕ
  H = E - 1

  abbrev D : ℕ
  D = read_sum x y k

  m_le : m ≤ c
  m_le = unread_none m c whole

  v_le : v ≤ t
  v_le = d.order e

  M_ge : 2 ^ (m - 1) ≤ M
  M_ge = mantissa_ge x d.first d.regular

  M_pos : 0 < M
  M_pos = le_trans (pow_pos (m - 1)) M_ge

  m_two : 2 ≤ m
  m_two = precision_two x d.first

  one_less : (m : ℕ) → 2 ≤ m → m ≡ suc (m - 1)
  one_less m h = omega arith

  size_M : size M ≡ m
  size_M = size_mantissa x d.first d.regular

  second_low : (r ≤ v - y.precision) × (y.precision ≤ v)
  second_low = (unfold last_weight in second_weight o p P x y k d K e, digits_counted y d.second e)

  r_le : r ≤ v
  r_le = go second_low.0
    where
      go : r ≤ v - y.precision → r ≤ v
      go h = omega arith

  first_is : amount r x ≡ M * 2 ^ (l - r)
  first_is = unfold last_weight in amount_is r x d.regular

  abbrev N : ℕ
  N = amount r y

  second_is : N ≡ mantissa y * 2 ^ (v - y.precision - r)
  second_is = unfold last_weight in amount_is r y e

  second_top : 2 ^ (v - r) ≡ 2 ^ y.precision * 2 ^ (v - y.precision - r)
  second_top = ap (λ (n : ℕ). 2 ^ n) (go second_low.0 second_low.1) ∙ pow-add 2 y.precision (v - y.precision - r)
    where
      go : r ≤ v - y.precision → y.precision ≤ v → v - r ≡ y.precision + (v - y.precision - r)
      go h k = omega arith

  second_lt : N < 2 ^ (v - r)
  second_lt = rw (second_is, second_top) (mul-lt-mul_of_pos_right (mantissa_lt y d.second) (pow_pos (v - y.precision - r)))

  second_half : 2 ^ (v - r) ≤ N * 2
  second_half =
      rw (second_is, second_top, ap (λ (n : ℕ). 2 ^ n) (one_less y.precision (precision_two y d.second)) ∙ pow-succ' 2 (y.precision - 1))
      (go (2 ^ (v - y.precision - r)) (2 ^ (y.precision - 1)) (mantissa y) (mul-le-mul_right (2 ^ (v - y.precision - r)) (mantissa_ge y d.second e)))
    where
      go : (z f n : ℕ) → f * z ≤ n * z → 2 * f * z ≤ n * z * 2
      go z f n h = omega arith

  N_pos : 0 < N
  N_pos = go N (2 ^ (v - r)) second_half (pow_pos (v - r))
    where
      go : (n c : ℕ) → c ≤ n * 2 → 0 < c → 0 < n
      go n c h k = omega arith

  read_is : read_to k 0 x.limbs ≡ M * 2 ^ (c - (m + 0))
  read_is = read_whole x d.first d.regular k 0 (go m m_le)
    where
      go : (m : ℕ) → m ≤ c → m + 0 ≤ c
      go m h = omega arith

  doubled : (n : ℕ) → n ≡ read_to k 0 x.limbs → 2 * (n * 2 ^ (64 * b)) ≡ M * 2 ^ (l - H)
  doubled n f =
      ap (λ (z : ℕ). 2 * (z * 2 ^ (64 * b))) (f ∙ read_is)
      ∙ ap (λ (z : ℕ). 2 * z) (mul_assoc M (2 ^ (c - (m + 0))) (2 ^ (64 * b)) ∙ ap (λ (z : ℕ). M * z) (sym (pow-add 2 (c - (m + 0)) (64 * b))))
      ∙ out M (2 ^ (c - (m + 0) + 64 * b)) (2 ^ suc (c - (m + 0) + 64 * b)) (pow-succ' 2 (c - (m + 0) + 64 * b))
      ∙ ap (λ (z : ℕ). M * 2 ^ z) (sym (half_weight t m c (64 * b) m_le room))
    where
      out : (n f g : ℕ) → g ≡ 2 * f → 2 * (n * f) ≡ n * g
      out n f g e = let h = ap (λ (z : ℕ). n * z) e in omega arith

  -- below the unit 2 ^ U
  module _ (U : ℕ) (above : U ≤ l) (over_top : v ≤ U) (over_end : E ≤ U) where
    n_size : size (M * 2 ^ (l - U)) ≡ m + (l - U)
    n_size = size_shift M (l - U) M_pos ∙ ap (λ (n : ℕ). n + (l - U)) size_M

    some_end : 1 ≤ E
    some_end = go (64 * b) room
      where
        go : (B : ℕ) → B + 1 ≤ t - c → 1 ≤ t - c - B
        go B h = omega arith

    half_low : H ≤ U
    half_low = go E over_end
      where
        go : (e : ℕ) → e ≤ U → e - 1 ≤ U
        go e h = omega arith

    half_lt : 1 < 2 ^ (U - H)
    half_lt = le_trans (le_refl 2) (pow_mono (half_apart E U some_end over_end))

    N_lt : N < 2 ^ (U - r)
    N_lt = lt_of_lt_of_le second_lt (pow_mono (less_both v U r over_top))

    low : r ≤ U
    low = le_trans r_le over_top

    more_hole : (z : Way) (n : ℕ) → n ≡ read_to k 0 x.limbs → Enough z p (M * 2 ^ (l - U)) → rounded z p r a (amount r x + N) ≡ rounded z p H a (2 * (n * 2 ^ (64 * b)) + 1)
    more_hole z n f h =
        ap (λ (j : ℕ). rounded z p r a (j + N)) first_is ∙ more_below p P a M l U r N above low N_pos N_lt z h
        ∙ sym (ap (λ (j : ℕ). rounded z p H a (j + 1)) (doubled n f) ∙ more_below p P a M l U H 1 above half_low (omega arith) half_lt z h)

    less_hole : (z : Way) (n : ℕ) → n ≡ read_to k 0 x.limbs → Enough z p (M * 2 ^ (l - U) - 1) → rounded z p r a (amount r x - N) ≡ rounded z p H a (2 * (n * 2 ^ (64 * b)) - 1)
    less_hole z n f h =
        let pos = mul-pos M_pos (pow_pos (l - U)) in
        ap (λ (j : ℕ). rounded z p r a (j - N)) first_is ∙ less_below p P a M l U r N above low N_pos N_lt z pos h
        ∙ sym (ap (λ (j : ℕ). rounded z p H a (j - 1)) (doubled n f) ∙ less_below p P a M l U H 1 above half_low (omega arith) half_lt z pos h)

  -- the unit is y's top, or the end of the zeros, whichever is larger
  coarser : (U : ℕ) × (U ≤ l) × (v ≤ U) × (E ≤ U) × ((m + (l - U) ≡ gap) ⊎ (m + (l - U) ≡ c + 64 * b))
  coarser = elim (le_or_lt v E) [
    | inl h ↦ (E, end_above t m c (64 * b) v m_le v_le far room, h, le_refl E, inr (end_size t m c (64 * b) v m_le v_le far room))
    | inr h ↦ (v, top_above t m c (64 * b) v m_le v_le far room, le_refl v, under_it h, inl (top_size t m c (64 * b) v m_le v_le far room))
  ]
    where
      under_it : {m n : ℕ} → m < n → m ≤ n
      under_it h = omega arith

  gap_is : q.gap ≡ gap
  gap_is = pair_gap x y e

  way_off : (z : ℕ) → Room w p z → z ≤ gap → hole_way w p q ≡ w
  way_off z h k = unfold hole_way in rw (gap_is, not_middle w p gap z h k)

  way_on : (f : Bool) → q.same ≡ f → w ≡ near → p ≡ gap → hole_way w p q ≡ cond f over under
  way_on f g h k = unfold hole_way middle? in rw (gap_is, h, eq-eqb p gap k, g)

  m_gap : m ≤ gap
  m_gap = le_trans m_le far

  -- ---- same signs

  signs_same : q.same ≡ true → y.negative ≡ a
  signs_same f = go a y.negative (sym (pair_same x y e) ∙ f)
    where
      go : (a b : Bool) → beq a b ≡ true → b ≡ a
      go true true h = refl
      go false false h = refl
      go true false h = absurd (true≢false (sym h))
      go false true h = absurd (true≢false (sym h))

  signs_unlike : q.same ≡ false → y.negative ≡ not a
  signs_unlike f = go a y.negative (sym (pair_same x y e) ∙ f)
    where
      go : (a b : Bool) → beq a b ≡ false → b ≡ not a
      go true true h = absurd (true≢false h)
      go false false h = absurd (true≢false h)
      go true false h = refl
      go false true h = refl

  sum_read_same : q.same ≡ true → D ≡ read_to k 0 x.limbs
  sum_read_same f = sum_same o p P x y k d K e f ∙ ap (λ (n : ℕ). read_to k 0 x.limbs + n) (none_read o p P x y k d K e far) ∙ go (read_to k 0 x.limbs)
    where
      go : (n : ℕ) → n + 0 ≡ n
      go n = omega arith

  sum_read_unlike : q.same ≡ false → D ≡ read_to k 0 x.limbs
  sum_read_unlike f = sum_unlike o p P x y k d K e f ∙ ap (λ (n : ℕ). read_to k 0 x.limbs - n) (none_read o p P x y k d K e far) ∙ go (read_to k 0 x.limbs)
    where
      go : (n : ℕ) → n - 0 ≡ n
      go n = omega arith

  abbrev odd : Bool
  odd = odd? M && not (some? (gap - m))

  test_same : q.same ≡ true → hole_by_size o p a y.negative M (q.gap - m) ≡ true → hole? w p (suc gap) odd ≡ true
  unfolding hole_by_size
  test_same f h = sym (rw (gap_is, sym (pair_same x y e) ∙ f, size_M, hole_digits m gap m_gap)) ∙ h

  same_pos : 0 < amount r x + N
  same_pos = go (amount r x) N N_pos
    where
      go : (m n : ℕ) → 0 < n → 0 < m + n
      go m n h = omega arith

  pub hole_sum_same : q.same ≡ true → hole_by_size o p a y.negative M (q.gap - m) ≡ true → p < c + 64 * b → add o p x y ≡ rounded (hole_way w p q) p H a (2 * (D * 2 ^ (64 * b)) + 1)
  hole_sum_same f h digits = same_amounts o p P x y (signs_same f) same_pos ∙ go (hole_read w p gap odd (test_same f h))
    where
      go : Room w p gap ⊎ ((w ≡ near) × (p ≡ gap) × (odd ≡ true)) → rounded w p r a (amount r x + N) ≡ rounded (hole_way w p q) p H a (2 * (D * 2 ^ (64 * b)) + 1)
      go (inl n) =
          let U = coarser in
          more_hole U.0 U.1 U.2 U.3 w D (sum_read_same f) (room_enough w p (m + (l - U.0)) (M * 2 ^ (l - U.0)) (room_least w p gap (c + 64 * b) (m + (l - U.0)) n digits U.4) (le_of_eq (sym (n_size U.0 U.1 U.2 U.3))))
          ∙ ap (λ (j : Way). rounded j p H a (2 * (D * 2 ^ (64 * b)) + 1)) (sym (way_off gap n (le_refl gap)))
      go (inr n) =
          let one = odd_read M (gap - m) n.2 in
          let side = neighbours t m v c (64 * b) one.1 m_le far v_le m_two in
          let just : size M ≡ p = size_M ∙ sym side.0 ∙ sym n.1 in
          let at_top = top_above t m c (64 * b) v m_le v_le far room in
          ap (λ (j : Way). rounded j p r a (amount r x + N)) n.0
          ∙ ap (λ (j : ℕ). rounded near p r a (j + N)) (first_is ∙ ap (λ (j : ℕ). M * 2 ^ (j - r)) side.1)
          ∙ upper_half p P r a M (v - r) N just N_pos second_lt one.0 second_half
          ∙ ap (λ (j : ℕ). rounded over p r a (j + N)) (sym (first_is ∙ ap (λ (j : ℕ). M * 2 ^ (j - r)) side.1))
          ∙ more_hole v at_top (le_refl v) side.2 over D (sum_read_same f) (le_trans (le_of_eq (n.1 ∙ sym (top_size t m c (64 * b) v m_le v_le far room))) (le_of_eq (sym (n_size v at_top (le_refl v) side.2))))
          ∙ ap (λ (j : Way). rounded j p H a (2 * (D * 2 ^ (64 * b)) + 1)) (sym (way_on true f n.0 n.1))

  -- ---- unlike signs

  test_unlike : q.same ≡ false → hole_by_size o p a y.negative M (q.gap - m) ≡ true → hole? w p (m + (gap - m) + 1 - cond (eqb M (2 ^ (m - 1))) 1 0) odd ≡ true
  unfolding hole_by_size
  test_unlike f h = sym (rw (gap_is, sym (pair_same x y e) ∙ f, size_M)) ∙ h

  second_less : N < amount r x
  second_less = rw first_is (lt_of_lt_of_le second_lt (le_trans (pow_mono (less_both v l r (top_above t m c (64 * b) v m_le v_le far room))) (one (2 ^ (l - r)) (mul-le-mul_right (2 ^ (l - r)) M_pos))))
    where
      one : (z : ℕ) {n : ℕ} → 1 * z ≤ n → z ≤ n
      one z h = omega arith

  -- one less than x, counted in 2 ^ U
  n_ge : (j : ℕ) → 2 ^ (m - 1 + j) ≤ M * 2 ^ j
  n_ge j = le_trans (le_of_eq (pow-add 2 (m - 1) j)) (mul-le-mul_right (2 ^ j) M_ge)

  pred_short : (j : ℕ) → m + j - 1 ≤ size (M * 2 ^ j - 1)
  pred_short j = le_trans (le_of_eq (go m j m_two)) (pred_size (M * 2 ^ j) (m - 2 + j) (subst (λ (z : ℕ). 2 ^ z ≤ M * 2 ^ j) (back m j m_two) (n_ge j)))
    where
      go : (m j : ℕ) → 2 ≤ m → m + j - 1 ≡ suc (m - 2 + j)
      go m j h = omega arith

      back : (m j : ℕ) → 2 ≤ m → m - 1 + j ≡ suc (m - 2 + j)
      back m j h = omega arith

  pred_full : (M ≡ 2 ^ (m - 1) → ⊥) → (j : ℕ) → m + j ≤ size (M * 2 ^ j - 1)
  pred_full other j = le_trans (le_of_eq (go m j m_two)) (pred_size_full (M * 2 ^ j) (m - 1 + j) (n_ge j) (λ f. other (mul_one_one M (2 ^ (m - 1)) (2 ^ j) (pow_pos j) (f ∙ pow-add 2 (m - 1) j))))
    where
      go : (m j : ℕ) → 2 ≤ m → m + j ≡ suc (m - 1 + j)
      go m j h = omega arith

  pub hole_sum_unlike : q.same ≡ false → hole_by_size o p a y.negative M (q.gap - m) ≡ true → p + 1 < c + 64 * b → add o p x y ≡ rounded (hole_way w p q) p H a (2 * (D * 2 ^ (64 * b)) - 1)
  hole_sum_unlike f h digits = unlike_amounts o p P x y (signs_unlike f) second_less ∙ by (eqb M (2 ^ (m - 1))) refl (test_unlike f h)
    where
      under_it : {m n : ℕ} → m + 1 < n → m < n
      under_it h = omega arith

      shorter : {m n : ℕ} → m + 1 < n → m < n - 1
      shorter h = omega arith

      less_gap : (n : ℕ) → n - 1 ≤ n
      less_gap n = omega arith

      -- no power of two
      full : (M ≡ 2 ^ (m - 1) → ⊥) → Room w p gap ⊎ ((w ≡ near) × (p ≡ gap) × (odd ≡ true)) → rounded w p r a (amount r x - N) ≡ rounded (hole_way w p q) p H a (2 * (D * 2 ^ (64 * b)) - 1)
      full other (inl n) =
          let U = coarser in
          less_hole U.0 U.1 U.2 U.3 w D (sum_read_unlike f) (room_enough w p (m + (l - U.0)) (M * 2 ^ (l - U.0) - 1) (room_least w p gap (c + 64 * b) (m + (l - U.0)) n (under_it digits) U.4) (pred_full other (l - U.0)))
          ∙ ap (λ (j : Way). rounded j p H a (2 * (D * 2 ^ (64 * b)) - 1)) (sym (way_off gap n (le_refl gap)))
      full other (inr n) =
          let one = odd_read M (gap - m) n.2 in
          let side = neighbours t m v c (64 * b) one.1 m_le far v_le m_two in
          let at_top = top_above t m c (64 * b) v m_le v_le far room in
          let moved = first_is ∙ ap (λ (j : ℕ). M * 2 ^ (j - r)) side.1 in
          ap (λ (j : Way). rounded j p r a (amount r x - N)) n.0
          ∙ ap (λ (j : ℕ). rounded near p r a (j - N)) moved
          ∙ ap (rounded near p r a) (borrowed N M (2 ^ (v - r)) M_pos second_lt)
          ∙ lower_half p P r a (M - 1) (v - r) (2 ^ (v - r) - N) (just other (n.1 ∙ side.0)) (rest_pos N (2 ^ (v - r)) second_lt) (rest_less N (2 ^ (v - r)) (pow_pos (v - r)) N_pos) (odd_pred M one.0) (rest_half N (2 ^ (v - r)) second_half)
          ∙ ap (rounded under p r a) (sym (borrowed N M (2 ^ (v - r)) M_pos second_lt))
          ∙ ap (λ (j : ℕ). rounded under p r a (j - N)) (sym moved)
          ∙ less_hole v at_top (le_refl v) side.2 under D (sum_read_unlike f) (le_trans (le_of_eq (n.1 ∙ sym (top_size t m c (64 * b) v m_le v_le far room))) (pred_full other (l - v)))
          ∙ ap (λ (j : Way). rounded j p H a (2 * (D * 2 ^ (64 * b)) - 1)) (sym (way_on false f n.0 n.1))
        where
          just : (M ≡ 2 ^ (m - 1) → ⊥) → p ≡ m → size (M - 1) ≡ p
          just other i = size_is (M - 1) (m - 1) (not_least M (2 ^ (m - 1)) M_ge other) (subst (λ (z : ℕ). M - 1 < 2 ^ z) (one_less m m_two) (pred_lt M (2 ^ m) (mantissa_lt x d.first))) ∙ sym (one_less m m_two) ∙ sym i

      -- a power of two
      power : M ≡ 2 ^ (m - 1) → Room w p (gap - 1) ⊎ ((w ≡ near) × (p ≡ gap - 1) × (odd ≡ true)) → rounded w p r a (amount r x - N) ≡ rounded (hole_way w p q) p H a (2 * (D * 2 ^ (64 * b)) - 1)
      power i (inl n) =
          let U = coarser in
          less_hole U.0 U.1 U.2 U.3 w D (sum_read_unlike f) (room_enough w p (m + (l - U.0) - 1) (M * 2 ^ (l - U.0) - 1) (room_least w p (gap - 1) (c + 64 * b - 1) (m + (l - U.0) - 1) n (shorter digits) (elim U.4 [ inl z ↦ inl (ap (λ (z : ℕ). z - 1) z) | inr z ↦ inr (ap (λ (z : ℕ). z - 1) z) ])) (pred_short (l - U.0)))
          ∙ ap (λ (j : Way). rounded j p H a (2 * (D * 2 ^ (64 * b)) - 1)) (sym (way_off (gap - 1) n (less_gap gap)))
      power i (inr n) = absurd (even_power m m_two (ap (λ (z : ℕ). z % 2) (sym i) ∙ (odd_read M (gap - m) n.2).0))

      by : (z : Bool) → eqb M (2 ^ (m - 1)) ≡ z → hole? w p (m + (gap - m) + 1 - cond (eqb M (2 ^ (m - 1))) 1 0) odd ≡ true → rounded w p r a (amount r x - N) ≡ rounded (hole_way w p q) p H a (2 * (D * 2 ^ (64 * b)) - 1)
      by true i g = power (eqb-true M (2 ^ (m - 1)) i) (hole_read w p (gap - 1) odd (sym (rw (i, hole_digits_less m gap m_gap m_two)) ∙ g))
      by false i g = full (eqb-false M (2 ^ (m - 1)) i) (hole_read w p gap odd (sym (rw (i, flat (m + (gap - m) + 1), hole_digits m gap m_gap)) ∙ g))
        where
          flat : (n : ℕ) → n - 0 ≡ n
          flat n = omega arith
