-- Laws of many columns at once: as limbs of an operand, as their sum and difference, as a window. Assumes nothing.
use mathlib.Core.Path.{◌≡◌, refl, sym, ap, ◌∙◌, subst}
use mathlib.Core.Bool.{Bool, true, false}
use mathlib.Core.List.{List}
use Prim.Native.Nat.{ℕ, suc, ◌+◌, ◌-◌, ◌*◌, ◌/◌, ◌%◌, ◌^◌, ◌≤◌, ◌<◌}
use native.Mathlib.Nat.{mul-div-mul_right, mod-eq_of_lt, div-add-mod'}
use native.Mathlib.Numerals.{add-one}
use native.Mathlib.Omega.{arith}
use lib.ListN.{length, take, drop, set, length-set}
use lib.Pow.{pow-add, pow_pos, mod-pow-add}
use lib.Seq.{get_or-drop, get_or-set_same}
use borrow.Rule.Slice.PartMut.{mid_of, put_mid, same_len_mid, mid_len, take_put}
use Rattle.limb.specs.Value.{value_of, value_in, Below}
use Rattle.limb.specs.Carry.{bit}
use Rattle.limb.specs.Column.{Column, Joins, Summed, TakenFrom}
use Rattle.limb.proofs.Value.{value_nil, value_split, value_take, value_lt, value_shr, value_low, base_pow}
use Rattle.shifts.specs.LowLimbs.{LowLimbs}
use Rattle.run.specs.Walk.{Stepped}
use Rattle.parts.proofs.Parts.{drop_put}
use Rattle.columns.specs.Column.{read_to, column_of}
use Rattle.walk.specs.Window.{head_of, Shows}
use Rattle.walk.specs.declared.state.Window.{Window}
use Rattle.walk.proofs.Showing.{show_open}
use Rattle.columns.proofs.Reading.{read_lt, read_more, read_fewer, column_lt}
use Rattle.leap.specs.Leap.{Leap, Columns, Leapt, leapt_to}

-- ---- columns as limbs

-- the first k columns are what stands above the digits below them
pub read_down : (k gap : ℕ) (l : List ℕ) → 64 * k ≤ 64 * length l + gap → value_of l / 2 ^ (64 * length l + gap - 64 * k) ≡ read_to k gap l
unfolding read_to
read_down k gap l h = go (value_of l) (64 * k) (64 * length l + gap) h
  where
    go : (n c d : ℕ) → c ≤ d → n / 2 ^ (d - c) ≡ n * 2 ^ c / 2 ^ d
    go n c d h = sym (ap (λ (z : ℕ). n * 2 ^ c / z) (ap (λ (z : ℕ). 2 ^ z) (back h) ∙ pow-add 2 (d - c) c) ∙ mul-div-mul_right n (2 ^ (d - c)) (pow_pos c))
      where
        back : c ≤ d → d ≡ d - c + c
        back h = omega arith

-- of an operand that begins at the top they are its limbs above the others
pub read_limbs : (k n : ℕ) (l : List ℕ) → Below (2 ^ 64) l → k ≤ length l → value_of (take n (drop (length l - k) l)) ≡ read_to k 0 l % 2 ^ (64 * n)
read_limbs k n l h e =
    sym (value_low (2 ^ 64) n (drop (length l - k) l) part) ∙ ap (λ (m : ℕ). m % (2 ^ 64) ^ n) (sym (value_shr (2 ^ 64) (length l - k) l h)) ∙ ap (λ (m : ℕ). value_of l / (2 ^ 64) ^ (length l - k) % m) (base_pow n)
    ∙ ap (λ (m : ℕ). value_of l / m % 2 ^ (64 * n)) (base_pow (length l - k)) ∙ ap (λ (m : ℕ). value_of l / 2 ^ m % 2 ^ (64 * n)) (places (length l)) ∙ ap (λ (m : ℕ). m % 2 ^ (64 * n)) (read_down k 0 l (omega arith))
  where
    part : Below (2 ^ 64) (drop (length l - k) l)
    part i = rw (get_or-drop (length l - k) l i 0) (h (length l - k + i))

    places : (m : ℕ) → 64 * (m - k) ≡ 64 * m + 0 - 64 * k
    places m = omega arith

-- ---- their sum and their difference, in the target

module _ (x k n : ℕ) (first part after : List ℕ) (h : Below (2 ^ 64) first) (e : 64 * k ≤ 64 * length first + 0) (low : LowLimbs n x part) where
  within : k ≤ length first
  within = omega arith

  met : value_of (take (length part) (drop (length first - k) first)) ≡ read_to k 0 first % 2 ^ (64 * n)
  met = rw low.size (read_limbs k n first h within)

  there : value_of part ≡ x % 2 ^ (64 * n)
  there = low.value ∙ ap (λ (m : ℕ). x % m) (base_pow n)

  top : (2 ^ 64) ^ length part ≡ 2 ^ (64 * n)
  top = rw low.size (base_pow n)

  pub columns_stepped : (column : Column) (carry out : Bool) → Stepped column part (drop (length first - k) first) carry after out → Columns column (read_to k 0 first) x carry n after out
  columns_stepped column carry out a = record { size = a.same_length ∙ low.size; value = rw (top, there, met) at a.value }

-- ---- the last column alone, and those above it

-- the low limbs of a number with a limb below it
low_more : (x c n : ℕ) → c < 2 ^ 64 → (x * 2 ^ 64 + c) % 2 ^ (64 * suc n) ≡ x % 2 ^ (64 * n) * 2 ^ 64 + c
low_more x c n h =
    let y : ℕ = x * 2 ^ 64 + c in
    let high : y / 2 ^ 64 ≡ x = omega arith in
    let low : y % 2 ^ 64 ≡ c = omega arith in
    ap (λ (m : ℕ). y % 2 ^ m) (omega arith) ∙ mod-pow-add y (64 * n) 64 ∙ ap (λ (m : ℕ). m % 2 ^ (64 * n) * 2 ^ 64 + y % 2 ^ 64) high ∙ ap (λ (m : ℕ). x % 2 ^ (64 * n) * 2 ^ 64 + m) low

module _ (gap k n : ℕ) (l : List ℕ) where
  pub column_more : read_to (k + 1) gap l % 2 ^ (64 * suc n) ≡ read_to k gap l % 2 ^ (64 * n) * 2 ^ 64 + column_of k gap l
  column_more = ap (λ (m : ℕ). m % 2 ^ (64 * suc n)) (ap (λ (m : ℕ). read_to m gap l) (add-one k) ∙ read_more gap l k) ∙ low_more (read_to k gap l) (column_of k gap l) n (column_lt gap l k)

-- the part of a run above its lowest limb comes back
module _ (t part : List ℕ) (s : ℕ) (h : 0 < length t) where
  abbrev lowest : List ℕ
  lowest = set t 0 s

  long : 1 ≤ length lowest
  long = simp length-set h

  pub mid_size : length (mid_of 1 (length lowest - 1) lowest) ≡ length t - 1
  mid_size = mid_len 1 (length lowest) lowest (omega arith) ∙ ap (λ (m : ℕ). m - 1) (length-set t 0 s)

  pub joined_size : length part ≡ length t - 1 → length (put_mid 1 (length lowest - 1) lowest part) ≡ length t
  joined_size e = same_len_mid 1 (length lowest - 1) lowest part (e ∙ sym mid_size) ∙ length-set t 0 s

  pub joined_value : value_of (put_mid 1 (length lowest - 1) lowest part) ≡ s + 2 ^ 64 * value_of part
  joined_value =
      value_split (2 ^ 64) 1 (put_mid 1 (length lowest - 1) lowest part)
      ∙ ap (λ (l : List ℕ). value_in (2 ^ 64) l + (2 ^ 64) ^ 1 * value_in (2 ^ 64) (drop 1 (put_mid 1 (length lowest - 1) lowest part))) (take_put 1 (length lowest - 1) lowest part long)
      ∙ ap (λ (l : List ℕ). value_in (2 ^ 64) (take 1 lowest) + (2 ^ 64) ^ 1 * value_in (2 ^ 64) l) (drop_put lowest part 1 long)
      ∙ omega (arith, first)
    where
      first : value_in (2 ^ 64) (take 1 lowest) ≡ s
      first = value_take (2 ^ 64) 0 lowest ∙ rw (value_nil (2 ^ 64), get_or-set_same t 0 s 0 h) (omega arith)

-- the columns above, and the last one with what it carries
module _ (gap k : ℕ) (first second t part : List ℕ) (s : ℕ) (c out : Bool) (h : 0 < length t) where
  abbrev n : ℕ
  n = length t - 1

  whole : suc n ≡ length t
  whole = omega arith

  raise : 2 ^ (64 * suc n) ≡ 2 ^ (64 * n) * 2 ^ 64
  raise = ap (λ (m : ℕ). 2 ^ m) (omega arith) ∙ pow-add 2 (64 * n) 64

  pub columns_joined : (column : Column) → Joins column → column (2 ^ 64) (column_of k gap second) (column_of k 0 first) (bit false) s (bit c)
      → Columns column (read_to k 0 first) (read_to k gap second) c (length (mid_of 1 (length (set t 0 s) - 1) (set t 0 s))) part out
      → Columns column (read_to (k + 1) 0 first) (read_to (k + 1) gap second) false (length t) (put_mid 1 (length (set t 0 s) - 1) (set t 0 s) part) out
  columns_joined column joins l u =
      let v = rw (mid_size t part s h) at u.value in
      let one = joins (2 ^ 64) (2 ^ (64 * n)) (column_of k gap second) (column_of k 0 first) (bit false) s (bit c) (read_to k gap second % 2 ^ (64 * n)) (read_to k 0 first % 2 ^ (64 * n)) (value_of part) (bit out) l v in
      let x : column_of k 0 first + 2 ^ 64 * (read_to k 0 first % 2 ^ (64 * n)) ≡ read_to (k + 1) 0 first % 2 ^ (64 * suc n) = omega (arith, column_more 0 k n first) in
      let y : column_of k gap second + 2 ^ 64 * (read_to k gap second % 2 ^ (64 * n)) ≡ read_to (k + 1) gap second % 2 ^ (64 * suc n) = omega (arith, column_more gap k n second) in
      let weight : 2 ^ 64 * 2 ^ (64 * n) ≡ 2 ^ (64 * suc n) = omega (arith, raise) in
      record {
        size = joined_size t part s h (u.size ∙ mid_size t part s h);
        value = rw (sym whole, joined_value t part s h) (rw (weight, x, y) at one);
      }

  -- of one operand alone
  pub single_joined : s ≡ column_of k 0 first → LowLimbs (length (mid_of 1 (length (set t 0 s) - 1) (set t 0 s))) (read_to k 0 first) part
      → LowLimbs (length t) (read_to (k + 1) 0 first) (put_mid 1 (length (set t 0 s) - 1) (set t 0 s) part)
  single_joined l u =
      let v : value_of part ≡ read_to k 0 first % 2 ^ (64 * n) = (rw (mid_size t part s h) at u.value) ∙ ap (λ (m : ℕ). read_to k 0 first % m) (base_pow n) in record {
        size = joined_size t part s h (u.size ∙ mid_size t part s h);
        value = rw (base_pow (length t)) (rw (sym whole) (omega (arith, joined_value t part s h, column_more 0 k n first, l, v)));
      }

-- ---- the window

module _ (from k : ℕ) (before after : List ℕ) (leap : Leap from k (length before)) (same : length after ≡ length before) where
  head : (carry : Bool) → bit carry * 2 ^ (64 * length after) + value_of after ≡ head_of (leapt_to from carry (length after)) after
  unfolding head_of leapt_to
  head carry = let z : length after - length after ≡ 0 = omega arith in rw z refl

  pub leapt : (D : ℕ) (carry : Bool) (w : Window) → w ≡ leapt_to from carry (length after) → D ≡ bit carry * 2 ^ (64 * length after) + value_of after → Leapt from (k + 1) D before after w
  leapt D carry w w_is v = record {
    same_length = same;
    same_skip = ap (λ (u : Window). u.skipped) w_is ∙ (unfold leapt_to in refl);
    no_tail = ap (λ (u : Window). u.tail) w_is ∙ (unfold leapt_to in refl);
    full = ap (λ (u : Window). u.filled) w_is ∙ (unfold leapt_to in refl);
    value = v ∙ head carry ∙ ap (λ (u : Window). head_of u after) (sym w_is);
    shows = λ h. subst (λ (u : Window). Shows u after (k + 1) D) (sym w_is)
        (show_open (leapt_to from carry (length after)) after (k + 1) D (omega (arith, leap.some)) (unfold leapt_to in omega arith) (unfold leapt_to in refl) (unfold leapt_to in refl)
        (unfold leapt_to in omega (arith, leap.room)) (v ∙ head carry) (λ s. unfold leapt_to in rw places h));
  }
    where
      places : length after - 1 ≡ k + 1 - from - 1
      places = omega (arith, leap.room)

-- ---- what the columns come to

pub all_low : (k gap : ℕ) (l : List ℕ) → Below (2 ^ 64) l → read_to k gap l % 2 ^ (64 * k) ≡ read_to k gap l
all_low k gap l h = mod-eq_of_lt (read_lt gap l h k)

-- two numbers alike above, as their low parts: nothing is borrowed
pub low_difference : (x y P a : ℕ) (borrow : Bool) → x / P ≡ y / P → y ≤ x → a < P → a + y % P ≡ x % P + P * bit borrow → x - y ≡ a
low_difference x y P a borrow e h l v = go (x / P) (y / P) (x % P) (y % P) (div-add-mod' x P) (div-add-mod' y P) e borrow v
  where
    go : (q r u w : ℕ) → q * P + u ≡ x → r * P + w ≡ y → q ≡ r → (borrow : Bool) → a + w ≡ u + P * bit borrow → x - y ≡ a
    go q r u w ex ey f true v = let g : q * P ≡ r * P = ap (λ (m : ℕ). m * P) f in let b : bit true ≡ 1 = unfold bit in refl in absurd (omega (arith, rw b at v))
    go q r u w ex ey f false v = let g : q * P ≡ r * P = ap (λ (m : ℕ). m * P) f in let b : bit false ≡ 0 = unfold bit in refl in omega (arith, rw b at v)

-- ---- what fills the target

module _ (from k : ℕ) (first second before after : List ℕ) (gap : ℕ) (hx : Below (2 ^ 64) first) (hy : Below (2 ^ 64) second) (leap : Leap from k (length before)) (w : Window) where
  abbrev X : ℕ
  X = read_to (k + 1) 0 first

  abbrev Y : ℕ
  Y = read_to (k + 1) gap second

  -- columns from the first one on are all of them
  module _ (none : from ≡ 0) where
    all : length before ≡ k + 1
    all = omega (arith, leap.room)

    pub sum_leapt : (out : Bool) → w ≡ leapt_to from out (length after) → Columns Summed X Y false (length before) after out → Leapt from (k + 1) (X + Y) before after w
    sum_leapt out e u = leapt from k before after leap u.size (X + Y) out w e
        (let v = rw (all, all_low (k + 1) 0 first hx, all_low (k + 1) gap second hy) at u.value in
        let z : bit false ≡ 0 = unfold bit in refl in
        rw (u.size ∙ all) (omega (arith, v, z)))

    pub single_leapt : w ≡ leapt_to from false (length after) → LowLimbs (length before) X after → Leapt from (k + 1) X before after w
    single_leapt e u = leapt from k before after leap u.size X false w e
        (let v : value_of after ≡ X = (rw (all, base_pow (k + 1)) at u.value) ∙ all_low (k + 1) 0 first hx in
        let z : bit false ≡ 0 = unfold bit in refl in
        omega (arith, v, ap (λ (m : ℕ). m * 2 ^ (64 * length after)) z))

  pub difference_leapt : (out : Bool) → w ≡ leapt_to from false (length after) → Below (2 ^ 64) after → Columns TakenFrom X Y false (length before) after out
      → read_to from gap second ≡ read_to from 0 first → Y ≤ X → Leapt from (k + 1) (X - Y) before after w
  difference_leapt out e h u alike lt = leapt from k before after leap u.size (X - Y) false w e
      (let z : bit false ≡ 0 = unfold bit in refl in
      low_difference X Y (2 ^ (64 * length before)) (value_of after) out same lt below (omega (arith, u.value, z)) ∙ omega (arith, ap (λ (m : ℕ). m * 2 ^ (64 * length after)) z))
    where
      place : k + 1 ≡ from + length before
      place = sym leap.room

      same : X / 2 ^ (64 * length before) ≡ Y / 2 ^ (64 * length before)
      same = rw place (read_fewer from (length before) 0 first ∙ sym alike ∙ sym (read_fewer from (length before) gap second))

      below : value_of after < 2 ^ (64 * length before)
      below = rw (base_pow (length before)) at (rw u.size at (value_lt (2 ^ 64) after h))
