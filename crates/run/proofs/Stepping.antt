-- Laws of runs stepped through limb after limb: what holds of the lowest limbs holds of one limb more, and the limbs above join them, since
-- columns do. Assumes nothing.
use mathlib.Core.Path.{◌≡◌, refl, sym, ap, ◌∙◌}
use mathlib.Core.Bool.{Bool}
use mathlib.Core.List.{List, []}
use Prim.Native.Nat.{ℕ, suc, ◌+◌, ◌-◌, ◌*◌, ◌^◌, ◌≤◌, ◌<◌}
use native.Mathlib.Nat.{pow-zero, pow-succ', add-zero, mul_comm, add-sub_of_le}
use native.Mathlib.Numerals.{add-one}
use native.Mathlib.Omega.{arith}
use lib.ListN.{length, take, drop, set, get_or, length-set, length-drop}
use lib.Seq.{take-length, take-add, length-take-le, take-set-le, get_or-set_same, get_or-drop, drop-drop, drop-set-lt}
use borrow.Rule.Slice.PartMut.{put_mid, take_put, same_len_mid}
use Rattle.limb.proofs.Powers.{pow_split}
use Rattle.limb.specs.Carry.{bit}
use Rattle.limb.specs.Column.{Column, Begins, Joins}
use Rattle.limb.specs.Value.{value_in}
use Rattle.limb.proofs.Value.{value_nil, value_append, value_take, value_split}
use Rattle.run.specs.Walk.{LimbStepped, FourStepped, Stepped, SteppedAt}
use Rattle.parts.proofs.Parts.{part_is, drop_put, put_value}

-- t₀ has become t below limb i: what stood there, the operand's limbs and the carry in are one column, with the carry k on top.
-- The limbs from i on stand.
pub record SteppedTo (column : Column) (i : ℕ) (t₀ o : List ℕ) (first : Bool) (t : List ℕ) (k : Bool) : Type 0 where
  pub same_length : length t ≡ length t₀
  pub value : column ((2 ^ 64) ^ i) (value_in (2 ^ 64) (take i t₀)) (value_in (2 ^ 64) (take i o)) (bit first) (value_in (2 ^ 64) (take i t)) (bit k)
  pub above : drop i t ≡ drop i t₀

-- the lowest n limbs of the operand: those below limb i, and the others
pub limbs_from : (B : ℕ) (o : List ℕ) (i n : ℕ) → i ≤ n → n ≤ length o → value_in B (take n o) ≡ value_in B (take i o) + B ^ i * value_in B (take (n - i) (drop i o))
limbs_from B o i n hi hn =
    ap (λ (m : ℕ). value_in B (take m o)) (sym (add-sub_of_le hi)) ∙ ap (value_in B) (take-add i (n - i) o) ∙ value_append B (take i o) (take (n - i) (drop i o))
    ∙ ap (λ (m : ℕ). value_in B (take i o) + B ^ m * value_in B (take (n - i) (drop i o))) (length-take-le i o (omega arith))

first_above : (i : ℕ) (t t₀ : List ℕ) → drop i t ≡ drop i t₀ → get_or t i 0 ≡ get_or t₀ i 0
first_above i t t₀ e = rw add-zero at (sym (get_or-drop i t 0 0) ∙ ap (λ (l : List ℕ). get_or l 0 0) e ∙ get_or-drop i t₀ 0 0)

power : (B i : ℕ) → B ^ suc i ≡ B ^ i * B
power B i = pow-succ' B i ∙ mul_comm B (B ^ i)

module _ (column : Column) (begins : Begins column) where
  none : (B : ℕ) (t o : List ℕ) (k : ℕ) → column (B ^ 0) (value_in B (take 0 t)) (value_in B (take 0 o)) k (value_in B (take 0 t)) k
  none B t o k = rw (pow-zero, value_nil) (begins k)

  -- before any limb is stepped through
  pub none_stepped : (t o : List ℕ) (first : Bool) → SteppedTo column 0 t o first t first
  none_stepped t o first = record { same_length = refl; value = none (2 ^ 64) t o (bit first); above = refl }

  -- through no limbs the carry goes straight out
  pub nothing_stepped : (o : List ℕ) (carry : Bool) → Stepped column [] o carry [] carry
  nothing_stepped o carry = record { same_length = refl; value = none (2 ^ 64) [] o (bit carry) }

module _ (column : Column) (t₀ o : List ℕ) (first : Bool) (t : List ℕ) (k : Bool) where
  pub all_stepped : (i : ℕ) → i ≡ length t₀ → SteppedTo column i t₀ o first t k → Stepped column t₀ o first t k
  all_stepped i e a =
      let now_all : take i t ≡ t = ap (λ (n : ℕ). take n t) (e ∙ sym a.same_length) ∙ take-length t in
      let then_all : take i t₀ ≡ t₀ = ap (λ (n : ℕ). take n t₀) e ∙ take-length t₀ in
      record { same_length = a.same_length; value = rw (sym e) (rw (now_all, then_all) at a.value) }

module _ (column : Column) (joins : Joins column) where
  -- one limb more: limb i of t becomes d with the carry out n
  stepped_value : (B : ℕ) (t t₀ o : List ℕ) (i k first x d n : ℕ) → i < length t → x ≡ get_or o i 0 → get_or t i 0 ≡ get_or t₀ i 0 → column B (get_or t i 0) x k d n
      → column (B ^ i) (value_in B (take i t₀)) (value_in B (take i o)) first (value_in B (take i t)) k
      → column (B ^ (i + 1)) (value_in B (take (i + 1) t₀)) (value_in B (take (i + 1) o)) first (value_in B (take (i + 1) (set t i d))) n
  stepped_value B t t₀ o i k first x d n h ex et e inv =
      rw (add-one i, power B i, value_take B i o, value_take B i t₀, value_take B i (set t i d), take-set-le i t i d (omega arith), get_or-set_same t i d 0 h, sym ex, sym et)
      (joins (B ^ i) B _ _ _ _ k _ _ _ _ inv e)

  module _ (t₀ o : List ℕ) (first : Bool) where
    pub limb_stepped : (t : List ℕ) (k : Bool) (i x d : ℕ) (n : Bool) → i < length t → x ≡ get_or o i 0
        → column (2 ^ 64) (get_or t i 0) x (bit k) d (bit n) → SteppedTo column i t₀ o first t k → SteppedTo column (i + 1) t₀ o first (set t i d) n
    limb_stepped t k i x d n h ex e a = record {
      same_length = length-set t i d ∙ a.same_length;
      value = stepped_value (2 ^ 64) t t₀ o i (bit k) (bit first) x d (bit n) h ex (first_above i t t₀ a.above) e a.value;
      above = drop-set-lt (i + 1) t i d (omega arith) ∙ sym (drop-drop 1 i t) ∙ ap (drop 1) a.above ∙ drop-drop 1 i t₀;
    }

    -- the same of a limb that `LimbStepped` speaks of
    stepped_by : (t a : List ℕ) (i j : ℕ) (k n : Bool) → j ≡ i + 1 → i < length t₀ → LimbStepped column i t o k a n → SteppedTo column i t₀ o first t k
        → SteppedTo column j t₀ o first a n
    stepped_by t a i j k n ej h s inv =
        rw (ej, s.others) (limb_stepped t k i (get_or o i 0) (get_or a i 0) n (omega (arith, inv.same_length)) refl s.limb inv)

    pub four_stepped : (t a : List ℕ) (i j : ℕ) (k n : Bool) → j ≡ i + 4 → i + 3 < length t₀ → FourStepped column i t o k a n → SteppedTo column i t₀ o first t k
        → SteppedTo column j t₀ o first a n
    four_stepped t a i j k n ej h s inv =
        stepped_by s.after_three a (i + 3) j s.carry_three n (omega (arith, ej)) (omega arith) s.highest
        (stepped_by s.after_two s.after_three (i + 2) (i + 3) s.carry_two s.carry_three (omega arith) (omega arith) s.third
        (stepped_by s.after_one s.after_two (i + 1) (i + 2) s.carry_one s.carry_two (omega arith) (omega arith) s.second
        (stepped_by t s.after_one i (i + 1) k s.carry_one refl (omega arith) s.lowest inv)))

  -- the limbs below limb i have been stepped through, and then those of the part from there on
  module _ (t₀ o : List ℕ) (first : Bool) (t : List ℕ) (k : Bool) (i : ℕ) (part : List ℕ) (out : Bool) (hi : i ≤ length t₀) (ho : length t₀ ≤ length o) where
    abbrev B : ℕ
    B = 2 ^ 64

    pub rest_stepped : SteppedTo column i t₀ o first t k → Stepped column (drop i t) (drop i o) k part out → Stepped column t₀ o first (put_mid i (length t - i) t part) out
    rest_stepped a r =
        let h : i ≤ length t = omega (arith, a.same_length) in
        record {
          same_length = same_len_mid i (length t - i) t part (rw (part_is t i) r.same_length) ∙ a.same_length;
          value =
              rw (put_value t part i h B, value_split B i t₀, limbs_from B o i (length t₀) hi ho, pow_split B i (length t₀) hi)
              (joins (B ^ i) (B ^ (length t₀ - i)) _ _ _ _ (bit k) _ _ _ _ a.value (rw (a.above, length-drop) at r.value));
        }

-- the part from limb start on, put back over the limbs below it
pub part_stepped : (column : Column) (start : ℕ) (t o : List ℕ) (carry : Bool) (part : List ℕ) (out : Bool) → start ≤ length t
    → Stepped column (take (length t - start) (drop start t)) o carry part out → SteppedAt column start t o carry (put_mid start (length t - start) t part) out
part_stepped column start t o carry part out h s = record {
  below = take_put start (length t - start) t part h;
  part = rw (drop_put t part start h) (rw (part_is t start) at s);
}
