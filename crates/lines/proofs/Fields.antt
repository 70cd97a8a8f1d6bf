-- Fields of a line of digits: they stay below their width, and what the code reads of them is the definition. Assumes nothing.
use mathlib.Core.Path.{◌≡◌, refl, sym, ap, ◌∙◌}
use mathlib.Core.Bool.{Bool, true, false, ◌||◌}
use mathlib.Core.List.{List, [], ◌∷◌}
use Prim.Native.Nat.{ℕ, zero, suc, ◌+◌, ◌-◌, ◌*◌, ◌%◌, ◌^◌, ◌<◌, ◌≤◌}
use native.Mathlib.Nat.{lt_of_not-le, mod-eq_of_lt, not-suc-le-zero, lt_of_lt_of_le, pow-le-pow_right}
use native.Mathlib.Omega.{arith}
use lib.Dec.{eqb}
use native.Mathlib.Decide.{dec_le}
use lib.IntN.{ℤ, pos, negsuc}
use mir.Syntax.{w32}
use mir.Val.{SFits, to_z, of_z}
use mir.Facts.{to_z-of_z}
use lib.ListN.{length, take, drop, get_or, set, length-drop}
use lib.Seq.{take-take, length-take-le}
use borrow.Author.Tests.{lt-ltb, le-ltb, le-leb, eq-eqb, ne_eqb}
use Rattle.limb.proofs.Tests.{both_true}
use Rattle.numbers.specs.Limits.{bias}
use Rattle.checks.specs.declared.Number.{Number}
use Rattle.checks.specs.declared.Kind.{Kind}
use Rattle.checks.specs.declared.Kind.TheVariants.{Regular, Zero}
use Rattle.checks.specs.Number.{operand_of, exponent_of}
use Rattle.checks.specs.Check.{form_holds, top_bit_holds, spare_bits_hold}
use Rattle.text.specs.Digits.{all_digits, worth}
use Rattle.text.proofs.Digits.{digits_take, digits_drop}
use Rattle.text.proofs.Numeral.{worth_lt, drop_set}
use Rattle.lines.specs.Line.{line_feed, shortest_line}
use Rattle.lines.specs.Reading.{field, kind_in, signed_of, negative_of, kind_of, number_in, limbs_in, digits_hold}

-- a part of the first m is a part of the whole
pub within : (at n m : ℕ) (l : List ℕ) → at + n ≤ m → take n (drop at (take m l)) ≡ take n (drop at l)
within zero n m l h = take-take n m l (omega arith)
within (suc at) n zero l h = absurd (omega arith)
within (suc at) n (suc m) [] h = refl
within (suc at) n (suc m) (x ∷ l) h = within at n m l (omega arith)

module _ (line : List ℕ) where
  pub ends : digits_hold line ≡ true → (eqb (get_or line (length line - 1) 0) line_feed ≡ true) × (all_digits (take (length line - 1) line) ≡ true)
  unfolding digits_hold
  ends h = both_true (eqb (get_or line (length line - 1) 0) line_feed) (all_digits (take (length line - 1) line)) h

  pub field_digits : (at n : ℕ) → digits_hold line ≡ true → at + n < length line → all_digits (take n (drop at line)) ≡ true
  field_digits at n h g =
      rw (sym (within at n (length line - 1) line (omega arith))) (digits_take n _ (digits_drop at _ (ends h).1))

  pub field_length : (at n : ℕ) → at + n < length line → length (take n (drop at line)) ≡ n
  field_length at n g = length-take-le n (drop at line) (simp length-drop (omega arith))

  pub field_lt : (at n : ℕ) → digits_hold line ≡ true → at + n < length line → field at n line < 16 ^ n
  unfolding field
  field_lt at n h g = rw (field_length at n g) at (worth_lt (take n (drop at line)) (field_digits at n h g))

  -- sixteen digits fit 64 bits
  pub field_whole : (at n end : ℕ) → digits_hold line ≡ true → at + n < length line → n ≤ 16 → end ≡ at + n → worth (take (end - at) (drop at line)) % 2 ^ 64 ≡ field at n line
  unfolding field
  field_whole at n end h g w e =
      let k : end - at ≡ n = omega arith in
      rw k (mod-eq_of_lt (lt_of_lt_of_le (field_lt at n h g) (pow-le-pow_right (omega arith) w)))

  -- LF is looked at first
  pub no_end : (b : ℕ) → b ≡ length line - 1 → (get_or line b 0 ≡ 10 → ⊥) → false ≡ digits_hold line
  unfolding digits_hold line_feed
  no_end b e h = simp (ne_eqb (get_or line (length line - 1) 0) 10 (rw e at h))

  pub digits_left : (b : ℕ) (r : Bool) → b ≡ length line - 1 → get_or line b 0 ≡ 10 → r ≡ all_digits (take (b - 0) line) → r ≡ digits_hold line
  unfolding digits_hold line_feed
  digits_left b r e h g = g ∙ simp (eq-eqb (get_or line (length line - 1) 0) 10 (rw e at h), e, sub_none)
    where
      sub_none : length line - 1 - 0 ≡ length line - 1
      sub_none = omega arith

module _ (w : ℕ) where
  pub signed_low : w < 2147483648 → exponent_of (1099511627776 + w) ≡ signed_of w
  unfolding exponent_of signed_of bias
  signed_low h =
      simp (le-leb 1097364144128 (1099511627776 + w) (omega arith), lt-ltb (1099511627776 + w) 1101659111424 (omega arith), le-ltb (1099511627776 + w) 1099511627776 (omega arith), lt-ltb w 2147483648 h) (ap pos (omega arith))

  pub signed_high : 2147483648 ≤ w → w < 4294967296 → exponent_of (1095216660480 + w) ≡ signed_of w
  unfolding exponent_of signed_of bias
  signed_high h g =
      simp (le-leb 1097364144128 (1095216660480 + w) (omega arith), lt-ltb (1095216660480 + w) 1101659111424 (omega arith), lt-ltb (1095216660480 + w) 1099511627776 (omega arith), le-ltb w 2147483648 h, lt-ltb w 4294967296 g) (ap negsuc (omega arith))

  pub signed_fits : w < 4294967296 → SFits w32 (signed_of w)
  unfolding signed_of
  signed_fits h =
      elim (dec_le 2147483648 w) [
        | yes g ↦ rw (le-ltb w 2147483648 g, lt-ltb w 4294967296 h) (omega arith)
        | no g ↦ rw (lt-ltb w 2147483648 (lt_of_not-le g)) (omega arith)
      ]

  -- the library's reading of 32 bits is the definition
  pub signed_is : w < 4294967296 → to_z w32 w ≡ signed_of w
  unfolding signed_of
  signed_is h =
      elim (dec_le 2147483648 w) [
        | yes g ↦ simp (le-ltb w 2147483648 g, lt-ltb w 4294967296 h) (ap negsuc (omega arith))
        | no g ↦ simp (lt-ltb w 2147483648 (lt_of_not-le g))
      ]

  -- written in 32 bits and read
  pub signed_back : (z : ℤ) → w < 4294967296 → z ≡ signed_of w → to_z w32 (of_z w32 z) ≡ signed_of w
  signed_back z h e = rw e (to_z-of_z (signed_fits h))

  pub regular_kind : w < 2 → Regular ≡ kind_of w
  unfolding kind_of
  regular_kind h = rw (lt-ltb w 2 h)

  pub zero_kind : 2 ≤ w → Zero ≡ kind_of w
  unfolding kind_of
  zero_kind h = rw (le-ltb w 2 h)

pub number_fields : (line : List ℕ) (k p w : ℕ) (kind : Kind) (e : ℤ) → k ≡ kind_in line → p ≡ field 2 4 line → kind ≡ kind_of k → e ≡ signed_of w → w ≡ field 6 8 line → ◌≡◌ {A = Number} (record { negative = eqb k 1 || eqb k 3; kind = kind; precision = p; exponent = e }) (number_in line)
unfolding number_in negative_of
number_fields line k p w kind e a b c d f = rw (d, c, b, f, a)

pub kind_is : (line : List ℕ) → field 0 2 line ≡ kind_in line
unfolding kind_in
kind_is line = refl

pub shortest_is : shortest_line ≡ 15
unfolding shortest_line
shortest_is = refl

-- ---- limbs

module _ (line : List ℕ) where
  pub length_limbs : (n : ℕ) → length (limbs_in n line) ≡ n
  unfolding limbs_in
  length_limbs zero = refl
  length_limbs (suc n) = ap suc (length_limbs n)

  pub low_limb : (n : ℕ) → 0 < n → get_or (limbs_in n line) 0 0 ≡ field (14 + 16 * (n - 1)) 16 line
  unfolding limbs_in
  low_limb zero h = absurd (not-suc-le-zero h)
  low_limb (suc n) h = ap (λ (m : ℕ). field (14 + 16 * m) 16 line) (omega arith)

  from_top : (n : ℕ) → get_or (limbs_in (suc n) line) n 0 ≡ field 14 16 line
  unfolding limbs_in
  from_top zero = refl
  from_top (suc n) = from_top n

  pub top_limb : (n : ℕ) → 0 < n → get_or (limbs_in n line) (n - 1) 0 ≡ field 14 16 line
  top_limb zero h = absurd (not-suc-le-zero h)
  top_limb (suc n) h = ap (λ (m : ℕ). get_or (limbs_in (suc n) line) m 0) (omega arith) ∙ from_top n

-- the form is one of the lowest and the top limb
pub form_ends : (x : Number) (l : List ℕ) (low top : ℕ) → get_or l 0 0 ≡ low → get_or l (length l - 1) 0 ≡ top → form_holds (operand_of x (low ∷ top ∷ [])) ≡ form_holds (operand_of x l)
unfolding form_holds operand_of top_bit_holds spare_bits_hold
form_ends x l low top a b = rw (a, b)

pub form_line : (x : Number) (line : List ℕ) (n low top : ℕ) → 0 < n → length line ≡ shortest_line + 16 * n → low ≡ field (length line - 17) 16 line → top ≡ field 14 16 line → form_holds (operand_of x (low ∷ top ∷ [])) ≡ form_holds (operand_of x (limbs_in n line))
form_line x line n low top h e a b =
    let k : 14 + 16 * (n - 1) ≡ length line - 17 = omega (arith, shortest_is) in
    form_ends x (limbs_in n line) low top (low_limb line n h ∙ ap (λ (m : ℕ). field m 16 line) k ∙ sym a) (rw (length_limbs line n) (top_limb line n h ∙ sym b))

-- one limb more, below the first n
pub limb_more : (line target : List ℕ) (i j n m at v : ℕ) → j < length target → i ≡ suc j → m ≡ suc n → at ≡ 14 + 16 * n → v ≡ field at 16 line → drop i target ≡ limbs_in n line → drop j (set target j v) ≡ limbs_in m line
unfolding limbs_in
limb_more line target i j n m at v h a b e f d = rw (b, drop_set target j v h, f, e) (ap (λ (l : List ℕ). field (14 + 16 * n) 16 line ∷ l) (rw a at d))

pub no_limbs : (line : List ℕ) → [] ≡ limbs_in 0 line
unfolding limbs_in
no_limbs line = refl
