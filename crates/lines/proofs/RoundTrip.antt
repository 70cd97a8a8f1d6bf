-- A number that the writer accepts is read back from its line as it was: sign, kind, precision, exponent and limbs. Assumes nothing.
use mathlib.Core.Path.{◌≡◌, refl, sym, ap, ◌∙◌}
use mathlib.Core.Bool.{Bool, true, false, cond}
use mathlib.Core.List.{List, [], ◌∷◌, ◌++◌, append_assoc}
use Prim.Native.Nat.{ℕ, zero, suc, ◌+◌, ◌-◌, ◌*◌, ◌^◌, ◌<◌, ◌≤◌}
use native.Mathlib.Nat.{lt_of_le_of_lt}
use native.Mathlib.Omega.{arith}
use lib.IntN.{ℤ, pos, negsuc}
use lib.ListN.{length, replicate, length-append}
use lib.Seq.{take_at, drop_at, get_or_at}
use borrow.Author.Tests.{lt-ltb, le-ltb, le-leb, eq-eqb}
use Rattle.limb.specs.Value.{Below}
use Rattle.numbers.specs.Limits.{most_precision, bias, counted, least_exponent, most_exponent, limbs_for}
use Rattle.checks.specs.declared.Number.{Number}
use Rattle.checks.specs.declared.Kind.{Kind}
use Rattle.checks.specs.declared.Kind.TheVariants.{Regular, Zero}
use Rattle.checks.specs.Number.{operand_of, is_zero_kind}
use Rattle.std.specs.Prelude.{Ok}
use Rattle.checks.specs.Check.{accepted, left_by, answered, exponent_holds, form_holds}
use Rattle.checks.proofs.Tables.{accepted_all, all_accepted}
use Rattle.numbers.specs.Operand.{WellFormed}
use Rattle.checks.specs.Passes.{Passes}
use Rattle.checks.proofs.Accepted.{passes_well_formed}
use Rattle.text.specs.Digits.{all_digits, worth, numeral}
use Rattle.text.proofs.Digits.{digits_append, digits_nil}
use Rattle.text.proofs.Numeral.{length_numeral, numeral_digits, worth_of_numeral}
use Rattle.lines.specs.Line.{kind_byte, twos_complement, head_digits, limb_digits, line_feed, line_of, shortest_line, line_size}
use Rattle.lines.specs.Reading.{field, kind_in, signed_of, negative_of, kind_of, number_in, limbs_in, operand_in, digits_hold, head_tests, limb_tests, read_refusal, read_of, limbs_read, target_after}
use Rattle.lines.specs.Writing.{write_refusal}
use Rattle.lines.proofs.Room.{length_limb_digits}
use Rattle.lines.proofs.Size.{length_head, at_least, size_is}
use Rattle.lines.proofs.Accepted.{zero_form}

-- ---- fields

pub field_in : (p q s : List ℕ) (at n : ℕ) → length p ≡ at → length q ≡ n → field at n (p ++ (q ++ s)) ≡ worth q
unfolding field
field_in p q s at n h g = rw (drop_at p (q ++ s) at h, take_at q s n g)

pub field_numeral : (p s : List ℕ) (at n v : ℕ) → length p ≡ at → v < 16 ^ n → field at n (p ++ (numeral n v ++ s)) ≡ v
field_numeral p s at n v h g = field_in p (numeral n v) s at n h (length_numeral n v) ∙ worth_of_numeral n v g

-- the line's digits, and what stands after them
body : Number → List ℕ → List ℕ
body x l = cond (is_zero_kind x.kind) [] (limb_digits l)

module _ (x : Number) (l : List ℕ) where
  kind_digits : List ℕ
  kind_digits = numeral 2 (kind_byte x.kind x.negative)

  precision_digits : List ℕ
  precision_digits = numeral 4 x.precision

  exponent_digits : List ℕ
  exponent_digits = numeral 8 (twos_complement x.exponent)

  parts : line_of x l ≡ kind_digits ++ (precision_digits ++ (exponent_digits ++ (body x l ++ line_feed ∷ [])))
  unfolding line_of head_digits body kind_digits precision_digits exponent_digits
  parts = simp append_assoc

-- ---- the kind and the exponent

kind_small : (k : Kind) (s : Bool) → kind_byte k s ≤ 3
unfolding kind_byte
kind_small Regular false = omega arith
kind_small Regular true = omega arith
kind_small Zero false = omega arith
kind_small Zero true = omega arith

kind_back : (k : Kind) (s : Bool) → (negative_of (kind_byte k s) ≡ s) × (kind_of (kind_byte k s) ≡ k)
unfolding kind_byte negative_of kind_of
kind_back Regular false = (refl, refl)
kind_back Regular true = (refl, refl)
kind_back Zero false = (refl, refl)
kind_back Zero true = (refl, refl)

-- the exponents of 32 bits, counted
complement_small : (e : ℤ) → counted e < bias + 2 ^ 31 → twos_complement e < 2 ^ 32
unfolding counted bias twos_complement
complement_small (pos n) h = omega arith
complement_small (negsuc n) h = omega arith

complement_back : (e : ℤ) → bias - 2 ^ 31 ≤ counted e → counted e < bias + 2 ^ 31 → signed_of (twos_complement e) ≡ e
unfolding counted bias twos_complement signed_of
complement_back (pos n) l h = rw (lt-ltb n 2147483648 (omega arith))
complement_back (negsuc n) l h =
    simp (le-ltb (4294967296 - suc n) 2147483648 (omega arith), lt-ltb (4294967296 - suc n) 4294967296 (omega arith)) (ap negsuc (omega arith))

-- ---- limbs

apart : (a b c d : List ℕ) → a ++ (b ++ c ++ d) ≡ (a ++ b) ++ (c ++ d)
apart a b c d = simp append_assoc

pub limbs_back : (l h s : List ℕ) → length h ≡ 14 → Below (2 ^ 64) l → limbs_in (length l) (h ++ (limb_digits l ++ s)) ≡ l
unfolding limbs_in limb_digits
limbs_back [] h s e w = refl
limbs_back (v ∷ l) h s e w =
    let n : length (h ++ limb_digits l) ≡ 14 + 16 * length l = length-append h (limb_digits l) ∙ rw (e, length_limb_digits l) in
    let first : field (14 + 16 * length l) 16 (h ++ (limb_digits l ++ numeral 16 v ++ s)) ≡ v = rw (apart h (limb_digits l) (numeral 16 v) s) (field_numeral (h ++ limb_digits l) s (14 + 16 * length l) 16 v n (w 0)) in
    let others : limbs_in (length l) (h ++ (limb_digits l ++ numeral 16 v ++ s)) ≡ l = rw (append_assoc (limb_digits l) (numeral 16 v) s) (limbs_back l h (numeral 16 v ++ s) e (λ i. w (suc i))) in
    rw (first, others)

limb_digits_all : (l : List ℕ) → all_digits (limb_digits l) ≡ true
unfolding limb_digits
limb_digits_all [] = digits_nil
limb_digits_all (v ∷ l) = digits_append (limb_digits l) (numeral 16 v) (limb_digits_all l) (numeral_digits 16 v)

-- ---- every line is digits and LF

module _ (x : Number) (l : List ℕ) where
  line_ends : line_of x l ≡ (head_digits x ++ body x l) ++ line_feed ∷ []
  unfolding line_of body
  line_ends = refl

  body_digits : all_digits (body x l) ≡ true
  unfolding body
  body_digits = go (is_zero_kind x.kind)
    where
      go : (b : Bool) → all_digits (cond b [] (limb_digits l)) ≡ true
      go true = digits_nil
      go false = limb_digits_all l

  head_digits_lem : all_digits (head_digits x) ≡ true
  unfolding head_digits
  head_digits_lem = digits_append _ _ (digits_append _ _ (numeral_digits 2 _) (numeral_digits 4 _)) (numeral_digits 8 _)

  pub line_holds : digits_hold (line_of x l) ≡ true
  unfolding digits_hold line_feed
  line_holds =
      let d : List ℕ = head_digits x ++ body x l in
      let n : length (d ++ line_feed ∷ []) - 1 ≡ length d = ap (λ (m : ℕ). m - 1) (length-append d (line_feed ∷ [])) ∙ omega arith in
      rw (line_ends, n, get_or_at d line_feed [] 0 (length d) refl, take_at d (line_feed ∷ []) (length d) refl, digits_append (head_digits x) (body x l) head_digits_lem body_digits)

-- ---- a number that the writer accepts

precision_fits : most_precision < 16 ^ 4
unfolding most_precision
precision_fits = omega arith

module _ (x : Number) (l : List ℕ) (w : Below (2 ^ 64) l) (room : ℕ) (a : write_refusal x l room ≡ accepted) where
  pub passes : Passes (operand_of x l)
  unfolding write_refusal operand_of
  passes = let h = accepted_all _ a in record { precision = h.0; limbs = h.1.0; exponent = h.1.1.0; form = h.1.1.1.0 }

  good : WellFormed (operand_of x l)
  unfolding operand_of
  good = passes_well_formed (operand_of x l) w passes

  precision_small : x.precision < 16 ^ 4
  unfolding operand_of
  precision_small = lt_of_le_of_lt good.most precision_fits

  pub count : length l ≡ limbs_for x.precision
  unfolding operand_of
  count = good.count

  exponent_range : (bias - 2 ^ 31 ≤ counted x.exponent) × (counted x.exponent < bias + 2 ^ 31)
  unfolding operand_of least_exponent most_exponent bias
  exponent_range = go (is_zero_kind x.kind) refl
    where
      go : (b : Bool) → is_zero_kind x.kind ≡ b → (bias - 2 ^ 31 ≤ counted x.exponent) × (counted x.exponent < bias + 2 ^ 31)
      go true z = let e = good.zero z in (omega (arith, e), omega (arith, e))
      go false z = let r = good.regular z in (omega (arith, r.least), omega (arith, r.most))

  pub kind_read : kind_in (line_of x l) ≡ kind_byte x.kind x.negative
  unfolding kind_in kind_digits
  kind_read = ap (field 0 2) (parts x l) ∙ field_numeral [] _ 0 2 (kind_byte x.kind x.negative) refl (omega (arith, kind_small x.kind x.negative))

  precision_read : field 2 4 (line_of x l) ≡ x.precision
  unfolding precision_digits kind_digits
  precision_read = ap (field 2 4) (parts x l) ∙ field_numeral (kind_digits x l) _ 2 4 x.precision (length_numeral 2 _) precision_small

  exponent_read : field 6 8 (line_of x l) ≡ twos_complement x.exponent
  unfolding exponent_digits precision_digits kind_digits
  exponent_read =
      ap (field 6 8) (parts x l ∙ sym (append_assoc (kind_digits x l) (precision_digits x l) _))
      ∙ field_numeral (kind_digits x l ++ precision_digits x l) _ 6 8 (twos_complement x.exponent) (length-append (kind_digits x l) (precision_digits x l) ∙ rw (length_numeral 2 (kind_byte x.kind x.negative), length_numeral 4 x.precision)) (complement_small x.exponent exponent_range.1)

  -- sign, kind, precision, exponent
  pub number_back : number_in (line_of x l) ≡ x
  unfolding number_in
  number_back =
      let k = kind_back x.kind x.negative in
      rw (kind_read, precision_read, exponent_read, k.0, k.1, complement_back x.exponent exponent_range.0 exponent_range.1)

  -- limbs
  pub regular_back : is_zero_kind x.kind ≡ false → limbs_in (length l) (line_of x l) ≡ l
  unfolding line_of
  regular_back z = rw (z, append_assoc (head_digits x) (limb_digits l) (line_feed ∷ [])) (limbs_back l (head_digits x) (line_feed ∷ []) (length_head x) w)

  form_read : form_holds (operand_in (line_of x l)) ≡ true
  unfolding operand_in
  form_read = rw (number_back, sym count) (go (is_zero_kind x.kind) refl)
    where
      go : (b : Bool) → is_zero_kind x.kind ≡ b → form_holds (operand_of x (limbs_in (length l) (line_of x l))) ≡ true
      go true z = zero_form x _ z
      go false z = rw (regular_back z) passes.form

  same_exponent : exponent_holds (operand_in (line_of x l)) ≡ true
  unfolding exponent_holds operand_in operand_of
  same_exponent = rw number_back passes.exponent

  pub read_accepted : read_refusal (length l) (line_of x l) ≡ accepted
  unfolding read_refusal head_tests limb_tests operand_of
  read_accepted =
      all_accepted _ (
        le-leb shortest_line (length (line_of x l)) (at_least x l),
        (
          line_holds x l,
          (
            le-leb (kind_in (line_of x l)) 3 (rw kind_read (kind_small x.kind x.negative)),
            (
              rw number_back passes.precision,
              (
                rw number_back (eq-eqb (length (line_of x l)) (line_size x) (size_is x l count)),
                (
                  same_exponent,
                  (
                    rw number_back passes.limbs,
                    (form_read, tt),
                  ),
                ),
              ),
            ),
          ),
        ),
      )

  -- "Each accepted line is what the writer gives for the number read", the other way round
  pub read_back : read_of (length l) (line_of x l) ≡ Ok x
  unfolding read_of answered accepted
  read_back = rw (read_accepted, number_back)

  -- the target afterwards: the limbs of a regular number, 0 for a zero
  pub limbs_read_back : (target : List ℕ) → length target ≡ length l → target_after (line_of x l) target ≡ cond (is_zero_kind x.kind) (replicate (length l) 0) l
  unfolding target_after left_by limbs_read accepted
  limbs_read_back target n = rw (n, read_accepted, number_back) (go (is_zero_kind x.kind) refl)
    where
      go : (b : Bool) → is_zero_kind x.kind ≡ b → cond b (replicate (length l) 0) (limbs_in (length l) (line_of x l)) ≡ cond b (replicate (length l) 0) l
      go true z = refl
      go false z = regular_back z
