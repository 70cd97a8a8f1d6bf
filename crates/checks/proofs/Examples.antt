-- Refusals computed: calls with every fault, then with one fault fewer each; the ends of every limit; and what turning a number does to its operand. Assumes nothing.
use mathlib.Core.Path.{◌≡◌, refl}
use mathlib.Core.Bool.{true, false}
use mathlib.Core.List.{List, [], ◌∷◌, map}
use Prim.Native.Nat.{ℕ, ◌-◌, ◌^◌}
use lib.IntN.{ℤ, pos, negsuc}
use Rattle.numbers.specs.Limits.{least_precision, most_precision, bias, counted, least_exponent, most_exponent, limbs_for}
use Rattle.numbers.specs.Operand.{Operand, spare_bits, turned}
use Rattle.checks.specs.declared.Number.{Number}
use Rattle.checks.specs.declared.Kind.{Kind}
use Rattle.checks.specs.declared.Kind.TheVariants.{Regular, Zero}
use Rattle.std.specs.Prelude.{Result, Err}
use Rattle.checks.specs.declared.Rule.{Rule}
use Rattle.checks.specs.declared.Rule.TheVariants.{Mode, Precision, Limbs, Exponent, Form}
use Rattle.checks.specs.declared.Place.{Place}
use Rattle.checks.specs.declared.Place.TheVariants.{Call, First, Second, Target}
use Rattle.checks.specs.declared.Refusal.{Refusal}
use Rattle.checks.specs.Number.{is_zero_kind, operand_of, nothing, turned_number, fetched}
use Rattle.checks.specs.Check.{accepted, first_refusal, mode_holds, precision_holds, length_holds, exponent_holds, top_bit_holds, spare_bits_hold, form_holds, pair_refusal, single_refusal, compared_refusal, converted_refusal, alone_refusal}

-- a positive number of a kind
abbrev given : Kind → ℕ → ℤ → List ℕ → Operand
given k p e l = operand_of (record { negative = false; kind = k; precision = p; exponent = e }) l

-- refused, by a rule and a place
abbrev at : Rule → Place → Result (Unit {0}) Refusal
at n place = Err (record { rule = n; place = place })

-- ---- the order of the tests

-- every fault; then the precision, the limbs, the exponent and the form set right, one after the other
abbrev faulty : Operand
faulty = given Regular 1 (pos (2 ^ 30)) []

abbrev short : Operand
short = given Regular 65 (pos (2 ^ 30)) (1 ∷ [])

abbrev far : Operand
far = given Regular 65 (pos (2 ^ 30)) (1 ∷ 2 ∷ [])

abbrev unformed : Operand
unformed = given Regular 65 (pos 0) (1 ∷ 2 ∷ [])

abbrev good : Operand
good = given Regular 65 (pos 0) (2 ^ 63 ∷ 2 ^ 63 ∷ [])

-- add and subtract
pub pair_in_order :
    pair_refusal 4 faulty faulty 4097 0
    ∷ pair_refusal 3 faulty faulty 4097 0
    ∷ pair_refusal 3 short faulty 4097 0
    ∷ pair_refusal 3 short short 4097 0
    ∷ pair_refusal 3 short short 65 1
    ∷ pair_refusal 3 far short 65 1
    ∷ pair_refusal 3 far far 65 1
    ∷ pair_refusal 3 far far 65 2
    ∷ pair_refusal 3 unformed far 65 2
    ∷ pair_refusal 3 unformed unformed 65 2
    ∷ pair_refusal 3 good unformed 65 2
    ∷ pair_refusal 3 good good 65 2
    ∷ []
    ≡ at Mode Call ∷ at Precision First ∷ at Precision Second ∷ at Precision Target ∷ at Limbs First ∷ at Limbs Second ∷ at Limbs Target ∷ at Exponent First ∷ at Exponent Second ∷ at Form First ∷ at Form Second ∷ accepted ∷ []
unfolding pair_refusal first_refusal accepted mode_holds precision_holds length_holds exponent_holds form_holds top_bit_holds spare_bits_hold operand_of is_zero_kind counted bias least_precision most_precision least_exponent most_exponent limbs_for spare_bits
pair_in_order = refl

-- re-round
pub single_in_order :
    single_refusal 4 faulty 4097 0
    ∷ single_refusal 3 faulty 4097 0
    ∷ single_refusal 3 short 4097 0
    ∷ single_refusal 3 short 65 1
    ∷ single_refusal 3 far 65 1
    ∷ single_refusal 3 far 65 2
    ∷ single_refusal 3 unformed 65 2
    ∷ single_refusal 3 good 65 2
    ∷ []
    ≡ at Mode Call ∷ at Precision First ∷ at Precision Target ∷ at Limbs First ∷ at Limbs Target ∷ at Exponent First ∷ at Form First ∷ accepted ∷ []
unfolding single_refusal first_refusal accepted mode_holds precision_holds length_holds exponent_holds form_holds top_bit_holds spare_bits_hold operand_of is_zero_kind counted bias least_precision most_precision least_exponent most_exponent limbs_for spare_bits
single_in_order = refl

-- compare
pub compared_in_order :
    compared_refusal faulty faulty
    ∷ compared_refusal short faulty
    ∷ compared_refusal short short
    ∷ compared_refusal far short
    ∷ compared_refusal far far
    ∷ compared_refusal unformed far
    ∷ compared_refusal unformed unformed
    ∷ compared_refusal good unformed
    ∷ compared_refusal good good
    ∷ []
    ≡ at Precision First ∷ at Precision Second ∷ at Limbs First ∷ at Limbs Second ∷ at Exponent First ∷ at Exponent Second ∷ at Form First ∷ at Form Second ∷ accepted ∷ []
unfolding compared_refusal first_refusal accepted precision_holds length_holds exponent_holds form_holds top_bit_holds spare_bits_hold operand_of is_zero_kind counted bias least_precision most_precision least_exponent most_exponent limbs_for spare_bits
compared_in_order = refl

-- number to double
pub converted_in_order :
    converted_refusal 4 faulty
    ∷ converted_refusal 3 faulty
    ∷ converted_refusal 3 short
    ∷ converted_refusal 3 far
    ∷ converted_refusal 3 unformed
    ∷ converted_refusal 3 good
    ∷ []
    ≡ at Mode Call ∷ at Precision First ∷ at Limbs First ∷ at Exponent First ∷ at Form First ∷ accepted ∷ []
unfolding converted_refusal first_refusal accepted mode_holds precision_holds length_holds exponent_holds form_holds top_bit_holds spare_bits_hold operand_of is_zero_kind counted bias least_precision most_precision least_exponent most_exponent limbs_for spare_bits
converted_in_order = refl

-- the enclosing pair
pub alone_in_order :
    alone_refusal faulty
    ∷ alone_refusal short
    ∷ alone_refusal far
    ∷ alone_refusal unformed
    ∷ alone_refusal good
    ∷ []
    ≡ at Precision First ∷ at Limbs First ∷ at Exponent First ∷ at Form First ∷ accepted ∷ []
unfolding alone_refusal first_refusal accepted precision_holds length_holds exponent_holds form_holds top_bit_holds spare_bits_hold operand_of is_zero_kind counted bias least_precision most_precision least_exponent most_exponent limbs_for spare_bits
alone_in_order = refl

-- ---- the ends of the limits, each beside what is one step beyond

pub modes_and_precisions : (map mode_holds (3 ∷ 4 ∷ []) ≡ true ∷ false ∷ []) × (map precision_holds (1 ∷ 2 ∷ 4096 ∷ 4097 ∷ []) ≡ false ∷ true ∷ true ∷ false ∷ [])
unfolding mode_holds precision_holds least_precision most_precision
modes_and_precisions = (refl, refl)

-- 64 digits take one limb, 65 take two; no fewer and no more
pub lengths : (map (length_holds 64) (0 ∷ 1 ∷ 2 ∷ []) ≡ false ∷ true ∷ false ∷ []) × (map (length_holds 65) (1 ∷ 2 ∷ 3 ∷ []) ≡ false ∷ true ∷ false ∷ [])
unfolding length_holds limbs_for
lengths = (refl, refl)

-- -2^30, 1 - 2^30, 2^30 - 1 and 2^30 of a regular number; -1, 0 and 1 of a zero
pub exponents :
    (map (λ (e : ℤ). exponent_holds (given Regular 2 e [])) (negsuc (2 ^ 30 - 1) ∷ negsuc (2 ^ 30 - 2) ∷ pos (2 ^ 30 - 1) ∷ pos (2 ^ 30) ∷ []) ≡ false ∷ true ∷ true ∷ false ∷ [])
    × (map (λ (e : ℤ). exponent_holds (given Zero 2 e [])) (negsuc 0 ∷ pos 0 ∷ pos 1 ∷ []) ≡ false ∷ true ∷ false ∷ [])
unfolding exponent_holds operand_of is_zero_kind counted bias least_exponent most_exponent
exponents = (refl, refl)

-- 65 digits: the first is the top bit of the top limb, the last the top bit of the lowest, and all below it is spare; a zero's limbs may be anything
pub forms :
    (map (λ (l : List ℕ). form_holds (given Regular 65 (pos 0) l)) ((0 ∷ 2 ^ 63 ∷ []) ∷ (2 ^ 63 ∷ 2 ^ 63 ∷ []) ∷ (2 ^ 63 ∷ (2 ^ 63 - 1) ∷ []) ∷ (2 ^ 62 ∷ 2 ^ 63 ∷ []) ∷ (1 ∷ 2 ^ 63 ∷ []) ∷ []) ≡ true ∷ true ∷ false ∷ false ∷ false ∷ [])
    × (form_holds (given Zero 65 (pos 0) (1 ∷ 2 ∷ [])) ≡ true)
unfolding form_holds top_bit_holds spare_bits_hold operand_of is_zero_kind limbs_for spare_bits
forms = (refl, refl)

-- ---- a number beside its operand

-- the sign is the number's own; "+0 of precision 2" has the least precision, and with a limb it breaks no rule
pub nothing_is_zero :
    (operand_of nothing (0 ∷ []) ≡ record { negative = false; is_zero = true; precision = least_precision; exponent = bias; limbs = 0 ∷ [] })
    × (alone_refusal (operand_of nothing (0 ∷ [])) ≡ accepted)
unfolding nothing operand_of is_zero_kind counted least_precision most_precision bias limbs_for alone_refusal first_refusal precision_holds length_holds exponent_holds form_holds
nothing_is_zero = (refl, refl)

-- each field stands for itself
pub minus_three : operand_of (record { negative = true; kind = Regular; precision = 3; exponent = negsuc 0 }) (2 ^ 63 ∷ []) ≡ record { negative = true; is_zero = false; precision = 3; exponent = bias - 1; limbs = 2 ^ 63 ∷ [] }
unfolding operand_of is_zero_kind counted bias
minus_three = refl

-- turning a number turns its operand
pub turned_operand : (x : Number) (l : List ℕ) → operand_of (turned_number x) l ≡ turned (operand_of x l)
unfolding turned_number operand_of turned
turned_operand x l = refl

-- the limb asked for, and 0 past the end
pub fetched_limbs : map (fetched (5 ∷ 7 ∷ []) 128) (0 ∷ 1 ∷ 2 ∷ []) ≡ 5 ∷ 7 ∷ 0 ∷ []
unfolding fetched
fetched_limbs = refl
