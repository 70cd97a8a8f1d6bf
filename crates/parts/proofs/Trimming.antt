-- Laws of `trimmed`: what it drops is worth nothing, it keeps the lowest limb that is not 0, and it is all there is to drop. Assumes nothing.
use mathlib.Core.Path.{◌≡◌, refl, ap, ◌∙◌}
use mathlib.Core.List.{List, [], ◌∷◌}
use Prim.Native.Nat.{ℕ, zero, suc, ◌+◌, ◌-◌, ◌*◌, ◌^◌, ◌≤◌, ◌<◌}
use native.Mathlib.Nat.{pow-zero, pow-succ'}
use native.Mathlib.Omega.{arith}
use lib.ListN.{length, get_or, take, drop}
use lib.Seq.{drop-cons}
use Rattle.std.specs.List.{position, position_or_len}
use Rattle.std.specs.Option.{unwrap_or}
use native.Mathlib.Decide.{dec_le}
use Rattle.std.proofs.Common.{Option, false, not, eqb, le-ltb, lt-ltb, ne_eqb}
use Rattle.limb.specs.Value.{value_in}
use Rattle.parts.specs.Trimmed.{trimmed}
use Rattle.parts.proofs.Parts.{part_is}

one_add : (n : ℕ) → 1 + n ≡ suc n
one_add n = omega arith

some : (x : ℕ) → eqb (suc x) 0 ≡ false
some x = ne_eqb (suc x) 0 (λ e. omega arith)

pub trimmed_nil : trimmed [] ≡ []
unfolding trimmed
trimmed_nil = refl

trimmed_skips : (x : ℕ) (xs : List ℕ) → x ≡ 0 → trimmed (x ∷ xs) ≡ trimmed xs
unfolding trimmed
trimmed_skips zero xs e = refl
trimmed_skips (suc x) xs e = absurd (omega arith)

trimmed_stops : (x : ℕ) (xs : List ℕ) → (x ≡ 0 → ⊥) → trimmed (x ∷ xs) ≡ x ∷ xs
unfolding trimmed
trimmed_stops zero xs h = absurd (h refl)
trimmed_stops (suc x) xs h = refl

-- a limb that is 0 is passed
pub trimmed_past_zero : (l : List ℕ) (i : ℕ) → i < length l → get_or l i 0 ≡ 0 → trimmed (drop i l) ≡ trimmed (drop (suc i) l)
trimmed_past_zero l i h e = rw (drop-cons l i 0 h) (trimmed_skips (get_or l i 0) (drop (suc i) l) e)

-- a limb that is not 0 is the lowest of what is left
pub trimmed_at_limb : (l : List ℕ) (i : ℕ) → i < length l → (get_or l i 0 ≡ 0 → ⊥) → trimmed (drop i l) ≡ drop i l
trimmed_at_limb l i h ne = rw (drop-cons l i 0 h) (trimmed_stops (get_or l i 0) (drop (suc i) l) ne)

pub trimmed_length : (l : List ℕ) → length (trimmed l) ≤ length l
unfolding trimmed
trimmed_length [] = omega arith
trimmed_length (zero ∷ xs) = omega (arith, trimmed_length xs)
trimmed_length (suc x ∷ xs) = omega arith

-- the limbs that go are worth nothing: the value is that of the others, moved up
pub trimmed_value : (B : ℕ) (l : List ℕ) → value_in B l ≡ B ^ (length l - length (trimmed l)) * value_in B (trimmed l)
unfolding trimmed value_in
trimmed_value B [] = omega arith
trimmed_value B (zero ∷ xs) =
    let less : suc (length xs) - length (trimmed xs) ≡ suc (length xs - length (trimmed xs)) = omega (arith, trimmed_length xs) in
    rw (less, pow-succ' B (length xs - length (trimmed xs)))
    (omega (arith, ap (λ (m : ℕ). B * m) (trimmed_value B xs)))
trimmed_value B (suc x ∷ xs) =
    let none : suc (length xs) - suc (length xs) ≡ 0 = omega arith in
    rw (none, pow-zero) (omega arith)

pub trimmed_twice : (l : List ℕ) → trimmed (trimmed l) ≡ trimmed l
unfolding trimmed
trimmed_twice [] = refl
trimmed_twice (zero ∷ xs) = trimmed_twice xs
trimmed_twice (suc x ∷ xs) = refl

-- the lowest limb of what is left is not 0
pub trimmed_lowest : (l : List ℕ) → 0 < length (trimmed l) → 0 < get_or (trimmed l) 0 0
unfolding trimmed
trimmed_lowest [] h = absurd (omega arith)
trimmed_lowest (zero ∷ xs) h = trimmed_lowest xs h
trimmed_lowest (suc x ∷ xs) h = omega arith

-- nothing is left exactly when all limbs are 0
pub trimmed_of_zeros : (l : List ℕ) → ((i : ℕ) → get_or l i 0 ≡ 0) → trimmed l ≡ []
unfolding trimmed
trimmed_of_zeros [] h = refl
trimmed_of_zeros (zero ∷ xs) h = trimmed_of_zeros xs (λ i. h (suc i))
trimmed_of_zeros (suc x ∷ xs) h = absurd (omega (arith, h zero))

pub trimmed_to_nothing : (l : List ℕ) → trimmed l ≡ [] → (i : ℕ) → get_or l i 0 ≡ 0
unfolding trimmed
trimmed_to_nothing [] e i = refl
trimmed_to_nothing (zero ∷ xs) e zero = refl
trimmed_to_nothing (zero ∷ xs) e (suc i) = trimmed_to_nothing xs e i
trimmed_to_nothing (suc x ∷ xs) e i = absurd (omega (arith, ap length e))

-- the place of the lowest limb that is not 0, and the end where there is none
abbrev pub start_of : List ℕ → ℕ
start_of l = unwrap_or (position (λ x. not (eqb x 0)) l) (length l)

start_most : (l : List ℕ) → position_or_len (λ x. not (eqb x 0)) l ≤ length l
start_most [] = omega arith
start_most (zero ∷ xs) = omega (arith, start_most xs)
start_most (suc x ∷ xs) = rw (some x) (omega arith)

start_is : (l : List ℕ) → start_of l ≡ position_or_len (λ x. not (eqb x 0)) l
start_is l =
    elim (dec_le (length l) (position_or_len (λ x. not (eqb x 0)) l)) [
      | yes h ↦ rw (le-ltb (position_or_len (λ x. not (eqb x 0)) l) (length l) h) (omega (arith, h, start_most l))
      | no h ↦ rw (lt-ltb (position_or_len (λ x. not (eqb x 0)) l) (length l) (omega arith)) refl
    ]

pub start_within : (l : List ℕ) → start_of l ≤ length l
start_within l = rw (start_is l) (start_most l)

kept_from : (l : List ℕ) → drop (position_or_len (λ x. not (eqb x 0)) l) l ≡ trimmed l
unfolding trimmed
kept_from [] = refl
kept_from (zero ∷ xs) = rw (one_add (position_or_len (λ x. not (eqb x 0)) xs)) (kept_from xs)
kept_from (suc x ∷ xs) = rw (some x) refl

-- the limbs from there on are what is kept
pub trimmed_from_start : (l : List ℕ) → drop (start_of l) l ≡ trimmed l
trimmed_from_start l = rw (start_is l) (kept_from l)

-- the place found, with the length for none, is the start
pub start_read : (l : List ℕ) (found : Option ℕ) (past place : ℕ) → found ≡ position (λ x. not (eqb x 0)) l → past ≡ length l → place ≡ unwrap_or found past → place ≡ start_of l
start_read l found past place ef ep e = rw (ef, ep) at e

-- so is the part from any place on that is the start
pub kept_at : (l : List ℕ) (place : ℕ) → place ≡ start_of l → take (length l - place) (drop place l) ≡ trimmed l
kept_at l place e = rw e (part_is l (start_of l) ∙ trimmed_from_start l)
