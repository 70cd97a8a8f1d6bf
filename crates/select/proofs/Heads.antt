-- The top limb, the one below it and what stands below both are the number, with a limb of 0 below it. Assumes nothing.
use mathlib.Core.Path.{◌≡◌, refl, sym, ap, ◌∙◌}
use mathlib.Core.Bool.{Bool, true, false, not}
use mathlib.Core.List.{List, [], ◌∷◌}
use Prim.Native.Nat.{ℕ, suc, ◌+◌, ◌-◌, ◌*◌, ◌%◌, ◌^◌, ◌<◌}
use native.Mathlib.Nat.{le_of_eq, pow-succ', mul-le-mul_right}
use native.Mathlib.Omega.{arith}
use lib.Dec.{eqb}
use lib.ListN.{length, get_or, take, drop}
use lib.Seq.{take_all}
use borrow.Author.Tests.{eq-eqb, ne_eqb, eqb-true, eqb-false}
use Rattle.limb.proofs.Tests.{zero_times}
use Rattle.limb.specs.Value.{value_in, value_of, Below}
use Rattle.limb.proofs.Value.{value_take, value_take_lt, value_low, base_pow}
use Rattle.select.specs.declared.Head.{Head}
use Rattle.select.specs.Steps.{Leads}

-- two numbers that are 0 together pass the test together
same_zero : (a b : ℕ) → (a ≡ 0 → b ≡ 0) → (b ≡ 0 → a ≡ 0) → eqb a 0 ≡ eqb b 0
same_zero a b f g = go (eqb a 0) refl
  where
    go : (t : Bool) → eqb a 0 ≡ t → eqb a 0 ≡ eqb b 0
    go true e = e ∙ sym (eq-eqb b 0 (f (eqb-true a 0 e)))
    go false e = e ∙ sym (ne_eqb b 0 (λ z. eqb-false a 0 e (g z)))

-- the limbs of l below the two highest, in any base
module _ (B k : ℕ) (l : List ℕ) (below : Below B l) (count : length l ≡ suc (suc k)) where
  abbrev low : ℕ
  low = value_in B (take k l)

  abbrev top : ℕ
  top = get_or l (suc k) 0

  abbrev guard : ℕ
  guard = get_or l k 0

  three : value_in B l ≡ low + B ^ k * guard + B ^ suc k * top
  three = ap (value_in B) (sym (take_all (suc (suc k)) l (le_of_eq count))) ∙ value_take B (suc k) l ∙ ap (λ (n : ℕ). n + B ^ suc k * top) (value_take B k l)

  whole : value_in B l * B ≡ (top * B + guard) * B ^ suc k + low * B
  whole = go (value_in B l) low guard top (B ^ k) (B ^ suc k) three (pow-succ' B k)
    where
      go : (v r g t P Q : ℕ) → v ≡ r + P * g + Q * t → Q ≡ B * P → v * B ≡ (t * B + g) * Q + r * B
      go v r g t P Q e f = omega (arith, ap (λ (n : ℕ). n * B) e, ap (λ (n : ℕ). n * g) f)

  few_below : low * B < B ^ suc k
  few_below = go low (B ^ k) (B ^ suc k) (pow-succ' B k) (value_take_lt B k l below) (omega (arith, below 0))
    where
      go : (r P Q : ℕ) → Q ≡ B * P → r < P → 0 < B → r * B < Q
      go r P Q e h b = let m = mul-le-mul_right B h in omega arith

-- the low k limbs, as the test says them
pub low_limbs : (k : ℕ) (l : List ℕ) → Below (2 ^ 64) l → value_of l % 2 ^ (64 * k) ≡ value_of (take k l)
low_limbs k l below = ap (λ (n : ℕ). value_of l % n) (sym (base_pow k)) ∙ value_low (2 ^ 64) k l below

less_one : (n : ℕ) → suc n - 1 ≡ n
less_one n = omega arith

less_two : (n : ℕ) → suc (suc n) - 2 ≡ n
less_two n = omega arith

less_three : (n : ℕ) → suc (suc (suc n)) - 3 ≡ n
less_three n = omega arith

last : (k : ℕ) → 64 * (suc (suc k) - 1) ≡ 64 * suc k
last k = omega arith

-- two limbs or more
pub leads_many : (k : ℕ) (l : List ℕ) (h : Head) → Below (2 ^ 64) l → length l ≡ suc (suc k) → h.top ≡ get_or l (suc k) 0 → h.guard ≡ get_or l k 0 → h.more ≡ not (eqb (value_of (take k l)) 0) → Leads l h
leads_many k l h below count t g m =
    let p : 2 ^ (64 * (length l - 1)) ≡ (2 ^ 64) ^ suc k = ap (λ (n : ℕ). 2 ^ (64 * (n - 1))) count ∙ ap (λ (n : ℕ). 2 ^ n) (last k) ∙ sym (base_pow (suc k)) in
    record {
      top_is = t ∙ ap (λ (n : ℕ). get_or l n 0) (sym (ap (λ (n : ℕ). n - 1) count ∙ less_one (suc k)));
      rest = value_of (take k l) * 2 ^ 64;
      few = rw p (few_below (2 ^ 64) k l below count);
      value = rw (p, t, g) (whole (2 ^ 64) k l below count);
      more = m ∙ ap not (sym (zero_times (value_of (take k l)) (2 ^ 64) (omega arith)));
    }

-- as the code reaches them
module _ (l : List ℕ) (below : Below (2 ^ 64) l) (t g : ℕ) where
  pub leads_two : length l ≡ 2 → t ≡ get_or l (length l - 1) 0 → g ≡ get_or l (length l - 2) 0 → Leads l (record { top = t; guard = g; more = false })
  unfolding value_in
  leads_two c e f = leads_many 0 l (record { top = t; guard = g; more = false }) below c (e ∙ ap (λ (n : ℕ). get_or l (n - 1) 0) c) (f ∙ ap (λ (n : ℕ). get_or l (n - 2) 0) c) refl

  pub leads_three : (m : Bool) → 2 < length l → t ≡ get_or l (length l - 1) 0 → g ≡ get_or l (length l - 2) 0 → m ≡ not (eqb (value_of l % 2 ^ (64 * (length l - 2))) 0) → Leads l (record { top = t; guard = g; more = m })
  leads_three m h e f k =
      let j = length l - 2 in
      let c : length l ≡ suc (suc j) = omega arith in
      leads_many j l (record { top = t; guard = g; more = m }) below c (e ∙ ap (λ (n : ℕ). get_or l n 0) (ap (λ (n : ℕ). n - 1) c ∙ less_one (suc j))) f (k ∙ ap (λ (n : ℕ). not (eqb n 0)) (low_limbs j l below))

-- one limb
pub leads_one : (l : List ℕ) (h : Head) → length l ≡ 1 → h.top ≡ get_or l 0 0 → h.guard ≡ 0 → h.more ≡ false → Leads l h
unfolding value_in
leads_one [] h c t g m = absurd (omega arith)
leads_one (x ∷ []) h c t g m = record { top_is = t; rest = 0; few = omega arith; value = rw (t, g) (omega arith); more = m }
leads_one (x ∷ y ∷ l) h c t g m = absurd (omega arith)

-- ---- the test of what stands below the two highest limbs

-- the lowest limb is not 0
pub low_some : (l : List ℕ) → Below (2 ^ 64) l → 2 < length l → (get_or l 0 0 ≡ 0 → ⊥) → true ≡ not (eqb (value_of l % 2 ^ (64 * (length l - 2))) 0)
unfolding value_in
low_some [] below c h = absurd (omega arith)
low_some (x ∷ []) below c h = absurd (omega arith)
low_some (x ∷ y ∷ []) below c h = absurd (omega arith)
low_some (x ∷ y ∷ z ∷ l) below c h =
    let e = low_limbs (suc (length l)) (x ∷ y ∷ z ∷ l) below in
    rw (less_two (suc (length l)))
    (sym (ap not (ne_eqb (value_of (x ∷ y ∷ z ∷ l) % 2 ^ (64 * suc (length l))) 0 (λ q. h (none x (value_of (take (length l) (y ∷ z ∷ l))) (sym e ∙ q))))))
  where
    none : (x v : ℕ) → x + 2 ^ 64 * v ≡ 0 → x ≡ 0
    none x v e = omega arith

-- it is 0, and the limbs between tell
pub low_none : (l part : List ℕ) (b : Bool) → Below (2 ^ 64) l → 2 < length l → get_or l 0 0 ≡ 0 → part ≡ take (length l - 1) (drop 1 l)
    → b ≡ eqb (value_of part % 2 ^ (64 * (length l - 3))) 0 → not b ≡ not (eqb (value_of l % 2 ^ (64 * (length l - 2))) 0)
unfolding value_in
low_none [] part b below c h e f = absurd (omega arith)
low_none (x ∷ []) part b below c h e f = absurd (omega arith)
low_none (x ∷ y ∷ []) part b below c h e f = absurd (omega arith)
low_none (x ∷ y ∷ z ∷ l) part b below c h e f =
    let rest = y ∷ z ∷ l in
    let p : part ≡ rest = e ∙ ap (λ (n : ℕ). take n rest) (less_one (length rest)) ∙ take_all (length rest) rest (le_of_eq refl) in
    let v = value_of (take (length l) rest) in
    rw (less_two (suc (length l)))
    (ap not
    (f ∙ ap (λ (n : ℕ). eqb (value_of part % 2 ^ (64 * n)) 0) (less_three (length l))
    ∙ ap (λ (q : List ℕ). eqb (value_of q % 2 ^ (64 * length l)) 0) p
    ∙ ap (λ (n : ℕ). eqb n 0) (low_limbs (length l) rest (λ i. below (suc i)))
    ∙ same_zero v (x + 2 ^ 64 * v) (λ q. omega arith) (λ q. omega arith)
    ∙ sym (ap (λ (n : ℕ). eqb n 0) (low_limbs (suc (length l)) (x ∷ rest) below))))
