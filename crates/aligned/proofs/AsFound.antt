-- Two numbers as the code finds them: where they part, what is left in the target, and what is told of it. Assumes nothing.
use mathlib.Core.Path.{◌≡◌, refl, sym, ap, ◌∙◌, subst}
use mathlib.Core.Logic.{inl, inr}
use mathlib.Core.Bool.{Bool, true, false, not, cond, beq}
use mathlib.Core.List.{List}
use denote.Bor.{Bor}
use Prim.Native.Nat.{ℕ, ◌+◌, ◌-◌, ◌*◌, ◌%◌, ◌^◌, ◌≤◌, ◌<◌}
use native.Mathlib.Omega.{arith}
use lib.Dec.{ltb}
use lib.ListN.{length, get_or}
use Rattle.limb.specs.Value.{value_of, Below}
use Rattle.fused.specs.Fused.{SumOf}
use Rattle.numbers.specs.Limits.{counted, least_exponent, most_exponent, bias}
use Rattle.numbers.specs.Operand.{Operand, WellFormed}
use Rattle.rounding.specs.declared.Mode.{Mode}
use Rattle.rounding.proofs.Order.{le_or_lt}
use Rattle.checks.specs.declared.Number.{Number}
use Rattle.checks.specs.Number.{operand_of}
use Rattle.checks.specs.declared.operand.Regular.{Regular}
use Rattle.checks.specs.Held.{regular}
use Rattle.place.specs.declared.Placed.{Placed}
use Rattle.checks.specs.Room.{Room}
use Rattle.descent.proofs.AtOnce.{some_of}
use Rattle.wide.specs.Attempted.{Attempted}
use Rattle.wide.proofs.InOrder.{attempted_told}
use Rattle.aligned.specs.Aligned.{Aligned, Cancelling, Alike, Reducible, Subtracted, Standing}
use Rattle.aligned.proofs.Parting.{Parted}
use Rattle.aligned.proofs.Cancels.{all_alike}
use Rattle.aligned.proofs.Clean.{none_below}
use Rattle.aligned.proofs.Stands.{limbs_modest, standing_sum, standing_difference, parted, sign_told, reducible}

-- ---- the same runs under other names

-- a run that is chosen of two
pub chosen_now : (s : Bool) (a b : Bor (List ℕ)) {r : Bor (List ℕ)} → r ≡ cond s b a → r.now ≡ cond s b.now a.now
chosen_now true a b e = ap (λ (l : Bor (List ℕ)). l.now) e
chosen_now false a b e = ap (λ (l : Bor (List ℕ)). l.now) e

pub reducible_named : {a b first second : List ℕ} {n z : ℕ} → a ≡ first → b ≡ second → Reducible first second n z → Reducible a b n z
reducible_named {a} {b} {first} {second} {n} {z} e f r = rw (e, f) r

pub subtracted_named : {a b first second t w : List ℕ} {z : ℕ} → a ≡ first → b ≡ second → Subtracted a b t w z → Subtracted first second t w z
subtracted_named {a} {b} {first} {second} {t} {w} {z} e f r = rw (← e, ← f) r

-- ---- numbers and their operands

pub regular_told : (x : Regular) → (regular x).is_zero ≡ false
unfolding operand_of
regular_told x = x.regular

pub aligned_told : (x : Number) (xl : List ℕ) (y : Number) (yl : List ℕ) (n : ℕ) → WellFormed (operand_of x xl) → (operand_of x xl).is_zero ≡ false → WellFormed (operand_of y yl) → (operand_of y yl).is_zero ≡ false → x.exponent ≡ y.exponent → length xl ≡ n → length yl ≡ n
    → Aligned (operand_of x xl) (operand_of y yl) n
unfolding operand_of
aligned_told x xl y yl n g r h s e i j = record { first = g; second = h; first_regular = r; second_regular = s; even = ap counted (sym e); first_limbs = i; second_limbs = j }

-- two regular numbers of one exponent, as they are held
pub level_held : (x y : Regular) (n : ℕ) → x.number.exponent ≡ y.number.exponent → length x.limbs.now ≡ n → length y.limbs.now ≡ n → Aligned (regular x) (regular y) n
level_held x y n e f g = aligned_told x.number x.limbs.now y.number y.limbs.now n x.formed (regular_told x) y.formed (regular_told y) e f g

pub exponent_told : (x : Number) (xl : List ℕ) (top : ℕ) → top ≡ counted x.exponent → top ≡ (operand_of x xl).exponent
unfolding operand_of
exponent_told x xl top e = e

pub sign_is : (x : Number) (xl : List ℕ) → x.negative ≡ (operand_of x xl).negative
unfolding operand_of
sign_is x xl = refl

pub top_modest : (x y : Operand) (n top : ℕ) → Aligned x y n → top ≡ x.exponent → top ≤ 2 ^ 42
unfolding most_exponent bias
top_modest x y n top a e = omega (arith, (a.first.regular a.first_regular).most)

-- limbs and digits of two of them in either order
pub either_limbs : (x : Number) (xl : List ℕ) (y : Number) (yl : List ℕ) (s : Bool) → (cond s (operand_of y yl) (operand_of x xl)).limbs ≡ cond s yl xl
unfolding operand_of
either_limbs x xl y yl true = refl
either_limbs x xl y yl false = refl

pub either_few : (p : ℕ) (x : Number) (xl : List ℕ) (y : Number) (yl : List ℕ) (s : Bool) → x.precision ≤ p → y.precision ≤ p → (cond s (operand_of y yl) (operand_of x xl)).precision ≤ p
unfolding operand_of
either_few p x xl y yl true h k = k
either_few p x xl y yl false h k = h

module _ (p : ℕ) (x : Number) (xl : List ℕ) (y : Number) (yl : List ℕ) (before : List ℕ) (top : ℕ) (room : Room p (length before)) (a : Aligned (operand_of x xl) (operand_of y yl) (length before)) where
  abbrev X : Operand
  X = operand_of x xl

  abbrev Y : Operand
  Y = operand_of y yl

  pub first_many : length xl ≡ length before
  unfolding operand_of
  first_many = a.first_limbs

  pub as_many : length yl ≡ length xl
  unfolding operand_of
  as_many = a.second_limbs ∙ sym a.first_limbs

  pub sum_stands : {t : List ℕ} {carry : Bool} → top ≡ X.exponent → beq x.negative y.negative ≡ true → ltb most_exponent (top + 2) ≡ false → SumOf (value_of xl) (value_of yl) false (length before) t carry → Below (2 ^ 64) t → Standing p X Y t carry 0 top
  unfolding operand_of
  sum_stands {t} {carry} e like high d below =
      standing_sum p X Y t carry top (subst (Room p) (sym d.size) room) (subst (Aligned X Y) (sym d.size) a) like e high below (rw d.size d.value)

  -- all limbs are alike
  pub cancels_told : (z : ℕ) → Alike xl yl z → z ≡ length before → beq x.negative y.negative ≡ false → Cancelling X Y (length before)
  unfolding operand_of
  cancels_told z same e unlike = record { aligned = a; unlike = unlike; level = all_alike xl yl (length before) z first_many same e }

  -- the larger of the two has the sign of the difference
  pub sign_kept : beq x.negative y.negative ≡ false → (s : Bool) → not (beq x.negative s) ≡ (cond s Y X).negative
  unfolding operand_of
  sign_kept = sign_told X Y

  -- what is told of them in order is told of them as they came
  pub difference_told : (s : Bool) (o : Mode) {exit : List ℕ} {negative : Bool} {placed : Placed} (k i j : ℕ) → j ≡ i → Attempted o p (cond s Y X) (cond s X Y) exit negative placed k i j → Attempted o p X Y exit negative placed k i j
  difference_told s o {exit} {negative} {placed} k i j e t =
      attempted_told o p (length before) room X Y a.first_regular a.second_regular s exit negative placed k i j
      (subst (λ (m : ℕ). Attempted o p (cond s Y X) (cond s X Y) exit negative placed k m (cond s i j)) (first s) (subst (Attempted o p (cond s Y X) (cond s X Y) exit negative placed k i) (second s) t))
    where
      first : (b : Bool) → i ≡ cond b j i
      first true = sym e
      first false = refl

      second : (b : Bool) → j ≡ cond b i j
      second true = e
      second false = refl

  module _ (z : ℕ) (same : Alike xl yl z) (some : z ≡ length before → ⊥) where
    pub within_runs : z < length xl
    within_runs = go same.within (λ e. some (e ∙ first_many))
      where
        go : z ≤ length xl → (z ≡ length xl → ⊥) → z < length xl
        go h k = elim (le_or_lt (length xl) z) [ inl l ↦ absurd (k (omega arith)) | inr l ↦ l ]

    module _ (unlike : beq x.negative y.negative ≡ false) (s : Bool) (larger : s ≡ ltb (get_or xl (length xl - 1 - z) 0) (get_or yl (length xl - 1 - z) 0)) where
      parts_told : Parted (cond s Y X) (cond s X Y) (length before) z
      unfolding operand_of
      parts_told = parted X Y (length before) z a unlike (rw (← first_many) within_runs) same s (rw first_many at larger)

      pub reducible_told : Reducible (cond s yl xl) (cond s xl yl) (length before) z
      reducible_told = rw (← either_limbs x xl y yl s, ← either_limbs y yl x xl s) (reducible (cond s Y X) (cond s X Y) (length before) z (limbs_modest p (length before) room) parts_told)

      pub difference_stands : {t : List ℕ} → top ≡ X.exponent → ltb (top + 1) (least_exponent + 64 * length before) ≡ false → Subtracted (cond s yl xl) (cond s xl yl) before t z → (get_or t (length before - 1) 0 ≡ 0 → ⊥) → Standing p (cond s Y X) (cond s X Y) t false z top
      difference_stands {t} e low d led =
          standing_difference p (cond s Y X) (cond s X Y) t z top (subst (Room p) (sym d.size) room) (subst (λ (n : ℕ). Parted (cond s Y X) (cond s X Y) n z) (sym d.size) parts_told) (e ∙ even s) (rw d.size low)
          (rw (either_limbs x xl y yl s, either_limbs y yl x xl s, d.size) d.value) (rw d.size (some_of (get_or t (length before - 1) 0) led))
        where
          even : (b : Bool) → X.exponent ≡ (cond b Y X).exponent
          even true = sym a.even
          even false = refl

      pub difference_clean : {t : List ℕ} → Standing p (cond s Y X) (cond s X Y) t false z top → x.precision ≤ p → y.precision ≤ p → value_of t % 2 ^ (64 * length t - p) ≡ 0
      difference_clean {t} d h k = none_below p (cond s Y X) (cond s X Y) t z top d parts_told.unlike (either_few p x xl y yl s h k) (either_few p y yl x xl s k h)

pub unlike_is : (b : Bool) → not b ≡ true → b ≡ false
unlike_is true e = sym e
unlike_is false e = refl
