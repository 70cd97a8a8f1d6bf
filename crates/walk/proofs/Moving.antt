-- Laws of a number changed by one: limb by limb, over any base B, and what one limb passes on. Assumes nothing.
use mathlib.Core.Path.{◌≡◌, refl, sym, ap, ◌∙◌, subst}
use mathlib.Core.Bool.{Bool, true, false, not, beq}
use mathlib.Core.List.{List}
use Prim.Native.Nat.{ℕ, zero, suc, ◌+◌, ◌-◌, ◌*◌, ◌^◌, ◌≤◌, ◌<◌}
use native.Mathlib.Nat.{pow-succ', one-le-pow, eq_of_mul-eq-mul_left}
use native.Mathlib.Numerals.{add-one}
use native.Mathlib.Omega.{arith}
use lib.ListN.{length, take, drop, get_or, set, length-drop, length-set}
use borrow.Rule.Slice.PartMut.{put_mid, same_len_mid, take_put}
use Rattle.parts.proofs.Parts.{part_is, put_value}
use Rattle.limb.proofs.Powers.{pow_split}
use Rattle.limb.specs.Value.{value_in, Below}
use Rattle.limb.specs.Carry.{bit}
use Rattle.limb.proofs.Value.{value_set, value_split, value_lt, below_part, value_kept}
use Rattle.walk.specs.declared.change.Change.TheVariants.{Rise, Fall}
use Rattle.walk.specs.declared.change.Change.{Change}
use Rattle.std.specs.Prelude.{Some, None}
use Rattle.std.specs.Bool.{then_some}
use Rattle.walk.specs.Change.{Moved, Balanced, ChangedFrom, part_of, ChangedAt, PassesLimb}

-- ---- one more limb, at i

-- limb i, due or lent a one, becomes x, and what goes out of it is due or lent above
pub limb_changes : (change : Change) (B : ℕ) (t : List ℕ) (i : ℕ) (u n x out : ℕ) → i < length t → Balanced change u (value_in B t) n (B ^ i) → Balanced change 1 x (get_or t i 0) (B * out)
    → Balanced change u (value_in B (set t i x)) n (B ^ (i + 1) * out)
limb_changes Rise B t i u n x out within e f =
    rw (add-one i, pow-succ' B i) (omega (arith, value_set B t i x within, ap (λ (m : ℕ). B ^ i * m) f))
limb_changes Fall B t i u n x out within e f =
    rw (add-one i, pow-succ' B i) (omega (arith, value_set B t i x within, ap (λ (m : ℕ). B ^ i * m) f))

-- a number that nothing is changed in owes what it was to be changed by
pub change_due : (change : Change) (n u : ℕ) → Balanced change u n n u
change_due Rise n u = refl
change_due Fall n u = refl

-- ---- the part of a run from a place on

-- and the other way
part_in_whole : (change : Change) (P Q l a b after before top out : ℕ) → after ≡ l + P * a → before ≡ l + P * b → top ≡ P * Q → Balanced change 1 a b (Q * out)
    → Balanced change P after before (top * out)
part_in_whole Rise P Q l a b after before top out ea eb et e = omega (arith, ap (λ (m : ℕ). m * out) et, ap (λ (m : ℕ). P * m) e)
part_in_whole Fall P Q l a b after before top out ea eb et e = omega (arith, ap (λ (m : ℕ). m * out) et, ap (λ (m : ℕ). P * m) e)

-- of the whole: l is what stays below, P the weight of the place, a and b the part after and before, Q the weight of its top
part_changes : (change : Change) (P Q l a b after before top out : ℕ) → 0 < P → after ≡ l + P * a → before ≡ l + P * b → top ≡ P * Q → Balanced change P after before (top * out)
    → Balanced change 1 a b (Q * out)
part_changes Rise P Q l a b after before top out p ea eb et e =
    eq_of_mul-eq-mul_left P p (a + Q * out) (b + 1) (omega (arith, ap (λ (m : ℕ). m * out) et))
part_changes Fall P Q l a b after before top out p ea eb et e =
    eq_of_mul-eq-mul_left P p (a + 1) (b + Q * out) (omega (arith, ap (λ (m : ℕ). m * out) et))

-- with the carry above the part: what goes out turns it, a carry where it was 0 and a borrow where it was 1
carry_turns : (change : Change) (Q a b m : ℕ) (carry out : Bool) → m < 2 * Q → a < Q → Balanced change 1 a b (Q * bit out) → Moved (Some change) (bit carry * Q + b) m
    → bit (not (beq carry out)) * Q + a ≡ m
unfolding bit
carry_turns Rise Q a b m true true s l e f = absurd (omega arith)
carry_turns Rise Q a b m true false s l e f = omega arith
carry_turns Rise Q a b m false true s l e f = omega arith
carry_turns Rise Q a b m false false s l e f = omega arith
carry_turns Fall Q a b m true true s l e f = omega arith
carry_turns Fall Q a b m true false s l e f = omega arith
carry_turns Fall Q a b m false true s l e f = absurd (omega arith)
carry_turns Fall Q a b m false false s l e f = omega arith

module _ (change : Change) (from : ℕ) (before after : List ℕ) (fits : from ≤ length before) (limbs : Below (2 ^ 64) after) (out : Bool) (r : ChangedFrom change from before after out) where
  abbrev B : ℕ
  B = 2 ^ 64

  part_lt : value_in B (drop from after) < B ^ (length before - from)
  part_lt =
      let e : length (drop from after) ≡ length before - from = length-drop from after ∙ ap (λ (m : ℕ). m - from) r.same_length in
      rw e at (value_lt B (drop from after) (below_part B from after limbs))

  part_changed : Balanced change 1 (value_in B (drop from after)) (value_in B (drop from before)) (B ^ (length before - from) * bit out)
  part_changed =
      part_changes change (B ^ from) (B ^ (length before - from)) (value_in B (take from before)) (value_in B (drop from after)) (value_in B (drop from before))
      (value_in B after) (value_in B before) (B ^ length before) (bit out) (one-le-pow from B (omega arith)) (value_kept B from before after r.below) (value_split B from before)
      (pow_split B from (length before) fits) r.value

  pub carry_changed : (carry : Bool) → ChangedAt (Some change) from carry before after (not (beq carry out))
  unfolding part_of bit
  carry_changed carry = record {
    same_length = r.same_length;
    value = λ m f small. rw r.same_length
        (carry_turns change (B ^ (length before - from)) (value_in B (drop from after)) (value_in B (drop from before)) m carry out small part_lt part_changed f);
  }

-- a run whose part from limb `from` on is changed by one
pub run_changed : (change : Change) (from : ℕ) (before part : List ℕ) (out : Bool) → from ≤ length before → length part ≡ length (drop from before)
    → Balanced change 1 (value_in (2 ^ 64) part) (value_in (2 ^ 64) (drop from before)) ((2 ^ 64) ^ length (drop from before) * bit out)
    → ChangedFrom change from before (put_mid from (length before - from) before part) out
run_changed change from before part out fits same e =
    let B : ℕ = 2 ^ 64 in
    let size : length (drop from before) ≡ length before - from = length-drop from before in
    record {
      same_length = same_len_mid from (length before - from) before part (same ∙ sym (ap length (part_is before from)));
      below = take_put from (length before - from) before part fits;
      value = part_in_whole change (B ^ from) (B ^ length (drop from before)) (value_in B (take from before)) (value_in B part) (value_in B (drop from before))
          (value_in B (put_mid from (length before - from) before part)) (value_in B before) (B ^ length before) (bit out) (put_value before part from fits B) (value_split B from before)
          (pow_split B from (length before) fits ∙ ap (λ (n : ℕ). B ^ from * B ^ n) (sym size)) e;
    }

-- the part, once limb i holds the change, or passes it on over the top
pub part_holds : (change : Change) (from : ℕ) (before part : List ℕ) (i x : ℕ) → from ≤ length before → i < length part → length part ≡ length (drop from before)
    → Balanced change 1 (value_in (2 ^ 64) part) (value_in (2 ^ 64) (drop from before)) ((2 ^ 64) ^ i) → Balanced change 1 x (get_or part i 0) (2 ^ 64 * bit false)
    → ChangedFrom change from before (put_mid from (length before - from) before (set part i x)) false
unfolding bit
part_holds change from before part i x fits within same e f =
    run_changed change from before (set part i x) false fits (length-set part i x ∙ same)
    (subst (λ (n : ℕ). Balanced change 1 (value_in (2 ^ 64) (set part i x)) (value_in (2 ^ 64) (drop from before)) n) (omega arith) (limb_changes change (2 ^ 64) part i 1 (value_in (2 ^ 64) (drop from before)) x 0 within e f))

pub part_passes : (change : Change) (from : ℕ) (before part : List ℕ) (i : ℕ) → from ≤ length before → length part ≤ i → i ≤ length part → length part ≡ length (drop from before)
    → Balanced change 1 (value_in (2 ^ 64) part) (value_in (2 ^ 64) (drop from before)) ((2 ^ 64) ^ i)
    → ChangedFrom change from before (put_mid from (length before - from) before part) true
unfolding bit
part_passes change from before part i fits past most same e =
    let all : i ≡ length (drop from before) = omega arith in
    run_changed change from before part true fits same
    (subst (λ (n : ℕ). Balanced change 1 (value_in (2 ^ 64) part) (value_in (2 ^ 64) (drop from before)) n) (omega (arith, ap (λ (n : ℕ). (2 ^ 64) ^ n) all)) e)

-- a limb that passes it on
pub limb_after : (change : Change) (B : ℕ) (t : List ℕ) (i n x : ℕ) (out : Bool) → i < length t → out ≡ true → Balanced change 1 (value_in B t) n (B ^ i) → Balanced change 1 x (get_or t i 0) (B * bit out)
    → Balanced change 1 (value_in B (set t i x)) n (B ^ (i + 1))
unfolding bit
limb_after change B t i n x out within is e f =
    subst (λ (w : ℕ). Balanced change 1 (value_in B (set t i x)) n w) (omega arith) (limb_changes change B t i 1 n x 1 within e (rw is at f))

pub nothing_changed : (from : ℕ) (carry : Bool) (l : List ℕ) → ChangedAt None from carry l l carry
nothing_changed from carry l = record { same_length = refl; value = λ m e small. sym e }

-- ---- one limb

pub limb_stays : (x : ℕ) → PassesLimb None x None x
limb_stays x h m e = (h, refl, e)

limb_passes : (change : Change) (x y : ℕ) → Balanced change 1 y x (2 ^ 64 * 1) → y < 2 ^ 64 → PassesLimb (Some change) x (Some change) y
limb_passes Rise x y e l h m f = (suc h, refl, omega arith)
limb_passes Fall x y e l zero m f = absurd (omega arith)
limb_passes Fall x y e l (suc h) m f = (h, refl, omega arith)

limb_holds : (change : Change) (x y : ℕ) → Balanced change 1 y x (2 ^ 64 * 0) → PassesLimb (Some change) x None y
limb_holds Rise x y e h m f = (h, refl, omega arith)
limb_holds Fall x y e h m f = (h, refl, omega arith)

pub limb_changed : (change : Change) (x y : ℕ) (out : Bool) → y < 2 ^ 64 → Balanced change 1 y x (2 ^ 64 * bit out) → PassesLimb (Some change) x (then_some out change) y
unfolding bit
limb_changed change x y true l e = limb_passes change x y e l
limb_changed change x y false l e = limb_holds change x y e
