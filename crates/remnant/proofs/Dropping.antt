-- Laws of what lies below the last of p digits of what a window shows. Assumes nothing.
use mathlib.Core.Path.{◌≡◌, refl, sym, ap, ◌∙◌, subst}
use mathlib.Core.Bool.{Bool, true, false}
use mathlib.Core.List.{List}
use Prim.Native.Nat.{ℕ, zero, suc, ◌+◌, ◌-◌, ◌*◌, ◌%◌, ◌^◌, ◌≤◌, ◌<◌}
use native.Mathlib.Nat.{mod-one, lt_of_not-le}
use native.Mathlib.Omega.{arith}
use lib.Dec.{eqb}
use lib.Ieee.{size}
use lib.Ieee.Digits.{size-lt}
use lib.ListN.{length, get_or, drop_of_length-le}
use lib.Pow.{pow-add, pow_mono}
use borrow.Author.Tests.{eq-eqb, ne_eqb, le-leb, lt-leb}
use Rattle.std.specs.Option.{is_some}
use Rattle.limb.specs.Carry.{bit}
use Rattle.limb.proofs.Carry.{bit_le}
use Rattle.limb.proofs.Value.{value_nil, value_drop}
use Rattle.walk.specs.declared.state.Window.{Window}
use Rattle.walk.specs.declared.state.Tail.TheVariants.{Empty, Mixed}
use Rattle.remnant.specs.declared.rest.Rest.{Rest}
use Rattle.walk.specs.Window.{guard_of, head_of, shown_columns, TailIs, Shows}
use Rattle.remnant.specs.Digits.{ShowsDigits}
use Rattle.remnant.specs.Rest.{RestOf, Marks, RestAt, Settled, high_of}
use Rattle.walk.proofs.Tails.{column_weight}
use Rattle.walk.proofs.Showing.{whole_shows, tailed_shows, columns_guarded}
use Rattle.walk.proofs.Walking.{tail_lt}
use Rattle.remnant.proofs.Resting.{rest_longer, next_is, whole_is}

-- ---- the digit above the lowest limb

carry_odd : (p : Bool) → p ≡ eqb (bit p % 2) 1
unfolding bit
carry_odd true = refl
carry_odd false = refl

module _ (w : Window) (target : List ℕ) where
  pub next_in_limb : 1 < length target → eqb (get_or target 1 0 % 2) 1 ≡ eqb (high_of w target % 2) 1
  unfolding high_of
  next_in_limb h =
      let f : ℕ = length target - 2 in
      let place : length target - 1 ≡ suc f = omega arith in
      let weight : 2 ^ (64 * (length target - 1)) ≡ 2 ^ 64 * 2 ^ (64 * f) = ap (λ (x : ℕ). 2 ^ (64 * x)) place ∙ column_weight f in
      ap (λ (x : ℕ). eqb x 1) (sym (even_part (bit w.carry) _ _ (2 ^ (64 * f)) _ _ weight (value_drop (2 ^ 64) 1 target)))
    where
      even_part : (c P v Q g R : ℕ) → P ≡ 2 ^ 64 * Q → v ≡ g + 2 ^ 64 * R → (c * P + v) % 2 ≡ g % 2
      even_part c P v Q g R e f =
          let q : c * P + v ≡ g + 2 * (2 ^ 63 * (c * Q) + 2 ^ 63 * R) = omega (arith, ap (λ (x : ℕ). c * x) e) in
          omega arith

  pub next_in_carry : length target ≤ 1 → w.carry ≡ eqb (high_of w target % 2) 1
  unfolding high_of
  next_in_carry h =
      let none : length target - 1 ≡ 0 = omega arith in
      let high : high_of w target ≡ bit w.carry = rw (none, drop_of_length-le target {i = 1} h, value_nil (2 ^ 64)) (omega arith) in
      carry_odd w.carry ∙ ap (λ (x : ℕ). eqb (x % 2) 1) (sym high)

  -- a full target: the lowest limb, and what stands above it
  pub head_full : 0 < length target → w.filled ≡ length target → head_of w target ≡ high_of w target * 2 ^ 64 + get_or target 0 0
  unfolding head_of high_of
  head_full l f =
      let none : length target - length target ≡ 0 = omega arith in
      let next : length target ≡ suc (length target - 1) = omega arith in
      let weight : 2 ^ (64 * length target) ≡ 2 ^ 64 * 2 ^ (64 * (length target - 1)) = ap (λ (x : ℕ). 2 ^ (64 * x)) next ∙ column_weight (length target - 1) in
      rw (f, none) (omega (arith, value_drop (2 ^ 64) 0 target, ap (λ (x : ℕ). bit w.carry * x) weight))

  pub low_odd : 0 < length target → w.filled ≡ length target → eqb (get_or target 0 0 % 2) 1 ≡ eqb (head_of w target % 2) 1
  low_odd l f = let e : get_or target 0 0 % 2 ≡ head_of w target % 2 = omega (arith, head_full l f) in ap (λ (x : ℕ). eqb x 1) e

-- ---- the rest of D

-- the last d digits of D, of which p stand above them
pub rest_at_of : (p D d : ℕ) (x : Rest) → p < size D → d ≡ size D - p → RestAt D d x → RestOf p D x
rest_at_of p D d x h e r =
    let s : RestAt D (size D - p) x = subst (λ (y : ℕ). RestAt D y x) e r in
    record {
      enough = s.enough ∙ sym (le-leb p (size D) (omega arith));
      empty = λ q. s.empty ∙ sym (ne_eqb (size D) p (λ y. omega arith));
      zero = λ q. s.marks.zero;
      ones = λ q. s.marks.ones;
      almost = λ q. s.marks.almost;
      half = λ q. s.marks.half;
      above = λ q. s.marks.above;
      odd = λ q. s.odd;
    }

pub rest_few : (p D : ℕ) (x : Rest) → size D < p → x.enough ≡ false → RestOf p D x
rest_few p D x h e = record {
  enough = e ∙ sym (lt-leb p (size D) h);
  empty = λ q. absurd (omega arith);
  zero = λ q. absurd (omega arith);
  ones = λ q. absurd (omega arith);
  almost = λ q. absurd (omega arith);
  half = λ q. absurd (omega arith);
  above = λ q. absurd (omega arith);
  odd = λ q. absurd (omega arith);
}

pub rest_none : (p D : ℕ) (x : Rest) → size D ≡ p → x.enough ≡ true → x.empty ≡ true → Marks 0 1 x → RestOf p D x
rest_none p D x h e f m =
    let none : size D - p ≡ 0 = omega arith in
    let rest : D % 2 ^ (size D - p) ≡ 0 = ap (λ (y : ℕ). D % 2 ^ y) none ∙ mod-one D in
    let unit : 2 ^ (size D - p) ≡ 1 = ap (λ (y : ℕ). 2 ^ y) none in
    record {
      enough = e ∙ sym (le-leb p (size D) (omega arith));
      empty = λ q. f ∙ sym (eq-eqb (size D) p h);
      zero = λ q. rw rest m.zero;
      ones = λ q. rw (rest, unit) m.ones;
      almost = λ q. rw (rest, unit) m.almost;
      half = λ q. rw (rest, unit) m.half;
      above = λ q. rw (rest, unit) m.above;
      odd = λ q. absurd (omega arith);
    }

-- ---- of what a window shows

-- with a guard there are more digits than the target has
pub guarded_digits : (w : Window) (target : List ℕ) (k D : ℕ) (s : Shows w target k D) → is_some w.guard ≡ true → 64 * length target + 64 * s.below < size D
guarded_digits w target k D s g =
    let o = tailed_shows w target k D s g in
    let z : ℕ = 64 * length target + 64 * s.below in
    let place : 64 * (shown_columns w + s.below - 1) ≡ z = omega (arith, columns_guarded w target g, o.full) in
    let more : 2 ^ z < D = subst (λ (x : ℕ). 2 ^ x < D) place (s.leads (omega (arith, o.full, s.fits.limbs))) in
    lt_of_not-le (λ (h : size D ≤ z). omega (arith, size-lt D, pow_mono {i = size D} {j = z} h))

module _ (w : Window) (target : List ℕ) (p digits : ℕ) (ds : ShowsDigits w target digits) (hp : p ≤ 64 * length target) (k D : ℕ) (s : Shows w target k D) where
  -- as many digits as are kept, or fewer, are all that there are
  few_digits : digits ≤ p → digits ≡ size D
  few_digits h = go (is_some w.guard) refl
    where
      go : (b : Bool) → is_some w.guard ≡ b → digits ≡ size D
      go true g = absurd (omega (arith, guarded_digits w target k D s g, ds.exact k D s))
      go false g = omega (arith, ds.exact k D s, (whole_shows w target k D s g).below)

  pub shown_few : (x : Rest) → digits < p → x.enough ≡ false → RestOf p D x
  shown_few x h e = rest_few p D x (omega (arith, few_digits (omega arith))) e

  pub shown_none : (x : Rest) → digits ≡ p → x.enough ≡ true → x.empty ≡ true → Marks 0 1 x → RestOf p D x
  shown_none x h e f m = rest_none p D x (omega (arith, few_digits (omega arith))) e f m

  -- without a guard the target is full, and the rest stands in its lowest limb
  pub shown_open : (x : Rest) → is_some w.guard ≡ false → 64 * length target < p + 64 → p < digits → RestAt (high_of w target * 2 ^ 64 + get_or target 0 0) (digits - p) x → RestOf p D x
  unfolding bit
  shown_open x g near h r =
      let o = whole_shows w target k D s g in
      let most : digits ≤ 64 * w.filled + 64 * 0 + 1 = omega (arith, rw g at ds.most, bit_le w.carry) in
      let full : w.filled ≡ length target = omega (arith, s.fits.within) in
      let all : digits ≡ size D = omega (arith, ds.exact k D s, o.below) in
      let value : high_of w target * 2 ^ 64 + get_or target 0 0 ≡ D = sym (o.value ∙ head_full w target s.fits.limbs full) in
      rest_at_of p D (digits - p) x (omega arith) (omega arith) (subst (λ (y : ℕ). RestAt y (digits - p) x) value r)

  -- with one, it is what stands above the tail, and the tail
  pub shown_guarded : (x : Rest) → is_some w.guard ≡ true → p < digits → RestAt ((head_of w target * 2 ^ 64 + guard_of w) * 2 ^ (64 * s.below) + s.rest) (digits - p + 64 * s.below) x → RestOf p D x
  shown_guarded x g h r =
      let o = tailed_shows w target k D s g in
      let all : digits + 64 * s.below ≡ size D = ds.exact k D s in
      rest_at_of p D (digits - p + 64 * s.below) x (omega arith) (omega arith) (subst (λ (y : ℕ). RestAt y (digits - p + 64 * s.below) x) (sym o.value) r)

-- ---- a mixed tail settles every case

pub mixed_settles : (w : Window) (target : List ℕ) (p k D : ℕ) (x : Rest) → Shows w target k D → w.tail ≡ Mixed → p ≤ 64 * length target → RestOf p D x → Settled x
mixed_settles w target p k D x s mixed hp r = go (is_some w.guard) refl
  where
    go : (b : Bool) → is_some w.guard ≡ b → Settled x
    go false g = absurd (let e : w.tail ≡ Empty = s.fits.untailed g in let z : ◌≡◌ {A = ℕ} 0 1 = cc in omega arith)
    go true g =
        let o = tailed_shows w target k D s g in
        let t : ℕ = s.below in
        let M : ℕ = 2 ^ (64 * t) in
        let is : TailIs Mixed t s.rest = rw mixed at s.tail in
        let many = guarded_digits w target k D s g in
        let n : ℕ = head_of w target * 2 ^ 64 + guard_of w in
        let d : ℕ = size D - p - 64 * t in
        let h : ℕ = 2 ^ (d - 1) in
        let q : ℕ = n % 2 ^ d in
        let ed : size D - p ≡ d + 64 * t = omega arith in
        let l : s.rest < M = tail_lt w.tail t s.rest s.tail in
        let rest : D % 2 ^ (size D - p) ≡ q * M + s.rest = ap (λ (y : ℕ). D % 2 ^ y) ed ∙ ap (λ (y : ℕ). y % 2 ^ (d + 64 * t)) o.value ∙ rest_longer n d (64 * t) s.rest l in
        let unit : 2 ^ (size D - p) ≡ 2 * h * M = ap (λ (y : ℕ). 2 ^ y) (omega arith) ∙ pow-add 2 (1 + (d - 1)) (64 * t) ∙ ap (λ (y : ℕ). y * M) (pow-add 2 1 (d - 1)) in
        let enough : p ≤ size D = omega arith in
        record {
          zero = r.zero enough ∙ ne_eqb (D % 2 ^ (size D - p)) 0 (λ e. omega (arith, rest, e, is.1));
          ones = r.ones enough ∙ ne_eqb (suc (D % 2 ^ (size D - p))) (2 ^ (size D - p)) (λ e. omega (arith, is.2, (next_is q (2 * h) M s.rest l (ap suc (sym rest) ∙ e ∙ unit)).1));
          almost = r.almost enough ∙ ne_eqb (suc (D % 2 ^ (size D - p)) * 2) (2 ^ (size D - p)) (λ e. omega (arith, is.2, (next_is q h M s.rest l (doubled (suc (q * M + s.rest)) h M (ap (λ (y : ℕ). suc y * 2) (sym rest) ∙ e ∙ unit))).1));
          half = r.half enough ∙ ne_eqb (D % 2 ^ (size D - p) * 2) (2 ^ (size D - p)) (λ e. omega (arith, is.1, (whole_is q h M s.rest l (doubled (q * M + s.rest) h M (ap (λ (y : ℕ). y * 2) (sym rest) ∙ e ∙ unit))).1));
        }
      where
        doubled : (a h M : ℕ) → a * 2 ≡ 2 * h * M → a ≡ h * M
        doubled a h M e = omega arith
