-- What the tests tell of two operands, and their limbs and counts in either order. Assumes nothing.
use mathlib.Core.Path.{◌≡◌, refl, sym, ap, ◌∙◌}
use mathlib.Core.Bool.{Bool, true, false, not, cond, ◌&&◌, beq}
use mathlib.Core.List.{List}
use Prim.Native.Nat.{ℕ, ◌+◌, ◌-◌, ◌*◌, ◌^◌, ◌≤◌, ◌<◌}
use native.Mathlib.Omega.{arith}
use lib.IntN.{ℤ}
use mir.Syntax.{w32}
use mir.Val.{SFits, to_z, of_z}
use mir.Facts.{to_z-of_z}
use borrow.Author.Tests.{eqb-true, leb-true, ltb-true}
use lib.Dec.{leb, ltb, eqb}
use lib.ListN.{length, get_or}
use Rattle.numbers.specs.Limits.{counted}
use Rattle.numbers.specs.Operand.{Operand, WellFormed}
use Rattle.rounding.specs.declared.Mode.{Mode}
use Rattle.limb.proofs.Tests.{both_true}
use Rattle.checks.specs.declared.Number.{Number}
use Rattle.checks.specs.Number.{is_zero_kind, operand_of}
use Rattle.place.specs.declared.Placed.{Placed}
use Rattle.settle.specs.declared.rows.Pair.{Pair}
use Rattle.checks.specs.Room.{Room}
use Rattle.wide.specs.Filling.{Holding, Offered}
use Rattle.wide.specs.Attempted.{Attempted}
use Rattle.wide.proofs.FullTarget.{offered_modest}
use Rattle.wide.proofs.InHollow.{sum_fits}
use Rattle.wide.proofs.InOrder.{limbs_weigh}
use Rattle.aligned.proofs.AsFound.{unlike_is}
use Rattle.deep.specs.Deep.{Deep}
use Rattle.aligned.specs.Lower.{Lower, Lowered}

-- ---- what the tests tell

pub kind_told : (x : Number) (xl : List ℕ) {v b : Bool} → v ≡ is_zero_kind x.kind → v ≡ b → (operand_of x xl).is_zero ≡ b
unfolding operand_of
kind_told x xl e f = sym e ∙ f

pub aligned_told : (x y : ℤ) (m k n : ℕ) → SFits w32 x → SFits w32 y → ((eqb (of_z w32 x) (of_z w32 y) && eqb m n) && eqb k n) ≡ true → (x ≡ y) × (m ≡ n) × (k ≡ n)
aligned_told x y m k n f g h =
    let a = both_true (eqb (of_z w32 x) (of_z w32 y) && eqb m n) (eqb k n) h in
    let b = both_true (eqb (of_z w32 x) (of_z w32 y)) (eqb m n) a.0 in
    (sym (to_z-of_z f) ∙ ap (to_z w32) (eqb-true (of_z w32 x) (of_z w32 y) b.0) ∙ to_z-of_z g, eqb-true m n b.1, eqb-true k n a.1)

pub short_told : (m k n : ℕ) → ((eqb m 1 && eqb k 1) && ltb 2 n) ≡ true → (m ≡ 1) × (k ≡ 1) × (2 < n)
short_told m k n h =
    let a = both_true (eqb m 1 && eqb k 1) (ltb 2 n) h in
    let b = both_true (eqb m 1) (eqb k 1) a.0 in
    (eqb-true m 1 b.0, eqb-true k 1 b.1, ltb-true 2 n a.1)

pub lower_told : (m k n : ℕ) → ((eqb m 2 && eqb k 2) && eqb n 1) ≡ true → (m ≡ 2) × (k ≡ 2) × (n ≡ 1)
lower_told m k n h =
    let a = both_true (eqb m 2 && eqb k 2) (eqb n 1) h in
    let b = both_true (eqb m 2) (eqb k 2) a.0 in
    (eqb-true m 2 b.0, eqb-true k 2 b.1, eqb-true n 1 a.1)

pub near_told : (first second n gap : ℕ) → (((eqb first n && eqb second n) && ltb 0 gap) && ltb gap 64) ≡ true → (first ≡ n) × (second ≡ n) × (0 < gap) × (gap < 64)
near_told first second n gap h =
    let a = both_true ((eqb first n && eqb second n) && ltb 0 gap) (ltb gap 64) h in
    let b = both_true (eqb first n && eqb second n) (ltb 0 gap) a.0 in
    let c = both_true (eqb first n) (eqb second n) b.0 in
    (eqb-true first n c.0, eqb-true second n c.1, ltb-true 0 gap b.1, ltb-true gap 64 a.1)

pub far_told : (p first n gap : ℕ) → ((eqb first n && leb (64 * n) gap) && ltb (p + 1) gap) ≡ true → (first ≡ n) × (64 * n ≤ gap) × (p + 1 < gap)
far_told p first n gap h =
    let a = both_true (eqb first n && leb (64 * n) gap) (ltb (p + 1) gap) h in
    let b = both_true (eqb first n) (leb (64 * n) gap) a.0 in
    (eqb-true first n b.0, leb-true (64 * n) gap b.1, ltb-true (p + 1) gap a.1)

pub far_asked : (p n : ℕ) → Room p n → (p + 1 < 2 ^ 64) × (64 * n < 2 ^ 64)
far_asked p n room = (sum_fits p n room, less n (limbs_weigh p n room))
  where
    less : (m : ℕ) → 64 * (m + 1) < 2 ^ 64 → 64 * m < 2 ^ 64
    less m h = omega arith

pub deep_told : (p : ℕ) (pair : Pair) → (((leb p 62 && ltb pair.gap 64) && ltb 65 pair.first) && ltb 65 (pair.gap + pair.second)) ≡ true → (p ≤ 62) × Deep pair
deep_told p pair h =
    let a = both_true ((leb p 62 && ltb pair.gap 64) && ltb 65 pair.first) (ltb 65 (pair.gap + pair.second)) h in
    let b = both_true (leb p 62 && ltb pair.gap 64) (ltb 65 pair.first) a.0 in
    let c = both_true (leb p 62) (ltb pair.gap 64) b.0 in
    (leb-true p 62 c.0, record { gap = ltb-true pair.gap 64 c.1; first = ltb-true 65 pair.first b.1; second = ltb-true 65 (pair.gap + pair.second) a.1 })

pub deep_asked : (p n : ℕ) (pair : Pair) (first second : List ℕ) → Room p n → Offered pair first second → pair.gap + pair.second < 2 ^ 64
deep_asked p n pair first second room held = let m = offered_modest p pair first second held n 0 room (omega arith) in omega (arith, m.gap, m.second)

-- two numbers of two limbs each that exponents and top limbs do not tell apart, and have to
module _ (x : Number) (xl : List ℕ) (y : Number) (yl : List ℕ) (gx : WellFormed (operand_of x xl)) (rx : (operand_of x xl).is_zero ≡ false) (gy : WellFormed (operand_of y yl)) (ry : (operand_of y yl).is_zero ≡ false)
    (a b : ℕ) (ae : a ≡ counted x.exponent) (be : b ≡ counted y.exponent) (even : Bool) (even_is : even ≡ (not (beq x.negative y.negative) && (eqb a b && eqb (get_or xl (length xl - 1) 0) (get_or yl (length yl - 1) 0)))) (level : even ≡ true)
    (m : length xl ≡ 2) (k : length yl ≡ 2) where
  pub lower_held : Lower (operand_of x xl) (operand_of y yl) (get_or xl 0 0) (get_or yl 0 0) a
  unfolding operand_of
  lower_held =
      let t = both_true (not (beq x.negative y.negative)) (eqb a b && eqb (get_or xl (length xl - 1) 0) (get_or yl (length yl - 1) 0)) (sym even_is ∙ level) in
      let q = both_true (eqb a b) (eqb (get_or xl (length xl - 1) 0) (get_or yl (length yl - 1) 0)) t.1 in
      let tops = eqb-true (get_or xl (length xl - 1) 0) (get_or yl (length yl - 1) 0) q.1 in
      record {
        aligned = record { first = gx; second = gy; first_regular = rx; second_regular = ry; even = sym be ∙ sym (eqb-true a b q.0) ∙ ae; first_limbs = m; second_limbs = k };
        unlike = unlike_is _ t.0;
        level = rw (m, k) at tops;
        first_low = refl;
        second_low = refl;
        top_is = ae;
      }

  pub lower_offered : Lowered (get_or xl 0 0) (get_or yl 0 0) a
  lower_offered = record { first = operand_of x xl; second = operand_of y yl; lower = lower_held }

-- ---- in either order

-- what is held of two operands is held of their limbs by other names
pub holding_named : {z w : Operand} {pair : Pair} {a b first second : List ℕ} → a ≡ first → b ≡ second → Holding z w pair first second → Holding z w pair a b
holding_named e f h = record { course = h.course; regular = h.regular; pair_is = h.pair_is; first_is = e ∙ h.first_is; second_is = f ∙ h.second_is }

pub offered_named : {pair : Pair} {a b first second : List ℕ} → a ≡ first → b ≡ second → Offered pair first second → Offered pair a b
offered_named e f o = record { larger = o.larger; other = o.other; holding = holding_named e f o.holding }

-- two counts that have changed places, put back
pub counts_back : (s : Bool) {i j upper lower m n : ℕ} → i ≡ cond s lower upper → j ≡ cond s upper lower → upper ≡ m → lower ≡ n → (cond s j i ≡ m) × (cond s i j ≡ n)
counts_back true e f g h = (f ∙ g, e ∙ h)
counts_back false e f g h = (e ∙ g, f ∙ h)

pub exchanged_told : (s : Bool) {o : Mode} {p : ℕ} {z w : Operand} {exit : List ℕ} {n m : Bool} {placed told : Placed} {k d i j upper lower : ℕ}
    → m ≡ n → told ≡ placed → d ≡ k → i ≡ cond s lower upper → j ≡ cond s upper lower
    → Attempted o p z w exit n placed k upper lower → Attempted o p z w exit m told d (cond s j i) (cond s i j)
exchanged_told s {o} {p} {z} {w} {exit} {n} {m} {placed} {told} {k} {d} {i} {j} {upper} {lower} a b c e f t =
    let u : cond s j i ≡ upper = (counts_back s e f refl refl).0 in
    let v : cond s i j ≡ lower = (counts_back s e f refl refl).1 in
    rw (a, b, c, u, v) t
