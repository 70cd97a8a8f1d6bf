-- A sum that its first column fixes: what a look at the operands tells is what is reported. Assumes nothing.
use mathlib.Core.Path.{◌≡◌, refl, sym, ap, ◌∙◌}
use mathlib.Core.Bool.{Bool, true, false, not, ◌&&◌, beq, true≢false}
use mathlib.Core.List.{List}
use Prim.Native.Nat.{ℕ, ◌≤◌, ◌<◌}
use native.Mathlib.Omega.{arith}
use borrow.Author.Tests.{leb-true}
use lib.Dec.{leb}
use lib.ListN.{length, set}
use Rattle.limb.proofs.Value.{one_written}
use Rattle.numbers.specs.Operand.{Operand, WellFormed, zero_like}
use Rattle.numbers.proofs.Digits.{zero_well_formed}
use Rattle.rounding.specs.Mode.{mode_of}
use Rattle.rounding.specs.declared.Mode.{Mode}
use Rattle.rounding.specs.declared.UnknownMode.{UnknownMode}
use Rattle.std.proofs.Common.{Result, Ok, Err, MatchResult, IsOk}
use Rattle.rounding.specs.Answer.{Answer}
use Rattle.rounding.specs.Sum.{add}
use Rattle.depth.specs.Depth.{plus, result}
use Rattle.checks.specs.declared.Number.{Number}
use Rattle.checks.specs.Number.{operand_of}
use Rattle.admission.specs.Sizes.{SizesPass}
use Rattle.place.specs.Placed.{placed_of}
use Rattle.checks.specs.Room.{Room}
use Rattle.reports.specs.Signed.{Signed}
use Rattle.reports.specs.Ranged.{Ranged}
use Rattle.descent.proofs.RegularEnd.{deep_enough}
use Rattle.narrow.specs.declared.looking.Sight.{Sight}
use Rattle.narrow.specs.Looked.{Looked}
use Rattle.wide.specs.declared.told.Attempt.{Attempt}
use Rattle.wide.specs.Attempted.{Attempted}
use Rattle.deep.proofs.FillingTarget.{one_limb}
use Rattle.reports.specs.declared.report.Sum.{Sum}
use Rattle.reports.specs.Summed.{sum_of, Reported, Summed}
use Rattle.reports.proofs.Told.{sum_depth}
use Rattle.reports.proofs.Ranged.{sum_ranged}

-- the three tests
pub narrow_told : (p : ℕ) {a b u v : Bool} → a ≡ u → b ≡ v → ((leb p 62 && not a) && not b) ≡ true → (p ≤ 62) × (u ≡ false) × (v ≡ false)
narrow_told p {a} {b} e f h = let t = go (leb p 62) a b h in (leb-true p 62 t.0, sym e ∙ t.1, sym f ∙ t.2)
  where
    go : (c a b : Bool) → ((c && not a) && not b) ≡ true → (c ≡ true) × (a ≡ false) × (b ≡ false)
    go true false false h = (refl, refl, refl)
    go true false true h = absurd (true≢false (sym h))
    go true true b h = absurd (true≢false (sym h))
    go false a b h = absurd (true≢false (sym h))

-- a test joined to that of the signs
pub plain_like : (b s t : Bool) → (b && beq s t) ≡ true → (b ≡ true) × (s ≡ t)
plain_like true true true h = (refl, refl)
plain_like true true false h = absurd (true≢false (sym h))
plain_like true false true h = absurd (true≢false (sym h))
plain_like true false false h = (refl, refl)
plain_like false s t h = absurd (true≢false (sym h))

pub plain_unlike : (b s t : Bool) → (b && not (beq s t)) ≡ true → (b ≡ true) × (s ≡ t → ⊥)
plain_unlike true true true h = absurd (true≢false (sym h))
plain_unlike true true false h = (refl, true≢false)
plain_unlike true false true h = (refl, λ e. true≢false (sym e))
plain_unlike true false false h = absurd (true≢false (sym h))
plain_unlike false s t h = absurd (true≢false (sym h))

-- the mode of a number that check 1 lets pass
pub known_told : {r : Result Mode UnknownMode} {m : Mode} (n : ℕ) → MatchResult r (λ mode. (n ≤ 3) × (mode ≡ mode_of n)) (λ u. 3 < n) → r ≡ Ok m → m ≡ mode_of n
known_told {r} {m} n t e = let h : MatchResult {E = UnknownMode} (Ok m) (λ mode. (n ≤ 3) × (mode ≡ mode_of n)) (λ u. 3 < n) = rw e at t in h.1

pub known_some : (r : Result Mode UnknownMode) {n : ℕ} → MatchResult r (λ mode. (n ≤ 3) × (mode ≡ mode_of n)) (λ u. 3 < n) → n ≤ 3 → IsOk r
known_some (Ok m) t l = refl
known_some (Err u) t l = absurd (omega arith)

-- what a look tells has an exponent in range
pub looked_ranged : (o : Mode) (p : ℕ) (x y : Operand) (sight : Sight) → Looked o p x y sight → Ranged sight.seen.placed
looked_ranged o p x y sight l = sum_ranged o p x y sight.seen.placed l.left.told

-- and of a number beside any zero
pub alone_ranged : (o : Mode) (p : ℕ) (x : Operand) (sight : Sight) → WellFormed x → ((z : Operand) → WellFormed z → z.is_zero ≡ true → Looked o p x z sight) → Ranged sight.seen.placed
unfolding zero_like
alone_ranged o p x sight g l = looked_ranged o p x (zero_like x) sight (l (zero_like x) (zero_well_formed x g) refl)

pub looked_reported : (o : Mode) (p : ℕ) (x y : Operand) (sight : Sight) (entry : List ℕ) {s : Sum} → Room p (length entry) → p ≤ 62 → Looked o p x y sight
    → ((a : Answer) → Signed sight.seen.negative a → sight.seen.placed ≡ placed_of a → s ≡ sum_of a p 1 sight.first sight.second)
    → Reported plus o p x y (set entry 0 sight.seen.limb) s
unfolding result
looked_reported o p x y sight entry {s} room h l told =
    let e : s ≡ sum_of (add o p x y) p 1 sight.first sight.second = told (add o p x y) l.signed l.left.told in
    let k : s.depth ≡ 1 = ap (λ (q : Sum). q.depth) e ∙ sum_depth (add o p x y) p 1 sight.first sight.second in
    record {
      depth = rw k l.depth;
      bounded = rw k (omega (arith, deep_enough));
      answer = e ∙ rw (l.first, l.second, k) refl;
      target = one_written entry sight.seen.limb (one_limb p (length entry) room h) ∙ l.left.limbs;
    }

-- ---- what is read at once into the target

pub attempted_ranged : (o : Mode) (p : ℕ) (x y : Operand) (w : Attempt) (exit : List ℕ) → Attempted o p x y exit w.negative w.placed w.depth w.first w.second → Ranged w.placed
attempted_ranged o p x y w exit l = sum_ranged o p x y w.placed l.left.told

pub attempted_reported : (o : Mode) (p : ℕ) (x y : Operand) (w : Attempt) (exit : List ℕ) {s : Sum} → Attempted o p x y exit w.negative w.placed w.depth w.first w.second
    → ((a : Answer) → Signed w.negative a → w.placed ≡ placed_of a → s ≡ sum_of a p w.depth w.first w.second)
    → Reported plus o p x y exit s
unfolding result
attempted_reported o p x y w exit {s} l told =
    let e : s ≡ sum_of (add o p x y) p w.depth w.first w.second = told (add o p x y) l.signed l.left.told in
    let k : s.depth ≡ w.depth = ap (λ (q : Sum). q.depth) e ∙ sum_depth (add o p x y) p w.depth w.first w.second in
    record {
      depth = rw k l.decides;
      bounded = rw k l.bounded;
      answer = e ∙ rw (l.first_used, l.second_used, k) refl;
      target = l.left.limbs;
    }

-- ---- copies of the operands

module _ {a b x y : Number} (xl yl : List ℕ) (i : a ≡ x) (j : b ≡ y) where
  pub copies_ready : (mode p n : ℕ) → (mode ≤ 3) × WellFormed (operand_of x xl) × WellFormed (operand_of y yl) × Room p n → (mode ≤ 3) × WellFormed (operand_of a xl) × WellFormed (operand_of b yl) × Room p n
  copies_ready mode p n h = rw (i, j) h

  pub copies_reported : (mode : Mode) (p : ℕ) (exit : List ℕ) (s : Sum) → Reported plus mode p (operand_of a xl) (operand_of b yl) exit s → Reported plus mode p (operand_of x xl) (operand_of y yl) exit s
  copies_reported mode p exit s h = rw (i, j) at h

  pub copies_summed : (mode p : ℕ) (entry exit : List ℕ) {r s : Sum} → r ≡ s → Summed plus mode a xl b yl p entry exit s → Summed plus mode x xl y yl p entry exit r
  copies_summed mode p entry exit e h = rw e (rw (i, j) at h)

module _ {a b x y : Number} (i : a ≡ x) (j : b ≡ y) (m k p n : ℕ) where
  pub copies_sized : SizesPass x.precision m y.precision k p n → SizesPass a.precision m b.precision k p n
  copies_sized h = rw (i, j) h

  pub copies_unsized : (SizesPass x.precision m y.precision k p n → ⊥) → SizesPass a.precision m b.precision k p n → ⊥
  copies_unsized h = rw (i, j) h

module _ {a x : Number} (xl : List ℕ) (i : a ≡ x) where
  pub copy_formed : WellFormed (operand_of x xl) → WellFormed (operand_of a xl)
  copy_formed h = rw i h

  pub copy_kind : {b : Bool} → (operand_of a xl).is_zero ≡ b → (operand_of x xl).is_zero ≡ b
  copy_kind h = rw i at h

  pub copy_doubled : (mode : Mode) (p : ℕ) (exit : List ℕ) (s : Sum) → Reported plus mode p (operand_of a xl) (operand_of a xl) exit s → Reported plus mode p (operand_of x xl) (operand_of x xl) exit s
  copy_doubled mode p exit s h = rw i at h

  pub copy_alone : (mode : Mode) (p : ℕ) (exit : List ℕ) (s : Sum) → ((z : Operand) → WellFormed z → z.is_zero ≡ true → Reported plus mode p (operand_of a xl) z exit s)
      → (z : Operand) → WellFormed z → z.is_zero ≡ true → Reported plus mode p (operand_of x xl) z exit s
  copy_alone mode p exit s h = rw i at h
