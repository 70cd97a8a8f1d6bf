-- A look at two operands: they are in order by their exponents, and what is told of them in order is told of them in their own. Assumes nothing.
use mathlib.Core.Path.{◌≡◌, refl, sym, ap, ◌∙◌, subst}
use mathlib.Core.Logic.{inl, inr}
use mathlib.Core.Bool.{Bool, true, false, not, cond, ◌&&◌, ◌||◌, beq, true≢false}
use mathlib.Core.List.{List, [], ◌∷◌}
use Prim.Native.Nat.{ℕ, ◌+◌, ◌-◌, ◌*◌, ◌/◌, ◌≤◌, ◌<◌, min}
use native.Mathlib.Nat.{le_of_lt}
use native.Mathlib.Omega.{arith}
use borrow.Author.Tests.{lt-ltb, le-ltb, le-leb, lt-leb, ne_eqb, ltb-true, ltb-false}
use lib.Dec.{ltb, leb, eqb}
use mir.Val.{bool_byte}
use Rattle.depth.proofs.Exchange.{top_exchange, deciding_exchange}
use Rattle.numbers.specs.Limits.{counted, least_precision, limbs_for}
use Rattle.numbers.specs.Operand.{Operand, WellFormed}
use Rattle.numbers.proofs.Limits.{two_digits}
use Rattle.rounding.specs.declared.Mode.{Mode}
use Rattle.rounding.specs.Answer.{Answer}
use Rattle.rounding.specs.Sum.{add}
use Rattle.rounding.proofs.Order.{le_or_lt}
use Rattle.rounding.proofs.Zeros.{add_commutes}
use Rattle.depth.specs.Columns.{top_exponent, limbs_used}
use Rattle.depth.specs.Depth.{plus, Depth}
use Rattle.decide.specs.Decide.{decide_at}
use Rattle.decide.proofs.Decision.{depth_decided}
use Rattle.checks.specs.declared.Number.{Number}
use Rattle.checks.specs.Number.{operand_of}
use Rattle.place.specs.declared.Placed.{Placed}
use Rattle.settle.specs.declared.rows.Pair.{Pair}
use Rattle.bridge.specs.Verdict.{Ordered}
use Rattle.bridge.proofs.Told.{top_is, pair_gap}
use Rattle.descent.specs.Finishing.{Left}
use Rattle.reports.specs.Signed.{Signed}
use Rattle.descent.proofs.Handed.{ordered_pair, beq_turned, limbs_some}
use Rattle.narrow.specs.declared.seeing.Seen.{Seen}
use Rattle.narrow.specs.Sighting.{top_limb, Held, Facing, Told}
use Rattle.narrow.specs.Looked.{Looked}
use Rattle.narrow.proofs.Tops.{top_led}

-- the test of which is larger is by exponents first
by_exponents : (a b u v : ℕ) → ((ltb a b || (eqb a b && ltb u v)) ≡ true → a ≤ b) × ((ltb a b || (eqb a b && ltb u v)) ≡ false → b ≤ a)
by_exponents a b u v = elim (le_or_lt b a) [ inl h ↦ ((λ e. equal h e), (λ e. h)) | inr h ↦ ((λ e. omega arith), (λ e. absurd (true≢false (sym (ap (λ (t : Bool). t || (eqb a b && ltb u v)) (lt-ltb a b h)) ∙ e)))) ]
  where
    equal : b ≤ a → (ltb a b || (eqb a b && ltb u v)) ≡ true → a ≤ b
    equal h e = elim (le_or_lt a b) [ inl k ↦ k | inr k ↦ absurd (true≢false (sym e ∙ rw (le-ltb a b h, ne_eqb a b (λ i. omega arith)) refl)) ]

pub order_told_lem : {s : Bool} {a b c d : ℕ} (u v : ℕ) → s ≡ (ltb a b || (eqb a b && ltb u v)) → a ≡ c → b ≡ d → (s ≡ true → c ≤ d) × (s ≡ false → d ≤ c)
order_told_lem {s} {a} {b} {c} {d} u v e f g = rw (e, ← f, ← g) (by_exponents a b u v)

-- so is that of exponents alone
pub exponents_told : (a b : ℕ) → (ltb a b ≡ true → a ≤ b) × (ltb a b ≡ false → b ≤ a)
exponents_told a b = ((λ e. le_of_lt (ltb-true a b e)), (λ e. ltb-false a b e))

-- ---- the sign of the larger of two operands whose signs are known to be like, or unlike

pub like_told : (a b : Bool) → a ≡ b → true ≡ beq a b
like_told true b e = rw (← e) refl
like_told false b e = rw (← e) refl

pub like_larger : (swapped : Bool) (x y : Operand) → x.negative ≡ y.negative → x.negative ≡ (cond swapped y x).negative
like_larger true x y e = e
like_larger false x y e = refl

pub unlike_told : (a b : Bool) → (a ≡ b → ⊥) → false ≡ beq a b
unlike_told true true h = absurd (h refl)
unlike_told true false h = refl
unlike_told false true h = refl
unlike_told false false h = absurd (h refl)

pub unlike_larger : (swapped : Bool) (x y : Operand) → (x.negative ≡ y.negative → ⊥) → not (beq x.negative swapped) ≡ (cond swapped y x).negative
unlike_larger swapped x y h = go swapped x.negative y.negative h ∙ picked swapped
  where
    go : (w a b : Bool) → (a ≡ b → ⊥) → not (beq a w) ≡ cond w b a
    go true true true h = absurd (h refl)
    go true true false h = refl
    go true false true h = refl
    go true false false h = absurd (h refl)
    go false true b h = refl
    go false false b h = refl

    picked : (w : Bool) → cond w y.negative x.negative ≡ (cond w y x).negative
    picked true = refl
    picked false = refl

-- ---- the limbs used of two operands in order, at a depth of one column

-- a column has one limb of an operand that begins in it
one_limb : (L d : ℕ) → 0 < L → cond (ltb d 64) 1 0 ≡ cond (leb (64 * 1) d) 0 (min L ((64 * 1 - d + 63) / 64))
one_limb L d s = elim (le_or_lt 64 d) [ inl h ↦ rw (le-ltb d 64 h, le-leb (64 * 1) d (omega arith)) refl | inr h ↦ rw (lt-ltb d 64 h, lt-leb (64 * 1) d (omega arith)) (least h) ]
  where
    least : d < 64 → 1 ≡ min L ((64 * 1 - d + 63) / 64)
    least h = omega arith

used_at : (z : Operand) (t d : ℕ) → WellFormed z → z.is_zero ≡ false → d ≡ t - z.exponent → cond (ltb d 64) 1 0 ≡ limbs_used t 1 z
unfolding limbs_used
used_at z t d g r e = rw (r, ← e) (one_limb (limbs_for z.precision) d (rw g.count at (limbs_some z g)))

-- ---- the depth, and the top that the limbs are counted from

module _ (o : Mode) (p : ℕ) (positive : 0 < p) (x y : Operand) (d : Ordered x y) where
  pub depth_one : decide_at o p x y 1 ≡ true → Depth plus o p x y 1
  depth_one fixed = record {
    zeros = λ h. absurd (true≢false (sym h ∙ rw d.regular refl));
    deciding = λ h. depth_decided o p positive x y d.first d.second 1 (omega arith) fixed (λ h. absurd (omega arith));
  }

  pub top_one : top_exponent x y ≡ x.exponent
  top_one = top_is o p positive x y 1 d (omega arith)

  pub first_used : 1 ≡ limbs_used (top_exponent x y) 1 x
  first_used = used_at x (top_exponent x y) 0 d.first d.regular (rw top_one (apart x.exponent))
    where
      apart : (n : ℕ) → 0 ≡ n - n
      apart n = omega arith

-- a flag as a number
flag_told : (b : Bool) → bool_byte b ≡ cond b 1 0
flag_told true = refl
flag_told false = refl

-- ---- what is told of two operands in order

module _ (o : Mode) (p : ℕ) (positive : 0 < p) (s : Seen) where
  pub ordered_looked : (x y : Operand) (pair : Pair) (u v : ℕ) → Held x y pair u v → Told o p x y s.negative s.limb s.placed → Looked o p x y (record { seen = s; first = 1; second = bool_byte (ltb pair.gap 64) })
  ordered_looked x y pair u v h t =
      let gap : pair.gap ≡ x.exponent - y.exponent = ap (λ (q : Pair). q.gap) h.pair_is ∙ pair_gap x y h.regular in
      record {
        depth = depth_one o p positive x y h.ordered t.fixed;
        left = t.left;
        signed = t.signed;
        first = first_used o p positive x y h.ordered;
        second = flag_told (ltb pair.gap 64) ∙ used_at y (top_exponent x y) pair.gap h.ordered.second h.regular (rw (top_one o p positive x y h.ordered) gap);
      }

  -- the other way round
  pub looked_turned : (x y : Operand) → x.is_zero ≡ false → y.is_zero ≡ false → (i j : ℕ) → Looked o p y x (record { seen = s; first = i; second = j }) → Looked o p x y (record { seen = s; first = j; second = i })
  looked_turned x y r e i j l =
      let some : (x.is_zero && y.is_zero) ≡ false = rw r refl in
      let others : (y.is_zero && x.is_zero) ≡ false = rw e refl in
      let same : add o p y x ≡ add o p x y = add_commutes o p y x positive in
      let top : top_exponent y x ≡ top_exponent x y = sym (top_exchange x y some) in
      record {
        depth = record { zeros = λ h. absurd (true≢false (sym h ∙ some)); deciding = λ h. deciding_exchange o p positive x y some 1 (l.depth.deciding others) };
        left = subst (λ (a : Answer). Left p a (s.limb ∷ []) s.placed) same l.left;
        signed = subst (λ (a : Answer). Signed s.negative a) same l.signed;
        first = l.second ∙ ap (λ (t : ℕ). limbs_used t 1 x) top;
        second = l.first ∙ ap (λ (t : ℕ). limbs_used t 1 y) top;
      }

  -- it is told of them in their own order
  pub looked : (swapped : Bool) (x y : Operand) (pair : Pair) (u v : ℕ) {i j : ℕ} → i ≡ cond swapped (bool_byte (ltb pair.gap 64)) 1 → j ≡ cond swapped 1 (bool_byte (ltb pair.gap 64))
      → Held (cond swapped y x) (cond swapped x y) pair u v → Told o p (cond swapped y x) (cond swapped x y) s.negative s.limb s.placed → Looked o p x y (record { seen = s; first = i; second = j })
  looked true x y pair u v e f h t = rw (e, f) (looked_turned x y h.regular h.ordered.regular 1 (bool_byte (ltb pair.gap 64)) (ordered_looked y x pair u v h t))
  looked false x y pair u v e f h t = rw (e, f) (ordered_looked x y pair u v h t)

-- the sign may be told by another name
pub looked_named : (o : Mode) (p : ℕ) (x y : Operand) (limb : ℕ) (placed : Placed) (m n : Bool) (i j : ℕ) → m ≡ n
    → Looked o p x y (record { seen = record { negative = m; limb = limb; placed = placed }; first = i; second = j })
    → Looked o p x y (record { seen = record { negative = n; limb = limb; placed = placed }; first = i; second = j })
looked_named o p x y limb placed m n i j e l = subst (λ (b : Bool). Looked o p x y (record { seen = record { negative = b; limb = limb; placed = placed }; first = i; second = j })) e l

-- ---- as the code finds it

module _ (p : ℕ) (least : least_precision ≤ p) (most : p ≤ 62) (x : Number) (xl : List ℕ) (y : Number) (yl : List ℕ)
    (gx : WellFormed (operand_of x xl)) (rx : (operand_of x xl).is_zero ≡ false) (gy : WellFormed (operand_of y yl)) (ry : (operand_of y yl).is_zero ≡ false)
    (swapped : Bool) (later : swapped ≡ true → counted x.exponent ≤ counted y.exponent) (earlier : swapped ≡ false → counted y.exponent ≤ counted x.exponent)
    (a b t l : ℕ) (ae : a ≡ counted x.exponent) (be : b ≡ counted y.exponent) (te : t ≡ cond swapped b a) (le : l ≡ cond swapped a b) where
  pub gap_some : l ≤ t
  gap_some = go swapped refl
    where
      go : (w : Bool) → swapped ≡ w → l ≤ t
      go true f = rw (te, le, f, ae, be) (later f)
      go false f = rw (te, le, f, ae, be) (earlier f)

  module _ (u v : ℕ) (ue : u ≡ top_limb xl) (ve : v ≡ top_limb yl) (same : Bool) (m n high deep : ℕ) (same_is : same ≡ beq x.negative y.negative) (me : m ≡ cond swapped y.precision x.precision) (ne : n ≡ cond swapped x.precision y.precision) (high_is : high ≡ cond swapped v u) (deep_is : deep ≡ cond swapped u v) where
    abbrev pub pair : Pair
    pair = record { same = same; first = m; second = n; gap = t - l; top = t }

    pub facing : Facing p pair high
    unfolding operand_of
    facing = go swapped refl
      where
        less : (i j : ℕ) → i - j ≤ i
        less i j = omega arith

        some : {i : ℕ} → least_precision ≤ i → 0 < i
        some h = omega (arith, two_digits)

        go : (w : Bool) → swapped ≡ w → Facing p pair high
        go true f = record {
          least = least;
          most = most;
          led = rw (high_is, f, ve) (top_led (operand_of y yl) gy ry);
          second_some = rw (ne, f) (some gx.least);
          second_few = rw (ne, f) gx.most;
          gap = less t l;
          low = rw (te, f, be) (gy.regular ry).least;
          high = rw (te, f, be) (gy.regular ry).most;
        }
        go false f = record {
          least = least;
          most = most;
          led = rw (high_is, f, ue) (top_led (operand_of x xl) gx rx);
          second_some = rw (ne, f) (some gy.least);
          second_few = rw (ne, f) gy.most;
          gap = less t l;
          low = rw (te, f, ae) (gx.regular rx).least;
          high = rw (te, f, ae) (gx.regular rx).most;
        }

    pub held : Held (cond swapped (operand_of y yl) (operand_of x xl)) (cond swapped (operand_of x xl) (operand_of y yl)) pair high deep
    unfolding operand_of
    held = go swapped refl
      where
        go : (w : Bool) → swapped ≡ w → Held (cond swapped (operand_of y yl) (operand_of x xl)) (cond swapped (operand_of x xl) (operand_of y yl)) pair high deep
        go true f = rw f (record {
          ordered = record { first = gy; second = gx; regular = ry; order = λ e. later f };
          regular = rx;
          pair_is = rw (same_is, me, ne, te, le, f, beq_turned x.negative y.negative) (ordered_pair y yl x xl b a rx be ae);
          first_top = rw (high_is, f) ve;
          second_top = rw (deep_is, f) ue;
        })
        go false f = rw f (record {
          ordered = record { first = gx; second = gy; regular = rx; order = λ e. earlier f };
          regular = ry;
          pair_is = rw (same_is, me, ne, te, le, f) (ordered_pair x xl y yl a b ry ae be);
          first_top = rw (high_is, f) ue;
          second_top = rw (deep_is, f) ve;
        })
