-- k columns fix the answer exactly when the least and the greatest sum have one sign and one answer; and else some pair is at hand that gets another.
-- Of the answer only this is used: it is monotone in the exact value, and what is not zero is not answered as zero is.
use mathlib.Core.Path.{◌≡◌, refl, sym, ap, ◌∙◌}
use mathlib.Core.Logic.{◌⊎◌, inl, inr}
use mathlib.Core.Bool.{Bool, true, false, not, Bool-discrete}
use native.Mathlib.Decide.{ℕ_discrete}
use Prim.Native.Nat.{ℕ, ◌+◌, ◌-◌, ◌≤◌, ◌<◌, max, compare, Ordering}
use native.Mathlib.Nat.{lt_of_lt_of_le, not-suc-le-zero, le_of_eq, add-le-add}
use native.Mathlib.Omega.{arith}
use Rattle.rounding.proofs.Units.{scale_first, scale_second}
use Rattle.rounding.proofs.Zeros.{amount_zero, share_as, share_other}
use Rattle.numbers.specs.Operand.{Operand, last_weight, WellFormed}
use Rattle.rounding.specs.Mode.{way}
use Rattle.rounding.specs.declared.Mode.{Mode}
use Rattle.rounding.specs.Answer.{Answer, zero_of, Answer-discrete, answer}
use Rattle.rounding.specs.Sum.{scale, share, amount, zero_sign, sum_at, add}
use Rattle.rounding.proofs.Order.{le_or_lt, Cmp, cmp}
use Rattle.rounding.proofs.Ends.{all_between, plus as positive, minus as negative, nought, regular}
use Rattle.depth.specs.Columns.{top_exponent, Like}
use Rattle.depth.specs.Depth.{plus, result, Fixed, Open}
use Rattle.depth.proofs.Place.{top_first, top_second}
use Rattle.depth.proofs.Reach.{end}
use Rattle.depth.proofs.Amounts.{like_self, like_end, amount_end, shares}
use Rattle.depth.proofs.Meet.{meet}

-- ---- what is asked of an answer: ans a b is that of the exact value a - b

pub record Monotone {A : Type 0} (ans : ℕ → ℕ → A) : Type 0 where
  -- two exact values of one sign with one answer: each between them, a - b, has it too
  pub between : (i j a b k l : ℕ) → i ≤ a → a ≤ k → l ≤ b → b ≤ j → compare i j ≡ compare k l → ans i j ≡ ans k l → ans a b ≡ ans i j
  pub nonzero : (i j a b : ℕ) → (i ≡ j → ⊥) → a ≡ b → ans i j ≡ ans a b → ⊥
  pub decidable : Discrete A

-- ---- the operands of a pair, and what may stand in their place

module _ (x y : Operand) (g : WellFormed x) (h : WellFormed y) (k : ℕ) (K : 1 ≤ k) where
  abbrev t : ℕ
  t = top_exponent x y

  abbrev s : ℕ
  s = scale x y

  pub like_first : (b : Bool) → Like t k x (end t k x b)
  like_first b = like_end t k x g (top_first x y) b

  pub like_second : (b : Bool) → Like t k y (end t k y b)
  like_second b = like_end t k y h (top_second x y) b

  -- the ends: the least and the greatest that each may be
  abbrev pub lx : Operand
  lx = end t k x x.negative

  abbrev pub ly : Operand
  ly = end t k y y.negative

  abbrev pub hx : Operand
  hx = end t k x (not x.negative)

  abbrev pub hy : Operand
  hy = end t k y (not y.negative)

  -- the exact sum of z and w is up - down
  abbrev pub up : Operand → Operand → ℕ
  up z w = share false s z + share false s w

  abbrev pub down : Operand → Operand → ℕ
  down z w = share true s z + share true s w

  -- every exact sum lies between those of the ends
  pub record Between (z w : Operand) : Type 0 where
    pub up_least : up lx ly ≤ up z w
    pub up_most : up z w ≤ up hx hy
    pub down_least : down hx hy ≤ down z w
    pub down_most : down z w ≤ down lx ly

  pub between : (z w : Operand) → Like t k x z → Like t k y w → Between z w
  between z w l m =
      let a = shares t k s x g (top_first x y) z l in
      let b = shares t k s y h (top_second x y) w m in
      record {
        up_least = add-le-add a.up_least b.up_least;
        up_most = add-le-add a.up_most b.up_most;
        down_least = add-le-add a.down_least b.down_least;
        down_most = add-le-add a.down_most b.down_most;
      }

  -- ---- where the sign changes between the ends, a pair with the sum zero

  -- two regular operands
  module _ (r : x.is_zero ≡ false) (q : y.is_zero ≡ false) where
    t_is : t ≡ max x.exponent y.exponent
    unfolding top_exponent
    t_is = rw (r, q)

    both_touch : amount s (end t k x false) < amount s (end t k y true) → amount s (end t k y false) < amount s (end t k x true) → amount s (end t k x false) ≡ amount s (end t k y false)
    both_touch u v =
        let a = top_first x y r in
        let b = top_second x y q in
        amount_end t k s x g a false r
        ∙ meet t k s x y g h r q a b (scale_first x y r) (scale_second x y q) top K
        (rw (← amount_end t k s x g a false r, ← amount_end t k s y h b true q) u) (rw (← amount_end t k s y h b false q, ← amount_end t k s x g a true r) v)
        ∙ sym (amount_end t k s y h b false q)
      where
        top : (t ≡ x.exponent) ⊎ (t ≡ y.exponent)
        top = elim (le_or_lt x.exponent y.exponent) [ inl l ↦ inr (t_is ∙ omega arith) | inr l ↦ inl (t_is ∙ omega arith) ]

  touch : amount s (end t k x false) < amount s (end t k y true) → amount s (end t k y false) < amount s (end t k x true) → amount s (end t k x false) ≡ amount s (end t k y false)
  touch u v = go x.is_zero y.is_zero refl refl
    where
      go : (b c : Bool) → x.is_zero ≡ b → y.is_zero ≡ c → amount s (end t k x false) ≡ amount s (end t k y false)
      go true c e f = absurd (not-suc-le-zero (lt_of_lt_of_le v (le_of_eq (amount_zero s (end t k x true) ((like_first true).is_zero ∙ e)))))
      go false true e f = absurd (not-suc-le-zero (lt_of_lt_of_le u (le_of_eq (amount_zero s (end t k y true) ((like_second true).is_zero ∙ f)))))
      go false false e f = both_touch e f u v

  pub record Cancelling : Type 0 where
    pub z : Operand
    pub w : Operand
    pub first : Like t k x z
    pub second : Like t k y w
    pub cancels : up z w ≡ down z w

  -- what the ends share, by x's sign b and y's sign d
  pub own_first : (b c : Bool) → x.negative ≡ b → share b s (end t k x c) ≡ amount s (end t k x c)
  own_first b c e = share_as b s (end t k x c) ((like_first c).negative ∙ e)

  pub own_second : (b c : Bool) → y.negative ≡ b → share b s (end t k y c) ≡ amount s (end t k y c)
  own_second b c e = share_as b s (end t k y c) ((like_second c).negative ∙ e)

  pub other_first : (b c : Bool) → x.negative ≡ not b → share b s (end t k x c) ≡ 0
  other_first b c e = share_other b s (end t k x c) ((like_first c).negative ∙ e)

  pub other_second : (b c : Bool) → y.negative ≡ not b → share b s (end t k y c) ≡ 0
  other_second b c e = share_other b s (end t k y c) ((like_second c).negative ∙ e)

  pub crosses : up lx ly < down lx ly → down hx hy < up hx hy → Cancelling
  crosses u v = go x.negative y.negative refl refl
    where
      least : up (end t k x false) (end t k y false) ≡ down (end t k x false) (end t k y false) → Cancelling
      least i = record { z = end t k x false; w = end t k y false; first = like_first false; second = like_second false; cancels = i }

      none_below : {a b c : ℕ} → a < b + c → b ≡ 0 → c ≡ 0 → ⊥
      none_below h e f = omega arith

      outer : {a b c d i l : ℕ} → a + b < c + d → b ≡ 0 → c ≡ 0 → a ≡ i → d ≡ l → i < l
      outer h e f i j = omega arith

      inner : {a b c d i l : ℕ} → a + b < c + d → a ≡ 0 → d ≡ 0 → b ≡ i → c ≡ l → i < l
      inner h e f i j = omega arith

      go : (b d : Bool) → x.negative ≡ b → y.negative ≡ d → Cancelling
      go false false e f = absurd (none_below u (other_first true x.negative e) (other_second true y.negative f))
      go true true e f = absurd (none_below v (other_first false (not x.negative) e) (other_second false (not y.negative) f))
      go false true e f =
          let a = outer u (other_second false y.negative f) (other_first true x.negative e) (own_first false x.negative e ∙ ap (λ (b : Bool). amount s (end t k x b)) e) (own_second true y.negative f ∙ ap (λ (b : Bool). amount s (end t k y b)) f) in
          let b = inner v (other_first true (not x.negative) e) (other_second false (not y.negative) f) (own_second true (not y.negative) f ∙ ap (λ (b : Bool). amount s (end t k y (not b))) f) (own_first false (not x.negative) e ∙ ap (λ (b : Bool). amount s (end t k x (not b))) e) in
          least (omega (arith, touch a b, own_first false false e, other_first true false e, own_second true false f, other_second false false f))
      go true false e f =
          let b = inner u (other_first false x.negative e) (other_second true y.negative f) (own_second false y.negative f ∙ ap (λ (b : Bool). amount s (end t k y b)) f) (own_first true x.negative e ∙ ap (λ (b : Bool). amount s (end t k x b)) e) in
          let a = outer v (other_second true (not y.negative) f) (other_first false (not x.negative) e) (own_first true (not x.negative) e ∙ ap (λ (b : Bool). amount s (end t k x (not b))) e) (own_second false (not y.negative) f ∙ ap (λ (b : Bool). amount s (end t k y (not b))) f) in
          least (omega (arith, touch a b, own_first true false e, other_first false false e, own_second false false f, other_second true false f))

  -- ---- the theorem, over any monotone answer

  module _ {A : Type 0} (ans : ℕ → ℕ → A) where
    abbrev pub of : Operand → Operand → A
    of z w = ans (up z w) (down z w)

    pub record Same : Type 0 where
      pub sign : compare (up lx ly) (down lx ly) ≡ compare (up hx hy) (down hx hy)
      pub answers : of lx ly ≡ of hx hy

    abbrev pub FixedBy : Type 0
    FixedBy = (z w : Operand) → Like t k x z → Like t k y w → of z w ≡ of x y

    abbrev pub OpenBy : Type 0
    OpenBy = (z : Operand) × (w : Operand) × Like t k x z × Like t k y w × (of z w ≡ of x y → ⊥)

    module _ (a : Monotone ans) where
      from_least : Same → (z w : Operand) → Like t k x z → Like t k y w → of z w ≡ of lx ly
      from_least e z w l m =
          let b = between z w l m in
          a.between (up lx ly) (down lx ly) (up z w) (down z w) (up hx hy) (down hx hy) b.up_least b.up_most b.down_least b.down_most e.sign e.answers

      pub same_fixes : Same → FixedBy
      same_fixes e z w l m = from_least e z w l m ∙ sym (from_least e x y (like_self t k x g) (like_self t k y h))

      -- ends with one answer have one sign, unless zero lies between them
      one_sign : (up lx ly < down lx ly → down hx hy < up hx hy → ⊥) → of lx ly ≡ of hx hy → compare (up lx ly) (down lx ly) ≡ compare (up hx hy) (down hx hy)
      one_sign n e = go (compare (up lx ly) (down lx ly)) (compare (up hx hy) (down hx hy)) (cmp (up lx ly) (down lx ly)) (cmp (up hx hy) (down hx hy)) (between x y (like_self t k x g) (like_self t k y h))
        where
          apart : {i j : ℕ} → i < j → i ≡ j → ⊥
          apart h e = omega arith

          crossed : {i j k l m n : ℕ} → j ≤ i → i ≤ m → m ≤ k → l ≤ n → n ≤ j → k < l → ⊥
          crossed a b c d e f = omega arith

          above : {i j k l m n : ℕ} → j < i → i ≤ m → m ≤ k → l ≤ n → n ≤ j → k ≡ l → ⊥
          above a b c d e f = omega arith

          go : (v w : Ordering) → Cmp v (up lx ly) (down lx ly) → Cmp w (up hx hy) (down hx hy) → Between x y → v ≡ w
          go Ordering.lt Ordering.lt u v b = refl
          go Ordering.lt Ordering.eq u v b = absurd (a.nonzero (up lx ly) (down lx ly) (up hx hy) (down hx hy) (apart u) v e)
          go Ordering.lt Ordering.gt u v b = absurd (n u v)
          go Ordering.eq Ordering.lt u v b = absurd (crossed (le_of_eq (sym u)) b.up_least b.up_most b.down_least b.down_most v)
          go Ordering.eq Ordering.eq u v b = refl
          go Ordering.eq Ordering.gt u v b = absurd (a.nonzero (up hx hy) (down hx hy) (up lx ly) (down lx ly) (λ d. apart v (sym d)) u (sym e))
          go Ordering.gt Ordering.lt u v b = absurd (crossed (lt_le u) b.up_least b.up_most b.down_least b.down_most v)
            where
              lt_le : {i j : ℕ} → j < i → j ≤ i
              lt_le h = omega arith
          go Ordering.gt Ordering.eq u v b = absurd (above u b.up_least b.up_most b.down_least b.down_most v)
          go Ordering.gt Ordering.gt u v b = refl

      -- zero is answered as no other value is
      changed : up lx ly < down lx ly → down hx hy < up hx hy → of lx ly ≡ of x y → OpenBy
      changed u v e =
          let n = crosses u v in
          (n.z, n.w, n.first, n.second, λ f. a.nonzero (up lx ly) (down lx ly) (up n.z n.w) (down n.z n.w) (apart u) n.cancels (e ∙ sym f))
        where
          apart : {i j : ℕ} → i < j → i ≡ j → ⊥
          apart h e = omega arith

      pub same_or_open : Same ⊎ OpenBy
      same_or_open = go (a.decidable (of lx ly) (of x y)) (a.decidable (of hx hy) (of x y))
        where
          clash : {a b : ℕ} → a ≤ b → b < a → ⊥
          clash h k = omega arith

          go : Dec (of lx ly ≡ of x y) → Dec (of hx hy ≡ of x y) → Same ⊎ OpenBy
          go (no n) b = inr (lx, ly, like_first x.negative, like_second y.negative, n)
          go (yes e) (no n) = inr (hx, hy, like_first (not x.negative), like_second (not y.negative), n)
          go (yes e) (yes f) = elim (le_or_lt (down lx ly) (up lx ly)) [
            | inl a ↦ inl (record { sign = one_sign (λ u v. clash a u) (e ∙ sym f); answers = e ∙ sym f })
            | inr u ↦ elim (le_or_lt (up hx hy) (down hx hy)) [
              | inl b ↦ inl (record { sign = one_sign (λ u v. clash b v) (e ∙ sym f); answers = e ∙ sym f })
              | inr v ↦ inr (changed u v e)
            ]
          ]

-- ---- the answer of demand 2 is such an answer

apart : {a b : Ordering} → (a ≡ b → ◌≡◌ {A = ℕ} 0 1) → Dec (a ≡ b)
apart f = no (λ e. zero_ne (f e))
  where
    zero_ne : ◌≡◌ {A = ℕ} 0 1 → ⊥
    zero_ne e = omega arith

ordering : Discrete Ordering
ordering Ordering.lt Ordering.lt = yes refl
ordering Ordering.lt Ordering.eq = apart (λ e. cc)
ordering Ordering.lt Ordering.gt = apart (λ e. cc)
ordering Ordering.eq Ordering.lt = apart (λ e. cc)
ordering Ordering.eq Ordering.eq = yes refl
ordering Ordering.eq Ordering.gt = apart (λ e. cc)
ordering Ordering.gt Ordering.lt = apart (λ e. cc)
ordering Ordering.gt Ordering.eq = apart (λ e. cc)
ordering Ordering.gt Ordering.gt = yes refl

pub answer_monotone : (z : Bool) (o : Mode) (p s : ℕ) → 0 < p → Monotone (answer z o p s)
answer_monotone z o p s P = record {
  between = all_between z o p s P;
  nonzero = λ i j a b n e f. differs i j (f ∙ nought z o p s P a b e) n (compare i j) (cmp i j);
  decidable = Answer-discrete Bool-discrete ℕ_discrete ordering;
}
  where
    differs : (i j : ℕ) → answer z o p s i j ≡ zero_of z → (i ≡ j → ⊥) → (v : Ordering) → Cmp v i j → ⊥
    differs i j e n Ordering.lt u = regular (way o true) p s true z (j - i) (sym (negative z o p s P i j u) ∙ e)
    differs i j e n Ordering.eq u = n u
    differs i j e n Ordering.gt u = regular (way o false) p s false z (i - j) (sym (positive z o p s P i j u) ∙ e)

scale_like : (t k : ℕ) (x y z w : Operand) → Like t k x z → Like t k y w → scale z w ≡ scale x y
unfolding scale last_weight
scale_like t k x y z w l m =
    let a = l.is_zero in let b = l.exponent in let c = l.precision in
    let d = m.is_zero in let e = m.exponent in let f = m.precision in
    cc

module _ (o : Mode) (p : ℕ) (x y : Operand) where
  -- the answer of the exact value, with the zero's sign that the pair has
  abbrev pub at : ℕ → ℕ → Answer
  at = answer (zero_sign o x.negative y.negative) o p (scale x y)

  -- each pair that agrees in k columns has the scale of x and y
  pub sum_is : (k : ℕ) (z w : Operand) → Like (top_exponent x y) k x z → Like (top_exponent x y) k y w → add o p z w ≡ sum_at o p (scale x y) z w
  unfolding add
  sum_is k z w l m = ap (λ (s : ℕ). sum_at o p s z w) (scale_like (top_exponent x y) k x y z w l m)

  pub add_is : (k : ℕ) (z w : Operand) → Like (top_exponent x y) k x z → Like (top_exponent x y) k y w
      → add o p z w ≡ at (share false (scale x y) z + share false (scale x y) w) (share true (scale x y) z + share true (scale x y) w)
  unfolding sum_at
  add_is k z w l m =
      let a = l.negative in let b = m.negative in let c = sum_is k z w l m in
      cc

  module _ (P : 0 < p) (g : WellFormed x) (h : WellFormed y) (k : ℕ) (K : 1 ≤ k) where
    abbrev pub Alike : Type 0
    Alike = Same x y g h k K at

    monotone : Monotone at
    monotone = answer_monotone (zero_sign o x.negative y.negative) o p (scale x y) P

    itself : add o p x y ≡ of x y g h k K at x y
    itself = add_is k x y (like_self (top_exponent x y) k x g) (like_self (top_exponent x y) k y h)

    pub fixed_if : Alike → Fixed plus o p x y k
    unfolding Fixed result
    fixed_if e z w l m = add_is k z w l m ∙ same_fixes x y g h k K at monotone e z w l m ∙ sym itself

    pub fixed_or : Alike ⊎ Open plus o p x y k
    unfolding Open result
    fixed_or = elim (same_or_open x y g h k K at monotone) [
      | inl e ↦ inl e
      | inr u ↦ inr (u.0, u.1, u.2, u.3, λ e. u.4 (sym (add_is k u.0 u.1 u.2 u.3) ∙ e ∙ itself))
    ]
