-- The decision on what is read of the operands holds exactly when k columns fix the answer.
use mathlib.Core.Path.{◌≡◌, refl, sym, ap, ◌∙◌, subst}
use mathlib.Core.Logic.{◌⊎◌, inl, inr}
use mathlib.Core.Bool.{Bool, true, false, not, cond, ◌&&◌, ◌||◌, true≢false}
use Prim.Native.Nat.{ℕ, ◌+◌, ◌-◌, ◌*◌, ◌/◌, ◌^◌, ◌≤◌, ◌<◌}
use native.Mathlib.Nat.{add_comm, zero-mul}
use native.Mathlib.Omega.{arith}
use borrow.Author.Tests.{ltb-true, ltb-false, lt-ltb, le-ltb}
use lib.Dec.{ltb}
use Rattle.rounding.proofs.Units.{scale_first, scale_second}
use Rattle.depth.proofs.Exchange.{top_exchange, first_some}
use Rattle.numbers.specs.Operand.{Operand, mantissa, last_weight, WellFormed}
use Rattle.rounding.specs.declared.Mode.{Mode}
use Rattle.rounding.specs.Answer.{Answer}
use Rattle.rounding.specs.Sum.{scale, share, amount, zero_sign, add}
use Rattle.depth.specs.Columns.{top_exponent, Like}
use Rattle.depth.specs.Read.{unread}
use Rattle.depth.specs.Depth.{plus, result, Fixed, Open, Deciding}
use Rattle.depth.proofs.Columns.{read_of}
use Rattle.depth.proofs.Place.{top_first, top_second, other_top}
use Rattle.depth.proofs.Reach.{end}
use Rattle.depth.proofs.Amounts.{low_like}
use Rattle.depth.proofs.EndsDecide.{lx, ly, up, down, like_first, like_second, at, add_is, Alike, own_first, own_second, other_first, other_second, fixed_if, fixed_or}
use Rattle.depth.proofs.Least.{not_both}
use Rattle.depth.proofs.AllRead.{read_fixed}
use Rattle.decide.specs.Table.{same_signs, unlike_pair, seen_pair}
use Rattle.decide.specs.Decide.{reaches?, read_digits, read_part, left_over, beyond, decide_at}
use Rattle.decide.specs.Answer.{seen_answer, beyond_answer, answer_at}
use Rattle.decide.proofs.Rows.{Seen, Held}
use Rattle.decide.proofs.Pair.{Decides, Judges, Ends, Pair, least_end, seen_pair_lem}
use Rattle.decide.proofs.ReadPart.{seen_is, seen_held, seen_pos, nil_seen, nil_held}
use Rattle.decide.proofs.Beyond.{digits_are, read_is, beyond_judges}

pub reached : (t k : ℕ) (z : Operand) → t - z.exponent < 64 * k → reaches? t k z ≡ true
unfolding reaches?
reached t k z h = go z.is_zero
  where
    go : (b : Bool) → (b || ltb (t - z.exponent) (64 * k)) ≡ true
    go true = refl
    go false = lt-ltb (t - z.exponent) (64 * k) h

pub not_reaching : (t k : ℕ) (z : Operand) → z.is_zero ≡ false → 64 * k ≤ t - z.exponent → reaches? t k z ≡ false
unfolding reaches?
not_reaching t k z r h = rw (r, le-ltb (t - z.exponent) (64 * k) h)

reach_cases : (t k : ℕ) (z : Operand) → reaches? t k z ≡ true → (z.is_zero ≡ true) ⊎ ((z.is_zero ≡ false) × (t - z.exponent < 64 * k))
unfolding reaches?
reach_cases t k z e = go z.is_zero refl
  where
    go : (b : Bool) → z.is_zero ≡ b → (z.is_zero ≡ true) ⊎ ((z.is_zero ≡ false) × (t - z.exponent < 64 * k))
    go true f = inl f
    go false f = inr (f, ltb-true (t - z.exponent) (64 * k) (rw f at e))

pub not_reached : (t k : ℕ) (z : Operand) → reaches? t k z ≡ false → (z.is_zero ≡ false) × (64 * k ≤ t - z.exponent)
unfolding reaches?
not_reached t k z e = go z.is_zero refl
  where
    go : (b : Bool) → z.is_zero ≡ b → (z.is_zero ≡ false) × (64 * k ≤ t - z.exponent)
    go true f = absurd (let g : (true || ltb (t - z.exponent) (64 * k)) ≡ false = rw f at e in let z : ◌≡◌ {A = ℕ} 0 1 = cc in omega arith)
    go false f = (f, ltb-false (t - z.exponent) (64 * k) (rw f at e))

digits_nil : (t k : ℕ) (z : Operand) → z.is_zero ≡ true → read_digits t k z ≡ 0
unfolding read_digits
digits_nil t k z e = rw e

pub read_nil : (t k s : ℕ) (z : Operand) → z.is_zero ≡ true → read_part t k s z ≡ 0
unfolding read_part
read_nil t k s z e = ap (λ (n : ℕ). n * 2 ^ (unread t k z + (last_weight z - s) - (t - 64 * k - s))) (digits_nil t k z e) ∙ zero-mul _

left_nil : (t k : ℕ) (z : Operand) → z.is_zero ≡ true → left_over t k z ≡ 0
unfolding left_over
left_nil t k z e = rw e

pub left_is : (t k : ℕ) (z : Operand) → z.is_zero ≡ false → left_over t k z ≡ unread t k z
unfolding left_over
left_is t k z e = rw e

pub record ReadIn (t k s : ℕ) (z : Operand) : Type 0 where
  pub seen : Seen (t - 64 * k - s) (read_part t k s z) (left_over t k z) (amount s (end t k z false)) (amount s (end t k z true))
  pub held : Held s (t - 64 * k - s) (read_part t k s z)
  pub pos : z.is_zero ≡ false → 0 < read_part t k s z

pub read_in : (t k s : ℕ) (z : Operand) → WellFormed z → (z.is_zero ≡ false → z.exponent ≤ t) → (z.is_zero ≡ false → s ≤ last_weight z) → reaches? t k z ≡ true → ReadIn t k s z
read_in t k s z g top sc e = go (reach_cases t k z e)
  where
    by : {n u : ℕ} → read_part t k s z ≡ n → left_over t k z ≡ u → Seen (t - 64 * k - s) n u (amount s (end t k z false)) (amount s (end t k z true)) → Held s (t - 64 * k - s) n → (z.is_zero ≡ false → 0 < n) → ReadIn t k s z
    by {n} {u} a b c d f = record {
      seen = subst (λ (m : ℕ). Seen (t - 64 * k - s) m (left_over t k z) (amount s (end t k z false)) (amount s (end t k z true))) (sym a) (subst (λ (m : ℕ). Seen (t - 64 * k - s) n m (amount s (end t k z false)) (amount s (end t k z true))) (sym b) c);
      held = subst (Held s (t - 64 * k - s)) (sym a) d;
      pos = λ h. subst (λ (m : ℕ). 0 < m) (sym a) (f h);
    }

    go : (z.is_zero ≡ true) ⊎ ((z.is_zero ≡ false) × (t - z.exponent < 64 * k)) → ReadIn t k s z
    go (inl f) = by (read_nil t k s z f) (left_nil t k z f) (nil_seen t k s z g f (t - 64 * k - s)) (nil_held s (t - 64 * k - s)) (λ h. absurd (let z : ◌≡◌ {A = ℕ} 0 1 = cc in omega arith))
    go (inr f) =
        let r = f.0 in
        by (read_is t k s z r) (left_is t k z r) (seen_is t k s z g r (top r) (sc r) f.1) (seen_held t k s z g r (top r) (sc r) f.1) (λ h. seen_pos t k s z g r (top r) (sc r) f.1)

-- ---- two zeros, of which there is nothing to read

no_digits : (o : Mode) (p e : ℕ) (a b : Bool) → seen_pair o p e a b 0 0 0 0 ≡ true
unfolding seen_pair same_signs unlike_pair
no_digits o p e true true = refl
no_digits o p e false false = refl
no_digits o p e true false = refl
no_digits o p e false true = refl

reaches_nil : (t k : ℕ) (z : Operand) → z.is_zero ≡ true → reaches? t k z ≡ true
unfolding reaches?
reaches_nil t k z e = rw e

two_zeros : (o : Mode) (p : ℕ) (x y : Operand) (k : ℕ) → x.is_zero ≡ true → y.is_zero ≡ true → decide_at o p x y k ≡ true
unfolding decide_at
two_zeros o p x y k e f =
    let t = top_exponent x y in
    let s = scale x y in
    let a = read_nil t k s x e in let b = left_nil t k x e in
    let c = read_nil t k s y f in let d = left_nil t k y f in
    let n = no_digits o p (t - 64 * k - s + s) x.negative y.negative in
    let i = reaches_nil t k x e in let j = reaches_nil t k y f in
    cc

-- ---- the ends of the pair, by amounts

swap : (neg : Bool) (o : Mode) (p s : ℕ) (P : 0 < p) (c : Bool) (v : Answer) (a b : Bool) (xl xh yl yh : ℕ) → Judges c (Pair neg o p s P b a yl yh xl xh) (least_end neg o p s P b a yl yh xl xh) v → Judges c (Pair neg o p s P a b xl xh yl yh) (least_end neg o p s P a b xl xh yl yh) v
swap neg o p s P c v false false xl xh yl yh d = rw (add_comm xl yl, add_comm xh yh) d
swap neg o p s P c v true true xl xh yl yh d = rw (add_comm xl yl, add_comm xh yh) d
swap neg o p s P c v false true xl xh yl yh d = d
swap neg o p s P c v true false xl xh yl yh d = d

module _ (o : Mode) (p : ℕ) (P : 0 < p) (x y : Operand) (g : WellFormed x) (h : WellFormed y) (k : ℕ) (K : 1 ≤ k) where
  abbrev t : ℕ
  t = top_exponent x y

  abbrev s : ℕ
  s = scale x y

  -- a zero's sign
  abbrev neg : Bool
  neg = zero_sign o x.negative y.negative

  abbrev xl : ℕ
  xl = amount s (end t k x false)

  abbrev xh : ℕ
  xh = amount s (end t k x true)

  abbrev yl : ℕ
  yl = amount s (end t k y false)

  abbrev yh : ℕ
  yh = amount s (end t k y true)

  abbrev EndsSame : Type 0
  EndsSame = Alike o p x y P g h k K

  abbrev AmountsSame : Type 0
  AmountsSame = Pair neg o p s P x.negative y.negative xl xh yl yh

  abbrev pub least_answer : Answer
  least_answer = least_end neg o p s P x.negative y.negative xl xh yl yh

  -- both reach into what is read
  one_regular : (x.is_zero && y.is_zero) ≡ false → (a b : Bool) → x.is_zero ≡ a → y.is_zero ≡ b → (x.is_zero ≡ false) ⊎ (y.is_zero ≡ false)
  one_regular some false b e f = inl e
  one_regular some true false e f = inr f
  one_regular some true true e f = absurd (let z : ◌≡◌ {A = ℕ} 0 1 = cc in omega arith)

  both : (x.is_zero && y.is_zero) ≡ false → reaches? t k x ≡ true → reaches? t k y ≡ true → Judges (seen_pair o p (t - 64 * k - s + s) x.negative y.negative (read_part t k s x) (left_over t k x) (read_part t k s y) (left_over t k y)) AmountsSame least_answer (seen_answer neg o p (t - 64 * k - s + s) x.negative y.negative (read_part t k s x) (left_over t k x) (read_part t k s y) (left_over t k y))
  both some e f =
      let a = read_in t k s x g (top_first x y) (scale_first x y) e in
      let b = read_in t k s y h (top_second x y) (scale_second x y) f in
      seen_pair_lem neg o p s P x.negative y.negative (t - 64 * k - s) (read_part t k s x) (left_over t k x) xl xh (read_part t k s y) (left_over t k y) yl yh a.seen b.seen a.held b.held
      (elim (one_regular some x.is_zero y.is_zero refl refl) [ inl r ↦ left (read_part t k s x) (read_part t k s y) (a.pos r) | inr q ↦ right (read_part t k s x) (read_part t k s y) (b.pos q) ])
    where
      left : (m n : ℕ) → 0 < m → 0 < m + n
      left m n h = omega arith

      right : (m n : ℕ) → 0 < n → 0 < m + n
      right m n h = omega arith

  x_reaches : reaches? t k y ≡ false → Judges (beyond o p x y k t s) AmountsSame least_answer (beyond_answer o p x y k t s)
  x_reaches f =
      let u = not_reached t k y f in
      let v = other_top x y k K u.0 u.1 in
      beyond_judges neg o p P x y g h v.0 u.0 k t s K v.1 (scale_first x y v.0) (scale_second x y u.0) u.1

  y_reaches : reaches? t k x ≡ false → Judges (beyond o p y x k t s) AmountsSame least_answer (beyond_answer o p y x k t s)
  y_reaches f =
      let u = not_reached t k x f in
      let e = top_exchange x y (first_some x y u.0) in
      let v = other_top y x k K u.0 (rw e at u.1) in
      swap neg o p s P (beyond o p y x k t s) (beyond_answer o p y x k t s) x.negative y.negative xl xh yl yh (beyond_judges neg o p P y x h g v.0 u.0 k t s K (e ∙ v.1) (scale_second x y v.0) (scale_first x y u.0) u.1)

  amounts_decided : (x.is_zero && y.is_zero) ≡ false → Judges (decide_at o p x y k) AmountsSame least_answer (answer_at o p x y k)
  unfolding decide_at answer_at
  amounts_decided some = arm (reaches? t k x) (λ e. arm (reaches? t k y) (both some e) x_reaches) y_reaches
    where
      arm : (b : Bool) {c d : Bool} {B : Type 0} {i u v : Answer} → (b ≡ true → Judges c B i u) → (b ≡ false → Judges d B i v) → Judges (cond b c d) B i (cond b u v)
      arm true m n = m refl
      arm false m n = n refl

  -- what each end of an operand adds to the numbers above zero (false) or below it (true)
  x_own : (b c d : Bool) → x.negative ≡ b → c ≡ d → share b s (end t k x c) ≡ amount s (end t k x d)
  x_own b c d e f = own_first x y g h k K b c e ∙ ap (λ (v : Bool). amount s (end t k x v)) f

  y_own : (b c d : Bool) → y.negative ≡ b → c ≡ d → share b s (end t k y c) ≡ amount s (end t k y d)
  y_own b c d e f = own_second x y g h k K b c e ∙ ap (λ (v : Bool). amount s (end t k y v)) f

  x_other : (b c : Bool) → x.negative ≡ not b → share b s (end t k x c) ≡ 0
  x_other b c e = other_first x y g h k K b c e

  y_other : (b c : Bool) → y.negative ≡ not b → share b s (end t k y c) ≡ 0
  y_other b c e = other_second x y g h k K b c e

  -- above and below zero, at the least end and at the greatest
  pub record Shown (a b c d : ℕ) : Type 0 where
    pub up_low : share false s (end t k x x.negative) + share false s (end t k y y.negative) ≡ a
    pub down_low : share true s (end t k x x.negative) + share true s (end t k y y.negative) ≡ b
    pub up_high : share false s (end t k x (not x.negative)) + share false s (end t k y (not y.negative)) ≡ c
    pub down_high : share true s (end t k x (not x.negative)) + share true s (end t k y (not y.negative)) ≡ d

  to_same : (a b c d : ℕ) → Shown a b c d → Ends neg o p s a b c d → EndsSame
  to_same a b c d v e = let i = v.up_low in let j = v.down_low in let m = v.up_high in let n = v.down_high in let q = e.sign in let r = e.answers in record { sign = cc; answers = cc }

  from_same : (a b c d : ℕ) → Shown a b c d → EndsSame → Ends neg o p s a b c d
  from_same a b c d v e = let i = v.up_low in let j = v.down_low in let m = v.up_high in let n = v.down_high in let q = e.sign in let r = e.answers in record { sign = cc; answers = cc }

  plus_zero : {m n a : ℕ} → m ≡ a → n ≡ 0 → m + n ≡ a
  plus_zero e f = omega arith

  zero_plus : {m n a : ℕ} → m ≡ 0 → n ≡ a → m + n ≡ a
  zero_plus e f = omega arith

  both_sum : {m n a b : ℕ} → m ≡ a → n ≡ b → m + n ≡ a + b
  both_sum e f = cc

  flip : {a b : Bool} → a ≡ b → not a ≡ not b
  flip e = ap not e

  -- by the signs a of x and b of y
  abbrev pub ShownBy : Bool → Bool → Type 0
  ShownBy false false = Shown (xl + yl) 0 (xh + yh) 0
  ShownBy true true = Shown 0 (xh + yh) 0 (xl + yl)
  ShownBy false true = Shown xl yh xh yl
  ShownBy true false = Shown yl xh yh xl

  shown : (a b : Bool) → x.negative ≡ a → y.negative ≡ b → ShownBy a b
  shown false false e f = record {
    up_low = both_sum (x_own false x.negative false e e) (y_own false y.negative false f f);
    down_low = plus_zero (x_other true x.negative e) (y_other true y.negative f);
    up_high = both_sum (x_own false (not x.negative) true e (flip e)) (y_own false (not y.negative) true f (flip f));
    down_high = plus_zero (x_other true (not x.negative) e) (y_other true (not y.negative) f);
  }
  shown true true e f = record {
    up_low = plus_zero (x_other false x.negative e) (y_other false y.negative f);
    down_low = both_sum (x_own true x.negative true e e) (y_own true y.negative true f f);
    up_high = plus_zero (x_other false (not x.negative) e) (y_other false (not y.negative) f);
    down_high = both_sum (x_own true (not x.negative) false e (flip e)) (y_own true (not y.negative) false f (flip f));
  }
  shown false true e f = record {
    up_low = plus_zero (x_own false x.negative false e e) (y_other false y.negative f);
    down_low = zero_plus (x_other true x.negative e) (y_own true y.negative true f f);
    up_high = plus_zero (x_own false (not x.negative) true e (flip e)) (y_other false (not y.negative) f);
    down_high = zero_plus (x_other true (not x.negative) e) (y_own true (not y.negative) false f (flip f));
  }
  shown true false e f = record {
    up_low = zero_plus (x_other false x.negative e) (y_own false y.negative false f f);
    down_low = plus_zero (x_own true x.negative true e e) (y_other true y.negative f);
    up_high = zero_plus (x_other false (not x.negative) e) (y_own false (not y.negative) true f (flip f));
    down_high = plus_zero (x_own true (not x.negative) false e (flip e)) (y_other true (not y.negative) f);
  }

  same_by : (a b : Bool) → ShownBy a b → Pair neg o p s P a b xl xh yl yh → EndsSame
  same_by false false v = to_same (xl + yl) 0 (xh + yh) 0 v
  same_by true true v = to_same 0 (xh + yh) 0 (xl + yl) v
  same_by false true v = to_same xl yh xh yl v
  same_by true false v = to_same yl xh yh xl v

  pair_by : (a b : Bool) → ShownBy a b → EndsSame → Pair neg o p s P a b xl xh yl yh
  pair_by false false v = from_same (xl + yl) 0 (xh + yh) 0 v
  pair_by true true v = from_same 0 (xh + yh) 0 (xl + yl) v
  pair_by false true v = from_same xl yh xh yl v
  pair_by true false v = from_same yl xh yh xl v

  -- what is fixed has one sign and one answer at the ends
  pub fixed_amounts : Fixed plus o p x y k → AmountsSame
  fixed_amounts f = pair_by x.negative y.negative (shown x.negative y.negative refl refl) (same_of (fixed_or o p x y P g h k K))
    where
      same_of : EndsSame ⊎ Open plus o p x y k → EndsSame
      same_of (inl e) = e
      same_of (inr u) = absurd (not_both plus o p x y k f u)

  -- the decision, against the definition of depth
  pub decides_fixed : Decides (decide_at o p x y k) (Fixed plus o p x y k)
  decides_fixed = go x.is_zero y.is_zero refl refl
    where
      regular : (x.is_zero && y.is_zero) ≡ false → Decides (decide_at o p x y k) (Fixed plus o p x y k)
      regular some = record {
        sound = λ e. fixed_if o p x y P g h k K (same_by x.negative y.negative (shown x.negative y.negative refl refl) ((amounts_decided some).sound e));
        complete = λ f. (amounts_decided some).complete (fixed_amounts f);
      }

      go : (a b : Bool) → x.is_zero ≡ a → y.is_zero ≡ b → Decides (decide_at o p x y k) (Fixed plus o p x y k)
      go false b e f = regular (cc)
      go true false e f = regular (cc)
      go true true e f = record { sound = λ d. read_fixed o p x y g h k (λ d. absurd (true≢false (sym e ∙ d))) (λ d. absurd (true≢false (sym f ∙ d))); complete = λ d. two_zeros o p x y k e f }

  -- ---- the answer, from what is read

  least_shown : (a b : Bool) → ShownBy a b → at o p x y (up x y g h k K (lx x y g h k K) (ly x y g h k K)) (down x y g h k K (lx x y g h k K) (ly x y g h k K)) ≡ least_end neg o p s P a b xl xh yl yh
  least_shown false false v = let i = v.up_low in let j = v.down_low in cc
  least_shown true true v = let i = v.up_low in let j = v.down_low in cc
  least_shown false true v = let i = v.up_low in let j = v.down_low in cc
  least_shown true false v = let i = v.up_low in let j = v.down_low in cc

  -- once fixed, the answer is that of the least end
  pub fixed_least : Fixed plus o p x y k → add o p x y ≡ least_answer
  unfolding Fixed result
  fixed_least f =
      let l = like_first x y g h k K x.negative in
      let m = like_second x y g h k K y.negative in
      sym (f (lx x y g h k K) (ly x y g h k K) l m) ∙ add_is o p x y k (lx x y g h k K) (ly x y g h k K) l m ∙ least_shown x.negative y.negative (shown x.negative y.negative refl refl)

  pub answer_read : (x.is_zero && y.is_zero) ≡ false → Fixed plus o p x y k → add o p x y ≡ answer_at o p x y k
  answer_read some f = fixed_least f ∙ (amounts_decided some).answered ((amounts_decided some).complete (fixed_amounts f))

-- ---- two looks give the depth

pub depth_decided : (o : Mode) (p : ℕ) (P : 0 < p) (x y : Operand) → WellFormed x → WellFormed y → (k : ℕ) → 1 ≤ k → decide_at o p x y k ≡ true → (1 < k → decide_at o p x y (k - 1) ≡ false) → Deciding plus o p x y k
depth_decided o p P x y g h k K e f = record { one = K; fixed = (decides_fixed o p P x y g h k K).sound e; fewer = λ u. no_less (k - 1) (less k u) (f u) }
  where
    less : (k : ℕ) → 1 < k → 1 ≤ k - 1
    less k u = omega arith

    no_less : (j : ℕ) → 1 ≤ j → decide_at o p x y j ≡ false → Open plus o p x y j
    no_less j B e = elim (fixed_or o p x y P g h j B) [
      | inl c ↦ absurd (let d = (decides_fixed o p P x y g h j B).complete (fixed_if o p x y P g h j B c) in let z : ◌≡◌ {A = ℕ} 0 1 = cc in omega arith)
      | inr u ↦ u
    ]

-- ---- it is a function of what is read: pairs that agree in k columns get one decision

unread_like : (t k : ℕ) (x z : Operand) → Like t k x z → unread t k z ≡ unread t k x
unfolding unread
unread_like t k x z l = let b = l.exponent in let c = l.precision in cc

digits_like : (t k : ℕ) (x z : Operand) → WellFormed x → (x.is_zero ≡ false → x.exponent ≤ t) → Like t k x z → read_digits t k z ≡ read_digits t k x
digits_like t k x z g top l = go x.is_zero refl
  where
    go : (b : Bool) → x.is_zero ≡ b → read_digits t k z ≡ read_digits t k x
    go true e = digits_nil t k z (l.is_zero ∙ e) ∙ sym (digits_nil t k x e)
    go false e = digits_are t k z (l.is_zero ∙ e) ∙ ap (λ (n : ℕ). mantissa z / 2 ^ n) (unread_like t k x z l) ∙ read_of t k x g top z l e ∙ sym (digits_are t k x e)

pub decides_read : (o : Mode) (p : ℕ) (x y z w : Operand) (k : ℕ) → WellFormed x → WellFormed y → Like (top_exponent x y) k x z → Like (top_exponent x y) k y w → decide_at o p z w k ≡ decide_at o p x y k
unfolding decide_at reaches? beyond read_part left_over
decides_read o p x y z w k g h l m =
    let a = l.is_zero in let b = l.exponent in let c = l.negative in
    let d = m.is_zero in let e = m.exponent in let f = m.negative in
    let t = top_like in let s = scale_like in
    let u = unread_like (top_exponent x y) k x z l in let v = unread_like (top_exponent x y) k y w m in
    let i = digits_like (top_exponent x y) k x z g (top_first x y) l in let j = digits_like (top_exponent x y) k y w h (top_second x y) m in
    let q = low_like (top_exponent x y) k x z l in let r = low_like (top_exponent x y) k y w m in
    cc
  where
    top_like : top_exponent z w ≡ top_exponent x y
    top_like = unfold top_exponent in let a = l.is_zero in let b = l.exponent in let d = m.is_zero in let e = m.exponent in cc

    scale_like : scale z w ≡ scale x y
    scale_like = unfold scale in let a = l.is_zero in let d = m.is_zero in let q = low_like (top_exponent x y) k x z l in let r = low_like (top_exponent x y) k y w m in cc
