-- A fixed k covers the target, 64k ≥ p, unless the answer is a refusal, all is read, or a hole lies between the operands:
-- so the columns down to p are needed in any case. For else some p-digit number lies between the ends.
use mathlib.Core.Path.{◌≡◌, refl, sym, ap, ◌∙◌, subst}
use mathlib.Core.Logic.{inl, inr}
use mathlib.Core.Bool.{Bool, true, false}
use Prim.Native.Nat.{ℕ, zero, suc, ◌+◌, ◌-◌, ◌*◌, ◌^◌, ◌≤◌, ◌<◌, compare, Ordering}
use native.Mathlib.Nat.{le_trans, le_of_eq, le_of_lt, lt_of_lt_of_le, lt_of_le_of_lt, lt_of_mul-lt-mul_right, mul-lt-mul_of_pos_right, mul-le-mul_right, mul_assoc, pow-succ', add_comm, add-mul}
use native.Mathlib.Omega.{arith}
use lib.Pow.{pow_pos, pow_mono, pow-add}
use Rattle.rounding.proofs.Units.{scale_first, scale_second}
use Rattle.depth.proofs.Exchange.{top_exchange, first_some}
use Rattle.numbers.specs.Operand.{Operand, last_weight, WellFormed}
use Rattle.rounding.specs.Mode.{Way, way}
use Rattle.rounding.specs.declared.Mode.{Mode}
use Rattle.rounding.specs.Answer.{Answer, too_large, too_small, rounded, answer}
use Rattle.rounding.specs.Sum.{scale, amount, zero_sign, add}
use Rattle.rounding.proofs.Order.{le_or_lt, Cmp, cmp, sub_mul}
use Rattle.rounding.proofs.Selection.{Rep}
use Rattle.rounding.proofs.Ends.{plus as positive, minus as negative}
use Rattle.depth.specs.Columns.{top_exponent}
use Rattle.depth.specs.Read.{unread}
use Rattle.depth.specs.Depth.{plus, Fixed}
use Rattle.decide.specs.Decide.{reaches?, read_part, left_over}
use Rattle.depth.proofs.Columns.{digits_counted}
use Rattle.depth.proofs.Place.{top_first, top_second, other_top}
use Rattle.depth.proofs.Reach.{end, at_most}
use Rattle.depth.proofs.Amounts.{amount_end}
use Rattle.depth.proofs.EndsDecide.{up}
use Rattle.decide.proofs.Settled.{rep_between}
use Rattle.decide.proofs.Range.{large_answer, small_answer, same_cases}
use Rattle.decide.proofs.Rows.{Seen, seen_le, last_half}
use Rattle.decide.proofs.RowsFar.{Unseen}
use Rattle.decide.proofs.Pair.{Ends, Pair, least_end}
use Rattle.decide.proofs.ReadPart.{unseen_cut, unseen_is}
use Rattle.decide.proofs.Decision.{reached, ReadIn, read_in, not_reached, left_is, read_nil, fixed_amounts, fixed_least}

-- neither refusal
pub record Accepted (a : Answer) : Type 0 where
  pub not_large : a ≡ too_large → ⊥
  pub not_small : a ≡ too_small → ⊥

-- ---- sizes with one answer, and a p-digit number between them, are one

record Mid (p lo hi : ℕ) : Type 0 where
  m : ℕ
  rep : Rep p m
  from : lo ≤ m
  to : m ≤ hi

one_size : (w : Way) (p s : ℕ) (g : Bool) (lo hi : ℕ) → 0 < p → Mid p lo hi → rounded w p s g lo ≡ rounded w p s g hi → Accepted (rounded w p s g lo) → lo ≡ hi
one_size w p s g lo hi P d e a = elim (same_cases w p s g P lo hi (le_trans d.from d.to) e) [
  | inl b ↦ rep_between w p lo d.m hi P d.rep d.from d.to b
  | inr b ↦ elim b [
    | inl c ↦ absurd (a.not_large (large_answer w p s g P lo c))
    | inr c ↦ absurd (a.not_small (e ∙ small_answer w p s g P hi c))
  ]
]

-- the least is a - b, the greatest c - d
one_value : (neg : Bool) (o : Mode) (p s a b c d : ℕ) → 0 < p → Ends neg o p s a b c d → a ≤ c → d ≤ b → Accepted (answer neg o p s a b) → (b < a → Mid p (a - b) (c - d)) → (c < d → Mid p (d - c) (b - a)) → a + d ≡ c + b
one_value neg o p s a b c d P e h k ok above below = go (compare a b) (cmp a b) (rw (← e.sign) at (cmp c d))
  where
    accepted : {v : Answer} → answer neg o p s a b ≡ v → Accepted v
    accepted f = subst Accepted f ok

    go : (v : Ordering) → Cmp v a b → Cmp v c d → a + d ≡ c + b
    go Ordering.gt u v =
        let q = one_size (way o false) p s false (a - b) (c - d) P (above u) (sym (positive neg o p s P a b u) ∙ e.answers ∙ positive neg o p s P c d v) (accepted (positive neg o p s P a b u)) in
        omega arith
    go Ordering.lt u v =
        let q = one_size (way o true) p s true (d - c) (b - a) P (below v) (sym (negative neg o p s P c d v) ∙ sym e.answers ∙ negative neg o p s P a b u) (accepted (e.answers ∙ negative neg o p s P c d v)) in
        omega arith
    go Ordering.eq u v = omega arith

-- ---- for a pair: p-digit numbers between the ends of the sum, and of the difference either way

record Mids (p xl xh yl yh : ℕ) : Type 0 where
  sum : Mid p (xl + yl) (xh + yh)
  first : yh < xl → Mid p (xl - yh) (xh - yl)
  second : xh < yl → Mid p (yl - xh) (yh - xl)

swapped : (p xl xh yl yh : ℕ) → Mids p yl yh xl xh → Mids p xl xh yl yh
swapped p xl xh yl yh d = record { sum = rw (add_comm xl yl, add_comm xh yh) d.sum; first = d.second; second = d.first }

plain : (p lo hi : ℕ) → Mid p lo hi → Mid p (lo - 0) (hi - 0)
plain p lo hi d = record { m = d.m; rep = d.rep; from = omega (arith, d.from); to = omega (arith, d.to) }

meet : (a b neg : Bool) (o : Mode) (p s : ℕ) (P : 0 < p) (xl xh yl yh : ℕ) → Pair neg o p s P a b xl xh yl yh → xl ≤ xh → yl ≤ yh → Accepted (least_end neg o p s P a b xl xh yl yh) → Mids p xl xh yl yh → xl + yl ≡ xh + yh
meet false false neg o p s P xl xh yl yh e h k ok d = omega (arith, one_value neg o p s (xl + yl) 0 (xh + yh) 0 P e (omega arith) (omega arith) ok (λ u. plain p (xl + yl) (xh + yh) d.sum) (λ u. absurd (omega arith)))
meet true true neg o p s P xl xh yl yh e h k ok d = omega (arith, one_value neg o p s 0 (xh + yh) 0 (xl + yl) P e (omega arith) (omega arith) ok (λ u. absurd (omega arith)) (λ u. plain p (xl + yl) (xh + yh) d.sum))
meet false true neg o p s P xl xh yl yh e h k ok d = one_value neg o p s xl yh xh yl P e h k ok d.first d.second
meet true false neg o p s P xl xh yl yh e h k ok d = add_comm xl yl ∙ one_value neg o p s yl xh yh xl P e k h ok d.second d.first ∙ add_comm yh xh

-- ---- the p-digit numbers

few : (p c j n : ℕ) → c < p → n < 2 ^ c * 2 → Rep p (n * 2 ^ j)
few p c j n h l = record { digits = n; shift = j; few = lt_of_lt_of_le l (le_trans (le_of_eq (twice (2 ^ c) (pow-succ' 2 c))) (pow_mono h)); is = refl }
  where
    twice : (v : ℕ) {w : ℕ} → w ≡ 2 * v → v * 2 ≡ w
    twice v e = omega arith

-- an unread digit is half a unit
seen_half : (j x u xl xh : ℕ) → Seen j x (suc u) xl xh → xl * 2 + 2 ^ j ≤ xh * 2
seen_half j x u xl xh a = omega (arith, a.low, a.high, last_half a.l u j a.cut)

-- both reach into what is read: the read parts themselves have p digits
mids_seen : (p c j x u xl xh y v yl yh : ℕ) → c < p → x < 2 ^ c → y < 2 ^ c → Seen j x u xl xh → Seen j y v yl yh → Mids p xl xh yl yh
mids_seen p c j x u xl xh y v yl yh h a b d e = record {
  sum = record { m = (x + y) * 2 ^ j; rep = few p c j (x + y) h (sum (2 ^ c) a b); from = le_of_eq (whole ∙ sym (add-mul x y (2 ^ j))); to = le_trans (le_of_eq (add-mul x y (2 ^ j) ∙ sym whole)) (up (seen_le j x u xl xh d) (seen_le j y v yl yh e)) };
  first = λ l. one_of x y xl xh yl yh a d.low e.low (seen_le j x u xl xh d) (seen_le j y v yl yh e);
  second = λ l. one_of y x yl yh xl xh b e.low d.low (seen_le j y v yl yh e) (seen_le j x u xl xh d);
}
  where
    sum : (C : ℕ) → x < C → y < C → x + y < C * 2
    sum C a b = omega arith

    whole : xl + yl ≡ x * 2 ^ j + y * 2 ^ j
    whole = let f = d.low in let g = e.low in cc

    up : {i k l m : ℕ} → i ≤ k → l ≤ m → i + l ≤ k + m
    up a b = omega arith

    one_of : (x y xl xh yl yh : ℕ) → x < 2 ^ c → xl ≡ x * 2 ^ j → yl ≡ y * 2 ^ j → xl ≤ xh → yl ≤ yh → Mid p (xl - yh) (xh - yl)
    one_of x y xl xh yl yh a f g k l = record { m = (x - y) * 2 ^ j; rep = few p c j (x - y) h (less (2 ^ c) a); from = le_trans (under k l) (le_of_eq is); to = le_trans (le_of_eq (sym is)) (over k l) }
      where
        less : (C : ℕ) → x < C → x - y < C * 2
        less C a = omega arith

        is : xl - yl ≡ (x - y) * 2 ^ j
        is = ap (λ (n : ℕ). n - yl) f ∙ ap (λ (n : ℕ). x * 2 ^ j - n) g ∙ sym (sub_mul x y (2 ^ j))

        under : xl ≤ xh → yl ≤ yh → xl - yh ≤ xl - yl
        under a b = omega arith

        over : xl ≤ xh → yl ≤ yh → xl - yl ≤ xh - yl
        over a b = omega arith

-- y lies below what is read, and a digit of x is unread: half a unit above x, or x
mids_far : (p c j x u xl xh g f yl yh : ℕ) → c < p → x < 2 ^ c → 0 < x → Seen j x (suc u) xl xh → Unseen g yl yh → g + suc f ≡ j → Mids p xl xh yl yh
mids_far p c zero x u xl xh g f yl yh h a X d e w = absurd (omega arith)
mids_far p c (suc j) x u xl xh g f yl yh h a X d e w = record {
  sum = record { m = (x * 2 + 1) * 2 ^ j; rep = few p c j (x * 2 + 1) h (odd (2 ^ c) a); from = omega (arith, d.low, e.low, half, first, spread, add-mul (x * 2) 1 (2 ^ j)); to = omega (arith, d.low, half, wide, low_le, spread, add-mul (x * 2) 1 (2 ^ j)) };
  first = λ l. record { m = x * 2 ^ suc j; rep = few p c (suc j) x h (less (2 ^ c) a); from = omega (arith, d.low); to = omega (arith, d.low, e.low, half, first, wide) };
  second = λ l. absurd (omega (arith, d.low, e.low, half, first, high_le, mul-le-mul_right (2 ^ suc j) X));
}
  where
    half : 2 ^ suc j ≡ 2 ^ j * 2
    half = pow-succ' 2 j ∙ omega arith

    spread : x * 2 ^ suc j ≡ x * 2 * 2 ^ j
    spread = ap (λ (v : ℕ). x * v) (pow-succ' 2 j) ∙ sym (mul_assoc x 2 (2 ^ j))

    odd : (C : ℕ) → x < C → x * 2 + 1 < C * 2
    odd C a = omega arith

    less : (C : ℕ) → x < C → x < C * 2
    less C a = omega arith

    first : 2 ^ g ≤ 2 ^ j
    first = pow_mono (go w)
      where
        go : g + suc f ≡ suc j → g ≤ j
        go w = omega arith

    wide : xl * 2 + 2 ^ suc j ≤ xh * 2
    wide = seen_half (suc j) x u xl xh d

    high_le : xl ≤ xh
    high_le = seen_le (suc j) x (suc u) xl xh d

    low_le : yl ≤ yh
    low_le = omega (arith, e.low, e.high, pow_mono (lt_le e.two))
      where
        lt_le : {i k : ℕ} → i < k → i ≤ k
        lt_le h = omega arith

-- ---- the operands

-- what is read of an operand has at most 64k digits
read_lt : (t k s : ℕ) (z : Operand) → WellFormed z → (z.is_zero ≡ false → z.exponent ≤ t) → (z.is_zero ≡ false → s ≤ last_weight z) → ReadIn t k s z → read_part t k s z < 2 ^ (64 * k)
read_lt t k s z g top sc a = go z.is_zero refl
  where
    j : ℕ
    j = t - 64 * k - s

    fits : (e m w : ℕ) → w ≡ e - m → m ≤ e → e ≤ t → s ≤ w → m + (w - s) ≤ 64 * k + (t - 64 * k - s)
    fits e m w i b c d = omega arith

    go : (b : Bool) → z.is_zero ≡ b → read_part t k s z < 2 ^ (64 * k)
    go true e = subst (λ (n : ℕ). n < 2 ^ (64 * k)) (sym (read_nil t k s z e)) (pow_pos (64 * k))
    go false e =
        lt_of_mul-lt-mul_right (2 ^ j)
        (lt_of_lt_of_le (lt_of_le_of_lt (le_of_eq (sym a.seen.low ∙ amount_end t k s z g (top e) false e)) (mul-lt-mul_of_pos_right (at_most t k z g e false) (pow_pos (last_weight z - s))))
        (le_trans (le_of_eq (sym (pow-add 2 z.precision (last_weight z - s)))) (le_trans (pow_mono (fits z.exponent z.precision (last_weight z) (unfold last_weight in refl) (digits_counted z g e) (top e) (sc e))) (le_of_eq (pow-add 2 (64 * k) j)))))

-- x stands at the top and has an unread digit, and nothing of y is read
module _ (p t k s : ℕ) (x y : Operand) (g : WellFormed x) (h : WellFormed y) (r : x.is_zero ≡ false) (q : y.is_zero ≡ false)
    (top : t ≡ x.exponent) (sx : s ≤ last_weight x) (sy : s ≤ last_weight y) (unseen : 64 * k ≤ t - y.exponent) (K : 1 ≤ k) (c : 64 * k < p) where
  abbrev j : ℕ
  j = t - 64 * k - s

  abbrev low : Operand → ℕ
  low z = amount s (end t k z false)

  abbrev high : Operand → ℕ
  high z = amount s (end t k z true)

  far_mids : (u : ℕ) → unread t k x ≡ suc u → Mids p (low x) (high x) (low y) (high y) × (low x < high x) × (low y ≤ high y)
  far_mids u e = (
    mids_far p (64 * k) j (read_part t k s x) u (low x) (high x) (y.exponent - 1 - s) (t - 64 * k - y.exponent) (low y) (high y) c (read_lt t k s x g (λ v. at_top) (λ v. sx) a) (a.pos r) seen gone (unseen_cut t k s y h q below sy unseen K),
    more (seen_half j (read_part t k s x) u (low x) (high x) seen) (pow_pos j),
    omega (arith, gone.low, gone.high, pow_mono (lt_le gone.two)),
  )
    where
      at_top : x.exponent ≤ t
      at_top = le_of_eq (sym top)

      below : y.exponent ≤ t
      below = under y.exponent (64 * k) unseen (some K)
        where
          some : 1 ≤ k → 0 < 64 * k
          some K = omega arith

          under : (e c : ℕ) → c ≤ t - e → 0 < c → e ≤ t
          under e c u h = omega arith

      a : ReadIn t k s x
      a = read_in t k s x g (λ v. at_top) (λ v. sx) (reached t k x (flat x.exponent top K))
        where
          flat : (e : ℕ) → t ≡ e → 1 ≤ k → t - e < 64 * k
          flat e h K = omega arith

      seen : Seen j (read_part t k s x) (suc u) (low x) (high x)
      seen = subst (λ (n : ℕ). Seen j (read_part t k s x) n (low x) (high x)) (left_is t k x r ∙ e) a.seen

      gone : Unseen (y.exponent - 1 - s) (low y) (high y)
      gone = unseen_is t k s y h q below sy unseen

      more : {l m n : ℕ} → l * 2 + n ≤ m * 2 → 0 < n → l < m
      more h k = omega arith

      lt_le : {i n : ℕ} → i < n → i ≤ n
      lt_le h = omega arith

module _ (o : Mode) (p : ℕ) (P : 0 < p) (x y : Operand) (g : WellFormed x) (h : WellFormed y) (k : ℕ) (K : 1 ≤ k) (fixed : Fixed plus o p x y k) (ok : Accepted (add o p x y)) where
  abbrev t : ℕ
  t = top_exponent x y

  abbrev s : ℕ
  s = scale x y

  abbrev neg : Bool
  neg = zero_sign o x.negative y.negative

  abbrev xl : ℕ
  xl = amount s (end t k x false)

  abbrev xh : ℕ
  xh = amount s (end t k x true)

  abbrev yl : ℕ
  yl = amount s (end t k y false)

  abbrev yh : ℕ
  yh = amount s (end t k y true)

  -- the least end is not refused
  accepted : Accepted (least_end neg o p s P x.negative y.negative xl xh yl yh)
  accepted = subst Accepted (fixed_least o p P x y g h k K fixed) ok

  ends : xl ≤ xh → yl ≤ yh → Mids p xl xh yl yh → xl + yl ≡ xh + yh
  ends a b d = meet x.negative y.negative neg o p s P xl xh yl yh (fixed_amounts o p P x y g h k K fixed) a b accepted d

  first_in : reaches? t k x ≡ true → ReadIn t k s x
  first_in e = read_in t k s x g (top_first x y) (scale_first x y) e

  second_in : reaches? t k y ≡ true → ReadIn t k s y
  second_in e = read_in t k s y h (top_second x y) (scale_second x y) e

  -- ends that meet leave no digit unread
  whole : (j n u : ℕ) {l m : ℕ} → Seen j n u l m → l ≡ m → u ≡ 0
  whole j n zero a e = refl
  whole j n (suc u) {l} {m} a e = absurd (omega (arith, seen_half j n u l m a, pow_pos j))

  both : reaches? t k x ≡ true → reaches? t k y ≡ true → 0 < left_over t k x + left_over t k y → p ≤ 64 * k
  both e f u = elim (le_or_lt p (64 * k)) [
    | inl c ↦ c
    | inr c ↦
        let a = first_in e in
        let b = second_in f in
        let j = t - 64 * k - s in
        let v = seen_le j (read_part t k s x) (left_over t k x) xl xh a.seen in
        let w = seen_le j (read_part t k s y) (left_over t k y) yl yh b.seen in
        let m = ends v w (mids_seen p (64 * k) j (read_part t k s x) (left_over t k x) xl xh (read_part t k s y) (left_over t k y) yl yh c (read_lt t k s x g (top_first x y) (scale_first x y) a) (read_lt t k s y h (top_second x y) (scale_second x y) b) a.seen b.seen) in
        absurd (none u (whole j (read_part t k s x) (left_over t k x) a.seen (left v w m)) (whole j (read_part t k s y) (left_over t k y) b.seen (right v w m)))
  ]
    where
      left : {a b c d : ℕ} → a ≤ b → c ≤ d → a + c ≡ b + d → a ≡ b
      left h k e = omega arith

      right : {a b c d : ℕ} → a ≤ b → c ≤ d → a + c ≡ b + d → c ≡ d
      right h k e = omega arith

      none : {a b : ℕ} → 0 < a + b → a ≡ 0 → b ≡ 0 → ⊥
      none h e f = omega arith

  suc_of : (n : ℕ) → 0 < n → (u : ℕ) × (n ≡ suc u)
  suc_of zero h = absurd (omega arith)
  suc_of (suc u) h = (u, refl)

  far_first : reaches? t k y ≡ false → 0 < unread t k x → p ≤ 64 * k
  far_first f n = elim (le_or_lt p (64 * k)) [
    | inl c ↦ c
    | inr c ↦
        let u = not_reached t k y f in
        let v = other_top x y k K u.0 u.1 in
        let w = suc_of (unread t k x) n in
        let d = far_mids p t k s x y g h v.0 u.0 v.1 (scale_first x y v.0) (scale_second x y u.0) u.1 K c w.0 w.1 in
        absurd (clash (ends (le_of_lt d.1) d.2 d.0) d.1 d.2)
  ]
    where
      clash : {i l m n : ℕ} → i + m ≡ l + n → i < l → m ≤ n → ⊥
      clash e a b = omega arith

  far_second : reaches? t k x ≡ false → 0 < unread t k y → p ≤ 64 * k
  far_second f n = elim (le_or_lt p (64 * k)) [
    | inl c ↦ c
    | inr c ↦
        let u = not_reached t k x f in
        let e = top_exchange x y (first_some x y u.0) in
        let v = other_top y x k K u.0 (rw e at u.1) in
        let w = suc_of (unread t k y) n in
        let d = far_mids p t k s y x h g v.0 u.0 (e ∙ v.1) (scale_second x y v.0) (scale_first x y u.0) u.1 K c w.0 w.1 in
        absurd (clash (ends d.2 (le_of_lt d.1) (swapped p xl xh yl yh d.0)) d.1 d.2)
  ]
    where
      clash : {i l m n : ℕ} → m + i ≡ n + l → i < l → m ≤ n → ⊥
      clash e a b = omega arith

  -- no hole: where nothing of one is read, a digit of the other is unread; and not all is read
  pub covers : (reaches? t k x ≡ false → 0 < unread t k y) → (reaches? t k y ≡ false → 0 < unread t k x) → 0 < left_over t k x + left_over t k y → p ≤ 64 * k
  covers a b n = go (reaches? t k x) (reaches? t k y) refl refl
    where
      go : (c d : Bool) → reaches? t k x ≡ c → reaches? t k y ≡ d → p ≤ 64 * k
      go true true e f = both e f n
      go false d e f = far_second e (a e)
      go true false e f = far_first f (b f)
