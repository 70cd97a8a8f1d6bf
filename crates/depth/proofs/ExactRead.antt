-- A fixed answer with ternary value 0 leaves no digit unread.
use mathlib.Core.Path.{◌≡◌, refl, sym, ◌∙◌}
use mathlib.Core.Bool.{Bool, true, false, cond, true≢false}
use Prim.Native.Nat.{ℕ, ◌+◌, ◌-◌, ◌^◌, ◌≤◌, ◌<◌, compare, Ordering}
use native.Mathlib.Omega.{arith}
use lib.Dec.{ltb}
use lib.Pow.{pow_pos}
use lib.Ieee.{size}
use Rattle.rounding.proofs.Zeros.{share_as, share_other}
use Rattle.numbers.specs.Operand.{Operand, last_weight, WellFormed}
use Rattle.rounding.specs.Mode.{Way, way}
use Rattle.rounding.specs.declared.Mode.{Mode}
use Rattle.rounding.specs.Sum.{amount, share, scale, zero_sign, add}
use Rattle.rounding.specs.Select.{chosen}
use Rattle.rounding.specs.Answer.{digits, signed, Answer, zero_of, number, too_large, too_small, ranged, rounded, answer}
use Rattle.numbers.specs.Limits.{least_exponent, most_exponent}
use Rattle.depth.specs.Columns.{top_exponent, Like}
use Rattle.depth.specs.Read.{unread}
use Rattle.depth.specs.Depth.{plus, result, Fixed}
use Rattle.rounding.proofs.Order.{Cmp, cmp, mul_one_one}
use Rattle.rounding.proofs.Selection.{chosen_rep}
use Rattle.rounding.proofs.Between.{digits_one, turned_one}
use Rattle.rounding.proofs.Ends.{plus as positive, minus as negative, nought, regular}
use Rattle.depth.proofs.Place.{top_first, top_second}
use Rattle.depth.proofs.Reach.{end, digits_at}
use Rattle.depth.proofs.Amounts.{like_end, like_self, amount_end}
use Rattle.depth.proofs.Another.{ends_meet}
use Rattle.depth.proofs.EndsDecide.{add_is}

-- ---- an exact answer is the value

record Is (w : Way) (p s : ℕ) (n : Bool) (m : ℕ) (t : Bool) (e d : ℕ) : Type 0 where
  sign : n ≡ t
  ex : size (chosen w p m) + s ≡ e
  dig : digits p (chosen w p m) ≡ d
  val : compare (chosen w p m) m ≡ Ordering.eq

unrange : (a b : Bool) (r q : Answer) (t : Bool) (e d : ℕ) (o : Ordering) → cond a too_large (cond b too_small r) ≡ number t e d o → r ≡ number t e d o
unrange true b r q t e d o h = let z : ◌≡◌ {A = ℕ} 0 1 = cc in absurd (omega arith)
unrange false true r q t e d o h = let z : ◌≡◌ {A = ℕ} 0 1 = cc in absurd (omega arith)
unrange false false r q t e d o h = h

is : (w : Way) (p s : ℕ) (n : Bool) (m : ℕ) (t : Bool) (e d : ℕ) → rounded w p s n m ≡ number t e d Ordering.eq → Is w p s n m t e d
unfolding rounded ranged
is w p s n m t e d h =
    let c = chosen w p m in
    let k = unrange (ltb most_exponent (size c + s)) (ltb (size c + s) least_exponent) (number n (size c + s) (digits p c) (signed n (compare c m))) too_large t e d Ordering.eq h in
    let v : signed n (compare c m) ≡ Ordering.eq = cc in
    record { sign = cc; ex = cc; dig = cc; val = turned_one n (compare c m) Ordering.eq (v ∙ sym (flat n)) }
  where
    flat : (n : Bool) → signed n Ordering.eq ≡ Ordering.eq
    flat true = unfold signed in refl
    flat false = unfold signed in refl

same_size : {p : ℕ} → 0 < p → (v w : Way) (s : ℕ) (n : Bool) (a b : ℕ) (t : Bool) (e d : ℕ) → Is v p s n a t e d → Is w p s n b t e d → a ≡ b
same_size {p} P v w s n a b t e d x y =
    sym (eq (chosen v p a) a x.val) ∙ digits_one p (chosen v p a) (chosen w p b) (chosen_rep v p a P) (chosen_rep w p b P) (drop (x.ex ∙ sym y.ex)) (x.dig ∙ sym y.dig) ∙ eq (chosen w p b) b y.val
  where
    eq : (a b : ℕ) → compare a b ≡ Ordering.eq → a ≡ b
    eq a b h = rw h at (cmp a b)

    drop : {i j : ℕ} → i + s ≡ j + s → i ≡ j
    drop h = omega arith

same_value : (q : Bool) (o : Mode) (p s : ℕ) → 0 < p → (a b a' b' : ℕ) (t : Bool) (e d : ℕ) → answer q o p s a b ≡ number t e d Ordering.eq → answer q o p s a' b' ≡ number t e d Ordering.eq → a + b' ≡ a' + b
same_value q o p s P a b a' b' t e d h k = go (compare a b) (compare a' b') (cmp a b) (cmp a' b')
  where
    no_zero : (i j : ℕ) → i ≡ j → answer q o p s i j ≡ number t e d Ordering.eq → ⊥
    no_zero i j u h = let m = nought q o p s P i j u in let z : ◌≡◌ {A = ℕ} 0 1 = cc in omega arith

    up : (i j : ℕ) → j < i → answer q o p s i j ≡ number t e d Ordering.eq → Is (way o false) p s false (i - j) t e d
    up i j u h = is (way o false) p s false (i - j) t e d (sym (positive q o p s P i j u) ∙ h)

    down : (i j : ℕ) → i < j → answer q o p s i j ≡ number t e d Ordering.eq → Is (way o true) p s true (j - i) t e d
    down i j u h = is (way o true) p s true (j - i) t e d (sym (negative q o p s P i j u) ∙ h)

    go : (x y : Ordering) → Cmp x a b → Cmp y a' b' → a + b' ≡ a' + b
    go Ordering.eq y u v = absurd (no_zero a b u h)
    go Ordering.lt Ordering.eq u v = absurd (no_zero a' b' v k)
    go Ordering.gt Ordering.eq u v = absurd (no_zero a' b' v k)
    go Ordering.lt Ordering.gt u v = absurd (true≢false ((down a b u h).sign ∙ sym (up a' b' v k).sign))
    go Ordering.gt Ordering.lt u v = absurd (true≢false ((down a' b' v k).sign ∙ sym (up a b u h).sign))
    go Ordering.gt Ordering.gt u v = let m = same_size P (way o false) (way o false) s false (a - b) (a' - b') t e d (up a b u h) (up a' b' v k) in omega arith
    go Ordering.lt Ordering.lt u v = let m = same_size P (way o true) (way o true) s true (b - a) (b' - a') t e d (down a b u h) (down a' b' v k) in omega arith

-- ---- what is taken for exact is read

-- an operand whose two ends add the same is read
module _ (t k s : ℕ) (x : Operand) (g : WellFormed x) (r : x.is_zero ≡ false) (top : x.exponent ≤ t)
    (meet : share false s (end t k x false) + share true s (end t k x true) ≡ share false s (end t k x true) + share true s (end t k x false)) where
  amounts : amount s (end t k x false) ≡ amount s (end t k x true)
  amounts = go x.negative refl
    where
      l : (b : Bool) → (end t k x b).negative ≡ x.negative
      l b = (like_end t k x g (λ e. top) b).negative

      go : (c : Bool) → x.negative ≡ c → amount s (end t k x false) ≡ amount s (end t k x true)
      go false r = omega (arith, share_as false s (end t k x false) (l false ∙ r), share_as false s (end t k x true) (l true ∙ r), share_other true s (end t k x false) (l false ∙ r), share_other true s (end t k x true) (l true ∙ r))
      go true r = omega (arith, share_as true s (end t k x false) (l false ∙ r), share_as true s (end t k x true) (l true ∙ r), share_other false s (end t k x false) (l false ∙ r), share_other false s (end t k x true) (l true ∙ r))

  read_whole : unread t k x ≡ 0
  read_whole = ends_meet t k x g (mul_one_one (digits_at t k x false) (digits_at t k x true) (2 ^ (last_weight x - s)) (pow_pos (last_weight x - s)) (sym (amount_end t k s x g top false r) ∙ amounts ∙ amount_end t k s x g top true r))

-- an answer with ternary value 0: a zero, or a number that is the exact value
pub data Exact : Answer → Type 0 where
  exact_zero : (z : Bool) → Exact (zero_of z)
  exact_number : (n : Bool) (e d : ℕ) → Exact (number n e d Ordering.eq)

zero_value : (q : Bool) (o : Mode) (p s : ℕ) → 0 < p → (a b : ℕ) (z : Bool) → answer q o p s a b ≡ zero_of z → a ≡ b
zero_value q o p s P a b z h = go (compare a b) (cmp a b)
  where
    go : (x : Ordering) → Cmp x a b → a ≡ b
    go Ordering.lt u = absurd (regular (way o true) p s true z (b - a) (sym (negative q o p s P a b u) ∙ h))
    go Ordering.eq u = u
    go Ordering.gt u = absurd (regular (way o false) p s false z (a - b) (sym (positive q o p s P a b u) ∙ h))

-- it has one value
exact_value : (q : Bool) (o : Mode) (p s : ℕ) → 0 < p → (a b c d : ℕ) (v : Answer) → Exact v → answer q o p s a b ≡ v → answer q o p s c d ≡ v → a + d ≡ c + b
exact_value q o p s P a b c d v (exact_zero z) h k = let e = zero_value q o p s P a b z h in let f = zero_value q o p s P c d z k in omega arith
exact_value q o p s P a b c d v (exact_number n e i) h k = same_value q o p s P a b c d n e i h k

module _ (o : Mode) (p : ℕ) (P : 0 < p) (x y : Operand) (g : WellFormed x) (h : WellFormed y) (k : ℕ) (f : Fixed plus o p x y k) (e : Exact (add o p x y)) where
  abbrev t : ℕ
  t = top_exponent x y

  abbrev s : ℕ
  s = scale x y

  -- every pair that may stand for x and y has this value
  one_value : (z w v u : Operand) → Like t k x z → Like t k y w → Like t k x v → Like t k y u
      → (share false s z + share false s w) + (share true s v + share true s u) ≡ (share false s v + share false s u) + (share true s z + share true s w)
  unfolding Fixed result
  one_value z w v u l m i j =
      exact_value (zero_sign o x.negative y.negative) o p s P (share false s z + share false s w) (share true s z + share true s w) (share false s v + share false s u) (share true s v + share true s u) (add o p x y) e
      (sym (add_is o p x y k z w l m) ∙ f z w l m) (sym (add_is o p x y k v u i j) ∙ f v u i j)

  pub first_read : x.is_zero ≡ false → unread t k x ≡ 0
  first_read r = read_whole t k s x g r (top_first x y r) (omega (arith, one_value (end t k x false) y (end t k x true) y (l false) (like_self t k y h) (l true) (like_self t k y h)))
    where
      l : (b : Bool) → Like t k x (end t k x b)
      l b = like_end t k x g (top_first x y) b

  pub second_read : y.is_zero ≡ false → unread t k y ≡ 0
  second_read r = read_whole t k s y h r (top_second x y r) (omega (arith, one_value x (end t k y false) x (end t k y true) (like_self t k x g) (l false) (like_self t k x g) (l true)))
    where
      l : (b : Bool) → Like t k y (end t k y b)
      l b = like_end t k y h (top_second x y) b
