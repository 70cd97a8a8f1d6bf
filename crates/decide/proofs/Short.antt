-- How many digits the selected number has where fewer are read than it needs: only all ones can grow by a digit.
use mathlib.Core.Path.{◌≡◌, refl, sym, ap, ◌∙◌, subst}
use mathlib.Core.Logic.{◌⊎◌, inl, inr}
use mathlib.Core.Bool.{Bool, true, false, cond, ◌&&◌}
use Prim.Native.Nat.{ℕ, zero, suc, ◌+◌, ◌-◌, ◌*◌, ◌%◌, ◌^◌, ◌≤◌, ◌<◌, compare, Ordering}
use native.Mathlib.Nat.{le_refl, le_trans, le_of_eq, le_of_lt, lt_of_lt_of_le, lt_of_le_of_lt, le_antisymm, suc-mul, mul-le-mul_right, mul-lt-mul_of_pos_right, pow-succ'}
use native.Mathlib.Omega.{arith}
use borrow.Author.Tests.{eq-eqb, ne_eqb, lt-ltb, le-ltb}
use lib.Dec.{eqb}
use lib.Pow.{pow_pos, pow_mono, pow-add}
use lib.Ieee.{size}
use lib.Ieee.Digits.{size-lt, size-le}
use Rattle.rounding.specs.Mode.{Way, near, under, over}
use Rattle.rounding.specs.Select.{unit, chosen}
use Rattle.rounding.proofs.Selection.{Rep, full, chosen_mono, under_le}
use Rattle.rounding.proofs.Order.{le_or_lt, compare_at, size_mono, zero_or}
use Rattle.limb.proofs.Sizes.{size_is, size_part}
use Rattle.rounding.proofs.Scale.{exact, size_shift, chosen_shift}
use Rattle.decide.specs.Class.{tie, off, lean, step}
use Rattle.decide.specs.Range.{bump, short_least, short_most}
use Rattle.decide.proofs.Lean.{lean_exact, lean_rest}
use Rattle.decide.proofs.Settled.{Enough, unit_part, chosen_at}
use Rattle.decide.proofs.Carry.{size_bump, size_pow}

-- all ones, more than p of them, go up to the next power of two, except toward zero
goes_up : Way → Bool
goes_up under = false
goes_up near = true
goes_up over = true

ones_up : (w : Way) (p z : ℕ) → 0 < p → p < z → goes_up w ≡ true → chosen w p (2 ^ z - 1) ≡ 2 ^ z
unfolding goes_up step off tie
ones_up w p z P h g =
    let u = 2 ^ (z - p) in
    let q = 2 ^ p - 1 in
    chosen_at w p (2 ^ z - 1) q u (u - 1) (is (2 ^ z) (2 ^ p) u whole (pow_pos p) (pow_pos (z - p))) (last u (pow_pos (z - p))) unit_is
    ∙ ap (λ (o : Ordering). step o q * u) (lean_rest w q u (u - 1) (two u u_two) false ∙ up w g)
    ∙ ap (λ (k : ℕ). k * u) (back (2 ^ p) (pow_pos p)) ∙ sym whole
  where
    whole : 2 ^ z ≡ 2 ^ p * 2 ^ (z - p)
    whole = ap (λ (k : ℕ). 2 ^ k) (split z h) ∙ pow-add 2 p (z - p)
      where
        split : (z : ℕ) → p < z → z ≡ p + (z - p)
        split z h = omega arith

    is : (Z Q u : ℕ) → Z ≡ Q * u → 0 < Q → 0 < u → Z - 1 ≡ (Q - 1) * u + (u - 1)
    is Z zero u e a b = absurd (omega arith)
    is Z (suc Q) u e a b = let f : (suc Q - 1) * u ≡ Q * u = ap (λ (k : ℕ). k * u) (pred Q) in omega (arith, suc-mul Q u)
      where
        pred : (q : ℕ) → suc q - 1 ≡ q
        pred q = omega arith

    last : (u : ℕ) → 0 < u → u - 1 < u
    last u h = omega arith

    two : (u : ℕ) → 2 ≤ u → 0 < u - 1
    two u h = omega arith

    back : (a : ℕ) → 0 < a → suc (a - 1) ≡ a
    back a h = omega arith

    u_two : 2 ≤ 2 ^ (z - p)
    u_two = pow_mono (go z h)
      where
        go : (z : ℕ) → p < z → 1 ≤ z - p
        go z h = omega arith

    size_ones : size (2 ^ z - 1) ≡ z
    size_ones = go z h
      where
        go : (z : ℕ) → p < z → size (2 ^ z - 1) ≡ z
        go zero h = absurd (omega arith)
        go (suc z) h = let e = pow-succ' 2 z in let k = pow_pos z in size_is (2 ^ suc z - 1) z (omega arith) (omega arith)

    unit_is : unit p (2 ^ z - 1) ≡ 2 ^ (z - p)
    unit_is = unfold unit in ap (λ (k : ℕ). 2 ^ (k - p)) size_ones

    odd : (p : ℕ) → 0 < p → eqb ((2 ^ p - 1) % 2) 0 ≡ false
    odd zero h = absurd (omega arith)
    odd (suc p) h = ne_eqb ((2 ^ suc p - 1) % 2) 0 (λ e. go (2 ^ p) (pow_pos p) (subst (λ (k : ℕ). (k - 1) % 2 ≡ 0) (pow-succ' 2 p) e))
      where
        go : (a : ℕ) → 0 < a → (2 * a - 1) % 2 ≡ 0 → ⊥
        go a h e = omega arith

    beyond : (u : ℕ) → 2 ≤ u → ((u - 1) * 2 ≡ u) ⊎ (u < (u - 1) * 2)
    beyond u h = elim (le_or_lt ((u - 1) * 2) u) [ inl k ↦ inl (omega arith) | inr k ↦ inr k ]

    middle : (((2 ^ (z - p)) - 1) * 2 ≡ 2 ^ (z - p)) ⊎ (2 ^ (z - p) < (2 ^ (z - p) - 1) * 2) → tie false (2 ^ p - 1) (compare ((2 ^ (z - p) - 1) * 2) (2 ^ (z - p))) ≡ Ordering.gt
    middle (inr k) = ap (tie false (2 ^ p - 1)) (compare_at Ordering.gt _ _ k)
    middle (inl k) = ap (tie false (2 ^ p - 1)) (compare_at Ordering.eq _ _ k) ∙ ap (λ (b : Bool). cond b Ordering.lt Ordering.gt) (odd p P)

    up : (v : Way) → goes_up v ≡ true → off v (2 ^ p - 1) (2 ^ (z - p)) (2 ^ (z - p) - 1) false ≡ Ordering.gt
    up under e = cc
    up over e = refl
    up near e = middle (beyond (2 ^ (z - p)) u_two)

-- a p-digit number above, or below, bounds the size
size_under : (w : Way) (p v m z : ℕ) → 0 < p → Rep p m → v ≤ m → m < 2 ^ z → size (chosen w p v) ≤ z
size_under w p v m z P t h k = size-le (chosen w p v) z (lt_of_le_of_lt (le_trans (chosen_mono w p v m P h) (le_of_eq (exact w p m P t))) k)

size_over : (w : Way) (p v m : ℕ) → 0 < p → Rep p m → m ≤ v → size m ≤ size (chosen w p v)
size_over w p v m P t h = size_mono m (chosen w p v) (le_trans (le_of_eq (sym (exact w p m P t))) (chosen_mono w p m v P h))

module _ (w : Way) (p n j : ℕ) (P : 0 < p) (M : 0 < n) (few : size n ≤ p) where
  abbrev C : ℕ
  C = 2 ^ j

  n_rep : Rep p (n * C)
  n_rep = full p j n P (le_of_lt (lt_of_lt_of_le (size-lt n) (pow_mono few)))

  next_rep : Rep p (suc n * C)
  next_rep = full p j (suc n) P (lt_of_lt_of_le (size-lt n) (pow_mono few))

  pub at_least : (v : Way) (a : ℕ) → size n + j ≤ size (chosen v p (n * C + a))
  at_least v a = le_trans (le_of_eq (sym (size_shift n j M))) (size_over v p (n * C + a) (n * C) P n_rep (more (n * C)))
    where
      more : (b : ℕ) → b ≤ b + a
      more b = omega arith

  -- ---- at most half a unit on

  module _ (a : ℕ) (half : Bool) (low : a * 2 ≤ C) (half_is : half ≡ eqb (a * 2) C) where
    -- fewer than p digits: the half is a p-digit number
    below : size n < p → size (chosen w p (n * C + a)) ≤ size n + j
    below h = go j refl
      where
        n_half : suc (n * 2) ≤ 2 ^ p
        n_half = le_trans (go (size-lt n)) (le_trans (le_of_eq (sym (pow-succ' 2 (size n)))) (pow_mono h))
          where
            go : n < 2 ^ size n → suc (n * 2) ≤ 2 * 2 ^ size n
            go k = omega arith

        go : (k : ℕ) → j ≡ k → size (chosen w p (n * C + a)) ≤ size n + j
        go zero e = size_under w p (n * C + a) (n * C) (size n + j) P n_rep (flat (subst (λ (z : ℕ). a * 2 ≤ 2 ^ z) e low)) (lt_of_lt_of_le (mul-lt-mul_of_pos_right (size-lt n) (pow_pos j)) (le_of_eq (sym (pow-add 2 (size n) j))))
          where
            flat : a * 2 ≤ 1 → n * C + a ≤ n * C
            flat h = omega arith
        go (suc k) e =
            let c : C ≡ 2 * 2 ^ k = ap (λ (z : ℕ). 2 ^ z) e ∙ pow-succ' 2 k in
            size_under w p (n * C + a) (suc (n * 2) * 2 ^ k) (size n + j) P (full p k (suc (n * 2)) P n_half) (up (2 ^ k) c)
            (lt_of_lt_of_le (top (2 ^ k) c (pow_pos k)) (le_trans (mul-le-mul_right C (size-lt n)) (le_of_eq (sym (pow-add 2 (size n) j)))))
          where
            up : (H : ℕ) → C ≡ 2 * H → n * C + a ≤ suc (n * 2) * H
            up H c = let d = ap (λ (z : ℕ). n * z) c in omega arith

            top : (H : ℕ) → C ≡ 2 * H → 0 < H → suc (n * 2) * H < suc n * C
            top H c h = let d = ap (λ (z : ℕ). n * z) c in omega (arith, suc-mul n C)

    no_short : size n < p → (v : Way) → short_least v p n half ≡ 0
    unfolding short_least
    no_short h near = not_ones half (ne_eqb (suc n) (2 ^ p) (λ e. small (lt_of_lt_of_le (size-lt n) (le_refl (2 ^ size n))) (le_trans (le_of_eq (sym (pow-succ' 2 (size n)))) (pow_mono h)) (pow_pos (size n)) e))
      where
        small : {a : ℕ} → n < a → 2 * a ≤ 2 ^ p → 0 < a → suc n ≡ 2 ^ p → ⊥
        small h k l e = omega arith

        not_ones : (b : Bool) → eqb (suc n) (2 ^ p) ≡ false → ◌≡◌ {A = ℕ} (cond (b && eqb (suc n) (2 ^ p)) 1 0) 0
        not_ones true e = rw e
        not_ones false e = refl
    no_short h under = refl
    no_short h over = refl

    -- just p digits, to nearest: the half is a tie
    tied : size n ≡ p → bump (lean near n C a false) p n ≡ short_least near p n half
    unfolding bump short_least off tie
    tied e = elim (le_or_lt C (a * 2)) [
      | inr h ↦ off_half (zero_or a) h ∙ rw (half_is, ne_eqb (a * 2) C (λ z. omega arith))
      | inl h ↦
          let k = le_antisymm low h in
          ap (λ (o : Ordering). bump o p n) (lean_rest near n C a (pos a k (pow_pos j)) false ∙ ap (tie false n) (compare_at Ordering.eq (a * 2) C k))
          ∙ parity (eqb (n % 2) 0) refl
          ∙ sym (ap (λ (b : Bool). cond (b && eqb (suc n) (2 ^ p)) 1 0) (half_is ∙ eq-eqb (a * 2) C k))
    ]
      where
        pos : (a : ℕ) → a * 2 ≡ C → 0 < C → 0 < a
        pos a e h = omega arith

        off_half : (a ≡ 0) ⊎ (0 < a) → a * 2 < C → bump (lean near n C a false) p n ≡ 0
        off_half (inl z) h = ap (λ (v : ℕ). bump (lean near n C v false) p n) z ∙ ap (λ (o : Ordering). bump o p n) (lean_exact near n C)
        off_half (inr k) h = ap (λ (o : Ordering). bump o p n) (lean_rest near n C a k false ∙ ap (tie false n) (compare_at Ordering.lt (a * 2) C h))

        even_pow : (q : ℕ) → 0 < q → 2 ^ q % 2 ≡ 0
        even_pow zero h = absurd (omega arith)
        even_pow (suc q) h = ap (λ (z : ℕ). z % 2) (pow-succ' 2 q) ∙ omega arith

        odd : {m : ℕ} → m % 2 ≡ 0 → n % 2 ≡ 0 → suc n ≡ m → ⊥
        odd h k e = omega arith

        parity : (b : Bool) → eqb (n % 2) 0 ≡ b → bump (cond b Ordering.lt Ordering.gt) p n ≡ cond (eqb (suc n) (2 ^ p)) 1 0
        parity true f = sym (ap (λ (b : Bool). cond b 1 0) (ne_eqb (suc n) (2 ^ p) (odd (even_pow p P) (borrow.Author.Tests.eqb-true (n % 2) 0 f))))
        parity false f = refl

    pub size_least_short : (Enough w p n → ⊥) → a < C → size (chosen w p (n * C + a)) ≡ size n + short_least w p n half + j
    size_least_short lack lt = elim (le_or_lt p (size n)) [
      | inr h ↦ le_antisymm (below h) (at_least w a) ∙ ap (λ (z : ℕ). z + j) (plain (size n) ∙ ap (λ (z : ℕ). size n + z) (sym (no_short h w)))
      | inl h ↦ go w lack (le_antisymm few h)
    ]
      where
        plain : (a : ℕ) → a ≡ a + 0
        plain a = omega arith

        none : (p : ℕ) → p - p ≡ 0
        none p = omega arith

        one : (c : ℕ) → 2 ^ 0 * c ≡ c
        one c = omega arith

        go : (v : Way) → (Enough v p n → ⊥) → size n ≡ p → size (chosen v p (n * C + a)) ≡ size n + short_least v p n half + j
        go under l z = absurd (l (le_of_eq (sym z)))
        go over l z = absurd (l (le_of_eq (sym z)))
        go near l z =
            ap size (chosen_at near p (n * C + a) n C a refl lt (unit_part p n j a M lt (le_of_eq (sym z)) ∙ ap (λ (k : ℕ). 2 ^ (k - p) * C) z ∙ ap (λ (k : ℕ). 2 ^ k * C) (none p) ∙ one C))
            ∙ size_bump (lean near n C a false) p n j P z
            ∙ ap (λ (b : ℕ). p + b + j) (tied z)
            ∙ ap (λ (b : ℕ). b + short_least near p n half + j) (sym z)

  -- ---- all ones below: n, then `tail` ones

  module _ (l tail b : ℕ) (cut : l + tail ≡ j) (ones : b + 2 ^ l ≡ C) where
    z : ℕ
    z = size n + tail

    lt : b < C
    lt = let h = pow_pos l in omega arith

    plain : (a : ℕ) → a ≡ a + 0
    plain a = omega arith

    -- nothing goes up
    stays : (v : Way) → size (chosen v p (n * C + b)) ≤ size n + j → short_most v p n tail ≡ 0 → size (chosen v p (n * C + b)) ≡ size n + short_most v p n tail + j
    stays v h e = le_antisymm h (at_least v b) ∙ ap (λ (x : ℕ). x + j) (plain (size n) ∙ ap (λ (x : ℕ). size n + x) (sym e))

    not_ones : (suc n ≡ 2 ^ size n → ⊥) → (v : Way) → size (chosen v p (n * C + b)) ≤ size n + j
    not_ones ne v =
        size_under v p (n * C + b) (suc n * C) (size n + j) P next_rep (omega (arith, suc-mul n C, lt))
        (lt_of_lt_of_le (mul-lt-mul_of_pos_right (go (size-lt n)) (pow_pos j)) (le_of_eq (sym (pow-add 2 (size n) j))))
      where
        go : n < 2 ^ size n → suc n < 2 ^ size n
        go h = elim (le_or_lt (2 ^ size n) (suc n)) [ inl k ↦ absurd (ne (le_antisymm h k)) | inr k ↦ k ]

    not_short : (suc n ≡ 2 ^ size n → ⊥) → (v : Way) → short_most v p n tail ≡ 0
    unfolding short_most
    not_short ne under = refl
    not_short ne near = rw (ne_eqb (suc n) (2 ^ size n) ne)
    not_short ne over = rw (ne_eqb (suc n) (2 ^ size n) ne)

    module _ (all : suc n ≡ 2 ^ size n) where
      value : n * C + b ≡ (2 ^ z - 1) * 2 ^ l
      unfolding z
      value =
          let e : suc n * C ≡ 2 ^ (size n + tail) * 2 ^ l = ap (λ (x : ℕ). x * C) all ∙ sym (pow-add 2 (size n) j) ∙ ap (λ (x : ℕ). 2 ^ x) (ap (λ (x : ℕ). size n + x) (sym cut) ∙ move (size n)) ∙ pow-add 2 (size n + tail) l in
          less (2 ^ (size n + tail)) (2 ^ l) (pow_pos (size n + tail)) e
        where
          move : (s : ℕ) → s + (l + tail) ≡ s + tail + l
          move s = omega arith

          less : (Z L : ℕ) → 0 < Z → suc n * C ≡ Z * 2 ^ l → n * C + b ≡ (Z - 1) * 2 ^ l
          less zero L h e = absurd (omega arith)
          less (suc Z) L h e = let f : (suc Z - 1) * 2 ^ l ≡ Z * 2 ^ l = ap (λ (k : ℕ). k * 2 ^ l) (pred Z) in omega (arith, suc-mul n C, suc-mul Z (2 ^ l))
            where
              pred : (q : ℕ) → suc q - 1 ≡ q
              pred q = omega arith

      fits : z ≤ p → (v : Way) → size (chosen v p (n * C + b)) ≤ size n + j
      fits h v =
          le_of_eq (ap size (exact v p (n * C + b) P (record { digits = 2 ^ z - 1; shift = l; few = lt_of_lt_of_le (ones_below (2 ^ z) (pow_pos z)) (pow_mono h); is = value }))
          ∙ size_part n j b M lt)
        where
          ones_below : (a : ℕ) → 0 < a → a - 1 < a
          ones_below a h = omega arith

      short_zero : z ≤ p → (v : Way) → short_most v p n tail ≡ 0
      unfolding short_most z
      short_zero h under = refl
      short_zero h near = rw (eq-eqb (suc n) (2 ^ size n) all, le-ltb p (size n + tail) h)
      short_zero h over = rw (eq-eqb (suc n) (2 ^ size n) all, le-ltb p (size n + tail) h)

      short_one : p < z → (v : Way) → goes_up v ≡ true → short_most v p n tail ≡ 1
      unfolding short_most z goes_up
      short_one h under e = cc
      short_one h near e = rw (eq-eqb (suc n) (2 ^ size n) all, lt-ltb p (size n + tail) h)
      short_one h over e = rw (eq-eqb (suc n) (2 ^ size n) all, lt-ltb p (size n + tail) h)

      raised : p < z → (v : Way) → goes_up v ≡ true → size (chosen v p (n * C + b)) ≡ size n + short_most v p n tail + j
      raised h v g =
          ap (λ (x : ℕ). size (chosen v p x)) value ∙ ap size (chosen_shift v p (2 ^ z - 1) l P ∙ ap (λ (x : ℕ). x * 2 ^ l) (ones_up v p z P h g))
          ∙ size_shift (2 ^ z) l (pow_pos z) ∙ ap (λ (x : ℕ). x + l) (size_pow z)
          ∙ sum ∙ ap (λ (x : ℕ). size n + x + j) (sym (short_one h v g))
        where
          sum : suc z + l ≡ size n + 1 + j
          sum = unfold z in omega (arith, cut)

      lowers : (v : Way) → goes_up v ≡ false → size (chosen v p (n * C + b)) ≡ size n + short_most v p n tail + j
      unfolding goes_up short_most
      lowers under e = stays under (le_trans (size_mono (chosen under p (n * C + b)) (n * C + b) (under_le p (n * C + b))) (le_of_eq (size_part n j b M lt))) refl
      lowers near e = cc
      lowers over e = cc

    pub size_most_short : size (chosen w p (n * C + b)) ≡ size n + short_most w p n tail + j
    size_most_short = elim (le_or_lt (2 ^ size n) (suc n)) [
      | inr h ↦ stays w (not_ones (λ e. omega arith) w) (not_short (λ e. omega arith) w)
      | inl h ↦ go (le_antisymm (size-lt n) h) (le_or_lt z p) (goes_up w) refl
    ]
      where
        go : suc n ≡ 2 ^ size n → (z ≤ p) ⊎ (p < z) → (g : Bool) → goes_up w ≡ g → size (chosen w p (n * C + b)) ≡ size n + short_most w p n tail + j
        go e (inl h) c g = stays w (fits e h w) (short_zero e h w)
        go e (inr h) true g = raised e h w g
        go e (inr h) false g = lowers e w g
