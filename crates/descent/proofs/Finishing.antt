-- What stands in the target where a walk ended is a run whose rounding is that of the sum. Assumes nothing.
use mathlib.Core.Path.{◌≡◌, refl, sym, ap, ◌∙◌, subst}
use mathlib.Core.Logic.{inl, inr}
use mathlib.Core.Bool.{Bool, true, false, not, cond, ◌&&◌, ◌||◌}
use mathlib.Core.List.{List, ◌++◌}
use Prim.Native.Nat.{ℕ, zero, suc, ◌+◌, ◌-◌, ◌*◌, ◌^◌, ◌≤◌, ◌<◌}
use native.Mathlib.Nat.{pow-zero, le_trans, mul-le-mul_right}
use Rattle.std.specs.Prelude.{is_some}
use Rattle.walk.proofs.Walking.{tail_lt}
use Rattle.descent.proofs.GoingDown.{room_some}
use Rattle.descent.proofs.JudgingRange.{digits_fit, digits_some}
use Rattle.rounding.proofs.Order.{le_or_lt}
use native.Mathlib.Decide.{ℕ_discrete}
use native.Mathlib.Omega.{arith}
use borrow.Author.Tests.{lt-ltb, le-leb, eq-eqb, eqb-true, not-false}
use lib.Dec.{ltb, eqb}
use lib.ListN.{length, get_or, take, drop, replicate, length-replicate}
use lib.Pow.{pow-add, pow_pos, pow_mono, pow-lt}
use lib.Ieee.{size}
use lib.Ieee.Digits.{size-lt}
use Rattle.limb.specs.Value.{value_in, value_of, Below}
use Rattle.limb.specs.Carry.{bit}
use Rattle.limb.proofs.Value.{value_append, value_lt, value_take_lt, base_pow}
use Rattle.numbers.specs.Limits.{least_precision, most_precision, most_exponent, limbs_for}
use Rattle.rounding.specs.Mode.{Way, way}
use Rattle.rounding.specs.Answer.{Answer, rounded}
use Rattle.rounding.specs.declared.Mode.{Mode}
use Rattle.decide.specs.Class.{enough}
use Rattle.decide.proofs.Settled.{Enough, enough_true}
use Rattle.place.specs.declared.Placed.{Placed}
use Rattle.place.specs.Placed.{run_number, run_answer, run_rule}
use Rattle.place.specs.Rounded.{rounded_placed, rounded_limbs}
use Rattle.kept.specs.Walk.{headed, whole}
use Rattle.place.proofs.Answer.{placed_passed, limbs_passed}
use Rattle.place.proofs.Rules.{rule_none}
use Rattle.kept.proofs.Reaching.{top_apart}
use Rattle.walk.specs.declared.state.Window.{Window}
use Rattle.walk.specs.Change.{ChangedFrom}
use Rattle.walk.specs.declared.change.Change.TheVariants.{Fall}
use Rattle.walk.specs.Window.{guard_of, head_of, TailIs, Shows}
use Rattle.walk.proofs.Showing.{whole_shows, tailed_shows, columns_open, columns_guarded}
use Rattle.bridge.proofs.Refine.{enough_digits, refine, refine_less, refine_borrow, scaled_up}
use Rattle.checks.specs.Room.{Room}
use Rattle.descent.specs.Finishing.{Cleared, Ending, Left, HoleSays}
use Rattle.settle.specs.declared.rows.Pair.{Pair}
use Rattle.bridge.specs.Verdict.{hole_way}

-- ---- limbs cleared

zeros_worth : (B n : ℕ) → value_in B (replicate n 0) ≡ 0
unfolding value_in
zeros_worth B zero = refl
zeros_worth B (suc n) = rw (zeros_worth B n) (omega arith)

pub cleared : (n : ℕ) (before after : List ℕ) → length after ≡ length before → after ≡ replicate n 0 ++ drop n before → Cleared n before after
cleared n before after l e = record {
  size = l;
  value =
      ap (value_in (2 ^ 64)) e ∙ value_append (2 ^ 64) (replicate n 0) (drop n before)
      ∙ rw (zeros_worth (2 ^ 64) n, length-replicate {A = ℕ} n 0) (alone ((2 ^ 64) ^ n * value_of (drop n before)));
}
  where
    alone : (m : ℕ) → 0 + m ≡ m
    alone m = omega arith

-- ---- a run

-- a run as great as its target's weights has a first digit there
module _ (carry : Bool) (t : List ℕ) (guard : ℕ) (lim : Below (2 ^ 64) t) (lt : guard < 2 ^ 64) (some : 0 < length t) (high : 2 ^ (64 * length t) ≤ whole carry t guard) where
  empty_top : carry ≡ false → get_or t (length t - 1) 0 ≡ 0 → ⊥
  unfolding whole headed bit
  empty_top f z =
      let v : value_of t < 2 ^ (64 * (length t - 1)) = rw (top_apart (2 ^ 64) t some, z) (small (value_in (2 ^ 64) (take (length t - 1) t)) ((2 ^ 64) ^ (length t - 1)) (2 ^ (64 * (length t - 1))) (value_take_lt (2 ^ 64) (length t - 1) t lim) (base_pow (length t - 1))) in
      let h : 2 ^ (64 * length t) ≤ (bit false * 2 ^ (64 * length t) + value_of t) * 2 ^ 64 + guard = rw f at high in
      over (2 ^ (64 * length t)) (2 ^ (64 * (length t - 1))) (2 ^ 64) (value_of t) guard (ap (λ (n : ℕ). 2 ^ n) (split (length t) some) ∙ pow-add 2 (64 * (length t - 1)) 64) h v lt
    where
      small : (v b c : ℕ) → v < b → b ≡ c → v + b * 0 < c
      small v b c h e = omega arith

      split : (n : ℕ) → 0 < n → 64 * n ≡ 64 * (n - 1) + 64
      split n h = omega arith

      over : (P Q B v g : ℕ) → P ≡ Q * B → P ≤ (0 * P + v) * B + g → v < Q → g < B → ⊥
      over P Q B v g e h a b = let m : suc v * B ≤ Q * B = mul-le-mul_right B a in omega arith

  top_some : (carry || ltb 0 (get_or t (length t - 1) 0)) ≡ true
  top_some = go carry refl (ℕ_discrete (get_or t (length t - 1) 0) 0)
    where
      go : (c : Bool) → carry ≡ c → Dec (get_or t (length t - 1) 0 ≡ 0) → (c || ltb 0 (get_or t (length t - 1) 0)) ≡ true
      go true e d = refl
      go false e (yes z) = absurd (empty_top e z)
      go false e (no n) = lt-ltb 0 (get_or t (length t - 1) 0) (nonzero (get_or t (length t - 1) 0) n)
        where
          nonzero : (a : ℕ) → (a ≡ 0 → ⊥) → 0 < a
          nonzero zero h = absurd (h refl)
          nonzero (suc a) h = omega arith

module _ (mode : Mode) (p : ℕ) (negative : Bool) (unit : ℕ) (carry : Bool) (t : List ℕ) (guard : ℕ) (more : Bool) where
  run_passes : Room p (length t) → Below (2 ^ 64) t → guard < 2 ^ 64 → 0 < unit → unit ≤ 2 * most_exponent → 2 ^ (64 * length t) ≤ whole carry t guard → run_rule p carry t unit ≡ 0
  run_passes r lim lt u v high =
      sym (rule_none p carry t unit (rw (le-leb least_precision p r.least, le-leb p most_precision r.most) refl) (eq-eqb (length t) (limbs_for p) r.count) (rw (lt-ltb 0 unit u, le-leb unit (2 * most_exponent) v) refl) (top_some carry t guard lim lt (room_some p (length t) r) high))

  -- what rounding such a run leaves
  pub run_left : Room p (length t) → Below (2 ^ 64) t → guard < 2 ^ 64 → 0 < unit → unit ≤ 2 * most_exponent → 2 ^ (64 * length t) ≤ whole carry t guard
      → {exit : List ℕ} {r : Placed} → r ≡ rounded_placed mode p negative unit carry t guard more → exit ≡ rounded_limbs mode p negative unit carry t guard more
      → Left p (rounded (way mode negative) p (unit - 1) negative (2 * whole carry t guard + bit more)) exit r
  unfolding run_answer run_number whole headed
  run_left room lim lt u v high e f =
      let k = run_passes room lim lt u v high in
      record { told = e ∙ placed_passed mode p negative unit carry t guard more k; limbs = f ∙ limbs_passed mode p negative unit carry t guard more k }

-- ---- the window as a run

module _ (w : Window) (before after : List ℕ) (k D : ℕ) (s : Shows w before k D) (e : Cleared (length before - w.filled) before after) (pos : 0 < D) where
  abbrev N : ℕ
  N = whole w.carry after (guard_of w)

  abbrev L : ℕ
  L = length before

  -- without a guard: D, moved up to the guard's place
  pub open_run : is_some w.guard ≡ false → N ≡ D * 2 ^ (64 * (L + 1 - w.filled))
  unfolding whole headed head_of
  open_run g =
      let i = whole_shows w before k D s g in
      let u = value_of (drop (L - w.filled) before) in
      let c = bit w.carry in
      rw (e.size, e.value, base_pow (L - w.filled), i.guard, i.value) (
      moved c (2 ^ (64 * L)) (2 ^ (64 * w.filled)) (2 ^ (64 * (L - w.filled))) u (2 ^ 64) (2 ^ (64 * (L + 1 - w.filled)))
      (ap (λ (n : ℕ). 2 ^ n) (part L w.filled s.fits.within) ∙ pow-add 2 (64 * w.filled) (64 * (L - w.filled)))
      (ap (λ (n : ℕ). 2 ^ n) (next L w.filled s.fits.within) ∙ pow-add 2 (64 * (L - w.filled)) 64))
    where
      part : (L f : ℕ) → f ≤ L → 64 * L ≡ 64 * f + 64 * (L - f)
      part L f h = omega arith

      next : (L f : ℕ) → f ≤ L → 64 * (L + 1 - f) ≡ 64 * (L - f) + 64
      next L f h = omega arith

      moved : (c P F G x B H : ℕ) → P ≡ F * G → H ≡ G * B → (c * P + G * x) * B + 0 ≡ (c * F + x) * H
      moved c P F G x B H a b = let u = ap (λ (n : ℕ). c * n * B) a in let v = ap (λ (n : ℕ). (c * F + x) * n) b in omega arith

  -- with a guard: D without what lies below
  pub guarded_run : is_some w.guard ≡ true → D ≡ N * 2 ^ (64 * s.below) + s.rest
  unfolding whole headed head_of
  guarded_run g =
      let i = tailed_shows w before k D s g in
      let z : L - w.filled ≡ 0 = rw i.full (none L) in
      i.value ∙ sym (rw (e.size, e.value, z, pow-zero (2 ^ 64), i.full) (same (bit w.carry * 2 ^ (64 * L)) (value_of (drop 0 before)) (2 ^ 64) (guard_of w) (2 ^ (64 * s.below)) s.rest))
    where
      none : (n : ℕ) → n - n ≡ 0
      none n = omega arith

      same : (a v B g K r : ℕ) → ((a + 1 * v) * B + g) * K + r ≡ ((a + v) * B + g) * K + r
      same a v B g K r = omega arith

  -- the run is as great as the target's weights, and greater where nothing lies below
  guarded_lead : is_some w.guard ≡ true → 2 ^ (64 * L) * 2 ^ (64 * s.below) < D
  guarded_lead g =
      let i = tailed_shows w before k D s g in
      let f : 0 < w.filled = rw i.full s.fits.limbs in
      let h : 2 ^ (64 * (w.filled + 1 + s.below - 1)) < D = rw (columns_guarded w before g) at (s.leads f) in
      subst (λ (n : ℕ). n < D) (ap (λ (n : ℕ). 2 ^ n) (next w.filled L s.below i.full) ∙ pow-add 2 (64 * L) (64 * s.below)) h
    where
      next : (f L b : ℕ) → f ≡ L → 64 * (f + 1 + b - 1) ≡ 64 * L + 64 * b
      next f L b e = omega arith

  open_lead : is_some w.guard ≡ false → 2 ^ (64 * L) < N
  open_lead g = rw (open_run g) (go w.filled refl s.fits.within (λ f. rw (columns_open w before g, (whole_shows w before k D s g).below) at (s.leads f)))
    where
      go : (f : ℕ) → w.filled ≡ f → w.filled ≤ L → (0 < w.filled → 2 ^ (64 * (w.filled + 0 - 1)) < D) → 2 ^ (64 * L) < D * 2 ^ (64 * (L + 1 - w.filled))
      go zero e h lead = rw e (times D (2 ^ (64 * (L + 1 - 0))) (2 ^ (64 * L)) pos (pow-lt (omega arith)))
        where
          times : (d h q : ℕ) → 0 < d → q < h → q < d * h
          times zero h q a b = elim a [ ]
          times (suc d) h q a b = omega arith
      go (suc f) e h lead =
          let t : 2 ^ (64 * (w.filled + 0 - 1)) < D = lead (omega arith) in
          subst (λ (n : ℕ). n < D * 2 ^ (64 * (L + 1 - w.filled))) (sym (ap (λ (n : ℕ). 2 ^ n) (next L w.filled h (omega arith)) ∙ pow-add 2 (64 * (w.filled + 0 - 1)) (64 * (L + 1 - w.filled))))
          (scaled (2 ^ (64 * (w.filled + 0 - 1))) D (2 ^ (64 * (L + 1 - w.filled))) t (pow_pos (64 * (L + 1 - w.filled))))
        where
          next : (L f : ℕ) → f ≤ L → 0 < f → 64 * L ≡ 64 * (f + 0 - 1) + 64 * (L + 1 - f)
          next L f a b = omega arith

          scaled : (q d h : ℕ) → q < d → 0 < h → q * h < d * h
          scaled q d h a b = let m : suc q * h ≤ d * h = mul-le-mul_right h a in omega arith

  abbrev R : ℕ
  R = s.rest

  rest_lt : R < 2 ^ (64 * s.below)
  rest_lt = tail_lt w.tail s.below s.rest s.tail

  pub lead_ge : 2 ^ (64 * L) ≤ N
  lead_ge = go (is_some w.guard) refl
    where
      cut : (P K n r d : ℕ) → P * K < d → d ≡ n * K + r → r < K → P ≤ n
      cut P K n r d a b c = elim (le_or_lt P n) [ inl h ↦ h | inr h ↦ absurd (let m : suc n * K ≤ P * K = mul-le-mul_right K h in omega arith) ]

      go : (b : Bool) → is_some w.guard ≡ b → 2 ^ (64 * L) ≤ N
      go true g = cut (2 ^ (64 * L)) (2 ^ (64 * s.below)) N R D (guarded_lead g) (guarded_run g) rest_lt
      go false g = let h = open_lead g in omega arith

  pub lead_gt : R ≡ 0 → 2 ^ (64 * L) < N
  lead_gt z = go (is_some w.guard) refl
    where
      cut : (P K n r d : ℕ) → P * K < d → d ≡ n * K + r → r ≡ 0 → P < n
      cut P K n r d a b c = elim (le_or_lt n P) [ inl h ↦ absurd (let m : n * K ≤ P * K = mul-le-mul_right K h in omega arith) | inr h ↦ h ]

      go : (b : Bool) → is_some w.guard ≡ b → 2 ^ (64 * L) < N
      go true g = cut (2 ^ (64 * L)) (2 ^ (64 * s.below)) N R D (guarded_lead g) (guarded_run g) z
      go false g = open_lead g

  -- ---- and its answer

  module _ (p top : ℕ) (end : Ending p top w before) (above : 64 * k < top) where
    abbrev unit : ℕ
    unit = top - 64 * (w.skipped + L + 1)

    module _ (y : Way) (negative : Bool) where
      P_pos : 0 < p
      P_pos = digits_some p L end.room

      -- more digits than are asked for
      pub digits : (n : ℕ) → 2 ^ (64 * L) ≤ n → Enough y p n
      digits n h = enough_digits y p n (elim (le_or_lt (size n) p) [ inl g ↦ absurd (over n (2 ^ size n) (2 ^ (64 * L)) (size-lt n) (pow_mono (le_trans g (digits_fit p L end.room))) h) | inr g ↦ g ])
        where
          over : (n a b : ℕ) → n < a → a ≤ b → b ≤ n → ⊥
          over n a b f g h = omega arith

      guarded_unit : is_some w.guard ≡ true → top - 64 * k + 64 * s.below ≡ unit
      guarded_unit g = let i = tailed_shows w before k D s g in go w.skipped w.filled L s.below i.full i.columns
        where
          go : (s f L b : ℕ) → f ≡ L → s + (f + 1) + b ≡ k → top - 64 * k + 64 * b ≡ top - 64 * (s + L + 1)
          go s f L b e h = omega arith

      open_unit : is_some w.guard ≡ false → top - 64 * k - 64 * (L + 1 - w.filled) ≡ unit
      open_unit g = go w.skipped w.filled L s.fits.within (whole_shows w before k D s g).columns
        where
          go : (s f L : ℕ) → f ≤ L → s + f ≡ k → top - 64 * k - 64 * (L + 1 - f) ≡ top - 64 * (s + L + 1)
          go s f L a h = omega arith

      open_room : is_some w.guard ≡ false → 64 * k + 64 * (L + 1 - w.filled) ≡ 64 * (w.skipped + L + 1)
      open_room g = go w.skipped w.filled L s.fits.within (whole_shows w before k D s g).columns
        where
          go : (s f L : ℕ) → f ≤ L → s + f ≡ k → 64 * k + 64 * (L + 1 - f) ≡ 64 * (s + L + 1)
          go s f L a h = omega arith

      pub fixed_run : (more deep : Bool) → (more ≡ true → enough y p D ≡ true) → deep ≡ not (eqb R 0)
          → rounded y p (top - 64 * k - 1) negative (2 * D + bit more) ≡ rounded y p (unit - 1) negative (2 * N + bit (more || deep))
      fixed_run more deep en d = go (is_some w.guard) refl
        where
          plain : (m : Bool) → m ≡ (m || false)
          plain true = refl
          plain false = refl

          go : (b : Bool) → is_some w.guard ≡ b → rounded y p (top - 64 * k - 1) negative (2 * D + bit more) ≡ rounded y p (unit - 1) negative (2 * N + bit (more || deep))
          go true g =
              ap (λ (n : ℕ). rounded y p (top - 64 * k - 1) negative (2 * n + bit more)) (guarded_run g)
              ∙ refine y p P_pos negative (top - 64 * k) N s.below R (omega arith) rest_lt more (digits N lead_ge)
              ∙ ap (λ (n : ℕ). rounded y p (n - 1) negative (2 * N + bit (more || not (eqb R 0)))) (guarded_unit g)
              ∙ ap (λ (b : Bool). rounded y p (unit - 1) negative (2 * N + bit (more || b))) (sym d)
          go false g =
              let j = L + 1 - w.filled in
              let z : deep ≡ false = d ∙ rw (whole_shows w before k D s g).rest refl in
              sym (scaled_up y p P_pos negative (top - 64 * k) D j more (room (64 * k) (64 * j) (64 * (w.skipped + L + 1)) top (open_room g) end.above) pos (λ m. enough_true y p D (en m)))
              ∙ ap (λ (n : ℕ). rounded y p (n - 1) negative (2 * (D * 2 ^ (64 * j)) + bit more)) (open_unit g)
              ∙ ap (λ (n : ℕ). rounded y p (unit - 1) negative (2 * n + bit more)) (sym (open_run g))
              ∙ ap (λ (b : Bool). rounded y p (unit - 1) negative (2 * N + bit b)) (plain more ∙ ap (λ (b : Bool). more || b) (sym z))
            where
              room : (a b c t : ℕ) → a + b ≡ c → c < t → b + 1 ≤ t - a
              room a b c t e h = omega arith

      -- in a hole: a little more, or a little less
      module _ (pair : Pair) (deep : Bool) (d : deep ≡ not (eqb R 0)) where
        abbrev told : ℕ → Answer
        told n = rounded y p (unit - 1) negative n

        some_rest : deep ≡ true → 0 < R
        some_rest e = go R (sym d ∙ e)
          where
            go : (r : ℕ) → not (eqb r 0) ≡ true → 0 < r
            go zero f = absurd (let z : ◌≡◌ {A = ℕ} 0 1 = cc in omega arith)
            go (suc r) f = omega arith

        no_rest : deep ≡ false → R ≡ 0
        no_rest e = eqb-true R 0 (not-false (eqb R 0) (sym d ∙ e))

        -- with a guard nothing is added below it
        module _ (g : is_some w.guard ≡ true) where
          far_enough : p + 1 < 64 * k + 64 * 0
          far_enough = let i = tailed_shows w before k D s g in go w.skipped w.filled L s.below i.full i.columns (digits_fit p L end.room)
            where
              go : (s f L b : ℕ) → f ≡ L → s + (f + 1) + b ≡ k → p ≤ 64 * L → p + 1 < 64 * k + 64 * 0
              go s f L b e h l = omega arith

          flat : (top - 64 * k - 64 * 0 - 1 ≡ top - 64 * k - 1) × (D * 2 ^ (64 * 0) ≡ N * 2 ^ (64 * s.below) + R)
          flat = (omega arith, omega (arith, guarded_run g))

          guarded_more : rounded y p (top - 64 * k - 64 * 0 - 1) negative (2 * (D * 2 ^ (64 * 0)) + 1) ≡ told (2 * N + 1)
          unfolding bit
          guarded_more =
              rw (flat.0, flat.1) (refine y p P_pos negative (top - 64 * k) N s.below R (omega arith) rest_lt true (digits N lead_ge)
              ∙ ap (λ (n : ℕ). rounded y p (n - 1) negative (2 * N + 1)) (guarded_unit g))

          guarded_less : deep ≡ true → rounded y p (top - 64 * k - 64 * 0 - 1) negative (2 * (D * 2 ^ (64 * 0)) - 1) ≡ told (2 * N + 1)
          guarded_less e =
              rw (flat.0, flat.1) (refine_less y p P_pos negative (top - 64 * k) N s.below R (omega arith) rest_lt (some_rest e) (digits N lead_ge)
              ∙ ap (λ (n : ℕ). rounded y p (n - 1) negative (2 * N + 1)) (guarded_unit g))

          guarded_borrow : deep ≡ false → rounded y p (top - 64 * k - 64 * 0 - 1) negative (2 * (D * 2 ^ (64 * 0)) - 1) ≡ told (2 * N - 1)
          guarded_borrow e =
              rw (flat.0, flat.1) (refine_borrow y p P_pos negative (top - 64 * k) N s.below R (omega arith) rest_lt (no_rest e) (digits (N - 1) (one (2 ^ (64 * L)) N (lead_gt (no_rest e))))
              ∙ ap (λ (n : ℕ). rounded y p (n - 1) negative (2 * N - 1)) (guarded_unit g))
            where
              one : (a n : ℕ) → a < n → a ≤ n - 1
              one a n h = omega arith

        module _ (top_is : top ≡ pair.top) (a : Answer) (says : (b : ℕ) → p + 1 < 64 * k + 64 * b → 64 * k + 64 * b + 1 ≤ pair.top
            → a ≡ rounded y p (pair.top - 64 * k - 64 * b - 1) negative (cond pair.same (2 * (D * 2 ^ (64 * b)) + 1) (2 * (D * 2 ^ (64 * b)) - 1))) where
          said : (b : ℕ) → p + 1 < 64 * k + 64 * b → 64 * k + 64 * b + 1 ≤ top → a ≡ rounded y p (top - 64 * k - 64 * b - 1) negative (cond pair.same (2 * (D * 2 ^ (64 * b)) + 1) (2 * (D * 2 ^ (64 * b)) - 1))
          said = rw top_is says

          -- without a guard, the columns that the target has below
          open_said : is_some w.guard ≡ false → a ≡ told (cond pair.same (2 * N + 1) (2 * N - 1))
          open_said g =
              let j = L + 1 - w.filled in
              said j (subst (λ (n : ℕ). p + 1 < n) (sym (open_room g)) (far w.skipped L (digits_fit p L end.room))) (subst (λ (n : ℕ). n + 1 ≤ top) (sym (open_room g)) (next (64 * (w.skipped + L + 1)) top end.above))
              ∙ ap (λ (n : ℕ). rounded y p (n - 1) negative (cond pair.same (2 * (D * 2 ^ (64 * j)) + 1) (2 * (D * 2 ^ (64 * j)) - 1))) (open_unit g)
              ∙ ap (λ (n : ℕ). told (cond pair.same (2 * n + 1) (2 * n - 1))) (sym (open_run g))
            where
              far : (s L : ℕ) → p ≤ 64 * L → p + 1 < 64 * (s + L + 1)
              far s L h = omega arith

              next : (a t : ℕ) → a < t → a + 1 ≤ t
              next a t h = omega arith

          guarded_said : is_some w.guard ≡ true → a ≡ rounded y p (top - 64 * k - 64 * 0 - 1) negative (cond pair.same (2 * (D * 2 ^ (64 * 0)) + 1) (2 * (D * 2 ^ (64 * 0)) - 1))
          guarded_said g = said 0 (far_enough g) (omega arith)

          pub hole_more : (pair.same || deep) ≡ true → a ≡ told (2 * N + 1)
          hole_more h = go (is_some w.guard) pair.same deep refl refl refl h
            where
              go : (u v z : Bool) → is_some w.guard ≡ u → pair.same ≡ v → deep ≡ z → (v || z) ≡ true → a ≡ told (2 * N + 1)
              go false true z g e f h = open_said g ∙ rw e refl
              go false false true g e f h = absurd (let i : R ≡ 0 = (whole_shows w before k D s g).rest in let j = some_rest f in omega arith)
              go false false false g e f h = absurd (let z : ◌≡◌ {A = ℕ} 0 1 = cc in omega arith)
              go true true z g e f h = guarded_said g ∙ rw e (guarded_more g)
              go true false true g e f h = guarded_said g ∙ rw e (guarded_less g f)
              go true false false g e f h = absurd (let z : ◌≡◌ {A = ℕ} 0 1 = cc in omega arith)

          pub hole_less : (pair.same || deep) ≡ false → a ≡ told (2 * N - 1)
          hole_less h = go (is_some w.guard) pair.same deep refl refl refl h
            where
              go : (u v z : Bool) → is_some w.guard ≡ u → pair.same ≡ v → deep ≡ z → (v || z) ≡ false → a ≡ told (2 * N - 1)
              go u true z g e f h = absurd (let z : ◌≡◌ {A = ℕ} 0 1 = cc in omega arith)
              go u false true g e f h = absurd (let z : ◌≡◌ {A = ℕ} 0 1 = cc in omega arith)
              go false false false g e f h = open_said g ∙ rw e refl
              go true false false g e f h = guarded_said g ∙ rw e (guarded_borrow g f)

-- ---- as the code finds it

module _ (mode : Mode) (p top : ℕ) (negative : Bool) (w : Window) (before after : List ℕ) (end : Ending p top w before) (e : Cleared (length before - w.filled) before after)
    (lim : Below (2 ^ 64) after) (deep : Bool) (d : (t q : ℕ) → TailIs w.tail t q → deep ≡ not (eqb q 0)) where
  abbrev place : ℕ
  place = top - 64 * (w.skipped + length before + 1)

  room_after : Room p (length after)
  room_after = rw e.size end.room

  place_some : 0 < place
  place_some = go (64 * (w.skipped + length before + 1)) end.above
    where
      go : (a : ℕ) → a < top → 0 < top - a
      go a h = omega arith

  place_near : place ≤ 2 * most_exponent
  place_near = go (64 * (w.skipped + length before + 1)) (2 * most_exponent) end.near
    where
      go : (a b : ℕ) → top ≤ b → top - a ≤ b
      go a b h = omega arith

  pub hole_ready : Room p (length after) × (0 < place) × (place ≤ 2 * most_exponent)
  hole_ready = (room_after, place_some, place_near)

  left_run : (by : Mode) (more : Bool) → 2 ^ (64 * length before) ≤ whole w.carry after (guard_of w) → {exit : List ℕ} {r : Placed}
      → r ≡ rounded_placed by p negative place w.carry after (guard_of w) more → exit ≡ rounded_limbs by p negative place w.carry after (guard_of w) more
      → Left p (rounded (way by negative) p (place - 1) negative (2 * whole w.carry after (guard_of w) + bit more)) exit r
  left_run by more h a b = run_left by p negative place w.carry after (guard_of w) more room_after lim end.fits.guard_fits place_some place_near (rw e.size h) a b

  pub fixed_left : (more : Bool) → {exit : List ℕ} {r : Placed}
      → r ≡ rounded_placed mode p negative place w.carry after (guard_of w) (more || deep) → exit ≡ rounded_limbs mode p negative place w.carry after (guard_of w) (more || deep)
      → (k D : ℕ) → Shows w before k D → 0 < D → 64 * k < top → (more ≡ true → enough (way mode negative) p D ≡ true)
      → Left p (rounded (way mode negative) p (top - 64 * k - 1) negative (2 * D + bit more)) exit r
  fixed_left more {exit} {r} a b k D s pos above en =
      rw (fixed_run w before after k D s e pos p top end above (way mode negative) negative more deep en (d s.below s.rest s.tail))
      (left_run mode (more || deep) (lead_ge w before after k D s e pos) a b)

  module _ (pair : Pair) (top_is : top ≡ pair.top) (by : Mode) (by_is : way by negative ≡ hole_way (way mode negative) p pair) where
    pub hole_more_left : (pair.same || deep) ≡ true → {exit : List ℕ} {r : Placed}
        → r ≡ rounded_placed by p negative place w.carry after (guard_of w) true → exit ≡ rounded_limbs by p negative place w.carry after (guard_of w) true
        → (a : Answer) (k D : ℕ) → Shows w before k D → 0 < D → 64 * k < pair.top → HoleSays (way mode negative) p pair negative k D a → Left p a exit r
    unfolding bit
    hole_more_left h f g a k D s pos above says =
        rw (hole_more w before after k D s e pos p top end (rw top_is above) (way by negative) negative pair deep (d s.below s.rest s.tail) top_is a (rw by_is says) h)
        (left_run by true (lead_ge w before after k D s e pos) f g)

    pub hole_less_left : (pair.same || deep) ≡ false → {exit : List ℕ} {r : Placed}
        → (2 ^ (64 * length after) < whole w.carry after (guard_of w) → Left p (rounded (way by negative) p (place - 1) negative (2 * whole w.carry after (guard_of w) - 1)) exit r)
        → (a : Answer) (k D : ℕ) → Shows w before k D → 0 < D → 64 * k < pair.top → HoleSays (way mode negative) p pair negative k D a → Left p a exit r
    hole_less_left h left a k D s pos above says =
        rw (hole_less w before after k D s e pos p top end (rw top_is above) (way by negative) negative pair deep (d s.below s.rest s.tail) top_is a (rw by_is says) h)
        (left (rw e.size (lead_gt w before after k D s e pos (no_rest w before after k D s e pos p top end (rw top_is above) (way by negative) negative pair deep (d s.below s.rest s.tail) (second pair.same deep h)))))
      where
        second : (u v : Bool) → (u || v) ≡ false → v ≡ false
        second true v e = absurd (let z : ◌≡◌ {A = ℕ} 0 1 = cc in omega arith)
        second false v e = e

-- ---- a run less one

module _ (mode : Mode) (p unit : ℕ) (negative carry : Bool) (t : List ℕ) (room : Room p (length t)) (u : 0 < unit) (v : unit ≤ 2 * most_exponent) where
  pub less_guard : (guard : ℕ) → (guard ≡ 0 → ⊥) → guard < 2 ^ 64 → Below (2 ^ 64) t → {exit : List ℕ} {r : Placed}
      → r ≡ rounded_placed mode p negative unit carry t (guard - 1) true → exit ≡ rounded_limbs mode p negative unit carry t (guard - 1) true
      → 2 ^ (64 * length t) < whole carry t guard → Left p (rounded (way mode negative) p (unit - 1) negative (2 * whole carry t guard - 1)) exit r
  unfolding whole bit
  less_guard guard n lt lim {exit} {r} a b h =
      let i : whole carry t guard ≡ suc (whole carry t (guard - 1)) = last (headed carry t * 2 ^ 64) guard n in
      rw i (subst (λ (m : ℕ). Left p (rounded (way mode negative) p (unit - 1) negative m) exit r) (twice (whole carry t (guard - 1)))
      (run_left mode p negative unit carry t (guard - 1) true room lim (omega arith) u v (below (2 ^ (64 * length t)) (whole carry t guard) (whole carry t (guard - 1)) h i) a b))
    where
      last : (m g : ℕ) → (g ≡ 0 → ⊥) → m + g ≡ suc (m + (g - 1))
      last m zero n = absurd (n refl)
      last m (suc g) n = omega arith

      twice : (m : ℕ) → 2 * m + 1 ≡ 2 * suc m - 1
      twice m = omega arith

      below : (a m n : ℕ) → a < m → m ≡ suc n → a ≤ n
      below a m n h e = omega arith

  fallen : (c out : Bool) (Q va vb K m : ℕ) → suc m ≡ K → va + 1 ≡ vb + Q * bit out → va < Q → Q < (bit c * Q + vb) * K + 0
      → (bit c * Q + vb) * K + 0 ≡ suc ((bit (c && not out) * Q + va) * K + m)
  unfolding bit
  fallen true false Q va vb K m e f l h = let g : vb ≡ va + 1 = omega arith in rw g (omega arith)
  fallen false false Q va vb K m e f l h = let g : vb ≡ va + 1 = omega arith in rw g (omega arith)
  fallen true true Q va vb K m e f l h =
      let g : vb ≡ 0 = omega arith in
      let i : Q ≡ va + 1 = omega arith in
      rw g (ap (λ (n : ℕ). (1 * n + 0) * K + 0) i ∙ omega arith)
  fallen false true Q va vb K m e f l h = let g : vb ≡ 0 = omega arith in absurd (let k : Q < (0 * Q + 0) * K + 0 = rw g at h in omega arith)

  pub less_fall : (guard : ℕ) → guard ≡ 0 → (after : List ℕ) (out : Bool) → ChangedFrom Fall 0 t after out → Below (2 ^ 64) after → {exit : List ℕ} {r : Placed}
      → r ≡ rounded_placed mode p negative unit (carry && not out) after 18446744073709551615 true → exit ≡ rounded_limbs mode p negative unit (carry && not out) after 18446744073709551615 true
      → 2 ^ (64 * length t) < whole carry t guard → Left p (rounded (way mode negative) p (unit - 1) negative (2 * whole carry t guard - 1)) exit r
  unfolding whole headed
  less_fall guard z after out fall lim {exit} {r} a b h =
      let l = fall.same_length in
      let Q = 2 ^ (64 * length t) in
      let vl : value_of after < Q = subst (λ (n : ℕ). value_of after < n) (ap (λ (n : ℕ). (2 ^ 64) ^ n) l ∙ base_pow (length t)) (value_lt (2 ^ 64) after lim) in
      let f : value_of after + 1 ≡ value_of t + Q * bit out = rw (pow-zero (2 ^ 64), base_pow (length t)) at fall.value in
      let i : whole carry t guard ≡ suc (whole (carry && not out) after 18446744073709551615) =
      rw (z, l) (fallen carry out Q (value_of after) (value_of t) (2 ^ 64) 18446744073709551615 refl f vl (rw z at h)) in
      rw i (subst (λ (m : ℕ). Left p (rounded (way mode negative) p (unit - 1) negative m) exit r) (twice (whole (carry && not out) after 18446744073709551615))
      (run_left mode p negative unit (carry && not out) after 18446744073709551615 true (rw l room) lim (omega arith) u v (subst (λ (m : ℕ). 2 ^ (64 * m) ≤ whole (carry && not out) after 18446744073709551615) (sym l) (below Q (whole carry t guard) (whole (carry && not out) after 18446744073709551615) h i)) a b))
    where
      twice : (m : ℕ) → 2 * m + bit true ≡ 2 * suc m - 1
      twice m = unfold bit in omega arith

      below : (a m n : ℕ) → a < m → m ≡ suc n → a ≤ n
      below a m n h e = omega arith
