-- A sum or a difference of two columns by the sign that selects it, and two limbs written at the top of a target. Assumes nothing.
use mathlib.Core.Path.{◌≡◌, refl, sym, ap, ◌∙◌}
use mathlib.Core.Bool.{Bool, true, false, cond, true≢false}
use mathlib.Core.List.{List}
use Prim.Native.Nat.{ℕ, zero, suc, ◌+◌, ◌-◌, ◌*◌, ◌^◌, ◌≤◌, ◌<◌}
use native.Mathlib.Nat.{pow-succ'}
use native.Mathlib.Omega.{arith}
use lib.ListN.{length, get_or, set, replicate, length-set, length-replicate, get_or-replicate}
use lib.Seq.{get_or-set_other}
use Rattle.limb.specs.Value.{value_in}
use Rattle.limb.specs.Carry.{bit}
use Rattle.limb.proofs.Value.{value_set}
use Rattle.twolimbs.specs.Two.{head_in}

-- ---- one of them

pub combined : (same : Bool) (a b c h : ℕ) → same ≡ true → h ≡ a + b → b ≡ c → h ≡ cond same (a + c) (a - c)
combined true a b c h s e f = e ∙ ap (λ (m : ℕ). a + m) f
combined false a b c h s e f = absurd (true≢false (sym s))

-- a limb with zeros below it
limb_alone : (B u : ℕ) → head_in B false u 0 ≡ u * B
unfolding head_in bit
limb_alone B u = omega arith

pub parted_less : (B u b c : ℕ) → b ≡ c → c < u * B → b ≤ head_in B false u 0
parted_less B u b c e l = rw (limb_alone B u) (omega arith)

pub parted : (same carry : Bool) (B u b c high low : ℕ) → same ≡ false → carry ≡ false → head_in B false high low ≡ head_in B false u 0 - b → b ≡ c → head_in B carry high low ≡ cond same (u * B + c) (u * B - c)
parted same carry B u b c high low s k e f = rw (s, k, ← f, ← limb_alone B u) e

-- ---- two limbs at the top of a target

module _ (B : ℕ) where
  zeros_worth : (n : ℕ) → value_in B (replicate n 0) ≡ 0
  unfolding value_in
  zeros_worth zero = refl
  zeros_worth (suc n) = omega (arith, ap (λ (m : ℕ). B * m) (zeros_worth n))

  pub written_value : (n high low : ℕ) → 1 < n → value_in B (set (set (replicate n 0) (n - 1) high) (n - 2) low) ≡ head_in B false high low * B ^ (n - 2)
  unfolding head_in bit
  written_value n high low some =
      let R : List ℕ = replicate n 0 in
      let size : length R ≡ n = length-replicate n 0 in
      let lower = value_set B (set R (n - 1) high) (n - 2) low (omega (arith, size, length-set R (n - 1) high)) in
      let upper = value_set B R (n - 1) high (omega (arith, size)) in
      let beside : get_or (set R (n - 1) high) (n - 2) 0 ≡ 0 = get_or-set_other R (n - 1) (n - 2) high 0 (λ e. omega arith) ∙ get_or-replicate n (n - 2) 0 0 (omega arith) in
      let here : get_or R (n - 1) 0 ≡ 0 = get_or-replicate n (n - 1) 0 0 (omega arith) in
      let power : B ^ (n - 1) ≡ B * B ^ (n - 2) = ap (λ (m : ℕ). B ^ m) (let i : n - 1 ≡ suc (n - 2) = omega arith in i) ∙ pow-succ' B (n - 2) in
      go (value_in B (set (set R (n - 1) high) (n - 2) low)) (value_in B (set R (n - 1) high)) (B ^ (n - 2)) (rw (beside) at lower) (rw (here, zeros_worth n, power) at upper)
    where
      go : (v w Q : ℕ) → v + Q * 0 ≡ w + Q * low → w + B * Q * 0 ≡ 0 + B * Q * high → v ≡ ((0 * B + high) * B + low) * Q
      go v w Q e f = omega arith
