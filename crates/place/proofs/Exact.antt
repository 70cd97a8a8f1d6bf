-- A run of which nothing lies below the digits kept: it is selected as it is, under every mode and sign. Assumes nothing.
use mathlib.Core.Path.{◌≡◌, refl, sym, ap, ◌∙◌}
use mathlib.Core.Bool.{Bool, false}
use mathlib.Core.List.{List}
use Prim.Native.Nat.{ℕ, ◌+◌, ◌-◌, ◌*◌, ◌/◌, ◌%◌, ◌^◌, ◌≤◌, ◌<◌}
use native.Mathlib.Nat.{add-zero, mul_assoc, mul-mod_left, div-add-mod', lt_of_lt_of_le, le_of_eq}
use native.Mathlib.Omega.{arith}
use lib.Dec.{eqb}
use lib.IntN.{pos}
use lib.ListN.{length, get_or}
use lib.Pow.{pow_pos, pow-add}
use Rattle.limb.specs.Carry.{bit}
use Rattle.limb.specs.Value.{value_of, Below}
use Rattle.rounding.specs.Mode.{way}
use Rattle.rounding.specs.declared.Mode.{Mode}
use Rattle.location.specs.declared.Location.TheVariants.{Exact}
use Rattle.location.specs.Location.{location_of}
use Rattle.location.proofs.Locating.{at_nothing}
use Rattle.location.proofs.Modes.{exact_up, exact_ternary}
use Rattle.kept.specs.Walk.{whole, Reaches, Holds}
use Rattle.kept.proofs.Reaching.{headed_false, rest_low}
use Rattle.kept.proofs.Unit.{stays}
use Rattle.place.specs.declared.Placed.{Placed}
use Rattle.place.specs.Placed.{run_rule}
use Rattle.place.specs.Rounded.{rounded_placed, rounded_limbs}
use Rattle.place.specs.InRange.{Settled}
use Rattle.place.proofs.Answer.{placed}
use Rattle.place.proofs.Rules.{Passed, passed}

module _ (p unit : ℕ) (t : List ℕ) (d s : ℕ) (pass : run_rule p false t unit ≡ 0) (s_is : s ≡ 64 * length t - p) (reach : Reaches false t d) (clean : value_of t % 2 ^ s ≡ 0) where
  ok : Passed p false t unit
  ok = passed p false t unit pass

  spare_few : s < 64
  spare_few = omega (arith, ok.spare_few)

  -- the run begins with 64 - d zeros, and its last s + 64 digits are 0
  none_below : whole false t 0 % 2 ^ (d + s) ≡ 0
  unfolding whole
  none_below =
      let k = value_of t / 2 ^ s in
      let v : value_of t ≡ k * 2 ^ s = sym (div-add-mod' (value_of t) (2 ^ s)) ∙ ap (λ (m : ℕ). k * 2 ^ s + m) clean ∙ add-zero _ in
      let places : 2 ^ s * 2 ^ 64 ≡ 2 ^ (64 - d) * 2 ^ (d + s) = sym (pow-add 2 s 64) ∙ ap (λ (m : ℕ). 2 ^ m) (moved s d (reach.plain refl)) ∙ pow-add 2 (64 - d) (d + s) in
      ap (λ (m : ℕ). (m * 2 ^ 64 + 0) % 2 ^ (d + s)) (headed_false false t refl ∙ v)
      ∙ ap (λ (m : ℕ). m % 2 ^ (d + s)) (add-zero _ ∙ mul_assoc k (2 ^ s) (2 ^ 64) ∙ ap (λ (m : ℕ). k * m) places ∙ sym (mul_assoc k (2 ^ (64 - d)) (2 ^ (d + s))))
      ∙ mul-mod_left (k * 2 ^ (64 - d)) (2 ^ (d + s))
    where
      moved : (s d : ℕ) → d ≤ 64 → s + 64 ≡ 64 - d + (d + s)
      moved s d h = omega arith

  located : Exact ≡ location_of (2 * ((get_or t 0 0 * 2 ^ 64 + 0) % 2 ^ (d + s)) + bit false) (2 ^ (d + s + 1))
  unfolding bit
  located = sym (at_nothing _ (2 ^ (d + s + 1)) (ap (λ (m : ℕ). 2 * m + 0) (rest_low false t 0 (d + s) ok.some_limbs (omega (arith, reach.most, spare_few)) ∙ none_below)))

  module _ (cut : List ℕ) (e : ℕ) (r : Placed) (after : List ℕ) (holds : Holds (length t) (whole false t 0 / 2 ^ (d + s) * 2 ^ s) cut) (limbs : Below (2 ^ 64) cut)
      (e_is : e ≡ unit + p + d + s) (end : Settled e (pos 0) cut r after) where
    cut_clean : value_of cut % 2 ^ s ≡ 0
    cut_clean = ap (λ (m : ℕ). m % 2 ^ s) holds.value ∙ mul-mod_left (whole false t 0 / 2 ^ (d + s)) (2 ^ s)

    pub exact : (mode : Mode) (negative : Bool) → (r ≡ rounded_placed mode p negative unit false t 0 false) × (after ≡ rounded_limbs mode p negative unit false t 0 false)
    exact mode negative =
        placed mode p negative unit false t 0 false d s pass s_is (pow_pos 64) reach Exact cut (eqb (value_of cut / 2 ^ s % 2) 1) false cut false r after (pos 0) e
        located holds refl (exact_up (way mode negative) Exact _ refl)
        (stays cut s (lt_of_lt_of_le ok.some_limbs (le_of_eq (sym holds.size))) spare_few limbs cut_clean) limbs
        (e_is ∙ sym (add-zero _)) (exact_ternary negative Exact false refl) end
