-- Laws of a run moved down by less than a limb: each of its limbs comes from two neighbours, and the last from one. Assumes nothing.
use mathlib.Core.Path.{◌≡◌, sym, ap, ◌∙◌}
use mathlib.Core.List.{List}
use Prim.Native.Nat.{ℕ, ◌+◌, ◌*◌, ◌/◌, ◌%◌, ◌^◌, ◌≤◌, ◌<◌}
use native.Mathlib.Nat.{mod-eq_of_lt, div-le_self, lt_of_le_of_lt}
use native.Mathlib.Omega.{arith}
use lib.ListN.{length, get_or, get_or-eq_default}
use Rattle.limb.specs.Value.{value_in, Below}
use Rattle.limb.proofs.Value.{value_lt}
use Rattle.shifts.proofs.Windows.{between, window_moved}

module _ (b : List ℕ) (t : ℕ) (ht : t < 64) (h : Below (2 ^ 64) b) where
  -- limb i of the run moved down
  pub moved_limb : (i low high : ℕ) → low ≡ get_or b i 0 → high ≡ get_or b (i + 1) 0
      → (low + 2 ^ 64 * high) / 2 ^ t % 2 ^ 64 ≡ value_in (2 ^ 64) b / 2 ^ t / 2 ^ (64 * i) % 2 ^ 64
  moved_limb i low high el eh =
      rw (el, eh) (between b i t ht h ∙ window_moved (value_in (2 ^ 64) b) t i)

  -- the last, above which nothing stands
  pub last_moved : (i low : ℕ) → low ≡ get_or b i 0 → length b ≤ i + 1 → low / 2 ^ t ≡ value_in (2 ^ 64) b / 2 ^ t / 2 ^ (64 * i) % 2 ^ 64
  last_moved i low el hi =
      let small : low / 2 ^ t < 2 ^ 64 = lt_of_le_of_lt (div-le_self low (2 ^ t)) (rw (sym el) at (h i)) in
      sym (mod-eq_of_lt small) ∙ ap (λ (m : ℕ). m / 2 ^ t % 2 ^ 64) (omega arith) ∙ moved_limb i low 0 el (sym (get_or-eq_default b 0 hi))

  pub moved_lt : (n : ℕ) → length b ≡ n → value_in (2 ^ 64) b / 2 ^ t < (2 ^ 64) ^ n
  moved_lt n e = lt_of_le_of_lt (div-le_self (value_in (2 ^ 64) b) (2 ^ t)) (rw e at (value_lt (2 ^ 64) b h))
