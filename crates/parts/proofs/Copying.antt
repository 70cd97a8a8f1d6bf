-- Laws of limbs copied from the lowest up: one more, four more, all. Assumes nothing.
use mathlib.Core.Path.{◌≡◌, refl, sym, ap, ◌∙◌}
use mathlib.Core.List.{List, [], ◌∷◌, ◌++◌}
use Prim.Native.Nat.{ℕ, ◌+◌, ◌≤◌, ◌<◌}
use native.Mathlib.Nat.{add_assoc}
use native.Mathlib.Numerals.{add-one}
use native.Mathlib.Omega.{arith}
use lib.ListN.{length, get_or, set, length-set}
use lib.Seq.{take_all, take-suc, take-suc-set}
use Rattle.parts.specs.Copied.{CopiedTo}

-- none yet
pub none_copied : (s t : List ℕ) → length s ≡ length t → CopiedTo 0 s t
none_copied s t e = record { same_length = sym e; limbs = refl }

-- one limb more
pub limb_copied : (s t : List ℕ) (i : ℕ) → i < length t → CopiedTo i s t → CopiedTo (i + 1) s (set t i (get_or s i 0))
limb_copied s t i h a = record {
  same_length = length-set t i (get_or s i 0) ∙ a.same_length;
  limbs = rw (add-one i)
      (take-suc-set t i (get_or s i 0) h ∙ ap (λ (r : List ℕ). r ++ (get_or s i 0 ∷ [])) a.limbs ∙ sym (take-suc s i 0 (omega (arith, a.same_length))));
}

-- two limbs more
two_copied : (s t : List ℕ) (i : ℕ) → i + 2 ≤ length t → CopiedTo i s t → CopiedTo (i + 2) s (set (set t i (get_or s i 0)) (i + 1) (get_or s (i + 1) 0))
two_copied s t i h a =
    rw (add_assoc i 1 1) at
    (limb_copied s (set t i (get_or s i 0)) (i + 1) (rw (length-set t i (get_or s i 0)) (omega arith)) (limb_copied s t i (omega arith) a))

-- four limbs more
pub four_copied : (s t : List ℕ) (i : ℕ) → i + 4 ≤ length t → CopiedTo i s t
    → CopiedTo (i + 4) s
    (set (set (set (set t i (get_or s i 0)) (i + 1) (get_or s (i + 1) 0)) (i + 2) (get_or s (i + 2) 0)) (i + 3) (get_or s (i + 3) 0))
four_copied s t i h a =
    let two : CopiedTo (i + 2) s (set (set t i (get_or s i 0)) (i + 1) (get_or s (i + 1) 0)) = two_copied s t i (omega arith) a in
    rw (add_assoc i 2 1, add_assoc i 2 2) at
    (two_copied s _ (i + 2) (omega (arith, h, two.same_length, a.same_length)) two)

-- no limb is left
pub all_copied : (s t : List ℕ) (i : ℕ) → length s ≤ i → CopiedTo i s t → t ≡ s
all_copied s t i h a = sym (take_all i t (omega (arith, h, a.same_length))) ∙ a.limbs ∙ take_all i s h
