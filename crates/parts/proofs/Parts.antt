-- What a part of a slice holds, and what the slice holds once a part of it has come back. Assumes nothing.
use mathlib.Core.Path.{◌≡◌, ap, ◌∙◌}
use mathlib.Core.List.{List, ◌++◌, append-nil}
use Prim.Native.Nat.{ℕ, ◌+◌, ◌-◌, ◌*◌, ◌^◌, ◌≤◌}
use native.Mathlib.Omega.{arith}
use lib.ListN.{length, take, drop, length-drop}
use lib.Seq.{take_all, drop-length, drop_at, length-take-le}
use borrow.Rule.Slice.PartMut.{put_mid, Post-is, take_put}
use Rattle.limb.specs.Value.{value_in}
use Rattle.limb.proofs.Value.{value_split}

-- the part from limb a on
pub part_is : (s : List ℕ) (a : ℕ) → take (length s - a) (drop a s) ≡ drop a s
part_is s a = take_all (length s - a) (drop a s) (simp length-drop (omega arith))

module _ (s part : List ℕ) (a : ℕ) (h : a ≤ length s) where
  -- the slice whose part from limb a on has become `part`
  pub put_is : put_mid a (length s - a) s part ≡ take a s ++ part
  put_is = rw (Post-is a (length s) s h, drop-length s, append-nil part)

  pub drop_put : drop a (put_mid a (length s - a) s part) ≡ part
  drop_put = ap (drop a) put_is ∙ drop_at (take a s) part a (length-take-le a s h)

  pub put_value : (B : ℕ) → value_in B (put_mid a (length s - a) s part) ≡ value_in B (take a s) + B ^ a * value_in B part
  put_value B = rw (take_put a (length s - a) s part h, drop_put) at (value_split B a (put_mid a (length s - a) s part))
