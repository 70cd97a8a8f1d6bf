-- One byte taken into a group: the line under way gets it, and the other two stay. Assumes nothing.
use mathlib.Core.Path.{◌≡◌, ap, ◌∙◌}
use mathlib.Core.Bool.{cond}
use mathlib.Core.List.{List}
use Prim.Native.Nat.{ℕ, ◌+◌, ◌<◌}
use native.Mathlib.Omega.{arith}
use borrow.Author.Tests.{eq-eqb, ne_eqb}
use lib.ListN.{take}
use Rattle.cutting.specs.Group.{Held}
use Rattle.cutting.specs.Lines.{ends_line}
use Rattle.cutting.specs.Group.{longer, with_byte, group_in, Grown, Within, Takes}
use Rattle.cutting.proofs.Keeping.{grown_none}

pub remaining : (n : ℕ) → n < 3 → (n ≡ 0 → ⊥) → (n ≡ 1 → ⊥) → n ≡ 2
remaining n h z y = omega arith

counted : (b n m : ℕ) → n ≡ m → cond (ends_line b) (n + 1) n ≡ cond (ends_line b) (m + 1) m
counted b n m e = ap (λ (i : ℕ). cond (ends_line b) (i + 1) i) e

module _ (h : Held) (b lines n : ℕ) (one two three new : List ℕ) (within : Within h) (count : lines ≡ cond (ends_line b) (h.lines + 1) h.lines) where
  pub takes_first : h.lines ≡ 0 → take n new ≡ longer (take h.first one) b → Grown h.first n one new
      → Takes h b one two three new two three (record { lines = lines; first = n; second = h.second; third = h.third })
  unfolding group_in with_byte
  takes_first e t g = record {
    group = simp (eq-eqb h.lines 0 e, t, count ∙ counted b h.lines 0 e);
    first = g;
    second = grown_none h.second two within.second;
    third = grown_none h.third three within.third;
  }

  pub takes_second : (h.lines ≡ 0 → ⊥) → h.lines ≡ 1 → take n new ≡ longer (take h.second two) b → Grown h.second n two new
      → Takes h b one two three one new three (record { lines = lines; first = h.first; second = n; third = h.third })
  unfolding group_in with_byte
  takes_second z e t g = record {
    group = simp (ne_eqb h.lines 0 z, eq-eqb h.lines 1 e, t, count ∙ counted b h.lines 1 e);
    first = grown_none h.first one within.first;
    second = g;
    third = grown_none h.third three within.third;
  }

  pub takes_third : (h.lines ≡ 0 → ⊥) → (h.lines ≡ 1 → ⊥) → h.lines ≡ 2 → take n new ≡ longer (take h.third three) b → Grown h.third n three new
      → Takes h b one two three one two new (record { lines = lines; first = h.first; second = h.second; third = n })
  unfolding group_in with_byte
  takes_third z y e t g = record {
    group = simp (ne_eqb h.lines 0 z, ne_eqb h.lines 1 y, t, count ∙ counted b h.lines 2 e);
    first = grown_none h.first one within.first;
    second = grown_none h.second two within.second;
    third = g;
  }
