-- `place::limits::settle_limb` is right as `settle` is: an exponent out of range that is not too large is too small. Assumes nothing.
use mathlib.Core.Path.{refl, sym, ap, ◌∙◌}
use mathlib.Core.Bool.{true≢false}
use Prim.Native.Nat.{◌≤◌}
use native.Mathlib.Omega.{arith}
use borrow.Author.Tests.{leb-true, le-leb}
use lib.Dec.{leb}
use lib.IntN.{ℤ}
use mir.Facts.{to_z-of_z}
use Rattle.limb.proofs.Tests.{both_true}
use Rattle.numbers.specs.Limits.{least_exponent, most_exponent, bias}
use Rattle.place.specs.Rounded.{refused_by}
use Rattle.place.proofs.limits.settle_limb.Goals as goal

pub returns-then-exponent : goal.returns-then-exponent
unfolding least_exponent most_exponent bias
returns-then-exponent c =
    let e = c.args.exponent in
    let t = both_true (leb least_exponent e) (leb e most_exponent) c.if-exponent.true in
    let low : least_exponent ≤ e = leb-true least_exponent e t.0 in
    let high : e ≤ most_exponent = leb-true e most_exponent t.1 in
    record {
      large = λ k. absurd (omega arith);
      small = λ k. absurd (omega arith);
      inside = λ k l. (ap (λ (z : ℤ). record { rule = 0; exponent = c.args.exponent; ternary = z }) (to_z-of_z c.ranges.ternary), refl);
    }

pub returns-then-exponent-gt-MOST_EXPONENT : goal.returns-then-exponent-gt-MOST_EXPONENT
unfolding refused_by least_exponent most_exponent bias
returns-then-exponent-gt-MOST_EXPONENT c =
    let h = c.if-exponent-gt-MOST_EXPONENT.true in
    record {
      large = λ k. (refl, refl);
      small = λ k. absurd (omega arith);
      inside = λ k l. absurd (omega arith);
    }

pub returns : goal.returns
unfolding refused_by least_exponent most_exponent bias
returns c =
    let high = c.if-exponent-gt-MOST_EXPONENT.false in
    record {
      large = λ k. absurd (omega arith);
      small = λ k. (refl, refl);
      inside = λ k l. absurd (true≢false (sym (rw (le-leb _ _ k, le-leb _ _ l) refl) ∙ c.if-exponent.false));
    }
