-- `place::limits::settle` is right since its numbers are those of the limits, and the three cases shut each other out. Assumes nothing.
use mathlib.Core.Path.{refl, ap}
use native.Mathlib.Omega.{arith}
use lib.IntN.{ℤ}
use mir.Facts.{to_z-of_z}
use Rattle.numbers.specs.Limits.{least_exponent, most_exponent, bias}
use Rattle.place.specs.Rounded.{refused_by}
use Rattle.place.proofs.limits.settle.Goals as goal

pub returns-then-exponent-gt-MOST_EXPONENT : goal.returns-then-exponent-gt-MOST_EXPONENT
unfolding refused_by least_exponent most_exponent bias
returns-then-exponent-gt-MOST_EXPONENT c =
    let h = c.if-exponent-gt-MOST_EXPONENT.true in
    record {
      large = λ k. (refl, c.clear.ensures);
      small = λ k. absurd (omega arith);
      inside = λ k l. absurd (omega arith);
    }

pub returns-then-exponent-lt-LEAST_EXPONENT : goal.returns-then-exponent-lt-LEAST_EXPONENT
unfolding refused_by least_exponent most_exponent bias
returns-then-exponent-lt-LEAST_EXPONENT c =
    let h = c.if-exponent-lt-LEAST_EXPONENT.true in
    record {
      large = λ k. absurd (omega arith);
      small = λ k. (refl, c.clear-then-exponent-lt-LEAST_EXPONENT.ensures);
      inside = λ k l. absurd (omega arith);
    }

pub returns : goal.returns
unfolding least_exponent most_exponent bias
returns c =
    let high = c.if-exponent-gt-MOST_EXPONENT.false in
    let low = c.if-exponent-lt-LEAST_EXPONENT.false in
    record {
      large = λ k. absurd (omega arith);
      small = λ k. absurd (omega arith);
      inside = λ k l. (ap (λ (z : ℤ). record { rule = 0; exponent = c.args.exponent; ternary = z }) (to_z-of_z c.ranges.ternary), refl);
    }
