-- `doubles::judged`: what is selected has 53 digits, and each return is a case of the range. Assumes nothing.
use native.Mathlib.Omega.{arith}
use Rattle.std.proofs.Common.{refl}
use Rattle.checks.specs.declared.Rule.TheVariants.{DoubleTooLarge}
use mir.Facts.{to_z-of_z}
use Rattle.checks.specs.Number.{operand_of}
use Rattle.doubles.specs.Convert.{outside}
use Rattle.doubles.proofs.Cases.{large_case, beyond_case, under_case, limb_large, inside_case, least_literal, most_literal}
use Rattle.doubles.proofs.judged.Goals as goal

pub returns-then-placed-eq6 : goal.returns-then-placed-eq6
unfolding operand_of
returns-then-placed-eq6 c =
    large_case _ _ c.args.x.formed c.args.x.regular _ c.requires _ c.outside.ensures c.if-placed-eq6.true

pub returns-then-placed-gt-MOST_EXPONENT : goal.returns-then-placed-gt-MOST_EXPONENT
unfolding operand_of
returns-then-placed-gt-MOST_EXPONENT c =
    beyond_case _ _ c.args.x.formed c.args.x.regular _ c.requires _ c.outside-then-placed-gt-MOST_EXPONENT.ensures c.if-placed-gt-MOST_EXPONENT.true

pub returns-then-placed-lt-LEAST_EXPONENT : goal.returns-then-placed-lt-LEAST_EXPONENT
unfolding operand_of
returns-then-placed-lt-LEAST_EXPONENT c =
    under_case _ _ c.args.x.formed c.args.x.regular _ c.requires _ c.outside-then-placed-lt-LEAST_EXPONENT.ensures c.if-placed-eq6.false c.if-placed-lt-LEAST_EXPONENT.true

pub pack-double-requires : goal.pack-double-requires
unfolding operand_of
pack-double-requires c =
    (omega (arith, least_literal, c.if-placed-lt-LEAST_EXPONENT.false), omega (arith, most_literal, c.if-placed-gt-MOST_EXPONENT.false), limb_large _ _ c.args.x.formed c.args.x.regular _ c.requires (outside DoubleTooLarge) c.if-placed-lt-LEAST_EXPONENT.false c.if-placed-gt-MOST_EXPONENT.false)

pub returns : goal.returns
unfolding operand_of
returns c =
    inside_case _ _ c.args.x.formed c.args.x.regular _ c.requires _ c.if-placed-lt-LEAST_EXPONENT.false c.if-placed-gt-MOST_EXPONENT.false _ _ c.pack-double.ensures (rw (to_z-of_z (record { sfits = c.struct_told-1.given.1.1.0.1 })) at c.answer.ensures) refl
