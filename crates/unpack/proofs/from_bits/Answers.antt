-- `unpack::from_bits`: a field of ones is refused, and each other return is a case of the definition. Assumes nothing.
use mathlib.Core.Path.{refl, sym, ◌∙◌}
use native.Mathlib.Omega.{arith}
use Rattle.unpack.specs.Double.{double_sign}
use Rattle.unpack.proofs.Reading.{infinite_is, finite_is, infinite_read, finite_read, zero_number, zero_limb}
use Rattle.unpack.proofs.from_bits.Goals as goal

pub returns-then-field_of-eq-ONES : goal.returns-then-field_of-eq-ONES
returns-then-field_of-eq-ONES c =
    let told = infinite_read _ c.args.target.now (infinite_is _ _ c.field_of.ensures c.if-field_of-eq-ONES.true) in
    record {
      value = told.0;
      target_after = told.1;
    }

pub returns-then-digits-eq0 : goal.returns-then-digits-eq0
unfolding double_sign
returns-then-digits-eq0 c =
    let told = finite_read _ _ _ _ (finite_is _ _ c.field_of.ensures c.if-field_of-eq-ONES.false) (zero_number _ _ (sym c.digits_of-digits.ensures ∙ c.if-digits-eq0.true) c.read.ensures) (zero_limb _ c.args.target.now c.requires (sym c.digits_of-digits.ensures ∙ c.if-digits-eq0.true)) in
    record {
      value = told.0;
      target_after = told.1;
    }

pub regular-requires : goal.regular-requires
unfolding double_sign
regular-requires c = (c.requires, omega (arith, c.if-digits-eq0.false), c.digits_of-digits.ensures, refl)

pub returns : goal.returns
returns c =
    let told = finite_read _ _ _ _ (finite_is _ _ c.field_of.ensures c.if-field_of-eq-ONES.false) c.regular.ensures.value c.regular.ensures.target_after in
    record {
      value = told.0;
      target_after = told.1;
    }
