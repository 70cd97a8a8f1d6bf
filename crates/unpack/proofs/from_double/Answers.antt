-- `unpack::from_double`: the tests in the order of the definition; a NaN, and nothing else, differs from itself. Assumes nothing.
use Rattle.std.proofs.Common.{refl}
use Rattle.unpack.proofs.Bits.{not_nan}
use Rattle.unpack.proofs.Reading.{nan_is, no_nan_is, nan_number, long_refusal, none_refusal, refused_read, bits_double}
use Rattle.unpack.proofs.from_double.Goals as goal

pub returns-then-target-ne1 : goal.returns-then-target-ne1
returns-then-target-ne1 c =
    let told = refused_read _ _ _ _ (long_refusal _ _ c.if-target-ne1.true) refl in
    record {
      value = told.0;
      target_after = told.1;
    }

pub returns-then-d : goal.returns-then-d
returns-then-d c =
    let told = refused_read _ _ _ _ (none_refusal _ _ c.if-target-ne1.false (nan_number _ (nan_is _ c.if-d.true))) refl in
    record {
      value = told.0;
      target_after = told.1;
    }

pub float_to_bits-d : goal.float_to_bits-d
float_to_bits-d c = not_nan (no_nan_is _ c.if-d.false)

pub returns : goal.returns
returns c =
    let told = bits_double _ _ _ _ c.if-target-ne1.false (no_nan_is _ c.if-d.false) (c.from_bits.ensures.value, c.from_bits.ensures.target_after) in
    record {
      value = told.0;
      target_after = told.1;
    }
