-- `short::close::depth` is right by its test. Assumes nothing.
use mathlib.Core.Path.{refl}
use Prim.Native.Nat.{◌+◌}
use borrow.Author.Tests.{le-leb, lt-leb}
use Rattle.short.proofs.close.depth.Goals as goal

pub returns-then-gap-second-le64 : goal.returns-then-gap-second-le64
returns-then-gap-second-le64 c = rw (le-leb (c.args.gap + c.args.second) 64 c.if-gap-second-le64.true) refl

pub returns-else-gap-second-le64 : goal.returns-else-gap-second-le64
returns-else-gap-second-le64 c = rw (lt-leb (c.args.gap + c.args.second) 64 c.if-gap-second-le64.false) refl
