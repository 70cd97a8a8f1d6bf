-- What is held is of good form: it has a limb, and what has passed its tests can be held. Assumes nothing.
use Rattle.std.proofs.Common.{ℕ, ◌<◌, List, length, arith}
use Rattle.numbers.specs.Operand.{WellFormed}
use Rattle.numbers.proofs.Limits.{two_digits, limbs_hold}
use Rattle.checks.specs.declared.Number.{Number}
use Rattle.checks.specs.Number.{operand_of}
use Rattle.checks.specs.Room.{Room}

-- a number of good form has a lowest and a top limb
pub held_limb : (x : Number) (l : List ℕ) → WellFormed (operand_of x l) → 0 < length l
unfolding operand_of
held_limb x l f = omega (arith, f.least, f.count, two_digits, limbs_hold x.precision)

-- and so has a target
pub room_limb : {p n : ℕ} → Room p n → 0 < n
room_limb {p} {n} r = omega (arith, r.least, r.count, two_digits, limbs_hold p)
