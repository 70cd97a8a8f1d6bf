-- One column of a sum or difference as a run to be rounded, and the cases of a pair after it. Definitions only.
use Rattle.std.specs.Prelude.{ℕ, ◌+◌, ◌-◌, ◌/◌, ◌^◌, ◌<◌, ◌≡◌, Bool, true, false, not, cond, ◌&&◌, ◌||◌, [], ◌∷◌, ltb, leb, eqb}
use Rattle.numbers.specs.Operand.{Operand}
use Rattle.rounding.specs.Mode.{way}
use Rattle.rounding.specs.declared.Mode.{Mode}
use Rattle.rounding.specs.Answer.{rounded}
use Rattle.rounding.specs.Sum.{add}
use Rattle.decide.specs.Decide.{decide_at}
use Rattle.place.specs.Placed.{run_number}
use Rattle.settle.specs.declared.rows.Pair.{Pair}
use Rattle.bridge.specs.Verdict.{pair_of, Ordered, Leads, read_sum}
use Rattle.narrow.specs.declared.column.Column.{Column}

-- one column has all of both operands; all of the first, and nothing of the second
abbrev pub is_whole : Pair → Bool
is_whole s = leb s.first 64 && leb (s.gap + s.second) 64

abbrev pub is_hole : Pair → Bool
is_hole s = leb s.first 64 && leb 64 s.gap

-- of a difference, the greatest has something more than what is read
abbrev pub has_more : Pair → Bool
has_more s =
    (leb 64 s.gap && not (eqb s.first 65 && eqb s.gap 64))
    || (not (leb 64 s.gap) && (ltb 64 s.first && ltb 64 (s.gap + s.second)))

-- the first column of two operands comes to D; it fixes the answer, and that is the answer of the run
pub record Settles (p : ℕ) (pair : Pair) (D : ℕ) (r : Column) : Type 0 where
  pub led : r.carry ≡ false → 0 < r.limb
  pub answers : (o : Mode) (x y : Operand) → Ordered x y → y.is_zero ≡ false → pair ≡ pair_of x y → Leads x y 1 → read_sum x y 1 ≡ D
      → (decide_at o p x y 1 ≡ true)
      × (add o p x y ≡ rounded (way o x.negative) p (x.exponent - 128 - 1) x.negative (run_number r.carry (r.limb ∷ []) r.guard r.more))

-- what the first column comes to, u and v being the top limbs
unfoldable pub first_read : Pair → ℕ → ℕ → ℕ
first_read s u v = cond s.same (u + v / 2 ^ s.gap) (u - v / 2 ^ s.gap)

-- it fixes the answer; of unlike signs the first operand is then seen to be the larger
pub record Found (p : ℕ) (pair : Pair) (u v : ℕ) (r : Column) : Type 0 where
  pub ahead : pair.same ≡ false → v / 2 ^ pair.gap < u
  pub settles : Settles p pair (first_read pair u v) r
