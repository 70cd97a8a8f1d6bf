-- Columns passed over: what is read of two operands after k columns and after r. Definitions only.
use Rattle.std.specs.Prelude.{ℕ, suc, ◌+◌, ◌-◌, ◌*◌, ◌^◌, ◌≤◌, ◌≡◌, Bool, true, false, List}
use Rattle.columns.specs.Column.{read_to}
use Rattle.settle.specs.declared.rows.Pair.{Pair}

-- from k on, and not past the stop
pub record NotPast (k stop r : ℕ) : Type 0 where
  pub on : k ≤ r
  pub within : k ≤ stop → r ≤ stop

-- both operands are 0 there: their sum is moved up
abbrev pub PassedZeros : ℕ → List ℕ → List ℕ → ℕ → ℕ → Type 0
PassedZeros gap first second k r = read_to r 0 first + read_to r gap second ≡ (read_to k 0 first + read_to k gap second) * 2 ^ (64 * (r - k))

-- they come to all ones: the next number is moved up
abbrev pub PassedOnes : ℕ → List ℕ → List ℕ → ℕ → ℕ → Type 0
PassedOnes gap first second k r = suc (read_to r 0 first + read_to r gap second) ≡ suc (read_to k 0 first + read_to k gap second) * 2 ^ (64 * (r - k))

-- they are alike: their difference is moved up
abbrev pub PassedAlike : ℕ → List ℕ → List ℕ → ℕ → ℕ → Type 0
PassedAlike gap first second k r = read_to r 0 first + read_to k gap second * 2 ^ (64 * (r - k)) ≡ read_to r gap second + read_to k 0 first * 2 ^ (64 * (r - k))

-- the columns after the first, passed over below one that is odd or even
pub record PassedBelow (pair : Pair) (odd : Bool) (first second : List ℕ) (r : ℕ) : Type 0 where
  pub zeros : pair.same ≡ true → odd ≡ false → PassedZeros pair.gap first second 1 r
  pub ones : pair.same ≡ true → odd ≡ true → PassedOnes pair.gap first second 1 r
  pub alike : pair.same ≡ false → odd ≡ false → PassedAlike pair.gap first second 1 r
  pub none : pair.same ≡ false → odd ≡ true → r ≡ 1
