-- What one column more than fill the target fixes, where the target has no digit to spare: the columns that fill it fix nothing, and the run that it ends rounds to the answer. Assumes nothing.
use mathlib.Core.Path.{◌≡◌, refl, sym, ap, ◌∙◌, subst}
use mathlib.Core.Bool.{Bool, true, false, not, cond, ◌&&◌, ◌||◌, true≢false}
use mathlib.Core.List.{List}
use Prim.Native.Nat.{ℕ, zero, suc, ◌+◌, ◌-◌, ◌*◌, ◌%◌, ◌^◌, ◌≤◌, ◌<◌}
use native.Mathlib.Nat.{mul-le-mul_right}
use native.Mathlib.Numerals.{add-one}
use native.Mathlib.Omega.{arith}
use borrow.Author.Tests.{ltb-true, lt-leb}
use lib.Dec.{ltb, leb}
use lib.Count.{count_leading_zeros, leading_top}
use lib.ListN.{length, get_or, take}
use lib.Pow.{pow_pos}
use lib.Ieee.{size}
use lib.Ieee.Digits.{size-le}
use Rattle.remnant.proofs.Resting.{word_low}
use Rattle.limb.proofs.Carry.{bit_le}
use Rattle.limb.specs.Value.{value_of, value_in, Below}
use Rattle.limb.specs.Carry.{bit}
use Rattle.limb.proofs.Value.{value_lt, value_take_lt, base_pow}
use Rattle.numbers.specs.Limits.{most_precision, limbs_for}
use Rattle.numbers.specs.Operand.{Operand}
use Rattle.rounding.specs.Mode.{Way, way}
use Rattle.rounding.specs.declared.Mode.{Mode}
use Rattle.rounding.specs.Answer.{rounded}
use Rattle.depth.specs.Bound.{deepest}
use Rattle.decide.specs.Decide.{decide_at}
use Rattle.place.specs.Placed.{run_number}
use Rattle.kept.proofs.Reaching.{top_apart}
use Rattle.columns.specs.Column.{read_to, column_of}
use Rattle.columns.proofs.Reading.{read_more, read_lt}
use Rattle.limb.proofs.Sizes.{size_is, size_part}
use Rattle.leap.specs.Leap.{Within}
use Rattle.leap.specs.Runs.{Runs}
use Rattle.leap.specs.declared.guarded.Guarded.{Guarded}
use Rattle.settle.specs.Rows.{row_of}
use Rattle.settle.specs.declared.rows.Pair.{Pair}
use Rattle.settle.specs.declared.rows.Row.{Row}
use Rattle.settle.specs.declared.rows.Row.TheVariants.{Exact, Plus, Minus, Hole}
use Rattle.bridge.specs.Verdict.{pair_of, Ordered, Leads, read_sum, settled_by, refused_by, verdict, more_of, inner?}
use Rattle.bridge.proofs.Told.{pair_top}
use Rattle.bridge.proofs.Decision.{decision}
use Rattle.bridge.proofs.Answers.{tests_are}
use Rattle.bridge.proofs.Theorems.{row_sum, leads_later}
use Rattle.bridge.proofs.Covered.{columns_above}
use Rattle.checks.specs.Room.{Room}
use Rattle.descent.specs.Course.{Inside, Inland, Prompt, Sighted}
use Rattle.descent.proofs.JudgingRange.{digits_some}
use Rattle.descent.proofs.GoingDown.{room_some}
use Rattle.descent.proofs.Inside.{inside_plus, inside_minus}
use Rattle.descent.proofs.RegularEnd.{deep_enough}
use Rattle.wide.specs.Filling.{Holding, Rounds}
use Rattle.wide.specs.Guarding.{Spent, Guards}
use Rattle.wide.proofs.Level.{short_open}

-- ---- what the code tests

pub spent_told : (p : ℕ) (pair : Pair) (n : ℕ) (known : Bool) → p ≡ 64 * n → known ≡ (leb pair.first (64 * n) && leb (pair.gap + pair.second) (64 * n)) → (not known && ltb pair.gap p) ≡ true → Spent p pair n
spent_told p pair n true full is e = absurd (true≢false (sym e))
spent_told p pair n false full is e = record { full = full; reached = rw full at (ltb-true pair.gap p e); unread = sym is }

pub reached_more : (gap n : ℕ) (b : Bool) → gap < 64 * n → (leb (64 * (n + 1)) gap && b) ≡ false
reached_more gap n b h = rw (lt-leb (64 * (n + 1)) gap (omega arith)) refl

-- ---- what is read, by the lists that are held

module _ (x y : Operand) (pair : Pair) (first second : List ℕ) (h : Holding x y pair first second) where
  pub read_held : (j : ℕ) → read_sum x y j ≡ cond pair.same (read_to j 0 first + read_to j pair.gap second) (read_to j 0 first - read_to j pair.gap second)
  unfolding read_sum
  read_held j = rw (h.pair_is, h.first_is, h.second_is, h.regular) refl

  pub leads_held : (j : ℕ) → 1 ≤ j → Leads x y j
  leads_held j J = subst (Leads x y) (let z : suc 0 + (j - 1) ≡ j = omega arith in z) (leads_later x y (suc 0) (j - 1) h.course.larger)

-- ---- how many digits a limb has

pub limb_digits : (a : ℕ) → 1 < a → a < 2 ^ 64 → (64 - count_leading_zeros 64 a ≡ size a) × (2 ≤ size a) × (size a ≤ 64)
limb_digits a s h =
    let t = leading_top 64 a (omega arith) h in
    let z = size_is a t.0 t.2 t.3 in
    (omega (arith, t.1), omega (arith, z, more t.0 t.3), omega (arith, t.1))
  where
    more : (j : ℕ) → a < 2 ^ suc j → 1 ≤ j
    more zero l = absurd (omega arith)
    more (suc j) l = omega arith

-- ---- the run

module _ (p : ℕ) (pair : Pair) (first second target : List ℕ) (guard : ℕ) (room : Room p (length target)) (g : Guards p pair first second target guard) (fits : guard < 2 ^ 64) (lim : Below (2 ^ 64) target) (lead : 1 < get_or target (length target - 1) 0) where
  abbrev n : ℕ
  n = length target

  abbrev top : ℕ
  top = get_or target (n - 1) 0

  some : 0 < n
  some = room_some p n room

  some_p : 0 < p
  some_p = digits_some p n room

  abbrev N : ℕ
  N = value_of target

  below : N < 2 ^ (64 * n)
  below = rw (base_pow n) at (value_lt (2 ^ 64) target lim)

  value_size : size N ≡ size top + 64 * (n - 1)
  value_size = ap size (top_apart (2 ^ 64) target some ∙ rw (base_pow (n - 1)) (turn (value_in (2 ^ 64) (take (n - 1) target)) (2 ^ (64 * (n - 1))) top)) ∙ size_part top (64 * (n - 1)) (value_in (2 ^ 64) (take (n - 1) target)) (omega arith) (rw (base_pow (n - 1)) at (value_take_lt (2 ^ 64) (n - 1) target lim))
    where
      turn : (a b c : ℕ) → a + b * c ≡ c * b + a
      turn a b c = omega arith

  value_some : 0 < N
  value_some = omega (arith, top_apart (2 ^ 64) target some, ap (λ (m : ℕ). m * top) (base_pow (n - 1)), mul-le-mul_right (2 ^ (64 * (n - 1))) lead, pow_pos (64 * (n - 1)))

  -- the number that stands there
  abbrev R : ℕ
  R = N * 2 ^ 64 + guard

  run_size : size R ≡ p + size top
  run_size = size_part N 64 guard value_some fits ∙ omega (arith, value_size, g.spent.full, some)

  run_low : (e : ℕ) → e ≤ 64 → R % 2 ^ e ≡ guard % 2 ^ e
  run_low e h = word_low N guard e h

  run_inside : (1 ≤ guard % 2 ^ (size top - 1)) × (guard % 2 ^ (size top - 1) + 1 < 2 ^ (size top - 1)) → Inside p R
  run_inside t =
      record {
        longer = omega (arith, run_size, digits.1);
        some = rw place (rw low t.0);
        below = rw place (rw low t.1);
      }
    where
      digits : (64 - count_leading_zeros 64 top ≡ size top) × (2 ≤ size top) × (size top ≤ 64)
      digits = limb_digits top lead (lim (n - 1))

      place : size R - p - 1 ≡ size top - 1
      place = omega (arith, run_size)

      low : R % 2 ^ (size top - 1) ≡ guard % 2 ^ (size top - 1)
      low = run_low (size top - 1) (omega (arith, digits.2))

  -- ---- of two operands

  module _ (o : Mode) (x y : Operand) (h : Holding x y pair first second) where
    abbrev k : ℕ
    k = n + 1

    abbrev w : Way
    w = way o x.negative

    abbrev D : ℕ
    D = read_sum x y k

    abbrev d : Ordered x y
    d = h.course.ordered

    value : D ≡ R
    value = g.value x y h

    near : k ≤ deepest
    unfolding limbs_for most_precision
    near = omega (arith, room.count, room.most, deep_enough)

    above : (j : ℕ) → j ≤ k → 64 * j + 1 ≤ x.exponent
    above j l = columns_above x d.first d.regular j (omega (arith, near))

    abbrev X : ℕ → ℕ
    X j = read_to j 0 first

    abbrev Y : ℕ → ℕ
    Y j = read_to j pair.gap second

    small : read_sum x y n < 2 ^ (64 * n)
    small = rw (read_held x y pair first second h n) (go pair.same refl)
      where
        limbs : Below (2 ^ 64) first
        limbs = subst (Below (2 ^ 64)) (sym h.first_is) d.first.limb

        more : (gap : ℕ) (l : List ℕ) → read_to (n + 1) gap l ≡ read_to n gap l * 2 ^ 64 + column_of n gap l
        more gap l = ap (λ (m : ℕ). read_to m gap l) (add-one n) ∙ read_more gap l n

        go : (b : Bool) → pair.same ≡ b → cond b (X n + Y n) (X n - Y n) < 2 ^ (64 * n)
        go true e =
            let s : X k + Y k ≡ R = sym (read_held x y pair first second h k ∙ ap (λ (b : Bool). cond b (X k + Y k) (X k - Y k)) e) ∙ value in
            room_above (X n) (Y n) (column_of n 0 first) (column_of n pair.gap second) (X k) (Y k) (2 ^ (64 * n)) N (more 0 first) (more pair.gap second) s below
          where
            room_above : (a b c d e f P v : ℕ) → e ≡ a * 2 ^ 64 + c → f ≡ b * 2 ^ 64 + d → e + f ≡ v * 2 ^ 64 + guard → v < P → a + b < P
            room_above a b c d e f P v i j s l = omega (arith, fits)
        go false e = let l = read_lt 0 first limbs n in omega arith

    open_before : decide_at o p x y n ≡ false
    open_before =
        short_open o p some_p x y n d some (leads_held x y pair first second h n some) h.regular (omega (arith, pair_top x y, above n (omega arith)))
        (rw h.pair_is at g.inland) (rw h.pair_is at g.spent.reached) (rw h.pair_is at g.spent.unread)
        (omega (arith, size-le (read_sum x y n) (64 * n) small, g.spent.full))

    here : (row : Row) → row_of pair k ≡ row → row_of (pair_of x y) k ≡ row
    here row e = ap (λ (s : Pair). row_of s k) (sym h.pair_is) ∙ e

    lead_at : Leads x y k
    lead_at = leads_held x y pair first second h k (omega arith)

    fixed_at : (row : Row) → row_of (pair_of x y) k ≡ row → settled_by w p D row ≡ true → decide_at o p x y k ≡ true
    unfolding verdict settled_by inner?
    fixed_at Exact is e = decision o p some_p x y k d (omega arith) lead_at ∙ ap (verdict o p x y k) is
    fixed_at (Plus least next most) is e = tests_are o p some_p x y k d (omega arith) lead_at (Plus least next most) is refl ∙ ap (λ (b : Bool). b || refused_by w p (pair_of x y) k D) e
    fixed_at (Minus most) is e = tests_are o p some_p x y k d (omega arith) lead_at (Minus most) is refl ∙ ap (λ (b : Bool). b || refused_by w p (pair_of x y) k D) e
    fixed_at Hole is e = absurd (true≢false (sym e))

    guard_rounds : (row : Row) → row_of pair k ≡ row → settled_by w p D row ≡ true → Rounds o p x y target false guard (more_of row) k
    unfolding run_number bit
    guard_rounds row is e =
        record {
          some = omega arith;
          near = near;
          fixed = fixed_at row (here row is) e;
          first = λ l. let z : n + 1 - 1 ≡ n = omega arith in rw z open_before;
          answer = row_sum o p some_p x y k d (omega arith) lead_at row (here row is) (above k (omega arith)) e ∙ ap (rounded w p (x.exponent - 64 * k - 1) x.negative) (run (more_of row));
          led = λ l. omega (arith, lead);
        }
      where
        run : (more : Bool) → 2 * D + bit more ≡ run_number false target guard more
        run more = ap (λ (m : ℕ). 2 * m + bit more) value ∙ flat N guard (bit more) (2 ^ (64 * n))
          where
            flat : (v g b P : ℕ) → 2 * (v * 2 ^ 64 + g) + b ≡ 2 * ((0 * P + v) * 2 ^ 64 + g) + b
            flat v g b P = omega arith

    pub guard_read : row_of pair k ≡ Exact → Rounds o p x y target false guard false k
    unfolding settled_by more_of
    guard_read is = guard_rounds Exact is refl

    pub guard_inside : (1 ≤ guard % 2 ^ (size top - 1)) × (guard % 2 ^ (size top - 1) + 1 < 2 ^ (size top - 1)) → (more : Bool) → (inner? (row_of pair k) ≡ true) × (more_of (row_of pair k) ≡ more)
        → Rounds o p x y target false guard more k
    unfolding settled_by more_of inner? bit
    guard_inside t more b = subst (λ (m : Bool). Rounds o p x y target false guard m k) b.1 (guard_rounds (row_of pair k) refl (go (row_of pair k) b.0))
      where
        inside : Inside p D
        inside = subst (Inside p) (sym value) (run_inside t)

        go : (row : Row) → inner? row ≡ true → settled_by w p D row ≡ true
        go Exact i = refl
        go (Plus least next most) i = inside_plus p D inside w least (bit next) (bit_le next) most
        go (Minus most) i = inside_minus p D inside some_p w most
        go Hole i = absurd (true≢false (sym i))

-- ---- the columns, as they are read

module _ (p : ℕ) (pair : Pair) (first second before : List ℕ) (sight : Sighted pair (length first) 0 (length before)) (prompt : Prompt pair (length first) (length second) 0 (length before)) (some : 0 < pair.second) where
  pub guard_asked : (pair.gap ≤ 2 ^ 42) × (pair.top ≤ 2 ^ 42) × (length second ≤ 2 ^ 20) × (length before ≤ 2 ^ 20)
  guard_asked = (sight.gap, sight.top, (prompt.second_long some).0, sight.target)

  pub guard_within : 64 * length before ≤ 64 * length second + pair.gap → Within (length before) 0 first × Within (length before) pair.gap second
  guard_within l = (
    record { columns = omega (arith, prompt.first_long); limbs = sight.first_few; near = omega arith },
    record { columns = l; limbs = (prompt.second_long some).0; near = sight.gap },
  )

module _ (p : ℕ) (pair : Pair) (first second before after : List ℕ) (size : length after ≡ length before) (r : Guarded) (off : r.carry ≡ false) where
  abbrev m : ℕ
  m = length before + 1

  pub guards : Spent p pair (length before) → Inland pair (length before)
      → ((pair.same ≡ false → read_to m pair.gap second ≤ read_to m 0 first) → Runs (cond pair.same (read_to m 0 first + read_to m pair.gap second) (read_to m 0 first - read_to m pair.gap second)) after r)
      → Guards p pair first second after r.guard
  guards spent inland run =
      record { spent = rw size spent; inland = rw size inland; value = λ x y h. rw size (read_held x y pair first second h m ∙ run (λ e. not_less x y h e) ∙ flat) }
    where
      under : {a b : ℕ} → a < b → a ≤ b
      under h = omega arith

      not_less : (x y : Operand) → Holding x y pair first second → pair.same ≡ false → read_to m pair.gap second ≤ read_to m 0 first
      not_less x y h e = rw (h.first_is, h.second_is, h.pair_is) (under (leads_held x y pair first second h m (omega arith) (rw h.pair_is at e)))

      flat : (bit r.carry * 2 ^ (64 * length after) + value_of after) * 2 ^ 64 + r.guard ≡ value_of after * 2 ^ 64 + r.guard
      flat = let z : bit r.carry ≡ 0 = ap bit off ∙ (unfold bit in refl) in rw z (go (2 ^ (64 * length after)) (value_of after) r.guard)
        where
          go : (P v g : ℕ) → (0 * P + v) * 2 ^ 64 + g ≡ v * 2 ^ 64 + g
          go P v g = omega arith
