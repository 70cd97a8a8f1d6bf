-- What the columns that fill the target fix: their run, moved up to the guard's place, rounds to the answer. Assumes nothing.
use mathlib.Core.Path.{◌≡◌, refl, sym, ap, ◌∙◌, subst}
use mathlib.Core.Bool.{Bool, true, false, ◌||◌, true≢false}
use mathlib.Core.List.{List}
use Prim.Native.Nat.{ℕ, ◌+◌, ◌-◌, ◌*◌, ◌^◌, ◌≤◌, ◌<◌}
use native.Mathlib.Omega.{arith}
use borrow.Author.Tests.{ltb-true}
use lib.Count.{count_leading_zeros}
use lib.Dec.{ltb}
use lib.ListN.{length, get_or}
use Rattle.std.specs.Prelude.{is_some}
use Rattle.limb.specs.Value.{value_of, Below}
use Rattle.limb.specs.Carry.{bit}
use Rattle.numbers.specs.Limits.{most_precision, limbs_for}
use Rattle.numbers.specs.Operand.{Operand}
use Rattle.numbers.proofs.Digits.{precision_two}
use Rattle.rounding.specs.Mode.{Way, near, under, over, way}
use Rattle.rounding.specs.declared.Mode.{Mode}
use Rattle.rounding.specs.Answer.{rounded}
use Rattle.rounding.specs.declared.Mode.TheVariants.{Nearest}
use Rattle.decide.proofs.Settled.{enough_true}
use Rattle.place.specs.Placed.{run_number}
use Rattle.remnant.specs.Digits.{ShowsDigits}
use Rattle.walk.specs.Window.{head_of, Shows}
use Rattle.walk.specs.declared.state.Window.{Window}
use Rattle.remnant.proofs.Sizes.{digits_carry, digits_limb, with_carry, without_carry}
use Rattle.leap.specs.Leap.{Leapt}
use Rattle.settle.specs.Ways.{theory_way}
use Rattle.settle.specs.Rows.{row_of, Modest}
use Rattle.settle.specs.declared.rows.Pair.{Pair}
use Rattle.settle.specs.declared.rows.Row.{Row}
use Rattle.settle.specs.declared.rows.Row.TheVariants.{Exact, Plus, Minus, Hole}
use Rattle.settle.specs.declared.rows.Way as code
use Rattle.settle.specs.declared.rows.Way.TheVariants.{Near, Under, Over}
use Rattle.bridge.specs.Verdict.{read_sum, inner?, more_of}
use Rattle.bridge.proofs.Told.{pair_second}
use Rattle.bridge.proofs.Refine.{scaled_up}
use Rattle.bridge.proofs.Answers.{sum_pos}
use Rattle.bridge.proofs.Covered.{columns_above}
use Rattle.descent.specs.declared.going.Verdict.TheVariants.{Fixed}
use Rattle.checks.specs.Room.{Room}
use Rattle.descent.specs.Course.{Course, Judged, Held, Begun, Reached, Sighted, Full, Inside}
use Rattle.descent.proofs.JudgingRange.{digits_some}
use Rattle.descent.proofs.JudgingRows.{pair_modest}
use Rattle.descent.proofs.GoingDown.{room_some}
use Rattle.descent.proofs.AtOnce.{sighted, head_is, carry_leads, limb_leads}
use Rattle.descent.proofs.AtGlance.{glance_exact, glance_plus, glance_minus, first_reached, first_open, first_full}
use Rattle.descent.proofs.RegularEnd.{deep_enough}
use Rattle.wide.specs.Filling.{Holding, Offered, Rounds, Promptly}

-- ---- what is held

pub toward : Way → code.Way
toward near = Near
toward under = Under
toward over = Over

toward_is : (w : Way) → theory_way (toward w) ≡ w
unfolding theory_way toward
toward_is near = refl
toward_is under = refl
toward_is over = refl

pub held : (o : Mode) (x y : Operand) (pair : Pair) (first second : List ℕ) → Holding x y pair first second → Held o x y (toward (way o x.negative)) pair first second
held o x y pair first second h = record { pair_is = h.pair_is; first_is = h.first_is; second_is = λ e. h.second_is; way_is = toward_is (way o x.negative) }

module _ (p : ℕ) (pair : Pair) (first second : List ℕ) (offered : Offered pair first second) where
  abbrev h : Holding offered.larger offered.other pair first second
  h = offered.holding

  begun : Begun (toward (way Nearest offered.larger.negative)) pair first second 0
  begun = record { mode = Nearest; larger = offered.larger; other = offered.other; held = held Nearest offered.larger offered.other pair first second h; course = h.course }

  pub offered_sighted : (target : List ℕ) → Room p (length target) → Sighted pair (length first) 0 (length target)
  offered_sighted target room = sighted p _ pair first second 0 target room begun

  pub offered_second : 0 < pair.second
  offered_second = rw h.pair_is (omega (arith, pair_second offered.larger offered.other h.regular, precision_two offered.other h.course.ordered.second))

  pub offered_modest : (n k : ℕ) → Room p n → k ≤ n + 1 → Modest pair k
  unfolding limbs_for most_precision
  offered_modest n k room few = subst (λ (s : Pair). Modest s k) (sym h.pair_is) (pair_modest offered.larger offered.other k h.course.ordered (omega (arith, room.count, room.most, deep_enough)))

-- ---- what stands in the target

module _ (p : ℕ) (pair : Pair) (first second before after : List ℕ) (w : Window) (carry : Bool) (room : Room p (length after)) (a : Promptly pair first second before after w carry)
    (lead : (carry || ltb 1 (get_or after (length after - 1) 0)) ≡ true) where
  abbrev n : ℕ
  n = length after

  room_before : Room p (length before)
  room_before = rw a.size at room

  ahead : w.filled ≡ n → 2 ^ (64 * (n - 1)) < head_of w after
  ahead f = go carry a.carry_is lead
    where
      go : (c : Bool) → w.carry ≡ c → (c || ltb 1 (get_or after (n - 1) 0)) ≡ true → 2 ^ (64 * (n - 1)) < head_of w after
      go true e l = carry_leads w after (room_some p n room) e f
      go false e l = limb_leads w after (room_some p n room) l f

  first_digit : carry ≡ false → 0 < get_or after (n - 1) 0
  first_digit e = let t = ltb-true 1 (get_or after (n - 1) 0) (rw e at lead) in omega arith

  abbrev Tells : Bool → Type 0
  Tells more = (o : Mode) (x y : Operand) (toward : code.Way) (first second : List ℕ) → Held o x y toward pair first second → Reached x y w after n → Judged o p x y n (Fixed more)

  module _ (o : Mode) (x y : Operand) (holding : Holding x y pair first second) where
    abbrev course : Course x y 0
    course = holding.course

    abbrev D : ℕ
    D = read_sum x y n

    reached : Reached x y w after n
    reached = first_reached p pair first second before after room_before a.prompt w a.filled ahead o x y _ (held o x y pair first second holding) course

    pub full : Full w after
    full = first_full p pair first second before after room_before a.prompt w a.filled ahead o x y _ (held o x y pair first second holding) course

    leapt : Leapt 0 (0 + length before) (read_sum x y (0 + length before)) before after w
    leapt = a.filled x y course holding.pair_is holding.first_is (λ e. holding.second_is)

    value : D ≡ bit carry * 2 ^ (64 * n) + value_of after
    value =
        ap (read_sum x y) (a.size ∙ place (length before)) ∙ leapt.value ∙ head_is w after (room_some p n room) leapt.full
        ∙ ap (λ (c : Bool). bit c * 2 ^ (64 * n) + value_of after) a.carry_is
      where
        place : (m : ℕ) → m ≡ 0 + m
        place m = omega arith

    run_is : (more : Bool) → 2 * (D * 2 ^ (64 * 1)) + bit more ≡ run_number carry after 0 more
    unfolding run_number
    run_is more = ap (λ (m : ℕ). 2 * (m * 2 ^ (64 * 1)) + bit more) value ∙ flat ((bit carry * 2 ^ (64 * n) + value_of after) * 2 ^ (64 * 1)) (bit more)
      where
        flat : (m b : ℕ) → 2 * m + b ≡ 2 * (m + 0) + b
        flat m b = omega arith

    above : 64 * (n + 1) + 1 ≤ x.exponent
    above = columns_above x course.ordered.first course.ordered.regular (n + 1) (let u = reached.near in let v = deep_enough in omega arith)

    pub full_rounds : (more : Bool) → Tells more → Rounds o p x y after carry 0 more n
    full_rounds more tells =
        let j = tells o x y _ first second (held o x y pair first second holding) reached in
        record {
          some = reached.some;
          near = reached.near;
          fixed = j.0;
          first = first_open p pair first second before after room_before a.prompt w a.filled ahead o x y _ (held o x y pair first second holding) course;
          answer =
              j.1
              ∙ sym (scaled_up (way o x.negative) p (digits_some p n room) x.negative (x.exponent - 64 * n) D 1 more (place_room x.exponent n above) (sum_pos o p (digits_some p n room) x y n course.ordered reached.some reached.leads) (λ e. enough_true (way o x.negative) p D (j.2 e)))
              ∙ ap (λ (m : ℕ). rounded (way o x.negative) p (m - 1) x.negative (2 * (D * 2 ^ (64 * 1)) + bit more)) (place x.exponent n)
              ∙ ap (rounded (way o x.negative) p (x.exponent - 64 * (n + 1) - 1) x.negative) (run_is more);
          led = first_digit;
        }
      where
        place_room : (e m : ℕ) → 64 * (m + 1) + 1 ≤ e → 64 * 1 + 1 ≤ e - 64 * m
        place_room e m h = omega arith

        place : (e m : ℕ) → e - 64 * m - 64 * 1 ≡ e - 64 * (m + 1)
        place e m = omega arith

    pub read_rounds : row_of pair n ≡ Exact → Rounds o p x y after carry 0 false n
    read_rounds e = full_rounds false (glance_exact p pair w n after room e)

    pub inside_rounds : ((k E : ℕ) → Shows w after k E → Inside p E) → (more : Bool) → (inner? (row_of pair n) ≡ true) × (more_of (row_of pair n) ≡ more) → Rounds o p x y after carry 0 more n
    unfolding inner? more_of
    inside_rounds inside more b = go (row_of pair n) refl b.0 b.1
      where
        go : (row : Row) → row_of pair n ≡ row → inner? row ≡ true → more_of row ≡ more → Rounds o p x y after carry 0 more n
        go Exact e i m = absurd (true≢false (sym i))
        go (Plus least next most) e i m = full_rounds more (subst Tells m (glance_plus p pair w n after room inside least next most e))
        go (Minus most) e i m = full_rounds more (subst Tells m (glance_minus p pair w n after room inside most e))
        go Hole e i m = absurd (true≢false (sym i))

-- ---- its digits

module _ (w : Window) (target : List ℕ) (lim : Below (2 ^ 64) target) (f : Full w target) where
  plain : bit (is_some w.guard) ≡ 0
  plain = ap bit f.unguarded ∙ (unfold bit in refl)

  pub full_carry : w.carry ≡ true → ShowsDigits w target (64 * length target + 1)
  full_carry c = with_carry w target (64 * length target + 1) c (omega (arith, plain, f.filled)) (λ k D s. omega (arith, plain, f.filled, digits_carry w target lim k D s c))

  pub full_limb : w.carry ≡ false → ShowsDigits w target (64 * length target - count_leading_zeros 64 (get_or target (length target - 1) 0))
  full_limb c =
      let z : ℕ = count_leading_zeros 64 (get_or target (length target - 1) 0) in
      without_carry w target (64 * length target - z) c (omega (arith, plain, f.filled)) (omega (arith, plain))
      (λ k D s. omega (arith, plain, f.filled, digits_limb w target lim k D s c (let p = f.fits.limbs in omega (arith, f.filled))))
