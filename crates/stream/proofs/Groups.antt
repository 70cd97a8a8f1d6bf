-- What a group prints, by the first refusal of its lines or by its sum. Assumes nothing.
use mathlib.Core.Path.{◌≡◌, refl, sym, ap, ◌∙◌}
use mathlib.Core.Bool.{Bool, true, false, cond}
use mathlib.Core.List.{List, [], ◌∷◌, ◌++◌}
use Prim.Native.Nat.{ℕ, ◌+◌, ◌-◌, ◌≤◌, min}
use native.Mathlib.Omega.{arith}
use lib.ListN.{length, take, drop}
use lib.Seq.{take_at}
use borrow.Rule.Slice.PartMut.{put_mid}
use Rattle.numbers.proofs.Limits.{limbs_more}
use Rattle.numbers.specs.Limits.{limbs_for, most_precision}
use Rattle.numbers.specs.Operand.{Operand, WellFormed}
use Rattle.rounding.specs.Mode.{mode_of}
use Rattle.checks.specs.declared.Number.{Number}
use Rattle.checks.specs.declared.Refusal.{Refusal}
use Rattle.checks.specs.Number.{operand_of}
use Rattle.checks.specs.Check.{Test, test, accepted, first_refusal, mode_holds, precision_holds, pair_refusal}
use Rattle.checks.proofs.Tables.{accepted_all}
use Rattle.checks.proofs.Accepted.{precision_range}
use Rattle.lines.specs.Writing.{onto}
use Rattle.reports.specs.declared.report.Sum.{Sum}
use Rattle.reports.specs.Summed.{refused_sum, Reported, Summed}
use Rattle.std.specs.Prelude.{Result, Ok, Err, IfOk}
use Rattle.checks.specs.declared.Rule.TheVariants as rules
use Rattle.checks.specs.declared.Place.TheVariants.{Call, First, Second, Target}
use Rattle.desklines.specs.declared.order.Request.{Request}
use Rattle.desklines.proofs.Orders.{order_err, order_ok}
use Rattle.desklines.specs.Order.{order_refusal, request_in, order_of, operation_of}
use Rattle.desklines.specs.Answer.{refusal_line, answer_lines, sum_lines, longest_answer, operand_of_line, number_refusal, lines_refusal, sum_refusal, group_refusal}
use Rattle.desklines.specs.Written.{most_limbs, Tells, NumberHeld, AnswerTold, Answers}
use Rattle.desklines.proofs.Tellings.{refusal_fits, refusal_length, sum_few}
use Rattle.stream.proofs.Numbers.{part_length}
use Rattle.stream.proofs.Formed.{reported_formed}

pub most_is : most_limbs ≡ 64
unfolding most_limbs limbs_for most_precision
most_is = refl

abbrev error_or : Refusal → Result (Unit {0}) Refusal → Refusal
error_or r (Ok u) = r
error_or r (Err q) = q

-- a group that is refused
told_refused : (first second third o e : List ℕ) (n : ℕ) (c : Refusal) → group_refusal first second third ≡ Err c → Tells (refusal_line c) o e n → AnswerTold first second third o e n
unfolding accepted
told_refused first second third o e n c g t = record {
  told = refusal_line c;
  tells = t;
  few = omega (arith, refusal_length c, refusal_fits);
  answered = record {
    refused = λ q k. let same : ◌≡◌ {A = Result (Unit {0}) Refusal} (Err c) (Err q) = sym g ∙ k in ap refusal_line (ap (error_or c) same);
    summed = λ k. let none : ◌≡◌ {A = Result (Unit {0}) Refusal} (Err c) (Ok tt) = sym g ∙ k in cc none;
  };
}

module _ (first second third : List ℕ) where
  pub refused_first : (r : Refusal) → number_refusal First first ≡ Err r → group_refusal first second third ≡ Err r
  unfolding group_refusal lines_refusal
  refused_first r h = rw h

  module _ (x : number_refusal First first ≡ accepted) where
    pub refused_second : (r : Refusal) → number_refusal Second second ≡ Err r → group_refusal first second third ≡ Err r
    unfolding group_refusal lines_refusal accepted
    refused_second r h = rw (x, h)

    module _ (y : number_refusal Second second ≡ accepted) where
      pub refused_third : (r : Refusal) → Err r ≡ order_of third → group_refusal first second third ≡ Err r
      unfolding group_refusal lines_refusal accepted
      refused_third r h = rw (x, y, order_err third r h)

      lines_pass : order_refusal third ≡ accepted → group_refusal first second third ≡ sum_refusal first second third
      unfolding group_refusal lines_refusal accepted
      lines_pass z = rw (x, y, z)

-- a refusal that is printed is the group's answer
pub refusal_answers : (first second third o e : List ℕ) (n : ℕ) (r : Refusal) → group_refusal first second third ≡ Err r → Tells (refusal_line r) o e n → AnswerTold first second third o e n
refusal_answers first second third o e n r g t = told_refused first second third o e n r g t

-- the test of the target's precision comes before that of its limbs
first_stops : (ts us vs : List Test) (t : Test) → t.holds ≡ false → first_refusal (ts ++ t ∷ us) ≡ first_refusal (ts ++ t ∷ vs)
unfolding first_refusal
first_stops [] us vs t h = simp h
first_stops (x ∷ ts) us vs t h = ap (λ (r : Result (Unit {0}) Refusal). cond x.holds r (Err (record { rule = x.rule; place = x.place }))) (first_stops ts us vs t h)

pair_any : (mode : ℕ) (x y : Operand) (p n k : ℕ) → precision_holds p ≡ false → pair_refusal mode x y p n ≡ pair_refusal mode x y p k
unfolding pair_refusal
pair_any mode x y p n k h =
    first_stops (test (mode_holds mode) rules.Mode Call ∷ test (precision_holds x.precision) rules.Precision First ∷ test (precision_holds y.precision) rules.Precision Second ∷ []) _ _ (test (precision_holds p) rules.Precision Target) h

-- as many limbs as there are serve as well as those that the precision takes
pair_limbs : (mode : ℕ) (x y : Operand) (p n : ℕ) → n ≡ min (limbs_for p) most_limbs → pair_refusal mode x y p n ≡ pair_refusal mode x y p (limbs_for p)
unfolding most_limbs
pair_limbs mode x y p n e = go (precision_holds p) refl
  where
    go : (b : Bool) → precision_holds p ≡ b → pair_refusal mode x y p n ≡ pair_refusal mode x y p (limbs_for p)
    go false h = pair_any mode x y p n (limbs_for p) h
    go true h =
        let k : n ≡ limbs_for p = omega (arith, e, limbs_more p most_precision (precision_range p h).1) in
        ap (pair_refusal mode x y p) k

refused_lines : (s : Sum) (limbs o e : List ℕ) (n : ℕ) (c : Refusal) → s.answer ≡ Err c → Tells (sum_lines s limbs) o e n → Tells (refusal_line c) o e n
unfolding sum_lines answer_lines
refused_lines s limbs o e n c r t = rw r at t

pair_precision : (mode : ℕ) (x y : Operand) (p n : ℕ) → pair_refusal mode x y p n ≡ accepted → precision_holds p ≡ true
unfolding pair_refusal
pair_precision mode x y p n e = (accepted_all _ e).1.1.1.0

module _ (a : Request) (x y : Number) (xl yl entry exit : List ℕ) (s : Sum) (m : Summed (operation_of a.operation) a.mode x xl y yl a.precision entry exit s) where
  pair : Result (Unit {0}) Refusal
  pair = pair_refusal a.mode (operand_of x xl) (operand_of y yl) a.precision (length entry)

  pub sum_formed : IfOk s.answer (λ b. WellFormed (operand_of b.number exit))
  unfolding pair refused_sum accepted
  sum_formed = go pair refl
    where
      go : (c : Result (Unit {0}) Refusal) → pair ≡ c → IfOk s.answer (λ b. WellFormed (operand_of b.number exit))
      go (Ok u) k =
          let r = precision_range a.precision (pair_precision a.mode (operand_of x xl) (operand_of y yl) a.precision (length entry) k) in
          reported_formed a.precision r.0 r.1 _ _ _ _ exit s (m.reported k)
      go (Err c) k = rw (m.refused c k).answer tt

  module _ (first second third o e : List ℕ) (n : ℕ) (hx : NumberHeld First first x xl) (hy : NumberHeld Second second y yl) (oe : a ≡ request_in third) (oz : order_refusal third ≡ accepted) (count : length entry ≡ min (limbs_for a.precision) most_limbs) where
    held : pair ≡ sum_refusal first second third
    unfolding pair sum_refusal operand_of_line
    held =
        pair_limbs a.mode (operand_of x xl) (operand_of y yl) a.precision (length entry) count
        ∙ rw (hx.number, hy.number, hx.limbs_are, hy.limbs_are, oe) refl

    group_is : group_refusal first second third ≡ pair
    group_is = lines_pass first second third hx.refusal hy.refusal oz ∙ sym held

    summed_is : Reported (operation_of a.operation) (mode_of a.mode) a.precision (operand_of x xl) (operand_of y yl) exit s
        → Reported (operation_of (request_in third).operation) (mode_of (request_in third).mode) (request_in third).precision (operand_of_line first) (operand_of_line second) exit s
    unfolding operand_of_line
    summed_is r = rw (← oe, ← hx.number, ← hy.number, ← hx.limbs_are, ← hy.limbs_are) r

    pub answer_told : Tells (sum_lines s exit) o e n → AnswerTold first second third o e n
    unfolding pair refused_sum accepted
    answer_told t = go pair refl
      where
        go : (c : Result (Unit {0}) Refusal) → pair ≡ c → AnswerTold first second third o e n
        go (Ok u) k = record {
          told = sum_lines s exit;
          tells = t;
          few = sum_few s exit sum_formed;
          answered = record {
            refused = λ q z. let none : ◌≡◌ {A = Result (Unit {0}) Refusal} (Err q) (Ok tt) = sym z ∙ group_is ∙ k in cc none;
            summed = λ q. record { sum = s; limbs = exit; summed = summed_is (m.reported k); told_is = refl };
          };
        }
        go (Err c) k =
            let r : s.answer ≡ Err c = ap (λ (q : Sum). q.answer) (m.refused c k).answer in
            told_refused first second third o e n c (group_is ∙ k) (refused_lines s exit o e n c r t)

-- the first n limbs of a target whose first n limbs have become `last`
pub part_back : (target last : List ℕ) (n : ℕ) → n ≤ length target → length last ≡ length (take (n - 0) (drop 0 target)) → take (n - 0) (drop 0 (put_mid 0 (n - 0) target last)) ≡ last
part_back target last n h e =
    let k : length last ≡ n - 0 = e ∙ part_length target n h ∙ omega arith in
    take_at last _ (n - 0) k

module _ (a : Request) (x y : Number) (xl yl target last : List ℕ) (n : ℕ) (s : Sum) (count : n ≡ min (limbs_for a.precision) most_limbs) (whole : length target ≡ most_limbs)
    (m : Summed (operation_of a.operation) a.mode x xl y yl a.precision (take (n - 0) (drop 0 target)) last s) (kept : length last ≡ length (take (n - 0) (drop 0 target))) where
  few : n ≤ length target
  few = omega (arith, count, whole)

  pub part_formed : IfOk s.answer (λ b. WellFormed (operand_of b.number (take (n - 0) (drop 0 (put_mid 0 (n - 0) target last)))))
  part_formed = rw (part_back target last n few kept) (sum_formed a x y xl yl (take (n - 0) (drop 0 target)) last s m)

  pub part_answered : (o e : List ℕ) (k : ℕ) → Tells (sum_lines s (take (n - 0) (drop 0 (put_mid 0 (n - 0) target last)))) o e k
      → (first second third : List ℕ) → NumberHeld First first x xl → NumberHeld Second second y yl → Ok a ≡ order_of third → AnswerTold first second third o e k
  part_answered o e k t first second third hx hy b =
      let oz = order_ok third a b in
      answer_told a x y xl yl (take (n - 0) (drop 0 target)) last s m first second third o e k hx hy oz.1 oz.0 (part_length target n few ∙ count) (rw (part_back target last n few kept) at t)

-- the answer of a group, said of the room alone
pub told_answers : (first second third o e : List ℕ) (n : ℕ) → longest_answer ≤ length o → AnswerTold first second third o e n → Answers first second third o e n
unfolding onto
told_answers first second third o e n h a =
    let k : take n e ≡ a.told = ap (take n) a.tells.exit_is ∙ take_at a.told (drop (length a.told) o) n (sym a.tells.count_is) in
    record {
      short = λ l. absurd (omega arith);
      fits = λ l. omega (arith, a.few, a.tells.count_is);
      answered = λ l. rw k a.answered;
      told = λ l. rw k a.tells.exit_is;
    }
