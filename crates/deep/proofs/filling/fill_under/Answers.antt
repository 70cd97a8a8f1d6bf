-- `deep::fill_under` is right since it fills the target only where the first column settles the sum, or where the columns after it leave it open up to one that fixes it. Assumes nothing.
use mathlib.Core.Path.{◌≡◌, sym, ap, ◌∙◌, subst}
use Prim.Native.Nat.{ℕ, ◌+◌, ◌-◌, ◌*◌, ◌≤◌, ◌<◌}
use native.Mathlib.Omega.{arith}
use lib.ListN.{length}
use borrow.Author.Tests.{not-false}
use Rattle.remnant.specs.Rest.{RestAt}
use Rattle.settle.specs.Rows.{Modest}
use Rattle.descent.proofs.JudgingRange.{digits_some}
use Rattle.numbers.proofs.Limits.{two_digits}
use Rattle.wide.proofs.Offering.{offered}
use Rattle.wide.proofs.FullTarget.{offered_modest}
use Rattle.deep.proofs.FillingTarget.{one_limb, digits_below, first_some, second_some, tops_ordered, Tested, first_fills, last_fills}
use Rattle.deep.proofs.filling.fill_under.Goals as goal

near : (n : ℕ) → 1 ≤ n + 1
near n = omega arith

-- ---- no refusal is near
pub inner_of-stop-requires : goal.inner_of-stop-requires
inner_of-stop-requires c =
    let modest : Modest c.args.order.now.pair 1 = offered_modest c.args.p _ c.args.order.now.first.now c.args.order.now.second.now (offered c.args.order.now) _ 1 c.requires.0 (near _) in
    (modest, c.requires.2)

pub is_inland-requires : goal.is_inland-requires
is_inland-requires c =
    let modest : Modest c.args.order.now.pair 1 = offered_modest c.args.p _ c.args.order.now.first.now c.args.order.now.second.now (offered c.args.order.now) _ 1 c.requires.0 (near _) in
    let m = modest in
    (m.top, omega (arith, m.first, c.inner_of-stop.ensures.first))

-- ---- the first column
pub overflow_sub-u : goal.overflow_sub-u
overflow_sub-u c =
    let first_limbs : 0 < length c.args.order.now.first.now = first_some _ _ _ _ _ c.args.order.now.held in
    omega (arith, first_limbs)

pub bounds-order-order : goal.bounds-order-order
bounds-order-order c =
    let first_limbs : 0 < length c.args.order.now.first.now = first_some _ _ _ _ _ c.args.order.now.held in
    omega (arith, first_limbs)

pub overflow_sub-v : goal.overflow_sub-v
overflow_sub-v c =
    let second_limbs : 0 < length c.args.order.now.second.now = second_some _ _ _ _ _ c.args.order.now.held in
    omega (arith, second_limbs)

pub bounds-order-order-2 : goal.bounds-order-order-2
bounds-order-order-2 c =
    let second_limbs : 0 < length c.args.order.now.second.now = second_some _ _ _ _ _ c.args.order.now.held in
    omega (arith, second_limbs)

pub begin-begun-requires : goal.begin-begun-requires
begin-begun-requires c = tops_ordered _ _ _ _ _ c.args.order.now.held

pub rest_kept-x-requires : goal.rest_kept-x-requires
rest_kept-x-requires c =
    let few = digits_below c.args.p c.begin-begun.result (omega arith) (omega (arith, two_digits, c.requires.0.least)) in
    (omega (arith, c.if-digits-p.false), omega (arith, c.digits_of-digits.ensures, few))

pub filled-requires : goal.filled-requires
filled-requires c =
    let one : length c.args.target.now ≡ 1 = one_limb c.args.p _ c.requires.0 c.requires.1 in
    one

pub returns-then-is_settled : goal.returns-then-is_settled
returns-then-is_settled c =
    let one : length c.args.target.now ≡ 1 = one_limb c.args.p _ c.requires.0 c.requires.1 in
    let tested : Tested c.args.mode c.args.order.now.negative c.args.p c.args.order.now.pair c.args.order.now.first.now c.args.order.now.second.now c.inner_of-stop.result c.begin-begun.result c.is_settled.result = record {
      positive = digits_some c.args.p _ c.requires.0;
      inner = c.inner_of-stop.ensures;
      inland = c.is_inland.ensures (c.if-not-is_inland.false);
      begun_is = c.begin-begun.ensures.1;
      long = omega (arith, c.if-digits-p.false, c.digits_of-digits.ensures);
      rest = c.rest_kept-x.result;
      told = λ t D kept. subst (λ (n : ℕ). RestAt D (n - c.args.p + 64 * t) c.rest_kept-x.result) c.digits_of-digits.ensures (c.rest_kept-x.ensures t D kept);
      toward = c.way_of.result;
      way_is = c.way_of.ensures;
      tests = c.is_settled.ensures;
    } in
    let stored = c.filled.ensures in
    (ap length stored.limbs ∙ sym one, first_fills _ _ _ _ _ _ _ _ _ tested c.begin-begun.ensures.0 c.if-is_settled.true _ _ stored)

pub filled-requires-2 : goal.filled-requires-2
filled-requires-2 c =
    let one : length c.args.target.now ≡ 1 = one_limb c.args.p _ c.requires.0 c.requires.1 in
    one

pub returns : goal.returns
returns c =
    let one : length c.args.target.now ≡ 1 = one_limb c.args.p _ c.requires.0 c.requires.1 in
    let tested : Tested c.args.mode c.args.order.now.negative c.args.p c.args.order.now.pair c.args.order.now.first.now c.args.order.now.second.now c.inner_of-stop.result c.begin-begun.result c.is_settled.result = record {
      positive = digits_some c.args.p _ c.requires.0;
      inner = c.inner_of-stop.ensures;
      inland = c.is_inland.ensures (c.if-not-is_inland.false);
      begun_is = c.begin-begun.ensures.1;
      long = omega (arith, c.if-digits-p.false, c.digits_of-digits.ensures);
      rest = c.rest_kept-x.result;
      told = λ t D kept. subst (λ (n : ℕ). RestAt D (n - c.args.p + 64 * t) c.rest_kept-x.result) c.digits_of-digits.ensures (c.rest_kept-x.ensures t D kept);
      toward = c.way_of.result;
      way_is = c.way_of.ensures;
      tests = c.is_settled.ensures;
    } in
    let stored = c.filled-2.ensures in
    (ap length stored.limbs ∙ sym one, last_fills _ _ _ _ _ _ _ _ _ tested (offered c.args.order.now) c.read_on-r.result c.read_on-r.ensures (not-false _ c.if-not-r.false) c.if-is_settled.false _ _ stored)
