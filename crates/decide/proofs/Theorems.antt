-- What is known of the decision, over all well-formed operands, for sums and differences, gathered for a reader; the proofs stand in the files that are cited.
use mathlib.Core.Path.{◌≡◌, ◌∙◌, subst}
use mathlib.Core.Bool.{false, ◌&&◌}
use Prim.Native.Nat.{ℕ, ◌+◌, ◌*◌, ◌≤◌, ◌<◌}
use Rattle.depth.proofs.Exchange.{fixed_exchange, first_some}
use Rattle.numbers.specs.Operand.{Operand, WellFormed}
use Rattle.rounding.specs.declared.Mode.{Mode}
use Rattle.depth.specs.Columns.{top_exponent, Like}
use Rattle.depth.specs.Read.{unread}
use Rattle.depth.specs.Depth.{Operation, result, Fixed}
use Rattle.depth.proofs.Place.{other_top}
use Rattle.depth.proofs.Subtract.{addend, addend_well_formed, addend_exponent, addend_zero, result_is, top_is, like_sum, like_second_sum, fixed_result, fixed_sum}
use Rattle.depth.proofs.Theorems.{unread_addend}
use Rattle.decide.specs.Decide.{reaches?, left_over, decide_at}
use Rattle.decide.specs.Answer.{answer_at}
use Rattle.decide.proofs.Pair.{Decides}
use Rattle.decide.proofs.Decision.{decides_fixed, decides_read, answer_read}
use Rattle.decide.proofs.Covered.{Accepted, covers}
use Rattle.decide.proofs.HoleVerdict.{InHole, hole_same_lem}

reaches_addend : (f : Operation) (t k : ℕ) (y : Operand) → reaches? t k (addend f y) ≡ reaches? t k y
unfolding reaches?
reaches_addend f t k y = let a = addend_zero f y in let c = addend_exponent f y in cc

left_addend : (f : Operation) (t k : ℕ) (y : Operand) → left_over t k (addend f y) ≡ left_over t k y
unfolding left_over
left_addend f t k y = let a = addend_zero f y in let c = unread_addend f t k y in cc

module _ (f : Operation) (o : Mode) (p : ℕ) (P : 0 < p) (x y : Operand) (g : WellFormed x) (h : WellFormed y) where
  second : WellFormed (addend f y)
  second = addend_well_formed f y h

  -- ---- the decision is `Fixed`

  pub decision_is_fixed : (k : ℕ) → 1 ≤ k → Decides (decide_at o p x (addend f y) k) (Fixed f o p x y k)
  decision_is_fixed k K = record {
    sound = λ e. fixed_result f o p x y k ((decides_fixed o p P x (addend f y) g second k K).sound e);
    complete = λ u. (decides_fixed o p P x (addend f y) g second k K).complete (fixed_sum f o p x y k u);
  }

  -- ---- where it holds, what is read gives the answer

  pub answer_is_read : (x.is_zero && y.is_zero) ≡ false → (k : ℕ) → 1 ≤ k → Fixed f o p x y k → result f o p x y ≡ answer_at o p x (addend f y) k
  answer_is_read some k K u = result_is f o p x y ∙ answer_read o p P x (addend f y) g second k K (let a = addend_zero f y in cc) (fixed_sum f o p x y k u)

  -- pairs that agree in k columns get one decision
  pub decision_reads : (k : ℕ) (z w : Operand) → Like (top_exponent x y) k x z → Like (top_exponent x y) k y w → decide_at o p z (addend f w) k ≡ decide_at o p x (addend f y) k
  decision_reads k z w l m = decides_read o p x (addend f y) z (addend f w) k g second (like_sum f x y k z l) (like_second_sum f x y k w m)

  -- ---- without refusal, hole or full reading a fixed k has 64k ≥ p, so the columns down to p are needed in any case

  pub target_covered : (k : ℕ) → 1 ≤ k → Fixed f o p x y k → Accepted (result f o p x y)
      → (reaches? (top_exponent x y) k x ≡ false → 0 < unread (top_exponent x y) k y) → (reaches? (top_exponent x y) k y ≡ false → 0 < unread (top_exponent x y) k x)
      → 0 < left_over (top_exponent x y) k x + left_over (top_exponent x y) k y → p ≤ 64 * k
  target_covered k K u a b c n =
      let t = top_is f x y in
      let i = unread_addend f (top_exponent x y) k y in let j = reaches_addend f (top_exponent x y) k y in let l = left_addend f (top_exponent x y) k y in
      covers o p P x (addend f y) g second k K (fixed_sum f o p x y k u) (subst Accepted (result_is f o p x y) a) (rw (t, i) b) (rw (t, j) c) (rw (t, l) n)

  -- ---- within a hole, where all of the one is read and nothing of the other, the verdict is the same for every k

  pub hole_verdict : (j k : ℕ) → 1 ≤ j → 1 ≤ k → InHole x y j → InHole x y k → Fixed f o p x y j → Fixed f o p x y k
  hole_verdict j k J K a b u = fixed_result f o p x y k (hole_same_lem o p x (addend f y) P g second j k J K (hole_addend j a) (hole_addend k b) (fixed_sum f o p x y j u))
    where
      hole_addend : (i : ℕ) → InHole x y i → InHole x (addend f y) i
      hole_addend i a = record {
        regular = addend_zero f y ∙ a.regular;
        unseen = rw (top_is f x y, addend_exponent f y) a.unseen;
        read = rw (top_is f x y) a.read;
      }

  pub hole_verdict_above : (j k : ℕ) → 1 ≤ j → 1 ≤ k → InHole y x j → InHole y x k → Fixed f o p x y j → Fixed f o p x y k
  hole_verdict_above j k J K a b u =
      let r = (other_top y x j J a.regular a.unseen).0 in
      fixed_result f o p x y k (fixed_exchange o p P x (addend f y) (first_some x (addend f y) a.regular) k
      (hole_same_lem o p (addend f y) x P second g j k J K (hole_addend j a) (hole_addend k b) (fixed_exchange o p P (addend f y) x (first_some (addend f y) x (addend_zero f y ∙ r)) j (fixed_sum f o p x y j u))))
    where
      top : top_exponent (addend f y) x ≡ top_exponent y x
      top = unfold top_exponent in let c = addend_zero f y in let d = addend_exponent f y in cc

      hole_addend : (i : ℕ) → InHole y x i → InHole (addend f y) x i
      hole_addend i a = record {
        regular = a.regular;
        unseen = rw top a.unseen;
        read = rw (top, unread_addend f (top_exponent y x) i y) a.read;
      }
