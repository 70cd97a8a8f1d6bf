-- What the checks leave to a sum, and what its cases give to add and re-round. Assumes nothing.
use mathlib.Core.Path.{◌≡◌, refl, sym, ap, ◌∙◌, subst}
use mathlib.Core.Bool.{Bool, true, false}
use mathlib.Core.List.{List}
use Prim.Native.Nat.{ℕ, ◌^◌, ◌≤◌}
use lib.ListN.{length, replicate}
use Rattle.numbers.proofs.Digits.{zero_well_formed}
use Rattle.limb.specs.Value.{Below}
use Rattle.numbers.specs.Operand.{Operand, WellFormed, zero_like}
use Rattle.rounding.specs.Mode.{mode_of}
use Rattle.rounding.specs.declared.Mode.{Mode}
use Rattle.rounding.specs.Answer.{zero_of}
use Rattle.rounding.specs.Sum.{zero_sign}
use Rattle.depth.specs.Depth.{Operation, plus}
use Rattle.checks.specs.declared.Number.{Number}
use Rattle.std.specs.Prelude.{Result, Ok, Err}
use Rattle.std.specs.Result.{IsErr}
use Rattle.checks.specs.declared.Refusal.{Refusal}
use Rattle.checks.specs.Number.{is_zero_kind, operand_of}
use Rattle.checks.specs.Check.{accepted, pair_refusal, single_refusal}
use Rattle.checks.proofs.Accepted.{accepted_well_formed, accepted_single, pair_unrefused, single_unrefused}
use Rattle.admission.specs.Sizes.{SizesPass}
use Rattle.admission.proofs.Sized.{accepted_sized}
use Rattle.reports.specs.declared.report.Sum.{Sum}
use Rattle.checks.specs.Room.{Room}
use Rattle.reports.specs.Summed.{refused_sum, sum_of, Reported, Summed, Rerounded}
use Rattle.reports.proofs.Zeros.{zeros_reported}

pub kind_told : (x : Number) (xl : List ℕ) {v b : Bool} → v ≡ is_zero_kind x.kind → v ≡ b → (operand_of x xl).is_zero ≡ b
unfolding operand_of
kind_told x xl e f = sym e ∙ f

-- two zeros
pub zeros_told : (mode : Mode) (p : ℕ) (x : Number) (xl : List ℕ) (y : Number) (yl : List ℕ) → (operand_of x xl).is_zero ≡ true → (operand_of y yl).is_zero ≡ true
    → (entry : List ℕ) {exit : List ℕ} {v : Bool} {r : Sum} → Room p (length entry) → exit ≡ replicate (length entry) 0
    → v ≡ zero_sign mode x.negative y.negative → r ≡ sum_of (zero_of v) p 0 0 0 → Reported plus mode p (operand_of x xl) (operand_of y yl) exit r
unfolding operand_of
zeros_told mode p x xl y yl a b entry {exit} room e f g =
    rw (g, f) (zeros_reported mode p (operand_of x xl) (operand_of y yl) a b exit (e ∙ ap (λ (n : ℕ). replicate n 0) room.count))

-- a well-formed zero is the zero that re-rounding adds to it
pub zero_alike : (x : Operand) → WellFormed x → x.is_zero ≡ true → x ≡ zero_like x
unfolding zero_like
zero_alike x g z =
    ap (λ (b : Bool). record { negative = x.negative; is_zero = b; precision = x.precision; exponent = x.exponent; limbs = x.limbs }) z
    ∙ ap (λ (e : ℕ). record { negative = x.negative; is_zero = true; precision = x.precision; exponent = e; limbs = x.limbs }) (g.zero z)

-- what a look at the first column asks of two numbers and of the target
pub record Plain (x : Number) (xl : List ℕ) (y : Number) (yl : List ℕ) (p n : ℕ) : Type 0 where
  pub first : WellFormed (operand_of x xl)
  pub second : WellFormed (operand_of y yl)
  pub first_regular : is_zero_kind x.kind ≡ false
  pub second_regular : is_zero_kind y.kind ≡ false
  pub room : Room p n
  pub few : p ≤ 62

-- where nothing is refused
module _ (mode : ℕ) (x : Number) (xl : List ℕ) (y : Number) (yl : List ℕ) (p : ℕ) (entry : List ℕ) (e : pair_refusal mode (operand_of x xl) (operand_of y yl) p (length entry) ≡ accepted) where
  pub accepted_ready : Below (2 ^ 64) xl → Below (2 ^ 64) yl → (mode ≤ 3) × WellFormed (operand_of x xl) × WellFormed (operand_of y yl) × Room p (length entry)
  unfolding operand_of
  accepted_ready wx wy =
      let g = accepted_well_formed mode (operand_of x xl) (operand_of y yl) p (length entry) wx wy e in
      (g.mode_small, g.first, g.second, record { least = g.target.least; most = g.target.most; count = g.target.count })

  pub accepted_plain : Below (2 ^ 64) xl → Below (2 ^ 64) yl → p ≤ 62 → is_zero_kind x.kind ≡ false → is_zero_kind y.kind ≡ false → Plain x xl y yl p (length entry)
  accepted_plain wx wy few i j = let g = accepted_ready wx wy in record { first = g.1; second = g.2; first_regular = i; second_regular = j; room = g.3; few = few }

  pub accepted_reported : {f : Operation} {exit : List ℕ} {s : Sum} → Reported f (mode_of mode) p (operand_of x xl) (operand_of y yl) exit s → Summed f mode x xl y yl p entry exit s
  unfolding accepted
  accepted_reported d = record { refused = λ c k. let none : ◌≡◌ {A = Result (Unit {0}) Refusal} (Ok tt) (Err c) = sym e ∙ k in cc none; reported = λ k. d }

module _ (mode : ℕ) (x : Number) (xl : List ℕ) (y : Number) (yl : List ℕ) (p : ℕ) (entry : List ℕ) (r : Result (Unit {0}) Refusal) (e : r ≡ pair_refusal mode (operand_of x xl) (operand_of y yl) p (length entry)) where
  passed : {u : Unit {0}} → r ≡ Ok u → pair_refusal mode (operand_of x xl) (operand_of y yl) p (length entry) ≡ accepted
  passed {u} h = pair_unrefused mode (operand_of x xl) (operand_of y yl) p (length entry) u (sym e ∙ h)

  pub pair_ready : {u : Unit {0}} → r ≡ Ok u → Below (2 ^ 64) xl → Below (2 ^ 64) yl → (mode ≤ 3) × WellFormed (operand_of x xl) × WellFormed (operand_of y yl) × Room p (length entry)
  pair_ready h wx wy = accepted_ready mode x xl y yl p entry (passed h) wx wy

  pub pair_plain : {u : Unit {0}} → r ≡ Ok u → Below (2 ^ 64) xl → Below (2 ^ 64) yl → (p ≤ 62) × (is_zero_kind x.kind ≡ false) × (is_zero_kind y.kind ≡ false) → Plain x xl y yl p (length entry)
  pair_plain h wx wy t = accepted_plain mode x xl y yl p entry (passed h) wx wy t.0 t.1 t.2

  pub pair_refused : {f : Operation} {s : Sum} {c : Refusal} → r ≡ Err c → s ≡ refused_sum c 0 0 0 → Summed f mode x xl y yl p entry entry s
  unfolding accepted
  pair_refused {f} {s} {c} h a =
      record {
        refused = λ d k.
            let both : ◌≡◌ {A = Result (Unit {0}) Refusal} (Err c) (Err d) = sym h ∙ e ∙ k in
            let same : c ≡ d = cc both in
            record { answer = a ∙ ap (λ (q : Refusal). refused_sum q 0 0 0) same; target = refl };
        reported = λ k. let none : ◌≡◌ {A = Result (Unit {0}) Refusal} (Err c) (Ok tt) = sym h ∙ e ∙ k in cc none;
      }

  pub pair_reported : {f : Operation} {exit : List ℕ} {s : Sum} {u : Unit {0}} → r ≡ Ok u → Reported f (mode_of mode) p (operand_of x xl) (operand_of y yl) exit s → Summed f mode x xl y yl p entry exit s
  pair_reported h d = accepted_reported mode x xl y yl p entry (passed h) d

module _ (mode : ℕ) (x : Number) (xl : List ℕ) (p : ℕ) (entry : List ℕ) (r : Result (Unit {0}) Refusal) (e : r ≡ single_refusal mode (operand_of x xl) p (length entry)) where
  passed_single : {u : Unit {0}} → r ≡ Ok u → single_refusal mode (operand_of x xl) p (length entry) ≡ accepted
  passed_single {u} h = single_unrefused mode (operand_of x xl) p (length entry) u (sym e ∙ h)

  pub single_ready : {u : Unit {0}} → r ≡ Ok u → Below (2 ^ 64) xl → (mode ≤ 3) × WellFormed (operand_of x xl) × Room p (length entry)
  unfolding operand_of
  single_ready h w =
      let g = accepted_single mode (operand_of x xl) p (length entry) w (passed_single h) in
      (g.mode_small, g.only, record { least = g.target.least; most = g.target.most; count = g.target.count })

  pub single_refused : {s : Sum} {c : Refusal} → r ≡ Err c → s ≡ refused_sum c 0 0 0 → Rerounded mode x xl p entry entry s
  unfolding accepted
  single_refused {s} {c} h a =
      record {
        refused = λ d k.
            let both : ◌≡◌ {A = Result (Unit {0}) Refusal} (Err c) (Err d) = sym h ∙ e ∙ k in
            let same : c ≡ d = cc both in
            record { answer = a ∙ ap (λ (q : Refusal). refused_sum q 0 0 0) same; target = refl };
        reported = λ k. let none : ◌≡◌ {A = Result (Unit {0}) Refusal} (Err c) (Ok tt) = sym h ∙ e ∙ k in cc none;
      }

  -- a zero is added to itself
  pub zero_rerounded : {exit : List ℕ} {s : Sum} {u : Unit {0}} → r ≡ Ok u → Below (2 ^ 64) xl → (operand_of x xl).is_zero ≡ true
      → Reported plus (mode_of mode) p (operand_of x xl) (operand_of x xl) exit s → Rerounded mode x xl p entry exit s
  unfolding accepted
  zero_rerounded {exit} {s} h w z d =
      record {
        refused = λ c k. let none : ◌≡◌ {A = Result (Unit {0}) Refusal} (Ok tt) (Err c) = sym (passed_single h) ∙ k in cc none;
        reported = λ k. subst (λ (v : Operand). Reported plus (mode_of mode) p (operand_of x xl) v exit s) (zero_alike (operand_of x xl) (single_ready h w).1 z) d;
      }

  -- a regular number and any zero
  pub regular_rerounded : {exit : List ℕ} {s : Sum} {u : Unit {0}} → r ≡ Ok u → Below (2 ^ 64) xl
      → ((z : Operand) → WellFormed z → z.is_zero ≡ true → Reported plus (mode_of mode) p (operand_of x xl) z exit s) → Rerounded mode x xl p entry exit s
  unfolding zero_like accepted
  regular_rerounded h w d =
      record {
        refused = λ c k. let none : ◌≡◌ {A = Result (Unit {0}) Refusal} (Ok tt) (Err c) = sym (passed_single h) ∙ k in cc none;
        reported = λ k. d (zero_like (operand_of x xl)) (zero_well_formed (operand_of x xl) (single_ready h w).1) refl;
      }

-- sizes that do not pass are refused
pub sizes_refused : (mode : ℕ) (x : Number) (xl : List ℕ) (y : Number) (yl : List ℕ) (p n : ℕ) {r : Result (Unit {0}) Refusal} → r ≡ pair_refusal mode (operand_of x xl) (operand_of y yl) p n
    → (SizesPass x.precision (length xl) y.precision (length yl) p n → ⊥) → IsErr r
unfolding operand_of
sizes_refused mode x xl y yl p n {r} e none = go r e
  where
    go : (q : Result (Unit {0}) Refusal) → q ≡ pair_refusal mode (operand_of x xl) (operand_of y yl) p n → IsErr q
    go (Ok u) f = absurd (none (accepted_sized mode (operand_of x xl) (operand_of y yl) p n (pair_unrefused mode (operand_of x xl) (operand_of y yl) p n u (sym f))))
    go (Err c) f = refl
