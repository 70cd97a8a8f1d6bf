-- The desk line by its checks. Assumes nothing.
use mathlib.Core.Path.{◌≡◌, refl, ap, ◌∙◌}
use mathlib.Core.Bool.{true, false}
use Rattle.std.specs.Prelude.{Result, Ok, Err}
use Rattle.checks.specs.declared.Rule.{Rule}
use Rattle.checks.specs.declared.Rule.TheVariants as rules
use Rattle.checks.specs.declared.Rule.TheVariants.{LineSize, LineByte}
use Rattle.checks.specs.declared.Place.TheVariants.{Target}
use Rattle.checks.specs.declared.Refusal.{Refusal}
use mathlib.Core.List.{List}
use Prim.Native.Nat.{ℕ, ◌+◌, ◌≤◌, ◌<◌}
use native.Mathlib.Omega.{arith}
use borrow.Author.Tests.{eq-eqb, ne_eqb, le-leb, lt-leb}
use lib.ListN.{length}
use Rattle.checks.specs.Check.{accepted, answered, first_refusal}
use Rattle.lines.specs.Reading.{field, digits_hold}
use Rattle.desklines.specs.declared.order.Operation.{Operation as Asked}
use Rattle.desklines.specs.declared.order.Request.{Request}
use Rattle.desklines.specs.Order.{order_size, order_refusal, operation_in, request_in, order_of}

abbrev refused_order : Rule → Result Request Refusal
refused_order rule = Err (record { rule = rule; place = Target })

named : (line : List ℕ) (rule : Rule) → order_refusal line ≡ Err (record { rule = rule; place = Target }) → refused_order rule ≡ order_of line
unfolding order_of answered
named line rule e = rw e

abbrev request_or : Request → Result Request Refusal → Request
request_or a (Ok b) = b
request_or a (Err q) = a

module _ (line : List ℕ) where
  pub refused_size : (length line ≡ order_size → ⊥) → order_refusal line ≡ Err (record { rule = LineSize; place = Target })
  unfolding order_refusal first_refusal
  refused_size n = simp (ne_eqb (length line) order_size n)

  pub wrong_size : (length line ≡ 9 → ⊥) → refused_order LineSize ≡ order_of line
  unfolding order_size
  wrong_size n = named line LineSize (refused_size n)

  module _ (size : length line ≡ 9) where
    second : digits_hold line ≡ false → order_refusal line ≡ Err (record { rule = LineByte; place = Target })
    unfolding order_refusal order_size first_refusal
    second d = simp (eq-eqb (length line) 9 size, d)

    pub no_digits : digits_hold line ≡ false → refused_order LineByte ≡ order_of line
    no_digits d = named line LineByte (second d)

    module _ (digits : digits_hold line ≡ true) where
      third : 1 < field 0 2 line → order_refusal line ≡ Err (record { rule = rules.Operation; place = Target })
      unfolding order_refusal order_size first_refusal
      third h = simp (eq-eqb (length line) 9 size, digits, lt-leb (field 0 2 line) 1 h)

      pub no_operation : 1 < field 0 2 line → refused_order rules.Operation ≡ order_of line
      no_operation h = named line rules.Operation (third h)

      all_hold : field 0 2 line ≤ 1 → order_refusal line ≡ accepted
      unfolding order_refusal order_size first_refusal accepted
      all_hold h = simp (eq-eqb (length line) 9 size, digits, le-leb (field 0 2 line) 1 h)

      pub taken : (o p m : ℕ) (a : Asked) → o ≡ field 0 2 line → o ≤ 1 → a ≡ operation_in o → p ≡ field 2 4 line → m ≡ field 6 2 line
          → Ok (record { operation = a; precision = p; mode = m }) ≡ order_of line
      unfolding order_of request_in answered accepted
      taken o p m a e h b f g =
          let k : field 0 2 line ≤ 1 = omega (arith, e, h) in
          simp (all_hold k, b, e, f, g)

-- a desk line is refused, or asks
module _ (line : List ℕ) where
  pub order_err : (r : Refusal) → Err r ≡ order_of line → order_refusal line ≡ Err r
  unfolding order_of answered
  order_err r e = go (order_refusal line) refl
    where
      go : (s : Result (Unit {0}) Refusal) → order_refusal line ≡ s → s ≡ Err r
      go (Ok u) h = let none : Err r ≡ Ok (request_in line) = e ∙ rw h in cc none
      go (Err q) h = let same : Err r ≡ Err q = e ∙ rw h in cc same

  pub order_ok : (a : Request) → Ok a ≡ order_of line → (order_refusal line ≡ accepted) × (a ≡ request_in line)
  unfolding order_of answered accepted
  order_ok a e = go (order_refusal line) refl
    where
      go : (s : Result (Unit {0}) Refusal) → order_refusal line ≡ s → (s ≡ Ok tt) × (a ≡ request_in line)
      go (Ok u) h = let k : Ok a ≡ Ok (request_in line) = e ∙ rw h in (refl, ap (request_or a) k)
      go (Err q) h = let none : Ok a ≡ Err q = e ∙ rw h in cc none
