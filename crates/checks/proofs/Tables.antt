-- The first test that fails is named, and nothing is refused exactly where all hold: for any list of tests. Assumes nothing.
use mathlib.Core.Path.{◌≡◌, refl}
use mathlib.Core.Bool.{Bool, true, false}
use mathlib.Core.List.{List, [], ◌∷◌, ◌++◌}
use Rattle.std.specs.Prelude.{Ok, Err}
use Rattle.checks.specs.declared.Rule.{Rule}
use Rattle.checks.specs.declared.Rule.TheVariants.{Mode, Precision, Limbs, Exponent, Form, TooLarge, TooSmall, LineSize, LineByte, LineKind, Operation, DoubleTooLarge, DoubleTooSmall, NoNumber}
use Rattle.checks.specs.Refusal.{rule_number}
use Rattle.checks.specs.Check.{then, Test, accepted, first_refusal}

abbrev pub AllHold : List Test → Type 0
AllHold [] = Unit {0}
AllHold (t ∷ ts) = (t.holds ≡ true) × AllHold ts

pub all_accepted : (ts : List Test) → AllHold ts → first_refusal ts ≡ accepted
unfolding first_refusal
all_accepted [] h = refl
all_accepted (t ∷ ts) h = rw h.0 (all_accepted ts h.1)

pub first_names : (ts us : List Test) (t : Test) → AllHold ts → t.holds ≡ false → first_refusal (ts ++ t ∷ us) ≡ Err (record { rule = t.rule; place = t.place })
unfolding first_refusal
first_names [] us t h f = rw f
first_names (s ∷ ts) us t h f = rw h.0 (first_names ts us t h.1 f)

pub accepted_all : (ts : List Test) → first_refusal ts ≡ accepted → AllHold ts
unfolding first_refusal accepted
accepted_all [] e = tt
accepted_all (t ∷ ts) e = go t.holds refl (accepted_all ts)
  where
    go : (b : Bool) → t.holds ≡ b → (first_refusal ts ≡ accepted → AllHold ts) → AllHold (t ∷ ts)
    go true h k = (h, k (rw h at e))
    go false h k = let none : Err (record { rule = t.rule; place = t.place }) ≡ Ok tt = rw h at e in cc none

-- a caller that finds no refusal knows that all hold
pub unrefused_all : (ts : List Test) (u : Unit {0}) → first_refusal ts ≡ Ok u → AllHold ts
unfolding accepted
unrefused_all ts u e = accepted_all ts e

pub unrefused_accepted : (ts : List Test) (u : Unit {0}) → first_refusal ts ≡ Ok u → first_refusal ts ≡ accepted
unrefused_accepted ts u e = all_accepted ts (unrefused_all ts u e)

-- no rule has the number 0, which C reads as no refusal
pub some_rule : (r : Rule) → rule_number r ≡ 0 → ⊥
unfolding rule_number
some_rule Mode e = cc e
some_rule Precision e = cc e
some_rule Limbs e = cc e
some_rule Exponent e = cc e
some_rule Form e = cc e
some_rule TooLarge e = cc e
some_rule TooSmall e = cc e
some_rule LineSize e = cc e
some_rule LineByte e = cc e
some_rule LineKind e = cc e
some_rule Operation e = cc e
some_rule DoubleTooLarge e = cc e
some_rule DoubleTooSmall e = cc e
some_rule NoNumber e = cc e

-- ---- tests in a row are a chain: the first part that refuses refuses, and what passes leaves the rest

pub chained : (ts us : List Test) → first_refusal (ts ++ us) ≡ then (first_refusal ts) (first_refusal us)
unfolding first_refusal accepted
chained [] us = refl
chained (t ∷ ts) us = go t.holds refl (chained ts us)
  where
    go : (b : Bool) → t.holds ≡ b → first_refusal (ts ++ us) ≡ then (first_refusal ts) (first_refusal us) → first_refusal ((t ∷ ts) ++ us) ≡ then (first_refusal (t ∷ ts)) (first_refusal us)
    go true h k = rw h k
    go false h k = rw h
