-- Fields of a line, digit by digit. Assumes nothing.
use mathlib.Core.Path.{◌≡◌, refl, ◌∙◌}
use Prim.Native.Nat.{ℕ, suc, ◌+◌, ◌*◌, ◌^◌, ◌<◌}
use native.Mathlib.Omega.{arith}
use mathlib.Core.List.{List}
use lib.Dec.{eqb}
use lib.IntN.{ℤ}
use lib.ListN.{get_or, drop}
use lib.Seq.{drop-drop}
use Rattle.std.proofs.Math.Nat.{pow-le-pow_right}
use Rattle.std.proofs.lemmas.Grind.{pow_more}
use Rattle.checks.specs.declared.Number.{Number}
use Rattle.checks.specs.declared.Kind.{Kind}
use Rattle.checks.specs.Number.{exponent_of}
use Rattle.vectors.specs.Fields.{digit_of, field_of, kind_of, counted_from, number_of}

-- a digit more
pub field_longer : (l : List ℕ) (n : ℕ) → field_of n l * 16 + digit_of (get_or l n 0) ≡ field_of (n + 1) l
unfolding field_of
field_longer l n =
    let e : n + 1 ≡ suc n = omega arith in
    rw e refl

-- a digit more in what n + 1 digits hold
pub digit_fits : (n v d : ℕ) → v < 16 ^ n → d < 16 → v * 16 + d < 16 ^ (n + 1)
digit_fits n v d h g = rw (pow_more 16 n) (omega (arith, h, g))

-- up to fifteen digits leave room for one more in 64 bits
pub word_fits : (n v : ℕ) → n < 16 → v < 16 ^ n → v < 1152921504606846976
word_fits n v h g = omega (arith, g, pow-le-pow_right {n = 16} (omega arith) {i = n} {j = 15} (omega arith))

-- what is left after one, two, three and four fields of a number
pub second_rest : (l a b : List ℕ) → a ≡ drop 2 l → b ≡ drop 2 a → b ≡ drop 4 l
second_rest l a b g h = h ∙ rw g (drop-drop 2 2 l)

pub third_rest : (l b c : List ℕ) → b ≡ drop 4 l → c ≡ drop 16 b → c ≡ drop 20 l
third_rest l b c g h = h ∙ rw g (drop-drop 16 4 l)

pub fourth_rest : (l c d : List ℕ) → c ≡ drop 20 l → d ≡ drop 8 c → d ≡ drop 28 l
fourth_rest l c d g h = h ∙ rw g (drop-drop 8 20 l)

pub numbered : (l a b c : List ℕ) (s k w v n : ℕ) (kind : Kind) (e : ℤ) → s ≡ field_of 2 l → a ≡ drop 2 l → k ≡ field_of 2 a → kind ≡ kind_of k → b ≡ drop 4 l → w ≡ field_of 16 b → c ≡ drop 20 l → v ≡ field_of 8 c → n ≡ counted_from v → e ≡ exponent_of n → ◌≡◌ {A = Number} (record { negative = eqb s 1; kind = kind; precision = w; exponent = e }) (number_of l)
unfolding number_of
numbered l a b c s k w v n kind e h1 h2 h3 h4 h5 h6 h7 h8 h9 h10 = rw (h10, h9, h8, h7, h6, h5, h4, h3, h2, h1) refl
