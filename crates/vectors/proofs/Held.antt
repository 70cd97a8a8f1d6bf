-- Digits that are held back while a run is written. Assumes nothing.
use Rattle.std.proofs.Common.{◌≡◌, ℕ, ◌+◌, ◌-◌, ◌^◌, ◌≤◌, ◌<◌, List, [], ◌++◌, length, take, drop, length-take, length-drop, sym, refl, ap, ◌∙◌, arith}
use Rattle.std.specs.Prelude.{Option, Some, None, IsSome, IfSome}
use Rattle.std.specs.Io.KnownBytes.{Appends, append_known}
use Rattle.std.proofs.lemmas.List.{take_all}
use Rattle.std.proofs.KnownBytes.{Appends-trans}
use Rattle.std.proofs.lemmas.Slice.{take-put_mid}
use mathlib.Core.Bool.{false≢true}
use mathlib.Core.List.{append_assoc}
use borrow.Rule.Slice.PartMut.{put_mid, mid_of}
use Rattle.text.specs.Digits.{numeral}
use Rattle.text.proofs.Numeral.{length_numeral}
use Rattle.vectors.specs.Printed.{in_digits, item_text}
use Rattle.vectors.proofs.Numerals.{padded_numeral}

pub text_is : (w : Option ℕ) (high low d : ℕ) → 0 < d → d ≤ 16 → low < 16 ^ d → IsSome w → IfSome w (λ n. (high ≡ 0) × (low ≡ n)) → item_text d w ≡ numeral d low
text_is None high low d p l f i k = absurd (false≢true i)
text_is (Some v) high low d p l f i (h, e) = rw (sym e) (padded_numeral d low p l f)

-- nothing is held at first
pub none_held : (a : Option (List ℕ)) → Appends a (append_known a []) []
none_held None = tt
none_held (Some l) = refl

-- more is held; what was held is written and other bytes are held
pub more_held : (a : Option (List ℕ)) (x y : List ℕ) → Appends (append_known a x) (append_known a (x ++ y)) y
more_held None x y = tt
more_held (Some l) x y = sym (append_assoc l x y)

pub anew_held : (a b : Option (List ℕ)) (x y : List ℕ) → Appends a b x → Appends (append_known a x) (append_known b y) y
anew_held None b x y h = tt
anew_held (Some l) None x y h = absurd h
anew_held (Some l) (Some m) x y h = ap (λ (k : List ℕ). k ++ y) h

-- digits are stored after what stands before them
stored : (d start low : ℕ) (room new : List ℕ) → start + d ≤ length room → new ≡ numeral (length (mid_of start (start + d - start) room)) low → take (start + d) (put_mid start (start + d - start) room new) ≡ take start room ++ numeral d low
stored d start low room new h e =
    let size : length (mid_of start (start + d - start) room) ≡ d = length-take (start + d - start) (drop start room) ∙ omega (arith, length-drop start room) in
    let same : new ≡ numeral d low = e ∙ ap (λ (n : ℕ). numeral n low) size in
    let long : start + d ≡ start + length new = omega (arith, ap length same, length_numeral d low) in
    take-put_mid start (start + d - start) room new (start + d) long (omega arith) ∙ ap (λ (l : List ℕ). take start room ++ l) same

pub item_held : (old a : Option (List ℕ)) (before : List ℕ) (d start low : ℕ) (room new text : List ℕ) → start + d ≤ length room → new ≡ numeral (length (mid_of start (start + d - start) room)) low → text ≡ numeral d low → Appends (append_known old before) (append_known a (take start room)) [] → Appends (append_known old before) (append_known a (take (start + d) (put_mid start (start + d - start) room new))) text
item_held old a before d start low room new text h e t p =
    rw (stored d start low room new h e, t) (Appends-trans (append_known old before) (append_known a (take start room)) (append_known a (take start room ++ numeral d low)) [] (numeral d low) p (more_held a (take start room) (numeral d low)))

pub field_stored : (d start v : ℕ) (room new : List ℕ) → 0 < d → d ≤ 16 → v < 16 ^ d → start + d ≤ length room → new ≡ numeral (length (mid_of start (start + d - start) room)) v → take (start + d) (put_mid start (start + d - start) room new) ≡ take start room ++ in_digits d v
field_stored d start v room new p l f h e = stored d start v room new h e ∙ ap (λ (k : List ℕ). take start room ++ k) (sym (padded_numeral d v p l f))

-- fields one after the other are the whole
pub two_fields : (r s a b : List ℕ) (i n : ℕ) → take i r ≡ a → take n s ≡ take i r ++ b → length s ≤ n → s ≡ a ++ b
two_fields r s a b i n h k l = sym (take_all n s l) ∙ k ∙ ap (λ (t : List ℕ). t ++ b) h

pub four_fields : (r s t u a b c d : List ℕ) (i j k n : ℕ) → take i r ≡ a → take j s ≡ take i r ++ b → take k t ≡ take j s ++ c → take n u ≡ take k t ++ d → length u ≤ n → u ≡ a ++ (b ++ (c ++ d))
four_fields r s t u a b c d i j k n e f g h l =
    two_fields t u ((a ++ b) ++ c) d k n (g ∙ ap (λ (m : List ℕ). m ++ c) (f ∙ ap (λ (m : List ℕ). m ++ b) e)) h l ∙ append_assoc (a ++ b) c d ∙ append_assoc a b (c ++ d)

-- what is held is written at last
pub held_written : (a b c : Option (List ℕ)) (x y : List ℕ) → Appends a (append_known b x) y → Appends b c x → Appends a c y
held_written None b c x y p q = tt
held_written (Some k) None c x y p q = absurd p
held_written (Some k) (Some l) None x y p q = absurd q
held_written (Some k) (Some l) (Some m) x y p q = q ∙ p
