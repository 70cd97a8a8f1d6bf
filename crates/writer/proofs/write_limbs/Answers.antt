-- `writer::write_limbs`: from the top down, the digits of the limbs passed stand at the start. Assumes nothing.
use Rattle.text.specs.Digits.{numeral}
use native.Mathlib.Omega.{arith}
use mathlib.Core.Path.{◌≡◌, refl, sym, ap, ◌∙◌}
use mathlib.Core.List.{List, []}
use Prim.Native.Nat.{ℕ, suc, ◌+◌, ◌-◌, ◌*◌, ◌<◌, ◌≤◌}
use lib.ListN.{length, take, drop, get_or, length-drop}
use borrow.Rule.Slice.PartMut.{put_mid}
use lib.Seq.{drop-length}
use Rattle.lines.specs.Line.{limb_digits}
use Rattle.lines.specs.Writing.{onto}
use Rattle.lines.proofs.Room.{onto_nothing, put_numeral, onto_all, length_limb_digits, limbs_more}
use borrow.Author.Rules.{rules}
use Rattle.writer.proofs.write_limbs.Goals as goal

no_digits : (r : List ℕ) → r ≡ onto (limb_digits []) r
unfolding limb_digits
no_digits r = onto_nothing r

step : (part r l t : List ℕ) (i j at : ℕ) → j < length l → i ≡ suc j → at + 16 * i ≡ 16 * length l → at + 16 ≤ length part → part ≡ onto (limb_digits (drop i l)) r → t ≡ numeral (length (take (at + 16 - at) (drop at part))) (get_or l j 0) → put_mid at (at + 16 - at) part t ≡ onto (limb_digits (drop j l)) r
step part r l t i j at h e a f g d =
    let n : at ≡ length (limb_digits (drop i l)) = sym (length_limb_digits (drop i l) ∙ rw (length-drop i l) (omega arith)) in
    put_numeral part (limb_digits (drop i l)) r t at (at + 16) 16 (get_or l j 0) g n refl f d ∙ ap (λ (s : List ℕ). onto s r) (sym (limbs_more l i j h e))

finished : (part r l : List ℕ) (i : ℕ) → i ≡ 0 → length r ≡ 16 * length l → part ≡ onto (limb_digits (drop i l)) r → part ≡ limb_digits l
finished part r l i e n h = (rw e at h) ∙ onto_all (limb_digits l) r (rw (length_limb_digits l) (omega arith))

pub loop-i-init : goal.loop-i-init
loop-i-init c =
    let a = c.args in
    let l : List ℕ = a.limbs.now in
    (search rules, search rules, rw (drop-length l) (no_digits a.part.now))

pub loop-i-preserved : goal.loop-i-preserved
loop-i-preserved c =
    let l = c.loop-i in
    let a = c.args in
    (search rules, omega arith, step l.part a.part.now a.limbs.now _ l.i (l.i - 1) l.at (omega arith) (omega arith) (omega arith) (omega arith) l.invariant.2 c.write_digits.ensures)

pub returns : goal.returns
returns c =
    let l = c.loop-i in
    let a = c.args in
    finished l.part a.part.now a.limbs.now l.i (omega arith) c.requires l.invariant.2
