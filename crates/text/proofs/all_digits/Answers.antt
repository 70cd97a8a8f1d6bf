-- `text::all_digits`: the test of every byte is that of the definition. Assumes nothing.
use Rattle.std.proofs.Common.{sym, ◌∙◌, nat_lt, rules, tests}
use Rattle.std.proofs.lemmas.Iterator.{YieldsList-from_slice}
use Rattle.std.proofs.lemmas.Iterator.Search.{all_from_yields_List}
use Rattle.text.specs.Digits.{digit_of}
use Rattle.text.proofs.Digits.{every_byte}
use Rattle.text.proofs.all_digits.Goals as goal

pub returns : goal.returns
returns c =
    all_from_yields_List (λ b. nat_lt (digit_of b) 16) _ _ c.all.result c.all.ensures.ran (YieldsList-from_slice c.args.s.now cc) (λ x b q k. search (rules, tests)) ∙ sym (every_byte c.args.s.now)
