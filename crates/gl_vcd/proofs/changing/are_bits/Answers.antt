use Rattle.std.proofs.Common.{◌∙◌, sym, rules, tests}
use Rattle.std.proofs.lemmas.Iterator.{YieldsList-from_slice}
use Rattle.std.proofs.lemmas.Iterator.Search.{all_from_yields_List}
use Rattle.gl_vcd.specs.Reading.{is_bit}
use Rattle.gl_vcd.proofs.Bits.{some_bits}
use Rattle.gl_vcd.proofs.changing.are_bits.Goals as goal

pub returns : goal.returns
returns c =
    all_from_yields_List is_bit _ _ c.all.result c.all.ensures.ran (YieldsList-from_slice c.args.digits.now cc) (λ x b q k. search (rules, tests))
    ∙ some_bits c.args.digits.now (sym c.is_empty.ensures ∙ c.if-is_empty.false)
