use Rattle.std.proofs.Common.{◌∙◌}
use Rattle.std.specs.Prelude.{decimal}
use Rattle.gl_outside.proofs.Takes.{wrote_same}
use Rattle.gl_tuples.proofs.Puts.{four}
use Rattle.gl_tuples.proofs.lines.put_short.Goals as goal

pub returns : goal.returns
returns g c =
    wrote_same _ _ _ _ c.write_all_of.result
    (c.line_into-end.ensures.written ∙ four (decimal c.args.cycle) c.args.comma.now c.args.name.now c.args.told.now)
    c.write_all_of.ensures
