use Rattle.std.proofs.Common.{arith, sym, ◌∙◌}
use Rattle.gl_tuples.proofs.LineLemmas.{none_at}
use Rattle.gl_vcd.proofs.writing.word_at.Goals as goal

pub unreachable-requires : goal.unreachable-requires
unreachable-requires c = absurd (omega (arith, none_at c.args.row.now c.args.at (sym c.get.ensures ∙ c.in-None.is), c.requires))
