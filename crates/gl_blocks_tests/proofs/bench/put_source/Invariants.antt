use Rattle.std.proofs.Common.{◌≡◌}
use Rattle.gl_wire.specs.Wire.{AreBuses, widths}
use Rattle.gl_blocks_tests.specs.Benches.{widths_of_pairs}
use Rattle.gl_blocks_tests.proofs.bench.put_source.Given as goal

abbrev pub invariant-loop-pair : goal.invariant-loop-pair
invariant-loop-pair l = AreBuses l.net l.columns × (widths l.columns ≡ widths_of_pairs l._pair)
