use Rattle.std.proofs.Common.{◌≡◌, map, take}
use Rattle.std.specs.Prelude.{replicate}
use Rattle.gl_values.specs.Kinds.{width_of}
use Rattle.gl_bits.specs.Words.{widths_of, bits_of}
use Rattle.gl_tuples.proofs.row.zero_row.Given as goal

abbrev pub invariant-loop-kind : goal.invariant-loop-kind
invariant-loop-kind l = record {
  widths : widths_of l.row ≡ map width_of (take l.kind-index l.kinds);
  zeros : bits_of l.row ≡ replicate l.kind-index 0;
}
