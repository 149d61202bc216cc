use Rattle.std.proofs.Common.{◌≡◌, ◌<◌, ◌^◌, map, take}
use Rattle.std.specs.Prelude.{slice_index}
use Rattle.std.specs.List.{AllZip}
use Rattle.gl_bits.specs.Words.{widths_of, bits_of}
use Rattle.gl_runner.proofs.sampling.set_row.Given as goal

abbrev pub invariant-loop-place : goal.invariant-loop-place
invariant-loop-place l = record {
  widths : widths_of l.row ≡ widths_of l.initial.row;
  bits : AllZip (λ n width. slice_index l.sim.shown n < 2 ^ width) l.columns (widths_of l.initial.row) → take l.place (bits_of l.row) ≡ map (slice_index l.sim.shown) (take l.place l.columns);
}
