use Rattle.std.proofs.Common.{◌≡◌, ◌-◌}
use Rattle.gl_bits.specs.Words.{bits_of}
use Rattle.gl_schema.specs.Seen.{lines_after}
use Rattle.gl_vcd.specs.Showings.{cycles_of, told_after}
use Rattle.gl_vcd.proofs.OnWay.{IsOnWay}
use Rattle.gl_vcd.proofs.showing.put_cycles.Given as goal

-- the lines of the cycles so far are written
abbrev pub invariant-loop-cycle : goal.invariant-loop-cycle
invariant-loop-cycle g l = record {
  way : IsOnWay (g.K.Sink.state l.initial.out) (g.K.Sink.state l.out)
      (lines_after l.told l.kinds (cycles_of l.fn.shown.sample (bits_of l.fn.shown.row.now) l.cycle (l.to - l.cycle)))
      (lines_after l.initial.told l.kinds (cycles_of l.fn.shown.sample (bits_of l.fn.shown.row.now) l.from (l.to - l.from)));
  told : told_after l.told (cycles_of l.fn.shown.sample (bits_of l.fn.shown.row.now) l.cycle (l.to - l.cycle))
      ≡ told_after l.initial.told (cycles_of l.fn.shown.sample (bits_of l.fn.shown.row.now) l.from (l.to - l.from));
}
