use Rattle.std.proofs.Common.{◌≡◌, ◌+◌, ◌≤◌, drop, length, map}
use Rattle.gl_vcd.specs.Signals.{columns_of}
use Rattle.gl_vcd.specs.Standing.{signal_of}
use Rattle.gl_vcd.proofs.signals.count_columns.Given as goal

-- the columns so far are counted
abbrev pub invariant-loop-signal : goal.invariant-loop-signal
invariant-loop-signal l = record {
  few : l.columns ≤ l.signal-index;
  count : l.columns + length (columns_of (map signal_of (drop l.signal-index l.signals))) ≡ length (columns_of (map signal_of l.signals));
}
