use Rattle.std.proofs.Common.{◌≡◌, take}
use Rattle.gl_wiring.specs.EmittedPorts.{column_inputs, column_widths}
use Rattle.gl_wiring.specs.Emitted.{bus_widths, Puts, Extends, CostsNothing, AreInputs}
use Rattle.gl_wiring.proofs.parts.put_columns.Given as goal

abbrev pub invariant-loop-column : goal.invariant-loop-column
invariant-loop-column l = record {
  extends : Extends l.initial.net l.net;
  ports : Puts l.initial.net l.net (column_inputs l.stream.name (take l.column-index l.stream.columns));
  cost : CostsNothing l.initial.net l.net;
  inputs : AreInputs l.net l.stream.name (take l.column-index l.stream.columns) l.buses;
  widths : bus_widths l.buses ≡ column_widths (take l.column-index l.stream.columns);
}
