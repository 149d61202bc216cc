use Rattle.std.proofs.Common.{take}
use Rattle.gl_wire.specs.Wire.{widths}
use Rattle.gl_wiring.specs.Emitted.{Puts, Extends, CostsNothing}
use Rattle.gl_wiring.specs.Naming.{naming_of}
use Rattle.gl_wiring.specs.Output.{AreShown, column_outputs}
use Rattle.gl_wiring.proofs.output.put_columns.Given as goal

abbrev pub invariant-loop-at : goal.invariant-loop-at
invariant-loop-at l = record {
  extends : Extends l.initial.net l.net;
  ports : Puts l.initial.net l.net (column_outputs (naming_of l.face) (widths (take l.at l.columns)) (take l.at l.names));
  cost : CostsNothing l.initial.net l.net;
  shown : AreShown (naming_of l.face) l.net (take l.at l.names) (take l.at l.columns);
}
