use Rattle.std.proofs.Common.{◌≡◌, take}
use Rattle.gl_wiring.specs.EmittedPorts.{column_widths, parameter_inputs}
use Rattle.gl_wiring.specs.Emitted.{Puts, Extends, CostsNothing, bus_widths}
use Rattle.gl_wiring.proofs.WordLemmas.{HoldAll}
use Rattle.gl_wiring.proofs.leaves.put_parameters.Given as goal

abbrev pub invariant-loop-parameter : goal.invariant-loop-parameter
invariant-loop-parameter l = record {
  extends : Extends l.initial.net l.net;
  ports : Puts l.initial.net l.net (parameter_inputs (take l.parameter-index l.parameters));
  cost : CostsNothing l.initial.net l.net;
  words : HoldAll l.net l.words;
  widths : bus_widths l.words ≡ column_widths (take l.parameter-index l.parameters);
}
