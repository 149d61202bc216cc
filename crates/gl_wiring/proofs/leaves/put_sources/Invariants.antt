use Rattle.std.proofs.Common.{take}
use Rattle.gl_wiring.specs.EmittedPorts.{streams_inputs}
use Rattle.gl_wiring.specs.Emitted.{Puts, Extends, CostsNothing, AreSources}
use Rattle.gl_wiring.proofs.leaves.put_sources.Given as goal

abbrev pub invariant-loop-stream : goal.invariant-loop-stream
invariant-loop-stream l = record {
  extends : Extends l.initial.net l.net;
  ports : Puts l.initial.net l.net (streams_inputs (take l.stream-index l.streams));
  cost : CostsNothing l.initial.net l.net;
  sources : AreSources l.net (take l.stream-index l.streams) l.sources.items;
}
