use Rattle.std.proofs.Common.{◌≡◌, ℕ}
use Rattle.gl_verilog.specs.Module.{Nets, Memories}
use Rattle.gl_runner.specs.Cycles.{IsBefore, design_of}
use Rattle.gl_runner.proofs.Running.{IsAt, IsUnderWay}
use Rattle.gl_runner.proofs.driving.Drive.follow.Given as goal

abbrev pub invariant-loop-cycle : goal.invariant-loop-cycle
invariant-loop-cycle g l = record {
  at : IsAt l.initial.self l.self l.cycle;
  design : l.self.sim.design ≡ l.initial.self.sim.design;
  bytes : g.W.Watch.bytes l.watch ≡ g.W.Watch.bytes l.initial.watch;
  ends : g.W.Watch.ends l.watch ≡ g.W.Watch.ends l.initial.watch;
  serves : g.W.Watch.serves l.watch (design_of l.initial.self);
  way : (value : ℕ → Nets) (word : ℕ → Memories) → IsBefore l.initial.self value word → IsUnderWay (design_of l.initial.self) l.self.sim l.initial.self.schema (g.W.Watch.bytes l.initial.watch) (g.W.Watch.ends l.initial.watch) (g.W.Watch.stands l.watch) l.initial.self.beats l.cycle (g.K.Sink.state l.initial.out).taken (g.K.Sink.state l.out).taken value word;
  calm : (g.K.Sink.state l.out).faults ≡ (g.K.Sink.state l.initial.out).faults;
}
