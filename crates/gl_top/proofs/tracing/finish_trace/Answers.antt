use Rattle.std.proofs.Common.{◌∙◌, ℕ, [], inl, refl, sym, subst}
use Rattle.gl_outside.specs.States.{SinkState, Took}
use Rattle.gl_outside.proofs.Takes.{took_none}
use Rattle.gl_verilog.specs.declared.start.Start.TheVariants.{Zero}
use Rattle.gl_tuples.specs.Gaps.{plain_beats}
use Rattle.gl_verilog.specs.View.{module_of}
use Rattle.gl_runner.specs.declared.tracing.Ending.TheVariants as end
use Rattle.gl_runner.specs.Traces.{OfRunsOf, decimal_kinds}
use Rattle.gl_runner.specs.Traces as traces
use Rattle.gl_top_status.specs.declared.refusal.Refusal.TheVariants as refusal
use Rattle.gl_top.specs.Verdicts.{Traced, Refused}
use Rattle.gl_top.proofs.tracing.finish_trace.Goals as goal

pub trace-requires-clause-valid : goal.trace-requires-clause-valid
trace-requires-clause-valid g c = c.requires.can.of_text.1.valid

pub trace-requires-clause-inputs : goal.trace-requires-clause-inputs
trace-requires-clause-inputs g c = c.inputs_are_ports.ensures c.requires.can.of_text.0 (module_of c.args.simulation.fitted.design) c.requires.can.of_text.1

pub returns-in-Done-clause-answer : goal.returns-in-Done-clause-answer
returns-in-Done-clause-answer g c = λ ch ready calm.
    let s = c.args.simulation in
    let m = module_of s.fitted.design in
    let of_extra : ℕ → Type 0 = λ n. traces.Traced (OfRunsOf m s.schema (plain_beats s.beats) Zero) (decimal_kinds m) (plain_beats s.beats) n (g.K.Sink.state c.args.desk.now.out) (g.K.Sink.state c.trace.new.out) end.Done in
    Traced (record {
      schema = s.schema;
      design = m;
      beats = s.beats;
      passes = ready.passes;
      run = c.in-Done.ensures.run;
      ending = end.Done;
      traced = subst of_extra (c.from.ensures ∙ c.extra-extra.ensures) c.in-Done.ensures.lines;
      tells = (refl, took_none _);
      calm = calm;
      left = c.requires.empty;
    })

pub returns-in-NoEnd-clause-answer : goal.returns-in-NoEnd-clause-answer
returns-in-NoEnd-clause-answer g c = λ ch ready calm.
    let s = c.args.simulation in
    let m = module_of s.fitted.design in
    let of_extra : ℕ → Type 0 = λ n. traces.Traced (OfRunsOf m s.schema (plain_beats s.beats) Zero) (decimal_kinds m) (plain_beats s.beats) n (g.K.Sink.state c.args.desk.now.out) (g.K.Sink.state c.trace.new.out) (end.NoEnd c.in-NoEnd.cycle) in
    Traced (record {
      schema = s.schema;
      design = m;
      beats = s.beats;
      passes = ready.passes;
      run = c.in-NoEnd.ensures.run;
      ending = end.NoEnd c.in-NoEnd.cycle;
      traced = subst of_extra (c.from.ensures ∙ c.extra-extra.ensures) c.in-NoEnd.ensures.lines;
      tells = c.tell_no_end.ensures;
      calm = calm;
      left = c.requires.empty;
    })

pub returns-in-WriteFault-clause-answer : goal.returns-in-WriteFault-clause-answer
returns-in-WriteFault-clause-answer g c = λ ch ready calm.
    let s = c.args.simulation in
    let m = module_of s.fitted.design in
    let of_extra : ℕ → Type 0 = λ n. traces.Traced (OfRunsOf m s.schema (plain_beats s.beats) Zero) (decimal_kinds m) (plain_beats s.beats) n (g.K.Sink.state c.args.desk.now.out) (g.K.Sink.state c.trace.new.out) end.WriteFault in
    Traced (record {
      schema = s.schema;
      design = m;
      beats = s.beats;
      passes = ready.passes;
      run = c.in-WriteFault.ensures.run;
      ending = end.WriteFault;
      traced = subst of_extra (c.from.ensures ∙ c.extra-extra.ensures) c.in-WriteFault.ensures.lines;
      tells = c.tell_write_fault.ensures;
      calm = calm;
      left = c.requires.empty;
    })

pub returns-clause-answer : goal.returns-clause-answer
returns-clause-answer g c = λ ch ready calm. Refused (record {
  refusal = refusal.Memory;
  cause = calm;
  untouched = let P : SinkState → Type 0 = λ s. Took (g.K.Sink.state c.args.desk.now.out) s [] in subst P (sym c.in-Memory.ensures.lines) (took_none _);
  noted = c.tell.ensures;
  left = inl c.requires.empty;
})
