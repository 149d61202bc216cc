use Rattle.std.proofs.Common.{◌≡◌, ◌∙◌, ap, length, map, refl, sym, subst, arith}
use Rattle.std.proofs.Math.Seq.{take-append_seam}
use Rattle.gl_bits.proofs.AllLists.{length_map}
use Rattle.gl_tuples.specs.Gaps.{plain_beats, plain_list}
use Rattle.gl_verilog.specs.Runnable.{inputs_of}
use Rattle.gl_verilog.specs.declared.module.Module.{Module}
use Rattle.gl_verilog.specs.View.{module_of}
use Rattle.gl_testbench.specs.Carried.{at_reset, pin_at}
use Rattle.gl_testbench.proofs.Due.{due_first}
use Rattle.gl_runner.specs.Cycles.{CanDrive}
use Rattle.gl_runner.proofs.Each.{followed_first}
use Rattle.gl_runner.proofs.Making.{reset_followed, reset_values, values_fit}
use Rattle.gl_runner.proofs.driving.Drive.new.Goals as goal

pub new-requires : goal.new-requires
new-requires c = c.valid_modules_run.ensures (module_of c.args.design) c.requires.can.valid

pub step-requires : goal.step-requires
step-requires c =
    let t = c.args.task in
    let m = module_of c.in_ok-sim.sim.design in
    let beats = plain_beats t.beats.now in
    let can = subst (λ (d : Module). CanDrive (module_of d) t.schema.now beats) (sym c.in_ok-sim.ensures.design) c.requires.can in
    let pins = subst (λ (d : Module). c.in_ok-pins.pins.items ≡ map (pin_at t.schema.now (module_of d).declarations) (inputs_of (module_of d))) (sym c.in_ok-sim.ensures.design) c.in_ok-pins.ensures in
    values_fit m t.schema.now beats 0 c.set_reset.new.values can
    (reset_values m t.schema.now beats c.sets.result.now c.deref.result.now c.in_ok-pins.pins.items c.set_reset.new.values c.set_reset.ensures c.deref.ensures.value c.sets.ensures pins)

pub invariant_of-result : goal.invariant_of-result
invariant_of-result c =
    let t = c.args.task in
    let same : c.step.new.self.design ≡ c.args.design = c.step.ensures.design ∙ c.in_ok-sim.ensures.design in
    let set : length c.set_reset.new.values ≡ length c.in_ok-pins.pins.items = ap length c.set_reset.ensures ∙ length_map (at_reset c.sets.result.now) c.deref.result.now ∙ ap length c.deref.ensures.value in
    let size : c.in_ok-values.values.len ≡ length c.set_reset.new.values = omega (arith, c.in_ok-values.values.ok.0, ap length c.as_mut_slice-inputs.ensures.value, c.set_reset.auto.values) in
    record {
      can = subst (λ (d : Module). CanDrive (module_of d) t.schema.now (plain_beats t.beats.now)) (sym same) c.requires.can;
      pins' = subst (λ (d : Module). c.in_ok-pins.pins.items ≡ map (pin_at t.schema.now (module_of d).declarations) (inputs_of (module_of d))) (sym same) c.in_ok-pins.ensures;
      room = rw (size, take-append_seam c.set_reset.new.values) set;
      due = due_first (plain_list t.beats.now.list) c.requires.can.beats'.order;
      short = c.requires.short;
    }

pub returns : goal.returns
returns c =
    let t = c.args.task in
    let s = c.in_ok-sim.sim in
    let m = module_of s.design in
    let beats = plain_beats t.beats.now in
    let same : c.step.new.self.design ≡ c.args.design = c.step.ensures.design ∙ c.in_ok-sim.ensures.design in
    let can = subst (λ (d : Module). CanDrive (module_of d) t.schema.now beats) (sym c.in_ok-sim.ensures.design) c.requires.can in
    let pins = subst (λ (d : Module). c.in_ok-pins.pins.items ≡ map (pin_at t.schema.now (module_of d).declarations) (inputs_of (module_of d))) (sym c.in_ok-sim.ensures.design) c.in_ok-pins.ensures in
    record {
      design' = ap module_of same;
      schema' = refl;
      beats' = refl;
      extra' = refl;
      first = refl;
      before = λ value word over.
          reset_followed s c.step.new.self t.schema.now beats c.set_reset.new.values value word can c.step.ensures.design
          (reset_values m t.schema.now beats c.sets.result.now c.deref.result.now c.in_ok-pins.pins.items c.set_reset.new.values c.set_reset.ensures c.deref.ensures.value c.sets.ensures pins)
          c.step.ensures.follows
          (followed_first s t.schema.now beats t.start c.args.design value word (c.event_runs_are_runs.ensures.runs (module_of c.args.design) c.requires.can.valid) c.in_ok-sim.ensures.design c.in_ok-sim.ensures.started over);
    }
