use Rattle.std.proofs.Common.{◌∙◌, suc, sym, subst, option_map}
use Rattle.gl_tuples.specs.Gaps.{plain_beat, plain_beats}
use Rattle.gl_verilog.specs.View.{module_of}
use Rattle.gl_runner.specs.Cycles.{Driven, IsBefore, IsMade, design_of}
use Rattle.gl_runner.proofs.Making.{beat_values, seen_beat, values_fit, cycle_made}
use Rattle.gl_runner.proofs.driving.Drive.advance.Goals as goal

pub step-requires : goal.step-requires
step-requires c =
    let d = c.self.inside in
    let m = module_of d.sim.design in
    let schema = d.task.schema.now in
    let beats = plain_beats d.task.beats.now in
    values_fit m schema beats (suc d.cycle) c.set_beat.new.values c.self.invariant.can
    (beat_values m schema beats d.cycle c.sets.result.now (option_map (λ b. plain_beat b.now) c.as_ref.result) c.deref.result.now d.pins.items c.set_beat.new.values c.set_beat.ensures c.deref.ensures.value c.sets.ensures (seen_beat c.as_ref.result c.due-beat.result c.as_ref.ensures.value ∙ c.due-beat.ensures.beat) c.self.invariant.pins')

pub returns-clause-made : goal.returns-clause-made
returns-clause-made c = λ value word f.
    let d = c.self.inside in
    let m = module_of d.sim.design in
    let schema = d.task.schema.now in
    let beats = plain_beats d.task.beats.now in
    let s' = c.step.new.self in
    subst (λ (x : Driven). IsMade (design_of x) s' x.schema x.beats x.cycle value word) c.self.view_is (
    cycle_made d.sim s' schema beats d.cycle c.set_beat.new.values value word
    c.self.invariant.can c.step.ensures.design
    (beat_values m schema beats d.cycle c.sets.result.now (option_map (λ b. plain_beat b.now) c.as_ref.result) c.deref.result.now d.pins.items c.set_beat.new.values c.set_beat.ensures c.deref.ensures.value c.sets.ensures (seen_beat c.as_ref.result c.due-beat.result c.as_ref.ensures.value ∙ c.due-beat.ensures.beat) c.self.invariant.pins')
    c.step.ensures.follows
    (subst (λ (x : Driven). IsBefore x value word) (sym c.self.view_is) f))
