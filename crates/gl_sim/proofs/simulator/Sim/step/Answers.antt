use Rattle.std.proofs.Common.{◌≡◌, ◌∙◌, ◌+◌, ℕ, List, sym, subst, rules}
use Rattle.gl_verilog.specs.Valid.{IsValid}
use Rattle.gl_verilog.specs.View.{module_of}
use Rattle.gl_verilog.specs.Evaluate.{IsStore, nets_of, memories_of}
use Rattle.gl_verilog.specs.Run.{IsRun}
use Rattle.gl_verilog.specs.Runnable.{SameState, SameNets, HasInputs}
use Rattle.gl_verilog.specs.Events.{IsCycle, StandsBefore}
use Rattle.gl_verilog.specs.Laws.{IsTwoPhase}
use Rattle.gl_sim.specs.Simulation.{Simulation, IsAt, Holds}
use Rattle.gl_sim.proofs.Follows.{IsStepped, IsOneCycle, nets_follow, state_follows}
use Rattle.gl_sim.proofs.simulator.Sim.step.Goals as goal

pub returns : goal.returns
returns c =
    let m = module_of c.self.inside.design in
    let ready = c.self.invariant.0 in
    let order = c.self.inside.order.items in
    let v0 = c.self.inside.values.items in
    let v1 = c.set_inputs.new.values.items in
    let v2 = c.settle.new.values.items in
    let v3 = c.clock.new.next.items in
    let bs = c.self.inside.banks.items in
    let bs' = c.clock.new.banks.items in
    let kept : c.deref-6.result.now ≡ v2 = c.deref-6.ensures.value ∙ c.keep.ensures ∙ c.deref-5.ensures.value in
    let shown = sym (c.keep.ensures ∙ c.deref-5.ensures.value) in
    let steps : IsStepped m order c.args.inputs.now v0 v1 v2 v3 bs bs' = record {
      runnable = ready.runnable;
      in_order = ready.order;
      set = rw (c.deref.ensures.value, ready.ports) at c.set_inputs.ensures.set;
      first = subst (λ (b : List (List ℕ)). IsStore m.declarations v1 b) c.deref-2.ensures.value c.set_inputs.ensures.store;
      settled = rw (c.deref-3.ensures.value, c.deref-4.ensures.value) at c.settle.ensures.settled;
      second = subst (λ (b : List (List ℕ)). IsStore m.declarations v2 b) c.deref-4.ensures.value c.settle.ensures.store;
      registers = rw kept at c.clock.ensures.registers;
      words = rw kept at c.clock.ensures.words;
    } in
    record {
      design = search rules;
      follows = λ value word t run at has.
          let run' = subst (λ (s : Simulation). IsRun (module_of s.design) value word) (sym c.self.view_is) run in
          let one : IsOneCycle m (value t) (word t) (value (t + 1)) (word (t + 1)) = record { settled = run'.settled t; registers = run'.registers t; memories = run'.memories t } in
          let state : SameState m.declarations (nets_of v0) (memories_of bs) (value t) (word t) = subst (λ (s : Simulation). IsAt s value word t) (sym c.self.view_is) at in
          let inputs : HasInputs m (value t) c.args.inputs.now = subst (λ (s : Simulation). HasInputs (module_of s.design) (value t) c.args.inputs.now) (sym c.self.view_is) has in (
            subst (λ (vs : List ℕ). SameNets m.declarations (nets_of vs) (value t)) shown
                (nets_follow m order c.args.inputs.now v0 v1 v2 v3 bs bs' steps (value t) (word t) (value (t + 1)) (word (t + 1)) one state inputs),
            state_follows m order c.args.inputs.now v0 v1 v2 v3 bs bs' steps (value t) (word t) (value (t + 1)) (word (t + 1)) one state inputs,
          );
      orders = λ valid before seen after' stands holds cycle.
          let v : IsValid m = subst (λ (s : Simulation). IsValid (module_of s.design)) (sym c.self.view_is) valid in
          let stands' : StandsBefore m before = subst (λ (s : Simulation). StandsBefore (module_of s.design) before) (sym c.self.view_is) stands in
          let cycle' : IsCycle m c.args.inputs.now before seen after' = subst (λ (s : Simulation). IsCycle (module_of s.design) c.args.inputs.now before seen after') (sym c.self.view_is) cycle in
          let held : SameState m.declarations (nets_of v0) (memories_of bs) before.nets before.words = subst (λ (s : Simulation). Holds s before) (sym c.self.view_is) holds in
          let is = c.cycles_are_two_phase.ensures m v c.args.inputs.now before seen after' stands' cycle' in
          let phase : IsTwoPhase m c.args.inputs.now before.nets before.words seen.nets seen.words after'.nets after'.words = is.0 in
          let one : IsOneCycle m seen.nets seen.words after'.nets after'.words = record { settled = phase.settled; registers = phase.registers; memories = phase.memories } in
          let state : SameState m.declarations (nets_of v0) (memories_of bs) seen.nets seen.words = record {
            registers = λ n d e r. held.registers n d e r ∙ phase.held n d e r;
            words = λ k d at e lt. held.words k d at e lt ∙ phase.kept k at;
          } in (
            subst (λ (vs : List ℕ). SameNets m.declarations (nets_of vs) seen.nets) shown
                (nets_follow m order c.args.inputs.now v0 v1 v2 v3 bs bs' steps seen.nets seen.words after'.nets after'.words one state phase.inputs'),
            state_follows m order c.args.inputs.now v0 v1 v2 v3 bs bs' steps seen.nets seen.words after'.nets after'.words one state phase.inputs',
            is.1,
          );
      rests = λ valid. c.comes_to_rest.ensures.continued _ valid;
    }
