use Rattle.std.proofs.Common.{◌<◌, ◌∙◌, ◌^◌, ℕ, List, length, sym, subst, rules}
use Rattle.std.specs.Prelude.{slice_set, slice_index_or}
use Rattle.gl_verilog.specs.View.{module_of}
use Rattle.gl_verilog.specs.Evaluate.{IsStore, nets_of}
use Rattle.gl_verilog.specs.Widths.{width_at}
use Rattle.gl_verilog.specs.Runnable.{inputs_of}
use Rattle.gl_sim.proofs.Settling.{port_in, store_input, zip_length, nets_of-set, inputs_more, inputs_end}
use Rattle.gl_sim.proofs.cycle.set_inputs.Goals as goal

pub index_mut-requires : goal.index_mut-requires
index_mut-requires c =
    let m = module_of c.args.design.now in
    let lt : c.loop-i.i < length (inputs_of m) = subst (λ (xs : List ℕ). c.loop-i.i < length xs) c.requires.ports c.loop-i-test.true in
    let within = subst (λ (xs : List ℕ). slice_index_or xs c.loop-i.i 0 < length c.loop-i.values.items) (sym c.requires.ports) (port_in m c.loop-i.values.items c.args.banks.now c.loop-i.i c.loop-i.invariant.store lt) in
    search (rules, within)

pub loop-i-preserved : goal.loop-i-preserved
loop-i-preserved c =
    let m = module_of c.args.design.now in
    let vs = c.loop-i.values.items in
    let lt : c.loop-i.i < length (inputs_of m) = subst (λ (xs : List ℕ). c.loop-i.i < length xs) c.requires.ports c.loop-i-test.true in
    let within = subst (λ (xs : List ℕ). slice_index_or xs c.loop-i.i 0 < length c.loop-i.values.items) (sym c.requires.ports) (port_in m c.loop-i.values.items c.args.banks.now c.loop-i.i c.loop-i.invariant.store lt) in
    let lt' : c.loop-i.i < length c.args.inputs.now = subst (λ (n : ℕ). c.loop-i.i < n) (zip_length (λ n x. x < 2 ^ width_at m.declarations n) (inputs_of m) c.args.inputs.now c.requires.fit) lt in
    record {
      store = subst (λ (xs : List ℕ). IsStore m.declarations (slice_set vs (slice_index_or xs c.loop-i.i 0) (slice_index_or c.args.inputs.now c.loop-i.i 0)) c.args.banks.now) (sym c.requires.ports)
          (store_input m vs c.args.inputs.now c.args.banks.now c.loop-i.i c.loop-i.invariant.store c.requires.fit lt);
      set = inputs_more c.args.ports.now c.args.inputs.now (nets_of vs) (nets_of (slice_set vs (slice_index_or c.args.ports.now c.loop-i.i 0) (slice_index_or c.args.inputs.now c.loop-i.i 0))) c.loop-i.i c.loop-i-test.true lt'
          (nets_of-set vs (slice_index_or c.args.ports.now c.loop-i.i 0) (slice_index_or c.args.inputs.now c.loop-i.i 0) within)
          ∙ c.loop-i.invariant.set;
    }

pub returns-clause-set : goal.returns-clause-set
returns-clause-set c = sym (inputs_end c.args.ports.now c.args.inputs.now (nets_of c.loop-i.values.items) c.loop-i.i c.loop-i-test.false) ∙ c.loop-i.invariant.set
