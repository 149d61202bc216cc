use Rattle.std.proofs.Common.{◌≡◌, ◌<◌, ◌∙◌, ℕ, length, ap, sym, subst, rules, map, List}
use Rattle.std.specs.Prelude.{slice_set, slice_index_or, slice_get, Some}
use Rattle.gl_bits.proofs.AllLists.{get_mapped}
use Rattle.gl_verilog.specs.Module as spec
use Rattle.gl_verilog.specs.Order.{with_net}
use Rattle.gl_verilog.specs.Module.{value_of}
use Rattle.gl_verilog.specs.View.{module_of, assignment_of, expr_of}
use Rattle.gl_verilog.specs.Evaluate.{CanEvaluate, IsStore, nets_of, memories_of}
use Rattle.gl_verilog.specs.declared.module.Assignment.{Assignment}
use Rattle.gl_verilog.proofs.Fits.{can_evaluate}
use Rattle.gl_sim.proofs.Settling.{assignment_at, store_assigned, target_in, all_get, below_mapped, slice_get-at, nets_of-set, settled_more, settled_end}
use Rattle.gl_sim.proofs.cycle.settle.Goals as goal

pub evaluate-requires : goal.evaluate-requires
evaluate-requires c =
    let m = module_of c.args.design.now in
    let as' = c.as_slice-assignments.result.now in
    let lt = below_mapped assignment_of c.args.design.now.assignments (slice_index_or c.args.order.now c.loop-k.k-index 0) (all_get (λ k. k < length m.assignments) c.args.order.now c.loop-k.k-index 0 c.requires.order.in_range c.loop-k-test.true) in
    let keeps = assignment_at m as' (slice_index_or c.args.order.now c.loop-k.k-index 0) c.index-assignments-k.result c.requires.runnable (ap (λ (xs : List Assignment). map assignment_of xs) (sym c.as_slice-assignments.ensures)) (subst (λ (xs : List Assignment). slice_index_or c.args.order.now c.loop-k.k-index 0 < length xs) (sym c.as_slice-assignments.ensures) lt) c.index-assignments-k.is in
    subst (λ (vs : List ℕ). CanEvaluate vs c.args.banks.now (expr_of c.index-assignments-k.result.value)) (sym c.deref.ensures.value)
    (can_evaluate m.declarations c.loop-k.values.items c.args.banks.now _ c.requires.runnable.sizes c.loop-k.invariant.store keeps.1)

pub index_mut-requires : goal.index_mut-requires
index_mut-requires c =
    let m = module_of c.args.design.now in
    let as' = c.as_slice-assignments.result.now in
    let lt = below_mapped assignment_of c.args.design.now.assignments (slice_index_or c.args.order.now c.loop-k.k-index 0) (all_get (λ k. k < length m.assignments) c.args.order.now c.loop-k.k-index 0 c.requires.order.in_range c.loop-k-test.true) in
    let keeps = assignment_at m as' (slice_index_or c.args.order.now c.loop-k.k-index 0) c.index-assignments-k.result c.requires.runnable (ap (λ (xs : List Assignment). map assignment_of xs) (sym c.as_slice-assignments.ensures)) (subst (λ (xs : List Assignment). slice_index_or c.args.order.now c.loop-k.k-index 0 < length xs) (sym c.as_slice-assignments.ensures) lt) c.index-assignments-k.is in
    let within = target_in m.declarations c.loop-k.values.items c.args.banks.now (assignment_of c.index-assignments-k.result) c.loop-k.invariant.store keeps in
    search (rules, within)

pub loop-k-preserved : goal.loop-k-preserved
loop-k-preserved c =
    let m = module_of c.args.design.now in
    let as' = c.as_slice-assignments.result.now in
    let k = slice_index_or c.args.order.now c.loop-k.k-index 0 in
    let a = c.index-assignments-k.result in
    let vs = c.loop-k.values.items in
    let lt = below_mapped assignment_of c.args.design.now.assignments (slice_index_or c.args.order.now c.loop-k.k-index 0) (all_get (λ k. k < length m.assignments) c.args.order.now c.loop-k.k-index 0 c.requires.order.in_range c.loop-k-test.true) in
    let lt' : slice_index_or c.args.order.now c.loop-k.k-index 0 < length as' = subst (λ (xs : List Assignment). slice_index_or c.args.order.now c.loop-k.k-index 0 < length xs) (sym c.as_slice-assignments.ensures) lt in
    let same : m.assignments ≡ map assignment_of as' = ap (λ (xs : List Assignment). map assignment_of xs) (sym c.as_slice-assignments.ensures) in
    let keeps = assignment_at m as' (slice_index_or c.args.order.now c.loop-k.k-index 0) c.index-assignments-k.result c.requires.runnable same lt' c.index-assignments-k.is in
    let there : slice_get m.assignments (slice_index_or c.args.order.now c.loop-k.k-index 0) ≡ Some (assignment_of a) =
    subst (λ (xs : List spec.Assignment). slice_get xs (slice_index_or c.args.order.now c.loop-k.k-index 0) ≡ Some (assignment_of a)) (sym same)
    (get_mapped assignment_of as' (slice_index_or c.args.order.now c.loop-k.k-index 0) a (slice_get-at as' (slice_index_or c.args.order.now c.loop-k.k-index 0) a lt' c.index-assignments-k.is)) in
    let value : c.evaluate.result ≡ value_of (nets_of vs) (memories_of c.args.banks.now) (expr_of a.value) = rw c.deref.ensures.value at c.evaluate.ensures in
    let within = target_in m.declarations vs c.args.banks.now (assignment_of a) c.loop-k.invariant.store keeps in
    let put : nets_of (slice_set vs a.target c.evaluate.result) ≡ with_net (nets_of vs) a.target (value_of (nets_of vs) (memories_of c.args.banks.now) (expr_of a.value)) =
    nets_of-set vs a.target c.evaluate.result within ∙ ap (λ (x : ℕ). with_net (nets_of vs) a.target x) value in
    record {
      store = subst (λ (x : ℕ). IsStore m.declarations (slice_set vs a.target x) c.args.banks.now) (sym value)
          (store_assigned m.declarations vs c.args.banks.now (assignment_of a) c.loop-k.invariant.store keeps);
      settled = settled_more m.assignments c.args.order.now (memories_of c.args.banks.now) (nets_of vs) (nets_of (slice_set vs a.target c.evaluate.result)) c.loop-k.k-index (assignment_of a) c.loop-k-test.true there put ∙ c.loop-k.invariant.settled;
    }

pub returns-clause-settled : goal.returns-clause-settled
returns-clause-settled c =
    sym (settled_end (module_of c.args.design.now).assignments c.args.order.now (memories_of c.args.banks.now) (nets_of c.loop-k.values.items) c.loop-k.k-index c.loop-k-test.false) ∙ c.loop-k.invariant.settled
