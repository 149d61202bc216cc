use Rattle.std.proofs.Common.{◌≡◌, ◌∙◌, List, Bool, refl, sym, ap, subst, length, ℕ}
use Rattle.std.specs.Prelude.{map}
use Rattle.gl_bits.proofs.AllLists.{length_map}
use Rattle.gl_verilog.specs.View.{declaration_of, assignment_of, statement_of}
use Rattle.gl_verilog_check.specs.Kept.{all_driven, AreNets}
use Rattle.gl_verilog_check.proofs.Complete.{all-sized, all-kept, blocks-kept}
use Rattle.gl_verilog_check.proofs.Marks.{are_nets, runs, driven_all}
use Rattle.gl_verilog_check.proofs.Drives.{can_once_each}
use Rattle.gl_verilog_check.proofs.Orders.{some_order, not_missing}
use Rattle.gl_verilog_check.proofs.runnable.parts_run.Goals as goal

pub returns-then-not-have_sizes-clause-all : goal.returns-then-not-have_sizes-clause-all
returns-then-not-have_sizes-clause-all c = λ r. c.if-not-have_sizes.ensures ∙ all-sized (map declaration_of c.args.declarations.now) r.sizes

pub returns-then-not-keep_widths-clause-all : goal.returns-then-not-keep_widths-clause-all
returns-then-not-keep_widths-clause-all c = λ r. c.if-not-keep_widths.ensures ∙ all-kept (map declaration_of c.args.declarations.now) (map assignment_of c.args.assignments.now) r.assignments

pub returns-then-not-blocks_keep-clause-all : goal.returns-then-not-blocks_keep-clause-all
returns-then-not-blocks_keep-clause-all c = λ r. c.if-not-blocks_keep.ensures ∙ blocks-kept (map declaration_of c.args.declarations.now) (map statement_of c.args.blocks.now) r.blocks

pub returns-then-not-mark_targets-clause-all : goal.returns-then-not-mark_targets-clause-all
returns-then-not-mark_targets-clause-all c = λ r.
    let ds = map declaration_of c.args.declarations.now in
    let as' = map assignment_of c.args.assignments.now in
    c.if-not-mark_targets.ensures.complete (subst (λ (n : ℕ). AreNets n as') (length_map declaration_of c.args.declarations.now ∙ sym c.in_ok-marks.ensures.size) (are_nets ds as' r.assignments), can_once_each as' r.ordered)

pub returns-then-not-all_driven-clause-all : goal.returns-then-not-all_driven-clause-all
returns-then-not-all_driven-clause-all c = λ r.
    let ds = map declaration_of c.args.declarations.now in
    let size : length c.mark_targets.new.marks.items ≡ length ds = c.if-not-mark_targets.ensures.size refl ∙ c.in_ok-marks.ensures.size ∙ sym (length_map declaration_of c.args.declarations.now) in
    c.if-not-all_driven.ensures ∙ ap (λ (ms : List Bool). all_driven ms 0 ds) c.deref.ensures.value
    ∙ driven_all ds (map assignment_of c.args.assignments.now) (map statement_of c.args.blocks.now) c.mark_targets.new.marks.items r (c.if-not-mark_targets.ensures.marks refl) size

pub returns-clause-yes : goal.returns-clause-yes
returns-clause-yes c = λ h.
    let ds = map declaration_of c.args.declarations.now in
    let as' = map assignment_of c.args.assignments.now in
    runs ds as' (map statement_of c.args.blocks.now) c.mark_targets.new.marks.items
    (sym c.if-not-have_sizes.ensures) (sym c.if-not-keep_widths.ensures) (sym c.if-not-blocks_keep.ensures) (c.if-not-mark_targets.ensures.marks refl)
    (some_order as' c.in_ok-order.order c.in_ok-order.ensures.order (sym c.is_some.ensures ∙ h))
    (sym (c.if-not-all_driven.ensures ∙ ap (λ (ms : List Bool). all_driven ms 0 ds) c.deref.ensures.value))

pub returns-clause-all : goal.returns-clause-all
returns-clause-all c = λ r.
    let ds = map declaration_of c.args.declarations.now in
    let as' = map assignment_of c.args.assignments.now in
    let size : length ds ≡ length c.mark_targets.new.marks.items = length_map declaration_of c.args.declarations.now ∙ sym c.in_ok-marks.ensures.size ∙ sym (c.if-not-mark_targets.ensures.size refl) in
    c.is_some.ensures ∙ not_missing (length c.mark_targets.new.marks.items) as' c.in_ok-order.order c.in_ok-order.ensures.none (subst (λ (n : ℕ). AreNets n as') size (are_nets ds as' r.assignments)) r.ordered
