use Rattle.std.proofs.Common.{◌≡◌, ◌∙◌, ◌<◌, ℕ, List, Bool, true, false, length, sym, ap, subst}
use Rattle.std.specs.List.{list_any}
use Rattle.gl_verilog_check.specs.Kept.{AreNets}
use Rattle.gl_verilog_check.specs.Orders.{meant}
use Rattle.gl_verilog_check.specs.Passes.{IsPlacing}
use Rattle.gl_verilog_check.proofs.Orders.{count, placing_first, passed_fewer, passed_size, no_order, an_order}
use Rattle.gl_verilog_check.proofs.order.order_marked.Goals as goal

pub place_each-requires-clause-placing : goal.place_each-requires-clause-placing
place_each-requires-clause-placing c =
    subst (IsPlacing (meant c.args.assignments.now) c.args.marks.now.items) (sym c.new-order.ensures.items) (placing_first (meant c.args.assignments.now) c.args.marks.now.items c.requires.marks)

pub passes-preserved : goal.passes-preserved
passes-preserved c = record {
  placing = c.in_ok-found.ensures.kept;
  size = ap (λ (ms : List Bool). length ms) c.in_ok-found.ensures.marks ∙ passed_size c.passes.marks.items (meant c.args.assignments.now) ∙ c.passes.invariant.size;
}

pub passes-smaller : goal.passes-smaller
passes-smaller c =
    subst (λ (ms : List Bool). count ms < count c.passes.marks.items) (sym c.in_ok-found.ensures.marks)
    (passed_fewer c.passes.marks.items (meant c.args.assignments.now) (sym c.in_ok-found.ensures.found ∙ c.if-not-found.false))

pub returns-then-not-found-clause-none : goal.returns-then-not-found-clause-none
returns-then-not-found-clause-none c = λ nets e can.
    let as' = meant c.args.assignments.now in
    let any : list_any (λ (w : Bool). w) c.passes.marks.items ≡ true = ap (λ (ms : List Bool). list_any (λ (w : Bool). w) ms) (sym c.deref-in-passes.ensures.value) ∙ sym c.any_waits.ensures ∙ c.passes-test.true in
    no_order as' c.passes.marks.items c.passes.order.items c.passes.invariant.placing any (sym c.in_ok-found.ensures.found ∙ c.if-not-found.true)
    (subst (λ (n : ℕ). AreNets n as') (sym c.passes.invariant.size) nets) can

pub returns-clause-order : goal.returns-clause-order
returns-clause-order c =
    let none : list_any (λ (w : Bool). w) c.passes.marks.items ≡ false = ap (λ (ms : List Bool). list_any (λ (w : Bool). w) ms) (sym c.deref-in-passes.ensures.value) ∙ sym c.any_waits.ensures ∙ c.passes-test.false in
    an_order (meant c.args.assignments.now) c.passes.marks.items c.passes.order.items c.passes.invariant.placing none
