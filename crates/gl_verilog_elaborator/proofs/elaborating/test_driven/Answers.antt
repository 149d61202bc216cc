use Rattle.gl_verilog_elaborator.specs.View.{names_in}
use Rattle.gl_verilog_elaborator.proofs.Found.{driven_stop, driven_next}
use Rattle.gl_verilog_elaborator.proofs.elaborating.test_driven.Goals as goal

pub returns-then-not-has_driver : goal.returns-then-not-has_driver
returns-then-not-has_driver c = λ e t.
    driven_stop (names_in c.args.done.now.keys) c.args.scope.now.names.entries c.loop-i.i (c.in-Some.name.now, c.in-Some.declared.now) e _ c.in-Some.ensures.entry c.if-not-has_driver.ensures (c.loop-i.invariant e)

pub loop-i-preserved : goal.loop-i-preserved
loop-i-preserved c = λ e.
    driven_next (names_in c.args.done.now.keys) c.args.scope.now.names.entries c.loop-i.i (c.in-Some.name.now, c.in-Some.declared.now) e _ c.in-Some.ensures.entry c.if-not-has_driver.ensures (c.loop-i.invariant e)
