use Rattle.std.proofs.Common.{Some, sym, ap, ◌∙◌}
use Rattle.std.proofs.lemmas.Option.{slice_get-get_or}
use Rattle.gl_verilog.specs.View.{assignment_of}
use Rattle.gl_verilog_loops.proofs.Reaching.{grows_led}
use Rattle.gl_verilog_loops.proofs.loops.put_led.Goals as goal

pub returns-in_ok-put_nets : goal.returns-in_ok-put_nets
returns-in_ok-put_nets c =
    let there = c.in-Some.ensures.lookup in
    grows_led assignment_of c.args.assignments.now c.args.driver c.in-Some.assignment.now c.args.found.now.keys c.put_nets.new.found.keys
    (ap Some there.1 ∙ sym (slice_get-get_or c.args.assignments.now c.args.driver _ there.3.0)) (sym c.contains.ensures ∙ c.if-contains.true) c.in_ok-put_nets.ensures
