use Rattle.gl_wiring.specs.EmittedPorts.{parameter_inputs}
use Rattle.gl_wiring.specs.Output.{tick_input}
use Rattle.gl_wiring.proofs.Shapes.{puts_then}
use Rattle.gl_wiring.proofs.StreamLemmas.{line_stays}
use Rattle.gl_wiring.proofs.leaves.put_last_inputs.Goals as goal

pub put_parameters-requires-clause-none : goal.put_parameters-requires-clause-none
put_parameters-requires-clause-none c = c.in_ok-tick.ensures.none c.requires.none

pub returns-clause-ports : goal.returns-clause-ports
returns-clause-ports c =
    puts_then c.args.net.now c.put_tick.new.net c.put_parameters.new.net (tick_input c.args.ticks) (parameter_inputs c.args.parameters.now)
    c.in_ok-tick.ensures.ports c.in_ok-words.ensures.ports

pub returns-clause-line : goal.returns-clause-line
returns-clause-line c =
    line_stays c.put_tick.new.net c.put_parameters.new.net c.args.ticks c.in_ok-tick.tick c.in_ok-words.ensures.extends c.in_ok-tick.ensures.line
