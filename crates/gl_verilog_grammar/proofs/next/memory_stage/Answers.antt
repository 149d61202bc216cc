-- A list of one name is that name.
use Rattle.gl_verilog_grammar.proofs.OneName.{one_name}
use Rattle.gl_verilog_grammar.proofs.next.memory_stage.Goals as goal

pub returns-in-RegisterSort-len1 : goal.returns-in-RegisterSort-len1
returns-in-RegisterSort-len1 c = one_name c.args.names.now c.args.sort c.args.range _ c.in-RegisterSort-len1.is-0 c.in-RegisterSort-len1.len_at_least c.in-RegisterSort-len1.len_below
