use Rattle.gl_bits.proofs.Options.{on_ok}
use Rattle.gl_verilog_writer.specs.Texts.{scheme_in}
use Rattle.gl_verilog_writer.proofs.Loops.{text-put}
use Rattle.gl_verilog_writer.proofs.text.put_text.Goals as goal

pub returns : goal.returns
returns c = on_ok c.put.result (λ e. text-put c.args.net.now (scheme_in c.args.by.now) _ _ _ _ _ _ _ c.name.ensures.value c.nodes-nodes.ensures.value c.ports-ports.ensures.value c.in_ok-put_head.ensures c.in_ok-put_items.ensures e) c.put.ensures
