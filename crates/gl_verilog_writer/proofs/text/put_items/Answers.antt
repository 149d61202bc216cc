use Rattle.gl_bits.proofs.Options.{on_ok}
use Rattle.gl_verilog_writer.proofs.Loops.{joined}
use Rattle.gl_verilog_writer.proofs.text.put_items.Goals as goal

pub returns : goal.returns
returns c = on_ok c.put_outputs.result (λ e.
    joined _ _ _ _ _ (joined _ _ _ _ _ (joined _ _ _ _ _ (joined _ _ _ _ _ (joined _ _ _ _ _ c.in_ok-put_title.ensures c.in_ok-put_declarations.ensures) c.in_ok-put_title-2.ensures) c.in_ok-put_drivers.ensures) c.in_ok-put_title-3.ensures) e) c.put_outputs.ensures
