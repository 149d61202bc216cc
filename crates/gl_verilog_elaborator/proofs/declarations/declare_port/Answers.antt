use Rattle.gl_verilog_elaborator.proofs.declarations.declare_port.Goals as goal

pub returns : goal.returns
returns c = rw (← c.port_kind.ensures) c.declare.ensures
