use Rattle.gl_verilog_elaborator.proofs.declarations.+bits_to.Given as goal

abbrev pub decreases-bits_to : goal.decreases-bits_to
decreases-bits_to l = l.most
