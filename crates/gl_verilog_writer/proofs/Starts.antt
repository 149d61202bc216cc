-- The text of a netlist begins with the lines in front.
use Rattle.std.proofs.Common.{refl}
use Rattle.gl_net.specs.Net.{Net}
use Rattle.gl_verilog_writer.specs.declared.label.Labels.{Labels}
use Rattle.gl_verilog_writer.specs.Meaning.{HasHeader}
use Rattle.gl_verilog_writer.specs.Labelled.{scheme_of}
use Rattle.gl_verilog_writer.specs.Design.{text_by, module_text}

pub starts_with_header : (labels : Labels) (net : Net) → HasHeader labels (module_text labels net)
unfolding module_text
starts_with_header labels net = record { rest = text_by (scheme_of labels net) net; is = refl }
