use Rattle.gl_verilog_writer.proofs.Means.{text-means}
use Rattle.gl_verilog_writer.proofs.Sizes.{text-short}
use Rattle.gl_verilog_writer.proofs.Room.{text_has_room}
use Rattle.gl_verilog_writer.proofs.text.write_module.Goals as goal

pub returns-in_err-put_module-clause-meaning : goal.returns-in_err-put_module-clause-meaning
returns-in_err-put_module-clause-meaning c = text-means c.args.labels.now c.args.net.now c.put_module.ensures.netlist c.put_module.ensures.few_nodes c.put_module.ensures.few_ports

pub returns-in-Ok-clause-meaning : goal.returns-in-Ok-clause-meaning
returns-in-Ok-clause-meaning c = text-means c.args.labels.now c.args.net.now c.put_module.ensures.netlist c.put_module.ensures.few_nodes c.put_module.ensures.few_ports

pub returns-clause-meaning : goal.returns-clause-meaning
returns-clause-meaning c = text-means c.args.labels.now c.args.net.now c.put_module.ensures.netlist c.put_module.ensures.few_nodes c.put_module.ensures.few_ports

pub returns-in-Ok-clause-length : goal.returns-in-Ok-clause-length
returns-in-Ok-clause-length c = text-short c.args.labels.now c.args.net.now c.put_module.ensures.netlist c.in_ok-put_module.ensures.low_nodes c.in_ok-put_module.ensures.low_ports

pub returns-in_err-put_module-clause-room : goal.returns-in_err-put_module-clause-room
returns-in_err-put_module-clause-room c = text_has_room c.args.net.now c.put_module.ensures.netlist

pub returns-in-Ok-clause-room : goal.returns-in-Ok-clause-room
returns-in-Ok-clause-room c = text_has_room c.args.net.now c.put_module.ensures.netlist

pub returns-clause-room : goal.returns-clause-room
returns-clause-room c = text_has_room c.args.net.now c.put_module.ensures.netlist
