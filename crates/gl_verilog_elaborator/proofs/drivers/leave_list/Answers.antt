use Rattle.std.proofs.Common.{◌∙◌, ap, List, ℕ}
use Rattle.gl_verilog_elaborator.specs.Judged.{left_list}
use Rattle.gl_verilog_elaborator.specs.View.{names_in, drivers_of}
use Rattle.gl_verilog_elaborator.proofs.Found.{take_in}
use Rattle.gl_verilog_elaborator.proofs.drivers.leave_list.Goals as goal

pub returns : goal.returns
returns c = ap (λ (b : List (List ℕ)). left_list b (drivers_of c.args.drivers.now)) (ap names_in c.truncate.ensures.keys ∙ take_in c.args.beside c.args.drivers.now.beside.keys)
