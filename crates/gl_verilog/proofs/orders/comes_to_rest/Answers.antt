use Rattle.gl_verilog.proofs.Rests.{comes_to_rest, ends}
use Rattle.gl_verilog.proofs.orders.comes_to_rest.Goals as goal

pub returns : goal.returns
returns c = record { continued = λ m h. comes_to_rest m h; ends = λ m h. ends m h }
