-- When a module has the ports of a result that stands beside others.
use Rattle.std.specs.Prelude.{◌≡◌, ◌≤◌, ℕ, List, Some, true, length, IfSome}
use Rattle.std.specs.List.{AllByRecursion}
use Rattle.gl_values.specs.Kinds.{IsKind, width_of}
use Rattle.gl_schema.specs.declared.schema.Column.{Column}
use Rattle.gl_schema.specs.Ports.{fault_group, out_column, out_eos, out_valid}
use Rattle.gl_testbench.specs.Views.{within}
use Rattle.gl_verilog.specs.Module.{Declaration, Module}
use Rattle.gl_verilog_ports.specs.Profile.{HasLine, IsLine, is_output, port_named}
use Rattle.gl_runner.specs.declared.faces.Face.{Face}

-- the port of a column is there: an output with the bits of its kind
pub record HasColumn (m : Module) (result : List ℕ) (c : Column) : Type 0 where
  pub port : Declaration
  pub there : port_named m (within result (out_column c.name)) ≡ Some port
  pub output : is_output port.kind ≡ true
  pub wide : port.width ≡ width_of c.kind

-- the lines of the result and of its end are there, and the fault line where it is there is a line; so are its columns,
-- of which there are at most 32
pub record HasFace (m : Module) (f : Face) : Type 0 where
  pub valid : HasLine m (within f.name out_valid)
  pub end : HasLine m (within f.name out_eos)
  pub group : IfSome (port_named m (within f.name fault_group)) IsLine
  pub columns' : AllByRecursion (HasColumn m f.name) f.columns
  pub many : length f.columns ≤ 32
  pub kinds : AllByRecursion (λ (c : Column). IsKind c.kind) f.columns
