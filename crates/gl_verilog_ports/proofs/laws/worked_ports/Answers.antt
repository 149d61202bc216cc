use Rattle.std.proofs.Common.{refl}
use Rattle.gl_schema.specs.Ports.{rst, eos, tick, in_valid, in_column, in_parameter, out_valid, out_eos, fault_group, fault_queue}
use Rattle.gl_schema.specs.Profile.{clk}
use Rattle.gl_verilog_ports.specs.Worked.{WorkedPorts}
use Rattle.gl_verilog_ports.proofs.laws.worked_ports.Goals as goal

worked : WorkedPorts
unfolding clk rst eos tick in_valid in_column in_parameter out_valid out_eos fault_group fault_queue
worked = record {
  all = refl;
  fewest = refl;
  valid_alone = refl;
  wider_input = refl;
  unknown_input = refl;
  unknown_stream = refl;
  wide_reset = refl;
  tick_alone = refl;
  wide_tick = refl;
  parameter_alone = refl;
  wider_parameter = refl;
  unknown_parameter = refl;
  output_as_parameter = refl;
  wide_clock = refl;
  output_as_input = refl;
  no_such_input = refl;
  output_as_reset = refl;
  wide_valid = refl;
  end_as_input = refl;
  wide_fault = refl;
  columns_32 = refl;
  columns_33 = refl;
  bits_64 = refl;
  bits_65 = refl;
  earlier = refl;
  no_clock = refl;
  output_as_clock = refl;
  no_valid = refl;
  no_end = refl;
  bad_before_lacking = refl;
}

pub returns : goal.returns
returns c = worked
