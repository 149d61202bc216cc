use Rattle.std.proofs.Common.{refl}
use Rattle.std.specs.Fmt.{digits}
use Rattle.gl_schema.specs.Ports.{out_valid, out_eos, fault_group, fault_queue}
use Rattle.gl_schema.specs.Seen.{shown, printed, line_of, overflow_line, end_line}
use Rattle.gl_tuples.specs.Values.{is_number, are_digits, number_in}
use Rattle.gl_vcd.specs.Reading.{next, end_of, dump_of}
use Rattle.gl_vcd.specs.Signals.{value_at, show_none, lines_of}
use Rattle.gl_vcd.specs.Tokens.{tokens_of}
use Rattle.gl_vcd.specs.Worked.{WorkedFaults}
use Rattle.gl_vcd.proofs.laws.worked_faults.Goals as goal

worked : WorkedFaults
unfolding dump_of tokens_of next end_of value_at show_none lines_of shown printed line_of overflow_line end_line digits is_number are_digits number_in out_valid out_eos fault_group fault_queue
worked = record {
  undeclared = refl;
  no_number = refl;
  not_behind = refl;
  var_outside = refl;
  second_scope = refl;
  inner_scope = refl;
  no_module = refl;
  no_scope_name = refl;
  no_scope = refl;
  open_scope = refl;
  other_type = refl;
  no_width = refl;
  no_code = refl;
  no_name = refl;
  no_range = refl;
  two_ranges = refl;
  first_time = refl;
  long_first_time = refl;
  early = refl;
  early_bits = refl;
  bare_time = refl;
  bare_bit = refl;
  bare_bits = refl;
  no_bits = refl;
  in_section = refl;
  scope_open = refl;
  definitions = refl;
  half = refl;
  no_time = refl;
  in_comment = refl;
  unknown_bit = refl;
  unknown_bits = refl;
  unknown_end = refl;
  same_time = refl;
  falls = refl;
  no_bit = refl;
  bits_129 = refl;
  two_in_one = refl;
  nine_in_eight = refl;
  lacks = refl;
  lacks_at_end = refl;
  code_twice = refl;
  name_twice = refl;
  wide_valid = refl;
  no_eos = refl;
  wide_group = refl;
  wide_column = refl;
  late = refl;
  later = refl;
  falls_first = refl;
  value_before_late = refl;
  late_falls = refl;
}

pub returns : goal.returns
returns c = worked
