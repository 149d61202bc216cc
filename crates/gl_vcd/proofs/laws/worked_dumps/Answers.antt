use Rattle.std.proofs.Common.{refl}
use Rattle.std.specs.Fmt.{digits}
use Rattle.gl_schema.specs.Ports.{out_valid, out_eos, fault_group, fault_queue}
use Rattle.gl_schema.specs.Seen.{shown, printed, line_of, overflow_line, end_line}
use Rattle.gl_tuples.specs.Values.{is_number, are_digits, number_in}
use Rattle.gl_vcd.specs.Reading.{next, end_of, dump_of}
use Rattle.gl_vcd.specs.Signals.{value_at, show_none, lines_of}
use Rattle.gl_vcd.specs.Tokens.{tokens_of}
use Rattle.gl_vcd.specs.Written.{binary, header, cycle, dump_text}
use Rattle.gl_vcd.specs.Worked.{WorkedDumps}
use Rattle.gl_vcd.proofs.laws.worked_dumps.Goals as goal

worked : WorkedDumps
unfolding dump_text header cycle binary dump_of tokens_of next end_of value_at show_none lines_of shown printed line_of overflow_line end_line digits is_number are_digits number_in out_valid out_eos fault_group fault_queue
worked = record {
  written = refl;
  price = refl;
  empty = refl;
  nothing = refl;
}

pub returns : goal.returns
returns c = worked
