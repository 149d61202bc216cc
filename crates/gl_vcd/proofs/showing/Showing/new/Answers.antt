use Rattle.std.proofs.Common.{ap, ◌∙◌}
use Rattle.gl_schema.specs.Ports.{fault_group, out_eos, out_valid}
use Rattle.gl_vcd.specs.Signals.{number_of_name}
use Rattle.gl_vcd.specs.Standing.{signals_of}
use Rattle.gl_vcd.proofs.Shown.{columns_kinds, columns_widths}
use Rattle.gl_vcd.proofs.showing.Showing.new.Goals as goal

pub zero_row-requires : goal.zero_row-requires
zero_row-requires c =
    columns_kinds (signals_of c.args.signals.now) c.as_slice.result.now c.requires.shows c.requires.indexed.widths' (c.as_slice.ensures.value ∙ c.in_ok-columns.ensures.kinds')

pub returns-clause-shows : goal.returns-clause-shows
unfolding out_valid out_eos fault_group
returns-clause-shows c =
    let ss = signals_of c.args.signals.now in record {
      indexed = c.requires.indexed;
      shows = c.requires.shows;
      valid' = c.number_of_name.ensures ∙ ap (number_of_name ss) c.as_slice-2.ensures;
      end' = c.number_of_name-2.ensures ∙ ap (number_of_name ss) c.as_slice-3.ensures;
      group' = c.number_of_name-3.ensures ∙ ap (number_of_name ss) c.as_slice-4.ensures;
      columns' = c.in_ok-columns.ensures;
      widths' = c.in_ok-row.ensures.widths ∙ columns_widths ss c.as_slice.result.now (c.as_slice.ensures.value ∙ c.in_ok-columns.ensures.kinds');
    }
