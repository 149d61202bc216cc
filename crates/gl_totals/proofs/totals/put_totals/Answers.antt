use Rattle.std.proofs.Common.{ℕ, subst}
use Rattle.gl_rows.specs.declared.operand.Source.{Source}
use Rattle.gl_totals.specs.Delays.{IsBitBehind}
use Rattle.gl_totals.specs.Open.{in_register}
use Rattle.gl_totals.specs.Totals.{AreAggsOf}
use Rattle.gl_totals.specs.declared.total.Stream.{Stream}
use Rattle.gl_totals.proofs.TotalsBehind.{totals_behind}
use Rattle.gl_totals.proofs.totals.put_totals.Goals as goal

pub returns : goal.returns
returns c =
    let mid = c.put_aggs.new.net in
    let new = c.delay_bit.new.net in
    let wire = c.args.below.wire in
    let source : Source = record { columns = c.as_slice.result; kinds = c.args.kinds; words = c.args.words } in
    let s : Stream = record { rows = in_register wire.valid wire.eos; source = source } in
    totals_behind c.one_is_single.ensures c.args.net.now mid new c.args.below c.args.aggs.now source c.in_ok-columns.columns c.in_ok-end.end c.as_slice.ensures
    (subst (λ (m : ℕ). AreAggsOf c.args.net.now mid m s c.args.aggs.now c.in_ok-columns.columns) c.delay_of_aggs-cycles.ensures c.in_ok-columns.ensures)
    (subst (λ (m : ℕ). IsBitBehind mid new m wire.eos c.in_ok-end.end) c.delay_of_aggs-cycles.ensures c.in_ok-end.ensures)
