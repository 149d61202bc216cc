use Rattle.std.proofs.Common.{◌≡◌, ◌-◌, ℕ, List, sym, subst, arith}
use Rattle.gl_net.specs.declared.node.Bus.{Bus}
use Rattle.gl_rows.specs.Made.{IsSource}
use Rattle.gl_rows.proofs.MadeLemmas.{words_kept}
use Rattle.gl_wire.proofs.ColumnLemmas.{bit_kept, bus_kept, buses_kept}
use Rattle.gl_rows.specs.declared.operand.Source.{Source}
use Rattle.gl_totals.specs.Delays.{IsBitBehind, IsBusBehind}
use Rattle.gl_totals.specs.Open.{in_memory}
use Rattle.gl_totals.specs.Totals.{AreAggsOf, IsStream}
use Rattle.gl_totals.specs.declared.rows.Rows.{Rows}
use Rattle.gl_totals.specs.declared.total.Stream.{Stream}
use Rattle.gl_totals.proofs.TableNet.{table_is}
use Rattle.gl_totals.proofs.table.Table.emit.Goals as goal

pub put_aggs-requires-clause-stream : goal.put_aggs-requires-clause-stream
put_aggs-requires-clause-stream c =
    let lines = c.in_ok-lines.ensures in
    let rows = c.args.rows.now in
    let source : Source = record { columns = c.as_slice.result; kinds = c.args.self.now.kinds; words = c.args.self.now.words } in
    let wide : c.in_ok-lines.lines.slot.width ≡ c.args.slot.width = lines.same_width in
    subst (λ (k : Rows). IsStream c.put_lines.new.net (record { rows = k; source = source })) (sym c.rows.ensures)
    (record {
      valid = lines.row_line;
      eos = lines.end_line;
      keep = (
        lines.first_line,
        bit_kept _ _ c.args.first lines.keeps c.requires.first,
        lines.slot_bus,
        bus_kept _ _ c.args.slot lines.keeps c.requires.slot,
        record { some' = omega (arith, wide, c.requires.bits); most = omega (arith, wide, c.requires.few) },
        sym wide,
      );
      source = subst (λ (bs : List Bus). IsSource c.put_lines.new.net bs c.args.self.now.kinds.now c.args.self.now.words.now) (sym c.as_slice.ensures)
          (record { buses = buses_kept _ _ rows.columns lines.keeps c.requires.wire.columns; same_widths = c.requires.kinds; held = words_kept _ _ c.args.self.now.words.now lines.keeps c.requires.words });
    })

pub delay_bus-requires : goal.delay_bus-requires
delay_bus-requires c =
    let l = c.in_ok-lines.lines in
    bus_kept _ _ l.slot c.in_ok-end.ensures.keeps (bus_kept _ _ l.slot c.in_ok-columns.ensures.keeps c.in_ok-lines.ensures.slot_bus)

pub returns : goal.returns
returns c =
    let one = c.put_lines.new.net in
    let two = c.put_aggs.new.net in
    let three = c.delay_bit.new.net in
    let new = c.delay_bus.new.net in
    let table = c.args.self.now in
    let aggs = table.aggs.now in
    let l = c.in_ok-lines.lines in
    let source : Source = record { columns = c.as_slice.result; kinds = table.kinds; words = table.words } in
    let s : Stream = record { rows = in_memory l.valid l.eos l.first c.args.first l.slot c.args.slot; source = source } in
    let kept = subst (λ (k : Rows). AreAggsOf one two (c.delay_of_aggs-more.result - 1) (record { rows = k; source = source }) aggs c.in_ok-columns.columns) c.rows.ensures
    c.in_ok-columns.ensures in
    let is = c.delay_of_aggs-more.ensures in
    table_is c.args.net.now one two three new table c.args.rows.now c.args.slot c.args.first l source c.in_ok-columns.columns c.in_ok-end.end c.in_ok-out.out
    c.requires.are_kinds c.requires.aggs c.requires.some c.requires.few c.as_slice.ensures c.in_ok-lines.ensures
    (subst (λ (m : ℕ). AreAggsOf one two (m - 1) s aggs c.in_ok-columns.columns) is kept)
    (subst (λ (m : ℕ). IsBitBehind two three (m - 1) l.eos c.in_ok-end.end) is c.in_ok-end.ensures)
    (subst (λ (m : ℕ). IsBusBehind three new (m - 1) l.slot c.in_ok-out.out) is c.in_ok-out.ensures)
