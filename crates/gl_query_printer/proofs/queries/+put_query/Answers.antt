use Rattle.std.proofs.Common.{ap}
use Rattle.gl_bits.proofs.Options.{on_ok}
use Rattle.gl_query.specs.Shapes.{query_shape}
use Rattle.gl_query_printer.proofs.KeyedWindows.{keyed_windows_put}
use Rattle.gl_query_printer.proofs.queries.+put_query.Goals as goal

pub returns-in_ok-put_query-in-Partition-2 : goal.returns-in_ok-put_query-in-Partition-2
returns-in_ok-put_query-in-Partition-2 t c =
    on_ok c.put_plain-in-Partition.result
    (keyed_windows_put (query_shape c.args.query.now) (query_shape c.in-Partition.source.value) (query_shape c.deref-in-Partition.result.now)
    (query_shape c.deref-in-Partition-2.result.now) (query_shape c.deref-in-Partition-3.result.now) (query_shape c.in-Partition.body.value)
    (query_shape c.deref-in-Partition-4.result.now) c.in-Partition.var.text c.in-Partition.key.text c.in-Partition.groups.value c.in-Partition.size.value
    c.in-Partition.advance.value c.is_stream-in-Partition.result c.is_stream-in-Partition-2.result c.args.tokens.now.items
    c.begin_each-in-Partition.new.tokens.items c.put_query-in-Partition.new.tokens.items c.close_unless-in-Partition.new.tokens.items
    c.put_grouping-in-Partition.new.tokens.items c.put_window-in-Partition.new.tokens.items c.put_query-in-Partition-2.new.tokens.items
    c.put_plain-in-Partition.new.tokens.items (ap query_shape c.in-Partition.is) (ap query_shape c.deref-in-Partition.ensures)
    (ap query_shape c.deref-in-Partition-2.ensures) (ap query_shape c.deref-in-Partition-3.ensures) (ap query_shape c.deref-in-Partition-4.ensures)
    c.is_stream-in-Partition.ensures c.is_stream-in-Partition-2.ensures c.in_ok-begin_each-in-Partition.ensures c.in_ok-put_query-in-Partition.ensures
    c.in_ok-close_unless-in-Partition.ensures c.in_ok-put_grouping-in-Partition.ensures c.in_ok-put_window-in-Partition.ensures
    c.in_ok-put_query-in-Partition-2.ensures)
    c.put_plain-in-Partition.ensures
