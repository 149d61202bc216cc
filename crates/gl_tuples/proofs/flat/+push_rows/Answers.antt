use Rattle.std.proofs.Common.{List, ℕ, subst}
use Rattle.gl_tuples.specs.Flat.{RowAdded}
use Rattle.gl_tuples.proofs.Flats.{rows_added, bit_is}
use Rattle.gl_tuples.proofs.flat.+push_rows.Goals as goal

pub returns-in_ok-later-in-Some-Some-clause-added : goal.returns-in_ok-later-in-Some-Some-clause-added
returns-in_ok-later-in-Some-Some-clause-added t c =
    let w = c.in-Some-Some in
    let comes = c.in_ok-comes-in-Some-Some.comes in
    let one = subst (λ (s : List ℕ). RowAdded s w.row.now c.args.numbers.now.items c.push_row.new.numbers.items comes) c.as_slice.ensures c.in_ok-comes-in-Some-Some.ensures.added in
    rw (w.ensures.cases.0, w.ensures'.cases.0, bit_is comes c.from.result c.from.ensures)
    (rows_added w.columns.now w.others.now w.row.now w.rest.now c.args.numbers.now.items c.push_row.new.numbers.items c.push_rows.new.numbers.items comes c.in_ok-later-in-Some-Some.later one c.in_ok-later-in-Some-Some.ensures.added)
