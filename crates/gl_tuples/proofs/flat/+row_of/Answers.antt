use Rattle.std.proofs.Common.{◌∙◌, ap, sym}
use Rattle.gl_tuples.specs.Flat.{row_size}
use Rattle.gl_tuples.proofs.Flats.{row_here}
use Rattle.gl_tuples.proofs.flat.+row_of.Goals as goal

pub returns-then-comes : goal.returns-then-comes
returns-then-comes t c =
    let odd = sym c.comes_first-comes.ensures ∙ c.if-comes.true in
    row_here c.args.shape.now c.in_ok-columns.columns.now c.in_ok-columns.others.now c.args.present c.args.stream _ c.args.numbers.now c.split_at.result.0.now c.in_ok-columns.ensures.cases.0 c.requires odd c.if-stream-gt0.false
    c.split_at.ensures.front (c.size_of.ensures ∙ ap (row_size c.comes_first-comes.result) c.as_slice.ensures ∙ ap (λ (b : _). row_size b c.in_ok-columns.columns.now) c.comes_first-comes.ensures)
