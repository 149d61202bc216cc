use Rattle.std.proofs.Common.{◌∙◌, ap, refl, sym}
use Rattle.gl_reference.specs.Arrivals.{rows_in}
use Rattle.gl_reference.proofs.Placing.{rows_of_placed}
use Rattle.gl_reference.proofs.arrivals.without_places.Goals as goal

pub returns : goal.returns
returns c = (c.in_ok-rows_alone.ensures ∙ ap rows_in c.as_slice.ensures ∙ sym (rows_of_placed c.args.from.rows), refl)
