-- A change that may leave rows out has one result at most of a source that has.
use Rattle.std.proofs.Common.{List, Bool, ◌||◌, sym, ap, ◌∙◌}
use Rattle.gl_values.specs.Results.{Row, Results}
use Rattle.gl_values.proofs.Unique.{HasOne}
use Rattle.gl_frames.specs.Results.{IsChangedInPart}

pub one_in_part : (source : Results) (change : List Row → List Row) (further : List Row → Bool) → HasOne source → HasOne (IsChangedInPart source change further)
one_in_part source change further one out out' spill spill' a b =
    let same = one a.rows b.rows a.source_spill b.source_spill a.of_source b.of_source in
    record {
      rows = a.changed ∙ ap change same.rows ∙ sym b.changed;
      spills = a.any ∙ ap (λ x. x || further a.rows) same.spills ∙ ap (λ r. b.source_spill || further r) same.rows ∙ sym b.any;
    }
