-- The pace of a query, as code has it.
-- A middle layer, proved equal to gl_query (`Columns`): no promise rests on it.
use Rattle.gl_query.specs.Columns as columns
use Rattle.gl_query_check.specs.declared.paces.Pace.{Pace}
use Rattle.gl_query_check.specs.declared.paces.Pace.TheVariants.{Once, Step}

-- the pace that the code's value stands for
abbrev pub pace : Pace → columns.Pace
pace Once = columns.Once
pace (Step source) = columns.Step source.now
