-- A body over each part of a source, its results joined in order.
-- A middle layer, proved equal to gl_query (`Results`): no promise rests on it.
use Rattle.std.specs.Prelude.{ℕ, List, ◌∷◌, map}
use Rattle.gl_values.specs.declared.lists.Group.{Group}
use Rattle.gl_schema.specs.declared.schema.Column.{Column}
use Rattle.gl_query.specs.Shapes.{QueryShape}
use Rattle.gl_values.specs.Results.{Row, Results, AreJoined, IsChanged}
use Rattle.gl_query.specs.Results.{Env, IsResultIn, only}

-- over lists of rows
abbrev pub AreOverSlices : QueryShape → Env → List ℕ → List Column → List (List Row) → Results
AreOverSlices body env var columns slices = AreJoined (λ rows. IsResultIn body (only env var columns rows)) slices

-- a body over the rows of a group, with the key first in each row
abbrev pub IsOverGroup : QueryShape → Env → List ℕ → List Column → Group → Results
IsOverGroup body env var columns g = IsChanged (IsResultIn body (only env var columns g.rows)) (map (λ row. g.key ∷ row))

-- the results of a body over each group, joined in order
abbrev pub AreOverGroups : QueryShape → Env → List ℕ → List Column → List Group → Results
AreOverGroups body env var columns groups = AreJoined (IsOverGroup body env var columns) groups
