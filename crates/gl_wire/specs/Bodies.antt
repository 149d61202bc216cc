-- What a body of a plan makes of rows that are given to it alone.
use Rattle.std.specs.Prelude.{ℕ, List, [], length}
use Rattle.std.specs.List.{range_with_len}
use Rattle.gl_algebra.specs.declared.node.PlanNode.{PlanNode}
use Rattle.gl_algebra.specs.Results.{Inputs, IsPlanResult}
use Rattle.gl_algebra.specs.Values.{Sets}
use Rattle.gl_values.specs.Results.{Row, Results}

-- inputs that bring a body its rows, each at its position, and the words of the parameters, and nothing else
abbrev pub alone : Sets → List Row → Inputs
alone sets rows =
    record {
      streams = λ number. [];
      places = λ number. [];
      times = λ number. [];
      ticks = 0;
      body = rows;
      body_places = range_with_len 0 (length rows);
      sets = sets;
    }

-- the results of a body over rows that are given to it alone
abbrev pub OfBody : Sets → List PlanNode → ℕ → List Row → Results
OfBody sets nodes body rows = IsPlanResult nodes body (alone sets rows)
