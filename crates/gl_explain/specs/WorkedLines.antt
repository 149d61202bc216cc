-- Lines of nodes that were worked out by hand.
use Rattle.std.specs.Prelude.{◌≡◌, [], ◌∷◌, codes, Some, None}
use Rattle.gl_schema.specs.declared.schema.Schema.{Schema}
use Rattle.gl_algebra.specs.declared.node.Operand.TheVariants.{Column}
use Rattle.gl_algebra.specs.declared.node.PlanFrame.TheVariants.{Own, Lag, Over}
use Rattle.gl_algebra.specs.declared.node.PlanFrameAgg.TheVariants as over
use Rattle.gl_algebra.specs.declared.node.PlanNode.TheVariants.{Frames}
use Rattle.gl_explain.specs.Lines.{line_of, words_of}

-- nodes of frames: each item is an operand, or a name and its number of rows
pub record WorkedLines (schema : Schema) : Type 0 where
  pub averages : line_of schema 3
      (Frames 2 None
      (Own (Column 0) ∷ Own (Column 1) ∷ Over (over.Avg (Column 1)) None (Some 19) ∷ Lag (Column 1) 1 ∷ []))
      (record { a = 43; lt = 43; le = 43; nt = 1; ne = 1; gt = 1; ge = 1 })
      ≡ codes "p3 frames p2 c0 c1 avg 19 lag 1 : 43 43 43 1 1 1 1\n"
  pub all_rows : words_of schema
      (Frames 7 None
      (Own (Column 3) ∷ Over (over.LastValue (Column 1)) (Some 4) None ∷ Over over.Count None None ∷ []))
      ≡ codes "frames p7 c3 last_value count"
  pub by_symbol : line_of schema 3
      (Frames 2 (Some (record { key = 0; groups = 64 }))
      (Own (Column 0) ∷ Own (Column 1) ∷ Over (over.Avg (Column 1)) None (Some 19) ∷ Lag (Column 1) 1 ∷ []))
      (record { a = 46; lt = 46; le = 46; nt = 1; ne = 1; gt = 1; ge = 1 })
      ≡ codes "p3 frames p2 by c0 64 c0 c1 avg 19 lag 1 : 46 46 46 1 1 1 1\n"
