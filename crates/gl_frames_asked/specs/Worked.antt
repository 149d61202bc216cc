-- Worked nodes over rows of trades, whose columns are symbol, price and volume.
use Rattle.std.specs.Prelude.{◌≡◌, [], ◌∷◌, Some, None}
use Rattle.gl_algebra.specs.declared.node.Operand.TheVariants.{Column}
use Rattle.gl_algebra.specs.declared.node.PlanFrame.TheVariants.{Own, Lag, Over}
use Rattle.gl_algebra.specs.declared.node.PlanFrameAgg.TheVariants.{Count, Sum}
use Rattle.gl_frames_asked.specs.Among.{pick, renumber}
use Rattle.gl_frames_asked.specs.Asked.{asked_columns}

pub record WorkedNodes : Type 0 where
  -- the price before, of each symbol
  pub prices : asked_columns 3 0 (Lag (Column 1) 1 ∷ []) ≡ 0 ∷ 1 ∷ []
  -- the volume before: column 2 becomes 1
  pub volumes : asked_columns 3 0 (Lag (Column 2) 1 ∷ []) ≡ 0 ∷ 2 ∷ []
  pub renumbered : renumber (0 ∷ 2 ∷ []) (Lag (Column 2) 1) ≡ Lag (Column 1) 1
  pub picked : pick (0 ∷ 2 ∷ []) (7 ∷ 30 ∷ 400 ∷ []) ≡ 7 ∷ 400 ∷ []
  -- a count without a condition asks for no column, and one with a condition for the condition's
  pub count : asked_columns 3 0 (Over Count None None ∷ []) ≡ 0 ∷ []
  pub some : asked_columns 3 0 (Over Count (Some 2) None ∷ []) ≡ 0 ∷ 2 ∷ []
  -- the key stands where its column does, and no column twice
  pub once : asked_columns 4 2 (Own (Column 2) ∷ Over (Sum (Column 1)) (Some 3) (Some 4) ∷ Own (Column 1) ∷ [])
      ≡ 1 ∷ 2 ∷ 3 ∷ []
