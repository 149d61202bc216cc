-- A wire with late ends behind another one, in a netlist.
use Rattle.std.specs.Prelude.{◌≡◌, ℕ, ◌+◌, ◌*◌, length}
use Rattle.std.specs.List.{sum}
use Rattle.gl_net.specs.Net.{Net, Run, IsRun, Keeps}
use Rattle.gl_wire.specs.declared.wire.Wire.{Wire}
use Rattle.gl_wire.specs.Costs.{CostsAtMost}
use Rattle.gl_wire.specs.Wire.{IsWire, carried, widths}
use Rattle.gl_wire_registers.specs.Held.{with_registers}
use Rattle.gl_spare.specs.LateEnds.{IsLate, IsQuiet}

-- a wire with late ends more
pub record AddsLate (old new : Net) (shift : ℕ) (source late : Wire) : Type 0 where
  pub keeps : Keeps old new
  pub cost : CostsAtMost old new
      (with_registers (length (widths source.columns) * 3 + 27) (sum (widths source.columns) + 34))
  pub wire : IsWire new late
  pub same_widths : widths late.columns ≡ widths source.columns
  -- wherever nothing comes in so many cycles after an end
  pub late' : (run : Run) → IsRun new run → IsQuiet shift (carried run source)
      → IsLate shift (carried run source) (carried run late)

-- such a wire, or the source's own where ends are not late, at most at that cost
pub record HasLate (old new : Net) (shift : ℕ) (source late : Wire) : Type 0 where
  pub keeps : Keeps old new
  pub cost : CostsAtMost old new
      (with_registers (length (widths source.columns) * 3 + 27) (sum (widths source.columns) + 34))
  pub wire : IsWire new late
  pub same_widths : widths late.columns ≡ widths source.columns
  pub late' : (run : Run) → IsRun new run → IsQuiet shift (carried run source)
      → IsLate shift (carried run source) (carried run late)
