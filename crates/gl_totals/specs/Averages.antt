-- The fraction whose quotient an average is.
use Rattle.std.specs.Prelude.{◌≡◌, ℕ, ℤ, suc, ◌+◌, nat_eq, if◌then◌else◌}
use Rattle.gl_values.specs.Kinds.{width_of, word_of}
use Rattle.gl_values.specs.Totals.{count_of, quotient_of, sum_of_numbers}
use Rattle.gl_bits.specs.Words.{difference_of}
use Rattle.gl_values.specs.declared.kind.Kind.{Kind}
use Rattle.gl_net.specs.declared.node.Bus.{Bus}
use Rattle.gl_net.specs.declared.node.Bit.{Bit}
use Rattle.gl_net.specs.Net.{Net, Run, IsRun, IsBit, IsBus, Keeps}
use Rattle.gl_totals.specs.Costs.{cost_of_fraction}
use Rattle.gl_totals.specs.Open.{AreTold, lane_by, values_at}
use Rattle.gl_totals.specs.declared.average.Fraction.{Fraction}
use Rattle.gl_totals.specs.declared.rows.Rows.{Rows}
use Rattle.gl_divide.specs.Division.{highest}
use Rattle.gl_totals.specs.declared.sign.Magnitude.{Magnitude}
use Rattle.gl_wire.specs.Costs.{Cost, CostsAtMost, nodes_alone}
use Rattle.gl_wire.specs.Wire.{line_at}
use Rattle.gl_wire_lanes.specs.Lanes.{IsFresh}

-- the sum of the numbers that the values of the open stream stand for, in 32 bits more than they have, and how many
pub record IsFraction (old new : Net) (rows : Rows) (kind : Kind) (value : Bus) (f : Fraction) : Type 0 where
  pub keeps : Keeps old new
  pub cost : CostsAtMost old new (cost_of_fraction rows.keep value.width)
  pub top : IsBus new f.top
  pub top_width : f.top.width ≡ value.width + 32
  pub bottom : IsBus new f.bottom
  pub bottom_width : f.bottom.width ≡ 32
  pub sum : (run : Run) → IsRun new run → AreTold run rows → (t : ℕ)
      → IsFresh (lane_by run rows) (suc t)
      → run.at (suc t) f.top.node
      ≡ word_of (width_of kind + 32) (sum_of_numbers kind (values_at run rows value (suc t)))
  pub number : (run : Run) → IsRun new run → AreTold run rows → (t : ℕ)
      → IsFresh (lane_by run rows) (suc t)
      → run.at (suc t) f.bottom.node ≡ count_of (values_at run rows value (suc t))

-- the same fraction, or 0 by 1 where the bottom is 0
pub record IsGuarded (old new : Net) (given f : Fraction) : Type 0 where
  pub keeps : Keeps old new
  pub cost : CostsAtMost old new (nodes_alone 6)
  pub top : IsBus new f.top
  pub top_width : f.top.width ≡ given.top.width
  pub bottom : IsBus new f.bottom
  pub bottom_width : f.bottom.width ≡ given.bottom.width
  pub tops : (run : Run) → IsRun new run → (t : ℕ)
      → run.at (suc t) f.top.node ≡ (if nat_eq (run.at (suc t) given.bottom.node) 0 then 0
      else run.at (suc t) given.top.node)
  pub bottoms : (run : Run) → IsRun new run → (t : ℕ)
      → run.at (suc t) f.bottom.node ≡ (if nat_eq (run.at (suc t) given.bottom.node) 0 then 1
      else run.at (suc t) given.bottom.node)

-- a bus, or what is that much below 0 where a line is 1
pub record IsNegated (old new : Net) (line : Bit) (given out : Bus) : Type 0 where
  pub keeps : Keeps old new
  pub cost : CostsAtMost old new (nodes_alone 3)
  pub bus : IsBus new out
  pub same_width : out.width ≡ given.width
  pub value : (run : Run) → IsRun new run → (t : ℕ) → run.at (suc t) out.node
      ≡ (if line_at run line (suc t) then difference_of given.width 0 (run.at (suc t) given.node)
      else run.at (suc t) given.node)

-- the sign of a number in two's complement, and the number without it
pub record IsMagnitude (old new : Net) (bus : Bus) (m : Magnitude) : Type 0 where
  pub keeps : Keeps old new
  pub cost : CostsAtMost old new (nodes_alone 4)
  pub sign : IsBit new m.sign
  pub size : IsBus new m.size
  pub same_width : m.size.width ≡ bus.width
  pub line : (run : Run) → IsRun new run → (t : ℕ)
      → line_at run m.sign (suc t) ≡ highest bus.width (run.at (suc t) bus.node)
  pub value : (run : Run) → IsRun new run → (t : ℕ) → run.at (suc t) m.size.node
      ≡ (if highest bus.width (run.at (suc t) bus.node) then difference_of bus.width 0 (run.at (suc t) bus.node)
      else run.at (suc t) bus.node)

-- the quotient of a fraction, toward 0, one cycle later than the top has bits; what number the top stands for is given
pub record IsQuotient (old new : Net) (most : Cost) (number : ℕ → ℤ) (f : Fraction) (q : Bus) : Type 0 where
  pub keeps : Keeps old new
  pub cost : CostsAtMost old new most
  pub bus : IsBus new q
  pub same_width : q.width ≡ f.top.width
  pub value : (run : Run) → IsRun new run → (t : ℕ) → run.at (suc t + (f.top.width + 1)) q.node
      ≡ word_of f.top.width (quotient_of (number (run.at (suc t) f.top.node)) (run.at (suc t) f.bottom.node))
