-- The rows of streams, as a lane, and the values that a bus carries with those of the open stream.
use Rattle.std.specs.Prelude.{◌≡◌, ℕ, zero, suc, List, Bool, false, ⊤}
use Rattle.gl_values.specs.Results.{Row}
use Rattle.gl_net.specs.declared.node.Bus.{Bus}
use Rattle.gl_net.specs.declared.node.Bit.{Bit}
use Rattle.gl_net.specs.Net.{Net, Run, IsAddressWidth, IsBit, IsBus}
use Rattle.gl_totals.specs.declared.rows.Keep.{Keep}
use Rattle.gl_totals.specs.declared.rows.Keep.TheVariants.{Register, Slots}
use Rattle.gl_totals.specs.declared.rows.Rows.{Rows}
use Rattle.gl_wire.specs.Wire.{line_at, row_at}
use Rattle.gl_wire_lanes.specs.Lanes.{Lane, Begins, first_of, rows_now}

-- streams one after another, with the state of the open one in a register
abbrev pub in_register : Bit → Bit → Rows
in_register valid eos = record { valid = valid; eos = eos; keep = Register }

-- streams of many slots, with a state for each in a memory
abbrev pub in_memory : Bit → Bit → Bit → Bit → Bus → Bus → Rows
in_memory valid eos first begins slot next = record { valid = valid; eos = eos; keep = Slots first begins slot next }

-- what tells whose a state is, is in the netlist
abbrev pub KeepFits : Net → Keep → Type 0
KeepFits net Register = ⊤
KeepFits net (Slots first begins slot next) =
    IsBit net first × IsBit net begins × IsBus net slot × IsBus net next × IsAddressWidth slot.width
    × (next.width ≡ slot.width)

-- whose stream each cycle is of: of one alone, where they come one after another
abbrev pub slot_by : Run → Keep → ℕ → ℕ
slot_by run Register = λ c. 0
slot_by run (Slots first begins slot next) = λ c. run.at c slot.node

-- where streams begin
abbrev pub first_by : Run → Bit → Keep → ℕ → Bool
first_by run eos Register = first_of (line_at run eos)
first_by run eos (Slots first begins slot next) = line_at run first

-- the rows of streams as a lane: whether a row comes, whether its stream ends or begins, and whose slot the cycle is
abbrev pub lane_by : Run → Rows → Lane
lane_by run rows = record {
  valid = line_at run rows.valid;
  ends = line_at run rows.eos;
  slot = slot_by run rows.keep;
  first = first_by run rows.eos rows.keep;
}

-- the row of each cycle: before a memory the lines are one cycle behind the columns
abbrev pub row_by : Run → Keep → List Bus → ℕ → Row
row_by run Register columns c = row_at run c columns
row_by run (Slots first begins slot next) columns zero = row_at run zero columns
row_by run (Slots first begins slot next) columns (suc c) = row_at run c columns

-- what a memory asks: no row in the first cycle, whose slot nobody told; and each later slot, and whether its stream begins,
-- told in the cycle before
abbrev pub IsLed : Run → Bit → Keep → Type 0
IsLed run valid Register = ⊤
IsLed run valid (Slots first begins slot next) =
    (line_at run valid 1 ≡ false) × ((t : ℕ) → run.at (suc (suc t)) slot.node ≡ run.at (suc t) next.node)
    × ((t : ℕ) → line_at run first (suc t) ≡ line_at run begins t)

-- the lines tell where streams begin, and whose slot comes next
pub record AreTold (run : Run) (rows : Rows) : Type 0 where
  pub begins : Begins (lane_by run rows)
  pub led : IsLed run rows.valid rows.keep

-- the values that a bus carries with the rows of a cycle's stream, this cycle's own included
abbrev pub values_at : Run → Rows → Bus → ℕ → List ℕ
values_at run rows x t = rows_now (lane_by run rows) (λ c. run.at c x.node) t
