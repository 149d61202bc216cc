-- The values of a cycle's stream, against those of another bus and against its rows.
use Rattle.std.proofs.Common.{◌≡◌, ℕ, zero, suc, map, length, true, arith, subst, ◌∙◌}
use Rattle.gl_algebra.specs.declared.node.Operand.{Operand}
use Rattle.gl_algebra.specs.Values.{value_of_operand}
use Rattle.gl_net.specs.declared.node.Bus.{Bus}
use Rattle.gl_net.specs.declared.node.Bit.{Bit}
use Rattle.gl_net.specs.Net.{Net, Run, IsRun}
use Rattle.gl_net.proofs.Determined.{keeps_then}
use Rattle.gl_rows.specs.Made.{IsOperand}
use Rattle.gl_wire.specs.Stages.{IsLaterBus}
use Rattle.gl_wire.specs.Wire.{line_at}
use Rattle.gl_wire.proofs.StageLemmas.{line_first}
use Rattle.gl_wire_lanes.proofs.RowLemmas.{rows_many, rows_through}
use Rattle.gl_totals.specs.Open.{IsLed, in_memory, in_register, lane_by, row_by, values_at}
use Rattle.gl_totals.specs.Totals.{IsValueOf, rows_at}
use Rattle.gl_totals.specs.declared.rows.Keep.{Keep}
use Rattle.gl_totals.specs.declared.rows.Keep.TheVariants.{Register, Slots}
use Rattle.gl_totals.specs.declared.rows.Rows.{Rows}
use Rattle.gl_totals.specs.declared.total.Stream.{Stream}

abbrev with_keep : Stream → Keep → Stream
with_keep s k = record { rows = record { valid = s.rows.valid; eos = s.rows.eos; keep = k }; source = s.source }

-- what holds in each cycle behind reset holds in each with a row
where_row : (run : Run) (line : Bit) (P : ℕ → Type 0) → ((t : ℕ) → P (suc t)) → (c : ℕ) → line_at run line c ≡ true → P c
where_row run line P h zero p = absurd (let low = line_first run line in cc (low, p))
where_row run line P h (suc c) p = h c

-- a bus that carries a function of another
pub values_through : (run : Run) (rows : Rows) (x y : Bus) (f : ℕ → ℕ) → ((t : ℕ) → run.at (suc t) y.node ≡ f (run.at (suc t) x.node)) → (t : ℕ)
    → values_at run rows y t ≡ map f (values_at run rows x t)
values_through run rows x y f same t =
    rows_through f (lane_by run rows) (λ c. run.at c x.node) (λ c. run.at c y.node) (where_row run rows.valid (λ c. run.at c y.node ≡ f (run.at c x.node)) same) t

-- a bus that carries a function of the row
pub value_at_once : (old new : Net) (s : Stream) (operand : Operand) (x : Bus) → IsOperand old new s.source.columns.now s.source.kinds.now operand x → Register ≡ s.rows.keep
    → IsValueOf old new s operand x
value_at_once old new s operand x h is =
    subst (λ (k : Keep). IsValueOf old new (with_keep s k) operand x) is
    (record {
      keeps = h.keeps;
      cost = record { nodes = omega (arith, h.cost.nodes); registers = omega (arith, h.cost.registers); memories = omega (arith, h.cost.memories) };
      bus = h.bus;
      same_width = h.same_width;
      values = λ run r led t.
          rows_through (λ row. value_of_operand run.held row operand) (lane_by run (in_register s.rows.valid s.rows.eos)) (row_by run Register s.source.columns.now) (λ c. run.at c x.node)
          (λ c p. h.carries run r c) (suc t);
    })

-- the same in a register, where the lines are behind the columns too
pub value_later : (old mid new : Net) (s : Stream) (operand : Operand) (x y : Bus) (first begins : Bit) (slot next : Bus)
    → IsOperand old mid s.source.columns.now s.source.kinds.now operand x → IsLaterBus mid new x y → Slots first begins slot next ≡ s.rows.keep → IsValueOf old new s operand y
value_later old mid new s operand x y first begins slot next h later is =
    subst (λ (k : Keep). IsValueOf old new (with_keep s k) operand y) is
    (record {
      keeps = keeps_then old mid new h.keeps later.keeps;
      cost = record {
        nodes = omega (arith, h.cost.nodes, later.cost.nodes);
        registers = omega (arith, h.cost.registers, later.cost.registers, h.same_width);
        memories = omega (arith, h.cost.memories, later.cost.memories);
      };
      bus = later.bus;
      same_width = later.same_width ∙ h.same_width;
      values = λ run r led t.
          rows_through (λ row. value_of_operand run.held row operand) (lane_by run (in_memory s.rows.valid s.rows.eos first begins slot next)) (row_by run (Slots first begins slot next) s.source.columns.now)
          (λ c. run.at c y.node) (held run r led) (suc t);
    })
  where
    held : (run : Run) → IsRun new run → IsLed run s.rows.valid (Slots first begins slot next) → (c : ℕ) → line_at run s.rows.valid c ≡ true
        → run.at c y.node ≡ value_of_operand run.held (row_by run (Slots first begins slot next) s.source.columns.now c) operand
    held run r led zero p = absurd (let low = line_first run s.rows.valid in cc (low, p))
    held run r led (suc zero) p = absurd (let low = led.0 in cc (low, p))
    held run r led (suc (suc c)) p = later.value run r c ∙ h.carries run (later.keeps.runs run r) (suc c)

-- as many values as rows
pub values_many : (run : Run) (s : Stream) (x : Bus) (t : ℕ) → length (values_at run s.rows x t) ≡ length (rows_at run s t)
values_many run s x t = rows_many (lane_by run s.rows) (λ c. run.at c x.node) (row_by run s.rows.keep s.source.columns.now) t
