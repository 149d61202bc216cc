-- Totals of the rows that pass, as items.
use Rattle.std.proofs.Common.{◌≡◌, ℕ, suc, ◌+◌, ◌%◌, ◌^◌, ◌≤◌, List, length, Option, Bool, refl, sym, ap, ◌∙◌, arith}
use Rattle.std.specs.Prelude.{◌&&◌, filter}
use Rattle.std.proofs.lemmas.List.{length-map}
use Rattle.gl_algebra.specs.Results.{counts_in}
use Rattle.gl_algebra.specs.declared.node.Operand.{Operand}
use Rattle.gl_algebra.specs.Values.{Sets, value_of_operand}
use Rattle.gl_values.specs.Results.{Row}
use Rattle.gl_values.specs.Totals.{count_of}
use Rattle.gl_net.specs.declared.node.Bus.{Bus}
use Rattle.gl_net.specs.Net.{Net, Run}
use Rattle.gl_net.proofs.Determined.{keeps_then}
use Rattle.gl_rows.specs.Made.{IsOperand}
use Rattle.gl_wire.specs.Costs.{Cost}
use Rattle.gl_wire.specs.Stages.{IsLaterBus}
use Rattle.gl_wire.specs.Wire.{line_at}
use Rattle.gl_wire_lanes.proofs.RowLemmas.{rows_many}
use Rattle.gl_frames_wire.specs.CountNets.{streams_by}
use Rattle.gl_totals.specs.Costs.{cost_of_count}
use Rattle.gl_totals.specs.Open.{in_register}
use Rattle.gl_totals.specs.Totals.{IsTotalOf}
use Rattle.gl_totals.specs.declared.rows.Keep.TheVariants.{Register}
use Rattle.gl_frames_stages.specs.Columns.{carried_by, column_of}
use Rattle.gl_frames_stages.specs.Inputs.{IsItemIn, IsPassingIn, rows_by}
use Rattle.gl_frames_stages.specs.Wholes.{cost_of_all_count, passed, with_register}
use Rattle.gl_frames_stages.specs.declared.input.Input.{Input}
use Rattle.gl_frames_stages.specs.declared.lines.Lines.{Lines}
use Rattle.gl_frames_stages.proofs.InputNet.{passed_rows}
use Rattle.gl_frames_stages.proofs.MeetLemmas.{tells_next}
use Rattle.gl_frames_stages.proofs.TotalNet.{lane_rows, total_here}

-- an item, said otherwise, and counted more loosely
pub item_as : (old new : Net) (less most : Cost) (cycles m width w : ℕ) (of other : Sets → List Row → ℕ) (input : Input) (out : Bus)
    → less.nodes ≤ most.nodes → less.registers ≤ most.registers → less.memories ≤ most.memories → cycles ≡ m → width ≡ w → ((sets : Sets) (rows : List Row) → of sets rows ≡ other sets rows)
    → IsItemIn old new less cycles width of input out → IsItemIn old new most m w other input out
item_as old new less most cycles m width w of other input out nodes registers memories late wide same h = record {
  keeps = h.keeps;
  cost = record {
    nodes = omega (arith, h.cost.nodes, nodes);
    registers = omega (arith, h.cost.registers, registers);
    memories = omega (arith, h.cost.memories, memories);
  };
  bus = h.bus;
  same_width = h.same_width ∙ wide;
  tells = λ run r c v.
      let e : suc c + m ≡ suc c + cycles = omega (arith, late) in
      ap (carried_by run out) e ∙ h.tells run r c v ∙ same run.held (column_of run input.lines (rows_by run input) (suc c));
}

-- a total of an operand's values of the rows that pass, in a register
pub whole_item : (old one two three new : Net) (input : Input) (by : Option ℕ) (operand : Operand) (lines : Lines) (x y out : Bus) (most : Cost) (width d : ℕ) (total : List ℕ → ℕ)
    → IsPassingIn old one input by lines → IsOperand one two input.source.columns.now input.source.kinds.now operand x
    → IsTotalOf two three most width d (in_register lines.valid lines.eos) x total y → IsLaterBus three new y out
    → IsItemIn old new (with_register most width) (d + 1) width (λ sets rows. total (passed sets by operand rows)) input out
whole_item old one two three new input by operand lines x y out most width d total passing value sum late = record {
  keeps = keeps_then old one new passing.keeps (keeps_then one two new value.keeps (keeps_then two three new sum.keeps late.keeps));
  cost = record {
    nodes = omega (arith, passing.cost.nodes, value.cost.nodes, sum.cost.nodes, late.cost.nodes);
    registers = omega (arith, passing.cost.registers, value.cost.registers, sum.cost.registers, late.cost.registers, sum.same_width);
    memories = omega (arith, passing.cost.memories, value.cost.memories, sum.cost.memories, late.cost.memories);
  };
  bus = late.bus;
  same_width = late.same_width ∙ sum.same_width;
  tells = λ run r.
      let at_sum = late.keeps.runs run r in
      let at_value = sum.keeps.runs run at_sum in
      let at_passing = value.keeps.runs run at_value in
      tells_next run input.lines d (λ rows. total (passed run.held by operand rows)) (rows_by run input) (carried_by run y) (carried_by run out) (late.value run r)
      (λ c v.
      total_here run lines x y d total (sum.carries run at_sum) c
      ∙ ap total (passed_rows run input.lines lines (counts_in by) (λ row. value_of_operand run.held row operand) (rows_by run input) (carried_by run x) passing.same_ends
      (passing.passing run at_passing) (λ t. value.carries run at_value (suc t)) (suc c)));
}

-- ---- counts

module _ (run : Run) (lines passing : Lines) (p : Row → Bool) (row : ℕ → Row) (x : ℕ → ℕ) (ends : passing.eos ≡ lines.eos)
    (line : (t : ℕ) → line_at run passing.valid (suc t) ≡ (line_at run lines.valid (suc t) && p (row (suc t)))) where
  passed_many : (c : ℕ) → length (column_of run passing x c) ≡ length (filter p (column_of run lines row c))
  passed_many c =
      ap length (lane_rows run passing x c) ∙ rows_many (streams_by run passing.valid passing.eos) x (λ (t : ℕ). 0) c
      ∙ ap length (sym (lane_rows run passing (λ (t : ℕ). 0) c))
      ∙ ap length (passed_rows run lines passing p (λ r. 0) row (λ t. 0) ends line (λ t. refl) c)
      ∙ length-map (filter p (column_of run lines row c)) (λ r. 0)

  pub passed_count : (c : ℕ) → count_of (column_of run passing x c) ≡ count_of (filter p (column_of run lines row c))
  unfolding count_of
  passed_count c = ap (λ (n : ℕ). n % 2 ^ 32) (passed_many c)

pub count_item : (old one two new : Net) (input : Input) (by : Option ℕ) (lines : Lines) (y out : Bus) → IsPassingIn old one input by lines
    → ((x : Bus) → IsTotalOf one two (cost_of_count Register) 32 0 (in_register lines.valid lines.eos) x count_of y) → IsLaterBus two new y out
    → IsItemIn old new cost_of_all_count 1 32 (λ sets rows. count_of (filter (counts_in by) rows)) input out
count_item old one two new input by lines y out passing every late =
    let x : Bus = record { node = lines.eos.node; width = 1 } in
    let sum = every x in
    record {
      keeps = keeps_then old one new passing.keeps (keeps_then one two new sum.keeps late.keeps);
      cost = record {
        nodes = omega (arith, passing.cost.nodes, sum.cost.nodes, late.cost.nodes);
        registers = omega (arith, passing.cost.registers, sum.cost.registers, late.cost.registers, sum.same_width);
        memories = omega (arith, passing.cost.memories, sum.cost.memories, late.cost.memories);
      };
      bus = late.bus;
      same_width = late.same_width ∙ sum.same_width;
      tells = λ run r.
          let at_sum = late.keeps.runs run r in
          let at_passing = sum.keeps.runs run at_sum in
          tells_next run input.lines 0 (λ rows. count_of (filter (counts_in by) rows)) (rows_by run input) (carried_by run y) (carried_by run out) (late.value run r)
          (λ c v.
          total_here run lines x y 0 count_of (sum.carries run at_sum) c
          ∙ passed_count run input.lines lines (counts_in by) (rows_by run input) (carried_by run x) passing.same_ends (passing.passing run at_passing) (suc c));
    }
