-- Turns in a netlist: what they cost, and what their wire carries.
use Rattle.std.proofs.Common.{◌≡◌, ℕ, ◌+◌, ◌*◌, List, length, ◌||◌, sym, ap, ◌∙◌, arith}
use Rattle.std.specs.List.{sum}
use Rattle.gl_algebra.specs.declared.figures.Figures.{Figures}
use Rattle.gl_algebra.specs.FigureTable.{IsSound}
use Rattle.gl_bits.proofs.Bools.{or_none}
use Rattle.gl_net.specs.declared.node.Bit.{Bit}
use Rattle.gl_net.specs.declared.node.Bus.{Bus}
use Rattle.gl_net.specs.Net.{Net, Run, IsRun}
use Rattle.gl_net.proofs.Determined.{keeps_then}
use Rattle.gl_wire.specs.declared.emitted.Emitted.{Emitted}
use Rattle.gl_wire.specs.declared.emitted.Faults.{Faults}
use Rattle.gl_wire.specs.declared.wire.Wire.{Wire}
use Rattle.gl_wire.specs.Costs.{CostsAtMost}
use Rattle.gl_wire.specs.Faults.{AreBoth}
use Rattle.gl_wire.specs.Gates.{IsGate}
use Rattle.gl_wire.specs.Spills.{no_lines}
use Rattle.gl_wire.specs.Stages.{IsPad}
use Rattle.gl_wire.specs.Wire.{carried, widths, wire_of}
use Rattle.gl_wire.proofs.ColumnLemmas.{wire_kept}
use Rattle.gl_queue.specs.MergeLines.{AreChosenOf}
use Rattle.gl_queue.proofs.MergeLinesLemmas.{shown_is}
use Rattle.gl_turns.specs.Blocks.{AreTurnsIn, AreTurnsOf, cost_of_turns}
use Rattle.gl_turns.specs.TurnFigures.{left_wait, right_wait, turn_figures, waits}
use Rattle.gl_turns.specs.TurnLines.{IsTurnOf}
use Rattle.gl_turns.specs.Turns.{ArrivalsInterleave, ServesInTurn, TurnsLeaveNext, TurnsServe}
use Rattle.gl_turns.proofs.TurnServes.{waiting_leave_next, waiting_serve}

-- a gate, a choice and a stage
pub turn_is : (old n1 n2 new : Net) (left right out : Wire) (valid : Bit) (columns : List Bus) → IsGate old n1 (λ x y. x || y) left.valid right.valid valid
    → AreChosenOf n1 n2 left.valid left.columns right.columns columns → IsPad n2 new 1 (wire_of valid right.eos columns) out → IsTurnOf old new left right out
turn_is old n1 n2 new left right out valid columns gate chosen pad =
    let wide : length (widths columns) ≡ length (widths left.columns) = ap length chosen.same_widths in
    let bits : sum (widths columns) ≡ sum (widths left.columns) = ap sum chosen.same_widths in
    record {
      keeps = keeps_then old n1 new gate.keeps (keeps_then n1 n2 new chosen.keeps pad.keeps);
      cost = record {
        nodes = omega (arith, gate.cost.nodes, chosen.cost.nodes, pad.cost.nodes, wide);
        registers = omega (arith, gate.cost.registers, chosen.cost.registers, pad.cost.registers, bits);
        memories = omega (arith, gate.cost.memories, chosen.cost.memories, pad.cost.memories);
      };
      wire = pad.wire;
      same_widths = pad.same_widths ∙ chosen.same_widths;
      turns = λ run r.
          let at_2 = pad.keeps.runs run r in
          let at_1 = chosen.keeps.runs run at_2 in
          let late = pad.delayed run r in
          record {
            before = late.before;
            no_end = late.no_end;
            tuples = λ c. late.tuples c ∙ shown_is run valid left.valid right.valid left.columns right.columns columns (gate.line run at_1) (chosen.chosen run at_2) c;
            ends = late.ends;
          };
    }

all_lines : (l r n : ℕ) → (n + 2) * (l + r + 2) + 1 ≡ l * (n + 2) + r * (n + 2) + 2 * n + 5
all_lines l r n = omega arith

all_bits : (l r w : ℕ) → (w + 2) * (l + r + 1) ≡ l * (w + 2) + r * (w + 2) + w + 2
all_bits l r w = omega arith

module _ (serve : TurnsServe) (next : TurnsLeaveNext) (interleave : ArrivalsInterleave) (old n1 n2 n3 new : Net) (p q : Figures) (a b : Emitted) (first second out : Wire) (faults : Faults)
    (sound_p : IsSound p) (sound_q : IsSound q) (same : widths a.wire.columns ≡ widths b.wire.columns)
    (pad_a : IsPad old n1 (left_wait p q) a.wire first) (pad_b : IsPad n1 n2 (right_wait p q) b.wire second) (turn : IsTurnOf n2 n3 first second out)
    (told : AreBoth n3 new a.faults b.faults faults) where
  abbrev columns : List ℕ
  columns = widths a.wire.columns

  costs : CostsAtMost old new (cost_of_turns p q columns)
  costs = record {
    nodes = omega (arith, pad_a.cost.nodes, pad_b.cost.nodes, turn.cost.nodes, told.cost.nodes, long, long_b, all);
    registers = omega (arith, pad_a.cost.registers, pad_b.cost.registers, turn.cost.registers, told.cost.registers, wide, wide_b, bits);
    memories = omega (arith, pad_a.cost.memories, pad_b.cost.memories, turn.cost.memories, told.cost.memories);
  }
    where
      long : length (widths first.columns) ≡ length columns
      long = ap length pad_a.same_widths

      long_b : right_wait p q * (length (widths b.wire.columns) + 2) ≡ right_wait p q * (length columns + 2)
      long_b = ap (λ (xs : List ℕ). right_wait p q * (length xs + 2)) (sym same)

      wide : sum (widths first.columns) ≡ sum columns
      wide = ap sum pad_a.same_widths

      wide_b : right_wait p q * (sum (widths b.wire.columns) + 2) ≡ right_wait p q * (sum columns + 2)
      wide_b = ap (λ (xs : List ℕ). right_wait p q * (sum xs + 2)) (sym same)

      all : (length columns + 2) * (waits p q + 2) + 1 ≡ left_wait p q * (length columns + 2) + right_wait p q * (length columns + 2) + 2 * length columns + 5
      all = all_lines (left_wait p q) (right_wait p q) (length columns)

      bits : (sum columns + 2) * (waits p q + 1) ≡ left_wait p q * (sum columns + 2) + right_wait p q * (sum columns + 2) + sum columns + 2
      bits = all_bits (left_wait p q) (right_wait p q) (sum columns)

  turns : (run : Run) → IsRun new run → AreTurnsIn run p q a b (record { wire = out; faults = faults })
  turns run r =
      let at_3 = told.keeps.runs run r in
      let at_2 = turn.keeps.runs run at_3 in
      let left = pad_a.delayed run (pad_b.keeps.runs run at_2) in
      let right = pad_b.delayed run at_2 in
      let both = turn.turns run at_3 in
      record {
        first = carried run first;
        second = carried run second;
        left_waits = left;
        right_waits = right;
        turns = both;
        next = waiting_leave_next p q (carried run a.wire) (carried run b.wire) (carried run first) (carried run second) (carried run out) sound_p sound_q left right both next;
      }

  in_order : (run : Run) → IsRun new run → ServesInTurn p q (turn_figures p q) (carried run a.wire) (carried run b.wire) (carried run out)
  in_order run r =
      let t = turns run r in
      waiting_serve p q (carried run a.wire) (carried run b.wire) t.first t.second (carried run out) sound_p sound_q t.left_waits t.right_waits t.turns serve

  pub turns_of : AreTurnsOf old new p q a b (record { wire = out; faults = faults })
  turns_of = record {
    behind = record {
      keeps = keeps_then old n1 new pad_a.keeps (keeps_then n1 n2 new pad_b.keeps (keeps_then n2 n3 new turn.keeps told.keeps));
      cost = costs;
      wire = wire_kept n3 new out told.keeps turn.wire;
      same_widths = turn.same_widths ∙ pad_a.same_widths;
      lines = told.are;
      paced = λ run r. tt;
      serves = λ run r.
          let both = told.lines run r in (
            no_lines,
            record { passed = λ c. both.passed c ∙ sym (or_none _); further = λ c. both.further c ∙ sym (or_none _) },
            interleave p q (turn_figures p q) (carried run a.wire) (carried run b.wire) (carried run out) (in_order run r),
          );
    };
    turns = turns;
    in_order = in_order;
  }
