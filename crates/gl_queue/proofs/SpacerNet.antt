-- A spacer behind a wire: what it costs, and what it serves.
use Rattle.std.proofs.Common.{◌≡◌, ℕ, zero, suc, ◌+◌, ◌*◌, ◌^◌, ◌≤◌, List, [], ◌∷◌, drop, length, Option, Some, refl, sym, ap, ◌∙◌, subst, arith}
use Rattle.std.specs.Prelude.{slice_get, slice_index_or}
use Rattle.std.specs.List.{sum}
use Rattle.std.proofs.lemmas.List.Sums.{sum_by-cons}
use Rattle.std.proofs.Math.Nat.{mul-le-mul_left}
use Rattle.gl_algebra.specs.Cost.{ring}
use Rattle.gl_algebra.specs.declared.figures.Figures.{Figures}
use Rattle.gl_algebra.specs.FigureTable.{IsSound}
use Rattle.gl_bits.proofs.Bools.{or_none}
use Rattle.gl_net.specs.declared.node.Bit.{Bit}
use Rattle.gl_net.specs.declared.node.Bus.{Bus}
use Rattle.gl_net.specs.Net.{Net, Run, IsRun, IsBit, IsBus}
use Rattle.gl_wire.specs.declared.wire.Wire.{Wire}
use Rattle.gl_wire.proofs.GateLemmas.{bit_of}
use Rattle.gl_bits.proofs.Options.{some_same}
use Rattle.gl_net.proofs.Determined.{keeps_then}
use Rattle.gl_wire.specs.declared.emitted.Emitted.{Emitted}
use Rattle.gl_wire.specs.Costs.{CostsAtMost}
use Rattle.gl_wire.specs.Faults.{AreLines, IsEither, line_of}
use Rattle.gl_wire.specs.Wire.{AreBuses, IsWire, carried, widths}
use Rattle.gl_wire.proofs.ColumnLemmas.{wire_kept}
use Rattle.gl_wire.proofs.FaultLemmas.{line_kept}
use Rattle.gl_queue.specs.declared.merge.Merged.{Merged}
use Rattle.gl_queue.specs.Merging.{only_passed}
use Rattle.gl_queue.specs.SpacerLines.{IsSpacedOf, bus_of}
use Rattle.gl_queue.specs.Spacers.{IsSpacerIn, IsSpacerOf, cost_of_spacer}
use Rattle.gl_queue.specs.Costs.{cost_of_queue}
use Rattle.gl_queue.proofs.QueueCosts.{IsLow, queue_low}
use Rattle.gl_queue.specs.Spacing.{SpacerServes, SpacerSpaces}

-- the two in front are lines
pub first_bit : (net : Net) (bs : List Bus) (d : Bus) (ws : List ℕ) (b : Bit) → AreBuses net bs → widths bs ≡ 1 ∷ 1 ∷ ws → b.node ≡ (slice_index_or bs 0 d).node → IsBit net b
first_bit net [] d ws b h w p = absurd (cc w)
first_bit net (v ∷ []) d ws b h w p = absurd (cc w)
first_bit net (v ∷ e ∷ rest) d ws b h w p = bit_of net v b (h.each 0 v refl) (cc w) p

pub second_bit : (net : Net) (bs : List Bus) (d : Bus) (ws : List ℕ) (b : Bit) → AreBuses net bs → widths bs ≡ 1 ∷ 1 ∷ ws → b.node ≡ (slice_index_or bs 1 d).node → IsBit net b
second_bit net [] d ws b h w p = absurd (cc w)
second_bit net (v ∷ []) d ws b h w p = absurd (cc w)
second_bit net (v ∷ e ∷ rest) d ws b h w p = bit_of net e b (h.each 1 e refl) (cc w) p

pub buses_behind : (net : Net) (v e : Bus) (rest : List Bus) → AreBuses net (v ∷ e ∷ rest) → AreBuses net rest
buses_behind net v e rest h = record { each = λ k b p. h.each (suc (suc k)) b p }

-- a wire's lines and columns are buses
line_bus : (net : Net) (b : Bit) → IsBit net b → IsBus net (bus_of b)
line_bus net b h = record { there = h.there; width = record { some' = omega arith; most = omega arith } }

pub lines_buses : (net : Net) (w : Wire) → IsWire net w → AreBuses net (bus_of w.valid ∷ bus_of w.eos ∷ w.columns)
lines_buses net w h = record { each = each }
  where
    each : (k : ℕ) (b : Bus) → slice_get (bus_of w.valid ∷ bus_of w.eos ∷ w.columns) k ≡ Some b → IsBus net b
    each zero b p = subst (IsBus net) (some_same (bus_of w.valid) b p) (line_bus net w.valid h.valid)
    each (suc zero) b p = subst (IsBus net) (some_same (bus_of w.eos) b p) (line_bus net w.eos h.eos)
    each (suc (suc k)) b p = h.columns.each k b p

as_bus : (v : Bus) (b : Bit) → v.width ≡ 1 → b.node ≡ v.node → v ≡ bus_of b
as_bus v b w p = ap (λ (n : ℕ). record v { width = n }) w ∙ ap (λ (n : ℕ). record v { width = 1; node = n }) (sym p)

-- the same columns, by the two lines
pub lines_in_front : (bs : List Bus) (d : Bus) (ws : List ℕ) (valid eos : Bit) → widths bs ≡ 1 ∷ 1 ∷ ws → valid.node ≡ (slice_index_or bs 0 d).node → eos.node ≡ (slice_index_or bs 1 d).node
    → (bs ≡ bus_of valid ∷ bus_of eos ∷ drop 2 bs) × (widths (drop 2 bs) ≡ ws)
lines_in_front [] d ws valid eos h p q = absurd (cc h)
lines_in_front (v ∷ []) d ws valid eos h p q = absurd (cc h)
lines_in_front (v ∷ e ∷ rest) d ws valid eos h p q =
    let x : v ≡ bus_of valid = as_bus v valid (cc h) p in
    let y : e ≡ bus_of eos = as_bus e eos (cc h) q in
    (ap (λ (b : Bus). b ∷ e ∷ rest) x ∙ ap (λ (b : Bus). bus_of valid ∷ b ∷ rest) y, cc h)

-- the bits of the two lines and the columns
pub lines_sum : (xs : List ℕ) → sum (1 ∷ 1 ∷ xs) ≡ sum xs + 2
lines_sum xs = sum_by-cons (λ (x : ℕ). x) 1 (1 ∷ xs) ∙ ap (λ (n : ℕ). 1 + n) (sum_by-cons (λ (x : ℕ). x) 1 xs) ∙ omega arith

cost_nodes : (lines n : ℕ) → 2 ≤ lines → 1 ≤ n → 36 + 2 * lines ≤ 8 * lines * (n + 6)
cost_nodes lines n l x =
    let six = mul-le-mul_left (8 * lines) (let z : 7 ≤ n + 6 = omega (arith, x) in z) in
    omega (arith, six, l)

module _ (spacer_serves : SpacerServes) (spacer_spaces : SpacerSpaces) (old mid new : Net) (g : ℕ) (f : Figures) (a : Emitted) (out : Merged) (passed : Option Bit) (sound : IsSound f) (one : 1 ≤ g) (small : f.ne + 1 ≤ 2 ^ 32) (lines : AreLines old a.faults)
    (m : IsSpacedOf old mid (f.ne + 1) g a.wire out) (line : IsEither mid new a.faults.passed (Some out.passed) passed) where
  abbrev columns : List ℕ
  columns = widths a.wire.columns

  costs : CostsAtMost old new (cost_of_spacer f columns)
  costs = record {
    nodes = omega (arith, m.cost.nodes, line.cost.nodes, low.nodes, long, cost_nodes (length columns + 2) f.ne (omega arith) sound.some);
    registers = omega (arith, m.cost.registers, line.cost.registers, low.registers, lines_sum columns);
    memories = omega (arith, m.cost.memories, line.cost.memories, low.memories, ap (λ (n : ℕ). ring (f.ne + 1) * n) (lines_sum columns));
  }
    where
      low : IsLow (f.ne + 1) (1 ∷ 1 ∷ columns) (cost_of_queue (f.ne + 1) (1 ∷ 1 ∷ columns))
      low = queue_low (f.ne + 1) (1 ∷ 1 ∷ columns) small

      long : length (1 ∷ 1 ∷ columns) ≡ length columns + 2
      long = omega arith

  spaces : (run : Run) → IsRun new run → IsSpacerIn run g f a (record { wire = out.wire; faults = record { passed = passed; further = a.faults.further } })
  spaces run r = record {
    passed = line_of run (Some out.passed);
    spacing = m.spacing run (line.keeps.runs run r);
    told = record { passed = line.line run r; further = λ c. sym (or_none _) };
  }

  pub spacer_of : IsSpacerOf old new g f a (record { wire = out.wire; faults = record { passed = passed; further = a.faults.further } })
  spacer_of = record {
    behind = record {
      keeps = keeps_then old mid new m.keeps line.keeps;
      cost = costs;
      wire = wire_kept mid new out.wire line.keeps m.wire;
      same_widths = m.same_widths;
      lines = record { passed = line.is; further = line_kept mid new a.faults.further line.keeps (line_kept old mid a.faults.further m.keeps lines.further) };
      serves = λ run r.
          let s = spaces run r in
          (only_passed s.passed, s.told, spacer_serves g f s.passed (carried run a.wire) (carried run out.wire) one sound s.spacing);
    };
    spaces = spaces;
    apart = λ run r. let s = spaces run r in spacer_spaces g f s.passed (carried run a.wire) (carried run out.wire) one sound s.spacing;
  }
