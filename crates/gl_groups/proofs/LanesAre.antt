-- A lane in a netlist, from its parts.
use Rattle.std.proofs.Common.{◌≡◌, ℕ, ◌+◌, ◌*◌, ◌<◌, ◌≤◌, ◌^◌, List, length, Some, sym, ap, ◌∙◌, arith}
use Rattle.std.specs.Prelude.{slice_get, slice_index}
use Rattle.gl_bits.proofs.AllLists.{length_map}
use Rattle.gl_net.specs.declared.node.Bus.{Bus}
use Rattle.gl_net.specs.Net.{Net, Run, IsRun, Keeps}
use Rattle.gl_net.proofs.Determined.{keeps_then}
use Rattle.gl_wire.specs.declared.wire.Wire.{Wire}
use Rattle.gl_wire.specs.Wire.{widths}
use Rattle.gl_wire.proofs.ColumnLemmas.{bit_kept, bus_kept, buses_kept}
use Rattle.gl_wire_registers.proofs.LineLemmas.{bits_kept, gates_some}
use Rattle.gl_groups.specs.declared.finding.SlotsFound.{SlotsFound}
use Rattle.gl_groups.specs.declared.lane.HeldEnd.{HeldEnd}
use Rattle.gl_groups.specs.declared.lane.LaneLines.{LaneLines}
use Rattle.gl_groups.specs.declared.lane.Over.{Over}
use Rattle.gl_groups.specs.declared.lane.Told.{Told}
use Rattle.gl_slots.specs.declared.parts.Flush.{Flush}
use Rattle.gl_groups.specs.Finding.{AddsSlotsFound}
use Rattle.gl_groups.specs.Lanes.{AddsHeldEnd, AddsLane, AddsLate, AddsOver, AddsTold}
use Rattle.gl_slots.specs.Parts.{AddsFlush}
use Rattle.gl_groups.proofs.LaneNet.{lane_is}
use Rattle.gl_groups.proofs.LaneRun.{Running, asking_of, turns_of}
use Rattle.gl_groups.proofs.AskedNet.{asked_is}
use Rattle.gl_slots.proofs.PartLemmas.{width_there}

-- as many columns, by their widths
pub columns_as_many : (xs ys : List Bus) (k : ℕ) → widths ys ≡ widths xs → k < length xs → k < length ys
columns_as_many xs ys k same l = omega (arith, l, sym (length_map (λ (b : Bus). b.width) ys) ∙ ap length same ∙ length_map (λ (b : Bus). b.width) xs)

module _ (n0 n1 n2 n3 n4 n5 n6 : Net) (source late : Wire) (key count stride width : ℕ) (some : 1 ≤ count) (apart : 1 ≤ stride) (fits : count ≤ 2 ^ width) (f : Flush) (h : HeldEnd) (o : Over) (last here : Bus) (r : SlotsFound) (m : Told)
    (at_last : slice_get late.columns key ≡ Some last) (at_here : slice_get source.columns key ≡ Some here)
    (is_late : AddsLate n0 n1 source late) (is_f : AddsFlush n1 n2 late.valid late.eos stride f) (is_h : AddsHeldEnd n2 n3 late.valid late.eos h) (is_o : AddsOver n3 n4 late.eos f.due count (width + 1) o)
    (is_r : AddsSlotsFound n4 n5 (asking_of source late f last here) count (width + 1) r) (is_m : AddsTold n5 n6 late r.sought (turns_of f h o) width m) where
  k5 : Keeps n5 n6
  k5 = is_m.keeps

  k4 : Keeps n4 n6
  k4 = keeps_then n4 n5 n6 is_r.keeps k5

  k3 : Keeps n3 n6
  k3 = keeps_then n3 n4 n6 is_o.keeps k4

  k2 : Keeps n2 n6
  k2 = keeps_then n2 n3 n6 is_h.keeps k3

  k1 : Keeps n1 n6
  k1 = keeps_then n1 n2 n6 is_f.keeps k2

  running : (run : Run) → IsRun n6 run → Running
  running run z = record {
    run = run;
    source = source;
    late = late;
    key = key;
    count = count;
    stride = stride;
    width = width;
    some' = some;
    apart = apart;
    fits = fits;
    f = f;
    h = h;
    o = o;
    last = last;
    here = here;
    r = r;
    m = m;
    at_last = at_last;
    is_late = is_late.law run (k1.runs run z);
    is_f = is_f.law run (k2.runs run z);
    with_end = is_h.with_end run (k3.runs run z);
    held = is_h.next run (k3.runs run z);
    rest = is_o.next run (k4.runs run z);
    over = is_o.over run (k4.runs run z);
    is_r = is_r.law run (k5.runs run z) (asked_is run source late key f last here at_last at_here (is_late.law run (k1.runs run z)));
    is_m = is_m.law run z;
  }

  abbrev lines : LaneLines
  lines = record { wire = record { valid = m.row; eos = m.end; columns = late.columns }; slot = m.slot; first = m.first; keys = r.sought.keys; nexts = r.sought.asked.nexts; here = last; further = r.sought.passes }

  here_width : last.width ≡ slice_index (widths source.columns) key
  here_width = width_there late.columns key last at_last ∙ ap (λ ws. slice_index ws key) is_late.same_widths

  pub lanes_are : AddsLane n0 n6 key count stride width source lines
  unfolding running
  lanes_are =
      let g = gates_some count some in
      let bits : count * (last.width + 2) ≡ count * (slice_index (widths source.columns) key + 2) = ap (λ n. count * (n + 2)) here_width in
      record {
        keeps = keeps_then n0 n1 n6 is_late.keeps k1;
        cost = record {
          nodes = omega (arith, is_late.cost.nodes, is_f.cost.nodes, is_h.cost.nodes, is_o.cost.nodes, is_r.cost.nodes, is_m.cost.nodes, g, some);
          registers = omega (arith, is_late.cost.registers, is_f.cost.registers, is_h.cost.registers, is_o.cost.registers, is_r.cost.registers, is_m.cost.registers, bits, is_f.few);
          memories = omega (arith, is_late.cost.memories, is_f.cost.memories, is_h.cost.memories, is_o.cost.memories, is_r.cost.memories, is_m.cost.memories);
        };
        wire = record { valid = is_m.row_bit; eos = is_m.end_bit; columns = buses_kept n1 n6 late.columns k1 is_late.wire.columns };
        same_widths = is_late.same_widths;
        slot = is_m.slot_bus;
        slot_width = is_m.slot_width;
        first = is_m.first_bit;
        keys_count = is_r.are.keys_count;
        keys = λ k b e. (bus_kept n5 n6 b k5 (is_r.are.keys.each k b e), is_r.are.keys_width k b e ∙ here_width);
        nexts_count = is_r.are.nexts_count;
        nexts = bits_kept n5 n6 r.sought.asked.nexts k5 is_r.are.nexts;
        here_bus = bus_kept n1 n6 last k1 (is_late.wire.columns.each key last at_last);
        here_width = here_width;
        further = bit_kept n5 n6 r.sought.passes k5 is_r.are.passes;
        law = λ run z. lane_is (running run z);
      }
