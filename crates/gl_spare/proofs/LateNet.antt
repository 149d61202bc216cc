-- From the parts of a circuit with late ends to what it gives.
use Rattle.std.proofs.Common.{◌≡◌, ℕ, zero, suc, ◌+◌, ◌-◌, ◌≤◌, List, length, Some, None, Bool, true, false, not, ◌&&◌, ◌||◌, refl, sym, ap, ◌∙◌, arith}
use Rattle.std.specs.Prelude.{if◌then◌else◌}
use Rattle.gl_bits.proofs.AllLists.{length_map}
use Rattle.gl_net.specs.declared.node.Bit.{Bit}
use Rattle.gl_net.specs.declared.node.Bus.{Bus}
use Rattle.gl_net.specs.Net.{Net, Run, IsRun, Keeps}
use Rattle.gl_net.proofs.Determined.{keeps_then}
use Rattle.gl_wire.specs.declared.wire.Wire.{Wire}
use Rattle.gl_wire.specs.Gates.{IsGate}
use Rattle.gl_wire.specs.Wire.{IsWire, carried, line_at, row_at, tuple_at, widths}
use Rattle.gl_wire.proofs.ColumnLemmas.{bit_kept, same_length}
use Rattle.gl_wire_registers.specs.Backs.{ChoosesRow}
use Rattle.gl_wire_registers.specs.Counters.{IsLatch}
use Rattle.gl_wire_registers.specs.Rows.{HoldsRow}
use Rattle.gl_wire_registers.specs.Timers.{IsClose, IsCloseLine}
use Rattle.gl_wire_registers.specs.Timers as plain
use Rattle.gl_spare.specs.LateEnds.{AreLateLines}
use Rattle.gl_spare.proofs.LineLemmas.{late_lines_are_late}
use Rattle.gl_spare.specs.LateWires.{AddsLate}

module _ (n0 n1 n2 n3 n4 n5 n6 n7 n8 : Net) (w : Wire) (shift cycles : ℕ) (some : 1 ≤ shift) (is : cycles ≡ shift - 1) (wire : IsWire n0 w)
    (fired alone with_end had last valid : Bit) (held columns : List Bus)
    (c : IsCloseLine n0 n1 cycles 0 w.eos fired) (al : IsGate n1 n2 (λ x y. x && not y) w.valid w.eos alone) (we : IsGate n2 n3 (λ x y. x && y) w.eos w.valid with_end)
    (la : IsLatch n3 n4 with_end w.eos had) (h : HoldsRow n4 n5 w.valid w.columns held) (ls : IsGate n5 n6 (λ x y. x && y) fired had last)
    (v : IsGate n6 n7 (λ x y. x || y) alone last valid) (ch : ChoosesRow n7 n8 fired held w.columns columns) where
  k78 : Keeps n7 n8
  k78 = ch.keeps

  k68 : Keeps n6 n8
  k68 = keeps_then n6 n7 n8 v.keeps k78

  k58 : Keeps n5 n8
  k58 = keeps_then n5 n6 n8 ls.keeps k68

  k48 : Keeps n4 n8
  k48 = keeps_then n4 n5 n8 h.keeps k58

  k38 : Keeps n3 n8
  k38 = keeps_then n3 n4 n8 la.keeps k48

  k28 : Keeps n2 n8
  k28 = keeps_then n2 n3 n8 we.keeps k38

  k18 : Keeps n1 n8
  k18 = keeps_then n1 n2 n8 al.keeps k28

  abbrev out : Wire
  out = record { valid = valid; eos = fired; columns = columns }

  close_of : (run : Run) → IsClose cycles (cycles + 1 + 0) (line_at run w.eos) (line_at run fired) → plain.IsClose (shift - 1) shift (line_at run w.eos) (line_at run fired)
  close_of run x =
      let e : cycles + 1 + 0 ≡ shift = omega (arith, is, some) in
      record {
        before = λ t l. x.before t (omega (arith, l, e));
        later = λ apart t. ap (λ (n : ℕ). line_at run fired (t + n)) (sym e) ∙ x.later (λ u d p q l. let z = apart u d p q l in omega (arith, z, is)) t;
      }

  lines : (run : Run) → IsRun n8 run → AreLateLines shift (carried run w) (carried run out) (line_at run w.valid) (line_at run had) (line_at run fired) (λ t. row_at run t w.columns) (λ t. row_at run t held)
  unfolding tuple_at line_at
  lines run r = record {
    tuple = λ t. refl;
    no_tuple = refl;
    no_end = refl;
    fired' = close_of run (c.close run (k18.runs run r));
    had' = λ t. la.line run (k48.runs run r) t ∙ ap (λ (b : Bool). b || (line_at run had t && not (line_at run w.eos t))) (we.line run (k38.runs run r) t);
    row' = h.row run (k58.runs run r);
    out_tuple = outs;
    out_end = λ t. refl;
  }
    where
      test : (t : ℕ) → line_at run valid t ≡ ((line_at run w.valid t && not (line_at run w.eos t)) || (line_at run fired t && line_at run had t))
      test t =
          v.line run (k78.runs run r) t
          ∙ ap (λ (b : Bool). b || line_at run last t) (al.line run (k28.runs run r) t)
          ∙ ap (λ (b : Bool). (line_at run w.valid t && not (line_at run w.eos t)) || b) (ls.line run (k68.runs run r) t)

      if_row : (b : Bool) (x y : List ℕ) → (if b then Some x else Some y) ≡ Some (if b then x else y)
      if_row true x y = refl
      if_row false x y = refl

      outs : (t : ℕ) → tuple_at run valid columns t ≡ (if (line_at run w.valid t && not (line_at run w.eos t)) || (line_at run fired t && line_at run had t) then Some (if line_at run fired t then row_at run t held else row_at run t w.columns) else None)
      outs zero = refl
      outs (suc t) =
          ap (λ (b : Bool). if b then Some (row_at run (suc t) columns) else None) (test (suc t))
          ∙ ap (λ (x : List ℕ). if (line_at run w.valid (suc t) && not (line_at run w.eos (suc t))) || (line_at run fired (suc t) && line_at run had (suc t)) then Some x else None) (ch.row run r t)

  pub late_adds : AddsLate n0 n8 shift w out
  late_adds = record {
    keeps = keeps_then n0 n1 n8 c.keeps k18;
    cost = record {
      nodes = omega (arith, c.cost.nodes, al.cost.nodes, we.cost.nodes, la.cost.nodes, h.cost.nodes, ls.cost.nodes, v.cost.nodes, ch.cost.nodes, held_length);
      registers = omega (arith, c.cost.registers, al.cost.registers, we.cost.registers, la.cost.registers, h.cost.registers, ls.cost.registers, v.cost.registers, ch.cost.registers, c.few);
      memories = omega (arith, c.cost.memories, al.cost.memories, we.cost.memories, la.cost.memories, h.cost.memories, ls.cost.memories, v.cost.memories, ch.cost.memories);
    };
    wire = record { valid = bit_kept n7 n8 valid k78 v.bit; eos = bit_kept n1 n8 fired k18 c.bit; columns = ch.buses };
    same_widths = ch.same_widths ∙ h.same_widths;
    late' = λ run r quiet. late_lines_are_late shift (carried run w) (carried run out) (line_at run w.valid) (line_at run had) (line_at run fired) (λ t. row_at run t w.columns) (λ t. row_at run t held) some (lines run r) quiet;
  }
    where
      held_length : length held ≡ length (widths w.columns)
      held_length = same_length held w.columns h.same_widths ∙ widths_length w.columns
        where
          widths_length : (bs : List Bus) → length bs ≡ length (widths bs)
          widths_length bs = sym (length_map (λ (b : Bus). b.width) bs)
