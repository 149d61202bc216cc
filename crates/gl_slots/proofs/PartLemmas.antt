-- The parts of a front, from the lines that they are made of.
use Rattle.std.proofs.Common.{◌≡◌, ℕ, zero, suc, ◌-◌, ◌^◌, ◌<◌, ◌≤◌, List, length, Some, refl, sym, ap, ◌∙◌, subst, arith}
use Rattle.std.specs.Prelude.{slice_get, slice_index, slice_index_or, nat_eq, not, ◌&&◌, ◌||◌, if◌then◌else◌}
use Rattle.std.proofs.lemmas.Option.{get_or_from_slice_get, slice_get-get_or}
use Rattle.gl_bits.proofs.AllLists.{get_mapped}
use Rattle.gl_net.specs.declared.node.Bus.{Bus}
use Rattle.gl_net.specs.declared.node.Bit.{Bit}
use Rattle.gl_net.specs.Net.{Net, Run, IsBus}
use Rattle.gl_net.proofs.Determined.{keeps_then}
use Rattle.gl_wire.specs.Gates.{IsGate}
use Rattle.gl_wire.specs.declared.wire.Wire.{Wire}
use Rattle.gl_wire.specs.Wire.{AreBuses, line_at, row_at, widths}
use Rattle.gl_wire.proofs.ColumnLemmas.{row_at-value}
use Rattle.gl_wire_registers.specs.Counters.{IsCounter}
use Rattle.gl_wire_registers.specs.Held.{counted_down, held_at}
use Rattle.gl_wire_registers.specs.declared.lines.LineOp.TheVariants.{Both, Either}
use Rattle.gl_wire_registers.specs.Lines.{AddsLines, line_of, pairs, with_line}
use Rattle.gl_wire_registers.specs.Numbers.{IsNumberOr}
use Rattle.gl_wire_registers.specs.Rows.{HoldsRow}
use Rattle.gl_slots.specs.declared.parts.Turns.{Turns}
use Rattle.gl_slots.specs.Fronts.{AddsTurning, AddsLookup, column_of}
use Rattle.gl_slots.specs.Parts.{AddsTurns, IsTurns, TakesOf, turned_at, turned_to}

pub turned_here : (run : Run) (count : ℕ) (x : Bit) (p : Bus) (k t : ℕ) → turned_at count x p k run t ≡ turned_to count x p run k t
unfolding turned_at turned_to
turned_here run count x p k t = refl

turns_law : (run : Run) (eos due trigger : Bit) (rest at : Bus) (count : ℕ)
    → ((t : ℕ) → held_at count run rest (suc t) ≡ counted_down (count - 1) 0 (line_at run eos t) (line_at run due t) (held_at count run rest t))
    → ((t : ℕ) → run.at (suc t) at.node ≡ (if line_at run eos (suc t) then count else run.at (suc t) rest.node))
    → ((t : ℕ) → line_at run trigger t ≡ (line_at run eos t || line_at run due t))
    → IsTurns run eos due count (record { rest = rest; at = at; trigger = trigger })
unfolding held_at
turns_law run eos due trigger rest at count next is_at is_trigger = record { next = next; at = is_at; trigger = is_trigger }

pub turns_are : (n0 n1 n2 n3 : Net) (eos due : Bit) (count all others bits : ℕ) (rest at : Bus) (trigger : Bit) → all ≡ count → others ≡ count - 1 → bits ≤ 32 → count < 2 ^ bits
    → IsCounter n0 n1 eos due bits all others 0 rest → IsNumberOr n1 n2 eos all rest at → IsGate n2 n3 (λ x y. x || y) eos due trigger
    → AddsTurns n0 n3 eos due count (record { rest = rest; at = at; trigger = trigger })
turns_are n0 n1 n2 n3 eos due count all others bits rest at trigger is_all is_others few fits a' b' c =
    let a = subst (λ (n : ℕ). IsCounter n0 n1 eos due bits count n 0 rest) is_others (subst (λ (n : ℕ). IsCounter n0 n1 eos due bits n others 0 rest) is_all a') in
    let b = subst (λ (n : ℕ). IsNumberOr n1 n2 eos n rest at) is_all b' in
    record {
      keeps = keeps_then n0 n1 n3 a.keeps (keeps_then n1 n2 n3 b.keeps c.keeps);
      at_bus = record { there = c.keeps.shapes at.node _ b.bus.there; width = b.bus.width };
      at_fits = subst (λ n. count < 2 ^ n) (sym (b.width ∙ a.width)) fits;
      trigger_bit = c.bit;
      cost = record {
        nodes = omega (arith, a.cost.nodes, b.cost.nodes, c.cost.nodes);
        registers = omega (arith, a.cost.registers, b.cost.registers, c.cost.registers, a.width);
        memories = omega (arith, a.cost.memories, b.cost.memories, c.cost.memories);
      };
      few = omega (arith, a.width, few);
      law = λ run r.
          let at_b = c.keeps.runs run r in
          turns_law run eos due trigger rest at count (a.next run (b.keeps.runs run at_b)) (b.value run at_b) (c.line run r);
    }

pub takes_of : (n0 n1 n2 n3 n4 : Net) (valid eos tail alone : Bit) (matches ends last may takes : List Bit) → IsGate n0 n1 (λ p q. p && not q) valid eos alone → length ends ≡ length matches
    → AddsLines n1 n2 (length ends) 1 last (with_line Both ends tail) → AddsLines n2 n3 (length last) 1 may (with_line Either last alone) → AddsLines n3 n4 (length matches) 1 takes (pairs Both matches may)
    → TakesOf n0 n4 valid eos tail matches ends takes
unfolding with_line pairs
takes_of n0 n1 n2 n3 n4 valid eos tail alone matches ends last may takes g count a b c =
    let k34 = c.keeps in
    let k24 = keeps_then n2 n3 n4 b.keeps c.keeps in
    let k14 = keeps_then n1 n2 n4 a.keeps k24 in
    record {
      keeps = keeps_then n0 n1 n4 g.keeps k14;
      count = c.count;
      bits = c.bits;
      cost = record {
        nodes = omega (arith, g.cost.nodes, a.cost.nodes, b.cost.nodes, c.cost.nodes, a.count, count);
        registers = omega (arith, g.cost.registers, a.cost.registers, b.cost.registers, c.cost.registers);
        memories = omega (arith, g.cost.memories, a.cost.memories, b.cost.memories, c.cost.memories);
      };
      line = λ run r k t l.
          c.line run r k t l
          ∙ ap (λ q. line_of run matches k t && q)
          (b.line run (k34.runs run r) k t (omega (arith, l, a.count, count)) ∙ ap (λ q. q || line_at run alone t) (a.line run (k24.runs run r) k t (omega (arith, l, count)))
          ∙ ap (λ q. (line_of run ends k t && line_at run tail t) || q) (g.line run (k14.runs run r) t));
    }

-- the slot whose turn it is, in each cycle: none has it in the reset cycle
turned_line : (run : Run) (eos due : Bit) (count : ℕ) (r : Turns) → IsTurns run eos due count r → (k t : ℕ)
    → turned_to count r.trigger r.at run k t ≡ ((line_at run eos t || line_at run due t) && nat_eq (if line_at run eos t then count else held_at count run r.rest t) (count - k))
unfolding turned_to line_at
turned_line run eos due count r is k zero = refl
turned_line run eos due count r is k (suc t) =
    ap (λ b. b && nat_eq (held_at 0 run r.at (suc t)) (count - k)) (is.trigger (suc t))
    ∙ ap (λ n. (line_at run eos (suc t) || line_at run due (suc t)) && nat_eq n (count - k)) (is.at t)

pub turning_is : (n0 n1 n2 : Net) (eos due : Bit) (count : ℕ) (lines : List Bit) (r : Turns) → AddsTurns n0 n1 eos due count r → AddsLines n1 n2 count 3 lines (turned_to count r.trigger r.at)
    → AddsTurning n0 n2 eos due count (record { rest = r.rest; turns = lines })
turning_is n0 n1 n2 eos due count lines r a b = record {
  keeps = keeps_then n0 n1 n2 a.keeps b.keeps;
  turns_count = b.count;
  bits = b.bits;
  cost = record {
    nodes = omega (arith, a.cost.nodes, b.cost.nodes);
    registers = omega (arith, a.cost.registers, b.cost.registers);
    memories = omega (arith, a.cost.memories, b.cost.memories);
  };
  few = a.few;
  law = λ run z.
      let law = a.law run (b.keeps.runs run z) in
      record { next = law.next; turn = λ k t l. b.line run z k t l ∙ turned_line run eos due count r law k t };
}

-- ---- the row that came last

-- the column at a place
pub column_is : (bs cs : List Bus) (k : ℕ) (d : Bus) → cs ≡ bs → k < length bs → slice_get bs k ≡ Some (slice_index_or cs k d)
column_is bs cs k d e l = ap (λ (xs : List Bus). slice_get xs k) (sym e) ∙ slice_get-get_or cs k d (subst (λ (xs : List Bus). k < length xs) (sym e) l)

pub column_there : (net : Net) (bs cs : List Bus) (k : ℕ) (d : Bus) → AreBuses net bs → cs ≡ bs → k < length bs → IsBus net (slice_index_or cs k d)
column_there net bs cs k d are e l = are.each k (slice_index_or cs k d) (column_is bs cs k d e l)

pub width_there : (bs : List Bus) (k : ℕ) (b : Bus) → slice_get bs k ≡ Some b → b.width ≡ slice_index (widths bs) k
width_there bs k b h = sym (get_or_from_slice_get (widths bs) k b.width 0 (get_mapped (λ (x : Bus). x.width) bs k b h))

pub lookup_is : (old new : Net) (w : Wire) (key : ℕ) (row : List Bus) (here : Bus) → HoldsRow old new w.valid w.columns row → slice_get w.columns key ≡ Some here → IsBus new here
    → AddsLookup old new w key (record { row = row; here = here })
unfolding held_at
lookup_is old new w key row here h has_here bus = record {
  keeps = h.keeps;
  row_buses = h.buses;
  row_widths = h.same_widths;
  here_bus = bus;
  here_width = width_there w.columns key here has_here;
  cost = h.cost;
  law = λ run r. record { row = h.row run r; here = here_is run };
}
  where
    here_is : (run : Run) → (t : ℕ) → held_at 0 run here (suc t) ≡ column_of key (row_at run (suc t) w.columns)
    here_is run t = sym (row_at-value run (suc t) w.columns key here has_here)
