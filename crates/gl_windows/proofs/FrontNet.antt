-- The parts of the front together are the machine.
use Rattle.std.proofs.Common.{◌≡◌, ℕ, zero, suc, ◌-◌, ◌<◌, ◌≤◌, List, length, Some, None, Bool, true, false, refl, sym, ap, ◌∙◌, subst, arith}
use Rattle.std.specs.Prelude.{nat_eq, not, ◌&&◌, ◌||◌, if◌then◌else◌}
use Rattle.std.proofs.Math.Nat.{zero-mod}
use Rattle.std.proofs.lemmas.Bool.{and_right}
use Rattle.gl_values.specs.Results.{Row}
use Rattle.gl_bits.proofs.Bools.{eq_turned}
use Rattle.gl_net.specs.declared.node.Bus.{Bus}
use Rattle.gl_net.specs.declared.node.Bit.{Bit}
use Rattle.gl_net.specs.Net.{Net, Run, Keeps}
use Rattle.gl_net.proofs.Determined.{keeps_then}
use Rattle.gl_wire.specs.declared.wire.Wire.{Wire}
use Rattle.gl_wire.specs.Gates.{IsGate}
use Rattle.gl_wire.specs.Wire.{carried, line_at, row_at, tuple_at, widths}
use Rattle.gl_windows.specs.Front.{Front, IsFront, start, states, closes, oldest}
use Rattle.gl_wire_registers.specs.Held.{held_at, counted_down, turned}
use Rattle.gl_wire_registers.specs.declared.lines.LineOp.TheVariants.{Both, Either}
use Rattle.gl_wire_registers.specs.Lines.{line_of, carried_of, pointed, pairs, with_line, AddsLines}
use Rattle.gl_wire_registers.specs.Counters.{IsPointer}
use Rattle.gl_wire_registers.specs.Rows.{AddsWires, HoldsRow}
use Rattle.gl_wire_registers.proofs.LineLemmas.{any_same, line_of-first}
use Rattle.gl_windows.specs.Turns.{AddsRotation, Rotating}
use Rattle.gl_windows.specs.Rotations.{AreFronts}
use Rattle.gl_windows.specs.Parts.{IsOpening, IsFlush, IsTrigger, IsTail, TakesOf, AddsOpening, AddsFlush, AddsTrigger, AddsTail}
use Rattle.gl_windows.specs.Values.{Values, idle_of, trigger_of, mid_of, end_of, valid_of, Steps, Mirrors}
use Rattle.gl_windows.specs.declared.parts.Opening.{Opening}
use Rattle.gl_windows.specs.declared.parts.Flush.{Flush}
use Rattle.gl_windows.specs.declared.parts.Trigger.{Trigger}
use Rattle.gl_windows.specs.declared.parts.Tail.{Tail}
use Rattle.gl_windows.specs.declared.turns.OpenCopies.{OpenCopies}
use Rattle.gl_windows.proofs.MachineLemmas.{mirrors_next, taken_is, end_is}

pub takes_of : (n0 n1 n2 n3 n4 : Net) (valid eos tail alone : Bit) (mids ends each last takes : List Bit) → IsGate n0 n1 (λ p q. p && not q) valid eos alone → length ends ≡ length mids
    → AddsLines n1 n2 (length mids) 1 each (with_line Both mids alone) → AddsLines n2 n3 (length ends) 1 last (with_line Both ends tail) → AddsLines n3 n4 (length each) 1 takes (pairs Either each last)
    → TakesOf n0 n4 valid eos tail mids ends takes
unfolding with_line pairs
takes_of n0 n1 n2 n3 n4 valid eos tail alone mids ends each last takes g count a b c =
    let k34 = c.keeps in
    let k24 = keeps_then n2 n3 n4 b.keeps c.keeps in
    let k14 = keeps_then n1 n2 n4 a.keeps k24 in
    record {
      keeps = keeps_then n0 n1 n4 g.keeps k14;
      count = c.count ∙ a.count;
      bits = c.bits;
      cost = record {
        nodes = omega (arith, g.cost.nodes, a.cost.nodes, b.cost.nodes, c.cost.nodes, a.count, count);
        registers = omega (arith, g.cost.registers, a.cost.registers, b.cost.registers, c.cost.registers);
        memories = omega (arith, g.cost.memories, a.cost.memories, b.cost.memories, c.cost.memories);
      };
      line = λ run r k t l.
          c.line run r k t (omega (arith, l, a.count))
          ∙ ap (λ q. q || line_of run last k t) (a.line run (k24.runs run r) k t l ∙ ap (λ q. line_of run mids k t && q) (g.line run (k14.runs run r) t))
          ∙ ap (λ q. (line_of run mids k t && (line_at run valid t && not (line_at run eos t))) || q) (b.line run (k34.runs run r) k t (omega (arith, l, count)));
    }

module _ (run : Run) (w : Wire) (size advance count stride : ℕ) (hs : 1 ≤ size) (ha : 1 ≤ advance) (hc : 1 ≤ count)
    (o : Opening) (f : Flush) (g : Trigger) (h : Tail) (opened : Bus) (r : OpenCopies) (row : List Bus) (takes : List Bit) (ins : List Wire)
    (is_o : IsOpening run w.valid w.eos 0 advance o) (is_f : IsFlush run w.valid w.eos stride f) (is_g : IsTrigger run w.valid w.eos f.due size advance g) (is_h : IsTail run w.valid w.eos f.idle h)
    (is_opened : (t : ℕ) → (held_at 0 run opened t ≤ count - 1) × (held_at 0 run opened (suc t) ≡ turned (count - 1) (line_at run o.opens t) (held_at 0 run opened t)))
    (is_r : Rotating run count 0 0 o.opens opened g.trigger r)
    (is_row : (t : ℕ) → row_at run (suc (suc t)) row ≡ (if line_at run w.valid (suc t) then row_at run (suc t) w.columns else row_at run (suc t) row))
    (is_takes : (k t : ℕ) → k < count → line_of run takes k t ≡ ((line_of run r.mids k t && (line_at run w.valid t && not (line_at run w.eos t))) || (line_of run r.ends k t && line_at run h.tail t)))
    (first_tuple : (k : ℕ) → k < count → (carried_of run ins k).tuple 0 ≡ None)
    (first_end : (k : ℕ) → k < count → (carried_of run ins k).ends 0 ≡ false)
    (later_tuple : (k t : ℕ) → k < count → (carried_of run ins k).tuple (suc t) ≡ (if line_of run takes k t then Some (row_at run (suc t) row) else None))
    (later_end : (k t : ℕ) → k < count → (carried_of run ins k).ends (suc t) ≡ line_of run r.ends k t) where
  -- the registers in a cycle
  abbrev at : ℕ → Values
  at c = record {
    until = held_at 0 run o.until c;
    left = held_at (size - 1) run g.left c;
    opened = held_at 0 run opened c;
    oldest = held_at 0 run r.oldest c;
    flags = λ k. line_of run r.flags k c;
    flush = line_at run f.flush c;
    wait = held_at 0 run f.wait c;
    held = line_at run h.held c;
    row = row_at run c row;
  }

  abbrev e : ℕ → Bool
  e c = line_at run w.eos c

  abbrev v : ℕ → Bool
  v c = line_at run w.valid c

  abbrev x : ℕ → Row
  x c = row_at run c w.columns

  idle_is : (c : ℕ) → line_at run f.idle c ≡ idle_of (v c) (at c)
  idle_is c = is_f.idle c

  trigger_is : (c : ℕ) → line_at run g.trigger c ≡ trigger_of (e c) (v c) (at c)
  trigger_is c =
      is_g.trigger c
      ∙ ap (λ b. e c || ((v c && nat_eq (held_at (size - 1) run g.left c) 0) || b)) (is_f.due c ∙ ap (λ b. b && nat_eq (held_at 0 run f.wait c) 0) (idle_is c))

  mids_are : (k c : ℕ) → k < count → line_of run r.mids k c ≡ mid_of (v c) (at c) k
  unfolding pointed
  mids_are k c l = is_r.mid k c l ∙ ap (λ b. line_of run r.flags k c || (b && nat_eq (held_at 0 run opened c) k)) (is_o.opens c)

  ends_are : (k c : ℕ) → k < count → line_of run r.ends k c ≡ end_of (e c) (v c) (at c) k
  unfolding pointed
  ends_are k c l =
      is_r.end k c l ∙ ap (λ b. (b && nat_eq (held_at 0 run r.oldest c) k) && line_of run r.mids k c) (trigger_is c)
      ∙ ap (λ b. (trigger_of (e c) (v c) (at c) && nat_eq (held_at 0 run r.oldest c) k) && b) (mids_are k c l)

  takes_are : (k c : ℕ) → k < count → line_of run takes k c ≡ valid_of (e c) (v c) (at c) k
  takes_are k c l =
      is_takes k c l ∙ ap (λ b. (b && (v c && not (e c))) || (line_of run r.ends k c && line_at run h.tail c)) (mids_are k c l)
      ∙ ap (λ b. (mid_of (v c) (at c) k && (v c && not (e c))) || (b && line_at run h.tail c)) (ends_are k c l)
      ∙ ap (λ b. (mid_of (v c) (at c) k && (v c && not (e c))) || (end_of (e c) (v c) (at c) k && b)) (is_h.tail c)
      ∙ ap (λ b. (mid_of (v c) (at c) k && (v c && not (e c))) || (end_of (e c) (v c) (at c) k && ((e c && v c) || ((b && line_at run h.held c) && not (e c))))) (idle_is c)

  -- in the reset cycle no copy is open, and reset opens none
  flag_next : (k c : ℕ) → k < count → line_of run r.flags k (suc c) ≡ (line_of run r.mids k c && not (line_of run r.ends k c))
  flag_next k zero l = is_r.flag_first k l ∙ and_right (nat_eq k (count - 1)) false refl ∙ sym (ap (λ b. b && not (line_of run r.ends k 0)) (line_of-first run r.mids k))
  flag_next k (suc c) l = is_r.flag k c l

  row_step : (c : ℕ) → (v c || line_at run f.flush c) ≡ true → row_at run (suc c) row ≡ (if v c then x c else row_at run c row)
  unfolding line_at
  row_step zero q = absurd (cc)
  row_step (suc c) q = is_row c

  steps : (c : ℕ) → Steps size advance count stride (e c) (v c) (x c) (at c) (at (suc c))
  steps c = record {
    until = is_o.next c;
    left = is_g.next c;
    opened = (is_opened c).1 ∙ ap (λ b. turned (count - 1) b (held_at 0 run opened c)) (is_o.opens c);
    oldest = is_r.oldest c ∙ ap (λ b. turned (count - 1) b (held_at 0 run r.oldest c)) (any_same count (λ k. line_of run r.ends k c) (end_of (e c) (v c) (at c)) (λ k l. ends_are k c l));
    flags = λ k l. flag_next k c l ∙ ap (λ b. b && not (line_of run r.ends k c)) (mids_are k c l) ∙ ap (λ b. mid_of (v c) (at c) k && not b) (ends_are k c l);
    flush = is_f.next c;
    wait = is_f.next_wait c ∙ ap (λ b. counted_down (stride - 1) (stride - 1) (e c) b (held_at 0 run f.wait c)) (idle_is c);
    held = is_h.next c;
    row = row_step c;
  }

  abbrev s : ℕ → Front
  s c = states size advance count stride (carried run w) c

  mirrors_first : Mirrors count (start size) (at 0)
  unfolding held_at line_at
  mirrors_first = record {
    until = refl;
    left = omega (arith, hs);
    opened = sym (zero-mod count);
    oldest = sym (zero-mod count);
    flags = λ k l. line_of-first run r.flags k;
    flush = refl;
    wait = refl;
    held = λ q. absurd (cc);
  }

  mirrors : (c : ℕ) → Mirrors count (s c) (at c)
  unfolding tuple_at
  mirrors zero = mirrors_first
  mirrors (suc c) = mirrors_next size advance count stride hs ha hc (e c) (v c) (x c) (s c) (at c) (mirrors c) (at (suc c)) (steps c)

  pub front_is : IsFront size advance count stride (carried run w) (carried_of run ins)
  unfolding tuple_at
  front_is = record {
    no_tuple = first_tuple;
    no_end = first_end;
    tuples = λ k c l.
        later_tuple k c l ∙ ap (λ (b : Bool). if b then Some (row_at run (suc c) row) else None) (takes_are k c l)
        ∙ sym (taken_is size advance count stride hs ha hc (e c) (v c) (x c) (s c) (at c) (mirrors c) (at (suc c)) (steps c) k l);
    ends = λ k c l.
        later_end k c l ∙ ends_are k c l ∙ end_is size advance count stride hs ha hc (e c) (v c) (x c) (s c) (at c) (mirrors c) k l
        ∙ ap (λ b. closes size advance count stride (carried run w) c && b) (eq_turned (oldest size advance count stride (carried run w) c) k);
  }

-- one after another the parts are a front
module _ (n0 n1 n2 n3 n4 n5 n6 n7 n8 n9 : Net) (w : Wire) (size advance count stride bits last : ℕ) (few : bits ≤ 32) (hs : 1 ≤ size) (ha : 1 ≤ advance) (hc : 1 ≤ count) (last_is : last ≡ count - 1)
    (o : Opening) (f : Flush) (g : Trigger) (h : Tail) (opened : Bus) (r : OpenCopies) (takes : List Bit) (row : List Bus) (ws : List Wire)
    (is_o : AddsOpening n0 n1 w.valid w.eos 0 advance o) (is_f : AddsFlush n1 n2 w.valid w.eos stride f) (is_g : AddsTrigger n2 n3 w.valid w.eos f.due size advance g)
    (is_h : AddsTail n3 n4 w.valid w.eos f.idle h) (is_p : IsPointer n4 n5 o.opens bits last opened) (is_r : AddsRotation n5 n6 count 0 0 o.opens opened g.trigger r)
    (is_t : TakesOf n6 n7 w.valid w.eos h.tail r.mids r.ends takes) (is_row : HoldsRow n7 n8 w.valid w.columns row) (is_w : AddsWires n8 n9 (length takes) takes r.ends row ws) where
  k79 : Keeps n7 n9
  k79 = keeps_then n7 n8 n9 is_row.keeps is_w.keeps

  k69 : Keeps n6 n9
  k69 = keeps_then n6 n7 n9 is_t.keeps k79

  k59 : Keeps n5 n9
  k59 = keeps_then n5 n6 n9 is_r.keeps k69

  k49 : Keeps n4 n9
  k49 = keeps_then n4 n5 n9 is_p.keeps k59

  k39 : Keeps n3 n9
  k39 = keeps_then n3 n4 n9 is_h.keeps k49

  k29 : Keeps n2 n9
  k29 = keeps_then n2 n3 n9 is_g.keeps k39

  k19 : Keeps n1 n9
  k19 = keeps_then n1 n2 n9 is_f.keeps k29

  takes_count : length takes ≡ count
  takes_count = is_t.count ∙ is_r.mids_count

  pub fronts_are : AreFronts n0 n9 size advance count stride w ws
  fronts_are = record {
    keeps = keeps_then n0 n1 n9 is_o.keeps k19;
    cost = record {
      nodes = omega (arith, is_o.cost.nodes, is_f.cost.nodes, is_g.cost.nodes, is_h.cost.nodes, is_p.cost.nodes, is_r.cost.nodes, is_t.cost.nodes, is_row.cost.nodes, is_w.cost.nodes, is_r.mids_count, takes_count);
      registers = omega (
        arith,
        is_o.cost.registers,
        is_f.cost.registers,
        is_g.cost.registers,
        is_h.cost.registers,
        is_p.cost.registers,
        is_r.cost.registers,
        is_t.cost.registers,
        is_row.cost.registers,
        is_w.cost.registers,
        takes_count,
        is_o.few,
        is_f.few,
        is_g.few,
        is_p.width,
        few,
      );
      memories = omega (arith, is_o.cost.memories, is_f.cost.memories, is_g.cost.memories, is_h.cost.memories, is_p.cost.memories, is_r.cost.memories, is_t.cost.memories, is_row.cost.memories, is_w.cost.memories);
    };
    as_many = is_w.count ∙ takes_count;
    wires = λ k x e. (is_w.wires k x e, ap widths (is_w.columns k x e) ∙ is_row.same_widths);
    front = λ run r9.
        front_is run w size advance count stride hs ha hc o f g h opened r row takes ws
        (is_o.law run (k19.runs run r9)) (is_f.law run (k29.runs run r9)) (is_g.law run (k39.runs run r9)) (is_h.law run (k49.runs run r9))
        (subst (λ (n : ℕ). (t : ℕ) → (held_at 0 run opened t ≤ n) × (held_at 0 run opened (suc t) ≡ turned n (line_at run o.opens t) (held_at 0 run opened t))) last_is (is_p.next run (k59.runs run r9)))
        (is_r.rotating run (k69.runs run r9))
        (is_row.row run (is_w.keeps.runs run r9))
        (λ k u l. is_t.line run (k79.runs run r9) k u (omega (arith, l, is_r.mids_count)))
        (λ k l. is_w.first_tuple run r9 k (omega (arith, l, takes_count)))
        (λ k l. is_w.first_end run r9 k (omega (arith, l, takes_count)))
        (λ k u l. is_w.tuple run r9 k u (omega (arith, l, takes_count)))
        (λ k u l. is_w.end run r9 k u (omega (arith, l, takes_count)));
  }
