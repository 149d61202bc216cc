-- A lane of a group, and what gathers the totals of its slots, from their parts.
use Rattle.std.proofs.Common.{◌≡◌, ℕ, zero, suc, ◌+◌, ◌*◌, ◌^◌, ◌<◌, ◌≤◌, List, ◌∷◌, length, Some, None, Bool, true, false, refl, sym, ap, ◌∙◌, subst, arith, eqb-true, eq-eqb}
use Rattle.std.specs.Prelude.{slice_index_or, nat_eq, ◌&&◌, if◌then◌else◌}
use Rattle.std.proofs.lemmas.Option.{slice_get-get_or}
use Rattle.std.proofs.lemmas.List.Sums.{sum_by-cons}
use Rattle.gl_algebra.specs.FigureTable.{stride_of}
use Rattle.gl_values.specs.Results.{Row}
use Rattle.gl_bits.proofs.Bools.{and_both, and_parts, same_when}
use Rattle.gl_net.specs.declared.node.Bit.{Bit}
use Rattle.gl_net.specs.declared.node.Bus.{Bus}
use Rattle.gl_net.specs.Net.{Net, Run, IsRun, Keeps, stored_of}
use Rattle.gl_net.proofs.Determined.{keeps_then}
use Rattle.gl_wire.specs.declared.wire.Wire.{Wire}
use Rattle.gl_wire.specs.Stages.{IsPad}
use Rattle.gl_wire.specs.Wire.{carried, line_at, row_at, tuple_at, widths, wire_of}
use Rattle.gl_wire.proofs.ColumnLemmas.{bit_kept, bus_kept, wire_kept}
use Rattle.gl_wire.proofs.StageLemmas.{delayed_same}
use Rattle.gl_wire_lanes.specs.declared.table.TableOut.{TableOut}
use Rattle.gl_wire_lanes.specs.Shares.{share, slot_of}
use Rattle.gl_wire_registers.specs.Held.{held_at}
use Rattle.gl_wire_lanes.specs.Memories.{IsHeld, IsStored}
use Rattle.gl_wire_registers.specs.Lines.{AddsLine, AddsLines, any_line, any_to, gates_of, held_of, line_of}
use Rattle.gl_wire_registers.specs.Timers.{IsClose, IsCloseLine}
use Rattle.gl_wire_registers.proofs.LineLemmas.{bits_kept, gates_some}
use Rattle.gl_groups.specs.declared.grouping.Grouping.{Grouping}
use Rattle.gl_groups.specs.declared.lane.LaneLines.{LaneLines}
use Rattle.gl_groups.specs.declared.laning.Lane.{Lane}
use Rattle.gl_slots.specs.Keys.{in_front}
use Rattle.gl_groups.specs.Groupings.{IsGrouping, close_cycles, close_delay}
use Rattle.gl_slots.specs.Joins.{AreKeyBuses, width_of_keys}
use Rattle.gl_groups.specs.Laned.{AddsKey, IsGathered, IsLaned, words_of_keys}
use Rattle.gl_groups.specs.Lanes.{AddsLane, IsLane}
use Rattle.gl_slots.specs.Picks.{AddsNumbers, AreAlike, PicksOne, bits_of_slots}
use Rattle.gl_slots.specs.SlotLines.{OneAtMost, TakeKeys, same_to}
use Rattle.gl_slots.proofs.OneLemmas.{any_here, any_there}
use Rattle.gl_slots.proofs.FurtherLemmas.{further_came}
use Rattle.gl_groups.proofs.GroupedNet.{setting_of}

-- ---- the lane

pub is_laned : (old mid new : Net) (r : Grouping) (source : Wire) (g : LaneLines) (close : Bit) (stride cycles width : ℕ) → stride ≡ stride_of r.body → cycles ≡ close_cycles r → width ≡ bits_of_slots r.slots → width ≤ 32
    → IsGrouping r → AddsLane old mid r.key r.slots stride width source g → IsCloseLine mid new cycles 0 source.eos close
    → IsLaned old new r source (record { wire = g.wire; slot = g.slot; first = g.first; close = close; keys = g.keys; nexts = g.nexts; here = g.here; further = g.further })
is_laned old mid new r source g close stride cycles width is_stride is_cycles is_width small is f c = record {
  keeps = keeps_then old mid new f.keeps c.keeps;
  cost = record {
    nodes = omega (arith, f.cost.nodes, c.cost.nodes);
    registers = omega (arith, f.cost.registers, c.cost.registers, c.few, is_width);
    memories = omega (arith, f.cost.memories, c.cost.memories);
  };
  bound = omega (arith, f.cost.registers, c.cost.registers, c.few, small);
  lane = record {
    wire = wire_kept mid new g.wire c.keeps f.wire;
    same_widths = f.same_widths;
    slot = bus_kept mid new g.slot c.keeps f.slot;
    slot_width = f.slot_width ∙ is_width;
    first = bit_kept mid new g.first c.keeps f.first;
    close = c.bit;
    keys_count = f.keys_count;
    keys = λ k b h. let x = f.keys k b h in (bus_kept mid new b c.keeps x.0, x.1);
    nexts_count = f.nexts_count;
    nexts = bits_kept mid new g.nexts c.keeps f.nexts;
    here_bus = bus_kept mid new g.here c.keeps f.here_bus;
    here_width = f.here_width;
    further = bit_kept mid new g.further c.keeps f.further;
    front = λ run z. (law run (f.law run (c.keeps.runs run z))).front;
    within = λ run z. (law run (f.law run (c.keeps.runs run z))).within;
    begins = λ run z awaits. (law run (f.law run (c.keeps.runs run z))).begins awaits;
    shown = λ run z. (law run (f.law run (c.keeps.runs run z))).shown;
    come = λ run z. (law run (f.law run (c.keeps.runs run z))).come;
    told = λ run z awaits n.
        (let l = law run (f.law run (c.keeps.runs run z)) in l.told n ∙ further_came (setting_of r (carried run source) (λ k. share (slot_of run g.slot) k (carried run g.wire)) is l.front awaits) n);
    closes = λ run z. ap_close run (subst (λ (n : ℕ). IsClose n (n + 1 + 0) (line_at run source.eos) (line_at run close)) is_cycles (c.close run z));
  };
}
  where
    law : (run : Run) → IsLane run r.key r.slots stride source g → IsLane run r.key r.slots (stride_of r.body) source g
    law run h = subst (λ (n : ℕ). IsLane run r.key r.slots n source g) is_stride h

    ap_close : (run : Run) → IsClose (close_cycles r) (close_cycles r + 1 + 0) (line_at run source.eos) (line_at run close) → IsClose (close_cycles r) (close_delay r) (line_at run source.eos) (line_at run close)
    ap_close run h = let e : close_cycles r + 1 + 0 ≡ close_delay r = omega arith in subst (λ (n : ℕ). IsClose (close_cycles r) n (line_at run source.eos) (line_at run close)) e h

-- ---- the keys in front

pub first_width : (net : Net) (keys ks : List Bus) (d : Bus) → ks ≡ keys → 1 ≤ length keys → AreKeyBuses net keys → (slice_index_or ks 0 d).width ≡ width_of_keys keys
first_width net keys ks d e some h = ap (λ (bs : List Bus). (slice_index_or bs 0 d).width) e ∙ h.same_width 0 (slice_index_or keys 0 d) (slice_get-get_or keys 0 d some)

pub alike_keys : (net : Net) (keys ks : List Bus) (d : Bus) → ks ≡ keys → 1 ≤ length keys → AreKeyBuses net keys → AreAlike net ((slice_index_or ks 0 d).width) ks
alike_keys net keys ks d e some h =
    subst (λ (bs : List Bus). AreAlike net ((slice_index_or ks 0 d).width) bs) (sym e)
    (record { each = h.each; widths = λ k b at. h.same_width k b at ∙ sym (first_width net keys ks d e some h) })

-- picked from the registers
module _ (n0 n1 n2 n3 : Net) (slots : ℕ) (l : Lane) (slot : Bus) (places : List Bus) (ls : List Bit) (p : Bus) (width bits : ℕ) (is_width : width ≡ width_of_keys l.keys) (count : length l.keys ≡ slots)
    (is_n : AddsNumbers n0 n1 (λ k. k) slots bits places) (is_l : AddsLines n1 n2 (length places) 1 ls (same_to slot places)) (is_p : PicksOne n2 n3 ls l.keys width (length ls * 2) p) where
  k23 : Keeps n2 n3
  k23 = is_p.keeps

  k13 : Keeps n1 n3
  k13 = keeps_then n1 n2 n3 is_l.keeps k23

  ls_count : length ls ≡ slots
  ls_count = is_l.count ∙ is_n.count

  module _ (run : Run) (z : IsRun n3 run) where
    -- the line of a slot tells whether it is the cycle's
    line_is : (k c : ℕ) → k < slots → line_of run ls k (suc c) ≡ nat_eq (slot_of run slot (suc c)) k
    unfolding same_to held_at
    line_is k c less =
        is_l.line run (k23.runs run z) k (suc c) (omega (arith, less, is_n.count))
        ∙ ap (nat_eq (run.at (suc c) slot.node)) (is_n.value run (k13.runs run z) k c less)

    key_is : (c : ℕ) → slot_of run slot (suc c) < slots → run.at (suc c) p.node ≡ held_of run l.keys (slot_of run slot (suc c)) (suc c)
    unfolding held_at
    key_is c less =
        let at = slot_of run slot (suc c) in
        let own : line_of run ls at (suc c) ≡ true = line_is at c less ∙ eq-eqb at at refl in
        (is_p.law run z (suc c)).one at (omega (arith, less, ls_count)) own
        (λ j m e. let there : j < slots = omega (arith, m, ls_count) in sym (eqb-true at j (sym (line_is j c there) ∙ e)))

  pub picked_is : AddsKey n0 n3 slots l slot 0 p
  picked_is = record {
    keeps = keeps_then n0 n1 n3 is_n.keeps k13;
    bus = is_p.bus;
    same_width = is_p.same_width ∙ is_width;
    cost = record {
      nodes = omega (arith, is_n.cost.nodes, is_l.cost.nodes, is_p.cost.nodes, is_n.count, ls_count);
      registers = omega (arith, is_n.cost.registers, is_l.cost.registers, is_p.cost.registers);
      memories = omega (arith, is_n.cost.memories, is_l.cost.memories, is_p.cost.memories);
    };
    words = λ run z. held_of run l.keys;
    take = λ run z one regs. regs;
    reads = λ run z c less. key_is run z c less;
  }

-- read of a memory
written : (w a v k word : ℕ) (b : Bool) → nat_eq w 1 ≡ b → stored_of w a v k word ≡ (if b && nat_eq a k then v else word)
unfolding stored_of
written w a v k word b e = ap (λ (q : Bool). if q && nat_eq a k then v else word) e

module _ (n0 n1 n2 n3 n4 : Net) (slots : ℕ) (l : Lane) (slot place out : Bus) (write : Bit) (places : List Bus) (bits : ℕ) (is_bits : bits ≡ bits_of_slots slots) (some : 1 ≤ slots) (count : length l.nexts ≡ slots)
    (wide : l.here.width ≡ width_of_keys l.keys) (is_n : AddsNumbers n0 n1 (λ k. k) slots bits places) (is_w : AddsLine n1 n2 (gates_of (length l.nexts)) write (any_line (length l.nexts) l.nexts))
    (is_p : PicksOne n2 n3 l.nexts places bits (length l.nexts * 2) place) (is_m : IsStored n3 n4 bits write place slot l.here out) where
  k34 : Keeps n3 n4
  k34 = is_m.keeps

  k24 : Keeps n2 n4
  k24 = keeps_then n2 n3 n4 is_p.keeps k34

  k14 : Keeps n1 n4
  k14 = keeps_then n1 n2 n4 is_w.keeps k24

  module _ (run : Run) (z : IsRun n4 run) where
    held : IsHeld run write place slot l.here out
    held = is_m.held run z

    abbrev words : ℕ → ℕ → ℕ
    words k t = held.word t k

    read : (t : ℕ) → slot_of run slot (suc t) < slots → run.at (suc t) out.node ≡ words (slot_of run slot (suc t)) (suc t)
    unfolding held_at
    read t less = held.reads (suc t)

    module _ (one : OneAtMost run slots l.nexts) where
      place_is : (k t : ℕ) → k < slots → line_of run l.nexts k (suc t) ≡ true → held_at 0 run place (suc t) ≡ k
      place_is k t less e =
          (is_p.law run (k34.runs run z) (suc t)).one k (omega (arith, less, count)) e (λ j m f. one j k (suc t) (omega (arith, m, count)) less f e)
          ∙ is_n.value run (k14.runs run z) k t less

      any_is : (t : ℕ) → line_at run write t ≡ any_to (length l.nexts) (λ k. line_of run l.nexts k t)
      unfolding any_line
      any_is t = is_w.line run (k24.runs run z) t

      -- it is written where the slot may take the key
      write_is : (k t : ℕ) → k < slots → (line_at run write (suc t) && nat_eq (held_at 0 run place (suc t)) k) ≡ line_of run l.nexts k (suc t)
      write_is k t less = same_when (line_at run write (suc t) && nat_eq (held_at 0 run place (suc t)) k) (line_of run l.nexts k (suc t)) there here
        where
          there : (line_at run write (suc t) && nat_eq (held_at 0 run place (suc t)) k) ≡ true → line_of run l.nexts k (suc t) ≡ true
          there e =
              let parts = and_parts (line_at run write (suc t)) (nat_eq (held_at 0 run place (suc t)) k) e in
              let p = any_there (length l.nexts) (λ j. line_of run l.nexts j (suc t)) (sym (any_is (suc t)) ∙ parts.0) in
              let same : p.0 ≡ k = sym (place_is p.0 t (omega (arith, p.1, count)) p.2) ∙ eqb-true (held_at 0 run place (suc t)) k parts.1 in
              subst (λ i. line_of run l.nexts i (suc t) ≡ true) same p.2

          here : line_of run l.nexts k (suc t) ≡ true → (line_at run write (suc t) && nat_eq (held_at 0 run place (suc t)) k) ≡ true
          here e =
              and_both (line_at run write (suc t)) (nat_eq (held_at 0 run place (suc t)) k)
              (any_is (suc t) ∙ any_here (length l.nexts) (λ j. line_of run l.nexts j (suc t)) k (omega (arith, less, count)) e)
              (eq-eqb (held_at 0 run place (suc t)) k (place_is k t less e))

      take_keys : TakeKeys run slots l.nexts l.here words
      unfolding held_at line_at
      take_keys k t less =
          held.writes (suc t) k
          ∙ written (run.at (suc t) write.node) (run.at (suc t) place.node) (run.at (suc t) l.here.node) k (held.word (suc t) k) (line_at run write (suc t)) refl
          ∙ ap (λ (b : Bool). if b then run.at (suc t) l.here.node else held.word (suc t) k) (write_is k t less)

  pub stored_is : AddsKey n0 n4 slots l slot (2 ^ bits_of_slots slots * width_of_keys l.keys) out
  stored_is =
      let bits_same : 2 ^ bits * l.here.width ≡ 2 ^ bits_of_slots slots * width_of_keys l.keys = ap (λ b. 2 ^ b * l.here.width) is_bits ∙ ap (λ w. 2 ^ bits_of_slots slots * w) wide in
      record {
        keeps = keeps_then n0 n1 n4 is_n.keeps k14;
        bus = is_m.bus;
        same_width = is_m.same_width ∙ wide;
        cost = record {
          nodes = omega (arith, is_n.cost.nodes, is_w.cost.nodes, is_p.cost.nodes, is_m.cost.nodes, count, gates_some (length l.nexts) (let e : 1 ≤ length l.nexts = omega (arith, some, count) in e));
          registers = omega (arith, is_n.cost.registers, is_w.cost.registers, is_p.cost.registers, is_m.cost.registers);
          memories = omega (arith, is_n.cost.memories, is_w.cost.memories, is_p.cost.memories, is_m.cost.memories, bits_same);
        };
        words = λ run z. words run z;
        take = λ run z one regs. take_keys run z one;
        reads = λ run z t less. read run z t less;
      }

-- in front of the columns, one cycle later
module _ (n0 n1 n2 : Net) (r : Grouping) (l : Lane) (out : TableOut) (stored : Bool) (p : Bus) (columns : List Bus) (w : Wire) (is_p : AddsKey n0 n1 r.slots l out.slot (words_of_keys stored r.slots l) p)
    (is_columns : columns ≡ p ∷ out.wire.columns) (is_w : IsPad n1 n2 1 (wire_of out.wire.valid l.close columns) w) where
  module _ (run : Run) (z : IsRun n2 run) where
    z1 : IsRun n1 run
    z1 = is_w.keeps.runs run z

    tuple_is : ((c : ℕ) (x : Row) → (carried run out.wire).tuple c ≡ Some x → slot_of run out.slot c < r.slots) → (c : ℕ)
        → (carried run (wire_of out.wire.valid l.close (p ∷ out.wire.columns))).tuple c ≡ in_front (is_p.words run z1 (slot_of run out.slot c) c) ((carried run out.wire).tuple c)
    unfolding tuple_at line_at row_at
    tuple_is within zero = refl
    tuple_is within (suc c) = by (nat_eq (run.at (suc c) out.wire.valid.node) 1) (λ e. within (suc c) (row_at run (suc c) out.wire.columns) (ap (λ (b : Bool). if b then Some (row_at run (suc c) out.wire.columns) else None) e))
      where
        by : (b : Bool) → (b ≡ true → slot_of run out.slot (suc c) < r.slots)
            → (if b then Some (run.at (suc c) p.node ∷ row_at run (suc c) out.wire.columns) else None)
            ≡ in_front (is_p.words run z1 (slot_of run out.slot (suc c)) (suc c)) (if b then Some (row_at run (suc c) out.wire.columns) else None)
        by true less = ap (λ n. Some (n ∷ row_at run (suc c) out.wire.columns)) (is_p.reads run z1 c (less refl))
        by false less = refl

  pub is_gathered : IsGathered n0 n2 r l out stored w
  is_gathered =
      let pad = subst (λ (bs : List Bus). IsPad n1 n2 1 (wire_of out.wire.valid l.close bs) w) is_columns is_w in
      record {
        keeps = keeps_then n0 n1 n2 is_p.keeps is_w.keeps;
        cost = record {
          nodes = omega (arith, is_p.cost.nodes, pad.cost.nodes);
          registers = omega (arith, is_p.cost.registers, pad.cost.registers, is_p.same_width, sum_by-cons (λ (n : ℕ). n) p.width (widths out.wire.columns));
          memories = omega (arith, is_p.cost.memories, pad.cost.memories);
        };
        wire = pad.wire;
        same_widths = pad.same_widths ∙ ap (λ n. n ∷ widths out.wire.columns) is_p.same_width;
        words = λ run z. is_p.words run (z1 run z);
        take = λ run z one regs. is_p.take run (z1 run z) one regs;
        gathers = λ run z within.
            delayed_same 1 (carried run (wire_of out.wire.valid l.close (p ∷ out.wire.columns)))
            (record { tuple = λ c. in_front (is_p.words run (z1 run z) (slot_of run out.slot c) c) ((carried run out.wire).tuple c); ends = line_at run l.close }) (carried run w)
            (tuple_is run z within) (λ c. refl) (pad.delayed run z);
      }
