-- The lines and the wires of copies behind slots, one copy more at a time.
use Rattle.std.proofs.Common.{◌≡◌, ℕ, zero, suc, ◌+◌, ◌*◌, ◌<◌, List, [], ◌∷◌, ◌++◌, length, Option, Some, None, Bool, true, false, refl, sym, ap, ◌∙◌, subst, arith, inl, inr, length-append}
use Rattle.std.specs.Prelude.{slice_get, if◌then◌else◌}
use Rattle.std.proofs.lemmas.Bool.{cases_lt}
use Rattle.gl_bits.proofs.AllLists.{get_below, get_front, get_last, get_mapped, get_there}
use Rattle.gl_net.specs.declared.node.Bit.{Bit}
use Rattle.gl_net.specs.declared.node.Bus.{Bus}
use Rattle.gl_net.specs.Net.{Net, Run, IsBus, Keeps}
use Rattle.gl_net.proofs.Determined.{keeps_then}
use Rattle.gl_wire.specs.declared.emitted.Emitted.{Emitted}
use Rattle.gl_wire.specs.declared.emitted.Faults.{Faults}
use Rattle.gl_wire.specs.declared.wire.Wire.{Wire}
use Rattle.gl_wire.specs.Faults.{AreBoth, line_of}
use Rattle.gl_wire.specs.Spills.{Lines}
use Rattle.gl_wire.specs.Wire.{AreBuses, Carried, IsWire, carried, line_at, row_at, tuple_at, widths}
use Rattle.gl_wire.proofs.ColumnLemmas.{bus_kept, buses_kept}
use Rattle.gl_wire.proofs.FaultLemmas.{lines_kept}
use Rattle.gl_wire.proofs.StageLemmas.{delayed_same}
use Rattle.gl_wire.specs.Lift.{tuple_of_any}
use Rattle.gl_wire.specs.Rotates.{lines_of_all}
use Rattle.gl_wire_registers.specs.Backs.{AreWires, JoinsCopies}
use Rattle.gl_wire_registers.specs.Held.{held_at}
use Rattle.gl_wire_registers.specs.Lines.{carried_of, held_of}
use Rattle.gl_wire_registers.proofs.RowLemmas.{carried_of-get}
use Rattle.gl_wire_registers.proofs.BackLemmas.{merge_within, tuples_same}
use Rattle.gl_wire_registers.proofs.JoinLemmas.{or_more, copies_kept, columns_at}
use Rattle.gl_slots.specs.Keys.{in_front, with_keys}
use Rattle.gl_slots.specs.Joins.{AreKeyBuses, AreKeyed, JoinsAll, JoinsFaults, keyed_wire, width_of_keys}
use Rattle.gl_wire_registers.specs.Joins.{AreCopies, JoinsLines, columns_of, gives_of, told_of, wires_of}
use Rattle.gl_slots.proofs.SlotNet.{held_of-get}

-- ---- lines

abbrev pub own_line : Option Bit → Faults
own_line further = record { passed = None; further = further }

pub faults_are : (old mid new : Net) (source faults out : Faults) (further : Option Bit) (copies : List Emitted) → JoinsLines old mid source copies (length copies) faults → AreBoth mid new faults (own_line further) out
    → JoinsFaults old new source further copies out
faults_are old mid new source faults out further copies h b = record {
  keeps = keeps_then old mid new h.keeps b.keeps;
  cost = record {
    nodes = omega (arith, h.cost.nodes, b.cost.nodes);
    registers = omega (arith, h.cost.registers, b.cost.registers);
    memories = omega (arith, h.cost.memories, b.cost.memories);
  };
  are = b.are;
  told = λ run r.
      let before = h.told run (b.keeps.runs run r) in
      let both = b.lines run r in
      let all : Lines = lines_of_all (told_of run copies) (length copies) in
      record {
        passed = λ c. or_more (line_of run source.passed c) (all.passed c) false (line_of run faults.passed c) (line_of run out.passed c) (both.passed c) (before.passed c);
        further = λ c. or_more (line_of run source.further c) (all.further c) (line_of run further c) (line_of run faults.further c) (line_of run out.further c) (both.further c) (before.further c);
      };
}

-- ---- wires

pub keyed_none : (copies : List Emitted) (keys : List Bus) → AreKeyed copies keys 0 []
keyed_none copies keys = record { count = refl; each = λ k e b l h i. absurd (omega (arith, l)) }

pub keyed_more : (copies : List Emitted) (keys : List Bus) (n : ℕ) (ws : List Wire) (w : Wire) (e : Emitted) (b : Bus) → AreKeyed copies keys n ws → slice_get copies n ≡ Some e → slice_get keys n ≡ Some b
    → w ≡ keyed_wire b e.wire → AreKeyed copies keys (n + 1) (ws ++ w ∷ [])
keyed_more copies keys n ws w e b h has_copy has_key is = record {
  count = length-append ws (w ∷ []) ∙ ap (λ i. i + 1) h.count;
  each = λ k x y l has_x has_y. elim (cases_lt k n) [
    | inl m ↦ get_front ws (w ∷ []) k (keyed_wire y x.wire) (h.each k x y m has_x has_y)
    | inr m ↦ (let at : k ≡ n = omega (arith, l, m) in
        let same_copy : e ≡ x = (let q = ap (slice_get copies) at in cc) in
        let same_key : b ≡ y = (let q = ap (slice_get keys) at in cc) in
        ap (slice_get (ws ++ w ∷ [])) (at ∙ sym h.count) ∙ get_last ws w ∙ ap Some (is ∙ ap (λ (z : Bus). keyed_wire z e.wire) same_key ∙ ap (λ (z : Emitted). keyed_wire y z.wire) same_copy))
  ];
}

-- what a wire with its key in front carries
keyed_tuple : (run : Run) (w : Wire) (b : Bus) (c : ℕ) → (carried run (keyed_wire b w)).tuple c ≡ in_front (held_at 0 run b c) ((carried run w).tuple c)
unfolding tuple_at line_at row_at held_at
keyed_tuple run w b zero = refl
keyed_tuple run w b (suc c) = by (line_at run w.valid (suc c))
  where
    by : (v : Bool) → (if v then Some (run.at (suc c) b.node ∷ row_at run (suc c) w.columns) else None) ≡ in_front (run.at (suc c) b.node) (if v then Some (row_at run (suc c) w.columns) else None)
    by true = refl
    by false = refl

module _ (copies : List Emitted) (keys : List Bus) (ws : List Wire) (same_count : length keys ≡ length copies) (keyed : AreKeyed copies keys (length copies) ws) where
  copy_tuple : (run : Run) (c k : ℕ) → k < length copies → (carried_of run ws k).tuple c ≡ (with_keys (held_of run keys) (gives_of run copies) k).tuple c
  copy_tuple run c k l =
      let e = get_there copies k l in
      let b = get_there keys k (omega (arith, l, same_count)) in
      let has = keyed.each k e.0 b.0 l e.1 b.1 in
      ap (λ (x : Carried). x.tuple c) (carried_of-get run ws k (keyed_wire b.0 e.0.wire) has) ∙ keyed_tuple run e.0.wire b.0 c
      ∙ ap (λ n. in_front n ((carried run e.0.wire).tuple c)) (sym (held_of-get run keys k b.0 c b.1))
      ∙ ap (λ (x : Carried). in_front (held_of run keys k c) (x.tuple c)) (sym (carried_of-get run (wires_of copies) k e.0.wire (get_mapped (λ (x : Emitted). x.wire) copies k e.0 e.1)))

  pub joined_tuple : (run : Run) (c : ℕ) → tuple_of_any (carried_of run ws) (length ws) c ≡ tuple_of_any (with_keys (held_of run keys) (gives_of run copies)) (length copies) c
  joined_tuple run c =
      ap (λ n. tuple_of_any (carried_of run ws) n c) keyed.count
      ∙ tuples_same (carried_of run ws) (with_keys (held_of run keys) (gives_of run copies)) (length copies) c (λ k l. copy_tuple run c k l)

pub first_then : (net : Net) (b : Bus) (bs : List Bus) → IsBus net b → AreBuses net bs → AreBuses net (b ∷ bs)
first_then net b bs is h = record { each = by }
  where
    by : (k : ℕ) (x : Bus) → slice_get (b ∷ bs) k ≡ Some x → IsBus net x
    by zero x e = let q : b ≡ x = cc in subst (IsBus net) q is
    by (suc k) x e = h.each k x e

keyed_is : (net : Net) (b : Bus) (w : Wire) → IsBus net b → IsWire net w → IsWire net (keyed_wire b w)
keyed_is net b w is h = record { valid = h.valid; eos = h.eos; columns = first_then net b w.columns is h.columns }

module _ (net : Net) (copies : List Emitted) (keys : List Bus) (ws : List Wire) (same_count : length keys ≡ length copies) (keyed : AreKeyed copies keys (length copies) ws)
    (are : AreCopies net copies) (are_keys : AreKeyBuses net keys) where
  place : (k : ℕ) (w : Wire) → slice_get ws k ≡ Some w → (e : Emitted) × (b : Bus) × (slice_get copies k ≡ Some e) × (slice_get keys k ≡ Some b) × (keyed_wire b e.wire ≡ w)
  place k w h =
      let l : k < length copies = (let m = get_below ws k w h in omega (arith, m, keyed.count)) in
      let e = get_there copies k l in
      let b = get_there keys k (omega (arith, l, same_count)) in
      let has = keyed.each k e.0 b.0 l e.1 b.1 in
      (e.0, b.0, e.1, b.1, cc)

  are_wires : AreWires net ws (width_of_keys keys ∷ columns_of copies)
  are_wires = record {
    each = λ k w h. let p = place k w h in subst (IsWire net) p.4 (keyed_is net p.1 p.0.wire (are_keys.each k p.1 p.3) (are.each k p.0 p.2));
    same_widths = λ k w h.
        let p = place k w h in
        ap (λ (x : Wire). widths x.columns) (sym p.4) ∙ ap (λ n. n ∷ widths p.0.wire.columns) (are_keys.same_width k p.1 p.3) ∙ ap (λ ns. width_of_keys keys ∷ ns) (are.same_widths k p.0 p.2);
  }

width_at : (keys : List Bus) (b : Bus) → slice_get keys 0 ≡ Some b → width_of_keys keys ≡ b.width
width_at [] b h = absurd (cc)
width_at (x ∷ xs) b h = let q : x ≡ b = cc in ap (λ (y : Bus). y.width) q

-- keys stay in a netlist that grows
keys_kept : (old new : Net) (keys : List Bus) → Keeps old new → AreKeyBuses old keys → AreKeyBuses new keys
keys_kept old new keys keeps h = record { each = λ k b at. bus_kept old new b keeps (h.each k b at); same_width = h.same_width }

-- the columns that are handed to the join are those of the first copy with its key
module _ (copies : List Emitted) (keys bs : List Bus) (e : Emitted) (b : Bus) (has : slice_get copies 0 ≡ Some e) (has_key : slice_get keys 0 ≡ Some b) (is_bs : bs ≡ b ∷ e.wire.columns) where
  bs_widths : widths bs ≡ width_of_keys keys ∷ columns_of copies
  bs_widths = ap widths is_bs ∙ ap (λ n. n ∷ widths e.wire.columns) (sym (width_at keys b has_key)) ∙ ap (λ ns. width_of_keys keys ∷ ns) (sym (columns_at copies e has))

  pub columns_there : (old new : Net) → Keeps old new → AreCopies old copies → AreKeyBuses old keys → AreBuses new bs
  columns_there old new keeps h i =
      subst (AreBuses new) (sym is_bs) (buses_kept old new (b ∷ e.wire.columns) keeps (first_then old b e.wire.columns (i.each 0 b has_key) (h.each 0 e has).columns))

  module _ (ws : List Wire) (same_count : length keys ≡ length copies) (keyed : AreKeyed copies keys (length copies) ws) where
    pub wires_there : (old new : Net) → Keeps old new → AreCopies old copies → AreKeyBuses old keys → AreWires new ws (widths bs)
    wires_there old new keeps h i =
        subst (AreWires new ws) (sym bs_widths) (are_wires new copies keys ws same_count keyed (copies_kept old new copies keeps h) (keys_kept old new keys keeps i))

    pub joins_all : (old mid new : Net) (source faults : Faults) (further : Option Bit) (close : Bit) (w : Wire) → JoinsFaults old mid source further copies faults → JoinsCopies mid new ws close (widths bs) w
        → JoinsAll old new source further close keys copies (record { wire = w; faults = faults })
    joins_all old mid new source faults further close w h joined = record {
      keeps = keeps_then old mid new h.keeps j.keeps;
      cost = record {
        nodes = omega (arith, h.cost.nodes, j.cost.nodes, ap (λ (n : ℕ). n * (length (columns_of copies) + 1 + 1)) keyed.count, merge_within (length ws) (length (width_of_keys keys ∷ columns_of copies)));
        registers = omega (arith, h.cost.registers, j.cost.registers);
        memories = omega (arith, h.cost.memories, j.cost.memories);
      };
      wire = j.wire;
      same_widths = j.same_widths;
      lines = lines_kept mid new faults j.keeps h.are;
      told = λ run r. h.told run (j.keeps.runs run r);
      delayed = λ run r.
          delayed_same 1 (record { tuple = tuple_of_any (carried_of run ws) (length ws); ends = line_at run close })
          (record { tuple = tuple_of_any (with_keys (held_of run keys) (gives_of run copies)) (length copies); ends = line_at run close }) (carried run w)
          (joined_tuple copies keys ws same_count keyed run) (λ c. refl) (j.delayed run r);
    }
      where
        j : JoinsCopies mid new ws close (width_of_keys keys ∷ columns_of copies) w
        j = subst (λ (x : List ℕ). JoinsCopies mid new ws close x w) bs_widths joined
