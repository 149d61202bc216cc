-- The parts of a front together are the machine.
use Rattle.std.proofs.Common.{◌≡◌, ℕ, zero, suc, ◌+◌, ◌-◌, ◌*◌, ◌%◌, ◌<◌, ◌≤◌, List, [], ◌∷◌, ◌++◌, length, replicate, Option, Some, None, Bool, true, false, refl, sym, ap, ◌∙◌, subst, arith, length-append}
use Rattle.std.specs.Prelude.{slice_get, slice_index, nat_eq, not, ◌&&◌, ◌||◌, if◌then◌else◌, is_some}
use Rattle.std.proofs.lemmas.List.{length-replicate}
use Rattle.std.proofs.Math.Nat.{zero-mod}
use Rattle.gl_values.specs.Results.{Row}
use Rattle.gl_bits.proofs.AllLists.{get_there}
use Rattle.gl_bits.proofs.Bools.{and_both, and_parts}
use Rattle.gl_net.specs.declared.node.Bit.{Bit}
use Rattle.gl_net.specs.declared.node.Bus.{Bus}
use Rattle.gl_net.specs.Net.{Net, Run, IsRun, IsBus, Keeps}
use Rattle.gl_net.proofs.Determined.{keeps_then}
use Rattle.gl_wire.specs.declared.wire.Wire.{Wire}
use Rattle.gl_wire.specs.Stages.{IsLaterLine}
use Rattle.gl_wire.specs.Wire.{Carried, carried, line_at, row_at, tuple_at, widths}
use Rattle.gl_wire.proofs.ColumnLemmas.{bus_kept, wire_kept}
use Rattle.gl_wire_registers.specs.Held.{held_at, turned}
use Rattle.gl_wire_registers.specs.Lines.{held_of, line_of}
use Rattle.gl_wire_registers.specs.Rows.{AddsWires}
use Rattle.gl_wire_registers.proofs.LineLemmas.{any_same, line_of-get}
use Rattle.gl_windows.proofs.MachineLemmas.{tuple_of}
use Rattle.gl_slots.specs.Fronts.{column_of}
use Rattle.gl_slots.specs.Slots.{Slots, further_line, keys_at, of_slot, same_key, slots_at, slots_next}
use Rattle.gl_partition.specs.declared.front.Look.{Look}
use Rattle.gl_partition.specs.declared.slot.Chosen.{Chosen}
use Rattle.gl_partition.specs.declared.slot.SlotWindows.{SlotWindows}
use Rattle.gl_partition.specs.Fronts.{AddsFront, AddsLook, AddsSlots, IsFront, IsLook, repeated}
use Rattle.gl_partition.specs.Machine.{Numbers, closes, closing, comes, due, is_due, kept, mid, next, none_open, oldest, opening, taken, windows_at}
use Rattle.gl_partition.specs.Parts.{IsSlot}
use Rattle.gl_partition.specs.Values.{Cycle, Mirrors, Steps, Values, end_of, mid_of, valid_of}
use Rattle.gl_partition.proofs.MachineLemmas.{end_is, mirrors_next, taken_is}
use Rattle.gl_partition.proofs.SlotNet.{get_either, within}

-- ---- each key as often as its slot has copies

pub repeated_count : (copies : ℕ) (keys : List Bus) → length (repeated copies keys) ≡ length keys * copies
repeated_count copies [] = omega arith
repeated_count copies (b ∷ bs) =
    let e : suc (length bs) * copies ≡ copies + length bs * copies = omega arith in
    length-append (replicate copies b) (repeated copies bs) ∙ ap (λ n. n + length (repeated copies bs)) (length-replicate copies b) ∙ ap (λ n. copies + n) (repeated_count copies bs) ∙ sym e

replicate_each : (P : Bus → Type 0) (copies : ℕ) (key : Bus) → P key → (k : ℕ) (b : Bus) → slice_get (replicate copies key) k ≡ Some b → P b
replicate_each P zero key has k b h = absurd (cc)
replicate_each P (suc n) key has zero b h = let e : key ≡ b = cc in subst P e has
replicate_each P (suc n) key has (suc k) b h = replicate_each P n key has k b h

pub repeated_each : (P : Bus → Type 0) (copies : ℕ) (keys : List Bus) → ((k : ℕ) (b : Bus) → slice_get keys k ≡ Some b → P b) → (k : ℕ) (b : Bus) → slice_get (repeated copies keys) k ≡ Some b → P b
repeated_each P copies [] has k b h = absurd (cc)
repeated_each P copies (x ∷ xs) has k b h =
    get_either (replicate copies x) (repeated copies xs) P (replicate_each P copies x (has 0 x refl)) (repeated_each P copies xs (λ i. has (suc i))) k b h

held_front : (run : Run) (copies : ℕ) (b : Bus) (bs : List Bus) (k t : ℕ) → k < copies → held_of run (replicate copies b ++ bs) k t ≡ held_at 0 run b t
unfolding held_of
held_front run zero b bs k t l = absurd (omega (arith, l))
held_front run (suc n) b bs zero t l = refl
held_front run (suc n) b bs (suc k) t l = held_front run n b bs k t (omega (arith, l))

held_behind : (run : Run) (copies : ℕ) (b : Bus) (bs : List Bus) (k t : ℕ) → held_of run (replicate copies b ++ bs) (copies + k) t ≡ held_of run bs k t
unfolding held_of
held_behind run zero b bs k t = let e : 0 + k ≡ k = omega arith in ap (λ i. held_of run bs i t) e
held_behind run (suc n) b bs k t =
    let e : suc n + k ≡ suc (n + k) = omega arith in ap (λ i. held_of run (replicate (suc n) b ++ bs) i t) e ∙ held_behind run n b bs k t

pub repeated_held : (run : Run) (copies : ℕ) (keys : List Bus) (i k t : ℕ) → k < copies → held_of run (repeated copies keys) (i * copies + k) t ≡ held_of run keys i t
unfolding held_of
repeated_held run copies [] i k t l = refl
repeated_held run copies (b ∷ bs) zero k t l =
    let e : 0 * copies + k ≡ k = omega arith in ap (λ n. held_of run (replicate copies b ++ repeated copies bs) n t) e ∙ held_front run copies b (repeated copies bs) k t l
repeated_held run copies (b ∷ bs) (suc i) k t l =
    let e : suc i * copies + k ≡ copies + (i * copies + k) = omega arith in
    ap (λ n. held_of run (replicate copies b ++ repeated copies bs) n t) e ∙ held_behind run copies b (repeated copies bs) (i * copies + k) t ∙ repeated_held run copies bs i k t l

-- ---- what a slot's turn tells

quiet_by : (copies i : ℕ) (e v : Bool) (x : Row) (s : Slots) → v ≡ true → is_due copies i e (tuple_of v x) s ≡ false
quiet_by copies i true v x s h = refl
quiet_by copies i false true x s h = refl
quiet_by copies i false false x s h = absurd (cc)

due_so : (copies i : ℕ) (e v : Bool) (x : Row) (s : Slots) → is_due copies i e (tuple_of v x) s ≡ true → (e ≡ false) × (v ≡ false) × (s.flush ≡ true)
due_so copies i true v x s h = absurd (cc)
due_so copies i false true x s h = absurd (cc)
due_so copies i false false x s h = (refl, refl, (and_parts s.flush (nat_eq s.wait 0) (and_parts (s.flush && nat_eq s.wait 0) _ h).0).0)

tail_idle : (e v : Bool) (x : Row) (f : Bool) (o : Option Row) → e ≡ false → v ≡ false → f ≡ true → ((e && is_some (tuple_of v x)) || (f && not (e || is_some (tuple_of v x)) && is_some o)) ≡ is_some o
tail_idle true v x f o a b c = absurd (cc)
tail_idle false true x f o a b c = absurd (cc)
tail_idle false false x false o a b c = absurd (cc)
tail_idle false false x true o a b c = refl

tail_ends : (e v : Bool) (x : Row) (z : Bool) → e ≡ true → v ≡ true → ((e && is_some (tuple_of v x)) || z) ≡ true
tail_ends true true x z a b = refl
tail_ends true false x z a b = absurd (cc)
tail_ends false v x z a b = absurd (cc)

module _ (run : Run) (n : Numbers) (w : Wire) (look : Look) (is_look : IsLook run n w look) where
  abbrev a : Carried
  a = carried run w

  abbrev e : ℕ → Bool
  e c = line_at run w.eos c

  abbrev v : ℕ → Bool
  v c = line_at run w.valid c

  abbrev x : ℕ → Row
  x c = row_at run c w.columns

  abbrev s : ℕ → Slots
  s c = slots_at n.slots n.key n.stride (carried run w) c

  abbrev ks : ℕ → List ℕ
  ks c = keys_at n.slots n.key n.stride (carried run w) c

  -- ---- the row that came last

  row_comes : (c : ℕ) → v c ≡ true → row_at run (suc c) look.row ≡ x c
  unfolding line_at
  row_comes zero h = absurd (cc)
  row_comes (suc c) h = is_look.row c h

  row_stays : (c : ℕ) → v c ≡ false → (s c).flush ≡ true → row_at run (suc c) look.row ≡ row_at run c look.row
  row_stays zero h on = absurd (cc)
  row_stays (suc c) h on = is_look.kept c h

  row_held : (c : ℕ) (z : Row) → (s c).flush ≡ true → (s c).held ≡ Some z → row_at run c look.row ≡ z
  unfolding tuple_at
  row_held zero z on is = absurd (cc)
  row_held (suc c) z on is = by (e c) (v c) refl on is (row_held c z)
    where
      by : (b b' : Bool) → v c ≡ b' → (slots_next n.stride b (tuple_of b' (x c)) (ks c) (s c)).flush ≡ true → (slots_next n.stride b (tuple_of b' (x c)) (ks c) (s c)).held ≡ Some z
          → ((s c).flush ≡ true → (s c).held ≡ Some z → row_at run c look.row ≡ z) → row_at run (suc c) look.row ≡ z
      by true true h f q ih = let same : x c ≡ z = cc in row_comes c h ∙ same
      by true false h f q ih = absurd (cc)
      by false true h f q ih = absurd (cc)
      by false false h f q ih = row_stays c h f ∙ ih f q

  -- ---- one slot

  module _ (hs : 1 ≤ n.size) (ha : 1 ≤ n.advance) (hc : 1 ≤ n.copies) (i : ℕ) (there : i < n.slots) (m d : Bit) (is_m : (c : ℕ) → line_at run m c ≡ line_of run look.matches i c) (is_d : (c : ℕ) → line_at run d c ≡ line_of run look.dues i c)
      (r : SlotWindows) (is_r : IsSlot run w.valid w.eos look.tail m d n.size n.advance n.copies r) where
    -- the registers in a cycle
    abbrev at : ℕ → Values
    at c = record {
      until = held_at 0 run r.until c;
      left = held_at (n.size - 1) run r.left c;
      opened = held_at 0 run r.opened c;
      oldest = held_at 0 run r.oldest c;
      flags = λ k. line_of run r.flags k c;
    }

    abbrev own : ℕ → Bool
    own c = line_at run w.valid c && line_at run m c

    abbrev last : ℕ → Bool
    last c = line_at run look.tail c && line_at run m c

    abbrev cycle : ℕ → Cycle
    cycle c = record { end = e c; own = own c; due = due n a i c; last = last c }

    comes_by : (c : ℕ) (b : Bool) → v c ≡ b → of_slot n.key (ks c) i (tuple_of b (x c)) ≡ tuple_of (b && line_at run m c) (x c)
    unfolding tuple_at
    comes_by c true h =
        ap (λ (y : Bool). if y then Some (x c) else None) (sym (is_look.matches i c (x c) there (ap (λ (y : Bool). if y then Some (x c) else None) h)) ∙ sym (is_m c))
    comes_by c false h = refl

    comes_is : (c : ℕ) → comes n a i c ≡ tuple_of (own c) (x c)
    unfolding tuple_at
    comes_is c = comes_by c (v c) refl

    quiet : (c : ℕ) → own c ≡ true → due n a i c ≡ false
    unfolding tuple_at
    quiet c h = quiet_by n.copies i (e c) (v c) (x c) (s c) (and_parts (v c) (line_at run m c) h).0

    ends_are : (k c : ℕ) → k < n.copies → line_of run r.ends k c ≡ end_of (cycle c) (at c) k
    ends_are k c l =
        is_r.end k c l ∙ ap (λ b. (((own c && nat_eq (held_at (n.size - 1) run r.left c) 0) || b) && nat_eq (held_at 0 run r.oldest c) k) && line_of run r.mids k c) (is_d c ∙ is_look.turns i c there)
        ∙ ap (λ b. (((own c && nat_eq (held_at (n.size - 1) run r.left c) 0) || due n a i c) && nat_eq (held_at 0 run r.oldest c) k) && b) (is_r.mid k c l)

    takes_are : (k c : ℕ) → k < n.copies → line_of run r.takes k c ≡ valid_of (cycle c) (at c) k
    takes_are k c l =
        is_r.take k c l ∙ ap (λ b. (b && (own c && not (e c))) || (line_of run r.ends k c && last c)) (is_r.mid k c l)
        ∙ ap (λ b. (mid_of (cycle c) (at c) k && (own c && not (e c))) || (b && last c)) (ends_are k c l)

    steps : (c : ℕ) → Steps n (cycle c) (at c) (at (suc c))
    steps c = record {
      until = is_r.next_until c;
      left = is_r.next_left c;
      opened = is_r.next_opened c;
      oldest =
          is_r.next_oldest c ∙ ap (λ b. turned (n.copies - 1) b (held_at 0 run r.oldest c)) (any_same n.copies (λ k. line_of run r.ends k c) (end_of (cycle c) (at c)) (λ k l. ends_are k c l));
      flags = λ k l. is_r.flag k c l ∙ ap (λ b. b && not (line_of run r.ends k c)) (is_r.mid k c l) ∙ ap (λ b. mid_of (cycle c) (at c) k && not b) (ends_are k c l);
    }

    mirrors_first : Mirrors n.copies (none_open n.size) (at 0)
    unfolding held_at
    mirrors_first = record { until = refl; left = omega (arith, hs); opened = sym (zero-mod n.copies); oldest = sym (zero-mod n.copies); flags = λ k l. is_r.flag_first k l }

    mirrors : (c : ℕ) → Mirrors n.copies (windows_at n a i c) (at c)
    mirrors zero = mirrors_first
    mirrors (suc c) =
        subst (λ (o : Option Row). Mirrors n.copies (next n (e c) (due n a i c) o (windows_at n a i c)) (at (suc c))) (sym (comes_is c))
        (mirrors_next n hs ha hc (cycle c) (x c) (quiet c) (windows_at n a i c) (at c) (mirrors c) (at (suc c)) (steps c))

    row_own : (c : ℕ) → own c ≡ true → row_at run (suc c) look.row ≡ x c
    row_own c h = row_comes c (and_parts (v c) (line_at run m c) h).0

    last_ends : (c : ℕ) → e c ≡ true → own c ≡ true → last c ≡ true
    unfolding tuple_at
    last_ends c p q =
        let both = and_parts (v c) (line_at run m c) q in
        and_both (line_at run look.tail c) (line_at run m c) (is_look.tails c ∙ tail_ends (e c) (v c) (x c) _ p both.0) both.1

    -- what is kept of the end goes to its slot
    kept_is : (c : ℕ) → due n a i c ≡ true → kept n a i c ≡ tuple_of (last c) (row_at run (suc c) look.row)
    unfolding tuple_at
    kept_is c q = by (s c).held refl
      where
        so : (e c ≡ false) × (v c ≡ false) × ((s c).flush ≡ true)
        so = due_so n.copies i (e c) (v c) (x c) (s c) q

        tail_now : line_at run look.tail c ≡ is_some (s c).held
        tail_now = is_look.tails c ∙ tail_idle (e c) (v c) (x c) (s c).flush (s c).held so.0 so.1 so.2

        by : (o : Option Row) → (s c).held ≡ o → of_slot n.key (ks c) i o ≡ tuple_of (last c) (row_at run (suc c) look.row)
        by None h =
            let none : line_at run look.tail c ≡ false = tail_now ∙ ap is_some h in
            sym (ap (λ b. tuple_of (b && line_at run m c) (row_at run (suc c) look.row)) none)
        by (Some z) h =
            let on : line_at run look.tail c ≡ true = tail_now ∙ ap is_some h in
            let same : line_at run m c ≡ same_key (slice_get (ks c) i) (n.key z) =
            is_m c ∙ is_look.resting i c z there (ap (λ (b : Bool). if b then Some (x c) else None) so.1) so.0 so.2 h in
            let row : row_at run (suc c) look.row ≡ z = row_stays c so.1 so.2 ∙ row_held c z so.2 h in
            ap (λ (b : Bool). if b then Some z else None) (sym same) ∙ ap (λ (r : Row). tuple_of (line_at run m c) r) (sym row)
            ∙ ap (λ b. tuple_of (b && line_at run m c) (row_at run (suc c) look.row)) (sym on)

    -- what its copies take, and which one ends
    pub slot_takes : (k c : ℕ) → k < n.copies
        → (if line_of run r.takes k c then Some (row_at run (suc c) look.row) else None) ≡ taken n.copies (e c) (due n a i c) (comes n a i c) (kept n a i c) (mid n a i c) k
    slot_takes k c l =
        ap (λ (b : Bool). if b then Some (row_at run (suc c) look.row) else None) (takes_are k c l)
        ∙ sym (taken_is n hs ha hc (cycle c) (x c) (quiet c) (windows_at n a i c) (at c) (mirrors c) (row_at run (suc c) look.row) (kept n a i c) (row_own c) (last_ends c) (λ p q. kept_is c q) k l)
        ∙ ap (λ (o : Option Row). taken n.copies (e c) (due n a i c) o (kept n a i c) (opening n.advance n.copies o (windows_at n a i c)) k) (sym (comes_is c))

    pub slot_ends : (k c : ℕ) → k < n.copies → line_of run r.ends k c ≡ (closes n a i c && nat_eq k (oldest n a i c))
    slot_ends k c l =
        ends_are k c l ∙ end_is n hs ha hc (cycle c) (x c) (quiet c) (windows_at n a i c) (at c) (mirrors c) k l
        ∙ ap (λ (o : Option Row). let t = opening n.advance n.copies o (windows_at n a i c) in closing n.copies (due n a i c) o t && nat_eq k (t.closed % n.copies)) (sym (comes_is c))

-- one after another the parts are a front
module _ (n0 n1 n2 n3 n4 : Net) (w : Wire) (key slots size advance copies stride width : ℕ) (hs : 1 ≤ size) (ha : 1 ≤ advance) (hc : 1 ≤ copies) (look : Look) (chosen : Chosen) (ws : List Wire) (further : Bit)
    (is_look : AddsLook n0 n1 key slots copies stride width w look) (is_chosen : AddsSlots n1 n2 w.valid w.eos look.tail look.matches look.dues size advance copies (length look.matches) chosen)
    (is_ws : AddsWires n2 n3 (length chosen.takes) chosen.takes chosen.ends look.row ws) (is_further : IsLaterLine n3 n4 look.passes further) where
  k34 : Keeps n3 n4
  k34 = is_further.keeps

  k24 : Keeps n2 n4
  k24 = keeps_then n2 n3 n4 is_ws.keeps k34

  k14 : Keeps n1 n4
  k14 = keeps_then n1 n2 n4 is_chosen.keeps k24

  abbrev n : Numbers
  n = record { slots = slots; key = column_of key; size = size; advance = advance; copies = copies; stride = stride }

  many : length chosen.takes ≡ slots * copies
  many = is_chosen.takes_count ∙ ap (λ i. i * copies) is_look.matches_count

  low : (i k : ℕ) → i < slots → k < copies → i * copies + k < length chosen.takes
  low i k l h = let z = within slots copies i k l h in omega (arith, z, many)

  module _ (run : Run) (z : IsRun n4 run) where
    looks : IsLook run n w look
    looks = is_look.law run (k14.runs run z) size advance

    takes_now : (i k c : ℕ) → i < slots → k < copies
        → (if line_of run chosen.takes (i * copies + k) c then Some (row_at run (suc c) look.row) else None)
        ≡ taken copies (line_at run w.eos c) (due n (carried run w) i c) (comes n (carried run w) i c) (kept n (carried run w) i c) (mid n (carried run w) i c) k
    takes_now i k c l h =
        let m = get_there look.matches i (omega (arith, l, is_look.matches_count)) in
        let d = get_there look.dues i (omega (arith, l, is_look.dues_count)) in
        let has = is_chosen.each run (k24.runs run z) i m.0 d.0 (omega (arith, l, is_look.matches_count)) m.1 d.1 in
        ap (λ (b : Bool). if b then Some (row_at run (suc c) look.row) else None) (has.takes k c h)
        ∙ slot_takes run n w look looks hs ha hc i l m.0 d.0 (λ t. sym (line_of-get run look.matches i m.0 t m.1)) (λ t. sym (line_of-get run look.dues i d.0 t d.1)) has.own has.is k c h

    ends_now : (i k c : ℕ) → i < slots → k < copies → line_of run chosen.ends (i * copies + k) c ≡ (closes n (carried run w) i c && nat_eq k (oldest n (carried run w) i c))
    ends_now i k c l h =
        let m = get_there look.matches i (omega (arith, l, is_look.matches_count)) in
        let d = get_there look.dues i (omega (arith, l, is_look.dues_count)) in
        let has = is_chosen.each run (k24.runs run z) i m.0 d.0 (omega (arith, l, is_look.matches_count)) m.1 d.1 in
        has.ends k c h
        ∙ slot_ends run n w look looks hs ha hc i l m.0 d.0 (λ t. sym (line_of-get run look.matches i m.0 t m.1)) (λ t. sym (line_of-get run look.dues i d.0 t d.1)) has.own has.is k c h

    told_now : (c : ℕ) → line_at run further c ≡ further_line slots (column_of key) stride (carried run w) c
    unfolding line_at
    told_now zero = refl
    told_now (suc c) = is_further.line run z c ∙ looks.further c

    front_now : IsFront run n w (record { wires = ws; keys = repeated copies look.keys; further = further })
    front_now = record {
      front = record {
        no_tuple = λ i k l h. is_ws.first_tuple run (k34.runs run z) (i * copies + k) (low i k l h);
        no_end = λ i k l h. is_ws.first_end run (k34.runs run z) (i * copies + k) (low i k l h);
        tuples = λ i k c l h. is_ws.tuple run (k34.runs run z) (i * copies + k) c (low i k l h) ∙ takes_now i k c l h;
        ends = λ i k c l h. is_ws.end run (k34.runs run z) (i * copies + k) c (low i k l h) ∙ ends_now i k c l h;
      };
      shown = λ i k c x l h q. repeated_held run copies look.keys i k c h ∙ looks.keys i c x l q;
      told = told_now;
    }

  pub front_adds : AddsFront n0 n4 key slots size advance copies stride width w (record { wires = ws; keys = repeated copies look.keys; further = further })
  front_adds = record {
    keeps = keeps_then n0 n1 n4 is_look.keeps k14;
    cost = record {
      nodes = omega (arith, is_look.cost.nodes, is_chosen.cost.nodes, is_ws.cost.nodes, is_further.cost.nodes, many, slot_nodes);
      registers = omega (arith, is_look.cost.registers, is_chosen.cost.registers, is_ws.cost.registers, is_further.cost.registers, many, slot_bits, key_bits);
      memories = omega (arith, is_look.cost.memories, is_chosen.cost.memories, is_ws.cost.memories, is_further.cost.memories);
    };
    as_many = is_ws.count ∙ many;
    wires = λ k x h. (wire_kept n3 n4 x k34 (is_ws.wires k x h), ap widths (is_ws.columns k x h) ∙ is_look.row_widths);
    keys_count = repeated_count copies look.keys ∙ ap (λ i. i * copies) is_look.keys_count;
    keys = λ k b h. repeated_each (λ x. IsBus n4 x × (x.width ≡ slice_index (widths w.columns) key)) copies look.keys (λ i x g. let y = is_look.keys i x g in (bus_kept n1 n4 x k14 y.0, y.1)) k b h;
    further = is_further.bit;
    law = front_now;
  }
    where
      slot_nodes : length look.matches * (copies * 14 + 45) ≡ slots * copies * 14 + slots * 45
      slot_nodes = ap (λ i. i * (copies * 14 + 45)) is_look.matches_count ∙ omega arith

      slot_bits : length look.matches * (copies + 128) ≡ slots * copies + slots * 128
      slot_bits = ap (λ i. i * (copies + 128)) is_look.matches_count ∙ omega arith

      key_bits : slots * (slice_index (widths w.columns) key + 129) ≡ slots * (slice_index (widths w.columns) key + 1) + slots * 128
      key_bits = omega arith
