-- Items over the rows of each slot, side by side.
use Rattle.std.proofs.Common.{◌≡◌, ℕ, zero, suc, ◌+◌, ◌-◌, ◌≤◌, List, [], ◌∷◌, ◌++◌, length, map, Option, Some, Bool, true, false, refl, sym, ap, ◌∙◌, subst, arith}
use Rattle.std.specs.Prelude.{if◌then◌else◌, nat_eq, slice_get, sum_by}
use Rattle.std.proofs.lemmas.List.{length-map, map-append}
use Rattle.std.proofs.lemmas.Option.{same_Some}
use Rattle.gl_bits.proofs.AllLists.{get_mapped}
use Rattle.std.proofs.lemmas.List.Sums.{sum_by-append, sum_by-cons}
use Rattle.gl_algebra.specs.Columns.{kind_of_frame}
use Rattle.gl_algebra.specs.Frames.{delay_of_frame}
use Rattle.gl_algebra.specs.Results.{row_of_frames, value_of_frame}
use Rattle.gl_algebra.specs.declared.node.PlanFrame.{PlanFrame}
use Rattle.gl_values.specs.Kinds.{width_of}
use Rattle.gl_values.specs.declared.kind.Kind.{Kind}
use Rattle.gl_net.specs.declared.node.Bus.{Bus}
use Rattle.gl_net.specs.Net.{Keeps, Net, Run}
use Rattle.gl_net.proofs.Determined.{keeps_then}
use Rattle.gl_net.proofs.Growth.{same_keeps}
use Rattle.gl_wire.specs.Costs.{Cost}
use Rattle.gl_wire.specs.Wire.{line_at, row_at}
use Rattle.gl_values.specs.Results.{Row}
use Rattle.gl_wire.proofs.ColumnLemmas.{AreBuses-none, AreBuses-push, bit_kept, bus_kept, buses_kept, row_at-none, row_at-push, widths-push}
use Rattle.gl_wire.proofs.StageLemmas.{line_first}
use Rattle.gl_wire_lanes.specs.Lanes.{Lane, row_in}
use Rattle.gl_rows.proofs.MadeLemmas.{source_kept}
use Rattle.gl_frames.specs.Frames.{number_or, row_before}
use Rattle.gl_frames.proofs.LastLemmas.{ends_with}
use Rattle.gl_frames_stages.specs.Columns.{carried_by}
use Rattle.gl_frames_stages.specs.DelayNets.{IsLateIn, cost_of_late}
use Rattle.gl_frames_stages.specs.FramesNets.{frames_widths}
use Rattle.gl_frames_stages.specs.Inputs.{HasInput}
use Rattle.gl_frames_stages.specs.LaggedNets.{maybe_at}
use Rattle.gl_frames_stages.specs.Laws.{itself}
use Rattle.gl_frames_stages.specs.declared.lagged.Maybe.{Maybe}
use Rattle.gl_frames_stages.proofs.LaggedNet.{none_is}
use Rattle.gl_frames_wire.specs.Since.{all_ends, rows_here, rows_since}
use Rattle.gl_frames_wire.proofs.RingLemmas.{one_in}
use Rattle.gl_frames_slots.specs.ItemCosts.{cost_of_slot_item, cost_of_slot_item_late}
use Rattle.gl_frames_slots.specs.Items.{AreSlotItemsIn, HasSlotInput, IsSlotItemIn, rows_in}
use Rattle.gl_frames_slots.specs.Rows.{HasSlotRows, TellsBySlot, lane_at, slot_here, slot_past}
use Rattle.gl_frames_slots.specs.declared.items.SlotInput.{SlotInput}
use Rattle.gl_frames_slots.specs.declared.rows.SlotRows.{SlotRows}
use Rattle.gl_frames_slots.proofs.MeetLemmas.{tells_behind}

-- ---- the netlist

pub rows_kept : (old new : Net) (rows : SlotRows) → Keeps old new → HasSlotRows old rows → HasSlotRows new rows
rows_kept old new rows keeps is = record {
  valid = bit_kept old new rows.valid keeps is.valid;
  first = bit_kept old new rows.first keeps is.first;
  slot = bus_kept old new rows.slot keeps is.slot;
  begins = bit_kept old new rows.begins keeps is.begins;
  next = bus_kept old new rows.next keeps is.next;
  same_width = is.same_width;
  bits = is.bits;
}

pub input_kept : (old new : Net) (input : SlotInput) → Keeps old new → HasSlotInput old input → HasSlotInput new input
input_kept old new input keeps is = record {
  rows = rows_kept old new input.rows keeps is.rows;
  source = source_kept old new input.source.columns.now input.source.kinds.now input.source.words.now keeps is.source;
}

-- the rows without their slots
pub has_lines : (old new : Net) (input : SlotInput) → Keeps old new → HasSlotInput old input
    → HasInput new (record { lines = record { valid = input.rows.valid; eos = input.rows.first }; source = input.source })
has_lines old new input keeps is = let now = input_kept old new input keeps is in record { valid = now.rows.valid; eos = now.rows.first; source = now.source }

-- ---- what is made of each row

module _ {B D : Type 0} (v : B → D) (over : ℕ → ℕ → Bool) (l : Lane) (row : ℕ → B) (x : ℕ → D) (is : (c : ℕ) → l.valid c ≡ true → x c ≡ v (row c)) where
  own_made : (c : ℕ) → row_in l x c ≡ map v (row_in l row c)
  own_made c = by (l.valid c) refl
    where
      by : (b : Bool) → l.valid c ≡ b → (if b then x c ∷ [] else []) ≡ map v (if b then row c ∷ [] else [])
      by true p = ap (λ y. y ∷ []) (is c p)
      by false p = refl

  grown : (xs : List B) (ys : List D) (c : ℕ) → ys ≡ map v xs → ys ++ row_in l x c ≡ map v (xs ++ row_in l row c)
  grown xs ys c e = ap (λ z. z ++ row_in l x c) e ∙ ap (λ z. map v xs ++ z) (own_made c) ∙ sym (map-append v xs (row_in l row c))

  since_made : (k c : ℕ) → rows_since over l x k c ≡ map v (rows_since over l row k c)
  since_made k zero = refl
  since_made k (suc c) = by (over c k) (nat_eq (l.slot c) k) (rows_since over l row k c) (rows_since over l x k c) (since_made k c)
    where
      by : (e s : Bool) (xs : List B) (ys : List D) → ys ≡ map v xs
          → (if e then [] else (if s then ys ++ row_in l x c else ys)) ≡ map v (if e then [] else (if s then xs ++ row_in l row c else xs))
      by true s xs ys p = refl
      by false true xs ys p = grown xs ys c p
      by false false xs ys p = p

  here_made : (c : ℕ) → rows_here over l x c ≡ map v (rows_here over l row c)
  here_made c = grown (rows_since over l row (l.slot c) c) (rows_since over l x (l.slot c) c) c (since_made (l.slot c) c)

module _ (run : Run) (rows : SlotRows) (ends : ℕ → Bool) where
  pub made_rows : {B D : Type 0} (v : B → D) (row : ℕ → B) (x : ℕ → D) → ((t : ℕ) → x (suc t) ≡ v (row (suc t)))
      → (c : ℕ) → slot_here run rows ends x c ≡ map v (slot_here run rows ends row c)
  made_rows {B = B} {D = D} v row x is c = here_made v (all_ends (lane_at run rows ends)) (lane_at run rows ends) row x with_rows c
    where
      with_rows : (c : ℕ) → line_at run rows.valid c ≡ true → x c ≡ v (row c)
      with_rows zero q = absurd (let z = line_first run rows.valid in cc (z, q))
      with_rows (suc c) q = is c

  pub tells_made : {A B D : Type 0} (m : ℕ) (v : B → D) (of : List D → A) (row : ℕ → B) (x : ℕ → D) (out : ℕ → A)
      → ((t : ℕ) → x (suc t) ≡ v (row (suc t))) → TellsBySlot run rows ends m of x out → TellsBySlot run rows ends m (λ xs. of (map v xs)) row out
  tells_made m v of row x out is h c p = h c p ∙ ap of (made_rows v row x is (suc c))

  pub tells_as : {A B : Type 0} (m : ℕ) (of other : List B → A) (row : ℕ → B) (out : ℕ → A)
      → ((xs : List B) → of xs ≡ other xs) → TellsBySlot run rows ends m of row out → TellsBySlot run rows ends m other row out
  tells_as m of other row out same h c p = h c p ∙ same (slot_here run rows ends row (suc c))

  pub told_or_none : {B : Type 0} (of : List B → Option ℕ) (row : ℕ → B) (x : Maybe) (out : Bus)
      → TellsBySlot run rows ends 1 of row (maybe_at run x)
      → ((t : ℕ) → run.at (suc t) out.node ≡ (if line_at run x.some (suc t) then run.at (suc t) x.word.node else 0))
      → TellsBySlot run rows ends 1 (λ xs. number_or itself (of xs)) row (carried_by run out)
  told_or_none of row x out h is c v =
      let e : suc c + 1 ≡ suc (suc c) = omega arith in
      ap (carried_by run out) e ∙ is (suc c) ∙ none_is (line_at run x.some (suc (suc c))) (run.at (suc (suc c)) x.word.node)
      ∙ ap (λ t. number_or itself (maybe_at run x t)) (sym e) ∙ ap (number_or itself) (h c v)

  -- the row of a cycle is the last one of its slot
  last_row : {B : Type 0} (row : ℕ → B) (c : ℕ) → line_at run rows.valid (suc c) ≡ true → row_before 0 (slot_here run rows ends row (suc c)) ≡ Some (row (suc c))
  last_row row c v =
      ap (λ mine. row_before 0 (slot_past run rows ends row (suc c) ++ mine)) (one_in (line_at run rows.valid (suc c)) (row (suc c)) v)
      ∙ ends_with (slot_past run rows ends row (suc c)) (row (suc c))

  pub own_told : {B : Type 0} (v : B → ℕ) (row : ℕ → B) (own : ℕ → ℕ) → ((t : ℕ) → own (suc (suc t)) ≡ v (row (suc t)))
      → TellsBySlot run rows ends 1 (λ xs. number_or v (row_before 0 xs)) row own
  own_told v row own is c p =
      let e : suc c + 1 ≡ suc (suc c) = omega arith in
      ap own e ∙ is c ∙ sym (ap (number_or v) (last_row row c p))

-- ---- an item later than it is

pub item_late : (old mid new : Net) (input : SlotInput) (count : Bus) (kinds : List Kind) (item : PlanFrame) (cycles : ℕ) (early out : Bus)
    → delay_of_frame kinds item ≤ cycles
    → IsSlotItemIn old mid (cost_of_slot_item input.rows.slot.width kinds item) (delay_of_frame kinds item) (width_of (kind_of_frame kinds item)) (λ sets xs. value_of_frame sets kinds xs item) input count early
    → IsLateIn mid new (cycles - delay_of_frame kinds item) early out
    → IsSlotItemIn old new (cost_of_slot_item_late input.rows.slot.width kinds cycles item) cycles (width_of (kind_of_frame kinds item)) (λ sets xs. value_of_frame sets kinds xs item) input count out
item_late old mid new input count kinds item cycles early out le one late =
    let d : ℕ = delay_of_frame kinds item in
    let whole : d + (cycles - d) ≡ cycles = omega (arith, le) in
    let cost = ap (cost_of_late (cycles - d)) one.same_width in
    record {
      keeps = keeps_then old mid new one.keeps late.keeps;
      cost = record {
        nodes = omega (arith, one.cost.nodes, late.cost.nodes, ap (λ (k : Cost). k.nodes) cost);
        registers = omega (arith, one.cost.registers, late.cost.registers, ap (λ (k : Cost). k.registers) cost);
        memories = omega (arith, one.cost.memories, late.cost.memories, ap (λ (k : Cost). k.memories) cost);
      };
      bus = late.bus;
      same_width = late.same_width ∙ one.same_width;
      tells = λ run r ends told counts.
          subst (λ n. TellsBySlot run input.rows ends n (λ xs. value_of_frame run.held kinds xs item) (rows_in run input) (carried_by run out)) whole
          (tells_behind run input.rows ends d (cycles - d) (λ xs. value_of_frame run.held kinds xs item) (rows_in run input) (carried_by run early) (carried_by run out) (late.value run r)
          (one.tells run (late.keeps.runs run r) ends told counts));
    }

-- ---- side by side

sum_push : (f : PlanFrame → ℕ) (items : List PlanFrame) (item : PlanFrame) → sum_by f (items ++ item ∷ []) ≡ sum_by f items + f item
sum_push f items item = sum_by-append f items (item ∷ []) ∙ ap (λ n. sum_by f items + n) (sum_by-cons f item [] ∙ omega arith)

pub items_none : (net : Net) (input : SlotInput) (count : Bus) (cycles : ℕ) → AreSlotItemsIn net net input count cycles [] []
items_none net input count cycles = record {
  keeps = same_keeps net;
  cost = record { nodes = omega arith; registers = omega arith; memories = omega arith };
  buses = AreBuses-none net;
  same_widths = refl;
  row = λ run r ends told counts c v. row_at-none run (suc c + cycles);
}

-- the column of an item that is there tells it once more, and nothing is put
pub item_again : (old net : Net) (input : SlotInput) (count : Bus) (cycles : ℕ) (items : List PlanFrame) (item : PlanFrame) (bs : List Bus) (place : ℕ) (b : Bus) → AreSlotItemsIn old net input count cycles items bs
    → slice_get items place ≡ Some item → slice_get bs place ≡ Some b
    → IsSlotItemIn net net (cost_of_slot_item_late input.rows.slot.width input.source.kinds.now cycles item) cycles (width_of (kind_of_frame input.source.kinds.now item))
    (λ sets xs. value_of_frame sets input.source.kinds.now xs item) input count b
unfolding row_at
item_again old net input count cycles items item bs place b all at there =
    let kinds = input.source.kinds.now in
    let width_there : slice_get (frames_widths kinds items) place ≡ Some (width_of (kind_of_frame kinds item)) =
    get_mapped width_of (map (kind_of_frame kinds) items) place (kind_of_frame kinds item) (get_mapped (kind_of_frame kinds) items place item at) in
    record {
      keeps = same_keeps net;
      cost = record { nodes = omega arith; registers = omega arith; memories = omega arith };
      bus = all.buses.each place b there;
      same_width = same_Some _ _ (sym (get_mapped (λ (x : Bus). x.width) bs place b there) ∙ ap (λ (l : List ℕ). slice_get l place) all.same_widths ∙ width_there);
      tells = λ run r ends told counts c v.
          let xs = slot_here run input.rows ends (rows_in run input) (suc c) in
          same_Some _ _ (sym (get_mapped (λ (x : Bus). run.at (suc c + cycles) x.node) bs place b there)
          ∙ ap (λ (l : Row). slice_get l place) (all.row run r ends told counts c v)
          ∙ get_mapped (value_of_frame run.held kinds xs) items place item at);
    }

pub items_many : (old net : Net) (input : SlotInput) (count : Bus) (cycles : ℕ) (items : List PlanFrame) (bs : List Bus) → AreSlotItemsIn old net input count cycles items bs → length bs ≡ length items
items_many old net input count cycles items bs all =
    let kinds = input.source.kinds.now in
    sym (length-map bs (λ (x : Bus). x.width)) ∙ ap length all.same_widths ∙ length-map (map (kind_of_frame kinds) items) width_of ∙ length-map items (kind_of_frame kinds)

-- in the netlist that there is
pub items_stand : (old net : Net) (input : SlotInput) (count : Bus) (cycles : ℕ) (items : List PlanFrame) (bs : List Bus) → AreSlotItemsIn old net input count cycles items bs → AreSlotItemsIn net net input count cycles items bs
items_stand old net input count cycles items bs all = record {
  keeps = same_keeps net;
  cost = record { nodes = omega arith; registers = omega arith; memories = omega arith };
  buses = all.buses;
  same_widths = all.same_widths;
  row = all.row;
}

pub items_more : (old mid new : Net) (input : SlotInput) (count : Bus) (cycles : ℕ) (items : List PlanFrame) (item : PlanFrame) (bs : List Bus) (b : Bus) → AreSlotItemsIn old mid input count cycles items bs
    → IsSlotItemIn mid new (cost_of_slot_item_late input.rows.slot.width input.source.kinds.now cycles item) cycles (width_of (kind_of_frame input.source.kinds.now item))
    (λ sets xs. value_of_frame sets input.source.kinds.now xs item) input count b
    → AreSlotItemsIn old new input count cycles (items ++ item ∷ []) (bs ++ b ∷ [])
items_more old mid new input count cycles items item bs b all one =
    let kinds = input.source.kinds.now in
    let slot : ℕ = input.rows.slot.width in
    record {
      keeps = keeps_then old mid new all.keeps one.keeps;
      cost = record {
        nodes = omega (arith, all.cost.nodes, one.cost.nodes, sum_push (λ i. (cost_of_slot_item_late slot kinds cycles i).nodes) items item);
        registers = omega (arith, all.cost.registers, one.cost.registers, sum_push (λ i. (cost_of_slot_item_late slot kinds cycles i).registers) items item);
        memories = omega (arith, all.cost.memories, one.cost.memories, sum_push (λ i. (cost_of_slot_item_late slot kinds cycles i).memories) items item);
      };
      buses = AreBuses-push new bs b (buses_kept mid new bs one.keeps all.buses) one.bus;
      same_widths = widths-push bs b ∙ ap (λ l. l ++ b.width ∷ []) all.same_widths ∙ ap (λ w. frames_widths kinds items ++ w ∷ []) one.same_width
          ∙ sym (ap (map width_of) (map-append (kind_of_frame kinds) items (item ∷ [])) ∙ map-append width_of (map (kind_of_frame kinds) items) (kind_of_frame kinds item ∷ []));
      row = λ run r ends told counts c v.
          let xs = slot_here run input.rows ends (rows_in run input) (suc c) in
          row_at-push run (suc c + cycles) bs b ∙ ap (λ l. l ++ run.at (suc c + cycles) b.node ∷ []) (all.row run (one.keeps.runs run r) ends told counts c v)
          ∙ ap (λ n. row_of_frames run.held kinds items xs ++ n ∷ []) (one.tells run r ends told counts c v) ∙ sym (map-append (value_of_frame run.held kinds xs) items (item ∷ []));
    }
