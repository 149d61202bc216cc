-- Items side by side, as late as the slowest, and the wire behind them.
use Rattle.std.proofs.Common.{◌≡◌, ℕ, zero, suc, ◌+◌, ◌-◌, ◌≤◌, ◌<◌, List, [], ◌∷◌, ◌++◌, length, map, take, Some, None, Bool, true, false, refl, sym, ap, ◌∙◌, subst, arith}
use Rattle.std.specs.Prelude.{if◌then◌else◌, slice_get, sum_by}
use Rattle.std.proofs.lemmas.List.{length-map, map-append}
use Rattle.std.proofs.lemmas.List.Sums.{sum_by-append, sum_by-cons}
use Rattle.std.proofs.lemmas.Option.{same_Some}
use Rattle.gl_bits.proofs.AllLists.{get_mapped}
use Rattle.gl_algebra.specs.Columns.{kind_of_frame}
use Rattle.gl_algebra.specs.Frames.{delay_of_frame, delay_of_frames}
use Rattle.gl_algebra.specs.Results.{row_of_frames, value_of_frame}
use Rattle.gl_algebra.specs.declared.node.PlanFrame.{PlanFrame}
use Rattle.gl_values.specs.Kinds.{width_of}
use Rattle.gl_values.specs.Results.{Row}
use Rattle.gl_values.specs.declared.kind.Kind.{Kind}
use Rattle.gl_net.specs.declared.node.Bus.{Bus}
use Rattle.gl_net.specs.Net.{Net, Run}
use Rattle.gl_net.proofs.Determined.{keeps_then}
use Rattle.gl_net.proofs.Growth.{same_keeps}
use Rattle.gl_wire.specs.Blocks.{IsBehind}
use Rattle.gl_wire.specs.Costs.{Cost}
use Rattle.gl_wire.specs.Shapes.{IsDelayed}
use Rattle.gl_wire.specs.Wire.{carried, line_at, row_at, wire_of}
use Rattle.gl_wire.specs.declared.emitted.Emitted.{Emitted}
use Rattle.gl_wire.specs.declared.wire.Wire.{Wire}
use Rattle.gl_wire.proofs.ColumnLemmas.{AreBuses-none, AreBuses-push, buses_kept, row_at-none, row_at-push, widths-push}
use Rattle.gl_wire.proofs.StageLemmas.{tuple_by}
use Rattle.gl_rows.specs.declared.operand.Source.{Source}
use Rattle.gl_frames_wire.specs.Laws.{StreamsRun}
use Rattle.gl_frames_wire.specs.Running.{Runs}
use Rattle.gl_frames_stages.specs.Columns.{LinesBehind, Tells, carried_by, column_of}
use Rattle.gl_frames_stages.specs.DelayNets.{AreLinesLate, IsLateIn, cost_of_late}
use Rattle.gl_frames_stages.specs.FramesNets.{AreItemsIn, frames_widths}
use Rattle.gl_frames_stages.specs.Inputs.{IsItemIn, rows_by}
use Rattle.gl_frames_stages.specs.ItemCosts.{cost_of_frames, cost_of_item, cost_of_item_late}
use Rattle.gl_frames_stages.specs.declared.input.Input.{Input}
use Rattle.gl_frames_stages.specs.declared.lines.Lines.{Lines}
use Rattle.gl_frames_stages.proofs.MeetLemmas.{tells_behind}

-- ---- an item later than it is

pub item_late : (old mid new : Net) (input : Input) (kinds : List Kind) (item : PlanFrame) (cycles : ℕ) (early out : Bus)
    → delay_of_frame kinds item ≤ cycles
    → IsItemIn old mid (cost_of_item kinds item) (delay_of_frame kinds item) (width_of (kind_of_frame kinds item)) (λ sets rows. value_of_frame sets kinds rows item) input early
    → IsLateIn mid new (cycles - delay_of_frame kinds item) early out
    → IsItemIn old new (cost_of_item_late kinds cycles item) cycles (width_of (kind_of_frame kinds item)) (λ sets rows. value_of_frame sets kinds rows item) input out
item_late old mid new input kinds item cycles early out le one late =
    let d : ℕ = delay_of_frame kinds item in
    let whole : d + (cycles - d) ≡ cycles = omega (arith, le) in
    let cost = ap (cost_of_late (cycles - d)) one.same_width in
    record {
      keeps = keeps_then old mid new one.keeps late.keeps;
      cost = record {
        nodes = omega (arith, one.cost.nodes, late.cost.nodes, ap (λ (k : Cost). k.nodes) cost);
        registers = omega (arith, one.cost.registers, late.cost.registers, ap (λ (k : Cost). k.registers) cost);
        memories = omega (arith, one.cost.memories, late.cost.memories, ap (λ (k : Cost). k.memories) cost);
      };
      bus = late.bus;
      same_width = late.same_width ∙ one.same_width;
      tells = λ run r.
          subst (λ n. Tells run input.lines n (λ rows. value_of_frame run.held kinds rows item) (rows_by run input) (carried_by run out)) whole
          (tells_behind run input.lines d (cycles - d) (λ rows. value_of_frame run.held kinds rows item) (rows_by run input) (carried_by run early) (carried_by run out) (late.value run r)
          (one.tells run (late.keeps.runs run r)));
    }

-- ---- side by side

sum_push : (f : PlanFrame → ℕ) (items : List PlanFrame) (item : PlanFrame) → sum_by f (items ++ item ∷ []) ≡ sum_by f items + f item
sum_push f items item = sum_by-append f items (item ∷ []) ∙ ap (λ n. sum_by f items + n) (sum_by-cons f item [] ∙ omega arith)

pub items_none : (net : Net) (cycles : ℕ) (input : Input) → AreItemsIn net net cycles input [] []
items_none net cycles input = record {
  keeps = same_keeps net;
  cost = record { nodes = omega arith; registers = omega arith; memories = omega arith };
  buses = AreBuses-none net;
  same_widths = refl;
  row = λ run r c v. row_at-none run (suc c + cycles);
}

pub items_more : (old mid new : Net) (cycles : ℕ) (input : Input) (items : List PlanFrame) (item : PlanFrame) (bs : List Bus) (b : Bus) → AreItemsIn old mid cycles input items bs
    → IsItemIn mid new (cost_of_item_late input.source.kinds.now cycles item) cycles (width_of (kind_of_frame input.source.kinds.now item)) (λ sets rows. value_of_frame sets input.source.kinds.now rows item) input b
    → AreItemsIn old new cycles input (items ++ item ∷ []) (bs ++ b ∷ [])
items_more old mid new cycles input items item bs b all one =
    let kinds = input.source.kinds.now in
    record {
      keeps = keeps_then old mid new all.keeps one.keeps;
      cost = record {
        nodes = omega (arith, all.cost.nodes, one.cost.nodes, sum_push (λ i. (cost_of_item_late kinds cycles i).nodes) items item);
        registers = omega (arith, all.cost.registers, one.cost.registers, sum_push (λ i. (cost_of_item_late kinds cycles i).registers) items item);
        memories = omega (arith, all.cost.memories, one.cost.memories, sum_push (λ i. (cost_of_item_late kinds cycles i).memories) items item);
      };
      buses = AreBuses-push new bs b (buses_kept mid new bs one.keeps all.buses) one.bus;
      same_widths = widths-push bs b ∙ ap (λ l. l ++ b.width ∷ []) all.same_widths ∙ ap (λ w. frames_widths kinds items ++ w ∷ []) one.same_width
          ∙ sym (ap (map width_of) (map-append (kind_of_frame kinds) items (item ∷ [])) ∙ map-append width_of (map (kind_of_frame kinds) items) (kind_of_frame kinds item ∷ []));
      row = λ run r c v.
          let rows = column_of run input.lines (rows_by run input) (suc c) in
          row_at-push run (suc c + cycles) bs b ∙ ap (λ l. l ++ run.at (suc c + cycles) b.node ∷ []) (all.row run (one.keeps.runs run r) c v)
          ∙ ap (λ n. row_of_frames run.held kinds items rows ++ n ∷ []) (one.tells run r c v) ∙ sym (map-append (value_of_frame run.held kinds rows) items (item ∷ []));
    }

-- ---- an item that is there already

-- its column tells it once more, and nothing is put
pub item_again : (old net : Net) (cycles : ℕ) (input : Input) (items : List PlanFrame) (item : PlanFrame) (bs : List Bus) (place : ℕ) (b : Bus) → AreItemsIn old net cycles input items bs
    → slice_get items place ≡ Some item → slice_get bs place ≡ Some b
    → IsItemIn net net (cost_of_item_late input.source.kinds.now cycles item) cycles (width_of (kind_of_frame input.source.kinds.now item)) (λ sets rows. value_of_frame sets input.source.kinds.now rows item) input b
unfolding row_at
item_again old net cycles input items item bs place b all at there =
    let kinds = input.source.kinds.now in
    let width_there : slice_get (frames_widths kinds items) place ≡ Some (width_of (kind_of_frame kinds item)) =
    get_mapped width_of (map (kind_of_frame kinds) items) place (kind_of_frame kinds item) (get_mapped (kind_of_frame kinds) items place item at) in
    record {
      keeps = same_keeps net;
      cost = record { nodes = omega arith; registers = omega arith; memories = omega arith };
      bus = all.buses.each place b there;
      same_width = same_Some _ _ (sym (get_mapped (λ (x : Bus). x.width) bs place b there) ∙ ap (λ (l : List ℕ). slice_get l place) all.same_widths ∙ width_there);
      tells = λ run r c v.
          let rows = column_of run input.lines (rows_by run input) (suc c) in
          same_Some _ _ (sym (get_mapped (λ (x : Bus). run.at (suc c + cycles) x.node) bs place b there)
          ∙ ap (λ (l : Row). slice_get l place) (all.row run r c v)
          ∙ get_mapped (value_of_frame run.held kinds rows) items place item at);
    }

-- as many columns as items
pub items_many : (old net : Net) (cycles : ℕ) (input : Input) (items : List PlanFrame) (bs : List Bus) → AreItemsIn old net cycles input items bs → length bs ≡ length items
items_many old net cycles input items bs all =
    let kinds = input.source.kinds.now in
    sym (length-map bs (λ (x : Bus). x.width)) ∙ ap length all.same_widths ∙ length-map (map (kind_of_frame kinds) items) width_of ∙ length-map items (kind_of_frame kinds)

-- what stands in front of a place stands there among all
pub taken_at : (items : List PlanFrame) (n place : ℕ) → place < n → slice_get (take n items) place ≡ slice_get items place
taken_at items zero place h = absurd (omega (arith, h))
taken_at [] (suc n) place h = refl
taken_at (x ∷ items) (suc n) zero h = refl
taken_at (x ∷ items) (suc n) (suc place) h = taken_at items n place (omega (arith, h))

-- in the netlist that there is
pub items_stand : (old net : Net) (cycles : ℕ) (input : Input) (items : List PlanFrame) (bs : List Bus) → AreItemsIn old net cycles input items bs → AreItemsIn net net cycles input items bs
items_stand old net cycles input items bs all = record {
  keeps = same_keeps net;
  cost = record { nodes = omega arith; registers = omega arith; memories = omega arith };
  buses = all.buses;
  same_widths = all.same_widths;
  row = all.row;
}

-- ---- the wire

module _ (run : Run) (a : Wire) (later : Lines) (outs : List Bus) (m : ℕ) (behind : LinesBehind run m (record { valid = a.valid; eos = a.eos }) later) where
  not_yet : (c : ℕ) (b : Bool) (r : Row) → b ≡ false → (if b then Some r else None) ≡ None
  not_yet c true r e = absurd (cc)
  not_yet c false r e = refl

  pub frames_delayed : IsDelayed m (record { tuple = λ c. if line_at run a.valid c then Some (row_at run (c + m) outs) else None; ends = line_at run a.eos }) (carried run (wire_of later.valid later.eos outs))
  frames_delayed = record {
    before = λ c lt. tuple_by run later.valid outs c ∙ not_yet c (line_at run later.valid c) (row_at run c outs) (behind.rows.before c lt);
    no_end = behind.ends.before;
    tuples = λ c. tuple_by run later.valid outs (c + m) ∙ ap (λ (b : Bool). if b then Some (row_at run (c + m) outs) else None) (behind.rows.line c);
    ends = behind.ends.line;
  }

pub frames_behind : StreamsRun → (old mid new : Net) (a : Emitted) (items : List PlanFrame) (source : Source) (outs : List Bus) (later : Lines) → source.columns.now ≡ a.wire.columns
    → AreItemsIn old mid (delay_of_frames source.kinds.now items) (record { lines = record { valid = a.wire.valid; eos = a.wire.eos }; source = source }) items outs
    → AreLinesLate mid new (delay_of_frames source.kinds.now items) (record { valid = a.wire.valid; eos = a.wire.eos }) later
    → IsBehind old new (λ sets. Runs (delay_of_frames source.kinds.now items) (λ rows. Some (row_of_frames sets source.kinds.now items rows))) (frames_widths source.kinds.now items)
    (cost_of_frames source.kinds.now (delay_of_frames source.kinds.now items) items) a (record { wire = wire_of later.valid later.eos outs; faults = a.faults })
frames_behind streams_run old mid new a items source outs later is_columns all lines =
    let kinds = source.kinds.now in
    let m : ℕ = delay_of_frames kinds items in
    record {
      keeps = keeps_then old mid new all.keeps lines.keeps;
      cost = record {
        nodes = omega (arith, all.cost.nodes, lines.cost.nodes);
        registers = omega (arith, all.cost.registers, lines.cost.registers);
        memories = omega (arith, all.cost.memories, lines.cost.memories);
      };
      wire = record { valid = lines.row_line; eos = lines.end_line; columns = buses_kept mid new outs lines.keeps all.buses };
      same_widths = all.same_widths;
      faults = refl;
      shape = λ run r.
          streams_run m (row_of_frames run.held kinds items) run a.wire (λ c. row_at run (c + m) outs) (carried run (wire_of later.valid later.eos outs))
          (λ c v.
          all.row run (lines.keeps.runs run r) c v
          ∙ ap (λ (bs : List Bus). row_of_frames run.held kinds items (column_of run (record { valid = a.wire.valid; eos = a.wire.eos }) (λ t. row_at run t bs) (suc c))) is_columns)
          (frames_delayed run a.wire later outs m (lines.behind run r));
    }
