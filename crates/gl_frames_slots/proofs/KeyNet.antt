-- Frames of each key, from the lane, the rows one cycle later, and their items.
use Rattle.std.proofs.Common.{◌≡◌, ℕ, zero, suc, ◌+◌, ◌-◌, ◌≤◌, List, Some, None, Bool, true, false, refl, sym, ap, ◌∙◌, subst, arith, inl, inr}
use Rattle.std.specs.Prelude.{if◌then◌else◌}
use Rattle.std.proofs.lemmas.Bool.{cases_lt}
use Rattle.gl_algebra.specs.Results.{row_of_frames}
use Rattle.gl_algebra.specs.declared.node.PlanFrame.{PlanFrame}
use Rattle.gl_values.specs.Results.{Row}
use Rattle.gl_values.specs.declared.kind.Kind.{Kind}
use Rattle.gl_net.specs.declared.node.Bit.{Bit}
use Rattle.gl_net.specs.declared.node.Bus.{Bus}
use Rattle.gl_net.specs.Net.{Run}
use Rattle.gl_divide.specs.Divider.{IsLineBehind}
use Rattle.gl_wire.specs.declared.wire.Wire.{Wire}
use Rattle.gl_wire.specs.Shapes.{IsDelayed}
use Rattle.gl_wire.specs.Wire.{Carried, carried, line_at, row_at}
use Rattle.gl_wire.proofs.StageLemmas.{line_first}
use Rattle.gl_wire_lanes.specs.Shares.{lane_of, rows_of}
use Rattle.gl_frames.specs.Frames.{by_key}
use Rattle.gl_frames_keys.specs.Lanes.{IsKeyedLane, IsLaneLate, leaves_out}
use Rattle.gl_frames_keys.proofs.KeyedLemmas.{partitions_serve}
use Rattle.gl_frames_keys.proofs.LateLemmas.{delayed_both, left_late}
use Rattle.gl_frames_keys.proofs.LaterLemmas.{lanes_late}
use Rattle.gl_frames_keys.proofs.OpenLemmas.{lanes_open}
use Rattle.gl_frames_keys.proofs.SlotKeyLemmas.{keyed_run}
use Rattle.gl_frames_lanes.specs.LaneNets.{IsLaneBehind, key_in}
use Rattle.gl_frames_lanes.specs.declared.lane.KeyLane.{KeyLane}
use Rattle.gl_frames_lanes.specs.declared.lane.Keys.{Keys}
use Rattle.gl_frames_lanes.proofs.LaneNet.{after, after_is, line_behind, row_behind}
use Rattle.gl_frames_wire.specs.Running.{Runs}
use Rattle.gl_frames_wire.specs.Since.{all_ends, rows_here}
use Rattle.gl_frames_slots.specs.KeyNets.{AreItemsOn, AreKeyFrames, AreRowsLate, items_delay, key_delay}
use Rattle.gl_frames_slots.specs.Rows.{AreTold, lane_at}
use Rattle.gl_frames_slots.specs.declared.keyed.KeyRows.{KeyRows}

-- what comes so many cycles later
abbrev after_by : ℕ → Carried → Carried
after_by zero a = a
after_by (suc d) a = after_by d (after a)

after_by_is : (d : ℕ) (a : Carried) → IsDelayed d a (after_by d a)
after_by_is zero a = record {
  before = λ c l. absurd (omega (arith, l));
  no_end = λ c l. absurd (omega (arith, l));
  tuples = λ c. let e : c + zero ≡ c = omega arith in ap a.tuple e;
  ends = λ c. let e : c + zero ≡ c = omega arith in ap a.ends e;
}
after_by_is (suc d) a =
    let whole : 1 + d ≡ suc d = omega arith in
    subst (λ n. IsDelayed n a (after_by d (after a))) whole (delayed_both 1 d a (after a) (after_by d (after a)) (after_is a) (after_by_is d (after a)))

none_out : (groups : ℕ) (key : Row → ℕ) (a : Carried) (c : ℕ) → a.tuple c ≡ None → leaves_out groups key a c ≡ false
none_out groups key a c e = rw (e) refl

-- a line that tells of rows that are left out, so many cycles later
module _ (run : Run) (groups : ℕ) (key : Row → ℕ) (a : Carried) (line out : Bit) (wait : ℕ) (told : (c : ℕ) → line_at run line c ≡ leaves_out groups key a c) (behind : IsLineBehind run wait line out) where
  abbrev b : Carried
  b = after_by wait a

  told_late : (c : ℕ) → line_at run out c ≡ leaves_out groups key b c
  told_late c = elim (cases_lt c wait) [
    | inl l ↦ behind.before c l ∙ sym (none_out groups key b c ((after_by_is wait a).before c l))
    | inr l ↦ (
        let at : c ≡ c - wait + wait = omega (arith, l) in
        ap (line_at run out) at ∙ behind.line (c - wait) ∙ told (c - wait) ∙ sym (ap (leaves_out groups key b) at ∙ left_late wait a b (after_by_is wait a) groups key (c - wait))
        )
  ]

module _ (run : Run) (cycles : ℕ) (some : 1 ≤ cycles) (keys : Keys) (source : Wire) (lane : KeyLane) (late : KeyRows) (is_lane : IsLaneBehind cycles run keys source lane) (same_line : late.rows.valid ≡ late.wire.valid)
    (same_begins : late.rows.begins ≡ lane.first) (same_next : late.rows.next ≡ lane.slot) (is_late : AreRowsLate run lane late) where
  abbrev key : Row → ℕ
  key = key_in keys.column

  abbrev pub ends : ℕ → Bool
  ends = line_at run late.wire.eos

  abbrev row : ℕ → Row
  row t = row_at run t late.wire.columns

  -- the source one cycle later than the lane
  abbrev source_late : Carried
  source_late = after is_lane.late

  valid_late : (t : ℕ) → line_at run late.rows.valid (suc t) ≡ line_at run lane.wire.valid t
  valid_late t =
      ap (λ (b : Bit). line_at run b (suc t)) same_line
      ∙ line_behind run lane.wire.valid late.wire.valid lane.wire.columns late.wire.columns t (is_late.delayed.tuples t)

  goes_late : IsLaneLate (lane_of run lane.wire lane.slot lane.first) (lane_at run late.rows ends) (rows_of run lane.wire) row
  goes_late = record {
    no_row = line_first run late.rows.valid;
    no_first = line_first run late.rows.first;
    no_end = line_first run late.wire.eos;
    rows = valid_late;
    firsts = is_late.firsts;
    ends = λ c. let e : c + 1 ≡ suc c = omega arith in ap ends (sym e) ∙ is_late.delayed.ends c;
    slots = is_late.slots;
    values = λ c v. row_behind run lane.wire.valid late.wire.valid lane.wire.columns late.wire.columns (suc c) (is_late.delayed.tuples (suc c)) v;
  }

  keyed : IsKeyedLane keys.groups key source_late (lane_at run late.rows ends) row
  keyed = lanes_late keys.groups key is_lane.late source_late (lane_of run lane.wire lane.slot lane.first) (lane_at run late.rows ends) (rows_of run lane.wire) row
      is_lane.lane (is_lane.behind.before 0 (omega (arith, some))) (after_is is_lane.late) goes_late

  pub told : AreTold run late.rows ends
  told = record {
    quiet = valid_late 0 ∙ line_first run lane.wire.valid;
    slots = λ t. is_late.slots t ∙ sym (ap (λ (b : Bus). run.at (suc t) b.node) same_next);
    firsts = λ t. is_late.firsts t ∙ sym (ap (λ (b : Bit). line_at run b t) same_begins);
    opens = lanes_open keys.groups key source_late (lane_at run late.rows ends) row keyed ((after_is is_lane.late).before 0 (omega arith));
  }

  module _ (wait : ℕ) (kinds : List Kind) (items : List PlanFrame) (out : Wire) (further : Bit) (are : AreItemsOn run late kinds (items_delay wait kinds items) items out ends)
      (line_late : IsLineBehind run wait lane.further further) where
    abbrev m : ℕ
    m = items_delay wait kinds items

    is_made : (c : ℕ) → line_at run late.rows.valid c ≡ true → row_at run (c + m) out.columns ≡ row_of_frames run.held kinds items (rows_here (all_ends (lane_at run late.rows ends)) (lane_at run late.rows ends) row c)
    is_made zero v = absurd (let z = line_first run late.rows.valid in cc (z, v))
    is_made (suc c) v = are.tells c v

    same_rows : IsDelayed m (record { tuple = λ c. if line_at run late.rows.valid c then Some (row_at run (c + m) out.columns) else None; ends = ends }) (carried run out)
    same_rows = record {
      before = are.delayed.before;
      no_end = are.delayed.no_end;
      tuples = λ c. are.delayed.tuples c ∙ sym (ap (λ (b : Bit). if line_at run b c then Some (row_at run (c + m) out.columns) else None) same_line);
      ends = are.delayed.ends;
    }

    -- the cycles of the look-up, and those that rows wait
    abbrev found : ℕ
    found = cycles + wait

    runs : Runs (key_delay found kinds items) (by_key keys.groups key (row_of_frames run.held kinds items)) (carried run source) (carried run out)
    runs =
        let whole : cycles + 1 + m ≡ key_delay found kinds items = omega arith in
        subst (λ n. Runs n (by_key keys.groups key (row_of_frames run.held kinds items)) (carried run source) (carried run out)) whole
        (keyed_run m (cycles + 1) keys.groups key (row_of_frames run.held kinds items) (carried run source) source_late (carried run out) (lane_at run late.rows ends) row (λ c. row_at run (c + m) out.columns)
        (delayed_both cycles 1 (carried run source) is_lane.late source_late is_lane.behind (after_is is_lane.late)) keyed is_made same_rows)

    -- the source as late as the line of further keys
    abbrev told_source : Carried
    told_source = after_by wait is_lane.late

    behind : IsDelayed found (carried run source) told_source
    behind = delayed_both cycles wait (carried run source) is_lane.late told_source is_lane.behind (after_by_is wait is_lane.late)

    tells : (c : ℕ) → line_at run further c ≡ leaves_out keys.groups key told_source c
    tells = told_late run keys.groups key is_lane.late lane.further further wait is_lane.further line_late

    pub frames_are : AreKeyFrames found run keys kinds items source (record { wire = out; further = further })
    frames_are = record {
      runs = runs;
      late = told_source;
      behind = behind;
      further = tells;
      serves = λ f sound.
          let few : found ≤ key_delay found kinds items = omega arith in
          partitions_serve (key_delay found kinds items) found keys.groups key (row_of_frames run.held kinds items) f (carried run source) told_source (carried run out) (line_at run further)
          sound few runs behind tells;
    }
