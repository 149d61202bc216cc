-- The circuits of groups over direct bodies.
use Rattle.std.proofs.Common.{◌≡◌, ℕ, zero, suc, ◌+◌, ◌-◌, ◌*◌, ◌<◌, ◌≤◌, inl, inr, List, [], ◌∷◌, length, Option, Some, None, Bool, true, false, ◌||◌, refl, sym, ap, ◌∙◌, subst, arith, eq-eqb}
use Rattle.std.specs.Prelude.{◌&&◌, if◌then◌else◌, nat_eq, slice_get, slice_index}
use Rattle.std.specs.List.{All, sum}
use Rattle.std.proofs.lemmas.Bool.{cases_lt, eqb-true}
use Rattle.std.proofs.lemmas.List.{length-map}
use Rattle.std.proofs.lemmas.List.Sums.{sum_by-cons}
use Rattle.std.proofs.lemmas.Option.{slice_get_within}
use Rattle.gl_bits.proofs.Bools.{and_left, and_right, or_right}
use Rattle.gl_values.specs.Kinds.{IsKind, width_of}
use Rattle.gl_values.specs.Results.{Row}
use Rattle.gl_values.specs.declared.kind.Kind.{Kind}
use Rattle.gl_algebra.specs.declared.figures.Figures.{Figures}
use Rattle.gl_algebra.specs.declared.node.PlanNode.{PlanNode}
use Rattle.gl_algebra.specs.declared.node.PlanNode.TheVariants.{Aggregate}
use Rattle.gl_algebra.specs.Columns.{kind_of_agg, kind_of_column}
use Rattle.gl_algebra.specs.Direct.{form_of, is_direct}
use Rattle.gl_algebra.specs.FigureTable.{delay_of_aggs, figures_of, group_gap, groups_over, stride_of}
use Rattle.gl_algebra.specs.Fits.{IsPlan}
use Rattle.gl_algebra.specs.Laws.{FollowsTables}
use Rattle.gl_algebra.specs.Results.{Inputs, IsPlanResult, given}
use Rattle.gl_algebra.specs.Shapes.{Shape, kinds_of, shape_of}
use Rattle.gl_frames_wire.proofs.ReachLemmas.{few_exponents, from_exponent}
use Rattle.gl_net.specs.declared.node.Bit.{Bit}
use Rattle.gl_net.specs.declared.node.Bus.{Bus}
use Rattle.gl_net.specs.Net.{Net, Run, IsRun, Keeps}
use Rattle.gl_net.proofs.Determined.{keeps_then}
use Rattle.gl_groups.specs.declared.laning.Lane.{Lane}
use Rattle.gl_slots.specs.Fronts.{KeysCome}
use Rattle.gl_slots.specs.Keys.{AreKeys, AwaitsTurns, line_of_further}
use Rattle.gl_groups.specs.Groupings.{AwaitsFlush, OfGroups, key_of}
use Rattle.gl_slots.specs.Joins.{width_of_keys}
use Rattle.gl_groups.specs.Laned.{IsGathered, IsLaned, cost_of_lane, words_of_keys}
use Rattle.gl_groups.specs.LaneLaws as lane_laws
use Rattle.gl_slots.specs.Picks.{bits_of_slots}
use Rattle.gl_slots.specs.Slots.{AreSlots}
use Rattle.gl_groups.proofs.GroupLemmas.{groups_then}
use Rattle.gl_slots.proofs.BackNet.{width_first}
use Rattle.gl_wire.specs.declared.emitted.Emitted.{Emitted}
use Rattle.gl_wire.specs.declared.emitted.Faults.{Faults}
use Rattle.gl_wire.specs.declared.wire.Wire.{Wire}
use Rattle.gl_wire.specs.Beats.{Beats, Spaced}
use Rattle.gl_wire.specs.Costs.{CostsAtMost}
use Rattle.gl_wire.specs.Faults.{AreBoth, line_of, lines_of}
use Rattle.gl_wire.specs.Serves.{Fits}
use Rattle.gl_wire.specs.Serving.{inputs_at}
use Rattle.gl_wire.specs.Spills.{Lines, SameLines, ServedWithLines, both_lines, no_lines}
use Rattle.gl_wire.specs.Wire.{carried, line_at, row_at, widths}
use Rattle.gl_wire.proofs.ColumnLemmas.{bit_kept, bus_kept, wire_kept}
use Rattle.gl_wire.proofs.DelayLemmas.{spaced_closer}
use Rattle.gl_wire.proofs.FaultLemmas.{lines_kept}
use Rattle.gl_wire.proofs.ServingLemmas.{serving_as, serving_lines}
use Rattle.gl_wire.proofs.StageLemmas.{line_first, tuple_by}
use Rattle.gl_wire.specs.Bodies.{OfBody, alone}
use Rattle.gl_wire.specs.Rotates.{any_of, lines_of_all, turns_of}
use Rattle.gl_wire_lanes.specs.declared.table.TableOut.{TableOut}
use Rattle.gl_wire_lanes.specs.Lanes.{Begins}
use Rattle.gl_wire_lanes.specs.Shares.{lane_of, share, slot_of}
use Rattle.gl_wire_registers.specs.Timers.{IsClose}
use Rattle.gl_wire_registers.proofs.LineLemmas.{bits_kept}
use Rattle.gl_wiring.specs.declared.groups.GroupOf.{GroupOf}
use Rattle.gl_wiring.specs.declared.lanes.Laned.{Laned}
use Rattle.gl_wiring.specs.Below.{LawsBelow}
use Rattle.gl_wiring.specs.Copies.{IsSpacedFor}
use Rattle.gl_wiring.specs.Groups.{IsGroupNode, group_whole, grouping_of, spaced_source}
use Rattle.gl_wiring.specs.LaneGroups.{HasLane, IsGroupLane}
use Rattle.gl_wiring.specs.Lanes.{IsBodyTable, IsDirectBehind, cost_of_body, has_room, place_of}
use Rattle.gl_wiring.specs.Leaves.{HaveLeaves, leaf, widths_of}
use Rattle.gl_wiring.specs.Put.{Gives, IsPutBehind, own_cost}
use Rattle.gl_wiring.proofs.BodyLemmas.{columns_between, source_apart, source_cost, source_gives, source_keeps}
use Rattle.gl_wiring.proofs.CanLemmas.{first_within}
use Rattle.gl_wiring.proofs.CopyLemmas.{body_leaves}
use Rattle.gl_wiring.proofs.FormLemmas.{IsDirect, direct_is}
use Rattle.gl_wiring.proofs.GroupCosts.{key_width_is}
use Rattle.gl_wiring.proofs.GroupLemmas.{fits, follows, in_body, in_source, room, sound_source}
use Rattle.gl_wiring.proofs.LaneCosts.{lane_cost, words_fit}
use Rattle.gl_wiring.proofs.TotalCosts.{delay_some, delays_within}

-- ---- the bits of a slot's number

pub some_bits : (slots : ℕ) → 1 ≤ bits_of_slots slots
some_bits slots = from_exponent slots 1 slots

pub few_bits : (slots : ℕ) → slots ≤ 256 → bits_of_slots slots ≤ 8
few_bits slots few = few_exponents 8 slots 1 slots (omega arith) few

-- ---- keys of one width

keys_alike : (keys : List Bus) (w : ℕ) → ((k : ℕ) (b : Bus) → slice_get keys k ≡ Some b → b.width ≡ w) → (k : ℕ) (b : Bus) → slice_get keys k ≡ Some b → b.width ≡ width_of_keys keys
keys_alike [] w h k b e = absurd (cc)
keys_alike (x ∷ xs) w h k b e = h k b e ∙ sym (h 0 x refl)

-- ---- lines

none_of : (n : ℕ) → any_of (λ k. false) n ≡ false
none_of zero = refl
none_of (suc n) = ap (λ b. b || false) (none_of n)

-- what a group over a direct body tells is its source's lines and that of further keys
own_lines : (count : ℕ) (before own : Lines) → SameLines (both_lines before own) (both_lines before (both_lines (lines_of_all (λ k. no_lines) count) own))
own_lines count before own = record {
  passed = λ c. ap (λ b. before.passed c || (b || own.passed c)) (sym (none_of count));
  further = λ c. ap (λ b. before.further c || (b || own.further c)) (sym (none_of count));
}

same_then : (p q r : Lines) → SameLines p q → SameLines q r → SameLines p r
same_then p q r h i = record { passed = λ c. h.passed c ∙ i.passed c; further = λ c. h.further c ∙ i.further c }

-- ---- the lane

module _ (laws : LawsBelow) (nodes : List PlanNode) (g : GroupOf) (plan : IsPlan nodes) (at : IsGroupNode nodes g) where
  abbrev s : Figures
  s = figures_of nodes g.body

  abbrev f : Figures
  f = spaced_source nodes g

  abbrev h : Figures
  h = group_whole nodes g

  -- the source spaced, and the lane behind it
  pub lane_behind : (old net new : Net) (tick : Option Bit) (leaves : List Wire) (below between : Emitted) (l : Lane) → Gives nodes g.source old tick leaves below
      → IsSpacedFor old net (group_gap s) (figures_of nodes g.source) below between → IsLaned net new (grouping_of nodes g) between.wire l
      → IsGroupLane nodes g old new tick leaves (record { source = between; lane = l })
  lane_behind old net new tick leaves below between l put sp is =
      let gap = group_gap s in
      let apart = room laws nodes g plan at in
      let columns = columns_between nodes g.source gap h apart old net new tick leaves below between put sp is.keeps in
      let fore : CostsAtMost net new (cost_of_lane g.groups g.key (widths_of (kinds_of nodes g.source))) =
      subst (λ (cs : List ℕ). CostsAtMost net new (cost_of_lane g.groups g.key cs)) columns is.cost in
      record {
        keeps = source_keeps nodes g.source gap h apart old net new tick leaves below between put sp is.keeps;
        cost = source_cost nodes g.source gap h apart old net new tick leaves below between put sp is.keeps _ fore;
        gives = source_gives nodes g.source gap h apart old net new tick leaves below between put sp is.keeps;
        apart = source_apart nodes g.source gap h apart old net new tick leaves below between put sp is.keeps;
        lane = is.lane;
      }

  -- it is the input of the body
  pub lane_leaves : (old new : Net) (tick : Option Bit) (leaves : List Wire) (l : Laned) → IsGroupLane nodes g old new tick leaves l
      → HaveLeaves new (l.lane.wire ∷ []) (shape_of nodes g.body).leaves
  lane_leaves old new tick leaves l is =
      body_leaves new l.lane.wire (kinds_of nodes g.source) is.lane.wire (is.lane.same_widths ∙ is.gives.same_widths) (shape_of nodes g.body).leaves
      (fits laws nodes g plan at).suits.0.leaves

  pub few_slots : (old new : Net) (tick : Option Bit) (leaves : List Wire) (l : Laned) → IsGroupLane nodes g old new tick leaves l → l.lane.slot.width ≤ 8
  few_slots old new tick leaves l is = let few = few_bits g.groups (fits laws nodes g plan at).suits.2.most in omega (arith, is.lane.slot_width, few)

  pub some_slots : (old new : Net) (tick : Option Bit) (leaves : List Wire) (l : Laned) → IsGroupLane nodes g old new tick leaves l → 1 ≤ l.lane.slot.width
  some_slots old new tick leaves l is = let some = some_bits g.groups in omega (arith, is.lane.slot_width, some)

  -- the slots' keys are as wide as the one that comes
  keys_here : (old new : Net) (tick : Option Bit) (leaves : List Wire) (l : Laned) → IsGroupLane nodes g old new tick leaves l → width_of_keys l.lane.keys ≡ l.lane.here.width
  keys_here old new tick leaves l is =
      width_first l.lane.keys (slice_index (widths l.source.wire.columns) g.key) (omega (arith, is.lane.keys_count, (fits laws nodes g plan at).suits.2.least)) (λ k b e. (is.lane.keys k b e).1)
      ∙ sym is.lane.here_width

  -- also once the body is put
  pub lane_there : (old mid new : Net) (tick : Option Bit) (leaves : List Wire) (l : Laned) → Keeps mid new → IsGroupLane nodes g old mid tick leaves l → HasLane new g.groups l
  lane_there old mid new tick leaves l keeps is = record {
    close = bit_kept mid new l.lane.close keeps is.lane.close;
    keys = record {
      each = λ k b e. bus_kept mid new b keeps (is.lane.keys k b e).0;
      same_width = keys_alike l.lane.keys (slice_index (widths l.source.wire.columns) g.key) (λ k b e. (is.lane.keys k b e).1);
    };
    keys_count = is.lane.keys_count;
    nexts = bits_kept mid new l.lane.nexts keeps is.lane.nexts;
    nexts_count = is.lane.nexts_count;
    here = bus_kept mid new l.lane.here keeps is.lane.here_bus;
    here_width = sym (keys_here old mid tick leaves l is);
    further = bit_kept mid new l.lane.further keeps is.lane.further;
    lines = lines_kept mid new l.source.faults keeps is.gives.lines;
  }

  -- ---- what gathers the totals of its slots

  module _ (old mid net last new : Net) (tick : Option Bit) (leaves : List Wire) (l : Laned) (out : TableOut) (wire : Wire) (faults : Faults) (is : IsGroupLane nodes g old mid tick leaves l)
      (direct : is_direct (form_of nodes g.body) ≡ true) (t : IsBodyTable nodes g.body mid net l.lane.wire (place_of l.lane) out)
      (stored : Bool) (stores : stored ≡ true → has_room (kinds_of nodes t.child) t.aggs l.lane.here.width ≡ true) (ga : IsGathered net last (grouping_of nodes g) l.lane out stored wire)
      (both : AreBoth last new l.source.faults (record { passed = None; further = Some l.lane.further }) faults) where
    abbrev own_kinds : List Kind
    own_kinds = kind_of_column (kinds_of nodes g.source) g.key ∷ kinds_of nodes g.body

    abbrev delay : ℕ
    delay = delay_of_aggs (kinds_of nodes t.child) t.aggs

    some_delay : 1 ≤ delay
    some_delay =
        let in_child = first_within nodes g.body (Aggregate t.child t.aggs) plan t.at t.child [] refl in
        delay_some (kinds_of nodes t.child) (laws.columns_have_kinds nodes t.child plan in_child) t.aggs

    below : FollowsTables nodes g.body (Aggregate t.child t.aggs)
    below = laws.nodes_follow_tables nodes g.body (Aggregate t.child t.aggs) plan t.at

    is_totals : IsDirect (form_of nodes t.child) (kinds_of nodes t.child) t.aggs
    is_totals = direct_is (form_of nodes t.child) (kinds_of nodes t.child) t.aggs (sym (ap is_direct below.form) ∙ direct)

    key_width : width_of_keys l.lane.keys ≡ l.lane.here.width
    key_width = keys_here old mid tick leaves l is

    key : width_of_keys l.lane.keys ≡ width_of (kind_of_column (kinds_of nodes g.source) g.key)
    key = key_width ∙ is.lane.here_width ∙ ap (λ (ws : List ℕ). slice_index ws g.key) is.gives.same_widths ∙ key_width_is (kinds_of nodes g.source) g.key (fits laws nodes g plan at).suits.1

    own : width_of_keys l.lane.keys ∷ widths out.wire.columns ≡ widths_of own_kinds
    own = ap (λ w. w ∷ widths out.wire.columns) key ∙ ap (λ (ws : List ℕ). width_of (kind_of_column (kinds_of nodes g.source) g.key) ∷ ws) t.same_widths

    many : length (widths out.wire.columns) ≡ length t.aggs
    many = ap length t.same_widths ∙ length-map (kinds_of nodes g.body) width_of ∙ ap (λ (x : Shape). length x.kinds) below.shape
        ∙ length-map t.aggs (kind_of_agg (kinds_of nodes t.child))

    bits : width_of_keys l.lane.keys + sum (widths out.wire.columns) ≡ sum (widths_of own_kinds)
    bits = sym (sum_by-cons (λ (w : ℕ). w) (width_of_keys l.lane.keys) (widths out.wire.columns)) ∙ ap sum own

    gathered : CostsAtMost net last (record { nodes = g.groups * 4 + length t.aggs + 4; registers = sum (widths_of own_kinds) + 2; memories = words_of_keys stored g.groups l.lane })
    gathered = record {
      nodes = omega (arith, ga.cost.nodes, many);
      registers = omega (arith, ga.cost.registers, bits);
      memories = omega (arith, ga.cost.memories);
    }

    tables : CostsAtMost mid net (cost_of_body nodes t.child t.aggs (bits_of_slots g.groups))
    tables = subst (λ (w : ℕ). CostsAtMost mid net (cost_of_body nodes t.child t.aggs w)) is.lane.slot_width t.cost

    cost : CostsAtMost old new (own_cost nodes g.id)
    cost =
        let kinds = kinds_of nodes t.child in
        let in_child = first_within nodes g.body (Aggregate t.child t.aggs) plan t.at t.child [] refl in
        let suits = (plan.fits g.body (Aggregate t.child t.aggs) t.at).suits in
        lane_cost laws nodes g plan at (laws.columns_have_kinds nodes g.source plan (in_source laws nodes g plan at))
        (subst (λ (x : Shape). All IsKind x.kinds) (follows laws nodes g plan at).shape (laws.columns_have_kinds nodes g.id plan (slice_get_within nodes g.id _ at)))
        t.child t.aggs t.at (fits laws nodes g plan at).suits.2.least is_totals.some' (fits laws nodes g plan at).suits.1 (few_bits g.groups (fits laws nodes g plan at).suits.2.most)
        (delays_within kinds (laws.columns_have_kinds nodes t.child plan in_child) t.aggs suits) some_delay
        (below.form ∙ is_totals.is) old mid net last new is.cost tables (words_of_keys stored g.groups l.lane)
        (words_fit kinds (laws.columns_have_kinds nodes t.child plan in_child) t.aggs suits stored g.groups l.lane.here.width l.lane key_width stores) gathered both.cost

    module _ (run : Run) (r : IsRun new run) where
      run_last : IsRun last run
      run_last = both.keeps.runs run r

      run_net : IsRun net run
      run_net = ga.keeps.runs run run_last

      run_mid : IsRun mid run
      run_mid = t.keeps.runs run run_net

      behind : IsDirectBehind run t.depth delay (t.step run.held) (t.total run.held) l.lane.wire (place_of l.lane) out
      behind = t.behind run run_net

      came : (o : Option Row) (x : Row) → o ≡ Some x → o ≡ None → ⊥
      came o x p q = cc (p, q)

      low : (e : Bool) → e ≡ true → e ≡ false → ⊥
      low e p q = cc (p, q)

      end_came : (e : Bool) (x y : Row) → (if e then Some y else None) ≡ Some x → e ≡ true
      end_came true x y p = refl
      end_came false x y p = absurd (cc)

      -- an end that the operators give is that of a slot
      end_within : (k c : ℕ) → behind.slot_mid c ≡ k → behind.mid.ends c ≡ true → k < g.groups
      end_within k c of e = elim (cases_lt c t.depth) [
        | inl lt ↦ absurd (low _ e (behind.rows.no_end c lt))
        | inr le ↦ at_beat (c - t.depth) (omega (arith, le))
      ]
        where
          at_beat : (x : ℕ) → c ≡ x + t.depth → k < g.groups
          at_beat zero z = absurd (low _ (sym (behind.rows.ends zero) ∙ ap behind.mid.ends (sym z) ∙ e) (line_first run l.lane.wire.eos))
          at_beat (suc x) z =
              let ended : line_at run l.lane.wire.eos (suc x) ≡ true = sym (behind.rows.ends (suc x)) ∙ ap behind.mid.ends (sym z) ∙ e in
              let own_slot : slot_of run l.lane.slot (suc x) ≡ k = sym (behind.slots x) ∙ ap behind.slot_mid (sym z) ∙ of in
              let few = is.lane.within run run_mid (suc x) (or_right (line_at run l.lane.wire.valid (suc x)) (line_at run l.lane.wire.eos (suc x)) ended) in
              omega (arith, few, own_slot)

      -- and so is a row of the table, where the lane tells where streams begin
      row_within : Begins (lane_of run l.lane.wire l.lane.slot l.lane.first) → (c : ℕ) (x : Row) → (carried run out.wire).tuple c ≡ Some x → slot_of run out.slot c < g.groups
      row_within begins c x p =
          let k = slot_of run out.slot c in
          let rows = behind.table begins k in
          let shared : (share (slot_of run out.slot) k (carried run out.wire)).tuple c ≡ Some x =
          ap (λ z. if z then (carried run out.wire).tuple c else None) (eq-eqb k k refl) ∙ p in
          elim (cases_lt c delay) [
            | inl lt ↦ absurd (came _ x shared (rows.before c lt))
            | inr le ↦
                (let z : c ≡ (c - delay) + delay = omega (arith, le) in
                let ended : (nat_eq (behind.slot_mid (c - delay)) k && behind.mid.ends (c - delay)) ≡ true =
                end_came _ x _ (sym (rows.tuples (c - delay)) ∙ ap (share (slot_of run out.slot) k (carried run out.wire)).tuple (sym z) ∙ shared) in
                end_within k (c - delay) (eqb-true (behind.slot_mid (c - delay)) k (and_left (nat_eq (behind.slot_mid (c - delay)) k) (behind.mid.ends (c - delay)) ended))
                (and_right (nat_eq (behind.slot_mid (c - delay)) k) (behind.mid.ends (c - delay)) ended))
          ]

      abbrev d : Figures
      d = lane_laws.direct_figures t.depth delay

      no_row : (carried run l.lane.wire).tuple 0 ≡ None
      no_row = tuple_by run l.lane.wire.valid l.lane.wire.columns 0
          ∙ ap (λ (b : Bool). if b then Some (row_at run 0 l.lane.wire.columns) else None) (line_first run l.lane.wire.valid)

      come : KeysCome run g.key g.groups (stride_of (figures_of nodes g.body)) 1 l.source.wire l.lane.nexts l.lane.here l.lane.keys
      come = is.lane.come run run_mid

      abbrev words : ℕ → ℕ → ℕ
      words = ga.words run run_last

      words_shown : AreKeys g.groups (key_of (grouping_of nodes g)) (stride_of (figures_of nodes g.body)) 1 (carried run l.source.wire) words
      words_shown = come.words words (ga.take run run_last come.one come.registers)

      laned : AwaitsTurns g.groups (stride_of d) (carried run l.source.wire) → lane_laws.Laned g.groups t.depth delay (key_of (grouping_of nodes g)) (t.step run.held) (t.total run.held) (carried run l.source.wire) (carried run l.lane.wire) behind.mid
          (carried run out.wire) (carried run wire) (slot_of run l.lane.slot) behind.slot_mid (slot_of run out.slot) words
          (line_at run l.lane.further) (line_at run l.lane.close)
      laned awaits =
          let a = carried run l.source.wire in
          let awaits_own : AwaitsFlush (grouping_of nodes g) a = subst (λ (z : Figures). AwaitsTurns g.groups (stride_of z) a) (sym t.figures) awaits in
          let begins = is.lane.begins run run_mid awaits_own in
          record {
            front = subst (λ (z : Figures). AreSlots g.groups (key_of (grouping_of nodes g)) (stride_of z) a (λ k. share (slot_of run l.lane.slot) k (carried run l.lane.wire)))
                t.figures (is.lane.front run run_mid);
            no_row = no_row;
            no_end = line_first run l.lane.wire.eos;
            shown = subst (λ (z : Figures). AreKeys g.groups (key_of (grouping_of nodes g)) (stride_of z) 1 a words) t.figures words_shown;
            tells = is.lane.told run run_mid awaits_own;
            rows = behind.rows;
            slots = behind.slots;
            delay = some_delay;
            table = behind.table begins;
            within = row_within begins;
            gathers = ga.gathers run run_last (row_within begins);
            closes = subst (λ (z : Figures). IsClose (z.le + turns_of g.groups z + 1) (z.le + turns_of g.groups z + 1 + 1) a.ends (line_at run l.lane.close)) t.figures
                (is.lane.closes run run_mid);
          }

      served : (beats : Beats) → Spaced h beats → Fits f beats (carried run l.source.wire)
          → ServedWithLines f h (OfGroups g.groups (key_of (grouping_of nodes g)) (OfBody run.held nodes g.body))
          (both_lines (lines_of_all (λ k. no_lines) g.groups) (line_of_further (line_at run l.lane.further))) beats (carried run l.source.wire) (carried run wire)
      served beats spaced_beats fitting =
          subst (λ (z : Figures). ServedWithLines f (groups_over g.groups f z) (OfGroups g.groups (key_of (grouping_of nodes g)) (OfBody run.held nodes g.body))
          (both_lines (lines_of_all (λ k. no_lines) g.groups) (line_of_further (line_at run l.lane.further))) beats (carried run l.source.wire) (carried run wire))
          (sym t.figures)
          (laws.lanes_serve f g.groups t.depth delay (key_of (grouping_of nodes g)) (t.step run.held) (t.total run.held) (carried run l.source.wire) (carried run l.lane.wire) behind.mid
          (carried run out.wire) (carried run wire) (slot_of run l.lane.slot) behind.slot_mid (slot_of run out.slot) words
          (line_at run l.lane.further) (line_at run l.lane.close) run.held nodes g.body (sound_source laws nodes g plan at) (fits laws nodes g plan at).suits.2.least laned (t.means run.held) beats
          (subst (λ (z : Figures). Spaced (groups_over g.groups f z) beats) t.figures spaced_beats) fitting)

    pub gathered_put : IsPutBehind nodes g.id old new tick leaves (record { wire = wire; faults = faults })
    gathered_put = record {
      keeps = keeps_then old mid new is.keeps (keeps_then mid net new t.keeps (keeps_then net last new ga.keeps both.keeps));
      cost = cost;
      gives = rw ((follows laws nodes g plan at).shape, (follows laws nodes g plan at).figures) (record {
        wire = wire_kept last new wire both.keeps ga.wire;
        same_widths = ga.same_widths ∙ own;
        lines = both.are;
        paced = λ run r. tt;
        serving = λ run r beats spaced_beats has.
            let source = is.gives.serving run (run_mid run r) beats (spaced_closer f h beats (room laws nodes g plan at).closer spaced_beats) has in
            let whole = served run r beats spaced_beats source.fits in
            let ins : ℕ → Inputs = inputs_at run.held (line_of run tick) (leaf run leaves) (leaf run leaves 0) in
            let further : Lines = line_of_further (line_at run l.lane.further) in
            let told : Lines = both_lines (lines_of_all (λ k. no_lines) g.groups) further in
            let lines : Lines = both_lines (lines_of run l.source.faults) told in
            serving_lines h (λ t. IsPlanResult nodes g.id (ins t)) (lines_of run faults) lines beats (carried run wire)
            (same_then (lines_of run faults) (both_lines (lines_of run l.source.faults) further) lines (both.lines run r)
            (own_lines g.groups (lines_of run l.source.faults) further))
            (serving_as h _ (λ t. IsPlanResult nodes g.id (ins t)) lines beats (carried run wire)
            (λ t ys p v. ((follows laws nodes g plan at).results (ins t) ys p).1 v)
            (groups_then f h (λ t. IsPlanResult nodes g.source (ins t)) g.groups (key_of (grouping_of nodes g)) (OfBody run.held nodes g.body)
            (λ t rows. IsPlanResult nodes g.body (given (ins t) rows))
            (λ t rows zs q y. laws.bodies_read_their_input nodes g.body plan (in_body laws nodes g plan at) (kinds_of nodes g.source) (fits laws nodes g plan at).suits.0.leaves (alone run.held rows) (given (ins t) rows) (record { rows = refl; places = refl; sets = refl }) zs q y)
            (lines_of run l.source.faults) told beats (carried run l.source.wire) (carried run wire) source whole));
        dated = λ run r beats spaced_beats has came. absurd (cc);
      });
    }
