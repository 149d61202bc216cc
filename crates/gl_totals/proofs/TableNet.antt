-- A table: the lines of a lane one cycle later, the aggregates behind them, and what waits beside these.
use Rattle.std.proofs.Common.{◌≡◌, ℕ, suc, ◌+◌, ◌-◌, ◌*◌, ◌^◌, ◌<◌, ◌≤◌, inl, inr, List, length, Bool, false, sym, ap, subst, ◌∙◌, arith}
use Rattle.std.specs.Prelude.{All, sum_by}
use Rattle.std.proofs.lemmas.Bool.{cases_lt}
use Rattle.std.proofs.lemmas.List.{map-id}
use Rattle.gl_values.specs.Kinds.{IsKind}
use Rattle.gl_values.specs.Results.{Row}
use Rattle.gl_algebra.specs.Columns.{AggFits}
use Rattle.gl_algebra.specs.FigureTable.{delay_of_aggs}
use Rattle.gl_divide.specs.Divider.{IsLineBehind}
use Rattle.gl_divide.proofs.StageNet.{line_behind_one}
use Rattle.gl_net.specs.declared.node.Bit.{Bit}
use Rattle.gl_net.specs.declared.node.Bus.{Bus}
use Rattle.gl_net.specs.Net.{Net, Run}
use Rattle.gl_net.proofs.Determined.{keeps_then}
use Rattle.gl_rows.specs.declared.operand.Source.{Source}
use Rattle.gl_wire.specs.declared.wire.Wire.{Wire}
use Rattle.gl_wire.specs.Wire.{line_at, row_at, wire_of}
use Rattle.gl_wire.proofs.ColumnLemmas.{bit_kept, buses_kept}
use Rattle.gl_wire.proofs.StageLemmas.{line_first}
use Rattle.gl_wire_lanes.specs.Lanes.{Lane, Begins, IsFresh, IsLaneBehind, rows_now}
use Rattle.gl_wire_lanes.specs.Shares.{lane_of, rows_of}
use Rattle.gl_wire_lanes.proofs.BehindLemmas.{begins_again, fresh_behind}
use Rattle.gl_wire_lanes.proofs.RowLemmas.{now_behind}
use Rattle.gl_totals.specs.Costs.{kept_of_agg}
use Rattle.gl_totals.specs.Delays.{IsBitBehind, IsBusBehind}
use Rattle.gl_totals.specs.Open.{AreTold, in_memory, lane_by, row_by}
use Rattle.gl_totals.specs.Tables.{AreLinesBehind, IsTable}
use Rattle.gl_totals.specs.Totals.{AreAggsOf, total_row}
use Rattle.gl_totals.specs.declared.rows.Keep.TheVariants.{Slots}
use Rattle.gl_totals.specs.declared.table.Lines.{Lines}
use Rattle.gl_totals.specs.declared.table.Table.{Table}
use Rattle.gl_totals.proofs.TableEnds.{at_ends}
use Rattle.gl_totals.proofs.TableLemmas.{delay_some, table_registers}

line_joined : (run : Run) (n m : ℕ) (source mid out : Bit) → IsLineBehind run n source mid → IsLineBehind run m mid out → IsLineBehind run (n + m) source out
line_joined run n m source mid out h g = record { before = before; line = line }
  where
    at : (c d : ℕ) → d + m ≡ c → d < n → line_at run out c ≡ false
    at c d e lt = ap (line_at run out) (sym e) ∙ g.line d ∙ h.before d lt

    before : (c : ℕ) → c < n + m → line_at run out c ≡ false
    before c lt = elim (cases_lt c m) [
      | inl less ↦ g.before c less
      | inr more ↦ at c (c - m) (omega (arith, more)) (omega (arith, more, lt))
    ]

    line : (t : ℕ) → line_at run out (t + (n + m)) ≡ line_at run source t
    line t = let e : t + (n + m) ≡ t + n + m = omega arith in ap (line_at run out) e ∙ g.line (t + n) ∙ h.line t

module _ (run : Run) (w : Wire) (slot : Bus) (first : Bit) (l : Lines) (begins : Begins (lane_of run w slot first))
    (valids : (t : ℕ) → line_at run l.valid (suc t) ≡ line_at run w.valid t) (ends : (t : ℕ) → line_at run l.eos (suc t) ≡ line_at run w.eos t)
    (firsts : (t : ℕ) → line_at run l.first (suc t) ≡ line_at run first t) (slots : (t : ℕ) → run.at (suc (suc t)) l.slot.node ≡ run.at (suc t) slot.node) where
  abbrev a : Lane
  a = lane_of run w slot first

  abbrev d : Lane
  d = lane_by run (in_memory l.valid l.eos l.first first l.slot slot)

  abbrev made : ℕ → Row
  made = row_by run (Slots l.first first l.slot slot) w.columns

  next : (line source : ℕ → Bool) → ((t : ℕ) → line (suc t) ≡ source t) → (c : ℕ) → line (c + 1) ≡ source c
  next line source h c = let q : c + 1 ≡ suc c = omega arith in ap line q ∙ h c

  none : (line : Bit) (c : ℕ) → c < 1 → line_at run line c ≡ false
  none line c lt = let q : c ≡ 0 = omega (arith, lt) in ap (line_at run line) q ∙ line_first run line

  behind : IsLaneBehind 1 a d
  behind = record {
    no_row = none l.valid;
    no_end = none l.eos;
    no_first = none l.first;
    rows = λ c p. sym (next (line_at run l.valid) (line_at run w.valid) valids c) ∙ p;
    ends = next (line_at run l.eos) (line_at run w.eos) ends;
    firsts = next (line_at run l.first) (line_at run first) firsts;
    slots = λ c. let q : suc c + 1 ≡ suc (suc c) = omega arith in ap (λ (n : ℕ). run.at n l.slot.node) q ∙ slots c;
  }

  pub lines_told : AreTold run (in_memory l.valid l.eos l.first first l.slot slot)
  lines_told = record { begins = begins_again 1 a d begins behind; led = (valids 0 ∙ line_first run w.valid, slots, firsts) }

  pub fresh_later : (t : ℕ) → IsFresh a (suc t) → IsFresh d (suc (suc t))
  fresh_later t fresh = let q : suc t + 1 ≡ suc (suc t) = omega arith in subst (λ n. IsFresh d n) q (fresh_behind 1 a d begins behind t fresh)

  pub rows_later : (t : ℕ) → rows_now d made (suc (suc t)) ≡ rows_now a (rows_of run w) (suc t)
  rows_later t =
      let q : suc (suc t) ≡ suc t + 1 = omega arith in
      ap (rows_now d made) q
      ∙ now_behind 1 (λ (r : Row). r) a d (rows_of run w) made begins behind (next (line_at run l.valid) (line_at run w.valid) valids)
      (λ c p. let e : c + 1 ≡ suc c = omega arith in ap made e) t
      ∙ map-id (rows_now a (rows_of run w) (suc t))

-- ---- the whole

pub table_is : (old one two three new : Net) (table : Table) (w : Wire) (slot : Bus) (first : Bit) (l : Lines) (source : Source) (outs : List Bus) (end : Bit) (place : Bus)
    → All IsKind table.kinds.now → All (AggFits table.kinds.now) table.aggs.now → 1 ≤ length table.aggs.now → slot.width ≤ 8 → source.columns.now ≡ w.columns
    → AreLinesBehind old one w slot first l
    → AreAggsOf one two (delay_of_aggs table.kinds.now table.aggs.now - 1)
    (record { rows = in_memory l.valid l.eos l.first first l.slot slot; source = record source { kinds = table.kinds } }) table.aggs.now outs
    → IsBitBehind two three (delay_of_aggs table.kinds.now table.aggs.now - 1) l.eos end
    → IsBusBehind three new (delay_of_aggs table.kinds.now table.aggs.now - 1) l.slot place
    → IsTable old new table w slot first (record { wire = wire_of end end outs; slot = place })
table_is old one two three new table w slot first l source outs end place kinds_are fit some few is_columns lines all line later =
    let kinds = table.kinds.now in
    let aggs = table.aggs.now in
    let m = delay_of_aggs kinds aggs in
    let least : 1 ≤ m = delay_some kinds aggs in
    let behind_all = keeps_then two three new line.keeps later.keeps in
    let wide : 2 ^ l.slot.width ≡ 2 ^ slot.width = ap (λ (b : ℕ). 2 ^ b) lines.same_width in
    let words : 2 ^ l.slot.width * sum_by (kept_of_agg kinds) aggs ≡ 2 ^ slot.width * sum_by (kept_of_agg kinds) aggs = ap (λ (n : ℕ). n * sum_by (kept_of_agg kinds) aggs) wide in
    let places : l.slot.width * (m - 1) ≡ slot.width * (m - 1) = ap (λ (b : ℕ). b * (m - 1)) lines.same_width in
    let slot_at : (run : Run) → ((t : ℕ) → run.at (suc t + (m - 1)) place.node ≡ run.at (suc t) l.slot.node)
    → ((t : ℕ) → run.at (suc (suc t)) l.slot.node ≡ run.at (suc t) slot.node) → (t : ℕ) → run.at (suc t + m) place.node ≡ run.at (suc t) slot.node =
    λ run h g t. let e : suc t + m ≡ suc (suc t) + (m - 1) = omega (arith, least) in ap (λ (n : ℕ). run.at n place.node) e ∙ h (suc t) ∙ g t in
    record {
      keeps = keeps_then old one new lines.keeps (keeps_then one two new all.keeps behind_all);
      cost = record {
        nodes = omega (arith, lines.cost.nodes, all.cost.nodes, line.cost.nodes, later.cost.nodes, least);
        registers = omega (arith, lines.cost.registers, all.cost.registers, line.cost.registers, later.cost.registers, places, table_registers kinds kinds_are aggs slot.width fit some few);
        memories = omega (arith, lines.cost.memories, all.cost.memories, line.cost.memories, later.cost.memories, words);
      };
      wire = record {
        valid = bit_kept three new end later.keeps line.bit;
        eos = bit_kept three new end later.keeps line.bit;
        columns = buses_kept two new outs behind_all all.buses;
      };
      same_widths = all.same_widths;
      slot_bus = later.bus;
      slot_width = later.same_width ∙ lines.same_width;
      slots = λ run r. slot_at run (later.value run r) (lines.slots run (all.keeps.runs run (behind_all.runs run r)));
      shares = λ run r begins k.
          let at_all = behind_all.runs run r in
          let at_lines = all.keeps.runs run at_all in
          let valids = lines.valids run at_lines in
          let ends = lines.ends run at_lines in
          let firsts = lines.firsts run at_lines in
          let slots = lines.slots run at_lines in
          let whole : 1 + (m - 1) ≡ m = omega (arith, least) in
          at_ends run w slot first end outs place m (total_row run.held kinds aggs) begins
          (subst (λ (n : ℕ). IsLineBehind run n w.eos end) whole (line_joined run 1 (m - 1) w.eos l.eos end (line_behind_one run w.eos l.eos ends) (line.line run (later.keeps.runs run r))))
          (slot_at run (later.value run r) slots)
          (λ t fresh.
          let e : suc t + m ≡ suc (suc t) + (m - 1) = omega (arith, least) in
          ap (λ (n : ℕ). row_at run n outs) e
          ∙ all.row run at_all (lines_told run w slot first l begins valids ends firsts slots) (suc t) (fresh_later run w slot first l begins valids ends firsts slots t fresh)
          ∙ ap (λ (bs : List Bus). total_row run.held kinds aggs (rows_now (lane_by run (in_memory l.valid l.eos l.first first l.slot slot)) (row_by run (Slots l.first first l.slot slot) bs) (suc (suc t)))) is_columns
          ∙ ap (total_row run.held kinds aggs) (rows_later run w slot first l begins valids ends firsts slots t)) k;
    }
