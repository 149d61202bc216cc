-- Level upon level by slots: the best of all rows of a frame.
use Rattle.std.proofs.Common.{◌≡◌, ℕ, zero, suc, ◌+◌, ◌-◌, ◌*◌, ◌^◌, ◌<◌, ◌≤◌, List, [], ◌∷◌, ◌++◌, map, Some, None, Bool, true, false, length, refl, sym, ap, ◌∙◌, subst, arith, inl, inr}
use Rattle.std.specs.Prelude.{◌&&◌, if◌then◌else◌}
use Rattle.std.proofs.lemmas.Bool.{cases_lt, le-leb, lt-leb}
use Rattle.std.proofs.lemmas.List.{drop_all}
use Rattle.gl_algebra.proofs.ExponentLemmas.{exponent_covers}
use Rattle.gl_bits.proofs.Bools.{not_both}
use Rattle.gl_net.specs.declared.node.Bit.{Bit}
use Rattle.gl_net.specs.declared.node.Bus.{Bus}
use Rattle.gl_net.specs.Net.{Net, Run, IsBus}
use Rattle.gl_net.proofs.Determined.{keeps_then}
use Rattle.gl_net.proofs.Growth.{same_keeps}
use Rattle.gl_wire.specs.Costs.{Cost}
use Rattle.gl_wire.specs.Wire.{line_at}
use Rattle.gl_wire.proofs.StageLemmas.{line_first}
use Rattle.gl_frames.specs.Frames.{best_of, lag_of, number_or, row_before}
use Rattle.gl_frames.proofs.LastLemmas.{last_more}
use Rattle.gl_frames_wire.specs.Reaches.{place_bits}
use Rattle.gl_frames_wire.specs.Since.{all_ends}
use Rattle.gl_frames_wire.specs.declared.reach.Reach.{Reach}
use Rattle.gl_frames_wire.proofs.ColumnLemmas.{framed_here}
use Rattle.gl_frames_wire.proofs.ReachLemmas.{few_exponents, from_exponent}
use Rattle.gl_frames_wire.proofs.RingLemmas.{one_in}
use Rattle.gl_frames_stages.specs.Columns.{carried_by}
use Rattle.gl_frames_stages.specs.DoublingNets.{AreWindows, doublings, gap_of}
use Rattle.gl_frames_stages.specs.LaggedNets.{maybe_at}
use Rattle.gl_frames_stages.specs.Laws.{best_in, itself, picked}
use Rattle.gl_frames_stages.specs.LevelNets.{better_in, nodes_of_stays, stays_in}
use Rattle.gl_frames_stages.specs.declared.doubling.Windows.{Windows}
use Rattle.gl_frames_stages.specs.declared.lagged.Maybe.{Maybe}
use Rattle.gl_frames_stages.specs.declared.level.Order.{Order}
use Rattle.gl_frames_stages.proofs.DoubleLemmas.{bests_double}
use Rattle.gl_frames_stages.proofs.DoublingNet.{doublings_done}
use Rattle.gl_frames_stages.proofs.LevelNet.{better_chooses}
use Rattle.gl_frames_slots.specs.BestNets.{IsSlotDoubledIn, IsSlotLevelIn, cost_of_slot_doublings, with_slot_level}
use Rattle.gl_frames_slots.specs.Rows.{TellsBySlot, lane_at, slot_here, slot_past}
use Rattle.gl_frames_slots.specs.Stages.{AreCountedTwoLateIn, AreRowsBehind, ends_late}
use Rattle.gl_frames_slots.specs.declared.rows.SlotRows.{SlotRows}
use Rattle.gl_frames_slots.specs.declared.stages.CountedRows.{CountedRows}
use Rattle.gl_frames_slots.proofs.ItemsNet.{made_rows, own_told}
use Rattle.gl_frames_slots.proofs.MeetLemmas.{here_late, rows_told}

-- ---- one level

kept_is : (order : Order) (b : Bool) (w x : ℕ) → (if b && stays_in order w x then w else x) ≡ picked (better_in order) (if b then Some w else None) x
kept_is order true w x = refl
kept_is order false w x = refl

pub level_told : (run : Run) (rows : SlotRows) (ends : ℕ → Bool) (order : Order) (d : ℕ) (value own out : ℕ → ℕ) (found : Maybe) (stays : Bit)
    → TellsBySlot run rows ends 1 (row_before d) value (maybe_at run found) → ((t : ℕ) → own (suc (suc t)) ≡ value (suc t))
    → ((t : ℕ) → line_at run stays (suc t) ≡ (line_at run found.some (suc t) && stays_in order (run.at (suc t) found.word.node) (own (suc t))))
    → ((t : ℕ) → out (suc (suc t)) ≡ (if line_at run stays (suc t) then run.at (suc t) found.word.node else own (suc t)))
    → TellsBySlot run rows ends 2 (λ xs. picked (better_in order) (row_before d xs) (lag_of itself 0 xs)) value out
level_told run rows ends order d value own out found stays h owns line is c v =
    let e : suc c + 2 ≡ suc (suc (suc c)) = omega arith in
    let f : suc (suc c) ≡ suc c + 1 = omega arith in
    let w : ℕ = run.at (suc (suc c)) found.word.node in
    ap out e ∙ is (suc c)
    ∙ ap (λ (b : Bool). if b then w else own (suc (suc c))) (line (suc c))
    ∙ kept_is order (line_at run found.some (suc (suc c))) w (own (suc (suc c)))
    ∙ ap (λ o. picked (better_in order) o (own (suc (suc c)))) (ap (maybe_at run found) f ∙ h c v)
    ∙ ap (picked (better_in order) (row_before d (slot_here run rows ends value (suc c)))) (ap own f ∙ own_told run rows ends itself value own owns c v)

-- ---- what is told on later rows, and of earlier ones

map_same : (xs : List ℕ) → map (λ (x : ℕ). x) xs ≡ xs
map_same [] = refl
map_same (x ∷ xs) = ap (λ l. x ∷ l) (map_same xs)

module _ {A : Type 0} (run : Run) (m : ℕ) (rows later : SlotRows) (ends : ℕ → Bool) (of : List ℕ → A) (row : ℕ → ℕ) (made : ℕ → A) (behind : AreRowsBehind run m rows later) where
  same_column : (c : ℕ) → slot_here run rows ends (λ t. row (t + m - m)) c ≡ slot_here run rows ends row c
  same_column c =
      made_rows run rows ends (λ (x : ℕ). x) row (λ t. row (t + m - m)) (λ t. let z : suc t + m - m ≡ suc t = omega arith in ap row z) c ∙ map_same (slot_here run rows ends row c)

  here_back : (c : ℕ) → slot_here run later (ends_late m ends) (λ t. row (t - m)) (suc c + m) ≡ slot_here run rows ends row (suc c)
  here_back c = here_late run m rows later ends behind (λ t. row (t - m)) c ∙ same_column (suc c)

  pub tells_back : (n : ℕ) → TellsBySlot run later (ends_late m ends) n of (λ t. row (t - m)) made → TellsBySlot run rows ends (m + n) of row made
  tells_back n h c v =
      let e : suc c + (m + n) ≡ suc (c + m) + n = omega arith in
      let i : suc (c + m) ≡ suc c + m = omega arith in
      let on : line_at run later.valid (suc (c + m)) ≡ true = ap (line_at run later.valid) i ∙ behind.valids.line (suc c) ∙ v in
      ap made e ∙ h (c + m) on ∙ ap (λ k. of (slot_here run later (ends_late m ends) (λ t. row (t - m)) k)) i ∙ ap of (here_back c)

  pub tells_later : TellsBySlot run rows ends m of row made → TellsBySlot run later (ends_late m ends) 0 of (λ t. row (t - m)) made
  tells_later h c v = elim (cases_lt (suc c) m) [
    | inl lt ↦ absurd (not_both (line_at run later.valid (suc c)) v (behind.valids.before (suc c) lt))
    | inr le ↦ found (suc c - m) (omega (arith, le))
  ]
    where
      found : (i : ℕ) → suc c ≡ i + m → made (suc c + 0) ≡ of (slot_here run later (ends_late m ends) (λ t. row (t - m)) (suc c))
      found zero e = absurd (not_both (line_at run later.valid (suc c)) v (ap (line_at run later.valid) e ∙ behind.valids.line zero ∙ line_first run rows.valid))
      found (suc i) e =
          let at : suc c + 0 ≡ suc i + m = omega (arith, e) in
          let there : line_at run rows.valid (suc i) ≡ true = sym (behind.valids.line (suc i)) ∙ ap (line_at run later.valid) (sym e) ∙ v in
          ap made at ∙ h i there ∙ ap of (sym (here_back i) ∙ ap (slot_here run later (ends_late m ends) (λ t. row (t - m))) (sym e))

-- ---- places

-- a farther place takes no fewer bits
pub places_grow : (x y : ℕ) → x ≤ y → place_bits x ≤ place_bits y
places_grow x y le =
    let covers = exponent_covers (y + 1) 1 (y + 1) (omega arith) in
    few_exponents (place_bits y) (x + 1) 1 (x + 1) (from_exponent (y + 1) 1 (y + 1)) (omega (arith, le, covers))

pub gap_inside : (rows all : ℕ) → gap_of rows all ≤ all
gap_inside rows all = omega arith

-- ---- how often, and what it costs

doublings_more : (more rows all : ℕ) → 1 ≤ more → rows < all → doublings more rows all ≡ suc (doublings (more - 1) (rows + gap_of rows all) all)
doublings_more zero rows all some lt = absurd (omega (arith, some))
doublings_more (suc more) rows all some lt =
    let e : more ≡ suc more - 1 = omega arith in
    ap (λ (b : Bool). if b then 0 else suc (doublings more (rows + gap_of rows all) all)) (lt-leb all rows lt)
    ∙ ap (λ n. suc (doublings n (rows + gap_of rows all) all)) e

abbrev nothing : Cost
nothing = record { nodes = 0; registers = 0; memories = 0 }

cost_done : (slot gates more rows all width : ℕ) → all ≤ rows → cost_of_slot_doublings slot gates more rows all width ≡ nothing
cost_done slot gates zero rows all width le = refl
cost_done slot gates (suc more) rows all width le =
    ap (λ (b : Bool). if b then nothing else with_slot_level slot gates (gap_of rows all) width (cost_of_slot_doublings slot gates more (rows + gap_of rows all) all width)) (le-leb all rows le)

cost_more : (slot gates more rows all width : ℕ) → 1 ≤ more → rows < all
    → cost_of_slot_doublings slot gates more rows all width ≡ with_slot_level slot gates (gap_of rows all) width (cost_of_slot_doublings slot gates (more - 1) (rows + gap_of rows all) all width)
cost_more slot gates zero rows all width some lt = absurd (omega (arith, some))
cost_more slot gates (suc more) rows all width some lt =
    let e : more ≡ suc more - 1 = omega arith in
    ap (λ (b : Bool). if b then nothing else with_slot_level slot gates (gap_of rows all) width (cost_of_slot_doublings slot gates more (rows + gap_of rows all) all width)) (lt-leb all rows lt)
    ∙ ap (λ n. with_slot_level slot gates (gap_of rows all) width (cost_of_slot_doublings slot gates n (rows + gap_of rows all) all width)) e

-- ---- no level, and one more

pub doubled_none : (net : Net) (counted : CountedRows) (more : ℕ) (windows : Windows) (order : Order) (value : Bus) → IsBus net value → AreWindows more windows → windows.all ≤ windows.rows
    → IsSlotDoubledIn net net counted more windows order value value
doubled_none net counted more windows order value bus fits le =
    let rows = windows.rows in
    let all = windows.all in
    let same : rows ≡ all = (let inside = fits.inside in omega (arith, inside, le)) in
    let free = cost_done counted.rows.slot.width (nodes_of_stays order) more rows all value.width le in
    record {
      keeps = same_keeps net;
      cost = record { nodes = omega (arith, ap (λ (k : Cost). k.nodes) free); registers = omega (arith, ap (λ (k : Cost). k.registers) free); memories = omega (arith, ap (λ (k : Cost). k.memories) free) };
      bus = bus;
      same_width = refl;
      tells = λ run r ends told counts row h c v.
          let none : 0 ≡ 2 * doublings more rows all = sym (ap (λ n. 2 * n) (doublings_done more rows all le)) in
          ap (λ n. run.at (suc c + n) value.node) (sym none) ∙ h c v
          ∙ ap (λ n. best_in (better_in order) n (slot_here run counted.rows ends row (suc c))) same;
    }

pub doubled_more : (old mid tail new : Net) (counted late : CountedRows) (more : ℕ) (windows : Windows) (order : Order) (reach : Reach) (value wide out : Bus)
    → counted.count.width ≤ 18 → AreWindows more windows → windows.rows < windows.all → reach.back ≡ gap_of windows.rows windows.all → reach.bits ≡ place_bits reach.back
    → IsSlotLevelIn old mid counted reach order value wide → AreCountedTwoLateIn mid tail counted late
    → IsSlotDoubledIn tail new late (more - 1) (record { rows = windows.rows + gap_of windows.rows windows.all; all = windows.all }) order wide out
    → IsSlotDoubledIn old new counted more windows order value out
doubled_more old mid tail new counted late more windows order reach value wide out narrow fits lt back bits level after rest =
    let rows = windows.rows in
    let all = windows.all in
    let gap = gap_of rows all in
    let few = fits.few in
    let some : 1 ≤ more = omega (arith, few, lt) in
    let gates = nodes_of_stays order in
    let slot = counted.rows.slot.width in
    let cost = cost_more slot gates more rows all value.width some lt in
    let place : reach.bits ≡ place_bits gap = bits ∙ ap place_bits back in
    let words : 2 ^ (slot + reach.bits) * value.width ≡ 2 ^ (slot + place_bits gap) * value.width = ap (λ n. 2 ^ (slot + n) * value.width) place in
    let below = ap (λ s. cost_of_slot_doublings s gates (more - 1) (rows + gap) all wide.width) after.same_slots ∙ ap (cost_of_slot_doublings slot gates (more - 1) (rows + gap) all) level.same_width in
    let below_nodes = ap (λ (k : Cost). k.nodes) below in
    let below_registers = ap (λ (k : Cost). k.registers) below in
    let below_memories = ap (λ (k : Cost). k.memories) below in
    record {
      keeps = keeps_then old mid new level.keeps (keeps_then mid tail new after.keeps rest.keeps);
      cost = record {
        nodes = omega (arith, level.cost.nodes, after.cost.nodes, rest.cost.nodes, below_nodes, ap (λ (k : Cost). k.nodes) cost);
        registers = omega (arith, level.cost.registers, after.cost.registers, rest.cost.registers, below_registers, narrow, ap (λ (k : Cost). k.registers) cost);
        memories = omega (arith, level.cost.memories, after.cost.memories, rest.cost.memories, below_memories, words, ap (λ (k : Cost). k.memories) cost);
      };
      bus = rest.bus;
      same_width = rest.same_width ∙ level.same_width;
      tells = λ run r ends told counts row h.
          let at_late = rest.keeps.runs run r in
          let at_level = after.keeps.runs run at_late in
          let op = better_in order in
          let n : ℕ = 2 * doublings (more - 1) (rows + gap) all in
          let lane = lane_at run counted.rows ends in
          let behind = after.behind run at_late in
          let column : (c : ℕ) → line_at run counted.rows.valid (suc c) ≡ true → carried_by run value (suc c) ≡ best_in op rows (slot_here run counted.rows ends row (suc c)) =
          (λ c v. let e : suc c ≡ suc c + 0 = omega arith in ap (carried_by run value) e ∙ h c v) in
          let mid_told : TellsBySlot run counted.rows ends 2 (best_in op (rows + gap)) row (carried_by run wide) =
          (λ c v.
          let xs = slot_here run counted.rows ends row (suc c) in
          let ys = slot_here run counted.rows ends (carried_by run value) (suc c) in
          level.tells run at_level ends told counts c v
          ∙ ap (λ d. picked op (row_before d ys) (lag_of itself 0 ys)) back
          ∙ ap (λ zs. picked op (row_before gap zs) (lag_of itself 0 zs)) (framed_here (best_in op rows) (all_ends lane) lane row (carried_by run value) (line_first run counted.rows.valid) column c v)
          ∙ bests_double op (better_chooses order) rows gap fits.some' (omega arith) xs) in
          let late_told =
          rest.tells run r (ends_late 2 ends) (rows_told run 2 counted.rows late.rows ends behind told) (after.counts run at_late ends counts) (λ t. row (t - 2))
          (tells_later run 2 counted.rows late.rows ends (best_in op (rows + gap)) row (carried_by run wide) behind mid_told) in
          let long : 2 + n ≡ 2 * doublings more rows all = omega (arith, doublings_more more rows all some lt) in
          subst (λ k. TellsBySlot run counted.rows ends k (best_in op all) row (carried_by run out)) long
          (tells_back run 2 counted.rows late.rows ends (best_in op all) row (carried_by run out) behind n late_told);
    }

-- the best of one row is the row
pub best_alone : (op : ℕ → ℕ → ℕ) (run : Run) (rows : SlotRows) (ends : ℕ → Bool) (value : ℕ → ℕ) → TellsBySlot run rows ends 0 (best_in op 1) value value
best_alone op run rows ends value c v =
    let e : suc c + 0 ≡ suc c = omega arith in
    let past : List ℕ = slot_past run rows ends value (suc c) in
    ap value e
    ∙ sym (ap (λ mine. best_in op 1 (past ++ mine)) (one_in (line_at run rows.valid (suc c)) (value (suc c)) v)
    ∙ ap (λ l. number_or itself (best_of op l)) (last_more 0 past (value (suc c)))
    ∙ ap (λ l. number_or itself (best_of op (l ++ value (suc c) ∷ []))) (drop_all (length past - 0) past (omega arith)))
