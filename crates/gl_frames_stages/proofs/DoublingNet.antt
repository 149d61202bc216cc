-- Level upon level: the best of all rows of a frame.
use Rattle.std.proofs.Common.{◌≡◌, ℕ, zero, suc, ◌+◌, ◌-◌, ◌*◌, ◌^◌, ◌<◌, ◌≤◌, List, [], ◌∷◌, ◌++◌, Some, Bool, false, length, refl, sym, ap, ◌∙◌, subst, arith}
use Rattle.std.specs.Prelude.{fold, if◌then◌else◌}
use Rattle.std.proofs.lemmas.Bool.{le-leb, lt-leb}
use Rattle.std.proofs.lemmas.List.{drop_all}
use Rattle.gl_net.specs.declared.node.Bus.{Bus}
use Rattle.gl_net.specs.Net.{Net, Run, IsBus}
use Rattle.gl_net.proofs.Determined.{keeps_then}
use Rattle.gl_net.proofs.Growth.{same_keeps}
use Rattle.gl_wire.specs.Costs.{Cost}
use Rattle.gl_wire.specs.Wire.{line_at}
use Rattle.gl_frames.specs.Frames.{best_of, lag_of, last_ones, number_or, row_before}
use Rattle.gl_frames.proofs.BestLemmas.{extremes}
use Rattle.gl_frames.proofs.LastLemmas.{last_more}
use Rattle.gl_frames_wire.specs.CountNets.{streams_by}
use Rattle.gl_frames_wire.specs.Reaches.{place_bits}
use Rattle.gl_frames_wire.specs.Since.{own_ends, rows_since}
use Rattle.gl_frames_wire.specs.declared.reach.Reach.{Reach}
use Rattle.gl_frames_wire.proofs.RingLemmas.{one_in}
use Rattle.gl_totals.specs.Folds.{better}
use Rattle.gl_totals.specs.Totals.{extreme_of}
use Rattle.gl_totals.specs.declared.fold.Extreme.{Extreme}
use Rattle.gl_totals.specs.declared.fold.Extreme.TheVariants.{Least, Greatest}
use Rattle.gl_values.specs.declared.kind.Kind.{Kind}
use Rattle.gl_frames_stages.specs.Columns.{AreLinesBehind, Tells, carried_by, column_of}
use Rattle.gl_frames_stages.specs.DoublingNets.{AreWindows, IsDoubledIn, cost_of_doublings, doublings, gap_of, with_level}
use Rattle.gl_frames_stages.specs.Laws.{best_in, itself, picked}
use Rattle.gl_frames_stages.specs.LevelNets.{IsLevelIn, better_in, nodes_of_stays}
use Rattle.gl_frames_stages.specs.declared.doubling.Windows.{Windows}
use Rattle.gl_frames_stages.specs.declared.level.Order.{Order}
use Rattle.gl_frames_stages.specs.declared.lines.Lines.{Lines}
use Rattle.gl_frames_stages.proofs.DoubleLemmas.{bests_double}
use Rattle.gl_frames_stages.proofs.LevelNet.{better_chooses, plain_better}
use Rattle.gl_frames_stages.proofs.MeetLemmas.{behind_itself, stages_as, tells_back, tells_later}

-- ---- how often, and what it costs

pub doublings_done : (more rows all : ℕ) → all ≤ rows → doublings more rows all ≡ 0
doublings_done zero rows all le = refl
doublings_done (suc more) rows all le = ap (λ (b : Bool). if b then 0 else suc (doublings more (rows + gap_of rows all) all)) (le-leb all rows le)

doublings_more : (more rows all : ℕ) → 1 ≤ more → rows < all → doublings more rows all ≡ suc (doublings (more - 1) (rows + gap_of rows all) all)
doublings_more zero rows all some lt = absurd (omega (arith, some))
doublings_more (suc more) rows all some lt =
    let e : more ≡ suc more - 1 = omega arith in
    ap (λ (b : Bool). if b then 0 else suc (doublings more (rows + gap_of rows all) all)) (lt-leb all rows lt)
    ∙ ap (λ n. suc (doublings n (rows + gap_of rows all) all)) e

abbrev nothing : Cost
nothing = record { nodes = 0; registers = 0; memories = 0 }

cost_done : (gates more rows all width : ℕ) → all ≤ rows → cost_of_doublings gates more rows all width ≡ nothing
cost_done gates zero rows all width le = refl
cost_done gates (suc more) rows all width le =
    ap (λ (b : Bool). if b then nothing else with_level gates (gap_of rows all) width (cost_of_doublings gates more (rows + gap_of rows all) all width)) (le-leb all rows le)

cost_more : (gates more rows all width : ℕ) → 1 ≤ more → rows < all
    → cost_of_doublings gates more rows all width ≡ with_level gates (gap_of rows all) width (cost_of_doublings gates (more - 1) (rows + gap_of rows all) all width)
cost_more gates zero rows all width some lt = absurd (omega (arith, some))
cost_more gates (suc more) rows all width some lt =
    let e : more ≡ suc more - 1 = omega arith in
    ap (λ (b : Bool). if b then nothing else with_level gates (gap_of rows all) width (cost_of_doublings gates more (rows + gap_of rows all) all width)) (lt-leb all rows lt)
    ∙ ap (λ n. with_level gates (gap_of rows all) width (cost_of_doublings gates n (rows + gap_of rows all) all width)) e

-- ---- no level, and one more

pub doubled_none : (net : Net) (lines : Lines) (more : ℕ) (windows : Windows) (order : Order) (value : Bus) → IsBus net value → AreWindows more windows → windows.all ≤ windows.rows
    → IsDoubledIn net net lines more windows order value value
doubled_none net lines more windows order value bus fits le =
    let rows = windows.rows in
    let all = windows.all in
    let same : rows ≡ all = (let inside = fits.inside in omega (arith, inside, le)) in
    let free = cost_done (nodes_of_stays order) more rows all value.width le in
    record {
      keeps = same_keeps net;
      cost = record { nodes = omega (arith, ap (λ (k : Cost). k.nodes) free); registers = omega (arith, ap (λ (k : Cost). k.registers) free); memories = omega (arith, ap (λ (k : Cost). k.memories) free) };
      bus = bus;
      same_width = refl;
      tells = λ run r row h c v.
          let none : 0 ≡ 2 * doublings more rows all = sym (ap (λ n. 2 * n) (doublings_done more rows all le)) in
          ap (λ n. run.at (suc c + n) value.node) (sym none) ∙ h c v
          ∙ ap (λ n. best_in (better_in order) n (column_of run lines row (suc c))) same;
    }

pub doubled_more : (old mid tail new : Net) (lines late : Lines) (more : ℕ) (windows : Windows) (order : Order) (reach : Reach) (value wide out : Bus)
    → AreWindows more windows → windows.rows < windows.all → reach.back ≡ gap_of windows.rows windows.all → reach.bits ≡ place_bits reach.back
    → IsLevelIn old mid lines reach order value wide → AreLinesBehind mid tail 2 lines late
    → IsDoubledIn tail new late (more - 1) (record { rows = windows.rows + gap_of windows.rows windows.all; all = windows.all }) order wide out
    → IsDoubledIn old new lines more windows order value out
doubled_more old mid tail new lines late more windows order reach value wide out fits lt back bits level lines_late rest =
    let rows = windows.rows in
    let all = windows.all in
    let gap = gap_of rows all in
    let few = fits.few in
    let some : 1 ≤ more = omega (arith, few, lt) in
    let gates = nodes_of_stays order in
    let cost = cost_more gates more rows all value.width some lt in
    let place : reach.bits ≡ place_bits gap = bits ∙ ap place_bits back in
    let words : 2 ^ reach.bits * value.width ≡ 2 ^ place_bits gap * value.width = ap (λ n. 2 ^ n * value.width) place in
    let below = ap (λ w. cost_of_doublings gates (more - 1) (rows + gap) all w) level.same_width in
    let below_nodes = ap (λ (k : Cost). k.nodes) below in
    let below_registers = ap (λ (k : Cost). k.registers) below in
    let below_memories = ap (λ (k : Cost). k.memories) below in
    record {
      keeps = keeps_then old mid new level.keeps (keeps_then mid tail new lines_late.keeps rest.keeps);
      cost = record {
        nodes = omega (arith, level.cost.nodes, lines_late.cost.nodes, rest.cost.nodes, below_nodes, ap (λ (k : Cost). k.nodes) cost);
        registers = omega (arith, level.cost.registers, lines_late.cost.registers, rest.cost.registers, below_registers, place, ap (λ (k : Cost). k.registers) cost);
        memories = omega (arith, level.cost.memories, lines_late.cost.memories, rest.cost.memories, below_memories, words, ap (λ (k : Cost). k.memories) cost);
      };
      bus = rest.bus;
      same_width = rest.same_width ∙ level.same_width;
      tells = λ run r row h.
          let at_late = rest.keeps.runs run r in
          let at_level = lines_late.keeps.runs run at_late in
          let op = better_in order in
          let n : ℕ = 2 * doublings (more - 1) (rows + gap) all in
          let first = fits.some' in
          let once = level.tells run at_level in
          let mid_told : Tells run lines 2 (best_in op (rows + gap)) row (carried_by run wide) =
          stages_as run 0 2 lines lines (best_in op rows) (λ xs. picked op (row_before gap xs) (lag_of itself 0 xs)) (best_in op (rows + gap)) row (carried_by run value) (carried_by run wide)
          (bests_double op (better_chooses order) rows gap first (omega arith)) (behind_itself run lines) h
          (λ c v. once c v ∙ ap (λ d. picked op (row_before d (column_of run lines (carried_by run value) (suc c))) (lag_of itself 0 (column_of run lines (carried_by run value) (suc c)))) back) in
          let behind = lines_late.behind run at_late in
          let late_told = rest.tells run r (λ t. row (t - 2)) (tells_later run 2 lines late (best_in op (rows + gap)) row (carried_by run wide) behind mid_told) in
          let long : 2 + n ≡ 2 * doublings more rows all = omega (arith, doublings_more more rows all some lt) in
          subst (λ k. Tells run lines k (best_in op all) row (carried_by run out)) long
          (tells_back run 2 n lines late (best_in op all) row (carried_by run out) behind late_told);
    }

-- ---- the first row, and the last

-- the best of one row is the row
pub best_alone : (op : ℕ → ℕ → ℕ) (run : Run) (lines : Lines) (value : ℕ → ℕ) → Tells run lines 0 (best_in op 1) value value
best_alone op run lines value c v =
    let e : suc c + 0 ≡ suc c = omega arith in
    let past : List ℕ = rows_since (own_ends (streams_by run lines.valid lines.eos)) (streams_by run lines.valid lines.eos) value 0 (suc c) in
    ap value e
    ∙ sym (ap (λ mine. best_in op 1 (past ++ mine)) (one_in (line_at run lines.valid (suc c)) (value (suc c)) v)
    ∙ ap (λ l. number_or itself (best_of op l)) (last_more 0 past (value (suc c)))
    ∙ ap (λ l. number_or itself (best_of op (l ++ value (suc c) ∷ []))) (drop_all (length past - 0) past (omega arith)))

-- two operators that give the same have the same bests
fold_same : (f g : ℕ → ℕ → ℕ) → ((x y : ℕ) → f x y ≡ g x y) → (a : ℕ) (ys : List ℕ) → fold f a ys ≡ fold g a ys
fold_same f g same a [] = refl
fold_same f g same a (y ∷ ys) = ap (λ b. fold f b ys) (same a y) ∙ fold_same f g same (g a y) ys

best_same : (f g : ℕ → ℕ → ℕ) → ((x y : ℕ) → f x y ≡ g x y) → (ys : List ℕ) → best_of f ys ≡ best_of g ys
best_same f g same [] = refl
best_same f g same (y ∷ ys) = ap Some (fold_same f g same y ys)

pub extreme_best : (extreme : Extreme) (kind : Kind) (ys : List ℕ) → number_or itself (best_of (better extreme kind) ys) ≡ extreme_of extreme kind ys
extreme_best Least kind ys = sym (extremes.least kind ys)
extreme_best Greatest kind ys = sym (extremes.greatest kind ys)

-- words without a bit more
pub plain_best : (order : Order) → order.packed ≡ false → (n : ℕ) (xs : List ℕ) → best_in (better_in order) n xs ≡ extreme_of order.extreme order.kind (last_ones n xs)
plain_best order plain n xs =
    ap (number_or itself) (best_same (better_in order) (better order.extreme order.kind) (plain_better order plain) (last_ones n xs))
    ∙ extreme_best order.extreme order.kind (last_ones n xs)
