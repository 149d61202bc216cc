-- One column more of a choice, and one copy more of the back.
use Rattle.std.proofs.Common.{◌≡◌, ℕ, zero, suc, ◌+◌, ◌*◌, ◌<◌, ◌≤◌, List, [], ◌∷◌, ◌++◌, length, Option, Some, None, Bool, true, false, refl, sym, ap, ◌∙◌, arith, length-append}
use Rattle.std.specs.List.{sum}
use Rattle.std.specs.Prelude.{slice_get, if◌then◌else◌, ◌||◌}
use Rattle.gl_bits.specs.Words.{choose_of}
use Rattle.gl_values.specs.Results.{Row}
use Rattle.gl_bits.proofs.AllLists.{get_front}
use Rattle.gl_net.specs.declared.node.Bus.{Bus}
use Rattle.gl_net.specs.declared.node.Bit.{Bit}
use Rattle.gl_net.specs.Net.{Net, Run, IsRun, IsBus, Keeps}
use Rattle.gl_net.proofs.Determined.{keeps_then}
use Rattle.gl_net.proofs.Growth.{same_keeps}
use Rattle.gl_wire.specs.declared.wire.Wire.{Wire}
use Rattle.gl_wire.specs.Wire.{AreBuses, Carried, carried, line_at, row_at, tuple_at, widths, wire_of}
use Rattle.gl_wire.specs.Lift.{first_of, tuple_of_any}
use Rattle.gl_wire.specs.Costs.{Costs, nodes_alone}
use Rattle.gl_wire.specs.Gates.{IsGate}
use Rattle.gl_wire.specs.Stages.{IsPad}
use Rattle.gl_wire.specs.Shapes.{IsDelayed}
use Rattle.gl_wire.proofs.ColumnLemmas.{AreBuses-push, buses_kept, widths-push, wire_kept, row_at-push}
use Rattle.gl_wire.proofs.StageLemmas.{delayed_same}
use Rattle.gl_wire.proofs.GateLemmas.{choose_line}
use Rattle.gl_wire.proofs.LiftLemmas.{first_of-none}
use Rattle.gl_wire_registers.specs.Lines.{carried_of}
use Rattle.gl_wire_registers.specs.declared.back.Merged.{Merged}
use Rattle.gl_wire_registers.specs.Backs.{AreWires, ChoosesRow, JoinsCopies, Merges, MergesTwo, nodes_of_merge}
use Rattle.gl_wire_registers.specs.Numbers.{IsNever}
use Rattle.gl_wire_registers.proofs.HalfLemmas.{get_behind}

pub width_at : (xs ys : List Bus) (k : ℕ) (x y : Bus) → widths xs ≡ widths ys → slice_get xs k ≡ Some x → slice_get ys k ≡ Some y → y.width ≡ x.width
width_at [] ys k x y h a b = absurd (cc)
width_at (c ∷ xs) [] k x y h a b = absurd (cc)
width_at (c ∷ xs) (d ∷ ys) zero x y h a b =
    let e : c.width ≡ d.width = cc in
    let f : c ≡ x = cc in
    let g : d ≡ y = cc in
    ap (λ (z : Bus). z.width) (sym g) ∙ sym e ∙ ap (λ (z : Bus). z.width) f
width_at (c ∷ xs) (d ∷ ys) (suc k) x y h a b = let t : widths xs ≡ widths ys = cc in width_at xs ys k x y t a b

pub chooses_more : (old mid new : Net) (test : Bit) (ys ns bs : List Bus) (y n b : Bus) → ChoosesRow old mid test ys ns bs → Keeps mid new → IsBus new b → b.width ≡ y.width → Costs mid new (nodes_alone 1)
    → ((run : Run) → IsRun new run → (t : ℕ) → run.at t b.node ≡ choose_of (run.at t test.node) (run.at t y.node) (run.at t n.node))
    → ChoosesRow old new test (ys ++ y ∷ []) (ns ++ n ∷ []) (bs ++ b ∷ [])
chooses_more old mid new test ys ns bs y n b h keeps bus width cost value = record {
  keeps = keeps_then old mid new h.keeps keeps;
  buses = AreBuses-push new bs b (buses_kept mid new bs keeps h.buses) bus;
  same_widths = widths-push bs b ∙ ap (λ l. l ++ b.width ∷ []) h.same_widths ∙ ap (λ x. widths ys ++ x ∷ []) width ∙ sym (widths-push ys y);
  cost = record { nodes = omega (arith, cost.nodes, h.cost.nodes, length-append ys (y ∷ [])); registers = omega (arith, cost.registers, h.cost.registers); memories = omega (arith, cost.memories, h.cost.memories) };
  row = λ run r t.
      row_at-push run (suc t) bs b
      ∙ ap (λ l. l ++ run.at (suc t) b.node ∷ []) (h.row run (keeps.runs run r) t)
      ∙ ap (λ v. (if line_at run test (suc t) then row_at run (suc t) ys else row_at run (suc t) ns) ++ v ∷ []) (value run r (suc t) ∙ choose_line run test (run.at (suc t) y.node) (run.at (suc t) n.node) t)
      ∙ joined run t (line_at run test (suc t));
}
  where
    joined : (run : Run) (t : ℕ) (v : Bool) → (if v then row_at run (suc t) ys else row_at run (suc t) ns) ++ (if v then run.at (suc t) y.node else run.at (suc t) n.node) ∷ [] ≡ (if v then row_at run (suc t) (ys ++ y ∷ []) else row_at run (suc t) (ns ++ n ∷ []))
    joined run t true = sym (row_at-push run (suc t) ys y)
    joined run t false = sym (row_at-push run (suc t) ns n)

-- ---- copies

first_chosen : (a b : Bool) (p q c : Row) → c ≡ (if a then p else q) → (if a || b then Some c else None) ≡ first_of (if a then Some p else None) (if b then Some q else None)
first_chosen true b p q c e = ap Some e
first_chosen false true p q c e = ap Some e
first_chosen false false p q c e = refl

length_by : (xs : List Bus) (ws : List ℕ) → widths xs ≡ ws → length xs ≡ length ws
length_by xs ws h = long xs ∙ ap length h
  where
    long : (ys : List Bus) → length ys ≡ length (widths ys)
    long [] = refl
    long (y ∷ ys) = ap suc (long ys)

merged_tuple : (run : Run) (v q u : Bit) (bs ds cs : List Bus) → ((t : ℕ) → line_at run u t ≡ (line_at run v t || line_at run q t))
    → ((t : ℕ) → row_at run (suc t) cs ≡ (if line_at run v (suc t) then row_at run (suc t) bs else row_at run (suc t) ds))
    → (t : ℕ) → tuple_at run u cs t ≡ first_of (tuple_at run v bs t) (tuple_at run q ds t)
unfolding tuple_at line_at
merged_tuple run v q u bs ds cs line row zero = refl
merged_tuple run v q u bs ds cs line row (suc t) =
    ap (λ (b : Bool). if b then Some (row_at run (suc t) cs) else None) (line (suc t))
    ∙ first_chosen (line_at run v (suc t)) (line_at run q (suc t)) (row_at run (suc t) bs) (row_at run (suc t) ds) (row_at run (suc t) cs) (row t)

pub merges_two : (old mid new : Net) (first second : Merged) (bs : List Bus) (v : Bit) → ChoosesRow old mid first.valid first.columns second.columns bs → IsGate mid new (λ p q. p || q) first.valid second.valid v
    → MergesTwo old new first second (record { valid = v; columns = bs })
merges_two old mid new first second bs v c g = record {
  keeps = keeps_then old mid new c.keeps g.keeps;
  valid = g.bit;
  buses = buses_kept mid new bs g.keeps c.buses;
  same_widths = c.same_widths;
  cost = record { nodes = omega (arith, c.cost.nodes, g.cost.nodes); registers = omega (arith, c.cost.registers, g.cost.registers); memories = omega (arith, c.cost.memories, g.cost.memories) };
  tuple = λ run r. merged_tuple run first.valid second.valid v first.columns second.columns bs (g.line run r) (c.row run (g.keeps.runs run r));
}

-- ---- the first one of some copies, or of others

first_join : (o p q : Option Row) → first_of (first_of o p) q ≡ first_of o (first_of p q)
first_join None p q = refl
first_join (Some r) p q = refl

pub tuples_same : (f g : ℕ → Carried) (n c : ℕ) → ((k : ℕ) → k < n → (f k).tuple c ≡ (g k).tuple c) → tuple_of_any f n c ≡ tuple_of_any g n c
tuples_same f g zero c h = refl
tuples_same f g (suc n) c h = ap (λ o. first_of o ((f n).tuple c)) (tuples_same f g n c (λ k l. h k (omega (arith, l)))) ∙ ap (first_of (tuple_of_any g n c)) (h n (omega arith))

tuples_split : (f : ℕ → Carried) (m n c : ℕ) → tuple_of_any f (m + n) c ≡ first_of (tuple_of_any f m c) (tuple_of_any (λ k. f (m + k)) n c)
tuples_split f m zero c = let e : m + 0 ≡ m = omega arith in ap (λ i. tuple_of_any f i c) e ∙ sym (first_of-none (tuple_of_any f m c))
tuples_split f m (suc n) c =
    let e : m + suc n ≡ suc (m + n) = omega arith in
    ap (λ i. tuple_of_any f i c) e ∙ ap (λ o. first_of o ((f (m + n)).tuple c)) (tuples_split f m n c)
    ∙ first_join (tuple_of_any f m c) (tuple_of_any (λ k. f (m + k)) n c) ((f (m + n)).tuple c)

carried_front : (run : Run) (ws vs : List Wire) (k : ℕ) → k < length ws → carried_of run (ws ++ vs) k ≡ carried_of run ws k
unfolding carried_of
carried_front run [] vs k l = absurd (omega (arith, l))
carried_front run (w ∷ ws) vs zero l = refl
carried_front run (w ∷ ws) vs (suc k) l = carried_front run ws vs k (omega (arith, l))

carried_behind : (run : Run) (ws vs : List Wire) (k : ℕ) → carried_of run (ws ++ vs) (length ws + k) ≡ carried_of run vs k
unfolding carried_of
carried_behind run [] vs k = let e : 0 + k ≡ k = omega arith in ap (carried_of run vs) e
carried_behind run (w ∷ ws) vs k = let e : suc (length ws) + k ≡ suc (length ws + k) = omega arith in ap (carried_of run (w ∷ ws ++ vs)) e ∙ carried_behind run ws vs k

tuples_halves : (run : Run) (ws vs : List Wire) (c : ℕ)
    → tuple_of_any (carried_of run (ws ++ vs)) (length (ws ++ vs)) c ≡ first_of (tuple_of_any (carried_of run ws) (length ws) c) (tuple_of_any (carried_of run vs) (length vs) c)
tuples_halves run ws vs c =
    ap (λ n. tuple_of_any (carried_of run (ws ++ vs)) n c) (length-append ws vs) ∙ tuples_split (carried_of run (ws ++ vs)) (length ws) (length vs) c
    ∙ ap (λ o. first_of o (tuple_of_any (λ k. carried_of run (ws ++ vs) (length ws + k)) (length vs) c))
    (tuples_same (carried_of run (ws ++ vs)) (carried_of run ws) (length ws) c (λ k l. ap (λ (x : Carried). x.tuple c) (carried_front run ws vs k l)))
    ∙ ap (first_of (tuple_of_any (carried_of run ws) (length ws) c))
    (tuples_same (λ k. carried_of run (ws ++ vs) (length ws + k)) (carried_of run vs) (length vs) c (λ k l. ap (λ (x : Carried). x.tuple c) (carried_behind run ws vs k)))

-- ---- the tree

pub merges_none : (old new : Net) (ws : List Wire) (v : Bit) (bs : List Bus) → IsNever old new v → AreBuses old bs → length ws ≡ 0 → Merges old new ws (widths bs) (record { valid = v; columns = bs })
unfolding tuple_at
merges_none old new [] v bs h buses none = record {
  keeps = h.keeps;
  valid = h.bit;
  buses = buses_kept old new bs h.keeps buses;
  same_widths = refl;
  cost = record { nodes = omega (arith, h.cost.nodes); registers = omega (arith, h.cost.registers); memories = omega (arith, h.cost.memories) };
  tuple = λ run r t. ap (λ (b : Bool). if b then Some (row_at run t bs) else None) (h.line run r t);
}
merges_none old new (w ∷ ws) v bs h buses none = absurd (omega (arith, none))

pub merges_only : (net : Net) (ws : List Wire) (w : Wire) (columns : List ℕ) → AreWires net ws columns → slice_get ws 0 ≡ Some w → length ws < 2 → Merges net net ws columns (record { valid = w.valid; columns = w.columns })
unfolding carried_of
merges_only net [] w columns are h l = absurd (cc)
merges_only net (x ∷ []) w columns are h l =
    let same : x ≡ w = cc in
    let wire = are.each 0 w h in
    record {
      keeps = same_keeps net;
      valid = wire.valid;
      buses = wire.columns;
      same_widths = are.same_widths 0 w h;
      cost = record { nodes = omega arith; registers = omega arith; memories = omega arith };
      tuple = λ run r t. ap (λ (y : Wire). (carried run y).tuple t) (sym same);
    }
merges_only net (x ∷ y ∷ ws) w columns are h l = absurd (omega (arith, l))

-- a half of some wires are wires
pub wires_part : (net : Net) (ws vs : List Wire) (columns : List ℕ) → AreWires net (ws ++ vs) columns → AreWires net ws columns × AreWires net vs columns
wires_part net ws vs columns h = (
  record { each = λ k w e. h.each k w (get_front ws vs k w e); same_widths = λ k w e. h.same_widths k w (get_front ws vs k w e) },
  record { each = λ k w e. h.each (length ws + k) w (get_behind ws vs k w e); same_widths = λ k w e. h.same_widths (length ws + k) w (get_behind ws vs k w e) },
)

pub wires_kept : (old new : Net) (ws : List Wire) (columns : List ℕ) → Keeps old new → AreWires old ws columns → AreWires new ws columns
wires_kept old new ws columns keeps h = record { each = λ k w e. wire_kept old new w keeps (h.each k w e); same_widths = h.same_widths }

merge_nodes : (m n c : ℕ) → 1 ≤ m → 1 ≤ n → nodes_of_merge m c + nodes_of_merge n c + (c + 1) ≡ nodes_of_merge (m + n) c
merge_nodes zero n c l k = absurd (omega (arith, l))
merge_nodes (suc m) zero c l k = absurd (omega (arith, k))
merge_nodes (suc m) (suc n) c l k =
    let e : suc m + suc n ≡ suc (m + suc n) = omega arith in
    let all : m * (c + 1) + n * (c + 1) + (c + 1) ≡ (m + suc n) * (c + 1) = omega arith in
    all ∙ ap (λ i. nodes_of_merge i c) (sym e)

pub merge_within : (n c : ℕ) → nodes_of_merge n c ≤ n * (c + 1) + 1
merge_within zero c = omega arith
merge_within (suc n) c = omega arith

pub merges_both : (n0 n1 n2 n3 : Net) (ws vs : List Wire) (columns : List ℕ) (left right m : Merged) → 1 ≤ length ws → 1 ≤ length vs → Merges n0 n1 ws columns left → Merges n1 n2 vs columns right
    → MergesTwo n2 n3 left right m → Merges n0 n3 (ws ++ vs) columns m
merges_both n0 n1 n2 n3 ws vs columns left right m some_left some_right a b g =
    let each : nodes_of_merge (length ws) (length columns) + nodes_of_merge (length vs) (length columns) + (length columns + 1) ≡ nodes_of_merge (length (ws ++ vs)) (length columns) =
    merge_nodes (length ws) (length vs) (length columns) some_left some_right ∙ ap (λ n. nodes_of_merge n (length columns)) (sym (length-append ws vs)) in
    record {
      keeps = keeps_then n0 n1 n3 a.keeps (keeps_then n1 n2 n3 b.keeps g.keeps);
      valid = g.valid;
      buses = g.buses;
      same_widths = g.same_widths ∙ a.same_widths;
      cost = record {
        nodes = omega (arith, a.cost.nodes, b.cost.nodes, g.cost.nodes, each, length_by left.columns columns a.same_widths);
        registers = omega (arith, a.cost.registers, b.cost.registers, g.cost.registers);
        memories = omega (arith, a.cost.memories, b.cost.memories, g.cost.memories);
      };
      tuple = λ run r t.
          let at_b = g.keeps.runs run r in
          g.tuple run r t ∙ ap (λ o. first_of o (tuple_at run right.valid right.columns t)) (a.tuple run (b.keeps.runs run at_b) t)
          ∙ ap (first_of (tuple_of_any (carried_of run ws) (length ws) t)) (b.tuple run at_b t) ∙ sym (tuples_halves run ws vs t);
    }

joined_by : (run : Run) (v close : Bit) (bs : List Bus) (ws : List Wire) (n : ℕ) (w : Wire) → ((t : ℕ) → tuple_at run v bs t ≡ tuple_of_any (carried_of run ws) n t) → IsDelayed 1 (carried run (wire_of v close bs)) (carried run w)
    → IsDelayed 1 (record { tuple = tuple_of_any (carried_of run ws) n; ends = line_at run close }) (carried run w)
joined_by run v close bs ws n w tuple d = delayed_same 1 (carried run (wire_of v close bs)) (record { tuple = tuple_of_any (carried_of run ws) n; ends = line_at run close }) (carried run w) tuple (λ c. refl) d

-- a stage behind the tuples of all copies and a line
pub joins_copies : (old mid new : Net) (ws : List Wire) (close : Bit) (columns : List ℕ) (m : Merged) (w : Wire) → Merges old mid ws columns m
    → IsPad mid new 1 (wire_of m.valid close m.columns) w → JoinsCopies old new ws close columns w
joins_copies old mid new ws close columns m w h p = record {
  keeps = keeps_then old mid new h.keeps p.keeps;
  wire = p.wire;
  same_widths = p.same_widths ∙ h.same_widths;
  cost = record {
    nodes = omega (arith, p.cost.nodes, h.cost.nodes, ap length h.same_widths);
    registers = omega (arith, p.cost.registers, h.cost.registers, ap sum h.same_widths);
    memories = omega (arith, p.cost.memories, h.cost.memories);
  };
  delayed = λ run r. joined_by run m.valid close m.columns ws (length ws) w (h.tuple run (p.keeps.runs run r)) (p.delayed run r);
}
