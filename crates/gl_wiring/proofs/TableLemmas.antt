-- A table of circuits, node by node.
use Rattle.std.proofs.Common.{◌≡◌, ℕ, suc, ◌+◌, ◌<◌, inl, inr, Bool, true, false, List, [], ◌∷◌, ◌++◌, length, Option, Some, None, All, slice_get, length-append, refl, sym, ap, ◌∙◌, subst, arith}
use Rattle.std.specs.Prelude.{◌||◌, nat_eq}
use Rattle.std.proofs.lemmas.Bool.{cases_lt, eq-eqb}
use Rattle.std.proofs.lemmas.List.Elements.{All-cons, All-nil, All-from_recursion}
use Rattle.std.proofs.lemmas.Option.{slice_get_within}
use Rattle.gl_bits.proofs.AllLists.{get_last}
use Rattle.gl_bits.proofs.Bools.{by_cases, or_left}
use Rattle.gl_bits.proofs.Options.{some_same}
use Rattle.gl_algebra.specs.declared.figures.Figures.{Figures}
use Rattle.gl_algebra.specs.declared.node.PlanNode.{PlanNode}
use Rattle.gl_algebra.specs.Cost.{keys_of, lean_of, store_of}
use Rattle.gl_algebra.specs.FigureTable.{figures_of}
use Rattle.gl_algebra.specs.Fits.{IsPlan}
use Rattle.gl_algebra.specs.Laws.{NodesFollowTables}
use Rattle.gl_algebra.specs.Results.{IsPlanArrival, IsPlanResult}
use Rattle.gl_algebra.specs.Shapes.{shape_of}
use Rattle.gl_algebra.specs.Views.{children_of}
use Rattle.gl_algebra.specs.Weights.{weight_of}
use Rattle.gl_algebra.proofs.ListLemmas.{get-append}
use Rattle.gl_algebra.proofs.PlanLemmas.{in_order}
use Rattle.gl_net.specs.declared.node.Bit.{Bit}
use Rattle.gl_net.specs.Net.{Net, Keeps}
use Rattle.gl_net.proofs.Determined.{keeps_then}
use Rattle.gl_net.proofs.Growth.{same_keeps}
use Rattle.gl_figures.specs.Marks.{AreMarks}
use Rattle.gl_figures.specs.Reach.{keys_part, lean_part, lies_below, reached, store_part, weight_part}
use Rattle.gl_figures.proofs.MarkLemmas.{all_of}
use Rattle.gl_figures.proofs.ReachLemmas.{children_all, once_below, one_sum}
use Rattle.gl_figures.proofs.SumLemmas.{sum-same}
use Rattle.gl_wire.specs.declared.emitted.Emitted.{Emitted}
use Rattle.gl_wire.specs.declared.wire.Wire.{Wire}
use Rattle.gl_wire.specs.Costs.{CostsAtMost}
use Rattle.gl_wiring.specs.Put.{Gives, HasColumns, IsPut, IsPutBehind, plan_cost}
use Rattle.gl_wiring.specs.Roots.{GivesOnce}
use Rattle.gl_wiring.specs.Tables.{ArePutTo, CanPutMarked, HasCircuit, HaveChildren, IsSlot, is_marked}
use Rattle.gl_wiring.proofs.GivesLemmas.{gives_kept}
use Rattle.gl_wiring.proofs.MarkedLemmas.{all_by}

-- ---- what is taken out of a table

pub gives_columns : {nodes : List PlanNode} {id : ℕ} {net : Net} {tick : Option Bit} {leaves : List Wire} {e : Emitted} → Gives nodes id net tick leaves e
    → HasColumns nodes id net e
gives_columns h = record { wire = h.wire; same_widths = h.same_widths; lines = h.lines }

pub is_there : {nodes : List PlanNode} {net : Net} {tick : Option Bit} {leaves : List Wire} {table : List (Option Emitted)} {id : ℕ}
    → HasCircuit nodes net tick leaves table id → (e : Emitted) × (slice_get table id ≡ Some (Some e))
is_there h = (h.circuit, h.there)

pub taken_gives : {nodes : List PlanNode} {net : Net} {tick : Option Bit} {leaves : List Wire} {table : List (Option Emitted)} {id : ℕ} {e : Emitted}
    → HasCircuit nodes net tick leaves table id → slice_get table id ≡ Some (Some e) → Gives nodes id net tick leaves e
taken_gives {nodes} {net} {tick} {leaves} {table} {id} {e} h at =
    let same : h.circuit ≡ e = some_same h.circuit e (some_same (Some h.circuit) (Some e) (sym h.there ∙ at)) in
    subst (λ (x : Emitted). Gives nodes id net tick leaves x) same h.gives

pub taken_once : {nodes : List PlanNode} {net : Net} {tick : Option Bit} {leaves : List Wire} {table : List (Option Emitted)} {id : ℕ} {e : Emitted}
    → HasCircuit nodes net tick leaves table id → slice_get table id ≡ Some (Some e) → GivesOnce nodes id net tick leaves e
taken_once {nodes} {net} {tick} {leaves} {table} {id} {e} h at =
    let same : h.circuit ≡ e = some_same h.circuit e (some_same (Some h.circuit) (Some e) (sym h.there ∙ at)) in
    subst (λ (x : Emitted). GivesOnce nodes id net tick leaves x) same h.once

-- it does so in a netlist that grows
pub once_kept : (nodes : List PlanNode) (id : ℕ) (old new : Net) (tick : Option Bit) (leaves : List Wire) (e : Emitted) → Keeps old new
    → GivesOnce nodes id old tick leaves e → GivesOnce nodes id new tick leaves e
once_kept nodes id old new tick leaves e keeps h = record { serves = λ ticked run is. h.serves ticked run (keeps.runs run is) }

-- ---- one node after the other

-- a circuit stays in a larger table and in a larger netlist
circuit_kept : (nodes : List PlanNode) (old new : Net) (tick : Option Bit) (leaves : List Wire) (table more : List (Option Emitted)) (id : ℕ) → id < length table
    → Keeps old new → HasCircuit nodes old tick leaves table id → HasCircuit nodes new tick leaves (table ++ more) id
circuit_kept nodes old new tick leaves table more id below keeps h = record {
  circuit = h.circuit;
  there = get-append table more id below ∙ h.there;
  gives = gives_kept (shape_of nodes id) (figures_of nodes id) (IsPlanArrival nodes id) (IsPlanResult nodes id) old new tick leaves h.circuit keeps h.gives;
  once = once_kept nodes id old new tick leaves h.circuit keeps h.once;
}

pub put_none : (nodes : List PlanNode) (marks : List Bool) (net : Net) (tick : Option Bit) (leaves : List Wire) → ArePutTo nodes marks 0 net net tick leaves []
put_none nodes marks net tick leaves = record {
  as_many = refl;
  keeps = same_keeps net;
  cost = record { nodes = omega arith; registers = omega arith; memories = omega arith };
  gives = λ id below marked. absurd (omega (arith, below));
}

module _ (nodes : List PlanNode) (marks : List Bool) (k : ℕ) (old mid new : Net) (tick : Option Bit) (leaves : List Wire) (table : List (Option Emitted))
    (h : ArePutTo nodes marks k old mid tick leaves table) where
  -- a node that is not marked has no entry
  put_over : is_marked marks k ≡ false → ArePutTo nodes marks (suc k) old mid tick leaves (table ++ None ∷ [])
  put_over unmarked = record {
    as_many = (let one : List (Option Emitted) = None ∷ [] in let long = length-append table one in omega (arith, h.as_many, long));
    keeps = h.keeps;
    cost = rw unmarked (record {
      nodes = omega (arith, h.cost.nodes);
      registers = omega (arith, h.cost.registers);
      memories = omega (arith, h.cost.memories);
    });
    gives = λ id below marked. elim (cases_lt id k) [
      | inl b ↦ circuit_kept nodes mid mid tick leaves table (None ∷ []) id (omega (arith, b, h.as_many)) (same_keeps mid) (h.gives id b marked)
      | inr b ↦ absurd (let same : id ≡ k = omega (arith, b, below) in let e = ap (is_marked marks) same in cc)
    ];
  }

  -- a marked node is put once
  put_more : (e : Emitted) → is_marked marks k ≡ true → IsPutBehind nodes k mid new tick leaves e → GivesOnce nodes k new tick leaves e
      → ArePutTo nodes marks (suc k) old new tick leaves (table ++ Some e ∷ [])
  put_more e marked put once = record {
    as_many = (let long = length-append table (Some e ∷ []) in omega (arith, h.as_many, long));
    keeps = keeps_then old mid new h.keeps put.keeps;
    cost = rw marked (record {
      nodes = omega (arith, h.cost.nodes, put.cost.nodes);
      registers = omega (arith, h.cost.registers, put.cost.registers);
      memories = omega (arith, h.cost.memories, put.cost.memories);
    });
    gives = λ id below is. elim (cases_lt id k) [
      | inl b ↦ circuit_kept nodes mid new tick leaves table (Some e ∷ []) id (omega (arith, b, h.as_many)) put.keeps (h.gives id b is)
      | inr b ↦ (let same : k ≡ id = omega (arith, b, below) in
          subst (HasCircuit nodes new tick leaves (table ++ Some e ∷ [])) same (record {
            circuit = e;
            there = ap (slice_get (table ++ Some e ∷ [])) (sym h.as_many) ∙ get_last table (Some e);
            gives = put.gives;
            once = once;
          }))
    ];
  }

-- one step
slot_step : (nodes : List PlanNode) (marks : List Bool) (k : ℕ) (old mid new : Net) (tick : Option Bit) (leaves : List Wire) (table : List (Option Emitted))
    → ArePutTo nodes marks k old mid tick leaves table → (slot : Option Emitted) → IsSlot nodes k mid new tick leaves (is_marked marks k) slot
    → ArePutTo nodes marks (suc k) old new tick leaves (table ++ slot ∷ [])
slot_step nodes marks k old mid new tick leaves table h slot is =
    by_cases (is_marked marks k)
    (λ e. let s = is.once e in
    subst (λ (o : Option Emitted). ArePutTo nodes marks (suc k) old new tick leaves (table ++ o ∷ [])) (sym s.1)
    (put_more nodes marks k old mid new tick leaves table h s.0 e s.2 s.3))
    (λ e. let s = is.over e in
    subst (λ (o : Option Emitted). ArePutTo nodes marks (suc k) old new tick leaves (table ++ o ∷ [])) (sym s.0)
    (subst (λ (n : Net). ArePutTo nodes marks (suc k) old n tick leaves (table ++ None ∷ [])) (sym s.1)
    (put_over nodes marks k old mid mid tick leaves table h e)))

pub slot_next : (nodes : List PlanNode) (marks : List Bool) (k : ℕ) (old mid new : Net) (tick : Option Bit) (leaves : List Wire) (table : List (Option Emitted))
    → ArePutTo nodes marks k old mid tick leaves table → (slot : Option Emitted) → IsSlot nodes k mid new tick leaves (is_marked marks k) slot
    → ArePutTo nodes marks (k + 1) old new tick leaves (table ++ slot ∷ [])
slot_next nodes marks k old mid new tick leaves table h slot is =
    let next : suc k ≡ k + 1 = omega arith in
    subst (λ n. ArePutTo nodes marks n old new tick leaves (table ++ slot ∷ [])) next (slot_step nodes marks k old mid new tick leaves table h slot is)

-- the circuits of a marked node's children are there when its turn comes
pub children_there : (nodes : List PlanNode) (plan : IsPlan nodes) (figures : List Figures) (marks : List Bool) (net : Net) (tick : Option Bit) (leaves : List Wire)
    → CanPutMarked nodes figures marks net tick leaves → (k : ℕ) → is_marked marks k ≡ true
    → (old mid : Net) (table : List (Option Emitted)) → ArePutTo nodes marks k old mid tick leaves table
    → HaveChildren nodes k mid tick leaves table
children_there nodes plan figures marks net tick leaves can k marked old mid table h node is =
    let within = slice_get_within nodes k node is in
    let before : All (λ child. child < k) (children_of node) =
    children_all (λ child. child < k) node (in_order nodes plan (length nodes) k node within is) in
    let closed : All (λ child. is_marked marks child ≡ true) (children_of node) = All-from_recursion _ (children_of node) (can.closed k node is marked) in
    all_by (HasCircuit nodes mid tick leaves table) (children_of node)
    (λ child is_child. h.gives child (all_of (λ c. c < k) (children_of node) child before is_child)
    (all_of (λ c. is_marked marks c ≡ true) (children_of node) child closed is_child))

-- ---- at the end

-- what is reached from one root costs no more than the root's circuit where each node is put for each use
one_root : NodesFollowTables → (nodes : List PlanNode) → IsPlan nodes → (root limit : ℕ) → root < length nodes → (marks : List Bool) → AreMarks nodes (root ∷ []) marks
    → (old new : Net) (tick : Option Bit) (leaves : List Wire) (table : List (Option Emitted)) → ArePutTo nodes marks limit old new tick leaves table
    → CostsAtMost old new (plan_cost nodes root)
one_root follow nodes plan root limit within marks are old new tick leaves table h =
    let rooted : All (λ r. r < length nodes) (root ∷ []) = All-cons (λ r. r < length nodes) root [] within (All-nil (λ r. r < length nodes)) in
    let once = once_below follow nodes (root ∷ []) limit plan rooted in
    let w = sum-same (weight_part nodes) (is_marked marks) (reached nodes (root ∷ [])) are.each limit in
    let l = sum-same (lean_part nodes) (is_marked marks) (reached nodes (root ∷ [])) are.each limit in
    let k = sum-same (keys_part nodes) (is_marked marks) (reached nodes (root ∷ [])) are.each limit in
    let s = sum-same (store_part nodes) (is_marked marks) (reached nodes (root ∷ [])) are.each limit in
    record {
      nodes = omega (arith, h.cost.nodes, w, once.weight, one_sum (weight_of nodes) root);
      registers = omega (arith, h.cost.registers, l, k, once.lean, once.keys, one_sum (lean_of nodes) root, one_sum (keys_of nodes) root);
      memories = omega (arith, h.cost.memories, s, once.store, one_sum (store_of nodes) root);
    }

module _ (nodes : List PlanNode) (plan : IsPlan nodes) (root limit : ℕ) (is_limit : limit ≡ root + 1) (within : root < length nodes) (marks : List Bool)
    (are : AreMarks nodes (root ∷ []) marks) (old new : Net) (tick : Option Bit) (leaves : List Wire) (table : List (Option Emitted))
    (h : ArePutTo nodes marks limit old new tick leaves table) where
  root_has : HasCircuit nodes new tick leaves table root
  root_has = h.gives root (omega (arith, is_limit)) (are.each root ∙ or_left (nat_eq root root || lies_below nodes root root) false
      (or_left (nat_eq root root) (lies_below nodes root root) (eq-eqb root root refl)))

  pub root_is_there : (e : Emitted) × (slice_get table root ≡ Some (Some e))
  root_is_there = is_there root_has

  -- so the circuit of a root, with all that it reaches, is put
  pub one_is_put : NodesFollowTables → (e : Emitted) → slice_get table root ≡ Some (Some e) → IsPut nodes root old new tick leaves e
  one_is_put follow e at = record {
    keeps = h.keeps;
    cost = one_root follow nodes plan root limit within marks are old new tick leaves table h;
    gives = taken_gives root_has at;
  }
