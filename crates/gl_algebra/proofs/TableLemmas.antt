-- What a plan has for a node follows the tables, and later nodes change none of it.
use Rattle.std.proofs.Common.{◌≡◌, ℕ, ◌<◌, List, ◌++◌, length, Some, slice_get, refl, sym, arith}
use Rattle.gl_algebra.specs.declared.figures.Figures.{Figures}
use Rattle.gl_algebra.specs.declared.node.PlanNode.{PlanNode}
use Rattle.gl_algebra.specs.declared.node.PlanNode.TheVariants.{Stream, Body, Compute, Select, Project, Frames, Aggregate, Union, Merge, Beside, Window, TimeWindow, Group, Partition}
use Rattle.gl_algebra.specs.FigureTable.{figures_of}
use Rattle.gl_algebra.specs.Laws.{NodesFollowTables, EarlierNodesAreKept}
use Rattle.gl_algebra.specs.Nodewise.{named_by}
use Rattle.gl_algebra.specs.Shapes.{Shape, shape_of}
use Rattle.gl_algebra.specs.Cost.{keys_from, keys_of, lean_from, lean_of, store_from, store_of}
use Rattle.gl_algebra.specs.Direct.{Form, copied, form_from, form_of}
use Rattle.gl_algebra.specs.Weights.{weight_from, weight_of, copies_from, copies_of}
use Rattle.std.proofs.lemmas.Option.{slice_get_within}
use Rattle.gl_algebra.proofs.FigureLemmas.{figures-node, figures-kept}
use Rattle.gl_algebra.proofs.ListLemmas.{get-append}
use Rattle.gl_algebra.proofs.NodewiseLemmas.{Agree, AreInOrder, agree, agree_self, nodewise-kept, nodewise-node}
use Rattle.gl_algebra.proofs.PlanLemmas.{in_order}
use Rattle.gl_algebra.proofs.ResultLemmas.{arriving-node, arriving-kept, meaning-node, meaning-kept, moved, moved_in_place}
use Rattle.gl_algebra.proofs.ShapeLemmas.{shape-node, shape-kept}

weight_local : (s t : ℕ → Shape) (f g : ℕ → Figures) (v w : ℕ → ℕ) (node : PlanNode)
    → Agree s t (named_by node) → Agree f g (named_by node) → Agree v w (named_by node)
    → weight_from s f v node ≡ weight_from t g w node
weight_local s t f g v w (Stream number kinds) a b c = refl
weight_local s t f g v w (Body kinds) a b c = refl
weight_local s t f g v w (Compute child ops) a b c = rw (a.0, c.0)
weight_local s t f g v w (Select child column) a b c = rw (a.0, c.0)
weight_local s t f g v w (Project child items) a b c = rw (a.0, c.0)
weight_local s t f g v w (Frames child by items) a b c = rw (a.0, c.0)
weight_local s t f g v w (Aggregate child aggs) a b c = rw (a.0, c.0)
weight_local s t f g v w (Union left right) a b c = rw (a.0, b.0, b.1.0, c.0, c.1.0)
weight_local s t f g v w (Merge left right) a b c = rw (a.0, b.0, b.1.0, c.0, c.1.0)
weight_local s t f g v w (Beside left right) a b c = rw (a.0, a.1.0, b.0, b.1.0, c.0, c.1.0)
weight_local s t f g v w (Window source body size advance) a b c = rw (a.0, a.1.0, b.0, b.1.0, c.0, c.1.0)
weight_local s t f g v w (TimeWindow source body size advance) a b c = rw (a.0, a.1.0, b.0, b.1.0, c.0, c.1.0)
weight_local s t f g v w (Group source body key groups) a b c = rw (a.0, a.1.0, b.0, b.1.0, c.0, c.1.0)
weight_local s t f g v w (Partition source body key groups size advance) a b c = rw (a.0, a.1.0, b.0, b.1.0, c.0, c.1.0)

copies_local : (v w : ℕ → ℕ) (node : PlanNode) → Agree v w (named_by node) → copies_from v node ≡ copies_from w node
copies_local v w (Stream number kinds) h = refl
copies_local v w (Body kinds) h = refl
copies_local v w (Compute child ops) h = rw h.0
copies_local v w (Select child column) h = rw h.0
copies_local v w (Project child items) h = rw h.0
copies_local v w (Frames child by items) h = rw h.0
copies_local v w (Aggregate child aggs) h = rw h.0
copies_local v w (Union left right) h = rw (h.0, h.1.0)
copies_local v w (Merge left right) h = rw (h.0, h.1.0)
copies_local v w (Beside left right) h = rw (h.0, h.1.0)
copies_local v w (Window source body size advance) h = rw (h.0, h.1.0)
copies_local v w (TimeWindow source body size advance) h = rw (h.0, h.1.0)
copies_local v w (Group source body key groups) h = rw (h.0, h.1.0)
copies_local v w (Partition source body key groups size advance) h = rw (h.0, h.1.0)

lean_local : (s : ℕ → Shape) (f : ℕ → Figures) (o : ℕ → Form) (v w : ℕ → ℕ) (node : PlanNode) → Agree v w (named_by node)
    → lean_from s f o v node ≡ lean_from s f o w node
lean_local s f o v w (Stream number kinds) h = refl
lean_local s f o v w (Body kinds) h = refl
lean_local s f o v w (Compute child ops) h = rw h.0
lean_local s f o v w (Select child column) h = rw h.0
lean_local s f o v w (Project child items) h = rw h.0
lean_local s f o v w (Frames child by items) h = rw h.0
lean_local s f o v w (Aggregate child aggs) h = rw h.0
lean_local s f o v w (Union left right) h = rw (h.0, h.1.0)
lean_local s f o v w (Merge left right) h = rw (h.0, h.1.0)
lean_local s f o v w (Beside left right) h = rw (h.0, h.1.0)
lean_local s f o v w (Window source body size advance) h = rw (h.0, h.1.0)
lean_local s f o v w (TimeWindow source body size advance) h = rw (h.0, h.1.0)
lean_local s f o v w (Group source body key groups) h = rw (h.0, h.1.0)
lean_local s f o v w (Partition source body key groups size advance) h = rw (h.0, h.1.0)

form_local : (s : ℕ → Shape) (v w : ℕ → Form) (node : PlanNode) → Agree v w (named_by node) → form_from s v node ≡ form_from s w node
form_local s v w (Stream number kinds) h = refl
form_local s v w (Body kinds) h = refl
form_local s v w (Compute child ops) h = rw h.0
form_local s v w (Select child column) h = rw h.0
form_local s v w (Project child items) h = rw h.0
form_local s v w (Frames child by items) h = refl
form_local s v w (Aggregate child aggs) h = rw h.0
form_local s v w (Union left right) h = refl
form_local s v w (Merge left right) h = refl
form_local s v w (Beside left right) h = refl
form_local s v w (Window source body size advance) h = refl
form_local s v w (TimeWindow source body size advance) h = refl
form_local s v w (Group source body key groups) h = refl
form_local s v w (Partition source body key groups size advance) h = refl

keys_local : (s : ℕ → Shape) (o : ℕ → Form) (v w : ℕ → ℕ) (node : PlanNode) → Agree v w (named_by node) → keys_from s o v node ≡ keys_from s o w node
keys_local s o v w (Stream number kinds) h = refl
keys_local s o v w (Body kinds) h = refl
keys_local s o v w (Compute child ops) h = rw h.0
keys_local s o v w (Select child column) h = rw h.0
keys_local s o v w (Project child items) h = rw h.0
keys_local s o v w (Frames child by items) h = rw h.0
keys_local s o v w (Aggregate child aggs) h = rw h.0
keys_local s o v w (Union left right) h = rw (h.0, h.1.0)
keys_local s o v w (Merge left right) h = rw (h.0, h.1.0)
keys_local s o v w (Beside left right) h = rw (h.0, h.1.0)
keys_local s o v w (Window source body size advance) h = rw (h.0, h.1.0)
keys_local s o v w (TimeWindow source body size advance) h = rw (h.0, h.1.0)
keys_local s o v w (Group source body key groups) h = rw (h.0, h.1.0)
keys_local s o v w (Partition source body key groups size advance) h = rw (h.0, h.1.0)

store_local : (s : ℕ → Shape) (f : ℕ → Figures) (o : ℕ → Form) (v w : ℕ → ℕ) (node : PlanNode) → Agree v w (named_by node)
    → store_from s f o v node ≡ store_from s f o w node
store_local s f o v w (Stream number kinds) h = refl
store_local s f o v w (Body kinds) h = refl
store_local s f o v w (Compute child ops) h = rw h.0
store_local s f o v w (Select child column) h = rw h.0
store_local s f o v w (Project child items) h = rw h.0
store_local s f o v w (Frames child by items) h = rw h.0
store_local s f o v w (Aggregate child aggs) h = rw h.0
store_local s f o v w (Union left right) h = rw (h.0, h.1.0)
store_local s f o v w (Merge left right) h = rw (h.0, h.1.0)
store_local s f o v w (Beside left right) h = rw (h.0, h.1.0)
store_local s f o v w (Window source body size advance) h = rw (h.0, h.1.0)
store_local s f o v w (TimeWindow source body size advance) h = rw (h.0, h.1.0)
store_local s f o v w (Group source body key groups) h = rw (h.0, h.1.0)
store_local s f o v w (Partition source body key groups size advance) h = rw (h.0, h.1.0)

module _ (nodes : List PlanNode) (limit : ℕ) (order : AreInOrder nodes limit) (number : ℕ) (node : PlanNode)
    (below : number < limit) (is : slice_get nodes number ≡ Some node) where
  pub weight-node : weight_of nodes number ≡ weight_from (shape_of nodes) (figures_of nodes) (weight_of nodes) node
  unfolding weight_of
  weight-node =
      nodewise-node (weight_from (shape_of nodes) (figures_of nodes)) 0 nodes limit order
      (λ at x in_limit was v w same. weight_local (shape_of nodes) (shape_of nodes) (figures_of nodes) (figures_of nodes) v w x
      (agree_self (shape_of nodes) (named_by x)) (agree_self (figures_of nodes) (named_by x)) same)
      number node below is

  pub copies-node : copies_of nodes number ≡ copies_from (copies_of nodes) node
  unfolding copies_of
  copies-node =
      nodewise-node copies_from 0 nodes limit order (λ at x in_limit was v w same. copies_local v w x same) number node below is

  pub lean-node : lean_of nodes number ≡ lean_from (shape_of nodes) (figures_of nodes) (form_of nodes) (lean_of nodes) node
  unfolding lean_of
  lean-node =
      nodewise-node (lean_from (shape_of nodes) (figures_of nodes) (form_of nodes)) 0 nodes limit order
      (λ at x in_limit was v w same. lean_local (shape_of nodes) (figures_of nodes) (form_of nodes) v w x same) number node below is

  pub form-node : form_of nodes number ≡ form_from (shape_of nodes) (form_of nodes) node
  unfolding form_of
  form-node =
      nodewise-node (form_from (shape_of nodes)) copied nodes limit order (λ at x in_limit was v w same. form_local (shape_of nodes) v w x same)
      number node below is

  pub keys-node : keys_of nodes number ≡ keys_from (shape_of nodes) (form_of nodes) (keys_of nodes) node
  unfolding keys_of
  keys-node =
      nodewise-node (keys_from (shape_of nodes) (form_of nodes)) 0 nodes limit order
      (λ at x in_limit was v w same. keys_local (shape_of nodes) (form_of nodes) v w x same) number node below is

  pub store-node : store_of nodes number ≡ store_from (shape_of nodes) (figures_of nodes) (form_of nodes) (store_of nodes) node
  unfolding store_of
  store-node =
      nodewise-node (store_from (shape_of nodes) (figures_of nodes) (form_of nodes)) 0 nodes limit order
      (λ at x in_limit was v w same. store_local (shape_of nodes) (figures_of nodes) (form_of nodes) v w x same) number node below is

pub nodes_follow_tables : NodesFollowTables
nodes_follow_tables nodes number node plan is =
    let within = slice_get_within nodes number node is in
    let order = in_order nodes plan (length nodes) in
    let meaning = meaning-node nodes (length nodes) order number node within is in
    let arriving = arriving-node nodes (length nodes) order number node within is in
    record {
      shape = shape-node nodes (length nodes) order number node within is;
      figures = figures-node nodes (length nodes) order number node within is;
      weight = weight-node nodes (length nodes) order number node within is;
      copies = copies-node nodes (length nodes) order number node within is;
      form = form-node nodes (length nodes) order number node within is;
      lean = lean-node nodes (length nodes) order number node within is;
      keys = keys-node nodes (length nodes) order number node within is;
      store = store-node nodes (length nodes) order number node within is;
      arrivals = λ inputs out spill. (moved_in_place _ _ arriving inputs out spill, moved_in_place _ _ (sym arriving) inputs out spill);
      results = λ inputs out spill. (moved _ _ meaning inputs out spill, moved _ _ (sym meaning) inputs out spill);
    }

module _ (nodes nodes' : List PlanNode) (limit : ℕ) (order : AreInOrder nodes limit)
    (kept : (number : ℕ) → number < limit → slice_get nodes' number ≡ slice_get nodes number) where
  pub weight-kept : (number : ℕ) → number < limit → weight_of nodes number ≡ weight_of nodes' number
  unfolding weight_of
  weight-kept number below =
      nodewise-kept (weight_from (shape_of nodes) (figures_of nodes)) (weight_from (shape_of nodes') (figures_of nodes')) 0 nodes nodes' limit order
      (λ at node in_limit is v w same. weight_local (shape_of nodes) (shape_of nodes') (figures_of nodes) (figures_of nodes') v w node
      (agree (shape_of nodes) (shape_of nodes') at
      (λ child before. shape-kept nodes nodes' limit order kept child (omega arith)) (named_by node) (order at node in_limit is))
      (agree (figures_of nodes) (figures_of nodes') at
      (λ child before. figures-kept nodes nodes' limit order kept child (omega arith)) (named_by node) (order at node in_limit is))
      same)
      kept number below

  pub copies-kept : (number : ℕ) → number < limit → copies_of nodes number ≡ copies_of nodes' number
  unfolding copies_of
  copies-kept number below =
      nodewise-kept copies_from copies_from 0 nodes nodes' limit order
      (λ at node in_limit is v w same. copies_local v w node same) kept number below

pub earlier_nodes_are_kept : EarlierNodesAreKept
earlier_nodes_are_kept nodes more number plan within =
    let order = in_order nodes plan (length nodes) in
    let kept = get-append nodes more in
    let meaning = meaning-kept nodes (nodes ++ more) (length nodes) order kept number within in
    let arriving = arriving-kept nodes (nodes ++ more) (length nodes) order kept number within in
    record {
      shape = sym (shape-kept nodes (nodes ++ more) (length nodes) order kept number within);
      figures = sym (figures-kept nodes (nodes ++ more) (length nodes) order kept number within);
      weight = sym (weight-kept nodes (nodes ++ more) (length nodes) order kept number within);
      copies = sym (copies-kept nodes (nodes ++ more) (length nodes) order kept number within);
      arrivals = λ inputs out spill. (moved_in_place _ _ (sym arriving) inputs out spill, moved_in_place _ _ arriving inputs out spill);
      results = λ inputs out spill. (moved _ _ (sym meaning) inputs out spill, moved _ _ meaning inputs out spill);
    }
