-- The meaning of a node is its row over the meanings of the nodes that it names, and later nodes change none.
use Rattle.std.proofs.Common.{◌≡◌, ℕ, ◌<◌, Bool, false, List, map, nat_eq, slice_get, slice_index, refl, subst, arith}
use Rattle.gl_values.specs.Lists.{slices, groups, has_further, IsInterleaving}
use Rattle.gl_values.specs.Times.{tslices}
use Rattle.gl_algebra.specs.declared.node.PlanNode.{PlanNode}
use Rattle.gl_algebra.specs.declared.node.PlanNode.TheVariants.{Stream, Body, Compute, Select, Project, Frames, Aggregate, Union, Merge, Beside, Window, TimeWindow, Group, Partition}
use Rattle.gl_values.specs.Partitions.{parts}
use Rattle.gl_algebra.specs.Nodewise.{named_by}
use Rattle.gl_algebra.specs.Shapes.{Shape, shape_of}
use Rattle.gl_values.specs.Results.{Row, IsChanged, IsOfBoth, IsOfParts, IsOfGroup, AreBeside}
use Rattle.gl_arrival.specs.Places.{Placed}
use Rattle.gl_arrival.specs.Changes.{kept_at, mapped_at}
use Rattle.gl_arrival.specs.Results.{IsByArrival, IsChangedInPlace, IsWithoutPlaces}
use Rattle.gl_algebra.specs.Results.{Arriving, Inputs, given, IsFramed, IsFramedInPlace, Meaning, NoArriving, NoMeaning, arriving_from, computed, selected, projected, row_of_frames, times_with, totalled, meaning_from, IsPlanArrival, IsPlanResult}
use Rattle.gl_algebra.proofs.NodewiseLemmas.{Agree, AreInOrder, SameSteps, agree, agree_self, nodewise-kept, nodewise-node, FollowsRow}
use Rattle.gl_algebra.proofs.ShapeLemmas.{shape-kept}

-- results with places follow from the shapes and such results of the nodes that a node names
pub arriving_local : (s t : ℕ → Shape) (v w : ℕ → Arriving) (node : PlanNode) → Agree s t (named_by node) → Agree v w (named_by node)
    → arriving_from s v node ≡ arriving_from t w node
arriving_local s t v w (Stream number kinds) g h = refl
arriving_local s t v w (Body kinds) g h = refl
arriving_local s t v w (Compute child ops) g h = λ i inputs. IsChangedInPlace (h.0 i inputs) (mapped_at (computed inputs.sets (g.0 i).kinds ops))
arriving_local s t v w (Select child column) g h = λ i inputs. IsChangedInPlace (h.0 i inputs) (kept_at (λ row. nat_eq (slice_index row column) 1))
arriving_local s t v w (Project child items) g h = λ i inputs. IsChangedInPlace (h.0 i inputs) (mapped_at (projected inputs.sets items))
arriving_local s t v w (Frames child by items) g h = λ i inputs. IsFramedInPlace by (row_of_frames inputs.sets (g.0 i).kinds items) (h.0 i inputs)
arriving_local s t v w (Aggregate child aggs) g h = refl
arriving_local s t v w (Union left right) g h = refl
arriving_local s t v w (Merge left right) g h = λ i inputs. IsByArrival (h.0 i inputs) (h.1.0 i inputs)
arriving_local s t v w (Beside left right) g h = refl
arriving_local s t v w (Window source body size advance) g h = refl
arriving_local s t v w (TimeWindow source body size advance) g h = refl
arriving_local s t v w (Group source body key count) g h = refl
arriving_local s t v w (Partition source body key count size advance) g h = refl

pub arriving_steps : (nodes : List PlanNode) (limit : ℕ) → SameSteps (arriving_from (shape_of nodes)) (arriving_from (shape_of nodes)) nodes limit
arriving_steps nodes limit number node below is v w same =
    arriving_local (shape_of nodes) (shape_of nodes) v w node (agree_self (shape_of nodes) (named_by node)) same

pub arriving-node : FollowsRow IsPlanArrival (λ nodes. arriving_from (shape_of nodes))
unfolding IsPlanArrival
arriving-node nodes limit order number node below is =
    nodewise-node (arriving_from (shape_of nodes)) NoArriving nodes limit order (arriving_steps nodes limit) number node below is

-- a meaning follows from the shapes, results with places and meanings of the nodes that a node names
pub meaning_local : (s t : ℕ → Shape) (a b : ℕ → Arriving) (v w : ℕ → Meaning) (node : PlanNode) → Agree s t (named_by node) → Agree a b (named_by node)
    → Agree v w (named_by node) → meaning_from s a v node ≡ meaning_from t b w node
meaning_local s t a b v w (Stream number kinds) g k h = refl
meaning_local s t a b v w (Body kinds) g k h = refl
meaning_local s t a b v w (Compute child ops) g k h = λ i inputs. IsChanged (h.0 i inputs) (map (computed inputs.sets (g.0 i).kinds ops))
meaning_local s t a b v w (Select child column) g k h = λ i inputs. IsChanged (h.0 i inputs) (selected column)
meaning_local s t a b v w (Project child items) g k h = λ i inputs. IsChanged (h.0 i inputs) (map (projected inputs.sets items))
meaning_local s t a b v w (Frames child by items) g k h = λ i inputs. IsFramed by (row_of_frames inputs.sets (g.0 i).kinds items) (h.0 i inputs)
meaning_local s t a b v w (Aggregate child aggs) g k h = λ i inputs. IsChanged (h.0 i inputs) (totalled inputs.sets (g.0 i).kinds aggs)
meaning_local s t a b v w (Union left right) g k h = λ i inputs. IsOfBoth (h.0 i inputs) (h.1.0 i inputs) IsInterleaving
meaning_local s t a b v w (Merge left right) g k h = λ i inputs. IsWithoutPlaces (IsByArrival (k.0 i inputs) (k.1.0 i inputs))
meaning_local s t a b v w (Beside left right) g k h = λ i inputs. IsOfBoth (h.0 i inputs) (h.1.0 i inputs) AreBeside
meaning_local s t a b v w (Window source body size advance) g k h = λ i inputs.
    IsOfParts (h.0 i inputs) (slices size advance) (λ slice. h.1.0 i (given inputs slice)) (λ rows. false)
meaning_local s t a b v w (TimeWindow source body size advance) g k h = λ i inputs.
    IsOfParts (h.0 i inputs) (tslices size advance (times_with (g.0 i).pace inputs) inputs.ticks)
    (λ slice. h.1.0 i (given inputs slice)) (λ rows. false)
meaning_local s t a b v w (Group source body key count) g k h = λ i inputs.
    IsOfParts (h.0 i inputs) (groups count (λ row. slice_index row key))
    (IsOfGroup (λ rows. h.1.0 i (given inputs rows))) (has_further count (λ row. slice_index row key))
meaning_local s t a b v w (Partition source body key count size advance) g k h = λ i inputs.
    IsOfParts (h.0 i inputs) (parts count (λ row. slice_index row key) size advance)
    (IsOfGroup (λ rows. h.1.0 i (given inputs rows))) (has_further count (λ row. slice_index row key))

pub meaning_steps : (nodes : List PlanNode) (limit : ℕ)
    → SameSteps (meaning_from (shape_of nodes) (IsPlanArrival nodes)) (meaning_from (shape_of nodes) (IsPlanArrival nodes)) nodes limit
meaning_steps nodes limit number node below is v w same =
    meaning_local (shape_of nodes) (shape_of nodes) (IsPlanArrival nodes) (IsPlanArrival nodes) v w node (agree_self (shape_of nodes) (named_by node))
    (agree_self (IsPlanArrival nodes) (named_by node)) same

pub meaning-node : FollowsRow IsPlanResult (λ nodes. meaning_from (shape_of nodes) (IsPlanArrival nodes))
unfolding IsPlanResult
meaning-node nodes limit order number node below is =
    nodewise-node (meaning_from (shape_of nodes) (IsPlanArrival nodes)) NoMeaning nodes limit order (meaning_steps nodes limit) number node below is

module _ (nodes nodes' : List PlanNode) (limit : ℕ) (order : AreInOrder nodes limit)
    (kept : (number : ℕ) → number < limit → slice_get nodes' number ≡ slice_get nodes number) where
  -- lists that agree below a limit give the same results with places there
  pub arriving-kept : (number : ℕ) → number < limit → IsPlanArrival nodes number ≡ IsPlanArrival nodes' number
  unfolding IsPlanArrival
  arriving-kept number below =
      nodewise-kept (arriving_from (shape_of nodes)) (arriving_from (shape_of nodes')) NoArriving nodes nodes' limit order
      (λ at node in_limit is v w same. arriving_local (shape_of nodes) (shape_of nodes') v w node
      (agree (shape_of nodes) (shape_of nodes') at
      (λ child before. shape-kept nodes nodes' limit order kept child (omega arith)) (named_by node) (order at node in_limit is))
      same)
      kept number below

  -- and the same meanings
  pub meaning-kept : (number : ℕ) → number < limit → IsPlanResult nodes number ≡ IsPlanResult nodes' number
  unfolding IsPlanResult
  meaning-kept number below =
      nodewise-kept (meaning_from (shape_of nodes) (IsPlanArrival nodes)) (meaning_from (shape_of nodes') (IsPlanArrival nodes')) NoMeaning nodes nodes' limit order
      (λ at node in_limit is v w same. meaning_local (shape_of nodes) (shape_of nodes') (IsPlanArrival nodes) (IsPlanArrival nodes') v w node
      (agree (shape_of nodes) (shape_of nodes') at
      (λ child before. shape-kept nodes nodes' limit order kept child (omega arith)) (named_by node) (order at node in_limit is))
      (agree (IsPlanArrival nodes) (IsPlanArrival nodes') at
      (λ child before. arriving-kept child (omega arith)) (named_by node) (order at node in_limit is))
      same)
      kept number below

-- equal meanings have the same results
pub moved : (m n : Meaning) → m ≡ n → (inputs : Inputs) (out : List Row) (spill : Bool) → m inputs out spill → n inputs out spill
moved m n same inputs out spill = subst (λ (x : Meaning). x inputs out spill) same

-- the same with places
pub moved_in_place : (m n : Arriving) → m ≡ n → (inputs : Inputs) (out : List (Placed Row)) (spill : Bool) → m inputs out spill → n inputs out spill
moved_in_place m n same inputs out spill = subst (λ (x : Arriving). x inputs out spill) same
