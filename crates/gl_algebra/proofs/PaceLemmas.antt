-- A node in step with a leaf comes a fixed time after its beats, one row a beat; one of pace `once` gives one row with the end.
use Rattle.std.proofs.Common.{◌≡◌, ℕ, zero, suc, true, false, ◌&&◌, cond, Some, None, All, refl, sym, ◌∙◌, subst, arith, lit<}
use Rattle.std.proofs.lemmas.Bool.{eq-eqb}
use Rattle.gl_algebra.specs.declared.figures.Figures.{Figures}
use Rattle.gl_algebra.specs.declared.node.PlanNode.{PlanNode}
use Rattle.gl_algebra.specs.declared.node.PlanNode.TheVariants.{Stream, Body, Compute, Select, Project, Frames, Aggregate, Union, Merge, Beside, Window, TimeWindow, Group, Partition}
use Rattle.gl_algebra.specs.FigureTable.{delayed, settled, last_of, is_fixed, in_step, at_end, joined, wait_of, beside_figures, figures_from, figures_of}
use Rattle.gl_algebra.specs.Fits.{Suits}
use Rattle.gl_algebra.specs.Frames.{delay_of_frames}
use Rattle.gl_algebra.specs.Laws.{IsFixed, IsOnce, PaceFixes, PacesFixFigures}
use Rattle.gl_algebra.specs.Nodewise.{named_by}
use Rattle.gl_algebra.specs.Shapes.{Shape, shape_of, shape_from, Pace, unsteady, once, with_stream, with_body}
use Rattle.gl_algebra.proofs.PlanLemmas.{by_nodes}
use Rattle.gl_algebra.proofs.TableLemmas.{nodes_follow_tables}

-- what the test of a joiner reads
pub is_fixed-is : (f : Figures) → IsFixed f → is_fixed f ≡ true
is_fixed-is f h = rw (eq-eqb f.a f.lt (sym h.tuples_last), eq-eqb f.lt f.le (h.tuples_last ∙ sym h.end_last)) refl

pub delayed_fixed : (m : ℕ) (f : Figures) → IsFixed f → IsFixed (delayed m f)
delayed_fixed m f h = record {
  tuples_last = omega arith;
  end_last = omega arith;
  tuples = h.tuples;
  end_tuples = h.end_tuples;
}

last_of-same : (tuples first last : ℕ) → last ≡ first → last_of tuples first last ≡ first
last_of-same zero first last h = refl
last_of-same (suc tuples) first last h = h

settled_fixed : (f : Figures) → IsFixed f → IsFixed (settled f)
settled_fixed f h = record {
  tuples_last = last_of-same f.nt f.a f.lt h.tuples_last;
  end_last = h.end_last;
  tuples = h.tuples;
  end_tuples = h.end_tuples;
}

-- two sides that come a fixed time after their beats are joined in step
pub beside_in_step : (p q : Figures) → IsFixed p → IsFixed q
    → beside_figures p q ≡ in_step (delayed (wait_of p q) p) (delayed (wait_of q p) q)
beside_in_step p q h h' =
    rw (
      is_fixed-is (delayed (wait_of p q) p) (delayed_fixed (wait_of p q) p h),
      is_fixed-is (delayed (wait_of q p) q) (delayed_fixed (wait_of q p) q h'),
    ) refl

beside_fixed : (p q : Figures) → IsFixed p → IsFixed q → IsFixed (beside_figures p q)
beside_fixed p q h h' = rw (beside_in_step p q h h') (record {
  tuples_last = refl;
  end_last = refl;
  tuples = h.tuples;
  end_tuples = h.end_tuples;
})

joined_once : (p q : Figures) → IsOnce p → IsOnce (joined p q)
joined_once p q h = elim (is_fixed p && is_fixed q) as (λ b. IsOnce (cond b (in_step p q) (at_end p q))) [
  | true ↦ record { tuples = h.tuples; end_tuples = h.end_tuples }
  | false ↦ record { tuples = refl; end_tuples = refl }
]

-- how each step changes the figures of a pace
settled_pace : (pace : Pace) (f : Figures) → PaceFixes pace f → PaceFixes pace (settled f)
settled_pace unsteady f h = tt
settled_pace once f h = record { tuples = h.tuples; end_tuples = h.end_tuples }
settled_pace (with_stream number) f h = settled_fixed f h
settled_pace with_body f h = settled_fixed f h

delayed_pace : (m : ℕ) (pace : Pace) (f : Figures) → PaceFixes pace f → PaceFixes pace (delayed m f)
delayed_pace m unsteady f h = tt
delayed_pace m once f h = record { tuples = h.tuples; end_tuples = h.end_tuples }
delayed_pace m (with_stream number) f h = delayed_fixed m f h
delayed_pace m with_body f h = delayed_fixed m f h

beside_pace : (pace : Pace) (p q : Figures) → PaceFixes pace p → PaceFixes pace q → PaceFixes pace (beside_figures p q)
beside_pace unsteady p q h h' = tt
beside_pace once p q h h' =
    joined_once (delayed (wait_of p q) p) (delayed (wait_of q p) q) (record { tuples = h.tuples; end_tuples = h.end_tuples })
beside_pace (with_stream number) p q h h' = beside_fixed p q h h'
beside_pace with_body p q h h' = beside_fixed p q h h'

abbrev IsPaced : (ℕ → Shape) → (ℕ → Figures) → ℕ → Type 0
IsPaced shapes figures child = PaceFixes (shapes child).pace (figures child)

row_paced : (shapes : ℕ → Shape) (figures : ℕ → Figures) (node : PlanNode) → Suits shapes node
    → All (IsPaced shapes figures) (named_by node) → PaceFixes (shape_from shapes node).pace (figures_from shapes figures node)
row_paced shapes figures (Stream number kinds) suits h = record { tuples_last = refl; end_last = refl; tuples = refl; end_tuples = refl }
row_paced shapes figures (Body kinds) suits h = record { tuples_last = refl; end_last = refl; tuples = refl; end_tuples = refl }
row_paced shapes figures (Compute child ops) suits h =
    settled_pace (shapes child).pace (delayed 1 (figures child)) (delayed_pace 1 (shapes child).pace (figures child) (h 0 0 (lit< tt)))
row_paced shapes figures (Select child column) suits h = tt
row_paced shapes figures (Project child items) suits h = settled_pace (shapes child).pace (figures child) (h 0 0 (lit< tt))
row_paced shapes figures (Frames child (Some by) items) suits h = tt
row_paced shapes figures (Frames child None items) suits h =
    let delay = delay_of_frames (shapes child).kinds items in
    settled_pace (shapes child).pace (delayed delay (figures child)) (delayed_pace delay (shapes child).pace (figures child) (h 0 0 (lit< tt)))
row_paced shapes figures (Aggregate child aggs) suits h = record { tuples = refl; end_tuples = refl }
row_paced shapes figures (Union left right) suits h = tt
row_paced shapes figures (Merge left right) suits h = tt
row_paced shapes figures (Beside left right) suits h =
    beside_pace (shapes left).pace (figures left) (figures right) (h 0 0 (lit< tt))
    (subst (λ pace. PaceFixes pace (figures right)) (sym suits.0) (h 1 0 (lit< tt)))
row_paced shapes figures (Window source body size advance) suits h = tt
row_paced shapes figures (TimeWindow source body size advance) suits h = tt
row_paced shapes figures (Group source body key groups) suits h = tt
row_paced shapes figures (Partition source body key groups size advance) suits h = tt

pub pace_fixed : PacesFixFigures
pace_fixed nodes number plan within =
    by_nodes nodes plan (IsPaced (shape_of nodes) (figures_of nodes))
    (λ n node is fits before.
    let follows = nodes_follow_tables nodes n node plan is in
    rw (follows.shape, follows.figures)
    (row_paced (shape_of nodes) (figures_of nodes) node fits.suits (λ k d h. before _ (fits.before k d h))))
    number within
