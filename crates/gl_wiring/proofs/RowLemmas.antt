-- The circuits of nodes of one child.
use Rattle.std.proofs.Common.{◌≡◌, ℕ, zero, suc, ◌+◌, List, [], ◌∷◌, ◌++◌, map, length, Option, Some, None, Bool, true, false, slice_get, All, nat_eq, cond, refl, sym, ap, ◌∙◌, subst, arith}
use Rattle.std.specs.Prelude.{filter_map, slice_index, if◌then◌else◌}
use Rattle.std.specs.List.{cons_option}
use Rattle.std.proofs.lemmas.List.{length-map}
use Rattle.std.proofs.lemmas.Option.{slice_get_within}
use Rattle.gl_bits.proofs.Options.{some_same}
use Rattle.gl_values.specs.Kinds.{IsKind, width_of}
use Rattle.gl_values.specs.declared.kind.Kind.{Kind}
use Rattle.gl_values.specs.Results.{Row}
use Rattle.gl_algebra.specs.declared.figures.Figures.{Figures}
use Rattle.gl_algebra.specs.declared.node.ColOp.{ColOp}
use Rattle.gl_algebra.specs.declared.node.Operand.{Operand}
use Rattle.gl_algebra.specs.declared.node.PlanAgg.{PlanAgg}
use Rattle.gl_algebra.specs.declared.node.PlanFrame.{PlanFrame}
use Rattle.gl_algebra.specs.declared.node.PlanNode.{PlanNode}
use Rattle.gl_algebra.specs.declared.node.PlanNode.TheVariants.{Compute, Select, Project, Frames, Aggregate}
use Rattle.gl_algebra.specs.Columns.{FrameFits, kind_of_frame, kind_of_op, kind_of_operand}
use Rattle.gl_algebra.specs.Cost.{store_of_frames}
use Rattle.gl_algebra.specs.FigureTable.{delayed, settled, aggregate_figures, delay_of_aggs, figures_of}
use Rattle.gl_algebra.specs.Fits.{IsPlan}
use Rattle.gl_algebra.specs.Frames.{delay_of_frames}
use Rattle.gl_algebra.specs.Results.{IsPlanArrival, IsPlanResult, computed, selected, projected, row_of_frames}
use Rattle.gl_algebra.specs.Values.{Sets}
use Rattle.gl_algebra.specs.Shapes.{Shape, kinds_of, shape_of}
use Rattle.gl_algebra.specs.Weights.{weight_of_frames}
use Rattle.gl_algebra.proofs.FigureLemmas.{delayed_by_none}
use Rattle.gl_algebra.proofs.SoundLemmas.{delayed_sound}
use Rattle.gl_net.specs.declared.node.Bit.{Bit}
use Rattle.gl_net.specs.Net.{Net}
use Rattle.gl_figures.proofs.PartLemmas.{parts_at}
use Rattle.gl_frames_stages.specs.Counted.{FramesAreCounted}
use Rattle.gl_frames_stages.specs.FramesNets.{frames_widths}
use Rattle.gl_frames_stages.specs.ItemCosts.{cost_of_frames}
use Rattle.gl_frames_wire.specs.Running.{Each, Runs}
use Rattle.gl_rows.specs.Costs.{computed_widths, cost_of_items, cost_of_rows, projected_widths}
use Rattle.gl_totals.specs.Costs.{cost_of_aggs}
use Rattle.gl_totals.specs.Totals.{total_row, total_widths}
use Rattle.gl_wire.specs.declared.emitted.Emitted.{Emitted}
use Rattle.gl_wire.specs.declared.wire.Wire.{Wire}
use Rattle.gl_wire.specs.Blocks.{IsBehind}
use Rattle.gl_wire.specs.Counted.{IsCounted}
use Rattle.gl_wire.specs.Pace.{KeepsPace}
use Rattle.gl_wire.specs.Serves.{Serves}
use Rattle.gl_wire.specs.Shapes.{Steady, AtEnds, Mapped, Totalled, keep_where}
use Rattle.gl_wire.proofs.PaceLemmas.{steady_pace}
use Rattle.gl_wire.proofs.SettledLemmas.{settled_serves}
use Rattle.gl_arrival.specs.Changes.{each_at, mapped_at, stepped_at}
use Rattle.gl_arrival.specs.Results.{IsChangedInPlace}
use Rattle.gl_arrival.proofs.ChangeLemmas.{stepped_kept, stepped_mapped}
use Rattle.gl_turns.specs.Dated.{Dated}
use Rattle.gl_turns.proofs.DatedLemmas.{dated_as}
use Rattle.gl_wiring.specs.Below.{LawsBelow}
use Rattle.gl_wiring.specs.Leaves.{widths_of}
use Rattle.gl_wiring.specs.Put.{Gives, IsPutBehind}
use Rattle.gl_wiring.proofs.CanLemmas.{first_within}
use Rattle.gl_wiring.proofs.CostLemmas.{cost_behind, items_counted, rows_counted, selected_counted}
use Rattle.gl_wiring.proofs.DatedRows.{dated_runs, dated_steady}
use Rattle.gl_wiring.proofs.GivesLemmas.{behind}
use Rattle.gl_wiring.proofs.TotalCosts.{aggs_counted}

-- a step that drops nothing
pub mapped_all : (f : Row → Row) (xs : List Row) → filter_map (λ row. Some (f row)) xs ≡ map f xs
mapped_all f [] = refl
mapped_all f (x ∷ xs) = ap (λ (l : List Row). f x ∷ l) (mapped_all f xs)

-- the rows whose column is 1
pub kept_rows : (column : ℕ) (xs : List Row) → filter_map (keep_where column) xs ≡ selected column xs
kept_rows column [] = refl
kept_rows column (x ∷ xs) = by (nat_eq (slice_index x column) 1) (kept_rows column xs)
  where
    by : (b : Bool) → filter_map (keep_where column) xs ≡ selected column xs
        → cons_option (if b then Some x else None) (filter_map (keep_where column) xs) ≡ cond b (x ∷ selected column xs) (selected column xs)
    by true h = ap (λ (l : List Row). x ∷ l) h
    by false h = h

-- the width of a column of a kind
pub width_at : (kinds : List Kind) (column : ℕ) (kind : Kind) → slice_get kinds column ≡ Some kind → slice_get (widths_of kinds) column ≡ Some (width_of kind)
width_at [] column kind at = absurd cc
width_at (k ∷ kinds) zero kind at = ap (λ (x : Kind). Some (width_of x)) (some_same k kind at)
width_at (k ∷ kinds) (suc column) kind at = width_at kinds column kind at

-- items over the lines of their node
frames_counted : FramesAreCounted → (kinds : List Kind) (items : List PlanFrame) → All IsKind kinds → All (FrameFits kinds) items
    → (let lines = length (map (kind_of_frame kinds) items) + 2 in
    IsCounted (cost_of_frames kinds (delay_of_frames kinds items) items) (weight_of_frames kinds lines items) (weight_of_frames kinds lines items)
    (store_of_frames kinds lines items))
frames_counted law kinds items are fit =
    subst (λ (n : ℕ). IsCounted (cost_of_frames kinds (delay_of_frames kinds items) items) (weight_of_frames kinds (n + 2) items) (weight_of_frames kinds (n + 2) items)
    (store_of_frames kinds (n + 2) items)) (sym (length-map items (kind_of_frame kinds))) (law kinds items are fit)

module _ (laws : LawsBelow) (nodes : List PlanNode) (id : ℕ) (old new : Net) (tick : Option Bit) (leaves : List Wire) (below e : Emitted) (plan : IsPlan nodes) where
  pub compute_put : (child : ℕ) (ops : List ColOp) → slice_get nodes id ≡ Some (Compute child ops) → Gives nodes child old tick leaves below
      → (let kinds = kinds_of nodes child in IsBehind old new (λ sets. Steady 1 (λ row. Some (computed sets kinds ops row))) (computed_widths kinds ops)
      (cost_of_rows (computed_widths kinds ops) (length ops)) below e)
      → IsPutBehind nodes id old new tick leaves e
  compute_put child ops at h b =
      let follows = laws.nodes_follow_tables nodes id (Compute child ops) plan at in
      let parts = parts_at nodes id (Compute child ops) at in
      let f : Figures = figures_of nodes child in
      let kinds = kinds_of nodes child in
      let step : Sets → Row → Option Row = λ sets row. Some (computed sets kinds ops row) in
      let within = first_within nodes id (Compute child ops) plan at child [] refl in
      let sound = laws.figures_are_sound nodes child plan within in
      let own : All IsKind (kinds ++ map (kind_of_op kinds) ops) =
      subst (λ (s : Shape). All IsKind s.kinds) follows.shape (laws.columns_have_kinds nodes id plan (slice_get_within nodes id (Compute child ops) at)) in
      record {
        keeps = b.keeps;
        cost = cost_behind nodes id _ _ _ old new _
            (record { weight' = parts.weight; lean' = omega (arith, parts.lean, parts.keys); store' = parts.store })
            b.cost (rows_counted (kinds ++ map (kind_of_op kinds) ops) (length ops) own);
        gives = rw (follows.shape, follows.figures) (behind (shape_of nodes child) _ f (settled (delayed 1 f)) (IsPlanArrival nodes child) (IsPlanArrival nodes id) (IsPlanResult nodes child)
            (IsPlanResult nodes id) old new tick leaves below e _ _ _ (λ sets. Mapped (step sets))
            h b refl (record { gt = omega arith; ge = omega arith })
            (λ sets x y s. settled_serves f (delayed 1 f) (Mapped (step sets)) x y (delayed_sound 1 f sound) (laws.steady_serves 1 (step sets) x y f s))
            (λ sets x y ls s. steady_pace 1 (computed sets kinds ops) x y s (shape_of nodes child).pace f.a ls)
            (λ i xs ys p r m. (follows.results i ys p).1 (record { rows = xs; of_source = r; changed = m ∙ mapped_all (computed i.sets kinds ops) xs }))
            (record {
              before = λ t. t;
              dates = λ t sets i held p beats x y s d.
                  dated_as (settled (delayed 1 f)) (λ u. IsChangedInPlace (IsPlanArrival nodes child (i u)) (stepped_at (step sets))) (λ u n. n) p beats (λ u. IsPlanArrival nodes id (i u)) y
                  (λ u xs q r. (follows.arrivals (i u) xs q).1 (record {
                    rows = r.rows;
                    of_source = r.of_source;
                    changed = r.changed ∙ stepped_mapped (computed sets kinds ops) r.rows ∙ ap (λ (z : Sets). mapped_at (computed z kinds ops) r.rows) (sym (held u));
                  }))
                  (dated_steady f (λ u. IsPlanArrival nodes child (i u)) (λ u n. n) p beats x y 1 (step sets) s d);
            }));
      }

  pub select_put : (child column : ℕ) → slice_get nodes id ≡ Some (Select child column) → Gives nodes child old tick leaves below
      → IsBehind old new (λ sets. Steady 1 (keep_where column)) (widths_of (kinds_of nodes child)) (cost_of_rows (widths_of (kinds_of nodes child)) 0) below e
      → IsPutBehind nodes id old new tick leaves e
  select_put child column at h b =
      let follows = laws.nodes_follow_tables nodes id (Select child column) plan at in
      let parts = parts_at nodes id (Select child column) at in
      let f : Figures = figures_of nodes child in
      let kinds = kinds_of nodes child in
      let within = first_within nodes id (Select child column) plan at child [] refl in
      let sound = laws.figures_are_sound nodes child plan within in
      record {
        keeps = b.keeps;
        cost = cost_behind nodes id _ _ _ old new _
            (record { weight' = parts.weight; lean' = omega (arith, parts.lean, parts.keys); store' = parts.store })
            b.cost (selected_counted kinds (laws.columns_have_kinds nodes child plan within));
        gives = rw (follows.shape, follows.figures) (behind (shape_of nodes child) _ f (settled (delayed 1 f)) (IsPlanArrival nodes child) (IsPlanArrival nodes id) (IsPlanResult nodes child)
            (IsPlanResult nodes id) old new tick leaves below e _ _ _ (λ sets. Mapped (keep_where column))
            h b refl (record { gt = omega arith; ge = omega arith })
            (λ sets x y s. settled_serves f (delayed 1 f) (Mapped (keep_where column)) x y (delayed_sound 1 f sound) (laws.steady_serves 1 (keep_where column) x y f s))
            (λ sets x y ls s p. tt)
            (λ i xs ys p r m. (follows.results i ys p).1 (record { rows = xs; of_source = r; changed = m ∙ kept_rows column xs }))
            (record {
              before = λ t. t;
              dates = λ t sets i held p beats x y s d.
                  dated_as (settled (delayed 1 f)) (λ u. IsChangedInPlace (IsPlanArrival nodes child (i u)) (stepped_at (keep_where column))) (λ u n. n) p beats (λ u. IsPlanArrival nodes id (i u)) y
                  (λ u xs q r. (follows.arrivals (i u) xs q).1
                  (record { rows = r.rows; of_source = r.of_source; changed = r.changed ∙ stepped_kept (λ row. nat_eq (slice_index row column) 1) r.rows }))
                  (dated_steady f (λ u. IsPlanArrival nodes child (i u)) (λ u n. n) p beats x y 1 (keep_where column) s d);
            }));
      }

  pub project_put : (child : ℕ) (items : List Operand) → slice_get nodes id ≡ Some (Project child items) → Gives nodes child old tick leaves below
      → (let kinds = kinds_of nodes child in IsBehind old new (λ sets. Steady 0 (λ row. Some (projected sets items row))) (projected_widths kinds items)
      (cost_of_items (projected_widths kinds items)) below e)
      → IsPutBehind nodes id old new tick leaves e
  project_put child items at h b =
      let follows = laws.nodes_follow_tables nodes id (Project child items) plan at in
      let parts = parts_at nodes id (Project child items) at in
      let f : Figures = figures_of nodes child in
      let kinds = kinds_of nodes child in
      let step : Sets → Row → Option Row = λ sets row. Some (projected sets items row) in
      let within = first_within nodes id (Project child items) plan at child [] refl in
      let sound = laws.figures_are_sound nodes child plan within in
      record {
        keeps = b.keeps;
        cost = cost_behind nodes id _ _ _ old new _
            (record { weight' = parts.weight; lean' = omega (arith, parts.lean, parts.keys); store' = parts.store })
            b.cost (items_counted (map (kind_of_operand kinds) items));
        gives = rw (follows.shape, follows.figures) (behind (shape_of nodes child) _ f (settled f) (IsPlanArrival nodes child) (IsPlanArrival nodes id) (IsPlanResult nodes child)
            (IsPlanResult nodes id) old new tick leaves below e _ _ _ (λ sets. Mapped (step sets))
            h b refl (record { gt = omega arith; ge = omega arith })
            (λ sets x y s. settled_serves f f (Mapped (step sets)) x y sound
            (subst (λ (g : Figures). Serves f g (Mapped (step sets)) x y) (delayed_by_none f) (laws.steady_serves 0 (step sets) x y f s)))
            (λ sets x y ls s p. let n : f.a + 0 ≡ f.a = omega arith in
            subst (λ (a : ℕ). KeepsPace (shape_of nodes child).pace a ls y) n (steady_pace 0 (projected sets items) x y s (shape_of nodes child).pace f.a ls p))
            (λ i xs ys p r m. (follows.results i ys p).1 (record { rows = xs; of_source = r; changed = m ∙ mapped_all (projected i.sets items) xs }))
            (record {
              before = λ t. t;
              dates = λ t sets i held p beats x y s d.
                  subst (λ (g : Figures). Dated (settled g) (λ u. IsPlanArrival nodes id (i u)) (λ u n. n) p beats y) (delayed_by_none f)
                  (dated_as (settled (delayed 0 f)) (λ u. IsChangedInPlace (IsPlanArrival nodes child (i u)) (stepped_at (step sets))) (λ u n. n) p beats (λ u. IsPlanArrival nodes id (i u)) y
                  (λ u xs q r. (follows.arrivals (i u) xs q).1 (record {
                    rows = r.rows;
                    of_source = r.of_source;
                    changed = r.changed ∙ stepped_mapped (projected sets items) r.rows ∙ ap (λ (z : Sets). mapped_at (projected z items) r.rows) (sym (held u));
                  }))
                  (dated_steady f (λ u. IsPlanArrival nodes child (i u)) (λ u n. n) p beats x y 0 (step sets) s d));
            }));
      }

  pub frames_put : (child : ℕ) (items : List PlanFrame) → slice_get nodes id ≡ Some (Frames child None items) → Gives nodes child old tick leaves below
      → (let kinds = kinds_of nodes child in IsBehind old new (λ sets. Runs (delay_of_frames kinds items) (λ rows. Some (row_of_frames sets kinds items rows))) (frames_widths kinds items)
      (cost_of_frames kinds (delay_of_frames kinds items) items) below e)
      → IsPutBehind nodes id old new tick leaves e
  frames_put child items at h b =
      let follows = laws.nodes_follow_tables nodes id (Frames child None items) plan at in
      let parts = parts_at nodes id (Frames child None items) at in
      let f : Figures = figures_of nodes child in
      let kinds = kinds_of nodes child in
      let m : ℕ = delay_of_frames kinds items in
      let step : Sets → List Row → Option Row = λ sets rows. Some (row_of_frames sets kinds items rows) in
      let within = first_within nodes id (Frames child None items) plan at child [] refl in
      let sound = laws.figures_are_sound nodes child plan within in
      let suits = (plan.fits id (Frames child None items) at).suits.0 in
      record {
        keeps = b.keeps;
        cost = cost_behind nodes id _ _ _ old new _
            (record { weight' = parts.weight; lean' = omega (arith, parts.lean, parts.keys); store' = parts.store })
            b.cost (frames_counted laws.frames_are_counted kinds items (laws.columns_have_kinds nodes child plan within) suits);
        gives = rw (follows.shape, follows.figures) (behind (shape_of nodes child) _ f (settled (delayed m f)) (IsPlanArrival nodes child) (IsPlanArrival nodes id) (IsPlanResult nodes child)
            (IsPlanResult nodes id) old new tick leaves below e _ _ _ (λ sets. Each (step sets))
            h b refl (record { gt = omega arith; ge = omega arith })
            (λ sets x y s. laws.running_settles m (step sets) x y f (delayed_sound m f sound) s)
            (λ sets x y ls s p. laws.followers_keep_pace m x y (laws.running_keeps_pace m (row_of_frames sets kinds items) x y s) (shape_of nodes child).pace f.a ls p)
            (λ i xs ys p r made. (follows.results i ys p).1 (record { rows = xs; of_source = r; changed = made }))
            (record {
              before = λ t. t;
              dates = λ t sets i held p beats x y s d.
                  dated_as (settled (delayed m f)) (λ u. IsChangedInPlace (IsPlanArrival nodes child (i u)) (each_at (step sets) [])) (λ u n. n) p beats (λ u. IsPlanArrival nodes id (i u)) y
                  (λ u xs q r. (follows.arrivals (i u) xs q).1
                  (subst (λ (z : Sets). IsChangedInPlace (IsPlanArrival nodes child (i u)) (each_at (step z) []) xs q) (sym (held u)) r))
                  (dated_runs f (λ u. IsPlanArrival nodes child (i u)) (λ u n. n) p beats x y m (step sets) s d);
            }));
      }

  pub aggregate_put : (child : ℕ) (aggs : List PlanAgg) → slice_get nodes id ≡ Some (Aggregate child aggs) → Gives nodes child old tick leaves below
      → (let kinds = kinds_of nodes child in IsBehind old new (λ sets. AtEnds (delay_of_aggs kinds aggs) (total_row sets kinds aggs)) (total_widths kinds aggs)
      (cost_of_aggs kinds aggs) below e)
      → IsPutBehind nodes id old new tick leaves e
  aggregate_put child aggs at h b =
      let follows = laws.nodes_follow_tables nodes id (Aggregate child aggs) plan at in
      let parts = parts_at nodes id (Aggregate child aggs) at in
      let f : Figures = figures_of nodes child in
      let kinds = kinds_of nodes child in
      let m = delay_of_aggs kinds aggs in
      let within = first_within nodes id (Aggregate child aggs) plan at child [] refl in
      let suits = (plan.fits id (Aggregate child aggs) at).suits in
      record {
        keeps = b.keeps;
        cost = cost_behind nodes id _ _ _ old new _
            (record { weight' = parts.weight; lean' = omega (arith, parts.lean, parts.keys); store' = parts.store })
            b.cost (aggs_counted kinds (laws.columns_have_kinds nodes child plan within) aggs suits);
        gives = rw (follows.shape, follows.figures) (behind (shape_of nodes child) _ f (aggregate_figures m f) (IsPlanArrival nodes child) (IsPlanArrival nodes id) (IsPlanResult nodes child)
            (IsPlanResult nodes id) old new tick leaves below e _ _ _ (λ sets. Totalled (total_row sets kinds aggs))
            h b refl (record { gt = omega arith; ge = omega arith })
            (λ sets x y s. laws.ends_serve m (total_row sets kinds aggs) x y f s)
            (λ sets x y ls s p. laws.totals_come_with_ends m (total_row sets kinds aggs) x y s)
            (λ i xs ys p r t. (follows.results i ys p).1 (record { rows = xs; of_source = r; changed = t }))
            (record { before = λ t. absurd (cc); dates = λ t sets i held p beats x y s d. absurd (cc) }));
      }
