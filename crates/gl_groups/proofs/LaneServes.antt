-- A lane in place of copies.
use Rattle.std.proofs.Common.{◌≡◌, ℕ, ◌+◌, ◌<◌, ◌≤◌, List, [], ◌∷◌, Option, Some, Bool, true, false, refl, sym, ap, ◌∙◌, subst, arith}
use Rattle.std.specs.Prelude.{filter_map}
use Rattle.gl_values.specs.Results.{Row, Results, IsInput}
use Rattle.gl_algebra.specs.declared.figures.Figures.{Figures}
use Rattle.gl_algebra.specs.FigureTable.{IsSound, delayed, group_gap, input_figures}
use Rattle.gl_wire.specs.Bodies.{OfBody}
use Rattle.gl_wire.specs.Lift.{tuple_of_any}
use Rattle.gl_slots.specs.Keys.{in_front, with_keys}
use Rattle.gl_groups.proofs.GroupLemmas.{flush_awaited, groups_served}
use Rattle.gl_groups.specs.LaneLaws.{Laned, LanesServe, direct_figures}
use Rattle.gl_groups.proofs.LaneShares.{share_steady, tuple_of_all}
use Rattle.gl_wire_lanes.specs.Shares.{share}
use Rattle.gl_wire.specs.Apart.{CarriesApart}
use Rattle.gl_wire.specs.Beats.{Spaced, beats_of, gap}
use Rattle.gl_wire.specs.CopyLaws.{FitsIsTimed}
use Rattle.gl_wire.specs.Laws.{EndsServe, OwnBeatsFit, SteadyServes}
use Rattle.gl_wire.specs.Serves.{Fits}
use Rattle.gl_wire.specs.Serving.{Serving, through}
use Rattle.gl_wire.specs.Shapes.{AtEnds, IsDelayed, Mapped, Steady, Totalled}
use Rattle.gl_wire.specs.Spills.{no_lines}
use Rattle.gl_wire.specs.Wire.{Carried, stream}
use Rattle.gl_wire.proofs.ServingLemmas.{leaf_serving, serving_as, serving_through}
use Rattle.gl_wire.proofs.StageLemmas.{delayed_same}

-- one share serves the body
module _ (steady_serves : SteadyServes) (ends_serve : EndsServe) (d m : ℕ) (step : Row → Option Row) (total : List Row → Row) (Body : List Row → Results)
    (makes : (xs : List Row) → Body xs (total (filter_map step xs) ∷ []) false) (a mid out : Carried) (rows : Steady d step a mid) (ends : AtEnds m total mid out)
    (own : Fits input_figures (beats_of a) a) (spaced : Spaced (direct_figures d m) (beats_of a)) where
  abbrev mid_figures : Figures
  mid_figures = delayed d input_figures

  near : Spaced mid_figures (beats_of a)
  near = record { first = spaced.first; apart = apart }
    where
      apart : (t u : ℕ) (e g : Bool) → beats_of a t ≡ Some e → beats_of a u ≡ Some g → t < u → t + gap mid_figures e ≤ u
      apart t u true g p q l = omega (arith, l)
      apart t u false g p q l = omega (arith, l)

  leaf : Serving input_figures (λ t. IsInput (stream a t)) no_lines (beats_of a) a
  leaf = leaf_serving no_lines (beats_of a) a own (λ c. refl) (λ c. refl)

  pub share_serves : Serving (direct_figures d m) (λ t. Body (stream a t)) no_lines (beats_of a) out
  share_serves =
      let middle = serving_through input_figures mid_figures (λ t. IsInput (stream a t)) (Mapped step) no_lines (beats_of a) a mid leaf
      (steady_serves d step a mid input_figures rows (beats_of a) near own) in
      let whole = serving_through mid_figures (direct_figures d m) _ (Totalled total) no_lines (beats_of a) mid out middle
      (ends_serve m total mid out mid_figures ends (beats_of a) spaced middle.fits) in
      serving_as (direct_figures d m) _ (λ t. Body (stream a t)) no_lines (beats_of a) out is whole
    where
      is : (t : ℕ) (ys : List Row) (p : Bool) → through (through (IsInput (stream a t)) (Mapped step)) (Totalled total) ys p → Body (stream a t) ys p
      is t ys p h =
          let xs = h.1.0 in
          subst (λ z. Body (stream a t) z p) (sym (h.2 ∙ ap (λ l. total l ∷ []) (h.1.2 ∙ ap (filter_map step) h.1.1.rows)))
          (subst (λ z. Body (stream a t) (total (filter_map step (stream a t)) ∷ []) z) (sym h.1.1.kept) (makes (stream a t)))

direct_sound : (d m : ℕ) → IsSound (direct_figures d m)
direct_sound d m = record {
  tuples_last = omega arith;
  end_last = omega arith;
  tuples = omega arith;
  some = omega arith;
  tuples_gap = omega arith;
  end_gap = omega arith;
  gaps = omega arith;
}

pub lanes_serve : FitsIsTimed → OwnBeatsFit → SteadyServes → EndsServe → LanesServe
lanes_serve timed_by own_fits steady_serves ends_serve f count d m key step total a lane mid out b slot slot_mid slot_out keys further close sets nodes body sound some laned makes beats spaced fits =
    groups_served timed_by f (direct_figures d m) sound (direct_sound d m) refl count key some a (λ k. share slot k lane) (λ k. share slot_out k out) h.front 1 in_body keys h.shown further (λ awaits. h.tells) (OfBody sets nodes body) (λ k. no_lines) b close
    back h.closes beats spaced fits near serves
  where
    near : CarriesApart (group_gap (direct_figures d m)) a
    near c e p q l = omega (arith, l)

    h : Laned count d m key step total a lane mid out b slot slot_mid slot_out keys further close
    h = laned (flush_awaited timed_by f (direct_figures d m) sound (direct_sound d m) count some a beats spaced fits near)

    in_body : 1 ≤ (direct_figures d m).a
    in_body = omega (arith, h.delay)

    back : IsDelayed 1 (record { tuple = tuple_of_any (with_keys keys (λ k. share slot_out k out)) count; ends = close }) b
    back =
        delayed_same 1 (record { tuple = λ c. in_front (keys (slot_out c) c) (out.tuple c); ends = close })
        (record { tuple = tuple_of_any (with_keys keys (λ k. share slot_out k out)) count; ends = close }) b
        (λ c. tuple_of_all keys slot_out out c count (h.within c)) (λ c. refl) h.gathers

    serves : (k : ℕ) → k < count → Spaced (direct_figures d m) (beats_of (share slot k lane))
        → Serving (direct_figures d m) (λ t. OfBody sets nodes body (stream (share slot k lane) t)) no_lines (beats_of (share slot k lane)) (share slot_out k out)
    serves k l apart =
        share_serves steady_serves ends_serve d m step total (OfBody sets nodes body) makes (share slot k lane) (share slot_mid k mid) (share slot_out k out)
        (share_steady d step lane mid slot slot_mid h.rows h.no_row h.no_end h.slots k) (h.table k) (own_fits (share slot k lane)) apart
