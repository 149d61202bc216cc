-- A plan's root over the beats of a file, shown one cycle later.
use Rattle.std.proofs.Common.{◌≡◌, ℕ, suc, ◌<◌, ◌≤◌, List, [], ◌++◌, length, map, Option, Some, None, Bool, true, false, slice_get, refl, sym, ap, ◌∙◌, subst, slice_index}
use mathlib.Core.Path.{fun_ext}
use Rattle.gl_algebra.specs.Fits.{IsPlan}
use Rattle.gl_algebra.specs.Values.{Sets}
use Rattle.gl_algebra.specs.Results.{Inputs, IsPlanResult}
use Rattle.gl_algebra.specs.Views.{reads_time}
use Rattle.gl_algebra.specs.declared.figures.Figures.{Figures}
use Rattle.gl_algebra.specs.declared.node.PlanNode.{PlanNode}
use Rattle.gl_values.specs.Results.{Row, Results}
use Rattle.gl_net.specs.declared.node.Bit.{Bit}
use Rattle.gl_net.specs.Net.{Run}
use Rattle.gl_wiring.specs.Below.{LawsBelow}
use Rattle.gl_wiring.specs.Leaves.{LeavesFit, carried_by, leaf}
use Rattle.gl_gaps.specs.declared.Gaps.{Gaps}
use Rattle.gl_schema.specs.Beats.{AreInOrder, Beats, input_of, inputs_of, last_cycle, places_of, ticks_of, times_of}
use Rattle.gl_schema.proofs.Timed.{places_long}
use Rattle.gl_arrival.specs.Changes.{moved}
use Rattle.gl_arrival.specs.Places.{at_places}
use Rattle.gl_gaps.specs.Keeps.{KeepsGaps}
use Rattle.gl_wire.specs.Faults.{line_of, lines_of}
use Rattle.gl_wire.specs.Serving.{inputs_at}
use Rattle.gl_wire.specs.Shapes.{IsDelayed}
use Rattle.gl_wire.specs.Ticks.{cycles_at, ticks_at, times_at}
use Rattle.gl_wire.specs.Wire.{Carried, carried, stream}
use Rattle.gl_wire.specs.declared.emitted.Emitted.{Emitted}
use Rattle.gl_wire.specs.declared.wire.Wire.{Wire}
use Rattle.gl_wiring.specs.Bringing.{Brings, BringsTicks, beats_in}
use Rattle.gl_wiring.specs.Roots.{ServesOnceBy}
use Rattle.gl_wiring.specs.Root.{IsSticky, ShowsRight, later_line}
use Rattle.gl_wiring.specs.Wired.{plan_inputs}
use Rattle.gl_wiring.proofs.FileLemmas.{file_apart, file_one, file_spaced, file_fits, file_stream, ticks_fit}
use Rattle.gl_wiring.proofs.ClockLemmas.{file_ticks, file_times, no_ticks, no_times}
use Rattle.gl_wiring.proofs.CycleLemmas.{file_cycles, later_rises, no_cycles, places_later}
use Rattle.gl_wiring.proofs.PositionLemmas.{quiet_stream}
use Rattle.gl_wiring.proofs.RootLemmas.{once_shows}

-- the same with another word for the results
shows_as : (f : Figures) (m n : Results) (last : ℕ) (o : Carried) (group queue : ℕ → Bool) → ((out : List Row) (spill : Bool) → m out spill → n out spill)
    → ShowsRight f m last o group queue → ShowsRight f n last o group queue
shows_as f m n last o group queue h s = record {
  ended = s.ended;
  soonest = s.soonest;
  in_time = s.in_time;
  ends = s.ends;
  once = s.once;
  none_later = s.none_later;
  no_overflow = s.no_overflow;
  meets = h _ _ s.meets;
  lasts = s.lasts;
  stays = s.stays;
}

module _ (laws : LawsBelow) (run : Run) (leaves : List Wire) (beats : Beats) (order : AreInOrder beats.list)
    (brings : (k : ℕ) (w : Wire) → slice_get leaves k ≡ Some w → Brings k beats.list (carried run w))
    (others : (k : ℕ) → slice_get leaves k ≡ None → input_of k beats.list ≡ []) (words : run.held ≡ (λ (k : ℕ). slice_index beats.sets k)) where
  leaf_stream : (k : ℕ) → stream (leaf run leaves k) (suc (last_cycle beats)) ≡ input_of k beats.list
  leaf_stream k = by (slice_get leaves k) refl
    where
      by : (o : Option Wire) → slice_get leaves k ≡ o → stream (carried_by run o) (suc (last_cycle beats)) ≡ input_of k beats.list
      by None p = ap (λ (l : List Row). l ++ []) (quiet_stream (suc (last_cycle beats))) ∙ sym (others k p)
      by (Some w) p = file_stream beats.list order k (carried run w) (brings k w p)

  leaf_cycles : (k : ℕ) → cycles_at (leaf run leaves k) (suc (last_cycle beats)) ≡ map suc (places_of k beats.list)
  leaf_cycles k = by (slice_get leaves k) refl
    where
      by : (o : Option Wire) → slice_get leaves k ≡ o → cycles_at (carried_by run o) (suc (last_cycle beats)) ≡ map suc (places_of k beats.list)
      by None p = no_cycles k beats.list (suc (last_cycle beats)) (others k p)
      by (Some w) p = file_cycles k beats.list order (carried run w) (brings k w p)

  module _ (nodes : List PlanNode) (root : ℕ) (tick : Option Bit) (plan : IsPlan nodes) (within : root < length nodes)
      (come : BringsTicks (reads_time nodes) beats.list (line_of run tick)) where
    abbrev line : ℕ → Bool
    line = line_of run tick

    abbrev at_last : Inputs
    at_last = inputs_at run.held line (leaf run leaves) (leaf run leaves 0) (suc (last_cycle beats))

    leaf_times : reads_time nodes ≡ true → (k : ℕ) → times_at line (leaf run leaves k) (suc (last_cycle beats)) ≡ times_of k beats.list
    leaf_times reads k = by (slice_get leaves k) refl
      where
        by : (o : Option Wire) → slice_get leaves k ≡ o → times_at line (carried_by run o) (suc (last_cycle beats)) ≡ times_of k beats.list
        by None p = no_times k beats.list line (suc (last_cycle beats)) (others k p)
        by (Some w) p = file_times k beats.list order line come.first (come.ticks reads) (carried run w) (brings k w p)

    leaf_ticks : reads_time nodes ≡ true → (k : ℕ) → ticks_at line (leaf run leaves k) (suc (last_cycle beats)) ≡ ticks_of beats.list
    leaf_ticks reads k = by (slice_get leaves k) refl
      where
        by : (o : Option Wire) → slice_get leaves k ≡ o → ticks_at line (carried_by run o) (suc (last_cycle beats)) ≡ ticks_of beats.list
        by None p = no_ticks beats.list order line come.first (come.ticks reads)
        by (Some w) p = file_ticks k beats.list order line come.first (come.ticks reads) (carried run w) (brings k w p)

    -- the same with each row at the cycle of its beat in the file, which is one earlier
    abbrev placed : Inputs
    placed = record at_last { places = λ k. places_of k beats.list; body_places = places_of 0 beats.list }

    leaf_later : (k : ℕ) → at_places (stream (leaf run leaves k) (suc (last_cycle beats))) (cycles_at (leaf run leaves k) (suc (last_cycle beats)))
        ≡ moved suc (at_places (stream (leaf run leaves k) (suc (last_cycle beats))) (places_of k beats.list))
    leaf_later k =
        ap (λ (ps : List ℕ). at_places (stream (leaf run leaves k) (suc (last_cycle beats))) ps) (leaf_cycles k)
        ∙ places_later (stream (leaf run leaves k) (suc (last_cycle beats))) (places_of k beats.list)
        (places_long k beats.list ∙ ap (λ (l : List Row). length l) (sym (leaf_stream k)))

    placed_result : (out : List Row) (spill : Bool) → IsPlanResult nodes root at_last out spill → IsPlanResult nodes root placed out spill
    placed_result out spill r =
        laws.results_go_by_order nodes root plan within suc later_rises placed at_last
        (record { streams = λ k. refl; places = leaf_later; times = λ k. refl; ticks = refl; body = refl; body_places = leaf_later 0; sets = refl }) out spill r

    inputs_same : (sets sets' : Sets) (streams streams' : ℕ → List Row) (times times' : ℕ → List ℕ) (ticks ticks' : ℕ) → sets ≡ sets' → streams ≡ streams' → times ≡ times' → ticks ≡ ticks'
        → ◌≡◌ {A = Inputs} (record { streams = streams; places = λ k. places_of k beats.list; times = times; ticks = ticks; body = streams 0; body_places = places_of 0 beats.list; sets = sets })
        (record { streams = streams'; places = λ k. places_of k beats.list; times = times'; ticks = ticks'; body = streams' 0; body_places = places_of 0 beats.list; sets = sets' })
    inputs_same sets sets' streams streams' times times' ticks ticks' h s t n = cc

    same_inputs : reads_time nodes ≡ true → placed ≡ plan_inputs (inputs_of beats)
    same_inputs reads = inputs_same _ _ _ _ _ _ _ _ words (fun_ext leaf_stream) (fun_ext (leaf_times reads)) (leaf_ticks reads 0)

    -- what the leaves give at the last beat has the results of what beats bring; where no time is read, whatever the times are
    same_results : (out : List Row) (spill : Bool) → IsPlanResult nodes root at_last out spill → IsPlanResult nodes root (plan_inputs (inputs_of beats)) out spill
    same_results out spill r = by (reads_time nodes) refl
      where
        by : (b : Bool) → reads_time nodes ≡ b → IsPlanResult nodes root (plan_inputs (inputs_of beats)) out spill
        by true reads = subst (λ (i : Inputs). IsPlanResult nodes root i out spill) (same_inputs reads) (placed_result out spill r)
        by false reads = laws.results_are_untimed nodes root plan within reads placed (plan_inputs (inputs_of beats))
            (record { streams = leaf_stream; places = λ k. refl; body = record { rows = leaf_stream 0; places = refl; sets = words } }) out spill (placed_result out spill r)

    pub plan_right : (f : Figures) (ticks : ℕ) (gaps : Gaps) (e : Emitted) (o : Carried) (group queue : ℕ → Bool)
        → f.gt ≤ gaps.of_beats → ticks ≤ gaps.of_ticks → ServesOnceBy f ticks nodes root tick leaves e run → KeepsGaps gaps beats → IsDelayed 1 (carried run e.wire) o
        → IsSticky (lines_of run e.faults).further group → IsSticky (later_line (lines_of run e.faults).passed) queue
        → ShowsRight f (IsPlanResult nodes root (plan_inputs (inputs_of beats))) (suc (last_cycle beats)) o group queue
    plan_right f ticks gaps e o group queue close near serves keeps later sticky sticky' =
        let spaced = file_spaced beats.list order f gaps.of_beats close keeps.each in
        let fits : LeavesFit run tick leaves (beats_in beats.list) = record {
          each = λ k w p. file_fits beats.list order k (carried run w) (brings k w p);
          ticks = ticks_fit beats.list line (reads_time nodes) come;
        } in
        let serving = serves (beats_in beats.list) (suc (last_cycle beats)) (file_one beats.list order) spaced fits
        (file_apart beats.list order line (reads_time nodes) ticks gaps.of_ticks come near keeps.ticks) in
        shows_as f (IsPlanResult nodes root at_last) (IsPlanResult nodes root (plan_inputs (inputs_of beats))) (suc (last_cycle beats)) o group queue same_results
        (once_shows f (IsPlanResult nodes root at_last) (lines_of run e.faults) (carried run e.wire) o group queue (suc (last_cycle beats)) serving later sticky sticky')
