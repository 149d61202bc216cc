-- Windows of time serve one stream whose ticks are farther apart than its tuples.
use Rattle.std.proofs.Common.{◌≡◌, ℕ, suc, ◌+◌, ◌-◌, ◌<◌, ◌≤◌, List, map, Option, Some, Bool, true, sym, ap, ◌∙◌, arith, inl, inr}
use Rattle.std.proofs.lemmas.Bool.{cases_lt}
use Rattle.gl_algebra.specs.declared.figures.Figures.{Figures}
use Rattle.gl_algebra.specs.FigureTable.{input_figures, stride_of}
use Rattle.gl_algebra.proofs.FigureLemmas.{one_in_time}
use Rattle.gl_values.specs.Results.{Row, AreJoined}
use Rattle.gl_values.specs.Times.{tslices}
use Rattle.gl_wire.specs.Beats.{Beats, Ends, Spaced, beats_of}
use Rattle.gl_wire.specs.Bodies.{OfBody}
use Rattle.gl_wire.specs.Lift.{LiftedWithLines, Schedules, tuple_of_any, visits}
use Rattle.gl_wire.specs.Once.{OneStream, ServingOnce}
use Rattle.gl_wire.specs.Rotates.{flush_of, lines_of_all, turns_of}
use Rattle.gl_wire.specs.Serves.{Fits}
use Rattle.gl_wire.specs.Serving.{Serving}
use Rattle.gl_wire.specs.Shapes.{IsDelayed}
use Rattle.gl_wire.specs.Spills.{Lines, Relation}
use Rattle.gl_wire.specs.Ticks.{TicksFit, ticks_at, times_at}
use Rattle.gl_wire.specs.Wire.{Carried, pending, stream}
use Rattle.gl_wire.proofs.LiftSpillLemmas.{lift_spills}
use Rattle.gl_wire.proofs.NumberLemmas.{all_turns}
use Rattle.gl_wire_registers.specs.Timers.{IsClose}
use Rattle.gl_windows.specs.declared.times.TimeRotation.{TimeRotation}
use Rattle.gl_windows.specs.TimeFront.{IsTimeFront, TimeMachine, who_closes}
use Rattle.gl_windows.specs.TimeRotations.{IsTimeRotation, copies_of, machine_of, time_close_delay}
use Rattle.gl_windows.proofs.TimeCopies.{copies_empty, rows_of}
use Rattle.gl_windows.proofs.TimeSetting.{IsTimed}
use Rattle.gl_spare.proofs.OnceLemmas.{copies_end, ends, once, none_later, spill, right, unpassed, told, so, late}
use Rattle.gl_ticks.specs.Apart.{IsFarEnough, TicksApart}
use Rattle.gl_ticks.specs.Once.{TimesServeOnce}
use Rattle.gl_ticks.proofs.CountLemmas.{IsOnce}
use Rattle.gl_ticks.proofs.ScheduleLemmas.{IsSpread, all_parted, caused, over, schedules}
use Rattle.gl_ticks.proofs.StreamLemmas as source

module _ (r : TimeRotation) (is : IsTimeRotation r) (tick : ℕ → Bool) (a b : Carried) (ins outs : ℕ → Carried) (close : ℕ → Bool) (lines : ℕ → Lines) (front : IsTimeFront (machine_of r tick a) ins)
    (closes : IsClose (flush_of (copies_of r) r.body) (time_close_delay r) a.ends close)
    (back : IsDelayed 1 (record { tuple = tuple_of_any outs (copies_of r); ends = close }) b) (f : Figures) (ticks : ℕ) (n : IsFarEnough r f ticks) (of : Relation) (beats : Beats) (u : ℕ)
    (one : OneStream beats u) (spaced : Spaced f beats) (fits : Fits input_figures beats a) (at : TicksFit tick beats) (apart : TicksApart ticks tick beats)
    (served : (k : ℕ) → k < copies_of r → Spaced r.body (beats_of (ins k)) → Serving r.body (λ t. of (stream (ins k) t)) (lines k) (beats_of (ins k)) (outs k)) where
  abbrev s : Figures
  s = r.body

  abbrev count : ℕ
  count = copies_of r

  abbrev turns : ℕ
  turns = turns_of (copies_of r) r.body

  abbrev m : TimeMachine
  m = machine_of r tick a

  abbrev who : ℕ → Option ℕ
  who = who_closes m

  abbrev windows : List (List Row)
  windows = tslices r.size r.advance (times_at tick a u) (ticks_at tick a u) (stream a u)

  only : IsOnce m u
  only = source.once r is tick a beats u one fits at

  ok : IsTimed m
  ok = source.ok r is tick a beats u one fits at

  time : IsSpread m s f.gt ticks
  time = source.spread r is tick a beats u one fits at f ticks n spaced apart

  some : 1 ≤ count
  some = one_in_time r.size r.advance

  -- ---- the line of ends

  abbrev waits : ℕ
  waits = s.le + turns + 2

  delay : flush_of count s + 1 + s.a ≡ waits
  delay = omega (arith, all_turns count (stride_of s) some, is.sound.tuples_last, is.sound.end_last)

  closes_later : (c : ℕ) → close (c + waits) ≡ a.ends c
  closes_later c = ap (λ (i : ℕ). close (c + i)) (sym delay) ∙ closes.later (λ v d p q l. absurd (omega (arith, only.only v p, only.only d q, l))) c

  close_only : (c : ℕ) → close c ≡ true → c ≡ u + waits
  close_only c p = elim (cases_lt c waits) [
    | inl l ↦ absurd (let z = closes.before c (omega (arith, l, delay)) in cc (z, p))
    | inr l ↦
        let e : c - waits + waits ≡ c = omega (arith, l) in
        let z : a.ends (c - waits) ≡ true = sym (closes_later (c - waits)) ∙ ap close e ∙ p in
        omega (arith, only.only (c - waits) z, e)
  ]

  close_at : close (u + waits) ≡ true
  close_at = closes_later u ∙ only.is

  -- ---- the copies

  sch : Schedules s count who ins
  sch = schedules m ok u only ins front s f.gt ticks time

  lifted : LiftedWithLines s (λ v. of) count who lines ins outs
  lifted = lift_spills s (λ v. of) count who lines ins outs is.sound is.closing sch (λ k l. served k l (sch.spaced k l))

  early : (v k : ℕ) → who v ≡ Some k → v < u + turns + 2
  early = over m ok u only ins front s f.gt ticks time

  parts : map rows_of (visits who ins 0 (u + turns + 2)) ≡ windows
  parts = all_parted m ok u only ins front s f.gt ticks time

  all_end : (k : ℕ) → k < count → Ends (beats_of (ins k))
  all_end =
      let some : u + turns + 2 ≡ u + suc (turns + 1) = omega arith in
      copies_end count u (turns + 1) ins (caused m ok u only ins front s f.gt ticks time) (λ k l. ap (pending (ins k)) (sym some) ∙ copies_empty m ok ins front u k only.is l)

  pub times_served : ServingOnce f (AreJoined of windows) (lines_of_all lines count) u b
  times_served = record {
    ended = suc (u + waits);
    low = omega (arith, n.a, is.sound.tuples_last, is.sound.end_last);
    high = omega (arith, n.le);
    ends = ends s is.sound count turns u rows_of windows who ins outs sch early parts all_end of lines lifted b close back close_at close_only;
    once = once s is.sound count turns u rows_of windows who ins outs sch early parts all_end of lines lifted b close back close_at close_only;
    none_later = λ c l. none_later s is.sound count turns u rows_of windows who ins outs sch early parts all_end of lines lifted b close back close_at close_only c (omega (arith, l));
    spill = spill s is.sound count turns u rows_of windows who ins outs sch early parts all_end of lines lifted b close back close_at close_only;
    right = right s is.sound count turns u rows_of windows who ins outs sch early parts all_end of lines lifted b close back close_at close_only;
    unpassed = unpassed s is.sound count turns u rows_of windows who ins outs sch early parts all_end of lines lifted b close back close_at close_only;
    told = told s is.sound count turns u rows_of windows who ins outs sch early parts all_end of lines lifted b close back close_at close_only;
    so = so s is.sound count turns u rows_of windows who ins outs sch early parts all_end of lines lifted b close back close_at close_only;
    late = late s is.sound count turns u rows_of windows who ins outs sch early parts all_end of lines lifted b close back close_at close_only;
  }

pub times_serve_once : TimesServeOnce
times_serve_once r tick a b ins outs close lines is front closes back f ticks n sets nodes body beats last one spaced fits at apart served =
    times_served r is tick a b ins outs close lines front closes back f ticks n (OfBody sets nodes body) beats last one spaced fits at apart served
