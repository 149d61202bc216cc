-- One stream before windows of time: its beats, its ticks and its end as the machine sees them.
use Rattle.std.proofs.Common.{◌≡◌, ℕ, ◌+◌, ◌<◌, ◌≤◌, ◌⊎◌, Some, Bool, true, false, refl, subst, arith, inl, inr}
use Rattle.std.proofs.Math.Nat.{lt-div-mul-add}
use Rattle.gl_algebra.specs.declared.figures.Figures.{Figures}
use Rattle.gl_algebra.specs.FigureTable.{input_figures}
use Rattle.gl_algebra.proofs.FigureLemmas.{one_in_time}
use Rattle.gl_wire.specs.Beats.{Beats, Spaced, gap}
use Rattle.gl_wire.specs.Once.{OneStream}
use Rattle.gl_wire.specs.Serves.{Caused, Fits}
use Rattle.gl_wire.specs.Ticks.{TicksFit}
use Rattle.gl_wire.specs.Wire.{Carried}
use Rattle.gl_windows.specs.declared.times.TimeRotation.{TimeRotation}
use Rattle.gl_windows.specs.Ticks.{by_ticks}
use Rattle.gl_windows.specs.TimeFront.{HasRoom, TimeMachine}
use Rattle.gl_windows.specs.TimeRotations.{IsTimeRotation, machine_of}
use Rattle.gl_windows.proofs.TickLemmas.{ticks_keep}
use Rattle.gl_windows.proofs.TimePhases.{room}
use Rattle.gl_windows.proofs.TimeServes.{none_late}
use Rattle.gl_windows.proofs.TimeSetting.{IsTimed}
use Rattle.gl_ticks.specs.Apart.{IsFarEnough, TicksApart}
use Rattle.gl_ticks.proofs.CountLemmas.{IsOnce}
use Rattle.gl_ticks.proofs.ScheduleLemmas.{IsSpread}

module _ (r : TimeRotation) (is : IsTimeRotation r) (tick : ℕ → Bool) (a : Carried) (beats : Beats) (u : ℕ) (one : OneStream beats u) (fits : Fits input_figures beats a) (at : TicksFit tick beats) where
  abbrev m : TimeMachine
  m = machine_of r tick a

  -- what comes of a beat comes in its cycle
  own_cycle : (c : ℕ) (x : Caused input_figures beats c) → x.beat ≡ c
  own_cycle c x = omega (arith, x.low, x.high, none_late x.end)

  caused : (c : ℕ) → (by_ticks tick a).comes c → Caused input_figures beats c
  caused c k = (ticks_keep tick beats a fits at).caused c k

  pub once : IsOnce m u
  once = record { is = is_end; only = only; until = until }
    where
      is_end : a.ends u ≡ true
      is_end =
          let e = fits.end u one.is in
          let same : e.at ≡ u = omega (arith, e.here.low, e.here.high) in
          subst (λ c. a.ends c ≡ true) same e.here.is

      only : (c : ℕ) → a.ends c ≡ true → c ≡ u
      only c p = let q = fits.ends c p in let e = one.only q.beat q.is in omega (arith, q.low, q.high, e)

      until : (c : ℕ) → (by_ticks tick a).comes c → c ≤ u
      until c k = let x = caused c k in let e = own_cycle c x in omega (arith, e, one.until x.beat x.end x.is)

  pub ok : IsTimed m
  ok = record {
    rows_some = is.rows;
    step_some = is.step;
    stride_some = omega arith;
    copies_some = one_in_time r.size r.advance;
    cover = (let z = lt-div-mul-add {a = r.size} {b = r.advance} is.step in omega (arith, z));
    rested = λ v d p k l. absurd (omega (arith, once.only v p, once.until d k, l));
  }

  -- there are copies enough
  pub has_room : HasRoom m
  has_room = room m ok

  module _ (f : Figures) (ticks : ℕ) (n : IsFarEnough r f ticks) (spaced : Spaced f beats) (apart : TicksApart ticks tick beats) where
    -- before the end beats are as far apart as after a beat without it
    near : (c d : ℕ) → (by_ticks tick a).comes c → (by_ticks tick a).comes d → c < d → c + f.gt ≤ d
    near c d k j l =
        let x = caused c k in
        let y = caused d j in
        let e = own_cycle c x in
        let g = own_cycle d y in
        let less : x.beat < y.beat = omega (arith, e, g, l) in
        let z = by x.end x.is less (one.until y.beat y.end y.is) (spaced.apart x.beat y.beat x.end y.end x.is y.is less) in
        omega (arith, e, g, z)
      where
        by : {t v : ℕ} (b : Bool) → beats t ≡ Some b → t < v → v ≤ u → t + gap f b ≤ v → t + f.gt ≤ v
        by true p less high h = absurd (omega (arith, one.only _ p, less, high))
        by false p less high h = h

    far : (c d : ℕ) → tick c ≡ true → ((tick d ≡ true) ⊎ (a.ends d ≡ true)) → c < d → c + ticks ≤ d
    far c d t (inl s) l = apart.apart c d t (inl s) l
    far c d t (inr e) l =
        let q = fits.ends d e in
        let same : q.beat ≡ d = omega (arith, q.low, q.high) in
        apart.apart c d t (inr (subst (λ v. beats v ≡ Some true) same q.is)) l

    pub spread : IsSpread m r.body f.gt ticks
    spread = record {
      near = near;
      far = far;
      own = n.beats';
      interval = refl;
      strides = n.strides;
      again = n.again;
    }
