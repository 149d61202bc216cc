-- Windows with spare copies serve one stream.
use Rattle.std.proofs.Common.{◌≡◌, ℕ, suc, ◌+◌, ◌-◌, ◌*◌, ◌<◌, ◌≤◌, Option, Some, Bool, true, false, ◌||◌, refl, sym, ap, ◌∙◌, subst, arith, inl, inr, mul-le-mul_right}
use Rattle.std.proofs.lemmas.Bool.{cases_lt, or_cases, or_left, or_right, or_from}
use Rattle.gl_values.specs.Lists.{slices}
use Rattle.gl_values.specs.Results.{Results, AreJoined, IsOfParts}
use Rattle.gl_bits.proofs.Bools.{or_none}
use Rattle.gl_algebra.specs.declared.figures.Figures.{Figures}
use Rattle.gl_algebra.specs.FigureTable.{IsSound, stride_of}
use Rattle.gl_algebra.specs.Results.{IsPlanResult}
use Rattle.gl_wire.specs.Apart.{Carries, CarriesApart}
use Rattle.gl_wire.specs.Beats.{Beats, Spaced, Ends, beats_of, last}
use Rattle.gl_wire.specs.Serves.{Caused, OneEnd}
use Rattle.gl_wire.specs.Serving.{Serving}
use Rattle.gl_wire.specs.Shapes.{IsDelayed}
use Rattle.gl_wire.specs.Spills.{Relation, Lines, both_lines}
use Rattle.gl_wire.specs.Wire.{Carried, stream}
use Rattle.gl_wire.proofs.ApartLemmas.{carried_beat}
use Rattle.gl_wire.specs.Bodies.{OfBody}
use Rattle.gl_wire.specs.Lift.{tuple_of_any}
use Rattle.gl_wire.specs.Rotates.{flush_of, turns_of, lines_of_all}
use Rattle.gl_wire.proofs.LiftSpillLemmas.{lift_spills}
use Rattle.gl_wire.proofs.NumberLemmas.{all_turns}
use Rattle.gl_wire_registers.specs.Timers.{IsClose}
use Rattle.gl_windows.specs.Front.{IsFront, who_ends}
use Rattle.gl_windows.proofs.Setting.{Setting}
use Rattle.gl_spare.specs.LateEnds.{IsLate}
use Rattle.gl_spare.specs.Laws.{SparesSchedule, SparesServe}
use Rattle.gl_wire.specs.Once.{OneStream, ServingOnce}
use Rattle.gl_spare.specs.Sources.{OneSource}
use Rattle.gl_algebra.specs.Spares.{IsSpare, spare_over}
use Rattle.gl_spare.proofs.SpareLemmas.{schedules, over, parted, empties, caused}
use Rattle.gl_spare.proofs.LateLemmas.{one_source, late_stream}
use Rattle.gl_spare.proofs.OnceLemmas.{copies_end, ends, once, none_later, spill, right, unpassed, told, so, late as lines_late}

module _ (f s : Figures) (size advance turns copies gap shift : ℕ) (n : IsSpare f s size advance turns copies gap shift) (sound_f : IsSound f) (sound_s : IsSound s) (closing : s.nt ≡ 0)
    (a late b : Carried) (ins outs : ℕ → Carried) (is_late : IsLate shift a late) (law : IsFront size advance copies (stride_of s) late ins)
    (close : ℕ → Bool) (closes : IsClose (flush_of turns s) (flush_of turns s + 1 + s.a) late.ends close)
    (back : IsDelayed 1 (record { tuple = tuple_of_any outs copies; ends = close }) b)
    (means : ℕ → Results) (m : Relation) (before : Lines) (lines : ℕ → Lines) (beats : Beats) (end : ℕ) (one : OneStream beats end) where
  abbrev pub h : Figures
  h = spare_over turns gap shift f s

  module _ (spaced : Spaced h beats) (x : Serving f means before beats a)
      (served : (k : ℕ) → k < copies → Spaced s (beats_of (ins k)) → Serving s (λ t. m (stream (ins k) t)) (lines k) (beats_of (ins k)) (outs k)) where
    end_of : OneEnd f a end
    end_of = x.fits.end end one.is

    abbrev u : ℕ
    u = (end_of).at

    -- what the source carries, it carries a fixed time behind its beat
    exact : (c : ℕ) (q : Caused f beats c) → c ≡ q.beat + f.a
    exact c q = let l = last_at_most q.end in let w = n.at_once in omega (arith, q.low, q.high, l, w)
      where
        last_at_most : (e : Bool) → last f e ≤ f.le
        last_at_most true = omega arith
        last_at_most false = sound_f.end_last

    only : (c : ℕ) → a.ends c ≡ true → c ≡ u
    only c p =
        let q = x.fits.ends c p in
        let e = one.only q.beat q.is in
        (end_of).only c (record { is = p; low = omega (arith, q.low, e); high = omega (arith, q.high, e) })

    until : (c : ℕ) → Carries a c → c ≤ u
    until c k =
        let q = carried_beat f beats a x.fits c k in
        let e = exact c q in
        omega (arith, e, one.until q.beat q.end q.is, (end_of).here.low)

    apart : CarriesApart gap a
    apart c d k j l =
        let q = carried_beat f beats a x.fits c k in
        let r = carried_beat f beats a x.fits d j in
        let e = exact c q in
        let g = exact d r in
        let less : q.beat < r.beat = omega (arith, e, g, l) in
        omega (arith, e, g, by q.end q.is less (one.until r.beat r.end r.is) (λ z. spaced.apart q.beat r.beat q.end r.end q.is r.is less))
      where
        by : {t v : ℕ} (e : Bool) → beats t ≡ Some e → t < v → v ≤ end → (Unit {0} → t + Rattle.gl_wire.specs.Beats.gap h e ≤ v) → t + gap ≤ v
        by true p l w z = absurd (omega (arith, one.only _ p, l, w))
        by false p l w z = z tt

    abbrev at : ℕ
    at = u + shift

    source : OneSource gap (stride_of s) late at
    source = one_source gap shift (stride_of s) u a late is_late n.late (end_of).here.is only until apart

    abbrev setting : Setting
    setting = record {
      size = size;
      advance = advance;
      count = copies;
      most = turns;
      stride = stride_of s;
      a = late;
      ins = ins;
      law = law;
      rows_some = n.rows;
      step_some = n.step;
      copies_some = omega (arith, n.turns_some, n.enough);
      most_some = n.turns_some;
      stride_some = omega arith;
      enough = n.enough;
      cover = n.cover;
      rested = λ v d p k l. absurd (omega (arith, source.only v p, source.until d k, l));
    }

    covers : size ≤ copies * advance
    covers = let z : turns * advance ≤ copies * advance = mul-le-mul_right advance n.enough in omega (arith, z, n.cover)

    abbrev who : ℕ → Option ℕ
    who = who_ends size advance copies (stride_of s) late

    abbrev waits : ℕ
    waits = s.le + turns_of turns s + 2

    delay : flush_of turns s + 1 + s.a ≡ waits
    delay = omega (arith, all_turns turns (stride_of s) n.turns_some, sound_s.tuples_last, sound_s.end_last)

    closes_later : (c : ℕ) → close (c + waits) ≡ late.ends c
    closes_later c = ap (λ (i : ℕ). close (c + i)) (sym delay) ∙ closes.later (λ v d p q l. absurd (omega (arith, source.only v p, source.only d q, l))) c

    close_only : (c : ℕ) → close c ≡ true → c ≡ at + waits
    close_only c p = elim (cases_lt c waits) [
      | inl l ↦ absurd (let z = closes.before c (omega (arith, l, delay)) in cc (z, p))
      | inr l ↦
          let e : c - waits + waits ≡ c = omega (arith, l) in
          let z : late.ends (c - waits) ≡ true = sym (closes_later (c - waits)) ∙ ap close e ∙ p in
          omega (arith, source.only (c - waits) z, e)
    ]

    all_end : Ends beats
    all_end = record { ends = λ t e p. (end, one.until t e p, one.is) }

    pub spare_served : ServingOnce h (IsOfParts (means end) (slices size advance) m (λ rows. false)) (both_lines before (lines_of_all lines copies)) end b
    spare_served =
        let sch = schedules setting gap s.ge at source n.strides covers n.again s refl n.body_gap refl in
        let lifted = lift_spills s (λ v. m) copies who lines ins outs sound_s closing sch (λ k l. served k l (sch.spaced k l)) in
        let early = over setting gap s.ge at source n.strides covers n.again in
        let parts = parted setting gap s.ge at source n.strides covers n.again in
        let some : at + turns_of turns s + 2 ≡ at + suc (turns_of turns s + 1) = omega arith in
        let en = copies_end copies at (turns_of turns s + 1) ins (caused setting gap s.ge at source n.strides covers n.again)
        (λ k l. ap (Rattle.gl_wire.specs.Wire.pending (ins k)) (sym some) ∙ empties setting gap s.ge at source n.strides covers n.again k l) in
        let close_at : close (at + waits) ≡ true = closes_later at ∙ source.is in
        let here = (end_of).here in
        let mine = right s sound_s copies (turns_of turns s) at (λ v. v.1) (slices size advance (stream late at)) who ins outs sch early parts en m lines lifted b close back close_at close_only in
        let own : Bool = spill s sound_s copies (turns_of turns s) at (λ v. v.1) (slices size advance (stream late at)) who ins outs sch early parts en m lines lifted b close back close_at close_only in
        record {
          ended = suc (at + waits);
          low = omega (arith, here.low);
          high = omega (arith, here.high);
          ends = ends s sound_s copies (turns_of turns s) at (λ v. v.1) (slices size advance (stream late at)) who ins outs sch early parts en m lines lifted b close back close_at close_only;
          once = once s sound_s copies (turns_of turns s) at (λ v. v.1) (slices size advance (stream late at)) who ins outs sch early parts en m lines lifted b close back close_at close_only;
          none_later = λ c l. none_later s sound_s copies (turns_of turns s) at (λ v. v.1) (slices size advance (stream late at)) who ins outs sch early parts en m lines lifted b close back close_at close_only c (omega (arith, l));
          spill = x.spill end || own;
          right = record {
            rows = stream a u;
            source_spill = x.spill end;
            parts_spill = own;
            of_source = x.right end u one.is here;
            of_parts = subst (λ xs. AreJoined m (slices size advance xs) (stream b (suc (at + waits))) own)
                (late_stream gap shift (stride_of s) u a late is_late n.late here.is only until apart) mine;
            any = sym (or_none (x.spill end || own));
          };
          unpassed = λ c. or_from _ _ (x.low c) (unpassed s sound_s copies (turns_of turns s) at (λ v. v.1) (slices size advance (stream late at)) who ins outs sch early parts en m lines lifted b close back close_at close_only c);
          told = λ p. elim (or_cases (x.spill end) own p) [
            | inl q ↦ (let t = x.told all_end end one.is q in (t.0, or_left (before.further t.0) ((lines_of_all lines copies).further t.0) t.1))
            | inr q ↦ (let t = told s sound_s copies (turns_of turns s) at (λ v. v.1) (slices size advance (stream late at)) who ins outs sch early parts en m lines lifted b close back close_at close_only q in (t.0, or_right (before.further t.0) ((lines_of_all lines copies).further t.0) t.1))
          ];
          so = λ c p. elim (or_cases (before.further c) ((lines_of_all lines copies).further c) p) [
            | inl q ↦ (let t = x.so all_end c q in or_left (x.spill end) own (ap x.spill (sym (one.only t.0 t.1)) ∙ t.2))
            | inr q ↦ or_right (x.spill end) own (so s sound_s copies (turns_of turns s) at (λ v. v.1) (slices size advance (stream late at)) who ins outs sch early parts en m lines lifted b close back close_at close_only c q)
          ];
          late = λ c p. elim (or_cases (before.further c) ((lines_of_all lines copies).further c) p) [
            | inl q ↦ (let t = x.late all_end c q in omega (arith, t.1, only t.0 t.2))
            | inr q ↦ lines_late s sound_s copies (turns_of turns s) at (λ v. v.1) (slices size advance (stream late at)) who ins outs sch early parts en m lines lifted b close back close_at close_only c q
          ];
        }

pub spares_serve : SparesServe
spares_serve f s size advance turns copies gap shift a late b ins outs close lines n sound_f sound_s closing is_late law closes back sets nodes source body inputs before beats end one spaced x served =
    spare_served f s size advance turns copies gap shift n sound_f sound_s closing a late b ins outs is_late law close closes back
    (λ t. IsPlanResult nodes source (inputs t)) (OfBody sets nodes body) before lines beats end one spaced x served

pub spares_schedule : SparesSchedule
spares_schedule f s size advance turns copies gap shift u a ins n law source =
    let wide : turns * advance ≤ copies * advance = mul-le-mul_right advance n.enough in
    let covers : size ≤ copies * advance = omega (arith, wide, n.cover) in
    let setting : Setting = record {
      size = size;
      advance = advance;
      count = copies;
      most = turns;
      stride = stride_of s;
      a = a;
      ins = ins;
      law = law;
      rows_some = n.rows;
      step_some = n.step;
      copies_some = omega (arith, n.turns_some, n.enough);
      most_some = n.turns_some;
      stride_some = omega arith;
      enough = n.enough;
      cover = n.cover;
      rested = λ v d p k l. absurd (omega (arith, source.only v p, source.until d k, l));
    } in
    record {
      schedules = schedules setting gap s.ge u source n.strides covers n.again s refl n.body_gap refl;
      windows = parted setting gap s.ge u source n.strides covers n.again;
      over = over setting gap s.ge u source n.strides covers n.again;
    }
