-- Wires that give results with places: leaves, wires some cycles later, rows changed one by one, and two sides that take turns.
use Rattle.std.proofs.Common.{◌≡◌, ℕ, zero, suc, ◌+◌, ◌-◌, List, [], ◌∷◌, ◌++◌, length, Option, Some, None, Bool, true, false, ◌||◌, refl, sym, ap, ◌∙◌, arith, length-append}
use Rattle.std.specs.Prelude.{if◌then◌else◌, map, option_and_then, option_map, option_to_list}
use Rattle.std.specs.List.{cons_option}
use Rattle.std.proofs.lemmas.List.Elements.{filter_map-append}
use Rattle.gl_algebra.specs.declared.figures.Figures.{Figures}
use Rattle.gl_algebra.specs.FigureTable.{delayed, input_figures, settled}
use Rattle.gl_values.specs.Results.{Row}
use Rattle.gl_wire.specs.Beats.{Beats, last}
use Rattle.gl_wire.specs.Serves.{Fits}
use Rattle.gl_wire.specs.Shapes.{IsDelayed, stepped}
use Rattle.gl_wire.specs.Ticks.{times_of}
use Rattle.gl_wire.specs.Wire.{Carried, pending, stream}
use Rattle.gl_wire.proofs.DelayLemmas.{has_end_before}
use Rattle.gl_arrival.specs.Arrival.{by_arrival}
use Rattle.gl_arrival.specs.Changes.{moved, stepped_at}
use Rattle.gl_arrival.specs.Places.{Placed, at_place, at_places}
use Rattle.gl_arrival.specs.Results.{Arrivals, IsArrival, IsByArrival, IsChangedInPlace}
use Rattle.gl_arrival.proofs.ChangeLemmas.{at_places_append, moved_by_none, stepped_moved}
use Rattle.gl_arrival.proofs.SideLemmas.{by_arrival_moved, keeps_order}
use Rattle.gl_turns.specs.Dated.{Dated, Rises}
use Rattle.gl_turns.specs.Dates.{beat_of, cycles_at, cycles_before, last_beat, pending_at_beats, row_at_beat, stream_at_beats}
use Rattle.gl_turns.specs.Turns.{ServedInTurn}
use Rattle.gl_turns.proofs.DateLemmas.{last_is, stream_later}

-- ---- leaves

at_once : (e : Bool) → last input_figures e ≡ 0
at_once true = refl
at_once false = refl

module _ (beats : Beats) (s : Carried) (fits : Fits input_figures beats s) where
  own_beat : (c : ℕ) (r : Row) → s.tuple c ≡ Some r → beat_of 0 beats c ≡ c
  own_beat c r e =
      let x = fits.tuples c r e in
      let low = x.low in
      let high = x.high in
      let none = at_once x.end in
      let at : c ≡ x.beat = omega (arith, low, high, none) in
      let z : c - 0 ≡ c = omega arith in
      ap (last_beat beats) z ∙ last_is beats c x.end (ap beats at ∙ x.is) c (omega arith) (λ u d h l m. omega (arith, l, m))

  same_length : (c : ℕ) → length (pending s c) ≡ length (cycles_before s c)
  same_length zero = refl
  same_length (suc c) = by (s.ends c) (s.tuple c) (same_length c)
    where
      by : (e : Bool) (o : Option Row) → length (pending s c) ≡ length (cycles_before s c)
          → length (if e then [] else pending s c ++ option_to_list o) ≡ length (if e then [] else cycles_before s c ++ times_of o c)
      by true o h = refl
      by false None h = omega (arith, h, length-append (pending s c) [], length-append (cycles_before s c) [])
      by false (Some r) h = omega (arith, h, length-append (pending s c) (r ∷ []), length-append (cycles_before s c) (c ∷ []))

  leaf_more : (c : ℕ) → pending_at_beats 0 beats s c ≡ at_places (pending s c) (cycles_before s c) → stream_at_beats 0 beats s c ≡ at_places (stream s c) (cycles_at s c)
  leaf_more c h =
      ap (λ l. l ++ row_at_beat 0 beats s c) h ∙ ap (λ l. at_places (pending s c) (cycles_before s c) ++ l) (own (s.tuple c) refl)
      ∙ sym (at_places_append (pending s c) (option_to_list (s.tuple c)) (cycles_before s c) (times_of (s.tuple c) c) (same_length c))
    where
      own : (o : Option Row) → s.tuple c ≡ o → map (λ (r : Row). at_place r (beat_of 0 beats c)) (option_to_list o) ≡ at_places (option_to_list o) (times_of o c)
      own None e = refl
      own (Some r) e = ap (λ (n : ℕ). at_place r n ∷ []) (own_beat c r e)

  leaf_pending : (c : ℕ) → pending_at_beats 0 beats s c ≡ at_places (pending s c) (cycles_before s c)
  leaf_pending zero = refl
  leaf_pending (suc c) = by (s.ends c) (leaf_more c (leaf_pending c))
    where
      by : (e : Bool) → stream_at_beats 0 beats s c ≡ at_places (stream s c) (cycles_at s c)
          → (if e then [] else stream_at_beats 0 beats s c) ≡ at_places (if e then [] else stream s c) (if e then [] else cycles_at s c)
      by true h = refl
      by false h = h

  -- a leaf's rows come in the cycles of their beats
  pub dated_leaf : Dated input_figures (λ t. IsArrival (at_places (stream s t) (cycles_at s t))) (λ t n. n) (λ t. false) beats s
  dated_leaf t e h i =
      let low = i.low in
      let high = i.high in
      let at : e ≡ t = omega (arith, low, high) in
      let rows : List (Placed Row) = at_places (stream s t) (cycles_at s t) in
      record {
        rows = rows;
        is = record { rows = refl; kept = refl };
        same = ap (stream_at_beats 0 beats s) at ∙ leaf_more t (leaf_pending t) ∙ sym (moved_by_none rows);
      }

-- ---- later

module _ (f : Figures) (means : ℕ → Arrivals) (g : ℕ → ℕ → ℕ) (spill : ℕ → Bool) (beats : Beats) where
  pub dated_later : (m : ℕ) (s b : Carried) → IsDelayed m s b → Dated f means g spill beats s → Dated (delayed m f) means g spill beats b
  dated_later m s b d w t e h i =
      let z = has_end_before m s b d f t e i in
      let x = w t z.0 h z.2 in
      record { rows = x.rows; is = x.is; same = ap (stream_at_beats (f.a + m) beats b) z.1 ∙ stream_later m s b d f.a beats z.0 ∙ x.same }

  pub dated_settled : (s : Carried) → Dated f means g spill beats s → Dated (settled f) means g spill beats s
  dated_settled s w t e h i = w t e h (record { is = i.is; low = i.low; high = i.high })

  -- another word for the results
  pub dated_as : (n : ℕ → Arrivals) (s : Carried) → ((t : ℕ) (xs : List (Placed Row)) (p : Bool) → means t xs p → n t xs p) → Dated f means g spill beats s → Dated f n g spill beats s
  dated_as n s k w t e h i = let x = w t e h i in record { rows = x.rows; is = k t x.rows (spill t) x.is; same = x.same }

-- ---- rows changed or left out one by one

module _ (step : Row → Option Row) (first : ℕ) (beats : Beats) (a : Carried) where
  stepped_row : (c : ℕ) → row_at_beat first beats (stepped step a) c ≡ stepped_at step (row_at_beat first beats a c)
  stepped_row c = by (a.tuple c)
    where
      one : (o : Option Row) → map (λ (r : Row). at_place r (beat_of first beats c)) (option_to_list o) ≡ cons_option (option_map (λ r. at_place r (beat_of first beats c)) o) []
      one None = refl
      one (Some r) = refl

      by : (o : Option Row) → map (λ (r : Row). at_place r (beat_of first beats c)) (option_to_list (option_and_then step o)) ≡ stepped_at step (map (λ (r : Row). at_place r (beat_of first beats c)) (option_to_list o))
      by None = refl
      by (Some r) = one (step r)

  stepped_more : (c : ℕ) → pending_at_beats first beats (stepped step a) c ≡ stepped_at step (pending_at_beats first beats a c) → stream_at_beats first beats (stepped step a) c ≡ stepped_at step (stream_at_beats first beats a c)
  stepped_more c h =
      ap (λ l. l ++ row_at_beat first beats (stepped step a) c) h ∙ ap (λ l. stepped_at step (pending_at_beats first beats a c) ++ l) (stepped_row c)
      ∙ sym (filter_map-append (λ (x : Placed Row). option_map (λ y. at_place y x.place) (step x.row)) (pending_at_beats first beats a c) (row_at_beat first beats a c))

  stepped_pending : (c : ℕ) → pending_at_beats first beats (stepped step a) c ≡ stepped_at step (pending_at_beats first beats a c)
  stepped_pending zero = refl
  stepped_pending (suc c) = by (a.ends c) (stepped_more c (stepped_pending c))
    where
      by : (e : Bool) → stream_at_beats first beats (stepped step a) c ≡ stepped_at step (stream_at_beats first beats a c)
          → (if e then [] else stream_at_beats first beats (stepped step a) c) ≡ stepped_at step (if e then [] else stream_at_beats first beats a c)
      by true h = refl
      by false h = h

  pub stepped_stream : (c : ℕ) → stream_at_beats first beats (stepped step a) c ≡ stepped_at step (stream_at_beats first beats a c)
  stepped_stream c = stepped_more c (stepped_pending c)

pub dated_stepped : (step : Row → Option Row) (f : Figures) (means : ℕ → Arrivals) (g : ℕ → ℕ → ℕ) (spill : ℕ → Bool) (beats : Beats) (a : Carried) → Dated f means g spill beats a
    → Dated f (λ t. IsChangedInPlace (means t) (stepped_at step)) g spill beats (stepped step a)
dated_stepped step f means g spill beats a w t e h i =
    let x = w t e h (record { is = i.is; low = i.low; high = i.high }) in
    record {
      rows = stepped_at step x.rows;
      is = record { rows = x.rows; of_source = x.is; changed = refl };
      same = stepped_stream step f.a beats a e ∙ ap (stepped_at step) x.same ∙ stepped_moved step (g t) x.rows;
    }

-- ---- two sides

pub dated_turns : (f h k : Figures) (m n : ℕ → Arrivals) (g : ℕ → ℕ → ℕ) (p q : ℕ → Bool) (beats : Beats) (a b o : Carried) → ((t : ℕ) → Rises (g t)) → Fits f beats a → Fits h beats b → ServedInTurn f h k beats a b o
    → Dated f m g p beats a → Dated h n g q beats b → Dated k (λ t. IsByArrival (m t) (n t)) g (λ t. p t || q t) beats o
dated_turns f h k m n g p q beats a b o rises fits_a fits_b served left right t x is i =
    let d = fits_a.end t is in
    let e = fits_b.end t is in
    let l = left t d.at is d.here in
    let r = right t e.at is e.here in
    record {
      rows = by_arrival l.rows r.rows;
      is = record { left = l.rows; right = r.rows; left_spill = p t; right_spill = q t; of_left = l.is; of_right = r.is; in_order = refl; either = refl };
      same =
          served.in_order t d.at e.at x is d.here e.here i ∙ ap (λ u. by_arrival u (stream_at_beats h.a beats b e.at)) l.same ∙ ap (by_arrival (moved (g t) l.rows)) r.same
          ∙ by_arrival_moved (g t) l.rows r.rows (keeps_order (g t) (rises t) l.rows r.rows);
    }
