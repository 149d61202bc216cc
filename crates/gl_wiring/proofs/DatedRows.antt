-- Rows that operators change, and rows of frames, are brought by the beats of the rows that they come of.
use Rattle.std.proofs.Common.{◌≡◌, ℕ, zero, suc, ◌+◌, List, [], ◌∷◌, ◌++◌, Option, Some, None, Bool, true, false, ◌||◌, refl, sym, ap, ◌∙◌, append_assoc}
use Rattle.std.specs.Prelude.{map, option_and_then, option_map, option_to_list, if◌then◌else◌}
use Rattle.std.specs.List.{cons_option}
use Rattle.gl_algebra.specs.declared.figures.Figures.{Figures}
use Rattle.gl_algebra.specs.FigureTable.{delayed, settled}
use Rattle.gl_values.specs.Results.{Row}
use Rattle.gl_arrival.specs.Changes.{each_at, stepped_at}
use Rattle.gl_arrival.specs.Places.{Placed, at_place, rows_of}
use Rattle.gl_arrival.specs.Results.{Arrivals, IsChangedInPlace, IsPartedInPlace}
use Rattle.gl_arrival.proofs.ChangeLemmas.{each_moved, rows_moved}
use Rattle.gl_frames_wire.specs.Running.{Runs, running}
use Rattle.gl_wire.specs.Beats.{Beats}
use Rattle.gl_wire.specs.Serves.{HasEnd}
use Rattle.gl_wire.specs.Shapes.{Steady, stepped}
use Rattle.gl_wire.specs.Wire.{Carried, pending, stream}
use Rattle.gl_wire.proofs.DelayLemmas.{has_end_before}
use Rattle.gl_turns.specs.Dated.{Dated}
use Rattle.gl_turns.specs.Dates.{beat_of, pending_at_beats, row_at_beat, stream_at_beats}
use Rattle.gl_turns.proofs.DateLemmas.{pending_without, stream_later, stream_without}
use Rattle.gl_turns.proofs.DatedLemmas.{dated_later, dated_settled, dated_stepped}

-- behind what is made of each list up to an element come those behind it
each_append : {A B : Type 0} (f : List A → Option B) (seen : List A) (xs ys : List (Placed A)) → each_at f seen (xs ++ ys) ≡ each_at f seen xs ++ each_at f (seen ++ rows_of xs) ys
each_append f seen [] ys = ap (λ l. each_at f l ys) (sym (append-none seen))
  where
    append-none : {A : Type 0} (xs : List A) → xs ++ [] ≡ xs
    append-none [] = refl
    append-none (x ∷ xs) = ap (λ l. x ∷ l) (append-none xs)
each_append {A = A} {B = B} f seen (x ∷ xs) ys =
    by (f (seen ++ x.row ∷ [])) (each_append f (seen ++ x.row ∷ []) xs ys ∙ ap (λ l. each_at f (seen ++ x.row ∷ []) xs ++ each_at f l ys) (append_assoc seen (x.row ∷ []) (rows_of xs)))
  where
    by : (o : Option B) → each_at f (seen ++ x.row ∷ []) (xs ++ ys) ≡ each_at f (seen ++ x.row ∷ []) xs ++ each_at f (seen ++ x.row ∷ rows_of xs) ys
        → cons_option (option_map (λ y. at_place y x.place) o) (each_at f (seen ++ x.row ∷ []) (xs ++ ys))
        ≡ cons_option (option_map (λ y. at_place y x.place) o) (each_at f (seen ++ x.row ∷ []) xs) ++ each_at f (seen ++ x.row ∷ rows_of xs) ys
    by None h = h
    by (Some y) h = ap (λ l. at_place y x.place ∷ l) h

-- ---- frames

module _ (step : List Row → Option Row) (first : ℕ) (beats : Beats) (a : Carried) where
  running_row : (c : ℕ) → row_at_beat first beats (running step a) c ≡ each_at step (pending a c) (row_at_beat first beats a c)
  running_row c = by (a.tuple c)
    where
      one : (o : Option Row) → map (λ (r : Row). at_place r (beat_of first beats c)) (option_to_list o) ≡ cons_option (option_map (λ r. at_place r (beat_of first beats c)) o) []
      one None = refl
      one (Some r) = refl

      by : (o : Option Row) → map (λ (r : Row). at_place r (beat_of first beats c)) (option_to_list (option_and_then (λ row. step (pending a c ++ option_to_list o)) o))
          ≡ each_at step (pending a c) (map (λ (r : Row). at_place r (beat_of first beats c)) (option_to_list o))
      by None = refl
      by (Some r) = one (step (pending a c ++ r ∷ []))

  running_more : (c : ℕ) → pending_at_beats first beats (running step a) c ≡ each_at step [] (pending_at_beats first beats a c)
      → stream_at_beats first beats (running step a) c ≡ each_at step [] (stream_at_beats first beats a c)
  running_more c h =
      let before : List (Placed Row) = pending_at_beats first beats a c in
      let row : List (Placed Row) = row_at_beat first beats a c in
      ap (λ l. l ++ row_at_beat first beats (running step a) c) h
      ∙ ap (λ l. each_at step [] before ++ l) (running_row c ∙ ap (λ (seen : List Row). each_at step seen row) (sym (pending_without first beats a c)))
      ∙ sym (each_append step [] before row)

  running_pending : (c : ℕ) → pending_at_beats first beats (running step a) c ≡ each_at step [] (pending_at_beats first beats a c)
  running_pending zero = refl
  running_pending (suc c) = by (a.ends c) (running_more c (running_pending c))
    where
      by : (e : Bool) → stream_at_beats first beats (running step a) c ≡ each_at step [] (stream_at_beats first beats a c)
          → (if e then [] else stream_at_beats first beats (running step a) c) ≡ each_at step [] (if e then [] else stream_at_beats first beats a c)
      by true h = refl
      by false h = h

  running_stream : (c : ℕ) → stream_at_beats first beats (running step a) c ≡ each_at step [] (stream_at_beats first beats a c)
  running_stream c = running_more c (running_pending c)

module _ (f : Figures) (means : ℕ → Arrivals) (g : ℕ → ℕ → ℕ) (spill : ℕ → Bool) (beats : Beats) (a b : Carried) (m : ℕ) where
  -- behind a steady operator
  pub dated_steady : (step : Row → Option Row) → Steady m step a b → Dated f means g spill beats a
      → Dated (settled (delayed m f)) (λ t. IsChangedInPlace (means t) (stepped_at step)) g spill beats b
  dated_steady step s w =
      let of : ℕ → Arrivals = λ t. IsChangedInPlace (means t) (stepped_at step) in
      dated_settled (delayed m f) of g spill beats b (dated_later f of g spill beats m (stepped step a) b s (dated_stepped step f means g spill beats a w))

  dated_running : (step : List Row → Option Row) → Dated f means g spill beats a → Dated f (λ t. IsChangedInPlace (means t) (each_at step [])) g spill beats (running step a)
  dated_running step w t e h i =
      let x = w t e h (record { is = i.is; low = i.low; high = i.high }) in
      record {
        rows = each_at step [] x.rows;
        is = record { rows = x.rows; of_source = x.is; changed = refl };
        same = running_stream step f.a beats a e ∙ ap (each_at step []) x.same ∙ each_moved step (g t) [] x.rows;
      }

  -- and behind frames
  pub dated_runs : (step : List Row → Option Row) → Runs m step a b → Dated f means g spill beats a
      → Dated (settled (delayed m f)) (λ t. IsChangedInPlace (means t) (each_at step [])) g spill beats b
  dated_runs step s w =
      let of : ℕ → Arrivals = λ t. IsChangedInPlace (means t) (each_at step []) in
      dated_settled (delayed m f) of g spill beats b (dated_later f of g spill beats m (running step a) b s (dated_running step w))

  -- and behind frames by a key, where a spill is said of the rows of further keys
  pub dated_by_key : (step : List Row → Option Row) (further : List Row → Bool) (said : ℕ → Bool)
      → ((t d e : ℕ) → beats t ≡ Some true → HasEnd f a t d → HasEnd (settled (delayed m f)) b t e → said t ≡ further (stream a d))
      → Runs m step a b → Dated f means g spill beats a
      → Dated (settled (delayed m f)) (λ t. IsPartedInPlace (means t) (each_at step []) further) g (λ t. spill t || said t) beats b
  dated_by_key step further said told s w t e h i =
      let z = has_end_before m (running step a) b s f t e (record { is = i.is; low = i.low; high = i.high }) in
      let d : HasEnd f a t z.0 = record { is = z.2.is; low = z.2.low; high = z.2.high } in
      let x = w t z.0 h d in
      let rows : stream a z.0 ≡ rows_of x.rows =
      sym (stream_without f.a beats a z.0) ∙ ap (λ (l : List (Placed Row)). rows_of l) x.same ∙ rows_moved (g t) x.rows in
      record {
        rows = each_at step [] x.rows;
        is = record {
          rows = x.rows;
          source_spill = spill t;
          of_source = x.is;
          changed = refl;
          any = ap (λ (q : Bool). spill t || q) (told t z.0 e h d i ∙ ap further rows);
        };
        same =
            ap (stream_at_beats (f.a + m) beats b) z.1 ∙ stream_later m (running step a) b s f.a beats z.0 ∙ running_stream step f.a beats a z.0
            ∙ ap (each_at step []) x.same ∙ each_moved step (g t) [] x.rows;
      }
