-- A steady block serves the row-by-row meaning of its step.
use Rattle.std.proofs.Common.{◌≡◌, ℕ, zero, suc, ◌+◌, ◌-◌, ◌≤◌, List, [], ◌∷◌, ◌++◌, length, Option, Some, None, Bool, true, false, refl, sym, ap, ◌∙◌, subst, arith}
use Rattle.std.specs.Prelude.{option_and_then, option_to_list, if◌then◌else◌, filter_map}
use Rattle.std.specs.List.{cons_option}
use Rattle.std.proofs.lemmas.List.Elements.{filter_map-append}
use Rattle.gl_algebra.specs.declared.figures.Figures.{Figures}
use Rattle.gl_algebra.specs.FigureTable.{delayed}
use Rattle.gl_values.specs.Results.{Row}
use Rattle.gl_wire.specs.Beats.{Beats, last}
use Rattle.gl_wire.specs.Wire.{Carried, pending, stream, rows}
use Rattle.gl_wire.specs.Serves.{HasEnd, Fits, Serves}
use Rattle.gl_wire.specs.Shapes.{stepped, Steady, Mapped}
use Rattle.gl_wire.proofs.DelayLemmas.{delayed_serves}

one_row : (f : Row → Option Row) (o : Option Row) → filter_map f (option_to_list o) ≡ option_to_list (option_and_then f o)
one_row f None = refl
one_row f (Some x) = one (f x)
  where
    one : (o : Option Row) → cons_option o [] ≡ option_to_list o
    one None = refl
    one (Some y) = refl

length-filter_map : (f : Row → Option Row) (xs : List Row) → length (filter_map f xs) ≤ length xs
length-filter_map f [] = omega arith
length-filter_map f (x ∷ xs) = one (f x) (length-filter_map f xs)
  where
    one : (o : Option Row) → length (filter_map f xs) ≤ length xs → length (cons_option o (filter_map f xs)) ≤ length (x ∷ xs)
    one None h = omega (arith, h)
    one (Some y) h = omega (arith, h)

module _ (step : Row → Option Row) (a : Carried) where
  -- a list and what comes after it, through the step
  grown : (xs ys : List Row) (o : Option Row) → ys ≡ filter_map step xs → ys ++ option_to_list (option_and_then step o) ≡ filter_map step (xs ++ option_to_list o)
  grown xs ys o h = ap (λ l. l ++ option_to_list (option_and_then step o)) h ∙ ap (λ l. filter_map step xs ++ l) (sym (one_row step o)) ∙ sym (filter_map-append step xs (option_to_list o))

  stepped_pending : (c : ℕ) → pending (stepped step a) c ≡ filter_map step (pending a c)
  stepped_pending zero = refl
  stepped_pending (suc c) = next (a.ends c) (grown (pending a c) (pending (stepped step a) c) (a.tuple c) (stepped_pending c))
    where
      next : (e : Bool) → pending (stepped step a) c ++ option_to_list (option_and_then step (a.tuple c)) ≡ filter_map step (pending a c ++ option_to_list (a.tuple c)) → (if e then [] else pending (stepped step a) c ++ option_to_list (option_and_then step (a.tuple c))) ≡ filter_map step (if e then [] else pending a c ++ option_to_list (a.tuple c))
      next true h = refl
      next false h = h

  stepped_stream : (c : ℕ) → stream (stepped step a) c ≡ filter_map step (stream a c)
  stepped_stream c = grown (pending a c) (pending (stepped step a) c) (a.tuple c) (stepped_pending c)

  stepped_rows : (n c : ℕ) → rows (stepped step a) c n ≡ filter_map step (rows a c n)
  stepped_rows zero c = refl
  stepped_rows (suc n) c = rw (stepped_rows n (suc c), filter_map-append step (option_to_list (a.tuple c)) (rows a (suc c) n), one_row step (a.tuple c))

  -- a tuple that comes out came in
  came : (c : ℕ) (r : Row) → option_and_then step (a.tuple c) ≡ Some r → (q : Row) × (a.tuple c ≡ Some q)
  came c r h = one (a.tuple c) h
    where
      one : (o : Option Row) → option_and_then step o ≡ Some r → (q : Row) × (o ≡ Some q)
      one None e = absurd (cc)
      one (Some q) e = (q, refl)

  same_end : (f : Figures) (t c : ℕ) → HasEnd f (stepped step a) t c → HasEnd f a t c
  same_end f t c h = record { is = h.is; low = h.low; high = h.high }

  stepped_fits : (f : Figures) (beats : Beats) → Fits f beats a → Fits f beats (stepped step a)
  stepped_fits f beats fits = record {
    tuples = λ c r h. let q = came c r h in fits.tuples c q.0 q.1;
    ends = λ c h. fits.ends c h;
    few = λ t e h. rw (stepped_rows (suc (last f e) - f.a) (t + f.a)) (omega (arith, length-filter_map step (rows a (t + f.a) (suc (last f e) - f.a)), fits.few t e h));
    end = λ t h. let o = fits.end t h in record {
      at = o.at;
      here = record { is = o.here.is; low = o.here.low; high = o.here.high };
      only = λ c e. o.only c (same_end f t c e);
      after = λ c l e. ap (option_and_then step) (o.after c l e);
    };
  }

  stepped_serves : (f : Figures) → Serves f f (Mapped step) a (stepped step a)
  stepped_serves f = λ beats spaced fits. record {
    fits = stepped_fits f beats fits;
    results = λ t d e h hd he. let o = fits.end t h in
        let same : d ≡ e = o.only d hd ∙ sym (o.only e (same_end f t e he)) in
        subst (λ k. stream (stepped step a) k ≡ filter_map step (stream a d)) same (stepped_stream d);
    later = λ t d e h hd he. let o = fits.end t h in omega (arith, o.only d hd, o.only e (same_end f t e he));
  }

pub steady_serves : (m : ℕ) (step : Row → Option Row) (a b : Carried) (f : Figures) → Steady m step a b → Serves f (delayed m f) (Mapped step) a b
steady_serves m step a b f st = delayed_serves m (stepped step a) b st f f (Mapped step) a (stepped_serves step a f)
