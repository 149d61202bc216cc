-- A wire that gives for each row what is made of its stream so far serves that.
use Rattle.std.proofs.Common.{◌≡◌, ℕ, zero, suc, ◌+◌, ◌-◌, ◌≤◌, List, [], ◌∷◌, ◌++◌, length, Option, Some, None, Bool, true, false, refl, sym, ap, ◌∙◌, subst, arith}
use Rattle.std.specs.Prelude.{is_some, option_and_then, option_to_list, if◌then◌else◌}
use Rattle.std.proofs.lemmas.List.{append-nil, length-append}
use Rattle.gl_algebra.specs.declared.figures.Figures.{Figures}
use Rattle.gl_algebra.specs.FigureTable.{delayed}
use Rattle.gl_values.specs.Results.{Row}
use Rattle.gl_wire.specs.Beats.{Beats, last}
use Rattle.gl_wire.specs.Wire.{Carried, pending, stream, rows}
use Rattle.gl_wire.specs.Serves.{HasEnd, Fits, Serves}
use Rattle.gl_wire.proofs.DelayLemmas.{delayed_serves}
use Rattle.gl_wire.proofs.SettledLemmas.{settled_serves}
use Rattle.gl_frames.specs.Frames.{each_of}
use Rattle.gl_frames.proofs.ListLemmas.{each_more}
use Rattle.gl_frames_wire.specs.Laws.{RunningKeepsPace, RunningServes, RunningSettles}
use Rattle.gl_frames_wire.specs.Running.{Each, running}

module _ (f : List Row → Option Row) (a : Carried) where
  -- a list and what comes after it
  grown : (xs ys : List Row) (o : Option Row) → ys ≡ each_of f [] xs → ys ++ option_to_list (option_and_then (λ row. f (xs ++ option_to_list o)) o) ≡ each_of f [] (xs ++ option_to_list o)
  grown xs ys None h = append-nil ys ∙ h ∙ sym (ap (each_of f []) (append-nil xs))
  grown xs ys (Some x) h = ap (λ l. l ++ option_to_list (f (xs ++ x ∷ []))) h ∙ sym (each_more f [] xs x)

  running_pending : (c : ℕ) → pending (running f a) c ≡ each_of f [] (pending a c)
  running_pending zero = refl
  running_pending (suc c) = next (a.ends c) (grown (pending a c) (pending (running f a) c) (a.tuple c) (running_pending c))
    where
      next : (e : Bool) → pending (running f a) c ++ option_to_list ((running f a).tuple c) ≡ each_of f [] (pending a c ++ option_to_list (a.tuple c))
          → (if e then [] else pending (running f a) c ++ option_to_list ((running f a).tuple c)) ≡ each_of f [] (if e then [] else pending a c ++ option_to_list (a.tuple c))
      next true h = refl
      next false h = h

  pub running_stream : (c : ℕ) → stream (running f a) c ≡ each_of f [] (stream a c)
  running_stream c = grown (pending a c) (pending (running f a) c) (a.tuple c) (running_pending c)

  one_fewer : (g : Row → Option Row) (o : Option Row) → length (option_to_list (option_and_then g o)) ≤ length (option_to_list o)
  one_fewer g None = omega arith
  one_fewer g (Some x) = one (g x)
    where
      one : (o : Option Row) → length (option_to_list o) ≤ length (x ∷ [])
      one None = omega arith
      one (Some y) = omega arith

  fewer : (n c : ℕ) → length (rows (running f a) c n) ≤ length (rows a c n)
  fewer zero c = omega arith
  fewer (suc n) c =
      let x = length-append (option_to_list ((running f a).tuple c)) (rows (running f a) (suc c) n) in
      let y = length-append (option_to_list (a.tuple c)) (rows a (suc c) n) in
      omega (arith, x, y, one_fewer (λ row. f (stream a c)) (a.tuple c), fewer n (suc c))

  -- a tuple that comes out came in
  came : (c : ℕ) (r : Row) → (running f a).tuple c ≡ Some r → (q : Row) × (a.tuple c ≡ Some q)
  came c r h = one (a.tuple c) h
    where
      one : (o : Option Row) → option_and_then (λ row. f (stream a c)) o ≡ Some r → (q : Row) × (o ≡ Some q)
      one None e = absurd (cc)
      one (Some q) e = (q, refl)

  same_end : (g : Figures) (t c : ℕ) → HasEnd g (running f a) t c → HasEnd g a t c
  same_end g t c h = record { is = h.is; low = h.low; high = h.high }

  running_fits : (g : Figures) (beats : Beats) → Fits g beats a → Fits g beats (running f a)
  running_fits g beats fits = record {
    tuples = λ c r h. let q = came c r h in fits.tuples c q.0 q.1;
    ends = λ c h. fits.ends c h;
    few = λ t e h. omega (arith, fewer (suc (last g e) - g.a) (t + g.a), fits.few t e h);
    end = λ t h. let o = fits.end t h in record {
      at = o.at;
      here = record { is = o.here.is; low = o.here.low; high = o.here.high };
      only = λ c e. o.only c (same_end g t c e);
      after = λ c l e. ap (option_and_then (λ row. f (stream a c))) (o.after c l e);
    };
  }

  running_serves : (g : Figures) → Serves g g (Each f) a (running f a)
  running_serves g = λ beats spaced fits. record {
    fits = running_fits g beats fits;
    results = λ t d e h hd he. let o = fits.end t h in
        let same : d ≡ e = o.only d hd ∙ sym (o.only e (same_end g t e he)) in
        subst (λ k. stream (running f a) k ≡ each_of f [] (stream a d)) same (running_stream d);
    later = λ t d e h hd he. let o = fits.end t h in omega (arith, o.only d hd, o.only e (same_end g t e he));
  }

pub run_serves : RunningServes
run_serves m f a b g r = delayed_serves m (running f a) b r g g (Each f) a (running_serves f a g)

pub run_settles : RunningSettles
run_settles m f a b g sound r = settled_serves g (delayed m g) (Each f) a b sound (run_serves m f a b g r)

-- where no row is left out the rows keep the source's pace
pub run_paces : RunningKeepsPace
run_paces m g a b r = record {
  before = λ c l. ap is_some (r.before c l);
  no_end = r.no_end;
  tuples = λ c. ap is_some (r.tuples c) ∙ same (λ row. g (stream a c)) (a.tuple c);
  ends = r.ends;
}
  where
    same : (h : Row → Row) (o : Option Row) → is_some (option_and_then (λ row. Some (h row)) o) ≡ is_some o
    same h None = refl
    same h (Some y) = refl
