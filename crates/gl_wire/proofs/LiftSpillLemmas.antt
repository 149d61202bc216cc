-- The visits of copies that may spill: each copy serves over the beats of its own input.
use Rattle.std.proofs.Common.{◌≡◌, ℕ, ◌<◌, Option, Some, None, Bool, true, false, refl, sym, ap, ◌∙◌, subst, arith}
use Rattle.std.specs.Coded.{le_prop}
use Rattle.gl_algebra.specs.declared.figures.Figures.{Figures}
use Rattle.gl_algebra.specs.FigureTable.{IsSound, input_figures}
use Rattle.gl_wire.specs.Wire.{Carried, stream}
use Rattle.gl_wire.specs.Serves.{Served}
use Rattle.gl_wire.specs.Beats.{beats_of}
use Rattle.gl_wire.specs.Serving.{Serving}
use Rattle.gl_wire.specs.Spills.{Relation, Lines}
use Rattle.gl_wire.specs.Lift.{Visits, Schedules, LiftedWithLines}
use Rattle.gl_wire.proofs.LiftLemmas.{lift, beat_end}

module _ (f : Figures) (m : ℕ → Relation) (count : ℕ) (who : Visits) (lines : ℕ → Lines) (ins outs : ℕ → Carried) (sound : IsSound f) (closing : f.nt ≡ 0) (sch : Schedules f count who ins) (served : (k : ℕ) → k < count → Serving f (λ t. m t (stream (ins k) t)) (lines k) (beats_of (ins k)) (outs k)) where
  abbrev pick : (u : ℕ) (o : Option ℕ) → who u ≡ o → Bool
  pick u None e = false
  pick u (Some k) e = (served k (sch.copies u k e)).spill u

  pick_at : (u k : ℕ) (l : k < count) (o : Option ℕ) (e : who u ≡ o) → o ≡ Some k → pick u o e ≡ (served k l).spill u
  pick_at u k l None e h = absurd (cc)
  pick_at u k l (Some j) e h =
      let same : k ≡ j = cc in
      subst (λ i. (p : i < count) → (served i p).spill u ≡ (served k l).spill u) same (λ p. ap (λ x. (served k x).spill u) (le_prop p l)) (sch.copies u j e)

  body : (k : ℕ) → k < count → Served input_figures f (λ t xs ys. who t ≡ Some k → m t xs ys (pick t (who t) refl)) (beats_of (ins k)) (ins k) (outs k)
  body k l = record {
    fits = (served k l).fits;
    later = λ t d e h hd he. omega (arith, hd.high, he.low);
    results = λ t d e h hd he w.
        let same : t ≡ d = omega (arith, hd.low, hd.high) in
        subst (λ i. m t (stream (ins k) i) (stream (outs k) e) (pick t (who t) refl)) same (subst (m t (stream (ins k) t) (stream (outs k) e)) (sym (pick_at t k l (who t) refl w)) ((served k l).right t e h he));
  }

  beat_of : (u k : ℕ) → who u ≡ Some k → beats_of (ins k) u ≡ Some true
  beat_of u k h = let e = sch.ends u k h in rw e refl

  visit_of : (k : ℕ) → k < count → (t : ℕ) → beats_of (ins k) t ≡ Some true → who t ≡ Some k
  visit_of k l t h = sch.no_other t k l (beat_end f (λ t xs ys. m t xs ys (pick t (who t) refl)) count who ins outs sound closing sch body k t h)

  pub lift_spills : LiftedWithLines f m count who lines ins outs
  lift_spills = record {
    spill = λ u. pick u (who u) refl;
    lifted = lift f _ count who ins outs sound closing sch body;
    told = λ en u k h s. let l = sch.copies u k h in
        let x = (served k l).told (en k l) u (beat_of u k h) (sym (pick_at u k l (who u) refl h) ∙ s) in
        (k, x.0, l, x.1);
    so = λ en k c l h. let x = (served k l).so (en k l) c h in
        let w = visit_of k l x.0 x.1 in
        (x.0, w, pick_at x.0 k l (who x.0) refl w ∙ x.2);
    low = λ k c l. (served k l).low c;
    late = λ en k c l h.
        let x = (served k l).late (en k l) c h in
        let q = (served k l).fits.ends x.0 x.2 in
        (q.beat, visit_of k l q.beat q.is, omega (arith, x.1, q.high));
  }
