-- A union over two queues serves the interleaving of its inputs, and passes neither queue.
use Rattle.std.proofs.Common.{◌≡◌, ℕ, zero, suc, ◌+◌, ◌-◌, ◌<◌, ◌≤◌, length, Some, None, Bool, true, false, refl, sym, ap, ◌∙◌, subst, arith, inl, inr, ◌⊎◌, length-append}
use Rattle.std.specs.Prelude.{option_to_list, is_some, not, if◌then◌else◌, max}
use Rattle.std.proofs.lemmas.Bool.{cases_lt, false_from_ne_true, or_from}
use Rattle.gl_algebra.specs.declared.figures.Figures.{Figures}
use Rattle.gl_algebra.specs.FigureTable.{IsSound, merged, last_of}
use Rattle.gl_algebra.proofs.FigureLemmas.{last_of-some}
use Rattle.gl_values.specs.Lists.{IsInterleaving}
use Rattle.gl_wire.specs.Beats.{Beats, last, most, Spaced}
use Rattle.gl_wire.specs.Wire.{Carried, stream, rows}
use Rattle.gl_wire.specs.Serves.{HasEnd, Fits, Served2}
use Rattle.gl_wire.specs.Spills.{ServedWithLines2, never2}
use Rattle.gl_queue.specs.Queue.{behind, entries, LowBefore}
use Rattle.gl_queue.specs.Merging.{IsMerging, UnionServes, only_passed}
use Rattle.gl_wire.specs.Sides.{IsOpen, Side}
use Rattle.gl_queue.specs.Phases.{Held, Works, Bounds, Roomy, Quiet}
use Rattle.gl_wire.specs.Laws.{FitsIsSide}
use Rattle.gl_queue.proofs.QueueLemmas.{not_passed}
use Rattle.gl_queue.proofs.PhaseLemmas.{Phase, idle, busy, EndOf, leaving, left_length, starts, Starts, StartsNot, still_open, clear_busy, phase_next}
use Rattle.gl_queue.proofs.FlowLemmas.{OutEnd, few_out, out_caused, end_caused, out_end}
use Rattle.gl_queue.proofs.StreamLemmas.{since, mixed, Ended, ended}

-- while its end waits, a side brings nothing
module _ (k : Bounds) (la lb : Bool → ℕ) (beats : Beats) (h : Held) (a b o : Carried) (sa : Side k.first la k.most_a beats a) (sb : Side k.first lb k.most_b beats b) (in_a : (e : Bool) → la e ≤ k.late e) (in_b : (e : Bool) → lb e ≤ k.late e) (roomy : Roomy k beats) (works : (c : ℕ) → Works h a b o c) (phases : (c : ℕ) → Phase k la lb beats h a b o sa sb in_a in_b roomy c) where
  abbrev Stands : Carried → ℕ → Type 0
  Stands s c = (s.tuple c ≡ None) × (s.ends c ≡ false)

  still : (c : ℕ) → o.ends c ≡ false → (h.wait_a c ≡ true → Stands a c) × (h.wait_b c ≡ true → Stands b c)
  still c stay = by (phases c)
    where
      quiet : Quiet h c → (h.wait_a c ≡ true → Stands a c) × (h.wait_b c ≡ true → Stands b c)
      quiet q = (λ x. absurd (let z = q.a in cc (x, z)), λ x. absurd (let z = q.b in cc (x, z)))

      in_end : (t : ℕ) (e : Bool) → IsOpen k.first beats c t e → IsOpen k.first beats (suc c) t e → EndOf k la lb beats h a b o sa sb in_a in_b roomy c t e → (h.wait_a c ≡ true → Stands a c) × (h.wait_b c ≡ true → Stands b c)
      in_end t false i p q = quiet q
      in_end t true i p (j, inr g) = quiet g.quiet
      in_end t true i p (j, inl w) =
          let x = sa.its_end t j in
          let y = sb.its_end t j in
          let low = i.low in (
            λ v. let l = w.a.no v in (x.after (suc c) c p l (omega arith), false_from_ne_true (a.ends c) (λ q. let e = x.only (suc c) c p (omega (arith, low)) (omega arith) q in omega (arith, e, l))),
            λ v. let l = w.b.no v in (y.after (suc c) c p l (omega arith), false_from_ne_true (b.ends c) (λ q. let e = y.only (suc c) c p (omega (arith, low)) (omega arith) q in omega (arith, e, l))),
          )

      by : Phase k la lb beats h a b o sa sb in_a in_b roomy c → (h.wait_a c ≡ true → Stands a c) × (h.wait_b c ≡ true → Stands b c)
      by (idle y) = quiet y.quiet
      by (busy t e y) = go (starts k la lb beats h a b o sa sb in_a in_b roomy c)
        where
          go : Starts k la lb beats h a b o sa sb in_a in_b roomy c ⊎ StartsNot k la lb beats h a b o sa sb in_a in_b roomy c → (h.wait_a c ≡ true → Stands a c) × (h.wait_b c ≡ true → Stands b c)
          go (inl s) = let z = clear_busy k la lb beats h a b o sa sb in_a in_b roomy c (works c) t s.0 e s.1 s.2 s.3 y in
              (λ v. absurd (let x = z.a v in cc (x, stay)), λ v. absurd (let x = z.b v in cc (x, stay)))
          go (inr n) = in_end t e y.open_beat (still_open k la lb beats h a b o sa sb in_a in_b roomy c t e y.open_beat n) y.ended

module _ (fits_side : FitsIsSide) (p q : Figures) (passed : ℕ → Bool) (a b o : Carried) (sound_p : IsSound p) (sound_q : IsSound q) (same : p.a ≡ q.a) (m : IsMerging p.ne q.ne passed a b o) (beats : Beats) (spaced : Spaced (merged p q) beats) (fits_a : Fits p beats a) (fits_b : Fits q beats b) where
  abbrev bounds : Bounds
  bounds = record { first = p.a; late = λ e. max (last p e) (last q e); most_a = most p; most_b = most q }

  abbrev lists : Held
  lists = record { left = entries a.tuple (λ c. true); right = entries b.tuple (λ c. not (is_some (m.left c))); wait_a = m.wait_a; wait_b = m.wait_b }

  side_a : Side p.a (last p) (most p) beats a
  side_a = fits_side p (merged p q) beats a sound_p (record { gt = omega arith; ge = omega arith }) spaced fits_a

  side_b : Side p.a (last q) (most q) beats b
  side_b = subst (λ n. Side n (last q) (most q) beats b) (sym same) (fits_side q (merged p q) beats b sound_q (record { gt = omega arith; ge = omega arith }) spaced fits_b)

  in_a : (e : Bool) → last p e ≤ max (last p e) (last q e)
  in_a e = omega arith

  in_b : (e : Bool) → last q e ≤ max (last p e) (last q e)
  in_b e = omega arith

  low_of : (e : Bool) → p.a ≤ max (last p e) (last q e)
  low_of true = omega (arith, sound_p.tuples_last, sound_p.end_last)
  low_of false = omega (arith, sound_p.tuples_last)

  late_of : (t u : ℕ) (e d : Bool) → beats t ≡ Some e → beats u ≡ Some d → t < u → t + max (last p e) (last q e) < u + p.a
  late_of t u true d i j l = let far = spaced.apart t u true d i j l in omega (arith, far, sound_p.end_gap, sound_q.end_gap, sound_p.tuples_last, sound_p.end_last, same)
  late_of t u false d i j l = let far = spaced.apart t u false d i j l in omega (arith, far, sound_p.tuples_gap, sound_q.tuples_gap, sound_p.tuples_last, same)

  ends_of : (t u : ℕ) (d : Bool) → beats t ≡ Some true → beats u ≡ Some d → t < u → t + max p.le q.le + (p.ne + q.ne) + 1 ≤ u + p.a
  ends_of t u d i j l = let far = spaced.apart t u true d i j l in omega (arith, far, sound_p.tuples_last, sound_p.end_last)

  rows_of : (t u : ℕ) (e d : Bool) → beats t ≡ Some e → beats u ≡ Some d → t < u → t + max (last p e) (last q e) + (most p e + most q e) ≤ u + p.a
  rows_of t u true d i j l = let far = ends_of t u d i j l in omega (arith, far)
  rows_of t u false d i j l = elim (cases_lt 0 (p.nt + q.nt)) [
    | inl n ↦ (let far = spaced.apart t u false d i j l in let z = last_of-some (p.nt + q.nt) (p.a + 1) (max p.lt q.lt + p.nt + q.nt) (omega (arith, n)) in omega (arith, far, z, sound_p.tuples_last))
    | inr n ↦ (let far = late_of t u false d i j l in omega (arith, far, n))
  ]

  roomy : Roomy bounds beats
  roomy = record { low = low_of; late = late_of; rows = rows_of; ends = ends_of }

  abbrev At : ℕ → Type 0
  At c = Phase bounds (last p) (last q) beats lists a b o side_a side_b in_a in_b roomy c

  -- as long as neither queue was passed, the union works
  works : (c : ℕ) → LowBefore m.passed_a c → LowBefore m.passed_b c → Works lists a b o c
  works c low_a low_b =
      let l = m.queue_a.shows c low_a in
      let r = m.queue_b.shows c low_b in
      record {
        out = m.out c ∙ (rw (l, r) refl);
        leaves = m.leaves c ∙ (rw (l, r) refl);
        left = refl;
        right = rw l refl;
        wait_a = m.next_a c;
        wait_b = m.next_b c;
      }

  fits_most : (e : Bool) → (most p e ≤ p.ne) × (most q e ≤ q.ne)
  fits_most true = (omega arith, omega arith)
  fits_most false = (sound_p.tuples, sound_q.tuples)

  small : (c : ℕ) → At c → (length (lists.left c) ≤ p.ne) × (length (lists.right c) ≤ q.ne)
  small c (idle y) = (omega (arith, ap length y.left), omega (arith, ap length y.right))
  small c (busy t e y) =
      let low = y.open_beat.low in
      let x = side_a.fewer c t (c - (t + p.a)) e y.open_beat (omega (arith, low)) in
      let z = side_b.fewer c t (c - (t + p.a)) e y.open_beat (omega (arith, low)) in
      let v = fits_most e in
      (let l = y.left in omega (arith, x, l, v.0), let r = y.right in omega (arith, z, r, v.1))

  record Reached (c : ℕ) : Type 0 where
    low_a : LowBefore m.passed_a c
    low_b : LowBefore m.passed_b c
    phase : At c

  more_low : (line : ℕ → Bool) (c : ℕ) → LowBefore line c → line c ≡ false → LowBefore line (suc c)
  more_low line c h e d l = elim (cases_lt d c) [ inl n ↦ h d n | inr n ↦ (let z : d ≡ c = omega (arith, n, l) in ap line z ∙ e) ]

  reached : (c : ℕ) → Reached c
  reached zero = record {
    low_a = λ d l. absurd (omega (arith, l));
    low_b = λ d l. absurd (omega (arith, l));
    phase = idle (record { idle = λ u d i. omega arith; left = refl; right = refl; quiet = record { a = m.first_a; b = m.first_b } });
  }
  reached (suc c) =
      let r = reached c in
      let w = works c r.low_a r.low_b in
      let next = phase_next bounds (last p) (last q) beats lists a b o side_a side_b in_a in_b roomy c w r.phase in
      let fit = small (suc c) next in
      let off_a = not_passed p.ne (a.tuple c) (lists.left c) true (omega (arith, left_length lists a b o c w, fit.0)) in
      let off_b = not_passed q.ne (b.tuple c) (lists.right c) (not (is_some (m.left c))) (omega (arith, length-append (if not (is_some (m.left c)) then behind (lists.right c) else lists.right c) (option_to_list (b.tuple c)), fit.1)) in
      record {
        low_a = more_low m.passed_a c r.low_a (m.queue_a.tells c r.low_a ∙ off_a);
        low_b = more_low m.passed_b c r.low_b (m.queue_b.tells c r.low_b ∙ off_b);
        phase = next;
      }

  all_works : (c : ℕ) → Works lists a b o c
  all_works c = let r = reached c in works c r.low_a r.low_b

  phases : (c : ℕ) → At c
  phases c = (reached c).phase

  out_high : (e : Bool) (t c : ℕ) → c ≤ t + max (last p e) (last q e) + (most p e + most q e) → 1 ≤ most p e + most q e → c ≤ t + last (merged p q) e
  out_high true t c l n = omega (arith, l)
  out_high false t c l n = let z = last_of-some (p.nt + q.nt) (p.a + 1) (max p.lt q.lt + p.nt + q.nt) n in omega (arith, l, z)

  few_of : (t : ℕ) (e : Bool) → beats t ≡ Some e → length (rows o (t + (p.a + 1)) (suc (last (merged p q) e) - (p.a + 1))) ≤ most (merged p q) e
  few_of t true i =
      let n : suc (max p.le q.le + p.ne + q.ne + 1) - (p.a + 1) ≡ suc (max p.le q.le + p.ne + q.ne + 1 - (p.a + 1)) = omega (arith, sound_p.tuples_last, sound_p.end_last) in
      let at : t + (p.a + 1) ≡ suc (t + p.a) = omega arith in
      let opened : IsOpen p.a beats (t + p.a + suc (max p.le q.le + p.ne + q.ne + 1 - (p.a + 1))) t true = record { is = i; low = omega arith; later = λ u d j l. let far = ends_of t u d i j l in omega (arith, far, sound_p.tuples_last, sound_p.end_last) } in
      rw (at, n) (few_out bounds (last p) (last q) beats lists a b o side_a side_b in_a in_b roomy all_works phases t (max p.le q.le + p.ne + q.ne + 1 - (p.a + 1)) true opened)
  few_of t false i = elim (cases_lt 0 (p.nt + q.nt)) [
    | inl m ↦ (let z = last_of-some (p.nt + q.nt) (p.a + 1) (max p.lt q.lt + p.nt + q.nt) (omega (arith, m)) in
        let n : suc (max p.lt q.lt + p.nt + q.nt) - (p.a + 1) ≡ suc (max p.lt q.lt + p.nt + q.nt - (p.a + 1)) = omega (arith, sound_p.tuples_last, m) in
        let at : t + (p.a + 1) ≡ suc (t + p.a) = omega arith in
        let opened : IsOpen p.a beats (t + p.a + suc (max p.lt q.lt + p.nt + q.nt - (p.a + 1))) t false = record { is = i; low = omega arith; later = λ u d j l. let far = rows_of t u false d i j l in omega (arith, far, sound_p.tuples_last, m) } in
        rw (at, z, n) (few_out bounds (last p) (last q) beats lists a b o side_a side_b in_a in_b roomy all_works phases t (max p.lt q.lt + p.nt + q.nt - (p.a + 1)) false opened))
    | inr m ↦ (let none : p.nt + q.nt ≡ 0 = omega (arith, m) in
        let z : last_of (p.nt + q.nt) (p.a + 1) (max p.lt q.lt + p.nt + q.nt) ≡ p.a + 1 = ap (λ v. last_of v (p.a + 1) (max p.lt q.lt + p.nt + q.nt)) none in
        let n : suc (p.a + 1) - (p.a + 1) ≡ suc 0 = omega arith in
        let at : t + (p.a + 1) ≡ suc (t + p.a) = omega arith in
        let opened : IsOpen p.a beats (t + p.a + suc 0) t false = record { is = i; low = omega arith; later = λ u d j l. omega (arith, l) } in
        rw (at, z, n) (few_out bounds (last p) (last q) beats lists a b o side_a side_b in_a in_b roomy all_works phases t 0 false opened))
  ]

  its_out : (t : ℕ) → beats t ≡ Some true → (j : beats t ≡ Some true) × OutEnd bounds o t (side_a.its_end t j).at (side_b.its_end t j).at
  its_out = out_end bounds (last p) (last q) beats lists a b o side_a side_b in_a in_b roomy all_works phases

  fits_o : Fits (merged p q) beats o
  fits_o = record {
    tuples = λ c r h. let x = out_caused bounds (last p) (last q) beats lists a b o side_a side_b in_a in_b roomy all_works phases c r h in
        record { beat = x.0; end = x.1; is = x.2; low = (let l = x.3 in omega (arith, l)); high = out_high x.1 x.0 c x.4 x.5 };
    ends = λ c h. let x = end_caused bounds (last p) (last q) beats lists a b o side_a side_b in_a in_b roomy all_works phases c h in
        record { beat = x.0; is = x.1; low = (let l = x.2 in omega (arith, l)); high = (let l = x.3 in omega (arith, l)) };
    few = few_of;
    end = λ t h. let z = (its_out t h).1 in record {
      at = z.at;
      here = record { is = z.ends; low = (let l = z.low in omega (arith, l)); high = (let l = z.high in omega (arith, l)) };
      only = λ c e. z.only c (let l = e.low in omega (arith, l)) (let l = e.high in omega (arith, l)) e.is;
      after = λ c l n. z.after c l (omega (arith, n));
    };
  }

  opened : (t : ℕ) → beats t ≡ Some true → IsOpen p.a beats (t + max p.le q.le + (p.ne + q.ne) + 1) t true
  opened t i = record { is = i; low = omega (arith, low_of true); later = λ u d j l. ends_of t u d i j l }

  -- the stream that waited is that of the beat's own end
  its_stream : (s : Carried) (last' : Bool → ℕ) (most' : Bool → ℕ) (side : Side p.a last' most' beats s) (t : ℕ) (i j : beats t ≡ Some true) (d e : ℕ) → s.ends d ≡ true → t + p.a ≤ d → d < t + max p.le q.le + (p.ne + q.ne) + 1 → e ≤ t + max p.le q.le + (p.ne + q.ne) + 1 → (side.its_end t j).at < e → Ended s o.ends e → since s o.ends e ≡ stream s d
  its_stream s last' most' side t i j d e is low high l before x =
      let z = side.its_end t j in
      let mine : d ≡ z.at = z.only (t + max p.le q.le + (p.ne + q.ne) + 1) d (opened t i) low high is in
      let after : z.at ≤ x.at = elim (cases_lt x.at z.at) [ inl n ↦ absurd (let f = x.none z.at n before in let g = z.ends in cc (f, g)) | inr n ↦ n ] in
      let first = z.low in
      let still_before = x.before in
      let his : x.at ≡ z.at = z.only (t + max p.le q.le + (p.ne + q.ne) + 1) x.at (opened t i) (omega (arith, first, after)) (omega (arith, still_before, l)) x.ends in
      x.is ∙ ap (stream s) (his ∙ sym mine)

  ended_a : (c : ℕ) → o.ends c ≡ true → Ended a o.ends c
  ended_a = ended a m.wait_a o.ends m.first_a m.next_a (λ c l. (leaving lists a b o c (all_works c) l).a) (λ c w l. (still bounds (last p) (last q) beats lists a b o side_a side_b in_a in_b roomy all_works phases c l).0 w)

  ended_b : (c : ℕ) → o.ends c ≡ true → Ended b o.ends c
  ended_b = ended b m.wait_b o.ends m.first_b m.next_b (λ c l. (leaving lists a b o c (all_works c) l).b) (λ c w l. (still bounds (last p) (last q) beats lists a b o side_a side_b in_a in_b roomy all_works phases c l).1 w)

  results : (t d e z : ℕ) → beats t ≡ Some true → HasEnd p a t d → HasEnd q b t e → HasEnd (merged p q) o t z → IsInterleaving (stream a d) (stream b e) (stream o z)
  results t d e z i ha hb ho =
      let x = its_out t i in
      let low_a = ha.low in
      let low_b = hb.low in
      let low = ho.low in
      let high_a = ha.high in
      let high_b = hb.high in
      let high = ho.high in
      let same_at : z ≡ x.1.at = x.1.only z (omega (arith, low)) (omega (arith, high)) ho.is in
      let by_a = x.1.after_a in
      let by_b = x.1.after_b in
      let sa = its_stream a (last p) (most p) side_a t i x.0 d z ha.is low_a (omega (arith, high_a)) (omega (arith, high)) (omega (arith, by_a, same_at)) (ended_a z ho.is) in
      let sb = its_stream b (last q) (most q) side_b t i x.0 e z hb.is (omega (arith, low_b, same)) (omega (arith, high_b)) (omega (arith, high)) (omega (arith, by_b, same_at)) (ended_b z ho.is) in
      let all : IsInterleaving (since a o.ends z) (since b o.ends z) (stream o z) = mixed lists a b o all_works refl refl z ho.is in
      subst (λ v. IsInterleaving (stream a d) v (stream o z)) sb (subst (λ v. IsInterleaving v (since b o.ends z) (stream o z)) sa all)

  its_later : (s : Carried) (last' : Bool → ℕ) (most' : Bool → ℕ) (side : Side p.a last' most' beats s) (t : ℕ) (i j : beats t ≡ Some true) (d z : ℕ) → s.ends d ≡ true → t + p.a ≤ d → d < t + max p.le q.le + (p.ne + q.ne) + 1 → (side.its_end t j).at < z → d ≤ z
  its_later s last' most' side t i j d z is low high before =
      let v = side.its_end t j in
      let mine : d ≡ v.at = v.only (t + max p.le q.le + (p.ne + q.ne) + 1) d (opened t i) low high is in
      omega (arith, mine, before)

  served : Served2 p q (merged p q) (λ t xs ys zs. never2 IsInterleaving xs ys zs false) beats a b o
  served = record {
    fits = fits_o;
    results = λ t d e z i ha hb ho. (results t d e z i ha hb ho, refl);
    later = λ t d z i ha ho.
        let x = its_out t i in
        let low = ho.low in
        let high = ho.high in
        let high_a = ha.high in
        let same_at : z ≡ x.1.at = x.1.only z (omega (arith, low)) (omega (arith, high)) ho.is in
        let by_a = x.1.after_a in
        its_later a (last p) (most p) side_a t i x.0 d z ha.is ha.low (omega (arith, high_a)) (omega (arith, by_a, same_at));
    later2 = λ t e z i hb ho.
        let x = its_out t i in
        let low = ho.low in
        let high = ho.high in
        let low_b = hb.low in
        let high_b = hb.high in
        let same_at : z ≡ x.1.at = x.1.only z (omega (arith, low)) (omega (arith, high)) ho.is in
        let by_b = x.1.after_b in
        its_later b (last q) (most q) side_b t i x.0 e z hb.is (omega (arith, low_b, same)) (omega (arith, high_b)) (omega (arith, by_b, same_at));
  }

  all_low : (c : ℕ) → passed c ≡ false
  all_low c = let r = reached (suc c) in m.tells c ∙ or_from (m.passed_a c) (m.passed_b c) (r.low_a c (omega arith)) (r.low_b c (omega arith))

  with_lines : ServedWithLines2 p q (merged p q) (never2 IsInterleaving) (only_passed passed) beats a b o
  with_lines = record {
    spill = λ t. false;
    served = served;
    low = all_low;
    told = λ ends t i s. absurd (cc s);
    so = λ ends c f. absurd (cc f);
    late = λ ends c f. absurd (cc f);
  }

-- the union's theorem
pub union_serves : FitsIsSide → UnionServes
union_serves fits_side p q passed a b o sound_p sound_q same m beats spaced fits_a fits_b none = with_lines fits_side p q passed a b o sound_p sound_q same m beats spaced fits_a fits_b
