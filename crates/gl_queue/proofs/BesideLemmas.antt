-- Two sides that come a fixed time after their beats, side by side in the same cycle.
use Rattle.std.proofs.Common.{◌≡◌, ℕ, zero, suc, ◌+◌, ◌-◌, ◌≤◌, List, [], ◌∷◌, ◌++◌, length, Option, Some, None, Bool, true, false, refl, sym, ap, ◌∙◌, arith, length-append}
use Rattle.std.specs.Prelude.{option_to_list, is_some, if◌then◌else◌, nat_eq}
use Rattle.std.proofs.lemmas.Bool.{eqb-true}
use Rattle.std.proofs.lemmas.List.{append-nil}
use Rattle.gl_bits.proofs.Bools.{and_left, and_right}
use Rattle.gl_values.specs.Results.{Row, AreBeside, beside}
use Rattle.gl_algebra.specs.declared.figures.Figures.{Figures}
use Rattle.gl_algebra.specs.FigureTable.{in_step, is_fixed}
use Rattle.gl_wire.specs.Beats.{Beats, last, most}
use Rattle.gl_wire.specs.Pace.{SameCycles}
use Rattle.gl_wire.specs.Serves.{Fits}
use Rattle.gl_wire.specs.Spills.{ServedWithLines2, ServesWhen2, never2, no_lines}
use Rattle.gl_wire.specs.Wire.{Carried, pending, stream, rows}
use Rattle.gl_queue.specs.Joining.{IsBeside}

-- one more on each side
pairs-push : (xs ys : List Row) (r q : Row) → length xs ≡ length ys → beside (xs ++ (r ∷ [])) (ys ++ (q ∷ [])) ≡ beside xs ys ++ ((r ++ q) ∷ [])
pairs-push [] [] r q h = refl
pairs-push [] (y ∷ ys) r q h = absurd (omega (arith, h))
pairs-push (x ∷ xs) [] r q h = absurd (omega (arith, h))
pairs-push (x ∷ xs) (y ∷ ys) r q h = ap (λ l. (x ++ y) ∷ l) (pairs-push xs ys r q (omega (arith, h)))

module _ (a b o : Carried) (m : IsBeside a b o) (in_step' : (c : ℕ) → is_some (a.tuple c) ≡ is_some (b.tuple c)) where
  -- in each cycle, nothing or a pair
  data Now (c : ℕ) : Type 0 where
    none : a.tuple c ≡ None → b.tuple c ≡ None → o.tuple c ≡ None → Now c
    both : (r q : Row) → a.tuple c ≡ Some r → b.tuple c ≡ Some q → o.tuple c ≡ Some (r ++ q) → Now c

  now : (c : ℕ) → Now c
  now c = by (a.tuple c) (b.tuple c) refl refl
    where
      by : (x y : Option Row) → a.tuple c ≡ x → b.tuple c ≡ y → Now c
      by None None p q = none p q (m.none c p)
      by None (Some r) p q = absurd (let z : false ≡ true = sym (ap is_some p) ∙ in_step' c ∙ ap is_some q in cc z)
      by (Some r) None p q = absurd (let z : true ≡ false = sym (ap is_some p) ∙ in_step' c ∙ ap is_some q in cc z)
      by (Some r) (Some v) p q = both r v p q (m.both c r v p q)

  same_length : (n c : ℕ) → length (rows o c n) ≡ length (rows a c n)
  same_length zero c = refl
  same_length (suc n) c = by (now c) (same_length n (suc c))
    where
      by : Now c → length (rows o (suc c) n) ≡ length (rows a (suc c) n) → length (option_to_list (o.tuple c) ++ rows o (suc c) n) ≡ length (option_to_list (a.tuple c) ++ rows a (suc c) n)
      by (none p q r) z = rw (p, r) z
      by (both x y p q r) z = rw (p, r) (omega (arith, z))

  -- as far as they have come, the streams are paired
  record Paired (xs ys zs : List Row) : Type 0 where
    long : length xs ≡ length ys
    is : zs ≡ beside xs ys

  paired_next : (c : ℕ) → Now c → (xs ys zs : List Row) → Paired xs ys zs → Paired (xs ++ option_to_list (a.tuple c)) (ys ++ option_to_list (b.tuple c)) (zs ++ option_to_list (o.tuple c))
  paired_next c (none p q r) xs ys zs h = rw (p, q, r, append-nil xs, append-nil ys, append-nil zs) h
  paired_next c (both x y p q r) xs ys zs h =
      let long = h.long in
      rw (p, q, r) (record {
        long = omega (arith, long, length-append xs (x ∷ []), length-append ys (y ∷ []));
        is = ap (λ l. l ++ ((x ++ y) ∷ [])) h.is ∙ sym (pairs-push xs ys x y long);
      })

  module _ (same_ends : (c : ℕ) → a.ends c ≡ b.ends c) where
    paired : (c : ℕ) → Paired (pending a c) (pending b c) (pending o c)
    paired zero = record { long = refl; is = refl }
    paired (suc c) = by (a.ends c) refl (paired_next c (now c) (pending a c) (pending b c) (pending o c) (paired c))
      where
        by : (e : Bool) → a.ends c ≡ e → Paired (stream a c) (stream b c) (stream o c) → Paired (if a.ends c then [] else stream a c) (if b.ends c then [] else stream b c) (if o.ends c then [] else stream o c)
        by true p h = let q : b.ends c ≡ true = sym (same_ends c) ∙ p in let r : o.ends c ≡ true = m.ends c ∙ p in rw (p, q, r) (record { long = refl; is = refl })
        by false p h = let q : b.ends c ≡ false = sym (same_ends c) ∙ p in let r : o.ends c ≡ false = m.ends c ∙ p in rw (p, q, r) h

    beside_at : (c : ℕ) → AreBeside (stream a c) (stream b c) (stream o c)
    beside_at c = let h = paired_next c (now c) (pending a c) (pending b c) (pending o c) (paired c) in record { paired = h.long; rows = h.is }

module _ (p q : Figures) (a b o : Carried) (pt : p.a ≡ p.lt) (pe : p.lt ≡ p.le) (qt : q.a ≡ q.lt) (qe : q.lt ≡ q.le) (same : p.a ≡ q.a) (m : IsBeside a b o) (beats : Beats) (fits_a : Fits p beats a) (fits_b : Fits q beats b) (steps : SameCycles beats a b) where
  same_ends : (c : ℕ) → a.ends c ≡ b.ends c
  same_ends c = by (a.ends c) (b.ends c) refl refl
    where
      by : (x y : Bool) → a.ends c ≡ x → b.ends c ≡ y → a.ends c ≡ b.ends c
      by true true h k = h ∙ sym k
      by false false h k = h ∙ sym k
      by true false h k =
          let z = fits_a.ends c h in
          let low = z.low in
          let high = z.high in
          let y = fits_b.end z.beat z.is in
          let l = y.here.low in
          let u = y.here.high in
          let e : y.at ≡ c = omega (arith, low, high, l, u, pt, pe, qt, qe, same) in
          let w : b.ends c ≡ true = ap b.ends (sym e) ∙ y.here.is in
          h ∙ sym w
      by false true h k =
          let z = fits_b.ends c k in
          let low = z.low in
          let high = z.high in
          let y = fits_a.end z.beat z.is in
          let l = y.here.low in
          let u = y.here.high in
          let e : y.at ≡ c = omega (arith, low, high, l, u, pt, pe, qt, qe, same) in
          let w : a.ends c ≡ true = ap a.ends (sym e) ∙ y.here.is in
          w ∙ sym k

  last_p : (e : Bool) → last p e ≡ p.a
  last_p true = omega (arith, pt, pe)
  last_p false = omega (arith, pt)

  last_o : (e : Bool) → last (in_step p q) e ≡ p.a
  last_o true = refl
  last_o false = refl

  most_o : (e : Bool) → most (in_step p q) e ≡ most p e
  most_o true = refl
  most_o false = refl

  came : (c : ℕ) (r : Row) → o.tuple c ≡ Some r → (v : Row) × (a.tuple c ≡ Some v)
  came c r h = by (a.tuple c) refl
    where
      by : (x : Option Row) → a.tuple c ≡ x → (v : Row) × (a.tuple c ≡ Some v)
      by None e = absurd (let z = m.none c e in cc (z, h))
      by (Some v) e = (v, e)

  fits_o : Fits (in_step p q) beats o
  fits_o = record {
    tuples = λ c r h. let v = came c r h in let z = fits_a.tuples c v.0 v.1 in
        record { beat = z.beat; end = z.end; is = z.is; low = z.low; high = (let u = z.high in omega (arith, u, last_p z.end, last_o z.end)) };
    ends = λ c h. let z = fits_a.ends c (sym (m.ends c) ∙ h) in
        record { beat = z.beat; is = z.is; low = z.low; high = (let u = z.high in omega (arith, u, pt, pe)) };
    few = λ t e i.
        let f : length (rows a (t + p.a) (suc (last p e) - p.a)) ≤ most p e = fits_a.few t e i in
        let f2 : length (rows a (t + p.a) (suc p.a - p.a)) ≤ most p e = rw (last_p e) at f in
        rw (last_o e, most_o e, same_length a b o m steps (suc p.a - p.a) (t + p.a)) f2;
    end = λ t i. let y = fits_a.end t i in
        let l = y.here.low in
        let u = y.here.high in
        record {
          at = y.at;
          here = record { is = m.ends y.at ∙ y.here.is; low = l; high = omega (arith, u, pt, pe) };
          only = λ c h. let hl = h.low in let hh = h.high in omega (arith, hl, hh, l, u, pt, pe);
          after = λ c x z. absurd (omega (arith, x, z, l));
        };
  }

  with_lines : ServedWithLines2 p q (in_step p q) (never2 AreBeside) no_lines beats a b o
  with_lines = record {
    spill = λ t. false;
    served = record {
      fits = fits_o;
      results = λ t d e z i ha hb ho.
          let al = ha.low in
          let ah = ha.high in
          let bl = hb.low in
          let bh = hb.high in
          let ol = ho.low in
          let oh = ho.high in
          let dz : d ≡ z = omega (arith, al, ah, ol, oh, pt, pe) in
          let ez : e ≡ z = omega (arith, bl, bh, ol, oh, qt, qe, same) in
          (rw (dz, ez) (beside_at a b o m steps same_ends z), refl);
      later = λ t d z i ha ho. let ah = ha.high in let ol = ho.low in omega (arith, ah, ol, pt, pe);
      later2 = λ t e z i hb ho. let bh = hb.high in let ol = ho.low in omega (arith, bh, ol, qt, qe, same);
    };
    low = λ c. refl;
    told = λ ends t i s. absurd (cc s);
    so = λ ends c f. absurd (cc f);
    late = λ ends c f. absurd (cc f);
  }

pub beside_serves : (p q : Figures) (a b o : Carried) → is_fixed p ≡ true → is_fixed q ≡ true → p.a ≡ q.a → IsBeside a b o → ServesWhen2 SameCycles p q (in_step p q) (never2 AreBeside) no_lines a b o
beside_serves p q a b o fixed_p fixed_q same m beats spaced fits_a fits_b steps =
    with_lines p q a b o (first p fixed_p) (second p fixed_p) (first q fixed_q) (second q fixed_q) same m beats fits_a fits_b steps
  where
    first : (f : Figures) → is_fixed f ≡ true → f.a ≡ f.lt
    first f h = eqb-true f.a f.lt (and_left (nat_eq f.a f.lt) (nat_eq f.lt f.le) h)

    second : (f : Figures) → is_fixed f ≡ true → f.lt ≡ f.le
    second f h = eqb-true f.lt f.le (and_right (nat_eq f.a f.lt) (nat_eq f.lt f.le) h)
