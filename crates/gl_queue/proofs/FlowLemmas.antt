-- What leaves a union: how much, when, and one end for each beat with the end.
use Rattle.std.proofs.Common.{◌≡◌, ℕ, zero, suc, ◌+◌, ◌-◌, ◌<◌, ◌≤◌, List, [], ◌∷◌, length, Some, None, Bool, true, false, refl, sym, ap, ◌∙◌, subst, arith, inl, inr, length-append}
use Rattle.std.specs.Prelude.{option_to_list}
use Rattle.std.proofs.lemmas.Bool.{cases_lt, cases_order}
use Rattle.gl_bits.proofs.Options.{some_same}
use Rattle.gl_values.specs.Results.{Row}
use Rattle.gl_wire.specs.Beats.{Beats}
use Rattle.gl_wire.specs.Wire.{Carried, rows}
use Rattle.gl_queue.specs.Queue.{oldest}
use Rattle.gl_queue.specs.Merging.{first_of}
use Rattle.gl_wire.specs.Sides.{IsOpen, Side}
use Rattle.gl_queue.specs.Phases.{Held, Works, held, Bounds, most_of, Roomy, Quiet}
use Rattle.gl_queue.proofs.HeldLemmas.{rows-push, empty}
use Rattle.gl_queue.proofs.PhaseLemmas.{Phase, idle, busy, Busy, EndOf, leaving, leaves_then, held_next}

one_leaves : (xs ys : List Row) → length (option_to_list (first_of (oldest xs) (oldest ys))) + (length xs + length ys - 1) ≡ length xs + length ys
one_leaves [] [] = refl
one_leaves [] (y ∷ ys) = omega arith
one_leaves (x ∷ xs) ys = omega arith

none_leaves : (xs ys : List Row) → length xs + length ys ≡ 0 → first_of (oldest xs) (oldest ys) ≡ None
none_leaves [] [] h = refl
none_leaves [] (y ∷ ys) h = absurd (omega (arith, h))
none_leaves (x ∷ xs) ys h = absurd (omega (arith, h))

some_left : (xs ys : List Row) (r : Row) → first_of (oldest xs) (oldest ys) ≡ Some r → 1 ≤ length xs + length ys
some_left [] [] r h = absurd (cc)
some_left [] (y ∷ ys) r h = omega arith
some_left (x ∷ xs) ys r h = omega arith

-- the one end that leaves for a beat
pub record OutEnd (k : Bounds) (o : Carried) (t x y : ℕ) : Type 0 where
  pub at : ℕ
  pub ends : o.ends at ≡ true
  pub low : t + k.first < at
  pub high : at ≤ t + k.late true + most_of k true + 1
  pub only : (z : ℕ) → t + k.first < z → z ≤ t + k.late true + most_of k true + 1 → o.ends z ≡ true → z ≡ at
  pub after : (z : ℕ) → at < z → z ≤ t + k.late true + most_of k true + 1 → o.tuple z ≡ None
  pub after_a : x < at
  pub after_b : y < at

module _ (k : Bounds) (la lb : Bool → ℕ) (beats : Beats) (h : Held) (a b o : Carried) (sa : Side k.first la k.most_a beats a) (sb : Side k.first lb k.most_b beats b) (in_a : (e : Bool) → la e ≤ k.late e) (in_b : (e : Bool) → lb e ≤ k.late e) (roomy : Roomy k beats) (works : (c : ℕ) → Works h a b o c) (phases : (c : ℕ) → Phase k la lb beats h a b o sa sb in_a in_b roomy c) where
  abbrev AtBusy : ℕ → ℕ → Bool → Type 0
  AtBusy c t e = Busy k la lb beats h a b o sa sb in_a in_b roomy c t e

  -- the open beat is the one that the union is busy with
  busy_with : (c t : ℕ) (e : Bool) → IsOpen k.first beats c t e → AtBusy c t e
  busy_with c t e p = by (phases c)
    where
      same : (u : ℕ) (d : Bool) → u ≡ t → AtBusy c u d → AtBusy c t e
      same u d q y =
          let z : d ≡ e = some_same d e (sym y.open_beat.is ∙ ap beats q ∙ p.is) in
          subst (λ v. AtBusy c t v) z (subst (λ v. AtBusy c v d) q y)

      by : Phase k la lb beats h a b o sa sb in_a in_b roomy c → AtBusy c t e
      by (idle y) = absurd (let far = y.idle t e p.is in let low = p.low in omega (arith, far, low))
      by (busy u d y) = elim (cases_order u t) [
        | inl q ↦ same u d q y
        | inr (inl q) ↦ absurd (let far = y.open_beat.later t e p.is q in let low = p.low in omega (arith, far, low))
        | inr (inr q) ↦ absurd (let far = p.later u d y.open_beat.is q in let low = y.open_beat.low in omega (arith, far, low))
      ]

  out_length : (c : ℕ) → length (option_to_list (o.tuple c)) + (held h c - 1) ≡ held h c
  out_length c = let w = works c in ap (λ i. length (option_to_list i) + (held h c - 1)) w.out ∙ one_leaves (h.left c) (h.right c)

  no_out : (c : ℕ) → held h c ≡ 0 → o.tuple c ≡ None
  no_out c e = let w = works c in w.out ∙ none_leaves (h.left c) (h.right c) e

  -- nothing is lost
  conserved : (n c : ℕ) → length (rows o c n) + held h (c + n) ≡ held h c + length (rows a c n) + length (rows b c n)
  conserved zero c = let e : c + zero ≡ c = omega arith in let x : held h (c + zero) ≡ held h c = ap (held h) e in omega (arith, x)
  conserved (suc n) c =
      let e : c + suc n ≡ suc c + n = omega arith in
      let i = conserved n (suc c) in
      let p = held_next h a b o c (works c) in
      let q = out_length c in
      let s : held h (c + suc n) ≡ held h (suc c + n) = ap (held h) e in
      let x = length-append (option_to_list (o.tuple c)) (rows o (suc c) n) in
      let y = length-append (option_to_list (a.tuple c)) (rows a (suc c) n) in
      let z = length-append (option_to_list (b.tuple c)) (rows b (suc c) n) in
      omega (arith, i, p, q, s, x, y, z)

  cons_rows : (s : Carried) (c n : ℕ) → length (rows s c (suc n)) ≡ length (rows s c 1) + length (rows s (suc c) n)
  cons_rows s c n = length-append (option_to_list (s.tuple c)) (rows s (suc c) n) ∙ ap (λ i. i + length (rows s (suc c) n)) (sym (length-append (option_to_list (s.tuple c)) [] ∙ omega arith))

  -- no more rows leave than came
  pub few_out : (t n : ℕ) (e : Bool) → IsOpen k.first beats (t + k.first + suc n) t e → length (rows o (suc (t + k.first)) (suc n)) ≤ most_of k e
  few_out t n e p =
      let s : ℕ = suc (t + k.first) in
      let begun : IsOpen k.first beats (suc (t + k.first)) t e = record { is = p.is; low = omega arith; later = λ u d i l. omega (arith, l) } in
      let y = busy_with (suc (t + k.first)) t e begun in
      let one : suc (t + k.first) - (t + k.first) ≡ 1 = omega arith in
      let left : length (h.left (suc (t + k.first))) ≤ length (rows a (t + k.first) 1) = rw one at y.left in
      let right : length (h.right (suc (t + k.first))) ≤ length (rows b (t + k.first) 1) = rw one at y.right in
      let last = rows-push o (suc (t + k.first)) n in
      let kept = conserved n (suc (t + k.first)) in
      let out = out_length (suc (t + k.first) + n) in
      let all_a = sa.fewer (t + k.first + suc n) t (suc n) e p (omega arith) in
      let all_b = sb.fewer (t + k.first + suc n) t (suc n) e p (omega arith) in
      omega (arith, left, right, last, kept, out, all_a, all_b, cons_rows a (t + k.first) n, cons_rows b (t + k.first) n)

  -- a row leaves in time
  pub out_caused : (c : ℕ) (r : Row) → o.tuple c ≡ Some r → (t : ℕ) × (e : Bool) × (beats t ≡ Some e) × (t + k.first < c) × (c ≤ t + k.late e + most_of k e) × (1 ≤ most_of k e)
  out_caused c r s = by (phases c)
    where
      one : 1 ≤ held h c
      one = let w = works c in some_left (h.left c) (h.right c) r (sym w.out ∙ s)

      by : Phase k la lb beats h a b o sa sb in_a in_b roomy c → (t : ℕ) × (e : Bool) × (beats t ≡ Some e) × (t + k.first < c) × (c ≤ t + k.late e + most_of k e) × (1 ≤ most_of k e)
      by (idle y) = absurd (omega (arith, one, ap length y.left, ap length y.right))
      by (busy t e y) = let f = y.fast in (t, e, y.open_beat.is, y.open_beat.low, omega (arith, one, f), omega (arith, one, f))

  -- so does an end
  pub end_caused : (c : ℕ) → o.ends c ≡ true → (t : ℕ) × (beats t ≡ Some true) × (t + k.first < c) × (c ≤ t + k.late true + most_of k true + 1)
  end_caused c s = by (phases c)
    where
      waits : h.wait_a c ≡ true
      waits = (leaving h a b o c (works c) s).a

      not_quiet : Quiet h c → ⊥
      not_quiet q = let z = q.a in cc (z, waits)

      in_end : (t : ℕ) (e : Bool) → beats t ≡ Some e → EndOf k la lb beats h a b o sa sb in_a in_b roomy c t e → (beats t ≡ Some true) × (c ≤ t + k.late true + most_of k true + 1)
      in_end t false i q = absurd (not_quiet q)
      in_end t true i (j, inl w) = (i, w.high)
      in_end t true i (j, inr g) = absurd (not_quiet g.quiet)

      by : Phase k la lb beats h a b o sa sb in_a in_b roomy c → (t : ℕ) × (beats t ≡ Some true) × (t + k.first < c) × (c ≤ t + k.late true + most_of k true + 1)
      by (idle y) = absurd (not_quiet y.quiet)
      by (busy t e y) = let z = in_end t e y.open_beat.is y.ended in (t, z.0, y.open_beat.low, z.1)

  pub open_to : (t : ℕ) → beats t ≡ Some true → IsOpen k.first beats (t + k.late true + most_of k true + 1) t true
  open_to t i = record { is = i; low = omega (arith, roomy.low true); later = λ u d j l. roomy.ends t u d i j l }

  -- and there is one
  pub out_end : (t : ℕ) → beats t ≡ Some true → (j : beats t ≡ Some true) × OutEnd k o t (sa.its_end t j).at (sb.its_end t j).at
  out_end t i = by (busy_with (t + k.late true + most_of k true + 1) t true (open_to t i))
    where
      end : ℕ
      end = t + k.late true + most_of k true + 1

      by : AtBusy end t true → (j : beats t ≡ Some true) × OutEnd k o t (sa.its_end t j).at (sb.its_end t j).at
      by y = with_end y.fast y.ended
        where
          with_end : held h end ≤ most_of k true - (end - suc (t + k.late true)) → EndOf k la lb beats h a b o sa sb in_a in_b roomy end t true → (j : beats t ≡ Some true) × OutEnd k o t (sa.its_end t j).at (sb.its_end t j).at
          with_end f (j, inl w) =
              let x = sa.its_end t j in
              let y = sb.its_end t j in
              let high_a = x.high in
              let high_b = y.high in
              let by_a : x.at < t + k.late true + most_of k true + 1 = omega (arith, high_a, in_a true) in
              let by_b : y.at < t + k.late true + most_of k true + 1 = omega (arith, high_b, in_b true) in
              let none : held h (t + k.late true + most_of k true + 1) ≡ 0 = omega (arith, f) in
              let e : o.ends (t + k.late true + most_of k true + 1) ≡ true = leaves_then h a b o (t + k.late true + most_of k true + 1) (works (t + k.late true + most_of k true + 1)) (record {
                a = w.a.yes by_a;
                b = w.b.yes by_b;
                left = empty (h.left (t + k.late true + most_of k true + 1)) (omega (arith, none));
                right = empty (h.right (t + k.late true + most_of k true + 1)) (omega (arith, none));
              }) in (
                j,
                record {
                  at = t + k.late true + most_of k true + 1;
                  ends = e;
                  low = omega (arith, roomy.low true);
                  high = omega arith;
                  only = λ z l m q. elim (cases_lt z (t + k.late true + most_of k true + 1)) [ inl n ↦ absurd (let v = w.none z l n in cc (v, q)) | inr n ↦ omega (arith, n, m) ];
                  after = λ z l m. absurd (omega (arith, l, m));
                  after_a = by_a;
                  after_b = by_b;
                },
              )
          with_end f (j, inr g) = let before = g.before in (
            j,
            record {
              at = g.at;
              ends = g.ends;
              low = g.low;
              high = g.high;
              only = λ z l m q. elim (cases_lt z (t + k.late true + most_of k true + 1)) [
                | inl n ↦ g.only z l n q
                | inr n ↦ absurd (let e : z ≡ t + k.late true + most_of k true + 1 = omega (arith, n, m) in
                    let v = (leaving h a b o z (works z) q).a in
                    let u = ap h.wait_a e in
                    let q = g.quiet.a in
                    cc (u, v, q))
              ];
              after = λ z l m. no_out z (g.empty z (omega (arith, l)) m);
              after_a = g.after_a;
              after_b = g.after_b;
            },
          )
