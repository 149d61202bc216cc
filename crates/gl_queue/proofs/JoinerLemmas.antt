-- A joiner of two sides that bring one row with each end.
use Rattle.std.proofs.Common.{◌≡◌, ℕ, zero, suc, ◌+◌, ◌-◌, ◌<◌, ◌≤◌, [], ◌∷◌, ◌++◌, length, Option, Some, None, Bool, true, false, refl, sym, ap, ◌∙◌, subst, arith, inl, inr, ◌⊎◌}
use Rattle.std.specs.Prelude.{option_to_list, is_some, ◌&&◌, max}
use Rattle.std.proofs.lemmas.Bool.{cases_lt, cases_order, false_from_ne_true, and_parts}
use Rattle.gl_bits.proofs.Options.{some_same}
use Rattle.gl_algebra.specs.declared.figures.Figures.{Figures}
use Rattle.gl_values.specs.Results.{Row}
use Rattle.gl_algebra.specs.FigureTable.{IsSound, at_end}
use Rattle.gl_wire.specs.Beats.{Beats, last, most, Spaced}
use Rattle.gl_wire.specs.Wire.{Carried, stream, rows}
use Rattle.gl_wire.specs.Serves.{HasEnd, Fits}
use Rattle.gl_wire.specs.Spills.{ServedWithLines2, never2, no_lines}
use Rattle.gl_wire.specs.Pace.{WithEnds}
use Rattle.gl_values.specs.Results.{AreBeside}
use Rattle.gl_queue.specs.Joining.{IsJoiner, JoinerServes}
use Rattle.gl_wire.specs.Sides.{IsOpen, IsIdle, ItsEnd, Side}
use Rattle.gl_wire.specs.Laws.{FitsIsSide}
use Rattle.gl_wire.proofs.SideLemmas.{none_unless}
use Rattle.gl_queue.proofs.HeldLemmas.{flag_off}
use Rattle.gl_queue.proofs.FlagLemmas.{Flag, flag_next, flag_start, once_none, once_some, once_stream}

-- a row that waits stays
kept_a : {a b o : Carried} (m : IsJoiner a b o) (c : ℕ) → 1 ≤ c → a.tuple c ≡ None → m.row_a (suc c) ≡ m.row_a c
kept_a m zero l h = absurd (omega (arith, l))
kept_a m (suc c) l h = m.kept_a c h

kept_b : {a b o : Carried} (m : IsJoiner a b o) (c : ℕ) → 1 ≤ c → b.tuple c ≡ None → m.row_b (suc c) ≡ m.row_b c
kept_b m zero l h = absurd (omega (arith, l))
kept_b m (suc c) l h = m.kept_b c h

module _ (fits_side : FitsIsSide) (p q : Figures) (a b o : Carried) (sound_p : IsSound p) (sound_q : IsSound q) (same : p.a ≡ q.a) (m : IsJoiner a b o) (beats : Beats) (spaced : Spaced (at_end p q) beats) (fits_a : Fits p beats a) (fits_b : Fits q beats b) (once_a : WithEnds a) (once_b : WithEnds b) where
  side_a : Side p.a (last p) (most p) beats a
  side_a = fits_side p (at_end p q) beats a sound_p (record { gt = omega arith; ge = omega arith }) spaced fits_a

  side_b : Side p.a (last q) (most q) beats b
  side_b = subst (λ n. Side n (last q) (most q) beats b) (sym same) (fits_side q (at_end p q) beats b sound_q (record { gt = omega arith; ge = omega arith }) spaced fits_b)

  far_of : (t u : ℕ) (d : Bool) → beats t ≡ Some true → beats u ≡ Some d → t < u → t + max p.le q.le + 2 ≤ u + p.a
  far_of t u d i j l = let far = spaced.apart t u true d i j l in omega (arith, far, sound_p.tuples_last, sound_p.end_last)

  abbrev both : ℕ → Bool
  both c = m.wait_a c && m.wait_b c

  record Quiet (c : ℕ) : Type 0 where
    off_a : m.wait_a c ≡ false
    off_b : m.wait_b c ≡ false

  -- by the cycles in which the rows come
  record Held (c x y : ℕ) : Type 0 where
    flag_a : Flag m.wait_a x (suc (max x y)) c
    flag_b : Flag m.wait_b y (suc (max x y)) c
    row_a : (r : Row) → a.tuple x ≡ Some r → x < c → m.row_a c ≡ r
    row_b : (r : Row) → b.tuple y ≡ Some r → y < c → m.row_b c ≡ r

  abbrev EndOf : ℕ → ℕ → Bool → Type 0
  EndOf c t false = Quiet c
  EndOf c t true = (i : beats t ≡ Some true) × Held c (side_a.its_end t i).at (side_b.its_end t i).at

  record Busy (c t : ℕ) (e : Bool) : Type 0 where
    open_beat : IsOpen p.a beats c t e
    ended : EndOf c t e

  record Idle (c : ℕ) : Type 0 where
    idle_yet : IsIdle p.a beats c
    quiet : Quiet c

  data Phase (c : ℕ) : Type 0 where
    idle : Idle c → Phase c
    busy : (t : ℕ) (e : Bool) → Busy c t e → Phase c

  abbrev Starts : ℕ → Type 0
  Starts c = (u : ℕ) × (d : Bool) × (beats u ≡ Some d) × (u + p.a ≡ c)

  abbrev StartsNot : ℕ → Type 0
  StartsNot c = (u : ℕ) (d : Bool) → beats u ≡ Some d → u + p.a ≡ c → ⊥

  starts : (c : ℕ) → Starts c ⊎ StartsNot c
  starts c = elim (cases_lt c p.a) [
    | inl l ↦ inr (λ u d i e. omega (arith, l, e))
    | inr l ↦ by (beats (c - p.a)) refl l
  ]
    where
      by : (v : Option Bool) → beats (c - p.a) ≡ v → p.a ≤ c → Starts c ⊎ StartsNot c
      by None w l = inr (λ u d i e. let v : u ≡ c - p.a = omega (arith, e) in let x = ap beats v in cc (x, i, w))
      by (Some d) w l = inl (c - p.a, d, w, omega (arith, l))

  -- when a beat's interval begins, nothing waits any more
  off_at : (c u : ℕ) (d : Bool) → beats u ≡ Some d → u + p.a ≡ c → Phase c → Quiet c
  off_at c u d i e (idle y) = y.quiet
  off_at c u d i e (busy t b y) = by b y.open_beat y.ended
    where
      by : (b : Bool) → IsOpen p.a beats c t b → EndOf c t b → Quiet c
      by false n k = k
      by true n (j, k) =
          let low = n.low in
          let far = far_of t u d n.is i (omega (arith, low, e)) in
          let high_a = (side_a.its_end t j).high in
          let high_b = (side_b.its_end t j).high in
          record {
            off_a = false_from_ne_true (m.wait_a c) (λ w. let l = (k.flag_a.no w).1 in omega (arith, l, high_a, high_b, far, e));
            off_b = false_from_ne_true (m.wait_b c) (λ w. let l = (k.flag_b.no w).1 in omega (arith, l, high_a, high_b, far, e));
          }

  begin : (c u : ℕ) (d : Bool) → IsOpen p.a beats (suc c) u d → u + p.a ≡ c → Quiet c → EndOf (suc c) u d
  begin c u false n e k = record {
    off_a = m.next_a c ∙ flag_off (a.ends c) (m.wait_a c) (both c) (false_from_ne_true (a.ends c) (λ w. let z = side_a.end (suc c) u c false n (omega (arith, e)) (omega arith) w in cc z)) (λ w. absurd (let z = k.off_a in cc (w, z)));
    off_b = m.next_b c ∙ flag_off (b.ends c) (m.wait_b c) (both c) (false_from_ne_true (b.ends c) (λ w. let z = side_b.end (suc c) u c false n (omega (arith, e)) (omega arith) w in cc z)) (λ w. absurd (let z = k.off_b in cc (w, z)));
  }
  begin c u true n e k =
      let x = side_a.its_end u n.is in
      let y = side_b.its_end u n.is in
      let low_a = x.low in
      let low_b = y.low in (
        n.is,
        record {
          flag_a = flag_start a.ends m.wait_a both x.at (suc (max x.at y.at)) c (m.next_a c) x.ends (λ w. x.only (suc c) c n (omega (arith, e)) (omega arith) w) (omega arith) (omega (arith, low_a, e)) k.off_a;
          flag_b = flag_start b.ends m.wait_b both y.at (suc (max x.at y.at)) c (m.next_b c) y.ends (λ w. y.only (suc c) c n (omega (arith, e)) (omega arith) w) (omega arith) (omega (arith, low_b, e)) k.off_b;
          row_a = λ r h l. let z : x.at ≡ c = omega (arith, low_a, e, l) in m.taken_a c r (ap a.tuple (sym z) ∙ h);
          row_b = λ r h l. let z : y.at ≡ c = omega (arith, low_b, e, l) in m.taken_b c r (ap b.tuple (sym z) ∙ h);
        },
      )

  goes_on : (c t : ℕ) (e : Bool) → IsOpen p.a beats (suc c) t e → t + p.a < c → EndOf c t e → EndOf (suc c) t e
  goes_on c t false n l k = record {
    off_a = m.next_a c ∙ flag_off (a.ends c) (m.wait_a c) (both c) (false_from_ne_true (a.ends c) (λ w. let z = side_a.end (suc c) t c false n (omega (arith, l)) (omega arith) w in cc z)) (λ w. absurd (let z = k.off_a in cc (w, z)));
    off_b = m.next_b c ∙ flag_off (b.ends c) (m.wait_b c) (both c) (false_from_ne_true (b.ends c) (λ w. let z = side_b.end (suc c) t c false n (omega (arith, l)) (omega arith) w in cc z)) (λ w. absurd (let z = k.off_b in cc (w, z)));
  }
  goes_on c t true n l (i, k) = (
    i,
    record {
      flag_a = flag_next a.ends m.wait_a both x.at (suc (max x.at y.at)) c (m.next_a c) x.ends only_a (omega arith) k.flag_a there here;
      flag_b = flag_next b.ends m.wait_b both y.at (suc (max x.at y.at)) c (m.next_b c) y.ends only_b (omega arith) k.flag_b there here;
      row_a = λ r h j. elim (cases_lt x.at c) [
        | inl v ↦ kept_a m c (omega (arith, v)) (once_none a once_a c (false_from_ne_true (a.ends c) (λ w. let e = only_a w in omega (arith, e, v)))) ∙ k.row_a r h v
        | inr v ↦ (let z : x.at ≡ c = omega (arith, v, j) in m.taken_a c r (ap a.tuple (sym z) ∙ h))
      ];
      row_b = λ r h j. elim (cases_lt y.at c) [
        | inl v ↦ kept_b m c (omega (arith, v)) (once_none b once_b c (false_from_ne_true (b.ends c) (λ w. let e = only_b w in omega (arith, e, v)))) ∙ k.row_b r h v
        | inr v ↦ (let z : y.at ≡ c = omega (arith, v, j) in m.taken_b c r (ap b.tuple (sym z) ∙ h))
      ];
    },
  )
    where
      x : ItsEnd p.a p.le beats a t
      x = side_a.its_end t i

      y : ItsEnd p.a q.le beats b t
      y = side_b.its_end t i

      only_a : a.ends c ≡ true → c ≡ x.at
      only_a w = x.only (suc c) c n (omega (arith, l)) (omega arith) w

      only_b : b.ends c ≡ true → c ≡ y.at
      only_b w = y.only (suc c) c n (omega (arith, l)) (omega arith) w

      there : both c ≡ true → c ≡ suc (max x.at y.at)
      there w = let z = and_parts (m.wait_a c) (m.wait_b c) w in let v = k.flag_a.no z.0 in let u = k.flag_b.no z.1 in omega (arith, v.0, v.1, u.0)

      here : c ≡ suc (max x.at y.at) → both c ≡ true
      here e = rw (k.flag_a.yes (omega (arith, e)) (omega (arith, e)), k.flag_b.yes (omega (arith, e)) (omega (arith, e))) refl

  phase_next : (c : ℕ) → Phase c → Phase (suc c)
  phase_next c v = by v (starts c)
    where
      new_open : (u : ℕ) (d : Bool) → beats u ≡ Some d → u + p.a ≡ c → IsOpen p.a beats (suc c) u d
      new_open u d i e = record { is = i; low = omega (arith, e); later = λ v x j l. omega (arith, l, e) }

      still : (t : ℕ) (e : Bool) → IsOpen p.a beats c t e → StartsNot c → IsOpen p.a beats (suc c) t e
      still t e o n = record {
        is = o.is;
        low = (let low = o.low in omega (arith, low));
        later = λ u d i l. let far = o.later u d i l in let no : u + p.a ≡ c → ⊥ = n u d i in omega (arith, far, no);
      }

      by : Phase c → Starts c ⊎ StartsNot c → Phase (suc c)
      by w (inl s) = let n = new_open s.0 s.1 s.2 s.3 in busy s.0 s.1 (record { open_beat = n; ended = begin c s.0 s.1 n s.3 (off_at c s.0 s.1 s.2 s.3 w) })
      by (busy t e y) (inr n) = let l = y.open_beat.low in busy t e (record { open_beat = still t e y.open_beat n; ended = goes_on c t e (still t e y.open_beat n) l y.ended })
      by (idle y) (inr n) =
          let after : IsIdle p.a beats (suc c) = λ u d i. let far = y.idle_yet u d i in let no : u + p.a ≡ c → ⊥ = n u d i in omega (arith, far, no) in
          idle (record {
            idle_yet = after;
            quiet = record {
              off_a = m.next_a c ∙ flag_off (a.ends c) (m.wait_a c) (both c) (side_a.no_end (suc c) c after (omega arith)) (λ w. absurd (let z = y.quiet.off_a in cc (w, z)));
              off_b = m.next_b c ∙ flag_off (b.ends c) (m.wait_b c) (both c) (side_b.no_end (suc c) c after (omega arith)) (λ w. absurd (let z = y.quiet.off_b in cc (w, z)));
            };
          })

  phases : (c : ℕ) → Phase c
  phases zero = idle (record { idle_yet = λ u d i. omega arith; quiet = record { off_a = m.first_a; off_b = m.first_b } })
  phases (suc c) = phase_next c (phases c)

  busy_with : (c t : ℕ) (e : Bool) → IsOpen p.a beats c t e → Busy c t e
  busy_with c t e n = by (phases c)
    where
      as_this : (u : ℕ) (d : Bool) → u ≡ t → Busy c u d → Busy c t e
      as_this u d w y =
          let z : d ≡ e = some_same d e (sym y.open_beat.is ∙ ap beats w ∙ n.is) in
          subst (λ v. Busy c t v) z (subst (λ v. Busy c v d) w y)

      by : Phase c → Busy c t e
      by (idle y) = absurd (let far = y.idle_yet t e n.is in let low = n.low in omega (arith, far, low))
      by (busy u d y) = elim (cases_order u t) [
        | inl w ↦ as_this u d w y
        | inr (inl w) ↦ absurd (let far = y.open_beat.later t e n.is w in let low = n.low in omega (arith, far, low))
        | inr (inr w) ↦ absurd (let far = n.later u d y.open_beat.is w in let low = y.open_beat.low in omega (arith, far, low))
      ]

  -- both are there in one cycle of a beat with the end, and then the rows are those of its ends
  record Joins (c : ℕ) : Type 0 where
    beat : ℕ
    is : beats beat ≡ Some true
    low : beat + p.a < c
    at : c ≡ suc (max (side_a.its_end beat is).at (side_b.its_end beat is).at)

  joins : (c : ℕ) → both c ≡ true → Joins c
  joins c w = by (phases c)
    where
      quiet : Quiet c → Joins c
      quiet k = absurd (let z = and_parts (m.wait_a c) (m.wait_b c) w in let x = z.0 in let v = k.off_a in cc (x, v))

      in_end : (t : ℕ) (e : Bool) → IsOpen p.a beats c t e → EndOf c t e → Joins c
      in_end t false n k = quiet k
      in_end t true n (i, k) = let z = and_parts (m.wait_a c) (m.wait_b c) w in let v = k.flag_a.no z.0 in let u = k.flag_b.no z.1 in
          record { beat = t; is = i; low = n.low; at = omega (arith, v.0, v.1, u.0) }

      by : Phase c → Joins c
      by (idle y) = quiet y.quiet
      by (busy t e y) = in_end t e y.open_beat y.ended

  -- the cycle in which both are there, for a beat
  abbrev meet : (t : ℕ) → beats t ≡ Some true → ℕ
  meet t i = suc (max (side_a.its_end t i).at (side_b.its_end t i).at)

  open_to : (t : ℕ) → beats t ≡ Some true → (c : ℕ) → t + p.a < c → c ≤ t + max p.le q.le + 2 → IsOpen p.a beats c t true
  open_to t i c l h = record { is = i; low = l; later = λ u d j n. let far = far_of t u d i j n in omega (arith, far, h) }

  -- its ends are the same however the beat is known
  same_a : (t : ℕ) (i j : beats t ≡ Some true) → (side_a.its_end t j).at ≡ (side_a.its_end t i).at
  same_a t i j = let y = side_a.its_end t j in let low = y.low in let high = y.high in (side_a.its_end t i).only (suc y.at) y.at (open_to t i (suc y.at) (omega (arith, low)) (omega (arith, high))) low (omega arith) y.ends

  same_b : (t : ℕ) (i j : beats t ≡ Some true) → (side_b.its_end t j).at ≡ (side_b.its_end t i).at
  same_b t i j = let y = side_b.its_end t j in let low = y.low in let high = y.high in (side_b.its_end t i).only (suc y.at) y.at (open_to t i (suc y.at) (omega (arith, low)) (omega (arith, high))) low (omega arith) y.ends

  bounds : (t : ℕ) (i : beats t ≡ Some true) → (t + p.a < meet t i) × (meet t i ≤ t + max p.le q.le + 1)
  bounds t i =
      let low = (side_a.its_end t i).low in
      let high_a = (side_a.its_end t i).high in
      let high_b = (side_b.its_end t i).high in
      (omega (arith, low), omega (arith, high_a, high_b))

  held_at : (t : ℕ) (i : beats t ≡ Some true) (c : ℕ) → IsOpen p.a beats c t true → (j : beats t ≡ Some true) × Held c (side_a.its_end t j).at (side_b.its_end t j).at
  held_at t i c n = (busy_with c t true n).ended

  meets : (t : ℕ) (i : beats t ≡ Some true) (c : ℕ) → t + p.a ≤ c → c ≤ t + max p.le q.le + 1 → both c ≡ true → c ≡ meet t i
  meets t i c l h w = elim (cases_lt (t + p.a) c) [
    | inl n ↦ (let k = held_at t i c (open_to t i c n (omega (arith, h))) in
        let z = and_parts (m.wait_a c) (m.wait_b c) w in
        let v = k.1.flag_a.no z.0 in
        let u = k.1.flag_b.no z.1 in
        omega (arith, v.0, v.1, u.0, same_a t i k.0, same_b t i k.0))
    | inr n ↦ absurd (let e : t + p.a ≡ c = omega (arith, n, l) in let z = (and_parts (m.wait_a c) (m.wait_b c) w).0 in let v = (off_at c t true i e (phases c)).off_a in cc (z, v))
  ]

  no_meeting : (t : ℕ) (e : Bool) → beats t ≡ Some e → both (t + p.a) ≡ false
  no_meeting t e i = let v = (off_at (t + p.a) t e i refl (phases (t + p.a))).off_a in rw v refl

  meeting : (t : ℕ) (i : beats t ≡ Some true) → both (meet t i) ≡ true
  meeting t i =
      let n = bounds t i in
      let k = held_at t i (meet t i) (open_to t i (meet t i) n.0 (let h = n.1 in omega (arith, h))) in
      let sa = same_a t i k.0 in
      let sb = same_b t i k.0 in
      let ya : m.wait_a (meet t i) ≡ true = k.1.flag_a.yes (omega (arith, sa)) (omega (arith, sa, sb)) in
      let yb : m.wait_b (meet t i) ≡ true = k.1.flag_b.yes (omega (arith, sb)) (omega (arith, sa, sb)) in
      rw (ya, yb) refl

  row_there : (t : ℕ) (i : beats t ≡ Some true) (r v : Row) → a.tuple (side_a.its_end t i).at ≡ Some r → b.tuple (side_b.its_end t i).at ≡ Some v → o.tuple (suc (meet t i)) ≡ Some (r ++ v)
  row_there t i r v h k =
      let n = bounds t i in
      let w = held_at t i (meet t i) (open_to t i (meet t i) n.0 (let h = n.1 in omega (arith, h))) in
      let sa = same_a t i w.0 in
      let sb = same_b t i w.0 in
      let ra : m.row_a (meet t i) ≡ r = w.1.row_a r (ap a.tuple sa ∙ h) (omega (arith, sa)) in
      let rb : m.row_b (meet t i) ≡ v = w.1.row_b v (ap b.tuple sb ∙ k) (omega (arith, sb)) in
      m.out (meet t i) ∙ rw (meeting t i, ra, rb) refl

  -- what comes out came one cycle after both were there
  ends_after : (c : ℕ) → o.ends c ≡ true → (d : ℕ) × (c ≡ suc d) × (both d ≡ true)
  ends_after zero h = absurd (let z = m.ends_first in cc (z, h))
  ends_after (suc c) h = (c, refl, sym (m.ends c) ∙ h)

  tuple_after : (c : ℕ) (r : Row) → o.tuple c ≡ Some r → (d : ℕ) × (c ≡ suc d) × (both d ≡ true)
  tuple_after zero r h = absurd (let z = m.out_first in cc (z, h))
  tuple_after (suc c) r h = (c, refl, by (both c) refl)
    where
      by : (e : Bool) → both c ≡ e → both c ≡ true
      by true w = w
      by false w = absurd (let z : o.tuple (suc c) ≡ None = m.out c ∙ rw w refl in cc (z, h))

  out_once : WithEnds o
  out_once zero = let x = m.out_first in let y = m.ends_first in rw (x, y) refl
  out_once (suc c) = by (both c) refl
    where
      by : (e : Bool) → both c ≡ e → is_some (o.tuple (suc c)) ≡ o.ends (suc c)
      by true w = let x : o.tuple (suc c) ≡ Some (m.row_a c ++ m.row_b c) = m.out c ∙ rw w refl in ap is_some x ∙ sym (m.ends c ∙ w)
      by false w = let x : o.tuple (suc c) ≡ None = m.out c ∙ rw w refl in ap is_some x ∙ sym (m.ends c ∙ w)

  -- where all tuples of some cycles stand in one cycle, there is one at most
  one_row : (at n c : ℕ) → ((k : ℕ) (r : Row) → c ≤ k → k < c + n → o.tuple k ≡ Some r → k ≡ at) → length (rows o c n) ≤ 1
  one_row at zero c h = omega arith
  one_row at (suc n) c h = by (o.tuple c) refl (one_row at n (suc c) (λ k r l m e. h k r (omega arith) (omega arith) e))
    where
      later_none : (n d : ℕ) → ((k : ℕ) (r : Row) → d ≤ k → k < d + n → o.tuple k ≡ Some r → ⊥) → rows o d n ≡ []
      later_none zero d g = refl
      later_none (suc n) d g = rw (none_unless (o.tuple d) (λ r e. g d r (omega arith) (omega arith) e), later_none n (suc d) (λ k r l m e. g k r (omega arith) (omega arith) e)) refl

      by : (v : Option Row) → o.tuple c ≡ v → length (rows o (suc c) n) ≤ 1 → length (option_to_list (o.tuple c) ++ rows o (suc c) n) ≤ 1
      by None e rest = rw e rest
      by (Some r) e rest =
          let here : c ≡ at = h c r (omega arith) (omega arith) e in
          rw (e, later_none n (suc c) (λ k r l m e. let z = h k r (omega arith) (omega arith) e in omega (arith, z, here, l))) (omega arith)

  few_of : (t : ℕ) (e : Bool) → beats t ≡ Some e → length (rows o (t + (p.a + 1)) (suc (last (at_end p q) e) - (p.a + 1))) ≤ most (at_end p q) e
  few_of t true i = one_row (suc (meet t i)) (suc (max p.le q.le + 2) - (p.a + 1)) (t + (p.a + 1)) (λ k r l n h.
      let z = tuple_after k r h in
      let e = z.1 in
      let w : z.0 ≡ meet t i = meets t i z.0 (omega (arith, e, l)) (omega (arith, e, n, sound_p.tuples_last, sound_p.end_last)) z.2 in
      omega (arith, e, w))
  few_of t false i =
      let n : suc (p.a + 1) - (p.a + 1) ≡ suc 0 = omega arith in
      let at : t + (p.a + 1) ≡ suc (t + p.a) = omega arith in
      let none : o.tuple (suc (t + p.a)) ≡ None = m.out (t + p.a) ∙ rw (no_meeting t false i) refl in
      rw (n, at, none) (omega arith)

  fits_o : Fits (at_end p q) beats o
  fits_o = record {
    tuples = λ c r h. let z = tuple_after c r h in let e = z.1 in let j = joins z.0 z.2 in let low = j.low in let at = j.at in let high = (bounds j.beat j.is).1 in
        record { beat = j.beat; end = true; is = j.is; low = omega (arith, e, low); high = omega (arith, e, at, high) };
    ends = λ c h. let z = ends_after c h in let e = z.1 in let j = joins z.0 z.2 in let low = j.low in let at = j.at in let high = (bounds j.beat j.is).1 in
        record { beat = j.beat; is = j.is; low = omega (arith, e, low); high = omega (arith, e, at, high) };
    few = few_of;
    end = λ t i. let n = bounds t i in record {
      at = suc (meet t i);
      here = record { is = m.ends (meet t i) ∙ meeting t i; low = (let l = n.0 in omega (arith, l)); high = (let h = n.1 in omega (arith, h)) };
      only = λ c h. let z = ends_after c h.is in let e = z.1 in let l = h.low in let u = h.high in let w : z.0 ≡ meet t i = meets t i z.0 (omega (arith, e, l)) (omega (arith, e, u)) z.2 in omega (arith, e, w);
      after = λ c l u. none_unless (o.tuple c) (λ r h. let z = tuple_after c r h in let e = z.1 in let low = n.0 in let w : z.0 ≡ meet t i = meets t i z.0 (omega (arith, e, low, l)) (omega (arith, e, u)) z.2 in omega (arith, e, w, l));
    };
  }

  results : (t d e z : ℕ) → beats t ≡ Some true → HasEnd p a t d → HasEnd q b t e → HasEnd (at_end p q) o t z → AreBeside (stream a d) (stream b e) (stream o z) × (d ≤ z) × (e ≤ z)
  results t d e z i ha hb ho =
      let x = side_a.its_end t i in
      let y = side_b.its_end t i in
      let low_a = ha.low in
      let high_a = ha.high in
      let low_b = hb.low in
      let high_b = hb.high in
      let low = ho.low in
      let high = ho.high in
      let dx : d ≡ x.at = x.only (suc d) d (open_to t i (suc d) (omega (arith, low_a)) (omega (arith, high_a))) low_a (omega arith) ha.is in
      let ey : e ≡ y.at = y.only (suc e) e (open_to t i (suc e) (omega (arith, low_b, same)) (omega (arith, high_b))) (omega (arith, low_b, same)) (omega arith) hb.is in
      let w = ends_after z ho.is in
      let v = w.1 in
      let at : w.0 ≡ meet t i = meets t i w.0 (omega (arith, v, low)) (omega (arith, v, high)) w.2 in
      let zm : z ≡ suc (meet t i) = omega (arith, v, at) in
      let ra = once_some a once_a x.at x.ends in
      let rb = once_some b once_b y.at y.ends in
      let out : o.tuple z ≡ Some (ra.0 ++ rb.0) = ap o.tuple zm ∙ row_there t i ra.0 rb.0 ra.1 rb.1 in
      let sa : stream a d ≡ ra.0 ∷ [] = once_stream a once_a d ra.0 (ap a.tuple dx ∙ ra.1) in
      let sb : stream b e ≡ rb.0 ∷ [] = once_stream b once_b e rb.0 (ap b.tuple ey ∙ rb.1) in
      let so : stream o z ≡ (ra.0 ++ rb.0) ∷ [] = once_stream o out_once z (ra.0 ++ rb.0) out in
      (rw (sa, sb, so) (record { paired = refl; rows = refl }), omega (arith, zm, dx), omega (arith, zm, ey))

  with_lines : ServedWithLines2 p q (at_end p q) (never2 AreBeside) no_lines beats a b o
  with_lines = record {
    spill = λ t. false;
    served = record {
      fits = fits_o;
      results = λ t d e z i ha hb ho. ((results t d e z i ha hb ho).0, refl);
      later = λ t d z i ha ho. (let y = fits_b.end t i in (results t d y.at z i ha y.here ho).1);
      later2 = λ t e z i hb ho. (let y = fits_a.end t i in (results t y.at e z i y.here hb ho).2);
    };
    low = λ c. refl;
    told = λ ends t i s. absurd (cc s);
    so = λ ends c f. absurd (cc f);
    late = λ ends c f. absurd (cc f);
  }

pub joiner_serves : FitsIsSide → JoinerServes
joiner_serves fits_side p q a b o sound_p sound_q same m beats spaced fits_a fits_b once = with_lines fits_side p q a b o sound_p sound_q same m beats spaced fits_a fits_b once.0 once.1
