-- A spacer serves the same rows, apart.
use Rattle.std.proofs.Common.{◌≡◌, ℕ, zero, suc, ◌+◌, ◌-◌, ◌*◌, ◌<◌, ◌≤◌, List, [], ◌∷◌, ◌++◌, map, length, Option, Some, None, Bool, true, false, refl, sym, ap, ◌∙◌, arith, inl, inr, ◌⊎◌, length-append}
use Rattle.std.specs.Prelude.{option_to_list, is_some, ◌&&◌, if◌then◌else◌, nat_eq}
use Rattle.std.specs.Option.{option_map}
use Rattle.std.proofs.lemmas.Bool.{cases_lt, cases_order, or_right, or_left}
use Rattle.std.proofs.lemmas.List.{length-map}
use Rattle.std.proofs.Math.Nat.{mul-le-mul_left}
use Rattle.gl_algebra.specs.declared.figures.Figures.{Figures}
use Rattle.gl_values.specs.Results.{Row}
use Rattle.gl_algebra.specs.FigureTable.{IsSound, spacer_figures, last_of}
use Rattle.gl_algebra.proofs.FigureLemmas.{last_of-some}
use Rattle.gl_wire.specs.Beats.{Beats, last, most, Spaced}
use Rattle.gl_wire.specs.Wire.{Carried, pending, stream, rows}
use Rattle.gl_wire.specs.Serves.{HasEnd, OneEnd, Fits}
use Rattle.gl_wire.specs.Spills.{ServedWithLines, never}
use Rattle.gl_queue.specs.Queue.{oldest, behind, entries, LowBefore}
use Rattle.gl_wire.specs.Sides.{IsOpen, Side}
use Rattle.gl_wire.specs.Apart.{CarriesApart, carries}
use Rattle.gl_wire.specs.Shapes.{Same}
use Rattle.gl_queue.specs.Merging.{only_passed}
use Rattle.gl_queue.specs.Spacing.{Entry, entry_at, arrives, row_in, end_in, IsSpacer, SpacerServes, SpacerSpaces}
use Rattle.gl_queue.specs.SpacerPhases.{most_entries, Wide}
use Rattle.gl_wire.specs.Laws.{FitsIsSide}
use Rattle.gl_wire.proofs.ApartLemmas.{is_carries}
use Rattle.gl_queue.proofs.QueueLemmas.{not_passed}
use Rattle.gl_queue.proofs.TagLemmas.{tag, held_entries}
use Rattle.gl_queue.proofs.SpacerLemmas.{Spaces, Leaves, leaving_tag, leaves_tag, leaves_or_not, carried_leaves, leave_apart, flow, pending_at, in_order}
use Rattle.gl_queue.proofs.SpacerTimeLemmas.{Phase, idle, busy, phases, Timely, timely, few_out, end_leaves, open_to}

minus_one : (n g : ℕ) → 1 ≤ n → (n - 1) * g + g ≡ g * n
minus_one zero g h = absurd (omega (arith, h))
minus_one (suc n) g h = let e : suc n - 1 ≡ n = omega arith in rw e (omega arith)

not_none : (g n : ℕ) → 1 ≤ g → g ≤ g * n → 1 ≤ n
not_none g zero one h = absurd (omega (arith, one, h))
not_none g (suc n) one h = omega arith

-- what a spacer does whose queue has room for all
record Ideal : Type 0 where
  pub timer : ℕ
  pub tags : List ℕ

abbrev ideal : ℕ → Carried → ℕ → Ideal
ideal g a zero = record { timer = 0; tags = [] }
ideal g a (suc c) = record {
  timer = if nat_eq (ideal g a c).timer 0 && is_some (oldest (ideal g a c).tags) then g - 1 else (ideal g a c).timer - 1;
  tags = (if nat_eq (ideal g a c).timer 0 then behind (ideal g a c).tags else (ideal g a c).tags) ++ option_to_list (tag a c);
}

abbrev row_of : Carried → Option ℕ → Option Row
row_of a None = None
row_of a (Some v) = a.tuple v

abbrev end_of_tag : Carried → Option ℕ → Bool
end_of_tag a None = false
end_of_tag a (Some v) = a.ends v

abbrev ideal_out : ℕ → Carried → Carried
ideal_out g a = record {
  tuple = λ c. row_of a (leaving_tag (nat_eq (ideal g a c).timer 0) (ideal g a c).tags);
  ends = λ c. end_of_tag a (leaving_tag (nat_eq (ideal g a c).timer 0) (ideal g a c).tags);
}

ideal_spaces : (g : ℕ) (a : Carried) (c : ℕ) → Spaces g (λ c. (ideal g a c).timer) a (ideal_out g a) (λ c. (ideal g a c).tags) c
ideal_spaces g a c = record {
  next = refl;
  count = refl;
  none = λ h. (ap (row_of a) h, ap (end_of_tag a) h);
  some = λ v h. (ap (row_of a) h, ap (end_of_tag a) h);
}

module _ (g : ℕ) (depth : ℕ) (passed : ℕ → Bool) (a o : Carried) (one : 1 ≤ g) (m : IsSpacer g depth passed a o) where
  abbrev pub go : ℕ → Bool
  go c = nat_eq (m.timer c) 0

  abbrev pub held_tags : ℕ → List ℕ
  held_tags = entries (tag a) go

  shown_is : (c : ℕ) → LowBefore passed c → m.shown c ≡ option_map (entry_at a) (oldest (held_tags c))
  shown_is c low = m.queue.shows c low ∙ ap oldest (held_entries a go c) ∙ first_of (held_tags c)
    where
      first_of : (xs : List ℕ) → oldest (map (entry_at a) xs) ≡ option_map (entry_at a) (oldest xs)
      first_of [] = refl
      first_of (x ∷ xs) = refl

  -- as long as the queue was not passed, the spacer works
  pub works : (c : ℕ) → LowBefore passed c → Spaces g m.timer a o held_tags c
  works c low = record {
    next = refl;
    count = m.next c ∙ ap (λ i. if go c && is_some i then g - 1 else m.timer c - 1) (shown_is c low) ∙ ap (λ i. if go c && i then g - 1 else m.timer c - 1) (same_some (oldest (held_tags c)));
    none = λ h. let x = none_of (go c) (oldest (held_tags c)) (m.shown c) (shown_is c low) (by_list (go c) (held_tags c) h) in (m.out c ∙ x.0, m.ends c ∙ x.1);
    some = λ v h. let x = some_of (go c) v (held_tags c) (m.shown c) (shown_is c low) h in (m.out c ∙ x.0, m.ends c ∙ x.1);
  }
    where
      same_some : (i : Option ℕ) → is_some (option_map (entry_at a) i) ≡ is_some i
      same_some None = refl
      same_some (Some v) = refl

      by_list : (b : Bool) (xs : List ℕ) → leaving_tag b xs ≡ None → (b ≡ false) ⊎ (oldest xs ≡ None)
      by_list true [] h = inr refl
      by_list true (x ∷ xs) h = absurd (cc h)
      by_list false xs h = inl refl

      none_of : (b : Bool) (i : Option ℕ) (s : Option Entry) → s ≡ option_map (entry_at a) i → (b ≡ false) ⊎ (i ≡ None) → ((if b then row_in s else None) ≡ None) × (b && end_in s ≡ false)
      none_of b i s e (inl p) = (rw p refl, rw p refl)
      none_of true i s e (inr p) = (rw (e, p) refl, rw (e, p) refl)
      none_of false i s e (inr p) = (refl, refl)

      some_of : (b : Bool) (v : ℕ) (xs : List ℕ) (s : Option Entry) → s ≡ option_map (entry_at a) (oldest xs) → leaving_tag b xs ≡ Some v → ((if b then row_in s else None) ≡ a.tuple v) × (b && end_in s ≡ a.ends v)
      some_of true v [] s e h = absurd (cc h)
      some_of true v (x ∷ xs) s e h = let q : x ≡ v = cc h in (rw e (ap a.tuple q), rw e (ap a.ends q))
      some_of false v xs s e h = absurd (cc h)

  more_low : (c : ℕ) → LowBefore passed c → passed c ≡ false → LowBefore passed (suc c)
  more_low c h e d l = elim (cases_lt d c) [ inl n ↦ h d n | inr n ↦ (let z : d ≡ c = omega (arith, n, l) in ap passed z ∙ e) ]

  -- a queue that holds no more than its places next is not passed now
  pub low_now : (c : ℕ) → LowBefore passed c → length (held_tags (suc c)) ≤ depth → LowBefore passed (suc c)
  low_now c low l =
      let held : entries (arrives a) go (suc c) ≡ map (entry_at a) (held_tags (suc c)) = held_entries a go (suc c) in
      let size : length (entries (arrives a) go (suc c)) ≡ length (held_tags (suc c)) = ap length held ∙ length-map (held_tags (suc c)) (entry_at a) in
      let off = not_passed depth (arrives a c) (entries (arrives a) go c) (go c) (omega (arith, size, l, length-append (if go c then behind (entries (arrives a) go c) else entries (arrives a) go c) (option_to_list (arrives a c)))) in
      more_low c low (m.queue.tells c low ∙ off)

module _ (fits_side : FitsIsSide) (g : ℕ) (f : Figures) (passed : ℕ → Bool) (a o : Carried) (one : 1 ≤ g) (sound : IsSound f) (m : IsSpacer g (f.ne + 1) passed a o) (beats : Beats) (spaced : Spaced (spacer_figures g f) beats) (fits_a : Fits f beats a) where
  side : Side f.a (last f) (most f) beats a
  side = fits_side f (spacer_figures g f) beats a sound (record { gt = omega arith; ge = omega arith }) spaced fits_a

  low_of : (e : Bool) → f.a ≤ last f e
  low_of true = omega (arith, sound.tuples_last, sound.end_last)
  low_of false = sound.tuples_last

  late_of : (t u : ℕ) (e d : Bool) → beats t ≡ Some e → beats u ≡ Some d → t < u → t + last f e < u + f.a
  late_of t u true d i j l = let far = spaced.apart t u true d i j l in omega (arith, far, sound.end_gap, sound.tuples_last, sound.end_last)
  late_of t u false d i j l = let far = spaced.apart t u false d i j l in omega (arith, far, sound.tuples_gap, sound.tuples_last)

  entries_of : (t u : ℕ) (e d : Bool) → beats t ≡ Some e → beats u ≡ Some d → t < u → t + last f e + g * most_entries f e ≤ u + f.a
  entries_of t u true d i j l = let far = spaced.apart t u true d i j l in omega (arith, far, sound.tuples_last, sound.end_last)
  entries_of t u false d i j l = elim (cases_lt 0 f.nt) [
    | inl n ↦ (let far = spaced.apart t u false d i j l in let z = last_of-some f.nt (f.a + 1) (f.lt + 1 + (f.nt - 1) * g) (omega (arith, n)) in let y = minus_one f.nt g (omega (arith, n)) in omega (arith, far, z, y, sound.tuples_last))
    | inr n ↦ (let far = late_of t u false d i j l in let none : f.nt ≡ 0 = omega (arith, n) in let y : g * f.nt ≡ 0 = rw none (omega arith) in omega (arith, far, y))
  ]

  wide : Wide g f beats
  wide = record { low = low_of; late = late_of; entries = entries_of }

  abbrev tags : ℕ → List ℕ
  tags = held_tags g (f.ne + 1) passed a o one m

  -- the spacer of such a source never holds more than its places, whatever its lines are
  abbrev ideal_tags : ℕ → List ℕ
  ideal_tags c = (ideal g a c).tags

  few_held : (c : ℕ) → length (ideal_tags c) ≤ f.ne + 1
  few_held c = by (phases g one (λ c. (ideal g a c).timer) a (ideal_out g a) ideal_tags f beats side wide (ideal_spaces g a) refl refl c)
    where
      most_one : (e : Bool) → most_entries f e ≤ f.ne + 1
      most_one true = omega arith
      most_one false = omega (arith, sound.tuples)

      times : (n k : ℕ) → g * n ≤ g * k → n ≤ k
      times n k h = elim (cases_lt k n) [ inl l ↦ absurd (omega (arith, mul-le-mul_left g l, h, one)) | inr l ↦ l ]

      by : Phase g one (λ c. (ideal g a c).timer) a (ideal_out g a) ideal_tags f beats side wide (ideal_spaces g a) refl c → length (ideal_tags c) ≤ f.ne + 1
      by (idle y) = let none = y.none in times (length (ideal_tags c)) (f.ne + 1) (omega (arith, none))
      by (busy t e y) = let fast = y.fast in times (length (ideal_tags c)) (f.ne + 1) (omega (arith, fast, mul-le-mul_left g (most_one e)))

  -- as long as its line is low, the spacer does as that one
  record Reached (c : ℕ) : Type 0 where
    low : LowBefore passed c
    timer : m.timer c ≡ (ideal g a c).timer
    held : tags c ≡ ideal_tags c

  reached : (c : ℕ) → Reached c
  reached zero = record { low = λ d l. absurd (omega (arith, l)); timer = m.first; held = refl }
  reached (suc c) =
      let r = reached c in
      let w = works g (f.ne + 1) passed a o one m c r.low in
      let t = r.timer in
      let h = r.held in
      let held : tags (suc c) ≡ ideal_tags (suc c) = rw (t, h) refl in
      record {
        low = low_now g (f.ne + 1) passed a o one m c r.low (omega (arith, ap length held, few_held (suc c)));
        timer = w.count ∙ (rw (t, h) refl);
        held = held;
      }

  spaces : (c : ℕ) → Spaces g m.timer a o tags c
  spaces c = works g (f.ne + 1) passed a o one m c (reached c).low

  its_time : (c v : ℕ) → Leaves m.timer tags c v → Timely g one m.timer a o tags f beats side wide spaces refl m.first c v
  its_time = timely g one m.timer a o tags f beats side wide spaces refl m.first

  left : (c v : ℕ) → Leaves m.timer tags c v → (o.tuple c ≡ a.tuple v) × (o.ends c ≡ a.ends v)
  left c v l = (spaces c).some v (leaves_tag m.timer tags c v l)

  high_of : (t c : ℕ) (e : Bool) → g ≤ g * most_entries f e → c + g ≤ t + last f e + 1 + g * most_entries f e → c ≤ t + last (spacer_figures g f) e
  high_of t c true n h = omega (arith, h)
  high_of t c false n h = let k = not_none g f.nt one n in let z = last_of-some f.nt (f.a + 1) (f.lt + 1 + (f.nt - 1) * g) k in let y = minus_one f.nt g k in omega (arith, h, z, y)

  leaves_at : (c : ℕ) → carries o c ≡ true → (v : ℕ) × Leaves m.timer tags c v
  leaves_at = carried_leaves g one m.timer a o tags spaces refl

  few_of : (t : ℕ) (e : Bool) → beats t ≡ Some e → length (rows o (t + (f.a + 1)) (suc (last (spacer_figures g f) e) - (f.a + 1))) ≤ most (spacer_figures g f) e
  few_of t true i =
      let n : suc (f.le + 1 + f.ne * g) - (f.a + 1) ≡ suc (f.le + 1 + f.ne * g - (f.a + 1)) = omega (arith, low_of true) in
      let at : t + (f.a + 1) ≡ suc (t + f.a) = omega arith in
      let opened : IsOpen f.a beats (t + f.a + suc (f.le + 1 + f.ne * g - (f.a + 1))) t true = record { is = i; low = omega arith; later = λ u d j l. let far = entries_of t u true d i j l in omega (arith, far, low_of true, one) } in
      rw (at, n) (few_out g one m.timer a o tags f beats side wide spaces refl m.first t (f.le + 1 + f.ne * g - (f.a + 1)) true opened)
  few_of t false i = elim (cases_lt 0 f.nt) [
    | inl k ↦ (let z = last_of-some f.nt (f.a + 1) (f.lt + 1 + (f.nt - 1) * g) (omega (arith, k)) in
        let n : suc (f.lt + 1 + (f.nt - 1) * g) - (f.a + 1) ≡ suc (f.lt + 1 + (f.nt - 1) * g - (f.a + 1)) = omega (arith, sound.tuples_last) in
        let at : t + (f.a + 1) ≡ suc (t + f.a) = omega arith in
        let opened : IsOpen f.a beats (t + f.a + suc (f.lt + 1 + (f.nt - 1) * g - (f.a + 1))) t false = record { is = i; low = omega arith; later = λ u d j l. let far = entries_of t u false d i j l in let y = minus_one f.nt g (omega (arith, k)) in omega (arith, far, y, sound.tuples_last, one) } in
        rw (at, z, n) (few_out g one m.timer a o tags f beats side wide spaces refl m.first t (f.lt + 1 + (f.nt - 1) * g - (f.a + 1)) false opened))
    | inr k ↦ (let none : f.nt ≡ 0 = omega (arith, k) in
        let z : last_of f.nt (f.a + 1) (f.lt + 1 + (f.nt - 1) * g) ≡ f.a + 1 = ap (λ v. last_of v (f.a + 1) (f.lt + 1 + (f.nt - 1) * g)) none in
        let n : suc (f.a + 1) - (f.a + 1) ≡ suc 0 = omega arith in
        let at : t + (f.a + 1) ≡ suc (t + f.a) = omega arith in
        let opened : IsOpen f.a beats (t + f.a + suc 0) t false = record { is = i; low = omega arith; later = λ u d j l. omega (arith, l) } in
        rw (at, z, n) (few_out g one m.timer a o tags f beats side wide spaces refl m.first t 0 false opened))
  ]

  -- an end that leaves is that of the open beat
  end_of : (c v : ℕ) (l : Leaves m.timer tags c v) → a.ends v ≡ true → (its_time c v l).end ≡ true
  end_of c v l e = let x = its_time c v l in side.end c x.beat v x.end x.open_beat x.low x.before e

  -- in the time of a beat with the end, its own end alone leaves
  own_end : (t : ℕ) (i j : beats t ≡ Some true) (c v : ℕ) → Leaves m.timer tags c v → t + f.a < c → c ≤ t + f.le + 1 + g * f.ne → a.ends v ≡ true → v ≡ (side.its_end t j).at
  own_end t i j c v l low high e =
      let x = its_time c v l in
      let opened = open_to g one m.timer a o tags f beats side wide spaces refl m.first t i c low high in
      (side.its_end t j).only c v opened (by x opened) x.before e
    where
      by : Timely g one m.timer a o tags f beats side wide spaces refl m.first c v → IsOpen f.a beats c t true → t + f.a ≤ v
      by x opened = elim (cases_order x.beat t) [
        | inl q ↦ (let low = x.low in omega (arith, low, q))
        | inr (inl q) ↦ absurd (let far = x.open_beat.later t true i q in omega (arith, far, low))
        | inr (inr q) ↦ absurd (let far = opened.later x.beat x.end x.is q in let at = x.open_beat.low in omega (arith, far, at))
      ]

  ends_carry : (c : ℕ) → o.ends c ≡ true → carries o c ≡ true
  ends_carry c h = or_right (is_some (o.tuple c)) (o.ends c) h

  ends_at : (c : ℕ) → o.ends c ≡ true → (v : ℕ) × Leaves m.timer tags c v × (a.ends v ≡ true)
  ends_at c h = let z = leaves_at c (ends_carry c h) in (z.0, z.1, sym (left c z.0 z.1).1 ∙ h)

  end_out : (t : ℕ) → beats t ≡ Some true → OneEnd (spacer_figures g f) o t
  end_out t i =
      let z = end_leaves g one m.timer a o tags f beats side wide spaces refl m.first t i in
      let d = side.its_end t i in
      let low = d.low in
      let before = z.1 in
      let high = z.2 in
      record {
        at = z.0;
        here = record { is = (left z.0 d.at z.3).1 ∙ d.ends; low = omega (arith, low, before); high = omega (arith, high) };
        only = λ c h. let e = ends_at c h.is in
            let lo = h.low in
            let hi = h.high in
            let same : e.0 ≡ d.at = own_end t i i c e.0 e.1 (omega (arith, lo)) (omega (arith, hi)) e.2 in
            elim (cases_order c z.0) [
              | inl q ↦ q
              | inr (inl q) ↦ absurd (omega (arith, in_order g one m.timer a o tags spaces refl c z.0 e.0 d.at e.1 z.3 q, same))
              | inr (inr q) ↦ absurd (omega (arith, in_order g one m.timer a o tags spaces refl z.0 c d.at e.0 z.3 e.1 q, same))
            ];
        after = λ c l hi. after z.0 z.3 c l (omega (arith, hi)) (omega (arith, low, before, l));
      }
    where
      after : (x : ℕ) → Leaves m.timer tags x (side.its_end t i).at → (c : ℕ) → x < c → c ≤ t + f.le + 1 + g * f.ne → t + f.a < c → o.tuple c ≡ None
      after x p c l hi lo = by (leaves_or_not g one m.timer a o tags spaces refl c)
        where
          by : ((v : ℕ) × Leaves m.timer tags c v) ⊎ ((o.tuple c ≡ None) × (o.ends c ≡ false) × (leaving_tag (nat_eq (m.timer c) 0) (tags c) ≡ None)) → o.tuple c ≡ None
          by (inr n) = n.0
          by (inl (v, q)) =
              let y = its_time c v q in
              (left c v q).0 ∙ (side.its_end t i).after c v (open_to g one m.timer a o tags f beats side wide spaces refl m.first t i c lo hi) (in_order g one m.timer a o tags spaces refl x c (side.its_end t i).at v p q l) y.before

  fits_o : Fits (spacer_figures g f) beats o
  fits_o = record {
    tuples = λ c r h. let z = leaves_at c (let s : is_some (o.tuple c) ≡ true = rw h refl in or_left (is_some (o.tuple c)) (o.ends c) s) in
        let x = its_time c z.0 z.1 in
        let low = x.low in
        let before = x.before in
        record { beat = x.beat; end = x.end; is = x.is; low = omega (arith, low, before); high = high_of x.beat c x.end x.some x.high };
    ends = λ c h. let z = ends_at c h in
        let x = its_time c z.0 z.1 in
        let low = x.low in
        let before = x.before in
        let e = end_of c z.0 z.1 z.2 in
        let high = high_of x.beat c x.end x.some x.high in
        record { beat = x.beat; is = x.is ∙ ap (λ b. Some b) e; low = omega (arith, low, before); high = rw e at high };
    few = few_of;
    end = end_out;
  }

  results : (t d z : ℕ) → beats t ≡ Some true → HasEnd f a t d → HasEnd (spacer_figures g f) o t z → (stream o z ≡ stream a d) × (d ≤ z)
  results t d z i ha ho =
      let e = ends_at z ho.is in
      let lo = ho.low in
      let hi = ho.high in
      let alo = ha.low in
      let ahi = ha.high in
      let same : e.0 ≡ (side.its_end t i).at = own_end t i i z e.0 e.1 (omega (arith, lo)) (omega (arith, hi)) e.2 in
      let mine : d ≡ (side.its_end t i).at = (side.its_end t i).only (t + f.le + 1 + g * f.ne) d (open_to g one m.timer a o tags f beats side wide spaces refl m.first t i (t + f.le + 1 + g * f.ne) (omega (arith, low_of true)) (omega arith)) alo (omega (arith, ahi)) ha.is in
      let at : e.0 ≡ d = same ∙ sym mine in
      let before = (its_time z e.0 e.1).before in
      let p : pending o z ≡ pending a e.0 = pending_at g one m.timer a o tags spaces refl z e.0 (flow g one m.timer a o tags spaces refl z) e.1 in
      let q : o.tuple z ≡ a.tuple e.0 = (left z e.0 e.1).0 in
      let all : stream o z ≡ stream a e.0 = rw (p, q) refl in
      (all ∙ ap (stream a) at, omega (arith, at, before))

  with_lines : ServedWithLines f (spacer_figures g f) (never Same) (only_passed passed) beats a o
  with_lines = record {
    spill = λ t. false;
    served = record {
      fits = fits_o;
      results = λ t d e i ha ho. ((results t d e i ha ho).0, refl);
      later = λ t d e i ha ho. (results t d e i ha ho).1;
    };
    low = λ c. (reached (suc c)).low c (omega arith);
    told = λ ends t i s. absurd (cc s);
    so = λ ends c h. absurd (cc h);
    late = λ ends c h. absurd (cc h);
  }

  carries_apart : CarriesApart g o
  carries_apart c d p q l = let x = leaves_at c (is_carries o c p) in let y = leaves_at d (is_carries o d q) in leave_apart g one m.timer a o tags spaces refl c d x.0 y.0 x.1 y.1 l

pub spacer_serves : FitsIsSide → SpacerServes
spacer_serves fits_side g f passed a o one sound m beats spaced fits_a = with_lines fits_side g f passed a o one sound m beats spaced fits_a

-- over the same beats, what leaves is apart
pub spacer_spaces : FitsIsSide → SpacerSpaces
spacer_spaces fits_side g f passed a o one sound m beats spaced fits_a = carries_apart fits_side g f passed a o one sound m beats spaced fits_a
