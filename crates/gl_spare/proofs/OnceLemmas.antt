-- Copies that are lifted, over one stream of the whole, and the back of one cycle: what comes out.
use Rattle.std.proofs.Common.{◌≡◌, ℕ, zero, suc, ◌+◌, ◌-◌, ◌<◌, ◌≤◌, List, [], ◌++◌, map, Some, None, Bool, true, false, refl, sym, ap, ◌∙◌, subst, arith, inl, inr, ◌⊎◌}
use Rattle.std.specs.Prelude.{option_to_list}
use Rattle.std.proofs.lemmas.List.{append-nil}
use Rattle.gl_algebra.specs.declared.figures.Figures.{Figures}
use Rattle.gl_algebra.specs.FigureTable.{IsSound}
use Rattle.gl_values.specs.Results.{Row, Results, AreJoined}
use Rattle.gl_wire.specs.Beats.{beats_of, Ends}
use Rattle.gl_wire.specs.Wire.{Carried, pending, stream, rows}
use Rattle.gl_wire.specs.Shapes.{IsDelayed}
use Rattle.gl_wire.specs.Spills.{Lines}
use Rattle.gl_wire.proofs.RowsLemmas.{rows-split, rows-quiet, pending-rows}
use Rattle.gl_wire.specs.Lift.{Visits, visits, tuple_of_any, all_of, Schedules, LiftedWithLines}
use Rattle.gl_wire.specs.Rotates.{lines_of_all}
use Rattle.gl_wire.proofs.AnyLemmas.{any_false, any_true, some_line}
use Rattle.gl_wire.proofs.LiftLemmas.{joined, any_quiet, Apart}
use Rattle.gl_wire.proofs.SpillLemmas.{any_spill, are_joined, spilling, spilt, wire_ends}

-- where what each copy takes without an end comes by a cycle, and by a later one nothing is pending, each copy's beats end
pub copies_end : (count u n : ℕ) (ins : ℕ → Carried) → ((k c : ℕ) (r : Row) → k < count → (ins k).tuple c ≡ Some r → (ins k).ends c ≡ false → c ≤ u)
    → ((k : ℕ) → k < count → pending (ins k) (u + suc n) ≡ []) → (k : ℕ) → k < count → Ends (beats_of (ins k))
copies_end count u n ins caused empties k l =
    wire_ends (ins k) (λ t r h calm. record { at = u + suc n; behind = omega (arith, caused k t r l h calm); none = empties k l })

module _ (s : Figures) (sound : IsSound s) (count turns u : ℕ) {Part : Type 0} (of : ℕ × List Row → Part) (parts : List Part) (who : Visits) (ins outs : ℕ → Carried) (sch : Schedules s count who ins)
    (over : (v k : ℕ) → who v ≡ Some k → v < u + turns + 2) (parted : map of (visits who ins 0 (u + turns + 2)) ≡ parts) (en : (k : ℕ) → k < count → Ends (beats_of (ins k)))
    (OfPart : Part → Results) (lines : ℕ → Lines) (lifted : LiftedWithLines s (λ v xs. OfPart (of (v, xs))) count who lines ins outs)
    (b : Carried) (close : ℕ → Bool) (back : IsDelayed 1 (record { tuple = tuple_of_any outs count; ends = close }) b)
    (close_at : close (u + (s.le + turns + 2)) ≡ true) (close_only : (c : ℕ) → close c ≡ true → c ≡ u + (s.le + turns + 2)) where
  abbrev pub ended : ℕ
  ended = suc (u + (s.le + turns + 2))

  abbrev means : ℕ → List Row → List Row → Type 0
  means v xs ys = OfPart (of (v, xs)) ys (lifted.spill v)

  quiet : (c : ℕ) → ((c < s.a) ⊎ (u + (s.le + turns + 2) ≤ c)) → tuple_of_any outs count c ≡ None
  quiet c (inl l) = any_quiet s means count who ins outs sch.apart lifted.lifted.near lifted.lifted.visit c (λ v k h low high. omega (arith, l, low))
  quiet c (inr l) = any_quiet s means count who ins outs sch.apart lifted.lifted.near lifted.lifted.visit c (λ v k h low high. omega (arith, l, high, over v k h))

  late_tuple : (c : ℕ) → b.tuple (suc c) ≡ tuple_of_any outs count c
  late_tuple c = let e : suc c ≡ c + 1 = omega arith in ap b.tuple e ∙ back.tuples c

  late_end : (c : ℕ) → b.ends (suc c) ≡ close c
  late_end c = let e : suc c ≡ c + 1 = omega arith in ap b.ends e ∙ back.ends c

  pub ends : b.ends ended ≡ true
  ends = late_end (u + (s.le + turns + 2)) ∙ close_at

  pub once : (c : ℕ) → b.ends c ≡ true → c ≡ ended
  once zero h = absurd (let z = back.no_end 0 (omega arith) in cc (z, h))
  once (suc c) h = ap suc (close_only c (sym (late_end c) ∙ h))

  pub none_later : (c : ℕ) → ended ≤ c → b.tuple c ≡ None
  none_later zero l = absurd (omega (arith, l))
  none_later (suc c) l = late_tuple c ∙ quiet c (inr (omega (arith, l)))

  rows_back : (n c : ℕ) → rows b (suc c) n ≡ rows (all_of outs count) c n
  rows_back zero c = refl
  rows_back (suc n) c = rw (late_tuple c, rows_back n (suc c)) refl

  no_end : (c : ℕ) → c < ended → b.ends c ≡ false
  no_end c l = by (b.ends c) refl
    where
      by : (x : Bool) → b.ends c ≡ x → b.ends c ≡ false
      by false p = p
      by true p = absurd (omega (arith, once c p, l))

  -- the whole's stream is all that came of the visits
  whole_stream : stream b ended ≡ rows (all_of outs count) (0 + s.a) (u + turns + 2 + (s.le - s.a))
  whole_stream =
      let n : 0 + ended ≡ ended = omega arith in
      let first : b.tuple 0 ≡ None = back.before 0 (omega arith) in
      let m : u + (s.le + turns + 2) ≡ s.a + (u + turns + 2 + (s.le - s.a)) = omega (arith, sound.tuples_last, sound.end_last) in
      let none = none_later ended (omega arith) in
      ap (λ o. pending b ended ++ option_to_list o) none ∙ append-nil (pending b ended)
      ∙ ap (pending b) (sym n) ∙ pending-rows b ended 0 (λ c l q. no_end c (omega (arith, q)))
      ∙ ap (λ o. option_to_list o ++ rows b 1 (u + (s.le + turns + 2))) first
      ∙ rows_back (u + (s.le + turns + 2)) 0
      ∙ ap (rows (all_of outs count) 0) m ∙ rows-split (all_of outs count) s.a (u + turns + 2 + (s.le - s.a)) 0
      ∙ ap (λ xs. xs ++ rows (all_of outs count) (0 + s.a) (u + turns + 2 + (s.le - s.a))) (rows-quiet (all_of outs count) s.a 0 (λ c l q. quiet c (inl (omega (arith, q)))))

  abbrev pub spill : Bool
  spill = any_spill lifted.spill (visits who ins 0 (u + turns + 2))

  around : Apart s means count who ins outs sch.apart lifted.lifted.near lifted.lifted.visit 0 (u + turns + 2)
  around = record { before = λ v k w l. absurd (omega (arith, l)); after = λ v k w l. absurd (omega (arith, l, over v k w)) }

  pub right : AreJoined OfPart parts (stream b ended) spill
  right =
      let j = joined s means count who ins outs sch.apart lifted.lifted.near lifted.lifted.visit (u + turns + 2) (u + turns + 2) 0 (omega arith) (omega (arith, sound.tuples_last, sound.end_last)) around in
      let r = are_joined lifted.spill of OfPart (visits who ins 0 (u + turns + 2)) (rows (all_of outs count) (0 + s.a) (u + turns + 2 + (s.le - s.a))) j in
      subst (λ ps. AreJoined OfPart ps (stream b ended) spill) parted (subst (λ ys. AreJoined OfPart (map of (visits who ins 0 (u + turns + 2))) ys spill) (sym whole_stream) r)

  -- ---- the lines

  pub unpassed : (c : ℕ) → (lines_of_all lines count).passed c ≡ false
  unpassed c = any_false (λ k. (lines k).passed c) count (λ k l. lifted.low k c l)

  pub told : spill ≡ true → (c : ℕ) × ((lines_of_all lines count).further c ≡ true)
  told e =
      let v = spilling lifted.spill who ins (u + turns + 2) 0 e in
      let x = lifted.told en v.0 v.1 v.2 v.3 in
      (x.1, any_true (λ k. (lines k).further x.1) count x.0 x.2 x.3)

  pub so : (c : ℕ) → (lines_of_all lines count).further c ≡ true → spill ≡ true
  so c e =
      let k = some_line (λ i. (lines i).further c) count e in
      let v = lifted.so en k.0 c k.1 k.2 in
      spilt lifted.spill who ins (u + turns + 2) 0 v.0 k.0 v.1 (omega arith) (omega (arith, over v.0 k.0 v.1)) v.2

  pub late : (c : ℕ) → (lines_of_all lines count).further c ≡ true → c ≤ ended
  late c e =
      let k = some_line (λ i. (lines i).further c) count e in
      let v = lifted.late en k.0 c k.1 k.2 in
      omega (arith, v.2, over v.0 k.0 v.1)
