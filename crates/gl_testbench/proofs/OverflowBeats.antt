-- Beats that are cut behind a cycle: those up to it, and the end alone behind them where there are more.
use mathlib.Core.Path.{fun_ext}
use Rattle.std.proofs.Common.{◌≡◌, ℕ, zero, suc, ◌+◌, ◌<◌, ◌≤◌, inl, inr, true, false, cond, List, [], ◌∷◌, Option, None, Bool, refl, sym, ap, ◌∙◌, subst, arith, unwrap_or}
use Rattle.std.specs.Prelude.{option_map, slice_get, nat_le, IsTrue, if◌then◌else◌}
use Rattle.std.specs.List.{AllByRecursion, cons_option}
use Rattle.std.proofs.lemmas.Bool.{cases_lt}
use Rattle.std.proofs.lemmas.Bool.Decides.{eqb_tells, leb_tells}
use Rattle.gl_bits.specs.Words.{bit}
use Rattle.gl_gaps.specs.declared.Gaps.{Gaps}
use Rattle.gl_schema.specs.declared.schema.Stream.{Stream}
use Rattle.gl_schema.specs.declared.schema.Schema.{Schema}
use Rattle.gl_schema.specs.Beats.{Beat, Inputs, IsBeat, AreBeats, AreInOrder, AreRowsOf, beat_at, inputs_of, input_of, places_of, row_in, ticks_of, times_from, Beats, AreSpaced}
use Rattle.gl_gaps.specs.Keeps.{KeepsGaps, KeepsTicks}
use Rattle.gl_testbench.specs.Dues.{AreFrom}
use Rattle.gl_testbench.specs.Overflow.{beats_to, list_to}
use Rattle.gl_testbench.proofs.Due.{other_beat, this_beat, none_before, from_first}

-- ---- the end alone

abbrev pub no_rows : List Stream → List (Option (List ℕ))
no_rows [] = []
no_rows (s ∷ ss) = None ∷ no_rows ss

abbrev pub end_alone : Schema → ℕ → Beat
end_alone schema n = record { cycle = n; rows = no_rows schema.streams; tick = false; end = true }

no_rows_fit : (ss : List Stream) → AreRowsOf ss (no_rows ss)
no_rows_fit [] = tt
no_rows_fit (s ∷ ss) = (tt, no_rows_fit ss)

no_row : (ss : List Stream) (k : ℕ) → unwrap_or (slice_get (no_rows ss) k) None ≡ None
no_row [] k = refl
no_row (s ∷ ss) zero = refl
no_row (s ∷ ss) (suc k) = no_row ss k

end_is_beat : (schema : Schema) (n : ℕ) → IsBeat schema (end_alone schema n)
end_is_beat schema n = record { rows = no_rows_fit schema.streams; some' = λ e t. absurd (let z : true ≡ false = e in cc) }

-- ---- the cut

-- the beats up to a cycle, and where there are more this one behind them
abbrev pub cut_at : ℕ → Beat → List Beat → List Beat
cut_at c e [] = []
cut_at c e (b ∷ bs) = cond (nat_le b.cycle c) (b ∷ cut_at c e bs) (e ∷ [])

cut_later : (c : ℕ) (e b : Beat) (bs : List Beat) → b.cycle ≤ c → cut_at c e (b ∷ bs) ≡ b ∷ cut_at c e bs
cut_later c e b bs le = (elim (leb_tells b.cycle c) [ inl yes' ↦ rw yes'.0 refl | inr no' ↦ absurd (omega (arith, le, no'.1)) ])

cut_here : (c : ℕ) (e b : Beat) (bs : List Beat) → c < b.cycle → cut_at c e (b ∷ bs) ≡ e ∷ []
cut_here c e b bs lt = (elim (leb_tells b.cycle c) [ inl yes' ↦ absurd (omega (arith, lt, yes'.1)) | inr no' ↦ rw no'.0 refl ])

module _ (c : ℕ) (e : Beat) where
  cut_each : (P : Beat → Type 0) (bs : List Beat) → P e → AllByRecursion P bs → AllByRecursion P (cut_at c e bs)
  cut_each P [] last h = tt
  cut_each P (b ∷ bs) last h = elim (cases_lt c b.cycle) [
    | inl lt ↦ subst (AllByRecursion P) (sym (cut_here c e b bs lt)) (last, tt)
    | inr le ↦ subst (AllByRecursion P) (sym (cut_later c e b bs le)) (h.0, cut_each P bs last h.1)
  ]

  cut_order : (bs : List Beat) → IsTrue e.end → c < e.cycle → AreInOrder bs → AreInOrder (cut_at c e bs)
  cut_order [] end far h = absurd h
  cut_order (b ∷ []) end far h = elim (cases_lt c b.cycle) [
    | inl lt ↦ subst AreInOrder (sym (cut_here c e b [] lt)) end
    | inr le ↦ subst AreInOrder (sym (cut_later c e b [] le)) h
  ]
  cut_order (b ∷ d ∷ bs) end far h = elim (cases_lt c b.cycle) [
    | inl lt ↦ subst AreInOrder (sym (cut_here c e b (d ∷ bs) lt)) end
    | inr le ↦ subst AreInOrder (sym (cut_later c e b (d ∷ bs) le)) (elim (cases_lt c d.cycle) [
      | inl lt ↦ subst (λ (xs : List Beat). AreInOrder (b ∷ xs)) (sym (cut_here c e d bs lt)) (h.0, omega (arith, le, far), end)
      | inr le' ↦ subst (λ (xs : List Beat). AreInOrder (b ∷ xs)) (sym (cut_later c e d bs le')) (h.0, h.1, subst AreInOrder (cut_later c e d bs le') (cut_order (d ∷ bs) end far h.2))
    ])
  ]

  cut_gap : (gap : ℕ) (bs : List Beat) → c + gap ≤ e.cycle → AreSpaced gap bs → AreSpaced gap (cut_at c e bs)
  cut_gap gap [] far h = tt
  cut_gap gap (b ∷ []) far h = elim (cases_lt c b.cycle) [
    | inl lt ↦ subst (AreSpaced gap) (sym (cut_here c e b [] lt)) tt
    | inr le ↦ subst (AreSpaced gap) (sym (cut_later c e b [] le)) tt
  ]
  cut_gap gap (b ∷ d ∷ bs) far h = elim (cases_lt c b.cycle) [
    | inl lt ↦ subst (AreSpaced gap) (sym (cut_here c e b (d ∷ bs) lt)) tt
    | inr le ↦ subst (AreSpaced gap) (sym (cut_later c e b (d ∷ bs) le)) (elim (cases_lt c d.cycle) [
      | inl lt ↦ subst (λ (xs : List Beat). AreSpaced gap (b ∷ xs)) (sym (cut_here c e d bs lt)) (omega (arith, le, far), tt)
      | inr le' ↦ subst (λ (xs : List Beat). AreSpaced gap (b ∷ xs)) (sym (cut_later c e d bs le')) (h.0, subst (AreSpaced gap) (cut_later c e d bs le') (cut_gap gap (d ∷ bs) far h.1))
    ])
  ]

  cut_timed : (gap from : ℕ) (bs : List Beat) → from ≤ e.cycle → c + gap ≤ e.cycle → KeepsTicks gap from bs → KeepsTicks gap from (cut_at c e bs)
  cut_timed gap from [] low far h = tt
  cut_timed gap from (b ∷ bs) low far h = elim (cases_lt c b.cycle) [
    | inl lt ↦ subst (KeepsTicks gap from) (sym (cut_here c e b bs lt)) (λ t. low, tt)
    | inr le ↦ subst (KeepsTicks gap from) (sym (cut_later c e b bs le)) (h.0, cut_timed gap (if b.tick then b.cycle + gap else from) bs (still b.tick le) far h.1)
  ]
    where
      still : (t : Bool) → b.cycle ≤ c → (if t then b.cycle + gap else from) ≤ e.cycle
      still true le = omega (arith, le, far)
      still false le = low

  -- up to the cycle the same comes
  cut_same : (bs : List Beat) (k n : ℕ) → n ≤ c → c < e.cycle → AreFrom k bs → beat_at (cut_at c e bs) n ≡ beat_at bs n
  cut_same [] k n le far h = refl
  cut_same (b ∷ bs) k n le far h = elim (cases_lt c b.cycle) [
    | inl lt ↦
        ap (λ (xs : List Beat). beat_at xs n) (cut_here c e b bs lt) ∙ other_beat e [] n (λ q. absurd (omega (arith, q, le, far)))
        ∙ sym (none_before (b ∷ bs) n b.cycle (omega arith, h.1) (omega (arith, le, lt)))
    | inr up ↦ ap (λ (xs : List Beat). beat_at xs n) (cut_later c e b bs up) ∙ (elim (eqb_tells b.cycle n) [
      | inl here ↦ this_beat b (cut_at c e bs) n here.1 ∙ sym (this_beat b bs n here.1)
      | inr other ↦ other_beat b (cut_at c e bs) n other.1 ∙ cut_same bs (b.cycle + 1) n le far h.1 ∙ sym (other_beat b bs n other.1)
    ])
  ]

  -- and it brings what they bring by the cycle
  to_here : (b : Beat) (bs : List Beat) → b.cycle ≤ c → list_to c (b ∷ bs) ≡ b ∷ list_to c bs
  to_here b bs le = (elim (leb_tells b.cycle c) [ inl yes' ↦ rw yes'.0 refl | inr no' ↦ absurd (omega (arith, le, no'.1)) ])

  to_none : (bs : List Beat) (n : ℕ) → AreFrom n bs → c < n → list_to c bs ≡ []
  to_none [] n h lt = refl
  to_none (b ∷ bs) n h lt = (elim (leb_tells b.cycle c) [
    | inl yes' ↦ absurd (omega (arith, lt, h.0, yes'.1))
    | inr no' ↦ rw no'.0 (to_none bs (b.cycle + 1) h.1 (omega (arith, lt, h.0)))
  ])

  cut_input : (j : ℕ) (bs : List Beat) (k : ℕ) → row_in j e ≡ None → AreFrom k bs → input_of j (cut_at c e bs) ≡ input_of j (list_to c bs)
  cut_input j [] k none h = refl
  cut_input j (b ∷ bs) k none h = elim (cases_lt c b.cycle) [
    | inl lt ↦
        ap (input_of j) (cut_here c e b bs lt) ∙ ap (λ (o : Option (List ℕ)). cons_option o []) none
        ∙ sym (ap (input_of j) (to_none (b ∷ bs) b.cycle (omega arith, h.1) lt))
    | inr le ↦
        ap (input_of j) (cut_later c e b bs le) ∙ ap (cons_option (row_in j b)) (cut_input j bs (b.cycle + 1) none h.1)
        ∙ sym (ap (input_of j) (to_here b bs le))
  ]

  cut_places : (j : ℕ) (bs : List Beat) (k : ℕ) → row_in j e ≡ None → AreFrom k bs → places_of j (cut_at c e bs) ≡ places_of j (list_to c bs)
  cut_places j [] k none h = refl
  cut_places j (b ∷ bs) k none h = elim (cases_lt c b.cycle) [
    | inl lt ↦
        ap (places_of j) (cut_here c e b bs lt) ∙ ap (λ (o : Option (List ℕ)). cons_option (option_map (λ row. e.cycle) o) []) none
        ∙ sym (ap (places_of j) (to_none (b ∷ bs) b.cycle (omega arith, h.1) lt))
    | inr le ↦
        ap (places_of j) (cut_later c e b bs le) ∙ ap (cons_option (option_map (λ row. b.cycle) (row_in j b))) (cut_places j bs (b.cycle + 1) none h.1)
        ∙ sym (ap (places_of j) (to_here b bs le))
  ]

  cut_times : (j : ℕ) (bs : List Beat) (k before : ℕ) → row_in j e ≡ None → AreFrom k bs → times_from before j (cut_at c e bs) ≡ times_from before j (list_to c bs)
  cut_times j [] k before none h = refl
  cut_times j (b ∷ bs) k before none h = elim (cases_lt c b.cycle) [
    | inl lt ↦
        ap (times_from before j) (cut_here c e b bs lt) ∙ ap (λ (o : Option (List ℕ)). cons_option (option_map (λ row. before + bit e.tick) o) []) none
        ∙ sym (ap (times_from before j) (to_none (b ∷ bs) b.cycle (omega arith, h.1) lt))
    | inr le ↦
        ap (times_from before j) (cut_later c e b bs le)
        ∙ ap (cons_option (option_map (λ row. before + bit b.tick) (row_in j b))) (cut_times j bs (b.cycle + 1) (before + bit b.tick) none h.1)
        ∙ sym (ap (times_from before j) (to_here b bs le))
  ]

  cut_ticks : (bs : List Beat) (k : ℕ) → e.tick ≡ false → AreFrom k bs → ticks_of (cut_at c e bs) ≡ ticks_of (list_to c bs)
  cut_ticks [] k still h = refl
  cut_ticks (b ∷ bs) k still h = elim (cases_lt c b.cycle) [
    | inl lt ↦
        ap ticks_of (cut_here c e b bs lt) ∙ ap (λ (t : Bool). bit t + 0) still
        ∙ sym (ap ticks_of (to_none (b ∷ bs) b.cycle (omega arith, h.1) lt))
    | inr le ↦
        ap ticks_of (cut_later c e b bs le) ∙ ap (λ (n : ℕ). bit b.tick + n) (cut_ticks bs (b.cycle + 1) still h.1)
        ∙ sym (ap ticks_of (to_here b bs le))
  ]

inputs_same : (rows rows' : ℕ → List (List ℕ)) (places places' times times' : ℕ → List ℕ) (ticks ticks' : ℕ) (sets : List ℕ) → rows ≡ rows' → places ≡ places'
    → times ≡ times' → ticks ≡ ticks'
    → ◌≡◌ {A = Inputs} (record { rows = rows; places = places; times = times; ticks = ticks; sets = sets })
    (record { rows = rows'; places = places'; times = times'; ticks = ticks'; sets = sets })
inputs_same rows rows' places places' times times' ticks ticks' sets r p t n = cc

-- beats that keep the gaps, and agree with these up to a cycle, of which they bring what has come by then
pub record IsCut (schema : Schema) (gaps : Gaps) (c : ℕ) (beats cut : Beats) : Type 0 where
  pub are : AreBeats schema cut
  pub keeps : KeepsGaps gaps cut
  pub same : (n : ℕ) → n ≤ c → beat_at cut.list n ≡ beat_at beats.list n
  pub held : cut.sets ≡ beats.sets
  pub brings : inputs_of cut ≡ inputs_of (beats_to c beats)

-- the end comes behind both gaps
abbrev pub cut_of : Schema → Gaps → ℕ → Beats → Beats
cut_of schema gaps c beats =
    record beats { list = cut_at c (end_alone schema (suc (c + (gaps.of_beats + gaps.of_ticks)))) beats.list }

pub is_cut : (schema : Schema) (gaps : Gaps) (c : ℕ) (beats : Beats) → AreBeats schema beats → KeepsGaps gaps beats → IsCut schema gaps c beats (cut_of schema gaps c beats)
is_cut schema gaps c beats are keeps =
    let e : Beat = end_alone schema (suc (c + (gaps.of_beats + gaps.of_ticks))) in
    let all : List Beat = beats.list in
    let from : AreFrom 0 all = from_first all are.order in
    record {
      are = record {
        each = cut_each c e (IsBeat schema) all (end_is_beat schema (suc (c + (gaps.of_beats + gaps.of_ticks)))) are.each;
        order = cut_order c e all refl (omega arith) are.order;
        held = are.held;
      };
      keeps = record {
        each = cut_gap c e gaps.of_beats all (omega arith) keeps.each;
        ticks = cut_timed c e gaps.of_ticks 0 all (omega arith) (omega arith) keeps.ticks;
      };
      same = λ n le. cut_same c e all 0 n le (omega arith) from;
      held = refl;
      brings =
          inputs_same _ _ _ _ _ _ _ _ beats.sets (fun_ext (λ j. cut_input c e j all 0 (no_row schema.streams j) from))
          (fun_ext (λ j. cut_places c e j all 0 (no_row schema.streams j) from))
          (fun_ext (λ j. cut_times c e j all 0 0 (no_row schema.streams j) from)) (cut_ticks c e all 0 refl from);
    }
