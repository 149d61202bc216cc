-- A ring of a stream that never ends, whose rows are all cycles, is a delay.
use Rattle.std.proofs.Common.{◌≡◌, ℕ, zero, suc, ◌+◌, ◌<◌, ◌≤◌, List, [], ◌∷◌, ◌++◌, Some, None, Bool, true, false, length, refl, sym, ap, ◌∙◌, arith, eq-eqb, length-append}
use Rattle.std.specs.Prelude.{◌&&◌, if◌then◌else◌, nat_eq, slice_get}
use Rattle.std.proofs.lemmas.Bool.{le-leb, lt-leb}
use Rattle.gl_bits.proofs.Options.{some_same}
use Rattle.gl_net.specs.declared.node.Bit.{Bit}
use Rattle.gl_net.specs.declared.node.Bus.{Bus}
use Rattle.gl_net.specs.Net.{Net, Run}
use Rattle.gl_wire.specs.Costs.{Cost}
use Rattle.gl_wire.specs.Wire.{line_at}
use Rattle.gl_wire.proofs.StageLemmas.{line_first}
use Rattle.gl_divide.specs.Divider.{IsLineBehind}
use Rattle.gl_wire_lanes.specs.Lanes.{row_in}
use Rattle.gl_frames.specs.Frames.{row_before}
use Rattle.gl_frames.proofs.LastLemmas.{ends_with}
use Rattle.gl_frames.proofs.ListLemmas.{before_past, one_more}
use Rattle.gl_frames_wire.specs.CountNets.{streams_by}
use Rattle.gl_frames_wire.specs.Since.{own_ends, rows_since}
use Rattle.gl_frames_wire.proofs.RingLemmas.{one_in}
use Rattle.gl_totals.specs.Delays.{IsBitBehind, IsBusBehind}
use Rattle.gl_frames_stages.specs.Columns.{Tells, column_of}
use Rattle.gl_frames_stages.specs.DelayNets.{IsFarIn, IsFarLineIn, IsLateIn, IsLateLineIn, cost_of_far, cost_of_far_line, near_cost}
use Rattle.gl_frames_stages.specs.LaggedNets.{maybe_at}
use Rattle.gl_frames_stages.specs.declared.lagged.Maybe.{Maybe}
use Rattle.gl_frames_stages.specs.declared.lines.Lines.{Lines}

row_further : {B : Type 0} (j : ℕ) (xs : List B) (x : B) → row_before (suc j) (xs ++ x ∷ []) ≡ row_before j xs
row_further j xs x = ap (λ l. slice_get l (suc j)) (one_more xs x)

module _ {B : Type 0} (run : Run) (lines : Lines) (high : (t : ℕ) → line_at run lines.valid (suc t) ≡ true) (low : (t : ℕ) → line_at run lines.eos t ≡ false) (row : ℕ → B) where
  own : (c : ℕ) → row_in (streams_by run lines.valid lines.eos) row (suc c) ≡ row (suc c) ∷ []
  own c = one_in (line_at run lines.valid (suc c)) (row (suc c)) (high c)

  joined : (s e : Bool) (xs mine : List B) → s ≡ true → e ≡ false → (if s && e then [] else (if s then xs ++ mine else xs)) ≡ xs ++ mine
  joined true false xs mine p q = refl
  joined true true xs mine p q = absurd (cc)
  joined false e xs mine p q = absurd (cc)

  grown : (c : ℕ) → column_of run lines row (suc (suc c)) ≡ column_of run lines row (suc c) ++ row (suc (suc c)) ∷ []
  grown c =
      ap (λ mine. rows_since (own_ends (streams_by run lines.valid lines.eos)) (streams_by run lines.valid lines.eos) row 0 (suc (suc c)) ++ mine) (own (suc c))
      ∙ ap (λ xs. xs ++ row (suc (suc c)) ∷ [])
      (joined (nat_eq 0 0) (line_at run lines.eos (suc c)) (rows_since (own_ends (streams_by run lines.valid lines.eos)) (streams_by run lines.valid lines.eos) row 0 (suc c))
      (row_in (streams_by run lines.valid lines.eos) row (suc c)) (eq-eqb 0 0 refl) (low (suc c)))

  pub all_rows : (j t : ℕ) → row_before j (column_of run lines row (suc (t + j))) ≡ Some (row (suc t))
  all_rows zero t =
      let e : suc (t + zero) ≡ suc t = omega arith in
      ap (λ n. row_before 0 (column_of run lines row n)) e
      ∙ ap (λ mine. row_before 0 (rows_since (own_ends (streams_by run lines.valid lines.eos)) (streams_by run lines.valid lines.eos) row 0 (suc t) ++ mine)) (own t)
      ∙ ends_with (rows_since (own_ends (streams_by run lines.valid lines.eos)) (streams_by run lines.valid lines.eos) row 0 (suc t)) (row (suc t))
  all_rows (suc j) t =
      let e : suc (t + suc j) ≡ suc (suc (t + j)) = omega arith in
      ap (λ n. row_before (suc j) (column_of run lines row n)) e ∙ ap (row_before (suc j)) (grown (t + j))
      ∙ row_further j (column_of run lines row (suc (t + j))) (row (suc (suc (t + j)))) ∙ all_rows j t

module _ {B : Type 0} (run : Run) (lines : Lines) (high : (t : ℕ) → line_at run lines.valid (suc t) ≡ true) (low : (t : ℕ) → line_at run lines.eos t ≡ false) (row : ℕ → B) where
  first_row : (s e v : Bool) (x : B) → e ≡ false → v ≡ false → length (if s && e then [] else (if s then [] ++ (if v then x ∷ [] else []) else [])) ≡ 0
  first_row true e v x p q = by e v p q
    where
      by : (e v : Bool) → e ≡ false → v ≡ false → length (if e then [] else ([] ++ (if v then x ∷ [] else []))) ≡ 0
      by true v p q = refl
      by false true p q = absurd (cc)
      by false false p q = refl
  first_row false e v x p q = refl

  -- as many rows as cycles
  pub all_many : (c : ℕ) → length (column_of run lines row (suc c)) ≡ suc c
  all_many zero =
      let past : List B = rows_since (own_ends (streams_by run lines.valid lines.eos)) (streams_by run lines.valid lines.eos) row 0 (suc zero) in
      let none : length past ≡ 0 = first_row (nat_eq 0 0) (line_at run lines.eos zero) (line_at run lines.valid zero) (row zero) (low zero) (line_first run lines.valid) in
      let long : length (past ++ row (suc zero) ∷ []) ≡ length past + 1 = length-append past (row (suc zero) ∷ []) in
      ap (λ mine. length (past ++ mine)) (own run lines high low row zero) ∙ omega (arith, long, none)
  all_many (suc c) =
      let xs : List B = column_of run lines row (suc c) in
      let long : length (xs ++ row (suc (suc c)) ∷ []) ≡ length xs + 1 = length-append xs (row (suc (suc c)) ∷ []) in
      ap length (grown run lines high low row c) ∙ omega (arith, long, all_many c)

-- a line through a ring is low until the ring has been round
module _ (run : Run) (lines : Lines) (high : (t : ℕ) → line_at run lines.valid (suc t) ≡ true) (low : (t : ℕ) → line_at run lines.eos t ≡ false) (source out : Bit) (found : Maybe) (value : ℕ → ℕ) (back : ℕ)
    (some : 1 ≤ back) (fresh : line_at run found.some 1 ≡ false) (tells : Tells run lines 1 (row_before back) value (maybe_at run found)) (is : (t : ℕ) → value t ≡ run.at t source.node)
    (chosen : (t : ℕ) → run.at (suc t) out.node ≡ (if line_at run found.some (suc t) then run.at (suc t) found.word.node else 0)) where
  absent : (b : Bool) (x : ℕ) → (if b then Some x else None) ≡ None → b ≡ false
  absent true x e = absurd (cc)
  absent false x e = refl

  present : (b : Bool) (x y : ℕ) → (if b then Some x else None) ≡ Some y → (if b then x else 0) ≡ y
  present true x y e = some_same x y e
  present false x y e = absurd (cc)

  dark : (t : ℕ) → line_at run found.some (suc t) ≡ false → line_at run out (suc t) ≡ false
  unfolding line_at
  dark t e = ap (λ (n : ℕ). nat_eq n 1) (chosen t ∙ ap (λ (b : Bool). if b then run.at (suc t) found.word.node else 0) e)

  shown : (t u : ℕ) → maybe_at run found (suc t) ≡ Some (value (suc u)) → line_at run out (suc t) ≡ line_at run source (suc u)
  unfolding line_at
  shown t u e =
      ap (λ (n : ℕ). nat_eq n 1)
      (chosen t ∙ present (nat_eq (run.at (suc t) found.some.node) 1) (run.at (suc t) found.word.node) (value (suc u)) e ∙ is (suc u))

  -- before it has been round there is none
  none_yet : (e : ℕ) → suc e ≤ back → line_at run found.some (suc (suc e)) ≡ false
  none_yet e le =
      let at : suc e + 1 ≡ suc (suc e) = omega arith in
      absent (line_at run found.some (suc (suc e))) (run.at (suc (suc e)) found.word.node)
      (sym (ap (maybe_at run found) at) ∙ tells e (high e)
      ∙ before_past back (column_of run lines value (suc e)) (let n = all_many run lines high low value e in omega (arith, n, le)))

  quiet : (c : ℕ) → c ≤ suc back → line_at run out c ≡ false
  quiet zero le = line_first run out
  quiet (suc zero) le = dark zero fresh
  quiet (suc (suc e)) le = dark (suc e) (none_yet e (omega (arith, le)))

  pub line_far : (cycles : ℕ) → cycles ≡ suc back → IsLineBehind run cycles source out
  line_far cycles long = record { before = λ c lt. quiet c (omega (arith, lt, long)); line = later }
    where
      later : (t : ℕ) → line_at run out (t + cycles) ≡ line_at run source t
      later zero = let e : zero + cycles ≡ suc back = omega (arith, long) in ap (line_at run out) e ∙ quiet (suc back) (omega arith) ∙ sym (line_first run source)
      later (suc u) =
          let e : suc u + cycles ≡ suc (suc (u + back)) = omega (arith, long) in
          let f : suc (suc (u + back)) ≡ suc (u + back) + 1 = omega arith in
          ap (line_at run out) e
          ∙ shown (suc (u + back)) u (ap (maybe_at run found) f ∙ tells (u + back) (high (u + back)) ∙ all_rows run lines high low value back u)

there : (b : Bool) (w x : ℕ) → (if b then Some w else None) ≡ Some x → w ≡ x
there true w x e = some_same w x e
there false w x e = absurd (cc)

pub far_behind : (run : Run) (lines : Lines) (high : (t : ℕ) → line_at run lines.valid (suc t) ≡ true) (low : (t : ℕ) → line_at run lines.eos t ≡ false) (row : ℕ → ℕ) (out : Maybe) (back cycles : ℕ)
    → cycles ≡ suc back → Tells run lines 1 (row_before back) row (maybe_at run out) → (t : ℕ) → run.at (suc t + cycles) out.word.node ≡ row (suc t)
far_behind run lines high low row out back cycles long h t =
    let e : suc t + cycles ≡ suc (t + back) + 1 = omega (arith, long) in
    ap (λ n. run.at n out.word.node) e
    ∙ there (line_at run out.some (suc (t + back) + 1)) (run.at (suc (t + back) + 1) out.word.node) (row (suc t))
    (h (t + back) (high (t + back)) ∙ all_rows run lines high low row back t)

-- in registers, where they are few
pub near_late : (old new : Net) (cycles : ℕ) (source out : Bus) → cycles ≤ 4 → IsBusBehind old new cycles source out → IsLateIn old new cycles source out
near_late old new cycles source out few h =
    let is = ap (λ (b : Bool). if b then near_cost cycles source.width else cost_of_far cycles source.width) (le-leb cycles 4 few) in
    record {
      keeps = h.keeps;
      cost = record {
        nodes = omega (arith, h.cost.nodes, ap (λ (k : Cost). k.nodes) is);
        registers = omega (arith, h.cost.registers, ap (λ (k : Cost). k.registers) is);
        memories = omega (arith, h.cost.memories, ap (λ (k : Cost). k.memories) is);
      };
      bus = h.bus;
      same_width = h.same_width;
      value = h.value;
    }

-- in a ring, where they are many
pub far_late : (old new : Net) (cycles : ℕ) (source out : Bus) → 4 < cycles → IsFarIn old new cycles source out → IsLateIn old new cycles source out
far_late old new cycles source out many h =
    let is = ap (λ (b : Bool). if b then near_cost cycles source.width else cost_of_far cycles source.width) (lt-leb cycles 4 many) in
    record {
      keeps = h.keeps;
      cost = record {
        nodes = omega (arith, h.cost.nodes, ap (λ (k : Cost). k.nodes) is);
        registers = omega (arith, h.cost.registers, ap (λ (k : Cost). k.registers) is);
        memories = omega (arith, h.cost.memories, ap (λ (k : Cost). k.memories) is);
      };
      bus = h.bus;
      same_width = h.same_width;
      value = h.value;
    }

-- a line, in what is cheaper
pub near_line : (old new : Net) (cycles : ℕ) (source out : Bit) → cycles ≤ 23 → IsBitBehind old new cycles source out → IsLateLineIn old new cycles source out
near_line old new cycles source out few h =
    let is = ap (λ (b : Bool). if b then record { nodes = cycles; registers = cycles; memories = 0 } else cost_of_far_line cycles) (le-leb cycles 23 few) in
    record {
      keeps = h.keeps;
      cost = record {
        nodes = omega (arith, h.cost.nodes, ap (λ (k : Cost). k.nodes) is);
        registers = omega (arith, h.cost.registers, ap (λ (k : Cost). k.registers) is);
        memories = omega (arith, h.cost.memories, ap (λ (k : Cost). k.memories) is);
      };
      bit = h.bit;
      line = h.line;
    }

pub far_line : (old new : Net) (cycles : ℕ) (source out : Bit) → 23 < cycles → IsFarLineIn old new cycles source out → IsLateLineIn old new cycles source out
far_line old new cycles source out many h =
    let is = ap (λ (b : Bool). if b then record { nodes = cycles; registers = cycles; memories = 0 } else cost_of_far_line cycles) (lt-leb cycles 23 many) in
    record {
      keeps = h.keeps;
      cost = record {
        nodes = omega (arith, h.cost.nodes, ap (λ (k : Cost). k.nodes) is);
        registers = omega (arith, h.cost.registers, ap (λ (k : Cost). k.registers) is);
        memories = omega (arith, h.cost.memories, ap (λ (k : Cost). k.memories) is);
      };
      bit = h.bit;
      line = h.line;
    }
