-- Columns that are made of the rows, and the rows that pass.
use Rattle.std.proofs.Common.{◌≡◌, ℕ, zero, suc, ◌<◌, Some, List, length, [], ◌∷◌, ◌++◌, map, Bool, true, false, refl, sym, ap, ◌∙◌}
use Rattle.std.specs.Prelude.{◌&&◌, filter, if◌then◌else◌, nat_eq}
use Rattle.std.proofs.lemmas.List.{map-append}
use Rattle.std.proofs.lemmas.List.Elements.{filter-append}
use Rattle.std.proofs.lemmas.Option.{get_or_from_slice_get}
use Rattle.gl_algebra.specs.Columns.{ConditionFits, bit_kind, kind_of_column}
use Rattle.gl_bits.proofs.AllLists.{get_below}
use Rattle.gl_net.specs.declared.node.Bit.{Bit}
use Rattle.gl_net.specs.Net.{Net, Run, Keeps}
use Rattle.gl_rows.proofs.MadeLemmas.{source_kept}
use Rattle.gl_values.specs.declared.kind.Kind.{Kind}
use Rattle.gl_wire.specs.Wire.{line_at}
use Rattle.gl_wire.proofs.ColumnLemmas.{bit_kept}
use Rattle.gl_wire.proofs.StageLemmas.{line_first}
use Rattle.gl_wire_lanes.specs.Lanes.{row_in, rows_before}
use Rattle.gl_wire_lanes.proofs.RowLemmas.{rows_through}
use Rattle.gl_frames_wire.specs.CountNets.{streams_by}
use Rattle.gl_frames_stages.specs.Columns.{Tells, column_of}
use Rattle.gl_frames_stages.specs.Inputs.{HasInput}
use Rattle.gl_frames_stages.specs.declared.input.Input.{Input}
use Rattle.gl_frames_stages.specs.declared.lines.Lines.{Lines}
use Rattle.gl_frames_stages.proofs.TotalNet.{lane_rows}

-- ---- the column that is asked for

pub column_there : (kinds : List Kind) (column : ℕ) → ConditionFits kinds (Some column) → column < length kinds
column_there kinds column fits = get_below kinds column bit_kind fits

pub column_kind : (kinds : List Kind) (column : ℕ) → ConditionFits kinds (Some column) → kind_of_column kinds column ≡ bit_kind
column_kind kinds column fits = get_or_from_slice_get kinds column bit_kind bit_kind fits

-- ---- what is made of each row

module _ {B D : Type 0} (run : Run) (lines : Lines) (v : B → D) (row : ℕ → B) (x : ℕ → D) (is : (t : ℕ) → x (suc t) ≡ v (row (suc t))) where
  with_rows : (c : ℕ) → line_at run lines.valid c ≡ true → x c ≡ v (row c)
  with_rows zero p = absurd (let z = line_first run lines.valid in cc (z, p))
  with_rows (suc c) p = is c

  pub made_rows : (c : ℕ) → column_of run lines x c ≡ map v (column_of run lines row c)
  made_rows c =
      lane_rows run lines x c ∙ rows_through v (streams_by run lines.valid lines.eos) row x with_rows c
      ∙ ap (map v) (sym (lane_rows run lines row c))

pub tells_made : {A B D : Type 0} (run : Run) (lines : Lines) (m : ℕ) (v : B → D) (of : List D → A) (row : ℕ → B) (x : ℕ → D) (out : ℕ → A)
    → ((t : ℕ) → x (suc t) ≡ v (row (suc t))) → Tells run lines m of x out → Tells run lines m (λ rows. of (map v rows)) row out
tells_made run lines m v of row x out is h c p = h c p ∙ ap of (made_rows run lines v row x is (suc c))

pub tells_as : {A B : Type 0} (run : Run) (lines : Lines) (m : ℕ) (of other : List B → A) (row : ℕ → B) (out : ℕ → A)
    → ((rows : List B) → of rows ≡ other rows) → Tells run lines m of row out → Tells run lines m other row out
tells_as run lines m of other row out same h c p = h c p ∙ same (column_of run lines row (suc c))

-- ---- rows that pass

module _ {B : Type 0} (run : Run) (lines passing : Lines) (p : B → Bool) (v : B → ℕ) (row : ℕ → B) (x : ℕ → ℕ) (ends : passing.eos ≡ lines.eos)
    (line : (t : ℕ) → line_at run passing.valid (suc t) ≡ (line_at run lines.valid (suc t) && p (row (suc t)))) (is : (t : ℕ) → x (suc t) ≡ v (row (suc t))) where
  one_row : (a b : Bool) (r : B) (y : ℕ) → p r ≡ b → y ≡ v r → (if a && b then y ∷ [] else []) ≡ map v (filter p (if a then r ∷ [] else []))
  one_row false b r y e f = refl
  one_row true true r y e f = ap (λ n. n ∷ []) f ∙ sym (ap (λ (b : Bool). map v (if b then r ∷ [] else [])) e)
  one_row true false r y e f = sym (ap (λ (b : Bool). map v (if b then r ∷ [] else [])) e)

  low : (a b : Bool) (r : B) (y : ℕ) → a ≡ false → b ≡ false → (if a then y ∷ [] else []) ≡ map v (filter p (if b then r ∷ [] else []))
  low false false r y e f = refl
  low true b r y e f = absurd (cc)
  low false true r y e f = absurd (cc)

  own : (c : ℕ) → row_in (streams_by run passing.valid passing.eos) x c ≡ map v (filter p (row_in (streams_by run lines.valid lines.eos) row c))
  own zero = low (line_at run passing.valid zero) (line_at run lines.valid zero) (row zero) (x zero) (line_first run passing.valid) (line_first run lines.valid)
  own (suc c) =
      ap (λ (b : Bool). if b then x (suc c) ∷ [] else []) (line c)
      ∙ one_row (line_at run lines.valid (suc c)) (p (row (suc c))) (row (suc c)) (x (suc c)) refl (is c)

  stepped : (s e f : Bool) (ys : List ℕ) (xs : List B) (mine : List ℕ) (theirs : List B) → e ≡ f → ys ≡ map v (filter p xs) → mine ≡ map v (filter p theirs)
      → (if s then (if e then [] else ys ++ mine) else ys) ≡ map v (filter p (if s then (if f then [] else xs ++ theirs) else xs))
  stepped true true true ys xs mine theirs q g h = refl
  stepped true false false ys xs mine theirs q g h =
      ap (λ z. z ++ mine) g ∙ ap (λ z. map v (filter p xs) ++ z) h ∙ sym (map-append v (filter p xs) (filter p theirs)) ∙ ap (map v) (sym (filter-append p xs theirs))
  stepped true true false ys xs mine theirs q g h = absurd (cc)
  stepped true false true ys xs mine theirs q g h = absurd (cc)
  stepped false e f ys xs mine theirs q g h = g

  past : (k c : ℕ) → rows_before (streams_by run passing.valid passing.eos) x k c ≡ map v (filter p (rows_before (streams_by run lines.valid lines.eos) row k c))
  past k zero = refl
  past k (suc c) =
      stepped (nat_eq 0 k) (line_at run passing.eos c) (line_at run lines.eos c) (rows_before (streams_by run passing.valid passing.eos) x k c)
      (rows_before (streams_by run lines.valid lines.eos) row k c) (row_in (streams_by run passing.valid passing.eos) x c) (row_in (streams_by run lines.valid lines.eos) row c)
      (ap (λ (b : Bit). line_at run b c) ends) (past k c) (own c)

  pub passed_rows : (c : ℕ) → column_of run passing x c ≡ map v (filter p (column_of run lines row c))
  passed_rows c =
      lane_rows run passing x c
      ∙ ap (λ z. z ++ row_in (streams_by run passing.valid passing.eos) x c) (past 0 c)
      ∙ ap (λ z. map v (filter p (rows_before (streams_by run lines.valid lines.eos) row 0 c)) ++ z) (own c)
      ∙ sym (map-append v (filter p (rows_before (streams_by run lines.valid lines.eos) row 0 c)) (filter p (row_in (streams_by run lines.valid lines.eos) row c)))
      ∙ ap (map v) (sym (filter-append p (rows_before (streams_by run lines.valid lines.eos) row 0 c) (row_in (streams_by run lines.valid lines.eos) row c))
      ∙ ap (filter p) (sym (lane_rows run lines row c)))

-- ---- the netlist

pub input_kept : (old new : Net) (input : Input) → Keeps old new → HasInput old input → HasInput new input
input_kept old new input keeps is = record {
  valid = bit_kept old new input.lines.valid keeps is.valid;
  eos = bit_kept old new input.lines.eos keeps is.eos;
  source = source_kept old new input.source.columns.now input.source.kinds.now input.source.words.now keeps is.source;
}

-- without a FILTER all pass
pub all_pass : (b : Bool) → b ≡ (b && true)
all_pass true = refl
all_pass false = refl

-- a bit, as a line
pub bit_at : (run : Run) (line : Bit) (t n : ℕ) → run.at (suc t) line.node ≡ n → line_at run line (suc t) ≡ nat_eq n 1
unfolding line_at
bit_at run line t n e = ap (λ (k : ℕ). nat_eq k 1) e
