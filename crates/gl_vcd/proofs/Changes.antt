-- Changes of a row, one after the other.
use Rattle.std.proofs.Common.{◌≡◌, ℕ, zero, suc, ◌+◌, ◌≤◌, Bool, true, false, ◌||◌, List, [], ◌∷◌, ◌++◌, drop, length, map, Option, Some, sym, ap, ◌∙◌, arith, add-one}
use Rattle.std.specs.Prelude.{slice_get, if◌then◌else◌}
use Rattle.std.proofs.lemmas.List.{drop_all}
use Rattle.gl_bits.specs.Limits.{most_ports}
use Rattle.gl_bits.specs.Words.{Word, widths_of}
use Rattle.gl_bits.proofs.AllLists.{length_map}
use Rattle.gl_vcd.specs.Dumped.{Port}
use Rattle.gl_vcd.specs.Written.{change, changes, cycle, has_new, is_new, is_told, time_line}

-- what is left of a row begins with its next word
row_from : (row : List Word) (i : ℕ) (w : Word) → slice_get row i ≡ Some w → drop i row ≡ w ∷ drop (suc i) row
row_from [] i w e = absurd cc
row_from (v ∷ vs) zero w e = cc
row_from (v ∷ vs) (suc i) w e = row_from vs i w e

row_next : (row : List Word) (i : ℕ) (w : Word) → slice_get row i ≡ Some w → drop i row ≡ w ∷ drop (i + 1) row
row_next row i w e = row_from row i w e ∙ ap (λ (n : ℕ). w ∷ drop n row) (sym (add-one i))

-- ---- the changes that are written

pub changes_next : (before : Option (List Word)) (row : List Word) (i : ℕ) (w : Word) (due : Bool) → slice_get row i ≡ Some w → due ≡ is_new before i w
    → changes before i (drop i row) ≡ (if due then change i w else []) ++ changes before (i + 1) (drop (i + 1) row)
changes_next before row i w due at new' =
    ap (changes before i) (row_next row i w at)
    ∙ ap (λ (b : Bool). (if b then change i w else []) ++ changes before (i + 1) (drop (i + 1) row)) (sym new')

pub changes_end : (before : Option (List Word)) (row : List Word) (i : ℕ) → length row ≤ i → changes before i (drop i row) ≡ []
changes_end before row i le = ap (changes before i) (drop_all i row le)

-- ---- whether there is one: what is left tells it as the whole does

new_next : (before : Option (List Word)) (row : List Word) (i : ℕ) (w : Word) → slice_get row i ≡ Some w
    → has_new before i (drop i row) ≡ (is_new before i w || has_new before (i + 1) (drop (i + 1) row))
new_next before row i w at = ap (has_new before i) (row_next row i w at)

pub new_here : (before : Option (List Word)) (row : List Word) (i : ℕ) (w : Word) → slice_get row i ≡ Some w → true ≡ is_new before i w
    → has_new before i (drop i row) ≡ has_new before 0 row → true ≡ has_new before 0 row
new_here before row i w at new' so_far =
    ap (λ (b : Bool). b || has_new before (i + 1) (drop (i + 1) row)) new' ∙ sym (new_next before row i w at) ∙ so_far

pub new_behind : (before : Option (List Word)) (row : List Word) (i : ℕ) (w : Word) → slice_get row i ≡ Some w → false ≡ is_new before i w
    → has_new before i (drop i row) ≡ has_new before 0 row → has_new before (i + 1) (drop (i + 1) row) ≡ has_new before 0 row
new_behind before row i w at old so_far =
    ap (λ (b : Bool). b || has_new before (i + 1) (drop (i + 1) row)) old ∙ sym (new_next before row i w at) ∙ so_far

pub new_none : (before : Option (List Word)) (row : List Word) (i : ℕ) → length row ≤ i
    → has_new before i (drop i row) ≡ has_new before 0 row → false ≡ has_new before 0 row
new_none before row i le so_far = sym (ap (has_new before i) (drop_all i row le)) ∙ so_far

-- ---- a cycle

pub cycle_is : (at : ℕ) (before : Option (List Word)) (row : List Word) (due : Bool) → due ≡ is_told before row
    → (if due then time_line at else []) ++ changes before 0 row ≡ cycle at before row
unfolding cycle
cycle_is at before row due e = ap (λ (b : Bool). (if b then time_line at else []) ++ changes before 0 row) e

-- a row of these ports is as long as they are many
pub row_few : (row : List Word) (ports : List Port) → widths_of row ≡ map (λ p. p.width) ports → length ports ≤ most_ports → length row ≤ most_ports
row_few row ports same few =
    let long : length row ≡ length ports =
    sym (length_map (λ (w : Word). w.width) row) ∙ ap length same ∙ length_map (λ (p : Port). p.width) ports in
    omega (arith, long, few)
