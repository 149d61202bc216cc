-- The cycles that are written give the signals the values of their rows.
use Rattle.std.proofs.Common.{◌≡◌, ℕ, zero, suc, ◌+◌, ◌^◌, ◌<◌, ◌≤◌, Bool, true, false, not, ◌&&◌, List, [], ◌∷◌, ◌++◌, length, Option, Some, None, Ok, Err, refl, sym, ap, subst, ◌∙◌, append_assoc, append-nil, arith, eqb-true, le-ltb, lt-ltb}
use Rattle.std.specs.Prelude.{bytes_eq, codes, decimal, nat_eq, nat_le, nat_lt, slice_get, if◌then◌else◌}
use Rattle.std.specs.List.{list_any}
use Rattle.std.proofs.lemmas.Bool.{cond-false, cond-true, lt-leb, or_parts}
use Rattle.std.proofs.lemmas.Fmt.{decimal_digit}
use Rattle.gl_bits.specs.Limits.{latest_time}
use Rattle.gl_bits.specs.Words.{Word}
use Rattle.gl_bits.proofs.Bools.{by_cases, not_true}
use Rattle.gl_schema.specs.SchemaText.{is_blank}
use Rattle.gl_tuples.specs.Values.{number_in}
use Rattle.gl_vcd.specs.declared.fault.VcdFault.TheVariants.{Syntax}
use Rattle.gl_vcd.specs.Reading.{Reading, Stage, Step, Changes, Closed, Vector, are_bits, binary_in, given, given_at, given_to, later_time, next}
use Rattle.gl_vcd.specs.Signals.{Change, Signal, all_given, number_of_code}
use Rattle.gl_vcd.specs.Written.{binary, change, changes, code_of, cycle, cycles, has_new, is_new, time_line}
use Rattle.gl_vcd.proofs.Bytes.{Reads, is_word, reads_none, reads_pair, reads_same, reads_then, reads_to, reads_word, token}
use Rattle.gl_vcd.proofs.Declarations.{code_word}
use Rattle.gl_vcd.proofs.Numerals.{binary_bits, binary_dark, binary_value, decimal_dark, decimal_is, decimal_value, word_behind}
use Rattle.gl_vcd.proofs.Values.{AreGiven, change_at, change_if, changes_in, changes_of, given_all, given_first, given_more}

-- what was read of changes
abbrev pub changing : List Signal → Option ℕ → List Change → Stage → Reading
changing signals time changes stage = record { stage = stage; scope = Closed; signals = signals; time = time; changes = changes }

-- ---- one change

-- a word that the signal of this number takes
pub record Takes (signals : List Signal) (i : ℕ) (w : Word) : Type 0 where
  pub signal : Signal
  pub found : number_of_code signals (code_of i) ≡ Some i
  pub there : slice_get signals i ≡ Some signal
  pub fits' : w.bits < 2 ^ signal.width
  pub narrow : w.width ≡ 1 → w.bits < 2
  pub small : w.bits < 2 ^ 128

given_step : (signals : List Signal) (time i at value : ℕ) (w : Word) (cs : List Change) (stage : Stage) → Takes signals i w → value ≡ w.bits
    → given (changing signals (Some time) cs stage) at value (code_of i) ≡ Ok (changing signals (Some time) (cs ++ change_at time i w ∷ []) Changes)
given_step signals time i at value w cs stage takes same =
    let r : Reading = changing signals (Some time) cs stage in
    ap (given_at r time at value) takes.found ∙ ap (given_to r time at value i) takes.there
    ∙ ap (λ (v : ℕ). given_to r time at v i (Some takes.signal)) same
    ∙ cond-true (nat_lt w.bits (2 ^ takes.signal.width)) _ _ (lt-ltb w.bits (2 ^ takes.signal.width) takes.fits')

bit_word : (b i : ℕ) → 33 ≤ b → is_word (b ∷ code_of i) ≡ true
bit_word b i low = word_behind b (code_of i) low (not_true (list_any is_blank (code_of i)) (code_word i))

bit_step : (signals : List Signal) (time i bit at : ℕ) (w : Word) (cs : List Change) → Takes signals i w → bit ≡ w.bits → bit < 2
    → next (changing signals (Some time) cs Changes) (token at ((48 + bit) ∷ code_of i)) ≡ Ok (changing signals (Some time) (cs ++ change_at time i w ∷ []) Changes)
unfolding next
bit_step signals time i zero at w cs takes same lt = given_step signals time i at 0 w cs Changes takes same
bit_step signals time i (suc zero) at w cs takes same lt = given_step signals time i at 1 w cs Changes takes same
bit_step signals time i (suc (suc bit)) at w cs takes same lt = absurd (omega (arith, lt))

-- a bit
bit_text : (i : ℕ) (w : Word) → nat_eq w.width 1 ≡ true → w.bits < 2 → ((48 + w.bits) ∷ code_of i) ++ 10 ∷ [] ≡ change i w
bit_text i w one lt =
    ap (λ (x : List ℕ). (x ++ code_of i) ++ 10 ∷ []) (sym (decimal_digit w.bits (omega (arith, lt))) ∙ sym (cond-true (nat_eq w.width 1) (decimal w.bits) (98 ∷ (binary w.bits ++ 32 ∷ [])) one))

read_bit : (signals : List Signal) (time i : ℕ) (w : Word) (cs : List Change) → Takes signals i w → nat_eq w.width 1 ≡ true
    → Reads (changing signals (Some time) cs Changes) (change i w) (changing signals (Some time) (cs ++ change_at time i w ∷ []) Changes)
read_bit signals time i w cs takes one =
    let lt : w.bits < 2 = takes.narrow (eqb-true w.width 1 one) in
    let r : Reading = changing signals (Some time) cs Changes in
    let r' : Reading = changing signals (Some time) (cs ++ change_at time i w ∷ []) Changes in
    reads_same r r' _ _ (bit_text i w one lt)
    (reads_word r r' ((48 + w.bits) ∷ code_of i) 10 (bit_word (48 + w.bits) i (omega arith)) refl (λ at. bit_step signals time i w.bits at w cs takes refl lt))

-- more bits
bits_text : (i : ℕ) (w : Word) → nat_eq w.width 1 ≡ false → ((98 ∷ binary w.bits) ++ 32 ∷ []) ++ (code_of i ++ 10 ∷ []) ≡ change i w
bits_text i w more =
    sym (append_assoc (98 ∷ (binary w.bits ++ 32 ∷ [])) (code_of i) (10 ∷ []))
    ∙ ap (λ (x : List ℕ). (x ++ code_of i) ++ 10 ∷ []) (sym (cond-false (nat_eq w.width 1) (decimal w.bits) (98 ∷ (binary w.bits ++ 32 ∷ [])) more))

bits_step : (signals : List Signal) (time at v : ℕ) (cs : List Change)
    → next (changing signals (Some time) cs Changes) (token at (98 ∷ binary v)) ≡ Ok (changing signals (Some time) cs (Vector at (binary v)))
unfolding next
bits_step signals time at v cs = cond-true (are_bits (binary v)) _ _ (binary_bits v)

code_step : (signals : List Signal) (time i at later : ℕ) (w : Word) (cs : List Change) → Takes signals i w
    → next (changing signals (Some time) cs (Vector at (binary w.bits))) (token later (code_of i)) ≡ Ok (changing signals (Some time) (cs ++ change_at time i w ∷ []) Changes)
unfolding next
code_step signals time i at later w cs takes =
    given_step signals time i at (binary_in (binary w.bits)) w cs (Vector at (binary w.bits)) takes (binary_value w.bits takes.small)

read_bits : (signals : List Signal) (time i : ℕ) (w : Word) (cs : List Change) → Takes signals i w → nat_eq w.width 1 ≡ false
    → Reads (changing signals (Some time) cs Changes) (change i w) (changing signals (Some time) (cs ++ change_at time i w ∷ []) Changes)
read_bits signals time i w cs takes more =
    let r : Reading = changing signals (Some time) cs Changes in
    let r' : Reading = changing signals (Some time) (cs ++ change_at time i w ∷ []) Changes in
    reads_same r r' _ _ (bits_text i w more)
    (reads_pair r r' (λ at. changing signals (Some time) cs (Vector at (binary w.bits))) (98 ∷ binary w.bits) (code_of i) 32 10
    (word_behind 98 (binary w.bits) (omega arith) (binary_dark w.bits)) (code_word i) refl refl
    (λ at. bits_step signals time at w.bits cs) (λ at later. code_step signals time i at later w cs takes))

read_change : (signals : List Signal) (time i : ℕ) (w : Word) (cs : List Change) → Takes signals i w
    → Reads (changing signals (Some time) cs Changes) (change i w) (changing signals (Some time) (cs ++ change_at time i w ∷ []) Changes)
read_change signals time i w cs takes = by_cases (nat_eq w.width 1) (read_bit signals time i w cs takes) (read_bits signals time i w cs takes)

-- ---- the changes of a row

abbrev pub AllTaken : List Signal → ℕ → List Word → Type 0
AllTaken signals i [] = Unit {0}
AllTaken signals i (w ∷ ws) = Takes signals i w × AllTaken signals (i + 1) ws

read_if : (b : Bool) (signals : List Signal) (time i : ℕ) (w : Word) (cs : List Change) → Takes signals i w
    → Reads (changing signals (Some time) cs Changes) (if b then change i w else []) (changing signals (Some time) (cs ++ change_if b time i w) Changes)
read_if true signals time i w cs takes = read_change signals time i w cs takes
read_if false signals time i w cs takes =
    let r : Reading = changing signals (Some time) cs Changes in
    reads_to r r _ [] (ap (λ (x : List Change). changing signals (Some time) x Changes) (sym (append-nil cs))) (reads_none r)

read_changes : (signals : List Signal) (time : ℕ) (before : Option (List Word)) (i : ℕ) (ws : List Word) (cs : List Change) → AllTaken signals i ws
    → Reads (changing signals (Some time) cs Changes) (changes before i ws) (changing signals (Some time) (cs ++ changes_in time before i ws) Changes)
read_changes signals time before i [] cs all =
    let r : Reading = changing signals (Some time) cs Changes in
    reads_to r r _ [] (ap (λ (x : List Change). changing signals (Some time) x Changes) (sym (append-nil cs))) (reads_none r)
read_changes signals time before i (w ∷ ws) cs all =
    let head = change_if (is_new before i w) time i w in
    let r : Reading = changing signals (Some time) cs Changes in
    let s : Reading = changing signals (Some time) (cs ++ head) Changes in
    reads_to r (changing signals (Some time) ((cs ++ head) ++ changes_in time before (i + 1) ws) Changes) _ _
    (ap (λ (x : List Change). changing signals (Some time) x Changes) (append_assoc cs head (changes_in time before (i + 1) ws)))
    (reads_then r s _ (if is_new before i w then change i w else []) (changes before (i + 1) ws)
    (read_if (is_new before i w) signals time i w cs all.0)
    (read_changes signals time before (i + 1) ws (cs ++ head) all.1))

-- where nothing is new, there is none
no_changes : (before : Option (List Word)) (time i : ℕ) (ws : List Word) → has_new before i ws ≡ false → (changes before i ws ≡ []) × (changes_in time before i ws ≡ [])
no_changes before time i [] none = (refl, refl)
no_changes before time i (w ∷ ws) none =
    let parts = or_parts (is_new before i w) (has_new before (i + 1) ws) none in
    let rest = no_changes before time (i + 1) ws parts.1 in (
      ap (λ (b : Bool). (if b then change i w else []) ++ changes before (i + 1) ws) parts.0 ∙ rest.0,
      ap (λ (b : Bool). change_if b time i w ++ changes_in time before (i + 1) ws) parts.0 ∙ rest.1,
    )

-- ---- times

time_word : (at : ℕ) → at < 2 ^ 64 → is_word (35 ∷ decimal at) ≡ true
time_word at small = word_behind 35 (decimal at) (omega arith) (decimal_dark at small)

first_step : (signals : List Signal) (at : ℕ) → next (changing signals None [] Changes) (token at (35 ∷ decimal 0)) ≡ Ok (changing signals (Some 0) [] Changes)
unfolding next
first_step signals at =
    ap (λ (ds : List ℕ). let s : Step = if bytes_eq ds (codes "0") then Ok (changing signals (Some 0) [] Changes) else Err (Syntax at) in s) (decimal_digit 0 (omega arith))

read_first : (signals : List Signal) → Reads (changing signals None [] Changes) (time_line 0) (changing signals (Some 0) [] Changes)
read_first signals = reads_word (changing signals None [] Changes) (changing signals (Some 0) [] Changes) (35 ∷ decimal 0) 10 (time_word 0 (omega arith)) refl (first_step signals)

-- each signal has a value
pub not_lacking : (signals : List Signal) (time : ℕ) (cs : List Change) → AreGiven cs (length signals) → (nat_eq time 0 && not (all_given cs (length signals))) ≡ false
not_lacking signals time cs are = by (nat_eq time 0)
  where
    by : (b : Bool) → (b && not (all_given cs (length signals))) ≡ false
    by true = ap not (given_all cs (length signals) are)
    by false = refl

later_step : (signals : List Signal) (time next' at : ℕ) (cs : List Change) → AreGiven cs (length signals) → time < next' → next' ≤ latest_time
    → next (changing signals (Some time) cs Changes) (token at (35 ∷ decimal next')) ≡ Ok (changing signals (Some next') cs Changes)
unfolding next
later_step signals time next' at cs are above early =
    let r : Reading = changing signals (Some time) cs Changes in
    let small : next' < 2 ^ 64 = omega (arith, early) in
    ap (λ (b : Bool). let s : Step = if b then later_time r at time (number_in (decimal next')) else Err (Syntax at) in s) (decimal_is next' small)
    ∙ ap (later_time r at time) (decimal_value next' small)
    ∙ cond-false (nat_le next' time) _ _ (lt-leb next' time above)
    ∙ cond-false (nat_eq time 0 && not (all_given cs (length signals))) _ _ (not_lacking signals time cs are)
    ∙ cond-false (nat_lt latest_time next') _ _ (le-ltb latest_time next' early)

read_later : (signals : List Signal) (time next' : ℕ) (cs : List Change) → AreGiven cs (length signals) → time < next' → next' ≤ latest_time
    → Reads (changing signals (Some time) cs Changes) (time_line next') (changing signals (Some next') cs Changes)
read_later signals time next' cs are above early =
    reads_word (changing signals (Some time) cs Changes) (changing signals (Some next') cs Changes) (35 ∷ decimal next') 10 (time_word next' (omega (arith, early))) refl
    (λ at. later_step signals time next' at cs are above early)

-- ---- cycles

abbrev pub RowsTaken : List Signal → List (List Word) → Type 0
RowsTaken signals [] = Unit {0}
RowsTaken signals (row ∷ rows) = AllTaken signals 0 row × RowsTaken signals rows

-- a cycle was read: the time that has come is not past it, and the changes are those of its row
record After (r : Reading) (text : List ℕ) (signals : List Signal) (at : ℕ) (cs : List Change) : Type 0 where
  time : ℕ
  soon : time < at + 1
  reads' : Reads r text (changing signals (Some time) cs Changes)

read_cycle : (signals : List Signal) (time at : ℕ) (before row : List Word) (cs : List Change) → AllTaken signals 0 row → AreGiven cs (length signals) → time < at → at ≤ latest_time
    → After (changing signals (Some time) cs Changes) (cycle at (Some before) row) signals at (cs ++ changes_in at (Some before) 0 row)
unfolding cycle
read_cycle signals time at before row cs all are above early = by_cases (has_new (Some before) 0 row)
    (λ told. record {
      time = at;
      soon = omega arith;
      reads' = reads_same r (changing signals (Some at) (cs ++ changes_in at (Some before) 0 row) Changes) _ _
          (ap (λ (b : Bool). (if b then time_line at else []) ++ changes (Some before) 0 row) (sym told))
          (reads_then r (changing signals (Some at) cs Changes) _ (time_line at) (changes (Some before) 0 row)
          (read_later signals time at cs are above early) (read_changes signals at (Some before) 0 row cs all));
    })
    (λ none.
    let no' = no_changes (Some before) at 0 row none in
    record {
      time = time;
      soon = omega (arith, above);
      reads' = reads_to r r _ _ (ap (λ (x : List Change). changing signals (Some time) x Changes) (sym (append-nil cs) ∙ ap (λ (x : List Change). cs ++ x) (sym no'.1)))
          (reads_same r r [] _ (sym (ap (λ (b : Bool). (if b then time_line at else []) ++ changes (Some before) 0 row) none ∙ no'.0)) (reads_none r));
    })
  where
    r : Reading
    r = changing signals (Some time) cs Changes

read_cycles : (signals : List Signal) (time at : ℕ) (before : List Word) (rows : List (List Word)) (cs : List Change) → RowsTaken signals rows → AreGiven cs (length signals) → time < at → at + length rows ≤ latest_time
    → Reads (changing signals (Some time) cs Changes) (cycles at (Some before) rows) (changing signals (Some (at + length rows)) (cs ++ changes_of at (Some before) rows) Changes)
read_cycles signals time at before [] cs all are above early =
    reads_to (changing signals (Some time) cs Changes) (changing signals (Some at) cs Changes) _ (time_line at)
    (ap (λ (n : ℕ). changing signals (Some n) cs Changes) (let e : at ≡ at + 0 = omega arith in e)
    ∙ ap (λ (x : List Change). changing signals (Some (at + 0)) x Changes) (sym (append-nil cs)))
    (read_later signals time at cs are above (omega (arith, early)))
read_cycles signals time at before (row ∷ rows) cs all are above early =
    let here = changes_in at (Some before) 0 row in
    let one = read_cycle signals time at before row cs all.0 are above (omega (arith, early)) in
    let s : Reading = changing signals (Some one.time) (cs ++ here) Changes in
    reads_to (changing signals (Some time) cs Changes) (changing signals (Some (at + 1 + length rows)) ((cs ++ here) ++ changes_of (at + 1) (Some row) rows) Changes) _ _
    (ap (λ (n : ℕ). changing signals (Some n) ((cs ++ here) ++ changes_of (at + 1) (Some row) rows) Changes) (let e : at + 1 + length rows ≡ at + suc (length rows) = omega arith in e)
    ∙ ap (λ (x : List Change). changing signals (Some (at + suc (length rows))) x Changes) (append_assoc cs here (changes_of (at + 1) (Some row) rows)))
    (reads_then (changing signals (Some time) cs Changes) s _ (cycle at (Some before) row) (cycles (at + 1) (Some row) rows) one.reads'
    (read_cycles signals one.time (at + 1) row rows (cs ++ here) all.1 (given_more cs here (length signals) are) one.soon (omega (arith, early))))

-- the first row, and those behind it
pub read_rows : (signals : List Signal) (row : List Word) (rows : List (List Word)) → AllTaken signals 0 row → RowsTaken signals rows → length row ≡ length signals → length (row ∷ rows) ≤ latest_time
    → Reads (changing signals None [] Changes) (cycles 0 None (row ∷ rows)) (changing signals (Some (length (row ∷ rows))) (changes_of 0 None (row ∷ rows)) Changes)
unfolding cycle
read_rows signals row rows first all long early =
    let here = changes_in 0 None 0 row in
    let are : AreGiven here (length signals) = subst (AreGiven here) long (given_first row) in
    let s : Reading = changing signals (Some 0) here Changes in
    reads_to (changing signals None [] Changes) (changing signals (Some (0 + 1 + length rows)) (here ++ changes_of (0 + 1) (Some row) rows) Changes) _ _
    (ap (λ (n : ℕ). changing signals (Some n) (here ++ changes_of (0 + 1) (Some row) rows) Changes) (let e : 0 + 1 + length rows ≡ suc (length rows) = omega arith in e))
    (reads_then (changing signals None [] Changes) s _ (cycle 0 None row) (cycles (0 + 1) (Some row) rows)
    (reads_then (changing signals None [] Changes) (changing signals (Some 0) [] Changes) s (time_line 0) (changes None 0 row)
    (read_first signals) (read_changes signals 0 None 0 row [] first))
    (read_cycles signals 0 (0 + 1) row rows here all are (omega arith) (omega (arith, early))))
