-- Rows as numbers in one list.
use Rattle.std.proofs.Common.{◌≡◌, ℕ, zero, suc, ◌+◌, ◌*◌, ◌/◌, ◌%◌, ◌≤◌, Bool, true, false, List, [], ◌∷◌, ◌++◌, length, take, drop, Option, Some, None, refl, sym, ap, ◌∙◌, subst, arith, append_assoc}
use Rattle.std.specs.Prelude.{slice_get, unwrap_or, option_map}
use Rattle.std.specs.Int.{from_bool}
use Rattle.std.specs.List.{AllByRecursion}
use Rattle.std.proofs.lemmas.Bool.{eq-eqb, ne_eqb}
use Rattle.std.proofs.lemmas.List.{append-nil, drop-append-le, map-append, length-append}
use Rattle.std.proofs.Math.Seq.{drop-append_seam}
use Rattle.gl_bits.specs.Words.{Word, bit, bits_of, widths_of}
use Rattle.gl_bits.proofs.AllLists.{all_push}
use Rattle.gl_tuples.proofs.Rows.{widths_length}
use Rattle.gl_tuples.specs.declared.beats.Beat.{Beat}
use Rattle.gl_tuples.specs.declared.beats.Head.{Head}
use Rattle.gl_tuples.specs.Flat.{words_in, row_in, row_size, is_odd, rows_in, rows_size, beat_in, beats_in, IsInside, RowAdded, RowsAdded}

-- ---- a row

-- a row is what its numbers and widths are, whatever follows
pub words_back : (row : List Word) (more : List ℕ) → words_in (widths_of row) (bits_of row ++ more) ≡ row
words_back [] more = refl
words_back (w ∷ row) more = ap (λ (ws : List Word). w ∷ ws) (words_back row more)

pub bits_long : (row : List Word) → length (bits_of row) ≡ length row
bits_long [] = refl
bits_long (w ∷ row) = ap suc (bits_long row)

pub words_whole : (row : List Word) (columns more : List ℕ) → widths_of row ≡ columns → words_in columns (bits_of row ++ more) ≡ row
words_whole row columns more e = ap (λ (ws : List ℕ). words_in ws (bits_of row ++ more)) (sym e) ∙ words_back row more

-- a row that is added, and one that is not there
pub row_added : (columns : List ℕ) (row : List Word) (old new : List ℕ) → widths_of row ≡ columns → new ≡ old ++ bits_of row → RowAdded columns (Some row) old new true
row_added columns row old new e is =
    record { numbers = bits_of row; grown = is; size = ap length (sym e) ∙ widths_length row ∙ sym (bits_long row); back = λ more. ap Some (words_whole row columns more e) }

pub none_added : (columns old : List ℕ) → RowAdded columns None old old false
none_added columns old = record { numbers = []; grown = sym (append-nil old); size = refl; back = λ more. refl }

-- ---- the rows of a beat

pub bit_is : (b : Bool) (n : ℕ) → n ≡ from_bool b → n ≡ bit b
bit_is true n e = e
bit_is false n e = e

pub odd_is : (b : Bool) (q : ℕ) → is_odd (bit b + 2 * q) ≡ b
odd_is true q = eq-eqb ((1 + 2 * q) % 2) 1 (omega arith)
odd_is false q = ne_eqb ((0 + 2 * q) % 2) 1 (λ e. absurd (omega (arith, e)))

half_is : (b : Bool) (q : ℕ) → (bit b + 2 * q) / 2 ≡ q
half_is true q = omega arith
half_is false q = omega arith

pub rows_added : (s : List ℕ) (ss : List (List ℕ)) (r : Option (List Word)) (rs : List (Option (List Word))) (old mid new : List ℕ) (b : Bool) (q : ℕ)
    → RowAdded s r old mid b → RowsAdded ss rs mid new q → RowsAdded (s ∷ ss) (r ∷ rs) old new (bit b + 2 * q)
rows_added s ss r rs old mid new b q first later = record {
  numbers = first.numbers ++ later.numbers;
  grown = later.grown ∙ ap (λ (ns : List ℕ). ns ++ later.numbers) first.grown ∙ append_assoc old first.numbers later.numbers;
  size = rw (odd_is b q, half_is b q) (let n = length-append first.numbers later.numbers in omega (arith, n, first.size, later.size));
  back = λ more. rw (odd_is b q, half_is b q, append_assoc first.numbers later.numbers more) (both more);
}
  where
    rest : (more : List ℕ) → rows_in ss q (drop (row_size b s) (first.numbers ++ (later.numbers ++ more))) ≡ rs
    rest more = ap (λ (n : ℕ). rows_in ss q (drop n (first.numbers ++ (later.numbers ++ more)))) first.size ∙ ap (rows_in ss q) (drop-append_seam first.numbers (later.numbers ++ more)) ∙ later.back more

    both : (more : List ℕ) → row_in b s (first.numbers ++ (later.numbers ++ more)) ∷ rows_in ss q (drop (row_size b s) (first.numbers ++ (later.numbers ++ more))) ≡ r ∷ rs
    both more = let one : row_in b s (first.numbers ++ (later.numbers ++ more)) ≡ r = first.back (later.numbers ++ more) in let others = rest more in cc

pub no_rows_added : (old : List ℕ) → RowsAdded [] [] old old 0
no_rows_added old = record { numbers = []; grown = sym (append-nil old); size = refl; back = λ more. refl }

-- numbers that follow change no rows
words_same : (columns ns more : List ℕ) → length columns ≤ length ns → words_in columns (ns ++ more) ≡ words_in columns ns
words_same [] ns more le = refl
words_same (w ∷ ws) [] more le = absurd (omega arith)
words_same (w ∷ ws) (n ∷ ns) more le = let rest : words_in ws (ns ++ more) ≡ words_in ws ns = words_same ws ns more (omega arith) in cc

row_same : (b : Bool) (columns ns more : List ℕ) → row_size b columns ≤ length ns → row_in b columns (ns ++ more) ≡ row_in b columns ns
row_same true columns ns more le = ap Some (words_same columns ns more le)
row_same false columns ns more le = refl

length_rest : (n : ℕ) (xs : List ℕ) → n ≤ length xs → n + length (drop n xs) ≡ length xs
length_rest zero xs le = (let e : 0 + length xs ≡ length xs = omega arith in e)
length_rest (suc n) [] le = absurd (omega arith)
length_rest (suc n) (x ∷ xs) le = let h : n + length (drop n xs) ≡ length xs = length_rest n xs (omega arith) in omega (arith, h)

rows_same : (shape : List (List ℕ)) (p : ℕ) (ns more : List ℕ) → rows_size shape p ≤ length ns → rows_in shape p (ns ++ more) ≡ rows_in shape p ns
rows_same [] p ns more le = refl
rows_same (s ∷ ss) p ns more le =
    let k = row_size (is_odd p) s in
    let fits : k ≤ length ns = omega (arith, le) in
    let one : row_in (is_odd p) s (ns ++ more) ≡ row_in (is_odd p) s ns = row_same (is_odd p) s ns more fits in
    let n = length_rest k ns fits in
    let others : rows_in ss (p / 2) (drop k (ns ++ more)) ≡ rows_in ss (p / 2) (drop k ns) =
    ap (rows_in ss (p / 2)) (drop-append-le k ns more fits) ∙ rows_same ss (p / 2) (drop k ns) more (omega (arith, le, n)) in
    cc

-- the row of the first stream
words_bits : (s ns : List ℕ) → length s ≤ length ns → bits_of (words_in s ns) ≡ take (length s) ns
words_bits [] ns le = refl
words_bits (w ∷ ws) [] le = absurd (omega arith)
words_bits (w ∷ ws) (n ∷ ns) le = ap (λ (xs : List ℕ). n ∷ xs) (words_bits ws ns (omega arith))

pub row_here : (shape : List (List ℕ)) (s : List ℕ) (ss : List (List ℕ)) (p stream n : ℕ) (ns row : List ℕ) → shape ≡ s ∷ ss → rows_size shape p ≤ length ns → is_odd p ≡ true → stream ≤ 0
    → row ≡ take n ns → n ≡ row_size (is_odd p) s → Some row ≡ option_map bits_of (unwrap_or (slice_get (rows_in shape p ns) stream) None)
row_here shape s ss p zero n ns row e fits odd le is size =
    let all : row_size (is_odd p) s + rows_size ss (p / 2) ≤ length ns = subst (λ (sh : List (List ℕ)). rows_size sh p ≤ length ns) e fits in
    let long : row_size (is_odd p) s ≡ length s = ap (λ (b : Bool). row_size b s) odd in
    let numbers : row ≡ bits_of (words_in s ns) = is ∙ ap (λ (k : ℕ). take k ns) (size ∙ long) ∙ sym (words_bits s ns (omega (arith, all, long))) in
    ap Some numbers ∙ ap (λ (b : Bool). option_map bits_of (row_in b s ns)) (sym odd) ∙ ap (λ (sh : List (List ℕ)). option_map bits_of (unwrap_or (slice_get (rows_in sh p ns) 0) None)) (sym e)
row_here shape s ss p (suc stream) n ns row e fits odd le is size = absurd (omega arith)

-- ---- beats

beat_same : (shape : List (List ℕ)) (numbers more : List ℕ) (h : Head) → IsInside shape numbers h → beat_in shape (drop h.first (numbers ++ more)) h ≡ beat_in shape (drop h.first numbers) h
beat_same shape numbers more h inside =
    let fits : h.first ≤ length numbers = omega (arith, inside) in
    let n = length_rest h.first numbers fits in
    ap (λ (ns : List ℕ). beat_in shape ns h) (drop-append-le h.first numbers more fits)
    ∙ ap (λ (rows : List (Option (List Word))). record { cycle = h.cycle; number = h.number; rows = rows; tick = h.tick; end = h.end }) (rows_same shape h.present (drop h.first numbers) more (omega (arith, inside, n)))

pub beats_same : (shape : List (List ℕ)) (numbers more : List ℕ) (hs : List Head) → AllByRecursion (IsInside shape numbers) hs → beats_in shape (numbers ++ more) hs ≡ beats_in shape numbers hs
beats_same shape numbers more [] inside = refl
beats_same shape numbers more (h ∷ hs) inside =
    let one = beat_same shape numbers more h inside.0 in
    let others = beats_same shape numbers more hs inside.1 in
    cc

inside_longer : (shape : List (List ℕ)) (numbers more : List ℕ) (hs : List Head) → AllByRecursion (IsInside shape numbers) hs → AllByRecursion (IsInside shape (numbers ++ more)) hs
inside_longer shape numbers more [] inside = tt
inside_longer shape numbers more (h ∷ hs) inside = (let n = length-append numbers more in omega (arith, inside.0, n), inside_longer shape numbers more hs inside.1)

-- a longer list of numbers
pub inside_still : (shape : List (List ℕ)) (old new more : List ℕ) (hs : List Head) → new ≡ old ++ more → AllByRecursion (IsInside shape old) hs → AllByRecursion (IsInside shape new) hs
inside_still shape old new more hs e inside = subst (λ (ns : List ℕ). AllByRecursion (IsInside shape ns) hs) (sym e) (inside_longer shape old more hs inside)

pub beats_still : (shape : List (List ℕ)) (old new more : List ℕ) (hs : List Head) → new ≡ old ++ more → AllByRecursion (IsInside shape old) hs → beats_in shape new hs ≡ beats_in shape old hs
beats_still shape old new more hs e inside = ap (λ (ns : List ℕ). beats_in shape ns hs) e ∙ beats_same shape old more hs inside

-- a beat that is added
pub inside_pushed : (shape : List (List ℕ)) (rows : List (Option (List Word))) (old new : List ℕ) (hs : List Head) (h : Head) → AllByRecursion (IsInside shape old) hs → h.first ≡ length old
    → RowsAdded shape rows old new h.present → AllByRecursion (IsInside shape new) (hs ++ h ∷ [])
inside_pushed shape rows old new hs h inside first added =
    all_push (IsInside shape new) hs h (inside_still shape old new added.numbers hs added.grown inside)
    (let n = ap length added.grown ∙ length-append old added.numbers in let size = added.size in omega (arith, n, size, first))

pub beats_pushed : (shape : List (List ℕ)) (beat : Beat) (old new : List ℕ) (hs : List Head) (h : Head) → AllByRecursion (IsInside shape old) hs → h.first ≡ length old
    → RowsAdded shape beat.rows old new h.present → h.cycle ≡ beat.cycle → h.number ≡ beat.number → h.tick ≡ beat.tick → h.end ≡ beat.end
    → beats_in shape new (hs ++ h ∷ []) ≡ beats_in shape old hs ++ beat ∷ []
beats_pushed shape beat old new hs h inside first added cycle number tick ends =
    map-append (λ (x : Head). beat_in shape (drop x.first new) x) hs (h ∷ [])
    ∙ ap (λ (bs : List Beat). bs ++ beat_in shape (drop h.first new) h ∷ []) (beats_still shape old new added.numbers hs added.grown inside)
    ∙ ap (λ (b : Beat). beats_in shape old hs ++ b ∷ []) same
  where
    numbers : drop h.first new ≡ added.numbers
    numbers = ap (λ (n : ℕ). drop n new) first ∙ ap (drop (length old)) added.grown ∙ drop-append_seam old added.numbers

    rows : rows_in shape h.present (drop h.first new) ≡ beat.rows
    rows = ap (rows_in shape h.present) (numbers ∙ sym (append-nil added.numbers)) ∙ added.back []

    same : beat_in shape (drop h.first new) h ≡ beat
    same = rw (cycle, number, tick, ends, rows) refl
