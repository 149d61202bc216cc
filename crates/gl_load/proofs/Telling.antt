-- What the lines of a run come to is what is told of the run.
use Rattle.std.proofs.Common.{◌≡◌, ℕ, zero, suc, ◌+◌, ◌^◌, ◌<◌, ◌≤◌, Bool, true, false, List, [], ◌∷◌, ◌++◌, length, map, Option, Some, None, refl, sym, ap, ◌∙◌, arith, append_assoc, lt-ltb}
use Rattle.std.specs.Prelude.{not, ◌&&◌, ◌||◌, codes, decimal, nat_le, IfSome, IsTrue, if◌then◌else◌}
use Rattle.std.specs.List.{AllByRecursion, cons_option, fold, list_all, sum}
use Rattle.std.proofs.lemmas.Bool.{leb-true}
use Rattle.std.proofs.lemmas.List.Sums.{sum_by-cons}
use Rattle.gl_values.specs.declared.kind.Kind.{Kind}
use Rattle.gl_values.specs.declared.kind.Kind.TheVariants.{Unsigned, Signed, Text}
use Rattle.gl_bits.proofs.AllLists.{all_append, all_weaker}
use Rattle.gl_bits.proofs.Bools.{and_left, and_right}
use Rattle.gl_schema.specs.Ports.{PortValues}
use Rattle.gl_schema.specs.Seen.{Shown, cycle_lines, end_line, line_of, lines, lines_after, overflow_line, printed, row_line, rows_of, seen, shown, values_text}
use Rattle.gl_tuples.specs.Values.{are_digits, is_number, number_of}
use Rattle.gl_load.specs.Tallies as tallies
use Rattle.gl_load.specs.Tallies.{Tally, first_field, lines_of, no_lines, small, tally_of, with_count, with_line}
use Rattle.gl_load.specs.Told.{count_in, five_lines, last_line, later_line, summary_of}
use Rattle.gl_load.proofs.Fields.{From, decimal_from, field_behind, field_first, line_first, number_read}

-- a row with two columns at least, the first a count
pub record IsCounted (row : List ℕ) : Type 0 where
  pub count : ℕ
  pub second : ℕ
  pub rest : List ℕ
  pub is : row ≡ count ∷ second ∷ rest
  pub small' : count < 2 ^ 64

-- columns of numbers without a sign
abbrev pub AreNumbers : List Kind → Type 0
AreNumbers [] = Unit {0}
AreNumbers (Unsigned w ∷ kinds) = AreNumbers kinds
AreNumbers (Signed w ∷ kinds) = ⊥
AreNumbers (Text n ∷ kinds) = ⊥

lower : (n m : ℕ) (bytes : List ℕ) → n ≤ m → From m bytes → From n bytes
lower n m bytes le h = all_weaker (λ b. m ≤ b) (λ b. n ≤ b) (λ b l. omega (arith, le, l)) bytes h

values_from : (kinds : List Kind) (row : List ℕ) → AreNumbers kinds → From 11 (values_text kinds row)
unfolding printed
values_from [] row h = tt
values_from (Unsigned w ∷ kinds) [] h = tt
values_from (Unsigned w ∷ kinds) (v ∷ vs) h =
    (omega arith, all_append (λ b. 11 ≤ b) (decimal v) (values_text kinds vs) (lower 11 45 (decimal v) (omega arith) (decimal_from v)) (values_from kinds vs h))
values_from (Signed w ∷ kinds) row h = absurd h
values_from (Text n ∷ kinds) row h = absurd h

-- the tally of lines behind one more
after : Tally → List ℕ → Tally
after t text = fold with_line t (lines_of text)

one_line : (t : Tally) (cycle : ℕ) (bytes rest : List ℕ) → From 11 bytes → after t (decimal cycle ++ bytes ++ 10 ∷ [] ++ rest) ≡ after (with_line t (decimal cycle ++ bytes)) rest
unfolding after
one_line t cycle bytes rest h =
    ap (λ (text : List ℕ). fold with_line t (lines_of text)) (append_assoc (decimal cycle ++ bytes) (10 ∷ []) rest)
    ∙ ap (fold with_line t) (line_first (decimal cycle ++ bytes) rest (all_append (λ b. 11 ≤ b) (decimal cycle) bytes (lower 11 45 (decimal cycle) (omega arith) (decimal_from cycle)) h))

no_line : (t : Tally) → after t [] ≡ t
unfolding after
no_line t = refl

-- ---- one cycle

-- a line that has no count tells its cycle alone
noted : Bool → ℕ → Tally → Tally
noted true cycle t = record t { end = decimal cycle }
noted false cycle t = t

uncounted : (t : Tally) (cycle : ℕ) (word : List ℕ) → number_of (first_field word) ≡ None → with_line t (decimal cycle ++ 44 ∷ word) ≡ noted true cycle t
unfolding noted tallies.count_in
uncounted t cycle word none =
    let line = decimal cycle ++ 44 ∷ word in
    let behind : tallies.count_in line ≡ None = ap (λ (field : List ℕ). small (number_of (first_field field))) (field_behind (decimal cycle) word (decimal_from cycle)) ∙ ap small none in
    ap (with_count (record t { end = first_field line }) line) behind ∙ ap (λ (e : List ℕ). record t { end = e }) (field_first (decimal cycle) word (decimal_from cycle))

no_feed : (bytes : List ℕ) → list_all (nat_le 11) bytes ≡ true → From 11 bytes
no_feed [] h = tt
no_feed (b ∷ bs) h = (leb-true 11 b (and_left (nat_le 11 b) (list_all (nat_le 11) bs) h), no_feed bs (and_right (nat_le 11 b) (list_all (nat_le 11) bs) h))

overflow_then : (b : Bool) (t : Tally) (cycle : ℕ) (rest : List ℕ) → after t ((if b then overflow_line cycle else []) ++ rest) ≡ after (noted b cycle t) rest
unfolding overflow_line noted number_of is_number are_digits
overflow_then true t cycle rest = one_line t cycle (codes ",overflow") rest (no_feed (codes ",overflow") refl) ∙ ap (λ (u : Tally). after u rest) (uncounted t cycle (codes "overflow") refl)
overflow_then false t cycle rest = refl

end_then : (b : Bool) (t : Tally) (cycle : ℕ) (rest : List ℕ) → after t ((if b then end_line cycle else []) ++ rest) ≡ after (noted b cycle t) rest
unfolding end_line noted number_of is_number are_digits
end_then true t cycle rest = one_line t cycle (codes ",end") rest (no_feed (codes ",end") refl) ∙ ap (λ (u : Tally). after u rest) (uncounted t cycle (codes "end") refl)
end_then false t cycle rest = refl

module _ (a b : ℕ) (more : List Kind) (numbers : AreNumbers more) where
  abbrev kinds : List Kind
  kinds = Unsigned a ∷ Unsigned b ∷ more

  rowed : ℕ → Option (List ℕ) → Tally → Tally
  rowed cycle None t = t
  rowed cycle (Some row) t = record { results = t.results + 1; counted = t.counted + count_in row; last = decimal cycle ++ values_text kinds row; end = decimal cycle }

  counted_line : (t : Tally) (cycle v w : ℕ) (vs : List ℕ) → v < 2 ^ 64 → with_line t (decimal cycle ++ values_text kinds (v ∷ w ∷ vs)) ≡ rowed cycle (Some (v ∷ w ∷ vs)) t
  unfolding rowed printed tallies.count_in
  counted_line t cycle v w vs low =
      let behind = decimal w ++ values_text more vs in
      let word = decimal v ++ 44 ∷ behind in
      let line = decimal cycle ++ 44 ∷ word in
      let first : first_field line ≡ decimal cycle = field_first (decimal cycle) word (decimal_from cycle) in
      let count : tallies.count_in line ≡ Some v =
      ap (λ (field : List ℕ). small (number_of (first_field field))) (field_behind (decimal cycle) word (decimal_from cycle))
      ∙ ap (λ (field : List ℕ). small (number_of field)) (field_first (decimal v) behind (decimal_from v))
      ∙ ap small (number_read v low) ∙ (rw (lt-ltb v (2 ^ 64) low) refl)
      in
      ap (with_count (record t { end = first_field line }) line) count
      ∙ ap (λ (e : List ℕ). record { results = t.results + 1; counted = t.counted + v; last = line; end = e }) first

  row_then : (o : Option (List ℕ)) (t : Tally) (cycle : ℕ) (rest : List ℕ) → IfSome o IsCounted → after t (row_line kinds cycle o ++ rest) ≡ after (rowed cycle o t) rest
  unfolding rowed line_of
  row_then None t cycle rest h = refl
  row_then (Some row) t cycle rest h =
      one_line t cycle (values_text kinds row) rest (values_from kinds row numbers)
      ∙ ap (λ (r : List ℕ). after (with_line t (decimal cycle ++ values_text kinds r)) rest) h.is
      ∙ ap (λ (u : Tally). after u rest) (counted_line t cycle h.count h.second h.rest h.small' ∙ ap (λ (r : List ℕ). rowed cycle (Some r) t) (sym h.is))

  shown_then : Bool → Shown → Tally → Tally
  shown_then told s t = noted s.end s.cycle (rowed s.cycle s.row (noted (s.group && not told) s.cycle t))

  cycle_then : (told : Bool) (s : Shown) (t : Tally) (rest : List ℕ) → IfSome s.row IsCounted → after t (cycle_lines kinds told s ++ rest) ≡ after (shown_then told s t) rest
  unfolding shown_then
  cycle_then told s t rest h =
      let first = if s.group && not told then overflow_line s.cycle else [] in
      let row = row_line kinds s.cycle s.row in
      let last = if s.end then end_line s.cycle else [] in
      let u = noted (s.group && not told) s.cycle t in
      ap (after t) (append_assoc (first ++ row) last rest ∙ append_assoc first row (last ++ rest))
      ∙ overflow_then (s.group && not told) t s.cycle (row ++ (last ++ rest)) ∙ row_then s.row u s.cycle (last ++ rest) h ∙ end_then s.end (rowed s.cycle s.row u) s.cycle rest

  -- ---- all cycles

  all_then : Bool → List Shown → Tally → Tally
  all_then told [] t = t
  all_then told (s ∷ all) t = all_then (told || s.group) all (shown_then told s t)

  lines_then : (told : Bool) (all : List Shown) (t : Tally) → AllByRecursion (λ s. IfSome s.row IsCounted) all → after t (lines_after told kinds all) ≡ all_then told all t
  unfolding all_then
  lines_then told [] t h = no_line t
  lines_then told (s ∷ all) t h = cycle_then told s t (lines_after (told || s.group) kinds all) h.0 ∙ lines_then (told || s.group) all (shown_then told s t) h.1

  -- what is told of rows does not hang on notes
  record IsWith (t u : Tally) (cycle : ℕ) (o : Option (List ℕ)) : Type 0 where
    results : u.results + 0 ≡ t.results + length (cons_option o [])
    counted : u.counted + 0 ≡ t.counted + sum (map count_in (cons_option o []))
    last : u.last ≡ later_line kinds t.last cycle o

  row_with : (o : Option (List ℕ)) (t u : Tally) (cycle : ℕ) → u.results ≡ t.results → u.counted ≡ t.counted → u.last ≡ t.last → IsWith t (rowed cycle o u) cycle o
  unfolding rowed
  row_with None t u cycle r c l = record { results = omega (arith, r); counted = omega (arith, c); last = l }
  row_with (Some row) t u cycle r c l = record { results = omega (arith, r); counted = let s = sum_by-cons (λ x. x) (count_in row) [] in omega (arith, c, s); last = refl }

  noted_with : (b : Bool) (t u : Tally) (cycle : ℕ) (o : Option (List ℕ)) → IsWith t u cycle o → IsWith t (noted b cycle u) cycle o
  unfolding noted
  noted_with true t u cycle o h = record { results = h.results; counted = h.counted; last = h.last }
  noted_with false t u cycle o h = h

  shown_with : (told : Bool) (s : Shown) (t : Tally) → IsWith t (shown_then told s t) s.cycle s.row
  unfolding shown_then noted
  shown_with told s t = noted_with s.end t (rowed s.cycle s.row (noted (s.group && not told) s.cycle t)) s.cycle s.row (by (s.group && not told))
    where
      by : (b : Bool) → IsWith t (rowed s.cycle s.row (noted b s.cycle t)) s.cycle s.row
      by true = row_with s.row t (record t { end = decimal s.cycle }) s.cycle refl refl refl
      by false = row_with s.row t t s.cycle refl refl refl

  more_rows : (o : Option (List ℕ)) (rows : List (List ℕ)) → length (cons_option o rows) ≡ length (cons_option o []) + length rows
  more_rows None rows = omega arith
  more_rows (Some row) rows = omega arith

  more_counts : (o : Option (List ℕ)) (rows : List (List ℕ)) → sum (map count_in (cons_option o rows)) ≡ sum (map count_in (cons_option o [])) + sum (map count_in rows)
  more_counts None rows = omega arith
  more_counts (Some row) rows =
      let s = sum_by-cons (λ x. x) (count_in row) [] in
      let r = sum_by-cons (λ x. x) (count_in row) (map count_in rows) in
      omega (arith, s, r)

  results_of : (told : Bool) (all : List Shown) (t : Tally) → (all_then told all t).results ≡ t.results + length (rows_of all)
  unfolding all_then
  results_of told [] t = omega arith
  results_of told (s ∷ all) t =
      let r = results_of (told || s.group) all (shown_then told s t) in
      let w = (shown_with told s t).results in
      let m = more_rows s.row (rows_of all) in
      omega (arith, r, w, m)

  counted_of : (told : Bool) (all : List Shown) (t : Tally) → (all_then told all t).counted ≡ t.counted + sum (map count_in (rows_of all))
  unfolding all_then
  counted_of told [] t = omega arith
  counted_of told (s ∷ all) t =
      let r = counted_of (told || s.group) all (shown_then told s t) in
      let w = (shown_with told s t).counted in
      let m = more_counts s.row (rows_of all) in
      omega (arith, r, w, m)

  last_of : (told : Bool) (all : List Shown) (t : Tally) → (all_then told all t).last ≡ fold (λ before s. later_line kinds before s.cycle s.row) t.last all
  unfolding all_then
  last_of told [] t = refl
  last_of told (s ∷ all) t =
      last_of (told || s.group) all (shown_then told s t)
      ∙ ap (λ (l : List ℕ). fold (λ before z. later_line kinds before z.cycle z.row) l all) (shown_with told s t).last

  end_of : (told : Bool) (front : List Shown) (s : Shown) (t : Tally) → s.end ≡ true → (all_then told (front ++ s ∷ []) t).end ≡ decimal s.cycle
  unfolding all_then shown_then noted
  end_of told [] s t e = ap (λ (b : Bool). (noted b s.cycle (rowed s.cycle s.row (noted (s.group && not told) s.cycle t))).end) e
  end_of told (f ∷ front) s t e = end_of (told || f.group) front s (shown_then told f t) e

  rows_counted : (all : List Shown) → AllByRecursion IsCounted (rows_of all) → AllByRecursion (λ z. IfSome z.row IsCounted) all
  rows_counted [] h = tt
  rows_counted (s ∷ all) h = let p = by s.row h in (p.0, rows_counted all p.1)
    where
      by : (o : Option (List ℕ)) → AllByRecursion IsCounted (cons_option o (rows_of all)) → IfSome o IsCounted × AllByRecursion IsCounted (rows_of all)
      by None h = (tt, h)
      by (Some row) h = (h.0, h.1)

  told_of : (n : ℕ) (front : List Shown) (s : Shown) → s.end ≡ true → AllByRecursion (λ z. IfSome z.row IsCounted) (front ++ s ∷ [])
      → tallies.summary_of n (lines kinds (front ++ s ∷ []))
      ≡ summary_of n kinds (front ++ s ∷ []) s.cycle
  unfolding tallies.summary_of tally_of after
  told_of n front s e h =
      let all = front ++ s ∷ [] in
      let u = all_then false all no_lines in
      let t : tally_of (lines kinds all) ≡ u = lines_then false all no_lines h in
      let results : u.results ≡ length (rows_of all) = let r : u.results ≡ 0 + length (rows_of all) = results_of false all no_lines in omega (arith, r) in
      let counted : u.counted ≡ sum (map count_in (rows_of all)) = let r : u.counted ≡ 0 + sum (map count_in (rows_of all)) = counted_of false all no_lines in omega (arith, r) in
      let last : u.last ≡ last_line kinds all = last_of false all no_lines in
      let end : u.end ≡ decimal s.cycle = end_of false front s no_lines e in
      ap (λ (x : Tally). five_lines n x.results x.counted x.last x.end) t ∙ (λ i. five_lines n (results i) (counted i) (last i) (end i))

  -- where each row that is seen counts, and the end is
  pub told_seen : (n : ℕ) (outs : List (List ℕ)) (port : PortValues) (ended : ℕ) → IsTrue (shown port outs ended).end → AllByRecursion IsCounted (rows_of (seen port outs ended))
      → tallies.summary_of n (lines kinds (seen port outs ended)) ≡ summary_of n kinds (seen port outs ended) ended
  unfolding shown
  told_seen n outs port zero e h = told_of n [] (shown port outs 0) e (rows_counted (seen port outs 0) h)
  told_seen n outs port (suc k) e h = told_of n (seen port outs k) (shown port outs (suc k)) e (rows_counted (seen port outs (suc k)) h)
