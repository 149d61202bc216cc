-- The lines of cycles that all show the same, and what the columns of signals show.
use Rattle.std.proofs.Common.{◌≡◌, ℕ, zero, suc, ◌+◌, ◌-◌, ◌^◌, ◌<◌, ◌≤◌, Bool, true, false, not, List, [], ◌∷◌, ◌++◌, length, map, Option, Some, None, refl, sym, ap, subst, ◌∙◌, arith}
use Rattle.std.specs.Prelude.{◌&&◌, ◌||◌, ◌==◌, filter, nat_le, nat_lt, option_and_then, unwrap_or, if◌then◌else◌}
use Rattle.std.specs.List.{AllByRecursion, AllZip, list_any}
use Rattle.std.proofs.Math.Nat.{one-le-pow}
use Rattle.std.proofs.lemmas.Bool.{leb-true, ltb-false}
use Rattle.gl_values.specs.declared.kind.Kind.{Kind}
use Rattle.gl_values.specs.Kinds.{IsKind, width_of}
use Rattle.gl_bits.specs.Words.{IsWidth, Word}
use Rattle.gl_bits.proofs.AllLists.{all_by_place, length_map, map_map}
use Rattle.gl_bits.proofs.Bools.{and_parts, neither_parts, not_true}
use Rattle.gl_tuples.specs.declared.lines.Sample.{Sample}
use Rattle.gl_tuples.specs.Pieces.{sampled}
use Rattle.gl_schema.specs.Ports.{PortValues, fault_group, out_eos, out_valid}
use Rattle.gl_schema.specs.Seen.{cycle_lines, end_line, is_high, lines_after, overflow_line, row_line, shown}
use Rattle.gl_schema.specs.Seen as seen
use Rattle.gl_vcd.specs.Showings.{cycles_of, names_shown, shown_from, steady, told_after, value_in}
use Rattle.gl_vcd.specs.Signals.{Signal, are_columns, columns_of, has_line, has_wide, kind_of, number_of_name, show_none, shows_column}
use Rattle.gl_vcd.specs.Standing.{AreNumbered, HaveRoom, bits_in}

-- ---- cycles that show the same

pub next_cycle : (s : Sample) (row : List ℕ) (n to : ℕ) → n < to → cycles_of s row n (to - n) ≡ sampled s n row ∷ cycles_of s row (n + 1) (to - (n + 1))
next_cycle s row n to lt = ap (cycles_of s row n) (let e : to - n ≡ suc (to - (n + 1)) = omega arith in e)

pub no_cycle : (s : Sample) (row : List ℕ) (n to : ℕ) → to ≤ n → cycles_of s row n (to - n) ≡ []
no_cycle s row n to le = ap (cycles_of s row n) (let e : to - n ≡ 0 = omega arith in e)

-- nothing is shown, now or later
abbrev pub Silent : Sample → Bool → Type 0
Silent s told = not (s.valid || s.end || (s.group && not told)) ≡ true

still_told : (told group : Bool) → (group && not told) ≡ false → (told || group) ≡ told
still_told true group e = refl
still_told false true e = absurd cc
still_told false false e = refl

module _ (s : Sample) (told : Bool) (silent : Silent s told) where
  parts : (s.valid ≡ false) × ((s.end ≡ false) × ((s.group && not told) ≡ false))
  parts =
      let p = neither_parts (s.valid || s.end) (s.group && not told) (not_true ((s.valid || s.end) || (s.group && not told)) silent) in
      let q = neither_parts s.valid s.end p.0 in
      (q.0, (q.1, p.1))

  no_lines : (kinds : List Kind) (row : List ℕ) (n : ℕ) → cycle_lines kinds told (sampled s n row) ≡ []
  no_lines kinds row n =
      ap (λ (b : Bool). (if b then overflow_line n else []) ++ row_line kinds n (if s.valid then Some row else None) ++ (if s.end then end_line n else [])) parts.1.1
      ∙ ap (λ (b : Bool). row_line kinds n (if b then Some row else None) ++ (if s.end then end_line n else [])) parts.0
      ∙ ap (λ (b : Bool). if b then end_line n else []) parts.1.0

  pub silent_lines : (kinds : List Kind) (row : List ℕ) (n k : ℕ) → lines_after told kinds (cycles_of s row n k) ≡ []
  silent_lines kinds row n zero = refl
  silent_lines kinds row n (suc k) =
      ap (λ (x : List ℕ). x ++ lines_after (told || s.group) kinds (cycles_of s row (n + 1) k)) (no_lines kinds row n)
      ∙ ap (λ (b : Bool). lines_after b kinds (cycles_of s row (n + 1) k)) (still_told told s.group parts.1.1)
      ∙ silent_lines kinds row (n + 1) k

  pub silent_told : (row : List ℕ) (n k : ℕ) → told_after told (cycles_of s row n k) ≡ told
  silent_told row n zero = refl
  silent_told row n (suc k) = ap (λ (b : Bool). told_after b (cycles_of s row (n + 1) k)) (still_told told s.group parts.1.1) ∙ silent_told row (n + 1) k

-- ---- cycles of ports that show the same

pub record ShowsSame (s : Sample) (row : List ℕ) (port : PortValues) (outs : List (List ℕ)) : Type 0 where
  pub valid' : (m : ℕ) → is_high port (suc m) out_valid ≡ s.valid
  pub end' : (m : ℕ) → is_high port (suc m) out_eos ≡ s.end
  pub group' : (m : ℕ) → is_high port (suc m) fault_group ≡ s.group
  pub row' : (m : ℕ) → map (seen.value_at port (suc m)) outs ≡ row

module _ (s : Sample) (row : List ℕ) (port : PortValues) (outs : List (List ℕ)) (same : ShowsSame s row port outs) where
  same_group : (n : ℕ) → (shown port outs n).group ≡ s.group
  unfolding shown
  same_group n = same.group' n

  same_cycle : (kinds : List Kind) (told : Bool) (n : ℕ) → cycle_lines kinds told (shown port outs n) ≡ cycle_lines kinds told (sampled s n row)
  unfolding shown
  same_cycle kinds told n =
      ap (λ (b : Bool). (if b && not told then overflow_line n else []) ++ row_line kinds n (if is_high port (suc n) out_valid then Some (map (seen.value_at port (suc n)) outs) else None)
      ++ (if is_high port (suc n) out_eos then end_line n else [])) (same.group' n)
      ∙ ap (λ (b : Bool). (if s.group && not told then overflow_line n else []) ++ row_line kinds n (if b then Some (map (seen.value_at port (suc n)) outs) else None)
      ++ (if is_high port (suc n) out_eos then end_line n else [])) (same.valid' n)
      ∙ ap (λ (vs : List ℕ). (if s.group && not told then overflow_line n else []) ++ row_line kinds n (if s.valid then Some vs else None)
      ++ (if is_high port (suc n) out_eos then end_line n else [])) (same.row' n)
      ∙ ap (λ (b : Bool). (if s.group && not told then overflow_line n else []) ++ row_line kinds n (if s.valid then Some row else None) ++ (if b then end_line n else [])) (same.end' n)

  pub lines_same : (kinds : List Kind) (told : Bool) (n k : ℕ) → lines_after told kinds (cycles_of s row n k) ≡ lines_after told kinds (shown_from port outs n k)
  lines_same kinds told n zero = refl
  lines_same kinds told n (suc k) =
      ap (λ (x : List ℕ). x ++ lines_after (told || s.group) kinds (cycles_of s row (n + 1) k)) (sym (same_cycle kinds told n))
      ∙ ap (λ (x : List ℕ). cycle_lines kinds told (shown port outs n) ++ x) (lines_same kinds (told || s.group) (n + 1) k)
      ∙ ap (λ (b : Bool). cycle_lines kinds told (shown port outs n) ++ lines_after (told || b) kinds (shown_from port outs (n + 1) k)) (sym (same_group n))

  pub told_same : (told : Bool) (n k : ℕ) → told_after told (cycles_of s row n k) ≡ told_after told (shown_from port outs n k)
  told_same told n zero = refl
  told_same told n (suc k) =
      told_same (told || s.group) (n + 1) k
      ∙ ap (λ (b : Bool). told_after (told || b) (shown_from port outs (n + 1) k)) (sym (same_group n))

-- what signals show whose values stay
pub steady_shows : (signals : List Signal) (values : List (Option Word)) (s : Sample) (row : List ℕ) (valid end' group : Option ℕ) (numbers : List (Option ℕ))
    → s.valid ≡ (value_in values valid == 1) → s.end ≡ (value_in values end' == 1) → s.group ≡ (value_in values group == 1) → row ≡ map (value_in values) numbers
    → valid ≡ number_of_name signals out_valid → end' ≡ number_of_name signals out_eos → group ≡ number_of_name signals fault_group
    → numbers ≡ map (λ c. number_of_name signals c.name) (columns_of signals) → ShowsSame s row (steady signals values) (names_shown signals)
steady_shows signals values s row valid end' group numbers v e g r is_valid is_end is_group are = record {
  valid' = λ m. sym (v ∙ ap (λ (o : Option ℕ). value_in values o == 1) is_valid);
  end' = λ m. sym (e ∙ ap (λ (o : Option ℕ). value_in values o == 1) is_end);
  group' = λ m. sym (g ∙ ap (λ (o : Option ℕ). value_in values o == 1) is_group);
  row' = λ m.
      map_map (seen.value_at (steady signals values) (suc m)) (λ (c : Signal). c.name) (columns_of signals)
      ∙ sym (map_map (value_in values) (λ (c : Signal). number_of_name signals c.name) (columns_of signals))
      ∙ sym (ap (map (value_in values)) are) ∙ sym r;
}

-- ---- the columns of signals that show a result

-- a fact of all is one of some of them
pub all_among : {X : Type 0} (P : X → Type 0) (p : X → Bool) (xs : List X) → AllByRecursion P xs → AllByRecursion P (filter p xs)
all_among P p [] all = tt
all_among P p (x ∷ xs) all = by (p x) (all_among P p xs all.1)
  where
    by : (b : Bool) → AllByRecursion P (filter p xs) → AllByRecursion P (if b then x ∷ filter p xs else filter p xs)
    by true rest = (all.0, rest)
    by false rest = rest

zip_maps : {X : Type 0} (R : Option ℕ → ℕ → Type 0) (f : X → Option ℕ) (g : X → ℕ) (xs : List X) → AllByRecursion (λ x. R (f x) (g x)) xs → AllZip R (map f xs) (map g xs)
zip_maps R f g [] all = tt
zip_maps R f g (x ∷ xs) all = (all.0, zip_maps R f g xs all.1)

value_small : (values : List (Option Word)) (o : Option ℕ) (w : ℕ) → ((v : ℕ) → option_and_then (bits_in values) o ≡ Some v → v < 2 ^ w) → value_in values o < 2 ^ w
value_small values o w small = by (option_and_then (bits_in values) o) small
  where
    by : (p : Option ℕ) → ((v : ℕ) → p ≡ Some v → v < 2 ^ w) → unwrap_or p 0 < 2 ^ w
    by None small = one-le-pow w 2 (omega arith)
    by (Some v) small = small v refl

pub columns_fit : (signals : List Signal) (values : List (Option Word)) → AreNumbered signals → HaveRoom signals values
    → AllZip (λ n width. value_in values n < 2 ^ width) (map (λ c. number_of_name signals c.name) (columns_of signals)) (map (λ c. c.width) (columns_of signals))
columns_fit signals values are room =
    zip_maps (λ n width. value_in values n < 2 ^ width) (λ (c : Signal). number_of_name signals c.name) (λ (c : Signal). c.width) (columns_of signals)
    (all_among (λ (c : Signal). value_in values (number_of_name signals c.name) < 2 ^ c.width) (λ c. shows_column c) signals
    (all_by_place (λ (c : Signal). value_in values (number_of_name signals c.name) < 2 ^ c.width) signals
    (λ i c at. value_small values (number_of_name signals c.name) c.width (λ v is. room i v c at (sym (ap (option_and_then (bits_in values)) (are i c at)) ∙ is)))))

kinds_good : (xs : List Signal) → AllByRecursion (λ x. IsWidth x.width) xs → list_any (λ s. nat_lt 64 s.width) xs ≡ false → AllByRecursion IsKind (map kind_of xs)
kinds_good [] all none = tt
kinds_good (x ∷ xs) all none =
    let p = neither_parts (nat_lt 64 x.width) (list_any (λ s. nat_lt 64 s.width) xs) none in
    ((let some' = all.0.some' in omega (arith, some'), ltb-false 64 x.width p.0), kinds_good xs all.1 p.1)

show_columns : (signals : List Signal) → show_none signals ≡ false → are_columns signals ≡ true
unfolding show_none
show_columns signals shows = by (has_line signals out_valid) (has_line signals out_eos) (not (has_wide signals fault_group)) (are_columns signals) shows
  where
    by : (a b d e : Bool) → not (a && b && d && e) ≡ false → e ≡ true
    by true true true true h = refl
    by true true true false h = absurd cc
    by true true false e h = absurd cc
    by true false d e h = absurd cc
    by false b d e h = absurd cc

pub columns_few : (signals : List Signal) (kinds : List Kind) → show_none signals ≡ false → kinds ≡ map kind_of (columns_of signals) → length kinds ≤ 32
columns_few signals kinds shows are =
    let p = and_parts (nat_le (length (columns_of signals)) 32) (not (list_any (λ s. nat_lt 64 s.width) (columns_of signals))) (show_columns signals shows) in
    let few = leb-true (length (columns_of signals)) 32 p.0 in
    omega (arith, ap length are, length_map kind_of (columns_of signals), few)

pub columns_kinds : (signals : List Signal) (kinds : List Kind) → show_none signals ≡ false → AllByRecursion (λ x. IsWidth x.width) signals → kinds ≡ map kind_of (columns_of signals) → AllByRecursion IsKind kinds
columns_kinds signals kinds shows widths are =
    let p = and_parts (nat_le (length (columns_of signals)) 32) (not (list_any (λ s. nat_lt 64 s.width) (columns_of signals))) (show_columns signals shows) in
    subst (AllByRecursion IsKind) (sym are)
    (kinds_good (columns_of signals) (all_among (λ (x : Signal). IsWidth x.width) (λ c. shows_column c) signals widths) (not_true (list_any (λ s. nat_lt 64 s.width) (columns_of signals)) p.1))

pub columns_widths : (signals : List Signal) (kinds : List Kind) → kinds ≡ map kind_of (columns_of signals) → map width_of kinds ≡ map (λ c. c.width) (columns_of signals)
columns_widths signals kinds are = ap (map width_of) are ∙ map_map width_of kind_of (columns_of signals)
