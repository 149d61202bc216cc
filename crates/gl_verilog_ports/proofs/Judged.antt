-- What the ports are where none is bad.
use Rattle.std.proofs.Common.{◌≡◌, ℕ, zero, suc, ◌+◌, ◌<◌, ◌≤◌, Bool, true, false, not, List, [], ◌∷◌, length, map, Some, None, refl, ap, ◌∙◌, arith}
use Rattle.std.specs.Prelude.{◌&&◌, ◌||◌, filter, nat_le, nat_lt, slice_get, if◌then◌else◌}
use Rattle.std.specs.List.{AllByRecursion}
use Rattle.std.proofs.lemmas.Bool.{leb-false, ltb-false, lt-leb, le-ltb}
use Rattle.gl_bits.proofs.Bools.{and_so, so_and, and_no, no_and, neither, neither_parts}
use Rattle.gl_bits.proofs.Options.{not_some}
use Rattle.gl_schema.specs.declared.schema.Schema.{Schema}
use Rattle.gl_verilog.specs.Module.{Declaration}
use Rattle.gl_verilog.specs.Run.{is_input}
use Rattle.gl_verilog_ports.specs.Fit.{is_asked, is_line_name, is_line, is_bad, with_port, first_bad}
use Rattle.gl_verilog_ports.specs.Profile.{shows_column}

-- a port is one that a module may have, the number of the columns aside
pub record IsAllowed (schema : Schema) (d : Declaration) : Type 0 where
  pub asked : is_input d.kind ≡ true → is_asked schema d ≡ true
  pub line : is_line_name d.name ≡ true → is_line d ≡ true
  pub narrow : shows_column d ≡ true → d.width ≤ 64

-- a port may stand behind so many columns
record IsSuited (schema : Schema) (columns : ℕ) (d : Declaration) : Type 0 where
  allowed : IsAllowed schema d
  room : shows_column d ≡ true → columns < 32

-- each may stand behind the columns before it, the first of these behind so many
AreSuited : Schema → ℕ → List Declaration → Type 0
AreSuited schema columns [] = Unit {0}
AreSuited schema columns (d ∷ ds) = IsSuited schema columns d × AreSuited schema (with_port columns d) ds

-- ---- one port

suited : (schema : Schema) (columns : ℕ) (d : Declaration) → is_bad schema columns d ≡ false → IsSuited schema columns d
suited schema columns d e =
    let wide : Bool = shows_column d && (nat_le 32 columns || nat_lt 64 d.width) in
    let line : Bool = is_line_name d.name && not (is_line d) in
    let first = neither_parts (is_input d.kind && not (is_asked schema d)) (line || wide) e in
    let second = neither_parts line wide first.1 in
    let bounds = λ (h : shows_column d ≡ true). neither_parts (nat_le 32 columns) (nat_lt 64 d.width) (and_no (shows_column d) (nat_le 32 columns || nat_lt 64 d.width) second.1 h) in
    record {
      allowed = record {
        asked = λ h. and_so (is_input d.kind) (is_asked schema d) first.0 h;
        line = λ h. and_so (is_line_name d.name) (is_line d) second.0 h;
        narrow = λ h. ltb-false 64 d.width (bounds h).1;
      };
      room = λ h. leb-false 32 columns (bounds h).0;
    }

not_bad : (schema : Schema) (columns : ℕ) (d : Declaration) → IsSuited schema columns d → is_bad schema columns d ≡ false
not_bad schema columns d s =
    neither (is_input d.kind && not (is_asked schema d)) ((is_line_name d.name && not (is_line d)) || (shows_column d && (nat_le 32 columns || nat_lt 64 d.width)))
    (so_and (is_input d.kind) (is_asked schema d) s.allowed.asked)
    (neither (is_line_name d.name && not (is_line d)) (shows_column d && (nat_le 32 columns || nat_lt 64 d.width))
    (so_and (is_line_name d.name) (is_line d) s.allowed.line)
    (no_and (shows_column d) (nat_le 32 columns || nat_lt 64 d.width)
    (λ h. neither (nat_le 32 columns) (nat_lt 64 d.width) (lt-leb 32 columns (s.room h)) (le-ltb 64 d.width (s.allowed.narrow h)))))

-- ---- all ports

are_suited : (schema : Schema) (n columns : ℕ) (ds : List Declaration) → first_bad schema n columns ds ≡ None → AreSuited schema columns ds
unfolding AreSuited
are_suited schema n columns [] e = tt
are_suited schema n columns (d ∷ ds) e = pick (is_bad schema columns d) refl e (are_suited schema (n + 1) (with_port columns d) ds)
  where
    pick : (b : Bool) → is_bad schema columns d ≡ b → (if b then Some n else first_bad schema (n + 1) (with_port columns d) ds) ≡ None → (first_bad schema (n + 1) (with_port columns d) ds ≡ None → AreSuited schema (with_port columns d) ds) → IsSuited schema columns d × AreSuited schema (with_port columns d) ds
    pick true bad e later = absurd cc
    pick false bad e later = (suited schema columns d bad, later e)

none_bad : (schema : Schema) (n columns : ℕ) (ds : List Declaration) → AreSuited schema columns ds → first_bad schema n columns ds ≡ None
unfolding AreSuited
none_bad schema n columns [] h = refl
none_bad schema n columns (d ∷ ds) h =
    ap (λ (b : Bool). if b then Some n else first_bad schema (n + 1) (with_port columns d) ds) (not_bad schema columns d h.0)
    ∙ none_bad schema (n + 1) (with_port columns d) ds h.1

allowed_at : (schema : Schema) (columns : ℕ) (ds : List Declaration) (n : ℕ) (d : Declaration) → AreSuited schema columns ds → slice_get ds n ≡ Some d → IsAllowed schema d
unfolding AreSuited
allowed_at schema columns [] n d h e = absurd (not_some d e)
allowed_at schema columns (x ∷ ds) zero d h e = let same : x ≡ d = cc in rw (← same) h.0.allowed
allowed_at schema columns (x ∷ ds) (suc n) d h e = allowed_at schema (with_port columns x) ds n d h.1 e

few : (schema : Schema) (columns : ℕ) (ds : List Declaration) → columns ≤ 32 → AreSuited schema columns ds → columns + length (filter shows_column ds) ≤ 32
unfolding AreSuited
few schema columns [] le h = omega arith
few schema columns (d ∷ ds) le h = pick (shows_column d) refl (λ le'. few schema (with_port columns d) ds le' h.1)
  where
    pick : (b : Bool) → shows_column d ≡ b → ((if b then columns + 1 else columns) ≤ 32 → (if b then columns + 1 else columns) + length (filter shows_column ds) ≤ 32) → columns + length (if b then d ∷ filter shows_column ds else filter shows_column ds) ≤ 32
    pick true e later =
        let below : columns < 32 = h.0.room e in
        let more : columns + 1 + length (filter shows_column ds) ≤ 32 = later (omega arith) in
        omega arith
    pick false e later = later le

narrow : (schema : Schema) (columns : ℕ) (ds : List Declaration) → AreSuited schema columns ds → AllByRecursion (λ w. w ≤ 64) (map (λ (d : Declaration). d.width) (filter shows_column ds))
unfolding AreSuited
narrow schema columns [] h = tt
narrow schema columns (d ∷ ds) h = pick (shows_column d) refl (narrow schema (with_port columns d) ds h.1)
  where
    pick : (b : Bool) → shows_column d ≡ b → AllByRecursion (λ w. w ≤ 64) (map (λ (x : Declaration). x.width) (filter shows_column ds)) → AllByRecursion (λ w. w ≤ 64) (map (λ (x : Declaration). x.width) (if b then d ∷ filter shows_column ds else filter shows_column ds))
    pick true e later = (h.0.allowed.narrow e, later)
    pick false e later = later

-- each port is allowed, and there are at most 32 columns
pub record AreAllowed (schema : Schema) (ds : List Declaration) : Type 0 where
  pub each : (n : ℕ) (d : Declaration) → slice_get ds n ≡ Some d → IsAllowed schema d
  pub many : length (filter shows_column ds) ≤ 32
  pub narrow' : AllByRecursion (λ w. w ≤ 64) (map (λ (d : Declaration). d.width) (filter shows_column ds))

pub allowed : (schema : Schema) (ds : List Declaration) → first_bad schema 0 0 ds ≡ None → AreAllowed schema ds
allowed schema ds e =
    let h = are_suited schema 0 0 ds e in
    record { each = λ n d at. allowed_at schema 0 ds n d h at; many = (let few' : 0 + length (filter shows_column ds) ≤ 32 = few schema 0 ds (omega arith) h in omega arith); narrow' = narrow schema 0 ds h }

from_allowed : (schema : Schema) (columns : ℕ) (ds : List Declaration) → ((n : ℕ) (d : Declaration) → slice_get ds n ≡ Some d → IsAllowed schema d) → columns + length (filter shows_column ds) ≤ 32 → AreSuited schema columns ds
unfolding AreSuited
from_allowed schema columns [] each le = tt
from_allowed schema columns (d ∷ ds) each le =
    let counts = pick (shows_column d) le in
    (record { allowed = each 0 d refl; room = counts.0 }, from_allowed schema (with_port columns d) ds (λ n x e. each (suc n) x e) counts.1)
  where
    pick : (b : Bool) → columns + length (if b then d ∷ filter shows_column ds else filter shows_column ds) ≤ 32 → (b ≡ true → columns < 32) × ((if b then columns + 1 else columns) + length (filter shows_column ds) ≤ 32)
    pick true h = (λ e. omega arith, omega arith)
    pick false h = (λ e. absurd cc, h)

pub all_allowed : (schema : Schema) (ds : List Declaration) → ((n : ℕ) (d : Declaration) → slice_get ds n ≡ Some d → IsAllowed schema d) → length (filter shows_column ds) ≤ 32 → first_bad schema 0 0 ds ≡ None
all_allowed schema ds each many = none_bad schema 0 0 ds (from_allowed schema 0 ds each (omega arith))

pub narrow_at : (ds : List Declaration) (n : ℕ) (d : Declaration) → AllByRecursion (λ w. w ≤ 64) (map (λ (x : Declaration). x.width) (filter shows_column ds)) → slice_get ds n ≡ Some d → shows_column d ≡ true → d.width ≤ 64
narrow_at [] n d h at shows = absurd (not_some d at)
narrow_at (x ∷ ds) zero d h at shows =
    let same : x ≡ d = cc in
    pick (shows_column x) (ap shows_column same ∙ shows) h
  where
    pick : (b : Bool) → b ≡ true → AllByRecursion (λ w. w ≤ 64) (map (λ (y : Declaration). y.width) (if b then x ∷ filter shows_column ds else filter shows_column ds)) → d.width ≤ 64
    pick true e h = let same : x ≡ d = cc in let w : x.width ≡ d.width = ap (λ (y : Declaration). y.width) same in let le : x.width ≤ 64 = h.0 in omega arith
    pick false e h = absurd cc
narrow_at (x ∷ ds) (suc n) d h at shows = pick (shows_column x) h (λ later. narrow_at ds n d later at shows)
  where
    pick : (b : Bool) → AllByRecursion (λ w. w ≤ 64) (map (λ (y : Declaration). y.width) (if b then x ∷ filter shows_column ds else filter shows_column ds)) → (AllByRecursion (λ w. w ≤ 64) (map (λ (y : Declaration). y.width) (filter shows_column ds)) → d.width ≤ 64) → d.width ≤ 64
    pick true h later = later h.1
    pick false h later = later h
