-- What a column tells of one that is some cycles before it, and a stage behind a stage.
use Rattle.std.proofs.Common.{◌≡◌, ℕ, zero, suc, ◌+◌, ◌-◌, ◌<◌, ◌≤◌, List, [], ◌∷◌, ◌++◌, Bool, true, false, refl, sym, ap, ◌∙◌, arith, inl, inr}
use Rattle.std.specs.Prelude.{◌&&◌, if◌then◌else◌, nat_eq}
use Rattle.std.proofs.lemmas.Bool.{cases_lt}
use Rattle.gl_net.specs.Net.{Run}
use Rattle.gl_frames.specs.Frames.{framed}
use Rattle.gl_frames_wire.specs.CountNets.{streams_by}
use Rattle.gl_frames_wire.specs.Since.{own_ends, rows_since}
use Rattle.gl_frames_wire.proofs.ColumnLemmas.{framed_here}
use Rattle.gl_wire.specs.Wire.{line_at}
use Rattle.gl_wire.proofs.StageLemmas.{line_first}
use Rattle.gl_wire_lanes.specs.Lanes.{Lane, row_in}
use Rattle.gl_frames_stages.specs.Columns.{LinesBehind, Tells, column_of}
use Rattle.gl_frames_stages.specs.Laws.{StagesMeet}
use Rattle.gl_frames_stages.specs.declared.lines.Lines.{Lines}

-- ---- a column on lines that are behind

module _ {B : Type 0} (run : Run) (m : ℕ) (lines later : Lines) (behind : LinesBehind run m lines later) (row mid : ℕ → B) (same : (c : ℕ) → mid (c + m) ≡ row c) where
  abbrev from : Lane
  from = streams_by run lines.valid lines.eos

  abbrev to : Lane
  to = streams_by run later.valid later.eos

  not_yet : (c : ℕ) → c < m → row_in to mid c ≡ []
  not_yet c lt = ap (λ (b : Bool). if b then mid c ∷ [] else []) (behind.rows.before c lt)

  still : (e s : Bool) (xs own : List B) → xs ≡ [] → own ≡ [] → (if e then [] else (if s then xs ++ own else xs)) ≡ []
  still true s xs own p q = refl
  still false true xs own p q = ap (λ zs. zs ++ own) p ∙ q
  still false false xs own p q = p

  nothing : (k c : ℕ) → c ≤ m → rows_since (own_ends to) to mid k c ≡ []
  nothing k zero le = refl
  nothing k (suc c) le =
      still (nat_eq 0 k && line_at run later.eos c) (nat_eq 0 k) (rows_since (own_ends to) to mid k c) (row_in to mid c) (nothing k c (omega (arith, le)))
      (not_yet c (omega (arith, le)))

  row_later : (c : ℕ) → row_in to mid (c + m) ≡ row_in from row c
  row_later c =
      ap (λ (b : Bool). if b then mid (c + m) ∷ [] else []) (behind.rows.line c)
      ∙ ap (λ (x : B). if line_at run lines.valid c then x ∷ [] else []) (same c)

  goes_on : (s e f : Bool) (xs ys own mine : List B) → e ≡ f → xs ≡ ys → own ≡ mine
      → (if s && e then [] else (if s then xs ++ own else xs)) ≡ (if s && f then [] else (if s then ys ++ mine else ys))
  goes_on s e f xs ys own mine p q r =
      ap (λ (b : Bool). if s && b then [] else (if s then xs ++ own else xs)) p
      ∙ ap (λ zs. if s && f then [] else (if s then zs ++ own else zs)) q
      ∙ ap (λ zs. if s && f then [] else (if s then ys ++ zs else ys)) r

  since_later : (k c : ℕ) → rows_since (own_ends to) to mid k (c + m) ≡ rows_since (own_ends from) from row k c
  since_later k zero = let e : zero + m ≡ m = omega arith in ap (rows_since (own_ends to) to mid k) e ∙ nothing k m (omega arith)
  since_later k (suc c) =
      let e : suc c + m ≡ suc (c + m) = omega arith in
      ap (rows_since (own_ends to) to mid k) e
      ∙ goes_on (nat_eq 0 k) (line_at run later.eos (c + m)) (line_at run lines.eos c) (rows_since (own_ends to) to mid k (c + m)) (rows_since (own_ends from) from row k c)
      (row_in to mid (c + m)) (row_in from row c) (behind.ends.line c) (since_later k c) (row_later c)

  pub here_later : (c : ℕ) → column_of run later mid (c + m) ≡ column_of run lines row c
  here_later c =
      ap (λ xs. xs ++ row_in to mid (c + m)) (since_later 0 c) ∙ ap (λ own. rows_since (own_ends from) from row 0 c ++ own) (row_later c)

  pub here_back : (c : ℕ) → column_of run later mid (suc (c + m)) ≡ column_of run lines row (suc c)
  here_back c = let e : suc (c + m) ≡ suc c + m = omega arith in ap (column_of run later mid) e ∙ here_later (suc c)

valid_later : (run : Run) (m : ℕ) (lines later : Lines) → LinesBehind run m lines later → (c : ℕ) → line_at run lines.valid (suc c) ≡ true
    → line_at run later.valid (suc (c + m)) ≡ true
valid_later run m lines later behind c v =
    let e : suc (c + m) ≡ suc c + m = omega arith in
    ap (line_at run later.valid) e ∙ behind.rows.line (suc c) ∙ v

-- ---- what is told on later lines, and of earlier ones

pub tells_back : {A B : Type 0} (run : Run) (m n : ℕ) (lines later : Lines) (of : List B → A) (row : ℕ → B) (made : ℕ → A) → LinesBehind run m lines later
    → Tells run later n of (λ t. row (t - m)) made → Tells run lines (m + n) of row made
tells_back run m n lines later of row made behind h c v =
    let e : suc c + (m + n) ≡ suc (c + m) + n = omega arith in
    ap made e ∙ h (c + m) (valid_later run m lines later behind c v)
    ∙ ap of (here_back run m lines later behind row (λ t. row (t - m)) (λ d. let z : d + m - m ≡ d = omega arith in ap row z) c)

pub tells_later : {A B : Type 0} (run : Run) (m : ℕ) (lines later : Lines) (of : List B → A) (row : ℕ → B) (made : ℕ → A) → LinesBehind run m lines later
    → Tells run lines m of row made → Tells run later 0 of (λ t. row (t - m)) made
tells_later run m lines later of row made behind h c v = elim (cases_lt (suc c) m) [
  | inl lt ↦ absurd (let z = behind.rows.before (suc c) lt in cc (z, v))
  | inr le ↦ found (suc c - m) (omega (arith, le))
]
  where
    found : (d : ℕ) → suc c ≡ d + m → made (suc c + 0) ≡ of (column_of run later (λ t. row (t - m)) (suc c))
    found zero e = absurd (let z : line_at run later.valid (suc c) ≡ false = ap (line_at run later.valid) e ∙ behind.rows.line zero ∙ line_first run lines.valid in cc (z, v))
    found (suc d) e =
        let at : suc c + 0 ≡ suc d + m = omega (arith, e) in
        let there : line_at run lines.valid (suc d) ≡ true = sym (behind.rows.line (suc d)) ∙ ap (line_at run later.valid) (sym e) ∙ v in
        ap made at ∙ h d there
        ∙ ap of (sym (here_later run m lines later behind row (λ t. row (t - m)) (λ j. let z : j + m - m ≡ j = omega arith in ap row z) (suc d))
        ∙ ap (column_of run later (λ t. row (t - m))) (sym e))

-- ---- a stage behind a stage

pub stages_meet : {A B C : Type 0} → StagesMeet A B C
stages_meet run m n lines later f g row mid made behind one two c v =
    let e : suc c + (m + n) ≡ suc (c + m) + n = omega arith in
    ap made e ∙ two (c + m) (valid_later run m lines later behind c v)
    ∙ ap g (here_back run m lines later behind (λ t. mid (t + m)) mid (λ t. refl) c
    ∙ framed_here f (own_ends (streams_by run lines.valid lines.eos)) (streams_by run lines.valid lines.eos) row (λ t. mid (t + m)) (line_first run lines.valid) one c v)

-- the same, of what is made of the last of two stages said otherwise
pub stages_as : {A B C : Type 0} (run : Run) (m n : ℕ) (lines later : Lines) (f : List B → C) (g : List C → A) (h : List B → A) (row : ℕ → B) (mid : ℕ → C) (made : ℕ → A)
    → ((xs : List B) → g (framed f xs) ≡ h xs)
    → LinesBehind run m lines later → Tells run lines m f row mid → Tells run later n g mid made → Tells run lines (m + n) h row made
stages_as run m n lines later f g h row mid made same behind one two c v =
    stages_meet run m n lines later f g row mid made behind one two c v ∙ same (column_of run lines row (suc c))

-- lines are no cycle behind themselves
pub behind_itself : (run : Run) (lines : Lines) → LinesBehind run 0 lines lines
behind_itself run lines = record {
  rows = record { before = λ c lt. absurd (omega (arith, lt)); line = λ t. let e : t + 0 ≡ t = omega arith in ap (line_at run lines.valid) e };
  ends = record { before = λ c lt. absurd (omega (arith, lt)); line = λ t. let e : t + 0 ≡ t = omega arith in ap (line_at run lines.eos) e };
}

-- what is told by a column that is so many cycles behind another
pub tells_behind : {A B : Type 0} (run : Run) (lines : Lines) (m n : ℕ) (of : List B → A) (row : ℕ → B) (made late : ℕ → A)
    → ((t : ℕ) → late (suc t + n) ≡ made (suc t)) → Tells run lines m of row made → Tells run lines (m + n) of row late
tells_behind run lines m n of row made late is h c v =
    let e : suc c + (m + n) ≡ suc (c + m) + n = omega arith in
    let f : suc (c + m) ≡ suc c + m = omega arith in
    ap late e ∙ is (c + m) ∙ ap made f ∙ h c v

-- the same in a register
pub tells_next : {A B : Type 0} (run : Run) (lines : Lines) (m : ℕ) (of : List B → A) (row : ℕ → B) (made late : ℕ → A)
    → ((t : ℕ) → late (suc (suc t)) ≡ made (suc t)) → Tells run lines m of row made → Tells run lines (m + 1) of row late
tells_next run lines m of row made late is h =
    tells_behind run lines m 1 of row made late (λ t. let e : suc t + 1 ≡ suc (suc t) = omega arith in ap late e ∙ is t) h
