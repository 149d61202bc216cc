-- The law of serving with spill, and with the lines that tell of it.
use Rattle.std.specs.Prelude.{◌≡◌, ℕ, ◌≤◌, List, Some, Bool, true, false, ◌||◌}
use Rattle.gl_algebra.specs.declared.figures.Figures.{Figures}
use Rattle.gl_values.specs.Results.{Row}
use Rattle.gl_wire.specs.Beats.{Beats, Spaced, Ends}
use Rattle.gl_wire.specs.Wire.{Carried}
use Rattle.gl_wire.specs.Serves.{Fits, Meaning, Meaning2, Served, Served2}

-- which lists of rows may come out for those that came in, and whether some are left out: the spill
abbrev pub Relation : Type 1
Relation = List Row → List Row → Bool → Type 0

-- which rows and which spill are right for the rows of two inputs
abbrev pub Relation2 : Type 1
Relation2 = List Row → List Row → List Row → Bool → Type 0

-- a meaning that never spills
abbrev pub never : Meaning → Relation
never m xs ys p = (m xs ys) × (p ≡ false)

-- nor does one of two inputs
abbrev pub never2 : Meaning2 → Relation2
never2 m xs ys zs p = (m xs ys zs) × (p ≡ false)

-- the lines of a block in each cycle: that a queue was passed, and that a further group came
pub record Lines : Type 0 where
  pub passed : ℕ → Bool
  pub further : ℕ → Bool

-- a block without such lines
abbrev pub no_lines : Lines
no_lines = record { passed = λ c. false; further = λ c. false }

-- the lines of two blocks together
abbrev pub both_lines : Lines → Lines → Lines
both_lines p q = record { passed = λ c. p.passed c || q.passed c; further = λ c. p.further c || q.further c }

-- two circuits tell of faults in the same cycles
pub record SameLines (p q : Lines) : Type 0 where
  pub passed : (c : ℕ) → p.passed c ≡ q.passed c
  pub further : (c : ℕ) → p.further c ≡ q.further c

-- over these beats: a choice of spill for the stream of each beat with the end, for which the results are right and the
-- lines true
pub record ServedWithLines (f g : Figures) (means : Relation) (lines : Lines) (beats : Beats) (a b : Carried)
    : Type 0 where
  pub spill : ℕ → Bool
  pub served : Served f g (λ t xs ys. means xs ys (spill t)) beats a b
  -- no queue is passed
  pub low : (c : ℕ) → lines.passed c ≡ false
  -- a spill is told by the line
  pub told : Ends beats → (t : ℕ) → beats t ≡ Some true → spill t ≡ true → (c : ℕ) × (lines.further c ≡ true)
  -- where the line tells of a spill there is one
  pub so : Ends beats → (c : ℕ) → lines.further c ≡ true → (t : ℕ) × (beats t ≡ Some true) × (spill t ≡ true)
  -- the line is not 1 after the last end
  pub late : Ends beats → (c : ℕ) → lines.further c ≡ true → (e : ℕ) × (c ≤ e) × (b.ends e ≡ true)

-- a block with lines serves a meaning: over every sequence of streams
abbrev pub ServesWithLines : Figures → Figures → Relation → Lines → Carried → Carried → Type 0
ServesWithLines f g means lines a b =
    (beats : Beats) → Spaced g beats → Fits f beats a → ServedWithLines f g means lines beats a b

-- the law over these beats for a block of two inputs, clause by clause as for one
pub record ServedWithLines2 (f g h : Figures) (means : Relation2) (lines : Lines) (beats : Beats) (a b o : Carried)
    : Type 0 where
  pub spill : ℕ → Bool
  pub served : Served2 f g h (λ t xs ys zs. means xs ys zs (spill t)) beats a b o
  pub low : (c : ℕ) → lines.passed c ≡ false
  pub told : Ends beats → (t : ℕ) → beats t ≡ Some true → spill t ≡ true → (c : ℕ) × (lines.further c ≡ true)
  pub so : Ends beats → (c : ℕ) → lines.further c ≡ true → (t : ℕ) × (beats t ≡ Some true) × (spill t ≡ true)
  pub late : Ends beats → (c : ℕ) → lines.further c ≡ true → (e : ℕ) × (c ≤ e) × (o.ends e ≡ true)

-- what a block of two inputs may ask of them beside that they fit: a condition over the beats and both wires
abbrev pub Condition : Type 1
Condition = Beats → Carried → Carried → Type 0

-- nothing
abbrev pub always : Condition
always beats a b = Unit {0}

-- a block of two inputs serves a meaning where they meet the condition
abbrev pub ServesWhen2 : Condition → Figures → Figures → Figures → Relation2 → Lines → Carried → Carried → Carried
    → Type 0
ServesWhen2 Cond f g h means lines a b o =
    (beats : Beats) → Spaced h beats → Fits f beats a → Fits g beats b → Cond beats a b
    → ServedWithLines2 f g h means lines beats a b o
