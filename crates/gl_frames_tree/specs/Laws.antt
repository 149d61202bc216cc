-- The laws of a tree of keys, with no netlist.
use Rattle.std.specs.Prelude.{◌≡◌, ℕ, ◌+◌, ◌*◌, ◌<◌, Some, true, false}
use Rattle.gl_values.specs.Results.{Row}
use Rattle.gl_wire.specs.Wire.{Carried}
use Rattle.gl_frames_keys.specs.Lanes.{is_first, is_kept}
use Rattle.gl_frames_tree.specs.Growing.{Grows, Leads, Level, Numbered, Numbers, children_of}

-- a level over rows whose nodes are numbered numbers their children
abbrev pub LevelsNumber : Type 0
LevelsNumber =
    (n : ℕ) (v : Level) → Numbers n v.rows → Grows n v → ((c : ℕ) → v.digit c < 4) → v.rows.asks 0 ≡ false
    → Numbers n (children_of v)

-- and each row of one of the first keys has one of them
abbrev pub FirstKeysLead : Type 0
FirstKeysLead =
    (n : ℕ) (key : Row → ℕ) (a : Carried) (f next : ℕ → ℕ) (v : Level) → Numbers n v.rows → Leads n key a f v.rows
    → ((c : ℕ) (r : Row) → a.tuple c ≡ Some r → v.rows.valid c ≡ true → f (key r) * 4 + v.digit c ≡ next (key r))
    → Leads n key a next (children_of v)

-- where a node's name is the key the rows that are kept are those of the first keys
abbrev pub LastIsKept : Type 0
LastIsKept =
    (n : ℕ) (key : Row → ℕ) (a : Carried) (m : Numbered) → Numbers n m → Leads n key a (λ x. x) m
    → (c : ℕ) → m.valid c ≡ is_kept n key a c (a.tuple c)

-- and the row that begins a node is the first of its key
abbrev pub LastIsFirst : Type 0
LastIsFirst =
    (n : ℕ) (key : Row → ℕ) (a : Carried) (m : Numbered) → Numbers n m → Leads n key a (λ x. x) m
    → (c : ℕ) → m.fresh c ≡ is_first n key a c (a.tuple c)
