-- What is answered of a query.
use Rattle.std.specs.Prelude.{◌≡◌, ◌⊎◌, List, Option, Some, None, Result, Ok, Err}
use Rattle.gl_schema.specs.declared.schema.Column.{Column}
use Rattle.gl_query.specs.declared.fault.QueryFault.{QueryFault}
use Rattle.gl_query.specs.declared.fault.QueryFault.TheVariants as fault

-- the fault is this one, if there is one, or want of memory
abbrev pub IsOr : Option QueryFault → QueryFault → Type 0
IsOr first e = (first ≡ Some e) ⊎ (e ≡ fault.Memory)

-- an answer is these columns where there is no fault, and else the first fault, unless memory ran out
abbrev pub Answers : Option QueryFault → List Column → Result (List Column) QueryFault → Type 0
Answers first columns (Ok c) = (first ≡ None) × (c ≡ columns)
Answers first columns (Err e) = IsOr first e

-- nothing where there is no fault, and else the fault
abbrev pub Refuses : {A : Type 0} → Option QueryFault → Result A QueryFault → Type 0
Refuses first (Ok a) = first ≡ None
Refuses first (Err e) = first ≡ Some e
