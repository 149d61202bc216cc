-- Reading tokens from left to right, with the counts kept beside the machine: what the code does, exactly.
-- A middle layer, proved equal to the spelling of gl_verilog (`Written`) and gl_verilog_faults: no promise rests on it.
use Rattle.std.specs.Prelude.{ℕ, ◌+◌, Bool, true, false, List, [], ◌∷◌, Option, Some, None, Result, Ok, Err}
use Rattle.gl_verilog.specs.Tokens.{Token}
use Rattle.gl_verilog.specs.Written.{WrittenModule}
use Rattle.gl_verilog_faults.specs.Counts.{Counts, after, is_past}
use Rattle.gl_verilog_faults.specs.Marks.{State as Place, role_at, next}
use Rattle.gl_verilog_grammar.specs.Machine.{State, step, finish}

-- a token that cannot stand there, or the end where more is wanted; or a token that passes a limit
pub data Fault : Type 0 where
  Syntax : (at : ℕ) → Fault
  TooDeep : (at : ℕ) → Fault

-- what is there, or else this fault
abbrev pub or_fault : {A : Type 0} → Option A → Fault → Result A Fault
or_fault None f = Err f
or_fault (Some x) f = Ok x

-- a limit that is passed is a fault at this place
abbrev pub if_past : {A : Type 0} → Bool → ℕ → Result A Fault → Result A Fault
if_past true at r = Err (TooDeep at)
if_past false at r = r

-- goes on where a token could stand there; where not, the grammar is broken at this place
abbrev pub then_read : {A B : Type 0} → ℕ → Option A → (A → Result B Fault) → Result B Fault
then_read at None f = Err (Syntax at)
then_read at (Some x) f = f x

-- the written module of the tokens, or the first fault from the left, by the number of its token
unfoldable pub read_from : ℕ → State → Place → Counts → List Token → Result WrittenModule Fault
read_from at s q n [] = or_fault (finish s) (Syntax at)
read_from at s q n (t ∷ ts) =
    then_read at (step s t) (λ s'. if_past (is_past (after n (role_at q t))) at
    (read_from (at + 1) s' (next q t) (after n (role_at q t)) ts))
