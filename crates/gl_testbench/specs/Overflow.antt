-- What an overflow line says in each cycle.
use Rattle.std.specs.Prelude.{ℕ, suc, List, true, nat_le, filter, IsTrue}
use Rattle.gl_schema.specs.Beats.{Beat, Beats, Inputs, inputs_of}
use Rattle.gl_schema.specs.Ports.{PortValues}
use Rattle.gl_schema.specs.Seen.{shown}
use Rattle.gl_schema.specs.Right.{Meaning}

-- the beats of a list up to a cycle
abbrev pub list_to : ℕ → List Beat → List Beat
list_to c beats = filter (λ b. nat_le b.cycle c) beats

-- the beats up to a cycle: their rows are what the streams have brought by then
abbrev pub beats_to : ℕ → Beats → Beats
beats_to c beats = record beats { list = list_to c beats.list }

-- some result of these inputs spills
pub record HasSpill (means : Meaning) (inputs : Inputs) : Type 0 where
  pub rows : List (List ℕ)
  pub spills : means inputs rows true

-- in file cycles: the line never falls, and where it is 1, what the streams have brought by then, taken as whole
-- streams, has a result that spills
pub record TellsGroup (means : Meaning) (beats : Beats) (outs : List (List ℕ)) (port : PortValues) : Type 0 where
  pub lasts : (n : ℕ) → IsTrue (shown port outs n).group → IsTrue (shown port outs (suc n)).group
  pub so : (n : ℕ) → IsTrue (shown port outs n).group → HasSpill means (inputs_of (beats_to n beats))
