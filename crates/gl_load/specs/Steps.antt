-- What the code has of a tally, the sink that keeps what it takes, and the compiled query and its run.
-- A middle layer, proved equal to `Tallies` and `Loads`: no promise rests on it.
use Rattle.std.specs.Prelude.{◌≡◌, ℕ, ◌*◌, ◌≤◌, List, Some}
use Rattle.gl_schema.specs.Schemas.{kinds_of}
use Rattle.gl_schema.specs.Beats.{Beats}
use Rattle.gl_gaps.specs.Keeps.{even_gaps}
use Rattle.gl_verilog.specs.declared.start.Start.TheVariants.{Zero}
use Rattle.gl_compiler.specs.declared.compiling.Compiled.{Compiled}
use Rattle.gl_compiler.specs.Built.{printed_gaps}
use Rattle.gl_compiler.specs.Meets.{result_columns}
use Rattle.gl_compiler.specs.Texts.{IsCompiledText}
use Rattle.gl_runner.specs.Prints.{AreLinesOf, OfEachRun}
use Rattle.gl_outside.specs.States.{SinkState}
use Rattle.gl_load.specs.declared.tally.Tally.{Tally as Rust}
use Rattle.gl_load.specs.Query.{load_schema, query_text, schema_text}
use Rattle.gl_load.specs.Tallies.{Tally}

-- the tally that the code's value stands for
abbrev pub tally_in : Rust → Tally
tally_in t = record { results = t.results; counted = t.counted; last = t.last.now; end = t.end.now }

-- each count is below 2^64
abbrev pub IsBounded : Rust → Type 0
IsBounded t = t.counted ≤ t.results * 18446744073709551615

-- the bytes that a sink took, and its faults
pub record Kept : Type 0 where
  pub bytes : List ℕ
  pub faults : ℕ

-- a sink that keeps its bytes and never loses one
abbrev pub kept_state : Kept → SinkState
kept_state s = record { taken = Some s.bytes; faults = s.faults }

-- the compiled query of the load: it is made of the two texts, and takes a tuple in each cycle
pub record IsCompiledLoad (c : Compiled) : Type 0 where
  pub made : IsCompiledText schema_text query_text c
  pub schema : c.schema ≡ load_schema
  pub gaps : printed_gaps c.printed ≡ even_gaps 1

-- the bytes are the lines of each run of its text over these beats, from registers and words of 0
abbrev pub AreRunLines : Compiled → Beats → List ℕ → Type 0
AreRunLines c beats bytes = OfEachRun c.text.items load_schema beats Zero
    (λ outs port. (lines : List ℕ) × AreLinesOf (kinds_of (result_columns load_schema c.statement))
    beats outs port lines × (bytes ≡ lines))
