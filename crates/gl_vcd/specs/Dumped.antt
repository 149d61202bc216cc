-- A text is a dump of a run, and the lines that it shows.
use Rattle.std.specs.Prelude.{◌≡◌, ℕ, suc, ◌<◌, List, map, Some, Ok, Err, slice_get}
use Rattle.gl_outside.specs.States.{SinkState, Broke, Took}
use Rattle.gl_schema.specs.Ports.{PortValues}
use Rattle.gl_vcd.specs.declared.outcome.Undump.{Undump}
use Rattle.gl_vcd.specs.declared.outcome.Undump.TheVariants.{Done, Fault, WriteFault, Memory}
use Rattle.gl_vcd.specs.Reading.{dump_of}
use Rattle.gl_vcd.specs.Signals.{Dump, Signal, lines_of, value_at}

-- a port, by its name and its bits
pub record Port : Type 0 where
  pub name : List ℕ
  pub width : ℕ

-- a signal as a port: its name and its width
abbrev pub port_of : Signal → Port
port_of s = record { name = s.name; width = s.width }

-- the text declares these ports, and in each of so many cycles of a file each has the value in the run that it was given
-- last; file cycle n is simulation cycle n + 1
pub record IsDumped (text : List ℕ) (ports : List Port) (cycles : ℕ) (run : PortValues) : Type 0 where
  pub dump : Dump
  pub reads : dump_of text ≡ Ok dump
  pub declares : map port_of dump.signals ≡ ports
  pub lasts : dump.last ≡ cycles
  pub values : (n i : ℕ) (s : Signal) → n < cycles → slice_get dump.signals i ≡ Some s
      → run (suc n) s.name ≡ value_at dump.changes i n

-- a fact of the lines that a text shows
pub record OfLines (text : List ℕ) (P : List ℕ → Type 0) : Type 0 where
  pub dump : Dump
  pub reads : dump_of text ≡ Ok dump
  pub is : P (lines_of dump)

-- what reading a dump answers, and what it does to the sink: the lines that it shows are taken, all or a front of them; or
-- nothing is written
abbrev pub Undumps : List ℕ → SinkState → SinkState → Undump → Type 0
Undumps text old new Done = OfLines text (Took old new)
Undumps text old new WriteFault = OfLines text (Broke old new)
Undumps text old new (Fault fault) = (dump_of text ≡ Err fault) × (new ≡ old)
Undumps text old new Memory = new ≡ old
