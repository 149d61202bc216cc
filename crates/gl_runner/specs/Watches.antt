-- What is written of a cycle of a file, by the values of a module's ports in a run.
use Rattle.std.specs.Prelude.{◌≡◌, ℕ, zero, suc, Bool, false, List, [], ◌∷◌, ◌++◌, map, Option, Some, None}
use Rattle.std.specs.List.{list_any}
use Rattle.gl_values.specs.declared.kind.Kind.{Kind}
use Rattle.gl_values.specs.Kinds.{width_of}
use Rattle.gl_bits.specs.Words.{Word, widths_of}
use Rattle.gl_vcd.specs.Dumped.{Port}
use Rattle.gl_vcd.specs.Signals.{seen_below}
use Rattle.gl_vcd.specs.Written as written
use Rattle.gl_schema.specs.Ports.{PortValues}
use Rattle.gl_schema.specs.Seen.{Shown, cycle_lines, shown, value_at}
use Rattle.gl_verilog.specs.Module.{Module}
use Rattle.gl_verilog.specs.View.{module_of}
use Rattle.gl_verilog_ports.specs.Profile.{result_names}
use Rattle.gl_outside.specs.Counts.{Rose}
use Rattle.gl_outside.specs.States.{SinkState, Appends, AppendsFront}
use Rattle.gl_schema.specs.Beats.{Beats}
use Rattle.gl_runner.specs.Cycles.{Driven, HasNoOther, HasOnPorts, IsBefore, design_of}
use Rattle.gl_runner.specs.Ends.{EndsBy, IsLastCycle, NeverEnds}
use Rattle.gl_runner.specs.declared.tracing.Ending.{Ending}
use Rattle.gl_runner.specs.declared.tracing.Ending.TheVariants.{Done, NoEnd, WriteFault, Memory}
use Rattle.gl_verilog.specs.Module.{Nets, Memories}
use Rattle.gl_verilog.specs.Run.{port_of}
use Rattle.gl_testbench.specs.declared.pins.Shows.{Shows}
use Rattle.gl_runner.specs.declared.watching.Made.{Made}
use Rattle.gl_runner.specs.declared.following.ResultLines.{ResultLines}

-- the module that the simulator runs
abbrev pub module_in : Made → Module
module_in made = module_of made.sim.now.design

-- what the simulator has on its ports in the cycle is what the ports have in it in a run
pub record IsMadeOf (made : Made) (port : PortValues) : Type 0 where
  pub ports' : HasOnPorts (module_in made) made.sim.now port (suc made.cycle)
  pub others' : HasNoOther (module_in made) port (suc made.cycle)

-- a further group came in one of these cycles
abbrev pub has_group : List Shown → Bool
has_group all = list_any (λ s. s.group) all

-- of a result: its lines in the cycle, where a further group may have been told before
abbrev pub lines_of_cycle : List Kind → Module → PortValues → ℕ → List ℕ
lines_of_cycle kinds m port n =
    cycle_lines kinds (has_group (seen_below port (result_names m) n)) (shown port (result_names m) n)

-- whether its end is seen in the cycle
abbrev pub end_of_cycle : Module → PortValues → ℕ → Bool
end_of_cycle m port n = (shown port (result_names m) n).end

-- in front of a cycle it is known whether a further group was told, and whether the end was seen in the cycle before
pub record StandsTold (told ended : Bool) (m : Module) (port : PortValues) (n : ℕ) : Type 0 where
  pub told' : told ≡ has_group (seen_below port (result_names m) n)
  pub ended' : (k : ℕ) → n ≡ suc k → ended ≡ end_of_cycle m port k

-- of its watcher, in front of the first cycle: the kinds and the ports are these, and nothing was seen
pub record AreFirst (kinds : List Kind) (shows : Shows) (w : ResultLines) : Type 0 where
  pub kinds' : w.kinds.now ≡ kinds
  pub shows' : w.shows ≡ shows
  pub row' : widths_of w.row ≡ map width_of kinds
  pub told' : w.told ≡ false
  pub ended' : w.ended ≡ false

-- what a dump tells of a cycle: the word on each port
abbrev pub row_in : List Port → PortValues → ℕ → List Word
row_in ports port n = map (λ p. record { bits = value_at port (suc n) p.name; width = p.width }) ports

-- the row of the ports in the cycle before; none in front of the first
abbrev pub row_before : List Port → PortValues → ℕ → Option (List Word)
row_before ports port zero = None
row_before ports port (suc n) = Some (row_in ports port n)

-- what a dump tells of a cycle: the ports that differ from the cycle before
abbrev pub dump_of_cycle : Module → PortValues → ℕ → List ℕ
dump_of_cycle m port n =
    written.cycle n (row_before (written.ports_of m) port n) (row_in (written.ports_of m) port n)

-- the rows of the cycles up to one
abbrev pub rows_to : List Port → PortValues → ℕ → List (List Word)
rows_to ports port zero = row_in ports port 0 ∷ []
rows_to ports port (suc n) = rows_to ports port n ++ row_in ports port (suc n) ∷ []

-- ---- what was watched

-- the bytes of the cycles up to one
abbrev pub bytes_to : (Module → PortValues → ℕ → List ℕ) → Module → PortValues → ℕ → List ℕ
bytes_to bytes m port zero = bytes m port 0
bytes_to bytes m port (suc n) = bytes_to bytes m port n ++ bytes m port (suc n)

-- a fact of a module and its ports in each run in which it is before its next cycle
abbrev pub OfDrivenPorts : Driven → (Module → PortValues → Type 0) → Type 0
OfDrivenPorts d P =
    (value : ℕ → Nets) (word : ℕ → Memories) → IsBefore d value word → P (design_of d) (port_of (design_of d) value)

-- the watcher stands in front of the first cycle of each run
abbrev pub StandsFirst : (Module → PortValues → ℕ → Type 0) → Driven → Type 0
StandsFirst stands d = OfDrivenPorts d (λ m port. stands m port 0)

-- the bytes of all cycles up to this one were written, and the watcher stands behind it
pub record WatchesTo (bytes : Module → PortValues → ℕ → List ℕ) (stands : Module → PortValues → ℕ → Type 0)
    (m : Module) (port : PortValues) (n : ℕ) (old new : Option (List ℕ)) : Type 0 where
  pub taken : Appends old new (bytes_to bytes m port n)
  pub behind : stands m port (suc n)

-- the first bytes of the cycles that are run were written, perhaps none and perhaps all
pub record WatchesFront (bytes : Module → PortValues → ℕ → List ℕ) (ends : Module → PortValues → ℕ → Bool)
    (beats : Beats) (extra : ℕ) (m : Module) (port : PortValues) (old new : Option (List ℕ)) : Type 0 where
  pub last : ℕ
  pub is : IsLastCycle beats (ends m port) extra last
  pub taken : AppendsFront old new (bytes_to bytes m port last)

-- the bytes of all cycles were written up to the one in which the end is seen
pub record WatchesToEnd (bytes : Module → PortValues → ℕ → List ℕ) (ends : Module → PortValues → ℕ → Bool)
    (stands : Module → PortValues → ℕ → Type 0) (beats : Beats) (extra : ℕ) (m : Module) (port : PortValues)
    (old new : Option (List ℕ)) : Type 0 where
  pub last : ℕ
  pub is : EndsBy beats (ends m port) extra last
  pub watched : WatchesTo bytes stands m port last old new

-- the bytes of all cycles that are waited were written, and no end was seen
pub record WatchesOut (bytes : Module → PortValues → ℕ → List ℕ) (ends : Module → PortValues → ℕ → Bool)
    (stands : Module → PortValues → ℕ → Type 0) (beats : Beats) (extra n : ℕ) (m : Module) (port : PortValues)
    (old new : Option (List ℕ)) : Type 0 where
  pub is : NeverEnds beats (ends m port) extra n
  pub watched : WatchesTo bytes stands m port n old new

-- how watching ended: the bytes of all cycles to the end, or to the last that is waited for, were written and nothing
-- failed, and the watcher stands behind them; or the sink failed behind a front of them
abbrev pub Watched : ((Module → PortValues → Type 0) → Type 0) → (Module → PortValues → ℕ → List ℕ)
    → (Module → PortValues → ℕ → Bool) → (Module → PortValues → ℕ → Type 0) → Beats → ℕ → SinkState → SinkState
    → Ending → Type 0
Watched OfRuns bytes ends stands beats extra old new Done =
    (new.faults ≡ old.faults) × OfRuns (λ m port. WatchesToEnd bytes ends stands beats extra m port old.taken new.taken)
Watched OfRuns bytes ends stands beats extra old new (NoEnd cycle) =
    (new.faults ≡ old.faults)
    × OfRuns (λ m port. WatchesOut bytes ends stands beats extra cycle m port old.taken new.taken)
Watched OfRuns bytes ends stands beats extra old new WriteFault =
    Rose old.faults new.faults × OfRuns (λ m port. WatchesFront bytes ends beats extra m port old.taken new.taken)
Watched OfRuns bytes ends stands beats extra old new Memory = ⊥
