-- What stands around a module that runs.
use Rattle.std.specs.Prelude.{◌≡◌, ℕ, ◌+◌, List, [], ◌∷◌, map, if◌then◌else◌}
use Rattle.gl_schema.specs.declared.schema.Schema.{Schema}
use Rattle.gl_schema.specs.Ports.{out_valid, out_eos, fault_group}
use Rattle.gl_schema.specs.Seen.{Shown, shown}
use Rattle.gl_verilog.specs.Module.{Module, Declaration, number_of}
use Rattle.gl_verilog.specs.Run.{port_of}
use Rattle.gl_verilog.specs.Runnable.{inputs_of}
use Rattle.gl_verilog.specs.Evaluate.{nets_of}
use Rattle.gl_verilog.specs.View.{module_of}
use Rattle.gl_sim.specs.Simulation.{Simulation}
use Rattle.gl_testbench.specs.declared.pins.Pin.{Pin}
use Rattle.gl_testbench.specs.declared.pins.Shows.{Shows}
use Rattle.gl_testbench.specs.Carried.{pin_at}
use Rattle.gl_verilog_ports.specs.Profile.{ports_of, shows_column, result_names}

-- the numbers of the columns of the result, counted from n
abbrev pub columns_from : ℕ → List Declaration → List ℕ
columns_from n [] = []
columns_from n (d ∷ ds) = if shows_column d then n ∷ columns_from (n + 1) ds else columns_from (n + 1) ds

-- the ports that show a result are found
pub record AreShows (m : Module) (shows : Shows) : Type 0 where
  pub valid' : shows.valid ≡ number_of (ports_of m) out_valid
  pub end' : shows.end ≡ number_of (ports_of m) out_eos
  pub group' : shows.group ≡ number_of (ports_of m) fault_group
  pub columns' : shows.columns.items ≡ columns_from 0 (ports_of m)

-- what each input port but the clock carries, and which ports show a result
pub record IsBench (m : Module) (schema : Schema) (pins : List Pin) (shows : Shows) : Type 0 where
  pub pins' : pins ≡ map (pin_at schema m.declarations) (inputs_of m)
  pub shows' : AreShows m shows

-- what a simulator shows in a file cycle
abbrev pub shown_by : Simulation → ℕ → Shown
shown_by s n = shown (port_of (module_of s.design) (λ t. nets_of s.shown)) (result_names (module_of s.design)) n
