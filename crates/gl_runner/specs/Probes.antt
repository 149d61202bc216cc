-- What is read of the ports that show a result: where they are, and what they have.
-- A middle layer, proved equal to `Seen`: no promise rests on it.
use Rattle.std.specs.Prelude.{◌≡◌, ◌==◌, ◌<◌, ◌≤◌, ℕ, Bool, false, List, Option, Some, map, length, option_map, bytes_eq, codes, slice_get, unwrap_or, IfSome}
use Rattle.std.specs.List.{AllByRecursion}
use Rattle.gl_values.specs.declared.kind.Kind.{Kind}
use Rattle.gl_values.specs.Kinds.{IsKind, width_of}
use Rattle.gl_bits.specs.Words.{Word, widths_of}
use Rattle.gl_schema.specs.Ports.{PortValues, fault_group, out_eos, out_valid}
use Rattle.gl_schema.specs.Seen.{is_high, value_at}
use Rattle.gl_verilog.specs.Evaluate.{nets_of}
use Rattle.gl_verilog.specs.Module.{Declaration, Module, number_of}
use Rattle.gl_verilog.specs.Widths.{IsReadable, width_at}
use Rattle.gl_verilog_ports.specs.Profile.{IsLine, port_named, ports_of, result_names}
use Rattle.gl_tuples.specs.declared.lines.Sample.{Sample}
use Rattle.gl_testbench.specs.declared.pins.Shows.{Shows}
use Rattle.gl_testbench.specs.Carried.{name_at}

-- the names of the ports that show a result: its lines, and its columns
pub record Names : Type 0 where
  pub valid : List ℕ
  pub end : List ℕ
  pub group : List ℕ
  pub columns : List (List ℕ)

-- of a result that stands alone
abbrev pub plain_names : Module → Names
plain_names m = record { valid = out_valid; end = out_eos; group = fault_group; columns = result_names m }

-- the port of a name is a line and not the clock, if it is there
pub record IsLineIn (m : Module) (name : List ℕ) : Type 0 where
  pub other : bytes_eq name (codes "clk") ≡ false
  pub line : IfSome (port_named m name) IsLine

-- the number is that of a port that may be read
pub record IsPortIn (m : Module) (k : ℕ) : Type 0 where
  pub port : Declaration
  pub there : slice_get (ports_of m) k ≡ Some port
  pub readable : IsReadable port

-- the ports of these names were found, their columns have these kinds, and the row has a place for each
pub record IsProbe (m : Module) (names : Names) (kinds : List Kind) (shows : Shows) (row : List Word) : Type 0 where
  pub valid' : shows.valid ≡ number_of (ports_of m) names.valid
  pub end' : shows.end ≡ number_of (ports_of m) names.end
  pub group' : shows.group ≡ number_of (ports_of m) names.group
  pub valid_line : IsLineIn m names.valid
  pub end_line : IsLineIn m names.end
  pub group_line : IsLineIn m names.group
  pub columns' : AllByRecursion (IsPortIn m) shows.columns.items
  pub named' : map (name_at m.declarations) shows.columns.items ≡ names.columns
  pub wide' : map (width_at m.declarations) shows.columns.items ≡ map width_of kinds
  pub row' : widths_of row ≡ map width_of kinds
  pub many : length kinds ≤ 32
  pub kinds' : AllByRecursion IsKind kinds

-- the lines are ports of the module
pub record AreInside (m : Module) (shows : Shows) : Type 0 where
  pub valid' : IfSome shows.valid (λ k. k < length m.declarations)
  pub end' : IfSome shows.end (λ k. k < length m.declarations)
  pub group' : IfSome shows.group (λ k. k < length m.declarations)

-- whether a port is there and has 1
abbrev pub is_one : List ℕ → Option ℕ → Bool
is_one have port = unwrap_or (option_map (nets_of have) port) 0 == 1

-- what was sampled is what is on these ports
pub record IsSampled (have : List ℕ) (shows : Shows) (sample : Sample) : Type 0 where
  pub valid' : sample.valid ≡ is_one have shows.valid
  pub end' : sample.end ≡ is_one have shows.end
  pub group' : sample.group ≡ is_one have shows.group

-- a sample is what the ports of a result show in cycle t of a run
pub record IsSeen (port : PortValues) (outs : List (List ℕ)) (t : ℕ) (sample : Sample) (row : List ℕ) : Type 0 where
  pub valid' : sample.valid ≡ is_high port t out_valid
  pub end' : sample.end ≡ is_high port t out_eos
  pub group' : sample.group ≡ is_high port t fault_group
  pub row' : row ≡ map (value_at port t) outs
