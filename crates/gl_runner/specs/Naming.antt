-- What the watcher of several results keeps.
-- A middle layer: no promise rests on it.
use Rattle.std.specs.Prelude.{◌≡◌, ℕ, false, List, map, unwrap_or}
use Rattle.std.specs.List.{AllZip}
use Rattle.gl_bits.specs.Words.{widths_of}
use Rattle.gl_values.specs.Kinds.{width_of}
use Rattle.gl_schema.specs.declared.schema.Column.{Column}
use Rattle.gl_schema.specs.Ports.{PortValues, fault_group, out_column, out_eos, out_valid}
use Rattle.gl_schema.specs.Schemas.{kinds_of}
use Rattle.gl_testbench.specs.Views.{within}
use Rattle.gl_verilog.specs.Module.{Module, number_of}
use Rattle.gl_verilog_ports.specs.Profile.{ports_of}
use Rattle.gl_testbench.specs.declared.pins.Shows.{Shows}
use Rattle.gl_runner.specs.declared.faces.Face.{Face}
use Rattle.gl_runner.specs.declared.naming.NamedLines.{NamedLines}
use Rattle.gl_runner.specs.declared.naming.NamedResult.{NamedResult}
use Rattle.gl_runner.specs.Probes.{IsProbe, Names}
use Rattle.gl_runner.specs.Several.{ended_before, outs_of, shown_by, told_by}

-- the names of a result's ports where it stands beside others
abbrev pub names_of : Face → Names
names_of f = record {
  valid = within f.name out_valid;
  end = within f.name out_eos;
  group = within f.name fault_group;
  columns = map (within f.name) (outs_of f);
}

-- the number of a column's port
abbrev pub column_at : Module → List ℕ → Column → ℕ
column_at m result c = unwrap_or (number_of (ports_of m) (within result (out_column c.name))) 0

-- the ports that show it were found
pub record AreShownBy (m : Module) (f : Face) (shows : Shows) : Type 0 where
  pub valid' : shows.valid ≡ number_of (ports_of m) (within f.name out_valid)
  pub end' : shows.end ≡ number_of (ports_of m) (within f.name out_eos)
  pub group' : shows.group ≡ number_of (ports_of m) (within f.name fault_group)
  pub columns' : shows.columns.items ≡ map (column_at m f.name) f.columns

-- the watcher of a named result stands before the first cycle of its module
pub record IsNew (m : Module) (f : Face) (r : NamedResult) : Type 0 where
  pub kinds' : r.kinds.items ≡ kinds_of f.columns
  pub shows' : AreShownBy m f r.shows
  pub row' : widths_of r.row ≡ map width_of (kinds_of f.columns)
  pub told' : r.told ≡ false
  pub ended' : r.ended ≡ false

-- the watcher of a named result is made for this module
pub record ServesFace (m : Module) (f : Face) (r : NamedResult) : Type 0 where
  pub kinds' : r.kinds.items ≡ kinds_of f.columns
  pub probe : IsProbe m (names_of f) r.kinds.items r.shows r.row

-- the cycles of a run in front of this one were watched
pub record StandsNamed (last : ℕ) (port : PortValues) (n : ℕ) (f : Face) (r : NamedResult) : Type 0 where
  pub told' : r.told ≡ told_by f port n
  pub ended' : r.ended ≡ ended_before last (λ k. (shown_by f port k).end) n

-- the watcher of several, in front of the first cycle of a module
pub record AreNew (m : Module) (given : List Face) (at : ℕ) (w : NamedLines) : Type 0 where
  pub faces' : w.faces.now ≡ given
  pub last' : w.last ≡ at
  pub new' : AllZip (IsNew m) w.faces.now w.results.items
