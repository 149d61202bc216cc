-- Which modules a dump can tell, whatever they run over, and when a text tells a run of one.
use Rattle.std.specs.Prelude.{◌≡◌, ◌≤◌, ◌+◌, ℕ, true, false, List, length, map}
use Rattle.std.specs.List.{AllByRecursion}
use Rattle.gl_values.specs.declared.kind.Kind.TheVariants.{Unsigned}
use Rattle.gl_bits.specs.Limits.{latest_time, most_ports}
use Rattle.gl_bits.specs.Words.{IsWidth}
use Rattle.gl_gaps.specs.declared.Gaps.{Gaps}
use Rattle.gl_schema.specs.declared.schema.Schema.{Schema}
use Rattle.gl_schema.specs.Beats.{Beats, AreBeats, last_cycle}
use Rattle.gl_gaps.specs.Keeps.{KeepsGaps}
use Rattle.gl_schema.specs.Schemas.{IsSchema}
use Rattle.gl_schema.specs.Ports.{PortValues}
use Rattle.gl_schema.specs.Seen.{lines, seen}
use Rattle.gl_query.specs.declared.tree.Statement.{Statement}
use Rattle.gl_verilog.specs.Module.{Module}
use Rattle.gl_verilog.specs.declared.start.Start.{Start}
use Rattle.gl_verilog_ports.specs.Profile.{result_names, result_widths}
use Rattle.gl_vcd.specs.Dumped.{IsDumped, OfLines}
use Rattle.gl_vcd.specs.Written.{ports_of}
use Rattle.gl_vcd.specs.RoundTrip.{AreApart, is_named, names_of, signals_from}
use Rattle.gl_vcd.specs.Signals.{show_none}
use Rattle.gl_compiler.specs.Meets.{Meets}
use Rattle.gl_runner.specs.Dumps.{IsDumpOf, OfEachPorts}

-- its name and those of its ports are tokens, no two ports have one name, each has a width, a dump has identifiers for
-- all of them, and they show a result
pub record IsDumpable (m : Module) : Type 0 where
  pub named : is_named m.name ≡ true
  pub names : AllByRecursion (λ n. is_named n ≡ true) (names_of (ports_of m))
  pub apart : AreApart (names_of (ports_of m))
  pub widths : AllByRecursion (λ p. IsWidth p.width) (ports_of m)
  pub few : length (ports_of m) ≤ most_ports
  pub shows : show_none (signals_from 0 (ports_of m)) ≡ false

-- the text is a dump of the module's ports in a run, in the file cycles up to one, and shows the lines of the run up to
-- there, all values in decimal
pub record TellsRun (m : Module) (port : PortValues) (n : ℕ) (text : List ℕ) : Type 0 where
  pub dumped : IsDumped text (ports_of m) (n + 1) port
  pub shows : OfLines text
      (λ bytes. bytes ≡ lines (map Unsigned (result_widths m)) (seen port (result_names m) n))

-- where the times up to the end have room in a dump, what is dumped of a run of the text up to its end tells that run
abbrev pub DumpTells : ℕ → Schema → Beats → Start → List ℕ → Type 0
DumpTells latency schema beats start text =
    last_cycle beats + latency + 1 ≤ latest_time
    → OfEachPorts text schema beats start
    (λ m port. (bytes : List ℕ) (dump : IsDumpOf m beats port bytes) → TellsRun m port dump.ended bytes)

-- this is so of each text that meets a statement, over beats that keep its gaps
abbrev pub DumpsTell : Type 0
DumpsTell =
    (schema : Schema) (statement : Statement) (latency : ℕ) (gaps : Gaps) (text : List ℕ) (beats : Beats)
    (start : Start)
    → IsSchema schema → Meets schema statement latency gaps text → AreBeats schema beats → KeepsGaps gaps beats
    → DumpTells latency schema beats start text
