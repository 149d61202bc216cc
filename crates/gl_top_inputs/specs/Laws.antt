-- What is owed where the ports of a module that was read do not fit.
use Rattle.std.specs.Prelude.{◌≡◌, ℕ, List, Err}
use Rattle.gl_schema.specs.declared.schema.Schema.{Schema}
use Rattle.gl_verilog_tokens.specs.declared.fault.VerilogFault.{VerilogFault}
use Rattle.gl_verilog_tokens.specs.declared.fault.VerilogFault.TheVariants.{BadPort}
use Rattle.gl_verilog_reader.specs.declared.source.Source.{Source}
use Rattle.gl_verilog_reader.specs.Sources.{IsSource}
use Rattle.gl_top_inputs.specs.Places.{fit_at, IsPortFault}

-- a fault is that of a port, and it stands where the text shows it
abbrev pub TellsPort : List ℕ → Schema → VerilogFault → Type 0
TellsPort text schema (BadPort at) = IsPortFault text schema at
TellsPort text schema e = ⊥

-- each fault of a module that was read is told where its text shows it
abbrev pub PortFaultsAreTold : Type 0
PortFaultsAreTold =
    (text : List ℕ) (source : Source) (schema : Schema) (e : VerilogFault) → IsSource text source
    → fit_at source schema ≡ Err e → TellsPort text schema e
