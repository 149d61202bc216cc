-- Where a text shows that the ports of its module are not those of a schema and of a result.
use Rattle.std.specs.Prelude.{◌≡◌, ℕ, List, Option, Some, Result, Ok, Err, slice_get, unwrap_or}
use Rattle.gl_schema.specs.declared.schema.Schema.{Schema}
use Rattle.gl_verilog.specs.Module.{Module}
use Rattle.gl_verilog.specs.Tokens.{tokens_of, IsPlaceOf}
use Rattle.gl_verilog.specs.Written.{WrittenModule, IsWritten, spell}
use Rattle.gl_verilog.specs.Limits.{IsWithinLimits}
use Rattle.gl_verilog.specs.Resolve.{resolve}
use Rattle.gl_verilog.specs.Valid.{IsValid}
use Rattle.gl_verilog.specs.View.{module_of}
use Rattle.gl_verilog_tokens.specs.declared.fault.VerilogFault.{VerilogFault}
use Rattle.gl_verilog_tokens.specs.declared.fault.VerilogFault.TheVariants.{BadPort}
use Rattle.gl_verilog_reader.specs.declared.source.Source.{Source}
use Rattle.gl_verilog_reader.specs.Sources.{port_tokens}
use Rattle.gl_verilog_ports.specs.declared.fitting.Ports.{Ports}
use Rattle.gl_verilog_ports.specs.declared.fitting.Misfit.{Misfit}
use Rattle.gl_verilog_ports.specs.declared.fitting.Misfit.TheVariants.{Port, Lacks}
use Rattle.gl_verilog_ports.specs.Fit.{fit_of}

-- the place of what shows a misfit: the port's name, or that of the module
abbrev pub misfit_place : Source → Misfit → ℕ
misfit_place s (Port n) = unwrap_or (slice_get s.ports_at n) s.name_at
misfit_place s Lacks = s.name_at

-- a misfit is told as a bad port at its place in the text
abbrev pub misfit_at : Source → Result Ports Misfit → Result Ports VerilogFault
misfit_at s (Ok ports) = Ok ports
misfit_at s (Err misfit) = Err (BadPort (misfit_place s misfit))

-- the ports of a module that was read, or the fault at its place
abbrev pub fit_at : Source → Schema → Result Ports VerilogFault
fit_at s schema = misfit_at s (fit_of (module_of s.design) schema)

-- the token that shows a misfit, by its number: the port's name, or that of the module, which stands behind `module`
abbrev pub misfit_token : WrittenModule → Misfit → Option ℕ
misfit_token w (Port n) = slice_get (port_tokens 3 w.ports) n
misfit_token w Lacks = Some 1

-- the text has a module, and its ports do not fit: what shows it stands here
pub record IsPortFault (text : List ℕ) (schema : Schema) (at : ℕ) : Type 0 where
  pub written : WrittenModule
  pub spelled : tokens_of text ≡ spell written
  pub grammar : IsWritten written
  pub limits : IsWithinLimits written
  pub design : Module
  pub resolved : resolve written ≡ Some design
  pub valid : IsValid design
  pub misfit : Misfit
  pub is : fit_of design schema ≡ Err misfit
  pub token : ℕ
  pub shows : misfit_token written misfit ≡ Some token
  pub place : IsPlaceOf text token at
