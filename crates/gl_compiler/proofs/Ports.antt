-- The ports of a text's module that meets its statement fit the schema, and show the columns of the result.
use Rattle.std.proofs.Common.{◌≡◌, ℕ, List, map}
use Rattle.std.specs.Prelude.{IsOk}
use Rattle.gl_values.specs.Kinds.{width_of}
use Rattle.gl_gaps.specs.declared.Gaps.{Gaps}
use Rattle.gl_schema.specs.declared.schema.Schema.{Schema}
use Rattle.gl_schema.specs.Schemas.{IsSchema, column_names, kinds_of}
use Rattle.gl_schema.specs.Ports.{out_column}
use Rattle.gl_query.specs.declared.tree.Statement.{Statement}
use Rattle.gl_query.specs.Shapes.{query_shape}
use Rattle.gl_query.specs.Laws.{AcceptedHaveRealColumns}
use Rattle.gl_verilog_ports.specs.Fit.{fit_of}
use Rattle.gl_verilog_ports.specs.Profile.{result_names, result_widths}
use Rattle.gl_verilog_ports.proofs.Fits.{finds_ok}
use Rattle.gl_verilog_ports.proofs.Profiled.{fits, names_shown, widths_shown}
use Rattle.gl_compiler.specs.Meets.{Meets, result_columns}
use Rattle.gl_compiler.proofs.KnownOf.{all_kinds}

module _ (schema : Schema) (statement : Statement) (latency : ℕ) (gaps : Gaps) (text : List ℕ) where
  pub ports_fit : AcceptedHaveRealColumns → IsSchema schema → (m : Meets schema statement latency gaps text) → IsOk (fit_of m.design schema)
  ports_fit columns fine m =
      let real = columns schema (query_shape statement.query) fine m.accepted in
      finds_ok text m.design schema m.has
      (fits _ m.design schema (result_columns schema statement) m.has.valid.names m.face text m.has real.result.most (all_kinds (result_columns schema statement) real.kinds))

  pub names_are : (m : Meets schema statement latency gaps text) → result_names m.design ≡ map out_column (column_names (result_columns schema statement))
  names_are m = names_shown _ m.design schema (result_columns schema statement) m.has.valid.names m.face

  pub widths_are : (m : Meets schema statement latency gaps text) → result_widths m.design ≡ map width_of (kinds_of (result_columns schema statement))
  widths_are m = widths_shown _ m.design schema (result_columns schema statement) m.has.valid.names m.face
