-- Which compiled queries can be run.
use Rattle.std.specs.Prelude.{◌≡◌, ◌≤◌, ◌^◌, length}
use Rattle.std.specs.List.{AllByRecursion}
use Rattle.gl_values.specs.Kinds.{IsKind}
use Rattle.gl_schema.specs.Schemas.{IsSchema, kinds_of}
use Rattle.gl_compiler.specs.declared.compiling.Compiled.{Compiled}
use Rattle.gl_compiler.specs.Built.{printed_gaps}
use Rattle.gl_compiler.specs.Meets.{Meets, result_columns}

-- its text meets its statement within the latency and the gaps that are printed, and its kinds are those of the result
pub record IsRunnable (c : Compiled) : Type 0 where
  pub fine : IsSchema c.schema
  pub meets : Meets c.schema c.statement c.printed.latency (printed_gaps c.printed) c.text.items
  pub columns : c.kinds ≡ kinds_of (result_columns c.schema c.statement)
  pub many : length c.kinds ≤ 32
  pub kinds : AllByRecursion IsKind c.kinds
  pub short : c.printed.latency ≤ 2 ^ 32
