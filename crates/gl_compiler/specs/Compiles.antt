-- What compiling gives.
use Rattle.std.specs.Prelude.{◌≡◌, ℕ, ◌≤◌, ◌^◌, List}
use Rattle.gl_schema.specs.declared.schema.Schema.{Schema}
use Rattle.gl_schema.specs.Schemas.{kinds_of}
use Rattle.gl_query.specs.declared.tree.Statement.{Statement}
use Rattle.gl_algebra.specs.Added.{placed_at}
use Rattle.gl_algebra.specs.Small.{AreFigures}
use Rattle.gl_algebra.specs.Roots.{most_memory, most_registers}
use Rattle.gl_net.specs.declared.counting.Cost.{Cost}
use Rattle.gl_elaborate.specs.Plans.{plan_of}
use Rattle.gl_verilog.specs.Cost.{memory_bits, register_bits}
use Rattle.gl_verilog.specs.Module.{Module}
use Rattle.gl_verilog.specs.Text.{HasModule}
use Rattle.gl_compiler.specs.declared.compiling.Compiled.{Compiled}
use Rattle.gl_compiler.specs.Meets.{Meets, result_columns}
use Rattle.gl_compiler.specs.Built.{IsBuilt, IsNoFarther, copies_of, gaps_of, latency_of, printed_gaps}

-- the bits of registers and of memories that the text's module declares, which are no more than the statement's plan
-- counts
pub record HasCost (schema : Schema) (statement : Statement) (text : List ℕ) (cost : Cost) : Type 0 where
  pub design : Module
  pub has : HasModule text design
  pub registers : cost.registers ≡ register_bits design
  pub memories : cost.memories ≡ memory_bits design
  pub few_registers : cost.registers ≤ most_registers (plan_of schema statement).nodes (plan_of schema statement).root
  pub few_memories : cost.memories ≤ most_memory (plan_of schema statement).nodes (plan_of schema statement).root

-- what was compiled of a statement over a schema: every run of the text is right, within the figures that are printed
pub record IsCompiled (schema : Schema) (statement : Statement) (c : Compiled) : Type 0 where
  pub schema' : c.schema ≡ schema
  pub statement' : c.statement ≡ statement
  pub built : IsBuilt schema statement
  pub kinds : c.kinds ≡ kinds_of (result_columns schema statement)
  pub latency : c.printed.latency ≡ latency_of schema statement
  pub gaps : printed_gaps c.printed ≡ gaps_of schema statement
  pub closer : IsNoFarther schema statement (printed_gaps c.printed)
  pub copies : c.printed.copies ≡ copies_of schema statement
  pub short : c.printed.latency ≤ 2 ^ 32
  pub plan : placed_at c.plan c.root ≡ plan_of schema statement
  pub figures : AreFigures c.plan c.figures.items
  pub cost : HasCost schema statement c.text.items c.cost
  pub meets : Meets schema statement c.printed.latency (printed_gaps c.printed) c.text.items
