-- The faults of the steps of a compilation, as the compiler answers them: want of memory is its own.
use Rattle.gl_schema.specs.declared.fault.SchemaFault.{SchemaFault}
use Rattle.gl_schema.specs.declared.fault.SchemaFault.TheVariants as schema
use Rattle.gl_query.specs.declared.fault.QueryFault.{QueryFault}
use Rattle.gl_query.specs.declared.fault.QueryFault.TheVariants as query
use Rattle.gl_plan.specs.declared.planning.PlanFault.{PlanFault}
use Rattle.gl_plan.specs.declared.planning.PlanFault.TheVariants as plan
use Rattle.gl_compiler.specs.declared.fault.CompileFault.{CompileFault}
use Rattle.gl_compiler.specs.declared.fault.CompileFault.TheVariants as compile

-- the fault of a schema's text
abbrev pub fault_of_schema : SchemaFault → CompileFault
fault_of_schema schema.Memory = compile.Memory
fault_of_schema f = compile.Schema f

-- a fault of a query's text as one of compiling
abbrev pub fault_of_query : QueryFault → CompileFault
fault_of_query query.Memory = compile.Memory
fault_of_query f = compile.Query f

-- a fault of a statement's plan as one of compiling
abbrev pub fault_of_plan : PlanFault → CompileFault
fault_of_plan (plan.Limit l) = compile.Limit l
fault_of_plan plan.Memory = compile.Memory
