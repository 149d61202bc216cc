use Rattle.std.proofs.Common.{List, ℕ, Result, Ok, Err, subst}
use Rattle.std.specs.Prelude.{IfOk}
use Rattle.gl_schema.specs.declared.schema.Schema.{Schema}
use Rattle.gl_schema.specs.declared.fault.SchemaFault.{SchemaFault}
use Rattle.gl_schema.specs.SchemaText.{IsSchemaText}
use Rattle.gl_schema.specs.SchemaFaults.{Gives, schema_of}
use Rattle.gl_schema.proofs.Complete.{read_again}
use Rattle.gl_schema.proofs.Sound.{read_is}
use Rattle.gl_schema.proofs.text.read_schema.Goals as goal

found_in : (text : List ℕ) (r : Result Schema SchemaFault) → Gives r (schema_of text) → IfOk r (IsSchemaText text)
found_in text (Ok s) h = read_is text s h
found_in text (Err e) h = tt

pub returns-clause-found : goal.returns-clause-found
returns-clause-found c = found_in c.args.text.now c.read.result c.read.ensures

pub returns-clause-only : goal.returns-clause-only
returns-clause-only c schema is = subst (Gives c.read.result) (read_again c.args.text.now schema is) c.read.ensures
