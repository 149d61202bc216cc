-- Nothing but want of memory keeps the query of the load from being compiled.
use Rattle.std.proofs.Common.{◌≡◌, ◌⊎◌, ℕ, [], Some, None, refl, sym, ap, subst, ◌∙◌, inl, inr}
use Rattle.gl_gaps.specs.declared.Gaps.{Gaps}
use Rattle.gl_schema.specs.declared.schema.Schema.{Schema}
use Rattle.gl_gaps.specs.Keeps.{even_gaps}
use Rattle.gl_schema.specs.SchemaText.{IsSchemaText}
use Rattle.gl_schema.proofs.Readings.{not_both, one_schema}
use Rattle.gl_query.specs.declared.tree.Statement.{Statement}
use Rattle.gl_query.specs.declared.fault.QueryFault.{QueryFault}
use Rattle.gl_query.specs.Alike.{query_alike}
use Rattle.gl_query.specs.Columns.{sources_of}
use Rattle.gl_query.specs.Faults.{first_fault}
use Rattle.gl_query.specs.Shapes.{QueryShape, query_shape}
use Rattle.gl_query.specs.Trees.{StatementTree, statement_tree}
use Rattle.gl_query.proofs.Alike.{query_same}
use Rattle.gl_query_reader.specs.Grammar.{HasStatement}
use Rattle.gl_query_texts.specs.Judged.{BreaksRule, HasNoStatement}
use Rattle.gl_query_texts.proofs.Judged.{one_meaning}
use Rattle.gl_query_texts.specs.Limits.{IsOverLimit}
use Rattle.gl_figures.specs.declared.Limit.{Limit}
use Rattle.gl_compiler.proofs.Planning.{gaps_at}
use Rattle.gl_elaborate.specs.Plans.{placed, plan_of, stream_node}
use Rattle.gl_plan.specs.Planned.{IsWithinLimits}
use Rattle.gl_compiler.specs.declared.compiling.Compiled.{Compiled}
use Rattle.gl_compiler.specs.Below.{LawsBelow}
use Rattle.gl_compiler.specs.Built.{gaps_of, latency_of}
use Rattle.gl_compiler.specs.Meets.{Meets}
use Rattle.gl_compiler.specs.declared.fault.CompileFault.{CompileFault}
use Rattle.gl_compiler.specs.declared.fault.CompileFault.TheVariants as compile
use Rattle.gl_compiler.specs.Queries.{IsQueryRefused}
use Rattle.gl_compiler.specs.Texts.{IsCompiledText, IsTextRefused, OfSchema}
use Rattle.gl_load.specs.Query.{load_schema, query_text, schema_text}
use Rattle.gl_load.specs.Steps.{IsCompiledLoad}
use Rattle.gl_load.proofs.Constants.{load_tree, query_faultless, query_has, schema_spelled}
use Rattle.gl_load.proofs.Planning.{load_gaps, load_plan, plan_within}

-- each statement of the query's text has the query and the plan of the load, and takes a tuple in each cycle
pub query_is : LawsBelow → (s : Statement) → HasStatement query_text (statement_tree s) → query_shape s.query ≡ query_alike load_tree.query
query_is laws s has = sym (query_same s.query) ∙ ap (λ (x : StatementTree). query_alike x.query) (one_meaning laws.texts_have_one_verdict query_text (statement_tree s) load_tree has query_has)

plan_is : LawsBelow → (s : Statement) → HasStatement query_text (statement_tree s) → plan_of load_schema s ≡ load_plan
plan_is laws s has = ap (λ (q : QueryShape). placed (stream_node load_schema.streams) (sources_of load_schema) q []) (query_is laws s has)

pub gaps_are : LawsBelow → (s : Statement) → HasStatement query_text (statement_tree s) → gaps_of load_schema s ≡ even_gaps 1
gaps_are laws s has = ap (λ (q : QueryShape). gaps_at load_schema q) (query_is laws s has) ∙ load_gaps

faultless : LawsBelow → (f : QueryFault) → HasNoStatement query_text f ⊎ BreaksRule load_schema query_text f → ⊥
faultless laws f (inl h) = h.none load_tree query_has
faultless laws f (inr h) =
    let tree : h.statement ≡ load_tree = one_meaning laws.texts_have_one_verdict query_text h.statement load_tree h.has query_has in
    let e : None ≡ Some f = sym query_faultless ∙ ap (first_fault load_schema) (sym tree) ∙ h.first in
    absurd cc

within : LawsBelow → (l : Limit) → IsOverLimit load_schema query_text l → ⊥
within laws l h = (laws.plans_pass_one_limit (plan_of load_schema h.statement) l h.passes).over (subst IsWithinLimits (sym (plan_is laws h.statement h.is.has)) plan_within)

-- the schema's text has one schema
schema_is : (schema : Schema) → IsSchemaText schema_text schema → schema ≡ load_schema
schema_is schema is = one_schema schema_text schema load_schema is schema_spelled

over_load : (f : CompileFault) → OfSchema schema_text (λ schema. IsQueryRefused schema query_text f) → IsQueryRefused load_schema query_text f
over_load f o = subst (λ (schema : Schema). IsQueryRefused schema query_text f) (schema_is o.schema o.is) o.so

-- the texts are compiled
pub uncompiled : LawsBelow → (f : CompileFault) → IsTextRefused schema_text query_text f → f ≡ compile.Memory
uncompiled laws (compile.Schema f) h = absurd (not_both schema_text load_schema f schema_spelled h)
uncompiled laws (compile.Query f) h = absurd (faultless laws f (over_load (compile.Query f) h).found)
uncompiled laws (compile.Limit l) h = absurd (within laws l (over_load (compile.Limit l) h))
uncompiled laws compile.Memory h = refl

-- ---- what is compiled

pub compiled_load : LawsBelow → (c : Compiled) → IsCompiledText schema_text query_text c → IsCompiledLoad c
compiled_load laws c made =
    let schema : c.schema ≡ load_schema = schema_is c.schema made.schema in
    record { made = made; schema = schema; gaps = made.compiled.gaps ∙ ap (λ (s : Schema). gaps_of s c.statement) schema ∙ gaps_are laws c.statement made.query'.has }

-- its text meets the statement over the schema of the load
pub meets_load : (c : Compiled) → IsCompiledLoad c → Meets load_schema c.statement (latency_of load_schema c.statement) (gaps_of load_schema c.statement) c.text.items
meets_load c is =
    let made = is.made.compiled in
    subst (λ (s : Schema). Meets s c.statement (latency_of s c.statement) (gaps_of s c.statement) c.text.items) is.schema (
    subst (λ (n : ℕ). Meets c.schema c.statement n (gaps_of c.schema c.statement) c.text.items) made.latency (
    subst (λ (g : Gaps). Meets c.schema c.statement c.printed.latency g c.text.items) made.gaps made.meets))
