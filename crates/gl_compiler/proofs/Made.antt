-- What is compiled of the text of a query.
use Rattle.std.proofs.Common.{◌≡◌, ℕ, ◌≤◌, ◌^◌, List, length, sym, ap, subst, arith}
use Rattle.std.specs.List.{AllByRecursion}
use Rattle.gl_bits.proofs.AllLists.{length_map}
use Rattle.gl_values.specs.Kinds.{IsKind}
use Rattle.gl_schema.specs.declared.schema.Column.{Column}
use Rattle.gl_schema.specs.declared.schema.Schema.{Schema}
use Rattle.gl_schema.specs.Schemas.{IsSchema, kinds_of}
use Rattle.gl_query.specs.declared.tree.Statement.{Statement}
use Rattle.gl_query.specs.Shapes.{query_shape}
use Rattle.gl_query.specs.Laws.{AcceptedHaveRealColumns}
use Rattle.gl_query_texts.specs.Judged.{IsAcceptedText}
use Rattle.gl_compiler.specs.declared.compiling.Compiled.{Compiled}
use Rattle.gl_algebra.specs.Added.{placed_at}
use Rattle.gl_algebra.specs.Small.{AreFigures}
use Rattle.gl_elaborate.specs.Plans.{plan_of}
use Rattle.gl_compiler.specs.Compiles.{HasCost, IsCompiled}
use Rattle.gl_compiler.specs.Meets.{Meets, result_columns}
use Rattle.gl_compiler.specs.Built.{IsNoFarther, copies_of, gaps_of, latency_of, printed_gaps}
use Rattle.gl_compiler.specs.Queries.{IsQuery}
use Rattle.gl_compiler.proofs.KnownOf.{all_kinds}

-- a query of the text over the schema is compiled
pub record IsMade (schema : Schema) (text : List ℕ) (c : Compiled) : Type 0 where
  pub schema' : c.schema ≡ schema
  pub built : IsQuery schema text c.statement
  pub many : length c.kinds ≤ 32
  pub kinds' : AllByRecursion IsKind c.kinds
  pub columns : c.kinds ≡ kinds_of (result_columns schema c.statement)
  pub latency : c.printed.latency ≡ latency_of schema c.statement
  pub gaps : printed_gaps c.printed ≡ gaps_of schema c.statement
  pub closer : IsNoFarther schema c.statement (printed_gaps c.printed)
  pub copies : c.printed.copies ≡ copies_of schema c.statement
  pub short : c.printed.latency ≤ 2 ^ 32
  pub plan : placed_at c.plan c.root ≡ plan_of schema c.statement
  pub figures : AreFigures c.plan c.figures.items
  pub cost : HasCost schema c.statement c.text.items c.cost
  pub meets : Meets schema c.statement c.printed.latency (printed_gaps c.printed) c.text.items

over : AcceptedHaveRealColumns → (schema : Schema) (text : List ℕ) (statement : Statement) (c : Compiled) → IsSchema schema → IsAcceptedText schema text statement → IsCompiled schema statement c → IsMade schema text c
over columns schema text statement c fine a m =
    let back = sym m.statement' in
    let query : IsQuery schema text c.statement = subst (IsQuery schema text) back (record { has = a.has; built = m.built }) in
    let real = columns schema (query_shape statement.query) fine a.accepted in
    record {
      schema' = m.schema';
      built = query;
      many = omega (arith, ap length m.kinds, length_map (λ (x : Column). x.kind) (result_columns schema statement), real.result.most);
      kinds' = subst (AllByRecursion IsKind) (sym m.kinds) (all_kinds (result_columns schema statement) real.kinds);
      columns = subst (λ (s : Statement). c.kinds ≡ kinds_of (result_columns schema s)) back m.kinds;
      latency = subst (λ (s : Statement). c.printed.latency ≡ latency_of schema s) back m.latency;
      gaps = subst (λ (s : Statement). printed_gaps c.printed ≡ gaps_of schema s) back m.gaps;
      closer = subst (λ (s : Statement). IsNoFarther schema s (printed_gaps c.printed)) back m.closer;
      copies = subst (λ (s : Statement). c.printed.copies ≡ copies_of schema s) back m.copies;
      short = m.short;
      plan = subst (λ (s : Statement). placed_at c.plan c.root ≡ plan_of schema s) back m.plan;
      figures = m.figures;
      cost = subst (λ (s : Statement). HasCost schema s c.text.items c.cost) back m.cost;
      meets = subst (λ (s : Statement). Meets schema s c.printed.latency (printed_gaps c.printed) c.text.items) back m.meets;
    }

pub made : AcceptedHaveRealColumns → (schema own : Schema) (text : List ℕ) (statement : Statement) (c : Compiled) → IsSchema schema → own ≡ schema → IsAcceptedText schema text statement → IsCompiled own statement c → IsMade schema text c
made columns schema own text statement c fine e a m = over columns schema text statement c fine a (subst (λ (s : Schema). IsCompiled s statement c) e m)
