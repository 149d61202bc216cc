use Rattle.std.proofs.Common.{◌≡◌, true, List, ◌∷◌, None, sym, subst}
use Rattle.gl_schema.specs.declared.schema.Column.{Column}
use Rattle.gl_schema.specs.declared.schema.Schema.{Schema}
use Rattle.gl_schema.specs.declared.schema.Stream.{Stream}
use Rattle.gl_query.specs.Accepted.{Scope}
use Rattle.gl_query.specs.Checked.{IsChecked}
use Rattle.gl_query.specs.Columns.{parameter_stream}
use Rattle.gl_query.specs.Faults.{query_fault}
use Rattle.gl_query.specs.Trees.{query_tree}
use Rattle.gl_query_check.specs.Answers.{IsOr}
use Rattle.gl_query_check.proofs.Accepting.{checked, only_memory}
use Rattle.gl_query_check.proofs.checking.check.Goals as goal

-- what a query may read over these streams and parameters
abbrev scope : List Stream → List Column → Scope
scope streams parameters = record { sources = parameter_stream parameters ∷ streams; timed = true }

pub returns-in-Ok-copy_of_schema-clause-checked : goal.returns-in-Ok-copy_of_schema-clause-checked
returns-in-Ok-copy_of_schema-clause-checked c =
    let statement = c.args.statement in
    let tree = query_tree statement.query in
    let named = subst (λ (ps : List Column). query_fault (scope c.as_slice.result.now ps) tree ≡ None) c.as_slice-2.ensures c.in-Ok.ensures.0 in
    let none = subst (λ (ss : List Stream). query_fault (scope ss c.args.schema.now.parameters) tree ≡ None) c.as_slice.ensures named in
    subst (λ (schema : Schema). IsChecked schema statement) (sym c.in-Ok-copy_of_schema.ensures)
    (checked c.first_faults_are_exact.ensures c.args.schema.now statement c.requires.of_schema c.requires.small none)

pub returns-in-Err-clause-only : goal.returns-in-Err-clause-only
returns-in-Err-clause-only c =
    let statement = c.args.statement in
    let tree = query_tree statement.query in
    let named = subst (λ (ps : List Column). IsOr (query_fault (scope c.as_slice.result.now ps) tree) c.in-Err.fault) c.as_slice-2.ensures c.in-Err.ensures in
    let first = subst (λ (ss : List Stream). IsOr (query_fault (scope ss c.args.schema.now.parameters) tree) c.in-Err.fault) c.as_slice.ensures named in
    only_memory c.first_faults_are_exact.ensures c.args.schema.now statement c.in-Err.fault c.requires.of_schema first
