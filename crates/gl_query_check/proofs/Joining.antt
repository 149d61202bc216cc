-- What is answered of ASOF behind both of its sides.
use Rattle.std.proofs.Common.{◌≡◌, ℕ, List, ◌++◌, None, Result, subst}
use Rattle.std.specs.Prelude.{◌&&◌}
use Rattle.gl_schema.specs.declared.schema.Column.{Column}
use Rattle.gl_query.specs.declared.fault.QueryFault.{QueryFault}
use Rattle.gl_query.specs.declared.fault.QueryFault.TheVariants as fault
use Rattle.gl_query.specs.declared.tree.Slots.{Slots}
use Rattle.gl_query.specs.Accepted.{Scope, columns_under}
use Rattle.gl_query.specs.Alike.{query_alike}
use Rattle.gl_query.specs.Columns.{arrives, but_key}
use Rattle.gl_query.specs.Faults.{join_fault, or_else, query_fault, unless}
use Rattle.gl_query.specs.Trees.{QueryTree}
use Rattle.gl_query.specs.Trees as tree
use Rattle.gl_query_check.specs.Answers.{Answers}
use Rattle.gl_query_check.proofs.Passing.{answers_behind}

module _ (l r : QueryTree) (slots : Slots) (at : ℕ) where
  -- what is answered over the columns of both sides
  abbrev pub OfSides : List Column → List Column → Result (List Column) QueryFault → Type 0
  OfSides lefts rights answer =
      let out = lefts ++ but_key slots.key.text rights in
      Answers (or_else (unless (arrives (query_alike l) && arrives (query_alike r)) (fault.NoArrival at)) (join_fault lefts rights slots out at)) out answer

  pub behind_sides : (scope : Scope) (lefts rights : List Column) (answer : Result (List Column) QueryFault)
      → query_fault scope l ≡ None → lefts ≡ columns_under scope (query_alike l) → query_fault scope r ≡ None → rights ≡ columns_under scope (query_alike r)
      → OfSides lefts rights answer → Answers (query_fault scope (tree.AsOf l r slots at)) (columns_under scope (query_alike (tree.AsOf l r slots at))) answer
  behind_sides scope lefts rights answer none-left left none-right right h =
      let ls = columns_under scope (query_alike l) in
      let rs = columns_under scope (query_alike r) in
      let of_left : OfSides ls rights answer = subst (λ (cs : List Column). OfSides cs rights answer) left h in
      let of_both : OfSides ls rs answer = subst (λ (cs : List Column). OfSides ls cs answer) right of_left in
      answers_behind (query_fault scope l) _ _ answer none-left (answers_behind (query_fault scope r) _ _ answer none-right of_both)
