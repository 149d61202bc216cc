-- The statements of a text can stand on one module.
use Rattle.std.proofs.Common.{◌≡◌, ℕ, ◌≤◌, List, length, map, sym, subst, ◌∙◌, arith}
use Rattle.std.specs.Prelude.{bytes_eq}
use Rattle.std.specs.List.{AllByRecursion, IsDistinct}
use Rattle.gl_bits.specs.Limits.{most_statements}
use Rattle.gl_bits.proofs.AllLists.{all_mapped, all_of_mapped, all_weaker, length_map, map_map}
use Rattle.gl_schema.specs.declared.schema.Schema.{Schema}
use Rattle.gl_schema.specs.Schemas.{IsSchema}
use Rattle.gl_query.specs.declared.tree.Statement.{Statement}
use Rattle.gl_query.specs.Alike.{statement_alike}
use Rattle.gl_query.specs.Checked.{IsChecked}
use Rattle.gl_query.specs.Names.{StatementHasNames}
use Rattle.gl_query.specs.Trees.{StatementTree, statement_tree}
use Rattle.gl_query.specs.Laws.{TreesAreAlike}
use Rattle.gl_query_check.specs.declared.checking.Checked.{Checked}
use Rattle.gl_query_reader.specs.Grammar.{IsRegular}
use Rattle.gl_query_texts.specs.Lists.{HasStatements, tree_of}
use Rattle.gl_query_texts.specs.Lists as list
use Rattle.gl_query_texts.specs.ListLaws.{StatementsAreListed}
use Rattle.gl_plan.specs.Together.{IsCheckedOver, statements_of}
use Rattle.gl_many.specs.Queries.{trees_of}
use Rattle.gl_many.specs.Roots.{CanStand, IsNamed, names_of}

module _ (schema : Schema) (all : List Checked) (over : AllByRecursion (list.IsCheckedOver schema) all) where
  -- each was checked over the schema
  pub all_over : AllByRecursion (IsCheckedOver schema) all
  all_over = all_weaker (list.IsCheckedOver schema) (IsCheckedOver schema) (λ c h. record { same = h.over; is = h.checked }) all over

  all_checked : AllByRecursion (IsChecked schema) (statements_of all)
  all_checked = all_mapped (IsChecked schema) (λ (c : Checked). c.statement) all
      (all_weaker (list.IsCheckedOver schema) (λ (c : Checked). IsChecked schema c.statement) (λ c h. subst (λ (s : Schema). IsChecked s c.statement) h.over h.checked) all over)

  module _ (text : List ℕ) (fine : IsSchema schema) (has : HasStatements schema text (map tree_of all)) where
    -- the trees of what was checked are those of its statements
    pub has_trees : HasStatements schema text (trees_of (statements_of all))
    has_trees = subst (HasStatements schema text) (sym (map_map statement_tree (λ (c : Checked). c.statement) all)) has

    all_named : TreesAreAlike → StatementsAreListed → AllByRecursion IsNamed (statements_of all)
    all_named alike listed =
        let regular = (listed schema text (map tree_of all) has).regular in
        all_mapped IsNamed (λ (c : Checked). c.statement) all
        (all_weaker (λ (c : Checked). IsRegular (statement_alike (tree_of c))) (λ (c : Checked). IsNamed c.statement) (λ c h. subst StatementHasNames (alike c.statement) h.names) all
        (all_of_mapped (λ (t : StatementTree). IsRegular (statement_alike t)) tree_of all regular))

    own_names : list.names_of (map tree_of all) ≡ names_of (statements_of all)
    own_names = map_map (λ (t : StatementTree). t.name.text) tree_of all ∙ sym (map_map (λ (s : Statement). s.name.text) (λ (c : Checked). c.statement) all)

    are_few : StatementsAreListed → length (statements_of all) ≤ most_statements
    are_few listed =
        omega (arith, length_map (λ (c : Checked). c.statement) all, length_map tree_of all, (listed schema text (map tree_of all) has).most)

    pub can_stand : TreesAreAlike → StatementsAreListed → CanStand schema (statements_of all)
    can_stand alike listed = record {
      of_schema = fine;
      few = are_few listed;
      checked = all_checked;
      named = all_named alike listed;
      distinct = subst (λ (names : List (List ℕ)). IsDistinct bytes_eq names) own_names (listed schema text (map tree_of all) has).distinct;
    }
