-- A list of statements is the chain of its items.
use Rattle.std.proofs.Common.{◌≡◌, List, Vec, Global, refl, ap, ◌∙◌}
use mathlib.Core.Former.{Count}
use Rattle.gl_verilog.specs.Module as spec
use Rattle.gl_verilog.specs.declared.module.Statement.{Statement, Block, Block', Row_of-Statement, end_of-Statement, more_of-Statement, items-the_row-Statement, items_hidden-the_row-Statement-0}
use Rattle.gl_verilog.specs.View.{statement_of, chain_of, chained}

abbrev row_of : Statement → (n : Count) × Row_of-Statement n
row_of (Block' _ row) = (_, row)
row_of _ = (_, end_of-Statement)

of_row : (n : _) (row : Row_of-Statement n) → chain_of row ≡ chained (items-the_row-Statement n row)
of_row n end_of-Statement = refl
of_row n (more_of-Statement s rest) = ap (λ (c : spec.Statement). spec.Both (statement_of s) c) (of_row _ rest)

pub block_is : (subs : Vec Statement Global) → statement_of (Block subs) ≡ chained subs.items
block_is subs =
    let row = row_of (Block subs) in
    of_row row.0 row.1 ∙ ap (λ (ss : List Statement). chained ss) (items_hidden-the_row-Statement-0 subs)
