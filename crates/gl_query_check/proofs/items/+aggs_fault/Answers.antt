use Rattle.std.proofs.Common.{rules, ◌≡◌, ◌<◌, ◌∷◌, drop}
use Rattle.gl_query.specs.Faults.{agg_fault}
use Rattle.gl_query.specs.Trees.{AggItemTree, agg_item_tree}
use Rattle.gl_query_check.proofs.Listing.{named_step}
use Rattle.gl_query_check.proofs.items.+aggs_fault.Goals as goal

pub returns : goal.returns
returns t c =
    let n = c.args.number in
    let xs = c.args.aggs.now in
    let there : drop n xs ≡ c.in-Some.item.now ∷ c.in-Some.field-0-1.now = search rules in
    let below : n < 32 = search rules in
    rw (c.or_else-2.ensures, c.agg_fault-own.ensures, c.or_else.ensures, c.unless.ensures, c.is_agg-fresh.ensures, c.as_slice.ensures, c.aggs_fault-later.ensures, c.split_at.ensures.front)
    (named_step agg_item_tree (λ (i : AggItemTree). i.name) (λ (i : AggItemTree). agg_fault c.args.columns.now i.agg i.name) xs n c.in-Some.item.now c.in-Some.field-0-1.now there below)
