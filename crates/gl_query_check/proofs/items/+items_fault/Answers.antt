use Rattle.std.proofs.Common.{rules, ◌≡◌, ◌<◌, ◌∷◌, drop}
use Rattle.gl_query.specs.Faults.{whole_fault}
use Rattle.gl_query.specs.Trees.{ItemTree, item_tree}
use Rattle.gl_query_check.proofs.Listing.{named_step}
use Rattle.gl_query_check.proofs.items.+items_fault.Goals as goal

pub returns : goal.returns
returns t c =
    let n = c.args.number in
    let xs = c.args.items.now in
    let there : drop n xs ≡ c.in-Some.item.now ∷ c.in-Some.field-0-1.now = search rules in
    let below : n < 32 = search rules in
    rw (c.or_else-2.ensures, c.judge_whole-own.ensures.fault, c.or_else.ensures, c.unless.ensures, c.is_item-fresh.ensures, c.as_slice.ensures, c.items_fault-later.ensures, c.split_at.ensures.front)
    (named_step item_tree (λ (i : ItemTree). i.name) (λ (i : ItemTree). whole_fault c.args.columns.now i.expr) xs n c.in-Some.item.now c.in-Some.field-0-1.now there below)
