use Rattle.std.proofs.Common.{rules, ◌≡◌, ◌++◌, Option, refl, sym, subst, ◌∙◌}
use Rattle.std.specs.Prelude.{◌&&◌}
use Rattle.gl_query.specs.declared.fault.QueryFault.{QueryFault}
use Rattle.gl_query.specs.declared.fault.QueryFault.TheVariants as fault
use Rattle.gl_query.specs.Alike.{query_alike}
use Rattle.gl_query.specs.Columns.{arrives, but_key}
use Rattle.gl_query.specs.Faults.{join_fault, or_else, unless}
use Rattle.gl_query.specs.Trees.{query_tree}
use Rattle.gl_query_check.specs.Answers.{Answers}
use Rattle.gl_query_check.proofs.joins.join_checked.Goals as goal

pub returns-in_err-refuse : goal.returns-in_err-refuse
returns-in_err-refuse c =
    let l = query_alike (query_tree c.args.left.now) in
    let r = query_alike (query_tree c.args.right.now) in
    let slots = c.args.slots.now in
    let out = c.args.lefts ++ but_key slots.key.text c.args.rights in
    let both : c.in_ok-both.both ≡ out = rw (c.but_key.ensures, c.as_slice-5.ensures) at c.in_ok-both.ensures in
    let first : c.or_else-3.result ≡ or_else (unless (arrives l && arrives r) (fault.NoArrival c.args.at)) (join_fault c.args.lefts c.args.rights slots out c.args.at) =
    rw (c.or_else-3.ensures, c.unless-arrive.ensures, c.both_arrive.ensures, c.or_else-joined.ensures, c.parts_fault-of_left.ensures, c.as_slice.ensures, c.or_else-2.ensures, c.parts_fault-of_right.ensures, c.as_slice-2.ensures, c.or_else.ensures, c.kinds_fault-kinds.ensures, c.as_slice-3.ensures, c.as_slice-4.ensures, c.names_fault-names.ensures, c.as_slice-6.ensures, both) refl in
    let told : Answers c.or_else-3.result out c.from_residual-in_err-refuse.result = search rules in
    subst (λ (f : Option QueryFault). Answers f out c.from_residual-in_err-refuse.result) first told

pub returns : goal.returns
returns c =
    let l = query_alike (query_tree c.args.left.now) in
    let r = query_alike (query_tree c.args.right.now) in
    let slots = c.args.slots.now in
    let out = c.args.lefts ++ but_key slots.key.text c.args.rights in
    let both : c.in_ok-both.both ≡ out = rw (c.but_key.ensures, c.as_slice-5.ensures) at c.in_ok-both.ensures in
    let first : c.or_else-3.result ≡ or_else (unless (arrives l && arrives r) (fault.NoArrival c.args.at)) (join_fault c.args.lefts c.args.rights slots out c.args.at) =
    rw (c.or_else-3.ensures, c.unless-arrive.ensures, c.both_arrive.ensures, c.or_else-joined.ensures, c.parts_fault-of_left.ensures, c.as_slice.ensures, c.or_else-2.ensures, c.parts_fault-of_right.ensures, c.as_slice-2.ensures, c.or_else.ensures, c.kinds_fault-kinds.ensures, c.as_slice-3.ensures, c.as_slice-4.ensures, c.names_fault-names.ensures, c.as_slice-6.ensures, both) refl in
    (sym first ∙ c.in_ok-refuse.ensures, both)
