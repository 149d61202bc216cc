use Rattle.std.proofs.Common.{◌<◌, List, length, ap, arith, sym, subst}
use Rattle.std.specs.List.{AllByRecursion}
use Rattle.gl_wiring.specs.ManyNet.{AreShownBy, CanShow}
use Rattle.gl_wiring.specs.declared.many.Root.{Root}
use Rattle.gl_wiring.proofs.ManyLemmas.{can_stay, then_shown}
use Rattle.gl_wiring.proofs.many.+put_results.Goals as goal

pub put_root_result-requires-clause-within : goal.put_root_result-requires-clause-within
put_root_result-requires-clause-within t c =
    (subst (λ (rs : List Root). AllByRecursion (λ (r : Root). r.id < length c.args.site.plan.now) rs) c.in-Some.ensures.cases.0 c.requires.within).0

pub put_root_result-requires-clause-can : goal.put_root_result-requires-clause-can
put_root_result-requires-clause-can t c =
    (subst (λ (rs : List Root). AllByRecursion (CanShow c.args.site.plan.now c.args.net.now c.args.table.now) rs) c.in-Some.ensures.cases.0 c.requires.can).0

pub put_results-requires : goal.put_results-requires
put_results-requires t c =
    let nodes = c.args.site.plan.now in
    let table = c.args.table.now in
    let n0 = c.args.net.now in
    let n1 = c.put_root_result.new.net in
    let is = c.in-Some.ensures.cases.0 in
    let within = subst (λ (rs : List Root). AllByRecursion (λ (r : Root). r.id < length nodes) rs) is c.requires.within in
    let can = subst (λ (rs : List Root). AllByRecursion (CanShow nodes n0 table) rs) is c.requires.can in
    (omega (arith, ap length is), (within.1, can_stay nodes n0 n1 table c.in-Some.others.now c.in_ok-put_root_result.ensures.extends can.1))

pub returns : goal.returns
returns t c =
    let nodes = c.args.site.plan.now in
    let table = c.args.table.now in
    let n0 = c.args.net.now in
    let n2 = c.put_results.new.net in
    subst (AreShownBy nodes table n0 n2) (sym c.in-Some.ensures.cases.0)
    (then_shown nodes table n0 c.put_root_result.new.net n2 c.in-Some.root.now c.in-Some.others.now c.in_ok-put_root_result.ensures c.in_ok-put_results.ensures)
