use Rattle.std.proofs.Common.{subst}
use Rattle.std.proofs.lemmas.Result.{err_from_is_err_and}
use Rattle.gl_query.specs.Names.{StatementHasNames}
use Rattle.gl_query.specs.Trees.{statement_tree}
use Rattle.gl_compiler.proofs.Made.{made}
use Rattle.gl_compiler.proofs.Refusing.{plan_cause, refusal, refused_goes, tells_none, tells_of}
use Rattle.gl_compiler.proofs.querying.compile_query.Goals as goal

-- the text is refused

pub returns-in_err-checked-clause-cause : goal.returns-in_err-checked-clause-cause
returns-in_err-checked-clause-cause c =
    let p = err_from_is_err_and c.from_residual.result c.from_residual.ensures.1 in
    rw (p.1, p.2) (refusal c.args.schema c.args.query.now _ c.in_err-checked.ensures.fault)

pub returns-in_err-checked-clause-refused : goal.returns-in_err-checked-clause-refused
returns-in_err-checked-clause-refused c =
    let p = err_from_is_err_and c.from_residual.result c.from_residual.ensures.1 in
    rw (p.1, p.2) (refused_goes c.laws_below.ensures c.args.schema c.args.query.now _ c.requires (refusal c.args.schema c.args.query.now _ c.in_err-checked.ensures.fault))

pub returns-in_err-checked-clause-told : goal.returns-in_err-checked-clause-told
returns-in_err-checked-clause-told c =
    let p = err_from_is_err_and c.from_residual.result c.from_residual.ensures.1 in
    rw (p.1, p.2) (tells_of c.laws_below.ensures c.args.schema c.args.query.now _ c.requires (refusal c.args.schema c.args.query.now _ c.in_err-checked.ensures.fault))

-- its statement is compiled

pub compile_checked-requires-clause-names : goal.compile_checked-requires-clause-names
compile_checked-requires-clause-names c =
    subst StatementHasNames (c.trees_are_alike.ensures c.in_ok-checked.checked.statement) (c.statements_are_regular.ensures c.args.query.now (statement_tree c.in_ok-checked.checked.statement) c.in_ok-checked.ensures.accepted.has).names

pub returns-clause-schema : goal.returns-clause-schema
returns-clause-schema c =
    (made c.accepted_have_real_columns.ensures c.args.schema c.in_ok-checked.checked.schema c.args.query.now c.in_ok-checked.checked.statement c.in_ok-compile_checked.field-0 c.requires c.in_ok-checked.ensures.schema c.in_ok-checked.ensures.accepted c.in_ok-compile_checked.ensures).schema'

pub returns-clause-built : goal.returns-clause-built
returns-clause-built c =
    (made c.accepted_have_real_columns.ensures c.args.schema c.in_ok-checked.checked.schema c.args.query.now c.in_ok-checked.checked.statement c.in_ok-compile_checked.field-0 c.requires c.in_ok-checked.ensures.schema c.in_ok-checked.ensures.accepted c.in_ok-compile_checked.ensures).built

pub returns-clause-many : goal.returns-clause-many
returns-clause-many c =
    (made c.accepted_have_real_columns.ensures c.args.schema c.in_ok-checked.checked.schema c.args.query.now c.in_ok-checked.checked.statement c.in_ok-compile_checked.field-0 c.requires c.in_ok-checked.ensures.schema c.in_ok-checked.ensures.accepted c.in_ok-compile_checked.ensures).many

pub returns-clause-kinds : goal.returns-clause-kinds
returns-clause-kinds c =
    (made c.accepted_have_real_columns.ensures c.args.schema c.in_ok-checked.checked.schema c.args.query.now c.in_ok-checked.checked.statement c.in_ok-compile_checked.field-0 c.requires c.in_ok-checked.ensures.schema c.in_ok-checked.ensures.accepted c.in_ok-compile_checked.ensures).kinds'

pub returns-clause-columns : goal.returns-clause-columns
returns-clause-columns c =
    (made c.accepted_have_real_columns.ensures c.args.schema c.in_ok-checked.checked.schema c.args.query.now c.in_ok-checked.checked.statement c.in_ok-compile_checked.field-0 c.requires c.in_ok-checked.ensures.schema c.in_ok-checked.ensures.accepted c.in_ok-compile_checked.ensures).columns

pub returns-clause-latency : goal.returns-clause-latency
returns-clause-latency c =
    (made c.accepted_have_real_columns.ensures c.args.schema c.in_ok-checked.checked.schema c.args.query.now c.in_ok-checked.checked.statement c.in_ok-compile_checked.field-0 c.requires c.in_ok-checked.ensures.schema c.in_ok-checked.ensures.accepted c.in_ok-compile_checked.ensures).latency

pub returns-clause-gaps : goal.returns-clause-gaps
returns-clause-gaps c =
    (made c.accepted_have_real_columns.ensures c.args.schema c.in_ok-checked.checked.schema c.args.query.now c.in_ok-checked.checked.statement c.in_ok-compile_checked.field-0 c.requires c.in_ok-checked.ensures.schema c.in_ok-checked.ensures.accepted c.in_ok-compile_checked.ensures).gaps

pub returns-clause-closer : goal.returns-clause-closer
returns-clause-closer c =
    (made c.accepted_have_real_columns.ensures c.args.schema c.in_ok-checked.checked.schema c.args.query.now c.in_ok-checked.checked.statement c.in_ok-compile_checked.field-0 c.requires c.in_ok-checked.ensures.schema c.in_ok-checked.ensures.accepted c.in_ok-compile_checked.ensures).closer

pub returns-clause-copies : goal.returns-clause-copies
returns-clause-copies c =
    (made c.accepted_have_real_columns.ensures c.args.schema c.in_ok-checked.checked.schema c.args.query.now c.in_ok-checked.checked.statement c.in_ok-compile_checked.field-0 c.requires c.in_ok-checked.ensures.schema c.in_ok-checked.ensures.accepted c.in_ok-compile_checked.ensures).copies

pub returns-clause-short : goal.returns-clause-short
returns-clause-short c =
    (made c.accepted_have_real_columns.ensures c.args.schema c.in_ok-checked.checked.schema c.args.query.now c.in_ok-checked.checked.statement c.in_ok-compile_checked.field-0 c.requires c.in_ok-checked.ensures.schema c.in_ok-checked.ensures.accepted c.in_ok-compile_checked.ensures).short

pub returns-clause-plan : goal.returns-clause-plan
returns-clause-plan c =
    (made c.accepted_have_real_columns.ensures c.args.schema c.in_ok-checked.checked.schema c.args.query.now c.in_ok-checked.checked.statement c.in_ok-compile_checked.field-0 c.requires c.in_ok-checked.ensures.schema c.in_ok-checked.ensures.accepted c.in_ok-compile_checked.ensures).plan

pub returns-clause-figures : goal.returns-clause-figures
returns-clause-figures c =
    (made c.accepted_have_real_columns.ensures c.args.schema c.in_ok-checked.checked.schema c.args.query.now c.in_ok-checked.checked.statement c.in_ok-compile_checked.field-0 c.requires c.in_ok-checked.ensures.schema c.in_ok-checked.ensures.accepted c.in_ok-compile_checked.ensures).figures

pub returns-clause-cost : goal.returns-clause-cost
returns-clause-cost c =
    (made c.accepted_have_real_columns.ensures c.args.schema c.in_ok-checked.checked.schema c.args.query.now c.in_ok-checked.checked.statement c.in_ok-compile_checked.field-0 c.requires c.in_ok-checked.ensures.schema c.in_ok-checked.ensures.accepted c.in_ok-compile_checked.ensures).cost

pub returns-clause-meets : goal.returns-clause-meets
returns-clause-meets c =
    (made c.accepted_have_real_columns.ensures c.args.schema c.in_ok-checked.checked.schema c.args.query.now c.in_ok-checked.checked.statement c.in_ok-compile_checked.field-0 c.requires c.in_ok-checked.ensures.schema c.in_ok-checked.ensures.accepted c.in_ok-compile_checked.ensures).meets

pub returns-clause-told : goal.returns-clause-told
returns-clause-told c =
    tells_none c.laws_below.ensures c.args.schema c.args.query.now c.in_ok-compile_checked.field-0 c.requires
    (made c.accepted_have_real_columns.ensures c.args.schema c.in_ok-checked.checked.schema c.args.query.now c.in_ok-checked.checked.statement c.in_ok-compile_checked.field-0 c.requires c.in_ok-checked.ensures.schema c.in_ok-checked.ensures.accepted c.in_ok-compile_checked.ensures).built

-- it is not

pub returns-in_err-compile_checked-clause-cause : goal.returns-in_err-compile_checked-clause-cause
returns-in_err-compile_checked-clause-cause c =
    let p = err_from_is_err_and c.from_residual-in_err-compile_checked.result c.from_residual-in_err-compile_checked.ensures.1 in
    rw p.1 (plan_cause c.in_ok-checked.checked.schema c.args.schema c.args.query.now c.in_ok-checked.checked.statement c.in_err-compile_checked.field-0.0 p.0 c.in_ok-checked.ensures.schema p.2 c.in_ok-checked.ensures.accepted c.in_err-compile_checked.ensures)

pub returns-in_err-compile_checked-clause-refused : goal.returns-in_err-compile_checked-clause-refused
returns-in_err-compile_checked-clause-refused c =
    let p = err_from_is_err_and c.from_residual-in_err-compile_checked.result c.from_residual-in_err-compile_checked.ensures.1 in
    rw p.1 (refused_goes c.laws_below.ensures c.args.schema c.args.query.now p.0 c.requires (plan_cause c.in_ok-checked.checked.schema c.args.schema c.args.query.now c.in_ok-checked.checked.statement c.in_err-compile_checked.field-0.0 p.0 c.in_ok-checked.ensures.schema p.2 c.in_ok-checked.ensures.accepted c.in_err-compile_checked.ensures))

pub returns-in_err-compile_checked-clause-told : goal.returns-in_err-compile_checked-clause-told
returns-in_err-compile_checked-clause-told c =
    let p = err_from_is_err_and c.from_residual-in_err-compile_checked.result c.from_residual-in_err-compile_checked.ensures.1 in
    rw p.1 (tells_of c.laws_below.ensures c.args.schema c.args.query.now p.0 c.requires (plan_cause c.in_ok-checked.checked.schema c.args.schema c.args.query.now c.in_ok-checked.checked.statement c.in_err-compile_checked.field-0.0 p.0 c.in_ok-checked.ensures.schema p.2 c.in_ok-checked.ensures.accepted c.in_err-compile_checked.ensures))
