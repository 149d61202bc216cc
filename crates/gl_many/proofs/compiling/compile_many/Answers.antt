use Rattle.std.proofs.Common.{List, refl, sym, subst}
use Rattle.std.proofs.lemmas.Result.{err_from_is_err_and}
use Rattle.gl_query_check.specs.declared.checking.Checked.{Checked}
use Rattle.gl_query_texts.specs.Lists.{HasStatements}
use Rattle.gl_plan.specs.Together.{ArePlanned, statements_of}
use Rattle.gl_many.specs.declared.compiling.Many.{Many}
use Rattle.gl_many.specs.Meets.{MeetTogether, shared_gaps}
use Rattle.gl_many.specs.Queries.{trees_of}
use Rattle.gl_many.proofs.Made.{are_compiled, are_queries}
use Rattle.gl_many.proofs.Reading.{all_over, can_stand, has_trees}
use Rattle.gl_many.proofs.Refusing.{list_cause, plan_cause, refused_goes, tells_none, tells_of}
use Rattle.gl_many.proofs.Standing.{Laws}
use Rattle.gl_many.proofs.compiling.compile_many.Goals as goal

-- the text has no statements

pub returns-in_err-statements-clause-cause : goal.returns-in_err-statements-clause-cause
returns-in_err-statements-clause-cause c =
    let p = err_from_is_err_and c.from_residual.result c.from_residual.ensures.1 in
    rw (p.1, p.2) (list_cause c.args.schema c.args.queries.now _ c.in_err-statements.ensures.fault)

pub returns-in_err-statements-clause-refused : goal.returns-in_err-statements-clause-refused
returns-in_err-statements-clause-refused c =
    let p = err_from_is_err_and c.from_residual.result c.from_residual.ensures.1 in
    rw (p.1, p.2) (refused_goes c.laws_below.ensures c.args.schema c.args.queries.now _ (list_cause c.args.schema c.args.queries.now _ c.in_err-statements.ensures.fault))

pub returns-in_err-statements-clause-told : goal.returns-in_err-statements-clause-told
returns-in_err-statements-clause-told c =
    let p = err_from_is_err_and c.from_residual.result c.from_residual.ensures.1 in
    rw (p.1, p.2) (tells_of c.laws_below.ensures c.args.schema c.args.queries.now _ (list_cause c.args.schema c.args.queries.now _ c.in_err-statements.ensures.fault))

-- it has some

pub built-requires-clause-can : goal.built-requires-clause-can
built-requires-clause-can c =
    let found = c.in_ok-statements.ensures in
    rw c.as_slice.ensures (can_stand c.args.schema c.in_ok-statements.statements found.checked c.args.queries.now c.requires found.statements c.trees_are_alike.ensures c.statements_are_listed.ensures)

pub built-requires-clause-checked : goal.built-requires-clause-checked
built-requires-clause-checked c = rw c.as_slice.ensures (all_over c.args.schema c.in_ok-statements.statements c.in_ok-statements.ensures.checked)

-- which have no module

pub returns-in_err-planned-clause-cause : goal.returns-in_err-planned-clause-cause
returns-in_err-planned-clause-cause c =
    let p = err_from_is_err_and c.from_residual-in_err-planned.result c.from_residual-in_err-planned.ensures.1 in
    let schema = c.args.schema in
    let text = c.args.queries.now in
    let found = c.in_ok-statements.ensures in
    let has = subst (λ (all : List Checked). HasStatements schema text (trees_of (statements_of all))) (sym c.as_slice.ensures)
    (has_trees schema c.in_ok-statements.statements found.checked text c.requires found.statements) in
    rw p.1 (plan_cause schema text (statements_of c.as_slice.result.now) c.in_err-planned.field-0.0 p.0 p.2 has c.in_err-planned.ensures.fault)

pub returns-in_err-planned-clause-refused : goal.returns-in_err-planned-clause-refused
returns-in_err-planned-clause-refused c =
    let p = err_from_is_err_and c.from_residual-in_err-planned.result c.from_residual-in_err-planned.ensures.1 in
    let schema = c.args.schema in
    let text = c.args.queries.now in
    let found = c.in_ok-statements.ensures in
    let has = subst (λ (all : List Checked). HasStatements schema text (trees_of (statements_of all))) (sym c.as_slice.ensures)
    (has_trees schema c.in_ok-statements.statements found.checked text c.requires found.statements) in
    rw p.1 (refused_goes c.laws_below.ensures schema text p.0 (plan_cause schema text (statements_of c.as_slice.result.now) c.in_err-planned.field-0.0 p.0 p.2 has c.in_err-planned.ensures.fault))

pub returns-in_err-planned-clause-told : goal.returns-in_err-planned-clause-told
returns-in_err-planned-clause-told c =
    let p = err_from_is_err_and c.from_residual-in_err-planned.result c.from_residual-in_err-planned.ensures.1 in
    let schema = c.args.schema in
    let text = c.args.queries.now in
    let found = c.in_ok-statements.ensures in
    let has = subst (λ (all : List Checked). HasStatements schema text (trees_of (statements_of all))) (sym c.as_slice.ensures)
    (has_trees schema c.in_ok-statements.statements found.checked text c.requires found.statements) in
    rw p.1 (tells_of c.laws_below.ensures schema text p.0 (plan_cause schema text (statements_of c.as_slice.result.now) c.in_err-planned.field-0.0 p.0 p.2 has c.in_err-planned.ensures.fault))

-- which have one

pub returns-clause-compiled : goal.returns-clause-compiled
returns-clause-compiled c =
    let schema = c.args.schema in
    let found = c.in_ok-statements.ensures in
    let planned = c.in_ok-planned.planned in
    let text = c.in_ok-planned.text in
    let is = subst (λ (all : List Checked). ArePlanned schema (statements_of all) planned) c.as_slice.ensures c.in_ok-planned.ensures.planned in
    let meets = subst (λ (all : List Checked). MeetTogether schema (statements_of all) (shared_gaps schema (statements_of all)) text.items) c.as_slice.ensures
    c.in_ok-planned.ensures.meets in
    let laws : Laws = record {
      columns = c.accepted_have_real_columns.ensures;
      plans = c.plans_are_right.ensures;
      several = c.several_are_right.ensures;
      time = c.plans_tell_time.ensures;
    } in
    are_compiled schema c.args.queries.now (record { text = text; schema = schema; statements = c.in_ok-statements.statements; planned = planned }) c.requires refl
    found.statements found.checked is laws c.trees_are_alike.ensures c.statements_are_listed.ensures meets

pub returns-clause-told : goal.returns-clause-told
returns-clause-told c =
    let schema = c.args.schema in
    let found = c.in_ok-statements.ensures in
    let planned = c.in_ok-planned.planned in
    let is = subst (λ (all : List Checked). ArePlanned schema (statements_of all) planned) c.as_slice.ensures c.in_ok-planned.ensures.planned in
    let m : Many = record { text = c.in_ok-planned.text; schema = schema; statements = c.in_ok-statements.statements; planned = planned } in
    tells_none c.laws_below.ensures schema c.args.queries.now m (statements_of m.statements) (are_queries schema c.args.queries.now m c.requires refl found.statements found.checked is)
