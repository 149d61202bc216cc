-- Why a query is refused: each text has one cause at most, and none where it has a statement that is built.
use Rattle.std.proofs.Common.{◌≡◌, ◌≢◌, ℕ, List, Ok, Err, refl, subst, inl, inr}
use Rattle.gl_schema.specs.declared.schema.Schema.{Schema}
use Rattle.gl_schema.specs.Schemas.{IsSchema}
use Rattle.gl_query.specs.declared.tree.Statement.{Statement}
use Rattle.gl_query.specs.declared.fault.QueryFault.{QueryFault}
use Rattle.gl_query.specs.declared.fault.QueryFault.TheVariants as fault
use Rattle.gl_query.specs.Trees.{statement_tree}
use Rattle.gl_query_reader.specs.Grammar.{HasStatement}
use Rattle.gl_query_texts.specs.Judged.{IsAcceptedText, IsQueryFault, IsFaultOrMemory}
use Rattle.gl_query_texts.proofs.Judged.{one_meaning}
use Rattle.gl_algebra.specs.Added.{Placed}
use Rattle.gl_figures.specs.declared.Limit.{Limit}
use Rattle.gl_elaborate.specs.Plans.{plan_of}
use Rattle.gl_plan.specs.declared.planning.PlanFault.{PlanFault}
use Rattle.gl_plan.specs.declared.planning.PlanFault.TheVariants as plan
use Rattle.gl_plan.specs.Planned.{IsWithinLimits, PassesLimit, PassesOr}
use Rattle.gl_compiler.specs.declared.compiling.Compiled.{Compiled}
use Rattle.gl_query_texts.specs.Limits.{IsOverLimit}
use Rattle.gl_compiler.specs.declared.fault.CompileFault.{CompileFault}
use Rattle.gl_compiler.specs.declared.fault.CompileFault.TheVariants as compile
use Rattle.gl_compiler.specs.Below.{LawsBelow}
use Rattle.gl_compiler.specs.Queries.{IsQuery, IsQueryRefused, IfRefused, IsTold, TellsCauses}
use Rattle.gl_compiler.specs.Faults.{fault_of_plan, fault_of_query}
use Rattle.gl_compiler.proofs.Shaped.{plans_alike}

-- a fault is answered as it is
told_as : (f : QueryFault) → f ≢ fault.Memory → fault_of_query f ≡ compile.Query f
told_as fault.Memory real = absurd (real refl)
told_as (fault.Syntax at) real = refl
told_as (fault.UnknownStream at) real = refl
told_as (fault.UnknownColumn at) real = refl
told_as (fault.KindsDiffer at) real = refl
told_as (fault.LiteralTooWide at) real = refl
told_as (fault.NotCondition at) real = refl
told_as (fault.MixedItems at) real = refl
told_as (fault.TwiceNamed at) real = refl
told_as (fault.ColumnsDiffer at) real = refl
told_as (fault.PaceDiffers at) real = refl
told_as (fault.NotClosing at) real = refl
told_as (fault.OutOfRange at) real = refl
told_as (fault.TooDeep at) real = refl
told_as (fault.NoTime at) real = refl
told_as (fault.NoArrival at) real = refl
told_as (fault.UnknownParameter at) real = refl

-- why a text is refused that has no accepted statement
pub refusal : (schema : Schema) (text : List ℕ) (f : QueryFault) → IsFaultOrMemory schema text f → IsQueryRefused schema text (fault_of_query f)
refusal schema text f (inl is) = rw (told_as f is.real) is
refusal schema text f (inr e) = rw e tt

-- ---- one cause

-- a statement that is built is accepted
pub query_accepted : (schema : Schema) (text : List ℕ) (s : Statement) → IsQuery schema text s → IsAcceptedText schema text s
query_accepted schema text s is = record { has = is.has; accepted = is.built.accepted }

-- the statements of a text have one plan
same_plan : LawsBelow → (schema : Schema) (text : List ℕ) (s t : Statement) → HasStatement text (statement_tree s) → HasStatement text (statement_tree t) → plan_of schema s ≡ plan_of schema t
same_plan laws schema text s t h k = plans_alike schema s t (one_meaning laws.texts_have_one_verdict text (statement_tree s) (statement_tree t) h k)

-- no statement of a text whose plan passes a limit is within the limits
pub within_goes : LawsBelow → (schema : Schema) (text : List ℕ) (s : Statement) (l : Limit) → HasStatement text (statement_tree s) → IsWithinLimits (plan_of schema s) → IsOverLimit schema text l → ⊥
within_goes laws schema text s l has within o =
    (laws.plans_pass_one_limit (plan_of schema o.statement) l o.passes).over (subst IsWithinLimits (same_plan laws schema text s o.statement has o.is.has) within)

pub over_goes : LawsBelow → (schema : Schema) (text : List ℕ) (s : Statement) (l : Limit) → IsOverLimit schema text l → IsQuery schema text s → ⊥
over_goes laws schema text s l o is = within_goes laws schema text s l is.has is.built.within o

same_limit : LawsBelow → (schema : Schema) (text : List ℕ) (l m : Limit) → IsOverLimit schema text l → IsOverLimit schema text m → m ≡ l
same_limit laws schema text l m o p =
    (laws.plans_pass_one_limit (plan_of schema o.statement) l o.passes).only m
    (subst (λ (x : Placed). PassesLimit x m) (same_plan laws schema text p.statement o.statement p.is.has o.is.has) p.passes)

pub refused_goes : LawsBelow → (schema : Schema) (text : List ℕ) (f : CompileFault) → IsSchema schema → IsQueryRefused schema text f → IfRefused f ((s : Statement) → IsQuery schema text s → ⊥)
refused_goes laws schema text (compile.Schema f) fine h = absurd h
refused_goes laws schema text (compile.Query f) fine h = λ s is. (laws.texts_have_one_fault schema text f fine h).refused s (query_accepted schema text s is)
refused_goes laws schema text (compile.Limit l) fine h = λ s is. over_goes laws schema text s l h is
refused_goes laws schema text compile.Memory fine h = tt

-- why a statement that is accepted is not compiled
statement_cause : (schema : Schema) (text : List ℕ) (s : Statement) (f : PlanFault) → IsAcceptedText schema text s → PassesOr (plan_of schema s) f → IsQueryRefused schema text (fault_of_plan f)
statement_cause schema text s (plan.Limit l) is h = record { statement = s; is = is; passes = h }
statement_cause schema text s plan.Memory is h = tt

pub plan_cause : (own schema : Schema) (text : List ℕ) (s : Statement) (f : PlanFault) (g : CompileFault) → own ≡ schema → g ≡ fault_of_plan f → IsAcceptedText schema text s → PassesOr (plan_of own s) f → IsQueryRefused schema text g
plan_cause own schema text s f g e told is h = rw told (statement_cause schema text s f is (subst (λ (x : Schema). PassesOr (plan_of x s) f) e h))

-- ---- each cause is told

query_told : LawsBelow → (schema : Schema) (text : List ℕ) (g : CompileFault) (f : QueryFault) → IsSchema schema → IsQueryRefused schema text g → IsQueryFault schema text f → IsTold (Err g) (compile.Query f)
query_told laws schema text (compile.Schema g) f fine h is = absurd h
query_told laws schema text (compile.Query g) f fine h is = inl (let e : g ≡ f = (laws.texts_have_one_fault schema text f fine is).only g h in rw e refl)
query_told laws schema text (compile.Limit l) f fine h is = absurd ((laws.texts_have_one_fault schema text f fine is).refused h.statement h.is)
query_told laws schema text compile.Memory f fine h is = inr refl

limit_told : LawsBelow → (schema : Schema) (text : List ℕ) (g : CompileFault) (l : Limit) → IsSchema schema → IsQueryRefused schema text g → IsOverLimit schema text l → IsTold (Err g) (compile.Limit l)
limit_told laws schema text (compile.Schema g) l fine h is = absurd h
limit_told laws schema text (compile.Query g) l fine h is = absurd ((laws.texts_have_one_fault schema text g fine h).refused is.statement is.is)
limit_told laws schema text (compile.Limit m) l fine h is = inl (let e : m ≡ l = same_limit laws schema text l m is h in rw e refl)
limit_told laws schema text compile.Memory l fine h is = inr refl

pub tells_of : LawsBelow → (schema : Schema) (text : List ℕ) (g : CompileFault) → IsSchema schema → IsQueryRefused schema text g → TellsCauses schema text (Err g)
tells_of laws schema text g fine h (compile.Schema f) = λ is. absurd is
tells_of laws schema text g fine h (compile.Query f) = query_told laws schema text g f fine h
tells_of laws schema text g fine h (compile.Limit l) = limit_told laws schema text g l fine h
tells_of laws schema text g fine h compile.Memory = tt

pub tells_none : LawsBelow → (schema : Schema) (text : List ℕ) (c : Compiled) → IsSchema schema → IsQuery schema text c.statement → TellsCauses schema text (Ok c)
tells_none laws schema text c fine built (compile.Schema f) = λ is. absurd is
tells_none laws schema text c fine built (compile.Query f) = λ is. absurd ((laws.texts_have_one_fault schema text f fine is).refused c.statement (query_accepted schema text c.statement built))
tells_none laws schema text c fine built (compile.Limit l) = λ is. absurd (over_goes laws schema text c.statement l is built)
tells_none laws schema text c fine built compile.Memory = tt
