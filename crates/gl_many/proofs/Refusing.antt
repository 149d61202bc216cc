-- Why several queries are refused: each text has one cause at most, and none where it has statements within the limits.
use Rattle.std.proofs.Common.{◌≡◌, ◌≢◌, ◌⊎◌, ℕ, List, [], Ok, Err, refl, inl, inr}
use Rattle.gl_schema.specs.declared.schema.Schema.{Schema}
use Rattle.gl_query.specs.declared.tree.Statement.{Statement}
use Rattle.gl_query.specs.declared.fault.QueryFault.{QueryFault}
use Rattle.gl_query.specs.declared.fault.QueryFault.TheVariants as fault
use Rattle.gl_figures.specs.declared.Limit.{Limit}
use Rattle.gl_elaborate.specs.Plans.{plans_of}
use Rattle.gl_plan.specs.declared.planning.PlanFault.{PlanFault}
use Rattle.gl_plan.specs.declared.planning.PlanFault.TheVariants as plan
use Rattle.gl_plan.specs.Together.{PassOr}
use Rattle.gl_query_texts.specs.Lists.{HasStatements, IsFaultOrMemory}
use Rattle.gl_compiler.specs.declared.fault.CompileFault.{CompileFault}
use Rattle.gl_compiler.specs.declared.fault.CompileFault.TheVariants as compile
use Rattle.gl_compiler.specs.Faults.{fault_of_plan, fault_of_query}
use Rattle.gl_compiler.specs.Queries.{IfRefused}
use Rattle.gl_many.specs.declared.compiling.Many.{Many}
use Rattle.gl_many.specs.Below.{LawsBelow}
use Rattle.gl_many.specs.Queries.{AreOverLimit, AreQueries, AreRefused, IsFaultOfAll, IsToldOfAll, TellsCausesOfAll, trees_of}
use Rattle.gl_many.proofs.OneVerdict.{all_within, no_list, one_fault_of_all, one_limit_of_all}

-- ---- a text that has no statements

-- a fault is answered as it is, unless memory ran out
answered : (f : QueryFault) → (f ≡ fault.Memory) ⊎ ((f ≢ fault.Memory) × (fault_of_query f ≡ compile.Query f))
answered fault.Memory = inl refl
answered (fault.Syntax at) = inr ((λ e. absurd cc), refl)
answered (fault.UnknownStream at) = inr ((λ e. absurd cc), refl)
answered (fault.UnknownColumn at) = inr ((λ e. absurd cc), refl)
answered (fault.KindsDiffer at) = inr ((λ e. absurd cc), refl)
answered (fault.LiteralTooWide at) = inr ((λ e. absurd cc), refl)
answered (fault.NotCondition at) = inr ((λ e. absurd cc), refl)
answered (fault.MixedItems at) = inr ((λ e. absurd cc), refl)
answered (fault.TwiceNamed at) = inr ((λ e. absurd cc), refl)
answered (fault.ColumnsDiffer at) = inr ((λ e. absurd cc), refl)
answered (fault.PaceDiffers at) = inr ((λ e. absurd cc), refl)
answered (fault.NotClosing at) = inr ((λ e. absurd cc), refl)
answered (fault.OutOfRange at) = inr ((λ e. absurd cc), refl)
answered (fault.TooDeep at) = inr ((λ e. absurd cc), refl)
answered (fault.NoTime at) = inr ((λ e. absurd cc), refl)
answered (fault.NoArrival at) = inr ((λ e. absurd cc), refl)
answered (fault.UnknownParameter at) = inr ((λ e. absurd cc), refl)

pub list_cause : (schema : Schema) (text : List ℕ) (f : QueryFault) → IsFaultOrMemory schema text f → AreRefused schema text (fault_of_query f)
list_cause schema text f (inl found) = elim (answered f) [
  | inl e ↦ rw e tt
  | inr own ↦ rw own.1 (record { real = own.0; found = found })
]
list_cause schema text f (inr e) = rw e tt

-- ---- statements that have no module

plan_told : (schema : Schema) (text : List ℕ) (ss : List Statement) (f : PlanFault) → HasStatements schema text (trees_of ss) → PassOr (plans_of [] schema ss) f → AreRefused schema text (fault_of_plan f)
plan_told schema text ss (plan.Limit l) has pass = record { statements = ss; has = has; pass = pass }
plan_told schema text ss plan.Memory has pass = tt

pub plan_cause : (schema : Schema) (text : List ℕ) (ss : List Statement) (f : PlanFault) (g : CompileFault) → g ≡ fault_of_plan f → HasStatements schema text (trees_of ss) → PassOr (plans_of [] schema ss) f → AreRefused schema text g
plan_cause schema text ss f g told has pass = rw told (plan_told schema text ss f has pass)

-- ---- one cause

module _ (laws : LawsBelow) (schema : Schema) (text : List ℕ) where
  pub refused_goes : (f : CompileFault) → AreRefused schema text f → IfRefused f ((ss : List Statement) → AreQueries schema text ss → ⊥)
  refused_goes (compile.Schema f) h = absurd h
  refused_goes (compile.Query f) h = λ ss is. no_list laws schema text f ss h is.has
  refused_goes (compile.Limit l) h = λ ss is. all_within laws schema text ss l h is
  refused_goes compile.Memory h = tt

  -- ---- each cause is told

  fault_told : (g : CompileFault) (f : QueryFault) → AreRefused schema text g → IsFaultOfAll schema text f → IsToldOfAll (Err g) (compile.Query f)
  fault_told (compile.Schema g) f h is = absurd h
  fault_told (compile.Query g) f h is = inl (let e : g ≡ f = one_fault_of_all laws schema text g f h is in rw e refl)
  fault_told (compile.Limit l) f h is = absurd (no_list laws schema text f h.statements is h.has)
  fault_told compile.Memory f h is = inr refl

  limit_told : (g : CompileFault) (l : Limit) → AreRefused schema text g → AreOverLimit schema text l → IsToldOfAll (Err g) (compile.Limit l)
  limit_told (compile.Schema g) l h is = absurd h
  limit_told (compile.Query g) l h is = absurd (no_list laws schema text g is.statements h is.has)
  limit_told (compile.Limit m) l h is = inl (let e : m ≡ l = one_limit_of_all laws schema text m l h is in rw e refl)
  limit_told compile.Memory l h is = inr refl

  pub tells_of : (g : CompileFault) → AreRefused schema text g → TellsCausesOfAll schema text (Err g)
  tells_of g h (compile.Schema f) = λ is. absurd is
  tells_of g h (compile.Query f) = fault_told g f h
  tells_of g h (compile.Limit l) = limit_told g l h
  tells_of g h compile.Memory = tt

  pub tells_none : (m : Many) (ss : List Statement) → AreQueries schema text ss → TellsCausesOfAll schema text (Ok m)
  tells_none m ss is (compile.Schema f) = λ cause. absurd cause
  tells_none m ss is (compile.Query f) = λ cause. absurd (no_list laws schema text f ss cause is.has)
  tells_none m ss is (compile.Limit l) = λ over. absurd (all_within laws schema text ss l over is)
  tells_none m ss is compile.Memory = tt
