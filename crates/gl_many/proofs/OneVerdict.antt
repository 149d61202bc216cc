-- A text of several queries has one list of trees, or one fault; and its statements one plan, one limit and the same gaps.
use Rattle.std.proofs.Common.{◌≡◌, ℕ, max, List, [], ◌∷◌, Ok, Err, Some, None, refl, sym, subst, ◌∙◌}
use Rattle.std.specs.Prelude.{is_some, unwrap_or, ◌||◌, if◌then◌else◌}
use Rattle.std.specs.List.{list_any}
use Rattle.gl_gaps.specs.Keeps.{gaps_with}
use Rattle.gl_root_gaps.specs.Roots.{gap_with, ticks_with}
use Rattle.gl_schema.specs.declared.schema.Schema.{Schema}
use Rattle.gl_query.specs.declared.fault.QueryFault.{QueryFault}
use Rattle.gl_query.specs.declared.tree.Statement.{Statement}
use Rattle.gl_query.specs.Columns.{sources_of}
use Rattle.gl_query.specs.Shapes.{QueryShape, query_shape}
use Rattle.gl_query.specs.Trees.{statement_tree}
use Rattle.gl_query_texts.specs.Lists.{HasStatements}
use Rattle.gl_query_texts.specs.ListLaws.{IsVerdict, Verdict}
use Rattle.gl_figures.specs.declared.Limit.{Limit}
use Rattle.gl_elaborate.specs.Figures.{query_figures}
use Rattle.gl_elaborate.specs.Plans.{Several, plans_of}
use Rattle.gl_elaborate.specs.Whole.{query_ticks, statement_ticks}
use Rattle.gl_compiler.proofs.Shaped.{shapes_alike}
use Rattle.gl_plan.specs.Together.{AreWithinLimits, PassLimit}
use Rattle.gl_many.specs.Below.{LawsBelow}
use Rattle.gl_many.specs.Meets.{shared_gap, shared_gaps, shared_tick_gap}
use Rattle.gl_many.specs.Queries.{AreOverLimit, AreQueries, IsFaultOfAll, trees_of}
use Rattle.gl_many.proofs.Alike.{joint_plans_alike}

-- ---- one verdict

same_verdict : LawsBelow → (schema : Schema) (text : List ℕ) (v w : Verdict) → IsVerdict schema text v → IsVerdict schema text w → v ≡ w
same_verdict laws schema text v w h k = let one = laws.texts_have_one_verdict schema text in one.only v h ∙ sym (one.only w k)

pub one_list : LawsBelow → (schema : Schema) (text : List ℕ) (ss ts : List Statement) → HasStatements schema text (trees_of ss) → HasStatements schema text (trees_of ts) → trees_of ss ≡ trees_of ts
one_list laws schema text ss ts h k =
    let e : ◌≡◌ {A = Verdict} (Ok (trees_of ss)) (Ok (trees_of ts)) = same_verdict laws schema text (Ok (trees_of ss)) (Ok (trees_of ts)) h k in cc

pub one_fault_of_all : LawsBelow → (schema : Schema) (text : List ℕ) (f g : QueryFault) → IsFaultOfAll schema text f → IsFaultOfAll schema text g → f ≡ g
one_fault_of_all laws schema text f g h k =
    let e : ◌≡◌ {A = Verdict} (Err f) (Err g) = same_verdict laws schema text (Err f) (Err g) h.found k.found in cc

-- a text that has a fault has no statements
pub no_list : LawsBelow → (schema : Schema) (text : List ℕ) (f : QueryFault) (ss : List Statement) → IsFaultOfAll schema text f → HasStatements schema text (trees_of ss) → ⊥
no_list laws schema text f ss h k =
    let e : ◌≡◌ {A = Verdict} (Err f) (Ok (trees_of ss)) = same_verdict laws schema text (Err f) (Ok (trees_of ss)) h.found k in cc

-- ---- statements of the same trees

abbrev gap_at : Schema → QueryShape → ℕ
gap_at schema q = gap_with (query_ticks (sources_of schema) q) (query_figures (sources_of schema) q).gt

abbrev tick_gap_at : Schema → QueryShape → ℕ
tick_gap_at schema q = unwrap_or (ticks_with (query_ticks (sources_of schema) q)) (gap_at schema q)

-- what their gaps are read off is one
record AreAsFar (schema : Schema) (ss ts : List Statement) : Type 0 where
  gap : shared_gap schema ss ≡ shared_gap schema ts
  ticks : shared_tick_gap schema ss ≡ shared_tick_gap schema ts
  some : list_any (λ s. is_some (statement_ticks schema s)) ss ≡ list_any (λ s. is_some (statement_ticks schema s)) ts

as_far : (schema : Schema) (ss ts : List Statement) → trees_of ss ≡ trees_of ts → AreAsFar schema ss ts
as_far schema [] [] e = record { gap = refl; ticks = refl; some = refl }
as_far schema [] (t ∷ ts) e = absurd cc
as_far schema (s ∷ ss) [] e = absurd cc
as_far schema (s ∷ ss) (t ∷ ts) e =
    let first : statement_tree s ≡ statement_tree t = cc in
    let others : trees_of ss ≡ trees_of ts = cc in
    let shape : query_shape s.query ≡ query_shape t.query = shapes_alike s t first in
    let rest = as_far schema ss ts others in
    record {
      gap = λ i. max (gap_at schema (shape i)) (rest.gap i);
      ticks = λ i. max (tick_gap_at schema (shape i)) (rest.ticks i);
      some = λ i. is_some (query_ticks (sources_of schema) (shape i)) || rest.some i;
    }

-- they have the same gaps
pub gaps_alike : (schema : Schema) (ss ts : List Statement) → trees_of ss ≡ trees_of ts → shared_gaps schema ss ≡ shared_gaps schema ts
gaps_alike schema ss ts e =
    let far = as_far schema ss ts e in
    λ i. gaps_with (far.gap i) (if far.some i then Some (far.ticks i) else None)

-- ---- what a text's statements have

-- two lists of statements of a text have one joint plan
same_plans : LawsBelow → (schema : Schema) (text : List ℕ) (ss ts : List Statement) → HasStatements schema text (trees_of ss) → HasStatements schema text (trees_of ts) → plans_of [] schema ss ≡ plans_of [] schema ts
same_plans laws schema text ss ts h k = joint_plans_alike schema ss ts (one_list laws schema text ss ts h k)

pub one_gaps_of_all : LawsBelow → (schema : Schema) (text : List ℕ) (ss ts : List Statement) → AreQueries schema text ss → AreQueries schema text ts → shared_gaps schema ss ≡ shared_gaps schema ts
one_gaps_of_all laws schema text ss ts p q = gaps_alike schema ss ts (one_list laws schema text ss ts p.has q.has)

-- the limits that their joint plans pass are one
pub one_limit_of_all : LawsBelow → (schema : Schema) (text : List ℕ) (l m : Limit) → AreOverLimit schema text l → AreOverLimit schema text m → l ≡ m
one_limit_of_all laws schema text l m o p =
    let same = same_plans laws schema text p.statements o.statements p.has o.has in
    sym ((laws.several_pass_one_limit (plans_of [] schema o.statements) l o.pass).only m (subst (λ (all : Several). PassLimit all m) same p.pass))

-- and none is passed where others are within the limits
pub all_within : LawsBelow → (schema : Schema) (text : List ℕ) (ss : List Statement) (l : Limit) → AreOverLimit schema text l → AreQueries schema text ss → ⊥
all_within laws schema text ss l o is =
    let same = same_plans laws schema text ss o.statements is.has o.has in
    (laws.several_pass_one_limit (plans_of [] schema o.statements) l o.pass).over (subst AreWithinLimits same is.within)
