-- One piece behind others.
use Rattle.std.proofs.Common.{◌≡◌, ℕ, List, None, Result, Ok, Err, sym, subst, inl, inr}
use Rattle.std.specs.Prelude.{IfErr, IfOk}
use Rattle.gl_schema.specs.declared.schema.Schema.{Schema}
use Rattle.gl_schema.specs.Schemas.{IsSchema}
use Rattle.gl_query.specs.declared.tree.Statement.{Statement}
use Rattle.gl_query.specs.declared.fault.QueryFault.{QueryFault}
use Rattle.gl_query.specs.Checked.{IsChecked}
use Rattle.gl_query.specs.Faults.{first_fault}
use Rattle.gl_query.specs.Laws.{FirstFaultsAreExact}
use Rattle.gl_query.specs.Trees.{statement_tree}
use Rattle.gl_query_check.specs.declared.checking.Checked.{Checked}
use Rattle.gl_query_check.proofs.Accepting.{accepted_none}
use Rattle.gl_query_reader.specs.Grammar.{HaveStatement}
use Rattle.gl_query_texts.specs.Pieces.{Piece}
use Rattle.gl_query_texts.specs.Lists.{IsCheckedOver, IsPiece, tree_of}
use Rattle.gl_query_texts.specs.Reading.{IsNamed, IsPieceFaultOrMemory}

-- it was checked, and its tokens have it
pub record IsRead (schema : Schema) (p : Piece) (c : Checked) : Type 0 where
  pub has : HaveStatement p.tokens (tree_of c)
  pub over : IsCheckedOver schema c

pub read_is : (schema : Schema) (p : Piece) (s : Statement) (c : Checked) → HaveStatement p.tokens (statement_tree s) → c.statement ≡ s → c.schema ≡ schema → IsChecked c.schema c.statement → IsRead schema p c
read_is schema p s c h same over is = record {
  has = subst (λ (x : Statement). HaveStatement p.tokens (statement_tree x)) (sym same) h;
  over = record { over = over; checked = is };
}

none_first : FirstFaultsAreExact → (schema : Schema) (p : Piece) (c : Checked) → IsSchema schema → IsRead schema p c → first_fault schema (tree_of c) ≡ None
none_first exact schema p c fine h = accepted_none exact schema c.statement fine (rw h.over.over at h.over.checked.accepted)

pub named_is : FirstFaultsAreExact → (schema : Schema) (names : List (List ℕ)) (p : Piece) (c : Checked) (r : Result Checked QueryFault) → IsSchema schema → IsRead schema p c → IsNamed names c r → IfOk r (λ d. IsPiece schema names p (tree_of d))
named_is exact schema names p c (Err f) fine h n = tt
named_is exact schema names p c (Ok d) fine h n =
    subst (λ (x : Checked). IsPiece schema names p (tree_of x)) (sym n.0) (record { has = h.has; first = rw (none_first exact schema p c fine h) n.1 })

pub named_fault : FirstFaultsAreExact → (schema : Schema) (names : List (List ℕ)) (p : Piece) (c : Checked) (r : Result Checked QueryFault) → IsSchema schema → IsRead schema p c → IsNamed names c r → IfErr r (IsPieceFaultOrMemory schema names p)
named_fault exact schema names p c (Ok d) fine h n = tt
named_fault exact schema names p c (Err f) fine h n = inl (inr (record { statement = tree_of c; has = h.has; first = rw (none_first exact schema p c fine h) n }))
