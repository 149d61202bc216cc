-- A text has one fault at most, and none where it has an accepted statement.
use Rattle.std.proofs.Common.{◌≡◌, ◌≢◌, ◌⊎◌, ℕ, List, Option, Some, None, Ok, Err, refl, sym, subst, ◌∙◌, inl, inr}
use Rattle.gl_schema.specs.declared.schema.Schema.{Schema}
use Rattle.gl_schema.specs.Schemas.{IsSchema}
use Rattle.gl_query.specs.declared.tree.Statement.{Statement}
use Rattle.gl_query.specs.declared.fault.QueryFault.{QueryFault}
use Rattle.gl_query.specs.declared.fault.QueryFault.TheVariants as fault
use Rattle.gl_query.specs.Faults.{first_fault}
use Rattle.gl_query.specs.Laws.{FirstFaultsAreExact}
use Rattle.gl_query.specs.Trees.{StatementTree, statement_tree}
use Rattle.gl_query_reader.specs.Grammar.{HasStatement, IsOrMemory, IsFault, IsVerdict, TextsHaveOneVerdict, Verdict}
use Rattle.gl_query_check.proofs.Accepting.{accepted_none}
use Rattle.gl_query_texts.specs.Judged.{IsAcceptedText, HasNoStatement, BreaksRule, IsQueryFault, IsFaultOrMemory, TextsHaveOneFault}

-- a text has one statement
pub one_meaning : TextsHaveOneVerdict → (text : List ℕ) (a b : StatementTree) → HasStatement text a → HasStatement text b → a ≡ b
one_meaning verdicts text a b h k =
    let v = verdicts text in
    let e : ◌≡◌ {A = Verdict} (Ok a) (Ok b) = v.only (Ok a) h ∙ sym (v.only (Ok b) k) in
    cc

-- ---- want of memory, or a fault

-- a fault that is not want of memory tells of a text without a statement
record IsReal (f : QueryFault) : Type 0 where
  real : f ≢ fault.Memory
  none : (m : StatementTree) → IsOrMemory (Err f) m → ⊥
  verdict : (text : List ℕ) → IsFault text f → IsVerdict text (Err f)

memory_or : (f : QueryFault) → IsReal f ⊎ (f ≡ fault.Memory)
memory_or fault.Memory = inr refl
memory_or (fault.Syntax at) = inl (record { real = λ e. absurd cc; none = λ m h. h; verdict = λ text h. h })
memory_or (fault.UnknownStream at) = inl (record { real = λ e. absurd cc; none = λ m h. h; verdict = λ text h. h })
memory_or (fault.UnknownColumn at) = inl (record { real = λ e. absurd cc; none = λ m h. h; verdict = λ text h. h })
memory_or (fault.KindsDiffer at) = inl (record { real = λ e. absurd cc; none = λ m h. h; verdict = λ text h. h })
memory_or (fault.LiteralTooWide at) = inl (record { real = λ e. absurd cc; none = λ m h. h; verdict = λ text h. h })
memory_or (fault.NotCondition at) = inl (record { real = λ e. absurd cc; none = λ m h. h; verdict = λ text h. h })
memory_or (fault.MixedItems at) = inl (record { real = λ e. absurd cc; none = λ m h. h; verdict = λ text h. h })
memory_or (fault.TwiceNamed at) = inl (record { real = λ e. absurd cc; none = λ m h. h; verdict = λ text h. h })
memory_or (fault.ColumnsDiffer at) = inl (record { real = λ e. absurd cc; none = λ m h. h; verdict = λ text h. h })
memory_or (fault.PaceDiffers at) = inl (record { real = λ e. absurd cc; none = λ m h. h; verdict = λ text h. h })
memory_or (fault.NotClosing at) = inl (record { real = λ e. absurd cc; none = λ m h. h; verdict = λ text h. h })
memory_or (fault.OutOfRange at) = inl (record { real = λ e. absurd cc; none = λ m h. h; verdict = λ text h. h })
memory_or (fault.TooDeep at) = inl (record { real = λ e. absurd cc; none = λ m h. h; verdict = λ text h. h })
memory_or (fault.NoTime at) = inl (record { real = λ e. absurd cc; none = λ m h. h; verdict = λ text h. h })
memory_or (fault.NoArrival at) = inl (record { real = λ e. absurd cc; none = λ m h. h; verdict = λ text h. h })
memory_or (fault.UnknownParameter at) = inl (record { real = λ e. absurd cc; none = λ m h. h; verdict = λ text h. h })

is_real : (f : QueryFault) → f ≢ fault.Memory → IsReal f
is_real f real = by (memory_or f)
  where
    by : IsReal f ⊎ (f ≡ fault.Memory) → IsReal f
    by (inl r) = r
    by (inr e) = absurd (real e)

-- ---- what is found

-- a text has no statement
pub unread : (schema : Schema) (text : List ℕ) (f : QueryFault) → IsFault text f → ((m : StatementTree) → HasStatement text m → IsOrMemory (Err f) m) → IsFaultOrMemory schema text f
unread schema text f is only = by (memory_or f)
  where
    by : IsReal f ⊎ (f ≡ fault.Memory) → IsFaultOrMemory schema text f
    by (inl r) = inl (record { real = r.real; found = inl (record { fault = is; none = λ m h. r.none m (only m h) }) })
    by (inr e) = inr e

-- ---- one fault

accepted_goes : TextsHaveOneVerdict → FirstFaultsAreExact → (schema : Schema) (text : List ℕ) (f : QueryFault) → IsSchema schema → IsQueryFault schema text f → (s : Statement) → IsAcceptedText schema text s → ⊥
accepted_goes verdicts exact schema text f fine is s accepted = by is.found
  where
    by : HasNoStatement text f ⊎ BreaksRule schema text f → ⊥
    by (inl h) = h.none (statement_tree s) accepted.has
    by (inr h) =
        let same : h.statement ≡ statement_tree s = one_meaning verdicts text h.statement (statement_tree s) h.has accepted.has in
        let none : first_fault schema h.statement ≡ None = subst (λ (m : StatementTree). first_fault schema m ≡ None) (sym same) (accepted_none exact schema s fine accepted.accepted) in
        absurd (let e : ◌≡◌ {A = Option QueryFault} None (Some f) = sym none ∙ h.first in cc)

same_verdict : TextsHaveOneVerdict → (text : List ℕ) (f g : QueryFault) → IsReal f → IsReal g → IsFault text f → IsFault text g → f ≡ g
same_verdict verdicts text f g r s is other =
    let v = verdicts text in
    let e : ◌≡◌ {A = Verdict} (Err f) (Err g) = v.only (Err f) (r.verdict text is) ∙ sym (v.only (Err g) (s.verdict text other)) in
    cc

same_rule : TextsHaveOneVerdict → (schema : Schema) (text : List ℕ) (f g : QueryFault) → BreaksRule schema text f → BreaksRule schema text g → f ≡ g
same_rule verdicts schema text f g a b =
    let same : a.statement ≡ b.statement = one_meaning verdicts text a.statement b.statement a.has b.has in
    let e : ◌≡◌ {A = Option QueryFault} (Some f) (Some g) = sym a.first ∙ subst (λ (m : StatementTree). first_fault schema m ≡ Some g) (sym same) b.first in
    cc

one_fault : TextsHaveOneVerdict → (schema : Schema) (text : List ℕ) (f g : QueryFault) → IsQueryFault schema text f → IsQueryFault schema text g → f ≡ g
one_fault verdicts schema text f g a b = by a.found b.found
  where
    by : HasNoStatement text f ⊎ BreaksRule schema text f → HasNoStatement text g ⊎ BreaksRule schema text g → f ≡ g
    by (inl h) (inl k) = same_verdict verdicts text f g (is_real f a.real) (is_real g b.real) h.fault k.fault
    by (inl h) (inr k) = absurd (h.none k.statement k.has)
    by (inr h) (inl k) = absurd (k.none h.statement h.has)
    by (inr h) (inr k) = same_rule verdicts schema text f g h k

pub one_faults : TextsHaveOneVerdict → FirstFaultsAreExact → TextsHaveOneFault
one_faults verdicts exact schema text f fine is = record {
  only = λ other o. one_fault verdicts schema text other f o is;
  refused = accepted_goes verdicts exact schema text f fine is;
}
