-- Lists of columns and zeros without one place, as code makes them.
use Rattle.std.proofs.Common.{◌≡◌, ℕ, zero, suc, ◌+◌, ◌-◌, ◌<◌, List, [], ◌∷◌, ◌++◌, length, refl, sym, ap, ◌∙◌, arith, append_assoc}
use Rattle.std.specs.Prelude.{remove, slice_set}
use Rattle.std.proofs.lemmas.List.Edits.{length-remove}
use Rattle.gl_schema.specs.declared.schema.Column.{Column as NamedColumn}
use Rattle.gl_query.specs.Shapes.{SlotsShape}
use Rattle.gl_query.specs.Values.{column_number}
use Rattle.gl_algebra.specs.declared.node.Operand.{Operand}
use Rattle.gl_algebra.specs.declared.node.Operand.TheVariants as operand
use Rattle.gl_elaborate.specs.Fitting.{CanJoin}
use Rattle.gl_elaborate.specs.Joins.{columns_from, joined_columns, zero_of, zeros_for}

but_one : (first count k : ℕ) → k < count → remove (columns_from first count) k ≡ columns_from first k ++ columns_from (first + k + 1) (count - k - 1)
but_one first zero k lt = absurd (omega (arith, lt))
but_one first (suc count) zero lt =
    let at : first + 1 ≡ first + 0 + 1 = omega arith in
    let many : count ≡ suc count - 0 - 1 = omega arith in
    λ i. columns_from (at i) (many i)
but_one first (suc count) (suc k) lt =
    let at : first + 1 + k + 1 ≡ first + suc k + 1 = omega arith in
    let many : count - k - 1 ≡ suc count - suc k - 1 = omega arith in
    ap (λ (l : List Operand). operand.Column first ∷ l) (but_one (first + 1) count k (omega (arith, lt)))
    ∙ (λ i. operand.Column first ∷ (columns_from (first + 1) k ++ columns_from (at i) (many i)))

pub all_but : (into : List Operand) (count k : ℕ) → k < count
    → (into ++ columns_from 0 k) ++ columns_from (k + 1) (count - k - 1) ≡ into ++ remove (columns_from 0 count) k
all_but into count k lt =
    let at : k + 1 ≡ 0 + k + 1 = omega arith in
    append_assoc into (columns_from 0 k) (columns_from (k + 1) (count - k - 1))
    ∙ ap (λ n. into ++ (columns_from 0 k ++ columns_from n (count - k - 1))) at
    ∙ ap (λ (l : List Operand). into ++ l) (sym (but_one 0 count k lt))

zeros_but : (c : NamedColumn) (columns : List NamedColumn) (k : ℕ) → (k ≡ 0 → ⊥)
    → zeros_for (remove (c ∷ columns) k) ≡ zero_of c.kind ∷ zeros_for (remove columns (k - 1))
zeros_but c columns zero some = absurd (some refl)
zeros_but c columns (suc k) some = let same : k ≡ suc k - 1 = omega arith in ap (λ n. zero_of c.kind ∷ zeros_for (remove columns n)) same

-- a zero, and those of the others
pub zeros_behind : (into mid out : List Operand) (columns rest : List NamedColumn) (c : NamedColumn) (k : ℕ) → columns ≡ c ∷ rest → (k ≡ 0 → ⊥)
    → mid ≡ into ++ zero_of c.kind ∷ [] → out ≡ mid ++ zeros_for (remove rest (k - 1)) → out ≡ into ++ zeros_for (remove columns k)
zeros_behind into mid out columns rest c k e some pushed more =
    more ∙ ap (λ (l : List Operand). l ++ zeros_for (remove rest (k - 1))) pushed
    ∙ append_assoc into (zero_of c.kind ∷ []) (zeros_for (remove rest (k - 1)))
    ∙ ap (λ (l : List Operand). into ++ l) (sym (zeros_but c rest k some))
    ∙ ap (λ (l : List NamedColumn). into ++ zeros_for (remove l k)) (sym e)

pub with_key : (c : NamedColumn) (columns : List NamedColumn) (place : ℕ) (x : Operand) → (place ≡ 0 → ⊥)
    → slice_set (zeros_for (c ∷ columns)) place x ≡ zero_of c.kind ∷ slice_set (zeros_for columns) (place - 1) x
with_key c columns zero x some = absurd (some refl)
with_key c columns (suc place) x some =
    let same : place ≡ suc place - 1 = omega arith in ap (λ n. zero_of c.kind ∷ slice_set (zeros_for columns) n x) same

pub fewer : (lefts rights : List NamedColumn) (slots : SlotsShape) → CanJoin lefts rights slots
    → length lefts + length rights - 1 ≡ joined_columns lefts rights slots.key
fewer lefts rights slots can =
    let one = length-remove rights (column_number rights slots.key) can.right_key in
    omega (arith, one)
