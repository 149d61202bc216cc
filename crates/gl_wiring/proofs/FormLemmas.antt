-- What a test of a node tells of its form.
use Rattle.std.proofs.Common.{◌≡◌, ℕ, suc, ◌≤◌, List, [], ◌∷◌, length, true, false, refl, sym, ap, arith}
use Rattle.gl_values.specs.declared.kind.Kind.{Kind}
use Rattle.gl_algebra.specs.declared.node.PlanAgg.{PlanAgg}
use Rattle.gl_algebra.specs.declared.node.PlanNode.{PlanNode}
use Rattle.gl_algebra.specs.declared.node.PlanNode.TheVariants.{Stream, Body, Compute, Select, Project, Frames, Aggregate, Union, Merge, Beside, Window, TimeWindow, Group, Partition}
use Rattle.gl_algebra.specs.Direct.{Form, copied, rowwise, totalling, form_from, is_direct, is_rowwise, rows_over, totals_over}
use Rattle.gl_algebra.specs.FigureTable.{delay_of_aggs}
use Rattle.gl_algebra.specs.Shapes.{Shape}

pub never : false ≡ true → ⊥
never e = cc

-- operators of rows give rows over rows
pub same_rows : (form : Form) → is_rowwise form ≡ is_rowwise (rows_over form)
same_rows copied = refl
same_rows rowwise = refl
same_rows (totalling many delay) = refl

-- below them stand rows
pub child_rowwise : (form : Form) → rows_over form ≡ rowwise → form ≡ rowwise
child_rowwise copied e = absurd (cc)
child_rowwise rowwise e = refl
child_rowwise (totalling many delay) e = absurd (cc)

-- aggregates give no rows one by one
totals_no_rows : (form : Form) (kinds : List Kind) (aggs : List PlanAgg) → is_rowwise (totals_over form kinds aggs) ≡ false
totals_no_rows copied kinds aggs = refl
totals_no_rows rowwise kinds [] = refl
totals_no_rows rowwise kinds (agg ∷ aggs) = refl
totals_no_rows (totalling many delay) kinds aggs = refl

-- they are direct over rows, where there is one
pub direct_over : (form : Form) (kinds : List Kind) (aggs : List PlanAgg) → 1 ≤ length aggs → is_rowwise form ≡ is_direct (totals_over form kinds aggs)
direct_over copied kinds aggs some = refl
direct_over rowwise kinds [] some = absurd (omega (arith, some))
direct_over rowwise kinds (agg ∷ aggs) some = refl
direct_over (totalling many delay) kinds aggs some = refl

pub none_direct : (form : Form) (kinds : List Kind) (aggs : List PlanAgg) → length aggs ≡ 0 → false ≡ is_direct (totals_over form kinds aggs)
none_direct copied kinds aggs none = refl
none_direct rowwise kinds [] none = refl
none_direct rowwise kinds (agg ∷ aggs) none = absurd (omega (arith, none))
none_direct (totalling many delay) kinds aggs none = refl

rows_not_direct : (form : Form) → is_direct (rows_over form) ≡ false
rows_not_direct copied = refl
rows_not_direct rowwise = refl
rows_not_direct (totalling many delay) = refl

-- no other node gives rows one by one, and none but aggregates is direct
pub others_no_rows : (shapes : ℕ → Shape) (forms : ℕ → Form) (node : PlanNode) → ((kinds : _) → node ≡ Body kinds → ⊥) → ((child ops : _) → node ≡ Compute child ops → ⊥)
    → ((child column : _) → node ≡ Select child column → ⊥) → ((child items : _) → node ≡ Project child items → ⊥) → false ≡ is_rowwise (form_from shapes forms node)
others_no_rows shapes forms (Stream number kinds) a b c d = refl
others_no_rows shapes forms (Body kinds) a b c d = absurd (a kinds refl)
others_no_rows shapes forms (Compute child ops) a b c d = absurd (b child ops refl)
others_no_rows shapes forms (Select child column) a b c d = absurd (c child column refl)
others_no_rows shapes forms (Project child items) a b c d = absurd (d child items refl)
others_no_rows shapes forms (Frames child by items) a b c d = refl
others_no_rows shapes forms (Aggregate child aggs) a b c d = sym (totals_no_rows (forms child) (shapes child).kinds aggs)
others_no_rows shapes forms (Union left right) a b c d = refl
others_no_rows shapes forms (Merge left right) a b c d = refl
others_no_rows shapes forms (Beside left right) a b c d = refl
others_no_rows shapes forms (Window source body size advance) a b c d = refl
others_no_rows shapes forms (TimeWindow source body size advance) a b c d = refl
others_no_rows shapes forms (Group source body key groups) a b c d = refl
others_no_rows shapes forms (Partition source body key groups size advance) a b c d = refl

pub others_not_direct : (shapes : ℕ → Shape) (forms : ℕ → Form) (node : PlanNode) → ((child aggs : _) → node ≡ Aggregate child aggs → ⊥)
    → false ≡ is_direct (form_from shapes forms node)
others_not_direct shapes forms (Stream number kinds) a = refl
others_not_direct shapes forms (Body kinds) a = refl
others_not_direct shapes forms (Compute child ops) a = sym (rows_not_direct (forms child))
others_not_direct shapes forms (Select child column) a = sym (rows_not_direct (forms child))
others_not_direct shapes forms (Project child items) a = sym (rows_not_direct (forms child))
others_not_direct shapes forms (Frames child by items) a = refl
others_not_direct shapes forms (Aggregate child aggs) a = absurd (a child aggs refl)
others_not_direct shapes forms (Union left right) a = refl
others_not_direct shapes forms (Merge left right) a = refl
others_not_direct shapes forms (Beside left right) a = refl
others_not_direct shapes forms (Window source body size advance) a = refl
others_not_direct shapes forms (TimeWindow source body size advance) a = refl
others_not_direct shapes forms (Group source body key groups) a = refl
others_not_direct shapes forms (Partition source body key groups size advance) a = refl

-- a direct body is aggregates, one at least, over rows
pub record IsDirect (form : Form) (kinds : List Kind) (aggs : List PlanAgg) : Type 0 where
  pub rows : form ≡ rowwise
  pub some' : 1 ≤ length aggs
  pub is : totals_over form kinds aggs ≡ totalling (length aggs) (delay_of_aggs kinds aggs)

pub direct_is : (form : Form) (kinds : List Kind) (aggs : List PlanAgg) → is_direct (totals_over form kinds aggs) ≡ true → IsDirect form kinds aggs
direct_is copied kinds aggs h = absurd (cc)
direct_is rowwise kinds [] h = absurd (cc)
direct_is rowwise kinds (agg ∷ aggs) h = record {
  rows = refl;
  some' = omega arith;
  is = ap (λ n. totalling n (delay_of_aggs kinds (agg ∷ aggs))) (let e : suc (length aggs) ≡ length (agg ∷ aggs) = omega arith in e);
}
direct_is (totalling many delay) kinds aggs h = absurd (cc)
