-- Copies and weights from capped ones are the same but for the cap, and a node has no more copies than it weighs.
use Rattle.std.proofs.Common.{◌≡◌, ℕ, ◌+◌, ◌*◌, ◌^◌, ◌<◌, ◌≤◌, ◌⊎◌, inl, inr, List, length, All, refl, ap, arith, lit<}
use Rattle.std.proofs.Math.Nat.{mul-le-mul_left}
use Rattle.std.proofs.lemmas.Bool.{cases_lt}
use Rattle.gl_bits.proofs.Numbers.{le_times}
use Rattle.gl_algebra.specs.declared.figures.Figures.{Figures}
use Rattle.gl_algebra.specs.declared.node.PlanNode.{PlanNode}
use Rattle.gl_algebra.specs.declared.node.PlanNode.TheVariants.{Stream, Body, Compute, Select, Project, Frames, Aggregate, Union, Merge, Beside, Window, TimeWindow, Group, Partition}
use Rattle.gl_algebra.specs.FigureTable.{figures_of}
use Rattle.gl_algebra.specs.Fits.{IsPlan, Suits}
use Rattle.gl_algebra.specs.Laws.{NodesFollowTables}
use Rattle.gl_algebra.specs.Nodewise.{named_by}
use Rattle.gl_algebra.specs.Views.{copies_of_partition, copies_of_time, copies_of_window}
use Rattle.gl_algebra.specs.Shapes.{Shape, shape_of}
use Rattle.gl_algebra.specs.Weights.{sum_over_children, own_weight, weight_from, weight_of, copies_from, copies_of, lines_of}
use Rattle.gl_algebra.proofs.FigureLemmas.{one_copy, some_copies, one_in_time}
use Rattle.gl_algebra.proofs.PlanLemmas.{by_nodes}
use Rattle.gl_figures.specs.Answered.{capped}
use Rattle.gl_figures.specs.Known.{capped_at}

-- two numbers are one, or both pass the cap
abbrev Alike : ℕ → ℕ → Type 0
Alike x y = (x ≡ y) ⊎ ((2 ^ 62 ≤ x) × (2 ^ 62 ≤ y))

-- a multiple of a sum with a capped number
times_alike : (c k b : ℕ) → 1 ≤ c → Alike (c * (capped b + k)) (c * (b + k))
times_alike c k b some = elim (cases_lt b (2 ^ 62)) [
  | inl below ↦ inl (let same : capped b ≡ b = omega arith in ap (λ x. c * (x + k)) same)
  | inr past ↦ inr (
    (let least : capped b + k ≤ c * (capped b + k) = le_times c (capped b + k) some in omega arith),
    (let least : b + k ≤ c * (b + k) = le_times c (b + k) some in omega arith),
  )
]

times_alike' : (c b : ℕ) → 1 ≤ c → Alike (c * (1 + capped b)) (c * (1 + b))
times_alike' c b some = elim (cases_lt b (2 ^ 62)) [
  | inl below ↦ inl (let same : capped b ≡ b = omega arith in ap (λ x. c * (1 + x)) same)
  | inr past ↦ inr (
    (let least : 1 + capped b ≤ c * (1 + capped b) = le_times c (1 + capped b) some in omega arith),
    (let least : 1 + b ≤ c * (1 + b) = le_times c (1 + b) some in omega arith),
  )
]

-- a sum of a capped number and one of two that are alike
sum_alike : (a x y : ℕ) → Alike x y → capped (capped a + x) ≡ capped (a + y)
sum_alike a x y alike = elim alike [
  | inl same ↦ omega arith
  | inr both ↦ omega (arith, both.0, both.1)
]

two_alike : (a b x : ℕ) → capped (capped a + capped b + x) ≡ capped (a + b + x)
two_alike a b x = omega arith

-- the same with more behind it, where there may be none of the multiple
pub further-capped : (a b each further more : ℕ)
    → capped (capped a + further * (capped b + each) + more) ≡ capped (a + further * (b + each) + more)
further-capped a b each further more = elim (cases_lt 0 further) [
  | inl some ↦ behind _ _ (times_alike further each b some)
  | inr none ↦ (let no : further ≡ 0 = omega arith in rw no (omega arith))
]
  where
    behind : (x y : ℕ) → Alike x y → capped (capped a + x + more) ≡ capped (a + y + more)
    behind x y alike = elim alike [
      | inl same ↦ omega arith
      | inr both ↦ omega (arith, both.0, both.1)
    ]

more_alike : (x y k : ℕ) → Alike x y → Alike (x + k) (y + k)
more_alike x y k alike = elim alike [
  | inl same ↦ inl (omega arith)
  | inr both ↦ inr (omega (arith, both.0), omega (arith, both.1))
]

pub copies-capped : (s : ℕ → Shape) (node : PlanNode) (v : ℕ → ℕ) → Suits s node
    → capped (copies_from (capped_at v) node) ≡ capped (copies_from v node)
copies-capped s (Stream number kinds) v suits = refl
copies-capped s (Body kinds) v suits = refl
copies-capped s (Compute child ops) v suits = omega arith
copies-capped s (Select child column) v suits = omega arith
copies-capped s (Project child items) v suits = omega arith
copies-capped s (Frames child by items) v suits = omega arith
copies-capped s (Aggregate child aggs) v suits = omega arith
copies-capped s (Union left right) v suits = omega arith
copies-capped s (Merge left right) v suits = omega arith
copies-capped s (Beside left right) v suits = omega arith
copies-capped s (Window source body size advance) v suits =
    sum_alike (v source) _ _ (times_alike' (copies_of_window size advance) (v body) (one_copy size advance suits.1.least suits.2.least))
copies-capped s (TimeWindow source body size advance) v suits =
    sum_alike (v source) _ _ (times_alike' (copies_of_time size advance) (v body) (one_in_time size advance))
copies-capped s (Group source body key groups) v suits =
    sum_alike (v source) _ _ (times_alike' groups (v body) suits.2.least)
copies-capped s (Partition source body key groups size advance) v suits =
    sum_alike (v source) _ _ (times_alike' (copies_of_partition groups size advance) (v body)
    (some_copies groups size advance suits.2.least suits.3.least suits.4.least))

pub weight-capped : (s : ℕ → Shape) (f : ℕ → Figures) (lines : ℕ) (node : PlanNode) (v : ℕ → ℕ) → Suits s node
    → capped (sum_over_children (capped_at v) node + own_weight s f (capped_at v) lines node)
    ≡ capped (sum_over_children v node + own_weight s f v lines node)
weight-capped s f lines (Stream number kinds) v suits = refl
weight-capped s f lines (Body kinds) v suits = refl
weight-capped s f lines (Compute child ops) v suits = sum_alike (v child) _ _ (inl refl)
weight-capped s f lines (Select child column) v suits = sum_alike (v child) _ _ (inl refl)
weight-capped s f lines (Project child items) v suits = sum_alike (v child) _ _ (inl refl)
weight-capped s f lines (Frames child by items) v suits = sum_alike (v child) _ _ (inl refl)
weight-capped s f lines (Aggregate child aggs) v suits = sum_alike (v child) _ _ (inl refl)
weight-capped s f lines (Union left right) v suits = two_alike (v left) (v right) _
weight-capped s f lines (Merge left right) v suits = two_alike (v left) (v right) _
weight-capped s f lines (Beside left right) v suits = two_alike (v left) (v right) _
weight-capped s f lines (Window source body size advance) v suits =
    sum_alike (v source) _ _ (more_alike _ _ _ (more_alike _ _ _ (more_alike _ _ _
    (times_alike (copies_of_window size advance) _ (v body) (one_copy size advance suits.1.least suits.2.least)))))
weight-capped s f lines (TimeWindow source body size advance) v suits =
    sum_alike (v source) _ _ (more_alike _ _ _ (more_alike _ _ _ (more_alike _ _ _
    (times_alike (copies_of_time size advance) _ (v body) (one_in_time size advance)))))
weight-capped s f lines (Group source body key groups) v suits =
    sum_alike (v source) _ _ (more_alike _ _ _ (more_alike _ _ _ (times_alike groups _ (v body) suits.2.least)))
weight-capped s f lines (Partition source body key groups size advance) v suits =
    sum_alike (v source) _ _ (more_alike _ _ _ (more_alike _ _ _ (more_alike _ _ _
    (times_alike (copies_of_partition groups size advance) _ (v body)
    (some_copies groups size advance suits.2.least suits.3.least suits.4.least)))))

-- ---- copies and weights

copied : (c v w k : ℕ) → v ≤ w → c * (1 + v) ≤ c * (w + 8 * (k + 4))
copied c v w k light = mul-le-mul_left c (omega arith)

row_light : (s : ℕ → Shape) (f : ℕ → Figures) (v w : ℕ → ℕ) (node : PlanNode) → All (λ child. v child ≤ w child) (named_by node)
    → copies_from v node ≤ weight_from s f w node
row_light s f v w (Stream number kinds) light = omega arith
row_light s f v w (Body kinds) light = omega arith
row_light s f v w (Compute child ops) light = let one = light 0 0 (lit< tt) in omega arith
row_light s f v w (Select child column) light = let one = light 0 0 (lit< tt) in omega arith
row_light s f v w (Project child items) light = let one = light 0 0 (lit< tt) in omega arith
row_light s f v w (Frames child by items) light = let one = light 0 0 (lit< tt) in omega arith
row_light s f v w (Aggregate child aggs) light = let one = light 0 0 (lit< tt) in omega arith
row_light s f v w (Union left right) light = let one = light 0 0 (lit< tt) in let two = light 1 0 (lit< tt) in omega arith
row_light s f v w (Merge left right) light = let one = light 0 0 (lit< tt) in let two = light 1 0 (lit< tt) in omega arith
row_light s f v w (Beside left right) light = let one = light 0 0 (lit< tt) in let two = light 1 0 (lit< tt) in omega arith
row_light s f v w (Window source body size advance) light =
    let one = light 0 0 (lit< tt) in
    let lines : ℕ = lines_of (s source) + (length (s body).kinds + 2) in
    let each = copied (copies_of_window size advance) (v body) (w body) lines (light 1 0 (lit< tt)) in
    omega arith
row_light s f v w (TimeWindow source body size advance) light =
    let one = light 0 0 (lit< tt) in
    let lines : ℕ = lines_of (s source) + (length (s body).kinds + 2) in
    let each = copied (copies_of_time size advance) (v body) (w body) lines (light 1 0 (lit< tt)) in
    omega arith
row_light s f v w (Group source body key groups) light =
    let one = light 0 0 (lit< tt) in
    let each = copied groups (v body) (w body) (lines_of (s source) + (length (s body).kinds + 1 + 2)) (light 1 0 (lit< tt)) in
    omega arith
row_light s f v w (Partition source body key groups size advance) light =
    let one = light 0 0 (lit< tt) in
    let lines : ℕ = lines_of (s source) + (length (s body).kinds + 1 + 2) in
    let each = copied (copies_of_partition groups size advance) (v body) (w body) lines (light 1 0 (lit< tt)) in
    omega arith

-- a node has no more copies than it weighs
pub copies_light : NodesFollowTables → (nodes : List PlanNode) (number : ℕ) → IsPlan nodes → number < length nodes
    → copies_of nodes number ≤ weight_of nodes number
copies_light follow nodes number plan within =
    by_nodes nodes plan (λ n. copies_of nodes n ≤ weight_of nodes n)
    (λ n node is fits before.
    let follows = follow nodes n node plan is in
    rw (follows.copies, follows.weight)
    (row_light (shape_of nodes) (figures_of nodes) (copies_of nodes) (weight_of nodes) node (λ k d h. before _ (fits.before k d h))))
    number within
