-- What is seen of a node whatever its form: its children, its body, and the copies that it has of it.
use Rattle.std.specs.Prelude.{ℕ, ◌*◌, ◌+◌, ◌/◌, Bool, true, false, List, [], ◌∷◌, Option, Some, None, option_map, unwrap_or}
use Rattle.std.specs.Int.{div_ceil}
use Rattle.std.specs.List.{list_any}
use Rattle.gl_algebra.specs.declared.node.PlanNode.{PlanNode}
use Rattle.gl_algebra.specs.declared.node.PlanNode.TheVariants.{Stream, Body, Compute, Select, Project, Frames, Aggregate, Union, Merge, Beside, Window, TimeWindow, Group, Partition}

-- the nodes whose rows it takes
abbrev pub children_of : PlanNode → List ℕ
children_of (Stream number kinds) = []
children_of (Body kinds) = []
children_of (Compute child ops) = child ∷ []
children_of (Select child column) = child ∷ []
children_of (Project child items) = child ∷ []
children_of (Frames child by items) = child ∷ []
children_of (Aggregate child aggs) = child ∷ []
children_of (Union left right) = left ∷ right ∷ []
children_of (Merge left right) = left ∷ right ∷ []
children_of (Beside left right) = left ∷ right ∷ []
children_of (Window source body size advance) = source ∷ []
children_of (TimeWindow source body size advance) = source ∷ []
children_of (Group source body key groups) = source ∷ []
children_of (Partition source body key groups size advance) = source ∷ []

-- the body that it has copies of
abbrev pub body_of : PlanNode → Option ℕ
body_of (Window source body size advance) = Some body
body_of (TimeWindow source body size advance) = Some body
body_of (Group source body key groups) = Some body
body_of (Partition source body key groups size advance) = Some body
body_of node = None

-- the windows that can be open at once: the size by the advance, rounded up
abbrev pub copies_of_window : ℕ → ℕ → ℕ
copies_of_window size advance = div_ceil size advance

-- the windows of time that can be open at once: the one that a tick opens stands beside all that hold the time before it
abbrev pub copies_of_time : ℕ → ℕ → ℕ
copies_of_time size advance = size / advance + 1

-- the windows that can be open at once where each of so many groups has its own
abbrev pub copies_of_partition : ℕ → ℕ → ℕ → ℕ
copies_of_partition groups size advance = groups * copies_of_window size advance

-- the copies of its body, 0 where it has none
abbrev pub copies_in : PlanNode → ℕ
copies_in (Window source body size advance) = copies_of_window size advance
copies_in (TimeWindow source body size advance) = copies_of_time size advance
copies_in (Group source body key groups) = groups
copies_in (Partition source body key groups size advance) = copies_of_partition groups size advance
copies_in node = 0

-- the value of its body, 0 where it has none
abbrev pub of_body : (ℕ → ℕ) → PlanNode → ℕ
of_body values node = unwrap_or (option_map values (body_of node)) 0

-- whether a node is a window of time
abbrev pub is_time : PlanNode → Bool
is_time (TimeWindow source body size advance) = true
is_time node = false

-- some node of a plan has windows over time
abbrev pub reads_time : List PlanNode → Bool
reads_time nodes = list_any is_time nodes
