-- Values and words that lists hold, and where an expression can be evaluated over them.
use Rattle.std.specs.Prelude.{◌≡◌, Some, slice_get, ℕ, ◌+◌, ◌*◌, ◌^◌, ◌<◌, ◌≤◌, List, [], length, slice_index, slice_index_or}
use Rattle.gl_verilog.specs.Module.{Declaration, Expr, Net, Literal, Invert, Binary, Choose, Join, Select, Read, Nets, Memories, value_of}
use Rattle.gl_verilog.specs.Run.{Fit}
use Rattle.gl_verilog.specs.Widths.{words_in}

-- the value of each net, by its number
abbrev pub nets_of : List ℕ → Nets
nets_of values = λ n. slice_index values n

-- each word of each memory, by the memory's number
abbrev pub memories_of : List (List ℕ) → Memories
memories_of banks = λ k at. slice_index (slice_index_or banks k []) at

-- each number is in range, and each operand fits its operator
abbrev pub CanEvaluate : List ℕ → List (List ℕ) → Expr → Type 0
CanEvaluate vs bs (Net n) = n < length vs
CanEvaluate vs bs (Literal value width) = Unit {0}
CanEvaluate vs bs (Invert width arg) =
    (width ≤ 128) × (value_of (nets_of vs) (memories_of bs) arg < 2 ^ width) × CanEvaluate vs bs arg
CanEvaluate vs bs (Binary op width left right) =
    (width ≤ 128) × (value_of (nets_of vs) (memories_of bs) left < 2 ^ width)
    × (value_of (nets_of vs) (memories_of bs) right < 2 ^ width) × CanEvaluate vs bs left × CanEvaluate vs bs right
CanEvaluate vs bs (Choose test yes' no') = CanEvaluate vs bs test × CanEvaluate vs bs yes' × CanEvaluate vs bs no'
CanEvaluate vs bs (Join low_width high low) =
    (low_width < 128) × (value_of (nets_of vs) (memories_of bs) high * 2 ^ low_width + value_of (nets_of vs)
    (memories_of bs) low < 2 ^ 128) × CanEvaluate vs bs high × CanEvaluate vs bs low
CanEvaluate vs bs (Select high low n) = (n < length vs) × (low ≤ high) × (high < 128)
CanEvaluate vs bs (Read memory address) =
    (memory < length bs) × (value_of (nets_of vs) (memories_of bs) address < length (slice_index_or bs memory []))
    × (value_of (nets_of vs) (memories_of bs) address < 2 ^ 64) × CanEvaluate vs bs address

-- the lists hold a value for each declaration, which fits its width, and each word of each memory
pub record IsStore (ds : List Declaration) (values : List ℕ) (banks : List (List ℕ)) : Type 0 where
  pub nets : length values ≡ length ds
  pub memories : length banks ≡ length ds
  pub words : (k : ℕ) (d : Declaration) → slice_get ds k ≡ Some d → length (slice_index_or banks k []) ≡ words_in d.kind
  pub fits : Fit ds (nets_of values) (memories_of banks)
