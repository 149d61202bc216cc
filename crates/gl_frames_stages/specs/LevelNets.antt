-- One level of doubling, in a netlist.
use Rattle.std.specs.Prelude.{◌≡◌, ℕ, suc, ◌+◌, ◌*◌, ◌%◌, ◌^◌, Bool, not, ◌&&◌, if◌then◌else◌}
use Rattle.gl_divide.specs.Division.{highest}
use Rattle.gl_values.specs.Kinds.{width_of}
use Rattle.gl_values.specs.declared.kind.Kind.{Kind}
use Rattle.gl_net.specs.declared.node.Bus.{Bus}
use Rattle.gl_net.specs.declared.node.Bit.{Bit}
use Rattle.gl_net.specs.Net.{Net, Run, IsRun, IsBit, IsBus, Keeps}
use Rattle.gl_frames.specs.Frames.{lag_of, row_before}
use Rattle.gl_frames_wire.specs.declared.reach.Reach.{Reach}
use Rattle.gl_totals.specs.Folds.{is_better}
use Rattle.gl_totals.specs.declared.fold.Extreme.{Extreme}
use Rattle.gl_wire.specs.Costs.{Costs, CostsAtMost, nodes_alone}
use Rattle.gl_wire.specs.Wire.{line_at}
use Rattle.gl_frames_stages.specs.Columns.{Tells, carried_by}
use Rattle.gl_frames_stages.specs.Laws.{itself, picked}
use Rattle.gl_frames_stages.specs.declared.lagged.Maybe.{Maybe}
use Rattle.gl_frames_stages.specs.declared.level.Order.{Order}
use Rattle.gl_frames_stages.specs.declared.lines.Lines.{Lines}

-- the width of the words of an order: a bit above the value tells whether there is one
abbrev pub word_width : Order → ℕ
word_width order = if order.packed then width_of order.kind + 1 else width_of order.kind

-- whether the value of a word with such a bit is there, and better than that of an earlier one
abbrev pub wins : Extreme → Kind → ℕ → ℕ → Bool
wins extreme kind x y =
    highest (width_of kind + 1) y && is_better extreme kind (x % 2 ^ width_of kind) (y % 2 ^ width_of kind)

-- whether an earlier word with such a bit is kept: it has a value, and the word has none that is better
abbrev pub packed_stays : Extreme → Kind → ℕ → ℕ → Bool
packed_stays extreme kind x y = highest (width_of kind + 1) x && not (wins extreme kind x y)

-- whether an earlier word is kept
abbrev pub stays_in : Order → ℕ → ℕ → Bool
stays_in order x y =
    if order.packed then packed_stays order.extreme order.kind x y else not (is_better order.extreme order.kind x y)

-- the better of two words in an order
abbrev pub better_in : Order → ℕ → ℕ → ℕ
better_in order x y = if stays_in order x y then x else y

-- the gates that tell it
abbrev pub nodes_of_stays : Order → ℕ
nodes_of_stays order = if order.packed then 12 else 5

-- a line that is 1 where the value of a word is there and better
pub record IsWinsIn (old new : Net) (word own : Bus) (order : Order) (out : Bit) : Type 0 where
  pub keeps : Keeps old new
  pub cost : CostsAtMost old new (nodes_alone 8)
  pub bit : IsBit new out
  pub line : (run : Run) → IsRun new run → (t : ℕ) → line_at run out (suc t)
      ≡ wins order.extreme order.kind (run.at (suc t) word.node) (run.at (suc t) own.node)

-- a line that is 1 where an earlier word is there and is kept
pub record IsStaysIn (old new : Net) (most : ℕ) (found : Maybe) (own : Bus) (order : Order) (out : Bit) : Type 0 where
  pub keeps : Keeps old new
  pub cost : CostsAtMost old new (nodes_alone most)
  pub bit : IsBit new out
  pub line : (run : Run) → IsRun new run → (t : ℕ) → line_at run out (suc t)
      ≡ (line_at run found.some (suc t) && stays_in order (run.at (suc t) found.word.node) (run.at (suc t) own.node))

-- one cycle later one bus where a line is 1, and else another
pub record IsKeptIn (old new : Net) (line : Bit) (word own out : Bus) : Type 0 where
  pub keeps : Keeps old new
  pub cost : Costs old new (record { nodes = 4; registers = 1 + word.width + own.width; memories = 0 })
  pub bus : IsBus new out
  pub same_width : out.width ≡ word.width
  pub chosen : (run : Run) → IsRun new run → (t : ℕ) → run.at (suc (suc t)) out.node
      ≡ (if line_at run line (suc t) then run.at (suc t) word.node else run.at (suc t) own.node)

-- in every run, from any contents, two cycles behind each row the better of what the column had so many rows before, if
-- it had so many, and of what it has
pub record IsLevelIn (old new : Net) (lines : Lines) (reach : Reach) (order : Order) (value out : Bus) : Type 0 where
  pub keeps : Keeps old new
  pub cost : CostsAtMost old new (record {
    nodes = 24 + nodes_of_stays order;
    registers = reach.bits + 3 + 4 * value.width;
    memories = 2 ^ reach.bits * value.width;
  })
  pub bus : IsBus new out
  pub same_width : out.width ≡ value.width
  pub tells : (run : Run) → IsRun new run
      → Tells run lines 2 (λ xs. picked (better_in order) (row_before reach.back xs) (lag_of itself 0 xs))
      (carried_by run value) (carried_by run out)
