-- What comes to a frame and what leaves it, in a netlist.
use Rattle.std.specs.Prelude.{◌≡◌, ℕ, suc, ◌+◌, ◌*◌, ◌^◌, if◌then◌else◌}
use Rattle.gl_bits.specs.Words.{difference_of}
use Rattle.gl_values.specs.Kinds.{number_of, word_of}
use Rattle.gl_values.specs.declared.kind.Kind.{Kind}
use Rattle.gl_net.specs.declared.node.Bus.{Bus}
use Rattle.gl_net.specs.Net.{Net, Run, IsRun, IsBus, Keeps}
use Rattle.gl_frames.specs.Frames.{lag_of}
use Rattle.gl_frames_wire.specs.declared.reach.Reach.{Reach}
use Rattle.gl_wire.specs.Costs.{Costs, CostsAtMost, nodes_alone}
use Rattle.gl_wire.specs.Wire.{line_at}
use Rattle.gl_frames_stages.specs.Columns.{Tells, carried_by}
use Rattle.gl_frames_stages.specs.Laws.{itself}
use Rattle.gl_frames_stages.specs.declared.lagged.Maybe.{Maybe}
use Rattle.gl_frames_stages.specs.declared.lines.Lines.{Lines}
use Rattle.gl_frames_stages.specs.declared.slide.Slide.{Slide}

-- a value, and 0 where it is absent
pub record IsOrNoneIn (old new : Net) (value : Maybe) (out : Bus) : Type 0 where
  pub keeps : Keeps old new
  pub cost : Costs old new (nodes_alone 2)
  pub bus : IsBus new out
  pub same_width : out.width ≡ value.word.width
  pub chosen : (run : Run) → IsRun new run → (t : ℕ) → run.at (suc t) out.node
      ≡ (if line_at run value.some (suc t) then run.at (suc t) value.word.node else 0)

-- one cycle behind each row its own value, and that of so many rows before or 0
pub record IsSlideIn (old new : Net) (lines : Lines) (reach : Reach) (value : Bus) (s : Slide) : Type 0 where
  pub keeps : Keeps old new
  pub cost : Costs old new (record {
    nodes = 22;
    registers = reach.bits + 2 + 2 * value.width;
    memories = 2 ^ reach.bits * value.width;
  })
  pub own_bus : IsBus new s.own
  pub own_width : s.own.width ≡ value.width
  pub owns : (run : Run) → IsRun new run → (t : ℕ) → run.at (suc (suc t)) s.own.node ≡ run.at (suc t) value.node
  pub gone_bus : IsBus new s.gone
  pub gone_width : s.gone.width ≡ value.width
  pub leaves : (run : Run) → IsRun new run
      → Tells run lines 1 (lag_of itself reach.back) (carried_by run value) (carried_by run s.gone)

-- one cycle later the difference of both
pub record IsChangeIn (old new : Net) (slide : Slide) (out : Bus) : Type 0 where
  pub keeps : Keeps old new
  pub cost : Costs old new (record { nodes = 2; registers = slide.own.width; memories = 0 })
  pub bus : IsBus new out
  pub same_width : out.width ≡ slide.own.width
  pub changes : (run : Run) → IsRun new run → (t : ℕ) → run.at (suc (suc t)) out.node
      ≡ difference_of slide.own.width (run.at (suc t) slide.own.node) (run.at (suc t) slide.gone.node)

-- the word of a width for the number that a word of a kind stands for
abbrev pub widened : Kind → ℕ → ℕ → ℕ
widened kind width x = word_of width (number_of kind x)

-- one cycle later the difference of the numbers of both, in a width
pub record IsWideChangeIn (old new : Net) (slide : Slide) (kind : Kind) (width : ℕ) (out : Bus) : Type 0 where
  pub keeps : Keeps old new
  pub cost : CostsAtMost old new (record { nodes = 12; registers = width; memories = 0 })
  pub bus : IsBus new out
  pub same_width : out.width ≡ width
  pub changes : (run : Run) → IsRun new run → (t : ℕ) → run.at (suc (suc t)) out.node
      ≡ difference_of width (widened kind width (run.at (suc t) slide.own.node))
      (widened kind width (run.at (suc t) slide.gone.node))
