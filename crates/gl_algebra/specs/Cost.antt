-- What bounds the register bits and the memory bits of a plan's circuit, where queues are rings in memories, and so are
-- the states of a group's slots where its body is direct.
use Rattle.std.specs.Prelude.{ℕ, ◌+◌, ◌*◌, sum_by, List, Option, Some, None, if◌then◌else◌}
use Rattle.gl_values.specs.Kinds.{width_of}
use Rattle.gl_values.specs.declared.kind.Kind.{Kind}
use Rattle.gl_algebra.specs.declared.figures.Figures.{Figures}
use Rattle.gl_algebra.specs.declared.node.PlanFrame.{PlanFrame}
use Rattle.gl_algebra.specs.declared.node.PlanKey.{PlanKey}
use Rattle.gl_algebra.specs.declared.node.PlanNode.{PlanNode}
use Rattle.gl_algebra.specs.declared.node.PlanNode.TheVariants.{Union, Group, Frames}
use Rattle.gl_algebra.specs.Columns.{kind_of_column}
use Rattle.gl_algebra.specs.Direct.{Form, copied, rowwise, totalling, form_of}
use Rattle.gl_algebra.specs.FigureTable.{figures_of, needs_spacer}
use Rattle.gl_algebra.specs.Frames.{delay_of_frames, frames_in, words_of_frame}
use Rattle.gl_algebra.specs.Keys.{delay_by_key, store_of_look_up, width_of_key}
use Rattle.gl_algebra.specs.Nodewise.{nodewise}
use Rattle.gl_algebra.specs.Shapes.{Shape, shape_of, shape_from}
pub use Rattle.gl_algebra.specs.Rings.{least_exponent, ring}
use Rattle.gl_algebra.specs.Views.{copies_in, of_body}
use Rattle.gl_algebra.specs.Weights.{lines_of, own_part, pad_of, part_of_spacer, sum_over_children, weight_of_copies}

-- the registers of the spacer before a body of this gap, where one stands; its queue is a ring
abbrev pub lean_of_spacer : ℕ → Figures → ℕ → ℕ
lean_of_spacer gap f lines = if needs_spacer gap f then 8 * lines else 0

-- what groups count in registers: a direct body counts once, with a table of its totals behind it; any other body
-- counts for each slot
abbrev pub lean_of_groups : Form → ℕ → ℕ → ℕ → ℕ → ℕ
lean_of_groups copied groups body source own = weight_of_copies groups body source own
lean_of_groups rowwise groups body source own = weight_of_copies groups body source own
lean_of_groups (totalling many delay) groups body source own = body + 4 * (source + own + 8) + 4 * (many * delay)

-- a node's own part in registers, from those of bodies: its weight, but for queues and groups over direct bodies
abbrev pub own_lean : (ℕ → Shape) → (ℕ → Figures) → (ℕ → Form) → (ℕ → ℕ) → ℕ → PlanNode → ℕ
own_lean shapes figures forms leans lines (Union left right) =
    4 * lines * (pad_of (figures left) (figures right) + 4)
own_lean shapes figures forms leans lines (Group source body key groups) =
    lean_of_groups (forms body) groups (leans body) (lines_of (shapes source)) lines
    + part_of_spacer lean_of_spacer shapes figures (Group source body key groups)
own_lean shapes figures forms leans lines node = own_part lean_of_spacer shapes figures leans lines node

-- what bounds the registers of a node: those of its children, and its own part over the lines of its wire
abbrev pub lean_from : (ℕ → Shape) → (ℕ → Figures) → (ℕ → Form) → (ℕ → ℕ) → PlanNode → ℕ
lean_from shapes figures forms leans node =
    sum_over_children leans node + own_lean shapes figures forms leans (lines_of (shape_from shapes node)) node

-- what bounds a node's registers, 64 bits for each
unfoldable pub lean_of : List PlanNode → ℕ → ℕ
lean_of nodes = nodewise (lean_from (shape_of nodes) (figures_of nodes) (form_of nodes)) 0 nodes

-- the bits of keys of so many groups over a body that has so many: over a direct body, for each slot, the key, of this
-- width, whether it is used, and whether its stream is open
abbrev pub keys_of_groups : Form → ℕ → ℕ → ℕ → ℕ
keys_of_groups copied groups body width = groups * body
keys_of_groups rowwise groups body width = groups * body
keys_of_groups (totalling many delay) groups body width = groups * (width + 2)

-- a node's own bits of keys, from those of bodies
abbrev pub own_keys : (ℕ → Shape) → (ℕ → Form) → (ℕ → ℕ) → PlanNode → ℕ
own_keys shapes forms keys (Group source body key groups) =
    keys_of_groups (forms body) groups (keys body) (width_of (kind_of_column (shapes source).kinds key))
own_keys shapes forms keys node = copies_in node * of_body keys node

-- the key bits of a node: those of its children, and those of its own groups
abbrev pub keys_from : (ℕ → Shape) → (ℕ → Form) → (ℕ → ℕ) → PlanNode → ℕ
keys_from shapes forms keys node = sum_over_children keys node + own_keys shapes forms keys node

-- the bits of the keys of all groups over direct bodies in a node
unfoldable pub keys_of : List PlanNode → ℕ → ℕ
keys_of nodes = nodewise (keys_from (shape_of nodes) (form_of nodes)) 0 nodes

-- the ring of the spacer before a body of this gap, where one stands
abbrev pub store_of_spacer : ℕ → Figures → ℕ → ℕ
store_of_spacer gap f lines = if needs_spacer gap f then 64 * lines * ring (f.ne + 1) else 0

-- the memories of so many groups over a body that has so much: over a direct body a state of each aggregate for each
-- slot
abbrev pub store_of_groups : Form → ℕ → ℕ → ℕ
store_of_groups copied groups body = groups * body
store_of_groups rowwise groups body = groups * body
store_of_groups (totalling many delay) groups body = 128 * (many * ring groups)

-- the memories of items of frames over columns of these kinds, where their node has so many lines: the columns and two
-- words of each frame wait in rings for the slowest, and each frame has its state and its rings
abbrev pub store_of_frames : List Kind → ℕ → List PlanFrame → ℕ
store_of_frames kinds lines items =
    64 * (lines + 2 * sum_by frames_in items) * ring (delay_of_frames kinds items)
    + 32 + sum_by (λ item. 128 * frames_in item + 65 * words_of_frame item) items

-- the same by a key, if there is one: each slot has its states and its rings, and the look-up has its memories
abbrev pub store_by_key : List Kind → ℕ → Option PlanKey → List PlanFrame → ℕ
store_by_key kinds lines None items = store_of_frames kinds lines items
store_by_key kinds lines (Some by) items =
    64 * (lines + 2 * sum_by frames_in items) * ring (delay_by_key kinds (Some by) items)
    + ring by.groups * (32 + sum_by (λ item. 128 * frames_in item + 65 * words_of_frame item) items)
    + store_of_look_up (width_of_key kinds by) by.groups

-- a node's own part in memories, from those of bodies
abbrev pub own_store : (ℕ → Shape) → (ℕ → Figures) → (ℕ → Form) → (ℕ → ℕ) → ℕ → PlanNode → ℕ
own_store shapes figures forms stores lines (Union left right) =
    64 * lines * (ring (figures left).ne + ring (figures right).ne)
own_store shapes figures forms stores lines (Group source body key groups) =
    store_of_groups (forms body) groups (stores body)
    + part_of_spacer store_of_spacer shapes figures (Group source body key groups)
own_store shapes figures forms stores lines (Frames child by items) = store_by_key (shapes child).kinds lines by items
own_store shapes figures forms stores lines node =
    copies_in node * of_body stores node + part_of_spacer store_of_spacer shapes figures node

-- the memory bits of a node: those of its children, and its own part over the lines of its wire
abbrev pub store_from : (ℕ → Shape) → (ℕ → Figures) → (ℕ → Form) → (ℕ → ℕ) → PlanNode → ℕ
store_from shapes figures forms stores node =
    sum_over_children stores node + own_store shapes figures forms stores (lines_of (shape_from shapes node)) node

-- the memory bits of a node
unfoldable pub store_of : List PlanNode → ℕ → ℕ
store_of nodes = nodewise (store_from (shape_of nodes) (figures_of nodes) (form_of nodes)) 0 nodes
