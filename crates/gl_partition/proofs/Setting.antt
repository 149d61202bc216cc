-- What is given where a front of windows of each key is reasoned about: the machine behind a source, and what the source keeps to in time.
use Rattle.std.specs.Prelude.{◌≡◌, ℕ, ◌+◌, ◌*◌, ◌<◌, ◌≤◌, true}
use Rattle.gl_wire.specs.Apart.{Carries}
use Rattle.gl_wire.specs.Wire.{Carried}
use Rattle.gl_wire.specs.Coming.{by_tuples}
use Rattle.gl_wire.specs.Timed.{Timed}
use Rattle.gl_partition.specs.Machine.{ArePartitions, Numbers}

-- the copies of all slots, and the cycles of all their turns
abbrev pub all_of_slots : Numbers → ℕ
all_of_slots n = n.slots * n.copies

-- the machine, over at least as many copies as windows of a key can be open at once, and nothing in the flush of an end
pub record Setting : Type 0 where
  pub n : Numbers
  pub a : Carried
  pub ins : ℕ → Carried
  pub law : ArePartitions n a ins
  pub slots_some : 1 ≤ n.slots
  pub copies_some : 1 ≤ n.copies
  pub rows_some : 1 ≤ n.size
  pub step_some : 1 ≤ n.advance
  pub stride_some : 1 ≤ n.stride
  pub cover : n.size ≤ n.copies * n.advance
  pub rested : (u d : ℕ) → a.ends u ≡ true → Carries a d → u < d → u + ((all_of_slots n + 1) * n.stride + 1) ≤ d

-- the gaps that the source keeps to, after anything and after an end, where a copy that has ended can take the next tuple that comes:
-- the gap of a copy after an end
pub record Spacing (front : Setting) : Type 0 where
  pub g1 : ℕ
  pub g2 : ℕ
  pub gap_end : ℕ
  pub timed : Timed g1 g2 front.a (by_tuples front.a)
  pub near : gap_end ≤ g1
  pub strides : front.n.stride ≤ gap_end
  pub far : all_of_slots front.n * front.n.stride + gap_end + 1 ≤ g2
