-- What is given where a front of windows is reasoned about: the machine behind a source, and what the source keeps to in time.
use Rattle.std.specs.Prelude.{◌≡◌, ℕ, ◌+◌, ◌-◌, ◌*◌, ◌<◌, ◌≤◌, true}
use Rattle.gl_wire.specs.Apart.{Carries}
use Rattle.gl_wire.specs.Wire.{Carried}
use Rattle.gl_wire.specs.Coming.{by_tuples}
use Rattle.gl_wire.specs.Timed.{Timed}
use Rattle.gl_windows.specs.Front.{IsFront}

-- the machine, over at least as many copies as windows can be open at once, and nothing in the flush of an end
pub record Setting : Type 0 where
  pub size : ℕ
  pub advance : ℕ
  pub count : ℕ
  pub most : ℕ
  pub stride : ℕ
  pub a : Carried
  pub ins : ℕ → Carried
  pub law : IsFront size advance count stride a ins
  pub rows_some : 1 ≤ size
  pub step_some : 1 ≤ advance
  pub copies_some : 1 ≤ count
  pub most_some : 1 ≤ most
  pub stride_some : 1 ≤ stride
  pub enough : most ≤ count
  pub cover : size ≤ most * advance
  pub rested : (u d : ℕ) → a.ends u ≡ true → Carries a d → u < d → u + (most * stride + 1) ≤ d

-- the gaps that the source keeps to, after anything and after an end, where a copy that has ended can take the next tuple that comes:
-- the gap of a copy after an end
pub record Spacing (front : Setting) : Type 0 where
  pub g1 : ℕ
  pub g2 : ℕ
  pub gap_end : ℕ
  pub timed : Timed g1 g2 front.a (by_tuples front.a)
  pub near : gap_end ≤ g1
  pub strides : front.stride ≤ gap_end
  pub far : (front.most - 1) * front.stride + gap_end + 1 ≤ g2
