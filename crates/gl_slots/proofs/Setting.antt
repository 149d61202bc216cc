-- What is given where a front of slots is reasoned about: the machine behind a source, and what the source keeps to in time.
use Rattle.std.proofs.Common.{ℕ, ◌+◌, ◌-◌, ◌*◌, ◌≤◌, arith}
use Rattle.gl_values.specs.Results.{Row}
use Rattle.gl_wire.specs.Wire.{Carried}
use Rattle.gl_wire.specs.Coming.{by_tuples}
use Rattle.gl_wire.specs.Timed.{Timed}
use Rattle.gl_wire.proofs.NumberLemmas.{all_turns}
use Rattle.gl_slots.specs.Keys.{AwaitsTurns}
use Rattle.gl_slots.specs.Slots.{AreSlots}

pub record Setting : Type 0 where
  pub count : ℕ
  pub key : Row → ℕ
  pub stride : ℕ
  -- the gaps that the source keeps to, after anything and after an end, and the gap of a copy after an end
  pub g1 : ℕ
  pub g2 : ℕ
  pub gap_end : ℕ
  pub a : Carried
  pub ins : ℕ → Carried
  pub law : AreSlots count key stride a ins
  pub slots_some : 1 ≤ count
  pub stride_some : 1 ≤ stride
  pub timed : Timed g1 g2 a (by_tuples a)
  pub wide : count * stride + 1 ≤ g2
  pub strides : stride ≤ gap_end
  pub far : (count - 1) * stride + gap_end + 1 ≤ g2

-- behind a source that awaits each flush
abbrev pub awaited : (count : ℕ) (key : Row → ℕ) (stride : ℕ) (a : Carried) (ins : ℕ → Carried) → 1 ≤ count → 1 ≤ stride → AreSlots count key stride a ins → AwaitsTurns count stride a → Setting
awaited count key stride a ins some stride_some law awaits = record {
  count = count;
  key = key;
  stride = stride;
  g1 = 1;
  g2 = count * stride + 1;
  gap_end = stride;
  a = a;
  ins = ins;
  law = law;
  slots_some = some;
  stride_some = stride_some;
  timed = record { apart = λ c d p q l. omega (arith, l); after = λ u d p q l. (awaits d q).over u p l };
  wide = omega arith;
  strides = omega arith;
  far = omega (arith, all_turns count stride some);
}
