-- The parts of a front, from the lines that they are made of; and the numbers of a plan's node.
use Rattle.std.proofs.Common.{◌≡◌, ℕ, suc, ◌-◌, Bool, ◌&&◌, ◌||◌, ap, ◌∙◌, subst, arith}
use Rattle.std.specs.Prelude.{nat_eq}
use Rattle.std.proofs.lemmas.Grind.{div_ceil_times}
use Rattle.gl_net.specs.declared.node.Bus.{Bus}
use Rattle.gl_net.specs.declared.node.Bit.{Bit}
use Rattle.gl_net.specs.Net.{Run}
use Rattle.gl_wire.specs.Wire.{line_at}
use Rattle.gl_wire_registers.specs.Held.{held_at, counted_down}
use Rattle.gl_algebra.proofs.FigureLemmas.{one_copy}
use Rattle.gl_partition.specs.Laws.{PartitionsPartition}
use Rattle.gl_partition.specs.Parts.{IsFilled, IsTurns}

pub filled_is : (run : Run) (valid eos due : Bit) (size advance rows again : ℕ) (left : Bus) (last trigger : Bit) → rows ≡ size - 1 → again ≡ advance - 1
    → ((t : ℕ) → held_at rows run left (suc t) ≡ counted_down rows again (line_at run eos t) (line_at run valid t) (held_at rows run left t))
    → ((reset t : ℕ) → line_at run last t ≡ (line_at run valid t && nat_eq (held_at reset run left t) 0))
    → ((t : ℕ) → line_at run trigger t ≡ (line_at run last t || line_at run due t))
    → IsFilled run valid eos due size advance (record { left = left; trigger = trigger })
filled_is run valid eos due size advance rows again left last trigger is_rows is_again next is_last is_trigger = record {
  next = subst (λ (m : ℕ). (t : ℕ) → held_at (size - 1) run left (suc t) ≡ counted_down (size - 1) m (line_at run eos t) (line_at run valid t) (held_at (size - 1) run left t)) is_again
      (subst (λ (n : ℕ). (t : ℕ) → held_at n run left (suc t) ≡ counted_down n again (line_at run eos t) (line_at run valid t) (held_at n run left t)) is_rows next);
  trigger = λ t. is_trigger t ∙ ap (λ (b : Bool). b || line_at run due t) (is_last (size - 1) t);
}

pub turns_is : (run : Run) (eos due : Bit) (slots copies all others : ℕ) (within rest : Bus) (last : Bit) → all ≡ slots → others ≡ copies - 1
    → ((t : ℕ) → held_at others run within (suc t) ≡ counted_down others others (line_at run eos t) (line_at run due t) (held_at others run within t))
    → ((reset t : ℕ) → line_at run last t ≡ (line_at run due t && nat_eq (held_at reset run within t) 0))
    → ((t : ℕ) → held_at all run rest (suc t) ≡ counted_down all 0 (line_at run eos t) (line_at run last t) (held_at all run rest t))
    → IsTurns run eos due slots copies (record { within = within; rest = rest })
turns_is run eos due slots copies all others within rest last is_all is_others next_within is_last next_rest = record {
  next_within = subst (λ (n : ℕ). (t : ℕ) → held_at n run within (suc t) ≡ counted_down n n (line_at run eos t) (line_at run due t) (held_at n run within t)) is_others next_within;
  next_rest = λ t.
      subst (λ (n : ℕ). held_at n run rest (suc t) ≡ counted_down n 0 (line_at run eos t) (line_at run last t) (held_at n run rest t)) is_all (next_rest t)
      ∙ ap (λ (b : Bool). counted_down slots 0 (line_at run eos t) b (held_at slots run rest t)) (is_last (copies - 1) t);
}

pub partitions_partition : PartitionsPartition
partitions_partition key groups size advance f body some rows step sound closing small = record {
  some_slot = some;
  some_copy = one_copy size advance rows step;
  rows = rows;
  step = step;
  cover = (div_ceil_times size advance step).0;
  sound = sound;
  closing = closing;
  timed = omega (arith, small.le);
}
