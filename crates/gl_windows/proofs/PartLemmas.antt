-- The parts of a front, from the lines that they are made of.
use Rattle.std.proofs.Common.{◌≡◌, ℕ, suc, ◌-◌, Bool, not, ◌&&◌, ◌||◌, ap, ◌∙◌, subst}
use Rattle.std.specs.Prelude.{nat_eq}
use Rattle.gl_net.specs.declared.node.Bus.{Bus}
use Rattle.gl_net.specs.declared.node.Bit.{Bit}
use Rattle.gl_net.specs.Net.{Run}
use Rattle.gl_wire.specs.Wire.{line_at}
use Rattle.gl_wire_registers.specs.Held.{held_at, counted_down}
use Rattle.gl_windows.specs.Parts.{IsTail, IsTrigger}

pub left_is : (run : Run) (unit eos due : Bit) (size advance rows again : ℕ) (left : Bus) (last may trigger : Bit) → rows ≡ size - 1 → again ≡ advance - 1
    → ((t : ℕ) → held_at rows run left (suc t) ≡ counted_down rows again (line_at run eos t) (line_at run unit t) (held_at rows run left t))
    → ((reset t : ℕ) → line_at run last t ≡ (line_at run unit t && nat_eq (held_at reset run left t) 0))
    → ((t : ℕ) → line_at run may t ≡ (line_at run last t || line_at run due t)) → ((t : ℕ) → line_at run trigger t ≡ (line_at run eos t || line_at run may t))
    → IsTrigger run unit eos due size advance (record { left = left; last = last; trigger = trigger })
left_is run unit eos due size advance rows again left last may trigger is_rows is_again next is_last is_may is_trigger = record {
  next = subst (λ (m : ℕ). (t : ℕ) → held_at (size - 1) run left (suc t) ≡ counted_down (size - 1) m (line_at run eos t) (line_at run unit t) (held_at (size - 1) run left t)) is_again
      (subst (λ (n : ℕ). (t : ℕ) → held_at n run left (suc t) ≡ counted_down n again (line_at run eos t) (line_at run unit t) (held_at n run left t)) is_rows next);
  last = is_last (size - 1);
  trigger = λ t. is_trigger t ∙ ap (λ (b : Bool). line_at run eos t || b) (is_may t) ∙ ap (λ (b : Bool). line_at run eos t || (b || line_at run due t)) (is_last (size - 1) t);
}

pub tail_is : (run : Run) (valid eos idle with_end held resting later tail : Bit) → ((t : ℕ) → line_at run with_end t ≡ (line_at run eos t && line_at run valid t))
    → ((t : ℕ) → line_at run held (suc t) ≡ (line_at run with_end t || (line_at run held t && not (line_at run eos t)))) → ((t : ℕ) → line_at run resting t ≡ (line_at run idle t && line_at run held t))
    → ((t : ℕ) → line_at run later t ≡ (line_at run resting t && not (line_at run eos t))) → ((t : ℕ) → line_at run tail t ≡ (line_at run with_end t || line_at run later t))
    → IsTail run valid eos idle (record { held = held; tail = tail })
tail_is run valid eos idle with_end held resting later tail is_with is_held is_resting is_later is_tail = record {
  next = λ t. is_held t ∙ ap (λ (b : Bool). b || (line_at run held t && not (line_at run eos t))) (is_with t);
  tail = λ t. is_tail t ∙ ap (λ (b : Bool). b || line_at run later t) (is_with t)
      ∙ ap (λ (b : Bool). (line_at run eos t && line_at run valid t) || b) (is_later t ∙ ap (λ (b : Bool). b && not (line_at run eos t)) (is_resting t));
}
