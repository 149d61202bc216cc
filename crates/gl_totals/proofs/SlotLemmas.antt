-- What a memory of states carries: each slot's word, read a cycle ahead past what is written at once, is a state that is kept.
use Rattle.std.proofs.Common.{◌≡◌, ℕ, zero, suc, Bool, true, false, refl, sym, ap, ◌∙◌}
use Rattle.std.specs.Prelude.{◌&&◌, if◌then◌else◌, nat_eq}
use Rattle.gl_net.specs.declared.node.Bus.{Bus}
use Rattle.gl_net.specs.declared.node.Bit.{Bit}
use Rattle.gl_net.specs.Net.{Run, stored_of}
use Rattle.gl_totals.specs.Folds.{IsFolded, next_of}
use Rattle.gl_totals.specs.Open.{IsLed, in_memory, lane_by}
use Rattle.gl_totals.specs.Slots.{IsPast, writes_at}
use Rattle.gl_totals.specs.declared.fold.Step.{Step}
use Rattle.gl_totals.specs.declared.rows.Keep.TheVariants.{Slots}
use Rattle.gl_wire.specs.Gates.{same_at}
use Rattle.gl_wire.specs.Wire.{line_at}
use Rattle.gl_wire_lanes.proofs.FoldLemmas.{ahead_is_kept}
use Rattle.gl_wire_lanes.specs.Memories.{IsHeld}

-- what is stored where a line is 1
stored_line : (run : Run) (write : Bit) (address value k word t : ℕ) (w : Bool) → line_at run write (suc t) ≡ w
    → stored_of (run.at (suc t) write.node) address value k word ≡ (if nat_eq address k && w then value else word)
unfolding stored_of line_at
stored_line run write address value k word t w is = by (nat_eq (run.at (suc t) write.node) 1) (nat_eq address k) w is
  where
    by : (b s w : Bool) → b ≡ w → (if b && s then value else word) ≡ (if s && w then value else word)
    by true true true p = refl
    by true false true p = refl
    by false true false p = refl
    by false false false p = refl
    by true s false p = absurd (cc)
    by false s true p = absurd (cc)

module _ (run : Run) (valid first : Bit) (slot next now : Bus) where
  -- what passes a memory
  pub past_is : (write meets passes : Bit) (read out : Bus) → IsHeld run write slot next now read
      → ((t : ℕ) → line_at run write t ≡ writes_at run valid first t) → ((t : ℕ) → line_at run meets t ≡ same_at run slot next t)
      → ((t : ℕ) → line_at run passes t ≡ (line_at run meets t && line_at run write t))
      → ((t : ℕ) → run.at (suc t) out.node ≡ (if line_at run passes (suc t) then run.at (suc t) now.node else run.at (suc t) read.node))
      → IsPast run valid first slot next now out
  past_is write meets passes read out held writes same_slot both choice = record {
    word = held.word;
    leaves = λ t k. held.writes (suc t) k ∙ stored_line run write (run.at (suc t) slot.node) (run.at (suc t) now.node) k (held.word (suc t) k) t _ (writes (suc t));
    reads = λ t.
        choice t
        ∙ ap (λ (b : Bool). if b then run.at (suc t) now.node else run.at (suc t) read.node)
        (both (suc t) ∙ ap (λ (b : Bool). b && line_at run write (suc t)) (same_slot (suc t)) ∙ ap (λ (b : Bool). same_at run slot next (suc t) && b) (writes (suc t)))
        ∙ ap (λ (n : ℕ). if same_at run slot next (suc t) && writes_at run valid first (suc t) then run.at (suc t) now.node else n) (held.reads (suc t));
  }

  -- the fold behind a register, which carries the word of its cycle's slot, or the first state where its stream begins
  pub slots_folded : (width initial : ℕ) (step : Step) (eos begins : Bit) (word out : Bus) → IsPast run valid first slot next now out
      → ((t : ℕ) → run.at (suc t) now.node ≡ (if line_at run valid (suc t) then next_of step run width (suc t) (run.at (suc t) word.node) else run.at (suc t) word.node))
      → ((t : ℕ) → run.at (suc (suc t)) word.node ≡ (if line_at run begins (suc t) then initial else run.at (suc t) out.node)) → IsLed run valid (Slots first begins slot next)
      → IsFolded run width initial step (in_memory valid eos first begins slot next) word now
  unfolding line_at
  slots_folded width initial step eos begins word out h with_row later led = record {
    kept = ahead_is_kept initial (lane_by run (in_memory valid eos first begins slot next)) (λ t. run.at t word.node) (λ t. run.at t now.node)
        (record {
          word = h.word;
          ahead = ahead;
          begins = cleared;
          takes = taken;
          leaves = h.leaves;
          reads = λ t.
              h.reads t
              ∙ ap (λ (n : ℕ). if nat_eq (run.at (suc t) slot.node) n && writes_at run valid first (suc t) then run.at (suc t) now.node else h.word (suc t) n) (sym (led.1 t));
        });
    with_row = with_row;
  }
    where
      -- the word before it is cleared
      ahead : ℕ → ℕ
      ahead zero = run.at 0 word.node
      ahead (suc zero) = run.at 1 word.node
      ahead (suc (suc t)) = run.at (suc t) out.node

      cleared : (t : ℕ) → line_at run first (suc t) ≡ true → run.at (suc t) word.node ≡ initial
      cleared zero p = absurd (let z = led.2 0 in cc (z, p))
      cleared (suc t) p = later t ∙ ap (λ (b : Bool). if b then initial else run.at (suc t) out.node) (sym (led.2 (suc t)) ∙ p)

      taken : (t : ℕ) → line_at run first (suc t) ≡ false → run.at (suc t) word.node ≡ ahead (suc t)
      taken zero p = refl
      taken (suc t) p = later t ∙ ap (λ (b : Bool). if b then initial else run.at (suc t) out.node) (sym (led.2 (suc t)) ∙ p)
