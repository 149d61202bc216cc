-- How many slots are used, in a register of so many bits.
use Rattle.std.proofs.Common.{◌≡◌, ℕ, zero, suc, ◌+◌, ◌<◌, ◌^◌, Bool, true, false, refl, ap, ◌∙◌, arith}
use Rattle.std.specs.Prelude.{if◌then◌else◌, ◌*◌, ◌%◌}
use Rattle.std.proofs.lemmas.Nat.{mod-mul-add}
use Rattle.gl_bits.specs.Words.{choose_of, sum_of}
use Rattle.gl_net.specs.declared.node.Bit.{Bit}
use Rattle.gl_net.specs.declared.node.Bus.{Bus}
use Rattle.gl_net.specs.Net.{Run}
use Rattle.gl_wire.specs.Wire.{line_at}
use Rattle.gl_wire.proofs.GateLemmas.{choose_line}
use Rattle.gl_wire_registers.specs.Held.{held_at}

pub base_at : (run : Run) (free : Bit) (many base : Bus) → ((t : ℕ) → run.at (suc t) base.node ≡ (if line_at run free (suc t) then 0 else run.at (suc t) many.node))
    → (t : ℕ) → held_at 0 run base t ≡ (if line_at run free t then 0 else held_at 0 run many t)
unfolding held_at line_at
base_at run free many base value zero = refl
base_at run free many base value (suc t) = value t

sum_small : (w x y : ℕ) → x + y < 2 ^ w → sum_of w x y ≡ x + y
unfolding sum_of
sum_small w x y l = let e : x + y ≡ 0 * 2 ^ w + (x + y) = omega arith in ap (λ z. z % 2 ^ w) e ∙ mod-mul-add 0 (2 ^ w) (x + y) l

pub many_at : (run : Run) (free new : Bit) (many base more next : Bus) (w : ℕ) → run.at 1 many.node ≡ 0 → base.width ≡ w
    → ((t : ℕ) → run.at (suc t) base.node ≡ (if line_at run free (suc t) then 0 else run.at (suc t) many.node))
    → ((t : ℕ) → run.at t more.node ≡ sum_of base.width (run.at t base.node) 1)
    → ((t : ℕ) → run.at t next.node ≡ choose_of (run.at t new.node) (run.at t more.node) (run.at t base.node))
    → ((t : ℕ) → run.at (suc (suc t)) many.node ≡ run.at (suc t) next.node)
    → (t : ℕ) → (line_at run new t ≡ true → held_at 0 run base t + 1 < 2 ^ w)
    → held_at 0 run many (suc t) ≡ (if line_at run new t then held_at 0 run base t + 1 else held_at 0 run base t)
unfolding held_at line_at
many_at run free new many base more next w first wide is_base is_more is_next drive zero fits = first
many_at run free new many base more next w first wide is_base is_more is_next drive (suc t) fits =
    drive t ∙ is_next (suc t) ∙ choose_line run new (run.at (suc t) more.node) (run.at (suc t) base.node) t ∙ by (line_at run new (suc t)) fits
  where
    by : (b : Bool) → (b ≡ true → run.at (suc t) base.node + 1 < 2 ^ w) → (if b then run.at (suc t) more.node else run.at (suc t) base.node) ≡ (if b then run.at (suc t) base.node + 1 else run.at (suc t) base.node)
    by true l = is_more (suc t) ∙ ap (λ (i : ℕ). sum_of i (run.at (suc t) base.node) 1) wide ∙ sum_small w (run.at (suc t) base.node) 1 (l refl)
    by false l = refl

-- which number is told
pub number_at : (run : Run) (one moved : Bit) (met home base there number : Bus)
    → ((t : ℕ) → run.at t there.node ≡ choose_of (run.at t moved.node) (run.at t met.node) (run.at t home.node))
    → ((t : ℕ) → run.at t number.node ≡ choose_of (run.at t one.node) (run.at t there.node) (run.at t base.node))
    → (t : ℕ) → held_at 0 run number (suc t) ≡ (if line_at run one (suc t) then (if line_at run moved (suc t) then held_at 0 run met (suc t) else held_at 0 run home (suc t)) else held_at 0 run base (suc t))
unfolding held_at
number_at run one moved met home base there number is_there is_number t =
    is_number (suc t) ∙ choose_line run one (run.at (suc t) there.node) (run.at (suc t) base.node) t
    ∙ ap (λ n. if line_at run one (suc t) then n else run.at (suc t) base.node) (is_there (suc t) ∙ choose_line run moved (run.at (suc t) met.node) (run.at (suc t) home.node) t)

pub home_at : (run : Run) (home number : Bus) → ((t : ℕ) → run.at (suc (suc t)) home.node ≡ run.at (suc t) number.node) → (t : ℕ) → held_at 0 run home (suc (suc t)) ≡ held_at 0 run number (suc t)
unfolding held_at
home_at run home number drive t = drive t
