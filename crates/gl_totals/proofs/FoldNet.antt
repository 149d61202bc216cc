-- What the gates of a fold give.
use Rattle.std.proofs.Common.{◌≡◌, ℕ, suc, ◌^◌, ◌<◌, ◌≤◌, Bool, true, false, refl, ap, ◌∙◌, arith}
use Rattle.std.specs.Prelude.{if◌then◌else◌, nat_eq, not, ◌&&◌}
use Rattle.std.proofs.Math.Nat.{pow-le-pow_right}
use Rattle.gl_bits.specs.Words.{bit}
use Rattle.gl_values.specs.declared.kind.Kind.{Kind}
use Rattle.gl_bits.proofs.Bools.{bit_is}
use Rattle.gl_net.specs.declared.node.Bit.{Bit}
use Rattle.gl_net.specs.Net.{Run}
use Rattle.gl_wire.specs.Wire.{line_at}
use Rattle.gl_totals.specs.Folds.{better, is_better}
use Rattle.gl_totals.specs.declared.fold.Extreme.{Extreme}
use Rattle.gl_totals.specs.declared.fold.Extreme.TheVariants.{Least, Greatest}

-- 0 and 1 are words of every width
pub small_fits : (n width : ℕ) → n < 2 → 1 ≤ width → n < 2 ^ width
small_fits n width lt some = let wider : 2 ^ 1 ≤ 2 ^ width = pow-le-pow_right {n = 2} (omega arith) some in omega (arith, wider)

-- a bit, as a line
pub bit_line : (run : Run) (line : Bit) (t : ℕ) (b : Bool) → run.at (suc t) line.node ≡ bit b → line_at run line (suc t) ≡ b
unfolding line_at
bit_line run line t b e = ap (λ (n : ℕ). nat_eq n 1) e ∙ bit_is b

pub better_is : (extreme : Extreme) (kind : Kind) (state x : ℕ) → (if is_better extreme kind state x then x else state) ≡ better extreme kind state x
better_is Least kind state x = refl
better_is Greatest kind state x = refl

same_choice : (b : Bool) (x : ℕ) → (if b then x else x) ≡ x
same_choice true x = refl
same_choice false x = refl

-- the better where the state counts, and else the value, with the comparison as the last choice
pub best_is : (row counts : Bool) (extreme : Extreme) (kind : Kind) (state x : ℕ)
    → (if is_better extreme kind state x then (if row then x else state) else (if row && not counts then x else state))
    ≡ (if row then (if counts then better extreme kind state x else x) else state)
best_is true true extreme kind state x = better_is extreme kind state x
best_is true false extreme kind state x = same_choice (is_better extreme kind state x) x
best_is false counts extreme kind state x = same_choice (is_better extreme kind state x) state

-- a line that carries 0
pub low_line : (run : Run) (line : Bit) (t : ℕ) → run.at (suc t) line.node ≡ 0 → line_at run line (suc t) ≡ false
unfolding line_at
low_line run line t e = ap (λ (n : ℕ). nat_eq n 1) e
