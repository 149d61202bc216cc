-- What the gates of one digit give.
use Rattle.std.proofs.Common.{◌≡◌, ℕ, zero, suc, ◌+◌, ◌-◌, ◌*◌, ◌%◌, ◌^◌, ◌<◌, ◌≤◌, Some, Bool, refl, sym, ap, ◌∙◌, arith}
use Rattle.std.specs.Prelude.{nat_eq, nat_le, not, ◌||◌, if◌then◌else◌}
use Rattle.gl_bits.specs.Words.{bit, choose_of, cut_of, difference_of, join_of, le_of, not_of}
use Rattle.gl_bits.proofs.Bools.{bit_is}
use Rattle.gl_net.specs.declared.node.Bus.{Bus}
use Rattle.gl_net.specs.declared.node.Bit.{Bit}
use Rattle.gl_net.specs.Net.{Net, Run, IsRun, IsBit, IsBus, Value, shape_in}
use Rattle.gl_net.proofs.Values.{bit_fits}
use Rattle.gl_wire.specs.Wire.{line_at}
use Rattle.gl_wire.proofs.GateLemmas.{choose_line}
use Rattle.gl_divide.specs.Division.{fits, highest, left, with_bit}
use Rattle.gl_divide.proofs.BitLemmas.{with_bit_more, with_bit_one}
use Rattle.gl_divide.proofs.RestLemmas.{IsLong, IsShort, is_short}

bit_value : (x : ℕ) → x < 2 → x ≡ bit (nat_eq x 1)
bit_value zero lt = refl
bit_value (suc zero) lt = refl
bit_value (suc (suc x)) lt = absurd (omega arith)

-- a line's number
pub line_value : (net : Net) (run : Run) (b : Bit) → IsBit net b → IsRun net run → (t : ℕ) → run.at (suc t) b.node ≡ bit (line_at run b (suc t))
unfolding line_at
line_value net run b is r t = bit_value (run.at (suc t) b.node) (bit_fits net b run is r (suc t))

module _ (run : Run) (out : Bit) where
  pub highest_line : (bus : Bus) → ((t : ℕ) → run.at t out.node ≡ cut_of (bus.width - 1) (bus.width - 1) (run.at t bus.node)) → (t : ℕ)
      → line_at run out (suc t) ≡ highest bus.width (run.at (suc t) bus.node)
  unfolding line_at highest
  highest_line bus value t = ap (λ n. nat_eq n 1) (value (suc t))

  pub at_most_line : (less more : Bus) → ((t : ℕ) → run.at t out.node ≡ le_of (run.at t less.node) (run.at t more.node)) → (t : ℕ)
      → line_at run out (suc t) ≡ nat_le (run.at (suc t) less.node) (run.at (suc t) more.node)
  unfolding line_at le_of
  at_most_line less more value t = ap (λ n. nat_eq n 1) (value (suc t)) ∙ bit_is (nat_le (run.at (suc t) less.node) (run.at (suc t) more.node))

module _ (net : Net) (run : Run) (r : IsRun net run) (bus out : Bus) (low : Bit) (is : IsBit net low) where
  pub shifted_one : bus.width ≡ 1 → ((t : ℕ) → run.at t out.node ≡ run.at t low.node) → (t : ℕ)
      → run.at (suc t) out.node ≡ with_bit bus.width (run.at (suc t) bus.node) (line_at run low (suc t))
  shifted_one one value t =
      let b = line_at run low (suc t) in
      value (suc t) ∙ line_value net run low is r t ∙ sym (with_bit_one (run.at (suc t) bus.node) b)
      ∙ sym (ap (λ (w : ℕ). with_bit w (run.at (suc t) bus.node) b) one)

  pub shifted_more : 2 ≤ bus.width → ((t : ℕ) → run.at t out.node ≡ join_of 1 (cut_of (bus.width - 2) 0 (run.at t bus.node)) (run.at t low.node)) → (t : ℕ)
      → run.at (suc t) out.node ≡ with_bit bus.width (run.at (suc t) bus.node) (line_at run low (suc t))
  shifted_more some value t =
      value (suc t) ∙ ap (λ (n : ℕ). join_of 1 (cut_of (bus.width - 2) 0 (run.at (suc t) bus.node)) n) (line_value net run low is r t)
      ∙ with_bit_more bus.width (run.at (suc t) bus.node) (line_at run low (suc t)) some

-- a line that is 0 where another is 1
not_bits : (x : ℕ) → x < 2 → nat_eq (not_of 1 x) 1 ≡ not (nat_eq x 1)
unfolding not_of
not_bits zero lt = refl
not_bits (suc zero) lt = refl
not_bits (suc (suc x)) lt = absurd (omega arith)

pub turned_line : (net : Net) (run : Run) (line out : Bit) → IsBit net line → IsRun net run → ((t : ℕ) → run.at t out.node ≡ not_of 1 (run.at t line.node)) → (t : ℕ)
    → line_at run out (suc t) ≡ not (line_at run line (suc t))
unfolding line_at
turned_line net run line out is r value t = ap (λ n. nat_eq n 1) (value (suc t)) ∙ not_bits (run.at (suc t) line.node) (bit_fits net line run is r (suc t))

-- what a bus carries with a line behind it
pub joined_value : (net : Net) (run : Run) (bus out : Bus) (low : Bit) → IsBit net low → IsRun net run
    → ((t : ℕ) → run.at t out.node ≡ join_of 1 (run.at t bus.node) (run.at t low.node)) → (t : ℕ)
    → run.at (suc t) out.node ≡ 2 * run.at (suc t) bus.node + bit (line_at run low (suc t))
unfolding join_of
joined_value net run bus out low is r value t = value (suc t) ∙ omega (arith, line_value net run low is r t)

-- ---- the digit and what is left, in a cycle in which less than the bottom was left before

module _ (run : Run) (rest bottom more less out : Bus) (next over enough fit : Bit) (t : ℕ) (is : IsLong rest.width (run.at (suc t) rest.node) (run.at (suc t) bottom.node) (line_at run next (suc t)))
    (is_over : line_at run over (suc t) ≡ highest rest.width (run.at (suc t) rest.node))
    (is_more : run.at (suc t) more.node ≡ with_bit rest.width (run.at (suc t) rest.node) (line_at run next (suc t)))
    (is_enough : line_at run enough (suc t) ≡ nat_le (run.at (suc t) bottom.node) (run.at (suc t) more.node))
    (is_fit : line_at run fit (suc t) ≡ (line_at run over (suc t) || line_at run enough (suc t))) where
  pub long_line : line_at run fit (suc t) ≡ fits (run.at (suc t) rest.node) (run.at (suc t) bottom.node) (line_at run next (suc t))
  long_line =
      is_fit ∙ ap (λ (b : Bool). b || line_at run enough (suc t)) is_over
      ∙ ap (λ (b : Bool). highest rest.width (run.at (suc t) rest.node) || b) (is_enough ∙ ap (nat_le (run.at (suc t) bottom.node)) is_more) ∙ is.digit

  pub long_left : run.at (suc t) less.node ≡ difference_of rest.width (run.at (suc t) more.node) (run.at (suc t) bottom.node)
      → run.at (suc t) out.node ≡ choose_of (run.at (suc t) fit.node) (run.at (suc t) less.node) (run.at (suc t) more.node)
      → run.at (suc t) out.node ≡ left (run.at (suc t) rest.node) (run.at (suc t) bottom.node) (line_at run next (suc t))
  long_left is_less is_out =
      is_out ∙ choose_line run fit (run.at (suc t) less.node) (run.at (suc t) more.node) t
      ∙ ap (λ (b : Bool). if b then run.at (suc t) less.node else run.at (suc t) more.node) long_line ∙ rw (is_less, is_more) is.kept

module _ (run : Run) (w : ℕ) (rest bottom more less kept out : Bus) (next under fit : Bit) (t : ℕ) (lt : run.at (suc t) rest.node < run.at (suc t) bottom.node)
    (bottom_fits : run.at (suc t) bottom.node < 2 ^ w)
    (is_more : run.at (suc t) more.node ≡ 2 * run.at (suc t) rest.node + bit (line_at run next (suc t)))
    (is_less : run.at (suc t) less.node ≡ difference_of (w + 1) (run.at (suc t) more.node) (run.at (suc t) bottom.node))
    (is_under : line_at run under (suc t) ≡ highest (w + 1) (run.at (suc t) less.node)) where
  is : IsShort w (run.at (suc t) rest.node) (run.at (suc t) bottom.node) (line_at run next (suc t))
      (difference_of (w + 1) (2 * run.at (suc t) rest.node + bit (line_at run next (suc t))) (run.at (suc t) bottom.node))
  is = is_short w (run.at (suc t) rest.node) (run.at (suc t) bottom.node) (line_at run next (suc t)) lt bottom_fits

  by_less : run.at (suc t) less.node ≡ difference_of (w + 1) (2 * run.at (suc t) rest.node + bit (line_at run next (suc t))) (run.at (suc t) bottom.node)
  by_less = is_less ∙ ap (λ (n : ℕ). difference_of (w + 1) n (run.at (suc t) bottom.node)) is_more

  pub short_line : line_at run fit (suc t) ≡ not (line_at run under (suc t)) → line_at run fit (suc t) ≡ fits (run.at (suc t) rest.node) (run.at (suc t) bottom.node) (line_at run next (suc t))
  short_line is_fit = is_fit ∙ ap not is_under ∙ ap (λ (n : ℕ). not (highest (w + 1) n)) by_less ∙ is.under

  pub short_left : run.at (suc t) kept.node ≡ choose_of (run.at (suc t) under.node) (run.at (suc t) more.node) (run.at (suc t) less.node)
      → run.at (suc t) out.node ≡ run.at (suc t) kept.node % 2 ^ w
      → run.at (suc t) out.node ≡ left (run.at (suc t) rest.node) (run.at (suc t) bottom.node) (line_at run next (suc t))
  short_left is_kept is_out =
      is_out ∙ ap (λ (n : ℕ). n % 2 ^ w) (is_kept ∙ choose_line run under (run.at (suc t) more.node) (run.at (suc t) less.node) t
      ∙ ap (λ (b : Bool). if b then run.at (suc t) more.node else run.at (suc t) less.node) is_under
      ∙ ap (λ (n : ℕ). if highest (w + 1) (run.at (suc t) less.node) then n else run.at (suc t) less.node) is_more
      ∙ ap (λ (n : ℕ). if highest (w + 1) n then 2 * run.at (suc t) rest.node + bit (line_at run next (suc t)) else n) by_less) ∙ is.kept

-- a line, as a bus of one bit
pub bus_of : (net : Net) (line : Bit) (b : Bus) → IsBit net line → b.node ≡ line.node → b.width ≡ 1 → IsBus net b
bus_of net line b is node width = record {
  there = ap (shape_in net.nodes) node ∙ is.there ∙ sym (ap (λ (w : ℕ). Some (Value w)) width);
  width = record { some' = omega (arith, width); most = omega (arith, width) };
}
