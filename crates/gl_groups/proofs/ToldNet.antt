-- What a lane tells, from the lines that it is made of.
use Rattle.std.proofs.Common.{◌≡◌, ℕ, zero, suc, ◌+◌, ◌-◌, ◌*◌, ◌<◌, ◌≤◌, ◌^◌, List, length, Some, Bool, true, false, refl, sym, ap, ◌∙◌, subst, arith}
use Rattle.std.specs.Prelude.{slice_get, slice_index_or, ◌&&◌, ◌||◌, if◌then◌else◌, nat_eq, nat_lt, ◌%◌}
use Rattle.std.proofs.lemmas.Nat.{mod-mul-add}
use Rattle.std.proofs.lemmas.Option.{slice_get-get_or}
use Rattle.gl_bits.specs.Words.{bit, choose_of, cut_of, difference_of, lt_of}
use Rattle.gl_bits.proofs.Wrapping.{cut_low}
use Rattle.gl_net.specs.declared.node.Bit.{Bit}
use Rattle.gl_net.specs.declared.node.Bus.{Bus}
use Rattle.gl_net.specs.Net.{Net, Run, IsBit}
use Rattle.gl_wire.specs.Gates.{same_at}
use Rattle.gl_wire.specs.Wire.{line_at}
use Rattle.gl_wire.proofs.GateLemmas.{choose_line}
use Rattle.gl_wire_lanes.specs.Shares.{slot_of}
use Rattle.gl_wire_registers.specs.Held.{counted_down, held_at}
use Rattle.gl_wire_registers.specs.Lines.{AreBits, line_of}
use Rattle.gl_wire_registers.proofs.LineLemmas.{line_of-get}
use Rattle.gl_groups.specs.declared.lane.Turns.{Turns}
use Rattle.gl_groups.specs.Lanes.{less_at, slot_number}

-- a test of two numbers as a line
pub less_line : (run : Run) (b : Bit) (x y : Bus) → ((t : ℕ) → run.at t b.node ≡ lt_of (run.at t x.node) (run.at t y.node)) → (t : ℕ) → line_at run b t ≡ less_at x y run t
unfolding line_at less_at lt_of
less_line run b x y value zero = refl
less_line run b x y value (suc t) = ap (λ n. nat_eq n 1) (value (suc t)) ∙ by (nat_lt (run.at (suc t) x.node) (run.at (suc t) y.node))
  where
    by : (l : Bool) → nat_eq (bit l) 1 ≡ l
    by true = refl
    by false = refl

-- a difference of numbers that does not wrap
difference_small : (w x y : ℕ) → y ≤ x → x < 2 ^ w → difference_of w x y ≡ x - y
unfolding difference_of
difference_small w x y l m =
    let e : x + (2 ^ w - y) ≡ 1 * 2 ^ w + (x - y) = omega (arith, l, m) in
    ap (λ z. z % 2 ^ w) e ∙ mod-mul-add 1 (2 ^ w) (x - y) (omega (arith, m))

-- the turns that are over
module _ (run : Run) (eos due : Bit) (count width : ℕ) (fits : count < 2 ^ width) (rest slots over : Bus) (wide : slots.width ≡ width)
    (next : (t : ℕ) → held_at count run rest (suc t) ≡ counted_down (count - 1) 0 (line_at run eos t) (line_at run due t) (held_at count run rest t)) (all : (t : ℕ) → held_at 0 run slots (suc t) ≡ count)
    (less : (t : ℕ) → run.at t over.node ≡ difference_of slots.width (run.at t slots.node) (run.at t rest.node)) where
  counted : (e d : Bool) (v : ℕ) → v ≤ count → counted_down (count - 1) 0 e d v ≤ count
  counted true d v l = omega arith
  counted false true v l = by (nat_eq v 0)
    where
      by : (b : Bool) → (if b then 0 else (v - 1)) ≤ count
      by true = omega arith
      by false = omega (arith, l)
  counted false false v l = l

  rest_below : (t : ℕ) → held_at count run rest t ≤ count
  unfolding held_at
  rest_below zero = omega arith
  rest_below (suc t) = subst (λ v. v ≤ count) (sym (next t)) (counted (line_at run eos t) (line_at run due t) (held_at count run rest t) (rest_below t))

  pub over_is : (t : ℕ) → held_at 0 run over t ≡ count - held_at count run rest t
  unfolding held_at
  over_is zero = omega arith
  over_is (suc t) =
      less (suc t) ∙ ap (λ w. difference_of w (run.at (suc t) slots.node) (run.at (suc t) rest.node)) wide ∙ ap (λ n. difference_of width n (run.at (suc t) rest.node)) (all t)
      ∙ difference_small width count (run.at (suc t) rest.node) (rest_below (suc t)) fits

-- the number without its highest bit
pub slot_is : (run : Run) (eos turned : Bit) (u : Turns) (number at told slot : Bus) (width : ℕ) → 1 ≤ width
    → ((t : ℕ) → run.at (suc t) at.node ≡ (if line_at run eos (suc t) then 0 else run.at (suc t) u.over.node))
    → ((t : ℕ) → line_at run turned t ≡ (line_at run eos t || line_at run u.due t))
    → ((t : ℕ) → run.at t told.node ≡ choose_of (run.at t turned.node) (run.at t at.node) (run.at t number.node))
    → ((t : ℕ) → run.at t slot.node ≡ cut_of (width - 1) 0 (run.at t told.node))
    → (t : ℕ) → slot_number run eos u number (suc t) < 2 ^ width → slot_of run slot (suc t) ≡ slot_number run eos u number (suc t)
unfolding held_at
slot_is run eos turned u number at told slot width some is_at is_turned is_told is_slot t fits =
    is_slot (suc t) ∙ cut_low width (run.at (suc t) told.node) some ∙ ap (λ n. n % 2 ^ width) told_is ∙ small (slot_number run eos u number (suc t)) fits
  where
    told_is : run.at (suc t) told.node ≡ slot_number run eos u number (suc t)
    told_is =
        is_told (suc t) ∙ choose_line run turned (run.at (suc t) at.node) (run.at (suc t) number.node) t
        ∙ ap (λ b. if b then run.at (suc t) at.node else run.at (suc t) number.node) (is_turned (suc t))
        ∙ ap (λ n. if line_at run eos (suc t) || line_at run u.due (suc t) then n else run.at (suc t) number.node) (is_at t)

    small : (v : ℕ) → v < 2 ^ width → v % 2 ^ width ≡ v
    small v l = let e : v ≡ 0 * 2 ^ width + v = omega arith in ap (λ z. z % 2 ^ width) e ∙ mod-mul-add 0 (2 ^ width) v l

-- whether two registers carry the same, where a line is 1
pub same_where : (run : Run) (b : Bit) (x y : Bus) (t : ℕ) → (line_at run b t && same_at run x y t) ≡ (line_at run b t && nat_eq (held_at 0 run x t) (held_at 0 run y t))
unfolding line_at held_at
same_where run b x y zero = refl
same_where run b x y (suc t) = refl

-- and where one is less
pub less_where : (run : Run) (b : Bit) (x y : Bus) (t : ℕ) → (line_at run b t && less_at x y run t) ≡ (line_at run b t && nat_lt (held_at 0 run x t) (held_at 0 run y t))
unfolding line_at held_at less_at
less_where run b x y zero = refl
less_where run b x y (suc t) = refl

-- the first of some lines
pub first_there : (xs ys : List Bit) → ys ≡ xs → 1 ≤ length xs → slice_get xs 0 ≡ Some (slice_index_or ys 0 (record { node = 0 }))
first_there xs ys e l = subst (λ (bs : List Bit). slice_get xs 0 ≡ Some (slice_index_or bs 0 (record { node = 0 }))) (sym e) (slice_get-get_or xs 0 (record { node = 0 }) l)

pub first_bit : (net : Net) (xs ys : List Bit) → ys ≡ xs → 1 ≤ length xs → AreBits net xs → IsBit net (slice_index_or ys 0 (record { node = 0 }))
first_bit net xs ys e l h = h.each 0 _ (first_there xs ys e l)

pub first_line : (run : Run) (xs ys : List Bit) → ys ≡ xs → 1 ≤ length xs → (t : ℕ) → line_at run (slice_index_or ys 0 (record { node = 0 })) t ≡ line_of run xs 0 t
first_line run xs ys e l t = sym (line_of-get run xs 0 _ t (first_there xs ys e l))
