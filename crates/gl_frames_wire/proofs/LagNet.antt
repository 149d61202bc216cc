-- A ring and a count give a lag.
use Rattle.std.proofs.Common.{◌≡◌, ℕ, suc, ◌%◌, ◌≤◌, List, Some, None, Bool, true, false, length, refl, sym, ap, ◌∙◌, subst}
use Rattle.std.specs.Prelude.{if◌then◌else◌, nat_eq, nat_le}
use Rattle.gl_bits.specs.Words.{le_of}
use Rattle.gl_bits.proofs.Bools.{bit_is}
use Rattle.gl_net.specs.declared.node.Bus.{Bus}
use Rattle.gl_net.specs.declared.node.Bit.{Bit}
use Rattle.gl_net.specs.Net.{Run}
use Rattle.gl_wire.specs.Wire.{line_at}
use Rattle.gl_wire.proofs.StageLemmas.{line_first}
use Rattle.gl_wire_lanes.specs.Lanes.{first_of}
use Rattle.gl_frames.specs.Frames.{lag_of, number_or}
use Rattle.gl_frames_wire.specs.CountNets.{column_past, streams_by, values_here}
use Rattle.gl_frames_wire.specs.RingNets.{lane_with}
use Rattle.gl_frames_wire.specs.Laws.{GivesLag, TellsNumber}
use Rattle.gl_frames_wire.specs.Rings.{IsRing, wound}
use Rattle.gl_frames_wire.specs.Since.{own_ends}
use Rattle.gl_frames_wire.proofs.ColumnLemmas.{lags_given}
use Rattle.gl_frames_wire.proofs.WindLemmas.{counts_from, counts_wind}

pub many_line : (run : Run) (b : Bit) (n m t : ℕ) → run.at (suc t) b.node ≡ le_of n m → line_at run b (suc t) ≡ nat_le n m
unfolding line_at le_of
many_line run b n m t e = ap (λ k. nat_eq k 1) e ∙ bit_is (nat_le n m)

-- a ring of any column of streams one after another gives its lag, by a count and a place
module _ {B : Type 0} (run : Run) (valid eos : Bit) (place count : Bus) (row given : ℕ → B) (size k : ℕ) (some : 1 ≤ size) (back : 1 ≤ k) (few : k ≤ size)
    (ring : (ends first : ℕ → Bool) → IsRing size k (lane_with run valid (λ c. 0) ends first) row (λ c. run.at c place.node) given)
    (counts : (c : ℕ) → line_at run valid (suc c) ≡ true → run.at (suc c) count.node ≡ wound size (length (column_past run valid eos row (suc c))))
    (place_is : (t : ℕ) → run.at t place.node ≡ run.at t count.node % size) where
  number : (xs : List B) → TellsNumber size (wound size (length xs)) (length xs)
  number xs = subst (λ n. TellsNumber size n (length xs)) (counts_from size some xs) (counts_wind size xs some)

  pub gives : GivesLag size k (own_ends (streams_by run valid eos)) (streams_by run valid eos) row given (λ c. nat_le k (run.at c count.node))
  gives = record {
    place = λ c. run.at c place.node;
    some' = back;
    few = few;
    no_row = line_first run valid;
    ring = ring (line_at run eos) (first_of (line_at run eos));
    places = λ c v. place_is (suc c) ∙ ap (λ n. n % size) (counts c v) ∙ (number (column_past run valid eos row (suc c))).place;
    tells = λ c v. ap (nat_le k) (counts c v) ∙ (number (column_past run valid eos row (suc c))).many k few;
  }

picked : (b : Bool) (x : ℕ) → (if b then x else 0) ≡ number_or (λ y. y) (if b then Some x else None)
picked true x = refl
picked false x = refl

pub lagged : (run : Run) (valid eos : Bit) (count value given out : Bus) (size k : ℕ)
    → GivesLag size k (own_ends (streams_by run valid eos)) (streams_by run valid eos) (λ c. run.at c value.node) (λ c. run.at c given.node) (λ c. nat_le k (run.at c count.node))
    → ((t : ℕ) → run.at (suc t) out.node ≡ (if nat_le k (run.at (suc t) count.node) then run.at (suc t) given.node else 0))
    → (c : ℕ) → line_at run valid (suc c) ≡ true → run.at (suc c) out.node ≡ lag_of (λ x. x) k (values_here run valid eos value (suc c))
lagged run valid eos count value given out size k gives told c v =
    told c ∙ picked (nat_le k (run.at (suc c) count.node)) (run.at (suc c) given.node)
    ∙ sym (ap (number_or (λ y. y)) (lags_given size k (own_ends (streams_by run valid eos)) (streams_by run valid eos) (λ t. run.at t value.node) (λ t. run.at t given.node)
    (λ t. nat_le k (run.at t count.node)) gives c v))
