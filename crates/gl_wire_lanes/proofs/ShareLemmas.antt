-- The rows of a slot in a lane are those of its share, and of streams one after another those of the wire.
use Rattle.std.proofs.Common.{◌≡◌, ℕ, zero, suc, List, [], ◌∷◌, ◌++◌, Option, Some, None, Bool, true, false, refl, sym, ap, ◌∙◌, eq-eqb}
use Rattle.std.specs.Prelude.{◌&&◌, if◌then◌else◌, nat_eq, option_to_list}
use Rattle.gl_values.specs.Results.{Row}
use Rattle.gl_net.specs.declared.node.Bus.{Bus}
use Rattle.gl_net.specs.declared.node.Bit.{Bit}
use Rattle.gl_net.specs.Net.{Run}
use Rattle.gl_wire.specs.declared.wire.Wire.{Wire}
use Rattle.gl_wire.specs.Wire.{carried, line_at, pending, row_at, stream, tuple_at}
use Rattle.std.proofs.lemmas.List.{append-nil}
use Rattle.gl_wire_lanes.specs.Lanes.{Lane, row_in, rows_before, rows_now, single}
use Rattle.gl_wire_lanes.specs.Laws.{SharesAreStreams, SinglesAreStreams}
use Rattle.gl_wire_lanes.specs.Shares.{lane_of, rows_of, share, slot_of}

one_in : (b : Bool) (r : Row) → (if b then r ∷ [] else []) ≡ option_to_list (if b then Some r else None)
one_in true r = refl
one_in false r = refl

module _ (run : Run) (w : Wire) (slot : Bus) (first : Bit) where
  in_row : (c : ℕ) → row_in (lane_of run w slot first) (rows_of run w) c ≡ option_to_list (tuple_at run w.valid w.columns c)
  unfolding tuple_at
  in_row c = one_in (line_at run w.valid c) (row_at run c w.columns)

  pub rows_share : (k c : ℕ) → rows_before (lane_of run w slot first) (rows_of run w) k c ≡ pending (share (slot_of run slot) k (carried run w)) c
  rows_share k zero = refl
  rows_share k (suc c) =
      by (nat_eq (slot_of run slot c) k) (line_at run w.eos c) (rows_before (lane_of run w slot first) (rows_of run w) k c) (pending (share (slot_of run slot) k (carried run w)) c)
      (row_in (lane_of run w slot first) (rows_of run w) c) (tuple_at run w.valid w.columns c) (rows_share k c) (in_row c)
    where
      by : (s e : Bool) (xs ys own : List Row) (o : Option Row) → xs ≡ ys → own ≡ option_to_list o
          → (if s then (if e then [] else xs ++ own) else xs) ≡ (if s && e then [] else ys ++ option_to_list (if s then o else None))
      by true true xs ys own o p q = refl
      by true false xs ys own o p q = ap (λ l. l ++ own) p ∙ ap (λ l. ys ++ l) q
      by false e xs ys own o p q = p ∙ sym (append-nil ys)

  -- the stream of the slot whose cycle it is
  pub stream_share : (c : ℕ) → rows_now (lane_of run w slot first) (rows_of run w) c ≡ stream (share (slot_of run slot) (slot_of run slot c) (carried run w)) c
  stream_share c =
      let k = slot_of run slot c in
      let own = eq-eqb k k refl in
      ap (λ l. l ++ row_in (lane_of run w slot first) (rows_of run w) c) (rows_share k c)
      ∙ ap (λ l. pending (share (slot_of run slot) k (carried run w)) c ++ l) (in_row c)
      ∙ sym (ap (λ s. pending (share (slot_of run slot) k (carried run w)) c ++ option_to_list (if s then tuple_at run w.valid w.columns c else None)) own)

pub shares_are_streams : SharesAreStreams
shares_are_streams run w slot first c = stream_share run w slot first c

module _ (run : Run) (w : Wire) where
  abbrev one : Lane
  one = single (line_at run w.valid) (line_at run w.eos)

  own_row : (c : ℕ) → row_in one (rows_of run w) c ≡ option_to_list (tuple_at run w.valid w.columns c)
  unfolding tuple_at
  own_row c = one_in (line_at run w.valid c) (row_at run c w.columns)

  rows_pending : (c : ℕ) → rows_before one (rows_of run w) 0 c ≡ pending (carried run w) c
  rows_pending zero = refl
  rows_pending (suc c) =
      ap (λ s. if s then (if line_at run w.eos c then [] else rows_before one (rows_of run w) 0 c ++ row_in one (rows_of run w) c) else rows_before one (rows_of run w) 0 c) (eq-eqb 0 0 refl)
      ∙ ap (λ l. if line_at run w.eos c then [] else l ++ row_in one (rows_of run w) c) (rows_pending c)
      ∙ ap (λ l. if line_at run w.eos c then [] else pending (carried run w) c ++ l) (own_row c)

  pub stream_single : (c : ℕ) → rows_now one (rows_of run w) c ≡ stream (carried run w) c
  stream_single c = ap (λ l. l ++ row_in one (rows_of run w) c) (rows_pending c) ∙ ap (λ l. pending (carried run w) c ++ l) (own_row c)

pub singles_are_streams : SinglesAreStreams
singles_are_streams run w c = stream_single run w c
