-- A line of ends, columns and a slot some cycles behind a lane are a table.
use Rattle.std.proofs.Common.{◌≡◌, ℕ, zero, suc, ◌+◌, List, Some, None, Bool, true, false, refl, sym, ap, ◌∙◌}
use Rattle.std.specs.Prelude.{◌&&◌, if◌then◌else◌, nat_eq}
use Rattle.std.proofs.lemmas.Bool.{eqb-true}
use Rattle.gl_values.specs.Results.{Row}
use Rattle.gl_divide.specs.Divider.{IsLineBehind}
use Rattle.gl_net.specs.declared.node.Bit.{Bit}
use Rattle.gl_net.specs.declared.node.Bus.{Bus}
use Rattle.gl_net.specs.Net.{Run}
use Rattle.gl_wire_lanes.specs.Lanes.{Begins, IsFresh, rows_now}
use Rattle.gl_wire_lanes.specs.Shares.{lane_of, rows_of, share, slot_of}
use Rattle.gl_wire_lanes.proofs.ShareLemmas.{stream_share}
use Rattle.gl_wire.specs.declared.wire.Wire.{Wire}
use Rattle.gl_wire.specs.Shapes.{AtEnds}
use Rattle.gl_wire.specs.Wire.{carried, line_at, row_at, stream, wire_of}
use Rattle.gl_wire.proofs.StageLemmas.{line_first, tuple_by}

module _ (run : Run) (w : Wire) (slot : Bus) (first end : Bit) (outs : List Bus) (place : Bus) (m : ℕ) (total : List Row → Row) (begins : Begins (lane_of run w slot first))
    (line : IsLineBehind run m w.eos end) (later : (t : ℕ) → run.at (suc t + m) place.node ≡ run.at (suc t) slot.node)
    (row : (t : ℕ) → IsFresh (lane_of run w slot first) (suc t) → row_at run (suc t + m) outs ≡ total (rows_now (lane_of run w slot first) (rows_of run w) (suc t))) (k : ℕ) where
  no_tuple : (s b : Bool) (r : Row) → b ≡ false → (if s then (if b then Some r else None) else None) ≡ None
  no_tuple true true r p = absurd (cc)
  no_tuple true false r p = refl
  no_tuple false b r p = refl

  no_end : (s b : Bool) → b ≡ false → (s && b) ≡ false
  no_end true b p = p
  no_end false b p = refl

  quiet : (c : ℕ) → line_at run end c ≡ false → (share (slot_of run place) k (carried run (wire_of end end outs))).tuple c ≡ None
  quiet c p =
      ap (λ o. if nat_eq (slot_of run place c) k then o else None) (tuple_by run end outs c) ∙ no_tuple (nat_eq (slot_of run place c) k) (line_at run end c) (row_at run c outs) p

  came : (c : ℕ) (s e : Bool) → nat_eq (run.at (suc c) slot.node) k ≡ s → line_at run w.eos (suc c) ≡ e
      → (if s then (if e then Some (row_at run (suc c + m) outs) else None) else None)
      ≡ (if s && e then Some (total (stream (share (slot_of run slot) k (carried run w)) (suc c))) else None)
  came c true true p q =
      ap Some (row c (begins.ends (suc c) q) ∙ ap total (stream_share run w slot first (suc c) ∙ ap (λ j. stream (share (slot_of run slot) j (carried run w)) (suc c)) (eqb-true (run.at (suc c) slot.node) k p)))
  came c true false p q = refl
  came c false e p q = refl

  tuples : (c : ℕ) → (share (slot_of run place) k (carried run (wire_of end end outs))).tuple (c + m)
      ≡ (if nat_eq (slot_of run slot c) k && line_at run w.eos c then Some (total (stream (share (slot_of run slot) k (carried run w)) c)) else None)
  tuples zero =
      quiet (0 + m) (line.line 0 ∙ line_first run w.eos)
      ∙ sym (ap (λ e. if e then Some (total (stream (share (slot_of run slot) k (carried run w)) 0)) else None) (no_end (nat_eq (slot_of run slot 0) k) (line_at run w.eos 0) (line_first run w.eos)))
  tuples (suc c) =
      ap (λ o. if nat_eq (slot_of run place (suc c + m)) k then o else None) (tuple_by run end outs (suc c + m))
      ∙ ap (λ e. if nat_eq (slot_of run place (suc c + m)) k then (if e then Some (row_at run (suc c + m) outs) else None) else None) (line.line (suc c))
      ∙ ap (λ s. if nat_eq s k then (if line_at run w.eos (suc c) then Some (row_at run (suc c + m) outs) else None) else None) (later c)
      ∙ came c (nat_eq (run.at (suc c) slot.node) k) (line_at run w.eos (suc c)) refl refl

  ends : (c : ℕ) → (nat_eq (slot_of run place (c + m)) k && line_at run end (c + m)) ≡ (nat_eq (slot_of run slot c) k && line_at run w.eos c)
  ends zero =
      no_end (nat_eq (slot_of run place (0 + m)) k) (line_at run end (0 + m)) (line.line 0 ∙ line_first run w.eos)
      ∙ sym (no_end (nat_eq (slot_of run slot 0) k) (line_at run w.eos 0) (line_first run w.eos))
  ends (suc c) = ap (λ s. nat_eq s k && line_at run end (suc c + m)) (later c) ∙ ap (λ e. nat_eq (run.at (suc c) slot.node) k && e) (line.line (suc c))

  pub at_ends : AtEnds m total (share (slot_of run slot) k (carried run w)) (share (slot_of run place) k (carried run (wire_of end end outs)))
  at_ends = record {
    before = λ c l. quiet c (line.before c l);
    no_end = λ c l. no_end (nat_eq (slot_of run place c) k) (line_at run end c) (line.before c l);
    tuples = tuples;
    ends = ends;
  }
