-- Parts of words in a netlist.
use Rattle.std.proofs.Common.{◌≡◌, ℕ, zero, suc, ◌<◌, arith}
use Rattle.gl_net.specs.declared.node.Bus.{Bus}
use Rattle.gl_net.specs.Net.{Keeps, Net, Run}
use Rattle.gl_wire.specs.Wire.{line_at}
use Rattle.gl_wire.proofs.ColumnLemmas.{bit_kept, bus_kept}
use Rattle.gl_frames_tree.specs.declared.looking.Stand.{Stand}
use Rattle.gl_frames_tree.specs.declared.parts.Digit.{Digit}
use Rattle.gl_frames_tree.specs.declared.parts.Parts.{Parts}
use Rattle.gl_frames_tree.specs.LevelNets.{ArePartsOf, HasDigit, HasParts, HasStand, digit_at, part_at, part_of}
use Rattle.gl_frames_tree.proofs.PartLemmas.{digit_few}

pub parts_kept : (old new : Net) (width : ℕ) (p : Parts) → Keeps old new → HasParts old width p → HasParts new width p
parts_kept old new width p k h = record {
  zero' = bus_kept old new p.zero k h.zero';
  zero_width = h.zero_width;
  one' = bus_kept old new p.one k h.one';
  one_width = h.one_width;
  two' = bus_kept old new p.two k h.two';
  two_width = h.two_width;
  three' = bus_kept old new p.three k h.three';
  three_width = h.three_width;
}

pub digit_kept : (old new : Net) (d : Digit) → Keeps old new → HasDigit old d → HasDigit new d
digit_kept old new d k h = record { high = bit_kept old new d.high k h.high; low = bit_kept old new d.low k h.low }

pub stand_kept : (old new : Net) (width : ℕ) (s : Stand) → Keeps old new → HasStand old width s → HasStand new width s
stand_kept old new width s k h = record {
  valid = bit_kept old new s.valid k h.valid;
  ends = bit_kept old new s.ends k h.ends;
  fresh = bit_kept old new s.fresh k h.fresh;
  node = bus_kept old new s.node k h.node;
  node_width = h.node_width;
  next = bus_kept old new s.next k h.next;
  next_width = h.next_width;
  digit = digit_kept old new s.digit k h.digit;
}

-- each part by its place
pub part_is : (run : Run) (width : ℕ) (word : Bus) (p : Parts) → ArePartsOf run width word p → (i t : ℕ) → i < 4 → part_at run p i t ≡ part_of width i (run.at t word.node)
part_is run width word p are zero t l = are.zero' t
part_is run width word p are (suc zero) t l = are.one' t
part_is run width word p are (suc (suc zero)) t l = are.two' t
part_is run width word p are (suc (suc (suc zero))) t l = are.three' t
part_is run width word p are (suc (suc (suc (suc i)))) t l = absurd (omega (arith, l))

-- and the one that a digit names
pub part_there : (run : Run) (width : ℕ) (word : Bus) (p : Parts) → ArePartsOf run width word p → (d : Digit) (t : ℕ)
    → part_at run p (digit_at run d t) t ≡ part_of width (digit_at run d t) (run.at t word.node)
part_there run width word p are d t = part_is run width word p are (digit_at run d t) t (digit_few (line_at run d.high t) (line_at run d.low t))
