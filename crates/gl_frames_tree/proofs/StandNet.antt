-- What stands at a level, and what is told of it, stays where a netlist grows.
use Rattle.std.proofs.Common.{ℕ}
use Rattle.gl_net.specs.Net.{Grows, Net}
use Rattle.gl_wire_registers.proofs.RegisterLemmas.{grown_bus}
use Rattle.gl_slots.proofs.SeenNet.{bit_opened}
use Rattle.gl_frames_tree.specs.declared.level.Told.{Told}
use Rattle.gl_frames_tree.specs.declared.looking.Stand.{Stand}
use Rattle.gl_frames_tree.specs.LevelNets.{HasStand, HasTold}

pub stand_grown : (old new : Net) (width : ℕ) (s : Stand) → Grows old new → HasStand old width s → HasStand new width s
stand_grown old new width s g h = record {
  valid = bit_opened old new s.valid g h.valid;
  ends = bit_opened old new s.ends g h.ends;
  fresh = bit_opened old new s.fresh g h.fresh;
  node = grown_bus old new s.node g h.node;
  node_width = h.node_width;
  next = grown_bus old new s.next g h.next;
  next_width = h.next_width;
  digit = record { high = bit_opened old new s.digit.high g h.digit.high; low = bit_opened old new s.digit.low g h.digit.low };
}

pub told_grown : (old new : Net) (width : ℕ) (r : Told) → Grows old new → HasTold old width r → HasTold new width r
told_grown old new width r g h = record {
  here = bit_opened old new r.here g h.here;
  decision = record {
    row = bit_opened old new r.decision.row g h.decision.row;
    make = bit_opened old new r.decision.make g h.decision.make;
    lost = bit_opened old new r.decision.lost g h.decision.lost;
  };
  number = grown_bus old new r.number g h.number;
  number_width = h.number_width;
  seen = grown_bus old new r.seen g h.seen;
  seen_width = h.seen_width;
  word = grown_bus old new r.written.word g h.word;
  word_width = h.word_width;
  write = bit_opened old new r.written.write g h.write;
}
