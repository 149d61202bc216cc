-- One register more behind a bus or a line.
use Rattle.std.proofs.Common.{◌≡◌, ℕ, suc, ◌+◌, refl, ap, ◌∙◌, arith}
use Rattle.gl_net.specs.declared.node.Bus.{Bus}
use Rattle.gl_net.specs.declared.node.Bit.{Bit}
use Rattle.gl_net.specs.Net.{Net, IsBus, IsBit}
use Rattle.gl_net.proofs.Determined.{keeps_then}
use Rattle.gl_net.proofs.Growth.{same_keeps}
use Rattle.gl_wire.specs.Stages.{IsLaterBus, IsLaterLine}
use Rattle.gl_wire.specs.Wire.{line_at}
use Rattle.gl_divide.proofs.StageNet.{line_behind_more}
use Rattle.gl_totals.specs.Delays.{IsBitBehind, IsBusBehind}

pub bus_behind_none : (net : Net) (b : Bus) → IsBus net b → IsBusBehind net net 0 b b
bus_behind_none net b is = record {
  keeps = same_keeps net;
  cost = record { nodes = omega arith; registers = omega arith; memories = omega arith };
  bus = is;
  same_width = refl;
  value = λ run r t. let e : suc t + 0 ≡ suc t = omega arith in ap (λ (c : ℕ). run.at c b.node) e;
}

pub bus_behind_more : (old mid new : Net) (n : ℕ) (source b d : Bus) → IsBusBehind old mid n source b → IsLaterBus mid new b d → IsBusBehind old new (n + 1) source d
bus_behind_more old mid new n source b d h later = record {
  keeps = keeps_then old mid new h.keeps later.keeps;
  cost = record {
    nodes = omega (arith, h.cost.nodes, later.cost.nodes);
    registers = omega (arith, h.cost.registers, later.cost.registers, h.same_width);
    memories = omega (arith, h.cost.memories, later.cost.memories);
  };
  bus = later.bus;
  same_width = later.same_width ∙ h.same_width;
  value = λ run r t.
      let at : suc t + (n + 1) ≡ suc (suc (t + n)) = omega arith in
      let before : suc (t + n) ≡ suc t + n = omega arith in
      ap (λ (c : ℕ). run.at c d.node) at ∙ later.value run r (t + n) ∙ ap (λ (c : ℕ). run.at c b.node) before ∙ h.value run (later.keeps.runs run r) t;
}

pub bit_behind_none : (net : Net) (b : Bit) → IsBit net b → IsBitBehind net net 0 b b
bit_behind_none net b is = record {
  keeps = same_keeps net;
  cost = record { nodes = omega arith; registers = omega arith; memories = omega arith };
  bit = is;
  line = λ run r. record {
    before = λ c lt. absurd (omega arith);
    line = λ t. let e : t + 0 ≡ t = omega arith in ap (line_at run b) e;
  };
}

pub bit_behind_more : (old mid new : Net) (n : ℕ) (source b d : Bit) → IsBitBehind old mid n source b → IsLaterLine mid new b d → IsBitBehind old new (n + 1) source d
bit_behind_more old mid new n source b d h later = record {
  keeps = keeps_then old mid new h.keeps later.keeps;
  cost = record {
    nodes = omega (arith, h.cost.nodes, later.cost.nodes);
    registers = omega (arith, h.cost.registers, later.cost.registers);
    memories = omega (arith, h.cost.memories, later.cost.memories);
  };
  bit = later.bit;
  line = λ run r. let one : n + 1 ≡ suc n = omega arith in
      line_behind_more run n (n + 1) source b d one (h.line run (later.keeps.runs run r)) (later.line run r);
}
