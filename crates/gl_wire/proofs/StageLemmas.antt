-- Registers behind a line and behind a wire, and wires that are some cycles behind.
use Rattle.std.proofs.Common.{◌≡◌, ℕ, zero, suc, ◌+◌, ◌<◌, List, length, Some, None, Bool, true, false, refl, sym, ap, ◌∙◌, arith}
use Rattle.std.specs.Prelude.{if◌then◌else◌}
use Rattle.std.specs.List.{sum}
use Rattle.gl_values.specs.Results.{Row}
use Rattle.gl_net.specs.declared.node.Bus.{Bus}
use Rattle.gl_net.specs.declared.node.Bit.{Bit}
use Rattle.gl_net.specs.Net.{Net, Run}
use Rattle.gl_net.proofs.Determined.{keeps_then}
use Rattle.gl_wire.specs.declared.wire.Wire.{Wire}
use Rattle.gl_wire.specs.Wire.{Carried, carried, wire_of, line_at, row_at, tuple_at}
use Rattle.gl_wire.specs.Shapes.{IsDelayed}
use Rattle.gl_wire.specs.Stages.{AreLater, IsLaterLine, IsPad}

-- a register that is 0 after reset is one cycle behind its line, from the reset cycle on
pub line_later : (run : Run) (line later : Bit) → run.at 1 later.node ≡ 0 → ((t : ℕ) → run.at (suc (suc t)) later.node ≡ run.at (suc t) line.node) → (t : ℕ) → line_at run later (suc t) ≡ line_at run line t
unfolding line_at
line_later run line later start next zero = rw start refl
line_later run line later start next (suc t) = rw (next t) refl

-- in the reset cycle no line counts
pub line_first : (run : Run) (line : Bit) → line_at run line 0 ≡ false
unfolding line_at
line_first run line = refl

-- a tuple is there where the line says so
pub tuple_by : (run : Run) (v : Bit) (bs : List Bus) (t : ℕ) → tuple_at run v bs t ≡ (if line_at run v t then Some (row_at run t bs) else None)
unfolding tuple_at
tuple_by run v bs t = refl

-- and where none is, the line is 0
pub no_line : (run : Run) (v : Bit) (bs : List Bus) (t : ℕ) → tuple_at run v bs t ≡ None → line_at run v t ≡ false
no_line run v bs t e = by (line_at run v t) (sym (tuple_by run v bs t) ∙ e)
  where
    by : (b : Bool) → (if b then Some (row_at run t bs) else None) ≡ None → b ≡ false
    by true p = absurd (cc)
    by false p = refl

tuple_later : (run : Run) (v u : Bit) (bs cs : List Bus) → ((t : ℕ) → line_at run u (suc t) ≡ line_at run v t) → ((t : ℕ) → row_at run (suc (suc t)) cs ≡ row_at run (suc t) bs) → (t : ℕ) → tuple_at run u cs (suc t) ≡ tuple_at run v bs t
tuple_later run v u bs cs line row zero =
    tuple_by run u cs 1 ∙ ap (λ (b : Bool). if b then Some (row_at run 1 cs) else None) (line 0 ∙ line_first run v)
    ∙ sym (tuple_by run v bs 0 ∙ ap (λ (b : Bool). if b then Some (row_at run 0 bs) else None) (line_first run v))
tuple_later run v u bs cs line row (suc t) =
    tuple_by run u cs (suc (suc t)) ∙ ap (λ (b : Bool). if b then Some (row_at run (suc (suc t)) cs) else None) (line (suc t))
    ∙ ap (λ (r : Row). if line_at run v (suc t) then Some r else None) (row t) ∙ sym (tuple_by run v bs (suc t))

-- one cycle behind, where each cycle's tuple and end are those of the cycle before
one_behind : (a b : Carried) → b.tuple 0 ≡ None → b.ends 0 ≡ false → ((c : ℕ) → b.tuple (suc c) ≡ a.tuple c) → ((c : ℕ) → b.ends (suc c) ≡ a.ends c) → IsDelayed 1 a b
one_behind a b first first_end tuples ends = record {
  before = λ c l. let e : c ≡ 0 = omega (arith, l) in ap b.tuple e ∙ first;
  no_end = λ c l. let e : c ≡ 0 = omega (arith, l) in ap b.ends e ∙ first_end;
  tuples = λ c. let e : c + 1 ≡ suc c = omega arith in ap b.tuple e ∙ tuples c;
  ends = λ c. let e : c + 1 ≡ suc c = omega arith in ap b.ends e ∙ ends c;
}

stage_delayed : (run : Run) (v e : Bit) (bs : List Bus) (w : Wire) → ((t : ℕ) → line_at run w.valid (suc t) ≡ line_at run v t) → ((t : ℕ) → line_at run w.eos (suc t) ≡ line_at run e t) → ((t : ℕ) → row_at run (suc (suc t)) w.columns ≡ row_at run (suc t) bs) → IsDelayed 1 (carried run (wire_of v e bs)) (carried run w)
stage_delayed run v e bs w valid eos row = one_behind (carried run (wire_of v e bs)) (carried run w)
    (tuple_by run w.valid w.columns 0 ∙ ap (λ (b : Bool). if b then Some (row_at run 0 w.columns) else None) (line_first run w.valid))
    (line_first run w.eos)
    (tuple_later run v w.valid bs w.columns valid row)
    eos

pub delayed_none : (a : Carried) → IsDelayed 0 a a
delayed_none a = record {
  before = λ c l. absurd (omega (arith, l));
  no_end = λ c l. absurd (omega (arith, l));
  tuples = λ c. let e : c + 0 ≡ c = omega arith in ap a.tuple e;
  ends = λ c. let e : c + 0 ≡ c = omega arith in ap a.ends e;
}

pub delayed_more : (n : ℕ) (a b d : Carried) → IsDelayed n a b → IsDelayed 1 b d → IsDelayed (n + 1) a d
delayed_more n a b d h s = record {
  before = before;
  no_end = no_end;
  tuples = λ c. let e : c + (n + 1) ≡ c + n + 1 = omega arith in ap d.tuple e ∙ s.tuples (c + n) ∙ h.tuples c;
  ends = λ c. let e : c + (n + 1) ≡ c + n + 1 = omega arith in ap d.ends e ∙ s.ends (c + n) ∙ h.ends c;
}
  where
    before : (c : ℕ) → c < n + 1 → d.tuple c ≡ None
    before zero l = s.before 0 (omega arith)
    before (suc c) l = let e : suc c ≡ c + 1 = omega arith in ap d.tuple e ∙ s.tuples c ∙ h.before c (omega (arith, l))

    no_end : (c : ℕ) → c < n + 1 → d.ends c ≡ false
    no_end zero l = s.no_end 0 (omega arith)
    no_end (suc c) l = let e : suc c ≡ c + 1 = omega arith in ap d.ends e ∙ s.ends c ∙ h.no_end c (omega (arith, l))

-- what is behind one of two that carry the same is behind the other
pub delayed_same : (m : ℕ) (a b d : Carried) → ((c : ℕ) → a.tuple c ≡ b.tuple c) → ((c : ℕ) → a.ends c ≡ b.ends c) → IsDelayed m a d → IsDelayed m b d
delayed_same m a b d tuple ends h = record {
  before = h.before;
  no_end = h.no_end;
  tuples = λ c. h.tuples c ∙ tuple c;
  ends = λ c. h.ends c ∙ ends c;
}

pub padded_more : (old mid new : Net) (n : ℕ) (w v u : Wire) → IsPad old mid n w v → IsPad mid new 1 v u → IsPad old new (n + 1) w u
padded_more old mid new n w v u h i = record {
  keeps = keeps_then old mid new h.keeps i.keeps;
  cost = record {
    nodes = omega (arith, h.cost.nodes, i.cost.nodes, ap length h.same_widths);
    registers = omega (arith, h.cost.registers, i.cost.registers, ap sum h.same_widths);
    memories = omega (arith, h.cost.memories, i.cost.memories);
  };
  wire = i.wire;
  same_widths = i.same_widths ∙ h.same_widths;
  delayed = λ run r. delayed_more n (carried run w) (carried run v) (carried run u) (h.delayed run (i.keeps.runs run r)) (i.delayed run r);
}

-- registers behind a valid line, an end line and columns are a stage
pub stage_is : (old valid_net eos_net new : Net) (v e v' e' : Bit) (bs cs : List Bus) → IsLaterLine old valid_net v v' → IsLaterLine valid_net eos_net e e' → AreLater eos_net new bs cs → IsPad old new 1 (wire_of v e bs) (wire_of v' e' cs)
stage_is old valid_net eos_net new v e v' e' bs cs one two all = record {
  keeps = keeps_then old eos_net new (keeps_then old valid_net eos_net one.keeps two.keeps) all.keeps;
  cost = record {
    nodes = omega (arith, one.cost.nodes, two.cost.nodes, all.cost.nodes);
    registers = omega (arith, one.cost.registers, two.cost.registers, all.cost.registers);
    memories = omega (arith, one.cost.memories, two.cost.memories, all.cost.memories);
  };
  wire = record {
    valid = record { there = all.keeps.shapes v'.node _ (two.keeps.shapes v'.node _ one.bit.there) };
    eos = record { there = all.keeps.shapes e'.node _ two.bit.there };
    columns = all.buses;
  };
  same_widths = all.same_widths;
  delayed = λ run r.
      let before_columns = all.keeps.runs run r in
      stage_delayed run v e bs (wire_of v' e' cs) (one.line run (two.keeps.runs run before_columns)) (two.line run before_columns) (all.row run r);
}
