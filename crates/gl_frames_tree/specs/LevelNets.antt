-- A level of a tree of keys in a netlist: a memory with a word for each node.
use Rattle.std.specs.Prelude.{◌≡◌, ℕ, zero, suc, ◌+◌, ◌*◌, ◌/◌, ◌%◌, ◌^◌, ◌<◌, Bool, not, ◌&&◌, ◌||◌}
use Rattle.std.specs.Prelude.{if◌then◌else◌, nat_eq}
use Rattle.gl_net.specs.declared.node.Bit.{Bit}
use Rattle.gl_net.specs.declared.node.Bus.{Bus}
use Rattle.gl_net.specs.Net.{Net, Run, IsRun, IsBit, IsBus, Keeps, stored_of}
use Rattle.gl_wire.specs.Costs.{Costs, nodes_alone}
use Rattle.gl_wire.specs.Wire.{line_at}
use Rattle.gl_wire_registers.specs.Held.{held_at}
use Rattle.gl_frames_lanes.specs.declared.lane.Keys.{Keys}
use Rattle.gl_frames_tree.specs.declared.level.Told.{Told}
use Rattle.gl_frames_tree.specs.declared.looking.Decision.{Decision}
use Rattle.gl_frames_tree.specs.declared.looking.Looked.{Looked}
use Rattle.gl_frames_tree.specs.declared.looking.Mark.{Mark}
use Rattle.gl_frames_tree.specs.declared.looking.Seen.{Seen}
use Rattle.gl_frames_tree.specs.declared.looking.Settled.{Settled}
use Rattle.gl_frames_tree.specs.declared.looking.Stand.{Stand}
use Rattle.gl_frames_tree.specs.declared.parts.Digit.{Digit}
use Rattle.gl_frames_tree.specs.declared.parts.Parts.{Parts}
use Rattle.gl_frames_tree.specs.declared.writing.Takes.{Takes}
use Rattle.gl_frames_tree.specs.declared.writing.Written.{Written}

-- ---- lines and buses that are there

-- two bits of a key
pub record HasDigit (net : Net) (d : Digit) : Type 0 where
  pub high : IsBit net d.high
  pub low : IsBit net d.low

-- parts of this width
pub record HasParts (net : Net) (width : ℕ) (p : Parts) : Type 0 where
  pub zero' : IsBus net p.zero
  pub zero_width : p.zero.width ≡ width
  pub one' : IsBus net p.one
  pub one_width : p.one.width ≡ width
  pub two' : IsBus net p.two
  pub two_width : p.two.width ≡ width
  pub three' : IsBus net p.three
  pub three_width : p.three.width ≡ width

-- the lines of parts that take a child
pub record HasTakes (net : Net) (t : Takes) : Type 0 where
  pub zero' : IsBit net t.zero
  pub one' : IsBit net t.one
  pub two' : IsBit net t.two
  pub three' : IsBit net t.three

-- a row at a level, with numbers of this width
pub record HasStand (net : Net) (width : ℕ) (s : Stand) : Type 0 where
  pub valid : IsBit net s.valid
  pub ends : IsBit net s.ends
  pub fresh : IsBit net s.fresh
  pub node : IsBus net s.node
  pub node_width : s.node.width ≡ width
  pub next : IsBus net s.next
  pub next_width : s.next.width ≡ width
  pub digit : HasDigit net s.digit

-- what is seen of a row's child
pub record HasLooked (net : Net) (width : ℕ) (l : Looked) : Type 0 where
  pub parts : HasParts net (width + 1) l.parts
  pub here : IsBit net l.seen.here
  pub child : IsBus net l.seen.child
  pub child_width : l.seen.child.width ≡ width

-- what becomes of a row
pub record HasDecision (net : Net) (d : Decision) : Type 0 where
  pub row : IsBit net d.row
  pub make : IsBit net d.make
  pub lost : IsBit net d.lost

-- what a level tells of a row
pub record HasTold (net : Net) (width : ℕ) (r : Told) : Type 0 where
  pub here : IsBit net r.here
  pub decision : HasDecision net r.decision
  pub number : IsBus net r.number
  pub number_width : r.number.width ≡ width
  pub seen : IsBus net r.seen
  pub seen_width : r.seen.width ≡ width
  pub word : IsBus net r.written.word
  pub word_width : r.written.word.width ≡ 4 * (width + 1)
  pub write : IsBit net r.written.write

-- ---- parts of keys and words

-- a bit of a key
abbrev pub bit_of_key : ℕ → ℕ → Bool
bit_of_key at key = nat_eq (key / 2 ^ at % 2) 1

-- the number of two bits
abbrev pub digit_of : Bool → Bool → ℕ
digit_of high low = (if high then 2 else 0) + (if low then 1 else 0)

-- a part of a word whose parts have so many bits
abbrev pub part_of : (width i word : ℕ) → ℕ
part_of width i word = word / 2 ^ (width * i) % 2 ^ width

-- whether a part tells of a child, and the child's number of so many bits
abbrev pub is_marked : (width part : ℕ) → Bool
is_marked width part = nat_eq (part / 2 ^ width % 2) 1

abbrev pub child_in : (width part : ℕ) → ℕ
child_in width part = part % 2 ^ width

-- the digit in a cycle
abbrev pub digit_at : Run → Digit → ℕ → ℕ
digit_at run d t = digit_of (line_at run d.high t) (line_at run d.low t)

pub record IsBitOfIn (old new : Net) (key : Bus) (at : ℕ) (out : Bit) : Type 0 where
  pub keeps : Keeps old new
  pub cost : Costs old new (nodes_alone 1)
  pub bit : IsBit new out
  pub line : (run : Run) → IsRun new run → (t : ℕ)
      → line_at run out (suc t) ≡ bit_of_key at (run.at (suc t) key.node)

-- two bits of a key
pub record IsDigitIn (old new : Net) (key : Bus) (rest : ℕ) (out : Digit) : Type 0 where
  pub keeps : Keeps old new
  pub cost : Costs old new (nodes_alone 2)
  pub has : HasDigit new out
  pub high : (run : Run) → IsRun new run → (t : ℕ)
      → line_at run out.high (suc t) ≡ bit_of_key (2 * rest + 1) (run.at (suc t) key.node)
  pub low : (run : Run) → IsRun new run → (t : ℕ)
      → line_at run out.low (suc t) ≡ bit_of_key (2 * rest) (run.at (suc t) key.node)

-- what the four parts carry
pub record ArePartsOf (run : Run) (width : ℕ) (word : Bus) (p : Parts) : Type 0 where
  pub zero' : (t : ℕ) → run.at t p.zero.node ≡ part_of width 0 (run.at t word.node)
  pub one' : (t : ℕ) → run.at t p.one.node ≡ part_of width 1 (run.at t word.node)
  pub two' : (t : ℕ) → run.at t p.two.node ≡ part_of width 2 (run.at t word.node)
  pub three' : (t : ℕ) → run.at t p.three.node ≡ part_of width 3 (run.at t word.node)

pub record ArePartsIn (old new : Net) (word : Bus) (width : ℕ) (p : Parts) : Type 0 where
  pub keeps : Keeps old new
  pub cost : Costs old new (nodes_alone 4)
  pub has : HasParts new width p
  pub law : (run : Run) → IsRun new run → ArePartsOf run width word p

-- what one of four carries
abbrev pub part_at : Run → Parts → (digit t : ℕ) → ℕ
part_at run p zero t = run.at t p.zero.node
part_at run p (suc zero) t = run.at t p.one.node
part_at run p (suc (suc zero)) t = run.at t p.two.node
part_at run p (suc (suc (suc i))) t = run.at t p.three.node

-- the part that a digit names
pub record IsPickedIn (old new : Net) (d : Digit) (p : Parts) (width : ℕ) (out : Bus) : Type 0 where
  pub keeps : Keeps old new
  pub cost : Costs old new (nodes_alone 3)
  pub bus : IsBus new out
  pub part_width : out.width ≡ width
  pub value : (run : Run) → IsRun new run → (t : ℕ)
      → run.at (suc t) out.node ≡ part_at run p (digit_at run d (suc t)) (suc t)

-- the word of four parts
pub record AreJoinedIn (old new : Net) (p : Parts) (width : ℕ) (out : Bus) : Type 0 where
  pub keeps : Keeps old new
  pub cost : Costs old new (nodes_alone 3)
  pub bus : IsBus new out
  pub word_width : out.width ≡ 4 * width
  pub value : (run : Run) → IsRun new run → (t i : ℕ) → i < 4
      → part_of width i (run.at t out.node) ≡ part_at run p i t

-- ---- what is seen

-- whether a part tells of a child, where a line is 0, and the child's number
pub record IsSeenIn (old new : Net) (part : Bus) (fresh : Bit) (width : ℕ) (out : Seen) : Type 0 where
  pub keeps : Keeps old new
  pub cost : Costs old new (nodes_alone 3)
  pub here' : IsBit new out.here
  pub child' : IsBus new out.child
  pub child_width : out.child.width ≡ width
  pub here : (run : Run) → IsRun new run → (t : ℕ) → line_at run out.here (suc t)
      ≡ (is_marked width (run.at (suc t) part.node) && not (line_at run fresh (suc t)))
  pub child : (run : Run) → IsRun new run → (t : ℕ) → run.at t out.child.node ≡ child_in width (run.at t part.node)

-- the part of a row's child in its node's word
abbrev pub own_part : Run → Keys → Stand → Bus → ℕ → ℕ
own_part run keys s word t = part_of (keys.width + 1) (digit_at run s.digit t) (run.at t word.node)

pub record IsLooked (run : Run) (keys : Keys) (s : Stand) (word : Bus) (l : Looked) : Type 0 where
  pub parts : ArePartsOf run (keys.width + 1) word l.parts
  pub here : (t : ℕ) → line_at run l.seen.here (suc t)
      ≡ (is_marked keys.width (own_part run keys s word (suc t)) && not (line_at run s.fresh (suc t)))
  pub child : (t : ℕ) → run.at (suc t) l.seen.child.node ≡ child_in keys.width (own_part run keys s word (suc t))

pub record IsLookedIn (old new : Net) (keys : Keys) (s : Stand) (word : Bus) (l : Looked) : Type 0 where
  pub keeps : Keeps old new
  pub cost : Costs old new (nodes_alone 10)
  pub has : HasLooked new keys.width l
  pub law : (run : Run) → IsRun new run → IsLooked run keys s word l

-- ---- what is told

-- a row whose child is not there begins one where a number is left, and else is lost
pub record IsDecision (run : Run) (valid here : Bit) (used : Bus) (groups : ℕ) (d : Decision) : Type 0 where
  pub lost : (t : ℕ) → line_at run d.lost t
      ≡ ((line_at run valid t && not (line_at run here t)) && nat_eq (held_at 0 run used t) groups)
  pub make : (t : ℕ) → line_at run d.make t
      ≡ ((line_at run valid t && not (line_at run here t)) && not (line_at run d.lost t))
  pub row : (t : ℕ) → line_at run d.row t ≡ (line_at run valid t && not (line_at run d.lost t))

pub record IsDecisionIn (old new : Net) (valid here : Bit) (used : Bus) (groups : ℕ) (d : Decision) : Type 0 where
  pub keeps : Keeps old new
  pub cost : Costs old new (nodes_alone 6)
  pub has : HasDecision new d
  pub law : (run : Run) → IsRun new run → IsDecision run valid here used groups d

-- the number of the next child, and the part that tells of it
pub record IsMarkIn (old new : Net) (used : Bus) (width : ℕ) (m : Mark) : Type 0 where
  pub keeps : Keeps old new
  pub cost : Costs old new (nodes_alone 3)
  pub free' : IsBus new m.free
  pub free_width : m.free.width ≡ width
  pub mark' : IsBus new m.mark
  pub mark_width : m.mark.width ≡ width + 1
  pub free : (run : Run) → IsRun new run → (t : ℕ) → run.at t m.free.node ≡ run.at t used.node % 2 ^ width
  pub mark : (run : Run) → IsRun new run → (t : ℕ) → run.at t m.mark.node ≡ 2 ^ width + run.at t used.node % 2 ^ width

pub record IsSettled (run : Run) (keys : Keys) (s : Stand) (l : Looked) (used : Bus) (r : Settled) : Type 0 where
  pub decision : IsDecision run s.valid l.seen.here used keys.groups r.decision
  pub mark : (t : ℕ) → run.at t r.mark.node ≡ 2 ^ keys.width + run.at t used.node % 2 ^ keys.width
  pub number : (t : ℕ) → run.at (suc t) r.number.node
      ≡ (if line_at run l.seen.here (suc t) then run.at (suc t) l.seen.child.node
      else (run.at (suc t) used.node % 2 ^ keys.width))

pub record IsSettledIn (old new : Net) (keys : Keys) (s : Stand) (l : Looked) (used : Bus) (r : Settled)
    : Type 0 where
  pub keeps : Keeps old new
  pub cost : Costs old new (nodes_alone 10)
  pub decision : HasDecision new r.decision
  pub mark : IsBus new r.mark
  pub mark_width : r.mark.width ≡ keys.width + 1
  pub number : IsBus new r.number
  pub number_width : r.number.width ≡ keys.width
  pub law : (run : Run) → IsRun new run → IsSettled run keys s l used r

-- ---- what is written

-- the line of a part that takes the child that begins
abbrev pub take_at : Run → Takes → (digit t : ℕ) → Bool
take_at run x zero t = line_at run x.zero t
take_at run x (suc zero) t = line_at run x.one t
take_at run x (suc (suc zero)) t = line_at run x.two t
take_at run x (suc (suc (suc i))) t = line_at run x.three t

pub record AreTakesIn (old new : Net) (make : Bit) (d : Digit) (out : Takes) : Type 0 where
  pub keeps : Keeps old new
  pub cost : Costs old new (nodes_alone 6)
  pub has : HasTakes new out
  pub line : (run : Run) → IsRun new run → (t i : ℕ) → i < 4
      → take_at run out i t ≡ (line_at run make t && nat_eq (digit_at run d t) i)

-- a part with what a row changes in it
abbrev pub part_now : (takes fresh : Bool) → (mark part : ℕ) → ℕ
part_now takes fresh mark part = if takes then mark else (if fresh then 0 else part)

pub record IsNowIn (old new : Net) (part : Bus) (takes : Bit) (mark : Bus) (fresh : Bit) (out : Bus) : Type 0 where
  pub keeps : Keeps old new
  pub cost : Costs old new (nodes_alone 3)
  pub bus : IsBus new out
  pub part_width : out.width ≡ mark.width
  pub value : (run : Run) → IsRun new run → (t : ℕ) → run.at (suc t) out.node
      ≡ part_now (line_at run takes (suc t)) (line_at run fresh (suc t)) (run.at (suc t) mark.node)
      (run.at (suc t) part.node)

pub record AreWrittenIn (old new : Net) (p : Parts) (x : Takes) (mark : Bus) (fresh : Bit) (out : Parts) : Type 0 where
  pub keeps : Keeps old new
  pub cost : Costs old new (nodes_alone 12)
  pub has : HasParts new mark.width out
  pub value : (run : Run) → IsRun new run → (t i : ℕ) → i < 4 → part_at run out i (suc t)
      ≡ part_now (take_at run x i (suc t)) (line_at run fresh (suc t)) (run.at (suc t) mark.node)
      (part_at run p i (suc t))

pub record IsWordWrittenIn (old new : Net) (p : Parts) (make : Bit) (d : Digit) (mark : Bus) (fresh : Bit)
    (out : Written) : Type 0 where
  pub keeps : Keeps old new
  pub cost : Costs old new (nodes_alone 22)
  pub word : IsBus new out.word
  pub word_width : out.word.width ≡ 4 * mark.width
  pub write : IsBit new out.write
  pub value : (run : Run) → IsRun new run → (t i : ℕ) → i < 4 → part_of mark.width i (run.at (suc t) out.word.node)
      ≡ part_now (line_at run make (suc t) && nat_eq (digit_at run d (suc t)) i) (line_at run fresh (suc t))
      (run.at (suc t) mark.node) (part_at run p i (suc t))
  pub line : (run : Run) → IsRun new run → (t : ℕ)
      → line_at run out.write t ≡ (line_at run make t || line_at run fresh t)

-- words that are written at a node, and shown one cycle ahead at the next one
pub record IsAhead (run : Run) (w : Written) (node next ahead : Bus) : Type 0 where
  pub stored : ℕ → ℕ → ℕ
  pub shows : (t : ℕ) → run.at (suc t) ahead.node ≡ stored (suc (suc t)) (run.at (suc t) next.node)
  pub writes : (t k : ℕ) → stored (suc t) k
      ≡ stored_of (run.at t w.write.node) (run.at t node.node) (run.at t w.word.node) k (stored t k)

pub record IsAheadIn (old new : Net) (bits : ℕ) (w : Written) (node next ahead : Bus) : Type 0 where
  pub keeps : Keeps old new
  pub cost : Costs old new (record { nodes = 5; registers = 0; memories = 2 ^ bits * w.word.width })
  pub bus : IsBus new ahead
  pub same_width : ahead.width ≡ w.word.width
  pub law : (run : Run) → IsRun new run → IsAhead run w node next ahead

-- ---- a level

-- what a level tells of a row, with its node's word and how many children there are
pub record IsTold (run : Run) (keys : Keys) (s : Stand) (word used : Bus) (r : Told) : Type 0 where
  pub here : (t : ℕ) → line_at run r.here (suc t)
      ≡ (is_marked keys.width (own_part run keys s word (suc t)) && not (line_at run s.fresh (suc t)))
  pub decision : IsDecision run s.valid r.here used keys.groups r.decision
  pub seen : (t : ℕ) → run.at (suc t) r.seen.node ≡ child_in keys.width (own_part run keys s word (suc t))
  pub number : (t : ℕ) → run.at (suc t) r.number.node
      ≡ (if line_at run r.here (suc t) then run.at (suc t) r.seen.node
      else (run.at (suc t) used.node % 2 ^ keys.width))
  pub value : (t i : ℕ) → i < 4 → part_of (keys.width + 1) i (run.at (suc t) r.written.word.node)
      ≡ part_now (line_at run r.decision.make (suc t) && nat_eq (digit_at run s.digit (suc t)) i)
      (line_at run s.fresh (suc t)) (2 ^ keys.width + run.at (suc t) used.node % 2 ^ keys.width)
      (part_of (keys.width + 1) i (run.at (suc t) word.node))
  pub write : (t : ℕ) → line_at run r.written.write t ≡ (line_at run r.decision.make t || line_at run s.fresh t)

pub record IsToldIn (old new : Net) (keys : Keys) (s : Stand) (word used : Bus) (r : Told) : Type 0 where
  pub keeps : Keeps old new
  pub cost : Costs old new (nodes_alone 42)
  pub has : HasTold new keys.width r
  pub law : (run : Run) → IsRun new run → IsTold run keys s word used r

-- the same with the word that was read one cycle before
pub record IsRecalled (run : Run) (keys : Keys) (s : Stand) (used : Bus) (r : Told) : Type 0 where
  pub word : Bus
  pub told : IsTold run keys s word used r
  pub stored : ℕ → ℕ → ℕ
  pub reads : (t : ℕ) → run.at (suc (suc t)) word.node ≡ stored (suc (suc t)) (run.at (suc t) s.next.node)
  pub writes : (t k : ℕ) → stored (suc t) k ≡ stored_of (run.at t r.written.write.node) (run.at t s.node.node)
      (run.at t r.written.word.node) k (stored t k)

pub record IsRecalledIn (old new : Net) (keys : Keys) (s : Stand) (used : Bus) (r : Told) : Type 0 where
  pub keeps : Keeps old new
  pub cost : Costs old new (record {
    nodes = 48;
    registers = 4 * (keys.width + 1);
    memories = 2 ^ keys.width * (4 * (keys.width + 1));
  })
  pub has : HasTold new keys.width r
  pub law : (run : Run) → IsRun new run → IsRecalled run keys s used r

-- how many children there are one cycle later
abbrev pub used_next : (ends make : Bool) → ℕ → ℕ
used_next ends make used = if ends then 0 else (if make then used + 1 else used)

pub record IsNextUsedIn (old new : Net) (used : Bus) (make ends : Bit) (out : Bus) : Type 0 where
  pub keeps : Keeps old new
  pub cost : Costs old new (nodes_alone 5)
  pub bus : IsBus new out
  pub same_width : out.width ≡ used.width
  pub value : (run : Run) → IsRun new run → (t : ℕ) → run.at (suc t) used.node + 1 < 2 ^ used.width
      → run.at (suc t) out.node
      ≡ used_next (line_at run ends (suc t)) (line_at run make (suc t)) (run.at (suc t) used.node)

-- what a level tells of a row, with all that it keeps
pub record IsCounted (run : Run) (keys : Keys) (s : Stand) (r : Told) : Type 0 where
  pub used : Bus
  pub recalled : IsRecalled run keys s used r
  pub start : run.at 1 used.node ≡ 0
  pub count : (t : ℕ) → run.at (suc t) used.node + 1 < 2 ^ (keys.width + 1)
      → run.at (suc (suc t)) used.node
      ≡ used_next (line_at run s.ends (suc t)) (line_at run r.decision.make (suc t)) (run.at (suc t) used.node)

pub record IsCountedIn (old new : Net) (keys : Keys) (s : Stand) (r : Told) : Type 0 where
  pub keeps : Keeps old new
  pub cost : Costs old new (record {
    nodes = 54;
    registers = keys.width * 5 + 5;
    memories = 2 ^ keys.width * (4 * (keys.width + 1));
  })
  pub has : HasTold new keys.width r
  pub law : (run : Run) → IsRun new run → IsCounted run keys s r
