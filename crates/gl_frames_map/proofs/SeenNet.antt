-- The lines and buses of a look-up, and what single gates of it carry.
use Rattle.std.proofs.Common.{◌≡◌, ℕ, suc, ◌+◌, ◌<◌, ◌^◌, ap, ◌∙◌, arith}
use Rattle.std.specs.Prelude.{◌*◌, if◌then◌else◌, nat_eq, nat_lt}
use Rattle.std.proofs.Math.Nat.{mod-eq_of_lt}
use Rattle.gl_bits.specs.Words.{choose_of, join_of, lt_of, sum_of}
use Rattle.gl_bits.proofs.Bools.{bit_is}
use Rattle.gl_net.specs.declared.node.Bit.{Bit}
use Rattle.gl_net.specs.declared.node.Bus.{Bus}
use Rattle.gl_net.specs.Net.{Grows, Keeps, Net, Run}
use Rattle.gl_net.proofs.Determined.{keeps_then}
use Rattle.gl_wire.specs.Wire.{line_at}
use Rattle.gl_wire.proofs.GateLemmas.{choose_line}
use Rattle.gl_wire_registers.proofs.RegisterLemmas.{grown_bus, grows_then}
use Rattle.gl_slots.proofs.SeenNet.{bit_opened}
use Rattle.gl_frames_map.specs.declared.passing.Asked.{Asked}
use Rattle.gl_frames_map.specs.declared.telling.Recent.{Recent}
use Rattle.gl_frames_map.specs.declared.telling.Seen.{Seen}
use Rattle.gl_frames_map.specs.declared.telling.Told.{Told}
use Rattle.gl_frames_map.specs.MapNets.{HasAsked, HasRecent, HasSeen, HasTold}

-- ---- what is there stays there

pub kept_grows : (old new : Net) → Keeps old new → Grows old new
kept_grows old new k = record { runs = k.runs; shapes = k.shapes }

pub grows_on : (a b c d : Net) → Grows a b → Keeps b c → Keeps c d → Grows a d
grows_on a b c d g h k = grows_then a b d g (kept_grows b d (keeps_then b c d h k))

pub asked_grown : (old new : Net) (width : ℕ) (a : Asked) → Grows old new → HasAsked old width a → HasAsked new width a
asked_grown old new width a g h = record {
  valid = bit_opened old new a.valid g h.valid;
  ends = bit_opened old new a.ends g h.ends;
  here = grown_bus old new a.here g h.here;
  here_width = h.here_width;
  last = grown_bus old new a.last g h.last;
  last_width = h.last_width;
  near = bit_opened old new a.near g h.near;
  far = bit_opened old new a.far g h.far;
}

pub recent_grown : (old new : Net) (width : ℕ) (r : Recent) → Grows old new → HasRecent old width r → HasRecent new width r
recent_grown old new width r g h = record {
  one = bit_opened old new r.one g h.one;
  two = bit_opened old new r.two g h.two;
  before = grown_bus old new r.before g h.before;
  before_width = h.before_width;
  earlier = grown_bus old new r.earlier g h.earlier;
  earlier_width = h.earlier_width;
}

pub seen_grown : (old new : Net) (width : ℕ) (s : Seen) → Grows old new → HasSeen old width s → HasSeen new width s
seen_grown old new width s g h = record {
  used = grown_bus old new s.used g h.used;
  used_width = h.used_width;
  recent = recent_grown old new width s.recent g h.recent;
  below = bit_opened old new s.read.below g h.below;
  number = grown_bus old new s.read.number g h.number;
  number_width = h.number_width;
}

pub told_grown : (old new : Net) (width : ℕ) (r : Told) → Grows old new → HasTold old width r → HasTold new width r
told_grown old new width r g h = record {
  row = bit_opened old new r.decision.row g h.row;
  first = bit_opened old new r.decision.first g h.first;
  further = bit_opened old new r.decision.further g h.further;
  slot = grown_bus old new r.slot g h.slot;
  slot_width = h.slot_width;
}

-- ---- gates

pub less_line : (run : Run) (b : Bit) (x y t : ℕ) → run.at (suc t) b.node ≡ lt_of x y → line_at run b (suc t) ≡ nat_lt x y
unfolding line_at lt_of
less_line run b x y t h = ap (λ v. nat_eq v 1) h ∙ bit_is (nat_lt x y)

-- a number behind a 0
pub wide_is : (w z x : ℕ) → z ≡ 0 → join_of w z x ≡ x
unfolding join_of
wide_is w z x e =
    let none : 0 * 2 ^ w + x ≡ x = omega arith in
    ap (λ (y : ℕ). y * 2 ^ w + x) e ∙ none

-- one more where a line is 1, and 0 where another one is
pub next_is : (run : Run) (used more : Bus) (first : Bit) (w kept t : ℕ) → run.at (suc t) more.node ≡ sum_of w (run.at (suc t) used.node) 1
    → kept ≡ choose_of (run.at (suc t) first.node) (run.at (suc t) more.node) (run.at (suc t) used.node) → run.at (suc t) used.node + 1 < 2 ^ w
    → kept ≡ (if line_at run first (suc t) then run.at (suc t) used.node + 1 else run.at (suc t) used.node)
unfolding sum_of
next_is run used more first w kept t is_more is_kept fits =
    is_kept ∙ choose_line run first (run.at (suc t) more.node) (run.at (suc t) used.node) t
    ∙ ap (λ v. if line_at run first (suc t) then v else run.at (suc t) used.node) (is_more ∙ mod-eq_of_lt fits)
