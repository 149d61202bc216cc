-- The lane of the first keys, from what asks the slots and what they tell.
use Rattle.std.proofs.Common.{◌≡◌, ℕ, zero, suc, ◌+◌, ◌<◌, ◌≤◌, ◌^◌, List, [], ◌∷◌, Option, Some, None, Bool, true, false, refl, sym, ap, ◌∙◌, arith}
use Rattle.std.specs.Prelude.{not, ◌&&◌, if◌then◌else◌, is_some, nat_eq}
use Rattle.std.proofs.Math.Nat.{mod-eq_of_lt}
use Rattle.gl_values.specs.Results.{Row}
use Rattle.gl_net.specs.declared.node.Bit.{Bit}
use Rattle.gl_net.specs.declared.node.Bus.{Bus}
use Rattle.gl_net.specs.Net.{Run}
use Rattle.gl_wire.specs.declared.wire.Wire.{Wire}
use Rattle.gl_wire.specs.Shapes.{IsDelayed}
use Rattle.gl_wire.specs.Wire.{Carried, carried, line_at, row_at, tuple_at}
use Rattle.gl_wire.proofs.StageLemmas.{line_first, tuple_by}
use Rattle.gl_wire_lanes.specs.Lanes.{Lane}
use Rattle.gl_wire_lanes.specs.Shares.{lane_of, rows_of}
use Rattle.gl_wire_registers.specs.Held.{held_at}
use Rattle.gl_groups.specs.declared.finding.SlotsFound.{SlotsFound}
use Rattle.gl_groups.specs.Ahead.{Ahead}
use Rattle.gl_groups.specs.Finding.{AreFound, ahead_in}
use Rattle.gl_groups.specs.Telling.{passes_in}
use Rattle.gl_frames_keys.specs.Lanes.{IsKeyedLane, IsLaneLate, leaves_out}
use Rattle.gl_frames_keys.proofs.LateLemmas.{delayed_both, left_late}
use Rattle.gl_frames_keys.proofs.LaterLemmas.{lanes_late}
use Rattle.gl_frames_lanes.specs.LaneNets.{IsKeyLane, IsLooking, IsTold, IsToldLate, key_in}
use Rattle.gl_frames_lanes.specs.declared.lane.KeyLane.{KeyLane}
use Rattle.gl_frames_lanes.specs.declared.lane.Keys.{Keys}
use Rattle.gl_frames_lanes.specs.declared.lane.Looking.{Looking}
use Rattle.gl_frames_lanes.specs.declared.lane.Told.{Told}
use Rattle.gl_frames_lanes.proofs.FindLemmas.{first_is, kept_is, passes_is, takes_row}

-- ---- what a wire carries, as lines

pub some_line : (run : Run) (v : Bit) (bs : List Bus) (t : ℕ) → is_some (tuple_at run v bs t) ≡ line_at run v t
some_line run v bs t = ap is_some (tuple_by run v bs t) ∙ by (line_at run v t)
  where
    by : (b : Bool) → is_some (if b then Some (row_at run t bs) else None) ≡ b
    by true = refl
    by false = refl

pub row_is : (run : Run) (v : Bit) (bs : List Bus) (t : ℕ) (r : Row) → tuple_at run v bs t ≡ Some r → row_at run t bs ≡ r
row_is run v bs t r p = by (line_at run v t) (sym (tuple_by run v bs t) ∙ p)
  where
    by : (b : Bool) → (if b then Some (row_at run t bs) else None) ≡ Some r → row_at run t bs ≡ r
    by true e = cc (e)
    by false e = absurd (cc)

pub some_row : (run : Run) (v : Bit) (bs : List Bus) (t : ℕ) → line_at run v t ≡ true → tuple_at run v bs t ≡ Some (row_at run t bs)
some_row run v bs t e = tuple_by run v bs t ∙ ap (λ (b : Bool). if b then Some (row_at run t bs) else None) e

pub line_behind : (run : Run) (v u : Bit) (bs cs : List Bus) (t : ℕ) → tuple_at run u cs (t + 1) ≡ tuple_at run v bs t → line_at run u (suc t) ≡ line_at run v t
line_behind run v u bs cs t e =
    let at : t + 1 ≡ suc t = omega arith in
    ap (line_at run u) (sym at) ∙ sym (some_line run u cs (t + 1)) ∙ ap is_some e ∙ some_line run v bs t

pub row_behind : (run : Run) (v u : Bit) (bs cs : List Bus) (t : ℕ) → tuple_at run u cs (t + 1) ≡ tuple_at run v bs t → line_at run v t ≡ true → row_at run (suc t) cs ≡ row_at run t bs
row_behind run v u bs cs t e on =
    let at : t + 1 ≡ suc t = omega arith in
    ap (λ i. row_at run i cs) (sym at) ∙ row_is run u cs (t + 1) (row_at run t bs) (e ∙ some_row run v bs t on)

-- ---- what comes one cycle later

pub tuple_after : Carried → ℕ → Option Row
tuple_after a zero = None
tuple_after a (suc c) = a.tuple c

pub end_after : Carried → ℕ → Bool
end_after a zero = false
end_after a (suc c) = a.ends c

abbrev pub after : Carried → Carried
after a = record { tuple = tuple_after a; ends = end_after a }

pub after_is : (a : Carried) → IsDelayed 1 a (after a)
unfolding tuple_after end_after
after_is a = record {
  before = before;
  no_end = no_end;
  tuples = λ c. let e : c + 1 ≡ suc c = omega arith in ap (tuple_after a) e;
  ends = λ c. let e : c + 1 ≡ suc c = omega arith in ap (end_after a) e;
}
  where
    before : (c : ℕ) → c < 1 → tuple_after a c ≡ None
    before zero l = refl
    before (suc c) l = absurd (omega (arith, l))

    no_end : (c : ℕ) → c < 1 → end_after a c ≡ false
    no_end zero l = refl
    no_end (suc c) l = absurd (omega (arith, l))

module _ (run : Run) (keys : Keys) (some : 1 ≤ keys.groups) (fits : keys.groups ≤ 2 ^ keys.width) (source : Wire) (look : Looking) (found : SlotsFound) (told : Told) (r : KeyLane)
    (is_look : IsLooking run source keys.column look) (same_line : look.asking.ask ≡ look.late.valid) (is_found : AreFound run look.asking keys.groups found)
    (is_told : IsTold run look.late.valid found.sought keys.width told) (is_late : IsToldLate run look.late found.sought.passes told r) where
  abbrev n : ℕ
  n = keys.groups

  abbrev key : Row → ℕ
  key = key_in keys.column

  abbrev b : Carried
  b = carried run look.late

  abbrev x : Ahead
  x = ahead_in run look.asking found.used found.sought is_found.met

  on : (t : ℕ) → line_at run look.late.valid t ≡ x.ask t
  on t = sym (ap (λ l. line_at run l t) same_line)

  ask : (t : ℕ) → x.ask t ≡ is_some (b.tuple t)
  ask t = sym (on t) ∙ sym (some_line run look.late.valid look.late.columns t)

  -- the lane in the cycle in which it is told
  abbrev lane : Lane
  lane = record {
    valid = line_at run told.row;
    ends = line_at run look.late.eos;
    slot = held_at 0 run told.slot;
    first = line_at run told.first;
  }

  abbrev row : ℕ → Row
  row t = row_at run t look.late.columns

  row_told : (t : ℕ) → lane.valid t ≡ (x.ask t && not (passes_in n x t))
  row_told t = is_told.row t ∙ ap (λ v. v && not (line_at run found.sought.passes t)) (on t) ∙ ap (λ v. x.ask t && not v) (is_found.passes t)

  same_slot : (t : ℕ) → x.number t < n → lane.slot t ≡ x.number t
  unfolding held_at
  same_slot zero l = refl
  same_slot (suc t) l = is_told.slot (suc t) ∙ mod-eq_of_lt (omega (arith, l, fits))

  is_lane : IsKeyedLane n key b lane row
  is_lane = record {
    takes = λ c k. ap (λ (v : Bool). if nat_eq (lane.slot c) k then (if v then row c ∷ [] else []) else []) (row_told c)
        ∙ takes_row n some key b x is_found.goes ask is_look.last is_look.free lane.slot same_slot row (λ t q p. row_is run look.late.valid look.late.columns t q p) c k;
    valid = λ c. row_told c ∙ kept_is n some key b x is_found.goes ask is_look.last is_look.free c;
    first = λ c. is_told.first c ∙ ap (λ v. v && not (x.one c)) (row_told c) ∙ first_is n some key b x is_found.goes ask is_look.last is_look.free c;
    ends = λ c. refl;
  }

  goes_late : IsLaneLate lane (lane_of run r.wire r.slot r.first) row (rows_of run r.wire)
  unfolding held_at
  goes_late = record {
    no_row = line_first run r.wire.valid;
    no_first = line_first run r.first;
    no_end = line_first run r.wire.eos;
    rows = λ c. line_behind run told.row r.wire.valid look.late.columns r.wire.columns c (is_late.wire.tuples c);
    firsts = is_late.first;
    ends = λ c. let e : c + 1 ≡ suc c = omega arith in ap (line_at run r.wire.eos) (sym e) ∙ is_late.wire.ends c;
    slots = is_late.slot;
    values = λ c v. row_behind run told.row r.wire.valid look.late.columns r.wire.columns (suc c) (is_late.wire.tuples (suc c)) v;
  }

  no_tuple : b.tuple 0 ≡ None
  no_tuple = is_look.delayed.before 0 (omega arith)

  further : (c : ℕ) → line_at run r.further c ≡ leaves_out n key (after b) c
  unfolding tuple_after
  further zero = line_first run r.further
  further (suc c) =
      let e : c + 1 ≡ suc c = omega arith in
      is_late.further c ∙ is_found.passes c ∙ passes_is n some key b x is_found.goes ask is_look.last is_look.free c
      ∙ sym (ap (leaves_out n key (after b)) (sym e) ∙ left_late 1 b (after b) (after_is b) n key c)

  pub lane_is : IsKeyLane run keys source r
  lane_is = record {
    late = after b;
    behind = delayed_both 1 1 (carried run source) b (after b) is_look.delayed (after_is b);
    lane = lanes_late n key b (after b) lane (lane_of run r.wire r.slot r.first) row (rows_of run r.wire) is_lane no_tuple (after_is b) goes_late;
    further = further;
  }
