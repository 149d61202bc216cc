-- The lane of the first keys, from what asks for a slot and what is told.
use Rattle.std.proofs.Common.{◌≡◌, ℕ, zero, suc, ◌+◌, ◌<◌, ◌≤◌, ◌^◌, [], ◌∷◌, Some, None, Bool, true, refl, sym, ap, ◌∙◌, arith}
use Rattle.std.specs.Prelude.{◌*◌, not, ◌&&◌, ◌||◌, if◌then◌else◌, is_some, nat_eq, nat_lt}
use Rattle.std.proofs.Math.Nat.{mod-eq_of_lt}
use Rattle.std.proofs.lemmas.Nat.{pow-add}
use Rattle.gl_bits.proofs.Wrapping.{one_fits}
use Rattle.gl_values.specs.Results.{Row}
use Rattle.gl_net.specs.declared.node.Bus.{Bus}
use Rattle.gl_net.specs.Net.{Run, stored_of}
use Rattle.gl_wire.specs.declared.wire.Wire.{Wire}
use Rattle.gl_wire.specs.Wire.{Carried, carried, line_at, row_at}
use Rattle.gl_wire.proofs.StageLemmas.{line_first, tuple_by}
use Rattle.gl_wire_lanes.specs.Lanes.{Lane}
use Rattle.gl_wire_lanes.specs.Shares.{lane_of, rows_of}
use Rattle.gl_wire_registers.specs.Held.{held_at}
use Rattle.gl_slots.specs.Slots.{is_further}
use Rattle.gl_frames_keys.specs.Lanes.{IsKeyedLane, IsLaneLate, first_keys, leaves_out}
use Rattle.gl_frames_keys.proofs.LateLemmas.{delayed_both, left_late}
use Rattle.gl_frames_keys.proofs.LaterLemmas.{lanes_late}
use Rattle.gl_frames_lanes.specs.LaneNets.{key_in}
use Rattle.gl_frames_lanes.specs.declared.lane.KeyLane.{KeyLane}
use Rattle.gl_frames_lanes.specs.declared.lane.Keys.{Keys}
use Rattle.gl_frames_lanes.proofs.LaneNet.{after, after_is, line_behind, row_behind, row_is, some_line}
use Rattle.gl_frames_map.specs.declared.passing.Asked.{Asked}
use Rattle.gl_frames_map.specs.declared.passing.Passing.{Passing}
use Rattle.gl_frames_map.specs.declared.telling.Seen.{Seen}
use Rattle.gl_frames_map.specs.declared.telling.Told.{Told}
use Rattle.gl_frames_map.specs.Mapping.{Mapped, Maps, grows, is_far, is_hit, is_known, is_near, number_of, place_read}
use Rattle.gl_frames_map.specs.MapNets.{IsCounted, IsMapLane, IsPassing, IsToldLate, hit_at, known_at, number_at}
use Rattle.gl_frames_map.proofs.ToldLemmas.{first_is, further_is, kept_is, takes_row}

-- one more than a full count fits one bit more
one_more_fits : (w n x : ℕ) → 1 ≤ w → n ≤ 2 ^ w → x ≤ n → x + 1 < 2 ^ (w + 1)
one_more_fits w n x some fits le = let twice : 2 ^ (w + 1) ≡ 2 ^ w * 2 = pow-add 2 w 1 in omega (arith, twice, one_fits w some, fits, le)

module _ (run : Run) (keys : Keys) (some : 1 ≤ keys.width) (fits : keys.groups ≤ 2 ^ keys.width) (source : Wire) (passing : Passing) (told : Told)
    (is_passing : IsPassing run source keys.column passing) (same_valid : passing.asked.valid ≡ passing.late.valid) (same_ends : passing.asked.ends ≡ passing.late.eos)
    (counted : IsCounted run keys passing.asked told) where
  abbrev n : ℕ
  n = keys.groups

  abbrev key : Row → ℕ
  key = key_in keys.column

  abbrev asked : Asked
  asked = passing.asked

  abbrev stored : Bus
  stored = counted.place.key.stored

  abbrev seen : Seen
  seen = record { used = counted.used; recent = counted.recent; read = counted.place.read }

  abbrev b : Carried
  b = carried run passing.late

  -- ---- the look-up, as functions of cycles

  abbrev m : Mapped
  m = record {
    valid = line_at run asked.valid;
    value = held_at 0 run asked.last;
    ends = line_at run asked.ends;
    used = held_at 0 run counted.used;
    place = counted.place.words.word;
    kept = counted.place.key.words.word;
    known = known_at run asked stored seen;
    number = λ t. number_at run (hit_at run asked stored seen t) seen t;
    first = line_at run told.decision.first;
    further = line_at run told.decision.further;
    slot = held_at 0 run told.slot;
  }

  module _ (t : ℕ) (v : m.valid (suc (suc (suc t))) ≡ true) where
    found_is : run.at (suc (suc t)) counted.place.found.node ≡ place_read m t
    unfolding held_at
    found_is = counted.place.words.reads t ∙ ap (counted.place.words.word (suc t)) (is_passing.here t v)

    hit_is : hit_at run asked stored seen (suc (suc (suc t))) ≡ is_hit m t
    unfolding held_at
    hit_is =
        ap (λ x. x && nat_eq (run.at (suc (suc (suc t))) asked.last.node) (run.at (suc (suc (suc t))) stored.node)) (counted.place.is_read.below (suc t))
        ∙ ap (λ x. (nat_lt (run.at (suc (suc t)) counted.place.found.node) (run.at (suc (suc t)) counted.used.node) && not (line_at run asked.ends (suc (suc t))))
        && nat_eq (run.at (suc (suc (suc t))) asked.last.node) x) (counted.place.key.words.reads (suc t))
        ∙ ap (λ x. (nat_lt x (run.at (suc (suc t)) counted.used.node) && not (line_at run asked.ends (suc (suc t))))
        && nat_eq (run.at (suc (suc (suc t))) asked.last.node) (counted.place.key.words.word (suc (suc t)) x)) found_is

    one_is : line_at run counted.recent.one (suc (suc (suc t))) ≡ (is_near m t && grows m (suc (suc t)))
    unfolding held_at
    one_is =
        counted.is_recent.one (suc t)
        ∙ ap (λ x. x && nat_lt (run.at (suc (suc t)) counted.used.node) (run.at (suc (suc (suc t))) counted.used.node)) (is_passing.near t v)

    two_is : line_at run counted.recent.two (suc (suc (suc t))) ≡ (is_far m t && grows m (suc t))
    unfolding held_at
    two_is =
        counted.is_recent.two t
        ∙ ap (λ x. x && nat_lt (run.at (suc t) counted.used.node) (run.at (suc (suc t)) counted.used.node)) (is_passing.far t v)

    known_is : m.known (suc (suc (suc t))) ≡ is_known m t
    known_is =
        ap (λ x. (x || line_at run counted.recent.one (suc (suc (suc t)))) || line_at run counted.recent.two (suc (suc (suc t)))) hit_is
        ∙ ap (λ x. (is_hit m t || x) || line_at run counted.recent.two (suc (suc (suc t)))) one_is
        ∙ ap (λ x. (is_hit m t || (is_near m t && grows m (suc (suc t)))) || x) two_is

    number_is : m.number (suc (suc (suc t))) ≡ number_of m t
    unfolding held_at
    number_is =
        chosen (hit_at run asked stored seen (suc (suc (suc t)))) (is_hit m t) (line_at run counted.recent.one (suc (suc (suc t)))) (is_near m t && grows m (suc (suc t)))
        (line_at run counted.recent.two (suc (suc (suc t)))) (is_far m t && grows m (suc t))
        (run.at (suc (suc (suc t))) counted.place.read.number.node) (place_read m t) (run.at (suc (suc (suc t))) counted.recent.before.node) (m.used (suc (suc t)))
        (run.at (suc (suc (suc t))) counted.recent.earlier.node) (m.used (suc t)) (m.used (suc (suc (suc t))))
        hit_is one_is two_is (counted.place.is_read.number (suc t) ∙ found_is) (counted.is_recent.before (suc t)) (counted.is_recent.earlier t)
      where
        chosen : (h i o p s u : Bool) (x y before early last far rest : ℕ) → h ≡ i → o ≡ p → s ≡ u → x ≡ y → before ≡ early → last ≡ far
            → (if h then x else (if o then before else (if s then last else rest))) ≡ (if i then y else (if p then early else (if u then far else rest)))
        chosen h i o p s u x y before early last far rest a1 a2 a3 a4 a5 a6 =
            ap (λ (z : Bool). if z then x else (if o then before else (if s then last else rest))) a1
            ∙ ap (λ (z : Bool). if i then x else (if z then before else (if s then last else rest))) a2
            ∙ ap (λ (z : Bool). if i then x else (if p then before else (if z then last else rest))) a3
            ∙ ap (λ (z : ℕ). if i then z else (if p then before else (if u then last else rest))) a4
            ∙ ap (λ (z : ℕ). if i then y else (if p then z else (if u then last else rest))) a5
            ∙ ap (λ (z : ℕ). if i then y else (if p then early else (if u then z else rest))) a6

  slot_is : (c : ℕ) → m.number (suc c) < n → m.slot (suc c) ≡ m.number (suc c)
  unfolding held_at
  slot_is c l = counted.place.key.told.slot c ∙ mod-eq_of_lt (omega (arith, l, fits))

  start_is : m.used 1 ≡ 0
  unfolding held_at
  start_is = counted.start

  used_is : (c : ℕ) → m.used (suc c) ≤ n → m.used (suc (suc c))
      ≡ (if m.ends (suc c) then 0 else (if m.first (suc c) then m.used (suc c) + 1 else m.used (suc c)))
  unfolding held_at
  used_is c le = counted.next c (one_more_fits keys.width n (run.at (suc c) counted.used.node) some fits le)

  places_are : (c k : ℕ) → m.place (suc (suc c)) k ≡ (if m.first (suc c) && nat_eq (m.value (suc c)) k then m.slot (suc c) else m.place (suc c) k)
  unfolding held_at line_at stored_of
  places_are c k = counted.place.words.writes (suc c) k

  keys_are : (c j : ℕ) → m.kept (suc (suc c)) j ≡ (if m.first (suc c) && nat_eq (m.slot (suc c)) j then m.value (suc c) else m.kept (suc c) j)
  unfolding held_at line_at stored_of
  keys_are c j = counted.place.key.words.writes (suc c) j

  maps : Maps n m
  maps = record {
    known = known_is;
    number = number_is;
    further = counted.place.key.told.decision.further;
    first = counted.place.key.told.decision.first;
    slot = slot_is;
    start = start_is;
    used = used_is;
    places = places_are;
    keys = keys_are;
  }

  asks : (t : ℕ) → m.valid t ≡ is_some (b.tuple t)
  asks t = ap (λ l. line_at run l t) same_valid ∙ sym (some_line run passing.late.valid passing.late.columns t)

  ends_with : (t : ℕ) → m.ends t ≡ b.ends t
  ends_with t = ap (λ l. line_at run l t) same_ends

  no_row : (carried run source).tuple 0 ≡ None
  no_row = tuple_by run source.valid source.columns 0 ∙ ap (λ (z : Bool). if z then Some (row_at run 0 source.columns) else None) (line_first run source.valid)

  quiet : (c : ℕ) → c < 3 → b.tuple c ≡ None
  quiet zero l = is_passing.delayed.before 0 (omega arith)
  quiet (suc zero) l = is_passing.delayed.before 1 (omega arith)
  quiet (suc (suc zero)) l = is_passing.delayed.tuples 0 ∙ no_row
  quiet (suc (suc (suc c))) l = absurd (omega (arith, l))

  -- ---- the lane in the cycle in which it is told

  abbrev lane : Lane
  lane = record {
    valid = line_at run told.decision.row;
    ends = line_at run passing.late.eos;
    slot = held_at 0 run told.slot;
    first = line_at run told.decision.first;
  }

  abbrev row : ℕ → Row
  row t = row_at run t passing.late.columns

  row_told : (c : ℕ) → lane.valid c ≡ (m.valid c && not (m.further c))
  row_told = counted.place.key.told.decision.row

  is_lane : IsKeyedLane n key b lane row
  is_lane = record {
    takes = λ c k. ap (λ (v : Bool). if nat_eq (lane.slot c) k then (if v then row c ∷ [] else []) else []) (row_told c)
        ∙ takes_row n key b m maps asks is_passing.key ends_with quiet row (λ t q p. row_is run passing.late.valid passing.late.columns t q p) c k;
    valid = λ c. row_told c ∙ kept_is n key b m maps asks is_passing.key ends_with quiet c;
    first = λ c. first_is n key b m maps asks is_passing.key ends_with quiet c;
    ends = λ c. refl;
  }

  module _ (r : KeyLane) (is_late : IsToldLate run passing.late told r) where
    goes_late : IsLaneLate lane (lane_of run r.wire r.slot r.first) row (rows_of run r.wire)
    unfolding held_at
    goes_late = record {
      no_row = line_first run r.wire.valid;
      no_first = line_first run r.first;
      no_end = line_first run r.wire.eos;
      rows = λ c. line_behind run told.decision.row r.wire.valid passing.late.columns r.wire.columns c (is_late.wire.tuples c);
      firsts = is_late.first;
      ends = λ c. let e : c + 1 ≡ suc c = omega arith in ap (line_at run r.wire.eos) (sym e) ∙ is_late.wire.ends c;
      slots = is_late.slot;
      values = λ c v. row_behind run told.decision.row r.wire.valid passing.late.columns r.wire.columns (suc c) (is_late.wire.tuples (suc c)) v;
    }

    further : (c : ℕ) → line_at run r.further c ≡ leaves_out n key (after b) c
    further zero = line_first run r.further ∙ sym (ap (is_further key (first_keys n key (after b) 0)) ((after_is b).before 0 (omega arith)))
    further (suc c) =
        let e : c + 1 ≡ suc c = omega arith in
        is_late.further c ∙ further_is n key b m maps asks is_passing.key ends_with quiet c
        ∙ sym (ap (leaves_out n key (after b)) (sym e) ∙ left_late 1 b (after b) (after_is b) n key c)

    pub lane_is : IsMapLane run keys source r
    lane_is = record {
      late = after b;
      behind = delayed_both 2 1 (carried run source) b (after b) is_passing.delayed (after_is b);
      lane = lanes_late n key b (after b) lane (lane_of run r.wire r.slot r.first) row (rows_of run r.wire) is_lane (quiet 0 (omega arith)) (after_is b) goes_late;
      further = further;
    }
