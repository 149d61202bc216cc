-- One wire for all slots, from its parts.
use Rattle.std.proofs.Common.{◌≡◌, ℕ, zero, suc, ◌<◌, ◌≤◌, List, [], Option, Some, None, Bool, true, false, refl, sym, ap, ◌∙◌, subst, arith}
use Rattle.std.specs.Prelude.{slice_get, not, ◌&&◌, ◌||◌, if◌then◌else◌, nat_eq}
use Rattle.std.specs.List.{list_any}
use Rattle.gl_values.specs.Results.{Row}
use Rattle.gl_wire.specs.declared.wire.Wire.{Wire}
use Rattle.gl_wire.specs.Wire.{Carried, carried, line_at, row_at, tuple_at}
use Rattle.gl_wire_lanes.specs.Lanes.{Lane}
use Rattle.gl_wire_lanes.specs.Shares.{lane_of, share, slot_of}
use Rattle.gl_wire_registers.specs.Held.{held_at}
use Rattle.gl_wire_registers.specs.Lines.{any_to, held_of, line_of}
use Rattle.gl_wire_registers.proofs.LineLemmas.{any_same}
use Rattle.gl_groups.specs.declared.lane.LaneLines.{LaneLines}
use Rattle.gl_groups.specs.Ahead.{sought_in}
use Rattle.gl_slots.specs.Seeking.{is_next}
use Rattle.gl_groups.specs.Firsts.{TellsNew, ends_at, is_begun, takes_row_at}
use Rattle.gl_slots.specs.Fronts.{KeysCome, column_of}
use Rattle.gl_slots.specs.Keys.{AreKeys, AwaitsTurns}
use Rattle.gl_groups.specs.Lanes.{IsLane}
use Rattle.gl_slots.specs.SlotLines.{TakeKeys}
use Rattle.gl_slots.specs.Slots.{AreSlots, freed, further_line, is_further, keys_at, slot_at, slot_ends_at, slot_takes, slots_at}
use Rattle.gl_groups.proofs.EventLemmas.{IsOne, TellsFirst, begins_are, share_end, share_row, within}
use Rattle.gl_groups.proofs.FirstLemmas.{first_awaited}
use Rattle.gl_groups.proofs.LaneKeys.{one_next, same_words}
use Rattle.gl_groups.proofs.LaneMachine.{ends_late, keys_late, slots_late, takes_late, takes_some, unique_event}
use Rattle.gl_groups.proofs.LaneRun.{Running, all, ended_in, ends_in, end_in, finds, further_at, is_key, mirrors, one_at, row_in, slot_event, taken_in, takes_in}

module _ (set : Running) where
  open set use {run, source, late, key, count, stride, width, apart, f, h, o, last, here, r, m, is_late, is_r, is_m}

  abbrev some : 1 ≤ count
  some = set.some'

  abbrev a : Carried
  a = carried run source

  abbrev b : Carried
  b = carried run late

  abbrev key_of : Row → ℕ
  key_of = column_of key

  -- ---- the source one cycle later

  no_tuple : b.tuple 0 ≡ None
  unfolding tuple_at line_at
  no_tuple = refl

  no_end : b.ends 0 ≡ false
  unfolding line_at
  no_end = refl

  tuples : (c : ℕ) → b.tuple (suc c) ≡ a.tuple c
  unfolding tuple_at line_at
  tuples zero = ap (λ (x : Bool). if x then Some (row_at run 1 late.columns) else None) (is_late.valid 0)
  tuples (suc c) =
      ap (λ (x : Bool). if x then Some (row_at run (suc (suc c)) late.columns) else None) (is_late.valid (suc c))
      ∙ ap (λ (x : Row). if line_at run source.valid (suc c) then Some x else None) (is_late.row c) ∙ by (line_at run source.valid (suc c)) (row_at run (suc c) source.columns) (row_at run (suc c) late.columns)
    where
      by : (x : Bool) (p q : Row) → (if x then Some (if x then p else q) else None) ≡ (if x then Some p else None)
      by true p q = refl
      by false p q = refl

  -- ---- what is told, cycle by cycle of the source

  abbrev taken : ℕ → ℕ → Bool
  taken k c = taken_in set k (suc c)

  abbrev ended : ℕ → ℕ → Bool
  ended k c = ended_in set k (suc c)

  takes_are : (k c : ℕ) → k < count → (if taken k c then Some (row_at run (suc c) late.columns) else None) ≡ slot_takes key_of (a.ends c) (a.tuple c) (keys_at count key_of stride a c) (slots_at count key_of stride a c) k
  takes_are k c l =
      takes_in set k (suc c) l ∙ takes_late count stride key_of a b no_tuple no_end tuples is_late.eos k c

  ends_are : (k c : ℕ) → k < count → ended k c ≡ (slot_ends_at count key_of stride a c && nat_eq k (slot_at count key_of stride a c))
  ends_are k c l =
      ends_in set k (suc c) l ∙ ends_late count stride key_of a b no_tuple no_end tuples is_late.eos k c

  abbrev wire : Wire
  wire = record { valid = m.row; eos = m.end; columns = late.columns }

  abbrev lane : Lane
  lane = lane_of run wire m.slot m.first

  one_lane : IsOne count taken ended lane
  unfolding line_at
  one_lane = record {
    unique = unique_event count stride key_of a (λ c. row_at run (suc c) late.columns) taken ended takes_are ends_are;
    no_row = refl;
    no_end = refl;
    row = λ c. row_in set (suc c);
    end = λ c. end_in set (suc c);
    slot = λ k c l q. slot_event set k c l q;
  }

  no_first : (x : Bool) (p : Option Row) → p ≡ None → (if x then p else None) ≡ None
  no_first true p q = q
  no_first false p q = refl

  low_first : (x : Bool) → (x && false) ≡ false
  low_first true = refl
  low_first false = refl

  front : AreSlots count key_of stride a (λ k. share (slot_of run m.slot) k (carried run wire))
  unfolding tuple_at line_at
  front = record {
    no_tuple = λ k l. no_first (nat_eq (slot_of run m.slot 0) k) ((carried run wire).tuple 0) refl;
    no_end = λ k l. low_first (nat_eq (slot_of run m.slot 0) k);
    tuples = λ k c l. share_row count taken ended lane one_lane (Some (row_at run (suc c) late.columns)) k c l ∙ takes_are k c l;
    ends = λ k c l. share_end count taken ended lane one_lane k c l ∙ ends_are k c l;
  }

  within_at : (c : ℕ) → (line_at run m.row c || line_at run m.end c) ≡ true → slot_of run m.slot c < count
  unfolding line_at
  within_at zero q = absurd (cc)
  within_at (suc c) q = within count taken ended lane one_lane c q

  -- ---- where streams begin

  abbrev new : ℕ → Bool
  new c = line_at run m.key.new (suc c)

  tells_new : TellsNew count key_of stride a new
  unfolding tuple_at
  tells_new = record { comes = comes; stays = stays }
    where
      valid_of : (x : Bool) (p : Row) (rr : Row) → (if x then Some p else None) ≡ Some rr → (x ≡ true) × (p ≡ rr)
      valid_of true p rr q = (refl, cc)
      valid_of false p rr q = absurd (cc)

      none_of : (x : Bool) (p : Row) → (if x then Some p else None) ≡ None → x ≡ false
      none_of true p q = absurd (cc)
      none_of false p q = refl

      freed_is : (g : Bool) (xs : List ℕ) (v e : Bool) → v ≡ true → (if g && (v || e) then [] else xs) ≡ (if g then [] else xs)
      freed_is true xs true e q = refl
      freed_is false xs true e q = refl
      freed_is g xs false e q = absurd (cc)

      comes : (c : ℕ) (rr : Row) → a.tuple c ≡ Some rr → new c ≡ not (list_any (nat_eq (key_of rr)) (freed (slots_at count key_of stride a c)))
      comes c rr q =
          let at = valid_of (line_at run late.valid (suc c)) (row_at run (suc c) late.columns) rr (tuples c ∙ q) in
          let late_slots = slots_late count stride key_of a b no_tuple no_end tuples is_late.eos c in
          let value = is_key set (suc c) at.0 ∙ ap key_of at.1 in
          let one = one_at set (suc c) at.0 in
          let base = freed_is (slots_at count key_of stride b (suc c)).flush (slots_at count key_of stride b (suc c)).keys (line_at run late.valid (suc c)) (line_at run late.eos (suc c)) at.0 in
          is_m.new_is (suc c)
          ∙ ap (λ x. (x && not (line_at run r.sought.one.one (suc c))) || (line_at run m.key.was (suc c) && not x)) at.0
          ∙ low (line_at run r.sought.one.one (suc c)) (line_at run m.key.was (suc c))
          ∙ ap not (one ∙ ap (λ n. list_any (nat_eq n) (if (slots_at count key_of stride b (suc c)).flush && (line_at run late.valid (suc c) || line_at run late.eos (suc c)) then [] else (slots_at count key_of stride b (suc c)).keys)) value
          ∙ ap (list_any (nat_eq (key_of rr))) (base ∙ ap freed late_slots))
        where
          low : (x y : Bool) → ((true && not x) || (y && not true)) ≡ not x
          low true true = refl
          low true false = refl
          low false y = refl

      stays : (c : ℕ) → a.tuple (suc c) ≡ None → new (suc c) ≡ new c
      stays c q =
          let low = none_of (line_at run late.valid (suc (suc c))) (row_at run (suc (suc c)) late.columns) (tuples (suc c) ∙ q) in
          is_m.new_is (suc (suc c))
          ∙ ap (λ x. (x && not (line_at run r.sought.one.one (suc (suc c)))) || (line_at run m.key.was (suc (suc c)) && not x)) low
          ∙ same (line_at run m.key.was (suc (suc c))) ∙ is_m.next (suc c)
        where
          same : (y : Bool) → ((false && not (line_at run r.sought.one.one (suc (suc c)))) || (y && not false)) ≡ y
          same true = refl
          same false = refl

  abbrev begun : ℕ → ℕ → Bool
  begun k c = is_begun count key_of stride a k c

  row_any : (c : ℕ) → any_to count (λ k. taken k c) ≡ any_to count (λ k. takes_row_at count key_of stride a k c)
  row_any c = any_same count (λ k. taken k c) (λ k. takes_row_at count key_of stride a k c) (λ k l. takes_some count stride key_of a (λ c. row_at run (suc c) late.columns) taken ended takes_are ends_are k c l)

  begins_at : AwaitsTurns count stride a → (c : ℕ) → line_at run m.first (suc c) ≡ any_to count (λ k. (taken k c || ended k c) && not (begun k c))
  begins_at awaits c =
      is_m.first (suc c) ∙ ap (λ x. x && new c) (one_lane.row c ∙ row_any c)
      ∙ first_awaited count key_of stride a some apart awaits new tells_new c
      ∙ sym (any_same count (λ k. (taken k c || ended k c) && not (begun k c)) (λ k. (takes_row_at count key_of stride a k c || ends_at count key_of stride a k c) && not (begun k c)) each)
    where
      each : (k : ℕ) → k < count → ((taken k c || ended k c) && not (begun k c)) ≡ ((takes_row_at count key_of stride a k c || ends_at count key_of stride a k c) && not (begun k c))
      each k l =
          ap (λ x. (x || ended k c) && not (begun k c)) (takes_some count stride key_of a (λ c. row_at run (suc c) late.columns) taken ended takes_are ends_are k c l)
          ∙ ap (λ x. (takes_row_at count key_of stride a k c || x) && not (begun k c)) (ends_are k c l)

  tells_first : AwaitsTurns count stride a → TellsFirst count taken ended begun lane
  unfolding line_at is_begun
  tells_first awaits = record {
    before = λ k. refl;
    after = λ k c l.
        ap (λ x. (x || begun k c) && not (ends_at count key_of stride a k c)) (sym (takes_some count stride key_of a (λ c. row_at run (suc c) late.columns) taken ended takes_are ends_are k c l))
        ∙ ap (λ x. (taken k c || begun k c) && not x) (sym (ends_are k c l));
    no_first = refl;
    begins = begins_at awaits;
  }

  -- ---- keys, and further ones

  slots_shown : (k c z : ℕ) → k < count → slice_get (slots_at count key_of stride a c).keys k ≡ Some z → ((all set).used k (suc c) ≡ true) × (held_of run r.sought.keys k (suc c) ≡ z)
  slots_shown k c z l there =
      let mirror = mirrors set (suc c) in
      by ((all set).used k (suc c)) (held_of run r.sought.keys k (suc c)) z
      (sym (mirror.slots k l) ∙ ap (λ q. slice_get q.keys k) (slots_late count stride key_of a b no_tuple no_end tuples is_late.eos c) ∙ there)
    where
      by : (x : Bool) (p z : ℕ) → (if x then Some p else None) ≡ Some z → (x ≡ true) × (p ≡ z)
      by true p z q = (refl, cc)
      by false p z q = absurd (cc)

  told_at : (c : ℕ) → line_at run r.sought.passes c ≡ further_line count key_of stride a c
  unfolding line_at
  told_at zero = refl
  told_at (suc c) =
      further_at set (suc c)
      ∙ ap (λ ks. is_further key_of ks (b.tuple (suc c))) (keys_late count stride key_of a b no_tuple no_end tuples is_late.eos c) ∙ ap (is_further key_of (keys_at count key_of stride a c)) (tuples c)

  nexts_are : (k t : ℕ) → k < count → line_of run r.sought.asked.nexts k t ≡ is_next (sought_in (all set) t) k
  nexts_are = is_r.nexts

  shown : AreKeys count key_of stride 1 a (held_of run r.sought.keys)
  shown = record {
    shown = λ k c d z l at there. (let same : suc c ≡ d = omega (arith, at) in subst (λ t. held_of run r.sought.keys k t ≡ z) same (slots_shown k c z l there).1);
  }

  registers : TakeKeys run count r.sought.asked.nexts last (held_of run r.sought.keys)
  registers k t l =
      is_r.goes.key k (suc t) l ∙ ap (λ (x : Bool). if x then held_at 0 run last (suc t) else held_of run r.sought.keys k (suc t)) (sym (nexts_are k (suc t) l))

  words_shown : (words : ℕ → ℕ → ℕ) → TakeKeys run count r.sought.asked.nexts last words → AreKeys count key_of stride 1 a words
  words_shown words take = record {
    shown = λ k c d z l at there.
        (let same : suc c ≡ d = omega (arith, at) in
        let p = slots_shown k c z l there in
        subst (λ t. words k t ≡ z) same (same_words count (all set) is_r.goes (finds set) words (λ k t l. take k t l ∙ ap (λ (x : Bool). if x then held_at 0 run last (suc t) else words k (suc t)) (nexts_are k (suc t) l)) k (suc c) l p.0 ∙ p.1));
  }

  come : KeysCome run key count stride 1 source r.sought.asked.nexts last r.sought.keys
  come = record {
    one = λ j k t l n p q. one_next count (all set) is_r.goes (finds set) j k t l n (sym (nexts_are j t l) ∙ p) (sym (nexts_are k t n) ∙ q);
    registers = registers;
    words = words_shown;
  }

  abbrev pub lines : LaneLines
  lines = record { wire = wire; slot = m.slot; first = m.first; keys = r.sought.keys; nexts = r.sought.asked.nexts; here = last; further = r.sought.passes }

  pub lane_is : IsLane run key count stride source lines
  lane_is = record {
    front = front;
    within = within_at;
    begins = λ awaits. begins_are count taken ended lane one_lane begun (tells_first awaits);
    shown = shown;
    come = come;
    told = told_at;
  }
