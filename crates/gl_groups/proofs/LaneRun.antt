-- The machine of slots one cycle behind its source, in one run.
use Rattle.std.proofs.Common.{◌≡◌, ℕ, zero, suc, ◌-◌, ◌<◌, ◌≤◌, ◌^◌, [], Some, None, Bool, true, false, refl, sym, ap, ◌∙◌, subst, arith, inl, inr}
use Rattle.std.specs.Prelude.{slice_get, not, ◌&&◌, ◌||◌, if◌then◌else◌, nat_eq, nat_lt}
use Rattle.std.specs.List.{list_any}
use Rattle.gl_values.specs.Results.{Row}
use Rattle.gl_bits.proofs.Bools.{not_both, or_cases}
use Rattle.gl_net.specs.declared.node.Bus.{Bus}
use Rattle.gl_net.specs.Net.{Run}
use Rattle.gl_wire.specs.declared.wire.Wire.{Wire}
use Rattle.gl_wire.specs.Wire.{carried, line_at, row_at, tuple_at}
use Rattle.gl_wire.proofs.ColumnLemmas.{row_at-value}
use Rattle.gl_wire_lanes.specs.Shares.{slot_of}
use Rattle.gl_wire_registers.specs.Held.{counted_down, held_at}
use Rattle.gl_wire_registers.specs.Lines.{any_to, held_of, line_of}
use Rattle.gl_wire_registers.proofs.LineLemmas.{line_of-first}
use Rattle.gl_groups.specs.declared.finding.Asking.{Asking}
use Rattle.gl_groups.specs.declared.finding.SlotsFound.{SlotsFound}
use Rattle.gl_groups.specs.declared.lane.HeldEnd.{HeldEnd}
use Rattle.gl_groups.specs.declared.lane.Over.{Over}
use Rattle.gl_groups.specs.declared.lane.Told.{Told}
use Rattle.gl_groups.specs.declared.lane.Turns.{Turns}
use Rattle.gl_slots.specs.declared.parts.Flush.{Flush}
use Rattle.gl_groups.specs.Ahead.{Ahead, Finds, head_in, sought_in}
use Rattle.gl_groups.specs.Finding.{AreFound, ahead_in}
use Rattle.gl_slots.specs.Fronts.{column_of}
use Rattle.gl_groups.specs.Lanes.{IsLate, IsTold, end_line, row_line, slot_number}
use Rattle.gl_slots.specs.Parts.{IsFlush}
use Rattle.gl_slots.specs.Seeking.{found, has, is_next, kept}
use Rattle.gl_slots.specs.Slots.{Slots, is_further, keys_at, no_slots, slot_at, slot_ends_at, slot_takes, slots_at}
use Rattle.gl_groups.specs.Telling.{passes_in, row_told, slot_told, turn_of}
use Rattle.gl_slots.specs.Values.{Cycle, Mirrors, Steps, Values, due_of, end_of, sought_of, valid_of}
use Rattle.gl_groups.proofs.AheadLemmas.{ahead_finds}
use Rattle.gl_slots.proofs.MachineLemmas.{end_is, further_is, mirrors_next, one_is, taken_is}
use Rattle.gl_groups.proofs.TellLemmas.{home_within}
use Rattle.gl_groups.proofs.TellLemmas.{end_is as end_told_is, passes_is as passes_told, row_is as row_told_is, slot_is as slot_told_is}

-- what asks the slots, and whose turn it is
abbrev pub asking_of : Wire → Wire → Flush → Bus → Bus → Asking
asking_of source late f last here = record { free = f.free; ask = late.valid; last = last; come = source.valid; here = here }

abbrev pub turns_of : Flush → HeldEnd → Over → Turns
turns_of f h o = record { due = f.due; with_end = h.with_end; held = h.held; over = o.over }

-- a lane's lines in a run, with what is known of each
pub record Running : Type 0 where
  pub run : Run
  pub source : Wire
  pub late : Wire
  pub key : ℕ
  pub count : ℕ
  pub stride : ℕ
  pub width : ℕ
  pub some' : 1 ≤ count
  pub apart : 1 ≤ stride
  pub fits : count ≤ 2 ^ width
  pub f : Flush
  pub h : HeldEnd
  pub o : Over
  pub last : Bus
  pub here : Bus
  pub r : SlotsFound
  pub m : Told
  pub at_last : slice_get late.columns key ≡ Some last
  pub is_late : IsLate run source late
  pub is_f : IsFlush run late.valid late.eos stride f
  pub with_end : (t : ℕ) → line_at run h.with_end t ≡ (line_at run late.eos t && line_at run late.valid t)
  pub held : (t : ℕ) → line_at run h.held (suc t) ≡ ((line_at run late.eos t && line_at run late.valid t) || (line_at run h.held t && not (line_at run late.eos t)))
  pub rest : (t : ℕ) → held_at count run o.rest (suc t) ≡ counted_down (count - 1) 0 (line_at run late.eos t) (line_at run f.due t) (held_at count run o.rest t)
  pub over : (t : ℕ) → held_at 0 run o.over t ≡ count - held_at count run o.rest t
  pub is_r : AreFound run (asking_of source late f last here) count r
  pub is_m : IsTold run late r.sought (turns_of f h o) width m

module _ (set : Running) where
  open set use {run, source, late, key, count, stride, width, f, h, o, last, here, r, m, at_last, is_late, is_f, with_end, held, rest, over, is_r, is_m}

  abbrev some : 1 ≤ count
  some = set.some'

  abbrev pub all : Ahead
  all = ahead_in run (asking_of source late f last here) r.used r.sought is_r.met

  pub finds : Finds count all
  finds = ahead_finds count all some is_r.goes

  abbrev pub e : ℕ → Bool
  e c = line_at run late.eos c

  abbrev pub v : ℕ → Bool
  v c = line_at run late.valid c

  abbrev pub x : ℕ → Row
  x c = row_at run c late.columns

  abbrev pub y : ℕ → ℕ
  y c = held_at 0 run last c

  -- the row that came last before a cycle
  abbrev row_before : ℕ → Row
  row_before zero = []
  row_before (suc c) = x c

  abbrev pub at : ℕ → Values
  at c = record {
    used = λ k. line_of run r.used k c;
    key = λ k. held_of run r.sought.keys k c;
    flush = line_at run f.flush c;
    rest = held_at count run o.rest c;
    wait = held_at 0 run f.wait c;
    held = line_at run h.held c;
    row = row_before c;
  }

  abbrev pub cycle : ℕ → Cycle
  cycle c = record { end = e c; valid = v c; row = x c; value = y c }

  same : (c : ℕ) → sought_in all c ≡ sought_of (cycle c) (at c)
  same c = ap (λ (b : Bool). record { used = λ k. line_of run r.used k c; key = λ k. held_of run r.sought.keys k c; free = b; ask = v c; value = y c }) (is_f.free c)

  due_is : (c : ℕ) → line_at run f.due c ≡ due_of (cycle c) (at c)
  due_is c = is_f.due c ∙ ap (λ b. b && nat_eq (held_at 0 run f.wait c) 0) (is_f.idle c)

  pub is_key : (c : ℕ) → v c ≡ true → y c ≡ column_of key (x c)
  unfolding line_at held_at
  is_key zero q = absurd (cc)
  is_key (suc c) q = sym (row_at-value run (suc c) late.columns key last at_last)

  -- the columns stay where no row comes
  row_stays : (c : ℕ) → v (suc (suc c)) ≡ false → x (suc (suc c)) ≡ x (suc c)
  row_stays c q = is_late.row c ∙ ap (λ (b : Bool). if b then row_at run (suc c) source.columns else x (suc c)) (sym (is_late.valid (suc c)) ∙ q)

  row_step : (c : ℕ) → (v c || line_at run f.flush c) ≡ true → x c ≡ (if v c then x c else row_before c)
  unfolding line_at
  row_step zero q = absurd (cc)
  row_step (suc zero) q =
      let low : v 1 ≡ false = is_late.valid 0 in
      let calm : line_at run f.flush 1 ≡ false = is_f.next 0 in
      elim (or_cases (v 1) (line_at run f.flush 1) q) [
        | inl p ↦ absurd (not_both (v 1) p low)
        | inr p ↦ absurd (not_both (line_at run f.flush 1) p calm)
      ]
  row_step (suc (suc c)) q = by (v (suc (suc c))) (row_stays c)
    where
      by : (b : Bool) → (b ≡ false → x (suc (suc c)) ≡ x (suc c)) → x (suc (suc c)) ≡ (if b then x (suc (suc c)) else x (suc c))
      by true g = refl
      by false g = g refl

  value_step : (c : ℕ) → (v c || line_at run f.flush c) ≡ true → y c ≡ column_of key (if v c then x c else row_before c)
  unfolding line_at held_at
  value_step zero q = absurd (cc)
  value_step (suc c) q = sym (row_at-value run (suc c) late.columns key last at_last) ∙ ap (column_of key) (row_step (suc c) q)

  pub steps : (c : ℕ) → Steps count stride (column_of key) (cycle c) (at c) (at (suc c))
  steps c = record {
    used = λ k l. finds.used k c l ∙ ap (λ s. has count s k) (same c);
    keys = λ k l. is_r.goes.key k c l ∙ ap (λ s. if is_next s k then y c else held_of run r.sought.keys k c) (same c);
    flush = is_f.next c;
    rest = rest c ∙ ap (λ b. counted_down (count - 1) 0 (e c) b (held_at count run o.rest c)) (due_is c);
    wait = is_f.next_wait c ∙ ap (λ b. counted_down (stride - 1) (stride - 1) (e c) b (held_at 0 run f.wait c)) (is_f.idle c);
    held = held c;
    row = row_step c;
    value = value_step c;
  }

  abbrev pub s : ℕ → Slots
  s c = slots_at count (column_of key) stride (carried run late) c

  mirrors_first : Mirrors count no_slots (at 0)
  unfolding held_at line_at
  mirrors_first = record {
    slots = λ k l. ap (λ (b : Bool). if b then Some (held_of run r.sought.keys k 0) else None) (sym (line_of-first run r.used k));
    few = omega arith;
    flush = refl;
    rest = omega arith;
    wait = refl;
    held = λ q. absurd (cc);
  }

  pub mirrors : (c : ℕ) → Mirrors count (s c) (at c)
  unfolding tuple_at
  mirrors zero = mirrors_first
  mirrors (suc c) = mirrors_next count stride (column_of key) some (s c) (at c) (mirrors c) (e c) (v c) (x c) (y c) (is_key c) (at (suc c)) (steps c)

  -- ---- what is told

  abbrev pub taken_in : ℕ → ℕ → Bool
  taken_in k c = valid_of count (cycle c) (at c) k

  abbrev pub ended_in : ℕ → ℕ → Bool
  ended_in k c = end_of count (cycle c) (at c) k

  pub takes_in : (k c : ℕ) → k < count
      → (if taken_in k c then Some (x c) else None) ≡ slot_takes (column_of key) (e c) ((carried run late).tuple c) (keys_at count (column_of key) stride (carried run late) c) (s c) k
  unfolding tuple_at
  takes_in k c l = sym (taken_is count stride (column_of key) some (s c) (at c) (mirrors c) (e c) (v c) (x c) (y c) (is_key c) (at (suc c)) (steps c) k l)

  pub ends_in : (k c : ℕ) → k < count → ended_in k c ≡ (slot_ends_at count (column_of key) stride (carried run late) c && nat_eq k (slot_at count (column_of key) stride (carried run late) c))
  unfolding tuple_at
  ends_in k c l = end_is count stride (column_of key) some (s c) (at c) (mirrors c) (e c) (v c) (x c) (y c) (is_key c) k l

  row_lines : (c : ℕ) → row_line late r.sought (turns_of f h o) run c ≡ row_told count (cycle c) (at c) all c
  unfolding row_line
  row_lines c =
      let head = head_in all c in
      ap (λ b. (((v c && not (e c)) && not b) || (line_at run h.with_end c && not (line_of run r.sought.kept 0 c && not head))) || ((line_at run f.due c && line_at run h.held c) && (all.had c && nat_eq (all.home c) (held_at 0 run o.over c))))
      (is_r.passes c)
      ∙ ap (λ b. (((v c && not (e c)) && not (passes_in count all c)) || (b && not (line_of run r.sought.kept 0 c && not head))) || ((line_at run f.due c && line_at run h.held c) && (all.had c && nat_eq (all.home c) (held_at 0 run o.over c))))
      (with_end c)
      ∙ ap (λ b. (((v c && not (e c)) && not (passes_in count all c)) || ((e c && v c) && not (b && not head))) || ((line_at run f.due c && line_at run h.held c) && (all.had c && nat_eq (all.home c) (held_at 0 run o.over c))))
      (is_r.kept 0 c (omega (arith, some)))
      ∙ ap (λ b. (((v c && not (e c)) && not (passes_in count all c)) || ((e c && v c) && not (kept (sought_in all c) 0 && not head))) || ((b && line_at run h.held c) && (all.had c && nat_eq (all.home c) (held_at 0 run o.over c))))
      (due_is c)
      ∙ ap (λ n. (((v c && not (e c)) && not (passes_in count all c)) || ((e c && v c) && not (kept (sought_in all c) 0 && not head))) || ((due_of (cycle c) (at c) && line_at run h.held c) && (all.had c && nat_eq (all.home c) n)))
      (over c)

  pub row_in : (c : ℕ) → line_at run m.row c ≡ any_to count (λ k. taken_in k c)
  row_in c =
      is_m.row c ∙ row_lines c
      ∙ row_told_is count some (s c) (at c) (mirrors c) (cycle c) all finds c (same c) (home_within count all is_r.goes finds c)

  pub end_in : (c : ℕ) → line_at run m.end c ≡ any_to count (λ k. ended_in k c)
  unfolding end_line
  end_in c =
      is_m.end c ∙ ap (λ b. (b && nat_lt (held_at 0 run o.over c) (all.many c)) || (e c && (v c || line_of run r.sought.kept 0 c))) (due_is c)
      ∙ ap (λ n. (due_of (cycle c) (at c) && nat_lt n (all.many c)) || (e c && (v c || line_of run r.sought.kept 0 c))) (over c)
      ∙ ap (λ b. (due_of (cycle c) (at c) && nat_lt (turn_of count (at c)) (all.many c)) || (e c && (v c || b))) (is_r.kept 0 c (omega (arith, some)))
      ∙ end_told_is count some (s c) (at c) (mirrors c) (cycle c) all finds c (same c)

  slot_number_is : (c : ℕ) → slot_number run late.eos (turns_of f h o) r.sought.place.number c ≡ slot_told count (cycle c) (at c) all c
  slot_number_is c =
      ap (λ b. if e c || b then (if e c then 0 else held_at 0 run o.over c) else all.number c) (due_is c)
      ∙ ap (λ n. if e c || due_of (cycle c) (at c) then (if e c then 0 else n) else all.number c) (over c)

  pub slot_event : (k c : ℕ) → k < count → (taken_in k (suc c) || ended_in k (suc c)) ≡ true → slot_of run m.slot (suc c) ≡ k
  slot_event k c l q =
      let number = slot_number_is (suc c) ∙ slot_told_is count some (s (suc c)) (at (suc c)) (mirrors (suc c)) (cycle (suc c)) all finds (suc c) (same (suc c)) k l q in
      is_m.slot c (subst (λ i. i < 2 ^ width) (sym number) (omega (arith, l, set.fits))) ∙ number

  -- a row of a further key
  pub further_at : (c : ℕ) → line_at run r.sought.passes c ≡ is_further (column_of key) (keys_at count (column_of key) stride (carried run late) c) ((carried run late).tuple c)
  unfolding tuple_at
  further_at c =
      is_r.passes c ∙ passes_told count some (s c) (at c) (mirrors c) (cycle c) all finds c (same c)
      ∙ further_is count stride (column_of key) some (s c) (at c) (mirrors c) (e c) (v c) (x c) (y c) (is_key c)

  -- whether a slot has the key that comes
  pub one_at : (c : ℕ) → v c ≡ true → line_at run r.sought.one.one c ≡ list_any (nat_eq (y c)) (if (s c).flush && (v c || e c) then [] else (s c).keys)
  one_at c q = finds.one c ∙ ap (λ z. any_to count (found z)) (same c) ∙ one_is count stride (column_of key) some (s c) (at c) (mirrors c) (e c) (v c) (x c) (y c) (is_key c) q
