-- A level takes rows one level on.
use Rattle.std.proofs.Common.{◌≡◌, ℕ, zero, suc, ◌+◌, ◌<◌, ◌≤◌, ◌^◌, Option, Some, None, Bool, true, false, refl, sym, ap, ◌∙◌, subst, arith}
use Rattle.std.specs.Prelude.{◌*◌, ◌%◌, not, ◌&&◌, ◌||◌, if◌then◌else◌, is_some, nat_eq, slice_get, slice_index}
use Rattle.gl_bits.proofs.Bools.{and_left, and_right, not_both}
use Rattle.gl_values.specs.Results.{Row}
use Rattle.gl_net.specs.declared.node.Bus.{Bus}
use Rattle.gl_net.specs.Net.{Run}
use Rattle.gl_wire.specs.declared.wire.Wire.{Wire}
use Rattle.gl_wire.specs.Shapes.{IsDelayed}
use Rattle.gl_wire.specs.Wire.{carried, line_at, row_at}
use Rattle.gl_wire.proofs.ColumnLemmas.{row_at-value}
use Rattle.gl_wire.proofs.StageLemmas.{line_first}
use Rattle.gl_wire_registers.specs.Held.{held_at}
use Rattle.gl_frames_keys.proofs.LateLemmas.{delayed_both}
use Rattle.gl_frames_lanes.specs.LaneNets.{key_in}
use Rattle.gl_frames_lanes.specs.declared.lane.Keys.{Keys}
use Rattle.gl_frames_lanes.proofs.LaneNet.{after, after_is, line_behind, row_behind}
use Rattle.gl_frames_tree.specs.declared.level.Climb.{Climb}
use Rattle.gl_frames_tree.specs.declared.level.Told.{Told}
use Rattle.gl_frames_tree.specs.declared.looking.Stand.{Stand}
use Rattle.gl_frames_tree.specs.declared.parts.Digit.{Digit}
use Rattle.gl_frames_tree.specs.Growing.{IsAfter, Leads, Level, Numbered, Numbers, children_of, line_after, number_after}
use Rattle.gl_frames_tree.specs.LevelNets.{IsCounted, bit_of_key, digit_of}
use Rattle.gl_frames_tree.specs.TreeNets.{IsClimb, IsStage, name_before, rows_at_level}
use Rattle.gl_frames_tree.proofs.GrowLemmas.{children_numbered}
use Rattle.gl_frames_tree.proofs.LateNumbers.{numbers_late}
use Rattle.gl_frames_tree.proofs.LeadLemmas.{lead_children, lead_late, no_node}
use Rattle.gl_frames_tree.proofs.LevelNet.{grows, v}
use Rattle.gl_frames_tree.proofs.PartLemmas.{digit_few, name_step}

module _ (run : Run) (keys : Keys) (some : 1 ≤ keys.width) (fits : keys.groups ≤ 2 ^ keys.width) (source : Wire) (levels rest : ℕ) (climb r : Climb) (digit : Digit) (told : Told) (here : Bus)
    (at_here : slice_get climb.wire.columns keys.column ≡ Some here)
    (high : (t : ℕ) → line_at run digit.high (suc t) ≡ bit_of_key (2 * rest + 1) (run.at (suc t) here.node))
    (low : (t : ℕ) → line_at run digit.low (suc t) ≡ bit_of_key (2 * rest) (run.at (suc t) here.node))
    (counted : IsCounted run keys (record { valid = climb.wire.valid; ends = climb.wire.eos; fresh = climb.fresh; node = climb.node; next = climb.next; digit = digit }) told)
    (is : IsStage run climb told r) (same_next : r.next ≡ told.seen) (h : IsClimb levels (suc rest) run keys source climb) where
  abbrev n : ℕ
  n = keys.groups

  abbrev key : Row → ℕ
  key = key_in keys.column

  abbrev stand : Stand
  stand = record { valid = climb.wire.valid; ends = climb.wire.eos; fresh = climb.fresh; node = climb.node; next = climb.next; digit = digit }

  abbrev level : Level
  level = v run keys some fits stand told counted h.asks h.name h.next

  abbrev m : Numbered
  m = children_of level

  few : (c : ℕ) → level.digit c < 4
  few c = digit_few (line_at run digit.high c) (line_at run digit.low c)

  children : Numbers n m
  children = children_numbered n level h.numbered (grows run keys some fits stand told counted h.asks h.name h.next) few h.quiet

  -- the key's name goes on by the digit
  key_is : (t : ℕ) (row : Row) → h.late.tuple (suc t) ≡ Some row → line_at run climb.wire.valid (suc t) ≡ true → run.at (suc t) here.node ≡ key row
  key_is t row p e = sym (row_at-value run (suc t) climb.wire.columns keys.column here at_here) ∙ ap (λ xs. slice_index xs keys.column) (h.rows (suc t) row p e)

  name_is : (t : ℕ) (row : Row) → h.late.tuple t ≡ Some row → line_at run climb.wire.valid t ≡ true → name_before (suc rest) (key row) * 4 + level.digit t ≡ name_before rest (key row)
  name_is zero row p e = absurd (not_both (line_at run climb.wire.valid 0) e (line_first run climb.wire.valid))
  name_is (suc t) row p e =
      let at_key = key_is t row p e in
      ap (λ (b : Bool). name_before (suc rest) (key row) * 4 + digit_of b (line_at run digit.low (suc t))) (high t ∙ ap (bit_of_key (2 * rest + 1)) at_key)
      ∙ ap (λ (b : Bool). name_before (suc rest) (key row) * 4 + digit_of (bit_of_key (2 * rest + 1) (key row)) b) (low t ∙ ap (bit_of_key (2 * rest)) at_key)
      ∙ name_step rest (key row)

  lead : Leads n key h.late (name_before rest) m
  lead = lead_children n key h.late (name_before (suc rest)) (name_before rest) level h.numbered h.leads name_is

  -- ---- one cycle later

  abbrev d : Numbered
  d = rows_at_level run (line_after m.asks) (number_after m.name) r

  valid_late : (c : ℕ) → line_at run r.wire.valid (suc c) ≡ (line_at run climb.wire.valid c && not (line_at run told.decision.lost c))
  valid_late c =
      line_behind run told.decision.row r.wire.valid climb.wire.columns r.wire.columns c (is.wire.tuples c) ∙ counted.recalled.told.decision.row c

  is_after : IsAfter m d
  unfolding held_at
  is_after = record {
    asks = λ c. refl;
    name = λ c. refl;
    ends = ends;
    valid = valid;
    fresh = fresh;
    number = is.node;
  }
    where
      ends : (c : ℕ) → line_at run r.wire.eos c ≡ line_after m.ends c
      ends zero = line_first run r.wire.eos
      ends (suc c) = let e : c + 1 ≡ suc c = omega arith in ap (line_at run r.wire.eos) (sym e) ∙ is.wire.ends c

      valid : (c : ℕ) → line_at run r.wire.valid c ≡ line_after m.valid c
      valid zero = line_first run r.wire.valid
      valid (suc c) = valid_late c

      fresh : (c : ℕ) → line_at run r.fresh c ≡ line_after m.fresh c
      fresh zero = line_first run r.fresh
      fresh (suc c) = is.fresh c

  no_row : m.valid 0 ≡ false
  no_row = ap (λ (b : Bool). b && not (line_at run told.decision.lost 0)) (line_first run climb.wire.valid)

  tuple_late : (t : ℕ) → (after h.late).tuple (suc t) ≡ h.late.tuple t
  tuple_late t = let e : t + 1 ≡ suc t = omega arith in ap (after h.late).tuple (sym e) ∙ (after_is h.late).tuples t

  rows : (t : ℕ) (row : Row) → (after h.late).tuple t ≡ Some row → line_at run r.wire.valid t ≡ true → row_at run t r.wire.columns ≡ row
  rows zero row p e = absurd (not_both (line_at run r.wire.valid 0) e (line_first run r.wire.valid))
  rows (suc t) row p e =
      let on = sym (line_behind run told.decision.row r.wire.valid climb.wire.columns r.wire.columns t (is.wire.tuples t)) ∙ e in
      let came = and_left (line_at run climb.wire.valid t) (not (line_at run told.decision.lost t)) (sym (valid_late t) ∙ e) in
      row_behind run told.decision.row r.wire.valid climb.wire.columns r.wire.columns t (is.wire.tuples t) on
      ∙ h.rows t row (sym (tuple_late t) ∙ p) came

  -- a row that is lost here stood here, and came
  lost_came : (t : ℕ) → line_at run told.decision.lost t ≡ true → line_at run climb.wire.valid t ≡ true
  lost_came t e =
      let x = sym (counted.recalled.told.decision.lost t) ∙ e in
      and_left (line_at run climb.wire.valid t) (not (line_at run told.here t))
      (and_left (line_at run climb.wire.valid t && not (line_at run told.here t)) (nat_eq (held_at 0 run counted.used t) n) x)

  came : (t : ℕ) → line_at run climb.wire.valid t ≡ true → is_some (h.late.tuple t) ≡ true
  came t e = by (h.late.tuple t) refl
    where
      by : (o : Option Row) → h.late.tuple t ≡ o → is_some o ≡ true
      by None p = absurd (not_both (line_at run climb.wire.valid t) e (no_node n key h.late (name_before (suc rest)) level.rows h.numbered h.leads t p))
      by (Some row) p = refl

  lost : (t : ℕ) → line_at run r.lost t ≡ (is_some ((after h.late).tuple t) && not (line_at run r.wire.valid t))
  lost zero = line_first run r.lost ∙ sym (ap (λ o. is_some o && not (line_at run r.wire.valid 0)) ((after_is h.late).before 0 (omega arith)))
  lost (suc t) =
      is.lost t ∙ ap (λ (b : Bool). b || line_at run told.decision.lost t) (h.lost t)
      ∙ by (is_some (h.late.tuple t)) (line_at run climb.wire.valid t) (line_at run told.decision.lost t) (came t) (lost_came t)
      ∙ ap (λ (b : Bool). is_some (h.late.tuple t) && not b) (sym (valid_late t))
      ∙ ap (λ o. is_some o && not (line_at run r.wire.valid (suc t))) (sym (tuple_late t))
    where
      by : (s v l : Bool) → (v ≡ true → s ≡ true) → (l ≡ true → v ≡ true) → ((s && not v) || l) ≡ (s && not (v && not l))
      by true true true p q = refl
      by true true false p q = refl
      by true false true p q = absurd (let z = q refl in cc)
      by true false false p q = refl
      by false true l p q = absurd (let z = p refl in cc)
      by false false true p q = absurd (let z = q refl in cc)
      by false false false p q = refl

  -- the node of a row that did not begin it was shown one cycle before
  next : (t : ℕ) → line_at run r.wire.valid (suc (suc t)) ≡ true → line_at run r.fresh (suc (suc t)) ≡ false → run.at (suc t) r.next.node ≡ run.at (suc (suc t)) r.node.node
  next t e f =
      let kept = sym (valid_late (suc t)) ∙ e in
      let on = and_left (line_at run climb.wire.valid (suc t)) (not (line_at run told.decision.lost (suc t))) kept in
      let stays = and_right (line_at run climb.wire.valid (suc t)) (not (line_at run told.decision.lost (suc t))) kept in
      let made = sym (counted.recalled.told.decision.make (suc t)) ∙ sym (is.fresh (suc t)) ∙ f in
      let there = by (line_at run climb.wire.valid (suc t)) (line_at run told.here (suc t)) (not (line_at run told.decision.lost (suc t))) on stays made in
      ap (λ (b : Bus). run.at (suc t) b.node) same_next
      ∙ sym (is.node t ∙ counted.recalled.told.number t
      ∙ ap (λ (b : Bool). if b then run.at (suc t) told.seen.node else (run.at (suc t) counted.used.node % 2 ^ keys.width)) there)
    where
      by : (a b c : Bool) → a ≡ true → c ≡ true → ((a && not b) && c) ≡ false → b ≡ true
      by true true true p q u = refl
      by true false true p q u = absurd (cc)
      by false b c p q u = absurd (cc)
      by true b false p q u = absurd (cc)

  pub climbs : IsClimb (suc levels) rest run keys source r
  climbs =
      let e : levels + 1 ≡ suc levels = omega arith in
      record {
        late = after h.late;
        behind = subst (λ (k : ℕ). IsDelayed k (carried run source) (after h.late)) e (delayed_both levels 1 (carried run source) h.late (after h.late) h.behind (after_is h.late));
        asks = line_after m.asks;
        name = number_after m.name;
        quiet = refl;
        numbered = numbers_late n m d children is_after no_row;
        leads = lead_late n key h.late (after h.late) (name_before rest) m d lead (after_is h.late) is_after;
        rows = rows;
        lost = lost;
        next = next;
      }
