-- The law of groups: slots with keys over copies of a body serve what the body makes of each group, with the figures of groups.
use Rattle.std.proofs.Common.{◌≡◌, ℕ, zero, suc, ◌+◌, ◌-◌, ◌*◌, ◌<◌, ◌≤◌, max, List, [], ◌∷◌, map, Option, Some, Bool, true, false, ◌||◌, refl, sym, ap, ◌∙◌, subst, arith}
use Rattle.std.specs.Prelude.{slice_get}
use Rattle.gl_values.specs.Lists.{Group, groups, has_further}
use Rattle.gl_values.specs.Results.{Row, Results, AreJoined, IsChanged, IsOfGroup, IsOfParts}
use Rattle.gl_bits.proofs.Bools.{or_join}
use Rattle.gl_algebra.specs.declared.figures.Figures.{Figures}
use Rattle.gl_algebra.specs.FigureTable.{IsSound, group_gap, groups_over, stride_of}
use Rattle.gl_algebra.proofs.SoundLemmas.{groups_sound}
use Rattle.gl_wire.specs.Apart.{CarriesApart, an_end}
use Rattle.gl_wire.specs.Beats.{Beats, Ends, Spaced, beats_of}
use Rattle.gl_wire.specs.Serves.{Fits}
use Rattle.gl_wire.specs.Serving.{Serving}
use Rattle.gl_wire.specs.Shapes.{IsDelayed}
use Rattle.gl_wire.specs.Spills.{Lines, ServedWithLines, both_lines}
use Rattle.gl_wire.specs.Wire.{Carried, stream}
use Rattle.gl_wire.proofs.FurtherLemmas.{served_further}
use Rattle.gl_wire.proofs.ServingLemmas.{serving_as, serving_then}
use Rattle.gl_wire.specs.Coming.{by_tuples}
use Rattle.gl_wire.specs.Lift.{Visits, tuple_of_any}
use Rattle.gl_wire.specs.Rotates.{OverCopies, Rotates, delay_of_whole, lines_of_all, turns_of}
use Rattle.gl_wire.specs.Timed.{Origin, Timed}
use Rattle.gl_wire.proofs.LiftSpillLemmas.{lift_spills}
use Rattle.gl_wire.specs.CopyLaws.{FitsIsTimed}
use Rattle.gl_wire.proofs.TimeLemmas.{next_stream}
use Rattle.gl_wire.proofs.WholeServes.{whole_lines}
use Rattle.gl_wire_registers.specs.Timers.{IsClose}
use Rattle.gl_slots.specs.Keys.{AreKeys, AwaitsTurns, line_of_further, with_keys}
use Rattle.gl_groups.specs.Groupings.{OfGroups, key_of}
use Rattle.gl_wire.specs.Bodies.{OfBody}
use Rattle.gl_groups.specs.Laws.{GroupingsServe, GroupsGroup}
use Rattle.gl_slots.specs.Slots.{AreSlots, came_further, key_or, slot_or, slots_at, who_slots}
use Rattle.gl_slots.proofs.Setting.{Setting}
use Rattle.gl_wire.proofs.NumberLemmas.{all_turns}
use Rattle.gl_wire.proofs.VisitLemmas.{beat_of}
use Rattle.gl_slots.proofs.SlotLemmas.{of_group}
use Rattle.gl_slots.proofs.PhaseLemmas.{empty_slots, keys_stay, slot_begins, slot_from, slot_parted}
use Rattle.gl_groups.proofs.TurnLemmas.{many_slots, no_slots_end, visit_key}
use Rattle.gl_groups.proofs.ScheduleLemmas.{slot_caused, slot_origin, slots_schedule}
use Rattle.gl_slots.proofs.FurtherLemmas.{further_carries, further_so, further_told}
use Rattle.gl_slots.proofs.KeyedLemmas.{end_of, keyed_serving}

-- the gap after an end that a front of groups wants: the last slot has given its rows before its key may change
abbrev pub rest_gap : ℕ → Figures → ℕ
rest_gap count s = (count - 1) * stride_of s + max (s.ge + 1) (s.le + 3)

flush_fits : (count : ℕ) (s : Figures) → 1 ≤ count → IsSound s → count * stride_of s + 1 ≤ rest_gap count s
flush_fits count s some sound = omega (arith, all_turns count (stride_of s) some, sound.end_gap)

module _ (s : Figures) (sound : IsSound s) (count : ℕ) (key : Row → ℕ) (a : Carried) (ins : ℕ → Carried) (law : AreSlots count key (stride_of s) a ins)
    (some : 1 ≤ count) (timed : Timed (group_gap s) (rest_gap count s) a (by_tuples a)) where
  pub stride_some : 1 ≤ stride_of s
  stride_some = omega arith

  pub wide : count * stride_of s + 1 ≤ rest_gap count s
  wide = flush_fits count s some sound

  pub far : (count - 1) * stride_of s + s.ge + 1 ≤ rest_gap count s
  far = omega arith

  abbrev pub setting : Setting
  setting = record {
    count = count;
    key = key;
    stride = stride_of s;
    g1 = group_gap s;
    g2 = rest_gap count s;
    gap_end = s.ge;
    a = a;
    ins = ins;
    law = law;
    slots_some = some;
    stride_some = stride_some;
    timed = timed;
    wide = wide;
    strides = sound.end_gap;
    far = far;
  }

  abbrev pub group_visits : Visits
  group_visits = who_slots count key (stride_of s) a

  -- the group of a visit
  abbrev pub visit_group : ℕ × List Row → Group Row
  visit_group = of_group setting

  origin : (v k : ℕ) → group_visits v ≡ Some k → Origin (turns_of count s) (group_gap s) (stride_of s) a (by_tuples a) v
  origin v k h =
      let x = slot_origin setting v k h in
      let y = x.1 in
      record { of = x.0; comes = an_end x.1; low = x.2; high = x.3; at_once = λ e. absurd (cc (e, y)) }

  pub rotates : Rotates s count count (group_gap s) (λ n. 0) (λ n. count) visit_group a (by_tuples a) (λ u. groups count key (stream a u)) group_visits ins
  rotates = record {
    schedules = slots_schedule setting s refl (omega arith) refl;
    origin = origin;
    from = λ u. slot_from setting u (a.ends u) refl;
    begins = λ u p. slot_begins setting u (a.ends u) refl p;
    parted = λ u p. slot_parted setting u (a.ends u) refl p;
    few_visits = no_slots_end setting;
    many_visits = many_slots setting;
    caused = slot_caused setting;
    empties = empty_slots setting;
  }

  -- the keys stay while the rows of a visit leave
  keys_kept : (v k c : ℕ) → group_visits v ≡ Some k → v ≤ c → c ≤ v + s.le → (slots_at count key (stride_of s) a c).keys ≡ (slots_at count key (stride_of s) a v).keys
  keys_kept v k c h low high =
      let x = slot_origin setting v k h in
      keys_stay setting x.0 c x.1 (omega (arith, x.2, low)) (omega (arith, x.3, high)) ∙ sym (keys_stay setting x.0 v x.1 (omega (arith, x.2)) (omega (arith, x.3)))

  -- so the numbers that stand for a slot's key, so many cycles late, are its key all that time
  pub key_shown : (late : ℕ) (keys : ℕ → ℕ → ℕ) → AreKeys count key (stride_of s) late a keys → (v k c : ℕ) → k < count → group_visits v ≡ Some k → v + late ≤ c → c ≤ v + s.le
      → keys k c ≡ key_or (slice_get (slots_at count key (stride_of s) a v).keys k)
  key_shown late keys are v k c l h low high =
      let y = visit_key setting v k h in
      let at : c - late + late ≡ c = omega (arith, low) in
      are.shown k (c - late) c y.0 l at (ap (λ z. slice_get z k) (keys_kept v k (c - late) h (omega (arith, low)) (omega (arith, low, high))) ∙ y.1) ∙ sym (ap key_or y.1)

-- the table's row is that of such a whole
pub group_table : (count : ℕ) (f s : Figures) → 1 ≤ count → IsSound s → OverCopies f s (groups_over count f s) count (group_gap s) (rest_gap count s) (λ n. 0) (λ n. count)
group_table count f s some sound = record {
  a = refl;
  lt = λ l. absurd (let z : 0 * s.ne ≡ 0 = omega arith in omega (arith, l, z));
  le = omega arith;
  nt = omega arith;
  ne = refl;
  keeps = omega arith;
  gt = omega arith;
  ge = omega arith;
  flush = flush_fits count s some sound;
  few_more = λ m n l. omega arith;
  many_more = λ m n l. omega arith;
}

-- results of groups, with other words for what the body makes of rows
joined_as : (P Q : List Row → Results) → ((rows ys : List Row) (p : Bool) → P rows ys p → Q rows ys p)
    → (gs : List (Group Row)) (ys : List Row) (p : Bool) → AreJoined (IsOfGroup P) gs ys p → AreJoined (IsOfGroup Q) gs ys p
joined_as P Q to [] ys p r = r
joined_as P Q to (g ∷ gs) ys p r =
    let x = r.4 in
    (r.0, r.1, r.2, r.3, record { rows = x.rows; of_source = to g.rows x.rows r.2 x.of_source; changed = x.changed }, joined_as P Q to gs r.1 r.3 r.5, r.6, r.7)

-- what a whole gives of what its source gives, in the words of parts, where what the body makes of rows may be said otherwise at each beat
pub groups_then : (f h : Figures) (means : ℕ → Results) (count : ℕ) (key : Row → ℕ) (Body : List Row → Results) (Like : ℕ → List Row → Results)
    → ((t : ℕ) (rows ys : List Row) (p : Bool) → Body rows ys p → Like t rows ys p)
    → (before own : Lines) (beats : Beats) (a b : Carried) → Serving f means before beats a → ServedWithLines f h (OfGroups count key Body) own beats a b
    → Serving h (λ t. IsOfParts (means t) (groups count key) (IsOfGroup (Like t)) (has_further count key)) (both_lines before own) beats b
groups_then f h means count key Body Like to before own beats a b source whole =
    serving_as h _ _ (both_lines before own) beats b (λ t ys p q. record {
      rows = q.0;
      source_spill = q.1;
      parts_spill = q.4.0;
      of_source = q.3;
      of_parts = joined_as Body (Like t) (to t) (groups count key q.0) ys q.4.0 q.4.1;
      any = q.5 ∙ ap (λ z. q.1 || z) q.4.2 ∙ sym (or_join q.1 q.4.0 (has_further count key q.0));
    }) (serving_then f h means (OfGroups count key Body) before own beats a b source whole)

-- over spaced beats whatever comes finds the flush of each end before it over
module _ (timed_by : FitsIsTimed) (f s : Figures) (sound_f : IsSound f) (sound_s : IsSound s) (count : ℕ) (some : 1 ≤ count) (a : Carried) (beats : Beats) (spaced : Spaced (groups_over count f s) beats) (fits : Fits f beats a)
    (near : CarriesApart (group_gap s) a) where
  pub in_time : Timed (group_gap s) (rest_gap count s) a (by_tuples a)
  in_time = timed_by f (groups_over count f s) (group_gap s) (rest_gap count s) beats a sound_f (omega (arith, sound_s.tuples_gap)) (omega arith) (omega arith) spaced fits near

  pub flush_awaited : AwaitsTurns count (stride_of s) a
  flush_awaited x k = record { over = λ u p l. let y = in_time.after u x p k l in let z = flush_fits count s some sound_s in omega (arith, y, z) }

-- ---- the theorem, over beats in which the source is carried far enough apart

module _ (timed_by : FitsIsTimed) (f s : Figures) (sound_f : IsSound f) (sound_s : IsSound s) (closing : s.nt ≡ 0) (count : ℕ) (key : Row → ℕ) (some : 1 ≤ count)
    (a : Carried) (ins outs : ℕ → Carried) (law : AreSlots count key (stride_of s) a ins) (cycles : ℕ) (in_body : cycles ≤ s.a) (keys : ℕ → ℕ → ℕ) (are : AreKeys count key (stride_of s) cycles a keys)
    (further : ℕ → Bool) (tells : AwaitsTurns count (stride_of s) a → (c : ℕ) → further c ≡ came_further count key a c) (Body : List Row → Results) (lines : ℕ → Lines)
    (b : Carried) (close : ℕ → Bool) (back : IsDelayed 1 (record { tuple = tuple_of_any (with_keys keys outs) count; ends = close }) b)
    (closes : IsClose (s.le + turns_of count s + 1) (s.le + turns_of count s + 1 + 1) a.ends close) where
  abbrev pub h : Figures
  h = groups_over count f s

  closing_late : s.le + turns_of count s + 1 + 1 ≡ s.le + turns_of count s + 2
  closing_late = omega arith

  close_first : (c : ℕ) → c < s.le + turns_of count s + 2 → close c ≡ false
  close_first c l = closes.before c (omega (arith, l, closing_late))

  closes_late : Timed (group_gap s) (rest_gap count s) a (by_tuples a) → (c : ℕ) → close (c + (s.le + turns_of count s + 2)) ≡ a.ends c
  closes_late timed c =
      ap (λ (n : ℕ). close (c + n)) (sym closing_late)
      ∙ closes.later (λ u d p q l. let y = timed.after u d p (an_end q) l in omega (arith, y)) c

  -- a copy's wire with keys gives what the body makes of the groups of its visits
  shown : (timed : Timed (group_gap s) (rest_gap count s) a (by_tuples a)) (k : ℕ) → k < count → Spaced s (beats_of (ins k))
      → Serving s (λ t. Body (stream (ins k) t)) (lines k) (beats_of (ins k)) (outs k)
      → Serving s (λ t. IsOfGroup Body (visit_group s sound_s count key a ins law some timed (t, stream (ins k) t))) (lines k) (beats_of (ins k)) (with_keys keys outs k)
  shown timed k l spaced x =
      let y = keyed_serving (keys k) (outs k) s key_for (λ t. Body (stream (ins k) t)) (lines k) (beats_of (ins k)) sound_s closing spaced
      (λ t c p low high. key_shown s sound_s count key a ins law some timed cycles keys are t k c l (visit t p) (omega (arith, low, in_body)) high) x
      in
      record {
        fits = y.fits;
        spill = y.spill;
        right = λ t e p he.
            subst (λ (z : Option ℕ). IsChanged (Body (stream (ins k) t)) (map (λ r. key_or (slice_get (slots_at count key (stride_of s) a t).keys (slot_or z)) ∷ r)) (stream (with_keys keys outs k) e) (y.spill t))
            (sym (visit t p)) (y.right t e p he);
        low = y.low;
        told = y.told;
        so = y.so;
        late = y.late;
      }
    where
      key_for : ℕ → ℕ
      key_for t = key_or (slice_get (slots_at count key (stride_of s) a t).keys k)

      visit : (t : ℕ) → beats_of (ins k) t ≡ Some true → who_slots count key (stride_of s) a t ≡ Some k
      visit t p = (rotates s sound_s count key a ins law some timed).schedules.no_other t k l (end_of (ins k) t true refl (beat_of (ins k) t true p))

  -- what the whole gives, rows of further keys aside
  groups_joined : (beats : Beats) → Spaced h beats → Fits f beats a → CarriesApart (group_gap s) a
      → ((k : ℕ) → k < count → Spaced s (beats_of (ins k)) → Serving s (λ t. Body (stream (ins k) t)) (lines k) (beats_of (ins k)) (outs k))
      → ServedWithLines f h (λ xs ys p. AreJoined (IsOfGroup Body) (groups count key xs) ys p) (lines_of_all lines count) beats a b
  groups_joined beats spaced fits near served =
      let timed = in_time timed_by f s sound_f sound_s count some a beats spaced fits near in
      let rot = rotates s sound_s count key a ins law some timed in
      let lifted = lift_spills s (λ u xs. IsOfGroup Body (visit_group s sound_s count key a ins law some timed (u, xs))) count (who_slots count key (stride_of s) a) lines ins (with_keys keys outs) sound_s closing rot.schedules
      (λ k l. shown timed k l (rot.schedules.spaced k l) (served k l (rot.schedules.spaced k l)))
      in
      whole_lines f s h count count (group_gap s) (rest_gap count s) (λ n. 0) (λ n. count) (visit_group s sound_s count key a ins law some timed) (group_table count f s some sound_s)
      sound_f sound_s (groups_sound count f s some sound_f sound_s) some beats spaced a fits (who_slots count key (stride_of s) a) ins (with_keys keys outs)
      (IsOfGroup Body) lines lifted b close back close_first (closes_late timed) (groups count key) timed rot

  pub groups_served : (beats : Beats) → Spaced h beats → Fits f beats a → CarriesApart (group_gap s) a
      → ((k : ℕ) → k < count → Spaced s (beats_of (ins k)) → Serving s (λ t. Body (stream (ins k) t)) (lines k) (beats_of (ins k)) (outs k))
      → ServedWithLines f h (OfGroups count key Body) (both_lines (lines_of_all lines count) (line_of_further further)) beats a b
  groups_served beats spaced fits near served =
      served_further f h (λ xs ys p. AreJoined (IsOfGroup Body) (groups count key xs) ys p) (has_further count key) further (lines_of_all lines count) beats a b fits told so last
      (groups_joined beats spaced fits near served)
    where
      timed : Timed (group_gap s) (rest_gap count s) a (by_tuples a)
      timed = in_time timed_by f s sound_f sound_s count some a beats spaced fits near

      line : (c : ℕ) → further c ≡ came_further count key a c
      line = tells (flush_awaited timed_by f s sound_f sound_s count some a beats spaced fits near)

      told : Ends beats → (d : ℕ) → a.ends d ≡ true → has_further count key (stream a d) ≡ true → (c : ℕ) × (further c ≡ true)
      told en d p e = let x = further_told count key a d e in (x.0, line x.0 ∙ x.1)

      carried : (c : ℕ) → further (suc c) ≡ true → Ends beats → (d : ℕ) × (c ≤ d) × (a.ends d ≡ true) × ((j : ℕ) → c ≤ j → j < d → a.ends j ≡ false)
      carried c e en =
          next_stream f h beats a sound_f (omega (arith, sound_f.tuples_gap)) (omega (arith, sound_f.end_gap)) spaced fits en c
          (further_carries count key a c (sym (line (suc c)) ∙ e))

      so : Ends beats → (c : ℕ) → further c ≡ true → (d : ℕ) × (a.ends d ≡ true) × (has_further count key (stream a d) ≡ true)
      so en zero e = absurd (let z = line 0 in cc (z, e))
      so en (suc c) e =
          let d = carried c e en in
          let at : c + (d.0 - c) ≡ d.0 = omega (arith, d.1) in (
            d.0,
            d.2,
            ap (λ i. has_further count key (stream a i)) (sym at)
                ∙ further_so count key a (d.0 - c) c (sym (line (suc c)) ∙ e) (λ j l m. d.3 j l (omega (arith, m, d.1))),
          )

      whole_end : (u : ℕ) → b.ends (u + delay_of_whole count s) ≡ a.ends u
      whole_end u =
          let e : u + delay_of_whole count s ≡ u + (s.le + turns_of count s + 2) + 1 = omega arith in
          ap b.ends e ∙ back.ends (u + (s.le + turns_of count s + 2)) ∙ closes_late timed u

      last : Ends beats → (c : ℕ) → further c ≡ true → (e : ℕ) × (c ≤ e) × (b.ends e ≡ true)
      last en zero e = absurd (let z = line 0 in cc (z, e))
      last en (suc c) e = let d = carried c e en in (d.0 + delay_of_whole count s, omega (arith, d.1), whole_end d.0 ∙ d.2)

  -- over what the source's wire gives, and the copies' over their own
  pub groups_serving : (means : ℕ → Results) (before : Lines) (beats : Beats) → Spaced h beats → Serving f means before beats a → CarriesApart (group_gap s) a
      → ((k : ℕ) → k < count → Spaced s (beats_of (ins k)) → Serving s (λ t. Body (stream (ins k) t)) (lines k) (beats_of (ins k)) (outs k))
      → Serving h (λ t. IsOfParts (means t) (groups count key) (IsOfGroup Body) (has_further count key)) (both_lines before (both_lines (lines_of_all lines count) (line_of_further further))) beats b
  groups_serving means before beats spaced x near served =
      groups_then f h means count key Body (λ t. Body) (λ t rows ys p r. r) before (both_lines (lines_of_all lines count) (line_of_further further)) beats a b x
      (groups_served beats spaced x.fits near served)

-- for a body of a plan
pub groupings_serve : FitsIsTimed → GroupingsServe
groupings_serve timed_by r f a b keys ins outs close further lines is sound_f front are tells closes back sets nodes body beats spaced fits near served =
    groups_served timed_by f r.body sound_f is.sound is.closing r.slots (key_of r) is.some' a ins outs front 0 (omega arith) keys are further tells (OfBody sets nodes body) lines b close back closes
    beats spaced fits near served

pub groups_group : GroupsGroup
groups_group key groups f body some sound closing small = record { some' = some; sound = sound; closing = closing; timed = omega (arith, small.le) }
