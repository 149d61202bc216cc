-- The law of windows of each key: slots with keys over copies of a body serve what the body makes of each window of each key, with its figures.
use Rattle.std.proofs.Common.{◌≡◌, ℕ, zero, suc, ◌+◌, ◌-◌, ◌*◌, ◌/◌, ◌<◌, ◌≤◌, max, List, ◌∷◌, map, Option, Some, Bool, true, false, refl, sym, ap, ◌∙◌, subst, arith}
use Rattle.std.specs.Prelude.{slice_get}
use Rattle.std.proofs.Math.Nat.{mul-pos}
use Rattle.gl_values.specs.Lists.{Group, has_further}
use Rattle.gl_values.specs.Partitions.{parts}
use Rattle.gl_values.specs.Results.{Row, Results, AreJoined, IsChanged, IsOfGroup}
use Rattle.gl_algebra.specs.declared.figures.Figures.{Figures}
use Rattle.gl_algebra.specs.FigureTable.{IsSound, partitions_over, stride_of, window_gap}
use Rattle.gl_algebra.proofs.FigureLemmas.{last_of-some}
use Rattle.gl_algebra.proofs.SoundLemmas.{partitions_sound}
use Rattle.gl_wire.specs.Apart.{Carries, CarriesApart, a_tuple, an_end}
use Rattle.gl_wire.specs.Beats.{Beats, Ends, Spaced, beats_of}
use Rattle.gl_wire.specs.Serves.{Fits}
use Rattle.gl_wire.specs.Serving.{Serving}
use Rattle.gl_wire.specs.Shapes.{IsDelayed}
use Rattle.gl_wire.specs.Spills.{Lines, ServedWithLines, both_lines}
use Rattle.gl_wire.specs.Wire.{Carried, pending, stream}
use Rattle.gl_wire.proofs.FurtherLemmas.{served_further}
use Rattle.gl_wire.specs.Bodies.{OfBody}
use Rattle.gl_wire.specs.Coming.{by_tuples}
use Rattle.gl_wire.specs.Lift.{Visits, tuple_of_any, visits}
use Rattle.gl_wire.specs.Rotates.{OverCopies, Rotates, delay_of_whole, flush_of, lines_of_all, turns_of}
use Rattle.gl_wire.specs.Timed.{Origin, Timed}
use Rattle.gl_wire.proofs.LiftSpillLemmas.{lift_spills}
use Rattle.gl_wire.specs.CopyLaws.{FitsIsTimed}
use Rattle.gl_wire.proofs.TimeLemmas.{next_stream}
use Rattle.gl_wire.proofs.VisitLemmas.{beat_of}
use Rattle.gl_wire.proofs.WholeServes.{whole_lines}
use Rattle.gl_wire_registers.specs.Timers.{IsClose}
use Rattle.gl_slots.specs.Keys.{line_of_further, with_keys}
use Rattle.gl_slots.specs.Slots.{came_further, key_or, slot_or}
use Rattle.gl_slots.proofs.FurtherLemmas.{further_carries, further_so, further_told}
use Rattle.gl_slots.proofs.KeyedLemmas.{end_of}
use Rattle.gl_slots.proofs.KeyedLemmas.{keyed_serving}
use Rattle.gl_partition.specs.declared.partitioning.Partitioning.{Partitioning}
use Rattle.gl_partition.specs.Laws.{PartitioningsServe}
use Rattle.gl_partition.specs.Machine.{ArePartitions, copy_of, oldest, who_ends}
use Rattle.gl_partition.specs.Partitionings.{AreKeys, AwaitsFlush, IsPartitioning, OfPartitions, all_copies, all_turns, close_cycles, close_delay, key_of, numbers_of}
use Rattle.gl_partition.proofs.Setting.{Setting, Spacing}
use Rattle.gl_partition.proofs.EndingLemmas.{of_part, oldest_below, slot_of, slots}
use Rattle.gl_partition.proofs.PhaseLemmas.{empty_copies, part_begins, part_from, parts_are}
use Rattle.gl_partition.proofs.CauseLemmas.{Source, comes', comes_tuple, in_turn, source, turn_early, visit_from}
use Rattle.gl_partition.proofs.ScheduleLemmas.{part_caused, parts_schedule}
use Rattle.gl_partition.proofs.CountLemmas.{few_windows, many_windows}
use Rattle.gl_partition.proofs.KeptLemmas.{key_kept, key_there}

-- the gap after an end that a front of windows of each key wants: the last slot has given its rows before its key may change
abbrev pub rest_gap : ℕ → Figures → ℕ
rest_gap copies s = copies * stride_of s + max s.ge (s.le + 2) + 1

more_turns : (copies : ℕ) (s : Figures) → flush_of (copies + 1) s ≡ copies * stride_of s + stride_of s
more_turns copies s = omega arith

turns_are : (copies : ℕ) (s : Figures) → turns_of (copies + 1) s ≡ copies * stride_of s
turns_are copies s = let e : copies + 1 - 1 ≡ copies = omega arith in ap (λ (v : ℕ). v * stride_of s) e

pub flush_fits : (copies : ℕ) (s : Figures) → IsSound s → flush_of (copies + 1) s + 1 ≤ rest_gap copies s
flush_fits copies s sound = omega (arith, more_turns copies s, sound.end_gap)

module _ (r : Partitioning) (is : IsPartitioning r) (a : Carried) (ins : ℕ → Carried) (law : ArePartitions (numbers_of r) a ins) (timed : Timed (window_gap r.body) (rest_gap (all_copies r) r.body) a (by_tuples a)) where
  pub stride_some : 1 ≤ stride_of r.body
  stride_some = omega arith

  pub near : r.body.ge ≤ window_gap r.body
  near = omega arith

  pub far : all_copies r * stride_of r.body + r.body.ge + 1 ≤ rest_gap (all_copies r) r.body
  far = omega arith

  pub rested : (u d : ℕ) → a.ends u ≡ true → Carries a d → u < d → u + ((all_copies r + 1) * stride_of r.body + 1) ≤ d
  rested u d p k l = omega (arith, timed.after u d p k l, flush_fits (all_copies r) r.body is.sound)

  abbrev pub setting : Setting
  setting = record {
    n = numbers_of r;
    a = a;
    ins = ins;
    law = law;
    slots_some = is.some_slot;
    copies_some = is.some_copy;
    rows_some = is.rows;
    step_some = is.step;
    stride_some = stride_some;
    cover = is.cover;
    rested = rested;
  }

  abbrev pub spacing : Spacing setting
  spacing = record { g1 = window_gap r.body; g2 = rest_gap (all_copies r) r.body; gap_end = r.body.ge; timed = timed; near = near; strides = is.sound.end_gap; far = far }

  abbrev pub part_visits : Visits
  part_visits = who_ends (numbers_of r) a

  abbrev pub visit_part : ℕ × List Row → Group Row
  visit_part = of_part setting

  origin : (v k : ℕ) → part_visits v ≡ Some k → Origin (turns_of (all_turns r) r.body) (window_gap r.body) (stride_of r.body) a (by_tuples a) v
  origin zero k h = absurd (cc)
  origin (suc c) k h = let x = visit_from setting c k h in by x.0 x.1 (source setting x.0 c x.1 x.2)
    where
      by : (i : ℕ) → i < r.slots → Source setting i c → Origin (turns_of (all_turns r) r.body) (window_gap r.body) (stride_of r.body) a (by_tuples a) (suc c)
      by i there (comes' q e) = record { of = c; comes = a_tuple q (comes_tuple setting i c q e).0; low = omega arith; high = omega arith; at_once = λ p. (refl, omega (arith, is.sound.end_gap)) }
      by i there (in_turn t) =
          let w = turn_early setting i c there t in
          let y = t.end in
          record { of = t.u; comes = an_end t.end; low = omega (arith, t.time); high = omega (arith, t.time, w, turns_are (all_copies r) r.body); at_once = λ p. absurd (cc (p, y)) }

  pub rotates : Rotates r.body (all_copies r) (all_turns r) (window_gap r.body) (λ m. m) (λ m. max m 1 - 1 + all_copies r) visit_part a (by_tuples a) (λ u. parts r.slots (key_of r) r.size r.advance (stream a u)) part_visits ins
  rotates = record {
    schedules = parts_schedule setting spacing r.body refl (omega arith) refl;
    origin = origin;
    from = λ u. part_from setting u (a.ends u) refl;
    begins = λ u p. part_begins setting u (a.ends u) refl p;
    parted = λ u p. subst (λ t. map visit_part (visits part_visits ins (part_from setting u (a.ends u) refl) (u + t + 2 - part_from setting u (a.ends u) refl)) ≡ parts r.slots (key_of r) r.size r.advance (stream a u)) (sym (turns_are (all_copies r) r.body)) (parts_are setting u (a.ends u) refl p);
    few_visits = few_windows setting;
    many_visits = many_windows setting;
    caused = part_caused setting;
    empties = λ u k p l. ap (λ (t : ℕ). pending (ins k) (u + t + 2)) (turns_are (all_copies r) r.body) ∙ empty_copies setting u k p l;
  }

  -- the numbers that stand for a slot's key are its key while the rows of a visit leave
  pub key_shown : (keys : ℕ → ℕ → ℕ) → AreKeys r a keys → (v k c : ℕ) → part_visits v ≡ Some k → v ≤ c → c ≤ v + r.body.le → keys k c ≡ key_or (slice_get (slots setting v).keys (k / r.copies))
  key_shown keys are zero k c h low high = absurd (cc)
  key_shown keys are (suc x) k c h low high =
      let w = visit_from setting x k h in
      let s = source setting w.0 x w.1 w.2 in
      let y = key_there setting w.0 x s in
      let kept = key_kept setting spacing r.body.le (omega arith) w.0 x c y.0 w.1 s y.1 low high in
      let shown : keys (copy_of (numbers_of r) w.0 (oldest (numbers_of r) a w.0 x)) c ≡ y.0 = are w.0 (oldest (numbers_of r) a w.0 x) c y.0 w.1 (oldest_below setting w.0 x) kept in
      let slot : k / r.copies ≡ w.0 = ap (λ (v : ℕ). v / r.copies) w.3 ∙ slot_of setting w.0 x in
      ap (λ (v : ℕ). keys v c) w.3 ∙ shown ∙ sym (ap key_or y.1) ∙ ap (λ (v : ℕ). key_or (slice_get (slots setting (suc x)).keys v)) (sym slot)

-- the table's row is that of such a whole
partition_table : (copies : ℕ) (f s : Figures) → IsSound s → OverCopies f s (partitions_over copies f s) (copies + 1) (window_gap s) (rest_gap copies s) (λ m. m) (λ m. max m 1 - 1 + copies)
partition_table copies f s sound = record {
  a = refl;
  lt = λ l. last_of-some (f.nt * s.ne) (f.a + s.a + 2) (f.lt + s.le + 2) l;
  le = omega (arith, turns_are copies s);
  nt = refl;
  ne = refl;
  keeps = omega arith;
  gt = omega arith;
  ge = omega arith;
  flush = flush_fits copies s sound;
  few_more = λ m k l. l;
  many_more = λ m k l. omega (arith, l);
}

-- ---- the theorem, over beats in which the source is carried far enough apart

module _ (timed_by : FitsIsTimed) (r : Partitioning) (is : IsPartitioning r) (f : Figures) (sound_f : IsSound f) (a b : Carried) (keys : ℕ → ℕ → ℕ) (ins outs : ℕ → Carried) (close further : ℕ → Bool) (lines : ℕ → Lines)
    (law : ArePartitions (numbers_of r) a ins) (are : AreKeys r a keys) (tells : AwaitsFlush r a → (c : ℕ) → further c ≡ came_further r.slots (key_of r) a c)
    (closes : IsClose (close_cycles r) (close_delay r) a.ends close) (back : IsDelayed 1 (record { tuple = tuple_of_any (with_keys keys outs) (all_copies r); ends = close }) b) (Body : List Row → Results) where
  abbrev s : Figures
  s = r.body

  abbrev h : Figures
  h = partitions_over (all_copies r) f r.body

  abbrev all : ℕ
  all = all_copies r

  all_some : 1 ≤ all
  all_some = mul-pos is.some_slot is.some_copy

  late : close_delay r ≡ s.le + turns_of (all_turns r) s + 2
  late = omega (arith, turns_are (all_copies r) r.body)

  close_first : (c : ℕ) → c < s.le + turns_of (all_turns r) s + 2 → close c ≡ false
  close_first c l = closes.before c (omega (arith, l, late))

  closes_late : Timed (window_gap s) (rest_gap all s) a (by_tuples a) → (c : ℕ) → close (c + (s.le + turns_of (all_turns r) s + 2)) ≡ a.ends c
  closes_late timed c =
      ap (λ (v : ℕ). close (c + v)) (sym late)
      ∙ closes.later (λ u d p q l. let y = timed.after u d p (an_end q) l in omega (arith, y)) c

  in_time : (beats : Beats) → Spaced h beats → Fits f beats a → CarriesApart (window_gap s) a → Timed (window_gap s) (rest_gap all s) a (by_tuples a)
  in_time beats spaced fits near = timed_by f h (window_gap s) (rest_gap all s) beats a sound_f (omega (arith, is.sound.end_gap)) (omega arith) (omega arith) spaced fits near

  -- a copy's wire with keys gives what the body makes of the windows of its visits
  shown : (timed : Timed (window_gap s) (rest_gap all s) a (by_tuples a)) (k : ℕ) → k < all → Spaced s (beats_of (ins k))
      → Serving s (λ t. Body (stream (ins k) t)) (lines k) (beats_of (ins k)) (outs k)
      → Serving s (λ t. IsOfGroup Body (visit_part r is a ins law timed (t, stream (ins k) t))) (lines k) (beats_of (ins k)) (with_keys keys outs k)
  shown timed k l spaced x =
      let y = keyed_serving (keys k) (outs k) s key_for (λ t. Body (stream (ins k) t)) (lines k) (beats_of (ins k)) is.sound is.closing spaced
      (λ t c p low high. key_shown r is a ins law timed keys are t k c (visit t p) (omega (arith, low)) high) x
      in
      record {
        fits = y.fits;
        spill = y.spill;
        right = λ t e p he.
            subst (λ (z : Option ℕ). IsChanged (Body (stream (ins k) t)) (map (λ row. key_or (slice_get (slots (setting r is a ins law timed) t).keys (slot_or z / r.copies)) ∷ row)) (stream (with_keys keys outs k) e) (y.spill t))
            (sym (visit t p)) (y.right t e p he);
        low = y.low;
        told = y.told;
        so = y.so;
        late = y.late;
      }
    where
      key_for : ℕ → ℕ
      key_for t = key_or (slice_get (slots (setting r is a ins law timed) t).keys (k / r.copies))

      visit : (t : ℕ) → beats_of (ins k) t ≡ Some true → who_ends (numbers_of r) a t ≡ Some k
      visit t p = (rotates r is a ins law timed).schedules.no_other t k l (end_of (ins k) t true refl (beat_of (ins k) t true p))

  -- what the whole gives, rows of further keys aside
  parts_joined : (beats : Beats) → Spaced h beats → Fits f beats a → CarriesApart (window_gap s) a
      → ((k : ℕ) → k < all → Spaced s (beats_of (ins k)) → Serving s (λ t. Body (stream (ins k) t)) (lines k) (beats_of (ins k)) (outs k))
      → ServedWithLines f h (λ xs ys p. AreJoined (IsOfGroup Body) (parts r.slots (key_of r) r.size r.advance xs) ys p) (lines_of_all lines all) beats a b
  parts_joined beats spaced fits near served =
      let timed = in_time beats spaced fits near in
      let rot = rotates r is a ins law timed in
      let lifted = lift_spills s (λ u xs. IsOfGroup Body (visit_part r is a ins law timed (u, xs))) all (who_ends (numbers_of r) a) lines ins (with_keys keys outs) is.sound is.closing rot.schedules
      (λ k l. shown timed k l (rot.schedules.spaced k l) (served k l (rot.schedules.spaced k l)))
      in
      whole_lines f s h all (all_turns r) (window_gap s) (rest_gap all s) (λ m. m) (λ m. max m 1 - 1 + all) (visit_part r is a ins law timed) (partition_table all f s is.sound)
      sound_f is.sound (partitions_sound all f s all_some sound_f is.sound) (omega arith) beats spaced a fits (who_ends (numbers_of r) a) ins (with_keys keys outs)
      (IsOfGroup Body) lines lifted b close back close_first (closes_late timed) (parts r.slots (key_of r) r.size r.advance) timed rot

  pub parts_served : (beats : Beats) → Spaced h beats → Fits f beats a → CarriesApart (window_gap s) a
      → ((k : ℕ) → k < all → Spaced s (beats_of (ins k)) → Serving s (λ t. Body (stream (ins k) t)) (lines k) (beats_of (ins k)) (outs k))
      → ServedWithLines f h (OfPartitions r Body) (both_lines (lines_of_all lines all) (line_of_further further)) beats a b
  parts_served beats spaced fits near served =
      served_further f h (λ xs ys p. AreJoined (IsOfGroup Body) (parts r.slots (key_of r) r.size r.advance xs) ys p) (has_further r.slots (key_of r)) further (lines_of_all lines all) beats a b fits told so last
      (parts_joined beats spaced fits near served)
    where
      timed : Timed (window_gap s) (rest_gap all s) a (by_tuples a)
      timed = in_time beats spaced fits near

      line : (c : ℕ) → further c ≡ came_further r.slots (key_of r) a c
      line = tells (λ x k. record { over = λ u p l. let y = timed.after u x p k l in let z = flush_fits all s is.sound in omega (arith, y, z) })

      told : Ends beats → (d : ℕ) → a.ends d ≡ true → has_further r.slots (key_of r) (stream a d) ≡ true → (c : ℕ) × (further c ≡ true)
      told en d p e = let x = further_told r.slots (key_of r) a d e in (x.0, line x.0 ∙ x.1)

      carried : (c : ℕ) → further (suc c) ≡ true → Ends beats → (d : ℕ) × (c ≤ d) × (a.ends d ≡ true) × ((j : ℕ) → c ≤ j → j < d → a.ends j ≡ false)
      carried c e en =
          next_stream f h beats a sound_f (omega (arith, sound_f.tuples_gap)) (omega (arith, sound_f.end_gap)) spaced fits en c
          (further_carries r.slots (key_of r) a c (sym (line (suc c)) ∙ e))

      so : Ends beats → (c : ℕ) → further c ≡ true → (d : ℕ) × (a.ends d ≡ true) × (has_further r.slots (key_of r) (stream a d) ≡ true)
      so en zero e = absurd (let z = line 0 in cc (z, e))
      so en (suc c) e =
          let d = carried c e en in
          let at : c + (d.0 - c) ≡ d.0 = omega (arith, d.1) in (
            d.0,
            d.2,
            ap (λ (i : ℕ). has_further r.slots (key_of r) (stream a i)) (sym at)
                ∙ further_so r.slots (key_of r) a (d.0 - c) c (sym (line (suc c)) ∙ e) (λ j l m. d.3 j l (omega (arith, m, d.1))),
          )

      whole_end : (u : ℕ) → b.ends (u + delay_of_whole (all_turns r) s) ≡ a.ends u
      whole_end u =
          let e : u + delay_of_whole (all_turns r) s ≡ u + (s.le + turns_of (all_turns r) s + 2) + 1 = omega arith in
          ap b.ends e ∙ back.ends (u + (s.le + turns_of (all_turns r) s + 2)) ∙ closes_late timed u

      last : Ends beats → (c : ℕ) → further c ≡ true → (e : ℕ) × (c ≤ e) × (b.ends e ≡ true)
      last en zero e = absurd (let z = line 0 in cc (z, e))
      last en (suc c) e = let d = carried c e en in (d.0 + delay_of_whole (all_turns r) s, omega (arith, d.1), whole_end d.0 ∙ d.2)

-- for a body of a plan
pub partitionings_serve : FitsIsTimed → PartitioningsServe
partitionings_serve timed_by r f a b keys ins outs close further lines is sound_f law are tells closes back sets nodes body beats spaced fits near served =
    parts_served timed_by r is f sound_f a b keys ins outs close further lines law are tells closes back (OfBody sets nodes body) beats spaced fits near served
