-- A level in a netlist goes on as one without.
use Rattle.std.proofs.Common.{◌≡◌, ℕ, zero, suc, ◌+◌, ◌<◌, ◌≤◌, ◌^◌, Bool, true, false, refl, ap, ◌∙◌, arith, eqb-true}
use Rattle.std.specs.Prelude.{◌*◌, ◌%◌, not, ◌&&◌, ◌||◌, if◌then◌else◌, nat_eq}
use Rattle.std.proofs.Math.Nat.{mod-eq_of_lt}
use Rattle.std.proofs.lemmas.Nat.{pow-add}
use Rattle.gl_bits.proofs.Bools.{and_right}
use Rattle.gl_bits.proofs.Wrapping.{one_fits}
use Rattle.gl_net.specs.declared.node.Bus.{Bus}
use Rattle.gl_net.specs.Net.{Run, stored_of}
use Rattle.gl_wire.specs.Wire.{line_at}
use Rattle.gl_wire.proofs.StageLemmas.{line_first}
use Rattle.gl_wire_registers.specs.Held.{held_at}
use Rattle.gl_frames_lanes.specs.declared.lane.Keys.{Keys}
use Rattle.gl_frames_tree.specs.declared.level.Told.{Told}
use Rattle.gl_frames_tree.specs.declared.looking.Stand.{Stand}
use Rattle.gl_frames_tree.specs.Growing.{Grows, Level, Numbered, StaysSo, is_written, takes_child}
use Rattle.gl_frames_tree.specs.LevelNets.{IsCounted, IsTold, child_in, digit_at, is_marked, own_part, part_now, part_of}
use Rattle.gl_frames_tree.proofs.PartLemmas.{child_is, marked_is, none_marked}

-- one more than a full count fits one bit more
one_more_fits : (w n x : ℕ) → 1 ≤ w → n ≤ 2 ^ w → x ≤ n → x + 1 < 2 ^ (w + 1)
one_more_fits w n x some fits le = let twice : 2 ^ (w + 1) ≡ 2 ^ w * 2 = pow-add 2 w 1 in omega (arith, twice, one_fits w some, fits, le)

and_none : (b : Bool) → (b && false) ≡ false
and_none true = refl
and_none false = refl

and_all : (b : Bool) → (b && true) ≡ b
and_all true = refl
and_all false = refl

module _ (run : Run) (keys : Keys) (some : 1 ≤ keys.width) (fits : keys.groups ≤ 2 ^ keys.width) (s : Stand) (r : Told) (counted : IsCounted run keys s r) (asks : ℕ → Bool) (name : ℕ → ℕ)
    (next : (t : ℕ) → line_at run s.valid (suc (suc t)) ≡ true → line_at run s.fresh (suc (suc t)) ≡ false → run.at (suc t) s.next.node ≡ run.at (suc (suc t)) s.node.node) where
  abbrev w : ℕ
  w = keys.width

  abbrev word : Bus
  word = counted.recalled.word

  abbrev stored : ℕ → ℕ → ℕ
  stored = counted.recalled.stored

  told : IsTold run keys s word counted.used r
  told = counted.recalled.told

  abbrev pub rows : Numbered
  rows = record {
    asks = asks;
    name = name;
    ends = line_at run s.ends;
    valid = line_at run s.valid;
    fresh = line_at run s.fresh;
    number = held_at 0 run s.node;
  }

  abbrev pub v : Level
  v = record {
    rows = rows;
    digit = digit_at run s.digit;
    used = held_at 0 run counted.used;
    there = λ c k d. is_marked w (part_of (w + 1) d (stored c k));
    child = λ c k d. child_in w (part_of (w + 1) d (stored c k));
    here = line_at run r.here;
    lost = line_at run r.decision.lost;
    make = line_at run r.decision.make;
    number = held_at 0 run r.number;
  }

  -- ---- what is read

  word_is : (c : ℕ) → rows.valid (suc (suc c)) ≡ true → rows.fresh (suc (suc c)) ≡ false → run.at (suc (suc c)) word.node ≡ stored (suc (suc c)) (rows.number (suc (suc c)))
  unfolding held_at
  word_is c e f = counted.recalled.reads c ∙ ap (stored (suc (suc c))) (next c e f)

  none_here : (c : ℕ) → rows.valid c ≡ true → rows.fresh c ≡ true → v.here c ≡ false
  none_here zero e f = line_first run r.here
  none_here (suc c) e f =
      told.here c ∙ ap (λ (b : Bool). is_marked w (own_part run keys s word (suc c)) && not b) f
      ∙ and_none (is_marked w (own_part run keys s word (suc c)))

  here_is : (c : ℕ) → rows.valid (suc (suc c)) ≡ true → rows.fresh (suc (suc c)) ≡ false
      → v.here (suc (suc c)) ≡ v.there (suc (suc c)) (rows.number (suc (suc c))) (v.digit (suc (suc c)))
  here_is c e f =
      told.here (suc c) ∙ ap (λ (b : Bool). is_marked w (own_part run keys s word (suc (suc c))) && not b) f
      ∙ and_all (is_marked w (own_part run keys s word (suc (suc c))))
      ∙ ap (λ x. is_marked w (part_of (w + 1) (digit_at run s.digit (suc (suc c))) x)) (word_is c e f)

  number_here : (c : ℕ) → v.here (suc c) ≡ true → v.number (suc c) ≡ run.at (suc c) r.seen.node
  unfolding held_at
  number_here c q =
      told.number c ∙ ap (λ (b : Bool). if b then run.at (suc c) r.seen.node else (run.at (suc c) counted.used.node % 2 ^ w)) q

  seen_is : (c : ℕ) → rows.valid (suc (suc c)) ≡ true → rows.fresh (suc (suc c)) ≡ false → v.here (suc (suc c)) ≡ true
      → v.number (suc (suc c)) ≡ v.child (suc (suc c)) (rows.number (suc (suc c))) (v.digit (suc (suc c)))
  seen_is c e f q =
      number_here (suc c) q ∙ told.seen (suc c)
      ∙ ap (λ x. child_in w (part_of (w + 1) (digit_at run s.digit (suc (suc c))) x)) (word_is c e f)

  next_is : (c : ℕ) → v.here (suc c) ≡ false → v.used (suc c) < keys.groups → v.number (suc c) ≡ v.used (suc c)
  unfolding held_at
  next_is c q l =
      told.number c ∙ ap (λ (b : Bool). if b then run.at (suc c) r.seen.node else (run.at (suc c) counted.used.node % 2 ^ w)) q
      ∙ mod-eq_of_lt (omega (arith, l, fits))

  start_is : v.used 1 ≡ 0
  unfolding held_at
  start_is = counted.start

  count_is : (c : ℕ) → v.used (suc c) ≤ keys.groups → v.used (suc (suc c))
      ≡ (if rows.ends (suc c) then 0 else (if v.make (suc c) then v.used (suc c) + 1 else v.used (suc c)))
  unfolding held_at
  count_is c le = counted.count c (one_more_fits w keys.groups (run.at (suc c) counted.used.node) some fits le)

  -- ---- what is written

  stored_line : (c k : ℕ) → stored (suc (suc c)) k
      ≡ (if line_at run r.written.write (suc c) && nat_eq (rows.number (suc c)) k then run.at (suc c) r.written.word.node else stored (suc c) k)
  unfolding held_at line_at stored_of
  stored_line c k = counted.recalled.writes (suc c) k

  stored_is : (c k : ℕ) → stored (suc (suc c)) k ≡ (if is_written v (suc c) k then run.at (suc c) r.written.word.node else stored (suc c) k)
  stored_is c k =
      stored_line c k
      ∙ ap (λ (b : Bool). if b && nat_eq (rows.number (suc c)) k then run.at (suc c) r.written.word.node else stored (suc c) k) (told.write (suc c))

  idle : (c k d : ℕ) → d < 4 → is_written v (suc c) k ≡ false → StaysSo v (suc c) k d
  idle c k d l q =
      let same = stored_is c k ∙ ap (λ (b : Bool). if b then run.at (suc c) r.written.word.node else stored (suc c) k) q in
      (ap (λ x. is_marked w (part_of (w + 1) d x)) same, ap (λ x. child_in w (part_of (w + 1) d x)) same)

  -- a part of a word that is written
  part_is : (c k d : ℕ) → d < 4 → is_written v (suc c) k ≡ true → part_of (w + 1) d (stored (suc (suc c)) k)
      ≡ part_now (takes_child v (suc c) d) (rows.fresh (suc c)) (2 ^ w + run.at (suc c) counted.used.node % 2 ^ w) (part_of (w + 1) d (run.at (suc c) word.node))
  part_is c k d l q =
      ap (part_of (w + 1) d) (stored_is c k ∙ ap (λ (b : Bool). if b then run.at (suc c) r.written.word.node else stored (suc c) k) q)
      ∙ told.value c d l

  made : (c k d : ℕ) → d < 4 → is_written v (suc c) k ≡ true → takes_child v (suc c) d ≡ true → v.used (suc c) < keys.groups
      → (v.there (suc (suc c)) k d ≡ true) × (v.child (suc (suc c)) k d ≡ v.used (suc c))
  unfolding held_at
  made c k d l q t small =
      let used = run.at (suc c) counted.used.node in
      let low : used % 2 ^ w ≡ used = mod-eq_of_lt (omega (arith, small, fits)) in
      let part = part_is c k d l q
      ∙ ap (λ (b : Bool). part_now b (rows.fresh (suc c)) (2 ^ w + used % 2 ^ w) (part_of (w + 1) d (run.at (suc c) word.node))) t
      ∙ ap (λ x. 2 ^ w + x) low in
      let below : used < 2 ^ w = omega (arith, small, fits) in
      (ap (is_marked w) part ∙ marked_is w used below, ap (child_in w) part ∙ child_is w used below)

  begun : (c k d : ℕ) → d < 4 → is_written v (suc c) k ≡ true → takes_child v (suc c) d ≡ false → rows.fresh (suc c) ≡ true → v.there (suc (suc c)) k d ≡ false
  begun c k d l q t f =
      let used = run.at (suc c) counted.used.node in
      let old = part_of (w + 1) d (run.at (suc c) word.node) in
      ap (is_marked w) (part_is c k d l q
      ∙ ap (λ (b : Bool). part_now b (rows.fresh (suc c)) (2 ^ w + used % 2 ^ w) old) t
      ∙ ap (λ (b : Bool). part_now false b (2 ^ w + used % 2 ^ w) old) f)
      ∙ none_marked w

  stays : (c k d : ℕ) → d < 4 → is_written v (suc (suc c)) k ≡ true → takes_child v (suc (suc c)) d ≡ false
      → rows.valid (suc (suc c)) ≡ true → rows.fresh (suc (suc c)) ≡ false → StaysSo v (suc (suc c)) k d
  stays c k d l q t e f =
      let used = run.at (suc (suc c)) counted.used.node in
      let old = part_of (w + 1) d (run.at (suc (suc c)) word.node) in
      let here : rows.number (suc (suc c)) ≡ k = eqb-true (rows.number (suc (suc c))) k (and_right (v.make (suc (suc c)) || rows.fresh (suc (suc c))) (nat_eq (rows.number (suc (suc c))) k) q) in
      let same = part_is (suc c) k d l q
      ∙ ap (λ (b : Bool). part_now b (rows.fresh (suc (suc c))) (2 ^ w + used % 2 ^ w) old) t
      ∙ ap (λ (b : Bool). part_now false b (2 ^ w + used % 2 ^ w) old) f
      ∙ ap (part_of (w + 1) d) (word_is c e f ∙ ap (stored (suc (suc c))) here) in
      (ap (is_marked w) same, ap (child_in w) same)

  pub grows : Grows keys.groups v
  grows = record {
    none = none_here;
    here = here_is;
    seen = seen_is;
    next = next_is;
    lost = told.decision.lost;
    make = told.decision.make;
    start = start_is;
    count = count_is;
    idle = idle;
    made = made;
    begun = begun;
    stays = stays;
  }
