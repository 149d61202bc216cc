-- Rows of slots some cycles later, and a stage behind a stage.
use Rattle.std.proofs.Common.{◌≡◌, ℕ, zero, suc, ◌+◌, ◌-◌, ◌^◌, ◌<◌, ◌≤◌, List, [], ◌∷◌, ◌++◌, Bool, true, false, length, append-nil, refl, sym, ap, ◌∙◌, arith, inl, inr, ◌⊎◌}
use Rattle.std.specs.Prelude.{not, ◌||◌, if◌then◌else◌, nat_eq}
use Rattle.std.proofs.lemmas.Bool.{cases_lt, le-ltb}
use Rattle.gl_bits.proofs.Bools.{not_both}
use Rattle.gl_divide.specs.Divider.{IsLineBehind}
use Rattle.gl_net.specs.declared.node.Bus.{Bus}
use Rattle.gl_net.specs.Net.{Run}
use Rattle.gl_frames_wire.specs.Rings.{wound}
use Rattle.gl_frames_wire.specs.Since.{all_ends, has_begun, rows_here, rows_past, rows_since}
use Rattle.gl_frames_wire.proofs.ColumnLemmas.{framed_here}
use Rattle.gl_wire.specs.Wire.{line_at}
use Rattle.gl_wire.proofs.StageLemmas.{line_first}
use Rattle.gl_wire_lanes.specs.Lanes.{Lane, row_in}
use Rattle.gl_frames_slots.specs.CountNets.{Counts}
use Rattle.gl_frames_slots.specs.Rows.{AreTold, TellsBySlot, lane_at, slot_here, slot_past}
use Rattle.gl_frames_slots.specs.Stages.{AreRowsBehind, RowsToldLate, SlotStagesMeet, ends_late}
use Rattle.gl_frames_slots.specs.declared.rows.SlotRows.{SlotRows}

-- one cycle, over truth values alone: where the slots differ nothing comes
rows_go : {B : Type 0} (e f s q : Bool) (xs ys own mine : List B) → e ≡ f → xs ≡ ys → own ≡ mine → (s ≡ q) ⊎ (mine ≡ [])
    → (if e then [] else (if s then xs ++ own else xs)) ≡ (if f then [] else (if q then ys ++ mine else ys))
rows_go true true s q xs ys own mine a b c d = refl
rows_go true false s q xs ys own mine a b c d = absurd (cc)
rows_go false true s q xs ys own mine a b c d = absurd (cc)
rows_go false false true true xs ys own mine a b c d = ap (λ z. z ++ own) b ∙ ap (λ z. ys ++ z) c
rows_go false false false false xs ys own mine a b c d = b
rows_go false false true false xs ys own mine a b c (inl d) = absurd (cc)
rows_go false false true false xs ys own mine a b c (inr d) = ap (λ z. xs ++ z) (c ∙ d) ∙ append-nil xs ∙ b
rows_go false false false true xs ys own mine a b c (inl d) = absurd (cc)
rows_go false false false true xs ys own mine a b c (inr d) = b ∙ sym (ap (λ z. ys ++ z) d ∙ append-nil ys)

begins_go : (e f s q x y b c : Bool) → e ≡ f → x ≡ y → b ≡ c → (s ≡ q) ⊎ (y ≡ false) → (if e then false else (if s then x || b else b)) ≡ (if f then false else (if q then y || c else c))
begins_go true true s q x y b c h i j k = refl
begins_go true false s q x y b c h i j k = absurd (cc)
begins_go false true s q x y b c h i j k = absurd (cc)
begins_go false false true true x y b c h i j k = ap (λ z. z || b) i ∙ ap (λ z. y || z) j
begins_go false false false false x y b c h i j k = j
begins_go false false true false x y b c h i j (inl k) = absurd (cc)
begins_go false false true false x y b c h i j (inr k) = ap (λ z. z || b) (i ∙ k) ∙ j
begins_go false false false true x y b c h i j (inl k) = absurd (cc)
begins_go false false false true x y b c h i j (inr k) = j ∙ sym (ap (λ z. z || c) k)

still_none : {B : Type 0} (e s : Bool) (xs own : List B) → xs ≡ [] → own ≡ [] → (if e then [] else (if s then xs ++ own else xs)) ≡ []
still_none true s xs own p q = refl
still_none false true xs own p q = ap (λ zs. zs ++ own) p ∙ q
still_none false false xs own p q = p

still_shut : (e s x b : Bool) → x ≡ false → b ≡ false → (if e then false else (if s then x || b else b)) ≡ false
still_shut true s x b p q = refl
still_shut false true x b p q = ap (λ z. z || b) p ∙ q
still_shut false false x b p q = q

module _ (run : Run) (m : ℕ) (rows later : SlotRows) (ends : ℕ → Bool) (behind : AreRowsBehind run m rows later) where
  abbrev l : Lane
  l = lane_at run rows ends

  abbrev d : Lane
  d = lane_at run later (ends_late m ends)

  end_late : (c : ℕ) → ends_late m ends (c + m) ≡ ends c
  end_late c =
      let e : c + m - m ≡ c = omega arith in
      ap (λ (b : Bool). if b then false else ends (c + m - m)) (le-ltb (c + m) m (omega arith)) ∙ ap ends e

  same_slot : (c k : ℕ) → nat_eq (d.slot (suc c + m)) k ≡ nat_eq (l.slot (suc c)) k
  same_slot c k = ap (λ s. nat_eq s k) (behind.slots c)

  none_before : (k c : ℕ) → c ≤ m → has_begun (all_ends d) d k c ≡ false
  none_before k zero le = refl
  none_before k (suc c) le =
      still_shut (ends_late m ends c) (nat_eq (d.slot c) k) (d.first c) (has_begun (all_ends d) d k c) (behind.firsts.before c (omega (arith, le))) (none_before k c (omega (arith, le)))

  begun_late : (k c : ℕ) → has_begun (all_ends d) d k (c + m) ≡ has_begun (all_ends l) l k c
  begun_late k zero = let e : zero + m ≡ m = omega arith in ap (has_begun (all_ends d) d k) e ∙ none_before k m (omega arith)
  begun_late k (suc c) =
      let e : suc c + m ≡ suc (c + m) = omega arith in
      ap (has_begun (all_ends d) d k) e
      ∙ begins_go (ends_late m ends (c + m)) (ends c) (nat_eq (d.slot (c + m)) k) (nat_eq (l.slot c) k) (d.first (c + m)) (l.first c) (has_begun (all_ends d) d k (c + m)) (has_begun (all_ends l) l k c)
      (end_late c) (behind.firsts.line c) (begun_late k c) (side c)
    where
      side : (c : ℕ) → (nat_eq (d.slot (c + m)) k ≡ nat_eq (l.slot c) k) ⊎ (l.first c ≡ false)
      side zero = inr (line_first run rows.first)
      side (suc c) = inl (same_slot c k)

  pub told_late : AreTold run rows ends → AreTold run later (ends_late m ends)
  told_late told = record {
    quiet = quiet m refl;
    slots = behind.next_slots;
    firsts = behind.next_firsts;
    opens = record { no_row = line_first run later.valid; no_first = line_first run later.first; rows = begins; only = only };
  }
    where
      -- no row in the first cycle
      quiet : (n : ℕ) → m ≡ n → line_at run later.valid 1 ≡ false
      quiet zero e = let at : 1 ≡ 1 + m = omega (arith, e) in ap (line_at run later.valid) at ∙ behind.valids.line 1 ∙ told.quiet
      quiet (suc zero) e = let at : 1 ≡ 0 + m = omega (arith, e) in ap (line_at run later.valid) at ∙ behind.valids.line 0 ∙ line_first run rows.valid
      quiet (suc (suc n)) e = behind.valids.before 1 (omega (arith, e))

      from_row : (i : ℕ) → line_at run rows.valid i ≡ true → d.first (i + m) ≡ not (has_begun (all_ends d) d (d.slot (i + m)) (i + m))
      from_row zero v = absurd (not_both (line_at run rows.valid 0) v (line_first run rows.valid))
      from_row (suc i) v =
          behind.firsts.line (suc i) ∙ told.opens.rows (suc i) v
          ∙ ap not (ap (λ k. has_begun (all_ends l) l k (suc i)) (sym (behind.slots i)) ∙ sym (begun_late (d.slot (suc i + m)) (suc i)))

      begins : (c : ℕ) → d.valid c ≡ true → d.first c ≡ not (has_begun (all_ends d) d (d.slot c) c)
      begins c v = elim (cases_lt c m) [
        | inl lt ↦ absurd (not_both (d.valid c) v (behind.valids.before c lt))
        | inr le ↦ (
            let at : (c - m) + m ≡ c = omega (arith, le) in
            let here = from_row (c - m) (sym (behind.valids.line (c - m)) ∙ ap d.valid at ∙ v) in
            sym (ap d.first at) ∙ here ∙ ap (λ i. not (has_begun (all_ends d) d (d.slot i) i)) at
            )
      ]

      from_first : (i : ℕ) → line_at run rows.first i ≡ true → has_begun (all_ends d) d (d.slot (i + m)) (i + m) ≡ false
      from_first zero f = absurd (not_both (line_at run rows.first 0) f (line_first run rows.first))
      from_first (suc i) f =
          begun_late (d.slot (suc i + m)) (suc i) ∙ ap (λ k. has_begun (all_ends l) l k (suc i)) (behind.slots i) ∙ told.opens.only (suc i) f

      only : (c : ℕ) → d.first c ≡ true → has_begun (all_ends d) d (d.slot c) c ≡ false
      only c f = elim (cases_lt c m) [
        | inl lt ↦ absurd (not_both (d.first c) f (behind.firsts.before c lt))
        | inr le ↦ (
            let at : (c - m) + m ≡ c = omega (arith, le) in
            sym (ap (λ i. has_begun (all_ends d) d (d.slot i) i) at) ∙ from_first (c - m) (sym (behind.firsts.line (c - m)) ∙ ap d.first at ∙ f)
            )
      ]

  module _ {B : Type 0} (mid : ℕ → B) where
    nothing : (k c : ℕ) → c ≤ m → rows_since (all_ends d) d mid k c ≡ []
    nothing k zero le = refl
    nothing k (suc c) le =
        still_none (ends_late m ends c) (nat_eq (d.slot c) k) (rows_since (all_ends d) d mid k c) (row_in d mid c) (nothing k c (omega (arith, le)))
        (ap (λ (b : Bool). if b then mid c ∷ [] else []) (behind.valids.before c (omega (arith, le))))

    own_late : (c : ℕ) → row_in d mid (c + m) ≡ row_in l (λ t. mid (t + m)) c
    own_late c = ap (λ (b : Bool). if b then mid (c + m) ∷ [] else []) (behind.valids.line c)

    since_late : (k c : ℕ) → rows_since (all_ends d) d mid k (c + m) ≡ rows_since (all_ends l) l (λ t. mid (t + m)) k c
    since_late k zero = let e : zero + m ≡ m = omega arith in ap (rows_since (all_ends d) d mid k) e ∙ nothing k m (omega arith)
    since_late k (suc c) =
        let e : suc c + m ≡ suc (c + m) = omega arith in
        ap (rows_since (all_ends d) d mid k) e
        ∙ rows_go (ends_late m ends (c + m)) (ends c) (nat_eq (d.slot (c + m)) k) (nat_eq (l.slot c) k) (rows_since (all_ends d) d mid k (c + m)) (rows_since (all_ends l) l (λ t. mid (t + m)) k c)
        (row_in d mid (c + m)) (row_in l (λ t. mid (t + m)) c) (end_late c) (since_late k c) (own_late c) (side c)
      where
        side : (c : ℕ) → (nat_eq (d.slot (c + m)) k ≡ nat_eq (l.slot c) k) ⊎ (row_in l (λ t. mid (t + m)) c ≡ [])
        side zero = inr (ap (λ (b : Bool). if b then mid (0 + m) ∷ [] else []) (line_first run rows.valid))
        side (suc c) = inl (same_slot c k)

    -- and before this cycle's row
    past_late : (c : ℕ) → rows_past (all_ends d) d mid (suc c + m) ≡ rows_past (all_ends l) l (λ t. mid (t + m)) (suc c)
    past_late c = ap (λ k. rows_since (all_ends d) d mid k (suc c + m)) (behind.slots c) ∙ since_late (l.slot (suc c)) (suc c)

    pub here_late : (c : ℕ) → rows_here (all_ends d) d mid (suc c + m) ≡ rows_here (all_ends l) l (λ t. mid (t + m)) (suc c)
    here_late c =
        ap (λ k. rows_since (all_ends d) d mid k (suc c + m) ++ row_in d mid (suc c + m)) (behind.slots c)
        ∙ ap (λ xs. xs ++ row_in d mid (suc c + m)) (since_late (l.slot (suc c)) (suc c))
        ∙ ap (λ xs. rows_since (all_ends l) l (λ t. mid (t + m)) (l.slot (suc c)) (suc c) ++ xs) (own_late (suc c))

pub rows_told : RowsToldLate
rows_told run m rows later ends behind told = told_late run m rows later ends behind told

-- a count as late counts the later rows
pub counts_late : (run : Run) (m : ℕ) (rows later : SlotRows) (ends : ℕ → Bool) (count late : Bus) → AreRowsBehind run m rows later → late.width ≡ count.width
    → ((t : ℕ) → run.at (suc t + m) late.node ≡ run.at (suc t) count.node) → Counts run rows ends count → Counts run later (ends_late m ends) late
counts_late run m rows later ends count late behind wide same counts column c v = elim (cases_lt (suc c) m) [
  | inl lt ↦ absurd (not_both (line_at run later.valid (suc c)) v (behind.valids.before (suc c) lt))
  | inr le ↦ found (suc c - m) (omega (arith, le))
]
  where
    found : (i : ℕ) → suc c ≡ i + m → run.at (suc c) late.node ≡ wound (2 ^ (late.width - 1)) (length (slot_past run later (ends_late m ends) column (suc c)))
    found zero e = absurd (not_both (line_at run later.valid (suc c)) v (ap (line_at run later.valid) e ∙ behind.valids.line zero ∙ line_first run rows.valid))
    found (suc i) e =
        let there : line_at run rows.valid (suc i) ≡ true = sym (behind.valids.line (suc i)) ∙ ap (line_at run later.valid) (sym e) ∙ v in
        ap (λ t. run.at t late.node) e ∙ same i ∙ counts (λ t. column (t + m)) i there
        ∙ ap (λ w. wound (2 ^ (w - 1)) (length (slot_past run rows ends (λ t. column (t + m)) (suc i)))) (sym wide)
        ∙ ap (λ xs. wound (2 ^ (late.width - 1)) (length xs)) (sym (past_late run m rows later ends behind column i))
        ∙ ap (λ t. wound (2 ^ (late.width - 1)) (length (slot_past run later (ends_late m ends) column t))) (sym e)

pub stages_meet : {A B C : Type 0} → SlotStagesMeet A B C
stages_meet run m n rows later ends f g row mid made behind one two c v =
    let e : suc c + (m + n) ≡ suc (c + m) + n = omega arith in
    let i : suc (c + m) ≡ suc c + m = omega arith in
    let on : line_at run later.valid (suc (c + m)) ≡ true = ap (line_at run later.valid) i ∙ behind.valids.line (suc c) ∙ v in
    ap made e ∙ two (c + m) on ∙ ap (λ t. g (slot_here run later (ends_late m ends) mid t)) i
    ∙ ap g (here_late run m rows later ends behind mid c
    ∙ framed_here f (all_ends (lane_at run rows ends)) (lane_at run rows ends) row (λ t. mid (t + m)) (line_first run rows.valid) one c v)

-- what is made of two columns that tell something of a third
pub both_told : {B : Type 0} (run : Run) (rows : SlotRows) (ends : ℕ → Bool) (m : ℕ) (f g : List B → ℕ) (row : ℕ → B) (x y out : ℕ → ℕ) (op : ℕ → ℕ → ℕ)
    → ((t : ℕ) → out (suc (suc t)) ≡ op (x (suc t)) (y (suc t))) → TellsBySlot run rows ends m f row x → TellsBySlot run rows ends m g row y
    → TellsBySlot run rows ends (m + 1) (λ xs. op (f xs) (g xs)) row out
both_told run rows ends m f g row x y out op is h i c v =
    let e : suc c + (m + 1) ≡ suc (suc (c + m)) = omega arith in
    let d : suc (c + m) ≡ suc c + m = omega arith in
    ap out e ∙ is (c + m) ∙ ap (λ n. op n (y (suc (c + m)))) (ap x d ∙ h c v) ∙ ap (op (f (slot_here run rows ends row (suc c)))) (ap y d ∙ i c v)

-- what is told by a column that is so many cycles behind another
pub tells_behind : {A B : Type 0} (run : Run) (rows : SlotRows) (ends : ℕ → Bool) (m n : ℕ) (of : List B → A) (row : ℕ → B) (made late : ℕ → A)
    → ((t : ℕ) → late (suc t + n) ≡ made (suc t)) → TellsBySlot run rows ends m of row made → TellsBySlot run rows ends (m + n) of row late
tells_behind run rows ends m n of row made late is h c v =
    let e : suc c + (m + n) ≡ suc (c + m) + n = omega arith in
    let f : suc (c + m) ≡ suc c + m = omega arith in
    ap late e ∙ is (c + m) ∙ ap made f ∙ h c v

-- the same in a register
pub tells_next : {A B : Type 0} (run : Run) (rows : SlotRows) (ends : ℕ → Bool) (m : ℕ) (of : List B → A) (row : ℕ → B) (made late : ℕ → A)
    → ((t : ℕ) → late (suc (suc t)) ≡ made (suc t)) → TellsBySlot run rows ends m of row made → TellsBySlot run rows ends (m + 1) of row late
tells_next run rows ends m of row made late is h =
    tells_behind run rows ends m 1 of row made late (λ t. let e : suc t + 1 ≡ suc (suc t) = omega arith in ap late e ∙ is t) h

-- lines and buses in two registers behind one another
pub behind_two : (run : Run) (rows later : SlotRows) → IsLineBehind run 2 rows.valid later.valid
    → ((t : ℕ) → line_at run later.begins (suc t) ≡ line_at run rows.first t) → ((t : ℕ) → line_at run later.first (suc t) ≡ line_at run later.begins t)
    → ((t : ℕ) → run.at (suc (suc t)) later.next.node ≡ run.at (suc t) rows.slot.node) → ((t : ℕ) → run.at (suc (suc t)) later.slot.node ≡ run.at (suc t) later.next.node)
    → AreRowsBehind run 2 rows later
behind_two run rows later valid begins first next slot = record {
  valids = valid;
  firsts = record { before = before; line = λ t. let e : t + 2 ≡ suc (suc t) = omega arith in ap (line_at run later.first) e ∙ first (suc t) ∙ begins t };
  slots = λ t. let e : suc t + 2 ≡ suc (suc (suc t)) = omega arith in ap (λ i. run.at i later.slot.node) e ∙ slot (suc t) ∙ next t;
  next_slots = slot;
  next_firsts = first;
}
  where
    before : (c : ℕ) → c < 2 → line_at run later.first c ≡ false
    before zero lt = line_first run later.first
    before (suc zero) lt = first 0 ∙ line_first run later.begins
    before (suc (suc c)) lt = absurd (omega (arith, lt))
