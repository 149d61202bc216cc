-- The first beat that comes too early, and that there is none.
use Rattle.std.proofs.Common.{◌≡◌, ℕ, ◌+◌, ◌≤◌, Bool, true, false, List, [], ◌∷◌, Option, Some, refl, ap, arith, ◌↔◌, inl, inr}
use Rattle.std.specs.Prelude.{IsOk, nat_lt, ◌&&◌, ◌||◌, if◌then◌else◌}
use Rattle.std.proofs.lemmas.Bool.{cases_Bool, ltb-false, le-ltb, or_parts, or_from, false≢true}
use Rattle.gl_bits.proofs.Bools.{and_no}
use Rattle.gl_gaps.specs.declared.Gaps.{Gaps}
use Rattle.gl_schema.specs.Beats.{AreSpaced}
use Rattle.gl_gaps.specs.Keeps.{KeepsGaps, KeepsTicks}
use Rattle.gl_schema.specs.Beats as plain
use Rattle.gl_tuples.specs.declared.beats.Beat.{Beat}
use Rattle.gl_tuples.specs.declared.beats.Head.{Head}
use Rattle.gl_tuples.specs.Flat.{BeatList, beats_in, close_head}
use Rattle.gl_tuples.specs.Gaps.{first_close, close_answer, plain_beats, plain_list}

-- of beats in flat lists their heads tell
pub heads_tell : (gaps : Gaps) (next tick : ℕ) (shape : List (List ℕ)) (numbers : List ℕ) (hs : List Head) → close_head gaps next tick hs ≡ first_close gaps next tick (beats_in shape numbers hs)
heads_tell gaps next tick shape numbers [] = refl
heads_tell gaps next tick shape numbers (h ∷ hs) =
    ap (λ (o : Option ℕ). if nat_lt h.cycle next || ((h.tick || h.end) && nat_lt h.cycle tick) then Some h.number else o)
    (heads_tell gaps (h.cycle + gaps.of_beats) (if h.tick then h.cycle + gaps.of_ticks else tick) shape numbers hs)

-- ---- none is too close

-- from a cycle on, each so far behind the one before
abbrev KeepsFrom : ℕ → ℕ → List plain.Beat → Type 0
KeepsFrom gap next [] = Unit {0}
KeepsFrom gap next (b ∷ bs) = (next ≤ b.cycle) × KeepsFrom gap (b.cycle + gap) bs

pairs : (gap next : ℕ) (bs : List plain.Beat) → KeepsFrom gap next bs → AreSpaced gap bs
pairs gap next [] h = tt
pairs gap next (b ∷ []) h = tt
pairs gap next (b ∷ c ∷ bs) h = (h.1.0, pairs gap (b.cycle + gap) (c ∷ bs) h.1)

from_pairs : (gap next : ℕ) (b : plain.Beat) (bs : List plain.Beat) → next ≤ b.cycle → AreSpaced gap (b ∷ bs) → KeepsFrom gap next (b ∷ bs)
from_pairs gap next b [] low h = (low, tt)
from_pairs gap next b (c ∷ bs) low h = (low, from_pairs gap (b.cycle + gap) c bs h.0 h.1)

from_first : (gap : ℕ) (bs : List plain.Beat) → AreSpaced gap bs → KeepsFrom gap 0 bs
from_first gap [] h = tt
from_first gap (b ∷ bs) h = from_pairs gap 0 b bs (omega arith) h

keeps_both : (gaps : Gaps) (next tick : ℕ) (bs : List Beat) → IsOk (close_answer (first_close gaps next tick bs))
    → KeepsFrom gaps.of_beats next (plain_list bs) × KeepsTicks gaps.of_ticks tick (plain_list bs)
keeps_both gaps next tick [] h = (tt, tt)
keeps_both gaps next tick (b ∷ bs) h = elim (cases_Bool (nat_lt b.cycle next || ((b.tick || b.end) && nat_lt b.cycle tick))) [
  | inl t ↦ absurd (false≢true (rw t at h))
  | inr f ↦
      let p = or_parts (nat_lt b.cycle next) ((b.tick || b.end) && nat_lt b.cycle tick) f in
      let k = keeps_both gaps (b.cycle + gaps.of_beats) (if b.tick then b.cycle + gaps.of_ticks else tick) bs (rw f at h) in
      ((ltb-false b.cycle next p.0, k.0), (λ t. ltb-false b.cycle tick (and_no (b.tick || b.end) (nat_lt b.cycle tick) p.1 t), k.1))
]

-- a beat with neither a tick nor the end is asked for the gap of all alone
in_time : (timed : Bool) (cycle tick : ℕ) → (timed ≡ true → tick ≤ cycle) → (timed && nat_lt cycle tick) ≡ false
in_time true cycle tick h = le-ltb cycle tick (h refl)
in_time false cycle tick h = refl

ok_both : (gaps : Gaps) (next tick : ℕ) (bs : List Beat) → KeepsFrom gaps.of_beats next (plain_list bs) → KeepsTicks gaps.of_ticks tick (plain_list bs)
    → IsOk (close_answer (first_close gaps next tick bs))
ok_both gaps next tick [] h k = refl
ok_both gaps next tick (b ∷ bs) h k =
    let none : (nat_lt b.cycle next || ((b.tick || b.end) && nat_lt b.cycle tick)) ≡ false =
    or_from (nat_lt b.cycle next) ((b.tick || b.end) && nat_lt b.cycle tick) (le-ltb b.cycle next h.0) (in_time (b.tick || b.end) b.cycle tick k.0) in
    rw none (ok_both gaps (b.cycle + gaps.of_beats) (if b.tick then b.cycle + gaps.of_ticks else tick) bs h.1 k.1)

pub keeps_is : (gaps : Gaps) (beats : BeatList) → IsOk (close_answer (first_close gaps 0 0 beats.list)) ↔ KeepsGaps gaps (plain_beats beats)
keeps_is gaps beats = (
  λ h. (let k = keeps_both gaps 0 0 beats.list h in record { each = pairs gaps.of_beats 0 (plain_list beats.list) k.0; ticks = k.1 }),
  λ k. ok_both gaps 0 0 beats.list (from_first gaps.of_beats (plain_list beats.list) k.each) k.ticks,
)
