-- The beat of a cycle, where the beats are taken in order.
use Rattle.std.proofs.Common.{◌≡◌, ℕ, zero, suc, ◌+◌, ◌-◌, ◌<◌, ◌≤◌, inl, inr, List, [], ◌∷◌, drop, length, Option, Some, None, refl, sym, ap, ◌∙◌, subst, arith}
use Rattle.std.specs.Prelude.{slice_get}
use Rattle.std.proofs.lemmas.Bool.Decides.{eqb_tells}
use Rattle.gl_schema.specs.Beats.{Beat, AreInOrder, beat_at, last_in}
use Rattle.gl_tuples.specs.Gaps.{plain_beat, plain_list}
use Rattle.gl_tuples.specs.declared.beats.Beat.{Beat as Rust}
use Rattle.gl_bits.proofs.AllLists.{get_mapped}
use Rattle.gl_sim.proofs.Settling.{drop_here}
use Rattle.gl_testbench.specs.Dues.{AreFrom, AreDue}

pub other_beat : (b : Beat) (bs : List Beat) (k : ℕ) → (b.cycle ≡ k → ⊥) → beat_at (b ∷ bs) k ≡ beat_at bs k
other_beat b bs k other = (elim (eqb_tells b.cycle k) [ inl same ↦ absurd (other same.1) | inr no' ↦ rw no'.0 refl ])

pub this_beat : (b : Beat) (bs : List Beat) (k : ℕ) → b.cycle ≡ k → beat_at (b ∷ bs) k ≡ Some b
this_beat b bs k same = (elim (eqb_tells b.cycle k) [ inl yes' ↦ rw yes'.0 refl | inr no' ↦ absurd (no'.1 same) ])

pub none_before : (bs : List Beat) (k n : ℕ) → AreFrom n bs → k < n → beat_at bs k ≡ None
none_before [] k n h lt = refl
none_before (b ∷ bs) k n h lt = other_beat b bs k (λ e. absurd (omega (arith, h.0, e))) ∙ none_before bs k (b.cycle + 1) h.1 (omega (arith, h.0))

from_less : (bs : List Beat) (m n : ℕ) → m ≤ n → AreFrom n bs → AreFrom m bs
from_less [] m n le h = tt
from_less (b ∷ bs) m n le h = (omega (arith, h.0), h.1)

pub record AfterBeat (bs : List Beat) (next n : ℕ) (o : Option Beat) : Type 0 where
  pub beat : o ≡ beat_at bs n
  pub due : AreDue bs next (n + 1)

due_here : (bs : List Beat) (next n : ℕ) (b : Beat) → AreDue bs next n → slice_get bs next ≡ Some b → b.cycle ≡ n → AfterBeat bs (next + 1) n (Some b)
due_here bs next n b d e c =
    let rest : drop next bs ≡ b ∷ drop (next + 1) bs = drop_here bs next b e in
    let later : AreFrom n (b ∷ drop (next + 1) bs) = subst (AreFrom n) rest d.later in
    record {
      beat = sym (d.same n (omega arith) ∙ ap (λ (xs : List Beat). beat_at xs n) rest ∙ this_beat b (drop (next + 1) bs) n c);
      due = record {
        same = λ k le. d.same k (omega (arith, le)) ∙ ap (λ (xs : List Beat). beat_at xs k) rest ∙ other_beat b (drop (next + 1) bs) k (λ q. absurd (omega (arith, le, q, c)));
        later = subst (λ (x : ℕ). AreFrom (x + 1) (drop (next + 1) bs)) c later.1;
      };
    }

due_later : (bs : List Beat) (next n : ℕ) (b : Beat) → AreDue bs next n → slice_get bs next ≡ Some b → (b.cycle ≡ n → ⊥) → AfterBeat bs next n None
due_later bs next n b d e c =
    let rest : drop next bs ≡ b ∷ drop (next + 1) bs = drop_here bs next b e in
    let later : AreFrom n (b ∷ drop (next + 1) bs) = subst (AreFrom n) rest d.later in
    let beyond : AreFrom (n + 1) (b ∷ drop (next + 1) bs) = (omega (arith, later.0, c), later.1) in
    record {
      beat = sym (d.same n (omega arith) ∙ ap (λ (xs : List Beat). beat_at xs n) rest ∙ none_before (b ∷ drop (next + 1) bs) n (n + 1) beyond (omega arith));
      due = record { same = λ k le. d.same k (omega (arith, le)); later = subst (AreFrom (n + 1)) (sym rest) beyond };
    }

plain_at : (beats : List Rust) (next : ℕ) (b : Rust) → Some b ≡ slice_get beats next → slice_get (plain_list beats) next ≡ Some (plain_beat b)
plain_at beats next b e = get_mapped plain_beat beats next b (sym e)

pub taken_here : (beats : List Rust) (next n : ℕ) (b : Rust) → AreDue (plain_list beats) next n → Some b ≡ slice_get beats next → b.cycle ≡ n → AfterBeat (plain_list beats) (next + 1) n (Some (plain_beat b))
taken_here beats next n b d e c = due_here (plain_list beats) next n (plain_beat b) d (plain_at beats next b e) c

pub taken_later : (beats : List Rust) (next n : ℕ) (b : Rust) → AreDue (plain_list beats) next n → Some b ≡ slice_get beats next → (b.cycle ≡ n → ⊥) → AfterBeat (plain_list beats) next n None
taken_later beats next n b d e c = due_later (plain_list beats) next n (plain_beat b) d (plain_at beats next b e) c

none_left : (beats : List Rust) (next : ℕ) → None ≡ slice_get beats next → drop next (plain_list beats) ≡ []
none_left [] zero e = refl
none_left [] (suc next) e = refl
none_left (b ∷ beats) zero e = absurd cc
none_left (b ∷ beats) (suc next) e = none_left beats next e

pub taken_none : (beats : List Rust) (next n : ℕ) → AreDue (plain_list beats) next n → None ≡ slice_get beats next → AfterBeat (plain_list beats) next n None
taken_none beats next n d e =
    let none : drop next (plain_list beats) ≡ [] = none_left beats next e in
    record {
      beat = sym (d.same n (omega arith) ∙ ap (λ (bs : List Beat). beat_at bs n) none);
      due = record { same = λ k le. d.same k (omega (arith, le)); later = subst (AreFrom (n + 1)) (sym none) tt };
    }

order_from : (b : Beat) (bs : List Beat) → AreInOrder (b ∷ bs) → AreFrom (b.cycle + 1) bs
order_from b [] h = tt
order_from b (c ∷ bs) h = (omega (arith, h.1), order_from c bs h.2)

pub from_first : (bs : List Beat) → AreInOrder bs → AreFrom 0 bs
from_first [] h = tt
from_first (b ∷ bs) h = (omega arith, order_from b bs h)

pub due_first : (bs : List Beat) → AreInOrder bs → AreDue bs 0 0
due_first bs h = record { same = λ k le. refl; later = from_first bs h }

-- ---- the last beat

last_at : (bs : List Rust) (k : ℕ) (b : Rust) → suc k ≡ length bs → slice_get bs k ≡ Some b → last_in (plain_list bs) ≡ b.cycle
last_at [] k b e same = absurd cc
last_at (x ∷ []) zero b e same = let here : x ≡ b = cc in ap (λ (y : Rust). y.cycle) here
last_at (x ∷ []) (suc k) b e same = absurd cc
last_at (x ∷ y ∷ bs) zero b e same = absurd (omega (arith, e))
last_at (x ∷ y ∷ bs) (suc k) b e same = last_at (y ∷ bs) k b (omega (arith, e)) same

in_list : (bs : List Rust) (k : ℕ) → None ≡ slice_get bs k → length bs ≤ k
in_list [] k e = omega arith
in_list (x ∷ bs) zero e = absurd cc
in_list (x ∷ bs) (suc k) e = let h : length bs ≤ k = in_list bs k e in omega arith

pub last_some : (bs : List Rust) (b : Rust) → Some b ≡ slice_get bs (length bs - 1) → b.cycle ≡ last_in (plain_list bs)
last_some [] b e = absurd cc
last_some (x ∷ bs) b e = let same : length (x ∷ bs) - 1 ≡ length bs = omega arith in sym (last_at (x ∷ bs) (length bs) b (omega arith) (sym (rw same at e)))

pub last_none : (bs : List Rust) → None ≡ slice_get bs (length bs - 1) → 0 ≡ last_in (plain_list bs)
last_none [] e = refl
last_none (x ∷ bs) e = absurd (omega (arith, in_list (x ∷ bs) (length (x ∷ bs) - 1) e))
