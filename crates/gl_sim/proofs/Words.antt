-- The words that waited, put one after another.
use Rattle.std.proofs.Common.{◌≡◌, ℕ, zero, suc, ◌+◌, ◌<◌, List, [], ◌∷◌, refl, sym, ◌∙◌, ap, subst, arith, length, drop, get_or, drop-cons, add-one, unwrap_or, slice_index, inl, inr}
use Rattle.std.specs.Prelude.{slice_index_or, slice_set}
use Rattle.std.proofs.lemmas.Bool.Decides.{eqb_tells}
use Rattle.gl_bits.proofs.AllLists.{all_weaker}
use Rattle.gl_verilog.specs.Evaluate.{memories_of}
use Rattle.gl_verilog.proofs.Stores.{with_word, with_word-same, with_word-other_place, with_word-other_bank, with_word-length, with_word-bank}
use Rattle.gl_sim.specs.declared.update.Update.{Update}
use Rattle.gl_sim.specs.Updates.{put_by, put_of, AreInside}
use Rattle.gl_sim.proofs.Waiting.{unwrap-later}

-- the banks with an update put
pub with_word-put_by : (bs : List (List ℕ)) (u : Update) (k at : ℕ) → u.memory < length bs → u.address < length (slice_index_or bs u.memory []) → memories_of (with_word bs u.memory u.address u.value) k at ≡ unwrap_or (put_by u k at) (memories_of bs k at)
with_word-put_by bs u k at lt within = elim (eqb_tells u.memory k) [
  | inl here ↦ elim (eqb_tells u.address at) [
    | inl place ↦
        rw (here.0, place.0) (subst (λ (i : ℕ). memories_of (with_word bs u.memory u.address u.value) i at ≡ u.value) here.1
        (subst (λ (i : ℕ). memories_of (with_word bs u.memory u.address u.value) u.memory i ≡ u.value) place.1 (with_word-same bs u.memory u.address u.value lt within)))
    | inr elsewhere ↦
        rw (here.0, elsewhere.0) (subst (λ (i : ℕ). memories_of (with_word bs u.memory u.address u.value) i at ≡ memories_of bs i at) here.1
        (with_word-other_place bs u.memory u.address u.value at lt elsewhere.1))
  ]
  | inr other ↦ rw other.0 (ap (λ (b : List ℕ). slice_index b at) (with_word-other_bank bs u.memory u.address u.value k other.1))
]

pub record HasPut (all : List Update) (before : List (List ℕ)) (rest : List Update) (after : List (List ℕ)) : Type 0 where
  pub inside : AreInside after rest
  pub size : length after ≡ length before
  pub sizes : (k : ℕ) → length (slice_index_or after k []) ≡ length (slice_index_or before k [])
  pub words : (k at : ℕ) → unwrap_or (put_of rest k at) (memories_of after k at) ≡ unwrap_or (put_of all k at) (memories_of before k at)

pub inside_here : (bs : List (List ℕ)) (us : List Update) (i : ℕ) (d : Update) → i < length us → AreInside bs (drop i us) → AreInside bs (get_or us i d ∷ drop (i + 1) us)
inside_here bs us i d lt h =
    let here : drop i us ≡ get_or us i d ∷ drop (i + 1) us = rw add-one (drop-cons us i d lt) in
    subst (AreInside bs) here h

pub has_put-more : (all : List Update) (before after : List (List ℕ)) (us : List Update) (i : ℕ) (d : Update) (bank : List ℕ) → i < length us → HasPut all before (drop i us) after → bank ≡ slice_set (slice_index_or after (get_or us i d).memory []) (get_or us i d).address (get_or us i d).value → HasPut all before (drop (i + 1) us) (slice_set after (get_or us i d).memory bank)
unfolding with_word
has_put-more all before after us i d bank lt h is =
    let u = get_or us i d in
    let within = inside_here after us i d lt h.inside in
    let here : drop i us ≡ u ∷ drop (i + 1) us = rw add-one (drop-cons us i d lt) in
    let after' = with_word after u.memory u.address u.value in
    let size : length after' ≡ length after = with_word-length after u.memory u.address u.value in
    let sizes : (k : ℕ) → length (slice_index_or after' k []) ≡ length (slice_index_or after k []) = λ k. with_word-bank after u.memory u.address u.value k within.0.0 in
    subst (λ (b : List ℕ). HasPut all before (drop (i + 1) us) (slice_set after u.memory b)) (sym is) (record {
      inside = all_weaker (λ w. (w.memory < length after) × (w.address < length (slice_index_or after w.memory []))) (λ w. (w.memory < length after') × (w.address < length (slice_index_or after' w.memory []))) (λ w p. (subst (λ n. w.memory < n) (sym size) p.0, subst (λ n. w.address < n) (sym (sizes w.memory)) p.1)) (drop (i + 1) us) within.1;
      size = size ∙ h.size;
      sizes = λ k. sizes k ∙ h.sizes k;
      words = λ k at.
          ap (λ (x : ℕ). unwrap_or (put_of (drop (i + 1) us) k at) x) (with_word-put_by after u k at within.0.0 within.0.1)
          ∙ sym (unwrap-later (put_by u k at) (put_of (drop (i + 1) us) k at) (memories_of after k at))
          ∙ ap (λ (ws : List Update). unwrap_or (put_of ws k at) (memories_of after k at)) (sym here)
          ∙ h.words k at;
    })

-- an element that is there is it whatever the default
pub get_or_default : {T : Type 0} (xs : List T) (i : ℕ) (d e : T) → i < length xs → get_or xs i d ≡ get_or xs i e
get_or_default [] i d e lt = absurd (omega arith)
get_or_default (x ∷ xs) zero d e lt = refl
get_or_default (x ∷ xs) (suc i) d e lt = get_or_default xs i d e (omega arith)
