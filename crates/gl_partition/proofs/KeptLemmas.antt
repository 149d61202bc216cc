-- The key of a slot stays while the rows of one of its windows leave.
use Rattle.std.proofs.Common.{◌≡◌, ℕ, zero, suc, ◌+◌, ◌-◌, ◌*◌, ◌<◌, ◌≤◌, List, [], ◌∷◌, ◌++◌, length, Option, Some, None, Bool, true, false, not, ◌&&◌, refl, sym, ap, ◌∙◌, arith, inl, inr}
use Rattle.std.specs.Prelude.{if◌then◌else◌, nat_eq, nat_lt, slice_get}
use Rattle.std.specs.List.{list_any}
use Rattle.std.proofs.lemmas.Bool.{cases_lt}
use Rattle.gl_values.specs.Results.{Row}
use Rattle.gl_values.specs.Tables.{with_key}
use Rattle.gl_bits.proofs.AllLists.{get_front}
use Rattle.gl_wire.specs.Apart.{Carries, a_tuple, an_end}
use Rattle.gl_slots.specs.Slots.{Slots, freed, keys_now}
use Rattle.gl_partition.proofs.Setting.{Setting, Spacing}
use Rattle.gl_partition.proofs.EndingLemmas.{keys_stay, slots}
use Rattle.gl_partition.proofs.FlushLemmas.{Flush}
use Rattle.gl_partition.proofs.PhaseLemmas.{Phase, all, flows, flushes, phase}
use Rattle.gl_partition.proofs.CauseLemmas.{Source, comes', comes_tuple, in_turn, turn_early}

module _ (front : Setting) where
  open front use {n, a, ins}

  abbrev count : ℕ
  count = front.n.slots

  -- a key more leaves the others where they are
  with_key_keeps : (m : ℕ) (ks : List ℕ) (x i y : ℕ) → slice_get ks i ≡ Some y → slice_get (with_key m ks x) i ≡ Some y
  unfolding with_key
  with_key_keeps m ks x i y h = by (nat_lt (length ks) m && not (list_any (nat_eq x) ks))
    where
      by : (b : Bool) → slice_get (if b then ks ++ x ∷ [] else ks) i ≡ Some y
      by true = get_front ks (x ∷ []) i y h
      by false = h

  keys_keep : (e : Bool) (o : Option Row) (s : Slots) (i y : ℕ) → slice_get s.keys i ≡ Some y → (((e ≡ true) → s.flush ≡ false) × ((r : Row) → o ≡ Some r → s.flush ≡ false)) → slice_get (keys_now count front.n.key e o s) i ≡ Some y
  keys_keep false None s i y h calm = h
  keys_keep false (Some r) s i y h calm = with_key_keeps count (freed s) (front.n.key r) i y (ap (λ (b : Bool). slice_get (if b then [] else s.keys) i) (calm.1 r refl) ∙ h)
  keys_keep true None s i y h calm = ap (λ (b : Bool). slice_get (if b then [] else s.keys) i) (calm.0 refl) ∙ h
  keys_keep true (Some r) s i y h calm = with_key_keeps count (freed s) (front.n.key r) i y (ap (λ (b : Bool). slice_get (if b then [] else s.keys) i) (calm.0 refl) ∙ h)

  key_next : (c i y : ℕ) → slice_get (slots front c).keys i ≡ Some y → (Carries a c → (slots front c).flush ≡ false) → slice_get (slots front (suc c)).keys i ≡ Some y
  key_next c i y h calm =
      ap (λ ks. slice_get ks i) (keys_stay front c)
      ∙ keys_keep (a.ends c) (a.tuple c) (slots front c) i y h (λ e. calm (an_end e), λ r e. calm (a_tuple r e))

  key_from : (v k i y : ℕ) → slice_get (slots front v).keys i ≡ Some y → ((c : ℕ) → v ≤ c → c < v + k → Carries a c → (slots front c).flush ≡ false) → slice_get (slots front (v + k)).keys i ≡ Some y
  key_from v zero i y h calm = let e : v ≡ v + zero = omega arith in ap (λ (c : ℕ). slice_get (slots front c).keys i) (sym e) ∙ h
  key_from v (suc k) i y h calm =
      let e : suc (v + k) ≡ v + suc k = omega arith in
      ap (λ (c : ℕ). slice_get (slots front c).keys i) (sym e)
      ∙ key_next (v + k) i y (key_from v k i y h (λ c l m. calm c l (omega (arith, m)))) (calm (v + k) (omega arith) (omega arith))

  -- the key that a slot has where a window of it ends
  pub key_there : (i c : ℕ) → Source front i c → (y : ℕ) × (slice_get (slots front (suc c)).keys i ≡ Some y)
  key_there i c (comes' r e) = (front.n.key r, ap (λ ks. slice_get ks i) (keys_stay front c) ∙ (comes_tuple front i c r e).1)
  key_there i c (in_turn t) = (t.key_of, ap (λ ks. slice_get ks i) (keys_stay front c) ∙ t.keyed')

  module _ (time : Spacing front) (late : ℕ) (wide : all front * front.n.stride + late + 3 ≤ time.g2) where
    -- what comes while the rows leave comes in the same stream
    calm : (i c d : ℕ) → i < count → Source front i c → suc c ≤ d → d < suc c + late → Carries a d → (slots front d).flush ≡ false
    calm i c d there s low high k = by (phase front d)
      where
        never : (lo u : ℕ) (xs : List Row) → Flush front d lo u xs → u + time.g2 ≤ d → Source front i c → ⊥
        never lo u xs f far (comes' r e) = elim (cases_lt u c) [
          | inl g ↦ f.quiet c g (omega (arith, low)) (a_tuple r (comes_tuple front i c r e).0)
          | inr g ↦ omega (arith, far, g, high, wide)
        ]
        never lo u xs f far (in_turn t) =
            let w = turn_early front i c there t in
            elim (cases_lt u t.u) [
              | inl g ↦ f.quiet t.u g (omega (arith, low, t.time)) (an_end t.end)
              | inr g ↦ omega (arith, far, g, high, wide, w, t.time)
            ]

        by : Phase front d → (slots front d).flush ≡ false
        by (flows lo xs f un b) = un
        by (flushes lo u xs f b) = absurd (never lo u xs f (time.timed.after u d f.end k f.behind) s)

    pub key_kept : (i c d y : ℕ) → i < count → Source front i c → slice_get (slots front (suc c)).keys i ≡ Some y → suc c ≤ d → d ≤ suc c + late → slice_get (slots front d).keys i ≡ Some y
    key_kept i c d y there s h low high =
        let at : suc c + (d - suc c) ≡ d = omega (arith, low) in
        ap (λ (v : ℕ). slice_get (slots front v).keys i) (sym at)
        ∙ key_from (suc c) (d - suc c) i y h (λ e l m. calm i c e there s l (omega (arith, m, high, low)))
