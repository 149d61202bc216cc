-- What stays of a store when one value or one word is put.
use Rattle.std.proofs.Common.{◌≡◌, ◌≢◌, ℕ, ◌^◌, ◌<◌, List, [], Some, sym, ◌∙◌, ap, subst, arith, length, length-set, inl, inr}
use Rattle.std.specs.Prelude.{slice_get, slice_index_or, slice_index, slice_set}
use Rattle.std.proofs.lemmas.List.{get_or-set_same, get_or-set_other}
use Rattle.std.proofs.lemmas.Bool.{cases_eq}
use Rattle.gl_bits.proofs.AllLists.{get_below}
use Rattle.gl_verilog.specs.Module.{Declaration}
use Rattle.gl_verilog.specs.Evaluate.{IsStore, memories_of}

pub same_item : {T : Type 0} (xs : List T) (n : ℕ) (x y : T) → slice_get xs n ≡ Some x → slice_get xs n ≡ Some y → x ≡ y
same_item xs n x y p q = let both : Some x ≡ Some y = sym p ∙ q in cc

pub store_put : (ds : List Declaration) (vs : List ℕ) (bs : List (List ℕ)) (n x : ℕ) (d : Declaration) → IsStore ds vs bs → slice_get ds n ≡ Some d → x < 2 ^ d.width → IsStore ds (slice_set vs n x) bs
store_put ds vs bs n x d st e lt = record {
  nets = length-set vs n x ∙ st.nets;
  memories = st.memories;
  words = st.words;
  fits = λ k d' e'. (at k d' e', (st.fits k d' e').1);
}
  where
    at : (k : ℕ) (d' : Declaration) → slice_get ds k ≡ Some d' → slice_index (slice_set vs n x) k < 2 ^ d'.width
    at k d' e' = elim (cases_eq n k) [
      | inl same ↦
          let within : n < length vs = let h : n < length ds = get_below ds n d e in omega (arith, st.nets) in
          let there : slice_get ds n ≡ Some d' = subst (λ i. slice_get ds i ≡ Some d') (sym same) e' in
          let is : d ≡ d' = same_item ds n d d' e there in
          subst (λ i. slice_index (slice_set vs n x) i < 2 ^ d'.width) same
          (rw (get_or-set_same vs n x 0 within) (subst (λ c. x < 2 ^ c.width) is lt))
      | inr other ↦ subst (λ y. y < 2 ^ d'.width) (sym (get_or-set_other vs n k x 0 (λ q. other (sym q)))) (st.fits k d' e').0
    ]

-- a bank with one word put, and what the memories then hold
unfoldable pub with_word : List (List ℕ) → ℕ → ℕ → ℕ → List (List ℕ)
with_word bs k at x = slice_set bs k (slice_set (slice_index_or bs k []) at x)

pub with_word-same : (bs : List (List ℕ)) (k at x : ℕ) → k < length bs → at < length (slice_index_or bs k []) → memories_of (with_word bs k at x) k at ≡ x
unfolding with_word
with_word-same bs k at x lt within =
    ap (λ (b : List ℕ). slice_index b at) (get_or-set_same bs k (slice_set (slice_index_or bs k []) at x) [] lt) ∙ get_or-set_same (slice_index_or bs k []) at x 0 within

pub with_word-other_place : (bs : List (List ℕ)) (k at x at' : ℕ) → k < length bs → at ≢ at' → memories_of (with_word bs k at x) k at' ≡ memories_of bs k at'
unfolding with_word
with_word-other_place bs k at x at' lt ne =
    ap (λ (b : List ℕ). slice_index b at') (get_or-set_same bs k (slice_set (slice_index_or bs k []) at x) [] lt) ∙ get_or-set_other (slice_index_or bs k []) at at' x 0 (λ q. ne (sym q))

pub with_word-other_bank : (bs : List (List ℕ)) (k at x k' : ℕ) → k ≢ k' → slice_index_or (with_word bs k at x) k' [] ≡ slice_index_or bs k' []
unfolding with_word
with_word-other_bank bs k at x k' ne = get_or-set_other bs k k' (slice_set (slice_index_or bs k []) at x) [] (λ q. ne (sym q))

pub with_word-length : (bs : List (List ℕ)) (k at x : ℕ) → length (with_word bs k at x) ≡ length bs
unfolding with_word
with_word-length bs k at x = length-set bs k (slice_set (slice_index_or bs k []) at x)

pub with_word-bank : (bs : List (List ℕ)) (k at x k' : ℕ) → k < length bs → length (slice_index_or (with_word bs k at x) k' []) ≡ length (slice_index_or bs k' [])
unfolding with_word
with_word-bank bs k at x k' lt = elim (cases_eq k k') [
  | inl same ↦ subst (λ i. length (slice_index_or (with_word bs k at x) i []) ≡ length (slice_index_or bs i [])) same (ap (λ (b : List ℕ). length b) (get_or-set_same bs k (slice_set (slice_index_or bs k []) at x) [] lt) ∙ length-set (slice_index_or bs k []) at x)
  | inr other ↦ ap (λ (b : List ℕ). length b) (with_word-other_bank bs k at x k' other)
]
