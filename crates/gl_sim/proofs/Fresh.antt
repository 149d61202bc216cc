-- A store of zeros, and words of two numbers.
use Rattle.std.proofs.Common.{◌≡◌, ℕ, zero, suc, ◌+◌, ◌-◌, ◌*◌, ◌%◌, ◌^◌, ◌<◌, List, [], ◌∷◌, Some, map, replicate, refl, sym, ◌∙◌, ap, subst, arith, length, bit_and}
use Rattle.std.specs.Prelude.{slice_get, slice_index, slice_index_or}
use Rattle.std.proofs.lemmas.Nat.{pow_pos, and_mask, shl_whole}
use Rattle.gl_bits.proofs.AllLists.{length_map}
use Rattle.gl_verilog.specs.Module.{Declaration}
use Rattle.gl_verilog.specs.Widths.{words_in}
use Rattle.gl_verilog.specs.Evaluate.{IsStore, memories_of}
use Rattle.gl_sim.specs.Starts.{zero_bank}

pub zeros_length : (n : ℕ) → length (replicate {A = ℕ} n 0) ≡ n
zeros_length zero = refl
zeros_length (suc n) = ap (λ k. suc k) (zeros_length n)

pub zeros_at : (n i : ℕ) → slice_index (replicate n 0) i ≡ 0
zeros_at zero i = refl
zeros_at (suc n) zero = refl
zeros_at (suc n) (suc i) = zeros_at n i

pub zero_bank_at : (ds : List Declaration) (k : ℕ) (d : Declaration) → slice_get ds k ≡ Some d → slice_index_or (map zero_bank ds) k [] ≡ zero_bank d
zero_bank_at [] k d e = absurd cc
zero_bank_at (c ∷ ds) zero d e = let same : c ≡ d = cc in ap (λ (x : Declaration). zero_bank x) same
zero_bank_at (c ∷ ds) (suc k) d e = zero_bank_at ds k d e

pub zero_words_at : (ds : List Declaration) (k at : ℕ) → memories_of (map zero_bank ds) k at ≡ 0
zero_words_at [] k at = refl
zero_words_at (d ∷ ds) zero at = zeros_at (words_in d.kind) at
zero_words_at (d ∷ ds) (suc k) at = zero_words_at ds k at

pub store_zero : (ds : List Declaration) (vs : List ℕ) (bs : List (List ℕ)) → vs ≡ replicate (length ds) 0 → bs ≡ map zero_bank ds → IsStore ds vs bs
store_zero ds vs bs values banks = record {
  nets = ap (λ (xs : List ℕ). length xs) values ∙ zeros_length (length ds);
  memories = ap (λ (xs : List (List ℕ)). length xs) banks ∙ length_map zero_bank ds;
  words = λ k d e. ap (λ (xs : List (List ℕ)). length (slice_index_or xs k [])) banks ∙ ap (λ (b : List ℕ). length b) (zero_bank_at ds k d e) ∙ zeros_length (words_in d.kind);
  fits = λ n d e. (
    subst (λ x. x < 2 ^ d.width) (sym (ap (λ (xs : List ℕ). slice_index xs n) values ∙ zeros_at (length ds) n)) (pow_pos d.width),
    λ at. subst (λ x. x < 2 ^ d.width) (sym (ap (λ (xs : List (List ℕ)). memories_of xs n at) banks ∙ zero_words_at ds n at)) (pow_pos d.width),
  );
}

-- two numbers of 64 bits side by side, cut to a width
pub word_is : (high low high' low' m w : ℕ) → high < 2 ^ 64 → high' ≡ high → low' ≡ low → m ≡ 2 ^ w - 1 → bit_and (high' * 2 ^ 64 % 2 ^ 128 + low') m ≡ (high * 2 ^ 64 + low) % 2 ^ w
word_is high low high' low' m w fits h l e =
    rw (h, l, e, shl_whole high 64 64 128 fits (omega arith)) (and_mask (high * 2 ^ 64 + low) w)
