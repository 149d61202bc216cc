-- The count of the rows before a row tells how many its frame has.
use Rattle.std.proofs.Common.{◌≡◌, ℕ, suc, ◌+◌, ◌%◌, ◌^◌, ◌<◌, ◌≤◌, List, [], ◌∷◌, ◌++◌, Some, Bool, true, length, map, sym, ap, ◌∙◌, arith, inl, inr}
use Rattle.std.specs.Prelude.{if◌then◌else◌, nat_le}
use Rattle.std.proofs.Math.Nat.{mod-eq_of_lt}
use Rattle.std.proofs.lemmas.Bool.{cases_lt, le-leb, lt-leb, lt-ltb}
use Rattle.std.proofs.lemmas.List.{length-append, length-map}
use Rattle.gl_values.specs.Totals.{count_of}
use Rattle.gl_bits.specs.Words.{sum_of}
use Rattle.gl_net.specs.Net.{Run}
use Rattle.gl_wire.specs.Wire.{line_at}
use Rattle.gl_frames.specs.Frames.{frame_of, last_ones, rows_preceding}
use Rattle.gl_frames.proofs.LastLemmas.{frames_counted}
use Rattle.gl_frames.proofs.SumLemmas.{last_map}
use Rattle.gl_frames_wire.specs.CountNets.{column_past}
use Rattle.gl_frames_wire.specs.Rings.{wound}
use Rattle.gl_frames_wire.proofs.RingLemmas.{one_in}
use Rattle.gl_frames_wire.proofs.WindLemmas.{counts_from, counts_wind}
use Rattle.gl_frames_stages.specs.Columns.{Tells}
use Rattle.gl_frames_stages.specs.declared.lines.Lines.{Lines}
use Rattle.gl_frames_stages.proofs.FramingLemmas.{every_one}

module _ {B : Type 0} (size k : ℕ) (some : 1 ≤ size) (few : k ≤ size) (small : k < 2 ^ 16) (xs : List B) (x : B) where
  many : nat_le k (wound size (length xs)) ≡ nat_le k (length xs)
  many = ap (nat_le k) (sym (counts_from size some xs)) ∙ (counts_wind size xs some).many k few

  all : length (xs ++ x ∷ []) ≡ suc (length xs)
  all = let n = length-append xs (x ∷ []) in omega (arith, n)

  has : length (rows_preceding (Some k) (xs ++ x ∷ [])) ≡ (if nat_le (suc k) (suc (length xs)) then suc k else suc (length xs))
  has = frames_counted k (xs ++ x ∷ []) ∙ ap (λ (n : ℕ). if nat_le (suc k) n then suc k else n) all

  pub frame_rows : (if nat_le k (wound size (length xs)) then k + 1 else sum_of 32 (wound size (length xs)) 1) ≡ count_of (rows_preceding (Some k) (xs ++ x ∷ []))
  unfolding count_of sum_of
  frame_rows = elim (cases_lt (length xs) k) [
    | inl lt ↦ (
        let n : wound size (length xs) ≡ length xs = ap (λ (b : Bool). if b then length xs else size + length xs % size) (lt-ltb (length xs) size (omega (arith, lt, few))) in
        let next : length xs + 1 ≡ suc (length xs) = omega arith in
        ap (λ (b : Bool). if b then k + 1 else (wound size (length xs) + 1) % 2 ^ 32) (many ∙ lt-leb k (length xs) lt)
        ∙ ap (λ (j : ℕ). (j + 1) % 2 ^ 32) n ∙ ap (λ (j : ℕ). j % 2 ^ 32) next
        ∙ sym (ap (λ (j : ℕ). j % 2 ^ 32) (has ∙ ap (λ (b : Bool). if b then suc k else suc (length xs)) (lt-leb (suc k) (suc (length xs)) (omega (arith, lt)))))
        )
    | inr le ↦ (
        let next : k + 1 ≡ suc k = omega arith in
        let fits : suc k < 2 ^ 32 = omega (arith, small) in
        ap (λ (b : Bool). if b then k + 1 else (wound size (length xs) + 1) % 2 ^ 32) (many ∙ le-leb k (length xs) le)
        ∙ next ∙ sym (mod-eq_of_lt fits)
        ∙ sym (ap (λ (j : ℕ). j % 2 ^ 32) (has ∙ ap (λ (b : Bool). if b then suc k else suc (length xs)) (le-leb (suc k) (suc (length xs)) (omega (arith, le)))))
        )
  ]

pub number_told : (run : Run) (lines : Lines) (size k : ℕ) (column count rows : ℕ → ℕ) → 1 ≤ size → k ≤ size → k < 2 ^ 16
    → ((c : ℕ) → line_at run lines.valid (suc c) ≡ true → count (suc c) ≡ wound size (length (column_past run lines.valid lines.eos column (suc c))))
    → ((t : ℕ) → rows (suc t) ≡ (if nat_le k (count (suc t)) then k + 1 else sum_of 32 (count (suc t)) 1))
    → Tells run lines 0 (λ xs. count_of (rows_preceding (Some k) xs)) column rows
number_told run lines size k column count rows some few small counts is c v =
    let e : suc c + 0 ≡ suc c = omega arith in
    let xs : List ℕ = column_past run lines.valid lines.eos column (suc c) in
    ap rows e ∙ is c ∙ ap (λ (n : ℕ). if nat_le k n then k + 1 else sum_of 32 n 1) (counts c v) ∙ frame_rows size k some few small xs (column (suc c))
    ∙ ap (λ own. count_of (rows_preceding (Some k) (xs ++ own))) (sym (one_in (line_at run lines.valid (suc c)) (column (suc c)) v))

pub number_through : {B : Type 0} (k : ℕ) (v : B → ℕ) (rows : List B) → count_of (rows_preceding (Some k) (map v rows)) ≡ count_of (frame_of (Some k) (λ r. true) rows)
unfolding count_of
number_through k v rows =
    ap (λ (n : ℕ). n % 2 ^ 32) (ap length (last_map (suc k) v rows) ∙ length-map (last_ones (suc k) rows) v ∙ ap length (sym (every_one (last_ones (suc k) rows))))
