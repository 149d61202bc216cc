-- A count that begins anew behind each row that passes is the age of the last value.
use Rattle.std.proofs.Common.{◌≡◌, ℕ, zero, suc, ◌+◌, ◌≤◌, List, [], ◌∷◌, ◌++◌, Some, Bool, true, false, length, refl, sym, ap, ◌∙◌, arith, append-nil, eq-eqb}
use Rattle.std.specs.Prelude.{◌&&◌, ◌||◌, if◌then◌else◌, nat_eq, nat_le}
use Rattle.std.proofs.lemmas.List.{length-append}
use Rattle.gl_net.specs.declared.node.Bit.{Bit}
use Rattle.gl_net.specs.Net.{Run}
use Rattle.gl_wire.specs.Wire.{line_at}
use Rattle.gl_wire.proofs.StageLemmas.{line_first}
use Rattle.gl_wire_lanes.specs.Keeping.{IsRegister}
use Rattle.gl_frames.specs.Frames.{last_value_of}
use Rattle.gl_frames_wire.specs.CountNets.{column_past, streams_by}
use Rattle.gl_frames_wire.specs.Rings.{wound}
use Rattle.gl_frames_wire.specs.Since.{own_ends, rows_since}
use Rattle.gl_frames_wire.proofs.RingLemmas.{one_in}
use Rattle.gl_frames_wire.proofs.WindLemmas.{counts_from, counts_wind}
use Rattle.gl_frames_stages.specs.Columns.{Tells}
use Rattle.gl_frames_stages.specs.RecentNets.{Takes, age}
use Rattle.gl_frames_stages.specs.declared.lines.Lines.{Lines}
use Rattle.gl_frames_stages.proofs.LastNet.{lasting}
use Rattle.gl_frames_stages.proofs.RecentLemmas.{age_more, recent_value}

module _ {B : Type 0} (run : Run) (lines : Lines) (takes fresh : Bit) (p : B → Bool) (row : ℕ → B) (is : Takes run lines takes p row)
    (anew : (t : ℕ) → line_at run fresh t ≡ (line_at run lines.eos t || line_at run takes t)) where
  -- one cycle, over truth values: whether it is the slot's, whether the stream ends, whether a row comes and passes
  stepped : (s e v q : Bool) (ns : List ℕ) (xs : List B) (x : B) → s ≡ true → p x ≡ q → length ns ≡ age p xs
      → length (if s && (e || (v && q)) then [] else (if s then ns ++ (if v then 0 ∷ [] else []) else ns))
      ≡ age p (if s && e then [] else (if s then xs ++ (if v then x ∷ [] else []) else xs))
  stepped false e v q ns xs x h g i = absurd (cc)
  stepped true true v q ns xs x h g i = refl
  stepped true false false q ns xs x h g i = ap length (append-nil ns) ∙ i ∙ ap (age p) (sym (append-nil xs))
  stepped true false true true ns xs x h g i = sym (age_more (λ (y : B). 0) p xs x ∙ ap (λ (b : Bool). if b then 0 else suc (age p xs)) g)
  stepped true false true false ns xs x h g i =
      let long : length {A = ℕ} (ns ++ 0 ∷ []) ≡ suc (length ns) = (let n = length-append ns (0 ∷ []) in omega (arith, n)) in
      long ∙ ap suc i ∙ sym (age_more (λ (y : B). 0) p xs x ∙ ap (λ (b : Bool). if b then 0 else suc (age p xs)) g)

  takes_at : (c : ℕ) → line_at run takes c ≡ (line_at run lines.valid c && p (row c))
  takes_at zero = low (line_at run takes zero) (line_at run lines.valid zero) (line_first run takes) (line_first run lines.valid)
    where
      low : (a b : Bool) → a ≡ false → b ≡ false → a ≡ (b && p (row zero))
      low a false e f = e
      low a true e f = absurd (cc)
  takes_at (suc c) = is c

  pub ages_since : (c : ℕ) → length {A = ℕ} (rows_since (own_ends (streams_by run lines.valid fresh)) (streams_by run lines.valid fresh) (λ (t : ℕ). 0) 0 c)
      ≡ age p (rows_since (own_ends (streams_by run lines.valid lines.eos)) (streams_by run lines.valid lines.eos) row 0 c)
  ages_since zero = refl
  ages_since (suc c) =
      let ns : List ℕ = rows_since (own_ends (streams_by run lines.valid fresh)) (streams_by run lines.valid fresh) (λ (t : ℕ). 0) 0 c in
      ap (λ (b : Bool). length {A = ℕ} (if nat_eq 0 0 && b then [] else (if nat_eq 0 0 then ns ++ (if line_at run lines.valid c then 0 ∷ [] else []) else ns)))
      (anew c ∙ ap (λ (b : Bool). line_at run lines.eos c || b) (takes_at c))
      ∙ stepped (nat_eq 0 0) (line_at run lines.eos c) (line_at run lines.valid c) (p (row c)) ns
      (rows_since (own_ends (streams_by run lines.valid lines.eos)) (streams_by run lines.valid lines.eos) row 0 c) (row c) (eq-eqb 0 0 refl) refl (ages_since c)

-- whether a count is so many tells whether the age is
pub old_told : (size k n : ℕ) (xs : List ℕ) → 1 ≤ size → k ≤ size → n ≡ wound size (length xs) → nat_le k n ≡ nat_le k (length xs)
old_told size k n xs some few is = ap (nat_le k) (is ∙ sym (counts_from size some xs)) ∙ (counts_wind size xs some).many k few

pub recent_told : {B : Type 0} (run : Run) (lines : Lines) (takes passes aged : Bit) (v : B → ℕ) (p : B → Bool) (row : ℕ → B) (value before now out : ℕ → ℕ) (k : ℕ)
    → IsRegister 0 (line_at run lines.eos) before now
    → ((t : ℕ) → now (suc t) ≡ (if line_at run takes (suc t) then value (suc t) else before (suc t)))
    → Takes run lines takes p row → ((t : ℕ) → value (suc t) ≡ v (row (suc t))) → ((t : ℕ) → line_at run passes (suc t) ≡ p (row (suc t)))
    → ((c : ℕ) → line_at run lines.valid (suc c) ≡ true → line_at run aged (suc c) ≡ nat_le k (age p (column_past run lines.valid lines.eos row (suc c))))
    → ((t : ℕ) → out (suc t) ≡ (if line_at run passes (suc t) then value (suc t) else if line_at run aged (suc t) then 0 else before (suc t)))
    → Tells run lines 0 (last_value_of v (Some k) p) row out
recent_told run lines takes passes aged v p row value before now out k anew taken line is bit ages young c w =
    let e : suc c + 0 ≡ suc c = omega arith in
    let xs = column_past run lines.valid lines.eos row (suc c) in
    ap out e ∙ young c
    ∙ ap (λ (b : Bool). if b then value (suc c) else if line_at run aged (suc c) then 0 else before (suc c)) (bit c)
    ∙ ap (λ (n : ℕ). if p (row (suc c)) then n else if line_at run aged (suc c) then 0 else before (suc c)) (is c)
    ∙ ap (λ (b : Bool). if p (row (suc c)) then v (row (suc c)) else if b then 0 else before (suc c)) (ages c w)
    ∙ ap (λ (n : ℕ). if p (row (suc c)) then v (row (suc c)) else if nat_le k (age p xs) then 0 else n) (lasting run lines takes v p row value before now anew taken line is c w).past
    ∙ sym (recent_value v p k xs (row (suc c)))
    ∙ ap (λ own. last_value_of v (Some k) p (xs ++ own)) (sym (one_in (line_at run lines.valid (suc c)) (row (suc c)) w))
