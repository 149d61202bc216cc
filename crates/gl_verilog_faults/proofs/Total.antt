-- A text has one of a module and a fault, wherever it can be told which tokens begin a module and which are one; and each place exists.
use Rattle.std.proofs.Common.{◌≡◌, ℕ, zero, suc, ◌+◌, ◌<◌, ◌≤◌, ◌⊎◌, inl, inr, Bool, true, false, List, [], ◌∷◌, ◌++◌, length, take, leb, None, refl, sym, subst, ◌∙◌, arith, append_assoc}
use Rattle.std.proofs.lemmas.Bool.{leb-true, leb-false, cases_eq, cases_order}
use Rattle.std.proofs.lemmas.List.{append-nil}
use Rattle.gl_verilog.specs.Tokens.{Token, tokens_of, IsPlaceOf}
use Rattle.gl_verilog.specs.Written.{WrittenModule, In, IsWritten, spell}
use Rattle.gl_verilog.specs.Limits.{IsWithinLimits}
use Rattle.gl_verilog.specs.Module.{Module}
use Rattle.gl_verilog.specs.Text.{HasModule}
use Rattle.gl_verilog_faults.specs.Demands.{Rule}
use Rattle.gl_verilog_faults.specs.Counts.{none_counted, keeps_limits}
use Rattle.gl_verilog_faults.specs.Marks.{Header, marks}
use Rattle.gl_verilog_faults.specs.Faults.{CanBegin, KeepsFront, IsSyntaxFault, IsDepthFault, IsJudgedFault}
use Rattle.gl_verilog_faults.proofs.Exact.{keeps_spelled, valid_or_broken}

-- ---- places

abbrev count : List ℕ → ℕ → ℕ
count text q = length (tokens_of (take q text))

none_yet : (text : List ℕ) → count text 0 ≡ 0
unfolding tokens_of
none_yet text = refl

further : (n q : ℕ) → n < q → (q ≡ suc n → ⊥) → suc n < q
further n q l d = elim (cases_order q (suc n)) [ inl e ↦ absurd (d e) | inr h ↦ elim h [ inl x ↦ absurd (omega arith) | inr x ↦ x ] ]

place_by : (text : List ℕ) (k n : ℕ) (b : Bool) → leb (count text (suc n)) k ≡ b → suc n ≤ length text → ((q : ℕ) → suc n < q → q ≤ length text → k < count text q) → (((q : ℕ) → n < q → q ≤ length text → k < count text q) → (p : ℕ) × IsPlaceOf text k p) → (p : ℕ) × IsPlaceOf text k p
place_by text k n true e h f down = (suc n, record { within = h; before = leb-true (count text (suc n)) k e; behind = f })
place_by text k n false e h f down = down (λ q l m. elim (cases_eq q (suc n)) [
  | inl s ↦ subst (λ (x : ℕ). k < count text x) (sym s) (leb-false (count text (suc n)) k e)
  | inr d ↦ f q (further n q l d) m
])

place_from : (text : List ℕ) (k n : ℕ) → n ≤ length text → ((q : ℕ) → n < q → q ≤ length text → k < count text q) → (p : ℕ) × IsPlaceOf text k p
place_from text k zero h f = (0, record { within = h; before = (let e : count text 0 ≡ 0 = none_yet text in omega arith); behind = f })
place_from text k (suc n) h f = place_by text k n (leb (count text (suc n)) k) refl h f (λ g. place_from text k n (omega arith) g)

pub has_place : (text : List ℕ) (k : ℕ) → (p : ℕ) × IsPlaceOf text k p
has_place text k = place_from text k (length text) (omega arith) (λ q l m. absurd (omega arith))

-- ---- one of four

abbrev pub HasVerdict : List ℕ → Type 0
HasVerdict text = ((m : Module) × HasModule text m) ⊎ (((p : ℕ) × IsSyntaxFault text p) ⊎ (((p : ℕ) × IsDepthFault text p) ⊎ ((rule : Rule) × (p : ℕ) × IsJudgedFault text rule p)))

abbrev pub CanTell : Type 0
CanTell = (read : List Token) → CanBegin read ⊎ (CanBegin read → ⊥)

abbrev pub IsSpelt : List Token → Type 0
IsSpelt ts = (w : WrittenModule) × IsWritten w × (spell w ≡ ts)

abbrev pub CanTellAll : Type 0
CanTellAll = (ts : List Token) → IsSpelt ts ⊎ (IsSpelt ts → ⊥)

abbrev smallest : WrittenModule
smallest = record { name = 97 ∷ []; ports = record { direction = In; range = None; name = 98 ∷ [] } ∷ []; items = [] }

begins_all : CanBegin []
begins_all = (smallest, spell smallest, grammar, refl)
  where
    grammar : IsWritten smallest
    grammar = record { ports = tt; items = tt }

spelt_verdict : (text : List ℕ) (w : WrittenModule) → IsWritten w → tokens_of text ≡ spell w → IsWithinLimits w → HasVerdict text
spelt_verdict text w g e l = elim (valid_or_broken w g) [
  | inl v ↦ inl (v.0, record { written = w; spelled = e; grammar = g; limits = l; resolved = v.1; valid = v.2 })
  | inr b ↦ (let p = has_place text b.1 in inr (inr (inr (b.0, p.0, record { written = w; spelled = e; grammar = g; limits = l; token = b.1; broken = b.2; place = p.1 }))))
]

module _ (text : List ℕ) (tell : CanTell) (tell_all : CanTellAll) where
  walk : (left read : List Token) → tokens_of text ≡ read ++ left → KeepsFront read → CanBegin read → HasVerdict text
  walk [] read e k b = elim (tell_all read) [
    | inl s ↦ spelt_verdict text s.0 s.1 (e ∙ append-nil read ∙ sym s.2) (keeps_spelled s.0 (subst KeepsFront (sym s.2) k))
    | inr n ↦ (let p = has_place text (length read) in inr (inl (p.0, record { read = read; left = []; parts = e; limits = k; begins = b; stops = λ w g s. n (w, g, s); place = p.1 })))
  ]
  walk (t ∷ left) read e k b = elim (tell (read ++ t ∷ [])) [
    | inl c ↦ deeper c (keeps_limits none_counted (marks Header (read ++ t ∷ []))) refl (λ h. walk left (read ++ t ∷ []) (e ∙ sym (append_assoc read (t ∷ []) left)) h c)
    | inr n ↦ (let p = has_place text (length read) in inr (inl (p.0, record { read = read; left = t ∷ left; parts = e; limits = k; begins = b; stops = n; place = p.1 })))
  ]
    where
      deeper : CanBegin (read ++ t ∷ []) → (c : Bool) → keeps_limits none_counted (marks Header (read ++ t ∷ [])) ≡ c → (KeepsFront (read ++ t ∷ []) → HasVerdict text) → HasVerdict text
      deeper b' true q next = next q
      deeper b' false q next = (let p = has_place text (length read) in inr (inr (inl (p.0, record { read = read; deep = t; left = left; parts = e; limits = k; past = q; begins = b'; place = p.1 }))))

  pub total : HasVerdict text
  total = walk (tokens_of text) [] refl refl begins_all
