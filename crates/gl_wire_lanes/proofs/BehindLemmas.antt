-- A lane behind another: which streams are open there, and where they begin.
use Rattle.std.proofs.Common.{◌≡◌, ℕ, zero, suc, ◌+◌, ◌-◌, ◌<◌, ◌≤◌, inl, inr, Bool, true, false, refl, sym, ap, subst, ◌∙◌, arith}
use Rattle.std.specs.Prelude.{not, ◌||◌, if◌then◌else◌, nat_eq}
use Rattle.std.proofs.lemmas.Bool.{cases_lt}
use Rattle.gl_wire_lanes.specs.Lanes.{Lane, Begins, IsFresh, IsLaneBehind, is_open}
use Rattle.gl_wire_lanes.specs.Laws.{BeginsBehind}

module _ (m : ℕ) (l d : Lane) (b : Begins l) (h : IsLaneBehind m l d) where
  -- a slot stays shut where nothing begins
  off : (s e f o : Bool) → f ≡ false → o ≡ false → (if s then (if e then false else (f || o)) else o) ≡ false
  off true true f o p q = refl
  off true false false o p q = q
  off true false true o p q = absurd (cc)
  off false e f o p q = q

  -- nothing is open while nothing has come
  shut : (k c : ℕ) → c ≤ m → is_open d k c ≡ false
  shut k zero le = refl
  shut k (suc c) le = off (nat_eq (d.slot c) k) (d.ends c) (d.first c) (is_open d k c) (h.no_first c (omega (arith, le))) (shut k c (omega (arith, le)))

  same : (k c : ℕ) → is_open d k (suc c + m) ≡ is_open l k (suc c)
  same k zero =
      let e : suc zero + m ≡ suc m = omega arith in
      let z : 0 + m ≡ m = omega arith in
      ap (is_open d k) e ∙ off (nat_eq (d.slot m) k) (d.ends m) (d.first m) (is_open d k m) (sym (ap d.first z) ∙ h.firsts 0 ∙ b.no_first) (shut k m (omega arith))
      ∙ sym (off (nat_eq (l.slot 0) k) (l.ends 0) (l.first 0) false b.no_first refl)
  same k (suc c) =
      let e : suc (suc c) + m ≡ suc (suc c + m) = omega arith in
      ap (is_open d k) e
      ∙ ap (λ s. if nat_eq s k then (if d.ends (suc c + m) then false else (d.first (suc c + m) || is_open d k (suc c + m))) else is_open d k (suc c + m)) (h.slots c)
      ∙ ap (λ x. if nat_eq (l.slot (suc c)) k then (if x then false else (d.first (suc c + m) || is_open d k (suc c + m))) else is_open d k (suc c + m)) (h.ends (suc c))
      ∙ ap (λ x. if nat_eq (l.slot (suc c)) k then (if l.ends (suc c) then false else (x || is_open d k (suc c + m))) else is_open d k (suc c + m)) (h.firsts (suc c))
      ∙ ap (λ x. if nat_eq (l.slot (suc c)) k then (if l.ends (suc c) then false else (l.first (suc c) || x)) else x) (same k c)

  -- what a line of the lane behind tells of the lane
  back : (line : ℕ → Bool) (of : Bool) → ((c : ℕ) → c < m → line c ≡ not of) → (P : ℕ → Type 0) → ((c : ℕ) → line (c + m) ≡ of → P (c + m)) → (c : ℕ) → line c ≡ of → P c
  back line of none P f c e = elim (cases_lt c m) [
    | inl lt ↦ absurd (by of (none c lt) e)
    | inr le ↦ at (c - m) (omega (arith, le))
  ]
    where
      by : (x : Bool) → line c ≡ not x → line c ≡ x → ⊥
      by true p q = cc (p, q)
      by false p q = cc (p, q)

      at : (n : ℕ) → n + m ≡ c → P c
      at n z = subst P z (f n (ap line z ∙ e))

  open_same : (c : ℕ) → is_open d (d.slot (suc c + m)) (suc c + m) ≡ is_open l (l.slot (suc c)) (suc c)
  open_same c = ap (λ k. is_open d k (suc c + m)) (h.slots c) ∙ same (l.slot (suc c)) c

  clash : {x : Bool} → x ≡ true → x ≡ false → ⊥
  clash p q = cc (p, q)

  pub fresh_behind : (c : ℕ) → IsFresh l (suc c) → IsFresh d (suc c + m)
  fresh_behind c e = h.firsts (suc c) ∙ e ∙ sym (ap not (open_same c))

  rows_at : (c : ℕ) → d.valid (c + m) ≡ true → IsFresh d (c + m)
  rows_at zero p = absurd (clash (h.rows 0 p) b.no_row)
  rows_at (suc c) p = fresh_behind c (b.rows (suc c) (h.rows (suc c) p))

  ends_at : (c : ℕ) → d.ends (c + m) ≡ true → IsFresh d (c + m)
  ends_at zero p = absurd (clash (sym (h.ends 0) ∙ p) b.no_end)
  ends_at (suc c) p = fresh_behind c (b.ends (suc c) (sym (h.ends (suc c)) ∙ p))

  only_at : (c : ℕ) → d.first (c + m) ≡ true → is_open d (d.slot (c + m)) (c + m) ≡ false
  only_at zero p = absurd (clash (sym (h.firsts 0) ∙ p) b.no_first)
  only_at (suc c) p = open_same c ∙ b.only (suc c) (sym (h.firsts (suc c)) ∙ p)

  pub begins_again : Begins d
  begins_again = record {
    no_row = quiet d.valid h.no_row (λ p. clash (h.rows 0 p) b.no_row);
    no_end = quiet d.ends h.no_end (λ p. clash (sym (h.ends 0) ∙ p) b.no_end);
    no_first = quiet d.first h.no_first (λ p. clash (sym (h.firsts 0) ∙ p) b.no_first);
    rows = back d.valid true h.no_row (IsFresh d) rows_at;
    ends = back d.ends true h.no_end (IsFresh d) ends_at;
    only = back d.first true h.no_first (λ c. is_open d (d.slot c) c ≡ false) only_at;
  }
    where
      -- a line that is low before the lane's first cycle, and there where the lane's is
      quiet : (line : ℕ → Bool) → ((c : ℕ) → c < m → line c ≡ false) → (line (0 + m) ≡ true → ⊥) → line 0 ≡ false
      quiet line none low = by (line 0) refl
        where
          by : (x : Bool) → line 0 ≡ x → x ≡ false
          by false p = refl
          by true p = elim (cases_lt 0 m) [
            | inl lt ↦ absurd (let z = none 0 lt in cc (z, p))
            | inr le ↦ let e : 0 ≡ 0 + m = omega (arith, le) in absurd (low (sym (ap line e) ∙ p))
          ]

pub begins_behind : BeginsBehind
begins_behind m l d b h = begins_again m l d b h
