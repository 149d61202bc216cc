-- Streams one after another, as a lane of one slot, and a register as its table.
use Rattle.std.proofs.Common.{◌≡◌, ℕ, zero, suc, Bool, true, false, refl, sym, ap, ◌∙◌, eq-eqb}
use Rattle.std.specs.Prelude.{not, ◌||◌, ◌&&◌, if◌then◌else◌, nat_eq}
use Rattle.gl_wire_lanes.specs.Keeping.{IsKept, IsRegister, Stays}
use Rattle.gl_wire_lanes.specs.Lanes.{Lane, Begins, IsFresh, IsSingle, first_of, is_open, single}
use Rattle.gl_wire_lanes.specs.Laws.{OneIsSingle, RegisterIsKept}

module _ (valid ends : ℕ → Bool) (no_row : valid 0 ≡ false) (no_end : ends 0 ≡ false) where
  abbrev l : Lane
  l = single valid ends

  -- a stream is open from its first cycle to its end
  opens : (c : ℕ) → IsFresh l (suc c)
  opens zero = by (ends 0) no_end
    where
      by : (e : Bool) → e ≡ false → true ≡ not (if e then false else (false || false))
      by true p = absurd (cc)
      by false p = refl
  opens (suc c) = by (ends (suc c)) (first_of ends (suc c)) (is_open l 0 (suc c)) (opens c)
    where
      by : (e f o : Bool) → f ≡ not o → e ≡ not (if e then false else (f || o))
      by true f o p = refl
      by false true o p = refl
      by false false true p = refl
      by false false false p = absurd (cc)

  shut : (f o : Bool) → f ≡ not o → f ≡ true → o ≡ false
  shut f true p q = absurd (cc)
  shut f false p q = refl

  none : (P : ℕ → Type 0) (c : ℕ) (line : ℕ → Bool) → line 0 ≡ false → ((d : ℕ) → line (suc d) ≡ true → P (suc d)) → line c ≡ true → P c
  none P zero line p f q = absurd (cc)
  none P (suc c) line p f q = f c q

  begins : Begins l
  begins = record {
    no_row = no_row;
    no_end = no_end;
    no_first = refl;
    rows = λ c. none (IsFresh l) c valid no_row (λ d p. opens d);
    ends = λ c. none (IsFresh l) c ends no_end (λ d p. opens d);
    only = λ c. none (λ d. is_open l 0 d ≡ false) c (first_of ends) refl (λ d p. shut (first_of ends (suc d)) (is_open l 0 (suc d)) (opens d) p);
  }

  pub is_single : IsSingle l
  is_single = record { begins = begins; fresh = opens }

pub one_is_single : OneIsSingle
one_is_single valid ends no_row no_end = is_single valid ends no_row no_end

module _ {A : Type 0} (initial : A) (valid ends : ℕ → Bool) (before now : ℕ → A) (h : IsRegister initial ends before now) (stays : Stays valid before now) where
  -- the word of slot 0 is what the register would hold with no end
  abbrev word_of : ℕ → ℕ → A
  word_of zero k = initial
  word_of (suc zero) k = initial
  word_of (suc (suc c)) k = if nat_eq 0 k then now (suc c) else initial

  begun : (c : ℕ) → first_of ends (suc c) ≡ true → before (suc c) ≡ initial
  begun zero p = h.start
  begun (suc c) p = h.next c ∙ ap (λ e. if e then initial else now (suc c)) p

  kept : (c : ℕ) → first_of ends (suc (suc c)) ≡ false → before (suc (suc c)) ≡ now (suc c)
  kept c p = h.next c ∙ ap (λ e. if e then initial else now (suc c)) p

  taken : (c : ℕ) → first_of ends (suc (suc c)) ≡ false → before (suc (suc c)) ≡ word_of (suc (suc c)) 0
  taken c p = kept c p ∙ sym (ap (λ b. if b then now (suc c) else initial) (eq-eqb 0 0 refl))

  left : (c k : ℕ) → word_of (suc (suc c)) k ≡ (if nat_eq 0 k && (valid (suc c) || first_of ends (suc c)) then now (suc c) else word_of (suc c) k)
  left zero k = by (nat_eq 0 k) (valid 1)
    where
      by : (s v : Bool) → (if s then now 1 else initial) ≡ (if s && (v || true) then now 1 else initial)
      by true true = refl
      by true false = refl
      by false v = refl
  left (suc c) k = by (nat_eq 0 k) (valid (suc (suc c))) (ends (suc c)) (stays (suc c)) (kept c)
    where
      by : (s v f : Bool) → (v ≡ false → now (suc (suc c)) ≡ before (suc (suc c)))
          → (f ≡ false → before (suc (suc c)) ≡ now (suc c))
          → (if s then now (suc (suc c)) else initial) ≡ (if s && (v || f) then now (suc (suc c)) else (if s then now (suc c) else initial))
      by false v f e p = refl
      by true true f e p = refl
      by true false true e p = refl
      by true false false e p = e refl ∙ p refl

  pub kept_single : IsKept initial (single valid ends) before now
  kept_single = record { word = word_of; begins = begun; takes = taken; leaves = left }

pub register_is_kept : {A : Type 0} → RegisterIsKept A
register_is_kept initial valid ends before now h stays = kept_single initial valid ends before now h stays
