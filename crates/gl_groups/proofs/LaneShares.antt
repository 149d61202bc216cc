-- Shares of a wire: behind row operators, and all of them together.
use Rattle.std.proofs.Common.{◌≡◌, ℕ, zero, suc, ◌+◌, ◌<◌, ◌≤◌, inl, inr, Option, Some, None, Bool, true, false, refl, sym, ap, ◌∙◌, arith, eq-eqb, ne_eqb}
use Rattle.std.specs.Prelude.{◌&&◌, if◌then◌else◌, nat_eq, option_and_then}
use Rattle.std.proofs.lemmas.Bool.{cases_lt}
use Rattle.gl_values.specs.Results.{Row}
use Rattle.gl_wire.specs.Lift.{first_of, tuple_of_any}
use Rattle.gl_slots.specs.Keys.{in_front, with_keys}
use Rattle.gl_wire_lanes.specs.Shares.{share}
use Rattle.gl_wire.specs.Shapes.{Steady}
use Rattle.gl_wire.specs.Wire.{Carried}

-- the share of a wire behind row operators is behind the share
module _ (d : ℕ) (step : Row → Option Row) (a b : Carried) (slot slot' : ℕ → ℕ) (h : Steady d step a b) (no_row : a.tuple 0 ≡ None) (no_end : a.ends 0 ≡ false)
    (later : (c : ℕ) → slot' (suc c + d) ≡ slot (suc c)) (k : ℕ) where
  tuples : (c : ℕ) → (share slot' k b).tuple (c + d) ≡ option_and_then step ((share slot k a).tuple c)
  tuples zero = by (nat_eq (slot' (0 + d)) k) (nat_eq (slot 0) k) (b.tuple (0 + d)) (a.tuple 0) (h.tuples 0) no_row
    where
      by : (s z : Bool) (y x : Option Row) → y ≡ option_and_then step x → x ≡ None → (if s then y else None) ≡ option_and_then step (if z then x else None)
      by true true y x p q = p
      by true false y x p q = p ∙ ap (option_and_then step) q
      by false true y x p q = sym (ap (option_and_then step) q)
      by false false y x p q = refl
  tuples (suc c) =
      ap (λ s. if nat_eq s k then b.tuple (suc c + d) else None) (later c) ∙ by (nat_eq (slot (suc c)) k) (b.tuple (suc c + d)) (a.tuple (suc c)) (h.tuples (suc c))
    where
      by : (s : Bool) (y x : Option Row) → y ≡ option_and_then step x → (if s then y else None) ≡ option_and_then step (if s then x else None)
      by true y x p = p
      by false y x p = refl

  ends : (c : ℕ) → (share slot' k b).ends (c + d) ≡ (share slot k a).ends c
  ends zero = by (nat_eq (slot' (0 + d)) k) (nat_eq (slot 0) k) (b.ends (0 + d)) (a.ends 0) (h.ends 0) no_end
    where
      by : (s z y x : Bool) → y ≡ x → x ≡ false → (s && y) ≡ (z && x)
      by true true y x p q = p
      by true false y x p q = p ∙ q
      by false true y x p q = sym q
      by false false y x p q = refl
  ends (suc c) = ap (λ s. nat_eq s k && b.ends (suc c + d)) (later c) ∙ ap (λ e. nat_eq (slot (suc c)) k && e) (h.ends (suc c))

  pub share_steady : Steady d step (share slot k a) (share slot' k b)
  share_steady = record {
    before = λ c l. none (nat_eq (slot' c) k) (b.tuple c) (h.before c l);
    no_end = λ c l. low (nat_eq (slot' c) k) (b.ends c) (h.no_end c l);
    tuples = tuples;
    ends = ends;
  }
    where
      none : (s : Bool) (y : Option Row) → y ≡ None → (if s then y else None) ≡ None
      none true y p = p
      none false y p = refl

      low : (s y : Bool) → y ≡ false → (s && y) ≡ false
      low true y p = p
      low false y p = refl

-- the tuple of all shares, with the key of its slot in front
module _ (keys : ℕ → ℕ → ℕ) (slot : ℕ → ℕ) (out : Carried) (c : ℕ) where
  abbrev outs : ℕ → Carried
  outs k = share slot k out

  last_none : (o : Option Row) → first_of o None ≡ o
  last_none None = refl
  last_none (Some r) = refl

  other : (k : ℕ) (b : Bool) (o : Option Row) → b ≡ false → in_front (keys k c) (if b then o else None) ≡ None
  other k true o p = absurd (cc)
  other k false o p = refl

  own : (k : ℕ) (b : Bool) (o : Option Row) → b ≡ true → in_front (keys k c) (if b then o else None) ≡ in_front (keys k c) o
  own k true o p = refl
  own k false o p = absurd (cc)

  none_below : (n : ℕ) → n ≤ slot c → tuple_of_any (with_keys keys outs) n c ≡ None
  none_below zero le = refl
  none_below (suc n) le =
      ap (λ o. first_of o (in_front (keys n c) ((outs n).tuple c))) (none_below n (omega (arith, le)))
      ∙ other n (nat_eq (slot c) n) (out.tuple c) (ne_eqb (slot c) n (λ e. omega (arith, le, e)))

  pub tuple_of_shares : (n : ℕ) → slot c < n → tuple_of_any (with_keys keys outs) n c ≡ in_front (keys (slot c) c) (out.tuple c)
  tuple_of_shares zero lt = absurd (omega (arith, lt))
  tuple_of_shares (suc n) lt = elim (cases_lt (slot c) n) [
    | inl l ↦
        ap (λ o. first_of o (in_front (keys n c) ((outs n).tuple c))) (tuple_of_shares n l)
        ∙ ap (first_of (in_front (keys (slot c) c) (out.tuple c))) (other n (nat_eq (slot c) n) (out.tuple c) (ne_eqb (slot c) n (λ e. omega (arith, l, e))))
        ∙ last_none (in_front (keys (slot c) c) (out.tuple c))
    | inr le ↦
        let here : n ≡ slot c = omega (arith, le, lt) in
        ap (λ o. first_of o (in_front (keys n c) ((outs n).tuple c))) (none_below n (omega (arith, here)))
        ∙ own n (nat_eq (slot c) n) (out.tuple c) (eq-eqb (slot c) n (sym here))
        ∙ ap (λ k. in_front (keys k c) (out.tuple c)) here
  ]

  none_of : (n : ℕ) → out.tuple c ≡ None → tuple_of_any (with_keys keys outs) n c ≡ None
  none_of zero e = refl
  none_of (suc n) e =
      ap (λ o. first_of o (in_front (keys n c) ((outs n).tuple c))) (none_of n e)
      ∙ by (nat_eq (slot c) n) (out.tuple c) e
    where
      by : (b : Bool) (o : Option Row) → o ≡ None → in_front (keys n c) (if b then o else None) ≡ None
      by true o p = ap (in_front (keys n c)) p
      by false o p = refl

  pub tuple_of_all : (n : ℕ) → ((r : Row) → out.tuple c ≡ Some r → slot c < n) → in_front (keys (slot c) c) (out.tuple c) ≡ tuple_of_any (with_keys keys outs) n c
  tuple_of_all n within = by (out.tuple c) refl
    where
      by : (o : Option Row) → out.tuple c ≡ o → in_front (keys (slot c) c) (out.tuple c) ≡ tuple_of_any (with_keys keys outs) n c
      by None e = ap (in_front (keys (slot c) c)) e ∙ sym (none_of n e)
      by (Some r) e = sym (tuple_of_shares n (within r e))
