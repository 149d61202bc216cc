-- A side that brings a row with each end, and the flag that it waits.
use Rattle.std.proofs.Common.{◌≡◌, ℕ, zero, suc, ◌<◌, ◌≤◌, [], ◌∷◌, ◌++◌, Option, Some, None, Bool, true, false, refl, sym, ap, ◌∙◌, arith}
use Rattle.std.specs.Prelude.{option_to_list, is_some, not, ◌&&◌, ◌||◌, if◌then◌else◌}
use Rattle.std.proofs.lemmas.Bool.{false_from_ne_true}
use Rattle.gl_values.specs.Results.{Row}
use Rattle.gl_wire.specs.Pace.{WithEnds}
use Rattle.gl_wire.specs.Wire.{Carried, pending, stream}
use Rattle.gl_queue.proofs.HeldLemmas.{flag_off, flag_on, flag_kept}
use Rattle.gl_wire.proofs.SideLemmas.{none_unless}

-- a wire that brings a row with each end alone
module _ (s : Carried) (once : WithEnds s) where
  pub once_none : (c : ℕ) → s.ends c ≡ false → s.tuple c ≡ None
  once_none c e = none_unless (s.tuple c) (λ r h. let z : true ≡ s.ends c = sym (ap is_some h) ∙ once c in cc (z, e))

  pub once_some : (c : ℕ) → s.ends c ≡ true → (r : Row) × (s.tuple c ≡ Some r)
  once_some c e = by (s.tuple c) refl
    where
      by : (o : Option Row) → s.tuple c ≡ o → (r : Row) × (s.tuple c ≡ Some r)
      by None h = absurd (let z : false ≡ s.ends c = sym (ap is_some h) ∙ once c in cc (z, e))
      by (Some r) h = (r, h)

  pub once_pending : (c : ℕ) → pending s c ≡ []
  once_pending zero = refl
  once_pending (suc c) = by (s.ends c) refl (once_pending c)
    where
      by : (e : Bool) → s.ends c ≡ e → pending s c ≡ [] → (if s.ends c then [] else pending s c ++ option_to_list (s.tuple c)) ≡ []
      by true p ih = rw p refl
      by false p ih = rw (p, ih, once_none c p) refl

  pub once_stream : (c : ℕ) (r : Row) → s.tuple c ≡ Some r → stream s c ≡ r ∷ []
  once_stream c r h = rw (once_pending c, h) refl

-- one side's flag: set from the cycle after the row came until both are there
pub record Flag (wait : ℕ → Bool) (x m c : ℕ) : Type 0 where
  pub yes : x < c → c ≤ m → wait c ≡ true
  pub no : wait c ≡ true → (x < c) × (c ≤ m)

module _ (ends wait both : ℕ → Bool) (x m c : ℕ) (next : wait (suc c) ≡ ends c || (wait c && not (both c))) (is : ends x ≡ true) (only : ends c ≡ true → c ≡ x) (in_time : x < m) where
  pub flag_start : c ≤ x → wait c ≡ false → Flag wait x m (suc c)
  flag_start l off = record {
    yes = λ i j. let e : x ≡ c = omega (arith, l, i) in next ∙ flag_on (ends c) (wait c) (both c) (ap ends (sym e) ∙ is);
    no = λ w. by (ends c) refl w;
  }
    where
      by : (e : Bool) → ends c ≡ e → wait (suc c) ≡ true → (x < suc c) × (suc c ≤ m)
      by true p w = let e = only p in (omega (arith, e), omega (arith, e, in_time))
      by false p w = absurd (let z = next ∙ flag_off (ends c) (wait c) (both c) p (λ v. absurd (cc (v, off))) in cc (z, w))

  pub flag_next : Flag wait x m c → (both c ≡ true → c ≡ m) → (c ≡ m → both c ≡ true) → Flag wait x m (suc c)
  flag_next f there here = by (ends c) refl
    where
      by : (e : Bool) → ends c ≡ e → Flag wait x m (suc c)
      by true p = let e = only p in record { yes = λ i j. next ∙ flag_on (ends c) (wait c) (both c) p; no = λ w. (omega (arith, e), omega (arith, e, in_time)) }
      by false p = record {
        yes = λ i j. let stay : both c ≡ false = false_from_ne_true (both c) (λ v. let e = there v in omega (arith, e, j)) in
            let differ : x ≡ c → ⊥ = λ e. let z = ap ends e in cc (z, is, p) in
            next ∙ flag_kept (ends c) (wait c) (both c) p stay ∙ f.yes (omega (arith, i, differ)) (omega (arith, j));
        no = λ w. off (both c) refl w;
      }
        where
          off : (b : Bool) → both c ≡ b → wait (suc c) ≡ true → (x < suc c) × (suc c ≤ m)
          off true q w = absurd (let z = next ∙ flag_off (ends c) (wait c) (both c) p (λ v. q) in cc (z, w))
          off false q w =
              let v : wait c ≡ true = sym (flag_kept (ends c) (wait c) (both c) p q) ∙ sym next ∙ w in
              let z = f.no v in
              let l = z.0 in
              let n = z.1 in
              let differ : c ≡ m → ⊥ = λ e. let k = here e in cc (k, q) in
              (omega (arith, l), omega (arith, n, differ))
