-- One cycle of two lists and two flags.
use Rattle.std.proofs.Common.{◌≡◌, ℕ, suc, ◌+◌, ◌-◌, ◌<◌, ◌≤◌, List, [], ◌∷◌, length, Bool, true, false, refl, sym, ap, ◌∙◌, arith, length-append}
use Rattle.std.specs.Prelude.{option_to_list, is_some, not, ◌&&◌, ◌||◌, if◌then◌else◌}
use Rattle.gl_bits.proofs.Bools.{not_both}
use Rattle.gl_values.specs.Results.{Row}
use Rattle.gl_wire.specs.Wire.{Carried, rows}
use Rattle.gl_queue.specs.Queue.{oldest, behind}
use Rattle.gl_queue.specs.Phases.{IsWaiting}
use Rattle.gl_wire.proofs.RowsLemmas.{rows-split}

-- one of two lists gives an entry
pub taken : (xs ys : List Row) → length (behind xs) + length (if not (is_some (oldest xs)) then behind ys else ys) ≡ length xs + length ys - 1
taken [] [] = refl
taken [] (y ∷ ys) = omega arith
taken (x ∷ xs) ys = omega arith

pub shorter : (xs : List Row) → length (behind xs) ≤ length xs
shorter [] = omega arith
shorter (x ∷ xs) = omega arith

pub shorter_if : (go : Bool) (xs : List Row) → length (if go then behind xs else xs) ≤ length xs
shorter_if true xs = shorter xs
shorter_if false xs = omega arith

pub empty : (xs : List Row) → length xs ≡ 0 → xs ≡ []
empty [] h = refl
empty (x ∷ xs) h = absurd (omega (arith, h))

pub rows-push : (s : Carried) (c n : ℕ) → length (rows s c (suc n)) ≡ length (rows s c n) + length (option_to_list (s.tuple (c + n)))
rows-push s c n =
    let e : n + 1 ≡ suc n = omega arith in
    let l : length (rows s c (n + 1)) ≡ length (rows s c n) + length (rows s (c + n) 1) = ap length (rows-split s n 1 c) ∙ length-append (rows s c n) (rows s (c + n) 1) in
    let one : length (rows s (c + n) 1) ≡ length (option_to_list (s.tuple (c + n))) = length-append (option_to_list (s.tuple (c + n))) [] ∙ omega arith in
    ap (λ k. length (rows s c k)) (sym e) ∙ l ∙ ap (λ k. length (rows s c n) + k) one

-- flags
pub flag_off : (e w o : Bool) → e ≡ false → (w ≡ true → o ≡ true) → e || (w && not o) ≡ false
flag_off true w o p h = absurd (cc)
flag_off false true o p h = rw (h refl) refl
flag_off false false o p h = refl

pub flag_on : (e w o : Bool) → e ≡ true → e || (w && not o) ≡ true
flag_on true w o p = refl
flag_on false w o p = absurd (cc)

pub flag_kept : (e w o : Bool) → e ≡ false → o ≡ false → e || (w && not o) ≡ w
flag_kept true w o p q = absurd (cc)
flag_kept false w true p q = absurd (cc)
flag_kept false true false p q = refl
flag_kept false false false p q = refl

module _ (ends wait leaves : ℕ → Bool) (at c : ℕ) (next : wait (suc c) ≡ ends c || (wait c && not (leaves c))) (is : ends at ≡ true) (only : ends c ≡ true → c ≡ at) where
  pub start_wait : c ≤ at → (wait c ≡ true → leaves c ≡ true) → IsWaiting wait at (suc c)
  start_wait l clear = record {
    yes = λ m. let e : at ≡ c = omega (arith, l, m) in next ∙ flag_on (ends c) (wait c) (leaves c) (ap ends (sym e) ∙ is);
    no = λ w. by (ends c) refl w;
  }
    where
      by : (e : Bool) → ends c ≡ e → wait (suc c) ≡ true → at < suc c
      by true p w = omega (arith, only p)
      by false p w = absurd (let off = flag_off (ends c) (wait c) (leaves c) p clear in cc (off, next, w))

  pub keep_wait : IsWaiting wait at c → leaves c ≡ false → IsWaiting wait at (suc c)
  keep_wait h stay = by (ends c) refl
    where
      by : (e : Bool) → ends c ≡ e → IsWaiting wait at (suc c)
      by true p = record { yes = λ l. next ∙ flag_on (ends c) (wait c) (leaves c) p; no = λ w. omega (arith, only p) }
      by false p =
          let kept : wait (suc c) ≡ wait c = next ∙ flag_kept (ends c) (wait c) (leaves c) p stay in
          record {
            yes = λ l. kept ∙ h.yes (before l);
            no = λ w. let x = h.no (sym kept ∙ w) in omega (arith, x);
          }
        where
          differ : at ≡ c → ⊥
          differ e = not_both (ends c) (ap ends (sym e) ∙ is) p

          before : at < suc c → at < c
          before l = omega (arith, l, differ)
