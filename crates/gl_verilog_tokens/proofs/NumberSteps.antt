-- A number that only grows, digit by digit.
use Rattle.std.proofs.Common.{◌≡◌, ℕ, suc, ◌+◌, ◌-◌, ◌*◌, ◌<◌, ◌≤◌, Bool, true, false, cond, List, [], ◌∷◌, length, drop, get_or, sym, ap, ◌∙◌, arith, add-one, drop-cons}
use Rattle.std.specs.Prelude.{nat_eq}
use Rattle.std.proofs.lemmas.List.{drop_all}
use Rattle.gl_verilog.specs.Tokens.{digit_of, with_digit, number_from}

grows : (b : Bool) (n d : ℕ) → n ≤ cond b n (n * 10 + d)
grows true n d = omega arith
grows false n d = omega arith

pub number-grows : (ds : List ℕ) (n : ℕ) → n ≤ number_from 10 n ds
number-grows [] n = omega arith
number-grows (d ∷ ds) n = omega (arith, grows (nat_eq d 95) n (digit_of d), number-grows ds (with_digit 10 n d))

-- a digit more
pub number_next : (ds : List ℕ) (at n m all : ℕ) → at < length ds → m ≡ with_digit 10 n (get_or ds at 0) → number_from 10 n (drop at ds) ≡ all → number_from 10 m (drop (at + 1) ds) ≡ all
number_next ds at n m all lt e h =
    rw (e, add-one) (ap (number_from 10 n) (sym (drop-cons ds at 0 lt)) ∙ h)

pub number_passes : (ds : List ℕ) (at n all limit : ℕ) → at < length ds → limit ≤ with_digit 10 n (get_or ds at 0) → number_from 10 n (drop at ds) ≡ all → limit ≤ all
number_passes ds at n all limit lt e h =
    let z : number_from 10 (with_digit 10 n (get_or ds at 0)) (drop (suc at) ds) ≡ all = ap (number_from 10 n) (sym (drop-cons ds at 0 lt)) ∙ h in
    omega (arith, z, number-grows (drop (suc at) ds) (with_digit 10 n (get_or ds at 0)))

pub number_ends : (ds : List ℕ) (n all : ℕ) → number_from 10 n (drop (length ds) ds) ≡ all → n ≡ all
number_ends ds n all h = ap (number_from 10 n) (sym (drop_all (length ds) ds (omega arith))) ∙ h

pub ruleset numbers = (number_next, number_passes, number_ends)
