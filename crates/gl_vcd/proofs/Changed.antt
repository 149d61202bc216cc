-- A time that comes, and what is kept of the changes before it.
use Rattle.std.proofs.Common.{◌≡◌, ℕ, ◌^◌, ◌<◌, ◌≤◌, min, Bool, true, false, Option, Some, None, List, [], ◌∷◌, Ok, Err, refl, sym, ap, ◌∙◌, arith, le-leb}
use Rattle.std.specs.Prelude.{◌&&◌, nat_eq, nat_le, nat_lt, if◌then◌else◌}
use Rattle.std.specs.List.{AllByRecursion}
use Rattle.std.proofs.lemmas.Bool.{cond-false, cond-true, le-ltb, lt-leb, lt-ltb}
use Rattle.gl_bits.specs.Limits.{latest_time}
use Rattle.gl_bits.proofs.Options.{not_some, some_same}
use Rattle.gl_tuples.specs.Values.{is_number, number_in}
use Rattle.gl_vcd.specs.declared.fault.VcdFault.TheVariants.{NoValue, Syntax, TimeFalls, TooLate}
use Rattle.gl_vcd.specs.Reading.{Reading, lacks_value, later_time, time_by, time_next}
use Rattle.gl_vcd.specs.Signals.{Change, given_from, value_at}

-- a number that was read, as far as 64 bits hold it
abbrev pub read_as : List ℕ → Option ℕ
read_as bytes = if is_number bytes then Some (min (number_in bytes) (2 ^ 64)) else None

is_some : (b : Bool) (n x : ℕ) → Some x ≡ (if b then Some n else None) → (b ≡ true) × (x ≡ n)
is_some true n x h = (refl, some_same x n h)
is_some false n x h = absurd (not_some x (sym h))

is_none : (b : Bool) (n : ℕ) → None ≡ (if b then Some n else None) → b ≡ false
is_none true n h = absurd (not_some n h)
is_none false n h = refl

module _ (r : Reading) (at time : ℕ) (digits : List ℕ) (come : r.time ≡ Some time) where
  by_time : time_next r at digits ≡ (if is_number digits then later_time r at time (number_in digits) else Err (Syntax at))
  by_time = ap (time_by r at digits) come

  pub no_time : None ≡ read_as digits → time_next r at digits ≡ Err (Syntax at)
  no_time h = by_time ∙ cond-false (is_number digits) _ _ (is_none (is_number digits) (min (number_in digits) (2 ^ 64)) h)

  at_number : (x : ℕ) → Some x ≡ read_as digits → time_next r at digits ≡ later_time r at time (number_in digits)
  at_number x h = by_time ∙ cond-true (is_number digits) _ _ (is_some (is_number digits) (min (number_in digits) (2 ^ 64)) x h).0

  read_is : (x : ℕ) → Some x ≡ read_as digits → x ≡ min (number_in digits) (2 ^ 64)
  read_is x h = (is_some (is_number digits) (min (number_in digits) (2 ^ 64)) x h).1

  pub time_falls : (x : ℕ) → Some x ≡ read_as digits → x ≤ time → time < 2 ^ 64 → time_next r at digits ≡ Err (TimeFalls at)
  time_falls x h le small =
      let least = read_is x h in
      at_number x h ∙ cond-true (nat_le (number_in digits) time) _ _ (le-leb (number_in digits) time (omega (arith, least, le, small)))

  above : (x : ℕ) → Some x ≡ read_as digits → time < x → time_next r at digits
      ≡ (if lacks_value r time then Err (NoValue at) else if nat_lt latest_time (number_in digits) then Err (TooLate at) else Ok (record r { time = Some (number_in digits) }))
  above x h lt =
      let least = read_is x h in
      at_number x h ∙ cond-false (nat_le (number_in digits) time) _ _ (lt-leb (number_in digits) time (omega (arith, least, lt)))

  pub time_lacks : (x : ℕ) → Some x ≡ read_as digits → time < x → lacks_value r time ≡ true → time_next r at digits ≡ Err (NoValue at)
  time_lacks x h lt lacks = above x h lt ∙ cond-true (lacks_value r time) _ _ lacks

  pub time_late : (x : ℕ) → Some x ≡ read_as digits → time < x → lacks_value r time ≡ false → latest_time < x → time_next r at digits ≡ Err (TooLate at)
  time_late x h lt lacks late =
      let least = read_is x h in
      above x h lt ∙ cond-false (lacks_value r time) _ _ lacks ∙ cond-true (nat_lt latest_time (number_in digits)) _ _ (lt-ltb latest_time (number_in digits) (omega (arith, least, late)))

  pub time_comes : (x : ℕ) → Some x ≡ read_as digits → time < x → lacks_value r time ≡ false → x ≤ latest_time → time_next r at digits ≡ Ok (record r { time = Some x })
  time_comes x h lt lacks early =
      let least = read_is x h in
      let same : number_in digits ≡ x = omega (arith, least, early) in
      above x h lt ∙ cond-false (lacks_value r time) _ _ lacks
      ∙ cond-false (nat_lt latest_time (number_in digits)) _ _ (le-ltb latest_time (number_in digits) (omega (arith, same, early)))
      ∙ ap (λ (n : ℕ). Ok (record r { time = Some n })) same

-- ---- what is given does not change while nothing is

given_same : (g : Option ℕ) (cs : List Change) (s m n : ℕ) → AllByRecursion (λ c. c.time ≤ m) cs → m ≤ n → given_from g cs s m ≡ given_from g cs s n
given_same g [] s m n all le = refl
given_same g (c ∷ cs) s m n all le =
    let early : nat_le c.time m ≡ true = le-leb c.time m all.0 in
    let later : nat_le c.time n ≡ true = le-leb c.time n (let l = all.0 in omega (arith, l, le)) in
    ap (λ (b : Bool). given_from (if nat_eq c.signal s && b then Some c.value else g) cs s m) (early ∙ sym later)
    ∙ given_same (if nat_eq c.signal s && nat_le c.time n then Some c.value else g) cs s m n all.1 le

pub value_same : (cs : List Change) (s m n : ℕ) → AllByRecursion (λ c. c.time ≤ m) cs → m ≤ n → value_at cs s m ≡ value_at cs s n
unfolding value_at
value_same cs s m n all le = given_same None cs s m n all le
