-- Windows that copies take in turn: which copy has which window, and what one cycle makes of its flag.
use Rattle.std.proofs.Common.{◌≡◌, ℕ, suc, ◌+◌, ◌-◌, ◌%◌, ◌<◌, ◌≤◌, Some, None, Bool, true, false, refl, sym, ap, ◌∙◌, arith, inl, inr}
use Rattle.std.specs.Prelude.{nat_eq, nat_lt, not, ◌&&◌, ◌||◌, if◌then◌else◌}
use Rattle.std.proofs.Math.Bool.{and-true, and-false}
use Rattle.std.proofs.Math.Nat.{add-mod_right}
use Rattle.std.proofs.lemmas.Bool.{cases_lt, cases_order, eq-eqb, ne_eqb, lt-ltb, le-ltb, ltb-true, and_parts}
use Rattle.std.proofs.lemmas.Nat.{mod_below}
use Rattle.gl_values.specs.Results.{Row}
use Rattle.gl_bits.proofs.Bools.{by_cases, or_none, same_test, eq_turned}
use Rattle.gl_wire_registers.specs.Held.{turned}
use Rattle.gl_windows.specs.TimeFront.{TimeFront, due, lasts, last_row, open_row, reopens}
use Rattle.gl_windows.proofs.MachineLemmas.{at_oldest, if_same, tuple_of, turned_if}
use Rattle.gl_windows.proofs.SliceLemmas.{mod_apart}

module _ (count : ℕ) (some : 1 ≤ count) where
  -- the copy of a window
  abbrev pub copy : ℕ → ℕ
  copy w = (w + (count - 1)) % count

  pub copy_low : (w : ℕ) → copy w < count
  copy_low w = mod_below (w + (count - 1)) count some

  -- of as many windows in a row as there are copies, no two have one copy
  pub same_copy : (lo v w : ℕ) → lo ≤ v → v < lo + count → lo ≤ w → w < lo + count → nat_eq (copy v) (copy w) ≡ nat_eq v w
  same_copy lo v w l h k g = same_test (copy v) (copy w) v w one (λ e. ap copy e)
    where
      one : copy v ≡ copy w → v ≡ w
      one e = elim (cases_order v w) [
        | inl z ↦ z
        | inr y ↦ elim y [
          | inl z ↦ absurd (mod_apart count (v + (count - 1)) (w + (count - 1)) (omega (arith, z)) (omega (arith, g, l)) e)
          | inr z ↦ absurd (mod_apart count (w + (count - 1)) (v + (count - 1)) (omega (arith, z)) (omega (arith, h, k)) (sym e))
        ]
      ]

  -- a pointer goes from a window's copy to that of the next
  pub next_copy : (b : Bool) (w : ℕ) → turned (count - 1) b (copy w) ≡ copy (if b then suc w else w)
  next_copy true w = let e : suc (w + (count - 1)) ≡ suc w + (count - 1) = omega arith in turned_if count (w + (count - 1)) true some ∙ ap (λ z. z % count) e
  next_copy false w = turned_if count (w + (count - 1)) false some

  below_next : (q w : ℕ) → (nat_lt w q || nat_eq q w) ≡ nat_lt w (suc q)
  below_next q w = elim (cases_order w q) [
    | inl e ↦ (let a = le-ltb w q (omega (arith, e)) in let b = eq-eqb q w (sym e) in let c = lt-ltb w (suc q) (omega (arith, e)) in rw (a, b, c) refl)
    | inr y ↦ elim y [
      | inl l ↦ (let a = lt-ltb w q l in let c = lt-ltb w (suc q) (omega (arith, l)) in rw (a, c) refl)
      | inr l ↦ (let a = le-ltb w q (omega (arith, l)) in let b = ne_eqb q w (λ e. omega (arith, e, l)) in let c = le-ltb w (suc q) (omega (arith, l)) in rw (a, b, c) refl)
    ]
  ]

  -- with the window that opens in a cycle, or none
  pub opens_one : (lo q w : ℕ) (b : Bool) → lo ≤ q → lo ≤ w → w < lo + count → (if b then suc q else q) ≤ lo + count
      → (nat_lt w q || (b && nat_eq (copy q) (copy w))) ≡ nat_lt w (if b then suc q else q)
  opens_one lo q w false l h k room = or_none (nat_lt w q)
  opens_one lo q w true l h k room = let more : suc q ≤ lo + count = room in ap (λ z. nat_lt w q || z) (same_copy lo q w l (omega (arith, more)) h k) ∙ below_next q w

  -- the oldest window ends, where it is open
  pub ends_one : (lo q w : ℕ) (x : Bool) → lo ≤ w → w < lo + count → ((x && nat_eq (copy lo) (copy w)) && nat_lt w q) ≡ ((x && nat_lt lo q) && nat_eq w lo)
  ends_one lo q w x h k =
      ap (λ z. (x && z) && nat_lt w q) (same_copy lo lo w (omega arith) (omega (arith, some)) h k)
      ∙ at_oldest lo w x (λ v. nat_lt v q) ∙ ap (λ z. (x && nat_lt lo q) && z) (eq_turned lo w)

  -- and the others stay open; the copy that gets free has the window behind all
  pub stays_open : (lo q : ℕ) (b : Bool) (mids ends : ℕ → Bool) → ((w : ℕ) → lo ≤ w → w < lo + count → mids (copy w) ≡ nat_lt w q)
      → ((w : ℕ) → lo ≤ w → w < lo + count → ends (copy w) ≡ (b && nat_eq w lo)) → q ≤ lo + count
      → (w : ℕ) → (if b then suc lo else lo) ≤ w → w < (if b then suc lo else lo) + count → (mids (copy w) && not (ends (copy w))) ≡ nat_lt w q
  stays_open lo q false mids ends is_mid is_end room w l h = ap (λ z. mids (copy w) && not z) (is_end w l h) ∙ and-true (mids (copy w)) ∙ is_mid w l h
  stays_open lo q true mids ends is_mid is_end room w l h = elim (cases_lt w (lo + count)) [
    | inl k ↦
        (let low : lo ≤ w = omega (arith, l) in
        ap (λ z. mids (copy w) && not z) (is_end w low k ∙ ne_eqb w lo (λ e. omega (arith, e, l))) ∙ and-true (mids (copy w)) ∙ is_mid w low k)
    | inr k ↦
        (let sum : w + (count - 1) ≡ lo + (count - 1) + count = omega (arith, h, k) in
        let same : copy w ≡ copy lo = ap (λ z. z % count) sum ∙ add-mod_right (lo + (count - 1)) count in
        let one : ends (copy w) ≡ true = ap ends same ∙ is_end lo (omega arith) (omega (arith, some)) ∙ eq-eqb lo lo refl in
        ap (λ z. mids (copy w) && not z) one ∙ and-false (mids (copy w)) ∙ sym (le-ltb w q (omega (arith, room, k))))
  ]

  pub low_next : (x : Bool) (lo q : ℕ) → lo ≤ q → (if x && nat_lt lo q then suc lo else lo) ≤ q
  low_next x lo q l = by_cases (x && nat_lt lo q)
      (λ p. let y = and_parts x (nat_lt lo q) p in let z : lo < q = ltb-true lo q y.1 in rw p (omega (arith, z)))
      (λ p. rw p l)

-- whether a flush goes on, as the circuit tells it: it need not look at the end
abbrev pub idle_as : TimeFront → Bool → Bool → Bool
idle_as s tick v = s.flush && not ((tick || v) || reopens s)

-- whether a copy takes what stands in the row's register, whose window is open or not, and ends or not
abbrev pub valid_as : TimeFront → Bool → Bool → Bool → Bool → Bool → Bool → Bool
valid_as s held tick e v q b = ((q && not b) && (v && not e)) || (b && (((e && v) || ((idle_as s tick v && held) && not e)) && not (lasts tick s)))

module _ (s : TimeFront) (x : Row) (held : Bool) (row after : Row) where
  pub takes_as : (tick e v q b : Bool) → (b ≡ true → q ≡ true) → (b ≡ true → (e || (lasts tick s || due tick e (tuple_of v x) s)) ≡ true)
      → (v ≡ true → after ≡ x) → (v ≡ false → s.flush ≡ true → after ≡ row) → (s.flush ≡ true → s.held ≡ (if held then Some row else None))
      → (if valid_as s held tick e v q b then Some after else None) ≡ (if q then (if b then last_row tick e (tuple_of v x) s else open_row e (tuple_of v x)) else None)
  takes_as tick e v false true so why new old kept = absurd (let z = so refl in cc)
  takes_as tick e v false false so why new old kept = refl
  takes_as tick true true true false so why new old kept = refl
  takes_as tick true false true false so why new old kept = refl
  takes_as tick false true true false so why new old kept = ap Some (new refl)
  takes_as tick false false true false so why new old kept = refl
  takes_as tick true true true true so why new old kept = by (lasts tick s)
    where
      by : (z : Bool) → (if not z then Some after else None) ≡ (if z then None else Some x)
      by true = refl
      by false = ap Some (new refl)
  takes_as tick true false true true so why new old kept =
      let none = and-false (idle_as s tick false && held) in
      rw none (sym (if_same (lasts tick s) None))
  takes_as true false true true true so why new old kept = let none = and-false s.flush in rw none refl
  takes_as false false true true true so why new old kept = let none = and-false s.flush in rw none refl
  takes_as true false false true true so why new old kept = let none = and-false s.flush in rw none refl
  takes_as false false false true true so why new old kept =
      let turn = and_parts (s.flush && not (reopens s)) (nat_eq s.wait 0) (why refl) in
      let calm = and_parts s.flush (not (reopens s)) turn.0 in
      let on = turn.0 in
      let at = turn.1 in
      let same = old refl calm.0 in
      let is = kept calm.0 in
      rw (on, at, and-true held, and-true held, same) (sym is)
