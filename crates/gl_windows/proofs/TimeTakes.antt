-- The front of windows of time in a cycle without the end: which window ends, and what each takes.
use Rattle.std.proofs.Common.{◌≡◌, ℕ, suc, ◌+◌, ◌<◌, ◌≤◌, Option, None, Bool, true, false, not, ◌&&◌, refl, sym, ap, ◌∙◌, arith, inl, inr}
use Rattle.std.specs.Prelude.{if◌then◌else◌, nat_le, nat_lt, nat_eq}
use Rattle.std.proofs.lemmas.Bool.{cases_lt, cases_eq, lt-ltb, le-ltb, le-leb, lt-leb, eq-eqb, ne_eqb, and_from, and_left, and_right}
use Rattle.gl_values.specs.Results.{Row}
use Rattle.gl_windows.specs.TimeFront.{TimeFront, closes, idle, last_row, taken, opened_by, reopens}
use Rattle.gl_windows.proofs.MachineLemmas.{if_same}
use Rattle.gl_windows.proofs.TimeCounts.{Completed, last, no_more}

-- in a cycle without the end, where no flush goes on and no window opens by itself
module _ (b : Bool) (o : Option Row) (s : TimeFront) (base q d n size advance : ℕ) (calm : s.flush ≡ false) (at : s.closed ≡ base + d) (opened : opened_by b s ≡ base + q) where
  -- a window ends exactly where this tick completes it
  pub ends_completed : (over : ℕ) → Completed size advance b n s.left d over → ((b && nat_eq s.left 0) ≡ true → d < q) → closes b false o s ≡ (b && nat_eq s.left 0)
  ends_completed over (last p e) there =
      let l = there p in
      rw p (lt-ltb s.closed (opened_by b s) (omega (arith, at, opened, l)))
  ends_completed over (no_more p) there = rw (p, calm) refl

  inside : (j : ℕ) → (nat_le s.closed (base + j) && nat_lt (base + j) (opened_by b s)) ≡ (nat_le d j && nat_lt j q)
  inside j = elim (cases_lt j d) [
    | inl l ↦ and_left _ _ (lt-leb s.closed (base + j) (omega (arith, at, l))) ∙ sym (and_left _ _ (lt-leb d j l))
    | inr l ↦ elim (cases_lt j q) [
      | inl m ↦ and_from _ _ (le-leb s.closed (base + j) (omega (arith, at, l))) (lt-ltb (base + j) (opened_by b s) (omega (arith, opened, m))) ∙ sym (and_from _ _ (le-leb d j l) (lt-ltb j q m))
      | inr m ↦ and_right _ _ (le-ltb (base + j) (opened_by b s) (omega (arith, opened, m))) ∙ sym (and_right _ _ (le-ltb j q m))
    ]
  ]

  -- what a window takes, where it is told whether the oldest one ends
  took : Bool → ℕ → Option Row
  took x j = if nat_le d j && nat_lt j q then (if x && nat_eq (base + j) s.closed then None else o) else None

  taken_as : (j : ℕ) (x : Bool) → closes b false o s ≡ x → taken b false o s (base + j) ≡ took x j
  unfolding took
  taken_as j x p = rw (p, inside j, calm) refl

  -- each open window that goes on takes the tuple
  pub takes : (over : ℕ) → Completed size advance b n s.left d over → ((b && nat_eq s.left 0) ≡ true → d < q) → (j : ℕ) → taken b false o s (base + j) ≡ (if nat_le over j && nat_lt j q then o else None)
  unfolding took
  takes over (no_more p) there j = taken_as j false (ends_completed over (no_more p) there ∙ p)
  takes over (last p e) there j = taken_as j true (ends_completed over (last p e) there ∙ p) ∙ elim (cases_lt j d) [
    | inl l ↦ (let x = lt-leb d j l in let y = lt-leb (suc d) j (omega (arith, l)) in rw (x, y) refl)
    | inr l ↦ elim (cases_eq j d) [
      | inl m ↦ (let x : nat_eq (base + j) s.closed ≡ true = eq-eqb _ _ (omega (arith, at, m)) in let y = lt-leb (suc d) j (omega (arith, m)) in rw (x, y) (if_same (nat_le d j && nat_lt j q) None))
      | inr m ↦ (let x : nat_eq (base + j) s.closed ≡ false = ne_eqb _ _ (λ z. m (omega (arith, at, z))) in let y = le-leb d j l in let w = le-leb (suc d) j (above j d l m) in rw (x, y, w) refl)
    ]
  ]
    where
      above : (j d : ℕ) → d ≤ j → (j ≡ d → ⊥) → suc d ≤ j
      above j d l m = elim (cases_lt d j) [ inl y ↦ y | inr y ↦ absurd (m (omega (arith, l, y))) ]

-- in a cycle in which nothing comes
module _ (s : TimeFront) where
  -- a window that does not end takes nothing
  pub others_take : (w : ℕ) → (closes false false None s && nat_eq w s.closed) ≡ false → taken false false None s w ≡ None
  others_take w stays =
      let nothing : Option Row = None in
      ap (λ (b : Bool). if nat_le s.closed w && nat_lt w (opened_by false s) then (if b then last_row false false None s else nothing) else nothing) stays
      ∙ if_same (nat_le s.closed w && nat_lt w (opened_by false s)) nothing

  -- none ends where the next stream's first window opens
  pub none_ends : reopens s ≡ true → closes false false None s ≡ false
  none_ends fires_now = and_left _ _ (and_left _ _ (and_right s.flush _ (ap not fires_now)))

  module _ (flush : s.flush ≡ true) (quiet : reopens s ≡ false) where
    pub goes_idle : idle false false None s ≡ true
    goes_idle = rw (flush, quiet) refl

    pub turn_ends : closes false false None s ≡ (nat_eq s.wait 0 && nat_lt s.closed s.opened)
    turn_ends = rw (flush, quiet) refl

    -- the one whose turn it is takes what came with the end
    pub last_takes : nat_eq s.wait 0 ≡ true → s.closed < s.opened → taken false false None s s.closed ≡ s.held
    last_takes now there =
        let here = le-leb s.closed s.closed (omega arith) in
        let less = lt-ltb s.closed s.opened there in
        let same = eq-eqb s.closed s.closed refl in
        rw (flush, quiet, here, less, now, same) refl
