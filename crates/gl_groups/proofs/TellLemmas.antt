-- What a lane tells in a cycle, from what is found and from the turns of a flush, is what some slot of the machine tells.
use Rattle.std.proofs.Common.{◌≡◌, ℕ, zero, suc, ◌-◌, ◌<◌, ◌≤◌, Bool, true, false, refl, sym, ap, ◌∙◌, subst, arith, inl, inr, ◌⊎◌, eqb-true, eq-eqb, le-ltb, lt-ltb, ltb-false, ltb-true}
use Rattle.std.specs.Prelude.{not, ◌&&◌, ◌||◌, if◌then◌else◌, nat_eq, nat_lt}
use Rattle.std.proofs.Math.Bool.{and-true, and-false, or-true}
use Rattle.gl_bits.proofs.Bools.{and_both, and_left, and_parts, and_right, by_cases, else_false, not_both, not_false, not_true, or_cases, or_left, or_none, or_right, same_test, same_when}
use Rattle.gl_wire_registers.specs.Lines.{any_to}
use Rattle.gl_wire_registers.proofs.LineLemmas.{any_same}
use Rattle.gl_groups.specs.Ahead.{Ahead, Finds, GoesOn, head_in, many_kept, sought_in}
use Rattle.gl_slots.specs.Seeking.{Sought, asked, found, has, is_new, kept, matches, takes}
use Rattle.gl_slots.specs.Slots.{Slots}
use Rattle.gl_groups.specs.Telling.{end_told, passes_in, row_told, slot_told, turn_of}
use Rattle.gl_slots.specs.Values.{Cycle, Mirrors, Values, at_of, due_of, end_of, sought_of, tail_of, valid_of}
use Rattle.gl_slots.proofs.OneLemmas.{any_here, any_there}

-- ---- numbers and truth values

both_first : (a b : Bool) → (a && b) ≡ (b && a)
both_first true b = sym (and-true b)
both_first false b = sym (and-false b)

-- one of some is the one that a number names
any_at : (n : ℕ) (x : Bool) (q : ℕ) (g : ℕ → Bool) → any_to n (λ k. (x && nat_eq k q) && g k) ≡ ((x && nat_lt q n) && g q)
any_at n x q g = same_when (any_to n (λ k. (x && nat_eq k q) && g k)) ((x && nat_lt q n) && g q) there here
  where
    there : any_to n (λ k. (x && nat_eq k q) && g k) ≡ true → ((x && nat_lt q n) && g q) ≡ true
    there h =
        let e = any_there n (λ k. (x && nat_eq k q) && g k) h in
        let parts = and_parts (x && nat_eq e.0 q) (g e.0) e.2 in
        let turn = and_parts x (nat_eq e.0 q) parts.0 in
        let at : e.0 ≡ q = eqb-true e.0 q turn.1 in
        and_both (x && nat_lt q n) (g q) (and_both x (nat_lt q n) turn.0 (lt-ltb q n (subst (λ i. i < n) at e.1))) (subst (λ i. g i ≡ true) at parts.1)

    here : ((x && nat_lt q n) && g q) ≡ true → any_to n (λ k. (x && nat_eq k q) && g k) ≡ true
    here h =
        let parts = and_parts (x && nat_lt q n) (g q) h in
        let turn = and_parts x (nat_lt q n) parts.0 in
        any_here n (λ k. (x && nat_eq k q) && g k) q (ltb-true q n turn.1)
        (and_both (x && nat_eq q q) (g q) (and_both x (nat_eq q q) turn.0 (eq-eqb q q refl)) parts.1)

-- ---- where the slot that had the key is

-- the slot that had the key of a cycle ago is one of them
pub home_within : (n : ℕ) (a : Ahead) → GoesOn n a → Finds n a → (t : ℕ) → a.had t ≡ true → a.home t < n
home_within n a g f zero h = absurd (not_both (a.had 0) h g.first_had)
home_within n a g f (suc t) h = by t (or_cases (a.one t) (a.new t) (sym (g.had t) ∙ h))
  where
    nothing : (k : ℕ) → found (sought_in a 0) k ≡ true → ⊥
    nothing k e = not_both (a.used k 0) (and_left (a.used k 0) (not (a.free 0)) (and_left (kept (sought_in a 0) k) (nat_eq (a.value 0) (a.key k 0)) e)) (g.first_used k)

    fresh : (k : ℕ) → takes n (sought_in a 0) k ≡ true → a.ask 0 ≡ true
    fresh zero e = and_left (a.ask 0) (not (any_to n (found (sought_in a 0)))) (and_left (is_new n (sought_in a 0)) (not (kept (sought_in a 0) 0)) e)
    fresh (suc k) e =
        and_left (a.ask 0) (not (any_to n (found (sought_in a 0))))
        (and_left (is_new n (sought_in a 0)) (kept (sought_in a 0) k) (and_left (asked n (sought_in a 0) (suc k)) (not (kept (sought_in a 0) (suc k))) e))

    at : (u k : ℕ) → k < n → matches n (sought_in a (suc u)) k ≡ true → a.home (suc (suc u)) < n
    at u k l e = subst (λ i. i < n) (sym (g.home u ∙ f.number k (suc u) l e)) l

    by : (u : ℕ) → (a.one u ≡ true) ⊎ (a.new u ≡ true) → a.home (suc u) < n
    by zero (inl e) = let p = any_there n (found (sought_in a 0)) (sym (f.one 0) ∙ e) in absurd (nothing p.0 p.2)
    by zero (inr e) = let p = any_there n (takes n (sought_in a 0)) (sym (f.new 0) ∙ e) in absurd (not_both (a.ask 0) (fresh p.0 p.2) g.first_ask)
    by (suc u) (inl e) =
        let p = any_there n (found (sought_in a (suc u))) (sym (f.one (suc u)) ∙ e) in
        at u p.0 p.1 (or_left (found (sought_in a (suc u)) p.0) (takes n (sought_in a (suc u)) p.0) p.2)
    by (suc u) (inr e) =
        let p = any_there n (takes n (sought_in a (suc u))) (sym (f.new (suc u)) ∙ e) in
        at u p.0 p.1 (or_right (found (sought_in a (suc u)) p.0) (takes n (sought_in a (suc u)) p.0) p.2)

-- ---- one cycle

module _ (n : ℕ) (some : 1 ≤ n) (s : Slots) (p : Values) (m : Mirrors n s p) (c : Cycle) (a : Ahead) (f : Finds n a) (t : ℕ) (same : sought_in a t ≡ sought_of c p) where
  abbrev seen : Sought
  seen = sought_of c p

  abbrev due : Bool
  due = due_of c p

  abbrev turn : ℕ
  turn = turn_of n p

  one_is : a.one t ≡ any_to n (found seen)
  one_is = f.one t ∙ ap (λ w. any_to n (found w)) same

  -- the slots that are kept are the first ones
  kept_at : (k : ℕ) → k < n → kept seen k ≡ nat_lt k (many_kept a t)
  kept_at k l = ap (λ w. kept w k) (sym same) ∙ ap (λ b. b && not (a.free t)) (f.many k t l) ∙ by (a.free t)
    where
      by : (b : Bool) → (nat_lt k (a.many t) && not b) ≡ nat_lt k (if b then 0 else a.many t)
      by true = and-false (nat_lt k (a.many t)) ∙ sym (le-ltb k 0 (omega arith))
      by false = and-true (nat_lt k (a.many t))

  kept_before : (j k : ℕ) → j ≤ k → k < n → kept seen k ≡ true → kept seen j ≡ true
  kept_before j k le l h =
      let far = ltb-true k (many_kept a t) (sym (kept_at k l) ∙ h) in
      kept_at j (omega (arith, le, l)) ∙ lt-ltb j (many_kept a t) (omega (arith, le, far))

  not_found : kept seen 0 ≡ false → any_to n (found seen) ≡ false
  not_found h = else_false (any_to n (found seen)) (λ e.
      let w = any_there n (found seen) e in
      not_both (kept seen 0) (kept_before 0 w.0 (omega arith) w.1 (and_left (kept seen w.0) (nat_eq seen.value (seen.key w.0)) w.2)) h)

  -- where no row comes, none takes one
  no_takes : (k : ℕ) → c.valid ≡ false → takes n seen k ≡ false
  no_takes zero h = ap (λ b. (b && not (any_to n (found seen))) && not (kept seen 0)) h
  no_takes (suc k) h = ap (λ b. ((b && not (any_to n (found seen))) && kept seen k) && not (kept seen (suc k))) h

  -- ---- whether a row is left over

  asked_behind : asked n seen n ≡ (is_new n seen && kept seen (n - 1))
  asked_behind = let place : n ≡ suc (n - 1) = omega (arith, some) in ap (asked n seen) place

  pub passes_is : passes_in n a t ≡ asked n (sought_of c p) n
  passes_is =
      ap (λ w. (w.ask && kept w (n - 1)) && not (a.one t)) same ∙ ap (λ b. (c.valid && kept seen (n - 1)) && not b) one_is
      ∙ swap c.valid (kept seen (n - 1)) (not (any_to n (found seen))) ∙ sym asked_behind
    where
      swap : (x y z : Bool) → ((x && y) && z) ≡ ((x && z) && y)
      swap true y z = both_first y z
      swap false y z = refl

  -- a slot takes a row exactly where it is not left over
  asked_at : (k : ℕ) → is_new n seen ≡ true → ((j : ℕ) → j < k → kept seen j ≡ true) → asked n seen k ≡ true
  asked_at zero new all = new
  asked_at (suc j) new all = and_both (is_new n seen) (kept seen j) new (all j (omega arith))

  not_taken : is_new n seen ≡ true → kept seen (n - 1) ≡ true → (k : ℕ) → k < n → matches n seen k ≡ true → ⊥
  not_taken new full k l e = elim (or_cases (found seen k) (takes n seen k) e) [
    | inl q ↦ not_both (any_to n (found seen)) (any_here n (found seen) k l q) (not_true (any_to n (found seen)) (and_right c.valid (not (any_to n (found seen))) new))
    | inr q ↦ not_both (kept seen k) (kept_before k (n - 1) (omega (arith, l)) (omega (arith, l)) full) (not_true (kept seen k) (and_right (asked n seen k) (not (kept seen k)) q))
  ]

  taken : is_new n seen ≡ true → kept seen (n - 1) ≡ false → any_to n (matches n seen) ≡ true
  taken new room =
      let q = many_kept a t in
      let l : q < n = (let w = ltb-false (n - 1) q (sym (kept_at (n - 1) (omega (arith, some))) ∙ room) in omega (arith, w, some)) in
      let free = kept_at q l ∙ le-ltb q q (omega arith) in
      let row = asked_at q new (λ j w. kept_at j (omega (arith, w, l)) ∙ lt-ltb j q w) in
      any_here n (matches n seen) q l (or_right (found seen q) (takes n seen q) (and_both (asked n seen q) (not (kept seen q)) row (not_false (kept seen q) free)))

  matched : c.valid ≡ true → any_to n (matches n seen) ≡ not (asked n seen n)
  matched v = same_when (any_to n (matches n seen)) (not (asked n seen n)) there here
    where
      there : any_to n (matches n seen) ≡ true → not (asked n seen n) ≡ true
      there h =
          let w = any_there n (matches n seen) h in
          not_false (asked n seen n) (else_false (asked n seen n) (λ e.
          let parts = and_parts (is_new n seen) (kept seen (n - 1)) (sym asked_behind ∙ e) in
          not_taken parts.0 parts.1 w.0 w.1 w.2))

      here : not (asked n seen n) ≡ true → any_to n (matches n seen) ≡ true
      here h = by_cases (any_to n (found seen))
          (λ e. let w = any_there n (found seen) e in any_here n (matches n seen) w.0 w.1 (or_left (found seen w.0) (takes n seen w.0) w.2))
          (λ e. let new = and_both c.valid (not (any_to n (found seen))) v (not_false (any_to n (found seen)) e) in
          taken new (else_false (kept seen (n - 1)) (λ k.
          not_both (asked n seen n) (asked_behind ∙ and_both (is_new n seen) (kept seen (n - 1)) new k) (not_true (asked n seen n) h))))

  -- ---- the slot whose turn it is

  -- where a turn of the flush is due, no end and no row come
  calm : due ≡ true → (p.flush ≡ true) × ((c.valid || c.end) ≡ false)
  calm d =
      let parts = and_parts p.flush (not (c.valid || c.end)) (and_left (p.flush && not (c.valid || c.end)) (nat_eq p.wait 0) d) in
      (parts.0, not_true (c.valid || c.end) parts.1)

  no_due : (c.valid || c.end) ≡ true → due ≡ false
  no_due h = else_false due (λ d. not_both (c.valid || c.end) h (calm d).1)

  abbrev now : Bool → ℕ
  now e = if e then 0 else turn

  at_now : (k : ℕ) → k < n → nat_eq (at_of n c p) (n - k) ≡ nat_eq k (now c.end)
  at_now k l = by c.end
    where
      by : (e : Bool) → nat_eq (if e then n else p.rest) (n - k) ≡ nat_eq k (now e)
      by true = same_test n (n - k) k 0 (λ e. omega (arith, e, l)) (λ e. omega (arith, e))
      by false = same_test p.rest (n - k) k (n - p.rest) (λ e. omega (arith, e, l)) (λ e. omega (arith, e, l, m.rest))

  ends_now : (k : ℕ) → k < n → end_of n c p k ≡ (((c.end || due) && nat_eq k (now c.end)) && has n seen k)
  ends_now k l = ap (λ b. ((c.end || due) && b) && has n seen k) (at_now k l)

  first_has : has n seen 0 ≡ (c.valid || kept seen 0)
  first_has = by (kept seen 0) c.valid (any_to n (found seen)) not_found
    where
      by : (b v y : Bool) → (b ≡ false → y ≡ false) → (b || ((v && not y) && not b)) ≡ (v || b)
      by true v y h = sym (or-true v)
      by false true y h = ap (λ z. not z && true) (h refl)
      by false false y h = refl

  due_has : due ≡ true → (k : ℕ) → k < n → has n seen k ≡ nat_lt k (a.many t)
  due_has d k l =
      let quiet = calm d in
      ap (λ b. kept seen k || b) (no_takes k (else_false c.valid (λ v. not_both (c.valid || c.end) (or_left c.valid c.end v) quiet.1))) ∙ or_none (kept seen k)
      ∙ ap (λ b. p.used k && not (p.flush && b)) quiet.1 ∙ ap (λ b. p.used k && not b) (and-false p.flush) ∙ and-true (p.used k)
      ∙ ap (λ w. w.used k) (sym same) ∙ f.many k t l

  due_ends : (due && nat_lt turn (a.many t)) ≡ ((due && nat_lt turn n) && has n seen turn)
  due_ends = same_when (due && nat_lt turn (a.many t)) ((due && nat_lt turn n) && has n seen turn) there here
    where
      there : (due && nat_lt turn (a.many t)) ≡ true → ((due && nat_lt turn n) && has n seen turn) ≡ true
      there h =
          let parts = and_parts due (nat_lt turn (a.many t)) h in
          let l : turn < n = (let q = ltb-true turn (a.many t) parts.1 in omega (arith, q, f.few t)) in
          and_both (due && nat_lt turn n) (has n seen turn) (and_both due (nat_lt turn n) parts.0 (lt-ltb turn n l)) (due_has parts.0 turn l ∙ parts.1)

      here : ((due && nat_lt turn n) && has n seen turn) ≡ true → (due && nat_lt turn (a.many t)) ≡ true
      here h =
          let parts = and_parts (due && nat_lt turn n) (has n seen turn) h in
          let place = and_parts due (nat_lt turn n) parts.0 in
          and_both due (nat_lt turn (a.many t)) place.0 (sym (due_has place.0 turn (ltb-true turn n place.1)) ∙ parts.1)

  pub end_is : end_told n c p a t ≡ any_to n (λ k. end_of n c p k)
  end_is =
      by c.end (λ e. no_due (or_right c.valid c.end e)) ∙ sym (any_at n (c.end || due) (now c.end) (has n seen))
      ∙ any_same n (λ k. ((c.end || due) && nat_eq k (now c.end)) && has n seen k) (λ k. end_of n c p k) (λ k l. sym (ends_now k l))
    where
      by : (e : Bool) → (e ≡ true → due ≡ false) → ((due && nat_lt turn (a.many t)) || (e && (c.valid || kept (sought_in a t) 0))) ≡ (((e || due) && nat_lt (now e) n) && has n seen (now e))
      by true off =
          ap (λ b. (b && nat_lt turn (a.many t)) || (c.valid || kept (sought_in a t) 0)) (off refl) ∙ ap (λ w. c.valid || kept w 0) same
          ∙ sym first_has ∙ ap (λ b. b && has n seen 0) (sym (lt-ltb 0 n some))
      by false off = or_none (due && nat_lt turn (a.many t)) ∙ due_ends

  -- ---- its number

  pub slot_is : (k : ℕ) → k < n → (valid_of n c p k || end_of n c p k) ≡ true → slot_told n c p a t ≡ k
  slot_is k l h = by_cases (end_of n c p k) ends rest
    where
      at : (b : Bool) → b ≡ true → (if b then now c.end else a.number t) ≡ now c.end
      at true e = refl
      at false e = absurd (cc)

      ends : end_of n c p k ≡ true → slot_told n c p a t ≡ k
      ends e =
          let parts = and_parts (c.end || due) (nat_eq k (now c.end)) (and_left ((c.end || due) && nat_eq k (now c.end)) (has n seen k) (sym (ends_now k l) ∙ e)) in
          at (c.end || due) parts.0 ∙ sym (eqb-true k (now c.end) parts.1)

      plain : (e v : Bool) → (v && not e) ≡ true → (v ≡ true) × (e ≡ false)
      plain e v h = (and_left v (not e) h, not_true e (and_right v (not e) h))

      alone : (b : Bool) → b ≡ false → (if b then now c.end else a.number t) ≡ a.number t
      alone true e = absurd (cc)
      alone false e = refl

      row : matches n seen k ≡ true → (c.valid && not c.end) ≡ true → slot_told n c p a t ≡ k
      row q v =
          let parts = plain c.end c.valid v in
          let none : (c.end || due) ≡ false = ap (λ b. b || due) parts.1 ∙ no_due (or_left c.valid c.end parts.0) in
          alone (c.end || due) none ∙ f.number k t l (ap (λ w. matches n w k) same ∙ q)

      rest : end_of n c p k ≡ false → slot_told n c p a t ≡ k
      rest e =
          let v : valid_of n c p k ≡ true = elim (or_cases (valid_of n c p k) (end_of n c p k) h) [ inl q ↦ q | inr q ↦ absurd (not_both (end_of n c p k) q e) ] in
          let parts = and_parts (matches n seen k) ((end_of n c p k && tail_of c p) || (c.valid && not c.end)) v in
          row parts.0 (elim (or_cases (end_of n c p k && tail_of c p) (c.valid && not c.end) parts.1) [
            | inl q ↦ absurd (not_both (end_of n c p k) (and_left (end_of n c p k) (tail_of c p) q) e)
            | inr q ↦ q
          ])

  -- ---- whether one takes a row

  abbrev told : Bool → Bool → Bool → Bool
  told e v d =
      (((v && not e) && not (passes_in n a t)) || ((e && v) && not (kept (sought_in a t) 0 && not (head_in a t))))
      || ((d && p.held) && (a.had t && nat_eq (a.home t) turn))

  told_at : (e v d : Bool) → c.end ≡ e → c.valid ≡ v → due ≡ d → row_told n c p a t ≡ told e v d
  told_at e v d x y z = ap (λ b. told b c.valid due) x ∙ ap (λ b. told e b due) y ∙ ap (told e v) z

  -- but for a row that comes alone, it is the slot whose turn it is that takes one
  turned : (c.valid && not c.end) ≡ false → any_to n (λ k. valid_of n c p k) ≡ (((c.end || due) && nat_lt (now c.end) n) && (matches n seen (now c.end) && tail_of c p))
  turned off =
      any_same n (λ k. valid_of n c p k) (λ k. ((c.end || due) && nat_eq k (now c.end)) && (matches n seen k && tail_of c p)) each
      ∙ any_at n (c.end || due) (now c.end) (λ k. matches n seen k && tail_of c p)
    where
      order : (q x h w b : Bool) → (q ≡ true → h ≡ true) → b ≡ false → (q && (((x && h) && w) || b)) ≡ (x && (q && w))
      order q x h w true some e = absurd (cc)
      order false x h w false some e = sym (and-false x)
      order true x false w false some e = absurd (not_both false (some refl) refl)
      order true true true w false some e = or_none w
      order true false true w false some e = refl

      holds : (k : ℕ) → matches n seen k ≡ true → has n seen k ≡ true
      holds k e = elim (or_cases (found seen k) (takes n seen k) e) [
        | inl q ↦ or_left (kept seen k) (takes n seen k) (and_left (kept seen k) (nat_eq seen.value (seen.key k)) q)
        | inr q ↦ or_right (kept seen k) (takes n seen k) q
      ]

      each : (k : ℕ) → k < n → valid_of n c p k ≡ (((c.end || due) && nat_eq k (now c.end)) && (matches n seen k && tail_of c p))
      each k l =
          ap (λ b. matches n seen k && ((b && tail_of c p) || (c.valid && not c.end))) (ends_now k l)
          ∙ order (matches n seen k) ((c.end || due) && nat_eq k (now c.end)) (has n seen k) (tail_of c p) (c.valid && not c.end) (holds k) off

  abbrev turning : Bool → Bool → Bool → Bool
  turning e d w = ((e || d) && nat_lt (now e) n) && (matches n seen (now e) && w)

  turned_at : (e v d w : Bool) → c.end ≡ e → c.valid ≡ v → due ≡ d → tail_of c p ≡ w → (v && not e) ≡ false → any_to n (λ k. valid_of n c p k) ≡ turning e d w
  turned_at e v d w x y z i off =
      turned (ap (λ b. b && not c.end) y ∙ ap (λ b. v && not b) x ∙ off)
      ∙ ap (λ b. turning b due (tail_of c p)) x ∙ ap (λ b. turning e b (tail_of c p)) z ∙ ap (turning e d) i

  tail_at : (e v : Bool) → c.end ≡ e → c.valid ≡ v → tail_of c p ≡ ((e && v) || ((p.flush && not (v || e)) && p.held))
  tail_at e v x y =
      ap (λ b. (b && c.valid) || ((p.flush && not (c.valid || b)) && p.held)) x ∙ ap (λ b. (e && b) || ((p.flush && not (b || e)) && p.held)) y

  -- a row that comes alone
  plain_row : c.end ≡ false → c.valid ≡ true → row_told n c p a t ≡ any_to n (λ k. valid_of n c p k)
  plain_row e v =
      told_at false true false e v (no_due (or_left c.valid c.end v)) ∙ or_none (not (passes_in n a t) || false) ∙ or_none (not (passes_in n a t))
      ∙ ap not passes_is ∙ sym (matched v) ∙ any_same n (matches n seen) (λ k. valid_of n c p k) each
    where
      each : (k : ℕ) → k < n → matches n seen k ≡ valid_of n c p k
      each k l =
          sym (ap (λ b. matches n seen k && ((end_of n c p k && tail_of c p) || b)) (ap (λ b. b && not c.end) v ∙ ap not e)
          ∙ ap (λ b. matches n seen k && b) (or-true (end_of n c p k && tail_of c p)) ∙ and-true (matches n seen k))

  -- one with the end
  first_matches : c.valid ≡ true → not (kept seen 0 && not (head_in a t)) ≡ matches n seen 0
  first_matches v = by_cases (kept seen 0) full empty
    where
      full : kept seen 0 ≡ true → not (kept seen 0 && not (head_in a t)) ≡ matches n seen 0
      full h =
          let head : head_in a t ≡ found seen 0 = f.head t some (ap (λ w. kept w 0) same ∙ h) ∙ ap (λ w. found w 0) same in
          ap (λ b. not (b && not (head_in a t))) h ∙ ap (λ b. not (not b)) head ∙ twice (found seen 0) ∙ sym (or_none (found seen 0))
          ∙ ap (λ b. found seen 0 || b) (sym (and-false (is_new n seen))) ∙ ap (λ b. found seen 0 || (is_new n seen && not b)) (sym h)
        where
          twice : (b : Bool) → not (not b) ≡ b
          twice true = refl
          twice false = refl

      empty : kept seen 0 ≡ false → not (kept seen 0 && not (head_in a t)) ≡ matches n seen 0
      empty h =
          ap (λ b. not (b && not (head_in a t))) h
          ∙ sym (or_right (found seen 0) (takes n seen 0) (and_both (is_new n seen) (not (kept seen 0))
          (and_both c.valid (not (any_to n (found seen))) v (not_false (any_to n (found seen)) (not_found h))) (not_false (kept seen 0) h)))

  end_row : c.end ≡ true → c.valid ≡ true → row_told n c p a t ≡ any_to n (λ k. valid_of n c p k)
  end_row e v =
      told_at true true false e v (no_due (or_left c.valid c.end v)) ∙ or_none (not (kept (sought_in a t) 0 && not (head_in a t)))
      ∙ ap (λ w. not (kept w 0 && not (head_in a t))) same ∙ first_matches v ∙ sym (and-true (matches n seen 0))
      ∙ ap (λ b. b && (matches n seen 0 && true)) (sym (lt-ltb 0 n some))
      ∙ sym (turned_at true true false true e v (no_due (or_left c.valid c.end v)) (tail_at true true e v) refl)

  -- the end alone
  end_alone : c.end ≡ true → c.valid ≡ false → row_told n c p a t ≡ any_to n (λ k. valid_of n c p k)
  end_alone e v =
      let d = no_due (or_right c.valid c.end e) in
      told_at true false false e v d ∙ sym (and-false (nat_lt 0 n)) ∙ ap (λ b. nat_lt 0 n && b) (sym (and-false (matches n seen 0)))
      ∙ sym (turned_at true false false false e v d (tail_at true false e v ∙ ap (λ b. b && p.held) (and-false p.flush)) refl)

  module _ (within : a.had t ≡ true → a.home t < n) where
    -- in a turn of the flush the one that came with the end
    turn_row : c.end ≡ false → c.valid ≡ false → row_told n c p a t ≡ any_to n (λ k. valid_of n c p k)
    turn_row e v =
        told_at false false due e v refl ∙ by due refl
        ∙ sym (turned_at false false due (p.flush && p.held) e v refl (tail_at false false e v ∙ ap (λ b. b && p.held) (and-true p.flush)) refl)
      where
        free : a.free t ≡ false
        free = ap (λ w. w.free) same ∙ ap (λ b. p.flush && (b || c.end)) v ∙ ap (λ b. p.flush && b) e ∙ and-false p.flush

        place : turn < n → (a.had t && nat_eq (a.home t) turn) ≡ matches n seen turn
        place l =
            f.home turn t l (ap (λ w. w.ask) same ∙ v) free ∙ ap (λ w. found w turn) same
            ∙ sym (ap (λ b. found seen turn || b) (no_takes turn v) ∙ or_none (found seen turn))

        -- after the last turn no slot is meant
        over : (turn < n → ⊥) → (a.had t && nat_eq (a.home t) turn) ≡ false
        over far = else_false (a.had t && nat_eq (a.home t) turn) (λ h.
            let parts = and_parts (a.had t) (nat_eq (a.home t) turn) h in
            far (subst (λ i. i < n) (eqb-true (a.home t) turn parts.1) (within parts.0)))

        by : (d : Bool) → due ≡ d → ((d && p.held) && (a.had t && nat_eq (a.home t) turn)) ≡ ((d && nat_lt turn n) && (matches n seen turn && (p.flush && p.held)))
        by false q = refl
        by true q = by_cases (nat_lt turn n)
            (λ h. both_first p.held (a.had t && nat_eq (a.home t) turn) ∙ ap (λ b. b && p.held) (place (ltb-true turn n h))
            ∙ ap (λ b. matches n seen turn && (b && p.held)) (sym (calm q).0) ∙ ap (λ b. b && (matches n seen turn && (p.flush && p.held))) (sym h))
            (λ h. ap (λ b. p.held && b) (over (λ l. not_both (nat_lt turn n) (lt-ltb turn n l) h)) ∙ and-false p.held
            ∙ ap (λ b. b && (matches n seen turn && (p.flush && p.held))) (sym h))

    pub row_is : row_told n c p a t ≡ any_to n (λ k. valid_of n c p k)
    row_is = by_cases c.end (λ e. by_cases c.valid (end_row e) (end_alone e)) (λ e. by_cases c.valid (plain_row e) (turn_row e))
