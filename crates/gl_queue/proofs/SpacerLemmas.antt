-- A spacer: what leaves, and that it leaves apart, in time and in order.
use Rattle.std.proofs.Common.{◌≡◌, ℕ, zero, suc, ◌+◌, ◌-◌, ◌*◌, ◌<◌, ◌≤◌, List, [], ◌∷◌, ◌++◌, length, Option, Some, None, Bool, true, false, refl, sym, ap, ◌∙◌, subst, arith, inl, inr, ◌⊎◌, length-append}
use Rattle.std.specs.Prelude.{option_to_list, is_some, ◌&&◌, if◌then◌else◌, nat_eq}
use Rattle.std.proofs.lemmas.Bool.{cases_lt, cases_order, eqb-true, eq-eqb}
use Rattle.std.proofs.lemmas.List.{append-nil}
use Rattle.gl_wire.specs.Wire.{Carried, pending, rows}
use Rattle.gl_queue.specs.Queue.{oldest, behind}
use Rattle.gl_wire.specs.Apart.{carries}
use Rattle.gl_queue.proofs.TagLemmas.{tag, cycles, cycles-push, First, first, pending-quiet, rows_at, rows_at-append, rows_at-tag}

-- a spacer in one cycle: the entry whose turn it is leaves, named by the cycle in which it came
abbrev pub leaving_tag : Bool → List ℕ → Option ℕ
leaving_tag go vs = if go then oldest vs else None

pub record Spaces (g : ℕ) (timer : ℕ → ℕ) (a o : Carried) (vs : ℕ → List ℕ) (c : ℕ) : Type 0 where
  pub next : vs (suc c) ≡ (if nat_eq (timer c) 0 then behind (vs c) else vs c) ++ option_to_list (tag a c)
  pub count : timer (suc c) ≡ (if nat_eq (timer c) 0 && is_some (oldest (vs c)) then g - 1 else timer c - 1)
  pub none : leaving_tag (nat_eq (timer c) 0) (vs c) ≡ None → (o.tuple c ≡ None) × (o.ends c ≡ false)
  pub some : (v : ℕ) → leaving_tag (nat_eq (timer c) 0) (vs c) ≡ Some v → (o.tuple c ≡ a.tuple v) × (o.ends c ≡ a.ends v)

-- how an entry leaves
pub record Leaves (timer : ℕ → ℕ) (vs : ℕ → List ℕ) (c v : ℕ) : Type 0 where
  pub rest : List ℕ
  pub now : timer c ≡ 0
  pub is : vs c ≡ v ∷ rest

leaves_of : (timer : ℕ → ℕ) (vs : ℕ → List ℕ) (c v : ℕ) → leaving_tag (nat_eq (timer c) 0) (vs c) ≡ Some v → Leaves timer vs c v
leaves_of timer vs c v h = by (nat_eq (timer c) 0) refl (vs c) refl
  where
    by : (b : Bool) → nat_eq (timer c) 0 ≡ b → (xs : List ℕ) → vs c ≡ xs → Leaves timer vs c v
    by true p [] q = absurd (let z : None ≡ Some v = rw (p, q) at h in cc z)
    by true p (x ∷ xs) q = let z : Some x ≡ Some v = rw (p, q) at h in let e : x ≡ v = cc z in record { rest = xs; now = eqb-true (timer c) 0 p; is = q ∙ ap (λ y. y ∷ xs) e }
    by false p xs q = absurd (let z : None ≡ Some v = rw p at h in cc z)

pub leaves_tag : (timer : ℕ → ℕ) (vs : ℕ → List ℕ) (c v : ℕ) → Leaves timer vs c v → leaving_tag (nat_eq (timer c) 0) (vs c) ≡ Some v
leaves_tag timer vs c v l = let p = eq-eqb (timer c) 0 l.now in let q = l.is in rw (p, q) refl

module _ (g : ℕ) (one : 1 ≤ g) (timer : ℕ → ℕ) (a o : Carried) (vs : ℕ → List ℕ) where
  -- what is left to do, in cycles: one is done in each
  abbrev pub work : ℕ → ℕ
  work c = timer c + g * length (vs c)

  pub work_next : (c : ℕ) → Spaces g timer a o vs c → work (suc c) ≡ (work c - 1) + g * length (option_to_list (tag a c))
  work_next c s = by (nat_eq (timer c) 0) refl (vs c) refl
    where
      by : (b : Bool) → nat_eq (timer c) 0 ≡ b → (xs : List ℕ) → vs c ≡ xs → timer (suc c) + g * length (vs (suc c)) ≡ (timer c + g * length (vs c) - 1) + g * length (option_to_list (tag a c))
      by true p [] q =
          let z : timer c ≡ 0 = eqb-true (timer c) 0 p in
          let t : timer (suc c) ≡ timer c - 1 = s.count ∙ rw (p, q) refl in
          let n : vs (suc c) ≡ option_to_list (tag a c) = s.next ∙ rw (p, q) refl in
          rw (t, n, q, z) (omega arith)
      by true p (x ∷ xs) q =
          let z : timer c ≡ 0 = eqb-true (timer c) 0 p in
          let t : timer (suc c) ≡ g - 1 = s.count ∙ rw (p, q) refl in
          let n : length (vs (suc c)) ≡ length xs + length (option_to_list (tag a c)) = ap length (s.next ∙ rw (p, q) refl) ∙ length-append xs (option_to_list (tag a c)) in
          rw (t, n, q, z) (omega (arith, one))
      by false p xs q =
          let z : timer c ≡ 0 → ⊥ = λ e. let y = eq-eqb (timer c) 0 e in cc (y, p) in
          let t : timer (suc c) ≡ timer c - 1 = s.count ∙ rw p refl in
          let n : length (vs (suc c)) ≡ length (vs c) + length (option_to_list (tag a c)) = ap length (s.next ∙ rw p refl) ∙ length-append (vs c) (option_to_list (tag a c)) in
          rw (t, n) (omega (arith, z))

  -- from one leaving to the next
  timer_falls : (c : ℕ) → Spaces g timer a o vs c → timer c ≤ timer (suc c) + 1
  timer_falls c s = by (nat_eq (timer c) 0) refl
    where
      by : (b : Bool) → nat_eq (timer c) 0 ≡ b → timer c ≤ timer (suc c) + 1
      by true p = omega (arith, eqb-true (timer c) 0 p)
      by false p = let t : timer (suc c) ≡ timer c - 1 = s.count ∙ rw p refl in omega (arith, t)

  timer_set : (c v : ℕ) → Spaces g timer a o vs c → Leaves timer vs c v → timer (suc c) ≡ g - 1
  timer_set c v s l = let p = eq-eqb (timer c) 0 l.now in let q = l.is in s.count ∙ rw (p, q) refl

  module _ (spaces : (c : ℕ) → Spaces g timer a o vs c) (start : vs 0 ≡ []) where
    timer_later : (n c : ℕ) → timer c ≤ timer (c + n) + n
    timer_later zero c = let e : c + zero ≡ c = omega arith in let x = ap timer e in omega (arith, x)
    timer_later (suc n) c = let e : c + suc n ≡ suc c + n = omega arith in let x = ap timer e in omega (arith, x, timer_later n (suc c), timer_falls c (spaces c))

    pub leave_apart : (c d v w : ℕ) → Leaves timer vs c v → Leaves timer vs d w → c < d → c + g ≤ d
    leave_apart c d v w p q l =
        let set = timer_set c v (spaces c) p in
        let e : suc c + (d - suc c) ≡ d = omega (arith, l) in
        let now = q.now in
        let x = ap timer e in
        omega (arith, timer_later (d - suc c) (suc c), set, x, now)

    -- in each cycle an entry leaves, or nothing
    pub leaves_or_not : (c : ℕ) → ((v : ℕ) × Leaves timer vs c v) ⊎ ((o.tuple c ≡ None) × (o.ends c ≡ false) × (leaving_tag (nat_eq (timer c) 0) (vs c) ≡ None))
    leaves_or_not c = by (leaving_tag (nat_eq (timer c) 0) (vs c)) refl
      where
        by : (p : Option ℕ) → leaving_tag (nat_eq (timer c) 0) (vs c) ≡ p → ((v : ℕ) × Leaves timer vs c v) ⊎ ((o.tuple c ≡ None) × (o.ends c ≡ false) × (leaving_tag (nat_eq (timer c) 0) (vs c) ≡ None))
        by None q = let s = spaces c in let z = s.none q in inr (z.0, z.1, q)
        by (Some v) q = inl (v, leaves_of timer vs c v q)

    pub carried_leaves : (c : ℕ) → carries o c ≡ true → (v : ℕ) × Leaves timer vs c v
    carried_leaves c h = by (leaves_or_not c)
      where
        by : ((v : ℕ) × Leaves timer vs c v) ⊎ ((o.tuple c ≡ None) × (o.ends c ≡ false) × (leaving_tag (nat_eq (timer c) 0) (vs c) ≡ None)) → (v : ℕ) × Leaves timer vs c v
        by (inl l) = l
        by (inr n) = absurd (let z : false ≡ true = rw (n.0, n.1) at h in cc z)

    -- all before the front has left
    abbrev behind_front : List ℕ → ℕ → ℕ
    behind_front [] f = f
    behind_front (v ∷ vs) f = suc v

    abbrev pub front : ℕ → ℕ
    front zero = 0
    front (suc c) = if nat_eq (timer c) 0 then behind_front (vs c) (front c) else front c

    pub record Flow (c : ℕ) : Type 0 where
      pub below : front c ≤ c
      pub tags : vs c ≡ cycles a (front c) (c - front c)
      pub same : pending o c ≡ pending a (front c)
      pub left : (v : ℕ) → v < front c → carries a v ≡ true → (x : ℕ) × (v < x) × (x < c) × Leaves timer vs x v

    front_kept : (c : ℕ) → leaving_tag (nat_eq (timer c) 0) (vs c) ≡ None → front (suc c) ≡ front c
    front_kept c h = by (nat_eq (timer c) 0) (vs c) h
      where
        by : (b : Bool) (xs : List ℕ) → leaving_tag b xs ≡ None → (if b then behind_front xs (front c) else front c) ≡ front c
        by true [] q = refl
        by true (x ∷ xs) q = absurd (cc q)
        by false xs q = refl

    list_kept : (c : ℕ) → leaving_tag (nat_eq (timer c) 0) (vs c) ≡ None → vs (suc c) ≡ vs c ++ option_to_list (tag a c)
    list_kept c h = let s = spaces c in s.next ∙ ap (λ l. l ++ option_to_list (tag a c)) (by (nat_eq (timer c) 0) (vs c) h)
      where
        by : (b : Bool) (xs : List ℕ) → leaving_tag b xs ≡ None → (if b then behind xs else xs) ≡ xs
        by true [] q = refl
        by true (x ∷ xs) q = absurd (cc q)
        by false xs q = refl

    front_moved : (c v : ℕ) → Leaves timer vs c v → front (suc c) ≡ suc v
    front_moved c v l = let p = eq-eqb (timer c) 0 l.now in let q = l.is in rw (p, q) refl

    list_moved : (c v : ℕ) (l : Leaves timer vs c v) → vs (suc c) ≡ l.rest ++ option_to_list (tag a c)
    list_moved c v l = let s = spaces c in let p = eq-eqb (timer c) 0 l.now in let q = l.is in s.next ∙ rw (p, q) refl

    pub first_at : (c v : ℕ) → Flow c → (l : Leaves timer vs c v) → First a (front c) (c - front c) v l.rest
    first_at c v f l = let t = f.tags in first a (c - front c) (front c) v l.rest (sym t ∙ l.is)

    pub pending_at : (c v : ℕ) → Flow c → Leaves timer vs c v → pending o c ≡ pending a v
    pending_at c v f l =
        let t = first_at c v f l in
        let low = t.from in
        let e : front c + (v - front c) ≡ v = omega (arith, low) in
        let q = pending-quiet a (v - front c) (front c) (λ x m n. t.none x m (omega (arith, n, e))) in
        f.same ∙ sym q ∙ ap (pending a) e

    flow_next : (c : ℕ) → Flow c → Flow (suc c)
    flow_next c f = by (leaves_or_not c)
      where
        below : front c ≤ c
        below = f.below

        by : ((v : ℕ) × Leaves timer vs c v) ⊎ ((o.tuple c ≡ None) × (o.ends c ≡ false) × (leaving_tag (nat_eq (timer c) 0) (vs c) ≡ None)) → Flow (suc c)
        by (inr n) =
            let k = front_kept c n.2 in
            let m : suc c - front c ≡ suc (c - front c) = omega (arith, below) in
            let at : front c + (c - front c) ≡ c = omega (arith, below) in
            record {
              below = omega (arith, k, below);
              tags = list_kept c n.2 ∙ ap (λ l. l ++ option_to_list (tag a c)) f.tags ∙ ap (λ i. cycles a (front c) (c - front c) ++ option_to_list (tag a i)) (sym at) ∙ sym (cycles-push a (c - front c) (front c)) ∙ ap (cycles a (front c)) (sym m) ∙ ap (λ i. cycles a i (suc c - i)) (sym k);
              same = rw (n.1, n.0) (append-nil (pending o c) ∙ f.same ∙ ap (pending a) (sym k));
              left = λ v l e. let z = f.left v (omega (arith, l, k)) e in (z.0, z.1, (let w = z.2 in omega (arith, w)), z.3);
            }
        by (inl (v, l)) =
            let t = first_at c v f l in
            let low = t.from in
            let high = t.to in
            let k = front_moved c v l in
            let shown = (spaces c).some v (leaves_tag timer vs c v l) in
            let m : front c + (c - front c) - suc v ≡ c - suc v = omega (arith, below) in
            let n : suc c - suc v ≡ suc (c - suc v) = omega (arith, high, below) in
            let at : suc v + (c - suc v) ≡ c = omega (arith, high, below) in
            record {
              below = omega (arith, k, high, below);
              tags = list_moved c v l ∙ ap (λ q. q ++ option_to_list (tag a c)) (t.behind_it ∙ ap (cycles a (suc v)) m) ∙ ap (λ i. cycles a (suc v) (c - suc v) ++ option_to_list (tag a i)) (sym at) ∙ sym (cycles-push a (c - suc v) (suc v)) ∙ ap (cycles a (suc v)) (sym n) ∙ ap (λ i. cycles a i (suc c - i)) (sym k);
              same = rw (shown.1, shown.0, pending_at c v f l) (ap (pending a) (sym k));
              left = λ w i e. elim (cases_order w v) [
                | inl q ↦ (c, omega (arith, q, high, below), omega arith, subst (λ x. Leaves timer vs c x) (sym q) l)
                | inr (inl q) ↦ elim (cases_lt w (front c)) [
                  | inl r ↦ (let z = f.left w r e in (z.0, z.1, (let y = z.2 in omega (arith, y)), z.3))
                  | inr r ↦ absurd (let z = t.none w r q in cc (z, e))
                ]
                | inr (inr q) ↦ absurd (omega (arith, i, k, q))
              ];
            }

    pub flow : (c : ℕ) → Flow c
    flow zero = record { below = omega arith; tags = start; same = refl; left = λ v l e. absurd (omega (arith, l)) }
    flow (suc c) = flow_next c (flow c)

    pub front_more : (c : ℕ) → front c ≤ front (suc c)
    front_more c = by (leaves_or_not c)
      where
        by : ((v : ℕ) × Leaves timer vs c v) ⊎ ((o.tuple c ≡ None) × (o.ends c ≡ false) × (leaving_tag (nat_eq (timer c) 0) (vs c) ≡ None)) → front c ≤ front (suc c)
        by (inr n) = omega (arith, front_kept c n.2)
        by (inl (v, l)) = let low = (first_at c v (flow c) l).from in omega (arith, low, front_moved c v l)

    front_later : (n c : ℕ) → front c ≤ front (c + n)
    front_later zero c = let e : c + zero ≡ c = omega arith in let x : front (c + zero) ≡ front c = ap front e in omega (arith, x)
    front_later (suc n) c = let e : c + suc n ≡ suc c + n = omega arith in let x : front (c + suc n) ≡ front (suc c + n) = ap front e in omega (arith, x, front_later n (suc c), front_more c)

    -- entries leave in their order
    pub in_order : (c d v w : ℕ) → Leaves timer vs c v → Leaves timer vs d w → c < d → v < w
    in_order c d v w p q l =
        let e : suc c + (d - suc c) ≡ d = omega (arith, l) in
        let x : front (suc c + (d - suc c)) ≡ front d = ap front e in
        let low = (first_at d w (flow d) q).from in
        omega (arith, x, front_later (d - suc c) (suc c), front_moved c v p, low)

    -- what left and what is held is what came
    pub kept_rows : (n c : ℕ) → length (rows o c n) + length (rows_at a (vs (c + n))) ≡ length (rows_at a (vs c)) + length (rows a c n)
    kept_rows zero c = let e : c + zero ≡ c = omega arith in let x : length (rows_at a (vs (c + zero))) ≡ length (rows_at a (vs c)) = ap (λ i. length (rows_at a (vs i))) e in omega (arith, x)
    kept_rows (suc n) c =
        let e : c + suc n ≡ suc c + n = omega arith in
        let x : length (rows_at a (vs (c + suc n))) ≡ length (rows_at a (vs (suc c + n))) = ap (λ i. length (rows_at a (vs i))) e in
        let y = length-append (option_to_list (o.tuple c)) (rows o (suc c) n) in
        let z = length-append (option_to_list (a.tuple c)) (rows a (suc c) n) in
        omega (arith, x, y, z, kept_rows n (suc c), step (leaves_or_not c))
      where
        step : ((v : ℕ) × Leaves timer vs c v) ⊎ ((o.tuple c ≡ None) × (o.ends c ≡ false) × (leaving_tag (nat_eq (timer c) 0) (vs c) ≡ None)) → length (option_to_list (o.tuple c)) + length (rows_at a (vs (suc c))) ≡ length (rows_at a (vs c)) + length (option_to_list (a.tuple c))
        step (inr n) =
            let p : length (rows_at a (vs (suc c))) ≡ length (rows_at a (vs c)) + length (option_to_list (a.tuple c)) = ap (λ l. length (rows_at a l)) (list_kept c n.2) ∙ ap length (rows_at-append a (vs c) (option_to_list (tag a c)) ∙ ap (λ l. rows_at a (vs c) ++ l) (rows_at-tag a c)) ∙ length-append (rows_at a (vs c)) (option_to_list (a.tuple c)) in
            let q : length (option_to_list (o.tuple c)) ≡ 0 = ap (λ i. length (option_to_list i)) n.0 in
            omega (arith, p, q)
        step (inl (v, l)) =
            let p : length (rows_at a (vs (suc c))) ≡ length (rows_at a l.rest) + length (option_to_list (a.tuple c)) = ap (λ q. length (rows_at a q)) (list_moved c v l) ∙ ap length (rows_at-append a l.rest (option_to_list (tag a c)) ∙ ap (λ q. rows_at a l.rest ++ q) (rows_at-tag a c)) ∙ length-append (rows_at a l.rest) (option_to_list (a.tuple c)) in
            let q : length (option_to_list (o.tuple c)) ≡ length (option_to_list (a.tuple v)) = ap (λ i. length (option_to_list i)) ((spaces c).some v (leaves_tag timer vs c v l)).0 in
            let r : length (rows_at a (vs c)) ≡ length (option_to_list (a.tuple v)) + length (rows_at a l.rest) = ap (λ i. length (rows_at a i)) l.is ∙ length-append (option_to_list (a.tuple v)) (rows_at a l.rest) in
            omega (arith, p, q, r)
