-- The copies of a slot, in one cycle and from one to the next.
use Rattle.std.proofs.Common.{◌≡◌, ℕ, suc, ◌+◌, ◌-◌, ◌*◌, ◌%◌, ◌<◌, ◌≤◌, List, [], ◌++◌, length, drop, Option, None, Bool, true, false, not, ◌&&◌, ◌||◌, refl, sym, ap, ◌∙◌, subst, arith, inl, inr}
use Rattle.std.specs.Prelude.{option_to_list, nat_eq}
use Rattle.std.proofs.lemmas.Bool.{cases_lt, eq-eqb, ne_eqb, and_from, and_left, and_right, or_left, or_right, or_from}
use Rattle.std.proofs.lemmas.List.{drop_all, drop-append-le, append-nil}
use Rattle.std.proofs.Math.Nat.{add-mod_right}
use Rattle.std.proofs.lemmas.Nat.{mod_below}
use Rattle.gl_values.specs.Results.{Row}
use Rattle.gl_wire.specs.Wire.{Carried, pending, stream}
use Rattle.gl_windows.proofs.SliceLemmas.{mod_apart}
use Rattle.gl_partition.specs.Machine.{Windows, opening, one_opened, closing, taken, closed_by, copy_of, comes, kept, due, windows_at}
use Rattle.gl_partition.proofs.Setting.{Setting}

module _ (front : Setting) (i : ℕ) (there : i < front.n.slots) where
  open front use {n, a, ins}

  abbrev size : ℕ
  size = front.n.size

  abbrev advance : ℕ
  advance = front.n.advance

  abbrev pub copies : ℕ
  copies = front.n.copies

  -- the wire of the copy that takes a window
  abbrev pub wire : ℕ → Carried
  wire w = ins (copy_of n i (w % copies))

  -- one cycle of the slot, where it stands at s and this comes
  pub record Step (c : ℕ) (e d : Bool) (o held : Option Row) (s : Windows) : Type 0 where
    pub tuples : (w : ℕ) → (wire w).tuple (suc c) ≡ taken copies e d o held (opening advance copies o s) (w % copies)
    pub ends : (w : ℕ) → (wire w).ends (suc c) ≡ (closing copies d o (opening advance copies o s) && nat_eq (w % copies) ((opening advance copies o s).closed % copies))

  pub within : (w : ℕ) → w % copies < copies
  within w = mod_below w copies front.copies_some

  pub step_at : (c : ℕ) → Step c (a.ends c) (due n a i c) (comes n a i c) (kept n a i c) (windows_at n a i c)
  step_at c = record { tuples = λ w. front.law.tuples i (w % copies) c there (within w); ends = λ w. front.law.ends i (w % copies) c there (within w) }

  -- the copies of windows that are open have what came since their first tuple, the others nothing
  pub record Copies (c : ℕ) (s : Windows) (base : ℕ) (xs : List Row) : Type 0 where
    pub on : (w : ℕ) → s.closed ≤ w → w < s.opened → (s.is_open (w % copies) ≡ true) × (pending (wire w) (suc c) ≡ drop ((w - base) * advance) xs)
    pub off : (w : ℕ) → s.opened ≤ w → w < s.closed + copies → (s.is_open (w % copies) ≡ false) × (pending (wire w) (suc c) ≡ [])

  pub copies_opened : (c : ℕ) (s : Windows) (base : ℕ) (xs : List Row) → Copies c s base xs → s.closed ≤ s.opened → s.opened < s.closed + copies → length xs ≤ (s.opened - base) * advance → Copies c (one_opened advance copies s) base xs
  copies_opened c s base xs h low room full = record {
    on = λ w l m. elim (cases_lt w s.opened) [
      | inl p ↦ (let x = h.on w l p in (or_left (s.is_open (w % copies)) _ x.0, x.1))
      | inr p ↦ (let e : s.opened ≡ w = omega (arith, m, p) in
          let x = h.off s.opened (omega arith) room in
          subst (λ v. ((s.is_open (v % copies) || nat_eq (v % copies) (s.opened % copies)) ≡ true) × (pending (wire v) (suc c) ≡ drop ((v - base) * advance) xs)) e
          (or_right (s.is_open (s.opened % copies)) _ (eq-eqb _ _ refl), x.1 ∙ sym (drop_all _ xs full)))
    ];
    off = λ w l m. let x = h.off w (omega (arith, l)) m in
        (or_from _ _ x.0 (ne_eqb _ _ (λ e. mod_apart copies s.opened w (omega (arith, l)) (omega (arith, m, low)) (sym e))), x.1);
  }

  -- one cycle later: q is what each open copy took, but for the one that ended
  module _ (c : ℕ) (e d : Bool) (o held q : Option Row) (s : Windows) (step : Step c e d o held s) (base : ℕ) (xs : List Row) (h : Copies c (opening advance copies o s) base xs) where
    abbrev t : Windows
    t = opening advance copies o s

    goes_on : (w : ℕ) → (wire w).ends (suc c) ≡ false → pending (wire w) (suc (suc c)) ≡ pending (wire w) (suc c) ++ option_to_list ((wire w).tuple (suc c))
    goes_on w p = rw p refl

    stops : (w : ℕ) → (wire w).ends (suc c) ≡ true → pending (wire w) (suc (suc c)) ≡ []
    stops w p = rw p refl

    pub copies_next : t.closed ≤ t.opened → t.opened ≤ t.closed + copies → (b : Bool) → closing copies d o t ≡ b → (b ≡ true → t.closed < t.opened)
        → ((w : ℕ) → t.closed ≤ w → w < t.opened → (b ≡ true → w ≡ t.closed → ⊥) → (wire w).tuple (suc c) ≡ q)
        → ((w : ℕ) → t.opened ≤ w → w < t.closed + copies → (wire w).tuple (suc c) ≡ None)
        → ((w : ℕ) → w < t.opened → (w - base) * advance ≤ length xs)
        → Copies (suc c) (closed_by copies b t) base (xs ++ option_to_list q)
    copies_next low room false p some given none place = record {
      on = λ w l m. let x = h.on w l m in (
        x.0,
        goes_on w (step.ends w ∙ and_left _ _ p)
            ∙ ap (λ z. pending (wire w) (suc c) ++ option_to_list z) (given w l m (λ y. absurd (cc)))
            ∙ ap (λ z. z ++ option_to_list q) x.1
            ∙ sym (drop-append-le ((w - base) * advance) xs (option_to_list q) (place w m)),
      );
      off = λ w l m. let x = h.off w l m in (
        x.0,
        goes_on w (step.ends w ∙ and_left _ _ p)
            ∙ ap (λ z. pending (wire w) (suc c) ++ option_to_list z) (none w l m)
            ∙ append-nil _ ∙ x.1,
      );
    }
    copies_next low room true p some given none place = record {
      on = λ w l m. let x = h.on w (omega (arith, l)) m in
          let other : nat_eq (w % copies) (t.closed % copies) ≡ false = ne_eqb _ _ (λ y. mod_apart copies t.closed w (omega (arith, l)) (omega (arith, m, room)) (sym y)) in (
            ap (λ z. t.is_open (w % copies) && not z) other ∙ ap (λ z. z && true) x.0,
            goes_on w (step.ends w ∙ and_right _ _ other)
                ∙ ap (λ z. pending (wire w) (suc c) ++ option_to_list z) (given w (omega (arith, l)) m (λ y r. omega (arith, r, l)))
                ∙ ap (λ z. z ++ option_to_list q) x.1
                ∙ sym (drop-append-le ((w - base) * advance) xs (option_to_list q) (place w m)),
          );
      off = λ w l m. elim (cases_lt w (t.closed + copies)) [
        | inl g ↦ (let x = h.off w l g in let y = some refl in
            let other : nat_eq (w % copies) (t.closed % copies) ≡ false = ne_eqb _ _ (λ r. mod_apart copies t.closed w (omega (arith, l, y)) g (sym r)) in (
              and_left _ _ x.0,
              goes_on w (step.ends w ∙ and_right _ _ other)
                  ∙ ap (λ z. pending (wire w) (suc c) ++ option_to_list z) (none w l g)
                  ∙ append-nil _ ∙ x.1,
            ))
        | inr g ↦ (let v : w ≡ t.closed + copies = omega (arith, m, g) in
            let same : w % copies ≡ t.closed % copies = ap (λ z. z % copies) v ∙ add-mod_right t.closed copies in
            let one : nat_eq (w % copies) (t.closed % copies) ≡ true = eq-eqb _ _ same in (
              ap (λ z. t.is_open (w % copies) && not z) one ∙ and_right (t.is_open (w % copies)) false refl,
              stops w (step.ends w ∙ and_from _ _ p one),
            ))
      ];
    }

    -- the stream of the copy that ends
    pub ended_stream : t.closed < t.opened → stream (wire t.closed) (suc c) ≡ drop ((t.closed - base) * advance) xs ++ option_to_list (taken copies e d o held t (t.closed % copies))
    ended_stream l =
        ap (λ z. z ++ option_to_list ((wire t.closed).tuple (suc c))) (h.on t.closed (omega arith) l).1
        ∙ ap (λ z. drop ((t.closed - base) * advance) xs ++ option_to_list z) (step.tuples t.closed)
