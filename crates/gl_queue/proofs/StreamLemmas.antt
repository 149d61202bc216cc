-- What leaves a union is an interleaving of the streams that came.
use Rattle.std.proofs.Common.{◌≡◌, ℕ, zero, suc, ◌<◌, List, [], ◌∷◌, ◌++◌, Some, None, Bool, true, false, refl, sym, ap, ◌∙◌, arith, inl, inr, ◌⊎◌, append_assoc}
use Rattle.std.specs.Prelude.{option_to_list, not, ◌&&◌, ◌||◌, if◌then◌else◌}
use Rattle.std.proofs.lemmas.Bool.{cases_lt, false_from_ne_true}
use Rattle.std.proofs.lemmas.List.{append-nil}
use Rattle.gl_values.specs.Results.{Row}
use Rattle.gl_values.specs.Lists.{IsInterleaving, nothing, from_first, from_second}
use Rattle.gl_wire.specs.Wire.{Carried, pending, stream}
use Rattle.gl_queue.specs.Phases.{Held, Works}
use Rattle.gl_queue.proofs.HeldLemmas.{flag_off, flag_on, flag_kept}
use Rattle.gl_queue.proofs.PhaseLemmas.{leaving}

pub push_first : {A : Type 0} (x : A) (xs ys zs : List A) → IsInterleaving xs ys zs → IsInterleaving (xs ++ (x ∷ [])) ys (zs ++ (x ∷ []))
push_first x _ _ _ nothing = from_first x [] [] [] nothing
push_first x _ _ _ (from_first y xs ys zs i) = from_first y (xs ++ (x ∷ [])) ys (zs ++ (x ∷ [])) (push_first x xs ys zs i)
push_first x _ _ _ (from_second y xs ys zs i) = from_second y (xs ++ (x ∷ [])) ys (zs ++ (x ∷ [])) (push_first x xs ys zs i)

pub push_second : {A : Type 0} (x : A) (xs ys zs : List A) → IsInterleaving xs ys zs → IsInterleaving xs (ys ++ (x ∷ [])) (zs ++ (x ∷ []))
push_second x _ _ _ nothing = from_second x [] [] [] nothing
push_second x _ _ _ (from_first y xs ys zs i) = from_first y xs (ys ++ (x ∷ [])) (zs ++ (x ∷ [])) (push_second x xs ys zs i)
push_second x _ _ _ (from_second y xs ys zs i) = from_second y xs (ys ++ (x ∷ [])) (zs ++ (x ∷ [])) (push_second x xs ys zs i)

-- the tuples since the last cycle of a line, that cycle's own among them
abbrev pub since : Carried → (ℕ → Bool) → ℕ → List Row
since s leaves zero = []
since s leaves (suc c) = (if leaves c then [] else since s leaves c) ++ option_to_list (s.tuple c)

-- what left of each side, and what is held of it
pub record Split (h : Held) (a b o : Carried) (c : ℕ) : Type 0 where
  pub xs : List Row
  pub ys : List Row
  pub mixed : IsInterleaving xs ys (pending o c)
  pub left : xs ++ h.left c ≡ since a o.ends c
  pub right : ys ++ h.right c ≡ since b o.ends c

moved : (x : Row) (xs rest more : List Row) → (xs ++ (x ∷ [])) ++ (rest ++ more) ≡ (xs ++ (x ∷ rest)) ++ more
moved x xs rest more = sym (append_assoc (xs ++ (x ∷ [])) rest more) ∙ ap (λ l. l ++ more) (append_assoc xs (x ∷ []) rest)

module _ (h : Held) (a b o : Carried) (works : (c : ℕ) → Works h a b o c) (left_none : h.left 0 ≡ []) (right_none : h.right 0 ≡ []) where
  split_next : (c : ℕ) → Split h a b o c → Split h a b o (suc c)
  split_next c s = by (o.ends c) refl
    where
      w : Works h a b o c
      w = works c

      going : o.ends c ≡ false → (xs ys : List Row) → h.left c ≡ xs → h.right c ≡ ys → Split h a b o (suc c)
      going e [] [] p q = record {
        xs = s.xs;
        ys = s.ys;
        mixed = (let n : o.tuple c ≡ None = w.out ∙ rw (p, q) refl in rw (e, n, append-nil (pending o c)) s.mixed);
        left = (let n = w.left in rw e (let i = s.left in let j : s.xs ++ h.left c ≡ s.xs = rw p (append-nil s.xs) in let l : h.left (suc c) ≡ option_to_list (a.tuple c) = n ∙ rw p refl in ap (λ v. s.xs ++ v) l ∙ ap (λ v. v ++ option_to_list (a.tuple c)) (sym j ∙ i)));
        right = (let n = w.right in rw e (let i = s.right in let j : s.ys ++ h.right c ≡ s.ys = rw q (append-nil s.ys) in let l : h.right (suc c) ≡ option_to_list (b.tuple c) = n ∙ rw (p, q) refl in ap (λ v. s.ys ++ v) l ∙ ap (λ v. v ++ option_to_list (b.tuple c)) (sym j ∙ i)));
      }
      going e (x ∷ xs) ys p q = record {
        xs = s.xs ++ (x ∷ []);
        ys = s.ys;
        mixed = (let n : o.tuple c ≡ Some x = w.out ∙ rw p refl in rw (e, n) (push_first x s.xs s.ys (pending o c) s.mixed));
        left = (let l : h.left (suc c) ≡ xs ++ option_to_list (a.tuple c) = w.left ∙ rw p refl in
            let i : s.xs ++ (x ∷ xs) ≡ since a o.ends c = rw p at s.left in
            rw (e, l, moved x s.xs xs (option_to_list (a.tuple c)), i) refl);
        right = (let l : h.right (suc c) ≡ h.right c ++ option_to_list (b.tuple c) = w.right ∙ rw p refl in
            rw (e, l) (sym (append_assoc s.ys (h.right c) (option_to_list (b.tuple c))) ∙ ap (λ v. v ++ option_to_list (b.tuple c)) s.right));
      }
      going e [] (y ∷ ys) p q = record {
        xs = s.xs;
        ys = s.ys ++ (y ∷ []);
        mixed = (let n : o.tuple c ≡ Some y = w.out ∙ rw (p, q) refl in rw (e, n) (push_second y s.xs s.ys (pending o c) s.mixed));
        left = (let i = s.left in let j : s.xs ++ h.left c ≡ s.xs = rw p (append-nil s.xs) in let l : h.left (suc c) ≡ option_to_list (a.tuple c) = w.left ∙ rw p refl in rw e (ap (λ v. s.xs ++ v) l ∙ ap (λ v. v ++ option_to_list (a.tuple c)) (sym j ∙ i)));
        right = (let l : h.right (suc c) ≡ ys ++ option_to_list (b.tuple c) = w.right ∙ rw (p, q) refl in
            let i : s.ys ++ (y ∷ ys) ≡ since b o.ends c = rw q at s.right in
            rw (e, l, moved y s.ys ys (option_to_list (b.tuple c)), i) refl);
      }

      by : (e : Bool) → o.ends c ≡ e → Split h a b o (suc c)
      by true e = let l = leaving h a b o c w e in
          let p = l.left in
          let q = l.right in
          record {
            xs = [];
            ys = [];
            mixed = rw e nothing;
            left = (let n : h.left (suc c) ≡ option_to_list (a.tuple c) = w.left ∙ rw p refl in rw (e, n) refl);
            right = (let n : h.right (suc c) ≡ option_to_list (b.tuple c) = w.right ∙ rw (p, q) refl in rw (e, n) refl);
          }
      by false e = going e (h.left c) (h.right c) refl refl

  split : (c : ℕ) → Split h a b o c
  split zero = record { xs = []; ys = []; mixed = nothing; left = left_none; right = right_none }
  split (suc c) = split_next c (split c)

  -- what left since the last end is an interleaving of what came since then
  pub mixed : (c : ℕ) → o.ends c ≡ true → IsInterleaving (since a o.ends c) (since b o.ends c) (stream o c)
  mixed c e =
      let s = split c in
      let w = works c in
      let l = leaving h a b o c w e in
      let p = l.left in
      let q = l.right in
      let x : s.xs ≡ since a o.ends c = sym (append-nil s.xs) ∙ (rw p at s.left) in
      let y : s.ys ≡ since b o.ends c = sym (append-nil s.ys) ∙ (rw q at s.right) in
      let n : o.tuple c ≡ None = w.out ∙ rw (p, q) refl in
      let z : stream o c ≡ pending o c = rw n (append-nil (pending o c)) in
      rw (← x, ← y, z) s.mixed

-- a side's stream while its end waits
pub record Ended (s : Carried) (leaves : ℕ → Bool) (c : ℕ) : Type 0 where
  pub at : ℕ
  pub before : at < c
  pub ends : s.ends at ≡ true
  pub none : (z : ℕ) → at < z → z < c → s.ends z ≡ false
  pub is : since s leaves c ≡ stream s at
  pub empty : pending s c ≡ []

module _ (s : Carried) (wait leaves : ℕ → Bool) (first : wait 0 ≡ false) (next : (c : ℕ) → wait (suc c) ≡ s.ends c || (wait c && not (leaves c))) (only : (c : ℕ) → leaves c ≡ true → wait c ≡ true) (still : (c : ℕ) → wait c ≡ true → leaves c ≡ false → (s.tuple c ≡ None) × (s.ends c ≡ false)) where
  abbrev Known : ℕ → Type 0
  Known c = ((wait c ≡ false) × (since s leaves c ≡ pending s c)) ⊎ ((wait c ≡ true) × Ended s leaves c)

  known : (c : ℕ) → Known c
  known zero = inl (first, refl)
  known (suc c) = by (known c)
    where
      -- an end comes when nothing waits any more
      comes : s.ends c ≡ true → (if leaves c then [] else since s leaves c) ≡ pending s c → Known (suc c)
      comes e p = inr (
        next c ∙ flag_on (s.ends c) (wait c) (leaves c) e,
        record { at = c; before = omega arith; ends = e; none = λ z l m. absurd (omega (arith, l, m)); is = ap (λ v. v ++ option_to_list (s.tuple c)) p; empty = rw e refl },
      )

      goes : s.ends c ≡ false → (wait c ≡ true → leaves c ≡ true) → (if leaves c then [] else since s leaves c) ≡ pending s c → Known (suc c)
      goes e f p = inl (next c ∙ flag_off (s.ends c) (wait c) (leaves c) e f, rw e (ap (λ v. v ++ option_to_list (s.tuple c)) p))

      either : (e : Bool) → s.ends c ≡ e → (wait c ≡ true → leaves c ≡ true) → (if leaves c then [] else since s leaves c) ≡ pending s c → Known (suc c)
      either true e f p = comes e p
      either false e f p = goes e f p

      by : Known c → Known (suc c)
      by (inl (w, p)) =
          let stay : leaves c ≡ false = false_from_ne_true (leaves c) (λ v. let q = only c v in cc (q, w)) in
          either (s.ends c) refl (λ v. absurd (cc (v, w))) (rw stay p)
      by (inr (w, d)) = leave (leaves c) refl
        where
          leave : (l : Bool) → leaves c ≡ l → Known (suc c)
          leave true l = either (s.ends c) refl (λ v. l) (rw l (sym d.empty))
          leave false l =
              let z = still c w l in
              inr (
                next c ∙ flag_kept (s.ends c) (wait c) (leaves c) z.1 l ∙ w,
                record {
                  at = d.at;
                  before = (let b = d.before in omega (arith, b));
                  ends = d.ends;
                  none = λ v m n. elim (cases_lt v c) [ inl q ↦ d.none v m q | inr q ↦ (let e : v ≡ c = omega (arith, q, n) in ap s.ends e ∙ z.1) ];
                  is = rw (l, z.0) (append-nil (since s leaves c) ∙ d.is);
                  empty = rw (z.1, z.0) (append-nil (pending s c) ∙ d.empty);
                },
              )

  pub ended : (c : ℕ) → leaves c ≡ true → Ended s leaves c
  ended c l = by (known c)
    where
      by : Known c → Ended s leaves c
      by (inl (w, p)) = absurd (let q = only c l in cc (q, w))
      by (inr (w, d)) = d
