-- A ring in a memory holds the list of a queue.
use Rattle.std.proofs.Common.{◌≡◌, ◌≢◌, ℕ, zero, suc, ◌+◌, ◌-◌, ◌%◌, ◌<◌, ◌≤◌, List, [], ◌∷◌, ◌++◌, length, Option, Some, None, Bool, true, false, refl, sym, ap, ◌∙◌, subst, arith, inl, inr, length-append}
use Rattle.std.specs.Prelude.{option_to_list, is_some, not, ◌&&◌, ◌||◌, if◌then◌else◌, nat_eq}
use Rattle.std.proofs.lemmas.Bool.{cases_lt, lt-ltb, le-ltb, eqb-true, eqb-false, eq-eqb, ne_eqb}
use Rattle.std.proofs.lemmas.List.{append-nil}
use Rattle.std.proofs.Math.Nat.{mod-eq_of_lt, add-mod_left, add-mod}
use Rattle.gl_queue.specs.Queue.{oldest, behind, entries, passes, LowBefore, IsQueue}
use Rattle.gl_queue.specs.Ring.{wrap, IsRing, RingsAreQueues}

wrap_low : (size x : ℕ) → x < size → wrap size x ≡ x
wrap_low size x l = rw (lt-ltb x size l) refl

wrap_high : (size x : ℕ) → size ≤ x → wrap size x ≡ x - size
wrap_high size x l = rw (le-ltb x size l) refl

wrap_less : (size x : ℕ) → x < size + size → wrap size x < size
wrap_less size x l = elim (cases_lt x size) [ inl m ↦ omega (arith, wrap_low size x m) | inr m ↦ omega (arith, wrap_high size x m) ]

-- sums of registers wrap as the ring does
pub wrap_mod : (size x : ℕ) → x < size + size → wrap size x ≡ x % size
wrap_mod size x l = elim (cases_lt x size) [
  | inl m ↦ wrap_low size x m ∙ sym (mod-eq_of_lt m)
  | inr m ↦ (let e : size + (x - size) ≡ x = omega (arith, m) in
      let r : x - size < size = omega (arith, l, m) in
      wrap_high size x m ∙ sym (mod-eq_of_lt r) ∙ sym (add-mod_left size (x - size)) ∙ ap (λ i. i % size) e)
]

-- and the depth may be a constant of the same width
pub wrap_depth : (size h depth : ℕ) → h < size → depth ≤ size → wrap size (h + depth) ≡ (h + depth % size) % size
wrap_depth size h depth l m = wrap_mod size (h + depth) (omega (arith, l, m)) ∙ add-mod h depth size ∙ ap (λ i. (i + depth % size) % size) (mod-eq_of_lt l)

-- a step, and then some, is one step more
wrap_step : (size h k : ℕ) → h < size → k < size → wrap size (wrap size (h + 1) + k) ≡ wrap size (h + suc k)
wrap_step size h k l m = elim (cases_lt (h + 1) size) [
  | inl n ↦ (let e : wrap size (h + 1) + k ≡ h + suc k = omega (arith, wrap_low size (h + 1) n) in ap (wrap size) e)
  | inr n ↦ (let e : wrap size (h + 1) + k ≡ k = omega (arith, wrap_high size (h + 1) n) in
      let r : h + suc k - size ≡ k = omega (arith, n, l) in
      ap (wrap size) e ∙ wrap_low size k m ∙ sym (wrap_high size (h + suc k) (omega (arith, n)) ∙ r))
]

wrap_next : (size h n : ℕ) → h < size → n < size → wrap size (wrap size (h + n) + 1) ≡ wrap size (h + suc n)
wrap_next size h n l m = elim (cases_lt (h + n) size) [
  | inl p ↦ (let e : wrap size (h + n) + 1 ≡ h + suc n = omega (arith, wrap_low size (h + n) p) in ap (wrap size) e)
  | inr p ↦ (let e : wrap size (h + n) + 1 ≡ h + suc n - size = omega (arith, wrap_high size (h + n) p) in
      ap (wrap size) e ∙ wrap_low size (h + suc n - size) (omega (arith, l, m)) ∙ sym (wrap_high size (h + suc n) (omega (arith, p))))
]

-- places less than a round apart differ
wrap_differ : (size h k n : ℕ) → h < size → k < n → n < k + size → n ≤ size → wrap size (h + k) ≡ wrap size (h + n) → ⊥
wrap_differ size h k n l m o p e = elim (cases_lt (h + k) size) [
  | inl q ↦ elim (cases_lt (h + n) size) [
    | inl r ↦ omega (arith, e, wrap_low size (h + k) q, wrap_low size (h + n) r, m)
    | inr r ↦ omega (arith, e, wrap_low size (h + k) q, wrap_high size (h + n) r, o)
  ]
  | inr q ↦ elim (cases_lt (h + n) size) [
    | inl r ↦ omega (arith, q, r, m)
    | inr r ↦ omega (arith, e, wrap_high size (h + k) q, wrap_high size (h + n) r, m, q)
  ]
]

-- the words of n places from the k-th after the head on
abbrev words : {A : Type 0} → (ℕ → A) → ℕ → ℕ → ℕ → ℕ → List A
words w size h k zero = []
words w size h k (suc n) = w (wrap size (h + k)) ∷ words w size h (suc k) n

module _ {A : Type 0} (size : ℕ) where
  words-push : (w : ℕ → A) (h n k : ℕ) → words w size h k (suc n) ≡ words w size h k n ++ (w (wrap size (h + (k + n))) ∷ [])
  words-push w h zero k = let e : k + zero ≡ k = omega arith in rw e refl
  words-push w h (suc n) k = let e : suc k + n ≡ k + suc n = omega arith in ap (λ l. w (wrap size (h + k)) ∷ l) (words-push w h n (suc k) ∙ ap (λ i. words w size h (suc k) n ++ (w (wrap size (h + i)) ∷ [])) e)

  -- after a step the second word is the first
  words-step : (w : ℕ → A) (h n k : ℕ) → h < size → k + n ≤ size → words w size (wrap size (h + 1)) k n ≡ words w size h (suc k) n
  words-step w h zero k l m = refl
  words-step w h (suc n) k l m = rw (wrap_step size h k l (omega (arith, m)), words-step w h n (suc k) l (omega (arith, m))) refl

  words-same : (v w : ℕ → A) (h n k : ℕ) → ((i : ℕ) → k ≤ i → i < k + n → v (wrap size (h + i)) ≡ w (wrap size (h + i))) → words v size h k n ≡ words w size h k n
  words-same v w h zero k s = refl
  words-same v w h (suc n) k s = rw (s k (omega arith) (omega arith), words-same v w h n (suc k) (λ i l m. s i (omega arith) (omega arith))) refl

  -- what is held, and where
  record Held (w : ℕ → A) (head tail : ℕ) (some : Bool) (xs : List A) : Type 0 where
    low : head < size
    tail_is : tail ≡ wrap size (head + length xs)
    fit : length xs ≤ size
    some_is : some ≡ is_some (oldest xs)
    all : xs ≡ words w size head 0 (length xs)

  -- the oldest is taken off
  record Taken (w : ℕ → A) (head tail : ℕ) (xs : List A) : Type 0 where
    low : head < size
    tail_is : tail ≡ wrap size (head + length xs)
    all : xs ≡ words w size head 0 (length xs)

  tail_list : (x y : A) (xs ys : List A) → x ∷ xs ≡ y ∷ ys → xs ≡ ys
  tail_list x y xs ys e = ap behind e

  take_off : (w : ℕ → A) (head tail : ℕ) (some go : Bool) (xs : List A) → 2 ≤ size → Held w head tail some xs → Taken w (if go && some then wrap size (head + 1) else head) tail (if go then behind xs else xs)
  take_off w head tail some false xs two h = record { low = h.low; tail_is = h.tail_is; all = h.all }
  take_off w head tail some true [] two h =
      let s : some ≡ false = h.some_is in
      rw s (record { low = h.low; tail_is = h.tail_is; all = refl })
  take_off w head tail some true (x ∷ xs) two h =
      let s : some ≡ true = h.some_is in
      let low = h.low in
      let fit = h.fit in
      let all = h.all in
      let size_is : length (x ∷ xs) ≡ suc (length xs) = refl in
      let rest : xs ≡ words w size head 1 (length xs) = tail_list x (w (wrap size (head + 0))) xs (words w size head 1 (length xs)) all in
      rw s (record {
        low = wrap_less size (head + 1) (omega (arith, low, two));
        tail_is = h.tail_is ∙ sym (wrap_step size head (length xs) low (omega (arith, fit)));
        all = rest ∙ sym (words-step w head (length xs) 0 low (omega (arith, fit)));
      })

  -- and one may be put behind
  put_behind : (v w : ℕ → A) (head tail : ℕ) (push : Option A) (xs : List A) → 2 ≤ size → Taken w head tail xs → length xs + length (option_to_list push) ≤ size → ((r : A) → push ≡ Some r → v tail ≡ r) → ((x : ℕ) → x ≢ tail → v x ≡ w x) → (push ≡ None → (x : ℕ) → v x ≡ w x) → Held v head (if is_some push then wrap size (tail + 1) else tail) (is_some push || is_some (oldest xs)) (xs ++ option_to_list push)
  put_behind v w head tail None xs two t fit written kept all_kept =
      let e : xs ++ [] ≡ xs = append-nil xs in
      subst (λ l. Held v head tail (is_some (oldest xs)) l) (sym e) (record {
        low = t.low;
        tail_is = t.tail_is;
        fit = omega (arith, fit);
        some_is = refl;
        all = t.all ∙ sym (words-same v w head (length xs) 0 (λ i l m. all_kept refl (wrap size (head + i))));
      })
  put_behind v w head tail (Some r) xs two t fit written kept all_kept =
      let low = t.low in
      let size_is : length (xs ++ (r ∷ [])) ≡ suc (length xs) = length-append xs (r ∷ []) ∙ omega arith in
      let place : tail ≡ wrap size (head + length xs) = t.tail_is in
      let same : words v size head 0 (length xs) ≡ words w size head 0 (length xs) = words-same v w head (length xs) 0 (λ i l m. kept (wrap size (head + i)) (λ e. wrap_differ size head i (length xs) low (omega (arith, m)) (omega (arith, fit)) (omega (arith, fit)) (e ∙ place))) in
      let last : v (wrap size (head + (0 + length xs))) ≡ r = (let z : 0 + length xs ≡ length xs = omega arith in ap (λ i. v (wrap size (head + i))) z ∙ ap v (sym place) ∙ written r refl) in
      record {
        low = low;
        tail_is = rw size_is (ap (λ i. wrap size (i + 1)) place ∙ wrap_next size head (length xs) low (omega (arith, fit)));
        fit = omega (arith, size_is, fit);
        some_is = some_of xs;
        all = rw (size_is, words-push v head (length xs) 0, same, last) (ap (λ l. l ++ (r ∷ [])) t.all);
      }
    where
      some_of : (l : List A) → true ≡ is_some (oldest (l ++ (r ∷ [])))
      some_of [] = refl
      some_of (x ∷ l) = refl

  -- one is left of one where the next place is the tail
  some_left : (w : ℕ → A) (head tail : ℕ) (some go : Bool) (xs : List A) → 2 ≤ size → Held w head tail some xs → some && not (go && nat_eq (wrap size (head + 1)) tail) ≡ is_some (oldest (if go then behind xs else xs))
  some_left w head tail some false xs two h = let s = h.some_is in by some s
    where
      by : (b : Bool) → b ≡ is_some (oldest xs) → b && true ≡ is_some (oldest xs)
      by true e = e
      by false e = e
  some_left w head tail some true [] two h = let s : some ≡ false = h.some_is in rw s refl
  some_left w head tail some true (x ∷ []) two h =
      let s : some ≡ true = h.some_is in
      let e : wrap size (head + 1) ≡ tail = sym h.tail_is in
      rw (s, eq-eqb (wrap size (head + 1)) tail e) refl
  some_left w head tail some true (x ∷ y ∷ xs) two h =
      let s : some ≡ true = h.some_is in
      let low = h.low in
      let fit = h.fit in
      let place : tail ≡ wrap size (head + suc (suc (length xs))) = h.tail_is in
      let differ : wrap size (head + 1) ≡ tail → ⊥ = λ e. wrap_differ size head 1 (suc (suc (length xs))) low (omega arith) (omega (arith, fit)) (omega (arith, fit)) (e ∙ place) in
      rw (s, ne_eqb (wrap size (head + 1)) tail differ) refl

  -- whether it is full
  full_is : (w : ℕ → A) (head tail depth : ℕ) (some : Bool) (xs : List A) → 1 ≤ depth → depth ≤ size → Held w head tail some xs → length xs ≤ depth → some && nat_eq (wrap size (head + depth)) tail ≡ nat_eq (length xs) depth
  full_is w head tail depth some [] one most h l =
      let s : some ≡ false = h.some_is in
      let differ : 0 ≡ depth → ⊥ = λ e. omega (arith, e, one) in
      rw s (sym (ne_eqb 0 depth differ))
  full_is w head tail depth some (x ∷ xs) one most h l = by (nat_eq (length (x ∷ xs)) depth) refl
    where
      s : some ≡ true
      s = h.some_is

      by : (b : Bool) → nat_eq (length (x ∷ xs)) depth ≡ b → some && nat_eq (wrap size (head + depth)) tail ≡ b
      by true p =
          let e : length (x ∷ xs) ≡ depth = eqb-true (length (x ∷ xs)) depth p in
          let q : wrap size (head + depth) ≡ tail = ap (λ i. wrap size (head + i)) (sym e) ∙ sym h.tail_is in
          rw (s, eq-eqb (wrap size (head + depth)) tail q) refl
      by false p =
          let n : length (x ∷ xs) ≡ depth → ⊥ = eqb-false (length (x ∷ xs)) depth p in
          let low = h.low in
          let q : wrap size (head + depth) ≡ tail → ⊥ = λ e. wrap_differ size head (length (x ∷ xs)) depth low (omega (arith, n, l)) (omega (arith, most)) most (sym (e ∙ h.tail_is)) in
          rw (s, ne_eqb (wrap size (head + depth)) tail q) refl

module _ {A : Type 0} (size depth : ℕ) (push : ℕ → Option A) (go : ℕ → Bool) (shown : ℕ → Option A) (passed : ℕ → Bool) (two : 2 ≤ size) (one : 1 ≤ depth) (most : depth ≤ size) (m : IsRing size depth push go shown passed) where
  abbrev list : ℕ → List A
  list = entries push go

  record Ready (c : ℕ) : Type 0 where
    held : Held size (m.word c) (m.head c) (m.tail c) (m.some c) (list c)
    fit : length (list c) ≤ depth

  full_now : (c : ℕ) → Ready c → passed c ≡ passes depth push go c
  full_now c r = m.full c ∙ rw (full_is size (m.word c) (m.head c) (m.tail c) depth (m.some c) (list c) one most r.held r.fit) (ap (λ s. is_some (push c) && nat_eq (length (list c)) depth && not (go c && s)) r.held.some_is)

  -- a push that does not pass fits
  fits_then : (p : Option A) (xs : List A) (g : Bool) → length xs ≤ depth → is_some p && nat_eq (length xs) depth && not (g && is_some (oldest xs)) ≡ false → length (if g then behind xs else xs) + length (option_to_list p) ≤ depth
  fits_then None xs g l h = omega (arith, l, shorter g xs)
    where
      shorter : (g : Bool) (xs : List A) → length (if g then behind xs else xs) ≤ length xs
      shorter true [] = omega arith
      shorter true (x ∷ xs) = omega arith
      shorter false xs = omega arith
  fits_then (Some r) xs g l h = by g xs l h
    where
      by : (g : Bool) (xs : List A) → length xs ≤ depth → nat_eq (length xs) depth && not (g && is_some (oldest xs)) ≡ false → length (if g then behind xs else xs) + 1 ≤ depth
      by true [] l h = omega (arith, one)
      by true (x ∷ xs) l h = omega (arith, l)
      by false xs l h = less (nat_eq (length xs) depth) refl h
        where
          less : (b : Bool) → nat_eq (length xs) depth ≡ b → b && true ≡ false → length xs + 1 ≤ depth
          less true p q = absurd (cc q)
          less false p q = let n = eqb-false (length xs) depth p in omega (arith, n, l)

  ready_next : (c : ℕ) → 1 ≤ c → Ready c → passed c ≡ false → Ready (suc c)
  ready_next c pos r low =
      let fit = fits_then (push c) (list c) (go c) r.fit (sym (full_now c r) ∙ low) in
      let taken = take_off size (m.word c) (m.head c) (m.tail c) (m.some c) (go c) (list c) two r.held in
      let put = put_behind size (m.word (suc c)) (m.word c) (if go c && m.some c then wrap size (m.head c + 1) else m.head c) (m.tail c) (push c) (if go c then behind (list c) else list c) two taken (omega (arith, fit, most)) (λ x e. m.written c x pos e) (λ x e. m.kept c x pos e) (λ e x. m.all_kept c x pos e) in
      let some : is_some (push c) || is_some (oldest (if go c then behind (list c) else list c)) ≡ m.some (suc c) = ap (λ b. is_some (push c) || b) (sym (some_left size (m.word c) (m.head c) (m.tail c) (m.some c) (go c) (list c) two r.held)) ∙ sym (m.some_next c pos) in
      record {
        held = record {
          low = subst (λ i. i < size) (sym (m.head_next c pos)) put.low;
          tail_is = m.tail_next c pos ∙ put.tail_is ∙ ap (λ i. wrap size (i + length (list (suc c)))) (sym (m.head_next c pos));
          fit = put.fit;
          some_is = sym some ∙ put.some_is;
          all = put.all ∙ ap (λ i. words (m.word (suc c)) size i 0 (length (list (suc c)))) (sym (m.head_next c pos));
        };
        fit = omega (arith, fit, length-append (if go c then behind (list c) else list c) (option_to_list (push c)));
      }

  ready_first : Ready 1
  ready_first =
      let b = m.blank in
      let none : list 1 ≡ [] = by (go 0) b in
      record {
        held = rw none (record {
          low = omega (arith, m.head_first, two);
          tail_is = m.tail_first ∙ sym (let z = m.head_first in rw z (wrap_low size (0 + 0) (omega (arith, two))));
          fit = omega arith;
          some_is = m.none_first;
          all = refl;
        });
        fit = omega (arith, ap length none);
      }
    where
      by : (g : Bool) → push 0 ≡ None → (if g then [] else []) ++ option_to_list (push 0) ≡ []
      by true e = rw e refl
      by false e = rw e refl

  ready : (c : ℕ) → LowBefore passed (suc c) → Ready (suc c)
  ready zero low = ready_first
  ready (suc c) low = ready_next (suc c) (omega arith) (ready c (λ d l. low d (omega arith))) (low (suc c) (omega arith))

  queue : IsQueue depth push go shown passed
  queue = record { shows = shows; tells = tells }
    where
      shows_now : (c : ℕ) (xs : List A) → Held size (m.word c) (m.head c) (m.tail c) (m.some c) xs → (if m.some c then Some (m.word c (m.head c)) else None) ≡ oldest xs
      shows_now c [] h = let s : m.some c ≡ false = h.some_is in rw s refl
      shows_now c (x ∷ xs) h =
          let s : m.some c ≡ true = h.some_is in
          let low = h.low in
          let z : m.head c + 0 ≡ m.head c = omega arith in
          let place : wrap size (m.head c + 0) ≡ m.head c = ap (wrap size) z ∙ wrap_low size (m.head c) low in
          let e : Some x ≡ Some (m.word c (wrap size (m.head c + 0))) = ap oldest h.all in
          rw s (sym (e ∙ ap (λ i. Some (m.word c i)) place))

      shows : (c : ℕ) → LowBefore passed c → shown c ≡ oldest (list c)
      shows zero low = let n = m.none_yet in m.shows zero ∙ rw n refl
      shows (suc c) low = m.shows (suc c) ∙ shows_now (suc c) (list (suc c)) (ready c low).held

      tells : (c : ℕ) → LowBefore passed c → passed c ≡ passes depth push go c
      tells zero low = let n = m.none_yet in let b = m.blank in m.full zero ∙ rw b refl
      tells (suc c) low = full_now (suc c) (ready c low)

pub rings_are_queues : RingsAreQueues
rings_are_queues A size depth push go shown passed two one most m = queue size depth push go shown passed two one most m
