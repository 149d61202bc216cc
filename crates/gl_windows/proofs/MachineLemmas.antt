-- One cycle of the front's registers is one step of the machine.
use Rattle.std.proofs.Common.{◌≡◌, ℕ, zero, suc, ◌+◌, ◌-◌, ◌*◌, ◌/◌, ◌%◌, ◌<◌, ◌≤◌, Option, Some, None, Bool, true, false, refl, sym, ap, ◌∙◌, subst, arith, inl, inr}
use Rattle.std.specs.Prelude.{nat_eq, not, ◌&&◌, ◌||◌, if◌then◌else◌}
use Rattle.std.proofs.lemmas.Bool.{cases_lt, eq-eqb, ne_eqb}
use Rattle.std.proofs.lemmas.Bool.Decides.{eqb_tells}
use Rattle.std.proofs.lemmas.Nat.{div-add-mod', mod-mul-add, mod_below}
use Rattle.std.proofs.Math.Bool.{and-true, and-false}
use Rattle.gl_values.specs.Results.{Row}
use Rattle.gl_bits.proofs.Bools.{or_none, same_test, eq_turned}
use Rattle.gl_windows.specs.Front.{Front, opening, one_opened, one_nearer, closing, closed_by, counted, next, taken}
use Rattle.gl_wire_registers.specs.Held.{counted_down, turned}
use Rattle.gl_wire_registers.specs.Lines.{any_to}
use Rattle.gl_windows.specs.Values.{Values, opens_of, trigger_of, mid_of, end_of, valid_of, Steps, Mirrors}
use Rattle.gl_wire_registers.proofs.LineLemmas.{any_at}

pub turned_next : (count n : ℕ) → 1 ≤ count → turned (count - 1) true (n % count) ≡ suc n % count
turned_next count n some = elim (cases_lt (n % count + 1) count) [
  | inl l ↦
      let is = div-add-mod' n count in
      let e : suc n ≡ n / count * count + (n % count + 1) = omega (arith, is) in
      let q : nat_eq (n % count) (count - 1) ≡ false = ne_eqb (n % count) (count - 1) (λ h. omega (arith, h, l, some)) in
      ap (λ (b : Bool). if b then 0 else (n % count + 1)) q ∙ sym (ap (λ z. z % count) e ∙ mod-mul-add (n / count) count (n % count + 1) l)
  | inr l ↦
      let is = div-add-mod' n count in
      let low = mod_below n count some in
      let last : n % count + 1 ≡ count = omega (arith, l, low) in
      let e : suc n ≡ suc (n / count) * count + 0 = omega (arith, is, last) in
      let at : n % count ≡ count - 1 = omega (arith, last) in
      ap (λ (b : Bool). if b then 0 else (n % count + 1)) (eq-eqb (n % count) (count - 1) at) ∙ sym (ap (λ z. z % count) e ∙ mod-mul-add (suc (n / count)) count 0 some)
]

-- a Boolean that tells which pointer comes next
pub turned_if : (count n : ℕ) (b : Bool) → 1 ≤ count → turned (count - 1) b (n % count) ≡ (if b then suc n else n) % count
turned_if count n true some = turned_next count n some
turned_if count n false some = refl

abbrev pub tuple_of : Bool → Row → Option Row
tuple_of v x = if v then Some x else None

-- ---- what an opening and a closing leave

module _ (advance count : ℕ) (s : Front) where
  open_closed : (v : Bool) (x : Row) → (opening advance count (tuple_of v x) s).closed ≡ s.closed
  open_closed false x = refl
  open_closed true x = by (nat_eq s.until 0)
    where
      by : (z : Bool) → (if z then one_opened advance count s else one_nearer s).closed ≡ s.closed
      by true = refl
      by false = refl

  open_left : (v : Bool) (x : Row) → (opening advance count (tuple_of v x) s).left ≡ s.left
  open_left false x = refl
  open_left true x = by (nat_eq s.until 0)
    where
      by : (z : Bool) → (if z then one_opened advance count s else one_nearer s).left ≡ s.left
      by true = refl
      by false = refl

  open_flush : (v : Bool) (x : Row) → (opening advance count (tuple_of v x) s).flush ≡ s.flush
  open_flush false x = refl
  open_flush true x = by (nat_eq s.until 0)
    where
      by : (z : Bool) → (if z then one_opened advance count s else one_nearer s).flush ≡ s.flush
      by true = refl
      by false = refl

  open_wait : (v : Bool) (x : Row) → (opening advance count (tuple_of v x) s).wait ≡ s.wait
  open_wait false x = refl
  open_wait true x = by (nat_eq s.until 0)
    where
      by : (z : Bool) → (if z then one_opened advance count s else one_nearer s).wait ≡ s.wait
      by true = refl
      by false = refl

  open_until : (v : Bool) (x : Row) → (opening advance count (tuple_of v x) s).until ≡ counted_down 0 (advance - 1) false v s.until
  open_until false x = refl
  open_until true x = by (nat_eq s.until 0)
    where
      by : (z : Bool) → (if z then one_opened advance count s else one_nearer s).until ≡ (if z then advance - 1 else (s.until - 1))
      by true = refl
      by false = refl

  open_opened : (v : Bool) (x : Row) → (opening advance count (tuple_of v x) s).opened ≡ (if v && nat_eq s.until 0 then suc s.opened else s.opened)
  open_opened false x = refl
  open_opened true x = by (nat_eq s.until 0)
    where
      by : (z : Bool) → (if z then one_opened advance count s else one_nearer s).opened ≡ (if z then suc s.opened else s.opened)
      by true = refl
      by false = refl

  open_flag : (v : Bool) (x : Row) (k : ℕ) → (opening advance count (tuple_of v x) s).is_open k ≡ (s.is_open k || ((v && nat_eq s.until 0) && nat_eq (s.opened % count) k))
  open_flag false x k = sym (or_none (s.is_open k))
  open_flag true x k = by (nat_eq s.until 0)
    where
      by : (z : Bool) → (if z then one_opened advance count s else one_nearer s).is_open k ≡ (s.is_open k || (z && nat_eq (s.opened % count) k))
      by true = ap (λ b. s.is_open k || b) (eq_turned k (s.opened % count))
      by false = sym (or_none (s.is_open k))

module _ (count : ℕ) (t : Front) where
  closed_until : (b : Bool) → (closed_by count b t).until ≡ t.until
  closed_until true = refl
  closed_until false = refl

  closed_left : (b : Bool) → (closed_by count b t).left ≡ t.left
  closed_left true = refl
  closed_left false = refl

  closed_opened : (b : Bool) → (closed_by count b t).opened ≡ t.opened
  closed_opened true = refl
  closed_opened false = refl

  closed_flush : (b : Bool) → (closed_by count b t).flush ≡ t.flush
  closed_flush true = refl
  closed_flush false = refl

  closed_wait : (b : Bool) → (closed_by count b t).wait ≡ t.wait
  closed_wait true = refl
  closed_wait false = refl

  closed_closed : (b : Bool) → (closed_by count b t).closed ≡ (if b then suc t.closed else t.closed)
  closed_closed true = refl
  closed_closed false = refl

  closed_flag : (b : Bool) (k : ℕ) → (closed_by count b t).is_open k ≡ (t.is_open k && not (b && nat_eq (t.closed % count) k))
  closed_flag true k = ap (λ q. t.is_open k && not q) (eq_turned k (t.closed % count))
  closed_flag false k = sym (and-true (t.is_open k))

closing_by : (count : ℕ) (e v : Bool) (x : Row) (t : Front) (l w : ℕ) (f : Bool) → t.left ≡ l + 1 → t.flush ≡ f → t.wait ≡ w
    → closing count e (tuple_of v x) t ≡ ((e || ((v && nat_eq l 0) || ((f && not v) && nat_eq w 0))) && t.is_open (t.closed % count))
closing_by count true v x t l w f a b c = refl
closing_by count false true x t l w f a b c =
    let same : nat_eq t.left 1 ≡ nat_eq l 0 = same_test t.left 1 l 0 (λ h. omega (arith, h, a)) (λ h. omega (arith, h, a)) in
    rw (same, and-false f, or_none) refl
closing_by count false false x t l w f a b c = rw (b, c, and-true f) refl

-- the line of one copy is that of the oldest one, at that copy
pub at_oldest : (q k : ℕ) (x : Bool) (m : ℕ → Bool) → ((x && nat_eq q k) && m k) ≡ ((x && m q) && nat_eq q k)
at_oldest q k x m = elim (eqb_tells q k) [
  | inl h ↦ (let a = h.0 in rw (a, and-true x, and-true (x && m q)) (ap (λ n. x && m n) (sym h.1)))
  | inr h ↦ (let a = h.0 in rw (a, and-false x, and-false (x && m q)) refl)
]

pub count_down_left : (size advance l : ℕ) (e v : Bool) → 1 ≤ size → 1 ≤ advance → counted_down (size - 1) (advance - 1) e v l + 1 ≡ (if e then size else (if v then (if nat_eq (l + 1) 1 then advance else (l + 1 - 1)) else (l + 1)))
count_down_left size advance l true v hs ha = omega (arith, hs)
count_down_left size advance zero false true hs ha = omega (arith, ha)
count_down_left size advance (suc n) false true hs ha =
    let a : nat_eq (suc n) 0 ≡ false = ne_eqb (suc n) 0 (λ h. absurd (omega (arith, h))) in
    let b : nat_eq (suc n + 1) 1 ≡ false = ne_eqb (suc n + 1) 1 (λ h. absurd (omega (arith, h))) in
    rw (a, b) (omega arith)
count_down_left size advance l false false hs ha = refl

pub if_same : {A : Type 0} (b : Bool) (x : A) → (if b then x else x) ≡ x
if_same true x = refl
if_same false x = refl

only_mid : (m n f h : Bool) → ((m && true) || (n && (((f && false) && h) && true))) ≡ m
only_mid true n f h = refl
only_mid false true true h = refl
only_mid false true false h = refl
only_mid false false f h = refl

only_end : (m n f h : Bool) → ((m && false) || (n && (((f && true) && h) && true))) ≡ (n && (f && h))
only_end m false f h = rw (and-false m) refl
only_end m true false h = rw (and-false m) refl
only_end m true true h = rw (and-false m) (and-true h)

module _ (size advance count stride : ℕ) (hs : 1 ≤ size) (ha : 1 ≤ advance) (hc : 1 ≤ count) (e v : Bool) (x : Row) (s : Front) (p : Values) (m : Mirrors count s p) where
  abbrev pub t : Front
  t = opening advance count (tuple_of v x) s

  abbrev pub after : Front
  after = next size advance count stride e (tuple_of v x) s

  mid_is : (k : ℕ) → k < count → mid_of v p k ≡ t.is_open k
  mid_is k l =
      ap (λ b. b || ((v && nat_eq p.until 0) && nat_eq p.opened k)) (m.flags k l)
      ∙ ap (λ n. s.is_open k || ((v && nat_eq n 0) && nat_eq p.opened k)) m.until
      ∙ ap (λ n. s.is_open k || ((v && nat_eq s.until 0) && nat_eq n k)) m.opened
      ∙ sym (open_flag advance count s v x k)

  oldest_is : p.oldest ≡ t.closed % count
  oldest_is = m.oldest ∙ ap (λ n. n % count) (sym (open_closed advance count s v x))

  oldest_low : p.oldest < count
  oldest_low = let h = mod_below t.closed count hc in omega (arith, h, oldest_is)

  closing_is : closing count e (tuple_of v x) t ≡ (trigger_of e v p && t.is_open (t.closed % count))
  closing_is = closing_by count e v x t p.left p.wait p.flush (open_left advance count s v x ∙ sym m.left) (open_flush advance count s v x ∙ sym m.flush) (open_wait advance count s v x ∙ sym m.wait)

  closes_is : any_to count (end_of e v p) ≡ closing count e (tuple_of v x) t
  closes_is =
      any_at count p.oldest (trigger_of e v p) (mid_of v p) (end_of e v p) oldest_low (λ k l. refl)
      ∙ ap (λ b. trigger_of e v p && b) (mid_is p.oldest oldest_low ∙ ap t.is_open oldest_is) ∙ sym closing_is

  pub end_is : (k : ℕ) → k < count → end_of e v p k ≡ (closing count e (tuple_of v x) t && nat_eq (t.closed % count) k)
  end_is k l =
      at_oldest p.oldest k (trigger_of e v p) (mid_of v p)
      ∙ ap (λ b. (trigger_of e v p && b) && nat_eq p.oldest k) (mid_is p.oldest oldest_low ∙ ap t.is_open oldest_is)
      ∙ ap (λ b. b && nat_eq p.oldest k) (sym closing_is)
      ∙ ap (λ n. closing count e (tuple_of v x) t && nat_eq n k) oldest_is

  -- the fields of the next state
  after_until : (e' : Bool) (b : Bool) → (counted size advance stride e' (tuple_of v x) (closed_by count b t)).until ≡ counted_down 0 (advance - 1) e' v s.until
  after_until true b = refl
  after_until false b = by v
    where
      by : (v : Bool) → (counted size advance stride false (tuple_of v x) (closed_by count b (opening advance count (tuple_of v x) s))).until ≡ counted_down 0 (advance - 1) false v s.until
      by true = closed_until count (opening advance count (Some x) s) b ∙ open_until advance count s true x
      by false = closed_until count s b

  after_left : (e' : Bool) (b : Bool) → (counted size advance stride e' (tuple_of v x) (closed_by count b t)).left ≡ (if e' then size else (if v then (if nat_eq s.left 1 then advance else (s.left - 1)) else s.left))
  after_left true b = refl
  after_left false b = by v
    where
      by : (v : Bool) → (counted size advance stride false (tuple_of v x) (closed_by count b (opening advance count (tuple_of v x) s))).left ≡ (if v then (if nat_eq s.left 1 then advance else (s.left - 1)) else s.left)
      by true = ap (λ n. if nat_eq n 1 then advance else (n - 1)) (closed_left count (opening advance count (Some x) s) b ∙ open_left advance count s true x)
      by false = closed_left count s b

  after_opened : (e' v' : Bool) (f : Front) → (counted size advance stride e' (tuple_of v' x) f).opened ≡ f.opened
  after_opened true v' f = refl
  after_opened false true f = refl
  after_opened false false f = refl

  after_closed : (e' v' : Bool) (f : Front) → (counted size advance stride e' (tuple_of v' x) f).closed ≡ f.closed
  after_closed true v' f = refl
  after_closed false true f = refl
  after_closed false false f = refl

  after_flag : (e' v' : Bool) (f : Front) (k : ℕ) → (counted size advance stride e' (tuple_of v' x) f).is_open k ≡ f.is_open k
  after_flag true v' f k = refl
  after_flag false true f k = refl
  after_flag false false f k = refl

  after_flush : (e' v' : Bool) (f : Front) → (counted size advance stride e' (tuple_of v' x) f).flush ≡ (e' || (f.flush && not v'))
  after_flush true v' f = refl
  after_flush false true f = sym (and-false f.flush)
  after_flush false false f = sym (and-true f.flush)

  after_wait : (e' v' : Bool) (f : Front) → (counted size advance stride e' (tuple_of v' x) f).wait ≡ counted_down (stride - 1) (stride - 1) e' (f.flush && not v') f.wait
  after_wait true v' f = refl
  after_wait false true f = rw (and-false f.flush) refl
  after_wait false false f = by f.flush
    where
      by : (b : Bool) → (if b then (if nat_eq f.wait 0 then stride - 1 else (f.wait - 1)) else f.wait) ≡ counted_down (stride - 1) (stride - 1) false (b && true) f.wait
      by true = refl
      by false = refl

  shut : Front
  shut = closed_by count (closing count e (tuple_of v x) t) t

  shut_flush : shut.flush ≡ p.flush
  unfolding shut
  shut_flush = closed_flush count t (closing count e (tuple_of v x) t) ∙ open_flush advance count s v x ∙ sym m.flush

  shut_wait : shut.wait ≡ p.wait
  unfolding shut
  shut_wait = closed_wait count t (closing count e (tuple_of v x) t) ∙ open_wait advance count s v x ∙ sym m.wait

  module _ (q : Values) (st : Steps size advance count stride e v x p q) where
    next_held : after.flush ≡ true → after.held ≡ (if q.held then Some q.row else None)
    next_held = by e v refl refl
      where
        kept : (b : Bool) → (closed_by count b s).held ≡ s.held
        kept true = refl
        kept false = refl

        by : (e' v' : Bool) → e ≡ e' → v ≡ v' → (next size advance count stride e' (tuple_of v' x) s).flush ≡ true → (next size advance count stride e' (tuple_of v' x) s).held ≡ (if q.held then Some q.row else None)
        by true true he hv h =
            let is : q.held ≡ true = st.held ∙ rw (he, hv) refl in
            let row : q.row ≡ x = st.row (rw hv refl) ∙ rw hv refl in
            rw (is, row) refl
        by true false he hv h =
            let is : q.held ≡ false = st.held ∙ rw (he, hv) (and-false p.held) in
            rw is refl
        by false true he hv h = absurd (cc)
        by false false he hv h =
            let b = closing count false (tuple_of false x) s in
            let on : s.flush ≡ true = sym (closed_flush count s b) ∙ h in
            let is : q.held ≡ p.held = st.held ∙ rw he (and-true p.held) in
            let row : q.row ≡ p.row = st.row (rw hv (m.flush ∙ on)) ∙ rw hv refl in
            rw (is, row) (kept b ∙ m.held on)

    -- one cycle is one step
    pub mirrors_next : Mirrors count after q
    unfolding shut
    mirrors_next = record {
      until = st.until ∙ ap (counted_down 0 (advance - 1) e v) m.until ∙ sym (after_until e (closing count e (tuple_of v x) t));
      left =
          ap (λ n. n + 1) st.left ∙ count_down_left size advance p.left e v hs ha
          ∙ ap (λ n. if e then size else (if v then (if nat_eq n 1 then advance else (n - 1)) else n)) m.left
          ∙ sym (after_left e (closing count e (tuple_of v x) t));
      opened =
          st.opened ∙ ap (turned (count - 1) (opens_of v p)) m.opened
          ∙ ap (λ n. turned (count - 1) (v && nat_eq n 0) (s.opened % count)) m.until
          ∙ turned_if count s.opened (v && nat_eq s.until 0) hc
          ∙ ap (λ n. n % count) (sym (after_opened e v shut ∙ closed_opened count t (closing count e (tuple_of v x) t) ∙ open_opened advance count s v x));
      oldest =
          st.oldest ∙ ap (λ b. turned (count - 1) b p.oldest) closes_is ∙ ap (turned (count - 1) (closing count e (tuple_of v x) t)) oldest_is
          ∙ turned_if count t.closed (closing count e (tuple_of v x) t) hc
          ∙ ap (λ n. n % count) (sym (after_closed e v shut ∙ closed_closed count t (closing count e (tuple_of v x) t)));
      flags = λ k l.
          st.flags k l ∙ ap (λ b. b && not (end_of e v p k)) (mid_is k l) ∙ ap (λ b. t.is_open k && not b) (end_is k l)
          ∙ sym (after_flag e v shut k ∙ closed_flag count t (closing count e (tuple_of v x) t) k);
      flush = st.flush ∙ sym (after_flush e v shut ∙ ap (λ b. e || (b && not v)) shut_flush);
      wait = st.wait ∙ sym (after_wait e v shut ∙ ap (λ b. counted_down (stride - 1) (stride - 1) e (b && not v) shut.wait) shut_flush ∙ ap (counted_down (stride - 1) (stride - 1) e (p.flush && not v)) shut_wait);
      held = next_held;
    }

    -- and what a copy takes in it
    pub taken_is : (k : ℕ) → k < count → taken count e (tuple_of v x) t k ≡ (if valid_of e v p k then Some q.row else None)
    taken_is k l = by e v refl refl
      where
        t_of : Bool → Front
        t_of v' = opening advance count (tuple_of v' x) s

        mid_at : (v' : Bool) → v ≡ v' → mid_of v' p k ≡ (opening advance count (tuple_of v' x) s).is_open k
        mid_at v' hv = subst (λ (b : Bool). mid_of b p k ≡ (opening advance count (tuple_of b x) s).is_open k) hv (mid_is k l)

        end_at : (e' v' : Bool) → e ≡ e' → v ≡ v' → end_of e' v' p k ≡ (closing count e' (tuple_of v' x) (opening advance count (tuple_of v' x) s) && nat_eq ((opening advance count (tuple_of v' x) s).closed % count) k)
        end_at e' v' he hv =
            subst (λ (a : Bool). end_of a v' p k ≡ (closing count a (tuple_of v' x) (opening advance count (tuple_of v' x) s) && nat_eq ((opening advance count (tuple_of v' x) s).closed % count) k)) he
            (subst (λ (b : Bool). end_of e b p k ≡ (closing count e (tuple_of b x) (opening advance count (tuple_of b x) s) && nat_eq ((opening advance count (tuple_of b x) s).closed % count) k)) hv (end_is k l))

        -- an idle end takes what came with the end
        idle_end : (z : Bool) → (z ≡ true → p.flush ≡ true) → (v ≡ false) → (if z then s.held else None) ≡ (if z && (p.flush && p.held) then Some q.row else None)
        idle_end false on hv = refl
        idle_end true on hv =
            let f = on refl in
            let row : q.row ≡ p.row = st.row (rw hv f) ∙ rw hv refl in
            rw (f, row) (m.held (sym m.flush ∙ f))

        on_flush : (f a b c : Bool) → (((f && a) && b) && c) ≡ true → f ≡ true
        on_flush true a b c h = refl
        on_flush false a b c h = h

        by : (e' v' : Bool) → e ≡ e' → v ≡ v' → taken count e' (tuple_of v' x) (opening advance count (tuple_of v' x) s) k ≡ (if valid_of e' v' p k then Some q.row else None)
        by true true he hv =
            let row : q.row ≡ x = st.row (rw hv refl) ∙ rw hv refl in
            let f = t_of true in
            rw (and-false (mid_of true p k), and-true (end_of true true p k), end_at true true he hv, row)
            (ap (λ b. if f.is_open (f.closed % count) && b then Some x else None) (eq_turned k (f.closed % count)))
        by true false he hv = rw (and-false (mid_of false p k), and-false (p.flush && true && p.held), and-false (end_of true false p k)) (if_same (s.is_open (s.closed % count) && nat_eq k (s.closed % count)) None)
        by false true he hv =
            let row : q.row ≡ x = st.row (rw hv refl) ∙ rw hv refl in
            ap (λ (b : Bool). if b then Some x else None) (sym (mid_at true hv) ∙ sym (only_mid (mid_of true p k) (end_of false true p k) p.flush p.held))
            ∙ ap (λ (r : Row). if valid_of false true p k then Some r else None) (sym row)
        by false false he hv =
            idle_end (((s.flush && nat_eq s.wait 0) && s.is_open (s.closed % count)) && nat_eq k (s.closed % count)) (λ h. m.flush ∙ on_flush s.flush (nat_eq s.wait 0) (s.is_open (s.closed % count)) (nat_eq k (s.closed % count)) h) hv
            ∙ ap (λ (b : Bool). if b && (p.flush && p.held) then Some q.row else None)
            (ap (λ b. ((s.flush && nat_eq s.wait 0) && s.is_open (s.closed % count)) && b) (eq_turned k (s.closed % count)) ∙ sym (end_at false false he hv))
            ∙ ap (λ (b : Bool). if b then Some q.row else None) (sym (only_end (mid_of false p k) (end_of false false p k) p.flush p.held))
