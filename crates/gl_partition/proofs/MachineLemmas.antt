-- One cycle of a slot's registers is one step of the machine.
use Rattle.std.proofs.Common.{◌≡◌, ℕ, suc, ◌+◌, ◌-◌, ◌%◌, ◌<◌, ◌≤◌, Option, Some, None, Bool, true, false, refl, sym, ap, ◌∙◌, arith}
use Rattle.std.specs.Prelude.{nat_eq, not, ◌&&◌, ◌||◌, if◌then◌else◌}
use Rattle.std.proofs.lemmas.Nat.{mod_below}
use Rattle.std.proofs.Math.Bool.{and-true, and-false}
use Rattle.gl_values.specs.Results.{Row}
use Rattle.gl_bits.proofs.Bools.{and_right, or_none, same_test, eq_turned}
use Rattle.gl_wire_registers.specs.Held.{counted_down, turned}
use Rattle.gl_wire_registers.specs.Lines.{any_to}
use Rattle.gl_wire_registers.proofs.LineLemmas.{any_at}
use Rattle.gl_windows.proofs.MachineLemmas.{at_oldest, count_down_left, turned_if, tuple_of}
use Rattle.gl_partition.specs.Machine.{Numbers, Windows, opening, one_opened, closing, closed_by, counted, next, taken}
use Rattle.gl_partition.specs.Values.{Cycle, Mirrors, Steps, Values, end_of, mid_of, opens_of, trigger_of, valid_of}

-- ---- what an opening and a closing leave

module _ (advance copies : ℕ) (s : Windows) where
  abbrev nearer : Windows
  nearer = record s { until = s.until - 1 }

  open_closed : (v : Bool) (x : Row) → (opening advance copies (tuple_of v x) s).closed ≡ s.closed
  open_closed false x = refl
  open_closed true x = by (nat_eq s.until 0)
    where
      by : (z : Bool) → (if z then one_opened advance copies s else nearer).closed ≡ s.closed
      by true = refl
      by false = refl

  open_left : (v : Bool) (x : Row) → (opening advance copies (tuple_of v x) s).left ≡ s.left
  open_left false x = refl
  open_left true x = by (nat_eq s.until 0)
    where
      by : (z : Bool) → (if z then one_opened advance copies s else nearer).left ≡ s.left
      by true = refl
      by false = refl

  open_until : (v : Bool) (x : Row) → (opening advance copies (tuple_of v x) s).until ≡ counted_down 0 (advance - 1) false v s.until
  open_until false x = refl
  open_until true x = by (nat_eq s.until 0)
    where
      by : (z : Bool) → (if z then one_opened advance copies s else nearer).until ≡ (if z then advance - 1 else (s.until - 1))
      by true = refl
      by false = refl

  open_opened : (v : Bool) (x : Row) → (opening advance copies (tuple_of v x) s).opened ≡ (if v && nat_eq s.until 0 then suc s.opened else s.opened)
  open_opened false x = refl
  open_opened true x = by (nat_eq s.until 0)
    where
      by : (z : Bool) → (if z then one_opened advance copies s else nearer).opened ≡ (if z then suc s.opened else s.opened)
      by true = refl
      by false = refl

  open_flag : (v : Bool) (x : Row) (k : ℕ) → (opening advance copies (tuple_of v x) s).is_open k ≡ (s.is_open k || ((v && nat_eq s.until 0) && nat_eq (s.opened % copies) k))
  open_flag false x k = sym (or_none (s.is_open k))
  open_flag true x k = by (nat_eq s.until 0)
    where
      by : (z : Bool) → (if z then one_opened advance copies s else nearer).is_open k ≡ (s.is_open k || (z && nat_eq (s.opened % copies) k))
      by true = ap (λ b. s.is_open k || b) (eq_turned k (s.opened % copies))
      by false = sym (or_none (s.is_open k))

module _ (copies : ℕ) (t : Windows) where
  closed_until : (b : Bool) → (closed_by copies b t).until ≡ t.until
  closed_until true = refl
  closed_until false = refl

  closed_left : (b : Bool) → (closed_by copies b t).left ≡ t.left
  closed_left true = refl
  closed_left false = refl

  closed_opened : (b : Bool) → (closed_by copies b t).opened ≡ t.opened
  closed_opened true = refl
  closed_opened false = refl

  closed_closed : (b : Bool) → (closed_by copies b t).closed ≡ (if b then suc t.closed else t.closed)
  closed_closed true = refl
  closed_closed false = refl

  closed_flag : (b : Bool) (k : ℕ) → (closed_by copies b t).is_open k ≡ (t.is_open k && not (b && nat_eq (t.closed % copies) k))
  closed_flag true k = ap (λ q. t.is_open k && not q) (eq_turned k (t.closed % copies))
  closed_flag false k = sym (and-true (t.is_open k))

-- a slot has no turn with a tuple
closing_by : (copies : ℕ) (v due : Bool) (x : Row) (t : Windows) (l : ℕ) → (v ≡ true → due ≡ false) → t.left ≡ l + 1
    → closing copies due (tuple_of v x) t ≡ (((v && nat_eq l 0) || due) && t.is_open (t.closed % copies))
closing_by copies true due x t l quiet a =
    let same : nat_eq t.left 1 ≡ nat_eq l 0 = same_test t.left 1 l 0 (λ h. omega (arith, h, a)) (λ h. omega (arith, h, a)) in
    let none = quiet refl in
    rw (same, none, or_none (nat_eq l 0)) refl
closing_by copies false due x t l quiet a = refl

-- ---- what a copy takes

mid_alone : (m n last : Bool) → (n ≡ true → m ≡ true) → ((m && true) || (n && last)) ≡ m
mid_alone true n last so = refl
mid_alone false true last so = absurd (let z = so refl in cc (z))
mid_alone false false last so = refl

end_alone : (m n last : Bool) → ((m && false) || (n && last)) ≡ (n && last)
end_alone m n last = rw (and-false m) refl

idle_end : (d o q last : Bool) (row : Row) (held : Option Row) → (d ≡ true → held ≡ tuple_of last row)
    → (if (d && o) && q then held else None) ≡ (if ((d && o) && q) && last then Some row else None)
idle_end true true true last row held is = is refl
idle_end true true false last row held is = refl
idle_end true false q last row held is = refl
idle_end false o q last row held is = refl

-- a copy takes its slot's tuple at once, but with an end the one that ends alone; and in its turn what is kept of the end
taken_by : (copies : ℕ) (e v due last : Bool) (x row : Row) (held : Option Row) (t : Windows) (k : ℕ) (m n : Bool)
    → m ≡ t.is_open k → n ≡ (closing copies due (tuple_of v x) t && nat_eq k (t.closed % copies)) → (n ≡ true → m ≡ true)
    → (v ≡ true → row ≡ x) → (e ≡ true → v ≡ true → last ≡ true) → (v ≡ false → due ≡ true → held ≡ tuple_of last row)
    → taken copies e due (tuple_of v x) held t k ≡ (if (m && (v && not e)) || (n && last) then Some row else None)
taken_by copies true true due last x row held t k m n is_m is_n so is_row is_last is_held =
    let y = is_last refl refl in
    ap (λ (b : Bool). if b then Some x else None) (sym is_n) ∙ ap (λ (r : Row). if n then Some r else None) (sym (is_row refl))
    ∙ ap (λ (b : Bool). if b then Some row else None) (sym (end_alone m n last ∙ ap (λ b. n && b) y ∙ and-true n))
taken_by copies false true due last x row held t k m n is_m is_n so is_row is_last is_held =
    ap (λ (b : Bool). if b then Some x else None) (sym is_m) ∙ ap (λ (r : Row). if m then Some r else None) (sym (is_row refl))
    ∙ ap (λ (b : Bool). if b then Some row else None) (sym (mid_alone m n last so))
taken_by copies true false due last x row held t k m n is_m is_n so is_row is_last is_held =
    idle_end due (t.is_open (t.closed % copies)) (nat_eq k (t.closed % copies)) last row held (is_held refl)
    ∙ ap (λ (b : Bool). if b && last then Some row else None) (sym is_n) ∙ ap (λ (b : Bool). if b then Some row else None) (sym (end_alone m n last))
taken_by copies false false due last x row held t k m n is_m is_n so is_row is_last is_held =
    idle_end due (t.is_open (t.closed % copies)) (nat_eq k (t.closed % copies)) last row held (is_held refl)
    ∙ ap (λ (b : Bool). if b && last then Some row else None) (sym is_n) ∙ ap (λ (b : Bool). if b then Some row else None) (sym (end_alone m n last))

-- ---- one cycle

module _ (n : Numbers) (hs : 1 ≤ n.size) (ha : 1 ≤ n.advance) (hc : 1 ≤ n.copies) (c : Cycle) (x : Row) (quiet : c.own ≡ true → c.due ≡ false) (s : Windows) (p : Values) (m : Mirrors n.copies s p) where
  abbrev pub t : Windows
  t = opening n.advance n.copies (tuple_of c.own x) s

  abbrev pub after : Windows
  after = next n c.end c.due (tuple_of c.own x) s

  mid_is : (k : ℕ) → k < n.copies → mid_of c p k ≡ t.is_open k
  mid_is k l =
      ap (λ b. b || ((c.own && nat_eq p.until 0) && nat_eq p.opened k)) (m.flags k l)
      ∙ ap (λ i. s.is_open k || ((c.own && nat_eq i 0) && nat_eq p.opened k)) m.until
      ∙ ap (λ i. s.is_open k || ((c.own && nat_eq s.until 0) && nat_eq i k)) m.opened
      ∙ sym (open_flag n.advance n.copies s c.own x k)

  oldest_is : p.oldest ≡ t.closed % n.copies
  oldest_is = m.oldest ∙ ap (λ i. i % n.copies) (sym (open_closed n.advance n.copies s c.own x))

  oldest_low : p.oldest < n.copies
  oldest_low = let h = mod_below t.closed n.copies hc in omega (arith, h, oldest_is)

  abbrev shuts : Bool
  shuts = closing n.copies c.due (tuple_of c.own x) t

  closing_is : shuts ≡ (trigger_of c p && t.is_open (t.closed % n.copies))
  closing_is = closing_by n.copies c.own c.due x t p.left quiet (open_left n.advance n.copies s c.own x ∙ sym m.left)

  closes_is : any_to n.copies (end_of c p) ≡ shuts
  closes_is =
      any_at n.copies p.oldest (trigger_of c p) (mid_of c p) (end_of c p) oldest_low (λ k l. refl)
      ∙ ap (λ b. trigger_of c p && b) (mid_is p.oldest oldest_low ∙ ap t.is_open oldest_is) ∙ sym closing_is

  ends_at : (k : ℕ) → k < n.copies → end_of c p k ≡ (shuts && nat_eq (t.closed % n.copies) k)
  ends_at k l =
      at_oldest p.oldest k (trigger_of c p) (mid_of c p)
      ∙ ap (λ b. (trigger_of c p && b) && nat_eq p.oldest k) (mid_is p.oldest oldest_low ∙ ap t.is_open oldest_is)
      ∙ ap (λ b. b && nat_eq p.oldest k) (sym closing_is)
      ∙ ap (λ i. shuts && nat_eq i k) oldest_is

  pub end_is : (k : ℕ) → k < n.copies → end_of c p k ≡ (shuts && nat_eq k (t.closed % n.copies))
  end_is k l = ends_at k l ∙ ap (λ b. shuts && b) (eq_turned (t.closed % n.copies) k)

  -- the fields of the next state
  after_until : (e v b : Bool) → (counted n.size n.advance e (tuple_of v x) (closed_by n.copies b (opening n.advance n.copies (tuple_of v x) s))).until ≡ counted_down 0 (n.advance - 1) e v s.until
  after_until true v b = refl
  after_until false true b = closed_until n.copies (opening n.advance n.copies (Some x) s) b ∙ open_until n.advance n.copies s true x
  after_until false false b = closed_until n.copies s b

  after_left : (e v b : Bool)
      → (counted n.size n.advance e (tuple_of v x) (closed_by n.copies b (opening n.advance n.copies (tuple_of v x) s))).left ≡ (if e then n.size else (if v then (if nat_eq s.left 1 then n.advance else (s.left - 1)) else s.left))
  after_left true v b = refl
  after_left false true b =
      ap (λ i. if nat_eq i 1 then n.advance else (i - 1)) (closed_left n.copies (opening n.advance n.copies (Some x) s) b ∙ open_left n.advance n.copies s true x)
  after_left false false b = closed_left n.copies s b

  after_opened : (e v : Bool) (f : Windows) → (counted n.size n.advance e (tuple_of v x) f).opened ≡ f.opened
  after_opened true v f = refl
  after_opened false true f = refl
  after_opened false false f = refl

  after_closed : (e v : Bool) (f : Windows) → (counted n.size n.advance e (tuple_of v x) f).closed ≡ f.closed
  after_closed true v f = refl
  after_closed false true f = refl
  after_closed false false f = refl

  after_flag : (e v : Bool) (f : Windows) (k : ℕ) → (counted n.size n.advance e (tuple_of v x) f).is_open k ≡ f.is_open k
  after_flag true v f k = refl
  after_flag false true f k = refl
  after_flag false false f k = refl

  abbrev shut : Windows
  shut = closed_by n.copies shuts t

  module _ (q : Values) (st : Steps n c p q) where
    -- one cycle is one step
    pub mirrors_next : Mirrors n.copies after q
    mirrors_next = record {
      until = st.until ∙ ap (counted_down 0 (n.advance - 1) c.end c.own) m.until ∙ sym (after_until c.end c.own shuts);
      left =
          ap (λ i. i + 1) st.left ∙ count_down_left n.size n.advance p.left c.end c.own hs ha
          ∙ ap (λ i. if c.end then n.size else (if c.own then (if nat_eq i 1 then n.advance else (i - 1)) else i)) m.left
          ∙ sym (after_left c.end c.own shuts);
      opened =
          st.opened ∙ ap (turned (n.copies - 1) (opens_of c p)) m.opened
          ∙ ap (λ i. turned (n.copies - 1) (c.own && nat_eq i 0) (s.opened % n.copies)) m.until
          ∙ turned_if n.copies s.opened (c.own && nat_eq s.until 0) hc
          ∙ ap (λ i. i % n.copies) (sym (after_opened c.end c.own shut ∙ closed_opened n.copies t shuts ∙ open_opened n.advance n.copies s c.own x));
      oldest =
          st.oldest ∙ ap (λ b. turned (n.copies - 1) b p.oldest) closes_is ∙ ap (turned (n.copies - 1) shuts) oldest_is
          ∙ turned_if n.copies t.closed shuts hc
          ∙ ap (λ i. i % n.copies) (sym (after_closed c.end c.own shut ∙ closed_closed n.copies t shuts));
      flags = λ k l.
          st.flags k l ∙ ap (λ b. b && not (end_of c p k)) (mid_is k l) ∙ ap (λ b. t.is_open k && not b) (ends_at k l)
          ∙ sym (after_flag c.end c.own shut k ∙ closed_flag n.copies t shuts k);
    }

  -- and what a copy takes in it
  pub taken_is : (row : Row) (held : Option Row) → (c.own ≡ true → row ≡ x) → (c.end ≡ true → c.own ≡ true → c.last ≡ true) → (c.own ≡ false → c.due ≡ true → held ≡ tuple_of c.last row)
      → (k : ℕ) → k < n.copies → taken n.copies c.end c.due (tuple_of c.own x) held t k ≡ (if valid_of c p k then Some row else None)
  taken_is row held is_row is_last is_held k l =
      taken_by n.copies c.end c.own c.due c.last x row held t k (mid_of c p k) (end_of c p k) (mid_is k l) (end_is k l)
      (and_right (trigger_of c p && nat_eq p.oldest k) (mid_of c p k)) is_row is_last is_held
