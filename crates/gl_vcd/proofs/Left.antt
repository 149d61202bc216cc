-- The lines that are left of a dump, where one token more is read.
use Rattle.std.proofs.Common.{◌≡◌, ℕ, zero, suc, ◌+◌, ◌-◌, ◌<◌, ◌≤◌, Bool, false, List, [], ◌∷◌, ◌++◌, length, map, Option, Some, None, Ok, refl, sym, ap, ◌∙◌, append_assoc, arith}
use Rattle.std.specs.Prelude.{◌||◌, bytes_eq, option_and_then, unwrap_or}
use Rattle.gl_values.specs.declared.kind.Kind.{Kind}
use Rattle.gl_schema.specs.Ports.{PortValues}
use Rattle.gl_schema.specs.Seen.{Shown, cycle_lines, lines_after, seen, shown}
use Rattle.gl_vcd.specs.declared.changing.Changing.{Changing}
use Rattle.gl_vcd.specs.declared.showing.Showing.{Showing}
use Rattle.gl_vcd.specs.Reading.{Reading, dump_from, end_of, next}
use Rattle.gl_vcd.specs.Showings.{IsShowing, lines_left, names_shown, shown_from, steady, told_after}
use Rattle.gl_vcd.specs.Signals.{Dump, Signal, columns_of, kind_of, lines_of, number_of_name, ports_of, seen_below, value_at, value_of}
use Rattle.gl_vcd.specs.Standing.{GoesOn, Keeps, bits_in, now_of, signals_of}
use Rattle.gl_vcd.specs.Tokens.{Token}
use Rattle.gl_vcd.proofs.Changed.{value_same}
use Rattle.gl_vcd.proofs.Going.{Follows, IsFrontOf, at_end, is_among, step, waits_among, whole}
use Rattle.gl_vcd.proofs.Kept.{place_below}
use Rattle.gl_vcd.proofs.RoundTrip.{same_shown}

-- ---- cycles, one behind the other

shown_parts : (p : PortValues) (outs : List (List ℕ)) (n a b : ℕ) → shown_from p outs n (a + b) ≡ shown_from p outs n a ++ shown_from p outs (n + a) b
shown_parts p outs n zero b =
    ap (shown_from p outs n) (let e : 0 + b ≡ b = omega arith in e) ∙ ap (λ (m : ℕ). shown_from p outs m b) (let e : n ≡ n + 0 = omega arith in e)
shown_parts p outs n (suc a) b =
    ap (shown_from p outs n) (let e : suc a + b ≡ suc (a + b) = omega arith in e)
    ∙ ap (λ (all : List Shown). shown p outs n ∷ all) (shown_parts p outs (n + 1) a b)
    ∙ ap (λ (m : ℕ). shown p outs n ∷ (shown_from p outs (n + 1) a ++ shown_from p outs m b)) (let e : n + 1 + a ≡ n + suc a = omega arith in e)

lines_parts : (told : Bool) (kinds : List Kind) (xs ys : List Shown) → lines_after told kinds (xs ++ ys) ≡ lines_after told kinds xs ++ lines_after (told_after told xs) kinds ys
lines_parts told kinds [] ys = refl
lines_parts told kinds (x ∷ xs) ys =
    ap (λ (bytes : List ℕ). cycle_lines kinds told x ++ bytes) (lines_parts (told || x.group) kinds xs ys)
    ∙ sym (append_assoc (cycle_lines kinds told x) (lines_after (told || x.group) kinds xs) (lines_after (told_after (told || x.group) xs) kinds ys))

same_from : (p q : PortValues) (outs : List (List ℕ)) (n k : ℕ) → ((j : ℕ) → n ≤ j → j < n + k → (name : List ℕ) → p (suc j) name ≡ q (suc j) name) → shown_from p outs n k ≡ shown_from q outs n k
same_from p q outs n zero same = refl
same_from p q outs n (suc k) same =
    ap (λ (s : Shown). s ∷ shown_from p outs (n + 1) k) (same_shown p q outs n (same n (omega arith) (omega arith)))
    ∙ ap (λ (all : List Shown). shown q outs n ∷ all) (same_from p q outs (n + 1) k (λ j low high. same j (omega (arith, low)) (omega (arith, high))))

-- ---- from the first cycle on

seen_from : (p : PortValues) (outs : List (List ℕ)) (n : ℕ) → seen p outs n ≡ shown_from p outs 0 (n + 1)
seen_from p outs zero = refl
seen_from p outs (suc n) =
    ap (λ (all : List Shown). all ++ shown p outs (suc n) ∷ []) (seen_from p outs n)
    ∙ ap (λ (m : ℕ). shown_from p outs 0 (n + 1) ++ shown p outs m ∷ []) (let e : suc n ≡ 0 + (n + 1) = omega arith in e)
    ∙ sym (shown_parts p outs 0 (n + 1) 1)
    ∙ ap (shown_from p outs 0) (let e : n + 1 + 1 ≡ suc n + 1 = omega arith in e)

below_from : (p : PortValues) (outs : List (List ℕ)) (n : ℕ) → seen_below p outs n ≡ shown_from p outs 0 n
below_from p outs zero = refl
below_from p outs (suc n) = seen_from p outs n ∙ ap (shown_from p outs 0) (let e : n + 1 ≡ suc n = omega arith in e)

-- all lines are left in front of the first change
pub all_left : (dump : Dump) (r : Reading) → r.time ≡ None → lines_of dump ≡ lines_left false dump r
unfolding lines_of
all_left dump r early =
    let columns = columns_of dump.signals in
    let names = map (λ (s : Signal). s.name) columns in
    let now : now_of r ≡ 0 = ap (λ (o : Option ℕ). unwrap_or o 0) early in
    ap (lines_after false (map kind_of columns)) (below_from (ports_of dump) names dump.last)
    ∙ ap (λ (k : ℕ). lines_after false (map kind_of columns) (shown_from (ports_of dump) names 0 k)) (let e : dump.last ≡ dump.last - 0 = omega arith in e)
    ∙ ap (λ (n : ℕ). lines_after false (map kind_of columns) (shown_from (ports_of dump) names n (dump.last - n))) (sym now)

-- and none at the end of the text
pub none_left : (len : ℕ) (told : Bool) (dump : Dump) (r : Reading) → end_of r len ≡ Ok dump → lines_left told dump r ≡ []
none_left len told dump r ends =
    let columns = columns_of dump.signals in
    ap (λ (k : ℕ). lines_after told (map kind_of columns) (shown_from (ports_of dump) (map (λ (s : Signal). s.name) columns) (now_of r) k))
    (let last = (at_end len r dump ends).last' in let e : dump.last - now_of r ≡ 0 = omega (arith, last) in e)

-- ---- one token more

-- what a token showed, and what is left behind it
module _ (told : Bool) (len : ℕ) (t : Token) (ts : List Token) (dump : Dump) (r r' : Reading) (s : Showing) (c c' : Changing)
    (shows : IsShowing s) (same : s.signals ≡ c.signals) (keeps : Keeps r c) (keeps' : Keeps r' c') (goes : GoesOn c c')
    (says : next r t ≡ Ok r') (tells : dump_from len ts r' ≡ Ok dump) where
  abbrev pub ss : List Signal
  ss = signals_of s.signals.now

  front : IsFrontOf r' dump
  front = whole len ts r' dump (ap is_among keeps'.stage' ∙ waits_among c'.waits) tells

  follows : Follows r r'
  follows = step r r' t (ap is_among keeps.stage' ∙ waits_among c.waits) says

  signals_are : dump.signals ≡ ss
  signals_are = front.signals' ∙ keeps'.holds.signals' ∙ ap (λ x. signals_of x.now) (goes.signals' ∙ sym same)

  value_then : (i j : ℕ) → i < length c'.values.items → now_of r ≤ j → j < now_of r' → value_at dump.changes i j ≡ bits_in c'.values.items i
  value_then i j below low high =
      let early = follows.still keeps.holds.early in
      front.past i j high ∙ sym (value_same r'.changes i (now_of r) j early low) ∙ value_same r'.changes i (now_of r) (now_of r') early follows.later
      ∙ sym (keeps'.holds.values' i below)

  port_then : (j : ℕ) → now_of r ≤ j → j < now_of r' → (name : List ℕ) → ports_of dump (suc j) name ≡ steady ss c'.values.items (suc j) name
  port_then j low high name =
      ap (λ (xs : List Signal). value_of dump j (number_of_name xs name)) signals_are ∙ by (number_of_name ss name) refl
    where
      by : (o : Option ℕ) → number_of_name ss name ≡ o → value_of dump j o ≡ option_and_then (bits_in c'.values.items) o
      by None e = refl
      by (Some i) e =
          let lt = place_below (λ (x : Signal). bytes_eq x.name name) ss i e in
          let size : length ss ≡ length c'.values.items = ap length (ap (λ x. signals_of x.now) (same ∙ sym goes.signals')) ∙ sym goes.ready.long in
          value_then i j (omega (arith, lt, size)) low high

  pub shown_then : lines_left told dump r ≡ lines_after told s.columns.kinds.items (shown_from (steady ss c'.values.items) (names_shown ss) (unwrap_or c.time 0) (unwrap_or c'.time 0 - unwrap_or c.time 0))
      ++ lines_left (told_after told (shown_from (steady ss c'.values.items) (names_shown ss) (unwrap_or c.time 0) (unwrap_or c'.time 0 - unwrap_or c.time 0))) dump r'
  shown_then =
      let names = names_shown dump.signals in
      let kinds = map kind_of (columns_of dump.signals) in
      let n = now_of r in
      let m = now_of r' in
      let le = follows.later in
      let last = front.later in
      let count : dump.last - n ≡ m - n + (dump.last - m) = omega (arith, le, last) in
      let place : n + (m - n) ≡ m = omega (arith, le) in
      let from : n ≡ unwrap_or c.time 0 = ap (λ (o : Option ℕ). unwrap_or o 0) keeps.holds.time' in
      let to : m ≡ unwrap_or c'.time 0 = ap (λ (o : Option ℕ). unwrap_or o 0) keeps'.holds.time' in
      let rest = shown_from (ports_of dump) names m (dump.last - m) in
      ap (λ (k : ℕ). lines_after told kinds (shown_from (ports_of dump) names n k)) count
      ∙ ap (lines_after told kinds) (shown_parts (ports_of dump) names n (m - n) (dump.last - m)
      ∙ ap (λ (x : ℕ). shown_from (ports_of dump) names n (m - n) ++ shown_from (ports_of dump) names x (dump.last - m)) place
      ∙ ap (λ (all : List Shown). all ++ rest)
      (same_from (ports_of dump) (steady ss c'.values.items) names n (m - n) (λ j low high name. port_then j low (omega (arith, high, place)) name)))
      ∙ lines_parts told kinds (shown_from (steady ss c'.values.items) names n (m - n)) rest
      ∙ ap (λ (xs : List Signal). lines_after told (map kind_of (columns_of xs)) (shown_from (steady ss c'.values.items) (names_shown xs) n (m - n))
      ++ lines_after (told_after told (shown_from (steady ss c'.values.items) (names_shown xs) n (m - n))) kinds rest) signals_are
      ∙ ap (λ (ks : List Kind). lines_after told ks (shown_from (steady ss c'.values.items) (names_shown ss) n (m - n))
      ++ lines_after (told_after told (shown_from (steady ss c'.values.items) (names_shown ss) n (m - n))) kinds rest) (sym shows.columns'.kinds')
      ∙ ap (λ (x : ℕ). lines_after told s.columns.kinds.items (shown_from (steady ss c'.values.items) (names_shown ss) x (m - x))
      ++ lines_after (told_after told (shown_from (steady ss c'.values.items) (names_shown ss) x (m - x))) kinds rest) from
      ∙ ap (λ (x : ℕ). lines_after told s.columns.kinds.items (shown_from (steady ss c'.values.items) (names_shown ss) (unwrap_or c.time 0) (x - unwrap_or c.time 0))
      ++ lines_after (told_after told (shown_from (steady ss c'.values.items) (names_shown ss) (unwrap_or c.time 0) (x - unwrap_or c.time 0))) kinds rest) to
