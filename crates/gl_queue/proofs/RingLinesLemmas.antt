-- Lines and buses that make a ring make a queue.
use Rattle.std.proofs.Common.{◌≡◌, ℕ, zero, suc, ◌+◌, ◌%◌, ◌^◌, ◌≤◌, List, [], ◌∷◌, ◌++◌, map, Some, None, Bool, true, false, refl, sym, ap, ◌∙◌, arith}
use Rattle.std.specs.Prelude.{is_some, not, ◌&&◌, ◌||◌, if◌then◌else◌, nat_eq}
use Rattle.std.proofs.lemmas.Bool.{ne_eqb, eq-eqb}
use Rattle.std.proofs.lemmas.List.{map-append}
use Rattle.std.proofs.Math.Nat.{pow-le-pow_right}
use Rattle.gl_values.specs.Results.{Row}
use Rattle.gl_net.specs.declared.node.Bus.{Bus}
use Rattle.gl_net.specs.declared.node.Bit.{Bit}
use Rattle.gl_net.specs.Net.{Run, stored_of}
use Rattle.gl_wire.specs.Wire.{line_at, row_at, tuple_at}
use Rattle.gl_queue.specs.Queue.{IsQueue}
use Rattle.gl_queue.specs.Ring.{wrap, IsRing}
use Rattle.gl_wire_lanes.specs.Memories.{IsHeld}
use Rattle.gl_queue.specs.RingLines.{AreHeld, IsRingOf, RingLinesAreQueues, ArePlaces, IsPassed}
use Rattle.gl_queue.proofs.RingLemmas.{wrap_mod, wrap_depth, rings_are_queues}

pub held_none : (run : Run) (push : Bit) (tail head : Bus) → AreHeld run push tail head [] []
unfolding row_at
held_none run push tail head = record { words = λ t k. []; reads = λ t. refl; writes = λ t k. same (nat_eq (run.at t push.node) 1 && nat_eq (run.at t tail.node) k) }
  where
    nil : List ℕ
    nil = []

    same : (b : Bool) → nil ≡ (if b then nil else nil)
    same true = refl
    same false = refl

-- one column more
pub held_more : (run : Run) (push : Bit) (tail head column out : Bus) (columns outs : List Bus) → AreHeld run push tail head columns outs → IsHeld run push tail head column out → AreHeld run push tail head (columns ++ (column ∷ [])) (outs ++ (out ∷ []))
unfolding row_at stored_of
held_more run push tail head column out columns outs h i = record {
  words = λ t k. h.words t k ++ (i.word t k ∷ []);
  reads = λ t. map-append (λ b. run.at t b.node) outs (out ∷ []) ∙ rw (h.reads t, i.reads t) refl;
  writes = λ t k. rw (h.writes t k, i.writes t k) (both (nat_eq (run.at t push.node) 1 && nat_eq (run.at t tail.node) k) (map (λ b. run.at t b.node) columns) (run.at t column.node) (h.words t k) (i.word t k) ∙ ap (λ r. if nat_eq (run.at t push.node) 1 && nat_eq (run.at t tail.node) k then r else h.words t k ++ (i.word t k ∷ [])) (sym (map-append (λ b. run.at t b.node) columns (column ∷ []))));
}
  where
    both : (b : Bool) (xs : List ℕ) (x : ℕ) (ys : List ℕ) (y : ℕ) → (if b then xs else ys) ++ ((if b then x else y) ∷ []) ≡ (if b then xs ++ (x ∷ []) else ys ++ (y ∷ []))
    both true xs x ys y = refl
    both false xs x ys y = refl

module _ (run : Run) (bits depth : ℕ) (push hold some passed : Bit) (head tail : Bus) (columns outs : List Bus) (most : depth ≤ 2 ^ bits) (m : IsRingOf run bits depth push hold some passed head tail columns outs) where
  -- a tuple comes where the line is 1
  comes : (v : Bit) (bs : List Bus) (c : ℕ) → is_some (tuple_at run v bs c) ≡ line_at run v c
  unfolding tuple_at
  comes v bs c = by (line_at run v c)
    where
      by : (b : Bool) → is_some (if b then Some (row_at run c bs) else None) ≡ b
      by true = refl
      by false = refl

  row_is : (c : ℕ) (r : Row) → tuple_at run push columns c ≡ Some r → (line_at run push c ≡ true) × (row_at run c columns ≡ r)
  unfolding tuple_at
  row_is c r h = by (line_at run push c) refl h
    where
      by : (b : Bool) → line_at run push c ≡ b → (if b then Some (row_at run c columns) else None) ≡ Some r → (line_at run push c ≡ true) × (row_at run c columns ≡ r)
      by true p q = (p, cc q)
      by false p q = absurd (cc q)

  none_is : (c : ℕ) → tuple_at run push columns c ≡ None → line_at run push c ≡ false
  none_is c h = sym (comes push columns c) ∙ ap is_some h

  line_0 : (v : Bit) → line_at run v 0 ≡ false
  unfolding line_at
  line_0 v = refl

  line_is : (v : Bit) (t : ℕ) → line_at run v (suc t) ≡ nat_eq (run.at (suc t) v.node) 1
  unfolding line_at
  line_is v t = refl

  blank : tuple_at run push columns 0 ≡ None
  unfolding tuple_at line_at
  blank = refl

  shows : (c : ℕ) → tuple_at run some outs c ≡ (if line_at run some c then Some (m.held.words c (run.at c head.node)) else None)
  unfolding tuple_at
  shows c = rw (m.held.reads c) refl

  swap : (x y : Bool) → x && y ≡ y && x
  swap true true = refl
  swap true false = refl
  swap false true = refl
  swap false false = refl

  at_one : (t : ℕ) → (run.at t head.node + 1) % 2 ^ bits ≡ wrap (2 ^ bits) (run.at t head.node + 1)
  at_one t = let l = m.low t in sym (wrap_mod (2 ^ bits) (run.at t head.node + 1) (omega (arith, l)))

  tail_one : (t : ℕ) → (run.at t tail.node + 1) % 2 ^ bits ≡ wrap (2 ^ bits) (run.at t tail.node + 1)
  tail_one t = let l = m.tail_low t in sym (wrap_mod (2 ^ bits) (run.at t tail.node + 1) (omega (arith, l)))

  -- the boolean forms are those of the ring
  one_left : (p s h l : Bool) → p || (s && not ((s && not h) && l)) ≡ p || (s && not (not h && l))
  one_left true s h l = refl
  one_left false true h l = refl
  one_left false false h l = refl

  written_is : (c : ℕ) → 1 ≤ c → (k : ℕ) → m.held.words (suc c) k ≡ (if line_at run push c && nat_eq (run.at c tail.node) k then row_at run c columns else m.held.words c k)
  written_is zero l k = absurd (omega (arith, l))
  written_is (suc c) l k = m.held.writes (suc c) k ∙ ap (λ b. if b && nat_eq (run.at (suc c) tail.node) k then row_at run (suc c) columns else m.held.words (suc c) k) (sym (line_is push c))

  ring : IsRing (2 ^ bits) depth (tuple_at run push columns) (λ c. not (line_at run hold c)) (tuple_at run some outs) (line_at run passed)
  ring = record {
    some = line_at run some;
    head = λ c. run.at c head.node;
    tail = λ c. run.at c tail.node;
    word = m.held.words;
    blank = blank;
    none_yet = line_0 some;
    none_first = m.some_first;
    head_first = m.head_first;
    tail_first = m.tail_first;
    shows = shows;
    full = full;
    head_next = head_next;
    tail_next = tail_next;
    some_next = some_next;
    written = λ c r l h. let z = row_is c r h in written_is c l (run.at c tail.node) ∙ rw (z.0, eq-eqb (run.at c tail.node) (run.at c tail.node) refl) z.1;
    kept = λ c x l n. written_is c l x ∙ rw (ne_eqb (run.at c tail.node) x (λ e. n (sym e))) (off (line_at run push c) (row_at run c columns) (m.held.words c x));
    all_kept = λ c x l h. written_is c l x ∙ rw (none_is c h) refl;
  }
    where
      off : (b : Bool) (r v : Row) → (if b && false then r else v) ≡ v
      off true r v = refl
      off false r v = refl

      full : (c : ℕ) → line_at run passed c ≡ is_some (tuple_at run push columns c) && (line_at run some c && nat_eq (wrap (2 ^ bits) (run.at c head.node + depth)) (run.at c tail.node)) && not (not (line_at run hold c) && line_at run some c)
      full zero = rw (line_0 passed, comes push columns 0, line_0 push) refl
      full (suc c) = m.passed_is c ∙ rw (comes push columns (suc c), wrap_depth (2 ^ bits) (run.at (suc c) head.node) depth (m.low (suc c)) most, swap (line_at run some (suc c)) (not (line_at run hold (suc c)))) refl

      head_next : (c : ℕ) → 1 ≤ c → run.at (suc c) head.node ≡ (if not (line_at run hold c) && line_at run some c then wrap (2 ^ bits) (run.at c head.node + 1) else run.at c head.node)
      head_next zero l = absurd (omega (arith, l))
      head_next (suc c) l = m.head_next c ∙ rw (swap (line_at run some (suc c)) (not (line_at run hold (suc c))), at_one (suc c)) refl

      tail_next : (c : ℕ) → 1 ≤ c → run.at (suc c) tail.node ≡ (if is_some (tuple_at run push columns c) then wrap (2 ^ bits) (run.at c tail.node + 1) else run.at c tail.node)
      tail_next zero l = absurd (omega (arith, l))
      tail_next (suc c) l = m.tail_next c ∙ rw (tail_one (suc c), comes push columns (suc c)) refl

      some_next : (c : ℕ) → 1 ≤ c → line_at run some (suc c) ≡ is_some (tuple_at run push columns c) || (line_at run some c && not (not (line_at run hold c) && nat_eq (wrap (2 ^ bits) (run.at c head.node + 1)) (run.at c tail.node)))
      some_next zero l = absurd (omega (arith, l))
      some_next (suc c) l = m.some_next c ∙ one_left (line_at run push (suc c)) (line_at run some (suc c)) (line_at run hold (suc c)) (nat_eq ((run.at (suc c) head.node + 1) % 2 ^ bits) (run.at (suc c) tail.node)) ∙ rw (comes push columns (suc c), at_one (suc c)) refl

two_of : (bits : ℕ) → 1 ≤ bits → 2 ≤ 2 ^ bits
two_of bits l = pow-le-pow_right {n = 2} (omega arith) {i = 1} l

pub ring_lines_are_queues : RingLinesAreQueues
ring_lines_are_queues run bits depth push hold some passed head tail columns outs one some_places most m = rings_are_queues Row (2 ^ bits) depth (tuple_at run push columns) (λ c. not (line_at run hold c)) (tuple_at run some outs) (line_at run passed) (two_of bits one) some_places most (ring run bits depth push hold some passed head tail columns outs most m)

-- the parts of a ring make one
pub ring_of : (run : Run) (bits depth : ℕ) (push hold some pop passed : Bit) (head tail : Bus) (columns outs : List Bus) → ArePlaces run bits push hold some pop head tail → IsPassed run bits depth push some pop passed head tail → AreHeld run push tail head columns outs → IsRingOf run bits depth push hold some passed head tail columns outs
ring_of run bits depth push hold some pop passed head tail columns outs p f h = record {
  low = p.at_head.low;
  head_first = p.at_head.start;
  tail_first = p.at_tail.start;
  some_first = p.some_first;
  head_next = λ t. p.at_head.next t ∙ ap (λ b. if b then (run.at (suc t) head.node + 1) % 2 ^ bits else run.at (suc t) head.node) (p.pops (suc t));
  tail_next = p.at_tail.next;
  tail_low = p.at_tail.low;
  some_next = λ t. p.some_next t ∙ ap (λ b. line_at run push (suc t) || (line_at run some (suc t) && not (b && nat_eq ((run.at (suc t) head.node + 1) % 2 ^ bits) (run.at (suc t) tail.node)))) (p.pops (suc t));
  passed_is = λ t. f.is t ∙ ap (λ b. (line_at run push (suc t) && (line_at run some (suc t) && nat_eq ((run.at (suc t) head.node + depth % 2 ^ bits) % 2 ^ bits) (run.at (suc t) tail.node))) && not b) (p.pops (suc t));
  held = h;
}

pub ring_queue : (run : Run) (bits depth : ℕ) (push hold some pop passed : Bit) (head tail : Bus) (columns outs : List Bus) → 1 ≤ bits → 1 ≤ depth → depth ≤ 2 ^ bits → ArePlaces run bits push hold some pop head tail → IsPassed run bits depth push some pop passed head tail → AreHeld run push tail head columns outs → IsQueue depth (tuple_at run push columns) (λ c. not (line_at run hold c)) (tuple_at run some outs) (line_at run passed)
ring_queue run bits depth push hold some pop passed head tail columns outs one some_places most p f h = ring_lines_are_queues run bits depth push hold some passed head tail columns outs one some_places most (ring_of run bits depth push hold some pop passed head tail columns outs p f h)
