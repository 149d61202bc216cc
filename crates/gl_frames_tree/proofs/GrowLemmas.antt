-- A level over rows whose nodes are numbered numbers their children.
use Rattle.std.proofs.Common.{◌≡◌, ℕ, zero, suc, ◌+◌, ◌<◌, ◌≤◌, List, [], Some, Bool, true, false, length, refl, sym, ap, ◌∙◌, subst, arith, eq-eqb}
use Rattle.std.specs.Prelude.{◌*◌, not, ◌&&◌, ◌||◌, if◌then◌else◌, nat_eq, nat_lt, slice_get}
use Rattle.std.specs.List.{list_any}
use Rattle.gl_bits.proofs.AllLists.{get_below, get_last}
use Rattle.gl_bits.proofs.Bools.{and_both, and_left, and_no, and_right, by_cases, else_false, no_and, not_both}
use Rattle.gl_values.specs.Tables.{with_key}
use Rattle.gl_frames_map.proofs.PlaceLemmas.{added_is, added_new, added_room, is_added, listed_with, room_is, same_is, with_front, with_longer}
use Rattle.gl_frames_tree.specs.Growing.{Grows, Level, Numbered, Numbers, StaysSo, children_of, is_written, nodes_at, nodes_before, takes_child}
use Rattle.gl_frames_tree.proofs.NameLemmas.{at_end, at_none, at_row, nodes_begin, nodes_few, nodes_once, once_with, room_listed, unlisted_same}
use Rattle.gl_frames_tree.proofs.WordLemmas.{Words, words_none, words_row, words_same}

module _ (n : ℕ) (v : Level) (h : Numbers n v.rows) (g : Grows n v) (few : (c : ℕ) → v.digit c < 4) (quiet : v.rows.asks 0 ≡ false) where
  abbrev m : Numbered
  m = v.rows

  -- the nodes and their children before a cycle, and the name of the child that a row names
  abbrev y : ℕ → ℕ
  y c = m.name c * 4 + v.digit c

  abbrev qs : ℕ → List ℕ
  qs c = nodes_at n m c

  abbrev ps : ℕ → List ℕ
  ps c = nodes_before n m.valid y m.ends c

  ps_few : (c : ℕ) → length (ps c) ≤ n
  ps_few c = nodes_few n m.valid y m.ends c

  -- ---- a row's node

  row_asks : (c : ℕ) → m.valid c ≡ true → m.asks c ≡ true
  row_asks c e = and_left (m.asks c) (list_any (nat_eq (m.name c)) (with_key n (qs c) (m.name c))) (sym (h.valid c) ∙ e)

  fresh_new : (c : ℕ) → m.fresh c ≡ true → is_added n (qs c) (m.name c) ≡ true
  fresh_new c e = and_right (m.asks c) (is_added n (qs c) (m.name c)) (sym (h.fresh c) ∙ e)

  fresh_row : (c : ℕ) → m.fresh c ≡ true → m.valid c ≡ true
  fresh_row c e =
      h.valid c ∙ and_both (m.asks c) (list_any (nat_eq (m.name c)) (with_key n (qs c) (m.name c)))
      (and_left (m.asks c) (is_added n (qs c) (m.name c)) (sym (h.fresh c) ∙ e))
      (room_listed n (qs c) (m.name c) (added_room n (qs c) (m.name c) (fresh_new c e)))

  old_node : (c : ℕ) → m.valid c ≡ true → m.fresh c ≡ false → is_added n (qs c) (m.name c) ≡ false
  old_node c e f = and_no (m.asks c) (is_added n (qs c) (m.name c)) (sym (h.fresh c) ∙ f) (row_asks c e)

  old_place : (c : ℕ) → m.valid c ≡ true → m.fresh c ≡ false → slice_get (qs c) (m.number c) ≡ Some (m.name c)
  old_place c e f = ap (λ xs. slice_get xs (m.number c)) (sym (same_is n (qs c) (m.name c) (old_node c e f))) ∙ h.number c e

  first_fresh : m.valid 1 ≡ true → m.fresh 1 ≡ true
  first_fresh e = by_cases (m.fresh 1) (λ f. f)
      (λ f. absurd (omega (arith, get_below (qs 1) (m.number 1) (m.name 1) (old_place 1 e f), ap length (nodes_begin n m.asks m.name m.ends quiet))))

  no_row : m.valid 0 ≡ false
  no_row = h.valid 0 ∙ ap (λ (b : Bool). b && list_any (nat_eq (m.name 0)) (with_key n (qs 0) (m.name 0))) quiet

  -- ---- what is told of a row

  -- as many children are counted as there are, and the words tell of them
  pub record Right (c : ℕ) : Type 0 where
    pub counted : v.used c ≡ length (ps c)
    pub words : Words (qs c) (ps c) (v.there c) (v.child c)

  -- a child that is there is found at its place
  pub record Found (c : ℕ) : Type 0 where
    pub known : v.here c ≡ list_any (nat_eq (y c)) (ps c)
    pub place : v.here c ≡ true → slice_get (ps c) (v.number c) ≡ Some (y c)

  found_new : (c : ℕ) → Right c → m.valid c ≡ true → m.fresh c ≡ true → Found c
  found_new c r e f = record {
    known = g.none c e f ∙ sym (r.words.rooted (m.name c) (v.digit c) (few c) (added_new n (qs c) (m.name c) (fresh_new c f)));
    place = λ q. absurd (not_both (v.here c) q (g.none c e f));
  }

  found_old : (c : ℕ) → Right (suc (suc c)) → m.valid (suc (suc c)) ≡ true → m.fresh (suc (suc c)) ≡ false → Found (suc (suc c))
  found_old c r e f =
      let k = r.words.marked (m.number (suc (suc c))) (m.name (suc (suc c))) (v.digit (suc (suc c))) (few (suc (suc c))) (old_place (suc (suc c)) e f) in
      record {
        known = g.here c e f ∙ k.is_there;
        place = λ q. ap (slice_get (ps (suc (suc c)))) (g.seen c e f q) ∙ k.place (sym (g.here c e f) ∙ q);
      }

  found : (c : ℕ) → Right (suc c) → m.valid (suc c) ≡ true → Found (suc c)
  found zero r e = found_new 1 r e (first_fresh e)
  found (suc c) r e = by_cases (m.fresh (suc (suc c))) (λ f. found_new (suc (suc c)) r e f) (λ f. found_old c r e f)

  no_make : (c : ℕ) → m.valid c ≡ false → v.make c ≡ false
  no_make c e = g.make c ∙ ap (λ (b : Bool). (b && not (v.here c)) && not (v.lost c)) e

  -- a child begins exactly where it takes a place
  make_is : (c : ℕ) → m.valid c ≡ true → v.used c ≡ length (ps c) → Found c → v.make c ≡ is_added n (ps c) (y c)
  make_is c e used f =
      g.make c ∙ ap (λ b. (m.valid c && not (v.here c)) && not b) (g.lost c)
      ∙ ap (λ b. (b && not (v.here c)) && not ((b && not (v.here c)) && nat_eq (v.used c) n)) e
      ∙ by (v.here c) (nat_eq (v.used c) n) (nat_lt (length (ps c)) n) (room_is n (length (ps c)) (ps_few c) ∙ ap (λ x. not (nat_eq x n)) (sym used))
      ∙ ap (λ b. nat_lt (length (ps c)) n && not b) f.known
    where
      by : (l full room : Bool) → room ≡ not full → ((true && not l) && not ((true && not l) && full)) ≡ (room && not l)
      by true true room q = sym (ap (λ b. b && false) q)
      by true false room q = sym (ap (λ b. b && false) q)
      by false true room q = sym (ap (λ b. b && true) q)
      by false false room q = sym (ap (λ b. b && true) q)

  make_fresh : (c : ℕ) → v.make c ≡ (m.valid c && (not (v.here c) && not (v.lost c)))
  make_fresh c = g.make c ∙ by (m.valid c) (not (v.here c)) (not (v.lost c))
    where
      by : (p q r : Bool) → ((p && q) && r) ≡ (p && (q && r))
      by true q r = refl
      by false q r = refl

  -- a row is kept where its child is among those with it
  kept_row : (c : ℕ) → m.valid c ≡ true → v.used c ≡ length (ps c) → Found c → not (v.lost c) ≡ list_any (nat_eq (y c)) (with_key n (ps c) (y c))
  kept_row c e used f =
      ap not (g.lost c) ∙ ap (λ b. not ((b && not (v.here c)) && nat_eq (v.used c) n)) e
      ∙ by (v.here c) (nat_eq (v.used c) n) (nat_lt (length (ps c)) n) (room_is n (length (ps c)) (ps_few c) ∙ ap (λ x. not (nat_eq x n)) (sym used))
      ∙ ap (λ b. b || nat_lt (length (ps c)) n) f.known ∙ sym (listed_with n (ps c) (y c))
    where
      by : (l full room : Bool) → room ≡ not full → not ((true && not l) && full) ≡ (l || room)
      by true full room q = refl
      by false true room q = sym q
      by false false room q = sym q

  kept_place : (c : ℕ) → Right (suc c) → Found (suc c) → v.lost (suc c) ≡ false → m.valid (suc c) ≡ true
      → slice_get (with_key n (ps (suc c)) (y (suc c))) (v.number (suc c)) ≡ Some (y (suc c))
  kept_place c r f e q = by_cases (v.here (suc c))
      (λ p. with_front n (ps (suc c)) (y (suc c)) (v.number (suc c)) (y (suc c)) (f.place p)) new
    where
      new : v.here (suc c) ≡ false → slice_get (with_key n (ps (suc c)) (y (suc c))) (v.number (suc c)) ≡ Some (y (suc c))
      new p =
          let make = make_fresh (suc c) ∙ and_both (m.valid (suc c)) (not (v.here (suc c)) && not (v.lost (suc c))) q (and_both (not (v.here (suc c))) (not (v.lost (suc c))) (ap not p) (ap not e)) in
          let added = sym (make_is (suc c) q r.counted f) ∙ make in
          let number = g.next c p (omega (arith, r.counted, added_room n (ps (suc c)) (y (suc c)) added)) ∙ r.counted in
          ap (slice_get (with_key n (ps (suc c)) (y (suc c)))) number
          ∙ ap (λ xs. slice_get xs (length (ps (suc c)))) (added_is n (ps (suc c)) (y (suc c)) added) ∙ get_last (ps (suc c)) (y (suc c))

  -- ---- the words one cycle later

  module _ (c : ℕ) (right : Right (suc c)) where
    abbrev d : ℕ
    d = suc c

    count_next : v.used (suc d) ≡ (if m.ends d then 0 else (if v.make d then v.used d + 1 else v.used d))
    count_next = g.count c (omega (arith, right.counted, ps_few d))

    -- where the stream ends nothing is left
    ended : m.ends d ≡ true → Right (suc d)
    ended e =
        let none = at_end n m.valid y m.ends d e in
        let no_node = at_end n m.asks m.name m.ends d e in
        record {
          counted = count_next ∙ ap (λ (b : Bool). if b then 0 else (if v.make d then v.used d + 1 else v.used d)) e ∙ sym (ap length none);
          words = subst (λ (xs : List ℕ). Words xs (ps (suc d)) (v.there (suc d)) (v.child (suc d))) (sym no_node)
              (subst (λ (xs : List ℕ). Words [] xs (v.there (suc d)) (v.child (suc d))) (sym none) (words_none (v.there (suc d)) (v.child (suc d))));
        }

    going : m.ends d ≡ false → v.used (suc d) ≡ (if v.make d then v.used d + 1 else v.used d)
    going e = count_next ∙ ap (λ (b : Bool). if b then 0 else (if v.make d then v.used d + 1 else v.used d)) e

    -- where no row has a node nothing is written
    module _ (o : m.ends d ≡ false) (e : m.valid d ≡ false) where
      same_nodes : qs (suc d) ≡ qs d
      same_nodes = by_cases (m.asks d)
          (λ a. at_row n m.asks m.name m.ends d o a ∙ unlisted_same n (qs d) (m.name d)
          (and_no (m.asks d) (list_any (nat_eq (m.name d)) (with_key n (qs d) (m.name d))) (sym (h.valid d) ∙ e) a))
          (λ a. at_none n m.asks m.name m.ends d o a)

      no_fresh : m.fresh d ≡ false
      no_fresh = else_false (m.fresh d) (λ f. not_both (m.valid d) (fresh_row d f) e)

      unwritten : (k : ℕ) → is_written v d k ≡ false
      unwritten k = ap (λ (b : Bool). (b || m.fresh d) && nat_eq (m.number d) k) (no_make d e) ∙ ap (λ (b : Bool). (false || b) && nat_eq (m.number d) k) no_fresh

      idle : Right (suc d)
      idle = record {
        counted = going o ∙ ap (λ (b : Bool). if b then v.used d + 1 else v.used d) (no_make d e) ∙ right.counted ∙ sym (ap length (at_none n m.valid y m.ends d o e));
        words = subst (λ (xs : List ℕ). Words xs (ps (suc d)) (v.there (suc d)) (v.child (suc d))) (sym same_nodes)
            (subst (λ (xs : List ℕ). Words (qs d) xs (v.there (suc d)) (v.child (suc d))) (sym (at_none n m.valid y m.ends d o e))
            (words_same (qs d) (ps d) (v.there d) (v.there (suc d)) (v.child d) (v.child (suc d)) (λ j i l. g.idle c j i l (unwritten j)) right.words));
      }

    -- a row at its node
    module _ (o : m.ends d ≡ false) (e : m.valid d ≡ true) where
      told : Found d
      told = found c right e

      is_made : v.make d ≡ is_added n (ps d) (y d)
      is_made = make_is d e right.counted told

      is_fresh : m.fresh d ≡ is_added n (qs d) (m.name d)
      is_fresh = h.fresh d ∙ ap (λ (b : Bool). b && is_added n (qs d) (m.name d)) (row_asks d e)

      takes : (i : ℕ) → takes_child v d i ≡ (is_added n (ps d) (y d) && nat_eq (v.digit d) i)
      takes i = ap (λ (b : Bool). b && nat_eq (v.digit d) i) is_made

      own : nat_eq (m.number d) (m.number d) ≡ true
      own = eq-eqb (m.number d) (m.number d) refl

      others : (j i : ℕ) → i < 4 → nat_eq (m.number d) j ≡ false → StaysSo v d j i
      others j i l q = g.idle c j i l (no_and (v.make d || m.fresh d) (nat_eq (m.number d) j) (λ z. q))

      -- a word that is written
      written : (v.make d || m.fresh d) ≡ true → is_written v d (m.number d) ≡ true
      written q = and_both (v.make d || m.fresh d) (nat_eq (m.number d) (m.number d)) q own

      made : is_added n (ps d) (y d) ≡ true → (v.there (suc d) (m.number d) (v.digit d) ≡ true) × (v.child (suc d) (m.number d) (v.digit d) ≡ length (ps d))
      made a =
          let on = is_made ∙ a in
          let z = g.made c (m.number d) (v.digit d) (few d) (written (ap (λ (b : Bool). b || m.fresh d) on))
          (and_both (v.make d) (nat_eq (v.digit d) (v.digit d)) on (eq-eqb (v.digit d) (v.digit d) refl))
          (omega (arith, right.counted, added_room n (ps d) (y d) a)) in
          (z.0, z.1 ∙ right.counted)

      begun : (i : ℕ) → i < 4 → (is_added n (ps d) (y d) && nat_eq (v.digit d) i) ≡ false → is_added n (qs d) (m.name d) ≡ true → v.there (suc d) (m.number d) i ≡ false
      begun i l u f =
          let on = is_fresh ∙ f in
          g.begun c (m.number d) i l (written (ap (λ (b : Bool). v.make d || b) on ∙ or_true (v.make d))) (takes i ∙ u) on
        where
          or_true : (b : Bool) → (b || true) ≡ true
          or_true true = refl
          or_true false = refl

      stays_at : (x i : ℕ) → c ≡ suc x → i < 4 → takes_child v d i ≡ false → m.fresh d ≡ false → is_written v d (m.number d) ≡ true → StaysSo v d (m.number d) i
      stays_at x i q = subst
          (λ (k : ℕ). i < 4 → takes_child v (suc k) i ≡ false → m.fresh (suc k) ≡ false → is_written v (suc k) (m.number (suc k)) ≡ true → StaysSo v (suc k) (m.number (suc k)) i)
          (sym q) (λ l t f w. g.stays x (m.number (suc (suc x))) i l w t (subst (λ (k : ℕ). m.valid (suc k) ≡ true) q e) f)

      stays : (i : ℕ) → i < 4 → (is_added n (ps d) (y d) && nat_eq (v.digit d) i) ≡ false → is_added n (qs d) (m.name d) ≡ false
          → StaysSo v d (m.number d) i
      stays i l u f = by_cases (is_written v d (m.number d)) (at_later c refl) (λ w. g.idle c (m.number d) i l w)
        where
          at_later : (x : ℕ) → c ≡ x → is_written v d (m.number d) ≡ true → StaysSo v d (m.number d) i
          at_later zero q w = absurd (not_both (m.fresh d) (subst (λ (k : ℕ). m.valid (suc k) ≡ true → m.fresh (suc k) ≡ true) (sym q) first_fresh e) (is_fresh ∙ f))
          at_later (suc x) q w = stays_at x i q l (takes i ∙ u) (is_fresh ∙ f) w

      next_nodes : qs (suc d) ≡ with_key n (qs d) (m.name d)
      next_nodes = at_row n m.asks m.name m.ends d o (row_asks d e)

      next_children : ps (suc d) ≡ with_key n (ps d) (y d)
      next_children = at_row n m.valid y m.ends d o e

      counted_row : (if v.make d then v.used d + 1 else v.used d) ≡ length (with_key n (ps d) (y d))
      counted_row = by_cases (is_added n (ps d) (y d))
          (λ a. ap (λ (b : Bool). if b then v.used d + 1 else v.used d) (is_made ∙ a) ∙ ap (λ x. x + 1) right.counted ∙ sym (with_longer n (ps d) (y d) a))
          (λ a. ap (λ (b : Bool). if b then v.used d + 1 else v.used d) (is_made ∙ a) ∙ right.counted ∙ sym (ap length (same_is n (ps d) (y d) a)))

      at_row_right : Right (suc d)
      at_row_right = record {
        counted = going o ∙ counted_row ∙ sym (ap length next_children);
        words = subst (λ (xs : List ℕ). Words xs (ps (suc d)) (v.there (suc d)) (v.child (suc d))) (sym next_nodes)
            (subst (λ (xs : List ℕ). Words (with_key n (qs d) (m.name d)) xs (v.there (suc d)) (v.child (suc d))) (sym next_children)
            (words_row n (qs d) (ps d) (m.name d) (v.digit d) (m.number d) (few d) (v.there d) (v.there (suc d)) (v.child d) (v.child (suc d)) right.words
            (once_with n (qs d) (m.name d) (nodes_once n m.asks m.name m.ends d)) (h.number d e) others made begun stays));
      }

    step : Right (suc d)
    step = by_cases (m.ends d) ended (λ o. by_cases (m.valid d) (at_row_right o) (idle o))

  -- ---- all cycles

  right : (c : ℕ) → Right (suc c)
  right zero =
      let none = nodes_begin n m.valid y m.ends no_row in
      let no_node = nodes_begin n m.asks m.name m.ends quiet in
      record {
        counted = g.start ∙ sym (ap length none);
        words = subst (λ (xs : List ℕ). Words xs (ps 1) (v.there 1) (v.child 1)) (sym no_node)
            (subst (λ (xs : List ℕ). Words [] xs (v.there 1) (v.child 1)) (sym none) (words_none (v.there 1) (v.child 1)));
      }
  right (suc c) = step c (right c)

  told_valid : (c : ℕ) → (m.valid c && not (v.lost c)) ≡ (m.valid c && list_any (nat_eq (y c)) (with_key n (ps c) (y c)))
  told_valid zero =
      ap (λ (b : Bool). b && not (v.lost 0)) no_row ∙ sym (ap (λ (b : Bool). b && list_any (nat_eq (y 0)) (with_key n (ps 0) (y 0))) no_row)
  told_valid (suc c) = by_cases (m.valid (suc c))
      (λ e. ap (λ (b : Bool). m.valid (suc c) && b) (kept_row (suc c) e (right c).counted (found c (right c) e)))
      (λ e. ap (λ (b : Bool). b && not (v.lost (suc c))) e ∙ sym (ap (λ (b : Bool). b && list_any (nat_eq (y (suc c))) (with_key n (ps (suc c)) (y (suc c)))) e))

  told_fresh : (c : ℕ) → v.make c ≡ (m.valid c && is_added n (ps c) (y c))
  told_fresh zero = no_make 0 no_row ∙ sym (ap (λ (b : Bool). b && is_added n (ps 0) (y 0)) no_row)
  told_fresh (suc c) = by_cases (m.valid (suc c))
      (λ e. make_is (suc c) e (right c).counted (found c (right c) e) ∙ sym (ap (λ (b : Bool). b && is_added n (ps (suc c)) (y (suc c))) e))
      (λ e. no_make (suc c) e ∙ sym (ap (λ (b : Bool). b && is_added n (ps (suc c)) (y (suc c))) e))

  told_number : (c : ℕ) → (m.valid c && not (v.lost c)) ≡ true → slice_get (with_key n (ps c) (y c)) (v.number c) ≡ Some (y c)
  told_number zero e = absurd (not_both (m.valid 0) (and_left (m.valid 0) (not (v.lost 0)) e) no_row)
  told_number (suc c) e =
      let on = and_left (m.valid (suc c)) (not (v.lost (suc c))) e in
      let stays = and_right (m.valid (suc c)) (not (v.lost (suc c))) e in
      kept_place c (right c) (found c (right c) on) (by (v.lost (suc c)) stays) on
    where
      by : (b : Bool) → not b ≡ true → b ≡ false
      by true q = absurd (cc)
      by false q = refl

  pub children_numbered : Numbers n (children_of v)
  children_numbered = record { valid = told_valid; fresh = told_fresh; number = told_number }
