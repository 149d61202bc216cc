-- The items of a select, and what else it has beside its source: within the limits exactly where the counts of its tokens keep them.
use Rattle.std.proofs.Common.{ℕ, ◌+◌, ◌-◌, ◌≤◌, Bool, true, false, List, [], ◌∷◌, ◌++◌, max, Option, Some, None, refl, arith}
use Rattle.std.specs.List.{AllByRecursion}
use Rattle.gl_query.specs.declared.tree.Measure.{Measure}
use Rattle.gl_query.specs.declared.tree.Measure.TheVariants.{Tuples, Time}
use Rattle.gl_query.specs.declared.tree.Num.{Num}
use Rattle.gl_query_tokens.specs.declared.token.Plain.TheVariants as plain
use Rattle.gl_query_tokens.specs.declared.token.Token.{Token}
use Rattle.gl_query_tokens.specs.declared.token.Token.TheVariants as token
use Rattle.gl_query_reader.specs.declared.written.RowWindow.{RowWindow}
use Rattle.gl_query_reader.specs.declared.written.Window.{Window}
use Rattle.gl_query_reader.specs.declared.written.Grouping.{Grouping}
use Rattle.gl_query_reader.specs.Limits.{IsSmall}
use Rattle.gl_query_reader.specs.Sizes.{expr_depth, agg_depth, item_depth, items_depth, pick_depth, filter_depth, operators_of, AggIsShort, ItemIsShort, PickIsShort, FilterIsShort}
use Rattle.gl_query_reader.specs.States.{measured}
use Rattle.gl_query_reader.specs.Written.{Expr, Agg, Count, Fold', Wsum, Item, Bare, Named, Total, Framed, Pick, All, Items, spell, spell_numbers, spell_agg, spell_over, spell_item, spell_items, spell_pick, spell_window, spell_if_window, spell_row_window, spell_filter, spell_grouping, spell_if_grouping}
use Rattle.gl_query_reader.proofs.Limiting.{counts, Keeps, over, under, parted, paired, keeps_at, small_at, limited, limits, close, Behind, Any}
use Rattle.gl_query_reader.proofs.LimitingFrames.{limited_over, limits_over}

-- ---- aggregates

numbers_to : (ns : List Num) (b j : ℕ) (d : Bool) (rest : List Token) → Keeps (counts b 0 j d) (spell_numbers ns ++ rest) → (d' : Bool) × Keeps (counts b 0 j d') rest
numbers_to [] b j d rest h = (d, h)
numbers_to (n ∷ []) b j d rest h = (false, (over h).1)
numbers_to (n ∷ m ∷ ns) b j d rest h = numbers_to (m ∷ ns) b j true rest (over (over h).1).1

numbers_from : (ns : List Num) (b j : ℕ) (d : Bool) (rest : List Token) → b ≤ 32 → j ≤ 64 → ((d' : Bool) → Keeps (counts b 0 j d') rest) → Keeps (counts b 0 j d) (spell_numbers ns ++ rest)
numbers_from [] b j d rest f g h = h d
numbers_from (n ∷ []) b j d rest f g h = under (small_at b 0 j false f (omega arith) g) (h false)
numbers_from (n ∷ m ∷ ns) b j d rest f g h =
    under (small_at b 0 j false f (omega arith) g) (under (small_at b 0 j true f (omega arith) g) (numbers_from (m ∷ ns) b j true rest f g h))

limited_agg : (a : Agg) (b j : ℕ) (d : Bool) (rest : List Token) → Keeps (counts b 0 j d) (spell_agg a ++ rest) → Behind b j (agg_depth a) (AggIsShort a) rest
limited_agg (Count at open') b j d rest h =
    let q = over (over h).1 in
    record { depth' = q.0.brackets; short' = tt; operators = 0; operand = false; small = omega arith; rest' = keeps_at {b = b + 1 - 1} b 0 j (omega arith) refl refl (over q.1).1 }
limited_agg (Fold' fold at open' e) b j d rest h =
    let q = over (over h).1 in
    let a = limited e (b + 1) 0 j (close ∷ rest) q.0 (parted (spell e) (close ∷ []) rest q.1) in
    record {
      depth' = (let t : b + 1 + expr_depth e ≤ 32 = a.depth' in omega arith);
      short' = (let t : 0 + operators_of e ≤ 256 = a.short in omega arith);
      operators = 0 + operators_of e;
      operand = false;
      small = a.short;
      rest' = keeps_at {b = b + 1 - 1} b (0 + operators_of e) j (omega arith) refl refl (over a.rest').1;
    }
limited_agg (Wsum at open' e ns) b j d rest h =
    let ending : List Token = token.Plain plain.RightSquare ∷ close ∷ [] in
    let weights : List Token = token.Plain plain.Comma ∷ token.Plain plain.LeftSquare ∷ (spell_numbers ns ++ ending) in
    let q = over (over h).1 in
    let a = limited e (b + 1) 0 j (weights ++ rest) q.0 (parted (spell e) weights rest q.1) in
    let p = (over (over a.rest').1).1 in
    let r = numbers_to ns (b + 1) j true (ending ++ rest) (parted (spell_numbers ns) ending rest p) in
    record {
      depth' = (let t : b + 1 + expr_depth e ≤ 32 = a.depth' in omega arith);
      short' = (let t : 0 + operators_of e ≤ 256 = a.short in omega arith);
      operators = 0;
      operand = false;
      small = omega arith;
      rest' = keeps_at {b = b + 1 - 1} b 0 j (omega arith) refl refl (over (over r.1).1).1;
    }

limits_agg : (a : Agg) (b j : ℕ) (d : Bool) (rest : List Token) → j ≤ 64 → b + agg_depth a ≤ 32 → AggIsShort a → Any b j rest → Keeps (counts b 0 j d) (spell_agg a ++ rest)
limits_agg (Count at open') b j d rest g m s h =
    under (small_at b 0 j false (omega arith) (omega arith) g) (under (small_at (b + 1) 0 j true m (omega arith) g)
    (under (small_at (b + 1 - 1) 0 j false (omega arith) (omega arith) g) (keeps_at {b = b} (b + 1 - 1) 0 j (omega arith) refl refl (h 0 false (omega arith)))))
limits_agg (Fold' fold at open' e) b j d rest g m s h =
    let t : b + (expr_depth e + 1) ≤ 32 = m in
    let u : operators_of e ≤ 256 = s in
    let k = 0 + operators_of e in
    let v : k ≤ 256 = omega arith in
    let last : Keeps (counts (b + 1) k j false) (close ∷ rest) =
    under (small_at (b + 1 - 1) k j false (omega arith) v g) (keeps_at {b = b} (b + 1 - 1) k j (omega arith) refl refl (h k false v)) in
    under (small_at b 0 j false (omega arith) (omega arith) g) (under (small_at (b + 1) 0 j true (omega arith) (omega arith) g)
    (paired (spell e) (close ∷ []) rest (limits e (b + 1) 0 j (close ∷ rest) g (omega arith) v last)))
limits_agg (Wsum at open' e ns) b j d rest g m s h =
    let t : b + (expr_depth e + 1) ≤ 32 = m in
    let u : operators_of e ≤ 256 = s in
    let k = 0 + operators_of e in
    let v : k ≤ 256 = omega arith in
    let w : b + 1 ≤ 32 = omega arith in
    let ending : List Token = token.Plain plain.RightSquare ∷ close ∷ [] in
    let weights : List Token = token.Plain plain.Comma ∷ token.Plain plain.LeftSquare ∷ (spell_numbers ns ++ ending) in
    let last : (d' : Bool) → Keeps (counts (b + 1) 0 j d') (ending ++ rest) =
    λ d'. under (small_at (b + 1) 0 j false w (omega arith) g)
    (under (small_at (b + 1 - 1) 0 j false (omega arith) (omega arith) g) (keeps_at {b = b} (b + 1 - 1) 0 j (omega arith) refl refl (h 0 false (omega arith)))) in
    let inside : Keeps (counts (b + 1) k j false) (weights ++ rest) =
    under (small_at (b + 1) 0 j true w (omega arith) g) (under (small_at (b + 1) 0 j true w (omega arith) g)
    (paired (spell_numbers ns) ending rest (numbers_from ns (b + 1) j true (ending ++ rest) w g last))) in
    under (small_at b 0 j false (omega arith) (omega arith) g) (under (small_at (b + 1) 0 j true w (omega arith) g)
    (paired (spell e) weights rest (limits e (b + 1) 0 j (weights ++ rest) g (omega arith) v inside)))

-- ---- items

limited_item : (i : Item) (b j : ℕ) (rest : List Token) → IsSmall (counts b 0 j true) → Keeps (counts b 0 j true) (spell_item i ++ rest) → Behind b j (item_depth i) (ItemIsShort i) rest
limited_item (Bare name) b j rest f h =
    record { depth' = (let t : b ≤ 32 = f.brackets in omega arith); short' = tt; operators = 0; operand = false; small = omega arith; rest' = (over h).1 }
limited_item (Named e name) b j rest f h =
    let tail : List Token = token.Plain plain.As ∷ token.Name name ∷ [] in
    let a = limited e b 0 j (tail ++ rest) f (parted (spell e) tail rest h) in
    record {
      depth' = a.depth';
      short' = (let t : 0 + operators_of e ≤ 256 = a.short in omega arith);
      operators = 0 + operators_of e;
      operand = false;
      small = a.short;
      rest' = (over (over a.rest').1).1;
    }
limited_item (Total a name) b j rest f h =
    let tail : List Token = token.Plain plain.As ∷ token.Name name ∷ [] in
    let x = limited_agg a b j true (tail ++ rest) (parted (spell_agg a) tail rest h) in
    record { depth' = x.depth'; short' = x.short'; operators = x.operators; operand = false; small = x.small; rest' = (over (over x.rest').1).1 }
limited_item (Framed o name) b j rest f h =
    let tail : List Token = token.Plain plain.As ∷ token.Name name ∷ [] in
    let x = limited_over o b j true (tail ++ rest) (parted (spell_over o) tail rest h) in
    record { depth' = x.depth'; short' = x.short'; operators = x.operators; operand = false; small = x.small; rest' = (over (over x.rest').1).1 }

limits_item : (i : Item) (b j : ℕ) (rest : List Token) → j ≤ 64 → b + item_depth i ≤ 32 → ItemIsShort i → Any b j rest → Keeps (counts b 0 j true) (spell_item i ++ rest)
limits_item (Bare name) b j rest g m s h = under (small_at b 0 j false (omega arith) (omega arith) g) (h 0 false (omega arith))
limits_item (Named e name) b j rest g m s h =
    let tail : List Token = token.Plain plain.As ∷ token.Name name ∷ [] in
    let u : operators_of e ≤ 256 = s in
    let k = 0 + operators_of e in
    let v : k ≤ 256 = omega arith in
    let f = small_at b k j false (omega arith) v g in
    paired (spell e) tail rest (limits e b 0 j (tail ++ rest) g m v (under f (under f (h k false v))))
limits_item (Total a name) b j rest g m s h =
    let tail : List Token = token.Plain plain.As ∷ token.Name name ∷ [] in
    paired (spell_agg a) tail rest (limits_agg a b j true (tail ++ rest) g m s
    (λ o d' v. (let f = small_at b o j false (omega arith) v g in under f (under f (h o false v)))))
limits_item (Framed o name) b j rest g m s h =
    let tail : List Token = token.Plain plain.As ∷ token.Name name ∷ [] in
    paired (spell_over o) tail rest (limits_over o b j true (tail ++ rest) g m s
    (λ n d' v. (let f = small_at b n j false (omega arith) v g in under f (under f (h n false v)))))

limited_items : (is : List Item) (b j : ℕ) (rest : List Token) → IsSmall (counts b 0 j true) → Keeps (counts b 0 j true) (spell_items is ++ rest) → Behind b j (items_depth is) (AllByRecursion ItemIsShort is) rest
limited_items [] b j rest f h =
    record { depth' = (let t : b ≤ 32 = f.brackets in omega arith); short' = tt; operators = 0; operand = true; small = omega arith; rest' = h }
limited_items (i ∷ []) b j rest f h =
    let x = limited_item i b j rest f h in
    record { depth' = (let t : b + item_depth i ≤ 32 = x.depth' in omega arith); short' = (x.short', tt); operators = x.operators; operand = x.operand; small = x.small; rest' = x.rest' }
limited_items (i ∷ k ∷ is) b j rest f h =
    let more : List Token = token.Plain plain.Comma ∷ spell_items (k ∷ is) in
    let x = limited_item i b j (more ++ rest) f (parted (spell_item i) more rest h) in
    let p = over x.rest' in
    let y = limited_items (k ∷ is) b j rest p.0 p.1 in
    record {
      depth' = (let t : b + item_depth i ≤ 32 = x.depth' in let u : b + items_depth (k ∷ is) ≤ 32 = y.depth' in omega arith);
      short' = (x.short', y.short');
      operators = y.operators;
      operand = y.operand;
      small = y.small;
      rest' = y.rest';
    }

limits_items : (is : List Item) (b j : ℕ) (rest : List Token) → j ≤ 64 → b + items_depth is ≤ 32 → AllByRecursion ItemIsShort is → Any b j rest → Keeps (counts b 0 j true) (spell_items is ++ rest)
limits_items [] b j rest g m s h = h 0 true (omega arith)
limits_items (i ∷ []) b j rest g m s h =
    let t : b + max (item_depth i) 0 ≤ 32 = m in
    limits_item i b j rest g (omega arith) s.0 h
limits_items (i ∷ k ∷ is) b j rest g m s h =
    let t : b + max (item_depth i) (items_depth (k ∷ is)) ≤ 32 = m in
    let more : List Token = token.Plain plain.Comma ∷ spell_items (k ∷ is) in
    paired (spell_item i) more rest (limits_item i b j (more ++ rest) g (omega arith) s.0
    (λ o d' v. under (small_at b 0 j true (omega arith) (omega arith) g) (limits_items (k ∷ is) b j rest g (omega arith) s.1 h)))

-- ---- what a select has beside its source

pub limited_pick : (p : Pick) (b j : ℕ) (rest : List Token) → IsSmall (counts b 0 j true) → Keeps (counts b 0 j true) (spell_pick p ++ rest) → Behind b j (pick_depth p) (PickIsShort p) rest
limited_pick (All at) b j rest f h =
    record { depth' = (let t : b ≤ 32 = f.brackets in omega arith); short' = tt; operators = 0; operand = true; small = omega arith; rest' = (over h).1 }
limited_pick (Items items) b j rest f h = limited_items items b j rest f h

pub limits_pick : (p : Pick) (b j : ℕ) (rest : List Token) → j ≤ 64 → b + pick_depth p ≤ 32 → PickIsShort p → Any b j rest → Keeps (counts b 0 j true) (spell_pick p ++ rest)
limits_pick (All at) b j rest g m s h = under (small_at b 0 j true (omega arith) (omega arith) g) (h 0 true (omega arith))
limits_pick (Items items) b j rest g m s h = limits_items items b j rest g m s h

words_to : (at : ℕ) (size advance : Num) (m : Measure) (b o j : ℕ) (d : Bool) (rest : List Token) → Keeps (counts b o j d) (spell_window (measured at size advance m) ++ rest) → Keeps (counts b o j false) rest
words_to at size advance Tuples b o j d rest h = (over (over (over (over (over (over (over h).1).1).1).1).1).1).1
words_to at size advance Time b o j d rest h = (over (over (over (over (over (over (over h).1).1).1).1).1).1).1

words_from : (at : ℕ) (size advance : Num) (m : Measure) (b o j : ℕ) (d : Bool) (rest : List Token) → b ≤ 32 → o ≤ 256 → j ≤ 64 → Keeps (counts b o j false) rest → Keeps (counts b o j d) (spell_window (measured at size advance m) ++ rest)
words_from at size advance Tuples b o j d rest e f g h =
    let s = small_at b o j false e f g in
    under (small_at b o j true e f g) (under s (under s (under s (under s (under s (under s h))))))
words_from at size advance Time b o j d rest e f g h =
    let s = small_at b o j false e f g in
    under (small_at b o j true e f g) (under s (under s (under s (under s (under s (under s h))))))

pub window_to : (w : Window) (b o j : ℕ) (d : Bool) (rest : List Token) → Keeps (counts b o j d) (spell_window w ++ rest) → Keeps (counts b o j false) rest
window_to w b o j d rest h = words_to w.at w.size w.advance w.measure b o j d rest h

pub window_from : (w : Window) (b o j : ℕ) (d : Bool) (rest : List Token) → b ≤ 32 → o ≤ 256 → j ≤ 64 → Keeps (counts b o j false) rest → Keeps (counts b o j d) (spell_window w ++ rest)
window_from w b o j d rest e f g h = words_from w.at w.size w.advance w.measure b o j d rest e f g h

pub grouping_to : (g : Grouping) (b o j : ℕ) (d : Bool) (rest : List Token) → Keeps (counts b o j d) (spell_grouping g ++ rest) → Keeps (counts b o j false) rest
grouping_to g b o j d rest h = (over (over (over (over h).1).1).1).1

pub grouping_from : (g : Grouping) (b o j : ℕ) (d : Bool) (rest : List Token) → b ≤ 32 → o ≤ 256 → j ≤ 64 → Keeps (counts b o j false) rest → Keeps (counts b o j d) (spell_grouping g ++ rest)
grouping_from g' b o j d rest e f g h =
    let s = small_at b o j false e f g in
    under s (under s (under s (under s h)))

pub if_window_to : (w : Option Window) (b o j : ℕ) (d : Bool) (rest : List Token) → Keeps (counts b o j d) (spell_if_window w ++ rest) → (d' : Bool) × Keeps (counts b o j d') rest
if_window_to None b o j d rest h = (d, h)
if_window_to (Some w) b o j d rest h = (false, window_to w b o j d rest h)

pub if_window_from : (w : Option Window) (b o j : ℕ) (d : Bool) (rest : List Token) → b ≤ 32 → o ≤ 256 → j ≤ 64 → ((d' : Bool) → Keeps (counts b o j d') rest) → Keeps (counts b o j d) (spell_if_window w ++ rest)
if_window_from None b o j d rest e f g h = h d
if_window_from (Some w) b o j d rest e f g h = window_from w b o j d rest e f g (h false)

pub row_window_to : (w : Option RowWindow) (b o j : ℕ) (rest : List Token) → Keeps (counts b o j false) (spell_row_window w ++ rest) → Keeps (counts b o j false) rest
row_window_to None b o j rest h = h
row_window_to (Some w) b o j rest h = words_to w.at w.size w.advance Tuples b o j false rest h

pub row_window_from : (w : Option RowWindow) (b o j : ℕ) (rest : List Token) → b ≤ 32 → o ≤ 256 → j ≤ 64 → Keeps (counts b o j false) rest → Keeps (counts b o j false) (spell_row_window w ++ rest)
row_window_from None b o j rest e f g h = h
row_window_from (Some w) b o j rest e f g h = words_from w.at w.size w.advance Tuples b o j false rest e f g h

pub if_grouping_to : (g : Option Grouping) (b o j : ℕ) (d : Bool) (rest : List Token) → Keeps (counts b o j d) (spell_if_grouping g ++ rest) → (d' : Bool) × Keeps (counts b o j d') rest
if_grouping_to None b o j d rest h = (d, h)
if_grouping_to (Some g) b o j d rest h = (false, grouping_to g b o j false rest (over h).1)

pub if_grouping_from : (g : Option Grouping) (b o j : ℕ) (d : Bool) (rest : List Token) → b ≤ 32 → o ≤ 256 → j ≤ 64 → ((d' : Bool) → Keeps (counts b o j d') rest) → Keeps (counts b o j d) (spell_if_grouping g ++ rest)
if_grouping_from None b o j d rest e f g h = h d
if_grouping_from (Some g') b o j d rest e f g h = under (small_at b o j false e f g) (grouping_from g' b o j false rest e f g (h false))

pub limited_filter : (p : Option Expr) (b o j : ℕ) (d : Bool) (rest : List Token) → IsSmall (counts b o j d) → Keeps (counts b o j d) (spell_filter p ++ rest) → Behind b j (filter_depth p) (FilterIsShort p) rest
limited_filter None b o j d rest f h =
    record { depth' = (let t : b ≤ 32 = f.brackets in omega arith); short' = tt; operators = o; operand = d; small = f.operators; rest' = h }
limited_filter (Some e) b o j d rest f h =
    let q = over h in
    let a = limited e b 0 j rest q.0 q.1 in
    record {
      depth' = a.depth';
      short' = (let t : 0 + operators_of e ≤ 256 = a.short in omega arith);
      operators = 0 + operators_of e;
      operand = false;
      small = a.short;
      rest' = a.rest';
    }

pub limits_filter : (p : Option Expr) (b o j : ℕ) (d : Bool) (rest : List Token) → o ≤ 256 → j ≤ 64 → b + filter_depth p ≤ 32 → FilterIsShort p → Any b j rest → Keeps (counts b o j d) (spell_filter p ++ rest)
limits_filter None b o j d rest f g m s h = h o d f
limits_filter (Some e) b o j d rest f g m s h =
    let u : operators_of e ≤ 256 = s in
    let k = 0 + operators_of e in
    let v : k ≤ 256 = omega arith in
    under (small_at b 0 j true (omega arith) (omega arith) g) (limits e b 0 j rest g m v (h k false v))
