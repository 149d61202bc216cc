-- A statement has no first fault exactly where it is accepted.
use Rattle.std.proofs.Common.{◌≡◌, ℕ, ◌*◌, ◌<◌, ◌≤◌, true, false, List, [], ◌∷◌, length, map, Option, Some, None, refl, sym, ap, subst, arith, lit≤}
use Rattle.std.specs.Prelude.{not, ◌&&◌, IsSome, bytes_eq, nat_le, nat_lt, option_map}
use Rattle.std.specs.Int.{div_ceil}
use Rattle.std.specs.List.{AllByRecursion, IsDistinct, list_any}
use Rattle.std.proofs.lemmas.Bool.{leb-true, le-leb, ltb-true, lt-ltb}
use Rattle.std.proofs.lemmas.Map.Keys.{IsDistinct-cons, IsDistinct-head, IsDistinct-tail}
use Rattle.gl_bits.proofs.AllLists.{length_map}
use Rattle.gl_bits.proofs.Bools.{and_both, and_parts, bytes_own, bytes_same, neither, neither_parts, not_false, not_true}
use Rattle.gl_values.specs.Operators.{same_kind}
use Rattle.gl_values.proofs.KindLemmas.{equal_kinds, kinds_equal}
use Rattle.gl_schema.specs.declared.schema.Column.{Column as NamedColumn}
use Rattle.gl_schema.specs.Schemas.{column_names, has_column, kinds_of}
use Rattle.gl_query.specs.declared.tree.Measure.{Measure}
use Rattle.gl_query.specs.declared.tree.Measure.TheVariants.{Tuples}
use Rattle.gl_query.specs.declared.tree.Name.{Name}
use Rattle.gl_query.specs.declared.tree.Num.{Num}
use Rattle.gl_query.specs.declared.tree.Slots.{Slots}
use Rattle.gl_query.specs.Trees as tree
use Rattle.gl_query.specs.Trees.{ExprTree, ItemTree, AggItemTree, FrameItemTree, PickTree, QueryTree}
use Rattle.gl_query.specs.Alike.{expr_alike, agg_alike, item_alike, agg_item_alike, frame_alike, frame_item_alike, pick_alike, query_alike}
use Rattle.gl_query.specs.Shapes.{QueryShape, slots_shape}
use Rattle.gl_query.specs.Values.{HasKind, column_kind, kind_alone}
use Rattle.gl_query.specs.Columns.{Pace, Once, Step, agg_column, arrives, frame_column, is_closing, item_column, pace_of}
use Rattle.gl_query.specs.Accepted.{AreFrames, AreJoined, AreResultColumns, IsAcceptedOver, IsAgg, IsFrame, IsParted, IsPick, IsTotal, IsWindow, KeepPace, Scope, body_scope, can_measure, columns_under, can_read, reach_under, schema_scope}
use Rattle.gl_query.specs.Windows.{copies_of}
use Rattle.gl_query.specs.Faults.{or_else, unless, agg_fault, are_distinct, aggs_fault, beside_fault, filter_fault, frame_fault, frames_fault, is_within, join_fault, key_fault, names_fault, pick_fault, query_fault, same_kinds, same_pace, slots_fault, whole_fault, window_fault, windows_fault}
use Rattle.gl_query.specs.Laws.{FirstFaultsAreExact}
use Rattle.gl_query.proofs.Deciding.{Decides, agg_decides, always, both, change, equal_lists, filter_decides, frame_decides, is_within_of, lists_equal, named_decides, rule, test, whole_decides, within}
use Rattle.gl_query.proofs.Real.{IsScope, body_is, no_names, real, schema_is}

-- ---- names

none_equal : (name : List ℕ) (names : List (List ℕ)) → list_any (bytes_eq name) names ≡ false → AllByRecursion (λ y. bytes_eq name y ≡ false) names
none_equal name [] e = tt
none_equal name (n ∷ names) e =
    let p = neither_parts (bytes_eq name n) (list_any (bytes_eq name) names) e in
    (p.0, none_equal name names p.1)

no_equal : (name : List ℕ) (names : List (List ℕ)) → AllByRecursion (λ y. bytes_eq name y ≡ false) names → list_any (bytes_eq name) names ≡ false
no_equal name [] h = refl
no_equal name (n ∷ names) h = neither (bytes_eq name n) (list_any (bytes_eq name) names) h.0 (no_equal name names h.1)

distinct_is : (names : List (List ℕ)) → are_distinct names ≡ true → IsDistinct bytes_eq names
distinct_is [] e = no_names
distinct_is (n ∷ names) e =
    let p = and_parts (not (list_any (bytes_eq n) names)) (are_distinct names) e in
    IsDistinct-cons bytes_eq n names (none_equal n names (not_true (list_any (bytes_eq n) names) p.0)) (distinct_is names p.1)

is_distinct : (names : List (List ℕ)) → IsDistinct bytes_eq names → are_distinct names ≡ true
is_distinct [] h = refl
is_distinct (n ∷ names) h =
    and_both (not (list_any (bytes_eq n) names)) (are_distinct names)
    (not_false (list_any (bytes_eq n) names) (no_equal n names (IsDistinct-head bytes_eq n names h))) (is_distinct names (IsDistinct-tail bytes_eq n names h))

-- ---- items and aggregates

item_names : (columns : List NamedColumn) (items : List ItemTree) → column_names (map (item_column columns) (map item_alike items)) ≡ map (λ (i : ItemTree). i.name.text) items
item_names columns [] = refl
item_names columns (i ∷ items) = ap (λ (l : List (List ℕ)). i.name.text ∷ l) (item_names columns items)

agg_names : (columns : List NamedColumn) (items : List AggItemTree) → column_names (map (agg_column columns) (map agg_item_alike items)) ≡ map (λ (i : AggItemTree). i.name.text) items
agg_names columns [] = refl
agg_names columns (i ∷ items) = ap (λ (l : List (List ℕ)). i.name.text ∷ l) (agg_names columns items)

frame_names : (columns : List NamedColumn) (items : List FrameItemTree) → column_names (map (frame_column columns) (map frame_item_alike items)) ≡ map (λ (i : FrameItemTree). i.name.text) items
frame_names columns [] = refl
frame_names columns (i ∷ items) = ap (λ (l : List (List ℕ)). i.name.text ∷ l) (frame_names columns items)

-- columns with the names of what is listed
named_columns : {A : Type 0} (name : A → Name) (columns : List NamedColumn) (items : List A) → column_names columns ≡ map (λ i. (name i).text) items
    → length items ≤ 32 → IsDistinct bytes_eq (map (λ i. (name i).text) items) → AreResultColumns columns
named_columns name columns items e most distinct = record {
  most = (let a = length_map (λ (c : NamedColumn). c.name) columns in let b = length_map (λ i. (name i).text) items in let c = ap length e in omega (arith, a, b, c, most));
  distinct = subst (IsDistinct bytes_eq) (sym e) distinct;
}

columns_named : {A : Type 0} (name : A → Name) (columns : List NamedColumn) (items : List A) → column_names columns ≡ map (λ i. (name i).text) items
    → AreResultColumns columns → (length items ≤ 32) × IsDistinct bytes_eq (map (λ i. (name i).text) items)
columns_named name columns items e r = (
  (let a = length_map (λ (c : NamedColumn). c.name) columns in let b = length_map (λ i. (name i).text) items in let c = ap length e in let m = r.most in omega (arith, a, b, c, m)),
  subst (IsDistinct bytes_eq) e r.distinct,
)

-- each has a kind, said of items with and without places
typed_items : (columns : List NamedColumn) (items : List ItemTree) → AllByRecursion (λ (i : ItemTree). HasKind columns (kind_alone (expr_alike i.expr)) (expr_alike i.expr)) items
    → AllByRecursion (λ i. HasKind columns (kind_alone i.expr) i.expr) (map item_alike items)
typed_items columns [] h = tt
typed_items columns (i ∷ items) h = (h.0, typed_items columns items h.1)

items_typed : (columns : List NamedColumn) (items : List ItemTree) → AllByRecursion (λ i. HasKind columns (kind_alone i.expr) i.expr) (map item_alike items)
    → AllByRecursion (λ (i : ItemTree). HasKind columns (kind_alone (expr_alike i.expr)) (expr_alike i.expr)) items
items_typed columns [] h = tt
items_typed columns (i ∷ items) h = (h.0, items_typed columns items h.1)

typed_aggs : (columns : List NamedColumn) (items : List AggItemTree) → AllByRecursion (λ (i : AggItemTree). IsAgg columns (agg_alike i.agg)) items
    → AllByRecursion (λ i. IsAgg columns i.agg) (map agg_item_alike items)
typed_aggs columns [] h = tt
typed_aggs columns (i ∷ items) h = (h.0, typed_aggs columns items h.1)

aggs_typed : (columns : List NamedColumn) (items : List AggItemTree) → AllByRecursion (λ i. IsAgg columns i.agg) (map agg_item_alike items)
    → AllByRecursion (λ (i : AggItemTree). IsAgg columns (agg_alike i.agg)) items
aggs_typed columns [] h = tt
aggs_typed columns (i ∷ items) h = (h.0, aggs_typed columns items h.1)

typed_frames : (columns : List NamedColumn) (items : List FrameItemTree) → AllByRecursion (λ (i : FrameItemTree). IsFrame columns (frame_alike i.frame)) items
    → AllByRecursion (λ i. IsFrame columns i.frame) (map frame_item_alike items)
typed_frames columns [] h = tt
typed_frames columns (i ∷ items) h = (h.0, typed_frames columns items h.1)

frames_typed : (columns : List NamedColumn) (items : List FrameItemTree) → AllByRecursion (λ i. IsFrame columns i.frame) (map frame_item_alike items)
    → AllByRecursion (λ (i : FrameItemTree). IsFrame columns (frame_alike i.frame)) items
frames_typed columns [] h = tt
frames_typed columns (i ∷ items) h = (h.0, frames_typed columns items h.1)

pick_decides : (p : PickTree) (columns : List NamedColumn) → Decides (pick_fault columns p) (IsPick columns (pick_alike p))
pick_decides tree.All columns = always (Unit {0}) tt
pick_decides (tree.Items items) columns =
    let name : ItemTree → Name = λ i. i.name in
    let Own : ItemTree → Type 0 = λ i. HasKind columns (kind_alone (expr_alike i.expr)) (expr_alike i.expr) in
    let out = map (item_column columns) (map item_alike items) in
    change _ (named_decides name (λ (i : ItemTree). whole_fault columns i.expr) Own (λ i. whole_decides i.expr columns) [] items (lit≤ tt) no_names)
    (λ n. record { typed = typed_items columns items n.each; result = named_columns name out items (item_names columns items) n.most n.distinct })
    (λ a. let r = columns_named name out items (item_names columns items) a.result in
    record { each = items_typed columns items a.typed; most = r.0; distinct = r.1 })

total_decides : (items : List AggItemTree) (columns : List NamedColumn)
    → Decides (aggs_fault columns [] items) (IsTotal columns (map agg_item_alike items) (map (agg_column columns) (map agg_item_alike items)))
total_decides items columns =
    let name : AggItemTree → Name = λ i. i.name in
    let Own : AggItemTree → Type 0 = λ i. IsAgg columns (agg_alike i.agg) in
    let out = map (agg_column columns) (map agg_item_alike items) in
    change _ (named_decides name (λ (i : AggItemTree). agg_fault columns i.agg i.name) Own (λ i. agg_decides i.agg columns i.name) [] items (lit≤ tt) no_names)
    (λ n. record { typed = typed_aggs columns items n.each; columns = named_columns name out items (agg_names columns items) n.most n.distinct })
    (λ a. let r = columns_named name out items (agg_names columns items) a.columns in
    record { each = aggs_typed columns items a.typed; most = r.0; distinct = r.1 })

slots_decide : (slots : Option Slots) (columns : List NamedColumn) → Decides (slots_fault columns slots) (IsParted columns (option_map slots_shape slots))
slots_decide None columns = always (Unit {0}) tt
slots_decide (Some s) columns =
    let n = s.groups.value in
    change _
    (both (unless (has_column columns s.key.text) _) _ (test (has_column columns s.key.text) _)
    (λ k. rule (is_within n 4096) _ ((1 ≤ n) × (n ≤ 4096)) (within n 4096) (is_within_of n 4096)))
    (λ h. record { known = h.0; some_groups = h.1.0; most_groups = h.1.1 }) (λ p. (p.known, (p.some_groups, p.most_groups)))

frames_decide : (items : List FrameItemTree) (filter : Option ExprTree) (slots : Option Slots) (columns reach : List NamedColumn)
    → Decides (or_else (slots_fault columns slots) (or_else (frames_fault reach [] items) (filter_fault reach filter)))
    (AreFrames columns reach (map frame_item_alike items) (option_map expr_alike filter) (option_map slots_shape slots) (map (frame_column reach) (map frame_item_alike items)))
frames_decide items filter slots columns reach =
    let name : FrameItemTree → Name = λ i. i.name in
    let Own : FrameItemTree → Type 0 = λ i. IsFrame reach (frame_alike i.frame) in
    let out = map (frame_column reach) (map frame_item_alike items) in
    change _
    (both (slots_fault columns slots) _ (slots_decide slots columns)
    (λ p. both (frames_fault reach [] items) _
    (named_decides name (λ (i : FrameItemTree). frame_fault reach i.frame i.name) Own (λ i. frame_decides i.frame reach i.name) [] items (lit≤ tt) no_names)
    (λ n. filter_decides filter reach)))
    (λ h. record {
      parted = h.0;
      typed = typed_frames reach items h.1.0.each;
      columns = named_columns name out items (frame_names reach items) h.1.0.most h.1.0.distinct;
      filters = h.1.1;
    })
    (λ a. let r = columns_named name out items (frame_names reach items) a.columns in
    (a.parted, (record { each = frames_typed reach items a.typed; most = r.0; distinct = r.1 }, a.filters)))

-- ---- parts of queries

window_decides : (measure : Measure) (size advance : Num) → Decides (window_fault measure size advance) (IsWindow measure size.value advance.value)
window_decides measure size advance =
    let s = size.value in
    let a = advance.value in
    let open' = copies_of measure s a in
    change _
    (both (unless (is_within s 65536) _) _ (rule (is_within s 65536) _ ((1 ≤ s) × (s ≤ 65536)) (within s 65536) (is_within_of s 65536))
    (λ p. both (unless (is_within a 65536) _) _ (rule (is_within a 65536) _ ((1 ≤ a) × (a ≤ 65536)) (within a 65536) (is_within_of a 65536))
    (λ q. rule (nat_le open' 64) _ (open' ≤ 64) (leb-true open' 64) (le-leb open' 64))))
    (λ h. record { some_size = h.0.0; most_size = h.0.1; some_advance = h.1.0.0; most_advance = h.1.0.1; copies = h.1.1 })
    (λ w. ((w.some_size, w.most_size), ((w.some_advance, w.most_advance), w.copies)))

-- the key before the columns of a body
key_decides : (key : Name) (column : NamedColumn) (columns : List NamedColumn) → column.name ≡ key.text → AreResultColumns columns
    → Decides (key_fault key columns) (AreResultColumns (column ∷ columns))
key_decides key column columns e r =
    let names = column_names columns in
    let among = list_any (bytes_eq key.text) names in
    change _
    (both (unless (not among) _) _ (rule (not among) _ (among ≡ false) (not_true among) (not_false among))
    (λ fresh. rule (nat_lt (length columns) 32) _ (length columns < 32) (ltb-true (length columns) 32) (lt-ltb (length columns) 32)))
    (λ h. record {
      most = h.1;
      distinct = subst (λ (n : List ℕ). IsDistinct bytes_eq (n ∷ names)) (sym e) (IsDistinct-cons bytes_eq key.text names (none_equal key.text names h.0) r.distinct);
    })
    (λ a. (
      no_equal key.text names (IsDistinct-head bytes_eq key.text names (subst (λ (n : List ℕ). IsDistinct bytes_eq (n ∷ names)) e a.distinct)),
      a.most,
    ))

paces_equal : (p q : Option Pace) → same_pace p q ≡ true → IsSome p × (p ≡ q)
paces_equal (Some Once) (Some Once) e = (refl, refl)
paces_equal (Some (Step a)) (Some (Step b)) e = (refl, ap (λ (x : List ℕ). Some (Step x)) (bytes_same a b e))
paces_equal p q e = absurd (cc)

own_pace : (p : Option Pace) → IsSome p → same_pace p p ≡ true
own_pace None h = absurd (cc)
own_pace (Some Once) h = refl
own_pace (Some (Step a)) h = bytes_own a

beside_decides : (l r : QueryShape) (columns : List NamedColumn) (at : ℕ) → Decides (beside_fault l r columns at) (KeepPace l r × AreResultColumns columns)
beside_decides l r columns at =
    let names = column_names columns in
    let paces = same_pace (pace_of l) (pace_of r) in
    change _
    (both (unless paces _) _ (rule paces _ (IsSome (pace_of l) × (pace_of l ≡ pace_of r)) (paces_equal (pace_of l) (pace_of r))
    (λ h. subst (λ (q : Option Pace). same_pace (pace_of l) q ≡ true) h.1 (own_pace (pace_of l) h.0)))
    (λ p. both (unless (are_distinct names) _) _ (rule (are_distinct names) _ (IsDistinct bytes_eq names) (distinct_is names) (is_distinct names))
    (λ d. rule (nat_le (length columns) 32) _ (length columns ≤ 32) (leb-true (length columns) 32) (le-leb (length columns) 32))))
    (λ h. (record { paced = h.0.0; same = h.0.1 }, record { most = h.1.1; distinct = h.1.0 }))
    (λ k. ((k.0.paced, k.0.same), (k.1.distinct, k.1.most)))

names_decide : (columns : List NamedColumn) (at : ℕ) → Decides (names_fault columns at) (AreResultColumns columns)
names_decide columns at =
    let names = column_names columns in
    change _
    (both (unless (are_distinct names) _) _ (rule (are_distinct names) _ (IsDistinct bytes_eq names) (distinct_is names) (is_distinct names))
    (λ d. rule (nat_le (length columns) 32) _ (length columns ≤ 32) (leb-true (length columns) 32) (le-leb (length columns) 32)))
    (λ h. record { most = h.1; distinct = h.0 }) (λ r. (r.distinct, r.most))

join_decides : (lefts rights : List NamedColumn) (slots : Slots) (columns : List NamedColumn) (at : ℕ)
    → Decides (join_fault lefts rights slots columns at) (AreJoined lefts rights (slots_shape slots) columns)
join_decides lefts rights slots columns at =
    let left = column_kind lefts slots.key.text in
    let right = column_kind rights slots.key.text in
    change _
    (both (slots_fault lefts (Some slots)) _ (slots_decide (Some slots) lefts)
    (λ a. both (slots_fault rights (Some slots)) _ (slots_decide (Some slots) rights)
    (λ b. both (unless (same_kind left right) _) _ (rule (same_kind left right) _ (left ≡ right) (kinds_equal left right) (equal_kinds left right))
    (λ c. names_decide columns at))))
    (λ h. record { of_left = h.0; of_right = h.1.0; alike = h.1.1.0; columns = h.1.1.1 }) (λ j. (j.of_left, (j.of_right, (j.alike, j.columns))))

-- ---- queries

query_decides : (q : QueryTree) (scope : Scope) → IsScope scope → Decides (query_fault scope q) (IsAcceptedOver scope (query_alike q))
query_decides (tree.Read name) scope s = test (can_read scope.sources name.text) _
query_decides (tree.Rows pick filter source) scope s =
    let reach = reach_under scope (query_alike source) in
    change _
    (both (query_fault scope source) _ (query_decides source scope s) (λ a. both (pick_fault reach pick) _ (pick_decides pick reach) (λ p. filter_decides filter reach)))
    (λ h. (h.0, record { picks = h.1.0; filters = h.1.1 })) (λ a. (a.0, (a.1.picks, a.1.filters)))
query_decides (tree.Total aggs source) scope s =
    both (query_fault scope source) _ (query_decides source scope s) (λ a. total_decides aggs (reach_under scope (query_alike source)))
query_decides (tree.Frames items filter slots source) scope s =
    both (query_fault scope source) _ (query_decides source scope s)
    (λ a. frames_decide items filter slots (columns_under scope (query_alike source)) (reach_under scope (query_alike source)))
query_decides (tree.Each measure var source size advance body at) scope s =
    let columns = columns_under scope (query_alike source) in
    let inside = body_scope scope var.text columns in
    change _
    (both (query_fault scope source) _ (query_decides source scope s)
    (λ a. let r = real (query_alike source) scope s a in
    both (unless (can_measure measure scope (query_alike source)) _) _ (test (can_measure measure scope (query_alike source)) _)
    (λ t. both (window_fault measure size advance) _ (window_decides measure size advance)
    (λ w. both (query_fault inside body) _ (query_decides body inside (body_is scope s var.text columns r.result r.kinds)) (λ b. test (is_closing (query_alike body)) _)))))
    (λ h. (h.0, h.1.1.0, h.1.1.1.0, h.1.1.1.1, h.1.0)) (λ a. (a.0, (a.4, (a.1, (a.2, a.3)))))
query_decides (tree.PerGroup var source key groups body at) scope s =
    let columns = columns_under scope (query_alike source) in
    let inside = body_scope scope var.text columns in
    let n = groups.value in
    let behind = columns_under inside (query_alike body) in
    change _
    (both (query_fault scope source) _ (query_decides source scope s)
    (λ a. let r = real (query_alike source) scope s a in
    let scoped = body_is scope s var.text columns r.result r.kinds in
    both (unless (has_column columns key.text) _) _ (test (has_column columns key.text) _)
    (λ k. both (unless (is_within n 256) _) _ (rule (is_within n 256) _ ((1 ≤ n) × (n ≤ 256)) (within n 256) (is_within_of n 256))
    (λ g. both (query_fault inside body) _ (query_decides body inside scoped)
    (λ b. both (unless (is_closing (query_alike body)) _) _ (test (is_closing (query_alike body)) _)
    (λ c. key_decides key _ behind refl (real (query_alike body) inside scoped b).result))))))
    (λ h. (
      h.0,
      record { known = h.1.0; some_groups = h.1.1.0.0; most_groups = h.1.1.0.1; columns = h.1.1.1.1.1 },
      h.1.1.1.0,
      h.1.1.1.1.0,
    ))
    (λ a. (a.0, (a.1.known, ((a.1.some_groups, a.1.most_groups), (a.2, (a.3, a.1.columns))))))
query_decides (tree.Partition var source key groups size advance body at) scope s =
    let columns = columns_under scope (query_alike source) in
    let inside = body_scope scope var.text columns in
    let n = groups.value in
    let all = n * div_ceil size.value advance.value in
    let behind = columns_under inside (query_alike body) in
    change _
    (both (query_fault scope source) _ (query_decides source scope s)
    (λ a. let r = real (query_alike source) scope s a in
    let scoped = body_is scope s var.text columns r.result r.kinds in
    both (unless (has_column columns key.text) _) _ (test (has_column columns key.text) _)
    (λ k. both (unless (is_within n 256) _) _ (rule (is_within n 256) _ ((1 ≤ n) × (n ≤ 256)) (within n 256) (is_within_of n 256))
    (λ g. both (window_fault Tuples size advance) _ (window_decides Tuples size advance)
    (λ w. both (windows_fault groups size advance) _ (rule (nat_le all 256) _ (all ≤ 256) (leb-true all 256) (le-leb all 256))
    (λ m. both (query_fault inside body) _ (query_decides body inside scoped)
    (λ b. both (unless (is_closing (query_alike body)) _) _ (test (is_closing (query_alike body)) _)
    (λ c. key_decides key _ behind refl (real (query_alike body) inside scoped b).result))))))))
    (λ h. (
      h.0,
      record {
        grouping = record { known = h.1.0; some_groups = h.1.1.0.0; most_groups = h.1.1.0.1; columns = h.1.1.1.1.1.1.1 };
        window = h.1.1.1.0;
        windows = h.1.1.1.1.0;
      },
      h.1.1.1.1.1.0,
      h.1.1.1.1.1.1.0,
    ))
    (λ a. (
      a.0,
      (
        a.1.grouping.known,
        ((a.1.grouping.some_groups, a.1.grouping.most_groups), (a.1.window, (a.1.windows, (a.2, (a.3, a.1.grouping.columns))))),
      ),
    ))
query_decides (tree.Union l r at) scope s =
    let left = kinds_of (columns_under scope (query_alike l)) in
    let right = kinds_of (columns_under scope (query_alike r)) in
    change _
    (both (query_fault scope l) _ (query_decides l scope s)
    (λ a. both (query_fault scope r) _ (query_decides r scope s) (λ b. rule (same_kinds left right) _ (left ≡ right) (lists_equal left right) (equal_lists left right))))
    (λ h. (h.0, h.1.0, h.1.1)) (λ a. (a.0, (a.1, a.2)))
query_decides (tree.ByArrival l r at) scope s =
    let left = kinds_of (columns_under scope (query_alike l)) in
    let right = kinds_of (columns_under scope (query_alike r)) in
    let come = arrives (query_alike l) && arrives (query_alike r) in
    change _
    (both (query_fault scope l) _ (query_decides l scope s)
    (λ a. both (query_fault scope r) _ (query_decides r scope s)
    (λ b. both (unless come _) _ (test come _)
    (λ c. rule (same_kinds left right) _ (left ≡ right) (lists_equal left right) (equal_lists left right)))))
    (λ h. (h.0, h.1.0, h.1.1.0, h.1.1.1)) (λ a. (a.0, (a.1, (a.2, a.3))))
query_decides (tree.AsOf l r slots at) scope s =
    let lefts = columns_under scope (query_alike l) in
    let rights = columns_under scope (query_alike r) in
    let come = arrives (query_alike l) && arrives (query_alike r) in
    change _
    (both (query_fault scope l) _ (query_decides l scope s)
    (λ a. both (query_fault scope r) _ (query_decides r scope s)
    (λ b. both (unless come _) _ (test come _) (λ c. join_decides lefts rights slots (columns_under scope (query_alike (tree.AsOf l r slots at))) at))))
    (λ h. (h.0, h.1.0, h.1.1.0, h.1.1.1)) (λ a. (a.0, (a.1, (a.2, a.3))))
query_decides (tree.Concat l r at) scope s =
    let columns = columns_under scope (query_alike (tree.Concat l r at)) in
    change _
    (both (query_fault scope l) _ (query_decides l scope s)
    (λ a. both (query_fault scope r) _ (query_decides r scope s) (λ b. beside_decides (query_alike l) (query_alike r) columns at)))
    (λ h. (h.0, h.1.0, h.1.1.0, h.1.1.1)) (λ a. (a.0, (a.1, (a.2, a.3))))

pub exact : FirstFaultsAreExact
exact schema s h =
    let d = query_decides s.query (schema_scope schema) (schema_is schema h) in
    (d.sound, d.complete)
