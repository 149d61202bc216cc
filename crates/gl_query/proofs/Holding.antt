-- A property of rows that each step from the sources to the result of a query keeps holds of the rows of the result.
use Rattle.std.proofs.Common.{◌≡◌, ℕ, zero, suc, ◌-◌, ◌+◌, ◌*◌, ◌%◌, ◌/◌, Bool, false, List, [], ◌∷◌, ◌++◌, length, refl, sym, ap, ◌∙◌, subst, map, filter, take, drop, nat_lt, nat_eq}
use Rattle.std.specs.Prelude.{◌&&◌, IfSome, Option, None, Some, nat_le, IsTrue, bytes_eq, flat_map, not, option_and_then, remove, reverse, slice_get, slice_index}
use Rattle.std.specs.List.{AllByRecursion, cons_option, range_with_len}
use Rattle.std.proofs.lemmas.List.{reverse-append}
use Rattle.gl_values.specs.declared.kind.Kind.{Kind}
use Rattle.gl_values.specs.Lists.{Group, IsInterleaving, nothing, from_first, from_second, distinct, groups, keys_of, part, rows_with, slices}
use Rattle.gl_values.specs.Partitions.{completed, completed_by, fulls, has_key, keyed, parts, short_slices}
use Rattle.gl_values.specs.Results.{Row, Results, AreJoined, IsOfGroup, beside}
use Rattle.gl_values.specs.Times.{tfirsts, tpart}
use Rattle.gl_frames.specs.Frames.{by_key, each_of, frame_of, if_has_key, row_before, rows_preceding}
use Rattle.gl_arrival.specs.Places.{Placed}
use Rattle.gl_arrival.specs.Places as arrival
use Rattle.gl_arrival.specs.Arrival.{by_arrival}
use Rattle.gl_arrival.specs.Changes.{mapped_at}
use Rattle.gl_arrival.proofs.ChangeLemmas.{rows_each}
use Rattle.gl_arrival.proofs.OrderLemmas.{all_of_both}
use Rattle.gl_arrival.proofs.ResultLemmas.{rows_interleave}
use Rattle.gl_asof.specs.AsOf as asof
use Rattle.gl_asof.proofs.EachLemmas.{each_stepped}
use Rattle.gl_bits.proofs.AllLists.{all_append, all_weaker}
use Rattle.gl_bits.proofs.Bools.{by_cases}
use Rattle.gl_schema.specs.declared.schema.Column.{Column}
use Rattle.gl_schema.specs.Schemas.{has_column, kinds_of}
use Rattle.gl_query.specs.declared.tree.Measure.{Measure}
use Rattle.gl_query.specs.declared.tree.Measure.TheVariants.{Tuples, Time}
use Rattle.gl_query.specs.Shapes.{AggItemShape, ExprShape, FrameItemShape, PickShape}
use Rattle.gl_query.specs.Shapes as shape
use Rattle.gl_query.specs.Values.{column_kind, column_number}
use Rattle.gl_query.specs.Columns.{agg_column, but_key, columns_of, frame_column, picked_columns, source_columns, colon, inside, marked, parameters_in, reach_of}
use Rattle.gl_query.specs.Accepted.{IsAgg, IsFrame, IsPick}
use Rattle.gl_query.specs.Results.{IsResultIn, beside_last, columns_in, frame_row, join_by, kept, only, picked, streams_of, ticks_in, times_in, total_row, Env, Reach, is_kept, reach_in, reached_row, widened, words_in}
use Rattle.gl_query.specs.Windows.{parts_of}
use Rattle.gl_query.specs.Laws.{HoldsIn, HoldsOfResults}
use Rattle.gl_query.proofs.Arriving.{arrived, as_union}

-- each step keeps it
pub record IsKept (P : List Column → Row → Type 0) : Type 0 where
  pub picks : (columns : List Column) (reach : Reach) (pick : PickShape) (row : Row) → IsPick reach.columns pick → P columns row
      → P reach.columns (row ++ reach.words) → P (picked_columns columns reach.columns pick) (picked reach pick row)
  pub totals : (columns : List Column) (aggs : List AggItemShape) (rows : List Row) → AllByRecursion (λ (i : AggItemShape). IsAgg columns i.agg) aggs
      → AllByRecursion (P columns) rows → P (map (agg_column columns) aggs) (total_row columns aggs rows)
  pub frames : (columns : List Column) (items : List FrameItemShape) (rows : List Row) → AllByRecursion (λ (i : FrameItemShape). IsFrame columns i.frame) items
      → AllByRecursion (P columns) rows → P (map (frame_column columns) items) (frame_row columns items rows)
  pub keyed : (columns more : List Column) (key : List ℕ) (row rest : Row) → IsTrue (has_column columns key) → P columns row → P more rest
      → P (record { name = key; kind = column_kind columns key } ∷ more) (slice_index row (column_number columns key) ∷ rest)
  pub joined : (lefts rights : List Column) (left right : Row) → P lefts left → P rights right → P (lefts ++ rights) (left ++ right)
  pub without : (columns : List Column) (i : ℕ) (row : Row) → P columns row → P (remove columns i) (remove row i)
  pub zeros : (columns : List Column) → P columns (map (λ (c : Column). 0) columns)
  pub alike : (columns others : List Column) (row : Row) → kinds_of columns ≡ kinds_of others → P others row → P columns row

-- ---- parts of a list

pub all_filter : {A : Type 0} (P : A → Type 0) (p : A → Bool) (xs : List A) → AllByRecursion P xs → AllByRecursion P (filter p xs)
all_filter P p [] h = tt
all_filter P p (x ∷ xs) h = by_cases (p x) (λ e. rw e (h.0, all_filter P p xs h.1)) (λ e. rw e (all_filter P p xs h.1))

pub all_take : {A : Type 0} (P : A → Type 0) (n : ℕ) (xs : List A) → AllByRecursion P xs → AllByRecursion P (take n xs)
all_take P zero xs h = tt
all_take P (suc n) [] h = tt
all_take P (suc n) (x ∷ xs) h = (h.0, all_take P n xs h.1)

pub all_drop : {A : Type 0} (P : A → Type 0) (n : ℕ) (xs : List A) → AllByRecursion P xs → AllByRecursion P (drop n xs)
all_drop P zero xs h = h
all_drop P (suc n) [] h = tt
all_drop P (suc n) (x ∷ xs) h = all_drop P n xs h.1

pub all_slices_at : (P : Row → Type 0) (size advance : ℕ) (rows : List Row) (places : List ℕ) → AllByRecursion P rows
    → AllByRecursion (AllByRecursion P) (map (λ j. part size (j * advance) rows) (filter (λ j. nat_lt (j * advance) (length rows)) places))
all_slices_at P size advance rows [] h = tt
all_slices_at P size advance rows (j ∷ places) h =
    by_cases (nat_lt (j * advance) (length rows))
    (λ e. rw e (all_take P size (drop (j * advance) rows) (all_drop P (j * advance) rows h), all_slices_at P size advance rows places h))
    (λ e. rw e (all_slices_at P size advance rows places h))

pub all_slices : (P : Row → Type 0) (size advance : ℕ) (rows : List Row) → AllByRecursion P rows → AllByRecursion (AllByRecursion P) (slices size advance rows)
unfolding slices
all_slices P size advance rows h = all_slices_at P size advance rows (range_with_len 0 (length rows)) h

all_tpart : (P : Row → Type 0) (from size : ℕ) (times : List ℕ) (rows : List Row) → AllByRecursion P rows → AllByRecursion P (tpart from size times rows)
all_tpart P from size [] rows h = tt
all_tpart P from size (t ∷ ts) [] h = tt
all_tpart P from size (t ∷ ts) (row ∷ rows) h =
    by_cases (nat_le from t && nat_lt t (from + size)) (λ e. rw e (h.0, all_tpart P from size ts rows h.1)) (λ e. rw e (all_tpart P from size ts rows h.1))

all_tfirsts : (P : Row → Type 0) (size advance n : ℕ) (times : List ℕ) (rows : List Row) → AllByRecursion P rows
    → AllByRecursion (AllByRecursion P) (tfirsts size advance n times rows)
all_tfirsts P size advance zero times rows h = tt
all_tfirsts P size advance (suc n) times rows h =
    all_append (AllByRecursion P) (tfirsts size advance n times rows) (tpart (n * advance) size times rows ∷ []) (all_tfirsts P size advance n times rows h)
    (all_tpart P (n * advance) size times rows h, tt)

pub all_parts : (P : Row → Type 0) (measure : Measure) (size advance : ℕ) (times : List ℕ) (ticks : ℕ) (rows : List Row) → AllByRecursion P rows
    → AllByRecursion (AllByRecursion P) (parts_of measure size advance times ticks rows)
all_parts P Tuples size advance times ticks rows h = all_slices P size advance rows h
all_parts P Time size advance times ticks rows h = all_tfirsts P size advance (suc (ticks / advance)) times rows h

-- ---- rows up to a row

all_reversed : {A : Type 0} (P : A → Type 0) (xs : List A) → AllByRecursion P xs → AllByRecursion P (reverse xs)
all_reversed P [] h = tt
all_reversed P (x ∷ xs) h = subst (AllByRecursion P) (sym (reverse-append (x ∷ []) xs)) (all_append P (reverse xs) (x ∷ []) (all_reversed P xs h.1) (h.0, tt))

all_get : {A : Type 0} (P : A → Type 0) (xs : List A) (k : ℕ) → AllByRecursion P xs → IfSome (slice_get xs k) P
all_get P [] k h = tt
all_get P (x ∷ xs) zero h = h.0
all_get P (x ∷ xs) (suc k) h = all_get P xs k h.1

-- a row before the last one
pub all_before : {A : Type 0} (P : A → Type 0) (k : ℕ) (xs : List A) → AllByRecursion P xs → IfSome (row_before k xs) P
all_before P k xs h = all_get P (reverse xs) k (all_reversed P xs h)

all_preceding : {A : Type 0} (P : A → Type 0) (back : Option ℕ) (xs : List A) → AllByRecursion P xs → AllByRecursion P (rows_preceding back xs)
all_preceding P None xs h = h
all_preceding P (Some k) xs h = all_drop P (length xs - suc k) xs h

-- the rows of a frame that pass
pub all_in_frame : {A : Type 0} (P : A → Type 0) (back : Option ℕ) (passes : A → Bool) (xs : List A) → AllByRecursion P xs → AllByRecursion P (frame_of back passes xs)
all_in_frame P back passes xs h = all_filter P passes (rows_preceding back xs) (all_preceding P back xs h)

all_more : {A : Type 0} (P : A → Type 0) (o : Option A) (xs : List A) → IfSome o P → AllByRecursion P xs → AllByRecursion P (cons_option o xs)
all_more P None xs h k = k
all_more P (Some x) xs h k = (h, k)

-- what is made of the rows up to each, where something is
all_each : {A : Type 0} (P : Row → Type 0) (Q : A → Type 0) (f : List A → Option Row) → ((ys : List A) → AllByRecursion Q ys → IfSome (f ys) P) → (seen xs : List A)
    → AllByRecursion Q seen → AllByRecursion Q xs → AllByRecursion P (each_of f seen xs)
all_each P Q f g seen [] h k = tt
all_each P Q f g seen (x ∷ xs) h k =
    let more : AllByRecursion Q (seen ++ x ∷ []) = all_append Q seen (x ∷ []) h (k.0, tt) in
    all_more P (f (seen ++ x ∷ [])) (each_of f (seen ++ x ∷ []) xs) (g (seen ++ x ∷ []) more) (all_each P Q f g (seen ++ x ∷ []) xs more k.1)

-- what is made of those of the last one's key
all_by_key : (P Q : Row → Type 0) (n : ℕ) (key_of : Row → ℕ) (f : List Row → Row) → ((ys : List Row) → AllByRecursion Q ys → P (f ys)) → (xs : List Row) (o : Option Row)
    → AllByRecursion Q xs → IfSome (if_has_key n key_of f xs o) P
all_by_key P Q n key_of f g xs None h = tt
all_by_key P Q n key_of f g xs (Some row) h =
    by_cases (has_key n key_of xs (key_of row))
    (λ e. rw e (g (rows_with key_of xs (key_of row)) (all_filter Q (λ x. nat_eq (key_of x) (key_of row)) xs h))) (λ e. rw e tt)

-- ---- groups

-- a row with this key has the property
pub record HasKey (P : Row → Type 0) (key_of : Row → ℕ) (key : ℕ) : Type 0 where
  pub row : Row
  pub holds : P row
  pub is : key_of row ≡ key

-- the property holds of a group's rows, and of a row with its key
pub record IsGroupOf (P : Row → Type 0) (key_of : Row → ℕ) (group : Group Row) : Type 0 where
  pub rows : AllByRecursion P group.rows
  pub key : HasKey P key_of group.key

all_distinct : (P : ℕ → Type 0) (xs : List ℕ) → AllByRecursion P xs → AllByRecursion P (distinct xs)
all_distinct P [] h = tt
all_distinct P (x ∷ xs) h = (h.0, all_filter P (λ y. not (nat_eq x y)) (distinct xs) (all_distinct P xs h.1))

all_keys : (P : Row → Type 0) (key_of : Row → ℕ) (rows : List Row) → AllByRecursion P rows → AllByRecursion (HasKey P key_of) (map key_of rows)
all_keys P key_of [] h = tt
all_keys P key_of (row ∷ rows) h = (record { row = row; holds = h.0; is = refl }, all_keys P key_of rows h.1)

all_groups_of : (P : Row → Type 0) (key_of : Row → ℕ) (rows : List Row) (keys : List ℕ) → AllByRecursion P rows → AllByRecursion (HasKey P key_of) keys
    → AllByRecursion (IsGroupOf P key_of) (map (λ key. record { key = key; rows = rows_with key_of rows key }) keys)
all_groups_of P key_of rows [] h ks = tt
all_groups_of P key_of rows (key ∷ keys) h ks =
    (record { rows = all_filter P (λ x. nat_eq (key_of x) key) rows h; key = ks.0 }, all_groups_of P key_of rows keys h ks.1)

all_groups : (P : Row → Type 0) (n : ℕ) (key_of : Row → ℕ) (rows : List Row) → AllByRecursion P rows → AllByRecursion (IsGroupOf P key_of) (groups n key_of rows)
unfolding groups
all_groups P n key_of rows h =
    let keys = all_take (HasKey P key_of) n (keys_of key_of rows) (all_distinct (HasKey P key_of) (map key_of rows) (all_keys P key_of rows h)) in
    all_groups_of P key_of rows (take n (keys_of key_of rows)) h keys

-- ---- windows of groups

all_keyed : (P : Row → Type 0) (key_of : Row → ℕ) (key : ℕ) (windows : List (List Row)) → HasKey P key_of key → AllByRecursion (AllByRecursion P) windows
    → AllByRecursion (IsGroupOf P key_of) (keyed key windows)
all_keyed P key_of key [] k h = tt
all_keyed P key_of key (w ∷ ws) k h = (record { rows = h.0; key = k }, all_keyed P key_of key ws k h.1)

all_completed : (P : Row → Type 0) (size advance : ℕ) (rows : List Row) → AllByRecursion P rows → AllByRecursion (AllByRecursion P) (completed size advance rows)
all_completed P size advance rows h =
    by_cases (nat_le size (length rows) && nat_eq ((length rows - size) % advance) 0)
    (λ e. rw e (all_drop P (length rows - size) rows h, tt)) (λ e. rw e tt)

all_completed_by : (P : Row → Type 0) (n : ℕ) (key_of : Row → ℕ) (size advance : ℕ) (seen : List Row) (row : Row) → AllByRecursion P seen → P row
    → AllByRecursion (IsGroupOf P key_of) (completed_by n key_of size advance seen row)
all_completed_by P n key_of size advance seen row h p =
    let own = rows_with key_of (seen ++ row ∷ []) (key_of row) in
    let held = all_filter P (λ x. nat_eq (key_of x) (key_of row)) (seen ++ row ∷ []) (all_append P seen (row ∷ []) h (p, tt)) in
    by_cases (has_key n key_of (seen ++ row ∷ []) (key_of row))
    (λ e. rw e (all_keyed P key_of (key_of row) (completed size advance own) (record { row = row; holds = p; is = refl }) (all_completed P size advance own held)))
    (λ e. rw e tt)

all_fulls : (P : Row → Type 0) (n : ℕ) (key_of : Row → ℕ) (size advance : ℕ) (seen rows : List Row) → AllByRecursion P seen → AllByRecursion P rows
    → AllByRecursion (IsGroupOf P key_of) (fulls n key_of size advance seen rows)
all_fulls P n key_of size advance seen [] h k = tt
all_fulls P n key_of size advance seen (row ∷ rows) h k =
    all_append (IsGroupOf P key_of) (completed_by n key_of size advance seen row) (fulls n key_of size advance (seen ++ row ∷ []) rows)
    (all_completed_by P n key_of size advance seen row h k.0)
    (all_fulls P n key_of size advance (seen ++ row ∷ []) rows (all_append P seen (row ∷ []) h (k.0, tt)) k.1)

all_shorts : (P : Row → Type 0) (key_of : Row → ℕ) (size advance : ℕ) (gs : List (Group Row)) → AllByRecursion (IsGroupOf P key_of) gs
    → AllByRecursion (IsGroupOf P key_of) (flat_map (λ (g : Group Row). keyed g.key (short_slices size advance g.rows)) gs)
all_shorts P key_of size advance [] h = tt
all_shorts P key_of size advance (g ∷ gs) h =
    all_append (IsGroupOf P key_of) (keyed g.key (short_slices size advance g.rows))
    (flat_map (λ (g : Group Row). keyed g.key (short_slices size advance g.rows)) gs)
    (all_keyed P key_of g.key (short_slices size advance g.rows) h.0.key
    (all_filter (AllByRecursion P) (λ ys. nat_lt (length ys) size) (slices size advance g.rows) (all_slices P size advance g.rows h.0.rows)))
    (all_shorts P key_of size advance gs h.1)

pub all_windows_of : (P : Row → Type 0) (n : ℕ) (key_of : Row → ℕ) (size advance : ℕ) (rows : List Row) → AllByRecursion P rows
    → AllByRecursion (IsGroupOf P key_of) (parts n key_of size advance rows)
unfolding parts
all_windows_of P n key_of size advance rows h =
    all_append (IsGroupOf P key_of) (fulls n key_of size advance [] rows)
    (flat_map (λ (g : Group Row). keyed g.key (short_slices size advance g.rows)) (groups n key_of rows))
    (all_fulls P n key_of size advance [] rows tt h) (all_shorts P key_of size advance (groups n key_of rows) (all_groups P n key_of rows h))

-- ---- joins

-- a row of either side has its side's property
abbrev pub OfSide : (Row → Type 0) → (Row → Type 0) → asof.OfEither Row Row → Type 0
OfSide P Q (asof.of_left a) = P a
OfSide P Q (asof.of_right b) = Q b

all_lefts : (P Q : Row → Type 0) (xs : List (Placed Row)) → AllByRecursion P (arrival.rows_of xs) → AllByRecursion (OfSide P Q) (arrival.rows_of (mapped_at asof.of_left xs))
all_lefts P Q [] h = tt
all_lefts P Q (x ∷ xs) h = (h.0, all_lefts P Q xs h.1)

all_rights : (P Q : Row → Type 0) (ys : List (Placed Row)) → AllByRecursion Q (arrival.rows_of ys) → AllByRecursion (OfSide P Q) (arrival.rows_of (mapped_at asof.of_right ys))
all_rights P Q [] h = tt
all_rights P Q (y ∷ ys) h = (h.0, all_rights P Q ys h.1)

pub all_sides : (P Q : Row → Type 0) (xs ys : List (Placed Row)) → AllByRecursion P (arrival.rows_of xs) → AllByRecursion Q (arrival.rows_of ys)
    → AllByRecursion (OfSide P Q) (arrival.rows_of (asof.both_sides xs ys))
all_sides P Q xs ys h k =
    let lefts : List (Placed (asof.OfEither Row Row)) = mapped_at asof.of_left xs in
    let rights : List (Placed (asof.OfEither Row Row)) = mapped_at asof.of_right ys in
    all_of_both (OfSide P Q) (arrival.rows_of rights) (arrival.rows_of lefts) (arrival.rows_of (by_arrival rights lefts)) (rows_interleave rights lefts)
    (all_rights P Q ys k) (all_lefts P Q xs h)

rights_hold : (P Q : Row → Type 0) (zs : List (asof.OfEither Row Row)) → AllByRecursion (OfSide P Q) zs → AllByRecursion Q (asof.rights_in zs)
rights_hold P Q [] h = tt
rights_hold P Q (asof.of_left a ∷ zs) h = rights_hold P Q zs h.1
rights_hold P Q (asof.of_right b ∷ zs) h = (h.0, rights_hold P Q zs h.1)

pub last_holds : (P Q : Row → Type 0) (zs : List (asof.OfEither Row Row)) → AllByRecursion (OfSide P Q) zs → IfSome (asof.last_right zs) Q
last_holds P Q zs h = all_before Q 0 (asof.rights_in zs) (rights_hold P Q zs h)

module _ (P Q R : Row → Type 0) (by : asof.JoinBy Row Row Row) (joins : (a : Row) (o : Option Row) → P a → IfSome o Q → R (by.join a o)) where
  joined_holds : (last : Option Row) (o : Option (asof.OfEither Row Row)) → IfSome last Q → IfSome o (OfSide P Q) → IfSome (asof.joined_last by last o) R
  joined_holds last None h k = tt
  joined_holds last (Some (asof.of_left a)) h k = joins a last k h
  joined_holds last (Some (asof.of_right b)) h k = tt

  of_key_holds : (zs : List (asof.OfEither Row Row)) (o : Option (asof.OfEither Row Row)) → AllByRecursion (OfSide P Q) zs
      → IfSome (option_and_then (λ (p : Option Row). p) (if_has_key by.groups (asof.key_of_either by) (asof.joined by) zs o)) R
  of_key_holds zs None h = tt
  of_key_holds zs (Some z) h =
      let own : List (asof.OfEither Row Row) = rows_with (asof.key_of_either by) zs (asof.key_of_either by z) in
      let held = all_filter (OfSide P Q) (λ x. nat_eq (asof.key_of_either by x) (asof.key_of_either by z)) zs h in
      by_cases (has_key by.groups (asof.key_of_either by) zs (asof.key_of_either by z))
      (λ e. rw e (joined_holds (asof.last_right own) (row_before 0 own) (last_holds P Q own held) (all_before (OfSide P Q) 0 own held)))
      (λ e. rw e tt)

  all_as_of : (xs ys : List (Placed Row)) → AllByRecursion P (arrival.rows_of xs) → AllByRecursion Q (arrival.rows_of ys) → AllByRecursion R (arrival.rows_of (asof.as_of by xs ys))
  all_as_of xs ys h k =
      let zs : List (Placed (asof.OfEither Row Row)) = asof.both_sides xs ys in
      let made : List (asof.OfEither Row Row) → Option Row =
      λ l. option_and_then (λ (p : Option Row). p) (by_key by.groups (asof.key_of_either by) (asof.joined by) l) in
      subst (λ (l : List (Placed Row)). AllByRecursion R (arrival.rows_of l))
      (sym (each_stepped (λ (p : Option Row). p) (by_key by.groups (asof.key_of_either by) (asof.joined by)) [] zs))
      (subst (AllByRecursion R) (sym (rows_each made [] zs))
      (all_each R (OfSide P Q) made (λ l held. of_key_holds l (row_before 0 l) held) [] (arrival.rows_of zs) tt (all_sides P Q xs ys h k)))

beside_holds : (P : List Column → Row → Type 0) → IsKept P → (lefts rights : List Column) (key : List ℕ) (a : Row) (o : Option Row) → P lefts a → IfSome o (P rights)
    → P (lefts ++ but_key key rights) (beside_last rights key a o)
beside_holds P k lefts rights key a None h q = k.joined lefts (but_key key rights) a (map (λ (c : Column). 0) (but_key key rights)) h (k.zeros (but_key key rights))
beside_holds P k lefts rights key a (Some b) h q =
    k.joined lefts (but_key key rights) a (remove b (column_number rights key)) h (k.without rights (column_number rights key) b q)

-- ---- results of results

all_joined : {A : Type 0} (P : Row → Type 0) (Part : A → Type 0) (body : A → Results)
    (each : (x : A) (out : List Row) (spill : Bool) → Part x → body x out spill → AllByRecursion P out)
    (parts : List A) (out : List Row) (spill : Bool) → AllByRecursion Part parts → AreJoined body parts out spill → AllByRecursion P out
all_joined P Part body each [] out spill h (e, s) = subst (AllByRecursion P) (sym e) tt
all_joined P Part body each (x ∷ parts) out spill h (first, later, p, q, here, rest, e, s) =
    subst (AllByRecursion P) (sym e) (all_append P first later (each x first p h.0 here) (all_joined P Part body each parts later q h.1 rest))

all_interleaved : (P : Row → Type 0) (xs ys zs : List Row) → AllByRecursion P xs → AllByRecursion P ys → IsInterleaving xs ys zs → AllByRecursion P zs
all_interleaved P _ _ _ h k nothing = tt
all_interleaved P _ _ _ h k (from_first x xs ys zs i) = (h.0, all_interleaved P xs ys zs h.1 k i)
all_interleaved P _ _ _ h k (from_second y xs ys zs i) = (k.0, all_interleaved P xs ys zs h k.1 i)

all_beside : (P Q R : Row → Type 0) → ((l r : Row) → P l → Q r → R (l ++ r)) → (ls rs : List Row) → AllByRecursion P ls → AllByRecursion Q rs
    → AllByRecursion R (beside ls rs)
all_beside P Q R f [] rs h k = tt
all_beside P Q R f (l ∷ ls) [] h k = tt
all_beside P Q R f (l ∷ ls) (r ∷ rs) h k = (f l r h.0 k.0, all_beside P Q R f ls rs h.1 k.1)

all_under : (P Q : Row → Type 0) (f : Row → Row) → ((row : Row) → P row → Q (f row)) → (rows : List Row) → AllByRecursion P rows → AllByRecursion Q (map f rows)
all_under P Q f g [] h = tt
all_under P Q f g (row ∷ rows) h = (g row h.0, all_under P Q f g rows h.1)

pub holds_within : (P : List Column → Row → Type 0) (env : Env) → HoldsIn P env → (var : List ℕ) (columns : List Column) (rows : List Row) → AllByRecursion (P columns) rows
    → HoldsIn P (only env var columns rows)
holds_within P env h var columns rows k = record {
  rows = λ name. by_cases (bytes_eq name colon) (λ e. rw e (h.words, tt)) (λ e. rw e (by_cases (bytes_eq name var) (λ f. rw f k) (λ f. rw f tt)));
  words = h.words;
}

-- ---- the parameters behind the columns

marked_same : (parameters : List Column) → kinds_of (map marked parameters) ≡ kinds_of parameters
marked_same [] = refl
marked_same (p ∷ parameters) = ap (λ (l : List Kind). p.kind ∷ l) (marked_same parameters)

-- a row with the words of the parameters behind it
pub reached : (P : List Column → Row → Type 0) → IsKept P → (env : Env) → HoldsIn P env → (columns : List Column) (row : Row) → P columns row
    → P (reach_of (streams_of env) columns) (row ++ words_in env)
reached P k env h columns row p =
    let parameters = parameters_in (streams_of env) in
    k.joined columns (map marked parameters) row (words_in env) p
    (k.alike (map marked parameters) parameters (words_in env) (marked_same parameters) h.words)

all_reached : (P : List Column → Row → Type 0) → IsKept P → (env : Env) → HoldsIn P env → (columns : List Column) (rows : List Row) → AllByRecursion (P columns) rows
    → AllByRecursion (P (reach_of (streams_of env) columns)) (widened (words_in env) rows)
all_reached P k env h columns rows all =
    all_under (P columns) (P (reach_of (streams_of env) columns)) (λ (row : Row). row ++ words_in env) (reached P k env h columns) rows all

all_kept : (P : List Column → Row → Type 0) (columns : List Column) (reach : Reach) (condition : Option ExprShape) (rows : List Row) → AllByRecursion (P columns) rows
    → AllByRecursion (P columns) (kept reach condition rows)
all_kept P columns reach condition rows h = all_filter (P columns) (is_kept reach condition) rows h

pub results_hold : (P : List Column → Row → Type 0) → IsKept P → HoldsOfResults P
results_hold P k (shape.Read name) env timed out spill a h r = subst (AllByRecursion (P (source_columns (streams_of env) name))) (sym r.rows) (h.rows name)
results_hold P k (shape.Rows pick condition source) env timed out spill a h r =
    let columns = columns_in env source in
    let reach = reach_in env source in
    let rows = results_hold P k source env timed r.rows spill a.0 h r.of_source in
    subst (AllByRecursion (P (picked_columns columns reach.columns pick))) (sym r.changed)
    (all_under (P columns) (P (picked_columns columns reach.columns pick)) (picked reach pick)
    (λ row p. k.picks columns reach pick row a.1.picks p (reached P k env h columns row p))
    (kept reach condition r.rows) (all_kept P columns reach condition r.rows rows))
results_hold P k (shape.Total aggs source) env timed out spill a h r =
    let columns = columns_in env source in
    let reach = reach_in env source in
    let rows = results_hold P k source env timed r.rows spill a.0 h r.of_source in
    subst (AllByRecursion (P (map (agg_column reach.columns) aggs))) (sym r.changed)
    (k.totals reach.columns aggs (widened reach.words r.rows) a.1.typed (all_reached P k env h columns r.rows rows), tt)
results_hold P k (shape.Frames items condition None source) env timed out spill a h r =
    let columns = columns_in env source in
    let reach = reach_in env source in
    let Whole : Row → Type 0 = P (map (frame_column reach.columns) items) in
    let rows = results_hold P k source env timed r.rows spill a.0 h r.of_source in
    subst (AllByRecursion Whole) (sym r.changed)
    (all_each Whole (P columns) (λ ys. Some (reached_row reach items ys))
    (λ ys held. k.frames reach.columns items (widened reach.words ys) a.1.typed (all_reached P k env h columns ys held)) []
    (kept reach condition r.rows) tt (all_kept P columns reach condition r.rows rows))
results_hold P k (shape.Frames items condition (Some s) source) env timed out spill a h r =
    let columns = columns_in env source in
    let reach = reach_in env source in
    let Whole : Row → Type 0 = P (map (frame_column reach.columns) items) in
    let key_of : Row → ℕ = λ row. slice_index row (column_number columns s.key) in
    let rows = results_hold P k source env timed r.rows r.source_spill a.0 h r.of_source in
    subst (AllByRecursion Whole) (sym r.changed)
    (all_each Whole (P columns) (by_key s.groups key_of (reached_row reach items))
    (λ ys held. all_by_key Whole (P columns) s.groups key_of (reached_row reach items)
    (λ zs own. k.frames reach.columns items (widened reach.words zs) a.1.typed (all_reached P k env h columns zs own)) ys (row_before 0 ys) held) []
    (kept reach condition r.rows) tt (all_kept P columns reach condition r.rows rows))
results_hold P k (shape.Each measure var source size advance body) env timed out spill a h r =
    let columns = columns_in env source in
    let rows = results_hold P k source env timed r.rows r.source_spill a.0 h r.of_source in
    all_joined (P (columns_of (inside (streams_of env) var columns) body)) (AllByRecursion (P columns)) (λ part. IsResultIn body (only env var columns part))
    (λ part o s p is. results_hold P k body (only env var columns part) false o s a.2 (holds_within P env h var columns part p) is)
    (parts_of measure size advance (times_in env source) (ticks_in env source) r.rows) out r.parts_spill
    (all_parts (P columns) measure size advance (times_in env source) (ticks_in env source) r.rows rows) r.of_parts
results_hold P k (shape.PerGroup var source key n body) env timed out spill a h r =
    let columns = columns_in env source in
    let more = columns_of (inside (streams_of env) var columns) body in
    let key_of : Row → ℕ = λ row. slice_index row (column_number columns key) in
    let rows = results_hold P k source env timed r.rows r.source_spill a.0 h r.of_source in
    let Whole : Row → Type 0 = P (record { name = key; kind = column_kind columns key } ∷ more) in
    all_joined Whole (IsGroupOf (P columns) key_of) (IsOfGroup (λ part. IsResultIn body (only env var columns part)))
    (λ (g : Group Row) o s p is.
    let inner = results_hold P k body (only env var columns g.rows) false is.rows s a.2 (holds_within P env h var columns g.rows p.rows) is.of_source in
    let one : (rest : Row) → P more rest → Whole (g.key ∷ rest) =
    λ rest held. subst (λ (first : ℕ). Whole (first ∷ rest)) p.key.is (k.keyed columns more key p.key.row rest a.1.known p.key.holds held) in
    subst (AllByRecursion Whole) (sym is.changed) (all_under (P more) Whole (λ row. g.key ∷ row) one is.rows inner))
    (groups n key_of r.rows) out r.parts_spill (all_groups (P columns) n key_of r.rows rows) r.of_parts
results_hold P k (shape.Partition var source key n size advance body) env timed out spill a h r =
    let columns = columns_in env source in
    let more = columns_of (inside (streams_of env) var columns) body in
    let key_of : Row → ℕ = λ row. slice_index row (column_number columns key) in
    let rows = results_hold P k source env timed r.rows r.source_spill a.0 h r.of_source in
    let Whole : Row → Type 0 = P (record { name = key; kind = column_kind columns key } ∷ more) in
    all_joined Whole (IsGroupOf (P columns) key_of) (IsOfGroup (λ part. IsResultIn body (only env var columns part)))
    (λ (g : Group Row) o s p is.
    let inner = results_hold P k body (only env var columns g.rows) false is.rows s a.2 (holds_within P env h var columns g.rows p.rows) is.of_source in
    let one : (rest : Row) → P more rest → Whole (g.key ∷ rest) =
    λ rest held. subst (λ (first : ℕ). Whole (first ∷ rest)) p.key.is (k.keyed columns more key p.key.row rest a.1.grouping.known p.key.holds held) in
    subst (AllByRecursion Whole) (sym is.changed) (all_under (P more) Whole (λ row. g.key ∷ row) one is.rows inner))
    (parts n key_of size advance r.rows) out r.parts_spill (all_windows_of (P columns) n key_of size advance r.rows rows) r.of_parts
results_hold P k (shape.Union l r) env timed out spill a h is =
    let columns = columns_in env l in
    let left = results_hold P k l env timed is.left is.left_spill a.0 h is.of_left in
    let right = results_hold P k r env timed is.right is.right_spill a.1 h is.of_right in
    let alike = all_weaker (P (columns_in env r)) (P columns) (λ row p. k.alike columns (columns_in env r) row a.2 p) is.right right in
    all_interleaved (P columns) is.left is.right out left alike is.join
results_hold P k (shape.ByArrival l r) env timed out spill a h is =
    let columns = columns_in env l in
    let both = as_union l r env out spill is in
    let left = results_hold P k l env timed both.left both.left_spill a.0 h both.of_left in
    let right = results_hold P k r env timed both.right both.right_spill a.1 h both.of_right in
    let alike = all_weaker (P (columns_in env r)) (P columns) (λ row p. k.alike columns (columns_in env r) row a.3 p) both.right right in
    all_interleaved (P columns) both.left both.right out left alike both.join
results_hold P k (shape.AsOf l r slots) env timed out spill a h is =
    let lefts = columns_in env l in
    let rights = columns_in env r in
    let u = is.of_source in
    let left = results_hold P k l env timed (arrival.rows_of u.left) u.left_spill a.0 h (arrived l env u.left u.left_spill u.of_left) in
    let right = results_hold P k r env timed (arrival.rows_of u.right) u.right_spill a.1 h (arrived r env u.right u.right_spill u.of_right) in
    let Whole : Row → Type 0 = P (lefts ++ but_key slots.key rights) in
    subst (AllByRecursion Whole) (sym (is.without ∙ ap (λ (l : List (Placed Row)). arrival.rows_of l) u.joined))
    (all_as_of (P lefts) (P rights) Whole (join_by lefts rights slots) (λ x o p q. beside_holds P k lefts rights slots.key x o p q) u.left u.right left right)
results_hold P k (shape.Concat l r) env timed out spill a h is =
    let left = results_hold P k l env timed is.left is.left_spill a.0 h is.of_left in
    let right = results_hold P k r env timed is.right is.right_spill a.1 h is.of_right in
    let Whole : Row → Type 0 = P (columns_in env l ++ columns_in env r) in
    subst (AllByRecursion Whole) (sym is.join.rows)
    (all_beside (P (columns_in env l)) (P (columns_in env r)) Whole (λ x y p q. k.joined (columns_in env l) (columns_in env r) x y p q) is.left is.right left right)
