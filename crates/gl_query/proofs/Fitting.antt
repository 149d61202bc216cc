-- The rows of a result fit the kinds of the query's columns.
use Rattle.std.proofs.Common.{◌≡◌, ℕ, zero, suc, ◌+◌, ◌-◌, ◌*◌, ◌/◌, ◌%◌, ◌<◌, ◌≤◌, ◌^◌, Bool, true, List, [], ◌∷◌, ◌++◌, length, map, sym, ap, subst, ◌∙◌, arith}
use Rattle.std.specs.Prelude.{◌||◌, IfSome, Option, None, Some, bytes_eq, bit_and, bit_or, neg_ℤ, nat_le, nat_lt, pos, remove, replicate, sum, slice_get, slice_index, option_map, unwrap_or}
use Rattle.std.specs.List.{AllByRecursion, fold, list_all, list_any}
use Rattle.std.proofs.lemmas.Bool.{leb-true, ltb-true}
use Rattle.std.proofs.Math.Nat.{mod-lt, div-lt_iff_lt-mul, mul_comm, mul-lt-mul_of_pos_right}
use Rattle.std.proofs.lemmas.Nat.{pow_pos, and_le_l, or_lt, xor_lt}
use Rattle.std.proofs.lemmas.List.{length-append, length-replicate}
use Rattle.gl_values.specs.declared.kind.Kind.{Kind}
use Rattle.gl_values.specs.declared.kind.Kind.TheVariants.{Unsigned, Signed, Text}
use Rattle.gl_values.specs.declared.op.Op.{Op}
use Rattle.gl_values.specs.declared.op.Op.TheVariants as op
use Rattle.gl_values.specs.Kinds.{IsKind, bytes_in, width_of, is_at_most, is_below, number_in, signed_number}
use Rattle.gl_values.specs.Operators.{cast_of, operate, result_kind, sort_of}
use Rattle.gl_values.specs.Results.{Row}
use Rattle.gl_frames.specs.Frames.{frame_of, lag_of, number_or, row_before}
use Rattle.gl_values.specs.Totals.{count_of, greater, greatest_of, least_of, lesser, sum_total, weighted, weighted_sum}
use Rattle.gl_bits.specs.Words.{difference_of, eq_of, not_of, product_of, sum_of}
use Rattle.gl_bits.proofs.AllLists.{all_append}
use Rattle.gl_bits.proofs.Bools.{and_left, and_parts, and_right, bit_fits, by_cases}
use Rattle.gl_values.proofs.KindLemmas.{range_below, text_width}
use Rattle.gl_values.proofs.Signs.{word_fits}
use Rattle.gl_values.proofs.Totalling.{average_fits}
use Rattle.gl_schema.specs.declared.schema.Column.{Column}
use Rattle.gl_schema.specs.Schemas.{IsRowOf, has_column, kinds_of, number_of, padded, text_word}
use Rattle.gl_query.specs.Shapes.{AggItemShape, AggShape, ExprShape, FrameAggShape, FrameItemShape, FrameShape, ItemShape, PickShape}
use Rattle.gl_query.specs.Shapes as shape
use Rattle.gl_query.specs.Values.{CanApply, HasKind, IsLettersOf, column_number, kind_alone, kind_of, operand_place, value_of}
use Rattle.gl_query.specs.Columns.{agg_column, agg_kind, frame_agg_kind, frame_column, frame_kind, item_column, picked_columns}
use Rattle.gl_query.specs.Accepted.{IsAgg, IsFrame, IsFrameAgg, IsPick}
use Rattle.gl_query.specs.Results.{Reach, agg_value, frame_agg_value, frame_row, frame_value, keeps, picked, total_row, values_of}
use Rattle.gl_query.specs.Laws.{ResultsFit}
use Rattle.gl_query.proofs.Holding.{IsKept, all_before, all_in_frame, results_hold}
use Rattle.gl_query.proofs.OwnKinds.{operator_gives}
use Rattle.gl_schema.proofs.TextNumbers.{bytes_below, zeros_small}

-- ---- texts

length_padded : (n : ℕ) (text : List ℕ) → length text ≤ n → 0 + length (padded n text) ≡ n
length_padded n text le =
    let e = length-append text (replicate (n - length text) 0) ∙ ap (λ (k : ℕ). length text + k) (length-replicate (n - length text) 0) in omega (arith, e)

text_below : (n : ℕ) (text : List ℕ) → length text ≤ n → AllByRecursion (λ b. b < 256) text → text_word n text < 2 ^ (8 * n)
unfolding text_word
text_below n text le h =
    subst (λ (k : ℕ). number_of (padded n text) < 2 ^ (8 * k)) (length_padded n text le)
    (bytes_below (padded n text) 0 0 (all_append (λ b. b < 256) text (replicate (n - length text) 0) h (zeros_small (n - length text))) (omega arith))

are_bytes : (text : List ℕ) → list_all (λ b. nat_lt b 256) text ≡ true → AllByRecursion (λ b. b < 256) text
are_bytes [] e = tt
are_bytes (b ∷ bs) e =
    let p = and_parts (nat_lt b 256) (list_all (λ b. nat_lt b 256) bs) e in
    (ltb-true b 256 p.0, are_bytes bs p.1)

-- a kind has at most 8 bytes, and a text of a kind no more than the kind
pub bytes_few : (kind : Kind) → IsKind kind → bytes_in kind ≤ 8
bytes_few kind is = few (width_of kind) is.1
  where
    few : (w : ℕ) → w ≤ 64 → w / 8 ≤ 8
    few w le = omega arith

pub letters_short : (kind : Kind) (text : List ℕ) → IsLettersOf kind text → length text ≤ bytes_in kind
letters_short kind text h =
    leb-true (length text) (bytes_in kind) (and_left (nat_le (length text) (bytes_in kind)) (list_all (λ b. nat_lt b 256) text) h.1)

-- the word of a text of a kind is one
pub letters_below : (kind : Kind) (text : List ℕ) → IsLettersOf kind text → text_word (bytes_in kind) text < 2 ^ width_of kind
letters_below kind text h =
    subst (λ (w : ℕ). text_word (bytes_in kind) text < 2 ^ w) (text_width kind h.0)
    (text_below (bytes_in kind) text (letters_short kind text h)
    (are_bytes text (and_right (nat_le (length text) (bytes_in kind)) (list_all (λ b. nat_lt b 256) text) h.1)))

-- ---- words

wrapped : (n w : ℕ) → n % 2 ^ w < 2 ^ w
wrapped n w = mod-lt n (pow_pos w)

cut_below : (m n x : ℕ) → x < 2 ^ m → x * 2 ^ n / 2 ^ m < 2 ^ n
cut_below m n x lt = below x (2 ^ m) (2 ^ n) lt (pow_pos n) (pow_pos m)
  where
    below : (x p q : ℕ) → x < p → 0 < q → 0 < p → x * q / p < q
    below x p q lt some some' =
        let less = subst (λ (k : ℕ). x * q < k) (mul_comm p q) (mul-lt-mul_of_pos_right {m = x} {n = p} {k = q} lt some) in
        (div-lt_iff_lt-mul {k = p} {x = x * q} {y = q} some').1 less

cast_below : (from to : Kind) (x : ℕ) → x < 2 ^ width_of from → cast_of from to x < 2 ^ width_of to
cast_below (Unsigned v) to x lt = wrapped x (width_of to)
cast_below (Signed v) to x lt = word_fits (width_of to) (signed_number v x)
cast_below (Text n) to x lt = cut_below (8 * n) (width_of to) x lt

-- the other bits of a word
flip_below : (w x : ℕ) → not_of w x < 2 ^ w
unfolding not_of
flip_below w x = less (2 ^ w) x (pow_pos w)
  where
    less : (n x : ℕ) → 0 < n → n - 1 - x < n
    less n x some = omega arith

not_below : (x : ℕ) → not_of 1 x < 2 ^ 1
unfolding not_of
not_below x = omega arith

equal_below : (x y : ℕ) → eq_of x y < 2 ^ 1
unfolding eq_of
equal_below x y = bit_fits _

both_below : (kind : Kind) (x y : ℕ) → kind ≡ Unsigned 1 → x < 2 ^ width_of kind → bit_and x y < 2 ^ 1
both_below kind x y e lt = let le = and_le_l x y in let less = subst (λ (k : Kind). x < 2 ^ width_of k) e lt in omega arith

either_below : (kind other : Kind) (x y : ℕ) → kind ≡ Unsigned 1 → other ≡ Unsigned 1 → x < 2 ^ width_of kind → y < 2 ^ width_of other → bit_or x y < 2 ^ 1
either_below kind other x y e f lt mt =
    or_lt 1 x y (subst (λ (k : Kind). x < 2 ^ width_of k) e lt) (subst (λ (k : Kind). y < 2 ^ width_of k) f mt)

common_below : (m x y : ℕ) → x < m → bit_and x y < m
common_below m x y lt = let le = and_le_l x y in omega arith

other_below : (kind other : Kind) (y : ℕ) → kind ≡ other → y < 2 ^ width_of other → y < 2 ^ width_of kind
other_below kind other y e mt = subst (λ (k : Kind). y < 2 ^ width_of k) (sym e) mt

operate_below : (o : Op) (kind other : Kind) (x y : ℕ) → CanApply (sort_of o) kind other → x < 2 ^ width_of kind → y < 2 ^ width_of other
    → operate o kind x y < 2 ^ width_of (result_kind (sort_of o) kind)
unfolding sum_of difference_of product_of
operate_below op.Add kind other x y can lt mt = wrapped (x + y) (width_of kind)
operate_below op.Sub kind other x y can lt mt = wrapped (x + (2 ^ width_of kind - y)) (width_of kind)
operate_below op.Mul kind other x y can lt mt = wrapped (x * y) (width_of kind)
operate_below op.BitAnd kind other x y can lt mt = common_below (2 ^ width_of kind) x y lt
operate_below op.BitOr kind other x y can lt mt = or_lt (width_of kind) x y lt (other_below kind other y can.0 mt)
operate_below op.BitXor kind other x y can lt mt = xor_lt (width_of kind) x y lt (other_below kind other y can.0 mt)
operate_below op.ShiftLeft kind other x y can lt mt = wrapped (x * 2 ^ y) (width_of kind)
operate_below op.ShiftRight kind other x y can lt mt = word_fits (width_of kind) (number_in kind (width_of kind - y) (x / 2 ^ y))
operate_below op.Eq kind other x y can lt mt = equal_below x y
operate_below op.Ne kind other x y can lt mt = not_below (eq_of x y)
operate_below op.Lt kind other x y can lt mt = bit_fits (is_below kind x y)
operate_below op.Le kind other x y can lt mt = bit_fits (is_at_most kind x y)
operate_below op.Gt kind other x y can lt mt = bit_fits (is_below kind y x)
operate_below op.Ge kind other x y can lt mt = bit_fits (is_at_most kind y x)
operate_below op.And kind other x y can lt mt = both_below kind x y can.0 lt
operate_below op.Or kind other x y can lt mt = either_below kind other x y can.0 can.1 lt mt

-- ---- expressions

one_more : (n : ℕ) → suc n ≡ 1 + n
one_more n = omega arith

-- the number at a place fits the kind of the column at it
abbrev pub FitsAt : List Column → Row → ℕ → Type 0
FitsAt columns row place = slice_index row place < 2 ^ width_of (unwrap_or (option_map (λ c. c.kind) (slice_get columns place)) (Unsigned 1))

column_below : (columns : List Column) (row : Row) (name : List ℕ) → has_column columns name ≡ true → IsRowOf columns row
    → FitsAt columns row (column_number columns name)
unfolding has_column
column_below [] row name known fits = absurd cc
column_below (c ∷ cs) [] name known fits = absurd fits
column_below (c ∷ cs) (n ∷ ns) name known fits =
    by_cases (bytes_eq name c.name) (λ e. rw e fits.0)
    (λ e. let rest : FitsAt cs ns (column_number cs name) =
    column_below cs ns name (subst (λ (b : Bool). (b || list_any (λ x. bytes_eq name x.name) cs) ≡ true) e known) fits.1 in
    rw e (subst (FitsAt (c ∷ cs) (n ∷ ns)) (one_more (column_number cs name)) rest))

pub value_below : (e : ExprShape) (columns : List Column) (place : Kind) (row : Row) → HasKind columns place e → IsRowOf columns row
    → value_of columns place e row < 2 ^ width_of (kind_of columns place e)
value_below (shape.Column name) columns place row h fits = column_below columns row name h fits
value_below (shape.Number n) columns place row h fits = range_below place n h.1
value_below (shape.Minus n) columns place row h fits = word_fits (width_of place) (neg_ℤ (pos n))
value_below (shape.Letters text) columns place row h fits = letters_below place text h
value_below (shape.Not e) columns place row h fits = not_below (value_of columns (Unsigned 1) e row)
value_below (shape.Flip e) columns place row h fits = flip_below (width_of (kind_of columns place e)) (value_of columns place e row)
value_below (shape.Cast kind e) columns place row h fits =
    cast_below (kind_of columns (kind_alone e) e) kind (value_of columns (kind_alone e) e row) (value_below e columns (kind_alone e) row h.0 fits)
value_below (shape.Binary o l r) columns place row h fits = rw (operator_gives columns place o l r)
    (operate_below o (kind_of columns (operand_place columns o place l r) l) (kind_of columns (operand_place columns o place r l) r)
    (value_of columns (operand_place columns o place l r) l row) (value_of columns (operand_place columns o place r l) r row) h.2
    (value_below l columns (operand_place columns o place l r) row h.0 fits) (value_below r columns (operand_place columns o place r l) row h.1 fits))

-- ---- aggregates

values_below : (columns : List Column) (e : ExprShape) (rows : List Row) → HasKind columns (kind_alone e) e → AllByRecursion (IsRowOf columns) rows
    → AllByRecursion (λ x. x < 2 ^ width_of (kind_of columns (kind_alone e) e)) (values_of columns e rows)
values_below columns e [] h fits = tt
values_below columns e (row ∷ rows) h fits = (value_below e columns (kind_alone e) row h fits.0, values_below columns e rows h fits.1)

lesser_below : (kind : Kind) (m x y : ℕ) → x < m → y < m → lesser kind x y < m
lesser_below kind m x y lt mt = by_cases (is_below kind y x) (λ e. rw e mt) (λ e. rw e lt)

greater_below : (kind : Kind) (m x y : ℕ) → x < m → y < m → greater kind x y < m
greater_below kind m x y lt mt = by_cases (is_below kind x y) (λ e. rw e mt) (λ e. rw e lt)

fold_below : (f : ℕ → ℕ → ℕ) (m x : ℕ) (xs : List ℕ) → ((a b : ℕ) → a < m → b < m → f a b < m) → x < m → AllByRecursion (λ x. x < m) xs → fold f x xs < m
fold_below f m x [] g lt h = lt
fold_below f m x (y ∷ ys) g lt h = fold_below f m (f x y) ys g (g x y lt h.0) h.1

least_below : (kind : Kind) (w : ℕ) (xs : List ℕ) → AllByRecursion (λ x. x < 2 ^ w) xs → least_of kind xs < 2 ^ w
unfolding least_of
least_below kind w [] h = pow_pos w
least_below kind w (x ∷ xs) h = fold_below (lesser kind) (2 ^ w) x xs (lesser_below kind (2 ^ w)) h.0 h.1

greatest_below : (kind : Kind) (w : ℕ) (xs : List ℕ) → AllByRecursion (λ x. x < 2 ^ w) xs → greatest_of kind xs < 2 ^ w
unfolding greatest_of
greatest_below kind w [] h = pow_pos w
greatest_below kind w (x ∷ xs) h = fold_below (greater kind) (2 ^ w) x xs (greater_below kind (2 ^ w)) h.0 h.1

sum_below : (w : ℕ) (xs : List ℕ) → sum_total w xs < 2 ^ w
unfolding sum_total
sum_below w xs = wrapped (sum xs) w

weighted_below : (w : ℕ) (weights xs : List ℕ) → weighted_sum w weights xs < 2 ^ w
unfolding weighted_sum
weighted_below w weights xs = wrapped (weighted weights xs) w

count_below : (rows : List Row) → count_of rows < 2 ^ 32
unfolding count_of
count_below rows = wrapped (length rows) 32

agg_below : (columns : List Column) (rows : List Row) (agg : AggShape) → IsAgg columns agg → AllByRecursion (IsRowOf columns) rows
    → agg_value columns rows agg < 2 ^ width_of (agg_kind columns agg)
agg_below columns rows shape.Count h fits = count_below rows
agg_below columns rows (shape.Sum e) h fits = sum_below _ (values_of columns e rows)
agg_below columns rows (shape.Min e) h fits = least_below _ _ (values_of columns e rows) (values_below columns e rows h fits)
agg_below columns rows (shape.Max e) h fits = greatest_below _ _ (values_of columns e rows) (values_below columns e rows h fits)
agg_below columns rows (shape.Avg e) h fits = average_fits _ (values_of columns e rows)
agg_below columns rows (shape.Wsum e weights) h fits = weighted_below _ weights (values_of columns e rows)

-- ---- rows

row_picked : (columns : List Column) (items : List ItemShape) (row : Row) → AllByRecursion (λ (i : ItemShape). HasKind columns (kind_alone i.expr) i.expr) items
    → IsRowOf columns row → IsRowOf (map (item_column columns) items) (map (λ (i : ItemShape). value_of columns (kind_alone i.expr) i.expr row) items)
row_picked columns [] row h fits = tt
row_picked columns (i ∷ items) row h fits = (value_below i.expr columns (kind_alone i.expr) row h.0 fits, row_picked columns items row h.1 fits)

fit_picked : (columns : List Column) (reach : Reach) (pick : PickShape) (row : Row) → IsPick reach.columns pick → IsRowOf columns row
    → IsRowOf reach.columns (row ++ reach.words) → IsRowOf (picked_columns columns reach.columns pick) (picked reach pick row)
fit_picked columns reach shape.All row h fits wide = fits
fit_picked columns reach (shape.Items items) row h fits wide = row_picked reach.columns items (row ++ reach.words) h.typed wide

fit_totals : (columns : List Column) (aggs : List AggItemShape) (rows : List Row) → AllByRecursion (λ (i : AggItemShape). IsAgg columns i.agg) aggs
    → AllByRecursion (IsRowOf columns) rows → IsRowOf (map (agg_column columns) aggs) (total_row columns aggs rows)
fit_totals columns [] rows h fits = tt
fit_totals columns (i ∷ aggs) rows h fits = (agg_below columns rows i.agg h.0 fits, fit_totals columns aggs rows h.1 fits)

-- ---- frames

-- the value of a row, and 0 where there is none
number_below : (columns : List Column) (e : ExprShape) (o : Option Row) → HasKind columns (kind_alone e) e → IfSome o (IsRowOf columns)
    → number_or (value_of columns (kind_alone e) e) o < 2 ^ width_of (kind_of columns (kind_alone e) e)
number_below columns e None h fits = pow_pos (width_of (kind_of columns (kind_alone e) e))
number_below columns e (Some row) h fits = value_below e columns (kind_alone e) row h fits

before_below : (columns : List Column) (e : ExprShape) (k : ℕ) (rows : List Row) → HasKind columns (kind_alone e) e → AllByRecursion (IsRowOf columns) rows
    → lag_of (value_of columns (kind_alone e) e) k rows < 2 ^ width_of (kind_of columns (kind_alone e) e)
before_below columns e k rows h fits = number_below columns e (row_before k rows) h (all_before (IsRowOf columns) k rows fits)

frame_agg_below : (columns : List Column) (back : Option ℕ) (passes : Row → Bool) (rows : List Row) (agg : FrameAggShape) → IsFrameAgg columns agg
    → AllByRecursion (IsRowOf columns) rows → frame_agg_value columns back passes rows agg < 2 ^ width_of (frame_agg_kind columns agg)
frame_agg_below columns back passes rows shape.CountOver h fits = count_below (frame_of back passes rows)
frame_agg_below columns back passes rows (shape.SumOver e) h fits = sum_below _ (values_of columns e (frame_of back passes rows))
frame_agg_below columns back passes rows (shape.MinOver e) h fits =
    least_below _ _ (values_of columns e (frame_of back passes rows)) (values_below columns e _ h (all_in_frame (IsRowOf columns) back passes rows fits))
frame_agg_below columns back passes rows (shape.MaxOver e) h fits =
    greatest_below _ _ (values_of columns e (frame_of back passes rows)) (values_below columns e _ h (all_in_frame (IsRowOf columns) back passes rows fits))
frame_agg_below columns back passes rows (shape.AvgOver e) h fits = average_fits _ (values_of columns e (frame_of back passes rows))
frame_agg_below columns back passes rows (shape.LastOver e) h fits =
    before_below columns e 0 (frame_of back passes rows) h (all_in_frame (IsRowOf columns) back passes rows fits)

frame_below : (columns : List Column) (rows : List Row) (f : FrameShape) → IsFrame columns f → AllByRecursion (IsRowOf columns) rows
    → frame_value columns rows f < 2 ^ width_of (frame_kind columns f)
frame_below columns rows (shape.Own e) h fits = before_below columns e 0 rows h fits
frame_below columns rows (shape.Lag e back) h fits = before_below columns e back rows h.typed fits
frame_below columns rows (shape.Over agg filter back) h fits = frame_agg_below columns back (keeps columns filter) rows agg h.typed fits

fit_frames : (columns : List Column) (items : List FrameItemShape) (rows : List Row) → AllByRecursion (λ (i : FrameItemShape). IsFrame columns i.frame) items
    → AllByRecursion (IsRowOf columns) rows → IsRowOf (map (frame_column columns) items) (frame_row columns items rows)
fit_frames columns [] rows h fits = tt
fit_frames columns (i ∷ items) rows h fits = (frame_below columns rows i.frame h.0 fits, fit_frames columns items rows h.1 fits)

fit_joined : (lefts rights : List Column) (left right : Row) → IsRowOf lefts left → IsRowOf rights right → IsRowOf (lefts ++ rights) (left ++ right)
fit_joined [] rights [] right h k = k
fit_joined [] rights (n ∷ ns) right h k = absurd h
fit_joined (c ∷ cs) rights [] right h k = absurd h
fit_joined (c ∷ cs) rights (n ∷ ns) right h k = (h.0, fit_joined cs rights ns right h.1 k)

fit_but : (columns : List Column) (i : ℕ) (row : Row) → IsRowOf columns row → IsRowOf (remove columns i) (remove row i)
fit_but [] zero [] h = tt
fit_but [] (suc i) [] h = tt
fit_but [] i (n ∷ row) h = absurd h
fit_but (c ∷ columns) i [] h = absurd h
fit_but (c ∷ columns) zero (n ∷ row) h = h.1
fit_but (c ∷ columns) (suc i) (n ∷ row) h = (h.0, fit_but columns i row h.1)

zeros_fit : (columns : List Column) → IsRowOf columns (map (λ (c : Column). 0) columns)
zeros_fit [] = tt
zeros_fit (c ∷ columns) = (pow_pos (width_of c.kind), zeros_fit columns)

-- a row fits kinds
FitsKinds : List Kind → Row → Type 0
FitsKinds [] [] = Unit {0}
FitsKinds [] (n ∷ ns) = ⊥
FitsKinds (k ∷ ks) [] = ⊥
FitsKinds (k ∷ ks) (n ∷ ns) = (n < 2 ^ width_of k) × FitsKinds ks ns

fits_kinds : (columns : List Column) (row : Row) → IsRowOf columns row → FitsKinds (kinds_of columns) row
unfolding FitsKinds
fits_kinds [] [] h = tt
fits_kinds [] (n ∷ ns) h = absurd h
fits_kinds (c ∷ cs) [] h = absurd h
fits_kinds (c ∷ cs) (n ∷ ns) h = (h.0, fits_kinds cs ns h.1)

fits_columns : (columns : List Column) (row : Row) → FitsKinds (kinds_of columns) row → IsRowOf columns row
unfolding FitsKinds
fits_columns [] [] h = tt
fits_columns [] (n ∷ ns) h = absurd h
fits_columns (c ∷ cs) [] h = absurd h
fits_columns (c ∷ cs) (n ∷ ns) h = (h.0, fits_columns cs ns h.1)

pub fit_kept : IsKept IsRowOf
fit_kept = record {
  picks = fit_picked;
  totals = fit_totals;
  frames = fit_frames;
  keyed = λ columns more key row rest known h k. (column_below columns row key known h, k);
  joined = fit_joined;
  without = fit_but;
  zeros = zeros_fit;
  alike = λ columns others row e h. fits_columns columns row (subst (λ (ks : List Kind). FitsKinds ks row) (sym e) (fits_kinds others row h));
}

pub fitting : ResultsFit
fitting q env timed out spill a h r = results_hold IsRowOf fit_kept q env timed out spill a h r
