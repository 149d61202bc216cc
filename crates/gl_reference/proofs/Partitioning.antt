-- Windows of each key of rows: one row, one slice and one group more.
use Rattle.std.proofs.Common.{◌≡◌, ℕ, ◌+◌, ◌<◌, List, [], ◌∷◌, ◌++◌, length, map, filter, take, get_or, refl, sym, ap, ◌∙◌, append_assoc, append-nil}
use Rattle.std.specs.Prelude.{flat_map, nat_eq, nat_lt, slice_index}
use Rattle.std.specs.List.{AllByRecursion, list_any}
use Rattle.std.proofs.lemmas.List.{map-append}
use Rattle.gl_values.specs.Lists.{Group as GroupOf, groups, keys_of, slices}
use Rattle.gl_values.specs.Partitions.{completed_by, fulls, has_key, keyed, parts, short_slices, shorts}
use Rattle.gl_values.specs.Results.{Row}
use Rattle.gl_values.specs.Tables.{keyed_groups, table_group}
use Rattle.gl_values.specs.declared.lists.Group.{Group}
use Rattle.gl_bits.proofs.AllLists.{all_mapped, all_weaker, taken_next}
use Rattle.gl_bits.proofs.Bools.{by_cases}
use Rattle.gl_values.proofs.Grouping.{keyed_groups_are}
use Rattle.gl_query.proofs.Holding.{IsGroupOf, all_windows_of}
use Rattle.gl_reference.specs.Partitions.{shown, table_fulls, table_parts, table_short, table_shorts, table_shorts_of, table_windows}

-- ---- keys

any_group : (column : ℕ) (xs : List Row) (key : ℕ) (ks : List ℕ) → list_any (λ (g : Group). nat_eq key g.key) (map (table_group column xs) ks) ≡ list_any (nat_eq key) ks
any_group column xs key [] = refl
any_group column xs key (k ∷ ks) = rw (any_group column xs key ks) refl

pub any_key : (n column : ℕ) (xs : List Row) (key : ℕ) → list_any (λ (g : Group). nat_eq key g.key) (keyed_groups n column xs) ≡ has_key n (λ r. slice_index r column) xs key
any_key n column xs key =
    ap (list_any (λ (g : Group). nat_eq key g.key)) (keyed_groups_are n column xs) ∙ any_group column xs key (take n (keys_of (λ r. slice_index r column) xs))

-- ---- full windows

fulls_behind : (n : ℕ) (key_of : Row → ℕ) (size advance : ℕ) (seen xs : List Row) (x : Row)
    → fulls n key_of size advance seen (xs ++ x ∷ []) ≡ fulls n key_of size advance seen xs ++ completed_by n key_of size advance (seen ++ xs) x
fulls_behind n key_of size advance seen [] x =
    append-nil (completed_by n key_of size advance seen x) ∙ ap (λ (s : List Row). completed_by n key_of size advance s x) (sym (append-nil seen))
fulls_behind n key_of size advance seen (y ∷ xs) x =
    let own = completed_by n key_of size advance seen y in
    let later = fulls n key_of size advance (seen ++ y ∷ []) xs in
    ap (λ (l : List (GroupOf Row)). own ++ l) (fulls_behind n key_of size advance (seen ++ y ∷ []) xs x)
    ∙ sym (append_assoc own later (completed_by n key_of size advance ((seen ++ y ∷ []) ++ xs) x))
    ∙ ap (λ (s : List Row). (own ++ later) ++ completed_by n key_of size advance s x) (append_assoc seen (y ∷ []) xs)

-- one row more
pub fulls_next : (n column size advance : ℕ) (xs : List Row) (i : ℕ) (x : Row) → i < length xs → x ≡ get_or xs i x
    → table_fulls n column size advance (take (i + 1) xs) ≡ table_fulls n column size advance (take i xs) ++ table_windows n column size advance (take (i + 1) xs) (slice_index x column)
fulls_next n column size advance xs i x lt is =
    let next = taken_next xs i x lt is in
    let key_of : Row → ℕ = λ r. slice_index r column in
    ap (λ (l : List Row). map shown (fulls n key_of size advance [] l)) next
    ∙ ap (map shown) (fulls_behind n key_of size advance [] (take i xs) x)
    ∙ map-append shown (fulls n key_of size advance [] (take i xs)) (completed_by n key_of size advance (take i xs) x)
    ∙ ap (λ (l : List Row). table_fulls n column size advance (take i xs) ++ table_windows n column size advance l (slice_index x column)) (sym next)

-- what the window that a row completes is added to
pub fulls_more : (n column size advance : ℕ) (xs seen : List Row) (i key : ℕ) (x : Row) → i < length xs → x ≡ get_or xs i x → seen ≡ take (i + 1) xs → key ≡ slice_index x column
    → table_fulls n column size advance (take i xs) ++ table_windows n column size advance seen key ≡ table_fulls n column size advance (take (i + 1) xs)
fulls_more n column size advance xs seen i key x lt is es ek =
    (λ j. table_fulls n column size advance (take i xs) ++ table_windows n column size advance (es j) (ek j)) ∙ sym (fulls_next n column size advance xs i x lt is)

-- ---- short windows

flat_behind : {A B : Type 0} (f : A → List B) (xs : List A) (x : A) → flat_map f (xs ++ x ∷ []) ≡ flat_map f xs ++ f x
flat_behind f [] x = append-nil (f x)
flat_behind f (y ∷ xs) x = ap (λ l. f y ++ l) (flat_behind f xs x) ∙ sym (append_assoc (f y) (flat_map f xs) (f x))

-- one element more
pub flat_next : {A B : Type 0} (f : A → List B) (xs : List A) (i : ℕ) (x : A) → i < length xs → x ≡ get_or xs i x → flat_map f (take (i + 1) xs) ≡ flat_map f (take i xs) ++ f x
flat_next f xs i x lt is = ap (flat_map f) (taken_next xs i x lt is) ∙ flat_behind f (take i xs) x

short_is : (size key : ℕ) (yss : List (List Row)) → flat_map (table_short size key) yss ≡ map shown (keyed key (filter (λ ys. nat_lt (length ys) size) yss))
short_is size key [] = refl
short_is size key (ys ∷ yss) =
    let here : Group = record { key = key; rows = ys } in
    by_cases (nat_lt (length ys) size) (λ e. rw e (ap (λ (l : List Group). here ∷ l) (short_is size key yss))) (λ e. rw e (short_is size key yss))

shorts_shown : (size advance : ℕ) (gs : List (GroupOf Row)) → flat_map (table_shorts_of size advance) (map shown gs) ≡ map shown (flat_map (λ (g : GroupOf Row). keyed g.key (short_slices size advance g.rows)) gs)
shorts_shown size advance [] = refl
shorts_shown size advance (g ∷ gs) =
    let own = keyed g.key (short_slices size advance g.rows) in
    ap (λ (l : List Group). l ++ flat_map (table_shorts_of size advance) (map shown gs)) (short_is size g.key (slices size advance g.rows))
    ∙ ap (λ (l : List Group). map shown own ++ l) (shorts_shown size advance gs)
    ∙ sym (map-append shown own (flat_map (λ (h : GroupOf Row). keyed h.key (short_slices size advance h.rows)) gs))

pub shorts_are : (n column size advance : ℕ) (xs : List Row) → flat_map (table_shorts_of size advance) (keyed_groups n column xs) ≡ table_shorts n column size advance xs
shorts_are n column size advance xs = shorts_shown size advance (groups n (λ r. slice_index r column) xs)

-- ---- all of them

pub parts_are : (n column size advance : ℕ) (xs : List Row) → table_fulls n column size advance xs ++ table_shorts n column size advance xs ≡ table_parts n column size advance xs
unfolding parts
parts_are n column size advance xs =
    let key_of : Row → ℕ = λ r. slice_index r column in
    sym (map-append shown (fulls n key_of size advance [] xs) (shorts n key_of size advance xs))

-- what holds of each row holds of the rows of each window
pub all_windows : (P : Row → Type 0) (n column size advance : ℕ) (rows : List Row) → AllByRecursion P rows
    → AllByRecursion (λ (g : Group). AllByRecursion P g.rows) (table_parts n column size advance rows)
all_windows P n column size advance rows h =
    let key_of : Row → ℕ = λ r. slice_index r column in
    all_mapped (λ (g : Group). AllByRecursion P g.rows) shown (parts n key_of size advance rows)
    (all_weaker (IsGroupOf P key_of) (λ (g : GroupOf Row). AllByRecursion P g.rows) (λ g of. of.rows) (parts n key_of size advance rows)
    (all_windows_of P n key_of size advance rows h))
