-- No whole expression of a text that keeps the limits has more than 256 operators, NOT and CAST together.
use Rattle.std.proofs.Common.{◌≡◌, ℕ, ◌+◌, ◌≤◌, Bool, true, false, cond, List, [], ◌∷◌, ◌++◌, Option, Some, None, refl, sym, ap, subst, ◌∙◌, arith, append_assoc}
use Rattle.std.specs.Prelude.{◌||◌, nat_lt}
use Rattle.std.specs.List.{AllByRecursion}
use Rattle.std.proofs.lemmas.Bool.{ltb-false}
use Rattle.gl_bits.proofs.Bools.{neither_parts}
use Rattle.gl_query.specs.Sizes.{IsSmall, operators_in}
use Rattle.gl_query.specs.Alike.{expr_alike}
use Rattle.gl_query_tokens.specs.declared.token.Plain.TheVariants as plain
use Rattle.gl_query_tokens.specs.declared.token.Spelling.{Spelling}
use Rattle.gl_query_tokens.specs.declared.token.Spelling.TheVariants.{Small, Capital}
use Rattle.gl_query_tokens.specs.declared.token.Word.{Word}
use Rattle.gl_query_tokens.specs.declared.token.Word.TheVariants as word
use Rattle.gl_query_tokens.specs.declared.token.Token.{Token}
use Rattle.gl_query_tokens.specs.declared.token.Token.TheVariants as token
use Rattle.gl_query_reader.specs.declared.limits.Counts.{Counts}
use Rattle.gl_query_reader.specs.declared.written.Grouping.{Grouping}
use Rattle.gl_query_reader.specs.declared.written.Part.{Part}
use Rattle.gl_query_reader.specs.Limits.{after, counted, is_past, keeps_limits, none_counted}
use Rattle.gl_query_reader.specs.Meaning.{expr_meaning}
use Rattle.gl_query_reader.specs.Written as written
use Rattle.gl_query_reader.proofs.Meanings.{AggHolds, OverAggHolds, FilteringHolds, HeadHolds, PartHolds, OverHolds, FilterHolds, GroupingHolds, ItemHolds, PickHolds, QueryHolds}

-- ---- along tokens

-- the counts are within the limits, here and behind each of these tokens
pub record IsWithin (n : Counts) (ts : List Token) : Type 0 where
  pub now : is_past n ≡ false
  pub kept : keeps_limits n ts ≡ true

within_more : (n : Counts) (t : Token) (ts : List Token) → IsWithin n (t ∷ ts) → IsWithin (after n t) ts
within_more n t ts w = by (is_past (after n t)) refl w.kept
  where
    by : (b : Bool) → is_past (after n t) ≡ b → cond b false (keeps_limits (after n t) ts) ≡ true → IsWithin (after n t) ts
    by true e k = absurd cc
    by false e k = record { now = e; kept = k }

within_behind : (xs ys : List Token) (n : Counts) → IsWithin n (xs ++ ys) → IsWithin (counted n xs) ys
within_behind [] ys n w = w
within_behind (x ∷ xs) ys n w = within_behind xs ys (after n x) (within_more n x (xs ++ ys) w)

counted_both : (xs ys : List Token) (n : Counts) → counted n (xs ++ ys) ≡ counted (counted n xs) ys
counted_both [] ys n = refl
counted_both (x ∷ xs) ys n = counted_both xs ys (after n x)

-- ---- expressions

-- the operators of these tokens, behind which no operand may begin
pub record Adds (n m : Counts) (k : ℕ) : Type 0 where
  pub operators : m.operators ≡ n.operators + k
  pub behind : m.operand ≡ false

ops : written.Expr → ℕ
ops e = operators_in (expr_alike (expr_meaning e))

one_more : (a b k : ℕ) → b ≡ a + 1 + k → b ≡ a + (1 + k)
one_more a b k e = omega (arith, e)

one_between : (a b c k l : ℕ) → b ≡ a + k → c ≡ b + 1 + l → c ≡ a + (1 + k + l)
one_between a b c k l e f = omega (arith, e, f)

-- where an operand may begin
expr_adds : (e : written.Expr) (n : Counts) → n.operand ≡ true → Adds n (counted n (written.spell e)) (ops e)
unfolding ops
expr_adds (written.Column name) n begins = record { operators = omega arith; behind = refl }
expr_adds (written.Number number) n begins = record { operators = omega arith; behind = refl }
expr_adds (written.Minus at number) n begins = record { operators = rw begins (omega arith); behind = refl }
expr_adds (written.Parameter at name) n begins = record { operators = omega arith; behind = refl }
expr_adds (written.Letters text at) n begins = record { operators = omega arith; behind = refl }
expr_adds (written.Brackets at e) n begins =
    let m = after n (token.Open at) in
    let a = expr_adds e m refl in
    let here : m.operators ≡ n.operators = rw begins refl in
    subst (λ (c : Counts). Adds n c (ops e)) (sym (counted_both (written.spell e) (token.Plain plain.Close ∷ []) m))
    (record { operators = a.operators ∙ ap (λ (x : ℕ). x + ops e) here; behind = refl })
expr_adds (written.Cast at open' e word kind) n begins =
    let m = after (after n (token.Cast at)) (token.Open open') in
    let a = expr_adds e m refl in
    subst (λ (c : Counts). Adds n c (1 + ops e))
    (sym (counted_both (written.spell e) (token.Plain plain.As ∷ token.Name word ∷ token.Plain plain.Close ∷ []) m))
    (record { operators = one_more n.operators (counted m (written.spell e)).operators (ops e) a.operators; behind = refl })
expr_adds (written.Flip at e) n begins =
    let a = expr_adds e (after n (token.Tilde at)) refl in
    record { operators = one_more n.operators (counted (after n (token.Tilde at)) (written.spell e)).operators (ops e) a.operators; behind = a.behind }
expr_adds (written.Not at e) n begins =
    let a = expr_adds e (after n (token.Not at)) refl in
    record { operators = one_more n.operators (counted (after n (token.Not at)) (written.spell e)).operators (ops e) a.operators; behind = a.behind }
expr_adds (written.Binary o at l r) n begins =
    let left = expr_adds l n begins in
    let m = counted n (written.spell l) in
    let k = after m (token.Operator o at) in
    let right = expr_adds r k refl in
    let here : k.operators ≡ m.operators + 1 = rw left.behind refl in
    subst (λ (c : Counts). Adds n c (1 + ops l + ops r)) (sym (counted_both (written.spell l) (token.Operator o at ∷ written.spell r) n))
    (record {
      operators = one_between n.operators m.operators (counted k (written.spell r)).operators (ops l) (ops r) left.operators
          (right.operators ∙ ap (λ (x : ℕ). x + ops r) here);
      behind = right.behind;
    })

-- where no operator was counted before a whole expression, it is small
not_past : (n : Counts) → is_past n ≡ false → n.operators ≤ 256
not_past n e = ltb-false 256 n.operators (neither_parts (nat_lt 32 n.brackets) (nat_lt 256 n.operators) (neither_parts (nat_lt 32 n.brackets || nat_lt 256 n.operators) (nat_lt 64 n.joins) e).0).1

whole_small : (e : written.Expr) (more : List Token) (n : Counts) → n.operand ≡ true → n.operators ≡ 0 → IsWithin n (written.spell e ++ more) → IsSmall (expr_alike (expr_meaning e))
unfolding ops
whole_small e more n begins none w =
    let a = expr_adds e n begins in
    let within = not_past (counted n (written.spell e)) (within_behind (written.spell e) more n w).now in
    let exact = a.operators in
    omega (arith, within, exact, none)

-- ---- queries

-- of names nothing is said
abbrev Any : List ℕ → Type 0
Any name = Unit {0}

agg_small : (a : written.Agg) (more : List Token) (n : Counts) → IsWithin n (written.spell_agg a ++ more) → AggHolds IsSmall a
agg_small (written.Count at open') more n w = tt
agg_small (written.Fold' fold at open' e) more n w =
    let start = after (after n (token.Fold fold at)) (token.Open open') in
    let tail : List Token = token.Plain plain.Close ∷ [] in
    whole_small e (tail ++ more) start refl refl
    (subst (IsWithin start) (append_assoc (written.spell e) tail more) (within_more _ (token.Open open') _ (within_more n (token.Fold fold at) _ w)))
agg_small (written.Wsum at open' e ns) more n w =
    let start = after (after n (token.Wsum at)) (token.Open open') in
    let tail : List Token = token.Plain plain.Comma ∷ token.Plain plain.LeftSquare ∷ (written.spell_numbers ns ++ token.Plain plain.RightSquare ∷ token.Plain plain.Close ∷ []) in
    whole_small e (tail ++ more) start refl refl
    (subst (IsWithin start) (append_assoc (written.spell e) tail more) (within_more _ (token.Open open') _ (within_more n (token.Wsum at) _ w)))

-- a word of frames leaves no operand to begin
word_more : (v : Word) (s : Spelling) (more : List Token) (n : Counts) → IsWithin n (written.spell_word v s ∷ more) → (m : Counts) × (m.operand ≡ false) × IsWithin m more
word_more v (Small at) more n w = (after n (written.spell_word v (Small at)), refl, within_more n (written.spell_word v (Small at)) more w)
word_more v (Capital at) more n w = (after n (token.Word v at), refl, within_more n (token.Word v at) more w)

-- an expression in the bracket of a function, or of FILTER
opened_small : (e : written.Expr) (open' : ℕ) (more : List Token) (n : Counts) → n.operand ≡ false → IsWithin n (token.Open open' ∷ (written.spell e ++ more)) → IsSmall (expr_alike (expr_meaning e))
opened_small e open' more n d w = whole_small e more (after n (token.Open open')) refl (rw d refl) (within_more n (token.Open open') _ w)

over_agg_small : (a : written.OverAgg) (more : List Token) (n : Counts) → IsWithin n (written.spell_over_agg a ++ more) → OverAggHolds IsSmall a
over_agg_small (written.CountOf at open') more n w = tt
over_agg_small (written.FoldOf fold at open' e) more n w = agg_small (written.Fold' fold at open' e) more n w
over_agg_small (written.LastOf v open' e) more n w =
    let tail : List Token = token.Plain plain.Close ∷ [] in
    let m = word_more word.LastValue v _ n w in
    opened_small e open' (tail ++ more) m.0 m.1 (subst (λ (x : List Token). IsWithin m.0 (token.Open open' ∷ x)) (append_assoc (written.spell e) tail more) m.2)

filtering_small : (f : Option written.Filtering) (more : List Token) (n : Counts) → IsWithin n (written.spell_filtering f ++ more) → FilteringHolds IsSmall f
filtering_small None more n w = tt
filtering_small (Some (written.FilterOf v open' e)) more n w =
    let tail : List Token = token.Plain plain.Close ∷ [] in
    let m = word_more word.Filter v _ n w in
    let opened = within_more m.0 (token.Open open') _ m.2 in
    let start = after (after m.0 (token.Open open')) (token.Plain plain.Where) in
    whole_small e (tail ++ more) start refl refl (subst (IsWithin start) (append_assoc (written.spell e) tail more) (within_more _ (token.Plain plain.Where) _ opened))

head_small : (head : written.OverHead) (more : List Token) (n : Counts) → IsWithin n (written.spell_head head ++ more) → HeadHolds IsSmall head
head_small (written.LagOf v open' e back) more n w =
    let tail : List Token = written.spell_back back ++ token.Plain plain.Close ∷ [] in
    let m = word_more word.Lag v _ n w in
    opened_small e open' (tail ++ more) m.0 m.1 (subst (λ (x : List Token). IsWithin m.0 (token.Open open' ∷ x)) (append_assoc (written.spell e) tail more) m.2)
head_small (written.Ranged a f) more n w =
    let v = subst (IsWithin n) (append_assoc (written.spell_over_agg a) (written.spell_filtering f) more) w in
    (over_agg_small a (written.spell_filtering f ++ more) n v, filtering_small f more _ (within_behind (written.spell_over_agg a) (written.spell_filtering f ++ more) n v))

part_any : (p : Option Part) → PartHolds Any p
part_any None = tt
part_any (Some p) = tt

over_small : (o : written.Over) (more : List Token) (n : Counts) → IsWithin n (written.spell_over o ++ more) → OverHolds IsSmall Any o
over_small (written.OverOf head v open' p r) more n w =
    let inner : List Token = written.spell_part p ++ (written.spell_rows r ++ token.Plain plain.Close ∷ []) in
    let tail : List Token = written.spell_word word.Over v ∷ token.Open open' ∷ inner in
    (head_small head (tail ++ more) n (subst (IsWithin n) (append_assoc (written.spell_head head) tail more) w), part_any p)

item_small : (i : written.Item) (more : List Token) (n : Counts) → n.operand ≡ true → n.operators ≡ 0 → IsWithin n (written.spell_item i ++ more) → ItemHolds IsSmall Any i
item_small (written.Bare name) more n begins none w = (omega arith, tt)
item_small (written.Named e name) more n begins none w =
    let tail : List Token = token.Plain plain.As ∷ token.Name name ∷ [] in
    (whole_small e (tail ++ more) n begins none (subst (IsWithin n) (append_assoc (written.spell e) tail more) w), tt)
item_small (written.Total a name) more n begins none w =
    let tail : List Token = token.Plain plain.As ∷ token.Name name ∷ [] in
    (agg_small a (tail ++ more) n (subst (IsWithin n) (append_assoc (written.spell_agg a) tail more) w), tt)
item_small (written.Framed o name) more n begins none w =
    let tail : List Token = token.Plain plain.As ∷ token.Name name ∷ [] in
    (over_small o (tail ++ more) n (subst (IsWithin n) (append_assoc (written.spell_over o) tail more) w), tt)

items_small : (is : List written.Item) (more : List Token) (n : Counts) → n.operand ≡ true → n.operators ≡ 0 → IsWithin n (written.spell_items is ++ more) → AllByRecursion (ItemHolds IsSmall Any) is
items_small [] more n begins none w = tt
items_small (i ∷ []) more n begins none w = (item_small i more n begins none w, tt)
items_small (i ∷ j ∷ is) more n begins none w =
    let tail : List Token = token.Plain plain.Comma ∷ written.spell_items (j ∷ is) in
    let v = subst (IsWithin n) (append_assoc (written.spell_item i) tail more) w in
    let rest = within_more (counted n (written.spell_item i)) (token.Plain plain.Comma) _ (within_behind (written.spell_item i) (tail ++ more) n v) in
    (item_small i (tail ++ more) n begins none v, items_small (j ∷ is) more (after (counted n (written.spell_item i)) (token.Plain plain.Comma)) refl refl rest)

pick_small : (p : written.Pick) (more : List Token) (n : Counts) → n.operand ≡ true → n.operators ≡ 0 → IsWithin n (written.spell_pick p ++ more) → PickHolds IsSmall Any p
pick_small (written.All at) more n begins none w = tt
pick_small (written.Items items) more n begins none w = items_small items more n begins none w

filter_small : (f : Option written.Expr) (more : List Token) (n : Counts) → IsWithin n (written.spell_filter f ++ more) → FilterHolds IsSmall f
filter_small None more n w = tt
filter_small (Some e) more n w = whole_small e more (after n (token.Plain plain.Where)) refl refl (within_more n (token.Plain plain.Where) _ w)

grouping_any : (g : Option Grouping) → GroupingHolds Any g
grouping_any None = tt
grouping_any (Some g) = tt

-- what stands behind some tokens, and the rest
along : (xs ys more : List Token) (n : Counts) → IsWithin n ((xs ++ ys) ++ more) → IsWithin (counted n xs) (ys ++ more)
along xs ys more n w = within_behind xs (ys ++ more) n (subst (IsWithin n) (append_assoc xs ys more) w)

first_part : (xs ys more : List Token) (n : Counts) → IsWithin n ((xs ++ ys) ++ more) → IsWithin n (xs ++ (ys ++ more))
first_part xs ys more n w = subst (IsWithin n) (append_assoc xs ys more) w

query_small : (q : written.Query) (more : List Token) (n : Counts) → IsWithin n (written.spell_query q ++ more) → QueryHolds IsSmall Any q
query_small (written.Stream name) more n w = tt
query_small (written.InBrackets at q) more n w =
    let tail : List Token = token.Plain plain.Close ∷ [] in
    query_small q (tail ++ more) (after n (token.Open at)) (first_part (written.spell_query q) tail more _ (within_more n (token.Open at) _ w))
query_small (written.Select pick source window filter grouping) more n w =
    let m = after n (token.Plain plain.Select) in
    let windows = written.spell_if_window window in
    let filters = written.spell_filter filter in
    let groups = written.spell_if_grouping grouping in
    let rest : List Token = windows ++ (filters ++ groups) in
    let behind : List Token = written.spell_query source ++ rest in
    let a = within_more n (token.Plain plain.Select) _ w in
    let p = first_part (written.spell_pick pick) (token.Plain plain.From ∷ behind) more m a in
    let b = within_more _ (token.Plain plain.From) _ (along (written.spell_pick pick) (token.Plain plain.From ∷ behind) more m a) in
    let s = first_part (written.spell_query source) rest more _ b in
    let c = along (written.spell_query source) rest more _ b in
    let d = along windows (filters ++ groups) more _ c in
    let f = first_part filters groups more _ d in
    (query_small source (rest ++ more) _ s, pick_small pick ((token.Plain plain.From ∷ behind) ++ more) m refl refl p, filter_small filter (groups ++ more) _ f, grouping_any grouping)
query_small (written.Windows at var source window open' body) more n w =
    let tail : List Token = token.Plain plain.Close ∷ [] in
    let bodies : List Token = written.spell_query body ++ tail in
    let rest : List Token = written.spell_window window ++ token.Open open' ∷ bodies in
    let a = within_more _ (token.Plain plain.In) _ (within_more _ (token.Name var) _ (within_more n (token.Each at) _ w)) in
    let s = first_part (written.spell_query source) rest more _ a in
    let b = along (written.spell_window window) (token.Open open' ∷ bodies) more _ (along (written.spell_query source) rest more _ a) in
    let c = first_part (written.spell_query body) tail more _ (within_more _ (token.Open open') _ b) in
    (query_small source (rest ++ more) _ s, query_small body (tail ++ more) _ c, tt)
query_small (written.Groups at var source grouping window open' body) more n w =
    let tail : List Token = token.Plain plain.Close ∷ [] in
    let bodies : List Token = written.spell_query body ++ tail in
    let windowed : List Token = written.spell_row_window window ++ token.Open open' ∷ bodies in
    let rest : List Token = written.spell_grouping grouping ++ windowed in
    let a = within_more _ (token.Plain plain.In) _ (within_more _ (token.Name var) _ (within_more n (token.Each at) _ w)) in
    let s = first_part (written.spell_query source) rest more _ a in
    let d = along (written.spell_grouping grouping) windowed more _ (along (written.spell_query source) rest more _ a) in
    let b = along (written.spell_row_window window) (token.Open open' ∷ bodies) more _ d in
    let c = first_part (written.spell_query body) tail more _ (within_more _ (token.Open open') _ b) in
    (query_small source (rest ++ more) _ s, query_small body (tail ++ more) _ c, tt, tt)
query_small (written.AsOf' v l r grouping) more n w =
    let groups : List Token = written.spell_grouping grouping in
    let rest : List Token = written.spell_word word.AsOf v ∷ (written.spell_query r ++ groups) in
    let a = first_part (written.spell_query l) rest more n w in
    let b = within_more _ (written.spell_word word.AsOf v) _ (along (written.spell_query l) rest more n w) in
    (query_small l (rest ++ more) n a, query_small r (groups ++ more) _ (first_part (written.spell_query r) groups more _ b), tt)
query_small (written.Join' j at l r) more n w =
    let rest : List Token = written.spell_join j at ++ written.spell_query r in
    let a = first_part (written.spell_query l) rest more n w in
    let b = along (written.spell_join j at) (written.spell_query r) more _ (along (written.spell_query l) rest more n w) in
    (query_small l (rest ++ more) n a, query_small r more _ b)

pub statement_small : (w : written.Statement) → keeps_limits none_counted (written.spell_statement w) ≡ true → QueryHolds IsSmall Any w.query
statement_small w k =
    query_small w.query (token.Plain plain.Into ∷ token.Name w.name ∷ written.spell_end w.closed) none_counted (record { now = refl; kept = k })
