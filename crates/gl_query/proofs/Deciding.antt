-- An expression, a list of items or of aggregates has no fault exactly where it is accepted.
use Rattle.std.proofs.Common.{◌≡◌, ℕ, zero, suc, ◌+◌, ◌<◌, ◌≤◌, Bool, true, false, List, [], ◌∷◌, ◌++◌, length, map, Option, Some, None, refl, sym, ap, subst, ◌∙◌, arith, append_assoc, append-nil, length-append}
use Rattle.std.specs.Prelude.{◌&&◌, not, pos, bytes_eq, nat_le, nat_lt, option_map, slice_get, if◌then◌else◌}
use Rattle.std.specs.List.{AllByRecursion, IsDistinct, list_any}
use Rattle.std.proofs.lemmas.Bool.{leb-true, le-leb, ltb-true, lt-ltb}
use Rattle.gl_values.specs.declared.kind.Kind.{Kind}
use Rattle.gl_values.specs.declared.kind.Kind.TheVariants.{Unsigned}
use Rattle.gl_values.specs.declared.op.Sort.{Sort}
use Rattle.gl_values.specs.declared.op.Sort.TheVariants.{Arithmetic, Comparison, Logic}
use Rattle.gl_values.specs.Kinds.{can_cast, has_negative, in_range, is_number, is_text}
use Rattle.gl_values.specs.Operators.{same_kind, sort_of}
use Rattle.gl_bits.proofs.AllLists.{length_map, get_past}
use Rattle.gl_bits.proofs.Bools.{and_both, and_parts, not_false, not_true}
use Rattle.gl_values.proofs.KindLemmas.{equal_kinds, kinds_equal}
use Rattle.gl_schema.specs.declared.schema.Column.{Column as NamedColumn}
use Rattle.gl_schema.specs.Schemas.{has_column}
use Rattle.gl_schema.proofs.Distinct.{more_named, new_named}
use Rattle.gl_query.specs.declared.fault.QueryFault.{QueryFault}
use Rattle.gl_query.specs.declared.tree.Name.{Name}
use Rattle.gl_query.specs.declared.tree.Num.{Num}
use Rattle.gl_query.specs.Trees as tree
use Rattle.gl_query.specs.Trees.{ExprTree, AggTree, FrameAggTree, FrameTree}
use Rattle.gl_query.specs.Alike.{expr_alike, agg_alike, frame_agg_alike, frame_alike}
use Rattle.gl_query.specs.Values.{CanApply, HasKind, IsLettersOf, IsNegativeOf, IsNumberOf, is_loose, kind_alone, kind_of, letters_fit, operand_place, shift_fits}
use Rattle.gl_query.specs.Accepted.{IsAgg, IsBack, IsFilter, IsFrame, IsFrameAgg, IsSummed}
use Rattle.gl_query.specs.Faults.{first_of, or_else, rules_under_name, unless, same_kinds, is_bit, is_within, number_fault, negative_fault, letters_fault, operator_fault, of_operands, expr_fault, whole_fault, whole_kind, filter_fault, named_fault, summed_fault, too_many, weights_fault, agg_fault, frame_agg_fault, back_fault, frame_fault}

-- no fault comes exactly where this holds
pub record Decides (fault : Option QueryFault) (P : Type 0) : Type 0 where
  pub sound : fault ≡ None → P
  pub complete : P → fault ≡ None

or_none : (a b : Option QueryFault) → or_else a b ≡ None → (a ≡ None) × (b ≡ None)
or_none None b e = (refl, e)
or_none (Some f) b e = absurd (cc)

-- one rule behind another
pub both : {P Q : Type 0} (a b : Option QueryFault) → Decides a P → (P → Decides b Q) → Decides (or_else a b) (P × Q)
both a b p q = record {
  sound = λ e. let n = or_none a b e in let x = p.sound n.0 in (x, (q x).sound n.1);
  complete = λ h. rw (p.complete h.0) ((q h.0).complete h.1);
}

unless_true : (b : Bool) (f : QueryFault) → unless b f ≡ None → b ≡ true
unless_true true f e = refl
unless_true false f e = absurd (cc)

pub rule : (b : Bool) (f : QueryFault) (P : Type 0) → (b ≡ true → P) → (P → b ≡ true) → Decides (unless b f) P
rule b f P s c = record { sound = λ e. s (unless_true b f e); complete = λ p. rw (c p) refl }

pub test : (b : Bool) (f : QueryFault) → Decides (unless b f) (b ≡ true)
test b f = rule b f (b ≡ true) (λ e. e) (λ e. e)

pub always : (P : Type 0) → P → Decides None P
always P p = record { sound = λ e. p; complete = λ q. refl }

pub change : {P Q : Type 0} (a : Option QueryFault) → Decides a P → (P → Q) → (Q → P) → Decides a Q
change a d f g = record { sound = λ e. f (d.sound e); complete = λ q. d.complete (g q) }

-- ---- tests

pub lists_equal : (js ks : List Kind) → same_kinds js ks ≡ true → js ≡ ks
lists_equal [] [] e = refl
lists_equal [] (k ∷ ks) e = absurd (cc)
lists_equal (j ∷ js) [] e = absurd (cc)
lists_equal (j ∷ js) (k ∷ ks) e =
    let p = and_parts (same_kind j k) (same_kinds js ks) e in
    ap (λ (x : Kind). x ∷ js) (kinds_equal j k p.0) ∙ ap (λ (x : List Kind). k ∷ x) (lists_equal js ks p.1)

kinds_themselves : (ks : List Kind) → same_kinds ks ks ≡ true
kinds_themselves [] = refl
kinds_themselves (k ∷ ks) = and_both (same_kind k k) (same_kinds ks ks) (equal_kinds k k refl) (kinds_themselves ks)

pub equal_lists : (js ks : List Kind) → js ≡ ks → same_kinds js ks ≡ true
equal_lists js ks e = subst (λ (x : List Kind). same_kinds js x ≡ true) e (kinds_themselves js)

bit_is : (k : Kind) → is_bit k ≡ true → k ≡ Unsigned 1
bit_is k e = kinds_equal k (Unsigned 1) e

is_bit_of : (k : Kind) → k ≡ Unsigned 1 → is_bit k ≡ true
is_bit_of k e = equal_kinds k (Unsigned 1) e

pub within : (n most : ℕ) → is_within n most ≡ true → (1 ≤ n) × (n ≤ most)
within n most e = let p = and_parts (nat_le 1 n) (nat_le n most) e in (leb-true 1 n p.0, leb-true n most p.1)

pub is_within_of : (n most : ℕ) → (1 ≤ n) × (n ≤ most) → is_within n most ≡ true
is_within_of n most h = and_both (nat_le 1 n) (nat_le n most) (le-leb 1 n h.0) (le-leb n most h.1)

-- ---- expressions

pub number_decides : (place : Kind) (n : Num) → Decides (number_fault place n) (IsNumberOf place n.value)
number_decides place n = both (unless (is_number place) _) _ (test (is_number place) _) (λ h. test (in_range place (pos n.value)) _)

negative_decides : (place : Kind) (n : Num) → Decides (negative_fault place n) (IsNegativeOf place n.value)
negative_decides place n = both (unless (is_number place) _) _ (test (is_number place) _) (λ h. test (has_negative place n.value) _)

letters_decides : (place : Kind) (text : List ℕ) (at : ℕ) → Decides (letters_fault place text at) (IsLettersOf place text)
letters_decides place text at = both (unless (is_text place) _) _ (test (is_text place) _) (λ h. test (letters_fit place text) _)

operator_decides : (sort : Sort) (left right : Kind) (at : ℕ) → Decides (operator_fault sort left right at) (CanApply sort left right)
operator_decides Arithmetic left right at =
    rule (same_kind left right && is_number left) _ (CanApply Arithmetic left right)
    (λ e. let p = and_parts (same_kind left right) (is_number left) e in (kinds_equal left right p.0, p.1))
    (λ h. and_both (same_kind left right) (is_number left) (equal_kinds left right h.0) h.1)
operator_decides Comparison left right at = rule (same_kind left right) _ (left ≡ right) (kinds_equal left right) (equal_kinds left right)
operator_decides Logic left right at =
    rule (is_bit left && is_bit right) _ (CanApply Logic left right)
    (λ e. let p = and_parts (is_bit left) (is_bit right) e in (bit_is left p.0, bit_is right p.1))
    (λ h. and_both (is_bit left) (is_bit right) (is_bit_of left h.0) (is_bit_of right h.1))

either_order : {P Q : Type 0} (c : Bool) (left right : Option QueryFault) → Decides left P → Decides right Q
    → Decides (if c then or_else right left else or_else left right) (P × Q)
either_order true left right p q = change (or_else right left) (both right left q (λ x. p)) (λ h. (h.1, h.0)) (λ h. (h.1, h.0))
either_order false left right p q = both left right p (λ x. q)

bit_rule : (k : Kind) (f : QueryFault) → Decides (unless (is_bit k) f) (k ≡ Unsigned 1)
bit_rule k f = rule (is_bit k) f (k ≡ Unsigned 1) (bit_is k) (is_bit_of k)

pub expr_decides : (e : ExprTree) (columns : List NamedColumn) (place : Kind) → Decides (expr_fault columns place e) (HasKind columns place (expr_alike e))
expr_decides (tree.Column name) columns place = test (has_column columns name.text) _
expr_decides (tree.Number n) columns place = number_decides place n
expr_decides (tree.Minus n) columns place = negative_decides place n
expr_decides (tree.Letters text at) columns place = letters_decides place text at
expr_decides (tree.Not e at) columns place =
    both (expr_fault columns (Unsigned 1) e) _ (expr_decides e columns (Unsigned 1)) (λ h. bit_rule (kind_of columns (Unsigned 1) (expr_alike e)) _)
expr_decides (tree.Flip e at) columns place =
    both (expr_fault columns place e) _ (expr_decides e columns place) (λ h. test (is_number (kind_of columns place (expr_alike e))) _)
expr_decides (tree.Cast e kind at) columns place =
    let alone = kind_alone (expr_alike e) in
    let from = kind_of columns alone (expr_alike e) in
    both (expr_fault columns alone e) _ (expr_decides e columns alone) (λ h. test (can_cast from kind) _)
expr_decides (tree.Binary op l r at) columns place =
    let left = operand_place columns op place (expr_alike l) (expr_alike r) in
    let right = operand_place columns op place (expr_alike r) (expr_alike l) in
    let operands = either_order (is_loose columns (expr_alike l) && not (is_loose columns (expr_alike r))) (expr_fault columns left l) (expr_fault columns right r)
    (expr_decides l columns left) (expr_decides r columns right) in
    let own = operator_decides (sort_of op) (kind_of columns left (expr_alike l)) (kind_of columns right (expr_alike r)) at in
    let of_both = of_operands (is_loose columns (expr_alike l)) (is_loose columns (expr_alike r)) (expr_fault columns left l) (expr_fault columns right r) in
    let applied = both of_both (operator_fault (sort_of op) (kind_of columns left (expr_alike l)) (kind_of columns right (expr_alike r)) at) operands (λ h. own) in
    let from = kind_of columns left (expr_alike l) in
    change _ (both (or_else of_both (operator_fault (sort_of op) from (kind_of columns right (expr_alike r)) at)) _ applied (λ h. test (shift_fits op from (expr_alike r)) _))
    (λ h. (h.0.0.0, h.0.0.1, h.0.1, h.1)) (λ h. (((h.0, h.1), h.2), h.3))

pub whole_decides : (e : ExprTree) (columns : List NamedColumn) → Decides (whole_fault columns e) (HasKind columns (kind_alone (expr_alike e)) (expr_alike e))
whole_decides e columns = expr_decides e columns (kind_alone (expr_alike e))

pub filter_decides : (f : Option ExprTree) (columns : List NamedColumn) → Decides (filter_fault columns f) (IsFilter columns (option_map expr_alike f))
filter_decides None columns = always (Unit {0}) tt
filter_decides (Some e) columns =
    change _ (both (expr_fault columns (Unsigned 1) e) _ (expr_decides e columns (Unsigned 1)) (λ h. bit_rule (kind_of columns (Unsigned 1) (expr_alike e)) _))
    (λ h. record { typed = h.0; bit = h.1 }) (λ c. (c.typed, c.bit))

-- ---- aggregates

summed_decides : (e : ExprTree) (columns : List NamedColumn) (name : Name) → Decides (summed_fault columns e name) (IsSummed columns (expr_alike e))
summed_decides e columns name =
    let kind = whole_kind columns e in
    change _ (both (whole_fault columns e) _ (whole_decides e columns) (λ h. test (is_number kind) _))
    (λ h. record { typed = h.0; number = h.1 }) (λ s. (s.typed, s.number))

get_none : {A : Type 0} (xs : List A) (i : ℕ) → slice_get xs i ≡ None → length xs ≤ i
get_none [] i e = omega arith
get_none (x ∷ xs) zero e = absurd (cc)
get_none (x ∷ xs) (suc i) e = let p = get_none xs i e in omega arith

none_too_many : (o : Option Num) → too_many o ≡ None → o ≡ None
none_too_many None e = refl
none_too_many (Some n) e = absurd (cc)

many_decides : (ns : List Num) → Decides (too_many (slice_get ns 64)) (length ns ≤ 64)
many_decides ns = record {
  sound = λ e. get_none ns 64 (none_too_many (slice_get ns 64) e);
  complete = λ le. ap too_many (get_past ns 64 le);
}

weights_decides : (kind : Kind) (ns : List Num) → Decides (weights_fault kind ns) (AllByRecursion (IsNumberOf kind) (map (λ (n : Num). n.value) ns))
weights_decides kind [] = always (Unit {0}) tt
weights_decides kind (n ∷ ns) = both (number_fault kind n) _ (number_decides kind n) (λ h. weights_decides kind ns)

pub agg_decides : (a : AggTree) (columns : List NamedColumn) (name : Name) → Decides (agg_fault columns a name) (IsAgg columns (agg_alike a))
agg_decides (tree.Count at) columns name = always (Unit {0}) tt
agg_decides (tree.Sum e) columns name = summed_decides e columns name
agg_decides (tree.Min e) columns name = whole_decides e columns
agg_decides (tree.Max e) columns name = whole_decides e columns
agg_decides (tree.Avg e) columns name = summed_decides e columns name
agg_decides (tree.Wsum e ns) columns name =
    let long = length_map (λ (n : Num). n.value) ns in
    change _ (both (summed_fault columns e name) _ (summed_decides e columns name)
    (λ s. both (too_many (slice_get ns 64)) _ (many_decides ns) (λ m. weights_decides (whole_kind columns e) ns)))
    (λ h. record { summed = h.0; most = subst (λ (k : ℕ). k ≤ 64) (sym long) h.1.0; fit = h.1.1 })
    (λ w. (w.summed, (subst (λ (k : ℕ). k ≤ 64) long w.most, w.fit)))

-- ---- frames

frame_agg_decides : (a : FrameAggTree) (columns : List NamedColumn) (name : Name) → Decides (frame_agg_fault columns a name) (IsFrameAgg columns (frame_agg_alike a))
frame_agg_decides tree.CountOver columns name = always (Unit {0}) tt
frame_agg_decides (tree.SumOver e) columns name = summed_decides e columns name
frame_agg_decides (tree.MinOver e) columns name = whole_decides e columns
frame_agg_decides (tree.MaxOver e) columns name = whole_decides e columns
frame_agg_decides (tree.AvgOver e) columns name = summed_decides e columns name
frame_agg_decides (tree.LastOver e) columns name = whole_decides e columns

back_decides : (back : Option Num) → Decides (back_fault back) (IsBack (option_map (λ (n : Num). n.value) back))
back_decides None = always (Unit {0}) tt
back_decides (Some n) = rule (nat_lt n.value 65536) _ (n.value < 65536) (ltb-true n.value 65536) (lt-ltb n.value 65536)

pub frame_decides : (f : FrameTree) (columns : List NamedColumn) (name : Name) → Decides (frame_fault columns f name) (IsFrame columns (frame_alike f))
frame_decides (tree.Own e) columns name = whole_decides e columns
frame_decides (tree.Lag e back at) columns name =
    let k = back.value in
    change _
    (both (whole_fault columns e) _ (whole_decides e columns)
    (λ h. rule (nat_le 1 k && nat_lt k 65536) _ ((1 ≤ k) × (k < 65536))
    (λ t. let p = and_parts (nat_le 1 k) (nat_lt k 65536) t in (leb-true 1 k p.0, ltb-true k 65536 p.1))
    (λ w. and_both (nat_le 1 k) (nat_lt k 65536) (le-leb 1 k w.0) (lt-ltb k 65536 w.1))))
    (λ h. record { typed = h.0; some = h.1.0; most = h.1.1 }) (λ l. (l.typed, (l.some, l.most)))
frame_decides (tree.Over agg filter back at) columns name =
    change _
    (both (frame_agg_fault columns agg name) _ (frame_agg_decides agg columns name)
    (λ h. both (filter_fault columns filter) _ (filter_decides filter columns) (λ p. back_decides back)))
    (λ h. record { typed = h.0; picks = h.1.0; reach = h.1.1 }) (λ o. (o.typed, (o.picks, o.reach)))

-- ---- what is under a name

-- each is accepted, and together with the earlier ones there are at most 32, no two of one name
pub record AreNamed {A : Type 0} (name : A → Name) (Own : A → Type 0) (earlier items : List A) : Type 0 where
  pub each : AllByRecursion Own items
  pub most : length (earlier ++ items) ≤ 32
  pub distinct : IsDistinct bytes_eq (map (λ i. (name i).text) (earlier ++ items))

pub named_decides : {A : Type 0} (name : A → Name) (own : A → Option QueryFault) (Own : A → Type 0) → ((i : A) → Decides (own i) (Own i))
    → (earlier items : List A) → length earlier ≤ 32 → IsDistinct bytes_eq (map (λ i. (name i).text) earlier)
    → Decides (named_fault name own earlier items) (AreNamed name Own earlier items)
named_decides {A} name own Own d earlier [] most distinct = always (AreNamed name Own earlier []) (record {
  each = tt;
  most = subst (λ (l : List A). length l ≤ 32) (sym (append-nil earlier)) most;
  distinct = subst (λ (l : List A). IsDistinct bytes_eq (map (λ i. (name i).text) l)) (sym (append-nil earlier)) distinct;
})
named_decides {A} name own Own d earlier (i ∷ items) most distinct =
    let text : A → List ℕ = λ j. (name j).text in
    let among = list_any (λ j. bytes_eq (text i) (text j)) earlier in
    let more = earlier ++ i ∷ [] in
    let long : length more ≡ length earlier + 1 = length-append earlier (i ∷ []) in
    let here = both (unless (nat_lt (length earlier) 32) _) _ (rule (nat_lt (length earlier) 32) _ (length earlier < 32) (ltb-true (length earlier) 32) (lt-ltb (length earlier) 32))
    (λ room. both (own i) _ (d i)
    (λ o. both (unless (not among) _) None (rule (not among) _ (among ≡ false) (not_true among) (not_false among)) (λ fresh. always (Unit {0}) tt))) in
    change _
    (both (first_of (rules_under_name name own earlier i)) _ here
    (λ h. named_decides name own Own d more items (let z = long in let room = h.0 in omega (arith, z, room)) (more_named text earlier i distinct h.1.1.0)))
    (λ h. record {
      each = (h.0.1.0, h.1.each);
      most = subst (λ (l : List A). length l ≤ 32) (append_assoc earlier (i ∷ []) items) h.1.most;
      distinct = subst (λ (l : List A). IsDistinct bytes_eq (map text l)) (append_assoc earlier (i ∷ []) items) h.1.distinct;
    })
    (λ n. (
      ((let z = length-append earlier (i ∷ items) in let m = n.most in omega (arith, z, m)), (n.each.0, (new_named text earlier i items n.distinct, tt))),
      record {
        each = n.each.1;
        most = subst (λ (l : List A). length l ≤ 32) (sym (append_assoc earlier (i ∷ []) items)) n.most;
        distinct = subst (λ (l : List A). IsDistinct bytes_eq (map text l)) (sym (append_assoc earlier (i ∷ []) items)) n.distinct;
      },
    ))
