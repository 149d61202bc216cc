-- A canonical text is read back: what a select picks, and its filter.
use Rattle.std.proofs.Common.{◌≡◌, ℕ, Bool, true, false, List, [], ◌∷◌, map, Option, Some, None, option_map, option_and_then, bytes_eq, nat_eq, refl, sym, ap, subst, ◌∙◌}
use Rattle.std.specs.List.{AllByRecursion, list_any}
use Rattle.std.proofs.lemmas.Bool.{eq-eqb, true≢false}
use Rattle.gl_values.specs.declared.op.Op.TheVariants as op
use Rattle.gl_bits.proofs.Bools.{and_both, bytes_own}
use Rattle.gl_bits.proofs.Options.{some_same}
use Rattle.gl_query.specs.Shapes.{ExprShape, ItemShape, AggItemShape, FrameItemShape, SlotsShape, PickShape, slots_shape}
use Rattle.gl_query.specs.Shapes as shape
use Rattle.gl_query_tokens.specs.declared.token.Plain.TheVariants as plain
use Rattle.gl_query_tokens.specs.declared.token.Token.{Token}
use Rattle.gl_query_tokens.specs.declared.token.Token.TheVariants as token
use Rattle.gl_query_reader.specs.declared.written.Part.{Part}
use Rattle.gl_query_reader.specs.Written as written
use Rattle.gl_query_reader.specs.Written.{AreItems, IsPick, IsFilter, spell, spell_items, spell_pick, spell_filter}
use Rattle.gl_query.specs.Trees as meant
use Rattle.gl_query_reader.specs.Meaning.{expr_meaning, is_total, has_over, first_over, part_in, part_of, slots_in, by_pick, by_over, by_items}
use Rattle.gl_query_reader.specs.Mixed.{first_other, same_part, other_part, mixed_parts, least, mixed_plain, mixed_pick}
use Rattle.gl_query.specs.Alike.{expr_alike, query_alike}
use Rattle.gl_query_printer.specs.Canonical.{expr_of, item_of, agg_item_of, partition_of, frame_item_of, pick_of}
use Rattle.gl_query_printer.proofs.Places.{placeless, first, alone, nothing}
use Rattle.gl_query_printer.proofs.Writable.{CanBeItem, CanBeAggItem, CanBeFrameItem, is_back, Some', CanBePick, CanBeFilter}
use Rattle.gl_query_printer.proofs.ReadBackFrames.{slots_of, HasSlots, frames, frames_parted, read_frame_item}
use Rattle.gl_query_printer.proofs.ReadBack.{AnyItem, cons, read_expr, read_list, no_over, plains, totals, plains_parted, totals_parted, read_item, read_agg_item}

pub record ReadPick (us : List Token) (p : PickShape) : Type 0 where
  pub tree : written.Pick
  pub spelled : spell_pick tree ≡ us
  pub grammar : IsPick tree
  pub mixed : mixed_pick tree None ≡ None
  pub alike : (f : Option meant.ExprTree) (s : meant.QueryTree) → query_alike (by_pick tree f s) ≡ shape.Rows p (option_map expr_alike f) (query_alike s)

items_pick : (i : written.Item) (is : List written.Item) → AreItems (i ∷ is) → IsPick (written.Items (i ∷ is))
items_pick i is g = g

mixed_by : (b : Bool) (i : written.Item) (is : List written.Item) → is_total i ≡ b → first_other b is ≡ None → mixed_parts (i ∷ is) ≡ None → mixed_plain (i ∷ is) ≡ None
mixed_by b i is e h m =
    ap (λ (x : Bool). least (first_other x is) (mixed_parts (i ∷ is))) e ∙ ap (λ (o : Option ℕ). least o (mixed_parts (i ∷ is))) h ∙ m

-- ---- one PARTITION

same_slots : (p q : Option Part) → slots_of p ≡ slots_of q → same_part p q ≡ true
same_slots None None e = refl
same_slots None (Some q) e = absurd (cc)
same_slots (Some p) None e = absurd (cc)
same_slots (Some p) (Some q) e =
    let s : slots_shape (record { key = p.grouping.key; groups = p.grouping.groups }) ≡ slots_shape (record { key = q.grouping.key; groups = q.grouping.groups }) = some_same _ _ e in
    and_both (bytes_eq p.grouping.key.text q.grouping.key.text) (nat_eq p.grouping.groups.value q.grouping.groups.value)
    (subst (λ (k : List ℕ). bytes_eq p.grouping.key.text k ≡ true) (ap (λ (x : SlotsShape). x.key) s) (bytes_own p.grouping.key.text))
    (eq-eqb p.grouping.groups.value q.grouping.groups.value (ap (λ (x : SlotsShape). x.groups) s))

none_other : (slots : Option SlotsShape) (p : Option Part) (is : List written.Item) → slots_of p ≡ slots → AllByRecursion (HasSlots slots) is → other_part p is ≡ None
none_other slots p [] e h = refl
none_other slots p (written.Bare name ∷ is) e h = none_other slots p is e h.1
none_other slots p (written.Named x name ∷ is) e h = none_other slots p is e h.1
none_other slots p (written.Total a name ∷ is) e h = none_other slots p is e h.1
none_other slots p (written.Framed o name ∷ is) e h = rw (same_slots p (part_of o) (e ∙ sym h.0)) (none_other slots p is e h.1)

-- of all items, by the first of some that has OVER
by_first : (slots : Option SlotsShape) (all is : List written.Item) → AllByRecursion (HasSlots slots) all → AllByRecursion (HasSlots slots) is → option_and_then (λ i. other_part (part_in i) all) (first_over is) ≡ None
by_first slots all [] k h = refl
by_first slots all (written.Bare name ∷ is) k h = by_first slots all is k h.1
by_first slots all (written.Named x name ∷ is) k h = by_first slots all is k h.1
by_first slots all (written.Total a name ∷ is) k h = by_first slots all is k h.1
by_first slots all (written.Framed o name ∷ is) k h = none_other slots (part_of o) all h.0 k

-- the PARTITION of the first is that of all
slots_are : (slots : Option SlotsShape) (is : List written.Item) → has_over is ≡ true → AllByRecursion (HasSlots slots) is → option_map slots_shape (slots_in is) ≡ slots
slots_are slots [] o h = absurd (true≢false (sym o))
slots_are slots (written.Bare name ∷ is) o h = slots_are slots is o h.1
slots_are slots (written.Named x name ∷ is) o h = slots_are slots is o h.1
slots_are slots (written.Total a name ∷ is) o h = slots_are slots is o h.1
slots_are slots (written.Framed f name ∷ is) o h = h.0

-- none without OVER
no_first : (is : List written.Item) → has_over is ≡ false → first_over is ≡ None
no_first [] o = refl
no_first (written.Bare name ∷ is) o = no_first is o
no_first (written.Named x name ∷ is) o = no_first is o
no_first (written.Total a name ∷ is) o = no_first is o
no_first (written.Framed f name ∷ is) o = absurd (true≢false o)

no_parts : (is : List written.Item) → has_over is ≡ false → mixed_parts is ≡ None
no_parts is o = ap (λ (x : Option written.Item). option_and_then (λ i. other_part (part_in i) is) x) (no_first is o)

-- none of a list is such
none_of : {A : Type 0} (xs : List A) → list_any no_over xs ≡ false
none_of [] = refl
none_of (x ∷ xs) = none_of xs

plain_pick : (i : written.Item) (is : List written.Item) (f : Option meant.ExprTree) (s : meant.QueryTree) (x : ItemShape) (xs : List ItemShape) → is_total i ≡ false → has_over (i ∷ is) ≡ false → plains (i ∷ is) ≡ x ∷ xs
    → query_alike (by_items (is_total i) (i ∷ is) f s) ≡ shape.Rows (shape.Items (x ∷ xs)) (option_map expr_alike f) (query_alike s)
plain_pick i is f s x xs e o h = ap (λ (b : Bool). query_alike (by_items b (i ∷ is) f s)) e ∙ ap (λ (b : Bool). query_alike (by_over b (i ∷ is) f s)) o ∙ ap (λ (ys : List ItemShape). shape.Rows (shape.Items ys) (option_map expr_alike f) (query_alike s)) h

pub read_pick : (p : PickShape) → CanBePick p → (us : List Token) → map placeless us ≡ spell_pick (pick_of p) → ReadPick us p
read_pick shape.All c us h =
    let a = alone us (token.Operator op.Mul 0) h in
    record { tree = written.All a.at; spelled = sym a.whole; grammar = tt; mixed = refl; alike = λ f s. refl }
read_pick (shape.Items []) c us h = absurd c.0
read_pick (shape.Items (i ∷ is)) c us h =
    let r = read_list AnyItem item_of CanBeItem plains no_over false plains_parted read_item i is c.1 us h in
    let none = r.over ∙ none_of (i ∷ is) in
    record {
      tree = written.Items (r.first' ∷ r.rest);
      spelled = r.spelled;
      grammar = items_pick r.first' r.rest r.grammar;
      mixed = mixed_by false r.first' r.rest r.total r.others (no_parts (r.first' ∷ r.rest) none);
      alike = λ f s. plain_pick r.first' r.rest f s i is r.total none r.alike;
    }

pub record ReadAggs (us : List Token) (aggs : List AggItemShape) : Type 0 where
  pub tree : written.Pick
  pub spelled : spell_pick tree ≡ us
  pub grammar : IsPick tree
  pub mixed : mixed_pick tree None ≡ None
  pub alike : (s : meant.QueryTree) → query_alike (by_pick tree None s) ≡ shape.Total aggs (query_alike s)

total_pick : (i : written.Item) (is : List written.Item) (s : meant.QueryTree) (x : AggItemShape) (xs : List AggItemShape) → is_total i ≡ true → totals (i ∷ is) ≡ x ∷ xs
    → query_alike (by_items (is_total i) (i ∷ is) None s) ≡ shape.Total (x ∷ xs) (query_alike s)
total_pick i is s x xs e h = ap (λ (b : Bool). query_alike (by_items b (i ∷ is) None s)) e ∙ ap (λ (ys : List AggItemShape). shape.Total ys (query_alike s)) h

pub read_aggs : (aggs : List AggItemShape) → Some' aggs → AllByRecursion CanBeAggItem aggs → (us : List Token) → map placeless us ≡ spell_items (map agg_item_of aggs) → ReadAggs us aggs
read_aggs [] s c us h = absurd s
read_aggs (i ∷ is) s c us h =
    let r = read_list AnyItem agg_item_of CanBeAggItem totals no_over true totals_parted read_agg_item i is c us h in
    record {
      tree = written.Items (r.first' ∷ r.rest);
      spelled = r.spelled;
      grammar = items_pick r.first' r.rest r.grammar;
      mixed = mixed_by true r.first' r.rest r.total r.others (no_parts (r.first' ∷ r.rest) (r.over ∙ none_of (i ∷ is)));
      alike = λ s. total_pick r.first' r.rest s i is r.total r.alike;
    }

-- a select of frames
pub record ReadFrames (us : List Token) (items : List FrameItemShape) (slots : Option SlotsShape) : Type 0 where
  pub tree : written.Pick
  pub spelled : spell_pick tree ≡ us
  pub grammar : IsPick tree
  pub mixed : mixed_pick tree None ≡ None
  pub alike : (f : Option meant.ExprTree) (s : meant.QueryTree) → query_alike (by_pick tree f s) ≡ shape.Frames items (option_map expr_alike f) slots (query_alike s)

frame_pick : (i : written.Item) (is : List written.Item) (f : Option meant.ExprTree) (s : meant.QueryTree) (xs : List FrameItemShape) (slots : Option SlotsShape) → is_total i ≡ false → has_over (i ∷ is) ≡ true → frames (i ∷ is) ≡ xs
    → option_map slots_shape (slots_in (i ∷ is)) ≡ slots → query_alike (by_items (is_total i) (i ∷ is) f s) ≡ shape.Frames xs (option_map expr_alike f) slots (query_alike s)
frame_pick i is f s xs slots e o h k =
    ap (λ (b : Bool). query_alike (by_items b (i ∷ is) f s)) e ∙ ap (λ (b : Bool). query_alike (by_over b (i ∷ is) f s)) o
    ∙ ap (λ (ys : List FrameItemShape). shape.Frames ys (option_map expr_alike f) (option_map slots_shape (slots_in (i ∷ is))) (query_alike s)) h
    ∙ ap (λ (z : Option SlotsShape). shape.Frames xs (option_map expr_alike f) z (query_alike s)) k

pub read_frames : (slots : Option SlotsShape) (items : List FrameItemShape) → list_any is_back items ≡ true → AllByRecursion CanBeFrameItem items → (us : List Token) → map placeless us ≡ spell_items (map (frame_item_of (partition_of slots)) items) → ReadFrames us items slots
read_frames slots [] s c us h = absurd (true≢false (sym s))
read_frames slots (i ∷ is) s c us h =
    let r = read_list (HasSlots slots) (frame_item_of (partition_of slots)) CanBeFrameItem frames is_back false frames_parted (read_frame_item slots) i is c us h in
    let all : List written.Item = r.first' ∷ r.rest in
    record {
      tree = written.Items (r.first' ∷ r.rest);
      spelled = r.spelled;
      grammar = items_pick r.first' r.rest r.grammar;
      mixed = mixed_by false r.first' r.rest r.total r.others (by_first slots all all r.own r.own);
      alike = λ f q. frame_pick r.first' r.rest f q (i ∷ is) slots r.total (r.over ∙ s) r.alike (slots_are slots all (r.over ∙ s) r.own);
    }

pub record ReadFilter (us : List Token) (f : Option ExprShape) : Type 0 where
  pub tree : Option written.Expr
  pub spelled : spell_filter tree ≡ us
  pub grammar : IsFilter tree
  pub alike : option_map expr_alike (option_map expr_meaning tree) ≡ f

pub read_filter : (f : Option ExprShape) → CanBeFilter f → (us : List Token) → map placeless us ≡ spell_filter (option_map expr_of f) → ReadFilter us f
read_filter None c us h = record { tree = None; spelled = sym (nothing us h); grammar = tt; alike = refl }
read_filter (Some e) c us h =
    let a = first us (token.Plain plain.Where) (spell (expr_of e)) h in
    let x = read_expr e c a.rest a.rest_is in
    record { tree = Some x.tree; spelled = cons (token.Plain plain.Where) us a.rest (spell x.tree) a.whole x.spelled; grammar = x.grammar; alike = ap Some x.alike }
