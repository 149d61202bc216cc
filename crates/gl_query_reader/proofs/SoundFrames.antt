-- Functions with OVER are read as the grammar has them.
use Rattle.std.proofs.Common.{◌≡◌, ℕ, List, [], ◌∷◌, ◌++◌, Option, Some, None, refl, ap, subst, ◌∙◌, append_assoc}
use Rattle.std.specs.Prelude.{option_and_then}
use Rattle.std.proofs.lemmas.List.{append-nil}
use Rattle.gl_query.specs.declared.tree.Num.{Num}
use Rattle.gl_query_tokens.specs.declared.token.Plain.TheVariants as plain
use Rattle.gl_query_tokens.specs.declared.token.Spelling.{Spelling}
use Rattle.gl_query_tokens.specs.declared.token.Spelling.TheVariants.{Capital}
use Rattle.gl_query_tokens.specs.declared.token.Word.TheVariants as word
use Rattle.gl_query_tokens.specs.declared.token.Token.{Token}
use Rattle.gl_query_tokens.specs.declared.token.Token.TheVariants as token
use Rattle.gl_query_reader.specs.declared.over_state.Call.{Call}
use Rattle.gl_query_reader.specs.declared.over_state.RowsSoFar.{RowsSoFar}
use Rattle.gl_query_reader.specs.declared.over_state.RowsSoFar.TheVariants as so_far
use Rattle.gl_query_reader.specs.declared.written.Part.{Part}
use Rattle.gl_query_reader.specs.Written.{Expr, Agg, Count, Fold', Wsum, OverAgg, CountOf, FoldOf, OverHead, LagOf, Ranged, Over, OverOf, Item, IsAgg, IsOverHead, spell, spell_agg, spell_word, spell_over_agg, spell_head, spell_part, spell_rows, spell_over}
use Rattle.gl_query_reader.specs.Framing.{begin_over, close_over, filter_or_over, in_over, over_goes, part_or_rows, ranged, rows_first, rows_step}
use Rattle.gl_query_reader.specs.States.{State, Frame, UnnamedAgg, UnnamedOver, InCall, InCondition, WantOperand, HaveAgg, WantCallOpen, WantBack, WantLagClose, WantOver, WantFilterOpen, WantFilterWhere, WantOverOpen, WantPart, WantPartBy, WantKey, OverGroups, InOver, WantOverAs, WantItemName, goes}
use Rattle.gl_query_reader.proofs.RowsSaid.{call_word, rows_text, rows_said, rows_fit}
use Rattle.gl_query_reader.proofs.Said.{in_items, before, control_text, Fits, Holds, Read, by_some, by_if, by_plain, by_number, by_open, by_by, by_word_or, go_on, go_in}
use Rattle.gl_query_reader.proofs.SoundTerms.{Keeps}
use Rattle.gl_query_reader.proofs.SoundExpressions.{behind_items, cast_kind, cast_end}
use Rattle.gl_bits.proofs.Options.{some_same, then_some}

pub keeps_call_open : (items : List Item) (c : Call) (at : ℕ) → Keeps (WantCallOpen items c at)
keeps_call_open items c at fs t s' f h e = by_open t _ s' _ e (λ n d. by_some _ s' _ d (go_in (control_text (WantCallOpen items c at)) WantOperand (InCall items c (Capital at) n) fs (token.Open n) f h tt refl (behind_items items (token.Word (call_word c) at ∷ []) (token.Open n))))

pub keeps_back : (items : List Item) (w : Spelling) (open' : ℕ) (arg : Expr) → Keeps (WantBack items w open' arg)
keeps_back items w open' arg fs t s' f h e = by_number t _ s' _ e (λ n d. by_some _ s' _ d (go_on (control_text (WantBack items w open' arg)) (WantLagClose items w open' arg n) fs (token.Number n) f h
    (behind_items items (spell_word word.Lag w ∷ token.Open open' ∷ (spell arg ++ token.Plain plain.Comma ∷ [])) (token.Number n)
    ∙ ap (in_items items) (cast_kind (spell arg) (spell_word word.Lag w) (token.Open open') (token.Plain plain.Comma) (token.Number n)))))

pub keeps_lag_close : (items : List Item) (w : Spelling) (open' : ℕ) (arg : Expr) (back : Num) → Keeps (WantLagClose items w open' arg back)
keeps_lag_close items w open' arg back fs t s' f h e = by_plain plain.Close t _ s' _ e (go_on (control_text (WantLagClose items w open' arg back)) (WantOver items (LagOf w open' arg (Some back))) fs (token.Plain plain.Close) f h
    (behind_items items (spell_word word.Lag w ∷ token.Open open' ∷ (spell arg ++ token.Plain plain.Comma ∷ token.Number back ∷ [])) (token.Plain plain.Close)
    ∙ ap (in_items items) (cast_end (spell arg) (spell_word word.Lag w) (token.Open open') (token.Plain plain.Comma) (token.Number back) (token.Plain plain.Close))))

-- ---- FILTER and OVER

begins_over : (items : List Item) (head : OverHead) (fs : List Frame) (t : Token) (s' : State) → Fits fs → Holds (WantOver items head) fs → begin_over fs items head t ≡ Some s' → Read s' ((before fs ++ control_text (WantOver items head)) ++ t ∷ [])
begins_over items head fs t s' f h e = by_word_or word.Over t (λ o. option_and_then (λ w. goes (WantOverOpen items head w) fs) o) s' _ e
    (λ w d. by_some _ s' _ d (go_on (control_text (WantOver items head)) (WantOverOpen items head w) fs (spell_word word.Over w) f h (behind_items items (spell_head head) (spell_word word.Over w))))
    (λ d. absurd cc)

filter_text : (items : List Item) (a : OverAgg) (t : Token) → in_items items (spell_head (Ranged a None)) ++ t ∷ [] ≡ in_items items (spell_over_agg a ++ t ∷ [])
filter_text items a t = behind_items items (spell_over_agg a ++ []) t ∙ ap (λ (x : List Token). in_items items (x ++ t ∷ [])) (append-nil (spell_over_agg a))

pub keeps_over : (items : List Item) (head : OverHead) → Keeps (WantOver items head)
keeps_over items (Ranged a None) fs t s' f h e = by_word_or word.Filter t (λ o. filter_or_over o fs items a t) s' _ e
    (λ w d. by_some _ s' _ d (go_on (control_text (WantOver items (Ranged a None))) (WantFilterOpen items a w) fs (spell_word word.Filter w) f (h.0, h.1, h.2.0) (filter_text items a (spell_word word.Filter w))))
    (λ d. begins_over items (Ranged a None) fs t s' f h d)
keeps_over items (Ranged a (Some x)) fs t s' f h e = begins_over items (Ranged a (Some x)) fs t s' f h e
keeps_over items (LagOf w open' arg back) fs t s' f h e = begins_over items (LagOf w open' arg back) fs t s' f h e

ranged_text : (a : Agg) (r : OverAgg) → ranged a ≡ Some r → spell_head (Ranged r None) ≡ spell_agg a
ranged_text (Count at open') r e = subst (λ (x : OverAgg). spell_head (Ranged x None) ≡ spell_agg (Count at open')) (some_same (CountOf at open') r e) refl
ranged_text (Fold' fold at open' arg) r e = subst (λ (x : OverAgg). spell_head (Ranged x None) ≡ spell_agg (Fold' fold at open' arg)) (some_same (FoldOf fold at open' arg) r e) (append-nil (spell_agg (Fold' fold at open' arg)))
ranged_text (Wsum at open' arg ns) r e = absurd cc

ranged_is : (a : Agg) (r : OverAgg) → ranged a ≡ Some r → IsAgg a → IsOverHead (Ranged r None)
ranged_is (Count at open') r e h = subst (λ (x : OverAgg). IsOverHead (Ranged x None)) (some_same (CountOf at open') r e) (tt, tt)
ranged_is (Fold' fold at open' arg) r e h = subst (λ (x : OverAgg). IsOverHead (Ranged x None)) (some_same (FoldOf fold at open' arg) r e) (h, tt)
ranged_is (Wsum at open' arg ns) r e h = absurd cc

-- behind an aggregate its name stands, or what makes a function with OVER of it
pub keeps_as : (items : List Item) (agg : Agg) → Keeps (HaveAgg items agg)
keeps_as items agg fs t s' f h e =
    by_if plain.As t _ _ s' _ e (λ d. by_some _ s' _ d (go_on (control_text (HaveAgg items agg)) (WantItemName items (UnnamedAgg agg)) fs (token.Plain plain.As) f h (behind_items items (spell_agg agg) (token.Plain plain.As))))
    (λ d. let g = then_some _ (ranged agg) s' d in
    subst (λ (x : List Token). Read s' ((before fs ++ in_items items x) ++ t ∷ [])) (ranged_text agg g.0 g.1) (keeps_over items (Ranged g.0 None) fs t s' f (h.0, h.1, ranged_is agg g.0 g.1 h.2) g.2))

pub keeps_filter_open : (items : List Item) (a : OverAgg) (w : Spelling) → Keeps (WantFilterOpen items a w)
keeps_filter_open items a w fs t s' f h e = by_open t _ s' _ e (λ n d. by_some _ s' _ d (go_on (control_text (WantFilterOpen items a w)) (WantFilterWhere items a w n) fs (token.Open n) f h
    (behind_items items (spell_over_agg a ++ spell_word word.Filter w ∷ []) (token.Open n) ∙ ap (in_items items) (append_assoc (spell_over_agg a) (spell_word word.Filter w ∷ []) (token.Open n ∷ [])))))

pub keeps_filter_where : (items : List Item) (a : OverAgg) (w : Spelling) (open' : ℕ) → Keeps (WantFilterWhere items a w open')
keeps_filter_where items a w open' fs t s' f h e = by_plain plain.Where t _ s' _ e (go_in (control_text (WantFilterWhere items a w open')) WantOperand (InCondition items a w open') fs (token.Plain plain.Where) f h tt refl
    (behind_items items (spell_over_agg a ++ spell_word word.Filter w ∷ token.Open open' ∷ []) (token.Plain plain.Where) ∙ ap (in_items items) (append_assoc (spell_over_agg a) (spell_word word.Filter w ∷ token.Open open' ∷ []) (token.Plain plain.Where ∷ []))))

-- ---- the bracket behind OVER

open_text : (items : List Item) (head : OverHead) (w : Spelling) (n : ℕ) → control_text (WantOverOpen items head w) ++ token.Open n ∷ [] ≡ in_items items (spell_head head ++ spell_word word.Over w ∷ token.Open n ∷ [])
open_text items head w n = behind_items items (spell_head head ++ spell_word word.Over w ∷ []) (token.Open n) ∙ ap (in_items items) (append_assoc (spell_head head) (spell_word word.Over w ∷ []) (token.Open n ∷ []))

pub keeps_over_open : (items : List Item) (head : OverHead) (w : Spelling) → Keeps (WantOverOpen items head w)
keeps_over_open items head w fs t s' f h e = by_open t _ s' _ e (λ n d. by_some _ s' _ d (go_on (control_text (WantOverOpen items head w)) (WantPart items head w n) fs (token.Open n) f h (open_text items head w n)))

rows_more : (items : List Item) (head : OverHead) (w : Spelling) (open' : ℕ) (more : List Token) (t : Token) → in_items items (spell_head head ++ spell_word word.Over w ∷ token.Open open' ∷ more) ++ t ∷ [] ≡ in_items items (spell_head head ++ spell_word word.Over w ∷ token.Open open' ∷ (more ++ t ∷ []))
rows_more items head w open' more t = behind_items items (spell_head head ++ spell_word word.Over w ∷ token.Open open' ∷ more) t ∙ ap (in_items items) (append_assoc (spell_head head) (spell_word word.Over w ∷ token.Open open' ∷ more) (t ∷ []))

-- a token behind PARTITION and some rows
part_more : (items : List Item) (head : OverHead) (w : Spelling) (open' : ℕ) (p : Option Part) (more : List Token) (t : Token) → in_items items (spell_head head ++ spell_word word.Over w ∷ token.Open open' ∷ (spell_part p ++ more)) ++ t ∷ [] ≡ in_items items (spell_head head ++ spell_word word.Over w ∷ token.Open open' ∷ (spell_part p ++ (more ++ t ∷ [])))
part_more items head w open' p more t =
    rows_more items head w open' (spell_part p ++ more) t ∙ ap (λ (y : List Token). in_items items (spell_head head ++ spell_word word.Over w ∷ token.Open open' ∷ y)) (append_assoc (spell_part p) more (t ∷ []))

closes_over : (items : List Item) (head : OverHead) (w : Spelling) (open' : ℕ) (p : Option Part) (r : RowsSoFar) (fs : List Frame) (t : Token) (s' : State) → Fits fs → Holds (InOver items head w open' p r) fs → close_over fs items head w open' p r t ≡ Some s' → Read s' ((before fs ++ control_text (InOver items head w open' p r)) ++ t ∷ [])
closes_over items head w open' p (so_far.WantClose x) fs t s' f h e = by_plain plain.Close t _ s' _ e (go_on (control_text (InOver items head w open' p (so_far.WantClose x))) (WantOverAs items (OverOf head w open' p x)) fs (token.Plain plain.Close) f (h.0, h.1, (h.2, h.3)) (part_more items head w open' p (spell_rows x) (token.Plain plain.Close)))
closes_over items head w open' p r fs t s' f h e = absurd cc

pub keeps_in_over : (items : List Item) (head : OverHead) (w : Spelling) (open' : ℕ) (p : Option Part) (r : RowsSoFar) → Keeps (InOver items head w open' p r)
keeps_in_over items head w open' p r fs t s' f h e = test (rows_step r t) refl e
  where
    test : (o : Option RowsSoFar) → rows_step r t ≡ o → over_goes o fs items head w open' p r t ≡ Some s' → Read s' ((before fs ++ control_text (InOver items head w open' p r)) ++ t ∷ [])
    test None d x = closes_over items head w open' p r fs t s' f h x
    test (Some next) d x = by_some _ s' _ x (go_on (control_text (InOver items head w open' p r)) (InOver items head w open' p next) fs t f (h.0, h.1, h.2, rows_fit head r next t h.3 d)
        (part_more items head w open' p (rows_text r) t ∙ ap (λ (y : List Token). in_items items (spell_head head ++ spell_word word.Over w ∷ token.Open open' ∷ (spell_part p ++ y))) (rows_said r next t d)))

-- without PARTITION the rows begin at once
no_part : (items : List Item) (head : OverHead) (w : Spelling) (open' : ℕ) (fs : List Frame) (t : Token) (s' : State) → Fits fs → Holds (WantPart items head w open') fs → in_over fs items head w open' None (rows_first head) t ≡ Some s' → Read s' ((before fs ++ control_text (WantPart items head w open')) ++ t ∷ [])
no_part items (LagOf v begin arg back) w open' fs t s' f h e = keeps_in_over items (LagOf v begin arg back) w open' None (so_far.WantClose None) fs t s' f (h.0, h.1, h.2, tt) e
no_part items (Ranged a filter) w open' fs t s' f h e = keeps_in_over items (Ranged a filter) w open' None so_far.WantRows fs t s' f (h.0, h.1, h.2, tt) e

pub keeps_part : (items : List Item) (head : OverHead) (w : Spelling) (open' : ℕ) → Keeps (WantPart items head w open')
keeps_part items head w open' fs t s' f h e = by_word_or word.Partition t (λ o. part_or_rows o fs items head w open' t) s' _ e
    (λ p d. by_some _ s' _ d (go_on (control_text (WantPart items head w open')) (WantPartBy items head w open' p) fs (spell_word word.Partition p) f (h.0, (h.1, h.2)) (rows_more items head w open' [] (spell_word word.Partition p))))
    (λ d. no_part items head w open' fs t s' f h d)

pub keeps_part_by : (items : List Item) (head : OverHead) (w : Spelling) (open' : ℕ) (p : Spelling) → Keeps (WantPartBy items head w open' p)
keeps_part_by items head w open' p fs t s' f h e = by_by t _ s' _ e (λ n d. by_some _ s' _ d (go_on (control_text (WantPartBy items head w open' p)) (WantKey (OverGroups items head w open' p) n) fs (token.By n) f h refl))

pub keeps_over_as : (items : List Item) (over : Over) → Keeps (WantOverAs items over)
keeps_over_as items over fs t s' f h e = by_plain plain.As t _ s' _ e (go_on (control_text (WantOverAs items over)) (WantItemName items (UnnamedOver over)) fs (token.Plain plain.As) f h (behind_items items (spell_over over) (token.Plain plain.As)))
