-- Items and expressions are read as the grammar has them.
use Rattle.std.proofs.Common.{◌≡◌, ℕ, ◌<◌, ◌≤◌, Bool, true, false, cond, leb, ltb, List, [], ◌∷◌, ◌++◌, Option, Some, None, refl, sym, ap, subst, ◌∙◌, append_assoc, arith}
use Rattle.std.proofs.lemmas.Bool.{leb-true, ltb-true}
use Rattle.std.proofs.lemmas.List.{append-nil}
use Rattle.gl_values.specs.declared.kind.Kind.{Kind}
use Rattle.gl_schema.specs.SchemaFaults.{kind_named}
use Rattle.gl_query.specs.declared.tree.Name.{Name}
use Rattle.gl_query.specs.declared.tree.Num.{Num}
use Rattle.gl_values.specs.declared.op.Op.{Op}
use Rattle.gl_values.specs.declared.op.Op.TheVariants as op
use Rattle.gl_query_tokens.specs.declared.token.Fold.{Fold}
use Rattle.gl_query_tokens.specs.declared.token.Plain.TheVariants as plain
use Rattle.gl_query_tokens.specs.declared.token.Spelling.TheVariants.{Small}
use Rattle.gl_query_tokens.specs.declared.token.Word.TheVariants as word
use Rattle.gl_query_tokens.specs.declared.token.Token.{Token}
use Rattle.gl_query_tokens.specs.declared.token.Token.TheVariants as token
use Rattle.gl_query_reader.specs.Written.{Expr, Column, Minus, Parameter, Cast, Flip, Not, Binary, Count, Wsum, Item, Bare, All, Items, Select, looseness, left_looseness, level, IsExpr, IsAgg, IsItem, AreItems, IsPick, spell, spell_numbers, spell_agg, spell_word, spell_over_agg, spell_over, spell_item, spell_items, spell_pick, spell_query, spell_if_window}
use Rattle.gl_query_reader.specs.States.{State, Frame, SelectHead, Unnamed, UnnamedExpr, UnnamedAgg, UnnamedOver, LeftOf, FlipOf, NotOf, BracketOf, InCast, InItem, InFold, InWsum, InCall, InCondition, InFilter, WantItem, WantOperand, WantMinus, WantParameter, HaveExpr, WantCastOpen, WantKind, WantCastClose, WantCountOpen, WantCountClose, WantFoldOpen, WantWsumOpen, WantWeightsOpen, WantWeight, HaveWeight, WantWsumClose, HaveAgg, WantCallOpen, WantItemName, HaveItem, WantFrom, WantSource, goes}
use Rattle.gl_query_reader.specs.Machine.{Reduced, room, reduced, want_operand, have_item, after_expr, after_item, bare, bare_or_call, under_name}
use Rattle.gl_query_reader.specs.Framing.{begin_call, named_call}
use Rattle.gl_query_reader.specs.declared.over_state.Call.TheVariants as call
use Rattle.gl_query_reader.proofs.RowsSaid.{call_word, named_is}
use Rattle.gl_query_reader.proofs.ReadExpressions.{pair}
use Rattle.gl_query_reader.proofs.Said.{items_before, numbers_before, in_items, unnamed_text, before, control_text, IsUnnamed, InExpr, Fits, Read, by_some, by_if, by_plain, by_name, by_number, by_open, by_open_or, go_on, go_in}
use Rattle.gl_query_reader.proofs.SoundTerms.{Keeps, keeps_term}
use Rattle.gl_bits.proofs.Options.{then_some}

-- ---- lists that grow

pub items-push : (is : List Item) (i : Item) → items_before is ++ spell_item i ≡ spell_items (is ++ i ∷ [])
items-push [] i = refl
items-push (j ∷ []) i = append_assoc (spell_item j) (token.Plain plain.Comma ∷ []) (spell_item i)
items-push (j ∷ k ∷ is) i =
    ap (λ (x : List Token). x ++ spell_item i) (append_assoc (spell_item j) (token.Plain plain.Comma ∷ spell_items (k ∷ is)) (token.Plain plain.Comma ∷ []))
    ∙ append_assoc (spell_item j) (token.Plain plain.Comma ∷ (spell_items (k ∷ is) ++ token.Plain plain.Comma ∷ [])) (spell_item i)
    ∙ ap (λ (x : List Token). spell_item j ++ token.Plain plain.Comma ∷ x) (items-push (k ∷ is) i)

pub items-comma : (is : List Item) → IsPick (Items is) → spell_items is ++ token.Plain plain.Comma ∷ [] ≡ items_before is
items-comma [] h = absurd h
items-comma (i ∷ is) h = refl

pub are-push : (is : List Item) (i : Item) → AreItems is → IsItem i → IsPick (Items (is ++ i ∷ []))
are-push [] i g h = (h, tt)
are-push (j ∷ is) i g h = (g.0, all is g.1)
  where
    all : (is : List Item) → AreItems is → AreItems (is ++ i ∷ [])
    all [] g = (h, tt)
    all (j ∷ is) g = (g.0, all is g.1)

pub are-items : (is : List Item) → IsPick (Items is) → AreItems is
are-items [] h = absurd h
are-items (i ∷ is) h = h

pub numbers-push : (ns : List Num) (n : Num) → numbers_before ns ++ token.Number n ∷ [] ≡ spell_numbers (ns ++ n ∷ [])
numbers-push [] n = refl
numbers-push (m ∷ []) n = refl
numbers-push (m ∷ k ∷ ns) n = ap (λ (x : List Token). token.Number m ∷ token.Plain plain.Comma ∷ x) (numbers-push (k ∷ ns) n)

pub numbers-comma : (at open' : ℕ) (e : Expr) (ns : List Num) → IsAgg (Wsum at open' e ns) → spell_numbers ns ++ token.Plain plain.Comma ∷ [] ≡ numbers_before ns
numbers-comma at open' e [] h = absurd h
numbers-comma at open' e (n ∷ ns) h = refl

wsum-is : (at open' : ℕ) (e : Expr) (ns : List Num) (n : Num) → IsExpr e → IsAgg (Wsum at open' e (ns ++ n ∷ []))
wsum-is at open' e [] n h = h
wsum-is at open' e (m ∷ ns) n h = h

-- ---- operands

room-pos : (fs : List Frame) → InExpr fs → 0 < room fs
room-pos (LeftOf l op.Mul at ∷ fs) i = omega arith
room-pos (LeftOf l op.Add at ∷ fs) i = omega arith
room-pos (LeftOf l op.Sub at ∷ fs) i = omega arith
room-pos (LeftOf l op.ShiftLeft at ∷ fs) i = omega arith
room-pos (LeftOf l op.ShiftRight at ∷ fs) i = omega arith
room-pos (LeftOf l op.BitAnd at ∷ fs) i = omega arith
room-pos (LeftOf l op.BitXor at ∷ fs) i = omega arith
room-pos (LeftOf l op.BitOr at ∷ fs) i = omega arith
room-pos (LeftOf l op.Eq at ∷ fs) i = omega arith
room-pos (LeftOf l op.Ne at ∷ fs) i = omega arith
room-pos (LeftOf l op.Lt at ∷ fs) i = omega arith
room-pos (LeftOf l op.Le at ∷ fs) i = omega arith
room-pos (LeftOf l op.Gt at ∷ fs) i = omega arith
room-pos (LeftOf l op.Ge at ∷ fs) i = omega arith
room-pos (LeftOf l op.And at ∷ fs) i = omega arith
room-pos (LeftOf l op.Or at ∷ fs) i = omega arith
room-pos fs i = omega arith

-- what passes a test
if_some : (b : Bool) (x s' : State) → cond b (Some x) None ≡ Some s' → (b ≡ true) × (Some x ≡ Some s')
if_some true x s' e = (refl, e)
if_some false x s' e = absurd cc

pub keeps_operand_in : (fs : List Frame) (t : Token) (s' : State) → Fits fs → InExpr fs → want_operand fs t ≡ Some s' → Read s' (before fs ++ t ∷ [])
keeps_operand_in fs (token.Name n) s' f h e = by_some _ s' _ e (record { text = refl; fits = f; holds = (h, tt, refl) })
keeps_operand_in fs (token.Number n) s' f h e = by_some _ s' _ e (record { text = refl; fits = f; holds = (h, tt, refl) })
keeps_operand_in fs (token.Operator op.Sub at) s' f h e = by_some _ s' _ e (record { text = refl; fits = f; holds = h })
keeps_operand_in fs (token.Operator o at) s' f h e = absurd cc
keeps_operand_in fs (token.Letters text at) s' f h e = by_some _ s' _ e (record { text = refl; fits = f; holds = (h, tt, refl) })
keeps_operand_in fs (token.Open at) s' f h e = by_some _ s' _ e (record { text = append-nil (before fs ++ token.Open at ∷ []); fits = (h, f); holds = tt })
keeps_operand_in fs (token.Colon at) s' f h e = by_some _ s' _ e (record { text = refl; fits = f; holds = h })
keeps_operand_in fs (token.Cast at) s' f h e = by_some _ s' _ e (record { text = refl; fits = f; holds = h })
keeps_operand_in fs (token.Tilde at) s' f h e =
    let g = if_some (ltb 1 (room fs)) _ s' e in
    by_some _ s' _ g.1 (record { text = append-nil (before fs ++ token.Tilde at ∷ []); fits = ((h, ltb-true 1 (room fs) g.0), f); holds = tt })
keeps_operand_in fs (token.Not at) s' f h e =
    let g = if_some (ltb 9 (room fs)) _ s' e in
    by_some _ s' _ g.1 (record { text = append-nil (before fs ++ token.Not at ∷ []); fits = ((h, ltb-true 9 (room fs) g.0), f); holds = tt })
keeps_operand_in fs t s' f h e = absurd cc

pub keeps_operand : Keeps WantOperand
keeps_operand fs t s' f h e = subst (λ (x : List Token). Read s' (x ++ t ∷ [])) (sym (append-nil (before fs))) (keeps_operand_in fs t s' f h e)

pub keeps_minus : (at : ℕ) → Keeps (WantMinus at)
keeps_minus at fs t s' f h e = by_number t _ s' _ e (λ n d. by_some _ s' _ d (go_on (control_text (WantMinus at)) (HaveExpr (Minus at n)) fs (token.Number n) f (h, tt, refl) refl))

pub keeps_parameter : (at : ℕ) → Keeps (WantParameter at)
keeps_parameter at fs t s' f h e = by_name t _ s' _ e (λ n d. by_some _ s' _ d (go_on (control_text (WantParameter at)) (HaveExpr (Parameter at n)) fs (token.Name n) f (h, tt, refl) refl))

pub keeps_cast_open : (at : ℕ) → Keeps (WantCastOpen at)
keeps_cast_open at fs t s' f h e = by_open t _ s' _ e (λ n d. by_some _ s' _ d (go_in (token.Cast at ∷ []) WantOperand (InCast at n) fs (token.Open n) f h tt refl refl))

pub cast_kind : (x : List Token) (a b c t : Token) → (a ∷ b ∷ (x ++ c ∷ [])) ++ t ∷ [] ≡ a ∷ b ∷ (x ++ c ∷ t ∷ [])
cast_kind x a b c t = simp append_assoc

pub cast_end : (x : List Token) (a b c d t : Token) → (a ∷ b ∷ (x ++ c ∷ d ∷ [])) ++ t ∷ [] ≡ a ∷ b ∷ (x ++ c ∷ d ∷ t ∷ [])
cast_end x a b c d t = simp append_assoc

pub keeps_kind : (at open' : ℕ) (inner : Expr) → Keeps (WantKind at open' inner)
keeps_kind at open' inner fs t s' f h e = by_name t _ s' _ e (λ n d.
    let g = then_some _ (kind_named n.text) s' d in
    by_some _ s' _ g.2 (go_on (control_text (WantKind at open' inner)) (WantCastClose at open' inner n g.0) fs (token.Name n) f (h.0, h.1, g.1) (cast_kind (spell inner) (token.Cast at) (token.Open open') (token.Plain plain.As) (token.Name n))))

pub keeps_cast_close : (at open' : ℕ) (inner : Expr) (word : Name) (kind : Kind) → Keeps (WantCastClose at open' inner word kind)
keeps_cast_close at open' inner word kind fs t s' f h e = by_plain plain.Close t _ s' _ e (go_on (control_text (WantCastClose at open' inner word kind)) (HaveExpr (Cast at open' inner word kind)) fs (token.Plain plain.Close) f (h.0, (h.1, h.2), refl) (cast_end (spell inner) (token.Cast at) (token.Open open') (token.Plain plain.As) (token.Name word) (token.Plain plain.Close)))

-- ---- items

pub keeps_item : (items : List Item) → Keeps (WantItem items)
keeps_item [] fs (token.Operator op.Mul at) s' f h e = by_some _ s' _ e (go_on (control_text (WantItem [])) (WantFrom at) fs (token.Operator op.Mul at) f h.0 refl)
keeps_item (i ∷ is) fs (token.Operator op.Mul at) s' f h e = absurd cc
keeps_item items fs (token.Operator op.Sub at) s' f h e = keeps_operand_in (InItem items ∷ fs) (token.Operator op.Sub at) s' (h, f) tt e
keeps_item items fs (token.Operator o at) s' f h e = absurd cc
keeps_item items fs (token.Count at) s' f h e = by_some _ s' _ e (go_on (control_text (WantItem items)) (WantCountOpen items at) fs (token.Count at) f h refl)
keeps_item items fs (token.Fold fold at) s' f h e = by_some _ s' _ e (go_on (control_text (WantItem items)) (WantFoldOpen items fold at) fs (token.Fold fold at) f h refl)
keeps_item items fs (token.Wsum at) s' f h e = by_some _ s' _ e (go_on (control_text (WantItem items)) (WantWsumOpen items at) fs (token.Wsum at) f h refl)
keeps_item items fs (token.Word word.Lag at) s' f h e = by_some _ s' _ e (go_on (control_text (WantItem items)) (WantCallOpen items call.Lag at) fs (token.Word word.Lag at) f h refl)
keeps_item items fs (token.Word word.LastValue at) s' f h e = by_some _ s' _ e (go_on (control_text (WantItem items)) (WantCallOpen items call.LastValue at) fs (token.Word word.LastValue at) f h refl)
keeps_item items fs (token.Word w at) s' f h e = absurd cc
keeps_item items fs t s' f h e = keeps_operand_in (InItem items ∷ fs) t s' (h, f) tt e

pub behind_items : (items : List Item) (more : List Token) (t : Token) → in_items items more ++ t ∷ [] ≡ in_items items (more ++ t ∷ [])
behind_items items more t = ap (λ (x : List Token). token.Plain plain.Select ∷ x) (append_assoc (items_before items) more (t ∷ []))

pub keeps_count_open : (items : List Item) (at : ℕ) → Keeps (WantCountOpen items at)
keeps_count_open items at fs t s' f h e = by_open t _ s' _ e (λ n d. by_some _ s' _ d (go_on (control_text (WantCountOpen items at)) (WantCountClose items at n) fs (token.Open n) f h (behind_items items (token.Count at ∷ []) (token.Open n))))

pub keeps_count_close : (items : List Item) (at open' : ℕ) → Keeps (WantCountClose items at open')
keeps_count_close items at open' fs t s' f h e = by_plain plain.Close t _ s' _ e (go_on (control_text (WantCountClose items at open')) (HaveAgg items (Count at open')) fs (token.Plain plain.Close) f (h.0, h.1, tt) (behind_items items (token.Count at ∷ token.Open open' ∷ []) (token.Plain plain.Close)))

pub keeps_fold_open : (items : List Item) (fold : Fold) (at : ℕ) → Keeps (WantFoldOpen items fold at)
keeps_fold_open items fold at fs t s' f h e = by_open t _ s' _ e (λ n d. by_some _ s' _ d (go_in (control_text (WantFoldOpen items fold at)) WantOperand (InFold items fold at n) fs (token.Open n) f h tt refl (behind_items items (token.Fold fold at ∷ []) (token.Open n))))

pub keeps_wsum_open : (items : List Item) (at : ℕ) → Keeps (WantWsumOpen items at)
keeps_wsum_open items at fs t s' f h e = by_open t _ s' _ e (λ n d. by_some _ s' _ d (go_in (control_text (WantWsumOpen items at)) WantOperand (InWsum items at n) fs (token.Open n) f h tt refl (behind_items items (token.Wsum at ∷ []) (token.Open n))))

pub keeps_weights_open : (items : List Item) (at open' : ℕ) (arg : Expr) → Keeps (WantWeightsOpen items at open' arg)
keeps_weights_open items at open' arg fs t s' f h e = by_plain plain.LeftSquare t _ s' _ e (go_on (control_text (WantWeightsOpen items at open' arg)) (WantWeight items at open' arg []) fs (token.Plain plain.LeftSquare) f h
    (behind_items items (token.Wsum at ∷ token.Open open' ∷ (spell arg ++ token.Plain plain.Comma ∷ [])) (token.Plain plain.LeftSquare)
    ∙ ap (in_items items) (cast_kind (spell arg) (token.Wsum at) (token.Open open') (token.Plain plain.Comma) (token.Plain plain.LeftSquare))))

in_weights : (x : List Token) (a b c d : Token) (more : List Token) (t : Token) → (a ∷ b ∷ (x ++ c ∷ d ∷ more)) ++ t ∷ [] ≡ a ∷ b ∷ (x ++ c ∷ d ∷ (more ++ t ∷ []))
in_weights x a b c d more t = simp append_assoc

behind_weights : (items : List Item) (at open' : ℕ) (arg : Expr) (more : List Token) (t : Token)
    → in_items items (token.Wsum at ∷ token.Open open' ∷ (spell arg ++ token.Plain plain.Comma ∷ token.Plain plain.LeftSquare ∷ more)) ++ t ∷ [] ≡ in_items items (token.Wsum at ∷ token.Open open' ∷ (spell arg ++ token.Plain plain.Comma ∷ token.Plain plain.LeftSquare ∷ (more ++ t ∷ [])))
behind_weights items at open' arg more t =
    behind_items items (token.Wsum at ∷ token.Open open' ∷ (spell arg ++ token.Plain plain.Comma ∷ token.Plain plain.LeftSquare ∷ more)) t
    ∙ ap (in_items items) (in_weights (spell arg) (token.Wsum at) (token.Open open') (token.Plain plain.Comma) (token.Plain plain.LeftSquare) more t)

-- the same behind the same, as its weights are written
weighted : (items : List Item) (at open' : ℕ) (arg : Expr) (x y : List Token) → x ≡ y
    → in_items items (token.Wsum at ∷ token.Open open' ∷ (spell arg ++ token.Plain plain.Comma ∷ token.Plain plain.LeftSquare ∷ x)) ≡ in_items items (token.Wsum at ∷ token.Open open' ∷ (spell arg ++ token.Plain plain.Comma ∷ token.Plain plain.LeftSquare ∷ y))
weighted items at open' arg x y e = rw e refl

pub keeps_weight : (items : List Item) (at open' : ℕ) (arg : Expr) (weights : List Num) → Keeps (WantWeight items at open' arg weights)
keeps_weight items at open' arg weights fs t s' f h e = by_number t _ s' _ e (λ n d. by_some _ s' _ d (go_on (control_text (WantWeight items at open' arg weights)) (HaveWeight items at open' arg (weights ++ n ∷ [])) fs (token.Number n) f (h.0, h.1, h.2, wsum-is at open' arg weights n h.2)
    (behind_weights items at open' arg (numbers_before weights) (token.Number n) ∙ weighted items at open' arg _ _ (numbers-push weights n))))

pub keeps_have_weight : (items : List Item) (at open' : ℕ) (arg : Expr) (weights : List Num) → Keeps (HaveWeight items at open' arg weights)
keeps_have_weight items at open' arg weights fs t s' f h e =
    by_if plain.Comma t _ _ s' _ e (λ d. by_some _ s' _ d (go_on (control_text (HaveWeight items at open' arg weights)) (WantWeight items at open' arg weights) fs (token.Plain plain.Comma) f (h.0, h.1, h.2)
    (behind_weights items at open' arg (spell_numbers weights) (token.Plain plain.Comma) ∙ weighted items at open' arg _ _ (numbers-comma at open' arg weights h.3))))
    (λ d. by_plain plain.RightSquare t _ s' _ d (go_on (control_text (HaveWeight items at open' arg weights)) (WantWsumClose items at open' arg weights) fs (token.Plain plain.RightSquare) f h
    (behind_weights items at open' arg (spell_numbers weights) (token.Plain plain.RightSquare))))

pub keeps_wsum_close : (items : List Item) (at open' : ℕ) (arg : Expr) (weights : List Num) → Keeps (WantWsumClose items at open' arg weights)
keeps_wsum_close items at open' arg weights fs t s' f h e = by_plain plain.Close t _ s' _ e (go_on (control_text (WantWsumClose items at open' arg weights)) (HaveAgg items (Wsum at open' arg weights)) fs (token.Plain plain.Close) f (h.0, h.1, h.3)
    (behind_weights items at open' arg (spell_numbers weights ++ token.Plain plain.RightSquare ∷ []) (token.Plain plain.Close) ∙ weighted items at open' arg _ _ (append_assoc (spell_numbers weights) (token.Plain plain.RightSquare ∷ []) (token.Plain plain.Close ∷ []))))

named : (u : Unnamed) (n : Name) → (unnamed_text u ++ token.Plain plain.As ∷ []) ++ token.Name n ∷ [] ≡ spell_item (under_name u n)
named (UnnamedExpr e) n = append_assoc (spell e) (token.Plain plain.As ∷ []) (token.Name n ∷ [])
named (UnnamedAgg a) n = append_assoc (spell_agg a) (token.Plain plain.As ∷ []) (token.Name n ∷ [])
named (UnnamedOver o) n = append_assoc (spell_over o) (token.Plain plain.As ∷ []) (token.Name n ∷ [])

named-is : (u : Unnamed) (n : Name) → IsUnnamed u → IsItem (under_name u n)
named-is (UnnamedExpr e) n h = h
named-is (UnnamedAgg a) n h = h
named-is (UnnamedOver o) n h = h

pub keeps_item_name : (items : List Item) (u : Unnamed) → Keeps (WantItemName items u)
keeps_item_name items u fs t s' f h e = by_name t _ s' _ e (λ n d. by_some _ s' _ d (go_on (control_text (WantItemName items u)) (HaveItem (items ++ under_name u n ∷ [])) fs (token.Name n) f (h.0, are-push items (under_name u n) h.1 (named-is u n h.2))
    (behind_items items (unnamed_text u ++ token.Plain plain.As ∷ []) (token.Name n)
    ∙ ap (in_items items) (named u n)
    ∙ ap (λ (x : List Token). token.Plain plain.Select ∷ x) (items-push items (under_name u n)))))

pub keeps_have_item : (items : List Item) → Keeps (HaveItem items)
keeps_have_item items fs t s' f h e =
    by_if plain.Comma t _ _ s' _ e (λ d. by_some _ s' _ d (go_on (control_text (HaveItem items)) (WantItem items) fs (token.Plain plain.Comma) f (h.0, are-items items h.1) (ap (λ (x : List Token). token.Plain plain.Select ∷ x) (items-comma items h.1))))
    (λ d. by_plain plain.From t _ s' _ d (go_on (control_text (HaveItem items)) (WantSource (SelectHead (Items items))) fs (token.Plain plain.From) f h refl))

pub keeps_from : (at : ℕ) → Keeps (WantFrom at)
keeps_from at fs t s' f h e = by_plain plain.From t _ s' _ e (go_on (control_text (WantFrom at)) (WantSource (SelectHead (All at))) fs (token.Plain plain.From) f (h, tt) refl)

-- ---- behind an expression

-- an expression with the operators before it applied
pub record Reduces (p : ℕ) (fs : List Frame) (e : Expr) (fs' : List Frame) (e' : Expr) : Type 0 where
  pub machine : reduced p fs e ≡ pair fs' e'
  pub text : before fs ++ spell e ≡ before fs' ++ spell e'
  pub expr : IsExpr e'
  pub level : level e' ≤ p
  pub within : InExpr fs'
  pub fits : Fits fs'

-- applied to its left side or to NOT, an expression is read the same
in_binary : (b l : List Token) (t : Token) (e : List Token) → (b ++ (l ++ t ∷ [])) ++ e ≡ b ++ (l ++ t ∷ e)
in_binary b l t e = simp append_assoc

in_not : (b : List Token) (t : Token) (e : List Token) → (b ++ t ∷ []) ++ e ≡ b ++ t ∷ e
in_not b t e = simp append_assoc

pub reduces : (p : ℕ) (fs : List Frame) (e : Expr) → Fits fs → InExpr fs → IsExpr e → level e ≤ p → level e < room fs → (fs' : List Frame) × (e' : Expr) × Reduces p fs e fs' e'
unfolding reduced
reduces p (LeftOf l o at ∷ fs) e f i g le lt = tests (λ tight. reduces p fs (Binary o at l e) f.1 f.0.0 (f.0.2, lt, f.0.1, g) tight f.0.3) (leb (looseness o) p) refl
  where
    tests : (looseness o ≤ p → (fs' : List Frame) × (e' : Expr) × Reduces p fs (Binary o at l e) fs' e') → (b : Bool) → leb (looseness o) p ≡ b → (fs' : List Frame) × (e' : Expr) × Reduces p (LeftOf l o at ∷ fs) e fs' e'
    tests next false h = (LeftOf l o at ∷ fs, e, record { machine = rw h refl; text = refl; expr = g; level = le; within = tt; fits = f })
    tests next true h =
        let r = next (leb-true _ _ h) in
        (r.0, r.1, record { machine = rw h r.2.machine; text = in_binary (before fs) (spell l) (token.Operator o at) (spell e) ∙ r.2.text; expr = r.2.expr; level = r.2.level; within = r.2.within; fits = r.2.fits })
reduces p (FlipOf at ∷ fs) e f i g le lt = tests (λ tight. reduces p fs (Flip at e) f.1 f.0.0 (lt, g) tight f.0.1) (leb 1 p) refl
  where
    tests : (1 ≤ p → (fs' : List Frame) × (e' : Expr) × Reduces p fs (Flip at e) fs' e') → (b : Bool) → leb 1 p ≡ b → (fs' : List Frame) × (e' : Expr) × Reduces p (FlipOf at ∷ fs) e fs' e'
    tests next false h = (FlipOf at ∷ fs, e, record { machine = rw h refl; text = refl; expr = g; level = le; within = tt; fits = f })
    tests next true h =
        let r = next (leb-true _ _ h) in
        (r.0, r.1, record { machine = rw h r.2.machine; text = in_not (before fs) (token.Tilde at) (spell e) ∙ r.2.text; expr = r.2.expr; level = r.2.level; within = r.2.within; fits = r.2.fits })
reduces p (NotOf at ∷ fs) e f i g le lt = tests (λ tight. reduces p fs (Not at e) f.1 f.0.0 (lt, g) tight f.0.1) (leb 9 p) refl
  where
    tests : (9 ≤ p → (fs' : List Frame) × (e' : Expr) × Reduces p fs (Not at e) fs' e') → (b : Bool) → leb 9 p ≡ b → (fs' : List Frame) × (e' : Expr) × Reduces p (NotOf at ∷ fs) e fs' e'
    tests next false h = (NotOf at ∷ fs, e, record { machine = rw h refl; text = refl; expr = g; level = le; within = tt; fits = f })
    tests next true h =
        let r = next (leb-true _ _ h) in
        (r.0, r.1, record { machine = rw h r.2.machine; text = in_not (before fs) (token.Not at) (spell e) ∙ r.2.text; expr = r.2.expr; level = r.2.level; within = r.2.within; fits = r.2.fits })
reduces p (BracketOf at ∷ fs) e f i g le lt = (BracketOf at ∷ fs, e, record { machine = refl; text = refl; expr = g; level = le; within = tt; fits = f })
reduces p (InCast at open' ∷ fs) e f i g le lt = (InCast at open' ∷ fs, e, record { machine = refl; text = refl; expr = g; level = le; within = tt; fits = f })
reduces p (InItem items ∷ fs) e f i g le lt = (InItem items ∷ fs, e, record { machine = refl; text = refl; expr = g; level = le; within = tt; fits = f })
reduces p (InFold items fold at open' ∷ fs) e f i g le lt = (InFold items fold at open' ∷ fs, e, record { machine = refl; text = refl; expr = g; level = le; within = tt; fits = f })
reduces p (InWsum items at open' ∷ fs) e f i g le lt = (InWsum items at open' ∷ fs, e, record { machine = refl; text = refl; expr = g; level = le; within = tt; fits = f })
reduces p (InCall items c w open' ∷ fs) e f i g le lt = (InCall items c w open' ∷ fs, e, record { machine = refl; text = refl; expr = g; level = le; within = tt; fits = f })
reduces p (InCondition items a w open' ∷ fs) e f i g le lt = (InCondition items a w open' ∷ fs, e, record { machine = refl; text = refl; expr = g; level = le; within = tt; fits = f })
reduces p (InFilter pick source window ∷ fs) e f i g le lt = (InFilter pick source window ∷ fs, e, record { machine = refl; text = refl; expr = g; level = le; within = tt; fits = f })
reduces p fs e f i g le lt = absurd i

bare-is : (e : Expr) (n : Name) → bare e ≡ Some n → e ≡ Column n
bare-is (Column m) n e = ap Column (some_name m n e)
  where
    some_name : (a b : Name) → Some a ≡ Some b → a ≡ b
    some_name a b h = cc
bare-is x n e = absurd cc

-- the state behind a token is what was read so far and the token
abbrev pub Goes : List Token → Token → Option State → Type 0
Goes done t o = (s' : State) → o ≡ Some s' → Read s' (done ++ t ∷ [])

frame_end : (b x y z : List Token) → x ++ y ≡ z → b ++ z ≡ (b ++ x) ++ y
frame_end b x y z e = ap (λ (w : List Token). b ++ w) (sym e) ∙ sym (append_assoc b x y)

keeps_bare : (items : List Item) (fs : List Frame) (e : Expr) (t : Token) (s' : State) (n : Name) → Fits (InItem items ∷ fs) → IsExpr e → bare e ≡ Some n → have_item fs (items ++ Bare n ∷ []) t ≡ Some s' → Read s' ((before (InItem items ∷ fs) ++ spell e) ++ t ∷ [])
keeps_bare items fs e t s' n f g b d =
    subst (λ (x : List Token). Read s' (x ++ t ∷ []))
    (rw (bare-is e n b) (ap (λ (x : List Token). before fs ++ token.Plain plain.Select ∷ x) (sym (items-push items (Bare n))) ∙ sym (append_assoc (before fs) (token.Plain plain.Select ∷ items_before items) (token.Name n ∷ []))))
    (keeps_have_item (items ++ Bare n ∷ []) fs t s' f.1 (f.0.0, are-push items (Bare n) f.0.1 tt) d)

bracket_behind : (b i : List Token) (s u o : Token) → (b ++ (s ∷ (i ++ u ∷ o ∷ []))) ++ [] ≡ ((b ++ (s ∷ i)) ++ u ∷ []) ++ o ∷ []
bracket_behind b i s u o = append-nil (b ++ (s ∷ (i ++ u ∷ o ∷ []))) ∙ grouped b i s u o
  where
    grouped : (b i : List Token) (s u o : Token) → b ++ (s ∷ (i ++ u ∷ o ∷ [])) ≡ ((b ++ (s ∷ i)) ++ u ∷ []) ++ o ∷ []
    grouped b i s u o = simp append_assoc

-- a name that was a column alone is that of a function
keeps_call : (items : List Item) (fs : List Frame) (e : Expr) (n : ℕ) (s' : State) (name : Name) → Fits (InItem items ∷ fs) → bare e ≡ Some name → begin_call fs items name n ≡ Some s' → Read s' ((before (InItem items ∷ fs) ++ spell e) ++ token.Open n ∷ [])
keeps_call items fs e n s' name f b d =
    let c = then_some _ (named_call name) s' d in
    by_some _ s' _ c.2 (record {
      text = bracket_behind (before fs) (items_before items) (token.Plain plain.Select) (spell_word (call_word c.0) (Small name.at)) (token.Open n)
          ∙ ap (λ (u : Token). ((before fs ++ (token.Plain plain.Select ∷ items_before items)) ++ u ∷ []) ++ token.Open n ∷ []) (named_is name c.0 c.1)
          ∙ ap (λ (x : Expr). ((before fs ++ (token.Plain plain.Select ∷ items_before items)) ++ spell x) ++ token.Open n ∷ []) (sym (bare-is e name b));
      fits = ((f.0.0, f.0.1), f.1);
      holds = tt;
    })

after_in_item : (items : List Item) (fs : List Frame) (e : Expr) (t : Token) (s' : State) → Fits (InItem items ∷ fs) → IsExpr e → after_item fs items e t ≡ Some s' → Read s' ((before (InItem items ∷ fs) ++ spell e) ++ t ∷ [])
after_in_item items fs e t s' f g d =
    by_if plain.As t _ _ s' _ d
    (λ d1. by_some _ s' _ d1 (record { text = text (before fs) (items_before items) (spell e) (token.Plain plain.Select) (token.Plain plain.As); fits = f.1; holds = (f.0.0, f.0.1, g) }))
    (λ d1. let h = then_some _ (bare e) s' d1 in
    by_open_or t (λ o. bare_or_call o fs items h.0 t) s' _ h.2 (λ n d2. keeps_call items fs e n s' h.0 f h.1 d2) (λ d2. keeps_bare items fs e t s' h.0 f g h.1 d2))
  where
    text : (b i x : List Token) (s a : Token) → b ++ (s ∷ (i ++ (x ++ a ∷ []))) ≡ ((b ++ (s ∷ i)) ++ x) ++ a ∷ []
    text b i x s a = simp append_assoc

filter_grouped : (b p q w x : List Token) → b ++ (token.Plain plain.Select ∷ (p ++ token.Plain plain.From ∷ (q ++ (w ++ token.Plain plain.Where ∷ x)))) ≡ (b ++ (token.Plain plain.Select ∷ (p ++ token.Plain plain.From ∷ (q ++ (w ++ token.Plain plain.Where ∷ []))))) ++ x
filter_grouped b p q w x = simp append_assoc

pub keeps_after : (fs : List Frame) (e : Expr) (t : Token) (s' : State) → Fits fs → IsExpr e → after_expr fs e t ≡ Some s' → Read s' ((before fs ++ spell e) ++ t ∷ [])
keeps_after (BracketOf at ∷ fs) e t s' f g d = by_plain plain.Close t _ s' _ d (record { text = text (before fs) (spell e) (token.Open at) (token.Plain plain.Close); fits = f.1; holds = (f.0, g, refl) })
  where
    text : (b x : List Token) (o c : Token) → b ++ (o ∷ (x ++ c ∷ [])) ≡ ((b ++ o ∷ []) ++ x) ++ c ∷ []
    text b x o c = simp append_assoc
keeps_after (InCast at open' ∷ fs) e t s' f g d = by_plain plain.As t _ s' _ d (record { text = text (before fs) (spell e) (token.Cast at) (token.Open open') (token.Plain plain.As); fits = f.1; holds = (f.0, g) })
  where
    text : (b x : List Token) (k o c : Token) → b ++ (k ∷ o ∷ (x ++ c ∷ [])) ≡ ((b ++ k ∷ o ∷ []) ++ x) ++ c ∷ []
    text b x k o c = simp append_assoc
keeps_after (InItem items ∷ fs) e t s' f g d = after_in_item items fs e t s' f g d
keeps_after (InFold items fold at open' ∷ fs) e t s' f g d = by_plain plain.Close t _ s' _ d (record { text = text (before fs) (items_before items) (spell e) (token.Plain plain.Select) (token.Fold fold at) (token.Open open') (token.Plain plain.Close); fits = f.1; holds = (f.0.0, f.0.1, g) })
  where
    text : (b i x : List Token) (s k o c : Token) → b ++ (s ∷ (i ++ k ∷ o ∷ (x ++ c ∷ []))) ≡ ((b ++ (s ∷ (i ++ k ∷ o ∷ []))) ++ x) ++ c ∷ []
    text b i x s k o c = simp append_assoc
keeps_after (InWsum items at open' ∷ fs) e t s' f g d = by_plain plain.Comma t _ s' _ d (record { text = text (before fs) (items_before items) (spell e) (token.Plain plain.Select) (token.Wsum at) (token.Open open') (token.Plain plain.Comma); fits = f.1; holds = (f.0.0, f.0.1, g) })
  where
    text : (b i x : List Token) (s k o c : Token) → b ++ (s ∷ (i ++ k ∷ o ∷ (x ++ c ∷ []))) ≡ ((b ++ (s ∷ (i ++ k ∷ o ∷ []))) ++ x) ++ c ∷ []
    text b i x s k o c = simp append_assoc
keeps_after (InCall items call.LastValue w open' ∷ fs) e t s' f g d = by_plain plain.Close t _ s' _ d (record { text = text (before fs) (items_before items) (spell e) (token.Plain plain.Select) (spell_word word.LastValue w) (token.Open open') (token.Plain plain.Close); fits = f.1; holds = (f.0.0, f.0.1, (g, tt)) })
  where
    grouped : (b i x : List Token) (s k o c : Token) → b ++ (s ∷ (i ++ k ∷ o ∷ (x ++ c ∷ []))) ≡ ((b ++ (s ∷ (i ++ k ∷ o ∷ []))) ++ x) ++ c ∷ []
    grouped b i x s k o c = simp append_assoc

    text : (b i x : List Token) (s k o c : Token) → b ++ (s ∷ (i ++ ((k ∷ o ∷ (x ++ c ∷ [])) ++ []))) ≡ ((b ++ (s ∷ (i ++ k ∷ o ∷ []))) ++ x) ++ c ∷ []
    text b i x s k o c = ap (λ (y : List Token). b ++ (s ∷ (i ++ y))) (append-nil (k ∷ o ∷ (x ++ c ∷ []))) ∙ grouped b i x s k o c
keeps_after (InCall items call.Lag w open' ∷ fs) e t s' f g d =
    by_if plain.Comma t _ _ s' _ d
    (λ d1. by_some _ s' _ d1 (record { text = text (before fs) (items_before items) (spell e) (token.Plain plain.Select) (spell_word word.Lag w) (token.Open open') (token.Plain plain.Comma); fits = f.1; holds = (f.0.0, f.0.1, g) }))
    (λ d1. by_plain plain.Close t _ s' _ d1 (record { text = text (before fs) (items_before items) (spell e) (token.Plain plain.Select) (spell_word word.Lag w) (token.Open open') (token.Plain plain.Close); fits = f.1; holds = (f.0.0, f.0.1, g) }))
  where
    text : (b i x : List Token) (s k o c : Token) → b ++ (s ∷ (i ++ k ∷ o ∷ (x ++ c ∷ []))) ≡ ((b ++ (s ∷ (i ++ k ∷ o ∷ []))) ++ x) ++ c ∷ []
    text b i x s k o c = simp append_assoc
keeps_after (InCondition items a w open' ∷ fs) e t s' f g d = by_plain plain.Close t _ s' _ d (record { text = text (before fs) (items_before items) (spell_over_agg a) (spell e) (token.Plain plain.Select) (spell_word word.Filter w) (token.Open open') (token.Plain plain.Where) (token.Plain plain.Close); fits = f.1; holds = (f.0.0, f.0.1, (f.0.2, g)) })
  where
    text : (b i y x : List Token) (s k o v c : Token) → b ++ (s ∷ (i ++ (y ++ k ∷ o ∷ v ∷ (x ++ c ∷ [])))) ≡ ((b ++ (s ∷ (i ++ (y ++ k ∷ o ∷ v ∷ [])))) ++ x) ++ c ∷ []
    text b i y x s k o v c = simp append_assoc
keeps_after (InFilter pick source window ∷ fs) e t s' f g d =
    by_if plain.Group t _ _ s' _ d
    (λ d1. by_some _ s' _ d1 (record { text = text (before fs) (spell_pick pick) (spell_query source) (spell_if_window window) (spell e) (token.Plain plain.Group); fits = f.1; holds = (f.0.0, (f.0.1, f.0.2, g)) }))
    (λ d1. subst (λ (x : List Token). Read s' (x ++ t ∷ [])) (alone (before fs) (spell_pick pick) (spell_query source) (spell_if_window window) (spell e)) (keeps_term fs (Select pick source window (Some e) None) t s' f.1 f.0.0 (f.0.1, f.0.2, g) d1))
  where
    text : (b p q w x : List Token) (n : Token) → b ++ (token.Plain plain.Select ∷ (p ++ token.Plain plain.From ∷ (q ++ (w ++ ((token.Plain plain.Where ∷ x) ++ n ∷ []))))) ≡ ((b ++ (token.Plain plain.Select ∷ (p ++ token.Plain plain.From ∷ (q ++ (w ++ token.Plain plain.Where ∷ []))))) ++ x) ++ n ∷ []
    text b p q w x n = simp append_assoc

    alone : (b p q w x : List Token) → b ++ (token.Plain plain.Select ∷ (p ++ token.Plain plain.From ∷ (q ++ (w ++ ((token.Plain plain.Where ∷ x) ++ []))))) ≡ (b ++ (token.Plain plain.Select ∷ (p ++ token.Plain plain.From ∷ (q ++ (w ++ token.Plain plain.Where ∷ []))))) ++ x
    alone b p q w x = ap (λ (y : List Token). b ++ (token.Plain plain.Select ∷ (p ++ token.Plain plain.From ∷ (q ++ (w ++ token.Plain plain.Where ∷ y))))) (append-nil x) ∙ filter_grouped b p q w x
keeps_after [] e t s' f g d = absurd cc
keeps_after (f ∷ fs) e t s' fits g d = absurd cc

keeps_operator : (p : ℕ) (o : Op) (at : ℕ) (fs : List Frame) (e : Expr) (s' : State) (fs' : List Frame) (e' : Expr) → p ≡ left_looseness o → Reduces p fs e fs' e' → cond (ltb (looseness o) (room fs')) (goes WantOperand (LeftOf e' o at ∷ fs')) None ≡ Some s' → Read s' ((before fs ++ spell e) ++ token.Operator o at ∷ [])
keeps_operator p o at fs e s' fs' e' same r d =
    let g = if_some (ltb (looseness o) (room fs')) _ s' d in
    by_some _ s' _ g.1 (record {
      text = append-nil (before fs' ++ (spell e' ++ token.Operator o at ∷ [])) ∙ sym (append_assoc (before fs') (spell e') (token.Operator o at ∷ [])) ∙ ap (λ (x : List Token). x ++ token.Operator o at ∷ []) (sym r.text);
      fits = ((r.within, r.expr, omega (arith, r.level, same), ltb-true _ _ g.0), r.fits);
      holds = tt;
    })

-- an operand is followed by an operator, or by what ends its expression
operand_lt : (e : Expr) (fs : List Frame) → level e ≡ 0 → InExpr fs → level e < room fs
operand_lt e fs z i = omega (arith, z, room-pos fs i)

keeps_ended : (fs : List Frame) (e : Expr) (t : Token) (s' : State) → Fits fs → InExpr fs → IsExpr e → level e ≡ 0 → (let r = reduced 11 fs e in after_expr r.0 r.1 t) ≡ Some s' → Read s' ((before fs ++ spell e) ++ t ∷ [])
keeps_ended fs e t s' f i g z d =
    let r = reduces 11 fs e f i g (omega (arith, z)) (operand_lt e fs z i) in
    subst (λ (x : List Token). Read s' (x ++ t ∷ [])) (sym r.2.text) (keeps_after r.0 r.1 t s' r.2.fits r.2.expr (ap (λ (x : Reduced). after_expr x.0 x.1 t) (sym r.2.machine) ∙ d))

pub keeps_expr : (e : Expr) → Keeps (HaveExpr e)
keeps_expr e fs (token.Operator o at) s' f h d =
    let r = reduces (left_looseness o) fs e f h.0 h.1 (omega (arith, h.2)) (operand_lt e fs h.2 h.0) in
    keeps_operator (left_looseness o) o at fs e s' r.0 r.1 refl r.2 (ap (λ (x : Reduced). cond (ltb (looseness o) (room x.0)) (goes WantOperand (LeftOf x.1 o at ∷ x.0)) None) (sym r.2.machine) ∙ d)
keeps_expr e fs t s' f h d = keeps_ended fs e t s' f h.0 h.1 h.2 d
