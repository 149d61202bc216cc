-- What was read of an expression begins a statement.
use Rattle.std.proofs.Common.{◌≡◌, ℕ, false, List, [], ◌∷◌, Option, Some, None, refl, ap, ◌∙◌, arith}
use Rattle.gl_values.specs.declared.kind.Kind.TheVariants.{Unsigned}
use Rattle.gl_schema.specs.SchemaText.{kind_text}
use Rattle.gl_schema.specs.SchemaFaults.{kind_named}
use Rattle.gl_schema.specs.Written.{is_written, kinds}
use Rattle.gl_schema.proofs.KindTable.{kind_is_named}
use Rattle.gl_query.specs.declared.tree.Name.{Name}
use Rattle.gl_query_tokens.specs.declared.token.Fold.{Fold}
use Rattle.gl_query_tokens.specs.declared.token.Plain.TheVariants as plain
use Rattle.gl_query_tokens.specs.declared.token.Spelling.{Spelling}
use Rattle.gl_query_tokens.specs.declared.token.Token.{Token}
use Rattle.gl_query_tokens.specs.declared.token.Token.TheVariants as token
use Rattle.gl_query_tokens.specs.Sorts.{plain_eq, is_plain}
use Rattle.gl_query_reader.specs.declared.over_state.Call.TheVariants as call
use Rattle.gl_query_reader.specs.declared.written.Window.{Window}
use Rattle.gl_query_reader.specs.Written.{Expr, Column, Brackets, Cast, Flip, Not, Binary, Fold', OverAgg, LastOf, FilterOf, LagOf, Ranged, Item, Pick, Query, Select}
use Rattle.gl_query_reader.specs.States.{State, Frame, UnnamedExpr, LeftOf, FlipOf, NotOf, BracketOf, InCast, InItem, InFold, InWsum, InCall, InCondition, InFilter, WantKind, WantWeightsOpen, HaveAgg, WantOver, WantItemName}
use Rattle.gl_query_reader.specs.Machine.{Reduced, reduced, have_term, after_expr, is_operator, step}
use Rattle.gl_query_reader.proofs.Steps.{steps, state}
use Rattle.gl_query_reader.proofs.ReadExpressions.{wanting, having, reduced-flip, reduced-not, reduced-binary, looseness-le}
use Rattle.gl_query_reader.proofs.Said.{InExpr, Fits}
use Rattle.gl_query_reader.proofs.Begins.{some_name, Ends, by_token, by_tokens, term_ends, item_name_ends, as_ends, weights_open_ends}
use Rattle.gl_query_reader.proofs.BeginsFrames.{over_ends}

-- the word of a kind
abbrev pub some_word : Name
some_word = record { text = kind_text (Unsigned 1); at = 0 }

word_is_kind : kind_named some_word.text ≡ Some (Unsigned 1)
unfolding is_written kinds
word_is_kind = kind_is_named (Unsigned 1) refl

pub record ExprEnds (fs : List Frame) (e : Expr) : Type 0 where
  pub next : Token
  pub operator : is_operator next ≡ false
  pub there : State
  pub goes : (let r = reduced 11 fs e in after_expr r.0 r.1 next) ≡ Some there
  pub ends : Ends there

expr_step : (fs : List Frame) (e : Expr) (t : Token) → is_operator t ≡ false → step (having e fs) t ≡ (let r = reduced 11 fs e in after_expr r.0 r.1 t)
unfolding step
expr_step fs e t o = rw o refl

expr_then : (fs : List Frame) (e : Expr) → ExprEnds fs e → Ends (having e fs)
expr_then fs e x = by_token (having e fs) x.there x.next (expr_step fs e x.next x.operator ∙ x.goes) x.ends

kind_steps : (fs : List Frame) (at open' : ℕ) (e : Expr) → steps (state (WantKind at open' e) fs) (token.Name some_word ∷ token.Plain plain.Close ∷ []) ≡ Some (having (Cast at open' e some_word (Unsigned 1)) fs)
unfolding steps step plain_eq
kind_steps fs at open' e = rw word_is_kind refl

pub kind_then : (fs : List Frame) (at open' : ℕ) (e : Expr) → ExprEnds fs (Cast at open' e some_word (Unsigned 1)) → Ends (state (WantKind at open' e) fs)
kind_then fs at open' e x = by_tokens _ (having (Cast at open' e some_word (Unsigned 1)) fs) (token.Name some_word ∷ token.Plain plain.Close ∷ []) (kind_steps fs at open' e) (expr_then fs (Cast at open' e some_word (Unsigned 1)) x)

-- the token that ends an expression where nothing binds it
brackets_go : (at : ℕ) (fs : List Frame) (e : Expr) → (let r = reduced 11 (BracketOf at ∷ fs) e in after_expr r.0 r.1 (token.Plain plain.Close)) ≡ Some (having (Brackets at e) fs)
unfolding reduced plain_eq
brackets_go at fs e = refl

cast_goes : (at open' : ℕ) (fs : List Frame) (e : Expr) → (let r = reduced 11 (InCast at open' ∷ fs) e in after_expr r.0 r.1 (token.Plain plain.As)) ≡ Some (state (WantKind at open' e) fs)
unfolding reduced plain_eq
cast_goes at open' fs e = refl

item_goes : (items : List Item) (fs : List Frame) (e : Expr) → (let r = reduced 11 (InItem items ∷ fs) e in after_expr r.0 r.1 (token.Plain plain.As)) ≡ Some (state (WantItemName items (UnnamedExpr e)) fs)
unfolding reduced plain_eq
item_goes items fs e = refl

fold_goes : (items : List Item) (fold : Fold) (at open' : ℕ) (fs : List Frame) (e : Expr) → (let r = reduced 11 (InFold items fold at open' ∷ fs) e in after_expr r.0 r.1 (token.Plain plain.Close)) ≡ Some (state (HaveAgg items (Fold' fold at open' e)) fs)
unfolding reduced plain_eq
fold_goes items fold at open' fs e = refl

wsum_goes : (items : List Item) (at open' : ℕ) (fs : List Frame) (e : Expr) → (let r = reduced 11 (InWsum items at open' ∷ fs) e in after_expr r.0 r.1 (token.Plain plain.Comma)) ≡ Some (state (WantWeightsOpen items at open' e) fs)
unfolding reduced plain_eq
wsum_goes items at open' fs e = refl

last_value_goes : (items : List Item) (w : Spelling) (open' : ℕ) (fs : List Frame) (e : Expr) → (let r = reduced 11 (InCall items call.LastValue w open' ∷ fs) e in after_expr r.0 r.1 (token.Plain plain.Close)) ≡ Some (state (WantOver items (Ranged (LastOf w open' e) None)) fs)
unfolding reduced plain_eq
last_value_goes items w open' fs e = refl

lag_goes : (items : List Item) (w : Spelling) (open' : ℕ) (fs : List Frame) (e : Expr) → (let r = reduced 11 (InCall items call.Lag w open' ∷ fs) e in after_expr r.0 r.1 (token.Plain plain.Close)) ≡ Some (state (WantOver items (LagOf w open' e None)) fs)
unfolding reduced plain_eq
lag_goes items w open' fs e = refl

condition_goes : (items : List Item) (a : OverAgg) (w : Spelling) (open' : ℕ) (fs : List Frame) (e : Expr) → (let r = reduced 11 (InCondition items a w open' ∷ fs) e in after_expr r.0 r.1 (token.Plain plain.Close)) ≡ Some (state (WantOver items (Ranged a (Some (FilterOf w open' e)))) fs)
unfolding reduced plain_eq
condition_goes items a w open' fs e = refl

filter_goes : (pick : Pick) (source : Query) (window : Option Window) (fs : List Frame) (e : Expr) (t : Token) → is_plain plain.Group t ≡ false → (let r = reduced 11 (InFilter pick source window ∷ fs) e in after_expr r.0 r.1 t) ≡ have_term fs (Select pick source window (Some e) None) t
unfolding reduced
filter_goes pick source window fs e t g = rw g refl

-- what waits for an expression ends
pub expr_ends : (fs : List Frame) (e : Expr) → Fits fs → InExpr fs → ExprEnds fs e
expr_ends (LeftOf l o at ∷ fs) e f i =
    let x = expr_ends fs (Binary o at l e) f.1 f.0.0 in
    record { next = x.next; operator = x.operator; there = x.there; goes = ap (λ (r : Reduced). after_expr r.0 r.1 x.next) (reduced-binary 11 o at l fs e (looseness-le o)) ∙ x.goes; ends = x.ends }
expr_ends (FlipOf at ∷ fs) e f i =
    let x = expr_ends fs (Flip at e) f.1 f.0.0 in
    record { next = x.next; operator = x.operator; there = x.there; goes = ap (λ (r : Reduced). after_expr r.0 r.1 x.next) (reduced-flip 11 at fs e (omega arith)) ∙ x.goes; ends = x.ends }
expr_ends (NotOf at ∷ fs) e f i =
    let x = expr_ends fs (Not at e) f.1 f.0.0 in
    record { next = x.next; operator = x.operator; there = x.there; goes = ap (λ (r : Reduced). after_expr r.0 r.1 x.next) (reduced-not 11 at fs e (omega arith)) ∙ x.goes; ends = x.ends }
expr_ends (BracketOf at ∷ fs) e f i = record { next = token.Plain plain.Close; operator = refl; there = having (Brackets at e) fs; goes = brackets_go at fs e; ends = expr_then fs (Brackets at e) (expr_ends fs (Brackets at e) f.1 f.0) }
expr_ends (InCast at open' ∷ fs) e f i = record { next = token.Plain plain.As; operator = refl; there = state (WantKind at open' e) fs; goes = cast_goes at open' fs e; ends = kind_then fs at open' e (expr_ends fs (Cast at open' e some_word (Unsigned 1)) f.1 f.0) }
expr_ends (InItem items ∷ fs) e f i = record { next = token.Plain plain.As; operator = refl; there = state (WantItemName items (UnnamedExpr e)) fs; goes = item_goes items fs e; ends = item_name_ends fs items (UnnamedExpr e) f.1 f.0.0 }
expr_ends (InFold items fold at open' ∷ fs) e f i = record { next = token.Plain plain.Close; operator = refl; there = state (HaveAgg items (Fold' fold at open' e)) fs; goes = fold_goes items fold at open' fs e; ends = as_ends fs items (Fold' fold at open' e) f.1 f.0.0 }
expr_ends (InWsum items at open' ∷ fs) e f i = record { next = token.Plain plain.Comma; operator = refl; there = state (WantWeightsOpen items at open' e) fs; goes = wsum_goes items at open' fs e; ends = weights_open_ends fs items at open' e f.1 f.0.0 }
expr_ends (InCall items call.LastValue w open' ∷ fs) e f i = record { next = token.Plain plain.Close; operator = refl; there = state (WantOver items (Ranged (LastOf w open' e) None)) fs; goes = last_value_goes items w open' fs e; ends = over_ends fs items (Ranged (LastOf w open' e) None) f.1 f.0.0 }
expr_ends (InCall items call.Lag w open' ∷ fs) e f i = record { next = token.Plain plain.Close; operator = refl; there = state (WantOver items (LagOf w open' e None)) fs; goes = lag_goes items w open' fs e; ends = over_ends fs items (LagOf w open' e None) f.1 f.0.0 }
expr_ends (InCondition items a w open' ∷ fs) e f i = record { next = token.Plain plain.Close; operator = refl; there = state (WantOver items (Ranged a (Some (FilterOf w open' e)))) fs; goes = condition_goes items a w open' fs e; ends = over_ends fs items (Ranged a (Some (FilterOf w open' e))) f.1 f.0.0 }
expr_ends (InFilter pick source window ∷ fs) e f i =
    let x = term_ends fs (Select pick source window (Some e) None) f.1 f.0.0 in
    record { next = x.next; operator = x.follows.operator; there = x.there; goes = filter_goes pick source window fs e x.next x.follows.group ∙ x.goes; ends = x.ends }
expr_ends fs e f i = absurd i

pub have_expr_ends : (fs : List Frame) (e : Expr) → Fits fs → InExpr fs → Ends (having e fs)
have_expr_ends fs e f i = expr_then fs e (expr_ends fs e f i)

operand_step : (fs : List Frame) → step (wanting fs) (token.Name some_name) ≡ Some (having (Column some_name) fs)
unfolding step
operand_step fs = refl

pub operand_ends : (fs : List Frame) → Fits fs → InExpr fs → Ends (wanting fs)
operand_ends fs f i = by_token (wanting fs) (having (Column some_name) fs) (token.Name some_name) (operand_step fs) (have_expr_ends fs (Column some_name) f i)
