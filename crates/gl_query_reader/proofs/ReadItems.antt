-- The items of a select that are spelled are read again.
use Rattle.std.proofs.Common.{◌≡◌, ℕ, false, List, [], ◌∷◌, ◌++◌, Option, Some, None, refl, sym, ap, ◌∙◌, append_assoc, arith}
use Rattle.gl_query.specs.declared.tree.Name.{Name}
use Rattle.gl_query.specs.declared.tree.Num.{Num}
use Rattle.gl_query_tokens.specs.declared.token.Fold.{Fold}
use Rattle.gl_query_tokens.specs.declared.token.Plain.TheVariants as plain
use Rattle.gl_query_tokens.specs.declared.token.Spelling.{Spelling}
use Rattle.gl_query_tokens.specs.declared.token.Spelling.TheVariants.{Small, Capital}
use Rattle.gl_query_tokens.specs.declared.token.Word.{Word}
use Rattle.gl_query_tokens.specs.declared.token.Word.TheVariants as word
use Rattle.gl_query_tokens.specs.declared.token.Token.{Token}
use Rattle.gl_query_tokens.specs.declared.token.Token.TheVariants as token
use Rattle.gl_values.specs.declared.op.Op.TheVariants as op
use Rattle.gl_query_tokens.specs.Sorts.{plain_eq, is_plain, open_in, word_in}
use Rattle.gl_query_tokens.specs.Words.{word_text}
use Rattle.gl_query_reader.specs.declared.over_state.Call.{Call}
use Rattle.gl_query_reader.specs.declared.over_state.Call.TheVariants as call
use Rattle.gl_query_reader.specs.declared.over_state.RowsSoFar.{RowsSoFar}
use Rattle.gl_query_reader.specs.declared.over_state.RowsSoFar.TheVariants as so_far
use Rattle.gl_query_reader.specs.declared.written.Part.{Part}
use Rattle.gl_query_reader.specs.declared.written.FrameRows.{FrameRows}
use Rattle.gl_query_reader.specs.declared.written.FrameRows.TheVariants as rows
use Rattle.gl_query_reader.specs.Written.{Expr, Column, Number, Minus, Parameter, Letters, Brackets, Cast, Flip, Not, Binary, Agg, Count, Fold', Wsum, OverAgg, CountOf, FoldOf, LastOf, Filtering, FilterOf, OverHead, LagOf, Ranged, Over, OverOf, Item, Bare, Named, Total, Framed, Pick, All, Items, IsAgg, IsOverAgg, IsFiltering, IsOverHead, FitsRows, IsOver, IsExpr, IsItem, AreItems, IsPick, spell, spell_numbers, spell_agg, spell_word, spell_over_agg, spell_filtering, spell_back, spell_head, spell_bound, spell_part, spell_rows, spell_over, spell_item, spell_items, spell_pick}
use Rattle.gl_query_reader.specs.States.{State, Frame, InItem, InFold, InWsum, InCall, InCondition, WantItem, WantWeight, HaveAgg, WantOver, WantPart, InOver, WantOverAs, HaveItem, WantSource, SelectHead}
use Rattle.gl_query_reader.specs.Framing.{rows_first, rows_step}
use Rattle.gl_query_reader.specs.Machine.{reduced, step, is_operator}
use Rattle.gl_query_reader.proofs.Steps.{steps, state}
use Rattle.gl_query_reader.proofs.RowsSaid.{call_word, over-no-filter, rows-no-partition, rows_run, rows-read, word-in}
use Rattle.gl_query_reader.proofs.ReadExpressions.{waits, last_of, pair, wanting, having, reads_expr, reduced-whole, level-lt}
use Rattle.gl_bits.proofs.Options.{some_same, then_some}

abbrev pub wanting_item : List Item → List Frame → State
wanting_item items fs = state (WantItem items) fs

-- an item that is an expression begins as one
pub item-begins : (e : Expr) (items : List Item) (fs : List Frame) (rest : List Token) → steps (wanting_item items fs) (spell e ++ rest) ≡ steps (wanting (InItem items ∷ fs)) (spell e ++ rest)
unfolding steps step
item-begins (Binary o at l r) items fs rest =
    ap (steps (wanting_item items fs)) (append_assoc (spell l) (token.Operator o at ∷ spell r) rest)
    ∙ item-begins l items fs (token.Operator o at ∷ (spell r ++ rest))
    ∙ ap (steps (wanting (InItem items ∷ fs))) (sym (append_assoc (spell l) (token.Operator o at ∷ spell r) rest))
item-begins (Column name) items fs rest = refl
item-begins (Number n) items fs rest = refl
item-begins (Minus at n) items fs rest = refl
item-begins (Parameter at name) items fs rest = refl
item-begins (Letters text at) items fs rest = refl
item-begins (Brackets at e) items fs rest = refl
item-begins (Cast at open' e word kind) items fs rest = refl
item-begins (Flip at e) items fs rest = refl
item-begins (Not at e) items fs rest = refl

-- ---- what follows

as-name : (items : List Item) (fs0 fs : List Frame) (e0 e : Expr) (name : Name) (rest : List Token) → reduced 11 fs0 e0 ≡ pair (InItem items ∷ fs) e
    → steps (having e0 fs0) (token.Plain plain.As ∷ token.Name name ∷ rest) ≡ steps (state (HaveItem (items ++ Named e name ∷ [])) fs) rest
unfolding steps step plain_eq
as-name items fs0 fs e0 e name rest h = rw h refl

agg-name : (items : List Item) (fs : List Frame) (agg : Agg) (name : Name) (rest : List Token)
    → steps (state (HaveAgg items agg) fs) (token.Plain plain.As ∷ token.Name name ∷ rest) ≡ steps (state (HaveItem (items ++ Total agg name ∷ [])) fs) rest
unfolding steps step plain_eq
agg-name items fs agg name rest = refl

want-count : (items : List Item) (fs : List Frame) (at open' : ℕ) (rest : List Token)
    → steps (wanting_item items fs) (token.Count at ∷ token.Open open' ∷ token.Plain plain.Close ∷ rest) ≡ steps (state (HaveAgg items (Count at open')) fs) rest
unfolding steps step plain_eq
want-count items fs at open' rest = refl

want-fold : (items : List Item) (fs : List Frame) (fold : Fold) (at open' : ℕ) (rest : List Token)
    → steps (wanting_item items fs) (token.Fold fold at ∷ token.Open open' ∷ rest) ≡ steps (wanting (InFold items fold at open' ∷ fs)) rest
unfolding steps step
want-fold items fs fold at open' rest = refl

fold-close : (items : List Item) (fs0 fs : List Frame) (fold : Fold) (at open' : ℕ) (e0 e : Expr) (rest : List Token) → reduced 11 fs0 e0 ≡ pair (InFold items fold at open' ∷ fs) e
    → steps (having e0 fs0) (token.Plain plain.Close ∷ rest) ≡ steps (state (HaveAgg items (Fold' fold at open' e)) fs) rest
unfolding steps step plain_eq
fold-close items fs0 fs fold at open' e0 e rest h = rw h refl

want-wsum : (items : List Item) (fs : List Frame) (at open' : ℕ) (rest : List Token)
    → steps (wanting_item items fs) (token.Wsum at ∷ token.Open open' ∷ rest) ≡ steps (wanting (InWsum items at open' ∷ fs)) rest
unfolding steps step
want-wsum items fs at open' rest = refl

wsum-weights : (items : List Item) (fs0 fs : List Frame) (at open' : ℕ) (e0 e : Expr) (rest : List Token) → reduced 11 fs0 e0 ≡ pair (InWsum items at open' ∷ fs) e
    → steps (having e0 fs0) (token.Plain plain.Comma ∷ token.Plain plain.LeftSquare ∷ rest) ≡ steps (state (WantWeight items at open' e []) fs) rest
unfolding steps step plain_eq
wsum-weights items fs0 fs at open' e0 e rest h = rw h refl

last-weight : (items : List Item) (fs : List Frame) (at open' : ℕ) (e : Expr) (done : List Num) (n : Num) (rest : List Token)
    → steps (state (WantWeight items at open' e done) fs) (token.Number n ∷ token.Plain plain.RightSquare ∷ token.Plain plain.Close ∷ rest) ≡ steps (state (HaveAgg items (Wsum at open' e (done ++ n ∷ []))) fs) rest
unfolding steps step plain_eq
last-weight items fs at open' e done n rest = refl

next-weight : (items : List Item) (fs : List Frame) (at open' : ℕ) (e : Expr) (done : List Num) (n : Num) (rest : List Token)
    → steps (state (WantWeight items at open' e done) fs) (token.Number n ∷ token.Plain plain.Comma ∷ rest) ≡ steps (state (WantWeight items at open' e (done ++ n ∷ [])) fs) rest
unfolding steps step plain_eq
next-weight items fs at open' e done n rest = refl

-- the weights of WSUM are read, with its brackets
reads_weights : (n : Num) (ns : List Num) (items : List Item) (fs : List Frame) (at open' : ℕ) (e : Expr) (done : List Num) (rest : List Token)
    → steps (state (WantWeight items at open' e done) fs) (spell_numbers (n ∷ ns) ++ token.Plain plain.RightSquare ∷ token.Plain plain.Close ∷ rest) ≡ steps (state (HaveAgg items (Wsum at open' e (done ++ n ∷ ns))) fs) rest
reads_weights n [] items fs at open' e done rest = last-weight items fs at open' e done n rest
reads_weights n (m ∷ ms) items fs at open' e done rest =
    next-weight items fs at open' e done n (spell_numbers (m ∷ ms) ++ token.Plain plain.RightSquare ∷ token.Plain plain.Close ∷ rest)
    ∙ reads_weights m ms items fs at open' e (done ++ n ∷ []) rest
    ∙ ap (λ (x : List Num). steps (state (HaveAgg items (Wsum at open' e x)) fs) rest) (append_assoc done (n ∷ []) (m ∷ ms))

-- an aggregate is read
reads_agg : (a : Agg) (items : List Item) (fs : List Frame) (rest : List Token) → IsAgg a → steps (wanting_item items fs) (spell_agg a ++ rest) ≡ steps (state (HaveAgg items a) fs) rest
reads_agg (Count at open') items fs rest g = want-count items fs at open' rest
reads_agg (Fold' fold at open' e) items fs rest g =
    want-fold items fs fold at open' ((spell e ++ token.Plain plain.Close ∷ []) ++ rest)
    ∙ ap (steps (wanting (InFold items fold at open' ∷ fs))) (append_assoc (spell e) (token.Plain plain.Close ∷ []) rest)
    ∙ reads_expr e (InFold items fold at open' ∷ fs) (token.Plain plain.Close ∷ rest) g (level-lt e)
    ∙ fold-close items (waits e (InFold items fold at open' ∷ fs)) fs fold at open' (last_of e) e rest (reduced-whole e (InFold items fold at open' ∷ fs) g (omega arith))
reads_agg (Wsum at open' e []) items fs rest g = absurd g
reads_agg (Wsum at open' e (n ∷ ns)) items fs rest g =
    want-wsum items fs at open' ((spell e ++ token.Plain plain.Comma ∷ token.Plain plain.LeftSquare ∷ (spell_numbers (n ∷ ns) ++ token.Plain plain.RightSquare ∷ token.Plain plain.Close ∷ [])) ++ rest)
    ∙ ap (steps (wanting (InWsum items at open' ∷ fs))) (append_assoc (spell e) (token.Plain plain.Comma ∷ token.Plain plain.LeftSquare ∷ (spell_numbers (n ∷ ns) ++ token.Plain plain.RightSquare ∷ token.Plain plain.Close ∷ [])) rest)
    ∙ reads_expr e (InWsum items at open' ∷ fs) (token.Plain plain.Comma ∷ token.Plain plain.LeftSquare ∷ ((spell_numbers (n ∷ ns) ++ token.Plain plain.RightSquare ∷ token.Plain plain.Close ∷ []) ++ rest)) g (level-lt e)
    ∙ wsum-weights items (waits e (InWsum items at open' ∷ fs)) fs at open' (last_of e) e ((spell_numbers (n ∷ ns) ++ token.Plain plain.RightSquare ∷ token.Plain plain.Close ∷ []) ++ rest) (reduced-whole e (InWsum items at open' ∷ fs) g (omega arith))
    ∙ ap (steps (state (WantWeight items at open' e []) fs)) (append_assoc (spell_numbers (n ∷ ns)) (token.Plain plain.RightSquare ∷ token.Plain plain.Close ∷ []) rest)
    ∙ reads_weights n ns items fs at open' e [] rest

-- ---- functions with OVER

no-as : (w : Word) (s : Spelling) → is_plain plain.As (spell_word w s) ≡ false
no-as w (Small at) = refl
no-as w (Capital at) = refl

-- LAG or LAST_VALUE, a name or a word, and its bracket
call-begins : (c : Call) (w : Spelling) (open' : ℕ) (items : List Item) (fs : List Frame) (rest : List Token)
    → steps (wanting_item items fs) (spell_word (call_word c) w ∷ token.Open open' ∷ rest) ≡ steps (wanting (InCall items c w open' ∷ fs)) rest
unfolding steps step reduced word_text
call-begins call.Lag (Small at) open' items fs rest = refl
call-begins call.Lag (Capital at) open' items fs rest = refl
call-begins call.LastValue (Small at) open' items fs rest = refl
call-begins call.LastValue (Capital at) open' items fs rest = refl

last-value-close : (items : List Item) (fs0 fs : List Frame) (w : Spelling) (open' : ℕ) (e0 e : Expr) (rest : List Token) → reduced 11 fs0 e0 ≡ pair (InCall items call.LastValue w open' ∷ fs) e
    → steps (having e0 fs0) (token.Plain plain.Close ∷ rest) ≡ steps (state (WantOver items (Ranged (LastOf w open' e) None)) fs) rest
unfolding steps step plain_eq
last-value-close items fs0 fs w open' e0 e rest h = rw h refl

lag-close : (items : List Item) (fs0 fs : List Frame) (w : Spelling) (open' : ℕ) (e0 e : Expr) (rest : List Token) → reduced 11 fs0 e0 ≡ pair (InCall items call.Lag w open' ∷ fs) e
    → steps (having e0 fs0) (token.Plain plain.Close ∷ rest) ≡ steps (state (WantOver items (LagOf w open' e None)) fs) rest
unfolding steps step plain_eq
lag-close items fs0 fs w open' e0 e rest h = rw h refl

lag-back : (items : List Item) (fs0 fs : List Frame) (w : Spelling) (open' : ℕ) (e0 e : Expr) (n : Num) (rest : List Token) → reduced 11 fs0 e0 ≡ pair (InCall items call.Lag w open' ∷ fs) e
    → steps (having e0 fs0) (token.Plain plain.Comma ∷ token.Number n ∷ token.Plain plain.Close ∷ rest) ≡ steps (state (WantOver items (LagOf w open' e (Some n))) fs) rest
unfolding steps step plain_eq
lag-back items fs0 fs w open' e0 e n rest h = rw h refl

-- behind an aggregate a token that is no AS stands as behind a function over rows
count-over : (at open' : ℕ) (items : List Item) (fs : List Frame) (u : Token) (rest : List Token) → is_plain plain.As u ≡ false
    → steps (state (HaveAgg items (Count at open')) fs) (u ∷ rest) ≡ steps (state (WantOver items (Ranged (CountOf at open') None)) fs) (u ∷ rest)
unfolding steps step
count-over at open' items fs u rest a = rw a refl

fold-over : (fold : Fold) (at open' : ℕ) (e : Expr) (items : List Item) (fs : List Frame) (u : Token) (rest : List Token) → is_plain plain.As u ≡ false
    → steps (state (HaveAgg items (Fold' fold at open' e)) fs) (u ∷ rest) ≡ steps (state (WantOver items (Ranged (FoldOf fold at open' e) None)) fs) (u ∷ rest)
unfolding steps step
fold-over fold at open' e items fs u rest a = rw a refl

-- a function over rows is read, and what stands behind it
reads_over_agg : (a : OverAgg) (items : List Item) (fs : List Frame) (u : Token) (rest : List Token) → IsOverAgg a → is_plain plain.As u ≡ false
    → steps (wanting_item items fs) (spell_over_agg a ++ u ∷ rest) ≡ steps (state (WantOver items (Ranged a None)) fs) (u ∷ rest)
reads_over_agg (CountOf at open') items fs u rest g a = want-count items fs at open' (u ∷ rest) ∙ count-over at open' items fs u rest a
reads_over_agg (FoldOf fold at open' e) items fs u rest g a = reads_agg (Fold' fold at open' e) items fs (u ∷ rest) g ∙ fold-over fold at open' e items fs u rest a
reads_over_agg (LastOf w open' e) items fs u rest g a =
    call-begins call.LastValue w open' items fs ((spell e ++ token.Plain plain.Close ∷ []) ++ u ∷ rest)
    ∙ ap (steps (wanting (InCall items call.LastValue w open' ∷ fs))) (append_assoc (spell e) (token.Plain plain.Close ∷ []) (u ∷ rest))
    ∙ reads_expr e (InCall items call.LastValue w open' ∷ fs) (token.Plain plain.Close ∷ u ∷ rest) g (level-lt e)
    ∙ last-value-close items (waits e (InCall items call.LastValue w open' ∷ fs)) fs w open' (last_of e) e (u ∷ rest) (reduced-whole e (InCall items call.LastValue w open' ∷ fs) g (omega arith))

filter-begins : (a : OverAgg) (w : Spelling) (open' : ℕ) (items : List Item) (fs : List Frame) (rest : List Token)
    → steps (state (WantOver items (Ranged a None)) fs) (spell_word word.Filter w ∷ token.Open open' ∷ token.Plain plain.Where ∷ rest) ≡ steps (wanting (InCondition items a w open' ∷ fs)) rest
unfolding steps step plain_eq
filter-begins a w open' items fs rest = rw (word-in word.Filter w) refl

filter-close : (a : OverAgg) (items : List Item) (fs0 fs : List Frame) (w : Spelling) (open' : ℕ) (e0 e : Expr) (rest : List Token) → reduced 11 fs0 e0 ≡ pair (InCondition items a w open' ∷ fs) e
    → steps (having e0 fs0) (token.Plain plain.Close ∷ rest) ≡ steps (state (WantOver items (Ranged a (Some (FilterOf w open' e)))) fs) rest
unfolding steps step plain_eq
filter-close a items fs0 fs w open' e0 e rest h = rw h refl

-- a function over rows and its FILTER
reads_ranged : (a : OverAgg) (f : Option Filtering) (items : List Item) (fs : List Frame) (u : Token) (rest : List Token) → IsOverAgg a → IsFiltering f → is_plain plain.As u ≡ false
    → steps (wanting_item items fs) (spell_over_agg a ++ (spell_filtering f ++ u ∷ rest)) ≡ steps (state (WantOver items (Ranged a f)) fs) (u ∷ rest)
reads_ranged a None items fs u rest g h n = reads_over_agg a items fs u rest g n
reads_ranged a (Some (FilterOf w open' e)) items fs u rest g h n =
    reads_over_agg a items fs (spell_word word.Filter w) (token.Open open' ∷ token.Plain plain.Where ∷ ((spell e ++ token.Plain plain.Close ∷ []) ++ u ∷ rest)) g (no-as word.Filter w)
    ∙ filter-begins a w open' items fs ((spell e ++ token.Plain plain.Close ∷ []) ++ u ∷ rest)
    ∙ ap (steps (wanting (InCondition items a w open' ∷ fs))) (append_assoc (spell e) (token.Plain plain.Close ∷ []) (u ∷ rest))
    ∙ reads_expr e (InCondition items a w open' ∷ fs) (token.Plain plain.Close ∷ u ∷ rest) h (level-lt e)
    ∙ filter-close a items (waits e (InCondition items a w open' ∷ fs)) fs w open' (last_of e) e (u ∷ rest) (reduced-whole e (InCondition items a w open' ∷ fs) h (omega arith))

-- the argument of LAG, and how many rows it looks back
reads_back : (b : Option Num) (w : Spelling) (open' : ℕ) (e : Expr) (items : List Item) (fs : List Frame) (rest : List Token) → IsExpr e
    → steps (having (last_of e) (waits e (InCall items call.Lag w open' ∷ fs))) (spell_back b ++ token.Plain plain.Close ∷ rest) ≡ steps (state (WantOver items (LagOf w open' e b)) fs) rest
reads_back None w open' e items fs rest g = lag-close items (waits e (InCall items call.Lag w open' ∷ fs)) fs w open' (last_of e) e rest (reduced-whole e (InCall items call.Lag w open' ∷ fs) g (omega arith))
reads_back (Some n) w open' e items fs rest g = lag-back items (waits e (InCall items call.Lag w open' ∷ fs)) fs w open' (last_of e) e n rest (reduced-whole e (InCall items call.Lag w open' ∷ fs) g (omega arith))

lag_grouped : (x b more : List Token) (c : Token) → (x ++ (b ++ c ∷ [])) ++ more ≡ x ++ (b ++ c ∷ more)
lag_grouped x b more c = simp append_assoc

-- what stands before OVER is read, and a token behind it
reads_head : (head : OverHead) (items : List Item) (fs : List Frame) (u : Token) (rest : List Token) → IsOverHead head → is_plain plain.As u ≡ false
    → steps (wanting_item items fs) (spell_head head ++ u ∷ rest) ≡ steps (state (WantOver items head) fs) (u ∷ rest)
reads_head (Ranged a f) items fs u rest g n =
    ap (steps (wanting_item items fs)) (append_assoc (spell_over_agg a) (spell_filtering f) (u ∷ rest))
    ∙ reads_ranged a f items fs u rest g.0 g.1 n
reads_head (LagOf w open' e b) items fs u rest g n =
    call-begins call.Lag w open' items fs ((spell e ++ (spell_back b ++ token.Plain plain.Close ∷ [])) ++ u ∷ rest)
    ∙ ap (steps (wanting (InCall items call.Lag w open' ∷ fs))) (lag_grouped (spell e) (spell_back b) (u ∷ rest) (token.Plain plain.Close))
    ∙ reads_expr e (InCall items call.Lag w open' ∷ fs) (spell_back b ++ token.Plain plain.Close ∷ u ∷ rest) g (level-lt e)
    ∙ reads_back b w open' e items fs (u ∷ rest) g

-- OVER and its bracket
over-begins : (head : OverHead) (w : Spelling) (open' : ℕ) (items : List Item) (fs : List Frame) (rest : List Token)
    → steps (state (WantOver items head) fs) (spell_word word.Over w ∷ token.Open open' ∷ rest) ≡ steps (state (WantPart items head w open') fs) rest
unfolding steps step
over-begins (LagOf v begin e b) w open' items fs rest = rw (word-in word.Over w) refl
over-begins (Ranged a None) w open' items fs rest = rw (over-no-filter w, word-in word.Over w) refl
over-begins (Ranged a (Some f)) w open' items fs rest = rw (word-in word.Over w) refl

over-goes : (head : OverHead) (w : Spelling) (open' : ℕ) (p : Option Part) (items : List Item) (fs : List Frame) (t : Token) (rest : List Token) (r next : RowsSoFar) → rows_step r t ≡ Some next
    → steps (state (InOver items head w open' p r) fs) (t ∷ rest) ≡ steps (state (InOver items head w open' p next) fs) rest
unfolding steps step
over-goes head w open' p items fs t rest r next e = rw e refl

over-run : (head : OverHead) (w : Spelling) (open' : ℕ) (p : Option Part) (items : List Item) (fs : List Frame) (ts rest : List Token) (r last : RowsSoFar) → rows_run r ts ≡ Some last
    → steps (state (InOver items head w open' p r) fs) (ts ++ rest) ≡ steps (state (InOver items head w open' p last) fs) rest
over-run head w open' p items fs [] rest r last e = ap (λ (x : RowsSoFar). steps (state (InOver items head w open' p x) fs) rest) (some_same r last e)
over-run head w open' p items fs (t ∷ ts) rest r last e =
    let g = then_some (λ x. rows_run x ts) (rows_step r t) last e in
    over-goes head w open' p items fs t (ts ++ rest) r g.0 g.1 ∙ over-run head w open' p items fs ts rest g.0 last g.2

over-close : (head : OverHead) (w : Spelling) (open' : ℕ) (p : Option Part) (items : List Item) (fs : List Frame) (x : Option FrameRows) (rest : List Token)
    → steps (state (InOver items head w open' p (so_far.WantClose x)) fs) (token.Plain plain.Close ∷ rest) ≡ steps (state (WantOverAs items (OverOf head w open' p x)) fs) rest
unfolding steps step plain_eq
over-close head w open' p items fs x rest = refl

part-begins : (p : Part) (head : OverHead) (w : Spelling) (open' : ℕ) (items : List Item) (fs : List Frame) (rest : List Token)
    → steps (state (WantPart items head w open') fs) (spell_part (Some p) ++ rest) ≡ steps (state (InOver items head w open' (Some p) (rows_first head)) fs) rest
unfolding steps step plain_eq
part-begins p head w open' items fs rest = rw (word-in word.Partition p.word) refl

-- a token that is not PARTITION stands as behind one
part-none : (head : OverHead) (w : Spelling) (open' : ℕ) (items : List Item) (fs : List Frame) (t : Token) (rest : List Token) → word_in word.Partition t ≡ None
    → steps (state (WantPart items head w open') fs) (t ∷ rest) ≡ steps (state (InOver items head w open' None (rows_first head)) fs) (t ∷ rest)
unfolding steps step
part-none head w open' items fs t rest e = rw e refl

-- PARTITION is read, where there is one
reads_part : (p : Option Part) (x : Option FrameRows) (head : OverHead) (w : Spelling) (open' : ℕ) (items : List Item) (fs : List Frame) (rest : List Token)
    → steps (state (WantPart items head w open') fs) (spell_part p ++ (spell_rows x ++ token.Plain plain.Close ∷ rest)) ≡ steps (state (InOver items head w open' p (rows_first head)) fs) (spell_rows x ++ token.Plain plain.Close ∷ rest)
reads_part (Some p) x head w open' items fs rest = part-begins p head w open' items fs (spell_rows x ++ token.Plain plain.Close ∷ rest)
reads_part None None head w open' items fs rest = part-none head w open' items fs (token.Plain plain.Close) rest refl
reads_part None (Some (rows.Short r b q)) head w open' items fs rest =
    part-none head w open' items fs (spell_word word.Rows r) (spell_bound b ∷ spell_word word.Preceding q ∷ token.Plain plain.Close ∷ rest) (rows-no-partition r)
reads_part None (Some (rows.Between f at c o)) head w open' items fs rest =
    let front : List Token = spell_word word.Between f.between ∷ spell_bound f.bound ∷ spell_word word.Preceding f.preceding ∷ token.Operator op.And at ∷ spell_word word.Current c ∷ spell_word word.Row o ∷ token.Plain plain.Close ∷ rest in
    part-none head w open' items fs (spell_word word.Rows f.rows) front (rows-no-partition f.rows)

-- the rows are read, and their bracket
reads_rows : (head : OverHead) (p : Option Part) (x : Option FrameRows) (w : Spelling) (open' : ℕ) (items : List Item) (fs : List Frame) (rest : List Token) → FitsRows head x
    → steps (state (InOver items head w open' p (rows_first head)) fs) (spell_rows x ++ token.Plain plain.Close ∷ rest) ≡ steps (state (WantOverAs items (OverOf head w open' p x)) fs) rest
reads_rows (LagOf v begin e b) p None w open' items fs rest g = over-close (LagOf v begin e b) w open' p items fs None rest
reads_rows (LagOf v begin e b) p (Some x) w open' items fs rest g = absurd g
reads_rows (Ranged a f) p None w open' items fs rest g = absurd g
reads_rows (Ranged a f) p (Some x) w open' items fs rest g =
    over-run (Ranged a f) w open' p items fs (spell_rows (Some x)) (token.Plain plain.Close ∷ rest) so_far.WantRows (so_far.WantClose (Some x)) (rows-read x)
    ∙ over-close (Ranged a f) w open' p items fs (Some x) rest

-- a function with OVER is read
reads_over : (over : Over) (items : List Item) (fs : List Frame) (rest : List Token) → IsOver over → steps (wanting_item items fs) (spell_over over ++ rest) ≡ steps (state (WantOverAs items over) fs) rest
reads_over (OverOf head w open' p x) items fs rest g =
    let inner : List Token = spell_part p ++ (spell_rows x ++ token.Plain plain.Close ∷ []) in
    ap (steps (wanting_item items fs)) (append_assoc (spell_head head) (spell_word word.Over w ∷ token.Open open' ∷ inner) rest)
    ∙ reads_head head items fs (spell_word word.Over w) (token.Open open' ∷ (inner ++ rest)) g.0 (no-as word.Over w)
    ∙ over-begins head w open' items fs (inner ++ rest)
    ∙ ap (steps (state (WantPart items head w open') fs)) (lag_grouped (spell_part p) (spell_rows x) rest (token.Plain plain.Close))
    ∙ reads_part p x head w open' items fs rest
    ∙ reads_rows head p x w open' items fs rest g.1

over-name : (items : List Item) (fs : List Frame) (over : Over) (name : Name) (rest : List Token)
    → steps (state (WantOverAs items over) fs) (token.Plain plain.As ∷ token.Name name ∷ rest) ≡ steps (state (HaveItem (items ++ Framed over name ∷ [])) fs) rest
unfolding steps step plain_eq
over-name items fs over name rest = refl

-- behind a column alone a token stands as behind its item
bare-goes : (name : Name) (items : List Item) (fs : List Frame) (t : Token) (rest : List Token) → is_operator t ≡ false → is_plain plain.As t ≡ false → open_in t ≡ None
    → steps (having (Column name) (InItem items ∷ fs)) (t ∷ rest) ≡ steps (state (HaveItem (items ++ Bare name ∷ [])) fs) (t ∷ rest)
unfolding steps step reduced
bare-goes name items fs t rest o a n = rw (o, a, n) refl

-- an item is read, and a token behind it that is no operator, no AS and no bracket
pub reads_item : (i : Item) (items : List Item) (fs : List Frame) (t : Token) (rest : List Token) → IsItem i → is_operator t ≡ false → is_plain plain.As t ≡ false → open_in t ≡ None
    → steps (wanting_item items fs) (spell_item i ++ t ∷ rest) ≡ steps (state (HaveItem (items ++ i ∷ [])) fs) (t ∷ rest)
reads_item (Bare name) items fs t rest g o a n = item-begins (Column name) items fs (t ∷ rest) ∙ reads_expr (Column name) (InItem items ∷ fs) (t ∷ rest) tt (omega arith) ∙ bare-goes name items fs t rest o a n
reads_item (Named e name) items fs t rest g o a n =
    ap (steps (wanting_item items fs)) (append_assoc (spell e) (token.Plain plain.As ∷ token.Name name ∷ []) (t ∷ rest))
    ∙ item-begins e items fs (token.Plain plain.As ∷ token.Name name ∷ t ∷ rest)
    ∙ reads_expr e (InItem items ∷ fs) (token.Plain plain.As ∷ token.Name name ∷ t ∷ rest) g (level-lt e)
    ∙ as-name items (waits e (InItem items ∷ fs)) fs (last_of e) e name (t ∷ rest) (reduced-whole e (InItem items ∷ fs) g (omega arith))
reads_item (Total agg name) items fs t rest g o a n =
    ap (steps (wanting_item items fs)) (append_assoc (spell_agg agg) (token.Plain plain.As ∷ token.Name name ∷ []) (t ∷ rest))
    ∙ reads_agg agg items fs (token.Plain plain.As ∷ token.Name name ∷ t ∷ rest) g
    ∙ agg-name items fs agg name (t ∷ rest)
reads_item (Framed over name) items fs t rest g o a n =
    ap (steps (wanting_item items fs)) (append_assoc (spell_over over) (token.Plain plain.As ∷ token.Name name ∷ []) (t ∷ rest))
    ∙ reads_over over items fs (token.Plain plain.As ∷ token.Name name ∷ t ∷ rest) g
    ∙ over-name items fs over name (t ∷ rest)

have-comma : (items : List Item) (fs : List Frame) (rest : List Token) → steps (state (HaveItem items) fs) (token.Plain plain.Comma ∷ rest) ≡ steps (wanting_item items fs) rest
unfolding steps step plain_eq
have-comma items fs rest = refl

have-from : (items : List Item) (fs : List Frame) (rest : List Token) → steps (state (HaveItem items) fs) (token.Plain plain.From ∷ rest) ≡ steps (state (WantSource (SelectHead (Items items))) fs) rest
unfolding steps step plain_eq
have-from items fs rest = refl

no_as_comma : is_plain plain.As (token.Plain plain.Comma) ≡ false
unfolding plain_eq
no_as_comma = refl

no_as_from : is_plain plain.As (token.Plain plain.From) ≡ false
unfolding plain_eq
no_as_from = refl

-- items are read, and FROM
reads_items : (i : Item) (is : List Item) (done : List Item) (fs : List Frame) (rest : List Token) → IsItem i → AreItems is
    → steps (wanting_item done fs) (spell_items (i ∷ is) ++ token.Plain plain.From ∷ rest) ≡ steps (state (WantSource (SelectHead (Items (done ++ i ∷ is)))) fs) rest
reads_items i [] done fs rest g gs = reads_item i done fs (token.Plain plain.From) rest g refl no_as_from refl ∙ have-from (done ++ i ∷ []) fs rest
reads_items i (j ∷ js) done fs rest g gs =
    ap (steps (wanting_item done fs)) (append_assoc (spell_item i) (token.Plain plain.Comma ∷ spell_items (j ∷ js)) (token.Plain plain.From ∷ rest))
    ∙ reads_item i done fs (token.Plain plain.Comma) (spell_items (j ∷ js) ++ token.Plain plain.From ∷ rest) g refl no_as_comma refl
    ∙ have-comma (done ++ i ∷ []) fs (spell_items (j ∷ js) ++ token.Plain plain.From ∷ rest)
    ∙ reads_items j js (done ++ i ∷ []) fs rest gs.0 gs.1
    ∙ ap (λ (x : List Item). steps (state (WantSource (SelectHead (Items x))) fs) rest) (append_assoc done (i ∷ []) (j ∷ js))

want-star : (at : ℕ) (fs : List Frame) (rest : List Token) → steps (wanting_item [] fs) (spell_pick (All at) ++ token.Plain plain.From ∷ rest) ≡ steps (state (WantSource (SelectHead (All at))) fs) rest
unfolding steps step plain_eq
want-star at fs rest = refl

-- what a select picks is read, and FROM
pub reads_pick : (p : Pick) (fs : List Frame) (rest : List Token) → IsPick p → steps (wanting_item [] fs) (spell_pick p ++ token.Plain plain.From ∷ rest) ≡ steps (state (WantSource (SelectHead p)) fs) rest
reads_pick (All at) fs rest g = want-star at fs rest
reads_pick (Items []) fs rest g = absurd g
reads_pick (Items (i ∷ is)) fs rest g = reads_items i is [] fs rest g.0 g.1
