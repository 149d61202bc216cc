-- The words of frames as tokens, and the rows of a frame as they are read.
use Rattle.std.proofs.Common.{◌≡◌, ℕ, Bool, true, false, cond, List, [], ◌∷◌, ◌++◌, Option, Some, None, refl, sym, ap, subst, ◌∙◌}
use Rattle.std.specs.Prelude.{option_map, option_and_then}
use Rattle.std.proofs.lemmas.Bool.{false≢true}
use Rattle.gl_bits.proofs.Bools.{bytes_own, bytes_same}
use Rattle.gl_values.specs.declared.op.Op.TheVariants as op
use Rattle.gl_query.specs.declared.tree.Name.{Name}
use Rattle.gl_query_tokens.specs.declared.token.Spelling.{Spelling}
use Rattle.gl_query_tokens.specs.declared.token.Spelling.TheVariants.{Small, Capital}
use Rattle.gl_query_tokens.specs.declared.token.Word.{Word}
use Rattle.gl_query_tokens.specs.declared.token.Word.TheVariants as word
use Rattle.gl_query_tokens.specs.declared.token.Token.{Token}
use Rattle.gl_query_tokens.specs.declared.token.Token.TheVariants as token
use Rattle.gl_query_tokens.specs.Sorts.{word_eq, is_small, word_in}
use Rattle.gl_query_tokens.specs.Words.{word_text}
use Rattle.gl_query_reader.specs.declared.over_state.Call.{Call}
use Rattle.gl_query_reader.specs.declared.over_state.Call.TheVariants as call
use Rattle.gl_query_reader.specs.declared.over_state.RowsSoFar.{RowsSoFar}
use Rattle.gl_query_reader.specs.declared.over_state.RowsSoFar.TheVariants as so_far
use Rattle.gl_query_reader.specs.declared.written.Bound.{Bound}
use Rattle.gl_query_reader.specs.declared.written.Bound.TheVariants as bound
use Rattle.gl_query_reader.specs.declared.written.FrameRows.{FrameRows}
use Rattle.gl_query_reader.specs.declared.written.FrameRows.TheVariants as rows
use Rattle.gl_query_reader.specs.Written.{OverAgg, Filtering, OverHead, LagOf, Ranged, FitsRows, spell_word, spell_bound, spell_rows}
use Rattle.gl_query_reader.specs.Framing.{named_call, bound_in, and_in, between_or_bound, front_of, rows_step}
use Rattle.gl_bits.proofs.Options.{some_same}

-- ---- words

word_same : (v w : Word) → word_eq v w ≡ true → v ≡ w
unfolding word_eq
word_same word.Over word.Over e = refl
word_same word.Filter word.Filter e = refl
word_same word.Partition word.Partition e = refl
word_same word.Rows word.Rows e = refl
word_same word.Preceding word.Preceding e = refl
word_same word.Unbounded word.Unbounded e = refl
word_same word.Between word.Between e = refl
word_same word.Current word.Current e = refl
word_same word.Row word.Row e = refl
word_same word.Lag word.Lag e = refl
word_same word.LastValue word.LastValue e = refl
word_same word.Arrival word.Arrival e = refl
word_same word.AsOf word.AsOf e = refl
word_same v w e = absurd (false≢true e)

word_refl : (w : Word) → word_eq w w ≡ true
unfolding word_eq
word_refl word.Over = refl
word_refl word.Filter = refl
word_refl word.Partition = refl
word_refl word.Rows = refl
word_refl word.Preceding = refl
word_refl word.Unbounded = refl
word_refl word.Between = refl
word_refl word.Current = refl
word_refl word.Row = refl
word_refl word.Lag = refl
word_refl word.LastValue = refl
word_refl word.Arrival = refl
word_refl word.AsOf = refl

-- the token of a name that is a word in small letters
small_token : (w : Word) (n : Name) → is_small w n ≡ true → spell_word w (Small n.at) ≡ token.Name n
small_token w n h = ap (λ (x : List ℕ). token.Name (record { text = x; at = n.at })) (sym (bytes_same n.text (word_text w) h))

small_is : (b : Bool) (w : Word) (n : Name) (s : Spelling) → is_small w n ≡ b → cond b (Some (Small n.at)) None ≡ Some s → spell_word w s ≡ token.Name n
small_is true w n s h e = subst (λ (x : Spelling). spell_word w x ≡ token.Name n) (some_same (Small n.at) s e) (small_token w n h)
small_is false w n s h e = absurd cc

capital_is : (b : Bool) (v w : Word) (at : ℕ) (s : Spelling) → word_eq v w ≡ b → cond b (Some (Capital at)) None ≡ Some s → spell_word w s ≡ token.Word v at
capital_is true v w at s h e = subst (λ (x : Spelling). spell_word w x ≡ token.Word v at) (some_same (Capital at) s e) (ap (λ (x : Word). token.Word x at) (sym (word_same v w h)))
capital_is false v w at s h e = absurd cc

-- a token that is a word is spelled as it
pub word_is : (w : Word) (t : Token) (s : Spelling) → word_in w t ≡ Some s → spell_word w s ≡ t
word_is w (token.Name n) s e = small_is (is_small w n) w n s refl e
word_is w (token.Word v at) s e = capital_is (word_eq v w) v w at s refl e
word_is w t s e = absurd cc

pub word-in : (w : Word) (s : Spelling) → word_in w (spell_word w s) ≡ Some s
word-in w (Small at) = rw (bytes_own (word_text w)) refl
word-in w (Capital at) = rw (word_refl w) refl

pub over-no-filter : (s : Spelling) → word_in word.Filter (spell_word word.Over s) ≡ None
unfolding word_text word_eq
over-no-filter (Small at) = refl
over-no-filter (Capital at) = refl

pub rows-no-partition : (s : Spelling) → word_in word.Partition (spell_word word.Rows s) ≡ None
unfolding word_text word_eq
rows-no-partition (Small at) = refl
rows-no-partition (Capital at) = refl

bound-no-between : (b : Bound) → word_in word.Between (spell_bound b) ≡ None
unfolding word_text word_eq
bound-no-between (bound.Number n) = refl
bound-no-between (bound.Unbounded (Small at)) = refl
bound-no-between (bound.Unbounded (Capital at)) = refl

-- the word of a function that is no keyword
abbrev pub call_word : Call → Word
call_word call.Lag = word.Lag
call_word call.LastValue = word.LastValue

-- a name that is such a function is spelled as its word
pub named_is : (n : Name) (c : Call) → named_call n ≡ Some c → spell_word (call_word c) (Small n.at) ≡ token.Name n
named_is n c e = lag (is_small word.Lag n) refl e
  where
    last : (b : Bool) → is_small word.LastValue n ≡ b → cond b (Some call.LastValue) None ≡ Some c → spell_word (call_word c) (Small n.at) ≡ token.Name n
    last true h e = subst (λ (x : Call). spell_word (call_word x) (Small n.at) ≡ token.Name n) (some_same call.LastValue c e) (small_token word.LastValue n h)
    last false h e = absurd cc

    lag : (b : Bool) → is_small word.Lag n ≡ b → cond b (Some call.Lag) (cond (is_small word.LastValue n) (Some call.LastValue) None) ≡ Some c → spell_word (call_word c) (Small n.at) ≡ token.Name n
    lag true h e = subst (λ (x : Call). spell_word (call_word x) (Small n.at) ≡ token.Name n) (some_same call.Lag c e) (small_token word.Lag n h)
    lag false h e = last (is_small word.LastValue n) refl e

-- ---- bounds and AND

unbounded_is : (t : Token) (b : Bound) → option_map (λ w. bound.Unbounded w) (word_in word.Unbounded t) ≡ Some b → spell_bound b ≡ t
unbounded_is t b e = test (word_in word.Unbounded t) refl e
  where
    test : (o : Option Spelling) → word_in word.Unbounded t ≡ o → option_map (λ w. bound.Unbounded w) o ≡ Some b → spell_bound b ≡ t
    test None h e = absurd cc
    test (Some w) h e = subst (λ (x : Bound). spell_bound x ≡ t) (some_same (bound.Unbounded w) b e) (word_is word.Unbounded t w h)

bound_is : (t : Token) (b : Bound) → bound_in t ≡ Some b → spell_bound b ≡ t
bound_is (token.Number n) b e = subst (λ (x : Bound). spell_bound x ≡ token.Number n) (some_same (bound.Number n) b e) refl
bound_is t b e = unbounded_is t b e

bound-in : (b : Bound) → bound_in (spell_bound b) ≡ Some b
bound-in (bound.Number n) = refl
bound-in (bound.Unbounded (Small at)) = ap (λ (o : Option Spelling). option_map (λ w. bound.Unbounded w) o) (word-in word.Unbounded (Small at))
bound-in (bound.Unbounded (Capital at)) = ap (λ (o : Option Spelling). option_map (λ w. bound.Unbounded w) o) (word-in word.Unbounded (Capital at))

and_is : (t : Token) (n : ℕ) → and_in t ≡ Some n → token.Operator op.And n ≡ t
and_is (token.Operator op.And at) n e = ap (λ (x : ℕ). token.Operator op.And x) (sym (some_same at n e))
and_is (token.Operator o at) n e = absurd cc
and_is t n e = absurd cc

-- ---- the rows so far

-- the tokens of the rows that were read
abbrev pub rows_text : RowsSoFar → List Token
rows_text so_far.WantRows = []
rows_text (so_far.WantBound r) = spell_word word.Rows r ∷ []
rows_text (so_far.WantPreceding r b) = spell_word word.Rows r ∷ spell_bound b ∷ []
rows_text (so_far.WantFirst r w) = spell_word word.Rows r ∷ spell_word word.Between w ∷ []
rows_text (so_far.WantFirstPreceding r w b) = spell_word word.Rows r ∷ spell_word word.Between w ∷ spell_bound b ∷ []
rows_text (so_far.WantAnd f) = spell_word word.Rows f.rows ∷ spell_word word.Between f.between ∷ spell_bound f.bound ∷ spell_word word.Preceding f.preceding ∷ []
rows_text (so_far.WantCurrent f n) = spell_word word.Rows f.rows ∷ spell_word word.Between f.between ∷ spell_bound f.bound ∷ spell_word word.Preceding f.preceding ∷ token.Operator op.And n ∷ []
rows_text (so_far.WantRow f n c) = spell_word word.Rows f.rows ∷ spell_word word.Between f.between ∷ spell_bound f.bound ∷ spell_word word.Preceding f.preceding ∷ token.Operator op.And n ∷ spell_word word.Current c ∷ []
rows_text (so_far.WantClose r) = spell_rows r

mapped_word : (w : Word) (t : Token) (f : Spelling → RowsSoFar) (next : RowsSoFar) (ts : List Token) → option_map f (word_in w t) ≡ Some next → ((x : Spelling) → ts ++ spell_word w x ∷ [] ≡ rows_text (f x)) → ts ++ t ∷ [] ≡ rows_text next
mapped_word w t f next ts e g = test (word_in w t) refl e
  where
    test : (o : Option Spelling) → word_in w t ≡ o → option_map f o ≡ Some next → ts ++ t ∷ [] ≡ rows_text next
    test None h e = absurd cc
    test (Some x) h e = ap (λ (u : Token). ts ++ u ∷ []) (sym (word_is w t x h)) ∙ g x ∙ ap rows_text (some_same (f x) next e)

mapped_bound : (t : Token) (f : Bound → RowsSoFar) (next : RowsSoFar) (ts : List Token) → option_map f (bound_in t) ≡ Some next → ((x : Bound) → ts ++ spell_bound x ∷ [] ≡ rows_text (f x)) → ts ++ t ∷ [] ≡ rows_text next
mapped_bound t f next ts e g = test (bound_in t) refl e
  where
    test : (o : Option Bound) → bound_in t ≡ o → option_map f o ≡ Some next → ts ++ t ∷ [] ≡ rows_text next
    test None h e = absurd cc
    test (Some x) h e = ap (λ (u : Token). ts ++ u ∷ []) (sym (bound_is t x h)) ∙ g x ∙ ap rows_text (some_same (f x) next e)

mapped_and : (t : Token) (f : ℕ → RowsSoFar) (next : RowsSoFar) (ts : List Token) → option_map f (and_in t) ≡ Some next → ((x : ℕ) → ts ++ token.Operator op.And x ∷ [] ≡ rows_text (f x)) → ts ++ t ∷ [] ≡ rows_text next
mapped_and t f next ts e g = test (and_in t) refl e
  where
    test : (o : Option ℕ) → and_in t ≡ o → option_map f o ≡ Some next → ts ++ t ∷ [] ≡ rows_text next
    test None h e = absurd cc
    test (Some x) h e = ap (λ (u : Token). ts ++ u ∷ []) (sym (and_is t x h)) ∙ g x ∙ ap rows_text (some_same (f x) next e)

behind_rows : (r : Spelling) (t : Token) (next : RowsSoFar) → between_or_bound (word_in word.Between t) r t ≡ Some next → spell_word word.Rows r ∷ t ∷ [] ≡ rows_text next
behind_rows r t next e = test (word_in word.Between t) refl e
  where
    test : (o : Option Spelling) → word_in word.Between t ≡ o → between_or_bound o r t ≡ Some next → spell_word word.Rows r ∷ t ∷ [] ≡ rows_text next
    test None h e = mapped_bound t (λ b. so_far.WantPreceding r b) next (spell_word word.Rows r ∷ []) e (λ b. refl)
    test (Some w) h e = ap (λ (u : Token). spell_word word.Rows r ∷ u ∷ []) (sym (word_is word.Between t w h)) ∙ ap rows_text (some_same (so_far.WantFirst r w) next e)

-- a token that goes on with the rows is read
pub rows_said : (r next : RowsSoFar) (t : Token) → rows_step r t ≡ Some next → rows_text r ++ t ∷ [] ≡ rows_text next
rows_said so_far.WantRows next t e = mapped_word word.Rows t (λ w. so_far.WantBound w) next [] e (λ w. refl)
rows_said (so_far.WantBound r) next t e = behind_rows r t next e
rows_said (so_far.WantPreceding r b) next t e = mapped_word word.Preceding t (λ p. so_far.WantClose (Some (rows.Short r b p))) next (rows_text (so_far.WantPreceding r b)) e (λ p. refl)
rows_said (so_far.WantFirst r w) next t e = mapped_bound t (λ b. so_far.WantFirstPreceding r w b) next (rows_text (so_far.WantFirst r w)) e (λ b. refl)
rows_said (so_far.WantFirstPreceding r w b) next t e = mapped_word word.Preceding t (λ p. so_far.WantAnd (front_of r w b p)) next (rows_text (so_far.WantFirstPreceding r w b)) e (λ p. refl)
rows_said (so_far.WantAnd f) next t e = mapped_and t (λ n. so_far.WantCurrent f n) next (rows_text (so_far.WantAnd f)) e (λ n. refl)
rows_said (so_far.WantCurrent f n) next t e = mapped_word word.Current t (λ c. so_far.WantRow f n c) next (rows_text (so_far.WantCurrent f n)) e (λ c. refl)
rows_said (so_far.WantRow f n c) next t e = mapped_word word.Row t (λ o. so_far.WantClose (Some (rows.Between f n c o))) next (rows_text (so_far.WantRow f n c)) e (λ o. refl)
rows_said (so_far.WantClose r) next t e = absurd cc

-- LAG wants the end at once, a function over rows does not
abbrev pub FitsSoFar : OverHead → RowsSoFar → Type 0
FitsSoFar head (so_far.WantClose r) = FitsRows head r
FitsSoFar (LagOf w open' e back) r = ⊥
FitsSoFar (Ranged agg filter) r = Unit {0}

-- behind a token of the rows there are some
abbrev Later : RowsSoFar → Type 0
Later (so_far.WantClose None) = ⊥
Later r = Unit {0}

mapped_later : {A : Type 0} (o : Option A) (f : A → RowsSoFar) (next : RowsSoFar) → option_map f o ≡ Some next → ((x : A) → Later (f x)) → Later next
mapped_later None f next e g = absurd cc
mapped_later (Some x) f next e g = subst Later (some_same (f x) next e) (g x)

between_later : (o : Option Spelling) (r : Spelling) (t : Token) (next : RowsSoFar) → between_or_bound o r t ≡ Some next → Later next
between_later None r t next e = mapped_later (bound_in t) (λ b. so_far.WantPreceding r b) next e (λ b. tt)
between_later (Some w) r t next e = subst Later (some_same (so_far.WantFirst r w) next e) tt

later : (r next : RowsSoFar) (t : Token) → rows_step r t ≡ Some next → Later next
later so_far.WantRows next t e = mapped_later (word_in word.Rows t) (λ w. so_far.WantBound w) next e (λ w. tt)
later (so_far.WantBound r) next t e = between_later (word_in word.Between t) r t next e
later (so_far.WantPreceding r b) next t e = mapped_later (word_in word.Preceding t) (λ p. so_far.WantClose (Some (rows.Short r b p))) next e (λ p. tt)
later (so_far.WantFirst r w) next t e = mapped_later (bound_in t) (λ b. so_far.WantFirstPreceding r w b) next e (λ b. tt)
later (so_far.WantFirstPreceding r w b) next t e = mapped_later (word_in word.Preceding t) (λ p. so_far.WantAnd (front_of r w b p)) next e (λ p. tt)
later (so_far.WantAnd f) next t e = mapped_later (and_in t) (λ n. so_far.WantCurrent f n) next e (λ n. tt)
later (so_far.WantCurrent f n) next t e = mapped_later (word_in word.Current t) (λ c. so_far.WantRow f n c) next e (λ c. tt)
later (so_far.WantRow f n c) next t e = mapped_later (word_in word.Row t) (λ o. so_far.WantClose (Some (rows.Between f n c o))) next e (λ o. tt)
later (so_far.WantClose r) next t e = absurd cc

fits_later : (agg : OverAgg) (filter : Option Filtering) (next : RowsSoFar) → Later next → FitsSoFar (Ranged agg filter) next
fits_later agg filter (so_far.WantClose None) l = l
fits_later agg filter (so_far.WantClose (Some r)) l = tt
fits_later agg filter next l = tt

pub rows_fit : (head : OverHead) (r next : RowsSoFar) (t : Token) → FitsSoFar head r → rows_step r t ≡ Some next → FitsSoFar head next
rows_fit (LagOf w open' e back) (so_far.WantClose r) next t f s = absurd cc
rows_fit (LagOf w open' e back) r next t f s = absurd f
rows_fit (Ranged agg filter) r next t f s = fits_later agg filter next (later r next t s)

-- ---- the rows are read

-- how far the rows are read behind tokens
abbrev pub rows_run : RowsSoFar → List Token → Option RowsSoFar
rows_run r [] = Some r
rows_run r (t ∷ ts) = option_and_then (λ x. rows_run x ts) (rows_step r t)

goes : (r next : RowsSoFar) (t : Token) (ts : List Token) → rows_step r t ≡ Some next → rows_run r (t ∷ ts) ≡ rows_run next ts
goes r next t ts e = ap (λ (o : Option RowsSoFar). option_and_then (λ x. rows_run x ts) o) e

at-word : (w : Word) (s : Spelling) (f : Spelling → RowsSoFar) → option_map f (word_in w (spell_word w s)) ≡ Some (f s)
at-word w s f = ap (λ (o : Option Spelling). option_map f o) (word-in w s)

at-bound : (b : Bound) (f : Bound → RowsSoFar) → option_map f (bound_in (spell_bound b)) ≡ Some (f b)
at-bound b f = ap (λ (o : Option Bound). option_map f o) (bound-in b)

behind-rows : (r : Spelling) (b : Bound) → rows_step (so_far.WantBound r) (spell_bound b) ≡ Some (so_far.WantPreceding r b)
behind-rows r b = ap (λ (o : Option Spelling). between_or_bound o r (spell_bound b)) (bound-no-between b) ∙ at-bound b (λ x. so_far.WantPreceding r x)

behind-between : (r w : Spelling) → rows_step (so_far.WantBound r) (spell_word word.Between w) ≡ Some (so_far.WantFirst r w)
behind-between r w = ap (λ (o : Option Spelling). between_or_bound o r (spell_word word.Between w)) (word-in word.Between w)

pub rows-read : (x : FrameRows) → rows_run so_far.WantRows (spell_rows (Some x)) ≡ Some (so_far.WantClose (Some x))
rows-read (rows.Short r b p) =
    goes so_far.WantRows (so_far.WantBound r) (spell_word word.Rows r) (spell_bound b ∷ spell_word word.Preceding p ∷ []) (at-word word.Rows r (λ w. so_far.WantBound w))
    ∙ goes (so_far.WantBound r) (so_far.WantPreceding r b) (spell_bound b) (spell_word word.Preceding p ∷ []) (behind-rows r b)
    ∙ goes (so_far.WantPreceding r b) (so_far.WantClose (Some (rows.Short r b p))) (spell_word word.Preceding p) [] (at-word word.Preceding p (λ w. so_far.WantClose (Some (rows.Short r b w))))
rows-read (rows.Between f n c o) =
    let last : List Token = spell_word word.Row o ∷ [] in
    let current : List Token = spell_word word.Current c ∷ last in
    let ands : List Token = token.Operator op.And n ∷ current in
    let preceding : List Token = spell_word word.Preceding f.preceding ∷ ands in
    let bounds : List Token = spell_bound f.bound ∷ preceding in
    goes so_far.WantRows (so_far.WantBound f.rows) (spell_word word.Rows f.rows) (spell_word word.Between f.between ∷ bounds) (at-word word.Rows f.rows (λ w. so_far.WantBound w))
    ∙ goes (so_far.WantBound f.rows) (so_far.WantFirst f.rows f.between) (spell_word word.Between f.between) bounds (behind-between f.rows f.between)
    ∙ goes (so_far.WantFirst f.rows f.between) (so_far.WantFirstPreceding f.rows f.between f.bound) (spell_bound f.bound) preceding (at-bound f.bound (λ b. so_far.WantFirstPreceding f.rows f.between b))
    ∙ goes (so_far.WantFirstPreceding f.rows f.between f.bound) (so_far.WantAnd f) (spell_word word.Preceding f.preceding) ands (at-word word.Preceding f.preceding (λ p. so_far.WantAnd (front_of f.rows f.between f.bound p)))
    ∙ goes (so_far.WantAnd f) (so_far.WantCurrent f n) (token.Operator op.And n) current refl
    ∙ goes (so_far.WantCurrent f n) (so_far.WantRow f n c) (spell_word word.Current c) last (at-word word.Current c (λ w. so_far.WantRow f n w))
    ∙ goes (so_far.WantRow f n c) (so_far.WantClose (Some (rows.Between f n c o))) (spell_word word.Row o) [] (at-word word.Row o (λ w. so_far.WantClose (Some (rows.Between f n c w))))
