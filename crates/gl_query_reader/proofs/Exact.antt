-- Each fault of tokens is the one that is answered.
use Rattle.std.proofs.Common.{◌≡◌, ℕ, true, List, [], ◌∷◌, ◌++◌, Option, Some, None, Result, Ok, Err, refl, sym, ap, subst, ◌∙◌, inl, inr}
use Rattle.gl_query.specs.declared.tree.Statement as tree
use Rattle.gl_query.specs.declared.fault.QueryFault.{QueryFault}
use Rattle.gl_query.specs.declared.fault.QueryFault.TheVariants as fault
use Rattle.gl_query_tokens.specs.declared.token.Token.{Token}
use Rattle.gl_query_tokens.specs.declared.token.Lexeme.{Lexeme}
use Rattle.gl_query_reader.specs.declared.limits.Counts.{Counts}
use Rattle.gl_query_reader.specs.declared.parsing.ReadFault.TheVariants.{Syntax, TooDeep}
use Rattle.gl_query_reader.specs.Written.{Statement}
use Rattle.gl_query_reader.specs.States.{State, start}
use Rattle.gl_query_reader.specs.Machine.{step, finish}
use Rattle.gl_query_reader.specs.Limits.{none_counted, after, counted, is_past, keeps_limits}
use Rattle.gl_query.specs.Trees.{StatementTree, statement_tree}
use Rattle.gl_query_reader.specs.Reading.{run, or_syntax, with_items, answered, Answers}
use Rattle.gl_query_reader.specs.Grammar.{bare_tokens, Derives, CanBegin, Stops, HaveSyntaxFault, HaveDepthFault, HaveItemsFault, IsErrOrMemory, Verdict}
use Rattle.gl_query_reader.proofs.Steps.{steps, run-steps, is-machine}
use Rattle.gl_query_reader.proofs.ReadQueries.{final, finishes, reads_statement}
use Rattle.gl_query_reader.proofs.Sound.{derives, sound_step}
use Rattle.gl_query_reader.proofs.BeginsAll.{begins}
use Rattle.gl_query_reader.proofs.Meets.{answer_for, read_to, bare-push}
use Rattle.gl_bits.proofs.Options.{then_some}
use Rattle.gl_query_reader.proofs.Loop.{run-syntax}
use Rattle.gl_bits.proofs.Bools.{guard_true}
use Rattle.gl_bits.proofs.Machines.{machine-front, machine-parts}

-- what begins a statement is read
reads_front : (ts : List Token) → CanBegin ts → (s : State) × (steps start ts ≡ Some s)
reads_front ts b =
    let g = machine-front step steps is-machine ts b.0 start (final b.1) (ap (steps start) (sym b.2.spelled) ∙ reads_statement b.1 b.2.grammar) in
    (g.0, g.1)

-- reading goes on behind tokens that pass no limit
pub run-front : (len : ℕ) (ls more : List Lexeme) (n : Counts) (s s' : State) → keeps_limits n (bare_tokens ls) ≡ true → steps s (bare_tokens ls) ≡ Some s' → run len n s (ls ++ more) ≡ run len (counted n (bare_tokens ls)) s' more
unfolding run steps
run-front len [] more n s s' k e = let same : s ≡ s' = cc in rw same refl
run-front len (l ∷ ls) more n s s' k e =
    let g = then_some (λ x. steps x (bare_tokens ls)) (step s l.token) s' e in
    let h = guard_true (is_past (after n l.token)) (keeps_limits (after n l.token) (bare_tokens ls)) k in
    rw (g.1, h.0) (run-front len ls more (after n l.token) g.0 s' h.1 g.2)

run-deep : (len : ℕ) (n : Counts) (s s' : State) (l : Lexeme) (ls : List Lexeme) → step s l.token ≡ Some s' → is_past (after n l.token) ≡ true → run len n s (l ∷ ls) ≡ Err (TooDeep l.at)
unfolding run
run-deep len n s s' l ls e p = rw (e, p) refl

run-short : (len : ℕ) (n : Counts) (s : State) → finish s ≡ None → run len n s [] ≡ Err (Syntax len)
unfolding run
run-short len n s e = rw e refl

-- ---- no statement goes on, so the reader cannot

cannot_step : (read : List Lexeme) (l : Lexeme) (s : State) → steps start (bare_tokens read) ≡ Some s → (CanBegin (bare_tokens (read ++ l ∷ [])) → ⊥) → step s l.token ≡ None
cannot_step read l s e no_more = test (step s l.token) refl
  where
    test : (o : Option State) → step s l.token ≡ o → step s l.token ≡ None
    test None f = f
    test (Some s') f = absurd (no_more (subst (λ (x : List Token). CanBegin x) (sym (bare-push read l)) (begins s' (bare_tokens read ++ l.token ∷ []) (sound_step s s' l.token (bare_tokens read) (read_to (bare_tokens read) s e) f))))

cannot_finish : (ts : List Token) (s : State) → steps start ts ≡ Some s → ((w : Statement) → Derives ts w → ⊥) → finish s ≡ None
cannot_finish ts s e none_there = test (finish s) refl
  where
    test : (o : Option Statement) → finish s ≡ o → finish s ≡ None
    test None f = f
    test (Some w) f = absurd (none_there w (derives ts s w e f))

halts : (len at : ℕ) (read left : List Lexeme) (s : State) → keeps_limits none_counted (bare_tokens read) ≡ true → steps start (bare_tokens read) ≡ Some s → Stops len at read left → run len none_counted start (read ++ left) ≡ Err (Syntax at)
halts len at read [] s k e st =
    run-front len read [] none_counted start s k e
    ∙ run-short len (counted none_counted (bare_tokens read)) s (cannot_finish (bare_tokens read) s e st.1)
    ∙ ap (λ (n : ℕ). Err (Syntax n)) (sym st.0)
halts len at read (l ∷ left) s k e st =
    run-front len read (l ∷ left) none_counted start s k e
    ∙ run-syntax len (counted none_counted (bare_tokens read)) s l left (cannot_step read l s e st.1)
    ∙ ap (λ (n : ℕ). Err (Syntax n)) (sym st.0)

pub syntax_answer : (tokens : List Lexeme) (end at : ℕ) → HaveSyntaxFault tokens end at → answer_for tokens end ≡ Err (fault.Syntax at)
syntax_answer tokens end at h =
    let r = reads_front (bare_tokens h.read) h.begins in
    ap (λ (ls : List Lexeme). answered (run end none_counted start ls)) h.parts
    ∙ ap answered (halts end at h.read h.left r.0 h.limits r.1 h.stops)

counted-push : (n : Counts) (ts : List Token) (t : Token) → counted n (ts ++ t ∷ []) ≡ after (counted n ts) t
counted-push n [] t = refl
counted-push n (x ∷ ts) t = counted-push (after n x) ts t

one_step : (s y : State) (t : Token) → steps s (t ∷ []) ≡ Some y → (x : State) × (step s t ≡ Some x)
one_step s y t e = let p = machine-parts step steps is-machine s y t [] e in (p.0, p.1)

pub depth_answer : (tokens : List Lexeme) (end at : ℕ) → HaveDepthFault tokens at → answer_for tokens end ≡ Err (fault.TooDeep at)
depth_answer tokens end at h =
    let r = reads_front (bare_tokens h.read ++ h.deep.token ∷ []) (subst (λ (x : List Token). CanBegin x) (bare-push h.read h.deep) h.begins) in
    let f = machine-front step steps is-machine (bare_tokens h.read) (h.deep.token ∷ []) start r.0 r.1 in
    let o = one_step f.0 r.0 h.deep.token f.2 in
    let p : is_past (after (counted none_counted (bare_tokens h.read)) h.deep.token) ≡ true = ap is_past (sym (counted-push none_counted (bare_tokens h.read) h.deep.token)) ∙ ap (λ (x : List Token). is_past (counted none_counted x)) (sym (bare-push h.read h.deep)) ∙ h.past in
    ap (λ (ls : List Lexeme). answered (run end none_counted start ls)) h.parts
    ∙ ap answered (run-front end h.read (h.deep ∷ h.left) none_counted start f.0 h.limits f.1 ∙ run-deep end (counted none_counted (bare_tokens h.read)) f.0 o.0 h.deep h.left o.1 p)
    ∙ ap (λ (n : ℕ). Err (fault.TooDeep n)) (sym h.place)

pub items_answer : (tokens : List Lexeme) (end at : ℕ) → HaveItemsFault tokens at → answer_for tokens end ≡ Err (fault.MixedItems at)
items_answer tokens end at h =
    let read : steps start (bare_tokens tokens) ≡ Some (final h.written) = ap (steps start) (sym h.derived.spelled) ∙ reads_statement h.written h.derived.grammar in
    ap answered (run-steps end tokens none_counted start (final h.written) h.limits read ∙ ap (λ (o : Option Statement). or_syntax o end) (finishes h.written))
    ∙ ap (λ (o : Option ℕ). with_items o h.written) h.items

-- ---- for a returned value

not_ok : (x : Verdict) (e : QueryFault) (m : StatementTree) → x ≡ Err e → x ≡ Ok m → ⊥
not_ok x e m f g = absurd cc

same_fault : (x : Verdict) (a b : QueryFault) → x ≡ Err a → x ≡ Err b → a ≡ b
same_fault x a b f g = cc

is_that : (r : Result tree.Statement QueryFault) (x : Verdict) (e : QueryFault) → Answers r x → x ≡ Err e → IsErrOrMemory r e
is_that (Ok s) x e a f = absurd (not_ok x e (statement_tree s) f a)
is_that (Err fault.Memory) x e a f = inr refl
is_that (Err d) x e a f = inl (ap (λ (y : QueryFault). Err y) (same_fault x d e a f))

pub syntax : (tokens : List Lexeme) (end : ℕ) (r : Result tree.Statement QueryFault) → Answers r (answer_for tokens end) → (at : ℕ) → HaveSyntaxFault tokens end at → IsErrOrMemory r (fault.Syntax at)
syntax tokens end r a at h = is_that r (answer_for tokens end) (fault.Syntax at) a (syntax_answer tokens end at h)

pub too_deep : (tokens : List Lexeme) (end : ℕ) (r : Result tree.Statement QueryFault) → Answers r (answer_for tokens end) → (at : ℕ) → HaveDepthFault tokens at → IsErrOrMemory r (fault.TooDeep at)
too_deep tokens end r a at h = is_that r (answer_for tokens end) (fault.TooDeep at) a (depth_answer tokens end at h)

pub mixed : (tokens : List Lexeme) (end : ℕ) (r : Result tree.Statement QueryFault) → Answers r (answer_for tokens end) → (at : ℕ) → HaveItemsFault tokens at → IsErrOrMemory r (fault.MixedItems at)
mixed tokens end r a at h = is_that r (answer_for tokens end) (fault.MixedItems at) a (items_answer tokens end at h)
