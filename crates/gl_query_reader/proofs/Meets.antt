-- What reading comes to, in the words of the grammar.
use Rattle.std.proofs.Common.{◌≡◌, ℕ, Bool, true, false, List, [], ◌∷◌, ◌++◌, Option, Some, None, Result, Ok, Err, refl, sym, ap, subst, ◌∙◌, append_assoc}
use Rattle.std.specs.Prelude.{IfOk, IfErr}
use Rattle.std.proofs.lemmas.List.{map-append}
use Rattle.gl_query.specs.declared.tree.Statement as tree
use Rattle.gl_query.specs.declared.fault.QueryFault.{QueryFault}
use Rattle.gl_query.specs.declared.fault.QueryFault.TheVariants as fault
use Rattle.gl_query_tokens.specs.declared.token.Token.{Token}
use Rattle.gl_query_tokens.specs.declared.token.Lexeme.{Lexeme}
use Rattle.gl_query_reader.specs.declared.limits.Counts.{Counts}
use Rattle.gl_query_reader.specs.declared.parsing.ReadFault.{ReadFault}
use Rattle.gl_query_reader.specs.declared.parsing.ReadFault.TheVariants.{Syntax, TooDeep, Memory}
use Rattle.gl_query_reader.specs.Written.{Statement, spell_statement}
use Rattle.gl_query_reader.specs.States.{State, start}
use Rattle.gl_query_reader.specs.Machine.{step, finish}
use Rattle.gl_query_reader.specs.Limits.{none_counted, after, counted, is_past, keeps_limits}
use Rattle.gl_query.specs.Trees.{StatementTree, statement_tree}
use Rattle.gl_query_reader.specs.Mixed.{mixed_in}
use Rattle.gl_query_reader.specs.Reading.{run, or_syntax, checked, with_items, answered, Answers}
use Rattle.gl_query_reader.specs.Grammar.{bare_tokens, Derives, CanBegin, HaveStatement, IsOrMemory, Stops, HaveFault, HaveVerdict}
use Rattle.gl_query_reader.proofs.Steps.{steps, run-steps, is-machine}
use Rattle.gl_query_reader.proofs.ReadQueries.{final, finishes, reads_statement}
use Rattle.gl_query_reader.proofs.Said.{Read}
use Rattle.gl_query_reader.proofs.Sound.{derives, sound_step, sound_steps, read_start}
use Rattle.gl_query_reader.proofs.BeginsAll.{begins}
use Rattle.gl_bits.proofs.Options.{then_some}
use Rattle.gl_bits.proofs.Machines.{machine-append}

-- tokens that were read to a state, within the limits
pub record Came (n : Counts) (s : State) (read : List Lexeme) (s' : State) : Type 0 where
  pub steps : steps s (bare_tokens read) ≡ Some s'
  pub limits : keeps_limits n (bare_tokens read) ≡ true

-- the reader cannot go on
abbrev pub Halts : ℕ → ℕ → State → List Lexeme → Type 0
Halts len at s [] = (at ≡ len) × (finish s ≡ None)
Halts len at s (l ∷ left) = (at ≡ l.at) × (step s l.token ≡ None)

pub record Halted (len : ℕ) (n : Counts) (s : State) (ls : List Lexeme) (at : ℕ) : Type 0 where
  pub read : List Lexeme
  pub left : List Lexeme
  pub there : State
  pub parts : ls ≡ read ++ left
  pub came : Came n s read there
  pub halts : Halts len at there left

pub record Passed (n : Counts) (s : State) (ls : List Lexeme) (at : ℕ) : Type 0 where
  pub read : List Lexeme
  pub deep : Lexeme
  pub left : List Lexeme
  pub there : State
  pub beyond : State
  pub parts : ls ≡ read ++ deep ∷ left
  pub came : Came n s read there
  pub goes : step there deep.token ≡ Some beyond
  pub place : at ≡ deep.at
  pub past : is_past (counted n (bare_tokens (read ++ deep ∷ []))) ≡ true

pub record Ended (n : Counts) (s : State) (ls : List Lexeme) (w : Statement) : Type 0 where
  pub there : State
  pub came : Came n s ls there
  pub done : finish there ≡ Some w

abbrev pub Met : ℕ → Counts → State → List Lexeme → Result Statement ReadFault → Type 0
Met len n s ls (Ok w) = Ended n s ls w
Met len n s ls (Err (Syntax at)) = Halted len n s ls at
Met len n s ls (Err (TooDeep at)) = Passed n s ls at
Met len n s ls (Err Memory) = ⊥

came-none : (n : Counts) (s : State) → Came n s [] s
unfolding steps
came-none n s = record { steps = refl; limits = refl }

came-more : (n : Counts) (s s' s'' : State) (l : Lexeme) (ls : List Lexeme) → step s l.token ≡ Some s' → is_past (after n l.token) ≡ false → Came (after n l.token) s' ls s'' → Came n s (l ∷ ls) s''
unfolding steps
came-more n s s' s'' l ls st le c = record { steps = rw st c.steps; limits = rw le c.limits }

met-more : (len : ℕ) (n : Counts) (s s' : State) (l : Lexeme) (ls : List Lexeme) (r : Result Statement ReadFault) → step s l.token ≡ Some s' → is_past (after n l.token) ≡ false → Met len (after n l.token) s' ls r → Met len n s (l ∷ ls) r
met-more len n s s' l ls (Ok w) st le m = record { there = m.there; came = came-more n s s' m.there l ls st le m.came; done = m.done }
met-more len n s s' l ls (Err (Syntax at)) st le m = record { read = l ∷ m.read; left = m.left; there = m.there; parts = ap (λ (x : List Lexeme). l ∷ x) m.parts; came = came-more n s s' m.there l m.read st le m.came; halts = m.halts }
met-more len n s s' l ls (Err (TooDeep at)) st le m = record { read = l ∷ m.read; deep = m.deep; left = m.left; there = m.there; beyond = m.beyond; parts = ap (λ (x : List Lexeme). l ∷ x) m.parts; came = came-more n s s' m.there l m.read st le m.came; goes = m.goes; place = m.place; past = m.past }
met-more len n s s' l ls (Err Memory) st le m = absurd m

pub meets : (len : ℕ) (ls : List Lexeme) (n : Counts) (s : State) → Met len n s ls (run len n s ls)
unfolding run
meets len [] n s = at_end (finish s) refl
  where
    at_end : (o : Option Statement) → finish s ≡ o → Met len n s [] (or_syntax o len)
    at_end None e = record { read = []; left = []; there = s; parts = refl; came = came-none n s; halts = (refl, e) }
    at_end (Some w) e = record { there = s; came = came-none n s; done = e }
meets len (l ∷ ls) n s = at_token (λ s'. meets len ls (after n l.token) s') (step s l.token) refl (is_past (after n l.token)) refl
  where
    at_token : ((s' : State) → Met len (after n l.token) s' ls (run len (after n l.token) s' ls)) → (o : Option State) → step s l.token ≡ o → (b : Bool) → is_past (after n l.token) ≡ b → Met len n s (l ∷ ls) (checked l.at o b (λ s'. run len (after n l.token) s' ls))
    at_token next None e b p = record { read = []; left = l ∷ ls; there = s; parts = refl; came = came-none n s; halts = (refl, e) }
    at_token next (Some s') e true p = record { read = []; deep = l; left = ls; there = s; beyond = s'; parts = refl; came = came-none n s; goes = e; place = refl; past = p }
    at_token next (Some s') e false p = met-more len n s s' l ls _ e p (next s')

-- ---- in the words of the grammar

none_is : {A : Type 0} (P : Type 0) (o : Option A) (a : A) → o ≡ None → o ≡ Some a → P
none_is P o a e f = absurd cc

-- where a statement goes on, the reader does
goes_on : (pre : List Token) (t : Token) (s : State) → steps start pre ≡ Some s → step s t ≡ None → CanBegin (pre ++ t ∷ []) → ⊥
unfolding steps
goes_on pre t s e cannot b =
    let all : steps start (spell_statement b.1) ≡ Some (final b.1) = reads_statement b.1 b.2.grammar in
    let same : spell_statement b.1 ≡ pre ++ (t ∷ b.0) = b.2.spelled ∙ append_assoc pre (t ∷ []) b.0 in
    let rest : steps s (t ∷ b.0) ≡ Some (final b.1) = sym (machine-append step steps is-machine pre (t ∷ b.0) start s e) ∙ ap (steps start) (sym same) ∙ all in
    let g = then_some (λ x. steps x b.0) (step s t) (final b.1) rest in
    none_is ⊥ (step s t) g.0 cannot g.1

some_state : (x : Option State) (a b : State) → x ≡ Some a → x ≡ Some b → a ≡ b
some_state x a b e f = cc

ends : (pre : List Token) (s : State) (w : Statement) → steps start pre ≡ Some s → finish s ≡ None → Derives pre w → ⊥
ends pre s w e cannot d =
    let same : s ≡ final w = some_state (steps start pre) s (final w) e (ap (steps start) (sym d.spelled) ∙ reads_statement w d.grammar) in
    none_is ⊥ (finish s) w cannot (ap finish same ∙ finishes w)

pub bare-push : (ls : List Lexeme) (l : Lexeme) → bare_tokens (ls ++ l ∷ []) ≡ bare_tokens ls ++ l.token ∷ []
bare-push ls l = map-append (λ (x : Lexeme). x.token) ls (l ∷ [])

stops : (len at : ℕ) (read left : List Lexeme) (s : State) → steps start (bare_tokens read) ≡ Some s → Halts len at s left → Stops len at read left
stops len at read [] s e h = (h.0, λ w d. ends (bare_tokens read) s w e h.1 d)
stops len at read (l ∷ left) s e h = (h.0, λ b. goes_on (bare_tokens read) l.token s e h.1 (subst (λ (x : List Token). CanBegin x) (bare-push read l) b))

-- the answer for tokens and where they end
abbrev pub answer_for : List Lexeme → ℕ → Result StatementTree QueryFault
answer_for tokens end = answered (run end none_counted start tokens)

-- a statement within the limits is answered
pub only_answer : (tokens : List Lexeme) (end : ℕ) (s : StatementTree) → HaveStatement tokens s → answer_for tokens end ≡ Ok s
only_answer tokens end s h =
    let read : steps start (bare_tokens tokens) ≡ Some (final h.written) = ap (steps start) (sym h.derived.spelled) ∙ reads_statement h.written h.derived.grammar in
    ap answered (run-steps end tokens none_counted start (final h.written) h.limits read ∙ ap (λ (o : Option Statement). or_syntax o end) (finishes h.written))
    ∙ ap (λ (o : Option ℕ). with_items o h.written) h.items
    ∙ ap (λ (x : StatementTree). Ok x) (sym h.means)

of_written : (tokens : List Lexeme) (end : ℕ) (w : Statement) → Ended none_counted start tokens w → HaveVerdict tokens end (with_items (mixed_in w.query) w)
of_written tokens end w m = test (mixed_in w.query) refl
  where
    test : (o : Option ℕ) → mixed_in w.query ≡ o → HaveVerdict tokens end (with_items o w)
    test None e = record { written = w; derived = derives _ m.there w m.came.steps m.done; limits = m.came.limits; items = e; means = refl }
    test (Some at) e = record { written = w; derived = derives _ m.there w m.came.steps m.done; limits = m.came.limits; items = e }

pub read_to : (ts : List Token) (s : State) → steps start ts ≡ Some s → Read s ts
read_to ts s e = sound_steps ts start s [] read_start e

of_result : (tokens : List Lexeme) (end : ℕ) (r : Result Statement ReadFault) → Met end none_counted start tokens r → HaveVerdict tokens end (answered r)
of_result tokens end (Ok w) m = of_written tokens end w m
of_result tokens end (Err (Syntax at)) m = record { read = m.read; left = m.left; parts = m.parts; limits = m.came.limits; begins = begins m.there (bare_tokens m.read) (read_to (bare_tokens m.read) m.there m.came.steps); stops = stops end at m.read m.left m.there m.came.steps m.halts }
of_result tokens end (Err (TooDeep at)) m = record { read = m.read; deep = m.deep; left = m.left; parts = m.parts; place = m.place; limits = m.came.limits; past = m.past; begins = subst (λ (x : List Token). CanBegin x) (sym (bare-push m.read m.deep)) (begins m.beyond (bare_tokens m.read ++ m.deep.token ∷ []) (sound_step m.there m.beyond m.deep.token (bare_tokens m.read) (read_to (bare_tokens m.read) m.there m.came.steps) m.goes)) }
of_result tokens end (Err Memory) m = absurd m

pub answer_is : (tokens : List Lexeme) (end : ℕ) → HaveVerdict tokens end (answer_for tokens end)
answer_is tokens end = of_result tokens end _ (meets end tokens none_counted start)

-- ---- for a returned value

pub found : (tokens : List Lexeme) (end : ℕ) (r : Result tree.Statement QueryFault) → Answers r (answer_for tokens end) → IfOk r (λ s. HaveStatement tokens (statement_tree s))
found tokens end (Ok s) a = subst (λ (x : Result StatementTree QueryFault). HaveVerdict tokens end x) a (answer_is tokens end)
found tokens end (Err e) a = tt

ok_is : (r : Result StatementTree QueryFault) (a b : StatementTree) → r ≡ Ok a → r ≡ Ok b → a ≡ b
ok_is r a b e f = cc

pub only : (tokens : List Lexeme) (end : ℕ) (r : Result tree.Statement QueryFault) → Answers r (answer_for tokens end) → (s : StatementTree) → HaveStatement tokens s → IsOrMemory r s
only tokens end (Ok s) a m h = ok_is (answer_for tokens end) (statement_tree s) m a (only_answer tokens end m h)
only tokens end (Err fault.Memory) a m h = tt
only tokens end (Err e) a m h = absurd (differ (answer_for tokens end) _ m a (only_answer tokens end m h))
  where
    differ : (x : Result StatementTree QueryFault) (e : QueryFault) (m : StatementTree) → x ≡ Err e → x ≡ Ok m → ⊥
    differ x e m f g = absurd cc

pub faults : (tokens : List Lexeme) (end : ℕ) (r : Result tree.Statement QueryFault) → Answers r (answer_for tokens end) → IfErr r (λ e. HaveFault tokens end e)
faults tokens end (Ok s) a = tt
faults tokens end (Err fault.Memory) a = tt
faults tokens end (Err e) a = subst (λ (x : Result StatementTree QueryFault). HaveVerdict tokens end x) a (answer_is tokens end)
