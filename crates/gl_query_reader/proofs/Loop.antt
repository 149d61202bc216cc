-- One token after the other, as a loop does.
use Rattle.std.proofs.Common.{◌≡◌, ℕ, true, false, List, [], ◌∷◌, ◌++◌, reverse, Option, Some, None, Err, refl}
use Rattle.std.specs.Prelude.{is_some}
use Rattle.std.proofs.lemmas.Bool.{false≢true}
use Rattle.std.proofs.lemmas.List.{reverse-append}
use Rattle.gl_query_tokens.specs.declared.token.Lexeme.{Lexeme}
use Rattle.gl_query_reader.specs.declared.limits.Counts.{Counts}
use Rattle.gl_query_reader.specs.declared.parsing.ReadFault.TheVariants.{Syntax, TooDeep}
use Rattle.gl_query_reader.specs.States.{State}
use Rattle.gl_query_reader.specs.Machine.{step, finish, finish_at}
use Rattle.gl_query_reader.specs.Limits.{after, is_past}
use Rattle.gl_query_reader.specs.Reading.{run, or_syntax, checked}

pub left-push : (ls : List Lexeme) (l : Lexeme) → reverse (ls ++ l ∷ []) ≡ l ∷ reverse ls
left-push ls l = reverse-append ls (l ∷ [])

pub run-goes_on : (len : ℕ) (n : Counts) (s s' : State) (l : Lexeme) (ls : List Lexeme) → step s l.token ≡ Some s' → is_past (after n l.token) ≡ false → run len n s (l ∷ ls) ≡ run len (after n l.token) s' ls
unfolding run
run-goes_on len n s s' l ls st le = rw (st, le) refl

pub run-syntax : (len : ℕ) (n : Counts) (s : State) (l : Lexeme) (ls : List Lexeme) → step s l.token ≡ None → run len n s (l ∷ ls) ≡ Err (Syntax l.at)
unfolding run
run-syntax len n s l ls st = rw st refl

pub run-too_deep : (len : ℕ) (n : Counts) (s : State) (l : Lexeme) (ls : List Lexeme) → is_some (step s l.token) ≡ true → is_past (after n l.token) ≡ true → run len n s (l ∷ ls) ≡ Err (TooDeep l.at)
unfolding run
run-too_deep len n s l ls st le = at_step (step s l.token) st
  where
    at_step : (o : Option State) → is_some o ≡ true → checked l.at o (is_past (after n l.token)) (λ s'. run len (after n l.token) s' ls) ≡ Err (TooDeep l.at)
    at_step None h = absurd (false≢true h)
    at_step (Some s') h = rw le refl

pub run-end : (len : ℕ) (n : Counts) (s : State) → run len n s [] ≡ or_syntax (finish_at s.control) len
unfolding run finish
run-end len n s = refl

pub ruleset loop_steps = (left-push, run-goes_on, run-syntax, run-too_deep, run-end)
