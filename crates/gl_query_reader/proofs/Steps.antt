-- One token after the other, whatever the limits.
use Rattle.std.proofs.Common.{◌≡◌, ℕ, true, List, [], ◌∷◌, Option, Some, refl}
use Rattle.std.specs.Prelude.{option_and_then}
use Rattle.gl_query_tokens.specs.declared.token.Token.{Token}
use Rattle.gl_query_tokens.specs.declared.token.Lexeme.{Lexeme}
use Rattle.gl_query_reader.specs.declared.limits.Counts.{Counts}
use Rattle.gl_query_reader.specs.States.{State, Control, Frame}
use Rattle.gl_query_reader.specs.Machine.{step, finish}
use Rattle.gl_query_reader.specs.Limits.{after, is_past, keeps_limits}
use Rattle.gl_query_reader.specs.Reading.{run, or_syntax}
use Rattle.gl_query_reader.specs.Grammar.{bare_tokens}
use Rattle.gl_bits.proofs.Options.{then_some}
use Rattle.gl_bits.proofs.Machines.{IsMachine}
use Rattle.gl_bits.proofs.Bools.{guard_true}

-- the state behind tokens that can stand there
unfoldable pub steps : State → List Token → Option State
steps s [] = Some s
steps s (t ∷ ts) = option_and_then (λ s'. steps s' ts) (step s t)

abbrev pub state : Control → List Frame → State
state control fs = record { control = control; frames = fs }

-- the steps are those of a machine
pub is-machine : IsMachine step steps
unfolding steps
is-machine = record { none_left = λ s. refl; goes = λ s x t ts e. rw e refl; stops = λ s t ts e. rw e refl }

-- tokens that lead to a state and pass no limit are read to their end
pub run-steps : (len : ℕ) (ls : List Lexeme) (n : Counts) (s s' : State) → keeps_limits n (bare_tokens ls) ≡ true → steps s (bare_tokens ls) ≡ Some s' → run len n s ls ≡ or_syntax (finish s') len
unfolding run steps
run-steps len [] n s s' k e = let same : s ≡ s' = cc in rw same refl
run-steps len (l ∷ ls) n s s' k e =
    let g = then_some (λ x. steps x (bare_tokens ls)) (step s l.token) s' e in
    let h = guard_true (is_past (after n l.token)) (keeps_limits (after n l.token) (bare_tokens ls)) k in
    rw (g.1, h.0) (run-steps len ls (after n l.token) g.0 s' h.1 g.2)
