-- One token of what the machine reads, its end, and what is said of the tokens.
use Rattle.std.proofs.Common.{◌≡◌, ℕ, zero, suc, ◌+◌, ◌<◌, ◌≤◌, true, false, List, [], ◌∷◌, length, drop, get_or, Option, Some, None, Result, Ok, Err, refl, sym, ap, subst, ◌∙◌, add-one, drop-cons, arith}
use Rattle.std.specs.Prelude.{MatchResult}
use Rattle.std.proofs.lemmas.List.{drop_all}
use Rattle.gl_verilog.specs.Tokens.{Token}
use Rattle.gl_verilog.specs.Written.{WrittenModule}
use Rattle.gl_verilog_faults.specs.Counts.{Counts, after, is_past}
use Rattle.gl_verilog_faults.specs.Marks.{State as Place, role_at, next}
use Rattle.gl_verilog_tokens.specs.declared.token.Lexeme.{Lexeme}
use Rattle.gl_verilog_tokens.specs.declared.fault.VerilogFault.{VerilogFault}
use Rattle.gl_verilog_tokens.specs.declared.fault.VerilogFault.TheVariants as fault
use Rattle.gl_verilog_tokens.specs.declared.written.WrittenModule as code
use Rattle.gl_verilog_tokens.specs.View.{module_of, token_of, tokens_in}
use Rattle.gl_verilog_grammar.specs.Machine.{State, step, finish}
use Rattle.gl_verilog_grammar.specs.Reading.{Fault, Syntax, TooDeep, or_fault, read_from}
use Rattle.gl_verilog_grammar.specs.Answers.{place_in, Stand, read_on, Goes, IsGiven, StopsAt, IsRead}

pub goes : (s s' : Stand) (t : Token) → step s.state t ≡ Some s'.state → s'.place ≡ next s.place t → s'.counts ≡ after s.counts (role_at s.place t) → is_past s'.counts ≡ false → Goes t s s'
unfolding read_from
goes s s' t e q n p at ts =
    let p' : is_past (after s.counts (role_at s.place t)) ≡ false = subst (λ (x : Counts). is_past x ≡ false) n p in
    rw (e, p') (ap (λ (x : Place). read_from (at + 1) s'.state x (after s.counts (role_at s.place t)) ts) (sym q) ∙ ap (λ (x : Counts). read_from (at + 1) s'.state s'.place x ts) (sym n))

pub stops : (s : Stand) (t : Token) → step s.state t ≡ None → (at : ℕ) (ts : List Token) → read_on at s (t ∷ ts) ≡ Err (Syntax at)
unfolding read_from
stops s t e at ts = rw e refl

pub passes : (s : Stand) (x : State) (n : Counts) (t : Token) → step s.state t ≡ Some x → n ≡ after s.counts (role_at s.place t) → is_past n ≡ true → (at : ℕ) (ts : List Token) → read_on at s (t ∷ ts) ≡ Err (TooDeep at)
unfolding read_from
passes s x n t e q p at ts =
    let p' : is_past (after s.counts (role_at s.place t)) ≡ true = subst (λ (y : Counts). is_past y ≡ true) q p in
    rw (e, p') refl

pub ends : (s : Stand) (at : ℕ) → read_on at s [] ≡ or_fault (finish s.state) (Syntax at)
unfolding read_from
ends s at = refl

-- ---- the loop over lexemes

tokens_next : (xs : List Lexeme) (i : ℕ) (d : Lexeme) → i < length xs → tokens_in (drop i xs) ≡ token_of (get_or xs i d).token ∷ tokens_in (drop (i + 1) xs)
tokens_next xs i d lt = ap tokens_in (drop-cons xs i d lt) ∙ ap (λ (k : ℕ). token_of (get_or xs i d).token ∷ tokens_in (drop k xs)) (sym (add-one i))

pub read_next : (xs : List Lexeme) (i : ℕ) (d : Lexeme) (s s' : Stand) (total : Result WrittenModule Fault) → i < length xs → Goes (token_of (get_or xs i d).token) s s' → read_on i s (tokens_in (drop i xs)) ≡ total → read_on (i + 1) s' (tokens_in (drop (i + 1) xs)) ≡ total
read_next xs i d s s' total lt g h = sym (g i (tokens_in (drop (i + 1) xs))) ∙ ap (read_on i s) (sym (tokens_next xs i d lt)) ∙ h

place_is : (xs : List Lexeme) (end' i : ℕ) (d : Lexeme) → i < length xs → (get_or xs i d).at ≡ place_in xs end' i
place_is [] end' i d lt = absurd (omega arith)
place_is (x ∷ xs) end' zero d lt = refl
place_is (x ∷ xs) end' (suc i) d lt = place_is xs end' i d (omega arith)

place_end : (xs : List Lexeme) (end' i : ℕ) → length xs ≤ i → end' ≡ place_in xs end' i
place_end [] end' i le = refl
place_end (x ∷ xs) end' zero le = absurd (omega arith)
place_end (x ∷ xs) end' (suc i) le = place_end xs end' i (omega arith)

given : (e : VerilogFault) (place place' k : ℕ) (run total : Result WrittenModule Fault) → place ≡ place' → run ≡ total → IsGiven e place k run → IsGiven e place' k total
given e place place' k run total p q h = subst (λ (x : ℕ). IsGiven e x k total) p (subst (IsGiven e place k) q h)

pub read_fails : (xs : List Lexeme) (end' i : ℕ) (d : Lexeme) (s : Stand) (e : VerilogFault) (total : Result WrittenModule Fault) → i < length xs → StopsAt e (get_or xs i d).at (token_of (get_or xs i d).token) s → read_on i s (tokens_in (drop i xs)) ≡ total → IsRead (Err e) xs end' total
read_fails xs end' i d s e total lt stop h =
    (i, given e (get_or xs i d).at (place_in xs end' i) i (read_on i s (token_of (get_or xs i d).token ∷ tokens_in (drop (i + 1) xs))) total (place_is xs end' i d lt) (ap (read_on i s) (sym (tokens_next xs i d lt)) ∙ h) (stop i (tokens_in (drop (i + 1) xs))))

pub read_finish : (xs : List Lexeme) (end' i : ℕ) (s : Stand) (r : Result code.WrittenModule VerilogFault) (total : Result WrittenModule Fault) → length xs ≤ i → MatchResult r (λ w. finish s.state ≡ Some (module_of w)) (λ e. (finish s.state ≡ None) × (e ≡ fault.Syntax end')) → read_on i s (tokens_in (drop i xs)) ≡ total → IsRead r xs end' total
read_finish xs end' i s (Ok w) total le m h =
    sym h ∙ ap (λ (x : List Lexeme). read_on i s (tokens_in x)) (drop_all i xs le) ∙ ends s i ∙ ap (λ (o : Option WrittenModule). or_fault o (Syntax i)) m
read_finish xs end' i s (Err e) total le m h =
    let run : total ≡ Err (Syntax i) = sym h ∙ ap (λ (x : List Lexeme). read_on i s (tokens_in x)) (drop_all i xs le) ∙ ends s i ∙ ap (λ (o : Option WrittenModule). or_fault o (Syntax i)) m.0 in
    (i, subst (λ (x : VerilogFault). IsGiven x (place_in xs end' i) i total) (sym m.1) (place_end xs end' i le, run))

pub ruleset loops = (read_next)
