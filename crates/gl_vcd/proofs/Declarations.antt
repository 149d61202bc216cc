-- The header that is written declares the ports.
use Rattle.std.proofs.Common.{◌≡◌, ℕ, ◌+◌, ◌/◌, ◌%◌, ◌^◌, ◌<◌, ◌≤◌, Bool, true, false, not, ◌||◌, List, [], ◌∷◌, ◌++◌, Option, None, Ok, Err, refl, sym, ap, ◌∙◌, append_assoc, append-nil, arith}
use Rattle.std.specs.Prelude.{bytes_eq, codes, decimal, is_some, nat_eq, nat_lt, if◌then◌else◌}
use Rattle.std.specs.List.{AllByRecursion, list_any}
use Rattle.std.proofs.lemmas.Bool.{and_parts, cond-false, le-ltb, ne_eqb, or_from}
use Rattle.gl_bits.specs.Words.{IsWidth}
use Rattle.gl_bits.proofs.Bools.{not_true}
use Rattle.gl_schema.specs.SchemaText.{is_blank}
use Rattle.gl_tuples.specs.Values.{number_in}
use Rattle.gl_vcd.specs.declared.fault.VcdFault.TheVariants.{Twice}
use Rattle.gl_vcd.specs.Dumped.{Port}
use Rattle.gl_vcd.specs.Reading.{Reading, Scope, Stage, Step, Before, Changes, Closed, DefinitionsEnd, Open, Passed, ScopeEnd, ScopeKind, ScopeName, Section, UpscopeEnd, VarCode, VarName, VarRange, VarType, VarWidth, next, only, start, to, width_by}
use Rattle.gl_vcd.specs.RoundTrip.{AreApart, is_named, names_of, signal_at, signals_from}
use Rattle.gl_vcd.specs.Signals.{Signal, number_of_code, number_of_name, show_none}
use Rattle.gl_vcd.specs.Written.{code_of, declaration, declarations, header, line}
use Rattle.gl_vcd.proofs.Bytes.{Reads, is_word, reads_none, reads_same, reads_then, reads_to, reads_word, token}
use Rattle.gl_vcd.proofs.Numbered.{all_new, code_apart, code_open, new_push, place_push}
use Rattle.gl_vcd.proofs.Numerals.{decimal_is, decimal_value, decimal_word, dark}

-- what was read of declarations
abbrev pub declaring : Scope → List Signal → Stage → Reading
declaring scope signals stage = record { stage = stage; scope = scope; signals = signals; time = None; changes = [] }

-- ---- names

pub named_word : (name : List ℕ) → is_named name ≡ true → is_word name ≡ true
named_word [] h = absurd cc
named_word (b ∷ bs) h = (and_parts (not (list_any is_blank (b ∷ bs))) (not (bytes_eq (b ∷ bs) (codes "$end"))) h).0

named_open : (name : List ℕ) → is_named name ≡ true → bytes_eq name (codes "$end") ≡ false
named_open [] h = absurd cc
named_open (b ∷ bs) h = not_true (bytes_eq (b ∷ bs) (codes "$end")) (and_parts (not (list_any is_blank (b ∷ bs))) (not (bytes_eq (b ∷ bs) (codes "$end"))) h).1

pub code_word : (i : ℕ) → is_word (code_of i) ≡ true
code_word i = ap not (or_from (is_blank (33 + i / 94)) (is_blank (33 + i % 94) || false) (dark (33 + i / 94) (omega arith)) (or_from (is_blank (33 + i % 94)) false (dark (33 + i % 94) (omega arith)) refl))

-- ---- the first line and the scope

read_timescale : Reads start (line (codes "$timescale 1 ns $end")) start
unfolding next
read_timescale =
    let in' : Reading = declaring Before [] Passed in
    reads_then start in' start (codes "$timescale 1 ns ") (codes "$end\n")
    (reads_then start in' in' (codes "$timescale 1 ") (codes "ns ")
    (reads_then start in' in' (codes "$timescale ") (codes "1 ")
    (reads_word start in' (codes "$timescale") 32 refl refl (λ at. refl))
    (reads_word in' in' (codes "1") 32 refl refl (λ at. refl)))
    (reads_word in' in' (codes "ns") 32 refl refl (λ at. refl)))
    (reads_word in' start (codes "$end") 10 refl refl (λ at. refl))

scope_text : (name : List ℕ) → (codes "$scope module " ++ (name ++ 32 ∷ [])) ++ codes "$end\n" ≡ line (codes "$scope module " ++ name ++ codes " $end")
scope_text name = ap (λ (x : List ℕ). codes "$scope module " ++ x) (append_assoc name (32 ∷ []) (codes "$end\n") ∙ sym (append_assoc name (codes " $end") (10 ∷ [])))

name_step : (name : List ℕ) → is_named name ≡ true → (at : ℕ) → next (declaring Before [] ScopeName) (token at name) ≡ Ok (declaring Before [] ScopeEnd)
unfolding next
name_step name named at = ap (λ (b : Bool). only (not b) (token at name) (to (declaring Before [] ScopeName) ScopeEnd)) (named_open name named)

read_scope : (name : List ℕ) → is_named name ≡ true → Reads start (line (codes "$scope module " ++ name ++ codes " $end")) (declaring Open [] Section)
unfolding next
read_scope name named =
    let kind : Reading = declaring Before [] ScopeKind in
    let in' : Reading = declaring Before [] ScopeName in
    let end' : Reading = declaring Before [] ScopeEnd in
    let opened : Reading = declaring Open [] Section in
    reads_same start opened _ _ (scope_text name)
    (reads_then start end' opened (codes "$scope module " ++ (name ++ 32 ∷ [])) (codes "$end\n")
    (reads_then start in' end' (codes "$scope module ") (name ++ 32 ∷ [])
    (reads_then start kind in' (codes "$scope ") (codes "module ")
    (reads_word start kind (codes "$scope") 32 refl refl (λ at. refl))
    (reads_word kind in' (codes "module") 32 refl refl (λ at. refl)))
    (reads_word in' end' name 32 (named_word name named) refl (name_step name named)))
    (reads_word end' opened (codes "$end") 10 refl refl (λ at. refl)))

-- ---- one declaration

width_step : (signals : List Signal) (width : ℕ) → IsWidth width → (at : ℕ)
    → next (declaring Open signals VarWidth) (token at (decimal width)) ≡ Ok (declaring Open signals (VarCode width))
unfolding next
width_step signals width is at =
    let r : Reading = declaring Open signals VarWidth in
    let t = token at (decimal width) in
    let small : width < 2 ^ 64 = omega (arith, is.most) in
    ap (λ (b : Bool). only b t (width_by r t (number_in (decimal width)))) (decimal_is width small)
    ∙ ap (λ (n : ℕ). width_by r t n) (decimal_value width small)
    ∙ cond-false (nat_eq width 0 || nat_lt 128 width) _ _
    (or_from (nat_eq width 0) (nat_lt 128 width) (ne_eqb width 0 (λ e. let some : 1 ≤ width = is.some' in omega (arith, e, some))) (le-ltb 128 width is.most))

code_step : (signals : List Signal) (width i : ℕ) → number_of_code signals (code_of i) ≡ None → (at : ℕ)
    → next (declaring Open signals (VarCode width)) (token at (code_of i)) ≡ Ok (declaring Open signals (VarName width (code_of i)))
unfolding next
code_step signals width i new' at =
    let r : Reading = declaring Open signals (VarCode width) in
    let t = token at (code_of i) in
    let later : Step = if is_some (number_of_code signals (code_of i)) then Err (Twice at) else to r (VarName width (code_of i)) in
    ap (λ (b : Bool). only (not b) t later) (code_open i)
    ∙ ap (λ (o : Option ℕ). let s : Step = if is_some o then Err (Twice at) else to r (VarName width (code_of i)) in s) new'

var_step : (signals : List Signal) (width : ℕ) (code name : List ℕ) → is_named name ≡ true → number_of_name signals name ≡ None → (at : ℕ)
    → next (declaring Open signals (VarName width code)) (token at name) ≡ Ok (declaring Open signals (VarRange (record { code = code; name = name; width = width })))
unfolding next
var_step signals width code name named new' at =
    let r : Reading = declaring Open signals (VarName width code) in
    let t = token at name in
    let s : Signal = record { code = code; name = name; width = width } in
    let later : Step = if is_some (number_of_name signals name) then Err (Twice at) else to r (VarRange s) in
    ap (λ (b : Bool). only (not b) t later) (named_open name named)
    ∙ ap (λ (o : Option ℕ). let z : Step = if is_some o then Err (Twice at) else to r (VarRange s) in z) new'

declaration_text : (i : ℕ) (p : Port)
    → (((codes "$var wire " ++ (decimal p.width ++ 32 ∷ [])) ++ (code_of i ++ 32 ∷ [])) ++ (p.name ++ 32 ∷ [])) ++ codes "$end\n" ≡ declaration i p
declaration_text i p =
    let behind = p.name ++ codes " $end\n" in
    let d = decimal p.width in
    let name : (p.name ++ 32 ∷ []) ++ codes "$end\n" ≡ behind = append_assoc p.name (32 ∷ []) (codes "$end\n") in
    let line' : (p.name ++ codes " $end") ++ 10 ∷ [] ≡ behind = append_assoc p.name (codes " $end") (10 ∷ []) in
    ap (λ (x : List ℕ). codes "$var wire " ++ x)
    (append_assoc ((d ++ 32 ∷ []) ++ (code_of i ++ 32 ∷ [])) (p.name ++ 32 ∷ []) (codes "$end\n")
    ∙ ap (λ (x : List ℕ). ((d ++ 32 ∷ []) ++ (code_of i ++ 32 ∷ [])) ++ x) name
    ∙ append_assoc (d ++ 32 ∷ []) (code_of i ++ 32 ∷ []) behind
    ∙ append_assoc d (32 ∷ []) (code_of i ++ 32 ∷ behind)
    ∙ ap (λ (x : List ℕ). d ++ 32 ∷ (code_of i ++ 32 ∷ x)) (sym line')
    ∙ sym (append_assoc d (32 ∷ (code_of i ++ 32 ∷ (p.name ++ codes " $end"))) (10 ∷ [])))

-- a port that no signal stands for yet
pub record IsFresh (signals : List Signal) (i : ℕ) (p : Port) : Type 0 where
  pub named : is_named p.name ≡ true
  pub width' : IsWidth p.width
  pub code' : number_of_code signals (code_of i) ≡ None
  pub name' : number_of_name signals p.name ≡ None

read_declaration : (signals : List Signal) (i : ℕ) (p : Port) → IsFresh signals i p
    → Reads (declaring Open signals Section) (declaration i p) (declaring Open (signals ++ signal_at i p ∷ []) Section)
unfolding next
read_declaration signals i p is =
    let r : Reading = declaring Open signals Section in
    let kind : Reading = declaring Open signals VarType in
    let width : Reading = declaring Open signals VarWidth in
    let code : Reading = declaring Open signals (VarCode p.width) in
    let name : Reading = declaring Open signals (VarName p.width (code_of i)) in
    let range : Reading = declaring Open signals (VarRange (signal_at i p)) in
    let done : Reading = declaring Open (signals ++ signal_at i p ∷ []) Section in
    let small : p.width < 2 ^ 64 = omega (arith, is.width'.most) in
    reads_same r done _ _ (declaration_text i p)
    (reads_then r range done _ (codes "$end\n")
    (reads_then r name range _ (p.name ++ 32 ∷ [])
    (reads_then r code name _ (code_of i ++ 32 ∷ [])
    (reads_then r width code (codes "$var wire ") (decimal p.width ++ 32 ∷ [])
    (reads_then r kind width (codes "$var ") (codes "wire ")
    (reads_word r kind (codes "$var") 32 refl refl (λ at. refl))
    (reads_word kind width (codes "wire") 32 refl refl (λ at. refl)))
    (reads_word width code (decimal p.width) 32 (decimal_word p.width small) refl (width_step signals p.width is.width')))
    (reads_word code name (code_of i) 32 (code_word i) refl (code_step signals p.width i is.code')))
    (reads_word name range p.name 32 (named_word p.name is.named) refl (var_step signals p.width (code_of i) p.name is.named is.name')))
    (reads_word range done (codes "$end") 10 refl refl (λ at. refl)))

-- ---- all declarations

-- ports from a number on that no signals stand for yet
pub record AreFresh (signals : List Signal) (i : ℕ) (ps : List Port) : Type 0 where
  pub named : AllByRecursion (λ n. is_named n ≡ true) (names_of ps)
  pub widths' : AllByRecursion (λ p. IsWidth p.width) ps
  pub apart : AreApart (names_of ps)
  pub codes' : (k : ℕ) → i ≤ k → number_of_code signals (code_of k) ≡ None
  pub names' : AllByRecursion (λ n. number_of_name signals n ≡ None) (names_of ps)

fresh_first : (signals : List Signal) (i : ℕ) (p : Port) (ps : List Port) → AreFresh signals i (p ∷ ps) → IsFresh signals i p
fresh_first signals i p ps are = record { named = are.named.0; width' = are.widths'.0; code' = are.codes' i (omega arith); name' = are.names'.0 }

fresh_rest : (signals : List Signal) (i : ℕ) (p : Port) (ps : List Port) → AreFresh signals i (p ∷ ps) → AreFresh (signals ++ signal_at i p ∷ []) (i + 1) ps
fresh_rest signals i p ps are = record {
  named = are.named.1;
  widths' = are.widths'.1;
  apart = are.apart.1;
  codes' = λ k le. place_push (λ (s : Signal). bytes_eq s.code (code_of k)) signals (signal_at i p) (are.codes' k (omega (arith, le))) (code_apart i k (λ e. omega (arith, e, le)));
  names' = new_push signals (signal_at i p) (names_of ps) are.names'.1 are.apart.0;
}

read_declarations : (signals : List Signal) (i : ℕ) (ps : List Port) → AreFresh signals i ps
    → Reads (declaring Open signals Section) (declarations i ps) (declaring Open (signals ++ signals_from i ps) Section)
read_declarations signals i [] are =
    reads_to (declaring Open signals Section) (declaring Open signals Section) _ [] (ap (λ (ss : List Signal). declaring Open ss Section) (sym (append-nil signals)))
    (reads_none (declaring Open signals Section))
read_declarations signals i (p ∷ ps) are =
    let more = signals ++ signal_at i p ∷ [] in
    reads_to (declaring Open signals Section) (declaring Open (more ++ signals_from (i + 1) ps) Section) _ _
    (ap (λ (ss : List Signal). declaring Open ss Section) (append_assoc signals (signal_at i p ∷ []) (signals_from (i + 1) ps)))
    (reads_then (declaring Open signals Section) (declaring Open more Section) _ (declaration i p) (declarations (i + 1) ps)
    (read_declaration signals i p (fresh_first signals i p ps are))
    (read_declarations more (i + 1) ps (fresh_rest signals i p ps are)))

-- ---- the end of the declarations

read_upscope : (signals : List Signal) → Reads (declaring Open signals Section) (line (codes "$upscope $end")) (declaring Closed signals Section)
unfolding next
read_upscope signals =
    let in' : Reading = declaring Open signals UpscopeEnd in
    reads_then (declaring Open signals Section) in' (declaring Closed signals Section) (codes "$upscope ") (codes "$end\n")
    (reads_word (declaring Open signals Section) in' (codes "$upscope") 32 refl refl (λ at. refl))
    (reads_word in' (declaring Closed signals Section) (codes "$end") 10 refl refl (λ at. refl))

definitions_step : (signals : List Signal) → show_none signals ≡ false → (at : ℕ)
    → next (declaring Closed signals Section) (token at (codes "$enddefinitions")) ≡ Ok (declaring Closed signals DefinitionsEnd)
unfolding next
definitions_step signals shows at = cond-false (show_none signals) _ _ shows

read_definitions : (signals : List Signal) → show_none signals ≡ false → Reads (declaring Closed signals Section) (line (codes "$enddefinitions $end")) (declaring Closed signals Changes)
unfolding next
read_definitions signals shows =
    let in' : Reading = declaring Closed signals DefinitionsEnd in
    reads_then (declaring Closed signals Section) in' (declaring Closed signals Changes) (codes "$enddefinitions ") (codes "$end\n")
    (reads_word (declaring Closed signals Section) in' (codes "$enddefinitions") 32 refl refl (definitions_step signals shows))
    (reads_word in' (declaring Closed signals Changes) (codes "$end") 10 refl refl (λ at. refl))

-- ---- the header

pub read_header : (name : List ℕ) (ports : List Port) → is_named name ≡ true → AllByRecursion (λ n. is_named n ≡ true) (names_of ports) → AreApart (names_of ports)
    → AllByRecursion (λ p. IsWidth p.width) ports → show_none (signals_from 0 ports) ≡ false
    → Reads start (header name ports) (declaring Closed (signals_from 0 ports) Changes)
unfolding header
read_header name ports named names apart widths shows =
    let signals = signals_from 0 ports in
    let fresh : AreFresh [] 0 ports = record { named = names; widths' = widths; apart = apart; codes' = λ k le. refl; names' = all_new (names_of ports) } in
    reads_then start (declaring Closed signals Section) (declaring Closed signals Changes) _ (line (codes "$enddefinitions $end"))
    (reads_then start (declaring Open signals Section) (declaring Closed signals Section) _ (line (codes "$upscope $end"))
    (reads_then start (declaring Open [] Section) (declaring Open signals Section) _ (declarations 0 ports)
    (reads_then start start (declaring Open [] Section) (line (codes "$timescale 1 ns $end")) (line (codes "$scope module " ++ name ++ codes " $end"))
    read_timescale (read_scope name named))
    (read_declarations [] 0 ports fresh))
    (read_upscope signals))
    (read_definitions signals shows)
