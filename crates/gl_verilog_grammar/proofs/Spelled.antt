-- What the machine reads is what is answered for the tokens.
use Rattle.std.proofs.Common.{◌≡◌, ℕ, List, [], ◌∷◌, ◌++◌, Result, Ok, Err, refl, sym, subst, ◌∙◌, append_assoc}
use Rattle.std.proofs.lemmas.Bool.{both_ways}
use Rattle.std.proofs.lemmas.List.{append-nil}
use Rattle.gl_verilog.specs.Tokens.{Token}
use Rattle.gl_verilog.specs.Written.{WrittenModule, spell}
use Rattle.gl_verilog.specs.Text.{IsSpelling}
use Rattle.gl_verilog_faults.specs.Counts.{none_counted, keeps_limits}
use Rattle.gl_verilog_faults.specs.Marks.{Header, marks}
use Rattle.gl_verilog_faults.specs.Faults.{KeepsFront, Stops}
use Rattle.gl_verilog_faults.proofs.Exact.{keeps_tokens, spelled_keeps}
use Rattle.gl_verilog_tokens.specs.declared.token.Lexeme.{Lexeme}
use Rattle.gl_verilog_tokens.specs.declared.fault.VerilogFault.{VerilogFault}
use Rattle.gl_verilog_tokens.specs.declared.fault.VerilogFault.TheVariants as fault
use Rattle.gl_verilog_tokens.specs.declared.written.WrittenModule as code
use Rattle.gl_verilog_tokens.specs.View.{tokens_in, module_of}
use Rattle.gl_verilog_grammar.specs.Reading.{Fault, Syntax, TooDeep}
use Rattle.gl_verilog_grammar.specs.Answers.{IsSyntaxAt, IsDeepAt, IsFaultOf, IsAnswer, IsOnly, IsGiven, IsRead, read_all, place_in}
use Rattle.gl_verilog_grammar.proofs.ReadModules.{one_spelt}
use Rattle.gl_verilog_grammar.proofs.Saying.{Says, reader_says}

says_as : (ts : List Token) (r : Result WrittenModule Fault) → read_all ts ≡ r → Says ts r
says_as ts r e = subst (Says ts) e (reader_says ts)

spelling : (ts : List Token) (w : WrittenModule) → Says ts (Ok w) → IsSpelling ts w
spelling ts w s = record { spelled = s.0; grammar = s.1; limits = s.2 }

fault_of : (e : VerilogFault) (ts : List Token) (place k : ℕ) → IsGiven e place k (read_all ts) → IsFaultOf e ts place k
fault_of fault.Memory ts place k g = tt
fault_of (fault.Syntax at) ts place k g = (g.0, says_as ts (Err (Syntax k)) g.1)
fault_of (fault.TooDeep at) ts place k g = (g.0, says_as ts (Err (TooDeep k)) g.1)
fault_of e ts place k g = absurd g

pub answered : (xs : List Lexeme) (end' : ℕ) (r : Result code.WrittenModule VerilogFault) → IsRead r xs end' (read_all (tokens_in xs)) → IsAnswer r xs end'
answered xs end' (Ok w) m = spelling (tokens_in xs) (module_of w) (says_as (tokens_in xs) (Ok (module_of w)) m)
answered xs end' (Err e) m = (m.0, fault_of e (tokens_in xs) (place_in xs end' m.0) m.0 m.1)

-- ---- what is spelled has no fault

syntax_none : (ts : List Token) (k : ℕ) (w : WrittenModule) → IsSyntaxAt ts k → IsSpelling ts w → ⊥
syntax_none ts k w s h = all_read s.read s.left s.stops (sym h.spelled ∙ s.parts)
  where
    all_read : (read left : List Token) → Stops read left → spell w ≡ read ++ left → ⊥
    all_read read [] f q = f w h.grammar (q ∙ append-nil read)
    all_read read (t ∷ left) f q = f (w, left, h.grammar, q ∙ sym (append_assoc read (t ∷ []) left))

deep_none : (ts : List Token) (k : ℕ) (w : WrittenModule) → IsDeepAt ts k → IsSpelling ts w → ⊥
deep_none ts k w s h =
    let q : spell w ≡ (s.read ++ s.deep ∷ []) ++ s.left = sym h.spelled ∙ s.parts ∙ sym (append_assoc s.read (s.deep ∷ []) s.left) in
    let f : KeepsFront ((s.read ++ s.deep ∷ []) ++ s.left) = subst KeepsFront q (spelled_keeps w h.limits) in
    both_ways (keeps_limits none_counted (marks Header (s.read ++ s.deep ∷ []))) s.past (keeps_tokens (s.read ++ s.deep ∷ []) s.left f)

only_memory : (e : VerilogFault) (ts : List Token) (place k : ℕ) (w : WrittenModule) → IsFaultOf e ts place k → IsSpelling ts w → e ≡ fault.Memory
only_memory fault.Memory ts place k w f h = refl
only_memory (fault.Syntax at) ts place k w f h = absurd (syntax_none ts k w f.1 h)
only_memory (fault.TooDeep at) ts place k w f h = absurd (deep_none ts k w f.1 h)
only_memory e ts place k w f h = absurd f

pub only_one : (xs : List Lexeme) (end' : ℕ) (r : Result code.WrittenModule VerilogFault) → IsRead r xs end' (read_all (tokens_in xs)) → IsOnly r (tokens_in xs)
only_one xs end' (Ok v) m = λ w h.
    let s = says_as (tokens_in xs) (Ok (module_of v)) m in
    one_spelt (module_of v) w s.1 h.grammar (sym s.0 ∙ h.spelled)
only_one xs end' (Err e) m = λ w h. only_memory e (tokens_in xs) (place_in xs end' m.0) m.0 w (fault_of e (tokens_in xs) (place_in xs end' m.0) m.0 m.1) h
