-- What is answered for the tokens of a text, at their places, is answered for the text.
use Rattle.std.proofs.Common.{◌≡◌, ℕ, zero, suc, ◌≤◌, ◌⊎◌, inl, inr, List, [], ◌∷◌, length, Some, Result, Ok, Err, refl, sym, subst, ◌∙◌, arith}
use Rattle.std.specs.Prelude.{slice_get, IfErr, MatchResult}
use Rattle.std.specs.List.{AllZip}
use Rattle.std.specs.Result.{IsErrAnd}
use Rattle.std.proofs.lemmas.List.{take_all}
use Rattle.gl_verilog.specs.Tokens.{Token, tokens_of, IsPlaceOf}
use Rattle.gl_verilog.specs.Module as spec
use Rattle.gl_verilog.specs.Written.{WrittenModule}
use Rattle.gl_verilog.specs.Text.{IsSpelling, HasModule}
use Rattle.gl_verilog.specs.View as meant
use Rattle.gl_verilog_faults.specs.Demands.{Rule, Undeclared, TwiceDeclared, TwiceDriven, NeverDriven, WidthsDiffer, Loop, BadMemory, ClockRead, TooWide, BadTarget}
use Rattle.gl_verilog_faults.specs.Faults.{IsSyntaxFault, IsDepthFault, IsJudgedFault, Verdict, IsModule, IsSyntax, IsTooDeep, Breaks, IsVerdict}
use Rattle.gl_verilog_tokens.specs.declared.token.Lexeme.{Lexeme}
use Rattle.gl_verilog_tokens.specs.declared.fault.VerilogFault.{VerilogFault}
use Rattle.gl_verilog_tokens.specs.declared.fault.VerilogFault.TheVariants as fault
use Rattle.gl_verilog_tokens.specs.View.{tokens_in}
use Rattle.gl_verilog_tokens.specs.Placed.{places_in, ArePlaces}
use Rattle.gl_verilog_grammar.specs.Answers.{place_in, IsSyntaxAt, IsDeepAt, IsFaultOf}
use Rattle.gl_verilog_elaborator.specs.Meant.{IsMeant}
use Rattle.gl_verilog_reader.specs.declared.source.Source.{Source}
use Rattle.gl_verilog_reader.specs.Reading.{fault_as, ByRules, IsFaultIn, Shows}
use Rattle.gl_verilog_reader.specs.Sources.{port_tokens, IsAt, IsLocated, IsSource}

-- ---- places

placed : (xs : List Lexeme) (end' k : ℕ) → (slice_get (places_in xs) k ≡ Some (place_in xs end' k)) ⊎ ((length (tokens_in xs) ≤ k) × (place_in xs end' k ≡ end'))
placed [] end' k = inr (omega arith, refl)
placed (x ∷ xs) end' zero = inl refl
placed (x ∷ xs) end' (suc k) = elim (placed xs end' k) [ inl h ↦ inl h | inr h ↦ inr ((let g : length (tokens_in xs) ≤ k = h.0 in omega arith), h.1) ]

-- behind the last token it is the text's end
at_end : (text : List ℕ) (k : ℕ) → length (tokens_of text) ≤ k → IsPlaceOf text k (length text)
at_end text k h = record {
  within = omega arith;
  before = subst (λ (t : List ℕ). length (tokens_of t) ≤ k) (sym (take_all (length text) text (omega arith))) h;
  behind = λ q l u. absurd (omega (arith, l, u));
}

place_is : (text : List ℕ) (xs : List Lexeme) (k at : ℕ) → tokens_in xs ≡ tokens_of text → ArePlaces text (places_in xs) → at ≡ place_in xs (length text) k → IsPlaceOf text k at
place_is text xs k at e places is = subst (IsPlaceOf text k) (sym is) (elim (placed xs (length text) k) [
  | inl h ↦ places k (place_in xs (length text) k) h
  | inr h ↦ subst (IsPlaceOf text k) (sym h.1) (at_end text k (subst (λ (ts : List Token). length ts ≤ k) e h.0))
])

-- ---- what is answered for the tokens

syntax_is : (text : List ℕ) (xs : List Lexeme) (k at : ℕ) → tokens_in xs ≡ tokens_of text → ArePlaces text (places_in xs) → (at ≡ place_in xs (length text) k) × IsSyntaxAt (tokens_in xs) k → IsSyntaxFault text at
syntax_is text xs k at e places h = record {
  read = h.1.read;
  left = h.1.left;
  parts = sym e ∙ h.1.parts;
  limits = h.1.limits;
  begins = h.1.begins;
  stops = h.1.stops;
  place = subst (λ (n : ℕ). IsPlaceOf text n at) h.1.place (place_is text xs k at e places h.0);
}

deep_is : (text : List ℕ) (xs : List Lexeme) (k at : ℕ) → tokens_in xs ≡ tokens_of text → ArePlaces text (places_in xs) → (at ≡ place_in xs (length text) k) × IsDeepAt (tokens_in xs) k → IsDepthFault text at
deep_is text xs k at e places h = record {
  read = h.1.read;
  deep = h.1.deep;
  left = h.1.left;
  parts = sym e ∙ h.1.parts;
  limits = h.1.limits;
  past = h.1.past;
  begins = h.1.begins;
  place = subst (λ (n : ℕ). IsPlaceOf text n at) h.1.place (place_is text xs k at e places h.0);
}

pub read_fault : (text : List ℕ) (xs : List Lexeme) (k : ℕ) (f : VerilogFault) → tokens_in xs ≡ tokens_of text → ArePlaces text (places_in xs) → IsFaultOf f (tokens_in xs) (place_in xs (length text) k) k → IsFaultIn text f
read_fault text xs k fault.Memory e places h = tt
read_fault text xs k (fault.Syntax at) e places h = syntax_is text xs k at e places h
read_fault text xs k (fault.TooDeep at) e places h = deep_is text xs k at e places h
read_fault text xs k (fault.Undeclared at) e places h = absurd h
read_fault text xs k (fault.TwiceDeclared at) e places h = absurd h
read_fault text xs k (fault.TwiceDriven at) e places h = absurd h
read_fault text xs k (fault.NeverDriven at) e places h = absurd h
read_fault text xs k (fault.WidthsDiffer at) e places h = absurd h
read_fault text xs k (fault.Loop at) e places h = absurd h
read_fault text xs k (fault.BadMemory at) e places h = absurd h
read_fault text xs k (fault.ClockRead at) e places h = absurd h
read_fault text xs k (fault.TooWide at) e places h = absurd h
read_fault text xs k (fault.BadPort at) e places h = absurd h
read_fault text xs k (fault.BadTarget at) e places h = absurd h

-- ---- what is judged

shown : (text : List ℕ) (xs : List Lexeme) (w : WrittenModule) (rule : Rule) (at : ℕ) → tokens_in xs ≡ tokens_of text → ArePlaces text (places_in xs) → IsSpelling (tokens_in xs) w → Shows (places_in xs) w rule at → IsJudgedFault text rule at
shown text xs w rule at e places s h = record {
  written = w;
  spelled = sym e ∙ s.spelled;
  grammar = s.grammar;
  limits = s.limits;
  token = h.0;
  broken = h.2;
  place = places h.0 at h.1;
}

pub judged_fault : (text : List ℕ) (xs : List Lexeme) (w : WrittenModule) (f : VerilogFault) → tokens_in xs ≡ tokens_of text → ArePlaces text (places_in xs) → IsSpelling (tokens_in xs) w → ByRules (Shows (places_in xs) w) f → IsFaultIn text f
judged_fault text xs w fault.Memory e places s h = tt
judged_fault text xs w (fault.Syntax at) e places s h = absurd h
judged_fault text xs w (fault.TooDeep at) e places s h = absurd h
judged_fault text xs w (fault.BadPort at) e places s h = absurd h
judged_fault text xs w (fault.Undeclared at) e places s h = shown text xs w Undeclared at e places s h
judged_fault text xs w (fault.TwiceDeclared at) e places s h = shown text xs w TwiceDeclared at e places s h
judged_fault text xs w (fault.TwiceDriven at) e places s h = shown text xs w TwiceDriven at e places s h
judged_fault text xs w (fault.NeverDriven at) e places s h = shown text xs w NeverDriven at e places s h
judged_fault text xs w (fault.WidthsDiffer at) e places s h = shown text xs w WidthsDiffer at e places s h
judged_fault text xs w (fault.Loop at) e places s h = shown text xs w Loop at e places s h
judged_fault text xs w (fault.BadMemory at) e places s h = shown text xs w BadMemory at e places s h
judged_fault text xs w (fault.ClockRead at) e places s h = shown text xs w ClockRead at e places s h
judged_fault text xs w (fault.TooWide at) e places s h = shown text xs w TooWide at e places s h
judged_fault text xs w (fault.BadTarget at) e places s h = shown text xs w BadTarget at e places s h

-- a rule's fault says what the rule says
pub by_rule : (Says : Rule → ℕ → Type 0) (rule : Rule) (at : ℕ) → Says rule at → ByRules Says (fault_as rule at)
by_rule Says Undeclared at h = h
by_rule Says TwiceDeclared at h = h
by_rule Says TwiceDriven at h = h
by_rule Says NeverDriven at h = h
by_rule Says WidthsDiffer at h = h
by_rule Says Loop at h = h
by_rule Says BadMemory at h = h
by_rule Says ClockRead at h = h
by_rule Says TooWide at h = h
by_rule Says BadTarget at h = h

-- ---- one of a module and a fault

abbrev pub OneVerdict : Type 0
OneVerdict = (text : List ℕ) (v w : Verdict) → IsVerdict text v → IsVerdict text w → v ≡ w

no_fault : OneVerdict → (text : List ℕ) (m : spec.Module) (v : Verdict) → IsVerdict text (IsModule m) → IsVerdict text v → IsModule m ≡ v
no_fault one text m v h k = one text (IsModule m) v h k

pub only_memory : OneVerdict → (text : List ℕ) (m : spec.Module) (f : VerilogFault) → HasModule text m → IsFaultIn text f → f ≡ fault.Memory
only_memory one text m fault.Memory h k = refl
only_memory one text m (fault.BadPort at) h k = absurd k
only_memory one text m (fault.Syntax at) h k = absurd (let e : IsModule m ≡ IsSyntax at = no_fault one text m (IsSyntax at) h k in cc)
only_memory one text m (fault.TooDeep at) h k = absurd (let e : IsModule m ≡ IsTooDeep at = no_fault one text m (IsTooDeep at) h k in cc)
only_memory one text m (fault.Undeclared at) h k = absurd (let e : IsModule m ≡ Breaks Undeclared at = no_fault one text m (Breaks Undeclared at) h k in cc)
only_memory one text m (fault.TwiceDeclared at) h k = absurd (let e : IsModule m ≡ Breaks TwiceDeclared at = no_fault one text m (Breaks TwiceDeclared at) h k in cc)
only_memory one text m (fault.TwiceDriven at) h k = absurd (let e : IsModule m ≡ Breaks TwiceDriven at = no_fault one text m (Breaks TwiceDriven at) h k in cc)
only_memory one text m (fault.NeverDriven at) h k = absurd (let e : IsModule m ≡ Breaks NeverDriven at = no_fault one text m (Breaks NeverDriven at) h k in cc)
only_memory one text m (fault.WidthsDiffer at) h k = absurd (let e : IsModule m ≡ Breaks WidthsDiffer at = no_fault one text m (Breaks WidthsDiffer at) h k in cc)
only_memory one text m (fault.Loop at) h k = absurd (let e : IsModule m ≡ Breaks Loop at = no_fault one text m (Breaks Loop at) h k in cc)
only_memory one text m (fault.BadMemory at) h k = absurd (let e : IsModule m ≡ Breaks BadMemory at = no_fault one text m (Breaks BadMemory at) h k in cc)
only_memory one text m (fault.ClockRead at) h k = absurd (let e : IsModule m ≡ Breaks ClockRead at = no_fault one text m (Breaks ClockRead at) h k in cc)
only_memory one text m (fault.TooWide at) h k = absurd (let e : IsModule m ≡ Breaks TooWide at = no_fault one text m (Breaks TooWide at) h k in cc)
only_memory one text m (fault.BadTarget at) h k = absurd (let e : IsModule m ≡ Breaks BadTarget at = no_fault one text m (Breaks BadTarget at) h k in cc)

pub only_module : OneVerdict → (text : List ℕ) (m n : spec.Module) → HasModule text m → HasModule text n → m ≡ n
only_module one text m n h k = (let e : IsModule m ≡ IsModule n = no_fault one text m (IsModule n) h k in cc)

-- ---- a module with its places

at_places : (text places tokens ys : List ℕ) → ArePlaces text places → AllZip (IsAt places) tokens ys → AllZip (IsPlaceOf text) tokens ys
at_places text places [] [] are h = tt
at_places text places [] (y ∷ ys) are h = absurd h
at_places text places (k ∷ ks) [] are h = absurd h
at_places text places (k ∷ ks) (y ∷ ys) are h = (are k y h.0, at_places text places ks ys are h.1)

pub source_in : (text : List ℕ) (xs : List Lexeme) (w : WrittenModule) (s : Source) → tokens_in xs ≡ tokens_of text → ArePlaces text (places_in xs) → IsSpelling (tokens_in xs) w → IsMeant w (meant.module_of s.design) → IsLocated (places_in xs) w s → IsSource text s
source_in text xs w s e places spelling means located = record {
  written = w;
  spelled = sym e ∙ spelling.spelled;
  grammar = spelling.grammar;
  limits = spelling.limits;
  resolved = means.resolved;
  valid = means.valid;
  name = places 1 s.name_at located.name;
  ports = at_places text (places_in xs) (port_tokens 3 w.ports) s.ports_at places located.ports;
}

pub module_in : (text : List ℕ) (s : Source) → IsSource text s → HasModule text (meant.module_of s.design)
module_in text s is = record { written = is.written; spelled = is.spelled; grammar = is.grammar; limits = is.limits; resolved = is.resolved; valid = is.valid }

-- ---- what a refusal by `?` says

pub fault_read : (text : List ℕ) (xs : List Lexeme) (end' : ℕ) (x : VerilogFault) → tokens_in xs ≡ tokens_of text → ArePlaces text (places_in xs) → end' ≡ length text
    → (k : ℕ) × IsFaultOf x (tokens_in xs) (place_in xs end' k) k → IsFaultIn text x
fault_read text xs end' x e places size f = read_fault text xs f.0 x e places (subst (λ (n : ℕ). IsFaultOf x (tokens_in xs) (place_in xs n f.0) f.0) size f.1)

pub refused : {A : Type 0} (text : List ℕ) (r : Result A VerilogFault) (x : VerilogFault) → IsErrAnd r (λ y. y ≡ x) → IsFaultIn text x → IfErr r (IsFaultIn text)
refused text (Ok a) x h f = absurd h
refused text (Err y) x h f = (let same : y ≡ x = h in subst (IsFaultIn text) (sym same) f)

pub only_refused : {A : Type 0} (Q : spec.Module → A → Type 0) → OneVerdict → (text : List ℕ) (r : Result A VerilogFault) (x : VerilogFault) → IsErrAnd r (λ y. y ≡ x) → IsFaultIn text x → (m : spec.Module) → HasModule text m → MatchResult r (Q m) (λ e. e ≡ fault.Memory)
only_refused Q one text (Ok a) x h f m has = absurd h
only_refused Q one text (Err y) x h f m has = (let same : y ≡ x = h in same ∙ only_memory one text m x has f)
