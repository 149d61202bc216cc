-- Where no name is declared twice, the input of a name is the port of that name, if this is an input.
use Rattle.std.proofs.Common.{◌≡◌, ℕ, ◌+◌, Bool, true, false, List, [], ◌∷◌, Option, Some, None, refl, sym, ap, ◌∙◌, subst, add-one}
use Rattle.std.specs.Prelude.{◌&&◌, slice_get, bytes_eq, option_and_then, if◌then◌else◌}
use Rattle.std.specs.Option.{option_map, option_map_or}
use Rattle.gl_bits.proofs.Bools.{bytes_same}
use Rattle.gl_bits.proofs.Options.{not_some, some_same, map_some}
use Rattle.gl_verilog.specs.Module.{Module, Declaration, number_of}
use Rattle.gl_verilog.specs.Run.{is_input, is_input_at, input_number}
use Rattle.gl_verilog.specs.Valid.{AreDistinct, Differs}
use Rattle.gl_verilog_ports.specs.Fit.{input_at}
use Rattle.gl_verilog_ports.specs.Profile.{ports_of}
use Rattle.gl_verilog_ports.proofs.Declared.{distinct_take, get_take}
use Rattle.gl_verilog_ports.proofs.Named.{eq_flip}

-- a number, if the declaration of this number is an input
abbrev if_input : List Declaration → ℕ → Option ℕ
if_input ds n = if is_input_at ds n then Some n else None

-- none of the others has the name
none_named : (x : Declaration) (ds : List Declaration) (name : List ℕ) → Differs x ds → bytes_eq x.name name ≡ true → input_at ds name ≡ None
none_named x [] name h e = refl
none_named x (d ∷ ds) name h e =
    let other : bytes_eq d.name name ≡ false = eq_flip name d.name false (subst (λ (n : List ℕ). bytes_eq n d.name ≡ false) (bytes_same x.name name e) h.0) in
    pick (is_input d.kind) (bytes_eq d.name name) other (none_named x ds name h.1 e)
  where
    pick : (w b : Bool) → b ≡ false → input_at ds name ≡ None → (if w && b then Some 0 else option_map (λ n. n + 1) (input_at ds name)) ≡ None
    pick w true f later = absurd cc
    pick true false f later = ap (option_map (λ (n : ℕ). n + 1)) later
    pick false false f later = ap (option_map (λ (n : ℕ). n + 1)) later

-- a place further on
shifted : (x : Declaration) (ds : List Declaration) (o : Option ℕ) → option_and_then (if_input (x ∷ ds)) (option_map (λ n. n + 1) o) ≡ option_map (λ n. n + 1) (option_and_then (if_input ds) o)
shifted x ds None = refl
shifted x ds (Some n) = ap (λ (k : ℕ). if is_input_at (x ∷ ds) k then Some (n + 1) else None) (add-one n) ∙ pick (is_input_at ds n)
  where
    pick : (b : Bool) → (if b then Some (n + 1) else None) ≡ option_map (λ k. k + 1) (if b then Some n else None)
    pick true = refl
    pick false = refl

numbered : (ds : List Declaration) (name : List ℕ) → AreDistinct ds → option_and_then (if_input ds) (number_of ds name) ≡ input_at ds name
numbered [] name h = refl
numbered (d ∷ ds) name h = pick (is_input d.kind) (bytes_eq d.name name) refl refl (numbered ds name h.1)
  where
    pick : (w b : Bool) → is_input d.kind ≡ w → bytes_eq d.name name ≡ b → option_and_then (if_input ds) (number_of ds name) ≡ input_at ds name
        → option_and_then (if_input (d ∷ ds)) (if b then Some 0 else option_map (λ n. n + 1) (number_of ds name)) ≡ (if w && b then Some 0 else option_map (λ n. n + 1) (input_at ds name))
    pick true true way e later = ap (λ (w : Bool). if w then Some 0 else None) way
    pick false true way e later = ap (λ (w : Bool). if w then Some 0 else None) way ∙ sym (ap (option_map (λ (n : ℕ). n + 1)) (none_named d ds name h.0 e))
    pick true false way e later = shifted d ds (number_of ds name) ∙ ap (option_map (λ (n : ℕ). n + 1)) later
    pick false false way e later = shifted d ds (number_of ds name) ∙ ap (option_map (λ (n : ℕ). n + 1)) later

found_there : (ds : List Declaration) (name : List ℕ) (n : ℕ) → number_of ds name ≡ Some n → (d : Declaration) × (slice_get ds n ≡ Some d)
found_there [] name n e = absurd (not_some n e)
found_there (x ∷ ds) name n e = pick (bytes_eq x.name name) e (found_there ds name)
  where
    pick : (b : Bool) → (if b then Some 0 else option_map (λ k. k + 1) (number_of ds name)) ≡ Some n → ((k : ℕ) → number_of ds name ≡ Some k → (d : Declaration) × (slice_get ds k ≡ Some d)) → (d : Declaration) × (slice_get (x ∷ ds) n ≡ Some d)
    pick true e more = (x, ap (slice_get (x ∷ ds)) (sym (some_same 0 n e)))
    pick false e more =
        let f = map_some (λ (k : ℕ). k + 1) (number_of ds name) n e in
        let r = more f.0 f.1 in
        (r.0, ap (slice_get (x ∷ ds)) (f.2 ∙ add-one f.0) ∙ r.1)

pub inputs_numbered : (m : Module) (name : List ℕ) → AreDistinct m.declarations → input_number m name ≡ input_at (ports_of m) name
inputs_numbered m name distinct =
    within (number_of (ports_of m) name) refl ∙ numbered (ports_of m) name (distinct_take m.ports m.declarations distinct)
  where
    within : (o : Option ℕ) → number_of (ports_of m) name ≡ o → option_and_then (if_input m.declarations) o ≡ option_and_then (if_input (ports_of m)) o
    within None e = refl
    within (Some n) e =
        let there = found_there (ports_of m) name n e in
        ap (λ (o : Option Declaration). if option_map_or (λ (d : Declaration). is_input d.kind) o false then Some n else None)
        (get_take m.ports m.declarations n there.0 there.1 ∙ sym there.1)
