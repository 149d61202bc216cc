-- A module with no input but the clock takes any beats.
use Rattle.std.proofs.Common.{◌≡◌, ℕ, Bool, true, false, List, [], ◌∷◌, Option, Some, None, refl, sym, ap, ◌∙◌, subst, codes}
use Rattle.std.specs.Prelude.{take, bytes_eq, IfSome, if◌then◌else◌}
use Rattle.std.specs.Option.{option_and_then, option_map, option_map_or}
use Rattle.std.specs.List.{AllByRecursion}
use Rattle.std.proofs.lemmas.Bool.{true≢false}
use Rattle.std.proofs.lemmas.Slice.Eq.{bytes_eq-Decides}
use Rattle.gl_schema.specs.declared.schema.Schema.{Schema}
use Rattle.gl_schema.specs.Beats.{Beats}
use Rattle.gl_schema.specs.Ports.{Pin, pins, IsStimulus}
use Rattle.gl_verilog.specs.Module.{Module, Declaration, Nets, number_of}
use Rattle.gl_verilog.specs.Run.{is_input, is_input_at, input_number, input_values}
use Rattle.gl_verilog_ports.specs.Profile.{HasOnlyClock}
use Rattle.gl_verilog_ports.proofs.Declared.{get_take}
use Rattle.gl_testbench.proofs.Found.{found}
use Rattle.gl_testbench.proofs.PinLemmas.{pins_other}

-- no input port has another name than the clock's
none_named : (m : Module) (name : List ℕ) → HasOnlyClock m → bytes_eq name (codes "clk") ≡ false → input_number m name ≡ None
none_named m name only other = pick (number_of (take m.ports m.declarations) name) refl
  where
    not_input : (n : ℕ) → number_of (take m.ports m.declarations) name ≡ Some n → (b : Bool) → is_input_at m.declarations n ≡ b → (if b then Some n else None) ≡ None
    not_input n e false h = refl
    not_input n e true h =
        let f = found (take m.ports m.declarations) name n e in
        let there = get_take m.ports m.declarations n f.d f.there in
        let input : is_input f.d.kind ≡ true = sym (ap (λ (o : Option Declaration). option_map_or (λ (x : Declaration). is_input x.kind) o false) there) ∙ h in
        let clock : bytes_eq f.d.name (codes "clk") ≡ true = only n f.d there input in
        let same : f.d.name ≡ name = (bytes_eq-Decides f.d.name name).0 f.named in
        absurd (true≢false (sym clock ∙ ap (λ (x : List ℕ). bytes_eq x (codes "clk")) same ∙ other))

    pick : (o : Option ℕ) → number_of (take m.ports m.declarations) name ≡ o → option_and_then (λ n. if is_input_at m.declarations n then Some n else None) o ≡ None
    pick None e = refl
    pick (Some n) e = not_input n e (is_input_at m.declarations n) refl

unbound : (m : Module) (value : Nets) (ps : List Pin) → HasOnlyClock m → AllByRecursion (λ (p : Pin). bytes_eq p.name (codes "clk") ≡ false) ps → AllByRecursion (λ (p : Pin). IfSome (option_map value (input_number m p.name)) (λ v. v ≡ p.value)) ps
unbound m value [] only h = tt
unbound m value (p ∷ ps) only h =
    (subst (λ (o : Option ℕ). IfSome (option_map value o) (λ v. v ≡ p.value)) (sym (none_named m p.name only h.0)) tt, unbound m value ps only h.1)

pub binds_nothing : (m : Module) (schema : Schema) (beats : Beats) (value : ℕ → Nets) → HasOnlyClock m → IsStimulus schema beats (input_values m value)
binds_nothing m schema beats value only = record { carries = λ t. unbound m (value t) (pins schema beats t) only (pins_other schema beats t) }
