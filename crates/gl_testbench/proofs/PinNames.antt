-- Pins of one name have one value: no two inputs of a schema have one name, and none is called as the clock.
use Rattle.std.proofs.Common.{◌≡◌, ℕ, false, List, [], ◌∷◌, refl, sym, subst}
use Rattle.std.specs.Prelude.{bytes_eq}
use Rattle.std.specs.List.{AllByRecursion}
use Rattle.gl_bits.proofs.AllLists.{all_weaker}
use Rattle.gl_bits.proofs.Bools.{bytes_other}
use Rattle.gl_schema.specs.declared.schema.Schema.{Schema}
use Rattle.gl_schema.specs.Beats.{Beats}
use Rattle.gl_schema.specs.Schemas.{IsSchema}
use Rattle.gl_schema.specs.Ports.{Pin, pins, pin_names}
use Rattle.gl_schema.specs.Profile.{clk}
use Rattle.gl_schema.proofs.InputNames.{Apart, AreApart, names_apart}
use Rattle.gl_schema.proofs.Pinned.{pins_named}

-- no pin of this name has another value
abbrev pub OneValue : List Pin → Pin → Type 0
OneValue ps p = AllByRecursion (λ (q : Pin). q.name ≡ p.name → q.value ≡ p.value) ps

others_differ : (n : List ℕ) (ps : List Pin) → Apart n (pin_names ps) → AllByRecursion (λ (q : Pin). n ≡ q.name → ⊥) ps
others_differ n [] h = tt
others_differ n (p ∷ ps) h = (h.0, others_differ n ps h.1)

before_others : (x : Pin) (ps qs : List Pin) → AllByRecursion (λ (q : Pin). x.name ≡ q.name → ⊥) qs → AllByRecursion (OneValue ps) qs → AllByRecursion (OneValue (x ∷ ps)) qs
before_others x ps [] h k = tt
before_others x ps (q ∷ qs) h k = ((λ e. absurd (h.0 e), k.0), before_others x ps qs h.1 k.1)

each_one : (ps : List Pin) → AreApart (pin_names ps) → AllByRecursion (OneValue ps) ps
each_one [] h = tt
each_one (p ∷ ps) h =
    let others = others_differ p.name ps h.0 in (
      (λ e. refl, all_weaker (λ (q : Pin). p.name ≡ q.name → ⊥) (λ (q : Pin). q.name ≡ p.name → q.value ≡ p.value) (λ q no' e. absurd (no' (sym e))) ps others),
      before_others p ps ps others (each_one ps h.1),
    )

pins_apart : (schema : Schema) (beats : Beats) (t : ℕ) → IsSchema schema → AreApart (clk ∷ pin_names (pins schema beats t))
pins_apart schema beats t is = subst (λ (ns : List (List ℕ)). AreApart (clk ∷ ns)) (sym (pins_named schema beats t)) (names_apart schema is)

pub pins_one : (schema : Schema) (beats : Beats) (t : ℕ) → IsSchema schema → AllByRecursion (OneValue (pins schema beats t)) (pins schema beats t)
pins_one schema beats t is = each_one (pins schema beats t) (pins_apart schema beats t is).1

no_clocks : (ps : List Pin) → Apart clk (pin_names ps) → AllByRecursion (λ (p : Pin). bytes_eq p.name clk ≡ false) ps
no_clocks [] h = tt
no_clocks (p ∷ ps) h = (bytes_other p.name clk (λ e. h.0 (sym e)), no_clocks ps h.1)

pub pins_no_clock : (schema : Schema) (beats : Beats) (t : ℕ) → IsSchema schema → AllByRecursion (λ (p : Pin). bytes_eq p.name clk ≡ false) (pins schema beats t)
pins_no_clock schema beats t is = no_clocks (pins schema beats t) (pins_apart schema beats t is).0
