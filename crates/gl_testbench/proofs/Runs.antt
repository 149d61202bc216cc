-- A valid module whose ports fit a schema has a run in some order of events over any beats of the schema.
use Rattle.std.proofs.Common.{◌≡◌, ℕ, ◌^◌, ◌<◌, Bool, true, false, not, ◌&&◌, List, [], ◌∷◌, map, Option, Some, None, Result, Ok, Err, refl, sym, ap, ◌∙◌, subst, codes}
use Rattle.std.specs.Prelude.{slice_get, bytes_eq, IfSome, IsOk, if◌then◌else◌}
use Rattle.std.specs.Option.{option_map, option_map_or}
use Rattle.std.specs.List.{AllZip}
use Rattle.std.proofs.lemmas.Nat.{pow_pos}
use Rattle.gl_bits.proofs.AllLists.{all_at, all_by_place}
use Rattle.gl_bits.proofs.Bools.{and_both, and_left, and_right, bytes_same, not_false, not_true}
use Rattle.gl_schema.specs.declared.schema.Schema.{Schema}
use Rattle.gl_schema.specs.Beats.{Beats, AreBeats}
use Rattle.gl_schema.specs.Ports.{Pin, pins}
use Rattle.gl_schema.specs.Profile.{clk, input_ports}
use Rattle.gl_schema.specs.Schemas.{IsSchema}
use Rattle.gl_schema.proofs.Pinned.{pins_fit}
use Rattle.gl_verilog.specs.Module.{Module, Declaration, Nets, Memories}
use Rattle.gl_verilog.specs.Run.{Fit, input_number, input_values, is_input}
use Rattle.gl_verilog.specs.Runnable.{FitInputs, SameInputs, SameState, inputs_of}
use Rattle.gl_verilog.specs.Valid.{IsValid}
use Rattle.gl_verilog.specs.Widths.{is_clock, width_at}
use Rattle.gl_verilog.specs.Laws.{HasEventRuns}
use Rattle.gl_verilog.specs.declared.start.Start.{Start}
use Rattle.gl_verilog_ports.specs.declared.fitting.Ports.{Ports}
use Rattle.gl_verilog_ports.specs.declared.fitting.Misfit.{Misfit}
use Rattle.gl_verilog_ports.specs.Fit.{fit_of}
use Rattle.gl_verilog_ports.specs.Profile.{ports_of}
use Rattle.gl_verilog_ports.proofs.Declared.{get_take}
use Rattle.gl_verilog_ports.proofs.Fits.{asked_port, kind_is_input}
use Rattle.gl_verilog_ports.proofs.Inputs.{inputs_numbered}
use Rattle.gl_verilog_ports.proofs.Named.{found_port, inputs_so}
use Rattle.gl_sim.specs.Starts.{RunsWith, register_at, word_at}
use Rattle.gl_testbench.specs.Carried.{pin_named}
use Rattle.gl_testbench.specs.Runs.{HasRunsOver, HasStartedRuns, RunsOver}
use Rattle.gl_testbench.proofs.Carries.{IsNarrow, OfBoth, zip_all}
use Rattle.gl_testbench.proofs.Inputs.{AreAsked, carried_at, found_at}
use Rattle.gl_testbench.proofs.PinNames.{OneValue, pins_no_clock, pins_one}

-- an input of the schema, the clock aside
takes_beats : Declaration → Bool
takes_beats d = is_input d.kind && not (is_clock d)

-- what the ports carry, 0 where none carries anything
given : Module → Schema → Beats → ℕ → Nets
given m schema beats t n = option_map_or (λ (d : Declaration). if takes_beats d then carried_at beats t (pin_named schema d.name) else 0) (slice_get (ports_of m) n) 0

named_clock : (name : List ℕ) → bytes_eq name clk ≡ false → bytes_eq name (codes "clk") ≡ false
unfolding clk
named_clock name e = e

module _ (m : Module) (schema : Schema) (valid : IsValid m) (is : IsSchema schema) (asked : AreAsked m schema) (beats : Beats) (are : AreBeats schema beats) where
  -- they fit
  port_fits : (t n : ℕ) (d : Declaration) → slice_get (ports_of m) n ≡ Some d → (if takes_beats d then carried_at beats t (pin_named schema d.name) else 0) < 2 ^ d.width
  unfolding takes_beats
  port_fits t n d there = pick (takes_beats d) refl
    where
      pick : (b : Bool) → (is_input d.kind && not (is_clock d)) ≡ b → (if b then carried_at beats t (pin_named schema d.name) else 0) < 2 ^ d.width
      pick true e =
          let width = asked n d there (kind_is_input d.kind (and_left (is_input d.kind) (not (is_clock d)) e)) (not_true (is_clock d) (and_right (is_input d.kind) (not (is_clock d)) e)) in
          found_at IsNarrow schema beats t d.name d.width (pins_fit schema beats t are) width
      pick false e = pow_pos d.width

  given_fits : (t n : ℕ) (d : Declaration) → slice_get m.declarations n ≡ Some d → given m schema beats t n < 2 ^ d.width
  unfolding given
  given_fits t n d there = pick (slice_get (ports_of m) n) refl
    where
      pick : (o : Option Declaration) → slice_get (ports_of m) n ≡ o → option_map_or (λ (x : Declaration). if takes_beats x then carried_at beats t (pin_named schema x.name) else 0) o 0 < 2 ^ d.width
      pick None e = pow_pos d.width
      pick (Some x) e =
          let at : slice_get m.declarations n ≡ Some x = get_take m.ports m.declarations n x e in
          let same : x ≡ d = cc (at, there) in
          subst (λ (y : Declaration). (if takes_beats x then carried_at beats t (pin_named schema x.name) else 0) < 2 ^ y.width) same (port_fits t n x e)

  -- where the inputs have them, each pin that the module has carries its value
  pin_carried : (t : ℕ) (v : Nets) (p : Pin) → SameInputs m.declarations (given m schema beats t) v → OneValue (pins schema beats t) p → bytes_eq p.name clk ≡ false → IfSome (option_map v (input_number m p.name)) (λ x. x ≡ p.value)
  unfolding given takes_beats
  pin_carried t v p same one other = pick (input_number m p.name) refl
    where
      pick : (o : Option ℕ) → input_number m p.name ≡ o → IfSome (option_map v o) (λ x. x ≡ p.value)
      pick None e = tt
      pick (Some n) e =
          let at = found_port is_input (ports_of m) p.name n (sym (inputs_so (ports_of m) p.name) ∙ sym (inputs_numbered m p.name valid.names) ∙ e) in
          let d = at.d in
          let name : d.name ≡ p.name = bytes_same d.name p.name at.named in
          let no_clock : is_clock d ≡ false = subst (λ (x : List ℕ). bytes_eq x (codes "clk") ≡ false) (sym name) (named_clock p.name other) in
          let takes : (is_input d.kind && not (is_clock d)) ≡ true = and_both (is_input d.kind) (not (is_clock d)) at.way (not_false (is_clock d) no_clock) in
          let there = get_take m.ports m.declarations n d at.there in
          let here : given m schema beats t n ≡ carried_at beats t (pin_named schema d.name) =
          ap (λ (o : Option Declaration). option_map_or (λ (x : Declaration). if takes_beats x then carried_at beats t (pin_named schema x.name) else 0) o 0) at.there
          ∙ ap (λ (b : Bool). if b then carried_at beats t (pin_named schema d.name) else 0) takes in
          let value : carried_at beats t (pin_named schema d.name) ≡ p.value =
          found_at (λ w x y. x ≡ p.name → y ≡ p.value) schema beats t d.name d.width
          (zip_all (OfBoth IsNarrow) (λ (q : Pin). q.name ≡ p.name → q.value ≡ p.value) (input_ports true schema) (pins schema beats t) (pins_fit schema beats t are) one)
          (asked n d at.there (kind_is_input d.kind at.way) no_clock) name in
          sym (same n d there (kind_is_input d.kind at.way) no_clock) ∙ here ∙ value

  run_over : (start : Nets) (words : Memories) → HasEventRuns m → Fit m.declarations start words → RunsOver m schema beats start words
  run_over start words has fits =
      let r = has start words (λ t. given m schema beats t) fits (λ t n d e. (given_fits t n d e, (fits n d e).1)) in
      record {
        value = r.value;
        word = r.word;
        run = r.is;
        starts = r.starts;
        stimulus = record {
          carries = λ t. all_by_place (λ (p : Pin). IfSome (input_values m r.value t p.name) (λ x. x ≡ p.value)) (pins schema beats t)
              (λ i p e. pin_carried t (r.value t) p (r.takes t) (all_at (OneValue (pins schema beats t)) (pins schema beats t) i p e (pins_one schema beats t is)) (all_at (λ (q : Pin). bytes_eq q.name clk ≡ false) (pins schema beats t) i p e (pins_no_clock schema beats t is)));
        };
      }

-- where the inputs are the schema's, whatever the outputs are
pub runs_asked : (m : Module) (schema : Schema) → IsValid m → IsSchema schema → AreAsked m schema → HasEventRuns m → HasRunsOver m schema
runs_asked m schema valid is asked has = λ beats start words are fits. run_over m schema valid is asked beats are start words has fits

-- and so where the ports fit it
pub runs_over : (m : Module) (schema : Schema) → IsValid m → IsSchema schema → IsOk (fit_of m schema) → HasEventRuns m → HasRunsOver m schema
runs_over m schema valid is ok has = pick (fit_of m schema) refl ok
  where
    pick : (r : Result Ports Misfit) → fit_of m schema ≡ r → IsOk r → HasRunsOver m schema
    pick (Ok ports) e ok = runs_asked m schema valid is (λ n d at input other. asked_port m schema ports n d e at (ap is_input input) other) has
    pick (Err misfit) e ok = absurd cc

-- ---- from all of 0, or drawn

-- no input has a bit of 1
zeros_fit : (m : Module) (ns : List ℕ) → AllZip (λ n x. x < 2 ^ width_at m.declarations n) ns (map (λ n. 0) ns)
zeros_fit m [] = tt
zeros_fit m (n ∷ ns) = (pow_pos (width_at m.declarations n), zeros_fit m ns)

same_then : (m : Module) (a b c : Nets) (u v w : Memories) → SameState m.declarations a u b v → SameState m.declarations b v c w → SameState m.declarations a u c w
same_then m a b c u v w h k = record { registers = λ n d e r. h.registers n d e r ∙ k.registers n d e r; words = λ n d at e lt. h.words n d at e lt ∙ k.words n d at e lt }

pub started : (m : Module) (schema : Schema) → HasRunsOver m schema → ((start : Start) (rows : ℕ → List ℕ) → ((t : ℕ) → FitInputs m (rows t)) → RunsWith start m rows) → HasStartedRuns m schema
started m schema has runs = λ beats start are.
    let first = runs start (λ t. map (λ n. 0) (inputs_of m)) (λ t. zeros_fit m (inputs_of m)) in
    let r = has beats (first.value 0) (first.word 0) are (first.is.fits 0) in
    record {
      value = r.value;
      word = r.word;
      run = r.run;
      starts = same_then m (register_at start m.declarations) (first.value 0) (r.value 0) (word_at start m.declarations) (first.word 0) (r.word 0) first.starts r.starts;
      stimulus = r.stimulus;
    }
