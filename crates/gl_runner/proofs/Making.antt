-- One cycle made by a simulator, at a run over beats.
use Rattle.std.proofs.Common.{Bor, ◌≡◌, ℕ, zero, suc, ◌+◌, ◌^◌, ◌<◌, List, [], ◌∷◌, map, length, Option, Some, None, refl, sym, ap, ◌∙◌, subst, arith, add-one}
use Rattle.std.specs.Prelude.{slice_get, slice_index, unwrap_or}
use Rattle.std.specs.Option.{option_map}
use Rattle.gl_schema.specs.declared.schema.Schema.{Schema}
use Rattle.gl_schema.specs.Beats.{Beat, Beats, beat_at}
use Rattle.gl_schema.specs.Ports.{IsStimulus}
use Rattle.gl_tuples.specs.declared.beats.Beat.{Beat as Read}
use Rattle.gl_tuples.specs.Gaps.{plain_beat}
use Rattle.gl_verilog.specs.Module.{Declaration, Module, Nets, Memories, number_of}
use Rattle.gl_verilog.specs.declared.module.Module.{Module as Rust}
use Rattle.gl_verilog.specs.View.{module_of}
use Rattle.gl_verilog.specs.Run.{Fit, IsRun, input_values}
use Rattle.gl_verilog.specs.Valid.{IsValid}
use Rattle.gl_verilog.specs.Evaluate.{nets_of}
use Rattle.gl_verilog.specs.Runnable.{inputs_of, FitInputs, HasInputs, SameNets}
use Rattle.gl_verilog.specs.Widths.{IsReadable}
use Rattle.gl_sim.specs.Simulation.{Simulation, IsAt, Shows as SimShows}
use Rattle.gl_testbench.specs.declared.pins.Pin.{Pin}
use Rattle.gl_testbench.specs.Carried.{pin_at, at_reset, with_beat}
use Rattle.gl_runner.specs.Cycles.{CanDrive, CanFollow, IsFollowed, IsMade}
use Rattle.gl_verilog_ports.specs.Profile.{ports_of}
use Rattle.gl_verilog_ports.proofs.Declared.{distinct_take, get_take, number_at}
use Rattle.gl_testbench.proofs.Inputs.{asked_of, carried_at, inputs_fit, run_has_inputs}
use Rattle.gl_values.specs.declared.kind.Kind.{Kind}

-- where the lines of one result can be written, the module can be driven
pub can_drive : (m : Module) (schema : Schema) (kinds : List Kind) (beats : Beats) → CanFollow m schema kinds beats → CanDrive m schema beats
can_drive m schema kinds beats can = record { valid = can.valid; inputs = can.inputs; takes = asked_of m schema can.fits; beats' = can.beats' }

-- the values set for a cycle of the file, and for the reset
pub beat_values : (m : Module) (schema : Schema) (beats : Beats) (n : ℕ) (sets : List ℕ) (o : Option Beat) (ps pins : List Pin) (values : List ℕ)
    → values ≡ map (with_beat sets o) ps → ps ≡ pins → sets ≡ beats.sets → o ≡ beat_at beats.list n → pins ≡ map (pin_at schema m.declarations) (inputs_of m)
    → values ≡ map (carried_at beats (suc n)) (map (pin_at schema m.declarations) (inputs_of m))
beat_values m schema beats n sets o ps pins values e same held due are =
    e ∙ ap (λ (x : List ℕ). map (with_beat x o) ps) held ∙ ap (λ (x : Option Beat). map (with_beat beats.sets x) ps) due ∙ ap (map (with_beat beats.sets (beat_at beats.list n))) (same ∙ are)

-- the place of a beat that there is
pub get_below : (bs : List Read) (at : ℕ) (b : Read) → Some b ≡ slice_get bs at → at < length bs
get_below [] at b e = absurd cc
get_below (x ∷ bs) zero b e = omega arith
get_below (x ∷ bs) (suc at) b e = let h : at < length bs = get_below bs at b e in omega (arith, h)

-- a beat that is borrowed
pub seen_beat : (r : Option (Bor Read)) (o : Option Read) → option_map (λ b. b.now) r ≡ o → option_map (λ b. plain_beat b.now) r ≡ option_map plain_beat o
seen_beat None o e = ap (option_map plain_beat) e
seen_beat (Some b) o e = ap (option_map plain_beat) e

pub reset_values : (m : Module) (schema : Schema) (beats : Beats) (sets : List ℕ) (ps pins : List Pin) (values : List ℕ)
    → values ≡ map (at_reset sets) ps → ps ≡ pins → sets ≡ beats.sets → pins ≡ map (pin_at schema m.declarations) (inputs_of m)
    → values ≡ map (carried_at beats 0) (map (pin_at schema m.declarations) (inputs_of m))
reset_values m schema beats sets ps pins values e same held are = e ∙ ap (λ (x : List ℕ). map (at_reset x) ps) held ∙ ap (map (at_reset beats.sets)) (same ∙ are)

pub values_fit : (m : Module) (schema : Schema) (beats : Beats) (t : ℕ) (values : List ℕ) → CanDrive m schema beats → values ≡ map (carried_at beats t) (map (pin_at schema m.declarations) (inputs_of m)) → FitInputs m values
values_fit m schema beats t values can e = subst (FitInputs m) (sym e) (inputs_fit schema m beats t can.valid can.inputs can.takes can.beats')

-- a run is followed through one cycle
abbrev pub Follows : Rust → Simulation → Simulation → List ℕ → Type 0
Follows d s s' values = (value : ℕ → Nets) (word : ℕ → Memories) (t : ℕ) → IsRun (module_of d) value word → IsAt s value word t → HasInputs (module_of d) (value t) values → SimShows s' (value t) × IsAt s' value word (t + 1)

step_followed : (s s' : Simulation) (schema : Schema) (beats : Beats) (t : ℕ) (values : List ℕ) (value : ℕ → Nets) (word : ℕ → Memories)
    → CanDrive (module_of s.design) schema beats → values ≡ map (carried_at beats t) (map (pin_at schema (module_of s.design).declarations) (inputs_of (module_of s.design))) → Follows s.design s s' values
    → IsFollowed s schema beats value word t → SimShows s' (value t) × IsAt s' value word (t + 1)
step_followed s s' schema beats t values value word can e follows f =
    follows value word t f.run f.at
    (subst (HasInputs (module_of s.design) (value t)) (sym e) (run_has_inputs schema (module_of s.design) beats value t can.valid can.inputs can.takes can.beats' f.stimulus))

followed_on : (s s' : Simulation) (schema : Schema) (beats : Beats) (t t' : ℕ) (value : ℕ → Nets) (word : ℕ → Memories) → s'.design ≡ s.design → IsFollowed s schema beats value word t → IsAt s' value word t' → IsFollowed s' schema beats value word t'
followed_on s s' schema beats t t' value word e f at = record {
  run = subst (λ (d : Rust). IsRun (module_of d) value word) (sym e) f.run;
  stimulus = subst (λ (d : Rust). IsStimulus schema beats (input_values (module_of d) value)) (sym e) f.stimulus;
  at = at;
}

pub reset_followed : (s s' : Simulation) (schema : Schema) (beats : Beats) (values : List ℕ) (value : ℕ → Nets) (word : ℕ → Memories)
    → CanDrive (module_of s.design) schema beats → s'.design ≡ s.design → values ≡ map (carried_at beats 0) (map (pin_at schema (module_of s.design).declarations) (inputs_of (module_of s.design))) → Follows s.design s s' values
    → IsFollowed s schema beats value word 0 → IsFollowed s' schema beats value word 1
reset_followed s s' schema beats values value word can same e follows f =
    followed_on s s' schema beats 0 1 value word same f (step_followed s s' schema beats 0 values value word can e follows f).1

-- what the simulator has on a port is what the port has
on_port : (m : Module) (have : List ℕ) (v : Nets) (words : Memories) → IsValid m → SameNets m.declarations (nets_of have) v → Fit m.declarations v words → (k : ℕ) (d : Declaration) → slice_get (ports_of m) k ≡ Some d → IsReadable d
    → (slice_index have k ≡ unwrap_or (option_map v (number_of (ports_of m) d.name)) 0) × (slice_index have k < 2 ^ d.width)
on_port m have v words valid same fit k d there readable =
    let there' : slice_get m.declarations k ≡ Some d = get_take m.ports m.declarations k d there in
    let number : number_of (ports_of m) d.name ≡ Some k = number_at (ports_of m) k d (distinct_take m.ports m.declarations valid.names) there in
    let equal : slice_index have k ≡ v k = same k d there' readable in
    let small : v k < 2 ^ d.width = (fit k d there').0 in
    (rw (number, equal) refl, rw equal small)

pub cycle_made : (s s' : Simulation) (schema : Schema) (beats : Beats) (n : ℕ) (values : List ℕ) (value : ℕ → Nets) (word : ℕ → Memories)
    → CanDrive (module_of s.design) schema beats → s'.design ≡ s.design → values ≡ map (carried_at beats (suc n)) (map (pin_at schema (module_of s.design).declarations) (inputs_of (module_of s.design))) → Follows s.design s s' values
    → IsFollowed s schema beats value word (n + 1) → IsMade (module_of s.design) s' schema beats n value word
cycle_made s s' schema beats n values value word can same e follows f =
    let m : Module = module_of s.design in
    let f' : IsFollowed s schema beats value word (suc n) = subst (IsFollowed s schema beats value word) (add-one n) f in
    let step = step_followed s s' schema beats (suc n) values value word can e follows f' in
    let two : suc n + 1 ≡ n + 2 = omega arith in
    let nets : SameNets m.declarations (nets_of s'.shown) (value (suc n)) = subst (λ (d : Rust). SameNets (module_of d).declarations (nets_of s'.shown) (value (suc n))) same step.0 in
    record {
      followed = followed_on s s' schema beats (suc n) (n + 2) value word same f' (subst (IsAt s' value word) two step.1);
      ports' = λ k d there readable. on_port m s'.shown (value (suc n)) (word (suc n)) can.valid nets (f.run.fits (suc n)) k d there readable;
    }
