-- The values that the input ports of a module have in each cycle of a run over beats.
use Rattle.std.proofs.Common.{◌≡◌, ℕ, zero, suc, ◌^◌, ◌<◌, Bool, true, false, List, [], ◌∷◌, map, Option, Some, None, sym, ap, ◌∙◌, subst}
use Rattle.std.specs.Prelude.{slice_get, IfSome, if◌then◌else◌}
use Rattle.std.specs.Option.{option_and_then, option_map, option_map_or}
use Rattle.std.specs.List.{AllByRecursion, AllZip}
use Rattle.gl_schema.specs.declared.schema.Schema.{Schema}
use Rattle.gl_schema.specs.Beats.{Beats, AreBeats, beat_at, rows_at, ends_at, ticks_at}
use Rattle.gl_schema.specs.Ports.{Pin, pins, IsStimulus}
use Rattle.gl_verilog.specs.Module.{Module, Declaration, Input, Nets, number_of}
use Rattle.gl_verilog.specs.Run.{input_values, input_number, is_input_at}
use Rattle.gl_verilog.specs.Run.{is_input as leads_in}
use Rattle.gl_verilog.specs.Runnable.{inputs_of, FitInputs, HasInputs}
use Rattle.gl_verilog.specs.Text.{HasModule}
use Rattle.gl_verilog.specs.Valid.{IsValid}
use Rattle.gl_verilog.specs.Widths.{is_clock, width_at}
use Rattle.gl_verilog.proofs.Fits.{width_at-found}
use Rattle.gl_bits.proofs.AllLists.{all_weaker}
use Rattle.gl_sim.proofs.Settling.{IsInputPort, inputs_of-ports}
use Rattle.gl_testbench.specs.declared.pins.Pin.{Pin as Carried}
use Rattle.gl_testbench.specs.Carried.{pin_named, pin_at, at_reset, with_beat}
use Rattle.gl_schema.specs.Profile.{input_ports}
use Rattle.gl_schema.proofs.Pinned.{pins_fit}
use Rattle.gl_verilog_ports.specs.Profile.{FitsSchema, HasInputPorts, input_width, ports_of}
use Rattle.gl_verilog_ports.proofs.Fits.{kind_is_input}
use Rattle.gl_testbench.proofs.Carries.{Fact, OfBoth, IsNarrow, found, zip_all}
use Rattle.gl_verilog_ports.proofs.Declared as declared

zip_maps : {A : Type 0} (R : ℕ → ℕ → Type 0) (f : ℕ → A) (g : A → ℕ) (ns : List ℕ) → AllByRecursion (λ n. R n (g (f n))) ns → AllZip R ns (map g (map f ns))
zip_maps R f g [] h = tt
zip_maps R f g (n ∷ ns) h = (h.0, zip_maps R f g ns h.1)

-- what a pin carries in a cycle
abbrev pub carried_at : Beats → ℕ → Carried → ℕ
carried_at beats zero p = at_reset beats.sets p
carried_at beats (suc n) p = with_beat beats.sets (beat_at beats.list n) p

-- a fact of all of the schema's ports holds of what an input port carries
pub found_at : (R : Fact) (schema : Schema) (beats : Beats) (t : ℕ) (name : List ℕ) (w : ℕ) → AllZip (OfBoth R) (input_ports true schema) (pins schema beats t) → input_width schema name ≡ Some w → R w name (carried_at beats t (pin_named schema name))
found_at R schema beats zero name w z e = found R schema name 1 [] false false beats.sets w z e
found_at R schema beats (suc n) name w z e = found R schema name 0 (rows_at beats.list n) (ends_at beats.list n) (ticks_at beats.list n) beats.sets w z e

-- the input port of a name
pub input_there : (m : Module) (n : ℕ) (d : Declaration) → slice_get m.declarations n ≡ Some d → d.kind ≡ Input → number_of (ports_of m) d.name ≡ Some n → input_number m d.name ≡ Some n
input_there m n d there kind number =
    let input : is_input_at m.declarations n ≡ true = ap (λ (o : Option Declaration). option_map_or (λ (x : Declaration). leads_in x.kind) o false) there ∙ ap leads_in kind in
    ap (option_and_then (λ (k : ℕ). if is_input_at m.declarations k then Some k else None)) number ∙ ap (λ (b : Bool). if b then Some n else None) input

-- every input port but the clock is one of the schema's, with its bits
abbrev pub AreAsked : Module → Schema → Type 0
AreAsked m schema =
    (n : ℕ) (d : Declaration) → slice_get (ports_of m) n ≡ Some d → d.kind ≡ Input → is_clock d ≡ false → input_width schema d.name ≡ Some d.width

-- as those of a module that fits the schema are
pub asked_of : (m : Module) (schema : Schema) → FitsSchema m schema → AreAsked m schema
asked_of m schema fits n d at input other = fits.inputs n d (declared.get_take m.ports m.declarations n d at) input other

-- the input ports, as the schema asks for them
record IsAsked (schema : Schema) (m : Module) (n : ℕ) : Type 0 where
  d : Declaration
  there : slice_get m.declarations n ≡ Some d
  number : input_number m d.name ≡ Some n
  width : input_width schema d.name ≡ Some d.width

is_asked : (schema : Schema) (m : Module) (n : ℕ) → IsValid m → HasInputPorts m → AreAsked m schema → IsInputPort m.declarations n → IsAsked schema m n
is_asked schema m n valid among asked p = record {
  d = p.declaration;
  there = p.is;
  number = input_there m n p.declaration p.is (kind_is_input p.declaration.kind p.input) (declared.input_number m n p.declaration valid.names among p.is p.input);
  width = asked n p.declaration (among n p.declaration p.is p.input) (kind_is_input p.declaration.kind p.input) p.no_clock;
}

pin_is : (schema : Schema) (m : Module) (n : ℕ) (d : Declaration) → slice_get m.declarations n ≡ Some d → pin_at schema m.declarations n ≡ pin_named schema d.name
pin_is schema m n d e = ap (λ (o : Option Declaration). pin_named schema (option_map_or (λ (x : Declaration). x.name) o [])) e

-- they fit
pub inputs_fit : (schema : Schema) (m : Module) (beats : Beats) (t : ℕ) → IsValid m → HasInputPorts m → AreAsked m schema → AreBeats schema beats → FitInputs m (map (carried_at beats t) (map (pin_at schema m.declarations) (inputs_of m)))
inputs_fit schema m beats t valid among asked are =
    zip_maps (λ n x. x < 2 ^ width_at m.declarations n) (pin_at schema m.declarations) (carried_at beats t) (inputs_of m)
    (all_weaker (IsInputPort m.declarations) (λ n. carried_at beats t (pin_at schema m.declarations n) < 2 ^ width_at m.declarations n)
    (λ n p.
    let a = is_asked schema m n valid among asked p in
    let small : carried_at beats t (pin_named schema a.d.name) < 2 ^ a.d.width = found_at IsNarrow schema beats t a.d.name a.d.width (pins_fit schema beats t are) a.width in
    rw (pin_is schema m n a.d a.there, width_at-found m.declarations n a.d a.there) small)
    (inputs_of m) (inputs_of-ports m))

-- in a run over the beats a port carries its value
pub input_carries : (schema : Schema) (m : Module) (beats : Beats) (value : ℕ → Nets) (t : ℕ) → IsValid m → HasInputPorts m → AreAsked m schema → AreBeats schema beats → IsStimulus schema beats (input_values m value) → (n : ℕ) → IsInputPort m.declarations n → value t n ≡ carried_at beats t (pin_at schema m.declarations n)
input_carries schema m beats value t valid among asked are stimulus n p =
    let a = is_asked schema m n valid among asked p in
    let carries : IfSome (input_values m value t a.d.name) (λ v. v ≡ carried_at beats t (pin_named schema a.d.name)) =
    found_at (λ w name x. IfSome (input_values m value t name) (λ v. v ≡ x)) schema beats t a.d.name a.d.width
    (zip_all (OfBoth IsNarrow) (λ (q : Pin). IfSome (input_values m value t q.name) (λ v. v ≡ q.value)) (input_ports true schema) (pins schema beats t) (pins_fit schema beats t are) (stimulus.carries t)) a.width in
    let there : value t n ≡ carried_at beats t (pin_named schema a.d.name) =
    subst (λ (o : Option ℕ). IfSome (option_map (value t) o) (λ v. v ≡ carried_at beats t (pin_named schema a.d.name))) a.number carries in
    there ∙ sym (ap (carried_at beats t) (pin_is schema m n a.d a.there))

-- and so in the module of a text
pub port_carries : ((text : List ℕ) (m : Module) → HasModule text m → HasInputPorts m) → (text : List ℕ) (schema : Schema) (m : Module) (beats : Beats) (value : ℕ → Nets) (t : ℕ) → HasModule text m → AreAsked m schema → AreBeats schema beats → IsStimulus schema beats (input_values m value) → (n : ℕ) → IsInputPort m.declarations n → value t n ≡ carried_at beats t (pin_at schema m.declarations n)
port_carries inputs_are_ports text schema m beats value t has asked are stimulus n p = input_carries schema m beats value t has.valid (inputs_are_ports text m has) asked are stimulus n p

-- and the inputs have theirs
pub run_has_inputs : (schema : Schema) (m : Module) (beats : Beats) (value : ℕ → Nets) (t : ℕ) → IsValid m → HasInputPorts m → AreAsked m schema → AreBeats schema beats → IsStimulus schema beats (input_values m value) → HasInputs m (value t) (map (carried_at beats t) (map (pin_at schema m.declarations) (inputs_of m)))
run_has_inputs schema m beats value t valid among asked are stimulus =
    zip_maps (λ n x. value t n ≡ x) (pin_at schema m.declarations) (carried_at beats t) (inputs_of m)
    (all_weaker (IsInputPort m.declarations) (λ n. value t n ≡ carried_at beats t (pin_at schema m.declarations n))
    (input_carries schema m beats value t valid among asked are stimulus) (inputs_of m) (inputs_of-ports m))
