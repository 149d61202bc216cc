-- The run of a trace that holds the words of the parameters: what beats set is what its held inputs carry.
use Rattle.std.proofs.Common.{◌≡◌, ℕ, zero, suc, cond, Bool, true, false, List, [], ◌∷◌, ◌++◌, Some, None, slice_get, slice_index, map, filter, refl, sym, ap, subst, ◌∙◌}
use Rattle.std.specs.Prelude.{◌&&◌, IfSome, codes, option_map}
use Rattle.std.specs.List.{AllByRecursion, flat_map}
use Rattle.std.proofs.lemmas.List.{append-nil}
use Rattle.std.proofs.lemmas.Option.{same_Some, slice_get-map}
use Rattle.gl_bits.proofs.AllLists.{all_back}
use Rattle.gl_bits.proofs.Bools.{and_left, by_cases}
use Rattle.gl_schema.specs.declared.schema.Column.{Column}
use Rattle.gl_schema.specs.declared.schema.Stream.{Stream}
use Rattle.gl_schema.specs.declared.schema.Schema.{Schema}
use Rattle.gl_schema.specs.Beats.{Beats, rows_at}
use Rattle.gl_schema.specs.Ports.{IsStimulus, Pin, eos, fault_group, fault_queue, in_column, in_parameter, in_valid, out_eos, parameter_pins, pin, rst, streams_pins, tick}
use Rattle.gl_net.specs.declared.node.Direction.{Direction}
use Rattle.gl_net.specs.declared.node.Direction.TheVariants.{In, Out}
use Rattle.gl_net.specs.declared.node.Node.{Node}
use Rattle.gl_net.specs.declared.node.Node.TheVariants as node
use Rattle.gl_net.specs.declared.node.Port.{Port}
use Rattle.gl_net.specs.Net.{Fits, Holds, IsHeld, IsPort, IsTrace, Net, Run, Shape, Value, Words, begins_with, held_ports, is_held, is_inward, shape_of}
use Rattle.gl_net.specs.PortValues.{PortShape, input_values, port_shape, port_shapes}
use Rattle.gl_wiring.specs.EmittedPorts.{column_inputs, input, output, parameter_inputs, stream_inputs, streams_inputs}
use Rattle.gl_wiring.specs.Naming.{Naming}
use Rattle.gl_wiring.specs.Output.{column_outputs, early_inputs, input_ports, late_inputs, result_outputs}
use Rattle.gl_wiring.specs.PlanNet.{HasParameters}
use Rattle.gl_wiring.proofs.Outputs.{AreApart, has_input, input_is}
use Rattle.gl_wiring.proofs.Following.{carried}

-- ---- a trace says nothing of the words that are held

module _ (run : Run) (held : ℕ → ℕ) where
  abbrev pub with_held : Run
  with_held = record run { held = held }

  same_fits : (n : ℕ) (s : Shape) → Fits run n s → Fits with_held n s
  same_fits n (Value w) h = h
  same_fits n (Words bits w) h = h

  same_holds : (n : ℕ) (x : Node) → Holds run n x → Holds with_held n x
  same_holds n (node.Input port w) h = h
  same_holds n (node.Constant word) h = h
  same_holds n (node.Not x) h = h
  same_holds n (node.Binary op x y) h = h
  same_holds n (node.Choose test x y) h = h
  same_holds n (node.Join x y) h = h
  same_holds n (node.Cut x high low) h = h
  same_holds n (node.Register w None None) h = h
  same_holds n (node.Register w None (Some next)) h = h
  same_holds n (node.Register w (Some reset) None) h = h
  same_holds n (node.Register w (Some reset) (Some next)) h = h
  same_holds n (node.Memory bits w None) h = h
  same_holds n (node.Memory bits w (Some drive)) h = h
  same_holds n (node.MemoryRead store x) h = h

  pub trace_held : (net : Net) → IsTrace net run → IsTrace net with_held
  trace_held net t = record {
    fits = λ n x there. same_fits n (shape_of x) (t.fits n x there);
    holds = λ n x there. same_holds n x (t.holds n x there);
    line = t.line;
  }

-- ---- which ports are held

abbrev is_held_shape : PortShape → Bool
is_held_shape p = is_inward p.direction && begins_with (codes "set__") p.name

-- the names of the ports that are held
abbrev pub held_names : List PortShape → List (List ℕ)
held_names shapes = map (λ (p : PortShape). p.name) (filter is_held_shape shapes)

ports_held : (net : Net) (ps : List Port) → map (λ (p : Port). p.name) (held_ports ps) ≡ held_names (map (port_shape net) ps)
unfolding is_held
ports_held net [] = refl
ports_held net (p ∷ ps) = by_cases (is_inward p.direction && begins_with (codes "set__") p.name)
    (λ e. rw e (ap (λ (l : List (List ℕ)). p.name ∷ l) (ports_held net ps)))
    (λ e. rw e (ports_held net ps))

held_both : (xs ys : List PortShape) → held_names (xs ++ ys) ≡ held_names xs ++ held_names ys
held_both [] ys = refl
held_both (x ∷ xs) ys = by_cases (is_held_shape x)
    (λ e. rw e (ap (λ (l : List (List ℕ)). x.name ∷ l) (held_both xs ys)))
    (λ e. rw e (held_both xs ys))

no_columns : (stream : List ℕ) (cs : List Column) → held_names (column_inputs stream cs) ≡ []
unfolding in_column
no_columns stream [] = refl
no_columns stream (c ∷ cs) = no_columns stream cs

no_stream : (s : Stream) → held_names (stream_inputs s) ≡ []
unfolding in_valid
no_stream s = no_columns s.name s.columns

no_streams : (ss : List Stream) → held_names (streams_inputs ss) ≡ []
no_streams [] = refl
no_streams (s ∷ ss) = held_both (stream_inputs s) (streams_inputs ss) ∙ (λ i. no_stream s i ++ no_streams ss i)

-- the names of the parameters' ports
abbrev pub parameter_names : List Column → List (List ℕ)
parameter_names ps = map (λ (c : Column). in_parameter c.name) ps

parameters_held : (ps : List Column) → held_names (parameter_inputs ps) ≡ parameter_names ps
unfolding in_parameter
parameters_held [] = refl
parameters_held (p ∷ ps) = ap (λ (l : List (List ℕ)). in_parameter p.name ∷ l) (parameters_held ps)

late_held : (ticks : Bool) (ps : List Column) → held_names (late_inputs ticks ps) ≡ parameter_names ps
unfolding tick
late_held true ps = parameters_held ps
late_held false ps = parameters_held ps

inputs_held : (ticks : Bool) (s : Schema) → held_names (input_ports ticks s) ≡ parameter_names s.parameters
unfolding rst eos
inputs_held ticks s =
    held_both (streams_inputs s.streams) (input eos 1 ∷ late_inputs ticks s.parameters)
    ∙ (λ i. no_streams s.streams i ++ late_held ticks s.parameters i)

-- no port up to that of the end is held
pub no_early : (s : Schema) → held_names (early_inputs s) ≡ []
unfolding rst eos
no_early s = held_both (streams_inputs s.streams) (input eos 1 ∷ []) ∙ (λ i. no_streams s.streams i ++ [])

-- a netlist with ports of which none is held
pub none_held : (net : Net) (shapes : List PortShape) → port_shapes net ≡ shapes → held_names shapes ≡ [] → held_ports net.ports ≡ []
unfolding port_shapes
none_held net shapes e none = unnamed (held_ports net.ports) (ports_held net net.ports ∙ ap held_names e ∙ none)
  where
    unnamed : (ps : List Port) → map (λ (p : Port). p.name) ps ≡ [] → ps ≡ []
    unnamed [] e = refl
    unnamed (p ∷ ps) e = absurd (cc)

no_outputs : (naming : Naming) (ws : List ℕ) (ns : List (List ℕ)) → held_names (column_outputs naming ws ns) ≡ []
no_outputs naming [] ns = refl
no_outputs naming (w ∷ ws) [] = refl
no_outputs naming (w ∷ ws) (n ∷ ns) = no_outputs naming ws ns

-- no output is held
pub no_result : (naming : Naming) (ws : List ℕ) (ns : List (List ℕ)) → held_names (result_outputs naming ws ns) ≡ []
no_result naming ws ns =
    let tail = output (naming out_eos) 1 ∷ output (naming fault_group) 1 ∷ output (naming fault_queue) 1 ∷ [] in
    held_both (column_outputs naming ws ns) tail ∙ (λ i. no_outputs naming ws ns i ++ [])

pub no_results : {A : Type 0} (outputs : A → List PortShape) → ((x : A) → held_names (outputs x) ≡ []) → (xs : List A) → held_names (flat_map outputs xs) ≡ []
no_results outputs none [] = refl
no_results outputs none (x ∷ xs) =
    held_both (outputs x) (flat_map outputs xs) ∙ (λ i. none x i ++ no_results outputs none xs i)

-- a netlist with the inputs of a schema, and outputs behind them, has the parameters' ports
pub parameters_of : (net : Net) (ticks : Bool) (s : Schema) (outs : List PortShape) → port_shapes net ≡ input_ports ticks s ++ outs → held_names outs ≡ []
    → HasParameters net s
unfolding port_shapes
parameters_of net ticks s outs e none =
    ports_held net net.ports ∙ ap held_names e ∙ held_both (input_ports ticks s) outs
    ∙ (λ i. inputs_held ticks s i ++ none i) ∙ append-nil (parameter_names s.parameters)

-- ---- what they carry

-- an item of a list that passes
abbrev Passes : {A : Type 0} → (A → Bool) → List A → A → Type 0
Passes p xs x = (place : ℕ) × (slice_get xs place ≡ Some x) × (p x ≡ true)

kept_there : {A : Type 0} (p : A → Bool) (y : A) (ys : List A) (x : A) → ((k : ℕ) → slice_get (filter p ys) k ≡ Some x → Passes p (y ∷ ys) x) → (b : Bool) → p y ≡ b
    → (k : ℕ) → slice_get (cond b (y ∷ filter p ys) (filter p ys)) k ≡ Some x → Passes p (y ∷ ys) x
kept_there p y ys x later true is zero e = (0, e, subst (λ z. p z ≡ true) (same_Some y x e) is)
kept_there p y ys x later true is (suc k) e = later k e
kept_there p y ys x later false is k e = later k e

-- an item that a filter keeps stands in the list, and passes
filter_there : {A : Type 0} (p : A → Bool) (xs : List A) (k : ℕ) (x : A) → slice_get (filter p xs) k ≡ Some x → Passes p xs x
filter_there p [] k x e = absurd (cc)
filter_there p (y ∷ ys) k x e =
    kept_there p y ys x (λ j f. let r = filter_there p ys j x f in (suc r.0, r.1, r.2)) (p y) refl k e

inward : (d : Direction) → is_inward d ≡ true → d ≡ In
inward In e = refl
inward Out e = absurd (cc)

-- the pin of a parameter by its number
pin_at : (Q : Pin → Type 0) (ps : List Column) (sets : List ℕ) → AllByRecursion Q (parameter_pins ps sets) → (k : ℕ) (name : List ℕ)
    → slice_get (parameter_names ps) k ≡ Some name → Q (pin name (slice_index sets k))
pin_at Q [] sets h k name e = absurd (cc)
pin_at Q (p ∷ ps) [] h zero name e = subst (λ (n : List ℕ). Q (pin n 0)) (same_Some _ _ e) h.0
pin_at Q (p ∷ ps) [] h (suc k) name e = pin_at Q ps [] h.1 k name e
pin_at Q (p ∷ ps) (v ∷ vs) h zero name e = subst (λ (n : List ℕ). Q (pin n v)) (same_Some _ _ e) h.0
pin_at Q (p ∷ ps) (v ∷ vs) h (suc k) name e = pin_at Q ps vs h.1 k name e

module _ (schema : Schema) (beats : Beats) (net : Net) (run : Run) (stimulus : IsStimulus schema beats (input_values net run)) where
  abbrev Shown : ℕ → Pin → Type 0
  Shown t p = IfSome (input_values net run t p.name) (λ v. v ≡ p.value)

  held_pins : (t : ℕ) → AllByRecursion (Shown t) (parameter_pins schema.parameters beats.sets)
  held_pins zero = (all_back (Shown 0) (streams_pins schema.streams []) _ (stimulus.carries 0).1).1.1
  held_pins (suc n) = (all_back (Shown (suc n)) (streams_pins schema.streams (rows_at beats.list n)) _ (stimulus.carries (suc n)).1).1.1

  pub is_held_run : AreApart net → HasParameters net schema → IsHeld net (with_held run (λ k. slice_index beats.sets k))
  unfolding is_held
  is_held_run apart has = record {
    each = λ k p there t.
        let found = filter_there is_held net.ports k p there in
        let inside : p.direction ≡ In = inward p.direction (and_left (is_inward p.direction) (begins_with (codes "set__") p.name) found.2) in
        let port : IsPort net In p.name p.node = record {
          place = found.0;
          there = found.1 ∙ ap (λ (d : Direction). Some (record { direction = d; name = p.name; node = p.node })) inside;
        } in
        let named : slice_get (parameter_names schema.parameters) k ≡ Some p.name =
        ap (λ (l : List (List ℕ)). slice_get l k) (sym has) ∙ slice_get-map (λ (q : Port). q.name) (held_ports net.ports) k
        ∙ ap (option_map (λ (q : Port). q.name)) there in
        sym (input_is net run t p.name p.node apart port)
        ∙ carried (input_values net run) t p.name (slice_index beats.sets k) (has_input net run p.name p.node apart port)
        (pin_at (Shown t) schema.parameters beats.sets (held_pins t) k p.name named);
  }
