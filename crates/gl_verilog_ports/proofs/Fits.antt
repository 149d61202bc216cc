-- The ports of a module are found exactly where they are those of a schema and of a result.
use Rattle.std.proofs.Common.{◌≡◌, ℕ, Bool, true, false, List, Option, Some, None, Result, Ok, Err, inl, inr, refl, sym, ap, ◌∙◌, subst, codes, eq-eqb}
use Rattle.std.specs.Prelude.{◌||◌, find, slice_get, option_map, unwrap_or, bytes_eq, nat_eq, IfSome, IsOk, if◌then◌else◌}
use Rattle.std.proofs.lemmas.Bool.{eqb-true}
use Rattle.gl_bits.proofs.Bools.{and_left, and_right, and_both, or_left, or_right, or_cases, by_cases, bytes_same, bytes_own}
use Rattle.gl_bits.proofs.Options.{some_same}
use Rattle.gl_schema.specs.declared.schema.Schema.{Schema}
use Rattle.gl_schema.specs.Ports.{rst, eos, tick, out_valid, out_eos, fault_group, fault_queue}
use Rattle.gl_schema.specs.Profile.{ProfilePort, clk, input, input_ports}
use Rattle.gl_verilog.specs.Module.{Module, Declaration, Kind, Input, OutputWire, OutputRegister, Wire, Register, Memory, number_of}
use Rattle.gl_verilog.specs.Run.{is_input}
use Rattle.gl_verilog.specs.Text.{HasModule}
use Rattle.gl_verilog.specs.Valid.{AreDistinct}
use Rattle.gl_verilog.specs.Widths.{is_clock}
use Rattle.gl_verilog_ports.specs.declared.fitting.Ports.{Ports}
use Rattle.gl_verilog_ports.specs.declared.fitting.Misfit.{Misfit}
use Rattle.gl_verilog_ports.specs.Fit.{inputs, is_among, is_asked, is_line_name, is_line, first_bad, input_at, output_at, with_needed, found_in, unless_bad, fit_of}
use Rattle.gl_verilog_ports.specs.Profile.{input_width, ports_of, is_output, port_named, IsLine, HasLine, HasClock, FitsSchema, HasInputPorts}
use Rattle.gl_verilog_ports.proofs.Declared.{distinct_take, get_take}
use Rattle.gl_verilog_ports.proofs.Judged.{IsAllowed, AreAllowed, allowed, all_allowed, narrow_at}
use Rattle.gl_verilog_ports.proofs.Named.{eq_flip, inputs_so, outputs_so, found_port, port_there, where_named, has_named, same_named, outputs_numbered}

-- ---- inputs

clock_width : (schema : Schema) (name : List ℕ) (width : ℕ) → bytes_eq clk name ≡ true → is_among (inputs schema) name width ≡ true → width ≡ 1
clock_width schema name width e h = pick (bytes_eq clk name) e h
  where
    pick : (b : Bool) → b ≡ true → unwrap_or (option_map (λ (p : ProfilePort). nat_eq p.width width) (if b then Some (input clk 1) else find (λ (p : ProfilePort). bytes_eq p.name name) (input_ports true schema))) false ≡ true → width ≡ 1
    pick true e h = sym (eqb-true 1 width h)
    pick false e h = absurd cc

clock_asked : (schema : Schema) (name : List ℕ) (width : ℕ) → bytes_eq clk name ≡ true → width ≡ 1 → is_among (inputs schema) name width ≡ true
clock_asked schema name width e w = pick (bytes_eq clk name) e
  where
    pick : (b : Bool) → b ≡ true → unwrap_or (option_map (λ (p : ProfilePort). nat_eq p.width width) (if b then Some (input clk 1) else find (λ (p : ProfilePort). bytes_eq p.name name) (input_ports true schema))) false ≡ true
    pick true e = eq-eqb 1 width (sym w)
    pick false e = absurd cc

width_asked : (schema : Schema) (name : List ℕ) (width : ℕ) → bytes_eq clk name ≡ false → is_among (inputs schema) name width ≡ true → input_width schema name ≡ Some width
width_asked schema name width e h = pick (bytes_eq clk name) e h
  where
    there : (o : Option ProfilePort) → unwrap_or (option_map (λ (p : ProfilePort). nat_eq p.width width) o) false ≡ true → option_map (λ (p : ProfilePort). p.width) o ≡ Some width
    there None h = absurd cc
    there (Some p) h = ap (λ (w : ℕ). Some w) (eqb-true p.width width h)

    pick : (b : Bool) → b ≡ false → unwrap_or (option_map (λ (p : ProfilePort). nat_eq p.width width) (if b then Some (input clk 1) else find (λ (p : ProfilePort). bytes_eq p.name name) (input_ports true schema))) false ≡ true → input_width schema name ≡ Some width
    pick true e h = absurd cc
    pick false e h = there (find (λ (p : ProfilePort). bytes_eq p.name name) (input_ports true schema)) h

asked_width : (schema : Schema) (name : List ℕ) (width : ℕ) → bytes_eq clk name ≡ false → input_width schema name ≡ Some width → is_among (inputs schema) name width ≡ true
asked_width schema name width e h = pick (bytes_eq clk name) e
  where
    there : (o : Option ProfilePort) → option_map (λ (p : ProfilePort). p.width) o ≡ Some width → unwrap_or (option_map (λ (p : ProfilePort). nat_eq p.width width) o) false ≡ true
    there None h = absurd cc
    there (Some p) h = eq-eqb p.width width (some_same p.width width h)

    pick : (b : Bool) → b ≡ false → unwrap_or (option_map (λ (p : ProfilePort). nat_eq p.width width) (if b then Some (input clk 1) else find (λ (p : ProfilePort). bytes_eq p.name name) (input_ports true schema))) false ≡ true
    pick true e = absurd cc
    pick false e = there (find (λ (p : ProfilePort). bytes_eq p.name name) (input_ports true schema)) h

-- the clock's name is tested either way round
clock_so : (d : Declaration) (b : Bool) → is_clock d ≡ b → bytes_eq clk d.name ≡ b
unfolding clk
clock_so d b e = eq_flip d.name (codes "clk") b e

so_clock : (name : List ℕ) (b : Bool) → bytes_eq name clk ≡ b → bytes_eq name (codes "clk") ≡ b
unfolding clk
so_clock name b e = e

pub kind_is_input : (k : Kind) → is_input k ≡ true → k ≡ Input
kind_is_input Input e = refl
kind_is_input OutputWire e = absurd cc
kind_is_input OutputRegister e = absurd cc
kind_is_input Wire e = absurd cc
kind_is_input Register e = absurd cc
kind_is_input (Memory bits) e = absurd cc

-- ---- lines

line_so : (d : Declaration) → is_line d ≡ true → IsLine d
line_so d e = record { output = and_left (is_output d.kind) (nat_eq d.width 1) e; bit = eqb-true d.width 1 (and_right (is_output d.kind) (nat_eq d.width 1) e) }

so_line : (d : Declaration) → IsLine d → is_line d ≡ true
so_line d h = and_both (is_output d.kind) (nat_eq d.width 1) h.output (eq-eqb d.width 1 h.bit)

valid_line : (name : List ℕ) → bytes_eq name out_valid ≡ true → is_line_name name ≡ true
valid_line name e = or_left (bytes_eq name out_valid) (bytes_eq name out_eos || (bytes_eq name fault_group || bytes_eq name fault_queue)) e

end_line : (name : List ℕ) → bytes_eq name out_eos ≡ true → is_line_name name ≡ true
end_line name e = or_right (bytes_eq name out_valid) (bytes_eq name out_eos || (bytes_eq name fault_group || bytes_eq name fault_queue)) (or_left (bytes_eq name out_eos) (bytes_eq name fault_group || bytes_eq name fault_queue) e)

group_line : (name : List ℕ) → bytes_eq name fault_group ≡ true → is_line_name name ≡ true
group_line name e =
    or_right (bytes_eq name out_valid) (bytes_eq name out_eos || (bytes_eq name fault_group || bytes_eq name fault_queue))
    (or_right (bytes_eq name out_eos) (bytes_eq name fault_group || bytes_eq name fault_queue) (or_left (bytes_eq name fault_group) (bytes_eq name fault_queue) e))

queue_line : (name : List ℕ) → bytes_eq name fault_queue ≡ true → is_line_name name ≡ true
queue_line name e =
    or_right (bytes_eq name out_valid) (bytes_eq name out_eos || (bytes_eq name fault_group || bytes_eq name fault_queue))
    (or_right (bytes_eq name out_eos) (bytes_eq name fault_group || bytes_eq name fault_queue) (or_right (bytes_eq name fault_group) (bytes_eq name fault_queue) e))

-- what holds of each name of a line
by_line : (P : List ℕ → Type 0) (name : List ℕ) → P out_valid → P out_eos → P fault_group → P fault_queue → is_line_name name ≡ true → P name
by_line P name valid end group queue e = elim (or_cases (bytes_eq name out_valid) (bytes_eq name out_eos || (bytes_eq name fault_group || bytes_eq name fault_queue)) e) [
  | inl h ↦ subst P (sym (bytes_same name out_valid h)) valid
  | inr r ↦ elim (or_cases (bytes_eq name out_eos) (bytes_eq name fault_group || bytes_eq name fault_queue) r) [
    | inl h ↦ subst P (sym (bytes_same name out_eos h)) end
    | inr s ↦ elim (or_cases (bytes_eq name fault_group) (bytes_eq name fault_queue) s) [
      | inl h ↦ subst P (sym (bytes_same name fault_group h)) group
      | inr h ↦ subst P (sym (bytes_same name fault_queue h)) queue
    ]
  ]
]

-- ---- what was found

-- none is bad, and the ports are these
pub record AreFound (m : Module) (schema : Schema) (ports : Ports) : Type 0 where
  pub none : first_bad schema 0 0 (ports_of m) ≡ None
  pub clock : input_at (ports_of m) clk ≡ Some ports.clock
  pub reset : input_at (ports_of m) rst ≡ ports.reset
  pub input_end : input_at (ports_of m) eos ≡ ports.input_end
  pub tick' : input_at (ports_of m) tick ≡ ports.tick
  pub valid : output_at (ports_of m) out_valid ≡ Some ports.valid
  pub end : output_at (ports_of m) out_eos ≡ Some ports.end
  pub group : output_at (ports_of m) fault_group ≡ ports.group
  pub queue : output_at (ports_of m) fault_queue ≡ ports.queue

without_bad : (o : Option ℕ) (found : Result Ports Misfit) (ports : Ports) → unless_bad o found ≡ Ok ports → (o ≡ None) × (found ≡ Ok ports)
without_bad None found ports e = (refl, e)
without_bad (Some n) found ports e = absurd cc

-- the three that are needed are there
record AreNeeded (c v e reset input_end ticks group queue : Option ℕ) (ports : Ports) : Type 0 where
  clock : c ≡ Some ports.clock
  valid : v ≡ Some ports.valid
  end : e ≡ Some ports.end
  reset' : reset ≡ ports.reset
  input_end' : input_end ≡ ports.input_end
  tick' : ticks ≡ ports.tick
  group' : group ≡ ports.group
  queue' : queue ≡ ports.queue

needed : (c v e reset input_end ticks group queue : Option ℕ) (ports : Ports) → with_needed c v e reset input_end ticks group queue ≡ Ok ports → AreNeeded c v e reset input_end ticks group queue ports
needed None v e reset input_end ticks group queue ports h = absurd cc
needed (Some c) None e reset input_end ticks group queue ports h = absurd cc
needed (Some c) (Some v) None reset input_end ticks group queue ports h = absurd cc
needed (Some c) (Some v) (Some e) reset input_end ticks group queue ports h = record { clock = cc; valid = cc; end = cc; reset' = cc; input_end' = cc; tick' = cc; group' = cc; queue' = cc }

are_needed : (c v e reset input_end ticks group queue : Option ℕ) (k l n : ℕ) → c ≡ Some k → v ≡ Some l → e ≡ Some n → (ports : Ports) × (with_needed c v e reset input_end ticks group queue ≡ Ok ports)
are_needed None v e reset input_end ticks group queue k l n p q r = absurd cc
are_needed (Some c) None e reset input_end ticks group queue k l n p q r = absurd cc
are_needed (Some c) (Some v) None reset input_end ticks group queue k l n p q r = absurd cc
are_needed (Some c) (Some v) (Some e) reset input_end ticks group queue k l n p q r =
    (record { clock = c; reset = reset; input_end = input_end; tick = ticks; valid = v; end = e; group = group; queue = queue }, refl)

pub found : (m : Module) (schema : Schema) (ports : Ports) → fit_of m schema ≡ Ok ports → AreFound m schema ports
found m schema ports e =
    let all = ports_of m in
    let parts = without_bad (first_bad schema 0 0 all) (found_in all) ports e in
    let there = needed (input_at all clk) (output_at all out_valid) (output_at all out_eos) (input_at all rst) (input_at all eos) (input_at all tick) (output_at all fault_group) (output_at all fault_queue) ports parts.1 in
    record { none = parts.0; clock = there.clock; reset = there.reset'; input_end = there.input_end'; tick' = there.tick'; valid = there.valid; end = there.end; group = there.group'; queue = there.queue' }

-- ---- what is found is what the schema asks for

-- a line that is there is one
line_there : (schema : Schema) (ds : List Declaration) (name : List ℕ) (k : ℕ) → AreAllowed schema ds → (is_line_name name ≡ true) → output_at ds name ≡ Some k → (d : Declaration) × (find (λ (x : Declaration). bytes_eq x.name name) ds ≡ Some d) × IsLine d
line_there schema ds name k all line e =
    let p = found_port is_output ds name k (sym (outputs_so ds name) ∙ e) in
    let first = has_named ds name k p.d p.there p.named in
    let at = where_named ds name first.0 first.1 in
    (first.0, first.1, line_so first.0 ((all.each at.n first.0 at.there).line (subst (λ (x : List ℕ). is_line_name x ≡ true) (sym (bytes_same first.0.name name at.named)) line)))

has_line : (schema : Schema) (m : Module) (name : List ℕ) (k : ℕ) → AreAllowed schema (ports_of m) → is_line_name name ≡ true → output_at (ports_of m) name ≡ Some k → HasLine m name
has_line schema m name k all line e =
    let d = line_there schema (ports_of m) name k all line e in
    record { port = d.0; there = d.1; line = d.2 }

may_have_line : (schema : Schema) (m : Module) (name : List ℕ) → AreAllowed schema (ports_of m) → is_line_name name ≡ true → IfSome (port_named m name) IsLine
may_have_line schema m name all line = pick (port_named m name) refl
  where
    pick : (o : Option Declaration) → port_named m name ≡ o → IfSome o IsLine
    pick None e = tt
    pick (Some d) e =
        let at = where_named (ports_of m) name d e in
        line_so d ((all.each at.n d at.there).line (subst (λ (x : List ℕ). is_line_name x ≡ true) (sym (bytes_same d.name name at.named)) line))

has_clock : (schema : Schema) (m : Module) (k : ℕ) → AreDistinct (ports_of m) → AreAllowed schema (ports_of m) → input_at (ports_of m) clk ≡ Some k → HasClock m
has_clock schema m k distinct all e =
    let ds = ports_of m in
    let p = found_port is_input ds clk k (sym (inputs_so ds clk) ∙ e) in
    let first = has_named ds clk k p.d p.there p.named in
    let at = where_named ds clk first.0 first.1 in
    let same : p.d ≡ first.0 = same_named ds clk k at.n p.d first.0 distinct p.there at.there p.named at.named in
    let asked = (all.each k p.d p.there).asked p.way in
    record {
      port = p.d;
      there = first.1 ∙ ap (λ (x : Declaration). Some x) (sym same);
      input = kind_is_input p.d.kind p.way;
      bit = clock_width schema p.d.name p.d.width (eq_flip p.d.name clk true p.named) asked;
    }

-- an input port but the clock is one of the schema's, with its bits
pub asked_port : (m : Module) (schema : Schema) (ports : Ports) (n : ℕ) (d : Declaration) → fit_of m schema ≡ Ok ports → slice_get (ports_of m) n ≡ Some d → is_input d.kind ≡ true → is_clock d ≡ false → input_width schema d.name ≡ Some d.width
asked_port m schema ports n d e at way other =
    width_asked schema d.name d.width (clock_so d false other) (((allowed schema (ports_of m) (found m schema ports e).none).each n d at).asked way)

-- where the ports are found, and each input is one, they fit
pub fits : (m : Module) (schema : Schema) (ports : Ports) → AreDistinct m.declarations → HasInputPorts m → fit_of m schema ≡ Ok ports → FitsSchema m schema
fits m schema ports distinct among e =
    let f = found m schema ports e in
    let all = allowed schema (ports_of m) f.none in
    record {
      clock = has_clock schema m ports.clock (distinct_take m.ports m.declarations distinct) all f.clock;
      inputs = λ n d at is other. asked_port m schema ports n d e (among n d at (ap is_input is)) (ap is_input is) other;
      valid = has_line schema m out_valid ports.valid all (valid_line out_valid (bytes_own out_valid)) f.valid;
      end = has_line schema m out_eos ports.end all (end_line out_eos (bytes_own out_eos)) f.end;
      group = may_have_line schema m fault_group all (group_line fault_group (bytes_own fault_group));
      queue = may_have_line schema m fault_queue all (queue_line fault_queue (bytes_own fault_queue));
      many = all.many;
      narrow = all.narrow';
    }

-- ---- what the schema asks for is found

-- a port of a line's name is that line
is_its_line : (m : Module) (name : List ℕ) (n : ℕ) (d : Declaration) → AreDistinct (ports_of m) → IfSome (port_named m name) IsLine → slice_get (ports_of m) n ≡ Some d → bytes_eq d.name name ≡ true → IsLine d
is_its_line m name n d distinct h at named =
    let first = has_named (ports_of m) name n d at named in
    let other = where_named (ports_of m) name first.0 first.1 in
    let same : first.0 ≡ d = same_named (ports_of m) name other.n n first.0 d distinct other.there at other.named named in
    subst IsLine same (subst (λ (o : Option Declaration). IfSome o IsLine) first.1 h)

pub line_named : (m : Module) (name : List ℕ) → HasLine m name → IfSome (port_named m name) IsLine
line_named m name h = subst (λ (o : Option Declaration). IfSome o IsLine) (sym h.there) h.line

port_asked : (m : Module) (schema : Schema) (n : ℕ) (d : Declaration) → AreDistinct (ports_of m) → FitsSchema m schema → slice_get (ports_of m) n ≡ Some d → is_input d.kind ≡ true → is_asked schema d ≡ true
port_asked m schema n d distinct fit at way = by_cases (is_clock d)
    (λ named.
    let clock = where_named (ports_of m) clk fit.clock.port fit.clock.there in
    let own : bytes_eq clk d.name ≡ true = clock_so d true named in
    let same : fit.clock.port ≡ d = same_named (ports_of m) clk clock.n n fit.clock.port d distinct clock.there at clock.named (eq_flip clk d.name true own) in
    clock_asked schema d.name d.width own (ap (λ (x : Declaration). x.width) (sym same) ∙ fit.clock.bit))
    (λ other. asked_width schema d.name d.width (clock_so d false other) (fit.inputs n d (get_take m.ports m.declarations n d at) (kind_is_input d.kind way) other))

port_line : (m : Module) (schema : Schema) (n : ℕ) (d : Declaration) → AreDistinct (ports_of m) → FitsSchema m schema → slice_get (ports_of m) n ≡ Some d → is_line_name d.name ≡ true → is_line d ≡ true
port_line m schema n d distinct fit at line = so_line d
    (by_line (λ name. bytes_eq d.name name ≡ true → IsLine d) d.name
    (is_its_line m out_valid n d distinct (line_named m out_valid fit.valid) at)
    (is_its_line m out_eos n d distinct (line_named m out_eos fit.end) at)
    (is_its_line m fault_group n d distinct fit.group at)
    (is_its_line m fault_queue n d distinct fit.queue at)
    line (bytes_own d.name))

output_there : (m : Module) (name : List ℕ) → HasLine m name → (k : ℕ) × (output_at (ports_of m) name ≡ Some k)
output_there m name h =
    let at = where_named (ports_of m) name h.port h.there in
    let k = port_there is_output (ports_of m) name at.n (record { d = h.port; there = at.there; way = h.line.output; named = at.named }) in
    (k.0, outputs_so (ports_of m) name ∙ k.1)

input_there : (m : Module) → HasClock m → (k : ℕ) × (input_at (ports_of m) clk ≡ Some k)
input_there m h =
    let at = where_named (ports_of m) clk h.port h.there in
    let k = port_there is_input (ports_of m) clk at.n (record { d = h.port; there = at.there; way = ap is_input h.input; named = at.named }) in
    (k.0, inputs_so (ports_of m) clk ∙ k.1)

-- where they fit, the ports are found
pub finds : (text : List ℕ) (m : Module) (schema : Schema) → HasModule text m → FitsSchema m schema → (ports : Ports) × (fit_of m schema ≡ Ok ports)
finds text m schema has fit =
    let all = ports_of m in
    let distinct = distinct_take m.ports m.declarations has.valid.names in
    let each : (n : ℕ) (d : Declaration) → slice_get (ports_of m) n ≡ Some d → IsAllowed schema d = λ n d at. record {
      asked = port_asked m schema n d distinct fit at;
      line = port_line m schema n d distinct fit at;
      narrow = narrow_at (ports_of m) n d fit.narrow at;
    } in
    let none : first_bad schema 0 0 all ≡ None = all_allowed schema all each fit.many in
    let clock = input_there m fit.clock in
    let valid = output_there m out_valid fit.valid in
    let end = output_there m out_eos fit.end in
    let there = are_needed (input_at all clk) (output_at all out_valid) (output_at all out_eos) (input_at all rst) (input_at all eos) (input_at all tick) (output_at all fault_group) (output_at all fault_queue) clock.0 valid.0 end.0 clock.1 valid.1 end.1 in
    (there.0, ap (λ (o : Option ℕ). unless_bad o (found_in all)) none ∙ there.1)

-- ---- the same, of the answer alone

pub fits_ok : (m : Module) (schema : Schema) → AreDistinct m.declarations → HasInputPorts m → IsOk (fit_of m schema) → FitsSchema m schema
fits_ok m schema distinct among ok = pick (fit_of m schema) refl ok
  where
    pick : (r : Result Ports Misfit) → fit_of m schema ≡ r → IsOk r → FitsSchema m schema
    pick (Ok ports) e ok = fits m schema ports distinct among e
    pick (Err misfit) e ok = absurd cc

pub finds_ok : (text : List ℕ) (m : Module) (schema : Schema) → HasModule text m → FitsSchema m schema → IsOk (fit_of m schema)
finds_ok text m schema has fit =
    let there = finds text m schema has fit in
    subst IsOk (sym there.1) refl

-- ---- their numbers

-- the first port of each line's name is the one that was found
pub record AreNumbered (m : Module) (ports : Ports) : Type 0 where
  pub valid : number_of (ports_of m) out_valid ≡ Some ports.valid
  pub end : number_of (ports_of m) out_eos ≡ Some ports.end
  pub group : number_of (ports_of m) fault_group ≡ ports.group
  pub queue : number_of (ports_of m) fault_queue ≡ ports.queue

line_numbered : (schema : Schema) (ds : List Declaration) (name : List ℕ) → AreAllowed schema ds → is_line_name name ≡ true → number_of ds name ≡ output_at ds name
line_numbered schema ds name all line = outputs_numbered ds name
    (λ n d at named. (line_so d ((all.each n d at).line (subst (λ (x : List ℕ). is_line_name x ≡ true) (sym (bytes_same d.name name named)) line))).output)

pub numbered : (m : Module) (schema : Schema) (ports : Ports) → fit_of m schema ≡ Ok ports → AreNumbered m ports
numbered m schema ports e =
    let f = found m schema ports e in
    let ds = ports_of m in
    let all = allowed schema ds f.none in
    record {
      valid = line_numbered schema ds out_valid all (valid_line out_valid (bytes_own out_valid)) ∙ f.valid;
      end = line_numbered schema ds out_eos all (end_line out_eos (bytes_own out_eos)) ∙ f.end;
      group = line_numbered schema ds fault_group all (group_line fault_group (bytes_own fault_group)) ∙ f.group;
      queue = line_numbered schema ds fault_queue all (queue_line fault_queue (bytes_own fault_queue)) ∙ f.queue;
    }
