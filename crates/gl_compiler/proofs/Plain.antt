-- The ports of the module of a text are declared, and none is a memory.
use Rattle.std.proofs.Common.{◌≡◌, ℕ, zero, suc, ◌+◌, List, [], ◌∷◌, ◌++◌, length, take, map, Option, Some, None, refl, sym, ap, ◌∙◌, subst, append_assoc, arith, length-append, take_at}
use Rattle.std.specs.Prelude.{slice_get, option_and_then}
use Rattle.std.specs.Option.{option_map}
use Rattle.std.proofs.lemmas.List.{append-nil}
use Rattle.gl_bits.proofs.AllLists.{length_map}
use Rattle.gl_verilog.specs.Module.{Module, Declaration, Wire, Register, Memory, number_of}
use Rattle.gl_verilog.specs.Resolve.{Resolved, resolve_items, resolve_expr, resolve_statement, module_from, declare, declare_port, port_kind, three, with_assignment, with_block, clocked, address_bits_of, decimal_number}
use Rattle.gl_verilog.specs.Text.{HasModule}
use Rattle.gl_verilog.specs.Widths.{IsNet}
use Rattle.gl_verilog.specs.Written.{Direction, In, InWire, Out, OutWire, OutReg, Range, WrittenItem, WrittenPort, Wires, Registers, MemoryOf, Assign, Always}
use Rattle.gl_runner.specs.Cycles.{HasPlainPorts}

-- ---- the ports are declared first

-- all declarations begin with these
record Begins (front all : List Declaration) : Type 0 where
  more : List Declaration
  same : all ≡ front ++ more

further : (front new all : List Declaration) → Begins (front ++ new) all → Begins front all
further front new all b = record { more = new ++ b.more; same = b.same ∙ append_assoc front new b.more }

-- an option of three is there where the last is
record HasLast {A B C D : Type 0} (f : A → B → C → D) (c : Option C) (r : D) : Type 0 where
  first : A
  second : B
  third : C
  last : c ≡ Some third
  is : f first second third ≡ r

three_some : {A B C D : Type 0} (f : A → B → C → D) (a : Option A) (b : Option B) (c : Option C) (r : D) → three f a b c ≡ Some r → HasLast f c r
three_some f None b c r e = absurd cc
three_some f (Some x) None c r e = absurd cc
three_some f (Some x) (Some y) None r e = absurd cc
three_some f (Some x) (Some y) (Some z) r e = record { first = x; second = y; third = z; last = refl; is = cc }

record Finds {A B : Type 0} (f : A → Option B) (r : B) : Type 0 where
  found : A
  is : f found ≡ Some r

and_then_some : {A B : Type 0} (f : A → Option B) (o : Option A) (r : B) → option_and_then f o ≡ Some r → Finds f r
and_then_some f None r e = absurd cc
and_then_some f (Some x) r e = record { found = x; is = e }

items_begin : (ds : List Declaration) (items : List WrittenItem) (r : Resolved) → resolve_items ds items ≡ Some r → Begins ds r.declarations
items_begin ds [] r e =
    let same : ds ≡ r.declarations = cc in
    record { more = []; same = sym same ∙ sym (append-nil ds) }
items_begin ds (Wires range names ∷ is) r e = further ds (map (declare Wire range) names) r.declarations (items_begin (ds ++ map (declare Wire range) names) is r e)
items_begin ds (Registers range names ∷ is) r e = further ds (map (declare Register range) names) r.declarations (items_begin (ds ++ map (declare Register range) names) is r e)
items_begin ds (MemoryOf range name last ∷ is) r e =
    let found = and_then_some (λ (j : ℕ). resolve_items (ds ++ declare (Memory j) range name ∷ []) is) (address_bits_of (decimal_number last + 1)) r e in
    further ds (declare (Memory found.found) range name ∷ []) r.declarations (items_begin (ds ++ declare (Memory found.found) range name ∷ []) is r found.is)
items_begin ds (Assign target value ∷ is) r e =
    let all = three_some with_assignment (number_of ds target) (resolve_expr ds value) (resolve_items ds is) r e in
    let same : all.third.declarations ≡ r.declarations = ap (λ (x : Resolved). x.declarations) all.is in
    subst (Begins ds) same (items_begin ds is all.third all.last)
items_begin ds (Always clock body ∷ is) r e =
    let all = three_some with_block (clocked ds clock) (resolve_statement ds body) (resolve_items ds is) r e in
    let same : all.third.declarations ≡ r.declarations = ap (λ (x : Resolved). x.declarations) all.is in
    subst (Begins ds) same (items_begin ds is all.third all.last)

record IsMapped {A B : Type 0} (f : A → B) (o : Option A) (r : B) : Type 0 where
  found : A
  there : o ≡ Some found
  is : f found ≡ r

map_some : {A B : Type 0} (f : A → B) (o : Option A) (r : B) → option_map f o ≡ Some r → IsMapped f o r
map_some f None r e = absurd cc
map_some f (Some x) r e = record { found = x; there = refl; is = cc }

port_is_net : (p : WrittenPort) → IsNet (declare_port p).kind
port_is_net p = each p.direction p.range
  where
    each : (way : Direction) (range : Range) → IsNet (declare (port_kind way) range p.name).kind
    each In None = tt
    each In (Some high) = tt
    each InWire None = tt
    each InWire (Some high) = tt
    each Out None = tt
    each Out (Some high) = tt
    each OutWire None = tt
    each OutWire (Some high) = tt
    each OutReg None = tt
    each OutReg (Some high) = tt

nets_among : (ps : List WrittenPort) (k : ℕ) (d : Declaration) → slice_get (map declare_port ps) k ≡ Some d → IsNet d.kind
nets_among [] k d e = absurd cc
nets_among (p ∷ ps) zero d e = let same : declare_port p ≡ d = cc in subst (λ (x : Declaration). IsNet x.kind) same (port_is_net p)
nets_among (p ∷ ps) (suc k) d e = nets_among ps k d e

-- the ports of a text's module
pub plain_ports : (text : List ℕ) (m : Module) → HasModule text m → HasPlainPorts m
plain_ports text m h =
    let w = h.written in
    let r = map_some (module_from w) (resolve_items (map declare_port w.ports) w.items) m h.resolved in
    let begins = items_begin (map declare_port w.ports) w.items r.found r.there in
    let ports : length w.ports ≡ m.ports = ap (λ (x : Module). x.ports) r.is in
    let all : r.found.declarations ≡ m.declarations = ap (λ (x : Module). x.declarations) r.is in
    let whole : m.declarations ≡ map declare_port w.ports ++ begins.more = sym all ∙ begins.same in
    let size : m.ports ≡ length (map declare_port w.ports) = sym ports ∙ sym (length_map declare_port w.ports) in
    let front : take m.ports m.declarations ≡ map declare_port w.ports =
    ap (λ (xs : List Declaration). take m.ports xs) whole ∙ ap (λ (k : ℕ). take k (map declare_port w.ports ++ begins.more)) size ∙ take_at (map declare_port w.ports) begins.more (length (map declare_port w.ports)) refl in
    record {
      inside = omega (arith, size, ap length whole, length-append (map declare_port w.ports) begins.more);
      nets = λ k d e. nets_among w.ports k d (subst (λ (xs : List Declaration). slice_get xs k ≡ Some d) front e);
    }
