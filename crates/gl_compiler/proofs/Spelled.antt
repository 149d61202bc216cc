-- The names of a text's module and of its ports are tokens of a dump.
use Rattle.std.proofs.Common.{◌≡◌, ℕ, ◌+◌, true, List, [], ◌∷◌, ◌++◌, length, map, take, Option, Some, None, refl, sym, ap, ◌∙◌, subst, append_assoc, take_at}
use Rattle.std.specs.Prelude.{option_and_then}
use Rattle.std.specs.List.{AllByRecursion}
use Rattle.std.proofs.lemmas.List.{append-nil}
use Rattle.gl_bits.proofs.AllLists.{all_back, all_front, length_map}
use Rattle.gl_bits.proofs.Options.{FoundIn, map_found}
use Rattle.gl_verilog.specs.Module.{Module, Declaration, Wire, Register, Memory, number_of}
use Rattle.gl_verilog.specs.Resolve.{Resolved, resolve_items, resolve_expr, resolve_statement, module_from, declare, declare_port, port_kind, three, with_assignment, with_block, clocked, address_bits_of, decimal_number}
use Rattle.gl_verilog.specs.Text.{HasModule}
use Rattle.gl_verilog.specs.Tokens.{Token, Name, Mark, OpenParen, CloseParen, Semicolon, Reserved, ModuleWord, EndModuleWord}
use Rattle.gl_verilog.specs.Written.{WrittenItem, WrittenPort, Range, Wires, Registers, MemoryOf, Assign, Always, spell_direction, spell_items, spell_more_ports, spell_port, spell_ports, spell_range}
use Rattle.gl_vcd.specs.RoundTrip.{is_named}
use Rattle.gl_compiler.proofs.Words.{IsFine, all_fine}

-- ---- the ports stand first among the declarations

-- there are these, and more behind them
record GoesOn (front all : List Declaration) : Type 0 where
  more : List Declaration
  same : all ≡ front ++ more

further : (front new all : List Declaration) → GoesOn (front ++ new) all → GoesOn front all
further front new all d = record { more = new ++ d.more; same = d.same ∙ append_assoc front new d.more }

record AllThere {A B C D : Type 0} (f : A → B → C → D) (c : Option C) (r : D) : Type 0 where
  first : A
  second : B
  third : C
  last : c ≡ Some third
  is : f first second third ≡ r

three_there : {A B C D : Type 0} (f : A → B → C → D) (a : Option A) (b : Option B) (c : Option C) (r : D) → three f a b c ≡ Some r → AllThere f c r
three_there f None b c r e = absurd cc
three_there f (Some x) None c r e = absurd cc
three_there f (Some x) (Some y) None r e = absurd cc
three_there f (Some x) (Some y) (Some z) r e = record { first = x; second = y; third = z; last = refl; is = cc }

record ThenThere {A B : Type 0} (f : A → Option B) (r : B) : Type 0 where
  found : A
  is : f found ≡ Some r

then_there : {A B : Type 0} (f : A → Option B) (o : Option A) (r : B) → option_and_then f o ≡ Some r → ThenThere f r
then_there f None r e = absurd cc
then_there f (Some x) r e = record { found = x; is = e }

items_go_on : (ds : List Declaration) (items : List WrittenItem) (r : Resolved) → resolve_items ds items ≡ Some r → GoesOn ds r.declarations
items_go_on ds [] r e =
    let same : ds ≡ r.declarations = cc in
    record { more = []; same = sym same ∙ sym (append-nil ds) }
items_go_on ds (Wires range names ∷ is) r e = further ds (map (declare Wire range) names) r.declarations (items_go_on (ds ++ map (declare Wire range) names) is r e)
items_go_on ds (Registers range names ∷ is) r e = further ds (map (declare Register range) names) r.declarations (items_go_on (ds ++ map (declare Register range) names) is r e)
items_go_on ds (MemoryOf range name last ∷ is) r e =
    let found = then_there (λ (j : ℕ). resolve_items (ds ++ declare (Memory j) range name ∷ []) is) (address_bits_of (decimal_number last + 1)) r e in
    further ds (declare (Memory found.found) range name ∷ []) r.declarations (items_go_on (ds ++ declare (Memory found.found) range name ∷ []) is r found.is)
items_go_on ds (Assign target value ∷ is) r e =
    let all = three_there with_assignment (number_of ds target) (resolve_expr ds value) (resolve_items ds is) r e in
    let same : all.third.declarations ≡ r.declarations = ap (λ (x : Resolved). x.declarations) all.is in
    subst (GoesOn ds) same (items_go_on ds is all.third all.last)
items_go_on ds (Always clock body ∷ is) r e =
    let all = three_there with_block (clocked ds clock) (resolve_statement ds body) (resolve_items ds is) r e in
    let same : all.third.declarations ≡ r.declarations = ap (λ (x : Resolved). x.declarations) all.is in
    subst (GoesOn ds) same (items_go_on ds is all.third all.last)

-- ---- their names are tokens

IsCalled : Declaration → Type 0
IsCalled d = is_named d.name ≡ true

port_called : (p : WrittenPort) → AllByRecursion IsFine (spell_port p) → is_named p.name ≡ true
port_called p h = (all_back IsFine (spell_range p.range) (Name p.name ∷ []) (all_back IsFine (spell_direction p.direction) (spell_range p.range ++ Name p.name ∷ []) h)).0

declared_called : (p : WrittenPort) → is_named p.name ≡ true → IsCalled (declare_port p)
unfolding IsCalled
declared_called p h = by p.range
  where
    by : (range : Range) → is_named (declare (port_kind p.direction) range p.name).name ≡ true
    by None = h
    by (Some high) = h

more_called : (ps : List WrittenPort) → AllByRecursion IsFine (spell_more_ports ps) → AllByRecursion IsCalled (map declare_port ps)
more_called [] h = tt
more_called (p ∷ ps) h =
    (declared_called p (port_called p (all_front IsFine (spell_port p) (spell_more_ports ps) h.1)), more_called ps (all_back IsFine (spell_port p) (spell_more_ports ps) h.1))

ports_called : (ps : List WrittenPort) → AllByRecursion IsFine (spell_ports ps) → AllByRecursion IsCalled (map declare_port ps)
ports_called [] h = tt
ports_called (p ∷ ps) h =
    (declared_called p (port_called p (all_front IsFine (spell_port p) (spell_more_ports ps) h)), more_called ps (all_back IsFine (spell_port p) (spell_more_ports ps) h))

module _ (text : List ℕ) (m : Module) (has : HasModule text m) where
  abbrev written_ports : List WrittenPort
  written_ports = has.written.ports

  abbrev ends : List Token
  ends = Mark CloseParen ∷ Mark Semicolon ∷ (spell_items has.written.items ++ Reserved EndModuleWord ∷ [])

  all : AllByRecursion IsFine (Reserved ModuleWord ∷ Name has.written.name ∷ Mark OpenParen ∷ (spell_ports written_ports ++ ends))
  all = subst (AllByRecursion IsFine) has.spelled (all_fine text)

  found : FoundIn (module_from has.written) (resolve_items (map declare_port written_ports) has.written.items) m
  found = map_found (module_from has.written) (resolve_items (map declare_port written_ports) has.written.items) m has.resolved

  -- the name of a text's module is a token
  pub module_named : is_named m.name ≡ true
  module_named = subst (λ (x : Module). is_named x.name ≡ true) found.is all.1.0

  front : take m.ports m.declarations ≡ map declare_port written_ports
  front =
      let declared = items_go_on (map declare_port written_ports) has.written.items found.found found.there in
      let ports : length written_ports ≡ m.ports = ap (λ (x : Module). x.ports) found.is in
      let same : found.found.declarations ≡ m.declarations = ap (λ (x : Module). x.declarations) found.is in
      let size : m.ports ≡ length (map declare_port written_ports) = sym ports ∙ sym (length_map declare_port written_ports) in
      ap (λ (xs : List Declaration). take m.ports xs) (sym same ∙ declared.same)
      ∙ ap (λ (k : ℕ). take k (map declare_port written_ports ++ declared.more)) size
      ∙ take_at (map declare_port written_ports) declared.more (length (map declare_port written_ports)) refl

  -- and so are those of its ports
  pub ports_named : AllByRecursion (λ (d : Declaration). is_named d.name ≡ true) (take m.ports m.declarations)
  unfolding IsCalled
  ports_named = subst (AllByRecursion IsCalled) (sym front) (ports_called written_ports (all_front IsFine (spell_ports written_ports) ends all.1.1.1))
