-- How the ports and the items of a module are judged and resolved from left to right, and then its drivers.
use Rattle.std.specs.Prelude.{if◌then◌else◌, ℕ, ◌+◌, ◌*◌, Bool, true, false, not, List, [], ◌∷◌, ◌++◌, map, fold, length, Some, None, Result, Ok, nat_eq, nat_le}
use Rattle.gl_verilog.specs.Module.{Module, Declaration, Kind, Input, Wire, Register, Memory, Statement, Assignment}
use Rattle.gl_verilog.specs.Written.{Range, WrittenPort, WrittenItem, Wires, Registers, MemoryOf, Assign, Always, WrittenExpr, WrittenStatement, WrittenModule, spell_range}
use Rattle.gl_verilog.specs.Resolve.{decimal_number, declare, declare_port, address_bits_of, is_memory_kind}
use Rattle.gl_verilog_faults.specs.Demands.{TwiceDeclared, TwiceDriven, NeverDriven, WidthsDiffer, BadMemory, ClockRead, TooWide, BadTarget, is_wire_kind, is_clock_name, is_among, name_token}
use Rattle.gl_verilog_elaborator.specs.Judged.{Broken, then', asks, or_breaks, named, Typed, judged_expr, Drivers, no_drivers, with_name, Stated, judged_in}

-- ---- declarations

-- what is declared, and the numbers of the tokens of the names
pub record Scope : Type 0 where
  pub declarations : List Declaration
  pub tokens : List ℕ

-- these declarations, with the tokens of their names
abbrev pub scope : List Declaration → List ℕ → Scope
scope declarations tokens = record { declarations = declarations; tokens = tokens }

-- nothing is declared yet
abbrev pub empty_scope : Scope
empty_scope = scope [] []

-- a scope with one declaration behind the others
abbrev pub with_declaration : Scope → ℕ → Declaration → Scope
with_declaration s k d = scope (s.declarations ++ d ∷ []) (s.tokens ++ k ∷ [])

-- no declaration of the scope has this name
abbrev pub is_new : Scope → List ℕ → Bool
is_new s name = not (is_among name (map (λ d. d.name) s.declarations))

-- a declaration more, at a token
abbrev pub declared : Scope → ℕ → Declaration → Result Scope Broken
declared s k d =
    asks TwiceDeclared k (is_new s d.name) (asks TooWide k (nat_le d.width 128) (Ok (with_declaration s k d)))

-- the bits of a range; one bit without a range
abbrev pub range_bits : Range → ℕ
range_bits None = 1
range_bits (Some high) = decimal_number high + 1

-- the width of a name that is new, at a token
abbrev pub new_width : Scope → ℕ → Range → List ℕ → Result ℕ Broken
new_width s k range name =
    asks TwiceDeclared k (is_new s name) (asks TooWide k (nat_le (range_bits range) 128) (Ok (range_bits range)))

-- names with a comma between each two
abbrev pub declared_all : Kind → Range → Scope → ℕ → List (List ℕ) → Result Scope Broken
declared_all kind range s k [] = Ok s
declared_all kind range s k (n ∷ ns) =
    then' (declared s k (declare kind range n)) (λ s'. declared_all kind range s' (k + 2) ns)

-- the token of a port's name, where the port begins at k
abbrev pub port_token : ℕ → WrittenPort → ℕ
port_token k p = k + name_token p

-- ports with a comma between each two, and the token behind what parts them or ends them
pub record Ported : Type 0 where
  pub scope : Scope
  pub end : ℕ

-- what the ports declare, and the number of the token behind them
abbrev pub ported : Scope → ℕ → Ported
ported s end = record { scope = s; end = end }

-- the ports are declared one after another, each name new and at most 128 bits wide
abbrev pub declared_ports : Scope → ℕ → List WrittenPort → Result Ported Broken
declared_ports s k [] = Ok (ported s k)
declared_ports s k (p ∷ ps) =
    then' (declared s (port_token k p) (declare_port p)) (λ s'. declared_ports s' (port_token k p + 2) ps)

-- ---- items

-- what was elaborated so far: declarations, assignments with the tokens of their targets, blocks, what has a driver,
-- and the number of the next token
pub record Elaborated : Type 0 where
  pub scope : Scope
  pub assignments : List Assignment
  pub targets : List ℕ
  pub blocks : List Statement
  pub drivers : Drivers
  pub end : ℕ

-- what is elaborated before the first item: the ports alone
abbrev pub begun : Scope → ℕ → Elaborated
begun s end = record { scope = s; assignments = []; targets = []; blocks = []; drivers = no_drivers; end = end }

-- what is elaborated, with more declared
abbrev pub with_scope : Elaborated → Scope → ℕ → Elaborated
with_scope e s end = record e { scope = s; end = end }

-- a wire has a driver
abbrev pub assigned : Drivers → List ℕ → Drivers
assigned v n = record v { done = with_name v.done n; all = with_name v.all n }

-- one assignment more, by which its target has a driver
abbrev pub with_assignment : Elaborated → ℕ → List ℕ → ℕ → Typed → Elaborated
with_assignment e k name n t = record e {
  assignments = e.assignments ++ record { target = n; value = t.expr } ∷ [];
  targets = e.targets ++ k ∷ [];
  drivers = assigned e.drivers name;
  end = t.end + 1;
}

-- where a block begins, none of its names is driven before a statement
abbrev pub block_begins : Drivers → Drivers
block_begins v = record v { before = [] }

-- behind a block, what it drives counts as driven by an earlier item
abbrev pub block_ends : Drivers → Drivers
block_ends v = record v { done = fold with_name v.done v.before }

-- one block more, with what it drives
abbrev pub with_block : Elaborated → Stated → Elaborated
with_block e s = record e { blocks = e.blocks ++ s.statement ∷ []; drivers = block_ends s.drivers; end = s.end }

-- a list of wires or registers is declared name by name
abbrev pub elaborated_names : Kind → Range → Elaborated → List (List ℕ) → Result Elaborated Broken
elaborated_names kind range e names =
    then' (declared_all kind range e.scope (e.end + 1 + length (spell_range range)) names)
    (λ s. Ok (with_scope e s (e.end + 1 + length (spell_range range) + 2 * length names)))

-- a memory at a token, where it has 2^j words
abbrev pub declared_memory : Scope → ℕ → Range → List ℕ → List ℕ → Result Scope Broken
declared_memory s k range name last =
    asks TwiceDeclared k (is_new s name) (asks TooWide k (nat_le (declare (Memory 0) range name).width 128)
    (then' (or_breaks BadMemory k (address_bits_of (decimal_number last + 1)))
    (λ j. Ok (with_declaration s k (declare (Memory j) range name)))))

-- a memory is declared, and its length gives its address bits
abbrev pub elaborated_memory : Elaborated → Range → List ℕ → List ℕ → Result Elaborated Broken
elaborated_memory e range name last =
    then' (declared_memory e.scope (e.end + 1 + length (spell_range range)) range name last)
    (λ s. Ok (with_scope e s (e.end + 1 + length (spell_range range) + 7)))

-- the number of an assignment's target, at a token, for a value of this width
abbrev pub assignment_target : List Declaration → Drivers → ℕ → List ℕ → ℕ → Result ℕ Broken
assignment_target ds v k target width =
    then' (named ds k target) (λ d. asks BadTarget k (is_wire_kind d.kind)
    (asks TwiceDriven k (not (is_among target v.done))
    (asks WidthsDiffer k (nat_eq d.width width) (Ok d.number))))

-- a block's clock, at a token
abbrev pub tested_clock : List Declaration → ℕ → List ℕ → Result (Unit {0}) Broken
tested_clock ds k clock =
    then' (named ds k clock) (λ d. asks ClockRead k (is_clock_name clock)
    (asks BadMemory k (not (is_memory_kind d.kind)) (Ok tt)))

-- a block's statement, at a token
abbrev pub put_block : Elaborated → ℕ → WrittenStatement → Result Elaborated Broken
put_block e k body = then' (judged_in e.scope.declarations (block_begins e.drivers) k body) (λ s. Ok (with_block e s))

-- the value is judged, then its target: declared, a wire, not driven yet, and as wide as the value
abbrev pub elaborated_assignment : Elaborated → List ℕ → WrittenExpr → Result Elaborated Broken
elaborated_assignment e target value =
    then' (judged_expr e.scope.declarations (e.end + 3) value) (λ t.
    then' (named e.scope.declarations (e.end + 1) target) (λ d. asks BadTarget (e.end + 1) (is_wire_kind d.kind)
    (asks TwiceDriven (e.end + 1) (not (is_among target e.drivers.done))
    (asks WidthsDiffer (e.end + 1) (nat_eq d.width t.width)
    (Ok (with_assignment e (e.end + 1) target d.number t))))))

-- the clock is judged, then the statements of the block from left to right
abbrev pub elaborated_block : Elaborated → List ℕ → WrittenStatement → Result Elaborated Broken
elaborated_block e clock body =
    then' (named e.scope.declarations (e.end + 4) clock) (λ d. asks ClockRead (e.end + 4) (is_clock_name clock)
    (asks BadMemory (e.end + 4) (not (is_memory_kind d.kind))
    (then' (judged_in e.scope.declarations (block_begins e.drivers) (e.end + 6) body) (λ s. Ok (with_block e s)))))

-- an item is judged and resolved, by its form
abbrev pub elaborated_item : Elaborated → WrittenItem → Result Elaborated Broken
elaborated_item e (Wires range names) = elaborated_names Wire range e names
elaborated_item e (Registers range names) = elaborated_names Register range e names
elaborated_item e (MemoryOf range name last) = elaborated_memory e range name last
elaborated_item e (Assign target value) = elaborated_assignment e target value
elaborated_item e (Always clock body) = elaborated_block e clock body

-- the items are judged and resolved one after another, up to the first that breaks a rule
abbrev pub elaborated_items : Elaborated → List WrittenItem → Result Elaborated Broken
elaborated_items e [] = Ok e
elaborated_items e (i ∷ is) = then' (elaborated_item e i) (λ e'. elaborated_items e' is)

-- ---- drivers

-- a declaration is an input port
abbrev pub is_input : Kind → Bool
is_input Input = true
is_input _ = false

-- an input needs no driver; any other name has one among these
abbrev pub driven_kind : List (List ℕ) → List ℕ → Kind → Bool
driven_kind done name kind = if is_input kind then true else is_among name done

-- what is declared is an input or has a driver among these names
abbrev pub has_driver : List (List ℕ) → Declaration → Bool
has_driver done d = driven_kind done d.name d.kind

-- each of these declarations has a driver, or the first that has none is broken at its token
abbrev pub all_driven : List (List ℕ) → List Declaration → List ℕ → Elaborated → Result Elaborated Broken
all_driven done [] ts e = Ok e
all_driven done (d ∷ ds) [] e = Ok e
all_driven done (d ∷ ds) (t ∷ ts) e = asks NeverDriven t (has_driver done d) (all_driven done ds ts e)

-- all but the loops
abbrev pub elaborated : WrittenModule → Result Elaborated Broken
elaborated w =
    then' (declared_ports empty_scope 3 w.ports)
    (λ p. then' (elaborated_items (begun p.scope (p.end + 1)) w.items) (λ e.
    all_driven e.drivers.done e.scope.declarations e.scope.tokens e))

-- the module of what was elaborated
abbrev pub module_with : List ℕ → ℕ → Elaborated → Module
module_with name ports e =
    record {
      name = name;
      ports = ports;
      declarations = e.scope.declarations;
      assignments = e.assignments;
      blocks = e.blocks;
    }
