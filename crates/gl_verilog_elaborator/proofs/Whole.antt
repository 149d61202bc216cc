-- A whole module is judged by its demands, and what is judged is what it means.
use Rattle.std.proofs.Common.{◌≡◌, ℕ, ◌+◌, true, List, [], ◌∷◌, ◌++◌, map, length, Some, None, Result, refl, sym, ap, subst, ◌∙◌, arith, append_assoc}
use Rattle.std.specs.Prelude.{if◌then◌else◌, option_map}
use Rattle.gl_verilog.specs.Written.{Range, WrittenPort, WrittenItem, Wires, Registers, MemoryOf, Assign, Always, WrittenModule, IsNonempty, IsWritten, spell_port, spell_more_ports, spell_range, spell_item}
use Rattle.gl_verilog.specs.Module.{Declaration, Kind, Input, OutputWire, OutputRegister, Wire, Register, Memory, Assignment, Statement}
use Rattle.gl_verilog.specs.Resolve.{Resolved, declare, port_kind, declare_port, resolve_items, module_from, resolve}
use Rattle.gl_verilog_faults.specs.Demands.{Demand, ask, NeverDriven, is_among, targets_of, of_ports, of_items, name_token, undriven_names, undriven_port, undriven_ports, undriven_items, assign_tokens, items_token, demands_of}
use Rattle.gl_verilog_faults.proofs.Items.{added}
use Rattle.gl_verilog_elaborator.specs.Judged.{Broken, then', asks, no_drivers}
use Rattle.gl_verilog_elaborator.specs.Elaborated.{empty_scope, declared_ports, Elaborated, begun, elaborated_items, is_input, all_driven, elaborated}
use Rattle.gl_verilog_elaborator.proofs.Demanded.{Is, is_then, is_ask_as, is_as, is_weaker}
use Rattle.gl_verilog_elaborator.proofs.OfDeclarations.{names_tokens, ports_tokens, AddsPorts, ports_is}
use Rattle.gl_verilog_elaborator.proofs.OfItems.{Between, item_tokens, AddsItems, items_are}

-- ---- what must be driven, declaration by declaration

abbrev undriven_all : List (List ℕ) → List Declaration → List ℕ → List Demand
undriven_all driven [] ts = []
undriven_all driven (d ∷ ds) [] = []
undriven_all driven (d ∷ ds) (t ∷ ts) = undriven_port driven t d.kind d.name ++ undriven_all driven ds ts

declared_one : (driven : List (List ℕ)) (t : ℕ) (kind : Kind) (range : Range) (name : List ℕ) → undriven_port driven t (declare kind range name).kind (declare kind range name).name ≡ undriven_port driven t kind name
declared_one driven t kind None name = refl
declared_one driven t kind (Some high) name = refl

names_driven : (driven : List (List ℕ)) (kind : Kind) (range : Range) (names : List (List ℕ)) (k : ℕ) (es : List Declaration) (us : List ℕ) → ((t : ℕ) (n : List ℕ) → undriven_port driven t kind n ≡ ask NeverDriven t (is_among n driven) ∷ []) → undriven_all driven (map (declare kind range) names ++ es) (names_tokens k names ++ us) ≡ undriven_names driven k names ++ undriven_all driven es us
names_driven driven kind range [] k es us h = refl
names_driven driven kind range (n ∷ ns) k es us h =
    ap (λ (l : List Demand). l ++ undriven_all driven (map (declare kind range) ns ++ es) (names_tokens (k + 2) ns ++ us)) (declared_one driven k kind range n ∙ h k n)
    ∙ ap (λ (l : List Demand). ask NeverDriven k (is_among n driven) ∷ l) (names_driven driven kind range ns (k + 2) es us h)

ports_driven : (driven : List (List ℕ)) (ps : List WrittenPort) (k : ℕ) (es : List Declaration) (us : List ℕ) → undriven_all driven (map declare_port ps ++ es) (ports_tokens k ps ++ us) ≡ undriven_ports driven k ps ++ undriven_all driven es us
ports_driven driven [] k es us = refl
ports_driven driven (p ∷ ps) k es us =
    ap (λ (l : List Demand). l ++ undriven_all driven (map declare_port ps ++ es) (ports_tokens (k + length (spell_port p) + 1) ps ++ us)) (declared_one driven (k + name_token p) (port_kind p.direction) p.range p.name)
    ∙ ap (λ (l : List Demand). undriven_port driven (k + name_token p) (port_kind p.direction) p.name ++ l) (ports_driven driven ps (k + length (spell_port p) + 1) es us)
    ∙ sym (append_assoc (undriven_port driven (k + name_token p) (port_kind p.direction) p.name) (undriven_ports driven (k + length (spell_port p) + 1) ps) (undriven_all driven es us))

items_driven : (driven : List (List ℕ)) (items : List WrittenItem) (k : ℕ) → undriven_all driven (added items) (item_tokens k items) ≡ undriven_items driven k items
items_driven driven [] k = refl
items_driven driven (Wires range names ∷ is) k =
    names_driven driven Wire range names (k + 1 + length (spell_range range)) (added is) (item_tokens (k + length (spell_item (Wires range names))) is) (λ t n. refl)
    ∙ ap (λ (l : List Demand). undriven_names driven (k + 1 + length (spell_range range)) names ++ l) (items_driven driven is (k + length (spell_item (Wires range names))))
items_driven driven (Registers range names ∷ is) k =
    names_driven driven Register range names (k + 1 + length (spell_range range)) (added is) (item_tokens (k + length (spell_item (Registers range names))) is) (λ t n. refl)
    ∙ ap (λ (l : List Demand). undriven_names driven (k + 1 + length (spell_range range)) names ++ l) (items_driven driven is (k + length (spell_item (Registers range names))))
items_driven driven (MemoryOf range name last ∷ is) k =
    ap (λ (l : List Demand). l ++ undriven_all driven (added is) (item_tokens (k + length (spell_item (MemoryOf range name last))) is)) (declared_one driven (k + 1 + length (spell_range range)) (Memory _) range name)
    ∙ ap (λ (l : List Demand). ask NeverDriven (k + 1 + length (spell_range range)) (is_among name driven) ∷ l) (items_driven driven is (k + length (spell_item (MemoryOf range name last))))
items_driven driven (Assign target value ∷ is) k = items_driven driven is (k + length (spell_item (Assign target value)))
items_driven driven (Always clock body ∷ is) k = items_driven driven is (k + length (spell_item (Always clock body)))

driven_one : {A : Type 0} (done driven : List (List ℕ)) (kind : Kind) (name : List ℕ) (t : ℕ) (ds : List Demand) (Q : A → Type 0) (r : Result A Broken) → is_among name driven ≡ is_among name done → Is ds Q r → Is (undriven_port driven t kind name ++ ds) Q (asks NeverDriven t (if is_input kind then true else is_among name done) r)
driven_one done driven Input name t ds Q r e h = h
driven_one done driven OutputWire name t ds Q r e h = is_ask_as NeverDriven t (is_among name done) (is_among name driven) ds Q r e (λ m. h)
driven_one done driven OutputRegister name t ds Q r e h = is_ask_as NeverDriven t (is_among name done) (is_among name driven) ds Q r e (λ m. h)
driven_one done driven Wire name t ds Q r e h = is_ask_as NeverDriven t (is_among name done) (is_among name driven) ds Q r e (λ m. h)
driven_one done driven Register name t ds Q r e h = is_ask_as NeverDriven t (is_among name done) (is_among name driven) ds Q r e (λ m. h)
driven_one done driven (Memory bits) name t ds Q r e h = is_ask_as NeverDriven t (is_among name done) (is_among name driven) ds Q r e (λ m. h)

driven_is : (done driven : List (List ℕ)) (ds : List Declaration) (ts : List ℕ) (e : Elaborated) → ((n : List ℕ) → is_among n driven ≡ is_among n done) → Is (undriven_all driven ds ts) (λ r. r ≡ e) (all_driven done ds ts e)
driven_is done driven [] ts e h = (tt, refl)
driven_is done driven (d ∷ ds) [] e h = (tt, refl)
driven_is done driven (d ∷ ds) (t ∷ ts) e h = driven_one done driven d.kind d.name t (undriven_all driven ds ts) (λ r. r ≡ e) (all_driven done ds ts e) (h d.name) (driven_is done driven ds ts e h)

-- ---- the whole

-- what is elaborated is what the module means, with the tokens of its targets
pub record IsElaborated (w : WrittenModule) (e : Elaborated) : Type 0 where
  pub resolved : resolve w ≡ Some (module_from w (record { declarations = e.scope.declarations; assignments = e.assignments; blocks = e.blocks }))
  pub targets : e.targets ≡ assign_tokens (items_token w.ports) w.items
  pub tokens : e.scope.tokens ≡ ports_tokens 3 w.ports ++ item_tokens (items_token w.ports) w.items

items_begin : (ps : List WrittenPort) (n : ℕ) → IsNonempty ps → n ≡ 3 + length (spell_more_ports ps) → n + 1 ≡ items_token ps
items_begin [] n h e = absurd h
items_begin (p ∷ ps) n h e = omega arith

shape : (a b c d : List Demand) → a ++ (b ++ (c ++ d)) ≡ ((a ++ b) ++ c) ++ d
shape a b c d = sym (append_assoc (a ++ b) c d ∙ append_assoc a b (c ++ d))

none_between : Between no_drivers []
none_between = record { done' = λ n. refl; all' = λ n. refl; beside' = λ n. refl }

pub elaborated_is : (w : WrittenModule) → IsWritten w → Is (demands_of w) (IsElaborated w) (elaborated w)
elaborated_is w g =
    is_as (ports ++ (items ++ (undriven_ports driven 3 w.ports ++ undriven_items driven k w.items))) (demands_of w) (IsElaborated w) (elaborated w) (shape ports items (undriven_ports driven 3 w.ports) (undriven_items driven k w.items))
    (is_then ports (items ++ (undriven_ports driven 3 w.ports ++ undriven_items driven k w.items)) (AddsPorts empty_scope 3 w.ports) (IsElaborated w) (declared_ports empty_scope 3 w.ports) (λ p. then' (elaborated_items (begun p.scope (p.end + 1)) w.items) (λ e. all_driven e.drivers.done e.scope.declarations e.scope.tokens e)) (ports_is w.ports empty_scope 3) (λ p a.
    let at : p.end + 1 ≡ k = items_begin w.ports p.end g.ports a.end' in
    is_as (of_items p.scope.declarations [] (p.end + 1) w.items ++ (undriven_ports driven 3 w.ports ++ undriven_items driven k w.items)) (items ++ (undriven_ports driven 3 w.ports ++ undriven_items driven k w.items)) (IsElaborated w) _
    (ap (λ (ds : List Declaration). of_items ds [] (p.end + 1) w.items ++ (undriven_ports driven 3 w.ports ++ undriven_items driven k w.items)) a.adds.declarations ∙ ap (λ (n : ℕ). of_items (map declare_port w.ports) [] n w.items ++ (undriven_ports driven 3 w.ports ++ undriven_items driven k w.items)) at)
    (is_then (of_items p.scope.declarations [] (p.end + 1) w.items) (undriven_ports driven 3 w.ports ++ undriven_items driven k w.items) (AddsItems (begun p.scope (p.end + 1)) [] w.items) (IsElaborated w) (elaborated_items (begun p.scope (p.end + 1)) w.items) (λ e. all_driven e.drivers.done e.scope.declarations e.scope.tokens e) (items_are w.items g.items (begun p.scope (p.end + 1)) [] none_between) (λ e c.
    let ds : e.scope.declarations ≡ map declare_port w.ports ++ added w.items = c.scope'.declarations ∙ ap (λ (l : List Declaration). l ++ added w.items) a.adds.declarations in
    let ts : e.scope.tokens ≡ ports_tokens 3 w.ports ++ item_tokens k w.items = c.scope'.tokens ∙ ap (λ (l : List ℕ). l ++ item_tokens (p.end + 1) w.items) a.adds.tokens ∙ ap (λ (n : ℕ). ports_tokens 3 w.ports ++ item_tokens n w.items) at in
    let demands : undriven_all driven e.scope.declarations e.scope.tokens ≡ undriven_ports driven 3 w.ports ++ undriven_items driven k w.items =
    ap (λ (l : List Declaration). undriven_all driven l e.scope.tokens) ds ∙ ap (undriven_all driven (map declare_port w.ports ++ added w.items)) ts ∙ ports_driven driven w.ports 3 (added w.items) (item_tokens k w.items) ∙ ap (λ (l : List Demand). undriven_ports driven 3 w.ports ++ l) (items_driven driven w.items k) in
    is_as (undriven_all driven e.scope.declarations e.scope.tokens) (undriven_ports driven 3 w.ports ++ undriven_items driven k w.items) (IsElaborated w) _ demands
    (is_weaker (undriven_all driven e.scope.declarations e.scope.tokens) (λ r. r ≡ e) (IsElaborated w) _ (λ r q. subst (IsElaborated w) (sym q) (record {
      resolved = ap (λ (l : List Declaration). option_map (module_from w) (resolve_items l w.items)) (sym a.adds.declarations) ∙ ap (option_map (module_from w)) (c.resolved ∙ ap Some (parts e c.assignments c.blocks (sym c.assigned') (sym c.blocked)));
      targets = c.targets ∙ ap (λ (n : ℕ). assign_tokens n w.items) at;
      tokens = ts;
    })) (driven_is e.drivers.done driven e.scope.declarations e.scope.tokens e (λ n. sym (c.drivers.done' n))))))))
  where
    driven : List (List ℕ)
    driven = targets_of w.items

    k : ℕ
    k = items_token w.ports

    ports : List Demand
    ports = of_ports [] 3 w.ports

    items : List Demand
    items = of_items (map declare_port w.ports) [] (items_token w.ports) w.items

    parts : (e : Elaborated) (as' : List Assignment) (bs : List Statement) → as' ≡ e.assignments → bs ≡ e.blocks → (let r : Resolved = record { declarations = e.scope.declarations; assignments = as'; blocks = bs } in r) ≡ record { declarations = e.scope.declarations; assignments = e.assignments; blocks = e.blocks }
    parts e as' bs p q = ap (λ (l : List Assignment). let r : Resolved = record { declarations = e.scope.declarations; assignments = l; blocks = bs } in r) p ∙ ap (λ (l : List Statement). let r : Resolved = record { declarations = e.scope.declarations; assignments = e.assignments; blocks = l } in r) q
