-- All demands of a written module are met and no net depends on itself, exactly where it means a valid module.
use Rattle.std.proofs.Common.{◌≡◌, ℕ, ◌+◌, ◌-◌, ◌≤◌, inl, inr, true, List, [], ◌∷◌, ◌++◌, length, map, Some, None, eqb, refl, sym, ap, subst, ◌∙◌, arith}
use Rattle.std.specs.Prelude.{◌&&◌, nat_eq, slice_get, option_map}
use Rattle.std.specs.List.{AllByRecursion}
use Rattle.std.proofs.lemmas.Bool.{or_cases, and_parts, eqb-true}
use Rattle.gl_verilog.specs.Written.{Direction, In, InWire, Out, OutWire, OutReg, Range, WrittenPort, WrittenItem, Wires, Registers, MemoryOf, Assign, Always, WrittenModule, IsWritten, spell_port, spell_item, spell_range}
use Rattle.gl_verilog.specs.Module.{Module, Declaration, Assignment, Kind, Input, OutputWire, OutputRegister, Wire, Register, Memory}
use Rattle.gl_verilog.specs.Run.{IsRegister}
use Rattle.gl_verilog.specs.Widths.{IsDriven, HasSize, KeepsWidth, KeepsWidthsIn}
use Rattle.gl_verilog.specs.Valid.{AreDistinct, AssignsOnce, drivers_of, blocks_of, writes_of, HasDriver, depends, mentions, HasNoLoop, IsValid}
use Rattle.gl_verilog.specs.Resolve.{Resolved, declare, port_kind, declare_port, resolve_items, module_from, resolve, is_memory_kind}
use Rattle.gl_verilog.proofs.Runs.{register_undriven}
use Rattle.gl_verilog_faults.specs.Demands.{AreMet, is_among, targets_of, name_token, undriven_names, undriven_port, undriven_ports, undriven_items, of_ports, of_items, items_token, demands_of, IsLooped}
use Rattle.gl_verilog_faults.proofs.Names.{met_join, met_front, met_back}
use Rattle.gl_verilog_faults.proofs.Declarations.{IsSound, sound_new, new_sound, sound_front, ports_new, new_ports, bits_ports}
use Rattle.gl_verilog_faults.proofs.Items.{added, FreeItems, meant_items, KeptItems, asked_items, declared_as}
use Rattle.gl_verilog_faults.proofs.Counts.{assigned_in, hit_in, filled_in, SameItems, same_items}
use Rattle.gl_verilog_faults.proofs.Drivers.{bound_items, counted, assigned_target, hit_targets, fill_targets}
use Rattle.gl_verilog_faults.proofs.Driven.{RoomFor, register_memory, driven_memory, assigned_in_kind, hit_in_kind, filled_in_kind, free_items}
use Rattle.gl_bits.proofs.AllLists.{all_append, all_front, all_back, all_by_place, all_at}
use Rattle.gl_bits.proofs.Options.{map_some}
use Rattle.gl_verilog_faults.proofs.Loops.{first_step}

-- ---- what must be driven

abbrev pub Needs : List (List ℕ) → Kind → List ℕ → Type 0
Needs driven Input name = Unit {0}
Needs driven OutputWire name = is_among name driven ≡ true
Needs driven OutputRegister name = is_among name driven ≡ true
Needs driven Wire name = is_among name driven ≡ true
Needs driven Register name = is_among name driven ≡ true
Needs driven (Memory bits) name = is_among name driven ≡ true

abbrev pub NeedsMet : List (List ℕ) → Declaration → Type 0
NeedsMet driven d = Needs driven d.kind d.name

needs_declared : (driven : List (List ℕ)) (kind : Kind) (range : Range) (name : List ℕ) → Needs driven kind name → NeedsMet driven (declare kind range name)
needs_declared driven kind None name h = h
needs_declared driven kind (Some high) name h = h

declared_needs : (driven : List (List ℕ)) (kind : Kind) (range : Range) (name : List ℕ) → NeedsMet driven (declare kind range name) → Needs driven kind name
declared_needs driven kind None name h = h
declared_needs driven kind (Some high) name h = h

needs_port : (driven : List (List ℕ)) (k : ℕ) (d : Direction) (name : List ℕ) → AreMet (undriven_port driven k (port_kind d) name) → Needs driven (port_kind d) name
needs_port driven k In name h = tt
needs_port driven k InWire name h = tt
needs_port driven k Out name h = h.0
needs_port driven k OutWire name h = h.0
needs_port driven k OutReg name h = h.0

port_needs : (driven : List (List ℕ)) (k : ℕ) (d : Direction) (name : List ℕ) → Needs driven (port_kind d) name → AreMet (undriven_port driven k (port_kind d) name)
port_needs driven k In name h = tt
port_needs driven k InWire name h = tt
port_needs driven k Out name h = (h, tt)
port_needs driven k OutWire name h = (h, tt)
port_needs driven k OutReg name h = (h, tt)

needs_ports : (driven : List (List ℕ)) (k : ℕ) (ps : List WrittenPort) → AreMet (undriven_ports driven k ps) → AllByRecursion (NeedsMet driven) (map declare_port ps)
needs_ports driven k [] h = tt
needs_ports driven k (p ∷ ps) h = (
  needs_declared driven (port_kind p.direction) p.range p.name (needs_port driven (k + name_token p) p.direction p.name (met_front (undriven_port driven (k + name_token p) (port_kind p.direction) p.name) _ h)),
  needs_ports driven (k + length (spell_port p) + 1) ps (met_back (undriven_port driven (k + name_token p) (port_kind p.direction) p.name) _ h),
)

ports_need : (driven : List (List ℕ)) (k : ℕ) (ps : List WrittenPort) → AllByRecursion (NeedsMet driven) (map declare_port ps) → AreMet (undriven_ports driven k ps)
ports_need driven k [] h = tt
ports_need driven k (p ∷ ps) h = met_join (undriven_port driven (k + name_token p) (port_kind p.direction) p.name) _
    (port_needs driven (k + name_token p) p.direction p.name (declared_needs driven (port_kind p.direction) p.range p.name h.0)) (ports_need driven (k + length (spell_port p) + 1) ps h.1)

needs_wires : (driven : List (List ℕ)) (k : ℕ) (range : Range) (names : List (List ℕ)) → AreMet (undriven_names driven k names) → AllByRecursion (NeedsMet driven) (map (declare Wire range) names)
needs_wires driven k range [] h = tt
needs_wires driven k range (n ∷ ns) h = (needs_declared driven Wire range n h.0, needs_wires driven (k + 2) range ns h.1)

wires_need : (driven : List (List ℕ)) (k : ℕ) (range : Range) (names : List (List ℕ)) → AllByRecursion (NeedsMet driven) (map (declare Wire range) names) → AreMet (undriven_names driven k names)
wires_need driven k range [] h = tt
wires_need driven k range (n ∷ ns) h = (declared_needs driven Wire range n h.0, wires_need driven (k + 2) range ns h.1)

needs_registers : (driven : List (List ℕ)) (k : ℕ) (range : Range) (names : List (List ℕ)) → AreMet (undriven_names driven k names) → AllByRecursion (NeedsMet driven) (map (declare Register range) names)
needs_registers driven k range [] h = tt
needs_registers driven k range (n ∷ ns) h = (needs_declared driven Register range n h.0, needs_registers driven (k + 2) range ns h.1)

registers_need : (driven : List (List ℕ)) (k : ℕ) (range : Range) (names : List (List ℕ)) → AllByRecursion (NeedsMet driven) (map (declare Register range) names) → AreMet (undriven_names driven k names)
registers_need driven k range [] h = tt
registers_need driven k range (n ∷ ns) h = (declared_needs driven Register range n h.0, registers_need driven (k + 2) range ns h.1)

needs_items : (driven : List (List ℕ)) (k : ℕ) (items : List WrittenItem) → AreMet (undriven_items driven k items) → AllByRecursion (NeedsMet driven) (added items)
needs_items driven k [] h = tt
needs_items driven k (Wires range names ∷ is) h = all_append (NeedsMet driven) (map (declare Wire range) names) (added is) (needs_wires driven (k + 1 + length (spell_range range)) range names (met_front (undriven_names driven (k + 1 + length (spell_range range)) names) _ h)) (needs_items driven (k + length (spell_item (Wires range names))) is (met_back (undriven_names driven (k + 1 + length (spell_range range)) names) _ h))
needs_items driven k (Registers range names ∷ is) h = all_append (NeedsMet driven) (map (declare Register range) names) (added is) (needs_registers driven (k + 1 + length (spell_range range)) range names (met_front (undriven_names driven (k + 1 + length (spell_range range)) names) _ h)) (needs_items driven (k + length (spell_item (Registers range names))) is (met_back (undriven_names driven (k + 1 + length (spell_range range)) names) _ h))
needs_items driven k (MemoryOf range name last ∷ is) h = (needs_declared driven _ range name h.0, needs_items driven (k + length (spell_item (MemoryOf range name last))) is h.1)
needs_items driven k (Assign target value ∷ is) h = needs_items driven (k + length (spell_item (Assign target value))) is h
needs_items driven k (Always clock body ∷ is) h = needs_items driven (k + length (spell_item (Always clock body))) is h

items_need : (driven : List (List ℕ)) (k : ℕ) (items : List WrittenItem) → AllByRecursion (NeedsMet driven) (added items) → AreMet (undriven_items driven k items)
items_need driven k [] h = tt
items_need driven k (Wires range names ∷ is) h = met_join (undriven_names driven (k + 1 + length (spell_range range)) names) _ (wires_need driven (k + 1 + length (spell_range range)) range names (all_front (NeedsMet driven) (map (declare Wire range) names) (added is) h)) (items_need driven (k + length (spell_item (Wires range names))) is (all_back (NeedsMet driven) (map (declare Wire range) names) (added is) h))
items_need driven k (Registers range names ∷ is) h = met_join (undriven_names driven (k + 1 + length (spell_range range)) names) _ (registers_need driven (k + 1 + length (spell_range range)) range names (all_front (NeedsMet driven) (map (declare Register range) names) (added is) h)) (items_need driven (k + length (spell_item (Registers range names))) is (all_back (NeedsMet driven) (map (declare Register range) names) (added is) h))
items_need driven k (MemoryOf range name last ∷ is) h = (declared_needs driven _ range name h.0, items_need driven (k + length (spell_item (MemoryOf range name last))) is h.1)
items_need driven k (Assign target value ∷ is) h = items_need driven (k + length (spell_item (Assign target value))) is h
items_need driven k (Always clock body ∷ is) h = items_need driven (k + length (spell_item (Always clock body))) is h

-- ---- one driver, by what the kind may be

pub record Given (m : Module) (n : ℕ) (k : Kind) : Type 0 where
  pub wire : IsDriven k → drivers_of m.assignments n ≡ 1
  pub register : IsRegister k → (blocks_of m.blocks n ≡ 1) × AllByRecursion (AssignsOnce n) m.blocks
  pub memory : is_memory_kind k ≡ true → writes_of m.blocks n ≡ 1

has_driver : (m : Module) (n : ℕ) (k : Kind) → Given m n k → HasDriver m n k
has_driver m n Input g = tt
has_driver m n OutputWire g = g.wire tt
has_driver m n OutputRegister g = g.register tt
has_driver m n Wire g = g.wire tt
has_driver m n Register g = g.register tt
has_driver m n (Memory bits) g = g.memory refl

driver_has : (m : Module) (n : ℕ) (k : Kind) → HasDriver m n k → Given m n k
driver_has m n Input h = record { wire = λ x. absurd x; register = λ x. absurd x; memory = λ x. absurd cc }
driver_has m n OutputWire h = record { wire = λ x. h; register = λ x. absurd x; memory = λ x. absurd cc }
driver_has m n OutputRegister h = record { wire = λ x. absurd x; register = λ x. h; memory = λ x. absurd cc }
driver_has m n Wire h = record { wire = λ x. h; register = λ x. absurd x; memory = λ x. absurd cc }
driver_has m n Register h = record { wire = λ x. absurd x; register = λ x. h; memory = λ x. absurd cc }
driver_has m n (Memory bits) h = record { wire = λ x. absurd x; register = λ x. absurd x; memory = λ x. h }

needs_when : (driven : List (List ℕ)) (k : Kind) (name : List ℕ) → (IsDriven k → is_among name driven ≡ true) → (IsRegister k → is_among name driven ≡ true) → (is_memory_kind k ≡ true → is_among name driven ≡ true) → Needs driven k name
needs_when driven Input name a b c = tt
needs_when driven OutputWire name a b c = a tt
needs_when driven OutputRegister name a b c = b tt
needs_when driven Wire name a b c = a tt
needs_when driven Register name a b c = b tt
needs_when driven (Memory bits) name a b c = c refl

wire_needs : (driven : List (List ℕ)) (k : Kind) (name : List ℕ) → Needs driven k name → IsDriven k → is_among name driven ≡ true
wire_needs driven Input name h g = absurd g
wire_needs driven OutputWire name h g = h
wire_needs driven OutputRegister name h g = absurd g
wire_needs driven Wire name h g = h
wire_needs driven Register name h g = absurd g
wire_needs driven (Memory bits) name h g = absurd g

register_needs : (driven : List (List ℕ)) (k : Kind) (name : List ℕ) → Needs driven k name → IsRegister k → is_among name driven ≡ true
register_needs driven Input name h g = absurd g
register_needs driven OutputWire name h g = absurd g
register_needs driven OutputRegister name h g = h
register_needs driven Wire name h g = absurd g
register_needs driven Register name h g = h
register_needs driven (Memory bits) name h g = absurd g

memory_needs : (driven : List (List ℕ)) (k : Kind) (name : List ℕ) → Needs driven k name → is_memory_kind k ≡ true → is_among name driven ≡ true
memory_needs driven Input name h g = absurd cc
memory_needs driven OutputWire name h g = absurd cc
memory_needs driven OutputRegister name h g = absurd cc
memory_needs driven Wire name h g = absurd cc
memory_needs driven Register name h g = absurd cc
memory_needs driven (Memory bits) name h g = h

one : (n : ℕ) → n ≤ 1 → 1 ≤ n → n ≡ 1
one n h k = omega arith

module _ (w : WrittenModule) (all ports : List Declaration) (r : Resolved) (e : all ≡ ports ++ added w.items) (s : IsSound all) (q : resolve_items ports w.items ≡ Some r) (k : KeptItems all r) where
  module _ (n : ℕ) (d : Declaration) (at : slice_get all n ≡ Some d) where
    links : SameItems n d.name w.items r
    links = same_items all s.0 n d at w.items ports r e q

    given : FreeItems [] w.items → NeedsMet (targets_of w.items) d → Given (module_from w r) n d.kind
    given f h =
        let b = bound_items d.name w.items [] f in
        let wire : (1 ≤ assigned_in d.name w.items → IsDriven d.kind) = assigned_in_kind all s.0 ports w.items r e q k n d at in
        let register : (1 ≤ hit_in d.name w.items → IsRegister d.kind) = hit_in_kind all s.0 ports w.items r e q k n d at in
        let memory : (1 ≤ filled_in d.name w.items → is_memory_kind d.kind ≡ true) = filled_in_kind all s.0 ports w.items r e q k n d at in
        record {
          wire = λ g. links.assigned ∙ one (assigned_in d.name w.items) b.assigned_most (elim (counted d.name w.items (wire_needs (targets_of w.items) d.kind d.name h g)) [
            | inl p ↦ p
            | inr p ↦ elim p [ inl u ↦ absurd (register_undriven d.kind (register u) g) | inr u ↦ absurd (driven_memory d.kind g (memory u)) ]
          ]);
          register = λ g. (
            links.hit ∙ one (hit_in d.name w.items) b.hit_most (elim (counted d.name w.items (register_needs (targets_of w.items) d.kind d.name h g)) [
              | inl p ↦ absurd (register_undriven d.kind g (wire p))
              | inr p ↦ elim p [ inl u ↦ u | inr u ↦ absurd (register_memory d.kind g (memory u)) ]
            ]),
            links.from b.once,
          );
          memory = λ g. links.fill ∙ one (filled_in d.name w.items) b.fill_most (elim (counted d.name w.items (memory_needs (targets_of w.items) d.kind d.name h g)) [
            | inl p ↦ absurd (driven_memory d.kind (wire p) g)
            | inr p ↦ elim p [ inl u ↦ absurd (register_memory d.kind (register u) g) | inr u ↦ u ]
          ]);
        }

    room_given : Given (module_from w r) n d.kind → RoomFor d.kind d.name [] w.items
    room_given g = record {
      assigned_done = λ x h. refl;
      assigned_most = λ x. (let t : assigned_in d.name w.items ≡ 1 = sym links.assigned ∙ g.wire x in omega arith);
      hit_done = λ x h. refl;
      hit_most = λ x. (let t : hit_in d.name w.items ≡ 1 = sym links.hit ∙ (g.register x).0 in omega arith);
      once = λ x. links.to (g.register x).1;
      fill_done = λ x h. refl;
      fill_most = λ x. (let t : filled_in d.name w.items ≡ 1 = sym links.fill ∙ g.memory x in omega arith);
    }

    needs_given : Given (module_from w r) n d.kind → NeedsMet (targets_of w.items) d
    needs_given g = needs_when (targets_of w.items) d.kind d.name
        (λ x. assigned_target d.name w.items (let t : assigned_in d.name w.items ≡ 1 = sym links.assigned ∙ g.wire x in omega arith))
        (λ x. hit_targets d.name w.items (let t : hit_in d.name w.items ≡ 1 = sym links.hit ∙ (g.register x).0 in omega arith))
        (λ x. fill_targets d.name w.items (let t : filled_in d.name w.items ≡ 1 = sym links.fill ∙ g.memory x in omega arith))

-- ---- loops

abbrev pub IsFree : List Assignment → Type 0
IsFree assignments = AllByRecursion (λ a. IsLooped assignments a.target → ⊥) assignments

-- where a net depends on another, it is a target
target_free : (P : ℕ → Type 0) (as' : List Assignment) (t n : ℕ) → AllByRecursion (λ a. P a.target) as' → depends as' t n ≡ true → P t
target_free P [] t n h e = absurd cc
target_free P (a ∷ as') t n h e = elim (or_cases (nat_eq a.target t && mentions a.value n) (depends as' t n) e) [
  | inl p ↦ subst P (eqb-true a.target t (and_parts (nat_eq a.target t) (mentions a.value n) p).0) h.0
  | inr p ↦ target_free P as' t n h.1 p
]

pub free_no_loop : (as' : List Assignment) → IsFree as' → HasNoLoop as'
free_no_loop as' h n by_way c =
    let b = first_step as' n by_way n c in
    target_free (λ (t : ℕ). IsLooped as' t → ⊥) as' n b.0 h b.1 (by_way, c)

each_free : (as' : List Assignment) (part : List Assignment) → HasNoLoop as' → AllByRecursion (λ a. IsLooped as' a.target → ⊥) part
each_free as' [] h = tt
each_free as' (a ∷ part) h = ((λ l. h a.target l.0 l.1), each_free as' part h)

pub no_loop_free : (as' : List Assignment) → HasNoLoop as' → IsFree as'
no_loop_free as' h = each_free as' as' h

-- ---- the law

-- all but the loops
pub record IsJudged (m : Module) : Type 0 where
  pub names : AreDistinct m.declarations
  pub sizes : AllByRecursion HasSize m.declarations
  pub assignments : AllByRecursion (KeepsWidth m.declarations) m.assignments
  pub blocks : AllByRecursion (KeepsWidthsIn m.declarations) m.blocks
  pub driven : (n : ℕ) (d : Declaration) → slice_get m.declarations n ≡ Some d → HasDriver m n d.kind

judged_all : (w : WrittenModule) (r : Resolved) (all : List Declaration) → r.declarations ≡ all → AreDistinct all → AllByRecursion HasSize all → AllByRecursion (KeepsWidth all) r.assignments → AllByRecursion (KeepsWidthsIn all) r.blocks → ((n : ℕ) (d : Declaration) → slice_get all n ≡ Some d → HasDriver (module_from w r) n d.kind) → IsJudged (module_from w r)
judged_all w r all e a b c d f = record {
  names = subst AreDistinct (sym e) a;
  sizes = subst (AllByRecursion HasSize) (sym e) b;
  assignments = subst (λ (x : List Declaration). AllByRecursion (KeepsWidth x) r.assignments) (sym e) c;
  blocks = subst (λ (x : List Declaration). AllByRecursion (KeepsWidthsIn x) r.blocks) (sym e) d;
  driven = subst (λ (x : List Declaration). (n : ℕ) (d : Declaration) → slice_get x n ≡ Some d → HasDriver (module_from w r) n d.kind) (sym e) f;
}

pub judged : (w : WrittenModule) → IsWritten w → AreMet (demands_of w) → (m : Module) × (resolve w ≡ Some m) × IsJudged m
judged w written h =
    let ports = map declare_port w.ports in
    let three' = met_front (of_ports [] 3 w.ports ++ of_items (map declare_port w.ports) [] (items_token w.ports) w.items ++ undriven_ports (targets_of w.items) 3 w.ports) _ h in
    let last = met_back (of_ports [] 3 w.ports ++ of_items (map declare_port w.ports) [] (items_token w.ports) w.items ++ undriven_ports (targets_of w.items) 3 w.ports) _ h in
    let two = met_front (of_ports [] 3 w.ports ++ of_items (map declare_port w.ports) [] (items_token w.ports) w.items) _ three' in
    let named = met_back (of_ports [] 3 w.ports ++ of_items (map declare_port w.ports) [] (items_token w.ports) w.items) _ three' in
    let fresh = ports_new [] 3 w.ports (met_front (of_ports [] 3 w.ports) _ two) in
    let sound : IsSound (map declare_port w.ports) = sound_new [] (map declare_port w.ports) (tt, tt) (bits_ports w.ports) fresh in
    let x = meant_items w.items (map declare_port w.ports) (map declare_port w.ports ++ added w.items) [] (items_token w.ports) refl sound written.items (met_back (of_ports [] 3 w.ports) _ two) in
    let needs = all_append (NeedsMet (targets_of w.items)) (map declare_port w.ports) (added w.items) (needs_ports (targets_of w.items) 3 w.ports named) (needs_items (targets_of w.items) (items_token w.ports) w.items last) in (
      module_from w x.1.0,
      ap (option_map (module_from w)) x.1.1.resolved,
      judged_all w x.1.0 (map declare_port w.ports ++ added w.items) x.1.1.declared x.0.0 x.0.1 x.1.1.assignments x.1.1.blocks
          (λ n d at. has_driver (module_from w x.1.0) n d.kind (given w (map declare_port w.ports ++ added w.items) (map declare_port w.ports) x.1.0 refl x.0 x.1.1.resolved (record { assignments = x.1.1.assignments; blocks = x.1.1.blocks }) n d at x.1.1.free
          (all_at (NeedsMet (targets_of w.items)) (map declare_port w.ports ++ added w.items) n d at needs))),
    )

met_all : (w : WrittenModule) (r : Resolved) → resolve_items (map declare_port w.ports) w.items ≡ Some r → IsJudged (module_from w r) → AreMet (demands_of w)
met_all w r q j =
    let e : r.declarations ≡ map declare_port w.ports ++ added w.items = declared_as w.items (map declare_port w.ports) r q in
    let s : IsSound r.declarations = (j.names, j.sizes) in
    let k : KeptItems r.declarations r = record { assignments = j.assignments; blocks = j.blocks } in
    let s' : IsSound (map declare_port w.ports) = sound_front (map declare_port w.ports) (added w.items) (subst IsSound e s) in
    let free : FreeItems [] w.items = free_items r.declarations j.names w.items (map declare_port w.ports) [] r e q k (λ n d at. room_given w r.declarations (map declare_port w.ports) r e s q k n d at (driver_has (module_from w r) n d.kind (j.driven n d at))) in
    let needs : AllByRecursion (NeedsMet (targets_of w.items)) r.declarations = all_by_place (NeedsMet (targets_of w.items)) r.declarations (λ n d at. needs_given w r.declarations (map declare_port w.ports) r e s q k n d at (driver_has (module_from w r) n d.kind (j.driven n d at))) in
    let needs' = subst (AllByRecursion (NeedsMet (targets_of w.items))) e needs in
    met_join (of_ports [] 3 w.ports ++ of_items (map declare_port w.ports) [] (items_token w.ports) w.items ++ undriven_ports (targets_of w.items) 3 w.ports) _
    (met_join (of_ports [] 3 w.ports ++ of_items (map declare_port w.ports) [] (items_token w.ports) w.items) _
    (met_join (of_ports [] 3 w.ports) _ (new_ports [] 3 w.ports (new_sound [] (map declare_port w.ports) s')) (asked_items w.items (map declare_port w.ports) r.declarations [] (items_token w.ports) r e s q k free))
    (ports_need (targets_of w.items) 3 w.ports (all_front (NeedsMet (targets_of w.items)) (map declare_port w.ports) (added w.items) needs')))
    (items_need (targets_of w.items) (items_token w.ports) w.items (all_back (NeedsMet (targets_of w.items)) (map declare_port w.ports) (added w.items) needs'))

pub met_judged : (w : WrittenModule) (m : Module) → resolve w ≡ Some m → IsJudged m → AreMet (demands_of w)
met_judged w m e j =
    let t = map_some (module_from w) (resolve_items (map declare_port w.ports) w.items) m e in
    met_all w t.0 t.1 (subst IsJudged t.2 j)

-- THE LAW, both ways
pub demands_valid : (w : WrittenModule) → IsWritten w → AreMet (demands_of w) → ((m : Module) → resolve w ≡ Some m → IsFree m.assignments) → (m : Module) × (resolve w ≡ Some m) × IsValid m
demands_valid w written h f =
    let j = judged w written h in
    (j.0, j.1, record { names = j.2.names; sizes = j.2.sizes; assignments = j.2.assignments; blocks = j.2.blocks; driven = j.2.driven; acyclic = free_no_loop j.0.assignments (f j.0 j.1) })

pub valid_demands : (w : WrittenModule) (m : Module) → resolve w ≡ Some m → IsValid m → AreMet (demands_of w) × IsFree m.assignments
valid_demands w m e v = (met_judged w m e (record { names = v.names; sizes = v.sizes; assignments = v.assignments; blocks = v.blocks; driven = v.driven }), no_loop_free m.assignments v.acyclic)
