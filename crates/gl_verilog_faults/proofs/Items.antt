-- The demands of items are met exactly where they mean assignments and blocks that keep their widths, with free targets.
use Rattle.std.proofs.Common.{◌≡◌, ℕ, ◌+◌, ◌-◌, Bool, true, false, List, [], ◌∷◌, ◌++◌, length, map, Option, Some, None, eqb, refl, sym, ap, subst, ◌∙◌, arith, append_assoc}
use Rattle.std.specs.Prelude.{not, slice_get, option_and_then, if◌then◌else◌}
use Rattle.std.specs.List.{AllByRecursion}
use Rattle.std.proofs.lemmas.Bool.{eq-eqb, eqb-true, not-true, not_from_false}
use Rattle.std.proofs.lemmas.List.{append-nil}
use Rattle.gl_verilog.specs.Written.{Single, IsItem, Range, WrittenItem, Wires, Registers, MemoryOf, Assign, Always, spell_item, spell_range}
use Rattle.gl_verilog.specs.Module.{Declaration, Kind, Input, OutputWire, OutputRegister, Wire, Register, Memory, number_of}
use Rattle.gl_verilog.specs.Widths.{IsDriven, width_of, KeepsWidth, KeepsWidthsIn}
use Rattle.gl_verilog.specs.Resolve.{Resolved, with_assignment, with_block, clocked, decimal_number, declare, address_bits_of, resolve_expr, resolve_statement, resolve_items, is_so, is_memory}
use Rattle.gl_verilog_faults.specs.Demands.{AreMet, bits_named, bits_in, is_wire, is_wire_kind, is_clock_name, is_among, of_expr, of_statement, of_names, of_items, memory_declared, has_bits, targets_in}
use Rattle.gl_verilog_faults.proofs.Names.{met_join, met_front, met_back, Seen, seen_declared, seen_number, is_declared_by, so_by, bits_by, Extends, extends_more}
use Rattle.gl_verilog_faults.proofs.Expressions.{meant, asked, at_some}
use Rattle.gl_verilog_faults.proofs.Operators.{three_some}
use Rattle.gl_verilog_faults.proofs.Statements.{grouped, Free, meant_in, asked_in}
use Rattle.gl_verilog_faults.proofs.Declarations.{small_of, IsSound, HasBits, sound_new, new_sound, sound_front, names_new, new_names, bits_names, bits_memory, address_most, NoMemory}
use Rattle.gl_bits.proofs.Options.{some_same, then_some, some_and}

-- what items declare
abbrev pub added : List WrittenItem → List Declaration
added [] = []
added (Wires range names ∷ is) = map (declare Wire range) names ++ added is
added (Registers range names ∷ is) = map (declare Register range) names ++ added is
added (MemoryOf range name last ∷ is) = memory_declared range name last ∷ added is
added (Assign target value ∷ is) = added is
added (Always clock body ∷ is) = added is

-- the targets of items are none of those driven before
abbrev pub FreeItems : List (List ℕ) → List WrittenItem → Type 0
FreeItems done [] = Unit {0}
FreeItems done (Wires range names ∷ is) = FreeItems done is
FreeItems done (Registers range names ∷ is) = FreeItems done is
FreeItems done (MemoryOf range name last ∷ is) = FreeItems done is
FreeItems done (Assign target value ∷ is) = (not (is_among target done) ≡ true) × FreeItems (done ++ target ∷ []) is
FreeItems done (Always clock body ∷ is) = Free done [] [] body × FreeItems (done ++ targets_in body) is

wire_kind : (k : Kind) → is_wire_kind k ≡ true → IsDriven k
wire_kind Input h = absurd cc
wire_kind OutputWire h = tt
wire_kind OutputRegister h = absurd cc
wire_kind Wire h = tt
wire_kind Register h = absurd cc
wire_kind (Memory bits) h = absurd cc

kind_wire : (k : Kind) → IsDriven k → is_wire_kind k ≡ true
kind_wire Input h = absurd h
kind_wire OutputWire h = refl
kind_wire OutputRegister h = absurd h
kind_wire Wire h = refl
kind_wire Register h = absurd h
kind_wire (Memory bits) h = absurd h

wire_plain : NoMemory Wire
wire_plain b h = h

register_plain : NoMemory Register
register_plain b h = h

-- ---- the clock

clocked_by : (ds : List Declaration) (clock : List ℕ) (n : ℕ) (d : Declaration) → Seen ds clock n d → is_clock_name clock ≡ true → not (is_so is_memory ds clock) ≡ true → clocked ds clock ≡ Some n
clocked_by ds clock n d s c m =
    let f : is_so is_memory ds clock ≡ false = not-true (is_so is_memory ds clock) m in
    rw (c, f) s.number

clock_when : (ds : List Declaration) (clock : List ℕ) (n : ℕ) (a b : Bool) → (if a then (if b then None else number_of ds clock) else None) ≡ Some n → (a ≡ true) × (b ≡ false) × (number_of ds clock ≡ Some n)
clock_when ds clock n true true e = absurd cc
clock_when ds clock n true false e = (refl, refl, e)
clock_when ds clock n false b e = absurd cc

-- ---- memories

bits_there : (o : Option ℕ) → has_bits o ≡ true → (j : ℕ) × (o ≡ Some j)
bits_there None h = absurd cc
bits_there (Some j) h = (j, refl)

pub memory-is : (range : Range) (name last : List ℕ) (j : ℕ) → address_bits_of (decimal_number last + 1) ≡ Some j → memory_declared range name last ≡ declare (Memory j) range name
memory-is range name last j e = rw e refl

-- ---- all items

pub record MeantItems (ds all : List Declaration) (done : List (List ℕ)) (items : List WrittenItem) (r : Resolved) : Type 0 where
  pub resolved : resolve_items ds items ≡ Some r
  pub declared : r.declarations ≡ all
  pub assignments : AllByRecursion (KeepsWidth all) r.assignments
  pub blocks : AllByRecursion (KeepsWidthsIn all) r.blocks
  pub free : FreeItems done items

pub extends_by : (ds more all : List Declaration) → all ≡ ds ++ more → Extends ds all
extends_by ds more all e = subst (Extends ds) (sym e) (extends_more ds more)

abbrev pub Result : List Declaration → List Declaration → List (List ℕ) → List WrittenItem → Type 0
Result ds all done items = IsSound all × ((r : Resolved) × MeantItems ds all done items r)

pub meant_items : (items : List WrittenItem) (ds all : List Declaration) (done : List (List ℕ)) (k : ℕ) → all ≡ ds ++ added items → IsSound ds → AllByRecursion IsItem items → AreMet (of_items ds done k items) → Result ds all done items
meant_items [] ds all done k e s g h =
    let same : ds ≡ all = sym (e ∙ append-nil ds) in
    (subst IsSound same s, (record { declarations = ds; assignments = []; blocks = [] }, record { resolved = refl; declared = same; assignments = tt; blocks = tt; free = tt }))
meant_items (Wires range names ∷ is) ds all done k e s g h =
    let n = names_new Wire range ds (k + 1 + length (spell_range range)) names (met_front (of_names Wire range ds (k + 1 + length (spell_range range)) names) _ h) in
    let s' = sound_new ds (map (declare Wire range) names) s (bits_names Wire wire_plain range names) n in
    let q = meant_items is (ds ++ map (declare Wire range) names) all done (k + length (spell_item (Wires range names))) (e ∙ sym (append_assoc ds (map (declare Wire range) names) (added is))) s' g.1 (met_back (of_names Wire range ds (k + 1 + length (spell_range range)) names) _ h) in
    (q.0, (q.1.0, record { resolved = q.1.1.resolved; declared = q.1.1.declared; assignments = q.1.1.assignments; blocks = q.1.1.blocks; free = q.1.1.free }))
meant_items (Registers range names ∷ is) ds all done k e s g h =
    let n = names_new Register range ds (k + 1 + length (spell_range range)) names (met_front (of_names Register range ds (k + 1 + length (spell_range range)) names) _ h) in
    let s' = sound_new ds (map (declare Register range) names) s (bits_names Register register_plain range names) n in
    let q = meant_items is (ds ++ map (declare Register range) names) all done (k + length (spell_item (Registers range names))) (e ∙ sym (append_assoc ds (map (declare Register range) names) (added is))) s' g.1 (met_back (of_names Register range ds (k + 1 + length (spell_range range)) names) _ h) in
    (q.0, (q.1.0, record { resolved = q.1.1.resolved; declared = q.1.1.declared; assignments = q.1.1.assignments; blocks = q.1.1.blocks; free = q.1.1.free }))
meant_items (MemoryOf range name last ∷ is) ds all done k e s g h =
    let d : Declaration = memory_declared range name last in
    let b = bits_there (address_bits_of (decimal_number last + 1)) h.1.1.0 in
    let same : memory_declared range name last ≡ declare (Memory b.0) range name = memory-is range name last b.0 b.1 in
    let sized : HasBits (memory_declared range name last) = subst HasBits (sym same) (bits_memory range name b.0 (address_most (decimal_number last + 1) b.0 b.1)) in
    let s' = sound_new ds (memory_declared range name last ∷ []) s (sized, tt) (h.0, h.1.0, tt) in
    let q = meant_items is (ds ++ memory_declared range name last ∷ []) all done (k + length (spell_item (MemoryOf range name last))) (e ∙ sym (append_assoc ds (memory_declared range name last ∷ []) (added is))) s' g.1 h.1.1.1 in (
      q.0,
      (
        q.1.0,
        record {
          resolved = ap (option_and_then (λ (j : ℕ). resolve_items (ds ++ declare (Memory j) range name ∷ []) is)) b.1 ∙ subst (λ (c : Declaration). resolve_items (ds ++ c ∷ []) is ≡ Some q.1.0) same q.1.1.resolved;
          declared = q.1.1.declared;
          assignments = q.1.1.assignments;
          blocks = q.1.1.blocks;
          free = q.1.1.free;
        },
      ),
    )
meant_items (Assign target value ∷ is) ds all done k e s g h =
    let ext = extends_by ds (added is) all e in
    let x = meant ds all ext (small_of ds s.1) value (k + 3) g.0.1 (λ l. absurd (let t = g.0.0 in omega arith)) (met_front (of_expr ds (k + 3) value) _ h) in
    let own = met_back (of_expr ds (k + 3) value) _ h in
    let t = seen_declared ds target own.0 in
    let w : is_wire t.1 ≡ true = rw (so_by is_wire ds target t.0 t.1 t.2) at own.1.0 in
    let same : width_of all x.0 ≡ t.1.width = x.1.wide ∙ sym (eqb-true (bits_named ds target) (bits_in ds value) own.1.1.1.0) ∙ bits_by ds target t.0 t.1 t.2 in
    let q = meant_items is ds all (done ++ target ∷ []) (k + length (spell_item (Assign target value))) e s g.1 own.1.1.1.1 in (
      q.0,
      (
        with_assignment t.0 x.0 q.1.0,
        record {
          resolved = rw (t.2.number, x.1.resolved, q.1.1.resolved) refl;
          declared = q.1.1.declared;
          assignments = ((some_and (λ d. IsDriven d.kind × (width_of all x.0 ≡ d.width)) (slice_get all t.0) t.1 (ext t.0 t.1 t.2.at) (wire_kind t.1.kind w, same), x.1.kept), q.1.1.assignments);
          blocks = q.1.1.blocks;
          free = (own.1.1.0, q.1.1.free);
        },
      ),
    )
meant_items (Always clock body ∷ is) ds all done k e s g h =
    let ext = extends_by ds (added is) all e in
    let t = seen_declared ds clock h.0 in
    let b = meant_in ds all ext (small_of ds s.1) done body [] [] (k + 6) (grouped Single body g.0) (met_front (of_statement ds done [] [] (k + 6) body) _ h.1.1.1) in
    let q = meant_items is ds all (done ++ targets_in body) (k + length (spell_item (Always clock body))) e s g.1 (met_back (of_statement ds done [] [] (k + 6) body) _ h.1.1.1) in (
      q.0,
      (
        with_block t.0 b.0 q.1.0,
        record {
          resolved = rw (clocked_by ds clock t.0 t.1 t.2 h.1.0 h.1.1.0, b.1.resolved, q.1.1.resolved) refl;
          declared = q.1.1.declared;
          assignments = q.1.1.assignments;
          blocks = (b.1.kept, q.1.1.blocks);
          free = (b.1.free, q.1.1.free);
        },
      ),
    )

-- ---- and back

pub record KeptItems (all : List Declaration) (r : Resolved) : Type 0 where
  pub assignments : AllByRecursion (KeepsWidth all) r.assignments
  pub blocks : AllByRecursion (KeepsWidthsIn all) r.blocks

pub kept_at : (all : List Declaration) (r s : Resolved) → r ≡ s → KeptItems all r → KeptItems all s
kept_at all r s e h = subst (KeptItems all) e h

pub declared_as : (items : List WrittenItem) (ds : List Declaration) (r : Resolved) → resolve_items ds items ≡ Some r → r.declarations ≡ ds ++ added items
declared_as [] ds r e = let q : record { declarations = ds; assignments = []; blocks = [] } ≡ r = some_same (record { declarations = ds; assignments = []; blocks = [] }) r e in sym (ap (λ (c : Resolved). c.declarations) q) ∙ sym (append-nil ds)
declared_as (Wires range names ∷ is) ds r e = declared_as is (ds ++ map (declare Wire range) names) r e ∙ append_assoc ds (map (declare Wire range) names) (added is)
declared_as (Registers range names ∷ is) ds r e = declared_as is (ds ++ map (declare Register range) names) r e ∙ append_assoc ds (map (declare Register range) names) (added is)
declared_as (MemoryOf range name last ∷ is) ds r e =
    let m = then_some (λ (j : ℕ). resolve_items (ds ++ declare (Memory j) range name ∷ []) is) (address_bits_of (decimal_number last + 1)) r e in
    declared_as is (ds ++ declare (Memory m.0) range name ∷ []) r m.2 ∙ append_assoc ds (declare (Memory m.0) range name ∷ []) (added is) ∙ ap (λ (d : Declaration). ds ++ d ∷ added is) (sym (memory-is range name last m.0 m.1))
declared_as (Assign target value ∷ is) ds r e =
    let m = three_some with_assignment (number_of ds target) (resolve_expr ds value) (resolve_items ds is) r e in
    ap (λ (c : Resolved). c.declarations) m.6 ∙ declared_as is ds m.2 m.5
declared_as (Always clock body ∷ is) ds r e =
    let m = three_some with_block (clocked ds clock) (resolve_statement ds body) (resolve_items ds is) r e in
    ap (λ (c : Resolved). c.declarations) m.6 ∙ declared_as is ds m.2 m.5

pub asked_items : (items : List WrittenItem) (ds all : List Declaration) (done : List (List ℕ)) (k : ℕ) (r : Resolved) → all ≡ ds ++ added items → IsSound all → resolve_items ds items ≡ Some r → KeptItems all r → FreeItems done items → AreMet (of_items ds done k items)
asked_items [] ds all done k r e s q h f = tt
asked_items (Wires range names ∷ is) ds all done k r e s q h f =
    let e' : all ≡ (ds ++ map (declare Wire range) names) ++ added is = e ∙ sym (append_assoc ds (map (declare Wire range) names) (added is)) in
    let s' : IsSound (ds ++ map (declare Wire range) names) = sound_front (ds ++ map (declare Wire range) names) (added is) (subst IsSound e' s) in
    met_join (of_names Wire range ds (k + 1 + length (spell_range range)) names) _ (new_names Wire range ds (k + 1 + length (spell_range range)) names (new_sound ds (map (declare Wire range) names) s'))
    (asked_items is (ds ++ map (declare Wire range) names) all done (k + length (spell_item (Wires range names))) r e' s q h f)
asked_items (Registers range names ∷ is) ds all done k r e s q h f =
    let e' : all ≡ (ds ++ map (declare Register range) names) ++ added is = e ∙ sym (append_assoc ds (map (declare Register range) names) (added is)) in
    let s' : IsSound (ds ++ map (declare Register range) names) = sound_front (ds ++ map (declare Register range) names) (added is) (subst IsSound e' s) in
    met_join (of_names Register range ds (k + 1 + length (spell_range range)) names) _ (new_names Register range ds (k + 1 + length (spell_range range)) names (new_sound ds (map (declare Register range) names) s'))
    (asked_items is (ds ++ map (declare Register range) names) all done (k + length (spell_item (Registers range names))) r e' s q h f)
asked_items (MemoryOf range name last ∷ is) ds all done k r e s q h f =
    let m = then_some (λ (j : ℕ). resolve_items (ds ++ declare (Memory j) range name ∷ []) is) (address_bits_of (decimal_number last + 1)) r q in
    let e' : all ≡ (ds ++ memory_declared range name last ∷ []) ++ added is = e ∙ sym (append_assoc ds (memory_declared range name last ∷ []) (added is)) in
    let s' : IsSound (ds ++ memory_declared range name last ∷ []) = sound_front (ds ++ memory_declared range name last ∷ []) (added is) (subst IsSound e' s) in
    let n = new_sound ds (memory_declared range name last ∷ []) s' in
    let q' : resolve_items (ds ++ memory_declared range name last ∷ []) is ≡ Some r = subst (λ (c : Declaration). resolve_items (ds ++ c ∷ []) is ≡ Some r) (sym (memory-is range name last m.0 m.1)) m.2 in
    (n.0, (n.1, (rw m.1 refl, asked_items is (ds ++ memory_declared range name last ∷ []) all done (k + length (spell_item (MemoryOf range name last))) r e' s q' h f)))
asked_items (Assign target value ∷ is) ds all done k r e s q h f =
    let m = three_some with_assignment (number_of ds target) (resolve_expr ds value) (resolve_items ds is) r q in
    let h' = kept_at all r (with_assignment m.0 m.1 m.2) m.6 h in
    let ext = extends_by ds (added is) all e in
    let sm = small_of ds (sound_front ds (added is) (subst IsSound e s)).1 in
    let t = seen_number ds target m.0 m.3 in
    let a = asked ds all ext sm value (k + 3) m.1 m.4 h'.assignments.0.1 in
    let p : IsDriven t.0.kind × (width_of all m.1 ≡ t.0.width) = at_some (slice_get all m.0) t.0 (λ d. IsDriven d.kind × (width_of all m.1 ≡ d.width)) (ext m.0 t.0 t.1.at) h'.assignments.0.0 in
    met_join (of_expr ds (k + 3) value) _ a.met (
      is_declared_by ds target m.0 t.0 t.1,
      (
        rw (so_by is_wire ds target m.0 t.0 t.1) (kind_wire t.0.kind p.0),
        (
          f.0,
          (
            eq-eqb (bits_named ds target) (bits_in ds value) (bits_by ds target m.0 t.0 t.1 ∙ sym p.1 ∙ a.wide),
            asked_items is ds all (done ++ target ∷ []) (k + length (spell_item (Assign target value))) m.2 e s m.5 (record { assignments = h'.assignments.1; blocks = h'.blocks }) f.1,
          ),
        ),
      ),
    )
asked_items (Always clock body ∷ is) ds all done k r e s q h f =
    let m = three_some with_block (clocked ds clock) (resolve_statement ds body) (resolve_items ds is) r q in
    let h' = kept_at all r (with_block m.0 m.1 m.2) m.6 h in
    let ext = extends_by ds (added is) all e in
    let sm = small_of ds (sound_front ds (added is) (subst IsSound e s)).1 in
    let c = clock_when ds clock m.0 (is_clock_name clock) (is_so is_memory ds clock) m.3 in
    let t = seen_number ds clock m.0 c.2 in (
      is_declared_by ds clock m.0 t.0 t.1,
      (
        c.0,
        (
          not_from_false (is_so is_memory ds clock) c.1,
          met_join (of_statement ds done [] [] (k + 6) body) _ (asked_in ds all ext sm done body [] [] (k + 6) m.1 m.4 h'.blocks.0 f.0)
              (asked_items is ds all (done ++ targets_in body) (k + length (spell_item (Always clock body))) m.2 e s m.5 (record { assignments = h'.assignments; blocks = h'.blocks.1 }) f.1),
        ),
      ),
    )
