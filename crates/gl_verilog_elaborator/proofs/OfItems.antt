-- Items are judged by their demands, and what is judged is what they mean.
use Rattle.std.proofs.Common.{◌≡◌, ℕ, ◌+◌, ◌*◌, Bool, true, false, List, [], ◌∷◌, ◌++◌, map, length, Option, Some, Result, Ok, refl, sym, ap, subst, ◌∙◌, arith, append_assoc, length-append}
use Rattle.std.specs.Prelude.{◌||◌, not, nat_eq, option_map, option_and_then}
use Rattle.std.specs.Option.{option_map_or}
use Rattle.std.specs.Str.{bytes_eq}
use Rattle.std.specs.List.{AllByRecursion}
use Rattle.std.proofs.lemmas.List.{append-nil}
use Rattle.std.proofs.lemmas.Bool.{not-true}
use Rattle.gl_verilog.specs.Tokens.{Token, Name, Mark, Reserved, WireWord, RegWord, Semicolon, OpenBracket, Colon, Number, CloseBracket}
use Rattle.gl_verilog.specs.Written.{Range, WrittenExpr, spell_expr, WrittenStatement, Single, IsStatementAt, zero_digit, spell_statement, WrittenItem, Wires, Registers, MemoryOf, Assign, Always, IsNonempty, IsItem, spell_range, spell_names, spell_item}
use Rattle.gl_verilog.specs.Module.{Declaration, Kind, Wire, Register, Memory, Expr, Statement, Assignment}
use Rattle.gl_verilog.specs.Resolve.{three, both, Resolved, decimal_number, declare, address_bits_of, is_so, is_memory, is_memory_kind, clocked, resolve_expr, resolve_statement, resolve_items, with_assignment as assignment_before, with_block as block_before}
use Rattle.gl_verilog_faults.specs.Demands.{Demand, ask, Undeclared, TwiceDriven, WidthsDiffer, BadMemory, ClockRead, BadTarget, is_declared, is_wire, is_wire_kind, is_clock_name, is_among, bits_named, bits_in, targets_in, targets_of, of_expr, of_statement, of_declaration, of_names, of_items, memory_declared, has_bits, assign_tokens}
use Rattle.gl_verilog_faults.proofs.Names.{so_by}
use Rattle.gl_verilog_faults.proofs.Items.{added}
use Rattle.gl_verilog_elaborator.specs.Judged.{Broken, then', asks, Known, named, Typed, judged_expr, Drivers, judged_in}
use Rattle.gl_verilog_elaborator.specs.Elaborated.{Scope, declared_all, Elaborated, with_scope, assigned, with_assignment, block_begins, block_ends, with_block, elaborated_names, declared_memory, elaborated_memory, elaborated_assignment, elaborated_block, elaborated_item, elaborated_items}
use Rattle.gl_verilog_elaborator.proofs.Demanded.{Is, is_then, is_ask, is_ask_as, is_as, is_weaker, is_mapped}
use Rattle.gl_verilog_elaborator.proofs.OfExpressions.{IsKnown, named_is, kind_so, width_known, number_known, Means, judged_is}
use Rattle.gl_verilog_faults.proofs.Drivers.{among_join}
use Rattle.gl_verilog_elaborator.proofs.Sets.{among_with, among_all, among_push}
use Rattle.gl_verilog_elaborator.proofs.OfStatements.{Same, Leaves, Says, statement_is}
use Rattle.gl_verilog_elaborator.proofs.OfDeclarations.{names_tokens, Adds, all_declared_is, AddsMemory, memory_is}

-- between two items the sets tell the names that have a driver, and nothing stands beside
pub record Between (v : Drivers) (done : List (List ℕ)) : Type 0 where
  pub done' : (n : List ℕ) → is_among n v.done ≡ is_among n done
  pub all' : (n : List ℕ) → is_among n v.all ≡ is_among n done
  pub beside' : (n : List ℕ) → is_among n v.beside ≡ false

-- the tokens of the names that items declare
abbrev pub item_tokens : ℕ → List WrittenItem → List ℕ
item_tokens k [] = []
item_tokens k (Wires range names ∷ is) = names_tokens (k + 1 + length (spell_range range)) names ++ item_tokens (k + length (spell_item (Wires range names))) is
item_tokens k (Registers range names ∷ is) = names_tokens (k + 1 + length (spell_range range)) names ++ item_tokens (k + length (spell_item (Registers range names))) is
item_tokens k (MemoryOf range name last ∷ is) = (k + 1 + length (spell_range range)) ∷ item_tokens (k + length (spell_item (MemoryOf range name last))) is
item_tokens k (Assign target value ∷ is) = item_tokens (k + length (spell_item (Assign target value))) is
item_tokens k (Always clock body ∷ is) = item_tokens (k + length (spell_item (Always clock body))) is

-- what items add to what was elaborated
pub record AddsItems (e : Elaborated) (done : List (List ℕ)) (is : List WrittenItem) (r : Elaborated) : Type 0 where
  pub assignments : List Assignment
  pub blocks : List Statement
  pub resolved : resolve_items e.scope.declarations is ≡ Some (record { declarations = r.scope.declarations; assignments = assignments; blocks = blocks })
  pub assigned' : r.assignments ≡ e.assignments ++ assignments
  pub blocked : r.blocks ≡ e.blocks ++ blocks
  pub targets : r.targets ≡ e.targets ++ assign_tokens e.end is
  pub scope' : Adds e.scope (added is) (item_tokens e.end is) r.scope
  pub drivers : Between r.drivers (done ++ targets_of is)

abbrev pub JudgesItems : List WrittenItem → Type 0
JudgesItems is = (e : Elaborated) (done : List (List ℕ)) → Between e.drivers done → Is (of_items e.scope.declarations done e.end is) (AddsItems e done is) (elaborated_items e is)

none_is : JudgesItems []
none_is e done b = (
  tt,
  record {
    assignments = [];
    blocks = [];
    resolved = refl;
    assigned' = sym (append-nil e.assignments);
    blocked = sym (append-nil e.blocks);
    targets = sym (append-nil e.targets);
    scope' = record { declarations = sym (append-nil e.scope.declarations); tokens = sym (append-nil e.scope.tokens) };
    drivers = subst (Between e.drivers) (sym (append-nil done)) b;
  },
)

-- ---- names

names_size : (n : List ℕ) (ns : List (List ℕ)) → length (spell_names (n ∷ ns)) + 1 ≡ 2 * length (n ∷ ns)
names_size n [] = omega arith
names_size n (m ∷ ns) = (let e : length (spell_names (m ∷ ns)) + 1 ≡ 2 * length (m ∷ ns) = names_size m ns in omega arith)

names_end : (k : ℕ) (range : Range) (names : List (List ℕ)) (w : Token) → IsNonempty names → k + 1 + length (spell_range range) + 2 * length names ≡ k + length (w ∷ (spell_range range ++ (spell_names names ++ Mark Semicolon ∷ [])))
names_end k range [] w h = absurd h
names_end k range (n ∷ ns) w h = (let b : length (spell_names (n ∷ ns)) + 1 ≡ 2 * length (n ∷ ns) = names_size n ns in
    omega (arith, length-append (spell_range range) (spell_names (n ∷ ns) ++ Mark Semicolon ∷ []), length-append (spell_names (n ∷ ns)) (Mark Semicolon ∷ [])))

adds_more : (s r x : Scope) (ds es : List Declaration) (ts us : List ℕ) → Adds s ds ts r → Adds r es us x → Adds s (ds ++ es) (ts ++ us) x
adds_more s r x ds es ts us a b = record {
  declarations = b.declarations ∙ ap (λ (l : List Declaration). l ++ es) a.declarations ∙ append_assoc s.declarations ds es;
  tokens = b.tokens ∙ ap (λ (l : List ℕ). l ++ us) a.tokens ∙ append_assoc s.tokens ts us;
}

-- an item by itself: what it declares and means, and where the next begins
pub record AddsItem (e : Elaborated) (done : List (List ℕ)) (i : WrittenItem) (ds : List Declaration) (ts us : List ℕ) (r : Elaborated) : Type 0 where
  pub assignments : List Assignment
  pub blocks : List Statement
  pub scope' : Adds e.scope ds ts r.scope
  pub meant : (is : List WrittenItem) (x : Resolved) → resolve_items (e.scope.declarations ++ ds) is ≡ Some x → resolve_items e.scope.declarations (i ∷ is) ≡ Some (record { declarations = x.declarations; assignments = assignments ++ x.assignments; blocks = blocks ++ x.blocks })
  pub assigned' : r.assignments ≡ e.assignments ++ assignments
  pub blocked : r.blocks ≡ e.blocks ++ blocks
  pub targets : r.targets ≡ e.targets ++ us
  pub end' : r.end ≡ e.end + length (spell_item i)
  pub drivers : Between r.drivers (done ++ targets_of (i ∷ []))

-- where the lists of a whole are those of an item and of the items behind it
pub record Splits (i : WrittenItem) (ds : List Declaration) (k : ℕ) (ts us : List ℕ) (is : List WrittenItem) : Type 0 where
  pub declarations : ds ++ added is ≡ added (i ∷ is)
  pub tokens : ts ++ item_tokens (k + length (spell_item i)) is ≡ item_tokens k (i ∷ is)
  pub targets : us ++ assign_tokens (k + length (spell_item i)) is ≡ assign_tokens k (i ∷ is)
  pub names : targets_of (i ∷ []) ++ targets_of is ≡ targets_of (i ∷ is)

join : (e x r : Elaborated) (done : List (List ℕ)) (i : WrittenItem) (is : List WrittenItem) (ds : List Declaration) (ts us : List ℕ) → AddsItem e done i ds ts us x → AddsItems x (done ++ targets_of (i ∷ [])) is r → Splits i ds e.end ts us is → AddsItems e done (i ∷ is) r
join e x r done i is ds ts us a c s = record {
  assignments = a.assignments ++ c.assignments;
  blocks = a.blocks ++ c.blocks;
  resolved = a.meant is (record { declarations = r.scope.declarations; assignments = c.assignments; blocks = c.blocks }) (ap (λ (l : List Declaration). resolve_items l is) (sym a.scope'.declarations) ∙ c.resolved);
  assigned' = c.assigned' ∙ ap (λ (l : List Assignment). l ++ c.assignments) a.assigned' ∙ append_assoc e.assignments a.assignments c.assignments;
  blocked = c.blocked ∙ ap (λ (l : List Statement). l ++ c.blocks) a.blocked ∙ append_assoc e.blocks a.blocks c.blocks;
  targets = c.targets ∙ ap (λ (l : List ℕ). l ++ assign_tokens x.end is) a.targets ∙ append_assoc e.targets us (assign_tokens x.end is) ∙ ap (λ (l : List ℕ). e.targets ++ l) (ap (λ (k : ℕ). us ++ assign_tokens k is) a.end' ∙ s.targets);
  scope' = (let m = adds_more e.scope x.scope r.scope ds (added is) ts (item_tokens x.end is) a.scope' c.scope' in record {
    declarations = m.declarations ∙ ap (λ (l : List Declaration). e.scope.declarations ++ l) s.declarations;
    tokens = m.tokens ∙ ap (λ (l : List ℕ). e.scope.tokens ++ l) (ap (λ (k : ℕ). ts ++ item_tokens k is) a.end' ∙ s.tokens);
  });
  drivers = subst (Between r.drivers) (append_assoc done (targets_of (i ∷ [])) (targets_of is) ∙ ap (λ (l : List (List ℕ)). done ++ l) s.names) c.drivers;
}

-- the demands of one item, and then those of the others
chain : (own : List Demand) (e : Elaborated) (done : List (List ℕ)) (i : WrittenItem) (is : List WrittenItem) (ds : List Declaration) (ts us : List ℕ) → Is own (AddsItem e done i ds ts us) (elaborated_item e i) → JudgesItems is → Splits i ds e.end ts us is
    → Is (own ++ of_items (e.scope.declarations ++ ds) (done ++ targets_of (i ∷ [])) (e.end + length (spell_item i)) is) (AddsItems e done (i ∷ is)) (elaborated_items e (i ∷ is))
chain own e done i is ds ts us h rest s = is_then own behind (AddsItem e done i ds ts us) (AddsItems e done (i ∷ is)) (elaborated_item e i) (λ x. elaborated_items x is) h (λ x a.
    is_as (of_items x.scope.declarations (done ++ targets_of (i ∷ [])) x.end is) behind (AddsItems e done (i ∷ is)) (elaborated_items x is)
    (ap (λ (l : List Declaration). of_items l (done ++ targets_of (i ∷ [])) x.end is) a.scope'.declarations ∙ ap (λ (k : ℕ). of_items (e.scope.declarations ++ ds) (done ++ targets_of (i ∷ [])) k is) a.end')
    (is_weaker (of_items x.scope.declarations (done ++ targets_of (i ∷ [])) x.end is) (AddsItems x (done ++ targets_of (i ∷ [])) is) (AddsItems e done (i ∷ is)) (elaborated_items x is) (λ r c. join e x r done i is ds ts us a c s) (rest x (done ++ targets_of (i ∷ [])) a.drivers)))
  where
    behind : List Demand
    behind = of_items (e.scope.declarations ++ ds) (done ++ targets_of (i ∷ [])) (e.end + length (spell_item i)) is

-- nothing has a driver by a declaration
kept : (v : Drivers) (done : List (List ℕ)) → Between v done → Between v (done ++ [])
kept v done b = subst (Between v) (sym (append-nil done)) b

-- ---- wires and registers

names_is : (kind : Kind) (range : Range) (names : List (List ℕ)) (i : WrittenItem) (e : Elaborated) (done : List (List ℕ)) → Between e.drivers done → (e.end + 1 + length (spell_range range) + 2 * length names ≡ e.end + length (spell_item i)) → (targets_of (i ∷ []) ≡ []) → ((is : List WrittenItem) → resolve_items e.scope.declarations (i ∷ is) ≡ resolve_items (e.scope.declarations ++ map (declare kind range) names) is)
    → Is (of_names kind range e.scope.declarations (e.end + 1 + length (spell_range range)) names) (AddsItem e done i (map (declare kind range) names) (names_tokens (e.end + 1 + length (spell_range range)) names) []) (elaborated_names kind range e names)
names_is kind range names i e done b size none means =
    is_mapped (of_names kind range e.scope.declarations (e.end + 1 + length (spell_range range)) names) (Adds e.scope (map (declare kind range) names) (names_tokens (e.end + 1 + length (spell_range range)) names)) Q (declared_all kind range e.scope (e.end + 1 + length (spell_range range)) names) (λ s. with_scope e s (e.end + 1 + length (spell_range range) + 2 * length names)) (all_declared_is kind range names e.scope (e.end + 1 + length (spell_range range))) (λ s a. record {
      assignments = [];
      blocks = [];
      scope' = a;
      meant = λ is x h. means is ∙ h;
      assigned' = sym (append-nil e.assignments);
      blocked = sym (append-nil e.blocks);
      targets = sym (append-nil e.targets);
      end' = size;
      drivers = subst (λ (l : List (List ℕ)). Between e.drivers (done ++ l)) (sym none) (kept e.drivers done b);
    })
  where
    Q : Elaborated → Type 0
    Q = AddsItem e done i (map (declare kind range) names) (names_tokens (e.end + 1 + length (spell_range range)) names) []

wires_are : (range : Range) (names : List (List ℕ)) (is : List WrittenItem) → IsNonempty names → JudgesItems is → JudgesItems (Wires range names ∷ is)
wires_are range names is h rest e done b =
    is_as (of_names Wire range e.scope.declarations (e.end + 1 + length (spell_range range)) names ++ of_items (e.scope.declarations ++ map (declare Wire range) names) (done ++ []) (e.end + length (spell_item (Wires range names))) is) (of_items e.scope.declarations done e.end (Wires range names ∷ is)) (AddsItems e done (Wires range names ∷ is)) _
    (ap (λ (l : List (List ℕ)). of_names Wire range e.scope.declarations (e.end + 1 + length (spell_range range)) names ++ of_items (e.scope.declarations ++ map (declare Wire range) names) l (e.end + length (spell_item (Wires range names))) is) (append-nil done))
    (chain (of_names Wire range e.scope.declarations (e.end + 1 + length (spell_range range)) names) e done (Wires range names) is (map (declare Wire range) names) (names_tokens (e.end + 1 + length (spell_range range)) names) []
    (names_is Wire range names (Wires range names) e done b (names_end e.end range names (Reserved WireWord) h) refl (λ js. refl)) rest (record { declarations = refl; tokens = refl; targets = refl; names = refl }))

registers_are : (range : Range) (names : List (List ℕ)) (is : List WrittenItem) → IsNonempty names → JudgesItems is → JudgesItems (Registers range names ∷ is)
registers_are range names is h rest e done b =
    is_as (of_names Register range e.scope.declarations (e.end + 1 + length (spell_range range)) names ++ of_items (e.scope.declarations ++ map (declare Register range) names) (done ++ []) (e.end + length (spell_item (Registers range names))) is) (of_items e.scope.declarations done e.end (Registers range names ∷ is)) (AddsItems e done (Registers range names ∷ is)) _
    (ap (λ (l : List (List ℕ)). of_names Register range e.scope.declarations (e.end + 1 + length (spell_range range)) names ++ of_items (e.scope.declarations ++ map (declare Register range) names) l (e.end + length (spell_item (Registers range names))) is) (append-nil done))
    (chain (of_names Register range e.scope.declarations (e.end + 1 + length (spell_range range)) names) e done (Registers range names) is (map (declare Register range) names) (names_tokens (e.end + 1 + length (spell_range range)) names) []
    (names_is Register range names (Registers range names) e done b (names_end e.end range names (Reserved RegWord) h) refl (λ js. refl)) rest (record { declarations = refl; tokens = refl; targets = refl; names = refl }))

-- ---- memories

memory_item : (range : Range) (name last : List ℕ) (e : Elaborated) (done : List (List ℕ)) → Between e.drivers done
    → Is (of_declaration e.scope.declarations (e.end + 1 + length (spell_range range)) (memory_declared range name last) ++ ask BadMemory (e.end + 1 + length (spell_range range)) (has_bits (address_bits_of (decimal_number last + 1))) ∷ [])
    (AddsItem e done (MemoryOf range name last) (memory_declared range name last ∷ []) ((e.end + 1 + length (spell_range range)) ∷ []) []) (elaborated_memory e range name last)
memory_item range name last e done b =
    is_mapped own (AddsMemory e.scope (e.end + 1 + length (spell_range range)) range name last) Q (declared_memory e.scope (e.end + 1 + length (spell_range range)) range name last) (λ s. with_scope e s (e.end + 1 + length (spell_range range) + 7)) (memory_is e.scope (e.end + 1 + length (spell_range range)) range name last) (λ s a.
    let same : declare (Memory a.bits) range name ≡ memory_declared range name last = ap (λ (o : Option ℕ). declare (Memory (option_map_or (λ j. j) o 0)) range name) (sym a.there) in
    record {
      assignments = [];
      blocks = [];
      scope' = record {
        declarations = ap (λ (r : Scope). r.declarations) a.adds ∙ ap (λ (d : Declaration). e.scope.declarations ++ d ∷ []) same;
        tokens = ap (λ (r : Scope). r.tokens) a.adds;
      };
      meant = λ is x h. ap (option_and_then (λ j. resolve_items (e.scope.declarations ++ declare (Memory j) range name ∷ []) is)) a.there ∙ ap (λ (d : Declaration). resolve_items (e.scope.declarations ++ d ∷ []) is) same ∙ h;
      assigned' = sym (append-nil e.assignments);
      blocked = sym (append-nil e.blocks);
      targets = sym (append-nil e.targets);
      end' = omega (arith, length-append (spell_range range) (Name name ∷ Mark OpenBracket ∷ Number zero_digit ∷ Mark Colon ∷ Number last ∷ Mark CloseBracket ∷ Mark Semicolon ∷ []));
      drivers = kept e.drivers done b;
    })
  where
    own : List Demand
    own = of_declaration e.scope.declarations (e.end + 1 + length (spell_range range)) (memory_declared range name last) ++ ask BadMemory (e.end + 1 + length (spell_range range)) (has_bits (address_bits_of (decimal_number last + 1))) ∷ []

    Q : Elaborated → Type 0
    Q = AddsItem e done (MemoryOf range name last) (memory_declared range name last ∷ []) ((e.end + 1 + length (spell_range range)) ∷ []) []

memories_are : (range : Range) (name last : List ℕ) (is : List WrittenItem) → JudgesItems is → JudgesItems (MemoryOf range name last ∷ is)
memories_are range name last is rest e done b =
    is_as (own ++ behind (done ++ [])) (of_items e.scope.declarations done e.end (MemoryOf range name last ∷ is)) (AddsItems e done (MemoryOf range name last ∷ is)) _ (ap (λ (l : List (List ℕ)). own ++ behind l) (append-nil done))
    (chain own e done (MemoryOf range name last) is (memory_declared range name last ∷ []) ((e.end + 1 + length (spell_range range)) ∷ []) [] (memory_item range name last e done b) rest (record { declarations = refl; tokens = refl; targets = refl; names = refl }))
  where
    own : List Demand
    own = of_declaration e.scope.declarations (e.end + 1 + length (spell_range range)) (memory_declared range name last) ++ ask BadMemory (e.end + 1 + length (spell_range range)) (has_bits (address_bits_of (decimal_number last + 1))) ∷ []

    behind : List (List ℕ) → List Demand
    behind l = of_items (e.scope.declarations ++ memory_declared range name last ∷ []) l (e.end + length (spell_item (MemoryOf range name last))) is

-- ---- assignments

assigned_between : (v : Drivers) (done : List (List ℕ)) (name : List ℕ) → Between v done → Between (assigned v name) (done ++ name ∷ [])
assigned_between v done name b = record {
  done' = λ n. among_with n v.done name ∙ ap (λ (x : Bool). x || bytes_eq n name) (b.done' n) ∙ sym (among_push n done name);
  all' = λ n. among_with n v.all name ∙ ap (λ (x : Bool). x || bytes_eq n name) (b.all' n) ∙ sym (among_push n done name);
  beside' = b.beside';
}

assign_item : (target : List ℕ) (value : WrittenExpr) (e : Elaborated) (done : List (List ℕ)) → Between e.drivers done
    → Is (of_expr e.scope.declarations (e.end + 3) value ++ ask Undeclared (e.end + 1) (is_declared e.scope.declarations target) ∷ ask BadTarget (e.end + 1) (is_so is_wire e.scope.declarations target)
    ∷ ask TwiceDriven (e.end + 1) (not (is_among target done)) ∷ ask WidthsDiffer (e.end + 1) (nat_eq (bits_named e.scope.declarations target) (bits_in e.scope.declarations value)) ∷ [])
    (AddsItem e done (Assign target value) [] [] ((e.end + 1) ∷ [])) (elaborated_assignment e target value)
assign_item target value e done b = is_then (of_expr ds (e.end + 3) value) own (Means ds (e.end + 3) value) Q (judged_expr ds (e.end + 3) value) next (judged_is ds value (e.end + 3)) (λ t m.
    is_then (ask Undeclared (e.end + 1) (is_declared ds target) ∷ []) (wired ∷ free ∷ wide ∷ []) (IsKnown ds target) Q (named ds (e.end + 1) target) (taken t) (named_is ds target (e.end + 1)) (λ d h.
    is_ask_as BadTarget (e.end + 1) (is_wire_kind d.kind) (is_so is_wire ds target) (free ∷ wide ∷ []) Q (asks TwiceDriven (e.end + 1) (not (is_among target e.drivers.done)) (asks WidthsDiffer (e.end + 1) (nat_eq d.width t.width) (Ok (with_assignment e (e.end + 1) target d.number t)))) (so_by is_wire ds target h.n h.d h.seen ∙ ap (λ (x : Known). is_wire_kind x.kind) (sym h.same)) (λ x.
    is_ask_as TwiceDriven (e.end + 1) (not (is_among target e.drivers.done)) (not (is_among target done)) (wide ∷ []) Q (asks WidthsDiffer (e.end + 1) (nat_eq d.width t.width) (Ok (with_assignment e (e.end + 1) target d.number t))) (ap not (sym (b.done' target))) (λ y.
    is_ask_as WidthsDiffer (e.end + 1) (nat_eq d.width t.width) (nat_eq (bits_named ds target) (bits_in ds value)) [] Q (Ok (with_assignment e (e.end + 1) target d.number t)) (rw (width_known ds target d h, m.width) refl) (λ z. (
      tt,
      record {
        assignments = record { target = d.number; value = t.expr } ∷ [];
        blocks = [];
        scope' = record { declarations = sym (append-nil ds); tokens = sym (append-nil e.scope.tokens) };
        meant = λ is x q.
            ap (λ (o : Option ℕ). three assignment_before o (resolve_expr ds value) (resolve_items ds is)) (h.seen.number ∙ ap (λ (n : ℕ). Some n) (sym (number_known ds target d h)))
            ∙ ap (λ (o : Option Expr). both (assignment_before d.number) o (resolve_items ds is)) m.meant
            ∙ ap (option_map (assignment_before d.number t.expr)) (ap (λ (l : List Declaration). resolve_items l is) (sym (append-nil ds)) ∙ q);
        assigned' = refl;
        blocked = sym (append-nil e.blocks);
        targets = refl;
        end' = (let w : t.end ≡ e.end + 3 + length (spell_expr value) = m.end' in omega (arith, length-append (spell_expr value) (Mark Semicolon ∷ [])));
        drivers = assigned_between e.drivers done target b;
      },
    ))))))
  where
    ds : List Declaration
    ds = e.scope.declarations

    wired : Demand
    wired = ask BadTarget (e.end + 1) (is_so is_wire ds target)

    free : Demand
    free = ask TwiceDriven (e.end + 1) (not (is_among target done))

    wide : Demand
    wide = ask WidthsDiffer (e.end + 1) (nat_eq (bits_named ds target) (bits_in ds value))

    own : List Demand
    own = ask Undeclared (e.end + 1) (is_declared ds target) ∷ wired ∷ free ∷ wide ∷ []

    Q : Elaborated → Type 0
    Q = AddsItem e done (Assign target value) [] [] ((e.end + 1) ∷ [])

    taken : Typed → Known → Result Elaborated Broken
    taken t d = asks BadTarget (e.end + 1) (is_wire_kind d.kind) (asks TwiceDriven (e.end + 1) (not (is_among target e.drivers.done)) (asks WidthsDiffer (e.end + 1) (nat_eq d.width t.width) (Ok (with_assignment e (e.end + 1) target d.number t))))

    next : Typed → Result Elaborated Broken
    next t = then' (named ds (e.end + 1) target) (taken t)

-- ---- blocks

begins_same : (v : Drivers) (done : List (List ℕ)) → Between v done → Same (block_begins v) done [] []
begins_same v done b = record { done' = b.done'; all' = λ n. b.all' n ∙ or_none (is_among n done); beside' = b.beside'; before' = refl }
  where
    or_none : (a : Bool) → a ≡ (a || false)
    or_none true = refl
    or_none false = refl

ends_between : (v : Drivers) (done ts : List (List ℕ)) → Leaves v done ts → ((n : List ℕ) → is_among n v.beside ≡ false) → Between (block_ends v) (done ++ ts)
ends_between v done ts l k = record {
  done' = λ n. among_all n v.before v.done ∙ ap (λ (xs : List (List ℕ)). is_among n v.done || is_among n xs) l.before' ∙ ap (λ (x : Bool). x || is_among n ts) (l.done' n) ∙ sym (among_join n done ts);
  all' = λ n. l.all' n ∙ sym (among_join n done ts);
  beside' = k;
}

block_item : (clock : List ℕ) (body : WrittenStatement) (e : Elaborated) (done : List (List ℕ)) → IsStatementAt Single body → Between e.drivers done
    → Is (ask Undeclared (e.end + 4) (is_declared e.scope.declarations clock) ∷ ask ClockRead (e.end + 4) (is_clock_name clock) ∷ ask BadMemory (e.end + 4) (not (is_so is_memory e.scope.declarations clock)) ∷ of_statement e.scope.declarations done [] [] (e.end + 6) body)
    (AddsItem e done (Always clock body) [] [] []) (elaborated_block e clock body)
block_item clock body e done g b =
    is_then (ask Undeclared (e.end + 4) (is_declared ds clock) ∷ []) (ask ClockRead (e.end + 4) (is_clock_name clock) ∷ ask BadMemory (e.end + 4) (not (is_so is_memory ds clock)) ∷ of_statement ds done [] [] (e.end + 6) body) (IsKnown ds clock) Q (named ds (e.end + 4) clock) (λ d. asks ClockRead (e.end + 4) (is_clock_name clock) (asks BadMemory (e.end + 4) (not (is_memory_kind d.kind)) made)) (named_is ds clock (e.end + 4)) (λ d h.
    is_ask ClockRead (e.end + 4) (is_clock_name clock) (ask BadMemory (e.end + 4) (not (is_so is_memory ds clock)) ∷ of_statement ds done [] [] (e.end + 6) body) Q (asks BadMemory (e.end + 4) (not (is_memory_kind d.kind)) made) (λ c.
    is_ask_as BadMemory (e.end + 4) (not (is_memory_kind d.kind)) (not (is_so is_memory ds clock)) (of_statement ds done [] [] (e.end + 6) body) Q made (ap not (kind_so ds clock d h)) (λ m.
    is_mapped (of_statement ds done [] [] (e.end + 6) body) (Says ds Single done [] [] (e.end + 6) body) Q (judged_in ds (block_begins e.drivers) (e.end + 6) body) (λ s. with_block e s) (statement_is ds done Single body g (e.end + 6) (block_begins e.drivers) [] [] (begins_same e.drivers done b)) (λ s a. record {
      assignments = [];
      blocks = s.statement ∷ [];
      scope' = record { declarations = sym (append-nil ds); tokens = sym (append-nil e.scope.tokens) };
      meant = λ is x q.
          ap (λ (o : Option ℕ). three block_before o (resolve_statement ds body) (resolve_items ds is)) (clock_there d h c m)
          ∙ ap (λ (o : Option Statement). both (block_before h.n) o (resolve_items ds is)) a.meant
          ∙ ap (option_map (block_before h.n s.statement)) (ap (λ (l : List Declaration). resolve_items l is) (sym (append-nil ds)) ∙ q);
      assigned' = sym (append-nil e.assignments);
      blocked = refl;
      targets = sym (append-nil e.targets);
      end' = (let w : s.end ≡ e.end + 6 + length (spell_statement body) = a.end' in omega arith);
      drivers = subst (λ (l : List (List ℕ)). Between (block_ends s.drivers) (done ++ l)) (sym (append-nil (targets_in body))) (ends_between s.drivers done (targets_in body) a.leaves a.keeps);
    }))))
  where
    ds : List Declaration
    ds = e.scope.declarations

    Q : Elaborated → Type 0
    Q = AddsItem e done (Always clock body) [] [] []

    made : Result Elaborated Broken
    made = then' (judged_in ds (block_begins e.drivers) (e.end + 6) body) (λ s. Ok (with_block e s))

    clock_there : (d : Known) (h : IsKnown ds clock d) → is_clock_name clock ≡ true → not (is_memory_kind d.kind) ≡ true → clocked ds clock ≡ Some h.n
    clock_there d h c m = (let no : is_so is_memory ds clock ≡ false = kind_so ds clock d h ∙ not-true (is_memory_kind d.kind) m in rw (c, no) h.seen.number)

assigns_are : (target : List ℕ) (value : WrittenExpr) (is : List WrittenItem) → JudgesItems is → JudgesItems (Assign target value ∷ is)
assigns_are target value is rest e done b =
    is_as (own ++ of_items (e.scope.declarations ++ []) (done ++ target ∷ []) (e.end + length (spell_item (Assign target value))) is) (of_items e.scope.declarations done e.end (Assign target value ∷ is)) (AddsItems e done (Assign target value ∷ is)) _
    (ap (λ (l : List Declaration). own ++ of_items l (done ++ target ∷ []) (e.end + length (spell_item (Assign target value))) is) (append-nil e.scope.declarations) ∙ append_assoc (of_expr e.scope.declarations (e.end + 3) value) _ (of_items e.scope.declarations (done ++ target ∷ []) (e.end + length (spell_item (Assign target value))) is))
    (chain own e done (Assign target value) is [] [] ((e.end + 1) ∷ []) (assign_item target value e done b) rest (record { declarations = refl; tokens = refl; targets = refl; names = refl }))
  where
    own : List Demand
    own = of_expr e.scope.declarations (e.end + 3) value ++ ask Undeclared (e.end + 1) (is_declared e.scope.declarations target) ∷ ask BadTarget (e.end + 1) (is_so is_wire e.scope.declarations target)
        ∷ ask TwiceDriven (e.end + 1) (not (is_among target done)) ∷ ask WidthsDiffer (e.end + 1) (nat_eq (bits_named e.scope.declarations target) (bits_in e.scope.declarations value)) ∷ []

blocks_are : (clock : List ℕ) (body : WrittenStatement) (is : List WrittenItem) → IsStatementAt Single body → JudgesItems is → JudgesItems (Always clock body ∷ is)
blocks_are clock body is g rest e done b =
    is_as (own ++ behind (e.scope.declarations ++ []) (done ++ (targets_in body ++ []))) (of_items e.scope.declarations done e.end (Always clock body ∷ is)) (AddsItems e done (Always clock body ∷ is)) _
    (ap (λ (l : List Declaration). own ++ behind l (done ++ (targets_in body ++ []))) (append-nil e.scope.declarations) ∙ ap (λ (l : List (List ℕ)). own ++ behind e.scope.declarations (done ++ l)) (append-nil (targets_in body)))
    (chain own e done (Always clock body) is [] [] [] (block_item clock body e done g b) rest (record { declarations = refl; tokens = refl; targets = refl; names = ap (λ (l : List (List ℕ)). l ++ targets_of is) (append-nil (targets_in body)) }))
  where
    own : List Demand
    own = ask Undeclared (e.end + 4) (is_declared e.scope.declarations clock) ∷ ask ClockRead (e.end + 4) (is_clock_name clock) ∷ ask BadMemory (e.end + 4) (not (is_so is_memory e.scope.declarations clock)) ∷ of_statement e.scope.declarations done [] [] (e.end + 6) body

    behind : List Declaration → List (List ℕ) → List Demand
    behind l m = of_items l m (e.end + length (spell_item (Always clock body))) is

-- ---- all items

pub items_are : (items : List WrittenItem) → AllByRecursion IsItem items → JudgesItems items
items_are [] g = none_is
items_are (Wires range names ∷ is) g = wires_are range names is g.0 (items_are is g.1)
items_are (Registers range names ∷ is) g = registers_are range names is g.0 (items_are is g.1)
items_are (MemoryOf range name last ∷ is) g = memories_are range name last is (items_are is g.1)
items_are (Assign target value ∷ is) g = assigns_are target value is (items_are is g.1)
items_are (Always clock body ∷ is) g = blocks_are clock body is g.0 (items_are is g.1)
