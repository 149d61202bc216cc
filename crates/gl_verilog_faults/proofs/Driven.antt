-- One driver each gives free targets, and the other way round.
use Rattle.std.proofs.Common.{◌≡◌, ℕ, ◌+◌, ◌-◌, ◌≤◌, inl, inr, Bool, true, false, List, [], ◌∷◌, ◌++◌, map, Some, refl, sym, subst, ◌∙◌, arith, append_assoc}
use Rattle.std.specs.Prelude.{◌&&◌, not, slice_get, if◌then◌else◌}
use Rattle.std.specs.Str.{bytes_eq}
use Rattle.std.proofs.lemmas.Bool.{false_from_ne_true, or_left, or_right, not_from_false, and_from, both_ways}
use Rattle.gl_verilog.specs.Written.{WrittenExpr, WrittenStatement, Update, UpdateWord, IfThen, IfElse, Block, Listed, Ended, WrittenItem, Wires, Registers, MemoryOf, Assign, Always}
use Rattle.gl_verilog.specs.Module.{Declaration, Kind, Input, OutputWire, OutputRegister, Wire, Register, Memory, Statement, Nothing, Put, Write, Both, If, number_of}
use Rattle.gl_verilog.specs.Run.{IsRegister}
use Rattle.gl_verilog.specs.Widths.{IsDriven, IsMemory, width_of, KeepsWidthsIn}
use Rattle.gl_verilog.specs.Valid.{AreDistinct}
use Rattle.gl_verilog.specs.Resolve.{Resolved, with_assignment, with_block, clocked, decimal_number, declare, address_bits_of, resolve_expr, resolve_statement, resolve_items, is_memory_kind}
use Rattle.gl_verilog.proofs.Runs.{register_undriven}
use Rattle.gl_verilog_faults.specs.Demands.{is_among, targets_in, memory_declared}
use Rattle.gl_verilog_faults.proofs.Names.{seen_number, Extends}
use Rattle.gl_verilog_faults.proofs.Expressions.{at_some}
use Rattle.gl_verilog_faults.proofs.Operators.{both_some, three_some, kind_memory}
use Rattle.gl_verilog_faults.proofs.Statements.{Free}
use Rattle.gl_verilog_faults.proofs.Items.{added, extends_by, memory-is, FreeItems, KeptItems, kept_at}
use Rattle.gl_verilog_faults.proofs.Counts.{hits, fills, Once, assigned_in, hit_in, filled_in, OnceIn, same, same_items, assigned_kind, written_kind, driven_kind, blocks_kind, writes_kind}
use Rattle.gl_verilog_faults.proofs.Drivers.{same_among, not_among, one_among, true_count, touched}
use Rattle.gl_bits.proofs.Options.{then_some}

-- ---- kinds exclude one another

pub register_memory : (k : Kind) → IsRegister k → is_memory_kind k ≡ true → ⊥
register_memory Input h e = h
register_memory OutputWire h e = h
register_memory OutputRegister h e = absurd cc
register_memory Wire h e = h
register_memory Register h e = absurd cc
register_memory (Memory bits) h e = h

pub driven_memory : (k : Kind) → IsDriven k → is_memory_kind k ≡ true → ⊥
driven_memory Input h e = h
driven_memory OutputWire h e = absurd cc
driven_memory OutputRegister h e = h
driven_memory Wire h e = absurd cc
driven_memory Register h e = h
driven_memory (Memory bits) h e = h

-- ---- room for the drivers of a name

pub record RoomAt (k : Kind) (q : List ℕ) (done before beside : List (List ℕ)) (s : WrittenStatement) : Type 0 where
  pub hit_done : IsRegister k → hits q s ≡ true → is_among q done ≡ false
  pub hit_beside : IsRegister k → hits q s ≡ true → is_among q beside ≡ false
  pub once : IsRegister k → Once q s
  pub fill_done : is_memory_kind k ≡ true → 1 ≤ fills q s → is_among q done ≡ false
  pub fill_before : is_memory_kind k ≡ true → 1 ≤ fills q s → is_among q before ≡ false
  pub most : is_memory_kind k ≡ true → fills q s ≤ 1

pub record RoomFor (k : Kind) (q : List ℕ) (done : List (List ℕ)) (items : List WrittenItem) : Type 0 where
  pub assigned_done : IsDriven k → 1 ≤ assigned_in q items → is_among q done ≡ false
  pub assigned_most : IsDriven k → assigned_in q items ≤ 1
  pub hit_done : IsRegister k → 1 ≤ hit_in q items → is_among q done ≡ false
  pub hit_most : IsRegister k → hit_in q items ≤ 1
  pub once : IsRegister k → OnceIn q items
  pub fill_done : is_memory_kind k ≡ true → 1 ≤ filled_in q items → is_among q done ≡ false
  pub fill_most : is_memory_kind k ≡ true → filled_in q items ≤ 1

both_true : (a b : Bool) → a ≡ true → b ≡ true → (a && b) ≡ false → ⊥
both_true a b e f h = both_ways (a && b) h (and_from a b e f)

module _ (all : List Declaration) (distinct : AreDistinct all) where
  abbrev RoomIn : List (List ℕ) → List (List ℕ) → List (List ℕ) → WrittenStatement → Type 0
  RoomIn done before beside s = (n : ℕ) (d : Declaration) → slice_get all n ≡ Some d → RoomAt d.kind d.name done before beside s

  abbrev Room : List (List ℕ) → List WrittenItem → Type 0
  Room done items = (n : ℕ) (d : Declaration) → slice_get all n ≡ Some d → RoomFor d.kind d.name done items

  module _ (ds : List Declaration) (ext : Extends ds all) where
    hit_kind : (s : WrittenStatement) (x : Statement) → resolve_statement ds s ≡ Some x → KeepsWidthsIn all x → (n : ℕ) (d : Declaration) → slice_get all n ≡ Some d → hits d.name s ≡ true → IsRegister d.kind
    hit_kind s x r k n d at h = assigned_kind all distinct n d at x k ((same all distinct n d at ds ext s x r).hit ∙ h)

    fill_kind : (s : WrittenStatement) (x : Statement) → resolve_statement ds s ≡ Some x → KeepsWidthsIn all x → (n : ℕ) (d : Declaration) → slice_get all n ≡ Some d → 1 ≤ fills d.name s → is_memory_kind d.kind ≡ true
    fill_kind s x r k n d at h = written_kind all distinct n d at x k (rw ((same all distinct n d at ds ext s x r).fill) h)

    -- a register that a later statement assigns is no target of one before it
    no_hit : (a : WrittenStatement) (x : Statement) → resolve_statement ds a ≡ Some x → KeepsWidthsIn all x → (n : ℕ) (d : Declaration) → slice_get all n ≡ Some d → IsRegister d.kind → (hits d.name a ≡ true → ⊥) → is_among d.name (targets_in a) ≡ false
    no_hit a x r k n d at g f = false_from_ne_true (is_among d.name (targets_in a)) (λ h. elim (touched d.name a h) [ inl p ↦ f p | inr p ↦ register_memory d.kind g (fill_kind a x r k n d at p) ])

    no_fill : (a : WrittenStatement) (x : Statement) → resolve_statement ds a ≡ Some x → KeepsWidthsIn all x → (n : ℕ) (d : Declaration) → slice_get all n ≡ Some d → is_memory_kind d.kind ≡ true → (1 ≤ fills d.name a → ⊥) → is_among d.name (targets_in a) ≡ false
    no_fill a x r k n d at g f = false_from_ne_true (is_among d.name (targets_in a)) (λ h. elim (touched d.name a h) [ inl p ↦ register_memory d.kind (hit_kind a x r k n d at p) g | inr p ↦ f p ])

    room_first : (done before beside : List (List ℕ)) (a b : WrittenStatement) → RoomIn done before beside (Listed a b) → RoomIn done before beside a
    room_first done before beside a b f n d at = let r = f n d at in record {
      hit_done = λ g h. r.hit_done g (or_left (hits d.name a) (hits d.name b) h);
      hit_beside = λ g h. r.hit_beside g (or_left (hits d.name a) (hits d.name b) h);
      once = λ g. (r.once g).1;
      fill_done = λ g h. r.fill_done g (omega arith);
      fill_before = λ g h. r.fill_before g (omega arith);
      most = λ g. (let m : fills d.name a + fills d.name b ≤ 1 = r.most g in omega arith);
    }

    room_rest : (done before beside : List (List ℕ)) (a b : WrittenStatement) (x : Statement) → resolve_statement ds a ≡ Some x → KeepsWidthsIn all x → RoomIn done before beside (Listed a b) → RoomIn done (before ++ targets_in a) (beside ++ targets_in a) b
    room_rest done before beside a b x q k f n d at = let r = f n d at in record {
      hit_done = λ g h. r.hit_done g (or_right (hits d.name a) (hits d.name b) h);
      hit_beside = λ g h. not_among d.name beside (targets_in a) (r.hit_beside g (or_right (hits d.name a) (hits d.name b) h)) (no_hit a x q k n d at g (λ p. both_true (hits d.name a) (hits d.name b) p h (r.once g).0));
      once = λ g. (r.once g).2;
      fill_done = λ g h. r.fill_done g (omega arith);
      fill_before = λ g h. not_among d.name before (targets_in a) (r.fill_before g (omega arith)) (no_fill a x q k n d at g (λ p. (let m : fills d.name a + fills d.name b ≤ 1 = r.most g in omega arith)));
      most = λ g. (let m : fills d.name a + fills d.name b ≤ 1 = r.most g in omega arith);
    }

    room_yes : (done before beside : List (List ℕ)) (test : WrittenExpr) (a b : WrittenStatement) → RoomIn done before beside (IfElse test a b) → RoomIn done before beside a
    room_yes done before beside test a b f n d at = let r = f n d at in record {
      hit_done = λ g h. r.hit_done g (or_left (hits d.name a) (hits d.name b) h);
      hit_beside = λ g h. r.hit_beside g (or_left (hits d.name a) (hits d.name b) h);
      once = λ g. (r.once g).0;
      fill_done = λ g h. r.fill_done g (omega arith);
      fill_before = λ g h. r.fill_before g (omega arith);
      most = λ g. (let m : fills d.name a + fills d.name b ≤ 1 = r.most g in omega arith);
    }

    room_no : (done before beside : List (List ℕ)) (test : WrittenExpr) (a b : WrittenStatement) (x : Statement) → resolve_statement ds a ≡ Some x → KeepsWidthsIn all x → RoomIn done before beside (IfElse test a b) → RoomIn done (before ++ targets_in a) beside b
    room_no done before beside test a b x q k f n d at = let r = f n d at in record {
      hit_done = λ g h. r.hit_done g (or_right (hits d.name a) (hits d.name b) h);
      hit_beside = λ g h. r.hit_beside g (or_right (hits d.name a) (hits d.name b) h);
      once = λ g. (r.once g).1;
      fill_done = λ g h. r.fill_done g (omega arith);
      fill_before = λ g h. not_among d.name before (targets_in a) (r.fill_before g (omega arith)) (no_fill a x q k n d at g (λ p. (let m : fills d.name a + fills d.name b ≤ 1 = r.most g in omega arith)));
      most = λ g. (let m : fills d.name a + fills d.name b ≤ 1 = r.most g in omega arith);
    }

    room_then : (done before beside : List (List ℕ)) (test : WrittenExpr) (a : WrittenStatement) → RoomIn done before beside (IfThen test a) → RoomIn done before beside a
    room_then done before beside test a f n d at = let r = f n d at in record {
      hit_done = λ g h. r.hit_done g (or_left (hits d.name a) false h);
      hit_beside = λ g h. r.hit_beside g (or_left (hits d.name a) false h);
      once = λ g. (r.once g).0;
      fill_done = λ g h. r.fill_done g (omega arith);
      fill_before = λ g h. r.fill_before g (omega arith);
      most = λ g. (let m : fills d.name a + 0 ≤ 1 = r.most g in omega arith);
    }

    room_block : (done before beside : List (List ℕ)) (a : WrittenStatement) → RoomIn done before beside (Block a) → RoomIn done before beside a
    room_block done before beside a f n d at = let r = f n d at in record { hit_done = r.hit_done; hit_beside = r.hit_beside; once = r.once; fill_done = r.fill_done; fill_before = r.fill_before; most = r.most }

    kept_as : (x y : Statement) → x ≡ y → KeepsWidthsIn all x → KeepsWidthsIn all y
    kept_as x y e k = subst (KeepsWidthsIn all) e k

    absent : (q t : List ℕ) (names : List (List ℕ)) → bytes_eq q t ≡ true → is_among q names ≡ false → not (is_among t names) ≡ true
    absent q t names e h = not_from_false (is_among t names) (same_among q t names e ∙ h)

    pub free_in : (done : List (List ℕ)) (s : WrittenStatement) (x : Statement) (before beside : List (List ℕ)) → resolve_statement ds s ≡ Some x → KeepsWidthsIn all x → RoomIn done before beside s → Free done before beside s
    free_in done (Update target value) x before beside r k f =
        let m = both_some Put (number_of ds target) (resolve_expr ds value) x r in
        let k' = kept_as x (Put m.0 m.1) m.4 k in
        let s = seen_number ds target m.0 m.2 in
        let at = ext m.0 s.0 s.1.at in
        let g : IsRegister s.0.kind × (width_of all m.1 ≡ s.0.width) = at_some (slice_get all m.0) s.0 (λ d. IsRegister d.kind × (width_of all m.1 ≡ d.width)) at k'.0 in
        let c = f m.0 s.0 at in
        and_from (not (is_among target done)) (not (is_among target beside)) (absent s.0.name target done s.1.named (c.hit_done g.0 s.1.named)) (absent s.0.name target beside s.1.named (c.hit_beside g.0 s.1.named))
    free_in done (UpdateWord target address value) x before beside r k f =
        let m = three_some Write (number_of ds target) (resolve_expr ds address) (resolve_expr ds value) x r in
        let k' = kept_as x (Write m.0 m.1 m.2) m.6 k in
        let s = seen_number ds target m.0 m.3 in
        let at = ext m.0 s.0 s.1.at in
        let g : IsMemory s.0.kind (width_of all m.1) × (width_of all m.2 ≡ s.0.width) = at_some (slice_get all m.0) s.0 (λ d. IsMemory d.kind (width_of all m.1) × (width_of all m.2 ≡ d.width)) at k'.0 in
        let kind = (kind_memory s.0.kind (width_of all m.1) g.0).0 in
        let one : 1 ≤ (if bytes_eq s.0.name target then 1 else 0) = true_count (bytes_eq s.0.name target) s.1.named in
        let c = f m.0 s.0 at in
        and_from (not (is_among target done)) (not (is_among target before)) (absent s.0.name target done s.1.named (c.fill_done kind one)) (absent s.0.name target before s.1.named (c.fill_before kind one))
    free_in done (IfThen test yes') x before beside r k f =
        let m = both_some (λ c y. If c y Nothing) (resolve_expr ds test) (resolve_statement ds yes') x r in
        let k' = kept_as x (If m.0 m.1 Nothing) m.4 k in
        free_in done yes' m.1 before beside m.3 k'.2 (room_then done before beside test yes' f)
    free_in done (IfElse test yes' no') x before beside r k f =
        let m = three_some If (resolve_expr ds test) (resolve_statement ds yes') (resolve_statement ds no') x r in
        let k' = kept_as x (If m.0 m.1 m.2) m.6 k in
        (free_in done yes' m.1 before beside m.4 k'.2 (room_yes done before beside test yes' no' f), free_in done no' m.2 (before ++ targets_in yes') beside m.5 k'.3 (room_no done before beside test yes' no' m.1 m.4 k'.2 f))
    free_in done (Block statements) x before beside r k f = free_in done statements x before beside r k (room_block done before beside statements f)
    free_in done (Listed first rest) x before beside r k f =
        let m = both_some Both (resolve_statement ds first) (resolve_statement ds rest) x r in
        let k' = kept_as x (Both m.0 m.1) m.4 k in
        (free_in done first m.0 before beside m.2 k'.0 (room_first done before beside first rest f), free_in done rest m.1 (before ++ targets_in first) (beside ++ targets_in first) m.3 k'.1 (room_rest done before beside first rest m.0 m.2 k'.0 f))
    free_in done Ended x before beside r k f = tt

  -- ---- items

  module _ (ds : List Declaration) (items : List WrittenItem) (r : Resolved) (e : all ≡ ds ++ added items) (q : resolve_items ds items ≡ Some r) (k : KeptItems all r) (n : ℕ) (d : Declaration) (at : slice_get all n ≡ Some d) where
    pub assigned_in_kind : 1 ≤ assigned_in d.name items → IsDriven d.kind
    assigned_in_kind h = driven_kind all distinct n d at r.assignments k.assignments (rw ((same_items all distinct n d at items ds r e q).assigned) h)

    pub hit_in_kind : 1 ≤ hit_in d.name items → IsRegister d.kind
    hit_in_kind h = blocks_kind all distinct n d at r.blocks k.blocks (rw ((same_items all distinct n d at items ds r e q).hit) h)

    pub filled_in_kind : 1 ≤ filled_in d.name items → is_memory_kind d.kind ≡ true
    filled_in_kind h = writes_kind all distinct n d at r.blocks k.blocks (rw ((same_items all distinct n d at items ds r e q).fill) h)

  alone : (q t : List ℕ) → (bytes_eq q t ≡ true → ⊥) → is_among q (t ∷ []) ≡ false
  alone q t f = false_from_ne_true (is_among q (t ∷ [])) (λ h. f (one_among q t h))

  room_assign : (ds : List Declaration) (done : List (List ℕ)) (target : List ℕ) (value : WrittenExpr) (is : List WrittenItem) (r : Resolved) → all ≡ ds ++ added is → resolve_items ds (Assign target value ∷ is) ≡ Some r → KeptItems all r → Room done (Assign target value ∷ is) → Room (done ++ target ∷ []) is
  room_assign ds done target value is r e q k f n d at =
      let c = f n d at in
      let wire : (bytes_eq d.name target ≡ true → IsDriven d.kind) = λ p. assigned_in_kind ds (Assign target value ∷ is) r e q k n d at (let t : 1 ≤ (if bytes_eq d.name target then 1 else 0) = true_count (bytes_eq d.name target) p in omega arith) in
      record {
        assigned_done = λ g h. not_among d.name done (target ∷ []) (c.assigned_done g (omega arith)) (alone d.name target (λ p. (let t : 1 ≤ (if bytes_eq d.name target then 1 else 0) = true_count (bytes_eq d.name target) p in let m : (if bytes_eq d.name target then 1 else 0) + assigned_in d.name is ≤ 1 = c.assigned_most g in omega arith)));
        assigned_most = λ g. (let m : (if bytes_eq d.name target then 1 else 0) + assigned_in d.name is ≤ 1 = c.assigned_most g in omega arith);
        hit_done = λ g h. not_among d.name done (target ∷ []) (c.hit_done g h) (alone d.name target (λ p. register_undriven d.kind g (wire p)));
        hit_most = c.hit_most;
        once = c.once;
        fill_done = λ g h. not_among d.name done (target ∷ []) (c.fill_done g h) (alone d.name target (λ p. driven_memory d.kind (wire p) g));
        fill_most = c.fill_most;
      }

  untouched : (q : List ℕ) (s : WrittenStatement) → (hits q s ≡ true → ⊥) → (1 ≤ fills q s → ⊥) → is_among q (targets_in s) ≡ false
  untouched q s f g = false_from_ne_true (is_among q (targets_in s)) (λ h. elim (touched q s h) [ inl p ↦ f p | inr p ↦ g p ])

  room_always : (ds : List Declaration) (done : List (List ℕ)) (clock : List ℕ) (body : WrittenStatement) (is : List WrittenItem) (r : Resolved) → all ≡ ds ++ added is → resolve_items ds (Always clock body ∷ is) ≡ Some r → KeptItems all r → Room done (Always clock body ∷ is) → Room (done ++ targets_in body) is
  room_always ds done clock body is r e q k f n d at =
      let c = f n d at in
      let reg : (hits d.name body ≡ true → IsRegister d.kind) = λ p. hit_in_kind ds (Always clock body ∷ is) r e q k n d at (let t : 1 ≤ (if hits d.name body then 1 else 0) = true_count (hits d.name body) p in omega arith) in
      let mem : (1 ≤ fills d.name body → is_memory_kind d.kind ≡ true) = λ p. filled_in_kind ds (Always clock body ∷ is) r e q k n d at (omega arith) in
      record {
        assigned_done = λ g h. not_among d.name done (targets_in body) (c.assigned_done g h) (untouched d.name body (λ p. register_undriven d.kind (reg p) g) (λ p. driven_memory d.kind g (mem p)));
        assigned_most = c.assigned_most;
        hit_done = λ g h. not_among d.name done (targets_in body) (c.hit_done g (omega arith)) (untouched d.name body (λ p. (let t : 1 ≤ (if hits d.name body then 1 else 0) = true_count (hits d.name body) p in let m : (if hits d.name body then 1 else 0) + hit_in d.name is ≤ 1 = c.hit_most g in omega arith)) (λ p. register_memory d.kind g (mem p)));
        hit_most = λ g. (let m : (if hits d.name body then 1 else 0) + hit_in d.name is ≤ 1 = c.hit_most g in omega arith);
        once = λ g. (c.once g).1;
        fill_done = λ g h. not_among d.name done (targets_in body) (c.fill_done g (omega arith)) (untouched d.name body (λ p. register_memory d.kind (reg p) g) (λ p. (let m : fills d.name body + filled_in d.name is ≤ 1 = c.fill_most g in omega arith)));
        fill_most = λ g. (let m : fills d.name body + filled_in d.name is ≤ 1 = c.fill_most g in omega arith);
      }

  room_body : (done : List (List ℕ)) (clock : List ℕ) (body : WrittenStatement) (is : List WrittenItem) → Room done (Always clock body ∷ is) → RoomIn done [] [] body
  room_body done clock body is f n d at = let c = f n d at in record {
    hit_done = λ g h. c.hit_done g (let t : 1 ≤ (if hits d.name body then 1 else 0) = true_count (hits d.name body) h in omega arith);
    hit_beside = λ g h. refl;
    once = λ g. (c.once g).0;
    fill_done = λ g h. c.fill_done g (omega arith);
    fill_before = λ g h. refl;
    most = λ g. (let m : fills d.name body + filled_in d.name is ≤ 1 = c.fill_most g in omega arith);
  }

  room_same : (done : List (List ℕ)) (i : WrittenItem) (is : List WrittenItem) → Room done (i ∷ is) → ((q : List ℕ) → (assigned_in q (i ∷ is) ≡ assigned_in q is) × (hit_in q (i ∷ is) ≡ hit_in q is) × (filled_in q (i ∷ is) ≡ filled_in q is) × (OnceIn q (i ∷ is) → OnceIn q is)) → Room done is
  room_same done i is f same' n d at = let c = f n d at in let s = same' d.name in record {
    assigned_done = λ g h. c.assigned_done g (rw s.0 h);
    assigned_most = λ g. rw s.0 at (c.assigned_most g);
    hit_done = λ g h. c.hit_done g (rw s.1 h);
    hit_most = λ g. rw s.1 at (c.hit_most g);
    once = λ g. s.3 (c.once g);
    fill_done = λ g h. c.fill_done g (rw s.2 h);
    fill_most = λ g. rw s.2 at (c.fill_most g);
  }

  pub free_items : (items : List WrittenItem) (ds : List Declaration) (done : List (List ℕ)) (r : Resolved) → all ≡ ds ++ added items → resolve_items ds items ≡ Some r → KeptItems all r → Room done items → FreeItems done items
  free_items [] ds done r e q k f = tt
  free_items (Wires range names ∷ is) ds done r e q k f = free_items is (ds ++ map (declare Wire range) names) done r (e ∙ sym (append_assoc ds (map (declare Wire range) names) (added is))) q k (room_same done (Wires range names) is f (λ t. (refl, refl, refl, λ h. h)))
  free_items (Registers range names ∷ is) ds done r e q k f = free_items is (ds ++ map (declare Register range) names) done r (e ∙ sym (append_assoc ds (map (declare Register range) names) (added is))) q k (room_same done (Registers range names) is f (λ t. (refl, refl, refl, λ h. h)))
  free_items (MemoryOf range name last ∷ is) ds done r e q k f =
      let m = then_some (λ (j : ℕ). resolve_items (ds ++ declare (Memory j) range name ∷ []) is) (address_bits_of (decimal_number last + 1)) r q in
      let q' : resolve_items (ds ++ memory_declared range name last ∷ []) is ≡ Some r = subst (λ (c : Declaration). resolve_items (ds ++ c ∷ []) is ≡ Some r) (sym (memory-is range name last m.0 m.1)) m.2 in
      free_items is (ds ++ memory_declared range name last ∷ []) done r (e ∙ sym (append_assoc ds (memory_declared range name last ∷ []) (added is))) q' k (room_same done (MemoryOf range name last) is f (λ t. (refl, refl, refl, λ h. h)))
  free_items (Assign target value ∷ is) ds done r e q k f =
      let m = three_some with_assignment (number_of ds target) (resolve_expr ds value) (resolve_items ds is) r q in
      let k' = kept_at all r (with_assignment m.0 m.1 m.2) m.6 k in
      let s = seen_number ds target m.0 m.3 in
      let at = extends_by ds (added is) all e m.0 s.0 s.1.at in
      let g : IsDriven s.0.kind × (width_of all m.1 ≡ s.0.width) = at_some (slice_get all m.0) s.0 (λ d. IsDriven d.kind × (width_of all m.1 ≡ d.width)) at k'.assignments.0.0 in
      let one : 1 ≤ (if bytes_eq s.0.name target then 1 else 0) + assigned_in s.0.name is = (let t : 1 ≤ (if bytes_eq s.0.name target then 1 else 0) = true_count (bytes_eq s.0.name target) s.1.named in omega arith) in (
        not_from_false (is_among target done) (same_among s.0.name target done s.1.named ∙ (f m.0 s.0 at).assigned_done g.0 one),
        free_items is ds (done ++ target ∷ []) m.2 e m.5 (record { assignments = k'.assignments.1; blocks = k'.blocks }) (room_assign ds done target value is r e q k f),
      )
  free_items (Always clock body ∷ is) ds done r e q k f =
      let m = three_some with_block (clocked ds clock) (resolve_statement ds body) (resolve_items ds is) r q in
      let k' = kept_at all r (with_block m.0 m.1 m.2) m.6 k in (
        free_in ds (extends_by ds (added is) all e) done body m.1 [] [] m.4 k'.blocks.0 (room_body done clock body is f),
        free_items is ds (done ++ targets_in body) m.2 e m.5 (record { assignments = k'.assignments; blocks = k'.blocks.1 }) (room_always ds done clock body is r e q k f),
      )
