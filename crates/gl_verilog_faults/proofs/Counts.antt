-- How often a name is driven, in what is written and in what it means.
use Rattle.std.proofs.Common.{◌≡◌, ℕ, zero, suc, ◌+◌, ◌-◌, ◌≤◌, ◌⊎◌, inl, inr, Bool, true, false, List, [], ◌∷◌, ◌++◌, map, Some, eqb, refl, sym, ap, subst, ◌∙◌, arith, append_assoc}
use Rattle.std.specs.Prelude.{◌&&◌, ◌||◌, nat_eq, slice_get, IsSomeAnd, if◌then◌else◌}
use Rattle.std.specs.List.{AllByRecursion}
use Rattle.std.specs.Str.{bytes_eq}
use Rattle.std.proofs.lemmas.Bool.{eq-eqb, eqb-true, or_cases}
use Rattle.gl_verilog.specs.Written.{WrittenExpr, WrittenStatement, Update, UpdateWord, IfThen, IfElse, Block, Listed, Ended, WrittenItem, Wires, Registers, MemoryOf, Assign, Always}
use Rattle.gl_verilog.specs.Module.{Declaration, Assignment, Wire, Register, Memory, Expr, Statement, Nothing, Put, Write, Both, If, number_of}
use Rattle.gl_verilog.specs.Run.{IsRegister}
use Rattle.gl_verilog.specs.Widths.{IsDriven, IsMemory, width_of, KeepsWidth, KeepsWidthsIn}
use Rattle.gl_verilog.specs.Valid.{AreDistinct, drivers_of, assigns, AssignsOnce, blocks_of, writes_in, writes_of}
use Rattle.gl_verilog.specs.Resolve.{Resolved, with_assignment, with_block, clocked, decimal_number, declare, address_bits_of, resolve_expr, resolve_statement, resolve_items, is_memory_kind}
use Rattle.gl_verilog.proofs.Distinct.{number_at}
use Rattle.gl_verilog_faults.specs.Demands.{memory_declared}
use Rattle.gl_verilog_faults.proofs.Names.{seen_number, Extends}
use Rattle.gl_verilog_faults.proofs.Expressions.{at_some}
use Rattle.gl_verilog_faults.proofs.Operators.{both_some, three_some, kind_memory}
use Rattle.gl_verilog_faults.proofs.Items.{added, extends_by, memory-is}
use Rattle.gl_bits.proofs.Bools.{bytes_same, same_when}
use Rattle.gl_bits.proofs.Options.{some_same, then_some}

-- whether a register of this name is assigned in a statement
abbrev pub hits : List ℕ → WrittenStatement → Bool
hits q (Update target value) = bytes_eq q target
hits q (UpdateWord target address value) = false
hits q (IfThen test yes') = hits q yes' || false
hits q (IfElse test yes' no') = hits q yes' || hits q no'
hits q (Block statements) = hits q statements
hits q (Listed first rest) = hits q first || hits q rest
hits q Ended = false

-- how many writes to a memory of this name stand in it
abbrev pub fills : List ℕ → WrittenStatement → ℕ
fills q (Update target value) = 0
fills q (UpdateWord target address value) = if bytes_eq q target then 1 else 0
fills q (IfThen test yes') = fills q yes' + 0
fills q (IfElse test yes' no') = fills q yes' + fills q no'
fills q (Block statements) = fills q statements
fills q (Listed first rest) = fills q first + fills q rest
fills q Ended = 0

-- no two statements of one list assign it
abbrev pub Once : List ℕ → WrittenStatement → Type 0
Once q (Update target value) = Unit {0}
Once q (UpdateWord target address value) = Unit {0}
Once q (IfThen test yes') = Once q yes' × Unit {0}
Once q (IfElse test yes' no') = Once q yes' × Once q no'
Once q (Block statements) = Once q statements
Once q (Listed first rest) = ((hits q first && hits q rest) ≡ false) × Once q first × Once q rest
Once q Ended = Unit {0}

abbrev pub assigned_in : List ℕ → List WrittenItem → ℕ
assigned_in q [] = 0
assigned_in q (Wires range names ∷ is) = assigned_in q is
assigned_in q (Registers range names ∷ is) = assigned_in q is
assigned_in q (MemoryOf range name last ∷ is) = assigned_in q is
assigned_in q (Assign target value ∷ is) = (if bytes_eq q target then 1 else 0) + assigned_in q is
assigned_in q (Always clock body ∷ is) = assigned_in q is

abbrev pub hit_in : List ℕ → List WrittenItem → ℕ
hit_in q [] = 0
hit_in q (Wires range names ∷ is) = hit_in q is
hit_in q (Registers range names ∷ is) = hit_in q is
hit_in q (MemoryOf range name last ∷ is) = hit_in q is
hit_in q (Assign target value ∷ is) = hit_in q is
hit_in q (Always clock body ∷ is) = (if hits q body then 1 else 0) + hit_in q is

abbrev pub filled_in : List ℕ → List WrittenItem → ℕ
filled_in q [] = 0
filled_in q (Wires range names ∷ is) = filled_in q is
filled_in q (Registers range names ∷ is) = filled_in q is
filled_in q (MemoryOf range name last ∷ is) = filled_in q is
filled_in q (Assign target value ∷ is) = filled_in q is
filled_in q (Always clock body ∷ is) = fills q body + filled_in q is

abbrev pub OnceIn : List ℕ → List WrittenItem → Type 0
OnceIn q [] = Unit {0}
OnceIn q (Wires range names ∷ is) = OnceIn q is
OnceIn q (Registers range names ∷ is) = OnceIn q is
OnceIn q (MemoryOf range name last ∷ is) = OnceIn q is
OnceIn q (Assign target value ∷ is) = OnceIn q is
OnceIn q (Always clock body ∷ is) = Once q body × OnceIn q is

pub record Same (n : ℕ) (q : List ℕ) (s : WrittenStatement) (x : Statement) : Type 0 where
  pub hit : assigns x n ≡ hits q s
  pub fill : writes_in x n ≡ fills q s
  pub to : AssignsOnce n x → Once q s
  pub from : Once q s → AssignsOnce n x

pub record SameItems (n : ℕ) (q : List ℕ) (items : List WrittenItem) (r : Resolved) : Type 0 where
  pub assigned : drivers_of r.assignments n ≡ assigned_in q items
  pub hit : blocks_of r.blocks n ≡ hit_in q items
  pub fill : writes_of r.blocks n ≡ filled_in q items
  pub to : AllByRecursion (AssignsOnce n) r.blocks → OnceIn q items
  pub from : OnceIn q items → AllByRecursion (AssignsOnce n) r.blocks

pub count_true : (b : Bool) → 1 ≤ (if b then 1 else 0) → b ≡ true
count_true true h = refl
count_true false h = absurd (omega arith)

pub one_of : (a b : ℕ) → 1 ≤ a + b → (1 ≤ a) ⊎ (1 ≤ b)
one_of zero b h = inr (let t : 1 ≤ 0 + b = h in omega arith)
one_of (suc a) b h = inl (omega arith)

-- a declaration, its number and its name
module _ (all : List Declaration) (distinct : AreDistinct all) (n : ℕ) (d : Declaration) (at : slice_get all n ≡ Some d) where
  pub same_test : (m : ℕ) (t : Declaration) (name : List ℕ) → slice_get all m ≡ Some t → bytes_eq t.name name ≡ true → nat_eq m n ≡ bytes_eq d.name name
  same_test m t name e h = same_when (nat_eq m n) (bytes_eq d.name name)
      (λ f. let same : m ≡ n = eqb-true m n f in let s : slice_get all n ≡ Some t = subst (λ (k : ℕ). slice_get all k ≡ Some t) same e in let td : t ≡ d = some_same t d (sym s ∙ at) in subst (λ (c : Declaration). bytes_eq c.name name ≡ true) td h)
      (λ f. let td : d.name ≡ t.name = bytes_same d.name name f ∙ sym (bytes_same t.name name h) in
      let a : number_of all t.name ≡ Some m = number_at all m t distinct e in
      let b : number_of all t.name ≡ Some n = subst (λ (k : List ℕ). number_of all k ≡ Some n) td (number_at all n d distinct at) in
      eq-eqb m n (some_same m n (sym a ∙ b)))

  module _ (ds : List Declaration) (ext : Extends ds all) where
    target_same : (name : List ℕ) (m : ℕ) → number_of ds name ≡ Some m → nat_eq m n ≡ bytes_eq d.name name
    target_same name m e = let s = seen_number ds name m e in same_test m s.0 name (ext m s.0 s.1.at) s.1.named

    put_same : (target : List ℕ) (value : WrittenExpr) (m : ℕ) (x : Expr) → number_of ds target ≡ Some m → Same n d.name (Update target value) (Put m x)
    put_same target value m x e = record { hit = target_same target m e; fill = refl; to = λ h. tt; from = λ h. tt }

    write_same : (target : List ℕ) (address value : WrittenExpr) (m : ℕ) (x y : Expr) → number_of ds target ≡ Some m → Same n d.name (UpdateWord target address value) (Write m x y)
    write_same target address value m x y e = record { hit = refl; fill = ap (λ (b : Bool). if b then 1 else 0) (target_same target m e); to = λ h. tt; from = λ h. tt }

    if_same : (test : WrittenExpr) (yes' no' : WrittenStatement) (t : Expr) (x y : Statement) → Same n d.name yes' x → Same n d.name no' y → Same n d.name (IfElse test yes' no') (If t x y)
    if_same test yes' no' t x y a b = record { hit = rw (a.hit, b.hit) refl; fill = rw (a.fill, b.fill) refl; to = λ h. (a.to h.0, b.to h.1); from = λ h. (a.from h.0, b.from h.1) }

    then_same : (test : WrittenExpr) (yes' : WrittenStatement) (t : Expr) (x : Statement) → Same n d.name yes' x → Same n d.name (IfThen test yes') (If t x Nothing)
    then_same test yes' t x a = record { hit = rw a.hit refl; fill = rw a.fill refl; to = λ h. (a.to h.0, tt); from = λ h. (a.from h.0, tt) }

    both_same : (first rest : WrittenStatement) (x y : Statement) → Same n d.name first x → Same n d.name rest y → Same n d.name (Listed first rest) (Both x y)
    both_same first rest x y a b = record {
      hit = rw (a.hit, b.hit) refl;
      fill = rw (a.fill, b.fill) refl;
      to = λ h. ((let f : (assigns x n && assigns y n) ≡ false = h.0 in rw (a.hit, b.hit) at f), a.to h.1, b.to h.2);
      from = λ h. (rw (a.hit, b.hit) h.0, a.from h.1, b.from h.2);
    }

    back_at : (s : WrittenStatement) (x y : Statement) → x ≡ y → Same n d.name s y → Same n d.name s x
    back_at s x y e h = subst (Same n d.name s) (sym e) h

    pub same : (s : WrittenStatement) (x : Statement) → resolve_statement ds s ≡ Some x → Same n d.name s x
    same (Update target value) x r = let m = both_some Put (number_of ds target) (resolve_expr ds value) x r in back_at (Update target value) x (Put m.0 m.1) m.4 (put_same target value m.0 m.1 m.2)
    same (UpdateWord target address value) x r = let m = three_some Write (number_of ds target) (resolve_expr ds address) (resolve_expr ds value) x r in back_at (UpdateWord target address value) x (Write m.0 m.1 m.2) m.6 (write_same target address value m.0 m.1 m.2 m.3)
    same (IfThen test yes') x r = let m = both_some (λ c y. If c y Nothing) (resolve_expr ds test) (resolve_statement ds yes') x r in back_at (IfThen test yes') x (If m.0 m.1 Nothing) m.4 (then_same test yes' m.0 m.1 (same yes' m.1 m.3))
    same (IfElse test yes' no') x r = let m = three_some If (resolve_expr ds test) (resolve_statement ds yes') (resolve_statement ds no') x r in back_at (IfElse test yes' no') x (If m.0 m.1 m.2) m.6 (if_same test yes' no' m.0 m.1 m.2 (same yes' m.1 m.4) (same no' m.2 m.5))
    same (Block statements) x r = let s = same statements x r in record { hit = s.hit; fill = s.fill; to = s.to; from = s.from }
    same (Listed first rest) x r = let m = both_some Both (resolve_statement ds first) (resolve_statement ds rest) x r in back_at (Listed first rest) x (Both m.0 m.1) m.4 (both_same first rest m.0 m.1 (same first m.0 m.2) (same rest m.1 m.3))
    same Ended x r = back_at Ended x Nothing (sym (some_same Nothing x r)) (record { hit = refl; fill = refl; to = λ h. tt; from = λ h. tt })

  items_at : (items : List WrittenItem) (r s : Resolved) → r ≡ s → SameItems n d.name items s → SameItems n d.name items r
  items_at items r s e h = subst (SameItems n d.name items) (sym e) h

  pub same_items : (items : List WrittenItem) (ds : List Declaration) (r : Resolved) → all ≡ ds ++ added items → resolve_items ds items ≡ Some r → SameItems n d.name items r
  same_items [] ds r e q = items_at [] r (record { declarations = ds; assignments = []; blocks = [] }) (sym (some_same (record { declarations = ds; assignments = []; blocks = [] }) r q)) (record { assigned = refl; hit = refl; fill = refl; to = λ h. tt; from = λ h. tt })
  same_items (Wires range names ∷ is) ds r e q = let s = same_items is (ds ++ map (declare Wire range) names) r (e ∙ sym (append_assoc ds (map (declare Wire range) names) (added is))) q in record { assigned = s.assigned; hit = s.hit; fill = s.fill; to = s.to; from = s.from }
  same_items (Registers range names ∷ is) ds r e q = let s = same_items is (ds ++ map (declare Register range) names) r (e ∙ sym (append_assoc ds (map (declare Register range) names) (added is))) q in record { assigned = s.assigned; hit = s.hit; fill = s.fill; to = s.to; from = s.from }
  same_items (MemoryOf range name last ∷ is) ds r e q =
      let m = then_some (λ (j : ℕ). resolve_items (ds ++ declare (Memory j) range name ∷ []) is) (address_bits_of (decimal_number last + 1)) r q in
      let q' : resolve_items (ds ++ memory_declared range name last ∷ []) is ≡ Some r = subst (λ (c : Declaration). resolve_items (ds ++ c ∷ []) is ≡ Some r) (sym (memory-is range name last m.0 m.1)) m.2 in
      let s = same_items is (ds ++ memory_declared range name last ∷ []) r (e ∙ sym (append_assoc ds (memory_declared range name last ∷ []) (added is))) q' in
      record { assigned = s.assigned; hit = s.hit; fill = s.fill; to = s.to; from = s.from }
  same_items (Assign target value ∷ is) ds r e q =
      let m = three_some with_assignment (number_of ds target) (resolve_expr ds value) (resolve_items ds is) r q in
      let s = same_items is ds m.2 e m.5 in
      let t : nat_eq m.0 n ≡ bytes_eq d.name target = target_same ds (extends_by ds (added is) all e) target m.0 m.3 in
      items_at (Assign target value ∷ is) r (with_assignment m.0 m.1 m.2) m.6 (record { assigned = rw (t, s.assigned) refl; hit = s.hit; fill = s.fill; to = s.to; from = s.from })
  same_items (Always clock body ∷ is) ds r e q =
      let m = three_some with_block (clocked ds clock) (resolve_statement ds body) (resolve_items ds is) r q in
      let s = same_items is ds m.2 e m.5 in
      let b = same ds (extends_by ds (added is) all e) body m.1 m.4 in
      items_at (Always clock body ∷ is) r (with_block m.0 m.1 m.2) m.6 (record { assigned = s.assigned; hit = rw (b.hit, s.hit) refl; fill = rw (b.fill, s.fill) refl; to = λ h. (b.to h.0, s.to h.1); from = λ h. (b.from h.0, s.from h.1) })

  -- ---- what is driven has the kind for it

  same_there : (m : ℕ) (P : Declaration → Type 0) → nat_eq m n ≡ true → IsSomeAnd (slice_get all m) P → P d
  same_there m P e h = let s : m ≡ n = eqb-true m n e in at_some (slice_get all n) d P at (subst (λ (k : ℕ). IsSomeAnd (slice_get all k) P) s h)

  pub assigned_kind : (x : Statement) → KeepsWidthsIn all x → assigns x n ≡ true → IsRegister d.kind
  assigned_kind Nothing k h = absurd cc
  assigned_kind (Put register value) k h = (same_there register (λ c. IsRegister c.kind × (width_of all value ≡ c.width)) h k.0).0
  assigned_kind (Write memory address value) k h = absurd cc
  assigned_kind (Both first second) k h = elim (or_cases (assigns first n) (assigns second n) h) [ inl p ↦ assigned_kind first k.0 p | inr p ↦ assigned_kind second k.1 p ]
  assigned_kind (If test yes' no') k h = elim (or_cases (assigns yes' n) (assigns no' n) h) [ inl p ↦ assigned_kind yes' k.2 p | inr p ↦ assigned_kind no' k.3 p ]

  pub written_kind : (x : Statement) → KeepsWidthsIn all x → 1 ≤ writes_in x n → is_memory_kind d.kind ≡ true
  written_kind Nothing k h = absurd (omega arith)
  written_kind (Put register value) k h = absurd (omega arith)
  written_kind (Write memory address value) k h =
      let p : IsMemory d.kind (width_of all address) × (width_of all value ≡ d.width) = same_there memory (λ c. IsMemory c.kind (width_of all address) × (width_of all value ≡ c.width)) (count_true (nat_eq memory n) h) k.0 in
      (kind_memory d.kind (width_of all address) p.0).0
  written_kind (Both first second) k h = elim (one_of (writes_in first n) (writes_in second n) h) [ inl p ↦ written_kind first k.0 p | inr p ↦ written_kind second k.1 p ]
  written_kind (If test yes' no') k h = elim (one_of (writes_in yes' n) (writes_in no' n) h) [ inl p ↦ written_kind yes' k.2 p | inr p ↦ written_kind no' k.3 p ]

  pub driven_kind : (as' : List Assignment) → AllByRecursion (KeepsWidth all) as' → 1 ≤ drivers_of as' n → IsDriven d.kind
  driven_kind [] k h = absurd (omega arith)
  driven_kind (a ∷ as') k h = elim (one_of (if nat_eq a.target n then 1 else 0) (drivers_of as' n) h) [
    | inl p ↦ (same_there a.target (λ c. IsDriven c.kind × (width_of all a.value ≡ c.width)) (count_true (nat_eq a.target n) p) k.0.0).0
    | inr p ↦ driven_kind as' k.1 p
  ]

  pub blocks_kind : (bs : List Statement) → AllByRecursion (KeepsWidthsIn all) bs → 1 ≤ blocks_of bs n → IsRegister d.kind
  blocks_kind [] k h = absurd (omega arith)
  blocks_kind (b ∷ bs) k h = elim (one_of (if assigns b n then 1 else 0) (blocks_of bs n) h) [ inl p ↦ assigned_kind b k.0 (count_true (assigns b n) p) | inr p ↦ blocks_kind bs k.1 p ]

  pub writes_kind : (bs : List Statement) → AllByRecursion (KeepsWidthsIn all) bs → 1 ≤ writes_of bs n → is_memory_kind d.kind ≡ true
  writes_kind [] k h = absurd (omega arith)
  writes_kind (b ∷ bs) k h = elim (one_of (writes_in b n) (writes_of bs n) h) [ inl p ↦ written_kind b k.0 p | inr p ↦ writes_kind bs k.1 p ]
