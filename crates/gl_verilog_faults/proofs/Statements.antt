-- The demands of a statement are met exactly where it means one that keeps its widths, and its targets are free.
use Rattle.std.proofs.Common.{◌≡◌, ℕ, ◌+◌, ◌-◌, ◌≤◌, true, List, ◌++◌, length, Some, eqb, refl, sym, subst, ◌∙◌, arith}
use Rattle.std.specs.Prelude.{◌&&◌, not, nat_eq, slice_get, IsSomeAnd}
use Rattle.std.proofs.lemmas.Bool.{eq-eqb, eqb-true, and_parts, and_from}
use Rattle.gl_bits.proofs.Options.{some_and}
use Rattle.gl_verilog.specs.Written.{WrittenExpr, WrittenStatement, Update, UpdateWord, IfThen, IfElse, Block, Listed, Ended, Place, Single, InBlock, IsStatementAt, IsExpr, level, spell_expr, spell_statement}
use Rattle.gl_verilog.specs.Module.{Declaration, Kind, Input, OutputWire, OutputRegister, Wire, Register, Memory, Expr, Statement, Nothing, Put, Write, Both, If, number_of}
use Rattle.gl_verilog.specs.Run.{IsRegister}
use Rattle.gl_verilog.specs.Widths.{IsMemory, width_of, KeepsWidthsIn}
use Rattle.gl_verilog.specs.Resolve.{resolve_expr, resolve_statement, is_memory, is_memory_kind}
use Rattle.gl_verilog_faults.specs.Demands.{AreMet, bits_named, address_of, is_clocked, is_clocked_kind, bits_in, of_expr, of_statement, targets_in, is_among}
use Rattle.gl_verilog_faults.proofs.Names.{met_join, met_front, met_back, Seen, seen_declared, seen_number, is_declared_by, so_by, bits_by, Extends}
use Rattle.gl_verilog_faults.proofs.Expressions.{Meant, Asked, AreSmall, meant, asked, at_some}
use Rattle.gl_verilog_faults.proofs.Operators.{memory_kind, kind_memory, both_some, three_some}

-- ---- the expressions of a statement are grouped

abbrev pub AreGrouped : WrittenStatement → Type 0
AreGrouped (Update target value) = IsExpr value
AreGrouped (UpdateWord target address value) = IsExpr address × IsExpr value
AreGrouped (IfThen test yes') = IsExpr test × AreGrouped yes'
AreGrouped (IfElse test yes' no') = IsExpr test × AreGrouped yes' × AreGrouped no'
AreGrouped (Block statements) = AreGrouped statements
AreGrouped (Listed first rest) = AreGrouped first × AreGrouped rest
AreGrouped Ended = Unit {0}

pub grouped : (p : Place) (s : WrittenStatement) → IsStatementAt p s → AreGrouped s
grouped Single (Update target value) h = h
grouped Single (UpdateWord target address value) h = h
grouped Single (IfThen test yes') h = (h.0, grouped Single yes' h.1)
grouped Single (IfElse test yes' no') h = (h.0, grouped Single yes' h.2, grouped Single no' h.3)
grouped Single (Block statements) h = grouped InBlock statements h
grouped Single (Listed first rest) h = absurd h
grouped Single Ended h = absurd h
grouped InBlock (Update target value) h = absurd h
grouped InBlock (UpdateWord target address value) h = absurd h
grouped InBlock (IfThen test yes') h = absurd h
grouped InBlock (IfElse test yes' no') h = absurd h
grouped InBlock (Block statements) h = absurd h
grouped InBlock (Listed first rest) h = (grouped Single first h.0, grouped InBlock rest h.1)
grouped InBlock Ended h = tt

-- ---- kinds

pub register_kind : (k : Kind) → is_clocked_kind k ≡ true → not (is_memory_kind k) ≡ true → IsRegister k
register_kind Input h m = absurd cc
register_kind OutputWire h m = absurd cc
register_kind OutputRegister h m = tt
register_kind Wire h m = absurd cc
register_kind Register h m = tt
register_kind (Memory bits) h m = absurd cc

pub kind_register : (k : Kind) → IsRegister k → (is_clocked_kind k ≡ true) × (not (is_memory_kind k) ≡ true)
kind_register Input h = absurd h
kind_register OutputWire h = absurd h
kind_register OutputRegister h = (refl, refl)
kind_register Wire h = absurd h
kind_register Register h = (refl, refl)
kind_register (Memory bits) h = absurd h

clocked_memory : (k : Kind) (a : ℕ) → IsMemory k a → is_clocked_kind k ≡ true
clocked_memory Input a h = absurd h
clocked_memory OutputWire a h = absurd h
clocked_memory OutputRegister a h = absurd h
clocked_memory Wire a h = absurd h
clocked_memory Register a h = absurd h
clocked_memory (Memory bits) a h = refl

-- ---- free targets

-- the targets are none of those driven before
abbrev pub Free : List (List ℕ) → List (List ℕ) → List (List ℕ) → WrittenStatement → Type 0
Free done before beside (Update target value) = (not (is_among target done) && not (is_among target beside)) ≡ true
Free done before beside (UpdateWord target address value) = (not (is_among target done) && not (is_among target before)) ≡ true
Free done before beside (IfThen test yes') = Free done before beside yes'
Free done before beside (IfElse test yes' no') = Free done before beside yes' × Free done (before ++ targets_in yes') beside no'
Free done before beside (Block statements) = Free done before beside statements
Free done before beside (Listed first rest) = Free done before beside first × Free done (before ++ targets_in first) (beside ++ targets_in first) rest
Free done before beside Ended = Unit {0}

pub record MeantIn (ds all : List Declaration) (done before beside : List (List ℕ)) (s : WrittenStatement) (x : Statement) : Type 0 where
  pub resolved : resolve_statement ds s ≡ Some x
  pub kept : KeepsWidthsIn all x
  pub free : Free done before beside s

module _ (ds all : List Declaration) (ext : Extends ds all) (small : AreSmall ds) (done : List (List ℕ)) where
  whole : (e : WrittenExpr) (k : ℕ) → IsExpr e → AreMet (of_expr ds k e) → (x : Expr) × Meant ds all e x
  whole e k g h = meant ds all ext small e k g.1 (λ l. absurd (let t : level e ≤ 11 = g.0 in omega arith)) h

  takes : (n : ℕ) (d : Declaration) (x : Expr) (P : Declaration → Type 0) (name : List ℕ) (e : WrittenExpr) → Seen ds name n d → Meant ds all e x → P d → eqb (bits_named ds name) (bits_in ds e) ≡ true → IsSomeAnd (slice_get all n) (λ c. P c × (width_of all x ≡ c.width))
  takes n d x P name e s a p h = some_and (λ c. P c × (width_of all x ≡ c.width)) (slice_get all n) d (ext n d s.at) (p, a.wide ∙ sym (eqb-true (bits_named ds name) (bits_in ds e) h) ∙ bits_by ds name n d s)

  pub meant_in : (s : WrittenStatement) (before beside : List (List ℕ)) (k : ℕ) → AreGrouped s → AreMet (of_statement ds done before beside k s) → (x : Statement) × MeantIn ds all done before beside s x
  meant_in (Update target value) before beside k g h =
      let a = whole value (k + 2) g (met_front (of_expr ds (k + 2) value) _ h) in
      let own = met_back (of_expr ds (k + 2) value) _ h in
      let s = seen_declared ds target own.0 in
      let c : is_clocked s.1 ≡ true = rw (so_by is_clocked ds target s.0 s.1 s.2) at own.1.0 in
      let m : not (is_memory s.1) ≡ true = rw (so_by is_memory ds target s.0 s.1 s.2) at own.1.1.0 in (
        Put s.0 a.0,
        record {
          resolved = rw (s.2.number, a.1.resolved) refl;
          kept = (takes s.0 s.1 a.0 (λ c. IsRegister c.kind) target value s.2 a.1 (register_kind s.1.kind c m) own.1.1.1.1.0, a.1.kept);
          free = own.1.1.1.0;
        },
      )
  meant_in (UpdateWord target address value) before beside k g h =
      let sides = met_front (of_expr ds (k + 2) address ++ of_expr ds (k + length (spell_expr address) + 4) value) _ h in
      let own = met_back (of_expr ds (k + 2) address ++ of_expr ds (k + length (spell_expr address) + 4) value) _ h in
      let a = whole address (k + 2) g.0 (met_front (of_expr ds (k + 2) address) _ sides) in
      let b = whole value (k + length (spell_expr address) + 4) g.1 (met_back (of_expr ds (k + 2) address) _ sides) in
      let s = seen_declared ds target own.0 in
      let m : (is_memory s.1 && eqb (address_of s.1) (bits_in ds address)) ≡ true = rw (so_by (λ d. is_memory d && nat_eq (address_of d) (bits_in ds address)) ds target s.0 s.1 s.2) at own.1.1.0 in
      let p = and_parts (is_memory s.1) (eqb (address_of s.1) (bits_in ds address)) m in (
        Write s.0 a.0 b.0,
        record {
          resolved = rw (s.2.number, a.1.resolved, b.1.resolved) refl;
          kept = (takes s.0 s.1 b.0 (λ c. IsMemory c.kind (width_of all a.0)) target value s.2 b.1 (memory_kind s.1.kind (width_of all a.0) p.0 (eqb-true (address_of s.1) (bits_in ds address) p.1 ∙ sym a.1.wide)) own.1.1.1.1.0, a.1.kept, b.1.kept);
          free = own.1.1.1.0;
        },
      )
  meant_in (IfThen test yes') before beside k g h =
      let t = whole test (k + 2) g.0 (met_front (of_expr ds (k + 2) test) _ h) in
      let own = met_back (of_expr ds (k + 2) test) _ h in
      let a = meant_in yes' before beside (k + length (spell_expr test) + 3) g.1 own.1 in
      (If t.0 a.0 Nothing, record { resolved = rw (t.1.resolved, a.1.resolved) refl; kept = (t.1.wide ∙ eqb-true (bits_in ds test) 1 own.0, t.1.kept, a.1.kept, tt); free = a.1.free })
  meant_in (IfElse test yes' no') before beside k g h =
      let t = whole test (k + 2) g.0 (met_front (of_expr ds (k + 2) test) _ h) in
      let own = met_back (of_expr ds (k + 2) test) _ h in
      let a = meant_in yes' before beside (k + length (spell_expr test) + 3) g.1 (met_front (of_statement ds done before beside (k + length (spell_expr test) + 3) yes') _ own.1) in
      let b = meant_in no' (before ++ targets_in yes') beside (k + length (spell_expr test) + length (spell_statement yes') + 4) g.2 (met_back (of_statement ds done before beside (k + length (spell_expr test) + 3) yes') _ own.1) in
      (If t.0 a.0 b.0, record { resolved = rw (t.1.resolved, a.1.resolved, b.1.resolved) refl; kept = (t.1.wide ∙ eqb-true (bits_in ds test) 1 own.0, t.1.kept, a.1.kept, b.1.kept); free = (a.1.free, b.1.free) })
  meant_in (Block statements) before beside k g h =
      let a = meant_in statements before beside (k + 1) g h in
      (a.0, record { resolved = a.1.resolved; kept = a.1.kept; free = a.1.free })
  meant_in (Listed first rest) before beside k g h =
      let a = meant_in first before beside k g.0 (met_front (of_statement ds done before beside k first) _ h) in
      let b = meant_in rest (before ++ targets_in first) (beside ++ targets_in first) (k + length (spell_statement first)) g.1 (met_back (of_statement ds done before beside k first) _ h) in
      (Both a.0 b.0, record { resolved = rw (a.1.resolved, b.1.resolved) refl; kept = (a.1.kept, b.1.kept); free = (a.1.free, b.1.free) })
  meant_in Ended before beside k g h = (Nothing, record { resolved = refl; kept = tt; free = tt })

  -- ---- and back

  statement_at : (x y : Statement) → x ≡ y → KeepsWidthsIn all x → KeepsWidthsIn all y
  statement_at x y e k = subst (KeepsWidthsIn all) e k

  bits_same : (n : ℕ) (d : Declaration) (x : Expr) (name : List ℕ) (e : WrittenExpr) (k : ℕ) → Seen ds name n d → Asked ds all k e x → width_of all x ≡ d.width → eqb (bits_named ds name) (bits_in ds e) ≡ true
  bits_same n d x name e k s a h = eq-eqb (bits_named ds name) (bits_in ds e) (bits_by ds name n d s ∙ sym h ∙ a.wide)

  pub asked_in : (s : WrittenStatement) (before beside : List (List ℕ)) (k : ℕ) (x : Statement) → resolve_statement ds s ≡ Some x → KeepsWidthsIn all x → Free done before beside s → AreMet (of_statement ds done before beside k s)
  asked_in (Update target value) before beside k x r h f =
      let m = both_some Put (number_of ds target) (resolve_expr ds value) x r in
      let g = statement_at x (Put m.0 m.1) m.4 h in
      let a = asked ds all ext small value (k + 2) m.1 m.3 g.1 in
      let s = seen_number ds target m.0 m.2 in
      let p : IsRegister s.0.kind × (width_of all m.1 ≡ s.0.width) = at_some (slice_get all m.0) s.0 (λ d. IsRegister d.kind × (width_of all m.1 ≡ d.width)) (ext m.0 s.0 s.1.at) g.0 in
      let q = kind_register s.0.kind p.0 in
      met_join (of_expr ds (k + 2) value) _ a.met (is_declared_by ds target m.0 s.0 s.1, (rw (so_by is_clocked ds target m.0 s.0 s.1) q.0, (rw (so_by is_memory ds target m.0 s.0 s.1) q.1, (f, (bits_same m.0 s.0 m.1 target value (k + 2) s.1 a p.1, tt)))))
  asked_in (UpdateWord target address value) before beside k x r h f =
      let m = three_some Write (number_of ds target) (resolve_expr ds address) (resolve_expr ds value) x r in
      let g = statement_at x (Write m.0 m.1 m.2) m.6 h in
      let a = asked ds all ext small address (k + 2) m.1 m.4 g.1 in
      let b = asked ds all ext small value (k + length (spell_expr address) + 4) m.2 m.5 g.2 in
      let s = seen_number ds target m.0 m.3 in
      let p : IsMemory s.0.kind (width_of all m.1) × (width_of all m.2 ≡ s.0.width) = at_some (slice_get all m.0) s.0 (λ d. IsMemory d.kind (width_of all m.1) × (width_of all m.2 ≡ d.width)) (ext m.0 s.0 s.1.at) g.0 in
      let q = kind_memory s.0.kind (width_of all m.1) p.0 in
      let v : (is_memory s.0 && eqb (address_of s.0) (bits_in ds address)) ≡ true = and_from (is_memory s.0) (eqb (address_of s.0) (bits_in ds address)) q.0 (eq-eqb (address_of s.0) (bits_in ds address) (q.1 ∙ a.wide)) in
      met_join (of_expr ds (k + 2) address ++ of_expr ds (k + length (spell_expr address) + 4) value) _ (met_join (of_expr ds (k + 2) address) _ a.met b.met)
      (is_declared_by ds target m.0 s.0 s.1, (rw (so_by is_clocked ds target m.0 s.0 s.1) (clocked_memory s.0.kind (width_of all m.1) p.0), (rw (so_by (λ d. is_memory d && nat_eq (address_of d) (bits_in ds address)) ds target m.0 s.0 s.1) v, (f, (bits_same m.0 s.0 m.2 target value (k + length (spell_expr address) + 4) s.1 b p.1, tt)))))
  asked_in (IfThen test yes') before beside k x r h f =
      let m = both_some (λ c y. If c y Nothing) (resolve_expr ds test) (resolve_statement ds yes') x r in
      let g = statement_at x (If m.0 m.1 Nothing) m.4 h in
      let t = asked ds all ext small test (k + 2) m.0 m.2 g.1 in
      met_join (of_expr ds (k + 2) test) _ t.met (eq-eqb (bits_in ds test) 1 (sym t.wide ∙ g.0), asked_in yes' before beside (k + length (spell_expr test) + 3) m.1 m.3 g.2 f)
  asked_in (IfElse test yes' no') before beside k x r h f =
      let m = three_some If (resolve_expr ds test) (resolve_statement ds yes') (resolve_statement ds no') x r in
      let g = statement_at x (If m.0 m.1 m.2) m.6 h in
      let t = asked ds all ext small test (k + 2) m.0 m.3 g.1 in
      met_join (of_expr ds (k + 2) test) _ t.met (
        eq-eqb (bits_in ds test) 1 (sym t.wide ∙ g.0),
        met_join (of_statement ds done before beside (k + length (spell_expr test) + 3) yes') _ (asked_in yes' before beside (k + length (spell_expr test) + 3) m.1 m.4 g.2 f.0) (asked_in no' (before ++ targets_in yes') beside (k + length (spell_expr test) + length (spell_statement yes') + 4) m.2 m.5 g.3 f.1),
      )
  asked_in (Block statements) before beside k x r h f = asked_in statements before beside (k + 1) x r h f
  asked_in (Listed first rest) before beside k x r h f =
      let m = both_some Both (resolve_statement ds first) (resolve_statement ds rest) x r in
      let g = statement_at x (Both m.0 m.1) m.4 h in
      met_join (of_statement ds done before beside k first) _ (asked_in first before beside k m.0 m.2 g.0 f.0) (asked_in rest (before ++ targets_in first) (beside ++ targets_in first) (k + length (spell_statement first)) m.1 m.3 g.1 f.1)
  asked_in Ended before beside k x r h f = tt
