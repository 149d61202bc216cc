-- The demands of an expression are met exactly where it means one that keeps its widths.
use Rattle.std.proofs.Common.{◌≡◌, ℕ, ◌+◌, ◌-◌, ◌<◌, ◌≤◌, ◌^◌, Bool, true, false, List, [], ◌∷◌, ◌++◌, length, Option, Some, None, eqb, leb, ltb, refl, sym, ap, subst, ◌∙◌, arith}
use Rattle.std.specs.Prelude.{◌&&◌, ◌||◌, not, nat_eq, nat_le, nat_lt, slice_get, option_map, IsSomeAnd, IsTrue, codes, if◌then◌else◌}
use Rattle.std.specs.Str.{bytes_eq}
use Rattle.std.proofs.lemmas.Bool.{eq-eqb, eqb-true, le-leb, leb-true, lt-ltb, ltb-true, not-true, not_from_false, and_parts, and_from}
use Rattle.gl_verilog.specs.Tokens.{number_in}
use Rattle.gl_verilog.specs.Written.{PrefixOp, BitNot, LogicalNot, InfixOp, WrittenExpr, Named, Constant, BitOf, PartOf, WordOf, Braces, Parts, Parens, Prefix, Infix, Conditional, level, looseness, IsGrouped, spell_expr}
use Rattle.gl_verilog.specs.Module.{Declaration, Expr, Net, Literal, Binary, Choose, Select, Read, number_of}
use Rattle.gl_verilog.specs.Widths.{IsReadable, IsMemory, is_clock, width_at, width_after, width_of, KeepsWidths}
use Rattle.gl_verilog.specs.Resolve.{number_read, decimal_number, prefixed, infixed, joined, resolve_expr, is_so, is_memory}
use Rattle.gl_verilog_faults.specs.Demands.{AreMet, BadMemory, ask, is_declared, address_of, is_clock_name, gives_bit, takes_bits, bits_in, of_select, takes_prefix, of_expr}
use Rattle.gl_verilog_faults.proofs.Names.{met_join, met_front, met_back, Seen, seen_declared, seen_number, is_declared_by, so_by, bits_by, Extends}
use Rattle.gl_verilog_faults.proofs.Operators.{both_some, three_some, net_kind, kind_net, memory_kind, kind_memory, op_of, width_taken, infixed-is, after-is, taken-is, taken-met, bit_small, loose}
use Rattle.gl_bits.proofs.Bools.{bytes_same}
use Rattle.gl_bits.proofs.Options.{map_some, some_and}
use Rattle.gl_verilog.proofs.Fits.{width_at-found}

-- ---- what a name means

abbrev pub AreSmall : List Declaration → Type 0
AreSmall ds = (n : ℕ) (d : Declaration) → slice_get ds n ≡ Some d → d.width ≤ 128

pub record Meant (ds all : List Declaration) (e : WrittenExpr) (x : Expr) : Type 0 where
  pub resolved : resolve_expr ds e ≡ Some x
  pub here : width_of ds x ≡ bits_in ds e
  pub wide : width_of all x ≡ bits_in ds e
  pub kept : KeepsWidths all x
  pub small : bits_in ds e ≤ 128

pub record Asked (ds all : List Declaration) (k : ℕ) (e : WrittenExpr) (x : Expr) : Type 0 where
  pub met : AreMet (of_expr ds k e)
  pub here : width_of ds x ≡ bits_in ds e
  pub wide : width_of all x ≡ bits_in ds e
  pub small : bits_in ds e ≤ 128

not_clock : (name : List ℕ) (ds : List Declaration) (n : ℕ) (d : Declaration) → Seen ds name n d → is_clock_name name ≡ false → is_clock d ≡ false
not_clock name ds n d s c = subst (λ (t : List ℕ). bytes_eq t (codes "clk") ≡ false) (sym (bytes_same d.name name s.named)) c

read_by : (ds : List Declaration) (name : List ℕ) (n : ℕ) (d : Declaration) → Seen ds name n d → is_clock_name name ≡ false → number_read ds name ≡ Some n
read_by ds name n d s c = rw c s.number

-- a name that is read is declared, and not the clock
pub record ReadAs (ds : List Declaration) (name : List ℕ) (n : ℕ) (d : Declaration) : Type 0 where
  pub seen : Seen ds name n d
  pub clockless : is_clock_name name ≡ false

read_when : (ds : List Declaration) (name : List ℕ) (n : ℕ) (b : Bool) → is_clock_name name ≡ b → (if b then None else number_of ds name) ≡ Some n → (d : Declaration) × ReadAs ds name n d
read_when ds name n true c e = absurd cc
read_when ds name n false c e = let s = seen_number ds name n e in (s.0, record { seen = s.1; clockless = c })

read_back : (ds : List Declaration) (name : List ℕ) (n : ℕ) → number_read ds name ≡ Some n → (d : Declaration) × ReadAs ds name n d
read_back ds name n e = read_when ds name n (is_clock_name name) refl e

pub at_some : (o : Option Declaration) (d : Declaration) (P : Declaration → Type 0) → o ≡ Some d → IsSomeAnd o P → P d
at_some o d P e h = rw e at h

module _ (ds all : List Declaration) (ext : Extends ds all) (small : AreSmall ds) where
  meant_name : (name : List ℕ) (k : ℕ) → AreMet (of_expr ds k (Named name)) → (x : Expr) × Meant ds all (Named name) x
  meant_name name k h =
      let s = seen_declared ds name h.0 in
      let c : is_clock_name name ≡ false = not-true (is_clock_name name) h.1.0 in
      let m : not (is_memory s.1) ≡ true = rw (so_by is_memory ds name s.0 s.1 s.2) at h.1.1.0 in (
        Net s.0,
        record {
          resolved = ap (option_map Net) (read_by ds name s.0 s.1 s.2 c);
          here = width_at-found ds s.0 s.1 s.2.at ∙ sym (bits_by ds name s.0 s.1 s.2);
          wide = width_at-found all s.0 s.1 (ext s.0 s.1 s.2.at) ∙ sym (bits_by ds name s.0 s.1 s.2);
          kept = some_and IsReadable (slice_get all s.0) s.1 (ext s.0 s.1 s.2.at) (net_kind s.1.kind m, not_clock name ds s.0 s.1 s.2 c);
          small = rw (bits_by ds name s.0 s.1 s.2) (small s.0 s.1 s.2.at);
        },
      )

  meant_constant : (size : List ℕ) (radix : ℕ) (digits : List ℕ) (k : ℕ) → AreMet (of_expr ds k (Constant size radix digits)) → (x : Expr) × Meant ds all (Constant size radix digits) x
  meant_constant size radix digits k h =
      let p = and_parts (leb 1 (decimal_number size)) (ltb (number_in radix digits) (2 ^ decimal_number size)) h.0 in
      let l : decimal_number size ≤ 128 = leb-true (decimal_number size) 128 h.1.0 in (
        Literal (number_in radix digits) (decimal_number size),
        record {
          resolved = refl;
          here = refl;
          wide = refl;
          kept = (record { some' = leb-true 1 (decimal_number size) p.0; most = l }, ltb-true (number_in radix digits) (2 ^ decimal_number size) p.1);
          small = l;
        },
      )

  meant_select : (e : WrittenExpr) (name : List ℕ) (high low : ℕ) (k : ℕ) → resolve_expr ds e ≡ option_map (Select high low) (number_read ds name) → bits_in ds e ≡ high + 1 - low → AreMet (of_select ds k name high low) → (x : Expr) × Meant ds all e x
  meant_select e name high low k r b h =
      let s = seen_declared ds name h.0 in
      let c : is_clock_name name ≡ false = not-true (is_clock_name name) h.1.0 in
      let m : not (is_memory s.1) ≡ true = rw (so_by is_memory ds name s.0 s.1 s.2) at h.1.1.0 in
      let v : (s.1.is_vector && (leb low high && ltb high s.1.width)) ≡ true = rw (so_by (λ d. d.is_vector && (nat_le low high && nat_lt high d.width)) ds name s.0 s.1 s.2) at h.1.1.1.0 in
      let p = and_parts s.1.is_vector (leb low high && ltb high s.1.width) v in
      let q = and_parts (leb low high) (ltb high s.1.width) p.1 in
      let lh : low ≤ high = leb-true low high q.0 in
      let hw : high < s.1.width = ltb-true high s.1.width q.1 in
      let w : s.1.width ≤ 128 = small s.0 s.1 s.2.at in (
        Select high low s.0,
        record {
          resolved = r ∙ ap (option_map (Select high low)) (read_by ds name s.0 s.1 s.2 c);
          here = sym b;
          wide = sym b;
          kept = (some_and (λ d. IsReadable d × IsTrue d.is_vector × (high < d.width)) (slice_get all s.0) s.1 (ext s.0 s.1 s.2.at) ((net_kind s.1.kind m, not_clock name ds s.0 s.1 s.2 c), p.0, hw), lh);
          small = rw b (omega arith);
        },
      )

  meant_word : (name : List ℕ) (address : WrittenExpr) (k : ℕ) (x : Expr) → Meant ds all address x → AreMet (of_expr ds k (WordOf name address)) → (y : Expr) × Meant ds all (WordOf name address) y
  meant_word name address k x a h =
      let s = seen_declared ds name h.0 in
      let c : is_clock_name name ≡ false = not-true (is_clock_name name) h.1.0 in
      let m : is_memory s.1 ≡ true = rw (so_by is_memory ds name s.0 s.1 s.2) at h.1.1.0 in
      let t = met_back (of_expr ds (k + 2) address) (ask BadMemory k (is_so (λ d. nat_eq (address_of d) (bits_in ds address)) ds name) ∷ []) h.1.1.1 in
      let v : eqb (address_of s.1) (bits_in ds address) ≡ true = rw (so_by (λ d. nat_eq (address_of d) (bits_in ds address)) ds name s.0 s.1 s.2) at t.0 in (
        Read s.0 x,
        record {
          resolved = rw (read_by ds name s.0 s.1 s.2 c, a.resolved) refl;
          here = width_at-found ds s.0 s.1 s.2.at ∙ sym (bits_by ds name s.0 s.1 s.2);
          wide = width_at-found all s.0 s.1 (ext s.0 s.1 s.2.at) ∙ sym (bits_by ds name s.0 s.1 s.2);
          kept = (some_and (λ d. IsMemory d.kind (width_of all x)) (slice_get all s.0) s.1 (ext s.0 s.1 s.2.at) (memory_kind s.1.kind (width_of all x) m (eqb-true (address_of s.1) (bits_in ds address) v ∙ sym a.wide)), a.kept);
          small = rw (bits_by ds name s.0 s.1 s.2) (small s.0 s.1 s.2.at);
        },
      )

  meant_prefix : (op : PrefixOp) (arg : WrittenExpr) (x : Expr) → Meant ds all arg x → takes_prefix op (bits_in ds arg) ≡ true → Meant ds all (Prefix op arg) (prefixed ds op x)
  meant_prefix BitNot arg x a h = record { resolved = rw a.resolved refl; here = a.here; wide = a.here; kept = (a.wide ∙ sym a.here, a.kept); small = a.small }
  meant_prefix LogicalNot arg x a h =
      let one : bits_in ds arg ≡ 1 = eqb-true (bits_in ds arg) 1 h in
      record { resolved = rw a.resolved refl; here = sym one; wide = sym one; kept = (a.wide ∙ one, a.kept); small = a.small }

  meant_infix : (op : InfixOp) (l r : WrittenExpr) (x y : Expr) → Meant ds all l x → Meant ds all r y → (eqb (bits_in ds l) (bits_in ds r) && (not (takes_bits op) || eqb (bits_in ds l) 1)) ≡ true → Meant ds all (Infix op l r) (infixed ds op x y)
  meant_infix op l r x y a b h =
      let p = and_parts (eqb (bits_in ds l) (bits_in ds r)) (not (takes_bits op) || eqb (bits_in ds l) 1) h in
      let same : bits_in ds l ≡ bits_in ds r = eqb-true (bits_in ds l) (bits_in ds r) p.0 in
      let t : width_taken ds op x ≡ bits_in ds l = taken-is (takes_bits op) (width_of ds x) (bits_in ds l) a.here p.1 in
      let w : width_after (op_of op) (width_taken ds op x) ≡ bits_in ds (Infix op l r) = after-is op (width_taken ds op x) ∙ ap (λ (n : ℕ). if gives_bit op then 1 else n) t in
      record {
        resolved = rw (a.resolved, b.resolved) refl;
        here = rw (infixed-is ds op x y) w;
        wide = rw (infixed-is ds op x y) w;
        kept = subst (KeepsWidths all) (sym (infixed-is ds op x y)) (a.wide ∙ sym t, b.wide ∙ sym same ∙ sym t, a.kept, b.kept);
        small = bit_small (gives_bit op) (bits_in ds l) a.small;
      }

  pub meant : (e : WrittenExpr) (k : ℕ) → IsGrouped e → (12 ≤ level e → bits_in ds e ≤ 128) → AreMet (of_expr ds k e) → (x : Expr) × Meant ds all e x
  meant (Named name) k g w h = meant_name name k h
  meant (Constant size radix digits) k g w h = meant_constant size radix digits k h
  meant (BitOf name place) k g w h = meant_select (BitOf name place) name (decimal_number place) (decimal_number place) k refl (omega arith) h
  meant (PartOf name high low) k g w h = meant_select (PartOf name high low) name (decimal_number high) (decimal_number low) k refl refl h
  meant (WordOf name address) k g w h =
      let a = meant address (k + 2) g.1 (λ l. absurd (omega arith)) (met_front (of_expr ds (k + 2) address) _ h.1.1.1) in
      meant_word name address k a.0 a.1 h
  meant (Braces parts) k g w h =
      let front = met_front (of_expr ds (k + 1) parts) _ h in
      let back = met_back (of_expr ds (k + 1) parts) _ h in
      let a = meant parts (k + 1) g (λ l. leb-true (bits_in ds parts) 128 back.0) front in
      (a.0, record { resolved = a.1.resolved; here = a.1.here; wide = a.1.wide; kept = a.1.kept; small = a.1.small })
  meant (Parts first rest) k g w h =
      let total : bits_in ds first + bits_in ds rest ≤ 128 = w (omega arith) in
      let a = meant first k g.1 (λ l. omega arith) (met_front (of_expr ds k first) _ h) in
      let b = meant rest (k + length (spell_expr first) + 1) g.2 (λ l. omega arith) (met_back (of_expr ds k first) _ h) in (
        joined ds a.0 b.0,
        record {
          resolved = rw (a.1.resolved, b.1.resolved) refl;
          here = rw (a.1.here, b.1.here) refl;
          wide = rw (a.1.wide, b.1.here) refl;
          kept = (b.1.wide ∙ sym b.1.here, rw (a.1.wide, b.1.here) total, a.1.kept, b.1.kept);
          small = total;
        },
      )
  meant (Parens inner) k g w h =
      let a = meant inner (k + 1) g.1 (λ l. absurd (let t : level inner ≤ 11 = g.0 in omega arith)) h in
      (a.0, record { resolved = a.1.resolved; here = a.1.here; wide = a.1.wide; kept = a.1.kept; small = a.1.small })
  meant (Prefix op arg) k g w h =
      let a = meant arg (k + 1) g.1 (λ l. absurd (let t : level arg ≤ 1 = g.0 in omega arith)) (met_front (of_expr ds (k + 1) arg) _ h) in
      (prefixed ds op a.0, meant_prefix op arg a.0 a.1 (met_back (of_expr ds (k + 1) arg) _ h).0)
  meant (Infix op left right) k g w h =
      let o : looseness op ≤ 11 = loose op in
      let sides = met_front (of_expr ds k left ++ of_expr ds (k + length (spell_expr left) + 1) right) _ h in
      let own = met_back (of_expr ds k left ++ of_expr ds (k + length (spell_expr left) + 1) right) _ h in
      let a = meant left k g.2 (λ l. absurd (let t : level left ≤ looseness op = g.0 in omega arith)) (met_front (of_expr ds k left) _ sides) in
      let b = meant right (k + length (spell_expr left) + 1) g.3 (λ l. absurd (let t : level right < looseness op = g.1 in omega arith)) (met_back (of_expr ds k left) _ sides) in
      (infixed ds op a.0 b.0, meant_infix op left right a.0 b.0 a.1 b.1 own.0)
  meant (Conditional test yes' no') k g w h =
      let all3 = met_front (of_expr ds k test ++ of_expr ds (k + length (spell_expr test) + 1) yes' ++ of_expr ds (k + length (spell_expr test) + length (spell_expr yes') + 2) no') _ h in
      let own = met_back (of_expr ds k test ++ of_expr ds (k + length (spell_expr test) + 1) yes' ++ of_expr ds (k + length (spell_expr test) + length (spell_expr yes') + 2) no') _ h in
      let two = met_front (of_expr ds k test ++ of_expr ds (k + length (spell_expr test) + 1) yes') _ all3 in
      let t = meant test k g.3 (λ l. absurd (let q : level test ≤ 10 = g.0 in omega arith)) (met_front (of_expr ds k test) _ two) in
      let a = meant yes' (k + length (spell_expr test) + 1) g.4 (λ l. absurd (let q : level yes' ≤ 11 = g.1 in omega arith)) (met_back (of_expr ds k test) _ two) in
      let b = meant no' (k + length (spell_expr test) + length (spell_expr yes') + 2) g.5 (λ l. absurd (let q : level no' ≤ 11 = g.2 in omega arith)) (met_back (of_expr ds k test ++ of_expr ds (k + length (spell_expr test) + 1) yes') _ all3) in
      let p = and_parts (eqb (bits_in ds test) 1) (eqb (bits_in ds yes') (bits_in ds no')) own.0 in
      let one : bits_in ds test ≡ 1 = eqb-true (bits_in ds test) 1 p.0 in
      let same : bits_in ds yes' ≡ bits_in ds no' = eqb-true (bits_in ds yes') (bits_in ds no') p.1 in (
        Choose t.0 a.0 b.0,
        record {
          resolved = rw (t.1.resolved, a.1.resolved, b.1.resolved) refl;
          here = a.1.here;
          wide = a.1.wide;
          kept = (t.1.wide ∙ one, b.1.wide ∙ sym same ∙ sym a.1.wide, t.1.kept, a.1.kept, b.1.kept);
          small = a.1.small;
        },
      )

  -- ---- and back

  undeclared_met : (name : List ℕ) (n : ℕ) (d : Declaration) → ReadAs ds name n d → (is_declared ds name ≡ true) × (not (is_clock_name name) ≡ true)
  undeclared_met name n d r = (is_declared_by ds name n d r.seen, not_from_false (is_clock_name name) r.clockless)

  asked_name : (name : List ℕ) (k n : ℕ) → number_read ds name ≡ Some n → KeepsWidths all (Net n) → Asked ds all k (Named name) (Net n)
  asked_name name k n e h =
      let r = read_back ds name n e in
      let s = r.1.seen in
      let u = undeclared_met name n r.0 r.1 in
      let p : IsReadable r.0 = at_some (slice_get all n) r.0 IsReadable (ext n r.0 s.at) h in
      let m : is_so is_memory ds name ≡ is_memory r.0 = so_by is_memory ds name n r.0 s in
      record {
        met = (u.0, (u.1, (rw m (kind_net r.0.kind p.0), tt)));
        here = width_at-found ds n r.0 s.at ∙ sym (bits_by ds name n r.0 s);
        wide = width_at-found all n r.0 (ext n r.0 s.at) ∙ sym (bits_by ds name n r.0 s);
        small = rw (bits_by ds name n r.0 s) (small n r.0 s.at);
      }

  asked_constant : (size : List ℕ) (radix : ℕ) (digits : List ℕ) (k : ℕ) → KeepsWidths all (Literal (number_in radix digits) (decimal_number size)) → Asked ds all k (Constant size radix digits) (Literal (number_in radix digits) (decimal_number size))
  asked_constant size radix digits k h =
      record {
        met = (and_from (leb 1 (decimal_number size)) (ltb (number_in radix digits) (2 ^ decimal_number size)) (le-leb 1 (decimal_number size) h.0.some') (lt-ltb (number_in radix digits) (2 ^ decimal_number size) h.1), (le-leb (decimal_number size) 128 h.0.most, tt));
        here = refl;
        wide = refl;
        small = h.0.most;
      }

  asked_select : (name : List ℕ) (high low k n : ℕ) → number_read ds name ≡ Some n → KeepsWidths all (Select high low n) → AreMet (of_select ds k name high low) × (high + 1 - low ≤ 128)
  asked_select name high low k n e h =
      let r = read_back ds name n e in
      let s = r.1.seen in
      let u = undeclared_met name n r.0 r.1 in
      let p : IsReadable r.0 × IsTrue r.0.is_vector × (high < r.0.width) = at_some (slice_get all n) r.0 (λ d. IsReadable d × IsTrue d.is_vector × (high < d.width)) (ext n r.0 s.at) h.0 in
      let m : is_so is_memory ds name ≡ is_memory r.0 = so_by is_memory ds name n r.0 s in
      let v : is_so (λ d. d.is_vector && (nat_le low high && nat_lt high d.width)) ds name ≡ (r.0.is_vector && (leb low high && ltb high r.0.width)) = so_by (λ d. d.is_vector && (nat_le low high && nat_lt high d.width)) ds name n r.0 s in
      let hw : high < r.0.width = p.2 in
      let w : r.0.width ≤ 128 = small n r.0 s.at in
      ((u.0, (u.1, (rw m (kind_net r.0.kind p.0.0), (rw v (and_from r.0.is_vector (leb low high && ltb high r.0.width) p.1 (and_from (leb low high) (ltb high r.0.width) (le-leb low high h.1) (lt-ltb high r.0.width p.2))), tt)))), omega arith)

  asked_word : (name : List ℕ) (address : WrittenExpr) (k n : ℕ) (x : Expr) → number_read ds name ≡ Some n → Asked ds all (k + 2) address x → KeepsWidths all (Read n x) → Asked ds all k (WordOf name address) (Read n x)
  asked_word name address k n x e a h =
      let r = read_back ds name n e in
      let s = r.1.seen in
      let u = undeclared_met name n r.0 r.1 in
      let p : IsMemory r.0.kind (width_of all x) = at_some (slice_get all n) r.0 (λ d. IsMemory d.kind (width_of all x)) (ext n r.0 s.at) h.0 in
      let q = kind_memory r.0.kind (width_of all x) p in
      let v : is_so (λ d. nat_eq (address_of d) (bits_in ds address)) ds name ≡ eqb (address_of r.0) (bits_in ds address) = so_by (λ d. nat_eq (address_of d) (bits_in ds address)) ds name n r.0 s in
      record {
        met = (u.0, (u.1, (rw (so_by is_memory ds name n r.0 s) q.0, met_join (of_expr ds (k + 2) address) _ a.met (rw v (eq-eqb (address_of r.0) (bits_in ds address) (q.1 ∙ a.wide)), tt))));
        here = width_at-found ds n r.0 s.at ∙ sym (bits_by ds name n r.0 s);
        wide = width_at-found all n r.0 (ext n r.0 s.at) ∙ sym (bits_by ds name n r.0 s);
        small = rw (bits_by ds name n r.0 s) (small n r.0 s.at);
      }

  asked_prefix : (op : PrefixOp) (arg : WrittenExpr) (k : ℕ) (x : Expr) → Asked ds all (k + 1) arg x → KeepsWidths all (prefixed ds op x) → Asked ds all k (Prefix op arg) (prefixed ds op x)
  asked_prefix BitNot arg k x a h = record { met = met_join (of_expr ds (k + 1) arg) _ a.met (refl, tt); here = a.here; wide = a.here; small = a.small }
  asked_prefix LogicalNot arg k x a h =
      let one : bits_in ds arg ≡ 1 = sym a.wide ∙ h.0 in
      record { met = met_join (of_expr ds (k + 1) arg) _ a.met (eq-eqb (bits_in ds arg) 1 one, tt); here = sym one; wide = sym one; small = a.small }

  kept_arg : (op : PrefixOp) (x : Expr) → KeepsWidths all (prefixed ds op x) → KeepsWidths all x
  kept_arg BitNot x k = k.1
  kept_arg LogicalNot x k = k.1

  kept_infix : (op : InfixOp) (x y : Expr) → KeepsWidths all (infixed ds op x y) → KeepsWidths all (Binary (op_of op) (width_taken ds op x) x y)
  kept_infix op x y h = subst (KeepsWidths all) (infixed-is ds op x y) h

  asked_infix : (op : InfixOp) (l r : WrittenExpr) (k : ℕ) (x y : Expr) → Asked ds all k l x → Asked ds all (k + length (spell_expr l) + 1) r y → KeepsWidths all (infixed ds op x y) → Asked ds all k (Infix op l r) (infixed ds op x y)
  asked_infix op l r k x y a b h =
      let g = kept_infix op x y h in
      let t : bits_in ds l ≡ width_taken ds op x = sym a.wide ∙ g.0 in
      let same : bits_in ds l ≡ bits_in ds r = t ∙ sym g.1 ∙ b.wide in
      let w : width_after (op_of op) (width_taken ds op x) ≡ bits_in ds (Infix op l r) = after-is op (width_taken ds op x) ∙ ap (λ (n : ℕ). if gives_bit op then 1 else n) (sym t) in
      record {
        met = met_join (of_expr ds k l ++ of_expr ds (k + length (spell_expr l) + 1) r) _ (met_join (of_expr ds k l) _ a.met b.met)
            (and_from (eqb (bits_in ds l) (bits_in ds r)) (not (takes_bits op) || eqb (bits_in ds l) 1) (eq-eqb (bits_in ds l) (bits_in ds r) same) (taken-met (takes_bits op) (width_of ds x) (bits_in ds l) t), tt);
        here = rw (infixed-is ds op x y) w;
        wide = rw (infixed-is ds op x y) w;
        small = bit_small (gives_bit op) (bits_in ds l) a.small;
      }

  moved : (e : WrittenExpr) (k : ℕ) (x y : Expr) → x ≡ y → Asked ds all k e y → Asked ds all k e x
  moved e k x y q h = subst (Asked ds all k e) (sym q) h

  keeps_at : (x y : Expr) → x ≡ y → KeepsWidths all x → KeepsWidths all y
  keeps_at x y e k = subst (KeepsWidths all) e k

  asked_parts : (l r : WrittenExpr) (k : ℕ) (x y : Expr) → Asked ds all k l x → Asked ds all (k + length (spell_expr l) + 1) r y → KeepsWidths all (joined ds x y) → Asked ds all k (Parts l r) (joined ds x y)
  asked_parts l r k x y a b h =
      let total : width_of all x + width_of ds y ≤ 128 = h.1 in
      record { met = met_join (of_expr ds k l) _ a.met b.met; here = rw (a.here, b.here) refl; wide = rw (a.wide, b.here) refl; small = rw (a.wide, b.here) at total }

  asked_conditional : (c l r : WrittenExpr) (k : ℕ) (t x y : Expr) → Asked ds all k c t → Asked ds all (k + length (spell_expr c) + 1) l x → Asked ds all (k + length (spell_expr c) + length (spell_expr l) + 2) r y → KeepsWidths all (Choose t x y) → Asked ds all k (Conditional c l r) (Choose t x y)
  asked_conditional c l r k t x y q a b h =
      let one : bits_in ds c ≡ 1 = sym q.wide ∙ h.0 in
      let same : bits_in ds l ≡ bits_in ds r = sym a.wide ∙ sym h.1 ∙ b.wide in
      record {
        met = met_join (of_expr ds k c ++ of_expr ds (k + length (spell_expr c) + 1) l ++ of_expr ds (k + length (spell_expr c) + length (spell_expr l) + 2) r) _
            (met_join (of_expr ds k c ++ of_expr ds (k + length (spell_expr c) + 1) l) _ (met_join (of_expr ds k c) _ q.met a.met) b.met)
            (and_from (eqb (bits_in ds c) 1) (eqb (bits_in ds l) (bits_in ds r)) (eq-eqb (bits_in ds c) 1 one) (eq-eqb (bits_in ds l) (bits_in ds r) same), tt);
        here = a.here;
        wide = a.wide;
        small = a.small;
      }

  pub asked : (e : WrittenExpr) (k : ℕ) (x : Expr) → resolve_expr ds e ≡ Some x → KeepsWidths all x → Asked ds all k e x
  asked (Named name) k x r h = let m = map_some Net (number_read ds name) x r in moved (Named name) k x (Net m.0) m.2 (asked_name name k m.0 m.1 (keeps_at x (Net m.0) m.2 h))
  asked (Constant size radix digits) k x r h =
      let q : x ≡ Literal (number_in radix digits) (decimal_number size) = cc in
      moved (Constant size radix digits) k x (Literal (number_in radix digits) (decimal_number size)) q (asked_constant size radix digits k (keeps_at x (Literal (number_in radix digits) (decimal_number size)) q h))
  asked (BitOf name p) k x r h =
      let m = map_some (Select (decimal_number p) (decimal_number p)) (number_read ds name) x r in
      let a = asked_select name (decimal_number p) (decimal_number p) k m.0 m.1 (keeps_at x (Select (decimal_number p) (decimal_number p) m.0) m.2 h) in
      let one : decimal_number p + 1 - decimal_number p ≡ 1 = omega arith in
      moved (BitOf name p) k x (Select (decimal_number p) (decimal_number p) m.0) m.2 (record { met = a.0; here = one; wide = one; small = omega arith })
  asked (PartOf name u l) k x r h =
      let m = map_some (Select (decimal_number u) (decimal_number l)) (number_read ds name) x r in
      let a = asked_select name (decimal_number u) (decimal_number l) k m.0 m.1 (keeps_at x (Select (decimal_number u) (decimal_number l) m.0) m.2 h) in
      moved (PartOf name u l) k x (Select (decimal_number u) (decimal_number l) m.0) m.2 (record { met = a.0; here = refl; wide = refl; small = a.1 })
  asked (WordOf name a) k x r h =
      let m = both_some Read (number_read ds name) (resolve_expr ds a) x r in
      let g = keeps_at x (Read m.0 m.1) m.4 h in
      moved (WordOf name a) k x (Read m.0 m.1) m.4 (asked_word name a k m.0 m.1 m.2 (asked a (k + 2) m.1 m.3 g.1) g)
  asked (Braces a) k x r h =
      let i = asked a (k + 1) x r h in
      record { met = met_join (of_expr ds (k + 1) a) _ i.met (le-leb (bits_in ds a) 128 i.small, tt); here = i.here; wide = i.wide; small = i.small }
  asked (Parts a b) k x r h =
      let m = both_some (joined ds) (resolve_expr ds a) (resolve_expr ds b) x r in
      let g = keeps_at x (joined ds m.0 m.1) m.4 h in
      moved (Parts a b) k x (joined ds m.0 m.1) m.4 (asked_parts a b k m.0 m.1 (asked a k m.0 m.2 g.2) (asked b (k + length (spell_expr a) + 1) m.1 m.3 g.3) g)
  asked (Parens a) k x r h = let i = asked a (k + 1) x r h in record { met = i.met; here = i.here; wide = i.wide; small = i.small }
  asked (Prefix op a) k x r h =
      let m = map_some (prefixed ds op) (resolve_expr ds a) x r in
      let g = keeps_at x (prefixed ds op m.0) m.2 h in
      moved (Prefix op a) k x (prefixed ds op m.0) m.2 (asked_prefix op a k m.0 (asked a (k + 1) m.0 m.1 (kept_arg op m.0 g)) g)
  asked (Infix op a b) k x r h =
      let m = both_some (infixed ds op) (resolve_expr ds a) (resolve_expr ds b) x r in
      let g = keeps_at x (infixed ds op m.0 m.1) m.4 h in
      let s = kept_infix op m.0 m.1 g in
      moved (Infix op a b) k x (infixed ds op m.0 m.1) m.4 (asked_infix op a b k m.0 m.1 (asked a k m.0 m.2 s.2) (asked b (k + length (spell_expr a) + 1) m.1 m.3 s.3) g)
  asked (Conditional c a b) k x r h =
      let m = three_some Choose (resolve_expr ds c) (resolve_expr ds a) (resolve_expr ds b) x r in
      let g = keeps_at x (Choose m.0 m.1 m.2) m.6 h in
      moved (Conditional c a b) k x (Choose m.0 m.1 m.2) m.6 (asked_conditional c a b k m.0 m.1 m.2 (asked c k m.0 m.3 g.2) (asked a (k + length (spell_expr c) + 1) m.1 m.4 g.3) (asked b (k + length (spell_expr c) + length (spell_expr a) + 2) m.2 m.5 g.4) g)
