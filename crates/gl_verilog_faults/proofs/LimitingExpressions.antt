-- An expression keeps the limits exactly where the counts of its tokens do.
use Rattle.std.proofs.Common.{◌≡◌, ℕ, ◌+◌, ◌-◌, ◌≤◌, Bool, true, false, List, [], ◌∷◌, ◌++◌, ltb, max, refl, ap, arith, append_assoc}
use Rattle.std.specs.Prelude.{◌||◌, nat_lt, if◌then◌else◌}
use Rattle.std.proofs.lemmas.Bool.{le-ltb, ltb-false, or_parts, or_from}
use Rattle.gl_verilog.specs.Written.{WrittenExpr, Named, Constant, BitOf, PartOf, WordOf, Braces, Parts, Parens, Prefix, Infix, Conditional}
use Rattle.gl_verilog.specs.Limits.{depth_of, operators_of}
use Rattle.gl_verilog_faults.specs.Counts.{Role, Opens, Closes, Operates, Plain, Counts, after, is_past, keeps_limits}
use Rattle.gl_verilog_faults.proofs.Roles.{of_expr}

abbrev pub counts : ℕ → ℕ → ℕ → Counts
counts b o i = record { brackets = b; operators = o; ifs = i }

abbrev pub Keeps : Counts → List Role → Type 0
Keeps n roles = keeps_limits n roles ≡ true

pub record Fine (b o i : ℕ) : Type 0 where
  pub brackets : b ≤ 64
  pub operators : o ≤ 1024
  pub ifs : i ≤ 1024

fine_when : (b o i : ℕ) → is_past (counts b o i) ≡ false → Fine b o i
fine_when b o i h =
    let p = or_parts (nat_lt 64 b) (nat_lt 1024 o || nat_lt 1024 i) h in
    let q = or_parts (nat_lt 1024 o) (nat_lt 1024 i) p.1 in
    record { brackets = ltb-false 64 b p.0; operators = ltb-false 1024 o q.0; ifs = ltb-false 1024 i q.1 }

not_past : (b o i : ℕ) → Fine b o i → is_past (counts b o i) ≡ false
not_past b o i f = or_from (nat_lt 64 b) (nat_lt 1024 o || nat_lt 1024 i) (le-ltb 64 b f.brackets) (or_from (nat_lt 1024 o) (nat_lt 1024 i) (le-ltb 1024 o f.operators) (le-ltb 1024 i f.ifs))

pub past_so : (c : Bool) (k : Bool) → (if c then false else k) ≡ true → (c ≡ false) × (k ≡ true)
past_so true k h = absurd cc
past_so false k h = (refl, h)

-- one more role
pub keeps_step : (n : Counts) (r : Role) (rs : List Role) (b o i : ℕ) → after n r ≡ counts b o i → Keeps n (r ∷ rs) → Fine b o i × Keeps (counts b o i) rs
keeps_step n r rs b o i e h =
    let p = past_so (is_past (after n r)) (keeps_limits (after n r) rs) h in
    (fine_when b o i (rw e at p.0), rw e at p.1)

pub step_keeps : (n : Counts) (r : Role) (rs : List Role) (b o i : ℕ) → after n r ≡ counts b o i → Fine b o i → Keeps (counts b o i) rs → Keeps n (r ∷ rs)
step_keeps n r rs b o i e f h = rw (e, not_past b o i f) h

-- ---- expressions

pub record Past (b o i depth operators : ℕ) (rest : List Role) : Type 0 where
  pub depth' : b + depth ≤ 64
  pub short : o + operators ≤ 1024
  pub rest' : Keeps (counts b (o + operators) i) rest

pub keeps_at : (b o i b' o' i' : ℕ) (rest : List Role) → b ≡ b' → o ≡ o' → i ≡ i' → Keeps (counts b o i) rest → Keeps (counts b' o' i') rest
keeps_at b o i b' o' i' rest e f g h = rw (e, f, g) at h

pub limited : (e : WrittenExpr) (b o i : ℕ) (rest : List Role) → Fine b o i → Keeps (counts b o i) (of_expr e ++ rest) → Past b o i (depth_of e) (operators_of e) rest
limited (Named name) b o i rest f h =
    let p = keeps_step (counts b o i) Plain rest b o i refl h in
    record { depth' = (let t : b ≤ 64 = f.brackets in omega arith); short = (let t : o ≤ 1024 = f.operators in omega arith); rest' = keeps_at b o i b (o + 0) i rest refl (omega arith) refl p.1 }
limited (Constant size radix digits) b o i rest f h =
    let p = keeps_step (counts b o i) Plain rest b o i refl h in
    record { depth' = (let t : b ≤ 64 = f.brackets in omega arith); short = (let t : o ≤ 1024 = f.operators in omega arith); rest' = keeps_at b o i b (o + 0) i rest refl (omega arith) refl p.1 }
limited (BitOf name place) b o i rest f h =
    let p = keeps_step (counts b o i) Plain (Opens ∷ Plain ∷ Closes ∷ rest) b o i refl h in
    let q = keeps_step (counts b o i) Opens (Plain ∷ Closes ∷ rest) (b + 1) o i refl p.1 in
    let r = keeps_step (counts (b + 1) o i) Plain (Closes ∷ rest) (b + 1) o i refl q.1 in
    let s = keeps_step (counts (b + 1) o i) Closes rest (b + 1 - 1) o i refl r.1 in
    record { depth' = q.0.brackets; short = (let t : o ≤ 1024 = f.operators in omega arith); rest' = keeps_at (b + 1 - 1) o i b (o + 0) i rest (omega arith) (omega arith) refl s.1 }
limited (PartOf name high low) b o i rest f h =
    let p = keeps_step (counts b o i) Plain (Opens ∷ Plain ∷ Plain ∷ Plain ∷ Closes ∷ rest) b o i refl h in
    let q = keeps_step (counts b o i) Opens (Plain ∷ Plain ∷ Plain ∷ Closes ∷ rest) (b + 1) o i refl p.1 in
    let r = keeps_step (counts (b + 1) o i) Plain (Plain ∷ Plain ∷ Closes ∷ rest) (b + 1) o i refl q.1 in
    let r2 = keeps_step (counts (b + 1) o i) Plain (Plain ∷ Closes ∷ rest) (b + 1) o i refl r.1 in
    let r3 = keeps_step (counts (b + 1) o i) Plain (Closes ∷ rest) (b + 1) o i refl r2.1 in
    let s = keeps_step (counts (b + 1) o i) Closes rest (b + 1 - 1) o i refl r3.1 in
    record { depth' = q.0.brackets; short = (let t : o ≤ 1024 = f.operators in omega arith); rest' = keeps_at (b + 1 - 1) o i b (o + 0) i rest (omega arith) (omega arith) refl s.1 }
limited (WordOf name address) b o i rest f h =
    let p = keeps_step (counts b o i) Plain (Opens ∷ ((of_expr address ++ Closes ∷ []) ++ rest)) b o i refl h in
    let q = keeps_step (counts b o i) Opens ((of_expr address ++ Closes ∷ []) ++ rest) (b + 1) o i refl p.1 in
    let a = limited address (b + 1) o i (Closes ∷ rest) q.0 (rw (append_assoc (of_expr address) (Closes ∷ []) rest) at q.1) in
    let s = keeps_step (counts (b + 1) (o + operators_of address) i) Closes rest (b + 1 - 1) (o + operators_of address) i refl a.rest' in
    record { depth' = (let t : b + 1 + depth_of address ≤ 64 = a.depth' in omega arith); short = a.short; rest' = keeps_at (b + 1 - 1) (o + operators_of address) i b (o + operators_of address) i rest (omega arith) refl refl s.1 }
limited (Braces parts) b o i rest f h =
    let q = keeps_step (counts b o i) Opens ((of_expr parts ++ Closes ∷ []) ++ rest) (b + 1) o i refl h in
    let a = limited parts (b + 1) o i (Closes ∷ rest) q.0 (rw (append_assoc (of_expr parts) (Closes ∷ []) rest) at q.1) in
    let s = keeps_step (counts (b + 1) (o + operators_of parts) i) Closes rest (b + 1 - 1) (o + operators_of parts) i refl a.rest' in
    record { depth' = (let t : b + 1 + depth_of parts ≤ 64 = a.depth' in omega arith); short = a.short; rest' = keeps_at (b + 1 - 1) (o + operators_of parts) i b (o + operators_of parts) i rest (omega arith) refl refl s.1 }
limited (Parts first rest') b o i rest f h =
    let x = limited first b o i (Plain ∷ (of_expr rest' ++ rest)) f (rw (append_assoc (of_expr first) (Plain ∷ of_expr rest') rest) at h) in
    let p = keeps_step (counts b (o + operators_of first) i) Plain (of_expr rest' ++ rest) b (o + operators_of first) i refl x.rest' in
    let y = limited rest' b (o + operators_of first) i rest p.0 p.1 in
    record {
      depth' = (let t : b + depth_of first ≤ 64 = x.depth' in let u : b + depth_of rest' ≤ 64 = y.depth' in omega arith);
      short = (let t : o + operators_of first + operators_of rest' ≤ 1024 = y.short in omega arith);
      rest' = keeps_at b (o + operators_of first + operators_of rest') i b (o + (operators_of first + operators_of rest')) i rest refl (omega arith) refl y.rest';
    }
limited (Parens inner) b o i rest f h =
    let q = keeps_step (counts b o i) Opens ((of_expr inner ++ Closes ∷ []) ++ rest) (b + 1) o i refl h in
    let a = limited inner (b + 1) o i (Closes ∷ rest) q.0 (rw (append_assoc (of_expr inner) (Closes ∷ []) rest) at q.1) in
    let s = keeps_step (counts (b + 1) (o + operators_of inner) i) Closes rest (b + 1 - 1) (o + operators_of inner) i refl a.rest' in
    record { depth' = (let t : b + 1 + depth_of inner ≤ 64 = a.depth' in omega arith); short = a.short; rest' = keeps_at (b + 1 - 1) (o + operators_of inner) i b (o + operators_of inner) i rest (omega arith) refl refl s.1 }
limited (Prefix op arg) b o i rest f h =
    let q = keeps_step (counts b o i) Operates (of_expr arg ++ rest) b (o + 1) i refl h in
    let a = limited arg b (o + 1) i rest q.0 q.1 in
    record { depth' = a.depth'; short = (let t : o + 1 + operators_of arg ≤ 1024 = a.short in omega arith); rest' = keeps_at b (o + 1 + operators_of arg) i b (o + (operators_of arg + 1)) i rest refl (omega arith) refl a.rest' }
limited (Infix op left right) b o i rest f h =
    let x = limited left b o i (Operates ∷ (of_expr right ++ rest)) f (rw (append_assoc (of_expr left) (Operates ∷ of_expr right) rest) at h) in
    let p = keeps_step (counts b (o + operators_of left) i) Operates (of_expr right ++ rest) b (o + operators_of left + 1) i refl x.rest' in
    let y = limited right b (o + operators_of left + 1) i rest p.0 p.1 in
    record {
      depth' = (let t : b + depth_of left ≤ 64 = x.depth' in let u : b + depth_of right ≤ 64 = y.depth' in omega arith);
      short = (let t : o + operators_of left + 1 + operators_of right ≤ 1024 = y.short in omega arith);
      rest' = keeps_at b (o + operators_of left + 1 + operators_of right) i b (o + (operators_of left + operators_of right + 1)) i rest refl (omega arith) refl y.rest';
    }
limited (Conditional test yes' no') b o i rest f h =
    let t = limited test b o i (Operates ∷ ((of_expr yes' ++ Plain ∷ of_expr no') ++ rest)) f (rw (append_assoc (of_expr test) (Operates ∷ (of_expr yes' ++ Plain ∷ of_expr no')) rest) at h) in
    let p = keeps_step (counts b (o + operators_of test) i) Operates ((of_expr yes' ++ Plain ∷ of_expr no') ++ rest) b (o + operators_of test + 1) i refl t.rest' in
    let x = limited yes' b (o + operators_of test + 1) i (Plain ∷ (of_expr no' ++ rest)) p.0 (rw (append_assoc (of_expr yes') (Plain ∷ of_expr no') rest) at p.1) in
    let q = keeps_step (counts b (o + operators_of test + 1 + operators_of yes') i) Plain (of_expr no' ++ rest) b (o + operators_of test + 1 + operators_of yes') i refl x.rest' in
    let y = limited no' b (o + operators_of test + 1 + operators_of yes') i rest q.0 q.1 in
    record {
      depth' = (let u1 : b + depth_of test ≤ 64 = t.depth' in let u2 : b + depth_of yes' ≤ 64 = x.depth' in let u3 : b + depth_of no' ≤ 64 = y.depth' in omega arith);
      short = (let u : o + operators_of test + 1 + operators_of yes' + operators_of no' ≤ 1024 = y.short in omega arith);
      rest' = keeps_at b (o + operators_of test + 1 + operators_of yes' + operators_of no') i b (o + (operators_of test + operators_of yes' + operators_of no' + 1)) i rest refl (omega arith) refl y.rest';
    }

-- and back
pub limits : (e : WrittenExpr) (b o i : ℕ) (rest : List Role) → Fine b o i → b + depth_of e ≤ 64 → o + operators_of e ≤ 1024 → Keeps (counts b (o + operators_of e) i) rest → Keeps (counts b o i) (of_expr e ++ rest)
limits (Named name) b o i rest f d s h = step_keeps (counts b o i) Plain rest b o i refl f (keeps_at b (o + 0) i b o i rest refl (omega arith) refl h)
limits (Constant size radix digits) b o i rest f d s h = step_keeps (counts b o i) Plain rest b o i refl f (keeps_at b (o + 0) i b o i rest refl (omega arith) refl h)
limits (BitOf name place) b o i rest f d s h =
    let g : Fine (b + 1) o i = record { brackets = d; operators = f.operators; ifs = f.ifs } in
    let c : Keeps (counts (b + 1) o i) (Closes ∷ rest) = step_keeps (counts (b + 1) o i) Closes rest b o i (ap (λ (x : ℕ). counts x o i) (omega arith)) f (keeps_at b (o + 0) i b o i rest refl (omega arith) refl h) in
    step_keeps (counts b o i) Plain (Opens ∷ Plain ∷ Closes ∷ rest) b o i refl f (step_keeps (counts b o i) Opens (Plain ∷ Closes ∷ rest) (b + 1) o i refl g (step_keeps (counts (b + 1) o i) Plain (Closes ∷ rest) (b + 1) o i refl g c))
limits (PartOf name high low) b o i rest f d s h =
    let g : Fine (b + 1) o i = record { brackets = d; operators = f.operators; ifs = f.ifs } in
    let c : Keeps (counts (b + 1) o i) (Closes ∷ rest) = step_keeps (counts (b + 1) o i) Closes rest b o i (ap (λ (x : ℕ). counts x o i) (omega arith)) f (keeps_at b (o + 0) i b o i rest refl (omega arith) refl h) in
    step_keeps (counts b o i) Plain (Opens ∷ Plain ∷ Plain ∷ Plain ∷ Closes ∷ rest) b o i refl f (step_keeps (counts b o i) Opens (Plain ∷ Plain ∷ Plain ∷ Closes ∷ rest) (b + 1) o i refl g
    (step_keeps (counts (b + 1) o i) Plain (Plain ∷ Plain ∷ Closes ∷ rest) (b + 1) o i refl g (step_keeps (counts (b + 1) o i) Plain (Plain ∷ Closes ∷ rest) (b + 1) o i refl g (step_keeps (counts (b + 1) o i) Plain (Closes ∷ rest) (b + 1) o i refl g c))))
limits (WordOf name address) b o i rest f d s h =
    let g : Fine (b + 1) o i = record { brackets = (let t : b + (depth_of address + 1) ≤ 64 = d in omega arith); operators = f.operators; ifs = f.ifs } in
    let last : Fine b (o + operators_of address) i = record { brackets = f.brackets; operators = s; ifs = f.ifs } in
    let c : Keeps (counts (b + 1) (o + operators_of address) i) (Closes ∷ rest) = step_keeps (counts (b + 1) (o + operators_of address) i) Closes rest b (o + operators_of address) i (ap (λ (x : ℕ). counts x (o + operators_of address) i) (omega arith)) last h in
    let a : Keeps (counts (b + 1) o i) (of_expr address ++ Closes ∷ rest) = limits address (b + 1) o i (Closes ∷ rest) g (let t : b + (depth_of address + 1) ≤ 64 = d in omega arith) s c in
    step_keeps (counts b o i) Plain (Opens ∷ ((of_expr address ++ Closes ∷ []) ++ rest)) b o i refl f (step_keeps (counts b o i) Opens ((of_expr address ++ Closes ∷ []) ++ rest) (b + 1) o i refl g (rw (append_assoc (of_expr address) (Closes ∷ []) rest) a))
limits (Braces parts) b o i rest f d s h =
    let g : Fine (b + 1) o i = record { brackets = (let t : b + (depth_of parts + 1) ≤ 64 = d in omega arith); operators = f.operators; ifs = f.ifs } in
    let last : Fine b (o + operators_of parts) i = record { brackets = f.brackets; operators = s; ifs = f.ifs } in
    let c : Keeps (counts (b + 1) (o + operators_of parts) i) (Closes ∷ rest) = step_keeps (counts (b + 1) (o + operators_of parts) i) Closes rest b (o + operators_of parts) i (ap (λ (x : ℕ). counts x (o + operators_of parts) i) (omega arith)) last h in
    let a : Keeps (counts (b + 1) o i) (of_expr parts ++ Closes ∷ rest) = limits parts (b + 1) o i (Closes ∷ rest) g (let t : b + (depth_of parts + 1) ≤ 64 = d in omega arith) s c in
    step_keeps (counts b o i) Opens ((of_expr parts ++ Closes ∷ []) ++ rest) (b + 1) o i refl g (rw (append_assoc (of_expr parts) (Closes ∷ []) rest) a)
limits (Parts first rest') b o i rest f d s h =
    let m : b + max (depth_of first) (depth_of rest') ≤ 64 = d in
    let t : o + (operators_of first + operators_of rest') ≤ 1024 = s in
    let g : Fine b (o + operators_of first) i = record { brackets = f.brackets; operators = omega arith; ifs = f.ifs } in
    let y : Keeps (counts b (o + operators_of first) i) (of_expr rest' ++ rest) = limits rest' b (o + operators_of first) i rest g (omega arith) (omega arith) (keeps_at b (o + (operators_of first + operators_of rest')) i b (o + operators_of first + operators_of rest') i rest refl (omega arith) refl h) in
    rw (append_assoc (of_expr first) (Plain ∷ of_expr rest') rest) (limits first b o i (Plain ∷ (of_expr rest' ++ rest)) f (omega arith) (omega arith) (step_keeps (counts b (o + operators_of first) i) Plain (of_expr rest' ++ rest) b (o + operators_of first) i refl g y))
limits (Parens inner) b o i rest f d s h =
    let g : Fine (b + 1) o i = record { brackets = (let t : b + (depth_of inner + 1) ≤ 64 = d in omega arith); operators = f.operators; ifs = f.ifs } in
    let last : Fine b (o + operators_of inner) i = record { brackets = f.brackets; operators = s; ifs = f.ifs } in
    let c : Keeps (counts (b + 1) (o + operators_of inner) i) (Closes ∷ rest) = step_keeps (counts (b + 1) (o + operators_of inner) i) Closes rest b (o + operators_of inner) i (ap (λ (x : ℕ). counts x (o + operators_of inner) i) (omega arith)) last h in
    let a : Keeps (counts (b + 1) o i) (of_expr inner ++ Closes ∷ rest) = limits inner (b + 1) o i (Closes ∷ rest) g (let t : b + (depth_of inner + 1) ≤ 64 = d in omega arith) s c in
    step_keeps (counts b o i) Opens ((of_expr inner ++ Closes ∷ []) ++ rest) (b + 1) o i refl g (rw (append_assoc (of_expr inner) (Closes ∷ []) rest) a)
limits (Prefix op arg) b o i rest f d s h =
    let t : o + (operators_of arg + 1) ≤ 1024 = s in
    let g : Fine b (o + 1) i = record { brackets = f.brackets; operators = omega arith; ifs = f.ifs } in
    step_keeps (counts b o i) Operates (of_expr arg ++ rest) b (o + 1) i refl g (limits arg b (o + 1) i rest g d (omega arith) (keeps_at b (o + (operators_of arg + 1)) i b (o + 1 + operators_of arg) i rest refl (omega arith) refl h))
limits (Infix op left right) b o i rest f d s h =
    let m : b + max (depth_of left) (depth_of right) ≤ 64 = d in
    let t : o + (operators_of left + operators_of right + 1) ≤ 1024 = s in
    let g : Fine b (o + operators_of left + 1) i = record { brackets = f.brackets; operators = omega arith; ifs = f.ifs } in
    let y : Keeps (counts b (o + operators_of left + 1) i) (of_expr right ++ rest) = limits right b (o + operators_of left + 1) i rest g (omega arith) (omega arith) (keeps_at b (o + (operators_of left + operators_of right + 1)) i b (o + operators_of left + 1 + operators_of right) i rest refl (omega arith) refl h) in
    rw (append_assoc (of_expr left) (Operates ∷ of_expr right) rest) (limits left b o i (Operates ∷ (of_expr right ++ rest)) f (omega arith) (omega arith) (step_keeps (counts b (o + operators_of left) i) Operates (of_expr right ++ rest) b (o + operators_of left + 1) i refl g y))
limits (Conditional test yes' no') b o i rest f d s h =
    let m : b + max (depth_of test) (max (depth_of yes') (depth_of no')) ≤ 64 = d in
    let t : o + (operators_of test + operators_of yes' + operators_of no' + 1) ≤ 1024 = s in
    let g : Fine b (o + operators_of test + 1) i = record { brackets = f.brackets; operators = omega arith; ifs = f.ifs } in
    let g2 : Fine b (o + operators_of test + 1 + operators_of yes') i = record { brackets = f.brackets; operators = omega arith; ifs = f.ifs } in
    let z : Keeps (counts b (o + operators_of test + 1 + operators_of yes') i) (of_expr no' ++ rest) = limits no' b (o + operators_of test + 1 + operators_of yes') i rest g2 (omega arith) (omega arith) (keeps_at b (o + (operators_of test + operators_of yes' + operators_of no' + 1)) i b (o + operators_of test + 1 + operators_of yes' + operators_of no') i rest refl (omega arith) refl h) in
    let y : Keeps (counts b (o + operators_of test + 1) i) ((of_expr yes' ++ Plain ∷ of_expr no') ++ rest) = rw (append_assoc (of_expr yes') (Plain ∷ of_expr no') rest) (limits yes' b (o + operators_of test + 1) i (Plain ∷ (of_expr no' ++ rest)) g (omega arith) (omega arith) (step_keeps (counts b (o + operators_of test + 1 + operators_of yes') i) Plain (of_expr no' ++ rest) b (o + operators_of test + 1 + operators_of yes') i refl g2 z)) in
    rw (append_assoc (of_expr test) (Operates ∷ (of_expr yes' ++ Plain ∷ of_expr no')) rest) (limits test b o i (Operates ∷ ((of_expr yes' ++ Plain ∷ of_expr no') ++ rest)) f (omega arith) (omega arith) (step_keeps (counts b (o + operators_of test) i) Operates ((of_expr yes' ++ Plain ∷ of_expr no') ++ rest) b (o + operators_of test + 1) i refl g y))
