-- The counts over the roles of a module's tokens keep the limits exactly where the module is within them.
use Rattle.std.proofs.Common.{◌≡◌, ℕ, ◌+◌, ◌-◌, ◌≤◌, true, List, [], ◌∷◌, ◌++◌, max, refl, ap, arith, append_assoc}
use Rattle.std.specs.List.{AllByRecursion}
use Rattle.gl_verilog.specs.Written.{WrittenExpr, WrittenStatement, Update, UpdateWord, IfThen, IfElse, Block, Listed, Ended, WrittenPort, WrittenItem, Wires, Registers, MemoryOf, Assign, Always, WrittenModule, spell_range, spell_names, spell_port}
use Rattle.gl_verilog.specs.Limits.{depth_of, operators_of, IsShort, depth_in, ifs_in, AreShort, KeepsLimits, IsWithinLimits}
use Rattle.gl_verilog_faults.specs.Counts.{Role, Opens, Closes, Starts, OpensWhole, Tests, Begins, Plain, none_counted, keeps_limits}
use Rattle.gl_verilog_faults.proofs.Roles.{of_expr, of_statement, plain_for, of_item, of_items, of_more_ports, of_ports, roles_of}
use Rattle.gl_verilog_faults.proofs.LimitingExpressions.{counts, Keeps, Fine, keeps_step, step_keeps, keeps_at, limited, limits}

-- ---- statements

pub record PastIn (b o i : ℕ) (s : WrittenStatement) (rest : List Role) : Type 0 where
  pub depth' : b + depth_in s ≤ 64
  pub ifs' : i + ifs_in s ≤ 1024
  pub short : AreShort s
  pub left : ℕ
  pub left' : left ≤ 1024
  pub rest' : Keeps (counts b left (i + ifs_in s)) rest

-- a whole expression that begins behind `=` or `<=`, up to its `;`
whole_to : (e : WrittenExpr) (b o i : ℕ) (rest : List Role) → Keeps (counts b o i) (Starts ∷ ((of_expr e ++ Plain ∷ []) ++ rest)) → (b + depth_of e ≤ 64) × IsShort e × Keeps (counts b (operators_of e) i) rest
whole_to e b o i rest h =
    let p = keeps_step (counts b o i) Starts ((of_expr e ++ Plain ∷ []) ++ rest) b 0 i refl h in
    let x = limited e b 0 i (Plain ∷ rest) p.0 (rw (append_assoc (of_expr e) (Plain ∷ []) rest) at p.1) in
    let q = keeps_step (counts b (0 + operators_of e) i) Plain rest b (0 + operators_of e) i refl x.rest' in
    (x.depth', (let t : 0 + operators_of e ≤ 1024 = x.short in omega arith), keeps_at b (0 + operators_of e) i b (operators_of e) i rest refl (omega arith) refl q.1)

whole_from : (e : WrittenExpr) (b o i : ℕ) (rest : List Role) → b ≤ 64 → i ≤ 1024 → b + depth_of e ≤ 64 → IsShort e → Keeps (counts b (operators_of e) i) rest → Keeps (counts b o i) (Starts ∷ ((of_expr e ++ Plain ∷ []) ++ rest))
whole_from e b o i rest hb hi d s h =
    let t : operators_of e ≤ 1024 = s in
    let f : Fine b 0 i = record { brackets = hb; operators = omega arith; ifs = hi } in
    let g : Fine b (0 + operators_of e) i = record { brackets = hb; operators = omega arith; ifs = hi } in
    step_keeps (counts b o i) Starts ((of_expr e ++ Plain ∷ []) ++ rest) b 0 i refl f (rw (append_assoc (of_expr e) (Plain ∷ []) rest) (limits e b 0 i (Plain ∷ rest) f d (omega arith)
    (step_keeps (counts b (0 + operators_of e) i) Plain rest b (0 + operators_of e) i refl g (keeps_at b (operators_of e) i b (0 + operators_of e) i rest refl (omega arith) refl h))))

-- a whole expression in brackets
held_to : (e : WrittenExpr) (b o i : ℕ) (rest : List Role) → Keeps (counts b o i) (OpensWhole ∷ (of_expr e ++ Closes ∷ rest)) → (b + (depth_of e + 1) ≤ 64) × IsShort e × Keeps (counts b (operators_of e) i) rest
held_to e b o i rest h =
    let p = keeps_step (counts b o i) OpensWhole (of_expr e ++ Closes ∷ rest) (b + 1) 0 i refl h in
    let x = limited e (b + 1) 0 i (Closes ∷ rest) p.0 p.1 in
    let q = keeps_step (counts (b + 1) (0 + operators_of e) i) Closes rest (b + 1 - 1) (0 + operators_of e) i refl x.rest' in
    ((let t : b + 1 + depth_of e ≤ 64 = x.depth' in omega arith), (let t : 0 + operators_of e ≤ 1024 = x.short in omega arith), keeps_at (b + 1 - 1) (0 + operators_of e) i b (operators_of e) i rest (omega arith) (omega arith) refl q.1)

held_from : (e : WrittenExpr) (b o i : ℕ) (rest : List Role) → i ≤ 1024 → b + (depth_of e + 1) ≤ 64 → IsShort e → Keeps (counts b (operators_of e) i) rest → Keeps (counts b o i) (OpensWhole ∷ (of_expr e ++ Closes ∷ rest))
held_from e b o i rest hi d s h =
    let t : operators_of e ≤ 1024 = s in
    let f : Fine (b + 1) 0 i = record { brackets = omega arith; operators = omega arith; ifs = hi } in
    let g : Fine b (operators_of e) i = record { brackets = omega arith; operators = t; ifs = hi } in
    step_keeps (counts b o i) OpensWhole (of_expr e ++ Closes ∷ rest) (b + 1) 0 i refl f (limits e (b + 1) 0 i (Closes ∷ rest) f (omega arith) (omega arith)
    (step_keeps (counts (b + 1) (0 + operators_of e) i) Closes rest b (operators_of e) i both' g h))
  where
    both' : counts (b + 1 - 1) (0 + operators_of e) i ≡ counts b (operators_of e) i
    both' = (let p : b + 1 - 1 ≡ b = omega arith in let q : 0 + operators_of e ≡ operators_of e = omega arith in rw (p, q) refl)

pub limited_in : (s : WrittenStatement) (b o i : ℕ) (rest : List Role) → Fine b o i → Keeps (counts b o i) (of_statement s ++ rest) → PastIn b o i s rest
limited_in (Update target value) b o i rest f h =
    let p = keeps_step (counts b o i) Plain (Starts ∷ ((of_expr value ++ Plain ∷ []) ++ rest)) b o i refl h in
    let x = whole_to value b o i rest p.1 in
    record { depth' = x.0; ifs' = (let t : i ≤ 1024 = f.ifs in omega arith); short = x.1; left = operators_of value; left' = x.1; rest' = keeps_at b (operators_of value) i b (operators_of value) (i + 0) rest refl refl (omega arith) x.2 }
limited_in (UpdateWord target address value) b o i rest f h =
    let p = keeps_step (counts b o i) Plain (OpensWhole ∷ ((of_expr address ++ Closes ∷ Starts ∷ (of_expr value ++ Plain ∷ [])) ++ rest)) b o i refl h in
    let x = held_to address b o i (Starts ∷ ((of_expr value ++ Plain ∷ []) ++ rest)) (rw (append_assoc (of_expr address) (Closes ∷ Starts ∷ (of_expr value ++ Plain ∷ [])) rest) at p.1) in
    let y = whole_to value b (operators_of address) i rest x.2 in
    record { depth' = (let t : b + (depth_of address + 1) ≤ 64 = x.0 in let u : b + depth_of value ≤ 64 = y.0 in omega arith); ifs' = (let t : i ≤ 1024 = f.ifs in omega arith); short = (x.1, y.1); left = operators_of value; left' = y.1; rest' = keeps_at b (operators_of value) i b (operators_of value) (i + 0) rest refl refl (omega arith) y.2 }
limited_in (IfThen test yes') b o i rest f h =
    let p = keeps_step (counts b o i) Tests (OpensWhole ∷ ((of_expr test ++ Closes ∷ of_statement yes') ++ rest)) b o (i + 1) refl h in
    let x = held_to test b o (i + 1) (of_statement yes' ++ rest) (rw (append_assoc (of_expr test) (Closes ∷ of_statement yes') rest) at p.1) in
    let g : Fine b (operators_of test) (i + 1) = record { brackets = f.brackets; operators = x.1; ifs = p.0.ifs } in
    let y = limited_in yes' b (operators_of test) (i + 1) rest g x.2 in
    record {
      depth' = (let t : b + (depth_of test + 1) ≤ 64 = x.0 in let u : b + depth_in yes' ≤ 64 = y.depth' in omega arith);
      ifs' = (let t : i + 1 + ifs_in yes' ≤ 1024 = y.ifs' in omega arith);
      short = (x.1, y.short);
      left = y.left;
      left' = y.left';
      rest' = keeps_at b y.left (i + 1 + ifs_in yes') b y.left (i + (ifs_in yes' + 1)) rest refl refl (omega arith) y.rest';
    }
limited_in (IfElse test yes' no') b o i rest f h =
    let p = keeps_step (counts b o i) Tests (OpensWhole ∷ ((of_expr test ++ Closes ∷ (of_statement yes' ++ Plain ∷ of_statement no')) ++ rest)) b o (i + 1) refl h in
    let x = held_to test b o (i + 1) ((of_statement yes' ++ Plain ∷ of_statement no') ++ rest) (rw (append_assoc (of_expr test) (Closes ∷ (of_statement yes' ++ Plain ∷ of_statement no')) rest) at p.1) in
    let g : Fine b (operators_of test) (i + 1) = record { brackets = f.brackets; operators = x.1; ifs = p.0.ifs } in
    let y = limited_in yes' b (operators_of test) (i + 1) (Plain ∷ (of_statement no' ++ rest)) g (rw (append_assoc (of_statement yes') (Plain ∷ of_statement no') rest) at x.2) in
    let q = keeps_step (counts b y.left (i + 1 + ifs_in yes')) Plain (of_statement no' ++ rest) b y.left (i + 1 + ifs_in yes') refl y.rest' in
    let z = limited_in no' b y.left (i + 1 + ifs_in yes') rest q.0 q.1 in
    record {
      depth' = (let t : b + (depth_of test + 1) ≤ 64 = x.0 in let u : b + depth_in yes' ≤ 64 = y.depth' in let v : b + depth_in no' ≤ 64 = z.depth' in omega arith);
      ifs' = (let t : i + 1 + ifs_in yes' + ifs_in no' ≤ 1024 = z.ifs' in omega arith);
      short = (x.1, y.short, z.short);
      left = z.left;
      left' = z.left';
      rest' = keeps_at b z.left (i + 1 + ifs_in yes' + ifs_in no') b z.left (i + (ifs_in yes' + ifs_in no' + 1)) rest refl refl (omega arith) z.rest';
    }
limited_in (Block statements) b o i rest f h =
    let p = keeps_step (counts b o i) Opens ((of_statement statements ++ Closes ∷ []) ++ rest) (b + 1) o i refl h in
    let x = limited_in statements (b + 1) o i (Closes ∷ rest) p.0 (rw (append_assoc (of_statement statements) (Closes ∷ []) rest) at p.1) in
    let q = keeps_step (counts (b + 1) x.left (i + ifs_in statements)) Closes rest (b + 1 - 1) x.left (i + ifs_in statements) refl x.rest' in
    record { depth' = (let t : b + 1 + depth_in statements ≤ 64 = x.depth' in omega arith); ifs' = x.ifs'; short = x.short; left = x.left; left' = x.left'; rest' = keeps_at (b + 1 - 1) x.left (i + ifs_in statements) b x.left (i + ifs_in statements) rest (omega arith) refl refl q.1 }
limited_in (Listed first rest') b o i rest f h =
    let x = limited_in first b o i (of_statement rest' ++ rest) f (rw (append_assoc (of_statement first) (of_statement rest') rest) at h) in
    let g : Fine b x.left (i + ifs_in first) = record { brackets = f.brackets; operators = x.left'; ifs = x.ifs' } in
    let y = limited_in rest' b x.left (i + ifs_in first) rest g x.rest' in
    record {
      depth' = (let t : b + depth_in first ≤ 64 = x.depth' in let u : b + depth_in rest' ≤ 64 = y.depth' in omega arith);
      ifs' = (let t : i + ifs_in first + ifs_in rest' ≤ 1024 = y.ifs' in omega arith);
      short = (x.short, y.short);
      left = y.left;
      left' = y.left';
      rest' = keeps_at b y.left (i + ifs_in first + ifs_in rest') b y.left (i + (ifs_in first + ifs_in rest')) rest refl refl (omega arith) y.rest';
    }
limited_in Ended b o i rest f h = record { depth' = (let t : b ≤ 64 = f.brackets in omega arith); ifs' = (let t : i ≤ 1024 = f.ifs in omega arith); short = tt; left = o; left' = f.operators; rest' = keeps_at b o i b o (i + 0) rest refl refl (omega arith) h }

pub limits_in : (s : WrittenStatement) (b o i : ℕ) (rest : List Role) → Fine b o i → b + depth_in s ≤ 64 → i + ifs_in s ≤ 1024 → AreShort s → ((o' : ℕ) → o' ≤ 1024 → Keeps (counts b o' (i + ifs_in s)) rest) → Keeps (counts b o i) (of_statement s ++ rest)
limits_in (Update target value) b o i rest f d n s h =
    step_keeps (counts b o i) Plain (Starts ∷ ((of_expr value ++ Plain ∷ []) ++ rest)) b o i refl f (whole_from value b o i rest f.brackets f.ifs d s (keeps_at b (operators_of value) (i + 0) b (operators_of value) i rest refl refl (omega arith) (h (operators_of value) s)))
limits_in (UpdateWord target address value) b o i rest f d n s h =
    let m : b + max (depth_of address + 1) (depth_of value) ≤ 64 = d in
    step_keeps (counts b o i) Plain (OpensWhole ∷ ((of_expr address ++ Closes ∷ Starts ∷ (of_expr value ++ Plain ∷ [])) ++ rest)) b o i refl f (rw (append_assoc (of_expr address) (Closes ∷ Starts ∷ (of_expr value ++ Plain ∷ [])) rest)
    (held_from address b o i (Starts ∷ ((of_expr value ++ Plain ∷ []) ++ rest)) f.ifs (omega arith) s.0 (whole_from value b (operators_of address) i rest f.brackets f.ifs (omega arith) s.1 (keeps_at b (operators_of value) (i + 0) b (operators_of value) i rest refl refl (omega arith) (h (operators_of value) s.1)))))
limits_in (IfThen test yes') b o i rest f d n s h =
    let m : b + max (depth_of test + 1) (depth_in yes') ≤ 64 = d in
    let t : i + (ifs_in yes' + 1) ≤ 1024 = n in
    let f1 : Fine b o (i + 1) = record { brackets = f.brackets; operators = f.operators; ifs = omega arith } in
    let f2 : Fine b (operators_of test) (i + 1) = record { brackets = f.brackets; operators = s.0; ifs = omega arith } in
    step_keeps (counts b o i) Tests (OpensWhole ∷ ((of_expr test ++ Closes ∷ of_statement yes') ++ rest)) b o (i + 1) refl f1 (rw (append_assoc (of_expr test) (Closes ∷ of_statement yes') rest)
    (held_from test b o (i + 1) (of_statement yes' ++ rest) (omega arith) (omega arith) s.0 (limits_in yes' b (operators_of test) (i + 1) rest f2 (omega arith) (omega arith) s.1
    (λ o' g. keeps_at b o' (i + (ifs_in yes' + 1)) b o' (i + 1 + ifs_in yes') rest refl refl (omega arith) (h o' g)))))
limits_in (IfElse test yes' no') b o i rest f d n s h =
    let m : b + max (depth_of test + 1) (max (depth_in yes') (depth_in no')) ≤ 64 = d in
    let t : i + (ifs_in yes' + ifs_in no' + 1) ≤ 1024 = n in
    let f1 : Fine b o (i + 1) = record { brackets = f.brackets; operators = f.operators; ifs = omega arith } in
    let f2 : Fine b (operators_of test) (i + 1) = record { brackets = f.brackets; operators = s.0; ifs = omega arith } in
    let hb : b ≤ 64 = f.brackets in
    step_keeps (counts b o i) Tests (OpensWhole ∷ ((of_expr test ++ Closes ∷ (of_statement yes' ++ Plain ∷ of_statement no')) ++ rest)) b o (i + 1) refl f1 (rw (append_assoc (of_expr test) (Closes ∷ (of_statement yes' ++ Plain ∷ of_statement no')) rest)
    (held_from test b o (i + 1) ((of_statement yes' ++ Plain ∷ of_statement no') ++ rest) (omega arith) (omega arith) s.0 (rw (append_assoc (of_statement yes') (Plain ∷ of_statement no') rest)
    (limits_in yes' b (operators_of test) (i + 1) (Plain ∷ (of_statement no' ++ rest)) f2 (omega arith) (omega arith) s.1
    (λ o' g. (let f3 : Fine b o' (i + 1 + ifs_in yes') = record { brackets = hb; operators = g; ifs = omega arith } in
    step_keeps (counts b o' (i + 1 + ifs_in yes')) Plain (of_statement no' ++ rest) b o' (i + 1 + ifs_in yes') refl f3 (limits_in no' b o' (i + 1 + ifs_in yes') rest f3 (omega arith) (omega arith) s.2
    (λ o2 g2. keeps_at b o2 (i + (ifs_in yes' + ifs_in no' + 1)) b o2 (i + 1 + ifs_in yes' + ifs_in no') rest refl refl (omega arith) (h o2 g2)))))))))
limits_in (Block statements) b o i rest f d n s h =
    let m : b + (depth_in statements + 1) ≤ 64 = d in
    let f1 : Fine (b + 1) o i = record { brackets = omega arith; operators = f.operators; ifs = f.ifs } in
    let hb : b ≤ 64 = f.brackets in
    step_keeps (counts b o i) Opens ((of_statement statements ++ Closes ∷ []) ++ rest) (b + 1) o i refl f1 (rw (append_assoc (of_statement statements) (Closes ∷ []) rest)
    (limits_in statements (b + 1) o i (Closes ∷ rest) f1 (omega arith) n s
    (λ o' g. step_keeps (counts (b + 1) o' (i + ifs_in statements)) Closes rest b o' (i + ifs_in statements) (ap (λ (x : ℕ). counts x o' (i + ifs_in statements)) (omega arith)) (record { brackets = hb; operators = g; ifs = n }) (h o' g))))
limits_in (Listed first rest') b o i rest f d n s h =
    let m : b + max (depth_in first) (depth_in rest') ≤ 64 = d in
    let t : i + (ifs_in first + ifs_in rest') ≤ 1024 = n in
    let hb : b ≤ 64 = f.brackets in
    rw (append_assoc (of_statement first) (of_statement rest') rest) (limits_in first b o i (of_statement rest' ++ rest) f (omega arith) (omega arith) s.0
    (λ o' g. limits_in rest' b o' (i + ifs_in first) rest (record { brackets = hb; operators = g; ifs = omega arith }) (omega arith) (omega arith) s.1
    (λ o2 g2. keeps_at b o2 (i + (ifs_in first + ifs_in rest')) b o2 (i + ifs_in first + ifs_in rest') rest refl refl (omega arith) (h o2 g2))))
limits_in Ended b o i rest f d n s h = keeps_at b o (i + 0) b o i rest refl refl (omega arith) (h o f.operators)

-- ---- items and modules

plains : {A : Type 0} (ts : List A) (b o i : ℕ) (rest : List Role) → Keeps (counts b o i) (plain_for ts ++ rest) → Keeps (counts b o i) rest
plains [] b o i rest h = h
plains (t ∷ ts) b o i rest h = plains ts b o i rest (keeps_step (counts b o i) Plain (plain_for ts ++ rest) b o i refl h).1

plain_back : {A : Type 0} (ts : List A) (b o i : ℕ) (rest : List Role) → Fine b o i → Keeps (counts b o i) rest → Keeps (counts b o i) (plain_for ts ++ rest)
plain_back [] b o i rest f h = h
plain_back (t ∷ ts) b o i rest f h = step_keeps (counts b o i) Plain (plain_for ts ++ rest) b o i refl f (plain_back ts b o i rest f h)

none : Fine 0 0 0
none = record { brackets = omega arith; operators = omega arith; ifs = omega arith }

begun : (b o i : ℕ) (rest : List Role) → Keeps (counts b o i) (Begins ∷ rest) → Keeps (counts 0 0 0) rest
begun b o i rest h = (keeps_step (counts b o i) Begins rest 0 0 0 refl h).1

begins : (b o i : ℕ) (rest : List Role) → Keeps (counts 0 0 0) rest → Keeps (counts b o i) (Begins ∷ rest)
begins b o i rest h = step_keeps (counts b o i) Begins rest 0 0 0 refl none h

over : (b o i : ℕ) (rest : List Role) → Keeps (counts b o i) (Plain ∷ rest) → Keeps (counts b o i) rest
over b o i rest h = (keeps_step (counts b o i) Plain rest b o i refl h).1

under : (b o i : ℕ) (rest : List Role) → Fine b o i → Keeps (counts b o i) rest → Keeps (counts b o i) (Plain ∷ rest)
under b o i rest f h = step_keeps (counts b o i) Plain rest b o i refl f h

declared_to : {A B : Type 0} (r : List A) (ns : List B) (b o i : ℕ) (rest : List Role) → Keeps (counts b o i) (Begins ∷ ((plain_for r ++ (plain_for ns ++ Plain ∷ [])) ++ rest)) → Keeps (counts 0 0 0) rest
declared_to r ns b o i rest h =
    let p = begun b o i ((plain_for r ++ (plain_for ns ++ Plain ∷ [])) ++ rest) h in
    let q = plains r 0 0 0 ((plain_for ns ++ Plain ∷ []) ++ rest) (rw (append_assoc (plain_for r) (plain_for ns ++ Plain ∷ []) rest) at p) in
    over 0 0 0 rest (plains ns 0 0 0 (Plain ∷ rest) (rw (append_assoc (plain_for ns) (Plain ∷ []) rest) at q))

declared_from : {A B : Type 0} (r : List A) (ns : List B) (b o i : ℕ) (rest : List Role) → Keeps (counts 0 0 0) rest → Keeps (counts b o i) (Begins ∷ ((plain_for r ++ (plain_for ns ++ Plain ∷ [])) ++ rest))
declared_from r ns b o i rest h = begins b o i ((plain_for r ++ (plain_for ns ++ Plain ∷ [])) ++ rest)
    (rw (append_assoc (plain_for r) (plain_for ns ++ Plain ∷ []) rest) (plain_back r 0 0 0 ((plain_for ns ++ Plain ∷ []) ++ rest) none (rw (append_assoc (plain_for ns) (Plain ∷ []) rest) (plain_back ns 0 0 0 (Plain ∷ rest) none (under 0 0 0 rest none h)))))

limited_item : (item : WrittenItem) (b o i : ℕ) (rest : List Role) → Keeps (counts b o i) (of_item item ++ rest) → KeepsLimits item × ((b' : ℕ) × (o' : ℕ) × (i' : ℕ) × Keeps (counts b' o' i') rest)
limited_item (Wires range names) b o i rest h = (tt, (0, 0, 0, declared_to (spell_range range) (spell_names names) b o i rest h))
limited_item (Registers range names) b o i rest h = (tt, (0, 0, 0, declared_to (spell_range range) (spell_names names) b o i rest h))
limited_item (MemoryOf range name last) b o i rest h =
    let p = begun b o i ((plain_for (spell_range range) ++ Plain ∷ Plain ∷ Plain ∷ Plain ∷ Plain ∷ Plain ∷ Plain ∷ []) ++ rest) h in
    let q = plains (spell_range range) 0 0 0 (Plain ∷ Plain ∷ Plain ∷ Plain ∷ Plain ∷ Plain ∷ Plain ∷ rest) (rw (append_assoc (plain_for (spell_range range)) (Plain ∷ Plain ∷ Plain ∷ Plain ∷ Plain ∷ Plain ∷ Plain ∷ []) rest) at p) in
    (tt, (0, 0, 0, over 0 0 0 rest (over 0 0 0 (Plain ∷ rest) (over 0 0 0 (Plain ∷ Plain ∷ rest) (over 0 0 0 (Plain ∷ Plain ∷ Plain ∷ rest) (over 0 0 0 (Plain ∷ Plain ∷ Plain ∷ Plain ∷ rest) (over 0 0 0 (Plain ∷ Plain ∷ Plain ∷ Plain ∷ Plain ∷ rest) (over 0 0 0 (Plain ∷ Plain ∷ Plain ∷ Plain ∷ Plain ∷ Plain ∷ rest) q))))))))
limited_item (Assign target value) b o i rest h =
    let p = over 0 0 0 (Starts ∷ ((of_expr value ++ Plain ∷ []) ++ rest)) (begun b o i (Plain ∷ Starts ∷ ((of_expr value ++ Plain ∷ []) ++ rest)) h) in
    let x = whole_to value 0 0 0 rest p in
    (((let t : 0 + depth_of value ≤ 64 = x.0 in omega arith), x.1), (0, operators_of value, 0, x.2))
limited_item (Always clock body) b o i rest h =
    let p = begun b o i (Plain ∷ Plain ∷ Plain ∷ Plain ∷ Plain ∷ (of_statement body ++ rest)) h in
    let q = over 0 0 0 (of_statement body ++ rest) (over 0 0 0 (Plain ∷ (of_statement body ++ rest)) (over 0 0 0 (Plain ∷ Plain ∷ (of_statement body ++ rest)) (over 0 0 0 (Plain ∷ Plain ∷ Plain ∷ (of_statement body ++ rest)) (over 0 0 0 (Plain ∷ Plain ∷ Plain ∷ Plain ∷ (of_statement body ++ rest)) p)))) in
    let x = limited_in body 0 0 0 rest none q in
    (((let t : 0 + depth_in body ≤ 64 = x.depth' in omega arith), (let t : 0 + ifs_in body ≤ 1024 = x.ifs' in omega arith), x.short), (0, x.left, 0 + ifs_in body, x.rest'))

limits_item : (item : WrittenItem) (b o i : ℕ) (rest : List Role) → KeepsLimits item → ((b' o' i' : ℕ) → Fine b' o' i' → Keeps (counts b' o' i') rest) → Keeps (counts b o i) (of_item item ++ rest)
limits_item (Wires range names) b o i rest k h = declared_from (spell_range range) (spell_names names) b o i rest (h 0 0 0 none)
limits_item (Registers range names) b o i rest k h = declared_from (spell_range range) (spell_names names) b o i rest (h 0 0 0 none)
limits_item (MemoryOf range name last) b o i rest k h =
    begins b o i ((plain_for (spell_range range) ++ Plain ∷ Plain ∷ Plain ∷ Plain ∷ Plain ∷ Plain ∷ Plain ∷ []) ++ rest) (rw (append_assoc (plain_for (spell_range range)) (Plain ∷ Plain ∷ Plain ∷ Plain ∷ Plain ∷ Plain ∷ Plain ∷ []) rest)
    (plain_back (spell_range range) 0 0 0 (Plain ∷ Plain ∷ Plain ∷ Plain ∷ Plain ∷ Plain ∷ Plain ∷ rest) none (under 0 0 0 (Plain ∷ Plain ∷ Plain ∷ Plain ∷ Plain ∷ Plain ∷ rest) none (under 0 0 0 (Plain ∷ Plain ∷ Plain ∷ Plain ∷ Plain ∷ rest) none (under 0 0 0 (Plain ∷ Plain ∷ Plain ∷ Plain ∷ rest) none
    (under 0 0 0 (Plain ∷ Plain ∷ Plain ∷ rest) none (under 0 0 0 (Plain ∷ Plain ∷ rest) none (under 0 0 0 (Plain ∷ rest) none (under 0 0 0 rest none (h 0 0 0 none))))))))))
limits_item (Assign target value) b o i rest k h =
    begins b o i (Plain ∷ Starts ∷ ((of_expr value ++ Plain ∷ []) ++ rest)) (under 0 0 0 (Starts ∷ ((of_expr value ++ Plain ∷ []) ++ rest)) none
    (whole_from value 0 0 0 rest (omega arith) (omega arith) (let t : depth_of value ≤ 64 = k.0 in omega arith) k.1 (h 0 (operators_of value) 0 (record { brackets = omega arith; operators = k.1; ifs = omega arith }))))
limits_item (Always clock body) b o i rest k h =
    let d : depth_in body ≤ 64 = k.0 in
    let n : ifs_in body ≤ 1024 = k.1 in
    begins b o i (Plain ∷ Plain ∷ Plain ∷ Plain ∷ Plain ∷ (of_statement body ++ rest)) (under 0 0 0 (Plain ∷ Plain ∷ Plain ∷ Plain ∷ (of_statement body ++ rest)) none (under 0 0 0 (Plain ∷ Plain ∷ Plain ∷ (of_statement body ++ rest)) none (under 0 0 0 (Plain ∷ Plain ∷ (of_statement body ++ rest)) none (under 0 0 0 (Plain ∷ (of_statement body ++ rest)) none (under 0 0 0 (of_statement body ++ rest) none
    (limits_in body 0 0 0 rest none (omega arith) (omega arith) k.2 (λ o' g. h 0 o' (0 + ifs_in body) (record { brackets = omega arith; operators = g; ifs = omega arith }))))))))

limited_items : (items : List WrittenItem) (b o i : ℕ) → Keeps (counts b o i) (of_items items ++ Begins ∷ []) → AllByRecursion KeepsLimits items
limited_items [] b o i h = tt
limited_items (x ∷ items) b o i h =
    let p = limited_item x b o i (of_items items ++ Begins ∷ []) (rw (append_assoc (of_item x) (of_items items) (Begins ∷ [])) at h) in
    (p.0, limited_items items p.1.0 p.1.1 p.1.2 p.1.3)

limits_items : (items : List WrittenItem) (b o i : ℕ) → AllByRecursion KeepsLimits items → Keeps (counts b o i) (of_items items ++ Begins ∷ [])
limits_items [] b o i k = begins b o i [] refl
limits_items (x ∷ items) b o i k = rw (append_assoc (of_item x) (of_items items) (Begins ∷ [])) (limits_item x b o i (of_items items ++ Begins ∷ []) k.0 (λ b' o' i' f. limits_items items b' o' i' k.1))

more_ports_to : (ps : List WrittenPort) (rest : List Role) → Keeps (counts 0 0 0) (of_more_ports ps ++ rest) → Keeps (counts 0 0 0) rest
more_ports_to [] rest h = h
more_ports_to (p ∷ ps) rest h = more_ports_to ps rest (plains (spell_port p) 0 0 0 (of_more_ports ps ++ rest) (rw (append_assoc (plain_for (spell_port p)) (of_more_ports ps) rest) at (over 0 0 0 ((plain_for (spell_port p) ++ of_more_ports ps) ++ rest) h)))

more_ports_from : (ps : List WrittenPort) (rest : List Role) → Keeps (counts 0 0 0) rest → Keeps (counts 0 0 0) (of_more_ports ps ++ rest)
more_ports_from [] rest h = h
more_ports_from (p ∷ ps) rest h = under 0 0 0 ((plain_for (spell_port p) ++ of_more_ports ps) ++ rest) none (rw (append_assoc (plain_for (spell_port p)) (of_more_ports ps) rest) (plain_back (spell_port p) 0 0 0 (of_more_ports ps ++ rest) none (more_ports_from ps rest h)))

ports_to : (ps : List WrittenPort) (rest : List Role) → Keeps (counts 0 0 0) (of_ports ps ++ rest) → Keeps (counts 0 0 0) rest
ports_to [] rest h = h
ports_to (p ∷ ps) rest h = more_ports_to ps rest (plains (spell_port p) 0 0 0 (of_more_ports ps ++ rest) (rw (append_assoc (plain_for (spell_port p)) (of_more_ports ps) rest) at h))

ports_from : (ps : List WrittenPort) (rest : List Role) → Keeps (counts 0 0 0) rest → Keeps (counts 0 0 0) (of_ports ps ++ rest)
ports_from [] rest h = h
ports_from (p ∷ ps) rest h = rw (append_assoc (plain_for (spell_port p)) (of_more_ports ps) rest) (plain_back (spell_port p) 0 0 0 (of_more_ports ps ++ rest) none (more_ports_from ps rest h))

-- THE LIMITS, both ways
pub within : (m : WrittenModule) → keeps_limits none_counted (roles_of m) ≡ true → IsWithinLimits m
within m h =
    let items = of_items m.items ++ Begins ∷ [] in
    let p = over 0 0 0 (of_ports m.ports ++ Plain ∷ Plain ∷ (of_items m.items ++ Begins ∷ [])) (over 0 0 0 (Plain ∷ (of_ports m.ports ++ Plain ∷ Plain ∷ (of_items m.items ++ Begins ∷ []))) (over 0 0 0 (Plain ∷ Plain ∷ (of_ports m.ports ++ Plain ∷ Plain ∷ (of_items m.items ++ Begins ∷ []))) h)) in
    let q = ports_to m.ports (Plain ∷ Plain ∷ (of_items m.items ++ Begins ∷ [])) p in
    limited_items m.items 0 0 0 (over 0 0 0 (of_items m.items ++ Begins ∷ []) (over 0 0 0 (Plain ∷ (of_items m.items ++ Begins ∷ [])) q))

pub within_keeps : (m : WrittenModule) → IsWithinLimits m → keeps_limits none_counted (roles_of m) ≡ true
within_keeps m k =
    under 0 0 0 (Plain ∷ Plain ∷ (of_ports m.ports ++ Plain ∷ Plain ∷ (of_items m.items ++ Begins ∷ []))) none (under 0 0 0 (Plain ∷ (of_ports m.ports ++ Plain ∷ Plain ∷ (of_items m.items ++ Begins ∷ []))) none (under 0 0 0 (of_ports m.ports ++ Plain ∷ Plain ∷ (of_items m.items ++ Begins ∷ [])) none
    (ports_from m.ports (Plain ∷ Plain ∷ (of_items m.items ++ Begins ∷ [])) (under 0 0 0 (Plain ∷ (of_items m.items ++ Begins ∷ [])) none (under 0 0 0 (of_items m.items ++ Begins ∷ []) none (limits_items m.items 0 0 0 k))))))
