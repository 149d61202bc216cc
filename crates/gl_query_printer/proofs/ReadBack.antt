-- What is read from tokens that are the canonical ones but for their places.
use Rattle.std.proofs.Common.{◌≡◌, ℕ, ◌<◌, ◌≤◌, Bool, true, false, List, [], ◌∷◌, ◌++◌, map, None, refl, sym, ap, subst, ◌∙◌, arith, leb-true, lit<, inl, inr}
use Rattle.std.specs.Prelude.{◌||◌, nat_le, nat_lt, if◌then◌else◌}
use Rattle.std.specs.List.{AllByRecursion, list_any}
use Rattle.std.proofs.lemmas.Bool.{ltb-true, true≢false}
use Rattle.std.proofs.lemmas.Slice.Eq.{bytes_eq-Decides}
use Rattle.gl_schema.specs.SchemaText.{kind_text}
use Rattle.gl_query.specs.declared.tree.Num.{Num}
use Rattle.gl_values.specs.declared.op.Op.{Op}
use Rattle.gl_values.specs.declared.op.Op.TheVariants as op
use Rattle.gl_query.specs.Shapes.{ExprShape, AggShape, ItemShape, AggItemShape}
use Rattle.gl_query.specs.Shapes as shape
use Rattle.gl_query_tokens.specs.declared.token.Fold.{Fold}
use Rattle.gl_query_tokens.specs.declared.token.Fold.TheVariants.{Sum, Min, Max, Avg}
use Rattle.gl_query_tokens.specs.declared.token.Plain.TheVariants as plain
use Rattle.gl_query_tokens.specs.declared.token.Token.{Token}
use Rattle.gl_query_tokens.specs.declared.token.Token.TheVariants as token
use Rattle.gl_query_reader.specs.Written as written
use Rattle.gl_query_reader.specs.Written.{level, looseness, left_looseness, IsExpr, IsAgg, IsItem, AreItems, spell, spell_numbers, spell_agg, spell_item, spell_items}
use Rattle.gl_query_reader.specs.Meaning.{expr_meaning, agg_meaning, plain_items, agg_items, is_total, is_framed, has_over}
use Rattle.gl_query_reader.specs.Mixed.{first_other, same}
use Rattle.gl_query.specs.Alike.{expr_alike, agg_alike, item_alike, agg_item_alike}
use Rattle.gl_query_printer.specs.Canonical.{name_of, num_of, column_of, fitted, expr_of, agg_of, is_bare, item_of, agg_item_of}
use Rattle.gl_query_printer.proofs.Named.{name_column, parameter_column}
use Rattle.gl_query_printer.proofs.Places.{placeless, parts, first, alone}
use Rattle.gl_query_printer.proofs.Writable.{CanBeColumn, CanBeExpr, CanBeAgg, CanBeItem, CanBeAggItem}

-- ---- lists of tokens, part by part

pub cons : (t : Token) (us rest ss : List Token) → us ≡ t ∷ rest → ss ≡ rest → t ∷ ss ≡ us
cons t us rest ss a b = ap (λ (ts : List Token). t ∷ ts) b ∙ sym a

pub two : (us front back xs ys : List Token) → us ≡ front ++ back → xs ≡ front → ys ≡ back → xs ++ ys ≡ us
two us front back xs ys a b c = ap (λ (ts : List Token). ts ++ ys) b ∙ ap (λ (ts : List Token). front ++ ts) c ∙ sym a

-- ---- expressions

pub record ReadExpr (us : List Token) (e : ExprShape) : Type 0 where
  pub tree : written.Expr
  pub spelled : spell tree ≡ us
  pub level_is : level tree ≡ level (expr_of e)
  pub grammar : IsExpr tree
  pub alike : expr_alike (expr_meaning tree) ≡ e

-- an operand, as loose as its place allows
pub record Operand (P : ℕ → Type 0) (us : List Token) (e : ExprShape) : Type 0 where
  pub tree : written.Expr
  pub spelled : spell tree ≡ us
  pub fits : P (level tree)
  pub grammar : IsExpr tree
  pub alike : expr_alike (expr_meaning tree) ≡ e

operand : (P : ℕ → Type 0) (b : Bool) (e : ExprShape) → (b ≡ true → P (level (expr_of e))) → P 0 → ((us : List Token) → map placeless us ≡ spell (expr_of e) → ReadExpr us e)
    → (us : List Token) → map placeless us ≡ spell (fitted b (expr_of e)) → Operand P us e
operand P true e f z r us h = let x = r us h in record { tree = x.tree; spelled = x.spelled; fits = subst P (sym x.level_is) (f refl); grammar = x.grammar; alike = x.alike }
operand P false e f z r us h =
    let a = first us (token.Open 0) (spell (expr_of e) ++ token.Plain plain.Close ∷ []) h in
    let p = parts a.rest (spell (expr_of e)) (token.Plain plain.Close ∷ []) a.rest_is in
    let c = alone p.back (token.Plain plain.Close) p.back_is in
    let x = r p.front p.front_is in
    record {
      tree = written.Brackets a.at x.tree;
      spelled = cons (token.Open a.at) us a.rest _ a.whole (two a.rest p.front p.back (spell x.tree) _ p.whole x.spelled (sym c.whole));
      fits = z;
      grammar = x.grammar;
      alike = x.alike;
    }

binds : (o : Op) → 0 < looseness o
binds op.Mul = lit< tt
binds op.Add = lit< tt
binds op.Sub = lit< tt
binds op.BitAnd = lit< tt
binds op.BitOr = lit< tt
binds op.BitXor = lit< tt
binds op.ShiftLeft = lit< tt
binds op.ShiftRight = lit< tt
binds op.Eq = lit< tt
binds op.Ne = lit< tt
binds op.Lt = lit< tt
binds op.Le = lit< tt
binds op.Gt = lit< tt
binds op.Ge = lit< tt
binds op.And = lit< tt
binds op.Or = lit< tt

none_least : (n : ℕ) → 0 ≤ n
none_least n = omega arith

read_column : (name : List ℕ) → CanBeColumn name → (us : List Token) → map placeless us ≡ spell (column_of name) → ReadExpr us (shape.Column name)
read_column name (inl c) us h =
    let a = alone us (token.Name (name_of name)) (subst (λ (e : written.Expr). map placeless us ≡ spell e) (name_column name c) h) in
    record { tree = written.Column (record { text = name; at = a.at }); spelled = sym a.whole; level_is = sym (ap level (name_column name c)); grammar = tt; alike = refl }
read_column [] (inr c) us h = absurd c
read_column (b ∷ name) (inr c) us h =
    let a = first us (token.Colon 0) (token.Name (name_of name) ∷ []) (subst (λ (e : written.Expr). map placeless us ≡ spell e) (parameter_column b name c.0) h) in
    let n = alone a.rest (token.Name (name_of name)) a.rest_is in
    record {
      tree = written.Parameter a.at (record { text = name; at = n.at });
      spelled = cons (token.Colon a.at) us a.rest _ a.whole (sym n.whole);
      level_is = sym (ap level (parameter_column b name c.0));
      grammar = tt;
      alike = ap (λ (x : ℕ). shape.Column (x ∷ name)) (sym c.0);
    }

pub read_expr : (e : ExprShape) → CanBeExpr e → (us : List Token) → map placeless us ≡ spell (expr_of e) → ReadExpr us e
read_expr (shape.Column name) c us h = read_column name c us h
read_expr (shape.Number n) c us h =
    let a = alone us (token.Number (num_of n)) h in
    record { tree = written.Number (record { value = n; at = a.at }); spelled = sym a.whole; level_is = refl; grammar = tt; alike = refl }
read_expr (shape.Minus n) c us h =
    let a = first us (token.Operator op.Sub 0) (token.Number (num_of n) ∷ []) h in
    let b = alone a.rest (token.Number (num_of n)) a.rest_is in
    record {
      tree = written.Minus a.at (record { value = n; at = b.at });
      spelled = cons (token.Operator op.Sub a.at) us a.rest _ a.whole (sym b.whole);
      level_is = refl;
      grammar = tt;
      alike = refl;
    }
read_expr (shape.Letters text) c us h =
    let a = alone us (token.Letters text 0) h in
    record { tree = written.Letters text a.at; spelled = sym a.whole; level_is = refl; grammar = tt; alike = refl }
read_expr (shape.Not e) c us h =
    let a = first us (token.Not 0) (spell (fitted (nat_lt (level (expr_of e)) 9) (expr_of e))) h in
    let x = operand (λ n. n < 9) (nat_lt (level (expr_of e)) 9) e (λ t. ltb-true (level (expr_of e)) 9 t) (lit< tt) (λ vs k. read_expr e c vs k) a.rest a.rest_is in
    record {
      tree = written.Not a.at x.tree;
      spelled = cons (token.Not a.at) us a.rest (spell x.tree) a.whole x.spelled;
      level_is = refl;
      grammar = (x.fits, x.grammar);
      alike = ap shape.Not x.alike;
    }
read_expr (shape.Flip e) c us h =
    let a = first us (token.Tilde 0) (spell (fitted (nat_lt (level (expr_of e)) 2) (expr_of e))) h in
    let x = operand (λ n. n < 2) (nat_lt (level (expr_of e)) 2) e (λ t. ltb-true (level (expr_of e)) 2 t) (lit< tt) (λ vs k. read_expr e c vs k) a.rest a.rest_is in
    record {
      tree = written.Flip a.at x.tree;
      spelled = cons (token.Tilde a.at) us a.rest (spell x.tree) a.whole x.spelled;
      level_is = refl;
      grammar = (x.fits, x.grammar);
      alike = ap shape.Flip x.alike;
    }
read_expr (shape.Cast kind e) c us h =
    let end : List Token = token.Plain plain.As ∷ token.Name (name_of (kind_text kind)) ∷ token.Plain plain.Close ∷ [] in
    let a = first us (token.Cast 0) (token.Open 0 ∷ (spell (expr_of e) ++ end)) h in
    let b = first a.rest (token.Open 0) (spell (expr_of e) ++ end) a.rest_is in
    let p = parts b.rest (spell (expr_of e)) end b.rest_is in
    let x = read_expr e c.0 p.front p.front_is in
    let f = first p.back (token.Plain plain.As) (token.Name (name_of (kind_text kind)) ∷ token.Plain plain.Close ∷ []) p.back_is in
    let g = first f.rest (token.Name (name_of (kind_text kind))) (token.Plain plain.Close ∷ []) f.rest_is in
    let k = alone g.rest (token.Plain plain.Close) g.rest_is in
    record {
      tree = written.Cast a.at b.at x.tree (record { text = kind_text kind; at = g.at }) kind;
      spelled = cons (token.Cast a.at) us a.rest _ a.whole (cons (token.Open b.at) a.rest b.rest _ b.whole (two b.rest p.front p.back (spell x.tree) _ p.whole x.spelled
          (cons (token.Plain plain.As) p.back f.rest _ f.whole (cons (token.Name (record { text = kind_text kind; at = g.at })) f.rest g.rest _ g.whole (sym k.whole)))));
      level_is = refl;
      grammar = (x.grammar, c.2);
      alike = ap (shape.Cast kind) x.alike;
    }
read_expr (shape.Binary o l r) c us h =
    let left = fitted (nat_le (level (expr_of l)) (left_looseness o)) (expr_of l) in
    let right = fitted (nat_lt (level (expr_of r)) (looseness o)) (expr_of r) in
    let p = parts us (spell left) (token.Operator o 0 ∷ spell right) h in
    let a = first p.back (token.Operator o 0) (spell right) p.back_is in
    let x = operand (λ n. n ≤ left_looseness o) (nat_le (level (expr_of l)) (left_looseness o)) l (λ t. leb-true (level (expr_of l)) (left_looseness o) t) (none_least (left_looseness o)) (λ vs k. read_expr l c.0 vs k) p.front p.front_is in
    let y = operand (λ n. n < looseness o) (nat_lt (level (expr_of r)) (looseness o)) r (λ t. ltb-true (level (expr_of r)) (looseness o) t) (binds o) (λ vs k. read_expr r c.1 vs k) a.rest a.rest_is in
    record {
      tree = written.Binary o a.at x.tree y.tree;
      spelled = two us p.front p.back (spell x.tree) _ p.whole x.spelled (cons (token.Operator o a.at) p.back a.rest (spell y.tree) a.whole y.spelled);
      level_is = refl;
      grammar = (x.fits, y.fits, x.grammar, y.grammar);
      alike = ap (λ (z : ExprShape). shape.Binary o z (expr_alike (expr_meaning y.tree))) x.alike ∙ ap (shape.Binary o l) y.alike;
    }

-- ---- aggregates

pub record ReadNumbers (us : List Token) (n : ℕ) (ns : List ℕ) : Type 0 where
  pub first' : Num
  pub rest : List Num
  pub spelled : spell_numbers (first' ∷ rest) ≡ us
  pub alike : map (λ (m : Num). m.value) (first' ∷ rest) ≡ n ∷ ns

read_numbers : (n : ℕ) (ns : List ℕ) (us : List Token) → map placeless us ≡ spell_numbers (map num_of (n ∷ ns)) → ReadNumbers us n ns
read_numbers n [] us h =
    let a = alone us (token.Number (num_of n)) h in
    record { first' = record { value = n; at = a.at }; rest = []; spelled = sym a.whole; alike = refl }
read_numbers n (m ∷ ns) us h =
    let more = spell_numbers (map num_of (m ∷ ns)) in
    let a = first us (token.Number (num_of n)) (token.Plain plain.Comma ∷ more) h in
    let b = first a.rest (token.Plain plain.Comma) more a.rest_is in
    let r = read_numbers m ns b.rest b.rest_is in
    record {
      first' = record { value = n; at = a.at };
      rest = r.first' ∷ r.rest;
      spelled = cons (token.Number (record { value = n; at = a.at })) us a.rest _ a.whole (cons (token.Plain plain.Comma) a.rest b.rest (spell_numbers (r.first' ∷ r.rest)) b.whole r.spelled);
      alike = ap (λ (xs : List ℕ). n ∷ xs) r.alike;
    }

pub record ReadAgg (us : List Token) (a : AggShape) : Type 0 where
  pub tree : written.Agg
  pub spelled : spell_agg tree ≡ us
  pub grammar : IsAgg tree
  pub alike : agg_alike (agg_meaning tree) ≡ a

pub record ReadFold (us : List Token) (f : Fold) (e : ExprShape) : Type 0 where
  pub at : ℕ
  pub open' : ℕ
  pub arg : written.Expr
  pub spelled : spell_agg (written.Fold' f at open' arg) ≡ us
  pub grammar : IsExpr arg
  pub alike : expr_alike (expr_meaning arg) ≡ e

pub read_fold : (f : Fold) (e : ExprShape) → CanBeExpr e → (us : List Token) → map placeless us ≡ spell_agg (written.Fold' f 0 0 (expr_of e)) → ReadFold us f e
read_fold f e c us h =
    let a = first us (token.Fold f 0) (token.Open 0 ∷ (spell (expr_of e) ++ token.Plain plain.Close ∷ [])) h in
    let b = first a.rest (token.Open 0) (spell (expr_of e) ++ token.Plain plain.Close ∷ []) a.rest_is in
    let p = parts b.rest (spell (expr_of e)) (token.Plain plain.Close ∷ []) b.rest_is in
    let x = read_expr e c p.front p.front_is in
    let k = alone p.back (token.Plain plain.Close) p.back_is in
    record {
      at = a.at;
      open' = b.at;
      arg = x.tree;
      spelled = cons (token.Fold f a.at) us a.rest _ a.whole (cons (token.Open b.at) a.rest b.rest _ b.whole (two b.rest p.front p.back (spell x.tree) _ p.whole x.spelled (sym k.whole)));
      grammar = x.grammar;
      alike = x.alike;
    }

read_agg : (a : AggShape) → CanBeAgg a → (us : List Token) → map placeless us ≡ spell_agg (agg_of a) → ReadAgg us a
read_agg shape.Count c us h =
    let a = first us (token.Count 0) (token.Open 0 ∷ token.Plain plain.Close ∷ []) h in
    let b = first a.rest (token.Open 0) (token.Plain plain.Close ∷ []) a.rest_is in
    let k = alone b.rest (token.Plain plain.Close) b.rest_is in
    record {
      tree = written.Count a.at b.at;
      spelled = cons (token.Count a.at) us a.rest _ a.whole (cons (token.Open b.at) a.rest b.rest _ b.whole (sym k.whole));
      grammar = tt;
      alike = refl;
    }
read_agg (shape.Sum e) c us h = let x = read_fold Sum e c us h in record { tree = written.Fold' Sum x.at x.open' x.arg; spelled = x.spelled; grammar = x.grammar; alike = ap shape.Sum x.alike }
read_agg (shape.Min e) c us h = let x = read_fold Min e c us h in record { tree = written.Fold' Min x.at x.open' x.arg; spelled = x.spelled; grammar = x.grammar; alike = ap shape.Min x.alike }
read_agg (shape.Max e) c us h = let x = read_fold Max e c us h in record { tree = written.Fold' Max x.at x.open' x.arg; spelled = x.spelled; grammar = x.grammar; alike = ap shape.Max x.alike }
read_agg (shape.Avg e) c us h = let x = read_fold Avg e c us h in record { tree = written.Fold' Avg x.at x.open' x.arg; spelled = x.spelled; grammar = x.grammar; alike = ap shape.Avg x.alike }
read_agg (shape.Wsum e []) c us h = absurd c.1
read_agg (shape.Wsum e (n ∷ ns)) c us h =
    let close : List Token = token.Plain plain.RightSquare ∷ token.Plain plain.Close ∷ [] in
    let numbers = spell_numbers (map num_of (n ∷ ns)) in
    let list : List Token = token.Plain plain.LeftSquare ∷ (numbers ++ close) in
    let a = first us (token.Wsum 0) (token.Open 0 ∷ (spell (expr_of e) ++ token.Plain plain.Comma ∷ list)) h in
    let b = first a.rest (token.Open 0) (spell (expr_of e) ++ token.Plain plain.Comma ∷ list) a.rest_is in
    let p = parts b.rest (spell (expr_of e)) (token.Plain plain.Comma ∷ list) b.rest_is in
    let x = read_expr e c.0 p.front p.front_is in
    let d = first p.back (token.Plain plain.Comma) list p.back_is in
    let f = first d.rest (token.Plain plain.LeftSquare) (numbers ++ close) d.rest_is in
    let q = parts f.rest numbers close f.rest_is in
    let y = read_numbers n ns q.front q.front_is in
    let g = first q.back (token.Plain plain.RightSquare) (token.Plain plain.Close ∷ []) q.back_is in
    let k = alone g.rest (token.Plain plain.Close) g.rest_is in
    record {
      tree = written.Wsum a.at b.at x.tree (y.first' ∷ y.rest);
      spelled = cons (token.Wsum a.at) us a.rest _ a.whole (cons (token.Open b.at) a.rest b.rest _ b.whole (two b.rest p.front p.back (spell x.tree) _ p.whole x.spelled
          (cons (token.Plain plain.Comma) p.back d.rest _ d.whole (cons (token.Plain plain.LeftSquare) d.rest f.rest _ f.whole (two f.rest q.front q.back (spell_numbers (y.first' ∷ y.rest)) _ q.whole y.spelled
          (cons (token.Plain plain.RightSquare) q.back g.rest _ g.whole (sym k.whole)))))));
      grammar = x.grammar;
      alike = ap (λ (z : ExprShape). shape.Wsum z (map (λ (m : Num). m.value) (y.first' ∷ y.rest))) x.alike ∙ ap (shape.Wsum e) y.alike;
    }

-- ---- items

-- an item with this property, whose part in the result is this one; it has OVER where f says so
pub record ReadOne {A : Type 0} (P : written.Item → Type 0) (g : List written.Item → List A) (f : A → Bool) (b : Bool) (us : List Token) (i : A) : Type 0 where
  pub tree : written.Item
  pub spelled : spell_item tree ≡ us
  pub grammar : IsItem tree
  pub total : is_total tree ≡ b
  pub framed : is_framed tree ≡ f i
  pub own : P tree
  pub alike : g (tree ∷ []) ≡ i ∷ []

pub record ReadList {A : Type 0} (P : written.Item → Type 0) (g : List written.Item → List A) (f : A → Bool) (b : Bool) (us : List Token) (i : A) (is : List A) : Type 0 where
  pub first' : written.Item
  pub rest : List written.Item
  pub spelled : spell_items (first' ∷ rest) ≡ us
  pub grammar : AreItems (first' ∷ rest)
  pub total : is_total first' ≡ b
  pub others : first_other b rest ≡ None
  pub over : has_over (first' ∷ rest) ≡ list_any f (i ∷ is)
  pub own : AllByRecursion P (first' ∷ rest)
  pub alike : g (first' ∷ rest) ≡ i ∷ is

same_refl : (b : Bool) → same b b ≡ true
same_refl true = refl
same_refl false = refl

others_more : (b : Bool) (i : written.Item) (is : List written.Item) → is_total i ≡ b → first_other b is ≡ None → first_other b (i ∷ is) ≡ None
others_more b i is e h = rw (e, same_refl b) h

over_with : {A : Type 0} (o : A → Bool) (t : written.Item) (ts : List written.Item) (i : A) (is : List A) → is_framed t ≡ o i → has_over ts ≡ list_any o is → has_over (t ∷ ts) ≡ list_any o (i ∷ is)
over_with o t ts i is e h = ap (λ (x : Bool). x || has_over ts) e ∙ ap (λ (x : Bool). o i || x) h

pub read_list : {A : Type 0} (P : written.Item → Type 0) (f : A → written.Item) (C : A → Type 0) (g : List written.Item → List A) (o : A → Bool) (b : Bool) → ((x : written.Item) (xs : List written.Item) → g (x ∷ xs) ≡ g (x ∷ []) ++ g xs)
    → ((i : A) → C i → (us : List Token) → map placeless us ≡ spell_item (f i) → ReadOne P g o b us i) → (i : A) (is : List A) → AllByRecursion C (i ∷ is)
    → (us : List Token) → map placeless us ≡ spell_items (map f (i ∷ is)) → ReadList P g o b us i is
read_list P f C g o b parted one i [] c us h =
    let x = one i c.0 us h in
    record { first' = x.tree; rest = []; spelled = x.spelled; grammar = (x.grammar, tt); total = x.total; others = refl; over = over_with o x.tree [] i [] x.framed refl; own = (x.own, tt); alike = x.alike }
read_list P f C g o b parted one i (j ∷ is) c us h =
    let more = spell_items (map f (j ∷ is)) in
    let p = parts us (spell_item (f i)) (token.Plain plain.Comma ∷ more) h in
    let a = first p.back (token.Plain plain.Comma) more p.back_is in
    let x = one i c.0 p.front p.front_is in
    let r = read_list P f C g o b parted one j is c.1 a.rest a.rest_is in
    record {
      first' = x.tree;
      rest = r.first' ∷ r.rest;
      spelled = two us p.front p.back (spell_item x.tree) _ p.whole x.spelled (cons (token.Plain plain.Comma) p.back a.rest (spell_items (r.first' ∷ r.rest)) a.whole r.spelled);
      grammar = (x.grammar, r.grammar);
      total = x.total;
      others = others_more b r.first' r.rest r.total r.others;
      over = over_with o x.tree (r.first' ∷ r.rest) i (j ∷ is) x.framed r.over;
      own = (x.own, r.own);
      alike = parted x.tree (r.first' ∷ r.rest) ∙ ap (λ (ys : List _). ys ++ g (r.first' ∷ r.rest)) x.alike ∙ ap (λ (ys : List _). i ∷ ys) r.alike;
    }

abbrev pub plains : List written.Item → List ItemShape
plains is = map item_alike (plain_items is)

abbrev pub totals : List written.Item → List AggItemShape
totals is = map agg_item_alike (agg_items is)

pub plains_parted : (x : written.Item) (xs : List written.Item) → plains (x ∷ xs) ≡ plains (x ∷ []) ++ plains xs
plains_parted (written.Bare name) xs = refl
plains_parted (written.Named e name) xs = refl
plains_parted (written.Total a name) xs = refl
plains_parted (written.Framed o name) xs = refl

pub totals_parted : (x : written.Item) (xs : List written.Item) → totals (x ∷ xs) ≡ totals (x ∷ []) ++ totals xs
totals_parted (written.Bare name) xs = refl
totals_parted (written.Named e name) xs = refl
totals_parted (written.Total a name) xs = refl
totals_parted (written.Framed o name) xs = refl

-- none of these has OVER
abbrev pub no_over : {A : Type 0} → A → Bool
no_over x = false

-- of these nothing is said
abbrev pub AnyItem : written.Item → Type 0
AnyItem t = Unit {0}

bare_is : (e : ExprShape) (name : List ℕ) → is_bare e name ≡ true → e ≡ shape.Column name
bare_is (shape.Column column) name h = ap shape.Column ((bytes_eq-Decides column name).0 h)
bare_is (shape.Number n) name h = absurd (true≢false (sym h))
bare_is (shape.Minus n) name h = absurd (true≢false (sym h))
bare_is (shape.Letters text) name h = absurd (true≢false (sym h))
bare_is (shape.Not e) name h = absurd (true≢false (sym h))
bare_is (shape.Flip e) name h = absurd (true≢false (sym h))
bare_is (shape.Cast kind e) name h = absurd (true≢false (sym h))
bare_is (shape.Binary o l r) name h = absurd (true≢false (sym h))

abbrev total_item : AggShape → List ℕ → AggItemShape
total_item a name = record { agg = a; name = name }

abbrev plain_item : ExprShape → List ℕ → ItemShape
plain_item e name = record { expr = e; name = name }

read_item_by : (b : Bool) (e : ExprShape) (name : List ℕ) → is_bare e name ≡ b → CanBeExpr e → (us : List Token)
    → map placeless us ≡ spell_item (if b then written.Bare (name_of name) else written.Named (expr_of e) (name_of name)) → ReadOne AnyItem plains no_over false us (plain_item e name)
read_item_by true e name q c us h =
    let a = alone us (token.Name (name_of name)) h in
    record {
      tree = written.Bare (record { text = name; at = a.at });
      spelled = sym a.whole;
      grammar = tt;
      total = refl;
      framed = refl;
      own = tt;
      alike = ap (λ (z : ExprShape). plain_item z name ∷ []) (sym (bare_is e name q));
    }
read_item_by false e name q c us h =
    let p = parts us (spell (expr_of e)) (token.Plain plain.As ∷ token.Name (name_of name) ∷ []) h in
    let x = read_expr e c p.front p.front_is in
    let a = first p.back (token.Plain plain.As) (token.Name (name_of name) ∷ []) p.back_is in
    let n = alone a.rest (token.Name (name_of name)) a.rest_is in
    record {
      tree = written.Named x.tree (record { text = name; at = n.at });
      spelled = two us p.front p.back (spell x.tree) _ p.whole x.spelled (cons (token.Plain plain.As) p.back a.rest _ a.whole (sym n.whole));
      grammar = x.grammar;
      total = refl;
      framed = refl;
      own = tt;
      alike = ap (λ (z : ExprShape). plain_item z name ∷ []) x.alike;
    }

pub read_item : (i : ItemShape) → CanBeItem i → (us : List Token) → map placeless us ≡ spell_item (item_of i) → ReadOne AnyItem plains no_over false us i
read_item i c us h = read_item_by (is_bare i.expr i.name) i.expr i.name refl c.0 us h

pub read_agg_item : (i : AggItemShape) → CanBeAggItem i → (us : List Token) → map placeless us ≡ spell_item (agg_item_of i) → ReadOne AnyItem totals no_over true us i
read_agg_item i c us h =
    let p = parts us (spell_agg (agg_of i.agg)) (token.Plain plain.As ∷ token.Name (name_of i.name) ∷ []) h in
    let x = read_agg i.agg c.0 p.front p.front_is in
    let a = first p.back (token.Plain plain.As) (token.Name (name_of i.name) ∷ []) p.back_is in
    let n = alone a.rest (token.Name (name_of i.name)) a.rest_is in
    record {
      tree = written.Total x.tree (record { text = i.name; at = n.at });
      spelled = two us p.front p.back (spell_agg x.tree) _ p.whole x.spelled (cons (token.Plain plain.As) p.back a.rest _ a.whole (sym n.whole));
      grammar = x.grammar;
      total = refl;
      framed = refl;
      own = tt;
      alike = ap (λ (z : AggShape). total_item z i.name ∷ []) x.alike;
    }
