-- An expression keeps the limits exactly where the counts of its tokens do.
use Rattle.std.proofs.Common.{◌≡◌, ℕ, ◌+◌, ◌-◌, ◌≤◌, Bool, true, false, List, [], ◌∷◌, ◌++◌, max, refl, sym, subst, arith, append_assoc}
use Rattle.std.specs.Prelude.{◌||◌, nat_lt}
use Rattle.std.proofs.lemmas.Bool.{le-ltb, ltb-false, or_parts, or_from}
use Rattle.gl_query_tokens.specs.declared.token.Plain.TheVariants as plain
use Rattle.gl_query_tokens.specs.declared.token.Token.{Token}
use Rattle.gl_query_tokens.specs.declared.token.Token.TheVariants as token
use Rattle.gl_query_reader.specs.declared.limits.Counts.{Counts}
use Rattle.gl_query_reader.specs.Limits.{IsSmall, after, is_past, keeps_limits}
use Rattle.gl_query_reader.specs.Sizes.{expr_depth, operators_of}
use Rattle.gl_query_reader.specs.Written.{Expr, Column, Number, Minus, Parameter, Letters, Brackets, Cast, Flip, Not, Binary, spell}
use Rattle.gl_bits.proofs.Bools.{guard_true}

abbrev pub counts : ℕ → ℕ → ℕ → Bool → Counts
counts b o j d = record { brackets = b; operators = o; joins = j; operand = d }

-- the counts keep the limits behind each of these tokens
pub record Keeps (n : Counts) (ts : List Token) : Type 0 where
  pub so : keeps_limits n ts ≡ true

small_when : (n : Counts) → is_past n ≡ false → IsSmall n
small_when n h =
    let p = or_parts (nat_lt 32 n.brackets || nat_lt 256 n.operators) (nat_lt 64 n.joins) h in
    let q = or_parts (nat_lt 32 n.brackets) (nat_lt 256 n.operators) p.0 in
    record { brackets = ltb-false 32 n.brackets q.0; operators = ltb-false 256 n.operators q.1; joins = ltb-false 64 n.joins p.1 }

not_past : (n : Counts) → IsSmall n → is_past n ≡ false
not_past n f = or_from (nat_lt 32 n.brackets || nat_lt 256 n.operators) (nat_lt 64 n.joins)
    (or_from (nat_lt 32 n.brackets) (nat_lt 256 n.operators) (le-ltb 32 n.brackets f.brackets) (le-ltb 256 n.operators f.operators)) (le-ltb 64 n.joins f.joins)

-- one more token
pub over : {n : Counts} {t : Token} {ts : List Token} → Keeps n (t ∷ ts) → IsSmall (after n t) × Keeps (after n t) ts
over {n} {t} {ts} h =
    let p = guard_true (is_past (after n t)) (keeps_limits (after n t) ts) h.so in
    (small_when (after n t) p.0, record { so = p.1 })

pub under : {n : Counts} {t : Token} {ts : List Token} → IsSmall (after n t) → Keeps (after n t) ts → Keeps n (t ∷ ts)
under {n} {t} {ts} f h = record { so = rw (not_past (after n t) f) h.so }

pub parted : (xs ys zs : List Token) {n : Counts} → Keeps n ((xs ++ ys) ++ zs) → Keeps n (xs ++ (ys ++ zs))
parted xs ys zs {n} h = subst (Keeps n) (append_assoc xs ys zs) h

pub paired : (xs ys zs : List Token) {n : Counts} → Keeps n (xs ++ (ys ++ zs)) → Keeps n ((xs ++ ys) ++ zs)
paired xs ys zs {n} h = subst (Keeps n) (sym (append_assoc xs ys zs)) h

pub keeps_at : {b o j : ℕ} {d : Bool} {rest : List Token} (b' o' j' : ℕ) → b ≡ b' → o ≡ o' → j ≡ j' → Keeps (counts b o j d) rest → Keeps (counts b' o' j' d) rest
keeps_at b' o' j' e f g h = rw (e, f, g) at h

pub small_at : (b o j : ℕ) (d : Bool) → b ≤ 32 → o ≤ 256 → j ≤ 64 → IsSmall (counts b o j d)
small_at b o j d e f g = record { brackets = e; operators = f; joins = g }

-- ---- expressions, each where an operand may begin

pub record Past (b o j depth operators : ℕ) (rest : List Token) : Type 0 where
  pub depth' : b + depth ≤ 32
  pub short : o + operators ≤ 256
  pub rest' : Keeps (counts b (o + operators) j false) rest

past_leaf : (b o j : ℕ) (rest : List Token) → IsSmall (counts b o j true) → Keeps (counts b o j false) rest → Past b o j 0 0 rest
past_leaf b o j rest f h = record {
  depth' = (let t : b ≤ 32 = f.brackets in omega arith);
  short = (let t : o ≤ 256 = f.operators in omega arith);
  rest' = keeps_at b (o + 0) j refl (omega arith) refl h;
}

pub limited : (e : Expr) (b o j : ℕ) (rest : List Token) → IsSmall (counts b o j true) → Keeps (counts b o j true) (spell e ++ rest) → Past b o j (expr_depth e) (operators_of e) rest
limited (Column name) b o j rest f h = past_leaf b o j rest f (over h).1
limited (Number n) b o j rest f h = past_leaf b o j rest f (over h).1
limited (Minus at n) b o j rest f h = past_leaf b o j rest f (over (over h).1).1
limited (Parameter at name) b o j rest f h = past_leaf b o j rest f (over (over h).1).1
limited (Letters text at) b o j rest f h = past_leaf b o j rest f (over h).1
limited (Brackets at e) b o j rest f h =
    let q = over h in
    let a = limited e (b + 1) o j (token.Plain plain.Close ∷ rest) q.0 (parted (spell e) (token.Plain plain.Close ∷ []) rest q.1) in
    record {
      depth' = (let t : b + 1 + expr_depth e ≤ 32 = a.depth' in omega arith);
      short = a.short;
      rest' = keeps_at {b = b + 1 - 1} b (o + operators_of e) j (omega arith) refl refl (over a.rest').1;
    }
limited (Cast at open' e word kind) b o j rest f h =
    let behind : List Token = token.Plain plain.As ∷ token.Name word ∷ token.Plain plain.Close ∷ [] in
    let q = over (over h).1 in
    let a = limited e (b + 1) (o + 1) j (behind ++ rest) q.0 (parted (spell e) behind rest q.1) in
    record {
      depth' = (let t : b + 1 + expr_depth e ≤ 32 = a.depth' in omega arith);
      short = (let t : o + 1 + operators_of e ≤ 256 = a.short in omega arith);
      rest' = keeps_at {b = b + 1 - 1} {o = o + 1 + operators_of e} b (o + (operators_of e + 1)) j (omega arith) (omega arith) refl (over (over (over a.rest').1).1).1;
    }
limited (Flip at e) b o j rest f h =
    let q = over h in
    let a = limited e b (o + 1) j rest q.0 q.1 in
    record {
      depth' = a.depth';
      short = (let t : o + 1 + operators_of e ≤ 256 = a.short in omega arith);
      rest' = keeps_at b (o + (operators_of e + 1)) j refl (omega arith) refl a.rest';
    }
limited (Not at e) b o j rest f h =
    let q = over h in
    let a = limited e b (o + 1) j rest q.0 q.1 in
    record {
      depth' = a.depth';
      short = (let t : o + 1 + operators_of e ≤ 256 = a.short in omega arith);
      rest' = keeps_at b (o + (operators_of e + 1)) j refl (omega arith) refl a.rest';
    }
limited (Binary op at l r) b o j rest f h =
    let right : List Token = token.Operator op at ∷ spell r in
    let x = limited l b o j (right ++ rest) f (parted (spell l) right rest h) in
    let p = over x.rest' in
    let y = limited r b (o + operators_of l + 1) j rest p.0 p.1 in
    record {
      depth' = (let t : b + expr_depth l ≤ 32 = x.depth' in let u : b + expr_depth r ≤ 32 = y.depth' in omega arith);
      short = (let t : o + operators_of l + 1 + operators_of r ≤ 256 = y.short in omega arith);
      rest' = keeps_at b (o + (operators_of l + operators_of r + 1)) j refl (omega arith) refl y.rest';
    }

pub limits : (e : Expr) (b o j : ℕ) (rest : List Token) → j ≤ 64 → b + expr_depth e ≤ 32 → o + operators_of e ≤ 256 → Keeps (counts b (o + operators_of e) j false) rest → Keeps (counts b o j true) (spell e ++ rest)
limits (Column name) b o j rest g e s h = under (small_at b o j false (omega arith) (omega arith) g) (keeps_at b o j refl (omega arith) refl h)
limits (Number n) b o j rest g e s h = under (small_at b o j false (omega arith) (omega arith) g) (keeps_at b o j refl (omega arith) refl h)
limits (Minus at n) b o j rest g e s h =
    under (small_at b o j true (omega arith) (omega arith) g) (under (small_at b o j false (omega arith) (omega arith) g) (keeps_at b o j refl (omega arith) refl h))
limits (Parameter at name) b o j rest g e s h =
    under (small_at b o j false (omega arith) (omega arith) g) (under (small_at b o j false (omega arith) (omega arith) g) (keeps_at b o j refl (omega arith) refl h))
limits (Letters text at) b o j rest g e s h = under (small_at b o j false (omega arith) (omega arith) g) (keeps_at b o j refl (omega arith) refl h)
limits (Brackets at e) b o j rest g m s h =
    let t : b + (expr_depth e + 1) ≤ 32 = m in
    let last : Keeps (counts (b + 1) (o + operators_of e) j false) (token.Plain plain.Close ∷ rest) =
    under (small_at (b + 1 - 1) (o + operators_of e) j false (omega arith) s g) (keeps_at (b + 1 - 1) (o + operators_of e) j (omega arith) refl refl h) in
    under (small_at (b + 1) o j true (omega arith) (omega arith) g) (paired (spell e) (token.Plain plain.Close ∷ []) rest (limits e (b + 1) o j (token.Plain plain.Close ∷ rest) g (omega arith) s last))
limits (Cast at open' e word kind) b o j rest g m s h =
    let t : b + (expr_depth e + 1) ≤ 32 = m in
    let u : o + (operators_of e + 1) ≤ 256 = s in
    let k = o + 1 + operators_of e in
    let v : k ≤ 256 = omega arith in
    let behind : List Token = token.Plain plain.As ∷ token.Name word ∷ token.Plain plain.Close ∷ [] in
    let inside = small_at (b + 1) k j false (omega arith) v g in
    let last : Keeps (counts (b + 1) k j false) (behind ++ rest) =
    under inside (under inside (under (small_at (b + 1 - 1) k j false (omega arith) v g) (keeps_at (b + 1 - 1) k j (omega arith) (omega arith) refl h))) in
    under (small_at b (o + 1) j true (omega arith) (omega arith) g) (under (small_at (b + 1) (o + 1) j true (omega arith) (omega arith) g)
    (paired (spell e) behind rest (limits e (b + 1) (o + 1) j (behind ++ rest) g (omega arith) v last)))
limits (Flip at e) b o j rest g m s h =
    let u : o + (operators_of e + 1) ≤ 256 = s in
    under (small_at b (o + 1) j true (omega arith) (omega arith) g) (limits e b (o + 1) j rest g m (omega arith) (keeps_at b (o + 1 + operators_of e) j refl (omega arith) refl h))
limits (Not at e) b o j rest g m s h =
    let u : o + (operators_of e + 1) ≤ 256 = s in
    under (small_at b (o + 1) j true (omega arith) (omega arith) g) (limits e b (o + 1) j rest g m (omega arith) (keeps_at b (o + 1 + operators_of e) j refl (omega arith) refl h))
limits (Binary op at l r) b o j rest g m s h =
    let t : b + max (expr_depth l) (expr_depth r) ≤ 32 = m in
    let u : o + (operators_of l + operators_of r + 1) ≤ 256 = s in
    let right : List Token = token.Operator op at ∷ spell r in
    let behind = limits r b (o + operators_of l + 1) j rest g (omega arith) (omega arith) (keeps_at b (o + operators_of l + 1 + operators_of r) j refl (omega arith) refl h) in
    paired (spell l) right rest (limits l b o j (right ++ rest) g (omega arith) (omega arith) (under (small_at b (o + operators_of l + 1) j true (omega arith) (omega arith) g) behind))

-- ---- what is known behind a part of a query

abbrev pub close : Token
close = token.Plain plain.Close

-- what is known behind a part of a query: how deep it was, that its whole expressions were short, and counts that the rest keeps
pub record Behind (b j depth : ℕ) (short : Type 0) (rest : List Token) : Type 0 where
  pub depth' : b + depth ≤ 32
  pub short' : short
  pub operators : ℕ
  pub operand : Bool
  pub small : operators ≤ 256
  pub rest' : Keeps (counts b operators j operand) rest

-- the rest keeps the limits, whatever was counted of the last expression
abbrev pub Any : ℕ → ℕ → List Token → Type 0
Any b j rest = (o : ℕ) (d : Bool) → o ≤ 256 → Keeps (counts b o j d) rest
