-- A function with OVER keeps the limits exactly where the counts of its tokens do.
use Rattle.std.proofs.Common.{ℕ, ◌+◌, ◌-◌, ◌≤◌, Bool, true, false, List, [], ◌∷◌, ◌++◌, max, Option, Some, None, refl, arith}
use Rattle.gl_query_tokens.specs.declared.token.Plain.TheVariants as plain
use Rattle.gl_query_tokens.specs.declared.token.Spelling.{Spelling}
use Rattle.gl_query_tokens.specs.declared.token.Spelling.TheVariants.{Small, Capital}
use Rattle.gl_query_tokens.specs.declared.token.Word.{Word}
use Rattle.gl_query_tokens.specs.declared.token.Word.TheVariants as word
use Rattle.gl_query_tokens.specs.declared.token.Token.{Token}
use Rattle.gl_query_tokens.specs.declared.token.Token.TheVariants as token
use Rattle.gl_query_reader.specs.declared.written.Bound.{Bound}
use Rattle.gl_query_reader.specs.declared.written.Bound.TheVariants as bound
use Rattle.gl_query_reader.specs.declared.written.Part.{Part}
use Rattle.gl_query_reader.specs.declared.written.FrameRows.{FrameRows}
use Rattle.gl_query_reader.specs.declared.written.FrameRows.TheVariants as rows
use Rattle.gl_query_reader.specs.Limits.{IsSmall}
use Rattle.gl_query_reader.specs.Sizes.{expr_depth, over_agg_depth, filtering_depth, head_depth, over_depth, operators_of, OverAggIsShort, FilteringIsShort, HeadIsShort, OverIsShort}
use Rattle.gl_query_reader.specs.Written.{Expr, OverAgg, CountOf, FoldOf, LastOf, Filtering, FilterOf, OverHead, LagOf, Ranged, Over, OverOf, spell, spell_word, spell_over_agg, spell_filtering, spell_head, spell_bound, spell_part, spell_rows, spell_over}
use Rattle.gl_query_reader.proofs.Limiting.{counts, Keeps, over, under, parted, paired, keeps_at, small_at, limited, limits, close, Behind, Any}

-- ---- words and bounds

pub word_over : (v : Word) (s : Spelling) (b o j : ℕ) (d : Bool) (rest : List Token) → Keeps (counts b o j d) (spell_word v s ∷ rest) → Keeps (counts b o j false) rest
word_over v (Small at) b o j d rest h = (over h).1
word_over v (Capital at) b o j d rest h = (over h).1

pub word_under : (v : Word) (s : Spelling) (b o j : ℕ) (d : Bool) (rest : List Token) → IsSmall (counts b o j false) → Keeps (counts b o j false) rest → Keeps (counts b o j d) (spell_word v s ∷ rest)
word_under v (Small at) b o j d rest f h = under f h
word_under v (Capital at) b o j d rest f h = under f h

bound_over : (x : Bound) (b o j : ℕ) (d : Bool) (rest : List Token) → Keeps (counts b o j d) (spell_bound x ∷ rest) → Keeps (counts b o j false) rest
bound_over (bound.Number n) b o j d rest h = (over h).1
bound_over (bound.Unbounded w) b o j d rest h = word_over word.Unbounded w b o j d rest h

bound_under : (x : Bound) (b o j : ℕ) (d : Bool) (rest : List Token) → IsSmall (counts b o j false) → Keeps (counts b o j false) rest → Keeps (counts b o j d) (spell_bound x ∷ rest)
bound_under (bound.Number n) b o j d rest f h = under f h
bound_under (bound.Unbounded w) b o j d rest f h = word_under word.Unbounded w b o j d rest f h

-- ---- an expression in a bracket that opens anew

pub record Inside (b j : ℕ) (e : Expr) (rest : List Token) : Type 0 where
  pub depth' : b + (expr_depth e + 1) ≤ 32
  pub short' : operators_of e ≤ 256
  pub rest' : Keeps (counts (b + 1) (0 + operators_of e) j false) rest

inside : (e : Expr) (b j : ℕ) (rest : List Token) → IsSmall (counts (b + 1) 0 j true) → Keeps (counts (b + 1) 0 j true) (spell e ++ rest) → Inside b j e rest
inside e b j rest f h =
    let a = limited e (b + 1) 0 j rest f h in
    record {
      depth' = (let t : b + 1 + expr_depth e ≤ 32 = a.depth' in omega arith);
      short' = (let t : 0 + operators_of e ≤ 256 = a.short in omega arith);
      rest' = a.rest';
    }

into : (e : Expr) (b j : ℕ) (rest : List Token) → j ≤ 64 → b + (expr_depth e + 1) ≤ 32 → operators_of e ≤ 256 → Keeps (counts (b + 1) (0 + operators_of e) j false) rest → Keeps (counts (b + 1) 0 j true) (spell e ++ rest)
into e b j rest g m s h = limits e (b + 1) 0 j rest g (omega (arith, m)) (omega (arith, s)) h

-- ---- what stands before OVER

limited_over_agg : (a : OverAgg) (b j : ℕ) (d : Bool) (rest : List Token) → Keeps (counts b 0 j d) (spell_over_agg a ++ rest) → Behind b j (over_agg_depth a) (OverAggIsShort a) rest
limited_over_agg (CountOf at open') b j d rest h =
    let q = over (over h).1 in
    record { depth' = q.0.brackets; short' = tt; operators = 0; operand = false; small = omega arith; rest' = keeps_at {b = b + 1 - 1} b 0 j (omega arith) refl refl (over q.1).1 }
limited_over_agg (FoldOf fold at open' e) b j d rest h =
    let q = over (over h).1 in
    let a = inside e b j (close ∷ rest) q.0 (parted (spell e) (close ∷ []) rest q.1) in
    record {
      depth' = a.depth';
      short' = a.short';
      operators = 0 + operators_of e;
      operand = false;
      small = (let t : operators_of e ≤ 256 = a.short' in omega arith);
      rest' = keeps_at {b = b + 1 - 1} b (0 + operators_of e) j (omega arith) refl refl (over a.rest').1;
    }
limited_over_agg (LastOf w open' e) b j d rest h =
    let q = over (word_over word.LastValue w b 0 j d _ h) in
    let a = inside e b j (close ∷ rest) q.0 (parted (spell e) (close ∷ []) rest q.1) in
    record {
      depth' = a.depth';
      short' = a.short';
      operators = 0 + operators_of e;
      operand = false;
      small = (let t : operators_of e ≤ 256 = a.short' in omega arith);
      rest' = keeps_at {b = b + 1 - 1} b (0 + operators_of e) j (omega arith) refl refl (over a.rest').1;
    }

-- a closing bracket behind an expression
closes : (e : Expr) (b j : ℕ) (rest : List Token) → b ≤ 32 → j ≤ 64 → operators_of e ≤ 256 → Any b j rest → Keeps (counts (b + 1) (0 + operators_of e) j false) (close ∷ rest)
closes e b j rest f g s h =
    let k = 0 + operators_of e in
    let v : k ≤ 256 = omega (arith, s) in
    under (small_at (b + 1 - 1) k j false (omega (arith, f)) v g) (keeps_at {b = b} (b + 1 - 1) k j (omega arith) refl refl (h k false v))

limits_over_agg : (a : OverAgg) (b j : ℕ) (d : Bool) (rest : List Token) → j ≤ 64 → b + over_agg_depth a ≤ 32 → OverAggIsShort a → Any b j rest → Keeps (counts b 0 j d) (spell_over_agg a ++ rest)
limits_over_agg (CountOf at open') b j d rest g m s h =
    under (small_at b 0 j false (omega arith) (omega arith) g) (under (small_at (b + 1) 0 j true m (omega arith) g)
    (under (small_at (b + 1 - 1) 0 j false (omega arith) (omega arith) g) (keeps_at {b = b} (b + 1 - 1) 0 j (omega arith) refl refl (h 0 false (omega arith)))))
limits_over_agg (FoldOf fold at open' e) b j d rest g m s h =
    let t : b + (expr_depth e + 1) ≤ 32 = m in
    under (small_at b 0 j false (omega arith) (omega arith) g) (under (small_at (b + 1) 0 j true (omega arith) (omega arith) g)
    (paired (spell e) (close ∷ []) rest (into e b j (close ∷ rest) g m s (closes e b j rest (omega arith) g s h))))
limits_over_agg (LastOf w open' e) b j d rest g m s h =
    let t : b + (expr_depth e + 1) ≤ 32 = m in
    word_under word.LastValue w b 0 j d _ (small_at b 0 j false (omega arith) (omega arith) g) (under (small_at (b + 1) 0 j true (omega arith) (omega arith) g)
    (paired (spell e) (close ∷ []) rest (into e b j (close ∷ rest) g m s (closes e b j rest (omega arith) g s h))))

limited_filtering : (f : Option Filtering) (b o j : ℕ) (d : Bool) (rest : List Token) → b ≤ 32 → o ≤ 256 → Keeps (counts b o j d) (spell_filtering f ++ rest) → Behind b j (filtering_depth f) (FilteringIsShort f) rest
limited_filtering None b o j d rest f v h = record { depth' = omega (arith, f); short' = tt; operators = o; operand = d; small = v; rest' = h }
limited_filtering (Some (FilterOf w open' e)) b o j d rest f v h =
    let p = over (over (word_over word.Filter w b o j d _ h)).1 in
    let a = inside e b j (close ∷ rest) p.0 (parted (spell e) (close ∷ []) rest p.1) in
    record {
      depth' = a.depth';
      short' = a.short';
      operators = 0 + operators_of e;
      operand = false;
      small = (let t : operators_of e ≤ 256 = a.short' in omega arith);
      rest' = keeps_at {b = b + 1 - 1} b (0 + operators_of e) j (omega arith) refl refl (over a.rest').1;
    }

limits_filtering : (f : Option Filtering) (b o j : ℕ) (d : Bool) (rest : List Token) → o ≤ 256 → j ≤ 64 → b + filtering_depth f ≤ 32 → FilteringIsShort f → Any b j rest → Keeps (counts b o j d) (spell_filtering f ++ rest)
limits_filtering None b o j d rest v g m s h = h o d v
limits_filtering (Some (FilterOf w open' e)) b o j d rest v g m s h =
    let t : b + (expr_depth e + 1) ≤ 32 = m in
    let within = small_at (b + 1) 0 j true (omega arith) (omega arith) g in
    word_under word.Filter w b o j d _ (small_at b o j false (omega arith) v g) (under within (under within
    (paired (spell e) (close ∷ []) rest (into e b j (close ∷ rest) g m s (closes e b j rest (omega arith) g s h)))))

limited_head : (head : OverHead) (b j : ℕ) (d : Bool) (rest : List Token) → Keeps (counts b 0 j d) (spell_head head ++ rest) → Behind b j (head_depth head) (HeadIsShort head) rest
limited_head (LagOf w open' e None) b j d rest h =
    let q = over (word_over word.Lag w b 0 j d _ h) in
    let a = inside e b j (close ∷ rest) q.0 (parted (spell e) (close ∷ []) rest q.1) in
    record {
      depth' = a.depth';
      short' = a.short';
      operators = 0 + operators_of e;
      operand = false;
      small = (let t : operators_of e ≤ 256 = a.short' in omega arith);
      rest' = keeps_at {b = b + 1 - 1} b (0 + operators_of e) j (omega arith) refl refl (over a.rest').1;
    }
limited_head (LagOf w open' e (Some n)) b j d rest h =
    let ending : List Token = token.Plain plain.Comma ∷ token.Number n ∷ close ∷ [] in
    let q = over (word_over word.Lag w b 0 j d _ h) in
    let a = inside e b j (ending ++ rest) q.0 (parted (spell e) ending rest q.1) in
    record {
      depth' = a.depth';
      short' = a.short';
      operators = 0;
      operand = false;
      small = omega arith;
      rest' = keeps_at {b = b + 1 - 1} b 0 j (omega arith) refl refl (over (over (over a.rest').1).1).1;
    }
limited_head (Ranged a f) b j d rest h =
    let x = limited_over_agg a b j d (spell_filtering f ++ rest) (parted (spell_over_agg a) (spell_filtering f) rest h) in
    let t : b + over_agg_depth a ≤ 32 = x.depth' in
    let y = limited_filtering f b x.operators j x.operand rest (omega arith) x.small x.rest' in
    record {
      depth' = (let u : b + filtering_depth f ≤ 32 = y.depth' in omega arith);
      short' = (x.short', y.short');
      operators = y.operators;
      operand = y.operand;
      small = y.small;
      rest' = y.rest';
    }

limits_head : (head : OverHead) (b j : ℕ) (d : Bool) (rest : List Token) → j ≤ 64 → b + head_depth head ≤ 32 → HeadIsShort head → Any b j rest → Keeps (counts b 0 j d) (spell_head head ++ rest)
limits_head (LagOf w open' e None) b j d rest g m s h =
    let t : b + (expr_depth e + 1) ≤ 32 = m in
    word_under word.Lag w b 0 j d _ (small_at b 0 j false (omega arith) (omega arith) g) (under (small_at (b + 1) 0 j true (omega arith) (omega arith) g)
    (paired (spell e) (close ∷ []) rest (into e b j (close ∷ rest) g m s (closes e b j rest (omega arith) g s h))))
limits_head (LagOf w open' e (Some n)) b j d rest g m s h =
    let t : b + (expr_depth e + 1) ≤ 32 = m in
    let ending : List Token = token.Plain plain.Comma ∷ token.Number n ∷ close ∷ [] in
    let last : Keeps (counts (b + 1) 0 j false) (close ∷ rest) =
    under (small_at (b + 1 - 1) 0 j false (omega arith) (omega arith) g) (keeps_at {b = b} (b + 1 - 1) 0 j (omega arith) refl refl (h 0 false (omega arith))) in
    let behind : Keeps (counts (b + 1) (0 + operators_of e) j false) (ending ++ rest) =
    under (small_at (b + 1) 0 j true (omega arith) (omega arith) g) (under (small_at (b + 1) 0 j false (omega arith) (omega arith) g) last) in
    word_under word.Lag w b 0 j d _ (small_at b 0 j false (omega arith) (omega arith) g) (under (small_at (b + 1) 0 j true (omega arith) (omega arith) g)
    (paired (spell e) ending rest (into e b j (ending ++ rest) g m s behind)))
limits_head (Ranged a f) b j d rest g m s h =
    let t : b + max (over_agg_depth a) (filtering_depth f) ≤ 32 = m in
    paired (spell_over_agg a) (spell_filtering f) rest (limits_over_agg a b j d (spell_filtering f ++ rest) g (omega arith) s.0
    (λ o d' v. limits_filtering f b o j d' rest v g (omega arith) s.1 h))

-- ---- the rows

record RowsBehind (b j : ℕ) (rest : List Token) : Type 0 where
  operators : ℕ
  operand : Bool
  small : operators ≤ 256
  rest' : Keeps (counts b operators j operand) rest

rows_to : (x : Option FrameRows) (b j : ℕ) (d : Bool) (rest : List Token) → Keeps (counts b 0 j d) (spell_rows x ++ rest) → RowsBehind b j rest
rows_to None b j d rest h = record { operators = 0; operand = d; small = omega arith; rest' = h }
rows_to (Some (rows.Short r y p)) b j d rest h = record {
  operators = 0;
  operand = false;
  small = omega arith;
  rest' = word_over word.Preceding p b 0 j false rest (bound_over y b 0 j false _ (word_over word.Rows r b 0 j d _ h));
}
rows_to (Some (rows.Between f n c o)) b j d rest h =
    let front = word_over word.Preceding f.preceding b 0 j false _ (bound_over f.bound b 0 j false _ (word_over word.Between f.between b 0 j false _ (word_over word.Rows f.rows b 0 j d _ h))) in
    record {
      operators = 1;
      operand = false;
      small = omega arith;
      rest' = word_over word.Row o b 1 j false rest (word_over word.Current c b 1 j true _ (over front).1);
    }

rows_from : (x : Option FrameRows) (b j : ℕ) (d : Bool) (rest : List Token) → b ≤ 32 → j ≤ 64 → Any b j rest → Keeps (counts b 0 j d) (spell_rows x ++ rest)
rows_from None b j d rest f g h = h 0 d (omega arith)
rows_from (Some (rows.Short r y p)) b j d rest f g h =
    let s = small_at b 0 j false f (omega arith) g in
    word_under word.Rows r b 0 j d _ s (bound_under y b 0 j false _ s (word_under word.Preceding p b 0 j false rest s (h 0 false (omega arith))))
rows_from (Some (rows.Between x n c o)) b j d rest f g h =
    let s = small_at b 0 j false f (omega arith) g in
    let z = small_at b 1 j false f (omega arith) g in
    let last = word_under word.Current c b 1 j true _ z (word_under word.Row o b 1 j false rest z (h 1 false (omega arith))) in
    word_under word.Rows x.rows b 0 j d _ s (word_under word.Between x.between b 0 j false _ s (bound_under x.bound b 0 j false _ s
    (word_under word.Preceding x.preceding b 0 j false _ s (under (small_at b 1 j true f (omega arith) g) last))))

-- PARTITION, where there is one
part_to : (p : Option Part) (b j : ℕ) (rest : List Token) → Keeps (counts b 0 j true) (spell_part p ++ rest) → (d : Bool) × Keeps (counts b 0 j d) rest
part_to None b j rest h = (true, h)
part_to (Some p) b j rest h = (false, (over (over (over (over (word_over word.Partition p.word b 0 j true _ h)).1).1).1).1)

part_from : (p : Option Part) (b j : ℕ) (rest : List Token) → b ≤ 32 → j ≤ 64 → ((d : Bool) → Keeps (counts b 0 j d) rest) → Keeps (counts b 0 j true) (spell_part p ++ rest)
part_from None b j rest f g h = h true
part_from (Some p) b j rest f g h =
    let s = small_at b 0 j false f (omega arith) g in
    word_under word.Partition p.word b 0 j true _ s (under s (under s (under s (under s (h false)))))

-- ---- a function with OVER

pub limited_over : (o : Over) (b j : ℕ) (d : Bool) (rest : List Token) → Keeps (counts b 0 j d) (spell_over o ++ rest) → Behind b j (over_depth o) (OverIsShort o) rest
limited_over (OverOf head w open' p x) b j d rest h =
    let rowed : List Token = spell_rows x ++ close ∷ [] in
    let inner : List Token = spell_part p ++ rowed in
    let tail : List Token = spell_word word.Over w ∷ token.Open open' ∷ inner in
    let y = limited_head head b j d (tail ++ rest) (parted (spell_head head) tail rest h) in
    let q = over (word_over word.Over w b y.operators j y.operand _ y.rest') in
    let z = part_to p (b + 1) j (rowed ++ rest) (parted (spell_part p) rowed rest q.1) in
    let r = rows_to x (b + 1) j z.0 (close ∷ rest) (parted (spell_rows x) (close ∷ []) rest z.1) in
    record {
      depth' = (let t : b + head_depth head ≤ 32 = y.depth' in let u : b + 1 ≤ 32 = q.0.brackets in omega arith);
      short' = y.short';
      operators = r.operators;
      operand = false;
      small = r.small;
      rest' = keeps_at {b = b + 1 - 1} b r.operators j (omega arith) refl refl (over r.rest').1;
    }

pub limits_over : (o : Over) (b j : ℕ) (d : Bool) (rest : List Token) → j ≤ 64 → b + over_depth o ≤ 32 → OverIsShort o → Any b j rest → Keeps (counts b 0 j d) (spell_over o ++ rest)
limits_over (OverOf head w open' p x) b j d rest g m s h =
    let t : b + max (head_depth head) 1 ≤ 32 = m in
    let rowed : List Token = spell_rows x ++ close ∷ [] in
    let inner : List Token = spell_part p ++ rowed in
    let tail : List Token = spell_word word.Over w ∷ token.Open open' ∷ inner in
    let e : b + 1 ≤ 32 = omega arith in
    let last : Any (b + 1) j (close ∷ rest) = λ o d' v. under (small_at (b + 1 - 1) o j false (omega arith) v g) (keeps_at {b = b} (b + 1 - 1) o j (omega arith) refl refl (h o false v)) in
    let opened : Keeps (counts (b + 1) 0 j true) (inner ++ rest) = paired (spell_part p) rowed rest (part_from p (b + 1) j (rowed ++ rest) e g
    (λ d2. paired (spell_rows x) (close ∷ []) rest (rows_from x (b + 1) j d2 (close ∷ rest) e g last))) in
    paired (spell_head head) tail rest (limits_head head b j d (tail ++ rest) g (omega arith) s
    (λ o d' v. word_under word.Over w b o j d' _ (small_at b o j false (omega arith) v g) (under (small_at (b + 1) 0 j true e (omega arith) g) opened)))
