-- A statement is within the limits exactly where the counts of its tokens keep them.
use Rattle.std.proofs.Common.{◌≡◌, ℕ, ◌+◌, ◌-◌, ◌≤◌, Bool, true, false, List, [], ◌∷◌, ◌++◌, max, refl, arith}
use Rattle.gl_query_tokens.specs.declared.token.Plain.TheVariants as plain
use Rattle.gl_query_tokens.specs.declared.token.Token.{Token}
use Rattle.gl_query_tokens.specs.declared.token.Token.TheVariants as token
use Rattle.gl_query_tokens.specs.declared.token.Word.TheVariants as word
use Rattle.gl_query_reader.specs.declared.joins.Joining.{Joining}
use Rattle.gl_query_reader.specs.declared.joins.Joining.TheVariants as joining
use Rattle.gl_query_reader.specs.Limits.{IsSmall, none_counted, operators_open, keeps_limits}
use Rattle.gl_query_reader.specs.Sizes.{pick_depth, filter_depth, depth_of, joins_of, AreShort, IsWithinLimits, LimitsAreCounted}
use Rattle.gl_query_reader.specs.Written.{Query, Stream, InBrackets, Select, Windows, Groups, AsOf', Join', Statement, spell_word, spell_pick, spell_window, spell_if_window, spell_row_window, spell_filter, spell_grouping, spell_if_grouping, spell_join, spell_query, spell_end, spell_statement}
use Rattle.gl_query_reader.proofs.Limiting.{counts, Keeps, over, under, parted, paired, keeps_at, small_at, close, Any}
use Rattle.gl_query_reader.proofs.LimitingFrames.{word_over, word_under}
use Rattle.gl_query_reader.proofs.LimitingItems.{limited_pick, limits_pick, window_to, window_from, row_window_to, row_window_from, grouping_to, grouping_from, if_window_to, if_window_from, if_grouping_to, if_grouping_from, limited_filter, limits_filter}

-- what stands between two queries counts one join
join_to : (join : Joining) (at b o j : ℕ) (d : Bool) (rest : List Token) → Keeps (counts b o j d) (spell_join join at ++ rest)
    → IsSmall (counts b o (j + 1) false) × Keeps (counts b o (j + 1) false) rest
join_to joining.Union at b o j d rest h = over h
join_to (joining.Arrival by' w) at b o j d rest h =
    let p = over h in
    (p.0, word_over word.Arrival w b o (j + 1) false rest (over p.1).1)
join_to joining.Concat at b o j d rest h = over h

join_from : (join : Joining) (at b o j : ℕ) (d : Bool) (rest : List Token) → IsSmall (counts b o (j + 1) false) → Keeps (counts b o (j + 1) false) rest
    → Keeps (counts b o j d) (spell_join join at ++ rest)
join_from joining.Union at b o j d rest s h = under s h
join_from (joining.Arrival by' w) at b o j d rest s h = under s (under s (word_under word.Arrival w b o (j + 1) false rest s h))
join_from joining.Concat at b o j d rest s h = under s h

-- the same behind a query, whose joins count too
record Past (b j depth joins : ℕ) (short : Type 0) (rest : List Token) : Type 0 where
  depth' : b + depth ≤ 32
  joins' : j + joins ≤ 64
  short' : short
  operators : ℕ
  operand : Bool
  small : operators ≤ 256
  rest' : Keeps (counts b operators (j + joins) operand) rest

limited_in : (q : Query) (b o j : ℕ) (d : Bool) (rest : List Token) → IsSmall (counts b o j d) → Keeps (counts b o j d) (spell_query q ++ rest) → Past b j (depth_of q) (joins_of q) (AreShort q) rest
limited_in (Stream name) b o j d rest f h =
    record {
      depth' = (let t : b ≤ 32 = f.brackets in omega arith);
      joins' = (let t : j ≤ 64 = f.joins in omega arith);
      short' = tt;
      operators = o;
      operand = false;
      small = f.operators;
      rest' = keeps_at b o (j + 0) refl refl (omega arith) (over h).1;
    }
limited_in (InBrackets at q) b o j d rest f h =
    let p = over h in
    let x = limited_in q (b + 1) (operators_open (counts b o j d)) j true (close ∷ rest) p.0 (parted (spell_query q) (close ∷ []) rest p.1) in
    record {
      depth' = (let t : b + 1 + depth_of q ≤ 32 = x.depth' in omega arith);
      joins' = x.joins';
      short' = x.short';
      operators = x.operators;
      operand = false;
      small = x.small;
      rest' = keeps_at {b = b + 1 - 1} b x.operators (j + joins_of q) (omega arith) refl refl (over x.rest').1;
    }
limited_in (Select pick source window filter grouping) b o j d rest f h =
    let windows = spell_if_window window in
    let filters = spell_filter filter in
    let groups = spell_if_grouping grouping in
    let tail : List Token = windows ++ (filters ++ groups) in
    let behind : List Token = token.Plain plain.From ∷ (spell_query source ++ tail) in
    let k = j + joins_of source in
    let p = over h in
    let x = limited_pick pick b j (behind ++ rest) p.0 (parted (spell_pick pick) behind rest p.1) in
    let q = over x.rest' in
    let y = limited_in source b x.operators j false (tail ++ rest) q.0 (parted (spell_query source) tail rest q.1) in
    let w = if_window_to window b y.operators k y.operand ((filters ++ groups) ++ rest) (parted windows (filters ++ groups) rest y.rest') in
    let small' = small_at b y.operators k w.0 (let t : b + depth_of source ≤ 32 = y.depth' in omega arith) y.small y.joins' in
    let z = limited_filter filter b y.operators k w.0 (groups ++ rest) small' (parted filters groups rest w.1) in
    let g = if_grouping_to grouping b z.operators k z.operand rest z.rest' in
    record {
      depth' = (let t : b + pick_depth pick ≤ 32 = x.depth' in let u : b + depth_of source ≤ 32 = y.depth' in let v : b + filter_depth filter ≤ 32 = z.depth' in omega arith);
      joins' = y.joins';
      short' = (x.short', y.short', z.short');
      operators = z.operators;
      operand = g.0;
      small = z.small;
      rest' = g.1;
    }
limited_in (Windows at var source window open' body) b o j d rest f h =
    let bodies : List Token = spell_query body ++ close ∷ [] in
    let tail : List Token = spell_window window ++ token.Open open' ∷ bodies in
    let k = j + joins_of source in
    let p = over (over (over h).1).1 in
    let y = limited_in source b o j false (tail ++ rest) p.0 (parted (spell_query source) tail rest p.1) in
    let q = over (window_to window b y.operators k y.operand (token.Open open' ∷ (bodies ++ rest)) (parted (spell_window window) (token.Open open' ∷ bodies) rest y.rest')) in
    let z = limited_in body (b + 1) 0 k true (close ∷ rest) q.0 (parted (spell_query body) (close ∷ []) rest q.1) in
    record {
      depth' = (let t : b + depth_of source ≤ 32 = y.depth' in let u : b + 1 + depth_of body ≤ 32 = z.depth' in omega arith);
      joins' = (let t : j + joins_of source + joins_of body ≤ 64 = z.joins' in omega arith);
      short' = (y.short', z.short');
      operators = z.operators;
      operand = false;
      small = z.small;
      rest' = keeps_at {b = b + 1 - 1} {j = k + joins_of body} b z.operators (j + (joins_of source + joins_of body)) (omega arith) refl (omega arith) (over z.rest').1;
    }
limited_in (Groups at var source grouping window open' body) b o j d rest f h =
    let bodies : List Token = spell_query body ++ close ∷ [] in
    let windowed : List Token = spell_row_window window ++ token.Open open' ∷ bodies in
    let tail : List Token = spell_grouping grouping ++ windowed in
    let k = j + joins_of source in
    let p = over (over (over h).1).1 in
    let y = limited_in source b o j false (tail ++ rest) p.0 (parted (spell_query source) tail rest p.1) in
    let v = grouping_to grouping b y.operators k y.operand (windowed ++ rest) (parted (spell_grouping grouping) windowed rest y.rest') in
    let q = over (row_window_to window b y.operators k (token.Open open' ∷ (bodies ++ rest)) (parted (spell_row_window window) (token.Open open' ∷ bodies) rest v)) in
    let z = limited_in body (b + 1) 0 k true (close ∷ rest) q.0 (parted (spell_query body) (close ∷ []) rest q.1) in
    record {
      depth' = (let t : b + depth_of source ≤ 32 = y.depth' in let u : b + 1 + depth_of body ≤ 32 = z.depth' in omega arith);
      joins' = (let t : j + joins_of source + joins_of body ≤ 64 = z.joins' in omega arith);
      short' = (y.short', z.short');
      operators = z.operators;
      operand = false;
      small = z.small;
      rest' = keeps_at {b = b + 1 - 1} {j = k + joins_of body} b z.operators (j + (joins_of source + joins_of body)) (omega arith) refl (omega arith) (over z.rest').1;
    }
limited_in (AsOf' w l r grouping) b o j d rest f h =
    let groups : List Token = spell_grouping grouping in
    let right : List Token = spell_query r ++ groups in
    let k = j + joins_of l in
    let x = limited_in l b o j d ((spell_word word.AsOf w ∷ right) ++ rest) f (parted (spell_query l) (spell_word word.AsOf w ∷ right) rest h) in
    let p = word_over word.AsOf w b x.operators k x.operand (right ++ rest) x.rest' in
    let c = small_at b x.operators k false (let t : b + depth_of l ≤ 32 = x.depth' in omega arith) x.small x.joins' in
    let y = limited_in r b x.operators k false (groups ++ rest) c (parted (spell_query r) groups rest p) in
    let g = grouping_to grouping b y.operators (k + joins_of r) y.operand rest y.rest' in
    record {
      depth' = (let t : b + depth_of l ≤ 32 = x.depth' in let u : b + depth_of r ≤ 32 = y.depth' in omega arith);
      joins' = (let t : j + joins_of l + joins_of r ≤ 64 = y.joins' in omega arith);
      short' = (x.short', y.short');
      operators = y.operators;
      operand = false;
      small = y.small;
      rest' = keeps_at {j = k + joins_of r} b y.operators (j + (joins_of l + joins_of r)) refl refl (omega arith) g;
    }
limited_in (Join' join at l r) b o j d rest f h =
    let right : List Token = spell_join join at ++ spell_query r in
    let k = j + joins_of l in
    let x = limited_in l b o j d (right ++ rest) f (parted (spell_query l) right rest h) in
    let p = join_to join at b x.operators k x.operand (spell_query r ++ rest) (parted (spell_join join at) (spell_query r) rest x.rest') in
    let y = limited_in r b x.operators (k + 1) false rest p.0 p.1 in
    record {
      depth' = (let t : b + depth_of l ≤ 32 = x.depth' in let u : b + depth_of r ≤ 32 = y.depth' in omega arith);
      joins' = (let t : j + joins_of l + 1 + joins_of r ≤ 64 = y.joins' in omega arith);
      short' = (x.short', y.short');
      operators = y.operators;
      operand = y.operand;
      small = y.small;
      rest' = keeps_at {j = k + 1 + joins_of r} b y.operators (j + (joins_of l + joins_of r + 1)) refl refl (omega arith) y.rest';
    }

open_small : (b o j : ℕ) (d : Bool) → o ≤ 256 → operators_open (counts b o j d) ≤ 256
open_small b o j true f = f
open_small b o j false f = omega arith

limits_in : (q : Query) (b o j : ℕ) (d : Bool) (rest : List Token) → o ≤ 256 → b + depth_of q ≤ 32 → j + joins_of q ≤ 64 → AreShort q → Any b (j + joins_of q) rest → Keeps (counts b o j d) (spell_query q ++ rest)
limits_in (Stream name) b o j d rest f m n s h =
    under (small_at b o j false (omega arith) f (omega arith)) (keeps_at b o j refl refl (omega arith) (h o false f))
limits_in (InBrackets at q) b o j d rest f m n s h =
    let t : b + (depth_of q + 1) ≤ 32 = m in
    let k = j + joins_of q in
    let o2 = operators_open (counts b o j d) in
    let f2 : o2 ≤ 256 = open_small b o j d f in
    under (small_at (b + 1) o2 j true (omega arith) f2 (omega arith)) (paired (spell_query q) (close ∷ []) rest (limits_in q (b + 1) o2 j true (close ∷ rest) f2 (omega arith) n s
    (λ o' d' v. under (small_at (b + 1 - 1) o' k false (omega arith) v n) (keeps_at {b = b} (b + 1 - 1) o' k (omega arith) refl refl (h o' false v)))))
limits_in (Select pick source window filter grouping) b o j d rest f m n s h =
    let t : b + max (pick_depth pick) (max (depth_of source) (filter_depth filter)) ≤ 32 = m in
    let windows = spell_if_window window in
    let filters = spell_filter filter in
    let groups = spell_if_grouping grouping in
    let tail : List Token = windows ++ (filters ++ groups) in
    let behind : List Token = token.Plain plain.From ∷ (spell_query source ++ tail) in
    let k = j + joins_of source in
    let e : b ≤ 32 = omega arith in
    let g : j ≤ 64 = omega arith in
    let last : Any b k (groups ++ rest) = λ o' d' v. if_grouping_from grouping b o' k d' rest e v n (λ d2. h o' d2 v) in
    let filtered : Any b k ((filters ++ groups) ++ rest) = λ o' d' v. paired filters groups rest (limits_filter filter b o' k d' (groups ++ rest) v n (omega arith) s.2 last) in
    let windowed : Any b k (tail ++ rest) = λ o' d' v. paired windows (filters ++ groups) rest (if_window_from window b o' k d' ((filters ++ groups) ++ rest) e v n (λ d2. filtered o' d2 v)) in
    let sourced : Any b j (behind ++ rest) = λ o' d' v. under (small_at b o' j false e v g) (paired (spell_query source) tail rest (limits_in source b o' j false (tail ++ rest) v (omega arith) n s.1 windowed)) in
    under (small_at b 0 j true e (omega arith) g) (paired (spell_pick pick) behind rest (limits_pick pick b j (behind ++ rest) g (omega arith) s.0 sourced))
limits_in (Windows at var source window open' body) b o j d rest f m n s h =
    let t : b + max (depth_of source) (depth_of body + 1) ≤ 32 = m in
    let u : j + (joins_of source + joins_of body) ≤ 64 = n in
    let bodies : List Token = spell_query body ++ close ∷ [] in
    let tail : List Token = spell_window window ++ token.Open open' ∷ bodies in
    let k = j + joins_of source in
    let i = k + joins_of body in
    let e : b ≤ 32 = omega arith in
    let g : k ≤ 64 = omega arith in
    let p : i ≤ 64 = omega arith in
    let last : Any (b + 1) i (close ∷ rest) = λ o' d' v. under (small_at (b + 1 - 1) o' i false (omega arith) v p) (keeps_at {b = b} (b + 1 - 1) o' i (omega arith) refl (omega arith) (h o' false v)) in
    let within : (o' : ℕ) → o' ≤ 256 → Keeps (counts b o' k false) (token.Open open' ∷ (bodies ++ rest)) =
    λ o' v. under (small_at (b + 1) 0 k true (omega arith) (omega arith) g) (paired (spell_query body) (close ∷ []) rest (limits_in body (b + 1) 0 k true (close ∷ rest) (omega arith) (omega arith) p s.1 last)) in
    let windowed : Any b k (tail ++ rest) = λ o' d' v. paired (spell_window window) (token.Open open' ∷ bodies) rest (window_from window b o' k d' (token.Open open' ∷ (bodies ++ rest)) e v g (within o' v)) in
    let c = small_at b o j false e f (omega arith) in
    under c (under c (under c (paired (spell_query source) tail rest (limits_in source b o j false (tail ++ rest) f (omega arith) g s.0 windowed))))
limits_in (Groups at var source grouping window open' body) b o j d rest f m n s h =
    let t : b + max (depth_of source) (depth_of body + 1) ≤ 32 = m in
    let u : j + (joins_of source + joins_of body) ≤ 64 = n in
    let bodies : List Token = spell_query body ++ close ∷ [] in
    let behind : List Token = spell_row_window window ++ token.Open open' ∷ bodies in
    let tail : List Token = spell_grouping grouping ++ behind in
    let k = j + joins_of source in
    let i = k + joins_of body in
    let e : b ≤ 32 = omega arith in
    let g : k ≤ 64 = omega arith in
    let p : i ≤ 64 = omega arith in
    let last : Any (b + 1) i (close ∷ rest) = λ o' d' v. under (small_at (b + 1 - 1) o' i false (omega arith) v p) (keeps_at {b = b} (b + 1 - 1) o' i (omega arith) refl (omega arith) (h o' false v)) in
    let within : (o' : ℕ) → o' ≤ 256 → Keeps (counts b o' k false) (token.Open open' ∷ (bodies ++ rest)) =
    λ o' v. under (small_at (b + 1) 0 k true (omega arith) (omega arith) g) (paired (spell_query body) (close ∷ []) rest (limits_in body (b + 1) 0 k true (close ∷ rest) (omega arith) (omega arith) p s.1 last)) in
    let windowed : (o' : ℕ) → o' ≤ 256 → Keeps (counts b o' k false) (behind ++ rest) =
    λ o' v. paired (spell_row_window window) (token.Open open' ∷ bodies) rest (row_window_from window b o' k (token.Open open' ∷ (bodies ++ rest)) e v g (within o' v)) in
    let grouped : Any b k (tail ++ rest) = λ o' d' v. paired (spell_grouping grouping) behind rest (grouping_from grouping b o' k d' (behind ++ rest) e v g (windowed o' v)) in
    let c = small_at b o j false e f (omega arith) in
    under c (under c (under c (paired (spell_query source) tail rest (limits_in source b o j false (tail ++ rest) f (omega arith) g s.0 grouped))))
limits_in (AsOf' w l r grouping) b o j d rest f m n s h =
    let t : b + max (depth_of l) (depth_of r) ≤ 32 = m in
    let u : j + (joins_of l + joins_of r) ≤ 64 = n in
    let groups : List Token = spell_grouping grouping in
    let right : List Token = spell_query r ++ groups in
    let k = j + joins_of l in
    let i = k + joins_of r in
    let e : b ≤ 32 = omega arith in
    let g : k ≤ 64 = omega arith in
    let p : i ≤ 64 = omega arith in
    let last : Any b i (groups ++ rest) = λ o' d' v. grouping_from grouping b o' i d' rest e v p (keeps_at b o' i refl refl (omega arith) (h o' false v)) in
    let righted : (o' : ℕ) → o' ≤ 256 → Keeps (counts b o' k false) (right ++ rest) =
    λ o' v. paired (spell_query r) groups rest (limits_in r b o' k false (groups ++ rest) v (omega arith) p s.1 last) in
    let joined : Any b k ((spell_word word.AsOf w ∷ right) ++ rest) = λ o' d' v. word_under word.AsOf w b o' k d' (right ++ rest) (small_at b o' k false e v g) (righted o' v) in
    paired (spell_query l) (spell_word word.AsOf w ∷ right) rest (limits_in l b o j d ((spell_word word.AsOf w ∷ right) ++ rest) f (omega arith) g s.0 joined)
limits_in (Join' join at l r) b o j d rest f m n s h =
    let t : b + max (depth_of l) (depth_of r) ≤ 32 = m in
    let u : j + (joins_of l + joins_of r + 1) ≤ 64 = n in
    let right : List Token = spell_join join at ++ spell_query r in
    let k = j + joins_of l in
    let i = k + 1 + joins_of r in
    let p : i ≤ 64 = omega arith in
    let last : Any b i rest = λ o' d' v. keeps_at b o' i refl refl (omega arith) (h o' d' v) in
    let joined : Any b k (right ++ rest) = λ o' d' v. paired (spell_join join at) (spell_query r) rest (join_from join at b o' k d' (spell_query r ++ rest) (small_at b o' (k + 1) false (omega arith) v (omega arith)) (limits_in r b o' (k + 1) false rest v (omega arith) p s.1 last)) in
    paired (spell_query l) right rest (limits_in l b o j d (right ++ rest) f (omega arith) (omega arith) s.0 joined)

-- ---- statements

end_from : (closed : Bool) (o j : ℕ) → o ≤ 256 → j ≤ 64 → Keeps (counts 0 o j false) (spell_end closed)
end_from false o j f g = record { so = refl }
end_from true o j f g = under (small_at 0 o j false (omega arith) f g) (record { so = refl })

within : (w : Statement) → keeps_limits none_counted (spell_statement w) ≡ true → IsWithinLimits w
within w h =
    let x = limited_in w.query 0 0 0 false (token.Plain plain.Into ∷ token.Name w.name ∷ spell_end w.closed) (small_at 0 0 0 false (omega arith) (omega arith) (omega arith)) (record { so = h }) in
    record {
      brackets = (let t : 0 + depth_of w.query ≤ 32 = x.depth' in omega arith);
      joins = (let t : 0 + joins_of w.query ≤ 64 = x.joins' in omega arith);
      short = x.short';
    }

keeps : (w : Statement) → IsWithinLimits w → keeps_limits none_counted (spell_statement w) ≡ true
keeps w l =
    let t : depth_of w.query ≤ 32 = l.brackets in
    let u : joins_of w.query ≤ 64 = l.joins in
    let k = 0 + joins_of w.query in
    let v : k ≤ 64 = omega arith in
    (limits_in w.query 0 0 0 false (token.Plain plain.Into ∷ token.Name w.name ∷ spell_end w.closed) (omega arith) (omega arith) v l.short
    (λ o d f. (let s = small_at 0 o k false (omega arith) f v in under s (under s (end_from w.closed o k f v))))).so

pub limits_are_counted : LimitsAreCounted
limits_are_counted w = (keeps w, within w)
