-- A canonical text is read back: frames.
use Rattle.std.proofs.Common.{◌≡◌, ℕ, true, false, List, [], ◌∷◌, ◌++◌, map, Option, Some, None, option_map, refl, sym, ap, ◌∙◌}
use Rattle.std.proofs.lemmas.Bool.{true≢false}
use Rattle.gl_bits.proofs.AllLists.{heads}
use Rattle.gl_query.specs.declared.tree.Num.{Num}
use Rattle.gl_query.specs.Shapes.{ExprShape, ItemShape, FrameAggShape, FrameShape, FrameItemShape, SlotsShape, slots_shape}
use Rattle.gl_query.specs.Shapes as shape
use Rattle.gl_query.specs.Alike.{expr_alike, frame_agg_alike, frame_alike, frame_item_alike}
use Rattle.gl_query_tokens.specs.declared.token.Fold.TheVariants.{Sum, Min, Max, Avg}
use Rattle.gl_query_tokens.specs.declared.token.Plain.TheVariants as plain
use Rattle.gl_query_tokens.specs.declared.token.Spelling.TheVariants.{Small, Capital}
use Rattle.gl_query_tokens.specs.declared.token.Word.TheVariants as word
use Rattle.gl_query_tokens.specs.declared.token.Token.{Token}
use Rattle.gl_query_tokens.specs.declared.token.Token.TheVariants as token
use Rattle.gl_query_tokens.specs.Words.{word_text}
use Rattle.gl_query_reader.specs.declared.written.Bound.{Bound}
use Rattle.gl_query_reader.specs.declared.written.Bound.TheVariants as bound
use Rattle.gl_query_reader.specs.declared.written.Part.{Part}
use Rattle.gl_query_reader.specs.declared.written.FrameRows.{FrameRows}
use Rattle.gl_query_reader.specs.declared.written.FrameRows.TheVariants as rows
use Rattle.gl_query_reader.specs.Written as written
use Rattle.gl_query_reader.specs.Written.{IsOverAgg, IsFiltering, IsOver, spell, spell_over_agg, spell_filtering, spell_bound, spell_head, spell_grouping, spell_part, spell_rows, spell_over, spell_item}
use Rattle.gl_query_reader.specs.Meaning.{over_agg_meaning, filtering_meaning, bound_meaning, rows_meaning, over_meaning, part_meaning, part_of, frame_items, is_framed}
use Rattle.gl_query_tokens.proofs.Sound.{IsNameWord}
use Rattle.gl_query_printer.specs.Canonical.{name_of, num_of, expr_of, item_by, over_agg_of, filtering_of, bound_of, rows_of, grouping_of, partition_of, frame_by, frame_item_of}
use Rattle.gl_query_printer.proofs.Places.{placeless, none_some, parts, first, alone, nothing}
use Rattle.gl_query_printer.proofs.Writable.{CanBeExpr, CanBeFrameAgg, CanBeFilter, CanBeFrame, CanBeFrameItem, is_back}
use Rattle.gl_query_printer.proofs.ReadBack.{ReadOne, cons, two, plains, read_expr, read_fold, read_item}
use Rattle.gl_query_printer.proofs.ReadBackWindows.{read_grouping}

abbrev pub frames : List written.Item → List FrameItemShape
frames is = map frame_item_alike (frame_items is)

pub frames_parted : (x : written.Item) (xs : List written.Item) → frames (x ∷ xs) ≡ frames (x ∷ []) ++ frames xs
frames_parted (written.Bare name) xs = refl
frames_parted (written.Named e name) xs = refl
frames_parted (written.Total a name) xs = refl
frames_parted (written.Framed o name) xs = refl

abbrev framed : FrameShape → List ℕ → FrameItemShape
framed f name = record { frame = f; name = name }

-- ---- functions over rows

record ReadOverAgg (us : List Token) (a : FrameAggShape) : Type 0 where
  tree : written.OverAgg
  spelled : spell_over_agg tree ≡ us
  grammar : IsOverAgg tree
  alike : frame_agg_alike (over_agg_meaning tree) ≡ a

read_over_agg : (a : FrameAggShape) → CanBeFrameAgg a → (us : List Token) → map placeless us ≡ spell_over_agg (over_agg_of a) → ReadOverAgg us a
read_over_agg shape.CountOver c us h =
    let a = first us (token.Count 0) (token.Open 0 ∷ token.Plain plain.Close ∷ []) h in
    let b = first a.rest (token.Open 0) (token.Plain plain.Close ∷ []) a.rest_is in
    let k = alone b.rest (token.Plain plain.Close) b.rest_is in
    record {
      tree = written.CountOf a.at b.at;
      spelled = cons (token.Count a.at) us a.rest _ a.whole (cons (token.Open b.at) a.rest b.rest _ b.whole (sym k.whole));
      grammar = tt;
      alike = refl;
    }
read_over_agg (shape.SumOver e) c us h = let x = read_fold Sum e c us h in record { tree = written.FoldOf Sum x.at x.open' x.arg; spelled = x.spelled; grammar = x.grammar; alike = ap shape.SumOver x.alike }
read_over_agg (shape.MinOver e) c us h = let x = read_fold Min e c us h in record { tree = written.FoldOf Min x.at x.open' x.arg; spelled = x.spelled; grammar = x.grammar; alike = ap shape.MinOver x.alike }
read_over_agg (shape.MaxOver e) c us h = let x = read_fold Max e c us h in record { tree = written.FoldOf Max x.at x.open' x.arg; spelled = x.spelled; grammar = x.grammar; alike = ap shape.MaxOver x.alike }
read_over_agg (shape.AvgOver e) c us h = let x = read_fold Avg e c us h in record { tree = written.FoldOf Avg x.at x.open' x.arg; spelled = x.spelled; grammar = x.grammar; alike = ap shape.AvgOver x.alike }
read_over_agg (shape.LastOver e) c us h =
    let name : Token = token.Name (name_of (word_text word.LastValue)) in
    let a = first us name (token.Open 0 ∷ (spell (expr_of e) ++ token.Plain plain.Close ∷ [])) h in
    let b = first a.rest (token.Open 0) (spell (expr_of e) ++ token.Plain plain.Close ∷ []) a.rest_is in
    let p = parts b.rest (spell (expr_of e)) (token.Plain plain.Close ∷ []) b.rest_is in
    let x = read_expr e c p.front p.front_is in
    let k = alone p.back (token.Plain plain.Close) p.back_is in
    record {
      tree = written.LastOf (Small a.at) b.at x.tree;
      spelled = cons (written.spell_word word.LastValue (Small a.at)) us a.rest _ a.whole (cons (token.Open b.at) a.rest b.rest _ b.whole (two b.rest p.front p.back (spell x.tree) _ p.whole x.spelled (sym k.whole)));
      grammar = x.grammar;
      alike = ap shape.LastOver x.alike;
    }

record ReadFiltering (us : List Token) (f : Option ExprShape) : Type 0 where
  tree : Option written.Filtering
  spelled : spell_filtering tree ≡ us
  grammar : IsFiltering tree
  alike : option_map expr_alike (filtering_meaning tree) ≡ f

read_filtering : (f : Option ExprShape) → CanBeFilter f → (us : List Token) → map placeless us ≡ spell_filtering (filtering_of f) → ReadFiltering us f
read_filtering None c us h = record { tree = None; spelled = sym (nothing us h); grammar = tt; alike = refl }
read_filtering (Some e) c us h =
    let inner : List Token = spell (expr_of e) ++ token.Plain plain.Close ∷ [] in
    let a = first us (token.Word word.Filter 0) (token.Open 0 ∷ token.Plain plain.Where ∷ inner) h in
    let b = first a.rest (token.Open 0) (token.Plain plain.Where ∷ inner) a.rest_is in
    let w = first b.rest (token.Plain plain.Where) inner b.rest_is in
    let p = parts w.rest (spell (expr_of e)) (token.Plain plain.Close ∷ []) w.rest_is in
    let x = read_expr e c p.front p.front_is in
    let k = alone p.back (token.Plain plain.Close) p.back_is in
    record {
      tree = Some (written.FilterOf (Capital a.at) b.at x.tree);
      spelled = cons (token.Word word.Filter a.at) us a.rest _ a.whole (cons (token.Open b.at) a.rest b.rest _ b.whole (cons (token.Plain plain.Where) b.rest w.rest _ w.whole
          (two w.rest p.front p.back (spell x.tree) _ p.whole x.spelled (sym k.whole))));
      grammar = x.grammar;
      alike = ap Some x.alike;
    }

-- ---- rows

record ReadBound (us rest : List Token) (back : Option ℕ) : Type 0 where
  tree : Bound
  more : List Token
  whole : us ≡ spell_bound tree ∷ more
  more_is : map placeless more ≡ rest
  alike : option_map (λ (n : Num). n.value) (bound_meaning tree) ≡ back

read_bound : (back : Option ℕ) (us rest : List Token) → map placeless us ≡ spell_bound (bound_of back) ∷ rest → ReadBound us rest back
read_bound None us rest h =
    let a = first us (token.Word word.Unbounded 0) rest h in
    record { tree = bound.Unbounded (Capital a.at); more = a.rest; whole = a.whole; more_is = a.rest_is; alike = refl }
read_bound (Some n) us rest h =
    let a = first us (token.Number (num_of n)) rest h in
    record { tree = bound.Number (record { value = n; at = a.at }); more = a.rest; whole = a.whole; more_is = a.rest_is; alike = refl }

record ReadRows (us : List Token) (back : Option ℕ) : Type 0 where
  tree : FrameRows
  spelled : spell_rows (Some tree) ≡ us
  alike : option_map (λ (n : Num). n.value) (rows_meaning (Some tree)) ≡ back

read_rows : (back : Option ℕ) (us : List Token) → map placeless us ≡ spell_rows (Some (rows_of back)) → ReadRows us back
read_rows back us h =
    let a = first us (token.Word word.Rows 0) (spell_bound (bound_of back) ∷ token.Word word.Preceding 0 ∷ []) h in
    let b = read_bound back a.rest (token.Word word.Preceding 0 ∷ []) a.rest_is in
    let k = alone b.more (token.Word word.Preceding 0) b.more_is in
    record {
      tree = rows.Short (Capital a.at) b.tree (Capital k.at);
      spelled = cons (token.Word word.Rows a.at) us a.rest _ a.whole (cons (spell_bound b.tree) a.rest b.more _ b.whole (sym k.whole));
      alike = b.alike;
    }

-- ---- PARTITION

-- a PARTITION without its places
abbrev pub slots_of : Option Part → Option SlotsShape
slots_of p = option_map slots_shape (part_meaning p)

record ReadPart (us : List Token) (slots : Option SlotsShape) : Type 0 where
  tree : Option Part
  spelled : spell_part tree ≡ us
  alike : slots_of tree ≡ slots

abbrev slots_with : List ℕ → ℕ → SlotsShape
slots_with k n = record { key = k; groups = n }

some_slots : (k : List ℕ) (n : ℕ) (s : SlotsShape) → k ≡ s.key → n ≡ s.groups → Some (slots_with k n) ≡ Some s
some_slots k n s d e = rw (d, e) refl

read_part : (slots : Option SlotsShape) (us : List Token) → map placeless us ≡ spell_part (partition_of slots) → ReadPart us slots
read_part None us h = record { tree = None; spelled = sym (nothing us h); alike = refl }
read_part (Some s) us h =
    let a = first us (token.Word word.Partition 0) (spell_grouping (grouping_of s.key s.groups)) h in
    let g = read_grouping s.key s.groups a.rest a.rest_is in
    record {
      tree = Some (record { word = Capital a.at; grouping = g.grouping });
      spelled = cons (token.Word word.Partition a.at) us a.rest _ a.whole g.spelled;
      alike = some_slots g.grouping.key.text g.grouping.groups.value s g.key_is g.groups_is;
    }

-- ---- what stands before OVER, and OVER with its bracket

-- OVER and what stands in its bracket: PARTITION, and the tokens of the rows
record ReadBracket (us : List Token) (slots : Option SlotsShape) (rs : List Token) : Type 0 where
  word' : ℕ
  open' : ℕ
  part : Option Part
  rows' : List Token
  rows_is : map placeless rows' ≡ rs
  spelled : token.Word word.Over word' ∷ token.Open open' ∷ (spell_part part ++ (rows' ++ token.Plain plain.Close ∷ [])) ≡ us
  alike : slots_of part ≡ slots

read_bracket : (slots : Option SlotsShape) (us rs : List Token) → map placeless us ≡ token.Word word.Over 0 ∷ token.Open 0 ∷ (spell_part (partition_of slots) ++ (rs ++ token.Plain plain.Close ∷ [])) → ReadBracket us slots rs
read_bracket slots us rs h =
    let ps = spell_part (partition_of slots) in
    let last : List Token = rs ++ token.Plain plain.Close ∷ [] in
    let a = first us (token.Word word.Over 0) (token.Open 0 ∷ (ps ++ last)) h in
    let b = first a.rest (token.Open 0) (ps ++ last) a.rest_is in
    let c = parts b.rest ps last b.rest_is in
    let x = read_part slots c.front c.front_is in
    let d = parts c.back rs (token.Plain plain.Close ∷ []) c.back_is in
    let k = alone d.back (token.Plain plain.Close) d.back_is in
    record {
      word' = a.at;
      open' = b.at;
      part = x.tree;
      rows' = d.front;
      rows_is = d.front_is;
      spelled = cons (token.Word word.Over a.at) us a.rest _ a.whole (cons (token.Open b.at) a.rest b.rest _ b.whole
          (two b.rest c.front c.back (spell_part x.tree) _ c.whole x.spelled (two c.back d.front d.back d.front _ d.whole refl (sym k.whole))));
      alike = x.alike;
    }

record ReadFrame (us : List Token) (f : FrameShape) (slots : Option SlotsShape) : Type 0 where
  tree : written.Over
  spelled : spell_over tree ≡ us
  grammar : IsOver tree
  own : slots_of (part_of tree) ≡ slots
  alike : frame_alike (over_meaning tree) ≡ f

-- the bracket of OVER around these rows
abbrev bracket : ℕ → ℕ → Option Part → List Token → List Token
bracket at begin part rs = token.Word word.Over at ∷ token.Open begin ∷ (spell_part part ++ (rs ++ token.Plain plain.Close ∷ []))

read_lag : (slots : Option SlotsShape) (e : ExprShape) (back : ℕ) → CanBeExpr e → (us : List Token) → map placeless us ≡ spell_over (written.OverOf (written.LagOf (Small 0) 0 (expr_of e) (Some (num_of back))) (Capital 0) 0 (partition_of slots) None) → ReadFrame us (shape.Lag e back) slots
read_lag slots e back c us h =
    let name : Token = token.Name (name_of (word_text word.Lag)) in
    let ending : List Token = token.Plain plain.Comma ∷ token.Number (num_of back) ∷ token.Plain plain.Close ∷ [] in
    let q = parts us (name ∷ token.Open 0 ∷ (spell (expr_of e) ++ ending)) (bracket 0 0 (partition_of slots) []) h in
    let a = first q.front name (token.Open 0 ∷ (spell (expr_of e) ++ ending)) q.front_is in
    let b = first a.rest (token.Open 0) (spell (expr_of e) ++ ending) a.rest_is in
    let p = parts b.rest (spell (expr_of e)) ending b.rest_is in
    let x = read_expr e c p.front p.front_is in
    let d = first p.back (token.Plain plain.Comma) (token.Number (num_of back) ∷ token.Plain plain.Close ∷ []) p.back_is in
    let n = first d.rest (token.Number (num_of back)) (token.Plain plain.Close ∷ []) d.rest_is in
    let k = alone n.rest (token.Plain plain.Close) n.rest_is in
    let head : written.OverHead = written.LagOf (Small a.at) b.at x.tree (Some (record { value = back; at = n.at })) in
    let hd : spell_head head ≡ q.front = cons (written.spell_word word.Lag (Small a.at)) q.front a.rest _ a.whole (cons (token.Open b.at) a.rest b.rest _ b.whole (two b.rest p.front p.back (spell x.tree) _ p.whole x.spelled
    (cons (token.Plain plain.Comma) p.back d.rest _ d.whole (cons (token.Number (record { value = back; at = n.at })) d.rest n.rest _ n.whole (sym k.whole))))) in
    let o = read_bracket slots q.back [] q.back_is in
    let none : [] ≡ o.rows' = sym (nothing o.rows' o.rows_is) in
    record {
      tree = written.OverOf head (Capital o.word') o.open' o.part None;
      spelled = two us q.front q.back (spell_head head) _ q.whole hd (ap (bracket o.word' o.open' o.part) none ∙ o.spelled);
      grammar = (x.grammar, tt);
      own = o.alike;
      alike = ap (λ (z : ExprShape). shape.Lag z back) x.alike;
    }

alike_over : (a b : FrameAggShape) (f g : Option ExprShape) (m n : Option ℕ) → a ≡ b → f ≡ g → m ≡ n → shape.Over a f m ≡ shape.Over b g n
alike_over a b f g m n d e h = rw (d, e, h) refl

read_ranged : (slots : Option SlotsShape) (agg : FrameAggShape) (filter : Option ExprShape) (back : Option ℕ) → CanBeFrameAgg agg → CanBeFilter filter → (us : List Token)
    → map placeless us ≡ spell_over (written.OverOf (written.Ranged (over_agg_of agg) (filtering_of filter)) (Capital 0) 0 (partition_of slots) (Some (rows_of back))) → ReadFrame us (shape.Over agg filter back) slots
read_ranged slots agg filter back c d us h =
    let aggs = spell_over_agg (over_agg_of agg) in
    let filters = spell_filtering (filtering_of filter) in
    let rs = spell_rows (Some (rows_of back)) in
    let q = parts us (aggs ++ filters) (bracket 0 0 (partition_of slots) rs) h in
    let p = parts q.front aggs filters q.front_is in
    let x = read_over_agg agg c p.front p.front_is in
    let y = read_filtering filter d p.back p.back_is in
    let o = read_bracket slots q.back rs q.back_is in
    let r = read_rows back o.rows' o.rows_is in
    record {
      tree = written.OverOf (written.Ranged x.tree y.tree) (Capital o.word') o.open' o.part (Some r.tree);
      spelled = two us q.front q.back (spell_head (written.Ranged x.tree y.tree)) _ q.whole (two q.front p.front p.back (spell_over_agg x.tree) _ p.whole x.spelled y.spelled)
          (ap (bracket o.word' o.open' o.part) r.spelled ∙ o.spelled);
      grammar = ((x.grammar, y.grammar), tt);
      own = o.alike;
      alike = alike_over (frame_agg_alike (over_agg_meaning x.tree)) agg (option_map expr_alike (filtering_meaning y.tree)) filter (option_map (λ (n : Num). n.value) (rows_meaning (Some r.tree))) back x.alike y.alike r.alike;
    }

-- ---- items

-- a function with OVER has this PARTITION
abbrev pub HasSlots : Option SlotsShape → written.Item → Type 0
HasSlots slots (written.Bare name) = Unit {0}
HasSlots slots (written.Named e name) = Unit {0}
HasSlots slots (written.Total a name) = Unit {0}
HasSlots slots (written.Framed o name) = slots_of (part_of o) ≡ slots

plain_has : (slots : Option SlotsShape) (t : written.Item) → is_framed t ≡ false → HasSlots slots t
plain_has slots (written.Bare name) f = tt
plain_has slots (written.Named e name) f = tt
plain_has slots (written.Total a name) f = tt
plain_has slots (written.Framed o name) f = absurd (true≢false f)

-- an item that is an expression is a frame over the row itself
own_of : (t : written.Item) (i : ItemShape) → is_framed t ≡ false → plains (t ∷ []) ≡ i ∷ [] → frames (t ∷ []) ≡ framed (shape.Own i.expr) i.name ∷ []
own_of (written.Bare name) i f h = ap (λ (x : ItemShape). framed (shape.Own x.expr) x.name ∷ []) (heads _ i [] [] h)
own_of (written.Named e name) i f h = ap (λ (x : ItemShape). framed (shape.Own x.expr) x.name ∷ []) (heads _ i [] [] h)
own_of (written.Total a name) i f h = absurd (none_some i [] h)
own_of (written.Framed o name) i f h = absurd (true≢false f)

read_own : (slots : Option SlotsShape) (e : ExprShape) (name : List ℕ) → CanBeExpr e → IsNameWord name → (us : List Token) → map placeless us ≡ spell_item (item_by e name) → ReadOne (HasSlots slots) frames is_back false us (framed (shape.Own e) name)
read_own slots e name c n us h =
    let i : ItemShape = record { expr = e; name = name } in
    let x = read_item i (c, n) us h in
    record { tree = x.tree; spelled = x.spelled; grammar = x.grammar; total = x.total; framed = x.framed; own = plain_has slots x.tree x.framed; alike = own_of x.tree i x.framed x.alike }

-- a function with OVER under its name
read_under : (slots : Option SlotsShape) (over : written.Over) (f : FrameShape) (name : List ℕ) → true ≡ is_back (framed f name) → ((vs : List Token) → map placeless vs ≡ spell_over over → ReadFrame vs f slots) → (us : List Token) → map placeless us ≡ spell_item (written.Framed over (name_of name)) → ReadOne (HasSlots slots) frames is_back false us (framed f name)
read_under slots over f name t r us h =
    let p = parts us (spell_over over) (token.Plain plain.As ∷ token.Name (name_of name) ∷ []) h in
    let x = r p.front p.front_is in
    let a = first p.back (token.Plain plain.As) (token.Name (name_of name) ∷ []) p.back_is in
    let n = alone a.rest (token.Name (name_of name)) a.rest_is in
    record {
      tree = written.Framed x.tree (record { text = name; at = n.at });
      spelled = two us p.front p.back (spell_over x.tree) _ p.whole x.spelled (cons (token.Plain plain.As) p.back a.rest _ a.whole (sym n.whole));
      grammar = x.grammar;
      total = refl;
      framed = t;
      own = x.own;
      alike = ap (λ (z : FrameShape). framed z name ∷ []) x.alike;
    }

read_frame : (slots : Option SlotsShape) (f : FrameShape) (name : List ℕ) → CanBeFrame f → IsNameWord name → (us : List Token) → map placeless us ≡ spell_item (frame_by (partition_of slots) f name) → ReadOne (HasSlots slots) frames is_back false us (framed f name)
read_frame slots (shape.Own e) name c n us h = read_own slots e name c n us h
read_frame slots (shape.Lag e back) name c n us h = read_under slots (written.OverOf (written.LagOf (Small 0) 0 (expr_of e) (Some (num_of back))) (Capital 0) 0 (partition_of slots) None) (shape.Lag e back) name refl (λ vs k. read_lag slots e back c.0 vs k) us h
read_frame slots (shape.Over agg filter back) name c n us h = read_under slots (written.OverOf (written.Ranged (over_agg_of agg) (filtering_of filter)) (Capital 0) 0 (partition_of slots) (Some (rows_of back))) (shape.Over agg filter back) name refl (λ vs k. read_ranged slots agg filter back c.0 c.1 vs k) us h

pub read_frame_item : (slots : Option SlotsShape) (i : FrameItemShape) → CanBeFrameItem i → (us : List Token) → map placeless us ≡ spell_item (frame_item_of (partition_of slots) i) → ReadOne (HasSlots slots) frames is_back false us i
read_frame_item slots i c us h = read_frame slots i.frame i.name c.0 c.1 us h
