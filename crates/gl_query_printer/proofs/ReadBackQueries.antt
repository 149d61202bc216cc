-- A canonical text is read back: queries.
use Rattle.std.proofs.Common.{◌≡◌, ℕ, List, [], ◌∷◌, ◌++◌, map, Option, Some, None, option_map, refl, sym, ap, ◌∙◌}
use Rattle.std.proofs.lemmas.Bool.{true≢false}
use Rattle.gl_query.specs.declared.tree.Measure.{Measure}
use Rattle.gl_query.specs.declared.tree.Measure.TheVariants.{Tuples}
use Rattle.gl_query.specs.Shapes.{ExprShape, FrameItemShape, SlotsShape, PickShape, QueryShape}
use Rattle.gl_query.specs.Shapes as shape
use Rattle.gl_query_tokens.specs.declared.token.Join.TheVariants.{Union, Concat}
use Rattle.gl_query_tokens.specs.declared.token.Spelling.TheVariants.{Capital}
use Rattle.gl_query_tokens.specs.declared.token.Word.TheVariants as word
use Rattle.gl_query_reader.specs.declared.joins.Joining.{Joining}
use Rattle.gl_query_reader.specs.declared.joins.Joining.TheVariants as joining
use Rattle.gl_query_tokens.specs.declared.token.Plain.TheVariants as plain
use Rattle.gl_query_tokens.specs.declared.token.Token.{Token}
use Rattle.gl_query_tokens.specs.declared.token.Token.TheVariants as token
use Rattle.gl_query_reader.specs.Written as written
use Rattle.gl_query_reader.specs.Written.{IsQuery, IsSource, spell_items, spell_pick, spell_window, spell_row_window, spell_filter, spell_grouping, spell_join, spell_query}
use Rattle.gl_query.specs.Trees as meant
use Rattle.gl_query_reader.specs.Meaning.{expr_meaning, by_pick, query_meaning, join_meaning}
use Rattle.gl_query_reader.specs.Mixed.{mixed_pick, mixed_in}
use Rattle.gl_query.specs.Alike.{expr_alike, query_alike}
use Rattle.gl_query_printer.specs.Brackets.{is_side, is_stream, is_term}
use Rattle.gl_query_printer.specs.Canonical.{name_of, expr_of, agg_item_of, frame_item_of, partition_of, pick_of, side_of, source_of, term_of, window_of, grouping_of, query_of}
use Rattle.gl_query_printer.proofs.Places.{placeless, parts, first, alone, nothing}
use Rattle.gl_query_printer.proofs.Writable.{CanBeSource, IsNoStream}
use Rattle.gl_query_printer.proofs.ReadBackWindows.{read_window, read_row_window, read_grouping}
use Rattle.gl_query_printer.proofs.ReadBack.{cons, two}
use Rattle.gl_query_printer.proofs.ReadBackSelects.{read_pick, read_aggs, read_frames, read_filter}
use Rattle.gl_query_printer.proofs.ReadBackSides.{Reads, in_brackets, read_source, read_side, read_term, none_mixed}

-- what stands between two queries, which it makes one of
record ReadJoining (us : List Token) (make : QueryShape → QueryShape → QueryShape) : Type 0 where
  at : ℕ
  join : Joining
  spelled : spell_join join at ≡ us
  alike : (l r : written.Query) (x y : QueryShape) → query_alike (query_meaning l) ≡ x → query_alike (query_meaning r) ≡ y
      → query_alike (join_meaning join (query_meaning l) (query_meaning r) at) ≡ make x y

read_union : (us : List Token) → map placeless us ≡ token.Join Union 0 ∷ [] → ReadJoining us (λ x y. shape.Union x y)
read_union us h =
    let k = alone us (token.Join Union 0) h in
    record {
      at = k.at;
      join = joining.Union;
      spelled = sym k.whole;
      alike = λ l r x y e f. ap (λ (z : QueryShape). shape.Union z (query_alike (query_meaning r))) e ∙ ap (shape.Union x) f;
    }

read_concat : (us : List Token) → map placeless us ≡ token.Join Concat 0 ∷ [] → ReadJoining us (λ x y. shape.Concat x y)
read_concat us h =
    let k = alone us (token.Join Concat 0) h in
    record {
      at = k.at;
      join = joining.Concat;
      spelled = sym k.whole;
      alike = λ l r x y e f. ap (λ (z : QueryShape). shape.Concat z (query_alike (query_meaning r))) e ∙ ap (shape.Concat x) f;
    }

-- UNION BY ARRIVAL
abbrev arrival_tokens : List Token
arrival_tokens = token.Join Union 0 ∷ token.By 0 ∷ token.Word word.Arrival 0 ∷ []

read_arrival : (us : List Token) → map placeless us ≡ arrival_tokens → ReadJoining us (λ x y. shape.ByArrival x y)
read_arrival us h =
    let a = first us (token.Join Union 0) (token.By 0 ∷ token.Word word.Arrival 0 ∷ []) h in
    let b = first a.rest (token.By 0) (token.Word word.Arrival 0 ∷ []) a.rest_is in
    let k = alone b.rest (token.Word word.Arrival 0) b.rest_is in
    record {
      at = a.at;
      join = joining.Arrival b.at (Capital k.at);
      spelled = cons (token.Join Union a.at) us a.rest _ a.whole (cons (token.By b.at) a.rest b.rest _ b.whole (sym k.whole));
      alike = λ l r x y e f. ap (λ (z : QueryShape). shape.ByArrival z (query_alike (query_meaning r))) e ∙ ap (shape.ByArrival x) f;
    }

pub record ReadJoin (us : List Token) (make : QueryShape → QueryShape → QueryShape) (l r : QueryShape) : Type 0 where
  pub at : ℕ
  pub join : Joining
  pub left : written.Query
  pub right : written.Query
  pub spelled : spell_query (written.Join' join at left right) ≡ us
  pub grammar : IsQuery (written.Join' join at left right)
  pub mixed : mixed_in (written.Join' join at left right) ≡ None
  pub alike : query_alike (query_meaning (written.Join' join at left right)) ≡ make l r

read_join : (make : QueryShape → QueryShape → QueryShape) (between : List Token) → ((vs : List Token) → map placeless vs ≡ between → ReadJoining vs make)
    → (l r : QueryShape) → IsNoStream l → IsNoStream r → Reads l → Reads r → (us : List Token)
    → map placeless us ≡ spell_query (query_of l) ++ (between ++ spell_query (term_of (query_of r))) → ReadJoin us make l r
read_join make between rj l r n m rl rr us h =
    let right = spell_query (term_of (query_of r)) in
    let p = parts us (spell_query (query_of l)) (between ++ right) h in
    let x = rl p.front p.front_is in
    let d = parts p.back between right p.back_is in
    let j = rj d.front d.front_is in
    let y = read_term (is_term (query_of r)) r refl m rr d.back d.back_is in
    record {
      at = j.at;
      join = j.join;
      left = x.tree;
      right = y.tree;
      spelled = two us p.front p.back (spell_query x.tree) _ p.whole x.spelled (two p.back d.front d.back (spell_join j.join j.at) (spell_query y.tree) d.whole j.spelled y.spelled);
      grammar = (x.grammar n, y.grammar);
      mixed = none_mixed (mixed_in x.tree) (mixed_in y.tree) x.mixed y.mixed;
      alike = j.alike x.tree y.tree l r x.alike y.alike;
    }

alike_rows : (p : written.Pick) (f : Option written.Expr) (s : written.Query) (pick : PickShape) (filter : Option ExprShape) (source : QueryShape)
    → ((f : Option meant.ExprTree) (s : meant.QueryTree) → query_alike (by_pick p f s) ≡ shape.Rows pick (option_map expr_alike f) (query_alike s)) → option_map expr_alike (option_map expr_meaning f) ≡ filter → query_alike (query_meaning s) ≡ source
    → query_alike (by_pick p (option_map expr_meaning f) (query_meaning s)) ≡ shape.Rows pick filter source
alike_rows p f s pick filter source a b c =
    a (option_map expr_meaning f) (query_meaning s) ∙ ap (λ (o : Option ExprShape). shape.Rows pick o (query_alike (query_meaning s))) b ∙ ap (shape.Rows pick filter) c

alike_frames : (p : written.Pick) (f : Option written.Expr) (s : written.Query) (items : List FrameItemShape) (filter : Option ExprShape) (slots : Option SlotsShape) (source : QueryShape)
    → ((f : Option meant.ExprTree) (s : meant.QueryTree) → query_alike (by_pick p f s) ≡ shape.Frames items (option_map expr_alike f) slots (query_alike s)) → option_map expr_alike (option_map expr_meaning f) ≡ filter → query_alike (query_meaning s) ≡ source
    → query_alike (by_pick p (option_map expr_meaning f) (query_meaning s)) ≡ shape.Frames items filter slots source
alike_frames p f s items filter slots source a b c =
    a (option_map expr_meaning f) (query_meaning s) ∙ ap (λ (o : Option ExprShape). shape.Frames items o slots (query_alike (query_meaning s))) b ∙ ap (shape.Frames items filter slots) c

alike_each : (by measure : Measure) (var : List ℕ) (a b s m : ℕ) (x y source body : QueryShape) → by ≡ measure → x ≡ source → a ≡ s → b ≡ m → y ≡ body
    → shape.Each by var x a b y ≡ shape.Each measure var source s m body
alike_each by measure var a b s m x y source body d e f g h = rw (d, e, f, g, h) refl

alike_groups : (var k key : List ℕ) (a n : ℕ) (x y source body : QueryShape) → x ≡ source → k ≡ key → a ≡ n → y ≡ body → shape.PerGroup var x k a y ≡ shape.PerGroup var source key n body
alike_groups var k key a n x y source body e f g h = rw (e, f, g, h) refl

alike_partition : (var k key : List ℕ) (a n b s d m : ℕ) (x y source body : QueryShape) → x ≡ source → k ≡ key → a ≡ n → b ≡ s → d ≡ m → y ≡ body
    → shape.Partition var x k a b d y ≡ shape.Partition var source key n s m body
alike_partition var k key a n b s d m x y source body e f g h i j = rw (e, f, g, h, i, j) refl

alike_joins : (x y l r : QueryShape) (k key : List ℕ) (a n : ℕ) → x ≡ l → y ≡ r → k ≡ key → a ≡ n
    → shape.AsOf x y (record { key = k; groups = a }) ≡ shape.AsOf l r (record { key = key; groups = n })
alike_joins x y l r k key a n e f g h = rw (e, f, g, h) refl

-- the part of an EACH in front of its window or its key
pub record ReadHead (us : List Token) (var : List ℕ) (source : QueryShape) (more : List Token) : Type 0 where
  pub at : ℕ
  pub name_at : ℕ
  pub tree : written.Query
  pub rest : List Token
  pub whole : us ≡ token.Each at ∷ token.Name (record { text = var; at = name_at }) ∷ token.Plain plain.In ∷ (spell_query tree ++ rest)
  pub rest_is : map placeless rest ≡ more
  pub grammar : IsSource tree
  pub mixed : mixed_in tree ≡ None
  pub alike : query_alike (query_meaning tree) ≡ source

read_head : (var : List ℕ) (source : QueryShape) (more : List Token) → Reads source → (us : List Token) → map placeless us ≡ token.Each 0 ∷ token.Name (name_of var) ∷ token.Plain plain.In ∷ (spell_query (source_of (query_of source)) ++ more) → ReadHead us var source more
read_head var source more r us h =
    let inner = spell_query (source_of (query_of source)) in
    let a = first us (token.Each 0) (token.Name (name_of var) ∷ token.Plain plain.In ∷ (inner ++ more)) h in
    let b = first a.rest (token.Name (name_of var)) (token.Plain plain.In ∷ (inner ++ more)) a.rest_is in
    let c = first b.rest (token.Plain plain.In) (inner ++ more) b.rest_is in
    let p = parts c.rest inner more c.rest_is in
    let x = read_source (is_stream (query_of source)) source refl r p.front p.front_is in
    record {
      at = a.at;
      name_at = b.at;
      tree = x.tree;
      rest = p.back;
      whole = sym (cons (token.Each a.at) us a.rest _ a.whole (cons (token.Name (record { text = var; at = b.at })) a.rest b.rest _ b.whole (cons (token.Plain plain.In) b.rest c.rest _ c.whole (two c.rest p.front p.back (spell_query x.tree) p.back p.whole x.spelled refl))));
      rest_is = p.back_is;
      grammar = x.grammar;
      mixed = x.mixed;
      alike = x.alike;
    }

-- the body in its brackets
pub record ReadBody (us : List Token) (body : QueryShape) : Type 0 where
  pub at : ℕ
  pub tree : written.Query
  pub spelled : token.Open at ∷ (spell_query tree ++ token.Plain plain.Close ∷ []) ≡ us
  pub grammar : IsQuery tree
  pub mixed : mixed_in tree ≡ None
  pub alike : query_alike (query_meaning tree) ≡ body

read_body : (body : QueryShape) → IsNoStream body → Reads body → (us : List Token) → map placeless us ≡ token.Open 0 ∷ (spell_query (query_of body) ++ token.Plain plain.Close ∷ []) → ReadBody us body
read_body body n r us h = let x = in_brackets body r us h in record { at = x.at; tree = x.inner; spelled = x.spelled; grammar = x.grammar n; mixed = x.mixed; alike = x.alike }

head_spelled : (a b c : Token) (us xs rest ys : List Token) → us ≡ a ∷ b ∷ c ∷ (xs ++ rest) → ys ≡ rest → a ∷ b ∷ c ∷ (xs ++ ys) ≡ us
head_spelled a b c us xs rest ys h e = ap (λ (zs : List Token). a ∷ b ∷ c ∷ (xs ++ zs)) e ∙ sym h

pub read_query : (q : QueryShape) → CanBeSource q → Reads q
read_query (shape.Read name) c us h =
    let a = alone us (token.Name (name_of name)) h in
    record { tree = written.Stream (record { text = name; at = a.at }); spelled = sym a.whole; grammar = λ n. absurd n; bare = λ e. tt; term = λ n e. absurd n; mixed = refl; alike = refl }
read_query (shape.Rows pick filter source) c us h =
    let filters = spell_filter (option_map expr_of filter) in
    let inner = spell_query (source_of (query_of source)) in
    let a = first us (token.Plain plain.Select) (spell_pick (pick_of pick) ++ token.Plain plain.From ∷ (inner ++ (filters ++ []))) h in
    let p = parts a.rest (spell_pick (pick_of pick)) (token.Plain plain.From ∷ (inner ++ (filters ++ []))) a.rest_is in
    let x = read_pick pick c.0 p.front p.front_is in
    let b = first p.back (token.Plain plain.From) (inner ++ (filters ++ [])) p.back_is in
    let d = parts b.rest inner (filters ++ []) b.rest_is in
    let y = read_source (is_stream (query_of source)) source refl (λ vs k. read_query source c.2 vs k) d.front d.front_is in
    let f = parts d.back filters [] d.back_is in
    let z = read_filter filter c.1 f.front f.front_is in
    record {
      tree = written.Select x.tree y.tree None z.tree None;
      spelled = cons (token.Plain plain.Select) us a.rest _ a.whole (two a.rest p.front p.back (spell_pick x.tree) _ p.whole x.spelled (cons (token.Plain plain.From) p.back b.rest _ b.whole
          (two b.rest d.front d.back (spell_query y.tree) _ d.whole y.spelled (two d.back f.front f.back (spell_filter z.tree) [] f.whole z.spelled (sym (nothing f.back f.back_is))))));
      grammar = λ n. (x.grammar, y.grammar, z.grammar);
      bare = λ e. absurd (true≢false (sym e));
      term = λ n e. (x.grammar, y.grammar, z.grammar);
      mixed = none_mixed (mixed_pick x.tree None) (mixed_in y.tree) x.mixed y.mixed;
      alike = alike_rows x.tree z.tree y.tree pick filter source x.alike z.alike y.alike;
    }
read_query (shape.Total aggs source) c us h =
    let items = spell_items (map agg_item_of aggs) in
    let inner = spell_query (source_of (query_of source)) in
    let a = first us (token.Plain plain.Select) (items ++ token.Plain plain.From ∷ (inner ++ [])) h in
    let p = parts a.rest items (token.Plain plain.From ∷ (inner ++ [])) a.rest_is in
    let x = read_aggs aggs c.0 c.1 p.front p.front_is in
    let b = first p.back (token.Plain plain.From) (inner ++ []) p.back_is in
    let d = parts b.rest inner [] b.rest_is in
    let y = read_source (is_stream (query_of source)) source refl (λ vs k. read_query source c.2 vs k) d.front d.front_is in
    record {
      tree = written.Select x.tree y.tree None None None;
      spelled = cons (token.Plain plain.Select) us a.rest _ a.whole (two a.rest p.front p.back (spell_pick x.tree) _ p.whole x.spelled (cons (token.Plain plain.From) p.back b.rest _ b.whole
          (two b.rest d.front d.back (spell_query y.tree) [] d.whole y.spelled (sym (nothing d.back d.back_is)))));
      grammar = λ n. (x.grammar, y.grammar, tt);
      bare = λ e. absurd (true≢false (sym e));
      term = λ n e. (x.grammar, y.grammar, tt);
      mixed = none_mixed (mixed_pick x.tree None) (mixed_in y.tree) x.mixed y.mixed;
      alike = x.alike (query_meaning y.tree) ∙ ap (shape.Total aggs) y.alike;
    }
read_query (shape.Frames items filter slots source) c us h =
    let filters = spell_filter (option_map expr_of filter) in
    let inner = spell_query (source_of (query_of source)) in
    let picks = spell_items (map (frame_item_of (partition_of slots)) items) in
    let a = first us (token.Plain plain.Select) (picks ++ token.Plain plain.From ∷ (inner ++ (filters ++ []))) h in
    let p = parts a.rest picks (token.Plain plain.From ∷ (inner ++ (filters ++ []))) a.rest_is in
    let x = read_frames slots items c.0 c.1 p.front p.front_is in
    let b = first p.back (token.Plain plain.From) (inner ++ (filters ++ [])) p.back_is in
    let d = parts b.rest inner (filters ++ []) b.rest_is in
    let y = read_source (is_stream (query_of source)) source refl (λ vs k. read_query source c.4 vs k) d.front d.front_is in
    let f = parts d.back filters [] d.back_is in
    let z = read_filter filter c.2 f.front f.front_is in
    record {
      tree = written.Select x.tree y.tree None z.tree None;
      spelled = cons (token.Plain plain.Select) us a.rest _ a.whole (two a.rest p.front p.back (spell_pick x.tree) _ p.whole x.spelled (cons (token.Plain plain.From) p.back b.rest _ b.whole
          (two b.rest d.front d.back (spell_query y.tree) _ d.whole y.spelled (two d.back f.front f.back (spell_filter z.tree) [] f.whole z.spelled (sym (nothing f.back f.back_is))))));
      grammar = λ n. (x.grammar, y.grammar, z.grammar);
      bare = λ e. absurd (true≢false (sym e));
      term = λ n e. (x.grammar, y.grammar, z.grammar);
      mixed = none_mixed (mixed_pick x.tree None) (mixed_in y.tree) x.mixed y.mixed;
      alike = alike_frames x.tree z.tree y.tree items filter slots source x.alike z.alike y.alike;
    }
read_query (shape.Each measure var source size advance body) c us h =
    let end : List Token = token.Open 0 ∷ (spell_query (query_of body) ++ token.Plain plain.Close ∷ []) in
    let windows = spell_window (window_of measure size advance) in
    let a = read_head var source (windows ++ end) (λ vs k. read_query source c.1 vs k) us h in
    let p = parts a.rest windows end a.rest_is in
    let w = read_window measure size advance p.front p.front_is in
    let b = read_body body c.5 (λ vs k. read_query body c.4 vs k) p.back p.back_is in
    record {
      tree = written.Windows a.at (record { text = var; at = a.name_at }) a.tree w.window b.at b.tree;
      spelled = head_spelled (token.Each a.at) (token.Name (record { text = var; at = a.name_at })) (token.Plain plain.In) us (spell_query a.tree) a.rest _ a.whole (two a.rest p.front p.back (spell_window w.window) _ p.whole w.spelled b.spelled);
      grammar = λ n. (a.grammar, b.grammar);
      bare = λ e. absurd (true≢false (sym e));
      term = λ n e. (a.grammar, b.grammar);
      mixed = none_mixed (mixed_in a.tree) (mixed_in b.tree) a.mixed b.mixed;
      alike = alike_each w.window.measure measure var w.window.size.value w.window.advance.value size advance (query_alike (query_meaning a.tree)) (query_alike (query_meaning b.tree)) source body w.measure_is a.alike w.size_is w.advance_is b.alike;
    }
read_query (shape.PerGroup var source key groups body) c us h =
    let end : List Token = token.Open 0 ∷ (spell_query (query_of body) ++ token.Plain plain.Close ∷ []) in
    let by = spell_grouping (grouping_of key groups) in
    let a = read_head var source (by ++ end) (λ vs k. read_query source c.1 vs k) us h in
    let p = parts a.rest by end a.rest_is in
    let g = read_grouping key groups p.front p.front_is in
    let b = read_body body c.5 (λ vs k. read_query body c.4 vs k) p.back p.back_is in
    record {
      tree = written.Groups a.at (record { text = var; at = a.name_at }) a.tree g.grouping None b.at b.tree;
      spelled = head_spelled (token.Each a.at) (token.Name (record { text = var; at = a.name_at })) (token.Plain plain.In) us (spell_query a.tree) a.rest _ a.whole (two a.rest p.front p.back (spell_grouping g.grouping) _ p.whole g.spelled b.spelled);
      grammar = λ n. (a.grammar, b.grammar);
      bare = λ e. absurd (true≢false (sym e));
      term = λ n e. (a.grammar, b.grammar);
      mixed = none_mixed (mixed_in a.tree) (mixed_in b.tree) a.mixed b.mixed;
      alike = alike_groups var g.grouping.key.text key g.grouping.groups.value groups (query_alike (query_meaning a.tree)) (query_alike (query_meaning b.tree)) source body a.alike g.key_is g.groups_is b.alike;
    }
read_query (shape.Partition var source key groups size advance body) c us h =
    let end : List Token = token.Open 0 ∷ (spell_query (query_of body) ++ token.Plain plain.Close ∷ []) in
    let by = spell_grouping (grouping_of key groups) in
    let windows = spell_window (window_of Tuples size advance) in
    let a = read_head var source (by ++ (windows ++ end)) (λ vs k. read_query source c.1 vs k) us h in
    let p = parts a.rest by (windows ++ end) a.rest_is in
    let g = read_grouping key groups p.front p.front_is in
    let d = parts p.back windows end p.back_is in
    let w = read_row_window size advance d.front d.front_is in
    let b = read_body body c.7 (λ vs k. read_query body c.6 vs k) d.back d.back_is in
    record {
      tree = written.Groups a.at (record { text = var; at = a.name_at }) a.tree g.grouping (Some w.window) b.at b.tree;
      spelled = head_spelled (token.Each a.at) (token.Name (record { text = var; at = a.name_at })) (token.Plain plain.In) us (spell_query a.tree) a.rest _ a.whole
          (two a.rest p.front p.back (spell_grouping g.grouping) _ p.whole g.spelled (two p.back d.front d.back (spell_row_window (Some w.window)) _ d.whole w.spelled b.spelled));
      grammar = λ n. (a.grammar, b.grammar);
      bare = λ e. absurd (true≢false (sym e));
      term = λ n e. (a.grammar, b.grammar);
      mixed = none_mixed (mixed_in a.tree) (mixed_in b.tree) a.mixed b.mixed;
      alike = alike_partition var g.grouping.key.text key g.grouping.groups.value groups w.window.size.value size w.window.advance.value advance (query_alike (query_meaning a.tree)) (query_alike (query_meaning b.tree)) source body
          a.alike g.key_is g.groups_is w.size_is w.advance_is b.alike;
    }
read_query (shape.Union l r) c us h =
    let x = read_join (λ x y. shape.Union x y) (token.Join Union 0 ∷ []) read_union l r c.1 c.3 (λ vs k. read_query l c.0 vs k) (λ vs k. read_query r c.2 vs k) us h in
    record { tree = written.Join' x.join x.at x.left x.right; spelled = x.spelled; grammar = λ n. x.grammar; bare = λ e. absurd (true≢false (sym e)); term = λ n e. absurd (true≢false (sym e)); mixed = x.mixed; alike = x.alike }
read_query (shape.ByArrival l r) c us h =
    let x = read_join (λ x y. shape.ByArrival x y) arrival_tokens read_arrival l r c.1 c.3 (λ vs k. read_query l c.0 vs k) (λ vs k. read_query r c.2 vs k) us h in
    record { tree = written.Join' x.join x.at x.left x.right; spelled = x.spelled; grammar = λ n. x.grammar; bare = λ e. absurd (true≢false (sym e)); term = λ n e. absurd (true≢false (sym e)); mixed = x.mixed; alike = x.alike }
read_query (shape.AsOf l r s) c us h =
    let left = spell_query (side_of (query_of l)) in
    let right = spell_query (side_of (query_of r)) in
    let by = spell_grouping (grouping_of s.key s.groups) in
    let p = parts us left (token.Word word.AsOf 0 ∷ (right ++ by)) h in
    let x = read_side (is_side (query_of l)) l refl c.1 (λ vs k. read_query l c.0 vs k) p.front p.front_is in
    let a = first p.back (token.Word word.AsOf 0) (right ++ by) p.back_is in
    let d = parts a.rest right by a.rest_is in
    let y = read_side (is_side (query_of r)) r refl c.3 (λ vs k. read_query r c.2 vs k) d.front d.front_is in
    let g = read_grouping s.key s.groups d.back d.back_is in
    record {
      tree = written.AsOf' (Capital a.at) x.tree y.tree g.grouping;
      spelled = two us p.front p.back (spell_query x.tree) _ p.whole x.spelled
          (cons (token.Word word.AsOf a.at) p.back a.rest _ a.whole (two a.rest d.front d.back (spell_query y.tree) _ d.whole y.spelled g.spelled));
      grammar = λ n. absurd n;
      bare = λ e. (x.grammar, y.grammar);
      term = λ n e. absurd n;
      mixed = none_mixed (mixed_in x.tree) (mixed_in y.tree) x.mixed y.mixed;
      alike = alike_joins (query_alike (query_meaning x.tree)) (query_alike (query_meaning y.tree)) l r g.grouping.key.text s.key g.grouping.groups.value s.groups x.alike y.alike g.key_is g.groups_is;
    }
read_query (shape.Concat l r) c us h =
    let x = read_join (λ x y. shape.Concat x y) (token.Join Concat 0 ∷ []) read_concat l r c.1 c.3 (λ vs k. read_query l c.0 vs k) (λ vs k. read_query r c.2 vs k) us h in
    record { tree = written.Join' x.join x.at x.left x.right; spelled = x.spelled; grammar = λ n. x.grammar; bare = λ e. absurd (true≢false (sym e)); term = λ n e. absurd (true≢false (sym e)); mixed = x.mixed; alike = x.alike }
