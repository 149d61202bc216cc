-- A canonical text is read back: the sides of a query, and what stands in brackets.
use Rattle.std.proofs.Common.{◌≡◌, ℕ, Bool, true, false, List, [], ◌∷◌, ◌++◌, map, Option, Some, None, refl, sym}
use Rattle.std.proofs.lemmas.Bool.{true≢false}
use Rattle.gl_query.specs.Shapes.{QueryShape}
use Rattle.gl_query.specs.Shapes as shape
use Rattle.gl_query_tokens.specs.declared.token.Plain.TheVariants as plain
use Rattle.gl_query_tokens.specs.declared.token.Token.{Token}
use Rattle.gl_query_tokens.specs.declared.token.Token.TheVariants as token
use Rattle.gl_query_reader.specs.Written as written
use Rattle.gl_query_reader.specs.Written.{IsQuery, IsSide, IsSource, IsTerm, spell_query}
use Rattle.gl_query_reader.specs.Meaning.{query_meaning}
use Rattle.gl_query_reader.specs.Mixed.{mixed_in, least}
use Rattle.gl_query.specs.Alike.{query_alike}
use Rattle.gl_query_printer.specs.Brackets.{is_side, is_stream, is_term}
use Rattle.gl_query_printer.specs.Canonical.{name_of, bracketed_unless, query_of}
use Rattle.gl_query_printer.proofs.Places.{placeless, parts, first, alone}
use Rattle.gl_query_printer.proofs.Writable.{IsNoJoin, IsNoStream}
use Rattle.gl_query_printer.proofs.ReadBack.{cons, two}

-- ---- queries

pub record ReadQuery (us : List Token) (q : QueryShape) : Type 0 where
  pub tree : written.Query
  pub spelled : spell_query tree ≡ us
  pub grammar : IsNoStream q → IsQuery tree
  pub bare : is_stream (query_of q) ≡ true → IsSource tree
  pub term : IsNoStream q → is_term (query_of q) ≡ true → IsTerm tree
  pub mixed : mixed_in tree ≡ None
  pub alike : query_alike (query_meaning tree) ≡ q

pub record ReadSource (us : List Token) (q : QueryShape) : Type 0 where
  pub tree : written.Query
  pub spelled : spell_query tree ≡ us
  pub grammar : IsSource tree
  pub mixed : mixed_in tree ≡ None
  pub alike : query_alike (query_meaning tree) ≡ q

pub record ReadTerm (us : List Token) (q : QueryShape) : Type 0 where
  pub tree : written.Query
  pub spelled : spell_query tree ≡ us
  pub grammar : IsTerm tree
  pub mixed : mixed_in tree ≡ None
  pub alike : query_alike (query_meaning tree) ≡ q

-- how a query is read
abbrev pub Reads : QueryShape → Type 0
Reads q = (us : List Token) → map placeless us ≡ spell_query (query_of q) → ReadQuery us q

no_stream : (q : QueryShape) → is_stream (query_of q) ≡ false → IsNoStream q
no_stream (shape.Read name) h = absurd (true≢false h)
no_stream (shape.Rows pick filter source) h = tt
no_stream (shape.Total aggs source) h = tt
no_stream (shape.Frames items filter slots source) h = tt
no_stream (shape.Each measure var source size advance body) h = tt
no_stream (shape.PerGroup var source key groups body) h = tt
no_stream (shape.Partition var source key groups size advance body) h = tt
no_stream (shape.Union l r) h = tt
no_stream (shape.ByArrival l r) h = tt
no_stream (shape.AsOf l r slots) h = absurd (true≢false h)
no_stream (shape.Concat l r) h = tt

-- what stands in brackets on a side of ASOF is a query
no_side : (q : QueryShape) → IsNoJoin q → is_side (query_of q) ≡ false → IsNoStream q
no_side (shape.Read name) n h = absurd (true≢false h)
no_side (shape.Rows pick filter source) n h = tt
no_side (shape.Total aggs source) n h = tt
no_side (shape.Frames items filter slots source) n h = tt
no_side (shape.Each measure var source size advance body) n h = tt
no_side (shape.PerGroup var source key groups body) n h = tt
no_side (shape.Partition var source key groups size advance body) n h = tt
no_side (shape.Union l r) n h = tt
no_side (shape.ByArrival l r) n h = tt
no_side (shape.AsOf l r slots) n h = absurd n
no_side (shape.Concat l r) n h = tt

pub record InBrackets' (us : List Token) (q : QueryShape) : Type 0 where
  pub at : ℕ
  pub inner : written.Query
  pub spelled : spell_query (written.InBrackets at inner) ≡ us
  pub grammar : IsNoStream q → IsQuery inner
  pub mixed : mixed_in inner ≡ None
  pub alike : query_alike (query_meaning inner) ≡ q

pub in_brackets : (q : QueryShape) → Reads q → (us : List Token) → map placeless us ≡ token.Open 0 ∷ (spell_query (query_of q) ++ token.Plain plain.Close ∷ []) → InBrackets' us q
in_brackets q r us h =
    let a = first us (token.Open 0) (spell_query (query_of q) ++ token.Plain plain.Close ∷ []) h in
    let p = parts a.rest (spell_query (query_of q)) (token.Plain plain.Close ∷ []) a.rest_is in
    let k = alone p.back (token.Plain plain.Close) p.back_is in
    let x = r p.front p.front_is in
    record {
      at = a.at;
      inner = x.tree;
      spelled = cons (token.Open a.at) us a.rest _ a.whole (two a.rest p.front p.back (spell_query x.tree) _ p.whole x.spelled (sym k.whole));
      grammar = x.grammar;
      mixed = x.mixed;
      alike = x.alike;
    }

pub read_source : (b : Bool) (q : QueryShape) → is_stream (query_of q) ≡ b → Reads q → (us : List Token) → map placeless us ≡ spell_query (bracketed_unless b (query_of q)) → ReadSource us q
read_source true q e r us h = let x = r us h in record { tree = x.tree; spelled = x.spelled; grammar = x.bare e; mixed = x.mixed; alike = x.alike }
read_source false q e r us h =
    let x = in_brackets q r us h in
    record { tree = written.InBrackets x.at x.inner; spelled = x.spelled; grammar = x.grammar (no_stream q e); mixed = x.mixed; alike = x.alike }

pub record ReadSide (us : List Token) (q : QueryShape) : Type 0 where
  pub tree : written.Query
  pub spelled : spell_query tree ≡ us
  pub grammar : IsSide tree
  pub mixed : mixed_in tree ≡ None
  pub alike : query_alike (query_meaning tree) ≡ q

-- a stream on a side
bare_side : (q : QueryShape) → is_side (query_of q) ≡ true → (us : List Token) → map placeless us ≡ spell_query (query_of q) → ReadSide us q
bare_side (shape.Read name) e us h =
    let a = alone us (token.Name (name_of name)) h in
    record { tree = written.Stream (record { text = name; at = a.at }); spelled = sym a.whole; grammar = tt; mixed = refl; alike = refl }
bare_side (shape.Rows pick filter source) e us h = absurd (true≢false (sym e))
bare_side (shape.Total aggs source) e us h = absurd (true≢false (sym e))
bare_side (shape.Frames items filter slots source) e us h = absurd (true≢false (sym e))
bare_side (shape.Each measure var source size advance body) e us h = absurd (true≢false (sym e))
bare_side (shape.PerGroup var source key groups body) e us h = absurd (true≢false (sym e))
bare_side (shape.Partition var source key groups size advance body) e us h = absurd (true≢false (sym e))
bare_side (shape.Union l r) e us h = absurd (true≢false (sym e))
bare_side (shape.ByArrival l r) e us h = absurd (true≢false (sym e))
bare_side (shape.AsOf l r slots) e us h = absurd (true≢false (sym e))
bare_side (shape.Concat l r) e us h = absurd (true≢false (sym e))

pub read_side : (b : Bool) (q : QueryShape) → is_side (query_of q) ≡ b → IsNoJoin q → Reads q → (us : List Token) → map placeless us ≡ spell_query (bracketed_unless b (query_of q)) → ReadSide us q
read_side true q e n r us h = bare_side q e us h
read_side false q e n r us h =
    let x = in_brackets q r us h in
    record { tree = written.InBrackets x.at x.inner; spelled = x.spelled; grammar = x.grammar (no_side q n e); mixed = x.mixed; alike = x.alike }

pub read_term : (b : Bool) (q : QueryShape) → is_term (query_of q) ≡ b → IsNoStream q → Reads q → (us : List Token) → map placeless us ≡ spell_query (bracketed_unless b (query_of q)) → ReadTerm us q
read_term true q e n r us h = let x = r us h in record { tree = x.tree; spelled = x.spelled; grammar = x.term n e; mixed = x.mixed; alike = x.alike }
read_term false q e n r us h =
    let x = in_brackets q r us h in
    record { tree = written.InBrackets x.at x.inner; spelled = x.spelled; grammar = x.grammar n; mixed = x.mixed; alike = x.alike }

some_none : (n : ℕ) → None ≡ Some n → ⊥
some_none n h = absurd (cc)

pub none_mixed : (a b : Option ℕ) → a ≡ None → b ≡ None → least a b ≡ None
none_mixed None b e f = f
none_mixed (Some a) b e f = absurd (some_none a (sym e))
