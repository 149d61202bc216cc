-- What spells a schema is read as that schema.
use Rattle.std.proofs.Common.{◌≡◌, ℕ, ◌<◌, ◌≤◌, false, List, [], ◌∷◌, ◌++◌, length, Result, Ok, refl, sym, ap, ◌∙◌, subst, arith, append_assoc}
use Rattle.std.specs.Prelude.{map, filter_map, codes, bytes_eq, IsTrue}
use Rattle.std.specs.List.{AllByRecursion, IsDistinct}
use Rattle.std.proofs.lemmas.Bool.{lt-leb, lt-ltb}
use Rattle.std.proofs.lemmas.List.{length-append, append-nil}
use Rattle.std.proofs.lemmas.List.Elements.{filter_map-append}
use Rattle.gl_values.specs.declared.kind.Kind.{Kind}
use Rattle.gl_schema.specs.declared.fault.SchemaFault.{SchemaFault}
use Rattle.gl_schema.specs.declared.schema.Column.{Column}
use Rattle.gl_schema.specs.declared.schema.Stream.{Stream}
use Rattle.gl_schema.specs.declared.schema.Schema.{Schema}
use Rattle.gl_schema.specs.declared.reading.Reading.{Reading}
use Rattle.gl_schema.specs.declared.reading.Place.{Place}
use Rattle.gl_schema.specs.declared.reading.Place.TheVariants as place
use Rattle.gl_schema.specs.Names.{IsName}
use Rattle.gl_schema.specs.Written.{is_written}
use Rattle.gl_schema.specs.Schemas.{IsColumn, IsStream, AreParameters, has_stream, has_column, column_names, stream_names}
use Rattle.gl_schema.specs.SchemaText.{Mark, Word, Sign, Token, Declaration, OfStream, OfParameter, tokens_of, kind_text, spell_column, spell_columns, spell_stream, spell_parameter, spell_declaration, spell, stream_in, parameter_in, schema_in, IsSchemaText}
use Rattle.gl_schema.specs.SchemaFaults.{mark_at, schema_from, schema_of, with_column, with_stream, with_parameter, ◌>>=◌}
use Rattle.gl_schema.proofs.Declared.{one_stream, one_parameter}
use Rattle.gl_schema.proofs.Distinct.{All_middle, new_named}
use Rattle.gl_schema.proofs.KindTable.{kind_is_named}

-- the marks of a token list
abbrev marks : List Token → List Mark
marks ts = map (λ t. t.mark) ts

-- tokens with what is left behind the first ones
record Left (len : ℕ) (ts : List Token) (rest : List Mark) (r q : Reading) : Type 0 where
  others : List Token
  marked : marks others ≡ rest
  same : schema_from len ts r ≡ schema_from len others q

-- these marks, wherever they stand and whatever follows, take reading from r to q
record Reads (ms : List Mark) (r q : Reading) : Type 0 where
  takes : (len : ℕ) (ts : List Token) (rest : List Mark) → marks ts ≡ ms ++ rest → Left len ts rest r q

reads_none : (r : Reading) → Reads [] r r
reads_none r = record { takes = λ len ts rest e. record { others = ts; marked = e; same = refl } }

first_is : (t : Token) (ts : List Token) (m : Mark) (rest : List Mark) → marks (t ∷ ts) ≡ m ∷ rest → (t.mark ≡ m) × (marks ts ≡ rest)
first_is t ts m rest e = (cc, cc)

took_one : (m : Mark) (r q : Reading) → ((at : ℕ) → mark_at m r at ≡ Ok q) → (len : ℕ) (ts : List Token) (rest : List Mark) → marks ts ≡ m ∷ rest → Left len ts rest r q
took_one m r q step len [] rest e = absurd cc
took_one m r q step len (t ∷ ts) rest e = let p = first_is t ts m rest e in
    record { others = ts; marked = p.1; same = ap (λ (x : Result Reading SchemaFault). x >>= schema_from len ts) (ap (λ (x : Mark). mark_at x r t.at) p.0 ∙ step t.at) }

reads_one : (m : Mark) (r q : Reading) → ((at : ℕ) → mark_at m r at ≡ Ok q) → Reads (m ∷ []) r q
reads_one m r q step = record { takes = took_one m r q step }

reads_then : (a b : List Mark) (r q p : Reading) → Reads a r q → Reads b q p → Reads (a ++ b) r p
reads_then a b r q p f g = record {
  takes = λ len ts rest e.
      let x = f.takes len ts (b ++ rest) (e ∙ append_assoc a b rest) in
      let y = g.takes len x.others rest x.marked in
      record { others = y.others; marked = y.marked; same = x.same ∙ y.same };
}

abbrev at : Schema → Place → Reading
at schema p = record { schema = schema; place = p }

step_stream : (done : Schema) → length done.streams < 8 → (i : ℕ) → mark_at (Word (codes "stream")) (at done place.Declaration) i ≡ Ok (at done place.Name)
step_stream done lt i = rw (lt-leb 8 (length done.streams) lt) refl

step_parameter : (done : Schema) → length done.parameters < 32 → (i : ℕ) → mark_at (Word (codes "parameter")) (at done place.Declaration) i ≡ Ok (at done place.Parameter)
step_parameter done lt i = rw (lt-leb 32 (length done.parameters) lt) refl

step_parameter_name : (done : Schema) (n : List ℕ) → IsName n → has_column done.parameters n ≡ false → (i : ℕ) → mark_at (Word n) (at done place.Parameter) i ≡ Ok (at done (place.ParameterKind n))
step_parameter_name done n name new i = rw (name, new) refl

step_parameter_kind : (done : Schema) (n : List ℕ) (k : Kind) → IsTrue (is_written k) → (i : ℕ) → mark_at (Word (kind_text k)) (at done (place.ParameterKind n)) i ≡ Ok (at done (place.ParameterClose (record { name = n; kind = k })))
step_parameter_kind done n k kind i = rw (kind_is_named k kind) refl

step_name : (done : Schema) (n : List ℕ) → IsName n → has_stream done.streams n ≡ false → (i : ℕ) → mark_at (Word n) (at done place.Name) i ≡ Ok (at done (place.Opening n))
step_name done n name new i = rw (name, new) refl

step_column : (done : Schema) (s : Stream) (n : List ℕ) → IsName n → length s.columns < 32 → has_column s.columns n ≡ false → (i : ℕ) → mark_at (Word n) (at done (place.Column s)) i ≡ Ok (at done (place.Kind s n))
step_column done s n name lt new i = rw (name, lt-leb 32 (length s.columns) lt, new) refl

step_kind : (done : Schema) (s : Stream) (n : List ℕ) (k : Kind) → IsTrue (is_written k) → (i : ℕ) → mark_at (Word (kind_text k)) (at done (place.Kind s n)) i ≡ Ok (at done (place.Comma (with_column s n k)))
step_kind done s n k kind i = rw (kind_is_named k kind) refl

new_column : (front : List Column) (c : Column) (cs : List Column) → IsDistinct bytes_eq (column_names (front ++ c ∷ cs)) → has_column front c.name ≡ false
unfolding has_column
new_column front c cs distinct = new_named (λ c. c.name) front c cs distinct

new_stream : (done : List Stream) (s : Stream) (ss : List Stream) → IsDistinct bytes_eq (stream_names (done ++ s ∷ ss)) → has_stream done s.name ≡ false
unfolding has_stream
new_stream done s ss distinct = new_named (λ s. s.name) done s ss distinct

-- a stream of this name with these columns
abbrev stream_of : List ℕ → List Column → Stream
stream_of name columns = record { name = name; columns = columns }

-- a column behind others
reads_column : (done : Schema) (name : List ℕ) (front : List Column) (c : Column) → IsColumn c → length front < 32 → has_column front c.name ≡ false
    → Reads (spell_column c) (at done (place.Column (stream_of name front))) (at done (place.Comma (stream_of name (front ++ c ∷ []))))
reads_column done name front c is lt new = reads_then (Word c.name ∷ []) (Word (kind_text c.kind) ∷ []) _ (at done (place.Kind (stream_of name front) c.name)) _
    (reads_one _ _ _ (step_column done (stream_of name front) c.name is.name lt new))
    (reads_one _ _ _ (step_kind done (stream_of name front) c.name c.kind is.kind))

-- columns behind others
reads_columns : (done : Schema) (name : List ℕ) (front : List Column) (c : Column) (cs : List Column) → AllByRecursion IsColumn (c ∷ cs) → length (front ++ c ∷ cs) ≤ 32 → IsDistinct bytes_eq (column_names (front ++ c ∷ cs))
    → Reads (spell_columns (c ∷ cs)) (at done (place.Column (stream_of name front))) (at done (place.Comma (stream_of name (front ++ c ∷ cs))))
reads_columns done name front c [] all le distinct = reads_column done name front c all.0 (omega (arith, length-append front (c ∷ []))) (new_column front c [] distinct)
reads_columns done name front c (d ∷ cs) all le distinct =
    let e : (front ++ c ∷ []) ++ d ∷ cs ≡ front ++ c ∷ d ∷ cs = append_assoc front (c ∷ []) (d ∷ cs) in
    let more = reads_columns done name (front ++ c ∷ []) d cs all.1 (subst (λ (x : List Column). length x ≤ 32) (sym e) le) (subst (λ (x : List Column). IsDistinct bytes_eq (column_names x)) (sym e) distinct) in
    reads_then (spell_column c) (Sign 44 ∷ spell_columns (d ∷ cs)) _ (at done (place.Comma (stream_of name (front ++ c ∷ [])))) _
    (reads_column done name front c all.0 (omega (arith, length-append front (c ∷ d ∷ cs))) (new_column front c (d ∷ cs) distinct))
    (reads_then (Sign 44 ∷ []) (spell_columns (d ∷ cs)) _ (at done (place.Column (stream_of name (front ++ c ∷ [])))) _
    (reads_one _ _ _ (λ i. refl))
    (subst (λ (x : List Column). Reads (spell_columns (d ∷ cs)) (at done (place.Column (stream_of name (front ++ c ∷ [])))) (at done (place.Comma (stream_of name x)))) e more))

-- columns of a stream, of which there is one at least
reads_all_columns : (done : Schema) (name : List ℕ) (cs : List Column) → 1 ≤ length cs → AllByRecursion IsColumn cs → length cs ≤ 32 → IsDistinct bytes_eq (column_names cs)
    → Reads (spell_columns cs) (at done (place.Column (stream_of name []))) (at done (place.Comma (stream_of name cs)))
reads_all_columns done name [] some' all le distinct = absurd (omega arith)
reads_all_columns done name (c ∷ cs) some' all le distinct = reads_columns done name [] c cs all le distinct

-- a stream behind other declarations
reads_stream : (done : Schema) (s : Stream) → IsStream s → length done.streams < 8 → has_stream done.streams s.name ≡ false → Reads (spell_stream s) (at done place.Declaration) (at (with_stream done s) place.Declaration)
reads_stream done s is lt new =
    reads_then (Word (codes "stream") ∷ []) (Word s.name ∷ Sign 40 ∷ (spell_columns s.columns ++ Sign 41 ∷ Sign 59 ∷ [])) _ (at done place.Name) _ (reads_one _ _ _ (step_stream done lt))
    (reads_then (Word s.name ∷ []) (Sign 40 ∷ (spell_columns s.columns ++ Sign 41 ∷ Sign 59 ∷ [])) _ (at done (place.Opening s.name)) _ (reads_one _ _ _ (step_name done s.name is.name new))
    (reads_then (Sign 40 ∷ []) (spell_columns s.columns ++ Sign 41 ∷ Sign 59 ∷ []) _ (at done (place.Column (stream_of s.name []))) _ (reads_one _ _ _ (λ i. refl))
    (reads_then (spell_columns s.columns) (Sign 41 ∷ Sign 59 ∷ []) _ (at done (place.Comma s)) _ (reads_all_columns done s.name s.columns is.some' is.columns is.most is.distinct)
    (reads_then (Sign 41 ∷ []) (Sign 59 ∷ []) _ (at done (place.Close s)) _ (reads_one _ _ _ (λ i. refl))
    (reads_one _ _ _ (λ i. refl))))))

-- a parameter behind other declarations
reads_parameter : (done : Schema) (p : Column) → IsColumn p → length done.parameters < 32 → has_column done.parameters p.name ≡ false → Reads (spell_parameter p) (at done place.Declaration) (at (with_parameter done p) place.Declaration)
reads_parameter done p is lt new =
    reads_then (Word (codes "parameter") ∷ []) (Word p.name ∷ Word (kind_text p.kind) ∷ Sign 59 ∷ []) _ (at done place.Parameter) _ (reads_one _ _ _ (step_parameter done lt))
    (reads_then (Word p.name ∷ []) (Word (kind_text p.kind) ∷ Sign 59 ∷ []) _ (at done (place.ParameterKind p.name)) _ (reads_one _ _ _ (step_parameter_name done p.name is.name new))
    (reads_then (Word (kind_text p.kind) ∷ []) (Sign 59 ∷ []) _ (at done (place.ParameterClose p)) _ (reads_one _ _ _ (step_parameter_kind done p.name p.kind is.kind))
    (reads_one _ _ _ (λ i. refl))))

-- the streams of declarations, behind those of others
streams_behind : (front : List Declaration) (s : Stream) (ds : List Declaration) → filter_map stream_in (front ++ OfStream s ∷ ds) ≡ filter_map stream_in front ++ s ∷ filter_map stream_in ds
streams_behind front s ds = filter_map-append stream_in front (OfStream s ∷ ds)

-- and the parameters
parameters_behind : (front : List Declaration) (p : Column) (ds : List Declaration) → filter_map parameter_in (front ++ OfParameter p ∷ ds) ≡ filter_map parameter_in front ++ p ∷ filter_map parameter_in ds
parameters_behind front p ds = filter_map-append parameter_in front (OfParameter p ∷ ds)

-- declarations make a schema, but for that they may have no stream
record CanRead (schema : Schema) : Type 0 where
  most : length schema.streams ≤ 8
  streams : AllByRecursion IsStream schema.streams
  distinct : IsDistinct bytes_eq (stream_names schema.streams)
  parameters : AreParameters schema.parameters

-- a stream among others may be read
reads_one_stream : (front : List Declaration) (s : Stream) (ds : List Declaration) → CanRead (schema_in (front ++ OfStream s ∷ ds)) → Reads (spell_stream s) (at (schema_in front) place.Declaration) (at (schema_in (front ++ OfStream s ∷ [])) place.Declaration)
reads_one_stream front s ds can =
    let e = streams_behind front s ds in
    let before = filter_map stream_in front in
    let behind = filter_map stream_in ds in
    let most = subst (λ (x : List Stream). length x ≤ 8) e can.most in
    subst (λ (x : Schema). Reads (spell_stream s) (at (schema_in front) place.Declaration) (at x place.Declaration)) (sym (one_stream front (schema_in front) s refl))
    (reads_stream (schema_in front) s (All_middle IsStream before s behind (subst (AllByRecursion IsStream) e can.streams)) (omega (arith, most, length-append before (s ∷ behind)))
    (new_stream before s behind (subst (λ (x : List Stream). IsDistinct bytes_eq (stream_names x)) e can.distinct)))

-- a parameter among others may be read
reads_one_parameter : (front : List Declaration) (p : Column) (ds : List Declaration) → CanRead (schema_in (front ++ OfParameter p ∷ ds)) → Reads (spell_parameter p) (at (schema_in front) place.Declaration) (at (schema_in (front ++ OfParameter p ∷ [])) place.Declaration)
reads_one_parameter front p ds can =
    let e = parameters_behind front p ds in
    let before = filter_map parameter_in front in
    let behind = filter_map parameter_in ds in
    let most = subst (λ (x : List Column). length x ≤ 32) e can.parameters.most in
    subst (λ (x : Schema). Reads (spell_parameter p) (at (schema_in front) place.Declaration) (at x place.Declaration)) (sym (one_parameter front (schema_in front) p refl))
    (reads_parameter (schema_in front) p (All_middle IsColumn before p behind (subst (AllByRecursion IsColumn) e can.parameters.each)) (omega (arith, most, length-append before (p ∷ behind)))
    (new_column before p behind (subst (λ (x : List Column). IsDistinct bytes_eq (column_names x)) e can.parameters.distinct)))

-- a declaration among others may be read
reads_declaration : (front : List Declaration) (d : Declaration) (ds : List Declaration) → CanRead (schema_in (front ++ d ∷ ds)) → Reads (spell_declaration d) (at (schema_in front) place.Declaration) (at (schema_in (front ++ d ∷ [])) place.Declaration)
reads_declaration front (OfStream s) ds can = reads_one_stream front s ds can
reads_declaration front (OfParameter p) ds can = reads_one_parameter front p ds can

-- declarations behind others
reads_declarations : (front ds : List Declaration) → CanRead (schema_in (front ++ ds)) → Reads (spell ds) (at (schema_in front) place.Declaration) (at (schema_in (front ++ ds)) place.Declaration)
reads_declarations front [] can = subst (λ (x : List Declaration). Reads [] (at (schema_in front) place.Declaration) (at (schema_in x) place.Declaration)) (sym (append-nil front)) (reads_none (at (schema_in front) place.Declaration))
reads_declarations front (d ∷ ds) can =
    let e : (front ++ d ∷ []) ++ ds ≡ front ++ d ∷ ds = append_assoc front (d ∷ []) ds in
    let more = reads_declarations (front ++ d ∷ []) ds (subst (λ (x : List Declaration). CanRead (schema_in x)) (sym e) can) in
    reads_then (spell_declaration d) (spell ds) _ (at (schema_in (front ++ d ∷ [])) place.Declaration) _ (reads_declaration front d ds can)
    (subst (λ (x : List Declaration). Reads (spell ds) (at (schema_in (front ++ d ∷ [])) place.Declaration) (at (schema_in x) place.Declaration)) e more)

ended : (len : ℕ) (ts : List Token) (schema : Schema) → marks ts ≡ [] → 1 ≤ length schema.streams → schema_from len ts (at schema place.Declaration) ≡ Ok schema
ended len [] schema e some' = rw (lt-ltb 0 (length schema.streams) (let z : 0 < length schema.streams = omega arith in z)) refl
ended len (t ∷ ts) schema e some' = absurd cc

-- a text of a schema is read as it
pub read_again : (text : List ℕ) (schema : Schema) → IsSchemaText text schema → schema_of text ≡ Ok schema
unfolding schema_of
read_again text schema is =
    let can : CanRead schema = record { most = is.schema'.most; streams = is.schema'.streams; distinct = is.schema'.distinct; parameters = is.schema'.declared } in
    let read = reads_declarations [] is.all (subst CanRead (sym is.same) can) in
    let left = read.takes (length text) (tokens_of text) [] (is.spelled ∙ sym (append-nil (spell is.all))) in
    left.same ∙ ap (λ (x : Schema). schema_from (length text) left.others (at x place.Declaration)) is.same ∙ ended (length text) left.others schema left.marked is.schema'.some'
