-- What is read is spelled by the text.
use Rattle.std.proofs.Common.{◌≡◌, ◌⊎◌, ℕ, ◌<◌, ◌≤◌, Bool, true, false, not, cond, List, [], ◌∷◌, ◌++◌, length, Option, Some, None, Result, Ok, Err, refl, sym, ap, ◌∙◌, subst, arith, append_assoc, inl, inr}
use Rattle.std.specs.Prelude.{map, codes, bytes_eq, nat_le, nat_lt, ◌==◌, IsTrue}
use Rattle.std.specs.List.{AllByRecursion, IsDistinct, flat_map}
use Rattle.std.proofs.lemmas.Bool.{leb-false, ltb-true, eqb-true, not-false, cases_Bool}
use Rattle.std.proofs.lemmas.List.{length-append, append-nil}
use Rattle.std.proofs.lemmas.Slice.Eq.{bytes_eq-Decides}
use Rattle.std.proofs.lemmas.Grind.{flat_map-append}
use Rattle.gl_values.specs.declared.kind.Kind.{Kind}
use Rattle.gl_schema.specs.declared.fault.SchemaFault.{SchemaFault}
use Rattle.gl_schema.specs.declared.fault.SchemaFault.TheVariants.{Syntax, BadName, Twice, TooMany}
use Rattle.gl_schema.specs.declared.schema.Column.{Column}
use Rattle.gl_schema.specs.declared.schema.Stream.{Stream}
use Rattle.gl_schema.specs.declared.schema.Schema.{Schema}
use Rattle.gl_schema.specs.declared.reading.Reading.{Reading}
use Rattle.gl_schema.specs.declared.reading.Place.{Place}
use Rattle.gl_schema.specs.declared.reading.Place.TheVariants as place
use Rattle.gl_schema.specs.Names.{IsName, is_name}
use Rattle.gl_schema.specs.Written.{is_written}
use Rattle.gl_schema.specs.Schemas.{IsColumn, IsStream, AreParameters, IsSchema, has_stream, has_column, column_names, stream_names}
use Rattle.gl_schema.specs.SchemaText.{Mark, Word, Sign, Token, Declaration, OfStream, OfParameter, tokens_of, spell_column, spell_columns, spell_declaration, spell, schema_in, IsSchemaText}
use Rattle.gl_schema.specs.SchemaFaults.{mark_at, end_at, schema_from, schema_of, start, kind_named, kind_next, parameter_kind, stream_next, parameter_next, with_column, with_stream, with_parameter, ◌>>=◌}
use Rattle.gl_schema.proofs.Declared.{one_stream, one_parameter}
use Rattle.gl_schema.proofs.Distinct.{more_named}
use Rattle.gl_schema.proofs.KindTable.{kind_named_is}

abbrev marks : List Token → List Mark
marks ts = map (λ t. t.mark) ts

-- columns with a comma behind each
abbrev open_columns : List Column → List Mark
open_columns cs = flat_map (λ c. spell_column c ++ Sign 44 ∷ []) cs

-- what was read of a stream, or a parameter, that is begun
abbrev begun : Place → List Mark
begun place.Declaration = []
begun place.Name = Word (codes "stream") ∷ []
begun (place.Opening n) = Word (codes "stream") ∷ Word n ∷ []
begun (place.Column s) = Word (codes "stream") ∷ Word s.name ∷ Sign 40 ∷ open_columns s.columns
begun (place.Kind s n) = Word (codes "stream") ∷ Word s.name ∷ Sign 40 ∷ (open_columns s.columns ++ Word n ∷ [])
begun (place.Comma s) = Word (codes "stream") ∷ Word s.name ∷ Sign 40 ∷ spell_columns s.columns
begun (place.Close s) = Word (codes "stream") ∷ Word s.name ∷ Sign 40 ∷ (spell_columns s.columns ++ Sign 41 ∷ [])
begun place.Parameter = Word (codes "parameter") ∷ []
begun (place.ParameterKind n) = Word (codes "parameter") ∷ Word n ∷ []
begun (place.ParameterClose p) = Word (codes "parameter") ∷ spell_column p

-- what was read: whole declarations, and what is begun
abbrev written : List Declaration → Place → List Mark
written all p = spell all ++ begun p

record AreStreams (ss : List Stream) : Type 0 where
  most : length ss ≤ 8
  streams : AllByRecursion IsStream ss
  distinct : IsDistinct bytes_eq (stream_names ss)

-- a stream that may still have columns
record IsBegun (ss : List Stream) (s : Stream) : Type 0 where
  room : length ss < 8
  name : IsName s.name
  new : has_stream ss s.name ≡ false
  most : length s.columns ≤ 32
  columns : AllByRecursion IsColumn s.columns
  distinct : IsDistinct bytes_eq (column_names s.columns)

record IsNamed (ss : List Stream) (n : List ℕ) : Type 0 where
  room : length ss < 8
  name : IsName n
  new : has_stream ss n ≡ false

-- the name of one more column, or parameter
record IsNext (cs : List Column) (n : List ℕ) : Type 0 where
  room : length cs < 32
  name : IsName n
  new : has_column cs n ≡ false

record HasColumns (ss : List Stream) (s : Stream) : Type 0 where
  begun' : IsBegun ss s
  some' : 1 ≤ length s.columns

abbrev FitsPlace : Schema → Place → Type 0
FitsPlace schema place.Declaration = Unit {0}
FitsPlace schema place.Name = length schema.streams < 8
FitsPlace schema (place.Opening n) = IsNamed schema.streams n
FitsPlace schema (place.Column s) = IsBegun schema.streams s
FitsPlace schema (place.Kind s n) = IsBegun schema.streams s × IsNext s.columns n
FitsPlace schema (place.Comma s) = HasColumns schema.streams s
FitsPlace schema (place.Close s) = HasColumns schema.streams s
FitsPlace schema place.Parameter = length schema.parameters < 32
FitsPlace schema (place.ParameterKind n) = IsNext schema.parameters n
FitsPlace schema (place.ParameterClose p) = IsNext schema.parameters p.name × IsTrue (is_written p.kind)

-- these declarations are whole, and make this schema
record Known (all : List Declaration) (schema : Schema) : Type 0 where
  same : schema_in all ≡ schema
  streams : AreStreams schema.streams
  parameters : AreParameters schema.parameters

-- one mark was read
record Step (all : List Declaration) (p : Place) (m : Mark) (q : Reading) : Type 0 where
  after : List Declaration
  known : Known after q.schema
  fits : FitsPlace q.schema q.place
  grows : written after q.place ≡ written all p ++ m ∷ []

guard_ok : {A : Type 0} (b : Bool) (e : SchemaFault) (x : Result A SchemaFault) (y : A) → cond b (Err e) x ≡ Ok y → (b ≡ false) × (x ≡ Ok y)
guard_ok true e x y h = absurd cc
guard_ok false e x y h = (refl, h)

only_ok : {A : Type 0} (b : Bool) (e : SchemaFault) (x : Result A SchemaFault) (y : A) → cond b x (Err e) ≡ Ok y → (b ≡ true) × (x ≡ Ok y)
only_ok true e x y h = (refl, h)
only_ok false e x y h = absurd cc

either_ok : {A : Type 0} (b : Bool) (x y : Result A SchemaFault) (z : A) → cond b x y ≡ Ok z → ((b ≡ true) × (x ≡ Ok z)) ⊎ (y ≡ Ok z)
either_ok true x y z h = inl (refl, h)
either_ok false x y z h = inr h

ok_is : {A : Type 0} (x y : A) → ◌≡◌ {A = Result A SchemaFault} (Ok x) (Ok y) → x ≡ y
ok_is x y h = cc

abbrev at : Schema → Place → Reading
at schema p = record { schema = schema; place = p }

-- a mark that only changes the place
moves : (all : List Declaration) (schema : Schema) (p : Place) (m : Mark) (p' : Place) (q : Reading) → ◌≡◌ {A = Result Reading SchemaFault} (Ok (at schema p')) (Ok q) → Known all schema → begun p' ≡ begun p ++ m ∷ [] → FitsPlace schema p' → Step all p m q
moves all schema p m p' q e known more fits = subst (Step all p m) (ok_is (at schema p') q e) (record {
  after = all;
  known = known;
  fits = fits;
  grows = ap (λ (x : List Mark). spell all ++ x) more ∙ sym (append_assoc (spell all) (begun p) (m ∷ []));
})

-- columns, and one more
columns_open : (cs : List Column) (c : Column) → spell_columns (cs ++ c ∷ []) ≡ open_columns cs ++ spell_column c
columns_open [] c = refl
columns_open (d ∷ []) c = refl
columns_open (d ∷ f ∷ cs) c = ap (λ (x : List Mark). spell_column d ++ (Sign 44 ∷ x)) (columns_open (f ∷ cs) c)

columns_comma : (cs : List Column) → 1 ≤ length cs → open_columns cs ≡ spell_columns cs ++ Sign 44 ∷ []
columns_comma [] h = absurd (omega arith)
columns_comma (c ∷ []) h = refl
columns_comma (c ∷ d ∷ cs) h = ap (λ (x : List Mark). spell_column c ++ (Sign 44 ∷ x)) (columns_comma (d ∷ cs) (omega arith))

words_same : (w v : List ℕ) → bytes_eq w v ≡ true → Word v ≡ Word w
words_same w v h = ap Word (sym ((bytes_eq-Decides w v).0 h))

stream_step : (all : List Declaration) (schema : Schema) (at' : ℕ) (w : List ℕ) (q : Reading) → Known all schema → bytes_eq w (codes "stream") ≡ true → stream_next (at schema place.Declaration) at' ≡ Ok q → Step all place.Declaration (Word w) q
stream_step all schema i w q known named h =
    let b = guard_ok (nat_le 8 (length schema.streams)) (TooMany i) _ q h in
    moves all schema place.Declaration (Word w) place.Name q b.1 known (ap (λ (m : Mark). m ∷ []) (words_same w (codes "stream") named)) (leb-false 8 (length schema.streams) b.0)

parameter_step : (all : List Declaration) (schema : Schema) (at' : ℕ) (w : List ℕ) (q : Reading) → Known all schema → bytes_eq w (codes "parameter") ≡ true → parameter_next (at schema place.Declaration) at' ≡ Ok q → Step all place.Declaration (Word w) q
parameter_step all schema i w q known named h =
    let b = guard_ok (nat_le 32 (length schema.parameters)) (TooMany i) _ q h in
    moves all schema place.Declaration (Word w) place.Parameter q b.1 known (ap (λ (m : Mark). m ∷ []) (words_same w (codes "parameter") named)) (leb-false 32 (length schema.parameters) b.0)

declaration_step : (all : List Declaration) (schema : Schema) (at' : ℕ) (w : List ℕ) (q : Reading) → Known all schema → mark_at (Word w) (at schema place.Declaration) at' ≡ Ok q → Step all place.Declaration (Word w) q
declaration_step all schema i w q known h = elim (either_ok (bytes_eq w (codes "stream")) _ _ q h) [
  | inl a ↦ stream_step all schema i w q known a.0 a.1
  | inr other ↦ (let b = only_ok (bytes_eq w (codes "parameter")) (Syntax i) _ q other in parameter_step all schema i w q known b.0 b.1)
]

name_step : (all : List Declaration) (schema : Schema) (at' : ℕ) (w : List ℕ) (q : Reading) → Known all schema → length schema.streams < 8 → mark_at (Word w) (at schema place.Name) at' ≡ Ok q → Step all place.Name (Word w) q
name_step all schema i w q known lt h =
    let a = guard_ok (not (is_name w)) (BadName i) _ q h in
    let b = guard_ok (has_stream schema.streams w) (Twice i) _ q a.1 in
    moves all schema place.Name (Word w) (place.Opening w) q b.1 known refl (record { room = lt; name = not-false (is_name w) a.0; new = b.0 })

column_step : (all : List Declaration) (schema : Schema) (s : Stream) (at' : ℕ) (w : List ℕ) (q : Reading) → Known all schema → IsBegun schema.streams s → mark_at (Word w) (at schema (place.Column s)) at' ≡ Ok q → Step all (place.Column s) (Word w) q
column_step all schema s i w q known is h =
    let a = guard_ok (not (is_name w)) (BadName i) _ q h in
    let b = guard_ok (nat_le 32 (length s.columns)) (TooMany i) _ q a.1 in
    let c = guard_ok (has_column s.columns w) (Twice i) _ q b.1 in
    moves all schema (place.Column s) (Word w) (place.Kind s w) q c.1 known refl (is, record { room = leb-false 32 (length s.columns) b.0; name = not-false (is_name w) a.0; new = c.0 })

parameter_name_step : (all : List Declaration) (schema : Schema) (at' : ℕ) (w : List ℕ) (q : Reading) → Known all schema → length schema.parameters < 32 → mark_at (Word w) (at schema place.Parameter) at' ≡ Ok q → Step all place.Parameter (Word w) q
parameter_name_step all schema i w q known lt h =
    let a = guard_ok (not (is_name w)) (BadName i) _ q h in
    let b = guard_ok (has_column schema.parameters w) (Twice i) _ q a.1 in
    moves all schema place.Parameter (Word w) (place.ParameterKind w) q b.1 known refl (record { room = lt; name = not-false (is_name w) a.0; new = b.0 })

-- a column more
All_push : (cs : List Column) (c : Column) → AllByRecursion IsColumn cs → IsColumn c → AllByRecursion IsColumn (cs ++ c ∷ [])
All_push [] c h p = (p, tt)
All_push (d ∷ cs) c h p = (h.0, All_push cs c h.1 p)

All_push_stream : (ss : List Stream) (s : Stream) → AllByRecursion IsStream ss → IsStream s → AllByRecursion IsStream (ss ++ s ∷ [])
All_push_stream [] s h p = (p, tt)
All_push_stream (t ∷ ss) s h p = (h.0, All_push_stream ss s h.1 p)

more_columns : (cs : List Column) (c : Column) → IsDistinct bytes_eq (column_names cs) → has_column cs c.name ≡ false → IsDistinct bytes_eq (column_names (cs ++ c ∷ []))
unfolding has_column
more_columns cs c distinct new = more_named (λ c. c.name) cs c distinct new

more_streams : (ss : List Stream) (s : Stream) → IsDistinct bytes_eq (stream_names ss) → has_stream ss s.name ≡ false → IsDistinct bytes_eq (stream_names (ss ++ s ∷ []))
unfolding has_stream
more_streams ss s distinct new = more_named (λ s. s.name) ss s distinct new

with_fits : (ss : List Stream) (s : Stream) (n : List ℕ) (k : Kind) → IsBegun ss s → IsNext s.columns n → IsTrue (is_written k) → HasColumns ss (with_column s n k)
with_fits ss s n k is next kind =
    let c : Column = record { name = n; kind = k } in
    let long = length-append s.columns (c ∷ []) in
    record {
      begun' = record { room = is.room; name = is.name; new = is.new; most = omega (arith, long, next.room); columns = All_push s.columns c is.columns (record { name = next.name; kind = kind }); distinct = more_columns s.columns c is.distinct next.new };
      some' = omega (arith, long);
    }

kind_step : (all : List Declaration) (schema : Schema) (s : Stream) (n : List ℕ) (at' : ℕ) (w : List ℕ) (o : Option Kind) (q : Reading) → Known all schema → IsBegun schema.streams s → IsNext s.columns n → kind_named w ≡ o → kind_next (at schema (place.Kind s n)) s n at' o ≡ Ok q → Step all (place.Kind s n) (Word w) q
kind_step all schema s n i w None q known is next named h = absurd cc
kind_step all schema s n i w (Some k) q known is next named h =
    let p = kind_named_is w k named in
    let more : spell_columns (s.columns ++ record { name = n; kind = k } ∷ []) ≡ (open_columns s.columns ++ Word n ∷ []) ++ Word w ∷ [] =
    columns_open s.columns (record { name = n; kind = k }) ∙ ap (λ (x : List ℕ). open_columns s.columns ++ Word n ∷ Word x ∷ []) p.0 ∙ sym (append_assoc (open_columns s.columns) (Word n ∷ []) (Word w ∷ [])) in
    moves all schema (place.Kind s n) (Word w) (place.Comma (with_column s n k)) q h known (ap (λ (x : List Mark). Word (codes "stream") ∷ Word s.name ∷ Sign 40 ∷ x) more) (with_fits schema.streams s n k is next p.1)

parameter_kind_step : (all : List Declaration) (schema : Schema) (n : List ℕ) (at' : ℕ) (w : List ℕ) (o : Option Kind) (q : Reading) → Known all schema → IsNext schema.parameters n → kind_named w ≡ o → parameter_kind (at schema (place.ParameterKind n)) n at' o ≡ Ok q → Step all (place.ParameterKind n) (Word w) q
parameter_kind_step all schema n i w None q known next named h = absurd cc
parameter_kind_step all schema n i w (Some k) q known next named h =
    let p = kind_named_is w k named in
    moves all schema (place.ParameterKind n) (Word w) (place.ParameterClose (record { name = n; kind = k })) q h known (ap (λ (x : List ℕ). Word (codes "parameter") ∷ Word n ∷ Word x ∷ []) p.0) (next, p.1)

open_step : (all : List Declaration) (schema : Schema) (n : List ℕ) (at' b : ℕ) (q : Reading) → Known all schema → IsNamed schema.streams n → mark_at (Sign b) (at schema (place.Opening n)) at' ≡ Ok q → Step all (place.Opening n) (Sign b) q
unfolding IsDistinct
open_step all schema n i b q known is h =
    let a = only_ok (b == 40) (Syntax i) _ q h in
    moves all schema (place.Opening n) (Sign b) (place.Column (record { name = n; columns = [] })) q a.1 known (ap (λ (x : ℕ). Word (codes "stream") ∷ Word n ∷ Sign x ∷ []) (sym (eqb-true b 40 a.0)))
    (record { room = is.room; name = is.name; new = is.new; most = omega arith; columns = tt; distinct = tt })

comma_step : (all : List Declaration) (schema : Schema) (s : Stream) (at' b : ℕ) (q : Reading) → Known all schema → HasColumns schema.streams s → mark_at (Sign b) (at schema (place.Comma s)) at' ≡ Ok q → Step all (place.Comma s) (Sign b) q
comma_step all schema s i b q known is h = elim (cases_Bool (b == 44)) [
  | inl t ↦ moves all schema (place.Comma s) (Sign b) (place.Column s) q (rw t at h) known
      (ap (λ (x : List Mark). Word (codes "stream") ∷ Word s.name ∷ Sign 40 ∷ x) (columns_comma s.columns is.some' ∙ ap (λ (x : ℕ). spell_columns s.columns ++ Sign x ∷ []) (sym (eqb-true b 44 t)))) is.begun'
  | inr f ↦ (let a = only_ok (b == 41) (Syntax i) _ q (rw f at h) in
      moves all schema (place.Comma s) (Sign b) (place.Close s) q a.1 known
      (ap (λ (x : List Mark). Word (codes "stream") ∷ Word s.name ∷ Sign 40 ∷ x) (ap (λ (x : ℕ). spell_columns s.columns ++ Sign x ∷ []) (sym (eqb-true b 41 a.0)))) is)
]

is_stream : (ss : List Stream) (s : Stream) → HasColumns ss s → IsStream s
is_stream ss s is = record { name = is.begun'.name; some' = is.some'; most = is.begun'.most; columns = is.begun'.columns; distinct = is.begun'.distinct }

-- one more declaration, whose semicolon was read
closed_text : (all : List Declaration) (d : Declaration) (p : Place) (b : ℕ) → b ≡ 59 → spell_declaration d ≡ begun p ++ Sign 59 ∷ [] → written (all ++ d ∷ []) place.Declaration ≡ written all p ++ Sign b ∷ []
closed_text all d p b last text =
    append-nil (spell (all ++ d ∷ [])) ∙ flat_map-append spell_declaration all (d ∷ []) ∙ ap (λ (x : List Mark). spell all ++ x) (append-nil (spell_declaration d) ∙ text)
    ∙ sym (append_assoc (spell all) (begun p) (Sign 59 ∷ [])) ∙ ap (λ (x : ℕ). written all p ++ Sign x ∷ []) (sym last)

stream_text : (s : Stream) → spell_declaration (OfStream s) ≡ begun (place.Close s) ++ Sign 59 ∷ []
stream_text s = ap (λ (x : List Mark). Word (codes "stream") ∷ Word s.name ∷ Sign 40 ∷ x) (sym (append_assoc (spell_columns s.columns) (Sign 41 ∷ []) (Sign 59 ∷ [])))

with_stream_known : (all : List Declaration) (schema : Schema) (s : Stream) → Known all schema → HasColumns schema.streams s → Known (all ++ OfStream s ∷ []) (with_stream schema s)
with_stream_known all schema s known is =
    let ss = schema.streams in
    let long = length-append ss (s ∷ []) in
    record {
      same = one_stream all schema s known.same;
      streams = record { most = omega (arith, long, is.begun'.room); streams = All_push_stream ss s known.streams.streams (is_stream ss s is); distinct = more_streams ss s known.streams.distinct is.begun'.new };
      parameters = known.parameters;
    }

with_parameter_known : (all : List Declaration) (schema : Schema) (p : Column) → Known all schema → IsNext schema.parameters p.name → IsTrue (is_written p.kind) → Known (all ++ OfParameter p ∷ []) (with_parameter schema p)
with_parameter_known all schema p known next kind =
    let ps = schema.parameters in
    let long = length-append ps (p ∷ []) in
    record {
      same = one_parameter all schema p known.same;
      streams = known.streams;
      parameters = record { most = omega (arith, long, next.room); each = All_push ps p known.parameters.each (record { name = next.name; kind = kind }); distinct = more_columns ps p known.parameters.distinct next.new };
    }

close_step : (all : List Declaration) (schema : Schema) (s : Stream) (at' b : ℕ) (q : Reading) → Known all schema → HasColumns schema.streams s → mark_at (Sign b) (at schema (place.Close s)) at' ≡ Ok q → Step all (place.Close s) (Sign b) q
close_step all schema s i b q known is h =
    let a = only_ok (b == 59) (Syntax i) _ q h in
    subst (Step all (place.Close s) (Sign b)) (ok_is (at (with_stream schema s) place.Declaration) q a.1) (record {
      after = all ++ OfStream s ∷ [];
      known = with_stream_known all schema s known is;
      fits = tt;
      grows = closed_text all (OfStream s) (place.Close s) b (eqb-true b 59 a.0) (stream_text s);
    })

parameter_close_step : (all : List Declaration) (schema : Schema) (p : Column) (at' b : ℕ) (q : Reading) → Known all schema → IsNext schema.parameters p.name → IsTrue (is_written p.kind) → mark_at (Sign b) (at schema (place.ParameterClose p)) at' ≡ Ok q → Step all (place.ParameterClose p) (Sign b) q
parameter_close_step all schema p i b q known next kind h =
    let a = only_ok (b == 59) (Syntax i) _ q h in
    subst (Step all (place.ParameterClose p) (Sign b)) (ok_is (at (with_parameter schema p) place.Declaration) q a.1) (record {
      after = all ++ OfParameter p ∷ [];
      known = with_parameter_known all schema p known next kind;
      fits = tt;
      grows = closed_text all (OfParameter p) (place.ParameterClose p) b (eqb-true b 59 a.0) refl;
    })

word_step : (all : List Declaration) (schema : Schema) (p : Place) (i : ℕ) (w : List ℕ) (q : Reading) → Known all schema → FitsPlace schema p → mark_at (Word w) (at schema p) i ≡ Ok q → Step all p (Word w) q
word_step all schema place.Declaration i w q known is h = declaration_step all schema i w q known h
word_step all schema place.Name i w q known is h = name_step all schema i w q known is h
word_step all schema (place.Opening n) i w q known is h = absurd cc
word_step all schema (place.Column s) i w q known is h = column_step all schema s i w q known is h
word_step all schema (place.Kind s n) i w q known is h = kind_step all schema s n i w (kind_named w) q known is.0 is.1 refl h
word_step all schema (place.Comma s) i w q known is h = absurd cc
word_step all schema (place.Close s) i w q known is h = absurd cc
word_step all schema place.Parameter i w q known is h = parameter_name_step all schema i w q known is h
word_step all schema (place.ParameterKind n) i w q known is h = parameter_kind_step all schema n i w (kind_named w) q known is refl h
word_step all schema (place.ParameterClose p) i w q known is h = absurd cc

sign_step : (all : List Declaration) (schema : Schema) (p : Place) (i b : ℕ) (q : Reading) → Known all schema → FitsPlace schema p → mark_at (Sign b) (at schema p) i ≡ Ok q → Step all p (Sign b) q
sign_step all schema place.Declaration i b q known is h = absurd cc
sign_step all schema place.Name i b q known is h = absurd cc
sign_step all schema (place.Opening n) i b q known is h = open_step all schema n i b q known is h
sign_step all schema (place.Column s) i b q known is h = absurd cc
sign_step all schema (place.Kind s n) i b q known is h = absurd cc
sign_step all schema (place.Comma s) i b q known is h = comma_step all schema s i b q known is h
sign_step all schema (place.Close s) i b q known is h = close_step all schema s i b q known is h
sign_step all schema place.Parameter i b q known is h = absurd cc
sign_step all schema (place.ParameterKind n) i b q known is h = absurd cc
sign_step all schema (place.ParameterClose p) i b q known is h = parameter_close_step all schema p i b q known is.0 is.1 h

mark_step : (all : List Declaration) (m : Mark) (r : Reading) (i : ℕ) (q : Reading) → Known all r.schema → FitsPlace r.schema r.place → mark_at m r i ≡ Ok q → Step all r.place m q
mark_step all (Word w) r i q known fits h = word_step all r.schema r.place i w q known fits h
mark_step all (Sign b) r i q known fits h = sign_step all r.schema r.place i b q known fits h

-- what is read at the end
record Read (all : List Declaration) (p : Place) (ms : List Mark) (schema : Schema) : Type 0 where
  is : IsSchema schema
  last : List Declaration
  same : schema_in last ≡ schema
  spelled : spell last ≡ written all p ++ ms

end_read : (all : List Declaration) (p : Place) (schema : Schema) (len : ℕ) (out : Schema) → Known all schema → end_at p schema len ≡ Ok out → Read all p [] out
end_read all place.Declaration schema len out known h =
    let a = only_ok (nat_lt 0 (length schema.streams)) (Syntax len) (Ok schema) out h in
    subst (Read all place.Declaration []) (ok_is schema out a.1) (record {
      is = record { some' = omega (arith, ltb-true 0 (length schema.streams) a.0); most = known.streams.most; streams = known.streams.streams; distinct = known.streams.distinct; declared = known.parameters };
      last = all;
      same = known.same;
      spelled = sym (append-nil (written all place.Declaration) ∙ append-nil (spell all));
    })
end_read all place.Name schema len out known h = absurd cc
end_read all (place.Opening n) schema len out known h = absurd cc
end_read all (place.Column s) schema len out known h = absurd cc
end_read all (place.Kind s n) schema len out known h = absurd cc
end_read all (place.Comma s) schema len out known h = absurd cc
end_read all (place.Close s) schema len out known h = absurd cc
end_read all place.Parameter schema len out known h = absurd cc
end_read all (place.ParameterKind n) schema len out known h = absurd cc
end_read all (place.ParameterClose p) schema len out known h = absurd cc

bind_ok : {A B : Type 0} (r : Result A SchemaFault) (f : A → Result B SchemaFault) (y : B) → (r >>= f) ≡ Ok y → (x : A) × (r ≡ Ok x) × (f x ≡ Ok y)
bind_ok (Ok x) f y h = (x, refl, h)
bind_ok (Err e) f y h = absurd cc

tokens_read : (len : ℕ) (ts : List Token) (all : List Declaration) (r : Reading) (schema : Schema) → Known all r.schema → FitsPlace r.schema r.place → schema_from len ts r ≡ Ok schema → Read all r.place (marks ts) schema
tokens_read len [] all r schema known fits h = end_read all r.place r.schema len schema known h
tokens_read len (t ∷ ts) all r schema known fits h =
    let b = bind_ok (mark_at t.mark r t.at) (schema_from len ts) schema h in
    let step = mark_step all t.mark r t.at b.0 known fits b.1 in
    let more = tokens_read len ts step.after b.0 schema step.known step.fits b.2 in
    record { is = more.is; last = more.last; same = more.same; spelled = more.spelled ∙ ap (λ (x : List Mark). x ++ marks ts) step.grows ∙ append_assoc (written all r.place) (t.mark ∷ []) (marks ts) }

start_known : Known [] start.schema
unfolding IsDistinct
start_known = record { same = refl; streams = record { most = omega arith; streams = tt; distinct = tt }; parameters = record { most = omega arith; each = tt; distinct = tt } }

-- what is read is a schema of the text
pub read_is : (text : List ℕ) (schema : Schema) → schema_of text ≡ Ok schema → IsSchemaText text schema
unfolding schema_of
read_is text schema h = let r = tokens_read (length text) (tokens_of text) [] start schema start_known tt h in record { schema' = r.is; all = r.last; same = r.same; spelled = sym r.spelled }
