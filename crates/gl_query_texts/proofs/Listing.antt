-- The statements of a text are few, have names of their own, and are regular.
use Rattle.std.proofs.Common.{◌≡◌, ℕ, suc, ◌+◌, ◌<◌, ◌≤◌, Bool, true, false, List, [], ◌∷◌, ◌++◌, length, Option, None, refl, sym, ap, subst, append_assoc, arith, length-append}
use Rattle.std.specs.Prelude.{bytes_eq, nat_lt, not, if◌then◌else◌}
use Rattle.std.specs.List.{AllByRecursion, IsDistinct, list_any}
use Rattle.std.proofs.lemmas.Bool.{ltb-true}
use Rattle.std.proofs.lemmas.Cmp.{nat_list_eq_equiv}
use Rattle.std.proofs.lemmas.List.{append-nil}
use Rattle.std.proofs.lemmas.Map.Keys.{IsDistinct-push}
use Rattle.gl_bits.proofs.AllLists.{all_append, all_mapped}
use Rattle.gl_bits.proofs.Bools.{not_true}
use Rattle.gl_schema.specs.declared.schema.Schema.{Schema}
use Rattle.gl_query.specs.declared.fault.QueryFault.{QueryFault}
use Rattle.gl_query.specs.declared.fault.QueryFault.TheVariants.{TwiceNamed, OutOfRange}
use Rattle.gl_query.specs.Alike.{statement_alike}
use Rattle.gl_query.specs.Faults.{first_fault, or_else, unless}
use Rattle.gl_query.specs.Trees.{StatementTree}
use Rattle.gl_query.proofs.Deciding.{Decides, both, test}
use Rattle.gl_query_tokens.specs.declared.token.Lexeme.{Lexeme}
use Rattle.gl_query_tokens.specs.Tokens.{tokens_of}
use Rattle.gl_query_tokens.proofs.Sound.{AreSound, IsSound, text_sound}
use Rattle.gl_query_reader.specs.Grammar.{IsRegular}
use Rattle.gl_query_reader.proofs.Regular.{regular_of}
use Rattle.gl_query_texts.specs.Pieces.{Piece, is_semicolon, piece, pieces_behind, pieces_left, pieces_of, where_some}
use Rattle.gl_query_texts.specs.Lists.{AreStatements, name_fault, names_of}
use Rattle.gl_query_texts.specs.ListLaws.{StatementsAreListed}

-- ---- no rule is broken

none_itself : (o : Option QueryFault) → Decides o (o ≡ None)
none_itself o = record { sound = λ e. e; complete = λ e. e }

-- the name is new, and there may be one more
record MayStand (names : List (List ℕ)) (name : List ℕ) : Type 0 where
  new : list_any (bytes_eq name) names ≡ false
  few : length names < 8

may_stand : (schema : Schema) (names : List (List ℕ)) (s : StatementTree) → or_else (first_fault schema s) (name_fault names s.name) ≡ None → MayStand names s.name.text
may_stand schema names s e =
    let new = not (list_any (bytes_eq s.name.text) names) in
    let few = nat_lt (length names) 8 in
    let n = (both (first_fault schema s) (name_fault names s.name) (none_itself _) (λ f. none_itself _)).sound e in
    let p = (both (unless new (TwiceNamed s.name.at)) (unless few (OutOfRange s.name.at)) (test new _) (λ f. test few _)).sound n.1 in
    record {
      new = not_true (list_any (bytes_eq s.name.text) names) p.0;
      few = ltb-true (length names) 8 p.1;
    }

-- ---- all of them

record AreNamed (names : List (List ℕ)) : Type 0 where
  most : length names ≤ 8
  distinct : IsDistinct bytes_eq names

one_more : (names : List (List ℕ)) (name : List ℕ) → AreNamed names → MayStand names name → AreNamed (names ++ name ∷ [])
one_more names name h m = record {
  most = (let e : length (names ++ name ∷ []) ≡ length names + 1 = length-append names (name ∷ []) in let t : length names < 8 = m.few in omega arith);
  distinct = IsDistinct-push nat_list_eq_equiv names name h.distinct m.new;
}

named : (schema : Schema) (names : List (List ℕ)) (ps : List Piece) (ss : List StatementTree) → AreStatements schema names ps ss → AreNamed names → AreNamed (names ++ names_of ss)
named schema names [] [] h a = subst AreNamed (sym (append-nil names)) a
named schema names [] (s ∷ ss) h a = absurd h
named schema names (p ∷ ps) [] h a = absurd h
named schema names (p ∷ ps) (s ∷ ss) h a =
    subst AreNamed (append_assoc names (s.name.text ∷ []) (names_of ss))
    (named schema (names ++ s.name.text ∷ []) ps ss h.1 (one_more names s.name.text a (may_stand schema names s h.0.first)))

named_length : (ss : List StatementTree) → length (names_of ss) ≡ length ss
named_length [] = refl
named_length (s ∷ ss) = ap suc (named_length ss)

-- ---- at least one

abbrev AreSome : List Piece → Type 0
AreSome ps = 1 ≤ length ps

some_if : (b : Bool) (p : Piece) (ps qs : List Piece) → AreSome qs → AreSome (if b then p ∷ ps else qs)
some_if true p ps qs h = omega arith
some_if false p ps qs h = h

some_pieces : (begun ls : List Lexeme) (end : ℕ) → AreSome (pieces_behind begun ls end)
unfolding pieces_behind
some_pieces begun [] end = omega arith
some_pieces begun (l ∷ ls) end = some_if (is_semicolon l.token) (piece begun l.at) (pieces_left ls end) (pieces_behind (begun ++ l ∷ []) ls end) (some_pieces (begun ++ l ∷ []) ls end)

some_statements : (schema : Schema) (names : List (List ℕ)) (ps : List Piece) (ss : List StatementTree) → AreStatements schema names ps ss → AreSome ps → 1 ≤ length ss
some_statements schema names [] ss h a = absurd (let z : 1 ≤ 0 = a in let f : ⊥ = omega arith in f)
some_statements schema names (p ∷ ps) [] h a = absurd h
some_statements schema names (p ∷ ps) (s ∷ ss) h a = omega arith

-- ---- names that are names

abbrev IsSoundPiece : Piece → Type 0
IsSoundPiece p = AreSound p.tokens

sound_if : (b : Bool) (p : Piece) (ps qs : List Piece) → IsSoundPiece p → AllByRecursion IsSoundPiece ps → AllByRecursion IsSoundPiece qs → AllByRecursion IsSoundPiece (if b then p ∷ ps else qs)
sound_if true p ps qs f h k = (f, h)
sound_if false p ps qs f h k = k

sound_where : (ls : List Lexeme) (ps : List Piece) → AllByRecursion IsSoundPiece ps → AllByRecursion IsSoundPiece (where_some ls ps)
sound_where [] ps h = tt
sound_where (l ∷ ls) ps h = h

sound_behind : (begun ls : List Lexeme) (end : ℕ) → AreSound begun → AreSound ls → AllByRecursion IsSoundPiece (pieces_behind begun ls end)
unfolding pieces_behind
sound_behind begun [] end f h = (f, tt)
sound_behind begun (l ∷ ls) end f h =
    sound_if (is_semicolon l.token) (piece begun l.at) (pieces_left ls end) (pieces_behind (begun ++ l ∷ []) ls end) f
    (sound_where ls (pieces_behind [] ls end) (sound_behind [] ls end tt h.1))
    (sound_behind (begun ++ l ∷ []) ls end (all_append (λ (x : Lexeme). IsSound x.token) begun (l ∷ []) f (h.0, tt)) h.1)

regulars : (schema : Schema) (names : List (List ℕ)) (ps : List Piece) (ss : List StatementTree) → AreStatements schema names ps ss → AllByRecursion IsSoundPiece ps → AllByRecursion (λ (s : StatementTree). IsRegular (statement_alike s)) ss
regulars schema names [] [] h a = tt
regulars schema names [] (s ∷ ss) h a = absurd h
regulars schema names (p ∷ ps) [] h a = absurd h
regulars schema names (p ∷ ps) (s ∷ ss) h a =
    (regular_of p.tokens s (all_mapped IsSound (λ (l : Lexeme). l.token) p.tokens a.0) h.0.has, regulars schema (names ++ s.name.text ∷ []) ps ss h.1 a.1)

pub listed : StatementsAreListed
unfolding IsDistinct
listed schema text ss h =
    let a = named schema [] (pieces_of text) ss h (record { most = omega arith; distinct = tt }) in
    record {
      some' = some_statements schema [] (pieces_of text) ss h (some_pieces [] (tokens_of text) _);
      most = subst (λ (n : ℕ). n ≤ 8) (named_length ss) a.most;
      distinct = a.distinct;
      regular = regulars schema [] (pieces_of text) ss h (sound_behind [] (tokens_of text) _ tt (text_sound text));
    }
