-- The steps of an as-of join and of what groups by a key behind a source.
use Rattle.std.proofs.Common.{◌≡◌, ℕ, Bool, true, false, List, ◌∷◌, ◌++◌, Option, Some, None, refl, ap}
use Rattle.std.specs.Prelude.{not}
use Rattle.gl_query.specs.declared.tree.Name.{Name}
use Rattle.gl_query_tokens.specs.declared.token.Plain.TheVariants as plain
use Rattle.gl_query_tokens.specs.declared.token.Spelling.{Spelling}
use Rattle.gl_query_tokens.specs.declared.token.Spelling.TheVariants.{Small, Capital}
use Rattle.gl_query_tokens.specs.declared.token.Word.TheVariants as word
use Rattle.gl_query_tokens.specs.declared.token.Token.{Token}
use Rattle.gl_query_tokens.specs.declared.token.Token.TheVariants as token
use Rattle.gl_query_tokens.specs.Sorts.{plain_eq, word_in}
use Rattle.gl_query_reader.specs.declared.written.Window.{Window}
use Rattle.gl_query_reader.specs.declared.written.Grouping.{Grouping}
use Rattle.gl_query_reader.specs.Written.{Pick, Query, Stream, InBrackets, Select, Windows, Groups, AsOf', Join', IsSide, spell_grouping, spell_word}
use Rattle.gl_query_reader.specs.States.{Frame, Head, SelectHead, EachHead, RightHead, JoinHead, SelectJoin, EachJoin, GroupsHead', EachGroups, WantSource, HaveSource, HaveEachSource, WantJoinBy, WantKey, WantBody}
use Rattle.gl_query_reader.specs.Windowed.{after_join, can_join, is_joined, join_or_by, join_word}
use Rattle.gl_query_reader.specs.Machine.{have_term, join_or_end, step}
use Rattle.gl_query_reader.proofs.Steps.{steps, state}
use Rattle.gl_query_reader.proofs.RowsSaid.{word-in}

-- where ASOF does not stand it does not count
no_word : (b : Bool) (t : Token) → word_in word.AsOf t ≡ None → join_word b t ≡ None
no_word true t e = e
no_word false t e = refl

-- a select ends behind its source where ASOF does not stand there
pub ends_alone : (pick : Pick) (source : Query) (window : Option Window) (fs : List Frame) (t : Token) (b : Bool) → word_in word.AsOf t ≡ None
    → join_or_end fs pick source window (join_word b t) t ≡ have_term fs (Select pick source window None None) t
ends_alone pick source window fs t b e = ap (λ (o : Option Spelling). join_or_end fs pick source window o t) (no_word b t e)

-- BY behind the source of EACH
pub each_by : (at : ℕ) (var : Name) (source : Query) (n : ℕ) (fs : List Frame) → step (state (HaveEachSource at var source) fs) (token.By n) ≡ Some (state (WantKey (EachGroups at var source) n) fs)
unfolding step
each_by at var source n fs = ap (λ (o : Option Spelling). join_or_by fs at var source o (token.By n)) (no_word (not (is_joined source)) (token.By n) refl)

pub key_groups : (at : ℕ) (var : Name) (source : Query) (g : Grouping) (fs : List Frame) (rest : List Token)
    → steps (state (WantKey (EachGroups at var source) g.at) fs) (token.Name g.key ∷ token.Plain plain.Groups ∷ token.Number g.groups ∷ rest) ≡ steps (state (WantBody (GroupsHead' at var source g None)) fs) rest
unfolding steps step plain_eq
key_groups at var source g fs rest = refl

-- a side of a join is no join
side_alone : (q : Query) → IsSide q → is_joined q ≡ false
side_alone (Stream name) h = refl
side_alone (InBrackets at q) h = refl
side_alone (Select pick source window filter grouping) h = absurd h
side_alone (Windows at var source window open' body) h = absurd h
side_alone (Groups at var source grouping window open' body) h = absurd h
side_alone (AsOf' w l r grouping) h = absurd h
side_alone (Join' join at l r) h = absurd h

-- ASOF counts where it may stand
the_word : (b : Bool) (w : Spelling) → b ≡ true → join_word b (spell_word word.AsOf w) ≡ Some w
the_word true w d = word-in word.AsOf w
the_word false w d = absurd cc

-- ASOF behind a source
pub select_joins : (pick : Pick) (l : Query) (w : Spelling) (fs : List Frame) → IsSide l → step (state (HaveSource pick l None) fs) (spell_word word.AsOf w) ≡ Some (state (WantSource (RightHead (SelectJoin pick l w))) fs)
unfolding step
select_joins pick l (Small at) fs h = ap (λ (o : Option Spelling). join_or_end fs pick l None o (spell_word word.AsOf (Small at))) (the_word (can_join l None) (Small at) (ap not (side_alone l h)))
select_joins pick l (Capital at) fs h = ap (λ (o : Option Spelling). join_or_end fs pick l None o (spell_word word.AsOf (Capital at))) (the_word (can_join l None) (Capital at) (ap not (side_alone l h)))

pub each_joins : (at : ℕ) (var : Name) (l : Query) (w : Spelling) (fs : List Frame) → IsSide l → step (state (HaveEachSource at var l) fs) (spell_word word.AsOf w) ≡ Some (state (WantSource (RightHead (EachJoin at var l w))) fs)
unfolding step
each_joins e var l (Small at) fs h = ap (λ (o : Option Spelling). join_or_by fs e var l o (spell_word word.AsOf (Small at))) (the_word (not (is_joined l)) (Small at) (ap not (side_alone l h)))
each_joins e var l (Capital at) fs h = ap (λ (o : Option Spelling). join_or_by fs e var l o (spell_word word.AsOf (Capital at))) (the_word (not (is_joined l)) (Capital at) (ap not (side_alone l h)))

-- the key behind the right side
pub join_grouping : (join : JoinHead) (r : Query) (g : Grouping) (fs : List Frame) (rest : List Token) → steps (state (WantJoinBy join r) fs) (spell_grouping g ++ rest) ≡ steps (state (after_join join r g) fs) rest
unfolding steps step plain_eq
join_grouping join r g fs rest = refl

-- a join stands behind FROM or IN, and behind no ASOF
abbrev pub IsFirst : Head → Type 0
IsFirst (SelectHead pick) = Unit {0}
IsFirst (EachHead at var) = Unit {0}
IsFirst (RightHead join) = ⊥
