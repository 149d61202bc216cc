-- What follows a term, and the parts of sources, windows and groups, are read as the grammar has them.
use Rattle.std.proofs.Common.{◌≡◌, ℕ, Bool, true, false, List, [], ◌∷◌, ◌++◌, Option, Some, None, refl, ap, subst, ◌∙◌, append_assoc}
use Rattle.std.specs.Prelude.{not, option_and_then}
use Rattle.std.proofs.lemmas.List.{append-nil}
use Rattle.gl_query.specs.declared.tree.Measure.{Measure}
use Rattle.gl_query.specs.declared.tree.Name.{Name}
use Rattle.gl_query.specs.declared.tree.Num.{Num}
use Rattle.gl_query_tokens.specs.declared.token.Join.TheVariants as join
use Rattle.gl_query_tokens.specs.declared.token.Plain.TheVariants as plain
use Rattle.gl_query_tokens.specs.declared.token.Spelling.{Spelling}
use Rattle.gl_query_tokens.specs.declared.token.Word.TheVariants as word
use Rattle.gl_query_tokens.specs.declared.token.Token.{Token}
use Rattle.gl_query_tokens.specs.declared.token.Token.TheVariants as token
use Rattle.gl_query_tokens.specs.Sorts.{by_in}
use Rattle.gl_query_reader.specs.declared.over_state.RowsSoFar.TheVariants as so_far
use Rattle.gl_query_reader.specs.declared.joins.Joining.TheVariants as joining
use Rattle.gl_query_reader.specs.declared.written.Window.{Window}
use Rattle.gl_query_reader.specs.Written.{Expr, LagOf, Ranged, Pick, Query, Stream, InBrackets, Select, Windows, Groups, AsOf', Join', IsSide, IsSource, IsQuery, IsTerm, measure_word, spell_word, spell_head, spell_pick, spell_window, spell_if_window, spell_row_window, spell_filter, spell_grouping, spell_join, spell_query}
use Rattle.gl_query_reader.specs.States.{measured, row_window, State, Control, Frame, Head, WindowHead, BodyHead, GroupsHead, SelectHead, EachHead, SelectWindow, EachWindow, GroupsWindow, WindowsHead, GroupsHead', SelectGroups, EachGroups, OverGroups, InFilter, JoinOf, InQuery, InSource, InBody, WantTerm, WantItem, WantOperand, WantSource, HaveSource, HaveEachSource, WantSize, WantSizeNumber, WantAdvance, WantAdvanceNumber, WantMeasure, WantWindowClose, WantBy, WantKey, WantGroups, WantGroupsNumber, InOver, WantArrival, WantVar, WantIn, WantBody, HaveTerm, WantName, HaveName, WantEnd, goes, JoinHead, SelectJoin, EachJoin, RightHead, JoinGroups, WantJoinBy}
use Rattle.gl_query_reader.specs.Begun.{open_body}
use Rattle.gl_query_reader.specs.Machine.{have_term, after_query, close_query, end_query, end_source, join_or_end, step_at}
use Rattle.gl_query_reader.specs.Windowed.{begin_window, can_join, is_joined, join_or_by, join_word}
use Rattle.gl_query_reader.proofs.ReadQueries.{NoJoin}
use Rattle.gl_query_reader.proofs.Said.{items_before, join_text, head_text, body_text, groups_text, in_source, before, control_text, InTerm, Fits, Holds, Read, by_some, by_if, by_plain, by_name, by_number, by_open, by_measure, by_size, by_by, by_word_or, go_on, go_in}
use Rattle.gl_bits.proofs.Bools.{not_true}

-- a control that keeps what was read, whatever token comes
abbrev pub Keeps : Control → Type 0
Keeps c = (fs : List Frame) (t : Token) (s' : State) → Fits fs → Holds c fs → step_at c fs t ≡ Some s' → Read s' ((before fs ++ control_text c) ++ t ∷ [])

-- ---- behind a term

pub term_is_query : (q : Query) → IsTerm q → IsQuery q
term_is_query (Stream name) h = h
term_is_query (InBrackets at q) h = h
term_is_query (Select pick source window filter grouping) h = h
term_is_query (Windows at var source window open' body) h = h
term_is_query (Groups at var source grouping window open' body) h = h
term_is_query (AsOf' w l r grouping) h = absurd h
term_is_query (Join' join at l r) h = absurd h

close_brackets : (b q : List Token) (o c : Token) → b ++ (o ∷ (q ++ c ∷ [])) ≡ ((b ++ o ∷ []) ++ q) ++ c ∷ []
close_brackets b q o c = simp append_assoc

close_source : (b h q : List Token) (o c : Token) → b ++ (h ++ o ∷ (q ++ c ∷ [])) ≡ ((b ++ (h ++ o ∷ [])) ++ q) ++ c ∷ []
close_source b h q o c = simp append_assoc

close_body : (b h q : List Token) (o c : Token) → b ++ (h ++ o ∷ (q ++ c ∷ [])) ≡ ((b ++ (h ++ o ∷ [])) ++ q) ++ c ∷ []
close_body b h q o c = simp append_assoc

closes_query : (fs : List Frame) (q : Query) (s' : State) → Fits fs → IsQuery q → close_query fs q ≡ Some s' → Read s' ((before fs ++ spell_query q) ++ token.Plain plain.Close ∷ [])
closes_query (InQuery at ∷ fs) q s' f h e = by_some _ s' _ e (record { text = close_brackets (before fs) (spell_query q) (token.Open at) (token.Plain plain.Close); fits = f.1; holds = (f.0, h) })
closes_query (InSource (SelectHead pick) at ∷ fs) q s' f h e = by_some _ s' _ e (record {
  text = text (before fs) (spell_pick pick) (spell_query q);
  fits = f.1;
  holds = (f.0.0, f.0.1, h);
})
  where
    text : (b p x : List Token) → b ++ (token.Plain plain.Select ∷ (p ++ token.Plain plain.From ∷ ((token.Open at ∷ (x ++ token.Plain plain.Close ∷ [])) ++ []))) ≡ ((b ++ ((token.Plain plain.Select ∷ (p ++ token.Plain plain.From ∷ [])) ++ token.Open at ∷ [])) ++ x) ++ token.Plain plain.Close ∷ []
    text b p x = simp append_assoc
closes_query (InSource (EachHead at' var) at ∷ fs) q s' f h e = by_some _ s' _ e (record {
  text = close_source (before fs) (head_text (EachHead at' var)) (spell_query q) (token.Open at) (token.Plain plain.Close);
  fits = f.1;
  holds = (f.0.0, h);
})
closes_query (InSource (RightHead join) at ∷ fs) q s' f h e = by_some _ s' _ e (record {
  text = close_source (before fs) (join_text join) (spell_query q) (token.Open at) (token.Plain plain.Close);
  fits = f.1;
  holds = (f.0.0, f.0.1, h);
})
closes_query (InBody (WindowsHead at var source window) open' ∷ fs) q s' f h e = by_some _ s' _ e (record {
  text = text (before fs) (spell_query source) (spell_window window) (spell_query q);
  fits = f.1;
  holds = (f.0.0, (f.0.1, h));
})
  where
    text : (b a w x : List Token) → b ++ (token.Each at ∷ token.Name var ∷ token.Plain plain.In ∷ (a ++ (w ++ token.Open open' ∷ (x ++ token.Plain plain.Close ∷ [])))) ≡ ((b ++ ((token.Each at ∷ token.Name var ∷ token.Plain plain.In ∷ (a ++ w)) ++ token.Open open' ∷ [])) ++ x) ++ token.Plain plain.Close ∷ []
    text b a w x = simp append_assoc
closes_query (InBody (GroupsHead' at var source grouping window) open' ∷ fs) q s' f h e = by_some _ s' _ e (record {
  text = text (before fs) (spell_query source) (spell_grouping grouping) (spell_row_window window) (spell_query q);
  fits = f.1;
  holds = (f.0.0, (f.0.1, h));
})
  where
    text : (b a g w x : List Token) → b ++ (token.Each at ∷ token.Name var ∷ token.Plain plain.In ∷ (a ++ (g ++ (w ++ token.Open open' ∷ (x ++ token.Plain plain.Close ∷ []))))) ≡ ((b ++ ((token.Each at ∷ token.Name var ∷ token.Plain plain.In ∷ (a ++ (g ++ w))) ++ token.Open open' ∷ [])) ++ x) ++ token.Plain plain.Close ∷ []
    text b a g w x = simp append_assoc
closes_query fs q s' f h e = absurd cc

ends_query : (fs : List Frame) (q : Query) (s' : State) → Fits fs → IsQuery q → end_query fs q ≡ Some s' → Read s' ((before fs ++ spell_query q) ++ token.Plain plain.Into ∷ [])
ends_query [] q s' f h e = by_some _ s' _ e (record { text = refl; fits = tt; holds = (refl, h) })
ends_query (f ∷ fs) q s' fits h e = absurd cc

pub keeps_query : (fs : List Frame) (q : Query) (t : Token) (s' : State) → Fits fs → InTerm fs → NoJoin fs → IsQuery q → after_query fs q t ≡ Some s' → Read s' ((before fs ++ spell_query q) ++ t ∷ [])
keeps_query fs q (token.Join join.Union at) s' f i n h e = by_some _ s' _ e (go_in (spell_query q) WantTerm (JoinOf q joining.Union at) fs (token.Join join.Union at) f (i, n, h) tt refl refl)
keeps_query fs q (token.Join join.Concat at) s' f i n h e = by_some _ s' _ e (go_in (spell_query q) WantTerm (JoinOf q joining.Concat at) fs (token.Join join.Concat at) f (i, n, h) tt refl refl)
keeps_query fs q (token.Plain plain.Close) s' f i n h e = closes_query fs q s' f h e
keeps_query fs q (token.Plain plain.Into) s' f i n h e = ends_query fs q s' f h e
keeps_query fs q (token.Plain p) s' f i n h e = absurd cc
keeps_query fs q t s' f i n h e = absurd cc

-- a term that joins what stands before it, or stands alone
pub keeps_term : (fs : List Frame) (q : Query) (t : Token) (s' : State) → Fits fs → InTerm fs → IsTerm q → have_term fs q t ≡ Some s' → Read s' ((before fs ++ spell_query q) ++ t ∷ [])
keeps_term (JoinOf l join at ∷ fs) q t s' f i h e =
    subst (λ (x : List Token). Read s' (x ++ t ∷ [])) (text (before fs) (spell_query l) (spell_join join at) (spell_query q)) (keeps_query fs (Join' join at l q) t s' f.1 f.0.0 f.0.1 (f.0.2, h) e)
  where
    text : (b x j y : List Token) → b ++ (x ++ (j ++ y)) ≡ (b ++ (x ++ j)) ++ y
    text b x j y = simp append_assoc
keeps_term [] q t s' f i h e = keeps_query [] q t s' f i tt (term_is_query q h) e
keeps_term (f ∷ fs) q t s' fits i h e = keeps_query (f ∷ fs) q t s' fits i tt (term_is_query q h) e

-- ---- queries

pub keeps_want_term : Keeps WantTerm
keeps_want_term fs (token.Plain plain.Select) s' f h e = by_some _ s' _ e (go_on [] (WantItem []) fs (token.Plain plain.Select) f (h, tt) refl)
keeps_want_term fs (token.Plain p) s' f h e = absurd cc
keeps_want_term fs (token.Each at) s' f h e = by_some _ s' _ e (go_on [] (WantVar at) fs (token.Each at) f h refl)
keeps_want_term fs (token.Open at) s' f h e = by_some _ s' _ e (go_in [] WantTerm (InQuery at) fs (token.Open at) f h tt refl refl)
keeps_want_term (JoinOf l joining.Union at ∷ fs) (token.By n) s' f h e = by_some _ s' _ e (record { text = text (before fs) (spell_query l); fits = f.1; holds = f.0 })
  where
    text : (b x : List Token) → b ++ (x ++ token.Join join.Union at ∷ token.By n ∷ []) ≡ ((b ++ (x ++ token.Join join.Union at ∷ [])) ++ []) ++ token.By n ∷ []
    text b x = simp append_assoc
keeps_want_term (JoinOf l (joining.Arrival m w) at ∷ fs) (token.By n) s' f h e = absurd cc
keeps_want_term (JoinOf l joining.Concat at ∷ fs) (token.By n) s' f h e = absurd cc
keeps_want_term fs (token.By n) s' f h e = absurd cc
keeps_want_term fs t s' f h e = absurd cc

pub keeps_arrival : (l : Query) (at by' : ℕ) → Keeps (WantArrival l at by')
keeps_arrival l at n fs t s' f h e = by_word_or word.Arrival t (λ o. option_and_then (λ w. goes WantTerm (JoinOf l (joining.Arrival n w) at ∷ fs)) o) s' _ e
    (λ w d. by_some _ s' _ d (go_in (control_text (WantArrival l at n)) WantTerm (JoinOf l (joining.Arrival n w) at) fs (spell_word word.Arrival w) f h tt refl
    (append_assoc (spell_query l) (token.Join join.Union at ∷ token.By n ∷ []) (spell_word word.Arrival w ∷ []))))
    (λ d. absurd cc)

pub keeps_var : (at : ℕ) → Keeps (WantVar at)
keeps_var at fs t s' f h e = by_name t _ s' _ e (λ n d. by_some _ s' _ d (go_on (token.Each at ∷ []) (WantIn at n) fs (token.Name n) f h refl))

pub keeps_in : (at : ℕ) (var : Name) → Keeps (WantIn at var)
keeps_in at var fs t s' f h e = by_plain plain.In t _ s' _ e (go_on (token.Each at ∷ token.Name var ∷ []) (WantSource (EachHead at var)) fs (token.Plain plain.In) f (h, tt) refl)

opens_body : (head : BodyHead) (fs : List Frame) (t : Token) (s' : State) → Fits fs → Holds (WantBody head) fs → open_body fs head t ≡ Some s' → Read s' ((before fs ++ body_text head) ++ t ∷ [])
opens_body head fs t s' f h e = by_open t _ s' _ e (λ n d. by_some _ s' _ d (go_in (body_text head) WantTerm (InBody head n) fs (token.Open n) f (h.0, h.1) tt refl refl))

pub keeps_have_term : (q : Query) → Keeps (HaveTerm q)
keeps_have_term q fs t s' f h e = keeps_term fs q t s' f h.0 h.1 e

pub keeps_want_name : (q : Query) → Keeps (WantName q)
keeps_want_name q fs t s' f h e = by_name t _ s' _ e (λ n d. by_some _ s' _ d (go_on (spell_query q ++ token.Plain plain.Into ∷ []) (HaveName q n) fs (token.Name n) f h (append_assoc (spell_query q) (token.Plain plain.Into ∷ []) (token.Name n ∷ []))))

pub keeps_have_name : (q : Query) (name : Name) → Keeps (HaveName q name)
keeps_have_name q name fs t s' f h e = by_plain plain.Semicolon t _ s' _ e (go_on (spell_query q ++ token.Plain plain.Into ∷ token.Name name ∷ []) (WantEnd q name) fs (token.Plain plain.Semicolon) f h (append_assoc (spell_query q) (token.Plain plain.Into ∷ token.Name name ∷ []) (token.Plain plain.Semicolon ∷ [])))

pub keeps_end : (q : Query) (name : Name) → Keeps (WantEnd q name)
keeps_end q name fs t s' f h e = absurd cc

-- ---- sources

pub keeps_source : (head : Head) → Keeps (WantSource head)
keeps_source (SelectHead pick) fs (token.Name n) s' f h e = by_some _ s' _ e (go_on (head_text (SelectHead pick)) (HaveSource pick (Stream n) None) fs (token.Name n) f (h.0, h.1, tt) (text (spell_pick pick)))
  where
    text : (p : List Token) → (token.Plain plain.Select ∷ (p ++ token.Plain plain.From ∷ [])) ++ token.Name n ∷ [] ≡ token.Plain plain.Select ∷ (p ++ token.Plain plain.From ∷ token.Name n ∷ [])
    text p = simp append_assoc
keeps_source (EachHead at var) fs (token.Name n) s' f h e = by_some _ s' _ e (go_on (head_text (EachHead at var)) (HaveEachSource at var (Stream n)) fs (token.Name n) f (h.0, tt) refl)
keeps_source (RightHead join) fs (token.Name n) s' f h e = by_some _ s' _ e (go_on (join_text join) (WantJoinBy join (Stream n)) fs (token.Name n) f (h.0, h.1, tt) refl)
keeps_source head fs (token.Open at) s' f h e = by_some _ s' _ e (go_in (head_text head) WantTerm (InSource head at) fs (token.Open at) f (h.0, h.1) tt refl refl)
keeps_source head fs t s' f h e = absurd cc

open_window : (p q : List Token) → (token.Plain plain.Select ∷ (p ++ token.Plain plain.From ∷ (q ++ []))) ++ token.Plain plain.LeftSquare ∷ [] ≡ (token.Plain plain.Select ∷ (p ++ token.Plain plain.From ∷ [])) ++ (q ++ token.Plain plain.LeftSquare ∷ [])
open_window p q = ap (λ (x : List Token). (token.Plain plain.Select ∷ (p ++ token.Plain plain.From ∷ x)) ++ token.Plain plain.LeftSquare ∷ []) (append-nil q) ∙ source_grouped p q
  where
    source_grouped : (p q : List Token) → (token.Plain plain.Select ∷ (p ++ token.Plain plain.From ∷ q)) ++ token.Plain plain.LeftSquare ∷ [] ≡ (token.Plain plain.Select ∷ (p ++ token.Plain plain.From ∷ [])) ++ (q ++ token.Plain plain.LeftSquare ∷ [])
    source_grouped p q = simp append_assoc

begins_window : (pick : Pick) (source : Query) (window : Option Window) (fs : List Frame) (s' : State) → Fits fs → Holds (HaveSource pick source window) fs → begin_window fs pick source window ≡ Some s' → Read s' ((before fs ++ control_text (HaveSource pick source window)) ++ token.Plain plain.LeftSquare ∷ [])
begins_window pick source None fs s' f h e = by_some _ s' _ e (go_on (control_text (HaveSource pick source None)) (WantSize (SelectWindow pick) source) fs (token.Plain plain.LeftSquare) f h (open_window (spell_pick pick) (spell_query source)))
begins_window pick source (Some w) fs s' f h e = absurd cc

begin_filter : (p q w : List Token) (t : Token) → (token.Plain plain.Select ∷ (p ++ token.Plain plain.From ∷ (q ++ w))) ++ t ∷ [] ≡ token.Plain plain.Select ∷ (p ++ token.Plain plain.From ∷ (q ++ (w ++ t ∷ [])))
begin_filter p q w t = simp append_assoc

select_alone : (b p q w : List Token) → b ++ (token.Plain plain.Select ∷ (p ++ token.Plain plain.From ∷ (q ++ (w ++ ([] ++ []))))) ≡ b ++ (token.Plain plain.Select ∷ (p ++ token.Plain plain.From ∷ (q ++ w)))
select_alone b p q w = rw (append-nil w) refl

-- ---- ASOF behind a source

plain_side : (q : Query) → IsSource q → is_joined q ≡ false → IsSide q
plain_side (Stream name) h e = tt
plain_side (InBrackets at q) h e = h
plain_side (Select pick source window filter grouping) h e = absurd h
plain_side (Windows at var source window open' body) h e = absurd h
plain_side (Groups at var source grouping window open' body) h e = absurd h
plain_side (AsOf' w l r grouping) h e = absurd cc
plain_side (Join' join at l r) h e = absurd h

ends_source : (pick : Pick) (source : Query) (window : Option Window) (fs : List Frame) (t : Token) (s' : State) → Fits fs → Holds (HaveSource pick source window) fs
    → end_source fs pick source window t ≡ Some s' → Read s' ((before fs ++ control_text (HaveSource pick source window)) ++ t ∷ [])
ends_source pick source window fs t s' f h e =
    subst (λ (x : List Token). Read s' (x ++ t ∷ [])) (select_alone (before fs) (spell_pick pick) (spell_query source) (spell_if_window window)) (keeps_term fs (Select pick source window None None) t s' f h.0 (h.1, h.2, tt) e)

-- ASOF, where it may stand, or else
by_join : (can : Bool) (t : Token) (f : Option Spelling → Option State) (s' : State) (done : List Token) → f (join_word can t) ≡ Some s'
    → ((w : Spelling) → can ≡ true → f (Some w) ≡ Some s' → Read s' (done ++ spell_word word.AsOf w ∷ [])) → (f None ≡ Some s' → Read s' (done ++ t ∷ [])) → Read s' (done ++ t ∷ [])
by_join true t f s' done e here there = by_word_or word.AsOf t f s' done e (λ w d. here w refl d) there
by_join false t f s' done e here there = there e

-- a source that may be the left side of ASOF
left_side : (source : Query) (window : Option Window) → IsSource source → can_join source window ≡ true → IsSide source × (window ≡ None)
left_side source None h c = (plain_side source h (not_true (is_joined source) c), refl)
left_side source (Some window) h c = absurd cc

joined_text : (p q x : List Token) (w : Token) → x ≡ [] → (token.Plain plain.Select ∷ (p ++ token.Plain plain.From ∷ (q ++ x))) ++ w ∷ [] ≡ token.Plain plain.Select ∷ (p ++ token.Plain plain.From ∷ (q ++ w ∷ []))
joined_text p q x w e = begin_filter p q x w ∙ ap (λ (y : List Token). token.Plain plain.Select ∷ (p ++ token.Plain plain.From ∷ (q ++ (y ++ w ∷ [])))) e

joins_or_ends : (pick : Pick) (source : Query) (window : Option Window) (fs : List Frame) (t : Token) (s' : State) → Fits fs → Holds (HaveSource pick source window) fs
    → join_or_end fs pick source window (join_word (can_join source window) t) t ≡ Some s' → Read s' ((before fs ++ control_text (HaveSource pick source window)) ++ t ∷ [])
joins_or_ends pick source window fs t s' f h e =
    by_join (can_join source window) t (λ o. join_or_end fs pick source window o t) s' _ e
    (λ w c d. let side = left_side source window h.2 c in
    by_some _ s' _ d (go_on (control_text (HaveSource pick source window)) (WantSource (RightHead (SelectJoin pick source w))) fs (spell_word word.AsOf w) f (h.0, (h.1, side.0))
    (joined_text (spell_pick pick) (spell_query source) (spell_if_window window) (spell_word word.AsOf w) (ap spell_if_window side.1))))
    (λ d. ends_source pick source window fs t s' f h d)

begins_groups : (at : ℕ) (var : Name) (source : Query) (fs : List Frame) (t : Token) (s' : State) → Fits fs → Holds (HaveEachSource at var source) fs
    → option_and_then (λ n. goes (WantKey (EachGroups at var source) n) fs) (by_in t) ≡ Some s' → Read s' ((before fs ++ control_text (HaveEachSource at var source)) ++ t ∷ [])
begins_groups at var source fs t s' f h e =
    by_by t _ s' _ e (λ n d. by_some _ s' _ d (go_on (control_text (HaveEachSource at var source)) (WantKey (EachGroups at var source) n) fs (token.By n) f (h.0, h.1) refl))

joins_or_by : (at : ℕ) (var : Name) (source : Query) (fs : List Frame) (t : Token) (s' : State) → Fits fs → Holds (HaveEachSource at var source) fs
    → join_or_by fs at var source (join_word (not (is_joined source)) t) t ≡ Some s' → Read s' ((before fs ++ control_text (HaveEachSource at var source)) ++ t ∷ [])
joins_or_by at var source fs t s' f h e =
    by_join (not (is_joined source)) t (λ o. join_or_by fs at var source o t) s' _ e
    (λ w c d. by_some _ s' _ d (go_on (control_text (HaveEachSource at var source)) (WantSource (RightHead (EachJoin at var source w))) fs (spell_word word.AsOf w) f (h.0, plain_side source h.1 (not_true (is_joined source) c)) refl))
    (λ d. begins_groups at var source fs t s' f h d)

pub keeps_join_by : (join : JoinHead) (right : Query) → Keeps (WantJoinBy join right)
keeps_join_by join right fs t s' f h e = by_by t _ s' _ e (λ n d. by_some _ s' _ d (go_on (control_text (WantJoinBy join right)) (WantKey (JoinGroups join right) n) fs (token.By n) f (h.0, (h.1, h.2)) refl))

pub keeps_have_source : (pick : Pick) (source : Query) (window : Option Window) → Keeps (HaveSource pick source window)
keeps_have_source pick source window fs t s' f h e =
    by_if plain.LeftSquare t _ _ s' _ e (λ d. begins_window pick source window fs s' f h d)
    (λ e1. by_if plain.Where t _ _ s' _ e1 (λ d. by_some _ s' _ d (go_in (control_text (HaveSource pick source window)) WantOperand (InFilter pick source window) fs (token.Plain plain.Where) f (h.0, h.1, h.2) tt refl (begin_filter (spell_pick pick) (spell_query source) (spell_if_window window) (token.Plain plain.Where))))
    (λ e2. by_if plain.Group t _ _ s' _ e2 (λ d. by_some _ s' _ d (go_on (control_text (HaveSource pick source window)) (WantBy pick source window None) fs (token.Plain plain.Group) f (h.0, (h.1, h.2, tt)) (begin_filter (spell_pick pick) (spell_query source) (spell_if_window window) (token.Plain plain.Group))))
    (λ e3. joins_or_ends pick source window fs t s' f h e3)))

pub keeps_each_source : (at : ℕ) (var : Name) (source : Query) → Keeps (HaveEachSource at var source)
keeps_each_source at var source fs t s' f h e =
    by_if plain.LeftSquare t _ _ s' _ e (λ d. by_some _ s' _ d (go_on (control_text (HaveEachSource at var source)) (WantSize (EachWindow at var) source) fs (token.Plain plain.LeftSquare) f (h.0, tt, h.1) refl))
    (λ e1. joins_or_by at var source fs t s' f h e1)

-- ---- windows

behind_source : (h q more : List Token) (t : Token) → (h ++ (q ++ more)) ++ t ∷ [] ≡ h ++ (q ++ (more ++ t ∷ []))
behind_source h q more t = simp append_assoc

behind_groups : (h q g more : List Token) (t : Token) → (h ++ (q ++ (g ++ more))) ++ t ∷ [] ≡ h ++ (q ++ (g ++ (more ++ t ∷ [])))
behind_groups h q g more t = simp append_assoc

behind_window : (head : WindowHead) (source : Query) (more : List Token) (t : Token) → in_source head source more ++ t ∷ [] ≡ in_source head source (more ++ t ∷ [])
behind_window (SelectWindow pick) source more t = behind_source (head_text (SelectHead pick)) (spell_query source) more t
behind_window (EachWindow at var) source more t = behind_source (head_text (EachHead at var)) (spell_query source) more t
behind_window (GroupsWindow at var g) source more t = behind_groups (head_text (EachHead at var)) (spell_query source) (spell_grouping g) more t

-- behind groups a window may begin, or a body opens
pub keeps_body : (head : BodyHead) → Keeps (WantBody head)
keeps_body (WindowsHead at var source w) fs t s' f h e = opens_body (WindowsHead at var source w) fs t s' f h e
keeps_body (GroupsHead' at var source g (Some w)) fs t s' f h e = opens_body (GroupsHead' at var source g (Some w)) fs t s' f h e
keeps_body (GroupsHead' at var source g None) fs t s' f h e =
    by_if plain.LeftSquare t _ _ s' _ e (λ d. by_some _ s' _ d (go_on (body_text (GroupsHead' at var source g None)) (WantSize (GroupsWindow at var g) source) fs (token.Plain plain.LeftSquare) f (h.0, tt, h.1) (behind_source (head_text (EachHead at var)) (spell_query source) (spell_grouping g) (token.Plain plain.LeftSquare))))
    (λ d. opens_body (GroupsHead' at var source g None) fs t s' f h d)

pub keeps_size : (head : WindowHead) (source : Query) → Keeps (WantSize head source)
keeps_size head source fs t s' f h e = by_size t _ s' _ e (λ n d. by_some _ s' _ d (go_on (control_text (WantSize head source)) (WantSizeNumber head source n) fs (token.Size n) f h (behind_window head source (token.Plain plain.LeftSquare ∷ []) (token.Size n))))

pub keeps_size_number : (head : WindowHead) (source : Query) (at : ℕ) → Keeps (WantSizeNumber head source at)
keeps_size_number head source at fs t s' f h e = by_number t _ s' _ e (λ n d. by_some _ s' _ d (go_on (control_text (WantSizeNumber head source at)) (WantAdvance head source at n) fs (token.Number n) f h (behind_window head source (token.Plain plain.LeftSquare ∷ token.Size at ∷ []) (token.Number n))))

pub keeps_advance : (head : WindowHead) (source : Query) (at : ℕ) (size : Num) → Keeps (WantAdvance head source at size)
keeps_advance head source at size fs t s' f h e = by_plain plain.Advance t _ s' _ e (go_on (control_text (WantAdvance head source at size)) (WantAdvanceNumber head source at size) fs (token.Plain plain.Advance) f h (behind_window head source (token.Plain plain.LeftSquare ∷ token.Size at ∷ token.Number size ∷ []) (token.Plain plain.Advance)))

pub keeps_advance_number : (head : WindowHead) (source : Query) (at : ℕ) (size : Num) → Keeps (WantAdvanceNumber head source at size)
keeps_advance_number head source at size fs t s' f h e = by_number t _ s' _ e (λ n d. by_some _ s' _ d (go_on (control_text (WantAdvanceNumber head source at size)) (WantMeasure head source at size n) fs (token.Number n) f h (behind_window head source (token.Plain plain.LeftSquare ∷ token.Size at ∷ token.Number size ∷ token.Plain plain.Advance ∷ []) (token.Number n))))

pub keeps_measure : (head : WindowHead) (source : Query) (at : ℕ) (size advance : Num) → Keeps (WantMeasure head source at size advance)
keeps_measure head source at size advance fs t s' f h e = by_measure head t _ s' _ e (λ m k d. by_some _ s' _ d (go_on (control_text (WantMeasure head source at size advance)) (WantWindowClose head source (measured at size advance m)) fs (token.Plain (measure_word m)) f (h.0, h.1, h.2, k) (behind_window head source (token.Plain plain.LeftSquare ∷ token.Size at ∷ token.Number size ∷ token.Plain plain.Advance ∷ token.Number advance ∷ []) (token.Plain (measure_word m)))))

close_select_window : (p q : List Token) (more : List Token) (t : Token) → ((token.Plain plain.Select ∷ (p ++ token.Plain plain.From ∷ [])) ++ (q ++ more)) ++ t ∷ [] ≡ token.Plain plain.Select ∷ (p ++ token.Plain plain.From ∷ (q ++ (more ++ t ∷ [])))
close_select_window p q more t = simp append_assoc

-- the words of a window up to its measure, and its end
abbrev ends_words : Window → Measure → List Token
ends_words w m = token.Plain plain.LeftSquare ∷ token.Size w.at ∷ token.Number w.size ∷ token.Plain plain.Advance ∷ token.Number w.advance ∷ token.Plain (measure_word m) ∷ token.Plain plain.RightSquare ∷ []

pub keeps_window_close : (head : WindowHead) (source : Query) (w : Window) → Keeps (WantWindowClose head source w)
keeps_window_close (SelectWindow pick) source w fs t s' f h e = by_plain plain.RightSquare t _ s' _ e (go_on (control_text (WantWindowClose (SelectWindow pick) source w)) (HaveSource pick source (Some w)) fs (token.Plain plain.RightSquare) f (h.0, h.1, h.2) (close_select_window (spell_pick pick) (spell_query source) (token.Plain plain.LeftSquare ∷ token.Size w.at ∷ token.Number w.size ∷ token.Plain plain.Advance ∷ token.Number w.advance ∷ token.Plain (measure_word w.measure) ∷ []) (token.Plain plain.RightSquare)))
keeps_window_close (EachWindow at var) source w fs t s' f h e = by_plain plain.RightSquare t _ s' _ e (go_on (control_text (WantWindowClose (EachWindow at var) source w)) (WantBody (WindowsHead at var source w)) fs (token.Plain plain.RightSquare) f (h.0, h.2) (behind_window (EachWindow at var) source (token.Plain plain.LeftSquare ∷ token.Size w.at ∷ token.Number w.size ∷ token.Plain plain.Advance ∷ token.Number w.advance ∷ token.Plain (measure_word w.measure) ∷ []) (token.Plain plain.RightSquare)))
keeps_window_close (GroupsWindow at var g) source w fs t s' f h e = by_plain plain.RightSquare t _ s' _ e (go_on (control_text (WantWindowClose (GroupsWindow at var g) source w)) (WantBody (GroupsHead' at var source g (Some (row_window w)))) fs (token.Plain plain.RightSquare) f (h.0, h.2)
    (behind_window (GroupsWindow at var g) source (token.Plain plain.LeftSquare ∷ token.Size w.at ∷ token.Number w.size ∷ token.Plain plain.Advance ∷ token.Number w.advance ∷ token.Plain (measure_word w.measure) ∷ []) (token.Plain plain.RightSquare) ∙ ap (λ (m : Measure). in_source (GroupsWindow at var g) source (ends_words w m)) h.3))

-- ---- groups

pub keeps_by : (pick : Pick) (source : Query) (window : Option Window) (filter : Option Expr) → Keeps (WantBy pick source window filter)
keeps_by pick source window filter fs t s' f h e = by_by t _ s' _ e (λ n d. by_some _ s' _ d (go_on (groups_text (SelectGroups pick source window filter)) (WantKey (SelectGroups pick source window filter) n) fs (token.By n) f h refl))

pub keeps_key : (head : GroupsHead) (at : ℕ) → Keeps (WantKey head at)
keeps_key head at fs t s' f h e = by_name t _ s' _ e (λ n d. by_some _ s' _ d (go_on (control_text (WantKey head at)) (WantGroups head at n) fs (token.Name n) f h (append_assoc (groups_text head) (token.By at ∷ []) (token.Name n ∷ []))))

pub keeps_groups : (head : GroupsHead) (at : ℕ) (key : Name) → Keeps (WantGroups head at key)
keeps_groups head at key fs t s' f h e = by_plain plain.Groups t _ s' _ e (go_on (control_text (WantGroups head at key)) (WantGroupsNumber head at key) fs (token.Plain plain.Groups) f h (append_assoc (groups_text head) (token.By at ∷ token.Name key ∷ []) (token.Plain plain.Groups ∷ [])))

group_select : (p q w x : List Token) (g : Token) (more : List Token) (t : Token) → ((token.Plain plain.Select ∷ (p ++ token.Plain plain.From ∷ (q ++ (w ++ (x ++ g ∷ []))))) ++ more) ++ t ∷ [] ≡ token.Plain plain.Select ∷ (p ++ token.Plain plain.From ∷ (q ++ (w ++ (x ++ g ∷ (more ++ t ∷ [])))))
group_select p q w x g more t = simp append_assoc

group_each : (q more : List Token) (a b c : Token) (t : Token) → ((a ∷ b ∷ c ∷ q) ++ more) ++ t ∷ [] ≡ a ∷ b ∷ c ∷ (q ++ (more ++ t ∷ []))
group_each q more a b c t = simp append_assoc

group_over : (b h : List Token) (s u v w : Token) (more : List Token) (t : Token) → ((s ∷ (b ++ (h ++ u ∷ v ∷ w ∷ []))) ++ more) ++ t ∷ [] ≡ s ∷ (b ++ (h ++ u ∷ v ∷ w ∷ (more ++ t ∷ [])))
group_over b h s u v w more t = simp append_assoc

joined_select : (p q x : List Token) (s r w b k g n : Token) → (((s ∷ (p ++ r ∷ (q ++ w ∷ []))) ++ x) ++ b ∷ k ∷ g ∷ []) ++ n ∷ [] ≡ s ∷ (p ++ r ∷ ((q ++ w ∷ (x ++ b ∷ k ∷ g ∷ n ∷ [])) ++ []))
joined_select p q x s r w b k g n = simp append_assoc

joined_each : (q x : List Token) (s v i w b k g n : Token) → (((s ∷ v ∷ i ∷ (q ++ w ∷ [])) ++ x) ++ b ∷ k ∷ g ∷ []) ++ n ∷ [] ≡ s ∷ v ∷ i ∷ (q ++ w ∷ (x ++ b ∷ k ∷ g ∷ n ∷ []))
joined_each q x s v i w b k g n = simp append_assoc

pub keeps_groups_number : (head : GroupsHead) (at : ℕ) (key : Name) → Keeps (WantGroupsNumber head at key)
keeps_groups_number (SelectGroups pick source window filter) at key fs t s' f h e = by_number t _ s' _ e (λ n d. by_some _ s' _ d (go_on (control_text (WantGroupsNumber (SelectGroups pick source window filter) at key)) (HaveTerm (Select pick source window filter (Some (record { at = at; key = key; groups = n })))) fs (token.Number n) f h (group_select (spell_pick pick) (spell_query source) (spell_if_window window) (spell_filter filter) (token.Plain plain.Group) (token.By at ∷ token.Name key ∷ token.Plain plain.Groups ∷ []) (token.Number n))))
keeps_groups_number (JoinGroups (SelectJoin pick l w) r) at key fs t s' f h e = by_number t _ s' _ e (λ n d. by_some _ s' _ d
    (go_on (control_text (WantGroupsNumber (JoinGroups (SelectJoin pick l w) r) at key)) (HaveSource pick (AsOf' w l r (record { at = at; key = key; groups = n })) None) fs (token.Number n) f (h.0, h.1.0.0, (h.1.0.1, h.1.1))
    (joined_select (spell_pick pick) (spell_query l) (spell_query r) (token.Plain plain.Select) (token.Plain plain.From) (spell_word word.AsOf w) (token.By at) (token.Name key) (token.Plain plain.Groups) (token.Number n))))
keeps_groups_number (JoinGroups (EachJoin at' var l w) r) at key fs t s' f h e = by_number t _ s' _ e (λ n d. by_some _ s' _ d
    (go_on (control_text (WantGroupsNumber (JoinGroups (EachJoin at' var l w) r) at key)) (HaveEachSource at' var (AsOf' w l r (record { at = at; key = key; groups = n }))) fs (token.Number n) f (h.0, (h.1.0, h.1.1))
    (joined_each (spell_query l) (spell_query r) (token.Each at') (token.Name var) (token.Plain plain.In) (spell_word word.AsOf w) (token.By at) (token.Name key) (token.Plain plain.Groups) (token.Number n))))
keeps_groups_number (EachGroups at' var source) at key fs t s' f h e = by_number t _ s' _ e (λ n d. by_some _ s' _ d (go_on (control_text (WantGroupsNumber (EachGroups at' var source) at key)) (WantBody (GroupsHead' at' var source (record { at = at; key = key; groups = n }) None)) fs (token.Number n) f h (group_each (spell_query source) (token.By at ∷ token.Name key ∷ token.Plain plain.Groups ∷ []) (token.Each at') (token.Name var) (token.Plain plain.In) (token.Number n))))
keeps_groups_number (OverGroups items (LagOf v begin arg back) w open' p) at key fs t s' f h e = by_number t _ s' _ e (λ n d. by_some _ s' _ d (go_on (control_text (WantGroupsNumber (OverGroups items (LagOf v begin arg back) w open' p) at key)) (InOver items (LagOf v begin arg back) w open' (Some (record { word = p; grouping = record { at = at; key = key; groups = n } })) (so_far.WantClose None)) fs (token.Number n) f (h.0, h.1.0, h.1.1, tt) (group_over (items_before items) (spell_head (LagOf v begin arg back)) (token.Plain plain.Select) (spell_word word.Over w) (token.Open open') (spell_word word.Partition p) (token.By at ∷ token.Name key ∷ token.Plain plain.Groups ∷ []) (token.Number n))))
keeps_groups_number (OverGroups items (Ranged a filter) w open' p) at key fs t s' f h e = by_number t _ s' _ e (λ n d. by_some _ s' _ d (go_on (control_text (WantGroupsNumber (OverGroups items (Ranged a filter) w open' p) at key)) (InOver items (Ranged a filter) w open' (Some (record { word = p; grouping = record { at = at; key = key; groups = n } })) so_far.WantRows) fs (token.Number n) f (h.0, h.1.0, h.1.1, tt) (group_over (items_before items) (spell_head (Ranged a filter)) (token.Plain plain.Select) (spell_word word.Over w) (token.Open open') (spell_word word.Partition p) (token.By at ∷ token.Name key ∷ token.Plain plain.Groups ∷ []) (token.Number n))))
