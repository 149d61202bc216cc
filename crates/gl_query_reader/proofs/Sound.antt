-- What is read is spelled by its tokens.
use Rattle.std.proofs.Common.{◌≡◌, List, [], ◌∷◌, ◌++◌, Some, refl, sym, ap, subst, ◌∙◌, append_assoc}
use Rattle.std.proofs.lemmas.List.{append-nil}
use Rattle.gl_query_tokens.specs.declared.token.Token.{Token}
use Rattle.gl_query_reader.specs.Written.{Statement}
use Rattle.gl_query_reader.specs.States.{State, Control, Frame, WantTerm, WantItem, WantOperand, WantMinus, HaveExpr, WantCastOpen, WantKind, WantCastClose, WantCountOpen, WantCountClose, WantFoldOpen, WantWsumOpen, WantWeightsOpen, WantWeight, HaveWeight, WantWsumClose, HaveAgg, WantCallOpen, WantBack, WantLagClose, WantOver, WantFilterOpen, WantFilterWhere, WantOverOpen, WantPart, WantPartBy, InOver, WantOverAs, WantItemName, HaveItem, WantFrom, WantSource, HaveSource, HaveEachSource, WantSize, WantSizeNumber, WantAdvance, WantAdvanceNumber, WantMeasure, WantWindowClose, WantBy, WantKey, WantGroups, WantGroupsNumber, WantArrival, WantVar, WantIn, WantBody, HaveTerm, WantName, HaveName, WantEnd, start, WantJoinBy, WantParameter}
use Rattle.gl_query_reader.specs.Machine.{step, finish, finish_at}
use Rattle.gl_query_reader.specs.Grammar.{Derives}
use Rattle.gl_query_reader.proofs.Steps.{steps}
use Rattle.gl_query_reader.proofs.Said.{before, control_text, Holds, Read}
use Rattle.gl_query_reader.proofs.SoundTerms.{Keeps, keeps_want_term, keeps_arrival, keeps_var, keeps_in, keeps_body, keeps_have_term, keeps_want_name, keeps_have_name, keeps_end, keeps_source, keeps_have_source, keeps_join_by, keeps_each_source, keeps_size, keeps_size_number, keeps_advance, keeps_advance_number, keeps_measure, keeps_window_close, keeps_by, keeps_key, keeps_groups, keeps_groups_number}
use Rattle.gl_query_reader.proofs.SoundExpressions.{keeps_operand, keeps_minus, keeps_cast_open, keeps_kind, keeps_cast_close, keeps_item, keeps_count_open, keeps_count_close, keeps_fold_open, keeps_wsum_open, keeps_weights_open, keeps_weight, keeps_have_weight, keeps_wsum_close, keeps_item_name, keeps_have_item, keeps_from, keeps_expr, keeps_parameter}
use Rattle.gl_query_reader.proofs.SoundFrames.{keeps_call_open, keeps_back, keeps_lag_close, keeps_over, keeps_as, keeps_filter_open, keeps_filter_where, keeps_over_open, keeps_part, keeps_part_by, keeps_in_over, keeps_over_as}
use Rattle.gl_bits.proofs.Options.{some_same, then_some}

pub keeps : (c : Control) → Keeps c
keeps WantTerm = keeps_want_term
keeps (WantItem items) = keeps_item items
keeps WantOperand = keeps_operand
keeps (WantMinus at) = keeps_minus at
keeps (WantParameter at) = keeps_parameter at
keeps (HaveExpr e) = keeps_expr e
keeps (WantCastOpen at) = keeps_cast_open at
keeps (WantKind at open' e) = keeps_kind at open' e
keeps (WantCastClose at open' e word kind) = keeps_cast_close at open' e word kind
keeps (WantCountOpen items at) = keeps_count_open items at
keeps (WantCountClose items at open') = keeps_count_close items at open'
keeps (WantFoldOpen items fold at) = keeps_fold_open items fold at
keeps (WantWsumOpen items at) = keeps_wsum_open items at
keeps (WantWeightsOpen items at open' e) = keeps_weights_open items at open' e
keeps (WantWeight items at open' e ns) = keeps_weight items at open' e ns
keeps (HaveWeight items at open' e ns) = keeps_have_weight items at open' e ns
keeps (WantWsumClose items at open' e ns) = keeps_wsum_close items at open' e ns
keeps (HaveAgg items agg) = keeps_as items agg
keeps (WantCallOpen items c at) = keeps_call_open items c at
keeps (WantBack items w open' e) = keeps_back items w open' e
keeps (WantLagClose items w open' e n) = keeps_lag_close items w open' e n
keeps (WantOver items head) = keeps_over items head
keeps (WantFilterOpen items a w) = keeps_filter_open items a w
keeps (WantFilterWhere items a w open') = keeps_filter_where items a w open'
keeps (WantOverOpen items head w) = keeps_over_open items head w
keeps (WantPart items head w open') = keeps_part items head w open'
keeps (WantPartBy items head w open' p) = keeps_part_by items head w open' p
keeps (InOver items head w open' p r) = keeps_in_over items head w open' p r
keeps (WantOverAs items o) = keeps_over_as items o
keeps (WantItemName items u) = keeps_item_name items u
keeps (HaveItem items) = keeps_have_item items
keeps (WantFrom at) = keeps_from at
keeps (WantSource head) = keeps_source head
keeps (HaveSource pick source window) = keeps_have_source pick source window
keeps (HaveEachSource at var source) = keeps_each_source at var source
keeps (WantSize head source) = keeps_size head source
keeps (WantSizeNumber head source at) = keeps_size_number head source at
keeps (WantAdvance head source at size) = keeps_advance head source at size
keeps (WantAdvanceNumber head source at size) = keeps_advance_number head source at size
keeps (WantMeasure head source at size advance) = keeps_measure head source at size advance
keeps (WantWindowClose head source w) = keeps_window_close head source w
keeps (WantBy pick source window filter) = keeps_by pick source window filter
keeps (WantKey head at) = keeps_key head at
keeps (WantGroups head at key) = keeps_groups head at key
keeps (WantGroupsNumber head at key) = keeps_groups_number head at key
keeps (WantArrival l at by') = keeps_arrival l at by'
keeps (WantJoinBy join right) = keeps_join_by join right
keeps (WantVar at) = keeps_var at
keeps (WantIn at var) = keeps_in at var
keeps (WantBody head) = keeps_body head
keeps (HaveTerm q) = keeps_have_term q
keeps (WantName q) = keeps_want_name q
keeps (HaveName q name) = keeps_have_name q name
keeps (WantEnd q name) = keeps_end q name

pub sound_step : (s s' : State) (t : Token) (done : List Token) → Read s done → step s t ≡ Some s' → Read s' (done ++ t ∷ [])
unfolding step
sound_step s s' t done r e = subst (λ (x : List Token). Read s' (x ++ t ∷ [])) r.text (keeps s.control s.frames t s' r.fits r.holds e)

pub sound_steps : (ts : List Token) (s s' : State) (done : List Token) → Read s done → steps s ts ≡ Some s' → Read s' (done ++ ts)
unfolding steps
sound_steps [] s s' done r e = subst (λ (x : List Token). Read s' x) (sym (append-nil done)) (subst (λ (y : State). Read y done) (some_same s s' e) r)
sound_steps (t ∷ ts) s s' done r e =
    let g = then_some (λ x. steps x ts) (step s t) s' e in
    subst (λ (x : List Token). Read s' x) (append_assoc done (t ∷ []) ts) (sound_steps ts g.0 s' (done ++ t ∷ []) (sound_step s g.0 t done r g.1) g.2)

pub read_start : Read start []
read_start = record { text = refl; fits = tt; holds = tt }

some_statement : (x w : Statement) → Some x ≡ Some w → x ≡ w
some_statement x w e = cc

ended_at : (c : Control) (fs : List Frame) (done : List Token) (w : Statement) → before fs ++ control_text c ≡ done → Holds c fs → finish_at c ≡ Some w → Derives done w
ended_at (HaveName q name) fs done w text h e = subst (λ (x : Statement). Derives done x) (some_statement _ w e) (record { grammar = h.1; spelled = ap (λ (x : List Frame). before x ++ control_text (HaveName q name)) (sym h.0) ∙ text })
ended_at (WantEnd q name) fs done w text h e = subst (λ (x : Statement). Derives done x) (some_statement _ w e) (record { grammar = h.1; spelled = ap (λ (x : List Frame). before x ++ control_text (WantEnd q name)) (sym h.0) ∙ text })
ended_at c fs done w text h e = absurd cc

-- where the reader may end, a statement was read
pub sound_finish : (s : State) (done : List Token) (w : Statement) → Read s done → finish s ≡ Some w → Derives done w
unfolding finish
sound_finish s done w r e = ended_at s.control s.frames done w r.text r.holds e

pub derives : (ts : List Token) (s : State) (w : Statement) → steps start ts ≡ Some s → finish s ≡ Some w → Derives ts w
derives ts s w e f = sound_finish s ts w (sound_steps ts start s [] read_start e) f
