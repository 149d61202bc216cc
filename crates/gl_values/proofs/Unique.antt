-- Sets of results that have one at most, and what is made of these.
use Rattle.std.proofs.Common.{List, [], ◌∷◌, ◌++◌, Bool, ◌||◌, sym, ap, subst, ◌∙◌}
use Rattle.gl_values.specs.Results.{Row, Results, AreSame, IsInput, IsChanged, AreJoined, IsOfParts, IsOfBoth, AreBeside, beside}

-- a set of results that has one at most
abbrev pub HasOne : Results → Type 0
HasOne results = (out out' : List Row) (spill spill' : Bool) → results out spill → results out' spill' → AreSame out out' spill spill'

pub one_input : (rows : List Row) → HasOne (IsInput rows)
one_input rows out out' spill spill' a b = record { rows = a.rows ∙ sym b.rows; spills = a.kept ∙ sym b.kept }

pub one_changed : (source : Results) (change : List Row → List Row) → HasOne source → HasOne (IsChanged source change)
one_changed source change one out out' spill spill' a b =
    let same = one a.rows b.rows spill spill' a.of_source b.of_source in
    record { rows = a.changed ∙ ap change same.rows ∙ sym b.changed; spills = same.spills }

one_joined : {Part : Type 0} (of_part : Part → Results) → ((part : Part) → HasOne (of_part part)) → (parts : List Part) → HasOne (AreJoined of_part parts)
one_joined of_part one [] out out' spill spill' (e, s) (e', s') = record { rows = e ∙ sym e'; spills = s ∙ sym s' }
one_joined of_part one (part ∷ parts) out out' spill spill' (first, later, p, q, here, rest, e, s) (first', later', p', q', here', rest', e', s') =
    let a = one part first first' p p' here here' in
    let b = one_joined of_part one parts later later' q q' rest rest' in
    record {
      rows = e ∙ ap (λ l. l ++ later) a.rows ∙ ap (λ l. first' ++ l) b.rows ∙ sym e';
      spills = s ∙ ap (λ x. x || q) a.spills ∙ ap (λ x. p' || x) b.spills ∙ sym s';
    }

pub one_of_parts : {Part : Type 0} (source : Results) (parts : List Row → List Part) (of_part : Part → Results) (further : List Row → Bool)
    → HasOne source → ((part : Part) → HasOne (of_part part)) → HasOne (IsOfParts source parts of_part further)
one_of_parts source parts of_part further one each out out' spill spill' a b =
    let s = one a.rows b.rows a.source_spill b.source_spill a.of_source b.of_source in
    let moved = subst (λ rows. AreJoined of_part (parts rows) out a.parts_spill) s.rows a.of_parts in
    let j = one_joined of_part each (parts b.rows) out out' a.parts_spill b.parts_spill moved b.of_parts in
    record {
      rows = j.rows;
      spills =
          a.any ∙ ap (λ x. x || a.parts_spill || further a.rows) s.spills ∙ ap (λ x. b.source_spill || x || further a.rows) j.spills
          ∙ ap (λ r. b.source_spill || b.parts_spill || further r) s.rows ∙ sym b.any;
    }

pub one_of_both : (left right : Results) → HasOne left → HasOne right → HasOne (IsOfBoth left right AreBeside)
one_of_both left right one other out out' spill spill' a b =
    let l = one a.left b.left a.left_spill b.left_spill a.of_left b.of_left in
    let r = other a.right b.right a.right_spill b.right_spill a.of_right b.of_right in
    record {
      rows = a.join.rows ∙ ap (λ rows. beside rows a.right) l.rows ∙ ap (λ rows. beside b.left rows) r.rows ∙ sym b.join.rows;
      spills = a.either ∙ ap (λ x. x || a.right_spill) l.spills ∙ ap (λ x. b.left_spill || x) r.spills ∙ sym b.either;
    }
