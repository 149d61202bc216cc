-- An as-of join puts no row behind one at a later place.
use Rattle.std.proofs.Common.{List, [], Option, sym, subst}
use Rattle.std.specs.Prelude.{option_and_then}
use Rattle.gl_frames.specs.Frames.{by_key}
use Rattle.gl_arrival.specs.Places.{NeverFall, Placed}
use Rattle.gl_arrival.specs.Changes.{mapped_at}
use Rattle.gl_arrival.proofs.ChangeLemmas.{each_never_falls, mapped_never_falls}
use Rattle.gl_arrival.proofs.OrderLemmas.{never_falls}
use Rattle.gl_asof.specs.AsOf.{JoinBy, OfEither, as_of, both_sides, joined, key_of_either, of_left, of_right}
use Rattle.gl_asof.proofs.EachLemmas.{each_stepped}

pub as_of_never_falls : {A B C : Type 0} (by : JoinBy A B C) (xs : List (Placed A)) (ys : List (Placed B)) → NeverFall xs → NeverFall ys
    → NeverFall (as_of by xs ys)
as_of_never_falls {A = A} {B = B} {C = C} by xs ys h k =
    let zs : List (Placed (OfEither A B)) = both_sides xs ys in
    let left : List (Placed (OfEither A B)) = mapped_at of_left xs in
    let right : List (Placed (OfEither A B)) = mapped_at of_right ys in
    let both : NeverFall zs = never_falls right left (mapped_never_falls of_right ys k) (mapped_never_falls of_left xs h) in
    let made : List (OfEither A B) → Option C = λ l. option_and_then (λ (p : Option C). p) (by_key by.groups (key_of_either by) (joined by) l) in
    subst (λ (l : List (Placed C)). NeverFall l) (sym (each_stepped (λ (p : Option C). p) (by_key by.groups (key_of_either by) (joined by)) [] zs))
    (each_never_falls made [] zs both)
