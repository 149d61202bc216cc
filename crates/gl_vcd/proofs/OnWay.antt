-- Pieces of a whole, put one behind the other.
use Rattle.std.proofs.Common.{◌≡◌, List, [], ◌++◌, ℕ, Result, refl, sym, ap, subst, ◌∙◌, append_assoc}
use Rattle.std.proofs.lemmas.List.{append-nil}
use Rattle.gl_outside.specs.States.{SinkState, Took, Broke, Wrote}
use Rattle.gl_outside.proofs.Takes.{took_none, took_same, took_then, broke_more, broke_then, wrote_same, wrote_then}

-- a front of the whole was taken, and this is left
pub record IsOnWay (a b : SinkState) (left whole : List ℕ) : Type 0 where
  pub front : List ℕ
  pub took : Took a b front
  pub parts : front ++ left ≡ whole

pub way_first : (a : SinkState) (whole : List ℕ) → IsOnWay a a whole whole
way_first a whole = record { front = []; took = took_none a; parts = refl }

pub way_next : (a b c : SinkState) (left piece rest whole : List ℕ) → left ≡ piece ++ rest → IsOnWay a b left whole → Took b c piece → IsOnWay a c rest whole
way_next a b c left piece rest whole e w took = record {
  front = w.front ++ piece;
  took = took_then a b c w.front piece w.took took;
  parts = append_assoc w.front piece rest ∙ ap (λ (x : List ℕ). w.front ++ x) (sym e) ∙ w.parts;
}

pub way_cut : (a b c : SinkState) (left piece rest whole : List ℕ) → left ≡ piece ++ rest → IsOnWay a b left whole → Broke b c piece → Broke a c whole
way_cut a b c left piece rest whole e w broke =
    subst (Broke a c) (ap (λ (x : List ℕ). w.front ++ x) (sym e) ∙ w.parts)
    (broke_then a b c w.front (piece ++ rest) w.took (broke_more b c piece rest broke))

pub way_same : (a b : SinkState) (left rest whole : List ℕ) → left ≡ rest → IsOnWay a b left whole → IsOnWay a b rest whole
way_same a b left rest whole e w = subst (λ (x : List ℕ). IsOnWay a b x whole) e w

pub way_done : (a b : SinkState) (left whole : List ℕ) → left ≡ [] → IsOnWay a b left whole → Took a b whole
way_done a b left whole e w =
    took_same a b w.front whole (sym (append-nil w.front) ∙ ap (λ (x : List ℕ). w.front ++ x) (sym e) ∙ w.parts) w.took

pub way_last : {E : Type 0} (a b c : SinkState) (left whole : List ℕ) (r : Result (Unit {0}) E) → IsOnWay a b left whole → Wrote b c left r → Wrote a c whole r
way_last a b c left whole r w wrote =
    wrote_same a c (w.front ++ left) whole r w.parts (wrote_then a b c w.front left r w.took wrote)
