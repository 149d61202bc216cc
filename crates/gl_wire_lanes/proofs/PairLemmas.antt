-- Two states that are kept for the same slots are one that is kept.
use Rattle.std.proofs.Common.{◌≡◌, suc, Bool, true, false, refl, ap, ◌∙◌}
use Rattle.std.specs.Prelude.{◌&&◌, if◌then◌else◌, nat_eq}
use Rattle.gl_wire_lanes.specs.Keeping.{writes}
use Rattle.gl_wire_lanes.specs.Laws.{BothAreKept}

module _ {A C : Type 0} where
  abbrev pub pair : A → C → A × C
  pair y z = (y, z)

  pub pair_same : (y u : A) (z v : C) → y ≡ u → z ≡ v → pair y z ≡ pair u v
  pair_same y u z v d e = ap (λ n. pair n z) d ∙ ap (pair u) e

  pub pair_chosen : (b : Bool) (y u : A) (z v : C) → pair (if b then y else u) (if b then z else v) ≡ (if b then pair y z else pair u v)
  pair_chosen true y u z v = refl
  pair_chosen false y u z v = refl

pub both_kept : {A C : Type 0} → BothAreKept A C
both_kept a x l before now second later p q = record {
  word = λ c k. pair (p.word c k) (q.word c k);
  begins = λ c e. pair_same _ _ _ _ (p.begins c e) (q.begins c e);
  takes = λ c e. pair_same _ _ _ _ (p.takes c e) (q.takes c e);
  leaves = λ c k.
      let b = nat_eq (l.slot (suc c)) k && writes l (suc c) in
      pair_same (p.word (suc (suc c)) k) (if b then now (suc c) else p.word (suc c) k) (q.word (suc (suc c)) k) (if b then later (suc c) else q.word (suc c) k) (p.leaves c k) (q.leaves c k)
      ∙ pair_chosen b (now (suc c)) (p.word (suc c) k) (later (suc c)) (q.word (suc c) k);
}
