-- Bytes taken one piece after the other.
use Rattle.std.proofs.Common.{◌≡◌, ℕ, ◌+◌, ◌≤◌, List, [], ◌++◌, length, take, drop, Option, Some, None, Result, Ok, Err, refl, sym, ap, subst, ◌∙◌, append_assoc, take-add}
use Rattle.std.proofs.lemmas.List.{append-nil, take-append-drop, take_all}
use Rattle.gl_outside.specs.Counts.{Rose}
use Rattle.gl_outside.specs.States.{SinkState, Appends, AppendsFront, Took, Broke, Wrote}

pub appends_none : (a : Option (List ℕ)) → Appends a a []
appends_none None = tt
appends_none (Some x) = ap Some (sym (append-nil x))

pub appends_then : (a b c : Option (List ℕ)) (x y : List ℕ) → Appends a b x → Appends b c y → Appends a c (x ++ y)
appends_then None b c x y p q = tt
appends_then (Some o) b c x y p q = let q' = subst (λ t. Appends t c y) p q in q' ∙ ap Some (append_assoc o x y)

-- nothing yet
pub took_none : (a : SinkState) → Took a a []
took_none a = record { all = appends_none a.taken; calm = refl }

pub took_same : (a b : SinkState) (x y : List ℕ) → x ≡ y → Took a b x → Took a b y
took_same a b x y e p = subst (Took a b) e p

-- one behind the other
pub took_then : (a b c : SinkState) (x y : List ℕ) → Took a b x → Took b c y → Took a c (x ++ y)
took_then a b c x y p q = record { all = appends_then a.taken b.taken c.taken x y p.all q.all; calm = q.calm ∙ p.calm }

pub took_more : (a b c : SinkState) (bytes piece : List ℕ) (at n : ℕ) → Took a b (take at bytes) → piece ≡ drop at bytes → Took b c (take n piece) → Took a c (take (at + n) bytes)
took_more a b c bytes piece at n p e q = took_same a c _ _ (sym (take-add at n bytes)) (took_then a b c (take at bytes) (take n (drop at bytes)) p (rw e at q))

pub took_all : (a b : SinkState) (bytes : List ℕ) (at : ℕ) → length bytes ≤ at → Took a b (take at bytes) → Took a b bytes
took_all a b bytes at le p = took_same a b _ _ (take_all at bytes le) p

pub front_is : (a b : Option (List ℕ)) (bytes : List ℕ) (k : ℕ) → Appends a b (take k bytes) → AppendsFront a b bytes
front_is a b bytes k p = record { front = take k bytes; back = drop k bytes; parts = sym (take-append-drop k bytes); taken = p }

-- a front of more
pub front_more : (a b : Option (List ℕ)) (x y : List ℕ) → AppendsFront a b x → AppendsFront a b (x ++ y)
front_more a b x y f = record { front = f.front; back = f.back ++ y; parts = ap (λ (t : List ℕ). t ++ y) f.parts ∙ append_assoc f.front f.back y; taken = f.taken }

-- all of the first, and a front of the second
pub front_then : (a b c : Option (List ℕ)) (x y : List ℕ) → Appends a b x → AppendsFront b c y → AppendsFront a c (x ++ y)
front_then a b c x y p f = record { front = x ++ f.front; back = f.back; parts = ap (λ (t : List ℕ). x ++ t) f.parts ∙ sym (append_assoc x f.front f.back); taken = appends_then a b c x f.front p f.taken }

-- a failure behind a front
pub broke_here : (a b c : SinkState) (bytes : List ℕ) (at : ℕ) → Took a b (take at bytes) → Appends b.taken c.taken [] → Rose b.faults c.faults → Broke a c bytes
broke_here a b c bytes at p q rose = record {
  front = front_is a.taken c.taken bytes at (subst (Appends a.taken c.taken) (append-nil (take at bytes)) (appends_then a.taken b.taken c.taken (take at bytes) [] p.all q));
  cause = subst (λ (n : ℕ). Rose n c.faults) p.calm rose;
}

pub broke_more : (a b : SinkState) (x y : List ℕ) → Broke a b x → Broke a b (x ++ y)
broke_more a b x y f = record { front = front_more a.taken b.taken x y f.front; cause = f.cause }

pub broke_then : (a b c : SinkState) (x y : List ℕ) → Took a b x → Broke b c y → Broke a c (x ++ y)
broke_then a b c x y p f = record { front = front_then a.taken b.taken c.taken x y p.all f.front; cause = subst (λ (n : ℕ). Rose n c.faults) p.calm f.cause }

pub wrote_same : {E : Type 0} (a b : SinkState) (x y : List ℕ) (r : Result (Unit {0}) E) → x ≡ y → Wrote a b x r → Wrote a b y r
wrote_same a b x y r e p = subst (λ (z : List ℕ). Wrote a b z r) e p

-- all of the first, and then what was written of the second
pub wrote_then : {E : Type 0} (a b c : SinkState) (x y : List ℕ) (r : Result (Unit {0}) E) → Took a b x → Wrote b c y r → Wrote a c (x ++ y) r
wrote_then a b c x y (Ok u) p q = took_then a b c x y p q
wrote_then a b c x y (Err e) p q = broke_then a b c x y p q

pub ruleset pieces = (broke_more, broke_then, took_then)
