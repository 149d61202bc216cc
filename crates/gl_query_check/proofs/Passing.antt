-- One rule behind another: the first fault of both.
use Rattle.std.proofs.Common.{◌≡◌, List, Option, Some, None, Result, Ok, Err, refl, inl, inr}
use Rattle.gl_schema.specs.declared.schema.Column.{Column}
use Rattle.gl_query.specs.declared.fault.QueryFault.{QueryFault}
use Rattle.gl_query.specs.Faults.{or_else}
use Rattle.gl_query_check.specs.Answers.{Answers, IsOr}

-- a fault comes first
pub comes_first : (a b : Option QueryFault) (e : QueryFault) → a ≡ Some e → or_else a b ≡ Some e
comes_first a b e h = rw h refl

pub is_first : (a b : Option QueryFault) (e : QueryFault) → IsOr a e → IsOr (or_else a b) e
is_first a b e (inl h) = inl (comes_first a b e h)
is_first a b e (inr h) = inr h

-- where there is none, what is behind comes
pub comes_behind : (a b : Option QueryFault) (e : QueryFault) → a ≡ None → b ≡ Some e → or_else a b ≡ Some e
comes_behind a b e n h = rw n h

pub is_behind : (a b : Option QueryFault) (e : QueryFault) → a ≡ None → IsOr b e → IsOr (or_else a b) e
is_behind a b e n h = rw n h

pub none_comes : (a b : Option QueryFault) → a ≡ None → b ≡ None → or_else a b ≡ None
none_comes a b n m = rw n m

pub answers_behind : (a b : Option QueryFault) (columns : List Column) (r : Result (List Column) QueryFault) → a ≡ None → Answers b columns r → Answers (or_else a b) columns r
answers_behind a b columns (Ok c) n h = (none_comes a b n h.0, h.1)
answers_behind a b columns (Err e) n h = is_behind a b e n h

pub ruleset passing = (comes_first, is_first, comes_behind, is_behind, none_comes, answers_behind)
