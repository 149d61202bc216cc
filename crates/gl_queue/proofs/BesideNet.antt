-- The columns of two wires under the lines of the left one carry rows side by side.
use Rattle.std.proofs.Common.{◌≡◌, ℕ, ◌+◌, ◌++◌, Some, None, Bool, true, false, refl, sym, ap, ◌∙◌, arith}
use Rattle.std.specs.Prelude.{if◌then◌else◌, is_some}
use Rattle.gl_bits.proofs.Options.{some_same}
use Rattle.gl_values.specs.Results.{Row}
use Rattle.gl_net.specs.Net.{Run}
use Rattle.gl_wire.specs.declared.wire.Wire.{Wire}
use Rattle.gl_wire.specs.Pace.{Follows}
use Rattle.gl_wire.specs.Wire.{carried, line_at, row_at, tuple_at, wire_of}
use Rattle.gl_wire.proofs.ColumnLemmas.{row_at-append}
use Rattle.gl_wire.proofs.StageLemmas.{tuple_by}
use Rattle.gl_queue.specs.Joining.{IsBeside}

-- both lines are 1 where both rows are there
pair_of : (x y : Bool) (v w r q : Row) → (if x then Some v else None) ≡ Some r → (if y then Some w else None) ≡ Some q → (if x then Some (v ++ w) else None) ≡ Some (r ++ q)
pair_of true true v w r q h k = let e : v ≡ r = some_same v r h in let d : w ≡ q = some_same w q k in rw (e, d) refl
pair_of true false v w r q h k = absurd (cc)
pair_of false y v w r q h k = absurd (cc)

none_of : (x : Bool) (v w : Row) → (if x then Some v else None) ≡ None → (if x then Some (v ++ w) else None) ≡ None
none_of true v w h = absurd (cc)
none_of false v w h = refl

same_some : (x : Bool) (v w : Row) → is_some (if x then Some v else None) ≡ is_some (if x then Some w else None)
same_some true v w = refl
same_some false v w = refl

module _ (run : Run) (a b : Wire) where
  abbrev pub out : Wire
  out = wire_of a.valid a.eos (a.columns ++ b.columns)

  out_tuple : (c : ℕ) → tuple_at run a.valid (a.columns ++ b.columns) c ≡ (if line_at run a.valid c then Some (row_at run c a.columns ++ row_at run c b.columns) else None)
  out_tuple c = tuple_by run a.valid (a.columns ++ b.columns) c ∙ ap (λ (r : Row). if line_at run a.valid c then Some r else None) (row_at-append run c a.columns b.columns)

  pub is_beside : IsBeside (carried run a) (carried run b) (carried run out)
  is_beside = record {
    both = λ c r q h k. out_tuple c ∙ pair_of (line_at run a.valid c) (line_at run b.valid c) (row_at run c a.columns) (row_at run c b.columns) r q (sym (tuple_by run a.valid a.columns c) ∙ h) (sym (tuple_by run b.valid b.columns c) ∙ k);
    none = λ c h. out_tuple c ∙ none_of (line_at run a.valid c) (row_at run c a.columns) (row_at run c b.columns) (sym (tuple_by run a.valid a.columns c) ∙ h);
    ends = λ c. refl;
  }

  pub follows : Follows 0 (carried run a) (carried run out)
  follows = record {
    before = λ c l. absurd (omega (arith, l));
    no_end = λ c l. absurd (omega (arith, l));
    tuples = λ c. let e : c + 0 ≡ c = omega arith in
        ap (λ (i : ℕ). is_some (tuple_at run a.valid (a.columns ++ b.columns) i)) e ∙ ap is_some (out_tuple c)
        ∙ same_some (line_at run a.valid c) (row_at run c a.columns ++ row_at run c b.columns) (row_at run c a.columns) ∙ sym (ap is_some (tuple_by run a.valid a.columns c));
    ends = λ c. let e : c + 0 ≡ c = omega arith in ap (line_at run a.eos) e;
  }
