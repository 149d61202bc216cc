-- Columns made of a wire's columns, under its lines.
use Rattle.std.proofs.Common.{◌≡◌, ℕ, zero, suc, List, Some, None, Bool, true, false, refl, sym, ap, ◌∙◌}
use Rattle.std.specs.Prelude.{if◌then◌else◌, nat_eq, option_and_then, slice_get, slice_index, ◌&&◌}
use Rattle.gl_values.specs.Results.{Row}
use Rattle.gl_net.specs.declared.node.Bus.{Bus}
use Rattle.gl_net.specs.declared.node.Bit.{Bit}
use Rattle.gl_net.specs.Net.{Run}
use Rattle.gl_wire.specs.declared.wire.Wire.{Wire}
use Rattle.gl_wire.specs.Shapes.{IsDelayed, Steady, keep_where, stepped}
use Rattle.gl_wire.specs.Wire.{carried, line_at, row_at, tuple_at, wire_of}
use Rattle.gl_wire.proofs.ColumnLemmas.{row_at-value}
use Rattle.gl_wire.proofs.StageLemmas.{delayed_none, delayed_same, line_first, tuple_by}

changed : (f : Row → Row) (v : Bool) (r q : Row) → q ≡ f r → (if v then Some q else None) ≡ option_and_then (λ row. Some (f row)) (if v then Some r else None)
changed f true r q e = ap Some e
changed f false r q e = refl

module _ (run : Run) (a : Wire) (columns : List Bus) (f : Row → Row) (row : (t : ℕ) → row_at run t columns ≡ f (row_at run t a.columns)) where
  changed_tuple : (c : ℕ) → tuple_at run a.valid columns c ≡ option_and_then (λ r. Some (f r)) (tuple_at run a.valid a.columns c)
  changed_tuple c =
      tuple_by run a.valid columns c ∙ changed f (line_at run a.valid c) (row_at run c a.columns) (row_at run c columns) (row c)
      ∙ sym (ap (option_and_then (λ r. Some (f r))) (tuple_by run a.valid a.columns c))

  -- each row changed, at once
  pub changed_now : Steady 0 (λ r. Some (f r)) (carried run a) (carried run (wire_of a.valid a.eos columns))
  changed_now = delayed_same 0 (carried run (wire_of a.valid a.eos columns)) (stepped (λ r. Some (f r)) (carried run a)) (carried run (wire_of a.valid a.eos columns))
      changed_tuple (λ c. refl) (delayed_none (carried run (wire_of a.valid a.eos columns)))

  -- or behind a stage
  pub changed_later : (w : Wire) → IsDelayed 1 (carried run (wire_of a.valid a.eos columns)) (carried run w) → Steady 1 (λ r. Some (f r)) (carried run a) (carried run w)
  changed_later w d = delayed_same 1 (carried run (wire_of a.valid a.eos columns)) (stepped (λ r. Some (f r)) (carried run a)) (carried run w) changed_tuple (λ c. refl) d

-- a row is kept where both its line and its column are 1
kept_where : (k : ℕ) (r : Row) (v y : Bool) → nat_eq (slice_index r k) 1 ≡ y → (if v && y then Some r else None) ≡ option_and_then (keep_where k) (if v then Some r else None)
kept_where k r true true e = rw e refl
kept_where k r true false e = rw e refl
kept_where k r false y e = refl

module _ (run : Run) (a : Wire) (keep test : Bit) (bus : Bus) (k : ℕ) (has : slice_get a.columns k ≡ Some bus) (same : test.node ≡ bus.node) (is : (t : ℕ) → line_at run keep t ≡ (line_at run a.valid t && line_at run test t)) where
  column_is : (c : ℕ) → nat_eq (slice_index (row_at run (suc c) a.columns) k) 1 ≡ line_at run test (suc c)
  unfolding line_at
  column_is c = ap (λ x. nat_eq x 1) (row_at-value run (suc c) a.columns k bus has ∙ ap (run.at (suc c)) (sym same))

  select_tuple : (c : ℕ) → tuple_at run keep a.columns c ≡ option_and_then (keep_where k) (tuple_at run a.valid a.columns c)
  unfolding tuple_at
  select_tuple zero = rw (line_first run keep, line_first run a.valid) refl
  select_tuple (suc c) = rw (is (suc c)) (kept_where k (row_at run (suc c) a.columns) (line_at run a.valid (suc c)) (line_at run test (suc c)) (column_is c))

  pub select_steady : (w : Wire) → IsDelayed 1 (carried run (wire_of keep a.eos a.columns)) (carried run w) → Steady 1 (keep_where k) (carried run a) (carried run w)
  select_steady w d = delayed_same 1 (carried run (wire_of keep a.eos a.columns)) (stepped (keep_where k) (carried run a)) (carried run w) select_tuple (λ c. refl) d
