-- The wire of a stream's ports brings what beats put on the ports.
use Rattle.std.proofs.Common.{◌≡◌, ℕ, zero, suc, Bool, true, false, List, [], ◌∷◌, Option, Some, None, refl, sym, ap, subst, ◌∙◌}
use Rattle.std.specs.Prelude.{map, unwrap_or, is_some, nat_eq, slice_get, find}
use Rattle.std.specs.List.{AllByRecursion, cons_option}
use Rattle.gl_bits.proofs.AllLists.{all_front, all_back}
use Rattle.gl_bits.proofs.Options.{some_same}
use Rattle.gl_bits.specs.Words.{bit}
use Rattle.gl_net.specs.Net.{Net, Run}
use Rattle.gl_net.specs.PortValues.{input_values}
use Rattle.gl_net.specs.declared.node.Bit.{Bit}
use Rattle.gl_net.specs.declared.node.Bus.{Bus}
use Rattle.gl_schema.specs.Beats.{Beat, Beats, AreBeats, AreRowsOf, IsBeat, beat_at, ends_at, input_of, row_in, rows_at, ticks_at}
use Rattle.gl_schema.specs.Ports.{Pin, pin, column_pins, stream_pins, streams_pins, parameter_pins, IsStimulus, eos, tick, in_valid, in_column}
use Rattle.gl_schema.specs.Schemas.{IsRowOf}
use Rattle.gl_schema.specs.declared.schema.Column.{Column}
use Rattle.gl_schema.specs.declared.schema.Schema.{Schema}
use Rattle.gl_schema.specs.declared.schema.Stream.{Stream}
use Rattle.gl_wire.specs.Wire as wire
use Rattle.gl_wire.specs.Wire.{carried, line_at, tuple_at}
use Rattle.gl_wire.specs.declared.wire.Wire.{Wire}
use Rattle.gl_wire.proofs.StageLemmas.{line_first, tuple_by}
use Rattle.gl_wire.specs.Faults.{line_of}
use Rattle.gl_wiring.specs.Bringing.{Brings, BringsTicks, row_at}
use Rattle.gl_wiring.specs.Emitted.{AreInputs}
use Rattle.gl_wiring.specs.StreamWires.{IsStreamWire, IsTickLine}
use Rattle.gl_wiring.proofs.Following as ports
use Rattle.gl_wiring.proofs.Following.{Carries, bit_high, row_of-beat, stream_at}
use Rattle.gl_wiring.proofs.Outputs.{AreApart, has_input, input_is}

-- the columns carry the row that is on their pins
columns_carry : (net : Net) (run : Run) (t : ℕ) (s : List ℕ) (cs : List Column) (bs : List Bus) (row : List ℕ) → AreApart net
    → AreInputs net s cs bs → IsRowOf cs row → AllByRecursion (Carries (input_values net run) t) (column_pins s cs row)
    → map (λ (b : Bus). run.at t b.node) bs ≡ row
columns_carry net run t s [] [] [] apart h is pins = refl
columns_carry net run t s [] [] (n ∷ ns) apart h is pins = absurd is
columns_carry net run t s [] (b ∷ bs) row apart h is pins = absurd h
columns_carry net run t s (c ∷ cs) [] row apart h is pins = absurd h
columns_carry net run t s (c ∷ cs) (b ∷ bs) [] apart h is pins = absurd is
columns_carry net run t s (c ∷ cs) (b ∷ bs) (n ∷ ns) apart h is pins =
    let name = in_column s c.name in
    let here : run.at t b.node ≡ n =
    sym (input_is net run t name b.node apart h.0.0)
    ∙ ports.carried (input_values net run) t name n (has_input net run name b.node apart h.0.0) pins.0 in
    rw (here, columns_carry net run t s cs bs ns apart h.1 is.1 pins.1) refl

-- ---- rows of beats

-- what holds of all holds of what is found
found : {A : Type 0} (P : A → Type 0) (test : A → Bool) (xs : List A) (x : A) → AllByRecursion P xs → find test xs ≡ Some x → P x
found P test [] x all h = absurd cc
found {A} P test (y ∷ ys) x all h = by (test y) refl (found P test ys x all.1)
  where
    by : (b : Bool) → test y ≡ b → (find test ys ≡ Some x → P x) → P x
    by true e rest = let same : y ≡ x = some_same y x (rw e at h) in subst P same all.0
    by false e rest = rest (rw e at h)

-- the row of stream k in a beat is a row of it
row_of : (ss : List Stream) (rows : List (Option (List ℕ))) (k : ℕ) (s : Stream) (row : List ℕ) → AreRowsOf ss rows
    → slice_get ss k ≡ Some s → unwrap_or (slice_get rows k) None ≡ Some row → IsRowOf s.columns row
row_of [] rows k s row are there at = absurd cc
row_of (x ∷ ss) [] k s row are there at = absurd are
row_of (x ∷ ss) (r ∷ rows) zero s row are there at =
    subst (λ (y : Stream). IsRowOf y.columns row) (some_same x s there) (rw at at are.0)
row_of (x ∷ ss) (r ∷ rows) (suc k) s row are there at = row_of ss rows k s row are.1 there at

no_row : (ss : List Stream) (rows : List (Option (List ℕ))) (k : ℕ) → AreRowsOf ss rows → slice_get ss k ≡ None
    → unwrap_or (slice_get rows k) None ≡ None
no_row [] [] k are none = refl
no_row [] (r ∷ rows) k are none = absurd are
no_row (x ∷ ss) [] k are none = absurd are
no_row (x ∷ ss) (r ∷ rows) zero are none = absurd cc
no_row (x ∷ ss) (r ∷ rows) (suc k) are none = no_row ss rows k are.1 none

-- a stream that the schema lacks brings nothing
pub no_input : (schema : Schema) (beats : List Beat) (k : ℕ) → AllByRecursion (IsBeat schema) beats
    → slice_get schema.streams k ≡ None → input_of k beats ≡ []
no_input schema [] k all none = refl
no_input schema (b ∷ beats) k all none =
    let here : row_in k b ≡ None = no_row schema.streams b.rows k all.0.rows none in
    ap (λ (o : Option (List ℕ)). cons_option o (input_of k beats)) here ∙ no_input schema beats k all.1 none

-- ---- the wire of a stream

module _ (schema : Schema) (k : ℕ) (s : Stream) (there : slice_get schema.streams k ≡ Some s) (beats : Beats) (are : AreBeats schema beats)
    (net : Net) (run : Run) (apart : AreApart net) (w : Wire) (h : IsStreamWire net s w) (stimulus : IsStimulus schema beats (input_values net run)) where
  stream_pins_of : (n : ℕ) → AllByRecursion (Carries (input_values net run) (suc n)) (stream_pins s (row_at k beats.list n))
  stream_pins_of n =
      let all = (stimulus.carries (suc n)).1 in
      let P : Pin → Type 0 = Carries (input_values net run) (suc n) in
      let streams = all_front P (streams_pins schema.streams (rows_at beats.list n)) (pin eos (bit (ends_at beats.list n)) ∷ pin tick (bit (ticks_at beats.list n)) ∷ parameter_pins schema.parameters beats.sets) all in
      subst (λ row. AllByRecursion P (stream_pins s row)) (row_of-beat k beats.list n) (stream_at P schema.streams (rows_at beats.list n) k s there streams)

  valid_line : (n : ℕ) → line_at run w.valid (suc n) ≡ is_some (row_at k beats.list n)
  unfolding line_at
  valid_line n =
      let name = in_valid s.name in
      let here : run.at (suc n) w.valid.node ≡ bit (is_some (row_at k beats.list n)) =
      sym (input_is net run (suc n) name w.valid.node apart h.valid_port)
      ∙ ports.carried (input_values net run) (suc n) name _ (has_input net run name w.valid.node apart h.valid_port) (stream_pins_of n).0 in
      ap (λ (v : ℕ). nat_eq v 1) here ∙ bit_high (is_some (row_at k beats.list n))

  end_line : (n : ℕ) → line_at run w.eos (suc n) ≡ ends_at beats.list n
  unfolding line_at
  end_line n =
      let P : Pin → Type 0 = Carries (input_values net run) (suc n) in
      let all = (stimulus.carries (suc n)).1 in
      let own = (all_back P (streams_pins schema.streams (rows_at beats.list n)) (pin eos (bit (ends_at beats.list n)) ∷ pin tick (bit (ticks_at beats.list n)) ∷ parameter_pins schema.parameters beats.sets) all).0 in
      let here : run.at (suc n) w.eos.node ≡ bit (ends_at beats.list n) =
      sym (input_is net run (suc n) eos w.eos.node apart h.end_port)
      ∙ ports.carried (input_values net run) (suc n) eos _ (has_input net run eos w.eos.node apart h.end_port) own in
      ap (λ (v : ℕ). nat_eq v 1) here ∙ bit_high (ends_at beats.list n)

  is_row : (n : ℕ) (row : List ℕ) → row_at k beats.list n ≡ Some row → IsRowOf s.columns row
  is_row n row e = by (beat_at beats.list n) refl
    where
      by : (o : Option Beat) → beat_at beats.list n ≡ o → IsRowOf s.columns row
      by None p = absurd (let z : None ≡ Some row = rw p at e in cc)
      by (Some b) p = row_of schema.streams b.rows k s row (found (IsBeat schema) _ beats.list b are.each p).rows there (rw p at e)

  tuple_is : (n : ℕ) (o : Option (List ℕ)) → row_at k beats.list n ≡ o → tuple_at run w.valid w.columns (suc n) ≡ o
  unfolding wire.row_at
  tuple_is n None e = tuple_by run w.valid w.columns (suc n) ∙ rw (valid_line n, e) refl
  tuple_is n (Some row) e =
      let P : Pin → Type 0 = Carries (input_values net run) (suc n) in
      let pins = (subst (λ (r : Option (List ℕ)). AllByRecursion P (stream_pins s r)) e (stream_pins_of n)).1 in
      let columns = columns_carry net run (suc n) s.name s.columns w.columns row apart h.columns (is_row n row e) pins in
      tuple_by run w.valid w.columns (suc n) ∙ rw (valid_line n, e, columns) refl

  pub brings : Brings k beats.list (carried run w)
  brings = record {
    first = tuple_by run w.valid w.columns 0 ∙ rw (line_first run w.valid) refl;
    no_end = line_first run w.eos;
    tuples = λ n. tuple_is n (row_at k beats.list n) refl;
    ends = end_line;
  }

-- ---- the line of ticks

module _ (schema : Schema) (beats : Beats) (net : Net) (run : Run) (apart : AreApart net) (stimulus : IsStimulus schema beats (input_values net run)) where
  tick_line : (b : Bit) → IsTickLine net true (Some b) → (n : ℕ) → line_at run b (suc n) ≡ ticks_at beats.list n
  unfolding line_at
  tick_line b is n =
      let P : Pin → Type 0 = Carries (input_values net run) (suc n) in
      let all = (stimulus.carries (suc n)).1 in
      let own = (all_back P (streams_pins schema.streams (rows_at beats.list n)) (pin eos (bit (ends_at beats.list n)) ∷ pin tick (bit (ticks_at beats.list n)) ∷ parameter_pins schema.parameters beats.sets) all).1.0 in
      let here : run.at (suc n) b.node ≡ bit (ticks_at beats.list n) =
      sym (input_is net run (suc n) tick b.node apart is.1)
      ∙ ports.carried (input_values net run) (suc n) tick _ (has_input net run tick b.node apart is.1) own in
      ap (λ (v : ℕ). nat_eq v 1) here ∙ bit_high (ticks_at beats.list n)

  pub ticks_come : (reads : Bool) (line : Option Bit) → IsTickLine net reads line → BringsTicks reads beats.list (line_of run line)
  ticks_come true None is = absurd is
  ticks_come true (Some b) is = record { first = line_first run b; ticks = λ r. tick_line b is; none = λ r. absurd (cc) }
  ticks_come false line is = rw is (record { first = refl; ticks = λ r. absurd (cc); none = λ r c. refl })
