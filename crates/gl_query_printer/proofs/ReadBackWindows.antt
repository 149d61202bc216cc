-- A canonical text is read back: windows and groups.
use Rattle.std.proofs.Common.{◌≡◌, ℕ, List, [], ◌∷◌, map, Some, refl, sym, ap, ◌∙◌}
use Rattle.gl_query.specs.declared.tree.Measure.{Measure}
use Rattle.gl_query.specs.declared.tree.Measure.TheVariants.{Tuples}
use Rattle.gl_query_tokens.specs.declared.token.Plain.TheVariants as plain
use Rattle.gl_query_tokens.specs.declared.token.Token.{Token}
use Rattle.gl_query_tokens.specs.declared.token.Token.TheVariants as token
use Rattle.gl_query_reader.specs.declared.written.RowWindow.{RowWindow}
use Rattle.gl_query_reader.specs.declared.written.Window.{Window}
use Rattle.gl_query_reader.specs.declared.written.Grouping.{Grouping}
use Rattle.gl_query_reader.specs.Written.{measure_word, spell_window, spell_row_window, spell_grouping}
use Rattle.gl_query_printer.specs.Canonical.{name_of, num_of, window_of, grouping_of}
use Rattle.gl_query_printer.proofs.Places.{placeless, first, alone}
use Rattle.gl_query_printer.proofs.ReadBack.{cons}

pub record ReadWindow (us : List Token) (measure : Measure) (size advance : ℕ) : Type 0 where
  pub window : Window
  pub spelled : spell_window window ≡ us
  pub measure_is : window.measure ≡ measure
  pub size_is : window.size.value ≡ size
  pub advance_is : window.advance.value ≡ advance

pub read_window : (measure : Measure) (size advance : ℕ) (us : List Token) → map placeless us ≡ spell_window (window_of measure size advance) → ReadWindow us measure size advance
read_window measure size advance us h =
    let end : List Token = token.Plain plain.RightSquare ∷ [] in
    let after_size : List Token = token.Plain plain.Advance ∷ token.Number (num_of advance) ∷ token.Plain (measure_word measure) ∷ end in
    let a = first us (token.Plain plain.LeftSquare) (token.Size 0 ∷ token.Number (num_of size) ∷ after_size) h in
    let b = first a.rest (token.Size 0) (token.Number (num_of size) ∷ after_size) a.rest_is in
    let s = first b.rest (token.Number (num_of size)) after_size b.rest_is in
    let c = first s.rest (token.Plain plain.Advance) (token.Number (num_of advance) ∷ token.Plain (measure_word measure) ∷ end) s.rest_is in
    let d = first c.rest (token.Number (num_of advance)) (token.Plain (measure_word measure) ∷ end) c.rest_is in
    let t = first d.rest (token.Plain (measure_word measure)) end d.rest_is in
    let k = alone t.rest (token.Plain plain.RightSquare) t.rest_is in
    record {
      window = record { at = b.at; size = record { value = size; at = s.at }; advance = record { value = advance; at = d.at }; measure = measure };
      spelled = cons (token.Plain plain.LeftSquare) us a.rest _ a.whole (cons (token.Size b.at) a.rest b.rest _ b.whole (cons (token.Number (record { value = size; at = s.at })) b.rest s.rest _ s.whole
          (cons (token.Plain plain.Advance) s.rest c.rest _ c.whole (cons (token.Number (record { value = advance; at = d.at })) c.rest d.rest _ d.whole (cons (token.Plain (measure_word measure)) d.rest t.rest _ t.whole (sym k.whole))))));
      measure_is = refl;
      size_is = refl;
      advance_is = refl;
    }

pub record ReadRowWindow (us : List Token) (size advance : ℕ) : Type 0 where
  pub window : RowWindow
  pub spelled : spell_row_window (Some window) ≡ us
  pub size_is : window.size.value ≡ size
  pub advance_is : window.advance.value ≡ advance

pub read_row_window : (size advance : ℕ) (us : List Token) → map placeless us ≡ spell_window (window_of Tuples size advance) → ReadRowWindow us size advance
read_row_window size advance us h =
    let w = read_window Tuples size advance us h in
    let counting : Measure → Window = λ m. record { at = w.window.at; size = w.window.size; advance = w.window.advance; measure = m } in
    record {
      window = record { at = w.window.at; size = w.window.size; advance = w.window.advance };
      spelled = ap (λ (m : Measure). spell_window (counting m)) (sym w.measure_is) ∙ w.spelled;
      size_is = w.size_is;
      advance_is = w.advance_is;
    }

pub record ReadGrouping (us : List Token) (key : List ℕ) (groups : ℕ) : Type 0 where
  pub grouping : Grouping
  pub spelled : spell_grouping grouping ≡ us
  pub key_is : grouping.key.text ≡ key
  pub groups_is : grouping.groups.value ≡ groups

pub read_grouping : (key : List ℕ) (groups : ℕ) (us : List Token) → map placeless us ≡ spell_grouping (grouping_of key groups) → ReadGrouping us key groups
read_grouping key groups us h =
    let a = first us (token.By 0) (token.Name (name_of key) ∷ token.Plain plain.Groups ∷ token.Number (num_of groups) ∷ []) h in
    let b = first a.rest (token.Name (name_of key)) (token.Plain plain.Groups ∷ token.Number (num_of groups) ∷ []) a.rest_is in
    let c = first b.rest (token.Plain plain.Groups) (token.Number (num_of groups) ∷ []) b.rest_is in
    let k = alone c.rest (token.Number (num_of groups)) c.rest_is in
    record {
      grouping = record { at = a.at; key = record { text = key; at = b.at }; groups = record { value = groups; at = k.at } };
      spelled = cons (token.By a.at) us a.rest _ a.whole (cons (token.Name (record { text = key; at = b.at })) a.rest b.rest _ b.whole (cons (token.Plain plain.Groups) b.rest c.rest _ c.whole (sym k.whole)));
      key_is = refl;
      groups_is = refl;
    }
