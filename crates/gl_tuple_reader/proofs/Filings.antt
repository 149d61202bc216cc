-- Beats while records are added.
use Rattle.std.proofs.Common.{◌≡◌, ℕ, ◌+◌, Bool, true, false, cond, List, [], ◌∷◌, ◌++◌, length, Option, Some, None, Result, Ok, Err, refl, sym, ap, ◌∙◌, subst}
use Rattle.std.specs.Prelude.{IfSome, replicate, ◌==◌}
use Rattle.std.proofs.lemmas.List.{length-replicate, length-set}
use Rattle.gl_bits.specs.Words.{Word}
use Rattle.gl_tuples.specs.declared.beats.Beat.{Beat}
use Rattle.gl_tuple_reader.specs.declared.entry.Entry.{Entry}
use Rattle.gl_tuple_reader.specs.declared.entry.Entry.TheVariants.{Tuple, Tick, End}
use Rattle.gl_tuples.specs.declared.fault.TupleFault.TheVariants.{StreamTwice, TickTwice}
use Rattle.gl_schema.specs.declared.schema.Schema.{Schema}
use Rattle.gl_tuples.specs.declared.fault.TupleFault.{TupleFault}
use Rattle.gl_tuple_reader.specs.declared.filing.Filing.{Filing}
use Rattle.gl_tuple_reader.specs.Entries.{◌>>=◌, text_checked, cycle_of, entry_of}
use Rattle.gl_tuple_reader.specs.Filing.{beat_of, beat_with, empty_beat, grown_before, open_checked, cycle_checked, has_row, filing_after, next_filing}

-- the current beat has one entry for each stream
abbrev pub HasRows : ℕ → Option Beat → Type 0
HasRows streams current = IfSome current (λ b. length b.rows ≡ streams)

no_rows_long : (streams : ℕ) → length (replicate {A = Option (List Word)} streams None) ≡ streams
no_rows_long streams = length-replicate streams None

beat_if : (streams cycle number : ℕ) (beat : Beat) (b : Bool) → length beat.rows ≡ streams → length (cond b beat (empty_beat streams cycle number)).rows ≡ streams
beat_if streams cycle number beat true h = h
beat_if streams cycle number beat false h = no_rows_long streams

-- the beat of a cycle has one entry for each stream
pub beat_long : (streams cycle number : ℕ) (current : Option Beat) → HasRows streams current → length (beat_of streams cycle number current).rows ≡ streams
beat_long streams cycle number None h = no_rows_long streams
beat_long streams cycle number (Some beat) h = beat_if streams cycle number beat (beat.cycle == cycle) h

pub pair_second : {A B : Type 0} (a c : A) (b d : B) → ◌≡◌ {A = Result (A × B) TupleFault} (Ok (a, b)) (Ok (c, d)) → b ≡ d
pair_second a c b d e = ap (λ r. second_of r b) e
  where
    second_of : {A B : Type 0} → Result (A × B) TupleFault → B → B
    second_of (Ok x) d = x.1
    second_of (Err e) d = d

pub bind_ok : {A B : Type 0} (r : Result A TupleFault) (f : A → Result B TupleFault) (y : B) → (r >>= f) ≡ Ok y → (x : A) × (r ≡ Ok x) × (f x ≡ Ok y)
bind_ok (Ok x) f y h = (x, refl, h)
bind_ok (Err e) f y h = absurd cc

pub ok_is : {A : Type 0} (x y : A) → ◌≡◌ {A = Result A TupleFault} (Ok x) (Ok y) → x ≡ y
ok_is x y h = cc

-- what a record that is added tells: its cycle and what it brings, and that neither breaks a rule
pub record Next (schema : Schema) (f : Filing) (fields : List (List ℕ)) (g : Filing) : Type 0 where
  pub cycle : ℕ
  pub entry : Entry
  pub beat : Beat
  pub opened : open_checked (f.records + 1) f.current ≡ Ok tt
  pub cycled : cycle_of (f.records + 1) fields ≡ Ok cycle
  pub rises : cycle_checked (f.records + 1) cycle f.current ≡ Ok tt
  pub entered : entry_of (f.records + 1) schema fields ≡ Ok entry
  pub filled : beat_with (f.records + 1) (beat_of (length schema.streams) cycle (f.records + 1) f.current) entry ≡ Ok beat
  pub is : record { whole = grown_before cycle f.whole f.current; current = Some beat; records = f.records + 1 } ≡ g

pub next_tells : (schema : Schema) (f : Filing) (fields : List (List ℕ)) (g : Filing) → next_filing schema f fields ≡ Ok g → Next schema f fields g
unfolding next_filing
next_tells schema f fields g h =
    let a = bind_ok (text_checked (f.records + 1) fields) _ g h in
    let b = bind_ok (open_checked (f.records + 1) f.current) _ g a.2 in
    let c = bind_ok (cycle_of (f.records + 1) fields) _ g b.2 in
    let d = bind_ok (cycle_checked (f.records + 1) c.0 f.current) _ g c.2 in
    let e = bind_ok (entry_of (f.records + 1) schema fields) _ g d.2 in
    let k = bind_ok (beat_with (f.records + 1) (beat_of (length schema.streams) c.0 (f.records + 1) f.current) e.0) _ g e.2 in
    record { cycle = c.0; entry = e.0; beat = k.0; opened = b.1; cycled = c.1; rises = d.1; entered = e.1; filled = k.1; is = ok_is _ g k.2 }

pub guard_ok : {A : Type 0} (b : Bool) (e : TupleFault) (x y : A) → cond b (Err e) (Ok x) ≡ Ok y → (b ≡ false) × (x ≡ y)
guard_ok true e x y h = absurd cc
guard_ok false e x y h = (refl, ok_is x y h)

-- an entry changes no number of rows
pub filled_long : (number : ℕ) (beat : Beat) (entry : Entry) (full : Beat) → beat_with number beat entry ≡ Ok full → length full.rows ≡ length beat.rows
filled_long number beat End full h = ap (λ (b : Beat). length b.rows) (sym (ok_is _ full h))
filled_long number beat Tick full h = let p = guard_ok beat.tick (TickTwice number) _ full h in ap (λ (b : Beat). length b.rows) (sym p.1)
filled_long number beat (Tuple k row) full h = let p = guard_ok (has_row beat.rows k) (StreamTwice number) _ full h in
    ap (λ (b : Beat). length b.rows) (sym p.1) ∙ length-set beat.rows k (Some row)

pub next_rows : (schema : Schema) (f : Filing) (fields : List (List ℕ)) (g : Filing) → HasRows (length schema.streams) f.current → Next schema f fields g → HasRows (length schema.streams) g.current
next_rows schema f fields g h n = subst (λ (g : Filing). HasRows (length schema.streams) g.current) n.is
    (filled_long (f.records + 1) (beat_of (length schema.streams) n.cycle (f.records + 1) f.current) n.entry n.beat n.filled ∙ beat_long (length schema.streams) n.cycle (f.records + 1) f.current h)

pub bind_more : {A B C : Type 0} (x : Result A TupleFault) (f : A → Result C TupleFault) (g : A → Result B TupleFault) (h : B → Result C TupleFault) → ((a : A) → f a ≡ (g a >>= h)) → (x >>= f) ≡ ((x >>= g) >>= h)
bind_more (Ok a) f g h same = same a
bind_more (Err e) f g h same = refl

-- records of two parts are added one part after the other
pub filing_after-append : (schema : Schema) (rs us : List (List (List ℕ))) (f : Filing) → filing_after schema (rs ++ us) f ≡ (filing_after schema rs f >>= filing_after schema us)
filing_after-append schema [] us f = refl
filing_after-append schema (r ∷ rs) us f = bind_more (next_filing schema f r) (filing_after schema (rs ++ us)) (filing_after schema rs) (filing_after schema us) (λ g. filing_after-append schema rs us g)
