-- Reading over a text, byte by byte.
use Rattle.std.proofs.Common.{◌≡◌, ℕ, ◌+◌, ◌<◌, List, [], ◌∷◌, ◌++◌, length, drop, get_or, Result, Ok, Err, refl, sym, ap, ◌∙◌, add-one, drop-cons}
use Rattle.gl_schema.specs.declared.fault.SchemaFault.{SchemaFault}
use Rattle.gl_schema.specs.declared.reading.Reading.{Reading}
use Rattle.gl_schema.specs.declared.lexing.Standing.{Standing}
use Rattle.gl_schema.specs.SchemaText.{Token, Open, Move, move, class_of, tokens_from}
use Rattle.gl_schema.specs.SchemaFaults.{mark_at, Fails, ◌>>=◌, schema_from}
use Rattle.gl_schema.specs.Lexing.{open_at, reading_after, Takes}
use Rattle.gl_schema.proofs.Words.{fails_then}

bind_more : {A B C : Type 0} (x : Result A SchemaFault) (f : A → Result C SchemaFault) (g : A → Result B SchemaFault) (h : B → Result C SchemaFault) → ((a : A) → f a ≡ (g a >>= h)) → (x >>= f) ≡ ((x >>= g) >>= h)
bind_more (Ok a) f g h same = same a
bind_more (Err e) f g h same = refl

-- the tokens of two parts are read one part after the other
pub schema_from-append : (len : ℕ) (ts us : List Token) (r : Reading) → schema_from len (ts ++ us) r ≡ (reading_after ts r >>= schema_from len us)
schema_from-append len [] us r = refl
schema_from-append len (t ∷ ts) us r = bind_more (mark_at t.mark r t.at) (schema_from len (ts ++ us)) (reading_after ts) (schema_from len us) (λ a. schema_from-append len ts us a)

-- the tokens from a place on, by the byte that stands there
pub tokens_next : (text : List ℕ) (at : ℕ) (left : Open) → at < length text → tokens_from left at (drop at text) ≡ (move left (class_of (get_or text at 0)) at (get_or text at 0)).tokens ++ tokens_from (move left (class_of (get_or text at 0)) at (get_or text at 0)).left (at + 1) (drop (at + 1) text)
tokens_next text at left lt = ap (tokens_from left at) (drop-cons text at 0 lt) ∙ rw add-one refl

-- what is left to read, before a byte and after it
pub goes_on : (text : List ℕ) (len at : ℕ) (s : Standing) (r : Reading) (t : Standing) (q : Reading) → at < length text → Takes text (at + 1) (move (open_at text at s) (class_of (get_or text at 0)) at (get_or text at 0)) r (Ok (t, q))
    → schema_from len (tokens_from (open_at text (at + 1) t) (at + 1) (drop (at + 1) text)) q ≡ schema_from len (tokens_from (open_at text at s) at (drop at text)) r
goes_on text len at s r t q lt took =
    let m : Move = move (open_at text at s) (class_of (get_or text at 0)) at (get_or text at 0) in
    sym (ap (λ (ts : List Token). schema_from len ts r) (tokens_next text at (open_at text at s) lt) ∙ schema_from-append len m.tokens (tokens_from m.left (at + 1) (drop (at + 1) text)) r
    ∙ ap (λ (x : Result Reading SchemaFault). x >>= schema_from len (tokens_from m.left (at + 1) (drop (at + 1) text))) took.2
    ∙ ap (λ (o : Open). schema_from len (tokens_from o (at + 1) (drop (at + 1) text)) q) (sym took.1))

pub stops : (text : List ℕ) (len at : ℕ) (s : Standing) (r : Reading) (e : SchemaFault) → at < length text → Takes text (at + 1) (move (open_at text at s) (class_of (get_or text at 0)) at (get_or text at 0)) r (Err e)
    → Fails e (schema_from len (tokens_from (open_at text at s) at (drop at text)) r)
stops text len at s r e lt failed =
    let m : Move = move (open_at text at s) (class_of (get_or text at 0)) at (get_or text at 0) in
    rw (tokens_next text at (open_at text at s) lt, schema_from-append len m.tokens (tokens_from m.left (at + 1) (drop (at + 1) text)) r) (fails_then e (reading_after m.tokens r) (schema_from len (tokens_from m.left (at + 1) (drop (at + 1) text))) failed)
