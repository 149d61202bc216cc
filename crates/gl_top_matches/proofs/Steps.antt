-- Words that clap's walk passes, one by one.
use Rattle.std.proofs.Common.{◌≡◌, ◌∙◌, ℕ, true, false, ◌&&◌, List, [], ◌∷◌, None, refl, ap, ap₂}
use Rattle.std.specs.List.{fold}
use Rattle.std.specs.Str.{bytes_eq}
use Rattle.clap.specs.Lexer.{long_of, short_of}
use Rattle.clap.specs.Simple.{Shape}
use Rattle.clap.specs.Takes.{step_passes, turn_passes, walk_passes}
use Rattle.clap.specs.Walk.{Held, Rule, Text, Walk, arg_by_id, arg_by_index, idle, option, option_word, to_positional, value, walked}
use Rattle.gl_top_forms.specs.Forms.{is_dashed}

-- a word that is no flag
record IsPlain (word : Text) : Type 0 where
  pub not_long : long_of word ≡ None
  pub not_short : short_of word ≡ None
  pub not_end : bytes_eq word (45 ∷ 45 ∷ []) ≡ false

plain : (word : Text) → is_dashed word ≡ false → IsPlain word
plain [] h = record { not_long = refl; not_short = refl; not_end = refl }
plain (x ∷ xs) h = record { not_long = rw h refl; not_short = rw h refl; not_end = rw h refl }

-- between two words, where nothing waits
abbrev pub at_word : Held → ℕ → Walk
at_word h position = record { held = h; waiting = idle; position = position; is_trailing = false; stopped = None }

-- where an option waits for its value
abbrev pub waiting_at : Text → Held → ℕ → Walk
waiting_at id h position = record { held = h; waiting = option id; position = position; is_trailing = false; stopped = None }

walks_on : (c : List Rule) (h : Held) (position : ℕ) (word : Text) → IsPlain word
    → walked c [] (at_word h position) word ≡ to_positional c (arg_by_index c position) word (at_word h position) h
unfolding walked
walks_on c h position word p = rw (p.not_long, p.not_short, p.not_end) refl

passes_on : (s : Shape) (h : Held) (position : ℕ) (word : Text) → IsPlain word
    → turn_passes s [] (at_word h position) word ≡ step_passes s position h value
passes_on s h position word p = rw (p.not_long, p.not_short, p.not_end) refl

takes_value : (c : List Rule) (id : Text) (h : Held) (position : ℕ) (word : Text) → IsPlain word
    → walked c [] (waiting_at id h position) word
    ≡ record (waiting_at id h position) { held = (option_word (arg_by_id c id) id word h).0; waiting = (option_word (arg_by_id c id) id word h).1 }
unfolding walked
takes_value c id h position word p = rw (p.not_long, p.not_short, p.not_end) refl

passes_value : (s : Shape) (id : Text) (h : Held) (position : ℕ) (word : Text) → IsPlain word → turn_passes s [] (waiting_at id h position) word ≡ true
passes_value s id h position word p = rw (p.not_long, p.not_short, p.not_end) refl

-- the walk passes the words and ends there
pub record Trip (s : Shape) (w : Walk) (words : List Text) (end : Walk) : Type 0 where
  pub is : fold (walked s.rules []) w words ≡ end
  pub passes : walk_passes s [] w words ≡ true

pub stop : (s : Shape) (w : Walk) → Trip s w [] w
unfolding walk_passes
stop s w = record { is = refl; passes = refl }

pub step : (s : Shape) (w v end : Walk) (word : Text) (words : List Text) → turn_passes s [] w word ≡ true → walked s.rules [] w word ≡ v → Trip s v words end
    → Trip s w (word ∷ words) end
unfolding walk_passes
step s w v end word words passes goes rest = record {
  is = ap (λ (u : Walk). fold (walked s.rules []) u words) goes ∙ rest.is;
  passes = ap₂ ◌&&◌ passes (ap (λ (u : Walk). walk_passes s [] u words) goes ∙ rest.passes);
}

-- a name is the value of the positional at its place
pub name : (s : Shape) (h g : Held) (position next : ℕ) (end : Walk) (word : Text) (words : List Text) → is_dashed word ≡ false
    → to_positional s.rules (arg_by_index s.rules position) word (at_word h position) h ≡ at_word g next → step_passes s position h value ≡ true
    → Trip s (at_word g next) words end → Trip s (at_word h position) (word ∷ words) end
name s h g position next end word words d goes passes rest =
    let p = plain word d in
    step s _ _ end word words (passes_on s h position word p ∙ passes) (walks_on s.rules h position word p ∙ goes) rest

-- an option, and its value in the word behind it
pub apart : (s : Shape) (h g k : Held) (position : ℕ) (end : Walk) (id front word : Text) (words : List Text) → is_dashed word ≡ false
    → turn_passes s [] (at_word h position) front ≡ true → walked s.rules [] (at_word h position) front ≡ waiting_at id g position
    → option_word (arg_by_id s.rules id) id word g ≡ (k, idle) → Trip s (at_word k position) words end
    → Trip s (at_word h position) (front ∷ word ∷ words) end
apart s h g k position end id front word words d passes goes takes rest =
    let p = plain word d in
    step s _ _ end front (word ∷ words) passes goes (step s _ _ end word words (passes_value s id g position word p)
    (takes_value s.rules id g position word p ∙ ap (λ q. record (waiting_at id g position) { held = q.0; waiting = q.1 }) takes) rest)
