-- A word that grows by a byte, and a text read byte by byte.
use Rattle.std.proofs.Common.{◌≡◌, ℕ, ◌+◌, ◌-◌, ◌<◌, List, [], ◌∷◌, ◌++◌, length, take, get_or, refl, sym, ap, ◌∙◌, append_assoc, arith}
use Rattle.std.proofs.lemmas.List.{take_more, map-append, append-nil, take_all}
use Rattle.gl_bits.proofs.AllLists.{word_grows, word_starts}
use Rattle.gl_verilog.specs.Tokens.{Token, Mode, Between, Move, to, after, move, scan, last_of, tokens_of}

pub ruleset steps = (word_grows, word_starts, map-append, append_assoc, append-nil)

-- what a text gives and one byte more
scan_push : (m : Mode) (xs : List ℕ) (x : ℕ) → scan m (xs ++ x ∷ []) ≡ to (move (scan m xs).mode x).mode ((scan m xs).tokens ++ (move (scan m xs).mode x).tokens)
scan_push m [] x = ap (λ (ts : List Token). to (move m x).mode ts) (append-nil (move m x).tokens)
scan_push m (y ∷ xs) x =
    ap (after (move m y).tokens) (scan_push (move m y).mode xs x)
    ∙ ap (λ (ts : List Token). to (move (scan (move m y).mode xs).mode x).mode ts) (sym (append_assoc (move m y).tokens (scan (move m y).mode xs).tokens (move (scan (move m y).mode xs).mode x).tokens))

pub scan_next : (text : List ℕ) (at : ℕ) (m m' : Mode) (old new : List Token) → at < length text → m' ≡ (move m (get_or text at 0)).mode → new ≡ old ++ (move m (get_or text at 0)).tokens
    → scan Between (take at text) ≡ to m old → scan Between (take (at + 1) text) ≡ to m' new
scan_next text at m m' old new lt mode tokens so_far =
    let n : scan Between (take (at + 1) text) ≡ scan Between (take at text ++ get_or text at 0 ∷ []) = ap (λ (x : List ℕ). scan Between x) (take_more text at 0 lt) in
    n ∙ scan_push Between (take at text) (get_or text at 0)
    ∙ ap (λ (r : Move). to (move r.mode (get_or text at 0)).mode (r.tokens ++ (move r.mode (get_or text at 0)).tokens)) so_far
    ∙ rw (mode, tokens) refl

-- the tokens of a front of the text
pub front_tokens : (text : List ℕ) (at : ℕ) (m : Mode) (read : List Token) → scan Between (take at text) ≡ to m read → tokens_of (take at text) ≡ read ++ last_of m
unfolding tokens_of
front_tokens text at m read h = ap (λ (r : Move). r.tokens ++ last_of r.mode) h

-- the end of the text
pub scan_ends : (text : List ℕ) (m : Mode) (read all : List Token) → scan Between (take (length text) text) ≡ to m read → all ≡ read ++ last_of m → all ≡ tokens_of text
unfolding tokens_of
scan_ends text m read all h e = e ∙ ap (λ (r : Move). r.tokens ++ last_of r.mode) (sym h ∙ ap (λ (x : List ℕ). scan Between x) (take_all (length text) text (omega arith)))

pub ruleset passes = (scan_next, scan_ends, map-append)
