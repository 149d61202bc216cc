-- A word that grows by a byte, and a text that is scanned one byte further.
use Rattle.std.proofs.Common.{◌≡◌, ℕ, suc, ◌+◌, ◌-◌, ◌<◌, ◌≤◌, List, [], ◌∷◌, ◌++◌, length, take, drop, get_or, sym, ap, ◌∙◌, append_assoc, arith, drop-cons}
use Rattle.std.proofs.lemmas.List.{append-nil, drop_all}
use Rattle.gl_bits.proofs.AllLists.{word_grows, word_starts}
use Rattle.gl_query_tokens.specs.declared.token.Lexeme.{Lexeme}
use Rattle.gl_query_tokens.specs.Tokens.{Mode, Move, to, move, then_scan, scan}

pub text_starts : (text : List ℕ) (at : ℕ) → take (at + 1 - (at + 1)) (drop (at + 1) text) ≡ []
text_starts text at = ap (λ (k : ℕ). take k (drop (at + 1) text)) (let z : at + 1 - (at + 1) ≡ 0 = omega arith in z)

pub ruleset lex_steps = (word_grows, word_starts, text_starts, append_assoc)

-- a byte more
pub scan_next : (text : List ℕ) (at : ℕ) (m m' : Mode) (old new : List Lexeme) (total : Move) → at < length text → m' ≡ (move m at (get_or text at 0)).mode → new ≡ old ++ (move m at (get_or text at 0)).tokens
    → then_scan (to m old) (scan m at (drop at text)) ≡ total → then_scan (to m' new) (scan m' (at + 1) (drop (at + 1) text)) ≡ total
scan_next text at m m' old new total lt mode tokens so_far =
    rw (mode, tokens) (ap (λ (ts : List Lexeme). to (scan (move m at (get_or text at 0)).mode (at + 1) (drop (at + 1) text)).mode ts) (append_assoc old (move m at (get_or text at 0)).tokens (scan (move m at (get_or text at 0)).mode (at + 1) (drop (at + 1) text)).tokens)
    ∙ ap (λ (x : List ℕ). then_scan (to m old) (scan m at x)) (sym (drop-cons text at 0 lt ∙ ap (λ (k : ℕ). get_or text at 0 ∷ drop k text) (let z : suc at ≡ at + 1 = omega arith in z))) ∙ so_far)

-- the end
pub scan_end : (text : List ℕ) (at : ℕ) (m : Mode) (old : List Lexeme) (total : Move) → length text ≤ at → then_scan (to m old) (scan m at (drop at text)) ≡ total → to m old ≡ total
scan_end text at m old total le so_far = ap (λ (ts : List Lexeme). to m ts) (sym (append-nil old)) ∙ ap (λ (x : List ℕ). then_scan (to m old) (scan m at x)) (sym (drop_all at text le)) ∙ so_far

pub ruleset loop_steps = (scan_next, scan_end)
