-- Texts made of pieces, each with its tokens.
use Rattle.std.proofs.Common.{◌≡◌, ℕ, List, [], ◌∷◌, ◌++◌, refl, sym, ap, ◌∙◌, append_assoc}
use Rattle.std.proofs.lemmas.List.{append-nil}
use Rattle.gl_verilog.specs.Tokens.{Token, Mode, Between, to, after, move, scan, tokens_of, Reads}

pub scan-append : (m : Mode) (a b : List ℕ) → scan m (a ++ b) ≡ after (scan m a).tokens (scan (scan m a).mode b)
scan-append m [] b = refl
scan-append m (x ∷ a) b = ap (after (move m x).tokens) (scan-append (move m x).mode a b) ∙ ap (λ (ts : List Token). to (scan (scan (move m x).mode a).mode b).mode ts) (sym (append_assoc (move m x).tokens (scan (move m x).mode a).tokens (scan (scan (move m x).mode a).mode b).tokens))

-- two pieces one behind the other
pub reads_on : (a b : List ℕ) (x y : List Token) → Reads a x → Reads b y → Reads (a ++ b) (x ++ y)
reads_on a b x y p q = record { is = scan-append Between a b ∙ rw (p.is, q.is) refl }

-- all of a text
pub reads_all : (a : List ℕ) (x : List Token) → Reads a x → tokens_of a ≡ x
unfolding tokens_of
reads_all a x p = rw p.is (append-nil x)
