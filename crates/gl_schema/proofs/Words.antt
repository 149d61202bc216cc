-- A word that grows by a byte, and faults that are handed on.
use Rattle.std.proofs.Common.{◌≡◌, ℕ, ◌+◌, ◌-◌, ◌<◌, ◌≤◌, List, [], ◌∷◌, ◌++◌, length, take, drop, get_or, Result, refl, ap, ◌∙◌, arith, length-drop}
use Rattle.std.specs.Prelude.{slice_range}
use Rattle.std.proofs.lemmas.List.{take_more, get_or-drop}
use Rattle.gl_schema.specs.declared.fault.SchemaFault.{SchemaFault}
use Rattle.gl_schema.specs.declared.fault.SchemaFault.TheVariants.{Syntax, BadName, BadKind, Twice, TooMany, Memory}
use Rattle.gl_schema.specs.SchemaFaults.{Fails, ◌>>=◌}

pub word_grows : (text : List ℕ) (from at : ℕ) → from ≤ at → at < length text → slice_range text from (at + 1) ≡ slice_range text from at ++ get_or text at 0 ∷ []
word_grows text from at le lt =
    let n : at + 1 - from ≡ at - from + 1 = omega arith in
    let short : at - from < length (drop from text) = omega (arith, length-drop from text) in
    let place : from + (at - from) ≡ at = omega arith in
    rw (n, take_more (drop from text) (at - from) 0 short) (ap (λ (x : ℕ). take (at - from) (drop from text) ++ x ∷ []) (get_or-drop from text (at - from) 0 ∙ ap (λ (k : ℕ). get_or text k 0) place))

pub word_starts : (text : List ℕ) (at : ℕ) → at < length text → slice_range text at (at + 1) ≡ get_or text at 0 ∷ []
word_starts text at lt = word_grows text at at (omega arith) lt ∙ ap (λ (k : ℕ). take k (drop at text) ++ get_or text at 0 ∷ []) (let z : at - at ≡ 0 = omega arith in z)

-- a fault of the first step is that of the whole
pub fails_then : {A B : Type 0} (e : SchemaFault) (x : Result A SchemaFault) (f : A → Result B SchemaFault) → Fails e x → Fails e (x >>= f)
fails_then Memory x f h = tt
fails_then (Syntax at) x f h = rw h refl
fails_then (BadName at) x f h = rw h refl
fails_then (BadKind at) x f h = rw h refl
fails_then (Twice at) x f h = rw h refl
fails_then (TooMany at) x f h = rw h refl

pub ruleset lex_steps = (word_grows, word_starts, fails_then)
