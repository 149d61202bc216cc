-- How the text of a part may stop a command, in one way at most.
use Rattle.std.proofs.Common.{◌≡◌, ◌≢◌, ℕ, ◌<◌, ◌≤◌, List, length, Result, Ok, Err, refl, sym, ◌∙◌, arith}
use Rattle.gl_outside.specs.Told.{Told, Untold, Lacks, Holds, IsLacking, IfTold}
use Rattle.gl_top_forms.specs.declared.command.Part.{Part}
use Rattle.gl_top_forms.specs.Forms.{name_of}
use Rattle.gl_top_status.specs.declared.refusal.Refusal.{Refusal}
use Rattle.gl_top_status.specs.declared.refusal.Refusal.TheVariants as refusal

-- a text of at most 64 MiB with a property
abbrev pub Fine : Told → (List ℕ → Type 0) → Type 0
Fine t P = IfTold t (λ text. (length text ≤ 67108864) × P text)

-- how the text of a part may stop a command: it is not there, it is too long, or this is wrong with it
pub data Failing (t : Told) (p : Part) (F : List ℕ → Refusal → Type 0) (r : Refusal) : Type 0 where
  Lacking : (lacks : IsLacking t) (is : r ≡ refusal.Missing p) → Failing t p F r
  Long : (long : IfTold t (λ text. 67108864 < length text)) (is : r ≡ refusal.TooLong p) → Failing t p F r
  Bad : (bad : Fine t (λ text. F text r)) → Failing t p F r

-- the text that the words name so stops it
abbrev pub FailsAt : (List ℕ → Told) → List (List ℕ) → Part → (List ℕ → Refusal → Type 0) → Refusal → Type 0
FailsAt told words p F r = Failing (told (name_of words p)) p F r

too_long : (n : ℕ) {A : Type 0} → n ≤ 67108864 → 67108864 < n → A
too_long n le lt = absurd (omega arith)

pub not_both : (t : Told) (p : Part) (P : List ℕ → Type 0) (F : List ℕ → Refusal → Type 0) (a : Refusal) → t ≢ Untold → ((text : List ℕ) → P text → F text a → ⊥) → Fine t P → Failing t p F a → ⊥
not_both Untold p P F a told out fine f = told refl
not_both Lacks p P F a told out fine f = fine
not_both (Holds text) p P F a told out fine (Lacking l e) = l
not_both (Holds text) p P F a told out fine (Long l e) = too_long (length text) fine.0 l
not_both (Holds text) p P F a told out fine (Bad b) = out text fine.1 b.1

pub fails_once : (t : Told) (p : Part) (F : List ℕ → Refusal → Type 0) (a b : Refusal) → t ≢ Untold → ((text : List ℕ) → F text a → F text b → a ≡ b) → Failing t p F a → Failing t p F b → a ≡ b
fails_once Untold p F a b told once f g = absurd (told refl)
fails_once Lacks p F a b told once (Lacking l e) (Lacking m h) = e ∙ sym h
fails_once Lacks p F a b told once (Lacking l e) (Long m h) = absurd m
fails_once Lacks p F a b told once (Lacking l e) (Bad m) = absurd m
fails_once Lacks p F a b told once (Long l e) g = absurd l
fails_once Lacks p F a b told once (Bad l) g = absurd l
fails_once (Holds text) p F a b told once (Lacking l e) g = absurd l
fails_once (Holds text) p F a b told once (Long l e) (Lacking m h) = absurd m
fails_once (Holds text) p F a b told once (Long l e) (Long m h) = e ∙ sym h
fails_once (Holds text) p F a b told once (Long l e) (Bad m) = too_long (length text) m.0 l
fails_once (Holds text) p F a b told once (Bad l) (Lacking m h) = absurd m
fails_once (Holds text) p F a b told once (Bad l) (Long m h) = too_long (length text) l.0 m
fails_once (Holds text) p F a b told once (Bad l) (Bad m) = once text l.1 m.1

-- a text with two properties
pub with_both : (t : Told) (P Q : List ℕ → Type 0) {A : Type 0} → t ≢ Untold → Fine t P → Fine t Q → ((text : List ℕ) → P text → Q text → A) → A
with_both Untold P Q told p q f = absurd (told refl)
with_both Lacks P Q told p q f = absurd p
with_both (Holds text) P Q told p q f = f text p.1 q.1

-- a weaker property
pub weaker : (t : Told) (P Q : List ℕ → Type 0) → ((text : List ℕ) → P text → Q text) → Fine t P → Fine t Q
weaker Untold P Q f h = tt
weaker Lacks P Q f h = h
weaker (Holds text) P Q f h = (h.0, f text h.1)

-- what is wrong with a text, where this is so of it
pub bad : (t : Told) (p : Part) (P : List ℕ → Type 0) (F : List ℕ → Refusal → Type 0) (r : Refusal) → ((text : List ℕ) → P text → F text r) → Fine t P → Failing t p F r
bad t p P F r f h = Bad (weaker t P (λ text. F text r) f h)

-- a result is one fault, and no value
pub one_error : {A F : Type 0} (r : Result A F) (f g : F) → r ≡ Err f → r ≡ Err g → f ≡ g
one_error {A = A} {F = F} r f g p q = let e : ◌≡◌ {A = Result A F} (Err f) (Err g) = sym p ∙ q in cc

pub no_error : {A F : Type 0} (r : Result A F) (x : A) (f : F) → r ≡ Ok x → r ≡ Err f → ⊥
no_error {A = A} {F = F} r x f p q = let e : ◌≡◌ {A = Result A F} (Ok x) (Err f) = sym p ∙ q in cc
