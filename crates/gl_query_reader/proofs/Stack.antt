-- The stack of what is open, whose innermost frame is the last of a Vec.
use Rattle.std.proofs.Common.{◌≡◌, ℕ, true, false, List, [], ◌∷◌, ◌++◌, refl, ap, ◌∙◌}
use Rattle.std.specs.Prelude.{map}
use Rattle.std.proofs.lemmas.List.{reverse-append}
use Rattle.gl_query_reader.specs.declared.frames.Frame.{Frame}
use Rattle.gl_query_reader.specs.Written.{Expr, Query}
use Rattle.gl_query_reader.specs.States as states
use Rattle.gl_query_reader.specs.Machine.{Reduced, reduced, binds, applied, last_binds, apply_last, is_join, joined, join_with, last_joins}
use Rattle.gl_query_reader.specs.Trees.{frame_of, frames_of}

pub frames-push : (stack : List Frame) (x : Frame) → frames_of (stack ++ x ∷ []) ≡ frame_of x ∷ frames_of stack
frames-push stack x = ap (map frame_of) (reverse-append stack (x ∷ []))

-- ---- applying operators

reduced-binds : (p : ℕ) (f : states.Frame) (fs : List states.Frame) (e : Expr) → binds p f ≡ true → reduced p (f ∷ fs) e ≡ reduced p fs (applied f e)
unfolding reduced
reduced-binds p f fs e h = rw h refl

reduced-stops : (p : ℕ) (f : states.Frame) (fs : List states.Frame) (e : Expr) → binds p f ≡ false → reduced p (f ∷ fs) e ≡ (f ∷ fs, e)
unfolding reduced
reduced-stops p f fs e h = rw h refl

reduced-nil : (p : ℕ) (e : Expr) → reduced p [] e ≡ ([], e)
unfolding reduced
reduced-nil p e = refl

reduced-last : (p : ℕ) (fs : List states.Frame) (e : Expr) → last_binds p fs ≡ true → reduced p fs e ≡ reduced p (apply_last fs e).0 (apply_last fs e).1
reduced-last p [] e h = refl
reduced-last p (f ∷ fs) e h = reduced-binds p f fs e h

pub reduced-goes : (p : ℕ) (fs gs : List states.Frame) (e d : Expr) → last_binds p fs ≡ true → apply_last fs e ≡ (gs, d) → reduced p fs e ≡ reduced p gs d
reduced-goes p fs gs e d h k = reduced-last p fs e h ∙ ap (λ (r : Reduced). reduced p r.0 r.1) k

pub reduced-ends : (p : ℕ) (fs : List states.Frame) (e : Expr) → last_binds p fs ≡ false → reduced p fs e ≡ (fs, e)
reduced-ends p [] e h = reduced-nil p e
reduced-ends p (f ∷ fs) e h = reduced-stops p f fs e h

-- ---- joining terms

pub joined-ends : (fs : List states.Frame) (q : Query) → last_joins fs ≡ false → joined fs q ≡ (fs, q)
joined-ends [] q h = refl
joined-ends (f ∷ fs) q h = rw h refl

pub joined-goes : (f : states.Frame) (fs : List states.Frame) (q : Query) → is_join f ≡ true → joined (f ∷ fs) q ≡ (fs, join_with f q)
joined-goes f fs q h = rw h refl

pub ruleset reductions = (frames-push, reduced-goes, reduced-ends, joined-goes, joined-ends)
