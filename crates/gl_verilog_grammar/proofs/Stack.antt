-- The stack of what is open, whose top is the last of a Vec.
use Rattle.std.proofs.Common.{◌≡◌, ℕ, true, false, List, [], ◌∷◌, ◌++◌, Option, None, refl, ap, ◌∙◌}
use Rattle.std.specs.Prelude.{map}
use Rattle.std.proofs.lemmas.List.{reverse-append, map-append}
use Rattle.gl_verilog.specs.Written as written
use Rattle.gl_verilog_grammar.specs.Stages as machine
use Rattle.gl_verilog_tokens.specs.declared.written.WrittenExpr.{WrittenExpr}
use Rattle.gl_verilog_grammar.specs.declared.frames.Frame.{Frame}
use Rattle.gl_verilog_tokens.proofs.Views.{braces_are, block_is}
use Rattle.gl_verilog_tokens.specs.View.{parts_list}
use Rattle.gl_verilog_grammar.specs.View.{frame_of, frames_of}

pub frames-push : (frames : List Frame) (x : Frame) → frames_of (frames ++ x ∷ []) ≡ frame_of x ∷ frames_of frames
frames-push frames x = ap (map frame_of) (reverse-append frames (x ∷ []))

-- ---- applying operators

reduce-binds : (p : ℕ) (f : machine.Frame) (fs : List machine.Frame) (e : written.WrittenExpr) → machine.binds p f ≡ true → machine.reduce p (f ∷ fs) e ≡ machine.reduce p fs (machine.applied f e)
unfolding machine.reduce
reduce-binds p f fs e h = rw h refl

reduce-stops : (p : ℕ) (f : machine.Frame) (fs : List machine.Frame) (e : written.WrittenExpr) → machine.binds p f ≡ false → machine.reduce p (f ∷ fs) e ≡ (f ∷ fs, e)
unfolding machine.reduce
reduce-stops p f fs e h = rw h refl

reduce-nil : (p : ℕ) (e : written.WrittenExpr) → machine.reduce p [] e ≡ ([], e)
unfolding machine.reduce
reduce-nil p e = refl

reduce-top : (p : ℕ) (fs : List machine.Frame) (e : written.WrittenExpr) → machine.top_binds p fs ≡ true → machine.reduce p fs e ≡ machine.reduce p (machine.apply_top fs e).0 (machine.apply_top fs e).1
reduce-top p [] e h = refl
reduce-top p (f ∷ fs) e h = reduce-binds p f fs e h

pub reduce-goes : (p : ℕ) (fs gs : List machine.Frame) (e d : written.WrittenExpr) → machine.top_binds p fs ≡ true → machine.apply_top fs e ≡ (gs, d) → machine.reduce p fs e ≡ machine.reduce p gs d
reduce-goes p fs gs e d h k = reduce-top p fs e h ∙ ap (λ (o : machine.Open written.WrittenExpr). machine.reduce p o.0 o.1) k

pub reduce-ends : (p : ℕ) (fs : List machine.Frame) (e : written.WrittenExpr) → machine.top_binds p fs ≡ false → machine.reduce p fs e ≡ (fs, e)
reduce-ends p [] e h = reduce-nil p e
reduce-ends p (f ∷ fs) e h = reduce-stops p f fs e h

pub ruleset reductions = (frames-push, reduce-goes, reduce-ends)

-- ---- ending statements

end-goes : (f : machine.Frame) (fs : List machine.Frame) (s : written.WrittenStatement) → machine.is_if f ≡ true → machine.at_end (f ∷ fs) s ≡ machine.at_end fs (machine.if_of f s)
unfolding machine.at_end
end-goes f fs s h = rw h refl

end-stops : (f : machine.Frame) (fs : List machine.Frame) (s : written.WrittenStatement) → machine.is_if f ≡ false → machine.at_end (f ∷ fs) s ≡ (f ∷ fs, s)
unfolding machine.at_end
end-stops f fs s h = rw h refl

end-nil : (s : written.WrittenStatement) → machine.at_end [] s ≡ ([], s)
unfolding machine.at_end
end-nil s = refl

end-top : (fs : List machine.Frame) (s : written.WrittenStatement) → machine.top_is_if fs ≡ true → machine.at_end fs s ≡ machine.at_end (machine.end_top fs s).0 (machine.end_top fs s).1
end-top [] s h = refl
end-top (f ∷ fs) s h = end-goes f fs s h

pub ends-goes : (fs gs : List machine.Frame) (s t : written.WrittenStatement) → machine.top_is_if fs ≡ true → machine.end_top fs s ≡ (gs, t) → machine.at_end fs s ≡ machine.at_end gs t
ends-goes fs gs s t h k = end-top fs s h ∙ ap (λ (o : machine.Open written.WrittenStatement). machine.at_end o.0 o.1) k

pub ends-stops : (fs : List machine.Frame) (s : written.WrittenStatement) → machine.top_is_if fs ≡ false → machine.at_end fs s ≡ (fs, s)
ends-stops [] s h = end-nil s
ends-stops (f ∷ fs) s h = end-stops f fs s h

pub ruleset endings = (frames-push, ends-goes, ends-stops)

else-same : (f : machine.Frame) (fs : List machine.Frame) (s : written.WrittenStatement) (more : Option (List machine.Frame)) → machine.is_else f ≡ true → machine.else_at f fs s more ≡ more
else-same machine.InParens fs s more h = absurd cc
else-same (machine.InBraces a) fs s more h = absurd cc
else-same (machine.InIndex a) fs s more h = absurd cc
else-same (machine.PrefixOf a) fs s more h = absurd cc
else-same (machine.InfixOf a b) fs s more h = absurd cc
else-same (machine.TestOf a) fs s more h = absurd cc
else-same (machine.ColonOf a b) fs s more h = absurd cc
else-same (machine.AssignTo a) fs s more h = absurd cc
else-same (machine.UpdateTo a) fs s more h = absurd cc
else-same (machine.AddressFor a) fs s more h = absurd cc
else-same (machine.UpdateWordTo a b) fs s more h = absurd cc
else-same machine.IfTest fs s more h = absurd cc
else-same (machine.ThenOf a) fs s more h = absurd cc
else-same (machine.ElseOf a b) fs s more h = refl
else-same (machine.InBegin a) fs s more h = absurd cc
else-same (machine.BodyOf a) fs s more h = absurd cc

else-other : (f : machine.Frame) (fs : List machine.Frame) (s : written.WrittenStatement) (more : Option (List machine.Frame)) → machine.is_else f ≡ false → machine.else_at f fs s more ≡ machine.else_at f fs s None
else-other machine.InParens fs s more h = refl
else-other (machine.InBraces a) fs s more h = refl
else-other (machine.InIndex a) fs s more h = refl
else-other (machine.PrefixOf a) fs s more h = refl
else-other (machine.InfixOf a b) fs s more h = refl
else-other (machine.TestOf a) fs s more h = refl
else-other (machine.ColonOf a b) fs s more h = refl
else-other (machine.AssignTo a) fs s more h = refl
else-other (machine.UpdateTo a) fs s more h = refl
else-other (machine.AddressFor a) fs s more h = refl
else-other (machine.UpdateWordTo a b) fs s more h = refl
else-other machine.IfTest fs s more h = refl
else-other (machine.ThenOf a) fs s more h = refl
else-other (machine.ElseOf a b) fs s more h = absurd cc
else-other (machine.InBegin a) fs s more h = refl
else-other (machine.BodyOf a) fs s more h = refl

else-top : (fs : List machine.Frame) (s : written.WrittenStatement) → machine.top_is_else fs ≡ true → machine.at_else fs s ≡ machine.at_else (machine.end_top fs s).0 (machine.end_top fs s).1
unfolding machine.at_else
else-top [] s h = refl
else-top (f ∷ fs) s h = else-same f fs s (machine.at_else fs (machine.if_of f s)) h

pub elses-goes : (fs gs : List machine.Frame) (s t : written.WrittenStatement) → machine.top_is_else fs ≡ true → machine.end_top fs s ≡ (gs, t) → machine.at_else fs s ≡ machine.at_else gs t
elses-goes fs gs s t h k = else-top fs s h ∙ ap (λ (o : machine.Open written.WrittenStatement). machine.at_else o.0 o.1) k

pub elses-ends : (fs : List machine.Frame) (s : written.WrittenStatement) → machine.top_is_else fs ≡ false → machine.at_else fs s ≡ machine.else_on_top fs s
unfolding machine.at_else
elses-ends [] s h = refl
elses-ends (f ∷ fs) s h = else-other f fs s (machine.at_else fs (machine.if_of f s)) h

pub ruleset elses = (frames-push, elses-goes, elses-ends)

pub parts-onto : (ps : List written.WrittenExpr) (e : written.WrittenExpr) → parts_list (ps ++ e ∷ []) ≡ machine.parts_of ps e
parts-onto [] e = refl
parts-onto (p ∷ []) e = refl
parts-onto (p ∷ q ∷ ps) e = ap (written.Parts p) (parts-onto (q ∷ ps) e)

pub ruleset closings = (frames-push)

pub ruleset pushes = (frames-push, map-append, braces_are, block_is, parts-onto)
