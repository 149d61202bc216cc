use Rattle.std.proofs.Common.{◌≡◌, ◌∙◌, sym, ap, subst, option_map}
use Rattle.std.specs.List.{AllByRecursion}
use Rattle.gl_schema.specs.Schemas.{IsRowOf}
use Rattle.gl_frames.specs.Frames.{frame_of}
use Rattle.gl_query.specs.declared.tree.Frame.{Frame}
use Rattle.gl_query.specs.Accepted.{IsFrame}
use Rattle.gl_query.specs.Results.{keeps}
use Rattle.gl_query.specs.Shapes.{expr_shape, frame_shape}
use Rattle.gl_query.proofs.Holding.{all_in_frame}
use Rattle.gl_reference.specs.Frames.{back_of}
use Rattle.gl_reference.specs.Rows.{passing}
use Rattle.gl_reference.proofs.frames.frame_value.Goals as goal

-- the rows of the frame, as code has them
abbrev inside : (c : goal.After-drop-inside-inside) → c.as_slice.result.now ≡ frame_of (back_of c.in-Over.back) (keeps c.args.columns.now (option_map expr_shape c.in-Over.filter)) c.args.rows.now
inside c =
    c.as_slice.ensures ∙ c.in_ok-inside-in-Over.ensures.value
    ∙ ap (passing c.args.columns.now (option_map expr_shape c.in-Over.filter)) c.in_ok-last-in-Over.ensures.value

pub returns-in_ok-inside-in-Over-clause-value : goal.returns-in_ok-inside-in-Over-clause-value
returns-in_ok-inside-in-Over-clause-value c =
    rw c.in-Over.is
    (c.frame_agg_value.ensures.value (back_of c.in-Over.back) (keeps c.args.columns.now (option_map expr_shape c.in-Over.filter)) c.args.rows.now (inside c))

pub returns-in_ok-inside-in-Over-clause-fits : goal.returns-in_ok-inside-in-Over-clause-fits
returns-in_ok-inside-in-Over-clause-fits c = λ f r.
    let over = subst (λ (x : Frame). IsFrame c.args.columns.now (frame_shape x)) c.in-Over.is f in
    let fit = all_in_frame (IsRowOf c.args.columns.now) (back_of c.in-Over.back) (keeps c.args.columns.now (option_map expr_shape c.in-Over.filter)) c.args.rows.now r.fit in
    c.frame_agg_value.ensures.fits over.typed
    (record { kinds = r.kinds; fit = subst (AllByRecursion (IsRowOf c.args.columns.now)) (sym (inside c)) fit })
