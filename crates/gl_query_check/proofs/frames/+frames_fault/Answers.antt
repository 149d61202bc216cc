use Rattle.std.proofs.Common.{rules, ◌≡◌, ◌<◌, ◌∷◌, drop}
use Rattle.gl_query.specs.Faults.{frame_fault}
use Rattle.gl_query.specs.Trees.{FrameItemTree, frame_item_tree}
use Rattle.gl_query_check.proofs.Listing.{named_step}
use Rattle.gl_query_check.proofs.frames.+frames_fault.Goals as goal

pub returns : goal.returns
returns t c =
    let n = c.args.number in
    let xs = c.args.frames.now in
    let there : drop n xs ≡ c.in-Some.item.now ∷ c.in-Some.field-0-1.now = search rules in
    let below : n < 32 = search rules in
    rw (c.or_else-2.ensures, c.frame_fault-own.ensures, c.or_else.ensures, c.unless.ensures, c.is_frame-fresh.ensures, c.as_slice.ensures, c.frames_fault-later.ensures, c.split_at.ensures.front)
    (named_step frame_item_tree (λ (i : FrameItemTree). i.name) (λ (i : FrameItemTree). frame_fault c.args.columns.now i.frame i.name) xs n c.in-Some.item.now c.in-Some.field-0-1.now there below)
