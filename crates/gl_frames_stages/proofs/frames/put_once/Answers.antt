use Rattle.std.proofs.Common.{◌≡◌, Some, length, take, inl, inr, arith, ◌∙◌}
use Rattle.std.specs.Prelude.{slice_get, ◌⊎◌}
use Rattle.std.proofs.lemmas.Option.{slice_get-get_or}
use Rattle.gl_frames_stages.proofs.FramesNet.{item_again, taken_at}
use Rattle.gl_frames_stages.proofs.frames.put_once.Goals as goal

pub returns-then-place-made : goal.returns-then-place-made
returns-then-place-made c =
    let place = c.first_place-place.result in
    let before = take (length c.args.made.now) c.args.items.now in
    item_again c.args.net.now c.args.net.now c.args.cycles c.args.input before c.args.item c.args.made.now place _ c.requires.made
    (taken_at c.args.items.now (length c.args.made.now) place c.if-place-made.true ∙ stands c.first_place-place.ensures.equal)
    (slice_get-get_or c.args.made.now place _ c.if-place-made.true)
  where
    stands : ((slice_get c.args.items.now c.first_place-place.result ≡ Some c.args.item) ⊎ (c.first_place-place.result ≡ length c.args.items.now)) → slice_get c.args.items.now c.first_place-place.result ≡ Some c.args.item
    stands (inl h) = h
    stands (inr h) = absurd (omega (arith, h, c.if-place-made.true, c.requires.within))
