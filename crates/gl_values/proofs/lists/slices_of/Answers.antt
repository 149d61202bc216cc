use Rattle.std.proofs.Common.{◌≡◌, ◌≢◌, ◌++◌, ◌∷◌, [], length, take, drop, map, ap, sym, ◌∙◌, eqb-true, eq-eqb}
use Rattle.std.proofs.lemmas.List.{map-append}
use Rattle.gl_values.proofs.Slicing.{slices_kept, slices_done}
use Rattle.gl_values.specs.Lists.{slices}
use Rattle.gl_values.proofs.lists.slices_of.Goals as goal

pub loop-rest-preserved : goal.loop-rest-preserved
loop-rest-preserved g c =
    let rest = c.loop-rest.rest.now in
    let more : length rest ≢ 0 = λ e. (let zero = eq-eqb (length rest) 0 e in let none = c.is_empty.ensures in let not_so = c.loop-rest-test.true in cc) in
    let later = c.split_at-in-loop-rest.result.1.now in
    ap (λ l. map (λ s. s.now) l ++ slices c.args.size c.args.advance later) c.in_ok-push.ensures.items
    ∙ ap (λ l. l ++ slices c.args.size c.args.advance later) (map-append (λ s. s.now) c.loop-rest.out.items (c.split_at.result.0 ∷ []))
    ∙ slices_kept c.args.size c.args.advance _ (map (λ s. s.now) c.loop-rest.out.items) rest c.split_at.result.0.now later c.requires more
    (c.split_at.ensures.front ∙ ap (λ n. take n rest) c.min.ensures)
    (c.split_at-in-loop-rest.ensures.back ∙ ap (λ n. drop n rest) c.min-in-loop-rest.ensures)
    c.loop-rest.invariant

pub returns : goal.returns
returns g c =
    let none : length c.loop-rest.rest.now ≡ 0 = eqb-true (length c.loop-rest.rest.now) 0 (sym c.is_empty.ensures ∙ c.loop-rest-test.false) in
    slices_done c.args.size c.args.advance _ (map (λ s. s.now) c.loop-rest.out.items) c.loop-rest.rest.now none c.loop-rest.invariant
