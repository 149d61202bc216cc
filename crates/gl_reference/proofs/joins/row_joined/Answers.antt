use Rattle.std.proofs.Common.{◌≡◌, ◌++◌, ◌∙◌, Some, true, false, ap, drop, nat_eq, slice_index, sym}
use Rattle.std.specs.Prelude.{remove}
use Rattle.std.proofs.lemmas.Bool.{ne_eqb}
use Rattle.gl_values.specs.Partitions.{has_key}
use Rattle.gl_values.specs.Results.{Row}
use Rattle.gl_reference.specs.Sides.{last_of_right, of_key}
use Rattle.gl_reference.proofs.joins.row_joined.Goals as goal

pub returns : goal.returns
returns c =
    let zeros = c.args.partners.zeros.now in
    let column = c.args.partners.column in
    let seen = c.args.seen.now in
    let row = c.args.row.now in
    let last = c.last_of_right-last.ensures ∙ ap (last_of_right zeros) (c.as_slice.ensures ∙ c.in_ok-own.ensures ∙ ap (of_key seen) c.number_at-key.ensures) in
    let beside = c.in_ok-beside.ensures ∙ ap (λ (r : Row). remove r column) last in
    let own = c.in_ok-copy_of_row.ensures ∙ c.own_numbers.ensures in
    let made : c.in_ok-made.made ≡ drop 2 row ++ remove (last_of_right zeros (of_key seen (slice_index row 0))) column =
    c.in_ok-made.ensures ∙ (λ i. own i ++ beside i) in
    let of_left : nat_eq (slice_index row 1) 0 ≡ false = ap (λ n. nat_eq n 0) (sym c.number_at.ensures) ∙ ne_eqb c.number_at.result 0 c.if-number_at-eq0.false in
    let counts : has_key c.args.partners.most (λ (r : Row). slice_index r 0) seen (slice_index row 0) ≡ true =
    ap (has_key c.args.partners.most (λ (r : Row). slice_index r 0) seen) (sym c.number_at-key.ensures) ∙ sym c.in_ok-has_key.ensures ∙ c.if-not-branch.false in
    rw (of_left, counts) (ap Some made)
