use Rattle.std.proofs.Common.{◌≡◌, false, List, length, None, sym, ap, ◌∙◌, arith}
use Rattle.gl_vcd.specs.Reading.{Reading, dump_from, dump_of, is_between}
use Rattle.gl_vcd.specs.Standing.{declaring_of, stage_of}
use Rattle.gl_vcd.specs.Tokens.{Token, tokens_from, tokens_of}
use Rattle.gl_vcd.proofs.Going.{begun_stage}
use Rattle.gl_vcd.proofs.Kept.{ends_among}
use Rattle.gl_vcd.proofs.undumping.declare.Goals as goal
use Rattle.gl_vcd.proofs.undumping.declare.Goals.{in-Changes, in_default}

pub loop-declaring-init : goal.loop-declaring-init
unfolding dump_of tokens_of
loop-declaring-init c = record {
  inside = omega arith;
  can = c.requires.can;
  same = ap (λ (r : Reading). dump_from (length c.args.text.now) (tokens_from None 0 c.args.text.now) r) (sym c.requires.start);
}

pub returns-in_default-token_from : goal.returns-in_default-token_from
returns-in_default-token_from c =
    let d = declaring_of c.loop-declaring.declaring in
    let len = length c.args.text.now in
    let open' : is_between (stage_of c.loop-declaring.declaring.stage) ≡ false = (elim c.match-matches.branch [
      | in-Changes w ↦ absurd cc
      | in_default w ↦ begun_stage c.loop-declaring.declaring.stage w.in_default.not-Changes
    ]) in
    c.loop-declaring.invariant.same
    ∙ ap (λ (ts : List Token). dump_from len ts d) c.in_default-token_from.ensures
    ∙ ends_among d len false open'
