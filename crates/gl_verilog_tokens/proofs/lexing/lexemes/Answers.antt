-- A byte more, and the end of the text, which completes the tokens.
use Rattle.std.proofs.Common.{◌≡◌, ℕ, ◌+◌, ◌++◌, length, take, sym, subst, arith}
use Rattle.gl_verilog.specs.Tokens.{to, scan, Between}
use Rattle.gl_verilog_tokens.specs.View.{tokens_in}
use Rattle.gl_verilog_tokens.specs.Lexed.{mode_of}
use Rattle.gl_verilog_tokens.specs.Placed.{places_in, opened, ArePlaces, AreSoFar}
use Rattle.gl_verilog_tokens.proofs.LexSteps.{scan_next, scan_ends}
use Rattle.gl_verilog_tokens.proofs.Places.{places_next, places_end, count_is}
use Rattle.gl_verilog_tokens.proofs.lexing.lexemes.Goals as goal

pub loop-at-preserved : goal.loop-at-preserved
loop-at-preserved c =
    let text = c.args.text.now in
    let at = c.loop-at.at in
    let out = c.loop-at.out.items in
    let more = c.advance.new.out.items in
    let next = c.in_ok-standing.standing in
    let same : scan Between (take (at + 1) text) ≡ to (mode_of text (at + 1) next) (tokens_in more) =
    scan_next text at (mode_of text at c.loop-at.standing) (mode_of text (at + 1) next) (tokens_in out) (tokens_in more) c.loop-at-test.true c.in_ok-standing.ensures.mode c.in_ok-standing.ensures.tokens c.loop-at.invariant.same in
    record {
      inside = c.in_ok-standing.ensures.inside;
      same = same;
      places = places_next text at (places_in out ++ opened c.loop-at.standing) (places_in more ++ opened next) (count_is text at c.loop-at.standing out c.loop-at.invariant.same) (count_is text (at + 1) next more same) c.loop-at.invariant.places c.in_ok-standing.ensures.places;
    }

pub returns-clause-tokens : goal.returns-clause-tokens
returns-clause-tokens c =
    let text = c.args.text.now in
    let full : c.loop-at.at ≡ length text = omega arith in
    scan_ends text (mode_of text (length text) c.loop-at.standing) (tokens_in c.loop-at.out.items) (tokens_in c.end.new.out.items)
    (subst (λ (n : ℕ). scan Between (take n text) ≡ to (mode_of text n c.loop-at.standing) (tokens_in c.loop-at.out.items)) full c.loop-at.invariant.same)
    c.in_ok-end.ensures.tokens

pub returns-clause-places : goal.returns-clause-places
returns-clause-places c =
    let text = c.args.text.now in
    let full : c.loop-at.at ≡ length text = omega arith in
    subst (ArePlaces text) (sym c.in_ok-end.ensures.places)
    (places_end text (places_in c.loop-at.out.items ++ opened c.loop-at.standing)
    (subst (λ (n : ℕ). AreSoFar text n (places_in c.loop-at.out.items ++ opened c.loop-at.standing)) full c.loop-at.invariant.places))
