use Rattle.std.proofs.Common.{Bool, List, length, sym, ap, subst, ◌∙◌}
use Rattle.std.specs.Prelude.{IsOk}
use Rattle.gl_vcd.specs.Lexing.{token_of, tokens_behind}
use Rattle.gl_vcd.specs.Reading.{dump_from}
use Rattle.gl_vcd.specs.Showings.{lines_left}
use Rattle.gl_vcd.specs.Tokens.{Token}
use Rattle.gl_vcd.proofs.Going.{went_on}
use Rattle.gl_vcd.proofs.Left.{none_left, shown_then}
use Rattle.gl_tuples.proofs.Puts.{failed}
use Rattle.gl_vcd.proofs.OnWay.{way_cut, way_done, way_next, way_same}
use Rattle.gl_vcd.proofs.undumping.show_changes.Goals as goal

pub returns-in_err-show_token : goal.returns-in_err-show_token
returns-in_err-show_token g c = λ r dump k tells.
    let inv = c.loop-token.invariant in
    let len = length c.args.text.now in
    let t = token_of c.in-Some.token in
    let ts = tokens_behind c.args.text.now c.in-Some.behind in
    let w = inv.way r dump k tells in
    let nx = c.show_token.ensures.reads w.read w.keeps in
    let on = ap (λ (xs : List Token). dump_from len xs w.read) c.in-Some.ensures.2 ∙ went_on len t ts w.read nx.read nx.says in
    failed _ _ _ _ c.from_residual.result c.from_residual.ensures.1
    (way_cut _ _ _ _ _ _ _ (shown_then c.loop-token.showing.told len t ts dump w.read nx.read c.loop-token.showing c.loop-token.changing c.show_token.new.changing
    inv.shows inv.same w.keeps nx.keeps c.show_token.ensures.goes nx.says (sym on ∙ w.tells)) w.way c.in_err-show_token.ensures.wrote)

pub loop-token-preserved : goal.loop-token-preserved
loop-token-preserved g c =
    let inv = c.loop-token.invariant in
    let len = length c.args.text.now in
    let t = token_of c.in-Some.token in
    let ts = tokens_behind c.args.text.now c.in-Some.behind in
    let like = c.in_ok-show_token.ensures.like in
    let goes = c.show_token.ensures.goes in
    record {
      inside = c.in-Some.ensures.1;
      shows = like.is;
      ready = goes.ready;
      same = like.signals' ∙ inv.same ∙ sym goes.signals';
      judged =
          (let j = inv.judged in
          let nx = c.show_token.ensures.reads j.read j.keeps in
          let on = ap (λ (xs : List Token). dump_from len xs j.read) c.in-Some.ensures.2 ∙ went_on len t ts j.read nx.read nx.says in
          record { read = nx.read; keeps = nx.keeps; tells = subst (λ d. IsOk d) on j.tells });
      way = λ r dump k tells.
          let w = inv.way r dump k tells in
          let nx = c.show_token.ensures.reads w.read w.keeps in
          let on = ap (λ (xs : List Token). dump_from len xs w.read) c.in-Some.ensures.2 ∙ went_on len t ts w.read nx.read nx.says in
          let parts = shown_then c.loop-token.showing.told len t ts dump w.read nx.read c.loop-token.showing c.loop-token.changing c.show_token.new.changing
          inv.shows inv.same w.keeps nx.keeps goes nx.says (sym on ∙ w.tells) in
          record {
            read = nx.read;
            keeps = nx.keeps;
            tells = sym on ∙ w.tells;
            way = way_same _ _ _ _ _ (ap (λ (b : Bool). lines_left b dump nx.read) (sym c.in_ok-show_token.ensures.told)) (way_next _ _ _ _ _ _ _ parts w.way c.in_ok-show_token.ensures.wrote);
          };
    }

pub returns : goal.returns
returns g c = λ r dump k tells.
    let w = c.loop-token.invariant.way r dump k tells in
    let len = length c.args.text.now in
    way_done _ _ _ _ (none_left len c.loop-token.showing.told dump w.read (sym (ap (λ (xs : List Token). dump_from len xs w.read) c.in_default.ensures) ∙ w.tells)) w.way
