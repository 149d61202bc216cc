use Rattle.std.proofs.Common.{ℕ, List, ◌+◌, ap, eqb-true, length, pos_of_ne-zero, subst, sym, ◌∙◌}
use Rattle.std.proofs.lemmas.Bool.{eqb-false}
use Rattle.std.specs.List.{position_or_len}
use Rattle.gl_vcd.proofs.Lexed.{IsFound, is_dark, none_found, token_found}
use Rattle.gl_vcd.proofs.tokens.token_from.Goals as goal

pub returns-then-is_empty : goal.returns-then-is_empty
returns-then-is_empty c =
    none_found c.args.text.now c.split_at-2.result.1.now c.args.from c.blank_len.result (c.blank_len.ensures.place ∙ ap (position_or_len is_dark) c.split_at.ensures.back) c.split_at-2.ensures.back
    (eqb-true (length c.split_at-2.result.1.now) 0 (sym c.is_empty.ensures ∙ c.if-is_empty.true))

pub returns : goal.returns
returns c =
    subst (λ (bytes : List ℕ). IsFound c.args.text.now c.args.from (c.args.from + c.blank_len.result) (c.args.from + c.blank_len.result + c.word_len-len.result) bytes) (sym c.split_at-3.ensures.front)
    (token_found c.args.text.now c.split_at-2.result.1.now c.args.from c.blank_len.result c.word_len-len.result c.requires (c.blank_len.ensures.place ∙ ap (position_or_len is_dark) c.split_at.ensures.back)
    c.split_at-2.ensures.back c.word_len-len.ensures.place (let ne = eqb-false (length c.split_at-2.result.1.now) 0 (sym c.is_empty.ensures ∙ c.if-is_empty.false) in pos_of_ne-zero ne))
