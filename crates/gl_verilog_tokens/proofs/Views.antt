-- What each value stands for, by its variant.
use Rattle.std.proofs.Common.{◌≡◌, ℕ, List, ◌∷◌, Option, Vec, Global, Box, refl, ap, ◌∙◌}
use Rattle.std.specs.Prelude.{map}
use mathlib.Core.Former.{Count}
use Rattle.gl_verilog.specs.Written as written
use Rattle.gl_verilog_tokens.specs.declared.token.Word.{Word}
use Rattle.gl_verilog_tokens.specs.declared.written.PrefixOp.{PrefixOp}
use Rattle.gl_verilog_tokens.specs.declared.written.InfixOp.{InfixOp}
use Rattle.gl_verilog_tokens.specs.declared.written.WrittenExpr as expr
use Rattle.gl_verilog_tokens.specs.declared.written.WrittenExpr.{WrittenExpr, Braces, Braces', Row_of-WrittenExpr, end_of-WrittenExpr, more_of-WrittenExpr, items-the_row-WrittenExpr, items_hidden-the_row-WrittenExpr-0}
use Rattle.gl_verilog_tokens.specs.declared.written.WrittenStatement as stmt
use Rattle.gl_verilog_tokens.specs.declared.written.WrittenStatement.{WrittenStatement, Block, Block', Row_of-WrittenStatement, end_of-WrittenStatement, more_of-WrittenStatement, items-the_row-WrittenStatement, items_hidden-the_row-WrittenStatement-0}
use Rattle.gl_verilog_tokens.specs.declared.written.WrittenPort.{WrittenPort}
use Rattle.gl_verilog_tokens.specs.declared.written.WrittenItem.TheVariants as item_is
use Rattle.gl_verilog_tokens.specs.View.{prefix_of, infix_of, expr_of, exprs_of, statement_of, statements_of, parts_list, name_of, names_of, range_of, direction_of, port_of, item_of}

pub item-Wires : (range : Option Word) (names : Vec Word Global) → item_of (item_is.Wires range names) ≡ written.Wires (range_of range) (names_of names.items)
unfolding item_of
item-Wires range names = refl

pub item-Registers : (range : Option Word) (names : Vec Word Global) → item_of (item_is.Registers range names) ≡ written.Registers (range_of range) (names_of names.items)
unfolding item_of
item-Registers range names = refl

pub item-MemoryOf : (range : Option Word) (name : Word) (last : Word) → item_of (item_is.MemoryOf range name last) ≡ written.MemoryOf (range_of range) (name_of name) (name_of last)
unfolding item_of
item-MemoryOf range name last = refl

pub item-Assign : (target : Word) (value : WrittenExpr) → item_of (item_is.Assign target value) ≡ written.Assign (name_of target) (expr_of value)
unfolding item_of
item-Assign target value = refl

pub item-Always : (clock : Word) (body : WrittenStatement) → item_of (item_is.Always clock body) ≡ written.Always (name_of clock) (statement_of body)
unfolding item_of
item-Always clock body = refl

pub expr-Named : (name : Word) → expr_of (expr.Named name) ≡ written.Named (name_of name)
unfolding expr_of
expr-Named name = refl

pub expr-Constant : (size : Word) (radix : ℕ) (digits : Word) → expr_of (expr.Constant size radix digits) ≡ written.Constant (name_of size) radix (name_of digits)
unfolding expr_of
expr-Constant size radix digits = refl

pub expr-BitOf : (name place : Word) → expr_of (expr.BitOf name place) ≡ written.BitOf (name_of name) (name_of place)
unfolding expr_of
expr-BitOf name place = refl

pub expr-PartOf : (name high low : Word) → expr_of (expr.PartOf name high low) ≡ written.PartOf (name_of name) (name_of high) (name_of low)
unfolding expr_of
expr-PartOf name high low = refl

pub expr-WordOf : (name : Word) (address : Box WrittenExpr Global) → expr_of (expr.WordOf name address) ≡ written.WordOf (name_of name) (expr_of address.value)
unfolding expr_of
expr-WordOf name address = refl

pub expr-Parens : (inner : Box WrittenExpr Global) → expr_of (expr.Parens inner) ≡ written.Parens (expr_of inner.value)
unfolding expr_of
expr-Parens inner = refl

pub statement-Update : (target : Word) (value : WrittenExpr) → statement_of (stmt.Update target value) ≡ written.Update (name_of target) (expr_of value)
unfolding statement_of
statement-Update target value = refl

pub statement-UpdateWord : (target : Word) (address value : WrittenExpr) → statement_of (stmt.UpdateWord target address value) ≡ written.UpdateWord (name_of target) (expr_of address) (expr_of value)
unfolding statement_of
statement-UpdateWord target address value = refl

pub port-is : (p : WrittenPort) → port_of p ≡ record { direction = direction_of p.direction; range = range_of p.range; name = name_of p.name }
unfolding port_of
port-is p = refl

pub expr-Prefix : (op : PrefixOp) (at : ℕ) (arg : Box WrittenExpr Global) → expr_of (expr.Prefix op at arg) ≡ written.Prefix (prefix_of op) (expr_of arg.value)
unfolding expr_of
expr-Prefix op at arg = refl

pub expr-Infix : (op : InfixOp) (at : ℕ) (left right : Box WrittenExpr Global) → expr_of (expr.Infix op at left right) ≡ written.Infix (infix_of op) (expr_of left.value) (expr_of right.value)
unfolding expr_of
expr-Infix op at left right = refl

pub expr-Conditional : (at : ℕ) (test yes' no' : Box WrittenExpr Global) → expr_of (expr.Conditional at test yes' no') ≡ written.Conditional (expr_of test.value) (expr_of yes'.value) (expr_of no'.value)
unfolding expr_of
expr-Conditional at test yes' no' = refl

pub statement-IfThen : (at : ℕ) (test : WrittenExpr) (yes' : Box WrittenStatement Global) → statement_of (stmt.IfThen at test yes') ≡ written.IfThen (expr_of test) (statement_of yes'.value)
unfolding statement_of
statement-IfThen at test yes' = refl

pub statement-IfElse : (at : ℕ) (test : WrittenExpr) (yes' no' : Box WrittenStatement Global) → statement_of (stmt.IfElse at test yes' no') ≡ written.IfElse (expr_of test) (statement_of yes'.value) (statement_of no'.value)
unfolding statement_of
statement-IfElse at test yes' no' = refl

-- ---- trees of lists

exprs-are : (n : Count) (row : Row_of-WrittenExpr n) → exprs_of row ≡ map expr_of (items-the_row-WrittenExpr n row)
unfolding expr_of
exprs-are n end_of-WrittenExpr = refl
exprs-are n (more_of-WrittenExpr e rest) = ap (λ (x : List written.WrittenExpr). expr_of e ∷ x) (exprs-are _ rest)

abbrev expr_row : WrittenExpr → (n : Count) × Row_of-WrittenExpr n
expr_row (Braces' at shape row) = (_, row)
expr_row _ = (_, end_of-WrittenExpr)

pub braces_are : (at : ℕ) (parts : Vec WrittenExpr Global) → expr_of (Braces at parts) ≡ written.Braces (parts_list (map expr_of parts.items))
unfolding expr_of
braces_are at parts =
    let row = expr_row (Braces at parts) in
    ap (λ (x : List written.WrittenExpr). written.Braces (parts_list x)) (exprs-are row.0 row.1)
    ∙ ap (λ (x : List WrittenExpr). written.Braces (parts_list (map expr_of x))) (items_hidden-the_row-WrittenExpr-0 parts)

statements-are : (n : Count) (row : Row_of-WrittenStatement n) → statements_of row ≡ map statement_of (items-the_row-WrittenStatement n row)
unfolding statement_of
statements-are n end_of-WrittenStatement = refl
statements-are n (more_of-WrittenStatement s rest) = ap (λ (x : List written.WrittenStatement). statement_of s ∷ x) (statements-are _ rest)

abbrev statement_row : WrittenStatement → (n : Count) × Row_of-WrittenStatement n
statement_row (Block' shape row) = (_, row)
statement_row _ = (_, end_of-WrittenStatement)

pub block_is : (statements : Vec WrittenStatement Global) → statement_of (Block statements) ≡ written.Block (written.listed (map statement_of statements.items))
unfolding statement_of
block_is statements =
    let row = statement_row (Block statements) in
    ap (λ (x : List written.WrittenStatement). written.Block (written.listed x)) (statements-are row.0 row.1)
    ∙ ap (λ (x : List WrittenStatement). written.Block (written.listed (map statement_of x))) (items_hidden-the_row-WrittenStatement-0 statements)

pub ruleset items = (item-Wires, item-Registers, item-MemoryOf, item-Assign, item-Always, port-is)

pub ruleset exprs = (expr-Named, expr-Constant, expr-BitOf, expr-PartOf, expr-WordOf, expr-Parens, statement-Update, statement-UpdateWord)

pub ruleset expressions = (expr-Named, expr-Constant, expr-BitOf, expr-PartOf, expr-WordOf, expr-Parens, expr-Prefix, expr-Infix, expr-Conditional, braces_are)

pub ruleset statements = (statement-Update, statement-UpdateWord, statement-IfThen, statement-IfElse)
