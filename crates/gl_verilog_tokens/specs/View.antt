-- What the values stand for: tokens and written modules.
use Rattle.std.specs.Prelude.{ℕ, List, [], ◌∷◌, map, Option, option_map}
use Rattle.gl_verilog.specs.Tokens as tokens
use Rattle.gl_verilog.specs.Written as written
use Rattle.gl_verilog_tokens.specs.declared.token.Word.{Word}
use Rattle.gl_verilog_tokens.specs.declared.token.Keyword.{Keyword}
use Rattle.gl_verilog_tokens.specs.declared.token.Keyword.TheVariants as keyword_is
use Rattle.gl_verilog_tokens.specs.declared.token.Sign.{Sign}
use Rattle.gl_verilog_tokens.specs.declared.token.Sign.TheVariants as sign_is
use Rattle.gl_verilog_tokens.specs.declared.token.Token.{Token}
use Rattle.gl_verilog_tokens.specs.declared.token.Token.TheVariants as token_is
use Rattle.gl_verilog_tokens.specs.declared.token.Lexeme.{Lexeme}
use Rattle.gl_verilog_tokens.specs.declared.written.PrefixOp.{PrefixOp}
use Rattle.gl_verilog_tokens.specs.declared.written.PrefixOp.TheVariants as prefix_is
use Rattle.gl_verilog_tokens.specs.declared.written.InfixOp.{InfixOp}
use Rattle.gl_verilog_tokens.specs.declared.written.InfixOp.TheVariants as infix_is
use Rattle.gl_verilog_tokens.specs.declared.written.WrittenExpr.{WrittenExpr, Named, Constant, BitOf, PartOf, WordOf', Braces', Parens', Prefix', Infix', Conditional', Row_of-WrittenExpr, end_of-WrittenExpr, more_of-WrittenExpr}
use Rattle.gl_verilog_tokens.specs.declared.written.WrittenStatement.{WrittenStatement, Update, UpdateWord, IfThen', IfElse', Block', Row_of-WrittenStatement, end_of-WrittenStatement, more_of-WrittenStatement}
use Rattle.gl_verilog_tokens.specs.declared.written.Direction.{Direction}
use Rattle.gl_verilog_tokens.specs.declared.written.Direction.TheVariants as direction_is
use Rattle.gl_verilog_tokens.specs.declared.written.WrittenPort.{WrittenPort}
use Rattle.gl_verilog_tokens.specs.declared.written.WrittenItem.{WrittenItem}
use Rattle.gl_verilog_tokens.specs.declared.written.WrittenItem.TheVariants as item_is
use Rattle.gl_verilog_tokens.specs.declared.written.WrittenModule.{WrittenModule}

-- ---- tokens

-- the reserved word that the code's value names
abbrev pub keyword_of : Keyword → tokens.Keyword
keyword_of keyword_is.Module = tokens.ModuleWord
keyword_of keyword_is.EndModule = tokens.EndModuleWord
keyword_of keyword_is.Input = tokens.InputWord
keyword_of keyword_is.Output = tokens.OutputWord
keyword_of keyword_is.Wire = tokens.WireWord
keyword_of keyword_is.Reg = tokens.RegWord
keyword_of keyword_is.Assign = tokens.AssignWord
keyword_of keyword_is.Always = tokens.AlwaysWord
keyword_of keyword_is.Posedge = tokens.PosedgeWord
keyword_of keyword_is.Begin = tokens.BeginWord
keyword_of keyword_is.End = tokens.EndWord
keyword_of keyword_is.If = tokens.IfWord
keyword_of keyword_is.Else = tokens.ElseWord

-- the sign that the code's value names
abbrev pub sign_of : Sign → tokens.Sign
sign_of sign_is.OpenParen = tokens.OpenParen
sign_of sign_is.CloseParen = tokens.CloseParen
sign_of sign_is.OpenBracket = tokens.OpenBracket
sign_of sign_is.CloseBracket = tokens.CloseBracket
sign_of sign_is.OpenBrace = tokens.OpenBrace
sign_of sign_is.CloseBrace = tokens.CloseBrace
sign_of sign_is.Semicolon = tokens.Semicolon
sign_of sign_is.Comma = tokens.Comma
sign_of sign_is.Colon = tokens.Colon
sign_of sign_is.Question = tokens.Question
sign_of sign_is.At = tokens.At
sign_of sign_is.Equals = tokens.Equals
sign_of sign_is.Tilde = tokens.Tilde
sign_of sign_is.Exclamation = tokens.Exclamation
sign_of sign_is.Star = tokens.Star
sign_of sign_is.Plus = tokens.Plus
sign_of sign_is.Minus = tokens.Minus
sign_of sign_is.Less = tokens.Less
sign_of sign_is.Greater = tokens.Greater
sign_of sign_is.Ampersand = tokens.Ampersand
sign_of sign_is.Caret = tokens.Caret
sign_of sign_is.Bar = tokens.Bar
sign_of sign_is.LessEquals = tokens.LessEquals
sign_of sign_is.GreaterEquals = tokens.GreaterEquals
sign_of sign_is.EqualsEquals = tokens.EqualsEquals
sign_of sign_is.ExclamationEquals = tokens.ExclamationEquals
sign_of sign_is.AmpersandAmpersand = tokens.AmpersandAmpersand
sign_of sign_is.BarBar = tokens.BarBar

-- the token that the code's value stands for
abbrev pub token_of : Token → tokens.Token
token_of (token_is.Reserved word) = tokens.Reserved (keyword_of word)
token_of (token_is.Name word) = tokens.Name word.bytes.now
token_of (token_is.Number word) = tokens.Number word.bytes.now
token_of (token_is.Sized size radix digits) = tokens.Sized size.bytes.now radix digits.bytes.now
token_of (token_is.Mark sign) = tokens.Mark (sign_of sign)
token_of token_is.Never = tokens.Never

-- the tokens of the code's list, without their places
abbrev pub tokens_in : List Lexeme → List tokens.Token
tokens_in lexemes = map (λ l. token_of l.token) lexemes

-- ---- written modules

-- the prefix operator that the code's value names
abbrev pub prefix_of : PrefixOp → written.PrefixOp
prefix_of prefix_is.BitNot = written.BitNot
prefix_of prefix_is.LogicalNot = written.LogicalNot

-- the operator between two operands that the code's value names
abbrev pub infix_of : InfixOp → written.InfixOp
infix_of infix_is.Times = written.Times
infix_of infix_is.Added = written.Added
infix_of infix_is.Subtracted = written.Subtracted
infix_of infix_is.Below = written.Below
infix_of infix_is.AtMost = written.AtMost
infix_of infix_is.Above = written.Above
infix_of infix_is.AtLeast = written.AtLeast
infix_of infix_is.Equal = written.Equal
infix_of infix_is.NotEqual = written.NotEqual
infix_of infix_is.BitAnd = written.BitAnd
infix_of infix_is.BitXor = written.BitXor
infix_of infix_is.BitOr = written.BitOr
infix_of infix_is.LogicalAnd = written.LogicalAnd
infix_of infix_is.LogicalOr = written.LogicalOr

-- parts, one or more
abbrev pub parts_list : List written.WrittenExpr → written.WrittenExpr
parts_list [] = written.Named []
parts_list (p ∷ []) = p
parts_list (p ∷ q ∷ ps) = written.Parts p (parts_list (q ∷ ps))

unfoldable mutual
  -- the written expression that a boxed one stands for
  pub expr_of : WrittenExpr → written.WrittenExpr
  expr_of (Named name) = written.Named name.bytes.now
  expr_of (Constant size radix digits) = written.Constant size.bytes.now radix digits.bytes.now
  expr_of (BitOf name place) = written.BitOf name.bytes.now place.bytes.now
  expr_of (PartOf name high low) = written.PartOf name.bytes.now high.bytes.now low.bytes.now
  expr_of (WordOf' name p address) = written.WordOf name.bytes.now (expr_of address)
  expr_of (Braces' at shape row) = written.Braces (parts_list (exprs_of row))
  expr_of (Parens' p inner) = written.Parens (expr_of inner)
  expr_of (Prefix' op at p arg) = written.Prefix (prefix_of op) (expr_of arg)
  expr_of (Infix' op at p left q right) = written.Infix (infix_of op) (expr_of left) (expr_of right)
  expr_of (Conditional' at p test q yes' r no') = written.Conditional (expr_of test) (expr_of yes') (expr_of no')

  -- the written expressions of a row, in their order
  pub exprs_of : {m : _} → Row_of-WrittenExpr m → List written.WrittenExpr
  exprs_of end_of-WrittenExpr = []
  exprs_of (more_of-WrittenExpr e rest) = expr_of e ∷ exprs_of rest

unfoldable mutual
  -- the written statement that a boxed one stands for
  pub statement_of : WrittenStatement → written.WrittenStatement
  statement_of (Update target value) = written.Update target.bytes.now (expr_of value)
  statement_of (UpdateWord target address value) = written.UpdateWord target.bytes.now (expr_of address) (expr_of value)
  statement_of (IfThen' at test p yes') = written.IfThen (expr_of test) (statement_of yes')
  statement_of (IfElse' at test p yes' q no') = written.IfElse (expr_of test) (statement_of yes') (statement_of no')
  statement_of (Block' shape row) = written.Block (written.listed (statements_of row))

  -- the written statements of a row, in their order
  pub statements_of : {m : _} → Row_of-WrittenStatement m → List written.WrittenStatement
  statements_of end_of-WrittenStatement = []
  statements_of (more_of-WrittenStatement s rest) = statement_of s ∷ statements_of rest

-- the bytes of a word
abbrev pub name_of : Word → List ℕ
name_of word = word.bytes.now

-- the bytes of each word
abbrev pub names_of : List Word → List (List ℕ)
names_of words = map name_of words

-- the digits of a range's high bit, where there is a range
abbrev pub range_of : Option Word → written.Range
range_of range = option_map name_of range

-- the direction that the code's value names
abbrev pub direction_of : Direction → written.Direction
direction_of direction_is.In = written.In
direction_of direction_is.InWire = written.InWire
direction_of direction_is.Out = written.Out
direction_of direction_is.OutWire = written.OutWire
direction_of direction_is.OutReg = written.OutReg

-- the written port that the code's value stands for
unfoldable pub port_of : WrittenPort → written.WrittenPort
port_of p = record { direction = direction_of p.direction; range = range_of p.range; name = name_of p.name }

-- the written item that the code's value stands for
unfoldable pub item_of : WrittenItem → written.WrittenItem
item_of (item_is.Wires range names) = written.Wires (range_of range) (names_of names.items)
item_of (item_is.Registers range names) = written.Registers (range_of range) (names_of names.items)
item_of (item_is.MemoryOf range name last) = written.MemoryOf (range_of range) (name_of name) (name_of last)
item_of (item_is.Assign target value) = written.Assign (name_of target) (expr_of value)
item_of (item_is.Always clock body) = written.Always (name_of clock) (statement_of body)

-- the written module that the code's value stands for
abbrev pub module_of : WrittenModule → written.WrittenModule
module_of m = record { name = name_of m.name; ports = map port_of m.ports.items; items = map item_of m.items.items }
