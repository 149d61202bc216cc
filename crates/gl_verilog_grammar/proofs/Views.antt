-- What each value stands for, by its variant.
use Rattle.std.proofs.Common.{◌≡◌, ℕ, Option, Vec, Box, Global, refl}
use Rattle.std.specs.Prelude.{map}
use Rattle.gl_verilog_grammar.specs.Machine as machine
use Rattle.gl_verilog_tokens.specs.declared.token.Word.{Word}
use Rattle.gl_verilog_tokens.specs.declared.written.PrefixOp.{PrefixOp}
use Rattle.gl_verilog_tokens.specs.declared.written.InfixOp.{InfixOp}
use Rattle.gl_verilog_tokens.specs.declared.written.WrittenExpr.{WrittenExpr}
use Rattle.gl_verilog_tokens.specs.declared.written.WrittenStatement.{WrittenStatement}
use Rattle.gl_verilog_grammar.specs.declared.frames.Frame.TheVariants as frame_is
use Rattle.gl_verilog_grammar.specs.declared.stage.Sort.{Sort}
use Rattle.gl_verilog_grammar.specs.declared.stage.Owner.{Owner}
use Rattle.gl_verilog_grammar.specs.declared.stage.Plain.{Plain}
use Rattle.gl_verilog_grammar.specs.declared.stage.Plain.TheVariants as plain_is
use Rattle.gl_verilog_grammar.specs.declared.stage.Stage.TheVariants as stage_is
use Rattle.gl_verilog_tokens.specs.View.{prefix_of, infix_of, expr_of, statement_of, name_of, names_of, range_of}
use Rattle.gl_verilog_grammar.specs.View.{frame_of, sort_of, owner_of, plain_of, stage_of}

pub plain-WantModule : plain_of plain_is.WantModule ≡ machine.WantModule
unfolding plain_of
plain-WantModule = refl

pub plain-WantTitle : plain_of plain_is.WantTitle ≡ machine.WantTitle
unfolding plain_of
plain-WantTitle = refl

pub plain-WantPorts : plain_of plain_is.WantPorts ≡ machine.WantPorts
unfolding plain_of
plain-WantPorts = refl

pub plain-WantPort : plain_of plain_is.WantPort ≡ machine.WantPort
unfolding plain_of
plain-WantPort = refl

pub plain-Declaring : (owner : Owner) → plain_of (plain_is.Declaring owner) ≡ machine.Declaring (owner_of owner)
unfolding plain_of
plain-Declaring owner = refl

pub plain-WantHigh : (owner : Owner) → plain_of (plain_is.WantHigh owner) ≡ machine.WantHigh (owner_of owner)
unfolding plain_of
plain-WantHigh owner = refl

pub plain-WantColon : (owner : Owner) (high : Word) → plain_of (plain_is.WantColon owner high) ≡ machine.WantColon (owner_of owner) (name_of high)
unfolding plain_of
plain-WantColon owner high = refl

pub plain-WantZero : (owner : Owner) (high : Word) → plain_of (plain_is.WantZero owner high) ≡ machine.WantZero (owner_of owner) (name_of high)
unfolding plain_of
plain-WantZero owner high = refl

pub plain-WantClose : (owner : Owner) (high : Word) → plain_of (plain_is.WantClose owner high) ≡ machine.WantClose (owner_of owner) (name_of high)
unfolding plain_of
plain-WantClose owner high = refl

pub plain-WantName : (owner : Owner) (range : Option Word) → plain_of (plain_is.WantName owner range) ≡ machine.WantName (owner_of owner) (range_of range)
unfolding plain_of
plain-WantName owner range = refl

pub plain-AfterPort : plain_of plain_is.AfterPort ≡ machine.AfterPort
unfolding plain_of
plain-AfterPort = refl

pub plain-AfterPorts : plain_of plain_is.AfterPorts ≡ machine.AfterPorts
unfolding plain_of
plain-AfterPorts = refl

pub plain-WantFirst : (range : Option Word) (name : Word) → plain_of (plain_is.WantFirst range name) ≡ machine.WantFirst (range_of range) (name_of name)
unfolding plain_of
plain-WantFirst range name = refl

pub plain-WantMemoryColon : (range : Option Word) (name : Word) → plain_of (plain_is.WantMemoryColon range name) ≡ machine.WantMemoryColon (range_of range) (name_of name)
unfolding plain_of
plain-WantMemoryColon range name = refl

pub plain-WantLast : (range : Option Word) (name : Word) → plain_of (plain_is.WantLast range name) ≡ machine.WantLast (range_of range) (name_of name)
unfolding plain_of
plain-WantLast range name = refl

pub plain-WantMemoryClose : (range : Option Word) (name : Word) (last : Word) → plain_of (plain_is.WantMemoryClose range name last) ≡ machine.WantMemoryClose (range_of range) (name_of name) (name_of last)
unfolding plain_of
plain-WantMemoryClose range name last = refl

pub plain-WantMemoryEnd : (range : Option Word) (name : Word) (last : Word) → plain_of (plain_is.WantMemoryEnd range name last) ≡ machine.WantMemoryEnd (range_of range) (name_of name) (name_of last)
unfolding plain_of
plain-WantMemoryEnd range name last = refl

pub plain-WantItem : plain_of plain_is.WantItem ≡ machine.WantItem
unfolding plain_of
plain-WantItem = refl

pub plain-WantAssigned : plain_of plain_is.WantAssigned ≡ machine.WantAssigned
unfolding plain_of
plain-WantAssigned = refl

pub plain-WantEquals : (target : Word) → plain_of (plain_is.WantEquals target) ≡ machine.WantEquals (name_of target)
unfolding plain_of
plain-WantEquals target = refl

pub plain-WantAt : plain_of plain_is.WantAt ≡ machine.WantAt
unfolding plain_of
plain-WantAt = refl

pub plain-WantEdge : plain_of plain_is.WantEdge ≡ machine.WantEdge
unfolding plain_of
plain-WantEdge = refl

pub plain-WantPosedge : plain_of plain_is.WantPosedge ≡ machine.WantPosedge
unfolding plain_of
plain-WantPosedge = refl

pub plain-WantClock : plain_of plain_is.WantClock ≡ machine.WantClock
unfolding plain_of
plain-WantClock = refl

pub plain-WantEdgeEnd : (clock : Word) → plain_of (plain_is.WantEdgeEnd clock) ≡ machine.WantEdgeEnd (name_of clock)
unfolding plain_of
plain-WantEdgeEnd clock = refl

pub plain-WantStatement : plain_of plain_is.WantStatement ≡ machine.WantStatement
unfolding plain_of
plain-WantStatement = refl

pub plain-AfterTarget : (target : Word) → plain_of (plain_is.AfterTarget target) ≡ machine.AfterTarget (name_of target)
unfolding plain_of
plain-AfterTarget target = refl

pub plain-WantTest : (at : ℕ) → plain_of (plain_is.WantTest at) ≡ machine.WantTest
unfolding plain_of
plain-WantTest at = refl

pub plain-WantOperand : plain_of plain_is.WantOperand ≡ machine.WantOperand
unfolding plain_of
plain-WantOperand = refl

pub plain-AtIndex : (name : Word) → plain_of (plain_is.AtIndex name) ≡ machine.AtIndex (name_of name)
unfolding plain_of
plain-AtIndex name = refl

pub plain-AtPlace : (name : Word) (place : Word) → plain_of (plain_is.AtPlace name place) ≡ machine.AtPlace (name_of name) (name_of place)
unfolding plain_of
plain-AtPlace name place = refl

pub plain-WantLow : (name : Word) (high : Word) → plain_of (plain_is.WantLow name high) ≡ machine.WantLow (name_of name) (name_of high)
unfolding plain_of
plain-WantLow name high = refl

pub plain-AtPart : (name : Word) (high : Word) (low : Word) → plain_of (plain_is.AtPart name high low) ≡ machine.AtPart (name_of name) (name_of high) (name_of low)
unfolding plain_of
plain-AtPart name high low = refl

pub plain-Complete : plain_of plain_is.Complete ≡ machine.Complete
unfolding plain_of
plain-Complete = refl

pub stage-Plain : (plain : Plain) → stage_of (stage_is.Plain plain) ≡ plain_of plain
unfolding stage_of
stage-Plain plain = refl

pub stage-AfterName : (sort : Sort) (range : Option Word) (names : Vec Word Global) → stage_of (stage_is.AfterName sort range names) ≡ machine.AfterName (sort_of sort) (range_of range) (names_of names.items)
unfolding stage_of
stage-AfterName sort range names = refl

pub stage-WantMore : (sort : Sort) (range : Option Word) (names : Vec Word Global) → stage_of (stage_is.WantMore sort range names) ≡ machine.WantMore (sort_of sort) (range_of range) (names_of names.items)
unfolding stage_of
stage-WantMore sort range names = refl

pub stage-WantArrow : (target : Word) (address : Box WrittenExpr Global) → stage_of (stage_is.WantArrow target address) ≡ machine.WantArrow (name_of target) (expr_of address.value)
unfolding stage_of
stage-WantArrow target address = refl

pub stage-HaveStatement : (statement : Box WrittenStatement Global) → stage_of (stage_is.HaveStatement statement) ≡ machine.HaveStatement (statement_of statement.value)
unfolding stage_of
stage-HaveStatement statement = refl

pub stage-HaveOperand : (operand : Box WrittenExpr Global) → stage_of (stage_is.HaveOperand operand) ≡ machine.HaveOperand (expr_of operand.value)
unfolding stage_of
stage-HaveOperand operand = refl

pub frame-InParens : frame_of frame_is.InParens ≡ machine.InParens
unfolding frame_of
frame-InParens = refl

pub frame-InBraces : (at : ℕ) (parts : Vec WrittenExpr Global) → frame_of (frame_is.InBraces at parts) ≡ machine.InBraces (map expr_of parts.items)
unfolding frame_of
frame-InBraces at parts = refl

pub frame-InIndex : (name : Word) → frame_of (frame_is.InIndex name) ≡ machine.InIndex (name_of name)
unfolding frame_of
frame-InIndex name = refl

pub frame-PrefixOf : (op : PrefixOp) (at : ℕ) → frame_of (frame_is.PrefixOf op at) ≡ machine.PrefixOf (prefix_of op)
unfolding frame_of
frame-PrefixOf op at = refl

pub frame-InfixOf : (op : InfixOp) (at : ℕ) (left : Box WrittenExpr Global) → frame_of (frame_is.InfixOf op at left) ≡ machine.InfixOf (infix_of op) (expr_of left.value)
unfolding frame_of
frame-InfixOf op at left = refl

pub frame-TestOf : (at : ℕ) (test : Box WrittenExpr Global) → frame_of (frame_is.TestOf at test) ≡ machine.TestOf (expr_of test.value)
unfolding frame_of
frame-TestOf at test = refl

pub frame-ColonOf : (at : ℕ) (test : Box WrittenExpr Global) (yes' : Box WrittenExpr Global) → frame_of (frame_is.ColonOf at test yes') ≡ machine.ColonOf (expr_of test.value) (expr_of yes'.value)
unfolding frame_of
frame-ColonOf at test yes' = refl

pub frame-AssignTo : (target : Word) → frame_of (frame_is.AssignTo target) ≡ machine.AssignTo (name_of target)
unfolding frame_of
frame-AssignTo target = refl

pub frame-UpdateTo : (target : Word) → frame_of (frame_is.UpdateTo target) ≡ machine.UpdateTo (name_of target)
unfolding frame_of
frame-UpdateTo target = refl

pub frame-AddressFor : (target : Word) → frame_of (frame_is.AddressFor target) ≡ machine.AddressFor (name_of target)
unfolding frame_of
frame-AddressFor target = refl

pub frame-UpdateWordTo : (target : Word) (address : Box WrittenExpr Global) → frame_of (frame_is.UpdateWordTo target address) ≡ machine.UpdateWordTo (name_of target) (expr_of address.value)
unfolding frame_of
frame-UpdateWordTo target address = refl

pub frame-IfTest : (at : ℕ) → frame_of (frame_is.IfTest at) ≡ machine.IfTest
unfolding frame_of
frame-IfTest at = refl

pub frame-ThenOf : (at : ℕ) (test : Box WrittenExpr Global) → frame_of (frame_is.ThenOf at test) ≡ machine.ThenOf (expr_of test.value)
unfolding frame_of
frame-ThenOf at test = refl

pub frame-ElseOf : (at : ℕ) (test : Box WrittenExpr Global) (yes' : Box WrittenStatement Global) → frame_of (frame_is.ElseOf at test yes') ≡ machine.ElseOf (expr_of test.value) (statement_of yes'.value)
unfolding frame_of
frame-ElseOf at test yes' = refl

pub frame-InBegin : (done : Vec WrittenStatement Global) → frame_of (frame_is.InBegin done) ≡ machine.InBegin (map statement_of done.items)
unfolding frame_of
frame-InBegin done = refl

pub frame-BodyOf : (clock : Word) → frame_of (frame_is.BodyOf clock) ≡ machine.BodyOf (name_of clock)
unfolding frame_of
frame-BodyOf clock = refl

pub ruleset plains = (plain-WantModule, plain-WantTitle, plain-WantPorts, plain-WantPort, plain-Declaring, plain-WantHigh, plain-WantColon, plain-WantZero, plain-WantClose, plain-WantName, plain-AfterPort, plain-AfterPorts, plain-WantFirst, plain-WantMemoryColon, plain-WantLast, plain-WantMemoryClose, plain-WantMemoryEnd, plain-WantItem, plain-WantAssigned, plain-WantEquals, plain-WantAt, plain-WantEdge, plain-WantPosedge, plain-WantClock, plain-WantEdgeEnd, plain-WantStatement, plain-AfterTarget, plain-WantTest, plain-WantOperand, plain-AtIndex, plain-AtPlace, plain-WantLow, plain-AtPart, plain-Complete)

pub ruleset stages = (plain-WantModule, plain-WantTitle, plain-WantPorts, plain-WantPort, plain-Declaring, plain-WantHigh, plain-WantColon, plain-WantZero, plain-WantClose, plain-WantName, plain-AfterPort, plain-AfterPorts, plain-WantFirst, plain-WantMemoryColon, plain-WantLast, plain-WantMemoryClose, plain-WantMemoryEnd, plain-WantItem, plain-WantAssigned, plain-WantEquals, plain-WantAt, plain-WantEdge, plain-WantPosedge, plain-WantClock, plain-WantEdgeEnd, plain-WantStatement, plain-AfterTarget, plain-WantTest, plain-WantOperand, plain-AtIndex, plain-AtPlace, plain-WantLow, plain-AtPart, plain-Complete, stage-Plain, stage-AfterName, stage-WantMore, stage-WantArrow, stage-HaveStatement, stage-HaveOperand)

pub ruleset frames = (frame-InParens, frame-InBraces, frame-InIndex, frame-PrefixOf, frame-InfixOf, frame-TestOf, frame-ColonOf, frame-AssignTo, frame-UpdateTo, frame-AddressFor, frame-UpdateWordTo, frame-IfTest, frame-ThenOf, frame-ElseOf, frame-InBegin, frame-BodyOf)
