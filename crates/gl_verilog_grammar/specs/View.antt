-- What the values of the reader stand for: what was read so far.
use Rattle.std.specs.Prelude.{◌≡◌, Bool, List, map, reverse, Option, Some, None, Result, IfOk, MatchBool}
use Rattle.gl_verilog.specs.Written as written
use Rattle.gl_verilog_grammar.specs.Machine as machine
use Rattle.gl_verilog_grammar.specs.declared.frames.Frame.{Frame}
use Rattle.gl_verilog_grammar.specs.declared.frames.Frame.TheVariants as frame_is
use Rattle.gl_verilog_grammar.specs.declared.frames.Stated.{Stated}
use Rattle.gl_verilog_grammar.specs.declared.frames.Stated.TheVariants as stated_is
use Rattle.gl_verilog_grammar.specs.declared.closing.Closed.{Closed}
use Rattle.gl_verilog_grammar.specs.declared.closing.Closed.TheVariants as closed_is
use Rattle.gl_verilog_grammar.specs.declared.stage.Sort.{Sort}
use Rattle.gl_verilog_grammar.specs.declared.stage.Sort.TheVariants as sort_is
use Rattle.gl_verilog_grammar.specs.declared.stage.Owner.{Owner}
use Rattle.gl_verilog_grammar.specs.declared.stage.Owner.TheVariants as owner_is
use Rattle.gl_verilog_grammar.specs.declared.stage.Plain.{Plain}
use Rattle.gl_verilog_grammar.specs.declared.stage.Plain.TheVariants as plain_is
use Rattle.gl_verilog_grammar.specs.declared.stage.Stage.{Stage}
use Rattle.gl_verilog_grammar.specs.declared.stage.Stage.TheVariants as stage_is
use Rattle.gl_verilog_grammar.specs.declared.stage.Role.{Role}
use Rattle.gl_verilog_grammar.specs.declared.stage.Role.TheVariants as role_name
use Rattle.gl_verilog_grammar.specs.declared.reading.Reading.{Reading}
use Rattle.gl_verilog_tokens.specs.View.{prefix_of, infix_of, expr_of, statement_of, name_of, names_of, range_of, direction_of, port_of, item_of}

-- what a sign does behind an operand, from the code's value
abbrev pub role_is : Role → machine.Role
role_is (role_name.IsInfix op) = machine.IsInfix (infix_of op)
role_is role_name.IsQuestion = machine.IsQuestion
role_is role_name.IsColon = machine.IsColon
role_is role_name.IsComma = machine.IsComma
role_is role_name.IsBrace = machine.IsBrace
role_is role_name.IsParen = machine.IsParen
role_is role_name.IsBracket = machine.IsBracket
role_is role_name.IsSemicolon = machine.IsSemicolon
role_is role_name.IsIndex = machine.IsIndex
role_is role_name.IsOther = machine.IsOther

-- what is open, from the code's frame
unfoldable pub frame_of : Frame → machine.Frame
frame_of frame_is.InParens = machine.InParens
frame_of (frame_is.InBraces at parts) = machine.InBraces (map expr_of parts.items)
frame_of (frame_is.InIndex name) = machine.InIndex (name_of name)
frame_of (frame_is.PrefixOf op at) = machine.PrefixOf (prefix_of op)
frame_of (frame_is.InfixOf op at left) = machine.InfixOf (infix_of op) (expr_of left.value)
frame_of (frame_is.TestOf at test) = machine.TestOf (expr_of test.value)
frame_of (frame_is.ColonOf at test yes') = machine.ColonOf (expr_of test.value) (expr_of yes'.value)
frame_of (frame_is.AssignTo target) = machine.AssignTo (name_of target)
frame_of (frame_is.UpdateTo target) = machine.UpdateTo (name_of target)
frame_of (frame_is.AddressFor target) = machine.AddressFor (name_of target)
frame_of (frame_is.UpdateWordTo target address) = machine.UpdateWordTo (name_of target) (expr_of address.value)
frame_of (frame_is.IfTest at) = machine.IfTest
frame_of (frame_is.ThenOf at test) = machine.ThenOf (expr_of test.value)
frame_of (frame_is.ElseOf at test yes') = machine.ElseOf (expr_of test.value) (statement_of yes'.value)
frame_of (frame_is.InBegin done) = machine.InBegin (map statement_of done.items)
frame_of (frame_is.BodyOf clock) = machine.BodyOf (name_of clock)

-- what a finished statement does, from the code's value
unfoldable pub stated_of : Stated → machine.Stated
stated_of (stated_is.InList done) = machine.InList (map statement_of done.items)
stated_of (stated_is.AsBody clock body) = machine.AsBody (written.Always (name_of clock) (statement_of body.value))
stated_of stated_is.Nowhere = machine.Nowhere

-- what a closed frame made, from the code's value
unfoldable pub closed_of : Closed → machine.Closed
closed_of (closed_is.AnOperand operand) = machine.AnOperand (expr_of operand.value)
closed_of (closed_is.ATest at test) = machine.ATest (expr_of test.value)
closed_of (closed_is.AnAddress target address) = machine.AnAddress (name_of target) (expr_of address.value)
closed_of (closed_is.AnAssignment target value) = machine.AnItem (written.Assign (name_of target) (expr_of value.value))
closed_of (closed_is.AnUpdate target value) = machine.AStatement (written.Update (name_of target) (expr_of value.value))
closed_of (closed_is.AWordUpdate target address value) =
    machine.AStatement (written.UpdateWord (name_of target) (expr_of address.value) (expr_of value.value))
closed_of (closed_is.AnotherPart at test yes') =
    machine.Further (machine.ColonOf (expr_of test.value) (expr_of yes'.value))
closed_of (closed_is.FurtherParts at parts) = machine.Further (machine.InBraces (map expr_of parts.items))
closed_of closed_is.Unclosed = machine.Unclosed

-- the open frames from the code's stack, the innermost first
abbrev pub frames_of : List Frame → List machine.Frame
frames_of frames = map frame_of (reverse frames)

-- what a list of names declares, from the code's value
abbrev pub sort_of : Sort → machine.Sort
sort_of sort_is.WireSort = machine.WireSort
sort_of sort_is.RegisterSort = machine.RegisterSort

-- what a range and a name belong to, from the code's value
abbrev pub owner_of : Owner → machine.Owner
owner_of (owner_is.OfPort direction) = machine.OfPort (direction_of direction)
owner_of (owner_is.OfItem sort) = machine.OfItem (sort_of sort)

-- what is wanted or was read last, for stages that hold no tree
unfoldable pub plain_of : Plain → machine.Stage
plain_of plain_is.WantModule = machine.WantModule
plain_of plain_is.WantTitle = machine.WantTitle
plain_of plain_is.WantPorts = machine.WantPorts
plain_of plain_is.WantPort = machine.WantPort
plain_of (plain_is.Declaring owner) = machine.Declaring (owner_of owner)
plain_of (plain_is.WantHigh owner) = machine.WantHigh (owner_of owner)
plain_of (plain_is.WantColon owner high) = machine.WantColon (owner_of owner) (name_of high)
plain_of (plain_is.WantZero owner high) = machine.WantZero (owner_of owner) (name_of high)
plain_of (plain_is.WantClose owner high) = machine.WantClose (owner_of owner) (name_of high)
plain_of (plain_is.WantName owner range) = machine.WantName (owner_of owner) (range_of range)
plain_of plain_is.AfterPort = machine.AfterPort
plain_of plain_is.AfterPorts = machine.AfterPorts
plain_of (plain_is.WantFirst range name) = machine.WantFirst (range_of range) (name_of name)
plain_of (plain_is.WantMemoryColon range name) = machine.WantMemoryColon (range_of range) (name_of name)
plain_of (plain_is.WantLast range name) = machine.WantLast (range_of range) (name_of name)
plain_of (plain_is.WantMemoryClose range name last) =
    machine.WantMemoryClose (range_of range) (name_of name) (name_of last)
plain_of (plain_is.WantMemoryEnd range name last) = machine.WantMemoryEnd (range_of range) (name_of name) (name_of last)
plain_of plain_is.WantItem = machine.WantItem
plain_of plain_is.WantAssigned = machine.WantAssigned
plain_of (plain_is.WantEquals target) = machine.WantEquals (name_of target)
plain_of plain_is.WantAt = machine.WantAt
plain_of plain_is.WantEdge = machine.WantEdge
plain_of plain_is.WantPosedge = machine.WantPosedge
plain_of plain_is.WantClock = machine.WantClock
plain_of (plain_is.WantEdgeEnd clock) = machine.WantEdgeEnd (name_of clock)
plain_of plain_is.WantStatement = machine.WantStatement
plain_of (plain_is.AfterTarget target) = machine.AfterTarget (name_of target)
plain_of (plain_is.WantTest at) = machine.WantTest
plain_of plain_is.WantOperand = machine.WantOperand
plain_of (plain_is.AtIndex name) = machine.AtIndex (name_of name)
plain_of (plain_is.AtPlace name place) = machine.AtPlace (name_of name) (name_of place)
plain_of (plain_is.WantLow name high) = machine.WantLow (name_of name) (name_of high)
plain_of (plain_is.AtPart name high low) = machine.AtPart (name_of name) (name_of high) (name_of low)
plain_of plain_is.Complete = machine.Complete

-- what is wanted or was read last, from the code's value
unfoldable pub stage_of : Stage → machine.Stage
stage_of (stage_is.Plain plain) = plain_of plain
stage_of (stage_is.AfterName sort range names) =
    machine.AfterName (sort_of sort) (range_of range) (names_of names.items)
stage_of (stage_is.WantMore sort range names) = machine.WantMore (sort_of sort) (range_of range) (names_of names.items)
stage_of (stage_is.WantArrow target address) = machine.WantArrow (name_of target) (expr_of address.value)
stage_of (stage_is.HaveStatement statement) = machine.HaveStatement (statement_of statement.value)
stage_of (stage_is.HaveOperand operand) = machine.HaveOperand (expr_of operand.value)

-- the state of reading, from the code's value
unfoldable pub view : Reading → machine.State
view r = record {
  name = name_of r.name;
  ports = map port_of r.ports.items;
  items = map item_of r.items.items;
  stage = stage_of r.stage;
  frames = frames_of r.frames.items;
}

-- a call answers whether the machine goes on, and then stands where the machine does
abbrev pub Moves : {E : Type 0} → Result Bool E → Option machine.State → machine.State → Type 0
Moves result next new = IfOk result (λ stands. MatchBool stands (next ≡ Some new) (next ≡ None))
