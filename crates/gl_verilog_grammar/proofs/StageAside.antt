-- A step goes by the stage that it is given, whatever stands in its place, and puts another there.
use Rattle.std.proofs.Common.{◌≡◌, ℕ, Bool, true, false, List, [], ◌∷◌, ◌++◌, Option, Some, None, refl}
use Rattle.std.specs.Prelude.{option_map, option_and_then, if◌then◌else◌}
use Rattle.gl_verilog.specs.Tokens.{Token, Reserved, Name, Number, Sized, Mark, IfWord, BeginWord, EndWord, ElseWord, OpenParen, CloseParen, OpenBracket, CloseBracket, OpenBrace, Semicolon, Comma, Colon, Equals, Tilde, Exclamation, LessEquals}
use Rattle.gl_verilog.specs.Written.{BitNot, LogicalNot, WrittenExpr, BitOf, PartOf, WrittenStatement, WrittenItem, MemoryOf, Range}
use Rattle.gl_verilog_grammar.specs.Machine as machine
use Rattle.gl_verilog_grammar.specs.Machine.{State, Frame, Stage, Owner, OfPort, OfItem, Sort, Open, Role, IsInfix, IsQuestion, IsColon, IsComma, IsBrace, IsParen, IsBracket, IsSemicolon, IsIndex, IsOther, role_of, Closed, AnOperand, ATest, AnAddress, AnItem, AStatement, Further, Unclosed, close_top, reduce, alone, Stated, InList, AsBody, Nowhere, stated, block_of, at_else, at_end, item_of, memory_stage, item_stage, next_stage, is_mark, is_word, name_in, expect, with_word}
use Rattle.gl_verilog_grammar.specs.Stages as stages

module _ (x : Stage) where
  -- another stage in a state's place
  abbrev aside : State → State
  aside s = record s { stage = x }

  go_aside : (o : Option Stage) (s : State) → machine.go o (aside s) ≡ machine.go o s
  go_aside None s = refl
  go_aside (Some next) s = refl

  title_aside : (o : Option (List ℕ)) (s : State) → option_and_then (machine.titled (aside s)) o ≡ option_and_then (machine.titled s) o
  title_aside None s = refl
  title_aside (Some n) s = refl

  named_aside : (o : Owner) (r : Range) (n : List ℕ) (s : State) → machine.named o r n (aside s) ≡ machine.named o r n s
  named_aside (OfPort d) r n s = refl
  named_aside (OfItem sort) r n s = refl

  name_aside : (o : Owner) (r : Range) (m : Option (List ℕ)) (s : State) → option_and_then (λ n. machine.named o r n (aside s)) m ≡ option_and_then (λ n. machine.named o r n s) m
  name_aside o r None s = refl
  name_aside o r (Some n) s = named_aside o r n s

  declaring_aside : (o : Owner) (s : State) (t : Token) → machine.declaring o (aside s) t ≡ machine.declaring o s t
  declaring_aside o s (Reserved w) = go_aside (option_map stages.Declaring (with_word o w)) s
  declaring_aside o s (Name n) = named_aside o None n s
  declaring_aside o s (Mark sign) = go_aside (expect (is_mark OpenBracket (Mark sign)) (stages.WantHigh o)) s
  declaring_aside o s t = refl

  item_aside : (b : Bool) (i : WrittenItem) (s : State) → machine.item_if b i (aside s) ≡ machine.item_if b i s
  item_aside true i s = refl
  item_aside false i s = refl

  push_aside : (b : Bool) (f : Frame) (s : State) → machine.push_if b f (aside s) ≡ machine.push_if b f s
  push_aside true f s = refl
  push_aside false f s = refl

  body_aside : (b : Bool) (clock : List ℕ) (s : State) → machine.body_if b clock (aside s) ≡ machine.body_if b clock s
  body_aside true clock s = refl
  body_aside false clock s = refl

  close_aside : (b : Bool) (e : WrittenExpr) (s : State) → machine.close_if b e (aside s) ≡ machine.close_if b e s
  close_aside true e s = refl
  close_aside false e s = refl

  list_aside : (b c d : Bool) (sort : Sort) (r : Range) (names : List (List ℕ)) (s : State)
      → (if b then machine.goto (aside s) (stages.WantMore sort r names) else (if c then machine.go (memory_stage sort r names) (aside s) else machine.item_if d (item_of sort r names) (aside s)))
      ≡ (if b then machine.goto s (stages.WantMore sort r names) else (if c then machine.go (memory_stage sort r names) s else machine.item_if d (item_of sort r names) s))
  list_aside true c d sort r names s = refl
  list_aside false true d sort r names s = go_aside (memory_stage sort r names) s
  list_aside false false d sort r names s = item_aside d (item_of sort r names) s

  more_aside : (m : Option (List ℕ)) (sort : Sort) (r : Range) (names : List (List ℕ)) (s : State) → option_and_then (λ n. machine.goto (aside s) (stages.AfterName sort r (names ++ n ∷ []))) m ≡ option_and_then (λ n. machine.goto s (stages.AfterName sort r (names ++ n ∷ []))) m
  more_aside None sort r names s = refl
  more_aside (Some n) sort r names s = refl

  block_aside : (o : Option WrittenStatement) (s : State) → machine.block_if o (aside s) ≡ machine.block_if o s
  block_aside None s = refl
  block_aside (Some st) s = refl

  end_aside : (fs : List Frame) (s : State) → machine.end_block fs (aside s) ≡ machine.end_block fs s
  end_aside [] s = refl
  end_aside (f ∷ fs) s = block_aside (block_of f) (record s { frames = fs })

  word_aside : (b c d : Bool) (s : State) → (if b then machine.goto (aside s) stages.WantTest else (if c then machine.begun (aside s) else (if d then machine.end_block s.frames (aside s) else None)))
      ≡ (if b then machine.goto s stages.WantTest else (if c then machine.begun s else (if d then machine.end_block s.frames s else None)))
  word_aside true c d s = refl
  word_aside false true d s = refl
  word_aside false false true s = end_aside s.frames s
  word_aside false false false s = refl

  statement_aside : (s : State) (t : Token) → machine.want_statement (aside s) t ≡ machine.want_statement s t
  statement_aside s (Name n) = refl
  statement_aside s (Reserved w) = word_aside (is_word IfWord (Reserved w)) (is_word BeginWord (Reserved w)) (is_word EndWord (Reserved w)) s
  statement_aside s t = refl

  target_aside : (b c : Bool) (n : List ℕ) (s : State) → (if b then machine.push (aside s) (stages.UpdateTo n) else machine.push_if c (stages.AddressFor n) (aside s)) ≡ (if b then machine.push s (stages.UpdateTo n) else machine.push_if c (stages.AddressFor n) s)
  target_aside true c n s = refl
  target_aside false c n s = push_aside c _ s

  else_aside : (o : Option (List Frame)) (s : State) → machine.after_else (aside s) o ≡ machine.after_else s o
  else_aside None s = refl
  else_aside (Some fs) s = refl

  stated_aside : (d : Stated) (fs : List Frame) (s : State) (t : Token) → machine.after_stated (aside s) fs d t ≡ machine.after_stated s fs d t
  stated_aside (InList done) fs s t = statement_aside (record s { frames = stages.InBegin done ∷ fs }) t
  stated_aside (AsBody item) fs s t = go_aside (item_stage t) (record s { items = s.items ++ item ∷ []; frames = fs })
  stated_aside Nowhere fs s t = refl

  after_aside : (fs : List Frame) (st : WrittenStatement) (s : State) (t : Token) → machine.after_statement (aside s) fs st t ≡ machine.after_statement s fs st t
  after_aside [] st s t = refl
  after_aside (f ∷ fs) st s t = stated_aside (stated f st) fs s t

  have_aside : (b : Bool) (st : WrittenStatement) (s : State) (t : Token) → (if b then machine.after_else (aside s) (at_else s.frames st) else machine.settled (aside s) (at_end s.frames st) t) ≡ (if b then machine.after_else s (at_else s.frames st) else machine.settled s (at_end s.frames st) t)
  have_aside true st s t = else_aside _ s
  have_aside false st s t = after_aside (at_end s.frames st).0 (at_end s.frames st).1 s t

  opening_by : (b c d e : Bool) (s : State) → (if b then machine.push (aside s) stages.InParens else (if c then machine.push (aside s) (stages.InBraces []) else (if d then machine.push (aside s) (stages.PrefixOf BitNot) else (if e then machine.push (aside s) (stages.PrefixOf LogicalNot) else None))))
      ≡ (if b then machine.push s stages.InParens else (if c then machine.push s (stages.InBraces []) else (if d then machine.push s (stages.PrefixOf BitNot) else (if e then machine.push s (stages.PrefixOf LogicalNot) else None))))
  opening_by true c d e s = refl
  opening_by false true d e s = refl
  opening_by false false true e s = refl
  opening_by false false false true s = refl
  opening_by false false false false s = refl

  operand_aside : (s : State) (t : Token) → machine.want_operand (aside s) t ≡ machine.want_operand s t
  operand_aside s (Name n) = refl
  operand_aside s (Sized size radix digits) = refl
  operand_aside s (Mark sign) = opening_by (is_mark OpenParen (Mark sign)) (is_mark OpenBrace (Mark sign)) (is_mark Tilde (Mark sign)) (is_mark Exclamation (Mark sign)) s
  operand_aside s t = refl

  closed_aside : (s : State) (fs : List Frame) (c : Closed) → machine.after_close (aside s) (fs, c) ≡ machine.after_close s (fs, c)
  closed_aside s fs (AnOperand e) = refl
  closed_aside s fs (ATest e) = refl
  closed_aside s fs (AnAddress n e) = refl
  closed_aside s fs (AnItem i) = refl
  closed_aside s fs (AStatement st) = refl
  closed_aside s fs (Further f) = refl
  closed_aside s fs Unclosed = refl

  close_by : (s : State) (p : Open Closed) → machine.after_close (aside s) p ≡ machine.after_close s p
  close_by s p = closed_aside s p.0 p.1

  index_aside : (o : Option (List ℕ)) (s : State) → machine.indexed_as o (aside s) ≡ machine.indexed_as o s
  index_aside None s = refl
  index_aside (Some n) s = refl

  role_aside : (r : Role) (e : WrittenExpr) (s : State) → machine.have_operand_by r e (aside s) ≡ machine.have_operand_by r e s
  role_aside (IsInfix op) e s = refl
  role_aside IsQuestion e s = refl
  role_aside IsColon e s = close_by s (close_top IsColon (reduce 11 s.frames e))
  role_aside IsComma e s = close_by s (close_top IsComma (reduce 11 s.frames e))
  role_aside IsBrace e s = close_by s (close_top IsBrace (reduce 11 s.frames e))
  role_aside IsParen e s = close_by s (close_top IsParen (reduce 11 s.frames e))
  role_aside IsBracket e s = close_by s (close_top IsBracket (reduce 11 s.frames e))
  role_aside IsSemicolon e s = close_by s (close_top IsSemicolon (reduce 11 s.frames e))
  role_aside IsIndex e s = index_aside (alone e) s
  role_aside IsOther e s = refl

  token_aside : (e : WrittenExpr) (s : State) (t : Token) → machine.have_operand e (aside s) t ≡ machine.have_operand e s t
  token_aside e s (Mark sign) = role_aside (role_of sign) e s
  token_aside e s t = refl

  at_index_aside : (n : List ℕ) (s : State) (t : Token) → machine.at_index n (aside s) t ≡ machine.at_index n s t
  at_index_aside n s (Number p) = refl
  at_index_aside n s (Mark sign) = operand_aside (record s { frames = stages.InIndex n ∷ s.frames }) (Mark sign)
  at_index_aside n s t = refl

  place_aside : (b c : Bool) (n p : List ℕ) (s : State) → (if b then machine.goto (aside s) (stages.WantLow n p) else machine.close_if c (BitOf n p) (aside s)) ≡ (if b then machine.goto s (stages.WantLow n p) else machine.close_if c (BitOf n p) s)
  place_aside true c n p s = refl
  place_aside false c n p s = close_aside c _ s

  pub stage_aside : (stage : Stage) (s : State) (t : Token) → machine.step_at stage (aside s) t ≡ machine.step_at stage s t
  stage_aside stages.WantTitle s t = title_aside (name_in t) s
  stage_aside (stages.Declaring o) s t = declaring_aside o s t
  stage_aside (stages.WantName o range) s t = name_aside o range (name_in t) s
  stage_aside (stages.AfterName sort range names) s t = list_aside (is_mark Comma t) (is_mark OpenBracket t) (is_mark Semicolon t) sort range names s
  stage_aside (stages.WantMore sort range names) s t = more_aside (name_in t) sort range names s
  stage_aside (stages.WantMemoryEnd range name last) s t = item_aside (is_mark Semicolon t) (MemoryOf range name last) s
  stage_aside (stages.WantEquals n) s t = push_aside (is_mark Equals t) _ s
  stage_aside (stages.WantEdgeEnd clock) s t = body_aside (is_mark CloseParen t) clock s
  stage_aside stages.WantStatement s t = statement_aside s t
  stage_aside (stages.AfterTarget n) s t = target_aside (is_mark LessEquals t) (is_mark OpenBracket t) n s
  stage_aside (stages.WantArrow n a) s t = push_aside (is_mark LessEquals t) _ s
  stage_aside stages.WantTest s t = push_aside (is_mark OpenParen t) _ s
  stage_aside (stages.HaveStatement st) s t = have_aside (is_word ElseWord t) st s t
  stage_aside stages.WantOperand s t = operand_aside s t
  stage_aside (stages.HaveOperand e) s t = token_aside e s t
  stage_aside (stages.AtIndex n) s t = at_index_aside n s t
  stage_aside (stages.AtPlace n p) s t = place_aside (is_mark Colon t) (is_mark CloseBracket t) n p s
  stage_aside (stages.AtPart n h l) s t = close_aside (is_mark CloseBracket t) (PartOf n h l) s
  stage_aside stage s t = go_aside (next_stage stage t) s
