-- What is wrong with a text: the first fault, by cases.
use Rattle.std.specs.Prelude.{◌≡◌, ◌⊎◌, ℕ, true, false, List, [], ◌∷◌, ◌++◌, length}
use Rattle.gl_verilog.specs.Tokens.{Token, tokens_of, IsPlaceOf}
use Rattle.gl_verilog.specs.Written.{WrittenModule, IsWritten, spell}
use Rattle.gl_verilog.specs.Limits.{IsWithinLimits}
use Rattle.gl_verilog.specs.Module.{Module}
use Rattle.gl_verilog.specs.Text.{HasModule}
use Rattle.gl_verilog_faults.specs.Demands.{Rule, Loop, IsFirst, IsFirstLoop}
use Rattle.gl_verilog_faults.specs.Counts.{none_counted, keeps_limits}
use Rattle.gl_verilog_faults.specs.Marks.{Header, marks}

-- some written module's tokens begin so, limits aside
abbrev pub CanBegin : List Token → Type 0
CanBegin read = (w : WrittenModule) × (more : List Token) × IsWritten w × (spell w ≡ read ++ more)

-- the counts behind each of these first tokens keep the limits
abbrev pub KeepsFront : List Token → Type 0
KeepsFront read = keeps_limits none_counted (marks Header read) ≡ true

-- no module goes on with the next token, or, at the end, what was read is none
abbrev pub Stops : List Token → List Token → Type 0
Stops read [] = (w : WrittenModule) → IsWritten w → spell w ≡ read → ⊥
Stops read (t ∷ left) = CanBegin (read ++ t ∷ []) → ⊥

-- tokens that begin a module within the limits, and the place at which no module goes on as the text does
pub record IsSyntaxFault (text : List ℕ) (at : ℕ) : Type 0 where
  pub read : List Token
  pub left : List Token
  pub parts : tokens_of text ≡ read ++ left
  pub limits : KeepsFront read
  pub begins : CanBegin read
  pub stops : Stops read left
  pub place : IsPlaceOf text (length read) at

-- the first token with which a limit is passed, in a text that begins a module up to it
pub record IsDepthFault (text : List ℕ) (at : ℕ) : Type 0 where
  pub read : List Token
  pub deep : Token
  pub left : List Token
  pub parts : tokens_of text ≡ read ++ deep ∷ left
  pub limits : KeepsFront read
  pub past : keeps_limits none_counted (marks Header (read ++ deep ∷ [])) ≡ false
  pub begins : CanBegin (read ++ deep ∷ [])
  pub place : IsPlaceOf text (length read) at

-- the first demand that is not met, or, where all are met, the first loop
abbrev pub IsBroken : WrittenModule → Rule → ℕ → Type 0
IsBroken w rule token = IsFirst w rule token ⊎ ((rule ≡ Loop) × IsFirstLoop w token)

-- a text that is written by the grammar within the limits, and the first rule that it breaks
pub record IsJudgedFault (text : List ℕ) (rule : Rule) (at : ℕ) : Type 0 where
  pub written : WrittenModule
  pub spelled : tokens_of text ≡ spell written
  pub grammar : IsWritten written
  pub limits : IsWithinLimits written
  pub token : ℕ
  pub broken : IsBroken written rule token
  pub place : IsPlaceOf text token at

-- what is said of a text: its module, or a fault and its place
pub data Verdict : Type 0 where
  IsModule : (m : Module) → Verdict
  IsSyntax : (at : ℕ) → Verdict
  IsTooDeep : (at : ℕ) → Verdict
  Breaks : (rule : Rule) (at : ℕ) → Verdict

-- a verdict on a text is right: its module, a syntax fault, too great a depth, or a broken rule, with the place
abbrev pub IsVerdict : List ℕ → Verdict → Type 0
IsVerdict text (IsModule m) = HasModule text m
IsVerdict text (IsSyntax at) = IsSyntaxFault text at
IsVerdict text (IsTooDeep at) = IsDepthFault text at
IsVerdict text (Breaks rule at) = IsJudgedFault text rule at
