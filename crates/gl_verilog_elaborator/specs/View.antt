-- What the values stand for: rules, what is declared, and what is judged.
use Rattle.std.specs.Prelude.{◌≡◌, ℕ, Bool, true, false, List, map, Result, Ok, Err, MatchResult}
use Rattle.std.specs.Borrow.{Bor}
use Rattle.gl_verilog.specs.Module as spec
use Rattle.gl_verilog.specs.View as meant
use Rattle.gl_verilog_faults.specs.Demands as demands
use Rattle.gl_verilog_elaborator.specs.Judged as judged
use Rattle.gl_verilog_elaborator.specs.Elaborated as made
use Rattle.gl_verilog_elaborator.specs.declared.stop.Rule.{Rule}
use Rattle.gl_verilog_elaborator.specs.declared.stop.Rule.TheVariants as rule_is
use Rattle.gl_verilog_elaborator.specs.declared.stop.Stop.{Stop}
use Rattle.gl_verilog_elaborator.specs.declared.stop.Stop.TheVariants as stop_is
use Rattle.gl_verilog_elaborator.specs.declared.scope.Declared.{Declared}
use Rattle.gl_verilog_elaborator.specs.declared.scope.Scope.{Scope}
use Rattle.gl_verilog_elaborator.specs.declared.scope.Known.{Known}
use Rattle.gl_verilog_elaborator.specs.declared.expressions.Typed.{Typed}
use Rattle.gl_verilog_elaborator.specs.declared.drivers.Drivers.{Drivers}
use Rattle.gl_verilog_elaborator.specs.declared.statements.Stated.{Stated}
use Rattle.gl_verilog_elaborator.specs.declared.items.Elaborated.{Elaborated}

-- the rule that the code's value names
abbrev pub rule_of : Rule → demands.Rule
rule_of rule_is.Undeclared = demands.Undeclared
rule_of rule_is.TwiceDeclared = demands.TwiceDeclared
rule_of rule_is.TwiceDriven = demands.TwiceDriven
rule_of rule_is.NeverDriven = demands.NeverDriven
rule_of rule_is.WidthsDiffer = demands.WidthsDiffer
rule_of rule_is.Loop = demands.Loop
rule_of rule_is.BadMemory = demands.BadMemory
rule_of rule_is.ClockRead = demands.ClockRead
rule_of rule_is.TooWide = demands.TooWide
rule_of rule_is.BadTarget = demands.BadTarget

-- the code stopped at a broken rule, and not for want of memory
abbrev pub is_broken : Stop → Bool
is_broken stop_is.Memory = false
is_broken (stop_is.Broken rule token) = true

-- what is broken; for want of memory this says nothing
abbrev pub broken_of : Stop → judged.Broken
broken_of stop_is.Memory = record { rule = demands.Undeclared; token = 0 }
broken_of (stop_is.Broken rule token) = record { rule = rule_of rule; token = token }

-- a value is what is judged; and what is broken is what is judged to be, want of memory aside
abbrev pub Gives : {A B : Type 0} → (A → B) → Result B judged.Broken → Result A Stop → Type 0
Gives view said result =
    MatchResult result (λ x. said ≡ Ok (view x)) (λ e. is_broken e ≡ true → said ≡ Err (broken_of e))

-- ---- what is declared

-- the declaration that an entry of the code's table stands for
abbrev pub declared_as : (Bor (List ℕ)) × Declared → spec.Declaration
declared_as e = record { name = e.0.now; width = e.1.width; is_vector = e.1.is_vector; kind = meant.kind_of e.1.kind }

-- the declarations of the code's scope, in the order of their numbers
abbrev pub declarations_of : Scope → List spec.Declaration
declarations_of s = map declared_as s.names.entries

-- the tokens at which the names of the code's scope are declared
abbrev pub tokens_of : Scope → List ℕ
tokens_of s = map (λ e. e.1.token) s.names.entries

-- the scope that the code's value stands for
abbrev pub scope_of : Scope → made.Scope
scope_of s = made.scope (declarations_of s) (tokens_of s)

-- what is known of a name, from the code's value
abbrev pub known_of : Known → judged.Known
known_of k = record { number = k.number; width = k.width; is_vector = k.is_vector; kind = meant.kind_of k.kind }

-- ---- what is judged

-- the judged expression that the code's value stands for
abbrev pub typed_of : Typed → judged.Typed
typed_of t = judged.typed (meant.expr_of t.expr) t.width t.end

-- ---- what has a driver

-- the names that borrowed ones stand for
abbrev pub names_in : List (Bor (List ℕ)) → List (List ℕ)
names_in names = map (λ n. n.now) names

-- the driven names that the code's sets and list stand for
abbrev pub drivers_of : Drivers → judged.Drivers
drivers_of d =
    record {
      done = names_in d.done.keys;
      all = names_in d.all.keys;
      beside = names_in d.beside.keys;
      before = names_in d.before.items;
    }

-- the judged statement that the code's value stands for
abbrev pub stated_of : Drivers → Stated → judged.Stated
stated_of d s = judged.stated (meant.statement_of s.statement) s.end (drivers_of d)

-- ---- items

-- what is elaborated, from the code's value
abbrev pub elaborated_of : Elaborated → made.Elaborated
elaborated_of e = record {
  scope = scope_of e.scope;
  assignments = map meant.assignment_of e.assignments.items;
  targets = e.targets.items;
  blocks = map meant.statement_of e.blocks.items;
  drivers = drivers_of e.drivers;
  end = e.end;
}
