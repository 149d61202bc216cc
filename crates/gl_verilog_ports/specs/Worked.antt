-- Worked headers over a stream `s` with a column `v` of eight bits, and a parameter `floor` of eight bits: which ports
-- were found, or which one shows that they do not fit.
use Rattle.std.specs.Prelude.{◌≡◌, ℕ, zero, suc, true, List, [], ◌∷◌, ◌++◌, length, Some, None, Result, Ok, Err, codes}
use Rattle.gl_values.specs.declared.kind.Kind.TheVariants.{Unsigned}
use Rattle.gl_schema.specs.declared.schema.Schema.{Schema}
use Rattle.gl_verilog.specs.Module.{Module, Declaration, Kind, Input, OutputWire, OutputRegister}
use Rattle.gl_verilog_ports.specs.declared.fitting.Ports.{Ports}
use Rattle.gl_verilog_ports.specs.declared.fitting.Misfit.{Misfit}
use Rattle.gl_verilog_ports.specs.declared.fitting.Misfit.TheVariants.{Port, Lacks}
use Rattle.gl_verilog_ports.specs.Fit.{input_at, fit_of}

-- a schema of one stream `s` with one column `v` of eight bits, and of one parameter `floor` of eight bits
abbrev pub schema : Schema
schema = record {
  streams = record { name = codes "s"; columns = record { name = codes "v"; kind = Unsigned 8 } ∷ [] } ∷ [];
  parameters = record { name = codes "floor"; kind = Unsigned 8 } ∷ [];
}

-- a declared port of this kind, name and width
abbrev pub port : Kind → List ℕ → ℕ → Declaration
port kind name width = record { name = name; width = width; is_vector = true; kind = kind }

-- an input of this name and width
abbrev pub input : List ℕ → ℕ → Declaration
input name width = port Input name width

-- an output of this name and width
abbrev pub output : List ℕ → ℕ → Declaration
output name width = port OutputWire name width

-- a module with these ports
abbrev pub over : List Declaration → Module
over ports = record { name = codes "t"; ports = length ports; declarations = ports; assignments = []; blocks = [] }

-- which ports are found in a header over the schema, or the first that does not fit
abbrev pub fit : List Declaration → Result Ports Misfit
fit ports = fit_of (over ports) schema

-- the clock, and what shows a result with these columns
abbrev pub showing : List Declaration → List Declaration
showing columns = input (codes "clk") 1 ∷ output (codes "out__valid") 1 ∷ (columns ++ output (codes "out__eos") 1 ∷ [])

-- so many columns of one bit
abbrev pub letters : ℕ → List ℕ
letters zero = []
letters (suc n) = 99 ∷ letters n

-- this many output columns, each with a name of its own
abbrev pub columns : ℕ → List Declaration
columns zero = []
columns (suc n) = output (codes "out__" ++ letters (suc n)) 1 ∷ columns n

-- the clock, this stream, and no column
abbrev pub taking : List Declaration → List Declaration
taking stream = input (codes "clk") 1 ∷ (stream ++ output (codes "out__valid") 1 ∷ output (codes "out__eos") 1 ∷ [])

-- only what a result needs, the end at this number
abbrev pub plain : ℕ → Result Ports Misfit
plain end =
    Ok (record {
      clock = 0;
      reset = None;
      input_end = None;
      tick = None;
      valid = 1;
      end = end;
      group = None;
      queue = None;
    })

-- only what a result needs, behind one input, the valid line at this number
abbrev pub plain_behind : ℕ → Result Ports Misfit
plain_behind valid =
    Ok (record {
      clock = 0;
      reset = None;
      input_end = None;
      tick = None;
      valid = valid;
      end = suc valid;
      group = None;
      queue = None;
    })

-- every port of the profile
abbrev pub whole : List Declaration
whole =
    input (codes "rst") 1 ∷ input (codes "clk") 1 ∷ input (codes "in__s__valid") 1 ∷ input (codes "in__s__v") 8 ∷ input
    (codes "eos") 1
    ∷ input (codes "tick") 1 ∷ output (codes "fault__queue") 1 ∷ output (codes "out__n") 8 ∷ output (codes "out__eos") 1 ∷ port OutputRegister
    (codes "out__valid") 1
    ∷ output (codes "fault__group") 1 ∷ output (codes "debug") 100 ∷ []

-- what is found in worked headers, and which port is told as the first misfit
pub record WorkedPorts : Type 0 where
  pub all : fit whole ≡ Ok (record {
    clock = 1;
    reset = Some 0;
    input_end = Some 4;
    tick = Some 5;
    valid = 9;
    end = 8;
    group = Some 10;
    queue = Some 6;
  })
  pub fewest : fit (showing []) ≡ plain 2
  -- inputs
  pub valid_alone : fit (taking (input (codes "in__s__valid") 1 ∷ [])) ≡ Ok
      (record { clock = 0; reset = None; input_end = None; tick = None; valid = 2; end = 3; group = None; queue = None })
  pub wider_input : fit (taking (input (codes "in__s__valid") 1 ∷ input (codes "in__s__v") 9 ∷ [])) ≡ Err (Port 2)
  pub unknown_input : fit (taking (input (codes "in__s__w") 8 ∷ [])) ≡ Err (Port 1)
  pub unknown_stream : fit (taking (input (codes "in__r__valid") 1 ∷ [])) ≡ Err (Port 1)
  pub wide_reset : fit (taking (input (codes "rst") 2 ∷ [])) ≡ Err (Port 1)
  pub tick_alone : fit (taking (input (codes "tick") 1 ∷ [])) ≡ Ok
      (record { clock = 0; reset = None; input_end = None; tick = Some 1; valid = 2; end = 3; group = None; queue = None })
  pub wide_tick : fit (taking (input (codes "tick") 2 ∷ [])) ≡ Err (Port 1)
  pub parameter_alone : fit (taking (input (codes "set__floor") 8 ∷ [])) ≡ plain_behind 2
  pub wider_parameter : fit (taking (input (codes "set__floor") 9 ∷ [])) ≡ Err (Port 1)
  pub unknown_parameter : fit (taking (input (codes "set__cap") 8 ∷ [])) ≡ Err (Port 1)
  pub output_as_parameter : fit (showing (output (codes "set__floor") 3 ∷ [])) ≡ plain 3
  pub wide_clock : fit (input (codes "clk") 4 ∷ output (codes "out__valid") 1 ∷ output (codes "out__eos") 1 ∷ []) ≡ Err
      (Port 0)
  -- an output that is called as an input is no port of the profile
  pub output_as_input : fit (showing (output (codes "in__s__v") 3 ∷ [])) ≡ plain 3
  pub no_such_input : input_at (showing (output (codes "in__s__v") 3 ∷ [])) (codes "in__s__v") ≡ None
  pub output_as_reset : fit (showing (output (codes "rst") 1 ∷ output (codes "eos") 1 ∷ [])) ≡ plain 4
  -- lines
  pub wide_valid : fit (input (codes "clk") 1 ∷ output (codes "out__valid") 2 ∷ output (codes "out__eos") 1 ∷ []) ≡ Err
      (Port 1)
  pub end_as_input : fit (input (codes "clk") 1 ∷ output (codes "out__valid") 1 ∷ input (codes "out__eos") 1 ∷ []) ≡ Err
      (Port 2)
  pub wide_fault : fit (showing (output (codes "fault__queue") 2 ∷ [])) ≡ Err (Port 2)
  -- columns
  pub columns_32 : fit (showing (columns 32)) ≡ plain 34
  pub columns_33 : fit (showing (columns 33)) ≡ Err (Port 34)
  pub bits_64 : fit (showing (output (codes "out__n") 64 ∷ [])) ≡ plain 3
  pub bits_65 : fit (showing (output (codes "out__n") 65 ∷ [])) ≡ Err (Port 2)
  -- the first of two
  pub earlier : fit (showing (output (codes "out__n") 65 ∷ input (codes "x") 1 ∷ [])) ≡ Err (Port 2)
  -- what is lacking is told behind all ports
  pub no_clock : fit (output (codes "out__valid") 1 ∷ output (codes "out__eos") 1 ∷ []) ≡ Err Lacks
  pub output_as_clock : fit (output (codes "clk") 1 ∷ output (codes "out__valid") 1 ∷ output (codes "out__eos") 1 ∷ [])
      ≡ Err Lacks
  pub no_valid : fit (input (codes "clk") 1 ∷ output (codes "out__eos") 1 ∷ []) ≡ Err Lacks
  pub no_end : fit (input (codes "clk") 1 ∷ output (codes "out__valid") 1 ∷ []) ≡ Err Lacks
  pub bad_before_lacking : fit (output (codes "out__valid") 1 ∷ input (codes "x") 1 ∷ []) ≡ Err (Port 1)
