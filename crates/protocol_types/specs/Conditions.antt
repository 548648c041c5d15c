-- What refuses a request: conditions 3, 4 and 22 (document 01, "Refused for what came in" and "Refused for how things stand").
use Rattle.std.specs.Prelude.{ℕ, ◌<◌, List, ltb}
use Rattle.protocol_types.specs.Lists.{Each}
use Rattle.protocol_types.specs.Refusals.{no_refusal, unless, no_such_processor, no_such_variable, account_full}
use Rattle.protocol_types.specs.Board.{variables}
use Rattle.protocol_types.specs.declared.Setup.{Setup}
use Rattle.protocol_types.specs.declared.Variable.{Variable}
use Rattle.protocol_types.specs.declared.Request.{Request}
use Rattle.protocol_types.specs.declared.Operation.{Operation}
use Rattle.protocol_types.specs.declared.Operation.TheVariants.{Read, Write, Clear}

-- ---- what a request names

-- the variable that the operation names is below M × p; a clear names none
abbrev pub Named : Setup → Operation → Type 0
Named s (Read v) = v.0 < variables s
Named s (Write v x) = v.0 < variables s
Named s Clear = Unit {0}

-- a request that 3 and 4 let through
pub record Valid (s : Setup) (q : Request) : Type 0 where
  pub processor : q.processor < s.processors
  pub operation : Named s q.operation

-- each of a list
abbrev pub AllValid : Setup → List Request → Type 0
AllValid s qs = Each (Valid s) qs

-- ---- 3, 4 and 22, in this order, where n requests have been taken

-- "1,000,000 requests"
abbrev pub request_limit : ℕ
request_limit = 1000000

-- 4, then n
unfoldable pub variable_refusal : Setup → Variable → ℕ → ℕ
variable_refusal s v n = unless (ltb v.0 (variables s)) no_such_variable n

-- of an operation; a clear "names no variable, so 4 … cannot apply" (document 02, P6)
abbrev pub named_refusal : Setup → Operation → ℕ → ℕ
named_refusal s (Read v) n = variable_refusal s v n
named_refusal s (Write v x) n = variable_refusal s v n
named_refusal s Clear n = n

unfoldable pub request_refusal : Setup → ℕ → Request → ℕ
request_refusal s n q =
    unless (ltb q.processor s.processors) no_such_processor
    (named_refusal s q.operation
    (unless (ltb n request_limit) account_full no_refusal))
